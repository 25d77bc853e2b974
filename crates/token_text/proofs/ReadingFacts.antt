-- Reading a token file, record by record.
use Rattle.std.proofs.Common.{Bor, ◌≡◌, ◌≤◌, ◌+◌, ◌-◌, ◌∷◌, ◌++◌, [], ℕ, ℤ, List, Bool, true, false, cond, Option, None, Some, Result, Ok, Err, IfErr, length, map, unwrap_or, refl, sym, ap, subst, ◌∙◌, ◌⊎◌, inl, inr, arith, append_assoc}
use Rattle.std.proofs.lemmas.List.{length-append}
use Rattle.std.specs.Result.{IsErrAnd}
use Rattle.csv.proofs.ReadFacts.{rows-end, rows-more}
use Rattle.csv.specs.Reading.{ExplainsRead, Reached, ReadRecord, Ready, default_config, is_bom, is_flexible, records_from, source_of, strip_bom, took_first}
use Rattle.csv.specs.declared.error.ErrorKind.{ErrorKind}
use Rattle.csv.specs.declared.error.ErrorKind.TheVariants as kind
use Rattle.csv.specs.declared.parser.State.TheVariants as st
use Rattle.csv.specs.declared.reader.Reader.{Reader}
use Rattle.csv.specs.declared.reader.Trim.TheVariants as trim
use Rattle.token_text.specs.Records.{IsWant, Record, name_of, records_of}
use Rattle.token_text.specs.Streams.{fault_at, first_fault, read_of, streams_of, tokens_named}
use Rattle.token_text.specs.declared.fault.TokenFault.{TokenFault}
use Rattle.token_text.specs.declared.fault.TokenFault.TheVariants.{Memory}
use Rattle.token_text.proofs.RecordFacts.{reached-shrinks, records-begin, records-end}
use Rattle.token_text.proofs.StreamFacts.{first_fault-here, first_fault-more}

abbrev pub known : Bor (List ℕ) → Option (List ℕ)
known s = Some s.now

-- a reader of records of any length, from which so many rows were read without a fault
pub record IsReading (bytes : List ℕ) (names : List (List ℕ)) (reader : Reader (Bor (List ℕ))) (row : ℕ) (streams : List (Option (List ℤ))) : Type 0 where
  pub trims_none : reader.trim ≡ trim.None
  pub is_ready : Ready reader
  pub by_default : reader.config ≡ default_config
  pub any_length : reader.flexible ≡ true
  pub before : List Record
  pub left : List ℕ
  pub source : source_of known reader ≡ Some left
  pub reached : Reached default_config st.StartRecord (strip_bom bytes) before reader.state left
  pub rows : row ≡ length before
  pub given : streams ≡ map (tokens_named before) names
  pub sound : first_fault names [] 1 before ≡ None

-- the same, once one more record was read that is not taken in yet
pub record HasRead (bytes : List ℕ) (names : List (List ℕ)) (reader : Reader (Bor (List ℕ))) (row : ℕ) (streams : List (Option (List ℤ))) (r : Record) : Type 0 where
  pub trims_none : reader.trim ≡ trim.None
  pub is_ready : Ready reader
  pub by_default : reader.config ≡ default_config
  pub any_length : reader.flexible ≡ true
  pub before : List Record
  pub left : List ℕ
  pub source : source_of known reader ≡ Some left
  pub reached : Reached default_config st.StartRecord (strip_bom bytes) (before ++ r ∷ []) reader.state left
  pub rows : row ≡ length before
  pub given : streams ≡ map (tokens_named before) names
  pub sound : first_fault names [] 1 before ≡ None

pub has-read : (bytes : List ℕ) (names : List (List ℕ)) (a b : Reader (Bor (List ℕ))) (row : ℕ) (streams : List (Option (List ℤ))) (r : Record)
    → IsReading bytes names a row streams → ReadRecord known a b true r → took_first b ≡ true → is_flexible b ≡ is_flexible a → HasRead bytes names b row streams r
has-read bytes names a b row streams r h read first flexible =
    let more = rows-more known a b r default_config st.StartRecord (strip_bom bytes) h.left h.before h.by_default h.source h.reached read in
    record {
      trims_none = read.3 ∙ h.trims_none;
      is_ready = inl first;
      by_default = read.2 ∙ h.by_default;
      any_length = flexible ∙ h.any_length;
      before = h.before;
      left = more.0;
      source = more.1;
      reached = more.2;
      rows = h.rows;
      given = h.given;
      sound = h.sound;
    }

strip-shorter : (bytes : List ℕ) → length (strip_bom bytes) ≤ length bytes
unfolding strip_bom
strip-shorter [] = omega arith
strip-shorter (a ∷ []) = omega arith
strip-shorter (a ∷ b ∷ []) = omega arith
strip-shorter (a ∷ b ∷ c ∷ rest) = either (is_bom a b c)
  where
    either : (mark : Bool) → length (cond mark rest (a ∷ b ∷ c ∷ rest)) ≤ length (a ∷ b ∷ c ∷ rest)
    either true = omega arith
    either false = omega arith

-- there are no more rows than bytes
pub rows-fit : (bytes : List ℕ) (names : List (List ℕ)) (reader : Reader (Bor (List ℕ))) (row : ℕ) (streams : List (Option (List ℤ))) (r : Record)
    → HasRead bytes names reader row streams r → row + 1 ≤ length bytes
rows-fit bytes names reader row streams r h =
    let fits = reached-shrinks st.StartRecord reader.state (strip_bom bytes) h.left (h.before ++ r ∷ []) refl h.reached in
    omega (arith, fits.1, h.rows, strip-shorter bytes, length-append h.before (r ∷ []))

pub taken-in : (bytes : List ℕ) (names : List (List ℕ)) (reader : Reader (Bor (List ℕ))) (row : ℕ) (streams next : List (Option (List ℤ))) (r : Record)
    → (h : HasRead bytes names reader row streams r) → fault_at names (map name_of h.before) (row + 1) r ≡ None → next ≡ map (tokens_named (h.before ++ r ∷ [])) names
    → IsReading bytes names reader (row + 1) next
taken-in bytes names reader row streams next r h fine given = record {
  trims_none = h.trims_none;
  is_ready = h.is_ready;
  by_default = h.by_default;
  any_length = h.any_length;
  before = h.before ++ r ∷ [];
  left = h.left;
  source = h.source;
  reached = h.reached;
  rows = omega (arith, h.rows, length-append h.before (r ∷ []));
  given = given;
  sound = first_fault-more names h.before r h.sound (ap (λ n. fault_at names (map name_of h.before) (n + 1) r) (sym h.rows) ∙ fine);
}

with-fault : (bytes : List ℕ) (names : List (List ℕ)) (fault : TokenFault) → first_fault names [] 1 (records_of bytes) ≡ Some fault → read_of bytes names ≡ Err fault
with-fault bytes names fault e = rw e refl

with-none : (bytes : List ℕ) (names : List (List ℕ)) → first_fault names [] 1 (records_of bytes) ≡ None → read_of bytes names ≡ Ok (streams_of names (records_of bytes))
with-none bytes names e = rw e refl

one-after : (before rest : List Record) (r : Record) → (before ++ r ∷ []) ++ rest ≡ before ++ (r ∷ rest)
one-after before rest r = append_assoc before (r ∷ []) rest

pub at-fault : (bytes : List ℕ) (names : List (List ℕ)) (reader : Reader (Bor (List ℕ))) (row : ℕ) (streams : List (Option (List ℤ))) (r : Record) (fault : TokenFault)
    → (h : HasRead bytes names reader row streams r) → fault_at names (map name_of h.before) (row + 1) r ≡ Some fault → read_of bytes names ≡ Err fault
unfolding records_of
at-fault bytes names reader row streams r fault h here =
    let rest = records_from default_config (length (strip_bom bytes) + 1 - length (h.before ++ r ∷ [])) reader.state h.left in
    let all = records-begin (strip_bom bytes) h.left reader.state (h.before ++ r ∷ []) h.reached ∙ one-after h.before rest r in
    let numbered = ap (λ n. fault_at names (map name_of h.before) (n + 1) r) (sym h.rows) ∙ here in
    with-fault bytes names fault (ap (first_fault names [] 1) all ∙ first_fault-here names h.before r rest fault h.sound numbered)

-- what taking a row in answers is what reading the whole file answers
pub told-fault : (bytes : List ℕ) (names : List (List ℕ)) (reader : Reader (Bor (List ℕ))) (row : ℕ) (streams : List (Option (List ℤ))) (r : Record) (fault : TokenFault)
    → (h : HasRead bytes names reader row streams r) → (fault ≡ Memory) ⊎ (fault_at names (map name_of h.before) (row + 1) r ≡ Some fault)
    → (fault ≡ Memory) ⊎ (read_of bytes names ≡ Err fault)
told-fault bytes names reader row streams r fault h (inl memory) = inl memory
told-fault bytes names reader row streams r fault h (inr here) = inr (at-fault bytes names reader row streams r fault h here)

pub err-of : {T E : Type 0} (Q : E → Type 0) (e : E) (result : Result T E) → IsErrAnd result (λ x. x ≡ e) → Q e → IfErr result Q
err-of Q e (Ok x) is q = tt
err-of Q e (Err x) is q = subst Q (sym is) q

streams-are : (names : List (List ℕ)) (before : List Record) → streams_of names before ≡ map (λ name. unwrap_or (tokens_named before name) []) names
unfolding streams_of
streams-are names before = refl

map-twice : {A B C : Type 0} (f : A → B) (g : B → C) (xs : List A) → map g (map f xs) ≡ map (λ x. g (f x)) xs
map-twice f g [] = refl
map-twice f g (x ∷ xs) = ap (λ t. g (f x) ∷ t) (map-twice f g xs)

-- the streams of all records, where no row has a fault
pub all-read : (bytes : List ℕ) (names : List (List ℕ)) (before : List Record) (streams : List (Option (List ℤ))) → records_of bytes ≡ before → first_fault names [] 1 before ≡ None
    → streams ≡ map (tokens_named before) names → read_of bytes names ≡ Ok (map (λ stream. unwrap_or stream []) streams)
all-read bytes names before streams all sound given =
    with-none bytes names (ap (first_fault names [] 1) all ∙ sound)
    ∙ ap Ok (ap (streams_of names) all ∙ streams-are names before
    ∙ sym (map-twice (tokens_named before) (λ stream. unwrap_or stream []) names) ∙ ap (map (λ stream. unwrap_or stream [])) (sym given))

pub at-end : (bytes : List ℕ) (names : List (List ℕ)) (a b : Reader (Bor (List ℕ))) (row : ℕ) (streams : List (Option (List ℤ))) (r : Record)
    → IsReading bytes names a row streams → ReadRecord known a b false r → read_of bytes names ≡ Ok (map (λ stream. unwrap_or stream []) streams)
unfolding records_of
at-end bytes names a b row streams r h read =
    all-read bytes names h.before streams
    (records-end (strip_bom bytes) h.left a.state h.before h.reached (rows-end known a b r default_config h.left h.by_default h.source read)) h.sound h.given

-- a read of records of any length from bytes in memory fails for memory alone
pub only-want : (a b : Reader (Bor (List ℕ))) (k : ErrorKind) → a.flexible ≡ true → ExplainsRead known a b false k → IsWant k
only-want a b (kind.Io e) flexible h = tt
only-want a b kind.OutOfMemory flexible h = tt
only-want a b (kind.UnequalLengths at expected len) flexible h = let never : true ≡ false = sym flexible ∙ h.0 in absurd cc
only-want a b (kind.Utf8 at e) flexible h = let never : false ≡ true = h.0 in absurd cc
only-want a b (kind.Serialize text) flexible h = absurd h
only-want a b (kind.Deserialize at e) flexible h = absurd h
