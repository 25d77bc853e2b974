-- The streams and the first fault, row by row.
use Rattle.std.proofs.Common.{◌≡◌, ◌≤◌, ◌<◌, ◌+◌, ◌||◌, ◌∷◌, ◌++◌, [], ℕ, zero, suc, ℤ, List, Bool, true, false, cond, Option, Some, None, option_map, length, map, take, drop, get_or, set, ◌⊎◌, inl, inr, Result, Ok, Err, OnOk, IfErr, IfNone, IfSome, refl, sym, ap, ◌∙◌, append_assoc, arith, add-one, add-zero, length-set}
use Rattle.std.proofs.lemmas.Bool.{cases_Bool, cases_lt, or_from, or_left, or_right}
use Rattle.std.proofs.lemmas.List.{append-nil}
use Rattle.std.proofs.lemmas.List.Folds.{find-append}
use Rattle.std.proofs.lemmas.Slice.Eq.{bytes_eq-Decides}
use Rattle.std.specs.List.{find, position_from}
use Rattle.std.specs.Option.{is_some, option_or}
use Rattle.std.specs.Str.{bytes_eq}
use Rattle.token_text.specs.Records.{Record, name_of}
use Rattle.token_text.specs.Streams.{fault_at, first_fault, is_among, number_fault, tokens_named, tokens_of, with_tokens}
use Rattle.token_text.specs.declared.fault.TokenFault.{TokenFault}
use Rattle.token_text.specs.declared.fault.TokenFault.TheVariants.{Name, Repeated}

-- ---- lists

-- a list of which the first i elements are mapped by g, and the others by f
abbrev pub half_mapped : {A B : Type 0} → (A → B) → (A → B) → List A → ℕ → List B
half_mapped f g xs i = map g (take i xs) ++ map f (drop i xs)

pub half_mapped-none : {A B : Type 0} (f g : A → B) (xs : List A) → half_mapped f g xs 0 ≡ map f xs
half_mapped-none f g [] = refl
half_mapped-none f g (x ∷ xs) = refl

pub half_mapped-all : {A B : Type 0} (f g : A → B) (xs : List A) (n : ℕ) → length xs ≤ n → half_mapped f g xs n ≡ map g xs
half_mapped-all f g [] zero h = refl
half_mapped-all f g [] (suc n) h = refl
half_mapped-all f g (x ∷ xs) zero h = absurd (omega arith)
half_mapped-all f g (x ∷ xs) (suc n) h = ap (λ t. g x ∷ t) (half_mapped-all f g xs n (omega arith))

pub half_mapped-set : {A B : Type 0} (f g : A → B) (xs : List A) (i : ℕ) (d : A) (v : B) → i < length xs → g (get_or xs i d) ≡ v
    → set (half_mapped f g xs i) i v ≡ half_mapped f g xs (suc i)
half_mapped-set f g [] i d v h e = absurd (omega arith)
half_mapped-set f g (x ∷ xs) zero d v h e = ap (λ t. t ∷ map f xs) (sym e)
half_mapped-set f g (x ∷ xs) (suc i) d v h e = ap (λ t. g x ∷ t) (half_mapped-set f g xs i d v (omega arith) e)

pub half_mapped-same : {A B : Type 0} (f g : A → B) (xs : List A) (i : ℕ) (d : A) → i < length xs → g (get_or xs i d) ≡ f (get_or xs i d)
    → half_mapped f g xs i ≡ half_mapped f g xs (suc i)
half_mapped-same f g [] i d h e = absurd (omega arith)
half_mapped-same f g (x ∷ xs) zero d h e = ap (λ t. t ∷ map f xs) (sym e)
half_mapped-same f g (x ∷ xs) (suc i) d h e = ap (λ t. g x ∷ t) (half_mapped-same f g xs i d (omega arith) e)

pub map-same : {A B : Type 0} (f g : A → B) (xs : List A) → ((x : A) → f x ≡ g x) → map f xs ≡ map g xs
map-same f g [] h = refl
map-same f g (x ∷ xs) h = ap (λ t. t ∷ map f xs) (h x) ∙ ap (λ t. g x ∷ t) (map-same f g xs h)

-- ---- names

cond-none : {A : Type 0} (b : Bool) (x : A) (o : Option A) → cond b (Some x) o ≡ None → (b ≡ false) × (o ≡ None)
cond-none true x o e = cc e
cond-none false x o e = (refl, e)

cond-some : {A : Type 0} (b : Bool) (x p : A) (o : Option A) → cond b (Some x) o ≡ Some p → ((b ≡ true) × (x ≡ p)) ⊎ ((b ≡ false) × (o ≡ Some p))
cond-some true x p o e = inl (refl, cc e)
cond-some false x p o e = inr (refl, e)

pub place-none : (names : List (List ℕ)) (name : List ℕ) (i : ℕ) → position_from (λ other. bytes_eq other name) i names ≡ None → is_among names name ≡ false
place-none [] name i e = refl
place-none (x ∷ xs) name i e =
    let h = cond-none (bytes_eq x name) i (position_from (λ other. bytes_eq other name) (i + 1) xs) e in
    or_from (bytes_eq x name) (is_among xs name) h.0 (place-none xs name (i + 1) h.1)

pub same-bytes : (xs ys : List ℕ) → bytes_eq xs ys ≡ true → xs ≡ ys
same-bytes xs ys = (bytes_eq-Decides xs ys).0

pub bytes-same : (xs ys : List ℕ) → xs ≡ ys → bytes_eq xs ys ≡ true
bytes-same xs ys = (bytes_eq-Decides xs ys).1

-- a name of a list, and a place where it stands
pub record IsFoundAt (names : List (List ℕ)) (name : List ℕ) (place : ℕ) : Type 0 where
  pub among : is_among names name ≡ true
  pub within : place < length names
  pub same : get_or names place [] ≡ name

found-here : (x : List ℕ) (xs : List (List ℕ)) (name : List ℕ) → bytes_eq x name ≡ true → IsFoundAt (x ∷ xs) name 0
found-here x xs name e = record {
  among = or_left (bytes_eq x name) (is_among xs name) e;
  within = omega arith;
  same = same-bytes x name e;
}

found-later : (x : List ℕ) (xs : List (List ℕ)) (name : List ℕ) (place : ℕ) → IsFoundAt xs name place → IsFoundAt (x ∷ xs) name (suc place)
found-later x xs name place h = record {
  among = or_right (bytes_eq x name) (is_among xs name) h.among;
  within = omega (arith, h.within);
  same = h.same;
}

found-from : (names : List (List ℕ)) (name : List ℕ) (i p : ℕ) → position_from (λ other. bytes_eq other name) i names ≡ Some p
    → (k : ℕ) × (p ≡ i + k) × IsFoundAt names name k
found-from [] name i p e = cc e
found-from (x ∷ xs) name i p e =
    elim (cond-some (bytes_eq x name) i p (position_from (λ other. bytes_eq other name) (i + 1) xs) e) [
      | inl h ↦ (0, omega (arith, h.1), found-here x xs name h.0)
      | inr h ↦ let later = found-from xs name (i + 1) p h.1 in (suc later.0, omega (arith, later.1), found-later x xs name later.0 later.2)
    ]

at-place : (names : List (List ℕ)) (name : List ℕ) (p k : ℕ) → p ≡ 0 + k → IsFoundAt names name k → IsFoundAt names name p
at-place names name p k e h = let same : p ≡ k = omega (arith, e) in rw same h

pub place-found : (names : List (List ℕ)) (name : List ℕ) (p : ℕ) → position_from (λ other. bytes_eq other name) 0 names ≡ Some p → IsFoundAt names name p
place-found names name p e = let h = found-from names name 0 p e in at-place names name p h.0 h.1 h.2

-- ---- streams

some_tokens : (b : Bool) (r : Record) (o : Option Record) (x : Bool) → is_some (option_map tokens_of o) ≡ x → is_some (option_map tokens_of (cond b (Some r) o)) ≡ b || x
some_tokens true r o x e = refl
some_tokens false r o x e = e

-- a name has tokens exactly where a row before has it
pub seen-before : (before : List Record) (name : List ℕ) → is_some (tokens_named before name) ≡ is_among (map name_of before) name
seen-before [] name = refl
seen-before (r ∷ rest) name =
    some_tokens (bytes_eq (name_of r) name) r (find (λ fields. bytes_eq (name_of fields) name) rest) (is_among (map name_of rest) name) (seen-before rest name)

unseen : (o : Option Record) → is_some (option_map tokens_of o) ≡ false → o ≡ None
unseen None e = refl
unseen (Some r) e = cc e

after_row : (b c : Bool) (o : Option Record) (r : Record) → (b ≡ true → (c ≡ true) × (o ≡ None)) → (b ≡ false → c ≡ false)
    → cond b (Some (tokens_of r)) (option_map tokens_of o) ≡ option_map tokens_of (option_or o (cond c (Some r) None))
after_row true c o r here other = let h = here refl in rw (h.0, h.1) refl
after_row false c None r here other = rw (other refl) refl
after_row false c (Some x) r here other = refl

not-same : (xs ys : List ℕ) → bytes_eq xs ys ≡ false → bytes_eq ys xs ≡ false
not-same xs ys e =
    elim (cases_Bool (bytes_eq ys xs)) [
      | inl h ↦ let same = bytes-same xs ys (sym (same-bytes ys xs h)) in let no : false ≡ true = sym e ∙ same in absurd cc
      | inr h ↦ h
    ]

-- one more row gives its name its tokens
pub tokens_named-more : (before : List Record) (r : Record) (name : List ℕ) → is_among (map name_of before) (name_of r) ≡ false
    → with_tokens (tokens_named before) (name_of r) (tokens_of r) name ≡ tokens_named (before ++ r ∷ []) name
tokens_named-more before r name new =
    after_row (bytes_eq name (name_of r)) (bytes_eq (name_of r) name) (find (λ fields. bytes_eq (name_of fields) name) before) r
    (λ e. let same = same-bytes name (name_of r) e in (
      bytes-same (name_of r) name (sym same),
      unseen (find (λ fields. bytes_eq (name_of fields) name) before) (seen-before before name ∙ ap (is_among (map name_of before)) same ∙ new),
    ))
    (λ e. not-same name (name_of r) e)
    ∙ ap (option_map tokens_of) (sym (find-append (λ fields. bytes_eq (name_of fields) name) before (r ∷ [])))

pub streams-more : (names : List (List ℕ)) (before : List Record) (r : Record) → is_among (map name_of before) (name_of r) ≡ false
    → map (with_tokens (tokens_named before) (name_of r) (tokens_of r)) names ≡ map (tokens_named (before ++ r ∷ [])) names
streams-more names before r new =
    map-same (with_tokens (tokens_named before) (name_of r) (tokens_of r)) (tokens_named (before ++ r ∷ [])) names (λ name. tokens_named-more before r name new)

-- ---- faults

pub fault-name : (names earlier : List (List ℕ)) (row : ℕ) (r : Record) → is_among names (name_of r) ≡ false → fault_at names earlier row r ≡ Some (Name row)
fault-name names earlier row r e = rw e refl

pub fault-repeated : (names earlier : List (List ℕ)) (row : ℕ) (r : Record) → is_among names (name_of r) ≡ true → is_among earlier (name_of r) ≡ true
    → fault_at names earlier row r ≡ Some (Repeated row)
fault-repeated names earlier row r e h = rw (e, h) refl

pub fault-number : (names earlier : List (List ℕ)) (row : ℕ) (r : Record) → is_among names (name_of r) ≡ true → is_among earlier (name_of r) ≡ false
    → fault_at names earlier row r ≡ number_fault row r
fault-number names earlier row r e h = rw (e, h) refl

option_or-none : {A : Type 0} (a b : Option A) → option_or a b ≡ None → (a ≡ None) × (b ≡ None)
option_or-none None b e = (refl, e)
option_or-none (Some x) b e = cc e

-- after rows without a fault, the first fault is that of the rows after them
first_fault-after : (names earlier : List (List ℕ)) (row : ℕ) (before rest : List Record) → first_fault names earlier row before ≡ None
    → first_fault names earlier row (before ++ rest) ≡ first_fault names (earlier ++ map name_of before) (row + length before) rest
unfolding first_fault
first_fault-after names earlier row [] rest e = rw (append-nil earlier, add-zero row) refl
first_fault-after names earlier row (r ∷ before) rest e =
    let parts = option_or-none (fault_at names earlier row r) (first_fault names (earlier ++ name_of r ∷ []) (row + 1) before) e in
    let size : row + 1 + length before ≡ row + length (r ∷ before) = omega arith in
    rw parts.0 (first_fault-after names (earlier ++ name_of r ∷ []) (row + 1) before rest parts.1
    ∙ ap (λ t. first_fault names t (row + 1 + length before) rest) (append_assoc earlier (name_of r ∷ []) (map name_of before))
    ∙ ap (λ n. first_fault names (earlier ++ (name_of r ∷ map name_of before)) n rest) size)

one-row : (names earlier : List (List ℕ)) (row : ℕ) (r : Record) (rest : List Record)
    → first_fault names earlier row (r ∷ rest) ≡ option_or (fault_at names earlier row r) (first_fault names (earlier ++ name_of r ∷ []) (row + 1) rest)
unfolding first_fault
one-row names earlier row r rest = refl

no_rows : (names earlier : List (List ℕ)) (row : ℕ) → first_fault names earlier row [] ≡ None
unfolding first_fault
no_rows names earlier row = refl

pub first_fault-none : (names : List (List ℕ)) → first_fault names [] 1 [] ≡ None
first_fault-none names = no_rows names [] 1

row-number : (n : ℕ) → 1 + n ≡ n + 1
row-number n = omega arith

after-rows : (names : List (List ℕ)) (before : List Record) (r : Record) (rest : List Record) → first_fault names [] 1 before ≡ None
    → first_fault names [] 1 (before ++ (r ∷ rest))
    ≡ option_or (fault_at names (map name_of before) (length before + 1) r) (first_fault names (map name_of before ++ name_of r ∷ []) (length before + 1 + 1) rest)
after-rows names before r rest e =
    first_fault-after names [] 1 before (r ∷ rest) e
    ∙ ap (λ n. first_fault names (map name_of before) n (r ∷ rest)) (row-number (length before))
    ∙ one-row names (map name_of before) (length before + 1) r rest

pub first_fault-more : (names : List (List ℕ)) (before : List Record) (r : Record) → first_fault names [] 1 before ≡ None
    → fault_at names (map name_of before) (length before + 1) r ≡ None → first_fault names [] 1 (before ++ r ∷ []) ≡ None
first_fault-more names before r e none =
    after-rows names before r [] e ∙ rw (none, no_rows names (map name_of before ++ name_of r ∷ []) (length before + 1 + 1)) refl

pub first_fault-here : (names : List (List ℕ)) (before : List Record) (r : Record) (rest : List Record) (fault : TokenFault) → first_fault names [] 1 before ≡ None
    → fault_at names (map name_of before) (length before + 1) r ≡ Some fault → first_fault names [] 1 (before ++ (r ∷ rest)) ≡ Some fault
first_fault-here names before r rest fault e here = after-rows names before r rest e ∙ rw here refl

-- ---- one row among the streams

pub none-among : (names : List (List ℕ)) (name : List ℕ) (o : Option ℕ) → o ≡ position_from (λ other. bytes_eq other name) 0 names
    → IfNone o (is_among names name ≡ false)
none-among names name None e = place-none names name 0 (sym e)
none-among names name (Some p) e = tt

pub some-among : (names : List (List ℕ)) (name : List ℕ) (o : Option ℕ) → o ≡ position_from (λ other. bytes_eq other name) 0 names
    → IfSome o (λ place. (is_among names name ≡ true) × (place < length names) × (get_or names place [] ≡ name))
some-among names name None e = tt
some-among names name (Some p) e = let h = place-found names name p (sym e) in (h.among, h.within, h.same)

mapped-at : {A B : Type 0} (f : A → B) (xs : List A) (i : ℕ) (d : A) (e : B) → i < length xs → get_or (map f xs) i e ≡ f (get_or xs i d)
mapped-at f [] i d e h = absurd (omega arith)
mapped-at f (x ∷ xs) zero d e h = refl
mapped-at f (x ∷ xs) (suc i) d e h = mapped-at f xs i d e (omega arith)

-- a place that is there reads the same, whatever would be read past the end
pub same-read : {A : Type 0} (xs : List A) (i : ℕ) (d e : A) → i < length xs → get_or xs i d ≡ get_or xs i e
same-read [] i d e h = absurd (omega arith)
same-read (x ∷ xs) zero d e h = refl
same-read (x ∷ xs) (suc i) d e h = same-read xs i d e (omega arith)

-- the stream at a place of a name has tokens exactly where a row before has the name
pub seen-at : (names : List (List ℕ)) (before : List Record) (name : List ℕ) (place : ℕ) (streams : List (Option (List ℤ))) (stream : Option (List ℤ)) (seen : Bool)
    → streams ≡ map (tokens_named before) names → place < length names → get_or names place [] ≡ name → stream ≡ get_or streams place stream
    → is_some (get_or streams place stream) ≡ seen → is_among (map name_of before) name ≡ seen
seen-at names before name place streams stream seen all within same is has =
    let at : stream ≡ tokens_named before name =
    is ∙ ap (λ t. get_or t place stream) all ∙ mapped-at (tokens_named before) names place [] stream within ∙ ap (tokens_named before) same in
    sym (seen-before before name) ∙ ap is_some (sym at ∙ is) ∙ has

-- the streams once a row gave its tokens to each of its places below i
pub record IsGivenTo (old : List (Option (List ℤ))) (names : List (List ℕ)) (row : ℕ) (r : Record) (i : ℕ) (streams : List (Option (List ℤ))) : Type 0 where
  pub size : length streams ≡ length names
  pub given : (f : List ℕ → Option (List ℤ)) → old ≡ map f names → streams ≡ half_mapped f (with_tokens f (name_of r) (tokens_of r)) names i
  pub whole : (place : ℕ) → place < i → get_or names place [] ≡ name_of r → number_fault row r ≡ None

pub given-start : (old : List (Option (List ℤ))) (names : List (List ℕ)) (row : ℕ) (r : Record) → length old ≡ length names → IsGivenTo old names row r 0 old
given-start old names row r e = record {
  size = e;
  given = λ f all. all ∙ sym (half_mapped-none f (with_tokens f (name_of r) (tokens_of r)) names);
  whole = λ place h same. absurd (omega arith);
}

pub here-given : (f : List ℕ → Option (List ℤ)) (name other : List ℕ) (tokens : List ℤ) → bytes_eq other name ≡ true → with_tokens f name tokens other ≡ Some tokens
here-given f name other tokens e = rw e refl

pub not-given : (f : List ℕ → Option (List ℤ)) (name other : List ℕ) (tokens : List ℤ) → bytes_eq other name ≡ false → with_tokens f name tokens other ≡ f other
not-given f name other tokens e = rw e refl

pub given-more : (old : List (Option (List ℤ))) (names : List (List ℕ)) (row : ℕ) (r : Record) (i : ℕ) (streams next : List (Option (List ℤ))) (tokens : List ℤ)
    → IsGivenTo old names row r i streams → i < length names → bytes_eq (get_or names i []) (name_of r) ≡ true → number_fault row r ≡ None → tokens ≡ tokens_of r
    → next ≡ set streams i (Some tokens) → IsGivenTo old names row r (i + 1) next
given-more old names row r i streams next tokens h within same fine are grown = record {
  size = ap length grown ∙ length-set streams i (Some tokens) ∙ h.size;
  given = λ f all.
      let g = with_tokens f (name_of r) (tokens_of r) in
      grown ∙ ap (λ t. set t i (Some tokens)) (h.given f all)
      ∙ half_mapped-set f g names i [] (Some tokens) within (here-given f (name_of r) (get_or names i []) (tokens_of r) same ∙ ap Some (sym are))
      ∙ ap (half_mapped f g names) (sym (add-one i));
  whole = λ place below name. fine;
}

pub given-skip : (old : List (Option (List ℤ))) (names : List (List ℕ)) (row : ℕ) (r : Record) (i : ℕ) (streams next : List (Option (List ℤ)))
    → IsGivenTo old names row r i streams → i < length names → bytes_eq (get_or names i []) (name_of r) ≡ false
    → next ≡ streams → IsGivenTo old names row r (i + 1) next
given-skip old names row r i streams next h within differs same = record {
  size = ap length same ∙ h.size;
  given = λ f all.
      let g = with_tokens f (name_of r) (tokens_of r) in
      same ∙ h.given f all
      ∙ half_mapped-same f g names i [] within (not-given f (name_of r) (get_or names i []) (tokens_of r) differs)
      ∙ ap (half_mapped f g names) (sym (add-one i));
  whole = λ place below name. elim (cases_lt place i) [
    | inl lt ↦ h.whole place lt name
    | inr ge ↦
        let here : place ≡ i = omega arith in
        let hit = bytes-same (get_or names i []) (name_of r) (ap (λ k. get_or names k []) (sym here) ∙ name) in
        let no : false ≡ true = sym differs ∙ hit in
        absurd cc
  ];
}

pub given-end : (old : List (Option (List ℤ))) (names : List (List ℕ)) (row : ℕ) (r : Record) (i : ℕ) (streams : List (Option (List ℤ))) → IsGivenTo old names row r i streams
    → length names ≤ i → (f : List ℕ → Option (List ℤ)) → old ≡ map f names → streams ≡ map (with_tokens f (name_of r) (tokens_of r)) names
given-end old names row r i streams h all f e =
    h.given f e ∙ half_mapped-all f (with_tokens f (name_of r) (tokens_of r)) names i all

-- ---- results

pub OnOk-both : {T E : Type 0} (P Q S : Type 0) (result : Result T E) → (P → Q → S) → OnOk result P → OnOk result Q → OnOk result S
OnOk-both P Q S (Ok x) f p q = f p q
OnOk-both P Q S (Err e) f p q = tt

pub IfErr-weaker : {T E : Type 0} (P Q : E → Type 0) (result : Result T E) → ((e : E) → P e → Q e) → IfErr result P → IfErr result Q
IfErr-weaker P Q (Ok x) f p = tt
IfErr-weaker P Q (Err e) f p = f e p
