-- The lines of a journal's text.
use Rattle.std.specs.Prelude.{◌≡◌, ℕ, ◌==◌, ◌<◌, ◌≤◌, ◌^◌, List, [], ◌∷◌, ◌++◌, codes, length, map, take, if◌then◌else◌}
use Rattle.std.specs.Fmt.{decimal}
use Rattle.std.specs.List.{AllByRecursion}
use Rattle.board_rules.specs.Entries.{Step}
use Rattle.board_rules.specs.Keys.{IsKey, Key}
use Rattle.board_rules.specs.Legal.{AreLegal, journal_of}
use Rattle.board_rules.specs.declared.entry.Entry.{Entry}
use Rattle.board_rules.specs.declared.entry.Entry.TheVariants.{Claim, Finish}
use Rattle.board_rules.specs.declared.entry.ItemName.{ItemName}
use Rattle.board_rules.specs.declared.entry.ItemName.TheVariants.{Configure, Compile, Node}
use Rattle.quiescent_driver.specs.Journals.{entry_line, journal_text}
use Rattle.quiescent_driver.specs.Texts.{joined}

-- ---- lines

-- the lines with this byte before the first of them
abbrev pub begun_with : ℕ → List (List ℕ) → List (List ℕ)
begun_with byte [] = (byte ∷ []) ∷ []
begun_with byte (line ∷ rest) = (byte ∷ line) ∷ rest

-- the lines of a text, each with its line feed; what follows the last line feed is a line too, unless it is empty
abbrev pub lines : List ℕ → List (List ℕ)
lines [] = []
lines (byte ∷ text) = if byte == 10 then (byte ∷ []) ∷ lines text else begun_with byte (lines text)

-- two texts have n lines, and the same ones
pub record Shares (n : ℕ) (text other : List ℕ) : Type 0 where
  pub has : n ≤ length (lines text)
  pub other_has : n ≤ length (lines other)
  pub same : take n (lines text) ≡ take n (lines other)

-- ---- the lines of entries

-- each byte comes after the comma in ASCII, and so after the line feed
abbrev pub IsPlain : List ℕ → Type 0
IsPlain text = AllByRecursion (λ b. 44 < b) text

abbrev pub HasPlainPath : Entry → Type 0
HasPlainPath (Claim worker path item) = IsPlain path
HasPlainPath (Finish worker) = Unit {0}

abbrev pub HavePlainPaths : List Entry → Type 0
HavePlainPaths entries = AllByRecursion HasPlainPath entries

-- the lines of a journal's text, and what follows it, are those of its entries, and those of what follows
abbrev pub EntriesAreLines : Type 0
EntriesAreLines = (n : ℕ) (entries : List Entry) (text : List ℕ) → HavePlainPaths entries → lines (journal_text n entries ++ text) ≡ map (entry_line n) entries ++ lines text

-- paths are made of names, digits, `/` and `:`
abbrev pub JournalsHavePlainPaths : Type 0
JournalsHavePlainPaths = (key : Key) (taken : List Step) → IsKey key → AreLegal key taken → HavePlainPaths (journal_of key taken)

-- ---- how a line begins

-- a line of a claim, up to its path
abbrev pub claim_begin : ℕ → ℕ → List ℕ
claim_begin n worker = joined (codes "claim," ∷ decimal n ∷ codes "," ∷ decimal worker ∷ codes "," ∷ [])

-- as much of an entry's line as tells whose it is, and whether it is a claim
abbrev pub entry_begin : ℕ → Entry → List ℕ
entry_begin n (Claim worker path item) = claim_begin n worker
entry_begin n (Finish worker) = entry_line n (Finish worker)

abbrev pub LinesBegin : Type 0
LinesBegin = (n : ℕ) (entry : Entry) → (rest : List ℕ) × (entry_line n entry ≡ entry_begin n entry ++ rest)

-- both are claims, or both are finishes, of one worker
abbrev pub AreAlike : Entry → Entry → Type 0
AreAlike (Claim w path item) (Claim v other next) = w ≡ v
AreAlike (Claim w path item) (Finish v) = ⊥
AreAlike (Finish w) (Claim v path item) = ⊥
AreAlike (Finish w) (Finish v) = w ≡ v

abbrev pub number_of : ItemName → ℕ
number_of (Configure place) = place
number_of Compile = 0
number_of (Node node) = node

-- the entry's numbers have 32 bits
abbrev pub HasSmallNumbers : Entry → Type 0
HasSmallNumbers (Claim worker path item) = (worker < 2 ^ 32) × (number_of item < 2 ^ 32)
HasSmallNumbers (Finish worker) = worker < 2 ^ 32

abbrev pub HasSmallWorker : Entry → Type 0
HasSmallWorker (Claim worker path item) = worker < 2 ^ 32
HasSmallWorker (Finish worker) = worker < 2 ^ 32

-- texts that begin as the lines of two entries do, and are the same, tell one iteration, one worker, and one kind
abbrev pub BeginningsTell : Type 0
BeginningsTell =
    (n m : ℕ) (one other : Entry) (x y : List ℕ) → n < 2 ^ 32 → m < 2 ^ 32 → HasSmallWorker one → HasSmallWorker other →
    entry_begin n one ++ x ≡ entry_begin m other ++ y → (n ≡ m) × AreAlike one other

-- a line tells its entry
abbrev pub LinesTellEntries : Type 0
LinesTellEntries =
    (n m : ℕ) (one other : Entry) → n < 2 ^ 32 → m < 2 ^ 32 → HasSmallNumbers one → HasSmallNumbers other → HasPlainPath one → HasPlainPath other →
    entry_line n one ≡ entry_line m other → (n ≡ m) × (one ≡ other)
