-- What a pass knows, and what each call makes of it.
use Rattle.std.specs.Prelude.{◌≡◌, ◌≢◌, ℕ, ◌+◌, ◌<◌, ◌≤◌, nat_lt, true, ◌||◌, if◌then◌else◌, Option, Some, IfSome, List, [], ◌∷◌, ◌++◌, length, slice_index_or, take, drop, All, replicate}
use Rattle.atomic_table.specs.Seated.{TableId}
use Rattle.board_lock.specs.Meant.{Meant, entries_of, Begins}
use Rattle.board_lock.specs.declared.view.Known.{Known}

-- what contracts see of a pass: its lock, and what it knows
pub record PassView (K E P : Type 0) : Type 0 where
  pub lock : TableId
  pub known : Known K E P

-- what contracts see of a pass's turn at the lock: the lock, what the pass knows, and the state as it was found
pub record TurnView (S K E P : Type 0) : Type 0 where
  pub lock : TableId
  pub known : Known K E P
  pub found : Option S

-- the first list is longer by these entries
abbrev pub first_gains : {E : Type 0} → List (List E) → List E → List (List E)
first_gains [] added = []
first_gains (own ∷ others) added = (own ++ added) ∷ others

-- the first list is another
abbrev pub first_becomes : {P : Type 0} → List (List P) → List P → List (List P)
first_becomes [] places = []
first_becomes (old ∷ others) places = places ∷ others

module _ {S K E P : Type 0} (m : Meant S K E P) where
  -- nothing is lent to any number
  abbrev pub LendsNothing : S → Type 0
  LendsNothing x = (n : ℕ) → m.lent x n ≡ []

  -- what the pass with every number knows of a state at the start
  abbrev pub first_known : S → ℕ → Known K E P
  first_known x workers = record { key = Some (m.key x); opening = m.journal x; seen = m.journal x; over = m.over x; number = 0; own = replicate workers []; lent = replicate workers []; workers = workers }

  -- what is always true of what a pass knows
  pub record Sound (p : Known K E P) : Type 0 where
    -- the pass has a number
    pub some : 0 < length p.own
    -- its numbers are below `workers`
    pub below : p.number + length p.own ≤ p.workers
    -- each of them has a list of places
    pub lists : length p.lent ≡ length p.own
    -- what it has seen is the opening journal and more
    pub past : List E
    pub begun : p.seen ≡ p.opening ++ past
    -- of the entries after the opening journal, it has seen all own ones of its numbers
    pub mine : (k : ℕ) → k < length p.own → slice_index_or p.own k [] ≡ entries_of m.worker (p.number + k) past

  -- what is true where a pass finds a state
  pub record Finds (p : Known K E P) (x : S) : Type 0 where
    pub sound : Sound p
    -- its key is that of the start
    pub key : Some (m.key x) ≡ p.key
    -- its journal begins with what the pass has seen
    pub seen : Begins p.seen (m.journal x)
    -- its journal is the opening one and more
    pub tail : List E
    pub opening : m.journal x ≡ p.opening ++ tail
    -- after the opening journal, its entries of each number of the pass are that number's own
    pub own : (k : ℕ) → k < length p.own → slice_index_or p.own k [] ≡ entries_of m.worker (p.number + k) tail
    -- after the opening journal, it has entries of numbers below `workers` alone
    pub others : (n : ℕ) → p.workers ≤ n → entries_of m.worker n tail ≡ []
    -- its lent list of each number of the pass is the pass's
    pub lent : (k : ℕ) → k < length p.own → slice_index_or p.lent k [] ≡ m.lent x (p.number + k)
    -- it lends nothing to a number that isn't below `workers`
    pub unlent : (n : ℕ) → p.workers ≤ n → m.lent x n ≡ []
    -- it is over where the pass has seen it over
    pub over : p.over ≡ true → m.over x ≡ true

  -- the pass has seen this state's journal, and whether it is over
  abbrev pub seen_in : Known K E P → S → Known K E P
  seen_in p x = record p { seen = m.journal x; over = m.over x }

  -- the entries of a state that the pass hasn't seen
  abbrev pub unseen : Known K E P → S → List E
  unseen p x = drop (length p.seen) (m.journal x)

  -- what a state has to be for the pass to leave it, where it was found as another, which the pass has seen
  pub record MayLeave (p : Known K E P) (found : Option S) (x : S) : Type 0 where
    -- its key is as found
    pub key : Some (m.key x) ≡ p.key
    -- its journal is as found, or has more entries, all of the pass's number
    pub journal : m.journal x ≡ p.seen ++ unseen p x
    pub mine : All (λ e. m.worker e ≡ p.number) (unseen p x)
    -- the lent lists of all other numbers are as found
    pub lent : IfSome found (λ was. (n : ℕ) → n ≢ p.number → m.lent x n ≡ m.lent was n)
    -- it is over where it was found over
    pub over : p.over ≡ true → m.over x ≡ true

  -- the pass has left this state: the entries that it added are the last own ones of its number, and the lent list of its number is the state's
  abbrev pub known_after : Known K E P → S → Known K E P
  known_after p x = record p { seen = m.journal x; over = m.over x; own = first_gains p.own (unseen p x); lent = first_becomes p.lent (m.lent x p.number) }

-- of the first numbers
abbrev pub first_part : {K E P : Type 0} → ℕ → Known K E P → Known K E P
first_part at p = record p { own = take at p.own; lent = take at p.lent }

-- of the other numbers
abbrev pub second_part : {K E P : Type 0} → ℕ → Known K E P → Known K E P
second_part at p = record p { number = p.number + at; own = drop at p.own; lent = drop at p.lent }

-- of the numbers of both, with the longer journal seen, and over where one has seen it over
abbrev pub joined : {K E P : Type 0} → Known K E P → Known K E P → Known K E P
joined p q = record p { seen = if nat_lt (length p.seen) (length q.seen) then q.seen else p.seen; over = p.over || q.over; own = p.own ++ q.own; lent = p.lent ++ q.lent }

-- q is p some steps later: a pass of the same numbers and the same start, which has seen no less
pub record Later {K E P : Type 0} (p q : Known K E P) : Type 0 where
  pub key : q.key ≡ p.key
  pub opening : q.opening ≡ p.opening
  pub number : q.number ≡ p.number
  pub count : length q.own ≡ length p.own
  pub workers : q.workers ≡ p.workers
  pub seen : Begins p.seen q.seen
  pub over : p.over ≡ true → q.over ≡ true
