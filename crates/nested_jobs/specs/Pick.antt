-- The first two rules of the pick: an enabled item of an open job comes before one that opens a job, and of the items that open
-- a job those of the deeper open job come first. And the words of the rules after them.
use Rattle.std.specs.Prelude.{◌≡◌, ◌≢◌, ◌⊎◌, ℕ, ◌<◌, ◌≤◌, nat_lt, Bool, true, false, List, [], ◌∷◌, Option, Some, None, length, if◌then◌else◌}
use Rattle.nested_jobs.specs.Rules.{Place, Work, Call, Rules}
use Rattle.nested_jobs.specs.Marks.{Mark, Free, Busy, Open, Done, Marks, values}
use Rattle.nested_jobs.specs.Journals.{Entry, Claim, Finish, State, after}

abbrev pub outer_by : {J A : Type 0} → Place → Place → Mark J A → Place
outer_by a up Free = up
outer_by a up Busy = up
outer_by a up (Open job) = a
outer_by a up (Done answer) = up

-- the nearest open job on the way to a place
abbrev pub outer : {J A : Type 0} → Marks J A → Place → Place
outer m [] = []
outer m (i ∷ p) = outer_by (i ∷ p) (outer m p) (m (i ∷ p))

-- no item of an open job is enabled, and no job is to be opened under a deeper open job than on the way to this place
pub record Prefers {J W A : Type 0} (rs : Rules J W A) (m : Marks J A) (p : Place) : Type 0 where
  pub no_work : (q : Place) (c : J) → m q ≡ Open c → (i : ℕ) (work : W) → m (i ∷ q) ≡ Free → rs.rule c (values m q) i ≢ Some (Work work)
  pub no_deeper : (q : Place) (c : J) → m q ≡ Open c → length (outer m p) < length q → (i : ℕ) (d : J) → m (i ∷ q) ≡ Free → rs.rule c (values m q) i ≢ Some (Call d)

-- a claim of an item whose job isn't open, which opens jobs, keeps the two rules
abbrev pub IsPreferred : {J W A : Type 0} → Rules J W A → State J A → Entry A → Type 0
IsPreferred {J} {W} {A} rs s (Claim w []) = Unit {0}
IsPreferred {J} {W} {A} rs s (Claim w (i ∷ p)) = ((c : J) × (s.marks p ≡ Open c)) ⊎ Prefers rs s.marks p
IsPreferred {J} {W} {A} rs s (Finish w answer) = Unit {0}

-- each entry does, in the state that those before it leave
abbrev pub ArePreferredFrom : {J W A : Type 0} → Rules J W A → State J A → List (Entry A) → Type 0
ArePreferredFrom rs s [] = Unit {0}
ArePreferredFrom rs s (e ∷ es) = IsPreferred rs s e × ArePreferredFrom rs (after rs s e) es

-- this place is one of the others
abbrev pub IsIn : Place → List Place → Type 0
IsIn p [] = ⊥
IsIn p (q ∷ qs) = (q ≡ p) ⊎ IsIn p qs

-- this place isn't one of the others
abbrev pub NotIn : Place → List Place → Type 0
NotIn p [] = Unit {0}
NotIn p (q ∷ qs) = (p ≢ q) × NotIn p qs

abbrev pub Distinct : List Place → Type 0
Distinct [] = Unit {0}
Distinct (p ∷ ps) = NotIn p ps × Distinct ps

-- jobs are open at each of these places, all of this depth
abbrev pub AreOpen : {J A : Type 0} → Marks J A → ℕ → List Place → Type 0
AreOpen {J} {A} m e [] = Unit {0}
AreOpen {J} {A} m e (p ∷ ps) = (length p ≡ e) × ((j : J) × (m p ≡ Open j)) × AreOpen m e ps

-- at most so many jobs are open at each depth
abbrev pub Few : {J A : Type 0} → ℕ → Marks J A → Type 0
Few most m = (e : ℕ) (ps : List Place) → Distinct ps → AreOpen m e ps → length ps ≤ most

-- jobs are open at each of these places
abbrev pub AreAllOpen : {J A : Type 0} → Marks J A → List Place → Type 0
AreAllOpen {J} {A} m [] = Unit {0}
AreAllOpen {J} {A} m (p ∷ ps) = ((j : J) × (m p ≡ Open j)) × AreAllOpen m ps

-- ---- the order of items

-- goes first by one rule, or doesn't, and else by the rules after it
abbrev pub decide : (first second rest : Bool) → Bool
decide first second rest = if first then true else (if second then false else rest)

-- a greater priority; what has none goes before all that have one
abbrev pub is_more_urgent : Option ℕ → Option ℕ → Bool
is_more_urgent None None = false
is_more_urgent None (Some q) = true
is_more_urgent (Some p) None = false
is_more_urgent (Some p) (Some q) = nat_lt q p
