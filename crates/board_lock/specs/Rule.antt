-- What always holds of the lock's word, its slot and all views.
use Rattle.std.specs.Prelude.{◌≡◌, ℕ, ◌+◌, ◌<◌, ◌≤◌, ◌⊎◌, Bool, true, false, Option, Some, None, List, [], ◌∷◌, ◌++◌, length, slice_index_or}
use Rattle.std.specs.Global.{Box}
use mathlib.Core.Option.{some, none}
use lib.ListN.{get_elem?}
use Rattle.atomic_table.specs.Table.{State}
use Rattle.board_lock.specs.Meant.{Meant, entries_of, Begins}
use Rattle.board_lock.specs.Passes.{Sound, first_known, first_part, second_part, joined}
use Rattle.board_lock.specs.declared.view.Phase.TheVariants.{Starting, Open, Holding, Spent}
use Rattle.board_lock.specs.declared.view.View.{View}

-- the seat's view has number n, and isn't spent
abbrev pub Has : {S K E P : Type 0} → View S K E P → ℕ → Type 0
Has v n = (v.phase ≡ Spent → ⊥) × (v.known.number ≤ n) × (n < v.known.number + length v.known.own)

-- what the state was at its last unlock: all of it that passes know
pub record Told (K E P : Type 0) : Type 0 where
  pub workers : ℕ
  pub key : K
  pub opening : List E
  pub tail : List E
  pub lent : ℕ → List P
  pub over : Bool

-- the view of a seat that was joined to another
abbrev pub spent_view : {S K E P : Type 0} → View S K E P
spent_view = record { phase = Spent; found = None; known = record { key = None; opening = []; seen = []; over = false; number = 0; own = []; lent = []; workers = 0 } }

abbrev pub first_view_part : {S K E P : Type 0} → ℕ → View S K E P → View S K E P
first_view_part at v = record v { known = first_part at v.known }

abbrev pub second_view_part : {S K E P : Type 0} → ℕ → View S K E P → View S K E P
second_view_part at v = record v { known = second_part at v.known }

abbrev pub joined_view : {S K E P : Type 0} → View S K E P → View S K E P → View S K E P
joined_view v w = record v { known = joined v.known w.known }

module _ {S K E P : Type 0} (m : Meant S K E P) where
  -- the view of the first seat
  abbrev pub first_view : S → ℕ → View S K E P
  first_view x workers = record { phase = Starting; found = Some x; known = first_known m x workers }

  -- the state is what was told
  pub record Shows (t : Told K E P) (x : S) : Type 0 where
    pub key : m.key x ≡ t.key
    pub journal : m.journal x ≡ t.opening ++ t.tail
    pub lent : (n : ℕ) → m.lent x n ≡ t.lent n
    pub over : m.over x ≡ t.over

  -- a view knows a part of what was told, and a holder has found a state that is all of it
  pub record Fits (t : Told K E P) (v : View S K E P) : Type 0 where
    pub key_is : v.known.key ≡ Some t.key
    pub opening_is : v.known.opening ≡ t.opening
    pub workers_is : v.known.workers ≡ t.workers
    pub sound_is : Sound m v.known
    pub seen_is : Begins v.known.seen (t.opening ++ t.tail)
    pub own_is : (k : ℕ) → k < length v.known.own → slice_index_or v.known.own k [] ≡ entries_of m.worker (v.known.number + k) t.tail
    pub lent_is : (k : ℕ) → k < length v.known.own → slice_index_or v.known.lent k [] ≡ t.lent (v.known.number + k)
    pub over_is : v.known.over ≡ true → t.over ≡ true
    pub found_is : v.phase ≡ Holding → (x : S) × (v.found ≡ Some x) × Shows t x × (v.known.seen ≡ t.opening ++ t.tail) × (v.known.over ≡ t.over)

  -- the state is at home, and nobody holds it
  pub record AtHome (t : Told K E P) (s : State (Option (Box S)) (View S K E P)) : Type 0 where
    pub state : Box S
    pub words_is : s.words ≡ 0 ∷ []
    pub homes_is : s.homes ≡ some (Some state) ∷ []
    pub shows : Shows t state.value
    pub free : (i : ℕ) (v : View S K E P) → get_elem? s.views i ≡ some v → (v.phase ≡ Open) ⊎ (v.phase ≡ Spent)

  -- one view holds the state
  pub record Out (s : State (Option (Box S)) (View S K E P)) : Type 0 where
    pub holder : ℕ
    pub held : (v : View S K E P) × (get_elem? s.views holder ≡ some v) × (v.phase ≡ Holding)
    pub words_is : s.words ≡ 1 ∷ []
    pub homes_is : s.homes ≡ none ∷ []
    pub alone : (i : ℕ) (v : View S K E P) → get_elem? s.views i ≡ some v → (v.phase ≡ Open) ⊎ ((v.phase ≡ Spent) ⊎ ((v.phase ≡ Holding) × (i ≡ holder)))

  -- all views know what was told, each worker's number stands in exactly one of them, and a number that is no worker's has no entry and nothing lent
  pub record Shares (t : Told K E P) (views : List (View S K E P)) : Type 0 where
    pub fits : (i : ℕ) (v : View S K E P) → get_elem? views i ≡ some v → (v.phase ≡ Spent) ⊎ Fits t v
    pub apart : (i j n : ℕ) (v w : View S K E P) → get_elem? views i ≡ some v → get_elem? views j ≡ some w → Has v n → Has w n → i ≡ j
    pub each : (n : ℕ) → n < t.workers → (i : ℕ) × (v : View S K E P) × (get_elem? views i ≡ some v) × Has v n
    pub none_above : (n : ℕ) → t.workers ≤ n → entries_of m.worker n t.tail ≡ []
    pub unlent_above : (n : ℕ) → t.workers ≤ n → t.lent n ≡ []

  pub record Running (s : State (Option (Box S)) (View S K E P)) : Type 0 where
    pub told : Told K E P
    pub place : AtHome told s ⊎ Out s
    pub shares : Shares told s.views

  -- before the state stands in the slot
  pub record Fresh (about : S) (workers : ℕ) (s : State (Option (Box S)) (View S K E P)) : Type 0 where
    pub words_is : s.words ≡ 1 ∷ []
    pub homes_is : s.homes ≡ some None ∷ []
    pub views_is : s.views ≡ first_view about workers ∷ []

  -- the rule
  abbrev pub Kept : S → ℕ → State (Option (Box S)) (View S K E P) → Type 0
  Kept about workers s = Fresh about workers s ⊎ Running s
