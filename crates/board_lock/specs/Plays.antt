-- What each step on the word tells its seat.
use Rattle.std.specs.Prelude.{◌≡◌, ℕ, Option, Some, None, [], ◌∷◌}
use Rattle.std.specs.Global.{Box}
use Rattle.atomic_table.specs.Table.{Me, Step}
use Rattle.board_lock.specs.Meant.{Meant}
use Rattle.board_lock.specs.Passes.{Finds, seen_in, known_after}
use Rattle.board_lock.specs.declared.view.Phase.TheVariants.{Open, Holding}
use Rattle.board_lock.specs.declared.view.View.{View}

-- a seat: its view, and the slot that it has
abbrev pub Sat : Type 0 → Type 0 → Type 0 → Type 0 → Type 0
Sat S K E P = Me (Option (Box S)) (View S K E P)

-- the load of the first seat takes the empty slot, and it holds from then on
abbrev pub started : {S K E P : Type 0} → Step (Option (Box S)) → Sat S K E P → ℕ → Sat S K E P → Type 0
started st me r me' = me' ≡ (record me.0 { phase = Holding }, (0, None) ∷ me.1)

module _ {S K E P : Type 0} (m : Meant S K E P) where
  -- a view that has found the state
  abbrev pub holding_view : View S K E P → S → View S K E P
  holding_view v x = record { phase = Holding; found = Some x; known = seen_in m v.known x }

  -- a view that has left the state
  abbrev pub left_view : View S K E P → S → View S K E P
  left_view v x = record { phase = Open; found = None; known = known_after m v.known x }

  -- a try for the lock: where the word was 0 the seat has the state, else nothing changes
  abbrev pub tried : Step (Option (Box S)) → Sat S K E P → ℕ → Sat S K E P → Type 0
  tried st me r me' =
      (r ≡ 0 → (b : Box S) × Finds m me.0.known b.value × (me' ≡ (holding_view me.0 b.value, (0, Some b) ∷ [])))
      × ((r ≡ 0 → ⊥) → me' ≡ me)

  -- the word is free again, and the state at home
  abbrev pub left : Step (Option (Box S)) → Sat S K E P → ℕ → Sat S K E P → Type 0
  left st me r me' = (b : Box S) → me.1 ≡ (0, Some b) ∷ [] → me' ≡ (left_view me.0 b.value, [])
