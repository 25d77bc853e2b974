-- Runs in which every worker keeps its order, and the buffers that are live in them.
use Rattle.std.specs.Prelude.{◌≡◌, ◌≢◌, ℕ, ◌<◌, List, ◌∷◌, ◌++◌, All, Contains, length, slice_index}
use Rattle.memory_exclusion.specs.Paths.{tail_of, head_of}
use Rattle.placement_checker.specs.Placed.{Overlap}
use Rattle.order_memory.specs.Orders.{neighbours}

-- a node is claimed, or finished
pub data Event : Type 0 where
  claim : ℕ → Event
  finish : ℕ → Event

-- a node is claimed at most once, after the tails of its edges and the node before it in its order are finished
pub record MayClaim (edges : List (ℕ × ℕ)) (orders : List (List ℕ)) (past : List Event) (n : ℕ) : Type 0 where
  pub once : Contains past (claim n) → ⊥
  pub tails : All (λ e. e.1 ≡ n → Contains past (finish e.0)) edges
  pub before : All (λ order. All (λ e. e.1 ≡ n → Contains past (finish e.0)) (neighbours order)) orders

-- a node is finished at most once, after its claim
pub record MayFinish (past : List Event) (n : ℕ) : Type 0 where
  pub once : Contains past (finish n) → ⊥
  pub claimed : Contains past (claim n)

abbrev pub IsDue : List (ℕ × ℕ) → List (List ℕ) → List Event → Event → Type 0
IsDue edges orders past (claim n) = MayClaim edges orders past n
IsDue edges orders past (finish n) = MayFinish past n

-- each event is due after those before it
abbrev pub IsOrderedRun : List (ℕ × ℕ) → List (List ℕ) → List Event → Type 0
IsOrderedRun edges orders run =
    (past : List Event) (event : Event) (later : List Event) → run ≡ past ++ event ∷ later → IsDue edges orders past event

-- from the claim of its tail to the finish of its head
pub record IsLive (edges : List (ℕ × ℕ)) (run : List Event) (e : ℕ) : Type 0 where
  pub claimed : Contains run (claim (tail_of edges e))
  pub unread : Contains run (finish (head_of edges e)) → ⊥

-- two buffers that are live at once overlap in no cell
abbrev pub LiveAreApart : List (ℕ × ℕ) → List ℕ → List ℕ → List Event → Type 0
LiveAreApart edges sizes offsets run =
    (e f : ℕ) → e < length edges → f < length edges → e ≢ f → IsLive edges run e → IsLive edges run f
    → Overlap (slice_index offsets e) (slice_index sizes e) (slice_index offsets f) (slice_index sizes f) → ⊥

-- it finishes every node
abbrev pub FinishesAll : ℕ → List Event → Type 0
FinishesAll nodes run = (n : ℕ) → n < nodes → Contains run (finish n)
