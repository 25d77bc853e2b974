-- What the rows say of two edges.
use Rattle.std.proofs.Common.{◌≡◌, ℕ, ◌+◌, ◌*◌, ◌<◌, ◌≤◌, ◌⊎◌, inl, inr, ⊎_elim, sym, ap, List, length, get_or, All, arith}
use Rattle.std.proofs.lemmas.List.Elements.{All-weaker}
use Rattle.std.proofs.lemmas.Bool.{cases_order}
use Rattle.std.proofs.lemmas.List.{get_or-map, length-map}
use Rattle.placement_checker.specs.Placed.{Relates}
use Rattle.std.proofs.Math.Nat.{mul-le-mul_right}
use Rattle.memory_exclusion.specs.Paths.{tail_of, head_of, Excludes}
use Rattle.placement_checker.specs.Rows.{IsRowOf}
use Rattle.memory_exclusion.specs.Bits.{HasBit, HasNeither}
use Rattle.memory_exclusion.specs.Closure.{turned, HasRows, IsReach}
use Rattle.memory_exclusion.proofs.Turning.{path_of_turned, turned_path}

module _ (edges : List (ℕ × ℕ)) (width : ℕ) (before behind : List ℕ) (reach : IsReach edges width before) (turns : IsReach (turned edges) width behind) (e f : ℕ) (f_in : f < length edges) where
  turned_in : f < length (turned edges)
  turned_in = rw (length-map {A = ℕ × ℕ}) f_in

  turned_head : head_of (turned edges) f ≡ tail_of edges f
  turned_head =
      let at : get_or (turned edges) f (0, 0) ≡ (head_of edges f, tail_of edges f) = get_or-map (λ (edge : ℕ × ℕ). (edge.1, edge.0)) edges f (0, 0) (0, 0) f_in in
      ap (λ (pair : ℕ × ℕ). pair.1) at

  pub shares_back : HasBit before width (tail_of edges e) f → Excludes edges e f → ⊥
  shares_back has excludes =
      let path = (reach.closure f (tail_of edges e) f_in).0 has in
      excludes.back path.0 path.1

  pub shares_forth : HasBit behind width (head_of edges e) f → Excludes edges e f → ⊥
  shares_forth has excludes =
      let path = (turns.closure f (head_of edges e) turned_in).0 has in
      let there = path_of_turned edges (tail_of edges f) (head_of edges e) path.0 (rw turned_head at path.1) in
      excludes.forth there.0 there.1

  pub stay_apart : (HasBit before width (tail_of edges e) f → ⊥) → (HasBit behind width (head_of edges e) f → ⊥) → Excludes edges e f
  stay_apart no_back no_forth = record {
    forth = λ path is.
        let there = turned_path edges (head_of edges e) (tail_of edges f) path is in
        no_forth ((turns.closure f (head_of edges e) turned_in).1 (there.0, rw turned_head there.1));
    back = λ path is. no_back ((reach.closure f (tail_of edges e) f_in).1 (path, is));
  }

-- which of two buffers is asked first makes no difference
excludes_turned : (edges : List (ℕ × ℕ)) (e f : ℕ) → Excludes edges e f → Excludes edges f e
excludes_turned edges e f excludes = record { forth = excludes.back; back = excludes.forth }

pub relates_of : (edges : List (ℕ × ℕ)) (e f : ℕ) → (f ≡ e → ⊥) → Excludes edges e f → Relates (Excludes edges) e f
relates_of edges e f apart excludes = ⊎_elim
    (λ (same : e ≡ f). absurd (apart (sym same)))
    (λ (order : (e < f) ⊎ (f < e)). ⊎_elim (λ (before : e < f). inl (before, excludes)) (λ (after : f < e). inr (after, excludes_turned edges e f excludes)) order)
    (cases_order e f)

pub relates_only : (edges : List (ℕ × ℕ)) (e f : ℕ) → Relates (Excludes edges) e f → Excludes edges e f
relates_only edges e f (inl before) = before.1
relates_only edges e f (inr after) = excludes_turned edges f e after.1

-- every node has a row
pub rows_fit : (nodes width words : ℕ) (edges : List (ℕ × ℕ)) → words ≡ nodes * width → All (λ (edge : ℕ × ℕ). (edge.0 < nodes) × (edge.1 < nodes)) edges → All (HasRows width words) edges
rows_fit nodes width words edges long ends = All-weaker (λ (edge : ℕ × ℕ). (edge.0 < nodes) × (edge.1 < nodes)) (HasRows width words) one edges ends
  where
    row : (node : ℕ) → node < nodes → node * width + width ≤ words
    row node below = let up = mul-le-mul_right width below in omega arith

    one : (edge : ℕ × ℕ) → (edge.0 < nodes) × (edge.1 < nodes) → HasRows width words edge
    one edge below = let tail = below.0 in let head = below.1 in record {
      tail_row = row edge.0 below.0;
      head_row = row edge.1 below.1;
    }

-- the head of an edge has a row among those of the turned edges
pub behind_row : (edges : List (ℕ × ℕ)) (width words e : ℕ) → All (HasRows width words) (turned edges) → e < length edges → head_of edges e * width + width ≤ words
behind_row edges width words e rows inside =
    let at : get_or (turned edges) e (0, 0) ≡ (head_of edges e, tail_of edges e) = get_or-map (λ (edge : ℕ × ℕ). (edge.1, edge.0)) edges e (0, 0) (0, 0) inside in
    let there : HasRows width words (get_or (turned edges) e (0, 0)) = rows e (0, 0) (rw (length-map {A = ℕ × ℕ}) inside) in
    (rw at at there).tail_row

-- the row of a buffer tells which others exclude it
pub row_of : (edges : List (ℕ × ℕ)) (width : ℕ) (before behind : List ℕ) → IsReach edges width before → IsReach (turned edges) width behind → (e : ℕ) (row : List ℕ) → HasNeither width before (tail_of edges e) behind (head_of edges e) row → IsRowOf (Excludes edges) (length edges) e row
row_of edges width before behind reach turns e row written = λ f f_in apart.
    let wide = reach.wide in
    let bits = written f (omega arith) in (
      (λ has. relates_of edges e f apart (stay_apart edges width before behind reach turns e f f_in (bits.0 has).0 (bits.0 has).1)),
      (λ related. let excludes = relates_only edges e f related in
          bits.1 ((λ back. shares_back edges width before behind reach turns e f f_in back excludes), (λ forth. shares_forth edges width before behind reach turns e f f_in forth excludes))),
    )
