-- A placing goes on from one buffer to the next.
use Rattle.std.proofs.Common.{◌≡◌, ℕ, ◌+◌, ◌*◌, ◌^◌, ◌<◌, ◌≤◌, ◌⊎◌, inl, inr, ⊎_elim, List, length, max, slice_index, sum, All, Any, refl, sym, ◌∙◌, arith}
use Rattle.std.proofs.lemmas.Bool.{cases_lt}
use Rattle.placement_checker.specs.Placed.{Relates}
use Rattle.placement_checker.specs.Rows.{RowHas, IsRowOf}
use Rattle.placement.specs.Placing.{in_order, IsPlacingOrder, Blocks, IsLeast}
use Rattle.placement.specs.Progress.{placed_in, HasPlaced, IsEmpty, CanPlace, Keeps}
use Rattle.placement.specs.declared.gap.Placed.{Placed}
use Rattle.placement.specs.declared.progress.Progress.{Progress}
use Rattle.placement.proofs.Sweep.{all_left, all_right}
use Rattle.placement.proofs.Fitting.{none_placed, open_to, all_standing, free_by_row, blocked_by_row, one_more_placed, last_of}

-- at first
pub placed_first : (sizes : List ℕ) (X : ℕ → ℕ → Type 0) (range : ℕ) (order : List ℕ) (words : ℕ) (p : Progress) → IsPlacingOrder sizes order → IsEmpty (length sizes) words p → range ≤ 64 * words → words < 2 ^ 32 → HasPlaced sizes X range order 0 p
placed_first sizes X range order words p o empty wide few = record {
  so_far = rw (empty.small, empty.large, empty.height) (none_placed sizes X order o p.offsets.items empty.long);
  kept = record {
    small = empty.small_order;
    large = empty.large_order;
    few = rw empty.row few;
    rows = empty.row ∙ sym empty.last_row;
    told = rw empty.last tt;
    last = rw empty.last tt;
  };
  wide = rw empty.row wide;
}

one_of_two : (a b : ℕ) → (max a b ≡ a) ⊎ (max a b ≡ b)
one_of_two a b = ⊎_elim
    (λ (less : a < b). inr (omega arith))
    (λ (rest : b ≤ a). inl (omega arith))
    (cases_lt a b)

-- q is p, but for the row of the next buffer
module _ (sizes : List ℕ) (X : ℕ → ℕ → Type 0) (range : ℕ) (order : List ℕ) (i : ℕ) (p q : Progress) (o : IsPlacingOrder sizes order) (inside : i < length order) (wide : length sizes ≤ range) (filled : All (λ (size : ℕ). 1 ≤ size) sizes) (few : sum sizes < 2 ^ 32) (h : HasPlaced sizes X range order i p)
    (offsets : q.offsets.items ≡ p.offsets.items) (placed : q.placed ≡ p.placed) (before : q.before ≡ p.before) (height : q.height ≡ p.height) (row : length q.row.items ≡ length p.row.items)
  where
    words : length sizes ≤ 64 * length p.row.items
    words = let w = h.wide in omega arith

    pub can_place : CanPlace sizes (slice_index order i) q
    can_place = record {
      there = o.inside i inside;
      filled = filled (slice_index order i) 0 (o.inside i inside);
      long = rw offsets h.so_far.long;
      small = rw (row, placed) (open_to sizes X order o i (placed_in p) p.offsets.items p.height inside filled few h.so_far (length p.row.items) (in_order p.placed.small) words h.kept.small.rising (λ P all. all_left P (in_order p.placed.small) (in_order p.placed.large) all));
      large = rw (row, placed) (open_to sizes X order o i (placed_in p) p.offsets.items p.height inside filled few h.so_far (length p.row.items) (in_order p.placed.large) words h.kept.large.rising (λ P all. all_right P (in_order p.placed.small) (in_order p.placed.large) all));
      standing = rw (offsets, placed) (all_standing sizes X order o i (placed_in p) p.offsets.items p.height inside filled few h.so_far);
      kept = record {
        small = rw placed h.kept.small;
        large = rw placed h.kept.large;
        few = rw row h.kept.few;
        rows = rw before (row ∙ h.kept.rows);
        told = rw (before, row) h.kept.told;
        last = rw (before, placed) h.kept.last;
      };
    }

    module _ (row_is : IsRowOf X range (slice_index order i) q.row.items) (offset : ℕ) (found : IsLeast (RowHas q.row.items) (slice_index sizes (slice_index order i)) (placed_in q) offset) (next : Progress) (keeps : Keeps (record { number = slice_index order i; offset = offset; end = offset + slice_index sizes (slice_index order i) }) q next) where
      next_free : All (λ (b : Placed). Blocks (Relates X (slice_index order i)) (slice_index sizes (slice_index order i)) offset b → ⊥) (placed_in p)
      next_free = free_by_row sizes X order o i (placed_in p) p.offsets.items p.height inside filled few h.so_far range wide q.row.items row_is (slice_index sizes (slice_index order i)) offset (rw placed at found.free)

      next_least : (lower : ℕ) → lower < offset → Any (Blocks (Relates X (slice_index order i)) (slice_index sizes (slice_index order i)) lower) (placed_in p)
      next_least lower below = blocked_by_row sizes X order o i (placed_in p) p.offsets.items p.height inside filled few h.so_far range wide q.row.items row_is (slice_index sizes (slice_index order i)) lower (rw placed at (found.least lower below))

      long : length next.row.items ≡ length p.row.items
      long = rw (keeps.row, before) (sym h.kept.rows)

      pub one_more : HasPlaced sizes X range order (i + 1) next
      one_more = record {
        so_far = rw (keeps.offsets, offsets, keeps.height, height) (one_more_placed sizes X order o i (placed_in p) p.offsets.items p.height inside filled few h.so_far offset (max p.height (offset + slice_index sizes (slice_index order i))) (placed_in next) next_free next_least (rw placed at keeps.same) (omega arith) (omega arith) (one_of_two p.height (offset + slice_index sizes (slice_index order i))));
        kept = record {
          small = keeps.small;
          large = keeps.large;
          few = rw long h.kept.few;
          rows = rw keeps.last_row (long ∙ sym row);
          told = rw (keeps.last, long) (
            let there = o.inside i inside in let w = words in omega arith,
            let own = filled (slice_index order i) 0 (o.inside i inside) in omega arith,
          );
          last = rw (keeps.last, keeps.last_row) (last_of q.row.items (placed_in q) (placed_in next) (record { number = slice_index order i; offset = offset; end = offset + slice_index sizes (slice_index order i) }) (slice_index sizes (slice_index order i)) refl (filled (slice_index order i) 0 (o.inside i inside)) keeps.same found.least);
        };
        wide = rw long h.wide;
      }
