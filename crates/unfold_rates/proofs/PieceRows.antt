-- The rows of each iteration, among those of the iteration of the unfolded graphs.
use Rattle.std.proofs.Common.{◌≡◌, ℕ, zero, suc, ◌+◌, ◌*◌, ◌<◌, ◌^◌, List, [], ◌∷◌, ◌++◌, length, map, zip, slice_get, slice_index, Option, Some, refl, ap, ap₂, sym, ◌∙◌, subst, arith}
use Rattle.std.specs.List.{flat_map, range_with_len}
use Rattle.firing_laws.specs.Moving.{moved_row}
use Rattle.firing_laws.specs.Runs.{path_of}
use Rattle.pisdf_meaning.specs.Endings.{child_path}
use Rattle.pisdf_meaning.specs.Running.{Traces, child_rows}
use Rattle.pisdf_meaning.specs.declared.outcome.TraceRow.{TraceRow}
use Rattle.pisdf_model.specs.declared.actor.Actor.{Actor}
use Rattle.pisdf_model.specs.declared.graph.Graph.{Graph}
use Rattle.param_resolver.specs.Numbering.{acting}
use Rattle.unfold_rates.specs.Cut.{firings_rows, moved_rows, piece_rows}
use Rattle.unfold_rates.specs.Spans.{AreInOrder}
use Rattle.unfold_rates.proofs.Picking.{picked_is, rows_are_from, rows_from}
use Rattle.unfold_rates.proofs.TraceOrder.{all_act}

flat_same : (f f' : ℕ → List TraceRow) (a n : ℕ) → ((j : ℕ) → j < a + n → f j ≡ f' j) → flat_map f (range_with_len a n) ≡ flat_map f' (range_with_len a n)
flat_same f f' a zero same = refl
flat_same f f' a (suc n) same = ap₂ (λ (x y : List TraceRow). x ++ y) (same a (omega arith)) (flat_same f f' (a + 1) n (λ j inside. same j (omega arith)))

-- the graph's rows are in order; from `first b` on stand those of actor b that go into a piece, and there they have the traces `own`
module _ (top : Graph) (counts : List ℕ) (rows : List TraceRow) (order : AreInOrder top counts rows) (few : (b : ℕ) → slice_index counts b < 2 ^ 64) (q : List ℕ) (i : ℕ) (inside : (b j : ℕ) → j < slice_index q b → i * slice_index q b + j < slice_index counts b) where
  abbrev own : Traces
  own b k = map (moved_row (path_of top.name (slice_get (acting top) b) (i * slice_index q b + k)) (path_of top.name (slice_get (acting top) b) k)) (order.traces b (i * slice_index q b + k))

  one_firing : (b k : ℕ) (actor : Actor) → slice_get top.actors b ≡ Some actor → k < slice_index q b → own b k ≡ moved_rows (child_path top.name actor.name (i * slice_index q b + k)) (child_path top.name actor.name k) rows
  one_firing b k actor is low =
      let n : ℕ = i * slice_index q b + k in
      let acts : slice_get (acting top) b ≡ Some actor = ap (λ (l : List Actor). slice_get l b) (all_act top.actors order.configures_nothing) ∙ is in
      ap (λ (o : Option Actor). map (moved_row (path_of top.name o n) (path_of top.name o k)) (order.traces b n)) acts
      ∙ ap (λ (l : List TraceRow). map (moved_row (child_path top.name actor.name n) (child_path top.name actor.name k)) l) (sym (picked_is top counts rows order few b n actor is (inside b k low)))

  one_actor : (b : ℕ) (actor : Actor) → slice_get top.actors b ≡ Some actor → flat_map (own b) (range_with_len 0 (slice_index q b)) ≡ firings_rows top.name actor.name (i * slice_index q b) (slice_index q b) rows
  one_actor b actor is =
      flat_same (own b) (λ j. moved_rows (child_path top.name actor.name (i * slice_index q b + j)) (child_path top.name actor.name j) rows) 0 (slice_index q b) (λ j low. one_firing b j actor is (omega arith))

  abbrev of_one : Actor × ℕ → List TraceRow
  of_one one = firings_rows top.name one.0.name (i * one.1) one.1 rows

  from_actor : (b : ℕ) (actors : List Actor) (own_counts : List ℕ) → length own_counts ≡ length actors → ((j : ℕ) → slice_index own_counts j ≡ slice_index q (b + j)) → ((j : ℕ) (y : Actor) → slice_get actors j ≡ Some y → slice_get top.actors (b + j) ≡ Some y) →
      rows_from q own b actors ≡ flat_map of_one (zip actors own_counts)
  from_actor b [] own_counts long counts_so there = refl
  from_actor b (actor ∷ actors) [] long counts_so there = absurd (let e : 0 ≡ suc (length actors) = long in omega arith)
  from_actor b (actor ∷ actors) (count ∷ own_counts) long counts_so there =
      let zeroth : b + 0 ≡ b = omega arith in
      let here : slice_get top.actors b ≡ Some actor = subst (λ (n : ℕ). slice_get top.actors n ≡ Some actor) zeroth (there 0 actor refl) in
      let count_is : slice_index q b ≡ count = ap (λ (n : ℕ). slice_index q n) (sym zeroth) ∙ sym (counts_so 0) in
      let next : (j : ℕ) → b + suc j ≡ (b + 1) + j = λ j. omega arith in
      let rest = from_actor (b + 1) actors own_counts (let e : suc (length own_counts) ≡ suc (length actors) = long in omega arith) (λ j. counts_so (suc j) ∙ ap (λ (n : ℕ). slice_index q n) (next j)) (λ j y is. subst (λ (n : ℕ). slice_get top.actors n ≡ Some y) (next j) (there (suc j) y is)) in
      ap₂ (λ (x y : List TraceRow). x ++ y) (one_actor b actor here ∙ ap (λ (c : ℕ). of_one (actor, c)) count_is) rest

  pub piece_rows_are : length q ≡ length top.actors → child_rows q own 0 top.actors [] ≡ piece_rows top q i rows
  piece_rows_are long =
      rows_are_from q own 0 top.actors order.configures_nothing
      ∙ from_actor 0 top.actors q long (λ j. ap (λ (n : ℕ). slice_index q n) (let e : j ≡ 0 + j = omega arith in e)) (λ j y is. subst (λ (n : ℕ). slice_get top.actors n ≡ Some y) (let e : j ≡ 0 + j = omega arith in e) is)
