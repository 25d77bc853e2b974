-- Bounds of the rows of firings, one after another.
use Rattle.std.proofs.Common.{◌≡◌, ℕ, zero, suc, ◌+◌, ◌<◌, ◌≤◌, ◌^◌, ◌⊎◌, inl, inr, List, [], ◌∷◌, ◌++◌, length, drop, get_or, slice_get, slice_index, slice_index_or, Some, refl, ap, sym, ◌∙◌, subst, arith, ⊎_elim, add-one, drop-cons, ◌≢◌}
use Rattle.std.proofs.lemmas.Bool.{cases_eq}
use Rattle.pisdf_meaning.specs.Endings.{child_path}
use Rattle.pisdf_meaning.specs.declared.outcome.TraceRow.{TraceRow}
use Rattle.pisdf_model.specs.declared.actor.Actor.{Actor}
use Rattle.pisdf_model.specs.declared.graph.Graph.{Graph}
use Rattle.unfold_rates.specs.Spans.{AreInOrder, ArePicked, ArePickedEach, AreSpans, IsSpan}
use Rattle.unfold_rates.proofs.Picking.{are_picked, next_begins, rows_from, rows_so, slice_get_drop}
use Rattle.std.proofs.lemmas.Option.{slice_get-get_or, slice_get_within}

-- ---- one actor

-- the spans of the first so many firings, the last of which ends here
pub record AreSpansSoFar (rows : List TraceRow) (top actor : List ℕ) (count start end : ℕ) (bounds : List ℕ) : Type 0 where
  pub spans : AreSpans rows top actor count start bounds
  pub last : slice_index bounds count ≡ end
  pub inside : end ≤ length rows

snoc_before : (xs : List ℕ) (x k : ℕ) → k < length xs → slice_index (xs ++ x ∷ []) k ≡ slice_index xs k
snoc_before [] x k inside = absurd (omega arith)
snoc_before (y ∷ xs) x zero inside = refl
snoc_before (y ∷ xs) x (suc k) inside = snoc_before xs x k (omega arith)

snoc_last : (xs : List ℕ) (x k : ℕ) → k ≡ length xs → slice_index (xs ++ x ∷ []) k ≡ x
snoc_last [] x zero is = refl
snoc_last [] x (suc k) is = absurd (omega arith)
snoc_last (y ∷ xs) x zero is = absurd (omega arith)
snoc_last (y ∷ xs) x (suc k) is = snoc_last xs x k (omega arith)

length_snoc : (xs : List ℕ) (x : ℕ) → length (xs ++ x ∷ []) ≡ length xs + 1
length_snoc [] x = refl
length_snoc (y ∷ xs) x = let e = length_snoc xs x in omega arith

module _ (rows : List TraceRow) (top actor : List ℕ) (start : ℕ) where
  pub spans_start : start ≤ length rows → AreSpansSoFar rows top actor 0 start start (start ∷ [])
  spans_start inside = record { spans = record { long = refl; first = refl; each = λ k none. absurd (omega arith) }; last = refl; inside = inside }

  pub spans_more : (count end end' : ℕ) (bounds : List ℕ) → AreSpansSoFar rows top actor count start end bounds → IsSpan rows (child_path top actor count) end end' → AreSpansSoFar rows top actor (count + 1) start end' (bounds ++ end' ∷ [])
  spans_more count end end' bounds so_far span =
      let long = so_far.spans.long in
      let last = snoc_last bounds end' (count + 1) (omega arith) in
      record {
        spans = record {
          long = let e = length_snoc bounds end' in omega arith;
          first = snoc_before bounds end' 0 (omega arith) ∙ so_far.spans.first;
          each = λ k inside. ⊎_elim
              (λ (here : k ≡ count).
              let P : ℕ → ℕ → Type 0 = λ a b. IsSpan rows (child_path top actor count) a b in
              let begins : end ≡ slice_index (bounds ++ end' ∷ []) count = sym so_far.last ∙ sym (snoc_before bounds end' count (omega arith)) in
              let Q : ℕ → Type 0 = λ i. IsSpan rows (child_path top actor i) (slice_index (bounds ++ end' ∷ []) i) (slice_index (bounds ++ end' ∷ []) (i + 1)) in
              subst Q (sym here) (subst (λ (b : ℕ). P (slice_index (bounds ++ end' ∷ []) count) b) (sym last) (subst (λ (a : ℕ). P a end') begins span)))
              (λ (before : k < count).
              let P : ℕ → ℕ → Type 0 = λ a b. IsSpan rows (child_path top actor k) a b in
              subst (λ (b : ℕ). P (slice_index (bounds ++ end' ∷ []) k) b) (sym (snoc_before bounds end' (k + 1) (omega arith)))
              (subst (λ (a : ℕ). P a (slice_index bounds (k + 1))) (sym (snoc_before bounds end' k (omega arith))) (so_far.spans.each k before)))
              (at_most k count (omega arith));
        };
        last = last;
        inside = span.inside;
      }
    where
      at_most : (k n : ℕ) → k < n + 1 → (k ≡ n) ⊎ (k < n)
      at_most k n h = ⊎_elim (λ (e : k ≡ n). inl e) (λ (ne : k ≢ n). inr (omega arith)) (cases_eq k n)

pub end_inside : (rows : List TraceRow) (top actor : List ℕ) (count start : ℕ) (bounds : List ℕ) → AreSpans rows top actor count start bounds → start ≤ length rows → slice_index bounds count ≤ length rows
end_inside rows top actor zero start bounds spans inside = let f = spans.first in omega arith
end_inside rows top actor (suc count) start bounds spans inside =
    let last = (spans.each count (omega arith)).inside in
    let same : count + 1 ≡ suc count = omega arith in
    let P : ℕ → Type 0 = λ i. slice_index bounds i ≤ length rows in
    subst P same last

-- ---- all actors

-- so it is of the first so many actors, and the rows of the next begin here
pub record ArePickedSoFar (rows : List TraceRow) (top : Graph) (counts : List ℕ) (place start : ℕ) (bounds : List (List ℕ)) : Type 0 where
  pub one_each : length bounds ≡ place
  pub inside : start ≤ length rows
  pub begins : (order : AreInOrder top counts rows) → drop start rows ≡ rows_from counts order.traces place (drop place top.actors)
  pub each : (a : ℕ) (actor : Actor) → a < place → slice_get top.actors a ≡ Some actor → ArePicked rows top.name actor.name (slice_index counts a) (slice_index_or bounds a [])

list_before : (xs : List (List ℕ)) (x : List ℕ) (k : ℕ) → k < length xs → slice_index_or (xs ++ x ∷ []) k [] ≡ slice_index_or xs k []
list_before [] x k inside = absurd (omega arith)
list_before (y ∷ xs) x zero inside = refl
list_before (y ∷ xs) x (suc k) inside = list_before xs x k (omega arith)

list_last : (xs : List (List ℕ)) (x : List ℕ) (k : ℕ) → k ≡ length xs → slice_index_or (xs ++ x ∷ []) k [] ≡ x
list_last [] x zero is = refl
list_last [] x (suc k) is = absurd (omega arith)
list_last (y ∷ xs) x zero is = absurd (omega arith)
list_last (y ∷ xs) x (suc k) is = list_last xs x k (omega arith)

length_more : (xs : List (List ℕ)) (x : List ℕ) → length (xs ++ x ∷ []) ≡ length xs + 1
length_more [] x = refl
length_more (y ∷ xs) x = let e = length_more xs x in omega arith

module _ (rows : List TraceRow) (top : Graph) (counts : List ℕ) where
  pub picked_start : ArePickedSoFar rows top counts 0 0 []
  picked_start = record { one_each = refl; inside = omega arith; begins = λ order. rows_so top counts rows order; each = λ a actor none is. absurd (omega arith) }

  pub picked_more : (order : AreInOrder top counts rows) → ((b : ℕ) → slice_index counts b < 2 ^ 64) → (place start : ℕ) (bounds : List (List ℕ)) (own : List ℕ) (actor : Actor) → place < length top.actors → actor ≡ get_or top.actors place actor →
      ArePickedSoFar rows top counts place start bounds → AreSpans rows top.name actor.name (slice_index counts place) start own → slice_index own (slice_index counts place) ≤ length rows →
      ArePickedSoFar rows top counts (place + 1) (slice_index own (slice_index counts place)) (bounds ++ own ∷ [])
  picked_more order few place start bounds own actor inside is so_far spans within =
      let here : slice_get top.actors place ≡ Some actor = slice_get-get_or top.actors place actor inside ∙ ap (λ (a : Actor). Some a) (sym is) in
      let later : List Actor = drop (place + 1) top.actors in
      let split : drop place top.actors ≡ actor ∷ later = rw (add-one) (drop-cons top.actors place actor inside ∙ ap (λ (a : Actor). a ∷ drop (suc place) top.actors) (sym is)) in
      let there : (i : ℕ) (y : Actor) → slice_get later i ≡ Some y → slice_get top.actors (place + 1 + i) ≡ Some y = λ i y e. sym (slice_get_drop top.actors (place + 1) i) ∙ e in
      let begins : drop start rows ≡ rows_from counts order.traces place (actor ∷ later) = so_far.begins order ∙ ap (λ (actors : List Actor). rows_from counts order.traces place actors) split in
      let long = so_far.one_each in
      record {
        one_each = let e = length_more bounds own in omega arith;
        inside = within;
        begins = λ other.
            let begins' : drop start rows ≡ rows_from counts other.traces place (actor ∷ later) = so_far.begins other ∙ ap (λ (actors : List Actor). rows_from counts other.traces place actors) split in
            next_begins top counts rows other few place actor later here there start own spans begins';
        each = λ a x before at. ⊎_elim
            (λ (e : a ≡ place).
            let same : x ≡ actor = let P : ℕ → Type 0 = λ i. slice_get top.actors i ≡ Some x in let s = subst P e at in cc in
            let picked = are_picked top counts rows order few place actor later here there start own spans begins in
            let P : ℕ → Actor → List ℕ → Type 0 = λ i y l. ArePicked rows top.name y.name (slice_index counts i) l in
            subst (λ (i : ℕ). P i x (slice_index_or (bounds ++ own ∷ []) i [])) (sym e)
            (subst (λ (y : Actor). P place y (slice_index_or (bounds ++ own ∷ []) place [])) (sym same)
            (subst (λ (l : List ℕ). P place actor l) (sym (list_last bounds own place (sym long))) picked)))
            (λ (ne : a ≢ place).
            let P : List ℕ → Type 0 = λ l. ArePicked rows top.name x.name (slice_index counts a) l in
            subst P (sym (list_before bounds own a (omega arith))) (so_far.each a x (omega arith) at))
            (cases_eq a place);
      }

  pub picked_all : (place start : ℕ) (bounds : List (List ℕ)) → length top.actors ≤ place → place ≤ length top.actors → ArePickedSoFar rows top counts place start bounds → ArePickedEach rows top counts bounds
  picked_all place start bounds over under so_far = record {
    one_each = let e = so_far.one_each in omega arith;
    each = λ a actor is. so_far.each a actor (let i = slice_get_within top.actors a actor is in omega arith) is;
  }
