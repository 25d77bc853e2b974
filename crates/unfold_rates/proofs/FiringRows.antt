-- The rows of firings, one firing or one actor more at a time.
use Rattle.std.proofs.Common.{◌≡◌, ℕ, zero, suc, ◌+◌, ◌*◌, ◌<◌, ◌≤◌, Bool, true, false, if◌then◌else◌, List, [], ◌∷◌, ◌++◌, length, map, take, get_or, slice_index, sum, refl, ap, sym, ◌∙◌, subst, arith, add-one, append_assoc, append-nil, mul-le-mul_right, suc-mul, ⊎_elim}
use Rattle.std.proofs.lemmas.Bool.{cases_lt}
use Rattle.std.proofs.lemmas.List.Sums.{get_or-le-sum_by}
use Rattle.std.specs.Prelude.{slice_range, zip}
use Rattle.std.specs.List.{AllPass, filter, flat_map, range_with_len}
use Rattle.firing_laws.specs.Moving.{moved_row}
use Rattle.level_laws.specs.Unfolded.{multiplied}
use Rattle.level_laws.proofs.Multiplied.{at_multiplied}
use Rattle.pisdf_meaning.specs.Endings.{child_path}
use Rattle.pisdf_meaning.specs.declared.outcome.TraceRow.{TraceRow}
use Rattle.pisdf_model.specs.declared.actor.Actor.{Actor}
use Rattle.unfold_rates.specs.Cut.{firings_rows, is_within, moved_rows}
use Rattle.unfold_rates.specs.Spans.{ArePicked}
use Rattle.unfold_rates.proofs.Picking.{range_snoc}

-- ---- one firing more

pub firings_more : (top actor : List ℕ) (first turn : ℕ) (rows : List TraceRow) →
    firings_rows top actor first (turn + 1) rows ≡ firings_rows top actor first turn rows ++ moved_rows (child_path top actor (first + turn)) (child_path top actor turn) rows
firings_more top actor first turn rows =
    let F : ℕ → List TraceRow = λ j. moved_rows (child_path top actor (first + j)) (child_path top actor j) rows in
    ap (λ (n : ℕ). flat_map F (range_with_len 0 n)) (add-one turn) ∙ range_snoc F 0 turn ∙ ap (λ (k : ℕ). flat_map F (range_with_len 0 turn) ++ F k) (let e : 0 + turn ≡ turn = omega arith in e)

passes : (test : TraceRow → Bool) (rest : List TraceRow) (b : Bool) (x : TraceRow) → test x ≡ b → AllPass test rest → AllPass test (if b then x ∷ rest else rest)
passes test rest true x is all zero d inside = is
passes test rest true x is all (suc k) d inside = all k d (omega arith)
passes test rest false x is all k d inside = all k d inside

pub filter_passes : (test : TraceRow → Bool) (rows : List TraceRow) → AllPass test (filter test rows)
filter_passes test [] k d inside = absurd (omega arith)
filter_passes test (x ∷ rows) k d inside = passes test (filter test rows) (test x) x refl (filter_passes test rows) k d inside

pub span_passes : (rows : List TraceRow) (top actor : List ℕ) (all : ℕ) (bounds : List ℕ) → ArePicked rows top actor all bounds → (k : ℕ) → k < all →
    AllPass (λ (row : TraceRow). is_within (child_path top actor k) row.path) (slice_range rows (slice_index bounds k) (slice_index bounds (k + 1)))
span_passes rows top actor all bounds picked k inside =
    let own : TraceRow → Bool = λ row. is_within (child_path top actor k) row.path in
    let T : List TraceRow → Type 0 = λ l. AllPass own l in
    subst T (sym (picked.picked k inside)) (filter_passes own rows)

pub span_moved : (rows : List TraceRow) (top actor : List ℕ) (all : ℕ) (bounds : List ℕ) → ArePicked rows top actor all bounds → (k : ℕ) → k < all → (other : List ℕ) →
    map (moved_row (child_path top actor k) other) (slice_range rows (slice_index bounds k) (slice_index bounds (k + 1))) ≡ moved_rows (child_path top actor k) other rows
span_moved rows top actor all bounds picked k inside other = ap (λ (l : List TraceRow). map (moved_row (child_path top actor k) other) l) (picked.picked k inside)

pub pushed_more : (before old now more one : List TraceRow) (firings : List TraceRow) → now ≡ old ++ one → old ≡ before ++ firings → more ≡ firings ++ one → now ≡ before ++ more
pushed_more before old now more one firings pushed so_far next = pushed ∙ ap (λ (l : List TraceRow). l ++ one) so_far ∙ append_assoc before firings one ∙ ap (λ (l : List TraceRow). before ++ l) (sym next)

-- ---- counts

past_end : (xs : List ℕ) (i : ℕ) → length xs ≤ i → slice_index xs i ≡ 0
past_end [] i over = refl
past_end (x ∷ xs) zero over = absurd (omega arith)
past_end (x ∷ xs) (suc i) over = past_end xs i (omega arith)

pub index_le_sum : (xs : List ℕ) (i : ℕ) → slice_index xs i ≤ sum xs
index_le_sum xs i = ⊎_elim
    (λ (inside : i < length xs). get_or-le-sum_by (λ x. x) xs i 0 inside)
    (λ (over : length xs ≤ i). let none = past_end xs i over in omega arith)
    (cases_lt i (length xs))

pub count_small : (times : ℕ) (counts : List ℕ) (place : ℕ) → sum (multiplied times counts) ≤ 2048 → times * slice_index counts place ≤ 2048
count_small times counts place few = let e = at_multiplied times counts place in let h = index_le_sum (multiplied times counts) place in omega arith

pub piece_small : (number times count : ℕ) → number < times → number * count + count ≤ times * count
piece_small number times count there = let e = mul-le-mul_right count (let s : suc number ≤ times = omega arith in s) in let m = suc-mul number count in omega arith

-- ---- one actor more

module _ (F : Actor × ℕ → List TraceRow) where
  pub actors_more : (actors : List Actor) (counts : List ℕ) (place : ℕ) (actor : Actor) → place < length actors → length counts ≡ length actors → get_or actors place actor ≡ actor →
      flat_map F (take (place + 1) (zip actors counts)) ≡ flat_map F (take place (zip actors counts)) ++ F (actor, slice_index counts place)
  actors_more [] counts place actor inside long is = absurd (omega arith)
  actors_more (x ∷ actors) [] place actor inside long is = absurd (omega arith)
  actors_more (x ∷ actors) (q ∷ counts) zero actor inside long is =
      let one : 0 + 1 ≡ suc 0 = omega arith in
      ap (λ (n : ℕ). flat_map F (take n ((x, q) ∷ zip actors counts))) one ∙ append-nil (F (x, q)) ∙ ap (λ (a : Actor). F (a, q)) is
  actors_more (x ∷ actors) (q ∷ counts) (suc place) actor inside long is =
      let step : suc place + 1 ≡ suc (place + 1) = omega arith in
      ap (λ (n : ℕ). flat_map F (take n ((x, q) ∷ zip actors counts))) step
      ∙ ap (λ (l : List TraceRow). F (x, q) ++ l) (actors_more actors counts place actor (omega arith) (omega arith) is)
      ∙ sym (append_assoc (F (x, q)) (flat_map F (take place (zip actors counts))) (F (actor, slice_index counts place)))

  pub actors_all : (actors : List Actor) (counts : List ℕ) (place : ℕ) → length actors ≤ place → take place (zip actors counts) ≡ zip actors counts
  actors_all [] counts zero over = refl
  actors_all [] counts (suc place) over = refl
  actors_all (x ∷ actors) counts zero over = absurd (omega arith)
  actors_all (x ∷ actors) [] (suc place) over = refl
  actors_all (x ∷ actors) (q ∷ counts) (suc place) over = ap (λ (l : List (Actor × ℕ)). (x, q) ∷ l) (actors_all actors counts place (omega arith))
