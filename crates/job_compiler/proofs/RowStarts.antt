-- Rows by where they begin.
use Rattle.std.proofs.Common.{◌≡◌, ℕ, zero, suc, ◌+◌, ◌-◌, ◌<◌, ◌≤◌, ⊎_elim, List, [], ◌∷◌, ◌++◌, length, get_or, take, drop, replicate, refl, sym, ap, ap₂, ◌∙◌, subst, arith}
use Rattle.std.specs.Prelude.{Option, None, slice_index}
use Rattle.std.proofs.lemmas.Bool.{cases_lt}
use Rattle.std.proofs.lemmas.List.{get_or_append_left, get_or_push, length_push, length-append, length-replicate, length-map, get_or_read}
use Rattle.job_compiler.specs.Rows.{row_of}
use Rattle.job_compiler.specs.Rows.{part_of, rows_in, span_at, spans_from, spans_of, KeepsRows, KeepsStarts}
use Rattle.job_compiler.proofs.RowParts.{row_is, port_below, more_rows, more_keeps}

-- a port, where it stands
pub port_is : (ports : List (Option ℕ)) (k : ℕ) (port : Option ℕ) → k < length ports → port ≡ get_or ports k port → get_or ports k None ≡ port
port_is ports k port inside is = sym (get_or_read ports k port inside is None)

length_from : (start : ℕ) (ends : List ℕ) → length (spans_from start ends) ≡ length ends
length_from start [] = refl
length_from start (end ∷ ends) = ap suc (length_from end ends)

at_from : (start : ℕ) (ends : List ℕ) (n : ℕ) → n < length ends → span_at (spans_from start ends) n ≡ (slice_index (start ∷ ends) n, slice_index ends n - slice_index (start ∷ ends) n)
at_from start [] n inside = absurd (let bad : ⊥ = omega arith in bad)
at_from start (end ∷ ends) zero inside = refl
at_from start (end ∷ ends) (suc n) inside = at_from end ends n (omega arith)

push_from : (start : ℕ) (ends : List ℕ) (e : ℕ) → spans_from start (ends ++ e ∷ []) ≡ spans_from start ends ++ (slice_index (start ∷ ends) (length ends), e - slice_index (start ∷ ends) (length ends)) ∷ []
push_from start [] e = refl
push_from start (end ∷ ends) e = ap (λ rest. (start, end - start) ∷ rest) (push_from end ends e)

-- there is a row fewer than there are starts
length_spans : (starts : List ℕ) → 0 < length starts → length (spans_of starts) + 1 ≡ length starts
length_spans [] some = absurd (let bad : ⊥ = omega arith in bad)
length_spans (start ∷ ends) some = let same = length_from start ends in omega arith

span_is : (starts : List ℕ) (n : ℕ) → n + 1 < length starts → span_at (spans_of starts) n ≡ (slice_index starts n, slice_index starts (n + 1) - slice_index starts n)
span_is [] n inside = absurd (let bad : ⊥ = omega arith in bad)
span_is (start ∷ ends) n inside =
    let next : n + 1 ≡ suc n = omega arith in
    at_from start ends n (omega arith) ∙ sym (ap (λ k. (slice_index (start ∷ ends) n, slice_index (start ∷ ends) k - slice_index (start ∷ ends) n)) next)

spans_push : (starts : List ℕ) (n e : ℕ) → length starts ≡ n + 1 → spans_of (starts ++ e ∷ []) ≡ spans_of starts ++ (slice_index starts n, e - slice_index starts n) ∷ []
spans_push [] n e long = absurd (let bad : ⊥ = omega arith in bad)
spans_push (start ∷ ends) n e long =
    let n_is : length ends ≡ n = omega arith in
    push_from start ends e ∙ ap (λ k. spans_from start ends ++ (slice_index (start ∷ ends) k, e - slice_index (start ∷ ends) k) ∷ []) n_is

-- where row n begins and ends
pub record Begins (ports : List (Option ℕ)) (starts : List ℕ) (n : ℕ) : Type 0 where
  pub inside : n < length (spans_of starts)
  pub next : n + 1 < length starts
  pub start : (span_at (spans_of starts) n).0 ≡ slice_index starts n
  pub rises : slice_index starts n ≤ slice_index starts (n + 1)
  pub within : slice_index starts (n + 1) ≤ length ports
  pub row : row_of (rows_in ports (spans_of starts)) n ≡ take (slice_index starts (n + 1) - slice_index starts n) (drop (slice_index starts n) ports)

pub begins : (ports : List (Option ℕ)) (starts : List ℕ) → KeepsStarts ports starts → (n : ℕ) → n < length (rows_in ports (spans_of starts)) → Begins ports starts n
begins ports starts keeps n there =
    let inside : n < length (spans_of starts) = omega (arith, there, length-map (spans_of starts) (part_of ports)) in
    let next : n + 1 < length starts = omega (arith, inside, length_spans starts keeps.some) in
    let span = span_is starts n next in
    let within = subst (λ (s : ℕ × ℕ). s.0 + s.1 ≤ length ports) span (keeps.rows.within n inside) in
    let rises = keeps.rises n next in
    record {
      inside = inside;
      next = next;
      start = ap (λ (s : ℕ × ℕ). s.0) span;
      rises = rises;
      within = omega (arith, within, rises);
      row = row_is ports (spans_of starts) n inside ∙ ap (part_of ports) span;
    }

-- a port of it lies in the list
pub port_within : (ports : List (Option ℕ)) (starts : List ℕ) → KeepsStarts ports starts → (n p start : ℕ) → n < length (rows_in ports (spans_of starts)) → p < length (row_of (rows_in ports (spans_of starts)) n)
    → start ≡ slice_index starts n → start + p < length ports
port_within ports starts keeps n p start there below is =
    let at = begins ports starts keeps n there in
    let here = port_below ports (spans_of starts) keeps.rows n p at.inside below in
    omega (arith, keeps.rows.within n at.inside, here, at.start, is)

-- a row more behind the others, which end where the list does
module _ (ports : List (Option ℕ)) (starts : List ℕ) (keeps : KeepsStarts ports starts) (n count : ℕ) (long : length starts ≡ n + 1) (last : slice_index starts n ≡ length ports) where
  abbrev more : List (Option ℕ)
  more = ports ++ replicate count None

  abbrev starts_now : List ℕ
  starts_now = starts ++ length more ∷ []

  more_long : length more ≡ length ports + count
  more_long = length-append ports (replicate count None) ∙ ap (λ k. length ports + k) (length-replicate {A = Option ℕ} count None)

  spans_now : spans_of starts_now ≡ spans_of starts ++ (length ports, count) ∷ []
  spans_now =
      let count_is : length more - slice_index starts n ≡ count = omega (arith, more_long, last) in
      spans_push starts n (length more) long ∙ ap₂ (λ a b. spans_of starts ++ (a, b) ∷ []) last count_is

  old_start : (m : ℕ) → m < length starts → slice_index starts_now m ≡ slice_index starts m
  old_start m inside = get_or_append_left starts (length more ∷ []) 0 m inside

  pub last_now : slice_index starts_now (n + 1) ≡ length more
  last_now = get_or_push starts (length more) 0 (n + 1) long

  pub rows_now : rows_in more (spans_of starts_now) ≡ rows_in ports (spans_of starts) ++ replicate count None ∷ []
  rows_now = ap (rows_in more) spans_now ∙ more_rows ports (spans_of starts) keeps.rows count

  pub keeps_now : KeepsStarts more starts_now
  keeps_now = record {
    some = omega (arith, length_push starts (length more));
    rises = λ m inside. ⊎_elim
        (λ (old : m + 1 < length starts). let a = old_start m (omega arith) in let b = old_start (m + 1) old in let up = keeps.rises m old in omega arith)
        (λ (new : length starts ≤ m + 1).
        let m_is : m ≡ n = omega (arith, length_push starts (length more)) in
        subst (λ k. slice_index starts_now k ≤ slice_index starts_now (k + 1)) (sym m_is)
        (let a = old_start n (omega arith) in let b = last_now in omega (arith, more_long, last)))
        (cases_lt (m + 1) (length starts));
    rows = subst (KeepsRows more) (sym spans_now) (more_keeps ports (spans_of starts) keeps.rows count);
  }
