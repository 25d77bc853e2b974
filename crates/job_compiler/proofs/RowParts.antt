-- Rows that lie in one list, when an edge is put to a port and when a row is put behind them.
use Rattle.std.proofs.Common.{◌≡◌, ℕ, ◌+◌, ◌<◌, ◌≤◌, ⊎_elim, inl, inr, List, [], ◌∷◌, ◌++◌, length, set, get_or, take, drop, replicate, refl, sym, ap, ◌∙◌, subst, arith}
use Rattle.std.specs.Prelude.{◌≢◌, ◌⊎◌, Option, Some, None}
use Rattle.std.proofs.lemmas.Bool.{cases_eq, cases_lt}
use Rattle.std.proofs.lemmas.List.{length-set, length-map, length-take-le, length-drop, length-append, length-replicate, get_or-map, get_or-take, get_or-drop, get_or-set_same, get_or-set_other, get_or_append_left, same_lists, drop_at, take_all, map_push, length_push, get_or_push}
use Rattle.job_compiler.specs.Rows.{row_of}
use Rattle.job_compiler.specs.Rows.{part_of, rows_in, span_at, KeepsRows}

-- a port of a row, where it lies
at_part : (ports : List (Option ℕ)) (span : ℕ × ℕ) (i : ℕ) (d : Option ℕ) → i < span.1 → get_or (part_of ports span) i d ≡ get_or ports (span.0 + i) d
at_part ports span i d inside = get_or-take span.1 (drop span.0 ports) i d inside ∙ get_or-drop span.0 ports i d

long_part : (ports : List (Option ℕ)) (span : ℕ × ℕ) → span.0 + span.1 ≤ length ports → length (part_of ports span) ≡ span.1
long_part ports span within = length-take-le span.1 (drop span.0 ports) (omega (arith, within, length-drop span.0 ports))

pub row_is : (ports : List (Option ℕ)) (spans : List (ℕ × ℕ)) (n : ℕ) → n < length spans → row_of (rows_in ports spans) n ≡ part_of ports (span_at spans n)
row_is ports spans n inside = get_or-map (part_of ports) spans n (0, 0) [] inside

pub port_below : (ports : List (Option ℕ)) (spans : List (ℕ × ℕ)) → KeepsRows ports spans → (n p : ℕ) → n < length spans → p < length (row_of (rows_in ports spans) n) → p < (span_at spans n).1
port_below ports spans keeps n p inside below =
    omega (arith, below, ap length (row_is ports spans n inside) ∙ long_part ports (span_at spans n) (keeps.within n inside))

module _ (ports : List (Option ℕ)) (spans : List (ℕ × ℕ)) (keeps : KeepsRows ports spans) (n p e : ℕ) (inside : n < length spans) (below : p < (span_at spans n).1) where
  abbrev at : ℕ
  at = (span_at spans n).0 + p

  abbrev later : List (Option ℕ)
  later = set ports at (Some e)

  abbrev new_row : List (Option ℕ)
  new_row = set (row_of (rows_in ports spans) n) p (Some e)

  at_in : at < length ports
  at_in = let within = keeps.within n inside in omega arith

  other_part : (m : ℕ) → m < length spans → m ≢ n → part_of later (span_at spans m) ≡ part_of ports (span_at spans m)
  other_part m m_in differs =
      let within = keeps.within m m_in in
      let long = long_part ports (span_at spans m) within in
      let long_later = long_part later (span_at spans m) (omega (arith, within, length-set ports at (Some e))) in
      same_lists (part_of later (span_at spans m)) (part_of ports (span_at spans m)) (long_later ∙ sym long)
      (λ k d k_in.
      let k_below : k < (span_at spans m).1 = omega (arith, k_in, long_later) in
      let elsewhere : (span_at spans m).0 + k ≢ at = λ same. differs (keeps.apart m n k p m_in inside k_below below same) in
      at_part later (span_at spans m) k d k_below ∙ (get_or-set_other ports at ((span_at spans m).0 + k) (Some e) d elsewhere ∙ sym (at_part ports (span_at spans m) k d k_below)))

  own_part : part_of later (span_at spans n) ≡ new_row
  own_part =
      let within = keeps.within n inside in
      let long = long_part ports (span_at spans n) within in
      let long_later = long_part later (span_at spans n) (omega (arith, within, length-set ports at (Some e))) in
      let row = row_is ports spans n inside in
      let long_row : length (row_of (rows_in ports spans) n) ≡ (span_at spans n).1 = ap length row ∙ long in
      same_lists (part_of later (span_at spans n)) new_row (long_later ∙ sym (length-set (row_of (rows_in ports spans) n) p (Some e) ∙ long_row))
      (λ k d k_in.
      let k_below : k < (span_at spans n).1 = omega (arith, k_in, long_later) in
      at_part later (span_at spans n) k d k_below ∙ ⊎_elim
      (λ (same : k ≡ p). subst (λ x. get_or later ((span_at spans n).0 + x) d ≡ get_or new_row x d) (sym same)
      (get_or-set_same ports at (Some e) d at_in ∙ sym (get_or-set_same (row_of (rows_in ports spans) n) p (Some e) d (omega (arith, below, long_row)))))
      (λ (differs : k ≡ p → ⊥).
      get_or-set_other ports at ((span_at spans n).0 + k) (Some e) d (λ same. differs (omega (arith, same)))
      ∙ (sym (at_part ports (span_at spans n) k d k_below) ∙ (ap (λ r. get_or r k d) (sym row) ∙ sym (get_or-set_other (row_of (rows_in ports spans) n) p k (Some e) d differs))))
      (cases_eq k p))

  pub put_rows : rows_in later spans ≡ set (rows_in ports spans) n new_row
  put_rows =
      let long = length-map spans (part_of ports) in
      let long_later = length-map spans (part_of later) in
      same_lists (rows_in later spans) (set (rows_in ports spans) n new_row) (long_later ∙ sym (length-set (rows_in ports spans) n new_row ∙ long))
      (λ k d k_in.
      let k_below : k < length spans = omega (arith, k_in, long_later) in
      get_or-map (part_of later) spans k (0, 0) d k_below ∙ ⊎_elim
      (λ (same : k ≡ n). subst (λ x. part_of later (span_at spans x) ≡ get_or (set (rows_in ports spans) n new_row) x d) (sym same)
      (own_part ∙ sym (get_or-set_same (rows_in ports spans) n new_row d (omega (arith, inside, long)))))
      (λ (differs : k ≡ n → ⊥).
      other_part k k_below differs ∙ (sym (get_or-map (part_of ports) spans k (0, 0) d k_below) ∙ sym (get_or-set_other (rows_in ports spans) n k new_row d differs)))
      (cases_eq k n))

module _ (ports : List (Option ℕ)) (spans : List (ℕ × ℕ)) (keeps : KeepsRows ports spans) (count : ℕ) where
  abbrev more : List (Option ℕ)
  more = ports ++ replicate count None

  abbrev new_span : ℕ × ℕ
  new_span = (length ports, count)

  abbrev spans_now : List (ℕ × ℕ)
  spans_now = spans ++ new_span ∷ []

  more_long : length more ≡ length ports + count
  more_long = length-append ports (replicate count None) ∙ ap (λ k. length ports + k) (length-replicate {A = Option ℕ} count None)

  old_part : (n : ℕ) → n < length spans → part_of more (span_at spans n) ≡ part_of ports (span_at spans n)
  old_part n inside =
      let within = keeps.within n inside in
      let long = long_part ports (span_at spans n) within in
      let long_more = long_part more (span_at spans n) (omega (arith, within, more_long)) in
      same_lists (part_of more (span_at spans n)) (part_of ports (span_at spans n)) (long_more ∙ sym long)
      (λ k d k_in.
      let k_below : k < (span_at spans n).1 = omega (arith, k_in, long_more) in
      at_part more (span_at spans n) k d k_below ∙ (get_or_append_left ports (replicate count None) d ((span_at spans n).0 + k) (omega (arith, within, k_below)) ∙ sym (at_part ports (span_at spans n) k d k_below)))

  old_rows : rows_in more spans ≡ rows_in ports spans
  old_rows = same_lists (rows_in more spans) (rows_in ports spans) (length-map spans (part_of more) ∙ sym (length-map spans (part_of ports)))
      (λ k d k_in.
      let k_below : k < length spans = omega (arith, k_in, length-map spans (part_of more)) in
      get_or-map (part_of more) spans k (0, 0) d k_below ∙ (old_part k k_below ∙ sym (get_or-map (part_of ports) spans k (0, 0) d k_below)))

  new_part : part_of more new_span ≡ replicate count None
  new_part = ap (take count) (drop_at ports (replicate count None) (length ports) refl)
      ∙ take_all count (replicate count None) (omega (arith, length-replicate {A = Option ℕ} count None))

  pub more_rows : rows_in more spans_now ≡ rows_in ports spans ++ replicate count None ∷ []
  more_rows = map_push (part_of more) spans new_span ∙ (ap (λ rows. rows ++ part_of more new_span ∷ []) old_rows ∙ ap (λ row. rows_in ports spans ++ row ∷ []) new_part)

  old_span : (n : ℕ) → n < length spans → span_at spans_now n ≡ span_at spans n
  old_span n inside = get_or_append_left spans (new_span ∷ []) (0, 0) n inside

  last_span : span_at spans_now (length spans) ≡ new_span
  last_span = get_or_push spans new_span (0, 0) (length spans) refl

  -- a span is one of those that were there, or the new one
  which : (n : ℕ) → n < length spans_now → ((n < length spans) × (span_at spans_now n ≡ span_at spans n)) ⊎ ((n ≡ length spans) × (span_at spans_now n ≡ new_span))
  which n inside = ⊎_elim
      (λ (old : n < length spans). inl (old, old_span n old))
      (λ (new : length spans ≤ n).
      let is : n ≡ length spans = omega (arith, inside, length_push spans new_span) in
      inr (is, ap (span_at spans_now) is ∙ last_span))
      (cases_lt n (length spans))

  within_now : (n : ℕ) → n < length spans_now → (span_at spans_now n).0 + (span_at spans_now n).1 ≤ length more
  within_now n inside = ⊎_elim
      (λ (old : (n < length spans) × (span_at spans_now n ≡ span_at spans n)).
      subst (λ (s : ℕ × ℕ). s.0 + s.1 ≤ length more) (sym old.1) (omega (arith, keeps.within n old.0, more_long)))
      (λ (new : (n ≡ length spans) × (span_at spans_now n ≡ new_span)).
      subst (λ (s : ℕ × ℕ). s.0 + s.1 ≤ length more) (sym new.1) (omega (arith, more_long)))
      (which n inside)

  apart_now : (n m k l : ℕ) → n < length spans_now → m < length spans_now → k < (span_at spans_now n).1 → l < (span_at spans_now m).1
      → (span_at spans_now n).0 + k ≡ (span_at spans_now m).0 + l → n ≡ m
  apart_now n m k l n_in m_in k_in l_in same = ⊎_elim
      (λ (n_old : (n < length spans) × (span_at spans_now n ≡ span_at spans n)).
      let n_within = keeps.within n n_old.0 in
      let k_is : k < (span_at spans n).1 = subst (λ (s : ℕ × ℕ). k < s.1) n_old.1 k_in in
      ⊎_elim
      (λ (m_old : (m < length spans) × (span_at spans_now m ≡ span_at spans m)).
      keeps.apart n m k l n_old.0 m_old.0 k_is (subst (λ (s : ℕ × ℕ). l < s.1) m_old.1 l_in)
      (sym (ap (λ (s : ℕ × ℕ). s.0 + k) n_old.1) ∙ (same ∙ ap (λ (s : ℕ × ℕ). s.0 + l) m_old.1)))
      (λ (m_new : (m ≡ length spans) × (span_at spans_now m ≡ new_span)).
      let met : (span_at spans n).0 + k ≡ length ports + l = sym (ap (λ (s : ℕ × ℕ). s.0 + k) n_old.1) ∙ (same ∙ ap (λ (s : ℕ × ℕ). s.0 + l) m_new.1) in
      let bad : ⊥ = omega (arith, met, n_within, k_is) in absurd bad)
      (which m m_in))
      (λ (n_new : (n ≡ length spans) × (span_at spans_now n ≡ new_span)). ⊎_elim
      (λ (m_old : (m < length spans) × (span_at spans_now m ≡ span_at spans m)).
      let m_within = keeps.within m m_old.0 in
      let l_is : l < (span_at spans m).1 = subst (λ (s : ℕ × ℕ). l < s.1) m_old.1 l_in in
      let met : length ports + k ≡ (span_at spans m).0 + l = sym (ap (λ (s : ℕ × ℕ). s.0 + k) n_new.1) ∙ (same ∙ ap (λ (s : ℕ × ℕ). s.0 + l) m_old.1) in
      let bad : ⊥ = omega (arith, met, m_within, l_is) in absurd bad)
      (λ (m_new : (m ≡ length spans) × (span_at spans_now m ≡ new_span)). n_new.0 ∙ sym m_new.0)
      (which m m_in))
      (which n n_in)

  pub more_keeps : KeepsRows more spans_now
  more_keeps = record { within = within_now; apart = apart_now }
