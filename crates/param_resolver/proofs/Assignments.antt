-- There is exactly one assignment, where no parameter depends on itself.
use Rattle.std.proofs.Common.{◌≡◌, ℕ, zero, suc, ◌<◌, ℤ, pos, List, [], ◌∷◌, length, drop, Contains, Option, None, refl, sym, ap, ◌∙◌, arith, get_or, unwrap_or}
use Rattle.std.specs.List.{slice_get}
use Rattle.std.proofs.lemmas.List.{get_or-drop, ext_get_or, length-map}
use Rattle.std.proofs.lemmas.List.Elements.{Contains-append_left, Contains-append_right}
use Rattle.std.proofs.Math.ListN.{get_or-map}
use Rattle.param_expr.specs.Eval.{eval_of, fault_of, value_of, overflow_of}
use Rattle.param_expr.specs.Tree.{Tree, number, param, binary}
use Rattle.pisdf_model.specs.Arrows.{to_of}
use Rattle.pisdf_model.specs.ParamOrder.{places_of, refers}
use Rattle.pisdf_model.specs.declared.param.Param.{Param}
use Rattle.pisdf_model.specs.declared.param.ParamKind.{ParamKind}
use Rattle.pisdf_model.specs.declared.param.ParamKind.TheVariants.{Inherited, Derived, Chosen}
use Rattle.param_resolver.specs.Assignment.{IsAssignment, are_sound, numbers, outcome, outcomes, value_in, values_after, values_in, values_of}
use Rattle.param_resolver.specs.Settled.{AreOrdered, outcome_at, outcome_of, references_of}
use Rattle.param_resolver.proofs.Ranks.{rank, rank_falls, rank_inside}

-- ---- what is worked out over values that agree

abbrev at : List (Option ℤ) → ℕ → Option ℤ
at values q = get_or values q None

module _ (a b : List (Option ℤ)) where
  abbrev Agree : List ℕ → Type 0
  Agree places = (q : ℕ) → Contains places q → at a q ≡ at b q

  same_sound : (places : List ℕ) → Agree places → are_sound a places ≡ are_sound b places
  same_sound [] agree = refl
  same_sound (x ∷ places) agree =
      let here : at a x ≡ at b x = agree x (0, omega arith, refl) in
      let rest = same_sound places (λ q c. agree q (Contains-append_right (x ∷ []) places q c)) in
      rw (here, rest) refl

  same_number : (i : ℕ) → at a i ≡ at b i → get_or (numbers a) i (pos 0) ≡ get_or (numbers b) i (pos 0)
  same_number i same =
      get_or-map (λ v. unwrap_or v (pos 0)) a i None ∙ ap (λ v. unwrap_or v (pos 0)) same ∙ sym (get_or-map (λ v. unwrap_or v (pos 0)) b i None)

  same_value : (t : Tree) → Agree (places_of t) → value_of (numbers a) t ≡ value_of (numbers b) t
  same_value (number n) agree = refl
  same_value (param i) agree = same_number i (agree i (0, omega arith, refl))
  same_value (binary op x y) agree =
      let left = same_value x (λ q c. agree q (Contains-append_left (places_of x) (places_of y) q c)) in
      let right = same_value y (λ q c. agree q (Contains-append_right (places_of x) (places_of y) q c)) in
      rw (left, right) refl

  same_fault : (t : Tree) → Agree (places_of t) → fault_of (numbers a) t ≡ fault_of (numbers b) t
  same_fault (number n) agree = refl
  same_fault (param i) agree = ap overflow_of (same_number i (agree i (0, omega arith, refl)))
  same_fault (binary op x y) agree =
      let on_left : Agree (places_of x) = λ q c. agree q (Contains-append_left (places_of x) (places_of y) q c) in
      let on_right : Agree (places_of y) = λ q c. agree q (Contains-append_right (places_of x) (places_of y) q c) in
      rw (same_fault x on_left, same_fault y on_right, same_value x on_left, same_value y on_right) refl

  same_eval : (t : Tree) → Agree (places_of t) → eval_of (numbers a) t ≡ eval_of (numbers b) t
  same_eval t agree = rw (same_fault t agree, same_value t agree) refl

  pub same_outcome : (low high : ℤ) (kind : ParamKind) (supplied : Option ℤ) → Agree (refers kind) → outcome a low high kind supplied ≡ outcome b low high kind supplied
  same_outcome low high Inherited supplied agree = refl
  same_outcome low high (Derived expr) supplied agree = rw (same_sound (places_of expr) agree, same_eval expr agree) refl
  same_outcome low high Chosen supplied agree = refl

-- ---- one parameter among all

-- what is worked out of the parameter at a place
pub value_worked : (values : List (Option ℤ)) (params : List Param) (supplied : List (Option ℤ)) (q : ℕ) → at (values_in (outcomes values params supplied)) q ≡ value_in (outcome_at params supplied values q)
value_worked values [] supplied q = refl
value_worked values (p ∷ params) supplied zero = refl
value_worked values (p ∷ params) supplied (suc q) =
    let next : get_or (drop 1 supplied) q None ≡ get_or supplied (suc q) None = get_or-drop 1 supplied q None ∙ ap (λ k. get_or supplied k None) (omega arith) in
    value_worked values params (drop 1 supplied) q ∙ ap (λ v. value_in (outcome_of values (slice_get params q) v)) next

pub length-worked : (values : List (Option ℤ)) (params : List Param) (supplied : List (Option ℤ)) → length (values_in (outcomes values params supplied)) ≡ length params
length-worked values [] supplied = refl
length-worked values (p ∷ params) supplied = ap suc (length-worked values params (drop 1 supplied))

named : List Param → ℕ → List ℕ
named params q = to_of (references_of params) q

-- over values that agree at all that it refers to
pub same_at : (a b : List (Option ℤ)) (params : List Param) (supplied : List (Option ℤ)) (q : ℕ) → ((r : ℕ) → Contains (to_of (references_of params) q) r → at a r ≡ at b r) → outcome_at params supplied a q ≡ outcome_at params supplied b q
same_at a b [] supplied q agree = refl
same_at a b (p ∷ params) supplied zero agree = same_outcome a b p.low p.high p.kind (get_or supplied 0 None) agree
same_at a b (p ∷ params) supplied (suc q) agree =
    let next : get_or supplied (suc q) None ≡ get_or (drop 1 supplied) q None = ap (λ k. get_or supplied k None) (omega arith) ∙ sym (get_or-drop 1 supplied q None) in
    ap (λ v. outcome_of a (slice_get params q) v) next ∙ same_at a b params (drop 1 supplied) q agree ∙ ap (λ v. outcome_of b (slice_get params q) v) (sym next)

module _ (params : List Param) (supplied : List (Option ℤ)) (ordered : AreOrdered params) where
  abbrev Rank : ℕ → ℕ
  Rank q = rank (references_of params) q

  falls : (q r : ℕ) → Contains (to_of (references_of params) q) r → Rank r < Rank q
  falls q r arrow = rank_falls (references_of params) ordered.no_cycle ordered.inside q r arrow

  -- ---- at most one

  unique_at : (a b : List (Option ℤ)) → IsAssignment params supplied a → IsAssignment params supplied b → (k q : ℕ) → Rank q < k → at a q ≡ at b q
  unique_at a b first second zero q low = absurd (omega arith)
  unique_at a b first second (suc k) q low =
      ap (λ v. at v q) first ∙ value_worked a params supplied q
      ∙ ap value_in (same_at a b params supplied q (λ r arrow. let less = falls q r arrow in unique_at a b first second k r (omega arith)))
      ∙ sym (value_worked b params supplied q) ∙ ap (λ v. at v q) (sym second)

  pub unique : (a b : List (Option ℤ)) → IsAssignment params supplied a → IsAssignment params supplied b → a ≡ b
  unique a b first second =
      let long : length a ≡ length b = ap length first ∙ length-worked a params supplied ∙ sym (length-worked b params supplied) ∙ ap length (sym second) in
      ext_get_or None a b long (λ q inside. unique_at a b first second (suc (Rank q)) q (omega arith))

  -- ---- and one

  settles : (k q : ℕ) → Rank q < k → at (values_after k params supplied) q ≡ at (values_after (suc k) params supplied) q
  unfolding values_after
  settles zero q low = absurd (omega arith)
  settles (suc k) q low =
      value_worked (values_after k params supplied) params supplied q
      ∙ ap value_in (same_at (values_after k params supplied) (values_after (suc k) params supplied) params supplied q (λ r arrow. let less = falls q r arrow in settles k r (omega arith)))
      ∙ sym (value_worked (values_after (suc k) params supplied) params supplied q)

  long_after : (k : ℕ) → length (values_after k params supplied) ≡ length params
  unfolding values_after
  long_after zero = length-map params (λ p. None)
  long_after (suc k) = length-worked (values_after k params supplied) params supplied

  pub is_assignment : IsAssignment params supplied (values_of params supplied)
  unfolding values_after
  is_assignment =
      let n = length params in
      let long : length (values_after n params supplied) ≡ n = long_after n in
      let same_length : length (values_after n params supplied) ≡ length (values_after (suc n) params supplied) = long ∙ sym (long_after (suc n)) in
      ext_get_or None (values_after n params supplied) (values_after (suc n) params supplied) same_length
      (λ q inside.
      let place : q < length (references_of params) = rw (length-map {A = Param}) (omega arith) in
      let low = rank_inside (references_of params) ordered.no_cycle q place in
      let most : length (references_of params) ≡ n = length-map params (λ (p : Param). refers p.kind) in
      settles n q (omega arith))
