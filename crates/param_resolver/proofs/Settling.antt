-- Parameters are settled one after the other.
use Rattle.std.proofs.Common.{◌≡◌, ℕ, zero, suc, ◌+◌, ◌<◌, ◌≤◌, ◌≢◌, ⊎_elim, ℤ, pos, List, [], ◌∷◌, ◌++◌, length, map, take, set, All, Contains, Option, Some, None, IsSome, IfSome, Result, refl, sym, ap, ◌∙◌, subst, arith, get_or, unwrap_or, below_more, drop, replicate}
use Rattle.std.specs.List.{slice_get}
use Rattle.std.proofs.lemmas.Bool.{cases_lt, false≢true}
use Rattle.std.proofs.lemmas.List.{ext_get_or, get_or-drop, get_or-map, get_or-set_other, get_or-set_same, length-map, map-set}
use Rattle.std.proofs.lemmas.List.Elements.{All-contains, All-get_or, All-more, Contains-append_left, Contains-append_right, Contains-get_or}
use Rattle.std.proofs.lemmas.Option.{slice_get-get_or}
use Rattle.std.proofs.Math.ListN.{get_or-map as get_or-map_same}
use Rattle.param_expr.specs.Eval.{RefersBelow}
use Rattle.param_expr.specs.Tree.{Tree, number, param, binary}
use Rattle.pisdf_model.specs.Arrows.{to_of}
use Rattle.pisdf_model.specs.Details.{first, from_number}
use Rattle.pisdf_model.specs.ParamOrder.{places_of, refers}
use Rattle.pisdf_model.specs.declared.param.Param.{Param}
use Rattle.pisdf_model.specs.declared.param.ParamKind.{ParamKind}
use Rattle.pisdf_model.specs.declared.param.ParamKind.TheVariants.{Inherited, Derived, Chosen}
use Rattle.param_resolver.specs.Assignment.{IsAssignment, fault_in, numbers, outcome, outcomes, param_faults, value_in, values_in, values_of}
use Rattle.param_resolver.specs.Settled.{AreOrdered, AreSettled, Found, Keeps, fault_found, faults_found, KeepsTelling, ReferInside, Tells, found_at, outcome_at, outcome_of, references_of, value_found, values_found}
use Rattle.param_resolver.specs.declared.fault.Why.{Why}
use Rattle.param_resolver.proofs.Assignments.{is_assignment, same_outcome, value_worked}
use Rattle.param_resolver.proofs.Ranks.{rank, rank_falls}

-- these places are settled now, and all that was stays
pub record Settles (params : List Param) (supplied : List (Option ℤ)) (old new : Found) (values : List ℤ) (places : List ℕ) : Type 0 where
  pub long : length new ≡ length old
  pub many : length values ≡ length new
  pub settled : All (λ q. IsSome (found_at new q)) places
  pub kept : Keeps old new
  pub told : KeepsTelling params supplied old new
  pub numbered : values ≡ numbers (values_found new)

still_some : (old new : Found) → Keeps old new → (q : ℕ) → IsSome (found_at old q) → IsSome (found_at new q)
still_some old new kept q some = subst (λ o. IsSome o) (sym (kept q some)) some

pub settles_more : (params : List Param) (supplied : List (Option ℤ)) (old mid new : Found) (before values : List ℤ) (places : List ℕ) (i : ℕ)
    → i < length places → Settles params supplied old mid before (take i places)
    → length new ≡ length mid → length values ≡ length before → IsSome (found_at new (get_or places i 0)) → Keeps mid new → KeepsTelling params supplied mid new → values ≡ numbers (values_found new)
    → Settles params supplied old new values (take (i + 1) places)
settles_more params supplied old mid new before values places i inside so_far long many settled kept told numbered = record {
  long = long ∙ so_far.long;
  many = many ∙ so_far.many ∙ sym long;
  settled = All-more (λ q. IsSome (found_at new q)) places i 0 inside (λ k d below. still_some mid new kept (get_or (take i places) k d) (so_far.settled k d below)) settled;
  kept = λ q some. kept q (still_some old mid so_far.kept q some) ∙ so_far.kept q some;
  told = λ answer is tells. told answer is (so_far.told answer is tells);
  numbered = numbered;
}

-- ---- what a parameter refers to

refers_below : (n : ℕ) (t : Tree) → ((q : ℕ) → Contains (places_of t) q → q < n) → RefersBelow n t
refers_below n (number z) below = tt
refers_below n (param i) below = below i (0, omega arith, refl)
refers_below n (binary op x y) below = (
  refers_below n x (λ q c. below q (Contains-append_left (places_of x) (places_of y) q c)),
  refers_below n y (λ q c. below q (Contains-append_right (places_of x) (places_of y) q c)),
)

refer_inside : (n : ℕ) (kind : ParamKind) → ((q : ℕ) → Contains (refers kind) q → q < n) → ReferInside n kind
refer_inside n Inherited below = tt
refer_inside n (Derived expr) below = refers_below n expr below
refer_inside n Chosen below = tt

module _ (params : List Param) (ordered : AreOrdered params) (place : ℕ) (inside : place < length params) (p : Param) (is : p ≡ get_or params place p) where
  pub names_are : to_of (references_of params) place ≡ refers p.kind
  names_are = get_or-map (λ (x : Param). refers x.kind) params place p [] inside ∙ ap (λ (x : Param). refers x.kind) (sym is)

  names_below : (q : ℕ) → Contains (refers p.kind) q → q < length params
  names_below q c =
      let there : place < length (references_of params) = rw (length-map {A = Param}) inside in
      let all = All-get_or (λ to. All (λ u. u < length (references_of params)) to) (references_of params) place [] there ordered.inside in
      let below = All-contains (λ u. u < length (references_of params)) (to_of (references_of params) place) q all (rw names_are c) in
      rw (length-map {A = Param}) at below

  pub name_below : (places : List ℕ) → places ≡ refers p.kind → (i : ℕ) → i < length places → get_or places i 0 < length params
  name_below places are i there = names_below (get_or places i 0) (subst (λ xs. Contains xs (get_or places i 0)) are (Contains-get_or places i 0 there))

  pub name_lower : (places : List ℕ) → places ≡ refers p.kind → (i : ℕ) → i < length places → rank (references_of params) (get_or places i 0) < rank (references_of params) place
  name_lower places are i there =
      rank_falls (references_of params) ordered.no_cycle ordered.inside place (get_or places i 0)
      (subst (λ xs. Contains xs (get_or places i 0)) (are ∙ sym names_are) (Contains-get_or places i 0 there))

  pub names_inside : (n : ℕ) → n ≡ length params → ReferInside n p.kind
  names_inside n long = refer_inside n p.kind (λ q c. rw long (names_below q c))

  -- ---- what is written down of it

  module _ (supplied : List (Option ℤ)) (long : length supplied ≡ length params) (old found : Found) (settled : All (λ q. IsSome (found_at found q)) (refers p.kind)) (told : KeepsTelling params supplied old found) (whole : length found ≡ length params) where
    told_here : (values : List (Option ℤ)) → IsAssignment params supplied values → Tells params supplied values found → (q : ℕ) → Contains (refers p.kind) q → get_or (values_found found) q None ≡ get_or values q None
    told_here values assigned tells q c =
        let some = All-contains (λ r. IsSome (found_at found r)) (refers p.kind) q settled c in
        get_or-map_same value_found found q None
        ∙ by_found (found_at found q) some (tells q)
        ∙ sym (value_worked values params supplied q) ∙ ap (λ v. get_or v q None) (sym assigned)
      where
        by_found : (o : Option (Result (Option ℤ) Why)) → IsSome o → IfSome o (λ r. r ≡ outcome_at params supplied values q) → value_found o ≡ value_in (outcome_at params supplied values q)
        by_found None some tells = absurd (false≢true some)
        by_found (Some r) some tells = ap value_in tells

    here_is : (values : List (Option ℤ)) → outcome_at params supplied values place ≡ outcome values p.low p.high p.kind (get_or supplied place None)
    here_is values = ap (λ o. outcome_of values o (get_or supplied place None)) (slice_get-get_or params place p inside ∙ ap Some (sym is))

    outcome_is : (values : List (Option ℤ)) → IsAssignment params supplied values → Tells params supplied values found → outcome (values_found found) p.low p.high p.kind (get_or supplied place None) ≡ outcome_at params supplied values place
    outcome_is values assigned tells =
        same_outcome (values_found found) values p.low p.high p.kind (get_or supplied place None) (told_here values assigned tells) ∙ sym (here_is values)

    pub told_with : (o : Result (Option ℤ) Why) (g : Option ℤ) → g ≡ get_or supplied place None → o ≡ outcome (values_found found) p.low p.high p.kind g → KeepsTelling params supplied old (set found place (Some o))
    told_with o g g_is o_is values assigned before q =
        let tells = told values assigned before in
        ⊎_elim
        (λ (less : q < place). elsewhere tells (omega arith))
        (λ (more : place ≤ q). ⊎_elim
        (λ (above : place < q). elsewhere tells (omega arith))
        (λ (most : q ≤ place).
        let same : place ≡ q = omega arith in
        let family : ℕ → Type 0 = λ r. IfSome (found_at (set found place (Some o)) r) (λ x. x ≡ outcome_at params supplied values r) in
        subst family same (here tells))
        (cases_lt place q))
        (cases_lt q place)
      where
        there : place < length found
        there = omega arith

        elsewhere : Tells params supplied values found → q ≢ place → IfSome (found_at (set found place (Some o)) q) (λ x. x ≡ outcome_at params supplied values q)
        elsewhere tells apart = subst (λ x. IfSome x (λ y. y ≡ outcome_at params supplied values q)) (sym (get_or-set_other found place q (Some o) None apart)) (tells q)

        here : Tells params supplied values found → IfSome (found_at (set found place (Some o)) place) (λ x. x ≡ outcome_at params supplied values place)
        here tells =
            subst (λ x. IfSome x (λ y. y ≡ outcome_at params supplied values place)) (sym (get_or-set_same found place (Some o) None there))
            (o_is ∙ ap (λ v. outcome (values_found found) p.low p.high p.kind v) g_is ∙ outcome_is values assigned tells)

-- what is put down stays, at the place and elsewhere
pub kept_with : (old found : Found) (place : ℕ) (o : Result (Option ℤ) Why) → Keeps old found → found_at old place ≡ None → Keeps old (set found place (Some o))
kept_with old found place o kept fresh q some = ⊎_elim
    (λ (less : q < place). elsewhere (omega arith))
    (λ (more : place ≤ q). ⊎_elim
    (λ (above : place < q). elsewhere (omega arith))
    (λ (most : q ≤ place).
    let same : q ≡ place = omega arith in
    let there : IsSome (found_at old place) = subst (λ r. IsSome (found_at old r)) same some in
    absurd (false≢true (subst (λ x. IsSome x) fresh there)))
    (cases_lt place q))
    (cases_lt q place)
  where
    elsewhere : q ≢ place → found_at (set found place (Some o)) q ≡ found_at old q
    elsewhere apart = get_or-set_other found place q (Some o) None apart ∙ kept q some

-- the numbers go with the values
pub numbers_with : (found : Found) (values : List ℤ) (place : ℕ) (o : Result (Option ℤ) Why) (n : ℤ) → values ≡ numbers (values_found found) → n ≡ unwrap_or (value_in o) (pos 0) → set values place n ≡ numbers (values_found (set found place (Some o)))
numbers_with found values place o n are is =
    rw (are, is) (sym (ap numbers (map-set value_found found place (Some o)) ∙ map-set (λ v. unwrap_or v (pos 0)) (values_found found) place (value_in o)))

-- the places below one are settled now, and all that was stays
pub record SettlesBelow (params : List Param) (supplied : List (Option ℤ)) (old new : Found) (values : List ℤ) (n : ℕ) : Type 0 where
  pub long : length new ≡ length old
  pub many : length values ≡ length new
  pub settled : AreSettled n new
  pub told : KeepsTelling params supplied old new
  pub numbered : values ≡ numbers (values_found new)

pub settles_next : (params : List Param) (supplied : List (Option ℤ)) (old mid new : Found) (before values : List ℤ) (n : ℕ)
    → SettlesBelow params supplied old mid before n
    → length new ≡ length mid → length values ≡ length before → IsSome (found_at new n) → Keeps mid new → KeepsTelling params supplied mid new → values ≡ numbers (values_found new)
    → SettlesBelow params supplied old new values (n + 1)
settles_next params supplied old mid new before values n so_far long many settled kept told numbered = record {
  long = long ∙ so_far.long;
  many = many ∙ so_far.many ∙ sym long;
  settled = below_more (λ q. IsSome (found_at new q)) n (λ q below. still_some mid new kept q (so_far.settled q below)) settled;
  told = λ answer is tells. told answer is (so_far.told answer is tells);
  numbered = numbered;
}

-- ---- once all are settled

some_outcomes : (values : List (Option ℤ)) (params : List Param) (supplied : List (Option ℤ)) (q : ℕ) → q < length params → get_or (map (λ o. Some o) (outcomes values params supplied)) q None ≡ Some (outcome_at params supplied values q)
some_outcomes values [] supplied q inside = absurd (omega arith)
some_outcomes values (p ∷ params) supplied zero inside = refl
some_outcomes values (p ∷ params) supplied (suc q) inside =
    let next : get_or (drop 1 supplied) q None ≡ get_or supplied (suc q) None = get_or-drop 1 supplied q None ∙ ap (λ k. get_or supplied k None) (omega arith) in
    some_outcomes values params (drop 1 supplied) q (omega arith) ∙ ap (λ v. Some (outcome_of values (slice_get params q) v)) next

length-outcomes : (values : List (Option ℤ)) (params : List Param) (supplied : List (Option ℤ)) → length (outcomes values params supplied) ≡ length params
length-outcomes values [] supplied = refl
length-outcomes values (p ∷ params) supplied = ap suc (length-outcomes values params (drop 1 supplied))

some_is : (o : Option (Result (Option ℤ) Why)) (r : Result (Option ℤ) Why) → IsSome o → IfSome o (λ x. x ≡ r) → o ≡ Some r
some_is None r some tells = absurd (false≢true some)
some_is (Some x) r some tells = ap Some tells

faults_of_some : (n : ℕ) (os : List (Result (Option ℤ) Why)) → from_number n fault_found (map (λ o. Some o) os) ≡ from_number n fault_in os
faults_of_some n [] = refl
faults_of_some n (o ∷ os) = ap (λ rest. fault_in n o ++ rest) (faults_of_some (n + 1) os)

values_of_some : (os : List (Result (Option ℤ) Why)) → values_found (map (λ o. Some o) os) ≡ values_in os
values_of_some [] = refl
values_of_some (o ∷ os) = ap (λ rest. value_in o ∷ rest) (values_of_some os)

module _ (params : List Param) (supplied : List (Option ℤ)) (ordered : AreOrdered params) (old found : Found) (fresh : (q : ℕ) → found_at old q ≡ None) (long : length found ≡ length params) (settled : AreSettled (length params) found) (told : KeepsTelling params supplied old found) where
  tells_fresh : (values : List (Option ℤ)) → Tells params supplied values old
  tells_fresh values q = subst (λ o. IfSome o (λ r. r ≡ outcome_at params supplied values q)) (sym (fresh q)) tt

  all_found : found ≡ map (λ o. Some o) (outcomes (values_of params supplied) params supplied)
  all_found =
      let values = values_of params supplied in
      let tells = told values (is_assignment params supplied ordered) (tells_fresh values) in
      ext_get_or None found (map (λ o. Some o) (outcomes values params supplied)) (long ∙ sym (length-map (outcomes values params supplied) (λ o. Some o) ∙ length-outcomes values params supplied))
      (λ q inside. let there : q < length params = omega arith in some_is (found_at found q) (outcome_at params supplied values q) (settled q there) (tells q) ∙ sym (some_outcomes values params supplied q there))

  pub faults_are : faults_found found ≡ param_faults params supplied
  faults_are = ap faults_found all_found ∙ faults_of_some 0 (outcomes (values_of params supplied) params supplied)

  pub values_are : values_found found ≡ values_of params supplied
  values_are = ap values_found all_found ∙ values_of_some (outcomes (values_of params supplied) params supplied) ∙ sym (is_assignment params supplied ordered)

pub fresh_none : (n q : ℕ) → found_at (replicate n None) q ≡ None
fresh_none zero q = refl
fresh_none (suc n) zero = refl
fresh_none (suc n) (suc q) = fresh_none n q

pub fresh_numbers : (n : ℕ) → replicate n (pos 0) ≡ numbers (values_found (replicate n None))
fresh_numbers zero = refl
fresh_numbers (suc n) = ap (λ rest. pos 0 ∷ rest) (fresh_numbers n)

-- no first of them, none at all
pub none_first : {D : Type 0} (ds : List D) → first ds ≡ None → ds ≡ []
none_first [] none = refl
none_first (d ∷ ds) none = cc
