-- What parameters are supplied with, laid out one after the other.
use Rattle.std.proofs.Common.{◌≡◌, ℕ, zero, suc, ◌+◌, ◌<◌, ◌≤◌, Bool, true, false, cond, ◌&&◌, int_le, ℤ, List, [], ◌∷◌, ◌++◌, length, drop, Option, Some, None, Ok, Err, refl, sym, ap, subst, ◌∙◌, append_assoc, arith, get_or}
use Rattle.std.specs.List.{slice_get}
use Rattle.std.proofs.lemmas.List.{drop_more, drop-drop, get_or-drop}
use Rattle.pisdf_model.specs.ParamOrder.{is_chosen_kind}
use Rattle.pisdf_model.specs.Ports.{is_inherited}
use Rattle.pisdf_model.specs.Details.{from_number}
use Rattle.pisdf_model.specs.declared.param.Param.{Param}
use Rattle.pisdf_model.specs.declared.param.ParamKind.{ParamKind}
use Rattle.pisdf_model.specs.declared.param.ParamKind.TheVariants.{Inherited, Derived, Chosen}
use Rattle.pisdf_model.proofs.Lists.{left_none, right_none}
use Rattle.param_resolver.specs.Assignment.{fault_in, supplied_next, supplied_to, supplied_within, one_if, outcome, outcomes, value_in, values_in}
use Rattle.param_resolver.specs.EarlyCheck.{IsEarlyOf, early_values, supplied_early, supplied_late}
use Rattle.param_resolver.specs.Settled.{AreOrdered}
use Rattle.param_resolver.specs.declared.fault.Why.TheVariants.{Value}
use Rattle.param_resolver.proofs.Assignments.{is_assignment}

-- what was laid out, and what is left, is all of it
pub record GivesSoFar (params : List Param) (inherited chosen : List ℤ) (i a b : ℕ) (supplied : List (Option ℤ)) : Type 0 where
  pub all : supplied ++ supplied_to (drop i params) (drop a inherited) (drop b chosen) ≡ supplied_to params inherited chosen
  pub few_inherited : a ≤ i
  pub few_chosen : b ≤ i

pub first_of_rest : (xs : List ℤ) (n : ℕ) → slice_get (drop n xs) 0 ≡ slice_get xs n
first_of_rest [] zero = refl
first_of_rest [] (suc n) = refl
first_of_rest (x ∷ xs) zero = refl
first_of_rest (x ∷ xs) (suc n) = first_of_rest xs n

one_at_most : (b : Bool) → one_if b ≤ 1
one_at_most true = omega arith
one_at_most false = omega arith

pub gives_more : (params : List Param) (inherited chosen : List ℤ) (i a b : ℕ) (supplied : List (Option ℤ)) (p : Param) → i < length params → p ≡ get_or params i p → GivesSoFar params inherited chosen i a b supplied
    → GivesSoFar params inherited chosen (i + 1) (a + one_if (is_inherited p.kind)) (b + one_if (is_chosen_kind p.kind)) (supplied ++ supplied_next p.kind (slice_get inherited a) (slice_get chosen b) ∷ [])
gives_more params inherited chosen i a b supplied p inside is so_far = record {
  all =
      append_assoc supplied (supplied_next p.kind (slice_get inherited a) (slice_get chosen b) ∷ []) (supplied_to (drop (i + 1) params) (drop (a + one_if (is_inherited p.kind)) inherited) (drop (b + one_if (is_chosen_kind p.kind)) chosen))
      ∙ ap (λ rest. supplied ++ rest) (sym here) ∙ so_far.all;
  few_inherited = let one = one_at_most (is_inherited p.kind) in let few = so_far.few_inherited in omega arith;
  few_chosen = let one = one_at_most (is_chosen_kind p.kind) in let few = so_far.few_chosen in omega arith;
}
  where
    rest_is : drop i params ≡ p ∷ drop (i + 1) params
    rest_is = drop_more params i p inside ∙ ap (λ q. q ∷ drop (i + 1) params) (sym is)

    here : supplied_to (drop i params) (drop a inherited) (drop b chosen)
        ≡ supplied_next p.kind (slice_get inherited a) (slice_get chosen b) ∷ supplied_to (drop (i + 1) params) (drop (a + one_if (is_inherited p.kind)) inherited) (drop (b + one_if (is_chosen_kind p.kind)) chosen)
    here = rw (rest_is, first_of_rest inherited a, first_of_rest chosen b, drop-drop (one_if (is_inherited p.kind)) a inherited, drop-drop (one_if (is_chosen_kind p.kind)) b chosen) refl

-- ---- once the configuration actors fired

pub record GivesLate (params : List Param) (known : List (Option ℤ)) (chosen : List ℤ) (i b : ℕ) (supplied : List (Option ℤ)) : Type 0 where
  pub all : supplied ++ supplied_late (drop i params) (drop i known) (drop b chosen) ≡ supplied_late params known chosen
  pub few_chosen : b ≤ i

first_known : (xs : List (Option ℤ)) (n : ℕ) → get_or (drop n xs) 0 None ≡ get_or xs n None
first_known xs n = let e : n + 0 ≡ n = omega arith in get_or-drop n xs 0 None ∙ ap (λ k. get_or xs k None) e

pub gives_late_more : (params : List Param) (known : List (Option ℤ)) (chosen : List ℤ) (i b : ℕ) (supplied : List (Option ℤ)) (p : Param) → i < length params → p ≡ get_or params i p → GivesLate params known chosen i b supplied
    → GivesLate params known chosen (i + 1) (b + one_if (is_chosen_kind p.kind)) (supplied ++ supplied_next p.kind (get_or known i None) (slice_get chosen b) ∷ [])
gives_late_more params known chosen i b supplied p inside is so_far = record {
  all =
      append_assoc supplied (supplied_next p.kind (get_or known i None) (slice_get chosen b) ∷ []) (supplied_late (drop (i + 1) params) (drop (i + 1) known) (drop (b + one_if (is_chosen_kind p.kind)) chosen))
      ∙ ap (λ rest. supplied ++ rest) (sym here) ∙ so_far.all;
  few_chosen = let one = one_at_most (is_chosen_kind p.kind) in let few = so_far.few_chosen in omega arith;
}
  where
    rest_is : drop i params ≡ p ∷ drop (i + 1) params
    rest_is = drop_more params i p inside ∙ ap (λ q. q ∷ drop (i + 1) params) (sym is)

    here : supplied_late (drop i params) (drop i known) (drop b chosen)
        ≡ supplied_next p.kind (get_or known i None) (slice_get chosen b) ∷ supplied_late (drop (i + 1) params) (drop (i + 1) known) (drop (b + one_if (is_chosen_kind p.kind)) chosen)
    here = rw (rest_is, first_known known i, first_of_rest chosen b, drop-drop 1 i known, drop-drop (one_if (is_chosen_kind p.kind)) b chosen) refl

-- what is known of the inherited parameters is what they were supplied with
KnowsInherited : List Param → List ℤ → List (Option ℤ) → Type 0
KnowsInherited [] inherited known = Unit {0}
KnowsInherited (p ∷ params) inherited known = (is_inherited p.kind ≡ true → get_or known 0 None ≡ slice_get inherited 0) × KnowsInherited params (drop (one_if (is_inherited p.kind)) inherited) (drop 1 known)

pub length-late : (params : List Param) (known : List (Option ℤ)) (chosen : List ℤ) → length (supplied_late params known chosen) ≡ length params
length-late [] known chosen = refl
length-late (p ∷ params) known chosen = ap suc (length-late params (drop 1 known) (drop (one_if (is_chosen_kind p.kind)) chosen))

next_alike : (kind : ParamKind) (a b c : Option ℤ) → (is_inherited kind ≡ true → a ≡ b) → supplied_next kind a c ≡ supplied_next kind b c
next_alike Inherited a b c same = same refl
next_alike (Derived expr) a b c same = refl
next_alike Chosen a b c same = refl

late_alike : (params : List Param) (inherited chosen : List ℤ) (known : List (Option ℤ)) → KnowsInherited params inherited known → supplied_late params known chosen ≡ supplied_to params inherited chosen
unfolding KnowsInherited
late_alike [] inherited chosen known knows = refl
late_alike (p ∷ params) inherited chosen known knows =
    ap (λ v. v ∷ supplied_late params (drop 1 known) (drop (one_if (is_chosen_kind p.kind)) chosen)) (next_alike p.kind (get_or known 0 None) (slice_get inherited 0) (slice_get chosen 0) knows.0)
    ∙ ap (λ rest. supplied_next p.kind (slice_get inherited 0) (slice_get chosen 0) ∷ rest) (late_alike params (drop (one_if (is_inherited p.kind)) inherited) (drop (one_if (is_chosen_kind p.kind)) chosen) (drop 1 known) knows.1)

within_value : (b : Bool) (n : ℕ) (value : ℤ) → fault_in n (cond b (Ok (Some value)) (Err (Value value))) ≡ [] → value_in (cond b (Ok (Some value)) (Err (Value value))) ≡ Some value
within_value true n value none = refl
within_value false n value none = cc

supplied_value : (low high : ℤ) (n : ℕ) (g : Option ℤ) → fault_in n (supplied_within low high g) ≡ [] → value_in (supplied_within low high g) ≡ g
supplied_value low high n None none = refl
supplied_value low high n (Some value) none = within_value (int_le low value && int_le value high) n value none

kind_value : (values : List (Option ℤ)) (low high : ℤ) (n : ℕ) (kind : ParamKind) (a b : Option ℤ) → fault_in n (outcome values low high kind (supplied_next kind a b)) ≡ [] → is_inherited kind ≡ true → value_in (outcome values low high kind (supplied_next kind a b)) ≡ a
kind_value values low high n Inherited a b none is = supplied_value low high n a none
kind_value values low high n (Derived expr) a b none is = cc
kind_value values low high n Chosen a b none is = cc

knows_inherited : (values : List (Option ℤ)) (n : ℕ) (params : List Param) (inherited chosen : List ℤ) → from_number n fault_in (outcomes values params (supplied_to params inherited chosen)) ≡ [] → KnowsInherited params inherited (values_in (outcomes values params (supplied_to params inherited chosen)))
unfolding KnowsInherited
knows_inherited values n [] inherited chosen none = tt
knows_inherited values n (p ∷ params) inherited chosen none = (
  kind_value values p.low p.high n p.kind (slice_get inherited 0) (slice_get chosen 0) (left_none _ _ none),
  knows_inherited values (n + 1) params (drop (one_if (is_inherited p.kind)) inherited) (drop (one_if (is_chosen_kind p.kind)) chosen) (right_none (fault_in n (outcome values p.low p.high p.kind (supplied_next p.kind (slice_get inherited 0) (slice_get chosen 0)))) _ none),
)

-- what parameters are supplied with once the configuration actors fired is what they are supplied with by the inherited and the chosen values
pub late_is : (params : List Param) (inherited chosen : List ℤ) (known : List (Option ℤ)) → AreOrdered params → IsEarlyOf params inherited known → supplied_late params known chosen ≡ supplied_to params inherited chosen
late_is params inherited chosen known ordered early =
    let values = early_values params inherited in
    let worked = is_assignment params (supplied_early params inherited) ordered in
    late_alike params inherited chosen known (subst (λ vs. KnowsInherited params inherited vs) (sym (early.known ∙ worked)) (knows_inherited values 0 params inherited [] early.sound))
