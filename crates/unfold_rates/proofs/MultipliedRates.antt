-- The early check of the unfolded top graph, which finds nothing where so many times each rate is a rate.
use Rattle.std.proofs.Common.{◌≡◌, ℕ, suc, ◌+◌, ◌*◌, ◌<◌, ◌≤◌, ◌^◌, Bool, true, false, nat_le, ℤ, pos, negsuc, List, [], ◌∷◌, map, Option, Some, None, Result, Ok, Err, refl, ap, sym, ◌∙◌, subst, arith, mul_comm, if◌then◌else◌}
use Rattle.std.specs.List.{All}
use Rattle.std.specs.Result.{result_unwrap_or}
use Rattle.std.proofs.Math.IntN.{pos-*ℤ-pos}
use Rattle.std.proofs.lemmas.Bool.Decides.{nat_tests}
use Rattle.std.proofs.lemmas.Int.{ints}
use Rattle.param_expr.specs.Eval.{fault_of, in_i64, overflow_of, unless_fault, value_of}
use Rattle.param_expr.specs.Tree.{Tree}
use Rattle.param_expr.specs.declared.evaluation.EvalFault.{EvalFault}
use Rattle.param_resolver.specs.EarlyCheck.{Checked, as_refusal, check_by, check_of, config_faults, early_faults, early_numbers, early_of, supplied_early, rated_faults}
use Rattle.param_resolver.specs.Assignment.{param_faults}
use Rattle.param_resolver.specs.Rates.{as_rate, fault_at, interface_faults, interface_rates, rate_under}
use Rattle.param_resolver.specs.declared.fault.Why.{Why}
use Rattle.pisdf_model.specs.Details.{from_number}
use Rattle.pisdf_model.specs.InterfaceWires.{is_configuration}
use Rattle.pisdf_model.specs.declared.actor.Actor.{Actor}
use Rattle.pisdf_model.specs.declared.actor.Body.{Body}
use Rattle.pisdf_model.specs.declared.actor.Body.TheVariants.{Kernel, Config, Child, ConfigChild}
use Rattle.pisdf_model.specs.declared.graph.Graph.{Graph}
use Rattle.pisdf_model.specs.declared.graph.Interface.{Interface}
use Rattle.pisdf_model.proofs.Lists.{left_none, right_none}
use Rattle.sdf_level.specs.Invariants.{rate_limit}
use Rattle.unfold_rates.specs.Multiplied.{multiplied_graph, multiplied_interface, multiplied_rate}
use Rattle.unfold_rates.proofs.Lookups.{append_same}

-- ---- one rate

in_positive : (n : ℕ) → n < 2 ^ 63 → in_i64 (pos n) ≡ true
in_positive n h = grind (arith, ints)

no_overflow : (n : ℕ) → n < 2 ^ 63 → overflow_of (pos n) ≡ None
no_overflow n h = rw (in_positive n h) refl

small_rate : (n : ℕ) → n ≤ rate_limit → as_rate (Ok (pos n)) ≡ Ok n
small_rate n h = let e : nat_le n rate_limit ≡ true = grind (arith, nat_tests) in rw e refl

if_rate : (b : Bool) (n r : ℕ) (why : Why) (found : Result ℕ Why) → found ≡ (if b then Ok n else Err why) → found ≡ Ok r → n ≡ r
if_rate true n r why found is ok = cc
if_rate false n r why found is ok = absurd (cc)

-- a rate comes of a value without a fault
pub rate_is : (fault : Option EvalFault) (value : ℤ) (r : ℕ) → as_rate (unless_fault fault value) ≡ Ok r → (fault ≡ None) × (value ≡ pos r)
rate_is None (pos n) r ok = (refl, ap pos (if_rate (nat_le n rate_limit) n r _ _ refl ok))
rate_is None (negsuc n) r ok = absurd (cc)
rate_is (Some fault) value r ok = absurd (cc)

module _ (times : ℕ) (few : times ≤ 64) (values : List ℤ) where
  pub rate_multiplied : (rate : Tree) (r : ℕ) → rate_under values rate ≡ Ok r → times * r ≤ rate_limit → rate_under values (multiplied_rate times rate) ≡ Ok (times * r)
  rate_multiplied rate r ok within =
      let is = rate_is (fault_of values rate) (value_of values rate) r ok in
      let few' : times < 2 ^ 63 = omega arith in
      let small : r * times ≤ rate_limit = let e = mul_comm r times in omega arith in
      let small' : r * times < 2 ^ 63 = omega arith in
      rw (is.0, is.1, no_overflow times few', pos-*ℤ-pos r times, no_overflow (r * times) small', small_rate (r * times) small) (ap (λ (n : ℕ). Ok n) (mul_comm r times))

  -- ---- those of interfaces

  no_fault : (name : List ℕ) (found : Result ℕ Why) → fault_at name found ≡ [] → found ≡ Ok (result_unwrap_or found 0)
  no_fault name (Ok value) none = refl
  no_fault name (Err why) none = absurd (cc)

  below : (r : ℕ) (rates : List ℕ) → All (λ n. times * n ≤ rate_limit) (r ∷ rates) → All (λ n. times * n ≤ rate_limit) rates
  below r rates all k d inside = all (suc k) d (omega arith)

  pub interfaces_sound : (xs : List Interface) (n : ℕ) → from_number n (λ k (x : Interface). fault_at x.name (rate_under values x.rate)) xs ≡ [] → All (λ r. times * r ≤ rate_limit) (interface_rates values xs) →
      (from_number n (λ k (x : Interface). fault_at x.name (rate_under values x.rate)) (map (multiplied_interface times) xs) ≡ [])
      × (interface_rates values (map (multiplied_interface times) xs) ≡ map (λ r. times * r) (interface_rates values xs))
  interfaces_sound [] n none all = (refl, refl)
  interfaces_sound (x ∷ xs) n none all =
      let here = no_fault x.name (rate_under values x.rate) (left_none (fault_at x.name (rate_under values x.rate)) _ none) in
      let more = interfaces_sound xs (n + 1) (right_none (fault_at x.name (rate_under values x.rate)) _ none) (below _ (interface_rates values xs) all) in
      let within : times * result_unwrap_or (rate_under values x.rate) 0 ≤ rate_limit = all 0 0 (omega arith) in
      let is = rate_multiplied x.rate (result_unwrap_or (rate_under values x.rate) 0) here within in
      let first : fault_at x.name (rate_under values (multiplied_rate times x.rate)) ≡ [] = rw is refl in
      let number : result_unwrap_or (rate_under values (multiplied_rate times x.rate)) 0 ≡ times * result_unwrap_or (rate_under values x.rate) 0 = rw is refl in (
        append_same [] _ [] _ first more.0,
        ap (λ (r : ℕ). r ∷ interface_rates values (map (multiplied_interface times) xs)) number ∙ ap (λ (rs : List ℕ). (times * result_unwrap_or (rate_under values x.rate) 0) ∷ rs) more.1,
      )

-- ---- actors that aren't configuration actors have no fault

no_body : (check : ℕ → List ℤ → Checked) (graphs : List Graph) (g : Graph) (values : List ℤ) (rates : List ℕ) (a : ℕ) (name : List ℕ) (body : Body) → is_configuration body ≡ false → config_faults check graphs g values rates a name body ≡ []
no_body check graphs g values rates a name (Kernel kernel args ins outs) not = refl
no_body check graphs g values rates a name (Config kernel args ins outs sets) not = absurd (cc)
no_body check graphs g values rates a name (Child k args) not = refl
no_body check graphs g values rates a name (ConfigChild k args sets) not = absurd (cc)

rest_of : (actor : Actor) (actors : List Actor) → All (λ (a : Actor). is_configuration a.body ≡ false) (actor ∷ actors) → All (λ (a : Actor). is_configuration a.body ≡ false) actors
rest_of actor actors all k d inside = all (suc k) d (omega arith)

no_bodies : (check : ℕ → List ℤ → Checked) (graphs : List Graph) (g : Graph) (values : List ℤ) (rates : List ℕ) (n : ℕ) (actors : List Actor) → All (λ (a : Actor). is_configuration a.body ≡ false) actors →
    from_number n (λ a (actor : Actor). config_faults check graphs g values rates a actor.name actor.body) actors ≡ []
no_bodies check graphs g values rates n [] all = refl
no_bodies check graphs g values rates n (actor ∷ actors) all =
    append_same [] _ [] _ (no_body check graphs g values rates n actor.name actor.body (all 0 actor (omega arith))) (no_bodies check graphs g values rates (n + 1) actors (rest_of actor actors all))

-- ---- the whole check of a graph without configuration actors

module _ (times : ℕ) (few : times ≤ 64) (gs hs : List Graph) (place : ℕ) (g : Graph)
    (opened : check_of gs place [] ≡ check_by (check_of gs) gs (Some g) [])
    (opened' : check_of hs place [] ≡ check_by (check_of hs) hs (Some (multiplied_graph times g)) [])
    (configures_nothing : All (λ (a : Actor). is_configuration a.body ≡ false) g.actors)
    (sound : early_faults gs place [] ≡ [])
    (inputs : All (λ r. times * r ≤ rate_limit) (early_of gs place []).inputs)
    (outputs : All (λ r. times * r ≤ rate_limit) (early_of gs place []).outputs) where
  abbrev numbers : List ℤ
  numbers = early_numbers g []

  all_none : (check_by (check_of gs) gs (Some g) []).faults ≡ []
  all_none = sym (ap (λ (c : Checked). c.faults) opened) ∙ sound

  rated_none : rated_faults g [] ≡ []
  rated_none = left_none (rated_faults g []) _ all_none

  params_none : map as_refusal (param_faults g.params (supplied_early g.params [])) ≡ []
  params_none = left_none _ _ rated_none

  inputs_none : interface_faults numbers g.inputs ≡ []
  inputs_none = left_none (interface_faults numbers g.inputs) (interface_faults numbers g.outputs) (right_none (map as_refusal (param_faults g.params (supplied_early g.params []))) _ rated_none)

  outputs_none : interface_faults numbers g.outputs ≡ []
  outputs_none = right_none (interface_faults numbers g.inputs) (interface_faults numbers g.outputs) (right_none (map as_refusal (param_faults g.params (supplied_early g.params []))) _ rated_none)

  pub inputs_are : (early_of gs place []).inputs ≡ interface_rates numbers g.inputs
  inputs_are = ap (λ (c : Checked). c.early.inputs) opened

  pub outputs_are : (early_of gs place []).outputs ≡ interface_rates numbers g.outputs
  outputs_are = ap (λ (c : Checked). c.early.outputs) opened

  abbrev ins : (interface_faults numbers (map (multiplied_interface times) g.inputs) ≡ []) × (interface_rates numbers (map (multiplied_interface times) g.inputs) ≡ map (λ r. times * r) (interface_rates numbers g.inputs))
  ins = interfaces_sound times few numbers g.inputs 0 inputs_none (subst (λ (rs : List ℕ). All (λ r. times * r ≤ rate_limit) rs) inputs_are inputs)

  abbrev outs : (interface_faults numbers (map (multiplied_interface times) g.outputs) ≡ []) × (interface_rates numbers (map (multiplied_interface times) g.outputs) ≡ map (λ r. times * r) (interface_rates numbers g.outputs))
  outs = interfaces_sound times few numbers g.outputs 0 outputs_none (subst (λ (rs : List ℕ). All (λ r. times * r ≤ rate_limit) rs) outputs_are outputs)

  pub needs_multiply : (early_of hs place []).inputs ≡ map (λ r. times * r) (early_of gs place []).inputs
  needs_multiply = ap (λ (c : Checked). c.early.inputs) opened' ∙ ins.1 ∙ ap (λ (rs : List ℕ). map (λ r. times * r) rs) (sym inputs_are)

  pub outputs_multiply : (early_of hs place []).outputs ≡ map (λ r. times * r) (early_of gs place []).outputs
  outputs_multiply = ap (λ (c : Checked). c.early.outputs) opened' ∙ outs.1 ∙ ap (λ (rs : List ℕ). map (λ r. times * r) rs) (sym outputs_are)

  pub sound_stays : early_faults hs place [] ≡ []
  sound_stays =
      ap (λ (c : Checked). c.faults) opened'
      ∙ append_same [] (rated_faults (multiplied_graph times g) []) [] _
      (append_same [] (map as_refusal (param_faults g.params (supplied_early g.params []))) [] _ params_none (append_same [] _ [] _ ins.0 outs.0))
      (no_bodies (check_of hs) hs (multiplied_graph times g) numbers (interface_rates numbers (map (multiplied_interface times) g.inputs)) 0 g.actors configures_nothing)
