-- The configuration actors of a graph, one after the other.
use Rattle.std.proofs.Common.{◌≡◌, ℕ, zero, suc, ◌+◌, ◌-◌, ◌<◌, ◌≤◌, ℤ, List, [], ◌∷◌, ◌++◌, length, map, take, Option, Some, sym, ap, ◌∙◌, subst, arith, get_or}
use Rattle.std.specs.List.{flat_map, slice_get}
use Rattle.std.proofs.lemmas.List.{take_all, take_more, flat_map_more}
use Rattle.std.proofs.lemmas.Option.{slice_get-get_or}
use Rattle.param_expr.specs.Tree.{Tree}
use Rattle.pisdf_model.specs.Details.{of_each}
use Rattle.pisdf_model.specs.Parts.{inputs_of}
use Rattle.pisdf_model.specs.declared.graph.Interface.{Interface}
use Rattle.pisdf_model.specs.declared.actor.Actor.{Actor}
use Rattle.pisdf_model.specs.declared.graph.Graph.{Graph}
use Rattle.pisdf_model.proofs.Walking.{Stands, goes_on, is_done}
use Rattle.param_resolver.specs.EarlyCheck.{Checked, check_by, check_to, child_config_faults, config_args, config_children, config_faults, config_outs, early_numbers, early_values, rated_faults, unfed_inputs}
use Rattle.param_resolver.specs.EarlyView.{EarlyView, whole}
use Rattle.param_resolver.specs.Refusal.{Refusal, StandsFirst, child}
use Rattle.param_resolver.specs.Rates.{arg_faults, arg_values, interface_rates}
use Rattle.param_resolver.proofs.Walks.{both_none, first_part, later_part, stands_among}

-- the first of them have no fault, and this is known of them
pub record Configures (check : ℕ → List ℤ → Checked) (graphs : List Graph) (g : Graph) (values : List ℤ) (rates : List ℕ) (i : ℕ) (args : List (List ℤ)) (outs : List (List ℕ)) (children : List (Option EarlyView)) : Type 0 where
  pub stands : Stands 0 (λ n (a : Actor). config_faults check graphs g values rates n a.name a.body) i g.actors
  pub args_are : args ≡ flat_map (λ (a : Actor). config_args values a.body) (take i g.actors)
  pub outs_are : outs ≡ flat_map (λ (a : Actor). config_outs check values a.body) (take i g.actors)
  pub children_are : children ≡ flat_map (λ (a : Actor). config_children check values a.body) (take i g.actors)

pub flat_more : {X Y : Type 0} (f : X → List Y) (xs : List X) (i : ℕ) (x : X) (ys : List Y) → i < length xs → x ≡ get_or xs i x → ys ≡ flat_map f (take i xs) → ys ++ f x ≡ flat_map f (take (i + 1) xs)
flat_more f xs i x ys inside is so_far =
    ap (λ zs. zs ++ f x) so_far ∙ flat_map_more f [] (take i xs) x ∙ ap (flat_map f) (ap (λ z. take i xs ++ z ∷ []) is ∙ sym (take_more xs i x inside))

module _ (check : ℕ → List ℤ → Checked) (graphs : List Graph) (g : Graph) (values : List ℤ) (rates : List ℕ) (i : ℕ) (args : List (List ℤ)) (outs : List (List ℕ)) (children : List (Option EarlyView)) (so_far : Configures check graphs g values rates i args outs children) where
  abbrev Faults : ℕ → Actor → List Refusal
  Faults n a = config_faults check graphs g values rates n a.name a.body

  pub configures_more : (a : Actor) → i < length g.actors → a ≡ get_or g.actors i a → Faults i a ≡ []
      → Configures check graphs g values rates (i + 1) (args ++ config_args values a.body) (outs ++ config_outs check values a.body) (children ++ config_children check values a.body)
  configures_more a inside is none = record {
    stands = let at_i : 0 + i ≡ i = omega arith in goes_on 0 Faults i g.actors a inside is (rw at_i none) so_far.stands;
    args_are = flat_more (λ (b : Actor). config_args values b.body) g.actors i a args inside is so_far.args_are;
    outs_are = flat_more (λ (b : Actor). config_outs check values b.body) g.actors i a outs inside is so_far.outs_are;
    children_are = flat_more (λ (b : Actor). config_children check values b.body) g.actors i a children inside is so_far.children_are;
  }

  -- all of them are looked at
  module _ (whole : length g.actors ≤ i) where
    pub checked_args : args ≡ flat_map (λ (a : Actor). config_args values a.body) g.actors
    checked_args = so_far.args_are ∙ ap (flat_map (λ (a : Actor). config_args values a.body)) (take_all i g.actors whole)

    pub checked_outs : outs ≡ flat_map (λ (a : Actor). config_outs check values a.body) g.actors
    checked_outs = so_far.outs_are ∙ ap (flat_map (λ (a : Actor). config_outs check values a.body)) (take_all i g.actors whole)

    pub checked_children : children ≡ flat_map (λ (a : Actor). config_children check values a.body) g.actors
    checked_children = so_far.children_are ∙ ap (flat_map (λ (a : Actor). config_children check values a.body)) (take_all i g.actors whole)

    pub checked_sound : of_each Faults g.actors ≡ []
    checked_sound = is_done 0 Faults i g.actors whole so_far.stands

  pub configures_fault : (a : Actor) (r : Option Refusal) → i < length g.actors → a ≡ get_or g.actors i a → StandsFirst (Faults i a) r → StandsFirst (of_each Faults g.actors) r
  configures_fault a r inside is here = stands_among Faults i g.actors a r inside is here so_far.stands

-- one level of the check
pub check_step : (n : ℕ) (graphs : List Graph) (place : ℕ) (inherited : List ℤ) (g : Graph) → 0 < n → place < length graphs → g ≡ get_or graphs place g → check_to n graphs place inherited ≡ check_by (check_to (n - 1) graphs) graphs (Some g) inherited
unfolding check_to
check_step zero graphs place inherited g some inside is = absurd (omega arith)
check_step (suc n) graphs place inherited g some inside is =
    let less : suc n - 1 ≡ n = omega arith in
    rw less (ap (λ o. check_by (check_to n graphs) graphs o inherited) (slice_get-get_or graphs place g inside ∙ ap Some (sym is)))

-- ---- a hierarchical configuration actor

module _ (check : ℕ → List ℤ → Checked) (graphs : List Graph) (g : Graph) (values : List ℤ) (rates : List ℕ) (a : ℕ) (actor : List ℕ) (k : ℕ) (args : List Tree) (inherited : List ℤ) (args_none : arg_faults values actor args ≡ []) (inherited_are : inherited ≡ arg_values values args) where
  pub child_stands : (r : Option Refusal) → StandsFirst (map (child a) (check k inherited).faults) r → StandsFirst (child_config_faults check graphs g values rates a actor k args) r
  child_stands r stands =
      later_part (arg_faults values actor args) _ r args_none
      (first_part (map (child a) (check k (arg_values values args)).faults) _ r (subst (λ v. StandsFirst (map (child a) (check k v).faults) r) inherited_are stands))

  module _ (sound : (check k inherited).faults ≡ []) where
    none_below : map (child a) (check k (arg_values values args)).faults ≡ []
    none_below = ap (λ v. map (child a) (check k v).faults) (sym inherited_are) ∙ ap (map (child a)) sound

    module _ (inputs : List Interface) (taken : List ℕ) (inputs_are : inputs ≡ inputs_of (slice_get graphs k)) (taken_are : taken ≡ (check k inherited).early.inputs) where
      same_unfed : unfed_inputs g rates a actor inputs taken ≡ unfed_inputs g rates a actor (inputs_of (slice_get graphs k)) (check k (arg_values values args)).early.inputs
      same_unfed =
          ap (λ xs. unfed_inputs g rates a actor xs taken) inputs_are
          ∙ ap (λ ts. unfed_inputs g rates a actor (inputs_of (slice_get graphs k)) ts) (taken_are ∙ ap (λ v. (check k v).early.inputs) inherited_are)

      pub unfed_stands : (r : Option Refusal) → StandsFirst (unfed_inputs g rates a actor inputs taken) r → StandsFirst (child_config_faults check graphs g values rates a actor k args) r
      unfed_stands r stands =
          later_part (arg_faults values actor args) _ r args_none
          (later_part (map (child a) (check k (arg_values values args)).faults) _ r none_below (subst (λ xs. StandsFirst xs r) same_unfed stands))

      pub fed_none : unfed_inputs g rates a actor inputs taken ≡ [] → child_config_faults check graphs g values rates a actor k args ≡ []
      fed_none fed =
          both_none (arg_faults values actor args) _ args_none
          (both_none (map (child a) (check k (arg_values values args)).faults) _ none_below (sym same_unfed ∙ fed))

-- ---- the whole check

module _ (check : ℕ → List ℤ → Checked) (graphs : List Graph) (g : Graph) (inherited values : List ℤ) (values_are : values ≡ early_numbers g inherited) where
  pub configured_stands : (rates : List ℕ) → rates ≡ interface_rates (early_numbers g inherited) g.inputs → rated_faults g inherited ≡ [] → (r : Option Refusal)
      → StandsFirst (of_each (λ n (a : Actor). config_faults check graphs g values rates n a.name a.body) g.actors) r → StandsFirst (check_by check graphs (Some g) inherited).faults r
  configured_stands rates rates_are none r stands =
      later_part (rated_faults g inherited) _ r none
      (subst (λ (vs : List ℤ). StandsFirst (of_each (λ n (a : Actor). config_faults check graphs g vs (interface_rates (early_numbers g inherited) g.inputs) n a.name a.body) g.actors) r) values_are
      (subst (λ (rs : List ℕ). StandsFirst (of_each (λ n (a : Actor). config_faults check graphs g values rs n a.name a.body) g.actors) r) rates_are stands))

  pub whole_known : (known : List (Option ℤ)) (inputs outputs : List ℕ) (args : List (List ℤ)) (outs : List (List ℕ)) (children : List (Option EarlyView))
      → known ≡ early_values g.params inherited → inputs ≡ interface_rates (early_numbers g inherited) g.inputs → outputs ≡ interface_rates (early_numbers g inherited) g.outputs
      → args ≡ flat_map (λ (a : Actor). config_args values a.body) g.actors → outs ≡ flat_map (λ (a : Actor). config_outs check values a.body) g.actors → children ≡ flat_map (λ (a : Actor). config_children check values a.body) g.actors
      → whole known inputs outputs args outs children ≡ (check_by check graphs (Some g) inherited).early
  whole_known known inputs outputs args outs children known_are inputs_are outputs_are args_are outs_are children_are =
      ap (λ k. whole k inputs outputs args outs children) known_are
      ∙ ap (λ i. whole (early_values g.params inherited) i outputs args outs children) inputs_are
      ∙ ap (λ o. whole (early_values g.params inherited) (interface_rates (early_numbers g inherited) g.inputs) o args outs children) outputs_are
      ∙ ap (λ x. whole (early_values g.params inherited) (interface_rates (early_numbers g inherited) g.inputs) (interface_rates (early_numbers g inherited) g.outputs) x outs children)
      (args_are ∙ ap (λ vs. flat_map (λ (a : Actor). config_args vs a.body) g.actors) values_are)
      ∙ ap (λ x. whole (early_values g.params inherited) (interface_rates (early_numbers g inherited) g.inputs) (interface_rates (early_numbers g inherited) g.outputs) (flat_map (λ (a : Actor). config_args (early_numbers g inherited) a.body) g.actors) x children)
      (outs_are ∙ ap (λ vs. flat_map (λ (a : Actor). config_outs check vs a.body) g.actors) values_are)
      ∙ ap (λ x. whole (early_values g.params inherited) (interface_rates (early_numbers g inherited) g.inputs) (interface_rates (early_numbers g inherited) g.outputs) (flat_map (λ (a : Actor). config_args (early_numbers g inherited) a.body) g.actors) (flat_map (λ (a : Actor). config_outs check (early_numbers g inherited) a.body) g.actors) x)
      (children_are ∙ ap (λ vs. flat_map (λ (a : Actor). config_children check vs a.body) g.actors) values_are)
