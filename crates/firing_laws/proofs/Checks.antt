-- What is read of graphs below is the same among the other graphs: their early checks, their states, and their interfaces.
use Rattle.std.proofs.Common.{◌≡◌, ℕ, zero, suc, ℤ, List, [], ◌∷◌, ◌++◌, length, map, slice_get, Option, Some, None, refl, ap, ◌∙◌, nat_lt}
use Rattle.std.specs.List.{flat_map}
use Rattle.pisdf_model.specs.Hold.{actor_state, graph_state, in_line, initial, initial_to, kept_in}
use Rattle.pisdf_model.specs.Parts.{input_count, input_names, inputs_of, interface_names, output_names, outputs_of}
use Rattle.pisdf_model.specs.declared.actor.Actor.{Actor}
use Rattle.pisdf_model.specs.declared.actor.Body.{Body}
use Rattle.pisdf_model.specs.declared.actor.Body.TheVariants.{Kernel, Config, Child, ConfigChild}
use Rattle.pisdf_model.specs.declared.graph.Graph.{Graph}
use Rattle.param_resolver.specs.EarlyCheck.{Checked, check_by, check_to, config_args, config_children, config_faults, config_outs, early_faults, early_numbers, early_of, early_under, early_values, faults_under, rated_faults, unfed_inputs}
use Rattle.param_resolver.specs.EarlyView.{EarlyView, whole}
use Rattle.param_resolver.specs.LevelOf.{acting_faults, in_rates, out_rates}
use Rattle.param_resolver.specs.Numbering.{has_state, output_count, state_size}
use Rattle.param_resolver.specs.Rates.{arg_faults, arg_values, interface_rates}
use Rattle.param_resolver.specs.Refusal.{Refusal, child}
use Rattle.pisdf_meaning.specs.Sound.{ChildWithin}
use Rattle.pisdf_meaning.specs.States.{cut, state_in}
use Rattle.firing_laws.specs.Moving.{DifferAt, IsBelow}
use Rattle.firing_laws.proofs.Elements.{flat_map_same, map_same, numbered_same}
use Rattle.firing_laws.proofs.Belows.{NameWithin, children_below}

module _ (top : ℕ) (one other : List Graph) (differ : DifferAt top one other) where
  abbrev Names : Body → Type 0
  Names body = ChildWithin (IsBelow one top) body

  abbrev NamesOf : Actor → Type 0
  NamesOf a = ChildWithin (IsBelow one top) a.body

  -- ---- early checks

  module _ (check again : ℕ → List ℤ → Checked) (same : (k : ℕ) → IsBelow one top k → (inherited : List ℤ) → again k inherited ≡ check k inherited) where
    outs_same : (values : List ℤ) (body : Body) → Names body → config_outs again values body ≡ config_outs check values body
    outs_same values (Kernel kernel args ins outs) below = refl
    outs_same values (Config kernel args ins outs sets) below = refl
    outs_same values (Child k args) below = refl
    outs_same values (ConfigChild k args sets) below = ap (λ (c : Checked). c.early.outputs ∷ []) (same k below (arg_values values args))

    children_same : (values : List ℤ) (body : Body) → Names body → config_children again values body ≡ config_children check values body
    children_same values (Kernel kernel args ins outs) below = refl
    children_same values (Config kernel args ins outs sets) below = refl
    children_same values (Child k args) below = refl
    children_same values (ConfigChild k args sets) below = ap (λ (c : Checked). Some c.early ∷ []) (same k below (arg_values values args))

    faults_same : (g : Graph) (values : List ℤ) (rates : List ℕ) (a : ℕ) (name : List ℕ) (body : Body) → Names body → config_faults again other g values rates a name body ≡ config_faults check one g values rates a name body
    faults_same g values rates a name (Kernel kernel args ins outs) below = refl
    faults_same g values rates a name (Config kernel args ins outs sets) below = refl
    faults_same g values rates a name (Child k args) below = refl
    faults_same g values rates a name (ConfigChild k args sets) below =
        let own = arg_faults values name args in
        ap (λ (c : Checked). own ++ (map (child a) c.faults ++ unfed_inputs g rates a name (inputs_of (slice_get other k)) c.early.inputs)) (same k below (arg_values values args))
        ∙ ap (λ (o : Option Graph). own ++ (map (child a) (check k (arg_values values args)).faults ++ unfed_inputs g rates a name (inputs_of o) (check k (arg_values values args)).early.inputs)) (differ k below.apart)

    graph_same : (g : Graph) → NameWithin (IsBelow one top) g.actors → (inherited : List ℤ) → check_by again other (Some g) inherited ≡ check_by check one (Some g) inherited
    graph_same g names inherited =
        let values = early_numbers g inherited in
        let rates = interface_rates values g.inputs in
        let args = flat_map (λ (a : Actor). config_args values a.body) g.actors in
        let outs = flat_map_same NamesOf (λ (a : Actor). config_outs again values a.body) (λ (a : Actor). config_outs check values a.body) (λ a below. outs_same values a.body below) g.actors names in
        let kids = flat_map_same NamesOf (λ (a : Actor). config_children again values a.body) (λ (a : Actor). config_children check values a.body) (λ a below. children_same values a.body below) g.actors names in
        let faults = numbered_same NamesOf (λ n (a : Actor). config_faults again other g values rates n a.name a.body) (λ n (a : Actor). config_faults check one g values rates n a.name a.body) (λ n a below. faults_same g values rates n a.name a.body below) 0 g.actors names in
        let early = λ (o : List (List ℕ)) (k : List (Option EarlyView)). whole (early_values g.params inherited) rates (interface_rates values g.outputs) args o k in
        let made : EarlyView → List Refusal → Checked = λ e f. record { early = e; faults = f } in
        ap (λ o. made (early o (flat_map (λ (a : Actor). config_children again values a.body) g.actors)) (faults_under again other g inherited)) outs
        ∙ ap (λ k. made (early (flat_map (λ (a : Actor). config_outs check values a.body) g.actors) k) (faults_under again other g inherited)) kids
        ∙ ap (λ f. made (early_under check g inherited) (rated_faults g inherited ++ f)) faults

    checked_same : (o : Option Graph) → ((g : Graph) → o ≡ Some g → NameWithin (IsBelow one top) g.actors) → (inherited : List ℤ) → check_by again other o inherited ≡ check_by check one o inherited
    checked_same None names inherited = refl
    checked_same (Some g) names inherited = graph_same g (names g refl) inherited

  checks_same : (n place : ℕ) → IsBelow one top place → (inherited : List ℤ) → check_to n other place inherited ≡ check_to n one place inherited
  unfolding check_to
  checks_same zero place below inherited = refl
  checks_same (suc n) place below inherited =
      ap (λ (o : Option Graph). check_by (check_to n other) other o inherited) (differ place below.apart)
      ∙ checked_same (check_to n one) (check_to n other) (λ k low values. checks_same n k low values) (slice_get one place) (λ g is. children_below one top place g below is) inherited

  pub early_same : (place : ℕ) → IsBelow one top place → (inherited : List ℤ) → early_of other place inherited ≡ early_of one place inherited
  early_same place below inherited = ap (λ (c : Checked). c.early) (checks_same 8 place below inherited)

  pub early_faults_same : (place : ℕ) → IsBelow one top place → (inherited : List ℤ) → early_faults other place inherited ≡ early_faults one place inherited
  early_faults_same place below inherited = ap (λ (c : Checked). c.faults) (checks_same 8 place below inherited)

  -- ---- states

  states_same : (states again : ℕ → List (List ℤ)) → ((k : ℕ) → IsBelow one top k → again k ≡ states k) → (body : Body) → Names body → actor_state again body ≡ actor_state states body
  states_same states again same (Kernel kernel args ins outs) below = refl
  states_same states again same (Config kernel args ins outs sets) below = refl
  states_same states again same (Child k args) below = ap in_line (same k below)
  states_same states again same (ConfigChild k args sets) below = ap in_line (same k below)

  pub graph_states_same : (states again : ℕ → List (List ℤ)) → ((k : ℕ) → IsBelow one top k → again k ≡ states k) → (o : Option Graph) → ((g : Graph) → o ≡ Some g → NameWithin (IsBelow one top) g.actors) → graph_state again o ≡ graph_state states o
  graph_states_same states again same None names = refl
  graph_states_same states again same (Some g) names =
      ap (λ (lists : List (List ℤ)). map kept_in g.fifos ++ lists)
      (map_same NamesOf (λ (a : Actor). actor_state again a.body) (λ (a : Actor). actor_state states a.body) (λ a below. states_same states again same a.body below) g.actors (names g refl))

  pub initial_to_same : (n place : ℕ) → IsBelow one top place → initial_to other n place ≡ initial_to one n place
  unfolding initial_to
  initial_to_same zero place below = refl
  initial_to_same (suc n) place below =
      ap (λ (o : Option Graph). graph_state (initial_to other n) o) (differ place below.apart)
      ∙ graph_states_same (initial_to one n) (initial_to other n) (λ k low. initial_to_same n k low) (slice_get one place) (λ g is. children_below one top place g below is)

  pub initial_same : (place : ℕ) → IsBelow one top place → initial other place ≡ initial one place
  initial_same place below = initial_to_same 8 place below

  pub state_in_same : (place : ℕ) → IsBelow one top place → (line : List ℤ) → state_in other place line ≡ state_in one place line
  state_in_same place below line = ap (λ (lists : List (List ℤ)). cut (map (λ (tokens : List ℤ). length tokens) lists) line) (initial_same place below)

  -- ---- actors

  pub inputs_same : (body : Body) → Names body → input_names other body ≡ input_names one body
  inputs_same (Kernel kernel args ins outs) below = refl
  inputs_same (Config kernel args ins outs sets) below = refl
  inputs_same (Child k args) below = ap (λ (o : Option Graph). interface_names (inputs_of o)) (differ k below.apart)
  inputs_same (ConfigChild k args sets) below = ap (λ (o : Option Graph). interface_names (inputs_of o)) (differ k below.apart)

  pub input_count_same : (body : Body) → Names body → input_count other body ≡ input_count one body
  input_count_same body below = ap length (inputs_same body below)

  pub outputs_same : (body : Body) → Names body → output_names other body ≡ output_names one body
  outputs_same (Kernel kernel args ins outs) below = refl
  outputs_same (Config kernel args ins outs sets) below = refl
  outputs_same (Child k args) below = ap (λ (o : Option Graph). interface_names (outputs_of o)) (differ k below.apart)
  outputs_same (ConfigChild k args sets) below = ap (λ (o : Option Graph). interface_names (outputs_of o)) (differ k below.apart)

  pub output_count_same : (body : Body) → Names body → output_count other body ≡ output_count one body
  output_count_same body below = ap length (outputs_same body below)

  pub in_rates_same : (values : List ℤ) (body : Body) → Names body → in_rates other values body ≡ in_rates one values body
  in_rates_same values (Kernel kernel args ins outs) below = refl
  in_rates_same values (Config kernel args ins outs sets) below = refl
  in_rates_same values (Child k args) below = ap (λ (e : EarlyView). e.inputs) (early_same k below (arg_values values args))
  in_rates_same values (ConfigChild k args sets) below = ap (λ (e : EarlyView). e.inputs) (early_same k below (arg_values values args))

  pub out_rates_same : (values : List ℤ) (body : Body) → Names body → out_rates other values body ≡ out_rates one values body
  out_rates_same values (Kernel kernel args ins outs) below = refl
  out_rates_same values (Config kernel args ins outs sets) below = refl
  out_rates_same values (Child k args) below = ap (λ (e : EarlyView). e.outputs) (early_same k below (arg_values values args))
  out_rates_same values (ConfigChild k args sets) below = ap (λ (e : EarlyView). e.outputs) (early_same k below (arg_values values args))

  pub state_size_same : (body : Body) → Names body → state_size other body ≡ state_size one body
  state_size_same (Kernel kernel args ins outs) below = refl
  state_size_same (Config kernel args ins outs sets) below = refl
  state_size_same (Child k args) below = ap (λ (lists : List (List ℤ)). length (in_line lists)) (initial_same k below)
  state_size_same (ConfigChild k args sets) below = refl

  pub has_state_same : (a : Actor) → ChildWithin (IsBelow one top) a.body → has_state other a ≡ has_state one a
  has_state_same a below = ap (nat_lt 0) (state_size_same a.body below)

  pub acting_faults_same : (values : List ℤ) (a : ℕ) (name : List ℕ) (body : Body) → Names body → acting_faults other values a name body ≡ acting_faults one values a name body
  acting_faults_same values a name (Kernel kernel args ins outs) below = refl
  acting_faults_same values a name (Config kernel args ins outs sets) below = refl
  acting_faults_same values a name (Child k args) below = ap (λ (list : List Refusal). arg_faults values name args ++ map (child a) list) (early_faults_same k below (arg_values values args))
  acting_faults_same values a name (ConfigChild k args sets) below = refl
