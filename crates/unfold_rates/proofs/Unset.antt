-- A top graph without configuration actors has no chosen parameter.
use Rattle.std.proofs.Common.{◌≡◌, ℕ, suc, ◌+◌, ◌==◌, Bool, true, false, ℤ, List, [], ◌∷◌, slice_get, Some, refl, ap, ◌∙◌, subst, arith, eq-eqb}
use Rattle.std.specs.List.{All, AllByRecursion}
use Rattle.pisdf_model.specs.Details.{from_number, of_each, unless}
use Rattle.pisdf_model.specs.InterfaceWires.{is_configuration}
use Rattle.pisdf_model.specs.ParamOrder.{is_chosen_kind}
use Rattle.pisdf_model.specs.Ports.{actor_ports, all_sets, graph_ports, is_set_as_due, param_ports, ports_faults, sets_of}
use Rattle.pisdf_model.specs.WellFormed.{WellFormed}
use Rattle.pisdf_model.specs.declared.actor.Actor.{Actor}
use Rattle.pisdf_model.specs.declared.actor.Body.{Body}
use Rattle.pisdf_model.specs.declared.actor.Body.TheVariants.{Kernel, Config, Child, ConfigChild}
use Rattle.pisdf_model.specs.declared.graph.Graph.{Graph}
use Rattle.pisdf_model.specs.declared.graph.Graphs.{Graphs}
use Rattle.pisdf_model.specs.declared.param.Param.{Param}
use Rattle.pisdf_model.specs.declared.param.ParamKind.{ParamKind}
use Rattle.pisdf_model.specs.declared.param.ParamKind.TheVariants.{Inherited, Derived, Chosen}
use Rattle.pisdf_model.proofs.Lists.{left_none, right_none, unmapped}
use Rattle.pisdf_model.proofs.Numbers.{faults_4, faults_7, from_7, from_8}
use Rattle.pisdf_meaning.specs.Configuring.{configurations_from}
use Rattle.pisdf_meaning.specs.Preparing.{chosen_from, chosen_next}
use Rattle.pisdf_meaning.specs.Running.{chosen_row, chosen_rows, value_at}
use Rattle.pisdf_meaning.proofs.KeptSizes.{none_each}
use Rattle.unfold_rates.proofs.Lookups.{append_same}

abbrev pub NoneConfigures : List Actor → Type 0
NoneConfigures actors = All (λ (a : Actor). is_configuration a.body ≡ false) actors

pub others_configure_nothing : (actor : Actor) (actors : List Actor) → NoneConfigures (actor ∷ actors) → NoneConfigures actors
others_configure_nothing actor actors all k d inside = all (suc k) d (omega arith)

pub first_configures_nothing : (actor : Actor) (actors : List Actor) → NoneConfigures (actor ∷ actors) → is_configuration actor.body ≡ false
first_configures_nothing actor actors all = all 0 actor (omega arith)

pub no_configurations : (c a : ℕ) (actors : List Actor) → NoneConfigures actors → configurations_from c a actors ≡ []
no_configurations c a [] all = refl
no_configurations c a (actor ∷ actors) all = rw (first_configures_nothing actor actors all) (no_configurations c (a + 1) actors (others_configure_nothing actor actors all))

-- ---- parameters

abbrev pub NoneChosen : List Param → Type 0
NoneChosen params = AllByRecursion (λ (p : Param). is_chosen_kind p.kind ≡ false) params

sets_nothing : (body : Body) → is_configuration body ≡ false → sets_of body ≡ []
sets_nothing (Kernel kernel args ins outs) is = refl
sets_nothing (Config kernel args ins outs sets) is = absurd (cc)
sets_nothing (Child k args) is = refl
sets_nothing (ConfigChild k args sets) is = absurd (cc)

no_sets : (n : ℕ) (actors : List Actor) → NoneConfigures actors → from_number n (λ a (actor : Actor). sets_of actor.body) actors ≡ []
no_sets n [] all = refl
no_sets n (actor ∷ actors) all = append_same [] (sets_of actor.body) [] _ (sets_nothing actor.body (first_configures_nothing actor actors all)) (no_sets (n + 1) actors (others_configure_nothing actor actors all))

not_chosen : (kind : ParamKind) (name : List ℕ) → unless (is_set_as_due true kind 0) name ≡ [] → is_chosen_kind kind ≡ false
not_chosen Inherited name none = refl
not_chosen (Derived expr) name none = refl
not_chosen Chosen name none = absurd (cc)

none_chosen_from : (n : ℕ) (params : List Param) → from_number n (λ i p. param_ports true [] i p) params ≡ [] → NoneChosen params
none_chosen_from n [] none = tt
none_chosen_from n (p ∷ params) none =
    (not_chosen p.kind p.name (left_none (param_ports true [] n p) _ none), none_chosen_from (n + 1) params (right_none (param_ports true [] n p) _ none))

pub none_chosen : (graphs : Graphs) (g : Graph) → WellFormed graphs → slice_get graphs.graphs graphs.top ≡ Some g → NoneConfigures g.actors → NoneChosen g.params
none_chosen graphs g well here all =
    let ports : ports_faults (λ body. true) graphs ≡ [] = unmapped (λ name. (7, name)) (ports_faults (λ body. true) graphs) (left_none (faults_7 graphs) (from_8 graphs) (right_none (faults_4 graphs) (from_7 graphs) well)) in
    let own = none_each (λ n (x : Graph). graph_ports (λ body. true) graphs.graphs (n == graphs.top) x) 0 graphs.graphs ports graphs.top g here in
    let zero : 0 + graphs.top ≡ graphs.top = omega arith in
    let is_top : (0 + graphs.top == graphs.top) ≡ true = ap (λ (n : ℕ). n == graphs.top) zero ∙ eq-eqb graphs.top graphs.top refl in
    let P : Bool → Type 0 = λ b. graph_ports (λ body. true) graphs.graphs b g ≡ [] in
    let params = right_none (of_each (λ a actor. actor_ports (λ body. true) graphs.graphs actor) g.actors) (of_each (λ i p. param_ports true (all_sets g.actors) i p) g.params) (subst P is_top own) in
    let Q : List ℕ → Type 0 = λ sets. of_each (λ i p. param_ports true sets i p) g.params ≡ [] in
    none_chosen_from 0 g.params (subst Q (no_sets 0 g.actors all) params)

next_none : (sets : List (ℕ × ℤ)) (place : ℕ) (kind : ParamKind) → is_chosen_kind kind ≡ false → chosen_next sets place kind ≡ []
next_none sets place Inherited not = refl
next_none sets place (Derived expr) not = refl
next_none sets place Chosen not = absurd (cc)

pub no_chosen_values : (sets : List (ℕ × ℤ)) (place : ℕ) (params : List Param) → NoneChosen params → chosen_from sets place params ≡ []
no_chosen_values sets place [] all = refl
no_chosen_values sets place (p ∷ params) all = append_same [] (chosen_next sets place p.kind) [] _ (next_none sets place p.kind all.0) (no_chosen_values sets (place + 1) params all.1)

row_none : (path name : List ℕ) (value : ℤ) (kind : ParamKind) → is_chosen_kind kind ≡ false → chosen_row path name value kind ≡ []
row_none path name value Inherited not = refl
row_none path name value (Derived expr) not = refl
row_none path name value Chosen not = absurd (cc)

pub no_chosen_rows : (path : List ℕ) (values : List ℤ) (place : ℕ) (params : List Param) → NoneChosen params → chosen_rows path values place params ≡ []
no_chosen_rows path values place [] all = refl
no_chosen_rows path values place (p ∷ params) all = append_same [] (chosen_row path p.name (value_at values place) p.kind) [] _ (row_none path p.name (value_at values place) p.kind all.0) (no_chosen_rows path values (place + 1) params all.1)
