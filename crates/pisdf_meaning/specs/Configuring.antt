-- The configuration actors of a graph: each fires once, in file order, before the others.
use Rattle.std.specs.Prelude.{◌≡◌, ℕ, ◌+◌, ℤ, List, [], ◌∷◌, map, length, slice_index_or, Result, Ok, Err, if◌then◌else◌}
use Rattle.std.specs.List.{range_with_len}
use Rattle.kernel_gate.specs.Value.{Answer, Gives, Faults}
use Rattle.kernel_gate.specs.Table.{the_value}
use Rattle.pisdf_model.specs.Hold.{in_line}
use Rattle.pisdf_model.specs.InterfaceWires.{is_configuration}
use Rattle.pisdf_model.specs.Parts.{input_count}
use Rattle.pisdf_model.specs.declared.actor.Actor.{Actor}
use Rattle.pisdf_model.specs.declared.actor.Body.{Body}
use Rattle.pisdf_model.specs.declared.actor.Body.TheVariants.{Kernel, Config, Child, ConfigChild}
use Rattle.pisdf_model.specs.declared.graph.Graph.{Graph}
use Rattle.param_resolver.specs.EarlyCheck.{early_of, feeding}
use Rattle.param_resolver.specs.EarlyView.{EarlyView}
use Rattle.pisdf_meaning.specs.Endings.{End, Ends, Then, child_path}
use Rattle.pisdf_meaning.specs.States.{tokens_at, actor_list, state_in}
use Rattle.pisdf_meaning.specs.declared.firing.Configured.{Configured}
use Rattle.pisdf_meaning.specs.declared.firing.Firing.{Firing}
use Rattle.pisdf_meaning.specs.declared.refusal.Refusal.{Refusal}
use Rattle.pisdf_meaning.specs.declared.refusal.Cause.TheVariants as cause

-- what is known of the graph before its configuration actors fire
abbrev pub early_in : List Graph → Firing → EarlyView
early_in graphs firing = early_of graphs firing.graph firing.inherited

-- a kernel configuration actor leaves what its kernel gives; it fires once, with number 0
abbrev pub kernel_leaves : List ℕ → List ℕ → Answer → Result Configured Refusal
kernel_leaves path name (Gives outs sets) = Ok record { outs = outs; sets = sets; state = []; trace = [] }
kernel_leaves path name (Faults code) = Err record { path = path; cause = cause.Kernel name 0 code }

-- a hierarchical one leaves what the firing of its child gives, and sets parameters to the child's exports
abbrev pub child_leaves : End → Result Configured Refusal
child_leaves (Ok given) = Ok record { outs = given.outs; sets = given.exports; state = in_line given.state; trace = given.trace }
child_leaves (Err refusal) = Err refusal

-- a configuration actor: its number among them, its place among all actors, its name, and what it is
pub record Configuration : Type 0 where
  pub number : ℕ
  pub place : ℕ
  pub name : List ℕ
  pub body : Body

-- the configuration actors among these actors, of which the first configuration actor has this number and the first
-- actor this place
abbrev pub configurations_from : ℕ → ℕ → List Actor → List Configuration
configurations_from c a [] = []
configurations_from c a (actor ∷ actors) =
    if is_configuration actor.body then record { number = c; place = a; name = actor.name; body = actor.body } ∷ configurations_from (c + 1) (a + 1) actors
    else configurations_from c (a + 1) actors

abbrev pub configurations : Graph → List Configuration
configurations g = configurations_from 0 0 g.actors

-- the tokens of the input interfaces that feed the actor at a place, port by port
abbrev pub fed_to : Graph → List (List ℤ) → ℕ → ℕ → List (List ℤ)
fed_to g inputs a ports = map (λ p. tokens_at inputs (feeding g.fifos a p)) (range_with_len 0 ports)

abbrev pub config_args : List Graph → Firing → ℕ → List ℤ
config_args graphs firing c = tokens_at (early_in graphs firing).args c

abbrev pub config_rates : List Graph → Firing → ℕ → List ℕ
config_rates graphs firing c = slice_index_or (early_in graphs firing).outs c []

-- what the kernel of a configuration actor gives
abbrev pub config_answer : List Graph → Graph → Firing → Configuration → ℕ → ℕ → ℕ → Answer
config_answer graphs g firing c kernel ins sets =
    the_value kernel (config_args graphs firing c.number) (fed_to g firing.inputs c.place ins) (config_rates graphs firing c.number) sets

-- the firing of the graph that a hierarchical one names
abbrev pub config_firing : List Graph → Graph → Firing → Configuration → ℕ → Firing
config_firing graphs g firing c place = record {
  path = child_path firing.path c.name 0;
  graph = place;
  inherited = config_args graphs firing c.number;
  inputs = fed_to g firing.inputs c.place (input_count graphs c.body);
  state = state_in graphs place (actor_list g firing.state c.place);
}

-- a configuration actor leaves this; `ends` says how firings of the graphs that its graph holds end
abbrev pub Leaves : List Graph → Ends → Graph → Firing → Configuration → Body → Result Configured Refusal → Type 0
Leaves graphs ends g firing c (Kernel kernel args ins outs) left = ⊥
Leaves graphs ends g firing c (Child place args) left = ⊥
Leaves graphs ends g firing c (Config kernel args ins outs sets) left = left ≡ kernel_leaves firing.path c.name (config_answer graphs g firing c kernel (length ins) (length sets))
Leaves graphs ends g firing c (ConfigChild place args sets) left = (end : End) × ends (config_firing graphs g firing c place) end × (left ≡ child_leaves end)

abbrev pub with_first : Configured → Result (List Configured) Refusal → Result (List Configured) Refusal
with_first one (Ok more) = Ok (one ∷ more)
with_first one (Err refusal) = Err refusal

-- these configuration actors leave this, one after the other, up to the first that is refused
abbrev pub LeaveAll : List Graph → Ends → Graph → Firing → List Configuration → Result (List Configured) Refusal → Type 0
LeaveAll graphs ends g firing [] all = all ≡ Ok []
LeaveAll graphs ends g firing (c ∷ rest) all =
    (left : Result Configured Refusal) × Leaves graphs ends g firing c c.body left ×
    Then (λ one all. (others : Result (List Configured) Refusal) × LeaveAll graphs ends g firing rest others × (all ≡ with_first one others)) left all

abbrev pub Configures : List Graph → Ends → Graph → Firing → Result (List Configured) Refusal → Type 0
Configures graphs ends g firing all = LeaveAll graphs ends g firing (configurations g) all
