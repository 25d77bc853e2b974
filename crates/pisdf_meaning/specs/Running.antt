-- The firings of a level's actors in one firing of a graph, and what they give.
use Rattle.std.specs.Prelude.{◌≡◌, ℕ, zero, suc, ◌+◌, ℤ, pos, Bool, List, [], ◌∷◌, ◌++◌, map, length, take, drop, slice_get, slice_index, slice_index_or, Option, Some, None, Result, Ok, Err, IfOk, OnOk, if◌then◌else◌}
use Rattle.std.specs.List.{filter, flat_map}
use Rattle.kernel_gate.specs.Value.{Answer, Gives, Faults}
use Rattle.kernel_gate.specs.Table.{the_value}
use Rattle.pisdf_model.specs.Hold.{in_line, initial}
use Rattle.pisdf_model.specs.InterfaceWires.{is_configuration}
use Rattle.pisdf_model.specs.Parts.{input_count}
use Rattle.pisdf_model.specs.declared.actor.Actor.{Actor}
use Rattle.pisdf_model.specs.declared.actor.Body.{Body}
use Rattle.pisdf_model.specs.declared.actor.Body.TheVariants.{Kernel, Config, Child, ConfigChild}
use Rattle.pisdf_model.specs.declared.fifo.Fifo.{Fifo}
use Rattle.pisdf_model.specs.declared.graph.Graph.{Graph}
use Rattle.pisdf_model.specs.declared.param.Param.{Param}
use Rattle.pisdf_model.specs.declared.param.ParamKind.{ParamKind}
use Rattle.pisdf_model.specs.declared.param.ParamKind.TheVariants.{Inherited, Derived, Chosen}
use Rattle.param_resolver.specs.LevelOf.{level_args, out_rates}
use Rattle.param_resolver.specs.Numbering.{acting, has_state, is_kept, source_inputs}
use Rattle.sdf_level.specs.LevelRun.{Ended, IsLevelRun}
use Rattle.sdf_level.specs.Run.{Fire}
use Rattle.pisdf_meaning.specs.Endings.{End, Ends, Then, child_path}
use Rattle.pisdf_meaning.specs.Preparing.{level_in}
use Rattle.pisdf_meaning.specs.States.{tokens_at, actor_list, state_in, begins_with, goes_on}
use Rattle.pisdf_meaning.specs.declared.outcome.TraceRow.{TraceRow}
use Rattle.pisdf_meaning.specs.declared.firing.Configured.{Configured}
use Rattle.pisdf_meaning.specs.declared.firing.Firing.{Firing}
use Rattle.pisdf_meaning.specs.declared.firing.Given.{Given}
use Rattle.pisdf_meaning.specs.declared.refusal.Refusal.{Refusal}
use Rattle.pisdf_meaning.specs.declared.refusal.Cause.TheVariants as cause

-- ---- one firing of an actor

-- a kernel actor's firing k: what its kernel gives, or the refusal
abbrev pub kernel_fires : List ℕ → List ℕ → ℕ → Answer → Result (List (List ℤ)) Refusal
kernel_fires path name k (Gives outs sets) = Ok outs
kernel_fires path name k (Faults code) = Err record { path = path; cause = cause.Kernel name k code }

-- a hierarchical actor's: the outputs of its child, and the state that is left, where it goes on, for the link to itself
abbrev pub child_fires : Bool → End → Result (List (List ℤ)) Refusal
child_fires keeps (Ok given) = Ok (given.outs ++ (if keeps then in_line given.state ∷ [] else []))
child_fires keeps (Err refusal) = Err refusal

-- the state with which a child begins: what its actor reads on the link to itself, else that of the file
abbrev pub child_state : List Graph → Bool → ℕ → ℕ → List (List ℤ) → List (List ℤ)
child_state graphs keeps place inputs ins = if keeps then state_in graphs place (tokens_at ins inputs) else initial graphs place

-- the firing of the child, which takes the tokens read as its inputs
abbrev pub child_firing : List Graph → Firing → List ℕ → ℕ → List ℤ → Bool → ℕ → ℕ → List (List ℤ) → Firing
child_firing graphs firing name k args keeps place inputs ins = record {
  path = child_path firing.path name k;
  graph = place;
  inherited = args;
  inputs = take inputs ins;
  state = child_state graphs keeps place inputs ins;
}

-- firing k of a hierarchical actor, which fires the graph at a place with these arguments, has this answer, and this trace
-- where it isn't refused
abbrev pub FiresChild : List Graph → Ends → Firing → List ℤ → Actor → ℕ → ℕ → List TraceRow → List (List ℤ) → Result (List (List ℤ)) Refusal → Type 0
FiresChild graphs ends firing args actor place k trace read answer =
    (end : End) × ends (child_firing graphs firing actor.name k args (has_state graphs actor) place (input_count graphs actor.body) read) end ×
    IfOk end (λ given. trace ≡ given.trace) × (answer ≡ child_fires (has_state graphs actor) end)

-- firing k of this actor, whose arguments have these values, has this answer, and this trace where it isn't refused
abbrev pub FiresBody : List Graph → Ends → Firing → List ℤ → List ℤ → Actor → Body → ℕ → List TraceRow → List (List ℤ) → Result (List (List ℤ)) Refusal → Type 0
FiresBody graphs ends firing values args actor (Kernel kernel exprs ins outs) k trace read answer =
    OnOk answer (trace ≡ []) × (answer ≡ kernel_fires firing.path actor.name k (the_value kernel args read (out_rates graphs values actor.body) 0))
FiresBody graphs ends firing values args actor (Child place exprs) k trace read answer = FiresChild graphs ends firing args actor place k trace read answer
FiresBody graphs ends firing values args actor (Config kernel exprs ins outs sets) k trace read answer = ⊥
FiresBody graphs ends firing values args actor (ConfigChild place exprs sets) k trace read answer = ⊥

abbrev pub FiresActor : List Graph → Ends → Firing → List ℤ → List ℤ → Option Actor → ℕ → List TraceRow → List (List ℤ) → Result (List (List ℤ)) Refusal → Type 0
FiresActor graphs ends firing values args None k trace read answer = ⊥
FiresActor graphs ends firing values args (Some actor) k trace read answer = FiresBody graphs ends firing values args actor actor.body k trace read answer

-- the traces of the firings of each actor of a level
abbrev pub Traces : Type 0
Traces = ℕ → ℕ → List TraceRow

-- the firings of a level's actors
abbrev pub Fires : List Graph → Ends → Graph → Firing → List ℤ → Traces → Fire ℤ Refusal
Fires graphs ends g firing values traces b k read answer =
    FiresActor graphs ends firing values (tokens_at (level_args g values) b) (slice_get (acting g) b) k (traces b k) read answer

-- ---- the run

-- the tokens of the inputs that feed no configuration actor, then what the configuration actors left on their outputs
abbrev pub source_tokens : Graph → Firing → List Configured → List (List ℤ)
source_tokens g firing left = map (λ i. tokens_at firing.inputs i) (source_inputs g) ++ flat_map (λ (one : Configured). one.outs) left

-- with what the links of FIFOs begin, the first of which stands at this place
abbrev pub fifo_starts : Graph → List (List ℤ) → ℕ → List Fifo → List (List ℤ)
fifo_starts g state i [] = []
fifo_starts g state i (f ∷ fifos) = (if is_kept g f then begins_with f.life f.delay (tokens_at state i) ∷ [] else []) ++ fifo_starts g state (i + 1) fifos

-- with what the links of actors to themselves begin, the first actor standing at this place
abbrev pub actor_starts : List Graph → Graph → List (List ℤ) → ℕ → List Actor → List (List ℤ)
actor_starts graphs g state a [] = []
actor_starts graphs g state a (actor ∷ actors) = (if has_state graphs actor then actor_list g state a ∷ [] else []) ++ actor_starts graphs g state (a + 1) actors

abbrev pub link_starts : List Graph → Graph → Firing → List (List ℤ)
link_starts graphs g firing = fifo_starts g firing.state 0 g.fifos ++ actor_starts graphs g firing.state 0 g.actors

-- ---- what it gives

-- what goes on of each FIFO, where this is left on the links of those that become links
abbrev pub fifo_states : Graph → List Fifo → List (List ℤ) → List (List ℤ)
fifo_states g [] left = []
fifo_states g (f ∷ fifos) left = if is_kept g f then goes_on f.life (tokens_at left 0) ∷ fifo_states g fifos (drop 1 left) else [] ∷ fifo_states g fifos left

abbrev pub state_of_first : List Configured → List ℤ
state_of_first [] = []
state_of_first (one ∷ configured) = one.state

-- the list of each actor: of a configuration actor what it left, of another with a state what is left on its link to itself
abbrev pub actor_states : List Graph → List Actor → List Configured → List (List ℤ) → List (List ℤ)
actor_states graphs [] configured left = []
actor_states graphs (actor ∷ actors) configured left =
    if is_configuration actor.body then state_of_first configured ∷ actor_states graphs actors (drop 1 configured) left
    else (if has_state graphs actor then tokens_at left 0 ∷ actor_states graphs actors configured (drop 1 left) else [] ∷ actor_states graphs actors configured left)

abbrev pub state_after : List Graph → Graph → List Configured → List (List ℤ) → List (List ℤ)
state_after graphs g configured left = fifo_states g g.fifos left ++ actor_states graphs g.actors configured (drop (length (filter (is_kept g) g.fifos)) left)

abbrev pub value_at : List ℤ → ℕ → ℤ
value_at values place = slice_index_or values place (pos 0)

abbrev pub chosen_row : List ℕ → List ℕ → ℤ → ParamKind → List TraceRow
chosen_row path name value Inherited = []
chosen_row path name value (Derived expr) = []
chosen_row path name value Chosen = record { path = path; name = name; value = value } ∷ []

-- the values of the chosen ones among these parameters, the first of which stands at this place
abbrev pub chosen_rows : List ℕ → List ℤ → ℕ → List Param → List TraceRow
chosen_rows path values place [] = []
chosen_rows path values place (p ∷ params) = chosen_row path p.name (value_at values place) p.kind ++ chosen_rows path values (place + 1) params

-- the traces of the first n firings
abbrev pub traces_below : (ℕ → List TraceRow) → ℕ → List TraceRow
traces_below own zero = []
traces_below own (suc n) = traces_below own n ++ own n

-- the rows of each actor are those of as many firings as its count
abbrev pub HaveRows : List ℕ → Traces → List (List TraceRow) → Type 0
HaveRows counts traces rows = (b : ℕ) → slice_index_or rows b [] ≡ traces_below (traces b) (slice_index counts b)

abbrev pub trace_of_first : List Configured → List TraceRow
trace_of_first [] = []
trace_of_first (one ∷ configured) = one.trace

-- the traces of these actors' children, the first of those that fire in the level having number b there
abbrev pub child_rows : List ℕ → Traces → ℕ → List Actor → List Configured → List TraceRow
child_rows counts traces b [] configured = []
child_rows counts traces b (actor ∷ actors) configured =
    if is_configuration actor.body then trace_of_first configured ++ child_rows counts traces b actors (drop 1 configured)
    else traces_below (traces b) (slice_index counts b) ++ child_rows counts traces (b + 1) actors configured

abbrev pub given_by : List Graph → Graph → Firing → List Configured → List ℤ → List ℕ → Traces → Ended ℤ → Given
given_by graphs g firing configured values counts traces ended = record {
  outs = ended.outs;
  state = state_after graphs g configured ended.left;
  trace = chosen_rows firing.path values 0 g.params ++ child_rows counts traces 0 g.actors configured;
  exports = map (value_at values) g.exports;
}

-- the run of the level ends so, each actor firing its count
pub record RunsLevel (graphs : List Graph) (ends : Ends) (g : Graph) (firing : Firing) (configured : List Configured) (values : List ℤ) (counts : List ℕ) (end : End) : Type 0 where
  pub traces : Traces
  pub run : Result (Ended ℤ) Refusal
  pub level_run : IsLevelRun (level_in graphs g firing values) counts (source_tokens g firing configured) (link_starts graphs g firing) (Fires graphs ends g firing values traces) run
  pub gives : Then (λ ended end. end ≡ Ok (given_by graphs g firing configured values counts traces ended)) run end
