-- The firings of graphs that the firings of hierarchical actors call are given what they take, where these read as much as the
-- links say; and what the firings of actors give.
use Rattle.std.proofs.Common.{◌≡◌, ℕ, suc, ◌+◌, ◌<◌, nat_lt, Bool, true, false, ℤ, List, [], ◌∷◌, ◌++◌, length, take, get_or, slice_get, slice_index, Option, Some, None, Result, Ok, Err, OnOk, IfOk, if◌then◌else◌, refl, sym, ap, ◌∙◌, subst, arith, length-append, append-nil}
use Rattle.std.proofs.lemmas.List.{length-map, take-map}
use Rattle.std.proofs.lemmas.Option.{slice_get-get_or}
use Rattle.kernel_gate.specs.Laws.{HasLengths}
use Rattle.kernel_gate.specs.Signed.{Counts}
use Rattle.kernel_gate.specs.Table.{the_value}
use Rattle.kernel_gate.specs.Value as kernel
use Rattle.kernel_gate.specs.Value.{lengths}
use Rattle.param_expr.specs.Tree.{Tree}
use Rattle.param_resolver.specs.EarlyCheck.{Checked, check_by, check_to, early_faults, early_of}
use Rattle.param_resolver.specs.LevelOf.{acting_faults, in_rates, level_args, level_faults, links_of, out_rates}
use Rattle.param_resolver.specs.Numbering.{acting, has_state, output_count, state_size}
use Rattle.param_resolver.specs.Rates.{arg_values, port_rates}
use Rattle.param_resolver.proofs.Passing.{one}
use Rattle.param_resolver.proofs.Sound.{resolvable}
use Rattle.param_resolver.proofs.Wired.{AreWired, each_at, resolvable_at, well_wired}
use Rattle.param_resolver.specs.Resolvable.{IsBodyResolvable}
use Rattle.pisdf_model.specs.Hold.{in_line, initial}
use Rattle.pisdf_model.specs.Parts.{input_count, inputs_of}
use Rattle.pisdf_model.specs.Range.{InRange}
use Rattle.pisdf_model.specs.WellFormed.{WellFormed}
use Rattle.pisdf_model.specs.declared.actor.Actor.{Actor}
use Rattle.pisdf_model.specs.declared.actor.Body.{Body}
use Rattle.pisdf_model.specs.declared.actor.Body.TheVariants.{Kernel, Config, Child, ConfigChild}
use Rattle.pisdf_model.specs.declared.graph.Graph.{Graph}
use Rattle.pisdf_model.specs.declared.graph.Graphs.{Graphs}
use Rattle.pisdf_model.specs.declared.graph.Interface.{Interface}
use Rattle.sdf_level.specs.LevelRun.{HaveRates}
use Rattle.pisdf_meaning.specs.Endings.{End}
use Rattle.pisdf_meaning.specs.Meaning.{MeansWithin}
use Rattle.pisdf_meaning.specs.Running.{FiresActor, FiresBody, child_fires, child_firing, child_state, kernel_fires}
use Rattle.kernel_gate.specs.Laws.{GiveLengths}
use Rattle.pisdf_meaning.specs.Sound.{AllFit, BodyFits, GraphFits}
use Rattle.pisdf_meaning.specs.States.{tokens_at}
use Rattle.pisdf_meaning.specs.declared.firing.Firing.{Firing}
use Rattle.pisdf_meaning.specs.declared.firing.Given.{Given}
use Rattle.pisdf_meaning.specs.declared.outcome.TraceRow.{TraceRow}
use Rattle.pisdf_meaning.specs.declared.refusal.Refusal.{Refusal}
use Rattle.pisdf_meaning.proofs.KeptSizes.{KeepsTo, outputs_many, Levelled, args_at, body_args, child_sound, none_each, rates_of, within_sizes}
use Rattle.pisdf_meaning.proofs.LinkSizes.{placed}
use Rattle.pisdf_meaning.proofs.MadeLevels.{levels_made}
use Rattle.pisdf_meaning.proofs.SoundGraphs.{levelled}
use Rattle.pisdf_meaning.proofs.StateSizes.{size_at, state_in_sizes}
use Rattle.nested_jobs.specs.Rules.{Task, Work, Call}
use Rattle.nested_jobs.specs.Meanings.{MayAnswer}
use Rattle.job_flow.specs.Events.{HasLens}
use Rattle.job_flow.specs.Frames.{input_rates, output_rates}
use Rattle.job_rules.specs.Words as words
use Rattle.job_rules.specs.Words.{Answer, Gives, Schedules, Refuses, answer_of, fired}
use Rattle.job_rules.specs.Items.{firing_task, node_result, trace_of}
use Rattle.job_rules.specs.Meant.{EndsAs, IsFit, meanings}
use Rattle.job_rules.proofs.Rates.{in_lengths, out_lengths, own_length}

-- ---- the inputs and outputs of a graph, by its early check

inputs_by : (check : ℕ → List ℤ → Checked) (graphs : List Graph) (o : Option Graph) (inherited : List ℤ) → length (check_by check graphs o inherited).early.inputs ≡ length (inputs_of o)
inputs_by check graphs None inherited = refl
inputs_by check graphs (Some g) inherited = length-map {A = Interface} g.inputs _

inputs_to : (n : ℕ) (graphs : List Graph) (place : ℕ) (inherited : List ℤ) → length (check_to (suc n) graphs place inherited).early.inputs ≡ length (inputs_of (slice_get graphs place))
unfolding check_to
inputs_to n graphs place inherited = inputs_by (check_to n graphs) graphs (slice_get graphs place) inherited

pub inputs_many : (graphs : List Graph) (place : ℕ) (inherited : List ℤ) (exprs : List Tree) → length (early_of graphs place inherited).inputs ≡ input_count graphs (Child place exprs)
inputs_many graphs place inherited exprs = inputs_to 7 graphs place inherited ∙ sym (length-map (inputs_of (slice_get graphs place)) (λ (x : Interface). x.name))

-- ---- what a firing gives

kernel_result : (path name : List ℕ) (k : ℕ) (answer : kernel.Answer) → node_result false (fired record { path = path; name = name; turn = k } answer) ≡ kernel_fires path name k answer
kernel_result path name k (kernel.Gives outs sets) = ap Ok (append-nil outs)
kernel_result path name k (kernel.Faults code) = refl

kernel_traces : (path name : List ℕ) (k : ℕ) (answer : kernel.Answer) (r : Result (List (List ℤ)) Refusal) → OnOk r (trace_of (Some (fired record { path = path; name = name; turn = k } answer)) ≡ [])
kernel_traces path name k (kernel.Gives outs sets) (Ok x) = refl
kernel_traces path name k (kernel.Gives outs sets) (Err e) = tt
kernel_traces path name k (kernel.Faults code) (Ok x) = refl
kernel_traces path name k (kernel.Faults code) (Err e) = tt

child_result : (keeps : Bool) (end : End) → node_result keeps (answer_of end) ≡ child_fires keeps end
child_result keeps (Ok given) = refl
child_result keeps (Err refusal) = refl

child_traces : (end : End) → IfOk end (λ (given : Given). trace_of (Some (answer_of end)) ≡ given.trace)
child_traces (Ok given) = refl
child_traces (Err refusal) = tt

no_state : (graphs : List Graph) (actor : Actor) (kernel : ℕ) (exprs : List Tree) (ins outs : List _) → actor.body ≡ Kernel kernel exprs ins outs → has_state graphs actor ≡ false
no_state graphs actor kernel exprs ins outs same = ap (λ (x : Body). nat_lt 0 (state_size graphs x)) same

module _ (signatures : List Counts) (graphs : Graphs) (range : InRange graphs) (well : WellFormed graphs) (fit : AllFit signatures graphs.graphs) (give : GiveLengths signatures) (n : ℕ) (firing : Firing) (g : Graph) (here : slice_get graphs.graphs firing.graph ≡ Some g) where
  pub wired : AreWired graphs.graphs g
  wired = well_wired graphs well (resolvable graphs range well) firing.graph g here

  pub leveled : (place : ℕ) (h : Graph) → slice_get graphs.graphs place ≡ Some h → Levelled graphs.graphs place h
  leveled place h at = levelled graphs well place h at (levels_made graphs range well)

  pub keeps : KeepsTo graphs.graphs (MeansWithin n graphs.graphs)
  keeps = within_sizes signatures graphs.graphs fit give leveled n

  pub resolvable_body : (a : ℕ) (x : Actor) → slice_get g.actors a ≡ Some x → IsBodyResolvable (length graphs.graphs) (length g.params) x.body
  resolvable_body a x at = each_at (λ (y : Actor). IsBodyResolvable (length graphs.graphs) (length g.params) y.body) g.actors (resolvable_at graphs.graphs (resolvable graphs range well) firing.graph g here).actors a x at

  pub graph_there : (place : ℕ) → place < length graphs.graphs → (h : Graph) × (slice_get graphs.graphs place ≡ Some h)
  graph_there place inside = (get_or graphs.graphs place g, slice_get-get_or graphs.graphs place g inside)

  body_fits : (a : ℕ) (x : Actor) → slice_get g.actors a ≡ Some x → BodyFits signatures graphs.graphs x.body
  body_fits a x at = each_at (λ (y : Actor). BodyFits signatures graphs.graphs y.body) g.actors (each_at (GraphFits signatures graphs.graphs) graphs.graphs fit.fit firing.graph g here).fit a x at

  module _ (values : List ℤ) (none : level_faults graphs.graphs g values ≡ []) (b k : ℕ) (actor : Actor) (is : slice_get (acting g) b ≡ Some actor) (read : List (List ℤ))
      (long : lengths read ≡ input_rates (links_of graphs.graphs g values) b) where
    abbrev G : List Graph
    G = graphs.graphs

    abbrev args : List ℤ
    args = tokens_at (level_args g values) b

    pub own_fits : has_state G actor ≡ true → length (tokens_at read (input_count G actor.body)) ≡ state_size G actor.body
    own_fits has = size_at read (input_count G actor.body) ∙ ap (λ l. slice_index l (input_count G actor.body)) long ∙ own_length G firing.graph g here values wired b actor is (leveled firing.graph g here).wired has

    begins : (keep : Bool) (place : ℕ) → (keep ≡ true → length (tokens_at read (input_count G actor.body)) ≡ length (in_line (initial G place))) → lengths (child_state G keep place (input_count G actor.body) read) ≡ lengths (initial G place)
    begins true place own = state_in_sizes G place (tokens_at read (input_count G actor.body)) (own refl)
    begins false place own = refl

    -- a firing of a graph that it calls
    pub child_is_fit : (place : ℕ) (exprs : List Tree) → actor.body ≡ Child place exprs → IsFit G (child_firing G firing actor.name k args (has_state G actor) place (input_count G actor.body) read)
    child_is_fit place exprs same =
        let at = placed g.actors b actor is in
        let body : IsBodyResolvable (length G) (length g.params) (Child place exprs) = let P : Body → Type 0 = λ x. IsBodyResolvable (length G) (length g.params) x in subst P same (resolvable_body at.place actor at.is) in
        let there = graph_there place body.0 in
        let args_are : args ≡ arg_values values exprs = args_at values g.actors b actor is ∙ ap (body_args values) same in
        let child_none = none_each (λ a (x : Actor). acting_faults G values a x.name x.body) 0 g.actors none at.place actor at.is in
        let sound : early_faults G place args ≡ [] = let P : List ℤ → Type 0 = λ l. early_faults G place l ≡ [] in subst P (sym args_are) (child_sound G values (0 + at.place) actor.name actor.body place exprs same child_none) in
        let rates : in_rates G values actor.body ≡ (early_of G place args).inputs = ap (in_rates G values) same ∙ ap (λ (l : List ℤ). (early_of G place l).inputs) (sym args_are) in
        let many : length (in_rates G values actor.body) ≡ input_count G actor.body = ap (λ (l : List ℕ). length l) rates ∙ inputs_many G place args exprs ∙ ap (input_count G) (sym same) in
        record {
          g = there.0;
          here = there.1;
          sound = sound;
          inputs = sym (take-map (λ (l : List ℤ). length l) (input_count G actor.body) read) ∙ ap (take (input_count G actor.body)) long ∙ in_lengths G firing.graph g here values wired b actor is many ∙ rates;
          state = begins (has_state G actor) place (λ has. own_fits has ∙ ap (state_size G) same);
        }

    abbrev Fires : Body → Answer → Type 0
    Fires body a = FiresBody G (MeansWithin n G) firing values args actor body k (trace_of (Some a)) read (node_result (has_state G actor) a)

    -- the firing's answer is such as in one thread
    fires_so : (body : Body) → actor.body ≡ body → (t : Task Firing words.Work) (a : Answer) → firing_task G g firing values b k read actor body ≡ Some t → MayAnswer (meanings G) n t a → Fires body a
    fires_so (Kernel kernel exprs ins outs) same t a task may =
        let spot : words.Spot = record { path = firing.path; name = actor.name; turn = k } in
        let asked : words.Asked = record { kind = kernel; args = args; inputs = read; lens = out_rates G values actor.body; sets = 0 } in
        let work : t ≡ Work (words.Fires spot asked) = cc in
        let P : Task Firing words.Work → Type 0 = λ x. MayAnswer (meanings G) n x a in
        let answer = the_value kernel args read (out_rates G values actor.body) 0 in
        let a_is : a ≡ fired spot answer = subst P work may in
        let state = no_state G actor kernel exprs ins outs same in
        let result : node_result (has_state G actor) a ≡ kernel_fires firing.path actor.name k answer = ap (λ keep. node_result keep a) state ∙ ap (node_result false) a_is ∙ kernel_result firing.path actor.name k answer in
        let Q : Answer → Type 0 = λ x. OnOk (node_result (has_state G actor) a) (trace_of (Some x) ≡ []) in
        (subst Q (sym a_is) (kernel_traces firing.path actor.name k answer (node_result (has_state G actor) a)), result)
    fires_so (Child place exprs) same t a task may =
        let d = child_firing G firing actor.name k args (has_state G actor) place (input_count G actor.body) read in
        let call : t ≡ Call d = cc in
        let P : Task Firing words.Work → Type 0 = λ x. MayAnswer (meanings G) n x a in
        let ends : EndsAs G n d a = subst P call may in
        let Q : Answer → Type 0 = λ x. IfOk ends.end (λ (given : Given). trace_of (Some x) ≡ given.trace) in
        (ends.end, ends.means, subst Q (sym ends.answer_is) (child_traces ends.end), ap (node_result (has_state G actor)) ends.answer_is ∙ child_result (has_state G actor) ends.end)
    fires_so (Config kernel exprs ins outs sets) same t a task may = absurd (cc)
    fires_so (ConfigChild place exprs sets) same t a task may = absurd (cc)

    pub actor_fires : (t : Task Firing words.Work) (a : Answer) → firing_task G g firing values b k read actor actor.body ≡ Some t → MayAnswer (meanings G) n t a →
        FiresActor G (MeansWithin n G) firing values args (Some actor) k (trace_of (Some a)) read (node_result (has_state G actor) a)
    actor_fires t a task may = fires_so actor.body refl t a task may

    -- ---- how much it gives

    state_more : (keep : Bool) (outs : List (List ℤ)) (state : List (List ℤ)) → length (outs ++ (if keep then in_line state ∷ [] else [])) ≡ length outs + one keep
    state_more true outs state = length-append outs (in_line state ∷ [])
    state_more false outs state = length-append outs []

    kernel_many : (path name : List ℕ) (lens : List ℕ) (answer : kernel.Answer) (outs : List (List ℤ)) → HasLengths lens 0 answer → Ok outs ≡ kernel_fires path name k answer → length outs ≡ length lens
    kernel_many path name lens (kernel.Gives given sets) outs sizes e =
        let same : outs ≡ given = cc in
        sym (length-map outs (λ (l : List ℤ). length l)) ∙ ap (λ (l : List (List ℤ)). length (lengths l)) same ∙ ap (λ (l : List ℕ). length l) sizes.0
    kernel_many path name lens (kernel.Faults code) outs sizes e = absurd (cc)

    child_many : (keep : Bool) (end : End) (outs : List (List ℤ)) (rates : List ℕ) → Ok outs ≡ child_fires keep end → ((given : Given) → end ≡ Ok given → lengths given.outs ≡ rates) → length outs ≡ length rates + one keep
    child_many keep (Ok given) outs rates e sizes =
        let same : outs ≡ given.outs ++ (if keep then in_line given.state ∷ [] else []) = cc in
        ap (λ (l : List (List ℤ)). length l) same ∙ state_more keep given.outs given.state ∙ ap (λ m. m + one keep) (sym (length-map given.outs (λ (l : List ℤ). length l)) ∙ ap (λ (l : List ℕ). length l) (sizes given refl))
    child_many keep (Err refusal) outs rates e sizes = absurd (cc)

    outs_many : (body : Body) → actor.body ≡ body → (trace : List TraceRow) (outs : List (List ℤ)) → FiresBody G (MeansWithin n G) firing values args actor body k trace read (Ok outs) → length outs ≡ output_count G body + one (has_state G actor)
    outs_many (Kernel kernel exprs ins out_ports) same trace outs fires =
        let at = placed g.actors b actor is in
        let fitting : BodyFits signatures G (Kernel kernel exprs ins out_ports) = let P : Body → Type 0 = λ x. BodyFits signatures G x in subst P same (body_fits at.place actor at.is) in
        let rates : out_rates G values actor.body ≡ port_rates values out_ports = ap (out_rates G values) same in
        let ports : length (out_rates G values actor.body) ≡ length out_ports = ap (λ (l : List ℕ). length l) rates ∙ length-map out_ports _ in
        let sizes = give kernel fitting.counts fitting.place args read (out_rates G values actor.body) 0 (ports ∙ fitting.outs) fitting.sets.0 fitting.sets.1 in
        let many = kernel_many firing.path actor.name (out_rates G values actor.body) (the_value kernel args read (out_rates G values actor.body) 0) outs sizes fires.1 in
        let state = ap one (no_state G actor kernel exprs ins out_ports same) in
        let names = length-map out_ports (λ (p : _). p.name) in
        omega arith
    outs_many (Child place exprs) same trace outs fires =
        let child = child_is_fit place exprs same in
        let d = child_firing G firing actor.name k args (has_state G actor) place (input_count G actor.body) read in
        child_many (has_state G actor) fires.0 outs (early_of G place args).outputs fires.3 (λ given e. let P : End → Type 0 = λ end. MeansWithin n G d end in (keeps d given child.sound child.state (subst P e fires.1)).outs)
        ∙ ap (λ m. m + one (has_state G actor)) (outputs_many G place args exprs)
    outs_many (Config kernel exprs ins out_ports sets) same trace outs fires = absurd fires
    outs_many (ConfigChild place exprs sets) same trace outs fires = absurd fires

    module _ (fitted : IsFit G firing) where
      -- its outputs are as long as the links say
      pub outs_have_lens : (trace : List TraceRow) (r : Result (List (List ℤ)) Refusal) → FiresActor G (MeansWithin n G) firing values args (Some actor) k trace read r → HasLens (output_rates (links_of G g values) b) r
      outs_have_lens trace (Err refusal) fires = tt
      outs_have_lens trace (Ok outs) fires =
          let many = outs_many actor.body refl trace outs fires in
          let fitting : (x : Actor) → slice_get (acting g) b ≡ Some x → has_state G x ≡ true → length (tokens_at read (input_count G x.body)) ≡ state_size G x.body =
          λ x at. let same : actor ≡ x = let e : Some actor ≡ Some x = sym is ∙ at in cc in let P : Actor → Type 0 = λ y. has_state G y ≡ true → length (tokens_at read (input_count G y.body)) ≡ state_size G y.body in subst P same own_fits in
          let rates : HaveRates b outs (links_of G g values) = rates_of signatures G fit give (MeansWithin n G) keeps g firing here (leveled firing.graph g here) fitted.sound fitted.state values none b k trace read outs (Some actor) is fitting fires in
          out_lengths G firing.graph g here values wired b actor is outs many rates
