-- A settled job: each item of it that has a task is finished, and it ends as the firing does in one thread. Where nothing was
-- refused, each of its items is finished.
use Rattle.std.proofs.Common.{◌≡◌, ℕ, suc, ◌+◌, ◌<◌, ℤ, pos, List, [], length, get_or, slice_get, Option, Some, None, unwrap_or, Result, Ok, Err, refl, sym, ap, ◌∙◌, subst, arith, Bool, true, zero, ⊎_elim, ◌-◌, ◌≤◌}
use Rattle.std.proofs.lemmas.Option.{slice_get-get_or}
use Rattle.std.specs.Option.{option_map}
use Rattle.std.proofs.lemmas.Bool.{not-true, cases_lt}
use Rattle.kernel_gate.specs.Signed.{Counts}
use Rattle.kernel_gate.specs.Laws.{GiveLengths}
use Rattle.param_resolver.specs.LevelOf.{level_args}
use Rattle.param_resolver.specs.Numbering.{acting, has_state, fires}
use Rattle.pisdf_model.specs.Range.{InRange}
use Rattle.pisdf_model.specs.WellFormed.{WellFormed}
use Rattle.pisdf_model.specs.declared.actor.Actor.{Actor}
use Rattle.pisdf_model.specs.declared.actor.Body.TheVariants.{Kernel}
use Rattle.pisdf_model.specs.declared.graph.Graph.{Graph}
use Rattle.pisdf_model.specs.declared.graph.Graphs.{Graphs}
use Rattle.pisdf_model.specs.InterfaceWires.{is_configuration}
use Rattle.level_schedule.specs.declared.scheduling.LevelSchedule.{LevelSchedule}
use Rattle.sdf_level.specs.Laws.{Firing as Made, among}
use Rattle.sdf_level.specs.LevelRun.{Ended, IsLevelRun}
use Rattle.sdf_level.specs.declared.node.Node.TheVariants as node
use Rattle.sdf_level.specs.declared.node.Node.{Node}
use Rattle.single_rate.specs.Expanded.{place_of}
use Rattle.pisdf_meaning.specs.Configuring.{Configuration, LeaveAll, configurations}
use Rattle.pisdf_meaning.specs.Endings.{End}
use Rattle.pisdf_meaning.specs.Meaning.{MeansWithin}
use Rattle.pisdf_meaning.specs.Running.{Fires, FiresActor, RunsLevel, given_by}
use Rattle.pisdf_meaning.specs.declared.outcome.TraceRow.{TraceRow}
use Rattle.pisdf_meaning.specs.Sound.{AllFit}
use Rattle.pisdf_meaning.specs.States.{tokens_at}
use Rattle.pisdf_meaning.specs.declared.firing.Configured.{Configured}
use Rattle.pisdf_meaning.specs.declared.firing.Firing.{Firing}
use Rattle.pisdf_meaning.specs.declared.refusal.Refusal.{Refusal}
use Rattle.pisdf_meaning.proofs.LinkSizes.{one_at, placed}
use Rattle.pisdf_meaning.specs.declared.firing.Given.{Given}
use Rattle.nested_jobs.specs.Rules.{Work, Values, Task}
use Rattle.nested_jobs.specs.Meanings as jobs
use Rattle.job_flow.specs.Frames as flow
use Rattle.job_flow.specs.Frames.{inputs, lens}
use Rattle.job_flow.specs.Graphs.{IsJobGraph, JobGraph, node_at}
use Rattle.job_flow.specs.Events.{Settled, IsFinished, IsQuiet, IsDone}
use Rattle.job_flow.specs.Laws.{JobsEndAsRuns, JobsFinish}
use Rattle.job_flow.specs.Outcomes as outcomes
use Rattle.job_flow.specs.Outcomes.{Failure, ended, failure}
use Rattle.job_rules.specs.Words.{Answer, Gives, Schedules, Refuses, Compiles}
use Rattle.job_rules.specs.Doing.{LeadsToSchedule, scheduled}
use Rattle.job_rules.specs.Items.{Prepared, actor_of, actor_task, keeps_state, compile_number, compile_rule, count, first_refusal, firing_task, given_in, graph_of, job_rules, left_in, no_schedule, node_base, node_result, node_task, nodes_after, outcome, outcome_of, prepared_in, refusal_or, rule, trace_of, traces_in, values_in, node_rule}
use Rattle.job_rules.specs.Meant.{EndsAs, IsFit, meanings}
use Rattle.job_rules.proofs.Answered.{Laws, answered, coded, here, is_job, job, level_so, prep, reads, reads_long, told, vs}
use Rattle.job_rules.proofs.Called.{actor_fires}
use Rattle.job_rules.proofs.Compiled as compilation
use Rattle.job_rules.proofs.Compiled.{compiled, refused_so, runs_so, came}
use Rattle.job_rules.proofs.Configured.{Came, Tells, walk}
use Rattle.job_rules.proofs.Numbers.{rule_of_compilation, rule_of_configuration, rule_of_node}
use Rattle.job_rules.proofs.Settled.{decoded, fault_of, level_runs_also, node_refusals, body_has_task, inside_of}
use Rattle.job_rules.specs.Words as words
use Rattle.job_rules.proofs.Growing.{is_ready}
use Rattle.job_rules.proofs.Lawfully.{config_has_task, configured}
use Rattle.job_rules.proofs.OfActors.{of_actor, within}

-- ---- no refusal

later_none : (o : Option Answer) (later : Option Refusal) → refusal_or o later ≡ None → later ≡ None
later_none None later is = is
later_none (Some (Gives given)) later is = is
later_none (Some (Schedules schedule)) later is = is
later_none (Some (Refuses refusal)) later is = absurd (cc)

none_behind : (v : Values Answer) (i a b : ℕ) → first_refusal v i (a + b) ≡ None → first_refusal v (i + a) b ≡ None
none_behind v i zero b is = let e : i + 0 ≡ i = omega arith in let f : 0 + b ≡ b = omega arith in subst (λ (k : ℕ). first_refusal v k b ≡ None) (sym e) (subst (λ (k : ℕ). first_refusal v i k ≡ None) f is)
none_behind v i (suc a) b is =
    let e : suc a + b ≡ suc (a + b) = omega arith in
    let f : i + 1 + a ≡ i + suc a = omega arith in
    let later : first_refusal v (i + 1) (a + b) ≡ None = later_none (v i) (first_refusal v (i + 1) (a + b)) (subst (λ (k : ℕ). first_refusal v i k ≡ None) e is) in
    subst (λ (k : ℕ). first_refusal v k b ≡ None) f (none_behind v (i + 1) a b later)

no_failure : (o : Option (Failure Refusal)) → fault_of o ≡ None → o ≡ None
no_failure None is = refl
no_failure (Some first) is = absurd (cc)

done_some : {X : Type 0} (f : X → Result (List (List ℤ)) Refusal) (o : Option X) → IsDone (option_map f o) → (x : X) × (o ≡ Some x)
done_some f None done = absurd done
done_some f (Some x) done = (x, refl)

module _ (laws : Laws) (signatures : List Counts) (graphs : Graphs) (range : InRange graphs) (well : WellFormed graphs) (fit : AllFit signatures graphs.graphs) (give : GiveLengths signatures) (n : ℕ) (firing : Firing) (v : Values Answer)
    (fitted : IsFit graphs.graphs firing) (settled : jobs.Settled (job_rules graphs.graphs) (meanings graphs.graphs) n firing v) where
  abbrev G : List Graph
  G = graphs.graphs

  abbrev g : Graph
  g = graph_of G firing

  abbrev cs : List Configuration
  cs = configurations g

  there : slice_get G firing.graph ≡ Some g
  there = here laws signatures graphs range well fit give n firing v fitted settled.sound

  -- no configuration actor was refused
  abbrev NoActorRefused : Type 0
  NoActorRefused = (m : ℕ) → first_refusal v 0 (length cs + m) ≡ first_refusal v (0 + length cs) m

  -- ---- once it is compiled

  module _ (p : Prepared) (prepared_so : prepared_in g v ≡ Some p) where
    abbrev own_job : JobGraph ℤ
    own_job = job laws signatures graphs range well fit give n firing v fitted settled.sound p prepared_so

    abbrev nodes_values : flow.Values ℤ Refusal
    nodes_values = vs laws signatures graphs range well fit give n firing v fitted settled.sound p prepared_so

    abbrev elements : ℕ → Made ℤ Refusal
    elements = coded laws signatures graphs range well fit give n firing v fitted settled.sound p prepared_so

    abbrev len : ℕ
    len = length own_job.nodes

    abbrev own_values : List ℤ
    own_values = values_in g firing p

    level_known : compilation.HasLevel G g firing p.left p.schedule
    level_known = level_so laws signatures graphs range well fit give n firing v fitted settled.sound p prepared_so

    counts_many : length p.schedule.counts ≡ length (acting g)
    counts_many = level_known.is_scheduled.repetition.multiplied.one_each

    job_is : IsJobGraph p.schedule.counts p.schedule.order own_job
    job_is = is_job laws signatures graphs range well fit give n firing v fitted settled.sound p prepared_so

    -- each ready node has a task
    node_has_task : (m : ℕ) → m < length own_job.nodes → (nd : Node) → node_at own_job.nodes m ≡ nd → (read : List (List ℤ)) (lengths : List ℕ) → (t : Task Firing words.Work) × (node_task G g firing own_values nd read lengths ≡ Some t)
    node_has_task m inside (node.Source s) at read lengths = (_, refl)
    node_has_task m inside (node.Init l) at read lengths = (_, refl)
    node_has_task m inside (node.Firing b k) at read lengths =
        let of = of_actor laws.all laws.in_order own_job.level p.schedule.counts p.schedule.order job_is.order m b k at in
        let count = within laws.all laws.in_order own_job.level p.schedule.counts p.schedule.order job_is.order b k of in
        let low = inside_of p.schedule.counts b (omega arith) in
        let many = counts_many in
        let actor : Actor = get_or (acting g) b record { name = []; body = Kernel 0 [] [] [] } in
        let found : slice_get (acting g) b ≡ Some actor = slice_get-get_or (acting g) b record { name = []; body = Kernel 0 [] [] [] } (omega arith) in
        let acts : fires actor ≡ true = (placed g.actors b actor found).acts in
        let task = body_has_task G g firing own_values b k read actor actor.body (not-true (is_configuration actor.body) acts) in
        (task.0, ap (λ o. actor_task G g firing own_values b k read o) found ∙ task.1)
    node_has_task m inside (node.Broadcast l) at read lengths = (_, refl)
    node_has_task m inside (node.Fork l i) at read lengths = (_, refl)
    node_has_task m inside (node.Join l j) at read lengths = (_, refl)
    node_has_task m inside (node.Round l) at read lengths = (_, refl)
    node_has_task m inside (node.End l) at read lengths = (_, refl)
    node_has_task m inside (node.Sink t) at read lengths = (_, refl)

    is_finished : (keeps : Bool) (o : Option Answer) (a : Answer) → o ≡ Some a → IsFinished (option_map (node_result keeps) o)
    is_finished keeps None a is = absurd (cc)
    is_finished keeps (Some x) a is = tt

    quiet : IsQuiet own_job nodes_values
    quiet m ready =
        let task = node_has_task m ready.there (node_at own_job.nodes m) refl (inputs own_job nodes_values m) (lens own_job m) in
        let test = is_ready G g firing p nodes_values m ready in
        let at : node_rule G g firing v m (Some p) ≡ Some task.0 = rw test task.1 in
        let rule_is : rule G firing v (node_base g + m) ≡ Some task.0 = rule_of_node G g firing v cs m ∙ ap (node_rule G g firing v m) prepared_so ∙ at in
        let a = settled.whole (node_base g + m) task.0 rule_is in
        is_finished _ (v (node_base g + m)) a.0 a.1

    quiet_job : Settled own_job (among elements) nodes_values
    quiet_job = record { answered = answered laws signatures graphs range well fit give n firing v fitted settled.sound p prepared_so; quiet = quiet }

    -- ---- its level in one thread

    -- what the finished firings made, one thread gets
    also : (b k : ℕ) (ins : List (List ℤ)) (r : Result (List (List ℤ)) Refusal) → b < length (acting g) → among elements b k ins r → Fires G (MeansWithin n G) g firing own_values (traces_in G g firing p v) b k ins r
    also b k ins r below one =
        let m : ℕ = one.0 in
        let d = decoded (length (acting g)) (node_at own_job.nodes m) (inputs own_job nodes_values m) (nodes_values m) b k ins r below one.1 in
        let s = told laws signatures graphs range well fit give n firing v fitted settled.sound p prepared_so m r d.answer_is in
        let reading = reads laws signatures graphs range well fit give n firing v fitted settled.sound p prepared_so m s.ready in
        let long = reads_long laws signatures graphs range well fit give n firing v fitted settled.sound p prepared_so m b k d.node_is reading in
        let actor : Actor = get_or (acting g) b record { name = []; body = Kernel 0 [] [] [] } in
        let found : slice_get (acting g) b ≡ Some actor = slice_get-get_or (acting g) b record { name = []; body = Kernel 0 [] [] [] } below in
        let task : firing_task G g firing own_values b k (inputs own_job nodes_values m) actor actor.body ≡ Some s.t =
        ap (λ o. actor_task G g firing own_values b k (inputs own_job nodes_values m) o) (sym found) ∙ ap (λ x. node_task G g firing own_values x (inputs own_job nodes_values m) (lens own_job m)) (sym d.node_is) ∙ s.task in
        let fires_it = actor_fires signatures graphs range well fit give n firing g there own_values level_known.sound b k actor found (inputs own_job nodes_values m) long s.t s.a task s.may in
        let keeps_is : keeps_state G (actor_of g (node_at own_job.nodes m)) ≡ has_state G actor = ap (λ x. keeps_state G (actor_of g x)) d.node_is ∙ ap (keeps_state G) found in
        let result : r ≡ node_result (has_state G actor) s.a = s.result ∙ ap (λ keeps. node_result keeps s.a) keeps_is in
        let number : place_of own_job.nodes (node.Firing b k) ≡ m = ap (place_of own_job.nodes) (sym d.node_is) ∙ laws.once p.schedule.counts p.schedule.order own_job m job_is s.ready.there in
        let trace : traces_in G g firing p v b k ≡ trace_of (Some s.a) = ap (λ i. trace_of (v (node_base g + i))) number ∙ ap trace_of s.answered in
        let args = tokens_at (level_args g own_values) b in
        let A : Option Actor → Type 0 = λ o. FiresActor G (MeansWithin n G) firing own_values args o k (trace_of (Some s.a)) (inputs own_job nodes_values m) (node_result (has_state G actor) s.a) in
        let B : List TraceRow → Type 0 = λ t. FiresActor G (MeansWithin n G) firing own_values args (slice_get (acting g) b) k t (inputs own_job nodes_values m) (node_result (has_state G actor) s.a) in
        let C : List (List ℤ) → Type 0 = λ read. FiresActor G (MeansWithin n G) firing own_values args (slice_get (acting g) b) k (traces_in G g firing p v b k) read (node_result (has_state G actor) s.a) in
        let D : Result (List (List ℤ)) Refusal → Type 0 = λ x. FiresActor G (MeansWithin n G) firing own_values args (slice_get (acting g) b) k (traces_in G g firing p v b k) ins x in
        subst D (sym result) (subst C d.read_is (subst B (sym trace) (subst A (sym found) fires_it)))

    abbrev LevelRun : Result (Ended ℤ) Refusal → Type 0
    LevelRun end = IsLevelRun own_job.level p.schedule.counts own_job.sources own_job.delays (Fires G (MeansWithin n G) g firing own_values (traces_in G g firing p v)) end

    means : (end : End) → RunsLevel G (MeansWithin n G) g firing p.left own_values p.schedule.counts end → MeansWithin (suc n) G firing end
    means end level =
        let known = prep laws signatures graphs range well fit give n firing v fitted settled.sound p prepared_so in
        (g, there, (Ok p.left, known.leave, runs_so G g firing p.left (MeansWithin n G) p.schedule end known.leads level))

    module _ (runs : JobsEndAsRuns ℤ Refusal ℕ) where
      level_run : LevelRun (outcomes.outcome own_job nodes_values)
      level_run =
          level_runs_also own_job.level (among elements) (Fires G (MeansWithin n G) g firing own_values (traces_in G g firing p v)) (length (acting g)) also own_job.sources p.schedule.counts own_job.delays (outcomes.outcome own_job nodes_values) counts_many
          (runs (pos 0) p.schedule.counts p.schedule.order own_job elements nodes_values job_is quiet_job)

      ends_so : (o : Option (Failure Refusal)) → failure own_job nodes_values ≡ o → EndsAs G (suc n) firing (outcome_of G g firing v (fault_of o))
      ends_so None is =
          let P : Option (Failure Refusal) → Type 0 = λ o. LevelRun (outcomes.outcome_of own_job nodes_values o) in
          let given = given_by G g firing p.left own_values p.schedule.counts (traces_in G g firing p v) (ended own_job nodes_values) in
          record {
            end = Ok given;
            means = means (Ok given) record { traces = traces_in G g firing p v; run = Ok (ended own_job nodes_values); level_run = subst P is level_run; gives = refl };
            answer_is = ap (λ o. given_in G g firing v (unwrap_or o no_schedule)) prepared_so;
          }
      ends_so (Some first) is =
          let P : Option (Failure Refusal) → Type 0 = λ o. LevelRun (outcomes.outcome_of own_job nodes_values o) in
          record {
            end = Err first.fault;
            means = means (Err first.fault) record { traces = traces_in G g firing p v; run = Err first.fault; level_run = subst P is level_run; gives = refl };
            answer_is = refl;
          }

      module _ (skips : NoActorRefused) (compiled_is : v (compile_number g) ≡ Some (Schedules p.schedule)) where
        first_is : first_refusal v 0 (count G firing v) ≡ fault_of (failure own_job nodes_values)
        first_is =
            let items : count G firing v ≡ node_base g + len = ap (λ o. node_base g + length (nodes_after G g firing o)) prepared_so in
            let all : count G firing v ≡ length cs + suc len = items ∙ (let e : length cs + 1 + len ≡ length cs + suc len = omega arith in e) in
            let zeroth : 0 + length cs ≡ length cs = omega arith in
            let next : 0 + length cs + 1 ≡ node_base g + 0 = omega arith in
            ap (first_refusal v 0) all ∙ skips (suc len)
            ∙ ap (λ o. refusal_or o (first_refusal v (0 + length cs + 1) len)) (ap v zeroth ∙ compiled_is)
            ∙ ap (λ k. first_refusal v k len) next ∙ node_refusals G g firing p v 0 len

        prepared_ends : EndsAs G (suc n) firing (outcome G firing v)
        prepared_ends =
            let P : Option Refusal → Type 0 = λ o. EndsAs G (suc n) firing (outcome_of G g firing v o) in
            subst P (sym first_is) (ends_so (failure own_job nodes_values) refl)

    -- ---- its nodes, where none is refused

    node_finished : JobsFinish ℤ Refusal ℕ → first_refusal v (node_base g + 0) len ≡ None → (m : ℕ) → m < len → (a : Answer) × (v (node_base g + m) ≡ Some a)
    node_finished finish none m inside =
        let nothing : failure own_job nodes_values ≡ None = no_failure (failure own_job nodes_values) (sym (node_refusals G g firing p v 0 len) ∙ none) in
        done_some _ (v (node_base g + m)) (finish p.schedule.counts p.schedule.order own_job elements nodes_values job_is quiet_job nothing m inside)

  -- ---- where it is refused before that

  refused_ends : (refusal : Refusal) → MeansWithin (suc n) G firing (Err refusal) → prepared_in g v ≡ None → first_refusal v 0 (length cs + 1) ≡ Some refusal → EndsAs G (suc n) firing (outcome G firing v)
  refused_ends refusal means none first =
      let items : count G firing v ≡ length cs + 1 = ap (λ o. node_base g + length (nodes_after G g firing o)) none ∙ (let e : length cs + 1 + 0 ≡ length cs + 1 = omega arith in e) in
      record { end = Err refusal; means = means; answer_is = ap (outcome_of G g firing v) (ap (first_refusal v 0) items ∙ first) }

  -- ---- its configuration actors and its compilation

  each : (j : ℕ) (c : Configuration) → slice_get cs j ≡ Some c → (a : Answer) × Came G n g firing v (0 + j) c a
  each j c at =
      let task = config_has_task G g firing c c.body (one_at (λ (x : Configuration). is_configuration x.body ≡ true) cs (configured 0 0 g.actors) j c at) in
      let a = settled.whole j task.0 (rule_of_configuration G g firing v cs j c at ∙ task.1) in
      let e : j ≡ 0 + j = omega arith in
      let P : ℕ → Type 0 = λ k. Came G n g firing v k c a.0 in
      (a.0, subst P e (came G n firing v there settled.sound j c at a.0 a.1))

  compilation_answered : (left : List Configured) → left_in g v ≡ Some left → (a : Answer) × (v (compile_number g) ≡ Some a)
  compilation_answered left left_is = settled.whole (compile_number g) (Work (Compiles firing left)) (rule_of_compilation G g firing v cs ∙ ap (compile_rule firing) left_is)

  -- ---- how it ends

  module _ (runs : JobsEndAsRuns ℤ Refusal ℕ) where
    compiled_ends : (left : List Configured) → left_in g v ≡ Some left → LeaveAll G (MeansWithin n G) g firing cs (Ok left) → NoActorRefused →
        (a : Answer) → v (compile_number g) ≡ Some a → (end : Result LevelSchedule Refusal) → LeadsToSchedule G g firing left end → a ≡ scheduled end → EndsAs G (suc n) firing (outcome G firing v)
    compiled_ends left left_is leave skips a is (Ok s) leads answer_is =
        let p : Prepared = record { left = left; schedule = s } in
        let at : v (compile_number g) ≡ Some (Schedules s) = is ∙ ap Some answer_is in
        let prepared_so : prepared_in g v ≡ Some p = rw (left_is, at) refl in
        prepared_ends p prepared_so runs skips at
    compiled_ends left left_is leave skips a is (Err refusal) leads answer_is =
        let at : v (compile_number g) ≡ Some (Refuses refusal) = is ∙ ap Some answer_is in
        let none : prepared_in g v ≡ None = rw (left_is, at) refl in
        let zeroth : 0 + length cs ≡ length cs = omega arith in
        let first : first_refusal v 0 (length cs + 1) ≡ Some refusal = skips 1 ∙ ap (λ o. refusal_or o None) (ap v zeroth ∙ at) in
        refused_ends refusal (g, there, (Ok left, leave, refused_so G g firing left (MeansWithin n G) refusal leads)) none first

    walked_ends : (all : Result (List Configured) Refusal) → LeaveAll G (MeansWithin n G) g firing cs all → Tells G n g firing v 0 cs all → EndsAs G (suc n) firing (outcome G firing v)
    walked_ends (Ok left) leave tells =
        let a = compilation_answered left tells.0 in
        let told_so = compiled G n firing v there settled.sound a.0 a.1 in
        let same : told_so.left ≡ left = let e : Some told_so.left ≡ Some left = sym told_so.left_is ∙ tells.0 in cc in
        let P : List Configured → Type 0 = λ x. LeadsToSchedule G g firing x told_so.end in
        compiled_ends left tells.0 leave tells.1 a.0 a.1 told_so.end (subst P same told_so.leads) told_so.answer_is
    walked_ends (Err refusal) leave tells =
        refused_ends refusal (g, there, (Err refusal, leave, refl)) (rw (tells.0) refl) (tells.1 1)

    pub settled_ends : EndsAs G (suc n) firing (outcome G firing v)
    settled_ends = let walked = walk G n g firing v 0 cs each in walked_ends walked.all walked.leave walked.tells

  -- ---- all items, where nothing is refused

  config_finished : (j : ℕ) → j < length cs → (a : Answer) × (v j ≡ Some a)
  config_finished j inside =
      let d : Configuration = record { number = 0; place = 0; name = []; body = Kernel 0 [] [] [] } in
      let t = each j (get_or cs j d) (slice_get-get_or cs j d inside) in
      let e : 0 + j ≡ j = omega arith in
      (t.0, ap v (sym e) ∙ t.1.0)

  -- every item is finished, of a job that is compiled
  pub record Finished : Type 0 where
    pub p : Prepared
    pub prepared_so : prepared_in g v ≡ Some p
    pub each_item : (i : ℕ) → i < count G firing v → (a : Answer) × (v i ≡ Some a)

  module _ (finish : JobsFinish ℤ Refusal ℕ) (given : Given) (gives : outcome G firing v ≡ Gives given) where
    none_refused : first_refusal v 0 (count G firing v) ≡ None
    none_refused = go (first_refusal v 0 (count G firing v)) refl
      where
        go : (o : Option Refusal) → first_refusal v 0 (count G firing v) ≡ o → first_refusal v 0 (count G firing v) ≡ None
        go None e = e
        go (Some refusal) e = let no : Refuses refusal ≡ Gives given = sym (ap (outcome_of G g firing v) e) ∙ gives in absurd (cc)

    -- how many nodes there are
    abbrev many : ℕ
    many = length (nodes_after G g firing (prepared_in g v))

    count_is : count G firing v ≡ length cs + (1 + many)
    count_is = omega arith

    none_of : first_refusal v 0 (length cs + (1 + many)) ≡ None
    none_of = ap (first_refusal v 0) (sym count_is) ∙ none_refused

    prepared_finished : (p : Prepared) → prepared_in g v ≡ Some p → (a : Answer) → v (compile_number g) ≡ Some a → Finished
    prepared_finished p prepared_so a compiled_is = record { p = p; prepared_so = prepared_so; each_item = item }
      where
        nodes_many : many ≡ length (nodes_after G g firing (Some p))
        nodes_many = ap (λ (o : Option Prepared). length (nodes_after G g firing o)) prepared_so

        none_nodes : first_refusal v (node_base g + 0) (length (nodes_after G g firing (Some p))) ≡ None
        none_nodes =
            let behind = none_behind v 0 (length cs + 1) many (let e : length cs + 1 + many ≡ length cs + (1 + many) = omega arith in ap (first_refusal v 0) e ∙ none_of) in
            let e : 0 + (length cs + 1) ≡ node_base g + 0 = omega arith in
            subst (λ (k : ℕ). first_refusal v (node_base g + 0) k ≡ None) nodes_many (subst (λ (k : ℕ). first_refusal v k many ≡ None) e behind)

        item : (i : ℕ) → i < count G firing v → (x : Answer) × (v i ≡ Some x)
        item i inside = ⊎_elim
            (λ (low : i < length cs). config_finished i low)
            (λ (past : length cs ≤ i). ⊎_elim
            (λ (more : length cs < i).
            let m : ℕ = i - node_base g in
            let e : node_base g + m ≡ i = omega arith in
            let all = count_is in
            let same = nodes_many in
            let t = node_finished p prepared_so finish none_nodes m (omega arith) in
            (t.0, ap v (sym e) ∙ t.1))
            (λ (last : i ≤ length cs). let e : i ≡ compile_number g = omega arith in (a, ap v e ∙ compiled_is))
            (cases_lt (length cs) i))
            (cases_lt i (length cs))

    compiled_finished : (left : List Configured) → left_in g v ≡ Some left → NoActorRefused →
        (a : Answer) → v (compile_number g) ≡ Some a → (end : Result LevelSchedule Refusal) → a ≡ scheduled end → Finished
    compiled_finished left left_is skips a is (Ok s) answer_is =
        let p : Prepared = record { left = left; schedule = s } in
        let at : v (compile_number g) ≡ Some (Schedules s) = is ∙ ap Some answer_is in
        let prepared_so : prepared_in g v ≡ Some p = rw (left_is, at) refl in
        prepared_finished p prepared_so a is
    compiled_finished left left_is skips a is (Err refusal) answer_is =
        let at : v (compile_number g) ≡ Some (Refuses refusal) = is ∙ ap Some answer_is in
        let zeroth : 0 + length cs ≡ length cs = omega arith in
        let next : 1 + many ≡ suc many = omega arith in
        let first : first_refusal v 0 (length cs + (1 + many)) ≡ Some refusal =
        skips (1 + many) ∙ (ap (first_refusal v (0 + length cs)) next ∙ ap (λ o. refusal_or o (first_refusal v (0 + length cs + 1) many)) (ap v zeroth ∙ at)) in
        let no : None ≡ Some refusal = sym none_of ∙ first in
        absurd (cc)

    walked_finished : (all : Result (List Configured) Refusal) → Tells G n g firing v 0 cs all → Finished
    walked_finished (Ok left) tells =
        let a = compilation_answered left tells.0 in
        let told_so = compiled G n firing v there settled.sound a.0 a.1 in
        let same : left ≡ told_so.left = let e : Some left ≡ Some told_so.left = sym tells.0 ∙ told_so.left_is in cc in
        compiled_finished left tells.0 tells.1 a.0 a.1 told_so.end told_so.answer_is
    walked_finished (Err refusal) tells = let no : None ≡ Some refusal = sym none_of ∙ tells.1 (1 + many) in absurd (cc)

    pub finished : Finished
    finished = let walked = walk G n g firing v 0 cs each in walked_finished walked.all walked.tells
