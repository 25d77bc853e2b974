-- A compilation that a worker runs is of a firing that can be compiled, and has an answer.
use Rattle.std.proofs.Common.{◌≡◌, ℕ, zero, suc, ◌<◌, Bool, true, false, if◌then◌else◌, ℤ, Option, Some, None, Result, Ok, Err, List, [], ◌∷◌, slice_get, refl, sym, subst, arith}
use Rattle.std.proofs.lemmas.Option.{slice_get_within}
use Rattle.level_schedule.specs.Laws.{HasAnswer, IsAnswerOf}
use Rattle.level_schedule.specs.declared.scheduling.LevelSchedule.{LevelSchedule}
use Rattle.level_schedule.specs.declared.unscheduled.Unscheduled.{Unscheduled}
use Rattle.param_resolver.proofs.Sound.{nested}
use Rattle.param_resolver.specs.EarlyCheck.{early_faults}
use Rattle.param_resolver.specs.LevelOf.{level_faults}
use Rattle.param_resolver.specs.Numbering.{acting}
use Rattle.pisdf_model.specs.Range.{InRange}
use Rattle.pisdf_model.specs.WellFormed.{WellFormed}
use Rattle.pisdf_model.specs.declared.actor.Actor.{Actor}
use Rattle.pisdf_model.specs.declared.actor.Body.{Body}
use Rattle.pisdf_model.specs.declared.actor.Body.TheVariants.{Kernel, Config, Child, ConfigChild}
use Rattle.pisdf_model.specs.declared.graph.Graph.{Graph}
use Rattle.pisdf_model.specs.declared.graph.Graphs.{Graphs}
use Rattle.sdf_level.specs.Invariants.{IsLevel}
use Rattle.sdf_level.specs.View.{LevelView}
use Rattle.sdf_level.specs.declared.node.Node.{Node}
use Rattle.sdf_level.specs.declared.node.Node.TheVariants as node
use Rattle.pisdf_meaning.specs.Causes.{schedule_cause}
use Rattle.pisdf_meaning.specs.Configuring.{Configuration, configurations}
use Rattle.pisdf_meaning.specs.Endings.{Then}
use Rattle.pisdf_meaning.specs.Preparing.{Schedules, level_in, rated, resolved}
use Rattle.pisdf_meaning.specs.declared.firing.Configured.{Configured}
use Rattle.pisdf_meaning.specs.declared.firing.Firing.{Firing}
use Rattle.pisdf_meaning.specs.declared.refusal.Refusal.{Refusal}
use Rattle.pisdf_meaning.proofs.MadeLevels.{levels_made}
use Rattle.pisdf_meaning.proofs.SomeMeaning.{unrefused}
use Rattle.nested_jobs.specs.Rules.{Call, Place, Task, Values, Work}
use Rattle.nested_jobs.specs.Marks.{Mark, Marks, Free, Busy, Open, Done, values}
use Rattle.nested_jobs.specs.Journals.{start, task_of}
use Rattle.nested_jobs.specs.Meanings.{Lawful, Meant}
use Rattle.nested_jobs.specs.Steps.{task_in}
use Rattle.nested_jobs.proofs.Telling.{journal_tells, legal_answered}
use Rattle.job_rules.specs.Doing.{Answers, IsCompiled, LeadsToSchedule, scheduled}
use Rattle.job_rules.specs.Items.{Prepared, actor_task, compile_rule, config_task, firing_task, graph_of, left_in, node_rule, node_task, prepared_in, rule, rule_from}
use Rattle.job_rules.specs.Meant.{IsFit, meanings, rank}
use Rattle.job_rules.specs.Words as words
use Rattle.job_rules.specs.Words.{Answer}
use Rattle.board_rules.specs.Entries.{Step}
use Rattle.board_rules.specs.Keys.{IsKey, Key, rules, top_job}
use Rattle.board_rules.specs.Legal.{AreLegal, state_after}
use Rattle.firing_board.specs.Runs.{RunsWork}

-- ---- the answer

then_some : {S T : Type 0} (next : S → Result T Refusal → Type 0) (r : Result S Refusal) → ((s : S) → r ≡ Ok s → (end : Result T Refusal) × next s end) → (end : Result T Refusal) × Then next r end
then_some next (Ok s) goes = goes s refl
then_some next (Err refusal) goes = (Err refusal, refl)

module _ (graphs : Graphs) (range : InRange graphs) (well : WellFormed graphs) (answered : (level : LevelView) → IsLevel level → HasAnswer level) where
  abbrev G : List Graph
  G = graphs.graphs

  module _ (firing : Firing) (g : Graph) (here : slice_get G firing.graph ≡ Some g) (sound : early_faults G firing.graph firing.inherited ≡ []) where
    told : (view : LevelView) (answer : Result LevelSchedule Unscheduled) → IsAnswerOf view answer → (schedule : Result LevelSchedule Refusal) × Schedules g firing view schedule
    told view (Ok s) is = (Ok s, is)
    told view (Err fault) is = (Err record { path = firing.path; cause = schedule_cause (acting g) fault }, (fault, is, refl))

    after_rates : (values : List ℤ) → level_faults G g values ≡ [] → (schedule : Result LevelSchedule Refusal) × Schedules g firing (level_in G g firing values) schedule
    after_rates values none =
        let answer = answered (level_in G g firing values) ((levels_made graphs range well firing.graph g here).level firing.inherited values sound none) in
        told (level_in G g firing values) answer.0 answer.1

    leads : (left : List Configured) → (end : Result LevelSchedule Refusal) × LeadsToSchedule G g firing left end
    leads left = then_some _ (resolved G g firing left) (λ values values_are. then_some _ (rated G g firing values) (λ same is.
        let free = unrefused G g firing.path (level_faults G g values) values same is in
        let P : List ℤ → Type 0 = λ v. level_faults G g v ≡ [] in
        after_rates same (subst P free.1 free.0)))

    compiled : (left : List Configured) → (answer : Answer) × IsCompiled G firing left answer
    compiled left = let end = leads left in (scheduled end.0, record { g = g; here = here; end = end.0; leads = end.1; answer_is = refl })

-- ---- a job compiles itself

abbrev IsOwn : Firing → Task Firing words.Work → Type 0
IsOwn job (Work (words.Fires spot asked)) = Unit {0}
IsOwn job (Work (words.Copies node read lens)) = Unit {0}
IsOwn job (Work (words.Compiles firing left)) = firing ≡ job
IsOwn job (Call d) = Unit {0}

some_own : (job : Firing) (own t : Task Firing words.Work) → Some own ≡ Some t → IsOwn job own → IsOwn job t
some_own job own t is fits = let same : own ≡ t = cc in subst (IsOwn job) same fits

module _ (graphs : List Graph) (g : Graph) (job : Firing) (v : Values Answer) (t : Task Firing words.Work) where
  config_own : (c : Configuration) (body : Body) → config_task graphs g job c body ≡ Some t → IsOwn job t
  config_own c (Kernel kernel exprs ins outs) e = absurd (cc)
  config_own c (Child place exprs) e = absurd (cc)
  config_own c (Config kernel exprs ins outs sets) e = some_own job (Work (words.Fires _ _)) t e tt
  config_own c (ConfigChild place exprs sets) e = some_own job (Call _) t e tt

  firing_own : (ints : List ℤ) (a k : ℕ) (read : List (List ℤ)) (actor : Actor) (body : Body) → firing_task graphs g job ints a k read actor body ≡ Some t → IsOwn job t
  firing_own ints a k read actor (Kernel kernel exprs ins outs) e = some_own job (Work (words.Fires _ _)) t e tt
  firing_own ints a k read actor (Child place exprs) e = some_own job (Call _) t e tt
  firing_own ints a k read actor (Config kernel exprs ins outs sets) e = absurd (cc)
  firing_own ints a k read actor (ConfigChild place exprs sets) e = absurd (cc)

  actor_own : (ints : List ℤ) (a k : ℕ) (read : List (List ℤ)) (o : Option Actor) → actor_task graphs g job ints a k read o ≡ Some t → IsOwn job t
  actor_own ints a k read None e = absurd (cc)
  actor_own ints a k read (Some actor) e = firing_own ints a k read actor actor.body e

  node_own : (ints : List ℤ) (nd : Node) (read : List (List ℤ)) (lengths : List ℕ) → node_task graphs g job ints nd read lengths ≡ Some t → IsOwn job t
  node_own ints (node.Source s) read lengths e = some_own job (Work (words.Copies _ _ _)) t e tt
  node_own ints (node.Init l) read lengths e = some_own job (Work (words.Copies _ _ _)) t e tt
  node_own ints (node.Firing a k) read lengths e = actor_own ints a k read _ e
  node_own ints (node.Broadcast l) read lengths e = some_own job (Work (words.Copies _ _ _)) t e tt
  node_own ints (node.Fork l i) read lengths e = some_own job (Work (words.Copies _ _ _)) t e tt
  node_own ints (node.Join l j) read lengths e = some_own job (Work (words.Copies _ _ _)) t e tt
  node_own ints (node.Round l) read lengths e = some_own job (Work (words.Copies _ _ _)) t e tt
  node_own ints (node.End l) read lengths e = some_own job (Work (words.Copies _ _ _)) t e tt
  node_own ints (node.Sink x) read lengths e = some_own job (Work (words.Copies _ _ _)) t e tt

  if_own : (b : Bool) (o : Option (Task Firing words.Work)) → (o ≡ Some t → IsOwn job t) → (if b then o else None) ≡ Some t → IsOwn job t
  if_own true o own e = own e
  if_own false o own e = absurd (cc)

  nodes_own : (n : ℕ) (o : Option Prepared) → node_rule graphs g job v n o ≡ Some t → IsOwn job t
  nodes_own n None e = absurd (cc)
  nodes_own n (Some p) e = if_own _ _ (node_own _ _ _ _) e

  compile_own : (o : Option (List Configured)) → compile_rule job o ≡ Some t → IsOwn job t
  compile_own None e = absurd (cc)
  compile_own (Some left) e = some_own job (Work (words.Compiles job left)) t e refl

  own_from : (cs : List Configuration) (i : ℕ) → rule_from graphs g job v cs i ≡ Some t → IsOwn job t
  own_from [] zero e = compile_own (left_in g v) e
  own_from [] (suc n) e = nodes_own n (prepared_in g v) e
  own_from (c ∷ cs) zero e = config_own c c.body e
  own_from (c ∷ cs) (suc i) e = own_from cs i e

-- ---- of the work that a worker runs

module _ (key : Key) (is : IsKey key) (lawful : Lawful (rules key) (rank key.graphs.graphs)) (meant : Meant (rules key) (meanings key.graphs.graphs)) where
  shallow_top : rank key.graphs.graphs (top_job key) < 8
  shallow_top =
      let most = nested key.graphs is.valid.valid.in_range is.valid.valid.well_formed key.graphs.top (slice_get_within key.graphs.graphs key.graphs.top is.fit.g is.fit.here) in
      omega arith

  -- the open jobs are given what their graphs take
  are_fit : (taken : List Step) → AreLegal key taken → (p : Place) (job : Firing) → (state_after key taken).marks p ≡ Open job → IsFit key.graphs.graphs job
  are_fit taken legal =
      (journal_tells (rules key) (rank key.graphs.graphs) lawful (top_job key) (meanings key.graphs.graphs) meant is.fit 8 shallow_top taken
      (legal_answered (rules key) (Answers key.graphs.graphs) key.workers (start (top_job key)) taken legal.allowed)).fits

  task_in_open : (mark : Mark Firing Answer) (v : Values Answer) (i : ℕ) (t : Task Firing words.Work) → task_in (rules key) mark v i ≡ Some t → (job : Firing) × (mark ≡ Open job) × (rule key.graphs.graphs job v i ≡ Some t)
  task_in_open Free v i t e = absurd (cc)
  task_in_open Busy v i t e = absurd (cc)
  task_in_open (Open job) v i t e = (job, refl, e)
  task_in_open (Done answer) v i t e = absurd (cc)

  -- the item of an open job whose task this is
  pub record OfJob (m : Marks Firing Answer) (t : Task Firing words.Work) : Type 0 where
    pub place : Place
    pub job : Firing
    pub is_open : m place ≡ Open job
    pub item : ℕ
    pub is_task : rule key.graphs.graphs job (values m place) item ≡ Some t

  pub open_job_of : (m : Marks Firing Answer) (place : Place) (t : Task Firing words.Work) → task_of (rules key) m place ≡ Some t → OfJob m t
  open_job_of m [] t e = absurd (cc)
  open_job_of m (i ∷ p) t e = let o = task_in_open (m p) (values m p) i t e in record { place = p; job = o.0; is_open = o.1; item = i; is_task = o.2 }

  at_place : (m : Marks Firing Answer) (place : Place) (t : Task Firing words.Work) → task_of (rules key) m place ≡ Some t → (p : Place) × (job : Firing) × (m p ≡ Open job) × IsOwn job t
  at_place m [] t e = absurd (cc)
  at_place m (i ∷ p) t e =
      let o = task_in_open (m p) (values m p) i t e in
      (p, o.0, o.1, own_from key.graphs.graphs (graph_of key.graphs.graphs o.0) o.0 (values m p) t (configurations (graph_of key.graphs.graphs o.0)) i o.2)

  pub compiles : ((level : LevelView) → IsLevel level → HasAnswer level) → (taken : List Step) (w : ℕ) (firing : Firing) (left : List Configured) → AreLegal key taken →
      RunsWork key (state_after key taken) w (words.Compiles firing left) → (answer : Answer) × Answers key.graphs.graphs (words.Compiles firing left) answer
  compiles answered taken w firing left legal runs =
      let at = at_place (state_after key taken).marks runs.place (Work (words.Compiles firing left)) runs.task in
      let fit : IsFit key.graphs.graphs firing = subst (IsFit key.graphs.graphs) (sym at.3) (are_fit taken legal at.0 at.1 at.2) in
      compiled key.graphs is.valid.valid.in_range is.valid.valid.well_formed answered firing fit.g fit.here fit.sound left
