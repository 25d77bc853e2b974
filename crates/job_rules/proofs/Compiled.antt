-- The compilation of a job, and how the firing goes on after it.
use Rattle.std.proofs.Common.{◌≡◌, ℕ, zero, suc, ◌+◌, ℤ, List, [], ◌∷◌, slice_get, Option, Some, None, Result, Ok, Err, refl, sym, ap, ◌∙◌, subst, arith}
use Rattle.param_resolver.specs.Assignment.{numbers, values_of}
use Rattle.param_resolver.specs.LevelOf.{level_faults}
use Rattle.param_resolver.specs.Refusal as part
use Rattle.pisdf_model.specs.declared.graph.Graph.{Graph}
use Rattle.level_schedule.specs.Schedules.{IsScheduled}
use Rattle.level_schedule.specs.declared.scheduling.LevelSchedule.{LevelSchedule}
use Rattle.pisdf_meaning.specs.Causes.{unless_refused}
use Rattle.pisdf_meaning.specs.Configuring.{Configuration, LeaveAll, configurations}
use Rattle.pisdf_meaning.specs.Endings.{End, Ends, Then}
use Rattle.pisdf_meaning.specs.Meaning.{MeansWithin}
use Rattle.pisdf_meaning.specs.Preparing.{Schedules, level_in, rated, resolved, supplied_values}
use Rattle.pisdf_meaning.specs.Running.{RunsLevel}
use Rattle.pisdf_meaning.proofs.KeptSizes.{gone}
use Rattle.pisdf_meaning.specs.declared.firing.Configured.{Configured}
use Rattle.pisdf_meaning.specs.declared.firing.Firing.{Firing}
use Rattle.pisdf_meaning.specs.declared.refusal.Refusal.{Refusal}
use Rattle.nested_jobs.specs.Rules.{Task, Work, Values}
use Rattle.nested_jobs.specs.Meanings.{MayAnswer, Sound}
use Rattle.job_rules.specs.Words as words
use Rattle.job_rules.specs.Words.{Answer, Compiles}
use Rattle.job_rules.specs.Doing.{LeadsToSchedule, scheduled}
use Rattle.job_rules.specs.Items.{Prepared, compile_number, compile_rule, graph_of, job_rules, leaves, left_from, left_in, prepared_in, schedule_of}
use Rattle.job_rules.specs.Meant.{meanings}
use Rattle.job_rules.proofs.Configured.{Came, Tells, config_leaves, walk}
use Rattle.job_rules.proofs.Numbers.{rule_of_compilation, rule_of_configuration}
use Rattle.job_rules.proofs.Parts.{both_are, prepared_is}

-- ---- steps one after the other

then_refused : {S T U : Type 0} (next : S → Result T Refusal → Type 0) (other : S → Result U Refusal → Type 0) (refusal : Refusal) → ((s : S) → next s (Err refusal) → other s (Err refusal)) → (r : Result S Refusal) → Then next r (Err refusal) → Then other r (Err refusal)
then_refused next other refusal more (Ok s) f = more s f
then_refused next other refusal more (Err first) f = let same : refusal ≡ first = cc in ap Err same

then_given : {S T U : Type 0} (next : S → Result T Refusal → Type 0) (other : S → Result U Refusal → Type 0) (given : T) (end : Result U Refusal) (r : Result S Refusal) → ((s : S) → r ≡ Ok s → next s (Ok given) → other s end) → Then next r (Ok given) → Then other r end
then_given next other given end (Ok s) more f = more s refl f
then_given next other given end (Err refusal) more f = absurd (cc)

unrefused : {T : Type 0} (graphs : List Graph) (g : Graph) (path : List ℕ) (faults : List part.Refusal) (values v : T) → unless_refused graphs g path faults values ≡ Ok v → (faults ≡ []) × (values ≡ v)
unrefused graphs g path [] values v e = (refl, cc)
unrefused graphs g path (refusal ∷ faults) values v e = absurd (cc)

module _ (graphs : List Graph) (g : Graph) (firing : Firing) (left : List Configured) where
  abbrev pub values : List ℤ
  values = numbers (values_of g.params (supplied_values g firing left))

  abbrev Levels : List ℤ → Result LevelSchedule Refusal → Type 0
  Levels values end = Schedules g firing (level_in graphs g firing values) end

  abbrev Rates : List ℤ → Result LevelSchedule Refusal → Type 0
  Rates values end = Then Levels (rated graphs g firing values) end

  module _ (ends : Ends) where
    abbrev pub Runs : List ℤ → End → Type 0
    Runs values end =
        (schedule : Result LevelSchedule Refusal) × Schedules g firing (level_in graphs g firing values) schedule × Then (λ s end. RunsLevel graphs ends g firing left values s.counts end) schedule end

    abbrev pub RunsRated : List ℤ → End → Type 0
    RunsRated values end = Then Runs (rated graphs g firing values) end

    -- how the firing goes on once its configuration actors have left this
    abbrev pub GoesOn : End → Type 0
    GoesOn end = Then RunsRated (resolved graphs g firing left) end

    pub refused_so : (refusal : Refusal) → LeadsToSchedule graphs g firing left (Err refusal) → GoesOn (Err refusal)
    refused_so refusal leads =
        then_refused Rates RunsRated refusal
        (λ vs rates. then_refused Levels Runs refusal (λ ws schedules. (Err refusal, schedules, refl)) (rated graphs g firing vs) rates)
        (resolved graphs g firing left) leads

    pub runs_so : (s : LevelSchedule) (end : End) → LeadsToSchedule graphs g firing left (Ok s) → RunsLevel graphs ends g firing left values s.counts end → GoesOn end
    runs_so s end leads run =
        then_given Rates RunsRated s end (resolved graphs g firing left)
        (λ vs values_are rates. then_given Levels Runs s end (rated graphs g firing vs)
        (λ ws rates_are schedules.
        let first : values ≡ vs = (unrefused graphs g firing.path _ values vs values_are).1 in
        let second : vs ≡ ws = (unrefused graphs g firing.path (level_faults graphs g vs) vs ws rates_are).1 in
        let P : List ℤ → Type 0 = λ x. RunsLevel graphs ends g firing left x s.counts end in
        (Ok s, schedules, subst P (first ∙ second) run))
        rates)
        leads

  -- what is known of a level that is scheduled
  pub record HasLevel (s : LevelSchedule) : Type 0 where
    pub sound : level_faults graphs g values ≡ []
    pub is_scheduled : IsScheduled (level_in graphs g firing values) s

  pub has_level : (s : LevelSchedule) → LeadsToSchedule graphs g firing left (Ok s) → HasLevel s
  has_level s leads =
      let one = gone Rates (resolved graphs g firing left) s leads in
      let two = gone Levels (rated graphs g firing one.one) s one.goes in
      let first : values ≡ one.one = (unrefused graphs g firing.path _ values one.one one.is).1 in
      let rates = unrefused graphs g firing.path (level_faults graphs g one.one) one.one two.one two.is in
      let P : List ℤ → Type 0 = λ x. level_faults graphs g x ≡ [] in
      let Q : List ℤ → Type 0 = λ x. IsScheduled (level_in graphs g firing x) s in
      record { sound = subst P (sym first) rates.0; is_scheduled = subst Q (sym (first ∙ rates.1)) two.goes }

-- ---- what the answers of a job's items tell of it

each_left : (v : Values Answer) (i : ℕ) (cs : List Configuration) (left : List Configured) → left_from v i cs ≡ Some left → (j : ℕ) (c : Configuration) → slice_get cs j ≡ Some c → (a : Answer) × (v (i + j) ≡ Some a)
each_left v i [] left is j c at = absurd (cc)
each_left v i (d ∷ cs) left is zero c at =
    let parts = both_are (leaves (v i)) (left_from v (i + 1) cs) left is in
    let e : i + 0 ≡ i = omega arith in
    rw e (answered (v i) parts.first parts.first_is)
  where
    answered : (o : Option Answer) (one : Configured) → leaves o ≡ Some one → (a : Answer) × (o ≡ Some a)
    answered None one is = absurd (cc)
    answered (Some a) one is = (a, refl)
each_left v i (d ∷ cs) left is (suc j) c at =
    let parts = both_are (leaves (v i)) (left_from v (i + 1) cs) left is in
    let e : i + suc j ≡ i + 1 + j = omega arith in
    rw e (each_left v (i + 1) cs parts.rest parts.rest_is j c at)

schedule_is : (o : Option Answer) (s : LevelSchedule) → schedule_of o ≡ Some s → o ≡ Some (words.Schedules s)
schedule_is None s is = absurd (cc)
schedule_is (Some (words.Gives given)) s is = absurd (cc)
schedule_is (Some (words.Schedules schedule)) s is = let same : schedule ≡ s = cc in ap (λ (x : LevelSchedule). Some (words.Schedules x)) same
schedule_is (Some (words.Refuses refusal)) s is = absurd (cc)

scheduled_is : (end : Result LevelSchedule Refusal) (s : LevelSchedule) → words.Schedules s ≡ scheduled end → end ≡ Ok s
scheduled_is (Ok r) s is = let same : r ≡ s = cc in ap Ok same
scheduled_is (Err refusal) s is = absurd (cc)

module _ (graphs : List Graph) (n : ℕ) (firing : Firing) (v : Values Answer) (here : slice_get graphs firing.graph ≡ Some (graph_of graphs firing)) (sound : Sound (job_rules graphs) (meanings graphs) n firing v) where
  abbrev pub g : Graph
  g = graph_of graphs firing

  abbrev pub cs : List Configuration
  cs = configurations g

  pub came : (j : ℕ) (c : Configuration) → slice_get cs j ≡ Some c → (a : Answer) → v j ≡ Some a → Came graphs n g firing v j c a
  came j c at a is =
      let told = sound j a is in
      let task = sym (rule_of_configuration graphs g firing v cs j c at) ∙ told.1 in
      let leaves = config_leaves graphs n g firing c c.body told.0 a task told.2 in
      (is, leaves.0, leaves.1)

  -- what they left, where all have left something
  all_left : (left : List Configured) → left_in g v ≡ Some left → (r : Result (List Configured) Refusal) → Tells graphs n g firing v 0 cs r → r ≡ Ok left
  all_left left is (Ok others) told = let same : Some others ≡ Some left = sym told.0 ∙ is in let e : others ≡ left = cc in ap Ok e
  all_left left is (Err refusal) told = absurd (let e : None ≡ Some left = sym told.0 ∙ is in cc)

  pub leave_all : (left : List Configured) → left_in g v ≡ Some left → LeaveAll graphs (MeansWithin n graphs) g firing cs (Ok left)
  leave_all left is =
      let walked = walk graphs n g firing v 0 cs (λ j c at. let a = each_left v 0 cs left is j c at in let e : 0 + j ≡ j = omega arith in let P : ℕ → Type 0 = λ k. v k ≡ Some a.0 in let now : P j = subst P e a.1 in (a.0, let Q : ℕ → Type 0 = λ k. Came graphs n g firing v k c a.0 in subst Q (sym e) (came j c at a.0 now))) in
      let P : Result (List Configured) Refusal → Type 0 = λ r. LeaveAll graphs (MeansWithin n graphs) g firing cs r in
      subst P (all_left left is walked.all walked.tells) walked.leave

  -- what the compilation answers, if it does
  pub record Answered (a : Answer) : Type 0 where
    pub left : List Configured
    pub left_is : left_in g v ≡ Some left
    pub end : Result LevelSchedule Refusal
    pub leads : LeadsToSchedule graphs g firing left end
    pub answer_is : a ≡ scheduled end

  from_left : (o : Option (List Configured)) → left_in g v ≡ o → (t : Task Firing words.Work) (a : Answer) → compile_rule firing o ≡ Some t → MayAnswer (meanings graphs) n t a → Answered a
  from_left None e t a is may = absurd (cc)
  from_left (Some left) e t a is may =
      let same : t ≡ Work (Compiles firing left) = cc in
      let P : Task Firing words.Work → Type 0 = λ x. MayAnswer (meanings graphs) n x a in
      let compiled = subst P same may in
      let graph_is : compiled.g ≡ g = let e : Some compiled.g ≡ Some g = sym compiled.here ∙ here in cc in
      let Q : Graph → Type 0 = λ x. LeadsToSchedule graphs x firing left compiled.end in
      record { left = left; left_is = e; end = compiled.end; leads = subst Q graph_is compiled.leads; answer_is = compiled.answer_is }

  pub compiled : (a : Answer) → v (compile_number g) ≡ Some a → Answered a
  compiled a is =
      let told = sound (compile_number g) a is in
      from_left (left_in g v) refl told.0 a (sym (rule_of_compilation graphs g firing v cs) ∙ told.1) told.2

  -- a job that is compiled
  pub record IsPrepared (p : Prepared) : Type 0 where
    pub leave : LeaveAll graphs (MeansWithin n graphs) g firing cs (Ok p.left)
    pub leads : LeadsToSchedule graphs g firing p.left (Ok p.schedule)

  pub prepared : (p : Prepared) → prepared_in g v ≡ Some p → IsPrepared p
  prepared p is =
      let parts = prepared_is (left_in g v) (schedule_of (v (compile_number g))) p is in
      let answer = compiled (words.Schedules p.schedule) (schedule_is (v (compile_number g)) p.schedule parts.schedule_is) in
      let same : answer.left ≡ p.left = let e : Some answer.left ≡ Some p.left = sym answer.left_is ∙ parts.left_is in cc in
      let P : List Configured → Type 0 = λ x. LeadsToSchedule graphs g firing x answer.end in
      let Q : Result LevelSchedule Refusal → Type 0 = λ x. LeadsToSchedule graphs g firing p.left x in
      record { leave = leave_all p.left parts.left_is; leads = subst Q (scheduled_is answer.end p.schedule answer.answer_is) (subst P same answer.leads) }
