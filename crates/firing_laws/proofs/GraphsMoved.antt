-- A firing of a graph that is moved to another path and among the other graphs.
use Rattle.std.proofs.Common.{◌≡◌, ℕ, zero, suc, ◌+◌, Bool, true, false, if◌then◌else◌, Option, ℤ, List, [], ◌∷◌, ◌++◌, zip, map, Some, Result, Ok, Err, refl, ap, ◌∙◌, sym, subst}
use Rattle.std.specs.List.{AllByRecursion}
use Rattle.level_schedule.specs.Schedules.{IsScheduled}
use Rattle.level_schedule.specs.declared.scheduling.LevelSchedule.{LevelSchedule}
use Rattle.param_resolver.specs.Assignment.{supplied_to, numbers, param_faults, values_of}
use Rattle.param_resolver.specs.EarlyCheck.{as_refusal}
use Rattle.param_resolver.specs.LevelOf.{level_faults}
use Rattle.param_resolver.specs.Refusal as part
use Rattle.pisdf_model.specs.InterfaceWires.{is_configuration}
use Rattle.pisdf_model.specs.Ports.{sets_of}
use Rattle.pisdf_model.specs.declared.actor.Actor.{Actor}
use Rattle.pisdf_model.specs.declared.graph.Graph.{Graph}
use Rattle.sdf_level.specs.View.{LevelView}
use Rattle.pisdf_meaning.specs.Causes.{unless_refused}
use Rattle.pisdf_meaning.specs.Configuring.{Configuration, Configures, configurations, configurations_from, early_in}
use Rattle.pisdf_meaning.specs.Endings.{End, Ends, Then, child_path}
use Rattle.pisdf_meaning.specs.Meaning.{FiresGraph, MeansWithin}
use Rattle.pisdf_meaning.specs.Preparing.{Schedules, chosen_from, chosen_values, level_in, rated, resolved, values_set}
use Rattle.pisdf_meaning.specs.Running.{FiresActor, RunsLevel}
use Rattle.pisdf_meaning.specs.Sound.{ChildWithin}
use Rattle.pisdf_meaning.specs.declared.firing.Configured.{Configured}
use Rattle.pisdf_meaning.specs.declared.firing.Firing.{Firing}
use Rattle.pisdf_meaning.specs.declared.firing.Given.{Given}
use Rattle.pisdf_meaning.specs.declared.refusal.Refusal.{Refusal}
use Rattle.pisdf_meaning.specs.declared.outcome.TraceRow.{TraceRow}
use Rattle.firing_laws.specs.Moving.{AreMoved, DifferAt, IsBelow, IsMoved, at_path}
use Rattle.firing_laws.proofs.Belows.{NameWithin, children_below}
use Rattle.firing_laws.proofs.Checks.{early_same}
use Rattle.firing_laws.proofs.LevelsAlike.{level_faults_same}
use Rattle.firing_laws.proofs.ActorsMoved.{AreLeftMoved, EndsMove, all_moved, body_moved}
use Rattle.firing_laws.proofs.RunsMoved.{level_in_same, level_moved}

-- ---- steps

-- what is given after a step
pub record Gone {S T : Type 0} (next : S → Result T Refusal → Type 0) (r : Result S Refusal) (given : T) : Type 0 where
  pub one : S
  pub is : r ≡ Ok one
  pub goes : next one (Ok given)

gone : {S T : Type 0} (next : S → Result T Refusal → Type 0) (r : Result S Refusal) (given : T) → Then next r (Ok given) → Gone next r given
gone next (Ok s) given f = record { one = s; is = refl; goes = f }
gone next (Err refusal) given f = absurd cc

then_ok : {S T : Type 0} (next : S → Result T Refusal → Type 0) (r : Result S Refusal) (s : S) (end : Result T Refusal) → r ≡ Ok s → next s end → Then next r end
then_ok next r s end is goes = subst (λ x. Then next x end) (sym is) goes

-- where nothing is refused, it isn't at another path
not_refused : {T : Type 0} (one other : List Graph) (g : Graph) (path path' : List ℕ) (list : List part.Refusal) (x y : T) → unless_refused one g path list x ≡ Ok y → unless_refused other g path' list x ≡ Ok y
not_refused one other g path path' [] x y is = is
not_refused one other g path path' (refusal ∷ rest) x y is = absurd cc

-- ---- the configuration actors of a graph

module _ (P : ℕ → Type 0) where
  either : (test : Bool) (c : Configuration) (cs ds : List Configuration) → ChildWithin P c.body → AllByRecursion (λ (x : Configuration). ChildWithin P x.body) cs → AllByRecursion (λ (x : Configuration). ChildWithin P x.body) ds →
      AllByRecursion (λ (x : Configuration). ChildWithin P x.body) (if test then c ∷ cs else ds)
  either true c cs ds here some none = (here, some)
  either false c cs ds here some none = none

  configurations_name : (n a : ℕ) (actors : List Actor) → NameWithin P actors → AllByRecursion (λ (x : Configuration). ChildWithin P x.body) (configurations_from n a actors)
  configurations_name n a [] names = tt
  configurations_name n a (x ∷ actors) names =
      either (is_configuration x.body) (record { number = n; place = a; name = x.name; body = x.body }) (configurations_from (n + 1) (a + 1) actors) (configurations_from n (a + 1) actors) names.0
      (configurations_name (n + 1) (a + 1) actors names.1) (configurations_name n (a + 1) actors names.1)

sets_same : (path path' : List ℕ) (cs : List Configuration) (all more : List Configured) → AreLeftMoved path path' all more → values_set cs more ≡ values_set cs all
sets_same path path' [] all more are = refl
sets_same path path' (c ∷ cs) [] [] are = refl
sets_same path path' (c ∷ cs) [] (y ∷ more) are = absurd are
sets_same path path' (c ∷ cs) (x ∷ all) [] are = absurd are
sets_same path path' (c ∷ cs) (x ∷ all) (y ∷ more) are =
    ap (λ (sets : List ℤ). zip (sets_of c.body) sets ++ values_set cs more) are.0.sets ∙ ap (λ (sets : List (ℕ × ℤ)). zip (sets_of c.body) x.sets ++ sets) (sets_same path path' cs all more are.1)

module _ (top : ℕ) (one other : List Graph) (differ : DifferAt top one other) (ends again : Ends) (moves : EndsMove (IsBelow one top) ends again) (firing : Firing) (path : List ℕ)
    (g : Graph) (names : NameWithin (IsBelow one top) g.actors) (low : IsBelow one top firing.graph) where
  abbrev there : Firing
  there = at_path path firing

  abbrev Gives : (End → Type 0) → Given → Type 0
  Gives Next given = (moved : Given) × Next (Ok moved) × IsMoved firing.path path given moved

  early_there : early_in other there ≡ early_in one firing
  early_there = early_same top one other differ firing.graph low firing.inherited

  -- what follows on the configuration actors, step by step, here and there

  abbrev RunOne : List Configured → List ℤ → LevelSchedule → End → Type 0
  RunOne configured values s end = RunsLevel one ends g firing configured values s.counts end

  abbrev RunOther : List Configured → List ℤ → LevelSchedule → End → Type 0
  RunOther configured values s end = RunsLevel other again g there configured values s.counts end

  abbrev RatedOne : List Configured → List ℤ → End → Type 0
  RatedOne configured values end = (schedule : Result LevelSchedule Refusal) × Schedules g firing (level_in one g firing values) schedule × Then (RunOne configured values) schedule end

  abbrev RatedOther : List Configured → List ℤ → End → Type 0
  RatedOther configured values end = (schedule : Result LevelSchedule Refusal) × Schedules g there (level_in other g there values) schedule × Then (RunOther configured values) schedule end

  abbrev ResolvedOne : List Configured → List ℤ → End → Type 0
  ResolvedOne configured values end = Then (RatedOne configured) (rated one g firing values) end

  abbrev ResolvedOther : List Configured → List ℤ → End → Type 0
  ResolvedOther configured values end = Then (RatedOther configured) (rated other g there values) end

  abbrev ConfiguredOne : List Configured → End → Type 0
  ConfiguredOne configured end = Then (ResolvedOne configured) (resolved one g firing configured) end

  abbrev ConfiguredOther : List Configured → End → Type 0
  ConfiguredOther configured end = Then (ResolvedOther configured) (resolved other g there configured) end

  module _ (configured more : List Configured) (left : AreLeftMoved firing.path path configured more) where
    scheduled_moved : (values : List ℤ) (given : Given) (schedule : Result LevelSchedule Refusal) → Schedules g firing (level_in one g firing values) schedule → Then (RunOne configured values) schedule (Ok given) → Gives (RatedOther more values) given
    scheduled_moved values given (Err refusal) schedules goes = absurd cc
    scheduled_moved values given (Ok s) schedules goes =
        let m = level_moved top one other differ ends again moves firing path g names early_there configured more left values s.counts given goes in
        let same = level_in_same top one other differ ends again moves firing path g names early_there configured more left values s.counts in
        (m.0, (Ok s, subst (λ (v : LevelView). IsScheduled v s) (sym same) schedules, m.1), m.2)

    rated_moved : (values : List ℤ) (given : Given) → ResolvedOne configured values (Ok given) → Gives (ResolvedOther more values) given
    rated_moved values given goes =
        let step = gone (RatedOne configured) (rated one g firing values) given goes in
        let m = scheduled_moved step.one given step.goes.0 step.goes.1 step.goes.2 in
        let is : rated other g there values ≡ Ok step.one = ap (λ (list : List part.Refusal). unless_refused other g path list values) (level_faults_same top one other differ g names values) ∙ not_refused one other g firing.path path (level_faults one g values) values step.one step.is in
        (m.0, then_ok (RatedOther more) (rated other g there values) step.one (Ok m.0) is m.1, m.2)

    resolved_moved : (given : Given) → ConfiguredOne configured (Ok given) → Gives (ConfiguredOther more) given
    resolved_moved given goes =
        let step = gone (ResolvedOne configured) (resolved one g firing configured) given goes in
        let m = rated_moved step.one given step.goes in
        let chosen : chosen_values g more ≡ chosen_values g configured = ap (λ (sets : List (ℕ × ℤ)). chosen_from sets 0 g.params) (sets_same firing.path path (configurations g) configured more left) in
        let known : List ℤ → List (Option ℤ) = λ values. supplied_to g.params firing.inherited values in
        let is : resolved other g there more ≡ Ok step.one =
        ap (λ (values : List ℤ). unless_refused other g path (map as_refusal (param_faults g.params (known values))) (numbers (values_of g.params (known values)))) chosen
        ∙ not_refused one other g firing.path path (map as_refusal (param_faults g.params (known (chosen_values g configured)))) (numbers (values_of g.params (known (chosen_values g configured)))) step.one step.is in
        (m.0, then_ok (ResolvedOther more) (resolved other g there more) step.one (Ok m.0) is m.1, m.2)

  configured_moved : (given : Given) (all : Result (List Configured) Refusal) → Configures one ends g firing all → Then ConfiguredOne all (Ok given) → Gives (FiresGraph other again g there) given
  configured_moved given (Err refusal) configures goes = absurd cc
  configured_moved given (Ok configured) configures goes =
      let c = all_moved top one other differ ends again moves firing path g low (configurations g) (configurations_name (IsBelow one top) 0 0 g.actors names) configured configures in
      let m = resolved_moved configured c.0 c.2 given goes in
      (m.0, (Ok c.0, c.1, m.1), m.2)

  graph_moved : (given : Given) → FiresGraph one ends g firing (Ok given) → Gives (FiresGraph other again g there) given
  graph_moved given fires = configured_moved given fires.0 fires.1 fires.2

pub within_moved : (top : ℕ) (one other : List Graph) → DifferAt top one other → (n : ℕ) → EndsMove (IsBelow one top) (MeansWithin n one) (MeansWithin n other)
within_moved top one other differ zero firing path given low means = absurd means
within_moved top one other differ (suc n) firing path given low means =
    let m = graph_moved top one other differ (MeansWithin n one) (MeansWithin n other) (within_moved top one other differ n) firing path means.0 (children_below one top firing.graph means.0 low means.1) low given means.2 in
    (m.0, (means.0, differ firing.graph low.apart ∙ means.1, m.1), m.2)

-- one firing of an actor, which may have another number there
pub actor_moved : (top : ℕ) (one other : List Graph) (differ : DifferAt top one other) (n : ℕ) (firing there : Firing) (values args : List ℤ) (actor : Actor) (k j : ℕ) (trace : List TraceRow) (read outs : List (List ℤ)) →
    ChildWithin (IsBelow one top) actor.body → FiresActor one (MeansWithin n one) firing values args (Some actor) k trace read (Ok outs) →
    (moved : List TraceRow) × FiresActor other (MeansWithin n other) there values args (Some actor) j moved read (Ok outs) × AreMoved (child_path firing.path actor.name k) (child_path there.path actor.name j) trace moved
actor_moved top one other differ n firing there values args actor k j trace read outs below fires =
    body_moved top one other differ (MeansWithin n one) (MeansWithin n other) (within_moved top one other differ n) firing there.path values args actor k j trace read outs actor.body below below fires
