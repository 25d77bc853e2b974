-- The run of a level over firings that have other numbers, at another path and among the other graphs.
use Rattle.std.proofs.Common.{◌≡◌, ℕ, ◌+◌, ◌<◌, ℤ, List, [], ◌∷◌, ◌++◌, map, slice_get, slice_index, Option, Some, None, Result, Ok, Err, refl, ap, ◌∙◌, sym, subst, arith}
use Rattle.std.specs.List.{filter, flat_map}
use Rattle.param_resolver.specs.LevelOf.{acting_args, level_args}
use Rattle.param_resolver.specs.Numbering.{acting, fires}
use Rattle.pisdf_model.specs.declared.actor.Actor.{Actor}
use Rattle.sdf_level.specs.Firings.{EachFiring, firings}
use Rattle.sdf_level.specs.LevelRun.{Ended, IsEnd, IsLevelRun}
use Rattle.sdf_level.specs.Orders.{IsOrder}
use Rattle.sdf_level.specs.Run.{GoesOn, Runs, RunsFrom, inputs, put}
use Rattle.sdf_level.specs.View.{LevelView}
use Rattle.sdf_level.proofs.FiringLists.{firing_at, firings-moved, firings-own}
use Rattle.pisdf_meaning.specs.Meaning.{MeansWithin}
use Rattle.pisdf_meaning.specs.Running.{FiresActor}
use Rattle.pisdf_meaning.specs.Sound.{ChildWithin}
use Rattle.pisdf_meaning.specs.States.{tokens_at}
use Rattle.pisdf_meaning.specs.declared.outcome.TraceRow.{TraceRow}
use Rattle.pisdf_meaning.specs.declared.refusal.Refusal.{Refusal}
use Rattle.firing_laws.specs.Moving.{AreMoved, IsBelow, moved_row}
use Rattle.firing_laws.specs.Runs.{AreAlike, HaveOtherPaths, IsRunMoved, LevelFirings, fires_in, path_in, path_of, trace_in}
use Rattle.firing_laws.proofs.Elements.{holds_at, holds_chosen}
use Rattle.firing_laws.proofs.GraphsMoved.{actor_moved}
use Rattle.firing_laws.proofs.Moved.{moved_is}

module _ (n top : ℕ) (one other : LevelFirings) (alike : AreAlike top one other) (values : List ℤ) where
  abbrev Names : Actor → Type 0
  Names a = ChildWithin (IsBelow one.graphs top) a.body

  module _ (b k : ℕ) (read outs : List (List ℤ)) where
    -- with these actors
    abbrev FiresThere : List Actor → Type 0
    FiresThere actors = FiresActor other.graphs (MeansWithin n other.graphs) other.firing values (tokens_at (flat_map (λ (a : Actor). acting_args values a.body) actors) b) (slice_get (filter fires actors) b) (other.number b k) (trace_in other b k) read (Ok outs)

    abbrev there : List Actor → List ℕ
    there actors = path_of other.firing.path (slice_get (filter fires actors) b) (other.number b k)

    one_moved : (args : List ℤ) (o : Option Actor) → ((a : Actor) → o ≡ Some a → Names a) →
        trace_in other b k ≡ map (moved_row (path_of one.firing.path o (one.number b k)) (path_of other.firing.path o (other.number b k))) (trace_in one b k) →
        FiresActor one.graphs (MeansWithin n one.graphs) one.firing values args o (one.number b k) (trace_in one b k) read (Ok outs) →
        FiresActor other.graphs (MeansWithin n other.graphs) other.firing values args o (other.number b k) (trace_in other b k) read (Ok outs)
        × AreMoved (path_of one.firing.path o (one.number b k)) (path_of other.firing.path o (other.number b k)) (trace_in one b k) (trace_in other b k)
    one_moved args None some rows fires = absurd fires
    one_moved args (Some a) some rows fires =
        let m = actor_moved top one.graphs other.graphs alike.graphs n one.firing other.firing values args a (one.number b k) (other.number b k) (trace_in one b k) read outs (some a refl) fires in
        let from = path_of one.firing.path (Some a) (one.number b k) in
        let to = path_of other.firing.path (Some a) (other.number b k) in
        let same : m.0 ≡ trace_in other b k = moved_is from to (trace_in one b k) m.0 m.2 ∙ sym rows in (
          subst (λ (t : List TraceRow). FiresActor other.graphs (MeansWithin n other.graphs) other.firing values args (Some a) (other.number b k) t read (Ok outs)) same m.1,
          subst (λ (t : List TraceRow). AreMoved from to (trace_in one b k) t) same m.2,
        )

    fire_moved : trace_in other b k ≡ map (moved_row (path_in one b k) (path_in other b k)) (trace_in one b k) → fires_in n values one b k read (Ok outs) →
        fires_in n values other b k read (Ok outs) × AreMoved (path_in one b k) (path_in other b k) (trace_in one b k) (trace_in other b k)
    fire_moved rows fires' =
        let path = ap there alike.actors in
        let here = subst (λ (p : List ℕ). trace_in other b k ≡ map (moved_row (path_in one b k) p) (trace_in one b k)) path rows in
        let m = one_moved (tokens_at (level_args one.graph values) b) (slice_get (acting one.graph) b) (λ a is. holds_at Names (acting one.graph) (holds_chosen Names fires one.graph.actors alike.below) b a is) here fires' in (
          subst FiresThere (sym alike.actors) m.0,
          subst (λ (p : List ℕ). AreMoved (path_in one b k) p (trace_in one b k) (trace_in other b k)) (sym path) m.1,
        )

  module _ (level : LevelView) (counts : List ℕ) (sources : List (List ℤ)) (rows : HaveOtherPaths counts one other) where
    abbrev IsMovedAt : ℕ → ℕ → Type 0
    IsMovedAt b k = AreMoved (path_in one b k) (path_in other b k) (trace_in one b k) (trace_in other b k)

    abbrev IsFiringMoved : List ℕ → ℕ → Type 0
    IsFiringMoved before b = IsMovedAt b (firings b before)

    -- the firings before and those to come are as many as the counts
    abbrev AreWhole : List ℕ → List ℕ → Type 0
    AreWhole before rest = (a : ℕ) → firings a before + firings a rest ≡ slice_index counts a

    module _ (last : List (List ℤ)) where
      abbrev RunsOne : List ℕ → List (List ℤ) → List ℕ → Type 0
      RunsOne before lines rest = RunsFrom level (fires_in n values one) sources before lines rest (Ok last)

      abbrev RunsOther : List ℕ → List (List ℤ) → List ℕ → Type 0
      RunsOther before lines rest = RunsFrom level (fires_in n values other) sources before lines rest (Ok last)

      onward : (before : List ℕ) (lines : List (List ℤ)) (b : ℕ) (rest : List ℕ) → AreWhole before (b ∷ rest) →
          ((next : List (List ℤ)) → RunsOne (before ++ b ∷ []) next rest → RunsOther (before ++ b ∷ []) next rest × EachFiring IsFiringMoved (before ++ b ∷ []) rest) →
          (answer : Result (List (List ℤ)) Refusal) → fires_in n values one b (firings b before) (inputs sources b (firings b before) level.links lines) answer →
          GoesOn (λ outs. RunsOne (before ++ b ∷ []) (put b outs level.links lines) rest) (Ok last) answer →
          RunsOther before lines (b ∷ rest) × EachFiring IsFiringMoved before (b ∷ rest)
      onward before lines b rest whole more (Err refusal) fire goes = absurd cc
      onward before lines b rest whole more (Ok outs) fire goes =
          let all = whole b in
          let own = firings-own b rest in
          let here = fire_moved b (firings b before) (inputs sources b (firings b before) level.links lines) outs (rows b (firings b before) (omega arith)) fire in
          let after = more (put b outs level.links lines) goes in
          ((Ok outs, here.0, after.0), (here.1, after.1))

      runs_moved : (before : List ℕ) (lines : List (List ℤ)) (rest : List ℕ) → AreWhole before rest → RunsOne before lines rest → RunsOther before lines rest × EachFiring IsFiringMoved before rest
      runs_moved before lines [] whole runs = (runs, tt)
      runs_moved before lines (b ∷ rest) whole runs =
          let after : AreWhole (before ++ b ∷ []) rest = λ a. firings-moved a b before rest ∙ whole a in
          onward before lines b rest whole (λ next r. runs_moved (before ++ b ∷ []) next rest after r) runs.0 runs.1 runs.2

    each_moved : (list : List ℕ) → ((a : ℕ) → firings a list ≡ slice_index counts a) → EachFiring IsFiringMoved [] list → (b k : ℕ) → k < slice_index counts b → IsMovedAt b k
    each_moved list whole each b k less =
        let count = whole b in
        let found = firing_at IsFiringMoved [] list b k each (omega arith) (omega arith) in
        subst (λ (j : ℕ). IsMovedAt b j) found.1 found.2

    module _ (starts : List (List ℤ)) (ended : Ended ℤ) where
      lines_moved : (list : List ℕ) → IsOrder level counts list → ((a : ℕ) → firings a list ≡ slice_index counts a) → (lines : Result (List (List ℤ)) Refusal) →
          Runs level (fires_in n values one) sources starts list lines → IsEnd level counts lines (Ok ended) → IsRunMoved n values level counts sources starts ended one other
      lines_moved list order whole (Err refusal) runs is_end = absurd cc
      lines_moved list order whole (Ok lines) runs is_end =
          let all : AreWhole [] list = λ a. let count = whole a in omega arith in
          let m = runs_moved lines [] starts list all runs in
          record { run = record { list = list; order = order; ends = record { lines = Ok lines; runs = m.0; is_end = is_end } }; traces = each_moved list whole m.1 }

      pub run_moved : IsLevelRun level counts sources starts (fires_in n values one) (Ok ended) → IsRunMoved n values level counts sources starts ended one other
      run_moved run = lines_moved run.list run.order run.order.admissible.counts run.ends.lines run.ends.runs run.ends.is_end
