use Rattle.std.proofs.Common.{◌≡◌, ℤ, List, ◌+◌, ◌<◌, length, ap, ◌∙◌, arith}
use Rattle.std.specs.Prelude.{◌+ℤ◌, fold}
use Rattle.std.specs.Arc.{arc_value}
use Rattle.kernel_gate.specs.Value.{lengths}
use Rattle.pisdf_model.specs.Hold.{initial}
use Rattle.pisdf_model.specs.declared.graph.Graphs.{Graphs}
use Rattle.pisdf_program.specs.Soak.{soak_iterations}
use Rattle.pisdf_program.proofs.SoakRuns.{soak_done, soak_goes_on, soak_starts, soak_stops}
use Rattle.pisdf_program.proofs.soak.run_soak.Goals as goal

pub loop-place-init : goal.loop-place-init
loop-place-init g c =
    let first = c.in-Ok.ensures ∙ ap (λ (x : Graphs). initial x.graphs x.top) c.deref.ensures in
    record {
      reached = soak_starts (arc_value c.args.graphs.now) c.args.number c.in-Ok.delays.lists first;
      state = ap lengths first;
      levels = c.requires.levels;
    }

pub loop-place-preserved : goal.loop-place-preserved
loop-place-preserved g c =
    let total = c.loop-place.total in
    record {
      reached = soak_goes_on (arc_value c.args.graphs.now) c.args.number c.loop-place.place c.loop-place.delays.lists total c.loop-place.invariant.reached c.soak_iteration.new.delays.lists c.in-Ok-soak_iteration.iteration c.in-Some.more
          c.in-Ok-soak_iteration.ensures.gives
          (c.in-Some.ensures.count ∙ ap (λ (t : List ℤ). total.count + length t) c.y_tokens.ensures)
          (c.in-Some.ensures.sum ∙ ap (λ (t : List ℤ). fold (λ sum token. sum +ℤ token) total.sum t) c.y_tokens.ensures);
      state = c.in-Ok-soak_iteration.ensures.state;
      levels = c.soak_iteration.ensures.levels;
    }

pub returns-in-Err-clause-ends : goal.returns-in-Err-clause-ends
returns-in-Err-clause-ends g c =
    let within : c.loop-place.place < soak_iterations c.args.number = (let test = c.loop-place-test.true in let end = c.soak_iterations-place-end.ensures in omega arith) in
    soak_stops (arc_value c.args.graphs.now) c.args.number c.loop-place.place c.loop-place.delays.lists c.loop-place.total c.loop-place.invariant.reached c.in-Err.stop within c.in-Err.ensures.stops

pub returns-clause-ends : goal.returns-clause-ends
returns-clause-ends g c =
    let all : c.loop-place.place ≡ soak_iterations c.args.number = (let test = c.loop-place-test.false in let end = c.soak_iterations-place-end.ensures in let most = c.loop-place.auto.place-end in omega arith) in
    soak_done (arc_value c.args.graphs.now) c.args.number c.loop-place.place c.loop-place.delays.lists c.loop-place.total c.loop-place.invariant.reached all
