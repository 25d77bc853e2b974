use Rattle.std.proofs.Common.{◌≡◌, ℕ, ◌+◌, List, [], ◌∷◌, ◌++◌, Option, length, get_or, slice_get, Some, sym, ap, ◌∙◌, subst}
use Rattle.std.proofs.lemmas.Option.{slice_get-get_or}
use Rattle.kernel_gate.specs.Value.{FrameView}
use Rattle.job_preparing.specs.Unclaimed.{AreUnclaimed}
use Rattle.job_preparing.specs.declared.stage.Stage.{Stage}
use Rattle.job_preparing.proofs.UnclaimedActors.{one_unclaimed}
use Rattle.job_preparing.proofs.starting.unclaimed_actors.Goals as goal

pub unclaimed_actor-requires-clause-is : goal.unclaimed_actor-requires-clause-is
unclaimed_actor-requires-clause-is c = (c.requires.places.each c.loop-number.number (get_or c.args.places.now c.loop-number.number 0) (slice_get-get_or c.args.places.now c.loop-number.number 0 c.loop-number-test.true)).1

pub loop-number-preserved : goal.loop-number-preserved
loop-number-preserved c =
    let next = one_unclaimed c.args.graphs.now.graphs c.args.graph.now c.args.firing.now c.loop-number.number c.loop-number.stages.items c.loop-number.frames.items c.in-Ok.field-0.stage c.in-Ok.field-0.frame c.loop-number.invariant.unclaimed c.in-Ok.ensures.own c.in-Ok.ensures.free c.in-Ok.ensures.lent c.in-Ok.ensures.stands in
    let P : List Stage → Type 0 = λ l. AreUnclaimed c.args.graphs.now.graphs c.args.graph.now c.args.firing.now (c.loop-number.number + 1) l c.push_reserved-in-Ok.new.self.items in
    let Q : List (Option FrameView) → Type 0 = λ l. AreUnclaimed c.args.graphs.now.graphs c.args.graph.now c.args.firing.now (c.loop-number.number + 1) (c.loop-number.stages.items ++ c.in-Ok.field-0.stage ∷ []) l in
    record {
      unclaimed = subst P (sym c.push_reserved.ensures.items) (subst Q (sym c.push_reserved-in-Ok.ensures.items) next);
      stage_room = c.push_reserved.ensures.capacity ∙ c.loop-number.invariant.stage_room;
      frame_room = c.push_reserved-in-Ok.ensures.capacity ∙ c.loop-number.invariant.frame_room;
    }
