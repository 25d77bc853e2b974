use Rattle.std.proofs.Common.{List, length, sym, ap, ◌∙◌}
use Rattle.pisdf_model.specs.declared.param.Param.{Param}
use Rattle.param_resolver.specs.EarlyView.{EarlyView}
use Rattle.param_resolver.proofs.Resolved.{fault_alike, late_supplied, numbers_alike, sound_alike}
use Rattle.param_resolver.proofs.Supplying.{length-late}
use Rattle.param_resolver.proofs.resolution.resolve.Goals as goal

pub assign-requires-clause-supplied : goal.assign-requires-clause-supplied
assign-requires-clause-supplied c =
    ap (λ xs. length xs) (c.deref.ensures.value ∙ c.in_ok-supplied.ensures) ∙ length-late c.items.result.now c.items-2.result.now c.args.chosen.now ∙ ap (λ (ps : List Param). length ps) (c.items.ensures ∙ sym c.items-3.ensures)

pub returns-clause-values : goal.returns-clause-values
returns-clause-values c = λ inherited early.
    c.new.ensures ∙ c.in_ok-assigned.ensures.numbers
    ∙ numbers_alike c.args.graph.now.params inherited c.args.chosen.now c.args.early.now.values c.requires.ordered early c.items-3.result.now c.deref.result.now c.items-3.ensures
    (late_supplied c.args.graph.now.params c.args.chosen.now c.args.early.now.values c.items.result.now c.items-2.result.now c.items.ensures (c.items-2.ensures ∙ ap (λ (e : EarlyView). e.values) c.early.view_is) c.deref.result.now (c.deref.ensures.value ∙ c.in_ok-supplied.ensures))

pub returns-clause-sound : goal.returns-clause-sound
returns-clause-sound c = λ inherited early.
    sound_alike c.args.graph.now.params inherited c.args.chosen.now c.args.early.now.values c.requires.ordered early c.items-3.result.now c.deref.result.now c.items-3.ensures
    (late_supplied c.args.graph.now.params c.args.chosen.now c.args.early.now.values c.items.result.now c.items-2.result.now c.items.ensures (c.items-2.ensures ∙ ap (λ (e : EarlyView). e.values) c.early.view_is) c.deref.result.now (c.deref.ensures.value ∙ c.in_ok-supplied.ensures))
    c.in_ok-assigned.ensures.sound

pub returns-in_err-assigned-clause-first_fault : goal.returns-in_err-assigned-clause-first_fault
returns-in_err-assigned-clause-first_fault c = λ inherited early.
    fault_alike c.args.graph.now.params inherited c.args.chosen.now c.args.early.now.values c.requires.ordered early c.items-3.result.now c.deref.result.now c.items-3.ensures
    (late_supplied c.args.graph.now.params c.args.chosen.now c.args.early.now.values c.items.result.now c.items-2.result.now c.items.ensures (c.items-2.ensures ∙ ap (λ (e : EarlyView). e.values) c.early.view_is) c.deref.result.now (c.deref.ensures.value ∙ c.in_ok-supplied.ensures))
    c.from_residual-in_err-assigned.result c.in_err-assigned.field-0.0 c.from_residual-in_err-assigned.ensures.1 c.in_err-assigned.ensures.fault
