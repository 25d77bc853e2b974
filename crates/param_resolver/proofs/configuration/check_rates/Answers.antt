use Rattle.std.proofs.Common.{List, length, All, sym, ap, ◌∙◌, subst}
use Rattle.param_expr.specs.Eval.{RefersBelow}
use Rattle.pisdf_model.specs.declared.graph.Interface.{Interface}
use Rattle.pisdf_model.specs.declared.param.Param.{Param}
use Rattle.param_resolver.specs.Assignment.{supplied_to}
use Rattle.param_resolver.specs.EarlyCheck.{rated_faults}
use Rattle.param_resolver.specs.Refusal.{part_refusal_of}
use Rattle.param_resolver.proofs.RatedFaults.{below_numbers, input_stands, length-supplied, many, output_stands}
use Rattle.param_resolver.proofs.Walks.{passed}
use Rattle.param_resolver.proofs.configuration.check_rates.Goals as goal

pub assign-requires-clause-supplied : goal.assign-requires-clause-supplied
assign-requires-clause-supplied c =
    ap (λ xs. length xs) (c.deref.ensures.value ∙ c.in_ok-supplied.ensures) ∙ length-supplied c.items.result.now c.args.inherited.now _ ∙ ap (λ (ps : List Param). length ps) (c.items.ensures ∙ sym c.items-2.ensures)

pub interface_rates-requires : goal.interface_rates-requires
interface_rates-requires c =
    let g = c.args.graph.now in
    let supplied = c.deref.ensures.value ∙ c.in_ok-supplied.ensures ∙ ap (λ (ps : List Param). supplied_to ps c.args.inherited.now _) c.items.ensures in
    let same = many g c.args.inherited.now c.items-2.result.now c.deref.result.now c.items-2.ensures supplied c.deref-2.result.now (c.deref-2.ensures.value ∙ c.in_ok-assigned.ensures.numbers) c.requires.ordered in
    subst (λ (xs : List Interface). All (λ (x : Interface). RefersBelow (length c.deref-2.result.now) x.rate) xs) (sym c.items-3.ensures)
    (below_numbers (length g.params) (length c.deref-2.result.now) g.inputs same c.requires.inputs)

pub interface_rates-requires-2 : goal.interface_rates-requires-2
interface_rates-requires-2 c =
    let g = c.args.graph.now in
    let supplied = c.deref.ensures.value ∙ c.in_ok-supplied.ensures ∙ ap (λ (ps : List Param). supplied_to ps c.args.inherited.now _) c.items.ensures in
    let same = many g c.args.inherited.now c.items-2.result.now c.deref.result.now c.items-2.ensures supplied c.deref-3.result.now (c.deref-3.ensures.value ∙ c.in_ok-assigned.ensures.numbers) c.requires.ordered in
    subst (λ (xs : List Interface). All (λ (x : Interface). RefersBelow (length c.deref-3.result.now) x.rate) xs) (sym c.items-4.ensures)
    (below_numbers (length g.params) (length c.deref-3.result.now) g.outputs same c.requires.outputs)

pub returns-in_err-inputs-clause-fault : goal.returns-in_err-inputs-clause-fault
returns-in_err-inputs-clause-fault c =
    let g = c.args.graph.now in
    let supplied = c.deref.ensures.value ∙ c.in_ok-supplied.ensures ∙ ap (λ (ps : List Param). supplied_to ps c.args.inherited.now _) c.items.ensures in
    let r = part_refusal_of c.in_err-inputs.field-0.0 in
    passed c.from_residual-in_err-inputs.result r (rated_faults g c.args.inherited.now) c.from_residual-in_err-inputs.ensures.1
    (input_stands g c.args.inherited.now c.items-2.result.now c.deref.result.now c.items-2.ensures supplied c.deref-2.result.now (c.deref-2.ensures.value ∙ c.in_ok-assigned.ensures.numbers) c.in_ok-assigned.ensures.sound
    c.items-3.result.now c.items-3.ensures r c.in_err-inputs.ensures.fault)

pub returns-in_err-outputs-clause-fault : goal.returns-in_err-outputs-clause-fault
returns-in_err-outputs-clause-fault c =
    let g = c.args.graph.now in
    let supplied = c.deref.ensures.value ∙ c.in_ok-supplied.ensures ∙ ap (λ (ps : List Param). supplied_to ps c.args.inherited.now _) c.items.ensures in
    let r = part_refusal_of c.in_err-outputs.field-0.0 in
    passed c.from_residual-in_err-outputs.result r (rated_faults g c.args.inherited.now) c.from_residual-in_err-outputs.ensures.1
    (output_stands g c.args.inherited.now c.items-2.result.now c.deref.result.now c.items-2.ensures supplied c.deref-3.result.now (c.deref-3.ensures.value ∙ c.in_ok-assigned.ensures.numbers) c.in_ok-assigned.ensures.sound
    c.items-3.result.now c.items-4.result.now c.items-3.ensures c.items-4.ensures c.deref-2.result.now (c.deref-2.ensures.value ∙ sym c.deref-3.ensures.value) c.in_ok-inputs.ensures.sound r c.in_err-outputs.ensures.fault)
