use Rattle.pisdf_meaning.proofs.AtActors.{element_of}
use Rattle.pisdf_meaning.proofs.Iterating.{top_here, top_levelled, top_unconfigured, top_underway, top_unrated, top_unresolved}
use Rattle.pisdf_meaning.proofs.Passing.{err-map, ok-on, passed_on, refused-map}
use Rattle.pisdf_meaning.proofs.iteration.lead_from.Goals as goal

pub configure-requires : goal.configure-requires
configure-requires g c = top_underway c.args.graphs.now c.args.ins.now c.args.delays.now.lists c.index-items-graphs.result c.in_ok-firing.firing (element_of c.items.result.now c.args.graphs.now.graphs c.args.graphs.now.top c.index-items-graphs.result c.items.ensures c.requires.valid.in_range.top c.index-items-graphs.is) c.in_ok-firing.ensures _ c.args.early.now c.requires.valid c.requires.runnable c.requires.known c.requires.sound

pub returns-in_err-configured-clause-refused : goal.returns-in_err-configured-clause-refused
returns-in_err-configured-clause-refused g c =
    passed_on _ c.from_residual-in_err-configured.result c.in_err-configured.field-0.0 c.from_residual-in_err-configured.ensures.1
    (refused-map _ _ (λ refusal all. top_unconfigured c.args.graphs.now c.args.ins.now c.args.delays.now.lists c.index-items-graphs.result c.in_ok-firing.firing (element_of c.items.result.now c.args.graphs.now.graphs c.args.graphs.now.top c.index-items-graphs.result c.items.ensures c.requires.valid.in_range.top c.index-items-graphs.is) c.in_ok-firing.ensures refusal all) c.in_err-configured.field-0.0 c.in_err-configured.ensures.refused)

pub resolved-requires-clause-valid : goal.resolved-requires-clause-valid
resolved-requires-clause-valid g c = c.requires.valid

pub resolved-requires-clause-here : goal.resolved-requires-clause-here
resolved-requires-clause-here g c = top_here c.args.graphs.now c.args.ins.now c.args.delays.now.lists c.index-items-graphs.result c.in_ok-firing.firing (element_of c.items.result.now c.args.graphs.now.graphs c.args.graphs.now.top c.index-items-graphs.result c.items.ensures c.requires.valid.in_range.top c.index-items-graphs.is) c.in_ok-firing.ensures

pub parts_of-requires-clause-valid : goal.parts_of-requires-clause-valid
parts_of-requires-clause-valid g c = c.requires.valid

pub parts_of-requires-clause-here : goal.parts_of-requires-clause-here
parts_of-requires-clause-here g c = top_here c.args.graphs.now c.args.ins.now c.args.delays.now.lists c.index-items-graphs.result c.in_ok-firing.firing (element_of c.items.result.now c.args.graphs.now.graphs c.args.graphs.now.top c.index-items-graphs.result c.items.ensures c.requires.valid.in_range.top c.index-items-graphs.is) c.in_ok-firing.ensures

pub returns-in_err-values-clause-refused : goal.returns-in_err-values-clause-refused
returns-in_err-values-clause-refused g c =
    passed_on _ c.from_residual-in_err-values.result c.in_err-values.field-0.0 c.from_residual-in_err-values.ensures.1
    (refused-map _ _ (λ refusal is. top_unresolved c.args.graphs.now c.args.ins.now c.args.delays.now.lists c.index-items-graphs.result c.in_ok-firing.firing (element_of c.items.result.now c.args.graphs.now.graphs c.args.graphs.now.top c.index-items-graphs.result c.items.ensures c.requires.valid.in_range.top c.index-items-graphs.is) c.in_ok-firing.ensures c.in_ok-configured.configured.items c.deref.result.now c.deref.ensures.value c.in_ok-configured.ensures.configures refusal is) c.in_err-values.field-0.0 c.in_err-values.ensures.refused)

pub returns-clause-level : goal.returns-clause-level
returns-clause-level g c =
    ok-on _ _ _ (λ set rated is. top_levelled c.args.graphs.now c.args.ins.now c.args.delays.now.lists c.index-items-graphs.result c.in_ok-firing.firing (element_of c.items.result.now c.args.graphs.now.graphs c.args.graphs.now.top c.index-items-graphs.result c.items.ensures c.requires.valid.in_range.top c.index-items-graphs.is) c.in_ok-firing.ensures c.in_ok-configured.configured.items c.deref.result.now c.deref.ensures.value c.in_ok-configured.ensures.configures c.in_ok-values.values c.items-2.result.now c.items-2.ensures c.in_ok-values.ensures.values set rated is) c.parts_of.result c.parts_of.ensures.rated c.parts_of.ensures.set

pub returns-clause-refused : goal.returns-clause-refused
returns-clause-refused g c =
    err-map _ _ (λ refusal is. top_unrated c.args.graphs.now c.args.ins.now c.args.delays.now.lists c.index-items-graphs.result c.in_ok-firing.firing (element_of c.items.result.now c.args.graphs.now.graphs c.args.graphs.now.top c.index-items-graphs.result c.items.ensures c.requires.valid.in_range.top c.index-items-graphs.is) c.in_ok-firing.ensures c.in_ok-configured.configured.items c.deref.result.now c.deref.ensures.value c.in_ok-configured.ensures.configures c.in_ok-values.values c.items-2.result.now c.items-2.ensures c.in_ok-values.ensures.values refusal is) c.parts_of.result c.parts_of.ensures.refused
