use Rattle.case_rows.proofs.Numbered.{numbered_next, numbered_level}
use Rattle.case_rows.proofs.building.level_with.Goals as goal

pub loop-line-preserved : goal.loop-line-preserved
loop-line-preserved c =
    rw c.in_ok-push.ensures.items
    (numbered_next c.in_ok-tail.tail c.in_ok-head.head _ c.loop-line.links.items c.loop-line.sources.items c.loop-line.sinks.items c.loop-line.outputs.items c.loop-line.inputs.items
    c.next_tail.new.sources.items c.next_head.new.sinks.items c.next_tail.new.outputs.items c.next_head.new.inputs.items
    c.in_ok-tail.ensures c.in_ok-head.ensures c.loop-line.invariant)

pub invariant_of-result : goal.invariant_of-result
invariant_of-result c =
    let parts = c.if-not-are_parts.ensures in
    rw (c.new.ensures, c.new-2.ensures, c.new-3.ensures)
    (numbered_level (record { actors = c.args.actors; sources = c.loop-line.sources.items; sinks = c.loop-line.sinks.items; links = c.loop-line.links.items })
    c.loop-line.outputs.items c.loop-line.inputs.items c.loop-line.invariant
    parts.sound parts.sources parts.sinks parts.few_links parts.few_sources parts.few_sinks)
