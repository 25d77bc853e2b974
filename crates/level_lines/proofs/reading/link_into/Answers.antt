use Rattle.std.proofs.Common.{arith}
use Rattle.level_lines.proofs.AtPorts.{none_leads}
use Rattle.level_lines.proofs.Placed.{places_inside}
use Rattle.level_lines.proofs.reading.link_into.Goals as goal

pub bounds-links-place : goal.bounds-links-place
bounds-links-place c = places_inside _ c.args.links.now c.args.into.now c.loop-place.place-index c.requires c.loop-place-test.true

pub returns-clause-none : goal.returns-clause-none
returns-clause-none c = none_leads c.args.actor c.args.port c.args.links.now c.args.into.now c.requires (λ i h. c.loop-place.invariant i (let f = c.loop-place-test.false in omega arith))
