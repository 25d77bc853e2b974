use Rattle.std.proofs.Common.{map, take}
use Rattle.sdf_level.specs.Groups.{IsGrouping}
use Rattle.sdf_level.specs.Numbered.{as_link}
use Rattle.interface_rules.specs.Connections.{AreGrouped}
use Rattle.interface_rules.proofs.component.components.Given as goal

-- the groups are those of the links so far
abbrev pub invariant-loop-link : goal.invariant-loop-link
invariant-loop-link l = record {
  grouping : IsGrouping l.level.actors l.groups;
  grouped : AreGrouped l.level.actors (take l.link-index (map as_link l.link-items)) l.groups.number.items;
}
