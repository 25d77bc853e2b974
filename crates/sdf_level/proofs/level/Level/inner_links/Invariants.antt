use Rattle.std.proofs.Common.{◌≡◌, map, take}
use Rattle.sdf_level.specs.Numbered.{inner_of, inner_links}
use Rattle.sdf_level.proofs.level.Level.inner_links.Given as goal

-- the links between two actors so far
abbrev pub invariant-loop-link : goal.invariant-loop-link
invariant-loop-link l = map inner_of l.between.items ≡ inner_links (take l.link-index l.self.links)
