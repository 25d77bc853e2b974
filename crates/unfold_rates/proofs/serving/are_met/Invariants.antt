use Rattle.std.proofs.Common.{take}
use Rattle.level_laws.specs.Unfolded.{IsMetExactly}
use Rattle.sdf_level.specs.Links.{EachOuter}
use Rattle.unfold_rates.proofs.serving.are_met.Given as goal

abbrev pub invariant-loop-link : goal.invariant-loop-link
invariant-loop-link l = EachOuter (IsMetExactly l.counts) l.level (take l.link-index l.level.links)
