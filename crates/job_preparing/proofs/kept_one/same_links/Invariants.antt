use Rattle.std.proofs.Common.{◌≡◌, take}
use Rattle.job_preparing.proofs.kept_one.same_links.Given as goal

abbrev pub invariant-loop-n : goal.invariant-loop-n
invariant-loop-n l = take l.n l.links ≡ take l.n l.other
