use Rattle.std.proofs.Common.{◌≡◌, ◌++◌, take}
use Rattle.pisdf_meaning.proofs.sources.push_copies.Given as goal

-- the copies so far
abbrev pub invariant-loop-list : goal.invariant-loop-list
invariant-loop-list l = l.sources.items ≡ l.initial.sources.items ++ take l.list-index l.lists
