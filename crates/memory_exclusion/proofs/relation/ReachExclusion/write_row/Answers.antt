use Rattle.std.proofs.Common.{◌≡◌, length, get_or}
use Rattle.std.proofs.lemmas.List.{get_or_read}
use Rattle.memory_exclusion.proofs.Reached.{row_of, behind_row}
use Rattle.memory_exclusion.proofs.relation.ReachExclusion.write_row.Goals as goal

pub write_neither-requires-clause-other : goal.write_neither-requires-clause-other
write_neither-requires-clause-other c =
    let e_in = rw (← c.self.view_is) at c.requires.e in
    let at : c.index.result.now ≡ get_or c.self.inside.edges.items c.args.e (0, 0) = get_or_read c.self.inside.edges.items c.args.e c.index.result.now e_in c.index.ensures (0, 0) in
    rw (c.deref-2.ensures.value, at) (behind_row c.self.inside.edges.items c.self.inside.width (length c.self.inside.behind.items) c.args.e c.self.invariant.1.rows e_in)

pub returns : goal.returns
returns c =
    let e_in = rw (← c.self.view_is) at c.requires.e in
    let at : c.index.result.now ≡ get_or c.self.inside.edges.items c.args.e (0, 0) = get_or_read c.self.inside.edges.items c.args.e c.index.result.now e_in c.index.ensures (0, 0) in
    rw (← c.self.view_is) (row_of c.self.inside.edges.items c.self.inside.width c.self.inside.before.items c.self.inside.behind.items c.self.invariant.0 c.self.invariant.1 c.args.e c.write_neither.new.row
    (rw (c.deref.ensures.value, c.deref-2.ensures.value, at) at c.write_neither.ensures))
