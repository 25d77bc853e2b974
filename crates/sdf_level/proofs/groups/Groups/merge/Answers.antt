use Rattle.std.proofs.Common.{◌≡◌, ℕ, List, [], ◌++◌, length, set, slice_index_or, take, drop, arith}
use Rattle.std.proofs.lemmas.Grind.{common_steps}
use Rattle.sdf_level.specs.Groups.{AreGroups, AreRenumbered, AreUnited}
use Rattle.sdf_level.specs.Lists.{lists_of}
use Rattle.sdf_level.proofs.Regrouped.{merged_groups, merged_united}
use Rattle.sdf_level.proofs.groups.Groups.merge.Goals as goal

merged : (c : goal.After-drop-moved-2) → AreGroups (length c.args.self.now.number.items) c.renumber.new.number (lists_of c.append.new.lists) × AreUnited c.args.self.now.number.items c.renumber.new.number c.args.into c.args.from
merged c =
    let lists : List (List ℕ) = lists_of c.args.self.now.actors.items in
    let emptied : take c.args.self.now.actors.len (c.take_out-moved.new.lists ++ drop (length c.take_out-moved.new.lists) c.args.self.now.actors.items) ≡ c.take_out-moved.new.lists = grind (arith, common_steps) in
    let moved : c.take_out-moved.result.items ≡ slice_index_or lists c.args.from [] = rw c.deref_mut.ensures.value at c.take_out-moved.ensures.taken in
    let left : lists_of c.take_out-moved.new.lists ≡ set lists c.args.from [] = rw c.deref_mut.ensures.value at c.take_out-moved.ensures.left in
    let renumbered : AreRenumbered c.args.self.now.number.items c.renumber.new.number (slice_index_or lists c.args.from []) c.args.into = rw (c.deref_mut-2.ensures.value, c.deref.ensures.value, moved) at c.renumber.ensures in
    let long : length c.renumber.new.number ≡ length c.args.self.now.number.items = rw c.deref_mut-2.ensures.value at c.renumber.auto.number in
    let appended : lists_of c.append.new.lists ≡ set (set lists c.args.from []) c.args.into (slice_index_or (set lists c.args.from []) c.args.into [] ++ slice_index_or lists c.args.from []) =
    rw (c.deref_mut-3.ensures.value, emptied, left, c.deref-2.ensures.value, moved) at c.in_ok-append.ensures in (
      rw appended (merged_groups (length c.args.self.now.number.items) c.args.self.now.number.items c.renumber.new.number lists c.args.into c.args.from c.requires.grouped c.requires.into c.requires.from c.requires.apart long renumbered),
      merged_united (length c.args.self.now.number.items) c.args.self.now.number.items c.renumber.new.number lists c.args.into c.args.from c.requires.grouped c.requires.into c.requires.from c.requires.apart long renumbered,
    )

pub returns-clause-grouped : goal.returns-clause-grouped
returns-clause-grouped c =
    let number : take c.args.self.now.number.len (c.renumber.new.number ++ drop (length c.renumber.new.number) c.args.self.now.number.items) ≡ c.renumber.new.number = grind (arith, common_steps) in
    let emptied : take c.args.self.now.actors.len (c.take_out-moved.new.lists ++ drop (length c.take_out-moved.new.lists) c.args.self.now.actors.items) ≡ c.take_out-moved.new.lists = grind (arith, common_steps) in
    let lists : take c.args.self.now.actors.len (c.append.new.lists ++ drop (length c.append.new.lists) c.take_out-moved.new.lists) ≡ c.append.new.lists = grind (arith, common_steps) in
    rw (number, emptied, lists) (merged c).0

pub returns-clause-united : goal.returns-clause-united
returns-clause-united c =
    let number : take c.args.self.now.number.len (c.renumber.new.number ++ drop (length c.renumber.new.number) c.args.self.now.number.items) ≡ c.renumber.new.number = grind (arith, common_steps) in
    rw number (merged c).1
