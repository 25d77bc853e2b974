use Rattle.std.proofs.Common.{◌≡◌, ℕ, List, [], length, slice_index_or, refl, ◌∙◌, arith}
use Rattle.sdf_level.specs.Lists.{lists_of}
use Rattle.balance_solver.specs.Scaled.{AreScaled, HasTooLarge}
use Rattle.balance_solver.proofs.Scaling.{list_read, once_in, second_large, both_scaled, both_within}
use Rattle.balance_solver.proofs.join.unite.Goals as goal

pub scale-requires-clause-there : goal.scale-requires-clause-there
scale-requires-clause-there c =
    let lists : List (List ℕ) = lists_of c.args.groups.now.actors.items in
    let long = c.requires.grouped.one_list in
    let list : c.deref.result.now ≡ slice_index_or lists c.args.into [] = c.deref.ensures.value ∙ list_read c.args.groups.now.actors.items c.args.into c.index.result.now (omega (arith, c.requires.into)) c.index.ensures in
    rw list (c.requires.grouped.there c.args.into c.requires.into)

pub scale-requires-clause-once : goal.scale-requires-clause-once
scale-requires-clause-once c =
    let lists : List (List ℕ) = lists_of c.args.groups.now.actors.items in
    let long = c.requires.grouped.one_list in
    let list : c.deref.result.now ≡ slice_index_or lists c.args.into [] = c.deref.ensures.value ∙ list_read c.args.groups.now.actors.items c.args.into c.index.result.now (omega (arith, c.requires.into)) c.index.ensures in
    rw list (once_in (length c.args.q.now) c.args.groups.now.number.items lists c.requires.grouped c.args.into c.requires.into)

pub scale-requires-2-clause-there : goal.scale-requires-2-clause-there
scale-requires-2-clause-there c =
    let lists : List (List ℕ) = lists_of c.args.groups.now.actors.items in
    let long = c.requires.grouped.one_list in
    let list-2 : c.deref-2.result.now ≡ slice_index_or lists c.args.from [] = c.deref-2.ensures.value ∙ list_read c.args.groups.now.actors.items c.args.from c.index-2.result.now (omega (arith, c.requires.from)) c.index-2.ensures in
    rw (list-2, c.scale.auto.q) (c.requires.grouped.there c.args.from c.requires.from)

pub scale-requires-2-clause-once : goal.scale-requires-2-clause-once
scale-requires-2-clause-once c =
    let lists : List (List ℕ) = lists_of c.args.groups.now.actors.items in
    let long = c.requires.grouped.one_list in
    let list-2 : c.deref-2.result.now ≡ slice_index_or lists c.args.from [] = c.deref-2.ensures.value ∙ list_read c.args.groups.now.actors.items c.args.from c.index-2.result.now (omega (arith, c.requires.from)) c.index-2.ensures in
    rw (list-2, c.scale.auto.q) (once_in (length c.args.q.now) c.args.groups.now.number.items lists c.requires.grouped c.args.from c.requires.from)

pub returns-then-not-scale-2-clause-large : goal.returns-then-not-scale-2-clause-large
returns-then-not-scale-2-clause-large c =
    let lists : List (List ℕ) = lists_of c.args.groups.now.actors.items in
    let long = c.requires.grouped.one_list in
    let list : c.deref.result.now ≡ slice_index_or lists c.args.into [] = c.deref.ensures.value ∙ list_read c.args.groups.now.actors.items c.args.into c.index.result.now (omega (arith, c.requires.into)) c.index.ensures in
    let list-2 : c.deref-2.result.now ≡ slice_index_or lists c.args.from [] = c.deref-2.ensures.value ∙ list_read c.args.groups.now.actors.items c.args.from c.index-2.result.now (omega (arith, c.requires.from)) c.index-2.ensures in
    let first : AreScaled c.args.q.now c.scale.new.q (slice_index_or lists c.args.into []) c.args.x = rw list at c.if-not-scale.ensures.done in
    let large : HasTooLarge c.scale.new.q (slice_index_or lists c.args.from []) c.args.y = rw list-2 at c.if-not-scale-2.ensures.large in
    second_large (length c.args.q.now) c.args.groups.now.number.items lists c.args.q.now c.args.into c.args.from c.args.x c.args.y c.requires.grouped refl c.requires.into c.requires.from c.requires.apart c.scale.new.q first c.scale.auto.q large

pub returns-clause-done : goal.returns-clause-done
returns-clause-done c =
    let lists : List (List ℕ) = lists_of c.args.groups.now.actors.items in
    let long = c.requires.grouped.one_list in
    let list : c.deref.result.now ≡ slice_index_or lists c.args.into [] = c.deref.ensures.value ∙ list_read c.args.groups.now.actors.items c.args.into c.index.result.now (omega (arith, c.requires.into)) c.index.ensures in
    let list-2 : c.deref-2.result.now ≡ slice_index_or lists c.args.from [] = c.deref-2.ensures.value ∙ list_read c.args.groups.now.actors.items c.args.from c.index-2.result.now (omega (arith, c.requires.from)) c.index-2.ensures in
    let first : AreScaled c.args.q.now c.scale.new.q (slice_index_or lists c.args.into []) c.args.x = rw list at c.if-not-scale.ensures.done in
    let second : AreScaled c.scale.new.q c.scale-2.new.q (slice_index_or lists c.args.from []) c.args.y = rw list-2 at c.if-not-scale-2.ensures.done in
    record {
      one_each = c.requires.grouped.one_number;
      entries = both_scaled (length c.args.q.now) c.args.groups.now.number.items lists c.args.q.now c.args.into c.args.from c.args.x c.args.y c.requires.grouped refl c.requires.into c.requires.from c.requires.apart c.scale.new.q first c.scale.auto.q c.scale-2.new.q second;
      within = both_within (length c.args.q.now) c.args.groups.now.number.items lists c.args.q.now c.args.into c.args.from c.args.x c.args.y c.requires.grouped refl c.requires.into c.requires.from c.requires.apart c.scale.new.q first c.scale.auto.q c.scale-2.new.q second;
      united = c.in_ok-unite.ensures.united;
    }
