use Rattle.std.proofs.Common.{◌≡◌, ℕ, ◌<◌, List, [], ◌∷◌, ◌++◌, map, get_or, take, length, arith, sym, ◌∙◌, ap, Vec, Global}
use Rattle.std.proofs.lemmas.List.{take_more, map-set, get_or-map, length-map}
use Rattle.worker_mapping.proofs.Adjacent.{AreAfter-more}
use Rattle.sdf_level.specs.Lists.{lists_of}
use Rattle.order_memory.proofs.Grouped.{whole_more, whole_none}
use Rattle.order_memory.proofs.grouping.grouped.Goals as goal

pub loop-pair-init : goal.loop-pair-init
loop-pair-init c =
    let empty = c.in_ok-lists.ensures in
    let one_each = empty.one_each in
    record {
      lists = record { one_each = one_each; each = empty.each };
      whole = whole_none (lists_of c.in_ok-lists.lists.items) (λ k there. empty.each k (omega arith));
    }

pub loop-pair-preserved : goal.loop-pair-preserved
loop-pair-preserved c =
    let lists : List (Vec ℕ Global) = c.loop-pair.lists.items in
    let items = λ (v : Vec ℕ Global). v.items in
    let pair : ℕ × ℕ = get_or c.args.pairs.now c.loop-pair.pair-index (0, 0) in
    let there : pair.0 < c.args.keys = c.requires c.loop-pair.pair-index (0, 0) c.loop-pair-test.true in
    let long = length-map lists items in
    let inside : pair.0 < length (map items lists) = (let one_each = c.loop-pair.invariant.lists.one_each in omega arith) in
    let was : get_or (map items lists) pair.0 [] ≡ c.index_mut.result.now.items = get_or-map items lists pair.0 c.index_mut.result.now [] (omega arith) ∙ ap items (sym c.index_mut.ensures.value) in
    let now : c.push.new.self.items ≡ get_or (map items lists) pair.0 [] ++ pair.1 ∷ [] = c.in_ok-push.ensures.items ∙ ap (λ (xs : List ℕ). xs ++ pair.1 ∷ []) (sym was) in
    let grown = whole_more (map items lists) pair.0 pair.1 inside in
    let before = c.loop-pair.invariant.whole in
    rw (take_more c.args.pairs.now c.loop-pair.pair-index (0, 0) c.loop-pair-test.true, map-set items lists pair.0 c.push.new.self, now)
    record {
      lists = AreAfter-more c.args.keys (take c.loop-pair.pair-index c.args.pairs.now) pair (map items lists) c.loop-pair.invariant.lists there;
      whole = omega arith;
    }
