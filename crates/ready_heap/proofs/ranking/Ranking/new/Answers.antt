use Rattle.std.proofs.Common.{◌≡◌, length, refl, sym, ap, ◌∙◌, subst, arith}
use Rattle.ready_heap.specs.Ranks.{AreKeyed, AreRanks, AreStartsIn, IsListing, numbers_in}
use Rattle.ready_heap.proofs.Ordering.{groups_are, keys_are, rows_long, listing, rows_below, ranks_kept}
use Rattle.ready_heap.proofs.ranking.Ranking.new.Goals as goal

pub ranks_of-requires-clause-few : goal.ranks_of-requires-clause-few
ranks_of-requires-clause-few c =
    let gs = c.args.groups.now in
    let ks = c.args.keys.now in
    let given = c.in_ok-rows.rows.items in
    let keyed : AreKeyed gs ks (length gs) given = c.in_ok-rows.ensures in
    let all = listing gs ks given c.order.new.rows.items keyed c.in_ok-order.ensures.same in
    let numbers_are : c.deref-2.result.now ≡ numbers_in c.order.new.rows.items = c.deref-2.ensures.value ∙ (c.in_ok-numbers.ensures ∙ ap numbers_in c.deref.ensures.value) in
    omega (arith, all.long, ap length numbers_are, c.requires.few)

pub ranks_of-requires-clause-listing : goal.ranks_of-requires-clause-listing
ranks_of-requires-clause-listing c =
    let gs = c.args.groups.now in
    let ks = c.args.keys.now in
    let given = c.in_ok-rows.rows.items in
    let keyed : AreKeyed gs ks (length gs) given = c.in_ok-rows.ensures in
    let all = listing gs ks given c.order.new.rows.items keyed c.in_ok-order.ensures.same in
    let numbers_are : c.deref-2.result.now ≡ numbers_in c.order.new.rows.items = c.deref-2.ensures.value ∙ (c.in_ok-numbers.ensures ∙ ap numbers_in c.deref.ensures.value) in
    subst (λ xs. IsListing (length xs) xs) (sym numbers_are) (subst (λ n. IsListing n (numbers_in c.order.new.rows.items)) (sym all.long) all)

pub starts_of-requires-clause-few : goal.starts_of-requires-clause-few
starts_of-requires-clause-few c =
    let gs = c.args.groups.now in
    let ks = c.args.keys.now in
    let given = c.in_ok-rows.rows.items in
    let keyed : AreKeyed gs ks (length gs) given = c.in_ok-rows.ensures in
    omega (arith, rows_long gs ks given c.order.new.rows.items keyed c.in_ok-order.ensures.same, ap length c.deref-3.ensures.value, c.requires.few)

pub starts_of-requires-clause-count : goal.starts_of-requires-clause-count
starts_of-requires-clause-count c =
    let gs = c.args.groups.now in
    let ks = c.args.keys.now in
    let given = c.in_ok-rows.rows.items in
    let keyed : AreKeyed gs ks (length gs) given = c.in_ok-rows.ensures in
    rw c.deref-3.ensures.value (rows_below gs ks given c.order.new.rows.items keyed c.in_ok-order.ensures.same c.args.count c.requires.count)

pub invariant_of-result : goal.invariant_of-result
invariant_of-result c =
    let gs = c.args.groups.now in
    let ks = c.args.keys.now in
    let given = c.in_ok-rows.rows.items in
    let rows = c.order.new.rows.items in
    let keyed : AreKeyed gs ks (length gs) given = c.in_ok-rows.ensures in
    let numbers_are : c.in_ok-numbers.numbers.items ≡ numbers_in rows = c.in_ok-numbers.ensures ∙ ap numbers_in c.deref.ensures.value in
    let ranks_are : AreRanks c.in_ok-numbers.numbers.items c.in_ok-ranks.ranks.items = rw c.deref-2.ensures.value at c.in_ok-ranks.ensures in
    let starts_are : AreStartsIn rows c.in_ok-starts.starts.items = rw c.deref-3.ensures.value at c.in_ok-starts.ensures.starts in
    rw (c.of-given.ensures, groups_are gs ks (length gs) given keyed refl, keys_are gs ks (length gs) given keyed (sym c.requires.keys)) (ranks_kept gs ks given rows keyed c.in_ok-order.ensures.same c.in_ok-order.ensures.groups c.in_ok-order.ensures.keys c.in_ok-numbers.numbers.items c.in_ok-ranks.ranks.items c.in_ok-starts.starts.items c.args.count numbers_are ranks_are c.in_ok-starts.ensures.long starts_are c.requires.count c.requires.keys c.requires.few)

pub returns-clause-groups : goal.returns-clause-groups
returns-clause-groups c = rw c.of-given.ensures (groups_are c.args.groups.now c.args.keys.now (length c.args.groups.now) c.in_ok-rows.rows.items c.in_ok-rows.ensures refl)

pub returns-clause-keys : goal.returns-clause-keys
returns-clause-keys c = rw c.of-given.ensures (keys_are c.args.groups.now c.args.keys.now (length c.args.groups.now) c.in_ok-rows.rows.items c.in_ok-rows.ensures (sym c.requires.keys))
