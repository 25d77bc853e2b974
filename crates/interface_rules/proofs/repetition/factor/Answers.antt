use Rattle.std.proofs.Common.{◌≡◌, ℕ, ◌*◌, ◌≤◌, ◌<◌, length, slice_index, ap, arith, rules, subst, Fits, w32}
use Rattle.std.proofs.Math.Nat.{mul-le-mul_left, mul-le-mul_right}
use Rattle.std.proofs.lemmas.List.{get_or_read}
use Rattle.sdf_level.specs.Invariants.{rate_limit}
use Rattle.sdf_level.specs.Balance.{base_entry_limit}
use Rattle.sdf_level.specs.View.{LevelView}
use Rattle.sdf_level.specs.Invariants.{IsLevel}
use Rattle.sdf_level.proofs.OnlyOne.{repetition_only}
use Rattle.interface_rules.proofs.Multiplied.{is_repetition, no_mismatch}
use Rattle.interface_rules.proofs.repetition.factor.Goals as goal

repeated : goal.returns-clause-repetition
repeated c =
    let actors : c.level.inside.actors ≡ c.args.level.now.actors = ap (λ (v : LevelView). v.actors) c.level.view_is in
    let known : IsLevel c.args.level.now = let P : LevelView → Type 0 = λ v. IsLevel v in subst P c.level.view_is c.level.invariant in
    let over : c.args.level.now.actors ≤ c.loop-actor.actor = let f = c.loop-actor-test.false in omega arith in
    let long : length c.loop-actor.counts.items ≡ c.args.level.now.actors = let l = c.loop-actor.invariant.long in let e = c.loop-actor.auto.actor-end in omega arith in
    rw c.new.ensures (is_repetition c.args.level.now known c.args.base.now c.in_ok-group.group.items c.in_ok-group.ensures c.in_ok-factors.factors.items c.loop-actor.counts.items
    c.requires (rw c.deref.ensures.value at c.in_ok-factors.ensures.served) long
    (λ a h. c.loop-actor.invariant.products a (omega arith)))

pub returns-clause-repetition : goal.returns-clause-repetition
returns-clause-repetition c = repeated c

pub returns-clause-refused : goal.returns-clause-refused
returns-clause-refused c link m = absurd (no_mismatch c.args.level.now _ link (repeated c) m)

pub returns-clause-only : goal.returns-clause-only
returns-clause-only c other is = repetition_only c.args.level.now other _ is (repeated c)

pub returns-clause-each_none : goal.returns-clause-each_none
returns-clause-each_none c none = absurd (none _ (repeated c))

pub returns-in_err-factors-clause-mismatch : goal.returns-in_err-factors-clause-mismatch
returns-in_err-factors-clause-mismatch c = search rules

pub returns-in_err-factors-clause-none : goal.returns-in_err-factors-clause-none
returns-in_err-factors-clause-none c link e q is = no_mismatch c.args.level.now q link is (returns-in_err-factors-clause-mismatch c link e)

product_fits : (m b : ℕ) → m ≤ rate_limit → b ≤ base_entry_limit → Fits w32 (m * b)
product_fits m b h k =
    let x : m * b ≤ rate_limit * b = mul-le-mul_right b h in
    let y : rate_limit * b ≤ rate_limit * base_entry_limit = mul-le-mul_left rate_limit k in
    omega arith

pub overflow_mul-index : goal.overflow_mul-index
overflow_mul-index c =
    let actors : c.level.inside.actors ≡ c.args.level.now.actors = ap (λ (v : LevelView). v.actors) c.level.view_is in
    let inside : c.loop-actor.actor < c.args.level.now.actors = let t = c.loop-actor-test.true in omega arith in
    let groups = c.in_ok-group.ensures.one_each in
    let group : c.index.result.now ≡ slice_index c.in_ok-group.group.items c.loop-actor.actor = get_or_read c.in_ok-group.group.items c.loop-actor.actor c.index.result.now (omega arith) c.index.ensures 0 in
    let below : c.index.result.now < c.args.level.now.actors = rw group (c.in_ok-group.ensures.below c.loop-actor.actor inside) in
    let each = c.in_ok-factors.ensures.served.one_each in
    let factor : c.index-in-loop-actor.result.now ≡ slice_index c.in_ok-factors.factors.items c.index.result.now = get_or_read c.in_ok-factors.factors.items c.index.result.now c.index-in-loop-actor.result.now (omega arith) c.index-in-loop-actor.ensures 0 in
    let most = (c.in_ok-factors.ensures.served.each c.index.result.now below).within in
    product_fits c.index-in-loop-actor.result.now (slice_index c.args.base.now c.loop-actor.actor) (rw factor most) (c.requires.solves.within c.loop-actor.actor inside)
