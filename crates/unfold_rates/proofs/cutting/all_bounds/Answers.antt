use Rattle.std.proofs.Common.{◌≡◌, ℕ, ◌+◌, ◌*◌, ◌<◌, ◌≤◌, ◌++◌, [], ◌∷◌, List, length, get_or, slice_index, ap, sym, ◌∙◌, subst, arith}
use Rattle.std.proofs.lemmas.List.{map-append}
use Rattle.level_laws.specs.Unfolded.{multiplied}
use Rattle.level_laws.proofs.Multiplied.{at_multiplied}
use Rattle.pisdf_model.specs.declared.actor.Actor.{Actor}
use Rattle.sdf_level.specs.Lists.{lists_of}
use Rattle.unfold_rates.specs.Spans.{AreSpans}
use Rattle.unfold_rates.proofs.Bounds.{ArePickedSoFar, end_inside, picked_all, picked_more, picked_start}
use Rattle.unfold_rates.proofs.FiringRows.{count_small, index_le_sum}
use Rattle.unfold_rates.proofs.cutting.all_bounds.Goals as goal

pub loop-place-init : goal.loop-place-init
loop-place-init c = rw c.new-all.ensures.items (picked_start c.args.rows.now c.args.top.now (multiplied c.args.times c.args.counts.now))

pub overflow_mul-firings : goal.overflow_mul-firings
overflow_mul-firings c = let most = count_small c.args.times c.args.counts.now c.loop-place.place c.requires.few in omega arith

pub loop-place-preserved : goal.loop-place-preserved
loop-place-preserved c =
    let place : ℕ = c.loop-place.place in
    let counts : List ℕ = multiplied c.args.times c.args.counts.now in
    let own : List ℕ = c.in_ok-bounds.bounds.items in
    let all : c.items-actor-items.result.now ≡ c.args.top.now.actors = c.items-actor-items.ensures in
    let inside : c.loop-place.place < length c.args.top.now.actors = rw (← all) c.loop-place-test.true in
    let item : c.actor-item.result ≡ get_or c.args.top.now.actors c.loop-place.place c.actor-item.result = c.actor-item.is ∙ ap (λ (l : List Actor). get_or l c.loop-place.place c.actor-item.result) all in
    let count : slice_index counts c.loop-place.place ≡ c.args.times * slice_index c.args.counts.now c.loop-place.place = at_multiplied c.args.times c.args.counts.now c.loop-place.place in
    let S : ℕ → Type 0 = λ n. AreSpans c.args.rows.now c.args.top.now.name c.actor-item.result.name n c.loop-place.start own in
    let spans = subst S (sym count) c.in_ok-bounds.ensures in
    let last : slice_index own (slice_index counts c.loop-place.place) ≡ c.bound_at-start.result =
    ap (λ (i : ℕ). slice_index own i) count ∙ ap (λ (l : List ℕ). slice_index l (c.args.times * slice_index c.args.counts.now c.loop-place.place)) (sym c.deref.ensures.value) ∙ sym c.bound_at-start.ensures in
    let within = end_inside c.args.rows.now c.args.top.now.name c.actor-item.result.name (slice_index counts c.loop-place.place) c.loop-place.start own spans c.loop-place.invariant.inside in
    let more = picked_more c.args.rows.now c.args.top.now counts c.requires.in_order (λ b. let h = index_le_sum counts b in let f = c.requires.few in omega arith) c.loop-place.place c.loop-place.start (lists_of c.loop-place.all.items) own c.actor-item.result inside item c.loop-place.invariant spans within in
    let lists : lists_of c.push.new.self.items ≡ lists_of c.loop-place.all.items ++ own ∷ [] = rw c.in_ok-push.ensures.items (map-append _ c.loop-place.all.items (c.in_ok-bounds.bounds ∷ [])) in
    let Q : ℕ → List (List ℕ) → Type 0 = λ s b. ArePickedSoFar c.args.rows.now c.args.top.now counts (c.loop-place.place + 1) s b in
    subst (λ (s : ℕ). Q s (lists_of c.push.new.self.items)) last (subst (λ (b : List (List ℕ)). Q (slice_index own (slice_index counts c.loop-place.place)) b) (sym lists) more)

pub returns : goal.returns
returns c =
    let all : c.items-actor-items.result.now ≡ c.args.top.now.actors = c.items-actor-items.ensures in
    let over : length c.args.top.now.actors ≤ c.loop-place.place = rw (← all) (let f = c.loop-place-test.false in omega arith) in
    let under : c.loop-place.place ≤ length c.args.top.now.actors = rw (← all) (let e = c.loop-place.auto.place-end in omega arith) in
    picked_all c.args.rows.now c.args.top.now (multiplied c.args.times c.args.counts.now) c.loop-place.place c.loop-place.start (lists_of c.loop-place.all.items) over under c.loop-place.invariant
