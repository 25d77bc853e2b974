use Rattle.std.proofs.Common.{◌≡◌, ℕ, ◌*◌, ◌<◌, ◌≤◌, ◌++◌, List, [], Vec, Global, length, get_or, slice_get, slice_index, slice_index_or, Some, ap, sym, ◌∙◌, subst, arith}
use Rattle.std.proofs.lemmas.List.{get_or-map, length-map}
use Rattle.std.proofs.lemmas.Option.{slice_get-get_or}
use Rattle.level_laws.proofs.Multiplied.{at_multiplied}
use Rattle.sdf_level.specs.Lists.{lists_of}
use Rattle.unfold_rates.specs.Spans.{ArePicked}
use Rattle.std.specs.List.{flat_map}
use Rattle.level_laws.specs.Unfolded.{multiplied}
use Rattle.pisdf_meaning.specs.declared.outcome.TraceRow.{TraceRow}
use Rattle.pisdf_model.specs.declared.actor.Actor.{Actor}
use Rattle.unfold_rates.specs.Cut.{firings_rows}
use Rattle.unfold_rates.proofs.FiringRows.{actors_all, actors_more, count_small, piece_small}
use Rattle.unfold_rates.proofs.cutting.piece_rows.Goals as goal

pub overflow_mul-number : goal.overflow_mul-number
overflow_mul-number c =
    let most = count_small c.args.times c.args.counts.now c.loop-place.place c.requires.few in
    let piece = piece_small c.args.number c.args.times (slice_index c.args.counts.now c.loop-place.place) c.requires.there in
    omega arith

pub push_firings-requires-clause-few : goal.push_firings-requires-clause-few
push_firings-requires-clause-few c =
    let most = count_small c.args.times c.args.counts.now c.loop-place.place c.requires.few in
    let piece = piece_small c.args.number c.args.times (slice_index c.args.counts.now c.loop-place.place) c.requires.there in
    omega arith

pub push_firings-requires-clause-picked : goal.push_firings-requires-clause-picked
push_firings-requires-clause-picked c =
    let all : c.items-actor-items.result.now ≡ c.args.top.now.actors = c.items-actor-items.ensures in
    let inside : c.loop-place.place < length c.args.top.now.actors = rw (← all) c.loop-place-test.true in
    let here : slice_get c.args.top.now.actors c.loop-place.place ≡ Some c.actor-item.result =
    slice_get-get_or c.args.top.now.actors c.loop-place.place c.actor-item.result inside
    ∙ ap (λ (a : Actor). Some a) (ap (λ (l : List Actor). get_or l c.loop-place.place c.actor-item.result) (sym all) ∙ sym c.actor-item.is) in
    let items : Vec ℕ Global → List ℕ = λ v. v.items in
    let many = length-map c.args.bounds.now items in
    let one_each = c.requires.picked.one_each in
    let there : c.loop-place.place < length c.args.bounds.now = omega arith in
    let own : slice_index_or (lists_of c.args.bounds.now) c.loop-place.place [] ≡ c.deref.result.now =
    get_or-map items c.args.bounds.now c.loop-place.place c.index-bounds-place.result [] there ∙ ap items (sym c.index-bounds-place.is) ∙ sym c.deref.ensures.value in
    let P : List ℕ → Type 0 = λ l. ArePicked c.args.rows.now c.args.top.now.name c.actor-item.result.name (slice_index (multiplied c.args.times c.args.counts.now) c.loop-place.place) l in
    let count = at_multiplied c.args.times c.args.counts.now c.loop-place.place in
    let piece = piece_small c.args.number c.args.times (slice_index c.args.counts.now c.loop-place.place) c.requires.there in
    (slice_index (multiplied c.args.times c.args.counts.now) c.loop-place.place, omega arith, subst P own (c.requires.picked.each c.loop-place.place c.actor-item.result here))

pub loop-place-preserved : goal.loop-place-preserved
loop-place-preserved c =
    let F : Actor × ℕ → List TraceRow = λ one. firings_rows c.args.top.now.name one.0.name (c.args.number * one.1) one.1 c.args.rows.now in
    let all : c.items-actor-items.result.now ≡ c.args.top.now.actors = c.items-actor-items.ensures in
    let inside : c.loop-place.place < length c.args.top.now.actors = rw (← all) c.loop-place-test.true in
    let item : get_or c.args.top.now.actors c.loop-place.place c.actor-item.result ≡ c.actor-item.result = ap (λ (l : List Actor). get_or l c.loop-place.place c.actor-item.result) (sym all) ∙ sym c.actor-item.is in
    c.in_ok-push_firings.ensures
    ∙ ap (λ (l : List TraceRow). l ++ F (c.actor-item.result, slice_index c.args.counts.now c.loop-place.place)) c.loop-place.invariant
    ∙ sym (actors_more F c.args.top.now.actors c.args.counts.now c.loop-place.place c.actor-item.result inside c.requires.one_each item)

pub returns : goal.returns
returns c =
    let F : Actor × ℕ → List TraceRow = λ one. firings_rows c.args.top.now.name one.0.name (c.args.number * one.1) one.1 c.args.rows.now in
    let all : c.items-actor-items.result.now ≡ c.args.top.now.actors = c.items-actor-items.ensures in
    let over : length c.args.top.now.actors ≤ c.loop-place.place = rw (← all) (let f = c.loop-place-test.false in omega arith) in
    c.new.ensures ∙ c.loop-place.invariant ∙ ap (λ (l : List (Actor × ℕ)). flat_map F l) (actors_all F c.args.top.now.actors c.args.counts.now c.loop-place.place over)
