use Rattle.std.proofs.Common.{ℕ, ◌≡◌, ◌<◌, List, map, length, slice_index_or, ap, sym, ◌∙◌, subst, arith}
use Rattle.sdf_level.specs.View.{LevelView}
use Rattle.sdf_level.specs.Invariants.{IsLevel}
use Rattle.sdf_level.specs.declared.node.Node.{Node}
use Rattle.sdf_level.specs.declared.single_rate.Edge.{Edge}
use Rattle.single_rate.specs.declared.wire.Wire.{Wire}
use Rattle.single_rate.specs.Wires.{wires}
use Rattle.sdf_level.specs.Firings.{actors_of}
use Rattle.sdf_level.specs.Orders.{IsTurnOrder}
use Rattle.sdf_level.specs.Repetition.{IsRepetition}
use Rattle.sdf_level.specs.declared.turn.Turn.{Turn}
use Rattle.sdf_level.specs.declared.token_name.TokenName.{TokenName}
use Rattle.single_rate.specs.Expanded.{nodes, edges, edge_of, by_nodes}
use Rattle.single_rate.specs.Flow.{IsFlow}
use Rattle.single_rate.specs.Names.{names}
use Rattle.single_rate.specs.NamedLines.{named}
use Rattle.single_rate.specs.Delivers.{Delivers}
use Rattle.single_rate.specs.Ranks.{AreRanks}
use Rattle.single_rate.specs.Raising.{GoForward, EndsBelow}
use Rattle.single_rate.specs.Laws.{IsGiven, graph}
use Rattle.std.specs.List.{All}
use Rattle.single_rate.specs.Numbers.{HasNumbers}
use Rattle.single_rate.proofs.Places.{all-numbered}
use Rattle.single_rate.proofs.AllNumbered.{edges-in}
use Rattle.single_rate.specs.Sizes.{IsSmall}
use Rattle.single_rate.proofs.Sizes.{wires-some, edges-space, edges-some, edges-fewer}
use Rattle.single_rate.proofs.Ranking.{among-all, among-at, ranks-rise}
use Rattle.single_rate.proofs.FewNodes.{few-turns, few-nodes}
use Rattle.single_rate.proofs.Forward.{go-forward, ends-below, nodes-found}
use Rattle.single_rate.proofs.NamesLengths.{names-lengths}
use Rattle.single_rate.proofs.Law.{one-flow, names-flow, flows-deliver}
use Rattle.single_rate.proofs.Limited.{links-short}
use Rattle.single_rate.proofs.graph.expand.Goals as goal

pub number_edges-requires-clause-few : goal.number_edges-requires-clause-few
number_edges-requires-clause-few c =
    let v = c.args.level.now in
    let known : IsLevel v = let P : LevelView → Type 0 = λ x. IsLevel x in subst P c.level.view_is c.level.invariant in
    let is = c.deref-2.ensures.value ∙ c.in_ok-nodes.ensures ∙ nodes-found v c.args.counts.now c.args.order.now c.deref.result.now (c.deref.ensures.value ∙ c.in_ok-wires.ensures) in
    let l = ap (λ (x : List Node). length x) is in
    let few = few-nodes v c.args.counts.now c.args.order.now known c.requires.order c.requires.limits in
    omega arith

pub number_edges-requires-clause-there : goal.number_edges-requires-clause-there
number_edges-requires-clause-there c =
    let v = c.args.level.now in
    let known : IsLevel v = let P : LevelView → Type 0 = λ x. IsLevel x in subst P c.level.view_is c.level.invariant in
    let is = c.deref-2.ensures.value ∙ c.in_ok-nodes.ensures ∙ nodes-found v c.args.counts.now c.args.order.now c.deref.result.now (c.deref.ensures.value ∙ c.in_ok-wires.ensures) in
    let P : List Node → Type 0 = λ x. All (HasNumbers x) c.deref-3.result.now in
    let Q : List Wire → Type 0 = λ x. All (HasNumbers (nodes v c.args.counts.now c.args.order.now)) x in
    subst P (sym is) (subst Q (sym (c.deref-3.ensures.value ∙ c.in_ok-wires.ensures)) (all-numbered (nodes v c.args.counts.now c.args.order.now) (wires v c.args.counts.now) (edges-in v c.args.counts.now c.args.order.now known c.requires.order)))

pub overflow_cast-len : goal.overflow_cast-len
overflow_cast-len c =
    let v = c.args.level.now in
    let known : IsLevel v = let P : LevelView → Type 0 = λ x. IsLevel x in subst P c.level.view_is c.level.invariant in
    let is = c.in_ok-nodes.ensures ∙ nodes-found v c.args.counts.now c.args.order.now c.deref.result.now (c.deref.ensures.value ∙ c.in_ok-wires.ensures) in
    let l = ap (λ (x : List Node). length x) is in
    let few = few-nodes v c.args.counts.now c.args.order.now known c.requires.order c.requires.limits in
    let n = c.len.ensures in
    omega arith

pub longest-requires : goal.longest-requires
longest-requires c =
    let v = c.args.level.now in
    let known : IsLevel v = let P : LevelView → Type 0 = λ x. IsLevel x in subst P c.level.view_is c.level.invariant in
    let nodes_are = c.in_ok-nodes.ensures ∙ nodes-found v c.args.counts.now c.args.order.now c.deref.result.now (c.deref.ensures.value ∙ c.in_ok-wires.ensures) in
    let two = c.deref-2.ensures.value ∙ nodes_are in
    let three = c.deref-3.ensures.value ∙ c.in_ok-wires.ensures in
    let edges_are : c.deref-4.result.now ≡ map (edge_of (nodes v c.args.counts.now c.args.order.now)) (wires v c.args.counts.now) =
    c.deref-4.ensures.value ∙ c.in_ok-edges.ensures ∙ ap (λ (x : List Node). map (edge_of x) c.deref-3.result.now) two ∙ ap (λ (x : List Wire). map (edge_of (nodes v c.args.counts.now c.args.order.now)) x) three in
    let P : List Edge → Type 0 = λ x. GoForward x 8192 in
    let Q : List Edge → Type 0 = λ x. EndsBelow (length (nodes v c.args.counts.now c.args.order.now)) x in
    let R : ℕ → Type 0 = λ x. EndsBelow x c.deref-4.result.now in
    let n : length (nodes v c.args.counts.now c.args.order.now) ≡ c.len.result = let l = ap (λ (x : List Node). length x) nodes_are in let e = c.len.ensures in omega arith in (
      omega arith,
      (
        subst P (sym edges_are) (go-forward v c.args.counts.now c.args.order.now known c.requires.order 8192 (let f = few-turns v c.args.counts.now c.args.order.now c.requires.order c.requires.limits in omega arith)),
        subst R n (subst Q (sym edges_are) (ends-below v c.args.counts.now c.args.order.now known c.requires.order)),
      ),
    )

pub returns-clause-nodes : goal.returns-clause-nodes
returns-clause-nodes c = c.new.ensures ∙ c.in_ok-nodes.ensures ∙ nodes-found c.args.level.now c.args.counts.now c.args.order.now c.deref.result.now (c.deref.ensures.value ∙ c.in_ok-wires.ensures)

pub returns-clause-edges : goal.returns-clause-edges
returns-clause-edges c =
    let v = c.args.level.now in
    let two = c.deref-2.ensures.value ∙ c.in_ok-nodes.ensures ∙ nodes-found v c.args.counts.now c.args.order.now c.deref.result.now (c.deref.ensures.value ∙ c.in_ok-wires.ensures) in
    let three = c.deref-3.ensures.value ∙ c.in_ok-wires.ensures in
    c.new-2.ensures ∙ c.in_ok-edges.ensures ∙ ap (λ (x : List Node). map (edge_of x) c.deref-3.result.now) two ∙ ap (λ (x : List Wire). map (edge_of (nodes v c.args.counts.now c.args.order.now)) x) three

given_names : (v : LevelView) (q : List ℕ) (turns : List Turn) → IsLevel v → IsRepetition v q → IsTurnOrder v q turns → IsGiven v q turns (names v)
given_names v q turns known repetition order = record { level_kept = known; repetition = repetition; order = order; lengths = names-lengths v known q }

pub returns-clause-named : goal.returns-clause-named
returns-clause-named c =
    let v = c.args.level.now in
    let known : IsLevel v = let P : LevelView → Type 0 = λ x. IsLevel x in subst P c.level.view_is c.level.invariant in
    let is = given_names v c.args.counts.now c.args.order.now known c.requires.repetition c.requires.order in
    let P : List Node → Type 0 = λ x. IsFlow (names v) (by_nodes x c.new-2.result) (named v c.args.counts.now) in
    let Q : List Edge → Type 0 = λ x. IsFlow (names v) (by_nodes (nodes v c.args.counts.now c.args.order.now) x) (named v c.args.counts.now) in
    subst P (sym (returns-clause-nodes c)) (subst Q (sym (returns-clause-edges c)) (names-flow v c.args.counts.now c.args.order.now is (c.repetition_suffices.ensures v c.args.counts.now known c.requires.repetition)))

pub returns-clause-one_flow : goal.returns-clause-one_flow
returns-clause-one_flow c =
    let v = c.args.level.now in
    let known : IsLevel v = let P : LevelView → Type 0 = λ x. IsLevel x in subst P c.level.view_is c.level.invariant in
    let is = given_names v c.args.counts.now c.args.order.now known c.requires.repetition c.requires.order in
    let suffices = c.repetition_suffices.ensures v c.args.counts.now known c.requires.repetition in
    let D : List Wire → Type 0 = λ w. (on : List (List TokenName)) → IsFlow (names v) w on → on ≡ named v c.args.counts.now in
    let P : List Node → Type 0 = λ x. D (by_nodes x c.new-2.result) in
    let Q : List Edge → Type 0 = λ x. D (by_nodes (nodes v c.args.counts.now c.args.order.now) x) in
    let one = one-flow v c.args.counts.now c.args.order.now (names v) is suffices in
    let all : D (graph v c.args.counts.now c.args.order.now) = λ on flow. one.only on flow ∙ sym (one.only (named v c.args.counts.now) (names-flow v c.args.counts.now c.args.order.now is suffices)) in
    subst P (sym (returns-clause-nodes c)) (subst Q (sym (returns-clause-edges c)) all)

pub returns-clause-delivers : goal.returns-clause-delivers
returns-clause-delivers c =
    let v = c.args.level.now in
    let known : IsLevel v = let P : LevelView → Type 0 = λ x. IsLevel x in subst P c.level.view_is c.level.invariant in
    let is = given_names v c.args.counts.now c.args.order.now known c.requires.repetition c.requires.order in
    let suffices = c.repetition_suffices.ensures v c.args.counts.now known c.requires.repetition in
    let D : List Wire → Type 0 = λ w. Delivers v c.args.counts.now (names v) w (named v c.args.counts.now) (actors_of c.args.order.now) in
    let P : List Node → Type 0 = λ x. D (by_nodes x c.new-2.result) in
    let Q : List Edge → Type 0 = λ x. D (by_nodes (nodes v c.args.counts.now c.args.order.now) x) in
    let all : D (graph v c.args.counts.now c.args.order.now) = flows-deliver v c.args.counts.now c.args.order.now (names v) is suffices (named v c.args.counts.now) (names-flow v c.args.counts.now c.args.order.now is suffices) (actors_of c.args.order.now) c.requires.order.order.admissible in
    subst P (sym (returns-clause-nodes c)) (subst Q (sym (returns-clause-edges c)) all)

pub expand_links-requires : goal.expand_links-requires
expand_links-requires c =
    let v = c.args.level.now in
    let known : IsLevel v = let P : LevelView → Type 0 = λ x. IsLevel x in subst P c.level.view_is c.level.invariant in
    links-short v c.args.counts.now known c.requires.repetition.multiplied.one_each (c.repetition_suffices.ensures v c.args.counts.now known c.requires.repetition) c.requires.limits

pub returns-clause-ends : goal.returns-clause-ends
returns-clause-ends c = λ i d inside.
    let v = c.args.level.now in
    let known : IsLevel v = let P : LevelView → Type 0 = λ x. IsLevel x in subst P c.level.view_is c.level.invariant in
    let P : List Node → Type 0 = λ x. EndsBelow (length x) c.new-2.result in
    let Q : List Edge → Type 0 = λ x. EndsBelow (length (nodes v c.args.counts.now c.args.order.now)) x in
    let below : P c.new.result = subst P (sym (returns-clause-nodes c)) (subst Q (sym (returns-clause-edges c)) (ends-below v c.args.counts.now c.args.order.now known c.requires.order)) in
    among-all (λ e. (e.tail < length c.new.result) × (e.head < length c.new.result)) c.new-2.result (slice_index_or c.new-2.result i d) below (among-at c.new-2.result i d inside)

pub returns-clause-rising : goal.returns-clause-rising
returns-clause-rising c =
    let v = c.args.level.now in
    let known : IsLevel v = let P : LevelView → Type 0 = λ x. IsLevel x in subst P c.level.view_is c.level.invariant in
    let nodes_are = c.in_ok-nodes.ensures ∙ nodes-found v c.args.counts.now c.args.order.now c.deref.result.now (c.deref.ensures.value ∙ c.in_ok-wires.ensures) in
    let count : length (nodes v c.args.counts.now c.args.order.now) ≡ c.len.result = let l = ap (λ (x : List Node). length x) nodes_are in let e = c.len.ensures in omega arith in
    let P : ℕ → Type 0 = λ x. EndsBelow x c.new-2.result in
    let Q : List Edge → Type 0 = λ x. EndsBelow (length (nodes v c.args.counts.now c.args.order.now)) x in
    let below : P c.len.result = subst P count (subst Q (sym (returns-clause-edges c)) (ends-below v c.args.counts.now c.args.order.now known c.requires.order)) in
    let R : List Edge → Type 0 = λ x. AreRanks c.len.result x c.new-3.result in
    let S : List ℕ → Type 0 = λ x. AreRanks c.len.result c.deref-4.result.now x in
    ranks-rise c.new-2.result c.len.result c.new-3.result below (subst R (c.deref-4.ensures.value ∙ sym c.new-2.ensures) (subst S (sym c.new-3.ensures) c.in_ok-ranks.ensures))

pub returns-clause-small : goal.returns-clause-small
returns-clause-small c =
    let v = c.args.level.now in
    let known : IsLevel v = let P : LevelView → Type 0 = λ x. IsLevel x in subst P c.level.view_is c.level.invariant in
    let suffices = c.repetition_suffices.ensures v c.args.counts.now known c.requires.repetition in
    let some = wires-some v c.args.counts.now 0 v.links suffices.balanced suffices.reaches c.requires.repetition.agree in
    let limits = c.requires.limits.tokens in
    let all : List Node = nodes v c.args.counts.now c.args.order.now in
    let e = edges-space all (wires v c.args.counts.now) in
    let f = edges-fewer all (wires v c.args.counts.now) some.0 in
    let few = few-nodes v c.args.counts.now c.args.order.now known c.requires.order c.requires.limits in
    let is : IsSmall all (edges v c.args.counts.now c.args.order.now) = record { few_nodes = omega arith; few_edges = omega arith; sizes = edges-some all (wires v c.args.counts.now) some.0; tokens = omega arith } in
    let P : List Node → Type 0 = λ x. IsSmall x c.new-2.result in
    let Q : List Edge → Type 0 = λ x. IsSmall all x in
    subst P (sym (returns-clause-nodes c)) (subst Q (sym (returns-clause-edges c)) is)
