use Rattle.std.proofs.Common.{◌≡◌, ℕ, ◌<◌, ◌≤◌, List, length, slice_index, arith, ap, sym, ◌∙◌}
use Rattle.std.proofs.lemmas.List.{length-map}
use Rattle.std.proofs.lemmas.List.Elements.{All-map}
use Rattle.std.proofs.lemmas.List.Sums.{sum-map}
use Rattle.sdf_level.specs.declared.single_rate.Edge.{Edge}
use Rattle.worker_mapping.specs.Costs.{pairs_of}
use Rattle.worker_mapping.specs.Graph.{AreThere}
use Rattle.order_memory.specs.Line.{IsLine}
use Rattle.order_memory.specs.Orders.{AreOrdersOf, after_of, sizes_of}
use Rattle.order_memory.proofs.LiveBuffers.{live_apart}
use Rattle.order_memory.proofs.OneLine.{same_orders}
use Rattle.order_memory.proofs.Rising.{after_there, after_rises, length-after_of}
use Rattle.order_memory.proofs.Standing.{stand_once, all_there}
use Rattle.order_memory.proofs.WholeRuns.{whole_run}
use Rattle.order_memory.proofs.ordering.ordered.Goals as goal

abbrev pair : Edge → ℕ × ℕ
pair e = (e.tail, e.head)

abbrev size : Edge → ℕ
size e = e.size

pub line_of-requires-clause-edges : goal.line_of-requires-clause-edges
line_of-requires-clause-edges c =
    let nodes = length c.args.graph.now.nodes in
    rw (c.deref.ensures.value, c.in_ok-edges.ensures, c.items-2.ensures, c.items.ensures) (All-map (λ (e : ℕ × ℕ). (e.0 < nodes) × (e.1 < nodes)) pair c.args.graph.now.edges c.requires.ends)

pub line_of-requires-clause-acyclic : goal.line_of-requires-clause-acyclic
line_of-requires-clause-acyclic c =
    let ranks = c.args.graph.now.ranks in
    (ranks, rw (c.deref.ensures.value, c.in_ok-edges.ensures, c.items-2.ensures) (All-map (λ (e : ℕ × ℕ). slice_index ranks e.0 < slice_index ranks e.1) pair c.args.graph.now.edges c.requires.rising))

pub places_of-requires-clause-there : goal.places_of-requires-clause-there
places_of-requires-clause-there c = rw c.deref-5.ensures.value (all_there _ _ _ c.in_ok-line.ensures.line.each)

pub places_of-requires-clause-once : goal.places_of-requires-clause-once
places_of-requires-clause-once c = rw c.deref-5.ensures.value (stand_once _ _ _ c.in_ok-line.ensures.line.each)

pub reach-requires-clause-few : goal.reach-requires-clause-few
reach-requires-clause-few c =
    let few = length-after_of c.deref-3.result.now c.deref-4.result.now in
    let edges : length c.deref-3.result.now ≡ length c.args.graph.now.edges = ap length (c.deref-3.ensures.value ∙ c.in_ok-edges.ensures ∙ ap pairs_of c.items-2.ensures) ∙ length-map c.args.graph.now.edges pair in
    let whole = rw (← c.deref-4.ensures.value) at c.in_ok-orders.ensures.whole in
    let line = ap length c.deref-2.ensures.value in
    let long = c.in_ok-line.ensures.long in
    let nodes = ap length c.items.ensures in
    let room = c.requires.few in
    rw (c.deref-6.ensures.value, c.in_ok-after.ensures) (omega arith)

pub reach-requires-clause-ends : goal.reach-requires-clause-ends
reach-requires-clause-ends c =
    let nodes = length c.items.result.now in
    let edges = c.in_ok-edges.edges.items in
    let line = c.in_ok-line.line.items in
    let is_line : IsLine nodes edges line = rw c.deref.ensures.value at c.in_ok-line.ensures.line in
    let places : (i : ℕ) → i < length line → slice_index c.in_ok-places.places.items (slice_index line i) ≡ i = rw c.deref-5.ensures.value at c.in_ok-places.ensures.each in
    let of_line : AreOrdersOf c.args.mapping.now.home c.args.workers line c.in_ok-orders.orders.items = rw (c.items-3.ensures, c.deref-2.ensures.value) at c.in_ok-orders.ensures.orders in
    let there : AreThere nodes edges = rw (c.in_ok-edges.ensures, c.items-2.ensures, c.items.ensures) (All-map (λ (e : ℕ × ℕ). (e.0 < length c.args.graph.now.nodes) × (e.1 < length c.args.graph.now.nodes)) pair c.args.graph.now.edges c.requires.ends) in
    rw (c.deref-6.ensures.value, c.in_ok-after.ensures, c.deref-3.ensures.value, c.deref-4.ensures.value) (after_there nodes c.in_ok-places.places.items edges line is_line places c.args.mapping.now.home c.args.workers c.in_ok-orders.orders.items of_line there)

pub reach-requires-clause-rising : goal.reach-requires-clause-rising
reach-requires-clause-rising c =
    let nodes = length c.items.result.now in
    let edges = c.in_ok-edges.edges.items in
    let line = c.in_ok-line.line.items in
    let is_line : IsLine nodes edges line = rw c.deref.ensures.value at c.in_ok-line.ensures.line in
    let places : (i : ℕ) → i < length line → slice_index c.in_ok-places.places.items (slice_index line i) ≡ i = rw c.deref-5.ensures.value at c.in_ok-places.ensures.each in
    let of_line : AreOrdersOf c.args.mapping.now.home c.args.workers line c.in_ok-orders.orders.items = rw (c.items-3.ensures, c.deref-2.ensures.value) at c.in_ok-orders.ensures.orders in
    let there : AreThere nodes edges = rw (c.in_ok-edges.ensures, c.items-2.ensures, c.items.ensures) (All-map (λ (e : ℕ × ℕ). (e.0 < length c.args.graph.now.nodes) × (e.1 < length c.args.graph.now.nodes)) pair c.args.graph.now.edges c.requires.ends) in
    rw (c.deref-6.ensures.value, c.in_ok-after.ensures, c.deref-3.ensures.value, c.deref-4.ensures.value, c.deref-7.ensures.value) (after_rises nodes c.in_ok-places.places.items edges line is_line places c.args.mapping.now.home c.args.workers c.in_ok-orders.orders.items of_line there)

pub place-requires-clause-filled : goal.place-requires-clause-filled
place-requires-clause-filled c = rw (c.deref-8.ensures.value, c.in_ok-sizes.ensures, c.items-4.ensures) (All-map (λ (s : ℕ). 1 ≤ s) size c.args.graph.now.edges c.requires.filled)

pub place-requires-clause-sum : goal.place-requires-clause-sum
place-requires-clause-sum c =
    rw (c.deref-8.ensures.value, c.in_ok-sizes.ensures, c.items-4.ensures) (let whole = sum-map size c.args.graph.now.edges in let fits = c.requires.sum in omega arith)

pub returns-clause-only_orders : goal.returns-clause-only_orders
returns-clause-only_orders c = λ other is.
    let nodes = length c.args.graph.now.nodes in
    let edges = pairs_of c.args.graph.now.edges in
    let line = c.in_ok-line.line.items in
    let is_line : IsLine nodes edges line = rw (c.deref.ensures.value, c.in_ok-edges.ensures, c.items-2.ensures, c.items.ensures) at c.in_ok-line.ensures.line in
    let of_line : AreOrdersOf c.args.mapping.now.home c.args.workers line c.in_ok-orders.orders.items = rw (c.items-3.ensures, c.deref-2.ensures.value) at c.in_ok-orders.ensures.orders in
    rw c.new.ensures (same_orders nodes edges c.args.mapping.now.home c.args.workers c.in_ok-orders.orders.items other (record { line = line; is_line = is_line; of_line = of_line }) is)

pub returns-clause-tight : goal.returns-clause-tight
returns-clause-tight c =
    let edges = pairs_of c.args.graph.now.edges in
    let sizes : c.deref-8.result.now ≡ sizes_of c.args.graph.now.edges = c.deref-8.ensures.value ∙ c.in_ok-sizes.ensures ∙ ap sizes_of c.items-4.ensures in
    let pairs : c.deref-3.result.now ≡ edges = c.deref-3.ensures.value ∙ c.in_ok-edges.ensures ∙ ap pairs_of c.items-2.ensures in
    let after : c.in_ok-exclusion.exclusion ≡ after_of edges c.new.result = c.in_ok-exclusion.ensures ∙ c.deref-6.ensures.value ∙ c.in_ok-after.ensures ∙ ap (λ (es : List (ℕ × ℕ)). after_of es c.deref-4.result.now) pairs ∙ ap (after_of edges) (c.deref-4.ensures.value ∙ sym c.new.ensures) in
    rw (sizes, after) at c.in_ok-placement.ensures.tight

pub returns-clause-apart : goal.returns-clause-apart
returns-clause-apart c = λ run ordered.
    let edges = pairs_of c.args.graph.now.edges in
    let sizes : c.deref-8.result.now ≡ sizes_of c.args.graph.now.edges = c.deref-8.ensures.value ∙ c.in_ok-sizes.ensures ∙ ap sizes_of c.items-4.ensures in
    let pairs : c.deref-3.result.now ≡ edges = c.deref-3.ensures.value ∙ c.in_ok-edges.ensures ∙ ap pairs_of c.items-2.ensures in
    let after : c.in_ok-exclusion.exclusion ≡ after_of edges c.new.result = c.in_ok-exclusion.ensures ∙ c.deref-6.ensures.value ∙ c.in_ok-after.ensures ∙ ap (λ (es : List (ℕ × ℕ)). after_of es c.deref-4.result.now) pairs ∙ ap (after_of edges) (c.deref-4.ensures.value ∙ sym c.new.ensures) in
    let long : length (sizes_of c.args.graph.now.edges) ≡ length edges = length-map c.args.graph.now.edges size ∙ sym (length-map c.args.graph.now.edges pair) in
    live_apart edges c.new.result run ordered (sizes_of c.args.graph.now.edges) c.in_ok-placement.placement.offsets c.in_ok-placement.placement.height long (rw (sizes, after) at c.in_ok-placement.ensures.valid)

pub returns-clause-possible : goal.returns-clause-possible
returns-clause-possible c =
    let nodes = length c.args.graph.now.nodes in
    let edges = pairs_of c.args.graph.now.edges in
    let line = c.in_ok-line.line.items in
    let is_line : IsLine nodes edges line = rw (c.deref.ensures.value, c.in_ok-edges.ensures, c.items-2.ensures, c.items.ensures) at c.in_ok-line.ensures.line in
    let places : (i : ℕ) → i < length line → slice_index c.in_ok-places.places.items (slice_index line i) ≡ i = rw c.deref-5.ensures.value at c.in_ok-places.ensures.each in
    let of_line : AreOrdersOf c.args.mapping.now.home c.args.workers line c.in_ok-orders.orders.items = rw (c.items-3.ensures, c.deref-2.ensures.value) at c.in_ok-orders.ensures.orders in
    rw c.new.ensures (whole_run nodes c.in_ok-places.places.items edges line is_line places c.args.mapping.now.home c.args.workers c.in_ok-orders.orders.items of_line)
