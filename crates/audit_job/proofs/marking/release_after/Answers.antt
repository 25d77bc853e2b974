use Rattle.std.proofs.Common.{ℕ, ◌+◌, ◌<◌, ◌≤◌, Bool, List, length, sym, ap, ◌∙◌, subst, arith}
use Rattle.std.specs.Prelude.{All, Option, slice_index}
use Rattle.std.specs.Arc.{arc_value}
use Rattle.std.specs.Vec.{with_items}
use Rattle.std.proofs.lemmas.List.{with_items_is}
use Rattle.sdf_level.specs.declared.single_rate.Edge.{Edge}
use Rattle.audit_job.specs.Candidates.{IsReleased, waits_in}
use Rattle.audit_job.specs.Marking.{CanRelease, MayRelease}
use Rattle.audit_job.specs.Waiting.{between, less_by}
use Rattle.audit_job.specs.declared.job.Nodes.{Nodes}
use Rattle.audit_job.proofs.ItemLists.{none_added}
use Rattle.audit_job.proofs.Released.{kept, released, row_between, row_heads}
use Rattle.audit_job.proofs.marking.release_after.Goals as goal

pub release-requires-clause-there : goal.release-requires-clause-there
release-requires-clause-there c =
    let nodes = c.in-Some.nodes in
    let can : CanRelease c.args.gives c.args.node nodes = subst (λ (o : Option Nodes). MayRelease c.args.gives c.args.node o) c.in-Some.is c.requires.may in
    subst (λ (l : List ℕ). All (λ (e : Edge). e.head < length l) c.deref.result.now) (sym c.deref_mut.ensures.value)
    (row_heads c.args.node nodes can.rows can.inside c.index.result.now c.index.ensures c.deref.result.now c.deref.ensures.value (length nodes.waits.items) can.ends)

pub release-requires-clause-enough : goal.release-requires-clause-enough
release-requires-clause-enough c = λ n below.
    let nodes = c.in-Some.nodes in
    let can : CanRelease c.args.gives c.args.node nodes = subst (λ (o : Option Nodes). MayRelease c.args.gives c.args.node o) c.in-Some.is c.requires.may in
    let edges = (arc_value nodes.compiled).graph.edges in
    let same = row_between c.args.node nodes can.rows can.inside c.index.result.now c.index.ensures c.deref.result.now c.deref.ensures.value n in
    let within : n < length nodes.waits.items = subst (λ (l : List ℕ). n < length l) c.deref_mut.ensures.value below in
    let more : between edges c.args.node n ≤ slice_index nodes.waits.items n = subst (λ (b : Bool). less_by b edges c.args.node n ≤ slice_index nodes.waits.items n) c.if-gives.true (can.enough n within) in
    subst (λ (l : List ℕ). between c.deref.result.now c.args.node n ≤ slice_index l n) (sym c.deref_mut.ensures.value) (omega arith)

pub returns-then-gives-clause-released : goal.returns-then-gives-clause-released
returns-then-gives-clause-released c =
    let nodes = c.in-Some.nodes in
    let can : CanRelease c.args.gives c.args.node nodes = subst (λ (o : Option Nodes). MayRelease c.args.gives c.args.node o) c.in-Some.is c.requires.may in
    let waits = nodes.waits in
    let is = with_items_is waits c.release.new.waits (c.release.auto.waits ∙ (ap length c.deref_mut.ensures.value ∙ sym waits.ok.0)) in
    released c.args.gives c.args.node c.args.nodes.now nodes c.in-Some.is c.if-gives.true (with_items waits c.release.new.waits) c.deref.result.now
    (row_between c.args.node nodes can.rows can.inside c.index.result.now c.index.ensures c.deref.result.now c.deref.ensures.value)
    c.deref_mut.result.now c.deref_mut.ensures.value
    (ap (λ (l : List ℕ). length l) is ∙ c.release.auto.waits)
    (λ n inside. ap (λ (l : List ℕ). slice_index l n + between c.deref.result.now c.args.node n) is ∙ c.release.ensures.fewer n inside)

pub returns-else-gives-clause-released : goal.returns-else-gives-clause-released
returns-else-gives-clause-released c = kept c.args.gives c.args.node c.args.nodes.now c.in-Some.nodes c.in-Some.is c.if-gives.false

pub returns-else-gives-clause-added : goal.returns-else-gives-clause-added
returns-else-gives-clause-added c =
    none_added c.args.first (length (waits_in c.args.nodes.now)) (IsReleased (waits_in c.args.nodes.now) c.in-Some.nodes.waits.items) c.args.candidates.now (λ n below is.
    let some = is.0 in
    let none = is.1 in
    let same = ap (λ (o : Option Nodes). slice_index (waits_in o) n) c.in-Some.is in
    absurd (omega arith))

pub returns-in-None-clause-added : goal.returns-in-None-clause-added
returns-in-None-clause-added c =
    none_added c.args.first (length (waits_in c.args.nodes.now)) _ c.args.candidates.now (λ n below is.
    let none = ap (λ (o : Option Nodes). length (waits_in o)) c.in-None.is in
    absurd (omega arith))
