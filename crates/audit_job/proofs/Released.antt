-- What nodes wait for once another has given something.
use Rattle.std.proofs.Common.{◌≡◌, ℕ, ◌+◌, ◌<◌, ◌==◌, Bool, true, false, List, get_or, length, Option, Some, refl, sym, ap, ◌∙◌, subst, arith}
use Rattle.std.specs.Prelude.{All, Vec, filter, slice_index}
use Rattle.std.specs.Global.{Global}
use Rattle.std.specs.Arc.{arc_value}
use Rattle.sdf_level.specs.declared.single_rate.Edge.{Edge}
use Rattle.audit_job.specs.Marking.{Releases}
use Rattle.audit_job.specs.Rows.{HasRows, end_of}
use Rattle.audit_job.specs.declared.rows.Side.TheVariants.{Tail}
use Rattle.audit_job.proofs.EdgeRows.{row_has, row_is}
use Rattle.audit_job.proofs.EdgesByNode.{same_between}
use Rattle.audit_job.specs.Waiting.{between}
use Rattle.audit_job.specs.declared.job.Nodes.{Nodes}

module _ (gives : Bool) (node : ℕ) (old : Option Nodes) (nodes : Nodes) (is : old ≡ Some nodes) where
  so : (b : Bool) → gives ≡ b → (new : Option Nodes) → Releases b node (Some nodes) new → Releases gives node old new
  so b e new released = subst (λ (o : Option Nodes). Releases gives node o new) (sym is) (subst (λ (x : Bool). Releases x node (Some nodes) new) (sym e) released)

  pub released : gives ≡ true → (waits : Vec ℕ Global) (row : List Edge) → ((n : ℕ) → between row node n ≡ between (arc_value nodes.compiled).graph.edges node n) → (had : List ℕ) → had ≡ nodes.waits.items → length waits.items ≡ length had →
      ((n : ℕ) → n < length had → slice_index waits.items n + between row node n ≡ slice_index had n) → Releases gives node old (Some (record nodes { waits = waits }))
  released given waits row same had had_is many each = so true given (Some (record nodes { waits = waits })) (
    waits,
    record {
      many = many ∙ ap length had_is;
      each = λ n inside.
          let within : n < length had = subst (λ (l : List ℕ). n < length l) (sym had_is) inside in
          (λ i. slice_index waits.items n + sym (same n) i) ∙ each n within ∙ ap (λ (l : List ℕ). slice_index l n) had_is;
    },
    refl,
  )

  pub kept : gives ≡ false → Releases gives node old (Some nodes)
  kept none = so false none (Some nodes) (
    nodes.waits,
    record { many = refl; each = λ n inside. let e : slice_index nodes.waits.items n + 0 ≡ slice_index nodes.waits.items n = omega arith in e },
    refl,
  )

-- ---- the edges out of the node alone

module _ (node : ℕ) (nodes : Nodes) (rows : HasRows nodes) (inside : node < length (arc_value nodes.compiled).graph.nodes) (out : Vec Edge Global) (at : out ≡ get_or nodes.out_of.items node out) (row : List Edge) (is : row ≡ out.items) where
  row_out : row ≡ filter (λ (e : Edge). end_of Tail e == node) (arc_value nodes.compiled).graph.edges
  row_out = is ∙ row_is Tail (length (arc_value nodes.compiled).graph.nodes) (arc_value nodes.compiled).graph.edges nodes.out_of.items rows.out_of node inside out at

  pub row_between : (n : ℕ) → between row node n ≡ between (arc_value nodes.compiled).graph.edges node n
  row_between n = ap (λ (l : List Edge). between l node n) row_out ∙ same_between node (arc_value nodes.compiled).graph.edges n

  pub row_heads : (k : ℕ) → All (λ (e : Edge). e.head < k) (arc_value nodes.compiled).graph.edges → All (λ (e : Edge). e.head < k) row
  row_heads k all = row_has Tail (length (arc_value nodes.compiled).graph.nodes) (arc_value nodes.compiled).graph.edges nodes.out_of.items rows.out_of node inside (λ (e : Edge). e.head < k) row row_out all
