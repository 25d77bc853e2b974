-- A job that is quiet, and one that is given up.
use Rattle.std.proofs.Common.{◌≡◌, ℕ, ℤ, ◌<◌, ⊎_elim, List, [], ◌∷◌, length, refl, sym, subst}
use Rattle.std.specs.Prelude.{◌≢◌}
use Rattle.std.proofs.lemmas.List.Elements.{recursion_from_All, All-from_get_or}
use Rattle.sdf_level.specs.declared.single_rate.Edge.{Edge}
use Rattle.split_block.specs.Places.{Place}
use Rattle.cell_pool.specs.View.{PoolView}
use Rattle.single_rate.specs.Expanded.{place_of}
use Rattle.single_rate.specs.Tiers.{NodesStandOnce}
use Rattle.job_compiler.specs.Compilation.{Compilation, IsCompiled}
use Rattle.job_flow.specs.Graphs.{node_at}
use Rattle.job_flow.specs.Events.{IsDone, IsReady, IsFinished, IsQuiet}
use Rattle.one_job.specs.Marks.{Mark, Free, Claimed, Finished, Failed, mark_at, Phase, IsFree, IsClaimed, phase, phase_of, values, value_of}
use Rattle.one_job.specs.Marks as marked
use Rattle.one_job.specs.Places.{no_edge, edge_at}
use Rattle.one_job.specs.Live.{IsLent, AreOut}
use Rattle.one_job.specs.View.{JobView, graph_of}
use Rattle.one_job.specs.Invariants.{Parts, Keeps}
use Rattle.one_job.proofs.Phases.{inside_of, claimed_not_free}
use Rattle.one_job.proofs.Outs.{has_first}

-- where no node is claimed, nothing is out
pub none_out : (place : ℕ → Place) (count : ℕ) (edges : List Edge) (marks : List Mark) (out : List Place) → AreOut place count (IsLent edges marks) out → ((n : ℕ) → phase marks n ≢ IsClaimed) → out ≡ []
none_out place count edges marks [] are none = refl
none_out place count edges marks (p ∷ out) are none =
    let found = are.only p (has_first p out) in
    absurd (⊎_elim
    (λ (t : phase marks (edge_at edges found.0).tail ≡ IsClaimed). none (edge_at edges found.0).tail t)
    (λ (h : phase marks (edge_at edges found.0).head ≡ IsClaimed). none (edge_at edges found.0).head h)
    found.2)

pub phase_done : (m : Mark) → phase_of m ≡ marked.IsFinished → IsDone (value_of m)
phase_done Free is = absurd (cc)
phase_done (Claimed places) is = absurd (cc)
phase_done (Finished outs) is = tt
phase_done (Failed code) is = absurd (cc)

claimed_unfinished : (m : Mark) → phase_of m ≡ IsClaimed → IsFinished (value_of m) → ⊥
claimed_unfinished Free is done = done
claimed_unfinished (Claimed places) is done = done
claimed_unfinished (Finished outs) is done = absurd (cc)
claimed_unfinished (Failed code) is done = absurd (cc)

-- a node that isn't free was ready
pub ready_of : (j : JobView) (p : Parts) (pool : PoolView) (outs left : List (List ℤ)) → Keeps j p pool outs left → (n : ℕ) → phase j.marks n ≢ IsFree → IsReady (graph_of j) (values j.marks) n
ready_of j p pool outs left keeps n claimed = record {
  there = subst (λ k. n < k) keeps.one_each (inside_of j.marks n claimed);
  before = recursion_from_All (λ (e : Edge). e.head ≡ n → IsDone (values j.marks e.tail)) j.compilation.graph.edges
      (All-from_get_or (λ (e : Edge). e.head ≡ n → IsDone (values j.marks e.tail)) j.compilation.graph.edges no_edge (λ e inside here.
      phase_done (mark_at j.marks (edge_at j.compilation.graph.edges e).tail) (keeps.order e inside (subst (λ v. phase j.marks v ≢ IsFree) (sym here) claimed))));
}

-- in a quiet job no node is claimed
pub quiet_none : (j : JobView) (p : Parts) (pool : PoolView) (outs left : List (List ℤ)) → Keeps j p pool outs left → IsQuiet (graph_of j) (values j.marks) → (n : ℕ) → phase j.marks n ≢ IsClaimed
quiet_none j p pool outs left keeps quiet n claimed =
    claimed_unfinished (mark_at j.marks n) claimed (quiet n (ready_of j p pool outs left keeps n (claimed_not_free (phase j.marks n) claimed)))

-- a node stands once in the list of nodes
pub once_of : NodesStandOnce → (c : Compilation) → IsCompiled c → (n : ℕ) → n < length c.graph.nodes → place_of c.graph.nodes (node_at c.graph.nodes n) ≡ n
once_of once c is n inside =
    subst (λ list. place_of list (node_at list n) ≡ n) (sym is.expanded.nodes_are)
    (once c.level c.counts c.order n is.order_is (subst (λ list. n < length list) is.expanded.nodes_are inside))
