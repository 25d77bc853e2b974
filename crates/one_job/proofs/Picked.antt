-- What is in, of a job: the nodes that may be claimed, by home and sort.
use Rattle.std.proofs.Common.{ℕ, ◌<◌, Bool, List, length, slice_index, sym, ap, subst, arith}
use Rattle.ready_heap.specs.Heaps.{Holds}
use Rattle.job_compiler.specs.Compilation.{IsCompiled}
use Rattle.one_job.specs.View.{JobView}
use Rattle.one_job.specs.Pick.{IsOffered}
use Rattle.one_job.specs.Ready.{side, AreRanked, KeepsReady}
use Rattle.one_job.specs.declared.ready.ReadyNodes.{ReadyNodes}

module _ (j : JobView) (waiting : List ℕ) (claimed : ℕ) (ready : ReadyNodes) (keeps : KeepsReady j waiting claimed ready) (child : Bool) where
  pub in_offered : (n : ℕ) → Holds (side ready child).held n → IsOffered j child n
  in_offered n holds =
      let sort = keeps.sorted child n holds in
      record {
        enabled = (keeps.exact n).0 (subst (λ b. Holds (side ready b).held n) (sym sort) holds);
        sort = sort;
      }

  pub offered_in : (n : ℕ) → IsOffered j child n → Holds (side ready child).held n
  offered_in n offered = subst (λ b. Holds (side ready b).held n) offered.sort ((keeps.exact n).1 offered.enabled)

  pub ranked : IsCompiled j.compilation → AreRanked j.compilation.mapping (side ready child)
  ranked compiled = λ n holds.
      let by = keeps.ranked child in
      let inside : n < length j.compilation.graph.nodes = (in_offered n holds).enabled.ready.there in
      let few = compiled.expanded.sound.small.few_nodes in
      let homes = compiled.mapped.homes.one_each in
      let priorities = compiled.mapped.priority.one_each in
      let groups = ap length by.groups in
      record {
        narrow = omega arith;
        group = ap (λ g. slice_index g n) by.groups;
        key = by.keys.each n (omega arith);
      }
