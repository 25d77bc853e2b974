use Rattle.std.proofs.Common.{◌≡◌, ℕ, ◌<◌, length, slice_index}
use Rattle.std.specs.Prelude.{slice_index_or}
use Rattle.sdf_level.specs.declared.node.Node.TheVariants as node
use Rattle.job_compiler.specs.Ends.{out_count}
use Rattle.job_compiler.proofs.ends.counts_out.Given as goal

abbrev pub invariant-loop-n : goal.invariant-loop-n
invariant-loop-n l = record {
  long : length l.counts.items ≡ l.n;
  each : (m : ℕ) → m < l.n → slice_index l.counts.items m ≡ out_count l.links (slice_index_or l.nodes m (node.Source 0)) (slice_index l.edges m);
}
