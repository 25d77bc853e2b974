-- The parts of a compilation, from what the calls that make them say.
use Rattle.std.proofs.Common.{◌≡◌, List, length, ◌∙◌, Result, Ok, Err, IfOk}
use Rattle.std.proofs.lemmas.List.{length-map}
use Rattle.sdf_level.specs.declared.single_rate.Edge.{Edge}
use Rattle.memory_exclusion.specs.Paths.{Excludes}
use Rattle.placement_checker.specs.Placed.{Valid, Tight}
use Rattle.placement.specs.declared.placing.Placement.{Placement}
use Rattle.worker_mapping.specs.Costs.{pairs_of}
use Rattle.job_compiler.specs.Compilation.{sizes_of, IsPlaced}
use Rattle.job_compiler.proofs.SoundEdges.{size_of}

pub placed : {E : Type 0} (edges : List Edge) (r : Result Placement E) →
    IfOk r (λ p. length p.offsets ≡ length (sizes_of edges)) →
    IfOk r (λ p. Valid (sizes_of edges) (Excludes (pairs_of edges)) p.offsets p.height) →
    IfOk r (λ p. Tight (sizes_of edges) (Excludes (pairs_of edges)) p.offsets p.height) →
    IfOk r (IsPlaced edges)
placed edges (Ok p) long valid tight = record { one_each = long ∙ length-map edges size_of; valid = valid; tight = tight }
placed edges (Err e) long valid tight = tt
