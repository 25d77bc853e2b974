use Rattle.std.proofs.Common.{◌≡◌, ◌∙◌, ap, arith}
use Rattle.worker_mapping.specs.Costs.{pairs_of}
use Rattle.job_compiler.specs.Compilation.{sizes_of}
use Rattle.job_compiler.proofs.SoundEdges.{pair_ends, pairs_rise, sizes_filled, sum_within}
use Rattle.job_compiler.proofs.SoundParts.{placed}
use Rattle.job_compiler.proofs.parts.place_buffers.Goals as goal

pub reach-requires-clause-ends : goal.reach-requires-clause-ends
reach-requires-clause-ends c = rw (c.requires.pairs, c.items.ensures) (pair_ends c.args.graph.now c.requires.sound)

pub reach-requires-clause-rising : goal.reach-requires-clause-rising
reach-requires-clause-rising c = rw (c.requires.pairs, c.items-3.ensures) (pairs_rise c.args.graph.now c.requires.sound)

pub place-requires-clause-filled : goal.place-requires-clause-filled
place-requires-clause-filled c = rw (c.deref.ensures.value, c.in_ok-sizes.ensures, c.items-2.ensures) (sizes_filled c.args.graph.now c.requires.sound)

pub place-requires-clause-sum : goal.place-requires-clause-sum
place-requires-clause-sum c =
    rw (c.deref.ensures.value, c.in_ok-sizes.ensures, c.items-2.ensures) (let within = sum_within c.args.graph.now c.requires.sound in omega arith)

pub returns : goal.returns
returns c =
    let sizes : c.deref.result.now ≡ sizes_of c.args.graph.now.edges = c.deref.ensures.value ∙ c.in_ok-sizes.ensures ∙ ap sizes_of c.items-2.ensures in
    let apart : c.in_ok-exclusion.exclusion ≡ pairs_of c.args.graph.now.edges = c.in_ok-exclusion.ensures ∙ c.requires.pairs in
    placed c.args.graph.now.edges c.place.result (rw sizes at c.place.ensures.long) (rw (sizes, apart) at c.place.ensures.valid) (rw (sizes, apart) at c.place.ensures.tight)
