use Rattle.std.proofs.Common.{rules, ◌<◌, length, sym, ◌∙◌}
use Rattle.std.proofs.lemmas.List.{get_or_default}
use Rattle.graph_firing.specs.declared.nodes.frames.Held.TheVariants.{Nothing}
use Rattle.graph_firing.proofs.OfNodes.HeldFrames.{in_none}
use Rattle.graph_firing.proofs.nodes.frames.take_refusal.Goals as goal

pub told_refusal-refusal-requires : goal.told_refusal-refusal-requires
told_refusal-refusal-requires c =
    let below : c.args.node < length c.args.all.items = search rules in
    in_none c.replace.result (λ frame is. c.requires c.args.node frame (sym (c.replace.ensures.value ∙ c.index_mut.ensures.value ∙ get_or_default c.args.all.items c.args.node c.index_mut.result.now Nothing below) ∙ is))
