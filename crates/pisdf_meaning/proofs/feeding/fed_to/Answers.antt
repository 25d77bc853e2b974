use Rattle.std.proofs.Common.{◌≡◌, ◌++◌, ◌∷◌, [], ap, ◌∙◌}
use Rattle.pisdf_meaning.proofs.PortByPort.{fed_more}
use Rattle.pisdf_meaning.proofs.feeding.fed_to.Goals as goal

pub loop-port-preserved : goal.loop-port-preserved
loop-port-preserved c =
    let l = c.loop-port in
    let now : c.push.new.self.items ≡ l.lists.items ++ c.tokens_at.result.now ∷ [] = c.in_ok-push.ensures.items ∙ ap (λ x. l.lists.items ++ x ∷ []) c.in_ok-copy_tokens.ensures in
    fed_more c.args.graph.now c.args.inputs.now c.args.actor l.port c.items.result.now c.feeding-interface.result l.lists.items c.push.new.self.items c.tokens_at.result.now c.items.ensures l.invariant c.feeding-interface.ensures c.tokens_at.ensures now
