use Rattle.std.proofs.Common.{◌≡◌, Bool, true, false, not, IsTrue, refl, sym, ◌∙◌}
use Rattle.graph_firing.proofs.Methods.{compiling_unquiet, nodes_are_quiet, quiet_nodes, quiet_waiting, refused_quiet, waiting_settled, waiting_unready}
use Rattle.graph_firing.proofs.job.OpenJob.quiet.Goals as goal

not_so : (b : Bool) → IsTrue (not b) → IsTrue b → ⊥
not_so true e f = cc
not_so false e f = cc

so_not : (b : Bool) → (IsTrue b → ⊥) → IsTrue (not b)
so_not true never = absurd (never refl)
so_not false never = refl

pub returns-then-is_settled : goal.returns-then-is_settled
returns-then-is_settled c =
    let i = c.self.inside in (
      (λ e. quiet_waiting i.configuring i.workers i.stage c.self.invariant c.args.self.now c.self.view_is c.in-Waiting.is (c.is_settled.ensures.0 c.if-is_settled.true) (λ ready. not_so c.is_ready.result e (c.is_ready.ensures.1 ready))),
      (λ quiet. so_not c.is_ready.result (λ ready. waiting_unready i.configuring i.workers i.stage c.self.invariant c.args.self.now c.self.view_is c.in-Waiting.is quiet (c.is_ready.ensures.0 ready))),
    )

pub returns-else-is_settled : goal.returns-else-is_settled
returns-else-is_settled c =
    let i = c.self.inside in
    ((λ e. absurd (let never : true ≡ false = sym e ∙ c.if-is_settled.false in cc)), (λ quiet. c.is_settled.ensures.1 (waiting_settled i.configuring i.workers i.stage c.self.invariant c.args.self.now c.self.view_is c.in-Waiting.is quiet)))

pub returns-in-Compiling : goal.returns-in-Compiling
returns-in-Compiling c =
    let i = c.self.inside in
    ((λ e. cc), (λ quiet. absurd (compiling_unquiet i.configuring i.workers i.stage c.self.invariant c.args.self.now c.self.view_is c.in-Compiling.is quiet)))

pub returns-in-Refused : goal.returns-in-Refused
returns-in-Refused c =
    let i = c.self.inside in
    ((λ e. refused_quiet i.configuring i.workers i.stage c.self.invariant c.args.self.now c.self.view_is c.in-Refused.field-0 c.in-Refused.is), (λ quiet. refl))

pub returns-in-Nodes : goal.returns-in-Nodes
returns-in-Nodes c =
    let i = c.self.inside in
    ((λ e. nodes_are_quiet i.configuring i.workers i.stage c.self.invariant c.args.self.now c.self.view_is c.in-Nodes.running c.in-Nodes.is (sym c.quiet.ensures ∙ e)), (λ quiet. c.quiet.ensures ∙ quiet_nodes i.configuring i.workers i.stage c.self.invariant c.args.self.now c.self.view_is c.in-Nodes.running c.in-Nodes.is quiet))
