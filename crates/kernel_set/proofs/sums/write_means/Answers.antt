use Rattle.std.proofs.Common.{ℕ, ◌+◌, take, ap, ◌∙◌, sym, rules, arith, FitsSigned, w64}
use Rattle.std.proofs.lemmas.Int.{to_z-of_z}
use Rattle.std.specs.List.{between}
use Rattle.kernel_gate.specs.Tokens.{mean_of, last}
use Rattle.kernel_set.proofs.Steps.{placed_more, placed_fault, placed_all, last_is}
use Rattle.kernel_set.proofs.sums.write_means.Goals as goal

pub loop-n-preserved : goal.loop-n-preserved
loop-n-preserved c =
    let y : FitsSigned w64 c.in-Ok.y = search rules in
    let part = ap (λ (k : ℕ). mean_of (between k (c.loop-n.n + 1) c.args.x.now)) c.saturating_sub-from.ensures ∙ ap mean_of (last_is c.args.width c.loop-n.n c.args.x.now (omega arith)) in
    rw (to_z-of_z w64 c.in-Ok.y y)
    (placed_more (λ n. mean_of (last c.args.width (take (n + 1) c.args.x.now))) c.loop-n.n c.loop-n.o c.in-Ok.y (omega arith) c.loop-n.invariant (sym (c.in-Ok.ensures ∙ part)))

pub returns-in-Err : goal.returns-in-Err
returns-in-Err c =
    let part = ap (λ (k : ℕ). mean_of (between k (c.loop-n.n + 1) c.args.x.now)) c.saturating_sub-from.ensures ∙ ap mean_of (last_is c.args.width c.loop-n.n c.args.x.now (omega arith)) in
    placed_fault (λ n. mean_of (last c.args.width (take (n + 1) c.args.x.now))) _ c.loop-n.n c.loop-n.o c.in-Err.fault (omega arith) (omega arith) c.loop-n.invariant (sym (c.in-Err.ensures ∙ part))

pub returns : goal.returns
returns c = placed_all (λ n. mean_of (last c.args.width (take (n + 1) c.args.x.now))) _ c.loop-n.n c.loop-n.o (omega arith) (omega arith) (omega arith) c.loop-n.invariant
