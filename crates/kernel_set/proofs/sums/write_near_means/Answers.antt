use Rattle.std.proofs.Common.{◌≡◌, ℕ, ◌+◌, length, take, ◌∙◌, sym, rules, arith, FitsSigned, w64}
use Rattle.std.specs.Prelude.{pos}
use Rattle.std.proofs.lemmas.Int.{to_z-of_z}
use Rattle.kernel_gate.specs.Tokens.{mean_of, last, places, quotient}
use Rattle.std.proofs.lemmas.Grind.{common_steps}
use Rattle.kernel_set.proofs.Windows.{mean_from, no_sum}
use Rattle.kernel_set.proofs.Steps.{placed_more, placed_fault, placed_all, written_start}
use Rattle.kernel_set.proofs.sums.write_near_means.Goals as goal

pub loop-n-init : goal.loop-n-init
loop-n-init c = (written_start (λ (n : ℕ). mean_of (last c.args.width (take (n + 1) c.args.x.now))) (places (length c.args.o.now)) c.args.o.now, sym (no_sum c.args.width c.args.x.now))

pub loop-n-preserved : goal.loop-n-preserved
loop-n-preserved c =
    let y : FitsSigned w64 c.in-Ok.y = search rules in
    let all : FitsSigned w64 c.moved_sum-all.result = search rules in
    let said : c.checked_quotient.result ≡ quotient c.moved_sum-all.result (pos c.min.result) = first_of (search rules, grind (arith, common_steps)) in
    let at = mean_from c.args.width c.loop-n.n c.args.x.now c.moved_sum-all.result c.min.result c.checked_quotient.result c.requires.width (omega arith) c.requires.near c.moved_sum-all.ensures c.min.ensures said in
    rw (to_z-of_z w64 c.in-Ok.y y, to_z-of_z w64 c.moved_sum-all.result all)
    (placed_more (λ n. mean_of (last c.args.width (take (n + 1) c.args.x.now))) c.loop-n.n c.loop-n.o c.in-Ok.y (omega arith) c.loop-n.invariant.0 (at ∙ c.in-Ok.is), c.moved_sum-all.ensures)

pub returns-in-Err : goal.returns-in-Err
returns-in-Err c =
    let said : c.checked_quotient.result ≡ quotient c.moved_sum-all.result (pos c.min.result) = first_of (search rules, grind (arith, common_steps)) in
    let at = mean_from c.args.width c.loop-n.n c.args.x.now c.moved_sum-all.result c.min.result c.checked_quotient.result c.requires.width (omega arith) c.requires.near c.moved_sum-all.ensures c.min.ensures said in
    placed_fault (λ n. mean_of (last c.args.width (take (n + 1) c.args.x.now))) _ c.loop-n.n c.loop-n.o c.in-Err.fault (omega arith) (omega arith) c.loop-n.invariant.0 (at ∙ c.in-Err.is)

pub returns : goal.returns
returns c = placed_all (λ n. mean_of (last c.args.width (take (n + 1) c.args.x.now))) _ c.loop-n.n c.loop-n.o (omega arith) (omega arith) (omega arith) c.loop-n.invariant.0
