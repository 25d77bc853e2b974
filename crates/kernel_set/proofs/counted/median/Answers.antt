use Rattle.std.proofs.Common.{◌≡◌, ◌%◌, List, [], ◌∷◌, length, length-set, true, ap, ◌∙◌, rules, arith, FitsSigned, w64}
use Rattle.std.specs.Prelude.{ℤ}
use Rattle.std.proofs.lemmas.Int.{to_z-of_z}
use Rattle.kernel_gate.specs.Value.{port}
use Rattle.kernel_gate.specs.Counted.{in_the_middle}
use Rattle.kernel_set.proofs.Firings.{one_written}
use Rattle.kernel_set.proofs.Steps.{only_written}
use Rattle.kernel_set.proofs.Middles.{the_same, find_passes}
use Rattle.kernel_set.proofs.counted.median.Goals as goal

pub returns-clause-only : goal.returns-clause-only
returns-clause-only c u also =
    let f = c.args.frame.now in
    let x = c.ports-o.result.1.now in
    let t = c.middle.result in
    let fits : FitsSigned w64 c.middle.result = search rules in
    let odd : length x % 2 ≡ 1 = omega arith in
    let passes : in_the_middle x t ≡ true = find_passes (in_the_middle x) x t c.middle.ensures in
    let same : t ≡ u = the_same (port f.inputs 0) t u (rw c.ports-o.ensures.input at odd) (rw c.ports-o.ensures.input at passes) also in
    let one : length c.ports-o.result.2.now ≡ 1 = omega arith in
    rw (to_z-of_z w64 c.middle.result fits)
    (one_written f.outputs _ c.requires.outs (omega (arith, length-set {A = ℤ}, ap (λ (l : List ℤ). length l) c.ports-o.ensures.output))
    ∙ ap (λ (o : List ℤ). o ∷ []) (only_written c.ports-o.result.2.now t one ∙ ap (λ (v : ℤ). v ∷ []) same))
