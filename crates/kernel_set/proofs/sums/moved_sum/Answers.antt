use Rattle.std.proofs.Common.{◌-◌, get_or, ap, ◌∙◌, rules, arith, FitsSigned, w64}
use Rattle.std.specs.Prelude.{ℤ, pos, ◌+ℤ◌, ◌-ℤ◌}
use Rattle.std.proofs.lemmas.Int.{to_z-of_z}
use Rattle.kernel_set.proofs.Windows.{sum_grown, sum_moved, sum_within, within_fits, within_less, within_more}
use Rattle.kernel_set.proofs.sums.moved_sum.Goals as goal

pub overflow_add-grown : goal.overflow_add-grown
overflow_add-grown c =
    let x = c.args.x.now in
    let n = c.args.n in
    let token : ℤ = get_or x n (pos 0) in
    let token_fits : FitsSigned w64 token = search rules in
    let before = sum_within c.args.width n x c.args.all c.requires.width (omega arith) c.requires.near c.requires.before in
    let more = within_more c.args.all token 64 (c.requires.near n c.requires.place) before in
    rw (to_z-of_z w64 c.args.all c.ranges.all, to_z-of_z w64 token token_fits) (within_fits (c.args.all +ℤ token) 65 (omega arith) more)

pub returns-then-n-width : goal.returns-then-n-width
returns-then-n-width c =
    let x = c.args.x.now in
    let n = c.args.n in
    let token : ℤ = get_or x n (pos 0) in
    let token_fits : FitsSigned w64 token = search rules in
    let before = sum_within c.args.width n x c.args.all c.requires.width (omega arith) c.requires.near c.requires.before in
    let more = within_more c.args.all token 64 (c.requires.near n c.requires.place) before in
    let fits : FitsSigned w64 (c.args.all +ℤ token) = within_fits (c.args.all +ℤ token) 65 (omega arith) more in
    rw (to_z-of_z w64 c.args.all c.ranges.all, to_z-of_z w64 token token_fits, to_z-of_z w64 (c.args.all +ℤ token) fits)
    (ap (λ (a : ℤ). a +ℤ token) c.requires.before ∙ sum_grown c.args.width n x c.requires.place c.if-n-width.true)

pub overflow_sub-result-2 : goal.overflow_sub-result-2
overflow_sub-result-2 c =
    let x = c.args.x.now in
    let n = c.args.n in
    let k = n - c.args.width in
    let token : ℤ = get_or x n (pos 0) in
    let oldest : ℤ = get_or x k (pos 0) in
    let token_fits : FitsSigned w64 token = search rules in
    let oldest_fits : FitsSigned w64 oldest = search rules in
    let before = sum_within c.args.width n x c.args.all c.requires.width (omega arith) c.requires.near c.requires.before in
    let more = within_more c.args.all token 64 (c.requires.near n c.requires.place) before in
    let fits : FitsSigned w64 (c.args.all +ℤ token) = within_fits (c.args.all +ℤ token) 65 (omega arith) more in
    let less = within_less (c.args.all +ℤ token) oldest 65 (c.requires.near k (omega arith)) more in
    rw (to_z-of_z w64 c.args.all c.ranges.all, to_z-of_z w64 token token_fits, to_z-of_z w64 (c.args.all +ℤ token) fits, to_z-of_z w64 oldest oldest_fits)
    (within_fits ((c.args.all +ℤ token) -ℤ oldest) 66 (omega arith) less)

pub returns : goal.returns
returns c =
    let x = c.args.x.now in
    let n = c.args.n in
    let k = n - c.args.width in
    let token : ℤ = get_or x n (pos 0) in
    let oldest : ℤ = get_or x k (pos 0) in
    let token_fits : FitsSigned w64 token = search rules in
    let oldest_fits : FitsSigned w64 oldest = search rules in
    let before = sum_within c.args.width n x c.args.all c.requires.width (omega arith) c.requires.near c.requires.before in
    let more = within_more c.args.all token 64 (c.requires.near n c.requires.place) before in
    let fits : FitsSigned w64 (c.args.all +ℤ token) = within_fits (c.args.all +ℤ token) 65 (omega arith) more in
    let less = within_less (c.args.all +ℤ token) oldest 65 (c.requires.near k (omega arith)) more in
    let less_fits : FitsSigned w64 ((c.args.all +ℤ token) -ℤ oldest) = within_fits ((c.args.all +ℤ token) -ℤ oldest) 66 (omega arith) less in
    rw (to_z-of_z w64 c.args.all c.ranges.all, to_z-of_z w64 token token_fits, to_z-of_z w64 (c.args.all +ℤ token) fits, to_z-of_z w64 oldest oldest_fits, to_z-of_z w64 ((c.args.all +ℤ token) -ℤ oldest) less_fits)
    (ap (λ (a : ℤ). (a +ℤ token) -ℤ oldest) c.requires.before ∙ sum_moved c.args.width n x c.requires.place c.if-n-width.false)
