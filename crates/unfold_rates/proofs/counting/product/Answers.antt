use Rattle.std.proofs.Common.{◌*◌, ◌≤◌, ℕ, Fits, w32, arith, mul-le-mul_left, mul-le-mul_right}
use Rattle.unfold_rates.proofs.counting.product.Goals as goal

product_fits : (m b : ℕ) → m ≤ 64 → b ≤ 2048 → Fits w32 (m * b)
product_fits m b h k =
    let x : m * b ≤ 64 * b = mul-le-mul_right b h in
    let y : 64 * b ≤ 64 * 2048 = mul-le-mul_left 64 k in
    omega arith

pub overflow_mul-result : goal.overflow_mul-result
overflow_mul-result c = product_fits c.args.times c.args.count c.requires.few c.requires.within
