use Rattle.std.proofs.Common.{◌≡◌, ◌*◌, List, length, get_or, refl, ap, sym, ◌∙◌, true, rules, arith, FitsSigned, w64}
use Rattle.std.specs.Prelude.{ℤ, pos, int_le, unsigned_abs, ◌==◌, Ok}
use Rattle.std.specs.List.{flat_map}
use Rattle.std.proofs.lemmas.Int.{to_z-of_z, ints}
use Rattle.std.proofs.lemmas.Bool.Decides.{nat_tests}
use Rattle.kernel_gate.specs.Value.{lengths, port}
use Rattle.kernel_gate.specs.Tokens.{places}
use Rattle.kernel_gate.specs.Kernels.{size}
use Rattle.kernel_gate.specs.Rearranged.{transpose_answer, column}
use Rattle.kernel_set.proofs.Firings.{tells_one, size_at, shaped_same, taken, both}
use Rattle.kernel_set.proofs.rearranged.transpose.Goals as goal

pub returns-clause-value : goal.returns-clause-value
unfolding transpose_answer
returns-clause-value c =
    let f = c.args.frame.now in
    let a = c.ports-o.result.0.now in
    let x = c.ports-o.result.1.now in
    let fits_rows : FitsSigned w64 (get_or a 0 (pos 0)) = search rules in
    let fits_cols : FitsSigned w64 (get_or a 1 (pos 0)) = search rules in
    let rows : c.unsigned_abs-rows.result ≡ unsigned_abs (get_or a 0 (pos 0)) = rw (to_z-of_z w64 _ fits_rows) at c.unsigned_abs-rows.ensures.value in
    let cols : c.unsigned_abs-cols.result ≡ unsigned_abs (get_or a 1 (pos 0)) = rw (to_z-of_z w64 _ fits_cols) at c.unsigned_abs-cols.ensures.value in
    let room : length c.ports-o.result.2.now ≡ size (lengths f.outputs) 0 = ap (λ (l : List ℤ). length l) c.ports-o.ensures.output ∙ sym (size_at f.outputs 0) in
    let same_length : length (port f.inputs 0) ≡ size (lengths f.outputs) 0 = sym (ap (λ (l : List ℤ). length l) c.ports-o.ensures.input) ∙ (c.if-x-o.false ∙ room) in
    let least_rows : int_le (pos 1) (get_or a 0 (pos 0)) ≡ true = grind (arith, ints) in
    let least_cols : int_le (pos 1) (get_or a 1 (pos 0)) ≡ true = grind (arith, ints) in
    let wrote : c.write_columns.new.o ≡ flat_map (column x c.unsigned_abs-rows.result c.unsigned_abs-cols.result) (places c.unsigned_abs-cols.result) = c.write_columns.ensures in
    let product : (c.unsigned_abs-rows.result * c.unsigned_abs-cols.result == length x) ≡ true = grind (arith, nat_tests) in
    let product_is = simp (rows, cols, c.ports-o.ensures.args, c.ports-o.ensures.input) at product in
    let in_order = rw c.ports-o.ensures.args at (both _ _ least_rows least_cols) in
    tells_one f c.write_columns.new.o (Ok tt) _ _ c.requires.outs c.requires.sets.1 (omega (arith, ap (λ (l : List ℤ). length l) c.ports-o.ensures.output))
    (shaped_same _ (size (lengths f.outputs) 0) _ _ refl same_length ∙ taken _ _ (both _ _ in_order product_is))
    (ap Ok (sym (simp (rows, cols, c.ports-o.ensures.args, c.ports-o.ensures.input) at wrote)))
