use Rattle.std.proofs.Common.{◌≡◌, ℕ, ◌+◌, ◌*◌, ◌≤◌, ◌<◌, length, ap, sym, ◌∙◌, arith}
use Rattle.std.specs.Prelude.{ℤ, List}
use Rattle.std.proofs.lemmas.List.FromFn.{length-map-range_with_len}
use Rattle.std.proofs.Math.Nat.{mul-le-mul_right}
use Rattle.kernel_gate.specs.Tokens.{places, token}
use Rattle.kernel_gate.specs.Rearranged.{column}
use Rattle.kernel_set.proofs.Steps.{pieces_more, pieces_all, place_at, length_places, piece_length}
use Rattle.kernel_set.proofs.rearranged.write_columns.Goals as goal

pub loop-c-preserved : goal.loop-c-preserved
loop-c-preserved c =
    let rows = c.args.rows in
    let cols = c.args.cols in
    let lt : c.loop-c.c < length (places cols) = omega (arith, length_places cols) in
    let le : (c.loop-c.c + 1) * rows ≤ length c.loop-c.o = omega (arith, mul-le-mul_right rows c.loop-c-test.true) in
    let here : c.write_column.new.o ≡ column c.args.x.now rows cols c.loop-c.c =
    c.write_column.ensures ∙ ap (λ (n : ℕ). column c.args.x.now n cols c.loop-c.c) (piece_length c.loop-c.c rows c.loop-c.o le)
    in
    pieces_more (column c.args.x.now rows cols) (places cols) c.loop-c.c rows c.loop-c.o c.write_column.new.o 0 lt c.loop-c.invariant
    (here ∙ ap (λ (n : ℕ). column c.args.x.now rows cols n) (sym (place_at cols c.loop-c.c 0 c.loop-c-test.true)))
    (ap (λ (l : List ℤ). length l) here ∙ length-map-range_with_len (λ a. token c.args.x.now (a * cols + c.loop-c.c)) 0 rows)
    le

pub returns : goal.returns
returns c =
    let all : c.loop-c.c ≡ c.args.cols = omega arith in
    pieces_all (column c.args.x.now c.args.rows c.args.cols) (places c.args.cols) c.loop-c.c c.args.rows c.loop-c.o (omega (arith, length_places c.args.cols))
    (rw all (omega arith)) c.loop-c.invariant
