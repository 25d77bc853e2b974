-- What a frame becomes when one of its outputs is written through a loan.
use Rattle.std.specs.Prelude.{ℕ, ℤ, List}
use Rattle.std.specs.Borrow.{Lends, MutBor, Fml, Array, i64}
use Rattle.kernel_gate.specs.Value.{FrameView, with_output}
use Rattle.kernel_gate.specs.contracts.frame.Frame.{the_row}

abbrev pub LendsOutput : MutBor FrameView → ℕ → MutBor (List ℤ) → Fml
LendsOutput f n r = Lends the_row (Array i64 0) f r (with_output f.now n)
