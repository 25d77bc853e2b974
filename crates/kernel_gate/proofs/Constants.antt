-- The limits that the code has are those of the table.
use Rattle.std.proofs.Common.{◌≡◌, refl}
use Rattle.std.specs.Prelude.{pos}
use Rattle.kernel_gate.specs.Limits.{most_median_tokens, most_moving_width}
use Rattle.kernel_gate.specs.declared.limits.TheConstants.{MAX_MEDIAN_TOKENS, MAX_MOVING_WIDTH}

median_tokens : MAX_MEDIAN_TOKENS ≡ most_median_tokens
median_tokens = refl

moving_width : MAX_MOVING_WIDTH ≡ pos most_moving_width
moving_width = refl
