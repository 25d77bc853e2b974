-- The kernels that add up: over the whole input, or over windows of it.
use Rattle.std.specs.Prelude.{pos, false, ◌==◌, ◌&&◌, ◌+◌, ◌-◌, nat_le, int_le, unsigned_abs, codes, length, take, reverse}
use Rattle.kernel_gate.specs.Value.{Kernel, port}
use Rattle.kernel_gate.specs.Signed.{SignatureView}
use Rattle.kernel_gate.specs.Tokens.{each, places, token, total, mean_of, dot_product, window, last}
use Rattle.kernel_gate.specs.Kernels.{if_shape, if_value, shaped, one_output, one_token, size, plain_counts}
use Rattle.kernel_gate.specs.Limits.{most_args, most_moving_width}

-- sum: the sum from the front
abbrev pub sum_signature : SignatureView
sum_signature = record { name = codes "sum"; counts = plain_counts 0 1 1 }

unfoldable pub sum_answer : Kernel
sum_answer args inputs lens sets = shaped (size lens 0) 1 (one_token (total (port inputs 0)))

-- mean: the sum from the front, divided by the number of tokens
abbrev pub mean_signature : SignatureView
mean_signature = record { name = codes "mean"; counts = plain_counts 0 1 1 }

unfoldable pub mean_answer : Kernel
mean_answer args inputs lens sets =
    if_shape ((size lens 0 == 1) && nat_le 1 (length (port inputs 0))) (one_token (mean_of (port inputs 0)))

-- dot: the sum of the products of the tokens at each place, from the front
abbrev pub dot_signature : SignatureView
dot_signature = record { name = codes "dot"; counts = plain_counts 0 2 1 }

unfoldable pub dot_answer : Kernel
dot_answer args inputs lens sets =
    if_shape ((length (port inputs 0) == length (port inputs 1)) && (size lens 0 == 1))
    (one_token (dot_product (port inputs 0) (port inputs 1)))

-- fir h0 h1 ..: a filter of finite impulse response, at each place where its taps lie within the input:
-- the taps against the window, the newest token first
abbrev pub fir_signature : SignatureView
fir_signature = record {
  name = codes "fir";
  counts = record { config = false; args_min = 1; args_max = most_args; ins = 1; outs = 1; sets_min = 0; sets_max = 0 };
}

unfoldable pub fir_answer : Kernel
fir_answer args inputs lens sets =
    if_shape (nat_le (length args) (length (port inputs 0)) && (size lens 0 == length (port inputs 0) - length args + 1))
    (one_output (each (λ n. dot_product args (reverse (window (port inputs 0) n (length args)))) (places (size lens 0))))

-- moving w: at each place the mean of the last w tokens up to it, of fewer at the front
abbrev pub moving_signature : SignatureView
moving_signature = record { name = codes "moving"; counts = plain_counts 1 1 1 }

unfoldable pub moving_answer : Kernel
moving_answer args inputs lens sets =
    shaped (length (port inputs 0)) (size lens 0)
    (if_value (int_le (pos 1) (token args 0) && int_le (token args 0) (pos most_moving_width))
    (one_output (each (λ n. mean_of (last (unsigned_abs (token args 0)) (take (n + 1) (port inputs 0)))) (places (size lens 0)))))
