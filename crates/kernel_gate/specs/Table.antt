-- The table of kernels. A kernel's place in it is its kind.
use Rattle.std.specs.Prelude.{ℕ, List, [], ◌∷◌, map, slice_index_or}
use Rattle.kernel_gate.specs.Codes.{shape}
use Rattle.kernel_gate.specs.Value.{Faults, Kernel, Answer, FrameView, answer_of}
use Rattle.kernel_gate.specs.Signed.{SignatureView}
use Rattle.kernel_gate.specs.Kernels.{plain_counts, pass_signature, pass_answer}
use Rattle.kernel_gate.specs.Elements.{dup_signature, dup_answer, gain_signature, gain_answer, add_signature, add_answer, sub_signature, sub_answer, mul_signature, mul_answer, div_signature, div_answer, min_signature, min_answer, max_signature, max_answer, clamp_signature, clamp_answer, threshold_signature, threshold_answer}
use Rattle.kernel_gate.specs.Sums.{sum_signature, sum_answer, mean_signature, mean_answer, dot_signature, dot_answer, fir_signature, fir_answer, moving_signature, moving_answer}
use Rattle.kernel_gate.specs.Rearranged.{up_signature, up_answer, down_signature, down_answer, ramp_signature, ramp_answer, transpose_signature, transpose_answer}
use Rattle.kernel_gate.specs.Counted.{median_signature, median_answer, histogram_signature, histogram_answer, count_above_signature, count_above_answer}
use Rattle.kernel_gate.specs.Configured.{read_param_signature, read_param_answer, pick_signature, pick_answer, spread_signature, spread_answer}

pub record Row : Type 0 where
  pub signature : SignatureView
  pub answer : Kernel

abbrev pub table : List Row
table =
    record { signature = pass_signature; answer = pass_answer }
    ∷ record { signature = dup_signature; answer = dup_answer }
    ∷ record { signature = gain_signature; answer = gain_answer }
    ∷ record { signature = add_signature; answer = add_answer }
    ∷ record { signature = sub_signature; answer = sub_answer }
    ∷ record { signature = mul_signature; answer = mul_answer }
    ∷ record { signature = div_signature; answer = div_answer }
    ∷ record { signature = min_signature; answer = min_answer }
    ∷ record { signature = max_signature; answer = max_answer }
    ∷ record { signature = clamp_signature; answer = clamp_answer }
    ∷ record { signature = sum_signature; answer = sum_answer }
    ∷ record { signature = mean_signature; answer = mean_answer }
    ∷ record { signature = dot_signature; answer = dot_answer }
    ∷ record { signature = fir_signature; answer = fir_answer }
    ∷ record { signature = up_signature; answer = up_answer }
    ∷ record { signature = down_signature; answer = down_answer }
    ∷ record { signature = ramp_signature; answer = ramp_answer }
    ∷ record { signature = transpose_signature; answer = transpose_answer }
    ∷ record { signature = median_signature; answer = median_answer }
    ∷ record { signature = moving_signature; answer = moving_answer }
    ∷ record { signature = threshold_signature; answer = threshold_answer }
    ∷ record { signature = histogram_signature; answer = histogram_answer }
    ∷ record { signature = count_above_signature; answer = count_above_answer }
    ∷ record { signature = read_param_signature; answer = read_param_answer }
    ∷ record { signature = pick_signature; answer = pick_answer }
    ∷ record { signature = spread_signature; answer = spread_answer }
    ∷ []

-- no place of the table
abbrev pub no_row : Row
no_row = record { signature = record { name = []; counts = plain_counts 0 0 0 }; answer = λ args inputs lens sets. Faults shape }

-- the signatures of the table, in its order
abbrev pub the_signatures : List SignatureView
the_signatures = map (λ (r : Row). r.signature) table

-- what the kernel at a place gives
unfoldable pub the_value : ℕ → Kernel
the_value kind = (slice_index_or table kind no_row).answer

-- what the kernel of a frame's kind gives for what stands in the frame
abbrev pub frame_value : FrameView → Answer
frame_value f = answer_of (the_value f.kind) f
