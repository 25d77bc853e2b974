-- Frames of nodes that copy.
use Rattle.std.proofs.Common.{◌≡◌, ℕ, ◌<◌, ◌^◌, ℤ, pos, List, [], ◌∷◌, length, map, refl, sym, ap, ◌∙◌, subst}
use Rattle.std.specs.Prelude.{replicate}
use Rattle.std.proofs.lemmas.List.{length-map, length-replicate}
use Rattle.kernel_gate.specs.Value.{FrameView, lengths}
use Rattle.special_actors.specs.Fitting.{HasLengths, IsFrameOf}
use Rattle.sdf_level.specs.declared.node.Node.{Node}

abbrev pub zeros : ℕ → List ℤ
zeros n = replicate n (pos 0)

pub zeros_long : (written : List ℕ) → lengths (map zeros written) ≡ written
zeros_long [] = refl
zeros_long (n ∷ written) = ap (λ k. k ∷ lengths (map zeros written)) (length-replicate n (pos 0)) ∙ ap (λ l. n ∷ l) (zeros_long written)

pub frame_fits : (n : Node) (read : List (List ℤ)) (written : List ℕ) (frame : FrameView) → frame.inputs ≡ read → frame.outputs ≡ map zeros written →
    HasLengths n (lengths read) written → length read < 2 ^ 32 → length written < 2 ^ 32 → IsFrameOf n frame
frame_fits n read written frame ins outs fit few_in few_out =
    let long : lengths frame.outputs ≡ written = ap lengths outs ∙ zeros_long written in
    let many : length frame.outputs ≡ length written = ap (λ (l : List (List ℤ)). length l) outs ∙ length-map written zeros in
    record {
      few_inputs = subst (λ (l : List (List ℤ)). length l < 2 ^ 32) (sym ins) few_in;
      few_outputs = subst (λ (k : ℕ). k < 2 ^ 32) (sym many) few_out;
      fitting = subst (λ (l : List ℕ). HasLengths n (lengths frame.inputs) l) (sym long) (subst (λ (l : List (List ℤ)). HasLengths n (lengths l) written) (sym ins) fit);
    }
