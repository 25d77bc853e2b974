-- Frames of kernels, and what they give.
use Rattle.std.proofs.Common.{◌≡◌, ℕ, ℤ, pos, List, [], ◌∷◌, map, replicate, refl}
use Rattle.std.proofs.lemmas.List.{length-replicate}
use Rattle.kernel_gate.specs.Table.{frame_value, the_value}
use Rattle.kernel_gate.specs.Value.{Gives, FrameView, lengths}
use Rattle.pisdf_meaning.specs.Kernels.{GivesLengths, fired_answer}
use Rattle.pisdf_meaning.specs.declared.kernels.KernelEnd.{KernelEnd}
use Rattle.pisdf_meaning.specs.declared.kernels.KernelEnd.TheVariants.{Gave, Faulted}

pub lengths_of_zeros : (lens : List ℕ) → lengths (map (λ n. replicate n (pos 0)) lens) ≡ lens
lengths_of_zeros [] = refl
lengths_of_zeros (n ∷ lens) = rw (length-replicate n (pos 0), lengths_of_zeros lens) refl

-- what a frame at its start is fired for
pub value_at_start : (f : FrameView) (kind : ℕ) (args : List ℤ) (inputs : List (List ℤ)) (lens : List ℕ) (sets : ℕ) → (f.kind ≡ kind) × (f.args ≡ args) × (f.inputs ≡ inputs) →
    (f.outputs ≡ map (λ n. replicate n (pos 0)) lens) × (f.sets ≡ replicate sets (pos 0)) → frame_value f ≡ the_value kind args inputs lens sets
value_at_start f kind args inputs lens sets given zeros = rw (given.0, given.1, given.2, zeros.0, zeros.1, lengths_of_zeros lens, length-replicate sets (pos 0)) refl

pub gives_lengths : (end : KernelEnd) (outs : List (List ℤ)) (sets : List ℤ) (lens : List ℕ) → fired_answer end ≡ Gives outs sets → lengths outs ≡ lens → GivesLengths lens end
gives_lengths (Gave o s) outs sets lens is len = let same : o ≡ outs = cc in rw same len
gives_lengths (Faulted code) outs sets lens is len = cc
