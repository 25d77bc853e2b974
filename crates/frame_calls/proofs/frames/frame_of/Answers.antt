use Rattle.std.proofs.Common.{◌≡◌, ℕ, List, [], ◌∷◌, length, map, ap, sym, ◌∙◌, refl, arith}
use Rattle.std.proofs.lemmas.List.{length-map, length-replicate}
use Rattle.std.specs.Prelude.{ℤ, replicate, pos}
use Rattle.kernel_gate.specs.Value.{lengths}
use Rattle.frame_calls.proofs.frames.frame_of.Goals as goal

abbrev zeros_of : ℕ → List ℤ
zeros_of n = replicate n (pos 0)

lengths_zeros : (ns : List ℕ) → lengths (map zeros_of ns) ≡ ns
lengths_zeros [] = refl
lengths_zeros (n ∷ ns) = ap (λ (m : ℕ). m ∷ lengths (map zeros_of ns)) (length-replicate n (pos 0)) ∙ ap (λ (ms : List ℕ). n ∷ ms) (lengths_zeros ns)

pub returns-clause-fitting : goal.returns-clause-fitting
returns-clause-fitting c =
    let f = c.in_ok-frame.frame in
    let fits = c.if-not-has_lengths.ensures in
    let ins : lengths f.inputs ≡ c.as_slice.result.now = ap lengths c.in_ok-frame.ensures.made_of.2 ∙ (sym c.in_ok-ins.ensures ∙ sym c.as_slice.ensures.value) in
    let outs : lengths f.outputs ≡ c.args.outs.now = ap lengths c.in_ok-frame.ensures.zeros.0 ∙ lengths_zeros c.args.outs.now in
    let many : length (lengths f.inputs) ≡ length f.inputs = length-map f.inputs (λ (l : List ℤ). length l) in
    let more : length (lengths f.outputs) ≡ length f.outputs = length-map f.outputs (λ (l : List ℤ). length l) in
    record {
      few_inputs = let e = ap (λ (ns : List ℕ). length ns) ins in let few = fits.few.0 in omega arith;
      few_outputs = let e = ap (λ (ns : List ℕ). length ns) outs in let few = fits.few.1 in omega arith;
      fitting = rw (ins, outs) fits.fitting;
    }
