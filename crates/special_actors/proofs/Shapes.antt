-- Frames of the nodes, and what their one output says of all.
use Rattle.std.proofs.Common.{◌≡◌, ℕ, ◌-◌, ◌≤◌, List, [], ◌∷◌, length, drop, refl, sym, ap, ◌∙◌, append-nil, arith, length-drop, sum}
use Rattle.std.specs.Prelude.{ℤ}
use Rattle.std.proofs.lemmas.List.{length-map}
use Rattle.std.proofs.lemmas.List.Concat.{length-flat_map}
use Rattle.std.proofs.lemmas.List.Sums.{sum-map}
use Rattle.sdf_level.specs.Interfaces.{repeated, last}
use Rattle.kernel_gate.specs.Value.{FrameView, SameFrame, port, lengths}
use Rattle.special_actors.specs.Copying.{joined}

pub length_joined : (lists : List (List ℤ)) → length (joined lists) ≡ sum (lengths lists)
length_joined lists = length-flat_map (λ (l : List ℤ). l) lists ∙ sym (sum-map (λ (l : List ℤ). length l) lists)

pub joined_only : (lists : List (List ℤ)) → length lists ≡ 1 → joined lists ≡ port lists 0
joined_only [] e = absurd (omega arith)
joined_only (l ∷ []) e = append-nil l
joined_only (l ∷ m ∷ rest) e = absurd (omega arith)

pub one_list : (lists : List (List ℤ)) → length (lengths lists) ≡ 1 → length lists ≡ 1
one_list lists e = sym (length-map lists (λ (l : List ℤ). length l)) ∙ e

pub length_only : (lists : List (List ℤ)) → length (lengths lists) ≡ 1 → length (port lists 0) ≡ sum (lengths lists)
length_only lists e = ap (λ (l : List ℤ). length l) (sym (joined_only lists (one_list lists e))) ∙ length_joined lists

lengths_only : (lists : List (List ℤ)) → length lists ≡ 1 → lengths lists ≡ length (port lists 0) ∷ []
lengths_only [] e = absurd (omega arith)
lengths_only (l ∷ []) e = refl
lengths_only (l ∷ m ∷ rest) e = absurd (omega arith)

-- the one output written anew
pub same_but_output : (f g : FrameView) (w : List ℤ) → length f.outputs ≡ 1 → length w ≡ length (port f.outputs 0) → g ≡ record f { outputs = w ∷ [] } → SameFrame f g
same_but_output f g w one len e = record {
  kind = ap (λ (v : FrameView). v.kind) e;
  args = ap (λ (v : FrameView). v.args) e;
  inputs = ap (λ (v : FrameView). v.inputs) e;
  outputs = ap (λ (v : FrameView). lengths v.outputs) e ∙ (ap (λ n. n ∷ []) len ∙ sym (lengths_only f.outputs one));
  sets = ap (λ (v : FrameView). length v.sets) e;
  places = ap (λ (v : FrameView). v.places) e;
}

pub length_kept : (n : ℕ) (ins : List ℤ) → n ≤ length ins → length (last n ins) ≡ n
length_kept n ins le = omega (arith, length-drop (length ins - n) ins)

-- all tokens are the last ones
pub joins_all : (f g : FrameView) (n : ℕ) → n ≡ length (joined f.inputs) → g ≡ record f { outputs = last n (joined f.inputs) ∷ [] } → joined g.outputs ≡ joined f.inputs
joins_all f g n all e =
    let none : length (joined f.inputs) - n ≡ 0 = omega arith in
    ap (λ (v : FrameView). joined v.outputs) e ∙ (append-nil (last n (joined f.inputs)) ∙ ap (λ k. drop k (joined f.inputs)) none)

pub keeps_last : (f g : FrameView) (n : ℕ) → n ≤ length (joined f.inputs) → g ≡ record f { outputs = last n (joined f.inputs) ∷ [] } → joined g.outputs ≡ last (length (joined g.outputs)) (joined f.inputs)
keeps_last f g n le e =
    let kept : joined g.outputs ≡ last n (joined f.inputs) = ap (λ (v : FrameView). joined v.outputs) e ∙ append-nil (last n (joined f.inputs)) in
    kept ∙ ap (λ k. last k (joined f.inputs)) (sym (ap (λ (l : List ℤ). length l) kept ∙ length_kept n (joined f.inputs) le))

pub repeats_all : (f g : FrameView) → length (lengths f.inputs) ≡ 1 → lengths g.outputs ≡ lengths f.outputs → joined g.outputs ≡ repeated (port f.inputs 0) 0 (length (joined f.outputs))
    → joined g.outputs ≡ repeated (joined f.inputs) 0 (length (joined g.outputs))
repeats_all f g one same e =
    let total : length (joined f.outputs) ≡ length (joined g.outputs) = length_joined f.outputs ∙ (ap sum (sym same) ∙ sym (length_joined g.outputs)) in
    e ∙ (ap (λ (l : List ℤ). repeated l 0 (length (joined f.outputs))) (sym (joined_only f.inputs (one_list f.inputs one))) ∙ ap (repeated (joined f.inputs) 0) total)
