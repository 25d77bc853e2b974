-- The parts of the tokens at the sources of a level are the tokens of the parts.
use Rattle.std.proofs.Common.{◌≡◌, ℕ, zero, suc, ◌*◌, ◌/◌, ℤ, List, [], ◌∷◌, ◌++◌, length, map, take, drop, slice_index, refl, ap, ap₂, sym, ◌∙◌}
use Rattle.std.specs.List.{range_with_len}
use Rattle.level_laws.proofs.Multiplied.{at_multiplied}
use Rattle.level_laws.specs.Parts.{part, parts, parts_at}
use Rattle.pisdf_meaning.specs.States.{tokens_at}
use Rattle.pisdf_meaning.proofs.StateSizes.{size_at}

abbrev none : List ℤ
none = []

take_none : (n : ℕ) → take n none ≡ none
take_none zero = refl
take_none (suc n) = refl

drop_none : (n : ℕ) → drop n none ≡ none
drop_none zero = refl
drop_none (suc n) = refl

no_part : (times i : ℕ) → part times i none ≡ none
no_part times i = ap (λ (l : List ℤ). take (0 / times) l) (drop_none (i * (0 / times))) ∙ take_none (0 / times)

part_at : (times i : ℕ) (lists : List (List ℤ)) (n : ℕ) → tokens_at (parts_at times i lists) n ≡ part times i (tokens_at lists n)
part_at times i [] n = sym (no_part times i)
part_at times i (list ∷ lists) zero = refl
part_at times i (list ∷ lists) (suc n) = part_at times i lists n

-- the tokens of these inputs
abbrev pub fed : List ℕ → List (List ℤ) → List (List ℤ)
fed places ins = map (λ i. tokens_at ins i) places ++ []

fed_at : (times i : ℕ) (places : List ℕ) (ins : List (List ℤ)) → parts_at times i (fed places ins) ≡ fed places (parts_at times i ins)
fed_at times i [] ins = refl
fed_at times i (place ∷ places) ins = ap₂ (λ (x : List ℤ) (xs : List (List ℤ)). x ∷ xs) (sym (part_at times i ins place)) (fed_at times i places ins)

fed_each : (times : ℕ) (places : List ℕ) (ins : List (List ℤ)) (numbers : List ℕ) → map (λ i. parts_at times i (fed places ins)) numbers ≡ map (fed places) (map (λ i. parts_at times i ins) numbers)
fed_each times places ins [] = refl
fed_each times places ins (i ∷ numbers) = ap₂ (λ (x : List (List ℤ)) (xs : List (List (List ℤ))). x ∷ xs) (fed_at times i places ins) (fed_each times places ins numbers)

pub parts_fed : (times : ℕ) (places : List ℕ) (ins : List (List ℤ)) → parts times (fed places ins) ≡ map (fed places) (parts times ins)
parts_fed times places ins = fed_each times places ins (range_with_len 0 times)

-- as long as the inputs are, so long are they there
pub fed_long : (times : ℕ) (needs places : List ℕ) (ins : List (List ℤ)) → map (λ (l : List ℤ). length l) ins ≡ map (λ r. times * r) needs →
    map (λ (l : List ℤ). length l) (fed places ins) ≡ map (λ r. times * r) (map (λ i. slice_index needs i) places)
fed_long times needs [] ins long = refl
fed_long times needs (i ∷ places) ins long =
    ap₂ (λ (n : ℕ) (ns : List ℕ). n ∷ ns) (size_at ins i ∙ ap (λ (l : List ℕ). slice_index l i) long ∙ at_multiplied times needs i) (fed_long times needs places ins long)
