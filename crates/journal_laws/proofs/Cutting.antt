-- A list is cut to lists of given lengths, and so each node that copies has something to give.
use Rattle.std.proofs.Common.{◌≡◌, ℕ, zero, suc, ◌+◌, ◌-◌, ◌%◌, ◌<◌, ◌≤◌, ℤ, List, [], ◌∷◌, ◌++◌, length, take, drop, refl, sym, ap, ◌∙◌, arith, length-append, length-drop}
use Rattle.std.specs.List.{sum}
use Rattle.std.proofs.lemmas.List.{length-take, take-append-drop}
use Rattle.std.proofs.lemmas.List.Sums.{sum_by-cons}
use Rattle.kernel_gate.specs.Value.{lengths}
use Rattle.sdf_level.specs.Interfaces.{last, repeat, repeated}
use Rattle.sdf_level.specs.declared.node.Node.{Node}
use Rattle.sdf_level.specs.declared.node.Node.TheVariants as node
use Rattle.special_actors.specs.Copying.{PassesOn, joined}
use Rattle.special_actors.specs.Fitting.{HasLengths}

abbrev cut : List ℕ → List ℤ → List (List ℤ)
cut [] xs = []
cut (n ∷ lens) xs = take n xs ∷ cut lens (drop n xs)

sum_next : (n : ℕ) (lens : List ℕ) → sum (n ∷ lens) ≡ n + sum lens
sum_next n lens = sum_by-cons (λ (x : ℕ). x) n lens

cut_fits : (lens : List ℕ) (xs : List ℤ) → sum lens ≡ length xs → lengths (cut lens xs) ≡ lens
cut_fits [] xs e = refl
cut_fits (n ∷ lens) xs e =
    let s = sum_next n lens in
    let d = length-drop n xs in
    let t = length-take n xs in
    let first : length (take n xs) ≡ n = omega arith in
    let rest : lengths (cut lens (drop n xs)) ≡ lens = cut_fits lens (drop n xs) (omega arith) in
    λ k. first k ∷ rest k

cut_joins : (lens : List ℕ) (xs : List ℤ) → sum lens ≡ length xs → joined (cut lens xs) ≡ xs
cut_joins [] [] e = refl
cut_joins [] (x ∷ xs) e = absurd (omega arith)
cut_joins (n ∷ lens) xs e =
    let s = sum_next n lens in
    let d = length-drop n xs in
    ap (λ (l : List ℤ). take n xs ++ l) (cut_joins lens (drop n xs) (omega arith)) ∙ take-append-drop n xs

joined_long : (lists : List (List ℤ)) → length (joined lists) ≡ sum (lengths lists)
joined_long [] = refl
joined_long (l ∷ lists) =
    let e = length-append l (joined lists) in
    let rest = joined_long lists in
    let s = sum_next (length l) (lengths lists) in
    omega arith

repeat_one : (t : List ℤ) (i : ℕ) → 0 < length t → length (repeat t i) ≡ 1
repeat_one t i some =
    let d = length-drop (i % length t) t in
    let e = length-take 1 (drop (i % length t) t) in
    let less : i % length t < length t = omega arith in
    omega arith

repeated_long : (t : List ℤ) (i n : ℕ) → 0 < length t → length (repeated t i n) ≡ n
repeated_long t i zero some = refl
repeated_long t i (suc n) some =
    let one = repeat_one t i some in
    let rest = repeated_long t (i + 1) n some in
    let all = length-append (repeat t i) (repeated t (i + 1) n) in
    omega arith

last_long : (r : ℕ) (t : List ℤ) → r ≤ length t → length (last r t) ≡ r
last_long r t le = let e = length-drop (length t - r) t in omega arith

-- what a node gives that copies
pub record Passed (n : Node) (ins : List (List ℤ)) (lens : List ℕ) : Type 0 where
  pub outs : List (List ℤ)
  pub fitting : lengths outs ≡ lens
  pub passed : PassesOn n (joined ins) (joined outs)

module _ (ins : List (List ℤ)) (lens : List ℕ) where
  cut_passed : sum lens ≡ sum (lengths ins) → (lengths (cut lens (joined ins)) ≡ lens) × (joined (cut lens (joined ins)) ≡ joined ins)
  cut_passed e = let l = joined_long ins in let same : sum lens ≡ length (joined ins) = omega arith in (cut_fits lens (joined ins) same, cut_joins lens (joined ins) same)

  module _ (made : ℕ → List ℤ) (long : length (made (sum lens)) ≡ sum lens) where
    made_fits : lengths (cut lens (made (sum lens))) ≡ lens
    made_fits = cut_fits lens (made (sum lens)) (sym long)

    made_so : joined (cut lens (made (sum lens))) ≡ made (length (joined (cut lens (made (sum lens)))))
    made_so =
        let e = cut_joins lens (made (sum lens)) (sym long) in
        let n : sum lens ≡ length (joined (cut lens (made (sum lens)))) = sym (ap (λ (l : List ℤ). length l) e ∙ long) in
        e ∙ ap made n

  pub passes : (n : Node) → HasLengths n (lengths ins) lens → Passed n ins lens
  passes (node.Source s) h = record { outs = ins; fitting = sym h.1; passed = refl }
  passes (node.Init l) h = record { outs = ins; fitting = sym h.1; passed = refl }
  passes (node.Firing a k) h = absurd h
  passes (node.Broadcast l) h =
      let j = joined_long ins in
      let some : 0 < length (joined ins) = let h1 = h.1 in omega arith in
      let long = repeated_long (joined ins) 0 (sum lens) some in
      record { outs = cut lens (repeated (joined ins) 0 (sum lens)); fitting = made_fits (repeated (joined ins) 0) long; passed = made_so (repeated (joined ins) 0) long }
  passes (node.Fork l i) h = let c = cut_passed h.1 in record { outs = cut lens (joined ins); fitting = c.0; passed = c.1 }
  passes (node.Join l j) h = let c = cut_passed h.1 in record { outs = cut lens (joined ins); fitting = c.0; passed = c.1 }
  passes (node.Round l) h =
      let j = joined_long ins in
      let h1 = h.1 in
      let long = last_long (sum lens) (joined ins) (omega arith) in
      record { outs = cut lens (last (sum lens) (joined ins)); fitting = made_fits (λ r. last r (joined ins)) long; passed = made_so (λ r. last r (joined ins)) long }
  passes (node.End l) h = record { outs = ins; fitting = sym h.1; passed = refl }
  passes (node.Sink t) h = record { outs = ins; fitting = sym h.1; passed = refl }
