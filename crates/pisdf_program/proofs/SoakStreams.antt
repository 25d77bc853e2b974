-- What the iterations of a soak run take from its streams.
use Rattle.std.proofs.Common.{◌≡◌, ℕ, zero, suc, ◌+◌, ◌-◌, ◌*◌, ◌<◌, ◌≤◌, ℤ, false, List, [], ◌∷◌, length, take, drop, None, refl, ap, ◌∙◌, arith}
use Rattle.std.specs.Prelude.{nat_lt}
use Rattle.std.proofs.lemmas.Bool.Decides.{nat_tests}
use Rattle.std.proofs.lemmas.List.FromFn.{length-map-range_with_len, take-map-range_with_len}
use Rattle.kernel_gate.specs.Value.{lengths}
use Rattle.pisdf_meaning.specs.Run.{first_lack, taken}
use Rattle.pisdf_program.specs.Soak.{k_token, soak_iterations, soak_part, soak_streams, tokens_from, x_token}
use Rattle.quiescent_driver.specs.Streams.{rest_of}

dropped : (token : ℕ → ℤ) (a s m : ℕ) → drop s (tokens_from token a m) ≡ tokens_from token (a + s) (m - s)
dropped token a zero m = let e : a ≡ a + 0 = omega arith in let n : m ≡ m - 0 = omega arith in ap (λ b. tokens_from token b m) e ∙ ap (tokens_from token (a + 0)) n
dropped token a (suc s) zero = let n : 0 ≡ 0 - suc s = omega arith in ap (tokens_from token (a + suc s)) n
dropped token a (suc s) (suc m) =
    let e : a + 1 + s ≡ a + suc s = omega arith in
    let n : m - s ≡ suc m - suc s = omega arith in
    dropped token (a + 1) s m ∙ ap (λ b. tokens_from token b (m - s)) e ∙ ap (tokens_from token (a + suc s)) n

-- a part of the tokens from the first on
part_of : (token : ℕ → ℤ) (s n m : ℕ) → s + n ≤ m → take n (drop s (tokens_from token 0 m)) ≡ tokens_from token s n
part_of token s n m within =
    let e : 0 + s ≡ s = omega arith in
    ap (take n) (dropped token 0 s m ∙ ap (λ b. tokens_from token b (m - s)) e) ∙ take-map-range_with_len token s (m - s) n (omega arith)

left_of : (token : ℕ → ℤ) (s m : ℕ) → length (drop s (tokens_from token 0 m)) ≡ m - s
left_of token s m = ap length (dropped token 0 s m) ∙ length-map-range_with_len token (0 + s) (m - s)

module _ (number iteration : ℕ) (within : iteration < soak_iterations number) where
  abbrev k_left : List ℤ
  k_left = drop (iteration * 1) (tokens_from (k_token number) 0 (soak_iterations number))

  abbrev x_left : List ℤ
  x_left = drop (iteration * 64) (tokens_from (x_token number) 0 (64 * soak_iterations number))

  pub part_taken : taken (1 ∷ 64 ∷ []) (rest_of iteration (1 ∷ 64 ∷ []) (soak_streams number)) ≡ soak_part number iteration
  part_taken =
      let one : iteration * 1 ≡ iteration = omega arith in
      let many : iteration * 64 ≡ 64 * iteration = omega arith in
      let k : take 1 k_left ≡ tokens_from (k_token number) iteration 1 = part_of (k_token number) (iteration * 1) 1 (soak_iterations number) (omega arith) ∙ ap (λ s. tokens_from (k_token number) s 1) one in
      let x : take 64 x_left ≡ tokens_from (x_token number) (64 * iteration) 64 = part_of (x_token number) (iteration * 64) 64 (64 * soak_iterations number) (omega arith) ∙ ap (λ s. tokens_from (x_token number) s 64) many in
      ap (λ (l : List ℤ). l ∷ take 64 x_left ∷ []) k ∙ ap (λ (l : List ℤ). tokens_from (k_token number) iteration 1 ∷ l ∷ []) x

  pub none_lacks : first_lack 0 (1 ∷ 64 ∷ []) (rest_of iteration (1 ∷ 64 ∷ []) (soak_streams number)) ≡ None
  none_lacks =
      let k = left_of (k_token number) (iteration * 1) (soak_iterations number) in
      let x = left_of (x_token number) (iteration * 64) (64 * soak_iterations number) in
      let first : nat_lt (length k_left) 1 ≡ false = grind (arith, nat_tests) in
      let second : nat_lt (length x_left) 64 ≡ false = grind (arith, nat_tests) in
      rw (first, second) refl

-- a token of k and 64 of x
pub part_lengths : (number iteration : ℕ) → lengths (soak_part number iteration) ≡ 1 ∷ 64 ∷ []
part_lengths number iteration =
    let k = length-map-range_with_len (k_token number) iteration 1 in
    let x = length-map-range_with_len (x_token number) (64 * iteration) 64 in
    ap (λ n. n ∷ length (tokens_from (x_token number) (64 * iteration) 64) ∷ []) k ∙ ap (λ n. 1 ∷ n ∷ []) x
