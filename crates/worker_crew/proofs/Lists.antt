-- Places of lists.
use Rattle.std.proofs.Common.{◌≡◌, ℕ, zero, suc, ◌+◌, ◌<◌, ◌≤◌, List, [], ◌∷◌, ◌++◌, length, get_or, set, take, drop, replicate, refl, ◌∙◌, ap, arith}

pub drop_front : {A : Type 0} (xs ys : List A) → drop (length xs) (xs ++ ys) ≡ ys
drop_front [] ys = refl
drop_front (x ∷ xs) ys = drop_front xs ys

pub front_same : {A : Type 0} (xs ys zs : List A) → xs ++ ys ≡ xs ++ zs → ys ≡ zs
front_same [] ys zs e = e
front_same (x ∷ xs) ys zs e = let tail : xs ++ ys ≡ xs ++ zs = cc in front_same xs ys zs tail

pub past_end : {A : Type 0} (xs : List A) (k : ℕ) (d : A) → length xs ≤ k → get_or xs k d ≡ d
past_end [] k d past = refl
past_end (x ∷ xs) zero d past = absurd (omega arith)
past_end (x ∷ xs) (suc k) d past = past_end xs k d (omega arith)

pub all_default : {A : Type 0} (n k : ℕ) (d : A) → get_or (replicate n d) k d ≡ d
all_default zero k d = refl
all_default (suc n) zero d = refl
all_default (suc n) (suc k) d = all_default n k d

pub set_default : {A : Type 0} (xs : List A) (k : ℕ) (d : A) → get_or (set xs k d) k d ≡ d
set_default [] k d = refl
set_default (x ∷ xs) zero d = refl
set_default (x ∷ xs) (suc k) d = set_default xs k d

pub taken_at : {A : Type 0} (xs : List A) (n k : ℕ) (d : A) → k < n → get_or (take n xs) k d ≡ get_or xs k d
taken_at xs zero k d lt = absurd (omega arith)
taken_at [] (suc n) k d lt = refl
taken_at (x ∷ xs) (suc n) zero d lt = refl
taken_at (x ∷ xs) (suc n) (suc k) d lt = taken_at xs n k d (omega arith)

pub dropped_at : {A : Type 0} (xs : List A) (n k : ℕ) (d : A) → get_or (drop n xs) k d ≡ get_or xs (n + k) d
dropped_at xs zero k d = ap (λ (n : ℕ). get_or xs n d) (omega arith)
dropped_at [] (suc n) k d = refl
dropped_at (x ∷ xs) (suc n) k d = dropped_at xs n k d ∙ ap (λ (m : ℕ). get_or (x ∷ xs) m d) {x = suc (n + k)} (omega arith)

pub left_at : {A : Type 0} (xs ys : List A) (k : ℕ) (d : A) → k < length xs → get_or (xs ++ ys) k d ≡ get_or xs k d
left_at [] ys k d lt = absurd (omega arith)
left_at (x ∷ xs) ys zero d lt = refl
left_at (x ∷ xs) ys (suc k) d lt = left_at xs ys k d (omega arith)

pub right_at : {A : Type 0} (xs ys : List A) (k : ℕ) (d : A) → get_or (xs ++ ys) (length xs + k) d ≡ get_or ys k d
right_at [] ys k d = ap (λ (n : ℕ). get_or ys n d) (omega arith)
right_at (x ∷ xs) ys k d = ap (λ (m : ℕ). get_or (x ∷ xs ++ ys) m d) {y = suc (length xs + k)} (omega arith) ∙ right_at xs ys k d
