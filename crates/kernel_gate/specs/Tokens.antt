-- Numbers and lists of numbers as tokens, or the fault of the first that is none.
use Rattle.std.specs.Prelude.{ℕ, ℤ, pos, negsuc, ◌^◌, ◌-◌, nat_lt, ◌==◌, int_div, unsigned_abs, ◌+ℤ◌, ◌*ℤ◌, Bool, if◌then◌else◌, List, [], ◌∷◌, ◌++◌, length, take, drop, zip, slice_index_or, Result, Ok, Err}
use Rattle.std.specs.List.{range_with_len}
use Rattle.kernel_gate.specs.Codes.{overflow, division}
use Rattle.kernel_gate.specs.declared.fault.KernelFault.{KernelFault}

abbrev pub fault : ℕ → KernelFault
fault c = record { code = c }

abbrev pub is_token : ℤ → Bool
is_token (pos n) = nat_lt n (2 ^ 63)
is_token (negsuc n) = nat_lt n (2 ^ 63)

-- a whole number as a token
abbrev pub bounded : ℤ → Result ℤ KernelFault
bounded z = if is_token z then Ok z else Err (fault overflow)

-- a quotient, rounded towards zero
abbrev pub quotient : ℤ → ℤ → Result ℤ KernelFault
quotient a d = if unsigned_abs d == 0 then Err (fault division) else bounded (int_div a d)

-- the next value, or the fault of the one before
abbrev pub onward : Result ℤ KernelFault → (ℤ → Result ℤ KernelFault) → Result ℤ KernelFault
onward (Ok y) next = next y
onward (Err f) next = Err f

-- tokens in front of tokens
abbrev pub prepend : List ℤ → Result (List ℤ) KernelFault → Result (List ℤ) KernelFault
prepend ys (Ok zs) = Ok (ys ++ zs)
prepend ys (Err f) = Err f

-- a token in front of tokens
abbrev pub before : Result ℤ KernelFault → Result (List ℤ) KernelFault → Result (List ℤ) KernelFault
before (Ok y) rest = prepend (y ∷ []) rest
before (Err f) rest = Err f

-- the tokens of the items in their order, or the first fault
abbrev pub each : {A : Type 0} → (A → Result ℤ KernelFault) → List A → Result (List ℤ) KernelFault
each f [] = Ok []
each f (x ∷ xs) = before (f x) (each f xs)

-- the value that steps from the front lead to, or the first fault
abbrev pub running : {A : Type 0} → (ℤ → A → Result ℤ KernelFault) → ℤ → List A → Result ℤ KernelFault
running f a [] = Ok a
running f a (x ∷ xs) = onward (f a x) (λ b. running f b xs)

-- the places below a number
abbrev pub places : ℕ → List ℕ
places n = range_with_len 0 n

-- the token at a place
abbrev pub token : List ℤ → ℕ → ℤ
token xs n = slice_index_or xs n (pos 0)

-- the sum from the front
abbrev pub total : List ℤ → Result ℤ KernelFault
total xs = running (λ a t. bounded (a +ℤ t)) (pos 0) xs

-- the sum from the front, divided by the number of tokens
abbrev pub mean_of : List ℤ → Result ℤ KernelFault
mean_of xs = onward (total xs) (λ a. quotient a (pos (length xs)))

-- a partial sum and the product of two tokens
abbrev pub plus_product : ℤ → ℤ × ℤ → Result ℤ KernelFault
plus_product a p = onward (bounded (p.0 *ℤ p.1)) (λ m. bounded (a +ℤ m))

-- the sum of the products of tokens at one place, from the front
abbrev pub dot_product : List ℤ → List ℤ → Result ℤ KernelFault
dot_product xs zs = running plus_product (pos 0) (zip xs zs)

-- so many tokens from a place on
abbrev pub window : List ℤ → ℕ → ℕ → List ℤ
window xs n k = take k (drop n xs)

-- the last tokens, at most so many
abbrev pub last : ℕ → List ℤ → List ℤ
last w xs = drop (length xs - w) xs
