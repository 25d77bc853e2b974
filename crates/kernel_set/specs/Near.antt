-- Tokens near 0, and partial sums to which a part of them can be added.
use Rattle.std.specs.Prelude.{ℕ, ℤ, pos, ◌^◌, ◌<◌, ◌<ℤ◌, ◌+ℤ◌, List, [], ◌∷◌, length, take, slice_index_or, Result}
use Rattle.kernel_gate.specs.Tokens.{bounded, last}
use Rattle.kernel_gate.specs.declared.fault.KernelFault.{KernelFault}

abbrev pub IsNear : ℤ → Type 0
IsNear t = (t <ℤ pos (2 ^ 27)) × (pos 0 <ℤ (t +ℤ pos (2 ^ 27)))

abbrev pub AreNear : List ℤ → Type 0
AreNear xs = (n : ℕ) → n < length xs → IsNear (slice_index_or xs n (pos 0))

abbrev pub IsCentral : ℤ → Type 0
IsCentral a = (a <ℤ pos (2 ^ 62)) × (pos 0 <ℤ (a +ℤ pos (2 ^ 62)))

-- a partial sum and a token
abbrev pub plus : ℤ → ℤ → Result ℤ KernelFault
plus a t = bounded (a +ℤ t)

-- the sum of tokens, whatever its size
abbrev pub whole_sum : List ℤ → ℤ
whole_sum [] = pos 0
whole_sum (x ∷ xs) = x +ℤ whole_sum xs

-- the sum of the last tokens before a place
abbrev pub last_sum : ℕ → List ℤ → ℕ → ℤ
last_sum width xs n = whole_sum (last width (take n xs))
