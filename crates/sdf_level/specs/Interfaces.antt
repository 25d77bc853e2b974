-- What a source gives and what a sink keeps.
use Rattle.std.specs.Prelude.{ℕ, zero, suc, ◌+◌, ◌-◌, ◌%◌, List, [], ◌++◌, length, take, drop}

-- where element i of a list of r elements stands, that is repeated without end
abbrev pub repeated_place : ℕ → ℕ → ℕ
repeated_place r i = i % r

-- that element, alone in a list
abbrev pub repeat : {T : Type 0} → List T → ℕ → List T
repeat t i = take 1 (drop (repeated_place (length t) i) t)

-- n elements of the repeated list, from element i on
abbrev pub repeated : {T : Type 0} → List T → ℕ → ℕ → List T
repeated t i zero = []
repeated t i (suc n) = repeat t i ++ repeated t (i + 1) n

-- where the last r of so many elements begin
abbrev pub last_place : ℕ → ℕ → ℕ
last_place total r = total - r

-- The last r elements. Of fewer than r it is all. This doesn't arise at a sink whose rate is r: all firings of a repetition
-- vector write at least r tokens to it, and so it keeps exactly r, by the law `KeepsRates`.
abbrev pub last : {T : Type 0} → ℕ → List T → List T
last r t = drop (last_place (length t) r) t
