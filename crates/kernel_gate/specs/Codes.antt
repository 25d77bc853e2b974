-- The codes of a kernel's refusal.
use Rattle.std.specs.Prelude.{ℕ}

-- a value lies outside i64
abbrev pub overflow : ℕ
overflow = 1

-- a divisor is 0
abbrev pub division : ℕ
division = 2

-- the lengths don't fit the kernel
abbrev pub shape : ℕ
shape = 3

-- an argument or a token isn't one that the kernel takes
abbrev pub value : ℕ
value = 4
