-- What a list becomes when a part of it is written.
use Rattle.std.specs.Prelude.{ℕ, ◌-◌, List, ◌++◌, length, take, drop}

-- tokens written before a place
abbrev pub ended : {T : Type 0} → List T → List T → ℕ → List T
ended old w end = take (end - length w) old ++ (w ++ drop end old)
