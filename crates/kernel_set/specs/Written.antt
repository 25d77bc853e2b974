-- What a loop that writes tokens leaves.
use Rattle.std.specs.Prelude.{◌≡◌, ℤ, List, [], ◌∷◌, Result, Ok, Err, MatchResult}
use Rattle.kernel_gate.specs.declared.fault.KernelFault.{KernelFault}

-- the result says whether there are tokens, and then they were written
abbrev pub Writes : Result (List ℤ) KernelFault → Result (Unit {0}) KernelFault → List ℤ → Type 0
Writes v r o = MatchResult r (λ _. v ≡ Ok o) (λ f. v ≡ Err f)

-- a token as the only one
abbrev pub alone : Result ℤ KernelFault → Result (List ℤ) KernelFault
alone (Ok t) = Ok (t ∷ [])
alone (Err f) = Err f
