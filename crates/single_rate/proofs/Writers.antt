-- Writers, as their pieces need them.
use Rattle.std.proofs.Common.{ℕ, List}
use Rattle.single_rate.specs.declared.part.Part.{Part}
use Rattle.single_rate.specs.Wires.{Writer}

abbrev pub writer_of : ℕ → List Part → List Part → ℕ → Part → ℕ → ℕ → ℕ → Writer
writer_of l writers before i part many a e = record { link = l; writers = writers; before = before; number = i; part = part; many = many; start = a; end = e }
