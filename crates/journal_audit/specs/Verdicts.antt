-- What a verdict on a text says.
use Rattle.std.specs.Prelude.{ℕ, ℤ, List}
use Rattle.kernel_gate.specs.Signed.{SignatureView}
use Rattle.pisdf_model.specs.declared.graph.Graphs.{Graphs}
use Rattle.journal_audit.specs.FirstBad.{IsFirstBad, IsWholeWith}
use Rattle.journal_audit.specs.declared.verdict.Verdict.{Verdict}
use Rattle.journal_audit.specs.declared.verdict.Verdict.TheVariants.{Legal, Illegal}

-- the text is whole, with so many boards and entries, or a line of it is the first bad one
abbrev pub IsVerdict : Graphs → List SignatureView → List (List ℤ) → ℕ → ℕ → List ℕ → Verdict → Type 0
IsVerdict graphs kernels streams iterations workers text (Legal boards entries) = IsWholeWith graphs kernels streams iterations workers text boards entries
IsVerdict graphs kernels streams iterations workers text (Illegal line) = IsFirstBad graphs kernels streams iterations workers text line
