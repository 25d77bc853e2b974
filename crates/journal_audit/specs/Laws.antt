-- What is true of every verdict.
use Rattle.std.specs.Prelude.{◌≡◌, ℕ, ℤ, List}
use Rattle.kernel_gate.specs.Signed.{SignatureView}
use Rattle.pisdf_model.specs.declared.graph.Graphs.{Graphs}
use Rattle.journal_audit.specs.Verdicts.{IsVerdict}
use Rattle.journal_audit.specs.declared.verdict.Verdict.{Verdict}

-- a text has at most one verdict
abbrev pub VerdictsAreOne : Type 0
VerdictsAreOne =
    (graphs : Graphs) (kernels : List SignatureView) (streams : List (List ℤ)) (iterations workers : ℕ) (text : List ℕ) (one other : Verdict) →
    IsVerdict graphs kernels streams iterations workers text one → IsVerdict graphs kernels streams iterations workers text other → one ≡ other
