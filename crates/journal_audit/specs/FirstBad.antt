-- The first line of a text with which no whole text of a run's journals begins.
use Rattle.std.specs.Prelude.{◌≡◌, ℕ, ◌-◌, ◌≤◌, ℤ, List, length}
use Rattle.kernel_gate.specs.Signed.{SignatureView}
use Rattle.pisdf_model.specs.declared.graph.Graphs.{Graphs}
use Rattle.quiescent_driver.specs.Journals.{IsWholeText}
use Rattle.journal_laws.specs.Lines.{Shares, lines}

-- the whole text of a run's journals, one for each of so many boards, with so many entries in all: each has a line
pub record IsWholeWith (graphs : Graphs) (kernels : List SignatureView) (streams : List (List ℤ)) (iterations workers : ℕ) (text : List ℕ) (boards entries : ℕ) : Type 0 where
  pub whole : IsWholeText graphs kernels streams iterations workers text
  pub boards_are : boards ≡ length whole.texts
  pub entries_are : entries ≡ length (lines text)

-- Line n, counted from 1, is the first at which no whole text has the same lines up to it and with it. Of a text that only ends
-- too early that is the line after its last.
pub record IsFirstBad (graphs : Graphs) (kernels : List SignatureView) (streams : List (List ℤ)) (iterations workers : ℕ) (text : List ℕ) (n : ℕ) : Type 0 where
  pub not_whole : ¬ (IsWholeText graphs kernels streams iterations workers text)
  pub counted : 1 ≤ n
  pub good : List ℕ
  pub is_good : IsWholeText graphs kernels streams iterations workers good
  pub before : Shares (n - 1) text good
  pub none : (other : List ℕ) → IsWholeText graphs kernels streams iterations workers other → ¬ (Shares n text other)
