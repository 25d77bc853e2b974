-- How the text of a run's journals goes on.
use Rattle.std.specs.Prelude.{◌≡◌, ℕ, ◌+◌, ◌<◌, ◌≤◌, ◌^◌, ℤ, List, ◌++◌, length, None, Ok}
use Rattle.kernel_gate.specs.Laws.{GiveLengths}
use Rattle.kernel_gate.specs.Signed.{SignatureView, unnamed}
use Rattle.pisdf_model.specs.declared.graph.Graphs.{Graphs}
use Rattle.pisdf_meaning.specs.Run.{top_needs}
use Rattle.pisdf_meaning.specs.Sound.{AreValidFor}
use Rattle.pisdf_meaning.specs.declared.outcome.Iteration.{Iteration}
use Rattle.board_rules.specs.Entries.{Step}
use Rattle.board_rules.specs.Keys.{Key}
use Rattle.board_rules.specs.Legal.{AreLegal, journal_of}
use Rattle.quiescent_driver.specs.Iterated.{Checks, HaveIterated}
use Rattle.quiescent_driver.specs.Journals.{AreJournals, IsWholeText, journal_text, key_at}
use Rattle.quiescent_driver.specs.Streams.{rest_of}
use Rattle.quiescent_driver.specs.Texts.{joined}
use Rattle.quiescent_driver.specs.Top.{top_of}
use Rattle.journal_laws.specs.Steps.{BringsToEnd}
use Rattle.journal_laws.specs.Lines.{Shares, lines}

-- what a run of many workers is asked for
pub record MayRun (graphs : Graphs) (kernels : List SignatureView) (streams : List (List ℤ)) (iterations workers : ℕ) : Type 0 where
  pub valid : AreValidFor (unnamed kernels) graphs
  pub lengths : GiveLengths (unnamed kernels)
  pub fit : length streams ≡ length (top_of graphs).inputs
  pub some : 0 < workers
  pub few : workers ≤ 16
  pub small : iterations < 2 ^ 32

-- A run has come so far: these are the texts of the journals of its first boards, each at its end, the next board is there, and
-- these steps were taken on it.
pub record HasCome (graphs : Graphs) (kernels : List SignatureView) (streams : List (List ℤ)) (iterations workers : ℕ) (texts : List (List ℕ)) (state : List (List ℤ)) (taken : List Step) : Type 0 where
  pub journals : AreJournals graphs kernels streams workers 0 texts
  pub before : List Iteration
  pub done : HaveIterated graphs streams (length texts) before state
  pub one_more : length texts < iterations
  pub checks : Checks graphs (rest_of (length texts) (top_needs graphs) streams) (Ok None)
  pub legal : AreLegal (key_at graphs kernels streams workers (length texts) state) taken

-- the text so far
abbrev pub text_so_far : Key → List (List ℕ) → List Step → List ℕ
text_so_far key texts taken = joined texts ++ journal_text (length texts) (journal_of key taken)

-- it is the beginning of a whole text
abbrev pub TextsGoOn : Type 0
TextsGoOn =
    (graphs : Graphs) (kernels : List SignatureView) (streams : List (List ℤ)) (iterations workers : ℕ) (texts : List (List ℕ)) (state : List (List ℤ)) (taken : List Step) → MayRun graphs kernels streams iterations workers →
    HasCome graphs kernels streams iterations workers texts state taken →
    (rest : List ℕ) × IsWholeText graphs kernels streams iterations workers (text_so_far (key_at graphs kernels streams workers (length texts) state) texts taken ++ rest)

-- a whole text is that of these boards, of this board after these steps and further ones, and of later boards
pub record GoesOn (graphs : Graphs) (kernels : List SignatureView) (streams : List (List ℤ)) (workers : ℕ) (key : Key) (texts : List (List ℕ)) (taken : List Step) (text : List ℕ) : Type 0 where
  pub steps : List Step
  pub ends : BringsToEnd key taken steps
  pub later : List (List ℕ)
  pub journals : AreJournals graphs kernels streams workers (length texts + 1) later
  pub text_is : text ≡ text_so_far key texts (taken ++ steps) ++ joined later

-- each whole text with the lines of the text so far goes on from there
abbrev pub TextsAreOne : Type 0
TextsAreOne =
    (graphs : Graphs) (kernels : List SignatureView) (streams : List (List ℤ)) (iterations workers : ℕ) (texts : List (List ℕ)) (state : List (List ℤ)) (taken : List Step) (text : List ℕ) → MayRun graphs kernels streams iterations workers →
    HasCome graphs kernels streams iterations workers texts state taken → IsWholeText graphs kernels streams iterations workers text →
    Shares (length (lines (text_so_far (key_at graphs kernels streams workers (length texts) state) texts taken))) (text_so_far (key_at graphs kernels streams workers (length texts) state) texts taken) text →
    GoesOn graphs kernels streams workers (key_at graphs kernels streams workers (length texts) state) texts taken text

-- a whole text with all lines of a whole text is that text
abbrev pub WholeTextsEnd : Type 0
WholeTextsEnd =
    (graphs : Graphs) (kernels : List SignatureView) (streams : List (List ℤ)) (iterations workers : ℕ) (text other : List ℕ) → MayRun graphs kernels streams iterations workers →
    IsWholeText graphs kernels streams iterations workers text → IsWholeText graphs kernels streams iterations workers other →
    Shares (length (lines text)) text other → other ≡ text
