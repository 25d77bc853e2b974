-- How far a text was read.
use Rattle.std.specs.Prelude.{◌≡◌, ◌≢◌, ℕ, ◌+◌, ◌==◌, ◌≤◌, ℤ, List, [], ◌∷◌, ◌++◌, drop, length, take, if◌then◌else◌}
use Rattle.kernel_gate.specs.Signed.{SignatureView}
use Rattle.pisdf_model.specs.declared.graph.Graphs.{Graphs}
use Rattle.pisdf_meaning.specs.declared.outcome.Iteration.{Iteration}
use Rattle.board_rules.specs.Entries.{Step}
use Rattle.board_rules.specs.Keys.{Key}
use Rattle.board_rules.specs.Legal.{AreLegal, HasEnded, journal_of}
use Rattle.board_rules.specs.declared.entry.Entry.{Entry}
use Rattle.quiescent_driver.specs.Iterated.{HaveIterated}
use Rattle.quiescent_driver.specs.Journals.{AreJournals, IsWholeText, entry_line, key_at}
use Rattle.quiescent_driver.specs.Texts.{joined}
use Rattle.journal_laws.specs.Lines.{lines}
use Rattle.journal_laws.specs.Texts.{HasCome, text_so_far}
use Rattle.journal_audit.specs.declared.auditing.Next.{Next}
use Rattle.journal_audit.specs.declared.auditing.Next.TheVariants as next
use Rattle.journal_audit.specs.declared.auditing.Reading.{Reading}

-- the first line of a text, with its line feed, if it has one; empty where the text is
abbrev pub first_line : List ℕ → List ℕ
first_line [] = []
first_line (byte ∷ text) = if byte == 10 then byte ∷ [] else byte ∷ first_line text

-- the text is made of whole lines, whatever follows it
abbrev pub AreWholeLines : List ℕ → Type 0
AreWholeLines text = (rest : List ℕ) → lines (text ++ rest) ≡ lines text ++ lines rest

-- no step that may come next has this line
abbrev pub NoStepWrites : Key → ℕ → List Step → List ℕ → Type 0
NoStepWrites key n taken line =
    (e : Step) (entry : Entry) → AreLegal key (taken ++ e ∷ []) → journal_of key (taken ++ e ∷ []) ≡ journal_of key taken ++ entry ∷ [] → line ≢ entry_line n entry

-- so many bytes of the journal were read, which are this text of whole lines
pub record HasRead (journal text : List ℕ) (reading : Reading) : Type 0 where
  pub inside : reading.bytes ≤ length journal
  pub text_is : take reading.bytes journal ≡ text
  pub whole_lines : AreWholeLines text
  pub lines_are : reading.lines ≡ length (lines text)
  pub few : reading.lines + reading.lines ≤ reading.bytes

-- lines of two bytes at least were read, of no more bytes than there are
pub record FitsReading (journal : List ℕ) (reading : Reading) : Type 0 where
  pub inside : reading.bytes ≤ length journal
  pub few : reading.lines + reading.lines ≤ reading.bytes

-- the journals of the first n boards, which left this state
pub record HasReadBoards (graphs : Graphs) (kernels : List SignatureView) (streams : List (List ℤ)) (workers : ℕ) (journal : List ℕ) (n : ℕ) (state : List (List ℤ)) (reading : Reading) : Type 0 where
  pub texts : List (List ℕ)
  pub many : length texts ≡ n
  pub boards_are : reading.boards ≡ n
  pub journals : AreJournals graphs kernels streams workers 0 texts
  pub before : List Iteration
  pub done : HaveIterated graphs streams n before state
  pub read : HasRead journal (joined texts) reading

-- the journals of all boards
pub record HasReadAll (graphs : Graphs) (kernels : List SignatureView) (streams : List (List ℤ)) (iterations workers : ℕ) (journal : List ℕ) (reading : Reading) : Type 0 where
  pub text : List ℕ
  pub whole : IsWholeText graphs kernels streams iterations workers text
  pub boards_are : reading.boards ≡ length whole.texts
  pub read : HasRead journal text reading

-- the journal of a board that hasn't ended, and with none of whose next steps the text goes on
pub record HasReadPart (graphs : Graphs) (kernels : List SignatureView) (streams : List (List ℤ)) (iterations workers : ℕ) (journal : List ℕ) (reading : Reading) : Type 0 where
  pub texts : List (List ℕ)
  pub state : List (List ℤ)
  pub taken : List Step
  pub come : HasCome graphs kernels streams iterations workers texts state taken
  pub read : HasRead journal (text_so_far (key_at graphs kernels streams workers (length texts) state) texts taken) reading
  pub not_ended : ¬ (HasEnded (key_at graphs kernels streams workers (length texts) state) taken)
  pub none_next : NoStepWrites (key_at graphs kernels streams workers (length texts) state) (length texts) taken (first_line (drop reading.bytes journal))

-- what was read, where this comes next
abbrev pub HasReadTo : Graphs → List SignatureView → List (List ℤ) → ℕ → ℕ → List ℕ → ℕ → List (List ℤ) → Reading → Next → Type 0
HasReadTo graphs kernels streams iterations workers journal n state reading next.Board = HasReadBoards graphs kernels streams workers journal n state reading
HasReadTo graphs kernels streams iterations workers journal n state reading next.Nothing = HasReadAll graphs kernels streams iterations workers journal reading
HasReadTo graphs kernels streams iterations workers journal n state reading next.Bad = HasReadPart graphs kernels streams iterations workers journal reading

-- where no board comes next
abbrev pub HasReadUp : Graphs → List SignatureView → List (List ℤ) → ℕ → ℕ → List ℕ → Reading → Next → Type 0
HasReadUp graphs kernels streams iterations workers journal reading next.Board = ⊥
HasReadUp graphs kernels streams iterations workers journal reading next.Nothing = HasReadAll graphs kernels streams iterations workers journal reading
HasReadUp graphs kernels streams iterations workers journal reading next.Bad = HasReadPart graphs kernels streams iterations workers journal reading
