-- The journals of the boards of a run by many workers.
use Rattle.std.specs.Prelude.{◌≡◌, ℕ, ℤ, ◌+◌, List, [], ◌∷◌, ◌++◌, length, codes}
use Rattle.std.specs.Fmt.{decimal}
use Rattle.kernel_gate.specs.Signed.{SignatureView}
use Rattle.param_resolver.specs.EarlyCheck.{early_faults}
use Rattle.pisdf_model.specs.declared.graph.Graphs.{Graphs}
use Rattle.pisdf_meaning.specs.Run as run
use Rattle.pisdf_meaning.specs.declared.outcome.Iteration.{Iteration}
use Rattle.board_rules.specs.Keys.{Key}
use Rattle.board_rules.specs.declared.entry.Entry.{Entry}
use Rattle.board_rules.specs.declared.entry.Entry.TheVariants.{Claim, Finish}
use Rattle.board_rules.specs.declared.entry.ItemName.TheVariants.{Configure, Compile, Node}
use Rattle.quiescent_driver.specs.Endings.{IsWhole}
use Rattle.quiescent_driver.specs.Given.{key_with}
use Rattle.quiescent_driver.specs.Iterated.{HaveIterated}
use Rattle.quiescent_driver.specs.Streams.{rest_of}
use Rattle.quiescent_driver.specs.Texts.{joined}

-- ---- the text of a journal

-- a claim names the job, and the kind of its item with the item's number
abbrev pub entry_line : ℕ → Entry → List ℕ
entry_line n (Claim worker path (Configure place)) =
    joined (codes "claim," ∷ decimal n ∷ codes "," ∷ decimal worker ∷ codes "," ∷ path ∷ codes ",configure," ∷ decimal place ∷ codes "\n" ∷ [])
entry_line n (Claim worker path Compile) = joined (codes "claim," ∷ decimal n ∷ codes "," ∷ decimal worker ∷ codes "," ∷ path ∷ codes ",compile,0\n" ∷ [])
entry_line n (Claim worker path (Node node)) =
    joined (codes "claim," ∷ decimal n ∷ codes "," ∷ decimal worker ∷ codes "," ∷ path ∷ codes ",node," ∷ decimal node ∷ codes "\n" ∷ [])
entry_line n (Finish worker) = joined (codes "finish," ∷ decimal n ∷ codes "," ∷ decimal worker ∷ codes "\n" ∷ [])

-- a line for each entry of a journal of iteration n
abbrev pub journal_text : ℕ → List Entry → List ℕ
journal_text n [] = []
journal_text n (entry ∷ entries) = entry_line n entry ++ journal_text n entries

-- ---- the journal of an iteration

-- the key of the board of iteration n, over these kernels, which begins with this state
abbrev pub key_at : Graphs → List SignatureView → List (List ℤ) → ℕ → ℕ → List (List ℤ) → Key
key_at graphs kernels streams workers n state =
    key_with graphs kernels state (run.taken (run.top_needs graphs) (rest_of n (run.top_needs graphs) streams)) workers

-- the text of a legal journal that has ended, of the board of iteration n after the iterations before
pub record IsJournalText (graphs : Graphs) (kernels : List SignatureView) (streams : List (List ℤ)) (workers n : ℕ) (text : List ℕ) : Type 0 where
  pub before : List Iteration
  pub state : List (List ℤ)
  pub done : HaveIterated graphs streams n before state
  pub entries : List Entry
  pub whole : IsWhole (key_at graphs kernels streams workers n state) entries
  pub text_is : text ≡ journal_text n entries

-- ---- how many boards there are

-- one for an iteration that is refused, unless its early check refuses it
abbrev pub boards_at_end : {T : Type 0} → List T → run.RunEnd → ℕ
boards_at_end [] (run.Done left) = 0
boards_at_end [] (run.Short lack) = 0
boards_at_end [] (run.Refused refusal) = 1
boards_at_end (fault ∷ faults) end = 0

-- and one for each iteration that is done
abbrev pub boards : Graphs → run.Run → ℕ
boards graphs r = length r.iterations + boards_at_end (early_faults graphs.graphs graphs.top []) r.end

-- ---- the journals of a run

-- the texts of the journals of boards one after another, the first of which is that of iteration n
abbrev pub AreJournals : Graphs → List SignatureView → List (List ℤ) → ℕ → ℕ → List (List ℕ) → Type 0
AreJournals graphs kernels streams workers n [] = Unit {0}
AreJournals graphs kernels streams workers n (text ∷ texts) = IsJournalText graphs kernels streams workers n text × AreJournals graphs kernels streams workers (n + 1) texts

-- the text of the journals of all boards of a run
pub record IsWholeText (graphs : Graphs) (kernels : List SignatureView) (streams : List (List ℤ)) (iterations workers : ℕ) (text : List ℕ) : Type 0 where
  pub r : run.Run
  pub is_run : run.IsRun graphs streams iterations r
  pub texts : List (List ℕ)
  pub all : length texts ≡ boards graphs r
  pub journals : AreJournals graphs kernels streams workers 0 texts
  pub text_is : text ≡ joined texts
