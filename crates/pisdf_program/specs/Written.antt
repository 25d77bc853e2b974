-- What was written of the texts of a command.
use Rattle.std.specs.Prelude.{◌≡◌, ℕ, zero, suc, ℤ, List, [], ◌∷◌, ◌++◌, map, take, Option}
use Rattle.kernel_gate.specs.Table.{the_signatures}
use Rattle.outer_world.specs.Sink.{Grows}
use Rattle.pisdf_model.specs.declared.graph.Graphs.{Graphs}
use Rattle.quiescent_driver.specs.Journals.{IsJournalText}
use Rattle.quiescent_driver.specs.Runs.{GrowsPartly}
use Rattle.quiescent_driver.specs.Texts.{joined}

-- these bytes, or the text of a journal of iteration `number` of a run by so many workers, whose steps may come in many orders
pub data Text : Type 0 where
  Exactly : (bytes : List ℕ) → Text
  JournalOf : (graphs : Graphs) (streams : List (List ℤ)) (workers number : ℕ) → Text

abbrev pub exactly : List (List ℕ) → List Text
exactly texts = map (λ (bytes : List ℕ). Exactly bytes) texts

-- the journals of the first so many iterations
abbrev pub journals : Graphs → List (List ℤ) → ℕ → ℕ → List Text
journals graphs streams workers zero = []
journals graphs streams workers (suc n) = journals graphs streams workers n ++ JournalOf graphs streams workers n ∷ []

abbrev pub IsText : Text → List ℕ → Type 0
IsText (Exactly bytes) written = written ≡ bytes
IsText (JournalOf graphs streams workers number) written = IsJournalText graphs the_signatures streams workers number written

-- these were written, one for each text
abbrev pub AreTexts : List Text → List (List ℕ) → Type 0
AreTexts [] [] = Unit {0}
AreTexts [] (bytes ∷ written) = ⊥
AreTexts (text ∷ texts) [] = ⊥
AreTexts (text ∷ texts) (bytes ∷ written) = IsText text bytes × AreTexts texts written

-- where it is told what was written, all these texts were
abbrev pub Wrote : Option (List ℕ) → Option (List ℕ) → List Text → Type 0
Wrote had has texts = (written : List (List ℕ)) × AreTexts texts written × Grows had has (joined written)

-- the first of them, each whole
abbrev pub WroteFirst : Option (List ℕ) → Option (List ℕ) → List Text → Type 0
WroteFirst had has texts = (count : ℕ) × Wrote had has (take count texts)

-- a beginning of the first of them
abbrev pub WrotePartly : Option (List ℕ) → Option (List ℕ) → List Text → Type 0
WrotePartly had has texts = (count : ℕ) × (written : List (List ℕ)) × AreTexts (take count texts) written × GrowsPartly had has (joined written)
