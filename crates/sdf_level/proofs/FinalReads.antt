-- Each firing of an admissible list reads what it would read of the lines after all.
use Rattle.std.proofs.Common.{◌≡◌, ℕ, ◌+◌, ◌<◌, ◌≤◌, List, [], ◌∷◌, ◌++◌, slice_index, refl, ap, sym, ◌∙◌, arith}
use Rattle.sdf_level.specs.View.{LevelView}
use Rattle.sdf_level.specs.Invariants.{how_many}
use Rattle.sdf_level.specs.Firings.{firings, CanFire, CanFireAfter, EachFiring}
use Rattle.sdf_level.specs.Orders.{IsAdmissible}
use Rattle.sdf_level.specs.Run.{inputs, is_into_actor}
use Rattle.sdf_level.specs.LevelRun.{HaveDelays, HaveRates}
use Rattle.sdf_level.specs.Told.{Made, lines_of, lines_after, reads_after, final_reads}
use Rattle.sdf_level.proofs.FiringLists.{firings-moved}
use Rattle.sdf_level.proofs.Lines.{lines_same}
use Rattle.sdf_level.proofs.SameInputs.{inputs_later}

module _ {T : Type 0} (level : LevelView) (sources delays : List (List T)) (made : Made T) (starting : HaveDelays level.links delays) where
  pub reads_stay : (before later : ℕ → ℕ) (b : ℕ) → ((a : ℕ) → before a ≤ later a) → ((a j : ℕ) → j < later a → HaveRates a (made a j) level.links) → CanFireAfter level before b →
      inputs sources b (before b) level.links (lines_of made before level.links delays) ≡ inputs sources b (before b) level.links (lines_of made later level.links delays)
  reads_stay before later b less rated ready = inputs_later sources made later b (before b) before refl less level.links delays (how_many (is_into_actor b) level.links) starting rated ready

  module _ (q list : List ℕ) (rated : (a j : ℕ) → j < slice_index q a → HaveRates a (made a j) level.links) (admissible : IsAdmissible level q list) where
    from_place : (before rest : List ℕ) → ((a : ℕ) → firings a before + firings a rest ≤ slice_index q a) → EachFiring (CanFire level) before rest → EachFiring (λ at b. reads_after level sources delays made at b ≡ final_reads level sources delays made list at b) before rest
    from_place before [] within each = tt
    from_place before (b ∷ rest) within each =
        let all_same : lines_after level delays made list ≡ lines_of made (λ a. slice_index q a) level.links delays = lines_same made made (λ a. firings a list) (λ a. slice_index q a) level.links delays admissible.counts (λ a j h. refl) in
        let stays = reads_stay (λ a. firings a before) (λ a. slice_index q a) b (λ a. let w = within a in omega arith) rated each.0 in
        (stays ∙ sym (ap (inputs sources b (firings b before) level.links) all_same), from_place (before ++ b ∷ []) rest (λ a. let w = within a in let m = firings-moved a b before rest in omega arith) each.1)

    pub reads_final : EachFiring (λ at b. reads_after level sources delays made at b ≡ final_reads level sources delays made list at b) [] list
    reads_final = from_place [] list (λ a. let e = admissible.counts a in omega arith) admissible.each
