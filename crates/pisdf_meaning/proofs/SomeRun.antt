-- A run of a graph has an end.
use Rattle.std.proofs.Common.{◌≡◌, ℕ, zero, suc, ℤ, List, [], length, map, slice_get, Option, Some, None, Result, Ok, Err, refl}
use Rattle.param_resolver.specs.EarlyCheck.{early_faults}
use Rattle.pisdf_model.specs.declared.graph.Graph.{Graph}
use Rattle.pisdf_model.specs.declared.graph.Graphs.{Graphs}
use Rattle.pisdf_meaning.specs.Endings.{End}
use Rattle.pisdf_meaning.specs.Meaning.{Means}
use Rattle.pisdf_meaning.specs.Run.{AfterCheck, GoesOn, Iterates, Lack, Run, RunsFrom, after, after_early, ended, first_lack, iteration_of, left_by, taken, top_firing, top_needs, Done, Short, Refused}
use Rattle.pisdf_meaning.specs.declared.refusal.Refusal.{Refusal}
use Rattle.pisdf_meaning.proofs.SomeMeaning.{SomeEnd, unrefused}

module _ (graphs : Graphs) (top : Graph) (top_is : slice_get graphs.graphs graphs.top ≡ Some top)
    (means : early_faults graphs.graphs graphs.top [] ≡ [] → (inputs state : List (List ℤ)) → SomeEnd (Means graphs.graphs) (top_firing top graphs.top inputs state)) where
  module _ (rest : List (List ℤ) → List (List ℤ) → Run → Type 0) (more : (state streams : List (List ℤ)) → (run : Run) × rest state streams run) (state streams : List (List ℤ)) where
    abbrev onward : List (List ℤ) → Run → Type 0
    onward s run = rest s (left_by (top_needs graphs) streams) run

    goes_some : (end : End) → (run : Run) × GoesOn onward end run
    goes_some (Ok given) = let later = more given.state (left_by (top_needs graphs) streams) in (after (iteration_of given) later.0, (later.0, later.1, refl))
    goes_some (Err refusal) = (ended (Refused refusal), refl)

    iterates_some : early_faults graphs.graphs graphs.top [] ≡ [] → (lack : Option Lack) → (run : Run) × Iterates graphs rest state streams lack run
    iterates_some sound (Some lack) = (ended (Short lack), refl)
    iterates_some sound None =
        let end = means sound (taken (top_needs graphs) streams) state in
        let run = goes_some end.0 in
        (run.0, (end.0, record { top = top; top_is = top_is; means = end.1 }, run.1))

    checked_some : (r : Result (Option Lack) Refusal) → ((lack : Option Lack) → r ≡ Ok lack → early_faults graphs.graphs graphs.top [] ≡ []) → (run : Run) × AfterCheck graphs rest state streams r run
    checked_some (Ok lack) sound = iterates_some (sound lack refl) lack
    checked_some (Err refusal) sound = (ended (Refused refusal), refl)

  pub run_some : (n : ℕ) (state streams : List (List ℤ)) → (run : Run) × RunsFrom graphs n state streams run
  run_some zero state streams = (ended (Done (map (λ (tokens : List ℤ). length tokens) streams)), refl)
  run_some (suc n) state streams =
      let run = checked_some (RunsFrom graphs n) (run_some n) state streams (after_early graphs top (first_lack 0 (top_needs graphs) streams))
      (λ lack is. (unrefused graphs.graphs top top.name (early_faults graphs.graphs graphs.top []) (first_lack 0 (top_needs graphs) streams) lack is).0) in
      (run.0, (top, top_is, run.1))
