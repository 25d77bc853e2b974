-- A run of a graph comes to one end.
use Rattle.std.proofs.Common.{◌≡◌, ℕ, zero, suc, ℤ, List, slice_get, Option, Some, None, Result, Ok, Err, ap, sym, ◌∙◌, subst}
use Rattle.pisdf_model.specs.declared.graph.Graph.{Graph}
use Rattle.pisdf_model.specs.declared.graph.Graphs.{Graphs}
use Rattle.pisdf_meaning.specs.Endings.{End}
use Rattle.pisdf_meaning.specs.Meaning.{Means}
use Rattle.pisdf_meaning.specs.Run.{AfterCheck, GoesOn, IterationEnds, Iterates, Lack, Run, RunsFrom, after, after_early, first_lack, iteration_of, left_by, taken, top_firing, top_needs}
use Rattle.pisdf_meaning.specs.declared.refusal.Refusal.{Refusal}
use Rattle.pisdf_meaning.proofs.OneMeaning.{means_once}

module _ (graphs : Graphs) where
  same_top : (g h : Graph) → slice_get graphs.graphs graphs.top ≡ Some g → slice_get graphs.graphs graphs.top ≡ Some h → h ≡ g
  same_top g h f k = let both : Some h ≡ Some g = sym k ∙ f in cc

  pub iteration_once : (inputs state : List (List ℤ)) (a b : End) → IterationEnds graphs inputs state a → IterationEnds graphs inputs state b → a ≡ b
  iteration_once inputs state a b f h =
      let P : Graph → Type 0 = λ g. Means graphs.graphs (top_firing g graphs.top inputs state) b in
      means_once graphs.graphs (top_firing f.top graphs.top inputs state) a b f.means (subst P (same_top f.top h.top f.top_is h.top_is) h.means)

  module _ (rest : List (List ℤ) → List (List ℤ) → Run → Type 0) (once : (state streams : List (List ℤ)) (one other : Run) → rest state streams one → rest state streams other → one ≡ other) (state streams : List (List ℤ)) (one other : Run) where
    abbrev onward : List (List ℤ) → Run → Type 0
    onward s run = rest s (left_by (top_needs graphs) streams) run

    goes_once : (end : End) → GoesOn onward end one → GoesOn onward end other → one ≡ other
    goes_once (Ok given) f h = f.2 ∙ ap (after (iteration_of given)) (once given.state (left_by (top_needs graphs) streams) f.0 h.0 f.1 h.1) ∙ sym h.2
    goes_once (Err refusal) f h = f ∙ sym h

    iterates_once : (lack : Option Lack) → Iterates graphs rest state streams lack one → Iterates graphs rest state streams lack other → one ≡ other
    iterates_once (Some lack) f h = f ∙ sym h
    iterates_once None f h =
        let same = iteration_once (taken (top_needs graphs) streams) state h.0 f.0 h.1 f.1 in
        let P : End → Type 0 = λ end. GoesOn onward end other in
        goes_once f.0 f.2 (subst P same h.2)

    checked_once : (r : Result (Option Lack) Refusal) → AfterCheck graphs rest state streams r one → AfterCheck graphs rest state streams r other → one ≡ other
    checked_once (Ok lack) f h = iterates_once lack f h
    checked_once (Err refusal) f h = f ∙ sym h

  pub run_once : (n : ℕ) (state streams : List (List ℤ)) (one other : Run) → RunsFrom graphs n state streams one → RunsFrom graphs n state streams other → one ≡ other
  run_once zero state streams one other f h = f ∙ sym h
  run_once (suc n) state streams one other f h =
      let P : Graph → Type 0 = λ g. AfterCheck graphs (RunsFrom graphs n) state streams (after_early graphs g (first_lack 0 (top_needs graphs) streams)) other in
      checked_once (RunsFrom graphs n) (run_once n) state streams one other (after_early graphs f.0 (first_lack 0 (top_needs graphs) streams)) f.2 (subst P (same_top f.0 h.0 f.1 h.1) h.2)
