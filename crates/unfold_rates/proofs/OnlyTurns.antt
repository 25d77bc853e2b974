-- Iterations one after the other come to one end.
use Rattle.std.proofs.Common.{◌≡◌, ℤ, List, [], ◌∷◌, Ok, ap, ap₂, sym, ◌∙◌, subst}
use Rattle.pisdf_meaning.specs.Endings.{End}
use Rattle.pisdf_meaning.specs.Run.{IterationGives, iteration_of}
use Rattle.pisdf_meaning.specs.declared.firing.Given.{Given}
use Rattle.pisdf_meaning.specs.declared.outcome.Iteration.{Iteration}
use Rattle.pisdf_meaning.proofs.OneRun.{iteration_once}
use Rattle.pisdf_model.specs.declared.graph.Graphs.{Graphs}
use Rattle.unfold_rates.specs.InTurn.{GiveInTurn}

module _ (graphs : Graphs) where
  gives_once : (ins state : List (List ℤ)) (one other : Iteration) (left last : List (List ℤ)) → IterationGives graphs ins state one left → IterationGives graphs ins state other last → (one ≡ other) × (left ≡ last)
  gives_once ins state one other left last x y =
      let ends : End = Ok x.given in
      let same : ends ≡ Ok y.given = iteration_once graphs ins state ends (Ok y.given) x.ends y.ends in
      let given : x.given ≡ y.given = cc in
      (x.iteration_is ∙ ap iteration_of given ∙ sym y.iteration_is, x.state_is ∙ ap (λ (v : Given). v.state) given ∙ sym y.state_is)

  pub turns_once : (all : List (List (List ℤ))) (state : List (List ℤ)) (its others : List Iteration) (left last : List (List ℤ)) → GiveInTurn graphs all state its left → GiveInTurn graphs all state others last → its ≡ others
  turns_once [] state its others left last x y = x.0 ∙ sym y.0
  turns_once (now ∷ all) state its others left last x y =
      let same = gives_once now state x.0 y.0 x.1 y.1 x.3 y.3 in
      let P : List (List ℤ) → Type 0 = λ s. GiveInTurn graphs all s y.2 last in
      let more = turns_once all x.1 x.2 y.2 left last x.4 (subst P (sym same.1) y.4) in
      x.5 ∙ ap₂ (λ (one : Iteration) (rest : List Iteration). one ∷ rest) same.0 more ∙ sym y.5
