-- What is answered is the one end of the iteration.
use Rattle.std.proofs.Common.{◌≡◌, ℤ, List, [], ◌⊎◌, inl, inr, Result, Ok, Err, IfOk, IfErr, OnErr, refl, ap, sym, ◌∙◌, subst}
use Rattle.kernel_gate.specs.Value.{lengths}
use Rattle.param_resolver.specs.EarlyCheck.{early_faults}
use Rattle.pisdf_model.specs.declared.graph.Graph.{Graph}
use Rattle.pisdf_model.specs.declared.graph.Graphs.{Graphs}
use Rattle.pisdf_meaning.specs.Endings.{End}
use Rattle.pisdf_meaning.specs.Laws.{HasOneMeaning}
use Rattle.pisdf_meaning.specs.Meaning.{Means}
use Rattle.pisdf_meaning.specs.Run.{IterationEnds, IterationGives, iteration_of, top_firing}
use Rattle.pisdf_meaning.specs.Sizes.{KeepsSizes}
use Rattle.pisdf_meaning.specs.declared.firing.Given.{Given}
use Rattle.pisdf_meaning.specs.declared.outcome.Delays.{Delays}
use Rattle.pisdf_meaning.specs.declared.outcome.Iteration.{Iteration}
use Rattle.pisdf_meaning.specs.declared.refusal.Refusal.{Refusal}
use Rattle.board_journal.specs.View.{JournalView}
use Rattle.quiescent_driver.specs.Endings.{IfRefused}
use Rattle.quiescent_driver.specs.Given.{IsTopState}
use Rattle.quiescent_driver.specs.declared.fault.IterationFault.{IterationFault}
use Rattle.quiescent_driver.specs.declared.fault.IterationFault.TheVariants.{Refused, Memory}

abbrev Answered : Type 0
Answered = Result (Iteration × JournalView) IterationFault

-- an iteration has only one end
one_end : (graphs : Graphs) (ins state : List (List ℤ)) (one other : End) → HasOneMeaning graphs.graphs → IterationEnds graphs ins state one → IterationEnds graphs ins state other → one ≡ other
one_end graphs ins state one other law a b =
    let same : a.top ≡ b.top = let e = sym a.top_is ∙ b.top_is in cc in
    let P : Graph → Type 0 = λ t. Means graphs.graphs (top_firing t graphs.top ins state) one in
    law (top_firing b.top graphs.top ins state) one other (subst P same a.means) b.means

module _ (graphs : Graphs) (ins state : List (List ℤ)) (law : HasOneMeaning graphs.graphs) where
  -- where an iteration gives something, nothing else is answered
  pub only_given : (result : Answered) (after : List (List ℤ)) → IfOk result (λ r. IterationGives graphs ins state r.0 after) → IfErr result (IfRefused (λ refusal. IterationEnds graphs ins state (Err refusal))) →
      (iteration : Iteration) (later : List (List ℤ)) → IterationGives graphs ins state iteration later → ((journal : JournalView) × (result ≡ Ok (iteration, journal)) × (after ≡ later)) ⊎ (result ≡ Err Memory)
  only_given (Ok (one, journal)) after gives refused iteration later other =
      let same : gives.given ≡ other.given = let e = one_end graphs ins state (Ok gives.given) (Ok other.given) law gives.ends other.ends in cc in
      inl (journal, ap (λ (i : Iteration). Ok (i, journal)) (gives.iteration_is ∙ ap iteration_of same ∙ sym other.iteration_is), gives.state_is ∙ ap (λ (x : Given). x.state) same ∙ sym other.state_is)
  only_given (Err (Refused refusal journal)) after gives refused iteration later other =
      let e : Err refusal ≡ Ok other.given = one_end graphs ins state (Err refusal) (Ok other.given) law refused other.ends in cc
  only_given (Err Memory) after gives refused iteration later other = inr refl

  -- where it is refused, nothing else is answered
  pub only_refused : (result : Answered) (after : List (List ℤ)) → IfOk result (λ r. IterationGives graphs ins state r.0 after) → IfErr result (IfRefused (λ refusal. IterationEnds graphs ins state (Err refusal))) →
      (refusal : Refusal) → IterationEnds graphs ins state (Err refusal) → ((journal : JournalView) × (result ≡ Err (Refused refusal journal))) ⊎ (result ≡ Err Memory)
  only_refused (Ok (one, journal)) after gives refused refusal other =
      let e : Ok gives.given ≡ Err refusal = one_end graphs ins state (Ok gives.given) (Err refusal) law gives.ends other in cc
  only_refused (Err (Refused one journal)) after gives refused refusal other =
      let e : Err one ≡ Err refusal = one_end graphs ins state (Err one) (Err refusal) law refused other in
      let same : one ≡ refusal = cc in
      inl (journal, ap (λ r. Err (Refused r journal)) same)
  only_refused (Err Memory) after gives refused refusal other = inr refl

-- the state that is left is such as the next iteration begins with
module _ (graphs : Graphs) (ins state : List (List ℤ)) (keeps : KeepsSizes graphs.graphs) (sound : early_faults graphs.graphs graphs.top [] ≡ []) (first : IsTopState graphs state) where
  pub state_given : (iteration : Iteration) (after : List (List ℤ)) → IterationGives graphs ins state iteration after → IsTopState graphs after
  state_given iteration after gives =
      ap lengths gives.state_is ∙ (keeps (top_firing gives.ends.top graphs.top ins state) gives.given sound first gives.ends.means).state

  pub state_left : (result : Answered) (before after : Delays) → before.lists ≡ state → IfOk result (λ r. IterationGives graphs ins state r.0 after.lists) → OnErr result (after ≡ before) → IsTopState graphs after.lists
  state_left (Ok (one, journal)) before after first_is gives unchanged = state_given one after.lists gives
  state_left (Err fault) before after first_is gives unchanged = ap lengths (ap (λ (d : Delays). d.lists) unchanged ∙ first_is) ∙ first
