-- The making of an iteration.
use Rattle.std.specs.Prelude.{◌≡◌, ℤ, List, [], Result, Err, IfErr, IfOk, OnOk}
use Rattle.std.specs.Borrow.{Bor, MutBor}
use Rattle.kernel_gate.specs.Value.{lengths}
use Rattle.param_resolver.specs.EarlyCheck.{early_faults}
use Rattle.pisdf_model.specs.declared.graph.Graphs.{Graphs}
use Rattle.pisdf_meaning.specs.Run.{IterationEnds, IterationGives, top_needs}
use Rattle.pisdf_meaning.specs.declared.outcome.Delays.{Delays}
use Rattle.pisdf_meaning.specs.declared.outcome.Iteration.{Iteration}
use Rattle.pisdf_meaning.specs.declared.refusal.Refusal.{Refusal}
use Rattle.quiescent_driver.specs.Carrying.{Suits}
use Rattle.quiescent_driver.specs.Given.{IsTopState}
use Rattle.quiescent_driver.specs.declared.carried.Carried.{Carried}
use Rattle.quiescent_driver.specs.declared.stop.Stop.{Stop}
use Rattle.quiescent_driver.specs.declared.stop.Stop.TheVariants as stop

-- an iteration that has its tokens isn't done: this holds of its refusal, or there was no memory
abbrev pub StopsOnly : (Refusal → Type 0) → Stop → Type 0
StopsOnly P (stop.Short stream has needs) = ⊥
StopsOnly P (stop.Refused refusal) = P refusal
StopsOnly P stop.Memory = Unit {0}

-- an iteration can begin with this state and these tokens
pub record MayBegin (graphs : Graphs) (state ins : List (List ℤ)) : Type 0 where
  pub sound : early_faults graphs.graphs graphs.top [] ≡ []
  pub inputs : lengths ins ≡ top_needs graphs
  pub fits : IsTopState graphs state

-- it was made of them, and has left the state `next`, or isn't done
pub record IsMade (graphs : Graphs) (state ins next : List (List ℤ)) (result : Result Iteration Stop) : Type 0 where
  pub gives : IfOk result (λ i. IterationGives graphs ins state i next)
  pub stops : IfErr result (StopsOnly (λ refusal. IterationEnds graphs ins state (Err refusal)))
  pub left : OnOk result (IsTopState graphs next)

-- ---- a call that makes it

module _ (graphs : Graphs) where
  -- it may be called of whatever an iteration can begin with, and what suits these graphs
  abbrev pub MayMake : (MutBor Carried → MutBor Delays → Bor (List (List ℤ)) → Type 0) → Type 0
  MayMake pre =
      (carried : MutBor Carried) (delays : MutBor Delays) (ins : Bor (List (List ℤ)))
      → MayBegin graphs delays.now.lists ins.now → Suits graphs carried.now → pre carried delays ins

  -- and makes the iteration of it, and carries on what suits them
  abbrev pub Makes : (MutBor Carried → MutBor Delays → Bor (List (List ℤ)) → Result Iteration Stop → MutBor Carried → MutBor Delays → Type 0) → Type 0
  Makes post =
      (carried carried_left : MutBor Carried) (delays left : MutBor Delays) (ins : Bor (List (List ℤ))) (result : Result Iteration Stop)
      → MayBegin graphs delays.now.lists ins.now → Suits graphs carried.now → post carried delays ins result carried_left left
      → IsMade graphs delays.now.lists ins.now left.now.lists result × Suits graphs carried_left.now
