-- The graphs of a file, one after the other.
use Rattle.std.proofs.Common.{◌≡◌, ℕ, ◌<◌, List, [], length, take, All, Result, Ok, Err, sym, subst, get_or}
use Rattle.std.specs.List.{flat_map}
use Rattle.std.specs.Result.{IsErrAnd}
use Rattle.std.proofs.lemmas.List.Elements.{All-get_or}
use Rattle.pisdf_model.specs.Details.{Refuses, Answers}
use Rattle.pisdf_model.specs.ParamOrder.{order_faults, RefersToParams}
use Rattle.pisdf_model.specs.declared.detail_fault.DetailFault.{DetailFault}
use Rattle.pisdf_model.specs.declared.graph.Graph.{Graph}
use Rattle.pisdf_model.proofs.Lists.{refuses_at}

module _ (graphs items : List Graph) (i : ℕ) (read : Graph) (are : items ≡ graphs) (inside : i < length items) (is : read ≡ get_or items i read) where
  pub item_refers : All (λ (g : Graph). RefersToParams g) graphs → RefersToParams read
  item_refers refers =
      let P : Graph → Type 0 = λ g. RefersToParams g in
      subst P (sym is) (All-get_or P items i read inside (rw are refers))

  pub refuses_item : (fault : DetailFault (List ℕ)) → flat_map order_faults (take i items) ≡ [] → Refuses (order_faults read) fault → Refuses (flat_map order_faults graphs) fault
  refuses_item fault none refused =
      let P : Graph → Type 0 = λ g. Refuses (order_faults g) fault in
      rw (← are) (refuses_at order_faults items i read fault inside none (subst P is refused))

-- a fault that is passed on as it is
pub passed_on : {D U : Type 0} → (details : List D) (result : Result U (DetailFault D)) (fault : DetailFault D) → IsErrAnd result (λ f. f ≡ fault) → Refuses details fault → Answers details result
passed_on details (Ok done) fault is refused = absurd is
passed_on details (Err f) fault is refused = rw is refused
