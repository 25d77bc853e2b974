-- The first failure of a job.
use Rattle.std.proofs.Common.{◌≡◌, ℕ, zero, suc, ◌+◌, ◌<◌, ◌≤◌, ⊎_elim, List, Option, Some, None, Result, Ok, Err, refl, ap, sym, ◌∙◌, arith}
use Rattle.std.proofs.lemmas.Bool.{cases_eq}
use Rattle.sdf_level.specs.Run.{Fire}
use Rattle.sdf_level.specs.declared.node.Node.{Node}
use Rattle.sdf_level.specs.declared.node.Node.TheVariants as node
use Rattle.single_rate.specs.Nodes.{kind}
use Rattle.job_flow.specs.Frames.{Values}
use Rattle.job_flow.specs.Events.{Allows}
use Rattle.job_flow.specs.Outcomes.{Failure, failure_or, failure_from}

-- firings alone fail
pub failed-fires : {T F : Type 0} (fire : Fire T F) (m : Node) (ins : List (List T)) (fault : F) → Allows fire m ins (Err fault) → kind m ≡ 2
failed-fires fire (node.Source s) ins fault allowed = absurd allowed
failed-fires fire (node.Init l) ins fault allowed = absurd allowed
failed-fires fire (node.Firing a k) ins fault allowed = refl
failed-fires fire (node.End l) ins fault allowed = absurd allowed
failed-fires fire (node.Sink t) ins fault allowed = absurd allowed
failed-fires fire (node.Broadcast l) ins fault allowed = absurd allowed
failed-fires fire (node.Fork l i) ins fault allowed = absurd allowed
failed-fires fire (node.Join l j) ins fault allowed = absurd allowed
failed-fires fire (node.Round l) ins fault allowed = absurd allowed

module _ {T F : Type 0} (v : Values T F) where
  -- none of the nodes from one to another failed
  abbrev pub NoneFailed : ℕ → ℕ → Type 0
  NoneFailed from to = (n : ℕ) (fault : F) → from ≤ n → n < to → v n ≡ Some (Err fault) → ⊥

  pub record IsFirst (from to : ℕ) (first : Failure F) : Type 0 where
    pub below : first.node < to
    pub failed : v first.node ≡ Some (Err first.fault)
    pub none : NoneFailed from first.node

  more-none : (k to : ℕ) → ((fault : F) → v k ≡ Some (Err fault) → ⊥) → NoneFailed (k + 1) to → NoneFailed k to
  more-none k to here later n fault from below is = ⊎_elim
      (λ (e : n ≡ k). here fault (ap v (sym e) ∙ is))
      (λ (other : n ≡ k → ⊥). later n fault (omega arith) below is)
      (cases_eq n k)

  no-fault : (k : ℕ) (fault : F) → v k ≡ None → v k ≡ Some (Err fault) → ⊥
  no-fault k fault none failed = absurd (cc)

  no-fault-done : (k : ℕ) (fault : F) (outs : List (List T)) → v k ≡ Some (Ok outs) → v k ≡ Some (Err fault) → ⊥
  no-fault-done k fault outs done failed = absurd (cc)

  pub none-failed : (k count : ℕ) → failure_from v k count ≡ None → NoneFailed k (k + count)
  none-failed k zero none = λ n fault from below is. absurd (omega arith)
  none-failed k (suc count) none = let e : (k + 1) + count ≡ k + suc count = omega arith in go (v k) refl none (λ later here. more-none k (k + suc count) here (rw e at (none-failed (k + 1) count later)))
    where
      go : (o : Option (Result (List (List T)) F)) → v k ≡ o → failure_or k o (failure_from v (k + 1) count) ≡ None → (failure_from v (k + 1) count ≡ None → ((fault : F) → v k ≡ Some (Err fault) → ⊥) → NoneFailed k (k + suc count)) → NoneFailed k (k + suc count)
      go None is later rest = rest later (λ fault failed. no-fault k fault is failed)
      go (Some (Ok outs)) is later rest = rest later (λ fault failed. no-fault-done k fault outs is failed)
      go (Some (Err fault)) is later rest = absurd (cc)

  pub first-failed : (k count : ℕ) (first : Failure F) → failure_from v k count ≡ Some first → IsFirst k (k + count) first
  first-failed k zero first is = absurd (cc)
  first-failed k (suc count) first is = go (v k) refl is (λ later here. let l = first-failed (k + 1) count first later in let b = l.below in record { below = omega arith; failed = l.failed; none = more-none k first.node here l.none })
    where
      go : (o : Option (Result (List (List T)) F)) → v k ≡ o → failure_or k o (failure_from v (k + 1) count) ≡ Some first → (failure_from v (k + 1) count ≡ Some first → ((fault : F) → v k ≡ Some (Err fault) → ⊥) → IsFirst k (k + suc count) first) → IsFirst k (k + suc count) first
      go None is later rest = rest later (λ fault failed. no-fault k fault is failed)
      go (Some (Ok outs)) is later rest = rest later (λ fault failed. no-fault-done k fault outs is failed)
      go (Some (Err fault)) is found rest =
          let e : record { node = k; fault = fault } ≡ first = cc in
          let n : k ≡ first.node = ap (λ (f : Failure F). f.node) e in
          let g : fault ≡ first.fault = ap (λ (f : Failure F). f.fault) e in
          record { below = omega arith; failed = ap v (sym n) ∙ is ∙ ap (λ (x : F). Some (Err x)) g; none = λ m other from below failed. absurd (omega arith) }
