-- A ready node stays ready, and reads the same.
use Rattle.std.proofs.Common.{◌≡◌, ℕ, zero, suc, ⊎_elim, List, [], ◌∷◌, Option, Some, None, Result, Ok, Err, refl, ap, sym, ◌∙◌, subst}
use Rattle.std.specs.List.{AllByRecursion}
use Rattle.std.proofs.lemmas.Bool.{cases_eq, eq-eqb, ne_eqb}
use Rattle.sdf_level.specs.Run.{Fire}
use Rattle.sdf_level.specs.declared.node.Node.{Node}
use Rattle.sdf_level.specs.declared.node.Node.TheVariants as node
use Rattle.sdf_level.specs.declared.single_rate.Edge.{Edge}
use Rattle.job_flow.specs.Graphs.{JobGraph, node_at}
use Rattle.job_flow.specs.Frames.{Values, on, arriving, arriving_below, ports_in, reads, inputs}
use Rattle.job_flow.specs.Events.{IsDone, IsReady, Allows, Answers, IsAnswered, AreAnswered, Grows}
use Rattle.job_flow.specs.Laws.{with_answer}

pub done-is : {T F : Type 0} (o : Option (Result (List (List T)) F)) → IsDone o → (outs : List (List T)) × (o ≡ Some (Ok outs))
done-is None done = absurd done
done-is (Some (Ok outs)) done = (outs, refl)
done-is (Some (Err fault)) done = absurd done

module _ {T F : Type 0} (v later : Values T F) (grows : Grows v later) where
  same-done : (n : ℕ) → IsDone (v n) → later n ≡ v n
  same-done n done = let is = done-is (v n) done in grows n (Ok is.0) is.1 ∙ sym is.1

  done-stays : (n : ℕ) → IsDone (v n) → IsDone (later n)
  done-stays n done = let P : Option (Result (List (List T)) F) → Type 0 = λ o. IsDone o in subst P (sym (same-done n done)) done

  before-stays : (n : ℕ) (edges : List Edge) → AllByRecursion (λ e. e.head ≡ n → IsDone (v e.tail)) edges → AllByRecursion (λ e. e.head ≡ n → IsDone (later e.tail)) edges
  before-stays n [] before = before
  before-stays n (e ∷ edges) before = ((λ is. done-stays e.tail (before.0 is)), before-stays n edges before.1)

  pub ready-stays : (job : JobGraph T) (n : ℕ) → IsReady job v n → IsReady job later n
  ready-stays job n ready = record { there = ready.there; before = before-stays n job.edges ready.before }

  arriving-stays : (n port : ℕ) (edges : List Edge) → AllByRecursion (λ e. e.head ≡ n → IsDone (v e.tail)) edges → arriving edges (on later edges) n port ≡ arriving edges (on v edges) n port
  arriving-stays n port [] before = refl
  arriving-stays n port (e ∷ edges) before = let rest = arriving-stays n port edges before.1 in ⊎_elim
      (λ (is : e.head ≡ n). rw (same-done e.tail (before.0 is), rest) refl)
      (λ (other : e.head ≡ n → ⊥). rw (ne_eqb e.head n other) rest)
      (cases_eq e.head n)

  below-stays : (n ports : ℕ) (edges : List Edge) → AllByRecursion (λ e. e.head ≡ n → IsDone (v e.tail)) edges → arriving_below edges (on later edges) n ports ≡ arriving_below edges (on v edges) n ports
  below-stays n zero edges before = refl
  below-stays n (suc port) edges before = rw (below-stays n port edges before, arriving-stays n port edges before) refl

  module _ (job : JobGraph T) (n : ℕ) (ready : IsReady job v n) where
    reads-stay : (m : Node) → reads job later m n ≡ reads job v m n
    reads-stay (node.Source s) = refl
    reads-stay (node.Init l) = refl
    reads-stay (node.Firing a k) = below-stays n (ports_in job (node.Firing a k) n) job.edges ready.before
    reads-stay (node.End l) = below-stays n 1 job.edges ready.before
    reads-stay (node.Sink t) = below-stays n 1 job.edges ready.before
    reads-stay (node.Broadcast l) = below-stays n 1 job.edges ready.before
    reads-stay (node.Fork l i) = below-stays n 1 job.edges ready.before
    reads-stay (node.Join l j) = below-stays n (ports_in job (node.Join l j) n) job.edges ready.before
    reads-stay (node.Round l) = below-stays n (ports_in job (node.Round l) n) job.edges ready.before

    pub inputs-stay : inputs job later n ≡ inputs job v n
    inputs-stay = reads-stay (node_at job.nodes n)

  -- so its answer stays one that it may give
  answered-stays : (job : JobGraph T) (fire : Fire T F) (n : ℕ) (answer : Result (List (List T)) F) → IsReady job v n → Answers job fire v n answer → IsAnswered job fire later n answer
  answered-stays job fire n answer ready answers = record {
    ready = ready-stays job n ready;
    answers = record {
      allowed = let P : List (List T) → Type 0 = λ ins. Allows fire (node_at job.nodes n) ins answer in subst P (sym (inputs-stay job n ready)) answers.allowed;
      lengths = answers.lengths;
    };
  }

module _ {T F : Type 0} (job : JobGraph T) (fire : Fire T F) (v : Values T F) (n : ℕ) (answer : Result (List (List T)) F) where
  added-grows : v n ≡ None → Grows v (with_answer v n answer)
  added-grows free m a is = ⊎_elim
      (λ (e : m ≡ n). absurd (let f : v n ≡ Some a = ap v (sym e) ∙ is in cc))
      (λ (other : m ≡ n → ⊥). rw (ne_eqb m n other) is)
      (cases_eq m n)

  pub answers-add : AreAnswered job fire v → v n ≡ None → IsReady job v n → Answers job fire v n answer → AreAnswered job fire (with_answer v n answer)
  answers-add answered free ready answers m a is = ⊎_elim
      (λ (e : m ≡ n).
      let f : Some answer ≡ Some a = rw (eq-eqb m n e) at is in
      let g : answer ≡ a = cc in
      let own : IsAnswered job fire (with_answer v n answer) n answer = answered-stays v (with_answer v n answer) (added-grows free) job fire n answer ready answers in
      rw (e, ← g) own)
      (λ (other : m ≡ n → ⊥).
      let f : v m ≡ Some a = rw (ne_eqb m n other) at is in
      let old = answered m a f in
      answered-stays v (with_answer v n answer) (added-grows free) job fire m a old.ready old.answers)
      (cases_eq m n)
