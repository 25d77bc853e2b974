-- What a job begins with of which nothing is claimed.
use Rattle.std.proofs.Common.{◌≡◌, ◌≢◌, ℕ, Bool, false, List, [], Option, Some, None, refl, sym, ap, ◌∙◌, subst, arith}
use Rattle.std.proofs.lemmas.Bool.{le-ltb}
use Rattle.board_rules.specs.AskingLaws.{JobsBegin}
use Rattle.board_rules.specs.Keys.{Key}
use Rattle.job_preparing.specs.Handing.{mark_at}
use Rattle.job_rules.specs.Items.{Prepared, left_in, prepared_by, prepared_in, rule}
use Rattle.job_rules.specs.Words as words
use Rattle.job_rules.specs.Words.{Answer}
use Rattle.nested_jobs.specs.Marks.{Free, answer_of}
use Rattle.nested_jobs.specs.Rules.{Call, Task, Values, Work}
use Rattle.graph_firing.specs.Offers.{IsFirst, ItemStands, goes_first}
use Rattle.graph_firing.specs.View.{IsOfferedWork, OpenView, answered, graph_in, task}
use Rattle.graph_firing.specs.declared.offer.Offer.{Offer}
use Rattle.pisdf_meaning.specs.declared.firing.Configured.{Configured}
use Rattle.pisdf_meaning.specs.declared.firing.Firing.{Firing}
use Rattle.firing_board.specs.Table.Calls.{BeginsWith}
use Rattle.firing_board.specs.declared.table.begins.Begins.TheVariants as begins

unscheduled : (left : Option (List Configured)) → prepared_by left None ≡ None
unscheduled None = refl
unscheduled (Some left) = refl

module _ (v : OpenView) (free : (i : ℕ) → mark_at v.marks i ≡ Free) where
  unanswered : answered v ≡ (λ i. None)
  unanswered = let at : (i : ℕ) → answered v i ≡ None = λ i. ap answer_of (free i) in λ x i. at i x

  pub first_calls : JobsBegin → ¬ (IsOfferedWork v 0) → BeginsWith v begins.Call
  first_calls law unoffered = go t.0 (ap (λ (a : Values Answer). rule v.graphs.graphs v.firing a 0) unanswered ∙ t.1)
    where
      key : Key
      key = record { graphs = v.graphs; signatures = []; delays = []; ins = []; workers = 0 }

      t : (t : Task Firing words.Work) × (rule v.graphs.graphs v.firing (λ i. None) 0 ≡ Some t)
      t = law key v.firing

      go : (t : Task Firing words.Work) → task v 0 ≡ Some t → BeginsWith v begins.Call
      go (Work work) e = absurd (unoffered record { free = free 0; work = work; task_is = e })
      go (Call d) e = (d, e)

  -- item 0 goes first, if it has work
  pub none_first : (w : ℕ) (offer : Offer) → IsFirst (IsOfferedWork v) v w offer → offer.item ≢ 0 → ¬ (IsOfferedWork v 0)
  none_first w offer first ne offered =
      let b = first.first 0 offered (λ e. ne (sym e)) in
      let none : prepared_in (graph_in v) (answered v) ≡ None = ap (prepared_in (graph_in v)) unanswered ∙ unscheduled (left_in (graph_in v) (λ i. None)) in
      let P : (i : ℕ) (away : Bool) (urgency : Option ℕ) → Option Prepared → Type 0 = λ i away urgency o. ItemStands v.graphs.graphs v.workers (graph_in v) v.firing o w i away urgency in
      let one = subst (P offer.item offer.away offer.urgency) none first.stands in
      let other = subst (P 0 b.away b.urgency) none b.stands in
      let one_away = one.0 in
      let one_urgency = one.1 in
      let other_away = other.0 in
      let other_urgency = other.1 in
      let same : goes_first offer.away offer.urgency offer.item b.away b.urgency 0 ≡ goes_first false None offer.item false None 0 = λ x. goes_first (one_away x) (one_urgency x) offer.item (other_away x) (other_urgency x) 0 in
      let past = le-ltb offer.item 0 (omega arith) in
      let t = sym same ∙ b.before in
      absurd (cc)
