-- A job stays a job when a free item is claimed, or its call is open.
use Rattle.std.proofs.Common.{◌≡◌, ◌≢◌, ℕ, ◌+◌, ◌<◌, true, false, List, length, set, sym, ap, ◌∙◌, arith, ⊎_elim}
use Rattle.std.proofs.lemmas.Bool.{cases_eq}
use Rattle.std.proofs.lemmas.List.{length-set}
use Rattle.job_rules.specs.Items.{compile_number, graph_of}
use Rattle.job_rules.specs.Words as words
use Rattle.nested_jobs.specs.Marks as mark
use Rattle.pisdf_meaning.specs.declared.firing.Firing.{Firing}
use Rattle.pisdf_model.specs.declared.graph.Graph.{Graph}
use Rattle.audit_job.specs.Answering.{IsMarked}
use Rattle.audit_job.specs.Candidates.{TakesOut, is_running, running_in, waits_in}
use Rattle.audit_job.specs.Jobs.{IsJob}
use Rattle.audit_job.specs.Marking.{Marks}
use Rattle.audit_job.specs.Marks.{answers, mark_at, mark_of}
use Rattle.audit_job.specs.declared.answer.Mark.{Mark}
use Rattle.audit_job.specs.declared.job.Job.{Job}
use Rattle.audit_job.proofs.Answered.{set_marked}
use Rattle.audit_job.proofs.CandidateSteps.{one_claimed}
use Rattle.audit_job.proofs.RunningItems.{one_if, running_below, running_set, runs_unfinished}
use Rattle.audit_job.proofs.Storing.{job_stays}

module _ (old new : Job) (firing_is : new.firing ≡ old.firing) (early_is : new.early ≡ old.early) (places_are : new.places ≡ old.places) (nodes_are : new.nodes ≡ old.nodes) (item : ℕ) (m : Mark)
    (marks_are : new.marks.items ≡ set old.marks.items item m) (inside : item < length old.marks.items) (free : mark_at old.marks.items item ≡ mark.Free) (runs : is_running (mark_of m) ≡ true)
    (takes : TakesOut item old.candidates new.candidates) (counted : old.running < 18446744073709551615 → new.running ≡ old.running + 1) where
  marked : IsMarked item (mark_of m) (mark_at old.marks.items) (mark_at new.marks.items)
  marked =
      let is = set_marked old.marks.items item m inside in
      record {
        here = ap (λ (l : List Mark). mark_at l item) marks_are ∙ is.here;
        others = λ i differs. ap (λ (l : List Mark). mark_at l i) marks_are ∙ is.others i differs;
      }

  same_at : (i : ℕ) → answers new.marks.items i ≡ answers old.marks.items i
  same_at i = ⊎_elim
      (λ (here : i ≡ item). ap (answers new.marks.items) here ∙ ap mark.answer_of marked.here ∙ runs_unfinished (mark_of m) runs ∙ sym (ap mark.answer_of free) ∙ ap (answers old.marks.items) (sym here))
      (λ (else : i ≢ item). ap mark.answer_of (marked.others i else))
      (cases_eq i item)

  same_answers : answers new.marks.items ≡ answers old.marks.items
  same_answers = λ t i. same_at i t

  as_long : length new.marks.items ≡ length old.marks.items
  as_long = ap (λ (l : List Mark). length l) marks_are ∙ length-set old.marks.items item m

  still_free : (i : ℕ) → mark_at new.marks.items i ≡ mark.Free → (i ≢ item) × (mark_at old.marks.items i ≡ mark.Free)
  still_free i now = ⊎_elim
      (λ (here : i ≡ item). let e : true ≡ false = sym runs ∙ ap is_running (sym marked.here ∙ ap (mark_at new.marks.items) (sym here) ∙ now) in absurd (cc))
      (λ (else : i ≢ item). (else, sym (marked.others i else) ∙ now))
      (cases_eq i item)

  one_more_runs : old.running ≡ running_in old.marks.items → new.running ≡ running_in new.marks.items
  one_more_runs are =
      let set_is = running_set old.marks.items item m inside in
      let was : one_if (is_running (mark_at old.marks.items item)) ≡ 0 = ap (λ (x : mark.Mark Firing words.Answer). one_if (is_running x)) free in
      let now : one_if (is_running (mark_of m)) ≡ 1 = ap one_if runs in
      let same : running_in new.marks.items ≡ running_in (set old.marks.items item m) = ap running_in marks_are in
      let below = running_below old.marks.items item inside free in
      let long = old.marks.ok in
      let small = old.marks.small in
      let more = counted (omega (arith, long.0, long.1)) in
      omega arith

  stays : (graphs : List Graph) (workers : ℕ) → IsJob graphs workers old → ((d : Firing) → mark_at new.marks.items (compile_number (graph_of graphs old.firing)) ≢ mark.Open d) → IsJob graphs workers new
  stays graphs workers is uncalled = job_stays graphs workers old new is firing_is early_is places_are nodes_are as_long same_answers uncalled
      (one_claimed old.marks.items new.marks.items (length old.places.items) item (waits_in old.nodes) old.candidates new.candidates is.candidates as_long still_free takes) (one_more_runs is.running_are)

  -- an item that nobody calls
  pub claimed : mark_of m ≡ mark.Busy → Marks item (mark_of m) old new
  claimed busy = record {
    firing_is = firing_is;
    marked = marked;
    is_job = λ graphs workers is. stays graphs workers is (λ d at. ⊎_elim
        (λ (here : compile_number (graph_of graphs old.firing) ≡ item). let e : mark.Busy ≡ mark.Open d = sym busy ∙ sym marked.here ∙ ap (mark_at new.marks.items) (sym here) ∙ at in cc)
        (λ (else : compile_number (graph_of graphs old.firing) ≢ item). is.uncalled d (sym (marked.others (compile_number (graph_of graphs old.firing)) else) ∙ at))
        (cases_eq (compile_number (graph_of graphs old.firing)) item));
  }

  -- an item other than the compilation
  pub opened : item ≢ length old.places.items → Marks item (mark_of m) old new
  opened other = record {
    firing_is = firing_is;
    marked = marked;
    is_job = λ graphs workers is. stays graphs workers is (λ d at.
        let many = is.places_are.one_each in
        let else : compile_number (graph_of graphs old.firing) ≢ item = λ same. other (omega arith) in
        is.uncalled d (sym (marked.others (compile_number (graph_of graphs old.firing)) else) ∙ at));
  }
