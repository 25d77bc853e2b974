-- What a job offers first, one item after the other.
use Rattle.std.proofs.Common.{◌≡◌, ◌≢◌, ◌↔◌, ℕ, ◌+◌, not, Bool, true, false, IsTrue, List, Option, Some, None, refl, sym, ap, ◌∙◌, subst}
use Rattle.std.specs.Prelude.{slice_index}
use Rattle.board_rules.specs.Asking as board
use Rattle.board_rules.specs.Asking.{goes_first}
use Rattle.board_rules.specs.Offers.{calls}
use Rattle.job_rules.specs.Items.{rule}
use Rattle.job_rules.specs.Words as words
use Rattle.nested_jobs.specs.Marks.{Free}
use Rattle.nested_jobs.specs.Rules.{Call, Task, Work}
use Rattle.pisdf_meaning.specs.declared.firing.Firing.{Firing}
use Rattle.pisdf_model.specs.declared.graph.Graph.{Graph}
use Rattle.audit_job.specs.Marks.{answers, mark_at}
use Rattle.audit_job.specs.Offering.{GoesFirst, IsFirstOf, IsOfferedIn, leads, offer_of}
use Rattle.audit_job.specs.declared.job.Job.{Job}
use Rattle.audit_job.specs.declared.offering.Offer.{Offer}
use Rattle.audit_job.proofs.FirstOffers.{found, gives_way, none_more, stays, still}

-- ---- one item

module _ (graphs : List Graph) (opens : Bool) (job : Job) (i : ℕ) where
  pub taken_away : mark_at job.marks.items i ≢ Free → ¬ (IsOfferedIn graphs opens job i)
  taken_away differs offered = differs offered.free

  pub no_task : rule graphs job.firing (answers job.marks.items) i ≡ None → ¬ (IsOfferedIn graphs opens job i)
  no_task none offered = let e : None ≡ Some offered.task = sym none ∙ offered.has_task in cc

  module _ (t : Task Firing words.Work) (task : rule graphs job.firing (answers job.marks.items) i ≡ Some t) where
    pub offered_so : mark_at job.marks.items i ≡ Free → calls t ≡ opens → IsOfferedIn graphs opens job i
    offered_so free is = record { free = free; task = t; has_task = task; kind = is }

    pub other_kind : calls t ≢ opens → ¬ (IsOfferedIn graphs opens job i)
    other_kind differs offered =
        let same : t ≡ offered.task = let e : Some t ≡ Some offered.task = sym task ∙ offered.has_task in cc in
        differs (ap calls same ∙ offered.kind)

-- whether it is offered, by what it is to do

pub work_offered : (opens : Bool) (graphs : List Graph) (job : Job) (i : ℕ) (work : words.Work) → rule graphs job.firing (answers job.marks.items) i ≡ Some (Work work) → mark_at job.marks.items i ≡ Free → IsTrue (not opens) ↔ IsOfferedIn graphs opens job i
work_offered true graphs job i work task free = ((λ e. absurd (cc)), (λ offered. absurd (other_kind graphs true job i (Work work) task (λ e. cc) offered)))
work_offered false graphs job i work task free = ((λ e. offered_so graphs false job i (Work work) task free refl), (λ offered. refl))

pub call_offered : (opens : Bool) (graphs : List Graph) (job : Job) (i : ℕ) (called : Firing) → rule graphs job.firing (answers job.marks.items) i ≡ Some (Call called) → mark_at job.marks.items i ≡ Free → IsTrue opens ↔ IsOfferedIn graphs opens job i
call_offered true graphs job i called task free = ((λ e. offered_so graphs true job i (Call called) task free refl), (λ offered. refl))
call_offered false graphs job i called task free = ((λ e. absurd (cc)), (λ offered. absurd (other_kind graphs false job i (Call called) task (λ e. cc) offered)))

-- ---- one after the other

module _ (P : ℕ → Type 0) (at : ℕ → board.Offer) (own : (i : ℕ) → (at i).item ≡ i) (items : List ℕ) (n : ℕ) where
  pub nothing_more : (best : Option Offer) → IsFirstOf P at items n best → ¬ (P (slice_index items n)) → IsFirstOf P at items (n + 1) best
  nothing_more None none lacks = none_more P at own items n none lacks
  nothing_more (Some best) first lacks = still P at own items n (offer_of best) first lacks

  module _ (next : Offer) (next_is : offer_of next ≡ at (slice_index items n)) where
    pub passed_by : (best : Option Offer) → IsFirstOf P at items n best → leads (offer_of next) best ≡ false → IsFirstOf P at items (n + 1) best
    passed_by None none after = absurd (cc)
    passed_by (Some best) first after = stays P at own items n (offer_of best) first (ap (λ (o : board.Offer). goes_first o (offer_of best)) (sym next_is) ∙ after)

    pub taken : P (slice_index items n) → (best : Option Offer) → IsFirstOf P at items n best → leads (offer_of next) best ≡ true → IsFirstOf P at items (n + 1) (Some next)
    taken holds None none before = subst (λ (o : board.Offer). GoesFirst P at items (n + 1) o) (sym next_is) (found P at own items n none holds)
    taken holds (Some best) first before = subst (λ (o : board.Offer). GoesFirst P at items (n + 1) o) (sym next_is) (gives_way P at own items n (offer_of best) first holds (ap (λ (o : board.Offer). goes_first o (offer_of best)) (sym next_is) ∙ before))
