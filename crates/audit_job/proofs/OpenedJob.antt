-- A job at its start.
use Rattle.std.proofs.Common.{◌≡◌, ◌⊎◌, ⊎_elim, ℕ, zero, suc, ◌+◌, ◌<◌, set, List, [], ◌∷◌, ◌++◌, length, get_or, Some, None, refl, sym, ap, ◌∙◌, subst, arith}
use Rattle.std.specs.Prelude.{Contains, Vec, replicate}
use Rattle.std.specs.Global.{Global}
use Rattle.job_preparing.specs.Standing.{ArePlaces}
use Rattle.job_rules.specs.Items as items
use Rattle.job_rules.specs.Items.{compile_number, graph_of}
use Rattle.job_rules.specs.Meant.{IsFit}
use Rattle.nested_jobs.specs.Marks as mark
use Rattle.param_resolver.specs.EarlyView.{EarlyView}
use Rattle.pisdf_meaning.specs.Configuring.{early_in}
use Rattle.pisdf_meaning.specs.declared.firing.Firing.{Firing}
use Rattle.pisdf_model.specs.declared.graph.Graph.{Graph}
use Rattle.audit_job.specs.Jobs.{IsJob}
use Rattle.audit_job.specs.Marks.{answers, mark_at, mark_of}
use Rattle.audit_job.specs.declared.answer.Answer as own
use Rattle.audit_job.specs.declared.answer.Mark.{Mark}
use Rattle.audit_job.specs.declared.answer.Mark.TheVariants as stands
use Rattle.audit_job.specs.declared.job.Job.{Job}
use Rattle.audit_job.specs.Answering.{IsMarked}
use Rattle.audit_job.specs.Candidates.{Adds, AreCandidates, is_running, running_in}
use Rattle.std.proofs.lemmas.List.{length-append, length-replicate, length-set}
use Rattle.audit_job.proofs.Answered.{set_marked, unprepared}
use Rattle.audit_job.proofs.ItemRules.{count_before}
use Rattle.audit_job.proofs.RunningItems.{one_if, running_more, running_set}
use Rattle.std.proofs.lemmas.List.Elements.{All-weaker}

abbrev pub AllFree : List Mark → Type 0
AllFree marks = (i : ℕ) → get_or marks i stands.Free ≡ stands.Free

pub none_free : AllFree []
none_free i = refl

pub copies_free : (n : ℕ) → AllFree (replicate n stands.Free)
copies_free zero i = refl
copies_free (suc n) zero = refl
copies_free (suc n) (suc i) = copies_free n i

pub both_free : (xs ys : List Mark) → AllFree xs → AllFree ys → AllFree (xs ++ ys)
both_free [] ys one other i = other i
both_free (x ∷ xs) ys one other zero = one 0
both_free (x ∷ xs) ys one other (suc i) = both_free xs ys (λ j. one (suc j)) other i

none_run : (marks : List Mark) → AllFree marks → running_in marks ≡ 0
none_run [] free = refl
none_run (m ∷ marks) free =
    let again = none_run marks (λ i. free (suc i)) in
    let none : one_if (is_running (mark_of m)) ≡ 0 = ap (λ (x : Mark). one_if (is_running (mark_of x))) (free 0) in
    omega arith

-- all items may be offered
pub all_first : (marks : List Mark) (base count : ℕ) (old new : Vec ℕ Global) → old.items ≡ [] → Adds 0 count (λ n. Unit {0}) old new → count ≡ length marks → base < count → AreCandidates marks base [] new
all_first marks base count old new none adds all inside = record {
  there = All-weaker (λ (i : ℕ). Contains old.items i ⊎ ((n : ℕ) × (n < count) × (i ≡ 0 + n))) (λ (i : ℕ). i < length marks) (λ i from. ⊎_elim
      (λ (at : Contains old.items i). let e = ap (λ (l : List ℕ). length l) none in absurd (omega (arith, at.1)))
      (λ (node : (n : ℕ) × (n < count) × (i ≡ 0 + n)). omega (arith, node.1, node.2))
      from) new.items adds.only;
  early = λ i low free. let e : 0 + i ≡ i = omega arith in subst (λ (k : ℕ). Contains new.items k) e (adds.added i (omega arith) tt);
  nodes = λ n inside. absurd (omega arith);
  room = let ok = new.ok in omega (arith, ok.0, ok.1);
}

module _ (graphs : List Graph) (workers : ℕ) (firing : Firing) (early : EarlyView) (places : Vec ℕ Global) (marks : Vec Mark Global) (graph : Graph)
    (fit : IsFit graphs firing) (early_is : early ≡ early_in graphs firing) (graph_is : graph ≡ graph_of graphs firing) (are : ArePlaces graph places.items) (free : AllFree marks.items) (long : length marks.items ≡ length places.items + 1) (candidates : Vec ℕ Global) (may : AreCandidates marks.items (length places.items) [] candidates) where
  abbrev g : Graph
  g = graph_of graphs firing

  abbrev pub job : Job
  job = record { firing = firing; early = early; places = places; marks = marks; candidates = candidates; running = 0; nodes = None }

  places_are : ArePlaces g places.items
  places_are = subst (λ (x : Graph). ArePlaces x places.items) graph_is are

  unanswered : (i : ℕ) → answers marks.items i ≡ None
  unanswered i = ap (λ m. mark.answer_of (mark_of m)) (free i)

  unscheduled : items.schedule_of (answers marks.items (compile_number g)) ≡ None
  unscheduled = ap items.schedule_of (unanswered (compile_number g))

  pub is_job : IsJob graphs workers job
  is_job = record {
    fit = fit;
    early_is = early_is;
    places_are = places_are;
    one_each = let many = places_are.one_each in let counted = count_before graphs firing (answers marks.items) (unprepared g (answers marks.items) unscheduled) in omega arith;
    prepared = unscheduled;
    compiled = λ answer at. absurd (let e : None ≡ Some answer = sym (unanswered (compile_number g)) ∙ at in cc);
    uncalled = λ d at. let e : mark.Free ≡ mark.Open d = sym (ap mark_of (free (compile_number g))) ∙ at in cc;
    others = λ i answer differs at. absurd (let e : None ≡ Some answer = sym (unanswered i) ∙ at in cc);
    candidates = may;
    running_are = sym (none_run marks.items free);
  }

-- ---- free items more

pub more_free : (marks : List Mark) (n i : ℕ) → get_or (marks ++ replicate n stands.Free) i stands.Free ≡ get_or marks i stands.Free
more_free [] n i = copies_free n i
more_free (m ∷ marks) n zero = refl
more_free (m ∷ marks) n (suc i) = more_free marks n i

-- an item is marked, and free items are added
module _ (marks : List Mark) (n item : ℕ) (m : Mark) (inside : item < length marks) where
  pub marked_more : IsMarked item (mark_of m) (mark_at marks) (mark_at (set (marks ++ replicate n stands.Free) item m))
  marked_more =
      let long = length-append marks (replicate n stands.Free) in
      let is = set_marked (marks ++ replicate n stands.Free) item m (omega arith) in
      record {
        here = is.here;
        others = λ i differs. is.others i differs ∙ ap mark_of (more_free marks n i);
      }

  pub long_more : length (set (marks ++ replicate n stands.Free) item m) ≡ length marks + n
  long_more =
      let long = length-append marks (replicate n stands.Free) in
      let copies = length-replicate n stands.Free in
      let same = length-set (marks ++ replicate n stands.Free) item m in
      omega arith

-- it ran before, and is finished now
pub running_less : (marks : List Mark) (n item : ℕ) (a : own.Answer) (later : List Mark) → later ≡ set (marks ++ replicate n stands.Free) item (stands.Done a) → item < length marks → running_in later + one_if (is_running (mark_at marks item)) ≡ running_in marks
running_less marks n item a later is inside =
    let all = marks ++ replicate n stands.Free in
    let long = length-append marks (replicate n stands.Free) in
    let set_is = running_set all item (stands.Done a) (omega arith) in
    let was : one_if (is_running (mark_at all item)) ≡ one_if (is_running (mark_at marks item)) = ap (λ m. one_if (is_running (mark_of m))) (more_free marks n item) in
    let same : running_in later ≡ running_in (set all item (stands.Done a)) = ap running_in is in
    let more = running_more marks n in
    omega arith
