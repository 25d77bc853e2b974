-- The text of the boards of a run that is over.
use Rattle.std.proofs.Common.{◌≡◌, ℕ, suc, ◌+◌, ◌-◌, ◌<◌, ℤ, List, [], ◌∷◌, length, map, slice_get, Option, Some, None, Result, Ok, Err, refl, sym, ap, ◌∙◌, subst, arith}
use Rattle.kernel_gate.specs.Signed.{SignatureView}
use Rattle.param_resolver.specs.EarlyCheck.{early_faults}
use Rattle.param_resolver.specs.Refusal as part
use Rattle.pisdf_model.specs.Hold.{initial}
use Rattle.pisdf_model.specs.declared.graph.Graph.{Graph}
use Rattle.pisdf_model.specs.declared.graph.Graphs.{Graphs}
use Rattle.pisdf_meaning.specs.Causes.{unless_refused}
use Rattle.pisdf_meaning.specs.Run as run
use Rattle.pisdf_meaning.specs.Run.{AfterCheck, IterationEnds, Lack, Run, RunsFrom, after_early, ended, first_lack, taken}
use Rattle.pisdf_meaning.specs.declared.outcome.Iteration.{Iteration}
use Rattle.pisdf_meaning.specs.declared.refusal.Refusal.{Refusal}
use Rattle.quiescent_driver.specs.Iterated.{Checks, HaveIterated}
use Rattle.quiescent_driver.specs.Journals.{AreJournals, IsWholeText, boards, boards_at_end}
use Rattle.quiescent_driver.specs.Streams.{rest_of}
use Rattle.quiescent_driver.specs.Texts.{joined}
use Rattle.journal_laws.proofs.Earlier.{back}
use Rattle.journal_laws.proofs.Iterations.{needs, rest_first}

checked_none : {T : Type 0} (graphs : List Graph) (g : Graph) (path : List ℕ) (faults : List part.Refusal) (value : T) (refusal other : Refusal) → unless_refused graphs g path faults value ≡ Err refusal → boards_at_end faults (run.Refused other) ≡ 0
checked_none graphs g path [] value refusal other e = absurd (cc)
checked_none graphs g path (f ∷ faults) value refusal other e = refl

done_none : {T : Type 0} (faults : List T) (left : List ℕ) → boards_at_end faults (run.Done left) ≡ 0
done_none [] left = refl
done_none (f ∷ faults) left = refl

short_none : {T : Type 0} (faults : List T) (lack : Lack) → boards_at_end faults (run.Short lack) ≡ 0
short_none [] lack = refl
short_none (f ∷ faults) lack = refl

module _ (graphs : Graphs) (kernels : List SignatureView) (streams : List (List ℤ)) (iterations workers : ℕ) where
  abbrev State : Type 0
  State = List (List ℤ)

  abbrev rest : ℕ → State
  rest k = rest_of k (needs graphs) streams

  abbrev faults : List part.Refusal
  faults = early_faults graphs.graphs graphs.top []

  -- the journals of so many boards are all of them, where the run goes on so from there
  pub record IsAll (texts : List (List ℕ)) : Type 0 where
    pub whole : IsWholeText graphs kernels streams iterations workers (joined texts)
    pub texts_are : whole.texts ≡ texts

  all_by : (k m : ℕ) (before : List Iteration) (state : State) (r : Run) → HaveIterated graphs streams k before state → RunsFrom graphs m state (rest k) r → k + m ≡ iterations →
      (texts : List (List ℕ)) → length texts ≡ k + boards graphs r → AreJournals graphs kernels streams workers 0 texts → IsAll texts
  all_by k m before state r done runs number texts many journals =
      let b = back graphs streams k m before state r done runs in
      record {
        whole = record {
          r = b.all_of;
          is_run = subst (λ (n : ℕ). RunsFrom graphs n (initial graphs.graphs graphs.top) streams b.all_of) number (subst (λ (s : State). RunsFrom graphs (k + m) (initial graphs.graphs graphs.top) s b.all_of) (rest_first (needs graphs) streams) b.runs);
          texts = texts;
          all = many ∙ sym b.more;
          journals = journals;
          text_is = refl;
        };
        texts_are = refl;
      }

  -- ---- all iterations are done

  pub all_done : (k : ℕ) (before : List Iteration) (state : State) → HaveIterated graphs streams k before state → k ≡ iterations → (texts : List (List ℕ)) → length texts ≡ k → AreJournals graphs kernels streams workers 0 texts → IsAll texts
  all_done k before state done is texts many journals =
      let left : List ℕ = map (λ (tokens : List ℤ). length tokens) (rest k) in
      let none = done_none faults left in
      all_by k 0 before state (ended (run.Done left)) done refl (omega arith) texts (omega arith) journals

  -- ---- an iteration isn't done

  pub all_before : (k : ℕ) (before : List Iteration) (state : State) → HaveIterated graphs streams k before state → k < iterations → (top : Graph) → slice_get graphs.graphs graphs.top ≡ Some top → (found : Result (Option Lack) Refusal) → after_early graphs top (first_lack 0 (needs graphs) (rest k)) ≡ found →
      (r : Run) → AfterCheck graphs (RunsFrom graphs (iterations - suc k)) state (rest k) found r → (texts : List (List ℕ)) → length texts ≡ k + boards graphs r → AreJournals graphs kernels streams workers 0 texts → IsAll texts
  all_before k before state done less top top_is found finds r goes texts many journals =
      let m : ℕ = iterations - suc k in
      let number : k + suc m ≡ iterations = omega arith in
      all_by k (suc m) before state r done (top, top_is, subst (λ x. AfterCheck graphs (RunsFrom graphs m) state (rest k) x r) (sym finds) goes) number texts many journals

  -- the early check refuses it, before any
  pub all_refused_early : 0 < iterations → (top : Graph) → slice_get graphs.graphs graphs.top ≡ Some top → (refusal : Refusal) → ((lack : Option Lack) → after_early graphs top lack ≡ Err refusal) → IsAll []
  all_refused_early some top top_is refusal finds =
      let lack : Option Lack = first_lack 0 (needs graphs) (rest 0) in
      let none = checked_none graphs.graphs top top.name faults lack refusal refusal (finds lack) in
      all_before 0 [] (initial graphs.graphs graphs.top) (refl, refl) some top top_is (Err refusal) (finds lack) (ended (run.Refused refusal)) refl [] (omega arith) tt

  module _ (top : Graph) (top_is : slice_get graphs.graphs graphs.top ≡ Some top) (sound : faults ≡ []) where
    finds_lack : (k : ℕ) (lack : Option Lack) → first_lack 0 (needs graphs) (rest k) ≡ lack → after_early graphs top (first_lack 0 (needs graphs) (rest k)) ≡ Ok lack
    finds_lack k lack e = ap (λ f. unless_refused graphs.graphs top top.name f (first_lack 0 (needs graphs) (rest k))) sound ∙ ap (λ (l : Option Lack). Ok l) e

    pub checks_so : (k : ℕ) → first_lack 0 (needs graphs) (rest k) ≡ None → Checks graphs (rest k) (Ok None)
    checks_so k e = record { top = top; top_is = top_is; finds = finds_lack k None e }

    -- a stream lacks tokens
    pub all_short : (k : ℕ) (before : List Iteration) (state : State) → HaveIterated graphs streams k before state → k < iterations → (lack : Lack) → first_lack 0 (needs graphs) (rest k) ≡ Some lack → (texts : List (List ℕ)) → length texts ≡ k → AreJournals graphs kernels streams workers 0 texts → IsAll texts
    all_short k before state done less lack e texts many journals =
        let none = short_none faults lack in
        all_before k before state done less top top_is (Ok (Some lack)) (finds_lack k (Some lack) e) (ended (run.Short lack)) refl texts (omega arith) journals

    -- it is refused
    pub all_refused : (k : ℕ) (before : List Iteration) (state : State) → HaveIterated graphs streams k before state → k < iterations → first_lack 0 (needs graphs) (rest k) ≡ None → (refusal : Refusal) → IterationEnds graphs (taken (needs graphs) (rest k)) state (Err refusal) →
        (texts : List (List ℕ)) → length texts ≡ k + 1 → AreJournals graphs kernels streams workers 0 texts → IsAll texts
    all_refused k before state done less e refusal ends texts many journals =
        let one : boards_at_end faults (run.Refused refusal) ≡ 1 = ap (λ (f : List part.Refusal). boards_at_end f (run.Refused refusal)) sound in
        all_before k before state done less top top_is (Ok None) (finds_lack k None e) (ended (run.Refused refusal)) (Err refusal, ends, refl) texts (omega arith) journals
