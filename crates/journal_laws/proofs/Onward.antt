-- A run goes on from each of its boards to its end, and has the texts of the journals of all its boards.
use Rattle.std.proofs.Common.{◌≡◌, ℕ, zero, suc, ◌+◌, ◌-◌, ℤ, List, [], ◌∷◌, ◌++◌, length, map, slice_get, Option, Some, None, Ok, Err, refl, sym, ap, ◌∙◌, subst, arith}
use Rattle.std.proofs.lemmas.Option.{slice_get_within}
use Rattle.kernel_gate.specs.Signed.{SignatureView}
use Rattle.param_resolver.specs.EarlyCheck.{early_faults}
use Rattle.param_resolver.specs.Refusal as part
use Rattle.pisdf_model.specs.Hold.{initial}
use Rattle.pisdf_model.specs.declared.graph.Graph.{Graph}
use Rattle.pisdf_model.specs.declared.graph.Graphs.{Graphs}
use Rattle.pisdf_meaning.specs.Causes.{unless_refused}
use Rattle.pisdf_meaning.specs.Endings.{End}
use Rattle.pisdf_meaning.specs.Laws.{HasMeanings}
use Rattle.pisdf_meaning.specs.Meaning.{Means}
use Rattle.pisdf_meaning.specs.Run as run
use Rattle.pisdf_meaning.specs.Run.{AfterCheck, Lack, Run, RunsFrom, after, after_early, ended, first_lack, iteration_of, left_by, taken, top_firing}
use Rattle.pisdf_meaning.specs.Sizes.{KeepsSizes}
use Rattle.pisdf_meaning.specs.declared.outcome.Iteration.{Iteration}
use Rattle.board_rules.specs.Entries.{Step}
use Rattle.board_rules.specs.Keys.{IsKey, Key}
use Rattle.board_rules.specs.Legal.{AreLegal, journal_of}
use Rattle.quiescent_driver.specs.Iterated.{Checks, HaveIterated}
use Rattle.quiescent_driver.specs.Journals.{AreJournals, IsJournalText, boards, boards_at_end, journal_text, key_at}
use Rattle.quiescent_driver.specs.Streams.{rest_of}
use Rattle.journal_laws.specs.Steps.{BringsToEnd, LegalJournalsEnd}
use Rattle.journal_laws.specs.Texts.{HasCome, MayRun}
use Rattle.journal_laws.proofs.Earlier.{back}
use Rattle.journal_laws.proofs.Iterations.{key_so, needs, none_lacks, rest_first, rest_next, sound_by, top_state}

-- what a run is given
pub record RunGiven (graphs : Graphs) (kernels : List SignatureView) (streams : List (List ℤ)) (iterations workers : ℕ) : Type 0 where
  pub may : MayRun graphs kernels streams iterations workers
  pub ends : LegalJournalsEnd
  pub meant : HasMeanings graphs.graphs
  pub keeps : KeepsSizes graphs.graphs

module _ (graphs : Graphs) (kernels : List SignatureView) (streams : List (List ℤ)) (iterations workers : ℕ) (given : RunGiven graphs kernels streams iterations workers) where
  abbrev State : Type 0
  State = List (List ℤ)

  abbrev pub rest : ℕ → State
  rest k = rest_of k (needs graphs) streams

  abbrev pub key : ℕ → State → Key
  key k state = key_at graphs kernels streams workers k state

  abbrev pub Journals : ℕ → List (List ℕ) → Type 0
  Journals n texts = AreJournals graphs kernels streams workers n texts

  abbrev faults : List part.Refusal
  faults = early_faults graphs.graphs graphs.top []

  pub is_key : (k : ℕ) (before : List Iteration) (state : State) → HaveIterated graphs streams k before state → Checks graphs (rest k) (Ok None) → IsKey (key k state)
  is_key k before state done c = key_so graphs kernels streams iterations workers given.may k state (top_state graphs given.keeps streams k before state done) c

  -- the journal of a board that is brought to its end
  text_there : (k : ℕ) (before : List Iteration) (state : State) → HaveIterated graphs streams k before state → (first steps : List Step) → BringsToEnd (key k state) first steps → IsJournalText graphs kernels streams workers k (journal_text k (journal_of (key k state) (first ++ steps)))
  text_there k before state done first steps ends = record {
    before = before;
    state = state;
    done = done;
    entries = journal_of (key k state) (first ++ steps);
    whole = record { taken = first ++ steps; legal = ends.legal; ended = ends.ended; entries_are = refl };
    text_is = refl;
  }

  -- the run from iteration k on, on whose board these steps were taken, goes on so
  pub record GoesSo (m k : ℕ) (state : State) (first : List Step) : Type 0 where
    pub r : Run
    pub runs : RunsFrom graphs m state (rest k) r
    pub steps : List Step
    pub ends : BringsToEnd (key k state) first steps
    pub later : List (List ℕ)
    pub all : suc (length later) ≡ boards graphs r
    pub journals : Journals (k + 1) later

  -- the run from iteration k on, which may have no board
  record GoesOnward (m k : ℕ) (state : State) : Type 0 where
    r : Run
    runs : RunsFrom graphs m state (rest k) r
    texts : List (List ℕ)
    all : length texts ≡ boards graphs r
    journals : Journals k texts

  abbrev Onward : ℕ → Type 0
  Onward m = (k : ℕ) (before : List Iteration) (state : State) → HaveIterated graphs streams k before state → GoesOnward m k state

  no_boards : (end : run.RunEnd) → boards_at_end faults end ≡ 0 → boards graphs (ended end) ≡ 0
  no_boards end e = let n = e in omega arith

  module _ (top : Graph) (top_is : slice_get graphs.graphs graphs.top ≡ Some top) (sound : faults ≡ []) where
    finds : (k : ℕ) (lack : Option Lack) → first_lack 0 (needs graphs) (rest k) ≡ lack → after_early graphs top (first_lack 0 (needs graphs) (rest k)) ≡ Ok lack
    finds k lack e = ap (λ f. unless_refused graphs.graphs top top.name f (first_lack 0 (needs graphs) (rest k))) sound ∙ ap (λ (l : Option Lack). Ok l) e

    checks_none : (k : ℕ) → first_lack 0 (needs graphs) (rest k) ≡ None → Checks graphs (rest k) (Ok None)
    checks_none k e = record { top = top; top_is = top_is; finds = finds k None e }

    -- such an iteration runs so
    steps_so : (n k : ℕ) (state : State) (lack : Option Lack) (r : Run) → first_lack 0 (needs graphs) (rest k) ≡ lack → AfterCheck graphs (RunsFrom graphs n) state (rest k) (Ok lack) r → RunsFrom graphs (suc n) state (rest k) r
    steps_so n k state lack r e h = (top, top_is, subst (λ x. AfterCheck graphs (RunsFrom graphs n) state (rest k) x r) (sym (finds k lack e)) h)

    board : (m : ℕ) → Onward m → (k : ℕ) (before : List Iteration) (state : State) → HaveIterated graphs streams k before state → first_lack 0 (needs graphs) (rest k) ≡ None →
        (first : List Step) → AreLegal (key k state) first → GoesSo (suc m) k state first
    board m on k before state done none first legal =
        let checks = checks_none k none in
        let is = is_key k before state done checks in
        let brought = given.ends (key k state) first is legal in
        let meaning = given.meant (top_firing top graphs.top (taken (needs graphs) (rest k)) state) record { there = slice_get_within graphs.graphs graphs.top top top_is; sound = sound } in
        go brought.0 brought.1 meaning.0 meaning.1
      where
        go : (steps : List Step) → BringsToEnd (key k state) first steps → (end : End) → Means graphs.graphs (top_firing top graphs.top (taken (needs graphs) (rest k)) state) end → GoesSo (suc m) k state first
        go steps ends (Ok one) means =
            let next : HaveIterated graphs streams (suc k) (before ++ iteration_of one ∷ []) one.state =
            (before, state, iteration_of one, done, record { checks = checks_none k none; gives = record { given = one; ends = record { top = top; top_is = top_is; means = means }; iteration_is = refl; state_is = refl } }, refl) in
            let more = on (suc k) (before ++ iteration_of one ∷ []) one.state next in
            let runs_on : RunsFrom graphs m one.state (left_by (needs graphs) (rest k)) more.r = subst (λ (s : State). RunsFrom graphs m one.state s more.r) (sym (rest_next k (needs graphs) streams)) more.runs in
            let number : suc k ≡ k + 1 = omega arith in
            let all = more.all in
            record {
              r = after (iteration_of one) more.r;
              runs = steps_so m k state None (after (iteration_of one) more.r) none (Ok one, record { top = top; top_is = top_is; means = means }, (more.r, runs_on, refl));
              steps = steps;
              ends = ends;
              later = more.texts;
              all = omega arith;
              journals = subst (λ (n : ℕ). Journals n more.texts) number more.journals;
            }
        go steps ends (Err refusal) means =
            let one : boards_at_end faults (run.Refused refusal) ≡ 1 = ap (λ (f : List part.Refusal). boards_at_end f (run.Refused refusal)) sound in
            record {
              r = ended (run.Refused refusal);
              runs = steps_so m k state None (ended (run.Refused refusal)) none (Err refusal, record { top = top; top_is = top_is; means = means }, refl);
              steps = steps;
              ends = ends;
              later = [];
              all = omega arith;
              journals = tt;
            }

    no_more : (m k : ℕ) (state : State) (end : run.RunEnd) → RunsFrom graphs m state (rest k) (ended end) → boards_at_end {T = part.Refusal} [] end ≡ 0 → GoesOnward m k state
    no_more m k state end runs none =
        let e : boards_at_end faults end ≡ 0 = ap (λ (f : List part.Refusal). boards_at_end f end) sound ∙ none in
        record { r = ended end; runs = runs; texts = []; all = sym (no_boards end e); journals = tt }

    onward_so : (m : ℕ) → Onward m → (k : ℕ) (before : List Iteration) (state : State) → HaveIterated graphs streams k before state → (lack : Option Lack) → first_lack 0 (needs graphs) (rest k) ≡ lack → GoesOnward (suc m) k state
    onward_so m on k before state done (Some lack) e = no_more (suc m) k state (run.Short lack) (steps_so m k state (Some lack) (ended (run.Short lack)) e refl) refl
    onward_so m on k before state done None e =
        let b = board m on k before state done e [] record { allowed = tt; picked = tt } in
        record {
          r = b.r;
          runs = b.runs;
          texts = journal_text k (journal_of (key k state) ([] ++ b.steps)) ∷ b.later;
          all = b.all;
          journals = (text_there k before state done [] b.steps b.ends, b.journals);
        }

    onward : (m : ℕ) → Onward m
    onward zero = λ k before state done. no_more zero k state (run.Done (map (λ (tokens : List ℤ). length tokens) (rest k))) refl refl
    onward (suc m) = λ k before state done. onward_so m (onward m) k before state done (first_lack 0 (needs graphs) (rest k)) refl

  -- ---- a run that has come so far

  pub record ComesTo (texts : List (List ℕ)) (state : State) (first : List Step) : Type 0 where
    pub r : Run
    pub is_run : run.IsRun graphs streams iterations r
    pub steps : List Step
    pub ends : BringsToEnd (key (length texts) state) first steps
    pub later : List (List ℕ)
    pub all : length texts + suc (length later) ≡ boards graphs r
    pub journals : Journals (length texts + 1) later
    pub text : IsJournalText graphs kernels streams workers (length texts) (journal_text (length texts) (journal_of (key (length texts) state) (first ++ steps)))

  pub come_on : (texts : List (List ℕ)) (state : State) (first : List Step) → HasCome graphs kernels streams iterations workers texts state first → ComesTo texts state first
  come_on texts state first come =
      let k : ℕ = length texts in
      let m : ℕ = iterations - (k + 1) in
      let less = come.one_more in
      let number : k + suc m ≡ iterations = omega arith in
      let sound = sound_by graphs (rest k) come.checks in
      let b = board come.checks.top come.checks.top_is sound m (onward come.checks.top come.checks.top_is sound m) k come.before state come.done (lacks_none come.checks) first come.legal in
      let whole = back graphs streams k (suc m) come.before state b.r come.done b.runs in
      let more = whole.more in
      let all = b.all in
      record {
        r = whole.all_of;
        is_run = subst (λ (n : ℕ). RunsFrom graphs n (initial graphs.graphs graphs.top) streams whole.all_of) number (subst (λ (s : State). RunsFrom graphs (k + suc m) (initial graphs.graphs graphs.top) s whole.all_of) (rest_first (needs graphs) streams) whole.runs);
        steps = b.steps;
        ends = b.ends;
        later = b.later;
        all = omega arith;
        journals = b.journals;
        text = text_there k come.before state come.done first b.steps b.ends;
      }
    where
      lacks_none : Checks graphs (rest (length texts)) (Ok None) → first_lack 0 (needs graphs) (rest (length texts)) ≡ None
      lacks_none c = none_lacks graphs (rest (length texts)) c
