-- A run turn by turn.
use Rattle.std.proofs.Common.{◌≡◌, ◌≢◌, ℕ, zero, suc, ◌+◌, ◌<◌, ◌≤◌, ◌==◌, ◌&&◌, ℤ, ⊎_elim, List, [], ◌∷◌, ◌++◌, length, get_or, take, drop, drop-cons, drop_of_length-le, Ok, Err, if◌then◌else◌, refl, ap, sym, ◌∙◌, subst, append_assoc, arith, get_or-set_same, get_or-set_other}
use Rattle.std.proofs.lemmas.Bool.{cases_eq, eq-eqb, ne_eqb}
use Rattle.std.proofs.lemmas.List.{append-nil, take_all, take_more, get_or-map, length-map, map-append, take-map}
use Rattle.sdf_level.specs.View.{LevelView}
use Rattle.sdf_level.specs.Firings.{firings, actors_of, turns_after, turns_of}
use Rattle.sdf_level.specs.Run.{inputs, RunsFrom}
use Rattle.sdf_level.specs.declared.turn.Turn.{Turn}
use Rattle.sdf_level.proofs.FiringLists.{firings-snoc_own, firings-snoc_other, firings-snoc_more}
use Rattle.pisdf_meaning.specs.Running.{Traces, traces_below}
use Rattle.pisdf_meaning.specs.Turns.{TracedFire, traced, TurnFires, TurnRefused, AgreeOn, AreRows, HasCome, HasRun, MeetsRefusal}
use Rattle.pisdf_meaning.specs.declared.outcome.TraceRow.{TraceRow}
use Rattle.pisdf_meaning.specs.declared.refusal.Refusal.{Refusal}

-- with this trace for firing k of actor b
abbrev with_trace : Traces → ℕ → ℕ → List TraceRow → Traces
with_trace traces b k trace a j = if (a == b) && (j == k) then trace else traces a j

with_trace_here : (traces : Traces) (b k : ℕ) (trace : List TraceRow) → with_trace traces b k trace b k ≡ trace
with_trace_here traces b k trace = rw (eq-eqb b b refl, eq-eqb k k refl) refl

with_trace_before : (traces : Traces) (b k : ℕ) (trace : List TraceRow) (a j : ℕ) → j < k → with_trace traces b k trace a j ≡ traces a j
with_trace_before traces b k trace a j h = let n : j ≢ k = omega arith in ⊎_elim
    (λ (e : a ≡ b). rw (eq-eqb a b e, ne_eqb j k n) refl)
    (λ (d : a ≢ b). rw (ne_eqb a b d) refl)
    (cases_eq a b)

with_trace_other : (traces : Traces) (b k : ℕ) (trace : List TraceRow) (a j : ℕ) → a ≢ b → with_trace traces b k trace a j ≡ traces a j
with_trace_other traces b k trace a j d = rw (ne_eqb a b d) refl

traces_same : (f g : ℕ → List TraceRow) (n : ℕ) → ((j : ℕ) → j < n → f j ≡ g j) → traces_below f n ≡ traces_below g n
traces_same f g zero same = refl
traces_same f g (suc n) same = rw (traces_same f g n (λ j h. same j (omega arith)), same n (omega arith)) refl

module _ (level : LevelView) (fires : TracedFire) (sources starts : List (List ℤ)) (all : List ℕ) where
  pub come_start : (rows : List (List TraceRow)) → ((b : ℕ) → get_or rows b [] ≡ []) → HasCome level fires sources starts all [] all starts rows
  come_start rows empty = record { traces = λ b k. []; rows_are = λ b. empty b; goes_on = λ later agree end runs. runs }

  module _ (before rest : List ℕ) (b : ℕ) (lines lines' : List (List ℤ)) (rows rows' : List (List TraceRow)) (come : HasCome level fires sources starts all before (b ∷ rest) lines rows) where
    pub come_refused : (refusal : Refusal) → TurnRefused fires sources level.links b (firings b before) lines refusal → MeetsRefusal level fires sources starts all refusal
    come_refused refusal refused = record {
      traces = come.traces;
      runs = come.goes_on come.traces (λ a k h. refl) (Err refusal) (Err refusal, refused (come.traces b (firings b before)), refl);
    }

    module _ (inside : b < length rows) (turn : TurnFires fires sources level.links b (firings b before) lines lines' rows rows') where
      abbrev now : Traces
      now = with_trace come.traces b (firings b before) turn.trace

      rows_now : AreRows (before ++ b ∷ []) now rows'
      rows_now a = ⊎_elim
          (λ (e : a ≡ b).
          let here : get_or rows' b [] ≡ get_or rows b [] ++ turn.trace = ap (λ (r : List (List TraceRow)). get_or r b []) turn.rows_are ∙ get_or-set_same rows b (get_or rows b [] ++ turn.trace) [] inside in
          let was : get_or rows b [] ≡ traces_below (now b) (firings b before) = come.rows_are b ∙ traces_same (come.traces b) (now b) (firings b before) (λ j h. sym (with_trace_before come.traces b (firings b before) turn.trace b j h)) in
          let more : firings b (before ++ b ∷ []) ≡ suc (firings b before) = let s = firings-snoc_own b before in omega arith in
          rw e (here ∙ ap (λ (r : List TraceRow). r ++ turn.trace) was ∙ ap (λ (t : List TraceRow). traces_below (now b) (firings b before) ++ t) (sym (with_trace_here come.traces b (firings b before) turn.trace))
          ∙ ap (traces_below (now b)) (sym more)))
          (λ (d : a ≢ b).
          let here : get_or rows' a [] ≡ get_or rows a [] = ap (λ (r : List (List TraceRow)). get_or r a []) turn.rows_are ∙ get_or-set_other rows b a (get_or rows b [] ++ turn.trace) [] d in
          let same : firings a (before ++ b ∷ []) ≡ firings a before = firings-snoc_other a b before (λ e. d (sym e)) in
          here ∙ come.rows_are a ∙ traces_same (come.traces a) (now a) (firings a before) (λ j h. sym (with_trace_other come.traces b (firings b before) turn.trace a j d)) ∙ ap (traces_below (now a)) (sym same))
          (cases_eq a b)

      pub come_on : HasCome level fires sources starts all (before ++ b ∷ []) rest lines' rows'
      come_on = record {
        traces = now;
        rows_are = rows_now;
        goes_on = λ later agree end runs.
            let s = firings-snoc_own b before in
            let own : later b (firings b before) ≡ turn.trace = agree b (firings b before) (omega arith) ∙ with_trace_here come.traces b (firings b before) turn.trace in
            let old : AgreeOn before come.traces later = λ a k h. let m = firings-snoc_more a b before in
            agree a k (omega arith) ∙ ⊎_elim
            (λ (e : a ≡ b). with_trace_before come.traces b (firings b before) turn.trace a k (rw (← e) h))
            (λ (d : a ≢ b). with_trace_other come.traces b (firings b before) turn.trace a k d)
            (cases_eq a b) in
            let P : List TraceRow → Type 0 = λ t. fires b (firings b before) t (inputs sources b (firings b before) level.links lines) (Ok turn.outs) in
            let Q : List (List ℤ) → Type 0 = λ l. RunsFrom level (traced fires later) sources (before ++ b ∷ []) l rest end in
            come.goes_on later old end (Ok turn.outs, subst P (sym own) turn.fires_so, subst Q turn.lines_are runs);
      }

  pub come_end : (before : List ℕ) (lines : List (List ℤ)) (rows : List (List TraceRow)) → before ≡ all → HasCome level fires sources starts all before [] lines rows → HasRun level fires sources starts all lines rows
  come_end before lines rows whole come = record {
    traces = come.traces;
    rows_are = let P : List ℕ → Type 0 = λ l. AreRows l come.traces rows in subst P whole come.rows_are;
    runs = come.goes_on come.traces (λ a k h. refl) (Ok lines) refl;
  }

-- ---- the turns of a list

no_turn : Turn
no_turn = record { actor = 0; turn = 0 }

turn_after : (before list : List ℕ) (i : ℕ) (d : Turn) → i < length list → get_or (turns_after before list) i d ≡ record { actor = get_or list i 0; turn = firings (get_or list i 0) (before ++ take i list) }
turn_after before [] i d h = absurd (omega arith)
turn_after before (b ∷ list) zero d h = rw (append-nil before) refl
turn_after before (b ∷ list) (suc i) d h = turn_after (before ++ b ∷ []) list i d (omega arith) ∙ ap (λ (l : List ℕ). record { actor = get_or list i 0; turn = firings (get_or list i 0) l }) (append_assoc before (b ∷ []) (take i list))

turn_is : (turns : List Turn) (i : ℕ) (d : Turn) → i < length turns → turns ≡ turns_of (actors_of turns) → (get_or turns i d).turn ≡ firings (get_or turns i d).actor (actors_of (take i turns))
turn_is turns i d h numbered =
    let long : i < length (actors_of turns) = rw (length-map turns (λ (t : Turn). t.actor)) h in
    let own : get_or (actors_of turns) i 0 ≡ (get_or turns i d).actor = get_or-map (λ (t : Turn). t.actor) turns i d 0 h in
    let before : take i (actors_of turns) ≡ actors_of (take i turns) = take-map (λ (t : Turn). t.actor) i turns in
    let here = ap (λ (l : List Turn). (get_or l i d).turn) numbered ∙ ap (λ (t : Turn). t.turn) (turn_after [] (actors_of turns) i d long) in
    here ∙ ap (λ (a : ℕ). firings a (take i (actors_of turns))) own ∙ ap (firings (get_or turns i d).actor) before

module _ (level : LevelView) (fires : TracedFire) (sources starts : List (List ℤ)) (turns : List Turn) (numbered : turns ≡ turns_of (actors_of turns)) (i : ℕ) (d : Turn) (h : i < length turns)
    (lines lines' : List (List ℤ)) (rows rows' : List (List TraceRow))
    (come : HasCome level fires sources starts (actors_of turns) (actors_of (take i turns)) (actors_of (drop i turns)) lines rows) where
  abbrev come_here : HasCome level fires sources starts (actors_of turns) (actors_of (take i turns)) ((get_or turns i d).actor ∷ actors_of (drop (suc i) turns)) lines rows
  come_here = let P : List Turn → Type 0 = λ l. HasCome level fires sources starts (actors_of turns) (actors_of (take i turns)) (actors_of l) lines rows in subst P (drop-cons turns i d h) come

  pub come_next : (get_or turns i d).actor < length rows → TurnFires fires sources level.links (get_or turns i d).actor (get_or turns i d).turn lines lines' rows rows' →
      HasCome level fires sources starts (actors_of turns) (actors_of (take (i + 1) turns)) (actors_of (drop (i + 1) turns)) lines' rows'
  come_next inside turn =
      let T : ℕ → Type 0 = λ k. TurnFires fires sources level.links (get_or turns i d).actor k lines lines' rows rows' in
      let on = come_on level fires sources starts (actors_of turns) (actors_of (take i turns)) (actors_of (drop (suc i) turns)) (get_or turns i d).actor lines lines' rows rows' come_here inside (subst T (turn_is turns i d h numbered) turn) in
      let before : actors_of (take i turns) ++ (get_or turns i d).actor ∷ [] ≡ actors_of (take (i + 1) turns) = sym (ap actors_of (take_more turns i d h) ∙ map-append (λ (t : Turn). t.actor) (take i turns) (get_or turns i d ∷ [])) in
      let after : drop (suc i) turns ≡ drop (i + 1) turns = ap (λ n. drop n turns) (let e : suc i ≡ i + 1 = omega arith in e) in
      let P : List ℕ → Type 0 = λ l. HasCome level fires sources starts (actors_of turns) l (actors_of (drop (suc i) turns)) lines' rows' in
      let Q : List Turn → Type 0 = λ l. HasCome level fires sources starts (actors_of turns) (actors_of (take (i + 1) turns)) (actors_of l) lines' rows' in
      subst Q after (subst P before on)

  pub come_stops : (refusal : Refusal) → TurnRefused fires sources level.links (get_or turns i d).actor (get_or turns i d).turn lines refusal → MeetsRefusal level fires sources starts (actors_of turns) refusal
  come_stops refusal refused =
      let T : ℕ → Type 0 = λ k. TurnRefused fires sources level.links (get_or turns i d).actor k lines refusal in
      come_refused level fires sources starts (actors_of turns) (actors_of (take i turns)) (actors_of (drop (suc i) turns)) (get_or turns i d).actor lines lines rows rows come_here refusal (subst T (turn_is turns i d h numbered) refused)

pub come_through : (level : LevelView) (fires : TracedFire) (sources starts : List (List ℤ)) (turns : List Turn) (i : ℕ) (lines : List (List ℤ)) (rows : List (List TraceRow)) → length turns ≤ i →
    HasCome level fires sources starts (actors_of turns) (actors_of (take i turns)) (actors_of (drop i turns)) lines rows → HasRun level fires sources starts (actors_of turns) lines rows
come_through level fires sources starts turns i lines rows over come =
    let none : drop i turns ≡ [] = drop_of_length-le turns over in
    let P : List Turn → Type 0 = λ l. HasCome level fires sources starts (actors_of turns) (actors_of (take i turns)) (actors_of l) lines rows in
    come_end level fires sources starts (actors_of turns) (actors_of (take i turns)) lines rows (ap actors_of (take_all i turns over)) (subst P none come)
