-- A running firing that ends.
use Rattle.std.proofs.Common.{◌≡◌, ℕ, zero, suc, ◌+◌, ◌<◌, ◌≤◌, ⊎_elim, ℤ, Bool, true, false, List, [], ◌∷◌, ◌++◌, length, get_or, take, drop, Option, Some, None, Result, Ok, Err, refl, sym, ap, ap₂, ◌∙◌, subst, arith, append_assoc, append-nil, take_all}
use Rattle.std.specs.Prelude.{Vec, is_none}
use Rattle.std.specs.Global.{Global}
use Rattle.std.proofs.lemmas.Bool.{cases_Bool, cases_lt}
use Rattle.std.proofs.lemmas.List.{get_or_past}
use Rattle.kernel_gate.specs.Value.{FrameView, Places}
use Rattle.nested_jobs.specs.Marks as mark
use Rattle.nested_jobs.specs.Marks.{Mark}
use Rattle.param_resolver.specs.Numbering.{has_state}
use Rattle.pisdf_model.specs.declared.actor.Actor.{Actor}
use Rattle.pisdf_model.specs.declared.graph.Graph.{Graph}
use Rattle.pisdf_meaning.specs.declared.outcome.TraceRow.{TraceRow}
use Rattle.pisdf_meaning.specs.declared.refusal.Refusal.{Refusal}
use Rattle.sdf_level.specs.declared.node.Node.{Node}
use Rattle.sdf_level.specs.declared.node.Node.TheVariants as node
use Rattle.job_flow.specs.Frames as flow
use Rattle.job_flow.specs.Graphs.{JobGraph, node_at}
use Rattle.job_rules.specs.Words.{Answer, Spot}
use Rattle.one_job.specs.Marks as one
use Rattle.one_job.specs.View as leased
use Rattle.one_job.specs.View.{IsFiring}
use Rattle.graph_firing.specs.Nodes.Invariants.{view_with}
use Rattle.graph_firing.specs.Nodes.Parts.{Fixed, KeepsAll, NoneWaits, fired, held_at, job_in}
use Rattle.graph_firing.specs.Nodes.Stages.{FitsSort, held_by, job_mark, lent_of, mark_of, stage_at, trace_in}
use Rattle.graph_firing.specs.declared.nodes.stage.Stage.{Stage}
use Rattle.graph_firing.specs.declared.nodes.stage.Stage.TheVariants.{Free, Busy, Lost, Open, Fired, Failed, Gave, Refused}
use Rattle.graph_firing.proofs.OfNodes.NodeMarks.{lent_here, refusal_for}
use Rattle.graph_firing.proofs.OfNodes.NodeTasks.{nodes_are, results}
use Rattle.std.specs.Prelude.{slice_index}
use Rattle.std.specs.List.{filter}
use Rattle.std.specs.Option.{option_map}
use Rattle.param_resolver.specs.Numbering.{is_kept}
use Rattle.pisdf_model.specs.InterfaceWires.{is_configuration}
use Rattle.pisdf_meaning.specs.Running.{actor_states, fifo_states, state_after, state_of_first, traces_below}
use Rattle.pisdf_meaning.specs.declared.firing.Configured.{Configured}
use Rattle.single_rate.specs.Expanded.{place_of}
use Rattle.single_rate.specs.Tiers.{FiringsAreThere, NodesAreFound}
use Rattle.job_flow.specs.Events.{IsQuiet}
use Rattle.job_flow.specs.Laws.{EndedInAnyWords, FailureInOtherWords}
use Rattle.job_flow.specs.Outcomes.{Failure, ended, failure, failure_from, failure_or}
use Rattle.job_flow.specs.Renamed.{renamed, renamed_failure}
use Rattle.job_rules.specs.Items.{first_refusal, node_result, refusal_or, trace_of}
use Rattle.job_rules.specs.Words.{Answer, Gives, Refuses, Schedules}
use Rattle.job_preparing.specs.Handing.{IsNothingLent, answers, with_traces}
use Rattle.graph_firing.specs.Nodes.Parts.{HaveTraces, HoldClaimed, call_count, flat, row_at}
use Rattle.graph_firing.specs.Nodes.View.{traces_of}
use Rattle.graph_firing.proofs.OfNodes.ClaimedNodes.{item_is, spot}
use Rattle.graph_firing.proofs.OfNodes.NodeTies.{values_are, words as told_words}
use Rattle.graph_firing.proofs.OfNodes.OfferedNodes.{never_claimed}
use Rattle.graph_firing.proofs.OfNodes.AnsweredNodes.{is_firing}
use Rattle.graph_firing.proofs.OfNodes.WrittenOuts.{take_one}
use Rattle.graph_firing.specs.declared.nodes.frames.Held.{Held}
use Rattle.graph_firing.specs.declared.nodes.frames.Held.TheVariants.{Nothing, Waits}
use Rattle.pisdf_meaning.specs.States.{tokens_at}

-- ---- what is held

none_waits : (frame : FrameView) → Nothing ≡ Waits frame → ⊥
none_waits frame is = absurd (cc)

module _ (f : Fixed) (stages : List Stage) (held : List Held) (rows : List (Vec (List TraceRow) Global)) (j : leased.JobView) (keeps : KeepsAll f stages held rows j) where
  held_so : (keep : Bool) (s : Stage) (m : one.Mark) (o : Held) → m ≡ job_mark keep s → o ≡ held_by s → (frame : FrameView) → o ≡ Waits frame → m ≡ one.Claimed frame.places
  held_so keep Free m o is held frame at = absurd (none_waits frame (sym held ∙ at))
  held_so keep (Busy told) m o is held frame at = absurd (none_waits frame (sym held ∙ at))
  held_so keep (Lost told) m o is held frame at = let e : Waits told.frame ≡ Waits frame = sym held ∙ at in let same : told.frame ≡ frame = cc in is ∙ ap (λ (x : FrameView). one.Claimed x.places) same
  held_so keep (Open job told) m o is held frame at = let e : Waits told.frame ≡ Waits frame = sym held ∙ at in let same : told.frame ≡ frame = cc in is ∙ ap (λ (x : FrameView). one.Claimed x.places) same
  held_so keep (Fired told) m o is held frame at = absurd (none_waits frame (sym held ∙ at))
  held_so keep (Failed code) m o is held frame at = absurd (none_waits frame (sym held ∙ at))
  held_so keep (Gave told) m o is held frame at = absurd (none_waits frame (sym held ∙ at))
  held_so keep (Refused told) m o is held frame at = absurd (let e = sym held ∙ at in cc)

  waits_so : (keep : Bool) (s : Stage) (m : one.Mark) (o : Held) → m ≡ job_mark keep s → o ≡ held_by s → lent_of s ≡ None → (places : Places) → m ≡ one.Claimed places → (frame : FrameView) × (o ≡ Waits frame)
  waits_so keep Free m o is held none places at = absurd (let e : one.Free ≡ one.Claimed places = sym is ∙ at in cc)
  waits_so keep (Busy told) m o is held none places at = absurd (cc)
  waits_so keep (Lost told) m o is held none places at = (told.frame, held)
  waits_so keep (Open job told) m o is held none places at = (told.frame, held)
  waits_so keep (Fired told) m o is held none places at = absurd (let e : one.Finished told.frame.outputs ≡ one.Claimed places = sym is ∙ at in cc)
  waits_so keep (Failed code) m o is held none places at = absurd (let e : one.Failed code ≡ one.Claimed places = sym is ∙ at in cc)
  waits_so keep (Gave told) m o is held none places at = absurd (let e = sym is ∙ at in cc)
  waits_so keep (Refused told) m o is held none places at = absurd (let e : one.Failed 0 ≡ one.Claimed places = sym is ∙ at in cc)

  -- where no frame is out, those of all claimed nodes wait
  pub hold_claimed : IsNothingLent (view_with f stages).lent → HoldClaimed j.marks held
  hold_claimed nothing = record {
    claimed = λ n frame at. ⊎_elim
        (λ (below : n < length (job_in f).nodes). let s = keeps.stand.each n below in held_so _ (stage_at stages n) (one.mark_at j.marks n) (held_at held n) s.mark_is s.held frame at)
        (λ (past : length (job_in f).nodes ≤ n). absurd (none_waits frame (sym (get_or_past held n Nothing (let l = keeps.stand.few_held in omega arith)) ∙ at)))
        (cases_lt n (length (job_in f).nodes));
    waits = λ n places at. ⊎_elim
        (λ (below : n < length (job_in f).nodes). let s = keeps.stand.each n below in waits_so _ (stage_at stages n) (one.mark_at j.marks n) (held_at held n) s.mark_is s.held (sym (lent_here stages n) ∙ nothing.each n) places at)
        (λ (past : length (job_in f).nodes ≤ n). absurd (let e : one.Free ≡ one.Claimed places = sym (get_or_past j.marks n one.Free (let l = keeps.stand.one_mark in omega arith)) ∙ at in cc))
        (cases_lt n (length (job_in f).nodes));
  }

  -- in a quiet firing no frame waits
  module _ (quiet : IsQuiet (leased.graph_of j) (one.values j.marks)) where
    pub none_held : NoneWaits held
    none_held n frame at = ⊎_elim
        (λ (below : n < length (job_in f).nodes).
        let s = keeps.stand.each n below in
        never_claimed f stages held rows j keeps quiet n frame.places (held_so _ (stage_at stages n) (one.mark_at j.marks n) (held_at held n) s.mark_is s.held frame at))
        (λ (past : length (job_in f).nodes ≤ n). none_waits frame (sym (get_or_past held n Nothing (let l = keeps.stand.few_held in omega arith)) ∙ at))
        (cases_lt n (length (job_in f).nodes))

  -- ---- the first refusal

  abbrev fault_of : Option (Failure Refusal) → Option Refusal
  fault_of None = None
  fault_of (Some first) = Some first.fault

  one_refusal : (keep : Bool) (i : ℕ) (o : Option Answer) (later : Option (Failure Refusal)) → refusal_or o (fault_of later) ≡ fault_of (failure_or i (option_map (node_result keep) o) later)
  one_refusal keep i None later = refl
  one_refusal keep i (Some (Gives given)) later = refl
  one_refusal keep i (Some (Schedules schedule)) later = refl
  one_refusal keep i (Some (Refuses refusal)) later = refl

  abbrev told : flow.Values ℤ Refusal
  told = results f stages held rows j keeps

  refusals : (i m : ℕ) → first_refusal (answers (view_with f stages).marks) i m ≡ fault_of (failure_from told i m)
  refusals i zero = refl
  refusals i (suc m) = ap (refusal_or (answers (view_with f stages).marks i)) (refusals (i + 1) m) ∙ one_refusal _ i (answers (view_with f stages).marks i) (failure_from told (i + 1) m)

  abbrev renames : ℕ → ℕ → Refusal
  renames = told_words f.graphs.graphs (fired f) f.firing.path j.kinds keeps.set_up.kinds (job_in f) stages j.marks held keeps.stand

  told_is : told ≡ renamed renames (one.values j.marks)
  told_is = values_are f.graphs.graphs (fired f) f.firing.path j.kinds keeps.set_up.kinds (job_in f) stages j.marks held keeps.stand

  module _ (failure_words : FailureInOtherWords ℤ ℕ Refusal) (ended_words : EndedInAnyWords ℤ ℕ Refusal) where
    first_is : first_refusal (answers (view_with f stages).marks) 0 (length (job_in f).nodes) ≡ fault_of (renamed_failure renames (failure (leased.graph_of j) (one.values j.marks)))
    first_is =
        refusals 0 (length (job_in f).nodes) ∙ ap (λ (v : flow.Values ℤ Refusal). fault_of (failure (job_in f) v)) told_is
        ∙ ap fault_of (failure_words (job_in f) renames (one.values j.marks)) ∙ ap (λ (x : JobGraph ℤ). fault_of (renamed_failure renames (failure x (one.values j.marks)))) (sym keeps.set_up.graph_is)

    pub refusal_is : (first : Failure ℕ) → failure (leased.graph_of j) (one.values j.marks) ≡ Some first →
        first_refusal (answers (view_with f stages).marks) 0 (length (job_in f).nodes) ≡ Some (refusal_for (spot f stages held rows j keeps first.node) (stage_at stages first.node) first.fault)
    refusal_is first is = first_is ∙ ap (λ o. fault_of (renamed_failure renames o)) is

    pub no_refusal : failure (leased.graph_of j) (one.values j.marks) ≡ None → first_refusal (answers (view_with f stages).marks) 0 (length (job_in f).nodes) ≡ None
    no_refusal is = first_is ∙ ap (λ o. fault_of (renamed_failure renames o)) is

    pub ended_is : ended (job_in f) told ≡ ended (leased.graph_of j) (one.values j.marks)
    ended_is =
        ap (λ (v : flow.Values ℤ Refusal). ended (job_in f) v) told_is ∙ ended_words (job_in f) renames (one.values j.marks) ∙ ap (λ (x : JobGraph ℤ). ended x (one.values j.marks)) (sym keeps.set_up.graph_is)

  -- ---- the failed node

  pub record FailedAt (first : Failure ℕ) : Type 0 where
    pub there : first.node < length (job_in f).nodes
    pub fires : IsFiring (node_at j.compilation.graph.nodes first.node)

  failed_below : (v : flow.Values ℤ ℕ) (i m : ℕ) (first : Failure ℕ) → failure_from v i m ≡ Some first → (first.node < i + m) × (v first.node ≡ Some (Err first.fault))
  failed_below v i zero first is = absurd (cc)
  failed_below v i (suc m) first is = go (v i) refl (λ e. let again = failed_below v (i + 1) m first e in (let l = again.0 in omega arith, again.1)) is
    where
      go : (o : Option (Result (List (List ℤ)) ℕ)) → v i ≡ o → (failure_from v (i + 1) m ≡ Some first → (first.node < i + suc m) × (v first.node ≡ Some (Err first.fault))) → failure_or i o (failure_from v (i + 1) m) ≡ Some first → (first.node < i + suc m) × (v first.node ≡ Some (Err first.fault))
      go None at later e = later e
      go (Some (Ok outs)) at later e = later e
      go (Some (Err fault)) at later e =
          let same : record { node = i; fault = fault } ≡ first = cc in
          let P : Failure ℕ → Type 0 = λ x. (x.node < i + suc m) × (v x.node ≡ Some (Err x.fault)) in
          subst P same (omega arith, at)

  fails_so : (keep child : Bool) (F : Type 0) (s : Stage) (nd : Node) (fault : ℕ) → FitsSort child F s → one.value_of (job_mark keep s) ≡ Some (Err fault) → (F → IsFiring nd) → (child ≡ true → IsFiring nd) → IsFiring nd
  fails_so keep child F Free nd fault sort is own called = absurd (cc)
  fails_so keep child F (Busy told) nd fault sort is own called = absurd (cc)
  fails_so keep child F (Lost told) nd fault sort is own called = absurd (cc)
  fails_so keep child F (Open job told) nd fault sort is own called = absurd (cc)
  fails_so keep child F (Fired told) nd fault sort is own called = absurd (cc)
  fails_so keep child F (Failed code) nd fault sort is own called = own sort.1
  fails_so keep child F (Gave told) nd fault sort is own called = absurd (cc)
  fails_so keep child F (Refused told) nd fault sort is own called = called sort

  pub failed_at : (first : Failure ℕ) → failure (leased.graph_of j) (one.values j.marks) ≡ Some first → FailedAt first
  failed_at first is =
      let at = failed_below (one.values j.marks) 0 (length (job_in f).nodes) first (ap (λ (x : JobGraph ℤ). failure x (one.values j.marks)) (sym keeps.set_up.graph_is) ∙ is) in
      let below : first.node < length (job_in f).nodes = let l = at.0 in omega arith in
      let s = keeps.stand.each first.node below in
      let own = fails_so _ _ _ (stage_at stages first.node) (node_at (job_in f).nodes first.node) first.fault s.sort (ap one.value_of (sym s.mark_is) ∙ at.1) (λ x. x) (is_firing j.kinds (node_at (job_in f).nodes first.node)) in
      record { there = below; fires = subst (λ (l : List Node). IsFiring (node_at l first.node)) (sym (nodes_are f stages held rows j keeps)) own }

  -- ---- traces

  traced : (sp : Option Spot) (s : Stage) → trace_of (mark.answer_of (mark_of sp s)) ≡ trace_in s
  traced sp Free = refl
  traced sp (Busy _) = refl
  traced sp (Lost _) = refl
  traced sp (Open job _) = refl
  traced None (Fired _) = refl
  traced (Some sp) (Fired _) = refl
  traced sp (Failed code) = refl
  traced sp (Gave _) = refl
  traced sp (Refused _) = refl

  flat_more : (xs : List (List TraceRow)) (x : List TraceRow) → flat (xs ++ x ∷ []) ≡ flat xs ++ x
  flat_more [] x = append-nil x
  flat_more (y ∷ xs) x = ap (λ l. y ++ l) (flat_more xs x) ∙ sym (append_assoc y (flat xs) x)

  flat_below : (own : ℕ → List TraceRow) (xs : List (List TraceRow)) (n : ℕ) → ((k : ℕ) → k < n → get_or xs k [] ≡ own k) → flat (take n xs) ≡ traces_below own n
  flat_below own xs zero same = refl
  flat_below own xs (suc n) same =
      let before : flat (take n xs) ≡ traces_below own n = flat_below own xs n (λ k below. same k (omega arith)) in
      ⊎_elim
      (λ (inside : n < length xs). ap flat (take_one xs n [] inside) ∙ flat_more (take n xs) (get_or xs n []) ∙ ap₂ (λ l m. l ++ m) before (same n (omega arith)))
      (λ (past : length xs ≤ n).
      let none : own n ≡ [] = sym (same n (omega arith)) ∙ get_or_past xs n [] past in
      ap flat (take_all (suc n) xs (omega arith) ∙ sym (take_all n xs past)) ∙ before ∙ sym (append-nil (traces_below own n)) ∙ ap (λ l. traces_below own n ++ l) (sym none))
      (cases_lt n (length xs))

  few_calls : (kinds : List (Option ℕ)) (counts : List ℕ) (a : ℕ) → call_count kinds counts a ≤ slice_index counts a
  few_calls kinds counts a = ⊎_elim
      (λ (calls : is_none (get_or kinds a None) ≡ true). rw calls (omega arith))
      (λ (never : is_none (get_or kinds a None) ≡ false). rw never (omega arith))
      (cases_Bool (is_none (get_or kinds a None)))

  module _ (found : NodesAreFound) (firings_there : FiringsAreThere) where
    pub have_traces : HaveTraces f.compilation.counts (traces_of (view_with f stages)) rows
    have_traces b =
        let n = slice_index f.compilation.counts b in
        let many = keeps.traces.many b in
        let few = few_calls j.kinds f.compilation.counts b in
        ap flat (sym (take_all n (row_at rows b) (omega arith))) ∙ flat_below (traces_of (view_with f stages) b) (row_at rows b) n (λ k below.
        let m : ℕ = place_of (job_in f).nodes (node.Firing b k) in
        let there : m < length (job_in f).nodes = firings_there (job_in f).level f.compilation.counts f.compilation.order b k keeps.set_up.is_job.order below in
        let at : node_at (job_in f).nodes m ≡ node.Firing b k = found (job_in f).nodes (node.Firing b k) there in
        keeps.traces.each m b k there at ∙ sym (ap (λ x. trace_of (mark.answer_of x)) (item_is f stages held rows j keeps m) ∙ traced (spot f stages held rows j keeps m) (stage_at stages m)))

-- ---- states don't depend on traces

state_first : (configured : List Configured) (traces : List (List TraceRow)) → state_of_first (with_traces configured traces) ≡ state_of_first configured
state_first [] traces = refl
state_first (one ∷ configured) [] = refl
state_first (one ∷ configured) (t ∷ traces) = refl

module _ (graphs : List Graph) (actors : List Actor) (x : Actor) (more : (configured : List Configured) (traces : List (List TraceRow)) (left : List (List ℤ)) → actor_states graphs actors (with_traces configured traces) left ≡ actor_states graphs actors configured left) where
  rest_same : (left : List (List ℤ)) (configured : List Configured) (traces : List (List TraceRow)) → actor_states graphs actors (drop 1 (with_traces configured traces)) left ≡ actor_states graphs actors (drop 1 configured) left
  rest_same left [] traces = refl
  rest_same left (one ∷ configured) [] = more configured [] left
  rest_same left (one ∷ configured) (t ∷ traces) = more configured traces left

  one_same : (configured : List Configured) (traces : List (List TraceRow)) (left : List (List ℤ)) → actor_states graphs (x ∷ actors) (with_traces configured traces) left ≡ actor_states graphs (x ∷ actors) configured left
  one_same configured traces left = ⊎_elim
      (λ (is : is_configuration x.body ≡ true). rw is (ap₂ (λ a l. a ∷ l) (state_first configured traces) (rest_same left configured traces)))
      (λ (is : is_configuration x.body ≡ false). ⊎_elim
      (λ (has : has_state graphs x ≡ true). rw (is, has) (ap (λ l. tokens_at left 0 ∷ l) (more configured traces (drop 1 left))))
      (λ (has : has_state graphs x ≡ false). rw (is, has) (ap (λ l. [] ∷ l) (more configured traces left)))
      (cases_Bool (has_state graphs x)))
      (cases_Bool (is_configuration x.body))

states_same : (graphs : List Graph) (actors : List Actor) (configured : List Configured) (traces : List (List TraceRow)) (left : List (List ℤ)) → actor_states graphs actors (with_traces configured traces) left ≡ actor_states graphs actors configured left
states_same graphs [] configured traces left = refl
states_same graphs (x ∷ actors) configured traces left = one_same graphs actors x (λ c t l. states_same graphs actors c t l) configured traces left

pub state_same : (graphs : List Graph) (g : Graph) (configured : List Configured) (traces : List (List TraceRow)) (left : List (List ℤ)) → state_after graphs g (with_traces configured traces) left ≡ state_after graphs g configured left
state_same graphs g configured traces left = ap (λ l. fifo_states g g.fifos left ++ l) (states_same graphs g.actors configured traces (drop (length (filter (is_kept g) g.fifos)) left))
