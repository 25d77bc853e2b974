-- A node of a running firing is answered by what it called.
use Rattle.std.proofs.Common.{◌≡◌, ℕ, zero, suc, ◌<◌, ◌≤◌, ◌^◌, ⊎_elim, ℤ, Bool, true, List, [], ◌∷◌, length, map, set, get_or, slice_get, Option, Some, None, Ok, Err, refl, sym, ap, ap₂, ◌∙◌, subst, arith}
use Rattle.std.specs.Prelude.{Vec, is_none, if◌then◌else◌}
use Rattle.std.specs.Global.{Global}
use Rattle.std.specs.declared.snapshot.Snapshot.{Snapshot}
use Rattle.std.proofs.lemmas.List.{get_or-set_other, get_or-set_same, length-set}
use Rattle.kernel_gate.specs.Value.{FrameView, lengths}
use Rattle.nested_jobs.specs.Marks as mark
use Rattle.nested_jobs.specs.Marks.{Mark}
use Rattle.param_resolver.specs.Numbering.{acting, has_state}
use Rattle.pisdf_model.specs.declared.actor.Actor.{Actor}
use Rattle.pisdf_model.specs.declared.graph.Graph.{Graph}
use Rattle.pisdf_meaning.specs.declared.firing.Firing.{Firing}
use Rattle.pisdf_meaning.specs.declared.outcome.TraceRow.{TraceRow}
use Rattle.pisdf_meaning.specs.declared.refusal.Refusal.{Refusal}
use Rattle.sdf_level.specs.declared.node.Node.{Node}
use Rattle.sdf_level.specs.declared.node.Node.TheVariants as node
use Rattle.job_flow.specs.Frames.{lens}
use Rattle.job_flow.specs.Graphs.{node_at}
use Rattle.job_flow.specs.Events.{IsReady}
use Rattle.job_flow.specs.Laws.{ReadyStays}
use Rattle.job_rules.specs.Items.{actor_of, keeps_state}
use Rattle.job_rules.specs.Words as words
use Rattle.one_job.specs.Marks as one
use Rattle.one_job.specs.Pick.{is_child_in}
use Rattle.one_job.specs.View as leased
use Rattle.one_job.specs.View.{IsFiring}
use Rattle.job_preparing.specs.Handing.{lent_at, mark_at}
use Rattle.graph_firing.specs.Nodes.Invariants.{view_with}
use Rattle.graph_firing.specs.Nodes.Parts.{Fixed, KeepsAll, Stands, fired, held_at, job_in}
use Rattle.graph_firing.specs.Nodes.Stages.{lent_of, mark_of, stage_at, trace_in}
use Rattle.graph_firing.specs.declared.nodes.stage.Stage.{Stage}
use Rattle.graph_firing.specs.declared.nodes.stage.Stage.TheVariants.{Free, Open, Gave, Refused}
use Rattle.graph_firing.proofs.OfNodes.NodeMarks.{lent_here}
use Rattle.graph_firing.proofs.OfNodes.NodeSteps.{step}
use Rattle.graph_firing.proofs.OfNodes.NodeTasks.{nodes_are}
use Rattle.std.specs.Prelude.{slice_index}
use Rattle.std.proofs.lemmas.Bool.{cases_eq}
use Rattle.std.proofs.lemmas.List.{length-map, set-get_or}
use Rattle.param_resolver.specs.EarlyCheck.{early_of}
use Rattle.param_resolver.proofs.Sound.{resolvable}
use Rattle.param_resolver.proofs.Wired.{well_wired}
use Rattle.pisdf_model.specs.Parts.{outputs_of}
use Rattle.pisdf_model.specs.declared.graph.Interface.{Interface}
use Rattle.pisdf_meaning.proofs.KeptSizes.{outputs_many}
use Rattle.sdf_level.specs.Lists.{lists_of}
use Rattle.single_rate.specs.Expanded.{place_of}
use Rattle.single_rate.specs.Tiers.{FiringsAreAll, FiringsStandInOrder, NodesStandOnce}
use Rattle.job_rules.specs.Words.{answer_of}
use Rattle.job_preparing.specs.Handing.{SuitsCall, end_of, given_of}
use Rattle.job_preparing.specs.declared.handing.JobGiven.{JobGiven}
use Rattle.graph_firing.specs.Nodes.Parts.{AreTraces, call_count, row_at}
use Rattle.graph_firing.specs.Nodes.Sizes.{call_lens, child_outs}
use Rattle.graph_firing.proofs.OfNodes.CalledNodes.{child_sizes}
use Rattle.graph_firing.proofs.OfNodes.ClaimedNodes.{Fires, inside, is_call, item_is, keeps_on, spot, stage, state_kept, view_step}
use Rattle.graph_firing.proofs.OfNodes.NodeMarks.{IsOpen, open_stage}
use Rattle.graph_firing.proofs.OfNodes.NodeSteps.{step}
use Rattle.graph_firing.specs.declared.nodes.frames.Held.{Held}
use Rattle.graph_firing.specs.declared.nodes.frames.Held.TheVariants.{Nothing, Waits, Refuses}
use Rattle.graph_firing.proofs.OfNodes.OfferedNodes.{IsInside, firing_inside}

-- a node that fires a graph is a firing
pub is_firing : (kinds : List (Option ℕ)) (nd : Node) → is_child_in kinds nd ≡ true → IsFiring nd
is_firing kinds (node.Source s) is = absurd (cc)
is_firing kinds (node.Init l) is = absurd (cc)
is_firing kinds (node.Firing a k) is = tt
is_firing kinds (node.End l) is = absurd (cc)
is_firing kinds (node.Sink t) is = absurd (cc)
is_firing kinds (node.Broadcast l) is = absurd (cc)
is_firing kinds (node.Fork l i) is = absurd (cc)
is_firing kinds (node.Join l i) is = absurd (cc)
is_firing kinds (node.Round l) is = absurd (cc)

-- whether the state of an actor goes on, by its number
pub kept_at : (graphs : List Graph) (own : List Actor) (a : ℕ) (d : Bool) → a < length own → get_or (map (has_state graphs) own) a d ≡ keeps_state graphs (slice_get own a)
kept_at graphs [] a d inside = absurd (omega arith)
kept_at graphs (x ∷ own) zero d inside = refl
kept_at graphs (x ∷ own) (suc a) d inside = kept_at graphs own a d (omega arith)

-- ---- traces

module _ (nodes : List Node) (kinds : List (Option ℕ)) (counts : List ℕ) (stages : List Stage) (rows : List (Vec (List TraceRow) Global)) (traces : AreTraces nodes kinds counts stages rows) (once : (m : ℕ) → m < length nodes → place_of nodes (node_at nodes m) ≡ m)
    (n a k : ℕ) (there : n < length nodes) (at : node_at nodes n ≡ node.Firing a k) (a_in : a < length counts) (k_in : k < call_count kinds counts a) (long : length stages ≡ length nodes) where
  pub own_traces : (s : Stage) (trace : List TraceRow) (rows' : List (Vec (List TraceRow) Global)) → trace_in s ≡ trace → lists_of rows' ≡ set (lists_of rows) a (set (row_at rows a) k trace) → AreTraces nodes kinds counts (set stages n s) rows'
  own_traces s trace rows' traced are = record {
    one_each = ap length are ∙ length-set (lists_of rows) a (set (row_at rows a) k trace) ∙ traces.one_each;
    many = λ b. ⊎_elim
        (λ (same : b ≡ a). ap (λ i. length (row_at rows' i)) same ∙ ap length own_row ∙ length-set (row_at rows a) k trace ∙ traces.many a ∙ ap (call_count kinds counts) (sym same))
        (λ (other : b ≡ a → ⊥). ap length (other_row b other) ∙ traces.many b)
        (cases_eq b a);
    each = λ m b i m_in is. ⊎_elim
        (λ (same : m ≡ n).
        let e : node.Firing b i ≡ node.Firing a k = sym is ∙ ap (node_at nodes) same ∙ at in
        let b_is : b ≡ a = cc in
        let i_is : i ≡ k = cc in
        let stage_is : stage_at (set stages n s) m ≡ s = ap (stage_at (set stages n s)) same ∙ get_or-set_same stages n s Free (omega arith) in
        ap₂ (λ x y. get_or (row_at rows' x) y []) b_is i_is ∙ ap (λ l. get_or l k []) own_row ∙ get_or-set_same (row_at rows a) k trace [] (let l = traces.many a in omega arith) ∙ sym traced ∙ ap trace_in (sym stage_is))
        (λ (other : m ≡ n → ⊥).
        let stage_is : stage_at (set stages n s) m ≡ stage_at stages m = get_or-set_other stages n m s Free other in
        at_other m b i m_in is other ∙ traces.each m b i m_in is ∙ ap trace_in (sym stage_is))
        (cases_eq m n);
  }
    where
      own_row : row_at rows' a ≡ set (row_at rows a) k trace
      own_row = ap (λ l. get_or l a []) are ∙ get_or-set_same (lists_of rows) a (set (row_at rows a) k trace) [] (let l = traces.one_each in omega arith)

      other_row : (b : ℕ) → (b ≡ a → ⊥) → row_at rows' b ≡ row_at rows b
      other_row b other = ap (λ l. get_or l b []) are ∙ get_or-set_other (lists_of rows) a b (set (row_at rows a) k trace) [] other

      at_other : (m b i : ℕ) → m < length nodes → node_at nodes m ≡ node.Firing b i → (m ≡ n → ⊥) → get_or (row_at rows' b) i [] ≡ get_or (row_at rows b) i []
      at_other m b i m_in is other = ⊎_elim
          (λ (same : b ≡ a). ⊎_elim
          (λ (turn : i ≡ k). absurd (other (sym (once m m_in) ∙ ap (place_of nodes) (is ∙ ap₂ (λ x y. node.Firing x y) same turn ∙ sym at) ∙ once n there)))
          (λ (turn : i ≡ k → ⊥). ap (λ x. get_or (row_at rows' x) i []) same ∙ ap (λ l. get_or l i []) own_row ∙ get_or-set_other (row_at rows a) k i trace [] turn ∙ ap (λ x. get_or (row_at rows x) i []) (sym same))
          (cases_eq i k))
          (λ (differs : b ≡ a → ⊥). ap (λ l. get_or l i []) (other_row b differs))
          (cases_eq b a)

-- ---- the answer

module _ (f : Fixed) (stages : List Stage) (held : List Held) (rows : List (Vec (List TraceRow) Global)) (j : leased.JobView) (keeps : KeepsAll f stages held rows j) (n : ℕ) (d : Firing) (open_is : mark_at (view_with f stages).marks n ≡ mark.Open d) where
  abbrev G : List Graph
  G = f.graphs.graphs

  pub opened : IsOpen (stage f stages held rows j keeps n) d
  opened = open_stage (spot f stages held rows j keeps n) (stage f stages held rows j keeps n) d (sym (item_is f stages held rows j keeps n) ∙ open_is)

  pub there : n < length (job_in f).nodes
  there = inside f stages held rows j keeps n (λ free. let e : Free ≡ Open opened.own opened.told = sym free ∙ opened.stage_is in absurd (cc))

  abbrev StandsSo : Stage → one.Mark → Held → Type 0
  StandsSo s m o = Stands G (lens (job_in f) n) (state_kept f stages held rows j keeps n) (is_call f stages held rows j keeps n) (Fires f stages held rows j keeps n) s m o

  stands : StandsSo (Open opened.own opened.told) (one.mark_at j.marks n) (held_at held n)
  stands = subst (λ x. StandsSo x (one.mark_at j.marks n) (held_at held n)) opened.stage_is (keeps.stand.each n there)

  pub waits : held_at held n ≡ Waits opened.told.frame
  waits = stands.held

  pub inside_held : n < length held
  inside_held = keeps.stand.has_room n there stands.sort

  pub claimed : one.mark_at j.marks n ≡ one.Claimed opened.told.frame.places
  claimed = stands.mark_is

  pub firing : IsFiring (node_at j.compilation.graph.nodes n)
  firing = subst (λ (l : List Node). IsFiring (node_at l n)) (sym (nodes_are f stages held rows j keeps)) (is_firing j.kinds (node_at (job_in f).nodes n) stands.sort)

  pub lens_are : call_lens G (state_kept f stages held rows j keeps n) d ≡ lens (job_in f) n
  lens_are = ap (call_lens G (state_kept f stages held rows j keeps n)) (sym opened.job_is) ∙ stands.sizes.1

  -- what suits the call fits the frame
  pub fits_frame : (given : JobGiven) → SuitsCall G d (given_of given) → (frame : FrameView) → frame ≡ opened.told.frame → lengths frame.outputs ≡ lengths (child_outs (state_kept f stages held rows j keeps n) given.outs given.state)
  fits_frame given suits frame same =
      ap (λ (x : FrameView). lengths x.outputs) same ∙ stands.sizes.0 ∙ sym (child_sizes G (state_kept f stages held rows j keeps n) d given.outs given.state suits.outs suits.state ∙ lens_are)

  -- there are few outputs
  pub few_outs : (given : JobGiven) → SuitsCall G d (given_of given) → length given.outs < 2 ^ 32
  few_outs given suits =
      let many : length given.outs ≡ length (early_of G d.graph d.inherited).outputs = sym (length-map given.outs (λ (l : List ℤ). length l)) ∙ ap (λ (l : List ℕ). length l) suits.outs in
      let outs : length (early_of G d.graph d.inherited).outputs ≡ length (outputs_of (slice_get G d.graph)) = outputs_many G d.graph d.inherited [] ∙ length-map (outputs_of (slice_get G d.graph)) (λ (x : Interface). x.name) in
      let few : length (outputs_of (slice_get G d.graph)) ≤ 64 = few_of (slice_get G d.graph) refl in
      omega arith
    where
      few_of : (o : Option Graph) → slice_get G d.graph ≡ o → length (outputs_of o) ≤ 64
      few_of None is = omega arith
      few_of (Some h) is = let m = (well_wired f.graphs keeps.set_up.valid.well_formed (resolvable f.graphs keeps.set_up.valid.in_range keeps.set_up.valid.well_formed) d.graph h is).few_outputs in omega arith

  ready_then : IsReady (job_in f) (one.values j.marks) n
  ready_then = keeps.stand.ready n (λ free. let e : one.Free ≡ one.Claimed opened.told.frame.places = sym free ∙ claimed in absurd (cc))

  none_waits : held_at (set held n Nothing) n ≡ Nothing
  none_waits = get_or-set_same held n Nothing Nothing inside_held

  module _ (all : FiringsAreAll) (in_order : FiringsStandInOrder) (once : NodesStandOnce) (stays : ReadyStays ℤ ℕ) where
    pub firing_in : (a k : ℕ) → node_at j.compilation.graph.nodes n ≡ node.Firing a k → IsInside f stages held rows j keeps all in_order a k
    firing_in a k at = firing_inside f stages held rows j keeps all in_order n a k (ap (λ (l : List Node). node_at l n) (sym (nodes_are f stages held rows j keeps)) ∙ at)

    counts_many : length f.compilation.counts ≡ length (acting (fired f))
    counts_many = keeps.set_up.is_job.repetition.multiplied.one_each

    pub actor_in : (a k : ℕ) → node_at j.compilation.graph.nodes n ≡ node.Firing a k → a < length (lists_of rows)
    actor_in a k at = let i = (firing_in a k at).actor in let l = keeps.traces.one_each in let c = counts_many in omega arith

    called_turn : (a k : ℕ) → node_at j.compilation.graph.nodes n ≡ node.Firing a k → k < call_count j.kinds f.compilation.counts a
    called_turn a k at =
        let calls : is_none (get_or j.kinds a None) ≡ true = ap (is_child_in j.kinds) (sym at) ∙ ap (λ (l : List Node). is_child_in j.kinds (node_at l n)) (nodes_are f stages held rows j keeps) ∙ stands.sort in
        subst (λ b. k < (if b then slice_index f.compilation.counts a else 0)) (sym calls) (firing_in a k at).turn

    pub turn_in : (a k : ℕ) → node_at j.compilation.graph.nodes n ≡ node.Firing a k → k < length (row_at rows a)
    turn_in a k at = let i = called_turn a k at in let l = keeps.traces.many a in omega arith

    pub keeps_in : (a k : ℕ) → node_at j.compilation.graph.nodes n ≡ node.Firing a k → a < length f.keeps
    keeps_in a k at = let i = (firing_in a k at).actor in let l = ap (λ (l : List Bool). length l) keeps.parts.keeps_are ∙ length-map (acting (fired f)) (has_state G) in omega arith

    pub kept_is : (a k : ℕ) (b : Bool) → node_at j.compilation.graph.nodes n ≡ node.Firing a k → get_or f.keeps a b ≡ state_kept f stages held rows j keeps n
    kept_is a k b at =
        let own : node_at (job_in f).nodes n ≡ node.Firing a k = ap (λ (l : List Node). node_at l n) (sym (nodes_are f stages held rows j keeps)) ∙ at in
        ap (λ (l : List Bool). get_or l a b) keeps.parts.keeps_are ∙ kept_at G (acting (fired f)) a b (firing_in a k at).actor ∙ ap (λ x. keeps_state G (actor_of (fired f) x)) (sym own)

    pub keeps_gave : (a k : ℕ) (told : Snapshot JobGiven) (given : JobGiven) (frame : FrameView) (rows' : List (Vec (List TraceRow) Global)) → node_at j.compilation.graph.nodes n ≡ node.Firing a k → told.value ≡ given → SuitsCall G d (given_of given) →
        frame.outputs ≡ child_outs (state_kept f stages held rows j keeps n) given.outs given.state → lists_of rows' ≡ set (lists_of rows) a (set (row_at rows a) k given.trace) →
        KeepsAll f (set stages n (Gave told)) (set held n Nothing) rows' (record j { marks = set j.marks n (one.Finished frame.outputs) })
    keeps_gave a k told given frame rows' at told_is suits outs_are rows_are =
        let keep = state_kept f stages held rows j keeps n in
        let own : node_at (job_in f).nodes n ≡ node.Firing a k = ap (λ (l : List Node). node_at l n) (sym (nodes_are f stages held rows j keeps)) ∙ at in
        let outs_told : frame.outputs ≡ child_outs keep told.value.outs told.value.state = outs_are ∙ ap (λ (x : JobGiven). child_outs keep x.outs x.state) (sym told_is) in
        let sizes : lengths (child_outs keep told.value.outs told.value.state) ≡ lens (job_in f) n = ap (λ (x : JobGiven). lengths (child_outs keep x.outs x.state)) told_is ∙ child_sizes G keep d given.outs given.state suits.outs suits.state ∙ lens_are in
        record {
          set_up = keeps.set_up;
          stand = step G (fired f) j.kinds (job_in f) stages j.marks held keeps.stand stays n there (Gave told) (one.Finished frame.outputs) (set held n Nothing) (ap one.value_of claimed) ready_then
              record { mark_is = ap one.Finished outs_told; held = none_waits; sort = stands.sort; sizes = sizes }
              (length-set held n Nothing) (λ i other. get_or-set_other held n i Nothing Nothing other);
          traces = own_traces (job_in f).nodes j.kinds f.compilation.counts stages rows keeps.traces (λ m m_in. once (job_in f).level f.compilation.counts f.compilation.order m keeps.set_up.is_job.order m_in) n a k there own
              (let i = (firing_in a k at).actor in let c = counts_many in omega arith) (called_turn a k at) keeps.stand.one_stage (Gave told) given.trace rows' (ap (λ (x : JobGiven). x.trace) told_is) rows_are;
          parts = keeps.parts;
        }

    pub keeps_refused : (told : Snapshot Refusal) (refusal : Refusal) → told.value ≡ refusal → KeepsAll f (set stages n (Refused told)) (set held n (Refuses refusal)) rows (record j { marks = set j.marks n (one.Failed 0) })
    keeps_refused told refusal told_is =
        keeps_on f stages held rows j keeps n stays there (Refused told) (one.Failed 0) (set held n (Refuses refusal)) (ap one.value_of claimed) ready_then
        record { mark_is = refl; held = get_or-set_same held n (Refuses refusal) Nothing inside_held ∙ ap Refuses (sym told_is); sort = stands.sort; sizes = tt }
        (length-set held n (Refuses refusal)) (λ i other. get_or-set_other held n i (Refuses refusal) Nothing other) (sym (ap trace_in opened.stage_is))

    lent_same : set (view_with f stages).lent n None ≡ (view_with f stages).lent
    lent_same =
        let none : lent_at (view_with f stages).lent n ≡ None = lent_here stages n ∙ ap lent_of opened.stage_is in
        ap (set (view_with f stages).lent n) (sym none) ∙ set-get_or (view_with f stages).lent n None

    pub view_gave : (told : Snapshot JobGiven) (given : JobGiven) → told.value ≡ given → view_with f (set stages n (Gave told)) ≡ record (view_with f stages) { marks = set (view_with f stages).marks n (mark.Done (answer_of (end_of (Ok given)))) }
    view_gave told given told_is =
        let m : mark_of (spot f stages held rows j keeps n) (Gave told) ≡ mark.Done (answer_of (end_of (Ok given))) = ap (λ (x : JobGiven). mark.Done (words.Gives (given_of x))) told_is in
        let l = lent_same in
        view_step f stages n (Gave told) ∙ (λ i. record (view_with f stages) { marks = set (view_with f stages).marks n (m i); lent = l i })

    pub view_refused : (told : Snapshot Refusal) (refusal : Refusal) → told.value ≡ refusal → view_with f (set stages n (Refused told)) ≡ record (view_with f stages) { marks = set (view_with f stages).marks n (mark.Done (answer_of (end_of (Err refusal)))) }
    view_refused told refusal told_is =
        let l = lent_same in
        view_step f stages n (Refused told) ∙ (λ i. record (view_with f stages) { marks = set (view_with f stages).marks n (mark.Done (words.Refuses (told_is i))); lent = l i })
