-- A node of a running firing is claimed.
use Rattle.std.proofs.Common.{◌≡◌, ◌≢◌, ℕ, ◌<◌, ◌≤◌, ⊎_elim, ℤ, Bool, List, [], length, set, Option, Some, None, refl, sym, ap, ◌∙◌, subst, arith}
use Rattle.std.specs.Prelude.{Vec}
use Rattle.std.specs.Global.{Global}
use Rattle.kernel_gate.specs.declared.told.Told.{Told}
use Rattle.std.proofs.lemmas.Bool.{cases_lt}
use Rattle.std.proofs.lemmas.List.{get_or_past, map-set}
use Rattle.kernel_gate.specs.Value.{FrameView, lengths}
use Rattle.nested_jobs.specs.Marks as mark
use Rattle.nested_jobs.specs.Marks.{Mark}
use Rattle.nested_jobs.specs.Rules.{Task, Work}
use Rattle.param_resolver.specs.Numbering.{acting}
use Rattle.pisdf_meaning.specs.declared.firing.Firing.{Firing}
use Rattle.pisdf_meaning.specs.declared.outcome.TraceRow.{TraceRow}
use Rattle.pisdf_meaning.specs.declared.refusal.Refusal.{Refusal}
use Rattle.sdf_level.specs.declared.node.Node.{Node}
use Rattle.sdf_level.specs.declared.node.Node.TheVariants as node
use Rattle.job_flow.specs.Frames.{inputs, lens}
use Rattle.job_flow.specs.Graphs.{JobGraph, node_at}
use Rattle.job_flow.specs.Events.{IsReady}
use Rattle.job_flow.specs.Laws.{InputsInAnyWords, ReadyInAnyWords, ReadyStays}
use Rattle.job_rules.specs.Items.{actor_of, keeps_state}
use Rattle.job_rules.specs.Words as words
use Rattle.job_rules.specs.Words.{Spot}
use Rattle.one_job.specs.Marks as one
use Rattle.one_job.specs.Pick.{is_child_in}
use Rattle.one_job.specs.View as leased
use Rattle.one_job.specs.View.{IsFiring}
use Rattle.job_preparing.specs.Handing.{mark_at}
use Rattle.graph_firing.specs.Nodes.Calls.{IsHanded, frame_of, handed_out}
use Rattle.graph_firing.specs.Nodes.Invariants.{view_with}
use Rattle.graph_firing.specs.Nodes.Parts.{Fixed, KeepsAll, Stands, fired, held_at, job_in}
use Rattle.graph_firing.specs.Nodes.Sizes.{place_lens}
use Rattle.graph_firing.specs.Nodes.Stages.{held_by, lent_of, mark_of, spot_of, stage_at, trace_in}
use Rattle.graph_firing.specs.Nodes.View.{IsOfferedWork, task}
use Rattle.graph_firing.specs.declared.nodes.stage.Stage.{Stage}
use Rattle.graph_firing.specs.declared.nodes.stage.Stage.TheVariants.{Free, Busy}
use Rattle.graph_firing.proofs.OfNodes.NodeMarks.{free_stage, mark_here, marks_set}
use Rattle.graph_firing.proofs.OfNodes.NodeSteps.{same_traces, step}
use Rattle.graph_firing.specs.declared.nodes.frames.Held.{Held}
use Rattle.graph_firing.specs.declared.nodes.frames.Held.TheVariants.{Nothing}
use Rattle.graph_firing.proofs.OfNodes.NodeTasks.{HasFrame, free_job, handed_so, has_task, kernel_lens, nodes_are, own_ready, results, same_inputs, sort_of}

-- the view after one node steps on
pub view_step : (f : Fixed) (stages : List Stage) (n : ℕ) (s : Stage) →
    view_with f (set stages n s) ≡ record (view_with f stages) { marks = set (view_with f stages).marks n (mark_of (spot_of f.firing.path (acting (fired f)) (node_at (job_in f).nodes n)) s); lent = set (view_with f stages).lent n (lent_of s) }
view_step f stages n s =
    let marks_are = marks_set f.firing.path (acting (fired f)) (job_in f).nodes stages n s in
    let lents_are = map-set lent_of stages n s in
    λ k. record (view_with f stages) { marks = marks_are k; lent = lents_are k }

module _ (f : Fixed) (stages : List Stage) (held : List Held) (rows : List (Vec (List TraceRow) Global)) (j : leased.JobView) (keeps : KeepsAll f stages held rows j) (n : ℕ) where
  abbrev pub stage : Stage
  stage = stage_at stages n

  abbrev pub spot : Option Spot
  spot = spot_of f.firing.path (acting (fired f)) (node_at (job_in f).nodes n)

  abbrev pub state_kept : Bool
  state_kept = keeps_state f.graphs.graphs (actor_of (fired f) (node_at (job_in f).nodes n))

  abbrev pub is_call : Bool
  is_call = is_child_in j.kinds (node_at (job_in f).nodes n)

  abbrev pub Fires : Type 0
  Fires = IsFiring (node_at (job_in f).nodes n)

  pub item_is : mark_at (view_with f stages).marks n ≡ mark_of spot stage
  item_is = mark_here f.firing.path (acting (fired f)) (job_in f).nodes stages n keeps.stand.one_stage

  -- a node that isn't free is there
  pub inside : (stage ≡ Free → ⊥) → n < length (job_in f).nodes
  inside busy = ⊎_elim
      (λ (lt : n < length (job_in f).nodes). lt)
      (λ (past : length (job_in f).nodes ≤ n). absurd (busy (get_or_past stages n Free (let l = keeps.stand.one_stage in omega arith))))
      (cases_lt n (length (job_in f).nodes))

  -- all that is kept once the node steps on
  pub keeps_on : (stays : ReadyStays ℤ ℕ) (there : n < length (job_in f).nodes) (s : Stage) (m : one.Mark) (held' : List Held) → one.value_of (one.mark_at j.marks n) ≡ None → IsReady (job_in f) (one.values j.marks) n →
      Stands f.graphs.graphs (lens (job_in f) n) state_kept is_call Fires s m (held_at held' n) → length held' ≡ length held → ((k : ℕ) → k ≢ n → held_at held' k ≡ held_at held k) → trace_in s ≡ trace_in stage →
      KeepsAll f (set stages n s) held' rows (record j { marks = set j.marks n m })
  keeps_on stays there s m held' none ready stands long others traced = record {
    set_up = keeps.set_up;
    stand = step f.graphs.graphs (fired f) j.kinds (job_in f) stages j.marks held keeps.stand stays n there s m held' none ready stands long others;
    traces = same_traces (job_in f).nodes j.kinds f.compilation.counts stages rows keeps.traces n keeps.stand.one_stage s traced;
    parts = keeps.parts;
  }

  module _ (ready_words : ReadyInAnyWords ℤ ℕ Refusal) (input_words : InputsInAnyWords ℤ ℕ Refusal) (stays : ReadyStays ℤ ℕ) where
    -- ---- of a node that is claimed now

    module _ (free : mark_at (view_with f stages).marks n ≡ mark.Free) (t : Task Firing words.Work) (task_is : task (view_with f stages) n ≡ Some t) where
      pub was_free : stage ≡ Free
      was_free = free_stage spot stage (sym item_is ∙ free)

      pub job_was_free : one.mark_at j.marks n ≡ one.Free
      job_was_free = free_job f stages held rows j keeps ready_words input_words n free

      pub was_ready : IsReady (job_in f) (one.values j.marks) n
      was_ready = own_ready f stages held rows j keeps ready_words input_words n (has_task f stages held rows j keeps n t task_is).ready

      pub nothing_held : held_at held n ≡ Nothing
      nothing_held = (keeps.stand.each n was_ready.there).held ∙ ap held_by was_free

      pub no_value : one.value_of (one.mark_at j.marks n) ≡ None
      no_value = ap one.value_of job_was_free

      pub no_trace : trace_in stage ≡ []
      no_trace = ap trace_in was_free

    -- ---- with work of its own

    module _ (offered : IsOfferedWork (view_with f stages) n) (frame : FrameView) (kinds : (frame.kind ≡ leased.kind_of j n) × (frame.args ≡ leased.args_of j n) × (frame.sets ≡ []))
        (reads : frame.inputs ≡ inputs (leased.graph_of j) (one.values j.marks) n) (outs : lengths frame.outputs ≡ lens (leased.graph_of j) n) where
      abbrev node_here : Node
      node_here = node_at (job_in f).nodes n

      same_node : node_at j.compilation.graph.nodes n ≡ node_here
      same_node = ap (λ (l : List Node). node_at l n) (nodes_are f stages held rows j keeps)

      has_frame : HasFrame (leased.kind_at j.kinds node_here) (leased.args_at j.args node_here) (inputs (job_in f) (results f stages held rows j keeps) n) (lens (job_in f) n) frame
      has_frame = record {
        kind_is = kinds.0 ∙ ap (leased.kind_at j.kinds) same_node;
        args_are = kinds.1 ∙ ap (leased.args_at j.args) same_node;
        reads = reads ∙ ap (λ (x : JobGraph ℤ). inputs x (one.values j.marks) n) keeps.set_up.graph_is ∙ sym (same_inputs f stages held rows j keeps ready_words input_words n);
        outs = outs ∙ ap (λ (x : JobGraph ℤ). lens x n) keeps.set_up.graph_is;
        sets = kinds.2;
      }

      pub handed : IsHanded (task (view_with f stages) n) (handed_out (node_at j.compilation.graph.nodes n) frame)
      handed =
          let t = has_task f stages held rows j keeps n (Work offered.work) offered.task_is in
          let so = handed_so f stages held rows j keeps node_here _ (lens (job_in f) n) offered.work frame t.is (λ a k at actor own none. kernel_lens f stages held rows j keeps n a k actor at own none) has_frame in
          subst (λ o. IsHanded o (handed_out (node_at j.compilation.graph.nodes n) frame)) (sym offered.task_is) (subst (λ nd. IsHanded (Some (Work offered.work)) (handed_out nd frame)) (sym same_node) so)

      pub keeps_claimed : (told : Told) → told.frame ≡ frame → lengths frame.outputs ≡ place_lens frame.places → KeepsAll f (set stages n (Busy told)) held rows (record j { marks = set j.marks n (one.Claimed frame.places) })
      keeps_claimed told told_is measured =
          let t = has_task f stages held rows j keeps n (Work offered.work) offered.task_is in
          keeps_on stays (was_ready offered.free (Work offered.work) offered.task_is).there (Busy told) (one.Claimed frame.places) held (no_value offered.free (Work offered.work) offered.task_is) (was_ready offered.free (Work offered.work) offered.task_is)
          record {
            mark_is = ap (λ (x : FrameView). one.Claimed x.places) (sym told_is);
            held = nothing_held offered.free (Work offered.work) offered.task_is;
            sort = sym (sort_of f stages held rows j keeps node_here _ (lens (job_in f) n) (Work offered.work) t.is);
            sizes = ap (λ (x : FrameView). place_lens x.places) told_is ∙ sym measured ∙ has_frame.outs;
          }
          refl (λ k other. refl) (sym (no_trace offered.free (Work offered.work) offered.task_is))

      pub view_claimed : (told : Told) → told.frame ≡ frame → view_with f (set stages n (Busy told)) ≡ record (view_with f stages) { marks = set (view_with f stages).marks n mark.Busy; lent = set (view_with f stages).lent n (Some frame.places) }
      view_claimed told told_is = view_step f stages n (Busy told) ∙ ap (λ (x : FrameView). record (view_with f stages) { marks = set (view_with f stages).marks n mark.Busy; lent = set (view_with f stages).lent n (Some x.places) }) told_is

pub frame_out : (nd : Node) (frame : FrameView) → frame_of (handed_out nd frame) ≡ frame
frame_out (node.Source s) frame = refl
frame_out (node.Init l) frame = refl
frame_out (node.Firing a k) frame = refl
frame_out (node.End l) frame = refl
frame_out (node.Sink t) frame = refl
frame_out (node.Broadcast l) frame = refl
frame_out (node.Fork l i) frame = refl
frame_out (node.Join l i) frame = refl
frame_out (node.Round l) frame = refl
