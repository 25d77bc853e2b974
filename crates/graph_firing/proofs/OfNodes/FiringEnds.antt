-- How a running firing ends, in the words of its rules.
use Rattle.std.proofs.Common.{◌≡◌, ℕ, ◌<◌, ℤ, List, ◌++◌, length, map, Option, Some, None, Ok, Err, refl, sym, ap, ap₂, ◌∙◌, subst, arith}
use Rattle.std.specs.Prelude.{Vec}
use Rattle.std.specs.Option.{unwrap_or}
use Rattle.std.specs.Global.{Global}
use Rattle.param_resolver.specs.Numbering.{acting}
use Rattle.pisdf_model.specs.declared.actor.Actor.{Actor}
use Rattle.pisdf_model.specs.declared.graph.Graph.{Graph}
use Rattle.pisdf_meaning.specs.declared.outcome.TraceRow.{TraceRow}
use Rattle.pisdf_meaning.specs.declared.refusal.Refusal.{Refusal}
use Rattle.sdf_level.specs.declared.node.Node.{Node}
use Rattle.job_flow.specs.Graphs.{node_at}
use Rattle.one_job.specs.Marks as one
use Rattle.one_job.specs.View as leased
use Rattle.one_job.specs.View.{IsFiring}
use Rattle.graph_firing.specs.Nodes.Invariants.{view_with}
use Rattle.graph_firing.specs.Nodes.Parts.{Fixed, KeepsAll, fired, held_at, job_in, refusal_in}
use Rattle.graph_firing.specs.Nodes.Stages.{held_by, refusal_at, spot_of, stage_at}
use Rattle.graph_firing.specs.declared.nodes.stage.Stage.{Stage}
use Rattle.graph_firing.proofs.OfNodes.NodeTasks.{nodes_are}
use Rattle.pisdf_meaning.specs.Running.{child_rows, state_after}
use Rattle.pisdf_meaning.specs.declared.firing.Configured.{Configured}
use Rattle.job_flow.specs.Laws.{EndedInAnyWords, FailureInOtherWords}
use Rattle.job_flow.specs.Outcomes.{Failure, ended, failure}
use Rattle.sdf_level.specs.LevelRun.{Ended}
use Rattle.one_job.specs.Calls.{end_with as leased_end}
use Rattle.one_job.specs.declared.job.JobEnd.TheVariants.{Done as EndDone, Fault as EndFault}
use Rattle.job_preparing.specs.Handing.{end_of, with_traces}
use Rattle.graph_firing.proofs.OfNodes.NodeMarks.{refusal_for}
use Rattle.graph_firing.specs.Nodes.View.{end_with, outcome_of, traces_of}
use Rattle.graph_firing.proofs.OfNodes.ClaimedNodes.{spot}
use Rattle.graph_firing.specs.declared.nodes.frames.Held.{Held}
use Rattle.graph_firing.proofs.OfNodes.EndedFiring.{ended_is, failed_at, no_refusal, refusal_is, state_same}

-- what a job of leases that ended so tells of its first failure
pub record EndsDone (o : Option (Failure ℕ)) (end : Ended ℤ) (outs stored : List (List ℤ)) : Type 0 where
  pub none : o ≡ None
  pub outs_are : outs ≡ end.outs
  pub stored_are : stored ≡ end.left

pub ends_done : (o : Option (Failure ℕ)) (end : Ended ℤ) (outs stored : List (List ℤ)) → EndDone outs stored ≡ leased_end o end → EndsDone o end outs stored
ends_done None end outs stored is = record { none = refl; outs_are = cc; stored_are = cc }
ends_done (Some first) end outs stored is = absurd (cc)

pub record EndsFailed (o : Option (Failure ℕ)) (node code : ℕ) : Type 0 where
  pub first : Failure ℕ
  pub is : o ≡ Some first
  pub node_is : first.node ≡ node
  pub code_is : first.fault ≡ code

pub ends_failed : (o : Option (Failure ℕ)) (end : Ended ℤ) (node code : ℕ) → EndFault node code ≡ leased_end o end → EndsFailed o node code
ends_failed None end node code is = absurd (cc)
ends_failed (Some first) end node code is = record { first = first; is = refl; node_is = cc; code_is = cc }

module _ (f : Fixed) (stages : List Stage) (held : List Held) (rows : List (Vec (List TraceRow) Global)) (j : leased.JobView) (keeps : KeepsAll f stages held rows j) (failure_words : FailureInOtherWords ℤ ℕ Refusal) (ended_words : EndedInAnyWords ℤ ℕ Refusal) where
  abbrev G : List Graph
  G = f.graphs.graphs

  abbrev g : Graph
  g = fired f

  pub refused_end : (first : Failure ℕ) → failure (leased.graph_of j) (one.values j.marks) ≡ Some first → (refusal : Refusal) → refusal ≡ refusal_for (spot f stages held rows j keeps first.node) (stage_at stages first.node) first.fault →
      end_of (Err refusal) ≡ outcome_of (view_with f stages)
  refused_end first is refusal refusal_is' =
      let o = refusal_is f stages held rows j keeps failure_words ended_words first is in
      ap Err refusal_is' ∙ sym (ap (end_with (view_with f stages)) o)

  pub given_end : failure (leased.graph_of j) (one.values j.marks) ≡ None → (outs stored : List (List ℤ)) → outs ≡ (ended (leased.graph_of j) (one.values j.marks)).outs → stored ≡ (ended (leased.graph_of j) (one.values j.marks)).left →
      (configured : List Configured) (traces : List (List TraceRow)) → with_traces configured traces ≡ f.left → (state : List (List ℤ)) → state ≡ state_after G g configured stored →
      (trace : List TraceRow) → trace ≡ f.rows ++ child_rows f.compilation.counts (traces_of (view_with f stages)) 0 g.actors (with_traces configured traces) → (exports : List ℤ) → exports ≡ f.exports →
      end_of (Ok record { outs = outs; state = state; trace = trace; exports = exports }) ≡ outcome_of (view_with f stages)
  given_end none outs stored outs_are stored_are configured traces left_is state state_is trace trace_is exports exports_are =
      let o = no_refusal f stages held rows j keeps failure_words ended_words none in
      let end = ended_is f stages held rows j keeps failure_words ended_words in
      let outs' = outs_are ∙ ap (λ (e : Ended ℤ). e.outs) (sym end) in
      let state' = state_is ∙ sym (state_same G g configured traces stored) ∙ ap₂ (λ l s. state_after G g l s) left_is (stored_are ∙ ap (λ (e : Ended ℤ). e.left) (sym end)) in
      let trace' = trace_is ∙ ap₂ (λ a l. a ++ child_rows f.compilation.counts (traces_of (view_with f stages)) 0 g.actors l) keeps.parts.rows_are left_is in
      let exports' = exports_are ∙ keeps.parts.exports_are in
      ap Ok (λ k. record { outs = outs' k; state = state' k; trace = trace' k; exports = exports' k }) ∙ sym (ap (end_with (view_with f stages)) o)

  -- the refusal of the node with this number
  pub refused_here : (n code : ℕ) → EndFault n code ≡ leased_end (failure (leased.graph_of j) (one.values j.marks)) (ended (leased.graph_of j) (one.values j.marks)) →
      (which : Node) (called : Option Refusal) (refusal : Refusal) → which ≡ node_at j.compilation.graph.nodes n → called ≡ refusal_in (held_at held n) → ((own : List Actor) → f.names ≡ map (λ (a : Actor). a.name) own → refusal ≡ unwrap_or called (refusal_at (spot_of f.path own which) code)) →
      end_of (Err refusal) ≡ outcome_of (view_with f stages)
  refused_here n code is which called refusal which_is called_is told =
      let e = ends_failed (failure (leased.graph_of j) (one.values j.marks)) (ended (leased.graph_of j) (one.values j.marks)) n code is in
      let w : which ≡ node_at (job_in f).nodes e.first.node = which_is ∙ ap₂ (λ l m. node_at l m) (nodes_are f stages held rows j keeps) (sym e.node_is) in
      let there = (failed_at f stages held rows j keeps e.first e.is).there in
      let r : called ≡ refusal_in (held_by (stage_at stages e.first.node)) = called_is ∙ ap (λ (m : ℕ). refusal_in (held_at held m)) (sym e.node_is) ∙ ap refusal_in (keeps.stand.each e.first.node there).held in
      let p : f.path ≡ f.firing.path = keeps.parts.path_is in
      let c : code ≡ e.first.fault = sym e.code_is in
      refused_end e.first e.is refusal (told (acting (fired f)) keeps.parts.names_are ∙ (λ k. unwrap_or (r k) (refusal_at (spot_of (p k) (acting (fired f)) (w k)) (c k))))

  -- a node that failed is one of the job, and a firing
  pub failed_there : (n code : ℕ) → EndFault n code ≡ leased_end (failure (leased.graph_of j) (one.values j.marks)) (ended (leased.graph_of j) (one.values j.marks)) → n < length j.compilation.graph.nodes
  failed_there n code is =
      let e = ends_failed (failure (leased.graph_of j) (one.values j.marks)) (ended (leased.graph_of j) (one.values j.marks)) n code is in
      let at = failed_at f stages held rows j keeps e.first e.is in
      let l = ap length (nodes_are f stages held rows j keeps) in
      let same = e.node_is in
      let below = at.there in
      omega arith

  pub failed_fires : (n code : ℕ) → EndFault n code ≡ leased_end (failure (leased.graph_of j) (one.values j.marks)) (ended (leased.graph_of j) (one.values j.marks)) → IsFiring (node_at j.compilation.graph.nodes n)
  failed_fires n code is =
      let e = ends_failed (failure (leased.graph_of j) (one.values j.marks)) (ended (leased.graph_of j) (one.values j.marks)) n code is in
      subst (λ (m : ℕ). IsFiring (node_at j.compilation.graph.nodes m)) e.node_is (failed_at f stages held rows j keeps e.first e.is).fires
