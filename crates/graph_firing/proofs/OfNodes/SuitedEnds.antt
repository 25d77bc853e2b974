-- What a running firing gives suits the call.
use Rattle.std.proofs.Common.{◌≡◌, ℕ, ◌<◌, ◌≤◌, ℤ, Bool, List, length, map, Some, None, Ok, sym, ap, ◌∙◌, subst, arith}
use Rattle.std.specs.Prelude.{Vec}
use Rattle.std.specs.Global.{Global}
use Rattle.std.proofs.lemmas.List.{get_or_past}
use Rattle.kernel_gate.specs.Value.{lengths}
use Rattle.pisdf_model.specs.declared.graph.Graph.{Graph}
use Rattle.pisdf_meaning.specs.declared.outcome.TraceRow.{TraceRow}
use Rattle.job_flow.specs.Frames as flow
use Rattle.job_flow.specs.Frames.{lens}
use Rattle.job_flow.specs.Graphs.{JobGraph}
use Rattle.one_job.specs.Marks as one
use Rattle.one_job.specs.View as leased
use Rattle.graph_firing.specs.Nodes.Parts.{Fixed, KeepsAll, fired, job_in, values_of}
use Rattle.graph_firing.specs.Nodes.Sizes.{child_outs}
use Rattle.graph_firing.specs.Nodes.Stages.{FitsLens, job_mark, stage_at}
use Rattle.graph_firing.specs.declared.nodes.stage.Stage.{Stage}
use Rattle.graph_firing.specs.declared.nodes.stage.Stage.TheVariants.{Free, Busy, Lost, Open, Fired, Failed, Gave, Refused}
use Rattle.pisdf_meaning.specs.Running.{state_after, value_at}
use Rattle.pisdf_meaning.specs.declared.firing.Configured.{Configured}
use Rattle.job_flow.specs.Outcomes.{ended, failure}
use Rattle.sdf_level.specs.LevelRun.{Ended}
use Rattle.job_preparing.specs.Handing.{end_of, with_traces}
use Rattle.graph_firing.proofs.OfNodes.EndedFiring.{state_same}
use Rattle.std.proofs.lemmas.List.{length-map}
use Rattle.sdf_level.specs.LevelRun.{HaveDelays}
use Rattle.sdf_level.specs.declared.token_name.TokenName.{TokenName}
use Rattle.single_rate.specs.Laws.{FlowsDeliver, GraphsHaveOneFlow}
use Rattle.job_flow.specs.Events.{IsQuiet}
use Rattle.job_flow.specs.GraphLaws.{GraphLaws}
use Rattle.pisdf_meaning.proofs.KeptSizes.{Levelled}
use Rattle.pisdf_meaning.proofs.MadeLevels.{levels_made}
use Rattle.pisdf_meaning.proofs.SoundGraphs.{levelled}
use Rattle.pisdf_meaning.proofs.StateSizes.{begun_sizes}
use Rattle.job_preparing.specs.Handing.{EndSuits}
use Rattle.graph_firing.proofs.OfNodes.EndSizes.{left_fits, outs_long, state_long}
use Rattle.graph_firing.specs.declared.nodes.frames.Held.{Held}
use Rattle.graph_firing.proofs.OfNodes.NodeTasks.{here}

written_so : (graphs : List Graph) (ls : List ℕ) (keep : Bool) (s : Stage) (outs : List (List ℤ)) → FitsLens graphs ls keep s → one.value_of (job_mark keep s) ≡ Some (Ok outs) → lengths outs ≡ ls
written_so graphs ls keep Free outs sizes is = absurd (cc)
written_so graphs ls keep (Busy told) outs sizes is = absurd (cc)
written_so graphs ls keep (Lost told) outs sizes is = absurd (cc)
written_so graphs ls keep (Open job told) outs sizes is = absurd (cc)
written_so graphs ls keep (Fired told) outs sizes is = let same : told.frame.outputs ≡ outs = cc in ap lengths (sym same) ∙ sizes
written_so graphs ls keep (Failed code) outs sizes is = absurd (cc)
written_so graphs ls keep (Gave told) outs sizes is = let same : child_outs keep told.value.outs told.value.state ≡ outs = cc in ap lengths (sym same) ∙ sizes
written_so graphs ls keep (Refused told) outs sizes is = absurd (cc)

module _ (f : Fixed) (stages : List Stage) (held : List Held) (rows : List (Vec (List TraceRow) Global)) (j : leased.JobView) (keeps : KeepsAll f stages held rows j) where
  abbrev G : List Graph
  G = f.graphs.graphs

  abbrev g : Graph
  g = fired f

  level : Levelled G f.firing.graph g
  level = levelled f.graphs keeps.set_up.valid.well_formed f.firing.graph g (here f stages held rows j keeps) (levels_made f.graphs keeps.set_up.valid.in_range keeps.set_up.valid.well_formed)

  abbrev told : flow.Values ℤ ℕ
  told = one.values j.marks

  sized : (n : ℕ) (outs : List (List ℤ)) → n < length (job_in f).nodes → told n ≡ Some (Ok outs) → map length outs ≡ lens (job_in f) n
  sized n outs below at = let s = keeps.stand.each n below in written_so G (lens (job_in f) n) _ (stage_at stages n) outs s.sizes (ap one.value_of (sym s.mark_is) ∙ at)

  past_none : (n : ℕ) → length (job_in f).nodes ≤ n → told n ≡ None
  past_none n past = ap one.value_of (get_or_past j.marks n one.Free (let l = keeps.stand.one_mark in omega arith))

  module _ (known : GraphLaws) (one_flow : GraphsHaveOneFlow TokenName) (delivers : FlowsDeliver TokenName) (quiet : IsQuiet (leased.graph_of j) (one.values j.marks)) (none : failure (leased.graph_of j) (one.values j.marks) ≡ None) where
    quiet' : IsQuiet (job_in f) told
    quiet' = subst (λ (x : JobGraph ℤ). IsQuiet x told) keeps.set_up.graph_is quiet

    none' : failure (job_in f) told ≡ None
    none' = ap (λ (x : JobGraph ℤ). failure x told) (sym keeps.set_up.graph_is) ∙ none

    same_end : ended (leased.graph_of j) told ≡ ended (job_in f) told
    same_end = ap (λ (x : JobGraph ℤ). ended x told) keeps.set_up.graph_is

    pub end_suits : (outs stored : List (List ℤ)) → outs ≡ (ended (leased.graph_of j) (one.values j.marks)).outs → stored ≡ (ended (leased.graph_of j) (one.values j.marks)).left →
        (configured : List Configured) (traces : List (List TraceRow)) → with_traces configured traces ≡ f.left → (state : List (List ℤ)) → state ≡ state_after G g configured stored → (trace : List TraceRow) (exports : List ℤ) → exports ≡ f.exports →
        EndSuits G f.firing (end_of (Ok record { outs = outs; state = state; trace = trace; exports = exports }))
    end_suits outs stored outs_are stored_are configured traces left_is state state_is trace exports exports_are =
        let job_is = keeps.set_up.is_job in
        let left = left_fits known one_flow delivers f.compilation.counts f.compilation.order (job_in f) job_is told quiet' none' past_none sized in
        let stored_is : stored ≡ (ended (job_in f) told).left = stored_are ∙ ap (λ (e : Ended ℤ). e.left) same_end in
        let state' : state ≡ state_after G g f.left stored = state_is ∙ sym (state_same G g configured traces stored) ∙ ap (λ l. state_after G g l stored) left_is in
        let fits : HaveDelays (job_in f).level.links stored = subst (HaveDelays (job_in f).level.links) (sym stored_is) left in
        record {
          outs = ap lengths (outs_are ∙ ap (λ (e : Ended ℤ). e.outs) same_end) ∙ outs_long known one_flow delivers f.compilation.counts f.compilation.order (job_in f) job_is told quiet' none' past_none sized;
          state = ap lengths state' ∙ state_long G g (values_of f) level.wired f.left stored keeps.set_up.suits.states fits ∙ sym (begun_sizes G g f.firing.graph level.begins);
          exports = ap length (exports_are ∙ keeps.parts.exports_are) ∙ length-map g.exports (value_at (values_of f));
        }
