-- A node of a running firing is finished, whose frame comes back.
use Rattle.std.proofs.Common.{◌≡◌, ℕ, zero, suc, ◌<◌, ⊎_elim, ℤ, true, false, List, [], ◌∷◌, length, map, set, get_or, slice_get, Option, Some, None, Result, Ok, Err, refl, sym, ap, ◌∙◌, subst}
use Rattle.std.specs.Prelude.{Vec, is_none, ◌⊎◌, IsOk}
use Rattle.std.specs.Global.{Global}
use Rattle.kernel_gate.specs.Value.{FrameView, lengths}
use Rattle.kernel_gate.specs.declared.fault.KernelFault.{KernelFault}
use Rattle.nested_jobs.specs.Marks as mark
use Rattle.nested_jobs.specs.Rules.{Task, Work}
use Rattle.param_resolver.specs.Numbering.{acting}
use Rattle.pisdf_model.specs.declared.actor.Actor.{Actor}
use Rattle.pisdf_model.specs.declared.actor.Body.{Body}
use Rattle.pisdf_model.specs.declared.actor.Body.TheVariants.{Kernel, Config, Child, ConfigChild}
use Rattle.pisdf_meaning.specs.declared.firing.Firing.{Firing}
use Rattle.pisdf_meaning.specs.declared.outcome.TraceRow.{TraceRow}
use Rattle.pisdf_meaning.specs.declared.refusal.Refusal.{Refusal}
use Rattle.sdf_level.specs.declared.node.Node.{Node}
use Rattle.sdf_level.specs.declared.node.Node.TheVariants as node
use Rattle.job_flow.specs.Frames.{inputs, lens}
use Rattle.job_flow.specs.Graphs.{node_at}
use Rattle.job_flow.specs.Events.{IsReady}
use Rattle.job_flow.specs.Laws.{InputsInAnyWords, ReadyInAnyWords, ReadyStays}
use Rattle.job_rules.specs.Items.{actor_task, firing_task, node_task}
use Rattle.job_rules.specs.Words as words
use Rattle.job_rules.specs.Words.{Spot, given_outs}
use Rattle.one_job.specs.Calls.{finished_with}
use Rattle.one_job.specs.Marks as one
use Rattle.one_job.specs.Pick.{is_child_in}
use Rattle.one_job.specs.View as leased
use Rattle.one_job.specs.View.{IsFiring}
use Rattle.job_preparing.specs.Handing.{answer_with, fired_with, lent_at}
use Rattle.pisdf_meaning.specs.States.{tokens_at}
use Rattle.param_resolver.specs.LevelOf.{level_args, out_rates}
use Rattle.graph_firing.specs.Nodes.Invariants.{view_with}
use Rattle.graph_firing.specs.Nodes.Parts.{Fixed, KeepsAll, Stands, fired, held_at, job_in, kernel_in, kind_of_actor, values_of}
use Rattle.graph_firing.specs.Nodes.Sizes.{place_lens}
use Rattle.graph_firing.specs.Nodes.Stages.{IsEnded, fired_in, lent_of, name_in, mark_of, spot_of, trace_in}
use Rattle.graph_firing.specs.Nodes.View.{nodes_of, task}
use Rattle.graph_firing.specs.declared.nodes.stage.Stage.{Stage}
use Rattle.graph_firing.specs.declared.nodes.stage.Stage.TheVariants.{Free, Busy}
use Rattle.graph_firing.proofs.OfNodes.NodeMarks.{IsBusy, fired_stage, lent_busy, lent_here}
use Rattle.graph_firing.proofs.OfNodes.NodeTasks.{nodes_are, ready_task, results, told_ready}
use Rattle.graph_firing.specs.declared.nodes.frames.Held.{Held}
use Rattle.graph_firing.proofs.OfNodes.ClaimedNodes.{Fires, inside, is_call, keeps_on, spot, stage, state_kept, view_step}

-- an actor of the level with a kernel
record HasKernel (own : List Actor) (a : ℕ) : Type 0 where
  actor : Actor
  is : slice_get own a ≡ Some actor
  kernel : ℕ
  has : kernel_in actor.body ≡ Some kernel

kernel_of : (o : Option ℕ) → is_none o ≡ false → (kernel : ℕ) × (o ≡ Some kernel)
kernel_of None is = absurd (cc)
kernel_of (Some kernel) is = (kernel, refl)

has_kernel : (own : List Actor) (a : ℕ) → is_none (get_or (map kind_of_actor own) a None) ≡ false → HasKernel own a
has_kernel [] a is = absurd (cc)
has_kernel (x ∷ own) zero is = let k = kernel_of (kernel_in x.body) is in record { actor = x; is = refl; kernel = k.0; has = k.1 }
has_kernel (x ∷ own) (suc a) is = let again = has_kernel own a is in record { actor = again.actor; is = again.is; kernel = again.kernel; has = again.has }

module _ (f : Fixed) (stages : List Stage) (held : List Held) (rows : List (Vec (List TraceRow) Global)) (j : leased.JobView) (keeps : KeepsAll f stages held rows j) (n : ℕ) where
  abbrev path : List ℕ
  path = f.firing.path

  abbrev own : List Actor
  own = acting (fired f)

  -- ---- what it answers

  module _ (read : List (List ℤ)) (ls : List ℕ) (frame : FrameView) (answer : Result (Unit {0}) KernelFault) (s : Stage) (ended : IsEnded frame answer s) where
    abbrev AnswersSo : Node → Type 0
    AnswersSo nd = mark_of (spot_of path own nd) s ≡ mark.Done (answer_with (node_task f.graphs.graphs (fired f) f.firing (values_of f) nd read ls) frame answer)

    fired_mark : (sp : Spot) (a : Result (Unit {0}) KernelFault) → IsEnded frame a s → mark_of (Some sp) s ≡ mark.Done (fired_with sp frame a)
    fired_mark sp (Ok done) is =
        let e = fired_stage s frame is in
        ap (mark_of (Some sp)) e.stage_is ∙ ap (λ (x : FrameView). mark.Done (fired_in (Some sp) x)) e.frame_is
    fired_mark sp (Err fault) is = ap (mark_of (Some sp)) is

    copied_mark : (a : Result (Unit {0}) KernelFault) → IsOk a → IsEnded frame a s → mark_of None s ≡ mark.Done (words.Gives (given_outs frame.outputs))
    copied_mark (Ok done) ok is =
        let e = fired_stage s frame is in
        ap (mark_of None) e.stage_is ∙ ap (λ (x : FrameView). mark.Done (words.Gives (given_outs x.outputs))) e.frame_is
    copied_mark (Err fault) ok is = absurd (let e : false ≡ true = ok in cc)

    is_sound : (nd : Node) → (IsFiring nd → ⊥) → IsFiring nd ⊎ IsOk answer → IsOk answer
    is_sound nd never sound = ⊎_elim (λ (is : IsFiring nd). absurd (never is)) (λ (ok : IsOk answer). ok) sound

    abbrev asks : Actor → ℕ → ℕ → ℕ → Option (Task Firing words.Work)
    asks actor kernel k a = Some (Work (words.Fires record { path = path; name = actor.name; turn = k } record { kind = kernel; args = tokens_at (level_args (fired f) (values_of f)) a; inputs = read; lens = out_rates f.graphs.graphs (values_of f) actor.body; sets = 0 }))

    kernel_answers : (a k : ℕ) → is_none (get_or (map kind_of_actor own) a None) ≡ false → AnswersSo (node.Firing a k)
    kernel_answers a k is =
        let has = has_kernel own a is in
        let sp : Spot = record { path = path; name = has.actor.name; turn = k } in
        let spot_is : spot_of path own (node.Firing a k) ≡ Some sp = ap (λ o. Some record { path = path; name = name_in o; turn = k }) has.is in
        ap (λ o. mark_of o s) spot_is ∙ fired_mark sp answer ended ∙ ap (λ o. mark.Done (answer_with o frame answer)) (sym (ap (λ o. actor_task f.graphs.graphs (fired f) f.firing (values_of f) a k read o) has.is ∙ body_task has.actor has.actor.body refl has.kernel has.has k a))
      where
        body_task : (actor : Actor) (body : Body) → actor.body ≡ body → (kernel : ℕ) → kernel_in body ≡ Some kernel → (k a : ℕ) → firing_task f.graphs.graphs (fired f) f.firing (values_of f) a k read actor body ≡ asks actor kernel k a
        body_task actor (Kernel kernel exprs ins outs) same found has k a = let e : kernel ≡ found = cc in ap (λ i. asks actor i k a) e
        body_task actor (Config kernel exprs ins outs sets) same found has k a = absurd (cc)
        body_task actor (Child place exprs) same found has k a = absurd (cc)
        body_task actor (ConfigChild place exprs sets) same found has k a = absurd (cc)

    pub answers_so : (nd : Node) → is_child_in j.kinds nd ≡ false → IsFiring nd ⊎ IsOk answer → AnswersSo nd
    answers_so (node.Source i) own_work sound = copied_mark answer (is_sound (node.Source i) (λ x. x) sound) ended
    answers_so (node.Init l) own_work sound = copied_mark answer (is_sound (node.Init l) (λ x. x) sound) ended
    answers_so (node.Firing a k) own_work sound = kernel_answers a k (ap (λ (l : List (Option ℕ)). is_none (get_or l a None)) (sym keeps.set_up.kinds) ∙ own_work)
    answers_so (node.End l) own_work sound = copied_mark answer (is_sound (node.End l) (λ x. x) sound) ended
    answers_so (node.Sink t) own_work sound = copied_mark answer (is_sound (node.Sink t) (λ x. x) sound) ended
    answers_so (node.Broadcast l) own_work sound = copied_mark answer (is_sound (node.Broadcast l) (λ x. x) sound) ended
    answers_so (node.Fork l i) own_work sound = copied_mark answer (is_sound (node.Fork l i) (λ x. x) sound) ended
    answers_so (node.Join l i) own_work sound = copied_mark answer (is_sound (node.Join l i) (λ x. x) sound) ended
    answers_so (node.Round l) own_work sound = copied_mark answer (is_sound (node.Round l) (λ x. x) sound) ended

  -- ---- a frame that was lent

  module _ (frame : FrameView) (lent : lent_at (view_with f stages).lent n ≡ Some frame.places) where
    pub busy : IsBusy (stage f stages held rows j keeps n) frame.places
    busy = lent_busy (stage f stages held rows j keeps n) frame.places (sym (lent_here stages n) ∙ lent)

    pub there : n < length (job_in f).nodes
    there = inside f stages held rows j keeps n (λ free. let e : Free ≡ Busy busy.told = sym free ∙ busy.stage_is in absurd (cc))

    stands : Stands f.graphs.graphs (lens (job_in f) n) (state_kept f stages held rows j keeps n) (is_call f stages held rows j keeps n) (Fires f stages held rows j keeps n) (Busy busy.told) (one.mark_at j.marks n) (held_at held n)
    stands = subst (λ x. Stands f.graphs.graphs (lens (job_in f) n) (state_kept f stages held rows j keeps n) (is_call f stages held rows j keeps n) (Fires f stages held rows j keeps n) x (one.mark_at j.marks n) (held_at held n)) busy.stage_is (keeps.stand.each n there)

    pub claimed : one.mark_at j.marks n ≡ one.Claimed frame.places
    claimed = stands.mark_is ∙ ap one.Claimed busy.places_are

    pub node_sound : (answer : Result (Unit {0}) KernelFault) → IsFiring (node_at (nodes_of (view_with f stages)) n) ⊎ IsOk answer → IsFiring (node_at j.compilation.graph.nodes n) ⊎ IsOk answer
    node_sound answer sound = subst (λ (l : List Node). IsFiring (node_at l n) ⊎ IsOk answer) (sym (nodes_are f stages held rows j keeps)) sound

    was_ready : IsReady (job_in f) (one.values j.marks) n
    was_ready = keeps.stand.ready n (λ free. let e : one.Free ≡ one.Claimed frame.places = sym free ∙ claimed in absurd (cc))

    ended_sizes : (answer : Result (Unit {0}) KernelFault) (s : Stage) → IsEnded frame answer s → IsFiring (node_at (job_in f).nodes n) ⊎ IsOk answer → lengths frame.outputs ≡ place_lens frame.places →
        Stands f.graphs.graphs (lens (job_in f) n) (state_kept f stages held rows j keeps n) (is_call f stages held rows j keeps n) (Fires f stages held rows j keeps n) s (finished_with frame answer) (held_at held n) × (trace_in s ≡ [])
    ended_sizes (Ok done) s is sound measured =
        let e = fired_stage s frame is in
        let P : Stage → Type 0 = λ x. Stands f.graphs.graphs (lens (job_in f) n) (state_kept f stages held rows j keeps n) (is_call f stages held rows j keeps n) (Fires f stages held rows j keeps n) x (one.Finished frame.outputs) (held_at held n) × (trace_in x ≡ []) in
        subst P (sym e.stage_is) (
          record {
            mark_is = ap (λ (x : FrameView). one.Finished x.outputs) (sym e.frame_is);
            held = stands.held;
            sort = stands.sort;
            sizes = ap (λ (x : FrameView). lengths x.outputs) e.frame_is ∙ measured ∙ ap place_lens (sym busy.places_are) ∙ stands.sizes;
          },
          refl,
        )
    ended_sizes (Err fault) s is sound measured =
        let P : Stage → Type 0 = λ x. Stands f.graphs.graphs (lens (job_in f) n) (state_kept f stages held rows j keeps n) (is_call f stages held rows j keeps n) (Fires f stages held rows j keeps n) x (one.Failed fault.code) (held_at held n) × (trace_in x ≡ []) in
        subst P (sym is) (record { mark_is = refl; held = stands.held; sort = (stands.sort, ⊎_elim (λ (fires : IsFiring (node_at (job_in f).nodes n)). fires) (λ (ok : IsOk {T = Unit {0}} {E = KernelFault} (Err fault)). absurd (let e : false ≡ true = ok in cc)) sound); sizes = tt }, refl)

    module _ (ready_words : ReadyInAnyWords ℤ ℕ Refusal) (input_words : InputsInAnyWords ℤ ℕ Refusal) (stays : ReadyStays ℤ ℕ) (answer : Result (Unit {0}) KernelFault) (s : Stage) (ended : IsEnded frame answer s) where
      pub keeps_finished : IsFiring (node_at (nodes_of (view_with f stages)) n) ⊎ IsOk answer → lengths frame.outputs ≡ place_lens frame.places → KeepsAll f (set stages n s) held rows (record j { marks = set j.marks n (finished_with frame answer) })
      keeps_finished sound measured =
          let so = ended_sizes answer s ended sound measured in
          keeps_on f stages held rows j keeps n stays there s (finished_with frame answer) held (ap one.value_of claimed) was_ready so.0 refl (λ k other. refl) (so.1 ∙ sym (ap trace_in busy.stage_is))

      no_lease : (a : Result (Unit {0}) KernelFault) → IsEnded frame a s → lent_of s ≡ None
      no_lease (Ok done) is = ap lent_of (fired_stage s frame is).stage_is
      no_lease (Err fault) is = ap lent_of is

      pub view_finished : IsFiring (node_at (nodes_of (view_with f stages)) n) ⊎ IsOk answer →
          view_with f (set stages n s) ≡ record (view_with f stages) { marks = set (view_with f stages).marks n (mark.Done (answer_with (task (view_with f stages) n) frame answer)); lent = set (view_with f stages).lent n None }
      view_finished sound =
          let told = told_ready f stages held rows j keeps ready_words input_words n was_ready in
          let t = ready_task f stages held rows j keeps n told in
          let so = answers_so (inputs (job_in f) (results f stages held rows j keeps) n) (lens (job_in f) n) frame answer s ended (node_at (job_in f).nodes n) stands.sort sound in
          let m : mark_of (spot f stages held rows j keeps n) s ≡ mark.Done (answer_with (task (view_with f stages) n) frame answer) = so ∙ ap (λ o. mark.Done (answer_with o frame answer)) (sym t) in
          let l = no_lease answer ended in
          view_step f stages n s ∙ (λ k. record (view_with f stages) { marks = set (view_with f stages).marks n (m k); lent = set (view_with f stages).lent n (l k) })
