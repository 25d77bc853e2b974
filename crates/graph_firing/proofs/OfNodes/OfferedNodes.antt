-- Which nodes are on offer, and when nothing more will come of any.
use Rattle.std.proofs.Common.{◌≡◌, ℕ, zero, suc, ◌<◌, ◌&&◌, nat_lt, ⊎_elim, ℤ, Bool, true, false, List, length, get_or, slice_get, Option, Some, None, refl, sym, ap, ◌∙◌, subst, arith}
use Rattle.std.specs.Prelude.{Vec, is_none}
use Rattle.std.specs.Global.{Global}
use Rattle.kernel_gate.specs.Value.{Places}
use Rattle.nested_jobs.specs.Rules.{Task, Work, Call}
use Rattle.param_resolver.specs.Numbering.{acting}
use Rattle.pisdf_model.specs.declared.actor.Actor.{Actor}
use Rattle.pisdf_model.specs.declared.graph.Graph.{Graph}
use Rattle.pisdf_meaning.specs.declared.firing.Firing.{Firing}
use Rattle.pisdf_meaning.specs.declared.outcome.TraceRow.{TraceRow}
use Rattle.pisdf_meaning.specs.declared.refusal.Refusal.{Refusal}
use Rattle.sdf_level.specs.declared.node.Node.{Node}
use Rattle.sdf_level.specs.declared.node.Node.TheVariants as node
use Rattle.job_flow.specs.Frames.{inputs, lens}
use Rattle.job_flow.specs.Graphs.{JobGraph, node_at}
use Rattle.job_flow.specs.Events.{IsReady}
use Rattle.job_flow.specs.Laws.{InputsInAnyWords, ReadyInAnyWords}
use Rattle.job_rules.specs.Items.{actor_task, node_task}
use Rattle.job_rules.specs.Words as words
use Rattle.job_rules.specs.Words.{Spot}
use Rattle.one_job.specs.Marks as one
use Rattle.one_job.specs.Pick.{is_child_in}
use Rattle.one_job.specs.View as leased
use Rattle.job_preparing.specs.Handing.{mark_at}
use Rattle.graph_firing.specs.Nodes.Invariants.{view_with}
use Rattle.graph_firing.specs.Nodes.Parts.{Fixed, KeepsAll, fired, job_in, values_of}
use Rattle.graph_firing.specs.Nodes.Stages.{job_mark, mark_of, stage_at}
use Rattle.graph_firing.specs.Nodes.View.{IsOfferedWork, task}
use Rattle.graph_firing.specs.declared.nodes.stage.Stage.{Stage}
use Rattle.graph_firing.specs.declared.nodes.stage.Stage.TheVariants.{Free, Busy, Lost, Open, Fired, Failed, Gave, Refused}
use Rattle.graph_firing.proofs.OfNodes.NodeTasks.{enabled, has_task, nodes_are, own_ready, ready_task, results, sort_of, told_ready}
use Rattle.std.specs.Prelude.{IsTrue, slice_index}
use Rattle.std.proofs.lemmas.Bool.{and_from, and_parts, cases_eq, not-true}
use Rattle.std.proofs.lemmas.Option.{slice_get-get_or}
use Rattle.param_resolver.specs.Numbering.{fires}
use Rattle.pisdf_model.specs.InterfaceWires.{is_configuration}
use Rattle.pisdf_meaning.specs.Sound.{no_actor}
use Rattle.pisdf_meaning.proofs.LinkSizes.{placed}
use Rattle.nested_jobs.specs.Steps.{all_below, is_settled}
use Rattle.job_compiler.specs.Compilation.{Compilation}
use Rattle.single_rate.specs.Tiers.{FiringsAreAll, FiringsStandInOrder}
use Rattle.job_flow.specs.Events.{IsFinished, IsQuiet}
use Rattle.job_rules.specs.Items.{edges_in, is_ready_by, nodes_in}
use Rattle.job_rules.proofs.Growing.{ready_is}
use Rattle.job_rules.proofs.OfActors.{of_actor, within}
use Rattle.job_rules.proofs.Settled.{body_has_task, inside_of}
use Rattle.one_job.specs.Pick.{IsFirst, IsOffered}
use Rattle.worker_mapping.specs.declared.mapping.Mapping.{Mapping}
use Rattle.graph_firing.specs.Nodes.Parts.{prepared_of}
use Rattle.graph_firing.specs.Nodes.View.{IsOfferedCall, is_quiet}
use Rattle.graph_firing.proofs.OfNodes.ClaimedNodes.{item_is, spot, state_kept}
use Rattle.graph_firing.specs.declared.nodes.frames.Held.{Held}
use Rattle.graph_firing.proofs.OfNodes.NodeTasks.{job_free, leased_ready, ready_leased}

-- what is so below a number, is so of all below it
all_from : (n : ℕ) (test : ℕ → Bool) → ((k : ℕ) → k < n → test k ≡ true) → all_below n test ≡ true
all_from zero test each = refl
all_from (suc n) test each = and_from (test n) (all_below n test) (each n (omega arith)) (all_from n test (λ k below. each k (omega arith)))

all_at : (n : ℕ) (test : ℕ → Bool) → all_below n test ≡ true → (k : ℕ) → k < n → test k ≡ true
all_at zero test all k below = absurd (omega arith)
all_at (suc n) test all k below =
    let parts = and_parts (test n) (all_below n test) all in
    ⊎_elim
    (λ (here : k ≡ n). ap test here ∙ parts.0)
    (λ (other : k ≡ n → ⊥). all_at n test parts.1 k (omega arith))
    (cases_eq k n)

same_first : (mapping : Mapping) (worker : ℕ) (P Q : ℕ → Type 0) (r : Option ℕ) → ((n : ℕ) → P n → Q n) → ((n : ℕ) → Q n → P n) → IsFirst mapping worker P r → IsFirst mapping worker Q r
same_first mapping worker P Q None to from is = λ n q. is n (from n q)
same_first mapping worker P Q (Some n) to from is = (to n is.0, λ m q. is.1 m (from m q))

is_work : (t : Task Firing words.Work) → (elim t as (λ x. Bool) [ Work w ↦ false | Call d ↦ true ]) ≡ false → (w : words.Work) × (t ≡ Work w)
is_work (Work w) is = (w, refl)
is_work (Call d) is = absurd (cc)

is_called : (t : Task Firing words.Work) → (elim t as (λ x. Bool) [ Work w ↦ false | Call d ↦ true ]) ≡ true → (d : Firing) × (t ≡ Call d)
is_called (Work w) is = absurd (cc)
is_called (Call d) is = (d, refl)

-- where nothing more will come, no node is claimed
pub never_claimed : (f : Fixed) (stages : List Stage) (held : List Held) (rows : List (Vec (List TraceRow) Global)) (j : leased.JobView) → KeepsAll f stages held rows j → IsQuiet (leased.graph_of j) (one.values j.marks) → (n : ℕ) (places : Places) → one.mark_at j.marks n ≡ one.Claimed places → ⊥
never_claimed f stages held rows j keeps quiet n places is =
    let ready = keeps.stand.ready n (λ free. let e : one.Free ≡ one.Claimed places = sym free ∙ is in absurd (cc)) in
    subst (λ (m : one.Mark). IsFinished (one.value_of m)) is (quiet n (subst (λ (x : JobGraph ℤ). IsReady x (one.values j.marks) n) (sym keeps.set_up.graph_is) ready))

module _ (f : Fixed) (stages : List Stage) (held : List Held) (rows : List (Vec (List TraceRow) Global)) (j : leased.JobView) (keeps : KeepsAll f stages held rows j) (all : FiringsAreAll) (in_order : FiringsStandInOrder) where
  abbrev G : List Graph
  G = f.graphs.graphs

  abbrev g : Graph
  g = fired f

  -- ---- firings

  pub record IsInside (a k : ℕ) : Type 0 where
    pub actor : a < length (acting g)
    pub turn : k < slice_index f.compilation.counts a

  pub firing_inside : (n a k : ℕ) → node_at (job_in f).nodes n ≡ node.Firing a k → IsInside a k
  firing_inside n a k at =
      let job_is = keeps.set_up.is_job in
      let of = of_actor all in_order (job_in f).level f.compilation.counts f.compilation.order job_is.order n a k at in
      let turn = within all in_order (job_in f).level f.compilation.counts f.compilation.order job_is.order a k of in
      let low = inside_of f.compilation.counts a (omega arith) in
      let many = job_is.repetition.multiplied.one_each in
      record { actor = omega arith; turn = turn }

  -- each node has a task once it is ready
  node_has : (n : ℕ) (nd : Node) → node_at (job_in f).nodes n ≡ nd → (read : List (List ℤ)) (ls : List ℕ) → (t : Task Firing words.Work) × (node_task G g f.firing (values_of f) nd read ls ≡ Some t)
  node_has n (node.Source s) at read ls = (_, refl)
  node_has n (node.Init l) at read ls = (_, refl)
  node_has n (node.Firing a k) at read ls =
      let actor : Actor = get_or (acting g) a no_actor in
      let found : slice_get (acting g) a ≡ Some actor = slice_get-get_or (acting g) a no_actor (firing_inside n a k at).actor in
      let acts : fires actor ≡ true = (placed g.actors a actor found).acts in
      let task = body_has_task G g f.firing (values_of f) a k read actor actor.body (not-true (is_configuration actor.body) acts) in
      (task.0, ap (λ o. actor_task G g f.firing (values_of f) a k read o) found ∙ task.1)
  node_has n (node.End l) at read ls = (_, refl)
  node_has n (node.Sink t) at read ls = (_, refl)
  node_has n (node.Broadcast l) at read ls = (_, refl)
  node_has n (node.Fork l i) at read ls = (_, refl)
  node_has n (node.Join l i) at read ls = (_, refl)
  node_has n (node.Round l) at read ls = (_, refl)

  module _ (ready_words : ReadyInAnyWords ℤ ℕ Refusal) (input_words : InputsInAnyWords ℤ ℕ Refusal) where
    -- ---- what is on offer

    record Asks (n : ℕ) : Type 0 where
      t : Task Firing words.Work
      task_is : task (view_with f stages) n ≡ Some t
      sort : (elim t as (λ x. Bool) [ Work w ↦ false | Call d ↦ true ]) ≡ is_child_in j.kinds (node_at (job_in f).nodes n)

    asks : (n : ℕ) → IsReady (job_in f) (results f stages held rows j keeps) n → Asks n
    asks n ready =
        let has = node_has n (node_at (job_in f).nodes n) refl (inputs (job_in f) (results f stages held rows j keeps) n) (lens (job_in f) n) in
        record { t = has.0; task_is = ready_task f stages held rows j keeps n ready ∙ has.1; sort = sort_of f stages held rows j keeps (node_at (job_in f).nodes n) (inputs (job_in f) (results f stages held rows j keeps) n) (lens (job_in f) n) has.0 has.1 }

    child_node : (n : ℕ) → is_child_in j.kinds (node_at j.compilation.graph.nodes n) ≡ is_child_in j.kinds (node_at (job_in f).nodes n)
    child_node n = ap (λ (l : List Node). is_child_in j.kinds (node_at l n)) (nodes_are f stages held rows j keeps)

    offered_ready : (n : ℕ) → leased.IsEnabled j n → IsReady (job_in f) (results f stages held rows j keeps) n
    offered_ready n enabled = told_ready f stages held rows j keeps ready_words input_words n (ready_leased f stages held rows j keeps ready_words input_words n enabled.ready)

    offers_work : (n : ℕ) → IsOffered j false n → IsOfferedWork (view_with f stages) n
    offers_work n offered =
        let a = asks n (offered_ready n offered.enabled) in
        let w = is_work a.t (a.sort ∙ sym (child_node n) ∙ offered.sort) in
        record { free = job_free f stages held rows j keeps ready_words input_words n offered.enabled.unclaimed; work = w.0; task_is = a.task_is ∙ ap Some w.1 }

    offers_call : (n : ℕ) → IsOffered j true n → IsOfferedCall (view_with f stages) n
    offers_call n offered =
        let a = asks n (offered_ready n offered.enabled) in
        let d = is_called a.t (a.sort ∙ sym (child_node n) ∙ offered.sort) in
        record { free = job_free f stages held rows j keeps ready_words input_words n offered.enabled.unclaimed; job = d.0; task_is = a.task_is ∙ ap Some d.1 }

    sort_here : (n : ℕ) (t : Task Firing words.Work) → task (view_with f stages) n ≡ Some t → (elim t as (λ x. Bool) [ Work w ↦ false | Call d ↦ true ]) ≡ is_child_in j.kinds (node_at j.compilation.graph.nodes n)
    sort_here n t is = let has = has_task f stages held rows j keeps n t is in sort_of f stages held rows j keeps (node_at (job_in f).nodes n) _ (lens (job_in f) n) t has.is ∙ sym (child_node n)

    work_offered : (n : ℕ) → IsOfferedWork (view_with f stages) n → IsOffered j false n
    work_offered n offered = record { enabled = enabled f stages held rows j keeps ready_words input_words n (Work offered.work) offered.free offered.task_is; sort = sym (sort_here n (Work offered.work) offered.task_is) }

    call_offered : (n : ℕ) → IsOfferedCall (view_with f stages) n → IsOffered j true n
    call_offered n offered = record { enabled = enabled f stages held rows j keeps ready_words input_words n (Call offered.job) offered.free offered.task_is; sort = sym (sort_here n (Call offered.job) offered.task_is) }

    mapping_is : j.compilation.mapping ≡ f.compilation.mapping
    mapping_is = ap (λ (c : Compilation). c.mapping) keeps.set_up.compilation_is

    pub picks_work : (worker : ℕ) (r : Option ℕ) → IsFirst j.compilation.mapping worker (IsOffered j false) r → IsFirst f.compilation.mapping worker (IsOfferedWork (view_with f stages)) r
    picks_work worker r is = same_first f.compilation.mapping worker (IsOffered j false) (IsOfferedWork (view_with f stages)) r offers_work work_offered (subst (λ (m : Mapping). IsFirst m worker (IsOffered j false) r) mapping_is is)

    pub picks_call : (worker : ℕ) (r : Option ℕ) → IsFirst j.compilation.mapping worker (IsOffered j true) r → IsFirst f.compilation.mapping worker (IsOfferedCall (view_with f stages)) r
    picks_call worker r is = same_first f.compilation.mapping worker (IsOffered j true) (IsOfferedCall (view_with f stages)) r offers_call call_offered (subst (λ (m : Mapping). IsFirst m worker (IsOffered j true) r) mapping_is is)

    -- ---- when nothing more will come

    no_task : (n : ℕ) → (IsReady (job_in f) (results f stages held rows j keeps) n → ⊥) → task (view_with f stages) n ≡ None
    no_task n never = go (nat_lt n (length (nodes_in G g f.firing (prepared_of f))) && is_ready_by (edges_in G g f.firing (prepared_of f)) (results f stages held rows j keeps) n) refl
      where
        go : (b : Bool) → (nat_lt n (length (nodes_in G g f.firing (prepared_of f))) && is_ready_by (edges_in G g f.firing (prepared_of f)) (results f stages held rows j keeps) n) ≡ b → task (view_with f stages) n ≡ None
        go true is = absurd (never (ready_is G g f.firing (prepared_of f) (results f stages held rows j keeps) n is))
        go false is = rw is refl

    module _ (quiet : IsQuiet (leased.graph_of j) (one.values j.marks)) where
      finished_of : (n : ℕ) → IsReady (job_in f) (one.values j.marks) n → IsFinished (one.values j.marks n)
      finished_of n ready = quiet n (leased_ready f stages held rows j keeps ready_words input_words n ready)

      claimed_never : (n : ℕ) (places : Places) → one.mark_at j.marks n ≡ one.Claimed places → ⊥
      claimed_never n places is = never_claimed f stages held rows j keeps quiet n places is

      settled_stage : (n : ℕ) (s : Stage) → stage_at stages n ≡ s → one.mark_at j.marks n ≡ job_mark (state_kept f stages held rows j keeps n) s → is_settled (mark_of (spot f stages held rows j keeps n) s) (task (view_with f stages) n) ≡ true
      settled_stage n Free at is = ap is_none (no_task n (λ ready. subst (λ (m : one.Mark). IsFinished (one.value_of m)) is (finished_of n (own_ready f stages held rows j keeps ready_words input_words n ready))))
      settled_stage n (Busy told) at is = absurd (claimed_never n told.frame.places is)
      settled_stage n (Lost told) at is = absurd (claimed_never n told.frame.places is)
      settled_stage n (Open job told) at is = absurd (claimed_never n told.frame.places is)
      settled_stage n (Fired told) at is = refl
      settled_stage n (Failed code) at is = refl
      settled_stage n (Gave told) at is = refl
      settled_stage n (Refused told) at is = refl

      quiet_told : is_quiet (view_with f stages) ≡ true
      quiet_told = all_from (length (job_in f).nodes) (λ n. is_settled (mark_at (view_with f stages).marks n) (task (view_with f stages) n)) (λ n below.
          let s = keeps.stand.each n below in
          ap (λ m. is_settled m (task (view_with f stages) n)) (item_is f stages held rows j keeps n) ∙ settled_stage n (stage_at stages n) refl s.mark_is)

    some_finished : (keep : Bool) (sp : Option Spot) (s : Stage) (t : Task Firing words.Work) → is_settled (mark_of sp s) (Some t) ≡ true → IsFinished (one.value_of (job_mark keep s))
    some_finished keep sp Free t is = absurd (cc)
    some_finished keep sp (Busy told) t is = absurd (cc)
    some_finished keep sp (Lost told) t is = absurd (cc)
    some_finished keep sp (Open job told) t is = absurd (cc)
    some_finished keep sp (Fired told) t is = tt
    some_finished keep sp (Failed code) t is = tt
    some_finished keep sp (Gave told) t is = tt
    some_finished keep sp (Refused told) t is = tt

    pub told_quiet : is_quiet (view_with f stages) ≡ true → IsQuiet (leased.graph_of j) (one.values j.marks)
    told_quiet is n ready =
        let own = ready_leased f stages held rows j keeps ready_words input_words n ready in
        let a = asks n (told_ready f stages held rows j keeps ready_words input_words n own) in
        let s = keeps.stand.each n own.there in
        let settled = all_at (length (job_in f).nodes) (λ k. is_settled (mark_at (view_with f stages).marks k) (task (view_with f stages) k)) is n own.there in
        let at : is_settled (mark_of (spot f stages held rows j keeps n) (stage_at stages n)) (Some a.t) ≡ true =
        ap (λ o. is_settled (mark_of (spot f stages held rows j keeps n) (stage_at stages n)) o) (sym a.task_is) ∙ ap (λ m. is_settled m (task (view_with f stages) n)) (sym (item_is f stages held rows j keeps n)) ∙ settled in
        subst (λ (m : one.Mark). IsFinished (one.value_of m)) (sym s.mark_is) (some_finished (state_kept f stages held rows j keeps n) (spot f stages held rows j keeps n) (stage_at stages n) a.t at)

    pub quiet_is : (b : Bool) → (IsTrue b → IsQuiet (leased.graph_of j) (one.values j.marks)) → (IsQuiet (leased.graph_of j) (one.values j.marks) → IsTrue b) → b ≡ is_quiet (view_with f stages)
    quiet_is true to from = sym (quiet_told (to refl))
    quiet_is false to from = go (is_quiet (view_with f stages)) refl
      where
        go : (b : Bool) → is_quiet (view_with f stages) ≡ b → false ≡ is_quiet (view_with f stages)
        go true is = absurd (let e : false ≡ true = from (told_quiet is) in cc)
        go false is = sym is
