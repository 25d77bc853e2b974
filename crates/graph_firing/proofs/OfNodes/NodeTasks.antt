-- What the nodes of a running firing are to do, in the words of its rules and by its job of leases.
use Rattle.std.proofs.Common.{◌≡◌, ℕ, zero, suc, ◌&&◌, nat_lt, ℤ, Bool, true, false, List, [], ◌∷◌, ◌++◌, length, map, get_or, slice_get, Option, Some, None, refl, sym, ap, ◌∙◌, subst, append-nil}
use Rattle.std.specs.Prelude.{Vec, is_none, unwrap_or}
use Rattle.std.specs.Global.{Global}
use Rattle.std.proofs.lemmas.Option.{get_or_from_slice_get}
use Rattle.kernel_gate.specs.Value.{FrameView, lengths}
use Rattle.nested_jobs.specs.Marks as mark
use Rattle.nested_jobs.specs.Rules.{Task, Work, Call}
use Rattle.param_resolver.specs.LevelOf.{level_args, out_rates}
use Rattle.param_resolver.specs.Numbering.{acting, has_state, state_size}
use Rattle.pisdf_model.specs.declared.actor.Actor.{Actor}
use Rattle.pisdf_model.specs.declared.actor.Body.{Body}
use Rattle.pisdf_model.specs.declared.actor.Body.TheVariants.{Kernel, Config, Child, ConfigChild}
use Rattle.pisdf_model.specs.declared.graph.Graph.{Graph}
use Rattle.pisdf_meaning.specs.States.{tokens_at}
use Rattle.pisdf_meaning.specs.declared.firing.Firing.{Firing}
use Rattle.pisdf_meaning.specs.declared.outcome.TraceRow.{TraceRow}
use Rattle.pisdf_meaning.specs.declared.refusal.Refusal.{Refusal}
use Rattle.sdf_level.specs.declared.node.Node.{Node}
use Rattle.sdf_level.specs.declared.node.Node.TheVariants as node
use Rattle.job_flow.specs.Frames as flow
use Rattle.job_flow.specs.Frames.{inputs, lens, lengths_written}
use Rattle.job_flow.specs.Graphs.{JobGraph, node_at}
use Rattle.job_flow.specs.Events.{IsReady}
use Rattle.job_flow.specs.Laws.{InputsInAnyWords, ReadyInAnyWords}
use Rattle.job_rules.specs.Items.{actor_task, edges_in, firing_task, is_ready_by, no_graph, node_task, nodes_in}
use Rattle.job_rules.specs.Words as words
use Rattle.job_rules.proofs.Growing.{is_ready, ready_is}
use Rattle.job_rules.proofs.Parts.{passed}
use Rattle.one_job.specs.Marks as one
use Rattle.one_job.specs.Pick.{is_child_in}
use Rattle.one_job.specs.View as leased
use Rattle.job_preparing.specs.Handing.{AsksFor, mark_at}
use Rattle.graph_firing.specs.Nodes.Calls.{IsHanded, handed_out}
use Rattle.graph_firing.specs.Nodes.Invariants.{view_with}
use Rattle.graph_firing.specs.Nodes.Parts.{Fixed, KeepsAll, fired, job_in, kernel_in, kind_of_actor, prepared_of, values_of}
use Rattle.graph_firing.specs.Nodes.View.{RunningView, task}
use Rattle.graph_firing.specs.declared.nodes.stage.Stage.{Stage}
use Rattle.graph_firing.specs.declared.nodes.handed.Handed.TheVariants.{Copy, Fire}
use Rattle.graph_firing.proofs.OfNodes.NodeTies.{free_item, free_mark, inputs_are, ready_own, ready_told, told}
use Rattle.graph_firing.specs.declared.nodes.frames.Held.{Held}
use Rattle.graph_firing.proofs.OfNodes.OutputRates.{own_rate, written}

-- what holds of frames that are handed out
pub record HasFrame (kind : ℕ) (args : List ℤ) (read : List (List ℤ)) (lens_are : List ℕ) (frame : FrameView) : Type 0 where
  pub kind_is : frame.kind ≡ kind
  pub args_are : frame.args ≡ args
  pub reads : frame.inputs ≡ read
  pub outs : lengths frame.outputs ≡ lens_are
  pub sets : frame.sets ≡ []

kind_found : (own : List Actor) (a : ℕ) (actor : Actor) → slice_get own a ≡ Some actor → get_or (map kind_of_actor own) a None ≡ kind_of_actor actor
kind_found [] a actor is = absurd (cc)
kind_found (x ∷ own) zero actor is = let same : x ≡ actor = cc in ap kind_of_actor same
kind_found (x ∷ own) (suc a) actor is = kind_found own a actor is

module _ (f : Fixed) (stages : List Stage) (held : List Held) (rows : List (Vec (List TraceRow) Global)) (j : leased.JobView) (keeps : KeepsAll f stages held rows j) where
  abbrev pub G : List Graph
  G = f.graphs.graphs

  abbrev pub g : Graph
  g = fired f

  abbrev pub job : JobGraph ℤ
  job = job_in f

  abbrev pub v : RunningView
  v = view_with f stages

  abbrev pub values : List ℤ
  values = values_of f

  abbrev pub results : flow.Values ℤ Refusal
  results = told G g f.firing.path j.kinds keeps.set_up.kinds job stages j.marks held keeps.stand

  pub nodes_are : j.compilation.graph.nodes ≡ job.nodes
  nodes_are = ap (λ (x : JobGraph ℤ). x.nodes) keeps.set_up.graph_is

  -- ---- tasks of nodes that are ready

  pub ready_task : (n : ℕ) → IsReady job results n → task v n ≡ node_task G g f.firing values (node_at job.nodes n) (inputs job results n) (lens job n)
  ready_task n ready = let test = is_ready G g f.firing (prepared_of f) results n ready in rw test refl

  pub record HasTask (n : ℕ) (t : Task Firing words.Work) : Type 0 where
    pub ready : IsReady job results n
    pub is : node_task G g f.firing values (node_at job.nodes n) (inputs job results n) (lens job n) ≡ Some t

  pub has_task : (n : ℕ) (t : Task Firing words.Work) → task v n ≡ Some t → HasTask n t
  has_task n t is =
      let parts = passed (nat_lt n (length (nodes_in G g f.firing (prepared_of f))) && is_ready_by (edges_in G g f.firing (prepared_of f)) results n) (node_task G g f.firing values (node_at job.nodes n) (inputs job results n) (lens job n)) t is in
      record { ready = ready_is G g f.firing (prepared_of f) results n parts.test_is; is = parts.is }

  -- ---- which tasks are calls

  actor_sort : (a k : ℕ) (read : List (List ℤ)) (o : Option Actor) → slice_get (acting g) a ≡ o → (t : Task Firing words.Work) → actor_task G g f.firing values a k read o ≡ Some t → (elim t as (λ x. Bool) [ Work w ↦ false | Call d ↦ true ]) ≡ is_none (get_or (map kind_of_actor (acting g)) a None)
  actor_sort a k read None at t is = absurd (cc)
  actor_sort a k read (Some actor) at t is = body_sort actor.body refl t is
    where
      body_sort : (body : Body) → actor.body ≡ body → (t : Task Firing words.Work) → firing_task G g f.firing values a k read actor body ≡ Some t → (elim t as (λ x. Bool) [ Work w ↦ false | Call d ↦ true ]) ≡ is_none (get_or (map kind_of_actor (acting g)) a None)
      body_sort (Kernel kernel exprs ins outs) same (Work w) is = sym (ap is_none (kind_found (acting g) a actor at ∙ ap kernel_in same))
      body_sort (Kernel kernel exprs ins outs) same (Call d) is = absurd (cc)
      body_sort (Child place exprs) same (Work w) is = absurd (cc)
      body_sort (Child place exprs) same (Call d) is = sym (ap is_none (kind_found (acting g) a actor at ∙ ap kernel_in same))
      body_sort (Config kernel exprs ins outs sets) same t is = absurd (cc)
      body_sort (ConfigChild place exprs sets) same t is = absurd (cc)

  copy_sort : (nd : Node) (w : words.Work) (t : Task Firing words.Work) → Some (Work w) ≡ Some t → (elim t as (λ x. Bool) [ Work w ↦ false | Call d ↦ true ]) ≡ false
  copy_sort nd w (Work w') is = refl
  copy_sort nd w (Call d) is = absurd (cc)

  -- a task is a call exactly where the node is a job of its own
  pub sort_of : (nd : Node) (read : List (List ℤ)) (ls : List ℕ) (t : Task Firing words.Work) → node_task G g f.firing values nd read ls ≡ Some t → (elim t as (λ x. Bool) [ Work w ↦ false | Call d ↦ true ]) ≡ is_child_in j.kinds nd
  sort_of (node.Source s) read ls t is = copy_sort (node.Source s) (words.Copies (node.Source s) read ls) t is
  sort_of (node.Init l) read ls t is = copy_sort (node.Init l) (words.Copies (node.Init l) read ls) t is
  sort_of (node.Firing a k) read ls t is = actor_sort a k read (slice_get (acting g) a) refl t is ∙ ap (λ (l : List (Option ℕ)). is_none (get_or l a None)) (sym keeps.set_up.kinds)
  sort_of (node.End l) read ls t is = copy_sort (node.End l) (words.Copies (node.End l) read ls) t is
  sort_of (node.Sink i) read ls t is = copy_sort (node.Sink i) (words.Copies (node.Sink i) read ls) t is
  sort_of (node.Broadcast l) read ls t is = copy_sort (node.Broadcast l) (words.Copies (node.Broadcast l) read ls) t is
  sort_of (node.Fork l i) read ls t is = copy_sort (node.Fork l i) (words.Copies (node.Fork l i) read ls) t is
  sort_of (node.Join l i) read ls t is = copy_sort (node.Join l i) (words.Copies (node.Join l i) read ls) t is
  sort_of (node.Round l) read ls t is = copy_sort (node.Round l) (words.Copies (node.Round l) read ls) t is

  -- ---- what is on offer

  module _ (ready_words : ReadyInAnyWords ℤ ℕ Refusal) (input_words : InputsInAnyWords ℤ ℕ Refusal) where
    pub own_ready : (n : ℕ) → IsReady job results n → IsReady job (one.values j.marks) n
    own_ready n ready = ready_own G g f.firing.path j.kinds keeps.set_up.kinds job stages j.marks held keeps.stand ready_words input_words n ready

    pub told_ready : (n : ℕ) → IsReady job (one.values j.marks) n → IsReady job results n
    told_ready n ready = ready_told G g f.firing.path j.kinds keeps.set_up.kinds job stages j.marks held keeps.stand ready_words input_words n ready

    pub same_inputs : (n : ℕ) → inputs job results n ≡ inputs job (one.values j.marks) n
    same_inputs n = inputs_are G g f.firing.path j.kinds keeps.set_up.kinds job stages j.marks held keeps.stand ready_words input_words n

    pub leased_ready : (n : ℕ) → IsReady job (one.values j.marks) n → IsReady (leased.graph_of j) (one.values j.marks) n
    leased_ready n ready = subst (λ (x : JobGraph ℤ). IsReady x (one.values j.marks) n) (sym keeps.set_up.graph_is) ready

    pub ready_leased : (n : ℕ) → IsReady (leased.graph_of j) (one.values j.marks) n → IsReady job (one.values j.marks) n
    ready_leased n ready = subst (λ (x : JobGraph ℤ). IsReady x (one.values j.marks) n) keeps.set_up.graph_is ready

    pub free_job : (n : ℕ) → mark_at v.marks n ≡ mark.Free → one.mark_at j.marks n ≡ one.Free
    free_job n free = free_mark G g f.firing.path j.kinds keeps.set_up.kinds job stages j.marks held keeps.stand n free

    pub job_free : (n : ℕ) → one.mark_at j.marks n ≡ one.Free → mark_at v.marks n ≡ mark.Free
    job_free n free = free_item G g f.firing.path j.kinds keeps.set_up.kinds job stages j.marks held keeps.stand n free

    -- a free node with a task may be claimed
    pub enabled : (n : ℕ) (t : Task Firing words.Work) → mark_at v.marks n ≡ mark.Free → task v n ≡ Some t → leased.IsEnabled j n
    enabled n t free is = record { ready = leased_ready n (own_ready n (has_task n t is).ready); unclaimed = free_job n free }

  -- ---- what a frame has that is handed out

  firing_handed : (a k : ℕ) (read : List (List ℤ)) (ls : List ℕ) (w : words.Work) (frame : FrameView) (o : Option Actor) → slice_get (acting g) a ≡ o → actor_task G g f.firing values a k read o ≡ Some (Work w) →
      ((actor : Actor) → slice_get (acting g) a ≡ Some actor → has_state G actor ≡ false → ls ≡ out_rates G values actor.body) →
      HasFrame (unwrap_or (get_or j.kinds a None) 0) (get_or j.args a []) read ls frame → IsHanded (Some (Work w)) (Fire frame)
  firing_handed a k read ls w frame None at is rates has = absurd (cc)
  firing_handed a k read ls w frame (Some actor) at is rates has = of_body actor.body refl is
    where
      of_body : (body : Body) → actor.body ≡ body → firing_task G g f.firing values a k read actor body ≡ Some (Work w) → IsHanded (Some (Work w)) (Fire frame)
      of_body (Kernel kernel exprs ins outs) same is =
          let asked : words.Asked = record { kind = kernel; args = tokens_at (level_args g values) a; inputs = read; lens = out_rates G values actor.body; sets = 0 } in
          let w_is : words.Fires record { path = f.firing.path; name = actor.name; turn = k } asked ≡ w = cc in
          let kind : unwrap_or (get_or j.kinds a None) 0 ≡ kernel = ap (λ (l : List (Option ℕ)). unwrap_or (get_or l a None) 0) keeps.set_up.kinds ∙ ap (λ o. unwrap_or o 0) (kind_found (acting g) a actor at ∙ ap kernel_in same) in
          let none : has_state G actor ≡ false = ap (λ (b : Body). nat_lt 0 (state_size G b)) same in
          let asks : AsksFor asked frame = record {
            kind = has.kind_is ∙ kind;
            args = has.args_are ∙ ap (λ (l : List (List ℤ)). get_or l a []) keeps.set_up.args;
            inputs = has.reads;
            outputs = has.outs ∙ rates actor at none;
            sets = ap (λ (l : List ℤ). length l) has.sets;
          } in
          subst (λ x. IsHanded (Some (Work x)) (Fire frame)) w_is asks
      of_body (Child place exprs) same is = absurd (cc)
      of_body (Config kernel exprs ins outs sets) same is = absurd (cc)
      of_body (ConfigChild place exprs sets) same is = absurd (cc)

  copy_handed : (nd : Node) (read : List (List ℤ)) (ls : List ℕ) (w : words.Work) (frame : FrameView) → (let t : Option (Task Firing words.Work) = Some (Work (words.Copies nd read ls)) in t ≡ Some (Work w)) → HasFrame 0 [] read ls frame → IsHanded (Some (Work w)) (Copy nd frame)
  copy_handed nd read ls w frame is has =
      let w_is : words.Copies nd read ls ≡ w = cc in
      subst (λ x. IsHanded (Some (Work x)) (Copy nd frame)) w_is
      (refl, record { kind = has.kind_is; args = has.args_are; inputs = has.reads; outputs = has.outs; sets = has.sets })

  pub handed_so : (nd : Node) (read : List (List ℤ)) (ls : List ℕ) (w : words.Work) (frame : FrameView) → node_task G g f.firing values nd read ls ≡ Some (Work w) →
      ((a k : ℕ) → nd ≡ node.Firing a k → (actor : Actor) → slice_get (acting g) a ≡ Some actor → has_state G actor ≡ false → ls ≡ out_rates G values actor.body) →
      HasFrame (leased.kind_at j.kinds nd) (leased.args_at j.args nd) read ls frame → IsHanded (Some (Work w)) (handed_out nd frame)
  handed_so (node.Source s) read ls w frame is rates has = copy_handed (node.Source s) read ls w frame is has
  handed_so (node.Init l) read ls w frame is rates has = copy_handed (node.Init l) read ls w frame is has
  handed_so (node.Firing a k) read ls w frame is rates has = firing_handed a k read ls w frame (slice_get (acting g) a) refl is (rates a k refl) has
  handed_so (node.End l) read ls w frame is rates has = copy_handed (node.End l) read ls w frame is has
  handed_so (node.Sink t) read ls w frame is rates has = copy_handed (node.Sink t) read ls w frame is has
  handed_so (node.Broadcast l) read ls w frame is rates has = copy_handed (node.Broadcast l) read ls w frame is has
  handed_so (node.Fork l i) read ls w frame is rates has = copy_handed (node.Fork l i) read ls w frame is has
  handed_so (node.Join l i) read ls w frame is rates has = copy_handed (node.Join l i) read ls w frame is has
  handed_so (node.Round l) read ls w frame is rates has = copy_handed (node.Round l) read ls w frame is has

  -- ---- how much firings write

  pub here : slice_get G f.firing.graph ≡ Some g
  here = keeps.set_up.fit.here ∙ ap Some (sym (get_or_from_slice_get G f.firing.graph keeps.set_up.fit.g no_graph keeps.set_up.fit.here))

  pub lens_written : (n a k : ℕ) (actor : Actor) → node_at job.nodes n ≡ node.Firing a k → slice_get (acting g) a ≡ Some actor → lens job n ≡ out_rates G values actor.body ++ own_rate (has_state G actor) (state_size G actor.body)
  lens_written n a k actor at is = ap (λ (x : Node). lengths_written job x n) at ∙ written f.graphs keeps.set_up.valid.in_range keeps.set_up.valid.well_formed f.firing g here values a actor is

  pub kernel_lens : (n a k : ℕ) (actor : Actor) → node_at job.nodes n ≡ node.Firing a k → slice_get (acting g) a ≡ Some actor → has_state G actor ≡ false → lens job n ≡ out_rates G values actor.body
  kernel_lens n a k actor at is none = lens_written n a k actor at is ∙ ap (λ b. out_rates G values actor.body ++ own_rate b (state_size G actor.body)) none ∙ append-nil (out_rates G values actor.body)
