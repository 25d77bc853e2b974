-- A node of a running firing calls the firing of a graph, and is answered.
use Rattle.std.proofs.Common.{◌≡◌, ℕ, zero, suc, ◌<◌, ◌≤◌, ◌^◌, ℤ, Bool, true, false, List, [], ◌∷◌, ◌++◌, length, map, set, get_or, slice_get, Option, Some, None, Result, Ok, Err, IfOk, OnErr, refl, sym, ap, ap₂, ◌∙◌, subst, arith, if◌then◌else◌, append-nil, length-append}
use Rattle.std.specs.Prelude.{Vec}
use Rattle.std.specs.Global.{Global}
use Rattle.std.proofs.lemmas.List.{get_or-set_other, get_or-set_same, length-set}
use Rattle.kernel_gate.specs.Value.{FrameView, lengths}
use Rattle.nested_jobs.specs.Marks as mark
use Rattle.nested_jobs.specs.Rules.{Call}
use Rattle.param_resolver.specs.Numbering.{acting, has_state}
use Rattle.pisdf_model.specs.declared.actor.Actor.{Actor}
use Rattle.pisdf_model.specs.declared.actor.Body.{Body}
use Rattle.pisdf_model.specs.declared.actor.Body.TheVariants.{Kernel, Config, Child, ConfigChild}
use Rattle.pisdf_model.specs.declared.graph.Graph.{Graph}
use Rattle.pisdf_meaning.specs.Configuring.{early_in}
use Rattle.pisdf_meaning.specs.declared.firing.Firing.{Firing}
use Rattle.pisdf_meaning.specs.declared.outcome.TraceRow.{TraceRow}
use Rattle.pisdf_meaning.specs.declared.refusal.Refusal.{Refusal}
use Rattle.sdf_level.specs.declared.node.Node.{Node}
use Rattle.sdf_level.specs.declared.node.Node.TheVariants as node
use Rattle.job_flow.specs.Frames.{arriving, arriving_below, inputs, lens, reads}
use Rattle.param_resolver.specs.declared.level_set.LevelSet.{LevelSet}
use Rattle.param_resolver.specs.LevelOf.{child_of}
use Rattle.sdf_level.specs.Invariants.{how_many}
use Rattle.sdf_level.specs.Run.{is_into_actor}
use Rattle.sdf_level.specs.declared.link.Link.{Link}
use Rattle.sdf_level.specs.declared.single_rate.Edge.{Edge}
use Rattle.job_flow.specs.Graphs.{JobGraph, node_at}
use Rattle.job_flow.specs.Events.{IsReady}
use Rattle.job_flow.specs.Laws.{InputsInAnyWords, ReadyInAnyWords, ReadyStays}
use Rattle.job_rules.specs.Items.{actor_of, actor_task, firing_task, keeps_state, node_task}
use Rattle.one_job.specs.Marks as one
use Rattle.one_job.specs.View as leased
use Rattle.one_job.specs.View.{IsFiring}
use Rattle.job_preparing.specs.Handing.{lent_at}
use Rattle.graph_firing.specs.Nodes.Invariants.{view_with}
use Rattle.graph_firing.specs.Nodes.Parts.{Fixed, KeepsAll, Stands, fired, held_at, job_in, values_of}
use Rattle.graph_firing.specs.Nodes.Stages.{lent_of, mark_of, trace_in}
use Rattle.graph_firing.specs.Nodes.View.{RunningView, task}
use Rattle.graph_firing.specs.declared.nodes.stage.Stage.{Stage}
use Rattle.graph_firing.specs.declared.nodes.stage.Stage.TheVariants.{Lost, Open}
use Rattle.graph_firing.proofs.OfNodes.NodeMarks.{lent_here}
use Rattle.graph_firing.proofs.OfNodes.NodeTasks.{has_task, nodes_are, results, same_inputs, sort_of}
use Rattle.std.specs.declared.alloc.AllocError.{AllocError}
use Rattle.std.proofs.lemmas.Bool.{eqb-true}
use Rattle.std.proofs.lemmas.List.{length-map, map-append, set-get_or}
use Rattle.std.proofs.lemmas.Option.{get_or_from_slice_get, slice_get_within}
use Rattle.param_expr.specs.Tree.{Tree}
use Rattle.param_resolver.specs.EarlyCheck.{early_of}
use Rattle.param_resolver.specs.EarlyView.{EarlyView}
use Rattle.param_resolver.specs.LevelOf.{level_args, out_rates}
use Rattle.param_resolver.specs.Numbering.{acting_places, state_size}
use Rattle.param_resolver.specs.Rates.{arg_values}
use Rattle.pisdf_model.specs.Hold.{in_line, initial}
use Rattle.pisdf_model.specs.Parts.{input_count}
use Rattle.pisdf_model.specs.Ports.{body_fits, inherited_count}
use Rattle.pisdf_meaning.specs.Running.{child_firing}
use Rattle.pisdf_meaning.specs.Sound.{no_actor}
use Rattle.pisdf_meaning.specs.States.{tokens_at}
use Rattle.pisdf_meaning.proofs.Fitting.{actor_fits}
use Rattle.pisdf_meaning.proofs.KeptSizes.{args_at, body_args}
use Rattle.pisdf_meaning.proofs.LinkSizes.{placed}
use Rattle.pisdf_meaning.proofs.StateSizes.{same_line}
use Rattle.job_rules.specs.Items.{no_graph}
use Rattle.job_preparing.specs.View.{HasInherited}
use Rattle.graph_firing.specs.Nodes.Sizes.{call_lens, child_outs}
use Rattle.graph_firing.specs.Nodes.Stages.{IsLost, IsOpened, IsWaiting}
use Rattle.graph_firing.specs.Nodes.View.{IsOfferedCall}
use Rattle.job_preparing.proofs.ActingPlaces.{EachPlaced, OneEach}
use Rattle.graph_firing.proofs.OfNodes.ClaimedNodes.{Fires, is_call, keeps_on, no_trace, no_value, spot, state_kept, view_step, was_free, was_ready}
use Rattle.graph_firing.proofs.OfNodes.NodeMarks.{lost_stage, opened_stage}
use Rattle.graph_firing.proofs.OfNodes.NodeTasks.{here, lens_written}
use Rattle.graph_firing.specs.declared.nodes.frames.Held.{Held}
use Rattle.graph_firing.specs.declared.nodes.frames.Held.TheVariants.{Nothing, Waits}
use Rattle.graph_firing.proofs.OfNodes.OutputRates.{own_rate}

own_if : (b : Bool) (size : ℕ) → own_rate b size ≡ (if b then size ∷ [] else [])
own_if true size = refl
own_if false size = refl

-- what suits a call is as long as the call's node writes
pub child_sizes : (graphs : List Graph) (keeps : Bool) (d : Firing) (outs state : List (List ℤ)) → lengths outs ≡ (early_of graphs d.graph d.inherited).outputs → lengths state ≡ lengths (initial graphs d.graph) →
    lengths (child_outs keeps outs state) ≡ call_lens graphs keeps d
child_sizes graphs true d outs state outs_fit state_fits =
    map-append (λ (l : List ℤ). length l) outs (in_line state ∷ []) ∙ ap (λ (l : List ℕ). l ++ length (in_line state) ∷ []) outs_fit
    ∙ ap (λ n. (early_of graphs d.graph d.inherited).outputs ++ n ∷ []) (same_line state (initial graphs d.graph) state_fits)
child_sizes graphs false d outs state outs_fit state_fits = ap lengths (append-nil outs) ∙ outs_fit ∙ sym (append-nil (early_of graphs d.graph d.inherited).outputs)

keeps_at : (graphs : List Graph) (own : List Actor) (a : ℕ) (actor : Actor) (b : Bool) → slice_get own a ≡ Some actor → slice_get (map (has_state graphs) own) a ≡ Some b → b ≡ has_state graphs actor
keeps_at graphs [] a actor b is at = absurd (cc)
keeps_at graphs (x ∷ own) zero actor b is at = let same : x ≡ actor = cc in let e : has_state graphs x ≡ b = cc in sym e ∙ ap (has_state graphs) same
keeps_at graphs (x ∷ own) (suc a) actor b is at = keeps_at graphs own a actor b is at

-- a node reads few lists
long_below : {T : Type 0} (edges : List Edge) (tokens : List (List T)) (n k : ℕ) → length (arriving_below edges tokens n k) ≡ k
long_below edges tokens n zero = refl
long_below edges tokens n (suc k) = let l = length-append (arriving_below edges tokens n k) (arriving edges tokens n k ∷ []) in let i = long_below edges tokens n k in omega arith

one_or_none : (b : Bool) → (if b then 1 else 0) ≤ 1
one_or_none true = omega arith
one_or_none false = omega arith

many_within : (test : Link → Bool) (links : List Link) → how_many test links ≤ length links
many_within test [] = omega arith
many_within test (link ∷ links) = let i = many_within test links in let b = one_or_none (test link) in omega arith

module _ (f : Fixed) (stages : List Stage) (held : List Held) (rows : List (Vec (List TraceRow) Global)) (j : leased.JobView) (keeps : KeepsAll f stages held rows j) (n : ℕ) where
  abbrev G : List Graph
  G = f.graphs.graphs

  abbrev g : Graph
  g = fired f

  abbrev read_told : List (List ℤ)
  read_told = inputs (job_in f) (results f stages held rows j keeps) n

  -- ---- which firing is called

  pub record CallsSo (d : Firing) : Type 0 where
    pub a : ℕ
    pub k : ℕ
    pub actor : Actor
    pub place : ℕ
    pub exprs : List Tree
    pub at : node_at (job_in f).nodes n ≡ node.Firing a k
    pub own : slice_get (acting g) a ≡ Some actor
    pub body_is : actor.body ≡ Child place exprs
    pub job_is : d ≡ child_firing G f.firing actor.name k (tokens_at (level_args g (values_of f)) a) (has_state G actor) place (input_count G actor.body) read_told

  actor_calls : (d : Firing) (a k : ℕ) → node_at (job_in f).nodes n ≡ node.Firing a k → (o : Option Actor) → slice_get (acting g) a ≡ o → actor_task G g f.firing (values_of f) a k read_told o ≡ Some (Call d) → CallsSo d
  actor_calls d a k at None own is = absurd (cc)
  actor_calls d a k at (Some actor) own is = of_body actor.body refl is
    where
      of_body : (body : Body) → actor.body ≡ body → firing_task G g f.firing (values_of f) a k read_told actor body ≡ Some (Call d) → CallsSo d
      of_body (Kernel kernel exprs ins outs) same is = absurd (cc)
      of_body (Config kernel exprs ins outs sets) same is = absurd (cc)
      of_body (Child place exprs) same is = record { a = a; k = k; actor = actor; place = place; exprs = exprs; at = at; own = own; body_is = same; job_is = let e : child_firing G f.firing actor.name k (tokens_at (level_args g (values_of f)) a) (has_state G actor) place (input_count G actor.body) read_told ≡ d = cc in sym e }
      of_body (ConfigChild place exprs sets) same is = absurd (cc)

  node_calls : (d : Firing) (nd : Node) (ls : List ℕ) → node_at (job_in f).nodes n ≡ nd → node_task G g f.firing (values_of f) nd read_told ls ≡ Some (Call d) → CallsSo d
  node_calls d (node.Source s) ls at is = absurd (cc)
  node_calls d (node.Init l) ls at is = absurd (cc)
  node_calls d (node.Firing a k) ls at is = actor_calls d a k at (slice_get (acting g) a) refl is
  node_calls d (node.End l) ls at is = absurd (cc)
  node_calls d (node.Sink t) ls at is = absurd (cc)
  node_calls d (node.Broadcast l) ls at is = absurd (cc)
  node_calls d (node.Fork l i) ls at is = absurd (cc)
  node_calls d (node.Join l i) ls at is = absurd (cc)
  node_calls d (node.Round l) ls at is = absurd (cc)

  -- ---- how much its node writes

  module _ (d : Firing) (c : CallsSo d) where
    pub args_are : tokens_at (level_args g (values_of f)) c.a ≡ arg_values (values_of f) c.exprs
    args_are = args_at (values_of f) g.actors c.a c.actor c.own ∙ ap (body_args (values_of f)) c.body_is

    pub kept_is : state_kept f stages held rows j keeps n ≡ has_state G c.actor
    kept_is = ap (λ x. keeps_state G (actor_of g x)) c.at ∙ ap (keeps_state G) c.own

    graph_is : d.graph ≡ c.place
    graph_is = ap (λ (x : Firing). x.graph) c.job_is

    inherited_is : d.inherited ≡ arg_values (values_of f) c.exprs
    inherited_is = ap (λ (x : Firing). x.inherited) c.job_is ∙ args_are

    pub call_written : call_lens G (state_kept f stages held rows j keeps n) d ≡ lens (job_in f) n
    call_written =
        let size : state_size G c.actor.body ≡ length (in_line (initial G d.graph)) = ap (state_size G) c.body_is ∙ ap (λ p. length (in_line (initial G p))) (sym graph_is) in
        let rates : out_rates G (values_of f) c.actor.body ≡ (early_of G d.graph d.inherited).outputs = ap (out_rates G (values_of f)) c.body_is ∙ ap₂ (λ p (l : List ℤ). (early_of G p l).outputs) (sym graph_is) (sym inherited_is) in
        ap (λ b. call_lens G b d) kept_is
        ∙ sym (lens_written f stages held rows j keeps n c.a c.k c.actor c.at c.own ∙ ap₂ (λ (l : List ℕ) m. l ++ own_rate (has_state G c.actor) m) rates size ∙ ap (λ (l : List ℕ). (early_of G d.graph d.inherited).outputs ++ l) (own_if (has_state G c.actor) (length (in_line (initial G d.graph)))))

    -- each inherited parameter of the graph that it calls has a value
    pub inherits : HasInherited G d
    inherits =
        let at = placed g.actors c.a c.actor c.own in
        let inside_g : f.firing.graph < length G = slice_get_within G f.firing.graph g (here f stages held rows j keeps) in
        let there : at.place < length (get_or G f.firing.graph no_graph).actors = slice_get_within g.actors at.place c.actor at.is in
        let fits = actor_fits f.graphs keeps.set_up.valid.in_range keeps.set_up.valid.well_formed f.firing.graph no_graph inside_g at.place no_actor there in
        let same : get_or g.actors at.place no_actor ≡ c.actor = get_or_from_slice_get g.actors at.place c.actor no_actor at.is in
        let P : Body → Type 0 = λ b. body_fits (λ x. true) G b ≡ true in
        let own = subst P (ap (λ (x : Actor). x.body) same ∙ c.body_is) fits in
        record { one_each = ap (λ (l : List ℤ). length l) inherited_is ∙ length-map c.exprs _ ∙ eqb-true (length c.exprs) (inherited_count (slice_get G c.place)) own ∙ ap (λ p. inherited_count (slice_get G p)) (sym graph_is) }

  -- ---- the call

  module _ (ready_words : ReadyInAnyWords ℤ ℕ Refusal) (input_words : InputsInAnyWords ℤ ℕ Refusal) (stays : ReadyStays ℤ ℕ) (offered : IsOfferedCall (view_with f stages) n) where
    pub calls : CallsSo offered.job
    calls = let t = has_task f stages held rows j keeps n (Call offered.job) offered.task_is in node_calls offered.job (node_at (job_in f).nodes n) (lens (job_in f) n) refl t.is

    abbrev ready_now : IsReady (job_in f) (one.values j.marks) n
    ready_now = was_ready f stages held rows j keeps n ready_words input_words stays offered.free (Call offered.job) offered.task_is

    pub node_is : node_at j.compilation.graph.nodes n ≡ node.Firing calls.a calls.k
    node_is = ap (λ (l : List Node). node_at l n) (nodes_are f stages held rows j keeps) ∙ calls.at

    -- ---- what it calls with

    pub numbers : (which : Node) (a k : ℕ) → which ≡ node_at j.compilation.graph.nodes n → which ≡ node.Firing a k → (a ≡ calls.a) × (k ≡ calls.k)
    numbers which a k at is =
        let e : node.Firing a k ≡ node.Firing calls.a calls.k = sym is ∙ at ∙ node_is in
        let x : a ≡ calls.a = cc in
        let y : k ≡ calls.k = cc in
        (x, y)

    pub fires_here : (which : Node) → which ≡ node_at j.compilation.graph.nodes n → IsFiring which
    fires_here which at = subst IsFiring (sym (at ∙ node_is)) tt

    pub actor_inside : (a : ℕ) → a ≡ calls.a → a < length (acting g)
    actor_inside a same = let i = slice_get_within (acting g) calls.a calls.actor calls.own in let s = same in omega arith

    pub keeps_inside : (a : ℕ) (kept : List Bool) → a ≡ calls.a → kept ≡ f.keeps → a < length kept
    keeps_inside a kept same are =
        let i = actor_inside a same in
        let l : length kept ≡ length (acting g) = ap (λ (l : List Bool). length l) (are ∙ keeps.parts.keeps_are) ∙ length-map (acting g) (has_state G) in
        omega arith

    pub set_inside : OneEach → (a : ℕ) → a ≡ calls.a → a < length f.set.places
    set_inside many a same =
        let i = actor_inside a same in
        let l : length f.set.places ≡ length (acting g) = ap (λ (l : List ℕ). length l) keeps.parts.set_is.places ∙ (many G g (values_of f)).places in
        omega arith

    pub fired_is : (graphs : List Graph) (h : Graph) → graphs ≡ G → slice_get graphs f.place ≡ Some h → h ≡ g
    fired_is graphs h are at =
        let e : Some h ≡ Some g = sym at ∙ ap₂ (λ (l : List Graph) p. slice_get l p) are keeps.parts.place_is ∙ here f stages held rows j keeps in
        cc

    pub place_inside : (graphs : List Graph) → graphs ≡ G → f.place < length graphs
    place_inside graphs are = slice_get_within graphs f.place g (ap₂ (λ (l : List Graph) p. slice_get l p) are keeps.parts.place_is ∙ here f stages held rows j keeps)

    pub places_are : (graphs : List Graph) (h : Graph) → graphs ≡ G → slice_get graphs f.place ≡ Some h → f.set.places ≡ acting_places h
    places_are graphs h are at = keeps.parts.set_is.places ∙ ap acting_places (sym (fired_is graphs h are at))

    pub inside_of : (a : ℕ) (graphs : List Graph) (h : Graph) → a ≡ calls.a → graphs ≡ G → slice_get graphs f.place ≡ Some h → a < length (acting h)
    inside_of a graphs h same are at = subst (λ (x : Graph). a < length (acting x)) (sym (fired_is graphs h are at)) (actor_inside a same)

    pub args_inside : OneEach → (own : LevelSet) (a : ℕ) → a ≡ calls.a → own ≡ f.set → a < length own.args
    args_inside many own a same is =
        let i = actor_inside a same in
        let l : length own.args ≡ length (acting g) = ap (λ (x : LevelSet). length x.args) is ∙ ap (λ (l : List (List ℤ)). length l) keeps.parts.set_is.args ∙ (many G g (values_of f)).args in
        omega arith

    pub child_early : EachPlaced → (own : LevelSet) (a : ℕ) → a ≡ calls.a → own ≡ f.set → slice_get own.children a ≡ Some (Some (early_of G calls.place (arg_values (values_of f) calls.exprs)))
    child_early each own a same is =
        ap (λ (x : LevelSet). slice_get x.children a) is ∙ ap₂ (λ (l : List (Option EarlyView)) b. slice_get l b) keeps.parts.set_is.children same ∙ (each G g (values_of f) calls.a calls.actor calls.own).child
        ∙ ap (λ b. Some (child_of G (values_of f) b)) calls.body_is

    pub child_known : EachPlaced → (own : LevelSet) (a : ℕ) → a ≡ calls.a → own ≡ f.set → (early : EarlyView) × (slice_get own.children a ≡ Some (Some early))
    child_known each own a same is = (early_of G calls.place (arg_values (values_of f) calls.exprs), child_early each own a same is)

    -- what the level has of an actor that calls is known of the graph that is called
    pub called_early : EachPlaced → (a : ℕ) → a ≡ calls.a → (d : Firing) → d ≡ offered.job → slice_get f.set.children a ≡ Some (Some (early_in G d))
    called_early each a same d d_is =
        let places : calls.place ≡ d.graph = sym (graph_is offered.job calls) ∙ ap (λ (x : Firing). x.graph) (sym d_is) in
        let values : arg_values (values_of f) calls.exprs ≡ d.inherited = sym (inherited_is offered.job calls) ∙ ap (λ (x : Firing). x.inherited) (sym d_is) in
        child_early each f.set a same refl ∙ ap₂ (λ p (l : List ℤ). Some (Some (early_of G p l))) places values

    pub caller_is : (graphs : List Graph) (caller : Actor) (a : ℕ) → graphs ≡ G → a ≡ calls.a → ((h : Graph) → slice_get graphs f.place ≡ Some h → slice_get (acting h) a ≡ Some caller) → slice_get (acting g) a ≡ Some caller
    caller_is graphs caller a are same at = at g (ap₂ (λ (l : List Graph) p. slice_get l p) are keeps.parts.place_is ∙ here f stages held rows j keeps)

    pub calls_graph : (caller : Actor) (a : ℕ) → a ≡ calls.a → slice_get (acting g) a ≡ Some caller → caller.body ≡ Child calls.place calls.exprs
    calls_graph caller a same at =
        let e : Some caller ≡ Some calls.actor = sym at ∙ ap (slice_get (acting g)) same ∙ calls.own in
        let is : caller ≡ calls.actor = cc in
        ap (λ (x : Actor). x.body) is ∙ calls.body_is

    -- it reads few lists
    pub few_read : (read : List (List ℤ)) → read ≡ inputs (leased.graph_of j) (one.values j.marks) n → length read < 2 ^ 32
    few_read read are =
        let l : length read ≡ length (inputs (job_in f) (one.values j.marks) n) = ap (λ (l : List (List ℤ)). length l) are ∙ ap (λ (x : JobGraph ℤ). length (inputs x (one.values j.marks) n)) keeps.set_up.graph_is in
        let r : length (inputs (job_in f) (one.values j.marks) n) ≡ how_many (is_into_actor calls.a) (job_in f).level.links =
        ap (λ x. length (reads (job_in f) (one.values j.marks) x n)) calls.at ∙ long_below (job_in f).edges _ n (how_many (is_into_actor calls.a) (job_in f).level.links) in
        let m = many_within (is_into_actor calls.a) (job_in f).level.links in
        let k = keeps.set_up.is_job.level_kept.few_links in
        omega arith

    -- what it calls with, as the code found it
    pub record IsCaller (graphs : List Graph) (own : LevelSet) (caller : Actor) (number turn : ℕ) (kept : Bool) : Type 0 where
      pub graphs_are : graphs ≡ G
      pub set_is : own ≡ f.set
      pub number_is : number ≡ calls.a
      pub turn_is : turn ≡ calls.k
      pub found : slice_get (acting g) number ≡ Some caller
      pub kept_at : slice_get f.keeps number ≡ Some kept

    pub caller_so : (graphs items : List Graph) (own : LevelSet) (caller : Actor) (number turn a k : ℕ) (kept : Bool) (all_kept : List Bool) (which : Node) → which ≡ node_at j.compilation.graph.nodes n → which ≡ node.Firing a k → items ≡ G → all_kept ≡ f.keeps →
        ((h : Graph) → slice_get items f.place ≡ Some h → slice_get (acting h) a ≡ Some caller) → (graphs ≡ items) × (own ≡ f.set) → (number ≡ a) × (turn ≡ k) → slice_get all_kept a ≡ Some kept → IsCaller graphs own caller number turn kept
    caller_so graphs items own caller number turn a k kept all_kept which at is items_are kept_are actor_at places numbered kept_at = record {
      graphs_are = places.0 ∙ items_are;
      set_is = places.1;
      number_is = numbered.0 ∙ (numbers which a k at is).0;
      turn_is = numbered.1 ∙ (numbers which a k at is).1;
      found = ap (slice_get (acting g)) numbered.0 ∙ actor_at g (ap₂ (λ (l : List Graph) p. slice_get l p) items_are keeps.parts.place_is ∙ here f stages held rows j keeps);
      kept_at = ap₂ (λ (l : List Bool) x. slice_get l x) (sym kept_are) numbered.0 ∙ kept_at;
    }

    -- the firing with what the frame reads is the one that it calls
    pub called_is : (d : Firing) (caller : Actor) (number turn : ℕ) (kept : Bool) (args : List (List ℤ)) (graphs : List Graph) (read : List (List ℤ)) → graphs ≡ G → slice_get (acting g) number ≡ Some caller → number ≡ calls.a → turn ≡ calls.k → slice_get f.keeps number ≡ Some kept →
        args ≡ level_args g (values_of f) → read ≡ inputs (leased.graph_of j) (one.values j.marks) n →
        d ≡ child_firing graphs f.firing caller.name turn (tokens_at args number) kept calls.place (input_count graphs caller.body) read → d ≡ offered.job
    called_is d caller number turn kept args graphs read graphs_are own number_is turn_is kept_at args_are' reads is =
        let actor_is : caller ≡ calls.actor = let e : Some caller ≡ Some calls.actor = sym own ∙ ap (slice_get (acting g)) number_is ∙ calls.own in cc in
        let kept_is' : kept ≡ has_state G calls.actor = keeps_at G (acting g) number calls.actor kept (ap (slice_get (acting g)) number_is ∙ calls.own) (ap (λ (l : List Bool). slice_get l number) (sym keeps.parts.keeps_are) ∙ kept_at) in
        let reads' : read ≡ read_told = reads ∙ ap (λ (x : JobGraph ℤ). inputs x (one.values j.marks) n) keeps.set_up.graph_is ∙ sym (same_inputs f stages held rows j keeps ready_words input_words n) in
        is ∙ rw (graphs_are, actor_is, turn_is, number_is, kept_is', args_are', reads') (sym calls.job_is)

    pub called_ok : (r : Result Firing AllocError) (graphs : List Graph) (own : LevelSet) (caller : Actor) (number turn : ℕ) (kept : Bool) (read : List (List ℤ)) → IsCaller graphs own caller number turn kept → read ≡ inputs (leased.graph_of j) (one.values j.marks) n →
        IfOk r (λ d. d ≡ child_firing graphs f.firing caller.name turn (tokens_at own.args number) kept calls.place (input_count graphs caller.body) read) → IfOk r (λ d. d ≡ offered.job)
    called_ok (Ok d) graphs own caller number turn kept read is reads made =
        called_is d caller number turn kept own.args graphs read is.graphs_are is.found is.number_is is.turn_is is.kept_at (ap (λ (x : LevelSet). x.args) is.set_is ∙ keeps.parts.set_is.args) reads made
    called_ok (Err e) graphs own caller number turn kept read is reads made = tt

    pub task_of : (r : Result Firing AllocError) (v : RunningView) → view_with f stages ≡ v → IfOk r (λ d. d ≡ offered.job) → IfOk r (λ d. task v n ≡ Some (Call d))
    task_of (Ok d) v is same = ap (λ (x : RunningView). task x n) (sym is) ∙ offered.task_is ∙ ap (λ x. Some (Call x)) (sym same)
    task_of (Err e) v is same = tt

    pub inherits_of : (r : Result Firing AllocError) (v : RunningView) → view_with f stages ≡ v → IfOk r (λ d. d ≡ offered.job) → IfOk r (HasInherited v.graphs.graphs)
    inherits_of (Ok d) v is same = subst (λ (x : RunningView). HasInherited x.graphs.graphs d) is (subst (HasInherited G) (sym same) (inherits offered.job calls))
    inherits_of (Err e) v is same = tt

    child : is_call f stages held rows j keeps n ≡ true
    child = sym (sort_of f stages held rows j keeps (node_at (job_in f).nodes n) read_told (lens (job_in f) n) (Call offered.job) (has_task f stages held rows j keeps n (Call offered.job) offered.task_is).is)

    pub inside_held : n < length held
    inside_held = keeps.stand.has_room n ready_now.there child

    pub keeps_waiting : (r : Result Firing AllocError) (frame : FrameView) (s : Stage) → IsWaiting r frame s → IfOk r (λ d. d ≡ offered.job) → lengths frame.outputs ≡ lens (leased.graph_of j) n →
        KeepsAll f (set stages n s) (set held n (Waits frame)) rows (record j { marks = set j.marks n (one.Claimed frame.places) })
    keeps_waiting r frame s waits same outs = of_end r waits same
      where
        outs_are : lengths frame.outputs ≡ lens (job_in f) n
        outs_are = outs ∙ ap (λ (x : JobGraph ℤ). lens x n) keeps.set_up.graph_is

        frame_here : held_at (set held n (Waits frame)) n ≡ Waits frame
        frame_here = get_or-set_same held n (Waits frame) Nothing inside_held

        go : (s : Stage) → Stands G (lens (job_in f) n) (state_kept f stages held rows j keeps n) (is_call f stages held rows j keeps n) (Fires f stages held rows j keeps n) s (one.Claimed frame.places) (held_at (set held n (Waits frame)) n) → trace_in s ≡ [] →
            KeepsAll f (set stages n s) (set held n (Waits frame)) rows (record j { marks = set j.marks n (one.Claimed frame.places) })
        go s stands traced = keeps_on f stages held rows j keeps n stays ready_now.there s (one.Claimed frame.places) (set held n (Waits frame)) (no_value f stages held rows j keeps n ready_words input_words stays offered.free (Call offered.job) offered.task_is) ready_now
            stands (length-set held n (Waits frame)) (λ k other. get_or-set_other held n k (Waits frame) Nothing other) (traced ∙ sym (no_trace f stages held rows j keeps n ready_words input_words stays offered.free (Call offered.job) offered.task_is))

        of_end : (r : Result Firing AllocError) → IsWaiting r frame s → IfOk r (λ d. d ≡ offered.job) → KeepsAll f (set stages n s) (set held n (Waits frame)) rows (record j { marks = set j.marks n (one.Claimed frame.places) })
        of_end (Ok d) waits same =
            let o = opened_stage s d frame waits in
            let P : Stage → Type 0 = λ x. KeepsAll f (set stages n x) (set held n (Waits frame)) rows (record j { marks = set j.marks n (one.Claimed frame.places) }) in
            subst P (sym o.stage_is) (go (Open o.own o.told) record {
              mark_is = ap (λ (x : FrameView). one.Claimed x.places) (sym o.frame_is);
              held = frame_here ∙ ap Waits (sym o.frame_is);
              sort = child;
              sizes = (ap (λ (x : FrameView). lengths x.outputs) o.frame_is ∙ outs_are, ap (call_lens G (state_kept f stages held rows j keeps n)) (o.job_is ∙ same) ∙ call_written offered.job calls);
            } refl)
        of_end (Err e) waits same =
            let o = lost_stage s frame waits in
            let P : Stage → Type 0 = λ x. KeepsAll f (set stages n x) (set held n (Waits frame)) rows (record j { marks = set j.marks n (one.Claimed frame.places) }) in
            subst P (sym o.stage_is) (go (Lost o.told) record {
              mark_is = ap (λ (x : FrameView). one.Claimed x.places) (sym o.frame_is);
              held = frame_here ∙ ap Waits (sym o.frame_is);
              sort = child;
              sizes = ap (λ (x : FrameView). lengths x.outputs) o.frame_is ∙ outs_are;
            } refl)

    lent_same : set (view_with f stages).lent n None ≡ (view_with f stages).lent
    lent_same =
        let free : lent_at (view_with f stages).lent n ≡ None = lent_here stages n ∙ ap lent_of (was_free f stages held rows j keeps n ready_words input_words stays offered.free (Call offered.job) offered.task_is) in
        ap (set (view_with f stages).lent n) (sym free) ∙ set-get_or (view_with f stages).lent n None

    pub view_opened : (d : Firing) (frame : FrameView) (s : Stage) → IsOpened d frame s → view_with f (set stages n s) ≡ record (view_with f stages) { marks = set (view_with f stages).marks n (mark.Open d) }
    view_opened d frame s is =
        let o = opened_stage s d frame is in
        let m : mark_of (spot f stages held rows j keeps n) s ≡ mark.Open d = ap (mark_of (spot f stages held rows j keeps n)) o.stage_is ∙ ap mark.Open o.job_is in
        let l : set (view_with f stages).lent n (lent_of s) ≡ (view_with f stages).lent = ap (λ x. set (view_with f stages).lent n (lent_of x)) o.stage_is ∙ lent_same in
        view_step f stages n s ∙ (λ i. record (view_with f stages) { marks = set (view_with f stages).marks n (m i); lent = l i })

    pub view_lost : (frame : FrameView) (s : Stage) → IsLost frame s → view_with f (set stages n s) ≡ record (view_with f stages) { marks = set (view_with f stages).marks n mark.Busy }
    view_lost frame s is =
        let o = lost_stage s frame is in
        let m : mark_of (spot f stages held rows j keeps n) s ≡ mark.Busy = ap (mark_of (spot f stages held rows j keeps n)) o.stage_is in
        let l : set (view_with f stages).lent n (lent_of s) ≡ (view_with f stages).lent = ap (λ x. set (view_with f stages).lent n (lent_of x)) o.stage_is ∙ lent_same in
        view_step f stages n s ∙ (λ i. record (view_with f stages) { marks = set (view_with f stages).marks n (m i); lent = l i })

    pub view_ok : (r : Result Firing AllocError) (v : RunningView) → view_with f stages ≡ v → (frame : FrameView) (s : Stage) → IsWaiting r frame s → IfOk r (λ d. view_with f (set stages n s) ≡ record v { marks = set v.marks n (mark.Open d) })
    view_ok (Ok d) v is frame s waits = view_opened d frame s waits ∙ ap (λ (x : RunningView). record x { marks = set x.marks n (mark.Open d) }) is
    view_ok (Err e) v is frame s waits = tt

    pub view_err : (r : Result Firing AllocError) (v : RunningView) → view_with f stages ≡ v → (frame : FrameView) (s : Stage) → IsWaiting r frame s → OnErr r (view_with f (set stages n s) ≡ record v { marks = set v.marks n mark.Busy })
    view_err (Ok d) v is frame s waits = tt
    view_err (Err e) v is frame s waits = view_lost frame s waits ∙ ap (λ (x : RunningView). record x { marks = set x.marks n mark.Busy }) is
