-- The nodes of a job: what its finished nodes read, and that they are answered as its graph says.
use Rattle.std.proofs.Common.{◌≡◌, ℕ, zero, suc, ◌+◌, ◌<◌, ◌≤◌, ◌&&◌, nat_lt, ⊎_elim, false, ℤ, List, [], ◌∷◌, length, map, slice_get, Option, Some, None, Result, Ok, if◌then◌else◌, refl, sym, ap, ◌∙◌, subst, arith, append-nil}
use Rattle.std.specs.List.{AllByRecursion}
use Rattle.std.specs.Option.{option_map}
use Rattle.std.proofs.lemmas.Bool.{cases_lt, le-ltb, lt-ltb}
use Rattle.std.proofs.lemmas.List.Elements.{recursion_from_All}
use Rattle.std.proofs.lemmas.Option.{get_or_from_slice_get}
use Rattle.kernel_gate.specs.Signed.{Counts}
use Rattle.kernel_gate.specs.Value.{lengths}
use Rattle.param_resolver.specs.LevelOf.{links_of}
use Rattle.param_resolver.specs.Numbering.{acting, has_state}
use Rattle.pisdf_model.specs.Range.{InRange}
use Rattle.pisdf_model.specs.WellFormed.{WellFormed}
use Rattle.pisdf_model.specs.declared.actor.Actor.{Actor}
use Rattle.pisdf_model.specs.declared.graph.Graph.{Graph}
use Rattle.pisdf_model.specs.declared.graph.Graphs.{Graphs}
use Rattle.sdf_level.specs.Invariants.{IsLevel}
use Rattle.sdf_level.specs.Laws.{Firing as Made, among}
use Rattle.sdf_level.specs.declared.node.Node.{Node}
use Rattle.sdf_level.specs.declared.node.Node.TheVariants as node
use Rattle.sdf_level.specs.declared.single_rate.Edge.{Edge}
use Rattle.single_rate.specs.Tiers.{FiringsAreAll, FiringsStandInOrder, GraphsHaveTiers, HaveTiers}
use Rattle.pisdf_meaning.specs.Configuring.{configurations}
use Rattle.pisdf_meaning.specs.Meaning.{MeansWithin}
use Rattle.kernel_gate.specs.Laws.{GiveLengths}
use Rattle.pisdf_meaning.specs.Sound.{AllFit}
use Rattle.pisdf_meaning.specs.declared.firing.Firing.{Firing}
use Rattle.pisdf_meaning.specs.declared.refusal.Refusal.{Refusal}
use Rattle.pisdf_meaning.proofs.StateSizes.{starts_fit}
use Rattle.nested_jobs.specs.Rules.{Task, Work, Values}
use Rattle.nested_jobs.specs.Meanings.{MayAnswer, Sound}
use Rattle.job_flow.specs.Frames as flow
use Rattle.job_flow.specs.Frames.{in_lens, input_rates, inputs, lens, lengths_written}
use Rattle.job_flow.specs.Graphs.{IsJobGraph, JobGraph, node_at}
use Rattle.job_flow.specs.Events.{Allows, AreAnswered, Grows, HasLens, IsDone, IsReady, Passes}
use Rattle.job_flow.specs.Laws.{FiringsReadRates, InputsHaveLens, InputsStay, NodesStandOnce, ReadyStays}
use Rattle.job_rules.specs.Words as words
use Rattle.job_rules.specs.Words.{Answer, Gives, given_outs}
use Rattle.job_rules.specs.Doing.{IsCopied}
use Rattle.job_rules.specs.Items.{Prepared, actor_of, actor_task, edges_in, graph_of, is_ready_by, job_graph, job_rules, keeps_state, level_of, no_graph, node_base, node_result, node_rule, node_task, node_values, nodes_in, prepared_in, trace_of, values_in}
use Rattle.job_rules.specs.Meant.{IsFit, meanings}
use Rattle.job_rules.proofs.Called.{actor_fires, keeps, leveled, outs_have_lens}
use Rattle.job_rules.proofs.Compiled.{HasLevel, IsPrepared, has_level, prepared}
use Rattle.job_rules.proofs.Growing.{ready_is}
use Rattle.job_rules.proofs.Numbers.{rule_of_node}
use Rattle.job_rules.proofs.Parts.{passed}
use Rattle.job_rules.proofs.Sources.{fits, sources_fit}

-- the laws that are used here
pub record Laws : Type 0 where
  pub all : FiringsAreAll
  pub in_order : FiringsStandInOrder
  pub tiers : GraphsHaveTiers
  pub ready : ReadyStays ℤ Refusal
  pub inputs_stay : InputsStay ℤ Refusal
  pub once : NodesStandOnce ℤ
  pub lens_are : InputsHaveLens ℤ Refusal ℕ
  pub rates_are : FiringsReadRates ℤ

record Mapped {X Y : Type 0} (f : X → Y) (o : Option X) (y : Y) : Type 0 where
  one : X
  is : o ≡ Some one
  made : y ≡ f one

mapped_is : {X Y : Type 0} (f : X → Y) (o : Option X) (y : Y) → option_map f o ≡ Some y → Mapped f o y
mapped_is f None y is = absurd (cc)
mapped_is f (Some x) y is = record { one = x; is = refl; made = cc }

-- ---- nodes that copy

module _ (m : Node) (ins : List (List ℤ)) (lens : List ℕ) where
  abbrev CopiesSo : Result (List (List ℤ)) Refusal → Type 0
  CopiesSo r = Passes m ins r × HasLens lens r

  copied : (a : Answer) → IsCopied m ins lens a → CopiesSo (node_result false a)
  copied a is =
      let P : Answer → Type 0 = λ x. CopiesSo (node_result false x) in
      let Q : List (List ℤ) → Type 0 = λ l. CopiesSo (Ok l) in
      subst P (sym is.answer_is) (subst Q (sym (append-nil is.outs)) (is.passed, is.fitting))

  copies_so : (t : Task Firing words.Work) (graphs : List Graph) (n : ℕ) (a : Answer) (r : Result (List (List ℤ)) Refusal) → Some (Work (words.Copies m ins lens)) ≡ Some t → MayAnswer (meanings graphs) n t a → r ≡ node_result false a → CopiesSo r
  copies_so t graphs n a r task may is =
      let same : t ≡ Work (words.Copies m ins lens) = cc in
      let P : Task Firing words.Work → Type 0 = λ x. MayAnswer (meanings graphs) n x a in
      subst CopiesSo (sym is) (copied a (subst P same may))

-- ---- firings as elements

-- what the finished firings made, by the numbers of their nodes; for another node what no actor makes
abbrev pub code : ℕ → Node → List (List ℤ) → Option (Result (List (List ℤ)) Refusal) → Made ℤ Refusal
code actors (node.Source s) ins o = record { actor = actors; turn = 0; inputs = []; answer = Ok [] }
code actors (node.Init l) ins o = record { actor = actors; turn = 0; inputs = []; answer = Ok [] }
code actors (node.Firing a k) ins None = record { actor = actors; turn = 0; inputs = []; answer = Ok [] }
code actors (node.Firing a k) ins (Some r) = record { actor = a; turn = k; inputs = ins; answer = r }
code actors (node.Broadcast l) ins o = record { actor = actors; turn = 0; inputs = []; answer = Ok [] }
code actors (node.Fork l i) ins o = record { actor = actors; turn = 0; inputs = []; answer = Ok [] }
code actors (node.Join l j) ins o = record { actor = actors; turn = 0; inputs = []; answer = Ok [] }
code actors (node.Round l) ins o = record { actor = actors; turn = 0; inputs = []; answer = Ok [] }
code actors (node.End l) ins o = record { actor = actors; turn = 0; inputs = []; answer = Ok [] }
code actors (node.Sink t) ins o = record { actor = actors; turn = 0; inputs = []; answer = Ok [] }

module _ (laws : Laws) (signatures : List Counts) (graphs : Graphs) (range : InRange graphs) (well : WellFormed graphs) (fit : AllFit signatures graphs.graphs) (give : GiveLengths signatures) (n : ℕ) (firing : Firing) (v : Values Answer)
    (fitted : IsFit graphs.graphs firing) (sound : Sound (job_rules graphs.graphs) (meanings graphs.graphs) n firing v) where
  abbrev pub G : List Graph
  G = graphs.graphs

  abbrev pub g : Graph
  g = graph_of G firing

  pub here : slice_get G firing.graph ≡ Some g
  here = fitted.here ∙ ap Some (sym (get_or_from_slice_get G firing.graph fitted.g no_graph fitted.here))

  module _ (p : Prepared) (prepared_so : prepared_in g v ≡ Some p) where
    pub prep : IsPrepared G n firing v here sound p
    prep = prepared G n firing v here sound p prepared_so

    pub level_so : HasLevel G g firing p.left p.schedule
    level_so = has_level G g firing p.left p.schedule prep.leads

    abbrev pub values : List ℤ
    values = values_in g firing p

    abbrev pub job : JobGraph ℤ
    job = job_graph G g firing p

    abbrev pub vs : flow.Values ℤ Refusal
    vs = node_values G g firing p v

    is_level : IsLevel (level_of G g firing p)
    is_level = (leveled signatures graphs range well fit give n firing g here firing.graph g here).makes.level firing.inherited values fitted.sound level_so.sound

    pub is_job : IsJobGraph p.schedule.counts p.schedule.order job
    is_job = record {
      level_kept = is_level;
      repetition = level_so.is_scheduled.repetition;
      order = level_so.is_scheduled.order;
      nodes_are = refl;
      edges_are = refl;
      sources_fit = sources_fit signatures G fit give (MeansWithin n G) (keeps signatures graphs range well fit give n firing g here) g firing here (leveled signatures graphs range well fit give n firing g here firing.graph g here) fitted.sound fitted.state p.left fitted.inputs prep.leave;
      delays_fit = starts_fit G g values firing.state (fits signatures G fit give (MeansWithin n G) (keeps signatures graphs range well fit give n firing g here) g firing here (leveled signatures graphs range well fit give n firing g here firing.graph g here) fitted.sound fitted.state);
    }

    -- ---- what is told of a finished node

    pub record Told (m : ℕ) (r : Result (List (List ℤ)) Refusal) : Type 0 where
      pub a : Answer
      pub answered : v (node_base g + m) ≡ Some a
      pub result : r ≡ node_result (keeps_state G (actor_of g (node_at job.nodes m))) a
      pub t : Task Firing words.Work
      pub ready : IsReady job vs m
      pub task : node_task G g firing values (node_at job.nodes m) (inputs job vs m) (lens job m) ≡ Some t
      pub may : MayAnswer (meanings G) n t a

    pub rule_so : (m : ℕ) (t : Task Firing words.Work) → node_rule G g firing v m (prepared_in g v) ≡ Some t → IsReady job vs m × (node_task G g firing values (node_at job.nodes m) (inputs job vs m) (lens job m) ≡ Some t)
    rule_so m t rule =
        let task = node_task G g firing values (node_at job.nodes m) (inputs job vs m) (lens job m) in
        let test = nat_lt m (length (nodes_in G g firing p)) && is_ready_by (edges_in G g firing p) vs m in
        let at : node_rule G g firing v m (Some p) ≡ Some t = ap (node_rule G g firing v m) (sym prepared_so) ∙ rule in
        let parts = passed test task t at in
        (ready_is G g firing p vs m parts.test_is, parts.is)

    pub told : (m : ℕ) (r : Result (List (List ℤ)) Refusal) → vs m ≡ Some r → Told m r
    told m r is =
        let from = mapped_is (node_result (keeps_state G (actor_of g (node_at job.nodes m)))) (v (node_base g + m)) r is in
        let s = sound (node_base g + m) from.one from.is in
        let rule = rule_so m s.0 (sym (rule_of_node G g firing v (configurations g) m) ∙ s.1) in
        record { a = from.one; answered = from.is; result = from.made; t = s.0; ready = rule.0; task = rule.1; may = s.2 }

    -- ---- how much it reads and gives

    abbrev pub Reads : ℕ → Type 0
    Reads m = map length (inputs job vs m) ≡ in_lens job m

    pub reads_long : (m b k : ℕ) → node_at job.nodes m ≡ node.Firing b k → Reads m → lengths (inputs job vs m) ≡ input_rates (links_of G g values) b
    reads_long m b k is reads = reads ∙ laws.rates_are p.schedule.counts p.schedule.order job m b k is_job is

    abbrev pub coded : ℕ → Made ℤ Refusal
    coded m = code (length (acting g)) (node_at job.nodes m) (inputs job vs m) (vs m)

    module _ (m : ℕ) (r : Result (List (List ℤ)) Refusal) (is : vs m ≡ Some r) (t : Task Firing words.Work) (a : Answer) (may : MayAnswer (meanings G) n t a) (ready : IsReady job vs m) where
      -- a node does what it may, and gives as much as it has to
      abbrev DoesSo : Node → Type 0
      DoesSo nd = Allows (among coded) nd (inputs job vs m) r × (Reads m → HasLens (lens job m) r)

      copy_does : (nd : Node) → Passes nd (inputs job vs m) r × HasLens (lens job m) r → Passes nd (inputs job vs m) r × (Reads m → HasLens (lens job m) r)
      copy_does nd so = (so.0, λ reads. so.1)

      firing_does : (b k : ℕ) (o : Option Actor) → node_at job.nodes m ≡ node.Firing b k → slice_get (acting g) b ≡ o → actor_task G g firing values b k (inputs job vs m) o ≡ Some t → r ≡ node_result (keeps_state G o) a → DoesSo (node.Firing b k)
      firing_does b k None at there task result = absurd (cc)
      firing_does b k (Some actor) at there task result = (
        (m, ap (λ (x : Node). code (length (acting g)) x (inputs job vs m) (vs m)) at ∙ ap (code (length (acting g)) (node.Firing b k) (inputs job vs m)) is),
        (λ reads.
            let long = reads_long m b k at reads in
            let fires = actor_fires signatures graphs range well fit give n firing g here values level_so.sound b k actor there (inputs job vs m) long t a task may in
            let P : Result (List (List ℤ)) Refusal → Type 0 = λ x. HasLens (lens job m) x in
            let Q : List ℕ → Type 0 = λ l. HasLens l (node_result (has_state G actor) a) in
            let own = outs_have_lens signatures graphs range well fit give n firing g here values level_so.sound b k actor there (inputs job vs m) long fitted (trace_of (Some a)) (node_result (has_state G actor) a) fires in
            subst P (sym result) (subst Q (ap (λ (x : Node). lengths_written job x m) (sym at)) own)),
      )

      does_so : (nd : Node) → node_at job.nodes m ≡ nd → node_task G g firing values nd (inputs job vs m) (lens job m) ≡ Some t → r ≡ node_result (keeps_state G (actor_of g nd)) a → DoesSo nd
      does_so (node.Source s) at task result = copy_does (node.Source s) (copies_so (node.Source s) (inputs job vs m) (lens job m) t G n a r task may result)
      does_so (node.Init l) at task result = copy_does (node.Init l) (copies_so (node.Init l) (inputs job vs m) (lens job m) t G n a r task may result)
      does_so (node.Firing b k) at task result = firing_does b k (slice_get (acting g) b) at refl task result
      does_so (node.Broadcast l) at task result = copy_does (node.Broadcast l) (copies_so (node.Broadcast l) (inputs job vs m) (lens job m) t G n a r task may result)
      does_so (node.Fork l i) at task result = copy_does (node.Fork l i) (copies_so (node.Fork l i) (inputs job vs m) (lens job m) t G n a r task may result)
      does_so (node.Join l j) at task result = copy_does (node.Join l j) (copies_so (node.Join l j) (inputs job vs m) (lens job m) t G n a r task may result)
      does_so (node.Round l) at task result = copy_does (node.Round l) (copies_so (node.Round l) (inputs job vs m) (lens job m) t G n a r task may result)
      does_so (node.End l) at task result = copy_does (node.End l) (copies_so (node.End l) (inputs job vs m) (lens job m) t G n a r task may result)
      does_so (node.Sink i) at task result = copy_does (node.Sink i) (copies_so (node.Sink i) (inputs job vs m) (lens job m) t G n a r task may result)

    pub does : (m : ℕ) (r : Result (List (List ℤ)) Refusal) → vs m ≡ Some r → Allows (among coded) (node_at job.nodes m) (inputs job vs m) r × (Reads m → HasLens (lens job m) r)
    does m r is = let s = told m r is in does_so m r is s.t s.a s.may s.ready (node_at job.nodes m) refl s.task s.result

    -- ---- by tiers

    abbrev tiers : HaveTiers (level_of G g firing p) p.schedule.counts p.schedule.order
    tiers = laws.tiers (level_of G g firing p) p.schedule.counts p.schedule.order is_level level_so.is_scheduled.order

    -- what is finished before a tier
    abbrev before : ℕ → flow.Values ℤ Refusal
    before s m = if nat_lt (tiers.tier m) s then vs m else None

    within : (s m : ℕ) → tiers.tier m < s → before s m ≡ vs m
    within s m below = rw (lt-ltb (tiers.tier m) s below) refl

    of_tier : (s m : ℕ) (r : Result (List (List ℤ)) Refusal) → before s m ≡ Some r → (tiers.tier m < s) × (vs m ≡ Some r)
    of_tier s m r is = ⊎_elim
        (λ (below : tiers.tier m < s). (below, sym (within s m below) ∙ is))
        (λ (past : s ≤ tiers.tier m). absurd (let e : None ≡ Some r = rw (le-ltb (tiers.tier m) s past) at is in cc))
        (cases_lt (tiers.tier m) s)

    grows : (s : ℕ) → Grows (before s) vs
    grows s m r is = (of_tier s m r is).1

    edges_before : (s m : ℕ) (es : List Edge) → AllByRecursion (λ (e : Edge). tiers.tier e.tail < tiers.tier e.head) es → tiers.tier m ≤ s → AllByRecursion (λ (e : Edge). e.head ≡ m → IsDone (vs e.tail)) es → AllByRecursion (λ (e : Edge). e.head ≡ m → IsDone (before s e.tail)) es
    edges_before s m [] rising low done = tt
    edges_before s m (e ∷ es) rising low done = (
      (λ is. let up = rising.0 in let same = ap tiers.tier is in let P : Option (Result (List (List ℤ)) Refusal) → Type 0 = λ o. IsDone o in subst P (sym (within s e.tail (omega arith))) (done.0 is)),
      edges_before s m es rising.1 low done.1,
    )

    ready_before : (s m : ℕ) → tiers.tier m ≤ s → IsReady job vs m → IsReady job (before s) m
    ready_before s m low ready = record { there = ready.there; before = edges_before s m job.edges (recursion_from_All (λ (e : Edge). tiers.tier e.tail < tiers.tier e.head) job.edges tiers.rising) low ready.before }

    -- where what is finished before a tier is answered as it may be, the nodes of the tier read as much as they have to
    reads_at : (s m : ℕ) → AreAnswered job (among coded) (before s) → tiers.tier m ≤ s → IsReady job vs m → Reads m
    reads_at s m answered low ready =
        let early = ready_before s m low ready in
        ap (map length) (laws.inputs_stay job (before s) vs m (grows s) early) ∙ laws.lens_are p.schedule.counts p.schedule.order job coded (before s) m is_job answered early

    answered_before : (s : ℕ) → AreAnswered job (among coded) (before s)
    answered_before zero m r is = absurd (let low = (of_tier zero m r is).0 in omega arith)
    answered_before (suc s) m r is =
        let at = of_tier (suc s) m r is in
        let ready = (told m r at.1).ready in
        let reads = reads_at s m (answered_before s) (let low = at.0 in omega arith) ready in
        let does_it = does m r at.1 in
        let early = ready_before (suc s) m (let low = at.0 in omega arith) ready in
        let P : List (List ℤ) → Type 0 = λ ins. Allows (among coded) (node_at job.nodes m) ins r in
        record { ready = early; answers = record { allowed = subst P (laws.inputs_stay job (before (suc s)) vs m (grows (suc s)) early) does_it.0; lengths = does_it.1 reads } }

    pub reads : (m : ℕ) → IsReady job vs m → Reads m
    reads m ready = reads_at (tiers.tier m) m (answered_before (tiers.tier m)) (omega arith) ready

    pub answered : AreAnswered job (among coded) vs
    answered m r is =
        let ready = (told m r is).ready in
        let does_it = does m r is in
        record { ready = ready; answers = record { allowed = does_it.0; lengths = does_it.1 (reads m ready) } }
