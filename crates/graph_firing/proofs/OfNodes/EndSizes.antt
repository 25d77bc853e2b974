-- What a running firing gives is as long as the early check of its graph says.
use Rattle.std.proofs.Common.{◌≡◌, ℕ, zero, suc, ◌+◌, ◌<◌, ◌≤◌, ⊎_elim, ℤ, true, false, List, [], ◌∷◌, ◌++◌, length, map, slice_index, slice_index_or, Option, Some, None, Result, Ok, Err, refl, sym, ap, ap₂, ◌∙◌, arith}
use Rattle.std.specs.List.{AllByRecursion}
use Rattle.std.proofs.lemmas.Bool.{cases_Bool, cases_lt}
use Rattle.kernel_gate.specs.Value.{lengths}
use Rattle.sdf_level.specs.Firings.{actors_of, firings}
use Rattle.sdf_level.specs.LevelRun.{Ended, HaveDelays, end_of as level_end, left_of, written}
use Rattle.sdf_level.specs.Told.{lines_of}
use Rattle.sdf_level.specs.declared.link.Link.{Link}
use Rattle.sdf_level.specs.declared.node.Node.{Node}
use Rattle.sdf_level.specs.declared.node.Node.TheVariants as node
use Rattle.sdf_level.specs.declared.single_rate.Edge.{Edge}
use Rattle.sdf_level.specs.declared.token_name.TokenName.{TokenName}
use Rattle.sdf_level.specs.declared.turn.Turn.{Turn}
use Rattle.sdf_level.proofs.Balanced.{repetition_balanced, repetition_reaches}
use Rattle.sdf_level.proofs.KeptLengths.{kept_long, left_long, written_long}
use Rattle.single_rate.specs.declared.wire.Wire.{Wire}
use Rattle.single_rate.specs.Delivers.{arrivals, at_ends, at_sinks}
use Rattle.single_rate.specs.Expanded.{by_nodes, place_of}
use Rattle.single_rate.specs.Flow.{IsFlow, arrives_at}
use Rattle.single_rate.specs.Laws.{FlowsDeliver, GraphsHaveOneFlow, HasOneFlow, IsGiven, graph}
use Rattle.single_rate.specs.Names.{names}
use Rattle.single_rate.specs.Nodes.{same}
use Rattle.single_rate.proofs.Unique.{same-node}
use Rattle.job_flow.specs.Events.{IsDone, IsFinished, IsQuiet}
use Rattle.job_flow.specs.Frames.{Values, arriving_below, given, lens, lengths_written, sizes_below}
use Rattle.job_flow.specs.GraphLaws.{GraphLaws}
use Rattle.job_flow.specs.Graphs.{IsJobGraph, JobGraph, node_at}
use Rattle.job_flow.specs.Outcomes.{ended, failure, left_over, put_out, sunk}
use Rattle.job_flow.proofs.Collected.{arrives_at-is}
use Rattle.job_flow.proofs.Failures.{none-failed}
use Rattle.job_flow.proofs.Flows.{IsNumbered, all-both}
use Rattle.job_flow.proofs.Jobs.{graph-is, numbered}
use Rattle.job_flow.proofs.Slots.{sized-below}
use Rattle.param_resolver.specs.LevelOf.{links_of}
use Rattle.param_resolver.specs.Numbering.{is_kept}
use Rattle.pisdf_model.specs.declared.fifo.Fifo.{Fifo}
use Rattle.pisdf_model.specs.declared.graph.Graph.{Graph}
use Rattle.pisdf_meaning.specs.Configuring.{configurations_from}
use Rattle.pisdf_meaning.specs.Running.{state_after}
use Rattle.pisdf_meaning.specs.Sizes.{IsWired}
use Rattle.pisdf_meaning.specs.declared.firing.Configured.{Configured}
use Rattle.pisdf_meaning.proofs.LinkSizes.{no_delay}
use Rattle.pisdf_meaning.proofs.StateSizes as sizes
use Rattle.pisdf_meaning.proofs.StateSizes.{StatesLong, actor_size, fifo_size}

-- ---- lists of the same lengths

delays_alike : {S T : Type 0} (links : List Link) (xs : List (List S)) (ys : List (List T)) → map length xs ≡ map length ys → HaveDelays links ys → HaveDelays links xs
delays_alike [] [] [] e h = tt
delays_alike [] [] (y ∷ ys) e h = absurd h
delays_alike [] (x ∷ xs) [] e h = absurd (cc)
delays_alike [] (x ∷ xs) (y ∷ ys) e h = absurd h
delays_alike (link ∷ links) [] [] e h = absurd h
delays_alike (link ∷ links) [] (y ∷ ys) e h = absurd (cc)
delays_alike (link ∷ links) (x ∷ xs) [] e h = absurd h
delays_alike (link ∷ links) (x ∷ xs) (y ∷ ys) e h =
    let here : length x ≡ length y = cc in
    let rest : map length xs ≡ map length ys = cc in
    (here ∙ h.0, delays_alike links xs ys rest h.1)

first_long : {T : Type 0} (outs : List (List T)) (s : ℕ) → map length outs ≡ s ∷ [] → length (slice_index_or outs 0 []) ≡ s
first_long [] s e = absurd (cc)
first_long (x ∷ outs) s e = cc

-- ---- what arrives at sinks and at the ends of links

module _ (known : GraphLaws) (one_flow : GraphsHaveOneFlow TokenName) (delivers : FlowsDeliver TokenName) {T : Type 0} (q : List ℕ) (turns : List Turn) (job : JobGraph T) (is : IsJobGraph q turns job) where
  abbrev N : List Node
  N = job.nodes

  abbrev E : List Edge
  E = job.edges

  num : IsNumbered job.level turns job.nodes job.edges
  num = numbered known q turns job is

  fits : IsGiven job.level q turns (names job.level)
  fits = record { level_kept = is.level_kept; repetition = is.repetition; order = is.order; lengths = known.names_fit job.level q is.level_kept }

  named : HasOneFlow (names job.level) (graph job.level q turns)
  named = one_flow job.level q turns (names job.level) fits

  abbrev W : List Wire
  W = by_nodes job.nodes job.edges

  flow : IsFlow (names job.level) W named.on
  flow = rw (graph-is known q turns job is) (named.flows)

  below-arrivals : (n : ℕ) (m : Node) → n < length job.nodes → node_at job.nodes n ≡ m → (ports : ℕ) → arriving_below job.edges named.on n ports ≡ arrivals W named.on m ports
  below-arrivals n m inside at zero = refl
  below-arrivals n m inside at (suc port) = rw (below-arrivals n m inside at port, ← arrives_at-is job.nodes num.once n port inside job.edges num.ends named.on, at) refl

  no-arrival : (m : Node) → length N ≤ place_of N m → (es : List Edge) → AllByRecursion (λ e. (e.tail < length N) × (e.head < length N)) es → (tokens : List (List TokenName)) → arrives_at (by_nodes N es) tokens m 0 ≡ []
  no-arrival m past [] ends tokens = refl
  no-arrival m past (e ∷ es) ends [] = refl
  no-arrival m past (e ∷ es) ends (x ∷ tokens) = ⊎_elim
      (λ (s : same m (node_at N e.head) ≡ true). absurd (let i : place_of N m ≡ e.head = ap (place_of N) (same-node m (node_at N e.head) s) ∙ num.once e.head ends.0.1 in let b = ends.0.1 in omega arith))
      (λ (s : same m (node_at N e.head) ≡ false). rw s (no-arrival m past es ends.1 tokens))
      (cases_Bool (same m (node_at N e.head)))

  module _ {F : Type 0} (v : Values T F) (quiet : IsQuiet job v) (none : failure job v ≡ None) (past_none : (n : ℕ) → length job.nodes ≤ n → v n ≡ None) (sized : (n : ℕ) (outs : List (List T)) → n < length job.nodes → v n ≡ Some (Ok outs) → map length outs ≡ lens job n) where
    finished-done : (o : Option (Result (List (List T)) F)) → IsFinished o → ((fault : F) → o ≡ Some (Err fault) → ⊥) → IsDone o
    finished-done None finished fails = absurd finished
    finished-done (Some (Ok outs)) finished fails = tt
    finished-done (Some (Err fault)) finished fails = fails fault refl

    done-below : (r n : ℕ) → n < length N → num.tier n < r → IsDone (v n)
    done-below zero n inside below = absurd (omega arith)
    done-below (suc r) n inside below =
        let before : AllByRecursion (λ e. e.head ≡ n → IsDone (v e.tail)) E = all-both (λ e. (e.tail < length N) × (e.head < length N)) (λ e. num.tier e.tail < num.tier e.head) (λ e. e.head ≡ n → IsDone (v e.tail))
        (λ e ends rises own. let s : num.tier e.head ≡ num.tier n = ap num.tier own in done-below r e.tail ends.0 (omega arith)) E num.ends num.rising in
        finished-done (v n) (quiet n record { there = inside; before = before }) (λ fault failed. none-failed v 0 (length N) none n fault (omega arith) (omega arith) failed)

    done-outs : (o : Option (Result (List (List T)) F)) → IsDone o → (outs : List (List T)) × (o ≡ Some (Ok outs))
    done-outs None done = absurd done
    done-outs (Some (Ok outs)) done = (outs, refl)
    done-outs (Some (Err fault)) done = absurd done

    out-long : (m : Node) → ((n : ℕ) → lengths_written job m n ≡ sizes_below E n 1) → length (put_out N v m) ≡ length (arrives_at W named.on m 0)
    out-long m as_long = ⊎_elim
        (λ (there : place_of N m < length N).
        let n : ℕ = place_of N m in
        let at = num.found m there in
        let outs = done-outs (v n) (done-below (suc (num.tier n)) n there (omega arith)) in
        let long : map length outs.0 ≡ sizes_below E n 1 = sized n outs.0 there outs.1 ∙ ap (λ (x : Node). lengths_written job x n) at ∙ as_long n in
        let arrived : sizes_below E n 1 ≡ length (arrives_at W named.on m 0) ∷ [] = sym (sized-below N E named.on n 1 flow.sizes) ∙ ap (λ (x : List (List TokenName)). map length x) (below-arrivals n m there at 1) in
        ap (λ (o : Option (Result (List (List T)) F)). length (slice_index_or (given o) 0 [])) outs.1 ∙ first_long outs.0 (length (arrives_at W named.on m 0)) (long ∙ arrived))
        (λ (past : length N ≤ place_of N m).
        ap (λ (o : Option (Result (List (List T)) F)). length (slice_index_or (given o) 0 [])) (past_none (place_of N m) past) ∙ sym (ap length (no-arrival m past E num.ends named.on)))
        (cases_lt (place_of N m) (length N))

    sinks-long : (t : ℕ) (rates : List ℕ) → map length (sunk N v t rates) ≡ map length (at_sinks W named.on t rates)
    sinks-long t [] = refl
    sinks-long t (r ∷ rates) = ap₂ (λ (x : ℕ) (l : List ℕ). x ∷ l) (out-long (node.Sink t) (λ n. refl)) (sinks-long (t + 1) rates)

    ends-long : (l : ℕ) (links : List Link) → map length (left_over N v l links) ≡ map length (at_ends W named.on l links)
    ends-long l [] = refl
    ends-long l (link ∷ links) = ap₂ (λ (x : ℕ) (l : List ℕ). x ∷ l) (out-long (node.End l) (λ n. refl)) (ends-long (l + 1) links)

    abbrev list : List ℕ
    list = actors_of turns

    abbrev lines : List (List TokenName)
    lines = lines_of (names job.level).made (λ a. firings a list) job.level.links (names job.level).delays

    arrived_is : level_end job.level q lines ≡ record { outs = at_sinks W named.on 0 job.level.sinks; left = at_ends W named.on 0 job.level.links }
    arrived_is =
        let d = delivers job.level q turns (names job.level) named.on list fits named.flows is.order.order.admissible in
        d.ends ∙ ap (λ (w : List Wire). let e : Ended TokenName = record { outs = at_sinks w named.on 0 job.level.sinks; left = at_ends w named.on 0 job.level.links } in e) (sym (graph-is known q turns job is))

    pub outs_long : map length (ended job v).outs ≡ job.level.sinks
    outs_long =
        sinks-long 0 job.level.sinks ∙ ap (λ (e : Ended TokenName). map length e.outs) (sym arrived_is)
        ∙ kept_long job.level q (names job.level).made (λ a. firings a list) is.order.order.admissible.counts 0 job.level.sinks lines (λ i h.
        let e : 0 + i ≡ i = omega arith in
        rw e (written_long job.level q (names job.level).made (λ a. firings a list) is.order.order.admissible.counts i job.level.links (names job.level).delays fits.lengths.delays (let o = is.level_kept.sinks_at_one i h in omega arith) fits.lengths.made is.level_kept.actors_between (repetition_reaches job.level q is.level_kept is.repetition)))

    pub left_fits : HaveDelays job.level.links (ended job v).left
    left_fits =
        delays_alike job.level.links (ended job v).left (left_of q job.level.links lines)
        (ends-long 0 job.level.links ∙ ap (λ (e : Ended TokenName). map length e.left) (sym arrived_is))
        (left_long job.level q (names job.level).made (λ a. firings a list) is.order.order.admissible.counts job.level.links (names job.level).delays fits.lengths.delays fits.lengths.made (repetition_balanced job.level q is.level_kept is.repetition) is.level_kept.delays)

-- ---- the state that is left

module _ (graphs : List Graph) (g : Graph) (values : List ℤ) where
  skipped_empty : (fifos : List Fifo) → AllByRecursion (IsWired graphs g) fifos → AllByRecursion (λ (f : Fifo). is_kept g f ≡ false → length f.delay ≡ 0) fifos
  skipped_empty [] all = tt
  skipped_empty (f ∷ fifos) all = (no_delay graphs g f all.0, skipped_empty fifos all.1)

  pub state_long : AllByRecursion (IsWired graphs g) g.fifos → (configured : List Configured) (left : List (List ℤ)) → StatesLong graphs g values (configurations_from 0 0 g.actors) configured → HaveDelays (links_of graphs g values) left → lengths (state_after graphs g configured left) ≡ map fifo_size g.fifos ++ map (actor_size graphs) g.actors
  state_long wired configured left all links = sizes.state_long graphs g values (skipped_empty g.fifos wired) configured left all links
