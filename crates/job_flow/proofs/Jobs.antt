-- A settled job ends as the run of one thread does.
use Rattle.std.proofs.Common.{◌≡◌, ℕ, ◌+◌, ◌<◌, List, [], map, length, slice_index, Option, Some, None, Result, Ok, Err, refl, ap, sym, ◌∙◌, subst, arith}
use Rattle.std.proofs.lemmas.List.Elements.{recursion_from_All}
use Rattle.sdf_level.specs.Invariants.{how_many}
use Rattle.sdf_level.specs.Firings.{EachFiring, actors_of, firings}
use Rattle.sdf_level.specs.Told.{Made}
use Rattle.sdf_level.specs.LevelRun.{IsLevelRun}
use Rattle.sdf_level.specs.Laws.{Firing, among, MadeRates}
use Rattle.sdf_level.specs.declared.node.Node.{Node}
use Rattle.sdf_level.specs.declared.node.Node.TheVariants as node
use Rattle.sdf_level.specs.declared.single_rate.Edge.{Edge}
use Rattle.sdf_level.specs.declared.turn.Turn.{Turn}
use Rattle.single_rate.specs.declared.wire.Wire.{Wire}
use Rattle.single_rate.specs.Names.{output_names, is_from_actor}
use Rattle.single_rate.specs.Flow.{Given, IsFlow}
use Rattle.single_rate.specs.Delivers.{at_firing}
use Rattle.single_rate.specs.Expanded.{nodes, edges, place_of, by_nodes}
use Rattle.single_rate.specs.Laws.{graph, HasOneFlow, IsGiven, GraphsHaveOneFlow, RunsEndInFlows, RunsEndInFaults, AnswersTo}
use Rattle.job_flow.specs.GraphLaws.{GraphLaws}
use Rattle.job_flow.specs.Graphs.{JobGraph, IsJobGraph}
use Rattle.job_flow.specs.Frames.{Values, output_rates, lengths_written}
use Rattle.job_flow.specs.Events.{IsDone, AreAnswered, Settled}
use Rattle.job_flow.specs.Outcomes.{Failure, failure, outcome_of, outcome}
use Rattle.job_flow.proofs.Sized.{same-rates, names-rates, alike, lengths-alike}
use Rattle.job_flow.proofs.Flows.{IsNumbered, made_of}
use Rattle.job_flow.proofs.Failures.{NoneFailed, IsFirst, none-failed, first-failed}
use Rattle.job_flow.proofs.Ends.{all-done, fails-at, answers-all, answers-before, fails-so, ended-flows}

module _ (known : GraphLaws) {T : Type 0} (q : List ℕ) (turns : List Turn) (job : JobGraph T) (is : IsJobGraph q turns job) where
  abbrev N : List Node
  N = nodes job.level q turns

  abbrev E : List Edge
  E = edges job.level q turns

  numbered-graph : IsNumbered job.level turns N E
  numbered-graph =
      let tiers = known.tiers job.level q turns is.level_kept is.order in
      record {
        once = λ n inside. known.once job.level q turns n is.order inside;
        found = λ m there. known.found N m there;
        ends = recursion_from_All (λ e. (e.tail < length N) × (e.head < length N)) E (known.ends job.level q turns is.level_kept is.order);
        ports = λ n inside. known.ports job.level q turns n is.level_kept is.order inside;
        tier = tiers.tier;
        rising = recursion_from_All (λ e. tiers.tier e.tail < tiers.tier e.head) E tiers.rising;
        in_order = tiers.in_order;
        stands = λ before after b list_is. known.stands job.level q turns before after b is.order list_is;
        all = λ n kind_is. known.all job.level q turns n is.order kind_is;
      }

  pub numbered : IsNumbered job.level turns job.nodes job.edges
  numbered = rw (is.nodes_are, is.edges_are) numbered-graph

  pub graph-is : by_nodes job.nodes job.edges ≡ graph job.level q turns
  graph-is = rw (is.nodes_are, is.edges_are) refl

  firing-there : (a k : ℕ) → k < slice_index q a → place_of job.nodes (node.Firing a k) < length job.nodes
  firing-there a k within = rw (is.nodes_are) (known.there job.level q turns a k is.order within)

  module _ {F : Type 0} (v : Values T F) (token : T) where
    otherwise : ℕ → ℕ → List (List T)
    otherwise a k = alike token (output_names job.level.links a k)

    -- what each firing made where it is done, and lists of the same lengths else
    pub made : Made T
    made a k = made_of (v (place_of job.nodes (node.Firing a k))) (otherwise a k)

    pub made-is : (a k : ℕ) → place_of job.nodes (node.Firing a k) < length job.nodes → (outs : List (List T)) → v (place_of job.nodes (node.Firing a k)) ≡ Some (Ok outs) → made a k ≡ outs
    unfolding made
    made-is a k there outs at = ap (λ (o : Option (Result (List (List T)) F)). made_of o (otherwise a k)) at

    module _ {R : Type 0} (firing : R → Firing T F) (answered : AreAnswered job (among firing) v) where
      lengths-otherwise : (a k : ℕ) → map length (otherwise a k) ≡ output_rates job.level.links a
      unfolding otherwise
      lengths-otherwise a k = lengths-alike token (output_names job.level.links a k) ∙ names-rates job.level.links a k (how_many (is_from_actor a) job.level.links)

      lengths-made : (a k : ℕ) → place_of job.nodes (node.Firing a k) < length job.nodes → map length (made a k) ≡ output_rates job.level.links a
      unfolding made
      lengths-made a k there = go (v (place_of job.nodes (node.Firing a k))) refl
        where
          go : (o : Option (Result (List (List T)) F)) → v (place_of job.nodes (node.Firing a k)) ≡ o → map length (made_of o (otherwise a k)) ≡ output_rates job.level.links a
          go None at = lengths-otherwise a k
          go (Some (Ok outs)) at =
              let long = (answered (place_of job.nodes (node.Firing a k)) (Ok outs) at).answers.lengths in
              long ∙ ap (λ (m : Node). lengths_written job m (place_of job.nodes (node.Firing a k))) (numbered.found (node.Firing a k) there)
          go (Some (Err fault)) at = lengths-otherwise a k

      rates-made : MadeRates job.level (λ a. slice_index q a) made
      rates-made a k within =
          let named = (known.names_fit job.level q is.level_kept).made a k within in
          same-rates a (made a k) (output_names job.level.links a k) (lengths-made a k (firing-there a k within) ∙ sym (names-rates job.level.links a k (how_many (is_from_actor a) job.level.links))) job.level.links named

      abbrev pub G : Given T
      G = record { sources = job.sources; delays = job.delays; made = made }

      pub given-fits : IsGiven job.level q turns G
      given-fits = record {
        level_kept = is.level_kept;
        repetition = is.repetition;
        order = is.order;
        lengths = record { sources = is.sources_fit; delays = is.delays_fit; made = rates-made };
      }

  module _ {F R : Type 0} (firing : R → Firing T F) (v : Values T F) (settled : Settled job (among firing) v) where
    unfailed : failure job v ≡ None → NoneFailed v 0 (length job.nodes)
    unfailed none = let e : 0 + length job.nodes ≡ length job.nodes = omega arith in let n = none-failed v 0 (length job.nodes) none in rw e at n

    pub job-finishes : failure job v ≡ None → (n : ℕ) → n < length job.nodes → IsDone (v n)
    job-finishes none n inside = all-done turns job numbered (among firing) v settled (unfailed none) n inside

    module _ (one : GraphsHaveOneFlow T) (runs : RunsEndInFlows T F R) (faults : RunsEndInFaults T F R) (token : T) where
      fits : IsGiven job.level q turns (G v token firing settled.answered)
      fits = given-fits v token firing settled.answered

      only : HasOneFlow (G v token firing settled.answered) (graph job.level q turns)
      only = one job.level q turns (G v token firing settled.answered) fits

      flow : IsFlow (G v token firing settled.answered) (by_nodes job.nodes job.edges) only.on
      flow = rw graph-is (only.flows)

      abbrev Ends : Option (Failure F) → Type 0
      Ends o = IsLevelRun job.level q job.sources job.delays (among firing) (outcome_of job v o)

      ends : (o : Option (Failure F)) → failure job v ≡ o → Ends o
      ends None none =
          let P : List Wire → Type 0 = λ w. EachFiring (AnswersTo job.level (among firing) (G v token firing settled.answered) w only.on) [] (actors_of turns) in
          let answers = answers-all turns job numbered (among firing) v settled (made v token) (made-is v token) only.on flow (unfailed none) in
          let same = ended-flows turns job numbered (among firing) v settled (made v token) (made-is v token) only.on flow (unfailed none) in
          let run = runs job.level q turns firing (G v token firing settled.answered) only.on fits only.flows (subst P graph-is answers) in
          rw (same, graph-is) run
      ends (Some first) is_first =
          let e : 0 + length job.nodes ≡ length job.nodes = omega arith in
          let least = first-failed v 0 (length job.nodes) first is_first in
          let found : IsFirst v 0 (length job.nodes) first = rw e at least in
          let at = fails-at turns job numbered (among firing) v settled first found in
          let P : List Wire → Type 0 = λ w. EachFiring (AnswersTo job.level (among firing) (G v token firing settled.answered) w only.on) [] at.before in
          let Q : List Wire → Type 0 = λ w. among firing at.actor (firings at.actor at.before) (at_firing job.level w only.on at.actor (firings at.actor at.before)) (Err first.fault) in
          faults job.level q turns firing (G v token firing settled.answered) only.on at.before at.after at.actor first.fault fits only.flows at.list_is
          (subst P graph-is (answers-before turns job numbered (among firing) v settled (made v token) (made-is v token) only.on flow first at))
          (subst Q graph-is (fails-so turns job numbered (among firing) v settled (made v token) (made-is v token) only.on flow first at found.failed))

      pub job-ends : IsLevelRun job.level q job.sources job.delays (among firing) (outcome job v)
      job-ends = ends (failure job v) refl
