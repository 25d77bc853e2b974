-- How many items a job has, at most.
use Rattle.std.proofs.Common.{◌≡◌, ℕ, zero, suc, ◌+◌, ◌*◌, ◌<◌, ◌≤◌, ℤ, not, Option, Some, None, Result, Ok, Err, List, [], ◌∷◌, ◌++◌, length, map, slice_get, slice_index, slice_index_or, refl, sym, subst, arith, length-append}
use Rattle.std.specs.List.{flat_map, range_with_len, sum}
use Rattle.std.specs.Result.{result_unwrap_or}
use Rattle.std.proofs.lemmas.List.{length-map}
use Rattle.std.proofs.lemmas.List.FromFn.{length-range_with_len}
use Rattle.pisdf_model.specs.Details.{from_number, of_each}
use Rattle.pisdf_model.specs.InterfaceWires.{is_configuration}
use Rattle.pisdf_model.specs.declared.actor.Actor.{Actor}
use Rattle.pisdf_model.specs.declared.actor.Body.{Body}
use Rattle.pisdf_model.specs.declared.actor.Body.TheVariants.{Kernel, Config, Child, ConfigChild}
use Rattle.pisdf_model.specs.declared.fifo.Fifo.{Fifo}
use Rattle.pisdf_model.specs.declared.actor.Port.{Port}
use Rattle.pisdf_model.specs.declared.graph.Graph.{Graph}
use Rattle.pisdf_model.specs.declared.graph.Interface.{Interface}
use Rattle.param_resolver.specs.EarlyCheck.{Checked, check_by, check_to, config_outs, early_numbers, early_of}
use Rattle.param_resolver.specs.Rates.{arg_values, port_rates, rate_under}
use Rattle.param_resolver.specs.LevelOf.{fifo_links, level_at, link_of, links_of, state_link, state_links}
use Rattle.param_resolver.specs.Numbering.{feeds_configuration, has_state, is_kept, source_inputs}
use Rattle.sdf_level.specs.Firings.{actors_of}
use Rattle.sdf_level.specs.View.{LevelView}
use Rattle.sdf_level.specs.declared.turn.Turn.{Turn}
use Rattle.single_rate.specs.Expanded.{nodes}
use Rattle.level_schedule.specs.Schedules.{IsScheduled}
use Rattle.level_schedule.specs.declared.scheduling.LevelSchedule.{LevelSchedule}
use Rattle.kernel_gate.specs.Value as kernel
use Rattle.pisdf_meaning.specs.Configuring.{configurations_from}
use Rattle.pisdf_meaning.specs.Endings.{Then}
use Rattle.pisdf_meaning.specs.Preparing.{Schedules, level_in, rated, resolved}
use Rattle.pisdf_meaning.specs.declared.firing.Configured.{Configured}
use Rattle.pisdf_meaning.specs.declared.firing.Firing.{Firing}
use Rattle.pisdf_meaning.specs.declared.refusal.Refusal.{Refusal}
use Rattle.nested_jobs.specs.Meanings.{Lawful}
use Rattle.nested_jobs.specs.Rules.{Task, Values}
use Rattle.job_rules.specs.Doing.{Answers, LeadsToSchedule, scheduled, value_of}
use Rattle.job_rules.specs.Items.{compile_number, count, graph_of, job_rules, left_in, no_graph, nodes_after, outcome, outcome_of, prepared_by, first_refusal, rule, schedule_of, values_in}
use Rattle.job_rules.specs.Words as words
use Rattle.job_rules.specs.Words.{Answer, Copies, Compiles, Fires, Gives, Refuses, Spot, Work, fired}
use Rattle.journal_laws.proofs.Long.{as_long, each_below_sum, either_long, filter_long, nodes_long}

-- ---- answers

-- a schedule is of at most so many firings
abbrev pub IsShort : Answer → Type 0
IsShort (Gives given) = Unit {0}
IsShort (words.Schedules s) = (sum s.counts ≤ 2048) × (length s.order ≤ 2048)
IsShort (Refuses refusal) = Unit {0}

scheduled_short : (level : LevelView) (s : LevelSchedule) → IsScheduled level s → IsShort (words.Schedules s)
scheduled_short level s is =
    let firings : sum s.counts ≤ 2048 = is.within.firings in
    let counted = as_long s.counts (actors_of s.order) (λ a. let e = is.order.order.admissible.counts a in omega arith) in
    let same = length-map s.order (λ (t : Turn). t.actor) in
    (firings, omega arith)

fired_short : (spot : Spot) (v : kernel.Answer) → IsShort (fired spot v)
fired_short spot (kernel.Gives outs sets) = tt
fired_short spot (kernel.Faults code) = tt

then_short : {S : Type 0} (next : S → Result LevelSchedule Refusal → Type 0) → ((s : S) (end : Result LevelSchedule Refusal) → next s end → IsShort (scheduled end)) → (r : Result S Refusal) (end : Result LevelSchedule Refusal) → Then next r end → IsShort (scheduled end)
then_short next goes (Ok s) end h = goes s end h
then_short next goes (Err refusal) end h = subst (λ (x : Result LevelSchedule Refusal). IsShort (scheduled x)) (sym h) tt

module _ (graphs : List Graph) where
  told_short : (g : Graph) (firing : Firing) (level : LevelView) (end : Result LevelSchedule Refusal) → Schedules g firing level end → IsShort (scheduled end)
  told_short g firing level (Ok s) is = scheduled_short level s is
  told_short g firing level (Err refusal) is = tt

  leads_short : (g : Graph) (firing : Firing) (left : List Configured) (end : Result LevelSchedule Refusal) → LeadsToSchedule graphs g firing left end → IsShort (scheduled end)
  leads_short g firing left end h =
      then_short (λ values end. Then (λ values end. Schedules g firing (level_in graphs g firing values) end) (rated graphs g firing values) end)
      (λ values end rates. then_short (λ values end. Schedules g firing (level_in graphs g firing values) end) (λ vs end is. told_short g firing (level_in graphs g firing vs) end is) (rated graphs g firing values) end rates)
      (resolved graphs g firing left) end h

  -- the answers that work may have are such
  pub answers_short : (work : Work) (a : Answer) → Answers graphs work a → IsShort a
  answers_short (Fires spot asked) a is = subst IsShort (sym is) (fired_short spot (value_of asked))
  answers_short (Copies node inputs lens) a is = subst IsShort (sym is.answer_is) tt
  answers_short (Compiles firing left) a is = subst IsShort (sym is.answer_is) (leads_short is.g firing left is.end is.leads)

  ended_short : (g : Graph) (firing : Firing) (v : Values Answer) (o : Option Refusal) → IsShort (outcome_of graphs g firing v o)
  ended_short g firing v None = tt
  ended_short g firing v (Some refusal) = tt

  -- and so is what a job answers
  pub outcome_short : (firing : Firing) (v : Values Answer) → IsShort (outcome graphs firing v)
  outcome_short firing v = ended_short (graph_of graphs firing) firing v (first_refusal v 0 (count graphs firing v))

-- ---- graphs

abbrev of_some : (Graph → ℕ) → Option Graph → ℕ
of_some f None = 0
of_some f (Some g) = f g

abbrev outputs_of : Graph → ℕ
outputs_of g = length g.outputs

-- how many outputs a configuration actor has
abbrev outs_of : List Graph → Body → ℕ
outs_of graphs (Kernel kernel args ins outs) = 0
outs_of graphs (Config kernel args ins outs sets) = length outs
outs_of graphs (Child k args) = 0
outs_of graphs (ConfigChild k args sets) = of_some outputs_of (slice_get graphs k)

abbrev all_outs : List Graph → List Actor → ℕ
all_outs graphs [] = 0
all_outs graphs (actor ∷ actors) = outs_of graphs actor.body + all_outs graphs actors

abbrev outs_in : List Graph → Graph → ℕ
outs_in graphs g = all_outs graphs g.actors

-- how many links its level has, at most
abbrev most_links : Graph → ℕ
most_links g = length g.fifos + length g.actors

-- how many items a firing of the graph has, at most
abbrev most_of : List Graph → Graph → ℕ
most_of graphs g = length g.actors + 1 + (length g.inputs + outs_in graphs g + most_links g + 2048 + most_links g * 4098 + most_links g + length g.outputs)

abbrev total : (Graph → ℕ) → List Graph → ℕ
total f [] = f no_graph
total f (g ∷ graphs) = f g + total f graphs

within_total : (f : Graph → ℕ) (graphs : List Graph) (n : ℕ) → f (slice_index_or graphs n no_graph) ≤ total f graphs
within_total f [] n = omega arith
within_total f (x ∷ graphs) zero = omega arith
within_total f (x ∷ graphs) (suc n) = let rest = within_total f graphs n in omega arith

some_index : (f : Graph → ℕ) (graphs : List Graph) (n : ℕ) → of_some f (slice_get graphs n) ≤ f (slice_index_or graphs n no_graph)
some_index f [] n = omega arith
some_index f (x ∷ graphs) zero = omega arith
some_index f (x ∷ graphs) (suc n) = some_index f graphs n

-- ---- what an early check tells

module _ (graphs : List Graph) where
  by_outputs : (check : ℕ → List ℤ → Checked) (o : Option Graph) (inherited : List ℤ) → length (check_by check graphs o inherited).early.outputs ≤ of_some outputs_of o
  by_outputs check None inherited = omega arith
  by_outputs check (Some g) inherited = let e = length-map g.outputs (λ (x : Interface). result_unwrap_or (rate_under (early_numbers g inherited) x.rate) 0) in omega arith

  outputs_long : (n place : ℕ) (inherited : List ℤ) → length (check_to n graphs place inherited).early.outputs ≤ of_some outputs_of (slice_get graphs place)
  unfolding check_to
  outputs_long zero place inherited = omega arith
  outputs_long (suc n) place inherited = by_outputs (check_to n graphs) (slice_get graphs place) inherited

  abbrev joined_long : List (List ℕ) → ℕ
  joined_long outs = length (flat_map (λ (rates : List ℕ). rates) outs)

  module _ (check : ℕ → List ℤ → Checked) (fits : (k : ℕ) (args : List ℤ) → length (check k args).early.outputs ≤ of_some outputs_of (slice_get graphs k)) where
    outs_next : (values : List ℤ) (body : Body) (rest : List (List ℕ)) → joined_long (config_outs check values body ++ rest) ≤ outs_of graphs body + joined_long rest
    outs_next values (Kernel kernel args ins outs) rest = omega arith
    outs_next values (Config kernel args ins outs sets) rest =
        let e = length-append (port_rates values outs) (flat_map (λ (rates : List ℕ). rates) rest) in
        let m = length-map outs (λ (p : Port). result_unwrap_or (rate_under values p.rate) 0) in
        omega arith
    outs_next values (Child k args) rest = omega arith
    outs_next values (ConfigChild k args sets) rest =
        let e = length-append (check k (arg_values values args)).early.outputs (flat_map (λ (rates : List ℕ). rates) rest) in
        let m = fits k (arg_values values args) in
        omega arith

    outs_all : (values : List ℤ) (actors : List Actor) → joined_long (flat_map (λ (actor : Actor). config_outs check values actor.body) actors) ≤ all_outs graphs actors
    outs_all values [] = omega arith
    outs_all values (actor ∷ actors) =
        let next = outs_next values actor.body (flat_map (λ (actor : Actor). config_outs check values actor.body) actors) in
        let rest = outs_all values actors in
        omega arith

    by_outs : (o : Option Graph) (inherited : List ℤ) → joined_long (check_by check graphs o inherited).early.outs ≤ of_some (outs_in graphs) o
    by_outs None inherited = omega arith
    by_outs (Some g) inherited = outs_all (early_numbers g inherited) g.actors

  outs_long : (n place : ℕ) (inherited : List ℤ) → joined_long (check_to n graphs place inherited).early.outs ≤ of_some (outs_in graphs) (slice_get graphs place)
  unfolding check_to
  outs_long zero place inherited = omega arith
  outs_long (suc n) place inherited = by_outs (check_to n graphs) (λ k args. outputs_long n k args) (slice_get graphs place) inherited

-- ---- its level

each_long : {X D : Type 0} (f : ℕ → X → List D) → ((n : ℕ) (x : X) → length (f n x) ≤ 1) → (n : ℕ) (xs : List X) → length (from_number n f xs) ≤ length xs
each_long f one n [] = omega arith
each_long f one n (x ∷ xs) = let here = one n x in let rest = each_long f one (n + 1) xs in let all = length-append (f n x) (from_number (n + 1) f xs) in omega arith

links_long : (graphs : List Graph) (g : Graph) (values : List ℤ) → length (links_of graphs g values) ≤ most_links g
links_long graphs g values =
    let fifos = each_long (λ (i : ℕ) (f : Fifo). fifo_links graphs g values f) (λ i f. either_long (is_kept g f) (link_of graphs g values f ∷ []) [] 1 (omega arith) (omega arith)) 0 g.fifos in
    let states = each_long (λ (a : ℕ) (actor : Actor). state_links graphs g a actor) (λ a actor. either_long (has_state graphs actor) (state_link graphs g a actor.body ∷ []) [] 1 (omega arith) (omega arith)) 0 g.actors in
    let all = length-append (of_each (λ (i : ℕ) (f : Fifo). fifo_links graphs g values f) g.fifos) (of_each (λ (a : ℕ) (actor : Actor). state_links graphs g a actor) g.actors) in
    omega arith

inputs_long : (g : Graph) → length (source_inputs g) ≤ length g.inputs
inputs_long g = let f = filter_long (λ (i : ℕ). not (feeds_configuration g i)) (range_with_len 0 (length g.inputs)) in let r = length-range_with_len 0 (length g.inputs) in omega arith

configurations_long : (c a : ℕ) (actors : List Actor) → length (configurations_from c a actors) ≤ length actors
configurations_long c a [] = omega arith
configurations_long c a (actor ∷ actors) =
    let one = configurations_long (c + 1) (a + 1) actors in
    let other = configurations_long c (a + 1) actors in
    either_long (is_configuration actor.body) (record { number = c; place = a; name = actor.name; body = actor.body } ∷ configurations_from (c + 1) (a + 1) actors) (configurations_from c (a + 1) actors) (suc (length actors)) (omega arith) (omega arith)

module _ (graphs : List Graph) (place : ℕ) (inherited values : List ℤ) where
  abbrev g : Graph
  g = slice_index_or graphs place no_graph

  abbrev view : LevelView
  view = level_at graphs g (early_of graphs place inherited) values

  sources_few : length view.sources ≤ length g.inputs + outs_in graphs g
  sources_few =
      let early = early_of graphs place inherited in
      let one = inputs_long g in
      let mapped = length-map (source_inputs g) (λ (i : ℕ). slice_index early.inputs i) in
      let outs = outs_long graphs 8 place inherited in
      let there = some_index (outs_in graphs) graphs place in
      let all = length-append (map (λ (i : ℕ). slice_index early.inputs i) (source_inputs g)) (flat_map (λ (rates : List ℕ). rates) early.outs) in
      omega arith

  sinks_few : length view.sinks ≤ length g.outputs
  sinks_few = let outputs = outputs_long graphs 8 place inherited in let there = some_index outputs_of graphs place in omega arith

  nodes_few : (s : LevelSchedule) → IsShort (words.Schedules s) → length (nodes view s.counts s.order) ≤ length g.inputs + outs_in graphs g + most_links g + 2048 + most_links g * 4098 + most_links g + length g.outputs
  nodes_few s short =
      let all = nodes_long view s.counts 2048 (λ a. let e = each_below_sum s.counts a in let f = short.0 in omega arith) s.order short.1 in
      let sources = sources_few in
      let sinks = sinks_few in
      let links = links_long graphs g values in
      omega arith

-- ---- items

module _ (graphs : List Graph) where
  pub most : ℕ
  most = total (most_of graphs) graphs

  module _ (firing : Firing) where
    abbrev own : Graph
    own = graph_of graphs firing

    after_few : (l : Option (List Configured)) (o : Option Answer) → ((a : Answer) → o ≡ Some a → IsShort a) →
        length (nodes_after graphs own firing (prepared_by l (schedule_of o))) ≤ length own.inputs + outs_in graphs own + most_links own + 2048 + most_links own * 4098 + most_links own + length own.outputs
    after_few None o short = omega arith
    after_few (Some left) None short = omega arith
    after_few (Some left) (Some (Gives given)) short = omega arith
    after_few (Some left) (Some (Refuses refusal)) short = omega arith
    after_few (Some left) (Some (words.Schedules s)) short = nodes_few graphs firing.graph firing.inherited (values_in own firing record { left = left; schedule = s }) s (short (words.Schedules s) refl)

    count_few : (v : Values Answer) → ((i : ℕ) (a : Answer) → v i ≡ Some a → IsShort a) → count graphs firing v ≤ most
    unfolding most
    count_few v short =
        let configs = configurations_long 0 0 own.actors in
        let nodes = after_few (left_in own v) (v (compile_number own)) (λ a e. short (compile_number own) a e) in
        let all = within_total (most_of graphs) graphs firing.graph in
        omega arith

  -- the items of a job that have tasks have numbers below the bound
  pub items_few : (rank : Firing → ℕ) → Lawful (job_rules graphs) rank → (firing : Firing) (v : Values Answer) → ((i : ℕ) (a : Answer) → v i ≡ Some a → IsShort a) → (i : ℕ) (t : Task Firing Work) → rule graphs firing v i ≡ Some t → i < most
  items_few rank law firing v short i t e = let c = law.counts firing v i t e in let f = count_few firing v short in omega arith
