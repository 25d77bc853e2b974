-- The rules of jobs are lawful.
use Rattle.std.proofs.Common.{◌≡◌, inl, inr, ⊎_elim, ℕ, zero, suc, ◌+◌, ◌<◌, ◌≤◌, ◌&&◌, nat_lt, true, false, ℤ, List, [], ◌∷◌, ◌++◌, length, map, slice_get, get_or, Option, Some, None, refl, sym, ap, subst, arith, ltb-true}
use Rattle.std.specs.List.{AllByRecursion, filter, flat_map}
use Rattle.std.proofs.lemmas.Bool.{and_parts, cases_Bool, cases_lt}
use Rattle.pisdf_model.specs.InterfaceWires.{is_configuration}
use Rattle.pisdf_model.specs.Nesting.{children, children_of}
use Rattle.pisdf_model.specs.Range.{InRange}
use Rattle.pisdf_model.specs.WellFormed.{WellFormed}
use Rattle.pisdf_model.specs.declared.actor.Actor.{Actor}
use Rattle.pisdf_model.specs.declared.actor.Body.{Body}
use Rattle.pisdf_model.specs.declared.actor.Body.TheVariants.{Kernel, Config, Child, ConfigChild}
use Rattle.pisdf_model.specs.declared.graph.Graph.{Graph}
use Rattle.pisdf_model.specs.declared.graph.Graphs.{Graphs}
use Rattle.param_resolver.proofs.Sound.{nested}
use Rattle.param_resolver.specs.Numbering.{acting, fires}
use Rattle.sdf_level.specs.declared.node.Node.{Node}
use Rattle.sdf_level.specs.declared.node.Node.TheVariants as node
use Rattle.pisdf_meaning.proofs.LinkSizes.{one_at}
use Rattle.pisdf_meaning.specs.Configuring.{Configuration, config_firing, configurations, configurations_from}
use Rattle.pisdf_meaning.specs.declared.firing.Configured.{Configured}
use Rattle.pisdf_meaning.specs.declared.firing.Firing.{Firing}
use Rattle.pisdf_meaning.specs.declared.refusal.Refusal.{Refusal}
use Rattle.nested_jobs.specs.Rules.{Task, Call, Values}
use Rattle.nested_jobs.specs.Rules as rules
use Rattle.nested_jobs.specs.Meanings.{Lawful}
use Rattle.job_flow.specs.Frames.{inputs, lens}
use Rattle.job_flow.specs.Graphs.{node_at}
use Rattle.job_flow.specs.Laws.{InputsStay, ReadyStays}
use Rattle.job_rules.specs.Words.{Answer, Work, Compiles}
use Rattle.job_rules.specs.Items.{Prepared, actor_task, compile_rule, config_task, edges_in, firing_task, graph_of, is_ready_by, job_graph, job_rules, left_from, left_in, no_graph, node_rule, node_task, node_values, nodes_after, nodes_in, prepared_in, rule, rule_from, values_in}
use Rattle.job_rules.specs.Meant.{rank}
use Rattle.job_rules.proofs.Growing.{task_stays}
use Rattle.job_rules.proofs.Nested.{Stands, below}
use Rattle.job_rules.proofs.Parts.{passed}

-- ---- how many items there are

module _ (graphs : List Graph) (g : Graph) (firing : Firing) (v : Values Answer) where
  node_counted : (n : ℕ) (o : Option Prepared) (t : Task Firing Work) → node_rule graphs g firing v n o ≡ Some t → n < length (nodes_after graphs g firing o)
  node_counted n None t is = absurd (cc)
  node_counted n (Some p) t is =
      let values = node_values graphs g firing p v in
      let job = job_graph graphs g firing p in
      let test = nat_lt n (length (nodes_in graphs g firing p)) && is_ready_by (edges_in graphs g firing p) values n in
      let parts = passed test (node_task graphs g firing (values_in g firing p) (node_at (nodes_in graphs g firing p) n) (inputs job values n) (lens job n)) t is in
      ltb-true n (length (nodes_in graphs g firing p)) (and_parts (nat_lt n (length (nodes_in graphs g firing p))) (is_ready_by (edges_in graphs g firing p) values n) parts.test_is).0

  counted : (cs : List Configuration) (i : ℕ) (t : Task Firing Work) → rule_from graphs g firing v cs i ≡ Some t → i < length cs + 1 + length (nodes_after graphs g firing (prepared_in g v))
  counted [] zero t is = omega arith
  counted [] (suc n) t is = let inside = node_counted n (prepared_in g v) t is in omega arith
  counted (c ∷ cs) zero t is = omega arith
  counted (c ∷ cs) (suc i) t is = let inside = counted cs i t is in omega arith

-- ---- whom they call

-- whatever stands here stands there too
abbrev Among : List ℕ → List ℕ → Type 0
Among ks all = (k : ℕ) → Stands k ks → Stands k all

stands_left : (k : ℕ) (xs ys : List ℕ) → Stands k xs → Stands k (xs ++ ys)
stands_left k [] ys stands = absurd stands
stands_left k (x ∷ xs) ys stands = ⊎_elim (λ (here : x ≡ k). inl here) (λ (later : Stands k xs). inr (stands_left k xs ys later)) stands

stands_right : (k : ℕ) (xs ys : List ℕ) → Stands k ys → Stands k (xs ++ ys)
stands_right k [] ys stands = stands
stands_right k (x ∷ xs) ys stands = inr (stands_right k xs ys stands)

module _ (all : List ℕ) where
  abbrev Names : Actor → Type 0
  Names a = Among (children_of a.body) all

  each_among : (actors : List Actor) → Among (flat_map (λ (a : Actor). children_of a.body) actors) all → AllByRecursion Names actors
  each_among [] among = tt
  each_among (a ∷ actors) among =
      let rest = flat_map (λ (x : Actor). children_of x.body) actors in
      ((λ k stands. among k (stands_left k (children_of a.body) rest stands)), each_among actors (λ k stands. among k (stands_right k (children_of a.body) rest stands)))

  configurations_among : (n a : ℕ) (actors : List Actor) → AllByRecursion Names actors → AllByRecursion (λ (c : Configuration). Among (children_of c.body) all) (configurations_from n a actors)
  configurations_among n a [] each = tt
  configurations_among n a (x ∷ actors) each = ⊎_elim
      (λ (is : is_configuration x.body ≡ true). rw is (each.0, configurations_among (n + 1) (a + 1) actors each.1))
      (λ (is : is_configuration x.body ≡ false). rw is (configurations_among n (a + 1) actors each.1))
      (cases_Bool (is_configuration x.body))

  acting_among : (actors : List Actor) → AllByRecursion Names actors → AllByRecursion Names (filter fires actors)
  acting_among [] each = tt
  acting_among (x ∷ actors) each = ⊎_elim
      (λ (is : is_configuration x.body ≡ true). rw is (acting_among actors each.1))
      (λ (is : is_configuration x.body ≡ false). rw is (each.0, acting_among actors each.1))
      (cases_Bool (is_configuration x.body))

module _ (graphs : List Graph) (g : Graph) (firing : Firing) (v : Values Answer) where
  abbrev Called : Firing → Type 0
  Called d = Stands d.graph (children g)

  config_calls : (c : Configuration) (body : Body) → Among (children_of body) (children g) → (d : Firing) → config_task graphs g firing c body ≡ Some (Call d) → Called d
  config_calls c (Kernel kernel args ins outs) among d is = absurd (cc)
  config_calls c (Child place args) among d is = absurd (cc)
  config_calls c (Config kernel args ins outs sets) among d is = absurd (cc)
  config_calls c (ConfigChild place args sets) among d is =
      let same : config_firing graphs g firing c place ≡ d = cc in
      among d.graph (inl (ap (λ (x : Firing). x.graph) same))

  module _ (values : List ℤ) (read : List (List ℤ)) where
    firing_calls : (a k : ℕ) (actor : Actor) (body : Body) → Among (children_of body) (children g) → (d : Firing) → firing_task graphs g firing values a k read actor body ≡ Some (Call d) → Called d
    firing_calls a k actor (Kernel kernel args ins outs) among d is = absurd (cc)
    firing_calls a k actor (Child place args) among d is =
        let D : Task Firing Work → ℕ → ℕ = λ t other. elim t [ rules.Work w ↦ other | rules.Call x ↦ x.graph ] in
        let O : Option (Task Firing Work) → ℕ = λ o. elim o [ None ↦ 0 | Some t ↦ D t 0 ] in
        among d.graph (inl (ap O is))
    firing_calls a k actor (Config kernel args ins outs sets) among d is = absurd (cc)
    firing_calls a k actor (ConfigChild place args sets) among d is = absurd (cc)

    actor_calls : (a k : ℕ) (o : Option Actor) → slice_get (acting g) a ≡ o → (d : Firing) → actor_task graphs g firing values a k read o ≡ Some (Call d) → Called d
    actor_calls a k None at d is = absurd (cc)
    actor_calls a k (Some actor) at d is =
        let each = acting_among (children g) g.actors (each_among (children g) g.actors (λ k stands. stands)) in
        firing_calls a k actor actor.body (one_at (Names (children g)) (acting g) each a actor at) d is

    node_calls : (n : Node) (lengths : List ℕ) (d : Firing) → node_task graphs g firing values n read lengths ≡ Some (Call d) → Called d
    node_calls (node.Source s) lengths d is = absurd (cc)
    node_calls (node.Init l) lengths d is = absurd (cc)
    node_calls (node.Firing a k) lengths d is = actor_calls a k (slice_get (acting g) a) refl d is
    node_calls (node.Broadcast l) lengths d is = absurd (cc)
    node_calls (node.Fork l i) lengths d is = absurd (cc)
    node_calls (node.Join l j) lengths d is = absurd (cc)
    node_calls (node.Round l) lengths d is = absurd (cc)
    node_calls (node.End l) lengths d is = absurd (cc)
    node_calls (node.Sink t) lengths d is = absurd (cc)

  compile_calls : (left : Option (List Configured)) (d : Firing) → compile_rule firing left ≡ Some (Call d) → Called d
  compile_calls None d is = absurd (cc)
  compile_calls (Some left) d is = absurd (cc)

  prepared_calls : (n : ℕ) (o : Option Prepared) (d : Firing) → node_rule graphs g firing v n o ≡ Some (Call d) → Called d
  prepared_calls n None d is = absurd (cc)
  prepared_calls n (Some p) d is =
      let values = node_values graphs g firing p v in
      let job = job_graph graphs g firing p in
      let test = nat_lt n (length (nodes_in graphs g firing p)) && is_ready_by (edges_in graphs g firing p) values n in
      let parts = passed test (node_task graphs g firing (values_in g firing p) (node_at (nodes_in graphs g firing p) n) (inputs job values n) (lens job n)) (Call d) is in
      node_calls (values_in g firing p) (inputs job values n) (node_at (nodes_in graphs g firing p) n) (lens job n) d parts.is

  calls_from : (cs : List Configuration) → AllByRecursion (λ (c : Configuration). Among (children_of c.body) (children g)) cs → (i : ℕ) (d : Firing) → rule_from graphs g firing v cs i ≡ Some (Call d) → Called d
  calls_from [] each zero d is = compile_calls (left_in g v) d is
  calls_from [] each (suc n) d is = prepared_calls n (prepared_in g v) d is
  calls_from (c ∷ cs) each zero d is = config_calls c c.body each.0 d is
  calls_from (c ∷ cs) each (suc i) d is = calls_from cs each.1 i d is

-- a job calls firings of graphs that its graph's actors name
pub called : (graphs : List Graph) (firing : Firing) (v : Values Answer) (i : ℕ) (d : Firing) → rule graphs firing v i ≡ Some (Call d) → Stands d.graph (children (graph_of graphs firing))
called graphs firing v i d is =
    let g = graph_of graphs firing in
    let each = configurations_among (children g) 0 0 g.actors (each_among (children g) g.actors (λ k stands. stands)) in
    calls_from graphs g firing v (configurations g) each i d is

mapped : {X Y : Type 0} (f : X → Y) (xs : List X) (i : ℕ) (d : X) → get_or (map f xs) i (f d) ≡ f (get_or xs i d)
mapped f [] i d = refl
mapped f (x ∷ xs) zero d = refl
mapped f (x ∷ xs) (suc i) d = mapped f xs i d

absent : (graphs : List Graph) (i : ℕ) → length graphs ≤ i → get_or graphs i no_graph ≡ no_graph
absent [] i past = refl
absent (g ∷ graphs) zero past = absurd (omega arith)
absent (g ∷ graphs) (suc i) past = absent graphs i (omega arith)

falls : (graphs : Graphs) → InRange graphs → WellFormed graphs → (firing : Firing) (v : Values Answer) (i : ℕ) (d : Firing) → rule graphs.graphs firing v i ≡ Some (Call d) → rank graphs.graphs d < rank graphs.graphs firing
falls graphs range well firing v i d is =
    let stands = called graphs.graphs firing v i d is in
    ⊎_elim
    (λ (inside : firing.graph < length graphs.graphs).
    let most = nested graphs range well firing.graph inside in
    let P : List ℕ → Type 0 = λ ks. Stands d.graph ks in
    below (map children graphs.graphs) 7 firing.graph d.graph most (subst P (sym (mapped children graphs.graphs firing.graph no_graph)) stands))
    (λ (past : length graphs.graphs ≤ firing.graph).
    let P : Graph → Type 0 = λ x. Stands d.graph (children x) in
    absurd (subst P (absent graphs.graphs firing.graph past) stands))
    (cases_lt firing.graph (length graphs.graphs))

-- ---- the first item

pub configured : (n a : ℕ) (actors : List Actor) → AllByRecursion (λ (c : Configuration). is_configuration c.body ≡ true) (configurations_from n a actors)
configured n a [] = tt
configured n a (x ∷ actors) = ⊎_elim
    (λ (is : is_configuration x.body ≡ true). rw is (is, configured (n + 1) (a + 1) actors))
    (λ (is : is_configuration x.body ≡ false). rw is (configured n (a + 1) actors))
    (cases_Bool (is_configuration x.body))

pub config_has_task : (graphs : List Graph) (g : Graph) (firing : Firing) (c : Configuration) (body : Body) → is_configuration body ≡ true → (t : Task Firing Work) × (config_task graphs g firing c body ≡ Some t)
config_has_task graphs g firing c (Kernel kernel args ins outs) is = absurd (cc)
config_has_task graphs g firing c (Child place args) is = absurd (cc)
config_has_task graphs g firing c (Config kernel args ins outs sets) is = (_, refl)
config_has_task graphs g firing c (ConfigChild place args sets) is = (_, refl)

module _ (graphs : List Graph) (g : Graph) (firing : Firing) where
  abbrev none : Values Answer
  none i = None

  abbrev Starts : List Configuration → Type 0
  Starts cs = (i : ℕ) × (t : Task Firing Work) × (rule_from graphs g firing none cs i ≡ Some t)

  starts_from : (cs : List Configuration) → configurations g ≡ cs → AllByRecursion (λ (c : Configuration). is_configuration c.body ≡ true) cs → Starts cs
  starts_from [] e each = (0, rules.Work (Compiles firing []), ap (λ (l : List Configuration). compile_rule firing (left_from none 0 l)) e)
  starts_from (c ∷ cs) e each = let first = config_has_task graphs g firing c c.body each.0 in (0, first.0, first.1)

-- ---- all of it

pub lawful : (graphs : Graphs) → InRange graphs → WellFormed graphs → ReadyStays ℤ Refusal → InputsStay ℤ Refusal → Lawful (job_rules graphs.graphs) (rank graphs.graphs)
lawful graphs range well ready_stays inputs_stay = record {
  grows = λ firing v w within i t is. task_stays graphs.graphs firing v w within ready_stays inputs_stay i t is;
  counts = λ firing v i t is. counted graphs.graphs (graph_of graphs.graphs firing) firing v (configurations (graph_of graphs.graphs firing)) i t is;
  falls = λ firing v i d is. falls graphs range well firing v i d is;
  starts = λ firing. let g = graph_of graphs.graphs firing in starts_from graphs.graphs g firing (configurations g) refl (configured 0 0 g.actors);
}
