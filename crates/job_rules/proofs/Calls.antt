-- The firings of graphs that a job calls are given what their graphs take.
use Rattle.std.proofs.Common.{◌≡◌, ℕ, zero, suc, ◌+◌, ◌<◌, ◌==◌, Bool, true, false, ℤ, pos, List, [], ◌∷◌, length, map, get_or, slice_get, slice_index, Option, Some, None, refl, sym, ap, ◌∙◌, subst, arith, if◌then◌else◌}
use Rattle.std.specs.List.{range_with_len}
use Rattle.std.proofs.lemmas.Bool.{eqb-true}
use Rattle.std.proofs.lemmas.List.{length-map}
use Rattle.std.proofs.lemmas.Option.{get_or_from_slice_get, slice_get_within}
use Rattle.kernel_gate.specs.Signed.{Counts}
use Rattle.kernel_gate.specs.Value.{lengths}
use Rattle.param_expr.specs.Tree.{Tree}
use Rattle.param_resolver.specs.EarlyCheck as early
use Rattle.param_resolver.specs.EarlyCheck.{Checked, check_by, check_of, config_faults, early_faults, early_numbers, early_of, early_under, faults_under, feeding, rated_faults, unfed, unfed_inputs}
use Rattle.param_resolver.specs.LevelOf.{level_args}
use Rattle.param_resolver.specs.Numbering.{acting, has_state}
use Rattle.param_resolver.specs.Rates.{arg_faults, arg_values, interface_rates}
use Rattle.param_resolver.specs.Refusal as part
use Rattle.param_resolver.specs.declared.fault.Why.TheVariants.{Value}
use Rattle.param_resolver.specs.Resolvable.{IsBodyResolvable}
use Rattle.param_resolver.proofs.Sound.{each_none}
use Rattle.pisdf_model.proofs.Lists.{right_none}
use Rattle.pisdf_model.specs.Parts.{input_count, inputs_of}
use Rattle.pisdf_model.specs.Wires.{port_text}
use Rattle.pisdf_model.specs.Range.{InRange}
use Rattle.pisdf_model.specs.WellFormed.{WellFormed}
use Rattle.pisdf_model.specs.declared.actor.Actor.{Actor}
use Rattle.pisdf_model.specs.declared.actor.Body.{Body}
use Rattle.pisdf_model.specs.declared.actor.Body.TheVariants.{Kernel, Config, Child, ConfigChild}
use Rattle.pisdf_model.specs.declared.graph.Graph.{Graph}
use Rattle.pisdf_model.specs.declared.graph.Graphs.{Graphs}
use Rattle.pisdf_model.specs.declared.graph.Interface as interface
use Rattle.sdf_level.specs.declared.node.Node.{Node}
use Rattle.sdf_level.specs.declared.node.Node.TheVariants as node
use Rattle.pisdf_meaning.specs.Configuring.{Configuration, config_args, config_firing, configurations, early_in}
use Rattle.pisdf_meaning.specs.Meaning.{MeansWithin}
use Rattle.pisdf_meaning.specs.Running.{child_firing}
use Rattle.kernel_gate.specs.Laws.{GiveLengths}
use Rattle.pisdf_meaning.specs.Sound.{AllFit, KnowsBody, actor_at, no_actor}
use Rattle.pisdf_meaning.specs.States.{tokens_at}
use Rattle.pisdf_meaning.specs.declared.firing.Configured.{Configured}
use Rattle.pisdf_meaning.specs.declared.firing.Firing.{Firing}
use Rattle.pisdf_meaning.proofs.ConfiguredOnes.{GivesOne, stands_at}
use Rattle.pisdf_meaning.proofs.KeptSizes.{none_each}
use Rattle.pisdf_meaning.proofs.Knowing.{Unfolds}
use Rattle.pisdf_meaning.proofs.StateSizes.{size_at}
use Rattle.nested_jobs.specs.Rules.{Call, Values}
use Rattle.nested_jobs.specs.Meanings.{Sound}
use Rattle.job_flow.specs.Events.{IsReady}
use Rattle.job_flow.specs.Frames.{inputs}
use Rattle.job_flow.specs.Graphs.{node_at}
use Rattle.job_rules.specs.Words.{Answer}
use Rattle.job_rules.specs.Items.{Prepared, actor_task, compile_rule, config_task, firing_task, graph_of, job_rules, left_in, node_rule, node_task, prepared_in, rule, rule_from}
use Rattle.job_rules.specs.Meant.{IsFit, meanings}
use Rattle.job_rules.proofs.Answered.{Laws, here, job, level_so, reads, reads_long, rule_so, values, vs}
use Rattle.job_rules.proofs.Called.{child_is_fit, graph_there, inputs_many, keeps, leveled, resolvable_body}
use Rattle.job_rules.proofs.Sources.{Found, child_begins, found, known}

-- ---- lists told by place

listed : (f : ℕ → List ℤ) (k m : ℕ) (xs : List ℕ) → length xs ≡ m → ((p : ℕ) → p < m → length (f (k + p)) ≡ slice_index xs p) → lengths (map f (range_with_len k m)) ≡ xs
listed f k zero [] many same = refl
listed f k zero (x ∷ xs) many same = absurd (omega arith)
listed f k (suc m) [] many same = absurd (omega arith)
listed f k (suc m) (x ∷ xs) many same =
    let first : length (f k) ≡ x = ap (λ i. length (f i)) (let e : k ≡ k + 0 = omega arith in e) ∙ same 0 (omega arith) in
    let rest = listed f (k + 1) m xs (omega arith) (λ p below. ap (λ i. length (f i)) (let e : k + 1 + p ≡ k + suc p = omega arith in e) ∙ same (suc p) (omega arith)) in
    ap (λ n. n ∷ lengths (map f (range_with_len (k + 1) m))) first ∙ ap (λ (l : List ℕ). x ∷ l) rest

there_at : {X : Type 0} (xs : List X) (i : ℕ) → i < length xs → (x : X) × (slice_get xs i ≡ Some x)
there_at [] i inside = absurd (omega arith)
there_at (x ∷ xs) zero inside = (x, refl)
there_at (x ∷ xs) (suc i) inside = there_at xs i (omega arith)

fed : (actor port : List ℕ) (given taken : ℕ) → unfed actor port given taken ≡ [] → given ≡ taken
fed actor port given taken none = go (given == taken) refl none
  where
    go : (b : Bool) → (given == taken) ≡ b → (if b then [] else part.rate (port_text actor port) (Value (pos taken)) ∷ []) ≡ [] → given ≡ taken
    go true is none = eqb-true given taken is
    go false is none = absurd (cc)

args_one : (parameters : List ℤ) → GivesOne (early.config_args parameters)
args_one parameters (Kernel kernel args ins outs) = refl
args_one parameters (Config kernel args ins outs sets) = refl
args_one parameters (Child k args) = refl
args_one parameters (ConfigChild k args sets) = refl

module _ (laws : Laws) (signatures : List Counts) (graphs : Graphs) (range : InRange graphs) (well : WellFormed graphs) (fit : AllFit signatures graphs.graphs) (give : GiveLengths signatures) (unfolds : Unfolds graphs.graphs) (n : ℕ) (firing : Firing) (v : Values Answer)
    (fitted : IsFit graphs.graphs firing) (sound : Sound (job_rules graphs.graphs) (meanings graphs.graphs) n firing v) where
  abbrev G : List Graph
  G = graphs.graphs

  abbrev g : Graph
  g = graph_of G firing

  there : slice_get G firing.graph ≡ Some g
  there = here laws signatures graphs range well fit give n firing v fitted sound

  -- ---- configuration actors

  abbrev numbers : List ℤ
  numbers = early_numbers g firing.inherited

  checked : check_of G firing.graph firing.inherited ≡ check_by (check_of G) G (Some g) firing.inherited
  checked = unfolds firing.graph firing.inherited (slice_get_within G firing.graph g there) ∙ ap (λ o. check_by (check_of G) G o firing.inherited) there

  faultless : faults_under (check_of G) G g firing.inherited ≡ []
  faultless = sym (ap (λ (c : Checked). c.faults) checked) ∙ fitted.sound

  module _ (c : Configuration) (at : Found g c) where
    actor_is : actor_at g c.place ≡ record { name = c.name; body = c.body }
    actor_is = get_or_from_slice_get g.actors c.place record { name = c.name; body = c.body } no_actor at.there

    args_are : tokens_at (early_in G firing).args c.number ≡ get_or (early.config_args numbers c.body) 0 []
    args_are =
        ap (λ (x : Checked). tokens_at x.early.args c.number) checked
        ∙ stands_at (early.config_args numbers) (args_one numbers) g c.number c.place at.is []
        ∙ ap (λ (x : Actor). get_or (early.config_args numbers x.body) 0 []) actor_is

    no_fault : (body : Body) → c.body ≡ body → config_faults (check_of G) G g numbers (interface_rates numbers g.inputs) c.place c.name body ≡ []
    no_fault body is =
        let one = each_none 0 (λ a (x : Actor). config_faults (check_of G) G g numbers (interface_rates numbers g.inputs) a x.name x.body) g.actors (right_none (rated_faults g firing.inherited) _ faultless) c.place no_actor at.is.inside in
        let e : 0 + c.place ≡ c.place = omega arith in
        let P : ℕ → Type 0 = λ a. config_faults (check_of G) G g numbers (interface_rates numbers g.inputs) a (actor_at g c.place).name (actor_at g c.place).body ≡ [] in
        let Q : Actor → Type 0 = λ x. config_faults (check_of G) G g numbers (interface_rates numbers g.inputs) c.place x.name x.body ≡ [] in
        let R : Body → Type 0 = λ b. config_faults (check_of G) G g numbers (interface_rates numbers g.inputs) c.place c.name b ≡ [] in
        subst R is (subst Q actor_is (subst P e one))

    -- the firing of the graph that it names takes what the interfaces give
    inputs_fit : (place : ℕ) (exprs : List Tree) (sets : List ℕ) → c.body ≡ ConfigChild place exprs sets → lengths (config_firing G g firing c place).inputs ≡ (early_of G place (config_args G firing c.number)).inputs
    inputs_fit place exprs sets is =
        let args : config_args G firing c.number ≡ arg_values numbers exprs = args_are ∙ ap (λ b. get_or (early.config_args numbers b) 0 []) is in
        let taken : List ℕ = (early_of G place (arg_values numbers exprs)).inputs in
        let rates : List ℕ = interface_rates numbers g.inputs in
        let unfed_none : unfed_inputs g rates c.place c.name (inputs_of (slice_get G place)) taken ≡ [] = right_none (map (part.child c.place) (check_of G place (arg_values numbers exprs)).faults) _ (right_none (arg_faults numbers c.name exprs) _ (no_fault (ConfigChild place exprs sets) is)) in
        let rates_are : (early_in G firing).inputs ≡ rates = ap (λ (x : Checked). x.early.inputs) checked in
        let many : length taken ≡ input_count G c.body = inputs_many G place (arg_values numbers exprs) exprs ∙ ap (input_count G) (sym is) in
        let ports : input_count G c.body ≡ length (inputs_of (slice_get G place)) = ap (input_count G) is ∙ length-map (inputs_of (slice_get G place)) (λ (x : interface.Interface). x.name) in
        listed (λ p. tokens_at firing.inputs (feeding g.fifos c.place p)) 0 (input_count G c.body) taken many
        (λ p below.
        let x = there_at (inputs_of (slice_get G place)) p (omega arith) in
        let none = none_each (λ j (y : interface.Interface). unfed c.name y.name (slice_index rates (feeding g.fifos c.place j)) (slice_index taken j)) 0 (inputs_of (slice_get G place)) unfed_none p x.0 x.1 in
        let e : 0 + p ≡ p = omega arith in
        size_at firing.inputs (feeding g.fifos c.place (0 + p)) ∙ ap (λ l. slice_index l (feeding g.fifos c.place (0 + p))) (fitted.inputs ∙ rates_are) ∙ fed c.name x.0.name (slice_index rates (feeding g.fifos c.place (0 + p))) (slice_index taken (0 + p)) none ∙ ap (slice_index taken) e)
        ∙ ap (λ l. (early_of G place l).inputs) (sym args)

    config_fits : (body : Body) → c.body ≡ body → (d : Firing) → config_task G g firing c body ≡ Some (Call d) → IsFit G d
    config_fits (Kernel kernel exprs ins outs) is d task = absurd (cc)
    config_fits (Child place exprs) is d task = absurd (cc)
    config_fits (Config kernel exprs ins outs sets) is d task = absurd (cc)
    config_fits (ConfigChild place exprs sets) is d task =
        let same : config_firing G g firing c place ≡ d = cc in
        let body : IsBodyResolvable (length G) (length g.params) (ConfigChild place exprs sets) = let P : Body → Type 0 = λ x. IsBodyResolvable (length G) (length g.params) x in subst P is (resolvable_body signatures graphs range well fit give n firing g there c.place record { name = c.name; body = c.body } at.there) in
        let graph = graph_there signatures graphs range well fit give n firing g there place body.0 in
        let keeps_to = keeps signatures graphs range well fit give n firing g there in
        let level = leveled signatures graphs range well fit give n firing g there firing.graph g there in
        let knows : KnowsBody G (early_in G firing) c.number (ConfigChild place exprs sets) = let P : Body → Type 0 = λ x. KnowsBody G (early_in G firing) c.number x in subst P is (known signatures G fit give (MeansWithin n G) keeps_to g firing there level fitted.sound fitted.state c at) in
        let fitting : IsFit G (config_firing G g firing c place) = record {
          g = graph.0;
          here = graph.1;
          sound = knows.3;
          inputs = inputs_fit place exprs sets is;
          state = child_begins signatures G fit give (MeansWithin n G) keeps_to g firing there level fitted.sound fitted.state c at place (ConfigChild place exprs sets) is refl;
        } in
        subst (IsFit G) same fitting

  -- ---- nodes

  module _ (p : Prepared) (prepared_so : prepared_in g v ≡ Some p) where
    abbrev own_reads : ℕ → List (List ℤ)
    own_reads m = inputs (job laws signatures graphs range well fit give n firing v fitted sound p prepared_so) (vs laws signatures graphs range well fit give n firing v fitted sound p prepared_so) m

    abbrev own_values : List ℤ
    own_values = values laws signatures graphs range well fit give n firing v fitted sound p prepared_so

    module _ (m : ℕ) (ready : IsReady (job laws signatures graphs range well fit give n firing v fitted sound p prepared_so) (vs laws signatures graphs range well fit give n firing v fitted sound p prepared_so) m) (d : Firing) where
      body_fits : (b k : ℕ) (actor : Actor) (body : Body) → actor.body ≡ body → node_at (job laws signatures graphs range well fit give n firing v fitted sound p prepared_so).nodes m ≡ node.Firing b k → slice_get (acting g) b ≡ Some actor →
          firing_task G g firing own_values b k (own_reads m) actor body ≡ Some (Call d) → IsFit G d
      body_fits b k actor (Kernel kernel exprs ins outs) is at own task = absurd (cc)
      body_fits b k actor (Config kernel exprs ins outs sets) is at own task = absurd (cc)
      body_fits b k actor (ConfigChild place exprs sets) is at own task = absurd (cc)
      body_fits b k actor (Child place exprs) is at own task =
          let e = child_firing G firing actor.name k (tokens_at (level_args g own_values) b) (has_state G actor) place (input_count G actor.body) (own_reads m) in
          let same : e ≡ d = cc in
          let reading = reads laws signatures graphs range well fit give n firing v fitted sound p prepared_so m ready in
          let long = reads_long laws signatures graphs range well fit give n firing v fitted sound p prepared_so m b k at reading in
          let level = level_so laws signatures graphs range well fit give n firing v fitted sound p prepared_so in
          subst (IsFit G) same (child_is_fit signatures graphs range well fit give n firing g there own_values level.sound b k actor own (own_reads m) long place exprs is)

      actor_fits : (b k : ℕ) (o : Option Actor) → node_at (job laws signatures graphs range well fit give n firing v fitted sound p prepared_so).nodes m ≡ node.Firing b k → slice_get (acting g) b ≡ o → actor_task G g firing own_values b k (own_reads m) o ≡ Some (Call d) → IsFit G d
      actor_fits b k None at own task = absurd (cc)
      actor_fits b k (Some actor) at own task = body_fits b k actor actor.body refl at own task

      node_fits : (nd : Node) (lengths : List ℕ) → node_at (job laws signatures graphs range well fit give n firing v fitted sound p prepared_so).nodes m ≡ nd → node_task G g firing own_values nd (own_reads m) lengths ≡ Some (Call d) → IsFit G d
      node_fits (node.Source s) lengths at task = absurd (cc)
      node_fits (node.Init l) lengths at task = absurd (cc)
      node_fits (node.Firing b k) lengths at task = actor_fits b k (slice_get (acting g) b) at refl task
      node_fits (node.Broadcast l) lengths at task = absurd (cc)
      node_fits (node.Fork l i) lengths at task = absurd (cc)
      node_fits (node.Join l j) lengths at task = absurd (cc)
      node_fits (node.Round l) lengths at task = absurd (cc)
      node_fits (node.End l) lengths at task = absurd (cc)
      node_fits (node.Sink t) lengths at task = absurd (cc)

    ready_fits : (m : ℕ) (d : Firing) → node_rule G g firing v m (prepared_in g v) ≡ Some (Call d) → IsFit G d
    ready_fits m d rule =
        let so = rule_so laws signatures graphs range well fit give n firing v fitted sound p prepared_so m (Call d) rule in
        node_fits m so.0 d _ _ refl so.1

  -- ---- all items

  node_call_fits : (m : ℕ) (o : Option Prepared) → prepared_in g v ≡ o → (d : Firing) → node_rule G g firing v m (prepared_in g v) ≡ Some (Call d) → IsFit G d
  node_call_fits m None e d rule = absurd (let none : None ≡ Some (Call d) = sym (ap (node_rule G g firing v m) e) ∙ rule in cc)
  node_call_fits m (Some p) e d rule = ready_fits p e m d rule

  compile_call : (o : Option (List Configured)) (d : Firing) → compile_rule firing o ≡ Some (Call d) → IsFit G d
  compile_call None d is = absurd (cc)
  compile_call (Some left) d is = absurd (cc)

  calls_fit : (cs : List Configuration) → ((j : ℕ) (c : Configuration) → slice_get cs j ≡ Some c → Found g c) → (i : ℕ) (d : Firing) → rule_from G g firing v cs i ≡ Some (Call d) → IsFit G d
  calls_fit [] each zero d is = compile_call (left_in g v) d is
  calls_fit [] each (suc m) d is = node_call_fits m (prepared_in g v) refl d is
  calls_fit (c ∷ cs) each zero d is = config_fits c (each 0 c refl) c.body refl d is
  calls_fit (c ∷ cs) each (suc i) d is = calls_fit cs (λ j x at. each (suc j) x at) i d is

  pub called_fits : (i : ℕ) (d : Firing) → rule G firing v i ≡ Some (Call d) → IsFit G d
  called_fits i d is = calls_fit (configurations g) (λ j c at. (found g j c at).0) i d is
