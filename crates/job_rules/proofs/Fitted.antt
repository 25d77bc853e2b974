-- Kernels are asked what fits their signatures, and firings that are called have a value for each inherited parameter.
use Rattle.std.proofs.Common.{◌≡◌, ℕ, zero, suc, ◌+◌, ◌&&◌, nat_lt, ℤ, List, [], ◌∷◌, length, slice_get, Option, Some, None, if◌then◌else◌, refl, sym, ap, ◌∙◌, subst, arith, length-append}
use Rattle.std.specs.List.{range_with_len}
use Rattle.std.proofs.lemmas.List.{length-map}
use Rattle.std.proofs.lemmas.Option.{get_or_from_slice_get, slice_get_within}
use Rattle.kernel_gate.specs.Signed.{Counts}
use Rattle.param_resolver.specs.LevelOf.{level_args, links_of, out_rates}
use Rattle.param_resolver.specs.Numbering.{acting, has_state, state_size}
use Rattle.pisdf_model.specs.Parts.{input_count}
use Rattle.pisdf_model.specs.Range.{InRange}
use Rattle.pisdf_model.specs.WellFormed.{WellFormed}
use Rattle.pisdf_model.specs.declared.actor.Actor.{Actor}
use Rattle.pisdf_model.specs.declared.actor.Body.{Body}
use Rattle.pisdf_model.specs.declared.actor.Body.TheVariants.{Kernel, Config, Child, ConfigChild}
use Rattle.pisdf_model.specs.declared.graph.Graph.{Graph}
use Rattle.pisdf_model.specs.declared.graph.Graphs.{Graphs}
use Rattle.sdf_level.specs.Invariants.{how_many}
use Rattle.sdf_level.specs.Run.{is_into_actor}
use Rattle.sdf_level.specs.declared.node.Node.{Node}
use Rattle.sdf_level.specs.declared.node.Node.TheVariants as node
use Rattle.sdf_level.specs.declared.single_rate.Edge.{Edge}
use Rattle.pisdf_meaning.specs.Configuring.{Configuration, config_args, config_firing, config_rates, configurations, early_in, fed_to}
use Rattle.pisdf_meaning.specs.Kernels.{FitsKernel}
use Rattle.pisdf_meaning.specs.Sound.{AllFit, BodyFits, GraphFits, KnowsBody, actor_at, no_actor}
use Rattle.pisdf_meaning.specs.Running.{child_firing}
use Rattle.pisdf_meaning.specs.States.{tokens_at}
use Rattle.pisdf_meaning.specs.declared.firing.Configured.{Configured}
use Rattle.pisdf_meaning.specs.declared.firing.Firing.{Firing}
use Rattle.pisdf_meaning.specs.declared.refusal.Refusal.{Refusal}
use Rattle.pisdf_meaning.proofs.KeptSizes.{Levelled, args_at, body_args}
use Rattle.pisdf_meaning.proofs.LinkSizes.{placed}
use Rattle.pisdf_meaning.proofs.MadeLevels.{levels_made}
use Rattle.pisdf_meaning.proofs.SoundGraphs.{levelled}
use Rattle.nested_jobs.specs.Rules.{Task, Work, Call, Values}
use Rattle.job_flow.specs.Frames as flow
use Rattle.job_flow.specs.Frames.{arriving, arriving_below, inputs, lens}
use Rattle.job_flow.specs.Graphs.{node_at}
use Rattle.job_rules.specs.Words.{Answer, Asked, Compiles, Fires, Spot}
use Rattle.job_rules.specs.Words as words
use Rattle.job_rules.specs.Fitting.{FitsAsked, InheritsAll}
use Rattle.job_rules.specs.Items.{Prepared, actor_task, compile_rule, config_task, edges_in, firing_task, graph_of, is_ready_by, job_graph, left_in, no_graph, node_rule, node_task, node_values, nodes_in, prepared_in, rule, rule_from, values_in}
use Rattle.job_rules.specs.Meant.{IsFit}
use Rattle.job_rules.proofs.Parts.{passed}
use Rattle.job_rules.proofs.Sources.{Found, found}

-- the same counts, told otherwise
fits_so : (signatures : List Counts) (kernel a b i j o p s : ℕ) → FitsKernel signatures kernel b j p s → a ≡ b → i ≡ j → o ≡ p → FitsKernel signatures kernel a i o s
fits_so signatures kernel a b i j o p s fit args ins outs = rw (args, ins, outs) fit

length-range : (k m : ℕ) → length (range_with_len k m) ≡ m
length-range k zero = refl
length-range k (suc m) = let rest = length-range (k + 1) m in omega arith

length-arriving : {T : Type 0} (edges : List Edge) (tokens : List (List T)) (n m : ℕ) → length (arriving_below edges tokens n m) ≡ m
length-arriving edges tokens n zero = refl
length-arriving edges tokens n (suc m) =
    let both = length-append (arriving_below edges tokens n m) (arriving edges tokens n m ∷ []) in
    let rest = length-arriving edges tokens n m in
    omega arith

-- a kernel is asked what fits, and a firing that is called has what it inherits
abbrev TaskFits : List Counts → List Graph → Task Firing words.Work → Type 0
TaskFits signatures graphs (Work (Fires spot asked)) = FitsAsked signatures asked
TaskFits signatures graphs (Work (words.Copies node read lens)) = Unit {0}
TaskFits signatures graphs (Work (Compiles firing left)) = Unit {0}
TaskFits signatures graphs (Call d) = InheritsAll graphs d

some_fits : (signatures : List Counts) (graphs : List Graph) (own t : Task Firing words.Work) → Some own ≡ Some t → TaskFits signatures graphs own → TaskFits signatures graphs t
some_fits signatures graphs own t is fits = let same : own ≡ t = cc in subst (TaskFits signatures graphs) same fits

module _ (signatures : List Counts) (graphs : Graphs) (range : InRange graphs) (well : WellFormed graphs) (fit : AllFit signatures graphs.graphs) (firing : Firing) (fitted : IsFit graphs.graphs firing) (v : Values Answer) (t : Task Firing words.Work) where
  abbrev G : List Graph
  G = graphs.graphs

  abbrev g : Graph
  g = graph_of G firing

  abbrev Fit : Type 0
  Fit = TaskFits signatures G t

  here : slice_get G firing.graph ≡ Some g
  here = fitted.here ∙ ap Some (sym (get_or_from_slice_get G firing.graph fitted.g no_graph fitted.here))

  graph_fits : GraphFits signatures G g
  graph_fits = let P : Graph → Type 0 = λ x. GraphFits signatures G x in subst P (get_or_from_slice_get G firing.graph g g here) (fit.fit firing.graph g (slice_get_within G firing.graph g here))

  body_fits : (a : ℕ) (x : Actor) → slice_get g.actors a ≡ Some x → BodyFits signatures G x.body
  body_fits a x there = let P : Actor → Type 0 = λ y. BodyFits signatures G y.body in subst P (get_or_from_slice_get g.actors a x x there) (graph_fits.fit a x (slice_get_within g.actors a x there))

  -- ---- configuration actors

  module _ (c : Configuration) (at : Found g c) where
    knows : KnowsBody G (early_in G firing) c.number c.body
    knows =
        let own : actor_at g c.place ≡ record { name = c.name; body = c.body } = get_or_from_slice_get g.actors c.place record { name = c.name; body = c.body } no_actor at.there in
        let P : Actor → Type 0 = λ y. KnowsBody G (early_in G firing) c.number y.body in
        subst P own ((fit.know firing.graph g firing.inherited here fitted.sound).each c.number c.place at.is)

    config_fits : (body : Body) → c.body ≡ body → config_task G g firing c body ≡ Some t → Fit
    config_fits (Kernel kernel exprs ins outs) is e = absurd (cc)
    config_fits (Child place exprs) is e = absurd (cc)
    config_fits (ConfigChild place exprs sets) is e =
        let K : Body → Type 0 = λ b. KnowsBody G (early_in G firing) c.number b in
        let F : Body → Type 0 = λ b. BodyFits signatures G b in
        let known = subst K is knows in
        let fitting = subst F is (body_fits c.place record { name = c.name; body = c.body } at.there) in
        some_fits signatures G (Call (config_firing G g firing c place)) t e (known.0 ∙ fitting)
    config_fits (Config kernel exprs ins outs sets) is e =
        let own : Asked = record { kind = kernel; args = config_args G firing c.number; inputs = fed_to g firing.inputs c.place (length ins); lens = config_rates G firing c.number; sets = length sets } in
        let K : Body → Type 0 = λ b. KnowsBody G (early_in G firing) c.number b in
        let F : Body → Type 0 = λ b. BodyFits signatures G b in
        let known = subst K is knows in
        let fitting = subst F is (body_fits c.place record { name = c.name; body = c.body } at.there) in
        let fed : length (fed_to g firing.inputs c.place (length ins)) ≡ length ins = length-map (range_with_len 0 (length ins)) _ ∙ length-range 0 (length ins) in
        some_fits signatures G (Work (Fires record { path = firing.path; name = c.name; turn = 0 } own)) t e (fits_so signatures kernel _ _ _ _ _ _ (length sets) fitting.0 known.0 fed known.1)

  -- ---- nodes

  module _ (values : List ℤ) (b k : ℕ) (read : List (List ℤ)) (many : length read ≡ how_many (is_into_actor b) (links_of G g values)) where
    firing_fits : (actor : Actor) → slice_get (acting g) b ≡ Some actor → (body : Body) → actor.body ≡ body → firing_task G g firing values b k read actor body ≡ Some t → Fit
    firing_fits actor there (Child place exprs) is e =
        let at = placed g.actors b actor there in
        let F : Body → Type 0 = λ x. BodyFits signatures G x in
        let fitting : BodyFits signatures G (Child place exprs) = subst F is (body_fits at.place actor at.is) in
        let args : length (tokens_at (level_args g values) b) ≡ length exprs = ap (λ (l : List ℤ). length l) (args_at values g.actors b actor there ∙ ap (body_args values) is) ∙ length-map exprs _ in
        some_fits signatures G (Call (child_firing G firing actor.name k (tokens_at (level_args g values) b) (has_state G actor) place (input_count G actor.body) read)) t e (args ∙ fitting)
    firing_fits actor there (Config kernel exprs ins outs sets) is e = absurd (cc)
    firing_fits actor there (ConfigChild place exprs sets) is e = absurd (cc)
    firing_fits actor there (Kernel kernel exprs ins outs) is e =
        let own : Asked = record { kind = kernel; args = tokens_at (level_args g values) b; inputs = read; lens = out_rates G values actor.body; sets = 0 } in
        let at = placed g.actors b actor there in
        let F : Body → Type 0 = λ b. BodyFits signatures G b in
        let fitting : BodyFits signatures G (Kernel kernel exprs ins outs) = subst F is (body_fits at.place actor at.is) in
        let level : Levelled G firing.graph g = levelled graphs well firing.graph g here (levels_made graphs range well) in
        let args : length (tokens_at (level_args g values) b) ≡ length exprs = ap (λ (l : List ℤ). length l) (args_at values g.actors b actor there ∙ ap (body_args values) is) ∙ length-map exprs _ in
        let counted : length read ≡ input_count G actor.body + (if has_state G actor then 1 else 0) = many ∙ level.makes.inputs values b actor there in
        let plain : input_count G actor.body + (if has_state G actor then 1 else 0) ≡ length ins + 0 = ap (λ (x : Body). input_count G x + (if nat_lt 0 (state_size G x) then 1 else 0)) is ∙ ap (λ n. n + 0) (length-map ins _) in
        let read_is : length read ≡ length ins = omega arith in
        let outs_are : length (out_rates G values actor.body) ≡ length outs = ap (λ (x : Body). length (out_rates G values x)) is ∙ length-map outs _ in
        some_fits signatures G (Work (Fires record { path = firing.path; name = actor.name; turn = k } own)) t e (fits_so signatures kernel _ _ _ _ _ _ 0 fitting args read_is outs_are)

    actor_fits : (o : Option Actor) → slice_get (acting g) b ≡ o → actor_task G g firing values b k read o ≡ Some t → Fit
    actor_fits None there e = absurd (cc)
    actor_fits (Some actor) there e = firing_fits actor there actor.body refl e

  module _ (p : Prepared) (m : ℕ) where
    abbrev vs : flow.Values ℤ Refusal
    vs = node_values G g firing p v

    abbrev reads : Node → List (List ℤ)
    reads nd = flow.reads (job_graph G g firing p) vs nd m

    node_fits : (nd : Node) (lengths : List ℕ) → node_task G g firing (values_in g firing p) nd (reads nd) lengths ≡ Some t → Fit
    node_fits (node.Source s) lengths e = some_fits signatures G (Work (words.Copies (node.Source s) (reads (node.Source s)) lengths)) t e tt
    node_fits (node.Init l) lengths e = some_fits signatures G (Work (words.Copies (node.Init l) (reads (node.Init l)) lengths)) t e tt
    node_fits (node.Firing b k) lengths e = actor_fits (values_in g firing p) b k (reads (node.Firing b k)) (length-arriving (edges_in G g firing p) _ m _) (slice_get (acting g) b) refl e
    node_fits (node.Broadcast l) lengths e = some_fits signatures G (Work (words.Copies (node.Broadcast l) (reads (node.Broadcast l)) lengths)) t e tt
    node_fits (node.Fork l i) lengths e = some_fits signatures G (Work (words.Copies (node.Fork l i) (reads (node.Fork l i)) lengths)) t e tt
    node_fits (node.Join l j) lengths e = some_fits signatures G (Work (words.Copies (node.Join l j) (reads (node.Join l j)) lengths)) t e tt
    node_fits (node.Round l) lengths e = some_fits signatures G (Work (words.Copies (node.Round l) (reads (node.Round l)) lengths)) t e tt
    node_fits (node.End l) lengths e = some_fits signatures G (Work (words.Copies (node.End l) (reads (node.End l)) lengths)) t e tt
    node_fits (node.Sink x) lengths e = some_fits signatures G (Work (words.Copies (node.Sink x) (reads (node.Sink x)) lengths)) t e tt

    ready_fits : node_rule G g firing v m (Some p) ≡ Some t → Fit
    ready_fits e =
        let nd = node_at (nodes_in G g firing p) m in
        let parts = passed (nat_lt m (length (nodes_in G g firing p)) && is_ready_by (edges_in G g firing p) vs m) (node_task G g firing (values_in g firing p) nd (reads nd) (lens (job_graph G g firing p) m)) t e in
        node_fits nd (lens (job_graph G g firing p) m) parts.is

  -- ---- all items

  after_fits : (m : ℕ) (o : Option Prepared) → node_rule G g firing v m o ≡ Some t → Fit
  after_fits m None e = absurd (cc)
  after_fits m (Some p) e = ready_fits p m e

  compile_no : (o : Option (List Configured)) → compile_rule firing o ≡ Some t → Fit
  compile_no None e = absurd (cc)
  compile_no (Some left) e = some_fits signatures G (Work (Compiles firing left)) t e tt

  fit_from : (cs : List Configuration) → ((j : ℕ) (c : Configuration) → slice_get cs j ≡ Some c → Found g c) → (i : ℕ) → rule_from G g firing v cs i ≡ Some t → Fit
  fit_from [] each zero e = compile_no (left_in g v) e
  fit_from [] each (suc m) e = after_fits m (prepared_in g v) e
  fit_from (c ∷ cs) each zero e = config_fits c (each 0 c refl) c.body refl e
  fit_from (c ∷ cs) each (suc i) e = fit_from cs (λ j x at. each (suc j) x at) i e

  pub task_fits : (i : ℕ) → rule G firing v i ≡ Some t → Fit
  task_fits i e = fit_from (configurations g) (λ j c at. (found g j c at).0) i e
