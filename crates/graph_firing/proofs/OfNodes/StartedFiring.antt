-- A running firing at its start.
use denote.RawPtr.{null_ptr}
use Rattle.split_block.specs.View.{Block}
use Rattle.std.proofs.Common.{◌≡◌, ℕ, zero, suc, ◌+◌, ◌<◌, ◌≤◌, ⊎_elim, ℤ, Bool, true, false, List, [], ◌∷◌, ◌++◌, length, map, get_or, replicate, slice_get, Option, Some, None, Ok, Vec, Global, refl, sym, ap, ◌∙◌, subst, arith}
use Rattle.std.specs.Prelude.{is_none, if◌then◌else◌, slice_index}
use Rattle.std.proofs.Math.Seq.{get_or-append_seam}
use Rattle.std.proofs.lemmas.Bool.{cases_eq, cases_lt}
use Rattle.std.proofs.lemmas.List.{get_or-replicate, get_or_append_left, get_or_past, length-map, length-replicate, map-append}
use Rattle.std.proofs.lemmas.Option.{get_or_from_slice_get, slice_get_within}
use Rattle.kernel_gate.specs.Value.{lengths}
use Rattle.param_resolver.specs.LevelOf.{AreOneEach, level_faults, links_of, sources_of}
use Rattle.param_resolver.specs.Numbering.{acting}
use Rattle.param_resolver.specs.declared.level_set.LevelSet.{LevelSet}
use Rattle.job_compiler.specs.Compilation.{Compilation}
use Rattle.param_resolver.specs.Refusal as part
use Rattle.pisdf_model.specs.Valid.{AreValid}
use Rattle.pisdf_model.specs.declared.graph.Graph.{Graph}
use Rattle.pisdf_model.specs.declared.graph.Graphs.{Graphs}
use Rattle.pisdf_meaning.specs.Causes.{unless_refused}
use Rattle.pisdf_meaning.specs.Configuring.{early_in}
use Rattle.pisdf_meaning.specs.Preparing.{level_in}
use Rattle.pisdf_meaning.specs.Running.{chosen_rows, link_starts, source_tokens, value_at}
use Rattle.pisdf_meaning.specs.TopLevel.{IsLevelSet}
use Rattle.pisdf_meaning.specs.declared.outcome.TraceRow.{TraceRow}
use Rattle.pisdf_meaning.specs.declared.firing.Configured.{Configured}
use Rattle.pisdf_meaning.specs.declared.firing.Firing.{Firing}
use Rattle.pisdf_meaning.proofs.KeptSizes.{Levelled}
use Rattle.pisdf_meaning.proofs.MadeLevels.{levels_made}
use Rattle.pisdf_meaning.proofs.SoundGraphs.{levelled}
use Rattle.pisdf_meaning.proofs.StateSizes.{starts_fit, state_fits}
use Rattle.sdf_level.specs.Invariants.{IsLevel}
use Rattle.sdf_level.specs.LevelRun.{HaveDelays}
use Rattle.sdf_level.specs.Lists.{lists_of}
use Rattle.sdf_level.specs.Orders.{IsTurnOrder}
use Rattle.sdf_level.specs.Repetition.{IsRepetition}
use Rattle.sdf_level.specs.View.{LevelView}
use Rattle.sdf_level.specs.declared.node.Node.{Node}
use Rattle.single_rate.specs.Expanded.{edges, nodes}
use Rattle.job_flow.specs.Frames.{lens}
use Rattle.job_flow.specs.Graphs.{IsJobGraph, node_at}
use Rattle.job_rules.specs.Items.{actor_of, graph_of, keeps_state, no_graph}
use Rattle.one_job.specs.Pick.{is_child, is_child_in}
use Rattle.job_rules.specs.Meant.{IsFit}
use Rattle.nested_jobs.specs.Marks as mark
use Rattle.nested_jobs.specs.Marks.{Mark}
use Rattle.kernel_gate.specs.Value.{Places}
use Rattle.pisdf_model.specs.declared.actor.Actor.{Actor}
use Rattle.job_rules.specs.Words.{Answer}
use Rattle.one_job.specs.Marks as one
use Rattle.one_job.specs.View as leased
use Rattle.job_preparing.specs.CompileTasks.{IsReadyWith}
use Rattle.job_preparing.specs.View.{ConfiguringView, graph_in, left_by}
use Rattle.graph_firing.specs.Nodes.Starting.{AreJobLists, AreNoTraces, AreOwnParts, Starts, fixed_by, fixed_from}
use Rattle.graph_firing.specs.Nodes.Parts.{AreParts, Fixed, IsSetUp, KeepsAll, Stands, Start, call_count, fired, held_at, job_in, kind_of_actor, row_at, start_of, values_of}
use Rattle.job_preparing.specs.Handing.{LeftSuits}
use Rattle.graph_firing.specs.Nodes.Invariants.{view_with}
use Rattle.graph_firing.specs.Nodes.Stages.{lents_of, marks_of, stage_at, trace_in}
use Rattle.graph_firing.specs.Nodes.View.{nodes_of}
use Rattle.graph_firing.specs.declared.nodes.stage.Stage.{Stage}
use Rattle.graph_firing.specs.declared.nodes.frames.Held.{Held}
use Rattle.graph_firing.specs.declared.nodes.frames.Held.TheVariants.{Nothing}
use Rattle.graph_firing.specs.declared.nodes.stage.Stage.TheVariants.{Free}
use Rattle.graph_firing.specs.declared.nodes.starting.JobLists.{JobLists}
use Rattle.graph_firing.specs.declared.nodes.starting.OwnParts.{OwnParts}
use Rattle.graph_firing.specs.declared.nodes.starting.StartParts.{StartParts}
use Rattle.graph_firing.specs.declared.nodes.starting.Started.{Started}

-- ---- lists of one thing

pub any_replicate : {X : Type 0} (n i : ℕ) (x : X) → get_or (replicate n x) i x ≡ x
any_replicate n i x = ⊎_elim
    (λ (below : i < n). get_or-replicate n i x x below)
    (λ (past : n ≤ i). get_or_past (replicate n x) i x (let l = length-replicate n x in omega arith))
    (cases_lt i n)

-- lists of empty lists, of which there is one more
module _ (many : ℕ → ℕ) (rows : List (Vec (List TraceRow) Global)) (row : Vec (List TraceRow) Global) (n : ℕ) (long : length rows ≡ n) (row_is : row.items ≡ replicate (many n) []) (each : (a : ℕ) → a < n → row_at rows a ≡ replicate (many a) []) where
  lists_long : length (lists_of rows) ≡ n
  lists_long = length-map rows (λ (v : Vec (List TraceRow) Global). v.items) ∙ long

  lists_are : lists_of (rows ++ row ∷ []) ≡ lists_of rows ++ row.items ∷ []
  lists_are = map-append (λ (v : Vec (List TraceRow) Global). v.items) rows (row ∷ [])

  pub one_more_row : (a : ℕ) → a < n + 1 → row_at (rows ++ row ∷ []) a ≡ replicate (many a) []
  one_more_row a below = ap (λ l. get_or l a []) lists_are ∙ ⊎_elim
      (λ (last : a ≡ n). ap (λ i. get_or (lists_of rows ++ row.items ∷ []) i []) (last ∙ sym lists_long) ∙ get_or-append_seam (lists_of rows) row.items [] [] ∙ row_is ∙ ap (λ i. let none : List (List TraceRow) = replicate (many i) [] in none) (sym last))
      (λ (other : a ≡ n → ⊥). get_or_append_left (lists_of rows) (row.items ∷ []) [] a (let l = lists_long in omega arith) ∙ each a (omega arith))
      (cases_eq a n)

-- past the last actor there are none
pub all_rows : (kinds : List (Option ℕ)) (counts : List ℕ) (rows : List (Vec (List TraceRow) Global)) → length rows ≡ length counts → ((a : ℕ) → a < length counts → row_at rows a ≡ replicate (call_count kinds counts a) []) → (a : ℕ) → row_at rows a ≡ replicate (call_count kinds counts a) []
all_rows kinds counts rows long each a = ⊎_elim
    (λ (below : a < length counts). each a below)
    (λ (past : length counts ≤ a).
    let none : slice_index counts a ≡ 0 = get_or_past counts a 0 past in
    let never : call_count kinds counts a ≡ 0 = ap (λ (n : ℕ). if is_none (get_or kinds a None) then n else 0) none ∙ no_call (is_none (get_or kinds a None)) in
    get_or_past (lists_of rows) a [] (let l = length-map rows (λ (v : Vec (List TraceRow) Global). v.items) in omega arith) ∙ ap (λ (n : ℕ). let empty : List (List TraceRow) = replicate n [] in empty) (sym never))
    (cases_lt a (length counts))
  where
    no_call : (b : Bool) → (let n : ℕ = if b then 0 else 0 in n ≡ 0)
    no_call true = refl
    no_call false = refl

marks_free : (path : List ℕ) (own : List Actor) (nodes : List Node) → marks_of path own nodes (replicate (length nodes) Free) ≡ replicate (length nodes) mark.Free
marks_free path own [] = refl
marks_free path own (which ∷ nodes) = ap (λ (l : List (Mark Firing Answer)). mark.Free ∷ l) (marks_free path own nodes)

lents_free : (n : ℕ) → lents_of (replicate n Free) ≡ replicate n None
lents_free zero = refl
lents_free (suc n) = ap (λ (l : List (Option Places)). None ∷ l) (lents_free n)

-- a block, of no job
abbrev pub no_block : Block
no_block = record { ptr = null_ptr; len = 0; pooled = true }

-- ---- the graph that is fired

module _ (graphs : List Graph) (firing : Firing) (fit : IsFit graphs firing) (all : List Graph) (same : all ≡ graphs) (place : ℕ) (place_is : place ≡ firing.graph) where
  pub graph_inside : place < length all
  graph_inside = rw (place_is, same) (slice_get_within graphs firing.graph fit.g fit.here)

  pub graph_is : (x : Graph) → x ≡ get_or all place x → x ≡ graph_of graphs firing
  graph_is x is =
      is ∙ rw (place_is, same) (get_or_from_slice_get graphs firing.graph fit.g x fit.here ∙ sym (get_or_from_slice_get graphs firing.graph fit.g no_graph fit.here))

-- ---- what the job of leases is started with

-- the sources and links of the firing's level have these tokens
pub record AreGiven (graphs : List Graph) (firing : Firing) (left : List Configured) (sources stored : List (List ℤ)) : Type 0 where
  pub sources_are : sources ≡ source_tokens (graph_of graphs firing) firing left
  pub sources_long : lengths sources ≡ sources_of (graph_of graphs firing) (early_in graphs firing)
  pub stored_are : stored ≡ link_starts graphs (graph_of graphs firing) firing

-- as the code found them
pub lists_here : (v : ConfiguringView) (set : LevelSet) (lists : JobLists) (found : Firing) (all : List Graph) (x : Graph) (told : List Configured) → found ≡ v.firing → all ≡ v.graphs.graphs → x ≡ graph_in v →
    source_tokens (graph_in v) v.firing told ≡ source_tokens (graph_in v) v.firing (left_by v) →
    lengths (source_tokens (graph_in v) v.firing told) ≡ sources_of (graph_in v) (early_in v.graphs.graphs v.firing) →
    lists.kinds ≡ map kind_of_actor (acting x) → lists.args ≡ set.args → lists.sources ≡ source_tokens x found told → lists.stored ≡ link_starts all x found → AreJobLists v set lists
lists_here v set lists found all x told found_is all_is here same long kinds_are args_are sources_are stored_are =
    let there : lists.sources ≡ source_tokens (graph_in v) v.firing told = sources_are ∙ (λ k. source_tokens (here k) (found_is k) told) in
    record {
      kinds_are = kinds_are ∙ (λ k. map kind_of_actor (acting (here k)));
      args_are = args_are;
      sources_are = there ∙ same;
      sources_long = ap lengths there ∙ long;
      stored_are = stored_are ∙ (λ k. link_starts (all_is k) (here k) (found_is k));
    }

-- ---- what isn't refused

unrefused : (graphs : List Graph) (g : Graph) (path : List ℕ) (faults : List part.Refusal) (given values : List ℤ) → unless_refused graphs g path faults given ≡ Ok values → (faults ≡ []) × (given ≡ values)
unrefused graphs g path [] given values is = (refl, cc)
unrefused graphs g path (refusal ∷ rest) given values is = absurd (cc)

module _ (f : Fixed) (workers : ℕ) (values : List ℤ) (valid : AreValid f.graphs) (fit : IsFit f.graphs.graphs f.firing) (suits : LeftSuits f.graphs.graphs (fired f) f.firing f.left)
    (compiled : IsReadyWith f.graphs.graphs workers f.firing f.left f.compilation f.set values) where
  abbrev G : List Graph
  G = f.graphs.graphs

  abbrev g : Graph
  g = fired f

  pub here : slice_get G f.firing.graph ≡ Some g
  here = fit.here ∙ ap Some (sym (get_or_from_slice_get G f.firing.graph fit.g no_graph fit.here))

  pub values_are : values_of f ≡ values
  values_are = (unrefused G g f.firing.path _ (values_of f) values compiled.values_are).1

  rated_none : level_faults G g (values_of f) ≡ []
  rated_none = subst (λ (l : List ℤ). level_faults G g l ≡ []) (sym values_are) (unrefused G g f.firing.path (level_faults G g values) values values compiled.rated_so).0

  pub set_is : IsLevelSet G g f.firing (values_of f) f.set
  set_is = subst (λ (l : List ℤ). IsLevelSet G g f.firing l f.set) (sym values_are) compiled.set_is

  pub level_is : f.compilation.level ≡ level_in G g f.firing (values_of f)
  level_is = compiled.level_is ∙ set_is.level

  level : Levelled G f.firing.graph g
  level = levelled f.graphs valid.well_formed f.firing.graph g here (levels_made f.graphs valid.in_range valid.well_formed)

  pub delays_fit : HaveDelays (links_of G g (values_of f)) (link_starts G g f.firing)
  delays_fit = starts_fit G g (values_of f) f.firing.state (state_fits G g f.firing.state (fit.state ∙ ap lengths level.begins))

  -- ---- what is seen

  nodes_here : f.compilation.graph.nodes ≡ (job_in f).nodes
  nodes_here = compiled.compiled.expanded.nodes_are ∙ ap (λ (l : LevelView). nodes l f.compilation.counts f.compilation.order) level_is

  pub marks_start : (stages : List Stage) → stages ≡ replicate (length f.compilation.graph.nodes) Free → (view_with f stages).marks ≡ replicate (length (nodes_of (view_with f stages))) mark.Free
  marks_start stages are =
      ap (λ (l : List Stage). marks_of f.firing.path (acting (fired f)) (job_in f).nodes l) (are ∙ ap (λ (l : List Node). replicate (length l) Free) nodes_here) ∙ marks_free f.firing.path (acting (fired f)) (job_in f).nodes

  pub lents_start : (stages : List Stage) → stages ≡ replicate (length f.compilation.graph.nodes) Free → (view_with f stages).lent ≡ replicate (length (nodes_of (view_with f stages))) None
  lents_start stages are = ap lents_of (are ∙ ap (λ (l : List Node). replicate (length l) Free) nodes_here) ∙ lents_free (length (job_in f).nodes)

  module _ (sources stored : List (List ℤ)) (given : AreGiven G f.firing f.left sources stored) where
    edges_same : f.compilation.graph.edges ≡ (job_in f).edges
    edges_same = compiled.compiled.expanded.edges_are ∙ ap (λ (l : LevelView). edges l f.compilation.counts f.compilation.order) level_is

    graph_same : leased.job_graph f.compilation sources stored ≡ job_in f
    graph_same = λ k. record { level = level_is k; nodes = nodes_here k; edges = edges_same k; sources = given.sources_are k; delays = given.stored_are k }

    is_job : IsJobGraph f.compilation.counts f.compilation.order (job_in f)
    is_job = record {
      level_kept = subst IsLevel level_is compiled.compiled.level_kept;
      repetition = subst (λ (l : LevelView). IsRepetition l f.compilation.counts) level_is compiled.compiled.repetition;
      order = subst (λ (l : LevelView). IsTurnOrder l f.compilation.counts f.compilation.order) level_is compiled.compiled.order_is;
      nodes_are = refl;
      edges_are = refl;
      sources_fit = ap lengths (sym given.sources_are) ∙ given.sources_long;
      delays_fit = delays_fit;
    }

    pub sources_asked : map length sources ≡ f.compilation.level.sources
    sources_asked = given.sources_long ∙ ap (λ (l : LevelView). l.sources) (sym level_is)

    pub stored_asked : HaveDelays f.compilation.level.links stored
    stored_asked = subst (HaveDelays f.compilation.level.links) (sym given.stored_are) (subst (λ (l : LevelView). HaveDelays l.links (link_starts G g f.firing)) (sym level_is) delays_fit)

    module _ (kinds : List (Option ℕ)) (args : List (List ℤ)) (kinds_are : kinds ≡ map kind_of_actor (acting g)) (args_are : args ≡ f.set.args) where
      pub kinds_asked : length kinds ≡ f.compilation.level.actors
      kinds_asked = ap length kinds_are ∙ length-map (acting g) kind_of_actor ∙ ap (λ (l : LevelView). l.actors) (sym level_is)

      pub args_asked : AreOneEach G g (values_of f) → length args ≡ f.compilation.level.actors
      args_asked each = ap length (args_are ∙ set_is.args) ∙ each.args ∙ ap (λ (l : LevelView). l.actors) (sym level_is)

      pub set_up : IsSetUp f record { compilation = f.compilation; kinds = kinds; args = args; sources = sources; stored = stored; block = f.block }
      set_up = record {
        valid = valid;
        fit = fit;
        suits = suits;
        rated = rated_none;
        compiled = compiled.compiled;
        compilation_is = refl;
        block_is = refl;
        graph_is = graph_same;
        is_job = is_job;
        kinds = kinds_are;
        args = args_are ∙ set_is.args;
      }

      -- all nodes are free
      pub keeps_at_start : (j : leased.JobView) → start_of j ≡ record { compilation = f.compilation; kinds = kinds; args = args; sources = sources; stored = stored; block = f.block } → j.kinds ≡ kinds → j.marks ≡ replicate (length f.compilation.graph.nodes) one.Free → (stages : List Stage) → stages ≡ replicate (length f.compilation.graph.nodes) Free →
          (held : List Held) → held ≡ replicate (length held) Nothing → length held ≤ length j.compilation.graph.nodes → ((n : ℕ) → n < length j.compilation.graph.nodes → is_child j n ≡ true → n < length held) → (rows : List (Vec (List TraceRow) Global)) → length rows ≡ length f.compilation.counts → ((a : ℕ) → row_at rows a ≡ replicate (call_count j.kinds f.compilation.counts a) []) → AreParts f →
          KeepsAll f stages held rows j
      keeps_at_start j started j_kinds marks_are stages stages_are held held_are few room rows many row_is parts = record {
        set_up = subst (IsSetUp f) (sym started) set_up;
        stand = record {
          one_stage = ap length stages_are ∙ length-replicate (length f.compilation.graph.nodes) Free ∙ ap length nodes_here;
          one_mark = ap length marks_are ∙ length-replicate (length f.compilation.graph.nodes) one.Free ∙ ap length nodes_here;
          few_held = subst (λ (l : List Node). length held ≤ length l) nodes_are few;
          has_room = subst (λ (l : List Node). (n : ℕ) → n < length l → is_child_in j.kinds (node_at l n) ≡ true → n < length held) nodes_are room;
          each = λ n below.
              let P : Stage → Type 0 = λ s. Stands G (lens (job_in f) n) (keeps_state G (actor_of g (node_at (job_in f).nodes n))) (is_child_in j.kinds (node_at (job_in f).nodes n)) (leased.IsFiring (node_at (job_in f).nodes n)) s (one.mark_at j.marks n) (held_at held n) in
              subst P (sym (ap (λ l. stage_at l n) stages_are ∙ any_replicate (length f.compilation.graph.nodes) n Free)) record {
                mark_is = ap (λ l. one.mark_at l n) marks_are ∙ any_replicate (length f.compilation.graph.nodes) n one.Free;
                held = ap (λ l. held_at l n) held_are ∙ any_replicate (length held) n Nothing;
                sort = tt;
                sizes = tt;
              };
          ready = λ n claimed. absurd (claimed (ap (λ l. one.mark_at l n) marks_are ∙ any_replicate (length f.compilation.graph.nodes) n one.Free));
        };
        traces = record {
          one_each = length-map rows (λ (v : Vec (List TraceRow) Global). v.items) ∙ many;
          many = λ a. ap length (row_is a) ∙ length-replicate (call_count j.kinds f.compilation.counts a) [];
          each = λ n a k below is. ap (λ l. get_or l k []) (row_is a) ∙ any_replicate (call_count j.kinds f.compilation.counts a) k [] ∙ sym (ap (λ l. trace_in (stage_at l n)) stages_are ∙ ap trace_in (any_replicate (length f.compilation.graph.nodes) n Free));
        };
        parts = parts;
      }
        where
          nodes_are : j.compilation.graph.nodes ≡ (job_in f).nodes
          nodes_are = ap (λ (s : Start). s.compilation.graph.nodes) started ∙ nodes_here

-- ---- a firing that is set up so

-- what the job of leases was started with, and where its nodes are
pub record IsStarted (c : Compilation) (lists : JobLists) (s : Started) : Type 0 where
  pub compilation : s.job.compilation ≡ c
  pub kinds : s.job.kinds ≡ lists.kinds
  pub args : s.job.args ≡ lists.args
  pub sources : s.job.sources ≡ lists.sources
  pub stored : s.job.stored ≡ lists.stored
  pub free : s.job.marks ≡ replicate (length c.graph.nodes) one.Free
  pub nothing : s.held.items ≡ replicate (length s.held.items) Nothing
  pub few : length s.held.items ≤ length s.job.compilation.graph.nodes
  pub room : (n : ℕ) → n < length s.job.compilation.graph.nodes → is_child s.job n ≡ true → n < length s.held.items
  pub stages : s.stages ≡ replicate (length c.graph.nodes) Free

module _ (v : ConfiguringView) (c : Compilation) (set : LevelSet) (values : List ℤ) (valid : AreValid v.graphs) (fit : IsFit v.graphs.graphs v.firing) (suits : LeftSuits v.graphs.graphs (graph_in v) v.firing (left_by v))
    (compiled : IsReadyWith v.graphs.graphs c.workers v.firing (left_by v) c set values) (own : OwnParts) (lists : JobLists) (lists_are : AreJobLists v set lists) where
  given : AreGiven v.graphs.graphs v.firing (left_by v) lists.sources lists.stored
  given = record { sources_are = lists_are.sources_are; sources_long = lists_are.sources_long; stored_are = lists_are.stored_are }

  -- before there is a job
  abbrev before : Fixed
  before = fixed_from v.graphs v.firing (left_by v) v.firing.graph c set own no_block one.nowhere.room

  pub kinds_fit : length lists.kinds ≡ c.level.actors
  kinds_fit = kinds_asked before c.workers values valid fit suits compiled lists.sources lists.stored given lists.kinds lists.args lists_are.kinds_are lists_are.args_are

  pub args_fit : ((of_all : List ℤ) → AreOneEach v.graphs.graphs (graph_in v) of_all) → length lists.args ≡ c.level.actors
  args_fit each = args_asked before c.workers values valid fit suits compiled lists.sources lists.stored given lists.kinds lists.args lists_are.kinds_are lists_are.args_are (each (values_of before))

  pub sources_fit : map length lists.sources ≡ c.level.sources
  sources_fit = sources_asked before c.workers values valid fit suits compiled lists.sources lists.stored given

  pub stored_fit : HaveDelays c.level.links lists.stored
  stored_fit = stored_asked before c.workers values valid fit suits compiled lists.sources lists.stored given

  module _ (own_are : AreOwnParts v.graphs.graphs (graph_in v) v.firing.path values own) (rows_are : AreNoTraces lists.kinds c.counts own.ending.traces.items) (s : Started) (started : IsStarted c lists s) where
    abbrev parts : StartParts
    parts = record { own = own; started = s }

    abbrev f : Fixed
    f = fixed_by v c set parts

    values_here : values ≡ values_of f
    values_here = sym (values_are f c.workers values valid fit suits compiled)

    own_parts : AreParts f
    own_parts = record {
      place_is = refl;
      path_is = own_are.path_is;
      set_is = set_is f c.workers values valid fit suits compiled;
      keeps_are = own_are.keeps_are;
      names_are = own_are.names_are;
      rows_are = own_are.rows_are ∙ ap (λ (l : List ℤ). chosen_rows v.firing.path l 0 (graph_in v).params) values_here;
      exports_are = own_are.exports_are ∙ ap (λ (l : List ℤ). map (value_at l) (graph_in v).exports) values_here;
      empty = own_are.empty;
      none = own_are.none;
      room = own_are.room;
    }

    start_is : start_of s.job ≡ record { compilation = c; kinds = lists.kinds; args = lists.args; sources = lists.sources; stored = lists.stored; block = s.job.block }
    start_is = λ k. record { compilation = started.compilation k; kinds = started.kinds k; args = started.args k; sources = started.sources k; stored = started.stored k; block = s.job.block }

    traces_are : (a : ℕ) → row_at own.ending.traces.items a ≡ replicate (call_count s.job.kinds c.counts a) []
    traces_are a = rows_are.each a ∙ ap (λ (kinds : List (Option ℕ)). let none : List (List TraceRow) = replicate (call_count kinds c.counts a) [] in none) (sym started.kinds)

    pub starts : Starts f parts
    starts = record {
      keeps = keeps_at_start f c.workers values valid fit suits compiled lists.sources lists.stored given lists.kinds lists.args lists_are.kinds_are lists_are.args_are s.job start_is started.kinds started.free s.stages started.stages
          s.held.items started.nothing started.few started.room own.ending.traces.items rows_are.one_each traces_are own_parts;
      free = marks_start f c.workers values valid fit suits compiled s.stages started.stages;
      nothing = lents_start f c.workers values valid fit suits compiled s.stages started.stages;
    }

-- the same as it is found
pub starts_so : (v : ConfiguringView) (c : Compilation) (set : LevelSet) (parts : StartParts) (graphs : Graphs) (firing : Firing) (left : List Configured) (place : ℕ) → graphs ≡ v.graphs → firing ≡ v.firing → left ≡ left_by v → place ≡ v.firing.graph →
    Starts (fixed_by v c set parts) parts → Starts (fixed_from graphs firing left place c set parts.own parts.started.job.block parts.started.job.room) parts
starts_so v c set parts graphs firing left place graphs_are firing_is left_is place_is =
    let same : fixed_by v c set parts ≡ fixed_from graphs firing left place c set parts.own parts.started.job.block parts.started.job.room = λ k. fixed_from (sym graphs_are k) (sym firing_is k) (sym left_is k) (sym place_is k) c set parts.own parts.started.job.block parts.started.job.room in
    subst (λ (f : Fixed). Starts f parts) same
