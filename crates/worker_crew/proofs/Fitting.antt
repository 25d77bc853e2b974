-- The work that a worker runs fits its kernel or its node.
use Rattle.std.proofs.Common.{◌≡◌, ◌≢◌, ℕ, zero, suc, ◌+◌, ◌<◌, ◌≤◌, ◌^◌, ◌==◌, Bool, true, false, cond, ℤ, Option, Some, None, List, [], ◌∷◌, ◌++◌, length, slice_get, refl, sym, ap, ◌∙◌, subst, arith, length-append}
use Rattle.std.proofs.lemmas.List.{length-map}
use Rattle.kernel_gate.specs.Value.{lengths}
use Rattle.special_actors.specs.Fitting.{HasLengths}
use Rattle.sdf_level.specs.Invariants.{IsLevel}
use Rattle.sdf_level.specs.Limits.{IsWithinLimits}
use Rattle.sdf_level.specs.Repetition.{IsRepetition}
use Rattle.sdf_level.specs.Laws.{Suffices}
use Rattle.sdf_level.specs.View.{LevelView}
use Rattle.sdf_level.specs.declared.node.Node.{Node}
use Rattle.sdf_level.specs.declared.node.Node.TheVariants as node
use Rattle.sdf_level.specs.declared.single_rate.Edge.{Edge}
use Rattle.sdf_level.specs.declared.turn.Turn.{Turn}
use Rattle.single_rate.specs.Expanded.{edges, nodes}
use Rattle.single_rate.specs.Nodes.{kind}
use Rattle.single_rate.specs.Wires.{wires}
use Rattle.single_rate.proofs.Sizes.{edges-fewer, edges-space, wires-some}
use Rattle.param_resolver.specs.Numbering.{acting}
use Rattle.pisdf_model.specs.declared.actor.Actor.{Actor}
use Rattle.pisdf_model.specs.declared.actor.Body.{Body}
use Rattle.pisdf_model.specs.declared.actor.Body.TheVariants.{Kernel, Config, Child, ConfigChild}
use Rattle.pisdf_model.specs.declared.graph.Graph.{Graph}
use Rattle.pisdf_meaning.specs.Configuring.{Configuration, configurations}
use Rattle.pisdf_meaning.specs.declared.firing.Configured.{Configured}
use Rattle.pisdf_meaning.specs.declared.firing.Firing.{Firing}
use Rattle.nested_jobs.specs.Rules.{Task, Values, Work}
use Rattle.nested_jobs.specs.Marks.{values}
use Rattle.job_flow.specs.Frames.{arriving_size, edges_into, in_lens, inputs, lens, lengths_read, lengths_written, sizes_below, sizes_out}
use Rattle.job_flow.specs.Graphs.{JobGraph, node_at}
use Rattle.job_flow.specs.Laws.{FramesFit}
use Rattle.job_rules.proofs.Answered.{answered, is_job, level_so, rule_so}
use Rattle.job_rules.specs.Fitting.{TasksFit}
use Rattle.job_rules.specs.Items.{Prepared, actor_task, compile_rule, config_task, firing_task, graph_of, job_graph, left_in, node_rule, node_task, node_values, prepared_in, rule_from, values_in}
use Rattle.job_rules.specs.Words as words
use Rattle.job_rules.specs.Words.{Answer}
use Rattle.board_rules.specs.Entries.{BoardState, Step}
use Rattle.board_rules.specs.Keys.{IsKey, Key}
use Rattle.board_rules.specs.Legal.{AreLegal, state_after}
use Rattle.board_rules.proofs.Known.{BoardLaws, known}
use Rattle.firing_board.specs.Runs.{RunsWork}
use Rattle.worker_crew.specs.Laws.{IsFitWork}
use Rattle.worker_crew.proofs.Compiling.{OfJob, open_job_of}

-- ---- how many ports

long_below : (es : List Edge) (n m : ℕ) → length (sizes_below es n m) ≡ m
long_below es n zero = refl
long_below es n (suc m) = let l = length-append (sizes_below es n m) (arriving_size es n m ∷ []) in let rest = long_below es n m in omega arith

one_more : (b : Bool) (m n : ℕ) → m ≤ n → cond b 1 0 + m ≤ suc n
one_more true m n le = omega arith
one_more false m n le = omega arith

into_fewer : (es : List Edge) (n : ℕ) → edges_into es n ≤ length es
into_fewer [] n = omega arith
into_fewer (e ∷ es) n = one_more (e.head == n) (edges_into es n) (length es) (into_fewer es n)

one_longer : (b : Bool) (x : ℕ) (xs : List ℕ) (n : ℕ) → length xs ≤ n → length (cond b (x ∷ []) [] ++ xs) ≤ suc n
one_longer true x xs n le = omega arith
one_longer false x xs n le = omega arith

out_fewer : (es : List Edge) (n : ℕ) → length (sizes_out es n) ≤ length es
out_fewer [] n = omega arith
out_fewer (e ∷ es) n = one_longer (e.tail == n) e.size (sizes_out es n) (length es) (out_fewer es n)

module _ (job : JobGraph ℤ) (few : length job.edges < 2 ^ 32) (n : ℕ) where
  few_read : (nd : Node) → kind nd ≢ 2 → length (lengths_read job nd n) < 2 ^ 32
  few_read (node.Source s) ne = omega arith
  few_read (node.Init l) ne = omega arith
  few_read (node.Firing a k) ne = absurd (ne refl)
  few_read (node.End l) ne = let l = long_below job.edges n 1 in omega arith
  few_read (node.Sink t) ne = let l = long_below job.edges n 1 in omega arith
  few_read (node.Broadcast l) ne = let l = long_below job.edges n 1 in omega arith
  few_read (node.Fork l i) ne = let l = long_below job.edges n 1 in omega arith
  few_read (node.Join l j) ne = let l = long_below job.edges n (edges_into job.edges n) in let f = into_fewer job.edges n in omega arith
  few_read (node.Round l) ne = let l = long_below job.edges n (edges_into job.edges n) in let f = into_fewer job.edges n in omega arith

  few_written : (nd : Node) → kind nd ≢ 2 → length (lengths_written job nd n) < 2 ^ 32
  few_written (node.Source s) ne = few_read (node.Source s) ne
  few_written (node.Init l) ne = few_read (node.Init l) ne
  few_written (node.Firing a k) ne = absurd (ne refl)
  few_written (node.End l) ne = few_read (node.End l) ne
  few_written (node.Sink t) ne = few_read (node.Sink t) ne
  few_written (node.Broadcast l) ne = let f = out_fewer job.edges n in omega arith
  few_written (node.Fork l i) ne = let f = out_fewer job.edges n in omega arith
  few_written (node.Join l j) ne = let f = out_fewer job.edges n in omega arith
  few_written (node.Round l) ne = let f = out_fewer job.edges n in omega arith

few_edges : (level : LevelView) (q : List ℕ) (turns : List Turn) → Suffices level q → IsRepetition level q → IsWithinLimits level q → length (edges level q turns) < 2 ^ 32
few_edges level q turns suffices repetition within =
    let some = wires-some level q 0 level.links suffices.balanced suffices.reaches repetition.agree in
    let limits = within.tokens in
    let all : List Node = nodes level q turns in
    let e = edges-space all (wires level q) in
    let f = edges-fewer all (wires level q) some.0 in
    omega arith

-- ---- what a node that copies is asked

-- not a firing, with what it copies
record CopiesSo (nd : Node) (read : List (List ℤ)) (lengths_out : List ℕ) (node : Node) (read' : List (List ℤ)) (lens' : List ℕ) : Type 0 where
  is_node : nd ≡ node
  is_read : read ≡ read'
  is_lens : lengths_out ≡ lens'
  no_firing : kind nd ≢ 2

abbrev copying : Node → List (List ℤ) → List ℕ → Task Firing words.Work
copying nd read l = Work (words.Copies nd read l)

same_copies : (nd : Node) (read : List (List ℤ)) (l : List ℕ) (other : Node) (read' : List (List ℤ)) (lens' : List ℕ) → kind nd ≢ 2 → Some (copying nd read l) ≡ Some (copying other read' lens') → CopiesSo nd read l other read' lens'
same_copies nd read l other read' lens' ne e = record { is_node = cc; is_read = cc; is_lens = cc; no_firing = ne }

module _ (graphs : List Graph) (g : Graph) (f : Firing) (other : Node) (read' : List (List ℤ)) (lens' : List ℕ) where
  abbrev asked : Task Firing words.Work
  asked = Work (words.Copies other read' lens')

  body_never : (ints : List ℤ) (a k : ℕ) (read : List (List ℤ)) (actor : Actor) (body : Body) → firing_task graphs g f ints a k read actor body ≡ Some asked → ⊥
  body_never ints a k read actor (Kernel kernel exprs ins outs) e = cc
  body_never ints a k read actor (Child place exprs) e = cc
  body_never ints a k read actor (Config kernel exprs ins outs sets) e = cc
  body_never ints a k read actor (ConfigChild place exprs sets) e = cc

  actor_never : (ints : List ℤ) (a k : ℕ) (read : List (List ℤ)) (o : Option Actor) → actor_task graphs g f ints a k read o ≡ Some asked → ⊥
  actor_never ints a k read None e = cc
  actor_never ints a k read (Some actor) e = body_never ints a k read actor actor.body e

  copies_so : (ints : List ℤ) (nd : Node) (read : List (List ℤ)) (l : List ℕ) → node_task graphs g f ints nd read l ≡ Some asked → CopiesSo nd read l other read' lens'
  copies_so ints (node.Source s) read l e = same_copies (node.Source s) read l other read' lens' (λ n. absurd (omega arith)) e
  copies_so ints (node.Init i) read l e = same_copies (node.Init i) read l other read' lens' (λ n. absurd (omega arith)) e
  copies_so ints (node.Firing a k) read l e = absurd (actor_never ints a k read (slice_get (acting g) a) e)
  copies_so ints (node.Broadcast i) read l e = same_copies (node.Broadcast i) read l other read' lens' (λ n. absurd (omega arith)) e
  copies_so ints (node.Fork i j) read l e = same_copies (node.Fork i j) read l other read' lens' (λ n. absurd (omega arith)) e
  copies_so ints (node.Join i j) read l e = same_copies (node.Join i j) read l other read' lens' (λ n. absurd (omega arith)) e
  copies_so ints (node.Round i) read l e = same_copies (node.Round i) read l other read' lens' (λ n. absurd (omega arith)) e
  copies_so ints (node.End i) read l e = same_copies (node.End i) read l other read' lens' (λ n. absurd (omega arith)) e
  copies_so ints (node.Sink i) read l e = same_copies (node.Sink i) read l other read' lens' (λ n. absurd (omega arith)) e

  config_never : (c : Configuration) (body : Body) → config_task graphs g f c body ≡ Some asked → ⊥
  config_never c (Kernel kernel exprs ins outs) e = cc
  config_never c (Child place exprs) e = cc
  config_never c (Config kernel exprs ins outs sets) e = cc
  config_never c (ConfigChild place exprs sets) e = cc

  compile_never : (o : Option (List Configured)) → compile_rule f o ≡ Some asked → ⊥
  compile_never None e = cc
  compile_never (Some left) e = cc

  -- it is a node of a job that is compiled
  record IsNode (v : Values Answer) : Type 0 where
    number : ℕ
    p : Prepared
    prepared_so : prepared_in g v ≡ Some p
    node_so : node_rule graphs g f v number (prepared_in g v) ≡ Some asked

  by_node : (v : Values Answer) (n : ℕ) (o : Option Prepared) → prepared_in g v ≡ o → node_rule graphs g f v n o ≡ Some asked → IsNode v
  by_node v n None is e = absurd (cc)
  by_node v n (Some p) is e = record { number = n; p = p; prepared_so = is; node_so = ap (node_rule graphs g f v n) is ∙ e }

  is_node_from : (v : Values Answer) (cs : List Configuration) (i : ℕ) → rule_from graphs g f v cs i ≡ Some asked → IsNode v
  is_node_from v [] zero e = absurd (compile_never (left_in g v) e)
  is_node_from v [] (suc n) e = by_node v n (prepared_in g v) refl e
  is_node_from v (c ∷ cs) zero e = absurd (config_never c c.body e)
  is_node_from v (c ∷ cs) (suc i) e = is_node_from v cs i e

-- ---- in all

module _ (key : Key) (is : IsKey key) (laws : BoardLaws key) (kernels_fit : TasksFit) (frames : FramesFit ℤ) (suffices : (level : LevelView) (q : List ℕ) → IsLevel level → IsRepetition level q → Suffices level q) (taken : List Step) (legal : AreLegal key taken) where
  abbrev state_so : BoardState
  state_so = state_after key taken

  module _ (nd : Node) (read : List (List ℤ)) (lens' : List ℕ) (o : OfJob key is laws.lawful laws.meant state_so.marks (Work (words.Copies nd read lens'))) where
    abbrev f : Firing
    f = o.job

    abbrev v : Values Answer
    v = values state_so.marks o.place

    abbrev g : Graph
    g = graph_of key.graphs.graphs f

    copies_fit : IsFitWork key.signatures (words.Copies nd read lens')
    copies_fit =
        let k = known key is laws taken legal in
        let fit = k.fits o.place f o.is_open in
        let sound = k.sound o.place f o.is_open in
        let at = is_node_from key.graphs.graphs g f nd read lens' v (configurations g) o.item o.is_task in
        let level = level_so laws.jobs key.signatures key.graphs is.valid.valid.in_range is.valid.valid.well_formed laws.fit is.lengths (k.levels o.place) f v fit sound at.p at.prepared_so in
        let job_is = is_job laws.jobs key.signatures key.graphs is.valid.valid.in_range is.valid.valid.well_formed laws.fit is.lengths (k.levels o.place) f v fit sound at.p at.prepared_so in
        let ready = rule_so laws.jobs key.signatures key.graphs is.valid.valid.in_range is.valid.valid.well_formed laws.fit is.lengths (k.levels o.place) f v fit sound at.p at.prepared_so at.number (Work (words.Copies nd read lens')) at.node_so in
        let answers = answered laws.jobs key.signatures key.graphs is.valid.valid.in_range is.valid.valid.well_formed laws.fit is.lengths (k.levels o.place) f v fit sound at.p at.prepared_so in
        let j : JobGraph ℤ = job_graph key.graphs.graphs g f at.p in
        let so = copies_so key.graphs.graphs g f nd read lens' (values_in g f at.p) (node_at j.nodes at.number) (inputs j (node_values key.graphs.graphs g f at.p v) at.number) (lens j at.number) ready.1 in
        let reads : lengths (inputs j (node_values key.graphs.graphs g f at.p v) at.number) ≡ in_lens j at.number = laws.jobs.lens_are at.p.schedule.counts at.p.schedule.order j _ (node_values key.graphs.graphs g f at.p v) at.number job_is answers ready.0 in
        let has : HasLengths (node_at j.nodes at.number) (in_lens j at.number) (lens j at.number) = frames at.p.schedule.counts at.p.schedule.order j at.number job_is ready.0.there so.no_firing in
        let few : length j.edges < 2 ^ 32 = subst (λ (es : List Edge). length es < 2 ^ 32) (sym job_is.edges_are) (few_edges j.level at.p.schedule.counts at.p.schedule.order (suffices j.level at.p.schedule.counts job_is.level_kept job_is.repetition) job_is.repetition level.is_scheduled.within) in
        let lens_read : lengths read ≡ in_lens j at.number = ap lengths (sym so.is_read) ∙ reads in
        let node_is = so.is_node in
        let lens_is = so.is_lens in
        let many = length-map read (λ (l : List ℤ). length l) in
        let count = ap (λ (l : List ℕ). length l) lens_read in
        let few_in = few_read j few at.number (node_at j.nodes at.number) so.no_firing in
        let few_out = few_written j few at.number (node_at j.nodes at.number) so.no_firing in
        let out_count = ap (λ (l : List ℕ). length l) lens_is in (
          subst (λ (n : Node). HasLengths n (lengths read) lens') node_is (subst (λ (l : List ℕ). HasLengths (node_at j.nodes at.number) l lens') (sym lens_read) (subst (λ (l : List ℕ). HasLengths (node_at j.nodes at.number) (in_lens j at.number) l) lens_is has)),
          omega arith,
          omega arith,
        )

  pub work_fits : (w : ℕ) (work : words.Work) → RunsWork key state_so w work → IsFitWork key.signatures work
  work_fits w (words.Fires spot asked) runs =
      let o = open_job_of key is laws.lawful laws.meant state_so.marks runs.place (Work (words.Fires spot asked)) runs.task in
      kernels_fit key.signatures key.graphs is.valid o.job (values state_so.marks o.place) o.item spot asked ((known key is laws taken legal).fits o.place o.job o.is_open) o.is_task
  work_fits w (words.Copies nd read lens') runs = copies_fit nd read lens' (open_job_of key is laws.lawful laws.meant state_so.marks runs.place (Work (words.Copies nd read lens')) runs.task)
  work_fits w (words.Compiles firing left) runs = tt
