-- A job stays a job when an item is marked, or has an answer.
use Rattle.std.proofs.Common.{◌≡◌, ◌≢◌, ℕ, ◌+◌, ◌-◌, ◌<◌, Bool, true, false, List, length, Option, Some, None, refl, sym, ap, ◌∙◌, subst, arith, ⊎_elim}
use Rattle.std.specs.Prelude.{Vec}
use Rattle.std.specs.Global.{Global}
use Rattle.std.specs.Option.{option_map}
use Rattle.std.proofs.lemmas.Bool.{cases_eq}
use Rattle.job_rules.specs.Items as items
use Rattle.job_flow.specs.Graphs.{node_at}
use Rattle.job_rules.specs.Items.{Prepared, actor_of, compile_number, count, edges_in, graph_of, is_done, keeps_state, node_base, node_result, node_values, nodes_in, prepared_in}
use Rattle.job_rules.specs.Words as words
use Rattle.job_rules.specs.Words.{Answer}
use Rattle.nested_jobs.specs.Marks as mark
use Rattle.nested_jobs.specs.Rules.{Values}
use Rattle.pisdf_meaning.specs.declared.firing.Firing.{Firing}
use Rattle.pisdf_model.specs.declared.graph.Graph.{Graph}
use Rattle.sdf_level.specs.declared.single_rate.Edge.{Edge}
use Rattle.audit_job.specs.Answering.{IsMarked}
use Rattle.audit_job.specs.Candidates.{AreCandidates, running_in, waits_in}
use Rattle.audit_job.specs.Jobs.{AreNodes, IsJob, IsPrepared, IsUnscheduled, prepared_of}
use Rattle.audit_job.specs.Marks.{answers, mark_at}
use Rattle.audit_job.specs.Giving.{gives}
use Rattle.audit_job.specs.Waiting.{WaitsFor, less_by, waiting}
use Rattle.audit_job.specs.declared.answer.Mark.{Mark}
use Rattle.audit_job.specs.declared.job.Job.{Job}
use Rattle.audit_job.specs.declared.job.Nodes.{Nodes}
use Rattle.audit_job.proofs.Answered.{is_node, prepared_stays, unprepared}
use Rattle.audit_job.proofs.Waits.{waits_less}

-- ---- marks that answer nothing more

module _ (graphs : List Graph) (workers : ℕ) (old new : Job) (is : IsJob graphs workers old) (firing_is : new.firing ≡ old.firing) (early_is : new.early ≡ old.early) (places_are : new.places ≡ old.places) (nodes_are : new.nodes ≡ old.nodes) where
  abbrev g : Graph
  g = graph_of graphs old.firing

  -- a job that has as many items, which answered the same, and whose compilation isn't open
  pub job_stays : length new.marks.items ≡ length old.marks.items → answers new.marks.items ≡ answers old.marks.items → ((d : Firing) → mark_at new.marks.items (compile_number (graph_of graphs old.firing)) ≢ mark.Open d) →
      AreCandidates new.marks.items (length old.places.items) (waits_in old.nodes) new.candidates → new.running ≡ running_in new.marks.items → IsJob graphs workers new
  job_stays long same uncalled candidates running =
      let one : IsJob graphs workers (record old { marks = new.marks; candidates = new.candidates; running = new.running }) = record {
        fit = is.fit;
        early_is = is.early_is;
        places_are = is.places_are;
        one_each = long ∙ is.one_each ∙ ap (count graphs old.firing) (sym same);
        prepared = subst (λ (v : Values Answer). IsPrepared graphs workers old.firing v old.nodes) (sym same) is.prepared;
        compiled = λ answer at. is.compiled answer (ap (λ (v : Values Answer). v (compile_number (graph_of graphs old.firing))) (sym same) ∙ at);
        uncalled = uncalled;
        others = λ i answer differs at. is.others i answer differs (ap (λ (v : Values Answer). v i) (sym same) ∙ at);
        candidates = candidates;
        running_are = running;
      } in
      let path : record old { marks = new.marks; candidates = new.candidates; running = new.running } ≡ new = λ i. record { firing = sym firing_is i; early = sym early_is i; places = sym places_are i; marks = new.marks; candidates = new.candidates; running = new.running; nodes = sym nodes_are i } in
      subst (λ (j : Job). IsJob graphs workers j) path one

-- ---- an answer more

done_so : (keeps : Bool) (a : Answer) → IsUnscheduled a → is_done (Some (node_result keeps a)) ≡ gives a
done_so keeps (words.Gives given) un = refl
done_so keeps (words.Schedules schedule) un = absurd un
done_so keeps (words.Refuses refusal) un = refl

module _ (edges : List Edge) (done later : ℕ → Bool) (t : ℕ) (was : done t ≡ false) (others : (m : ℕ) → m ≢ t → later m ≡ done m) where
  fewer : (b : Bool) → later t ≡ b → (n : ℕ) → waiting edges done n ≡ waiting edges later n + less_by b edges t n
  fewer true is n = waits_less edges done later t n was is others
  fewer false is n =
      let each : (m : ℕ) → later m ≡ done m = λ m. ⊎_elim (λ (here : m ≡ t). ap later here ∙ is ∙ sym was ∙ ap done (sym here)) (λ (other : m ≢ t). others m other) (cases_eq m t) in
      let same : later ≡ done = (λ i m. each m i) in
      ap (λ (d : ℕ → Bool). waiting edges d n) (sym same) ∙ (let e : waiting edges later n ≡ waiting edges later n + 0 = omega arith in e)

module _ (graphs : List Graph) (workers : ℕ) (old : Job) (is : IsJob graphs workers old) (marks : Vec Mark Global) (item : ℕ) (a : Answer)
    (long : length marks.items ≡ length old.marks.items) (unfinished : answers old.marks.items item ≡ None) (marked : IsMarked item (mark.Done a) (mark_at old.marks.items) (mark_at marks.items))
    (other : item ≢ compile_number (graph_of graphs old.firing)) (unscheduled : IsUnscheduled a) where
  abbrev h : Graph
  h = graph_of graphs old.firing

  abbrev v : Values Answer
  v = answers old.marks.items

  abbrev w : Values Answer
  w = answers marks.items

  now : w item ≡ Some a
  now = ap mark.answer_of marked.here

  rest : (i : ℕ) → i ≢ item → w i ≡ v i
  rest i differs = ap mark.answer_of (marked.others i differs)

  at_compilation : w (compile_number h) ≡ v (compile_number h)
  at_compilation = rest (compile_number h) (λ same. other (sym same))

  prepared_too : (p : Prepared) → prepared_in h v ≡ Some p → prepared_in h w ≡ Some p
  prepared_too p so =
      let after = is_node h v p so item unfinished other in
      prepared_stays h v w p (λ i below. sym (rest i (omega arith))) so

  -- ---- its nodes

  module _ (nodes : Nodes) (so : prepared_in h v ≡ Some (prepared_of nodes)) (are : AreNodes graphs workers old.firing v nodes) where
    abbrev t : ℕ
    t = item - compile_number h - 1

    abbrev done : Values Answer → ℕ → Bool
    done x m = is_done (node_values graphs h old.firing (prepared_of nodes) x m)

    after : compile_number h < item
    after = is_node h v (prepared_of nodes) so item unfinished other

    at : node_base h + t ≡ item
    at = let l = after in omega arith

    abbrev keeps : ℕ → Bool
    keeps m = keeps_state graphs (actor_of h (node_at (nodes_in graphs h old.firing (prepared_of nodes)) m))

    undone : done v t ≡ false
    undone = ap (λ o. is_done (option_map (node_result (keeps t)) o)) (ap v at ∙ unfinished)

    done_now : done w t ≡ gives a
    done_now = ap (λ o. is_done (option_map (node_result (keeps t)) o)) (ap w at ∙ now) ∙ done_so (keeps t) a unscheduled

    done_else : (m : ℕ) → m ≢ t → done w m ≡ done v m
    done_else m differs = ap (λ o. is_done (option_map (node_result (keeps m)) o)) (rest (node_base h + m) (λ same. let e = at in differs (omega arith)))

    -- a node waits at least for what is given now
    pub fewer_now : (n : ℕ) → waiting (edges_in graphs h old.firing (prepared_of nodes)) (done v) n ≡ waiting (edges_in graphs h old.firing (prepared_of nodes)) (done w) n + less_by (gives a) (edges_in graphs h old.firing (prepared_of nodes)) t n
    fewer_now n = fewer (edges_in graphs h old.firing (prepared_of nodes)) (done v) (done w) t undone done_else (gives a) done_now n

    pub nodes_go_on : (waits : Vec ℕ Global) → WaitsFor (less_by (gives a) (edges_in graphs h old.firing (prepared_of nodes)) t) nodes.waits.items waits.items → AreNodes graphs workers old.firing w (record nodes { waits = waits })
    nodes_go_on waits less = record {
      made = record {
        ready = are.made.ready;
        sources_are = are.made.sources_are;
        starts_are = are.made.starts_are;
        rows = record { into = are.made.rows.into; out_of = are.made.rows.out_of };
        keeps_are = are.made.keeps_are;
        one_each = less.many ∙ are.made.one_each;
      };
      waits_are = λ n inside.
          let edges = edges_in graphs h old.firing (prepared_of nodes) in
          let long_too = less.many in
          let inside_too : n < length nodes.waits.items = omega arith in
          let were = are.waits_are n inside_too in
          let step = less.each n inside_too in
          let e = fewer edges (done v) (done w) t undone done_else (gives a) done_now n in
          omega arith;
    }

  -- what goes on of the nodes
  abbrev pub GoOn : Option Nodes → Option Nodes → Type 0
  GoOn None new = new ≡ None
  GoOn (Some nodes) new = (waits : Vec ℕ Global) × WaitsFor (less_by (gives a) (edges_in graphs h old.firing (prepared_of nodes)) (item - compile_number h - 1)) nodes.waits.items waits.items × (new ≡ Some (record nodes { waits = waits }))

  prepared_so : (o new : Option Nodes) → IsPrepared graphs workers old.firing v o → GoOn o new → IsPrepared graphs workers old.firing w new
  prepared_so None new none goes = subst (λ (x : Option Nodes). IsPrepared graphs workers old.firing w x) (sym goes) (ap items.schedule_of at_compilation ∙ none)
  prepared_so (Some nodes) new so goes = subst (λ (x : Option Nodes). IsPrepared graphs workers old.firing w x) (sym goes.2) (prepared_too (prepared_of nodes) so.0, nodes_go_on nodes so.0 so.1 goes.0 goes.1)

  prepared_same : (o : Option Nodes) → IsPrepared graphs workers old.firing v o → prepared_in h v ≡ prepared_in h w
  prepared_same None none = unprepared h v none ∙ sym (unprepared h w (ap items.schedule_of at_compilation ∙ none))
  prepared_same (Some nodes) so = so.0 ∙ sym (prepared_too (prepared_of nodes) so.0)

  others_so : (i : ℕ) (answer : Answer) → i ≢ compile_number h → w i ≡ Some answer → IsUnscheduled answer
  others_so i answer differs at = ⊎_elim
      (λ (here : i ≡ item). let same : a ≡ answer = let e : Some a ≡ Some answer = sym now ∙ ap w (sym here) ∙ at in cc in subst IsUnscheduled same unscheduled)
      (λ (else : i ≢ item). is.others i answer differs (sym (rest i else) ∙ at))
      (cases_eq i item)

  -- it is a job still
  pub answered_job : (new : Job) → new.firing ≡ old.firing → new.early ≡ old.early → new.places ≡ old.places → new.marks ≡ marks → GoOn old.nodes new.nodes →
      AreCandidates marks.items (length old.places.items) (waits_in new.nodes) new.candidates → new.running ≡ running_in marks.items → IsJob graphs workers new
  answered_job new firing_is early_is places_are marks_are goes candidates running =
      let one : IsJob graphs workers (record old { marks = marks; candidates = new.candidates; running = new.running; nodes = new.nodes }) = record {
        fit = is.fit;
        early_is = is.early_is;
        places_are = is.places_are;
        one_each = long ∙ is.one_each ∙ ap (λ o. node_base h + length (items.nodes_after graphs h old.firing o)) (prepared_same old.nodes is.prepared);
        prepared = prepared_so old.nodes new.nodes is.prepared goes;
        compiled = λ answer at. is.compiled answer (sym at_compilation ∙ at);
        uncalled = λ d at. is.uncalled d (sym (marked.others (compile_number h) (λ same. other (sym same))) ∙ at);
        others = others_so;
        candidates = candidates;
        running_are = running;
      } in
      let path : record old { marks = marks; candidates = new.candidates; running = new.running; nodes = new.nodes } ≡ new = λ i. record { firing = sym firing_is i; early = sym early_is i; places = sym places_are i; marks = sym marks_are i; candidates = new.candidates; running = new.running; nodes = new.nodes } in
      subst (λ (j : Job). IsJob graphs workers j) path one
