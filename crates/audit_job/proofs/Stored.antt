-- What an item that is stored needs and leaves of what nodes wait for.
use Rattle.std.proofs.Common.{◌≡◌, ◌≢◌, ℕ, ◌+◌, ◌-◌, ◌<◌, ◌≤◌, Bool, true, false, List, length, set, Option, Some, None, refl, sym, ap, ◌∙◌, subst, arith, ⊎_elim}
use Rattle.std.specs.Prelude.{Vec, vec_capacity}
use Rattle.std.specs.Global.{Global}
use Rattle.std.specs.Arc.{arc_value}
use Rattle.std.proofs.lemmas.Bool.{cases_eq}
use Rattle.std.proofs.lemmas.List.{length-set}
use Rattle.std.proofs.lemmas.List.Elements.{All-weaker}
use Rattle.job_rules.specs.Items.{compile_number, edges_in, graph_of}
use Rattle.job_rules.specs.Words.{Answer}
use Rattle.nested_jobs.specs.Marks as mark
use Rattle.pisdf_model.specs.declared.graph.Graph.{Graph}
use Rattle.sdf_level.specs.declared.node.Node.{Node}
use Rattle.sdf_level.specs.declared.single_rate.Edge.{Edge}
use Rattle.audit_job.specs.Answering.{IsMarked}
use Rattle.audit_job.specs.Candidates.{Adds, IsReleased, is_running, running_in, waiting_in, waits_in}
use Rattle.audit_job.specs.Giving.{gives}
use Rattle.audit_job.specs.Jobs.{IsJob, IsPrepared, IsUnscheduled, prepared_of}
use Rattle.audit_job.specs.Marking.{Marks, MayRelease, Releases}
use Rattle.audit_job.specs.Marks.{answer_of, answers, mark_at}
use Rattle.audit_job.specs.Waiting.{less_by}
use Rattle.audit_job.specs.declared.answer.Answer as own
use Rattle.audit_job.specs.declared.answer.Mark.{Mark}
use Rattle.audit_job.specs.declared.answer.Mark.TheVariants as stands
use Rattle.audit_job.specs.declared.job.Job.{Job}
use Rattle.audit_job.specs.declared.job.Nodes.{Nodes}
use Rattle.audit_job.proofs.Answered.{is_node, set_marked, stands_inside, unprepared}
use Rattle.audit_job.proofs.CandidateSteps.{some_released}
use Rattle.audit_job.proofs.ItemRules.{count_before, count_is}
use Rattle.audit_job.proofs.NodeFlow as flow
use Rattle.audit_job.proofs.RunningItems.{one_if, running_set, runs_unfinished}
use Rattle.audit_job.proofs.Storing as storing

-- an item that runs is there
pub runs_inside : (marks : List Mark) (item : ℕ) → is_running (mark_at marks item) ≡ true → item < length marks
runs_inside marks item runs = stands_inside marks item (λ free. let e : true ≡ false = sym runs ∙ ap is_running free in absurd (cc))

-- how many items a job has
module _ (graphs : List Graph) (workers : ℕ) (job : Job) (is : IsJob graphs workers job) where
  with_nodes : (o : Option Nodes) → IsPrepared graphs workers job.firing (answers job.marks.items) o → length job.marks.items ≡ length job.places.items + 1 + length (waits_in o)
  with_nodes None so =
      let many = is.places_are.one_each in
      let all = is.one_each in
      let counted = count_before graphs job.firing (answers job.marks.items) (unprepared (graph_of graphs job.firing) (answers job.marks.items) so) in
      omega arith
  with_nodes (Some nodes) so =
      let many = is.places_are.one_each in
      let all = is.one_each in
      let counted = count_is graphs job.firing (answers job.marks.items) (prepared_of nodes) so.0 in
      let one = so.1.made.one_each in
      omega arith

  pub items_are : length job.marks.items ≡ length job.places.items + 1 + length (waits_in job.nodes)
  items_are = with_nodes job.nodes is.prepared

-- the nodes that wait for nothing any more are candidates
pub record Readied (old new : Job) : Type 0 where
  pub added : Adds (length old.places.items + 1) (length (waits_in old.nodes)) (IsReleased (waits_in old.nodes) (waits_in new.nodes)) old.candidates new.candidates
  pub room : length new.candidates.items + waiting_in (waits_in new.nodes) ≤ vec_capacity new.candidates

module _ (graphs : List Graph) (workers : ℕ) (old : Job) (is : IsJob graphs workers old) (marks : Vec Mark Global) (item : ℕ) (a : Answer)
    (long : length marks.items ≡ length old.marks.items) (unfinished : answers old.marks.items item ≡ None) (marked : IsMarked item (mark.Done a) (mark_at old.marks.items) (mark_at marks.items))
    (differs : item ≢ length old.places.items) (unscheduled : IsUnscheduled a) where
  abbrev g : Graph
  g = graph_of graphs old.firing

  other : item ≢ compile_number g
  other same = let many = is.places_are.one_each in differs (omega arith)

  abbrev node : ℕ
  node = item - (length old.places.items + 1)

  node_is : node ≡ item - compile_number g - 1
  node_is = let many = is.places_are.one_each in omega arith

  may : (o : Option Nodes) → IsPrepared graphs workers old.firing (answers old.marks.items) o → MayRelease (gives a) node o
  may None so = tt
  may (Some nodes) so =
      let e = storing.fewer_now graphs workers old is marks item a long unfinished marked other unscheduled nodes so.0 so.1 in
      let compiled = so.1.made.ready.compiled.expanded.sound in
      let nodes_are = ap (λ (l : List Node). length l) (flow.nodes_are graphs workers old.firing nodes so.1.made) in
      let many : length (arc_value nodes.compiled).graph.nodes ≡ length nodes.waits.items = nodes_are ∙ sym so.1.made.one_each in
      record {
        ends = All-weaker (λ (e : Edge). (e.tail < length (arc_value nodes.compiled).graph.nodes) × (e.head < length (arc_value nodes.compiled).graph.nodes)) (λ (e : Edge). e.head < length nodes.waits.items) (λ e both. subst (λ (k : ℕ). e.head < k) many both.1) (arc_value nodes.compiled).graph.edges compiled.ends;
        rows = so.1.made.rows;
        inside =
            let there = stands_inside marks.items item (λ free. let e : mark.Done a ≡ mark.Free = sym marked.here ∙ free in absurd (cc)) in
            let all = with_nodes graphs workers old is (Some nodes) so in
            let after = is_node g (answers old.marks.items) (prepared_of nodes) so.0 item unfinished other in
            let places = is.places_are.one_each in
            omega arith;
        enough = λ n inside.
            let were = so.1.waits_are n inside in
            let more = e n in
            let same : less_by (gives a) (arc_value nodes.compiled).graph.edges node n ≡ less_by (gives a) (edges_in graphs g old.firing (prepared_of nodes)) (item - compile_number g - 1) n =
            (λ i. less_by (gives a) (flow.edges_are graphs workers old.firing nodes so.1.made i) (node_is i) n) in
            omega arith;
      }

  pub may_release : MayRelease (gives a) node old.nodes
  may_release = may old.nodes is.prepared

  goes : (o new : Option Nodes) → IsPrepared graphs workers old.firing (answers old.marks.items) o → Releases (gives a) node o new → storing.GoOn graphs workers old is marks item a long unfinished marked other unscheduled o new
  goes None new so released = released
  goes (Some nodes) new so released = (
    released.0,
    record {
      many = released.1.many;
      each = λ n inside.
          let step = released.1.each n inside in
          let same : less_by (gives a) (arc_value nodes.compiled).graph.edges node n ≡ less_by (gives a) (edges_in graphs g old.firing (prepared_of nodes)) (item - compile_number g - 1) n =
          (λ i. less_by (gives a) (flow.edges_are graphs workers old.firing nodes so.1.made i) (node_is i) n) in
          omega arith;
    },
    released.2,
  )

  as_many : (o new : Option Nodes) → Releases (gives a) node o new → length (waits_in new) ≡ length (waits_in o)
  as_many None new released = ap (λ (x : Option Nodes). length (waits_in x)) released
  as_many (Some nodes) new released = ap (λ (x : Option Nodes). length (waits_in x)) released.2 ∙ released.1.many

  still_free : (i : ℕ) → mark_at marks.items i ≡ mark.Free → mark_at old.marks.items i ≡ mark.Free
  still_free i now = ⊎_elim
      (λ (here : i ≡ item). let e : mark.Done a ≡ mark.Free = sym marked.here ∙ ap (mark_at marks.items) (sym here) ∙ now in absurd (cc))
      (λ (else : i ≢ item). sym (marked.others i else) ∙ now)
      (cases_eq i item)

  pub stored_job : running_in marks.items + 1 ≡ running_in old.marks.items → (new : Job) → new.firing ≡ old.firing → new.early ≡ old.early → new.places ≡ old.places → new.marks ≡ marks → Releases (gives a) node old.nodes new.nodes → Readied old new → new.running ≡ old.running - 1 → IsJob graphs workers new
  stored_job counted new firing_is early_is places_are marks_are released readied running =
      let there = items_are graphs workers old is in
      let candidates = some_released old.marks.items marks.items (length old.places.items) (length old.places.items + 1) (waits_in old.nodes) (waits_in new.nodes) old.candidates new.candidates is.candidates still_free refl long
      (as_many old.nodes new.nodes released) (omega arith) readied.added readied.room in
      let were = is.running_are in
      storing.answered_job graphs workers old is marks item a long unfinished marked other unscheduled new firing_is early_is places_are marks_are (goes old.nodes new.nodes is.prepared released) candidates (omega arith)

-- ---- as the code stores it

module _ (old : Job) (item : ℕ) (answer : own.Answer) (inside : item < length old.marks.items) (runs : is_running (mark_at old.marks.items item) ≡ true) (differs : item ≢ length old.places.items) (unscheduled : IsUnscheduled (answer_of answer))
    (marks : Vec Mark Global) (marks_are : marks.items ≡ set old.marks.items item (stands.Done answer)) (b : Bool) (b_is : b ≡ gives (answer_of answer)) (n : ℕ) (n_is : n ≡ item - (length old.places.items + 1)) where
  unfinished : answers old.marks.items item ≡ None
  unfinished = runs_unfinished (mark_at old.marks.items item) runs

  counted_so : running_in marks.items + 1 ≡ running_in old.marks.items
  counted_so =
      let set_is = running_set old.marks.items item (stands.Done answer) inside in
      let was : one_if (is_running (mark_at old.marks.items item)) ≡ 1 = ap one_if runs in
      let same : running_in marks.items ≡ running_in (set old.marks.items item (stands.Done answer)) = ap running_in marks_are in
      omega arith

  long_so : length marks.items ≡ length old.marks.items
  long_so = ap (λ (l : List Mark). length l) marks_are ∙ length-set old.marks.items item (stands.Done answer)

  marked_so : IsMarked item (mark.Done (answer_of answer)) (mark_at old.marks.items) (mark_at marks.items)
  marked_so =
      let is = set_marked old.marks.items item (stands.Done answer) inside in
      record {
        here = ap (λ (l : List Mark). mark_at l item) marks_are ∙ is.here;
        others = λ i other. ap (λ (l : List Mark). mark_at l i) marks_are ∙ is.others i other;
      }

  pub may_so : (graphs : List Graph) (workers : ℕ) → IsJob graphs workers old → MayRelease b n old.nodes
  may_so graphs workers is =
      subst (λ (x : Bool). MayRelease x n old.nodes) (sym b_is)
      (subst (λ (k : ℕ). MayRelease (gives (answer_of answer)) k old.nodes) (sym n_is) (may_release graphs workers old is marks item (answer_of answer) long_so unfinished marked_so differs unscheduled))

  pub marks_so : (new : Job) → new.firing ≡ old.firing → new.early ≡ old.early → new.places ≡ old.places → new.marks ≡ marks → Releases b n old.nodes new.nodes → Readied old new → new.running ≡ old.running - 1 → Marks item (mark.Done (answer_of answer)) old new
  marks_so new firing_is early_is places_are kept released readied running = record {
    firing_is = firing_is;
    marked = subst (λ (v : Vec Mark Global). IsMarked item (mark.Done (answer_of answer)) (mark_at old.marks.items) (mark_at v.items)) (sym kept) marked_so;
    is_job = λ graphs workers is.
        stored_job graphs workers old is marks item (answer_of answer) long_so unfinished marked_so differs unscheduled counted_so new firing_is early_is places_are kept
        (subst (λ (x : Bool). Releases x (item - (length old.places.items + 1)) old.nodes new.nodes) b_is (subst (λ (k : ℕ). Releases b k old.nodes new.nodes) n_is released)) readied running;
  }
