-- A job stays a job when its compilation is finished.
use Rattle.std.proofs.Common.{◌≡◌, ◌≢◌, ℕ, ◌+◌, false, List, length, Option, Some, None, Ok, Err, Result, refl, sym, ap, ◌∙◌, subst, arith}
use Rattle.std.specs.Prelude.{Vec}
use Rattle.std.specs.Global.{Global}
use Rattle.std.specs.Arc.{arc_value}
use Rattle.std.specs.Option.{option_map}
use Rattle.std.proofs.lemmas.List.{get_or_past}
use Rattle.job_flow.specs.Frames.{edges_into}
use Rattle.job_rules.specs.Doing as doing
use Rattle.job_rules.specs.Items as items
use Rattle.job_flow.specs.Graphs.{node_at}
use Rattle.job_rules.specs.Items.{actor_of, compile_number, count, edges_in, graph_of, is_done, keeps_state, left_in, node_base, node_result, node_values, nodes_in, prepared_by, prepared_in}
use Rattle.job_rules.specs.Words as words
use Rattle.job_rules.specs.Words.{Answer}
use Rattle.job_preparing.specs.CompileTasks.{schedule_of}
use Rattle.level_schedule.specs.declared.scheduling.LevelSchedule.{LevelSchedule}
use Rattle.nested_jobs.specs.Marks as mark
use Rattle.nested_jobs.specs.Rules.{Values}
use Rattle.pisdf_meaning.specs.Configuring.{configurations}
use Rattle.pisdf_meaning.specs.declared.firing.Configured.{Configured}
use Rattle.pisdf_meaning.specs.declared.refusal.Refusal.{Refusal}
use Rattle.pisdf_model.specs.declared.graph.Graph.{Graph}
use Rattle.sdf_level.specs.declared.single_rate.Edge.{Edge}
use Rattle.audit_job.specs.Answering.{IsMarked}
use Rattle.audit_job.specs.Candidates.{AreCandidates, running_in, waits_in}
use Rattle.audit_job.specs.Compiling.{ComesWith, IsCompileRefusal, IsNew}
use Rattle.audit_job.specs.Jobs.{AreNodes, IsCompileAnswer, IsJob, IsPrepared, prepared_of}
use Rattle.audit_job.specs.Marking.{nodes_by}
use Rattle.audit_job.specs.Marks.{answers, mark_at, mark_of}
use Rattle.audit_job.specs.declared.answer.Mark.{Mark}
use Rattle.audit_job.specs.declared.answer.Mark.TheVariants as stands
use Rattle.audit_job.specs.declared.job.Job.{Job}
use Rattle.audit_job.specs.declared.job.Nodes.{Nodes}
use Rattle.audit_job.proofs.Answered.{left_agrees, unprepared}
use Rattle.audit_job.proofs.ItemRules.{count_before, count_is}
use Rattle.audit_job.proofs.NodeFlow as flow
use Rattle.audit_job.proofs.Waits.{waits_for_all}

compile_answer : (end : Result LevelSchedule Refusal) → IsCompileAnswer (doing.scheduled end)
compile_answer (Ok schedule) = tt
compile_answer (Err refusal) = tt

refused_none : (a : Answer) → IsCompileRefusal a → items.schedule_of (Some a) ≡ None
refused_none (words.Gives given) is = absurd is
refused_none (words.Schedules schedule) is = absurd is
refused_none (words.Refuses refusal) is = refl

module _ (graphs : List Graph) (workers : ℕ) (old : Job) (is : IsJob graphs workers old) (left : List Configured) (left_is : left_in (graph_of graphs old.firing) (answers old.marks.items) ≡ Some left)
    (unfinished : answers old.marks.items (compile_number (graph_of graphs old.firing)) ≡ None) (marks : Vec Mark Global) (a : Answer)
    (marked : IsMarked (compile_number (graph_of graphs old.firing)) (mark.Done a) (mark_at old.marks.items) (mark_at marks.items)) (compiled : doing.IsCompiled graphs old.firing left a) where
  abbrev g : Graph
  g = graph_of graphs old.firing

  abbrev v : Values Answer
  v = answers old.marks.items

  abbrev w : Values Answer
  w = answers marks.items

  now : w (compile_number g) ≡ Some a
  now = ap mark.answer_of marked.here

  rest : (i : ℕ) → i ≢ compile_number g → w i ≡ v i
  rest i differs = ap mark.answer_of (marked.others i differs)

  left_stays : left_in g w ≡ Some left
  left_stays = left_agrees w v 0 (configurations g) (λ j below. rest j (λ same. omega arith)) ∙ left_is

  old_long : length old.marks.items ≡ node_base g
  old_long = is.one_each ∙ count_before graphs old.firing v (unprepared g v (ap items.schedule_of unfinished))

  -- no node has answered anything
  nodes_free : (n : ℕ) → w (node_base g + n) ≡ None
  nodes_free n =
      let long = old_long in
      rest (node_base g + n) (λ same. omega arith) ∙ ap (λ m. mark.answer_of (mark_of m)) (get_or_past old.marks.items (node_base g + n) stands.Free (omega arith))

  module _ (nodes : Nodes) (scheduled : a ≡ words.Schedules (schedule_of (arc_value nodes.compiled))) (new : IsNew graphs workers old.firing left (arc_value nodes.compiled) nodes) where
    pub prepared_so : prepared_in g w ≡ Some (prepared_of nodes)
    prepared_so =
        let L : left_in g w ≡ Some nodes.left.items = left_stays ∙ ap Some (sym new.left_is) in
        let S : items.schedule_of (w (compile_number g)) ≡ Some (schedule_of (arc_value nodes.compiled)) = ap items.schedule_of (now ∙ ap Some scheduled) in
        λ i. prepared_by (L i) (S i)

    undone : (n : ℕ) → is_done (node_values graphs g old.firing (prepared_of nodes) w n) ≡ false
    undone n = ap (λ o. is_done (option_map (node_result (keeps_state graphs (actor_of g (node_at (nodes_in graphs g old.firing (prepared_of nodes)) n)))) o)) (nodes_free n)

    are_nodes : AreNodes graphs workers old.firing w nodes
    are_nodes = record {
      made = new.made;
      waits_are = λ n inside.
          new.waits_are n inside
          ∙ ap (λ (l : List Edge). edges_into l n) (flow.edges_are graphs workers old.firing nodes new.made)
          ∙ sym (waits_for_all (edges_in graphs g old.firing (prepared_of nodes)) (λ m. is_done (node_values graphs g old.firing (prepared_of nodes) w m)) n undone);
    }

  prepared_by_it : (o : Option Nodes) → ComesWith graphs workers old.firing left a o → IsPrepared graphs workers old.firing w o
  prepared_by_it None refused = ap items.schedule_of now ∙ refused_none a refused
  prepared_by_it (Some nodes) made = (prepared_so nodes made.0 made.1, are_nodes nodes made.0 made.1)

  counted : (o : Option Nodes) → ComesWith graphs workers old.firing left a o → length marks.items ≡ length old.marks.items + nodes_by o → length marks.items ≡ count graphs old.firing w
  counted None refused long =
      let were = old_long in
      let c = count_before graphs old.firing w (unprepared g w (ap items.schedule_of now ∙ refused_none a refused)) in
      omega arith
  counted (Some nodes) made long =
      let were = old_long in
      let c = count_is graphs old.firing w (prepared_of nodes) (prepared_so nodes made.0 made.1) in
      let many = made.1.made.one_each in
      omega arith

  -- it is a job still
  pub compiled_job : (new : Job) → new.firing ≡ old.firing → new.early ≡ old.early → new.places ≡ old.places → new.marks ≡ marks → ComesWith graphs workers old.firing left a new.nodes → length marks.items ≡ length old.marks.items + nodes_by new.nodes →
      AreCandidates marks.items (length old.places.items) (waits_in new.nodes) new.candidates → new.running ≡ running_in marks.items → IsJob graphs workers new
  compiled_job new firing_is early_is places_are marks_are with_it long candidates running =
      let P : Answer → Type 0 = IsCompileAnswer in
      let one : IsJob graphs workers (record old { marks = marks; candidates = new.candidates; running = new.running; nodes = new.nodes }) = record {
        fit = is.fit;
        early_is = is.early_is;
        places_are = is.places_are;
        one_each = counted new.nodes with_it long;
        prepared = prepared_by_it new.nodes with_it;
        compiled = λ answer at. let same : a ≡ answer = let e : Some a ≡ Some answer = sym now ∙ at in cc in subst P (sym compiled.answer_is ∙ same) (compile_answer compiled.end);
        uncalled = λ d at. let e : mark.Done a ≡ mark.Open d = sym marked.here ∙ at in cc;
        others = λ i answer differs at. is.others i answer differs (sym (rest i differs) ∙ at);
        candidates = candidates;
        running_are = running;
      } in
      let path : record old { marks = marks; candidates = new.candidates; running = new.running; nodes = new.nodes } ≡ new = λ i. record { firing = sym firing_is i; early = sym early_is i; places = sym places_are i; marks = sym marks_are i; candidates = new.candidates; running = new.running; nodes = new.nodes } in
      subst (λ (j : Job). IsJob graphs workers j) path one
