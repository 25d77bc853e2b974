-- The nodes of a running firing in the words of its rules, and in those of its job of leases.
use Rattle.std.proofs.Common.{◌≡◌, ℕ, zero, suc, ◌<◌, ◌≤◌, ⊎_elim, ℤ, false, List, [], ◌∷◌, length, map, get_or, slice_get, Option, None, refl, sym, ap, ◌∙◌, subst, arith}
use Rattle.std.specs.Prelude.{is_none}
use Rattle.std.specs.Option.{option_map}
use Rattle.std.proofs.lemmas.Bool.{cases_lt}
use Rattle.std.proofs.lemmas.List.{get_or_past}
use Rattle.nested_jobs.specs.Marks as mark
use Rattle.param_resolver.specs.Numbering.{acting, state_size}
use Rattle.pisdf_model.specs.declared.actor.Actor.{Actor}
use Rattle.pisdf_model.specs.declared.actor.Body.{Body}
use Rattle.pisdf_model.specs.declared.actor.Body.TheVariants.{Kernel, Config, Child, ConfigChild}
use Rattle.pisdf_model.specs.declared.graph.Graph.{Graph}
use Rattle.pisdf_meaning.specs.declared.refusal.Refusal.{Refusal}
use Rattle.sdf_level.specs.declared.node.Node.{Node}
use Rattle.sdf_level.specs.declared.node.Node.TheVariants as node
use Rattle.job_flow.specs.Frames as flow
use Rattle.job_flow.specs.Frames.{inputs}
use Rattle.job_flow.specs.Graphs.{JobGraph, node_at}
use Rattle.job_flow.specs.Events.{IsReady}
use Rattle.job_flow.specs.Laws.{InputsInAnyWords, ReadyInAnyWords}
use Rattle.job_flow.specs.Renamed.{renamed, renamed_answer}
use Rattle.job_rules.specs.Items.{actor_of, keeps_state, node_result}
use Rattle.one_job.specs.Marks as one
use Rattle.one_job.specs.Pick.{is_child_in}
use Rattle.one_job.specs.View.{IsFiring}
use Rattle.job_preparing.specs.Handing.{ItemMarks, mark_at}
use Rattle.graph_firing.specs.Nodes.Parts.{AllStand, kernel_in, kind_of_actor}
use Rattle.graph_firing.specs.Nodes.Stages.{job_mark, mark_of, marks_of, spot_of, stage_at}
use Rattle.graph_firing.specs.Nodes.View.{results}
use Rattle.graph_firing.specs.declared.nodes.stage.Stage.{Stage}
use Rattle.graph_firing.specs.declared.nodes.stage.Stage.TheVariants.{Free}
use Rattle.graph_firing.specs.declared.nodes.frames.Held.{Held}
use Rattle.graph_firing.proofs.OfNodes.NodeMarks.{free_job, free_stage, mark_here, refusal_for, value_tie}

-- ---- nodes that fire graphs

kernel_stateless : (graphs : List Graph) (body : Body) → is_none (kernel_in body) ≡ false → state_size graphs body ≡ 0
kernel_stateless graphs (Kernel kernel args ins outs) is = refl
kernel_stateless graphs (Config kernel args ins outs sets) is = absurd (cc)
kernel_stateless graphs (Child place args) is = absurd (cc)
kernel_stateless graphs (ConfigChild place args sets) is = absurd (cc)

actor_stateless : (graphs : List Graph) (own : List Actor) (a : ℕ) → is_none (get_or (map kind_of_actor own) a None) ≡ false → keeps_state graphs (slice_get own a) ≡ false
actor_stateless graphs [] a is = absurd (cc)
actor_stateless graphs (x ∷ own) zero is = let none = kernel_stateless graphs x.body is in rw none refl
actor_stateless graphs (x ∷ own) (suc a) is = actor_stateless graphs own a is

-- the state of no actor goes on whose firings aren't jobs of their own
pub stateless : (graphs : List Graph) (g : Graph) (kinds : List (Option ℕ)) → kinds ≡ map kind_of_actor (acting g) → (nd : Node) → is_child_in kinds nd ≡ false → keeps_state graphs (actor_of g nd) ≡ false
stateless graphs g kinds are (node.Source s) is = refl
stateless graphs g kinds are (node.Init l) is = refl
stateless graphs g kinds are (node.Firing a k) is = actor_stateless graphs (acting g) a (ap (λ (l : List (Option ℕ)). is_none (get_or l a None)) (sym are) ∙ is)
stateless graphs g kinds are (node.End l) is = refl
stateless graphs g kinds are (node.Sink t) is = refl
stateless graphs g kinds are (node.Broadcast l) is = refl
stateless graphs g kinds are (node.Fork l i) is = refl
stateless graphs g kinds are (node.Join l k) is = refl
stateless graphs g kinds are (node.Round l) is = refl

-- ---- what nodes are finished with

module _ (graphs : List Graph) (g : Graph) (path : List ℕ) (kinds : List (Option ℕ)) (kinds_are : kinds ≡ map kind_of_actor (acting g)) (job : JobGraph ℤ) (stages : List Stage) (marks : List one.Mark) (held : List Held)
    (stand : AllStand graphs g kinds job stages marks held) where
  abbrev pub items : ItemMarks
  items = marks_of path (acting g) job.nodes stages

  abbrev pub told : flow.Values ℤ Refusal
  told = results graphs g job.nodes items

  -- the refusal that a code of a node stands for
  abbrev pub words : ℕ → ℕ → Refusal
  words n code = refusal_for (spot_of path (acting g) (node_at job.nodes n)) (stage_at stages n) code

  pub item_is : (n : ℕ) → mark_at items n ≡ mark_of (spot_of path (acting g) (node_at job.nodes n)) (stage_at stages n)
  item_is n = mark_here path (acting g) job.nodes stages n stand.one_stage

  one_value : (n : ℕ) → told n ≡ renamed words (one.values marks) n
  one_value n = ⊎_elim
      (λ (inside : n < length job.nodes).
      let s = stand.each n inside in
      let keeps = keeps_state graphs (actor_of g (node_at job.nodes n)) in
      ap (λ m. option_map (node_result keeps) (mark.answer_of m)) (item_is n)
      ∙ value_tie keeps (is_child_in kinds (node_at job.nodes n)) (IsFiring (node_at job.nodes n)) (spot_of path (acting g) (node_at job.nodes n)) (stage_at stages n) s.sort (stateless graphs g kinds kinds_are (node_at job.nodes n))
      ∙ ap (λ m. renamed_answer (words n) (one.value_of m)) (sym s.mark_is))
      (λ (past : length job.nodes ≤ n).
      let a : stage_at stages n ≡ Free = get_or_past stages n Free (let l = stand.one_stage in omega arith) in
      let b : one.mark_at marks n ≡ one.Free = get_or_past marks n one.Free (let l = stand.one_mark in omega arith) in
      let free : mark_at items n ≡ mark.Free = item_is n ∙ ap (mark_of (spot_of path (acting g) (node_at job.nodes n))) a in
      ap (λ m. option_map (node_result (keeps_state graphs (actor_of g (node_at job.nodes n)))) (mark.answer_of m)) free ∙ ap (λ m. renamed_answer (words n) (one.value_of m)) (sym b))
      (cases_lt n (length job.nodes))

  pub values_are : told ≡ renamed words (one.values marks)
  values_are = λ i n. one_value n i

  module _ (ready_words : ReadyInAnyWords ℤ ℕ Refusal) (input_words : InputsInAnyWords ℤ ℕ Refusal) where
    pub ready_told : (n : ℕ) → IsReady job (one.values marks) n → IsReady job told n
    ready_told n ready = subst (λ (v : flow.Values ℤ Refusal). IsReady job v n) (sym values_are) ((ready_words job words (one.values marks) n).0 ready)

    pub ready_own : (n : ℕ) → IsReady job told n → IsReady job (one.values marks) n
    ready_own n ready = (ready_words job words (one.values marks) n).1 (subst (λ (v : flow.Values ℤ Refusal). IsReady job v n) values_are ready)

    pub inputs_are : (n : ℕ) → inputs job told n ≡ inputs job (one.values marks) n
    inputs_are n = ap (λ (v : flow.Values ℤ Refusal). inputs job v n) values_are ∙ input_words job words (one.values marks) n

  -- ---- which are free

  pub free_item : (n : ℕ) → one.mark_at marks n ≡ one.Free → mark_at items n ≡ mark.Free
  free_item n free = ⊎_elim
      (λ (inside : n < length job.nodes).
      let s = stand.each n inside in
      item_is n ∙ free_job (keeps_state graphs (actor_of g (node_at job.nodes n))) (spot_of path (acting g) (node_at job.nodes n)) (stage_at stages n) (sym s.mark_is ∙ free))
      (λ (past : length job.nodes ≤ n).
      item_is n ∙ ap (mark_of (spot_of path (acting g) (node_at job.nodes n))) (get_or_past stages n Free (let l = stand.one_stage in omega arith)))
      (cases_lt n (length job.nodes))

  pub free_mark : (n : ℕ) → mark_at items n ≡ mark.Free → one.mark_at marks n ≡ one.Free
  free_mark n free = ⊎_elim
      (λ (inside : n < length job.nodes).
      let s = stand.each n inside in
      s.mark_is ∙ ap (job_mark (keeps_state graphs (actor_of g (node_at job.nodes n)))) (free_stage (spot_of path (acting g) (node_at job.nodes n)) (stage_at stages n) (sym (item_is n) ∙ free)))
      (λ (past : length job.nodes ≤ n). get_or_past marks n one.Free (let l = stand.one_mark in omega arith))
      (cases_lt n (length job.nodes))
