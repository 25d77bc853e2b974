-- A settled job ends as the firing does in one thread.
use Rattle.std.proofs.Common.{◌≡◌, ℕ, zero, suc, ◌+◌, ◌<◌, Bool, false, ℤ, List, [], ◌∷◌, ◌++◌, length, slice_index, Option, Some, None, Result, Ok, Err, refl, ap, ◌∙◌, arith}
use Rattle.std.specs.List.{AllByRecursion}
use Rattle.std.specs.Option.{option_map}
use Rattle.pisdf_model.specs.InterfaceWires.{is_configuration}
use Rattle.pisdf_model.specs.declared.actor.Actor.{Actor}
use Rattle.pisdf_model.specs.declared.actor.Body.{Body}
use Rattle.pisdf_model.specs.declared.actor.Body.TheVariants.{Kernel, Config, Child, ConfigChild}
use Rattle.pisdf_model.specs.declared.graph.Graph.{Graph}
use Rattle.sdf_level.specs.View.{LevelView}
use Rattle.sdf_level.specs.Firings.{firings}
use Rattle.sdf_level.specs.Laws.{Firing as Made}
use Rattle.sdf_level.specs.LevelRun.{Ended, IsLevelRun}
use Rattle.sdf_level.specs.Run.{Fire, GoesOn, RunsFrom}
use Rattle.sdf_level.specs.Run as run
use Rattle.sdf_level.proofs.FiringLists.{firings-own}
use Rattle.sdf_level.specs.declared.node.Node.{Node}
use Rattle.sdf_level.specs.declared.node.Node.TheVariants as node
use Rattle.pisdf_meaning.specs.declared.firing.Firing.{Firing}
use Rattle.pisdf_meaning.specs.declared.refusal.Refusal.{Refusal}
use Rattle.nested_jobs.specs.Rules.{Task, Values}
use Rattle.job_flow.specs.Outcomes.{Failure, failure_from, failure_or}
use Rattle.job_rules.specs.Words as words
use Rattle.job_rules.specs.Words.{Answer, Gives, Schedules, Refuses, Compiles, answer_of}
use Rattle.job_rules.specs.Items.{Prepared, first_refusal, firing_task, node_base, node_result, node_values, refusal_or}
use Rattle.job_rules.proofs.Answered.{code}

-- ---- runs with other firings

pub inside_of : (xs : List ℕ) (i : ℕ) → 0 < slice_index xs i → i < length xs
inside_of [] i some = absurd (omega arith)
inside_of (x ∷ xs) zero some = omega arith
inside_of (x ∷ xs) (suc i) some = let again = inside_of xs i some in omega arith

each_below : (most : ℕ) (list : List ℕ) → ((b : ℕ) → 0 < firings b list → b < most) → AllByRecursion (λ b. b < most) list
each_below most [] below = tt
each_below most (b ∷ list) below = (below b (let one = firings-own b list in omega arith), each_below most list (λ c some. below c (omega arith)))

module _ (level : LevelView) (fire other : Fire ℤ Refusal) (most : ℕ) (also : (b k : ℕ) (ins : List (List ℤ)) (r : Result (List (List ℤ)) Refusal) → b < most → fire b k ins r → other b k ins r) (sources : List (List ℤ)) where
  goes_also : (P Q : List (List ℤ) → Type 0) (end r : Result (List (List ℤ)) Refusal) → ((outs : List (List ℤ)) → P outs → Q outs) → GoesOn P end r → GoesOn Q end r
  goes_also P Q end (Ok outs) more goes = more outs goes
  goes_also P Q end (Err fault) more goes = goes

  runs_also : (before : List ℕ) (lines : List (List ℤ)) (rest : List ℕ) (end : Result (List (List ℤ)) Refusal) → AllByRecursion (λ b. b < most) rest → RunsFrom level fire sources before lines rest end → RunsFrom level other sources before lines rest end
  runs_also before lines [] end below runs = runs
  runs_also before lines (b ∷ rest) end below runs = (
    runs.0,
    also b (firings b before) (run.inputs sources b (firings b before) level.links lines) runs.0 below.0 runs.1,
    goes_also (λ outs. RunsFrom level fire sources (before ++ b ∷ []) (run.put b outs level.links lines) rest end) (λ outs. RunsFrom level other sources (before ++ b ∷ []) (run.put b outs level.links lines) rest end) end runs.0
        (λ outs goes. runs_also (before ++ b ∷ []) (run.put b outs level.links lines) rest end below.1 goes) runs.2,
  )

  pub level_runs_also : (q : List ℕ) (delays : List (List ℤ)) (end : Result (Ended ℤ) Refusal) → length q ≡ most → IsLevelRun level q sources delays fire end → IsLevelRun level q sources delays other end
  level_runs_also q delays end many is = record {
    list = is.list;
    order = is.order;
    ends = record {
      lines = is.ends.lines;
      runs = runs_also [] delays is.list is.ends.lines (each_below most is.list (λ b some. let count = is.order.admissible.counts b in let low = inside_of q b (omega arith) in omega arith)) is.ends.runs;
      is_end = is.ends.is_end;
    };
  }

-- ---- what the elements tell

pub record Decoded (m : Node) (k b : ℕ) (read ins : List (List ℤ)) (o : Option (Result (List (List ℤ)) Refusal)) (r : Result (List (List ℤ)) Refusal) : Type 0 where
  pub node_is : m ≡ node.Firing b k
  pub read_is : read ≡ ins
  pub answer_is : o ≡ Some r

no_actor : {T : Type 0} (actors : ℕ) (b k : ℕ) (ins : List (List ℤ)) (r : Result (List (List ℤ)) Refusal) → b < actors → (let none : Made ℤ Refusal = record { actor = actors; turn = 0; inputs = []; answer = Ok [] } in let one : Made ℤ Refusal = record { actor = b; turn = k; inputs = ins; answer = r } in none ≡ one) → T
no_actor actors b k ins r below is = let same = ap (λ (x : Made ℤ Refusal). x.actor) is in absurd (omega arith)

pub decoded : (actors : ℕ) (m : Node) (read : List (List ℤ)) (o : Option (Result (List (List ℤ)) Refusal)) (b k : ℕ) (ins : List (List ℤ)) (r : Result (List (List ℤ)) Refusal) → b < actors → code actors m read o ≡ record { actor = b; turn = k; inputs = ins; answer = r } → Decoded m k b read ins o r
decoded actors (node.Source s) read o b k ins r below is = no_actor actors b k ins r below is
decoded actors (node.Init l) read o b k ins r below is = no_actor actors b k ins r below is
decoded actors (node.Firing a j) read None b k ins r below is = no_actor actors b k ins r below is
decoded actors (node.Firing a j) read (Some x) b k ins r below is =
    let actor = ap (λ (y : Made ℤ Refusal). y.actor) is in
    let turn = ap (λ (y : Made ℤ Refusal). y.turn) is in
    record { node_is = ap (λ c. node.Firing c j) actor ∙ ap (node.Firing b) turn; read_is = ap (λ (y : Made ℤ Refusal). y.inputs) is; answer_is = ap (λ (y : Made ℤ Refusal). Some y.answer) is }
decoded actors (node.Broadcast l) read o b k ins r below is = no_actor actors b k ins r below is
decoded actors (node.Fork l i) read o b k ins r below is = no_actor actors b k ins r below is
decoded actors (node.Join l j) read o b k ins r below is = no_actor actors b k ins r below is
decoded actors (node.Round l) read o b k ins r below is = no_actor actors b k ins r below is
decoded actors (node.End l) read o b k ins r below is = no_actor actors b k ins r below is
decoded actors (node.Sink t) read o b k ins r below is = no_actor actors b k ins r below is

-- ---- the first refusal

abbrev pub fault_of : Option (Failure Refusal) → Option Refusal
fault_of None = None
fault_of (Some first) = Some first.fault

module _ (graphs : List Graph) (g : Graph) (firing : Firing) (p : Prepared) (v : Values Answer) where
  one_refusal : (keeps : Bool) (i : ℕ) (o : Option Answer) (later : Option (Failure Refusal)) → refusal_or o (fault_of later) ≡ fault_of (failure_or i (option_map (node_result keeps) o) later)
  one_refusal keeps i None later = refl
  one_refusal keeps i (Some (Gives given)) later = refl
  one_refusal keeps i (Some (Schedules schedule)) later = refl
  one_refusal keeps i (Some (Refuses refusal)) later = refl

  pub node_refusals : (i m : ℕ) → first_refusal v (node_base g + i) m ≡ fault_of (failure_from (node_values graphs g firing p v) i m)
  node_refusals i zero = refl
  node_refusals i (suc m) =
      let e : node_base g + i + 1 ≡ node_base g + (i + 1) = omega arith in
      ap (refusal_or (v (node_base g + i))) (ap (λ k. first_refusal v k m) e ∙ node_refusals (i + 1) m) ∙ one_refusal _ i (v (node_base g + i)) (failure_from (node_values graphs g firing p v) (i + 1) m)

-- ---- tasks that are there

pub body_has_task : (graphs : List Graph) (g : Graph) (firing : Firing) (values : List ℤ) (b k : ℕ) (read : List (List ℤ)) (actor : Actor) (body : Body) → is_configuration body ≡ false → (t : Task Firing words.Work) × (firing_task graphs g firing values b k read actor body ≡ Some t)
body_has_task graphs g firing values b k read actor (Kernel kernel args ins outs) acts = (_, refl)
body_has_task graphs g firing values b k read actor (Child place args) acts = (_, refl)
body_has_task graphs g firing values b k read actor (Config kernel args ins outs sets) acts = absurd (cc)
body_has_task graphs g firing values b k read actor (ConfigChild place args sets) acts = absurd (cc)
