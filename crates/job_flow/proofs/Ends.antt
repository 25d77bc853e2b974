-- A settled job: which nodes are done, what its firings answered, and what it ends with.
use Rattle.std.proofs.Common.{◌≡◌, ℕ, zero, suc, ◌+◌, ◌<◌, ◌≤◌, true, false, ⊎_elim, List, [], ◌∷◌, ◌++◌, map, length, slice_index_or, Option, Some, None, Result, Ok, Err, refl, ap, sym, ◌∙◌, subst, append_assoc, arith}
use Rattle.std.specs.List.{AllByRecursion}
use Rattle.std.proofs.lemmas.Bool.{cases_Bool, cases_eq, cases_lt}
use Rattle.std.proofs.lemmas.List.{append-nil, length-append, length-map, get_or_past}
use Rattle.sdf_level.specs.Invariants.{how_many}
use Rattle.sdf_level.specs.Firings.{firings, actors_of, EachFiring}
use Rattle.sdf_level.specs.Run.{Fire, is_into_actor}
use Rattle.sdf_level.specs.Told.{Made}
use Rattle.sdf_level.specs.declared.link.Link.{Link}
use Rattle.sdf_level.specs.declared.node.Node.{Node}
use Rattle.sdf_level.specs.declared.node.Node.TheVariants as node
use Rattle.sdf_level.specs.declared.single_rate.Edge.{Edge}
use Rattle.sdf_level.specs.declared.turn.Turn.{Turn}
use Rattle.special_actors.specs.Copying.{joined}
use Rattle.single_rate.specs.declared.wire.Wire.{Wire}
use Rattle.single_rate.specs.Nodes.{kind, same}
use Rattle.single_rate.specs.Flow.{Given, IsFlow, arrives_at}
use Rattle.single_rate.specs.Delivers.{arrivals, at_firing, at_sinks, at_ends, arrived}
use Rattle.single_rate.specs.Laws.{AnswersTo}
use Rattle.single_rate.specs.Expanded.{place_of, by_nodes}
use Rattle.single_rate.specs.Tiers.{node_at, first_firing, IsOfFiring}
use Rattle.single_rate.proofs.Unique.{same-node}
use Rattle.job_flow.specs.Graphs.{JobGraph}
use Rattle.job_flow.specs.Frames.{Values, given, on, arriving, arriving_below, arriving_size, sizes_below, reads, inputs, lengths_written}
use Rattle.job_flow.specs.Events.{IsDone, IsFinished, IsReady, Allows, Settled}
use Rattle.job_flow.specs.Outcomes.{Failure, put_out, sunk, left_over, ended}
use Rattle.job_flow.proofs.Steady.{done-is}
use Rattle.job_flow.proofs.Collected.{arrives_at-is}
use Rattle.job_flow.proofs.Sized.{the-one}
use Rattle.job_flow.proofs.Flows.{IsNumbered, all-both, arriving-flows}
use Rattle.job_flow.proofs.Failures.{failed-fires, NoneFailed, IsFirst}

-- finished, but not with a fault
finished-done : {T F : Type 0} (o : Option (Result (List (List T)) F)) → IsFinished o → ((fault : F) → o ≡ Some (Err fault) → ⊥) → IsDone o
finished-done None finished none = absurd finished
finished-done (Some (Ok outs)) finished none = tt
finished-done (Some (Err fault)) finished none = none fault refl

-- what holds of each firing where it stands
each-firing : (P : List ℕ → ℕ → Type 0) (before rest : List ℕ) → ((some after : List ℕ) (b : ℕ) → rest ≡ some ++ b ∷ after → P (before ++ some) b) → EachFiring P before rest
each-firing P before [] each = tt
each-firing P before (b ∷ rest) each = (
  (let Q : List ℕ → Type 0 = λ l. P l b in subst Q (append-nil before) (each [] rest b refl)),
  each-firing P (before ++ b ∷ []) rest (λ some after c is. let Q : List ℕ → Type 0 = λ l. P l c in subst Q (sym (append_assoc before (b ∷ []) some)) (each (b ∷ some) after c (ap (λ (l : List ℕ). b ∷ l) is))),
)

module _ {T F : Type 0} (turns : List Turn) (job : JobGraph T) (num : IsNumbered job.level turns job.nodes job.edges) (fire : Fire T F) (v : Values T F) (settled : Settled job fire v) where
  abbrev N : List Node
  N = job.nodes

  abbrev E : List Edge
  E = job.edges

  -- nodes of an earlier tier than this are done, where none of them failed
  pub done-below : (top : ℕ) → ((n : ℕ) (fault : F) → n < length N → num.tier n < top → v n ≡ Some (Err fault) → ⊥) → (r n : ℕ) → n < length N → num.tier n < r → num.tier n < top → IsDone (v n)
  done-below top none zero n inside below early = absurd (omega arith)
  done-below top none (suc r) n inside below early =
      let before : AllByRecursion (λ e. e.head ≡ n → IsDone (v e.tail)) E = all-both (λ e. (e.tail < length N) × (e.head < length N)) (λ e. num.tier e.tail < num.tier e.head) (λ e. e.head ≡ n → IsDone (v e.tail))
      (λ e ends rises own. let s : num.tier e.head ≡ num.tier n = ap num.tier own in done-below top none r e.tail ends.0 (omega arith) (omega arith)) E num.ends num.rising in
      finished-done (v n) (settled.quiet n record { there = inside; before = before }) (λ fault failed. none n fault inside early failed)

  -- without a failure all are
  pub all-done : NoneFailed v 0 (length N) → (n : ℕ) → n < length N → IsDone (v n)
  all-done none n inside = done-below (suc (num.tier n)) (λ m fault there early failed. none m fault (omega arith) there failed) (suc (num.tier n)) n inside (omega arith) (omega arith)

  long : length (actors_of turns) ≡ length turns
  long = length-map turns (λ (t : Turn). t.actor)

  abbrev number : List ℕ → ℕ
  number before = first_firing job.level + length before

  firing-inside : (before after : List ℕ) (b : ℕ) → actors_of turns ≡ before ++ b ∷ after → number before < length N
  firing-inside before after b is = ⊎_elim
      (λ (lt : number before < length N). lt)
      (λ (ge : length N ≤ number before). absurd (let k : kind (node_at N (number before)) ≡ 2 = ap kind (num.stands before after b is) in let z : kind (node_at N (number before)) ≡ 0 = ap kind (get_or_past N (number before) (node.Source 0) ge) in omega arith))
      (cases_lt (number before) (length N))

  -- the first failure stands at its firing, and the nodes of earlier tiers are done
  pub record FailsAt (first : Failure F) : Type 0 where
    pub before : List ℕ
    pub actor : ℕ
    pub after : List ℕ
    pub list_is : actors_of turns ≡ before ++ actor ∷ after
    pub number_is : first.node ≡ number before
    pub done : (n : ℕ) → n < length N → num.tier n < num.tier first.node → IsDone (v n)

  pub fails-at : (first : Failure F) → IsFirst v 0 (length N) first → FailsAt first
  fails-at first is =
      let at-firing : (n : ℕ) (fault : F) → v n ≡ Some (Err fault) → IsOfFiring job.level turns n = λ n fault failed. num.all n (failed-fires fire (node_at N n) (inputs job v n) fault (settled.answered n (Err fault) failed).answers.allowed) in
      let here = at-firing first.node first.fault is.failed in
      let s = here.stands in
      let place_length = s.place_is in
      let at = here.number in
      let few : here.place < length turns = let l = long in let a : length (actors_of turns) ≡ length s.before + length (s.actor ∷ s.after) = ap length s.list_is ∙ length-append s.before (s.actor ∷ s.after) in omega arith in
      let top : ℕ = num.tier first.node in
      let top_is : top ≡ num.tier (first_firing job.level + here.place) = ap num.tier at in
      let none : (n : ℕ) (fault : F) → n < length N → num.tier n < top → v n ≡ Some (Err fault) → ⊥ = λ n fault inside early failed.
      let there = at-firing n fault failed in
      let at' = there.number in
      let tier_is : num.tier n ≡ num.tier (first_firing job.level + there.place) = ap num.tier at' in
      ⊎_elim
      (λ (lt : there.place < here.place). is.none n fault (omega arith) (omega arith) failed)
      (λ (ge : here.place ≤ there.place). ⊎_elim
      (λ (same_place : there.place ≡ here.place). absurd (let e : num.tier n ≡ top = tier_is ∙ ap (λ i. num.tier (first_firing job.level + i)) same_place ∙ sym top_is in omega arith))
      (λ (other : there.place ≡ here.place → ⊥).
      let t = there.stands in
      let p = t.place_is in
      let within : there.place < length turns = let l = long in let a : length (actors_of turns) ≡ length t.before + length (t.actor ∷ t.after) = ap length t.list_is ∙ length-append t.before (t.actor ∷ t.after) in omega arith in
      absurd (let o = num.in_order here.place there.place (omega arith) within in omega arith))
      (cases_eq there.place here.place))
      (cases_lt there.place here.place) in
      record {
        before = s.before;
        actor = s.actor;
        after = s.after;
        list_is = s.list_is;
        number_is = omega arith;
        done = λ n inside early. done-below top none (suc (num.tier n)) n inside (omega arith) early;
      }

  module _ (made : Made T) (made-is : (a k : ℕ) → place_of N (node.Firing a k) < length N → (outs : List (List T)) → v (place_of N (node.Firing a k)) ≡ Some (Ok outs) → made a k ≡ outs)
      (on0 : List (List T)) (flow : IsFlow record { sources = job.sources; delays = job.delays; made = made } (by_nodes N E) on0) where
    abbrev G : Given T
    G = record { sources = job.sources; delays = job.delays; made = made }

    abbrev W : List Wire
    W = by_nodes N E

    flows : (n : ℕ) → IsReady job v n → (port : ℕ) → arriving E (on v E) n port ≡ arrives_at W on0 (node_at N n) port
    flows n ready port = arriving-flows turns job num fire v settled.answered made made-is on0 flow n ready port ∙ sym (arrives_at-is N num.once n port ready.there E num.ends on0)

    -- what a firing reads
    below-flows : (n : ℕ) (m : Node) → node_at N n ≡ m → IsReady job v n → (ports : ℕ) → arriving_below E (on v E) n ports ≡ arrivals W on0 m ports
    below-flows n m at ready zero = refl
    below-flows n m at ready (suc port) = rw (below-flows n m at ready port, flows n ready port, at) refl

    pub firing-reads : (n b k : ℕ) → node_at N n ≡ node.Firing b k → IsReady job v n → inputs job v n ≡ at_firing job.level W on0 b k
    firing-reads n b k at ready = ap (λ (m : Node). reads job v m n) at ∙ below-flows n (node.Firing b k) at ready (how_many (is_into_actor b) job.level.links)

    -- a firing that is done answered what it sends
    pub answers-at : (before after : List ℕ) (b : ℕ) → actors_of turns ≡ before ++ b ∷ after → IsDone (v (number before)) → AnswersTo job.level fire G W on0 before b
    answers-at before after b is done =
        let n : ℕ = number before in
        let k : ℕ = firings b before in
        let at = num.stands before after b is in
        let outs = done-is (v n) done in
        let answer = settled.answered n (Ok outs.0) outs.1 in
        let place : place_of N (node.Firing b k) ≡ n = ap (place_of N) (sym at) ∙ num.once n (firing-inside before after b is) in
        let made_here : made b k ≡ outs.0 = made-is b k (let i = firing-inside before after b is in omega arith) outs.0 (ap v place ∙ outs.1) in
        let P : Node → Type 0 = λ m. Allows fire m (inputs job v n) (Ok outs.0) in
        let fired : fire b k (inputs job v n) (Ok outs.0) = subst P at answer.answers.allowed in
        let Q : List (List T) → Type 0 = λ ins. fire b k ins (Ok outs.0) in
        let R : List (List T) → Type 0 = λ o. fire b k (at_firing job.level W on0 b k) (Ok o) in
        subst R (sym made_here) (subst Q (firing-reads n b k at answer.ready) fired)

    pub answers-all : NoneFailed v 0 (length N) → EachFiring (AnswersTo job.level fire G W on0) [] (actors_of turns)
    answers-all none = each-firing (AnswersTo job.level fire G W on0) [] (actors_of turns) (λ before after b is. answers-at before after b is (all-done none (number before) (firing-inside before after b is)))

    pub answers-before : (first : Failure F) (at : FailsAt first) → EachFiring (AnswersTo job.level fire G W on0) [] at.before
    answers-before first at = each-firing (AnswersTo job.level fire G W on0) [] at.before (λ before after b is.
        let all : actors_of turns ≡ before ++ b ∷ (after ++ at.actor ∷ at.after) = at.list_is ∙ ap (λ (l : List ℕ). l ++ at.actor ∷ at.after) is ∙ append_assoc before (b ∷ after) (at.actor ∷ at.after) in
        let a : length at.before ≡ length before + length (b ∷ after) = ap length is ∙ length-append before (b ∷ after) in
        let l = long in
        let c : length (actors_of turns) ≡ length at.before + length (at.actor ∷ at.after) = ap length at.list_is ∙ length-append at.before (at.actor ∷ at.after) in
        let o = num.in_order (length before) (length at.before) (omega arith) (omega arith) in
        let s : num.tier first.node ≡ num.tier (number at.before) = ap num.tier at.number_is in
        answers-at before (after ++ at.actor ∷ at.after) b all (at.done (number before) (firing-inside before (after ++ at.actor ∷ at.after) b all) (omega arith)))

    pub fails-so : (first : Failure F) (at : FailsAt first) → v first.node ≡ Some (Err first.fault) → fire at.actor (firings at.actor at.before) (at_firing job.level W on0 at.actor (firings at.actor at.before)) (Err first.fault)
    fails-so first at failed =
        let n : ℕ = first.node in
        let k : ℕ = firings at.actor at.before in
        let node_is : node_at N n ≡ node.Firing at.actor k = ap (node_at N) at.number_is ∙ num.stands at.before at.after at.actor at.list_is in
        let answer = settled.answered n (Err first.fault) failed in
        let P : Node → Type 0 = λ m. Allows fire m (inputs job v n) (Err first.fault) in
        let fired : fire at.actor k (inputs job v n) (Err first.fault) = subst P node_is answer.answers.allowed in
        let Q : List (List T) → Type 0 = λ ins. fire at.actor k ins (Err first.fault) in
        subst Q (firing-reads n at.actor k node_is answer.ready) fired

    -- what a node that passes on has given
    module _ (none : NoneFailed v 0 (length N)) where
      out-flows : (m : Node) → ((n : ℕ) → reads job v m n ≡ arriving_below E (on v E) n 1) → ((ins outs : List (List T)) → Allows fire m ins (Ok outs) → joined outs ≡ joined ins) → ((n : ℕ) → lengths_written job m n ≡ sizes_below E n 1) → put_out N v m ≡ arrives_at W on0 m 0
      out-flows m as_read as_passed as_long = ⊎_elim
          (λ (there : place_of N m < length N).
          let n : ℕ = place_of N m in
          let at = num.found m there in
          let outs = done-is (v n) (all-done none n there) in
          let answer = settled.answered n (Ok outs.0) outs.1 in
          let P : Node → Type 0 = λ x. Allows fire x (reads job v x n) (Ok outs.0) in
          let passed : joined outs.0 ≡ joined (arriving_below E (on v E) n 1) = as_passed (reads job v m n) outs.0 (subst P at answer.answers.allowed) ∙ ap (λ (x : List (List T)). joined x) (as_read n) in
          let L : Node → Type 0 = λ x. map length outs.0 ≡ lengths_written job x n in
          let one : map length outs.0 ≡ sizes_below E n 1 = let l : L m = subst L at answer.answers.lengths in l ∙ as_long n in
          let only : slice_index_or outs.0 0 [] ≡ arriving E (on v E) n 0 = the-one outs.0 (arriving E (on v E) n 0) (arriving_size E n 0) one passed in
          ap (λ (o : Option (Result (List (List T)) F)). slice_index_or (given o) 0 []) outs.1 ∙ only ∙ flows n answer.ready 0 ∙ ap (λ (x : Node). arrives_at W on0 x 0) at)
          (λ (past : length N ≤ place_of N m).
          no-value (v (place_of N m)) refl past ∙ sym (no-arrival past E num.ends on0))
          (cases_lt (place_of N m) (length N))
        where
          no-value : (o : Option (Result (List (List T)) F)) → v (place_of N m) ≡ o → length N ≤ place_of N m → put_out N v m ≡ []
          no-value None is past = ap (λ (o : Option (Result (List (List T)) F)). slice_index_or (given o) 0 []) is
          no-value (Some a) is past = absurd (let r = (settled.answered (place_of N m) a is).ready.there in omega arith)

          no-arrival : length N ≤ place_of N m → (es : List Edge) → AllByRecursion (λ e. (e.tail < length N) × (e.head < length N)) es → (tokens : List (List T)) → arrives_at (by_nodes N es) tokens m 0 ≡ []
          no-arrival past [] ends tokens = refl
          no-arrival past (e ∷ es) ends [] = refl
          no-arrival past (e ∷ es) ends (x ∷ tokens) = ⊎_elim
              (λ (s : same m (node_at N e.head) ≡ true). absurd (let i : place_of N m ≡ e.head = ap (place_of N) (same-node m (node_at N e.head) s) ∙ num.once e.head ends.0.1 in let b = ends.0.1 in omega arith))
              (λ (s : same m (node_at N e.head) ≡ false). rw s (no-arrival past es ends.1 tokens))
              (cases_Bool (same m (node_at N e.head)))

      sinks-same : (t : ℕ) (rates : List ℕ) → sunk N v t rates ≡ at_sinks W on0 t rates
      sinks-same t [] = refl
      sinks-same t (r ∷ rates) = rw (out-flows (node.Sink t) (λ n. refl) (λ ins outs same. same) (λ n. refl), sinks-same (t + 1) rates) refl

      ends-same : (l : ℕ) (links : List Link) → left_over N v l links ≡ at_ends W on0 l links
      ends-same l [] = refl
      ends-same l (link ∷ links) = rw (out-flows (node.End l) (λ n. refl) (λ ins outs same. same) (λ n. refl), ends-same (l + 1) links) refl

      pub ended-flows : ended job v ≡ arrived job.level W on0
      ended-flows = rw (sinks-same 0 job.level.sinks, ends-same 0 job.level.links) refl
