-- The queues beside the lists that follow a schedule, one entry more.
use Rattle.std.proofs.Common.{◌≡◌, ℕ, ◌+◌, ◌^◌, ◌<◌, ◌≤◌, ⊎_elim, List, [], ◌∷◌, ◌++◌, length, slice_index, get_or, set, arith, refl, ◌∙◌}
use Rattle.std.specs.List.{AllByRecursion, Contains, All}
use Rattle.std.proofs.lemmas.List.{length_push}
use Rattle.std.proofs.lemmas.List.Elements.{All-from_recursion, Contains-get_or}
use Rattle.sdf_level.specs.Lists.{occurrences}
use Rattle.worker_mapping.specs.Graph.{CostedGraph, nodes_after, nodes_before, AreThere, Rise}
use Rattle.worker_mapping.specs.Neighbours.{AreCounted}
use Rattle.worker_mapping.specs.Schedule.{IsChoice, IsSchedule}
use Rattle.worker_mapping.specs.Choice.{IsNext}
use Rattle.worker_mapping.specs.Queues.{Takes, Queues}
use Rattle.worker_mapping.specs.Release.{ArePlacesOfZero, Releases}
use Rattle.worker_mapping.specs.declared.entry.Entry.{Entry}
use Rattle.worker_mapping.specs.declared.growing.Growing.{Growing}
use Rattle.worker_mapping.specs.declared.growing.Work.{Work}
use Rattle.worker_mapping.specs.Growing.{nodes_of, most_cost, unplaced_below, Schedules, IsWork, Begins, HasTaken, graph_in}
use Rattle.worker_mapping.proofs.Edges.{heads_are_there}
use Rattle.worker_mapping.proofs.Opening.{Key}
use Rattle.worker_mapping.proofs.Queued.{due_in, later_in, IsNext-from, Releases-queued, Queued-next, Queued-first, nodes-first}
use Rattle.worker_mapping.proofs.Entries.{EachEntry-push, unplaced_below-push}
use Rattle.worker_mapping.proofs.Placing.{Follows-none, waits-none, ready_small, ready-le, free-le, starts, node_there, node_unplaced, worker_there, enough, IsChoice-from, Follows-push, IsSchedule-from}
use Rattle.worker_mapping.proofs.Lists.{each-contains}

pub Schedules-first : (graph : CostedGraph) (workers : ℕ) (priority waiting ready free candidates : List ℕ) (later : List Key) → AreCounted graph.nodes graph.edges waiting → length ready ≡ graph.nodes → ((n : ℕ) → slice_index ready n ≡ 0) → length free ≡ workers → ((n : ℕ) → slice_index free n ≡ 0)
    → ArePlacesOfZero waiting candidates → Queues candidates ready [] later → Schedules graph workers priority [] waiting ready free 0 [] later
Schedules-first graph workers priority waiting ready free candidates later counted ready_long ready_none free_long free_none places queues = record {
  each = tt;
  follows = Follows-none graph workers waiting ready (nodes_of [] later) free counted ready_long ready_none free_long free_none
      (λ n. let same = nodes-first candidates ready later n queues in ((λ at. (places n).0 (same.0 at)), (λ zero. same.1 ((places n).1 zero))));
  queued = Queued-first priority ready free candidates later ready_none queues;
  slow = omega arith;
}

module _ (graph : CostedGraph) (workers : ℕ) (priority : List ℕ) (placed : List Entry) (waiting ready free : List ℕ) (now : ℕ) (due later : List Key) (s : Schedules graph workers priority placed waiting ready free now due later) where
  pub due_below : (key : Key) → Contains due key → key.1 < graph.nodes
  due_below key at = ((s.follows.candidates_each key.1).0 (due_in due later key at)).there

  pub later_below : All (λ key. key.1 < graph.nodes) later
  later_below k d below = ((s.follows.candidates_each (get_or later k d).1).0 (later_in due later (get_or later k d) (Contains-get_or later k d below))).there

  pub times_small : graph.nodes < 2 ^ 32 → All (λ key. key.0 + 2 ^ 32 < 2 ^ 64) later
  times_small few k d below =
      let there = later_below k d below in
      let is = s.queued.later_each (get_or later k d) (Contains-get_or later k d below) in
      let small = ready_small graph workers placed waiting ready (nodes_of due later) free s.follows few (get_or later k d).1 0 (let long = s.follows.ready_long in omega arith) in
      omega arith

  module _ (small : (n : ℕ) → slice_index priority n ≤ 18446744073709551615) (now' : ℕ) (due' later' : List Key) (e : Entry) (t : Takes graph.costs priority free now due later now' due' later' e) where
    pub taken_next : IsNext graph.costs priority (nodes_of due later) ready free e
    taken_next = IsNext-from graph.costs priority ready free now due later now' due' later' e small s.queued t

    pub taken_there : e.node < graph.nodes
    taken_there = node_there graph workers placed waiting ready (nodes_of due later) free s.follows priority e taken_next

    pub taken_less : unplaced_below (placed ++ e ∷ []) graph.nodes + 1 ≡ unplaced_below placed graph.nodes
    taken_less = unplaced_below-push placed e (node_unplaced graph workers placed waiting ready (nodes_of due later) free s.follows priority e taken_next) graph.nodes taken_there

    module _ (heads_there : AllByRecursion (λ n. n < graph.nodes) (nodes_after graph.edges e.node)) where
      pub taken_enough : (n : ℕ) → occurrences n (nodes_after graph.edges e.node) ≤ slice_index waiting n
      taken_enough = enough graph workers placed waiting ready (nodes_of due later) free s.follows priority e taken_next heads_there

      idle : (n : ℕ) → Contains (nodes_of due later) n → occurrences n (nodes_after graph.edges e.node) ≡ 0
      idle n at =
          let is = (s.follows.candidates_each n).0 at in
          let none = waits-none placed (nodes_before graph.edges n) is.after_all in
          let kept = s.follows.waiting_each n is.there in
          let less = taken_enough n in
          omega arith

      pub Schedules-more : slice_index graph.costs e.node ≤ most_cost → (waiting' ready' freed : List ℕ) (later'' : List Key) → Releases (nodes_after graph.edges e.node) e.end waiting ready [] waiting' ready' freed → Queues freed ready' later' later''
          → Schedules graph workers priority (placed ++ e ∷ []) waiting' ready' (set free e.worker e.end) now' due' later''
      Schedules-more cheap waiting' ready' freed later'' r queues =
          let released = Releases-queued graph.costs priority ready free now due later now' due' later' e small s.queued t (nodes_after graph.edges e.node) waiting waiting' ready' freed later'' r queues idle in
          record {
            each = EachEntry-push (IsChoice graph workers priority) placed e s.each (IsChoice-from graph workers placed waiting ready (nodes_of due later) free s.follows priority e taken_next);
            follows = Follows-push graph workers placed waiting ready (nodes_of due later) free s.follows priority e taken_next cheap waiting' ready' (nodes_of due' later'') released heads_there;
            queued = Queued-next graph.costs priority ready free now due later now' due' later' e small s.queued t (nodes_after graph.edges e.node) waiting waiting' ready' freed later'' r queues idle;
            slow = (
                let begins = starts graph workers placed waiting ready (nodes_of due later) free s.follows priority e taken_next in
                let by_ready = ready-le graph workers placed waiting ready (nodes_of due later) free s.follows e.node taken_there in
                let by_free = free-le graph workers placed waiting ready (nodes_of due later) free s.follows e.worker (worker_there graph workers placed waiting ready (nodes_of due later) free s.follows priority e taken_next) in
                let same = t.start in
                let long = length_push placed e in
                omega arith);
          }

-- those that are freed are nodes
pub freed_below : (graph : CostedGraph) (n : ℕ) (freed : List ℕ) (waiting ready waiting' ready' : List ℕ) (end : ℕ) → AllByRecursion (λ m. m < graph.nodes) (nodes_after graph.edges n) → Releases (nodes_after graph.edges n) end waiting ready [] waiting' ready' freed → All (λ m. m < graph.nodes) freed
freed_below graph n freed waiting ready waiting' ready' end heads r k d below = ⊎_elim
    (λ (none : Contains [] (get_or freed k d)). absurd (let h = none.1 in omega arith))
    (λ (some : Contains (nodes_after graph.edges n) (get_or freed k d) × (slice_index waiting' (get_or freed k d) ≡ 0)). each-contains (λ m. m < graph.nodes) (nodes_after graph.edges n) (get_or freed k d) heads some.0)
    ((r.candidates_each (get_or freed k d)).0 (Contains-get_or freed k d below))

-- where no candidate is left, the schedule is whole
pub finished : (graph : CostedGraph) (workers : ℕ) (priority ranks : List ℕ) (placed : List Entry) (waiting ready free : List ℕ) (now : ℕ) (due later : List Key) → AreThere graph.nodes graph.edges → Rise ranks graph.edges → due ≡ [] → later ≡ [] → Schedules graph workers priority placed waiting ready free now due later → IsSchedule graph workers priority placed
finished graph workers priority ranks placed waiting ready free now due later there rise no_due no_later s =
    let none : nodes_of due later ≡ [] = rw (no_due, no_later) refl in
    IsSchedule-from graph workers priority ranks placed waiting ready free there rise (rw none at s.follows) s.each

-- those that wait for none are queued
pub Schedules-begun : (w : Work) (g : Growing) (later : List Key) → Begins w g → Queues g.candidates.items g.ready.items [] later → Schedules (graph_in w) w.workers w.priority.now g.entries.items g.waiting.items g.ready.items g.free.items g.now g.due.keys later
Schedules-begun w g later b queues = rw (b.none, b.now, b.due) (Schedules-first (graph_in w) w.workers w.priority.now g.waiting.items g.ready.items g.free.items g.candidates.items later b.waiting b.ready_long b.ready b.free_long b.free b.candidates queues)

-- an entry was taken
module _ (w : Work) (e : Entry) (g : Growing) (is : IsWork w) (t : HasTaken w e g) where
  small : (n : ℕ) → slice_index w.priority.now n ≤ 18446744073709551615
  small n = let fits = is.small n in omega arith

  pub entry_there : e.node < w.nodes
  entry_there = taken_there (graph_in w) w.workers w.priority.now g.entries.items g.waiting.items g.ready.items g.free.items t.now t.due t.later t.so_far small g.now g.due.keys g.later.keys e t.takes

  heads_below : AllByRecursion (λ n. n < w.nodes) (nodes_after w.edges.now e.node)
  heads_below = heads_are_there w.nodes w.edges.now e.node is.edges

  pub heads_there : All (λ n. (n < length g.waiting.items) × (n < length g.ready.items)) (nodes_after w.edges.now e.node)
  heads_there =
      let all = All-from_recursion (λ n. n < w.nodes) (nodes_after w.edges.now e.node) heads_below in
      rw (t.so_far.follows.waiting_long, t.so_far.follows.ready_long) (λ k d below. let n = all k d below in (n, n))

  pub heads_wait : (n : ℕ) → occurrences n (nodes_after w.edges.now e.node) ≤ slice_index g.waiting.items n
  heads_wait = taken_enough (graph_in w) w.workers w.priority.now g.entries.items g.waiting.items g.ready.items g.free.items t.now t.due t.later t.so_far small g.now g.due.keys g.later.keys e t.takes heads_below

  pub one_fewer : unplaced_below (g.entries.items ++ e ∷ []) w.nodes + 1 ≡ unplaced_below g.entries.items w.nodes
  one_fewer = taken_less (graph_in w) w.workers w.priority.now g.entries.items g.waiting.items g.ready.items g.free.items t.now t.due t.later t.so_far small g.now g.due.keys g.later.keys e t.takes

  module _ (waiting' ready' freed : List ℕ) (released : Releases (nodes_after w.edges.now e.node) e.end g.waiting.items g.ready.items [] waiting' ready' freed) where
    pub released_there : All (λ n. n < length ready') freed
    released_there =
        let long : length ready' ≡ w.nodes = released.ready_long ∙ t.so_far.follows.ready_long in
        rw long (freed_below (graph_in w) e.node freed g.waiting.items g.ready.items waiting' ready' e.end heads_below released)

    pub Schedules-entered : (later'' : List Key) → Queues freed ready' g.later.keys later'' → Schedules (graph_in w) w.workers w.priority.now (g.entries.items ++ e ∷ []) waiting' ready' (set g.free.items e.worker e.end) g.now g.due.keys later''
    Schedules-entered later'' queues = Schedules-more (graph_in w) w.workers w.priority.now g.entries.items g.waiting.items g.ready.items g.free.items t.now t.due t.later t.so_far small g.now g.due.keys g.later.keys e t.takes heads_below (is.cheap e.node) waiting' ready' freed later'' released queues
