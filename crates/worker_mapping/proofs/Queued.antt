-- The queues of candidates give the choice of the rule: start times never fall.
use Rattle.std.proofs.Common.{◌≡◌, ℕ, zero, suc, ◌<◌, ◌≤◌, ◌⊎◌, ◌↔◌, inl, inr, ⊎_elim, eqb, not, List, [], ◌∷◌, max, map, length, set, slice_index, get_or, arith, refl, sym, ap, subst, ◌∙◌}
use Rattle.std.specs.List.{Contains, filter}
use Rattle.std.proofs.lemmas.Bool.{cases_lt, cases_eq, ne_eqb, eqb-false, not-true, lt-ltb}
use Rattle.std.proofs.lemmas.List.{get_or-map, length-map, length-set, get_or-set_same, get_or-set_other}
use Rattle.std.proofs.lemmas.List.Elements.{Contains-append_left, Contains-append_right, Contains-append_cases}
use Rattle.sdf_level.specs.Lists.{occurrences}
use Rattle.worker_mapping.specs.Choice.{Candidate, IsNotAfter, candidate_of, IsNext}
use Rattle.worker_mapping.specs.Growing.{node_in, nodes_of, Queued}
use Rattle.worker_mapping.specs.Queues.{urgency, time_of, Takes, Queues}
use Rattle.worker_mapping.specs.Release.{Releases}
use Rattle.worker_mapping.specs.declared.entry.Entry.{Entry}
use Rattle.worker_mapping.proofs.Opening.{Key, Contains-split, Contains-none}
use Rattle.worker_mapping.proofs.Placing.{Contains-filter, Contains-filtered}
use Rattle.worker_mapping.proofs.Releasing.{occurrences-from_Contains}

Contains-map : (keys : List Key) (key : Key) → Contains keys key → Contains (map node_in keys) key.1
Contains-map keys key at = (at.0, (let below = at.1 in let long = length-map keys node_in in omega arith), get_or-map node_in keys at.0 key key.1 at.1 ∙ ap node_in at.2)

Contains-unmap : (keys : List Key) (n : ℕ) → Contains (map node_in keys) n → (key : Key) × Contains keys key × (key.1 ≡ n)
Contains-unmap [] n at = absurd (let k = at.1 in omega arith)
Contains-unmap (x ∷ keys) n at = go (λ k below is. Contains-unmap keys n (k, below, is)) at.0 at.1 at.2 where
  go : ((k : ℕ) → k < length (map node_in keys) → get_or (map node_in keys) k n ≡ n → (key : Key) × Contains keys key × (key.1 ≡ n)) → (k : ℕ) → k < length (map node_in (x ∷ keys)) → get_or (map node_in (x ∷ keys)) k n ≡ n → (key : Key) × Contains (x ∷ keys) key × (key.1 ≡ n)
  go more zero below is = (x, (0, omega arith, refl), is)
  go more (suc k) below is = let rest = more k (omega arith) is in (rest.0, (suc rest.1.0, (let h = rest.1.1 in omega arith), rest.1.2), rest.2)

module _ (due later : List Key) where
  pub due_in : (key : Key) → Contains due key → Contains (nodes_of due later) key.1
  due_in key at = Contains-append_left (map node_in due) (map node_in later) key.1 (Contains-map due key at)

  pub later_in : (key : Key) → Contains later key → Contains (nodes_of due later) key.1
  later_in key at = Contains-append_right (map node_in due) (map node_in later) key.1 (Contains-map later key at)

  pub key_of : (n : ℕ) → Contains (nodes_of due later) n → ((key : Key) × Contains due key × (key.1 ≡ n)) ⊎ ((key : Key) × Contains later key × (key.1 ≡ n))
  key_of n at = ⊎_elim
      (λ (first : Contains (map node_in due) n). inl (Contains-unmap due n first))
      (λ (second : Contains (map node_in later) n). inr (Contains-unmap later n second))
      (Contains-append_cases (map node_in due) (map node_in later) n at)

time_above : (now free : ℕ) (due later : List Key) → max now free ≤ time_of now free due later
time_above now free [] [] = omega arith
time_above now free [] (k ∷ later) = omega arith
time_above now free (k ∷ due) later = omega arith

module _ (costs priority ready free : List ℕ) (now : ℕ) (due later : List Key) (now' : ℕ) (due' later' : List Key) (e : Entry) (small : (n : ℕ) → slice_index priority n ≤ 18446744073709551615) (q : Queued priority ready free now due later) (t : Takes costs priority free now due later now' due' later' e) where
  abbrev free_at : ℕ
  free_at = slice_index free e.worker

  after_last : now ≤ now'
  after_last = let h = time_above now free_at due later in let is = t.time in omega arith

  after_free : free_at ≤ now'
  after_free = let h = time_above now free_at due later in let is = t.time in omega arith

  -- what may start then, in terms of what is known of it
  middle_each : (key : Key) → Contains t.middle key → (key.0 ≡ urgency priority key.1) × (slice_index ready key.1 ≤ now') × Contains (nodes_of due later) key.1
  middle_each key at = ⊎_elim
      (λ (old : Contains due key). let each = q.due_each key old in (each.0, (let r = each.1 in let a = after_last in omega arith), due_in due later key old))
      (λ (moved : (old : Key) × Contains later old × (old.0 ≤ now') × (key ≡ (urgency priority old.1, old.1))).
      let node : key.1 ≡ moved.0.1 = ap node_in moved.3 in
      let urgent : key.0 ≡ urgency priority moved.0.1 = ap (λ (k : Key). k.0) moved.3 in
      let is = q.later_each moved.0 moved.1 in
      let come = moved.2 in
      (urgent ∙ ap (urgency priority) (sym node), rw node (omega arith), rw node (later_in due later moved.0 moved.1)))
      (t.moves.only key at)

  key_there : Contains t.middle t.key
  key_there = rw t.first (0, omega arith, refl)

  due_there : (key : Key) → Contains due' key → Contains t.middle key
  due_there key at = rw t.first (suc at.0, (let k = at.1 in omega arith), at.2)

  taken_each : (t.key.0 ≡ urgency priority t.key.1) × (slice_index ready t.key.1 ≤ now') × Contains (nodes_of due later) t.key.1
  taken_each = middle_each t.key key_there

  -- nothing can start earlier
  bound_below : (n : ℕ) → Contains (nodes_of due later) n → now' ≤ max (max now free_at) (slice_index ready n)
  bound_below n at = go due later t.time t.least at (q.later_each) where
    go : (d l : List Key) → now' ≡ time_of now free_at d l → (d ≡ [] → (key : Key) → Contains l key → now' ≤ max (max now free_at) key.0) → Contains (nodes_of d l) n → ((key : Key) → Contains l key → key.0 ≡ slice_index ready key.1) → now' ≤ max (max now free_at) (slice_index ready n)
    go [] l time least at each = ⊎_elim
        (λ (first : (key : Key) × Contains [] key × (key.1 ≡ n)). absurd (Contains-none first.0 first.1))
        (λ (second : (key : Key) × Contains l key × (key.1 ≡ n)). let is = each second.0 second.1 in let bound = least refl second.0 second.1 in rw second.2 at (let same : slice_index ready second.0.1 ≡ slice_index ready second.0.1 = refl in let r : now' ≤ max (max now free_at) (slice_index ready second.0.1) = omega arith in r))
        (key_of [] l n at)
    go (d ∷ ds) l time least at each = omega arith

  starts_after : (n : ℕ) → Contains (nodes_of due later) n → now' ≤ max (slice_index ready n) free_at
  starts_after n at =
      let bound = bound_below n at in
      let inside = t.worker.there in
      ⊎_elim
      (λ (frees : (w : ℕ) → w < length free → now ≤ slice_index free w). let h = frees e.worker inside in omega arith)
      (λ (readies : (m : ℕ) → Contains (nodes_of due later) m → now ≤ slice_index ready m). let h = readies n at in omega arith)
      q.onward

  start_is : now' ≡ max (slice_index ready t.key.1) free_at
  start_is =
      let up = starts_after t.key.1 taken_each.2 in
      let own = taken_each.1 in
      let free_below = after_free in
      omega arith

  -- a candidate that is ready by then may start
  comes : (n : ℕ) → Contains (nodes_of due later) n → slice_index ready n ≤ now' → Contains t.middle (urgency priority n, n)
  comes n at in_time = ⊎_elim
      (λ (first : (key : Key) × Contains due key × (key.1 ≡ n)).
      let each = q.due_each first.0 first.1 in
      let is : first.0 ≡ (urgency priority n, n) = λ i. ((each.0 ∙ ap (urgency priority) first.2) i, first.2 i) in
      subst (Contains t.middle) is (t.moves.kept first.0 first.1))
      (λ (second : (key : Key) × Contains later key × (key.1 ≡ n)). ⊎_elim
      (λ (still : Contains later' second.0). absurd (let past = t.moves.past second.0 still in let is = q.later_each second.0 second.1 in let r : slice_index ready second.0.1 ≡ slice_index ready n = ap (slice_index ready) second.2 in omega arith))
      (λ (moved : (second.0.0 ≤ now') × Contains t.middle (urgency priority second.0.1, second.0.1)). rw second.2 at moved.1)
      (t.moves.moved second.0 second.1))
      (key_of due later n at)

  abbrev chosen : Candidate
  chosen = candidate_of ready priority free_at t.key.1

  not_after : (n : ℕ) → Contains (nodes_of due later) n → IsNotAfter chosen (candidate_of ready priority free_at n)
  not_after n at = ⊎_elim
      (λ (less : now' < max (slice_index ready n) free_at). inl (let s = start_is in omega arith))
      (λ (same : max (slice_index ready n) free_at ≤ now').
      let bound = starts_after n at in
      let s = start_is in
      let in_time : slice_index ready n ≤ now' = omega arith in
      let there = comes n at in_time in
      let own = taken_each.0 in
      let p = small n in
      let p' = small t.key.1 in
      inr (
        omega arith,
        ⊎_elim
            (λ (is : t.key ≡ (urgency priority n, n)). let node : t.key.1 ≡ n = ap node_in is in let pr : slice_index priority t.key.1 ≡ slice_index priority n = ap (slice_index priority) node in inr (sym pr, omega arith))
            (λ (other : Contains due' (urgency priority n, n)). ⊎_elim
            (λ (urgent : t.key.0 < urgency priority n). inl (omega arith))
            (λ (tie : (t.key.0 ≡ urgency priority n) × (t.key.1 < n)). inr (let u = tie.0 in omega arith, let v = tie.1 in omega arith))
            (t.others (urgency priority n, n) other))
            (Contains-split t.key due' (urgency priority n, n) (rw t.first at there)),
      ))
      (cases_lt now' (max (slice_index ready n) free_at))

  pub IsNext-from : IsNext costs priority (nodes_of due later) ready free e
  IsNext-from = record {
    worker = t.worker;
    chosen = chosen;
    is_first = record { among = taken_each.2; is = refl; first = not_after };
    node = t.node;
    start = t.start ∙ start_is;
    end = t.end;
  }

  -- what is left of the candidates: all but the one taken
  left_of : (n : ℕ) → Contains (nodes_of due' later') n ↔ (Contains (nodes_of due later) n × (e.node ≡ n → ⊥))
  left_of n = (
    (λ at. ⊎_elim
        (λ (first : (key : Key) × Contains due' key × (key.1 ≡ n)).
        let each = middle_each first.0 (due_there first.0 first.1) in
        let other = t.others first.0 first.1 in (
          rw first.2 at each.2,
          λ same.
              let node : t.key.1 ≡ first.0.1 = sym t.node ∙ same ∙ sym first.2 in
              let urgent : t.key.0 ≡ first.0.0 = taken_each.0 ∙ ap (urgency priority) node ∙ sym each.0 in
              ⊎_elim
              (λ (less : t.key.0 < first.0.0). absurd (omega arith))
              (λ (tie : (t.key.0 ≡ first.0.0) × (t.key.1 < first.0.1)). absurd (let less = tie.1 in omega arith))
              other,
        ))
        (λ (second : (key : Key) × Contains later' key × (key.1 ≡ n)).
        let was = t.moves.left second.0 second.1 in
        let past = t.moves.past second.0 second.1 in
        let time = q.later_each second.0 was in (
          rw second.2 at (later_in due later second.0 was),
          λ same.
              let node : slice_index ready t.key.1 ≡ slice_index ready second.0.1 = ap (slice_index ready) (sym t.node ∙ same ∙ sym second.2) in
              let come = taken_each.1 in
              absurd (omega arith),
        ))
        (key_of due' later' n at)),
    (λ at. ⊎_elim
        (λ (first : (key : Key) × Contains due key × (key.1 ≡ n)).
        let there = t.moves.kept first.0 first.1 in
        ⊎_elim
        (λ (same : t.key ≡ first.0). absurd (at.1 (t.node ∙ ap node_in same ∙ first.2)))
        (λ (other : Contains due' first.0). rw first.2 at (due_in due' later' first.0 other))
        (Contains-split t.key due' first.0 (rw t.first at there)))
        (λ (second : (key : Key) × Contains later key × (key.1 ≡ n)). ⊎_elim
        (λ (still : Contains later' second.0). rw second.2 at (later_in due' later' second.0 still))
        (λ (moved : (second.0.0 ≤ now') × Contains t.middle (urgency priority second.0.1, second.0.1)). ⊎_elim
        (λ (same : t.key ≡ (urgency priority second.0.1, second.0.1)). absurd (at.1 (t.node ∙ ap node_in same ∙ second.2)))
        (λ (other : Contains due' (urgency priority second.0.1, second.0.1)). rw second.2 at (due_in due' later' (urgency priority second.0.1, second.0.1) other))
        (Contains-split t.key due' (urgency priority second.0.1, second.0.1) (rw t.first at moved.1)))
        (t.moves.moved second.0 second.1))
        (key_of due later n at.0)),
  )

  module _ (heads waiting waiting' ready' freed : List ℕ) (later'' : List Key) (r : Releases heads e.end waiting ready [] waiting' ready' freed) (queues : Queues freed ready' later' later'') (idle : (n : ℕ) → Contains (nodes_of due later) n → occurrences n heads ≡ 0) where
    freed_only : (n : ℕ) → Contains freed n → Contains heads n × (slice_index waiting' n ≡ 0)
    freed_only n at = ⊎_elim (λ (none : Contains [] n). absurd (let k = none.1 in omega arith)) (λ (some : Contains heads n × (slice_index waiting' n ≡ 0)). some) ((r.candidates_each n).0 at)

    pub Releases-queued : Releases heads e.end waiting ready (filter (λ n. not (eqb n e.node)) (nodes_of due later)) waiting' ready' (nodes_of due' later'')
    Releases-queued = record {
      waiting_long = r.waiting_long;
      waiting_each = r.waiting_each;
      ready_long = r.ready_long;
      ready_each = r.ready_each;
      candidates_each = λ n. (
        (λ at. ⊎_elim
            (λ (first : (key : Key) × Contains due' key × (key.1 ≡ n)). inl (stays n (rw first.2 at (due_in due' later' first.0 first.1))))
            (λ (second : (key : Key) × Contains later'' key × (key.1 ≡ n)). ⊎_elim
            (λ (old : Contains later' second.0). inl (stays n (rw second.2 at (later_in due' later' second.0 old))))
            (λ (new : Contains freed second.0.1 × (second.0.0 ≡ slice_index ready' second.0.1)). inr (rw second.2 at (freed_only second.0.1 new.0)))
            (queues.only second.0 second.1))
            (key_of due' later'' n at)),
        (λ at. ⊎_elim
            (λ (kept : Contains (filter (λ m. not (eqb m e.node)) (nodes_of due later)) n).
            let k = Contains-filtered (λ m. not (eqb m e.node)) (nodes_of due later) n kept in
            let there = (left_of n).1 (k.0, (λ (same : e.node ≡ n). eqb-false n e.node (not-true (eqb n e.node) k.1) (sym same))) in
            ⊎_elim
            (λ (first : (key : Key) × Contains due' key × (key.1 ≡ n)). rw first.2 at (due_in due' later'' first.0 first.1))
            (λ (second : (key : Key) × Contains later' key × (key.1 ≡ n)). rw second.2 at (later_in due' later'' second.0 (queues.kept second.0 second.1)))
            (key_of due' later' n there))
            (λ (new : Contains heads n × (slice_index waiting' n ≡ 0)). later_in due' later'' (slice_index ready' n, n) (queues.joined n ((r.candidates_each n).1 (inr new))))
            at),
      );
    } where
      stays : (n : ℕ) → Contains (nodes_of due' later') n → Contains (filter (λ m. not (eqb m e.node)) (nodes_of due later)) n
      stays n at =
          let was = (left_of n).0 at in
          Contains-filter (λ m. not (eqb m e.node)) (nodes_of due later) n was.0 (rw (ne_eqb n e.node (λ same. was.1 (sym same))) refl)

    ready_stays : (n : ℕ) → Contains (nodes_of due later) n → slice_index ready' n ≡ slice_index ready n
    ready_stays n at = let none = idle n at in let each = r.ready_each n in r.ready_each n ∙ rw none (omega arith)

    ends_after : now' ≤ e.end
    ends_after = let s = t.start in let d = t.end in omega arith

    freed_after : (n : ℕ) → Contains freed n → now' ≤ slice_index ready' n
    freed_after n at =
        let some = occurrences-from_Contains n heads (freed_only n at).0 in
        let each : slice_index ready' n ≡ max (slice_index ready n) e.end = r.ready_each n ∙ rw (lt-ltb 0 (occurrences n heads) some) refl in
        let h = ends_after in
        omega arith

    pub Queued-next : Queued priority ready' (set free e.worker e.end) now' due' later''
    Queued-next = record {
      due_each = λ key at. let each = middle_each key (due_there key at) in let stays = ready_stays key.1 each.2 in (each.0, (let r' = each.1 in omega arith));
      later_each = λ key at. ⊎_elim
          (λ (old : Contains later' key). let was = t.moves.left key old in q.later_each key was ∙ sym (ready_stays key.1 (later_in due later key was)))
          (λ (new : Contains freed key.1 × (key.0 ≡ slice_index ready' key.1)). new.1)
          (queues.only key at);
      onward = ⊎_elim
          (λ (waits : free_at < now'). inr (λ n at. ⊎_elim
          (λ (first : (key : Key) × Contains due' key × (key.1 ≡ n)). old_after waits n (((left_of n).0 (rw first.2 at (due_in due' later' first.0 first.1))).0))
          (λ (second : (key : Key) × Contains later'' key × (key.1 ≡ n)). ⊎_elim
          (λ (old : Contains later' second.0). old_after waits n (((left_of n).0 (rw second.2 at (later_in due' later' second.0 old))).0))
          (λ (new : Contains freed second.0.1 × (second.0.0 ≡ slice_index ready' second.0.1)). rw second.2 at (freed_after second.0.1 new.0))
          (queues.only second.0 second.1))
          (key_of due' later'' n at)))
          (λ (at_once : now' ≤ free_at). inl (λ w inside.
          let long = length-set free e.worker e.end in
          ⊎_elim
          (λ (own : e.worker ≡ w). rw (← own, get_or-set_same free e.worker e.end 0 t.worker.there) ends_after)
          (λ (other : e.worker ≡ w → ⊥).
          let least = t.worker.least w (omega arith) in
          rw (get_or-set_other free e.worker w e.end 0 (λ same. other (sym same))) (omega arith))
          (cases_eq e.worker w)))
          (cases_lt free_at now');
    } where
      old_after : free_at < now' → (n : ℕ) → Contains (nodes_of due later) n → now' ≤ slice_index ready' n
      old_after waits n at = let stays = ready_stays n at in let after = starts_after n at in omega arith

-- the queues at the start
pub Queued-first : (priority ready free candidates : List ℕ) (later : List Key) → ((n : ℕ) → slice_index ready n ≡ 0) → Queues candidates ready [] later → Queued priority ready free 0 [] later
Queued-first priority ready free candidates later none queues = record {
  due_each = λ key at. absurd (Contains-none key at);
  later_each = λ key at. ⊎_elim (λ (old : Contains [] key). absurd (Contains-none key old)) (λ (new : Contains candidates key.1 × (key.0 ≡ slice_index ready key.1)). new.1) (queues.only key at);
  onward = inl (λ w inside. omega arith);
}

pub nodes-first : (candidates ready : List ℕ) (later : List Key) (n : ℕ) → Queues candidates ready [] later → Contains (nodes_of [] later) n ↔ Contains candidates n
nodes-first candidates ready later n queues = (
  (λ at. ⊎_elim
      (λ (first : (key : Key) × Contains [] key × (key.1 ≡ n)). absurd (Contains-none first.0 first.1))
      (λ (second : (key : Key) × Contains later key × (key.1 ≡ n)). ⊎_elim
      (λ (old : Contains [] second.0). absurd (Contains-none second.0 old))
      (λ (new : Contains candidates second.0.1 × (second.0.0 ≡ slice_index ready second.0.1)). rw second.2 at new.0)
      (queues.only second.0 second.1))
      (key_of [] later n at)),
  (λ at. later_in [] later (slice_index ready n, n) (queues.joined n at)),
)
