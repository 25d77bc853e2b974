-- Each graph whose edges lead to nodes of greater rank has a list schedule, and so priorities and homes.
use Rattle.std.proofs.Common.{◌≡◌, ◌⊎◌, ⊎_elim, inl, inr, ℕ, zero, suc, ◌+◌, ◌<◌, ◌≤◌, max, Bool, true, false, cond, eqb, List, [], ◌∷◌, ◌++◌, length, map, get_or, replicate, set, take, slice_index, refl, sym, ap, ◌∙◌, subst, arith}
use Rattle.std.specs.List.{AllByRecursion, range_with_len}
use Rattle.std.proofs.lemmas.Bool.{cases_Bool, cases_eq, cases_lt, eq-eqb, ne_eqb}
use Rattle.std.proofs.lemmas.List.{length-replicate, length-set, take_all}
use Rattle.std.proofs.lemmas.List.Elements.{All-from_recursion, recursion_from_All}
use Rattle.std.proofs.lemmas.List.FromFn.{get_or-map-range_with_len, length-map-range_with_len}
use Rattle.sdf_level.specs.declared.single_rate.Edge.{Edge}
use Rattle.worker_mapping.specs.Costs.{AreCosts, cost_of}
use Rattle.worker_mapping.specs.Graph.{AreThere, CostedGraph, IsPriority, Rise, nodes_before}
use Rattle.worker_mapping.specs.Schedule.{AreHomes, EachEntry, GoesFirst, IsCandidate, IsChoice, IsFreeEarliest, IsLeastReady, IsSchedule, free_time, is_placed, ready_time, times_placed}
use Rattle.worker_mapping.specs.declared.entry.Entry.{Entry}
use Rattle.worker_mapping.proofs.Entries.{EachEntry-push, is_placed-other, is_placed-own, times_placed-push, unplaced_below-push}
use Rattle.worker_mapping.proofs.Homes.{HaveHomes, HaveHomes-more, nodes-there}
use Rattle.worker_mapping.specs.Growing.{unplaced_below}
use Rattle.worker_mapping.proofs.Lists.{each-at}
use Rattle.worker_mapping.proofs.Placing.{every_placed}
use Rattle.worker_mapping.proofs.Priorities.{IsPriority-from, priority_of}

-- ---- the first number of which something holds

module _ (P : ℕ → Type 0) (Le : ℕ → ℕ → Type 0) (test : (n : ℕ) → P n ⊎ (P n → ⊥)) (total : (a b : ℕ) → Le a b ⊎ Le b a) (through : (a b c : ℕ) → Le a b → Le b c → Le a c) where
  pub record IsMin (n k : ℕ) : Type 0 where
    pub below : k < n
    pub has : P k
    pub least : (j : ℕ) → j < n → P j → Le k j

  self : (a : ℕ) → Le a a
  self a = ⊎_elim (λ h. h) (λ h. h) (total a a)

  last : (j n : ℕ) → j < suc n → (j ≡ n) ⊎ (j < n)
  last j n h = grind arith

  pub min_below : (n : ℕ) → ((k : ℕ) × IsMin n k) ⊎ ((j : ℕ) → j < n → P j → ⊥)
  min_below zero = inr (λ j lt has. omega arith)
  min_below (suc n) = ⊎_elim
      (λ (found : (k : ℕ) × IsMin n k). inl (⊎_elim (λ has. with_last found has) (λ none. (found.0, kept found none)) (test n)))
      (λ none. ⊎_elim
      (λ has. inl (n, record { below = omega arith; has = has; least = λ j lt j_has. ⊎_elim (λ (e : j ≡ n). subst (λ (z : ℕ). Le n z) (sym e) (self n)) (λ (less : j < n). absurd (none j less j_has)) (last j n lt) }))
      (λ no. inr (λ j lt j_has. ⊎_elim (λ (e : j ≡ n). no (subst P e j_has)) (λ (less : j < n). none j less j_has) (last j n lt)))
      (test n))
      (min_below n)
    where
      kept : (found : (k : ℕ) × IsMin n k) → (P n → ⊥) → IsMin (suc n) found.0
      kept found none = record {
        below = (let l = found.1.below in omega arith);
        has = found.1.has;
        least = λ j lt has. ⊎_elim (λ (e : j ≡ n). absurd (none (subst P e has))) (λ (less : j < n). found.1.least j less has) (last j n lt);
      }

      with_last : (found : (k : ℕ) × IsMin n k) → P n → (k : ℕ) × IsMin (suc n) k
      with_last found has = ⊎_elim
          (λ (first : Le found.0 n). (
            found.0,
            record {
              below = (let l = found.1.below in omega arith);
              has = found.1.has;
              least = λ j lt j_has. ⊎_elim (λ (e : j ≡ n). subst (λ (z : ℕ). Le found.0 z) (sym e) first) (λ (less : j < n). found.1.least j less j_has) (last j n lt);
            },
          ))
          (λ (first : Le n found.0). (
            n,
            record {
              below = omega arith;
              has = has;
              least = λ j lt j_has. ⊎_elim (λ (e : j ≡ n). subst (λ (z : ℕ). Le n z) (sym e) (self n)) (λ (less : j < n). through n found.0 j first (found.1.least j less j_has)) (last j n lt);
            },
          ))
          (total found.0 n)

-- ---- a choice

module _ (graph : CostedGraph) (workers : ℕ) (some : 0 < workers) (priority : List ℕ) (placed : List Entry) where
  abbrev Placed : ℕ → Type 0
  Placed n = is_placed placed n ≡ true

  all_placed : (xs : List ℕ) → AllByRecursion Placed xs ⊎ (AllByRecursion Placed xs → ⊥)
  all_placed [] = inl tt
  all_placed (x ∷ xs) = ⊎_elim
      (λ (own : is_placed placed x ≡ true). ⊎_elim (λ rest. inl (own, rest)) (λ no. inr (λ all. no all.1)) (all_placed xs))
      (λ (not_own : is_placed placed x ≡ false). inr (λ all. let own : is_placed placed x ≡ true = all.0 in cc))
      (cases_Bool (is_placed placed x))

  candidate_or_not : (n : ℕ) → IsCandidate graph placed n ⊎ (IsCandidate graph placed n → ⊥)
  candidate_or_not n = ⊎_elim
      (λ (there : n < graph.nodes). ⊎_elim
      (λ (own : is_placed placed n ≡ true). inr (λ c. let none : is_placed placed n ≡ false = c.unplaced in cc))
      (λ (none : is_placed placed n ≡ false). ⊎_elim
      (λ all. inl record { there = there; unplaced = none; after_all = All-from_recursion Placed (nodes_before graph.edges n) all })
      (λ no. inr (λ c. no (recursion_from_All Placed (nodes_before graph.edges n) c.after_all)))
      (all_placed (nodes_before graph.edges n)))
      (cases_Bool (is_placed placed n)))
      (λ (past : graph.nodes ≤ n). inr (λ c. let l = c.there in omega arith))
      (cases_lt n graph.nodes)

  -- ---- the worker that is free earliest

  abbrev Freer : ℕ → ℕ → Type 0
  Freer v w = (free_time placed v < free_time placed w) ⊎ ((free_time placed v ≡ free_time placed w) × (v ≤ w))

  freer_total : (v w : ℕ) → Freer v w ⊎ Freer w v
  freer_total v w = ⊎_elim
      (λ (less : free_time placed v < free_time placed w). inl (inl less))
      (λ (more : free_time placed w ≤ free_time placed v). ⊎_elim
      (λ (less : free_time placed w < free_time placed v). inr (inl less))
      (λ (same : free_time placed v ≤ free_time placed w). ⊎_elim
      (λ (less : v < w). inl (inr (omega arith, omega arith)))
      (λ (le : w ≤ v). inr (inr (omega arith, le)))
      (cases_lt v w))
      (cases_lt (free_time placed w) (free_time placed v)))
      (cases_lt (free_time placed v) (free_time placed w))

  freer_through : (a b c : ℕ) → Freer a b → Freer b c → Freer a c
  freer_through a b c (inl h) (inl k) = inl (omega arith)
  freer_through a b c (inl h) (inr k) = inl (let e = k.0 in omega arith)
  freer_through a b c (inr h) (inl k) = inl (let e = h.0 in omega arith)
  freer_through a b c (inr h) (inr k) = let e = h.0 in let f = k.0 in let l = h.1 in let m = k.1 in inr (omega arith, omega arith)

  abbrev Any : ℕ → Type 0
  Any n = Unit {0}

  free_earliest : (w : ℕ) × IsFreeEarliest workers placed w
  free_earliest = ⊎_elim
      (λ found. (
        found.0,
        record {
          there = found.1.below;
          earliest = λ v lt. ⊎_elim (λ h. omega arith) (λ h. let e = h.0 in omega arith) (found.1.least v lt tt);
          least = λ v less. ⊎_elim (λ h. h) (λ h. let l = h.1 in absurd (omega arith)) (found.1.least v (let l = found.1.below in omega arith) tt);
        },
      ))
      (λ none. absurd (none 0 some tt))
      (min_below Any Freer (λ n. inl tt) freer_total freer_through workers)

  -- ---- the least ready time

  abbrev Sooner : ℕ → ℕ → Type 0
  Sooner a b = ready_time graph placed a ≤ ready_time graph placed b

  sooner_total : (a b : ℕ) → Sooner a b ⊎ Sooner b a
  sooner_total a b = ⊎_elim (λ (less : ready_time graph placed a < ready_time graph placed b). inl (omega arith)) (λ le. inr le) (cases_lt (ready_time graph placed a) (ready_time graph placed b))

  sooner_through : (a b c : ℕ) → Sooner a b → Sooner b c → Sooner a c
  sooner_through a b c h k = omega arith

  record HasLeast : Type 0 where
    ready : ℕ
    is : IsLeastReady graph placed ready

  least_ready : HasLeast ⊎ ((n : ℕ) → IsCandidate graph placed n → ⊥)
  least_ready = ⊎_elim
      (λ found. inl record { ready = ready_time graph placed found.0; is = record { candidate = found.0; is_candidate = found.1.has; reached = refl; least = λ n c. found.1.least n c.there c } })
      (λ none. inr (λ n c. none n c.there c))
      (min_below (IsCandidate graph placed) Sooner candidate_or_not sooner_total sooner_through graph.nodes)

  -- ---- the first of those that are ready

  first_total : (a b : ℕ) → GoesFirst priority a b ⊎ GoesFirst priority b a
  first_total a b = ⊎_elim
      (λ (less : slice_index priority b < slice_index priority a). inl (inl less))
      (λ (more : slice_index priority a ≤ slice_index priority b). ⊎_elim
      (λ (less : slice_index priority a < slice_index priority b). inr (inl less))
      (λ (same : slice_index priority b ≤ slice_index priority a). ⊎_elim
      (λ (less : a < b). inl (inr (omega arith, omega arith)))
      (λ (le : b ≤ a). inr (inr (omega arith, le)))
      (cases_lt a b))
      (cases_lt (slice_index priority a) (slice_index priority b)))
      (cases_lt (slice_index priority b) (slice_index priority a))

  first_through : (a b c : ℕ) → GoesFirst priority a b → GoesFirst priority b c → GoesFirst priority a c
  first_through a b c (inl h) (inl k) = inl (omega arith)
  first_through a b c (inl h) (inr k) = inl (let e = k.0 in omega arith)
  first_through a b c (inr h) (inl k) = inl (let e = h.0 in omega arith)
  first_through a b c (inr h) (inr k) = let e = h.0 in let f = k.0 in let l = h.1 in let m = k.1 in inr (omega arith, omega arith)

  abbrev ReadyBy : ℕ → ℕ → Type 0
  ReadyBy time n = IsCandidate graph placed n × (ready_time graph placed n ≤ time)

  ready_or_not : (time n : ℕ) → ReadyBy time n ⊎ (ReadyBy time n → ⊥)
  ready_or_not time n = ⊎_elim
      (λ c. ⊎_elim
      (λ (late : time < ready_time graph placed n). inr (λ r. let l = r.1 in omega arith))
      (λ (early : ready_time graph placed n ≤ time). inl (c, early))
      (cases_lt time (ready_time graph placed n)))
      (λ no. inr (λ r. no r.0))
      (candidate_or_not n)

  -- there is a choice, or no candidate
  pub choice : ((e : Entry) × IsChoice graph workers priority placed e) ⊎ ((n : ℕ) → IsCandidate graph placed n → ⊥)
  choice = ⊎_elim (λ least. inl (chosen least)) (λ none. inr none) least_ready
    where
      chosen : HasLeast → (e : Entry) × IsChoice graph workers priority placed e
      chosen least = ⊎_elim
          (λ found.
          let e : Entry = record { node = found.0; worker = free_earliest.0; start = start; end = start + slice_index graph.costs found.0 } in (
            e,
            record {
              worker = free_earliest.1;
              least_ready = least.ready;
              is_least_ready = least.is;
              start = refl;
              candidate = found.1.has.0;
              ready = found.1.has.1;
              first = λ n c ready. found.1.least n c.there (c, ready);
              end = refl;
            },
          ))
          (λ none. absurd (none least.is.candidate least.is.is_candidate.there (least.is.is_candidate, let r = least.is.reached in let l = later in omega arith)))
          (min_below (ReadyBy start) (GoesFirst priority) (ready_or_not start) first_total first_through graph.nodes)
        where
          start : ℕ
          start = max (free_time placed free_earliest.0) least.ready

          later : least.ready ≤ start
          later = omega arith

-- ---- all of them

module _ (graph : CostedGraph) (workers : ℕ) (some : 0 < workers) (ranks : List ℕ) (there : AreThere graph.nodes graph.edges) (rise : Rise ranks graph.edges) where
  module _ (priority : List ℕ) where
    record SoFar (placed : List Entry) : Type 0 where
      each : EachEntry (IsChoice graph workers priority) [] placed
      once : (n : ℕ) → times_placed placed n ≡ cond (is_placed placed n) 1 0

    more : (placed : List Entry) (e : Entry) → SoFar placed → IsChoice graph workers priority placed e → SoFar (placed ++ e ∷ [])
    more placed e so c = record {
      each = EachEntry-push (IsChoice graph workers priority) placed e so.each c;
      once = λ n.
          let count = times_placed-push placed e n in
          let was = so.once n in
          let none : is_placed placed e.node ≡ false = c.candidate.unplaced in
          ⊎_elim
          (λ (own : e.node ≡ n).
          let now : is_placed (placed ++ e ∷ []) n ≡ true = subst (λ (z : ℕ). is_placed (placed ++ e ∷ []) z ≡ true) own (is_placed-own placed e) in
          let before : is_placed placed n ≡ false = subst (λ (z : ℕ). is_placed placed z ≡ false) own none in
          let zeroth : times_placed placed n ≡ 0 = was ∙ ap (λ (b : Bool). cond b 1 0) before in
          let one : ◌≡◌ {A = ℕ} (cond (eqb e.node n) 1 0) 1 = ap (λ (b : Bool). cond b 1 0) (eq-eqb e.node n own) in
          let sum : times_placed (placed ++ e ∷ []) n ≡ 1 = omega arith in
          sum ∙ sym (ap (λ (b : Bool). cond b 1 0) now))
          (λ (other : e.node ≡ n → ⊥).
          let zeroth : ◌≡◌ {A = ℕ} (cond (eqb e.node n) 1 0) 0 = ap (λ (b : Bool). cond b 1 0) (ne_eqb e.node n other) in
          let same : times_placed (placed ++ e ∷ []) n ≡ times_placed placed n = omega arith in
          same ∙ (was ∙ ap (λ (b : Bool). cond b 1 0) (sym (is_placed-other placed e n other))))
          (cases_eq e.node n);
    }

    whole : (placed : List Entry) → SoFar placed → ((n : ℕ) → IsCandidate graph placed n → ⊥) → IsSchedule graph workers priority placed
    whole placed so none = record {
      each = so.each;
      once = λ n below. so.once n ∙ ap (λ (b : Bool). cond b 1 0) (every_placed graph ranks placed there rise none n below);
    }

    from : (fuel : ℕ) (placed : List Entry) → unplaced_below placed graph.nodes ≤ fuel → SoFar placed → (entries : List Entry) × IsSchedule graph workers priority entries
    from zero placed few so = ⊎_elim
        (λ c. let fewer = unplaced_below-push placed c.0 c.1.candidate.unplaced graph.nodes c.1.candidate.there in absurd (omega arith))
        (λ none. (placed, whole placed so none))
        (choice graph workers some priority placed)
    from (suc fuel) placed few so = ⊎_elim
        (λ c. let fewer = unplaced_below-push placed c.0 c.1.candidate.unplaced graph.nodes c.1.candidate.there in from fuel (placed ++ c.0 ∷ []) (omega arith) (more placed c.0 so c.1))
        (λ none. (placed, whole placed so none))
        (choice graph workers some priority placed)

    schedule : (entries : List Entry) × IsSchedule graph workers priority entries
    schedule = from (unplaced_below [] graph.nodes) [] (omega arith) record { each = tt; once = λ n. refl }

    homes_to : (entries : List Entry) → IsSchedule graph workers priority entries → (i : ℕ) → i ≤ length entries → (home : List ℕ) × (length home ≡ graph.nodes) × HaveHomes home (take i entries)
    homes_to entries is zero le = (replicate graph.nodes 0, length-replicate graph.nodes 0, tt)
    homes_to entries is (suc i) le =
        let d : Entry = record { node = 0; worker = 0; start = 0; end = 0 } in
        let before = homes_to entries is i (omega arith) in
        let e : Entry = get_or entries i d in
        let inside : e.node < graph.nodes = each-at (λ (x : Entry). x.node < graph.nodes) entries i d (omega arith) (nodes-there graph workers priority [] entries is.each) in
        let long = before.1 in
        let once = is.once e.node inside in
        let next : i + 1 ≡ suc i = omega arith in
        let made = HaveHomes-more before.0 entries i d (omega arith) (omega arith) (omega arith) before.2 in
        (set before.0 e.node e.worker, length-set before.0 e.node e.worker ∙ long, subst (λ (n : ℕ). HaveHomes (set before.0 e.node e.worker) (take n entries)) next made)

    pub homes : (home : List ℕ) × AreHomes graph workers priority home
    homes =
        let entries : List Entry = schedule.0 in
        let h = homes_to entries schedule.1 (length entries) (omega arith) in
        let all : HaveHomes h.0 entries = subst (HaveHomes h.0) (take_all (length entries) entries (omega arith)) h.2 in
        (h.0, record { entries = entries; schedule = schedule.1; one_each = h.1; each = All-from_recursion (λ (e : Entry). slice_index h.0 e.node ≡ e.worker) entries all })

  pub priorities : (priority : List ℕ) × IsPriority graph priority
  priorities =
      let list : List ℕ = map (priority_of graph ranks) (range_with_len 0 graph.nodes) in (
        list,
        IsPriority-from graph ranks there rise list (length-map-range_with_len (priority_of graph ranks) 0 graph.nodes)
            (λ n below. get_or-map-range_with_len (priority_of graph ranks) 0 graph.nodes n n 0 below (let e : 0 + n ≡ n = omega arith in e)),
      )

pub costs_made : (nodes : ℕ) (edges : List Edge) → (costs : List ℕ) × AreCosts nodes edges costs
costs_made nodes edges =
    let list : List ℕ = map (cost_of edges) (range_with_len 0 nodes) in (
      list,
      record {
        one_each = length-map-range_with_len (cost_of edges) 0 nodes;
        each = λ n below. get_or-map-range_with_len (cost_of edges) 0 nodes n n 0 below (let e : 0 + n ≡ n = omega arith in e);
      },
    )
