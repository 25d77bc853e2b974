-- The rule leaves no choice: one schedule, one list of homes.
use Rattle.std.proofs.Common.{◌≡◌, ℕ, ◌+◌, ◌<◌, ◌≤◌, ◌⊎◌, inl, inr, ⊎_elim, true, List, [], ◌∷◌, ◌++◌, max, slice_index, arith, refl, ap, sym, subst, ◌∙◌}
use Rattle.std.proofs.lemmas.List.{ext_get_or, append_assoc, append-nil}
use Rattle.std.proofs.lemmas.List.Elements.{recursion_from_All}
use Rattle.std.proofs.lemmas.Bool.{cases_order, cases_eq, true≢false, eq-eqb, ne_eqb}
use Rattle.worker_mapping.specs.Graph.{CostedGraph}
use Rattle.worker_mapping.specs.Schedule.{free_time, is_placed, times_placed, IsFreeEarliest, IsLeastReady, GoesFirst, IsChoice, EachEntry, IsSchedule, AreHomes}
use Rattle.worker_mapping.specs.declared.entry.Entry.{Entry}
use Rattle.worker_mapping.proofs.Homes.{HaveHomes}

module _ (graph : CostedGraph) (workers : ℕ) (priority : List ℕ) where
  IsFreeEarliest-unique : (placed : List Entry) (v w : ℕ) → IsFreeEarliest workers placed v → IsFreeEarliest workers placed w → v ≡ w
  IsFreeEarliest-unique placed v w a b = ⊎_elim
      (λ (same : v ≡ w). same)
      (λ (apart : (v < w) ⊎ (w < v)). absurd (⊎_elim
      (λ (less : v < w). let x = b.least v less in let y = a.earliest w b.there in go x y)
      (λ (more : w < v). let x = a.least w more in let y = b.earliest v a.there in go x y)
      apart))
      (cases_order v w) where
        go : {m n : ℕ} → m < n → n ≤ m → ⊥
        go h k = omega arith

  IsLeastReady-unique : (placed : List Entry) (r s : ℕ) → IsLeastReady graph placed r → IsLeastReady graph placed s → r ≡ s
  IsLeastReady-unique placed r s a b =
      let x = a.least b.candidate b.is_candidate in
      let y = b.least a.candidate a.is_candidate in
      let p = a.reached in
      let q = b.reached in
      omega arith

  GoesFirst-unique : (n m : ℕ) → GoesFirst priority n m → GoesFirst priority m n → n ≡ m
  GoesFirst-unique n m (inl h) (inl k) = absurd (omega arith)
  GoesFirst-unique n m (inl h) (inr k) = absurd (let e = k.0 in omega arith)
  GoesFirst-unique n m (inr h) (inl k) = absurd (let e = h.0 in omega arith)
  GoesFirst-unique n m (inr h) (inr k) = let x = h.1 in let y = k.1 in omega arith

  IsChoice-unique : (placed : List Entry) (a b : Entry) → IsChoice graph workers priority placed a → IsChoice graph workers priority placed b → a ≡ b
  IsChoice-unique placed a b x y =
      let worker : a.worker ≡ b.worker = IsFreeEarliest-unique placed a.worker b.worker x.worker y.worker in
      let least = IsLeastReady-unique placed x.least_ready y.least_ready x.is_least_ready y.is_least_ready in
      let start : a.start ≡ b.start = x.start ∙ ap (λ (w : ℕ). max (free_time placed w) x.least_ready) worker ∙ ap (max (free_time placed b.worker)) least ∙ sym y.start in
      let node : a.node ≡ b.node = GoesFirst-unique a.node b.node (x.first b.node y.candidate (let r = y.ready in omega arith)) (y.first a.node x.candidate (let r = x.ready in omega arith)) in
      let end : a.end ≡ b.end = x.end ∙ ap (λ (n : ℕ). a.start + slice_index graph.costs n) node ∙ ap (λ (t : ℕ). t + slice_index graph.costs b.node) start ∙ sym y.end in
      λ i. record { node = node i; worker = worker i; start = start i; end = end i }

  -- a placed node is no candidate, so no entry follows where all are placed
  ends_here : (placed rest : List Entry) → ((n : ℕ) → n < graph.nodes → is_placed placed n ≡ true) → EachEntry (IsChoice graph workers priority) placed rest → rest ≡ []
  ends_here placed [] all each = refl
  ends_here placed (e ∷ rest) all each = absurd (let k = each.0.candidate in true≢false (sym (all e.node k.there) ∙ k.unplaced))

  same_from : (placed one other : List Entry) → EachEntry (IsChoice graph workers priority) placed one → EachEntry (IsChoice graph workers priority) placed other
      → ((n : ℕ) → n < graph.nodes → is_placed (placed ++ one) n ≡ true) → ((n : ℕ) → n < graph.nodes → is_placed (placed ++ other) n ≡ true) → one ≡ other
  same_from placed [] other x y all all' = sym (ends_here placed other (rw append-nil at all) y)
  same_from placed (e ∷ one) [] x y all all' = ends_here placed (e ∷ one) (rw append-nil at all') x
  same_from placed (e ∷ one) (f ∷ other) x y all all' =
      let same : e ≡ f = IsChoice-unique placed e f x.0 y.0 in
      let y' : EachEntry (IsChoice graph workers priority) (placed ++ e ∷ []) other = subst (λ (g : Entry). EachEntry (IsChoice graph workers priority) (placed ++ g ∷ []) other) (sym same) y.1 in
      let whole : (n : ℕ) → n < graph.nodes → is_placed ((placed ++ e ∷ []) ++ other) n ≡ true = λ n b. rw append_assoc (subst (λ (g : Entry). is_placed (placed ++ g ∷ other) n ≡ true) (sym same) (all' n b)) in
      let rest = same_from (placed ++ e ∷ []) one other x.1 y' (λ n b. rw append_assoc (all n b)) whole in
      cc

  placed-from_once : (entries : List Entry) (n : ℕ) → times_placed entries n ≡ 1 → is_placed entries n ≡ true
  placed-from_once [] n once = absurd (omega arith)
  placed-from_once (e ∷ entries) n once = ⊎_elim
      (λ (own : e.node ≡ n). rw (eq-eqb e.node n own))
      (λ (other : e.node ≡ n → ⊥). rw (ne_eqb e.node n other) (placed-from_once entries n (rw (ne_eqb e.node n other) at once)))
      (cases_eq e.node n)

  -- two schedules are one
  pub IsSchedule-unique : (one other : List Entry) → IsSchedule graph workers priority one → IsSchedule graph workers priority other → one ≡ other
  IsSchedule-unique one other x y = same_from [] one other x.each y.each (λ n b. placed-from_once one n (x.once n b)) (λ n b. placed-from_once other n (y.once n b))

  -- the home of a node that has an entry
  home_of : (home other : List ℕ) (entries : List Entry) (n : ℕ) → HaveHomes home entries → HaveHomes other entries → is_placed entries n ≡ true → slice_index home n ≡ slice_index other n
  home_of home other [] n x y placed = absurd (true≢false (sym placed))
  home_of home other (e ∷ entries) n x y placed = ⊎_elim
      (λ (own : e.node ≡ n). rw (← own) (x.0 ∙ sym y.0))
      (λ (away : e.node ≡ n → ⊥). home_of home other entries n x.1 y.1 (rw (ne_eqb e.node n away) at placed))
      (cases_eq e.node n)

  -- the homes are one list
  pub AreHomes-unique : (home other : List ℕ) → AreHomes graph workers priority home → AreHomes graph workers priority other → home ≡ other
  AreHomes-unique home other x y =
      let same : x.entries ≡ y.entries = IsSchedule-unique x.entries y.entries x.schedule y.schedule in
      let each : HaveHomes other x.entries = subst (HaveHomes other) (sym same) (recursion_from_All (λ (e : Entry). slice_index other e.node ≡ e.worker) y.entries y.each) in
      ext_get_or 0 home other (x.one_each ∙ sym y.one_each) (λ n below. home_of home other x.entries n (recursion_from_All (λ (e : Entry). slice_index home e.node ≡ e.worker) x.entries x.each) each (placed-from_once x.entries n (x.schedule.once n (let l = x.one_each in omega arith))))
