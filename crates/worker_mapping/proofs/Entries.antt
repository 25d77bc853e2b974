-- What the entries so far say, one entry more.
use Rattle.std.proofs.Common.{◌≡◌, ℕ, zero, suc, ◌+◌, ◌<◌, ◌≤◌, ⊎_elim, Bool, true, false, cond, eqb, ltb, not, ◌||◌, List, [], ◌∷◌, ◌++◌, max, map, length, arith, refl, ap, sym, ◌∙◌}
use Rattle.std.specs.List.{AllByRecursion, filter}
use Rattle.std.proofs.lemmas.List.{length-append, map-append, append-nil, append_assoc}
use Rattle.std.proofs.lemmas.List.Elements.{filter-append}
use Rattle.std.proofs.lemmas.Bool.{cases_eq, eq-eqb, ne_eqb, lt-ltb}
use Rattle.worker_mapping.specs.Graph.{CostedGraph, nodes_after, nodes_before, greatest}
use Rattle.worker_mapping.specs.Schedule.{last_end, end_of, is_placed, times_placed, ready_time, EachEntry}
use Rattle.sdf_level.specs.Lists.{occurrences}
use Rattle.worker_mapping.specs.Growing.{waiting_for, unplaced_below}
use Rattle.worker_mapping.specs.declared.entry.Entry.{Entry}
use Rattle.worker_mapping.proofs.Lists.{greatest-append, greatest-le, each-map, each-filter, each-always}

EachEntry-from : (P : List Entry → Entry → Type 0) (before rest : List Entry) (e : Entry) → EachEntry P before rest → P (before ++ rest) e → EachEntry P before (rest ++ e ∷ [])
EachEntry-from P before [] e each last = (rw append-nil at last, tt)
EachEntry-from P before (x ∷ rest) e each last = (each.0, EachEntry-from P (before ++ x ∷ []) rest e each.1 (rw append_assoc last))

pub EachEntry-push : (P : List Entry → Entry → Type 0) (placed : List Entry) (e : Entry) → EachEntry P [] placed → P placed e → EachEntry P [] (placed ++ e ∷ [])
EachEntry-push P placed e each last = EachEntry-from P [] placed e each last

-- every end is within this bound
abbrev pub EndWithin : ℕ → List Entry → Type 0
EndWithin bound placed = AllByRecursion (λ (e : Entry). e.end ≤ bound) placed

pub last_end-le : (bound : ℕ) (test : Entry → Bool) (placed : List Entry) → EndWithin bound placed → last_end test placed ≤ bound
last_end-le bound test placed all =
    greatest-le bound (map (λ (e : Entry). e.end) (filter test placed))
    (each-map (λ x. x ≤ bound) (λ (e : Entry). e.end) (filter test placed)
    (each-filter (λ (e : Entry). e.end ≤ bound) test placed all))

pub ready_time-le : (bound : ℕ) (graph : CostedGraph) (placed : List Entry) (n : ℕ) → EndWithin bound placed → ready_time graph placed n ≤ bound
ready_time-le bound graph placed n all =
    greatest-le bound (map (end_of placed) (nodes_before graph.edges n))
    (each-map (λ x. x ≤ bound) (end_of placed) (nodes_before graph.edges n)
    (each-always (λ m. end_of placed m ≤ bound) (λ m. last_end-le bound (λ (e : Entry). eqb e.node m) placed all) (nodes_before graph.edges n)))

module _ (placed : List Entry) (e : Entry) where
  pub is_placed-own : is_placed (placed ++ e ∷ []) e.node ≡ true
  is_placed-own = go placed where
    go : (xs : List Entry) → is_placed (xs ++ e ∷ []) e.node ≡ true
    go [] = rw (eq-eqb e.node e.node refl)
    go (x ∷ xs) = elim (eqb x.node e.node) as (λ b. ◌≡◌ {A = Bool} (b || (is_placed (xs ++ e ∷ []) e.node)) true) [ true ↦ refl | false ↦ go xs ]

  pub is_placed-other : (n : ℕ) → (e.node ≡ n → ⊥) → is_placed (placed ++ e ∷ []) n ≡ is_placed placed n
  is_placed-other n other = go placed where
    go : (xs : List Entry) → is_placed (xs ++ e ∷ []) n ≡ is_placed xs n
    go [] = rw (ne_eqb e.node n other)
    go (x ∷ xs) = ap (λ (b : Bool). eqb x.node n || b) (go xs)

  pub last_end-push : (test : Entry → Bool) → last_end test (placed ++ e ∷ []) ≡ max (last_end test placed) (cond (test e) e.end 0)
  last_end-push test =
      ap (λ (xs : List Entry). greatest (map (λ (x : Entry). x.end) xs)) (filter-append test placed (e ∷ []))
      ∙ ap greatest (map-append (λ (x : Entry). x.end) (filter test placed) (filter test (e ∷ [])))
      ∙ greatest-append (map (λ (x : Entry). x.end) (filter test placed)) (map (λ (x : Entry). x.end) (filter test (e ∷ [])))
      ∙ ap (max (last_end test placed)) (elim (test e) as (λ b. greatest (map (λ (x : Entry). x.end) (cond b (e ∷ []) [])) ≡ cond b e.end 0) [ true ↦ omega arith | false ↦ refl ])

  pub times_placed-push : (n : ℕ) → times_placed (placed ++ e ∷ []) n ≡ times_placed placed n + cond (eqb e.node n) 1 0
  times_placed-push n =
      ap length (filter-append (λ (x : Entry). eqb x.node n) placed (e ∷ []))
      ∙ length-append (filter (λ (x : Entry). eqb x.node n) placed) (filter (λ (x : Entry). eqb x.node n) (e ∷ []))
      ∙ ap (λ (k : ℕ). times_placed placed n + k) (elim (eqb e.node n) as (λ b. length (cond b (e ∷ []) []) ≡ cond b 1 0) [ true ↦ refl | false ↦ refl ])

  -- the first nodes, of which this is none
  unplaced_below-same : (n : ℕ) → n ≤ e.node → unplaced_below (placed ++ e ∷ []) n ≡ unplaced_below placed n
  unplaced_below-same zero h = refl
  unplaced_below-same (suc n) h = rw (is_placed-other n (λ same. (omega arith))) (ap (λ (k : ℕ). cond (is_placed placed n) 0 1 + k) (unplaced_below-same n (omega arith)))

  module _ (unplaced : is_placed placed e.node ≡ false) where
    pub unplaced_below-push : (n : ℕ) → e.node < n → unplaced_below (placed ++ e ∷ []) n + 1 ≡ unplaced_below placed n
    unplaced_below-push zero h = absurd (omega arith)
    unplaced_below-push (suc n) h = ⊎_elim
        (λ (same : e.node ≡ n).
        let now : is_placed (placed ++ e ∷ []) n ≡ true = rw (← same) is_placed-own in
        let was : is_placed placed n ≡ false = rw (← same) unplaced in
        rw (now, was) (let k = unplaced_below-same n (omega arith) in omega arith))
        (λ (other : e.node ≡ n → ⊥). rw (is_placed-other n other) (let k = unplaced_below-push n (omega arith) in omega arith))
        (cases_eq e.node n)

    -- each node after it waits for one node less, for each edge between them
    pub waiting_for-push : (edges : List (ℕ × ℕ)) (n : ℕ) → waiting_for edges (placed ++ e ∷ []) n + occurrences n (nodes_after edges e.node) ≡ waiting_for edges placed n
    waiting_for-push [] n = refl
    waiting_for-push (x ∷ edges) n =
        let rest = waiting_for-push edges n in
        ⊎_elim
        (λ (own : x.0 ≡ e.node). ⊎_elim
        (λ (to : x.1 ≡ n).
        let now : is_placed (placed ++ e ∷ []) x.0 ≡ true = rw own is_placed-own in
        let was : is_placed placed x.0 ≡ false = rw own unplaced in
        rw (eq-eqb x.0 e.node own, eq-eqb x.1 n to, now, was) (omega arith))
        (λ (away : x.1 ≡ n → ⊥). rw (eq-eqb x.0 e.node own, ne_eqb x.1 n away) (omega arith))
        (cases_eq x.1 n))
        (λ (other : x.0 ≡ e.node → ⊥). ⊎_elim
        (λ (to : x.1 ≡ n). rw (ne_eqb x.0 e.node other, eq-eqb x.1 n to, is_placed-other x.0 (λ s. other (sym s)))
        (elim (is_placed placed x.0) as (λ b. length (cond (not b) (x.0 ∷ filter (λ m. not (is_placed (placed ++ e ∷ []) m)) (nodes_before edges n)) (filter (λ m. not (is_placed (placed ++ e ∷ []) m)) (nodes_before edges n))) + occurrences n (nodes_after edges e.node) ≡ length (cond (not b) (x.0 ∷ filter (λ m. not (is_placed placed m)) (nodes_before edges n)) (filter (λ m. not (is_placed placed m)) (nodes_before edges n)))) [ true ↦ rest | false ↦ omega arith ]))
        (λ (away : x.1 ≡ n → ⊥). rw (ne_eqb x.0 e.node other, ne_eqb x.1 n away) rest)
        (cases_eq x.1 n))
        (cases_eq x.0 e.node)

  cond-le : (b : Bool) (x : ℕ) → cond b x 0 ≤ x
  cond-le true x = omega arith
  cond-le false x = omega arith

  end_of-own : end_of (placed ++ e ∷ []) e.node ≡ max (end_of placed e.node) e.end
  end_of-own = rw (last_end-push (λ (x : Entry). eqb x.node e.node), eq-eqb e.node e.node refl)

  end_of-other : (m : ℕ) → (e.node ≡ m → ⊥) → end_of (placed ++ e ∷ []) m ≡ end_of placed m
  end_of-other m other = rw (last_end-push (λ (x : Entry). eqb x.node m), ne_eqb e.node m other) (omega arith)

  -- each node after it is ready at its end or later
  pub ready-push : (edges : List (ℕ × ℕ)) (n : ℕ) → greatest (map (end_of (placed ++ e ∷ [])) (nodes_before edges n)) ≡ max (greatest (map (end_of placed) (nodes_before edges n))) (cond (ltb 0 (occurrences n (nodes_after edges e.node))) e.end 0)
  ready-push [] n = omega arith
  ready-push (x ∷ edges) n =
      let rest = ready-push edges n in
      ⊎_elim
      (λ (own : x.0 ≡ e.node). ⊎_elim
      (λ (to : x.1 ≡ n).
      let now : end_of (placed ++ e ∷ []) x.0 ≡ max (end_of placed x.0) e.end = rw own end_of-own in
      let small = cond-le (ltb 0 (occurrences n (nodes_after edges e.node))) e.end in
      rw (eq-eqb x.0 e.node own, eq-eqb x.1 n to, now, lt-ltb 0 (1 + occurrences n (nodes_after edges e.node)) (omega arith)) (omega arith))
      (λ (away : x.1 ≡ n → ⊥).
      let none : 0 + occurrences n (nodes_after edges e.node) ≡ occurrences n (nodes_after edges e.node) = omega arith in
      rw (eq-eqb x.0 e.node own, ne_eqb x.1 n away, none) rest)
      (cases_eq x.1 n))
      (λ (other : x.0 ≡ e.node → ⊥). ⊎_elim
      (λ (to : x.1 ≡ n).
      let now = end_of-other x.0 (λ s. other (sym s)) in
      rw (ne_eqb x.0 e.node other, eq-eqb x.1 n to, now) (omega arith))
      (λ (away : x.1 ≡ n → ⊥). rw (ne_eqb x.0 e.node other, ne_eqb x.1 n away) rest)
      (cases_eq x.1 n))
      (cases_eq x.0 e.node)
