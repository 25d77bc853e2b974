-- The finish of a node of a job.
use Rattle.std.proofs.Common.{◌≡◌, ℕ, zero, suc, ◌+◌, ◌<◌, ◌≤◌, Bool, true, false, List, [], ◌∷◌, length, set, refl, sym, ap, ap₂, ◌∙◌, subst, arith}
use Rattle.std.specs.Prelude.{◌≢◌, ◌==◌, ◌&&◌, slice_index_or, if◌then◌else◌}
use Rattle.std.proofs.lemmas.Bool.{and_parts, eqb-true}
use Rattle.sdf_level.specs.declared.link.Link.{Link}
use Rattle.sdf_level.specs.declared.node.Node.{Node}
use Rattle.sdf_level.specs.declared.node.Node.TheVariants as node
use Rattle.single_rate.specs.Nodes.{kind, subject, turn_of, same}
use Rattle.single_rate.specs.Expanded.{place_of}
use Rattle.job_flow.specs.Graphs.{node_at}
use Rattle.job_flow.specs.Frames.{given as flow_given}
use Rattle.job_flow.specs.Outcomes.{put_out, sunk, left_over}
use Rattle.one_job.specs.Marks.{Mark, mark_at, values, value_of}
use Rattle.one_job.specs.Ports.{with_left, with_out}
use Rattle.one_job.proofs.Phases.{mark_there, mark_elsewhere}

-- ---- the ends of the job after one more node

-- a node is found at its number
found_step : (m : Node) (list : List Node) (which : Node) (b : Bool) → same which m ≡ b → (place_of list which < length list → same which (node_at list (place_of list which)) ≡ true) → (n : ℕ) → (if b then 0 else (1 + place_of list which)) ≡ n → n < length (m ∷ list) → same which (node_at (m ∷ list) n) ≡ true
found_step m list which true here rest n at inside = subst (λ i. same which (node_at (m ∷ list) i) ≡ true) at here
found_step m list which false there rest zero at inside = absurd (let bad : ⊥ = omega arith in bad)
found_step m list which false there rest (suc i) at inside =
    let i_is : place_of list which ≡ i = omega arith in
    subst (λ q. same which (node_at list q) ≡ true) i_is (rest (omega arith))

found_at : (list : List Node) (which : Node) (n : ℕ) → place_of list which ≡ n → n < length list → same which (node_at list n) ≡ true
found_at [] which n is inside = absurd (let bad : ⊥ = omega arith in bad)
found_at (m ∷ list) which n is inside = found_step m list which (same which m) refl (λ below. found_at list which (place_of list which) refl below) n is inside

module _ (list : List Node) (marks : List Mark) (n : ℕ) (m : Mark) (inside : n < length list) (marked : n < length marks) (before : flow_given (value_of (mark_at marks n)) ≡ []) where
  abbrev later : List Mark
  later = set marks n m

  -- a node at another number
  put_other : (which : Node) → (same which (node_at list n) ≡ true → ⊥) → put_out list (values later) which ≡ put_out list (values marks) which
  put_other which differs =
      ap (λ (k : Mark). slice_index_or (flow_given (value_of k)) 0 []) (mark_elsewhere marks n (place_of list which) m (λ at. differs (found_at list which n at inside)))

  put_here : (which : Node) → place_of list which ≡ n → put_out list (values later) which ≡ slice_index_or (flow_given (value_of m)) 0 []
  put_here which at = ap (λ (k : Mark). slice_index_or (flow_given (value_of k)) 0 []) (ap (mark_at later) at ∙ mark_there marks n m marked)

  sunk_above : (t : ℕ) (rates : List ℕ) → ((s : ℕ) → t ≤ s → same (node.Sink s) (node_at list n) ≡ true → ⊥) → sunk list (values later) t rates ≡ sunk list (values marks) t rates
  sunk_above t [] differs = refl
  sunk_above t (rate ∷ rates) differs = ap₂ (λ x xs. x ∷ xs) (put_other (node.Sink t) (differs t (omega arith))) (sunk_above (t + 1) rates (λ s above. differs s (omega arith)))

  left_above : (l : ℕ) (links : List Link) → ((s : ℕ) → l ≤ s → same (node.End s) (node_at list n) ≡ true → ⊥) → left_over list (values later) l links ≡ left_over list (values marks) l links
  left_above l [] differs = refl
  left_above l (link ∷ links) differs = ap₂ (λ x xs. x ∷ xs) (put_other (node.End l) (differs l (omega arith))) (left_above (l + 1) links (λ s above. differs s (omega arith)))

  module _ (w : ℕ) where
    sunk_at : node_at list n ≡ node.Sink w → place_of list (node.Sink w) ≡ n → (t k : ℕ) → t + k ≡ w → (rates : List ℕ) → sunk list (values later) t rates ≡ set (sunk list (values marks) t rates) k (slice_index_or (flow_given (value_of m)) 0 [])
    sunk_at here at t k is [] = refl
    sunk_at here at t zero is (rate ∷ rates) =
        ap₂ (λ x xs. x ∷ xs) (put_here (node.Sink t) (ap (λ s. place_of list (node.Sink s)) (let e : t ≡ w = omega arith in e) ∙ at))
        (sunk_above (t + 1) rates (λ s above found.
        let parts = and_parts (kind (node.Sink s) == kind (node_at list n)) ((subject (node.Sink s) == subject (node_at list n)) && (turn_of (node.Sink s) == turn_of (node_at list n))) found in
        let sub = and_parts (subject (node.Sink s) == subject (node_at list n)) (turn_of (node.Sink s) == turn_of (node_at list n)) parts.1 in
        let same_s : s ≡ w = eqb-true s (subject (node_at list n)) sub.0 ∙ ap subject here in
        let bad : ⊥ = omega arith in bad))
    sunk_at here at t (suc k) is (rate ∷ rates) =
        ap₂ (λ x xs. x ∷ xs) (put_other (node.Sink t) (λ found.
        let parts = and_parts (kind (node.Sink t) == kind (node_at list n)) ((subject (node.Sink t) == subject (node_at list n)) && (turn_of (node.Sink t) == turn_of (node_at list n))) found in
        let sub = and_parts (subject (node.Sink t) == subject (node_at list n)) (turn_of (node.Sink t) == turn_of (node_at list n)) parts.1 in
        let same_t : t ≡ w = eqb-true t (subject (node_at list n)) sub.0 ∙ ap subject here in
        let bad : ⊥ = omega arith in bad))
        (sunk_at here at (t + 1) k (omega arith) rates)

    left_at : node_at list n ≡ node.End w → place_of list (node.End w) ≡ n → (t k : ℕ) → t + k ≡ w → (links : List Link) → left_over list (values later) t links ≡ set (left_over list (values marks) t links) k (slice_index_or (flow_given (value_of m)) 0 [])
    left_at here at t k is [] = refl
    left_at here at t zero is (link ∷ links) =
        ap₂ (λ x xs. x ∷ xs) (put_here (node.End t) (ap (λ s. place_of list (node.End s)) (let e : t ≡ w = omega arith in e) ∙ at))
        (left_above (t + 1) links (λ s above found.
        let parts = and_parts (kind (node.End s) == kind (node_at list n)) ((subject (node.End s) == subject (node_at list n)) && (turn_of (node.End s) == turn_of (node_at list n))) found in
        let sub = and_parts (subject (node.End s) == subject (node_at list n)) (turn_of (node.End s) == turn_of (node_at list n)) parts.1 in
        let same_s : s ≡ w = eqb-true s (subject (node_at list n)) sub.0 ∙ ap subject here in
        let bad : ⊥ = omega arith in bad))
    left_at here at t (suc k) is (link ∷ links) =
        ap₂ (λ x xs. x ∷ xs) (put_other (node.End t) (λ found.
        let parts = and_parts (kind (node.End t) == kind (node_at list n)) ((subject (node.End t) == subject (node_at list n)) && (turn_of (node.End t) == turn_of (node_at list n))) found in
        let sub = and_parts (subject (node.End t) == subject (node_at list n)) (turn_of (node.End t) == turn_of (node_at list n)) parts.1 in
        let same_t : t ≡ w = eqb-true t (subject (node_at list n)) sub.0 ∙ ap subject here in
        let bad : ⊥ = omega arith in bad))
        (left_at here at (t + 1) k (omega arith) links)

  -- a node of another kind is no Sink, and no End
  other_kind : (which other : Node) → kind which ≢ kind other → same which other ≡ true → ⊥
  other_kind which other differs found =
      let parts = and_parts (kind which == kind other) ((subject which == subject other) && (turn_of which == turn_of other)) found in
      differs (eqb-true (kind which) (kind other) parts.0)

  pub sunk_later : (which : Node) → node_at list n ≡ which → place_of list which ≡ n → (rates : List ℕ) → sunk list (values later) 0 rates ≡ with_out which (slice_index_or (flow_given (value_of m)) 0 []) (sunk list (values marks) 0 rates)
  sunk_later (node.Source s) is at rates = sunk_above 0 rates (λ t above. subst (λ q. same (node.Sink t) q ≡ true → ⊥) (sym is) (other_kind (node.Sink t) (node.Source s) (λ bad. absurd (let no_such : ⊥ = omega arith in no_such))))
  sunk_later (node.Init l) is at rates = sunk_above 0 rates (λ t above. subst (λ q. same (node.Sink t) q ≡ true → ⊥) (sym is) (other_kind (node.Sink t) (node.Init l) (λ bad. absurd (let no_such : ⊥ = omega arith in no_such))))
  sunk_later (node.Firing a k) is at rates = sunk_above 0 rates (λ t above. subst (λ q. same (node.Sink t) q ≡ true → ⊥) (sym is) (other_kind (node.Sink t) (node.Firing a k) (λ bad. absurd (let no_such : ⊥ = omega arith in no_such))))
  sunk_later (node.End l) is at rates = sunk_above 0 rates (λ t above. subst (λ q. same (node.Sink t) q ≡ true → ⊥) (sym is) (other_kind (node.Sink t) (node.End l) (λ bad. absurd (let no_such : ⊥ = omega arith in no_such))))
  sunk_later (node.Sink w) is at rates = sunk_at w is at 0 w (omega arith) rates
  sunk_later (node.Broadcast l) is at rates = sunk_above 0 rates (λ t above. subst (λ q. same (node.Sink t) q ≡ true → ⊥) (sym is) (other_kind (node.Sink t) (node.Broadcast l) (λ bad. absurd (let no_such : ⊥ = omega arith in no_such))))
  sunk_later (node.Fork l i) is at rates = sunk_above 0 rates (λ t above. subst (λ q. same (node.Sink t) q ≡ true → ⊥) (sym is) (other_kind (node.Sink t) (node.Fork l i) (λ bad. absurd (let no_such : ⊥ = omega arith in no_such))))
  sunk_later (node.Join l i) is at rates = sunk_above 0 rates (λ t above. subst (λ q. same (node.Sink t) q ≡ true → ⊥) (sym is) (other_kind (node.Sink t) (node.Join l i) (λ bad. absurd (let no_such : ⊥ = omega arith in no_such))))
  sunk_later (node.Round l) is at rates = sunk_above 0 rates (λ t above. subst (λ q. same (node.Sink t) q ≡ true → ⊥) (sym is) (other_kind (node.Sink t) (node.Round l) (λ bad. absurd (let no_such : ⊥ = omega arith in no_such))))

  pub left_later : (which : Node) → node_at list n ≡ which → place_of list which ≡ n → (links : List Link) → left_over list (values later) 0 links ≡ with_left which (slice_index_or (flow_given (value_of m)) 0 []) (left_over list (values marks) 0 links)
  left_later (node.Source s) is at links = left_above 0 links (λ t above. subst (λ q. same (node.End t) q ≡ true → ⊥) (sym is) (other_kind (node.End t) (node.Source s) (λ bad. absurd (let no_such : ⊥ = omega arith in no_such))))
  left_later (node.Init l) is at links = left_above 0 links (λ t above. subst (λ q. same (node.End t) q ≡ true → ⊥) (sym is) (other_kind (node.End t) (node.Init l) (λ bad. absurd (let no_such : ⊥ = omega arith in no_such))))
  left_later (node.Firing a k) is at links = left_above 0 links (λ t above. subst (λ q. same (node.End t) q ≡ true → ⊥) (sym is) (other_kind (node.End t) (node.Firing a k) (λ bad. absurd (let no_such : ⊥ = omega arith in no_such))))
  left_later (node.End w) is at links = left_at w is at 0 w (omega arith) links
  left_later (node.Sink w) is at links = left_above 0 links (λ t above. subst (λ q. same (node.End t) q ≡ true → ⊥) (sym is) (other_kind (node.End t) (node.Sink w) (λ bad. absurd (let no_such : ⊥ = omega arith in no_such))))
  left_later (node.Broadcast l) is at links = left_above 0 links (λ t above. subst (λ q. same (node.End t) q ≡ true → ⊥) (sym is) (other_kind (node.End t) (node.Broadcast l) (λ bad. absurd (let no_such : ⊥ = omega arith in no_such))))
  left_later (node.Fork l i) is at links = left_above 0 links (λ t above. subst (λ q. same (node.End t) q ≡ true → ⊥) (sym is) (other_kind (node.End t) (node.Fork l i) (λ bad. absurd (let no_such : ⊥ = omega arith in no_such))))
  left_later (node.Join l i) is at links = left_above 0 links (λ t above. subst (λ q. same (node.End t) q ≡ true → ⊥) (sym is) (other_kind (node.End t) (node.Join l i) (λ bad. absurd (let no_such : ⊥ = omega arith in no_such))))
  left_later (node.Round l) is at links = left_above 0 links (λ t above. subst (λ q. same (node.End t) q ≡ true → ⊥) (sym is) (other_kind (node.End t) (node.Round l) (λ bad. absurd (let no_such : ⊥ = omega arith in no_such))))
