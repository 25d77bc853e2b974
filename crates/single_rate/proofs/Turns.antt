-- The firings stand in the list of nodes in the order of one thread, and have tiers in this order.
use Rattle.std.proofs.Common.{◌≡◌, ℕ, zero, suc, ◌+◌, ◌-◌, ◌*◌, ◌<◌, ◌≤◌, true, false, ⊎_elim, List, [], ◌∷◌, ◌++◌, length, slice_index, refl, ap, sym, ◌∙◌, subst, append_assoc, arith}
use Rattle.std.proofs.lemmas.Bool.{cases_lt, cases_Bool}
use Rattle.std.proofs.lemmas.List.{append-nil, length-append, length-map, get_or-append_right, get_or_append_left, get_or-append-add, get_or_past}
use Rattle.std.proofs.lemmas.List.Elements.{All-from_recursion}
use Rattle.sdf_level.specs.View.{LevelView}
use Rattle.sdf_level.specs.Invariants.{IsLevel}
use Rattle.sdf_level.specs.Firings.{firings, actors_of, turns_after}
use Rattle.sdf_level.specs.Orders.{IsTurnOrder}
use Rattle.sdf_level.specs.declared.node.Node.{Node}
use Rattle.sdf_level.specs.declared.node.Node.TheVariants as node
use Rattle.sdf_level.specs.declared.turn.Turn.{Turn}
use Rattle.single_rate.specs.Nodes.{kind, same}
use Rattle.single_rate.specs.Wires.{wires}
use Rattle.single_rate.specs.Expanded.{nodes, edges, place_of, firing_nodes}
use Rattle.single_rate.specs.Tiers.{node_at, first_firing, StandsAt, IsOfFiring, HaveTiers}
use Rattle.single_rate.proofs.Places.{In, In-left, In-right, place-below}
use Rattle.single_rate.proofs.Unique.{same-node}
use Rattle.single_rate.proofs.Once.{in-at, first_nodes, last_nodes, nodes-parts, first-kinds, last-kinds}
use Rattle.single_rate.proofs.Positions.{position, position-here}
use Rattle.single_rate.proofs.Rising.{tier, all-rise}
use Rattle.single_rate.proofs.Forward.{number_tier, edges-forward}
use Rattle.single_rate.proofs.AllNumbered.{edges-in, firing-in}

pub stands-at : (list : List ℕ) (i : ℕ) → i < length list → StandsAt list i
stands-at [] i h = absurd (omega arith)
stands-at (b ∷ rest) zero h = record { before = []; actor = b; after = rest; list_is = refl; place_is = refl }
stands-at (x ∷ rest) (suc i) h = let s = stands-at rest i (omega arith) in
    record { before = x ∷ s.before; actor = s.actor; after = s.after; list_is = ap (λ (l : List ℕ). x ∷ l) s.list_is; place_is = let p = s.place_is in omega arith }

firing-at : (pre before after : List ℕ) (b : ℕ) → node_at (firing_nodes (turns_after pre (before ++ b ∷ after))) (length before) ≡ node.Firing b (firings b (pre ++ before))
firing-at pre [] after b = ap (λ (l : List ℕ). node.Firing b (firings b l)) (sym (append-nil pre))
firing-at pre (x ∷ before) after b = firing-at (pre ++ x ∷ []) before after b ∙ ap (λ (l : List ℕ). node.Firing b (firings b l)) (append_assoc pre (x ∷ []) before)

length-turns : (pre rest : List ℕ) → length (firing_nodes (turns_after pre rest)) ≡ length rest
length-turns pre [] = refl
length-turns pre (b ∷ rest) = let e = length-turns (pre ++ b ∷ []) rest in omega arith

-- a node outside a list is the Source 0
kind-past : (list : List Node) (i : ℕ) → length list ≤ i → kind (node_at list i) ≡ 0
kind-past list i h = ap kind (get_or_past list i (node.Source 0) h)

pub found-at : (list : List Node) (n : Node) → place_of list n < length list → node_at list (place_of list n) ≡ n
found-at [] n h = absurd (omega arith)
found-at (m ∷ ms) n h = ⊎_elim
    (λ (e : same n m ≡ true). rw e (sym (same-node n m e)))
    (λ (e : same n m ≡ false). let s : 1 + place_of ms n ≡ suc (place_of ms n) = omega arith in let i = rw e at h in rw (e, s) (found-at ms n (omega arith)))
    (cases_Bool (same n m))

module _ (level : LevelView) (q : List ℕ) where
  abbrev F : List ℕ → List Node
  F list = firing_nodes (turns_after [] list)

  module _ (turns : List Turn) (order : IsTurnOrder level q turns) where
    all-parts : nodes level q turns ≡ first_nodes level q ++ (F (actors_of turns) ++ last_nodes level q)
    all-parts = nodes-parts level q turns order

    -- the node so many places after the first firing
    from-first : (i : ℕ) → node_at (nodes level q turns) (first_firing level + i) ≡ node_at (F (actors_of turns) ++ last_nodes level q) i
    from-first i = ap (λ (l : List Node). node_at l (first_firing level + i)) all-parts ∙ get_or-append-add (first_nodes level q) (F (actors_of turns) ++ last_nodes level q) i (node.Source 0)

    long : length (actors_of turns) ≡ length turns
    long = length-map turns (λ (t : Turn). t.actor)

    pub firing-stands : (before after : List ℕ) (b : ℕ) → actors_of turns ≡ before ++ b ∷ after → node_at (nodes level q turns) (first_firing level + length before) ≡ node.Firing b (firings b before)
    firing-stands before after b is =
        let more : length before < length (actors_of turns) = rw is (let l = length-append before (b ∷ after) in omega arith) in
        let inside : length before < length (F (actors_of turns)) = let l = length-turns [] (actors_of turns) in omega arith in
        from-first (length before) ∙ get_or_append_left (F (actors_of turns)) (last_nodes level q) (node.Source 0) (length before) inside
        ∙ ap (λ (l : List ℕ). node_at (F l) (length before)) is ∙ firing-at [] before after b

    pub firings-all : (n : ℕ) → kind (node_at (nodes level q turns) n) ≡ 2 → IsOfFiring level turns n
    firings-all n is = ⊎_elim
        (λ (early : n < first_firing level).
        let here : node_at (nodes level q turns) n ≡ node_at (first_nodes level q) n = ap (λ (l : List Node). node_at l n) all-parts ∙ get_or_append_left (first_nodes level q) (F (actors_of turns) ++ last_nodes level q) (node.Source 0) n early in
        let k : kind (node_at (first_nodes level q) n) < 2 = first-kinds level q (node_at (first_nodes level q) n) (in-at (first_nodes level q) n early) in
        let e = ap kind here in absurd (omega arith))
        (λ (late : first_firing level ≤ n).
        let i : ℕ = n - first_firing level in
        let at : n ≡ first_firing level + i = omega arith in
        let here : kind (node_at (F (actors_of turns) ++ last_nodes level q) i) ≡ 2 = sym (ap kind (ap (λ m. node_at (nodes level q turns) m) at ∙ from-first i)) ∙ is in
        let l = length-turns [] (actors_of turns) in
        ⊎_elim
        (λ (inside : i < length (actors_of turns)). record { place = i; number = at; stands = stands-at (actors_of turns) i inside })
        (λ (past : length (actors_of turns) ≤ i).
        let j : ℕ = i - length (F (actors_of turns)) in
        let there : node_at (F (actors_of turns) ++ last_nodes level q) i ≡ node_at (last_nodes level q) j = get_or-append_right (F (actors_of turns)) (last_nodes level q) (length (F (actors_of turns))) i (node.Source 0) refl (omega arith) in
        let e = ap kind there in
        ⊎_elim
        (λ (lt : j < length (last_nodes level q)). let k = last-kinds level q (node_at (last_nodes level q) j) (in-at (last_nodes level q) j lt) in absurd (omega arith))
        (λ (ge : length (last_nodes level q) ≤ j). let k = kind-past (last_nodes level q) j ge in absurd (omega arith))
        (cases_lt j (length (last_nodes level q))))
        (cases_lt i (length (actors_of turns))))
        (cases_lt n (first_firing level))

    pub firings-there : (a k : ℕ) → k < slice_index q a → place_of (nodes level q turns) (node.Firing a k) < length (nodes level q turns)
    firings-there a k h =
        let counts = order.order.admissible.counts a in
        let n : Node = node.Firing a k in
        let there : In n (F (actors_of turns)) = firing-in a k [] (actors_of turns) (omega arith) (omega arith) in
        let P : List Node → Type 0 = λ l. place_of l n < length l in
        let below : P (first_nodes level q ++ (F (actors_of turns) ++ last_nodes level q)) = place-below (first_nodes level q ++ (F (actors_of turns) ++ last_nodes level q)) n (In-right n (first_nodes level q) (F (actors_of turns) ++ last_nodes level q) (In-left n (F (actors_of turns)) (last_nodes level q) there)) in
        subst P (sym all-parts) below

    abbrev S : Node → ℕ
    S = tier level q (actors_of turns)

    tier-at : (i : ℕ) → i < length turns → number_tier (nodes level q turns) S (first_firing level + i) ≡ 3 * i + 3
    tier-at i h =
        let s = stands-at (actors_of turns) i (let l = long in omega arith) in
        let here = firing-stands s.before s.after s.actor s.list_is in
        let p : position s.actor (firings s.actor s.before) (actors_of turns) ≡ length s.before = ap (position s.actor (firings s.actor s.before)) s.list_is ∙ position-here s.actor (firings s.actor s.before) s.before s.after refl in
        let at = s.place_is in
        let m : first_firing level + i ≡ first_firing level + length s.before = omega arith in
        ap (λ j. S (node_at (nodes level q turns) j)) m ∙ ap S here ∙ (let z : 3 * position s.actor (firings s.actor s.before) (actors_of turns) + 3 ≡ 3 * i + 3 = omega arith in z)

    pub have-tiers : IsLevel level → HaveTiers level q turns
    have-tiers sound = record {
      tier = number_tier (nodes level q turns) S;
      rising = All-from_recursion (λ e. number_tier (nodes level q turns) S e.tail < number_tier (nodes level q turns) S e.head) (edges level q turns) (edges-forward (nodes level q turns) S (wires level q) (edges-in level q turns sound order) (all-rise level q (actors_of turns) order.order.admissible));
      in_order = λ i j less within. let a = tier-at i (omega arith) in let b = tier-at j within in omega arith;
    }
