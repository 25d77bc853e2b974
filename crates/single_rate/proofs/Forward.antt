-- The numbered edges go forward.
use Rattle.std.proofs.Common.{◌≡◌, ℕ, zero, suc, ◌+◌, ◌*◌, ◌<◌, ◌≤◌, ⊎_elim, List, [], ◌∷◌, ◌++◌, map, length, slice_index_or, ap, ◌∙◌, arith}
use Rattle.std.specs.List.{AllByRecursion}
use Rattle.std.proofs.lemmas.Bool.{cases_eq, eq-eqb, ne_eqb}
use Rattle.std.proofs.lemmas.List.{length-map}
use Rattle.sdf_level.specs.View.{LevelView}
use Rattle.sdf_level.specs.Orders.{IsTurnOrder}
use Rattle.sdf_level.specs.Invariants.{IsLevel}
use Rattle.sdf_level.specs.Firings.{actors_of}
use Rattle.sdf_level.specs.declared.link.Link.{Link}
use Rattle.sdf_level.specs.declared.node.Node.{Node}
use Rattle.sdf_level.specs.declared.node.Node.TheVariants as node
use Rattle.sdf_level.specs.declared.turn.Turn.{Turn}
use Rattle.single_rate.specs.declared.wire.Wire.{Wire}
use Rattle.single_rate.specs.Wires.{wires}
use Rattle.single_rate.specs.Cursors.{part_at}
use Rattle.single_rate.specs.Expanded.{nodes, place_of, edge_of, source_nodes, init_nodes, firing_nodes, copied_nodes, end_nodes, sink_nodes}
use Rattle.single_rate.specs.Raising.{GoForward, EndsBelow}
use Rattle.single_rate.proofs.Picked.{Every}
use Rattle.single_rate.proofs.Places.{HasEnds, place-found, place-below}
use Rattle.single_rate.proofs.Positions.{position}
use Rattle.single_rate.proofs.Tiers.{Rises}
use Rattle.single_rate.proofs.Rising.{plain_tier, tier, tail_parts, head_parts, no_link, all-rise}
use Rattle.single_rate.proofs.AllNumbered.{edges-in}
use Rattle.single_rate.proofs.CopiedNodes.{all-found}

position-most : (a k : ℕ) (list : List ℕ) → position a k list ≤ length list
position-most a k [] = omega arith
position-most a zero (x ∷ rest) = ⊎_elim
    (λ (e : x ≡ a). rw (eq-eqb x a e) (omega arith))
    (λ (n : x ≡ a → ⊥). let p = position-most a zero rest in rw (ne_eqb x a n) (omega arith))
    (cases_eq x a)
position-most a (suc k) (x ∷ rest) = ⊎_elim
    (λ (e : x ≡ a). let p = position-most a k rest in rw (eq-eqb x a e) (omega arith))
    (λ (n : x ≡ a → ⊥). let p = position-most a (suc k) rest in rw (ne_eqb x a n) (omega arith))
    (cases_eq x a)

plain-most : (list : List ℕ) (n : Node) → plain_tier list n ≤ 3 * length list + 6
plain-most list (node.Source s) = omega arith
plain-most list (node.Init l) = omega arith
plain-most list (node.Firing a k) = let p = position-most a k list in omega arith
plain-most list (node.End l) = omega arith
plain-most list (node.Sink t) = omega arith
plain-most list (node.Broadcast l) = omega arith
plain-most list (node.Fork l i) = omega arith
plain-most list (node.Join l j) = omega arith
plain-most list (node.Round l) = omega arith

tier-most : (level : LevelView) (q list : List ℕ) (n : Node) → tier level q list n ≤ 3 * length list + 7
tier-most level q list (node.Source s) = omega arith
tier-most level q list (node.Init l) = omega arith
tier-most level q list (node.Firing a k) = let p = position-most a k list in omega arith
tier-most level q list (node.End l) = omega arith
tier-most level q list (node.Sink t) = omega arith
tier-most level q list (node.Broadcast l) = omega arith
tier-most level q list (node.Fork l i) = let link : Link = slice_index_or level.links l no_link in let p = plain-most list (part_at (tail_parts level q l link.tail link.head link.delay) i).at.node in omega arith
tier-most level q list (node.Join l j) = let link : Link = slice_index_or level.links l no_link in let p = plain-most list (part_at (head_parts level q l link.tail link.head link.delay) j).at.node in omega arith
tier-most level q list (node.Round l) = omega arith

module _ (list : List Node) (S : Node → ℕ) where
  abbrev pub number_tier : ℕ → ℕ
  number_tier i = S (slice_index_or list i (node.Source 0))

  pub edges-forward : (ws : List Wire) → Every (HasEnds list) ws → Every (Rises S) ws → AllByRecursion (λ e. number_tier e.tail < number_tier e.head) (map (edge_of list) ws)
  edges-forward [] ends rises = tt
  edges-forward (w ∷ ws) ends rises = (
    (let t : number_tier (place_of list w.tail.node) ≡ S w.tail.node = ap S (place-found list w.tail.node ends.0.0) in
        let h : number_tier (place_of list w.head.node) ≡ S w.head.node = ap S (place-found list w.head.node ends.0.1) in
        let r = rises.0 in omega arith),
    edges-forward ws ends.1 rises.1,
  )

  edges-below : (ws : List Wire) → Every (HasEnds list) ws → EndsBelow (length list) (map (edge_of list) ws)
  edges-below [] ends = tt
  edges-below (w ∷ ws) ends = ((place-below list w.tail.node ends.0.0, place-below list w.head.node ends.0.1), edges-below ws ends.1)

module _ (level : LevelView) (q : List ℕ) (turns : List Turn) (sound : IsLevel level) (order : IsTurnOrder level q turns) where
  pub go-forward : (last : ℕ) → 3 * length turns + 7 ≤ last → GoForward (map (edge_of (nodes level q turns)) (wires level q)) last
  go-forward last room = record {
    tier = number_tier (nodes level q turns) (tier level q (actors_of turns));
    forward = edges-forward (nodes level q turns) (tier level q (actors_of turns)) (wires level q) (edges-in level q turns sound order) (all-rise level q (actors_of turns) order.order.admissible);
    within = λ n. let m = tier-most level q (actors_of turns) (slice_index_or (nodes level q turns) n (node.Source 0)) in let l : length (actors_of turns) ≡ length turns = length-map turns (λ (t : Turn). t.actor) in omega arith;
  }

  pub ends-below : EndsBelow (length (nodes level q turns)) (map (edge_of (nodes level q turns)) (wires level q))
  ends-below = edges-below (nodes level q turns) (tier level q (actors_of turns)) (wires level q) (edges-in level q turns sound order)

-- the list of nodes with those that copy found at the edges
pub nodes-found : (level : LevelView) (q : List ℕ) (turns : List Turn) (ws : List Wire) → ws ≡ wires level q →
    source_nodes 0 level.sources ++ init_nodes 0 level.links ++ firing_nodes turns ++ copied_nodes ws ++ end_nodes 0 level.links ++ sink_nodes 0 level.sinks ≡ nodes level q turns
nodes-found level q turns ws is = ap (λ (x : List Node). source_nodes 0 level.sources ++ init_nodes 0 level.links ++ firing_nodes turns ++ x ++ end_nodes 0 level.links ++ sink_nodes 0 level.sinks) (ap copied_nodes is ∙ all-found level q 0 level.links)
