-- Which firings the nodes of a level's graph are.
use Rattle.std.proofs.Common.{◌≡◌, ℕ, ◌+◌, ◌<◌, List, [], ◌∷◌, ◌++◌, slice_index, sym, ap, ◌∙◌, arith}
use Rattle.sdf_level.specs.View.{LevelView}
use Rattle.sdf_level.specs.Firings.{actors_of, firings}
use Rattle.sdf_level.specs.Orders.{IsTurnOrder}
use Rattle.sdf_level.specs.declared.node.Node.{Node}
use Rattle.sdf_level.specs.declared.node.Node.TheVariants as node
use Rattle.sdf_level.specs.declared.turn.Turn.{Turn}
use Rattle.sdf_level.proofs.FiringLists.{firings-own}
use Rattle.single_rate.specs.Expanded.{nodes}
use Rattle.single_rate.specs.Nodes.{kind}
use Rattle.single_rate.specs.Tiers.{FiringsAreAll, FiringsStandInOrder, first_firing, node_at}

stands : (b : ℕ) (before after : List ℕ) → firings b before < firings b (before ++ b ∷ after)
stands b [] after = let one = firings-own b after in omega arith
stands b (x ∷ before) after = let rest = stands b before after in omega arith

module _ (all : FiringsAreAll) (in_order : FiringsStandInOrder) (level : LevelView) (q : List ℕ) (turns : List Turn) (order : IsTurnOrder level q turns) where
  abbrev N : List Node
  N = nodes level q turns

  -- a firing that is a node is one of those that the level's actors make
  pub record OfActor (b k : ℕ) : Type 0 where
    pub before : List ℕ
    pub after : List ℕ
    pub list_is : actors_of turns ≡ before ++ b ∷ after
    pub number : firings b before ≡ k

  pub of_actor : (n b k : ℕ) → node_at N n ≡ node.Firing b k → OfActor b k
  of_actor n b k is =
      let found = all level q turns n order (ap kind is) in
      let there = in_order level q turns found.stands.before found.stands.after found.stands.actor order found.stands.list_is in
      let at : node_at N n ≡ node.Firing found.stands.actor (firings found.stands.actor found.stands.before) = ap (node_at N) (found.number ∙ ap (λ (i : ℕ). first_firing level + i) found.stands.place_is) ∙ there in
      let same : node.Firing found.stands.actor (firings found.stands.actor found.stands.before) ≡ node.Firing b k = sym at ∙ is in
      let actor : found.stands.actor ≡ b = cc in
      let turn : firings found.stands.actor found.stands.before ≡ k = cc in
      record {
        before = found.stands.before;
        after = found.stands.after;
        list_is = found.stands.list_is ∙ ap (λ x. found.stands.before ++ x ∷ found.stands.after) actor;
        number = ap (λ x. firings x found.stands.before) (sym actor) ∙ turn;
      }

  pub within : (b k : ℕ) → OfActor b k → k < slice_index q b
  within b k of =
      let more = stands b of.before of.after in
      let whole = ap (firings b) of.list_is in
      let count = order.order.admissible.counts b in
      let number = of.number in
      omega arith
