-- There is exactly one flow over the edges, and it delivers what queues feed.
use Rattle.std.proofs.Common.{◌≡◌, ℕ, ◌==◌, ◌&&◌, List, map, sym, ◌∙◌, refl, ap}
use Rattle.sdf_level.specs.View.{LevelView}
use Rattle.sdf_level.specs.Invariants.{IsLevel}
use Rattle.sdf_level.specs.Orders.{IsAdmissible}
use Rattle.single_rate.specs.Nodes.{same}
use Rattle.single_rate.specs.Wires.{wires}
use Rattle.single_rate.specs.Flow.{Given, IsFlow, arrives_at}
use Rattle.single_rate.specs.Delivers.{Delivers}
use Rattle.single_rate.proofs.AllLinks.{AllFit, ranges_on, ranges-flow}
use Rattle.single_rate.proofs.Feeds.{feeds}
use Rattle.single_rate.proofs.Unique.{only_flow}
use Rattle.single_rate.proofs.Depths.{depth, all-deep_links}
use Rattle.single_rate.proofs.Places.{erased, gathered-erased, flow-erased, flow-placed}

module _ {T : Type 0} (level : LevelView) (q : List ℕ) (given : Given T) (fits : AllFit level q given 0 level.links given.delays) where
  abbrev pub ranges : List (List T)
  ranges = ranges_on level q given 0 level.links given.delays

  pub ranges-are_flow : IsFlow given (map erased (wires level q)) ranges
  ranges-are_flow = flow-erased given (wires level q) ranges (ranges-flow level q given 0 level.links given.delays fits)

  pub flow-is_ranges : (on : List (List T)) → IsFlow given (map erased (wires level q)) on → ranges ≡ on
  flow-is_ranges on flow = only_flow given (wires level q) depth (all-deep_links level q 0 level.links) ranges on (ranges-flow level q given 0 level.links given.delays fits) (flow-placed given (wires level q) on flow)

  pub flow-delivers : IsLevel level → (list : List ℕ) → IsAdmissible level q list → (on : List (List T)) → IsFlow given (map erased (wires level q)) on → Delivers level q given (map erased (wires level q)) on list
  flow-delivers sound list admissible on flow =
      feeds level q given sound fits (map erased (wires level q)) on
      (λ n port. ap (λ (x : List (List T)). arrives_at (wires level q) x n port) (flow-is_ranges on flow) ∙ sym (gathered-erased (λ w. same n w.head.node && (port == w.head.port)) (λ w. refl) (wires level q) on))
      list admissible
