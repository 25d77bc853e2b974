use Rattle.std.proofs.Common.{◌≡◌, ◌+◌, ◌*◌, length, take, drop}
use Rattle.sdf_level.specs.Firings.{actors_of}
use Rattle.sdf_level.specs.Lists.{lists_of}
use Rattle.pisdf_meaning.specs.Meaning.{MeansWithin}
use Rattle.pisdf_meaning.specs.Nested.{HaveLeft, actor_fires}
use Rattle.pisdf_meaning.specs.Running.{link_starts}
use Rattle.pisdf_meaning.specs.Turns.{HasCome}
use Rattle.pisdf_meaning.proofs.graph.+firing.Given as goal

abbrev pub decreases-fire_graph : goal.decreases-fire_graph
decreases-fire_graph g l = 8 * l.levels

abbrev pub decreases-fire_child : goal.decreases-fire_child
decreases-fire_child g l = 8 * l.levels + 1

abbrev pub decreases-fire_actor : goal.decreases-fire_actor
decreases-fire_actor g l = 8 * l.levels + 2

abbrev pub decreases-take_turn : goal.decreases-take_turn
decreases-take_turn g l = 8 * l.levels + 3

abbrev pub decreases-run_turns : goal.decreases-run_turns
decreases-run_turns g l = 8 * l.levels + 4

abbrev pub decreases-run : goal.decreases-run
decreases-run g l = 8 * l.levels + 5

abbrev pub decreases-leave : goal.decreases-leave
decreases-leave g l = 8 * l.levels + 1

abbrev pub decreases-leave_next : goal.decreases-leave_next
decreases-leave_next g l = 8 * l.levels + 2

abbrev pub decreases-configure : goal.decreases-configure
decreases-configure g l = 8 * l.levels + 3

abbrev pub decreases-fire_here : goal.decreases-fire_here
decreases-fire_here g l = 8 * l.levels + 6

-- what those so far left
abbrev pub invariant-configure-loop-place : goal.invariant-configure-loop-place
invariant-configure-loop-place g l = HaveLeft l.graphs.graphs (MeansWithin l.levels l.graphs.graphs) l.graph l.firing l.early l.place l.configured.items

-- what the firings so far come to
abbrev pub invariant-run_turns-loop-turn : goal.invariant-run_turns-loop-turn
invariant-run_turns-loop-turn g l = record {
  lines : length l.state.lines.items ≡ length l.prepared.parts.level.links;
  rows : length l.state.rows.items ≡ l.prepared.parts.level.actors;
  come : HasCome l.prepared.parts.level (actor_fires l.graphs.graphs (MeansWithin l.levels l.graphs.graphs) l.graph l.firing l.prepared.values) l.prepared.sources (link_starts l.graphs.graphs l.graph l.firing)
      (actors_of l.order) (actors_of (take l.turn-index l.order)) (actors_of (drop l.turn-index l.order)) (lists_of l.state.lines.items) (lists_of l.state.rows.items);
}
