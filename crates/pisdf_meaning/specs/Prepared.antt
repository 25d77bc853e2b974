-- What is known of the run of a level before its first firing.
use Rattle.std.specs.Prelude.{◌≡◌, List, length}
use Rattle.level_lines.specs.AtActors.{ArePorts}
use Rattle.pisdf_model.specs.declared.graph.Graph.{Graph}
use Rattle.pisdf_meaning.specs.Configuring.{early_in}
use Rattle.pisdf_meaning.specs.PartsOf.{ArePartsOf}
use Rattle.pisdf_meaning.specs.declared.firing.Firing.{Firing}
use Rattle.pisdf_meaning.specs.declared.parts.Prepared.{Prepared}

-- these are the parts of the level of the graph's firing, and there are tokens for each source
pub record IsPrepared (graphs : List Graph) (g : Graph) (firing : Firing) (p : Prepared) : Type 0 where
  pub parts : ArePartsOf graphs g (early_in graphs firing) p.values p.parts
  pub ports : ArePorts p.parts.level p.ports
  pub sources : length p.sources ≡ length p.parts.level.sources
