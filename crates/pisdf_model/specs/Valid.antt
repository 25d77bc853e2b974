-- Graphs that can be worked with.
use Rattle.std.specs.List.{All}
use Rattle.param_expr.specs.Words.{IsName}
use Rattle.pisdf_model.specs.Names.{names_of}
use Rattle.pisdf_model.specs.Range.{InRange}
use Rattle.pisdf_model.specs.WellFormed.{WellFormed}
use Rattle.pisdf_model.specs.declared.graph.Graphs.{Graphs}
use Rattle.pisdf_model.specs.declared.names.ScopedName.{ScopedName}

-- each name of a graph, a parameter, an interface, an actor and a port is a name: a letter or _, and then letters, digits and _,
-- 1 to 64 bytes, and not min and not max
abbrev pub AreNamed : Graphs → Type 0
AreNamed graphs = All (λ (name : ScopedName). IsName name.name) (names_of graphs)

-- each number refers to a part that is there, no rule is broken, and each name is a name
pub record AreValid (graphs : Graphs) : Type 0 where
  pub in_range : InRange graphs
  pub well_formed : WellFormed graphs
  pub named : AreNamed graphs
