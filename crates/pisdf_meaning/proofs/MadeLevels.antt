-- What is made of well-formed graphs is a level.
use Rattle.std.proofs.Common.{[]}
use Rattle.pisdf_model.specs.Range.{InRange}
use Rattle.pisdf_model.specs.WellFormed.{WellFormed}
use Rattle.pisdf_model.specs.declared.graph.Graphs.{Graphs}
use Rattle.param_resolver.proofs.KeptLevel.{inputs_are, is_level}
use Rattle.param_resolver.proofs.Sound.{resolvable}
use Rattle.param_resolver.proofs.Wired.{well_wired}
use Rattle.pisdf_meaning.specs.Sizes.{MakeLevels}

pub levels_made : (graphs : Graphs) → InRange graphs → WellFormed graphs → MakeLevels graphs.graphs
levels_made graphs range well place g here =
    let wired = well_wired graphs well (resolvable graphs range well) place g here in
    record {
      level = λ inherited values sound none. is_level graphs.graphs place g here inherited values wired;
      inputs = λ values b actor is. inputs_are graphs.graphs place g here [] values wired b actor is;
    }
