-- What the parts of a graph are resolved in.
use Rattle.std.specs.Prelude.{◌≡◌, ℕ, ℤ, Bool, List, [], map, Option, Some, None}
use Rattle.std.specs.Borrow.{Bor}
use Rattle.graph_format.specs.declared.fifo.FileDelay.{FileDelay}
use Rattle.graph_format.specs.declared.file.FileGraph.{FileGraph}
use Rattle.graph_format.specs.Placed.{mark_of, tokens_of}
use Rattle.graph_format.specs.KnownNames.{KnownNames, interfaces_of, names_of_graphs}
use Rattle.graph_reader.specs.declared.file_names.FileNames.{FileNames}
use Rattle.graph_reader.specs.declared.surroundings.Delays.{Delays}
use Rattle.graph_reader.specs.declared.surroundings.Delays.TheVariants.{Tokens, Marks}
use Rattle.graph_reader.specs.declared.surroundings.Ports.{Ports}
use Rattle.graph_reader.specs.declared.surroundings.Ports.TheVariants.{Own, Child}
use Rattle.graph_reader.specs.declared.surroundings.Surroundings.{Surroundings}

pub record Setting : Type 0 where
  pub scope : KnownNames
  pub version : ℕ
  pub is_top : Bool
  pub delays : Delays

abbrev pub delays_by : Delays → FileDelay → List ℤ
delays_by Tokens delay = tokens_of delay
delays_by Marks delay = mark_of delay

abbrev pub ports_view : Ports → List (List ℕ)
ports_view (Own names) = names
ports_view (Child names) = names.now

abbrev pub setting_of : Surroundings → Setting
setting_of s = record {
  scope = record {
    graphs = s.graphs.now;
    kernels = s.kernels.now;
    params = s.params;
    interfaces = s.interfaces.now;
    actors = s.actors;
    ports = map ports_view s.ports;
  };
  version = s.version;
  is_top = s.is_top;
  delays = s.delays;
}

-- names that were lent, and none where nothing was
abbrev pub lent_names : Option (Bor (List (List ℕ))) → List (List ℕ)
lent_names None = []
lent_names (Some names) = names.now

-- the names are those of these graphs
pub record AreOf (file : List FileGraph) (names : FileNames) : Type 0 where
  pub graphs : names.graphs ≡ names_of_graphs file
  pub interfaces : names.interfaces ≡ map interfaces_of file
