-- Where configuration actors stand in their graph.
use Rattle.std.specs.Prelude.{ℕ, ◌+◌, List, [], ◌∷◌, map, if◌then◌else◌}
use Rattle.pisdf_meaning.specs.Configuring.{Configuration, configurations}
use Rattle.pisdf_model.specs.InterfaceWires.{is_configuration}
use Rattle.pisdf_model.specs.declared.actor.Actor.{Actor}
use Rattle.pisdf_model.specs.declared.graph.Graph.{Graph}

-- the places of the configuration actors among these, the first of which stands at this place
abbrev pub places_from : ℕ → List Actor → List ℕ
places_from a [] = []
places_from a (x ∷ actors) = if is_configuration x.body then a ∷ places_from (a + 1) actors else places_from (a + 1) actors

-- those of a graph, by their numbers
abbrev pub config_places : Graph → List ℕ
config_places g = map (λ (c : Configuration). c.place) (configurations g)
