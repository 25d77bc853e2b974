-- Firings and what configuration actors left, without what no compilation looks at.
use Rattle.std.specs.Prelude.{◌≡◌, List, [], map}
use Rattle.pisdf_meaning.specs.declared.firing.Configured.{Configured}
use Rattle.pisdf_meaning.specs.declared.firing.Firing.{Firing}

-- without its tokens and its state
abbrev pub slim_firing : Firing → Firing
slim_firing firing = record { path = firing.path; graph = firing.graph; inherited = firing.inherited; inputs = []; state = [] }

-- the values that it sets alone
abbrev pub slim_one : Configured → Configured
slim_one one = record { outs = []; sets = one.sets; state = []; trace = [] }

abbrev pub slim_left : List Configured → List Configured
slim_left left = map slim_one left
