-- The names at the places of links' lines, by a formula.
use Rattle.std.specs.Prelude.{ℕ, ◌+◌, ◌-◌, ◌/◌, ◌%◌, List, [], ◌∷◌, ◌++◌, map, slice_index, nat_lt, if◌then◌else◌}
use Rattle.sdf_level.specs.View.{LevelView}
use Rattle.sdf_level.specs.declared.link.Link.{Link}
use Rattle.sdf_level.specs.declared.link.Tail.{Tail}
use Rattle.sdf_level.specs.declared.link.Tail.TheVariants as tail
use Rattle.sdf_level.specs.declared.token_name.TokenName.{TokenName}
use Rattle.sdf_level.specs.declared.token_name.Maker.TheVariants as maker
use Rattle.single_rate.specs.Names.{listed}
use Rattle.single_rate.specs.Wires.{wires_at}

-- The name at place k of the line of link number l, with this tail and delay: of a source its places again and again; else
-- first the delay, and then what each firing of the tail puts.
abbrev pub name_at : LevelView → ℕ → Tail → ℕ → ℕ → TokenName
name_at level l (tail.Source s) d k = record { maker = maker.Source s; place = k % slice_index level.sources s }
name_at level l (tail.Port a p r) d k =
    if nat_lt k d
    then record { maker = maker.Init l; place = k }
    else record { maker = maker.Firing a ((k - d) / r) p; place = (k - d) % r }

-- on each edge of these links the names at its places
abbrev pub named_from : LevelView → List ℕ → ℕ → List Link → List (List TokenName)
named_from level q l [] = []
named_from level q l (link ∷ links) =
    map (λ wire. listed (name_at level l link.tail link.delay) wire.place wire.size) (wires_at level q l link.tail link.head link.delay)
    ++ named_from level q (l + 1) links

abbrev pub named : LevelView → List ℕ → List (List TokenName)
named level q = named_from level q 0 level.links
