-- Counts of faults by name.
use Rattle.std.specs.Prelude.{ℕ, List, [], ◌∷◌, map, if◌then◌else◌, String, string_bytes}
use Rattle.std.specs.declared.alloc.Global.{Global}
use Rattle.std.specs.BTreeMap.{BTreeMap}
use Rattle.std.specs.Str.{bytes_eq}

-- the names with their counts, in the order of the map's keys
abbrev pub pairs_of : BTreeMap (String Global) ℕ → List (List ℕ × ℕ)
pairs_of counts = map (λ entry. (string_bytes entry.0, entry.1)) counts.entries

-- the count of a name, 0 where none stands
abbrev pub count_of : List (List ℕ × ℕ) → List ℕ → ℕ
count_of [] name = 0
count_of (pair ∷ rest) name = if bytes_eq name pair.0 then pair.1 else count_of rest name
