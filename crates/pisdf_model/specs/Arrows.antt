-- Arrows among places: a list for each place, of the places to which arrows lead from it. And paths over them.
use Rattle.std.specs.Prelude.{◌≡◌, ◌==◌, ℕ, zero, suc, ◌<◌, ◌⊎◌, Bool, true, false, ◌&&◌, ◌||◌, List, [], ◌∷◌, length, slice_index_or, All, Contains}
use Rattle.std.specs.List.{filter, list_any, range_with_len}

-- the places to which arrows lead from v
abbrev pub to_of : List (List ℕ) → ℕ → List ℕ
to_of arrows v = slice_index_or arrows v []

-- each arrow leads to a place
abbrev pub LeadsInside : List (List ℕ) → Type 0
LeadsInside arrows = All (λ to. All (λ w. w < length arrows) to) arrows

-- a path of at least one arrow leads from v over the places between to w
abbrev pub Leads : List (List ℕ) → ℕ → List ℕ → ℕ → Type 0
Leads arrows v [] w = Contains (to_of arrows v) w
Leads arrows v (u ∷ between) w = Contains (to_of arrows v) u × Leads arrows u between w

-- some path of at least one arrow leads from v to w
abbrev pub Reaches : List (List ℕ) → ℕ → ℕ → Type 0
Reaches arrows v w = (between : List ℕ) × Leads arrows v between w

-- a place is one of the starts, or some path leads to it from one of them
abbrev pub IsReached : List (List ℕ) → List ℕ → ℕ → Type 0
IsReached arrows starts w = Contains starts w ⊎ ((s : ℕ) × Contains starts s × Reaches arrows s w)

-- these places are marked
abbrev pub IsMarked : List Bool → ℕ → Type 0
IsMarked marks w = slice_index_or marks w false ≡ true

-- an arrow leads from v to w
abbrev pub has_arrow : List (List ℕ) → ℕ → ℕ → Bool
has_arrow arrows v w = list_any (λ u. w == u) (to_of arrows v)

-- Warshall's closure (1962): a path of at least one arrow leads from v to w, over places below n alone
unfoldable pub leads_below : List (List ℕ) → ℕ → ℕ → ℕ → Bool
leads_below arrows zero v w = has_arrow arrows v w
leads_below arrows (suc n) v w = leads_below arrows n v w || (leads_below arrows n v n && leads_below arrows n n w)

-- a path of at least one arrow leads from v to w
abbrev pub leads : List (List ℕ) → ℕ → ℕ → Bool
leads arrows v w = leads_below arrows (length arrows) v w

-- the places from which a path leads back to themselves, upwards
abbrev pub on_cycles : List (List ℕ) → List ℕ
on_cycles arrows = filter (λ v. leads arrows v v) (range_with_len 0 (length arrows))
