-- Rows of ports that lie in one list.
use Rattle.std.specs.Prelude.{◌≡◌, ℕ, ◌+◌, ◌-◌, ◌<◌, ◌≤◌, ◌==◌, List, [], ◌∷◌, length, map, take, drop, slice_index, slice_index_or, Option, Some, None, if◌then◌else◌}

-- the edge that is known to a port with this number: the greatest number stands for none
abbrev pub edge_of : ℕ → Option ℕ
edge_of number = if number == 4294967295 then None else Some number

-- the ports of a node, by its number
abbrev pub row_of : List (List (Option ℕ)) → ℕ → List (Option ℕ)
row_of rows n = slice_index_or rows n []

-- so many ports from a place on
abbrev pub part_of : List (Option ℕ) → ℕ × ℕ → List (Option ℕ)
part_of ports span = take span.1 (drop span.0 ports)

abbrev pub rows_in : List (Option ℕ) → List (ℕ × ℕ) → List (List (Option ℕ))
rows_in ports spans = map (part_of ports) spans

abbrev pub span_at : List (ℕ × ℕ) → ℕ → ℕ × ℕ
span_at spans n = slice_index_or spans n (0, 0)

-- each row ends within the list, and no port lies in two of them
pub record KeepsRows (ports : List (Option ℕ)) (spans : List (ℕ × ℕ)) : Type 0 where
  pub within : (n : ℕ) → n < length spans → (span_at spans n).0 + (span_at spans n).1 ≤ length ports
  pub apart : (n m k l : ℕ) → n < length spans → m < length spans → k < (span_at spans n).1 → l < (span_at spans m).1
      → (span_at spans n).0 + k ≡ (span_at spans m).0 + l → n ≡ m

-- where rows begin and how many ports they have: the first begins at a place, and each other where the one before ends
abbrev pub spans_from : ℕ → List ℕ → List (ℕ × ℕ)
spans_from start [] = []
spans_from start (end ∷ ends) = (start, end - start) ∷ spans_from end ends

abbrev pub spans_of : List ℕ → List (ℕ × ℕ)
spans_of [] = []
spans_of (start ∷ ends) = spans_from start ends

-- where the rows begin, and where the last one ends
pub record KeepsStarts (ports : List (Option ℕ)) (starts : List ℕ) : Type 0 where
  pub some : 0 < length starts
  pub rises : (n : ℕ) → n + 1 < length starts → slice_index starts n ≤ slice_index starts (n + 1)
  pub rows : KeepsRows ports (spans_of starts)

-- the most ports of a row, but 1 at least
pub record IsMost (rows : List (List (Option ℕ))) (most : ℕ) : Type 0 where
  pub some : 1 ≤ most
  pub each : (n : ℕ) → n < length rows → length (row_of rows n) ≤ most
  pub least : (m : ℕ) → 1 ≤ m → ((n : ℕ) → n < length rows → length (row_of rows n) ≤ m) → most ≤ m
