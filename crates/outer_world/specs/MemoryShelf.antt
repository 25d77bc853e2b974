-- A shelf in memory.
use Rattle.std.specs.Prelude.{◌≡◌, ℕ, ◌==◌, List, find, Option, option_map, if◌then◌else◌, String, Vec, string_bytes, None}
use Rattle.std.specs.List.{list_any}
use Rattle.std.specs.declared.alloc.Global.{Global}
use Rattle.std.specs.Str.{bytes_eq}

-- a shelf: its files by name, the numbers of the loads that fail, the number of the next load, and how often a load of each name failed
pub record ShelfInMemory : Type 0 where
  pub files : List (String Global × Vec ℕ Global)
  pub failing : List ℕ
  pub next : ℕ
  pub faults : List (List ℕ × ℕ)

-- the bytes of the first file of that name
abbrev pub file_of : List (String Global × Vec ℕ Global) → List ℕ → Option (List ℕ)
file_of files name = option_map (λ file. file.1.items) (find (λ file. bytes_eq (string_bytes file.0) name) files)

-- the file that a load gives, by the load's number and a name: none where the number is listed as failing, or no file has the name
abbrev pub given_of : List (String Global × Vec ℕ Global) → List ℕ → ℕ → List ℕ → Option (List ℕ)
given_of files failing number name = if list_any (λ n. n == number) failing then None else file_of files name

-- the next load of that name fails
abbrev pub NextFails : ShelfInMemory → List ℕ → Type 0
NextFails shelf name = given_of shelf.files shelf.failing shelf.next name ≡ None
