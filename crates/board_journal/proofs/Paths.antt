-- A path more changes no entry.
use Rattle.std.proofs.Common.{◌≡◌, ℕ, ◌+◌, ◌<◌, List, [], ◌∷◌, ◌++◌, length, get_or, refl, sym, ap, ap₂, arith}
use Rattle.std.specs.List.{All}
use Rattle.std.proofs.lemmas.List.{get_or_append_left}
use Rattle.std.proofs.lemmas.List.Elements.{All-head, All-tail, All-weaker}
use Rattle.board_rules.specs.declared.entry.Entry.TheVariants as entry
use Rattle.board_journal.specs.Invariants.{NamePaths, NamesPath, entries_of, entry_of}
use Rattle.board_journal.specs.declared.line.Line.{Line}
use Rattle.board_journal.specs.declared.line.Line.TheVariants.{Claim, Finish}

entry_stays : (paths : List (List ℕ)) (path : List ℕ) (line : Line) → NamesPath paths line → entry_of (paths ++ path ∷ []) line ≡ entry_of paths line
entry_stays paths path (Claim worker number item) inside = ap (λ p. entry.Claim worker p item) (get_or_append_left paths (path ∷ []) [] number inside)
entry_stays paths path (Finish worker) inside = refl

pub entries_stay : (paths : List (List ℕ)) (path : List ℕ) (lines : List Line) → NamePaths paths lines → entries_of (paths ++ path ∷ []) lines ≡ entries_of paths lines
entries_stay paths path [] names = refl
entries_stay paths path (line ∷ lines) names =
    ap₂ (λ e es. e ∷ es) (entry_stays paths path line (All-head (NamesPath paths) line lines names)) (entries_stay paths path lines (All-tail (NamesPath paths) line lines names))

name_stays : (paths : List (List ℕ)) (path : List ℕ) (line : Line) → NamesPath paths line → NamesPath (paths ++ path ∷ []) line
name_stays paths path (Claim worker number item) inside = omega (arith, inside, Rattle.std.proofs.Common.length-append paths (path ∷ []))
name_stays paths path (Finish worker) inside = tt

pub names_stay : (paths : List (List ℕ)) (path : List ℕ) (lines : List Line) → NamePaths paths lines → NamePaths (paths ++ path ∷ []) lines
names_stay paths path lines names = All-weaker (NamesPath paths) (NamesPath (paths ++ path ∷ [])) (name_stays paths path) lines names
