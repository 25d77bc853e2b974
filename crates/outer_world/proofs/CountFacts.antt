-- The count of a name is what the map has at the name's text.
use Rattle.std.proofs.Common.{◌≡◌, ℕ, List, [], ◌∷◌, Bool, cond, true, false, refl, String, string_bytes, map}
use Rattle.std.specs.Prelude.{Some, unwrap_or}
use Rattle.std.specs.declared.alloc.Global.{Global}
use Rattle.std.specs.BTreeMap.{BTreeMap, get_by_text, is_at}
use Rattle.std.specs.Map.{lookup}
use Rattle.std.specs.Ordering.{nat_cmp}
use Rattle.std.specs.Cmp.Lexicographic.{slice_cmp}
use Rattle.std.specs.Str.{bytes_eq}
use Rattle.std.proofs.lemmas.Map.Text.{is_eq-slice_cmp}
use Rattle.outer_world.specs.Counts.{pairs_of, count_of}

-- what stands at the key with the name's text, or 0
abbrev at_text : List ℕ → List (String Global × ℕ) → ℕ
at_text name entries = unwrap_or (lookup (is_at (λ k. slice_cmp nat_cmp name (string_bytes k))) entries) 0

count_of-map : (name : List ℕ) (entries : List (String Global × ℕ)) → count_of (map (λ entry. (string_bytes entry.0, entry.1)) entries) name ≡ at_text name entries
count_of-map name [] = refl
count_of-map name (e ∷ rest) = rw is_eq-slice_cmp (at_first (count_of-map name rest) (bytes_eq name (string_bytes e.0)))
  where
    at_first : count_of (map (λ entry. (string_bytes entry.0, entry.1)) rest) name ≡ at_text name rest → (b : Bool) → cond b e.1 (count_of (map (λ entry. (string_bytes entry.0, entry.1)) rest) name) ≡ unwrap_or (cond b (Some e.1) (lookup (is_at (λ k. slice_cmp nat_cmp name (string_bytes k))) rest)) 0
    at_first same true = refl
    at_first same false = same

pub count_of-pairs_of : (counts : BTreeMap (String Global) ℕ) (name : List ℕ) → count_of (pairs_of counts) name ≡ unwrap_or (get_by_text counts name) 0
count_of-pairs_of counts name = count_of-map name counts.entries
