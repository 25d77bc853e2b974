-- The names of an object's members.
use Rattle.std.proofs.Common.{◌≡◌, ℕ, List, [], ◌∷◌, Bool, ◌&&◌, String, Global, string_bytes, map, bytes_eq, Bor, refl, ap, ◌∙◌, ◌||◌}
use Rattle.std.specs.List.{list_any, list_all}
use Rattle.serde_json.specs.View.{members_view}
use Rattle.serde_json.specs.declared.value.Value.{Value}
use Rattle.serde_json.specs.Data.{Data, Members}
use Rattle.serde_json.specs.Find.{get, as_object}
use Rattle.std.specs.Prelude.{is_some}
use Rattle.std.proofs.Common.{Some, true, sym}
use Rattle.std.proofs.lemmas.List.Folds.{list_all-map}
use Rattle.graph_format.specs.Walk.{all_known, members_known, has_form}

any_map : (names : List (Bor (List ℕ))) (name : List ℕ) → list_any (λ n. bytes_eq n name) (map (λ k. k.now) names) ≡ list_any (λ n. bytes_eq n.now name) names
any_map [] name = refl
any_map (n ∷ ns) name = ap (λ b. bytes_eq n.now name || b) (any_map ns name)

-- each member's name is among these
pub all_known_view : (names more : List (Bor (List ℕ))) (es : List (String Global × Value)) → all_known (map (λ k. k.now) names) (map (λ k. k.now) more) (members_view es)
    ≡ list_all (λ k. list_any (λ n. bytes_eq n.now (string_bytes k)) names || list_any (λ n. bytes_eq n.now (string_bytes k)) more) (map (λ e. e.0) es)
all_known_view names more [] = refl
all_known_view names more (e ∷ es) =
    let name = string_bytes e.0 in
    let after = all_known (map (λ k. k.now) names) (map (λ k. k.now) more) (members_view es) in
    ap (λ b. (b || list_any (λ n. bytes_eq n name) (map (λ k. k.now) more)) && after) (any_map names name)
    ∙ ap (λ b. (list_any (λ n. bytes_eq n.now name) names || b) && after) (any_map more name)
    ∙ ap (λ b. (list_any (λ n. bytes_eq n.now name) names || list_any (λ n. bytes_eq n.now name) more) && b) (all_known_view names more es)

-- an object with known members has the form where each required member is there
pub has_form_where : (names more : List (Bor (List ℕ))) (d : Data) (ms : Members) (each : Bool) → Some ms ≡ as_object d → all_known (map (λ k. k.now) names) (map (λ k. k.now) more) ms ≡ true
    → each ≡ list_all (λ name. is_some (get name.now d)) names → each ≡ has_form (map (λ k. k.now) names) (map (λ k. k.now) more) d
unfolding has_form
has_form_where names more d ms each object known each-is =
    each-is ∙ sym (list_all-map (λ name. is_some (get name d)) (λ k. k.now) names)
    ∙ sym (ap (λ o. members_known (map (λ k. k.now) names) (map (λ k. k.now) more) o && list_all (λ name. is_some (get name d)) (map (λ k. k.now) names)) (sym object)
    ∙ ap (λ b. b && list_all (λ name. is_some (get name d)) (map (λ k. k.now) names)) known)
