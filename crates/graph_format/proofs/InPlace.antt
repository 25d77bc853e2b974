-- Where no reference names nothing, each place is that of a part that is there.
use Rattle.std.proofs.Common.{◌≡◌, ℕ, ◌<◌, List, [], ◌∷◌, ◌++◌, length, map, cond, Option, Some, None, refl, sym, ◌∙◌, bytes_eq}
use Rattle.std.specs.Prelude.{is_none, unwrap_or}
use Rattle.std.specs.List.{All, flat_map}
use Rattle.std.proofs.lemmas.List.Concat.{flat_map-append}
use Rattle.std.proofs.lemmas.List.Elements.{All-nil, All-cons}
use Rattle.std.proofs.lemmas.List.Quantifiers.{position-Some}
use Rattle.param_expr.specs.Bind.{names_of, place_of, placed_in}
use Rattle.param_expr.specs.Eval.{RefersBelow}
use Rattle.param_expr.specs.Named.{NamedTree, number, name, binary}
use Rattle.pisdf_model.proofs.Lists.{left_none, right_none}
use Rattle.pisdf_model.specs.declared.fifo.End.{End}
use Rattle.pisdf_model.specs.declared.fifo.End.TheVariants as end
use Rattle.graph_format.specs.declared.fifo.FileEnd.{FileEnd}
use Rattle.graph_format.specs.declared.fifo.FileEnd.TheVariants as file_end
use Rattle.graph_format.specs.Placed.{first_place, placed_end}
use Rattle.pisdf_model.specs.Wires.{port_text}
use Rattle.graph_format.specs.References.{missing, unknown_in_end, unknown_in_expr}
use Rattle.graph_format.specs.KnownNames.{KnownNames, names_at}

-- ---- lists of references

-- what holds of each part that has no such reference holds of all where the list has none
pub each_there : {A B : Type 0} (unknown : A → List (List ℕ)) (placed : A → B) (P : B → Type 0) → ((x : A) → unknown x ≡ [] → P (placed x)) → (xs : List A) → flat_map unknown xs ≡ [] → All P (map placed xs)
each_there unknown placed P h [] none = All-nil P
each_there unknown placed P h (x ∷ xs) none =
    All-cons P (placed x) (map placed xs) (h x (left_none (unknown x) (flat_map unknown xs) none)) (each_there unknown placed P h xs (right_none (unknown x) (flat_map unknown xs) none))

-- ---- names

pub at_place : (o : Option ℕ) (known : List (List ℕ)) (w : List ℕ) (some : List (List ℕ)) (v : List ℕ) → place_of known w ≡ o → cond (is_none o) (v ∷ some) [] ≡ [] → (place_of known w ≡ Some (unwrap_or o 0)) × (unwrap_or o 0 < length known)
at_place None known w some v e h = absurd cc
at_place (Some i) known w some v e h = (e, (position-Some (bytes_eq w) known i [] e).0)

pub place_there : (known : List (List ℕ)) (w : List ℕ) → missing known w ≡ [] → first_place known w < length known
place_there known w h = (at_place (place_of known w) known w [] w refl h).1

-- ---- expressions

pub expr_there : (s : KnownNames) (e : NamedTree) → unknown_in_expr s e ≡ [] → RefersBelow (length s.params) (placed_in s.params e)
expr_there s (number z) h = tt
expr_there s (name w) h = place_there s.params w (left_none (missing s.params w) [] h)
expr_there s (binary op a b) h =
    let both : unknown_in_expr s a ++ unknown_in_expr s b ≡ [] = sym (flat_map-append (missing s.params) (names_of a) (names_of b)) ∙ h in
    (expr_there s a (left_none (unknown_in_expr s a) (unknown_in_expr s b) both), expr_there s b (right_none (unknown_in_expr s a) (unknown_in_expr s b) both))

-- ---- ends

-- an interface that is there, or a port of an actor that is there
abbrev pub IsEndThere : KnownNames → End → Type 0
IsEndThere s (end.Interface i) = i < length s.interfaces
IsEndThere s (end.Port a p) = (a < length s.actors) × (p < length (names_at s.ports (Some a)))

no_name : (w : List ℕ) → place_of [] w ≡ None
no_name w = refl

port_there : (s : KnownNames) (actor port : List ℕ) (o : Option ℕ) → place_of s.actors actor ≡ o → cond (is_none (place_of (names_at s.ports o) port)) (port_text actor port ∷ []) [] ≡ []
    → (unwrap_or o 0 < length s.actors) × (first_place (names_at s.ports o) port < length (names_at s.ports (Some (unwrap_or o 0))))
port_there s actor port None e h = let no : port_text actor port ∷ [] ≡ [] = h in absurd cc
port_there s actor port (Some i) e h =
    ((position-Some (bytes_eq actor) s.actors i [] e).0, (at_place (place_of (names_at s.ports (Some i)) port) (names_at s.ports (Some i)) port [] (port_text actor port) refl h).1)

pub end_there : (s : KnownNames) (e : FileEnd) → unknown_in_end s e ≡ [] → IsEndThere s (placed_end s e)
end_there s (file_end.Interface w) h = place_there s.interfaces w h
end_there s (file_end.Port actor port) h = port_there s actor port (place_of s.actors actor) refl h
