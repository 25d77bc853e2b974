-- Resolving the parts of a list one after the other, as a loop does.
use Rattle.std.proofs.Common.{◌≡◌, ℕ, ◌+◌, ◌≤◌, ◌<◌, List, [], ◌∷◌, ◌++◌, length, get_or, take, drop, map, Ok, refl, sym, ap, subst, ◌∙◌}
use Rattle.std.specs.List.{flat_map}
use Rattle.std.proofs.lemmas.List.{take_more, drop_more, take_all, take-append-drop, map_push}
use Rattle.std.proofs.lemmas.List.Concat.{flat_map-append}
use Rattle.pisdf_model.proofs.Walking.{first-append}
use Rattle.pisdf_model.specs.Details.{Refuses}
use Rattle.graph_reader.specs.Resolves.{Resolves}
use Rattle.pisdf_model.specs.declared.detail_fault.DetailFault.{DetailFault}
use Rattle.pisdf_model.specs.declared.detail_fault.DetailFault.TheVariants.{Fault, Memory}

-- no reference so far names nothing, and these are the parts so far
pub record Stands {A B : Type 0} (unknown : A → List (List ℕ)) (placed : A → B) (xs : List A) (i : ℕ) (done : List B) : Type 0 where
  pub known : flat_map unknown (take i xs) ≡ []
  pub made : done ≡ map placed (take i xs)

-- the first of all stands in the front, where the front has one
pub front_fails : (front rest : List (List ℕ)) (e : DetailFault (List ℕ)) → Refuses front e → Refuses (front ++ rest) e
front_fails front rest Memory h = tt
front_fails front rest (Fault w) h = first-append front rest w h

-- and in what comes after the front, where the front has none
pub rest_fails : (front rest : List (List ℕ)) (e : DetailFault (List ℕ)) → front ≡ [] → Refuses rest e → Refuses (front ++ rest) e
rest_fails front rest e none h = rw none h

-- where neither has one, there is none
pub none_in_both : (front rest : List (List ℕ)) → front ≡ [] → rest ≡ [] → front ++ rest ≡ []
none_in_both front rest none nothing = rw (none, nothing) refl

pub take_next : {A : Type 0} (xs : List A) (i : ℕ) (x : A) → i < length xs → x ≡ get_or xs i x → take (i + 1) xs ≡ take i xs ++ x ∷ []
take_next xs i x lt is = take_more xs i x lt ∙ ap (λ y. take i xs ++ y ∷ []) (sym is)

pub goes_on : {A B : Type 0} (unknown : A → List (List ℕ)) (placed : A → B) (xs : List A) (i : ℕ) (x : A) (y : B) (done : List B) → i < length xs → x ≡ get_or xs i x → Resolves (unknown x) (placed x) (Ok y) → Stands unknown placed xs i done
    → Stands unknown placed xs (i + 1) (done ++ y ∷ [])
goes_on unknown placed xs i x y done lt is h stands = record {
  known = ap (flat_map unknown) (take_next xs i x lt is) ∙ flat_map-append unknown (take i xs) (x ∷ []) ∙ ap (λ f. f ++ (unknown x ++ [])) stands.known ∙ ap (λ u. u ++ []) h.0;
  made = ap (λ d. d ++ y ∷ []) stands.made ∙ ap (λ z. map placed (take i xs) ++ z ∷ []) h.1 ∙ sym (map_push placed (take i xs) x) ∙ sym (ap (map placed) (take_next xs i x lt is));
}

split_at : {A : Type 0} (xs : List A) (i : ℕ) (x : A) → i < length xs → x ≡ get_or xs i x → take i xs ++ x ∷ drop (i + 1) xs ≡ xs
split_at xs i x lt is = ap (λ y. take i xs ++ y ∷ drop (i + 1) xs) is ∙ ap (λ d. take i xs ++ d) (sym (drop_more xs i x lt)) ∙ take-append-drop i xs

-- the first of all stands at a part, where no part before it has one
pub first_at : {A : Type 0} (unknown : A → List (List ℕ)) (xs : List A) (i : ℕ) (x : A) (e : DetailFault (List ℕ)) → i < length xs → x ≡ get_or xs i x → flat_map unknown (take i xs) ≡ [] → Refuses (unknown x) e → Refuses (flat_map unknown xs) e
first_at unknown xs i x e lt is none h =
    let all : flat_map unknown xs ≡ flat_map unknown (take i xs) ++ (unknown x ++ flat_map unknown (drop (i + 1) xs)) = ap (flat_map unknown) (sym (split_at xs i x lt is)) ∙ flat_map-append unknown (take i xs) (x ∷ drop (i + 1) xs) in
    subst (λ (u : List (List ℕ)). Refuses u e) (sym all) (rest_fails (flat_map unknown (take i xs)) (unknown x ++ flat_map unknown (drop (i + 1) xs)) e none (front_fails (unknown x) (flat_map unknown (drop (i + 1) xs)) e h))

pub is_done : {A B : Type 0} (unknown : A → List (List ℕ)) (placed : A → B) (xs : List A) (i : ℕ) (done : List B) → length xs ≤ i → Stands unknown placed xs i done → Resolves (flat_map unknown xs) (map placed xs) (Ok done)
is_done unknown placed xs i done le stands =
    let whole : take i xs ≡ xs = take_all i xs le in
    (ap (flat_map unknown) (sym whole) ∙ stands.known, stands.made ∙ ap (map placed) whole)

-- one part more, of which is told what is told of its source
pub tells_on : {A B C : Type 0} (view : B → C) (told : A → C) (xs : List A) (i : ℕ) (x : A) (y : B) (done : List B) → i < length xs → x ≡ get_or xs i x → view y ≡ told x → map view done ≡ map told (take i xs) → map view (done ++ y ∷ []) ≡ map told (take (i + 1) xs)
tells_on view told xs i x y done lt is h before =
    map_push view done y ∙ ap (λ d. d ++ view y ∷ []) before ∙ ap (λ z. map told (take i xs) ++ z ∷ []) h ∙ sym (map_push told (take i xs) x) ∙ sym (ap (map told) (take_next xs i x lt is))
