-- The places of a graph's configuration actors and of the actors of its level: each stands once.
use Rattle.std.proofs.Common.{◌≡◌, ⊎_elim, ℕ, zero, suc, ◌+◌, ◌<◌, ◌≤◌, true, false, List, [], ◌∷◌, length, map, slice_index, if◌then◌else◌, refl, ap, arith}
use Rattle.std.proofs.lemmas.Bool.{cases_Bool}
use Rattle.pisdf_model.specs.Details.{from_number}
use Rattle.pisdf_model.specs.InterfaceWires.{is_configuration}
use Rattle.pisdf_model.specs.declared.actor.Actor.{Actor}
use Rattle.pisdf_meaning.specs.Configuring.{Configuration, configurations_from}
use Rattle.param_resolver.specs.Numbering.{fires}

-- ---- numbers that rise

-- each is greater than those before it, the first at least so great
abbrev Rises : ℕ → List ℕ → Type 0
Rises low [] = Unit {0}
Rises low (x ∷ xs) = (low ≤ x) × Rises (x + 1) xs

rises_from : (low high : ℕ) (xs : List ℕ) → low ≤ high → Rises high xs → Rises low xs
rises_from low high [] le rises = tt
rises_from low high (x ∷ xs) le rises = (let l = rises.0 in omega arith, rises.1)

rises_low : (low : ℕ) (xs : List ℕ) (i : ℕ) → Rises low xs → i < length xs → low ≤ slice_index xs i
rises_low low [] i rises inside = absurd (omega arith)
rises_low low (x ∷ xs) zero rises inside = rises.0
rises_low low (x ∷ xs) (suc i) rises inside = let l = rises.0 in let rest = rises_low (x + 1) xs i rises.1 (omega arith) in omega arith

pub rises_apart : (low : ℕ) (xs : List ℕ) (i j : ℕ) → Rises low xs → i < length xs → j < length xs → slice_index xs i ≡ slice_index xs j → i ≡ j
rises_apart low [] i j rises one other same = absurd (omega arith)
rises_apart low (x ∷ xs) zero zero rises one other same = refl
rises_apart low (x ∷ xs) zero (suc j) rises one other same = let rest = rises_low (x + 1) xs j rises.1 (omega arith) in let s : x ≡ slice_index xs j = same in absurd (omega arith)
rises_apart low (x ∷ xs) (suc i) zero rises one other same = let rest = rises_low (x + 1) xs i rises.1 (omega arith) in let s : slice_index xs i ≡ x = same in absurd (omega arith)
rises_apart low (x ∷ xs) (suc i) (suc j) rises one other same = ap suc (rises_apart (x + 1) xs i j rises.1 (omega arith) (omega arith) same)

-- ---- places

abbrev pub acting_from : ℕ → List Actor → List ℕ
acting_from n actors = from_number n (λ a (actor : Actor). if fires actor then a ∷ [] else []) actors

abbrev pub config_places : ℕ → ℕ → List Actor → List ℕ
config_places c n actors = map (λ (x : Configuration). x.place) (configurations_from c n actors)

pub acting_rise : (n : ℕ) (actors : List Actor) → Rises n (acting_from n actors)
acting_rise n [] = tt
acting_rise n (y ∷ actors) = ⊎_elim
    (λ (is : is_configuration y.body ≡ true). rw is (rises_from n (n + 1) (acting_from (n + 1) actors) (omega arith) (acting_rise (n + 1) actors)))
    (λ (is : is_configuration y.body ≡ false). rw is (let l : n ≤ n = omega arith in (l, acting_rise (n + 1) actors)))
    (cases_Bool (is_configuration y.body))

pub configs_rise : (c n : ℕ) (actors : List Actor) → Rises n (config_places c n actors)
configs_rise c n [] = tt
configs_rise c n (y ∷ actors) = ⊎_elim
    (λ (is : is_configuration y.body ≡ true). rw is (let l : n ≤ n = omega arith in (l, configs_rise (c + 1) (n + 1) actors)))
    (λ (is : is_configuration y.body ≡ false). rw is (rises_from n (n + 1) (config_places c (n + 1) actors) (omega arith) (configs_rise c (n + 1) actors)))
    (cases_Bool (is_configuration y.body))

-- no place stands in both lists
abbrev Apart : List ℕ → List ℕ → Type 0
Apart xs ys = (i j : ℕ) → i < length xs → j < length ys → slice_index xs i ≡ slice_index ys j → ⊥

apart_first : (n : ℕ) (xs ys : List ℕ) → Rises (n + 1) ys → Apart xs ys → Apart (n ∷ xs) ys
apart_first n xs ys rises apart zero j one other same = let low = rises_low (n + 1) ys j rises other in let s : n ≡ slice_index ys j = same in omega arith
apart_first n xs ys rises apart (suc i) j one other same = apart i j (omega arith) other same

apart_second : (n : ℕ) (xs ys : List ℕ) → Rises (n + 1) xs → Apart xs ys → Apart xs (n ∷ ys)
apart_second n xs ys rises apart i zero one other same = let low = rises_low (n + 1) xs i rises one in let s : slice_index xs i ≡ n = same in omega arith
apart_second n xs ys rises apart i (suc j) one other same = apart i j one (omega arith) same

pub places_apart : (c n : ℕ) (actors : List Actor) → Apart (acting_from n actors) (config_places c n actors)
places_apart c n [] = λ i j one other same. absurd (omega arith)
places_apart c n (y ∷ actors) = ⊎_elim
    (λ (is : is_configuration y.body ≡ true). rw is (apart_second n (acting_from (n + 1) actors) (config_places (c + 1) (n + 1) actors) (acting_rise (n + 1) actors) (places_apart (c + 1) (n + 1) actors)))
    (λ (is : is_configuration y.body ≡ false). rw is (apart_first n (acting_from (n + 1) actors) (config_places c (n + 1) actors) (configs_rise c (n + 1) actors) (places_apart c (n + 1) actors)))
    (cases_Bool (is_configuration y.body))
