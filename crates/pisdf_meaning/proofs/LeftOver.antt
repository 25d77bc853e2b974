-- The actors of a level with counts left, actor by actor.
use Rattle.std.proofs.Common.{◌≡◌, ℕ, suc, ◌+◌, ◌<◌, ◌≤◌, true, false, List, [], ◌∷◌, ◌++◌, length, get_or, drop, drop-cons, drop_of_length-le, refl, ap, sym, ◌∙◌, arith}
use Rattle.std.specs.List.{filter}
use Rattle.param_resolver.specs.Numbering.{fires}
use Rattle.pisdf_model.specs.declared.actor.Actor.{Actor}
use Rattle.pisdf_meaning.specs.Causes.{actors_left, left_of_actor}
use Rattle.pisdf_meaning.specs.Sound.{no_actor}

no_counts : (actors : List Actor) → actors_left actors [] ≡ []
no_counts [] = refl
no_counts (x ∷ actors) = refl

with_fires : (x : Actor) (actors : List Actor) → fires x ≡ true → filter fires (x ∷ actors) ≡ x ∷ filter fires actors
with_fires x actors is = rw is refl

without_fires : (x : Actor) (actors : List Actor) → fires x ≡ false → filter fires (x ∷ actors) ≡ filter fires actors
without_fires x actors is = rw is refl

module _ (actors : List Actor) (counts : List ℕ) (i n : ℕ) (h : i < length actors) where
  here : drop i actors ≡ get_or actors i no_actor ∷ drop (i + 1) actors
  here = drop-cons actors i no_actor h ∙ ap (λ m. get_or actors i no_actor ∷ drop m actors) (let e : suc i ≡ i + 1 = omega arith in e)

  pub left_skips : fires (get_or actors i no_actor) ≡ false → actors_left (filter fires (drop i actors)) (drop n counts) ≡ actors_left (filter fires (drop (i + 1) actors)) (drop n counts)
  left_skips is = ap (λ l. actors_left (filter fires l) (drop n counts)) here ∙ ap (λ l. actors_left l (drop n counts)) (without_fires (get_or actors i no_actor) (drop (i + 1) actors) is)

  pub left_fires : fires (get_or actors i no_actor) ≡ true → n < length counts →
      actors_left (filter fires (drop i actors)) (drop n counts) ≡ left_of_actor (get_or actors i no_actor) (get_or counts n 0) ++ actors_left (filter fires (drop (i + 1) actors)) (drop (n + 1) counts)
  left_fires is k =
      ap (λ l. actors_left (filter fires l) (drop n counts)) here ∙ ap (λ l. actors_left l (drop n counts)) (with_fires (get_or actors i no_actor) (drop (i + 1) actors) is)
      ∙ ap (actors_left (get_or actors i no_actor ∷ filter fires (drop (i + 1) actors))) (drop-cons counts n 0 k ∙ ap (λ m. get_or counts n 0 ∷ drop m counts) (let e : suc n ≡ n + 1 = omega arith in e))

  pub left_past : length counts ≤ n → actors_left (filter fires (drop i actors)) (drop n counts) ≡ actors_left (filter fires (drop (i + 1) actors)) (drop n counts)
  left_past over = ap (actors_left (filter fires (drop i actors))) (drop_of_length-le counts over) ∙ no_counts (filter fires (drop i actors)) ∙ sym (ap (actors_left (filter fires (drop (i + 1) actors))) (drop_of_length-le counts over) ∙ no_counts (filter fires (drop (i + 1) actors)))
