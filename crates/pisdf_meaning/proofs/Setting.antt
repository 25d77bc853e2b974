-- What configuration actors set, one after the other.
use Rattle.std.proofs.Common.{◌≡◌, ◌⊎◌, inl, inr, ⊎_elim, min, ℕ, ◌+◌, ◌<◌, ◌≤◌, ℤ, true, false, List, [], ◌∷◌, ◌++◌, length, get_or, drop, drop_of_length-le, zip, refl, ap, sym, ◌∙◌, append_assoc, arith}
use Rattle.std.proofs.lemmas.Bool.{cases_lt}
use Rattle.std.proofs.lemmas.List.{append-nil, drop-drop}
use Rattle.pisdf_model.specs.InterfaceWires.{is_configuration}
use Rattle.pisdf_model.specs.Ports.{sets_of}
use Rattle.pisdf_model.specs.declared.actor.Actor.{Actor}
use Rattle.pisdf_model.specs.declared.param.Param.{Param}
use Rattle.pisdf_meaning.specs.Configuring.{Configuration, configurations_from}
use Rattle.pisdf_meaning.specs.Preparing.{chosen_from, chosen_next, first_sets, values_set}
use Rattle.pisdf_meaning.specs.declared.firing.Configured.{Configured}
use Rattle.pisdf_meaning.proofs.FileOrder.{from_here}
use Rattle.pisdf_meaning.proofs.OneByOne.{with_first_one, without_first_one}

module _ {A B : Type 0} where
  zip_none : (xs : List A) → zip {K = A} {X = B} xs [] ≡ []
  zip_none [] = refl
  zip_none (x ∷ xs) = refl

  -- one pair more
  pub pair_more : (done done' : List (A × B)) (all : List (A × B)) (xs : List A) (ys : List B) (i : ℕ) (x : A) (y : B) → i < length xs → i < length ys → x ≡ get_or xs i x → y ≡ get_or ys i y →
      done' ≡ done ++ (x, y) ∷ [] → done ++ zip (drop i xs) (drop i ys) ≡ all → done' ++ zip (drop (i + 1) xs) (drop (i + 1) ys) ≡ all
  pair_more done done' all xs ys i x y h k atx aty now were =
      let here : zip (drop i xs) (drop i ys) ≡ (get_or xs i x, get_or ys i y) ∷ zip (drop (i + 1) xs) (drop (i + 1) ys) = rw (from_here xs i x h, from_here ys i y k) refl in
      ap (λ (l : List (A × B)). l ++ zip (drop (i + 1) xs) (drop (i + 1) ys)) now ∙ append_assoc done ((x, y) ∷ []) (zip (drop (i + 1) xs) (drop (i + 1) ys))
      ∙ ap (λ (l : List (A × B)). done ++ l) (ap (λ (v : A). (v, y) ∷ zip (drop (i + 1) xs) (drop (i + 1) ys)) atx ∙ ap (λ (v : B). (get_or xs i x, v) ∷ zip (drop (i + 1) xs) (drop (i + 1) ys)) aty ∙ sym here)
      ∙ were

  -- no pair is left at the end of the shorter one
  pub pairs_end : (done all : List (A × B)) (xs : List A) (ys : List B) (i : ℕ) → (length xs ≤ i) ⊎ (length ys ≤ i) → done ++ zip (drop i xs) (drop i ys) ≡ all → done ≡ all
  pairs_end done all xs ys i over were =
      let none : zip (drop i xs) (drop i ys) ≡ [] = elim over [ inl h ↦ rw (drop_of_length-le xs h) refl | inr h ↦ rw (drop_of_length-le ys h) (zip_none (drop i xs)) ] in
      sym (append-nil done) ∙ ap (λ (l : List (A × B)). done ++ l) (sym none) ∙ were

-- ---- what actors set

no_more : (cs : List Configuration) → values_set cs [] ≡ []
no_more [] = refl
no_more (c ∷ cs) = refl

one_sets : (c : Configuration) (cs : List Configuration) (left : List Configured) → values_set (c ∷ cs) left ≡ zip (sets_of c.body) (first_sets left) ++ values_set cs (drop 1 left)
one_sets c cs [] = rw (zip_none {B = ℤ} (sets_of c.body), no_more cs) refl
one_sets c cs (one ∷ left) = refl

module _ (actors : List Actor) (left : List Configured) (place n : ℕ) (d : Actor) (h : place < length actors) where
  pub set_skips : is_configuration (get_or actors place d).body ≡ false →
      values_set (configurations_from n place (drop place actors)) (drop n left) ≡ values_set (configurations_from n (place + 1) (drop (place + 1) actors)) (drop n left)
  set_skips is = ap (λ (l : List Actor). values_set (configurations_from n place l) (drop n left)) (from_here actors place d h)
      ∙ ap (λ (cs : List Configuration). values_set cs (drop n left)) (without_first_one n place (get_or actors place d) (drop (place + 1) actors) is)

  pub set_here : is_configuration (get_or actors place d).body ≡ true →
      values_set (configurations_from n place (drop place actors)) (drop n left)
      ≡ zip (sets_of (get_or actors place d).body) (first_sets (drop n left)) ++ values_set (configurations_from (n + 1) (place + 1) (drop (place + 1) actors)) (drop (n + 1) left)
  set_here is =
      let c : Configuration = record { number = n; place = place; name = (get_or actors place d).name; body = (get_or actors place d).body } in
      let cs : List Configuration = configurations_from (n + 1) (place + 1) (drop (place + 1) actors) in
      ap (λ (l : List Actor). values_set (configurations_from n place l) (drop n left)) (from_here actors place d h)
      ∙ ap (λ (cs : List Configuration). values_set cs (drop n left)) (with_first_one n place (get_or actors place d) (drop (place + 1) actors) is)
      ∙ one_sets c cs (drop n left)
      ∙ ap (λ (l : List Configured). zip (sets_of c.body) (first_sets (drop n left)) ++ values_set cs l) (drop-drop 1 n left)

pub chosen_here : (sets : List (ℕ × ℤ)) (params : List Param) (place : ℕ) (d : Param) → place < length params →
    chosen_from sets place (drop place params) ≡ chosen_next sets place (get_or params place d).kind ++ chosen_from sets (place + 1) (drop (place + 1) params)
chosen_here sets params place d h = ap (chosen_from sets place) (from_here params place d h)

pub either_over : (m n i k : ℕ) → k ≡ min m n → k ≤ i → (m ≤ i) ⊎ (n ≤ i)
either_over m n i k is over = ⊎_elim (λ (h : i < m). inr (omega arith)) (λ (h : m ≤ i). inl h) (cases_lt i m)
