-- The configuration actors of a graph, one after the other.
use Rattle.std.proofs.Common.{◌≡◌, ℕ, zero, suc, ◌+◌, ◌<◌, ◌≤◌, true, false, ⊎_elim, List, [], ◌∷◌, ◌++◌, length, get_or, take, drop, drop-cons, drop_of_length-le, Result, Ok, Err, refl, ap, sym, ◌∙◌, subst, append_assoc, length-append, arith}
use Rattle.std.specs.List.{flat_map}
use Rattle.std.proofs.lemmas.Bool.{cases_Bool}
use Rattle.std.proofs.lemmas.List.{append-nil, take_all, take_more}
use Rattle.param_resolver.specs.EarlyView.{EarlyView}
use Rattle.pisdf_model.specs.InterfaceWires.{is_configuration}
use Rattle.pisdf_model.specs.declared.actor.Actor.{Actor}
use Rattle.pisdf_model.specs.declared.graph.Graph.{Graph}
use Rattle.pisdf_meaning.specs.Configuring.{Configuration, Configures, LeaveAll, Leaves, configurations, configurations_from, with_first}
use Rattle.pisdf_meaning.specs.Endings.{Ends}
use Rattle.pisdf_meaning.specs.Nested.{HaveLeft, configuration_at, outs_count, rates_count, with_all}
use Rattle.pisdf_meaning.specs.Sound.{IsConfiguration, actor_at, no_actor}
use Rattle.pisdf_meaning.specs.declared.firing.Configured.{Configured}
use Rattle.pisdf_meaning.specs.declared.firing.Firing.{Firing}
use Rattle.pisdf_meaning.specs.declared.refusal.Refusal.{Refusal}

-- ---- the numbers of configuration actors

pub with_first_one : (c a : ℕ) (x : Actor) (actors : List Actor) → is_configuration x.body ≡ true → configurations_from c a (x ∷ actors) ≡ record { number = c; place = a; name = x.name; body = x.body } ∷ configurations_from (c + 1) (a + 1) actors
with_first_one c a x actors is = rw is refl

pub without_first_one : (c a : ℕ) (x : Actor) (actors : List Actor) → is_configuration x.body ≡ false → configurations_from c a (x ∷ actors) ≡ configurations_from c (a + 1) actors
without_first_one c a x actors is = rw is refl

pub count_with : (c a : ℕ) (actors : List Actor) (x : Actor) → is_configuration x.body ≡ true → length (configurations_from c a (actors ++ x ∷ [])) ≡ length (configurations_from c a actors) + 1
count_with c a [] x is = ap length (with_first_one c a x [] is)
count_with c a (y ∷ actors) x is = ⊎_elim
    (λ (holds : is_configuration y.body ≡ true).
    let again = count_with (c + 1) (a + 1) actors x is in
    let l = ap length (with_first_one c a y (actors ++ x ∷ []) holds) in
    let r = ap length (with_first_one c a y actors holds) in
    omega arith)
    (λ (none : is_configuration y.body ≡ false).
    let again = count_with c (a + 1) actors x is in
    let l = ap length (without_first_one c a y (actors ++ x ∷ []) none) in
    let r = ap length (without_first_one c a y actors none) in
    omega arith)
    (cases_Bool (is_configuration y.body))

pub count_without : (c a : ℕ) (actors : List Actor) (x : Actor) → is_configuration x.body ≡ false → length (configurations_from c a (actors ++ x ∷ [])) ≡ length (configurations_from c a actors)
count_without c a [] x is = ap length (without_first_one c a x [] is)
count_without c a (y ∷ actors) x is = ⊎_elim
    (λ (holds : is_configuration y.body ≡ true).
    let again = count_without (c + 1) (a + 1) actors x is in
    let l = ap length (with_first_one c a y (actors ++ x ∷ []) holds) in
    let r = ap length (with_first_one c a y actors holds) in
    omega arith)
    (λ (none : is_configuration y.body ≡ false).
    let again = count_without c (a + 1) actors x is in
    let l = ap length (without_first_one c a y (actors ++ x ∷ []) none) in
    let r = ap length (without_first_one c a y actors none) in
    omega arith)
    (cases_Bool (is_configuration y.body))

count_below : (c a : ℕ) (actors : List Actor) (i : ℕ) → length (configurations_from c a (take i actors)) ≤ length (configurations_from c a actors)
count_below c a actors zero = omega arith
count_below c a [] (suc i) = omega arith
count_below c a (y ∷ actors) (suc i) = ⊎_elim
    (λ (holds : is_configuration y.body ≡ true).
    let again = count_below (c + 1) (a + 1) actors i in
    let l = ap length (with_first_one c a y (take i actors) holds) in
    let r = ap length (with_first_one c a y actors holds) in
    omega arith)
    (λ (none : is_configuration y.body ≡ false).
    let again = count_below c (a + 1) actors i in
    let l = ap length (without_first_one c a y (take i actors) none) in
    let r = ap length (without_first_one c a y actors none) in
    omega arith)
    (cases_Bool (is_configuration y.body))

-- ---- counts of outputs

outs_snoc : (before : List Configured) (one : Configured) → outs_count (before ++ one ∷ []) ≡ outs_count before + length one.outs
outs_snoc [] one = let e = length-append one.outs [] in omega arith
outs_snoc (x ∷ before) one =
    let again = outs_snoc before one in
    let l = length-append x.outs (flat_map (λ (y : Configured). y.outs) (before ++ one ∷ [])) in
    let r = length-append x.outs (flat_map (λ (y : Configured). y.outs) before) in
    omega arith

rates_more : (outs : List (List ℕ)) (n : ℕ) → n < length outs → rates_count (take (suc n) outs) ≡ rates_count (take n outs) + length (get_or outs n [])
rates_more [] n h = absurd (omega arith)
rates_more (x ∷ outs) zero h = let e = length-append x (flat_map (λ (rates : List ℕ). rates) (take 0 outs)) in omega arith
rates_more (x ∷ outs) (suc n) h =
    let again = rates_more outs n (omega arith) in
    let l = length-append x (flat_map (λ (rates : List ℕ). rates) (take (suc n) outs)) in
    let r = length-append x (flat_map (λ (rates : List ℕ). rates) (take n outs)) in
    omega arith

-- ---- what they leave

with_all-first : (before : List Configured) (one : Configured) (rest : Result (List Configured) Refusal) → with_all before (with_first one rest) ≡ with_all (before ++ one ∷ []) rest
with_all-first before one (Ok more) = ap Ok (sym (append_assoc before (one ∷ []) more))
with_all-first before one (Err refusal) = refl

module _ (graphs : List Graph) (ends : Ends) (g : Graph) (firing : Firing) (early : EarlyView) where
  start_on : (rest : Result (List Configured) Refusal) → LeaveAll graphs ends g firing (configurations_from 0 0 g.actors) rest → Configures graphs ends g firing (with_all [] rest)
  start_on (Ok more) all = all
  start_on (Err refusal) all = all

  pub left_start : HaveLeft graphs ends g firing early 0 []
  left_start = record { number_is = refl; outs = refl; goes_on = start_on }

  module _ (place : ℕ) (before : List Configured) (inside : place < length g.actors) (left : HaveLeft graphs ends g firing early place before) where
    here : drop place g.actors ≡ actor_at g place ∷ drop (suc place) g.actors
    here = drop-cons g.actors place no_actor inside

    pub is_configuration_here : is_configuration (actor_at g place).body ≡ true → IsConfiguration g (length before) place
    is_configuration_here is = record { inside = inside; is = is; number_is = left.number_is }

    pub left_skip : is_configuration (actor_at g place).body ≡ false → HaveLeft graphs ends g firing early (place + 1) before
    left_skip is = record {
      number_is = left.number_is ∙ sym (ap (λ (l : List Actor). length (configurations_from 0 0 l)) (take_more g.actors place no_actor inside) ∙ count_without 0 0 (take place g.actors) (actor_at g place) is);
      outs = left.outs;
      goes_on = λ rest all.
          let same : configurations_from (length before) place (drop place g.actors) ≡ configurations_from (length before) (place + 1) (drop (place + 1) g.actors) =
          ap (configurations_from (length before) place) here ∙ without_first_one (length before) place (actor_at g place) (drop (suc place) g.actors) is
          ∙ ap (λ n. configurations_from (length before) (place + 1) (drop n g.actors)) (let e : suc place ≡ place + 1 = omega arith in e) in
          let P : List Configuration → Type 0 = λ l. LeaveAll graphs ends g firing l rest in
          left.goes_on rest (subst P (sym same) all);
    }

    module _ (is : is_configuration (actor_at g place).body ≡ true) where
      now : configurations_from (length before) place (drop place g.actors) ≡ configuration_at g (length before) place ∷ configurations_from (length before + 1) (place + 1) (drop (place + 1) g.actors)
      now = ap (configurations_from (length before) place) here ∙ with_first_one (length before) place (actor_at g place) (drop (suc place) g.actors) is
          ∙ ap (λ n. configuration_at g (length before) place ∷ configurations_from (length before + 1) (place + 1) (drop n g.actors)) (let e : suc place ≡ place + 1 = omega arith in e)

      pub left_refused : (refusal : Refusal) → Leaves graphs ends g firing (configuration_at g (length before) place) (actor_at g place).body (Err refusal) → Configures graphs ends g firing (Err refusal)
      left_refused refusal leaves =
          let P : List Configuration → Type 0 = λ l. LeaveAll graphs ends g firing l (Err refusal) in
          left.goes_on (Err refusal) (subst P (sym now) (Err refusal, leaves, refl))

      pub left_next : (one : Configured) → length early.outs ≡ length (configurations g) → Leaves graphs ends g firing (configuration_at g (length before) place) (actor_at g place).body (Ok one) →
          length one.outs ≡ length (get_or early.outs (length before) []) → HaveLeft graphs ends g firing early (place + 1) (before ++ one ∷ [])
      left_next one known leaves outs =
          let more : length (before ++ one ∷ []) ≡ length before + 1 = length-append before (one ∷ []) in
          let step : length (configurations_from 0 0 (take (place + 1) g.actors)) ≡ length (configurations_from 0 0 (take place g.actors)) + 1 =
          ap (λ (l : List Actor). length (configurations_from 0 0 l)) (take_more g.actors place no_actor inside) ∙ count_with 0 0 (take place g.actors) (actor_at g place) is in
          let below = count_below 0 0 g.actors (place + 1) in
          let few : length before < length early.outs = let n = left.number_is in omega arith in
          let rates = rates_more early.outs (length before) few in
          let count : rates_count (take (length (before ++ one ∷ [])) early.outs) ≡ rates_count (take (suc (length before)) early.outs) = ap (λ n. rates_count (take n early.outs)) (let e : length (before ++ one ∷ []) ≡ suc (length before) = omega arith in e) in
          record {
            number_is = let n = left.number_is in omega arith;
            outs = let s = outs_snoc before one in let o = left.outs in omega arith;
            goes_on = λ rest all.
                let P : List Configuration → Type 0 = λ l. LeaveAll graphs ends g firing l (with_first one rest) in
                let Q : ℕ → Type 0 = λ n. LeaveAll graphs ends g firing (configurations_from n (place + 1) (drop (place + 1) g.actors)) rest in
                let R : Result (List Configured) Refusal → Type 0 = λ r. Configures graphs ends g firing r in
                subst R (with_all-first before one rest) (left.goes_on (with_first one rest) (subst P (sym now) (Ok one, leaves, (rest, subst Q more all, refl))));
          }

  pub left_all : (place : ℕ) (before : List Configured) → length g.actors ≤ place → HaveLeft graphs ends g firing early place before → Configures graphs ends g firing (Ok before)
  left_all place before over left =
      let none : drop place g.actors ≡ [] = drop_of_length-le g.actors over in
      let P : List Actor → Type 0 = λ l. LeaveAll graphs ends g firing (configurations_from (length before) place l) (Ok []) in
      let Q : List Configured → Type 0 = λ l. Configures graphs ends g firing (Ok l) in
      subst Q (append-nil before) (left.goes_on (Ok []) (subst P (sym none) refl))

  pub left_counts : (place : ℕ) (before : List Configured) → length g.actors ≤ place → length early.outs ≡ length (configurations g) → HaveLeft graphs ends g firing early place before → outs_count before ≡ rates_count early.outs
  left_counts place before over known left =
      let whole : length before ≡ length (configurations g) = left.number_is ∙ ap (λ (l : List Actor). length (configurations_from 0 0 l)) (take_all place g.actors over) in
      left.outs ∙ ap rates_count (take_all (length before) early.outs (omega arith))
