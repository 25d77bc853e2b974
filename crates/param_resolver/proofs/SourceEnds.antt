-- Where the ends from which sources have their tokens stand among them.
use Rattle.std.proofs.Common.{◌≡◌, ℕ, zero, suc, ◌+◌, ◌-◌, ◌==◌, ◌<◌, ◌≤◌, ⊎_elim, Bool, true, false, not, List, [], ◌∷◌, ◌++◌, length, map, take, Some, refl, sym, ap, ◌∙◌, subst, arith, slice_get}
use Rattle.std.specs.Prelude.{sum_by}
use Rattle.std.specs.List.{filter, range_with_len}
use Rattle.std.proofs.lemmas.Bool.{and_parts, cases_Bool, cases_lt, eq-eqb, eqb-true, ne_eqb, not-true, not_from_false}
use Rattle.std.proofs.lemmas.List.{length-append, length-map}
use Rattle.std.proofs.lemmas.List.FromFn.{length-map-range_with_len}
use Rattle.std.proofs.lemmas.List.Sums.{sum_by-cons}
use Rattle.pisdf_model.specs.Details.{from_number, of_each}
use Rattle.pisdf_model.specs.InterfaceWires.{is_configuration}
use Rattle.pisdf_model.specs.Parts.{input_count, port_count}
use Rattle.pisdf_model.specs.declared.actor.Actor.{Actor}
use Rattle.pisdf_model.specs.declared.fifo.End.{End}
use Rattle.pisdf_model.specs.declared.fifo.End.TheVariants.{Interface, Port}
use Rattle.pisdf_model.specs.declared.graph.Graph.{Graph}
use Rattle.param_resolver.specs.Numbering.{config_ends, feeds_configuration, output_count, place_among, same_end, source_ends, source_inputs}
use Rattle.param_resolver.specs.Tables.{config_outputs}
use Rattle.param_resolver.proofs.Passing.{one, times}

-- ---- ends that are the same

pub same_is : (x y : End) → same_end x y ≡ true → x ≡ y
same_is (Interface i) (Interface j) h = ap Interface (sym (eqb-true j i h))
same_is (Interface i) (Port b q) h = absurd cc
same_is (Port a p) (Interface j) h = absurd cc
same_is (Port a p) (Port b q) h =
    let parts = and_parts (b == a) (q == p) h in
    let actors = eqb-true b a parts.0 in
    let ports = eqb-true q p parts.1 in
    cc

pub same_self : (x : End) → same_end x x ≡ true
same_self (Interface i) = eq-eqb i i refl
same_self (Port a p) = let first = eq-eqb a a refl in let second = eq-eqb p p refl in rw (first, second) refl

-- ---- the place of an end in a list

-- ends with one place are the same
pub place_apart : (es : List End) (x y : End) → place_among es x < length es → place_among es x ≡ place_among es y → x ≡ y
place_apart [] x y below same = absurd (omega arith)
place_apart (e ∷ es) x y below same = ⊎_elim
    (λ (first : same_end e x ≡ true).
    ⊎_elim (λ (second : same_end e y ≡ true). sym (same_is e x first) ∙ same_is e y second)
    (λ (other : same_end e y ≡ false). let counts = rw (first, other) at same in absurd (omega arith))
    (cases_Bool (same_end e y)))
    (λ (behind : same_end e x ≡ false).
    ⊎_elim (λ (second : same_end e y ≡ true). let counts = rw (behind, second) at same in absurd (omega arith))
    (λ (other : same_end e y ≡ false). let counts = rw (behind, other) at same in let less = rw behind at below in place_apart es x y (omega arith) (omega arith))
    (cases_Bool (same_end e y)))
    (cases_Bool (same_end e x))

-- among interfaces, then others
module _ (p : ℕ → Bool) (rest : List End) where
  pub place_interface : (a n k i : ℕ) → i ≡ a + k → k < n → p i ≡ true → place_among (map (λ j. Interface j) (filter p (range_with_len a n)) ++ rest) (Interface i) ≡ times p (range_with_len a k)
  place_interface a zero k i is below passes = absurd (omega arith)
  place_interface a (suc n) zero i is below passes =
      let same : i ≡ a = omega arith in
      let here : p a ≡ true = subst (λ m. p m ≡ true) same passes in
      let found = eq-eqb i a same in
      rw (here, found) refl
  place_interface a (suc n) (suc k) i is below passes =
      let apart : (i == a) ≡ false = ne_eqb i a (λ e. omega arith) in
      let later = place_interface (a + 1) n k i (omega arith) (omega arith) passes in
      ⊎_elim
      (λ (here : p a ≡ true). rw (here, apart) (ap (λ m. m + 1) later ∙ omega arith))
      (λ (skipped : p a ≡ false). rw skipped (later ∙ omega arith))
      (cases_Bool (p a))

  pub number_below : (a n k i : ℕ) → i ≡ a + k → k < n → p i ≡ true → times p (range_with_len a k) < length (filter p (range_with_len a n))
  number_below a zero k i is below passes = absurd (omega arith)
  number_below a (suc n) zero i is below passes =
      let same : i ≡ a = omega arith in
      let here : p a ≡ true = subst (λ m. p m ≡ true) same passes in
      rw here (omega arith)
  number_below a (suc n) (suc k) i is below passes =
      let later = number_below (a + 1) n k i (omega arith) (omega arith) passes in
      ⊎_elim
      (λ (here : p a ≡ true). rw here (omega arith))
      (λ (skipped : p a ≡ false). rw skipped (omega arith))
      (cases_Bool (p a))

  pub interface_at : (a n s : ℕ) → s < length (filter p (range_with_len a n)) → (k : ℕ) × (k < n) × (p (a + k) ≡ true) × (times p (range_with_len a k) ≡ s)
  interface_at a zero s below = absurd (omega arith)
  interface_at a (suc n) s below = ⊎_elim
      (λ (here : p a ≡ true).
      ⊎_elim
      (λ (some : 0 < s).
      let less = rw here at below in
      let later = interface_at (a + 1) n (s - 1) (omega arith) in
      let k : a + 1 + later.0 ≡ a + suc later.0 = omega arith in
      (suc later.0, omega arith, subst (λ m. p m ≡ true) k later.2, counted (p a) here (times p (range_with_len (a + 1) later.0)) s later.3 some))
      (λ (none : s ≤ 0). let k : a ≡ a + 0 = omega arith in (0, omega arith, subst (λ m. p m ≡ true) k here, omega arith))
      (cases_lt 0 s))
      (λ (skipped : p a ≡ false).
      let less = rw skipped at below in
      let later = interface_at (a + 1) n s less in
      let k : a + 1 + later.0 ≡ a + suc later.0 = omega arith in
      (suc later.0, omega arith, subst (λ m. p m ≡ true) k later.2, passed (p a) skipped (times p (range_with_len (a + 1) later.0)) s later.3))
      (cases_Bool (p a))
    where
      counted : (b : Bool) → b ≡ true → (n s : ℕ) → n ≡ s - 1 → 0 < s → one b + n ≡ s
      counted b is n s e some = rw is (omega arith)

      passed : (b : Bool) → b ≡ false → (n s : ℕ) → n ≡ s → one b + n ≡ s
      passed b is n s e = rw is (omega arith)

-- of a port, behind interfaces
pub past_interfaces : (js : List ℕ) (rest : List End) (a p : ℕ) → place_among (map (λ j. Interface j) js ++ rest) (Port a p) ≡ length js + place_among rest (Port a p)
past_interfaces [] rest a p = omega arith
past_interfaces (j ∷ js) rest a p = let later = past_interfaces js rest a p in omega arith

-- of a port, behind those of another actor
pub past_ports : (b : ℕ) (qs : List ℕ) (rest : List End) (a p : ℕ) → (a ≡ b → ⊥) → place_among (map (λ q. Port b q) qs ++ rest) (Port a p) ≡ length qs + place_among rest (Port a p)
past_ports b [] rest a p apart = omega arith
past_ports b (q ∷ qs) rest a p apart =
    let other = ne_eqb a b apart in
    let later = past_ports b qs rest a p apart in
    rw other (omega arith)

-- of a port, among those of its actor
pub among_ports : (a m n j p : ℕ) (rest : List End) → p ≡ m + j → j < n → place_among (map (λ q. Port a q) (range_with_len m n) ++ rest) (Port a p) ≡ j
among_ports a m zero j p rest is below = absurd (omega arith)
among_ports a m (suc n) zero p rest is below =
    let actor = eq-eqb a a refl in
    let port = eq-eqb p m (omega arith) in
    rw (actor, port) refl
among_ports a m (suc n) (suc j) p rest is below =
    let actor = eq-eqb a a refl in
    let port : (p == m) ≡ false = ne_eqb p m (λ e. omega arith) in
    let later = among_ports a (m + 1) n j p rest (omega arith) (omega arith) in
    rw (actor, port) (ap (λ k. k + 1) later ∙ omega arith)

-- ---- the outputs of configuration actors

module _ (graphs : List Graph) where
  abbrev pub total : List Actor → ℕ
  total [] = 0
  total (x ∷ xs) = config_outputs graphs x + total xs

  pub total_is : (xs : List Actor) → sum_by (λ (x : Actor). config_outputs graphs x) xs ≡ total xs
  total_is [] = refl
  total_is (x ∷ xs) = sum_by-cons (λ (y : Actor). config_outputs graphs y) x xs ∙ ap (λ n. config_outputs graphs x + n) (total_is xs)

  length_ends : (n : ℕ) (x : Actor) → length (config_ends graphs n x) ≡ config_outputs graphs x
  length_ends n x = ⊎_elim
      (λ (is : is_configuration x.body ≡ true). rw is (length-map-range_with_len (λ p. Port n p) (input_count graphs x.body) (output_count graphs x.body)))
      (λ (not : is_configuration x.body ≡ false). rw not refl)
      (cases_Bool (is_configuration x.body))

  pub length_outputs : (n : ℕ) (xs : List Actor) → length (from_number n (λ a x. config_ends graphs a x) xs) ≡ total xs
  length_outputs n [] = refl
  length_outputs n (x ∷ xs) = length-append (config_ends graphs n x) _ ∙ ap (λ m. m + length (from_number (n + 1) (λ a x. config_ends graphs a x) xs)) (length_ends n x) ∙ ap (λ m. config_outputs graphs x + m) (length_outputs (n + 1) xs)

  past_actor : (n : ℕ) (x : Actor) (rest : List End) (a p : ℕ) → (a ≡ n → ⊥) → place_among (config_ends graphs n x ++ rest) (Port a p) ≡ config_outputs graphs x + place_among rest (Port a p)
  past_actor n x rest a p apart = ⊎_elim
      (λ (is : is_configuration x.body ≡ true).
      rw is (past_ports n (range_with_len (input_count graphs x.body) (output_count graphs x.body)) rest a p apart
      ∙ ap (λ m. m + place_among rest (Port a p)) (sym (length-map (range_with_len (input_count graphs x.body) (output_count graphs x.body)) (λ q. Port n q)) ∙ length-map-range_with_len (λ q. Port n q) (input_count graphs x.body) (output_count graphs x.body))))
      (λ (not : is_configuration x.body ≡ false). rw not (omega arith))
      (cases_Bool (is_configuration x.body))

  pub place_output : (n : ℕ) (xs : List Actor) (k a p j : ℕ) (actor : Actor) → a ≡ n + k → slice_get xs k ≡ Some actor → is_configuration actor.body ≡ true → p ≡ input_count graphs actor.body + j → j < output_count graphs actor.body
      → place_among (from_number n (λ a x. config_ends graphs a x) xs) (Port a p) ≡ total (take k xs) + j
  place_output n [] k a p j actor is here config port below = absurd cc
  place_output n (x ∷ xs) zero a p j actor is here config port below =
      let e : x ≡ actor = cc in
      let number : a ≡ n = omega arith in
      rw (e, number, config) (among_ports n (input_count graphs actor.body) (output_count graphs actor.body) j p (from_number (n + 1) (λ a x. config_ends graphs a x) xs) port below ∙ omega arith)
  place_output n (x ∷ xs) (suc k) a p j actor is here config port below =
      let later = place_output (n + 1) xs k a p j actor (omega arith) here config port below in
      past_actor n x (from_number (n + 1) (λ a x. config_ends graphs a x) xs) a p (λ e. omega arith) ∙ omega arith

  pub output_below : (xs : List Actor) (k j : ℕ) (actor : Actor) → slice_get xs k ≡ Some actor → is_configuration actor.body ≡ true → j < output_count graphs actor.body → total (take k xs) + j < total xs
  output_below [] k j actor here config below = absurd cc
  output_below (x ∷ xs) zero j actor here config below = let e : x ≡ actor = cc in rw (e, config) (omega arith)
  output_below (x ∷ xs) (suc k) j actor here config below = let later = output_below xs k j actor here config below in omega arith

  pub output_at : (xs : List Actor) (s : ℕ) → s < total xs → (k : ℕ) × (j : ℕ) × (actor : Actor) × (slice_get xs k ≡ Some actor) × (is_configuration actor.body ≡ true) × (j < output_count graphs actor.body) × (total (take k xs) + j ≡ s)
  output_at [] s below = absurd (omega arith)
  output_at (x ∷ xs) s below = ⊎_elim
      (λ (first : s < config_outputs graphs x).
      ⊎_elim
      (λ (is : is_configuration x.body ≡ true). (0, s, x, refl, is, (rw is at first), omega arith))
      (λ (not : is_configuration x.body ≡ false). absurd (let less = rw not at first in omega arith))
      (cases_Bool (is_configuration x.body)))
      (λ (later : config_outputs graphs x ≤ s).
      let rest = output_at xs (s - config_outputs graphs x) (omega arith) in
      let sum = rest.6 in
      (suc rest.0, rest.1, rest.2, rest.3, rest.4, rest.5, omega arith))
      (cases_lt s (config_outputs graphs x))

-- ---- the ends of sources

abbrev pub IsSourceEnd : List Graph → Graph → End → Type 0
IsSourceEnd graphs g (Interface i) = (i < length g.inputs) × (feeds_configuration g i ≡ false)
IsSourceEnd graphs g (Port a p) = (actor : Actor) × (slice_get g.actors a ≡ Some actor) × (is_configuration actor.body ≡ true) × (input_count graphs actor.body ≤ p) × (p < port_count graphs actor.body)

module _ (graphs : List Graph) (g : Graph) where
  abbrev unfed : ℕ → Bool
  unfed i = not (feeds_configuration g i)

  pub number_of_input : (i : ℕ) → i < length g.inputs → feeds_configuration g i ≡ false → place_among (source_ends graphs g) (Interface i) ≡ times unfed (range_with_len 0 i)
  number_of_input i below none = place_interface unfed (of_each (λ a actor. config_ends graphs a actor) g.actors) 0 (length g.inputs) i i (omega arith) below (not_from_false (feeds_configuration g i) none)

  pub number_of_output : (a p : ℕ) (actor : Actor) → slice_get g.actors a ≡ Some actor → is_configuration actor.body ≡ true → input_count graphs actor.body ≤ p → p < port_count graphs actor.body
      → place_among (source_ends graphs g) (Port a p) ≡ length (source_inputs g) + (total graphs (take a g.actors) + (p - input_count graphs actor.body))
  number_of_output a p actor here config past below =
      past_interfaces (source_inputs g) (of_each (λ a actor. config_ends graphs a actor) g.actors) a p
      ∙ ap (λ n. length (source_inputs g) + n) (place_output graphs 0 g.actors a a p (p - input_count graphs actor.body) actor (omega arith) here config (omega arith) (omega arith))

  pub many_ends : length (source_ends graphs g) ≡ length (source_inputs g) + total graphs g.actors
  many_ends = length-append (map (λ i. Interface i) (source_inputs g)) _ ∙ ap (λ n. n + length (of_each (λ a actor. config_ends graphs a actor) g.actors)) (length-map (source_inputs g) (λ i. Interface i)) ∙ ap (λ n. length (source_inputs g) + n) (length_outputs graphs 0 g.actors)

  pub end_inside : (end : End) → IsSourceEnd graphs g end → place_among (source_ends graphs g) end < length (source_ends graphs g)
  end_inside (Interface i) is =
      let place = number_of_input i is.0 is.1 in
      let below = number_below unfed [] 0 (length g.inputs) i i (omega arith) is.0 (not_from_false (feeds_configuration g i) is.1) in
      let all = many_ends in
      omega arith
  end_inside (Port a p) is =
      let place = number_of_output a p is.0 is.1 is.2 is.3 is.4 in
      let below = output_below graphs g.actors a (p - input_count graphs is.0.body) is.0 is.1 is.2 (let most = is.4 in let least = is.3 in omega arith) in
      let all = many_ends in
      omega arith

  pub source_at : (s : ℕ) → s < length (source_ends graphs g) → (end : End) × IsSourceEnd graphs g end × (place_among (source_ends graphs g) end ≡ s)
  source_at s below =
      let all = many_ends in
      ⊎_elim
      (λ (first : s < length (source_inputs g)).
      let found = interface_at unfed [] 0 (length g.inputs) s first in
      let k : 0 + found.0 ≡ found.0 = omega arith in
      let none = not-true (feeds_configuration g found.0) (subst (λ m. unfed m ≡ true) k found.2) in
      (Interface found.0, (found.1, none), number_of_input found.0 found.1 none ∙ found.3))
      (λ (later : length (source_inputs g) ≤ s).
      let found = output_at graphs g.actors (s - length (source_inputs g)) (omega arith) in
      let p : ℕ = input_count graphs found.2.body + found.1 in
      let less = found.5 in
      let sum = found.6 in
      let most : p < port_count graphs found.2.body = omega arith in
      let least : input_count graphs found.2.body ≤ p = omega arith in
      let place = number_of_output found.0 p found.2 found.3 found.4 least most in
      (Port found.0 p, (found.2, found.3, found.4, least, most), omega arith))
      (cases_lt s (length (source_inputs g)))
