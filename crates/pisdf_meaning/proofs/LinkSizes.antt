-- What the links of a level ask of an actor's firing, and what they give it, by the actor's number.
use Rattle.std.proofs.Common.{◌≡◌, ℕ, zero, suc, ◌+◌, ◌-◌, ◌<◌, ◌==◌, ◌&&◌, ◌||◌, not, nat_lt, nat_le, Bool, true, false, cond, ⊎_elim, ℤ, List, [], ◌∷◌, ◌++◌, length, count_by, take, slice_get, slice_index, Option, Some, None, refl, ap, sym, ◌∙◌, subst, arith}
use Rattle.std.specs.List.{AllByRecursion, filter}
use Rattle.std.proofs.lemmas.Bool.{and_from, and_parts, cases_Bool, eq-eqb, eqb-true, false_from_ne_true, leb-true, ltb-false, ltb-true, not-false, not-true, not_from_false, or_left, or_parts, true≢false}
use Rattle.std.proofs.lemmas.List.Sums.{sum_by-cons}
use Rattle.param_resolver.specs.LevelOf.{fifo_links, head_of, input_port, links_of, out_rates, output_port, state_link, state_links, tail_of}
use Rattle.param_resolver.specs.Numbering.{acting, actor_number, fires, has_state, is_kept, output_count, place_among, source_ends, state_size}
use Rattle.pisdf_model.specs.Details.{from_number}
use Rattle.pisdf_model.specs.InterfaceWires.{has_delay, is_at_configuration, is_at_input, is_at_interface, is_at_output, is_configuration, is_configuration_actor}
use Rattle.pisdf_model.specs.Parts.{input_count, port_count}
use Rattle.pisdf_model.specs.Wires.{gives_tokens, is_input_port, is_output_port, takes_tokens}
use Rattle.pisdf_model.specs.declared.actor.Actor.{Actor}
use Rattle.pisdf_model.specs.declared.actor.Body.{Body}
use Rattle.pisdf_model.specs.declared.actor.Body.TheVariants.{Kernel, Config, Child, ConfigChild}
use Rattle.pisdf_model.specs.declared.fifo.End.{End}
use Rattle.pisdf_model.specs.declared.fifo.End.TheVariants.{Interface, Port}
use Rattle.pisdf_model.specs.declared.fifo.Fifo.{Fifo}
use Rattle.pisdf_model.specs.declared.graph.Graph.{Graph}
use Rattle.sdf_level.specs.Invariants.{how_many, is_into_port}
use Rattle.sdf_level.specs.LevelRun.{HasRate, HaveRates}
use Rattle.sdf_level.specs.declared.link.Link.{Link}
use Rattle.sdf_level.specs.declared.link.Head.{Head}
use Rattle.sdf_level.specs.declared.link.Tail.TheVariants as tail
use Rattle.sdf_level.specs.declared.link.Head.TheVariants as head
use Rattle.pisdf_meaning.specs.Sizes.{IsWired}
use Rattle.pisdf_meaning.specs.States.{tokens_at}
use Rattle.pisdf_meaning.proofs.LineSizes.{IsOwn}

-- ---- the numbers of actors

count_first : (x : Actor) (actors : List Actor) → count_by fires (x ∷ actors) ≡ cond (fires x) 1 0 + count_by fires actors
count_first x actors = sum_by-cons (λ (y : Actor). cond (fires y) 1 0) x actors

-- the actor of a place stands at its number
pub numbered : (actors : List Actor) (a : ℕ) (x : Actor) → slice_get actors a ≡ Some x → fires x ≡ true → slice_get (filter fires actors) (count_by fires (take a actors)) ≡ Some x
numbered [] a x is acts = absurd (cc)
numbered (y ∷ actors) zero x is acts = let same : y ≡ x = cc in rw (same, acts) refl
numbered (y ∷ actors) (suc a) x is acts = ⊎_elim
    (λ (fire : fires y ≡ true).
    let count = count_first y (take a actors) in
    let now : count_by fires (take (suc a) (y ∷ actors)) ≡ suc (count_by fires (take a actors)) = count ∙ rw fire (let e : 1 + count_by fires (take a actors) ≡ suc (count_by fires (take a actors)) = omega arith in e) in
    let first : filter fires (y ∷ actors) ≡ y ∷ filter fires actors = rw fire refl in
    ap (λ l. slice_get l (count_by fires (take (suc a) (y ∷ actors)))) first ∙ ap (slice_get (y ∷ filter fires actors)) now ∙ numbered actors a x is acts)
    (λ (skip : fires y ≡ false).
    let count = count_first y (take a actors) in
    let now : count_by fires (take (suc a) (y ∷ actors)) ≡ count_by fires (take a actors) = count ∙ rw skip (let e : 0 + count_by fires (take a actors) ≡ count_by fires (take a actors) = omega arith in e) in
    let first : filter fires (y ∷ actors) ≡ filter fires actors = rw skip refl in
    ap (λ l. slice_get l (count_by fires (take (suc a) (y ∷ actors)))) first ∙ ap (slice_get (filter fires actors)) now ∙ numbered actors a x is acts)
    (cases_Bool (fires y))

-- where the actor of a number stands
pub record Placed (actors : List Actor) (b : ℕ) (x : Actor) : Type 0 where
  pub place : ℕ
  pub is : slice_get actors place ≡ Some x
  pub acts : fires x ≡ true
  pub number : count_by fires (take place actors) ≡ b

placed_here : (y : Actor) (actors : List Actor) (x : Actor) → fires y ≡ true → (n : ℕ) → slice_get (y ∷ filter fires actors) n ≡ Some x → ((m : ℕ) → slice_get (filter fires actors) m ≡ Some x → Placed actors m x) → Placed (y ∷ actors) n x
placed_here y actors x fire zero e again = let same : y ≡ x = cc in record { place = 0; is = e; acts = rw same at fire; number = refl }
placed_here y actors x fire (suc n) e again =
    let p = again n e in
    let one : count_by fires (take (suc p.place) (y ∷ actors)) ≡ 1 + count_by fires (take p.place actors) = count_first y (take p.place actors) ∙ rw fire refl in
    record { place = suc p.place; is = p.is; acts = p.acts; number = let m = p.number in omega arith }

placed_past : (y : Actor) (actors : List Actor) (x : Actor) → fires y ≡ false → (n : ℕ) → Placed actors n x → Placed (y ∷ actors) n x
placed_past y actors x skip n p =
    let none : count_by fires (take (suc p.place) (y ∷ actors)) ≡ 0 + count_by fires (take p.place actors) = count_first y (take p.place actors) ∙ rw skip refl in
    record { place = suc p.place; is = p.is; acts = p.acts; number = let m = p.number in omega arith }

pub placed : (actors : List Actor) (b : ℕ) (x : Actor) → slice_get (filter fires actors) b ≡ Some x → Placed actors b x
placed [] b x is = absurd (cc)
placed (y ∷ actors) b x is = ⊎_elim
    (λ (fire : fires y ≡ true).
    let first : filter fires (y ∷ actors) ≡ y ∷ filter fires actors = rw fire refl in
    placed_here y actors x fire b (ap (λ l. slice_get l b) (sym first) ∙ is) (λ m e. placed actors m x e))
    (λ (skip : fires y ≡ false).
    let first : filter fires (y ∷ actors) ≡ filter fires actors = rw skip refl in
    placed_past y actors x skip b (placed actors b x (ap (λ l. slice_get l b) (sym first) ∙ is)))
    (cases_Bool (fires y))

-- ---- FIFOs

-- one that leads into a configuration actor has no delay
at_interface : (g : Graph) (end : End) → is_at_input g end ≡ true → is_at_interface end ≡ true
at_interface g (Interface i) is = refl
at_interface g (Port a p) is = absurd (cc)

pub no_delay : (graphs : List Graph) (g : Graph) (f : Fifo) → IsWired graphs g f → is_kept g f ≡ false → length f.delay ≡ 0
no_delay graphs g f wired skipped =
    let last = or_parts ((is_at_interface f.tail && is_at_interface f.head) || (has_delay f && (is_at_interface f.tail || is_at_interface f.head)) || (is_at_configuration g f.head && not (is_at_input g f.tail))) (is_at_configuration g f.tail && (has_delay f || is_at_output g f.head)) wired.is_placed in
    let third = or_parts ((is_at_interface f.tail && is_at_interface f.head) || (has_delay f && (is_at_interface f.tail || is_at_interface f.head))) (is_at_configuration g f.head && not (is_at_input g f.tail)) last.0 in
    let second = or_parts (is_at_interface f.tail && is_at_interface f.head) (has_delay f && (is_at_interface f.tail || is_at_interface f.head)) third.0 in
    let config : is_at_configuration g f.head ≡ true = not-false (is_at_configuration g f.head) skipped in
    let input : is_at_input g f.tail ≡ true = not-false (is_at_input g f.tail) (false_from_ne_true (not (is_at_input g f.tail)) (λ out. true≢false (sym (and_from (is_at_configuration g f.head) (not (is_at_input g f.tail)) config out) ∙ third.1))) in
    let touches : (is_at_interface f.tail || is_at_interface f.head) ≡ true = or_left (is_at_interface f.tail) (is_at_interface f.head) (at_interface g f.tail input) in
    let delayed : has_delay f ≡ false = false_from_ne_true (has_delay f) (λ has. true≢false (sym (and_from (has_delay f) (is_at_interface f.tail || is_at_interface f.head) has touches) ∙ second.1)) in
    let least = ltb-false 0 (length f.delay) delayed in
    omega arith

-- ---- the rates at an actor's outputs

-- what a firing gives is as long as the rates of the actor's outputs, and what goes on of its state as the state
pub record OutsFit (graphs : List Graph) (values : List ℤ) (actor : Actor) (outs : List (List ℤ)) : Type 0 where
  pub ports : (j : ℕ) → j < output_count graphs actor.body → length (tokens_at outs j) ≡ slice_index (out_rates graphs values actor.body) j
  pub state : has_state graphs actor ≡ true → length (tokens_at outs (output_count graphs actor.body)) ≡ state_size graphs actor.body

state_acts : (graphs : List Graph) (body : Body) → nat_lt 0 (state_size graphs body) ≡ true → not (is_configuration body) ≡ true
state_acts graphs (Kernel kernel args ins outs) some = refl
state_acts graphs (Config kernel args ins outs sets) some = absurd (cc)
state_acts graphs (Child place args) some = refl
state_acts graphs (ConfigChild place args sets) some = absurd (cc)

append_rates : (b : ℕ) (outs : List (List ℤ)) (xs ys : List Link) → HaveRates b outs xs → HaveRates b outs ys → HaveRates b outs (xs ++ ys)
append_rates b outs [] ys f h = h
append_rates b outs (x ∷ xs) ys f h = (f.0, append_rates b outs xs ys f.1 h)

rates_each : {X : Type 0} (b : ℕ) (outs : List (List ℤ)) (of_part : ℕ → X → List Link) (n : ℕ) (xs : List X) → ((j : ℕ) (x : X) → slice_get xs j ≡ Some x → HaveRates b outs (of_part (n + j) x)) → HaveRates b outs (from_number n of_part xs)
rates_each b outs of_part n [] each = tt
rates_each b outs of_part n (x ∷ xs) each =
    let zeroth : n + 0 ≡ n = omega arith in
    append_rates b outs (of_part n x) (from_number (n + 1) of_part xs) (rw zeroth at (each 0 x refl))
    (rates_each b outs of_part (n + 1) xs (λ j y is. let e : n + suc j ≡ (n + 1) + j = omega arith in rw e at (each (suc j) y is)))

pub one_at : {X : Type 0} (P : X → Type 0) (xs : List X) → AllByRecursion P xs → (i : ℕ) (x : X) → slice_get xs i ≡ Some x → P x
one_at P [] all i x is = absurd (cc)
one_at P (y ∷ xs) all zero x is = let same : y ≡ x = cc in subst P same all.0
one_at P (y ∷ xs) all (suc i) x is = one_at P xs all.1 i x is

module _ (graphs : List Graph) (g : Graph) (values : List ℤ) (wired : AllByRecursion (IsWired graphs g) g.fifos) (b : ℕ) (actor : Actor) (here : slice_get (acting g) b ≡ Some actor) where
  -- an actor with that number is this one
  this_actor : (a : ℕ) (x : Actor) → slice_get g.actors a ≡ Some x → fires x ≡ true → actor_number g a ≡ b → actor ≡ x
  this_actor a x is acts e = let both : Some actor ≡ Some x = sym here ∙ ap (slice_get (acting g)) (sym e) ∙ numbered g.actors a x is acts in cc

  module _ (outs : List (List ℤ)) (fit : OutsFit graphs values actor outs) where
    port_rate : (a p : ℕ) (o : Option Actor) → slice_get g.actors a ≡ o → is_output_port graphs o p ≡ true → HasRate b outs (cond (is_configuration_actor o) (tail.Source (place_among (source_ends graphs g) (Port a p))) (output_port graphs g values a p o))
    port_rate a p None is gives = absurd (cc)
    port_rate a p (Some x) is gives = ⊎_elim
        (λ (config : is_configuration x.body ≡ true). rw config tt)
        (λ (acts : is_configuration x.body ≡ false).
        let parts = and_parts (nat_le (input_count graphs x.body) p) (nat_lt p (port_count graphs x.body)) gives in
        let low = leb-true (input_count graphs x.body) p parts.0 in
        let high = ltb-true p (port_count graphs x.body) parts.1 in
        let P : Actor → Type 0 = λ y. p - input_count graphs y.body < output_count graphs y.body → length (tokens_at outs (p - input_count graphs y.body)) ≡ slice_index (out_rates graphs values y.body) (p - input_count graphs y.body) in
        let holds : P actor = fit.ports (p - input_count graphs actor.body) in
        rw acts (λ e. subst P (this_actor a x is (not_from_false (is_configuration x.body) acts) e) holds (omega arith)))
        (cases_Bool (is_configuration x.body))

    tail_rate : (t : End) → gives_tokens graphs g t ≡ true → HasRate b outs (tail_of graphs g values t)
    tail_rate (Interface i) gives = tt
    tail_rate (Port a p) gives = port_rate a p (slice_get g.actors a) refl gives

    fifo_rate : (f : Fifo) → IsWired graphs g f → HaveRates b outs (fifo_links graphs g values f)
    fifo_rate f is = ⊎_elim
        (λ (kept : is_kept g f ≡ true). rw kept (tail_rate f.tail is.gives, tt))
        (λ (skipped : is_kept g f ≡ false). rw skipped tt)
        (cases_Bool (is_kept g f))

    state_rate : (a : ℕ) (x : Actor) → slice_get g.actors a ≡ Some x → HaveRates b outs (state_links graphs g a x)
    state_rate a x is = ⊎_elim
        (λ (has : has_state graphs x ≡ true).
        let P : Actor → Type 0 = λ y. has_state graphs y ≡ true → length (tokens_at outs (output_count graphs y.body)) ≡ state_size graphs y.body in
        let holds : P actor = fit.state in
        rw has ((λ e. subst P (this_actor a x is (state_acts graphs x.body has) e) holds has), tt))
        (λ (none : has_state graphs x ≡ false). rw none tt)
        (cases_Bool (has_state graphs x))

    pub rates_given : HaveRates b outs (links_of graphs g values)
    rates_given =
        append_rates b outs (from_number 0 (λ i f. fifo_links graphs g values f) g.fifos) (from_number 0 (λ a x. state_links graphs g a x) g.actors)
        (rates_each b outs (λ i f. fifo_links graphs g values f) 0 g.fifos (λ j f is. fifo_rate f (one_at (IsWired graphs g) g.fifos wired j f is)))
        (rates_each b outs (λ a x. state_links graphs g a x) 0 g.actors (λ j x is. let e : 0 + j ≡ j = omega arith in let P : ℕ → Type 0 = λ n. HaveRates b outs (state_links graphs g n x) in subst P (sym e) (state_rate j x is)))

  -- ---- the link from the actor to itself

  abbrev port : ℕ
  port = input_count graphs actor.body

  abbrev size : ℕ
  size = state_size graphs actor.body

  abbrev Own : Link → Type 0
  Own link = is_into_port b port link ≡ true → IsOwn b port size link

  append_own : (xs ys : List Link) → AllByRecursion Own xs → AllByRecursion Own ys → AllByRecursion Own (xs ++ ys)
  append_own [] ys f h = h
  append_own (x ∷ xs) ys f h = (f.0, append_own xs ys f.1 h)

  own_each : {X : Type 0} (of_part : ℕ → X → List Link) (n : ℕ) (xs : List X) → ((j : ℕ) (x : X) → slice_get xs j ≡ Some x → AllByRecursion Own (of_part (n + j) x)) → AllByRecursion Own (from_number n of_part xs)
  own_each of_part n [] each = tt
  own_each of_part n (x ∷ xs) each =
      let zeroth : n + 0 ≡ n = omega arith in
      append_own (of_part n x) (from_number (n + 1) of_part xs) (rw zeroth at (each 0 x refl))
      (own_each of_part (n + 1) xs (λ j y is. let e : n + suc j ≡ (n + 1) + j = omega arith in rw e at (each (suc j) y is)))

  abbrev into : Head → Bool
  into h = elim h [ head.Sink s ↦ false | head.Port c j r ↦ (c == b) && (j == port) ]

  port_apart : (a p : ℕ) (o : Option Actor) → slice_get g.actors a ≡ o → is_configuration_actor o ≡ false → is_input_port graphs o p ≡ true → into (input_port graphs g values a p o) ≡ true → ⊥
  port_apart a p None is acts takes e = cc
  port_apart a p (Some x) is acts takes e =
      let parts = and_parts (actor_number g a == b) (p == port) e in
      let number = eqb-true (actor_number g a) b parts.0 in
      let same = this_actor a x is (not_from_false (is_configuration x.body) acts) number in
      let low : p < input_count graphs x.body = ltb-true p (input_count graphs x.body) takes in
      let here : p ≡ input_count graphs actor.body = eqb-true p port parts.1 in
      let counts = ap (λ (y : Actor). input_count graphs y.body) same in
      omega arith

  head_apart : (h : End) → takes_tokens graphs g h ≡ true → is_at_configuration g h ≡ false → into (head_of graphs g values h) ≡ true → ⊥
  head_apart (Interface i) takes acts e = cc
  head_apart (Port a p) takes acts e = port_apart a p (slice_get g.actors a) refl acts takes e

  fifo_own : (f : Fifo) → IsWired graphs g f → AllByRecursion Own (fifo_links graphs g values f)
  fifo_own f is = ⊎_elim
      (λ (kept : is_kept g f ≡ true). rw kept ((λ e. absurd (head_apart f.head is.takes (not-true (is_at_configuration g f.head) kept) e)), tt))
      (λ (skipped : is_kept g f ≡ false). rw skipped tt)
      (cases_Bool (is_kept g f))

  own_so : (a : ℕ) (x : Actor) → actor ≡ x → actor_number g a ≡ b → IsOwn b port size (state_link graphs g a x.body)
  own_so a x same number =
      let P : Actor → Type 0 = λ y. IsOwn b port size (state_link graphs g a y.body) in
      subst P same record { out = output_count graphs actor.body; is = rw number refl }

  state_own : (a : ℕ) (x : Actor) → slice_get g.actors a ≡ Some x → AllByRecursion Own (state_links graphs g a x)
  state_own a x is = ⊎_elim
      (λ (has : has_state graphs x ≡ true).
      rw has (
        (λ e.
            let parts = and_parts (actor_number g a == b) (input_count graphs x.body == port) e in
            let number = eqb-true (actor_number g a) b parts.0 in
            own_so a x (this_actor a x is (state_acts graphs x.body has) number) number),
        tt,
      ))
      (λ (none : has_state graphs x ≡ false). rw none tt)
      (cases_Bool (has_state graphs x))

  pub all_own : AllByRecursion Own (links_of graphs g values)
  all_own =
      append_own (from_number 0 (λ i f. fifo_links graphs g values f) g.fifos) (from_number 0 (λ a x. state_links graphs g a x) g.actors)
      (own_each (λ i f. fifo_links graphs g values f) 0 g.fifos (λ j f is. fifo_own f (one_at (IsWired graphs g) g.fifos wired j f is)))
      (own_each (λ a x. state_links graphs g a x) 0 g.actors (λ j x is. let e : 0 + j ≡ j = omega arith in let P : ℕ → Type 0 = λ n. AllByRecursion Own (state_links graphs g n x) in subst P (sym e) (state_own j x is)))

  -- there is one

  many_append : (xs ys : List Link) → how_many (is_into_port b port) (xs ++ ys) ≡ how_many (is_into_port b port) xs + how_many (is_into_port b port) ys
  many_append [] ys = omega arith
  many_append (x ∷ xs) ys = let again = many_append xs ys in omega arith

  some_each : {X : Type 0} (of_part : ℕ → X → List Link) (n : ℕ) (xs : List X) (j : ℕ) (x : X) → slice_get xs j ≡ Some x → 0 < how_many (is_into_port b port) (of_part (n + j) x) → 0 < how_many (is_into_port b port) (from_number n of_part xs)
  some_each of_part n [] j x is some = absurd (cc)
  some_each of_part n (y ∷ xs) zero x is some =
      let same : y ≡ x = cc in
      let zeroth : n + 0 ≡ n = omega arith in
      let both = many_append (of_part n y) (from_number (n + 1) of_part xs) in
      let P : ℕ → Type 0 = λ m. 0 < how_many (is_into_port b port) (of_part m y) in
      let Q : _ → Type 0 = λ z. 0 < how_many (is_into_port b port) (of_part (n + 0) z) in
      let own : 0 < how_many (is_into_port b port) (of_part n y) = subst P zeroth (subst Q (sym same) some) in
      omega arith
  some_each of_part n (y ∷ xs) (suc j) x is some =
      let e : n + suc j ≡ (n + 1) + j = omega arith in
      let P : ℕ → Type 0 = λ m. 0 < how_many (is_into_port b port) (of_part m x) in
      let again = some_each of_part (n + 1) xs j x is (subst P e some) in
      let both = many_append (of_part n y) (from_number (n + 1) of_part xs) in
      omega arith

  pub some_own : has_state graphs actor ≡ true → 0 < how_many (is_into_port b port) (links_of graphs g values)
  some_own has =
      let at_place = placed g.actors b actor here in
      let own : actor_number g at_place.place ≡ b = at_place.number in
      let link : 0 < how_many (is_into_port b port) (state_links graphs g at_place.place actor) = rw (has, eq-eqb (actor_number g at_place.place) b own, eq-eqb port port refl) (omega arith) in
      let e : 0 + at_place.place ≡ at_place.place = omega arith in
      let P : ℕ → Type 0 = λ n. 0 < how_many (is_into_port b port) (state_links graphs g n actor) in
      let states = some_each (λ a x. state_links graphs g a x) 0 g.actors at_place.place actor at_place.is (subst P (sym e) link) in
      let both = many_append (from_number 0 (λ i f. fifo_links graphs g values f) g.fifos) (from_number 0 (λ a x. state_links graphs g a x) g.actors) in
      omega arith
