-- What is made of a well-formed graph is a level.
use Rattle.std.proofs.Common.{◌≡◌, ℕ, zero, suc, ◌+◌, ◌==◌, ◌&&◌, ◌||◌, ◌<◌, ◌≤◌, ⊎_elim, Bool, true, false, cond, not, nat_lt, nat_le, ℤ, List, [], ◌∷◌, ◌++◌, length, take, Option, Some, None, refl, sym, ap, ◌∙◌, subst, arith, slice_get}
use Rattle.std.specs.List.{AllByRecursion}
use Rattle.std.proofs.lemmas.Bool.{and_from, and_left, and_parts, cases_Bool, cases_eq, cases_lt, eq-eqb, false_from_ne_true, le-ltb, leb-true, lt-ltb, ltb-false, ltb-true, ne_eqb, not-true, not_from_false, or_left, or_parts, or_right, true≢false}
use Rattle.std.proofs.lemmas.List.{length-append, length-map}
use Rattle.pisdf_model.specs.Count.{actors_limit, fifos_limit}
use Rattle.pisdf_model.specs.Details.{from_number, of_each}
use Rattle.pisdf_model.specs.InterfaceWires.{has_delay, is_at_configuration, is_at_input, is_at_interface, is_at_output, is_configuration}
use Rattle.pisdf_model.specs.Wires.{gives_tokens, is_interface, names_of_interfaces, takes_tokens}
use Rattle.pisdf_model.specs.declared.actor.Actor.{Actor}
use Rattle.pisdf_model.specs.declared.fifo.End.{End}
use Rattle.pisdf_model.specs.declared.fifo.End.TheVariants.{Interface, Port}
use Rattle.pisdf_model.specs.declared.fifo.Fifo.{Fifo}
use Rattle.pisdf_model.specs.declared.graph.Graph.{Graph}
use Rattle.sdf_level.specs.Invariants.{HasHeadRateWithin, HasSoundDelay, HasTailRateWithin, HeadIsThere, IsLevel, TailIsThere, TouchesActor, how_many, is_from_port, is_from_source, is_into_port, rate_limit}
use Rattle.sdf_level.specs.Run.{is_into_actor}
use Rattle.sdf_level.specs.View.{LevelView}
use Rattle.sdf_level.specs.declared.link.Link.{Link}
use Rattle.sdf_level.specs.declared.link.Tail.{Tail}
use Rattle.sdf_level.specs.declared.link.Tail.TheVariants as tail
use Rattle.sdf_level.specs.declared.link.Head.{Head}
use Rattle.sdf_level.specs.declared.link.Head.TheVariants as head
use Rattle.param_resolver.specs.EarlyCheck.{early_of}
use Rattle.param_resolver.specs.LevelOf.{fifo_links, head_of, input_port, level_at, link_of, output_port, state_link, state_links, tail_of}
use Rattle.param_resolver.specs.Numbering.{acting, actor_number, feeds_configuration, fires, has_state, is_kept, level_inputs, output_count, place_among, source_ends}
use Rattle.param_resolver.proofs.LinkCounts.{at_input, at_output, at_sink, at_source, state_fires}
use Rattle.param_resolver.proofs.LinkEnds.{at_in_port, at_out_port}
use Rattle.param_resolver.proofs.Passing.{inside, length_filtered, numbered, one, placed, times, times_is, filtered}
use Rattle.param_resolver.proofs.RatesWithin.{in_within, index_within, out_within, outputs_found, sinks_many, sources_many, sources_within}
use Rattle.param_resolver.proofs.SourceEnds.{end_inside, many_ends}
use Rattle.param_resolver.specs.Tables.{IsSound}
use Rattle.param_resolver.proofs.Wired.{AreWired, gives_inside}

-- ---- all links

all_append : {X : Type 0} (P : X → Type 0) (xs ys : List X) → AllByRecursion P xs → AllByRecursion P ys → AllByRecursion P (xs ++ ys)
all_append P [] ys first second = second
all_append P (x ∷ xs) ys first second = (first.0, all_append P xs ys first.1 second)

only : {X : Type 0} (P : X → Type 0) (b : Bool) (x : X) → (b ≡ true → P x) → AllByRecursion P (cond b (x ∷ []) [])
only P true x here = (here refl, tt)
only P false x here = tt

length_only : {X : Type 0} (b : Bool) (x : X) → length (cond b (x ∷ []) []) ≤ 1
length_only true x = omega arith
length_only false x = omega arith

few_each : {X Y : Type 0} (h : ℕ → X → List Y) → ((n : ℕ) (x : X) → length (h n x) ≤ 1) → (n : ℕ) (xs : List X) → length (from_number n h xs) ≤ length xs
few_each h one n [] = omega arith
few_each h one n (x ∷ xs) =
    let here = one n x in
    let rest = few_each h one (n + 1) xs in
    let sum = length-append (h n x) (from_number (n + 1) h xs) in
    omega arith

-- ---- sums

pub sum_below : ℕ → (ℕ → ℕ) → ℕ
sum_below zero f = 0
sum_below (suc n) f = sum_below n f + f n

pub sum_same : (n : ℕ) (f g : ℕ → ℕ) → ((s : ℕ) → f s ≡ g s) → sum_below n f ≡ sum_below n g
unfolding sum_below
sum_same zero f g same = refl
sum_same (suc n) f g same = let rest = sum_same n f g same in let here = same n in omega arith

pub sum_plus : (n : ℕ) (f g : ℕ → ℕ) → sum_below n (λ s. f s + g s) ≡ sum_below n f + sum_below n g
unfolding sum_below
sum_plus zero f g = refl
sum_plus (suc n) f g = let rest = sum_plus n f g in omega arith

pub sum_ones : (n : ℕ) (f : ℕ → ℕ) → ((s : ℕ) → s < n → f s ≡ 1) → sum_below n f ≡ n
unfolding sum_below
sum_ones zero f ones = refl
sum_ones (suc n) f ones = let rest = sum_ones n f (λ s below. ones s (omega arith)) in let here = ones n (omega arith) in omega arith

pub sum_nothing : (n : ℕ) (f : ℕ → ℕ) → ((s : ℕ) → s < n → f s ≡ 0) → sum_below n f ≡ 0
unfolding sum_below
sum_nothing zero f none = refl
sum_nothing (suc n) f none = let rest = sum_nothing n f (λ s below. none s (omega arith)) in let here = none n (omega arith) in omega arith

-- one number is met once
pub sum_met : (n x : ℕ) → x < n → sum_below n (λ s. one (x == s)) ≡ 1
unfolding sum_below
sum_met zero x below = absurd (omega arith)
sum_met (suc n) x below = ⊎_elim
    (λ (same : x ≡ n). let rest = sum_nothing n (λ s. one (x == s)) (λ s less. ap one (ne_eqb x s (λ e. omega arith))) in let here = ap one (eq-eqb x n same) in omega arith)
    (λ (differ : x ≡ n → ⊥). let rest = sum_met n x (below_of n x below differ) in let here = ap one (ne_eqb x n differ) in omega arith)
    (cases_eq x n)
  where
    below_of : (n x : ℕ) → x < suc n → (x ≡ n → ⊥) → x < n
    below_of n x below differ = ⊎_elim (λ (less : x < n). less) (λ (more : n ≤ x). absurd (differ (omega arith))) (cases_lt x n)

sum_met_most : (n x : ℕ) → sum_below n (λ s. one (x == s)) ≤ 1
sum_met_most n x = ⊎_elim (λ (below : x < n). let e = sum_met n x below in omega arith) (λ (past : n ≤ x). let e = sum_nothing n (λ s. one (x == s)) (λ s less. ap one (ne_eqb x s (λ e. omega arith))) in omega arith) (cases_lt x n)

-- ---- as many sources as links at most

from_some : (n : ℕ) (link : Link) (t : Tail) → link.tail ≡ t → sum_below n (λ s. one (is_from_source s link)) ≤ 1
from_some n link (tail.Source x) is = let same = sum_same n (λ s. one (is_from_source s link)) (λ s. one (x == s)) (λ s. rw is refl) in let most = sum_met_most n x in omega arith
from_some n link (tail.Port a p r) is = let none = sum_nothing n (λ s. one (is_from_source s link)) (λ s below. rw is refl) in omega arith

from_sources : (n : ℕ) (links : List Link) → sum_below n (λ s. how_many (is_from_source s) links) ≤ length links
from_sources n [] = let none = sum_nothing n (λ s. how_many (is_from_source s) []) (λ s below. refl) in omega arith
from_sources n (link ∷ links) =
    let here = from_some n link link.tail refl in
    let rest = from_sources n links in
    let sum = sum_plus n (λ s. one (is_from_source s link)) (λ s. how_many (is_from_source s) links) in
    omega arith

-- ---- the inputs of an actor

-- a link into the actor goes into one of its first ports, where none goes into others
into_some : (n b : ℕ) (link : Link) (h : Head) → link.head ≡ h → ((p : ℕ) → n ≤ p → one (is_into_port b p link) ≡ 0) → sum_below n (λ p. one (is_into_port b p link)) ≡ one (is_into_actor b link)
into_some n b link (head.Sink t) is past = sum_nothing n (λ p. one (is_into_port b p link)) (λ p below. rw is refl) ∙ sym (rw is refl)
into_some n b link (head.Port a j c) is past = ⊎_elim
    (λ (own : (a == b) ≡ true).
    let into : one (is_into_actor b link) ≡ 1 = rw (is, own) refl in
    ⊎_elim
    (λ (below : j < n). sum_same n (λ p. one (is_into_port b p link)) (λ p. one (j == p)) (λ p. rw (is, own) refl) ∙ sum_met n j below ∙ sym into)
    (λ (over : n ≤ j). let none = past j over in let met : one (is_into_port b j link) ≡ 1 = rw (is, own, eq-eqb j j refl) refl in absurd (omega arith))
    (cases_lt j n))
    (λ (other : (a == b) ≡ false).
    sum_nothing n (λ p. one (is_into_port b p link)) (λ p below. rw (is, other) refl) ∙ sym (rw (is, other) refl))
    (cases_Bool (a == b))

into_ports : (n b : ℕ) (links : List Link) → ((p : ℕ) → n ≤ p → how_many (is_into_port b p) links ≡ 0) → sum_below n (λ p. how_many (is_into_port b p) links) ≡ how_many (is_into_actor b) links
into_ports n b [] past = sum_nothing n (λ p. how_many (is_into_port b p) []) (λ p below. refl)
into_ports n b (link ∷ links) past =
    let here = into_some n b link link.head refl (λ p over. let none = past p over in omega arith) in
    let rest = into_ports n b links (λ p over. let none = past p over in omega arith) in
    let sum = sum_plus n (λ p. one (is_into_port b p link)) (λ p. how_many (is_into_port b p) links) in
    omega arith

module _ (graphs : List Graph) (place : ℕ) (g : Graph) (here : slice_get graphs place ≡ Some g) (inherited values : List ℤ) (wired : AreWired graphs g) where
  abbrev level : LevelView
  level = level_at graphs g (early_of graphs place inherited) values

  actors_are : level.actors ≡ times fires g.actors
  actors_are = length_filtered fires g.actors

  pub sources_are : length level.sources ≡ length (source_ends graphs g)
  sources_are = sources_many graphs place g here inherited ∙ sym (many_ends graphs g)

  sinks_are : length level.sinks ≡ length g.outputs
  sinks_are = sinks_many graphs place g here inherited

  number_there : (a : ℕ) (actor : Actor) → slice_get g.actors a ≡ Some actor → fires actor ≡ true → actor_number g a < level.actors
  number_there a actor at acts =
      let is = times_is fires (take a g.actors) in
      let below = numbered fires g.actors a actor at acts in
      let all = actors_are in
      omega arith

  -- ---- what each link has

  fifos_have : (P : Link → Type 0) → ((f : Fifo) → IsSound graphs g f → is_kept g f ≡ true → P (link_of graphs g values f)) → (n : ℕ) (fifos : List Fifo) → AllByRecursion (IsSound graphs g) fifos → AllByRecursion P (from_number n (λ i f. fifo_links graphs g values f) fifos)
  fifos_have P each n [] sound = tt
  fifos_have P each n (f ∷ fifos) sound = all_append P (fifo_links graphs g values f) _ (only P (is_kept g f) (link_of graphs g values f) (each f sound.0)) (fifos_have P each (n + 1) fifos sound.1)

  states_have : (P : Link → Type 0) (n : ℕ) (actors : List Actor) → ((j : ℕ) (x : Actor) → slice_get actors j ≡ Some x → has_state graphs x ≡ true → P (state_link graphs g (n + j) x.body)) → AllByRecursion P (from_number n (λ a actor. state_links graphs g a actor) actors)
  states_have P n [] each = tt
  states_have P n (x ∷ actors) each =
      let at_n : n + 0 ≡ n = omega arith in
      all_append P (state_links graphs g n x) _
      (only P (has_state graphs x) (state_link graphs g n x.body) (λ is. subst (λ m. P (state_link graphs g m x.body)) at_n (each 0 x refl is)))
      (states_have P (n + 1) actors (λ j y at is. let next : n + suc j ≡ n + 1 + j = omega arith in subst (λ m. P (state_link graphs g m y.body)) next (each (suc j) y at is)))

  pub links_have : (P : Link → Type 0) → ((f : Fifo) → IsSound graphs g f → is_kept g f ≡ true → P (link_of graphs g values f)) → ((a : ℕ) (x : Actor) → slice_get g.actors a ≡ Some x → has_state graphs x ≡ true → P (state_link graphs g a x.body)) → AllByRecursion P level.links
  links_have P fifos states =
      all_append P _ _ (fifos_have P fifos 0 g.fifos wired.fifos)
      (states_have P 0 g.actors (λ j x at is. let at_j : j ≡ 0 + j = omega arith in subst (λ m. P (state_link graphs g m x.body)) at_j (states j x at is)))

  state_acts : (x : Actor) → has_state graphs x ≡ true → fires x ≡ true
  state_acts x is = state_fires graphs x.body is

  -- ---- tails

  tail_there : (f : Fifo) → IsSound graphs g f → is_kept g f ≡ true → (t : End) → f.tail ≡ t → TailIsThere level (tail_of graphs g values t)
  tail_there f sound kept (Interface i) from =
      let gives : gives_tokens graphs g (Interface i) ≡ true = subst (λ t. gives_tokens graphs g t ≡ true) from sound.gives in
      let unfed : feeds_configuration g i ≡ false = sound.fed i (subst (λ t. is_interface i t ≡ true) (sym from) (eq-eqb i i refl)) ∙ not-true (is_at_configuration g f.head) kept in
      let below = end_inside graphs g (Interface i) (gives_inside graphs g i (Interface i) gives (eq-eqb i i refl), unfed) in
      let all = sources_are in
      omega arith
  tail_there f sound kept (Port c q) from =
      let at = at_out_port graphs g c q (subst (λ t. gives_tokens graphs g t ≡ true) from sound.gives) in
      let there : slice_get g.actors c ≡ Some at.0 = at.1 in
      ⊎_elim
      (λ (config : is_configuration at.0.body ≡ true).
      let below = end_inside graphs g (Port c q) (at.0, there, config, at.2, at.3) in
      let all = sources_are in
      let less : place_among (source_ends graphs g) (Port c q) < length level.sources = omega arith in
      rw (there, config) less)
      (λ (acting : is_configuration at.0.body ≡ false). rw (there, acting) (number_there c at.0 there (not_from_false (is_configuration at.0.body) acting)))
      (cases_Bool (is_configuration at.0.body))

  tail_within : (t : End) → HasTailRateWithin rate_limit (tail_of graphs g values t)
  tail_within (Interface i) = tt
  tail_within (Port c q) = within_of (is_at_configuration g (Port c q)) (slice_get g.actors c)
    where
      within_of : (config : Bool) (o : Option Actor) → HasTailRateWithin rate_limit (cond config (tail.Source (place_among (source_ends graphs g) (Port c q))) (output_port graphs g values c q o))
      within_of true o = tt
      within_of false None = tt
      within_of false (Some actor) = index_within _ (out_within graphs values actor.body) _

  -- ---- heads

  head_there : (f : Fifo) → IsSound graphs g f → is_kept g f ≡ true → (h : End) → f.head ≡ h → HeadIsThere level (head_of graphs g values h)
  head_there f sound kept (Interface i) from =
      let takes : takes_tokens graphs g (Interface i) ≡ true = subst (λ t. takes_tokens graphs g t ≡ true) from sound.takes in
      let parts = and_parts (nat_le (length g.inputs) i) (nat_lt i (length (names_of_interfaces g))) takes in
      let least = leb-true (length g.inputs) i parts.0 in
      let most = ltb-true i (length (names_of_interfaces g)) parts.1 in
      let long : length (names_of_interfaces g) ≡ length g.inputs + length g.outputs = simp (length-append, length-map) in
      let all = sinks_are in
      omega arith
  head_there f sound kept (Port c q) from =
      let at = at_in_port graphs g c q (subst (λ t. takes_tokens graphs g t ≡ true) from sound.takes) in
      let there : slice_get g.actors c ≡ Some at.0 = at.1 in
      let config : is_at_configuration g (Port c q) ≡ false = subst (λ t. is_at_configuration g t ≡ false) from (not-true (is_at_configuration g f.head) kept) in
      let acting : is_configuration at.0.body ≡ false = sym (rw there refl) ∙ config in
      rw there (number_there c at.0 there (not_from_false (is_configuration at.0.body) acting))

  head_within : (h : End) → HasHeadRateWithin rate_limit (head_of graphs g values h)
  head_within (Interface i) = tt
  head_within (Port c q) = within_of (slice_get g.actors c)
    where
      within_of : (o : Option Actor) → HasHeadRateWithin rate_limit (input_port graphs g values c q o)
      within_of None = tt
      within_of (Some actor) = index_within _ (in_within graphs values actor.body) _

  -- ---- between tails and heads

  module _ (f : Fifo) (sound : IsSound graphs g f) where
    parts : (((is_at_interface f.tail && is_at_interface f.head) ≡ false) × ((has_delay f && (is_at_interface f.tail || is_at_interface f.head)) ≡ false)) × ((is_at_configuration g f.tail && (has_delay f || is_at_output g f.head)) ≡ false)
    parts =
        let last = or_parts _ (is_at_configuration g f.tail && (has_delay f || is_at_output g f.head)) sound.is_placed in
        let third = or_parts _ (is_at_configuration g f.head && not (is_at_input g f.tail)) last.0 in
        let second = or_parts (is_at_interface f.tail && is_at_interface f.head) (has_delay f && (is_at_interface f.tail || is_at_interface f.head)) third.0 in
        ((second.0, second.1), last.1)

    no_delay : (touches : Bool) → touches ≡ true → (has_delay f && touches) ≡ false → length f.delay ≡ 0
    no_delay touches is none =
        let delayed : has_delay f ≡ false = false_from_ne_true (has_delay f) (λ has. true≢false (sym (and_from (has_delay f) touches has is) ∙ none)) in
        let most = ltb-false 0 (length f.delay) delayed in
        omega arith

    touches : (t h : End) → f.tail ≡ t → f.head ≡ h → TouchesActor (tail_of graphs g values t) (head_of graphs g values h)
    touches (Interface i) (Interface j) from to = absurd (true≢false (let none = parts.0.0 in rw (from, to) at none))
    touches (Interface i) (Port c q) from to =
        let at = at_in_port graphs g c q (subst (λ t. takes_tokens graphs g t ≡ true) to sound.takes) in
        let there : slice_get g.actors c ≡ Some at.0 = at.1 in
        rw there tt
    touches (Port c q) (Interface j) from to =
        let at = at_out_port graphs g c q (subst (λ t. gives_tokens graphs g t ≡ true) from sound.gives) in
        let there : slice_get g.actors c ≡ Some at.0 = at.1 in
        let takes : takes_tokens graphs g (Interface j) ≡ true = subst (λ t. takes_tokens graphs g t ≡ true) to sound.takes in
        let output : is_at_output g f.head ≡ true = subst (λ t. is_at_output g t ≡ true) (sym to) (and_parts (nat_le (length g.inputs) j) _ takes).0 in
        ⊎_elim
        (λ (config : is_configuration at.0.body ≡ true).
        let tail_config : is_at_configuration g f.tail ≡ true = subst (λ t. is_at_configuration g t ≡ true) (sym from) (rw there config) in
        absurd (true≢false (sym (and_from (is_at_configuration g f.tail) (has_delay f || is_at_output g f.head) tail_config (or_right (has_delay f) (is_at_output g f.head) output)) ∙ parts.1)))
        (λ (acting : is_configuration at.0.body ≡ false). rw (there, acting) tt)
        (cases_Bool (is_configuration at.0.body))
    touches (Port c q) (Port d r) from to =
        let at = at_out_port graphs g c q (subst (λ t. gives_tokens graphs g t ≡ true) from sound.gives) in
        let there : slice_get g.actors c ≡ Some at.0 = at.1 in
        let into = at_in_port graphs g d r (subst (λ t. takes_tokens graphs g t ≡ true) to sound.takes) in
        let other : slice_get g.actors d ≡ Some into.0 = into.1 in
        ⊎_elim
        (λ (config : is_configuration at.0.body ≡ true). rw (there, other, config) tt)
        (λ (acting : is_configuration at.0.body ≡ false). rw (there, other, acting) tt)
        (cases_Bool (is_configuration at.0.body))

    delay_sound : (t h : End) → f.tail ≡ t → f.head ≡ h → HasSoundDelay (tail_of graphs g values t) (head_of graphs g values h) (length f.delay)
    delay_sound (Interface i) h from to = no_delay (is_at_interface f.tail || is_at_interface f.head) (or_left (is_at_interface f.tail) (is_at_interface f.head) (subst (λ t. is_at_interface t ≡ true) (sym from) refl)) parts.0.1
    delay_sound (Port c q) (Interface j) from to =
        let at = at_out_port graphs g c q (subst (λ t. gives_tokens graphs g t ≡ true) from sound.gives) in
        let there : slice_get g.actors c ≡ Some at.0 = at.1 in
        let none = no_delay (is_at_interface f.tail || is_at_interface f.head) (or_right (is_at_interface f.tail) (is_at_interface f.head) (subst (λ t. is_at_interface t ≡ true) (sym to) refl)) parts.0.1 in
        ⊎_elim
        (λ (config : is_configuration at.0.body ≡ true). rw (there, config) none)
        (λ (acting : is_configuration at.0.body ≡ false). rw (there, acting) none)
        (cases_Bool (is_configuration at.0.body))
    delay_sound (Port c q) (Port d r) from to =
        let at = at_out_port graphs g c q (subst (λ t. gives_tokens graphs g t ≡ true) from sound.gives) in
        let there : slice_get g.actors c ≡ Some at.0 = at.1 in
        let into = at_in_port graphs g d r (subst (λ t. takes_tokens graphs g t ≡ true) to sound.takes) in
        let other : slice_get g.actors d ≡ Some into.0 = into.1 in
        ⊎_elim
        (λ (config : is_configuration at.0.body ≡ true).
        let tail_config : is_at_configuration g f.tail ≡ true = subst (λ t. is_at_configuration g t ≡ true) (sym from) (rw there config) in
        let delayed : has_delay f ≡ false = false_from_ne_true (has_delay f) (λ has. true≢false (sym (and_from (is_at_configuration g f.tail) (has_delay f || is_at_output g f.head) tail_config (or_left (has_delay f) (is_at_output g f.head) has)) ∙ parts.1)) in
        let most = ltb-false 0 (length f.delay) delayed in
        let none : length f.delay ≡ 0 = omega arith in
        rw (there, other, config) none)
        (λ (acting : is_configuration at.0.body ≡ false). rw (there, other, acting) tt)
        (cases_Bool (is_configuration at.0.body))

  -- ---- ports

  pub tails_there : AllByRecursion (λ (link : Link). TailIsThere level link.tail) level.links
  tails_there = links_have (λ (link : Link). TailIsThere level link.tail) (λ f sound kept. tail_there f sound kept f.tail refl) (λ a x at is. number_there a x at (state_acts x is))

  pub heads_there : AllByRecursion (λ (link : Link). HeadIsThere level link.head) level.links
  heads_there = links_have (λ (link : Link). HeadIsThere level link.head) (λ f sound kept. head_there f sound kept f.head refl) (λ a x at is. number_there a x at (state_acts x is))

  no_output : (b p : ℕ) → times fires g.actors ≤ b → (links : List Link) → AllByRecursion (λ (link : Link). TailIsThere level link.tail) links → how_many (is_from_port b p) links ≡ 0
  no_output b p past [] all = refl
  no_output b p past (link ∷ links) all =
      let none : is_from_port b p link ≡ false = apart_from link.tail all.0 in
      let rest = no_output b p past links all.1 in
      rw none (omega arith)
    where
      apart_from : (t : Tail) → TailIsThere level t → elim t as (λ x. Bool) [ tail.Source s ↦ false | tail.Port a j r ↦ (a == b) && (j == p) ] ≡ false
      apart_from (tail.Source s) there = refl
      apart_from (tail.Port a j r) there = and_left (a == b) (j == p) (ne_eqb a b (λ e. let all = actors_are in omega arith))

  no_input : (b p : ℕ) → times fires g.actors ≤ b → (links : List Link) → AllByRecursion (λ (link : Link). HeadIsThere level link.head) links → how_many (is_into_port b p) links ≡ 0
  no_input b p past [] all = refl
  no_input b p past (link ∷ links) all =
      let none : is_into_port b p link ≡ false = apart_from link.head all.0 in
      let rest = no_input b p past links all.1 in
      rw none (omega arith)
    where
      apart_from : (h : Head) → HeadIsThere level h → elim h as (λ x. Bool) [ head.Sink s ↦ false | head.Port a j r ↦ (a == b) && (j == p) ] ≡ false
      apart_from (head.Sink s) there = refl
      apart_from (head.Port a j r) there = and_left (a == b) (j == p) (ne_eqb a b (λ e. let all = actors_are in omega arith))

  outputs_of_actor : (b : ℕ) → (n : ℕ) × ((p : ℕ) → how_many (is_from_port b p) level.links ≡ one (nat_lt p n))
  outputs_of_actor b = ⊎_elim
      (λ (below : b < times fires g.actors).
      let at = placed fires g.actors b below in
      (output_count graphs at.1.body + one (has_state graphs at.1), at_output graphs g values wired at.0 b at.1 at.2 at.3 at.4))
      (λ (past : times fires g.actors ≤ b). (0, λ p. no_output b p past level.links tails_there ∙ sym (ap one (le-ltb p 0 (omega arith)))))
      (cases_lt b (times fires g.actors))

  inputs_of_actor : (b : ℕ) → (n : ℕ) × ((p : ℕ) → how_many (is_into_port b p) level.links ≡ one (nat_lt p n))
  inputs_of_actor b = ⊎_elim
      (λ (below : b < times fires g.actors).
      let at = placed fires g.actors b below in
      (level_inputs graphs at.1, at_input graphs g values wired at.0 b at.1 at.2 at.3 at.4))
      (λ (past : times fires g.actors ≤ b). (0, λ p. no_input b p past level.links heads_there ∙ sym (ap one (le-ltb p 0 (omega arith)))))
      (cases_lt b (times fires g.actors))

  one_most : (b : Bool) → one b ≤ 1
  one_most true = omega arith
  one_most false = omega arith

  one_some : (b : Bool) → 0 < one b → b ≡ true
  one_some true some = refl
  one_some false some = absurd (omega arith)

  without_gap : (n p : ℕ) → 0 < one (nat_lt (p + 1) n) → 0 < one (nat_lt p n)
  without_gap n p some =
      let below = ltb-true (p + 1) n (one_some (nat_lt (p + 1) n) some) in
      rw (lt-ltb p n (omega arith)) (omega arith)

  few_links : length level.links ≤ fifos_limit + actors_limit
  few_links =
      let fifos = few_each (λ i f. fifo_links graphs g values f) (λ n f. length_only (is_kept g f) (link_of graphs g values f)) 0 g.fifos in
      let states = few_each (λ a actor. state_links graphs g a actor) (λ n x. length_only (has_state graphs x) (state_link graphs g n x.body)) 0 g.actors in
      let sum = length-append (of_each (λ i f. fifo_links graphs g values f) g.fifos) (of_each (λ a actor. state_links graphs g a actor) g.actors) in
      let most_fifos = wired.few_fifos in
      let most_actors = wired.few_actors in
      omega arith

  sources_at : (s : ℕ) → s < length level.sources → how_many (is_from_source s) level.links ≡ 1
  sources_at s below = let all = sources_are in at_source graphs g values wired s (omega arith)

  few_sources : length level.sources ≤ length level.links
  few_sources =
      let ones = sum_ones (length level.sources) (λ s. how_many (is_from_source s) level.links) sources_at in
      let most = from_sources (length level.sources) level.links in
      omega arith

  pub is_level : IsLevel level
  is_level = record {
    tails_there = tails_there;
    heads_there = heads_there;
    sources_at_one = sources_at;
    sinks_at_one = λ s below. let all = sinks_are in at_sink graphs g values wired s (omega arith);
    actors_between = links_have (λ (link : Link). TouchesActor link.tail link.head) (λ f sound kept. touches f sound f.tail f.head refl refl) (λ a x at is. tt);
    delays = links_have (λ (link : Link). HasSoundDelay link.tail link.head link.delay) (λ f sound kept. delay_sound f sound f.tail f.head refl refl) (λ a x at is. tt);
    outputs_once = λ b p. let at = outputs_of_actor b in let is = at.1 p in let most = one_most (nat_lt p at.0) in omega arith;
    inputs_once = λ b p. let at = inputs_of_actor b in let is = at.1 p in let most = one_most (nat_lt p at.0) in omega arith;
    outputs_without_gap = λ b p some. let at = outputs_of_actor b in rw (at.1 p) (without_gap at.0 p (rw (at.1 (p + 1)) at some));
    inputs_without_gap = λ b p some. let at = inputs_of_actor b in rw (at.1 p) (without_gap at.0 p (rw (at.1 (p + 1)) at some));
    source_rates = sources_within graphs place g here inherited;
    sink_rates = (outputs_found 7 graphs place inherited).0;
    tail_rates = links_have (λ (link : Link). HasTailRateWithin rate_limit link.tail) (λ f sound kept. tail_within f.tail) (λ a x at is. (wired.held a x at).within);
    head_rates = links_have (λ (link : Link). HasHeadRateWithin rate_limit link.head) (λ f sound kept. head_within f.head) (λ a x at is. (wired.held a x at).within);
    few_sources = let most = few_sources in let links = few_links in omega arith;
    few_sinks = let most = wired.few_outputs in let all = sinks_are in omega arith;
    few_links = let links = few_links in omega arith;
  }

  pub inputs_are : (b : ℕ) (actor : Actor) → slice_get (acting g) b ≡ Some actor → how_many (is_into_actor b) level.links ≡ level_inputs graphs actor
  inputs_are b actor is =
      let long = length_filtered fires g.actors in
      let inside_b = inside (acting g) b actor is in
      let at = placed fires g.actors b (omega arith) in
      let found = filtered fires g.actors at.0 at.1 at.2 at.3 in
      let same : Some at.1 ≡ Some actor = sym (subst (λ m. slice_get (acting g) m ≡ Some at.1) at.4 found) ∙ is in
      let e : at.1 ≡ actor = cc in
      let ports = at_input graphs g values wired at.0 b at.1 at.2 at.3 at.4 in
      let n : ℕ = level_inputs graphs at.1 in
      let all = into_ports n b level.links (λ p past. ports p ∙ ap one (le-ltb p n past)) in
      let ones = sum_ones n (λ p. how_many (is_into_port b p) level.links) (λ p below. ports p ∙ ap one (lt-ltb p n below)) in
      sym all ∙ ones ∙ ap (level_inputs graphs) e
