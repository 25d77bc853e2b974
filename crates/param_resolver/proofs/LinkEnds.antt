-- At which links the parts of a level stand.
use Rattle.std.proofs.Common.{◌≡◌, ℕ, ◌+◌, ◌-◌, ◌==◌, ◌&&◌, ◌<◌, ◌≤◌, ⊎_elim, Bool, true, false, not, nat_lt, nat_le, ℤ, List, length, take, Option, Some, None, refl, sym, ap, ◌∙◌, subst, arith, slice_get}
use Rattle.std.proofs.lemmas.Bool.{and_from, and_left, and_parts, and_right, cases_Bool, cases_eq, eq-eqb, eqb-true, false_from_ne_true, leb-true, ltb-true, ne_eqb, not-true, not_from_false, or_parts, true≢false}
use Rattle.std.proofs.lemmas.Bool.Decides.{nat_tests}
use Rattle.pisdf_model.specs.InterfaceWires.{is_at_configuration, is_at_input, is_configuration}
use Rattle.pisdf_model.specs.Parts.{input_count, port_count}
use Rattle.pisdf_model.specs.Wires.{gives_tokens, is_input_port, is_interface, is_output_port, is_port, takes_tokens}
use Rattle.pisdf_model.specs.declared.actor.Actor.{Actor}
use Rattle.pisdf_model.specs.declared.fifo.End.{End}
use Rattle.pisdf_model.specs.declared.fifo.End.TheVariants.{Interface, Port}
use Rattle.pisdf_model.specs.declared.fifo.Fifo.{Fifo}
use Rattle.pisdf_model.specs.declared.graph.Graph.{Graph}
use Rattle.sdf_level.specs.Invariants.{is_from_port, is_from_source, is_into_port, is_into_sink}
use Rattle.sdf_level.specs.declared.link.Tail.{Tail}
use Rattle.sdf_level.specs.declared.link.Tail.TheVariants as tail
use Rattle.sdf_level.specs.declared.link.Head.{Head}
use Rattle.sdf_level.specs.declared.link.Head.TheVariants as head
use Rattle.param_resolver.specs.LevelOf.{head_of, link_of, tail_of}
use Rattle.param_resolver.specs.Numbering.{actor_number, feeds_configuration, fires, is_kept, place_among, same_end, source_ends}
use Rattle.param_resolver.proofs.Passing.{apart, times, times_is}
use Rattle.param_resolver.proofs.SourceEnds.{IsSourceEnd, end_inside, place_apart, same_is, same_self}
use Rattle.param_resolver.specs.Tables.{IsSound}
use Rattle.param_resolver.proofs.Wired.{gives_inside}

-- ---- tests of ends of links

abbrev pub from_source : ℕ → Tail → Bool
from_source s t = elim t [ tail.Source n ↦ n == s | tail.Port a p r ↦ false ]

abbrev pub into_sink : ℕ → Head → Bool
into_sink s h = elim h [ head.Sink n ↦ n == s | head.Port a p r ↦ false ]

abbrev pub from_port : ℕ → ℕ → Tail → Bool
from_port a p t = elim t [ tail.Source n ↦ false | tail.Port b j r ↦ (b == a) && (j == p) ]

abbrev pub into_port : ℕ → ℕ → Head → Bool
into_port a p h = elim h [ head.Sink n ↦ false | head.Port b j r ↦ (b == a) && (j == p) ]

-- ---- actors at ports

out_actor : (graphs : List Graph) (o : Option Actor) (p : ℕ) → is_output_port graphs o p ≡ true → (actor : Actor) × (o ≡ Some actor) × (input_count graphs actor.body ≤ p) × (p < port_count graphs actor.body)
out_actor graphs None p is = absurd cc
out_actor graphs (Some actor) p is =
    let parts = and_parts (nat_le (input_count graphs actor.body) p) (nat_lt p (port_count graphs actor.body)) is in
    (actor, refl, leb-true (input_count graphs actor.body) p parts.0, ltb-true p (port_count graphs actor.body) parts.1)

in_actor : (graphs : List Graph) (o : Option Actor) (p : ℕ) → is_input_port graphs o p ≡ true → (actor : Actor) × (o ≡ Some actor) × (p < input_count graphs actor.body)
in_actor graphs None p is = absurd cc
in_actor graphs (Some actor) p is = (actor, refl, ltb-true p (input_count graphs actor.body) is)

module _ (graphs : List Graph) (g : Graph) where
  pub at_out_port : (a p : ℕ) → gives_tokens graphs g (Port a p) ≡ true → (actor : Actor) × (slice_get g.actors a ≡ Some actor) × (input_count graphs actor.body ≤ p) × (p < port_count graphs actor.body)
  at_out_port a p gives = out_actor graphs (slice_get g.actors a) p gives

  pub at_in_port : (a p : ℕ) → takes_tokens graphs g (Port a p) ≡ true → (actor : Actor) × (slice_get g.actors a ≡ Some actor) × (p < input_count graphs actor.body)
  at_in_port a p takes = in_actor graphs (slice_get g.actors a) p takes

  -- ---- FIFOs that are placed as they may be

  pub from_port_kept : (f : Fifo) → IsSound graphs g f → is_at_input g f.tail ≡ false → is_at_configuration g f.head ≡ false
  from_port_kept f sound other =
      let first = or_parts _ (is_at_configuration g f.tail && _) sound.is_placed in
      let second = or_parts _ (is_at_configuration g f.head && not (is_at_input g f.tail)) first.0 in
      false_from_ne_true (is_at_configuration g f.head) (λ is. true≢false (sym (and_from (is_at_configuration g f.head) (not (is_at_input g f.tail)) is (ap not other)) ∙ second.1))

  module _ (values : List ℤ) where
    -- ---- sources

    tail_of_source : (end : End) → IsSourceEnd graphs g end → tail_of graphs g values end ≡ tail.Source (place_among (source_ends graphs g) end)
    tail_of_source (Interface i) is = refl
    tail_of_source (Port a p) is = rw (is.1, is.2) refl

    kept_from_source : (end : End) → IsSourceEnd graphs g end → (f : Fifo) → IsSound graphs g f → end ≡ f.tail → is_at_configuration g f.head ≡ false
    kept_from_source (Interface i) is f sound same = sym (sound.fed i (subst (λ t. is_interface i t ≡ true) same (eq-eqb i i refl))) ∙ is.1
    kept_from_source (Port a p) is f sound same = from_port_kept f sound (subst (λ t. is_at_input g t ≡ false) same refl)

    source_of : (s : ℕ) (t : End) → gives_tokens graphs g t ≡ true → ((i : ℕ) → is_interface i t ≡ true → feeds_configuration g i ≡ false) → from_source s (tail_of graphs g values t) ≡ true → IsSourceEnd graphs g t × (place_among (source_ends graphs g) t ≡ s)
    source_of s (Interface i) gives unfed from = ((gives_inside graphs g i (Interface i) gives (eq-eqb i i refl), unfed i (eq-eqb i i refl)), eqb-true (place_among (source_ends graphs g) (Interface i)) s from)
    source_of s (Port a p) gives unfed from =
        let at = at_out_port a p gives in
        let here : slice_get g.actors a ≡ Some at.0 = at.1 in
        ⊎_elim
        (λ (config : is_configuration at.0.body ≡ true).
        let is : IsSourceEnd graphs g (Port a p) = (at.0, here, config, at.2, at.3) in
        (is, eqb-true (place_among (source_ends graphs g) (Port a p)) s (ap (from_source s) (sym (tail_of_source (Port a p) is)) ∙ from)))
        (λ (acting : is_configuration at.0.body ≡ false). absurd (true≢false (sym from ∙ rw (here, acting) refl)))
        (cases_Bool (is_configuration at.0.body))

    pub source_test : (s : ℕ) (end : End) → IsSourceEnd graphs g end → place_among (source_ends graphs g) end ≡ s → (f : Fifo) → IsSound graphs g f → (is_kept g f && is_from_source s (link_of graphs g values f)) ≡ same_end end f.tail
    source_test s end is place f sound = ⊎_elim
        (λ (same : same_end end f.tail ≡ true).
        let e = same_is end f.tail same in
        let kept = kept_from_source end is f sound e in
        let from : from_source s (tail_of graphs g values f.tail) ≡ true = ap (λ t. from_source s (tail_of graphs g values t)) (sym e) ∙ ap (from_source s) (tail_of_source end is) ∙ eq-eqb (place_among (source_ends graphs g) end) s place in
        and_from (is_kept g f) (from_source s (tail_of graphs g values f.tail)) (not_from_false (is_at_configuration g f.head) kept) from ∙ sym same)
        (λ (other : same_end end f.tail ≡ false).
        false_from_ne_true (is_kept g f && from_source s (tail_of graphs g values f.tail)) (λ both.
        let parts = and_parts (is_kept g f) (from_source s (tail_of graphs g values f.tail)) both in
        let at = source_of s f.tail sound.gives (λ i from. sound.fed i from ∙ not-true (is_at_configuration g f.head) parts.0) parts.1 in
        let e = place_apart (source_ends graphs g) end f.tail (end_inside graphs g end is) (place ∙ sym at.1) in
        true≢false (sym (same_self f.tail) ∙ ap (λ t. same_end t f.tail) (sym e) ∙ other))
        ∙ sym other)
        (cases_Bool (same_end end f.tail))

    -- ---- sinks

    shifted : (n i s : ℕ) → n ≤ i → (i - n == s) ≡ (i == n + s)
    shifted n i s least = grind (arith, nat_tests)

    sink_end : (s : ℕ) (h : End) → takes_tokens graphs g h ≡ true → (not (is_at_configuration g h) && into_sink s (head_of graphs g values h)) ≡ is_interface (length g.inputs + s) h
    sink_end s (Interface i) takes =
        let parts = and_parts (nat_le (length g.inputs) i) _ takes in
        shifted (length g.inputs) i s (leb-true (length g.inputs) i parts.0)
    sink_end s (Port a p) takes =
        let at = at_in_port a p takes in
        let here : slice_get g.actors a ≡ Some at.0 = at.1 in
        let out : into_sink s (head_of graphs g values (Port a p)) ≡ false = rw here refl in
        and_right (not (is_at_configuration g (Port a p))) (into_sink s (head_of graphs g values (Port a p))) out

    pub sink_test : (s : ℕ) (f : Fifo) → IsSound graphs g f → (is_kept g f && is_into_sink s (link_of graphs g values f)) ≡ is_interface (length g.inputs + s) f.head
    sink_test s f sound = sink_end s f.head sound.takes

    -- ---- the ports of an actor of the level

    module _ (a b : ℕ) (actor : Actor) (here : slice_get g.actors a ≡ Some actor) (acts : fires actor ≡ true) (number : times fires (take a g.actors) ≡ b) where
      numbers : (c : ℕ) → actor_number g c ≡ times fires (take c g.actors)
      numbers c = times_is fires (take c g.actors)

      -- another actor has another number
      pub other_number : (c : ℕ) (other : Actor) → slice_get g.actors c ≡ Some other → fires other ≡ true → (c ≡ a → ⊥) → (actor_number g c == b) ≡ false
      other_number c other there acts' differ = ne_eqb (actor_number g c) b (λ e. differ (apart fires g.actors c a other actor there here acts' acts (sym (numbers c) ∙ e ∙ sym number)))

      pub own_number : (actor_number g a == b) ≡ true
      own_number = eq-eqb (actor_number g a) b (numbers a ∙ number)

      -- a port of a configuration actor isn't one of this actor
      config_apart : (c q p : ℕ) (other : Actor) → slice_get g.actors c ≡ Some other → is_configuration other.body ≡ true → is_port a p (Port c q) ≡ false
      config_apart c q p other there config =
          and_left (c == a) (q == p) (ne_eqb c a (λ e.
          let same : Some other ≡ Some actor = sym there ∙ ap (slice_get g.actors) e ∙ here in
          let is : other ≡ actor = cc in
          true≢false (sym config ∙ ap (λ (x : Actor). is_configuration x.body) is ∙ not-true (is_configuration actor.body) acts)))

      out_end : (p : ℕ) (f : Fifo) → IsSound graphs g f → (t : End) → f.tail ≡ t → (is_kept g f && from_port b p (tail_of graphs g values t)) ≡ is_port a (input_count graphs actor.body + p) t
      out_end p f sound (Interface i) from = and_right (is_kept g f) false refl
      out_end p f sound (Port c q) from =
          let at = at_out_port c q (subst (λ t. gives_tokens graphs g t ≡ true) from sound.gives) in
          let there : slice_get g.actors c ≡ Some at.0 = at.1 in
          let least = at.2 in
          ⊎_elim
          (λ (config : is_configuration at.0.body ≡ true).
          let out : from_port b p (tail_of graphs g values (Port c q)) ≡ false = rw (there, config) refl in
          and_right (is_kept g f) (from_port b p (tail_of graphs g values (Port c q))) out ∙ sym (config_apart c q (input_count graphs actor.body + p) at.0 there config))
          (λ (acting : is_configuration at.0.body ≡ false).
          let kept : is_kept g f ≡ true = not_from_false (is_at_configuration g f.head) (from_port_kept f sound (subst (λ t. is_at_input g t ≡ false) (sym from) refl)) in
          let port : from_port b p (tail_of graphs g values (Port c q)) ≡ ((actor_number g c == b) && (q - input_count graphs at.0.body == p)) = rw (there, acting) refl in
          ap (λ k. k && from_port b p (tail_of graphs g values (Port c q))) kept ∙ port
          ∙ ⊎_elim
          (λ (same : c ≡ a).
          let alike : Some at.0 ≡ Some actor = sym there ∙ ap (slice_get g.actors) same ∙ here in
          let is : at.0 ≡ actor = cc in
          let counts = ap (λ (x : Actor). input_count graphs x.body) is in
          ap (λ n. n && (q - input_count graphs at.0.body == p)) (ap (λ m. actor_number g m == b) same ∙ own_number)
          ∙ ap (λ n. q - n == p) counts
          ∙ shifted (input_count graphs actor.body) q p (omega arith)
          ∙ sym (ap (λ n. n && (q == input_count graphs actor.body + p)) (eq-eqb c a same)))
          (λ (differ : c ≡ a → ⊥).
          and_left (actor_number g c == b) _ (other_number c at.0 there (not_from_false (is_configuration at.0.body) acting) differ)
          ∙ sym (and_left (c == a) (q == input_count graphs actor.body + p) (ne_eqb c a differ)))
          (cases_eq c a))
          (cases_Bool (is_configuration at.0.body))

      pub out_test : (p : ℕ) (f : Fifo) → IsSound graphs g f → (is_kept g f && is_from_port b p (link_of graphs g values f)) ≡ is_port a (input_count graphs actor.body + p) f.tail
      out_test p f sound = out_end p f sound f.tail refl

      in_end : (p : ℕ) (h : End) → takes_tokens graphs g h ≡ true → (not (is_at_configuration g h) && into_port b p (head_of graphs g values h)) ≡ is_port a p h
      in_end p (Interface i) takes = refl
      in_end p (Port c q) takes =
          let at = at_in_port c q takes in
          let there : slice_get g.actors c ≡ Some at.0 = at.1 in
          let port : into_port b p (head_of graphs g values (Port c q)) ≡ ((actor_number g c == b) && (q == p)) = rw there refl in
          ⊎_elim
          (λ (config : is_configuration at.0.body ≡ true).
          let dropped : not (is_at_configuration g (Port c q)) ≡ false = rw (there, config) refl in
          and_left (not (is_at_configuration g (Port c q))) (into_port b p (head_of graphs g values (Port c q))) dropped ∙ sym (config_apart c q p at.0 there config))
          (λ (acting : is_configuration at.0.body ≡ false).
          let kept : not (is_at_configuration g (Port c q)) ≡ true = rw (there, acting) refl in
          ap (λ k. k && into_port b p (head_of graphs g values (Port c q))) kept ∙ port
          ∙ ⊎_elim
          (λ (same : c ≡ a).
          ap (λ n. n && (q == p)) (ap (λ m. actor_number g m == b) same ∙ own_number)
          ∙ sym (ap (λ n. n && (q == p)) (eq-eqb c a same)))
          (λ (differ : c ≡ a → ⊥).
          and_left (actor_number g c == b) _ (other_number c at.0 there (not_from_false (is_configuration at.0.body) acting) differ)
          ∙ sym (and_left (c == a) (q == p) (ne_eqb c a differ)))
          (cases_eq c a))
          (cases_Bool (is_configuration at.0.body))

      pub in_test : (p : ℕ) (f : Fifo) → IsSound graphs g f → (is_kept g f && is_into_port b p (link_of graphs g values f)) ≡ is_port a p f.head
      in_test p f sound = in_end p f.head sound.takes
