-- The level of a graph whose actors name graphs below is the same among the other graphs, also where its own interfaces have other rates.
use Rattle.std.proofs.Common.{◌≡◌, ℕ, ◌-◌, ℤ, Bool, not, if◌then◌else◌, List, [], ◌∷◌, ◌++◌, length, map, slice_get, slice_index, Option, Some, None, refl, ap, ◌∙◌}
use Rattle.std.specs.List.{filter, range_with_len}
use Rattle.pisdf_model.specs.Details.{of_each}
use Rattle.pisdf_model.specs.InterfaceWires.{is_at_configuration, is_configuration}
use Rattle.pisdf_model.specs.Parts.{input_count}
use Rattle.pisdf_model.specs.declared.actor.Actor.{Actor}
use Rattle.pisdf_model.specs.declared.fifo.End.{End}
use Rattle.pisdf_model.specs.declared.fifo.End.TheVariants.{Interface, Port}
use Rattle.pisdf_model.specs.declared.fifo.Fifo.{Fifo}
use Rattle.pisdf_model.specs.declared.graph.Graph.{Graph}
use Rattle.pisdf_model.specs.declared.graph.Interface as interface
use Rattle.sdf_level.specs.declared.link.Head.{Head}
use Rattle.sdf_level.specs.declared.link.Head.TheVariants as head
use Rattle.sdf_level.specs.declared.link.Link.{Link}
use Rattle.sdf_level.specs.declared.link.Tail.{Tail}
use Rattle.sdf_level.specs.declared.link.Tail.TheVariants as tail
use Rattle.param_resolver.specs.LevelOf.{acting_faults, fifo_links, head_of, input_port, level_faults, links_of, out_rates, output_port, state_links, tail_of}
use Rattle.param_resolver.specs.Numbering.{actor_number, config_ends, feeds_configuration, has_state, is_kept, output_count, place_among, source_ends, source_inputs, state_size}
use Rattle.pisdf_meaning.specs.Sound.{ChildWithin}
use Rattle.firing_laws.specs.Moving.{DifferAt, IsBelow}
use Rattle.firing_laws.proofs.Elements.{asks_nothing, holds_at, numbered_same}
use Rattle.firing_laws.proofs.Belows.{NameWithin}
use Rattle.firing_laws.proofs.Checks.{acting_faults_same, has_state_same, in_rates_same, input_count_same, out_rates_same, output_count_same, state_size_same}

module _ (top : ℕ) (one other : List Graph) (differ : DifferAt top one other) (g : Graph) (names : NameWithin (IsBelow one top) g.actors) where
  abbrev NamesOf : Actor → Type 0
  NamesOf a = ChildWithin (IsBelow one top) a.body

  abbrev SomeNames : Option Actor → Type 0
  SomeNames o = (a : Actor) → o ≡ Some a → ChildWithin (IsBelow one top) a.body

  pub level_faults_same : (values : List ℤ) → level_faults other g values ≡ level_faults one g values
  level_faults_same values =
      numbered_same NamesOf (λ n (a : Actor). acting_faults other values n a.name a.body) (λ n (a : Actor). acting_faults one values n a.name a.body)
      (λ n a below. acting_faults_same top one other differ values n a.name a.body below) 0 g.actors names

  module _ (ins outs : List interface.Interface) (long : length ins ≡ length g.inputs) where
    abbrev again : Graph
    again = record g { inputs = ins; outputs = outs }

    config_ends_same : (a : ℕ) (actor : Actor) → NamesOf actor → config_ends other a actor ≡ config_ends one a actor
    config_ends_same a actor below =
        ap (λ (n : ℕ). if is_configuration actor.body then map (λ p. Port a p) (range_with_len n (output_count other actor.body)) else []) (input_count_same top one other differ actor.body below)
        ∙ ap (λ (n : ℕ). if is_configuration actor.body then map (λ p. Port a p) (range_with_len (input_count one actor.body) n) else []) (output_count_same top one other differ actor.body below)

    source_ends_same : source_ends other again ≡ source_ends one g
    source_ends_same =
        ap (λ (n : ℕ). map (λ i. Interface i) (filter (λ i. not (feeds_configuration g i)) (range_with_len 0 n)) ++ of_each (λ a actor. config_ends other a actor) g.actors) long
        ∙ ap (λ (ends : List End). map (λ i. Interface i) (source_inputs g) ++ ends) (numbered_same NamesOf (λ a actor. config_ends other a actor) (λ a actor. config_ends one a actor) config_ends_same 0 g.actors names)

    output_port_same : (values : List ℤ) (a p : ℕ) (o : Option Actor) → SomeNames o → output_port other again values a p o ≡ output_port one g values a p o
    output_port_same values a p None some = refl
    output_port_same values a p (Some actor) some =
        let below = some actor refl in
        ap (λ (n : ℕ). tail.Port (actor_number g a) (p - n) (slice_index (out_rates other values actor.body) (p - n))) (input_count_same top one other differ actor.body below)
        ∙ ap (λ (rates : List ℕ). tail.Port (actor_number g a) (p - input_count one actor.body) (slice_index rates (p - input_count one actor.body))) (out_rates_same top one other differ values actor.body below)

    input_port_same : (values : List ℤ) (a p : ℕ) (o : Option Actor) → SomeNames o → input_port other again values a p o ≡ input_port one g values a p o
    input_port_same values a p None some = refl
    input_port_same values a p (Some actor) some = ap (λ (rates : List ℕ). head.Port (actor_number g a) p (slice_index rates p)) (in_rates_same top one other differ values actor.body (some actor refl))

    actors_there : (a : ℕ) → SomeNames (slice_get g.actors a)
    actors_there a actor is = holds_at NamesOf g.actors names a actor is

    tail_same : (values : List ℤ) (end : End) → tail_of other again values end ≡ tail_of one g values end
    tail_same values (Interface i) = ap (λ (ends : List End). tail.Source (place_among ends (Interface i))) source_ends_same
    tail_same values (Port a p) =
        ap (λ (ends : List End). if is_at_configuration g (Port a p) then tail.Source (place_among ends (Port a p)) else output_port other again values a p (slice_get g.actors a)) source_ends_same
        ∙ ap (λ (t : Tail). if is_at_configuration g (Port a p) then tail.Source (place_among (source_ends one g) (Port a p)) else t) (output_port_same values a p (slice_get g.actors a) (actors_there a))

    head_same : (values : List ℤ) (end : End) → head_of other again values end ≡ head_of one g values end
    head_same values (Interface i) = ap (λ (n : ℕ). head.Sink (i - n)) long
    head_same values (Port a p) = input_port_same values a p (slice_get g.actors a) (actors_there a)

    fifo_links_same : (values : List ℤ) (f : Fifo) → fifo_links other again values f ≡ fifo_links one g values f
    fifo_links_same values f =
        let link : Tail → Head → List Link = λ t h. if is_kept g f then record { tail = t; head = h; delay = length f.delay } ∷ [] else [] in
        ap (λ t. link t (head_of other again values f.head)) (tail_same values f.tail) ∙ ap (λ h. link (tail_of one g values f.tail) h) (head_same values f.head)

    state_links_same : (a : ℕ) (actor : Actor) → NamesOf actor → state_links other again a actor ≡ state_links one g a actor
    state_links_same a actor below =
        let link : Bool → ℕ → ℕ → ℕ → List Link = λ has outs ins size. if has then record { tail = tail.Port (actor_number g a) outs size; head = head.Port (actor_number g a) ins size; delay = size } ∷ [] else [] in
        let body = actor.body in
        ap (λ has. link has (output_count other body) (input_count other body) (state_size other body)) (has_state_same top one other differ actor below)
        ∙ ap (λ n. link (has_state one actor) n (input_count other body) (state_size other body)) (output_count_same top one other differ body below)
        ∙ ap (λ n. link (has_state one actor) (output_count one body) n (state_size other body)) (input_count_same top one other differ body below)
        ∙ ap (λ n. link (has_state one actor) (output_count one body) (input_count one body) n) (state_size_same top one other differ body below)

    pub links_same : (values : List ℤ) → links_of other again values ≡ links_of one g values
    links_same values =
        ap (λ (links : List Link). links ++ of_each (λ a actor. state_links other again a actor) g.actors)
        (numbered_same (λ (f : Fifo). Unit {0}) (λ i f. fifo_links other again values f) (λ i f. fifo_links one g values f) (λ i f any. fifo_links_same values f) 0 g.fifos (asks_nothing g.fifos))
        ∙ ap (λ (links : List Link). of_each (λ i f. fifo_links one g values f) g.fifos ++ links)
        (numbered_same NamesOf (λ a actor. state_links other again a actor) (λ a actor. state_links one g a actor) state_links_same 0 g.actors names)
