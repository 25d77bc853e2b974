-- The links of a level, made from tables of numbers and rates.
use Rattle.std.proofs.Common.{◌≡◌, ℕ, ◌+◌, ◌-◌, ◌<◌, ◌≤◌, ◌^◌, ⊎_elim, true, false, not, nat_lt, ℤ, List, [], ◌∷◌, ◌++◌, length, map, take, All, Some, refl, sym, ap, ◌∙◌, append_assoc, subst, arith, slice_get, slice_index, get_or}
use Rattle.std.specs.Prelude.{slice_index_or}
use Rattle.std.specs.List.{AllByRecursion, list_any, range_with_len}
use Rattle.std.proofs.lemmas.Bool.{cases_lt, eq-eqb, lt-ltb, not_from_false}
use Rattle.std.proofs.lemmas.List.{take_all}
use Rattle.std.proofs.lemmas.List.FromFn.{get_or-map-range_with_len}
use Rattle.std.proofs.lemmas.Option.{slice_get-get_or}
use Rattle.pisdf_model.specs.Details.{of_each}
use Rattle.pisdf_model.specs.Hold.{capped_hold, hold, hold_limit}
use Rattle.pisdf_model.specs.InterfaceWires.{is_at_configuration, is_configuration}
use Rattle.pisdf_model.specs.Parts.{input_count, port_count}
use Rattle.pisdf_model.specs.Wires.{gives_tokens, is_interface, takes_tokens}
use Rattle.pisdf_model.specs.declared.actor.Actor.{Actor}
use Rattle.pisdf_model.specs.declared.actor.Body.{Body}
use Rattle.pisdf_model.specs.declared.actor.Body.TheVariants.{Kernel, Config, Child, ConfigChild}
use Rattle.pisdf_model.specs.declared.fifo.End.TheVariants.{Interface, Port}
use Rattle.pisdf_model.specs.declared.fifo.Fifo.{Fifo}
use Rattle.pisdf_model.specs.declared.graph.Graph.{Graph}
use Rattle.sdf_level.specs.declared.link.Link.{Link}
use Rattle.sdf_level.specs.declared.link.Tail.TheVariants as tail
use Rattle.sdf_level.specs.declared.link.Head.TheVariants as head
use Rattle.param_resolver.specs.LevelOf.{acting_outs, head_of, in_rates, level_outs, out_rates, state_link, state_links, tail_of}
use Rattle.param_resolver.specs.Numbering.{actor_number, feeds_configuration, fires, has_state, place_among, source_ends, state_size}
use Rattle.param_resolver.specs.Resolvable.{IsBodyResolvable}
use Rattle.param_resolver.specs.Tables.{AreHeld, IsSound, IsStateFew, acting_ins, actor_numbers, held_by, input_number, input_numbers, is_child, level_ins, output_number, output_numbers}
use Rattle.param_resolver.proofs.ActingBodies.{one_ins, one_outs, own_ins, own_outs}
use Rattle.param_resolver.proofs.Acts.{each_more}
use Rattle.param_resolver.proofs.LinkEnds.{at_in_port, at_out_port}
use Rattle.param_resolver.proofs.Passing.{collected, flat_numbered, inside, none_any, one_at, times_is}
use Rattle.param_resolver.proofs.Wired.{gives_inside}
use Rattle.param_resolver.proofs.SourceEnds.{end_inside, number_of_input, number_of_output, total_is}

-- ---- numbers read from tables

number_read : (f : ℕ → ℕ) (n i : ℕ) (numbers : List ℕ) → numbers ≡ map f (range_with_len 0 n) → i < n → slice_index numbers i ≡ f i
number_read f n i numbers are below = ap (λ (l : List ℕ). get_or l i 0) are ∙ get_or-map-range_with_len f 0 n i i 0 below (omega arith)

module _ (graphs : List Graph) (g : Graph) where
  pub actor_read : (numbers : List ℕ) → numbers ≡ actor_numbers g → (a : ℕ) → a < length g.actors → slice_index numbers a ≡ actor_number g a
  actor_read numbers are a below = number_read (λ b. actor_number g b) (length g.actors) a numbers are below

  pub input_read : (numbers : List ℕ) → numbers ≡ input_numbers g → (i : ℕ) → i < length g.inputs → feeds_configuration g i ≡ false → slice_index numbers i ≡ place_among (source_ends graphs g) (Interface i)
  input_read numbers are i below unfed =
      number_read (λ j. input_number g j) (length g.inputs) i numbers are below
      ∙ times_is (λ j. not (feeds_configuration g j)) (range_with_len 0 i)
      ∙ sym (number_of_input graphs g i below unfed)

  pub output_read : (numbers : List ℕ) → numbers ≡ output_numbers graphs g → (a p : ℕ) (actor : Actor) → slice_get g.actors a ≡ Some actor → is_configuration actor.body ≡ true → input_count graphs actor.body ≤ p → p < port_count graphs actor.body
      → slice_index numbers a + (p - input_count graphs actor.body) ≡ place_among (source_ends graphs g) (Port a p)
  output_read numbers are a p actor here config least most =
      let read = number_read (λ b. output_number graphs g b) (length g.actors) a numbers are (inside g.actors a actor here) in
      let sum = total_is graphs (take a g.actors) in
      let place = number_of_output graphs g a p actor here config least most in
      omega arith

  -- ---- rates read from tables

  module _ (values : List ℤ) (a : ℕ) (actor : Actor) (here : slice_get g.actors a ≡ Some actor) (acts : fires actor ≡ true) where
    pub outs_read : (rates : List (List ℕ)) → rates ≡ level_outs graphs g values → slice_index_or rates (actor_number g a) [] ≡ out_rates graphs values actor.body
    outs_read rates are =
        ap (λ (l : List (List ℕ)). get_or l (actor_number g a) []) (are ∙ flat_numbered (λ (x : Actor). acting_outs graphs values x.body) 0 g.actors)
        ∙ ap (λ n. get_or (of_each (λ i (x : Actor). acting_outs graphs values x.body) g.actors) n []) (times_is fires (take a g.actors))
        ∙ collected fires (λ i (x : Actor). acting_outs graphs values x.body) (λ n x. one_outs graphs values x.body) 0 g.actors a actor [] here acts
        ∙ own_outs graphs values actor.body acts

    pub ins_read : (rates : List (List ℕ)) → rates ≡ level_ins graphs g values → slice_index_or rates (actor_number g a) [] ≡ in_rates graphs values actor.body
    ins_read rates are =
        ap (λ (l : List (List ℕ)). get_or l (actor_number g a) []) (are ∙ flat_numbered (λ (x : Actor). acting_ins graphs values x.body) 0 g.actors)
        ∙ ap (λ n. get_or (of_each (λ i (x : Actor). acting_ins graphs values x.body) g.actors) n []) (times_is fires (take a g.actors))
        ∙ collected fires (λ i (x : Actor). acting_ins graphs values x.body) (λ n x. one_ins graphs values x.body) 0 g.actors a actor [] here acts
        ∙ own_ins graphs values actor.body acts

-- ---- states

held_at : (graphs : List Graph) (holds : List ℕ) (params : ℕ) (body : Body) → holds ≡ map (λ k. capped_hold (hold graphs k)) (range_with_len 0 (length graphs)) → IsBodyResolvable (length graphs) params body → state_size graphs body ≤ hold_limit → held_by holds body ≡ state_size graphs body
held_at graphs holds params (Kernel kernel args ins outs) are sound few = refl
held_at graphs holds params (Config kernel args ins outs sets) are sound few = refl
held_at graphs holds params (Child k args) are sound few = number_read (λ k. capped_hold (hold graphs k)) (length graphs) k holds are sound.0 ∙ omega arith
held_at graphs holds params (ConfigChild k args sets) are sound few = refl

pub are_held : (graphs : List Graph) (holds : List ℕ) (params : ℕ) (actors : List Actor) → holds ≡ map (λ k. capped_hold (hold graphs k)) (range_with_len 0 (length graphs)) → All (λ (a : Actor). IsBodyResolvable (length graphs) params a.body) actors → All (IsStateFew graphs) actors → AreHeld graphs holds actors
are_held graphs holds params actors are sound few i d below = held_at graphs holds params (get_or actors i d).body are (sound i d below) (few i d below).within

not_held : (graphs : List Graph) (body : Body) → is_child body ≡ false → held_by [] body ≡ state_size graphs body
not_held graphs (Kernel kernel args ins outs) none = refl
not_held graphs (Config kernel args ins outs sets) none = refl
not_held graphs (Child k args) none = absurd cc
not_held graphs (ConfigChild k args sets) none = refl

pub none_held : (graphs : List Graph) (actors : List Actor) → list_any (λ (a : Actor). is_child a.body) actors ≡ false → AreHeld graphs [] actors
none_held graphs actors none i d below = not_held graphs (get_or actors i d).body (none_any (λ (a : Actor). is_child a.body) actors none i (get_or actors i d) (slice_get-get_or actors i d below))

-- ---- one after the other

-- the first of these parts gave these things, behind others
pub more_behind : {X Y : Type 0} (h : ℕ → X → List Y) (xs : List X) (i : ℕ) (x : X) (before ys : List Y) → i < length xs → x ≡ get_or xs i x → ys ≡ before ++ of_each h (take i xs) → ys ++ h i x ≡ before ++ of_each h (take (i + 1) xs)
more_behind h xs i x before ys below is so_far =
    ap (λ l. l ++ h i x) so_far ∙ append_assoc before (of_each h (take i xs)) (h i x) ∙ ap (λ l. before ++ l) (each_more h xs i x (of_each h (take i xs)) below is refl)

pub all_behind : {X Y : Type 0} (h : ℕ → X → List Y) (xs items : List X) (i : ℕ) (before ys : List Y) → items ≡ xs → length items ≤ i → ys ≡ before ++ of_each h (take i xs) → ys ≡ before ++ of_each h xs
all_behind h xs items i before ys are past so_far = so_far ∙ ap (λ l. before ++ of_each h l) (take_all i xs (subst (λ (l : List _). length l ≤ i) are past))

pub sound_at : (graphs : List Graph) (g : Graph) (fifos : List Fifo) (i : ℕ) (f : Fifo) → fifos ≡ g.fifos → AllByRecursion (IsSound graphs g) g.fifos → i < length fifos → f ≡ get_or fifos i f → IsSound graphs g f
sound_at graphs g fifos i f are all below is =
    one_at (IsSound graphs g) g.fifos all i f
    (slice_get-get_or g.fifos i f (subst (λ (l : List Fifo). i < length l) are below) ∙ ap Some (sym (subst (λ (l : List Fifo). f ≡ get_or l i f) are is)))

pub holds_at : {X : Type 0} (P : X → Type 0) (xs items : List X) (i : ℕ) (x : X) → items ≡ xs → All P xs → i < length items → x ≡ get_or items i x → P x
holds_at P xs items i x are all below is = subst P (sym is) (subst (λ (l : List _). All P l) (sym are) all i x below)

-- ---- ends

module _ (graphs : List Graph) (g : Graph) (a p : ℕ) (gives : gives_tokens graphs g (Port a p) ≡ true) (items : List Actor) (items_are : items ≡ g.actors) (actor : Actor) (is : actor ≡ get_or items a actor) where
  out_port : (slice_get g.actors a ≡ Some actor) × (input_count graphs actor.body ≤ p) × (p < port_count graphs actor.body)
  out_port =
      let at = at_out_port graphs g a p gives in
      let there = inside g.actors a at.0 at.1 in
      let read : get_or g.actors a actor ≡ actor = sym (subst (λ (l : List Actor). actor ≡ get_or l a actor) items_are is) in
      let both : Some at.0 ≡ Some actor = sym at.1 ∙ slice_get-get_or g.actors a actor there ∙ ap Some read in
      let same : at.0 ≡ actor = cc in
      (at.1 ∙ both, subst (λ (x : Actor). input_count graphs x.body ≤ p) same at.2, subst (λ (x : Actor). p < port_count graphs x.body) same at.3)

  module _ (config : is_configuration actor.body ≡ true) (numbers : List ℕ) (numbers_are : numbers ≡ output_numbers graphs g) (number : ℕ) (number_is : number ≡ slice_index numbers a) (ins : ℕ) (ins_are : ins ≡ input_count graphs actor.body) where
    at_place : number + (p - ins) ≡ place_among (source_ends graphs g) (Port a p)
    at_place = let read = output_read graphs g numbers numbers_are a p actor out_port.0 config out_port.1 out_port.2 in rw (number_is, ins_are) read

    pub source_fits : length (source_ends graphs g) < 2 ^ 32 → number + (p - ins) < 2 ^ 32
    source_fits few = let below = end_inside graphs g (Port a p) (actor, out_port.0, config, out_port.1, out_port.2) in let place = at_place in omega arith

    pub tail_config : (values : List ℤ) → tail.Source (number + (p - ins)) ≡ tail_of graphs g values (Port a p)
    tail_config values = ap tail.Source at_place ∙ sym (rw (out_port.0, config) refl)

  pub tail_acting : is_configuration actor.body ≡ false → (numbers : List ℕ) → numbers ≡ actor_numbers g → (number : ℕ) → number ≡ slice_index numbers a → (ins : ℕ) → ins ≡ input_count graphs actor.body
      → (values : List ℤ) (outs : List (List ℕ)) → outs ≡ level_outs graphs g values → (rate : ℕ) → rate ≡ slice_index (slice_index_or outs number []) (p - ins) → tail.Port number (p - ins) rate ≡ tail_of graphs g values (Port a p)
  tail_acting acting numbers numbers_are number number_is ins ins_are values outs outs_are rate rate_is =
      let own : number ≡ actor_number g a = number_is ∙ actor_read graphs g numbers numbers_are a (inside g.actors a actor out_port.0) in
      let read : rate ≡ slice_index (out_rates graphs values actor.body) (p - ins) =
      rate_is
      ∙ ap (λ n. slice_index (slice_index_or outs n []) (p - ins)) own
      ∙ ap (λ (l : List ℕ). slice_index l (p - ins)) (outs_read graphs g values a actor out_port.0 (not_from_false (is_configuration actor.body) acting) outs outs_are) in
      ap (λ n. tail.Port n (p - ins) rate) own
      ∙ ap (λ r. tail.Port (actor_number g a) (p - ins) r) read
      ∙ ap (λ q. tail.Port (actor_number g a) (p - q) (slice_index (out_rates graphs values actor.body) (p - q))) ins_are
      ∙ sym (rw (out_port.0, acting) refl)

pub head_acting : (graphs : List Graph) (g : Graph) (a p : ℕ) → takes_tokens graphs g (Port a p) ≡ true → is_at_configuration g (Port a p) ≡ false → (numbers : List ℕ) → numbers ≡ actor_numbers g → (number : ℕ) → number ≡ slice_index numbers a
    → (values : List ℤ) (ins : List (List ℕ)) → ins ≡ level_ins graphs g values → (rate : ℕ) → rate ≡ slice_index (slice_index_or ins number []) p → head.Port number p rate ≡ head_of graphs g values (Port a p)
head_acting graphs g a p takes kept numbers numbers_are number number_is values ins ins_are rate rate_is =
    let at = at_in_port graphs g a p takes in
    let here : slice_get g.actors a ≡ Some at.0 = at.1 in
    let acting : is_configuration at.0.body ≡ false = sym (rw here refl) ∙ kept in
    let own : number ≡ actor_number g a = number_is ∙ actor_read graphs g numbers numbers_are a (inside g.actors a at.0 here) in
    let read : rate ≡ slice_index (in_rates graphs values at.0.body) p =
    rate_is
    ∙ ap (λ n. slice_index (slice_index_or ins n []) p) own
    ∙ ap (λ (l : List ℕ). slice_index l p) (ins_read graphs g values a at.0 here (not_from_false (is_configuration at.0.body) acting) ins ins_are) in
    ap (λ n. head.Port n p rate) own ∙ ap (λ r. head.Port (actor_number g a) p r) read ∙ sym (rw here refl)

-- ---- a state

pub one_state : (graphs : List Graph) (g : Graph) (a : ℕ) (actor : Actor) (state : ℕ) (link : Link) (old : List Link) → state ≡ state_size graphs actor.body → (state ≡ 0 → ⊥) → link ≡ state_link graphs g a actor.body → old ++ link ∷ [] ≡ old ++ state_links graphs g a actor
one_state graphs g a actor state link old is some told =
    let above : 0 < state = ⊎_elim (λ (more : 0 < state). more) (λ (none : state ≤ 0). absurd (some (omega arith))) (cases_lt 0 state) in
    let has : has_state graphs actor ≡ true = ap (nat_lt 0) (sym is) ∙ lt-ltb 0 state above in
    ap (λ l. old ++ l ∷ []) told ∙ sym (rw has refl)

pub tail_input : (graphs : List Graph) (g : Graph) (i : ℕ) → gives_tokens graphs g (Interface i) ≡ true → ((j : ℕ) → is_interface j (Interface i) ≡ true → feeds_configuration g j ≡ false) → (numbers : List ℕ) → numbers ≡ input_numbers g → (number : ℕ) → number ≡ slice_index numbers i
    → (values : List ℤ) → tail.Source number ≡ tail_of graphs g values (Interface i)
tail_input graphs g i gives unfed numbers are number is values = ap tail.Source (is ∙ input_read graphs g numbers are i (gives_inside graphs g i (Interface i) gives (eq-eqb i i refl)) (unfed i (eq-eqb i i refl)))
