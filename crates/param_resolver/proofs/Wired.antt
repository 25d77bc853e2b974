-- What well-formed graphs make sure of the FIFOs of one graph.
use Rattle.std.proofs.Common.{◌≡◌, ℕ, zero, suc, ◌+◌, ◌==◌, ◌&&◌, ◌<◌, ◌≤◌, ◌^◌, ⊎_elim, Bool, true, false, not, nat_lt, nat_le, List, [], ◌∷◌, ◌++◌, length, All, Some, refl, sym, ap, ◌∙◌, subst, arith, slice_get, get_or}
use Rattle.std.specs.List.{AllByRecursion, flat_map, list_any}
use Rattle.std.proofs.lemmas.Bool.{and_from, and_parts, cases_Bool, eq-eqb, eqb-true, false_from_ne_true, leb-true, ltb-false, ltb-true, ne_eqb, not-true, or_left, or_right, true≢false}
use Rattle.std.proofs.lemmas.List.{length-append, length-map}
use Rattle.std.proofs.lemmas.Option.{slice_get-get_or}
use Rattle.pisdf_model.specs.Count.{actors_limit, counts_of, delay_limit, excess_of, fifos_limit, graph_counts, has_long_delay, inputs_limit, outputs_limit}
use Rattle.pisdf_model.specs.Details.{from_number, of_each, unless}
use Rattle.pisdf_model.specs.Hold.{has_large_hold, hold, hold_limit, is_named}
use Rattle.pisdf_model.specs.InterfaceWires.{graph_misplaced, is_at_configuration, is_misplaced}
use Rattle.pisdf_model.specs.Nesting.{children, children_of}
use Rattle.pisdf_model.specs.Parts.{input_count, inputs_of, outputs_of, port_count}
use Rattle.pisdf_model.specs.WellFormed.{WellFormed}
use Rattle.pisdf_model.specs.Wires.{actor_port_names, actor_wires, ends_of, fifo_wires, gives_tokens, graph_wires, interface_wires, is_input_port, is_interface, is_output_port, is_port, names_of_interfaces, port_wires, takes_tokens, times_of_interface, times_of_port}
use Rattle.pisdf_model.specs.declared.actor.Actor.{Actor}
use Rattle.pisdf_model.specs.declared.actor.Body.{Body}
use Rattle.pisdf_model.specs.declared.actor.Body.TheVariants.{Kernel, Config, Child, ConfigChild}
use Rattle.pisdf_model.specs.declared.counting.Counted.TheVariants as counted
use Rattle.pisdf_model.specs.declared.fifo.End.{End}
use Rattle.pisdf_model.specs.declared.fifo.End.TheVariants.{Interface, Port}
use Rattle.pisdf_model.specs.declared.fifo.Fifo.{Fifo}
use Rattle.pisdf_model.specs.declared.graph.Graph.{Graph}
use Rattle.pisdf_model.specs.declared.graph.Graphs.{Graphs}
use Rattle.pisdf_model.specs.declared.graph.Interface.{Interface as Interface'}
use Rattle.pisdf_model.proofs.Lists.{left_none, right_none}
use Rattle.param_resolver.specs.Numbering.{feeds_configuration, output_count, state_size}
use Rattle.param_resolver.specs.Resolvable.{AreResolvable, IsBodyResolvable, IsResolvable}
use Rattle.param_resolver.specs.Tables.{IsSound, IsStateFew}
use Rattle.param_resolver.proofs.Sound.{HasNoFaults, no_faults, unless_none}
use Rattle.param_resolver.proofs.Passing.{all_at, any_none, each_nothing, none_any, one, some_at, times, times_is, times_none, times_some, inside}

-- each FIFO is sound, and each end stands at one of them
pub record AreWired (graphs : List Graph) (g : Graph) : Type 0 where
  pub fifos : AllByRecursion (IsSound graphs g) g.fifos
  pub inputs : (i : ℕ) → i < length g.inputs → times (λ (f : Fifo). is_interface i f.tail) g.fifos ≡ 1
  pub outputs : (i : ℕ) → length g.inputs ≤ i → i < length g.inputs + length g.outputs → times (λ (f : Fifo). is_interface i f.head) g.fifos ≡ 1
  pub out_ports : (a p : ℕ) (actor : Actor) → slice_get g.actors a ≡ Some actor → input_count graphs actor.body ≤ p → p < port_count graphs actor.body → times (λ (f : Fifo). is_port a p f.tail) g.fifos ≡ 1
  pub in_ports : (a p : ℕ) (actor : Actor) → slice_get g.actors a ≡ Some actor → p < input_count graphs actor.body → times (λ (f : Fifo). is_port a p f.head) g.fifos ≡ 1
  pub few_inputs : length g.inputs ≤ inputs_limit
  pub few_outputs : length g.outputs ≤ outputs_limit
  pub few_actors : length g.actors ≤ actors_limit
  pub few_fifos : length g.fifos ≤ fifos_limit
  pub held : (a : ℕ) (actor : Actor) → slice_get g.actors a ≡ Some actor → IsStateFew graphs actor

-- ---- lists of nothing

pub nothing_at : {X Y : Type 0} (f : ℕ → X → List Y) (xs : List X) → of_each f xs ≡ [] → (i : ℕ) (x : X) → slice_get xs i ≡ Some x → f i x ≡ []
nothing_at f xs none i x is = let k : 0 + i ≡ i = omega arith in subst (λ m. f m x ≡ []) k (each_nothing f 0 xs none i x is)

six : {D : Type 0} (a b c d e f g h : List D) → a ++ (b ++ (c ++ (d ++ (e ++ (f ++ (g ++ h)))))) ≡ [] → (c ≡ []) × (d ≡ []) × (e ≡ []) × (g ≡ []) × (h ≡ []) × (b ≡ [])
six a b c d e f g h none =
    let c_on = right_none b _ (right_none a _ none) in
    let d_on = right_none c _ c_on in
    let e_on = right_none d _ d_on in
    let g_on = right_none f _ (right_none e _ e_on) in
    (left_none c _ c_on, left_none d _ d_on, left_none e _ e_on, left_none g h g_on, right_none g h g_on, left_none b _ (right_none a _ none))

-- ---- numbers of parts

module _ (g : Graph) (large : Bool) (few : excess_of (counts_of large g) ≡ []) where
  parts : (unless (nat_le (length g.outputs) outputs_limit) counted.Outputs ≡ []) × (unless (nat_le (length g.actors) actors_limit) counted.Actors ≡ []) × (unless (nat_le (length g.fifos) fifos_limit) counted.Fifos ≡ []) × (unless (not (has_long_delay g.fifos)) counted.Delay ≡ []) × (unless (not large) counted.Hold ≡ []) × (unless (nat_le (length g.inputs) inputs_limit) counted.Inputs ≡ [])
  parts = six _ _ _ _ _ _ _ _ few

  pub inputs_within : length g.inputs ≤ inputs_limit
  inputs_within = leb-true (length g.inputs) inputs_limit (unless_none (nat_le (length g.inputs) inputs_limit) _ parts.5)

  pub outputs_within : length g.outputs ≤ outputs_limit
  outputs_within = leb-true (length g.outputs) outputs_limit (unless_none (nat_le (length g.outputs) outputs_limit) _ parts.0)

  pub not_large : large ≡ false
  not_large = not-true large (unless_none (not large) _ parts.4)

-- ---- ends

module _ (graphs : List Graph) (g : Graph) where
  pub gives_inside : (i : ℕ) (end : End) → gives_tokens graphs g end ≡ true → is_interface i end ≡ true → i < length g.inputs
  gives_inside i (Interface j) gives is = let same = eqb-true j i is in let less = ltb-true j (length g.inputs) gives in omega arith
  gives_inside i (Port b q) gives is = absurd cc

  pub takes_no_input : (i : ℕ) → i < length g.inputs → (end : End) → takes_tokens graphs g end ≡ true → is_interface i end ≡ false
  takes_no_input i below (Interface j) takes =
      let parts = and_parts (nat_le (length g.inputs) j) (nat_lt j (length (names_of_interfaces g))) takes in
      let least = leb-true (length g.inputs) j parts.0 in
      ne_eqb j i (λ e. omega arith)
  takes_no_input i below (Port b q) takes = refl

  pub gives_no_output : (i : ℕ) → length g.inputs ≤ i → (end : End) → gives_tokens graphs g end ≡ true → is_interface i end ≡ false
  gives_no_output i past (Interface j) gives = let less = ltb-true j (length g.inputs) gives in ne_eqb j i (λ e. omega arith)
  gives_no_output i past (Port b q) gives = refl

  module _ (a p : ℕ) (actor : Actor) (here : slice_get g.actors a ≡ Some actor) where
    pub takes_no_out_port : input_count graphs actor.body ≤ p → (end : End) → takes_tokens graphs g end ≡ true → is_port a p end ≡ false
    takes_no_out_port past (Interface j) takes = refl
    takes_no_out_port past (Port b q) takes = false_from_ne_true (is_port a p (Port b q)) (λ is.
        let parts = and_parts (b == a) (q == p) is in
        let same = eqb-true b a parts.0 in
        let number = eqb-true q p parts.1 in
        let there : slice_get g.actors b ≡ Some actor = ap (slice_get g.actors) same ∙ here in
        let less = ltb-true q (input_count graphs actor.body) (subst (λ o. is_input_port graphs o q ≡ true) there takes) in
        omega arith)

    pub gives_no_port_past : port_count graphs actor.body ≤ p → (end : End) → gives_tokens graphs g end ≡ true → is_port a p end ≡ false
    gives_no_port_past past (Interface j) gives = refl
    gives_no_port_past past (Port b q) gives = false_from_ne_true (is_port a p (Port b q)) (λ is.
        let parts = and_parts (b == a) (q == p) is in
        let same = eqb-true b a parts.0 in
        let number = eqb-true q p parts.1 in
        let there : slice_get g.actors b ≡ Some actor = ap (slice_get g.actors) same ∙ here in
        let both = and_parts (nat_le (input_count graphs actor.body) q) (nat_lt q (port_count graphs actor.body)) (subst (λ o. is_output_port graphs o q ≡ true) there gives) in
        let most = ltb-true q (port_count graphs actor.body) both.1 in
        omega arith)

    pub gives_no_in_port : p < input_count graphs actor.body → (end : End) → gives_tokens graphs g end ≡ true → is_port a p end ≡ false
    gives_no_in_port below (Interface j) gives = refl
    gives_no_in_port below (Port b q) gives = false_from_ne_true (is_port a p (Port b q)) (λ is.
        let parts = and_parts (b == a) (q == p) is in
        let same = eqb-true b a parts.0 in
        let number = eqb-true q p parts.1 in
        let there : slice_get g.actors b ≡ Some actor = ap (slice_get g.actors) same ∙ here in
        let both = and_parts (nat_le (input_count graphs actor.body) q) (nat_lt q (port_count graphs actor.body)) (subst (λ o. is_output_port graphs o q ≡ true) there gives) in
        let least = leb-true (input_count graphs actor.body) q both.0 in
        omega arith)

-- ---- the ends of FIFOs

times_of_ends : (test : End → Bool) (n : ℕ) (fifos : List Fifo) → times test (from_number n (λ n (f : Fifo). f.tail ∷ f.head ∷ []) fifos) ≡ times (λ (f : Fifo). test f.tail) fifos + times (λ (f : Fifo). test f.head) fifos
times_of_ends test n [] = refl
times_of_ends test n (f ∷ fifos) = let rest = times_of_ends test (n + 1) fifos in omega arith

split : {X : Type 0} (p q : X → Bool) (xs : List X) → times p xs ≡ times (λ x. p x && q x) xs + times (λ x. p x && not (q x)) xs
split p q [] = refl
split p q (x ∷ xs) = let rest = split p q xs in let here = cut (p x) (q x) in omega arith
  where
    cut : (a b : Bool) → one a ≡ one (a && b) + one (a && not b)
    cut true true = refl
    cut true false = refl
    cut false b = refl

module _ (graphs : List Graph) (g : Graph) (wires : graph_wires graphs g ≡ []) (misplaced : graph_misplaced g ≡ []) where
  fifos_fine : of_each (λ n f. fifo_wires graphs g f) g.fifos ≡ []
  fifos_fine = left_none (of_each (λ n f. fifo_wires graphs g f) g.fifos) _ wires

  behind : of_each (λ i name. interface_wires (times_of_interface (ends_of g.fifos)) i name) (names_of_interfaces g) ++ of_each (λ a actor. actor_wires (times_of_port (ends_of g.fifos)) graphs a actor) g.actors ≡ []
  behind = right_none (of_each (λ n f. fifo_wires graphs g f) g.fifos) _ wires

  gives_at : (i : ℕ) (f : Fifo) → slice_get g.fifos i ≡ Some f → gives_tokens graphs g f.tail ≡ true
  gives_at i f is = unless_none (gives_tokens graphs g f.tail) _ (left_none _ _ (nothing_at (λ n f. fifo_wires graphs g f) g.fifos fifos_fine i f is))

  takes_at : (i : ℕ) (f : Fifo) → slice_get g.fifos i ≡ Some f → takes_tokens graphs g f.head ≡ true
  takes_at i f is = unless_none (takes_tokens graphs g f.head) _ (right_none _ _ (nothing_at (λ n f. fifo_wires graphs g f) g.fifos fifos_fine i f is))

  placed_at : (i : ℕ) (f : Fifo) → slice_get g.fifos i ≡ Some f → is_misplaced g f ≡ false
  placed_at i f is = not-true (is_misplaced g f) (unless_none (not (is_misplaced g f)) _ (nothing_at _ g.fifos misplaced i f is))

  all_give : AllByRecursion (λ (f : Fifo). gives_tokens graphs g f.tail ≡ true) g.fifos
  all_give = all_at (λ (f : Fifo). gives_tokens graphs g f.tail ≡ true) g.fifos gives_at

  all_take : AllByRecursion (λ (f : Fifo). takes_tokens graphs g f.head ≡ true) g.fifos
  all_take = all_at (λ (f : Fifo). takes_tokens graphs g f.head ≡ true) g.fifos takes_at

  interface_at_one : (i : ℕ) → i < length g.inputs + length g.outputs → times (λ (f : Fifo). is_interface i f.tail) g.fifos + times (λ (f : Fifo). is_interface i f.head) g.fifos ≡ 1
  interface_at_one i below =
      let long : length (names_of_interfaces g) ≡ length g.inputs + length g.outputs = simp (length-append, length-map) in
      let name = some_at (names_of_interfaces g) i (omega arith) in
      let one = unless_none (times_of_interface (ends_of g.fifos) i == 1) name.0 (nothing_at (λ i name. interface_wires (times_of_interface (ends_of g.fifos)) i name) (names_of_interfaces g) (left_none _ _ behind) i name.0 name.1) in
      sym (times_of_ends (λ end. is_interface i end) 0 g.fifos) ∙ sym (times_is (λ end. is_interface i end) (ends_of g.fifos)) ∙ eqb-true (times_of_interface (ends_of g.fifos) i) 1 one

  port_at_one : (a p : ℕ) (actor : Actor) → slice_get g.actors a ≡ Some actor → p < port_count graphs actor.body → times (λ (f : Fifo). is_port a p f.tail) g.fifos + times (λ (f : Fifo). is_port a p f.head) g.fifos ≡ 1
  port_at_one a p actor here below =
      let long : length (actor_port_names graphs actor) ≡ port_count graphs actor.body = simp length-append in
      let name = some_at (actor_port_names graphs actor) p (omega arith) in
      let fine = nothing_at (λ a actor. actor_wires (times_of_port (ends_of g.fifos)) graphs a actor) g.actors (right_none _ _ behind) a actor here in
      let one = unless_none (times_of_port (ends_of g.fifos) a p == 1) _ (nothing_at (λ p name. port_wires (times_of_port (ends_of g.fifos)) a actor.name p name) (actor_port_names graphs actor) fine p name.0 name.1) in
      sym (times_of_ends (λ end. is_port a p end) 0 g.fifos) ∙ sym (times_is (λ end. is_port a p end) (ends_of g.fifos)) ∙ eqb-true (times_of_port (ends_of g.fifos) a p) 1 one

  input_at_one : (i : ℕ) → i < length g.inputs → times (λ (f : Fifo). is_interface i f.tail) g.fifos ≡ 1
  input_at_one i below =
      let none = times_none (λ (f : Fifo). takes_tokens graphs g f.head ≡ true) (λ f. is_interface i f.head) (λ f takes. takes_no_input graphs g i below f.head takes) g.fifos all_take in
      let all = interface_at_one i (omega arith) in
      omega arith

  output_at_one : (i : ℕ) → length g.inputs ≤ i → i < length g.inputs + length g.outputs → times (λ (f : Fifo). is_interface i f.head) g.fifos ≡ 1
  output_at_one i past below =
      let none = times_none (λ (f : Fifo). gives_tokens graphs g f.tail ≡ true) (λ f. is_interface i f.tail) (λ f gives. gives_no_output graphs g i past f.tail gives) g.fifos all_give in
      let all = interface_at_one i below in
      omega arith

  out_port_at_one : (a p : ℕ) (actor : Actor) → slice_get g.actors a ≡ Some actor → input_count graphs actor.body ≤ p → p < port_count graphs actor.body → times (λ (f : Fifo). is_port a p f.tail) g.fifos ≡ 1
  out_port_at_one a p actor here past below =
      let none = times_none (λ (f : Fifo). takes_tokens graphs g f.head ≡ true) (λ f. is_port a p f.head) (λ f takes. takes_no_out_port graphs g a p actor here past f.head takes) g.fifos all_take in
      let all = port_at_one a p actor here below in
      omega arith

  in_port_at_one : (a p : ℕ) (actor : Actor) → slice_get g.actors a ≡ Some actor → p < input_count graphs actor.body → times (λ (f : Fifo). is_port a p f.head) g.fifos ≡ 1
  in_port_at_one a p actor here below =
      let none = times_none (λ (f : Fifo). gives_tokens graphs g f.tail ≡ true) (λ f. is_port a p f.tail) (λ f gives. gives_no_in_port graphs g a p actor here below f.tail gives) g.fifos all_give in
      let all = port_at_one a p actor here (omega arith) in
      omega arith

  fed_at : (k : ℕ) (f : Fifo) → slice_get g.fifos k ≡ Some f → (i : ℕ) → is_interface i f.tail ≡ true → feeds_configuration g i ≡ is_at_configuration g f.head
  fed_at k f is i from =
      let below = gives_inside graphs g i f.tail (gives_at k f is) from in
      let feeds : Fifo → Bool = λ f. is_interface i f.tail && is_at_configuration g f.head in
      let passes_by : Fifo → Bool = λ f. is_interface i f.tail && not (is_at_configuration g f.head) in
      ⊎_elim
      (λ (leads : is_at_configuration g f.head ≡ true).
      ⊎_elim (λ (any : feeds_configuration g i ≡ true). any ∙ sym leads)
      (λ (none : feeds_configuration g i ≡ false). absurd (true≢false (sym (and_from (is_interface i f.tail) (is_at_configuration g f.head) from leads) ∙ none_any feeds g.fifos none k f is)))
      (cases_Bool (feeds_configuration g i)))
      (λ (not_there : is_at_configuration g f.head ≡ false).
      let some = times_some passes_by g.fifos k f is (and_from (is_interface i f.tail) (not (is_at_configuration g f.head)) from (ap not not_there)) in
      let parts = split (λ (f : Fifo). is_interface i f.tail) (λ (f : Fifo). is_at_configuration g f.head) g.fifos in
      let all = input_at_one i below in
      any_none feeds g.fifos (omega arith) ∙ sym not_there)
      (cases_Bool (is_at_configuration g f.head))

  module _ (large : Bool) (few : excess_of (counts_of large g) ≡ []) where
    short_at : (k : ℕ) (f : Fifo) → slice_get g.fifos k ≡ Some f → length f.delay ≤ delay_limit
    short_at k f is =
        let none = not-true (has_long_delay g.fifos) (unless_none (not (has_long_delay g.fifos)) _ (parts g large few).3) in
        ltb-false delay_limit (length f.delay) (none_any (λ (fifo : Fifo). nat_lt delay_limit (length fifo.delay)) g.fifos none k f is)

    pub wired : ((a : ℕ) (actor : Actor) → slice_get g.actors a ≡ Some actor → IsStateFew graphs actor) → AreWired graphs g
    wired held = record {
      fifos = all_at (IsSound graphs g) g.fifos (λ k f is. record { gives = gives_at k f is; takes = takes_at k f is; is_placed = placed_at k f is; fed = fed_at k f is; short = short_at k f is });
      inputs = input_at_one;
      outputs = output_at_one;
      out_ports = out_port_at_one;
      in_ports = in_port_at_one;
      few_inputs = leb-true (length g.inputs) inputs_limit (unless_none (nat_le (length g.inputs) inputs_limit) _ (parts g large few).5);
      few_outputs = leb-true (length g.outputs) outputs_limit (unless_none (nat_le (length g.outputs) outputs_limit) _ (parts g large few).0);
      few_actors = leb-true (length g.actors) actors_limit (unless_none (nat_le (length g.actors) actors_limit) _ (parts g large few).1);
      few_fifos = leb-true (length g.fifos) fifos_limit (unless_none (nat_le (length g.fifos) fifos_limit) _ (parts g large few).2);
      held = held;
    }

-- ---- elements of lists

pub each_at : {X : Type 0} (P : X → Type 0) (xs : List X) → All P xs → (i : ℕ) (x : X) → slice_get xs i ≡ Some x → P x
each_at P xs all i x is =
    let there = inside xs i x is in
    let same : Some (get_or xs i x) ≡ Some x = sym (slice_get-get_or xs i x there) ∙ is in
    let e : get_or xs i x ≡ x = cc in
    subst P e (all i x there)

pub resolvable_at : (graphs : List Graph) → AreResolvable graphs → (place : ℕ) (g : Graph) → slice_get graphs place ≡ Some g → IsResolvable (length graphs) g
resolvable_at graphs all place g is = each_at (λ (h : Graph). IsResolvable (length graphs) h) graphs all place g is

-- ---- tokens of states

any_behind : {X : Type 0} (p : X → Bool) (xs ys : List X) → list_any p ys ≡ true → list_any p (xs ++ ys) ≡ true
any_behind p [] ys any = any
any_behind p (x ∷ xs) ys any = or_right (p x) (list_any p (xs ++ ys)) (any_behind p xs ys any)

names_child : (actors : List Actor) (a : ℕ) (actor : Actor) (k : ℕ) (rest : List ℕ) → slice_get actors a ≡ Some actor → children_of actor.body ≡ k ∷ rest → list_any (λ child. child == k) (flat_map (λ (x : Actor). children_of x.body) actors) ≡ true
names_child [] a actor k rest is names = absurd cc
names_child (x ∷ actors) zero actor k rest is names =
    let e : x ≡ actor = cc in
    rw (e, names) (or_left (k == k) _ (eq-eqb k k refl))
names_child (x ∷ actors) (suc a) actor k rest is names = any_behind (λ child. child == k) (children_of x.body) (flat_map (λ (y : Actor). children_of y.body) actors) (names_child actors a actor k rest is names)

is_named_by : (graphs : List Graph) (place : ℕ) (g : Graph) (k : ℕ) → slice_get graphs place ≡ Some g → list_any (λ child. child == k) (children g) ≡ true → is_named graphs k ≡ true
is_named_by [] place g k is names = absurd cc
is_named_by (h ∷ graphs) zero g k is names = let e : h ≡ g = cc in rw e (or_left (list_any (λ child. child == k) (children g)) (is_named graphs k) names)
is_named_by (h ∷ graphs) (suc place) g k is names = or_right (list_any (λ child. child == k) (children h)) (is_named graphs k) (is_named_by graphs place g k is names)

-- ---- of well-formed graphs

module _ (graphs : Graphs) (well : WellFormed graphs) (resolvable : AreResolvable graphs.graphs) where
  faultless : HasNoFaults graphs
  faultless = no_faults graphs well

  few_at : (place : ℕ) (g : Graph) → slice_get graphs.graphs place ≡ Some g → graph_counts graphs.graphs place g ≡ []
  few_at place g is = nothing_at (graph_counts graphs.graphs) graphs.graphs (right_none _ _ faultless.counts) place g is

  hold_within : (place : ℕ) (g : Graph) (a : ℕ) (actor : Actor) (k : ℕ) → slice_get graphs.graphs place ≡ Some g → slice_get g.actors a ≡ Some actor → k < length graphs.graphs → children_of actor.body ≡ k ∷ [] → hold graphs.graphs k ≤ hold_limit
  hold_within place g a actor k is here there names =
      let child = some_at graphs.graphs k there in
      let named = is_named_by graphs.graphs place g k is (names_child g.actors a actor k [] here names) in
      let small = not_large child.0 (has_large_hold graphs.graphs k) (few_at k child.0 child.1) in
      ltb-false hold_limit (hold graphs.graphs k) (false_from_ne_true (nat_lt hold_limit (hold graphs.graphs k)) (λ over. true≢false (sym (and_from (is_named graphs.graphs k) (nat_lt hold_limit (hold graphs.graphs k)) named over) ∙ small)))

  child_few : (k : ℕ) → k < length graphs.graphs → (length (inputs_of (slice_get graphs.graphs k)) ≤ inputs_limit) × (length (outputs_of (slice_get graphs.graphs k)) ≤ outputs_limit)
  child_few k there =
      let child = some_at graphs.graphs k there in
      let few = few_at k child.0 child.1 in
      let at : slice_get graphs.graphs k ≡ Some child.0 = child.1 in
      rw at (inputs_within child.0 (has_large_hold graphs.graphs k) few, outputs_within child.0 (has_large_hold graphs.graphs k) few)

  few_of : (actor : Actor) (body : Body) → actor.body ≡ body → (state_size graphs.graphs body ≤ hold_limit) → (nat_lt 0 (state_size graphs.graphs body) ≡ true → input_count graphs.graphs body < 2 ^ 32) → (nat_lt 0 (state_size graphs.graphs body) ≡ true → output_count graphs.graphs body < 2 ^ 32) → IsStateFew graphs.graphs actor
  few_of actor body same within ins outs = record {
    within = rw same within;
    ins = λ is. rw same (ins (rw same at is));
    outs = λ is. rw same (outs (rw same at is));
  }

  state_within : (place : ℕ) (g : Graph) (a : ℕ) (actor : Actor) → slice_get graphs.graphs place ≡ Some g → slice_get g.actors a ≡ Some actor → (body : Body) → actor.body ≡ body → IsBodyResolvable (length graphs.graphs) (length g.params) body → IsStateFew graphs.graphs actor
  state_within place g a actor is here (Kernel kernel args ins outs) same sound = few_of actor (Kernel kernel args ins outs) same (omega arith) (λ some. absurd cc) (λ some. absurd cc)
  state_within place g a actor is here (Config kernel args ins outs sets) same sound = few_of actor (Config kernel args ins outs sets) same (omega arith) (λ some. absurd cc) (λ some. absurd cc)
  state_within place g a actor is here (Child k args) same sound =
      let few = child_few k sound.0 in
      let ins = length-map (inputs_of (slice_get graphs.graphs k)) (λ (x : Interface'). x.name) in
      let outs = length-map (outputs_of (slice_get graphs.graphs k)) (λ (x : Interface'). x.name) in
      few_of actor (Child k args) same (hold_within place g a actor k is here sound.0 (ap children_of same)) (λ some. let most = few.0 in omega arith) (λ some. let most = few.1 in omega arith)
  state_within place g a actor is here (ConfigChild k args sets) same sound = few_of actor (ConfigChild k args sets) same (omega arith) (λ some. absurd cc) (λ some. absurd cc)

  pub well_wired : (place : ℕ) (g : Graph) → slice_get graphs.graphs place ≡ Some g → AreWired graphs.graphs g
  well_wired place g is =
      let wires = nothing_at (λ n g. graph_wires graphs.graphs g) graphs.graphs faultless.wires place g is in
      let misplaced = nothing_at (λ n g. graph_misplaced g) graphs.graphs faultless.interface_wires place g is in
      let sound = resolvable_at graphs.graphs resolvable place g is in
      wired graphs.graphs g wires misplaced (has_large_hold graphs.graphs place) (few_at place g is)
      (λ a actor here. state_within place g a actor is here actor.body refl (each_at (λ (x : Actor). IsBodyResolvable (length graphs.graphs) (length g.params) x.body) g.actors sound.actors a actor here))
