-- The rates at an actor's ports, by the links of its level.
use Rattle.std.proofs.Common.{◌≡◌, ℕ, zero, suc, ◌+◌, ◌<◌, ◌≤◌, ◌==◌, ◌&&◌, nat_lt, ⊎_elim, Bool, true, false, ℤ, List, [], ◌∷◌, ◌++◌, length, take, get_or, slice_get, slice_index, Some, refl, sym, ap, ◌∙◌, subst, arith, length-append, take_all, take-suc}
use Rattle.std.specs.List.{AllByRecursion}
use Rattle.std.proofs.lemmas.Bool.{and_parts, cases_Bool, cases_lt, eq-eqb, eqb-true, le-ltb, lt-ltb, not_from_false, not-true}
use Rattle.std.proofs.lemmas.List.{get_or-append-add, length-map, take-append-le}
use Rattle.kernel_gate.specs.Value.{lengths}
use Rattle.param_resolver.specs.LevelOf.{head_of, in_rates, links_of}
use Rattle.param_resolver.specs.Numbering.{acting, actor_number, fires, has_state, level_inputs, output_count, state_size}
use Rattle.param_resolver.proofs.KeptLevel.{inputs_are, links_have, sum_below, sum_met, sum_nothing, sum_ones, sum_plus, sum_same}
use Rattle.param_resolver.proofs.LinkCounts.{at_input, at_output, state_fires}
use Rattle.param_resolver.proofs.LinkEnds.{at_in_port}
use Rattle.param_resolver.proofs.Passing.{one, times_is}
use Rattle.param_resolver.proofs.Wired.{AreWired}
use Rattle.pisdf_model.specs.InterfaceWires.{is_at_configuration, is_configuration}
use Rattle.pisdf_model.specs.Parts.{input_count}
use Rattle.pisdf_model.specs.Wires.{takes_tokens}
use Rattle.pisdf_model.specs.declared.actor.Actor.{Actor}
use Rattle.pisdf_model.specs.declared.fifo.End.{End}
use Rattle.pisdf_model.specs.declared.fifo.End.TheVariants.{Interface, Port}
use Rattle.pisdf_model.specs.declared.graph.Graph.{Graph}
use Rattle.sdf_level.specs.Invariants.{how_many, is_from_port, is_into_port}
use Rattle.sdf_level.specs.LevelRun.{HasRate, HaveRates}
use Rattle.sdf_level.specs.Run.{head_rate, is_into_actor}
use Rattle.sdf_level.specs.declared.link.Link.{Link}
use Rattle.sdf_level.specs.declared.link.Tail.{Tail}
use Rattle.sdf_level.specs.declared.link.Tail.TheVariants as tail
use Rattle.sdf_level.specs.declared.link.Head.TheVariants as head
use Rattle.single_rate.specs.Names.{is_from_actor, output_rate, tail_rate}
use Rattle.job_flow.specs.Frames.{input_rate, input_rates, input_rates_below, output_rates, rates_below}
use Rattle.pisdf_meaning.specs.Sizes.{IsWired}
use Rattle.pisdf_meaning.proofs.LineSizes.{IsOwn}
use Rattle.pisdf_meaning.proofs.LinkSizes.{all_own, numbered, placed, some_own}
use Rattle.pisdf_meaning.proofs.StateSizes.{size_at}

-- ---- lists that are told by place

-- a list that grows by one element is the list of these
below_is : (g : ℕ → List ℕ) (f : ℕ → ℕ) → g 0 ≡ [] → ((p : ℕ) → g (suc p) ≡ g p ++ f p ∷ []) → (xs : List ℕ) (m : ℕ) → m ≤ length xs → ((p : ℕ) → p < m → f p ≡ slice_index xs p) → g m ≡ take m xs
below_is g f none more xs zero inside same = none
below_is g f none more xs (suc m) inside same =
    more m ∙ rw (below_is g f none more xs m (omega arith) (λ p below. same p (omega arith)), same m (omega arith)) (sym (take-suc xs m 0 (omega arith)))

-- ---- outputs

tail_found : (b p : ℕ) (outs : List (List ℤ)) (t : Tail) → HasRate b outs t → elim t as (λ x. Bool) [ tail.Source s ↦ false | tail.Port a j r ↦ (a == b) && (j == p) ] ≡ true → length (get_or outs p []) ≡ tail_rate t
tail_found b p outs (tail.Source s) rate is = absurd (cc)
tail_found b p outs (tail.Port a j r) rate is =
    let parts = and_parts (a == b) (j == p) is in
    let own = rate (eqb-true a b parts.0) in
    ap (λ i. length (get_or outs i [])) (sym (eqb-true j p parts.1)) ∙ own

rate_found : (b p : ℕ) (outs : List (List ℤ)) (links : List Link) → HaveRates b outs links → 0 < how_many (is_from_port b p) links → length (get_or outs p []) ≡ output_rate b p links
rate_found b p outs [] rates some = absurd (omega arith)
rate_found b p outs (link ∷ links) rates some = ⊎_elim
    (λ (is : is_from_port b p link ≡ true). rw is (tail_found b p outs link.tail rates.0 is))
    (λ (other : is_from_port b p link ≡ false). rw other (rate_found b p outs links rates.1 (let m = rw other at some in omega arith)))
    (cases_Bool (is_from_port b p link))

-- a link out of the actor leaves one of its first ports, where none leaves others
from_some : (n b : ℕ) (link : Link) (t : Tail) → link.tail ≡ t → ((p : ℕ) → n ≤ p → one (is_from_port b p link) ≡ 0) → sum_below n (λ p. one (is_from_port b p link)) ≡ one (is_from_actor b link)
from_some n b link (tail.Source s) is past = sum_nothing n (λ p. one (is_from_port b p link)) (λ p below. rw is refl) ∙ sym (rw is refl)
from_some n b link (tail.Port a j r) is past = ⊎_elim
    (λ (own : (a == b) ≡ true).
    let from : one (is_from_actor b link) ≡ 1 = rw (is, own) refl in
    ⊎_elim
    (λ (below : j < n). sum_same n (λ p. one (is_from_port b p link)) (λ p. one (j == p)) (λ p. rw (is, own) refl) ∙ sum_met n j below ∙ sym from)
    (λ (over : n ≤ j). let none = past j over in let met : one (is_from_port b j link) ≡ 1 = rw (is, own, eq-eqb j j refl) refl in absurd (omega arith))
    (cases_lt j n))
    (λ (other : (a == b) ≡ false). sum_nothing n (λ p. one (is_from_port b p link)) (λ p below. rw (is, other) refl) ∙ sym (rw (is, other) refl))
    (cases_Bool (a == b))

from_ports : (n b : ℕ) (links : List Link) → ((p : ℕ) → n ≤ p → how_many (is_from_port b p) links ≡ 0) → sum_below n (λ p. how_many (is_from_port b p) links) ≡ how_many (is_from_actor b) links
from_ports n b [] past = sum_nothing n (λ p. how_many (is_from_port b p) []) (λ p below. refl)
from_ports n b (link ∷ links) past =
    let here = from_some n b link link.tail refl (λ p over. let none = past p over in omega arith) in
    let rest = from_ports n b links (λ p over. let none = past p over in omega arith) in
    let sum = sum_plus n (λ p. one (is_from_port b p link)) (λ p. how_many (is_from_port b p) links) in
    omega arith

-- ---- inputs

length-rates : (links : List Link) (b n : ℕ) → length (input_rates_below links b n) ≡ n
length-rates links b zero = refl
length-rates links b (suc n) = let both = length-append (input_rates_below links b n) (input_rate b n links ∷ []) in let again = length-rates links b n in omega arith

input_found : (b p r : ℕ) (links : List Link) → AllByRecursion (λ (link : Link). is_into_port b p link ≡ true → head_rate link.head ≡ r) links → 0 < how_many (is_into_port b p) links → input_rate b p links ≡ r
input_found b p r [] all some = absurd (omega arith)
input_found b p r (link ∷ links) all some = ⊎_elim
    (λ (is : is_into_port b p link ≡ true). rw is (all.0 is))
    (λ (other : is_into_port b p link ≡ false). rw other (input_found b p r links all.1 (let m = rw other at some in omega arith)))
    (cases_Bool (is_into_port b p link))

-- ---- the actors of a level

module _ (graphs : List Graph) (place : ℕ) (g : Graph) (here : slice_get graphs place ≡ Some g) (values : List ℤ) (wired : AreWired graphs g) (b : ℕ) (actor : Actor) (is : slice_get (acting g) b ≡ Some actor) where
  links : List Link
  links = links_of graphs g values

  this_actor : (a : ℕ) (x : Actor) → slice_get g.actors a ≡ Some x → fires x ≡ true → actor_number g a ≡ b → actor ≡ x
  this_actor a x there acts e = let both : Some actor ≡ Some x = sym is ∙ ap (slice_get (acting g)) (sym e) ∙ numbered g.actors a x there acts in cc

  outs_at : (p : ℕ) → how_many (is_from_port b p) (links_of graphs g values) ≡ one (nat_lt p (output_count graphs actor.body + one (has_state graphs actor)))
  outs_at = let at = placed g.actors b actor is in at_output graphs g values wired at.place b actor at.is at.acts (sym (times_is fires (take at.place g.actors)) ∙ at.number)

  ins_at : (p : ℕ) → how_many (is_into_port b p) (links_of graphs g values) ≡ one (nat_lt p (level_inputs graphs actor))
  ins_at = let at = placed g.actors b actor is in at_input graphs g values wired at.place b actor at.is at.acts (sym (times_is fires (take at.place g.actors)) ∙ at.number)

  outs_many : how_many (is_from_actor b) (links_of graphs g values) ≡ output_count graphs actor.body + one (has_state graphs actor)
  outs_many =
      let n : ℕ = output_count graphs actor.body + one (has_state graphs actor) in
      sym (from_ports n b (links_of graphs g values) (λ p past. outs_at p ∙ ap one (le-ltb p n past)))
      ∙ sum_ones n (λ p. how_many (is_from_port b p) (links_of graphs g values)) (λ p below. outs_at p ∙ ap one (lt-ltb p n below))

  -- outputs at the rates of the links are as long as the actor's output rates
  pub out_lengths : (outs : List (List ℤ)) → length outs ≡ output_count graphs actor.body + one (has_state graphs actor) → HaveRates b outs (links_of graphs g values) → lengths outs ≡ output_rates (links_of graphs g values) b
  out_lengths outs many rates =
      let n : ℕ = how_many (is_from_actor b) (links_of graphs g values) in
      let count = outs_many in
      let long : length (lengths outs) ≡ length outs = length-map outs (λ (l : List ℤ). length l) in
      sym (below_is (rates_below (links_of graphs g values) b) (λ p. output_rate b p (links_of graphs g values)) refl (λ p. refl) (lengths outs) n (omega arith)
      (λ p below.
      let there : 0 < how_many (is_from_port b p) (links_of graphs g values) = let at = outs_at p ∙ ap one (lt-ltb p (output_count graphs actor.body + one (has_state graphs actor)) (omega arith)) in omega arith in
      sym (rate_found b p outs (links_of graphs g values) rates there) ∙ size_at outs p)
      ∙ take_all n (lengths outs) (omega arith))

  -- the links into a port of the graph have the rate of the port
  port_rate : (p a q : ℕ) → takes_tokens graphs g (Port a q) ≡ true → is_at_configuration g (Port a q) ≡ false →
      elim (head_of graphs g values (Port a q)) as (λ x. Bool) [ head.Sink s ↦ false | head.Port c j r ↦ (c == b) && (j == p) ] ≡ true → head_rate (head_of graphs g values (Port a q)) ≡ slice_index (in_rates graphs values actor.body) p
  port_rate p a q takes acts into =
      let at = at_in_port graphs g a q takes in
      let there : slice_get g.actors a ≡ Some at.0 = at.1 in
      let test : ((actor_number g a == b) && (q == p)) ≡ true = rw there at into in
      let parts = and_parts (actor_number g a == b) (q == p) test in
      let fire : fires at.0 ≡ true = let e : is_configuration at.0.body ≡ false = rw there at acts in not_from_false (is_configuration at.0.body) e in
      let same = this_actor a at.0 there fire (eqb-true (actor_number g a) b parts.0) in
      let P : Actor → Type 0 = λ x. slice_index (in_rates graphs values x.body) q ≡ slice_index (in_rates graphs values actor.body) p in
      rw there (subst P same (ap (slice_index (in_rates graphs values actor.body)) (eqb-true q p parts.1)))

  end_rate : (p : ℕ) (h : End) → takes_tokens graphs g h ≡ true → is_at_configuration g h ≡ false →
      elim (head_of graphs g values h) as (λ x. Bool) [ head.Sink s ↦ false | head.Port c j r ↦ (c == b) && (j == p) ] ≡ true → head_rate (head_of graphs g values h) ≡ slice_index (in_rates graphs values actor.body) p
  end_rate p (Interface i) takes acts into = absurd (cc)
  end_rate p (Port a q) takes acts into = port_rate p a q takes acts into

  input_is : (p : ℕ) → p < input_count graphs actor.body → input_rate b p (links_of graphs g values) ≡ slice_index (in_rates graphs values actor.body) p
  input_is p below =
      let some : 0 < how_many (is_into_port b p) (links_of graphs g values) = let at = ins_at p ∙ ap one (lt-ltb p (level_inputs graphs actor) (omega arith)) in omega arith in
      let all = links_have graphs place g here [] values wired (λ (link : Link). is_into_port b p link ≡ true → head_rate link.head ≡ slice_index (in_rates graphs values actor.body) p)
      (λ f sound kept into. end_rate p f.head sound.takes (not-true (is_at_configuration g f.head) kept) into)
      (λ a x at has into.
      let parts = and_parts (actor_number g a == b) (input_count graphs x.body == p) into in
      let same = this_actor a x at (state_fires graphs x.body has) (eqb-true (actor_number g a) b parts.0) in
      let count = ap (λ (y : Actor). input_count graphs y.body) same in
      let port = eqb-true (input_count graphs x.body) p parts.1 in
      absurd (omega arith)) in
      input_found b p (slice_index (in_rates graphs values actor.body) p) (links_of graphs g values) all some

  -- what is read by these rates, without that of the state, is as long as the actor's input rates
  pub in_lengths : length (in_rates graphs values actor.body) ≡ input_count graphs actor.body → take (input_count graphs actor.body) (input_rates (links_of graphs g values) b) ≡ in_rates graphs values actor.body
  in_lengths many =
      let n : ℕ = input_count graphs actor.body in
      let all = input_rates_below (links_of graphs g values) b in
      let count : how_many (is_into_actor b) (links_of graphs g values) ≡ n + one (has_state graphs actor) = inputs_are graphs place g here [] values wired b actor is in
      let first : all n ≡ in_rates graphs values actor.body = below_is all (λ p. input_rate b p (links_of graphs g values)) refl (λ p. refl) (in_rates graphs values actor.body) n (omega arith) (λ p below. input_is p below) ∙ take_all n (in_rates graphs values actor.body) (omega arith) in
      ap (λ m. take n (all m)) count ∙ ap (λ l. l) (without (has_state graphs actor)) ∙ first
    where
      without : (keeps : Bool) → take (input_count graphs actor.body) (input_rates_below (links_of graphs g values) b (input_count graphs actor.body + one keeps)) ≡ input_rates_below (links_of graphs g values) b (input_count graphs actor.body)
      without false =
          let n : ℕ = input_count graphs actor.body in
          let e : n + one false ≡ n = omega arith in
          let long = length-rates (links_of graphs g values) b n in
          rw e (take_all n (input_rates_below (links_of graphs g values) b n) (omega arith))
      without true =
          let n : ℕ = input_count graphs actor.body in
          let e : n + one true ≡ suc n = omega arith in
          let long = length-rates (links_of graphs g values) b n in
          rw e (take-append-le n (input_rates_below (links_of graphs g values) b n) (input_rate b n (links_of graphs g values) ∷ []) (omega arith) ∙ take_all n (input_rates_below (links_of graphs g values) b n) (omega arith))

  -- at the port of its state an actor reads as much as the state has
  pub own_length : AllByRecursion (IsWired graphs g) g.fifos → has_state graphs actor ≡ true → slice_index (input_rates (links_of graphs g values) b) (input_count graphs actor.body) ≡ state_size graphs actor.body
  own_length sound has =
      let n : ℕ = input_count graphs actor.body in
      let all = input_rates_below (links_of graphs g values) b in
      let count : how_many (is_into_actor b) (links_of graphs g values) ≡ n + one (has_state graphs actor) = inputs_are graphs place g here [] values wired b actor is in
      let last : n + one (has_state graphs actor) ≡ suc n = ap (λ t. n + one t) has ∙ (let e : n + one true ≡ suc n = omega arith in e) in
      let long = length-rates (links_of graphs g values) b n in
      let at : n ≡ length (all n) + 0 = omega arith in
      ap (λ m. slice_index (all m) n) (count ∙ last)
      ∙ ap (λ i. slice_index (all n ++ input_rate b n (links_of graphs g values) ∷ []) i) at
      ∙ get_or-append-add (all n) (input_rate b n (links_of graphs g values) ∷ []) 0 0
      ∙ input_found b n (state_size graphs actor.body) (links_of graphs g values) (owned (links_of graphs g values) (all_own graphs g values sound b actor is)) (some_own graphs g values sound b actor is has)
    where
      owned : (ls : List Link) → AllByRecursion (λ (link : Link). is_into_port b (input_count graphs actor.body) link ≡ true → IsOwn b (input_count graphs actor.body) (state_size graphs actor.body) link) ls →
          AllByRecursion (λ (link : Link). is_into_port b (input_count graphs actor.body) link ≡ true → head_rate link.head ≡ state_size graphs actor.body) ls
      owned [] all = tt
      owned (link ∷ ls) all = ((λ into. ap (λ (l : Link). head_rate l.head) (all.0 into).is), owned ls all.1)
