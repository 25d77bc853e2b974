-- How many links stand at each part of a level.
use Rattle.std.proofs.Common.{◌≡◌, ℕ, zero, suc, ◌+◌, ◌==◌, ◌&&◌, ◌<◌, ◌≤◌, ⊎_elim, Bool, true, false, cond, not, nat_lt, ℤ, List, [], ◌∷◌, ◌++◌, length, take, Some, refl, sym, ap, ◌∙◌, subst, arith, slice_get}
use Rattle.std.proofs.lemmas.Bool.{and_left, and_parts, and_right, cases_eq, cases_lt, cases_order, eq-eqb, false_from_ne_true, le-ltb, lt-ltb, ne_eqb, true≢false}
use Rattle.pisdf_model.specs.Details.{from_number, of_each}
use Rattle.pisdf_model.specs.InterfaceWires.{is_configuration}
use Rattle.pisdf_model.specs.Parts.{input_count, port_count}
use Rattle.pisdf_model.specs.Wires.{gives_tokens, is_interface, is_port}
use Rattle.pisdf_model.specs.declared.actor.Actor.{Actor}
use Rattle.pisdf_model.specs.declared.actor.Body.{Body}
use Rattle.pisdf_model.specs.declared.actor.Body.TheVariants.{Kernel, Config, Child, ConfigChild}
use Rattle.pisdf_model.specs.declared.fifo.End.{End}
use Rattle.pisdf_model.specs.declared.fifo.End.TheVariants.{Interface, Port}
use Rattle.pisdf_model.specs.declared.fifo.Fifo.{Fifo}
use Rattle.pisdf_model.specs.declared.graph.Graph.{Graph}
use Rattle.sdf_level.specs.Invariants.{how_many, is_from_port, is_from_source, is_into_port, is_into_sink}
use Rattle.sdf_level.specs.declared.link.Link.{Link}
use Rattle.param_resolver.specs.LevelOf.{fifo_links, link_of, links_of, state_link, state_links}
use Rattle.param_resolver.specs.Numbering.{actor_number, fires, has_state, is_kept, level_inputs, output_count, same_end, source_ends, state_size}
use Rattle.param_resolver.proofs.LinkEnds.{in_test, other_number, out_test, own_number, sink_test, source_test}
use Rattle.param_resolver.proofs.Passing.{one, times, times_none, times_same}
use Rattle.param_resolver.proofs.SourceEnds.{IsSourceEnd, source_at}
use Rattle.param_resolver.specs.Tables.{IsSound}
use Rattle.param_resolver.proofs.Wired.{AreWired, gives_no_port_past, takes_no_out_port}

how_many_append : (test : Link → Bool) (xs ys : List Link) → how_many test (xs ++ ys) ≡ how_many test xs + how_many test ys
how_many_append test [] ys = omega arith
how_many_append test (x ∷ xs) ys = let rest = how_many_append test xs ys in omega arith

-- the first, where there is one
at_most_one : (test : Link → Bool) (b : Bool) (x : Link) → how_many test (cond b (x ∷ []) []) ≡ one (b && test x)
at_most_one test true x = omega arith
at_most_one test false x = refl

-- an actor with a state fires
pub state_fires : (graphs : List Graph) (body : Body) → nat_lt 0 (state_size graphs body) ≡ true → not (is_configuration body) ≡ true
state_fires graphs (Kernel kernel args ins outs) is = refl
state_fires graphs (Config kernel args ins outs sets) is = absurd cc
state_fires graphs (Child k args) is = refl
state_fires graphs (ConfigChild k args sets) is = absurd cc

-- one of the lists gives all
picked : {X : Type 0} (test : Link → Bool) (h : ℕ → X → List Link) (n : ℕ) (xs : List X) (k : ℕ) (x : X) → slice_get xs k ≡ Some x
    → ((j : ℕ) (y : X) → slice_get xs j ≡ Some y → (j ≡ k → ⊥) → how_many test (h (n + j) y) ≡ 0) → how_many test (from_number n h xs) ≡ how_many test (h (n + k) x)
picked test h n [] k x is others = absurd cc
picked test h n (y ∷ xs) zero x is others =
    let e : y ≡ x = cc in
    let at_n : n ≡ n + 0 = omega arith in
    how_many_append test (h n y) (from_number (n + 1) h xs)
    ∙ ap (λ m. how_many test (h n y) + m) (nothing test h (n + 1) xs (λ j z there. let next : n + suc j ≡ n + 1 + j = omega arith in subst (λ m. how_many test (h m z) ≡ 0) next (others (suc j) z there (λ same. omega arith))))
    ∙ omega arith
    ∙ ap (λ z. how_many test (h n z)) e
    ∙ ap (λ m. how_many test (h m x)) at_n
  where
    nothing : {Y : Type 0} (test : Link → Bool) (h : ℕ → Y → List Link) (n : ℕ) (ys : List Y) → ((j : ℕ) (y : Y) → slice_get ys j ≡ Some y → how_many test (h (n + j) y) ≡ 0) → how_many test (from_number n h ys) ≡ 0
    nothing test h n [] none = refl
    nothing test h n (y ∷ ys) none =
        let at_n : n + 0 ≡ n = omega arith in
        let first = subst (λ m. how_many test (h m y) ≡ 0) at_n (none 0 y refl) in
        let rest = nothing test h (n + 1) ys (λ j z there. let next : n + suc j ≡ n + 1 + j = omega arith in subst (λ m. how_many test (h m z) ≡ 0) next (none (suc j) z there)) in
        let sum = how_many_append test (h n y) (from_number (n + 1) h ys) in
        omega arith
picked test h n (y ∷ xs) (suc k) x is others =
    let at_n : n + 0 ≡ n = omega arith in
    let next : n + 1 + k ≡ n + suc k = omega arith in
    let first = subst (λ m. how_many test (h m y) ≡ 0) at_n (others 0 y refl (λ same. omega arith)) in
    let rest = picked test h (n + 1) xs k x is (λ j z there differ. let step : n + suc j ≡ n + 1 + j = omega arith in subst (λ m. how_many test (h m z) ≡ 0) step (others (suc j) z there (λ same. differ (omega arith)))) in
    how_many_append test (h n y) (from_number (n + 1) h xs) ∙ ap (λ m. m + how_many test (from_number (n + 1) h xs)) first ∙ omega arith ∙ rest ∙ ap (λ m. how_many test (h m x)) next

module _ (graphs : List Graph) (g : Graph) (values : List ℤ) where
  how_many_fifos : (test : Link → Bool) (n : ℕ) (fifos : List Fifo) → how_many test (from_number n (λ i f. fifo_links graphs g values f) fifos) ≡ times (λ f. is_kept g f && test (link_of graphs g values f)) fifos
  how_many_fifos test n [] = refl
  how_many_fifos test n (f ∷ fifos) =
      how_many_append test (fifo_links graphs g values f) _
      ∙ ap (λ m. m + how_many test (from_number (n + 1) (λ i f. fifo_links graphs g values f) fifos)) (at_most_one test (is_kept g f) (link_of graphs g values f))
      ∙ ap (λ m. one (is_kept g f && test (link_of graphs g values f)) + m) (how_many_fifos test (n + 1) fifos)

  no_states : (test : Link → Bool) → ((a : ℕ) (body : Body) → test (state_link graphs g a body) ≡ false) → (n : ℕ) (actors : List Actor) → how_many test (from_number n (λ a actor. state_links graphs g a actor) actors) ≡ 0
  no_states test none n [] = refl
  no_states test none n (x ∷ actors) =
      let first = at_most_one test (has_state graphs x) (state_link graphs g n x.body) ∙ ap one (and_right (has_state graphs x) (test (state_link graphs g n x.body)) (none n x.body)) in
      let rest = no_states test none (n + 1) actors in
      let sum = how_many_append test (state_links graphs g n x) (from_number (n + 1) (λ a actor. state_links graphs g a actor) actors) in
      omega arith

  in_all : (test : Link → Bool) → how_many test (links_of graphs g values) ≡ times (λ f. is_kept g f && test (link_of graphs g values f)) g.fifos + how_many test (of_each (λ a actor. state_links graphs g a actor) g.actors)
  in_all test = how_many_append test (of_each (λ i f. fifo_links graphs g values f) g.fifos) _ ∙ ap (λ m. m + how_many test (of_each (λ a actor. state_links graphs g a actor) g.actors)) (how_many_fifos test 0 g.fifos)

  module _ (wired : AreWired graphs g) where
    at_source_end : (end : End) → IsSourceEnd graphs g end → times (λ (f : Fifo). same_end end f.tail) g.fifos ≡ 1
    at_source_end (Interface i) is = wired.inputs i is.0
    at_source_end (Port a p) is = wired.out_ports a p is.0 is.1 is.3 is.4

    pub at_source : (s : ℕ) → s < length (source_ends graphs g) → how_many (is_from_source s) (links_of graphs g values) ≡ 1
    at_source s below =
        let at = source_at graphs g s below in
        let all = in_all (is_from_source s) in
        let same = times_same (IsSound graphs g) (λ f. is_kept g f && is_from_source s (link_of graphs g values f)) (λ (f : Fifo). same_end at.0 f.tail) (source_test graphs g values s at.0 at.1 at.2) g.fifos wired.fifos in
        let here = at_source_end at.0 at.1 in
        let none = no_states (is_from_source s) (λ a body. refl) 0 g.actors in
        omega arith

    pub at_sink : (s : ℕ) → s < length g.outputs → how_many (is_into_sink s) (links_of graphs g values) ≡ 1
    at_sink s below =
        let all = in_all (is_into_sink s) in
        let same = times_same (IsSound graphs g) (λ f. is_kept g f && is_into_sink s (link_of graphs g values f)) (λ (f : Fifo). is_interface (length g.inputs + s) f.head) (sink_test graphs g values s) g.fifos wired.fifos in
        let here = wired.outputs (length g.inputs + s) (omega arith) (omega arith) in
        let none = no_states (is_into_sink s) (λ a body. refl) 0 g.actors in
        omega arith

    -- ---- the ports of an actor of the level

    module _ (a b : ℕ) (actor : Actor) (here : slice_get g.actors a ≡ Some actor) (acts : fires actor ≡ true) (number : times fires (take a g.actors) ≡ b) where
      state_part : (test : Link → Bool) (own : Bool) → ((c : ℕ) (body : Body) → (actor_number g c == b) ≡ false → test (state_link graphs g c body) ≡ false) → test (state_link graphs g a actor.body) ≡ own
          → how_many test (of_each (λ a actor. state_links graphs g a actor) g.actors) ≡ one (has_state graphs actor && own)
      state_part test own others is =
          let at_a : 0 + a ≡ a = omega arith in
          picked test (λ a actor. state_links graphs g a actor) 0 g.actors a actor here
          (λ j other there differ.
          let at_j : j ≡ 0 + j = omega arith in
          subst (λ m. how_many test (state_links graphs g m other) ≡ 0) at_j (
          at_most_one test (has_state graphs other) (state_link graphs g j other.body)
          ∙ ap one (false_from_ne_true (has_state graphs other && test (state_link graphs g j other.body)) (λ both.
          let parts = and_parts (has_state graphs other) (test (state_link graphs g j other.body)) both in
          let apart = other_number graphs g values a b actor here acts number j other there (state_fires graphs other.body parts.0) differ in
          true≢false (sym parts.1 ∙ others j other.body apart)))))
          ∙ ap (λ m. how_many test (state_links graphs g m actor)) at_a
          ∙ at_most_one test (has_state graphs actor) (state_link graphs g a actor.body)
          ∙ ap (λ t. one (has_state graphs actor && t)) is

      sum_of : (p count f : ℕ) (state : Bool) → (p < count → f ≡ 1) → (count ≤ p → f ≡ 0) → f + one (state && (count == p)) ≡ one (nat_lt p (count + one state))
      sum_of p count f false first behind = ⊎_elim
          (λ (below : p < count). rw (lt-ltb p (count + 0) (omega arith)) (let e = first below in omega arith))
          (λ (past : count ≤ p). rw (le-ltb p (count + 0) (omega arith)) (let e = behind past in omega arith))
          (cases_lt p count)
      sum_of p count f true first behind = ⊎_elim
          (λ (below : p < count). rw (lt-ltb p (count + 1) (omega arith), ne_eqb count p (λ e. omega arith)) (let e = first below in omega arith))
          (λ (past : count ≤ p). ⊎_elim
          (λ (same : count ≡ p). rw (lt-ltb p (count + 1) (omega arith), eq-eqb count p same) (let e = behind past in omega arith))
          (λ (differ : count ≡ p → ⊥). rw (le-ltb p (count + 1) (let q = cases_after count p past differ in omega arith), ne_eqb count p differ) (let e = behind past in omega arith))
          (cases_eq count p))
          (cases_lt p count)
        where
          cases_after : (m n : ℕ) → m ≤ n → (m ≡ n → ⊥) → m < n
          cases_after m n least differ = ⊎_elim (λ (same : m ≡ n). absurd (differ same)) (λ other. ⊎_elim (λ (less : m < n). less) (λ (more : n < m). absurd (omega arith)) other) (cases_order m n)

      pub at_output : (p : ℕ) → how_many (is_from_port b p) (links_of graphs g values) ≡ one (nat_lt p (output_count graphs actor.body + one (has_state graphs actor)))
      at_output p =
          let ins : ℕ = input_count graphs actor.body in
          let outs : ℕ = output_count graphs actor.body in
          let own = own_number graphs g values a b actor here acts number in
          let same = times_same (IsSound graphs g) (λ f. is_kept g f && is_from_port b p (link_of graphs g values f)) (λ (f : Fifo). is_port a (ins + p) f.tail) (out_test graphs g values a b actor here acts number p) g.fifos wired.fifos in
          in_all (is_from_port b p)
          ∙ ap (λ m. m + how_many (is_from_port b p) (of_each (λ a actor. state_links graphs g a actor) g.actors)) same
          ∙ ap (λ m. times (λ (f : Fifo). is_port a (ins + p) f.tail) g.fifos + m)
          (state_part (is_from_port b p) (outs == p) (λ c body apart. and_left (actor_number g c == b) (output_count graphs body == p) apart) (ap (λ n. n && (outs == p)) own))
          ∙ sum_of p outs (times (λ (f : Fifo). is_port a (ins + p) f.tail) g.fifos) (has_state graphs actor)
          (λ below. wired.out_ports a (ins + p) actor here (omega arith) (omega arith))
          (λ past. times_none (IsSound graphs g) (λ (f : Fifo). is_port a (ins + p) f.tail) (λ f sound. gives_none (ins + p) (omega arith) f.tail sound.gives) g.fifos wired.fifos)
        where
          gives_none : (q : ℕ) → port_count graphs actor.body ≤ q → (end : End) → gives_tokens graphs g end ≡ true → is_port a q end ≡ false
          gives_none q past end gives = gives_no_port_past graphs g a q actor here past end gives

      pub at_input : (p : ℕ) → how_many (is_into_port b p) (links_of graphs g values) ≡ one (nat_lt p (level_inputs graphs actor))
      at_input p =
          let ins : ℕ = input_count graphs actor.body in
          let own = own_number graphs g values a b actor here acts number in
          let same = times_same (IsSound graphs g) (λ f. is_kept g f && is_into_port b p (link_of graphs g values f)) (λ (f : Fifo). is_port a p f.head) (in_test graphs g values a b actor here acts number p) g.fifos wired.fifos in
          in_all (is_into_port b p)
          ∙ ap (λ m. m + how_many (is_into_port b p) (of_each (λ a actor. state_links graphs g a actor) g.actors)) same
          ∙ ap (λ m. times (λ (f : Fifo). is_port a p f.head) g.fifos + m)
          (state_part (is_into_port b p) (ins == p) (λ c body apart. and_left (actor_number g c == b) (input_count graphs body == p) apart) (ap (λ n. n && (ins == p)) own))
          ∙ sum_of p ins (times (λ (f : Fifo). is_port a p f.head) g.fifos) (has_state graphs actor)
          (λ below. wired.in_ports a p actor here below)
          (λ past. times_none (IsSound graphs g) (λ (f : Fifo). is_port a p f.head) (λ f sound. takes_no_out_port graphs g a p actor here past f.head sound.takes) g.fifos wired.fifos)
