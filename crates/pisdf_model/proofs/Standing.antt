-- How often ends stand at places, counted one end after the other, and what is told by the counts.
use Rattle.std.proofs.Common.{◌≡◌, ℕ, ◌+◌, ◌==◌, ◌<◌, ◌≤◌, ⊎_elim, Bool, true, false, cond, List, [], ◌∷◌, ◌++◌, length, take, count_by, Option, Some, None, Result, refl, sym, ap, ◌∙◌, arith, get_or, subst}
use Rattle.std.specs.BTreeMap.{BTreeMap, get}
use Rattle.std.specs.List.{filter}
use Rattle.std.specs.Option.{option_cmp, unwrap_or}
use Rattle.std.specs.Ordering.{is_eq, nat_cmp}
use Rattle.std.proofs.lemmas.Bool.{cases_Bool, cond-true, cond-false}
use Rattle.std.proofs.lemmas.List.{length-take}
use Rattle.std.proofs.lemmas.List.Sums.{count_by-le-length, count_by_more_yes, count_by_more_no, length-filter}
use Rattle.std.proofs.lemmas.Map.Lookups.{CmpEqualImpliesEq, exact_pairs, exact_unsigned}
use Rattle.std.proofs.lemmas.Map.Views.{tells_apart}
use Rattle.pisdf_model.specs.Details.{Answers, Refuses, of_each, unless}
use Rattle.pisdf_model.specs.EndTimes.{place_cmp, place_of, times_at}
use Rattle.pisdf_model.specs.Wires.{actor_wires, ends_of, fifo_wires, graph_wires, interface_wires, is_interface, is_port, names_of_interfaces, actor_port_names, port_text, port_wires, times_of_interface, times_of_port}
use Rattle.pisdf_model.specs.declared.actor.Actor.{Actor}
use Rattle.pisdf_model.specs.declared.detail_fault.DetailFault.{DetailFault}
use Rattle.pisdf_model.specs.declared.fifo.End.{End}
use Rattle.pisdf_model.specs.declared.fifo.End.TheVariants.{Interface, Port}
use Rattle.pisdf_model.specs.declared.fifo.Fifo.{Fifo}
use Rattle.pisdf_model.specs.declared.graph.Graph.{Graph}
use Rattle.pisdf_model.proofs.Alike.{same_from}
use Rattle.pisdf_model.proofs.Lists.{refuses_first}
use Rattle.pisdf_model.proofs.Seen.{is_eq_then, same_numbers}

exact_option : CmpEqualImpliesEq (option_cmp nat_cmp)
exact_option None None same = refl
exact_option None (Some y) same = cc
exact_option (Some x) None same = cc
exact_option (Some x) (Some y) same = ap Some (exact_unsigned x y same)

same_places : (x y : Option ℕ × ℕ) → is_eq (place_cmp x y) ≡ true → x ≡ y
same_places = tells_apart (exact_pairs (option_cmp nat_cmp) nat_cmp exact_option exact_unsigned)

-- these are the counts of the ends
abbrev pub Told : BTreeMap (Option ℕ × ℕ) ℕ → List End → Type 0
Told times ends = (q : Option ℕ × ℕ) → times_at times q ≡ count_by (λ end. is_eq (place_cmp (place_of end) q)) ends

module _ (ends : List End) (k : ℕ) (inside : k < length ends) (times : BTreeMap (Option ℕ × ℕ) ℕ) (so_far : Told times (take k ends)) (place : Option ℕ × ℕ) (here : place ≡ place_of (get_or ends k (Interface 0))) where
  pub few : times_at times place ≤ k
  few =
      let most = count_by-le-length (λ end. is_eq (place_cmp (place_of end) place)) (take k ends) in
      let long = length-take k ends in
      let is = so_far place in
      omega arith

  pub counted : (n : ℕ) → n ≡ times_at times place → (new : BTreeMap (Option ℕ × ℕ) ℕ) → ((q : Option ℕ × ℕ) → get place_cmp new q ≡ cond (is_eq (place_cmp place q)) (Some (n + 1)) (get place_cmp times q)) → Told new (take (k + 1) ends)
  counted n is new updates q =
      let test : End → Bool = λ end. is_eq (place_cmp (place_of end) q) in
      let told : test (get_or ends k (Interface 0)) ≡ is_eq (place_cmp place q) = ap (λ x. is_eq (place_cmp x q)) (sym here) in
      ⊎_elim
      (λ (same : is_eq (place_cmp place q) ≡ true).
      ap (λ o. unwrap_or o 0) (updates q ∙ cond-true (is_eq (place_cmp place q)) (Some (n + 1)) (get place_cmp times q) same)
      ∙ ap (λ m. m + 1) (is ∙ ap (times_at times) (same_places place q same) ∙ so_far q)
      ∙ sym (count_by_more_yes test ends k (Interface 0) inside (told ∙ same)))
      (λ (apart : is_eq (place_cmp place q) ≡ false).
      ap (λ o. unwrap_or o 0) (updates q ∙ cond-false (is_eq (place_cmp place q)) (Some (n + 1)) (get place_cmp times q) apart)
      ∙ so_far q
      ∙ sym (count_by_more_no test ends k (Interface 0) inside (told ∙ apart)))
      (cases_Bool (is_eq (place_cmp place q)))

at_interface : (i : ℕ) (end : End) → is_eq (place_cmp (place_of end) (None, i)) ≡ is_interface i end
at_interface i (Interface j) = same_numbers j i
at_interface i (Port b q) = refl

at_port : (a p : ℕ) (end : End) → is_eq (place_cmp (place_of end) (Some a, p)) ≡ is_port a p end
at_port a p (Interface j) = refl
at_port a p (Port b q) = is_eq_then (nat_cmp b a) (nat_cmp q p) ∙ rw (same_numbers b a, same_numbers q p) refl

module _ {X : Type 0} (p q : X → Bool) (same : (x : X) → p x ≡ q x) where
  same_kept : (xs : List X) → filter p xs ≡ filter q xs
  same_kept [] = refl
  same_kept (x ∷ xs) = ap (λ b. cond b (x ∷ filter p xs) (filter p xs)) (same x) ∙ ap (λ ys. cond (q x) (x ∷ ys) ys) (same_kept xs)

  same_count : (xs : List X) → count_by p xs ≡ count_by q xs
  same_count xs = sym (length-filter p xs) ∙ ap length (same_kept xs) ∙ length-filter q xs

module _ (times : BTreeMap (Option ℕ × ℕ) ℕ) (ends : List End) (told : Told times ends) where
  pub interfaces_alike : (names : List (List ℕ)) → of_each (λ i name. interface_wires (λ j. times_at times (None, j)) i name) names ≡ of_each (λ i name. interface_wires (times_of_interface ends) i name) names
  interfaces_alike names =
      same_from (λ i name. interface_wires (λ j. times_at times (None, j)) i name) (λ i name. interface_wires (times_of_interface ends) i name)
      (λ i name. ap (λ n. unless (n == 1) name) (told (None, i) ∙ same_count (λ end. is_eq (place_cmp (place_of end) (None, i))) (is_interface i) (at_interface i) ends)) 0 names

  ports_alike : (graphs : List Graph) (a : ℕ) (actor : Actor) → actor_wires (λ b p. times_at times (Some b, p)) graphs a actor ≡ actor_wires (times_of_port ends) graphs a actor
  ports_alike graphs a actor =
      same_from (λ p name. port_wires (λ b p. times_at times (Some b, p)) a actor.name p name) (λ p name. port_wires (times_of_port ends) a actor.name p name)
      (λ p name. ap (λ n. unless (n == 1) (port_text actor.name name)) (told (Some a, p) ∙ same_count (λ end. is_eq (place_cmp (place_of end) (Some a, p))) (is_port a p) (at_port a p) ends)) 0 (actor_port_names graphs actor)

  pub actors_alike : (graphs : List Graph) (actors : List Actor) → of_each (λ a actor. actor_wires (λ b p. times_at times (Some b, p)) graphs a actor) actors ≡ of_each (λ a actor. actor_wires (times_of_port ends) graphs a actor) actors
  actors_alike graphs actors = same_from (λ a actor. actor_wires (λ b p. times_at times (Some b, p)) graphs a actor) (λ a actor. actor_wires (times_of_port ends) graphs a actor) (ports_alike graphs) 0 actors

-- three lists of details, one behind the other
module _ {D : Type 0} (xs ys zs : List D) (none : xs ≡ []) where
  pub second_refuses : (fault : DetailFault D) → Refuses ys fault → Refuses (xs ++ (ys ++ zs)) fault
  second_refuses fault refused = rw none (refuses_first ys zs fault refused)

  pub third_answers : {U : Type 0} → (answer : Result U (DetailFault D)) → ys ≡ [] → Answers zs answer → Answers (xs ++ (ys ++ zs)) answer
  third_answers answer empty answers = rw (none, empty) answers

-- the ends of a graph, by the counts of its ends
module _ (graphs : List Graph) (g : Graph) (times : BTreeMap (Option ℕ × ℕ) ℕ) (fifos : List Fifo) (ends : List End) (names : List (List ℕ)) (fifos_are : fifos ≡ g.fifos) (ends_are : ends ≡ ends_of fifos) (names_are : names ≡ names_of_interfaces g) (told : Told times ends) (runs : of_each (λ n f. fifo_wires graphs g f) g.fifos ≡ []) where
  interfaces_are : of_each (λ i name. interface_wires (λ j. times_at times (None, j)) i name) names ≡ of_each (λ i name. interface_wires (times_of_interface (ends_of g.fifos)) i name) (names_of_interfaces g)
  interfaces_are =
      interfaces_alike times ends told names
      ∙ ap (λ ns. of_each (λ i name. interface_wires (times_of_interface ends) i name) ns) names_are
      ∙ ap (λ es. of_each (λ i name. interface_wires (times_of_interface es) i name) (names_of_interfaces g)) (ends_are ∙ ap ends_of fifos_are)

  pub interface_told : (fault : DetailFault (List ℕ)) → Refuses (of_each (λ i name. interface_wires (λ j. times_at times (None, j)) i name) names) fault → Refuses (graph_wires graphs g) fault
  interface_told fault refused =
      second_refuses (of_each (λ n f. fifo_wires graphs g f) g.fifos) (of_each (λ i name. interface_wires (times_of_interface (ends_of g.fifos)) i name) (names_of_interfaces g))
      (of_each (λ a actor. actor_wires (times_of_port (ends_of g.fifos)) graphs a actor) g.actors) runs fault (subst (λ ds. Refuses ds fault) interfaces_are refused)

  pub actors_told : {U : Type 0} → (answer : Result U (DetailFault (List ℕ))) (actors : List Actor) → actors ≡ g.actors → of_each (λ i name. interface_wires (λ j. times_at times (None, j)) i name) names ≡ [] → Answers (of_each (λ a actor. actor_wires (λ b p. times_at times (Some b, p)) graphs a actor) actors) answer → Answers (graph_wires graphs g) answer
  actors_told answer actors actors_are empty answers =
      let actors_same = actors_alike times ends told graphs actors
      ∙ ap (λ list. of_each (λ a actor. actor_wires (times_of_port ends) graphs a actor) list) actors_are
      ∙ ap (λ es. of_each (λ a actor. actor_wires (times_of_port es) graphs a actor) g.actors) (ends_are ∙ ap ends_of fifos_are) in
      third_answers (of_each (λ n f. fifo_wires graphs g f) g.fifos) (of_each (λ i name. interface_wires (times_of_interface (ends_of g.fifos)) i name) (names_of_interfaces g))
      (of_each (λ a actor. actor_wires (times_of_port (ends_of g.fifos)) graphs a actor) g.actors) runs answer (sym interfaces_are ∙ empty) (subst (λ ds. Answers ds answer) actors_same answers)
