-- Where Sinks and Ends stand, node by node from the last one.
use Rattle.std.proofs.Common.{◌≡◌, ◌≢◌, ℕ, ◌+◌, ◌<◌, ◌==◌, ◌&&◌, Bool, true, false, List, ◌∷◌, length, set, drop, get_or, Option, Some, None, ap, ◌∙◌, arith, ⊎_elim, if◌then◌else◌}
use Rattle.std.specs.Prelude.{MatchOption, slice_index}
use Rattle.std.proofs.lemmas.Bool.{cases_eq, eq-eqb}
use Rattle.std.proofs.lemmas.Bool.Decides.{eqb_tells}
use Rattle.std.proofs.lemmas.List.{drop_all, drop_more, get_or-set_other, get_or-set_same, length-set}
use Rattle.single_rate.specs.Expanded.{place_of}
use Rattle.single_rate.specs.Nodes.{same}
use Rattle.sdf_level.specs.declared.node.Node.{Node}
use Rattle.audit_job.specs.Outlets.{noted, outlet_node}
use Rattle.audit_job.specs.declared.outlets.Outlet.{Outlet}
use Rattle.audit_job.specs.declared.outlets.Outlet.TheVariants.{Sink, End}

abbrev pub Tells : Outlet → Node → Option ℕ → Type 0
Tells outlet x number = MatchOption number ((i : ℕ) → same (outlet_node outlet i) x ≡ false) (λ i. x ≡ outlet_node outlet i)

both_same : (b : Bool) → b ≡ true → (b && true) ≡ true
both_same b is = (λ i. is i && true)

not_same : (b : Bool) → b ≡ false → (b && true) ≡ false
not_same b is = (λ i. is i && true)

same_itself : (outlet : Outlet) (i j : ℕ) → i ≡ j → same (outlet_node outlet i) (outlet_node outlet j) ≡ true
same_itself Sink i j is = both_same (i == j) (eq-eqb i j is)
same_itself End i j is = both_same (i == j) (eq-eqb i j is)

same_not : (outlet : Outlet) (i j : ℕ) → (i == j) ≡ false → same (outlet_node outlet i) (outlet_node outlet j) ≡ false
same_not Sink i j is = not_same (i == j) is
same_not End i j is = not_same (i == j) is

pub differ : (i j : ℕ) → i ≢ j → (i == j) ≡ false
differ i j apart = ⊎_elim (λ (s : ((i == j) ≡ true) × (i ≡ j)). absurd (apart s.1)) (λ (s : ((i == j) ≡ false) × (i ≢ j)). s.0) (eqb_tells i j)

-- at its place, and at another
pub here : (t x : Node) (rest : List Node) → same t x ≡ true → place_of (x ∷ rest) t ≡ 0
here t x rest is = ap (λ b. if b then 0 else 1 + place_of rest t) is

pub later : (t x : Node) (rest : List Node) → same t x ≡ false → place_of (x ∷ rest) t ≡ 1 + place_of rest t
later t x rest is = ap (λ b. if b then 0 else 1 + place_of rest t) is

module _ (nodes : List Node) (outlet : Outlet) (count : ℕ) where
  -- those among the nodes from one on are known
  pub record AreFrom (p : ℕ) (places : List ℕ) : Type 0 where
    pub many : length places ≡ count
    pub each : (i : ℕ) → i < count → slice_index places i ≡ p + place_of (drop p nodes) (outlet_node outlet i)

  module _ (q p : ℕ) (places : List ℕ) (are : AreFrom p places) (next : q + 1 ≡ p) (inside : q < length nodes) (x : Node) (x_is : get_or nodes q x ≡ x) where
    split : drop q nodes ≡ x ∷ drop p nodes
    split = drop_more nodes q x inside ∙ (λ i. x_is i ∷ drop (next i) nodes)

    step_later : (i : ℕ) → i < count → same (outlet_node outlet i) x ≡ false → slice_index places i ≡ q + place_of (drop q nodes) (outlet_node outlet i)
    step_later i below differs =
        let were = are.each i below in
        let now = ap (λ (l : List Node). place_of l (outlet_node outlet i)) split ∙ later (outlet_node outlet i) x (drop p nodes) differs in
        omega arith

    at_number : (n i : ℕ) → x ≡ outlet_node outlet n → i < count → slice_index (set places n q) i ≡ q + place_of (drop q nodes) (outlet_node outlet i)
    at_number n i is below = ⊎_elim
        (λ (same_number : i ≡ n).
        let many = are.many in
        let there : n < length places = omega arith in
        let now = ap (λ (l : List Node). place_of l (outlet_node outlet i)) split ∙ here (outlet_node outlet i) x (drop p nodes) (ap (same (outlet_node outlet i)) is ∙ same_itself outlet i n same_number) in
        let set_is = ap (λ k. slice_index (set places n q) k) same_number ∙ get_or-set_same places n q 0 there in
        omega arith)
        (λ (other : i ≢ n).
        get_or-set_other places n i q 0 other ∙ step_later i below (ap (same (outlet_node outlet i)) is ∙ same_not outlet i n (differ i n other)))
        (cases_eq i n)

    pub one_back : (number : Option ℕ) → Tells outlet x number → AreFrom q (noted places number q)
    one_back None tells = record { many = are.many; each = λ i below. step_later i below (tells i) }
    one_back (Some n) tells = record { many = length-set places n q ∙ are.many; each = λ i below. at_number n i tells below }

  pub none_known : (p : ℕ) (places : List ℕ) → p ≡ length nodes → length places ≡ count → ((i : ℕ) → i < count → slice_index places i ≡ length nodes) → AreFrom p places
  none_known p places all many each = record {
    many = many;
    each = λ i below.
        let none = ap (λ (l : List Node). place_of l (outlet_node outlet i)) (drop_all p nodes (omega arith)) in
        let was = each i below in
        omega arith;
  }
