-- Where firings stand, node by node from the last one.
use Rattle.std.proofs.Common.{◌≡◌, ◌≢◌, ℕ, ◌+◌, ◌<◌, ◌==◌, ◌&&◌, Bool, true, false, List, [], ◌∷◌, length, set, drop, get_or, refl, sym, ap, ◌∙◌, subst, arith, ⊎_elim}
use Rattle.std.specs.Prelude.{slice_index}
use Rattle.std.proofs.lemmas.Bool.{cases_eq, eq-eqb}
use Rattle.std.proofs.lemmas.List.{drop_all, drop_more, get_or-replicate, get_or-set_other, get_or-set_same, length-replicate, length-set}
use Rattle.single_rate.specs.Expanded.{place_of}
use Rattle.single_rate.specs.Nodes.{same}
use Rattle.sdf_level.specs.declared.node.Node.{Node}
use Rattle.sdf_level.specs.declared.node.Node.TheVariants as node
use Rattle.audit_job.specs.Outlets.{AreFilled, HavePlaces, noted_firing}
use Rattle.audit_job.proofs.OutletPlaces.{differ, here, later}

-- a firing is the node with this actor and this turn
firing_here : (a k : ℕ) → same (node.Firing a k) (node.Firing a k) ≡ true
firing_here a k = (λ i. eq-eqb a a refl i && eq-eqb k k refl i)

other_actor : (a b k j : ℕ) → a ≢ b → same (node.Firing a k) (node.Firing b j) ≡ false
other_actor a b k j apart = (λ i. differ a b apart i && (k == j))

false_last : (x : Bool) → (x && false) ≡ false
false_last true = refl
false_last false = refl

other_turn : (a b k j : ℕ) → k ≢ j → same (node.Firing a k) (node.Firing b j) ≡ false
other_turn a b k j apart = (λ i. (a == b) && differ k j apart i) ∙ false_last (a == b)

module _ (nodes : List Node) (counts : List ℕ) where
  -- the list of an actor, of the nodes from one on
  pub record ActorFrom (p a : ℕ) (places : List ℕ) : Type 0 where
    pub many : length places ≡ slice_index counts a
    pub each : (k : ℕ) → k < slice_index counts a → slice_index places k ≡ p + place_of (drop p nodes) (node.Firing a k)

  pub record AreFrom (p : ℕ) (lists : List (List ℕ)) : Type 0 where
    pub one_each : length lists ≡ length counts
    pub each : (a : ℕ) → a < length counts → ActorFrom p a (get_or lists a [])

  pub none_known : (p : ℕ) (lists : List (List ℕ)) → p ≡ length nodes → AreFilled counts (length nodes) lists → AreFrom p lists
  none_known p lists all are = record {
    one_each = are.one_each;
    each = λ a below. record {
      many = ap (λ (l : List ℕ). length l) (are.each a below) ∙ length-replicate (slice_index counts a) (length nodes);
      each = λ k under.
          let none = ap (λ (l : List Node). place_of l (node.Firing a k)) (drop_all p nodes (omega arith)) in
          let was = ap (λ (l : List ℕ). slice_index l k) (are.each a below) ∙ get_or-replicate (slice_index counts a) k (length nodes) 0 under in
          omega arith;
    };
  }

  pub all_known : (lists : List (List ℕ)) (p : ℕ) → p ≡ 0 → AreFrom p lists → HavePlaces nodes counts lists
  all_known lists p all are = record {
    one_each = are.one_each;
    each = λ a below. record {
      many = (are.each a below).many;
      each = λ k under.
          let is = (are.each a below).each k under in
          let whole = ap (λ q. place_of (drop q nodes) (node.Firing a k)) all in
          omega arith;
    };
  }

  module _ (q p : ℕ) (lists : List (List ℕ)) (are : AreFrom p lists) (next : q + 1 ≡ p) (inside : q < length nodes) (x : Node) (x_is : get_or nodes q x ≡ x) where
    split : drop q nodes ≡ x ∷ drop p nodes
    split = drop_more nodes q x inside ∙ (λ i. x_is i ∷ drop (next i) nodes)

    step_later : (a k : ℕ) → a < length counts → k < slice_index counts a → same (node.Firing a k) x ≡ false → slice_index (get_or lists a []) k ≡ q + place_of (drop q nodes) (node.Firing a k)
    step_later a k below under differs =
        let were = (are.each a below).each k under in
        let now = ap (λ (l : List Node). place_of l (node.Firing a k)) split ∙ later (node.Firing a k) x (drop p nodes) differs in
        omega arith

    stays : ((a k : ℕ) → same (node.Firing a k) x ≡ false) → AreFrom q lists
    stays differs = record {
      one_each = are.one_each;
      each = λ a below. record { many = (are.each a below).many; each = λ k under. step_later a k below under (differs a k) };
    }

    module _ (b j : ℕ) (is : x ≡ node.Firing b j) where
      own_turn : (k : ℕ) → b < length counts → k < slice_index counts b → slice_index (set (get_or lists b []) j q) k ≡ q + place_of (drop q nodes) (node.Firing b k)
      own_turn k below under = ⊎_elim
          (λ (turn : k ≡ j).
          let many = (are.each b below).many in
          let there : j < length (get_or lists b []) = omega arith in
          let now = ap (λ (l : List Node). place_of l (node.Firing b k)) split ∙ here (node.Firing b k) x (drop p nodes) (ap (same (node.Firing b k)) (is ∙ ap (node.Firing b) (sym turn)) ∙ firing_here b k) in
          let set_is = ap (λ i. slice_index (set (get_or lists b []) j q) i) turn ∙ get_or-set_same (get_or lists b []) j q 0 there in
          omega arith)
          (λ (other : k ≢ j). get_or-set_other (get_or lists b []) j k q 0 other ∙ step_later b k below under (ap (same (node.Firing b k)) is ∙ other_turn b b k j other))
          (cases_eq k j)

      own_list : b < length counts → ActorFrom q b (set (get_or lists b []) j q)
      own_list below = record { many = length-set (get_or lists b []) j q ∙ (are.each b below).many; each = λ k under. own_turn k below under }

      other_list : (a : ℕ) → a < length counts → a ≢ b → ActorFrom q a (get_or lists a [])
      other_list a below apart = record { many = (are.each a below).many; each = λ k under. step_later a k below under (ap (same (node.Firing a k)) is ∙ other_actor a b k j apart) }

      abbrev later_lists : List (List ℕ)
      later_lists = set lists b (set (get_or lists b []) j q)

      goes_on : AreFrom q later_lists
      goes_on = record {
        one_each = length-set lists b (set (get_or lists b []) j q) ∙ are.one_each;
        each = λ a below. ⊎_elim
            (λ (own : a ≡ b).
            let one = are.one_each in
            let under : b < length counts = omega arith in
            let there : b < length lists = omega arith in
            let set_is : get_or later_lists b [] ≡ set (get_or lists b []) j q = get_or-set_same lists b (set (get_or lists b []) j q) [] there in
            subst (λ (c : ℕ). ActorFrom q c (get_or later_lists c [])) (sym own) (subst (λ (l : List ℕ). ActorFrom q b l) (sym set_is) (own_list under)))
            (λ (apart : a ≢ b). subst (λ (l : List ℕ). ActorFrom q a l) (sym (get_or-set_other lists b a (set (get_or lists b []) j q) [] apart)) (other_list a below apart))
            (cases_eq a b);
      }

    pub one_back : AreFrom q (noted_firing lists x q)
    one_back = by x refl
      where
        by : (y : Node) → x ≡ y → AreFrom q (noted_firing lists y q)
        by (node.Source s) e = stays (λ a k. ap (same (node.Firing a k)) e)
        by (node.Init l) e = stays (λ a k. ap (same (node.Firing a k)) e)
        by (node.Firing b j) e = goes_on b j e
        by (node.End l) e = stays (λ a k. ap (same (node.Firing a k)) e)
        by (node.Sink t) e = stays (λ a k. ap (same (node.Firing a k)) e)
        by (node.Broadcast l) e = stays (λ a k. ap (same (node.Firing a k)) e)
        by (node.Fork l i) e = stays (λ a k. ap (same (node.Firing a k)) e)
        by (node.Join l j) e = stays (λ a k. ap (same (node.Firing a k)) e)
        by (node.Round l) e = stays (λ a k. ap (same (node.Firing a k)) e)
