-- The nodes at the edges of a node: one edge more, and what holds of each.
use Rattle.std.proofs.Common.{◌≡◌, ℕ, ◌<◌, true, eqb, List, [], ◌∷◌, ◌++◌, map, slice_index, ap, ◌∙◌}
use Rattle.std.specs.List.{AllByRecursion, filter}
use Rattle.std.proofs.lemmas.List.{map-append}
use Rattle.std.proofs.lemmas.List.Elements.{filter-append, recursion_from_All}
use Rattle.std.proofs.lemmas.Bool.{eqb-true}
use Rattle.worker_mapping.specs.Graph.{nodes_after, nodes_before, AreThere, Rise}
use Rattle.worker_mapping.proofs.Lists.{each-weaker, each-map, each-passing}

pub nodes_after-append : (edges more : List (ℕ × ℕ)) (n : ℕ) → nodes_after (edges ++ more) n ≡ nodes_after edges n ++ nodes_after more n
nodes_after-append edges more n = ap (map (λ (e : ℕ × ℕ). e.1)) (filter-append (λ (e : ℕ × ℕ). eqb e.0 n) edges more) ∙ map-append (λ (e : ℕ × ℕ). e.1) (filter (λ (e : ℕ × ℕ). eqb e.0 n) edges) (filter (λ (e : ℕ × ℕ). eqb e.0 n) more)

pub nodes_before-append : (edges more : List (ℕ × ℕ)) (n : ℕ) → nodes_before (edges ++ more) n ≡ nodes_before edges n ++ nodes_before more n
nodes_before-append edges more n = ap (map (λ (e : ℕ × ℕ). e.0)) (filter-append (λ (e : ℕ × ℕ). eqb e.1 n) edges more) ∙ map-append (λ (e : ℕ × ℕ). e.0) (filter (λ (e : ℕ × ℕ). eqb e.1 n) edges) (filter (λ (e : ℕ × ℕ). eqb e.1 n) more)

-- what holds of the head of each edge with this tail, and of the tail of each with this head
pub each_after : (P : ℕ → Type 0) (edges : List (ℕ × ℕ)) (n : ℕ) → AllByRecursion (λ (e : ℕ × ℕ). e.0 ≡ n → P e.1) edges → AllByRecursion P (nodes_after edges n)
each_after P edges n all =
    each-map P (λ (e : ℕ × ℕ). e.1) (filter (λ (e : ℕ × ℕ). eqb e.0 n) edges)
    (each-passing (λ (e : ℕ × ℕ). P e.1) (λ (e : ℕ × ℕ). eqb e.0 n) edges
    (each-weaker (λ (e : ℕ × ℕ). e.0 ≡ n → P e.1) (λ (e : ℕ × ℕ). eqb e.0 n ≡ true → P e.1) (λ e h t. h (eqb-true e.0 n t)) edges all))

pub each_before : (P : ℕ → Type 0) (edges : List (ℕ × ℕ)) (n : ℕ) → AllByRecursion (λ (e : ℕ × ℕ). e.1 ≡ n → P e.0) edges → AllByRecursion P (nodes_before edges n)
each_before P edges n all =
    each-map P (λ (e : ℕ × ℕ). e.0) (filter (λ (e : ℕ × ℕ). eqb e.1 n) edges)
    (each-passing (λ (e : ℕ × ℕ). P e.0) (λ (e : ℕ × ℕ). eqb e.1 n) edges
    (each-weaker (λ (e : ℕ × ℕ). e.1 ≡ n → P e.0) (λ (e : ℕ × ℕ). eqb e.1 n ≡ true → P e.0) (λ e h t. h (eqb-true e.1 n t)) edges all))

pub heads_are_there : (nodes : ℕ) (edges : List (ℕ × ℕ)) (n : ℕ) → AreThere nodes edges → AllByRecursion (λ b. b < nodes) (nodes_after edges n)
heads_are_there nodes edges n there = each_after (λ b. b < nodes) edges n (each-weaker (λ (e : ℕ × ℕ). (e.0 < nodes) × (e.1 < nodes)) (λ (e : ℕ × ℕ). e.0 ≡ n → e.1 < nodes) (λ e k s. k.1) edges (recursion_from_All (λ (e : ℕ × ℕ). (e.0 < nodes) × (e.1 < nodes)) edges there))

-- both at once: it is a node, and of greater rank
pub after_is_there : (nodes : ℕ) (ranks : List ℕ) (edges : List (ℕ × ℕ)) (n : ℕ) → AreThere nodes edges → Rise ranks edges → AllByRecursion (λ b. (b < nodes) × (slice_index ranks n < slice_index ranks b)) (nodes_after edges n)
after_is_there nodes ranks edges n there rise = each_after (λ b. (b < nodes) × (slice_index ranks n < slice_index ranks b)) edges n (go edges (recursion_from_All (λ (e : ℕ × ℕ). (e.0 < nodes) × (e.1 < nodes)) edges there) (recursion_from_All (λ (e : ℕ × ℕ). slice_index ranks e.0 < slice_index ranks e.1) edges rise)) where
  go : (rest : List (ℕ × ℕ)) → AllByRecursion (λ (e : ℕ × ℕ). (e.0 < nodes) × (e.1 < nodes)) rest → AllByRecursion (λ (e : ℕ × ℕ). slice_index ranks e.0 < slice_index ranks e.1) rest → AllByRecursion (λ (e : ℕ × ℕ). e.0 ≡ n → (e.1 < nodes) × (slice_index ranks n < slice_index ranks e.1)) rest
  go [] t r = tt
  go (e ∷ rest) t r = ((λ same. (t.0.1, rw (← same) r.0)), go rest t.1 r.1)

pub before_is_there : (nodes : ℕ) (ranks : List ℕ) (edges : List (ℕ × ℕ)) (n : ℕ) → AreThere nodes edges → Rise ranks edges → AllByRecursion (λ a. (a < nodes) × (slice_index ranks a < slice_index ranks n)) (nodes_before edges n)
before_is_there nodes ranks edges n there rise = each_before (λ a. (a < nodes) × (slice_index ranks a < slice_index ranks n)) edges n (go edges (recursion_from_All (λ (e : ℕ × ℕ). (e.0 < nodes) × (e.1 < nodes)) edges there) (recursion_from_All (λ (e : ℕ × ℕ). slice_index ranks e.0 < slice_index ranks e.1) edges rise)) where
  go : (rest : List (ℕ × ℕ)) → AllByRecursion (λ (e : ℕ × ℕ). (e.0 < nodes) × (e.1 < nodes)) rest → AllByRecursion (λ (e : ℕ × ℕ). slice_index ranks e.0 < slice_index ranks e.1) rest → AllByRecursion (λ (e : ℕ × ℕ). e.1 ≡ n → (e.0 < nodes) × (slice_index ranks e.0 < slice_index ranks n)) rest
  go [] t r = tt
  go (e ∷ rest) t r = ((λ same. (t.0.0, rw (← same) r.0)), go rest t.1 r.1)
