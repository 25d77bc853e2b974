-- How many edges lead to a node from nodes that aren't in the line.
use Rattle.std.proofs.Common.{◌≡◌, ℕ, ◌+◌, ◌-◌, ⊎_elim, true, false, cond, eqb, List, [], ◌∷◌, ◌++◌, map, length, arith, refl}
use Rattle.std.specs.List.{AllByRecursion, Contains, filter}
use Rattle.std.proofs.lemmas.Bool.{cases_eq, eq-eqb, ne_eqb}
use Rattle.sdf_level.specs.Lists.{occurrences}
use Rattle.worker_mapping.specs.Graph.{nodes_after, nodes_before}
use Rattle.worker_mapping.proofs.Releasing.{occurrences-push, occurrences-own, occurrences-other, Contains-from_occurrences, occurrences-from_Contains}

abbrev pub left_before : List (ℕ × ℕ) → List ℕ → ℕ → ℕ
left_before [] line n = 0
left_before (e ∷ edges) line n = cond (eqb e.1 n) (1 - occurrences e.0 line) 0 + left_before edges line n

pub all_at_first : (edges : List (ℕ × ℕ)) (n : ℕ) → left_before edges [] n ≡ length (nodes_before edges n)
all_at_first [] n = refl
all_at_first (e ∷ edges) n = elim (eqb e.1 n) as (λ b. cond b (1 - 0) 0 + left_before edges [] n ≡ length (map (λ (e : ℕ × ℕ). e.0) (cond b (e ∷ filter (λ (e : ℕ × ℕ). eqb e.1 n) edges) (filter (λ (e : ℕ × ℕ). eqb e.1 n) edges)))) [
  | true ↦ let rest = all_at_first edges n in omega arith
  | false ↦ let rest = all_at_first edges n in omega arith
]

-- where it is none, all their tails are in the line
pub tails_in : (edges : List (ℕ × ℕ)) (line : List ℕ) (n : ℕ) → left_before edges line n ≡ 0 → AllByRecursion (λ (e : ℕ × ℕ). e.1 ≡ n → Contains line e.0) edges
tails_in [] line n none = tt
tails_in (e ∷ edges) line n none = (
  (λ same. Contains-from_occurrences e.0 line (let mine = rw (eq-eqb e.1 n same) at none in omega arith)),
  tails_in edges line n (omega arith),
)

pub none_left : (edges : List (ℕ × ℕ)) (line : List ℕ) (n : ℕ) → AllByRecursion (λ (e : ℕ × ℕ). e.1 ≡ n → Contains line e.0) edges → left_before edges line n ≡ 0
none_left [] line n all = refl
none_left (e ∷ edges) line n all =
    let rest = none_left edges line n all.1 in
    ⊎_elim
    (λ (same : e.1 ≡ n). let mine = occurrences-from_Contains e.0 line (all.0 same) in rw (eq-eqb e.1 n same) (omega arith))
    (λ (other : e.1 ≡ n → ⊥). rw (ne_eqb e.1 n other) (omega arith))
    (cases_eq e.1 n)

-- a node more in the line
pub one_less : (edges : List (ℕ × ℕ)) (line : List ℕ) (v n : ℕ) → occurrences v line ≡ 0 → left_before edges (line ++ v ∷ []) n + occurrences n (nodes_after edges v) ≡ left_before edges line n
one_less [] line v n new = omega arith
one_less (e ∷ edges) line v n new =
    let rest = one_less edges line v n new in
    let count = occurrences-push e.0 line v in
    ⊎_elim
    (λ (own : e.0 ≡ v).
    let one = occurrences-own v in
    let was : occurrences e.0 line ≡ 0 = rw own new in
    let now : occurrences e.0 (v ∷ []) ≡ 1 = rw own one in
    rw (eq-eqb e.0 v own) (elim (eqb e.1 n) as (λ b. cond b (1 - occurrences e.0 (line ++ v ∷ [])) 0 + left_before edges (line ++ v ∷ []) n + (cond b 1 0 + occurrences n (nodes_after edges v)) ≡ cond b (1 - occurrences e.0 line) 0 + left_before edges line n) [ true ↦ omega arith | false ↦ omega arith ]))
    (λ (other : e.0 ≡ v → ⊥).
    let none : occurrences e.0 (v ∷ []) ≡ 0 = occurrences-other e.0 v (λ same. other (let same' : v ≡ e.0 = same in omega arith)) in
    rw (ne_eqb e.0 v other) (elim (eqb e.1 n) as (λ b. cond b (1 - occurrences e.0 (line ++ v ∷ [])) 0 + left_before edges (line ++ v ∷ []) n + occurrences n (nodes_after edges v) ≡ cond b (1 - occurrences e.0 line) 0 + left_before edges line n) [ true ↦ omega arith | false ↦ omega arith ]))
    (cases_eq e.0 v)
