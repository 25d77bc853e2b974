-- Counts of edges into a node.
use Rattle.std.proofs.Common.{◌≡◌, ℕ, zero, suc, ◌+◌, ◌<◌, ◌≤◌, ⊎_elim, Bool, true, false, List, [], ◌∷◌, length, map, refl, sym, ap, ap₂, ◌∙◌, subst, arith}
use Rattle.std.specs.Prelude.{◌≢◌, ◌==◌, ◌&&◌, not, Option, Some, None}
use Rattle.std.proofs.lemmas.Bool.{cases_eq, cases_lt, eq-eqb, ne_eqb}
use Rattle.sdf_level.specs.declared.single_rate.Edge.{Edge}
use Rattle.one_job.specs.Places.{edge_at}
use Rattle.one_job.specs.Ready.{bit, marked_into, heads_at, heads_in}
use Rattle.job_compiler.specs.Ends.{head_of, ends_at}
use Rattle.one_job.proofs.Lending.{In, NotIn, Fresh, EachEdge}

and_no : (b : Bool) → (b && false) ≡ false
and_no true = refl
and_no false = refl

and_yes : (b : Bool) → (b && true) ≡ b
and_yes true = refl
and_yes false = refl

pub marked_same : (edges : List Edge) (f g : ℕ → Bool) (n k : ℕ) → ((e : ℕ) → e < k → f e ≡ g e) → marked_into edges f n k ≡ marked_into edges g n k
marked_same edges f g n zero same = refl
marked_same edges f g n (suc k) same = ap₂ (λ a b. bit (a && ((edge_at edges k).head == n)) + b) (same k (omega arith)) (marked_same edges f g n k (λ e below. same e (omega arith)))

pub marked_zero : (edges : List Edge) (f : ℕ → Bool) (n k : ℕ) → ((e : ℕ) → e < k → (edge_at edges e).head ≡ n → f e ≡ false) → marked_into edges f n k ≡ 0
marked_zero edges f n zero none = refl
marked_zero edges f n (suc k) none =
    let rest = marked_zero edges f n k (λ e below. none e (omega arith)) in
    let last : bit (f k && ((edge_at edges k).head == n)) ≡ 0 = ⊎_elim
    (λ (here : (edge_at edges k).head ≡ n). ap (λ b. bit (b && ((edge_at edges k).head == n))) (none k (omega arith) here))
    (λ (there : (edge_at edges k).head ≡ n → ⊥). ap (λ b. bit (f k && b)) (ne_eqb (edge_at edges k).head n there) ∙ ap bit (and_no (f k)))
    (cases_eq (edge_at edges k).head n) in
    omega arith

bit_zero : (b c : Bool) → bit (b && c) ≡ 0 → c ≡ true → b ≡ false
bit_zero true true is here = absurd (let bad : ⊥ = omega arith in bad)
bit_zero true false is here = absurd (cc)
bit_zero false c is here = refl

pub marked_none : (edges : List Edge) (f : ℕ → Bool) (n k : ℕ) → marked_into edges f n k ≡ 0 → (e : ℕ) → e < k → (edge_at edges e).head ≡ n → f e ≡ false
marked_none edges f n zero none e below here = absurd (let bad : ⊥ = omega arith in bad)
marked_none edges f n (suc k) none e below here = ⊎_elim
    (λ (before : e < k). marked_none edges f n k (omega arith) e before here)
    (λ (up : k ≤ e).
    let last : e ≡ k = omega arith in
    let last_none : bit (f k && ((edge_at edges k).head == n)) ≡ 0 = omega arith in
    let here_k : (edge_at edges k).head ≡ n = subst (λ q. (edge_at edges q).head ≡ n) last here in
    subst (λ q. f q ≡ false) (sym last) (bit_zero (f k) ((edge_at edges k).head == n) last_none (eq-eqb (edge_at edges k).head n here_k)))
    (cases_lt e k)

-- one edge less
marked_drop : (edges : List Edge) (f g : ℕ → Bool) (n i k : ℕ) → i < k → f i ≡ true → g i ≡ false → ((e : ℕ) → e ≢ i → f e ≡ g e) → marked_into edges f n k ≡ heads_at edges (Some i) n + marked_into edges g n k
marked_drop edges f g n i zero below on off same = absurd (let bad : ⊥ = omega arith in bad)
marked_drop edges f g n i (suc k) below on off same = ⊎_elim
    (λ (last : i ≡ k).
    let rest = marked_same edges f g n k (λ e e_below. same e (λ is. let bad : ⊥ = omega arith in bad)) in
    let f_bit : bit (f k && ((edge_at edges k).head == n)) ≡ bit ((edge_at edges k).head == n) = ap (λ b. bit (b && ((edge_at edges k).head == n))) (subst (λ q. f q ≡ true) last on) in
    let g_bit : bit (g k && ((edge_at edges k).head == n)) ≡ 0 = ap (λ b. bit (b && ((edge_at edges k).head == n))) (subst (λ q. g q ≡ false) last off) in
    let at : bit ((edge_at edges i).head == n) ≡ bit ((edge_at edges k).head == n) = ap (λ q. bit ((edge_at edges q).head == n)) last in
    omega arith)
    (λ (not_last : i ≡ k → ⊥).
    let before : i < k = ⊎_elim (λ (less : i < k). less) (λ (up : k ≤ i). absurd (not_last (omega arith))) (cases_lt i k) in
    let rest = marked_drop edges f g n i k before on off same in
    let bits : bit (f k && ((edge_at edges k).head == n)) ≡ bit (g k && ((edge_at edges k).head == n)) = ap (λ b. bit (b && ((edge_at edges k).head == n))) (same k (λ is. not_last (sym is))) in
    omega arith)
    (cases_eq i k)

-- the marks but those of the edges at these ports
abbrev pub without : (ℕ → Bool) → List (Option ℕ) → ℕ → Bool
without f [] d = f d
without f (None ∷ ports) d = without f ports d
without f (Some e ∷ ports) d = without f ports d && not (d == e)

pub without_out : (f : ℕ → Bool) (d : ℕ) (ports : List (Option ℕ)) → NotIn d ports → without f ports d ≡ f d
without_out f d [] out = refl
without_out f d (None ∷ ports) out = without_out f d ports out
without_out f d (Some e ∷ ports) out = ap₂ (λ a b. a && not b) (without_out f d ports out.1) (ne_eqb d e out.0) ∙ and_yes (f d)

pub without_in : (f : ℕ → Bool) (d : ℕ) (ports : List (Option ℕ)) → In d ports → without f ports d ≡ false
without_in f d [] is = absurd is
without_in f d (None ∷ ports) is = without_in f d ports is
without_in f d (Some e ∷ ports) is = ⊎_elim
    (λ (same : d ≡ e). ap (λ b. without f ports d && not b) (eq-eqb d e same) ∙ and_no (without f ports d))
    (λ (later : In d ports). ap (λ b. b && not (d == e)) (without_in f d ports later))
    is

pub marked_without : (edges : List Edge) (f : ℕ → Bool) (n k : ℕ) (ports : List (Option ℕ)) → Fresh ports → EachEdge (λ e. (e < k) × (f e ≡ true)) ports → marked_into edges f n k ≡ heads_in edges ports n + marked_into edges (without f ports) n k
marked_without edges f n k [] fresh each = marked_same edges f (without f []) n k (λ e below. refl) ∙ omega arith
marked_without edges f n k (None ∷ ports) fresh each =
    let rest = marked_without edges f n k ports fresh each in
    let same = marked_same edges (without f ports) (without f (None ∷ ports)) n k (λ e below. refl) in
    omega arith
marked_without edges f n k (Some i ∷ ports) fresh each =
    let rest = marked_without edges f n k ports fresh.1 each.1 in
    let less = marked_drop edges (without f ports) (without f (Some i ∷ ports)) n i k each.0.0 (without_out f i ports fresh.0 ∙ each.0.1)
    (ap (λ b. without f ports i && not b) (eq-eqb i i refl) ∙ and_no (without f ports i))
    (λ e differs. sym (ap (λ b. without f ports e && not b) (ne_eqb e i differs) ∙ and_yes (without f ports e))) in
    omega arith

-- ---- all edges

front : (x : Edge) (edges : List Edge) (f : ℕ → Bool) (n k : ℕ) → marked_into (x ∷ edges) f n (suc k) ≡ bit (f 0 && (x.head == n)) + marked_into edges (λ e. f (suc e)) n k
front x edges f n zero = omega arith
front x edges f n (suc k) = let rest = front x edges f n k in omega arith

head_bit : (x : Edge) (n k : ℕ) → (Rattle.std.specs.Prelude.if◌then◌else◌ (x.head == n) 1 0) + k ≡ bit (true && (x.head == n)) + k
head_bit x n k = by (x.head == n)
  where
    by : (b : Bool) → (Rattle.std.specs.Prelude.if◌then◌else◌ b 1 0) + k ≡ bit (true && b) + k
    by true = refl
    by false = refl

pub marked_all : (edges : List Edge) (n : ℕ) → marked_into edges (λ e. true) n (length edges) ≡ ends_at n (map head_of edges)
marked_all [] n = refl
marked_all (x ∷ edges) n =
    let rest = marked_all edges n in
    let first = front x edges (λ e. true) n (length edges) in
    first ∙ (sym (head_bit x n (marked_into edges (λ e. true) n (length edges))) ∙ ap (λ k. (Rattle.std.specs.Prelude.if◌then◌else◌ (x.head == n) 1 0) + k) rest)
