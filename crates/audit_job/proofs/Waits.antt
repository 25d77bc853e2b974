-- For how many edges nodes wait, before and after one more node has given something.
use Rattle.std.proofs.Common.{◌≡◌, ◌≢◌, ℕ, ◌+◌, ◌==◌, ◌&&◌, not, Bool, true, false, List, [], ◌∷◌, refl, sym, ap, ◌∙◌, arith, if◌then◌else◌, ⊎_elim}
use Rattle.std.proofs.lemmas.Bool.Decides.{eqb_tells}
use Rattle.job_flow.specs.Frames.{edges_into}
use Rattle.sdf_level.specs.declared.single_rate.Edge.{Edge}
use Rattle.audit_job.specs.Waiting.{between, waiting}

first : (b d : Bool) (x y : ℕ) → d ≡ false → x ≡ y → (if b && not d then 1 else 0) + x ≡ (if b then 1 else 0) + y
first true true x y none same = absurd (cc)
first true false x y none same = ap (λ k. 1 + k) same
first false d x y none same = ap (λ k. 0 + k) same

-- a node waits for each edge into it at first
pub waits_for_all : (edges : List Edge) (done : ℕ → Bool) (n : ℕ) → ((m : ℕ) → done m ≡ false) → waiting edges done n ≡ edges_into edges n
waits_for_all [] done n none = refl
waits_for_all (e ∷ edges) done n none = first (e.head == n) (done e.tail) (waiting edges done n) (edges_into edges n) (none e.tail) (waits_for_all edges done n none)

-- one edge, whose tail gives something or doesn't
one_less : (a b c d : Bool) → (b ≡ true → (c ≡ false) × (d ≡ true)) → (b ≡ false → d ≡ c) → (if a && not c then 1 else 0) ≡ (if a && not d then 1 else 0) + (if a && b then 1 else 0)
one_less false b c d own other = refl
one_less true true c d own other = let o = own refl in rw (o.0, o.1) refl
one_less true false c d own other = rw (other refl) (let e : (if not c then 1 else 0) ≡ (if not c then 1 else 0) + 0 = omega arith in e)

-- a node has given something: those after it wait for the edges from it no more
pub waits_less : (edges : List Edge) (done later : ℕ → Bool) (t n : ℕ) → done t ≡ false → later t ≡ true → ((m : ℕ) → m ≢ t → later m ≡ done m) → waiting edges done n ≡ waiting edges later n + between edges t n
waits_less [] done later t n was is others = refl
waits_less (e ∷ edges) done later t n was is others =
    let again = waits_less edges done later t n was is others in
    let here : (if (e.head == n) && not (done e.tail) then 1 else 0) ≡ (if (e.head == n) && not (later e.tail) then 1 else 0) + (if (e.head == n) && (e.tail == t) then 1 else 0) = at_edge in
    omega arith
  where
    at_edge : (if (e.head == n) && not (done e.tail) then 1 else 0) ≡ (if (e.head == n) && not (later e.tail) then 1 else 0) + (if (e.head == n) && (e.tail == t) then 1 else 0)
    at_edge = ⊎_elim
        (λ (s : ((e.tail == t) ≡ true) × (e.tail ≡ t)). one_less (e.head == n) (e.tail == t) (done e.tail) (later e.tail) (λ yes. (ap done s.1 ∙ was, ap later s.1 ∙ is)) (λ no. absurd (let x : true ≡ false = sym s.0 ∙ no in cc)))
        (λ (s : ((e.tail == t) ≡ false) × (e.tail ≢ t)). one_less (e.head == n) (e.tail == t) (done e.tail) (later e.tail) (λ yes. absurd (let x : true ≡ false = sym yes ∙ s.0 in cc)) (λ no. others e.tail s.1))
        (eqb_tells e.tail t)
