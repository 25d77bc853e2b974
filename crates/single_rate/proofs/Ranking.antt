-- Raising ranks along edges, and when it ends.
use Rattle.std.proofs.Common.{◌≡◌, ℕ, zero, suc, ◌+◌, ◌<◌, ◌≤◌, Bool, true, false, ◌||◌, IsTrue, IsFalse, ⊎_elim, inl, inr, List, [], ◌∷◌, length, take, set, slice_index, slice_index_or, refl, ap, sym, ◌∙◌, subst, arith}
use Rattle.std.specs.List.{All, AllByRecursion}
use Rattle.std.proofs.lemmas.Bool.{cases_eq}
use Rattle.std.proofs.lemmas.List.{length-set, get_or-set_same, get_or-set_other}
use Rattle.sdf_level.specs.declared.single_rate.Edge.{Edge}
use Rattle.single_rate.specs.Ranks.{Among, IsPathTo, IsReached, AreRanks}
use Rattle.single_rate.specs.Raising.{GoForward, EndsBelow, AreReached, AreSettled, slack}

pub among-all : (P : Edge → Type 0) (edges : List Edge) (e : Edge) → AllByRecursion P edges → Among edges e → P e
among-all P [] e all i = absurd i
among-all P (f ∷ edges) e all (inl is) = subst P is all.0
among-all P (f ∷ edges) e all (inr i) = among-all P edges e all.1 i

pub among-at : (edges : List Edge) (i : ℕ) (d : Edge) → i < length edges → Among edges (slice_index_or edges i d)
among-at [] i d h = absurd (omega arith)
among-at (e ∷ edges) zero d h = inl refl
among-at (e ∷ edges) (suc i) d h = inr (among-at edges i d (omega arith))

pub all-more : (P : Edge → Type 0) (edges : List Edge) (i : ℕ) (d : Edge) → i < length edges → AllByRecursion P (take i edges) → P (slice_index_or edges i d) → AllByRecursion P (take (i + 1) edges)
all-more P [] i d h all here = absurd (omega arith)
all-more P (e ∷ edges) zero d h all here = (here, tt)
all-more P (e ∷ edges) (suc i) d h all here = let s : suc i + 1 ≡ suc (i + 1) = omega arith in rw s (all.0, all-more P edges i d (omega arith) all.1 here)

path-tier : (edges : List Edge) (last : ℕ) (go : GoForward edges last) (over : List Edge) (n : ℕ) → IsPathTo edges over n → length over ≤ go.tier n
path-tier edges last go [] n path = omega arith
path-tier edges last go (e ∷ over) n path =
    let before = path-tier edges last go over e.tail path.2 in
    let forward = among-all (λ x. go.tier x.tail < go.tier x.head) edges e go.forward path.1 in
    let head : go.tier e.head ≡ go.tier n = ap go.tier path.0 in
    omega arith

pub reached-within : (edges : List Edge) (last n rank : ℕ) → GoForward edges last → IsReached edges n rank → rank ≤ last
reached-within edges last n rank go reached = let p = path-tier edges last go reached.over n reached.path in let w = go.within n in let l = reached.long in omega arith

pub slack-less : (last : ℕ) (ranks : List ℕ) (h v : ℕ) → h < length ranks → slice_index ranks h < v → v ≤ last → slack last (set ranks h v) < slack last ranks
slack-less last [] h v inside more within = absurd (omega arith)
slack-less last (r ∷ ranks) zero v inside more within = omega arith
slack-less last (r ∷ ranks) (suc h) v inside more within = let s = slack-less last ranks h v (omega arith) more within in omega arith

module _ (edges : List Edge) where
  raised-reached : (ranks : List ℕ) (e : Edge) → Among edges e → e.tail < length ranks → e.head < length ranks → AreReached edges ranks → AreReached edges (set ranks e.head (slice_index ranks e.tail + 1))
  raised-reached ranks e there tail head reached n h =
      let long = length-set ranks e.head (slice_index ranks e.tail + 1) in
      let P : ℕ → Type 0 = λ r. IsReached edges n r in
      ⊎_elim
      (λ (is : n ≡ e.head).
      let t = reached e.tail tail in
      let Q : ℕ → Type 0 = λ m. IsReached edges m (slice_index ranks e.tail + 1) in
      let own : Q e.head = record { over = e ∷ t.over; path = (refl, there, t.path); long = (let l = t.long in omega arith) } in
      let value : slice_index (set ranks e.head (slice_index ranks e.tail + 1)) n ≡ slice_index ranks e.tail + 1 = ap (slice_index (set ranks e.head (slice_index ranks e.tail + 1))) is ∙ get_or-set_same ranks e.head (slice_index ranks e.tail + 1) 0 head in
      subst P (sym value) (subst Q (sym is) own))
      (λ (other : n ≡ e.head → ⊥). subst P (sym (get_or-set_other ranks e.head n (slice_index ranks e.tail + 1) 0 other)) (reached n (omega arith)))
      (cases_eq n e.head)

  -- a rank that is raised stays the length of a path
  pub raised-path : (ranks new : List ℕ) (i : ℕ) (r : Bool) (d : Edge) → EndsBelow (length ranks) edges → i < length edges → AreReached edges ranks →
      (IsFalse r → new ≡ ranks) → (IsTrue r → new ≡ set ranks (slice_index_or edges i d).head (slice_index ranks (slice_index_or edges i d).tail + 1)) → (length new ≡ length ranks) × AreReached edges new
  raised-path ranks new i true d ends inside reached kept rose =
      let e : Edge = slice_index_or edges i d in
      let there : Among edges e = among-at edges i d inside in
      let below = among-all (λ x. (x.tail < length ranks) × (x.head < length ranks)) edges e ends there in
      let P : List ℕ → Type 0 = λ x. (length x ≡ length ranks) × AreReached edges x in
      subst P (sym (rose refl)) (length-set ranks e.head (slice_index ranks e.tail + 1), raised-reached ranks e there below.0 below.1 reached)
  raised-path ranks new i false d ends inside reached kept rose = let P : List ℕ → Type 0 = λ x. (length x ≡ length ranks) × AreReached edges x in subst P (sym (kept refl)) (refl, reached)

  -- no path is longer, once no rank can be raised
  most : (ranks : List ℕ) → AreSettled edges ranks → (over : List Edge) (n : ℕ) → IsPathTo edges over n → length over ≤ slice_index ranks n
  most ranks settled [] n path = omega arith
  most ranks settled (e ∷ over) n path =
      let before = most ranks settled over e.tail path.2 in
      let more = among-all (λ x. slice_index ranks x.tail < slice_index ranks x.head) edges e settled path.1 in
      let head : slice_index ranks e.head ≡ slice_index ranks n = ap (slice_index ranks) path.0 in
      omega arith

  pub settled-ranks : (count : ℕ) (ranks : List ℕ) → length ranks ≡ count → AreReached edges ranks → AreSettled edges ranks → AreRanks count edges ranks
  settled-ranks count ranks long reached settled = record { one_each = long; each = λ n h. record { reached = reached n (omega arith); most = λ other path. most ranks settled other n path } }

  pub ranks-rise : (count : ℕ) (ranks : List ℕ) → EndsBelow count edges → AreRanks count edges ranks → All (λ e. slice_index ranks e.tail < slice_index ranks e.head) edges
  ranks-rise count ranks ends are i d inside =
      let e : Edge = slice_index_or edges i d in
      let there : Among edges e = among-at edges i d inside in
      let below = among-all (λ x. (x.tail < count) × (x.head < count)) edges e ends there in
      let t = (are.each e.tail below.0).reached in
      let m = (are.each e.head below.1).most (e ∷ t.over) (refl, there, t.path) in
      let l = t.long in
      omega arith

  -- after each edge: what was raised so far
  pub record Raised (last : ℕ) (first ranks : List ℕ) (i : ℕ) (raised : Bool) : Type 0 where
    pub long : length ranks ≡ length first
    pub reached : AreReached edges ranks
    pub settled : IsFalse raised → (ranks ≡ first) × AllByRecursion (λ e. slice_index ranks e.tail < slice_index ranks e.head) (take i edges)
    pub at_most : slack last ranks ≤ slack last first
    pub less : IsTrue raised → slack last ranks < slack last first

  pub raised-step : (last : ℕ) (first ranks new : List ℕ) (i : ℕ) (raised r : Bool) (d : Edge) → GoForward edges last → EndsBelow (length first) edges → i < length edges → Raised last first ranks i raised →
      (IsFalse r → new ≡ ranks) → (IsFalse r → slice_index ranks (slice_index_or edges i d).tail < slice_index ranks (slice_index_or edges i d).head) →
      (IsTrue r → new ≡ set ranks (slice_index_or edges i d).head (slice_index ranks (slice_index_or edges i d).tail + 1)) → (IsTrue r → slice_index ranks (slice_index_or edges i d).head < slice_index ranks (slice_index_or edges i d).tail + 1) →
      Raised last first new (i + 1) (raised || r)
  raised-step last first ranks new i raised true d go ends inside so kept settled rose more =
      let e : Edge = slice_index_or edges i d in
      let there : Among edges e = among-at edges i d inside in
      let below = among-all (λ x. (x.tail < length first) × (x.head < length first)) edges e ends there in
      let long = so.long in
      let is = rose refl in
      let P : List ℕ → Type 0 = λ x. AreReached edges x in
      let reached : P new = subst P (sym is) (raised-reached ranks e there (omega arith) (omega arith) so.reached) in
      let value : slice_index (set ranks e.head (slice_index ranks e.tail + 1)) e.head ≡ slice_index ranks e.tail + 1 = get_or-set_same ranks e.head (slice_index ranks e.tail + 1) 0 (omega arith) in
      let within = reached-within edges last e.head (slice_index (set ranks e.head (slice_index ranks e.tail + 1)) e.head) go (raised-reached ranks e there (omega arith) (omega arith) so.reached e.head (let l = length-set ranks e.head (slice_index ranks e.tail + 1) in omega arith)) in
      let less : slack last new < slack last ranks = rw is (slack-less last ranks e.head (slice_index ranks e.tail + 1) (omega arith) (more refl) (omega arith)) in
      let all = so.at_most in
      let either : (b : Bool) → (b || true) ≡ true = or-true in
      record { long = (ap (λ (x : List ℕ). length x) is ∙ length-set ranks e.head (slice_index ranks e.tail + 1) ∙ long); reached = reached; settled = (λ f. let t = either raised in absurd (cc)); at_most = omega arith; less = (λ t. omega arith) }
    where
      or-true : (b : Bool) → (b || true) ≡ true
      or-true true = refl
      or-true false = refl
  raised-step last first ranks new i true false d go ends inside so kept settled rose more =
      let is = kept refl in
      let P : List ℕ → Type 0 = λ x. AreReached edges x in
      let Q : List ℕ → Type 0 = λ x. slack last x ≤ slack last first in
      let R : List ℕ → Type 0 = λ x. slack last x < slack last first in
      record { long = ap (λ (x : List ℕ). length x) is ∙ so.long; reached = subst P (sym is) so.reached; settled = (λ f. absurd (cc)); at_most = subst Q (sym is) so.at_most; less = (λ t. subst R (sym is) (so.less refl)) }
  raised-step last first ranks new i false false d go ends inside so kept settled rose more =
      let is = kept refl in
      let before = so.settled refl in
      let P : List ℕ → Type 0 = λ x. AreReached edges x in
      let Q : List ℕ → Type 0 = λ x. slack last x ≤ slack last first in
      let S : List ℕ → Type 0 = λ x. AllByRecursion (λ e. slice_index x e.tail < slice_index x e.head) (take (i + 1) edges) in
      record {
        long = ap (λ (x : List ℕ). length x) is ∙ so.long;
        reached = subst P (sym is) so.reached;
        settled = (λ f. (is ∙ before.0, subst S (sym is) (all-more (λ e. slice_index ranks e.tail < slice_index ranks e.head) edges i d inside before.1 (settled refl))));
        at_most = subst Q (sym is) so.at_most;
        less = (λ t. absurd (cc));
      }
