-- The first link and the last.
use Rattle.std.proofs.Common.{◌≡◌, ℕ, zero, suc, ◌+◌, ◌<◌, ◌≤◌, ⊎_elim, List, [], ◌∷◌, length, slice_index, get_or, take, replicate, refl, ap, sym, ◌∙◌, arith}
use Rattle.std.proofs.lemmas.Bool.{cases_lt}
use Rattle.std.proofs.lemmas.List.{get_or_past, get_or-replicate, take_more}
use Rattle.sdf_level.specs.View.{LevelView}
use Rattle.sdf_level.specs.Links.{Inner, EachInner}
use Rattle.sdf_level.specs.Balance.{IsBalanced, Solves, IsBase, HasNoVector}
use Rattle.sdf_level.specs.declared.link.Link.{Link}
use Rattle.balance_solver.specs.Joined.{IsJoined, AreJoined, Refutes}
use Rattle.sdf_level.proofs.InnerLinks.{EachInner-map}
use Rattle.sdf_level.specs.Numbered.{inner_links}
use Rattle.sdf_level.proofs.InnerList.{EachInner-same}
use Rattle.balance_solver.proofs.Uniting.{at_most_multiple}

-- before any link each actor is a group
pub joined_at_start : (n : ℕ) (group q : List ℕ) → ((a : ℕ) → a < n → slice_index group a ≡ a) → q ≡ replicate n 1 → AreJoined n [] group q
joined_at_start n group q own ones =
    let one : (a : ℕ) → a < n → slice_index q a ≡ 1 = λ a h. ap (λ (v : List ℕ). slice_index v a) ones ∙ get_or-replicate n a 1 0 h in
    record {
      at_least_one = λ a h. rw (one a h) (omega arith);
      within = λ a h. rw (one a h) (omega arith);
      joined = tt;
      multiple = λ other s g. (slice_index other g, λ a h e. rw (one a h) (ap (λ (b : ℕ). slice_index other b) (sym (own a h) ∙ e) ∙ omega arith));
    }

pub EachInner-take : (P : Inner → Type 0) (links : List Link) (i : ℕ) → EachInner P links → EachInner P (take i links)
EachInner-take P [] zero all = tt
EachInner-take P [] (suc i) all = tt
EachInner-take P (link ∷ links) zero all = tt
EachInner-take P (link ∷ links) (suc i) all = (all.0, EachInner-take P links i all.1)

pub no_vector : (level : LevelView) (i : ℕ) (d : Link) (group q : List ℕ) → i < length level.links → AreJoined level.actors (take i level.links) group q → Refutes level.actors (get_or level.links i d) group q → HasNoVector level
no_vector level i d group q inside j refuses other s = refuses (take i level.links) j other record {
  at_least_one = s.at_least_one;
  within = s.within;
  balanced = rw (← take_more level.links i d inside) (EachInner-take (IsBalanced other) level.links (i + 1) s.balanced);
}

balanced_from_joined : (n : ℕ) (group q : List ℕ) (link : Inner) → IsJoined n group q link → IsBalanced q link
balanced_from_joined n group q link h = ⊎_elim
    (λ (z : (link.produced ≡ 0) × (link.consumed ≡ 0)). rw (z.0, z.1) (omega arith))
    (λ (b : (slice_index group link.tail ≡ slice_index group link.head) × IsBalanced q link). b.1)
    h.either

pub is_base : (level : LevelView) (group q : List ℕ) → length q ≡ level.actors → AreJoined level.actors level.links group q → IsBase level q
is_base level group q long j = record {
  solves = record {
    one_each = long;
    at_least_one = j.at_least_one;
    within = j.within;
    balanced = EachInner-map {P = IsJoined level.actors group q} {Q = IsBalanced q} (balanced_from_joined level.actors group q) level.links j.joined;
  };
  least = λ other s a. ⊎_elim
      (λ (inside : a < level.actors).
      let all = j.multiple other record { at_least_one = s.at_least_one; within = s.within; balanced = s.balanced } (slice_index group a) in
      let e = all.1 a inside refl in
      rw e (at_most_multiple all.0 (slice_index q a) (rw e at (s.at_least_one a inside))))
      (λ (past : level.actors ≤ a). let z = get_or_past q a 0 (let l = long in omega arith) in omega arith)
      (cases_lt a level.actors);
}

-- what solves one list of links solves each that has the same links between two actors
module _ (level : LevelView) (links : List Link) (same : inner_links links ≡ inner_links level.links) where
  abbrev pub over : LevelView
  over = record level { links = links }

  pub solves_from : (q : List ℕ) → Solves over q → Solves level q
  solves_from q s = record { one_each = s.one_each; at_least_one = s.at_least_one; within = s.within; balanced = EachInner-same (IsBalanced q) links level.links same s.balanced }

  pub solves_over : (q : List ℕ) → Solves level q → Solves over q
  solves_over q s = record { one_each = s.one_each; at_least_one = s.at_least_one; within = s.within; balanced = EachInner-same (IsBalanced q) level.links links (sym same) s.balanced }

  pub base_from : (q : List ℕ) → IsBase over q → IsBase level q
  base_from q b = record { solves = solves_from q b.solves; least = λ other s. b.least other (solves_over other s) }

  pub no_vector_from : HasNoVector over → HasNoVector level
  no_vector_from none q s = none q (solves_over q s)
