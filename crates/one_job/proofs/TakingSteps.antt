-- One lease more, at the end of the leases.
use Rattle.std.proofs.Common.{◌≡◌, ℕ, ◌+◌, ◌<◌, ◌≤◌, List, [], ◌∷◌, ◌++◌, take, drop, get_or, length, refl, sym, ap, ap₂, ◌∙◌, subst, append_assoc, add-one}
use Rattle.std.specs.Prelude.{Option, Some, None}
use Rattle.std.proofs.lemmas.List.{append-nil, take_all, drop_all}
use Rattle.std.proofs.Math.Seq.{drop-cons, take-suc}
use Rattle.split_block.specs.View.{LeaseView, IsWhole}
use Rattle.split_block.specs.Places.{Place, window}
use Rattle.cell_pool.specs.View.{PoolView}
use Rattle.one_job.specs.Taking.{Layout, taken, IsOpen, CanTake, IsTaken, EachTaken, TakesBehind, with_lease, with_leases, IsDue, AreDue}

pub with_leases-snoc : (leases : List LeaseView) (last : LeaseView) (pool : PoolView) → with_leases (leases ++ last ∷ []) pool ≡ with_leases leases (with_lease last pool)
with_leases-snoc [] last pool = refl
with_leases-snoc (lease ∷ leases) last pool = ap (with_lease lease) (with_leases-snoc leases last pool)

pub AreDue-snoc : (leases : List LeaseView) (last : LeaseView) (pool : PoolView) → AreDue (leases ++ last ∷ []) pool → AreDue leases (with_lease last pool) × IsDue last pool
AreDue-snoc [] last pool due = (tt, due.1)
AreDue-snoc (lease ∷ leases) last pool due =
    let rest = AreDue-snoc leases last pool due.0 in
    ((rest.0, subst (IsDue lease) (with_leases-snoc leases last pool) due.1), rest.1)

pub EachTaken-snoc : (place : Layout) (pool : PoolView) (ports : List (Option ℕ)) (leases : List LeaseView) (port : Option ℕ) (lease : LeaseView) → EachTaken place pool ports leases → IsTaken place pool port lease → EachTaken place pool (ports ++ port ∷ []) (leases ++ lease ∷ [])
EachTaken-snoc place pool [] [] port lease each one = (one, tt)
EachTaken-snoc place pool [] (l ∷ leases) port lease each one = absurd each
EachTaken-snoc place pool (p ∷ ports) [] port lease each one = absurd each
EachTaken-snoc place pool (p ∷ ports) (l ∷ leases) port lease each one = (each.0, EachTaken-snoc place pool ports leases port lease each.1 one)

pub TakesBehind-snoc : (place : Layout) (pool : PoolView) (ports : List (Option ℕ)) (old new : List LeaseView) (port : Option ℕ) (lease : LeaseView) → TakesBehind place pool ports old new → IsTaken place pool port lease → TakesBehind place pool (ports ++ port ∷ []) old (new ++ lease ∷ [])
TakesBehind-snoc place pool ports old new port lease takes one = record {
  more = takes.more ++ lease ∷ [];
  each = EachTaken-snoc place pool ports takes.more port lease takes.each one;
  all = ap (λ (l : List LeaseView). l ++ lease ∷ []) takes.all ∙ append_assoc old takes.more (lease ∷ []);
}

-- the first k ports have their leases, and the places of the others can be taken
pub record HasTaken (place : Layout) (edges : ℕ) (ports : List (Option ℕ)) (was : PoolView) (before : List LeaseView) (k : ℕ) (pool : PoolView) (leases : List LeaseView) : Type 0 where
  pub can : CanTake place edges pool.block.len pool.most (drop k ports) pool.out
  pub same : pool ≡ record was { out = pool.out }
  pub outs : taken place (drop k ports) pool.out ≡ taken place ports was.out
  pub behind : TakesBehind place was (take k ports) before leases

module _ (place : Layout) (edges : ℕ) (ports : List (Option ℕ)) (was : PoolView) (before : List LeaseView) (k : ℕ) (pool : PoolView) (leases : List LeaseView) (so_far : HasTaken place edges ports was before k pool leases) (inside : k < length ports) where
  rest_is : (port : Option ℕ) → get_or ports k None ≡ port → drop k ports ≡ port ∷ drop (k + 1) ports
  rest_is port is = drop-cons ports k None inside ∙ ap₂ (λ p n. p ∷ drop n ports) is (sym (add-one k))

  more_is : (port : Option ℕ) → get_or ports k None ≡ port → take (k + 1) ports ≡ take k ports ++ port ∷ []
  more_is port is = ap (λ n. take n ports) (add-one k) ∙ take-suc ports k None inside ∙ ap (λ p. take k ports ++ p ∷ []) is

  taken_more : (port : Option ℕ) (lease : LeaseView) → get_or ports k None ≡ port → IsTaken place was port lease → TakesBehind place was (take (k + 1) ports) before (leases ++ lease ∷ [])
  taken_more port lease is one = subst (λ ps. TakesBehind place was ps before (leases ++ lease ∷ [])) (sym (more_is port is)) (TakesBehind-snoc place was (take k ports) before leases port lease so_far.behind one)

  pub can_take : (e : ℕ) → get_or ports k None ≡ Some e → (e < edges) × IsOpen (place e) pool.block.len pool.most pool.out × CanTake place edges pool.block.len pool.most (drop (k + 1) ports) (place e ∷ pool.out)
  can_take e is = subst (λ ps. CanTake place edges pool.block.len pool.most ps pool.out) (rest_is (Some e) is) so_far.can

  pub takes_none : (lease : LeaseView) → get_or ports k None ≡ None → IsWhole lease × (lease.cells ≡ []) → HasTaken place edges ports was before (k + 1) pool (leases ++ lease ∷ [])
  takes_none lease is own = record {
    can = subst (λ ps. CanTake place edges pool.block.len pool.most ps pool.out) (rest_is None is) so_far.can;
    same = so_far.same;
    outs = sym (ap (λ ps. taken place ps pool.out) (rest_is None is)) ∙ so_far.outs;
    behind = taken_more None lease is own;
  }

  pub takes_one : (e : ℕ) (lease : LeaseView) → get_or ports k None ≡ Some e → lease ≡ record { block = pool.block; start = (place e).start; cells = window (place e).start (place e).len pool.cells } → HasTaken place edges ports was before (k + 1) (record pool { out = place e ∷ pool.out }) (leases ++ lease ∷ [])
  takes_one e lease is own = record {
    can = (can_take e is).2;
    same = λ i. record (so_far.same i) { out = place e ∷ pool.out };
    outs = sym (ap (λ ps. taken place ps pool.out) (rest_is (Some e) is)) ∙ so_far.outs;
    behind = taken_more (Some e) lease is (own ∙ λ i. record { block = (so_far.same i).block; start = (place e).start; cells = window (place e).start (place e).len (so_far.same i).cells });
  }

-- before the first port, and after the last
pub takes_first : (place : Layout) (edges : ℕ) (ports : List (Option ℕ)) (pool : PoolView) (leases : List LeaseView) → CanTake place edges pool.block.len pool.most ports pool.out → HasTaken place edges ports pool leases 0 pool leases
takes_first place edges ports pool leases can = record {
  can = can;
  same = refl;
  outs = refl;
  behind = record { more = []; each = tt; all = sym (append-nil leases) };
}

pub takes_all : (place : Layout) (edges : ℕ) (ports : List (Option ℕ)) (was : PoolView) (before : List LeaseView) (k : ℕ) (pool : PoolView) (leases : List LeaseView) → length ports ≤ k → HasTaken place edges ports was before k pool leases → TakesBehind place was ports before leases × (pool ≡ record was { out = taken place ports was.out })
takes_all place edges ports was before k pool leases end so_far = (
  subst (λ ps. TakesBehind place was ps before leases) (take_all k ports end) so_far.behind,
  so_far.same ∙ ap (λ (out : List Place). record was { out = out }) (sym (ap (λ ps. taken place ps pool.out) (drop_all k ports end)) ∙ so_far.outs),
)
