-- The fields of a pool.
use Rattle.std.specs.Prelude.{◌≡◌, ℕ, ◌+◌, ◌*◌, ◌^◌, ◌<◌, ◌≤◌, true, List, [], ◌∷◌, length, MatchOption}
use Rattle.split_block.specs.Places.{Place, AllApart}
use Rattle.cell_pool.specs.View.{PoolView}
use Rattle.cell_pool.specs.declared.pool.Pool.TheInside.{Inside}

abbrev pub view_of : Inside → PoolView
view_of p = record { block = record { ptr = p.base; len = p.size; pooled = true }; cells = p.free.cells; out = p.free.out; most = p.most }

-- each place has a cell and lies in the block
abbrev pub EachWithin : ℕ → List Place → Type 0
EachWithin size [] = Unit {0}
EachWithin size (q ∷ qs) = (0 < q.len) × (q.start + q.len ≤ size) × EachWithin size qs

pub record IsPooled (p : Inside) : Type 0 where
  pub ptr : 0 < p.size → p.free.ptr ≡ p.base
  pub len : length p.free.cells ≡ p.size
  pub small : p.size * 8 < 2 ^ 63
  pub apart : AllApart p.free.out
  pub within : EachWithin p.size p.free.out
  pub home : MatchOption p.home (p.size ≡ 0) (λ s. (s.ptr ≡ p.base) × (s.len ≡ p.size) × (0 < p.size))
