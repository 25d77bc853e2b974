-- Cells that leave a pool for the ports of a node, and come back to it. A port is the number of the edge whose buffer it has, or
-- none where it has no tokens.
use Rattle.std.specs.Prelude.{◌≡◌, ℕ, ℤ, ◌+◌, ◌<◌, ◌≤◌, Option, Some, None, Bool, true, false, List, [], ◌∷◌, length, ◌++◌, if◌then◌else◌, ◌==◌}
use Rattle.split_block.specs.Places.{Place, Clear, has, without, window, write}
use Rattle.split_block.specs.View.{LeaseView, IsWhole}
use Rattle.cell_pool.specs.View.{PoolView, place_of}

-- where the buffer of each edge lies
abbrev pub Layout : Type 0
Layout = ℕ → Place

-- the places out, with those of the ports
abbrev pub taken : Layout → List (Option ℕ) → List Place → List Place
taken place [] out = out
taken place (None ∷ ports) out = taken place ports out
taken place (Some e ∷ ports) out = taken place ports (place e ∷ out)

-- a place can be taken beside those that are out
pub record IsOpen (p : Place) (cells most : ℕ) (out : List Place) : Type 0 where
  pub some : 1 ≤ p.len
  pub within : p.start + p.len ≤ cells
  pub clear : Clear p out
  pub few : length out < most

-- the places of the ports can be taken one after the other
abbrev pub CanTake : Layout → ℕ → ℕ → ℕ → List (Option ℕ) → List Place → Type 0
CanTake place edges cells most [] out = Unit {0}
CanTake place edges cells most (None ∷ ports) out = CanTake place edges cells most ports out
CanTake place edges cells most (Some e ∷ ports) out = (e < edges) × IsOpen (place e) cells most out × CanTake place edges cells most ports (place e ∷ out)

-- the lease of a port: the cells of its edge's buffer, or an empty block of its own
abbrev pub IsTaken : Layout → PoolView → Option ℕ → LeaseView → Type 0
IsTaken place pool None lease = IsWhole lease × (lease.cells ≡ [])
IsTaken place pool (Some e) lease = lease ≡ record { block = pool.block; start = (place e).start; cells = window (place e).start (place e).len pool.cells }

-- of each port with its lease: as many leases as ports
abbrev pub EachTaken : Layout → PoolView → List (Option ℕ) → List LeaseView → Type 0
EachTaken place pool [] [] = Unit {0}
EachTaken place pool [] (lease ∷ leases) = ⊥
EachTaken place pool (port ∷ ports) [] = ⊥
EachTaken place pool (port ∷ ports) (lease ∷ leases) = IsTaken place pool port lease × EachTaken place pool ports leases

-- behind the leases that are there stand those of the ports
pub record TakesBehind (place : Layout) (pool : PoolView) (ports : List (Option ℕ)) (old new : List LeaseView) : Type 0 where
  pub more : List LeaseView
  pub each : EachTaken place pool ports more
  pub all : new ≡ old ++ more

-- a pool with the cells of a lease, which has any, taken back
abbrev pub with_lease : LeaseView → PoolView → PoolView
with_lease lease pool = if length lease.cells == 0 then pool else record pool { cells = write lease.start lease.cells pool.cells; out = without (place_of lease) pool.out }

-- the same for each of these, the last one first
abbrev pub with_leases : List LeaseView → PoolView → PoolView
with_leases [] pool = pool
with_leases (lease ∷ leases) pool = with_lease lease (with_leases leases pool)

-- a lease with cells is out of this pool, and an empty one is a block of its own
pub record IsDue (lease : LeaseView) (pool : PoolView) : Type 0 where
  pub own : length lease.cells ≡ 0 → IsWhole lease
  pub block : 0 < length lease.cells → lease.block ≡ pool.block
  pub out : 0 < length lease.cells → has (place_of lease) pool.out ≡ true

abbrev pub AreDue : List LeaseView → PoolView → Type 0
AreDue [] pool = Unit {0}
AreDue (lease ∷ leases) pool = AreDue leases pool × IsDue lease (with_leases leases pool)

-- one lease, which is a block of its own
abbrev pub IsOne : List LeaseView → Type 0
IsOne leases = (lease : LeaseView) × (leases ≡ lease ∷ []) × IsWhole lease

-- the tokens that are stored, in a block of their own
abbrev pub IsStored : Bool → List ℤ → List LeaseView → Type 0
IsStored true tokens own = (lease : LeaseView) × (own ≡ lease ∷ []) × IsWhole lease × (lease.cells ≡ tokens)
IsStored false tokens own = own ≡ []

-- as many leases
abbrev pub own : Bool → ℕ
own stored = if stored then 1 else 0
