-- What a clause sees of a lease.
use Rattle.std.specs.Prelude.{◌≡◌, refl, ℕ, ℤ, ◌+◌, ◌<◌, Bool, false, List, ◌++◌, length, take, drop, Option, MatchOption}
use Rattle.std.specs.Coded.{Coded, code_by, coded×, coded_list, coded_ℕ, coded_ℤ, coded_bool}
use denote.RawPtr.{Ptr, coded_ptr}
use Rattle.split_block.specs.Ownership.{Extent}

-- a block: where its cells begin, how many there are, and whether they are a pool's
pub record Block : Type 0 where
  pub ptr : Ptr
  pub len : ℕ
  pub pooled : Bool

-- it is stored as the tuple of its fields
abbrev pub block_code : Coded Block
block_code = code_by (Ptr × (ℕ × Bool)) (coded× coded_ptr (coded× coded_ℕ coded_bool)) (λ b. (b.ptr, (b.len, b.pooled))) (λ p. record { ptr = p.0; len = p.1.0; pooled = p.1.1 }) (λ _. refl)

-- the cells of a block from a start on
pub record LeaseView : Type 0 where
  pub block : Block
  pub start : ℕ
  pub cells : List ℤ

-- it is stored as the tuple of its fields
abbrev pub lease_code : Coded LeaseView
lease_code =
    code_by (Block × (ℕ × List ℤ)) (coded× block_code (coded× coded_ℕ (coded_list coded_ℤ)))
    (λ l. (l.block, (l.start, l.cells))) (λ p. record { block = p.0; start = p.1.0; cells = p.1.1 }) (λ _. refl)

-- where a lease lies
pub record LeasePlace : Type 0 where
  pub block : Block
  pub start : ℕ
  pub len : ℕ

abbrev pub lease_place : LeaseView → LeasePlace
lease_place l = record { block = l.block; start = l.start; len = length l.cells }

abbrev pub cells_of : LeaseView → List ℤ
cells_of l = l.cells

-- the place is a whole block, which is no pool's
abbrev pub IsWholePlace : LeasePlace → Type 0
IsWholePlace p = (p.block.pooled ≡ false) × (p.start ≡ 0) × (p.len ≡ p.block.len)

-- the lease is its whole block, which is no pool's
abbrev pub IsWhole : LeaseView → Type 0
IsWhole l = IsWholePlace (lease_place l)

-- the second lease begins where the first ends
abbrev pub Follows : LeaseView → LeaseView → Type 0
Follows l r = (r.block ≡ l.block) × (r.start ≡ l.start + length l.cells)

-- a list that keeps its length whatever is written: cut, or filled up from what was there
abbrev pub refit : List ℤ → List ℤ → List ℤ
refit old w = take (length old) (w ++ drop (length w) old)

-- the lease with cells written over its own
abbrev pub with_cells : LeaseView → List ℤ → LeaseView
with_cells l w = record l { cells = refit l.cells w }

-- What makes a block a Vec again is with the lease that starts at 0 and has a cell, and with none where the block is a pool's.
abbrev pub HasHome : Option Extent → LeaseView → Type 0
HasHome home l = MatchOption home
    (l.block.pooled ≡ false → l.start ≡ 0 → length l.cells ≡ 0)
    (λ s. (l.block.pooled ≡ false) × (s.ptr ≡ l.block.ptr) × (s.len ≡ l.block.len) × (l.start ≡ 0) × (0 < length l.cells))
