-- What a clause sees of a pool.
use Rattle.std.specs.Prelude.{refl, ℕ, ℤ, List, length}
use Rattle.std.specs.Coded.{Coded, code_by, coded×, coded_list, coded_ℕ, coded_ℤ}
use Rattle.split_block.specs.View.{Block, block_code, LeaseView}
use Rattle.split_block.specs.Places.{Place, place_code}

-- its block, what the cells hold, the places of its leases out, and how many of these there may be.
-- A cell of a place that is out has what it held when it went out.
pub record PoolView : Type 0 where
  pub block : Block
  pub cells : List ℤ
  pub out : List Place
  pub most : ℕ

-- it is stored as the tuple of its fields
abbrev pub pool_code : Coded PoolView
pool_code =
    code_by (Block × (List ℤ × (List Place × ℕ))) (coded× block_code (coded× (coded_list coded_ℤ) (coded× (coded_list place_code) coded_ℕ)))
    (λ p. (p.block, (p.cells, (p.out, p.most)))) (λ p. record { block = p.0; cells = p.1.0; out = p.1.1.0; most = p.1.1.1 }) (λ _. refl)

-- where a lease lies
abbrev pub place_of : LeaseView → Place
place_of l = record { start = l.start; len = length l.cells }
