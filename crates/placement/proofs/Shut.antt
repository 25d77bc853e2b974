-- Where a buffer fits since another isn't in its way.
use Rattle.std.proofs.Common.{◌≡◌, ℕ, ◌+◌, ◌^◌, ◌<◌, ◌≤◌, ⊎_elim, List, ◌++◌, All, Any, arith}
use Rattle.std.proofs.lemmas.Bool.{cases_lt}
use Rattle.std.proofs.lemmas.List.Elements.{All-append}
use Rattle.placement.specs.Placing.{Blocks, IsFound, IsShut, IsLeast}
use Rattle.placement.specs.declared.gap.Placed.{Placed}

-- what holds of all holds of the last one
pub last_holds : (P : Placed → Type 0) (placed : List Placed) (last : Placed) → All P placed → Any (λ (p : Placed). p ≡ last) placed → P last
last_holds P placed last all there = rw there.4 at (rw there.3 at (all there.0 there.1 there.2))

-- the last one ends low enough for another of the size, as all do
pub last_room : (small large : List Placed) (size : ℕ) (last : Placed) → All (λ (p : Placed). p.end + size < 2 ^ 32) small → All (λ (p : Placed). p.end + size < 2 ^ 32) large → Any (λ (p : Placed). p ≡ last) (small ++ large) → last.end + size < 2 ^ 32
last_room small large size last small_room large_room there = last_holds (λ (p : Placed). p.end + size < 2 ^ 32) (small ++ large) last (All-append (λ (p : Placed). p.end + size < 2 ^ 32) small large small_room large_room) there

module _ (Others : ℕ → Type 0) (size : ℕ) (placed : List Placed) where
  -- below a lower offset too
  pub shut_lower : (first end offset lower : ℕ) → lower ≤ offset → IsShut Others size placed first end offset → IsShut Others size placed first end lower
  shut_lower first end offset lower low shut at below inside reaches = shut at (omega arith) inside reaches

  -- none is free below the start, and the search from there on found this one
  pub least_from_found : (start offset : ℕ) → 1 ≤ size → ((lower : ℕ) → lower < start → Any (Blocks Others size lower) placed) → IsFound Others size placed start 4294967295 offset → IsLeast Others size placed offset
  least_from_found start offset filled below found = record {
    free = found.free (let room = found.room in omega arith);
    least = λ lower under. ⊎_elim
        (λ (early : lower < start). below lower early)
        (λ (later : start ≤ lower). found.blocked lower later under)
        (cases_lt lower start);
    room = found.room;
  }
