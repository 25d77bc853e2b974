-- Counts of faults.
use Rattle.std.specs.Prelude.{◌≡◌, ℕ, ◌+◌, ◌-◌, ◌^◌, ◌<◌, ◌≤◌, ◌⊎◌, min}

-- the last value of a u64, 18,446,744,073,709,551,615, at which a count stands
abbrev pub last_count : ℕ
last_count = 2 ^ 64 - 1

-- a count of faults rose: it is greater than before, or stands at its last value
abbrev pub Rose : ℕ → ℕ → Type 0
Rose before now = (before < now) ⊎ (now ≡ last_count)

-- one more, or the last value
abbrev pub one_more : ℕ → ℕ
one_more count = min (count + 1) last_count

-- a count after one more fault
pub record RisesByOne (before now : ℕ) : Type 0 where
  pub value : now ≡ one_more before
  pub rose : Rose before now
  pub never_falls : before ≤ now
