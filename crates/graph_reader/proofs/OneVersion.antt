-- Stated numbers that are versions of the format.
use Rattle.std.proofs.Common.{◌≡◌, ℕ, ◌≤◌, ◌&&◌, Bool, true, false, cond, ℤ, pos, negsuc, Some, None, refl, arith}
use Rattle.std.specs.Prelude.{int_le, is_none, nat_le}
use Rattle.std.proofs.lemmas.Bool.Decides.{nat_tests}
use Rattle.graph_format.specs.Reads.{other_version}

none_as : (b : Bool) (z : ℤ) → b ≡ is_none (cond b None (Some z))
none_as true z = refl
none_as false z = refl

-- a number from 1 to 3 is one
pub is_one : (z : ℤ) → (int_le (pos 1) z && int_le z (pos 3)) ≡ is_none (other_version (Some z))
is_one (pos n) = none_as (nat_le 1 n && nat_le n 3) (pos n)
is_one (negsuc n) = refl

other_as : (b : Bool) (z : ℤ) → is_none (cond b None (Some z)) ≡ false → Some z ≡ cond b None (Some z)
other_as true z h = absurd cc
other_as false z h = refl

pub is_other : (z : ℤ) → is_none (other_version (Some z)) ≡ false → Some z ≡ other_version (Some z)
is_other (pos n) h = other_as (nat_le 1 n && nat_le n 3) (pos n) h
is_other (negsuc n) h = refl

no_other_as : (b : Bool) (z : ℤ) → is_none (cond b None (Some z)) ≡ true → None ≡ cond b None (Some z)
no_other_as true z h = refl
no_other_as false z h = absurd cc

pub is_no_other : (z : ℤ) → is_none (other_version (Some z)) ≡ true → None ≡ other_version (Some z)
is_no_other (pos n) h = no_other_as (nat_le 1 n && nat_le n 3) (pos n) h
is_no_other (negsuc n) h = absurd cc

within : (n : ℕ) (b : Bool) → (nat_le 1 n && nat_le n 3) ≡ b → cond b None (Some (pos n)) ≡ None → (1 ≤ n) × (n ≤ 3)
within n true is h = (grind (arith, nat_tests, is), grind (arith, nat_tests, is))
within n false is h = absurd cc

-- where no other version is stated, the number is from 1 to 3
pub record IsVersion (z : ℤ) : Type 0 where
  pub number : ℕ
  pub is : z ≡ pos number
  pub low : 1 ≤ number
  pub high : number ≤ 3

pub one_of : (z : ℤ) → other_version (Some z) ≡ None → IsVersion z
one_of (pos n) h = let both = within n (nat_le 1 n && nat_le n 3) refl h in record { number = n; is = refl; low = both.0; high = both.1 }
one_of (negsuc n) h = absurd cc
