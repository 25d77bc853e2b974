-- What a load from a shelf does, and what its answers show.
use Rattle.std.specs.Prelude.{◌≡◌, ◌≢◌, ℕ, ◌<◌, ◌≤◌, List, length, Option, Some, Result, Err, IfOk, OnOk, Vec}
use Rattle.std.specs.declared.alloc.Global.{Global}
use Rattle.outer_world.specs.declared.shelf.LoadFault.{LoadFault}
use Rattle.outer_world.specs.declared.shelf.LoadFault.TheVariants.{Failed, TooLong}
use Rattle.outer_world.specs.Faults.{Rose}

-- a load of `name`: `held` and `holds` are the contents told by name, before and after, and `before` and `now` the counts of faults by name
pub record Loads (held holds : List ℕ → Option (List ℕ)) (before now : List ℕ → ℕ) (name : List ℕ) (most : ℕ) (result : Result (Vec ℕ Global) LoadFault) : Type 0 where
  pub keeps_contents : (other : List ℕ) → holds other ≡ held other
  pub never_falls : before name ≤ now name
  pub no_other_count : (other : List ℕ) → other ≢ name → now other ≡ before other
  pub at_most : IfOk result (λ bytes. length bytes.items ≤ most)
  pub as_told : (told : List ℕ) → held name ≡ Some told → IfOk result (λ bytes. bytes.items ≡ told)
  pub failed : result ≡ Err Failed → Rose (before name) (now name)
  pub only_too_long : (told : List ℕ) → held name ≡ Some told → result ≡ Err TooLong → most < length told
  pub too_long : (told : List ℕ) → held name ≡ Some told → most < length told → OnOk result ⊥
