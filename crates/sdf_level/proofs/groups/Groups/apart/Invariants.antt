use Rattle.std.proofs.Common.{◌≡◌, ℕ, ◌<◌, [], ◌∷◌, length, slice_index, slice_index_or}
use Rattle.sdf_level.specs.Lists.{lists_of}
use Rattle.sdf_level.proofs.groups.Groups.apart.Given as goal

-- each actor so far is alone
abbrev pub invariant-loop-actor : goal.invariant-loop-actor
invariant-loop-actor l = record {
  long : length l.number.items ≡ l.actor;
  own : (a : ℕ) → a < l.actor → slice_index l.number.items a ≡ a;
  lists : length (lists_of l.lists.items) ≡ l.actor;
  alone : (g : ℕ) → g < l.actor → slice_index_or (lists_of l.lists.items) g [] ≡ g ∷ [];
}
