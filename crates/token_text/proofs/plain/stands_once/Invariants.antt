use Rattle.std.proofs.Common.{◌≡◌, ◌≢◌, ◌<◌, [], ℕ, false, get_or}
use Rattle.std.specs.Str.{bytes_eq}
use Rattle.token_text.proofs.plain.stands_once.Given as goal

abbrev pub invariant-loop-other : goal.invariant-loop-other
invariant-loop-other l = (k : ℕ) → k < l.other → k ≢ l.place → bytes_eq (get_or l.names k []) l.name ≡ false
