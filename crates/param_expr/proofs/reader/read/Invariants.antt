use Rattle.std.proofs.Common.{◌≡◌, ◌-◌, ◌≤◌, length}
use Rattle.param_expr.specs.Machine.{outcome, tally_of, first_reader}
use Rattle.param_expr.proofs.reader.read.Given as goal

-- what is left, from where the reader is, gives what the whole text gives
abbrev pub invariant-loop-reader : goal.invariant-loop-reader
invariant-loop-reader l = record {
  outcome_is : outcome l.text l.reader ≡ outcome l.text first_reader;
  tally_is : tally_of l.text l.reader ≡ tally_of l.text first_reader;
  within : l.reader.at ≤ length l.text;
  opened : l.reader.tally.opened ≤ l.reader.at;
}

abbrev pub decreases-loop-reader : goal.decreases-loop-reader
decreases-loop-reader l = length l.text - l.reader.at
