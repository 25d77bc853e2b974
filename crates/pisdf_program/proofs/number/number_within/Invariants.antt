use Rattle.std.proofs.Common.{◌≡◌, ◌≤◌, drop}
use Rattle.std.specs.List.{list_all}
use Rattle.pisdf_program.specs.Number.{is_digit, number_on, number_of}
use Rattle.pisdf_program.proofs.number.number_within.Given as goal

-- the number of the bytes so far goes on to that of all, which are digits where those that are left are
abbrev pub invariant-loop-byte : goal.invariant-loop-byte
invariant-loop-byte l = record {
  value : number_on l.number (drop l.byte-index l.text) ≡ number_of l.text;
  digits : list_all is_digit (drop l.byte-index l.text) ≡ list_all is_digit l.text;
  small : l.number ≤ l.high;
}
