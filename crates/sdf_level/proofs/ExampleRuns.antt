-- Runs evaluated.
use Rattle.std.proofs.Common.{◌≡◌, ℕ, zero, suc, ◌+◌, List, [], ◌∷◌, Ok, Err, refl}
use Rattle.std.specs.Prelude.{slice_index_or, sum}
use Rattle.sdf_level.specs.Interfaces.{repeated, last}
use Rattle.sdf_level.specs.Run.{FireFunction, by_function}
use Rattle.sdf_level.specs.LevelRun.{RunEnds, IsLevelRun}
use Rattle.sdf_level.proofs.Computed.{ends-computed}
use Rattle.sdf_level.proofs.ExampleOrders.{doubled_order}
use Rattle.sdf_level.proofs.ExampleLevels.{pairs, doubled, thrice, cut, keep_last, cycle}

abbrev port : List (List ℕ) → ℕ → List ℕ
port ins p = slice_index_or ins p []

abbrev twice_each : List ℕ → List ℕ
twice_each [] = []
twice_each (x ∷ xs) = x ∷ x ∷ twice_each xs

-- every actor sums all that it reads at its first input
abbrev sums : FireFunction ℕ ℕ
sums a k ins = Ok ((sum (port ins 0) ∷ []) ∷ [])

-- actor 0 gives each token twice, and the other sums
abbrev double_and_sum : FireFunction ℕ ℕ
double_and_sum zero k ins = Ok (twice_each (port ins 0) ∷ [])
double_and_sum (suc a) k ins = Ok ((sum (port ins 0) ∷ []) ∷ [])

-- actor 0 adds its two inputs, and the other gives what it reads at both of its outputs
abbrev add_and_copy : FireFunction ℕ ℕ
add_and_copy zero k ins = Ok (((sum (port ins 0) + sum (port ins 1)) ∷ []) ∷ [])
add_and_copy (suc a) k ins = Ok (port ins 0 ∷ port ins 0 ∷ [])

-- the same, but that firing 1 of actor 0 meets fault 7
abbrev faults : FireFunction ℕ ℕ
faults zero zero ins = Ok (twice_each (port ins 0) ∷ [])
faults zero (suc k) ins = Err 7
faults (suc a) k ins = Err 8

pairs_run : RunEnds pairs (2 ∷ []) ((1 ∷ 2 ∷ 3 ∷ 4 ∷ []) ∷ []) ([] ∷ [] ∷ []) (by_function sums) (0 ∷ 0 ∷ []) (Ok record { outs = (3 ∷ 7 ∷ []) ∷ []; left = [] ∷ [] ∷ [] })
pairs_run = ends-computed pairs sums ((1 ∷ 2 ∷ 3 ∷ 4 ∷ []) ∷ []) (2 ∷ []) ([] ∷ [] ∷ []) (0 ∷ 0 ∷ []) (Ok record { outs = (3 ∷ 7 ∷ []) ∷ []; left = [] ∷ [] ∷ [] }) refl

-- the second actor reads 1, 1, 2 and 2, 3, 3
doubled_run : RunEnds doubled (3 ∷ 2 ∷ []) ((1 ∷ 2 ∷ 3 ∷ []) ∷ []) ([] ∷ [] ∷ [] ∷ []) (by_function double_and_sum) (0 ∷ 0 ∷ 0 ∷ 1 ∷ 1 ∷ []) (Ok record { outs = (4 ∷ 8 ∷ []) ∷ []; left = [] ∷ [] ∷ [] ∷ [] })
doubled_run = ends-computed doubled double_and_sum ((1 ∷ 2 ∷ 3 ∷ []) ∷ []) (3 ∷ 2 ∷ []) ([] ∷ [] ∷ [] ∷ []) (0 ∷ 0 ∷ 0 ∷ 1 ∷ 1 ∷ []) (Ok record { outs = (4 ∷ 8 ∷ []) ∷ []; left = [] ∷ [] ∷ [] ∷ [] }) refl

-- another admissible list comes to the same
doubled_run_mixed : RunEnds doubled (3 ∷ 2 ∷ []) ((1 ∷ 2 ∷ 3 ∷ []) ∷ []) ([] ∷ [] ∷ [] ∷ []) (by_function double_and_sum) (0 ∷ 0 ∷ 1 ∷ 0 ∷ 1 ∷ []) (Ok record { outs = (4 ∷ 8 ∷ []) ∷ []; left = [] ∷ [] ∷ [] ∷ [] })
doubled_run_mixed = ends-computed doubled double_and_sum ((1 ∷ 2 ∷ 3 ∷ []) ∷ []) (3 ∷ 2 ∷ []) ([] ∷ [] ∷ [] ∷ []) (0 ∷ 0 ∷ 1 ∷ 0 ∷ 1 ∷ []) (Ok record { outs = (4 ∷ 8 ∷ []) ∷ []; left = [] ∷ [] ∷ [] ∷ [] }) refl

-- the one token is read three times
thrice_run : RunEnds thrice (3 ∷ 1 ∷ []) ((7 ∷ []) ∷ []) ([] ∷ [] ∷ [] ∷ []) (by_function sums) (0 ∷ 0 ∷ 0 ∷ 1 ∷ []) (Ok record { outs = (21 ∷ []) ∷ []; left = [] ∷ [] ∷ [] ∷ [] })
thrice_run = ends-computed thrice sums ((7 ∷ []) ∷ []) (3 ∷ 1 ∷ []) ([] ∷ [] ∷ [] ∷ []) (0 ∷ 0 ∷ 0 ∷ 1 ∷ []) (Ok record { outs = (21 ∷ []) ∷ []; left = [] ∷ [] ∷ [] ∷ [] }) refl

-- the three tokens are read once, and then the first of them again
cut_run : RunEnds cut (2 ∷ []) ((1 ∷ 2 ∷ 3 ∷ []) ∷ []) ([] ∷ [] ∷ []) (by_function sums) (0 ∷ 0 ∷ []) (Ok record { outs = (3 ∷ 4 ∷ []) ∷ []; left = [] ∷ [] ∷ [] })
cut_run = ends-computed cut sums ((1 ∷ 2 ∷ 3 ∷ []) ∷ []) (2 ∷ []) ([] ∷ [] ∷ []) (0 ∷ 0 ∷ []) (Ok record { outs = (3 ∷ 4 ∷ []) ∷ []; left = [] ∷ [] ∷ [] }) refl

-- of four tokens written the last is kept
keep_last_run : RunEnds keep_last (4 ∷ []) ((1 ∷ 2 ∷ 3 ∷ 4 ∷ []) ∷ []) ([] ∷ [] ∷ []) (by_function sums) (0 ∷ 0 ∷ 0 ∷ 0 ∷ []) (Ok record { outs = (4 ∷ []) ∷ []; left = [] ∷ [] ∷ [] })
keep_last_run = ends-computed keep_last sums ((1 ∷ 2 ∷ 3 ∷ 4 ∷ []) ∷ []) (4 ∷ []) ([] ∷ [] ∷ []) (0 ∷ 0 ∷ 0 ∷ 0 ∷ []) (Ok record { outs = (4 ∷ []) ∷ []; left = [] ∷ [] ∷ [] }) refl

-- the sum so far is kept on the link back
cycle_run : RunEnds (cycle 1) (1 ∷ 1 ∷ []) ((1 ∷ []) ∷ []) ([] ∷ [] ∷ [] ∷ (0 ∷ []) ∷ []) (by_function add_and_copy) (0 ∷ 1 ∷ []) (Ok record { outs = (1 ∷ []) ∷ []; left = [] ∷ [] ∷ [] ∷ (1 ∷ []) ∷ [] })
cycle_run = ends-computed (cycle 1) add_and_copy ((1 ∷ []) ∷ []) (1 ∷ 1 ∷ []) ([] ∷ [] ∷ [] ∷ (0 ∷ []) ∷ []) (0 ∷ 1 ∷ []) (Ok record { outs = (1 ∷ []) ∷ []; left = [] ∷ [] ∷ [] ∷ (1 ∷ []) ∷ [] }) refl

cycle_run_again : RunEnds (cycle 1) (1 ∷ 1 ∷ []) ((2 ∷ []) ∷ []) ([] ∷ [] ∷ [] ∷ (1 ∷ []) ∷ []) (by_function add_and_copy) (0 ∷ 1 ∷ []) (Ok record { outs = (3 ∷ []) ∷ []; left = [] ∷ [] ∷ [] ∷ (3 ∷ []) ∷ [] })
cycle_run_again = ends-computed (cycle 1) add_and_copy ((2 ∷ []) ∷ []) (1 ∷ 1 ∷ []) ([] ∷ [] ∷ [] ∷ (1 ∷ []) ∷ []) (0 ∷ 1 ∷ []) (Ok record { outs = (3 ∷ []) ∷ []; left = [] ∷ [] ∷ [] ∷ (3 ∷ []) ∷ [] }) refl

-- the first fault ends the run
doubled_fault : RunEnds doubled (3 ∷ 2 ∷ []) ((1 ∷ 2 ∷ 3 ∷ []) ∷ []) ([] ∷ [] ∷ [] ∷ []) (by_function faults) (0 ∷ 0 ∷ 0 ∷ 1 ∷ 1 ∷ []) (Err 7)
doubled_fault = ends-computed doubled faults ((1 ∷ 2 ∷ 3 ∷ []) ∷ []) (3 ∷ 2 ∷ []) ([] ∷ [] ∷ [] ∷ []) (0 ∷ 0 ∷ 0 ∷ 1 ∷ 1 ∷ []) (Err 7) refl

repeated_past_the_end : repeated {T = ℕ} (5 ∷ 6 ∷ 7 ∷ []) 2 5 ≡ 7 ∷ 5 ∷ 6 ∷ 7 ∷ 5 ∷ []
repeated_past_the_end = refl

last_of_none : last {T = ℕ} 0 (1 ∷ 2 ∷ []) ≡ []
last_of_none = refl

-- the run of one thread
doubled_level_run : IsLevelRun doubled (3 ∷ 2 ∷ []) ((1 ∷ 2 ∷ 3 ∷ []) ∷ []) ([] ∷ [] ∷ [] ∷ []) (by_function double_and_sum) (Ok record { outs = (4 ∷ 8 ∷ []) ∷ []; left = [] ∷ [] ∷ [] ∷ [] })
doubled_level_run = record { list = 0 ∷ 0 ∷ 0 ∷ 1 ∷ 1 ∷ []; order = doubled_order; ends = doubled_run }
