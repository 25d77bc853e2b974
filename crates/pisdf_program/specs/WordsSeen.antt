-- A command as it stands in the program, as plain data.
use Rattle.std.specs.Prelude.{ℕ, ◌≤◌}
use Rattle.pisdf_program.specs.declared.words.Command.{Command}
use Rattle.pisdf_program.specs.declared.words.Command.TheVariants as here
use Rattle.pisdf_program.specs.Words as words
use Rattle.pisdf_program.specs.Words.{greatest_number, most_times, most_workers}

abbrev pub seen : Command → words.Command
seen (here.Run graph tokens iterations workers) = words.Run graph.now tokens.now iterations workers
seen (here.Plain graph tokens iterations) = words.Plain graph.now tokens.now iterations
seen (here.Unfold times graph tokens iterations workers) = words.Unfold times graph.now tokens.now iterations workers
seen (here.Job what graph tokens workers) = words.Job what graph.now tokens.now workers
seen (here.Journal graph tokens iterations workers) = words.Journal graph.now tokens.now iterations workers
seen (here.Audit graph tokens iterations workers journal) = words.Audit graph.now tokens.now iterations workers journal.now
seen (here.Soak number workers) = words.Soak number workers
seen (here.Upgrade graph) = words.Upgrade graph.now

abbrev pub AreSome : ℕ → Type 0
AreSome workers = (1 ≤ workers) × (workers ≤ most_workers)

abbrev pub AreTimes : ℕ → Type 0
AreTimes times = (1 ≤ times) × (times ≤ most_times)

-- a run has 1 to the most workers, an unfolded one 1 to the most iterations fired as one, and a soak run no greater number than the
-- greatest
abbrev pub IsWithin : Command → Type 0
IsWithin (here.Run graph tokens iterations workers) = AreSome workers
IsWithin (here.Plain graph tokens iterations) = Unit {0}
IsWithin (here.Unfold times graph tokens iterations workers) = AreTimes times × AreSome workers
IsWithin (here.Job what graph tokens workers) = AreSome workers
IsWithin (here.Journal graph tokens iterations workers) = AreSome workers
IsWithin (here.Audit graph tokens iterations workers journal) = AreSome workers
IsWithin (here.Soak number workers) = (number ≤ greatest_number) × AreSome workers
IsWithin (here.Upgrade graph) = Unit {0}
