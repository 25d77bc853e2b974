-- Why an iteration isn't done, and how its run ends so.
use Rattle.pisdf_meaning.specs.declared.refusal.PlainFault.{PlainFault}
use Rattle.pisdf_meaning.specs.declared.refusal.PlainFault.TheVariants as plain
use Rattle.quiescent_driver.specs.declared.fault.IterationFault.{IterationFault}
use Rattle.quiescent_driver.specs.declared.fault.IterationFault.TheVariants as workers
use Rattle.quiescent_driver.specs.declared.end.RunEnd.{RunEnd}
use Rattle.quiescent_driver.specs.declared.end.RunEnd.TheVariants as end
use Rattle.quiescent_driver.specs.declared.stop.Stop.{Stop}
use Rattle.quiescent_driver.specs.declared.stop.Stop.TheVariants as stop
use Rattle.quiescent_driver.specs.declared.streams.Lack.{Lack}

-- a stream lacks tokens
abbrev pub short_stop : Lack → Stop
short_stop lack = stop.Short lack.stream lack.has lack.needs

-- one thread gets nothing from it
abbrev pub refused_stop : PlainFault → Stop
refused_stop (plain.Refused refusal) = stop.Refused refusal
refused_stop plain.Memory = stop.Memory

-- workers get nothing from it
abbrev pub workers_stop : IterationFault → Stop
workers_stop (workers.Refused refusal journal) = stop.Refused refusal
workers_stop workers.Memory = stop.Memory

-- the end of its run
abbrev pub run_end : Stop → RunEnd
run_end (stop.Short stream held needs) = end.Short stream held needs
run_end (stop.Refused refusal) = end.Refused refusal
run_end stop.Memory = end.Memory
