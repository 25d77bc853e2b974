-- What the faults of the steps are to a schedule.
use Rattle.balance_solver.specs.declared.unsolved.Unsolved.{Unsolved}
use Rattle.interface_rules.specs.declared.fault.InterfaceFault.{InterfaceFault}
use Rattle.firing_order.specs.declared.stuck.Stuck.{Stuck}
use Rattle.level_schedule.specs.declared.unscheduled.Unscheduled.{Unscheduled}
use Rattle.balance_solver.specs.declared.unsolved.Unsolved.TheVariants as unsolved
use Rattle.interface_rules.specs.declared.fault.InterfaceFault.TheVariants as interface
use Rattle.firing_order.specs.declared.stuck.Stuck.TheVariants as stuck
use Rattle.level_schedule.specs.declared.unscheduled.Unscheduled.TheVariants.{Rates, Deadlock, Memory}

abbrev pub of_unsolved : Unsolved → Unscheduled
of_unsolved unsolved.NoVector = Rates
of_unsolved unsolved.Memory = Memory

abbrev pub of_mismatch : InterfaceFault → Unscheduled
of_mismatch (interface.Mismatch link) = Rates
of_mismatch interface.Memory = Memory

abbrev pub of_stuck : Stuck → Unscheduled
of_stuck (stuck.Left left) = Deadlock left
of_stuck stuck.Memory = Memory
