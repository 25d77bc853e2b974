use Rattle.std.proofs.Common.{◌≡◌, [], slice_index}
use Rattle.std.proofs.lemmas.List.Elements.{All-from_recursion}
use Rattle.worker_mapping.specs.declared.entry.Entry.{Entry}
use Rattle.worker_mapping.specs.Graph.{graph_of}
use Rattle.worker_mapping.proofs.Homes.{nodes-there}
use Rattle.worker_mapping.proofs.Priorities.{IsPriority-unique}
use Rattle.worker_mapping.proofs.Unique.{IsSchedule-unique, AreHomes-unique}
use Rattle.worker_mapping.proofs.mapping.map.Goals as goal

pub homes-requires-clause-there : goal.homes-requires-clause-there
homes-requires-clause-there c =
    rw c.items.ensures (nodes-there (graph_of c.args.nodes c.args.edges.now c.args.costs.now) c.args.workers c.in_ok-priority.field-0.priority [] c.in_ok-priority.field-0.entries c.in_ok-priority.ensures.schedule.each)

pub returns-clause-homes : goal.returns-clause-homes
returns-clause-homes c =
    rw c.new.ensures record {
      entries = c.in_ok-priority.field-0.entries;
      schedule = c.in_ok-priority.ensures.schedule;
      one_each = c.in_ok-home.ensures.long;
      each = All-from_recursion (λ (e : Entry). slice_index c.in_ok-home.home.items e.node ≡ e.worker) c.in_ok-priority.field-0.entries (rw c.items.ensures at c.in_ok-home.ensures.each);
    }

pub returns-clause-only_priority : goal.returns-clause-only_priority
returns-clause-only_priority c = λ other is.
    IsPriority-unique (graph_of c.args.nodes c.args.edges.now c.args.costs.now) c.args.ranks.now c.requires.edges c.requires.rising other c.in_ok-priority.field-0.priority is c.in_ok-priority.ensures.priority

pub returns-clause-one_schedule : goal.returns-clause-one_schedule
returns-clause-one_schedule c = IsSchedule-unique (graph_of c.args.nodes c.args.edges.now c.args.costs.now) c.args.workers c.in_ok-priority.field-0.priority

pub returns-clause-only_homes : goal.returns-clause-only_homes
returns-clause-only_homes c = λ other are.
    AreHomes-unique (graph_of c.args.nodes c.args.edges.now c.args.costs.now) c.args.workers c.in_ok-priority.field-0.priority other c.new.result are (returns-clause-homes c)
