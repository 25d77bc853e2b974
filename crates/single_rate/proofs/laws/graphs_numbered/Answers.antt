use Rattle.std.proofs.Common.{◌<◌, length}
use Rattle.std.proofs.lemmas.List.Elements.{All-from_recursion}
use Rattle.single_rate.specs.Wires.{wires}
use Rattle.single_rate.specs.Expanded.{nodes, edges}
use Rattle.single_rate.proofs.Once.{nodes-once}
use Rattle.single_rate.proofs.Turns.{found-at, firings-there, firing-stands, firings-all, have-tiers}
use Rattle.single_rate.proofs.Forward.{ends-below}
use Rattle.single_rate.proofs.Sizes.{wires-some, edges-some}
use Rattle.single_rate.proofs.NamesLengths.{names-lengths}
use Rattle.single_rate.proofs.PortsAll.{edges-have-ports}
use Rattle.single_rate.proofs.PortsUsed.{ports-used}
use Rattle.single_rate.proofs.laws.graphs_numbered.Goals as goal

pub returns-clause-found : goal.returns-clause-found
returns-clause-found c = found-at

pub returns-clause-once : goal.returns-clause-once
returns-clause-once c = λ level q turns n order inside. nodes-once level q turns order n inside

pub returns-clause-firings : goal.returns-clause-firings
returns-clause-firings c = λ level q turns a k order within. firings-there level q turns order a k within

pub returns-clause-in_order : goal.returns-clause-in_order
returns-clause-in_order c = λ level q turns before after b order is. firing-stands level q turns order before after b is

pub returns-clause-all : goal.returns-clause-all
returns-clause-all c = λ level q turns n order is. firings-all level q turns order n is

pub returns-clause-tiers : goal.returns-clause-tiers
returns-clause-tiers c = λ level q turns sound order. have-tiers level q turns order sound

pub returns-clause-ends : goal.returns-clause-ends
returns-clause-ends c = λ level q turns sound order. All-from_recursion (λ e. (e.tail < length (nodes level q turns)) × (e.head < length (nodes level q turns))) (edges level q turns) (ends-below level q turns sound order)

pub returns-clause-tokens : goal.returns-clause-tokens
returns-clause-tokens c = λ level q turns sound repetition.
    let suffices = c.repetition_suffices.ensures level q sound repetition in
    edges-some (nodes level q turns) (wires level q) (wires-some level q 0 level.links suffices.balanced suffices.reaches repetition.agree).0

pub returns-clause-names : goal.returns-clause-names
returns-clause-names c = λ level q sound. names-lengths level sound q

pub returns-clause-ports : goal.returns-clause-ports
returns-clause-ports c = λ level q turns n sound order inside. edges-have-ports level q turns sound order n inside

pub returns-clause-used : goal.returns-clause-used
returns-clause-used c = λ level q turns n sound repetition order inside. ports-used level q turns sound order (c.repetition_suffices.ensures level q sound repetition).balanced n inside
