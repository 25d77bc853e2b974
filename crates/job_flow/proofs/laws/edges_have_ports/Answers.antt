use Rattle.job_flow.proofs.Slots.{have-ports, port-used, edge-arrives, node-once}
use Rattle.job_flow.proofs.laws.edges_have_ports.Goals as goal

pub returns-clause-ports : goal.returns-clause-ports
returns-clause-ports g c = λ q turns job is. have-ports c.graph_laws.ensures c.tokens_delivered.ensures.one_flow q turns job is

pub returns-clause-arrive : goal.returns-clause-arrive
returns-clause-arrive g c = λ q turns job tokens i is long h. edge-arrives c.graph_laws.ensures c.tokens_delivered.ensures.one_flow q turns job is tokens i long h

pub returns-clause-once : goal.returns-clause-once
returns-clause-once g c = λ q turns job n is inside. node-once c.graph_laws.ensures c.tokens_delivered.ensures.one_flow q turns job is n inside

pub returns-clause-used : goal.returns-clause-used
returns-clause-used g c = λ q turns job n p is inside no_end no_sink some. port-used c.graph_laws.ensures c.tokens_delivered.ensures.one_flow q turns job is n p inside no_end no_sink some
