use Rattle.std.proofs.Common.{◌∙◌}
use Rattle.pisdf_program.specs.declared.status.Which.TheVariants.{Graph, Tokens}
use Rattle.pisdf_program.proofs.Working.{both_give, graph_refuses, rose_graph, rose_tokens, stops_reading, tokens_refuse}
use Rattle.pisdf_program.proofs.load.load_input.Goals as goal

pub returns-in-Err-clause-settles : goal.returns-in-Err-clause-settles
returns-in-Err-clause-settles g c =
    let files = g.S.Shelf.holds c.args.shelf.now in
    graph_refuses (files c.args.graph.now) (files c.args.tokens.now) c.in-Err.status c.in-Err.ensures.settles

pub returns-in-Err-clause-stops : goal.returns-in-Err-clause-stops
returns-in-Err-clause-stops g c =
    stops_reading Graph (g.S.Shelf.faults c.args.shelf.now c.args.graph.now) (g.S.Shelf.faults c.load_graphs.new.shelf c.args.graph.now) c.in-Err.status c.in-Err.ensures.faults

pub returns-in-Err-clause-rose : goal.returns-in-Err-clause-rose
returns-in-Err-clause-rose g c =
    rose_graph c.args.graph.now c.args.tokens.now (g.S.Shelf.faults c.args.shelf.now) (g.S.Shelf.faults c.load_graphs.new.shelf) c.in-Err.status c.in-Err.ensures.faults

pub returns-in-Err-load_streams-clause-settles : goal.returns-in-Err-load_streams-clause-settles
returns-in-Err-load_streams-clause-settles g c =
    let files = g.S.Shelf.holds c.args.shelf.now in
    tokens_refuse (files c.args.graph.now) (files c.args.tokens.now) c.in-Ok.graphs c.in-Err-load_streams.status c.in-Ok.ensures.settles
    (λ told e a. c.in-Err-load_streams.ensures.settles told (c.in-Ok.ensures.contents c.args.tokens.now ∙ e) a)

pub returns-in-Err-load_streams-clause-stops : goal.returns-in-Err-load_streams-clause-stops
returns-in-Err-load_streams-clause-stops g c =
    stops_reading Tokens (g.S.Shelf.faults c.load_graphs.new.shelf c.args.tokens.now) (g.S.Shelf.faults c.load_streams.new.shelf c.args.tokens.now) c.in-Err-load_streams.status c.in-Err-load_streams.ensures.faults

pub returns-in-Err-load_streams-clause-rose : goal.returns-in-Err-load_streams-clause-rose
returns-in-Err-load_streams-clause-rose g c =
    rose_tokens c.args.graph.now c.args.tokens.now (g.S.Shelf.faults c.args.shelf.now) (g.S.Shelf.faults c.load_graphs.new.shelf) (g.S.Shelf.faults c.load_streams.new.shelf)
    c.in-Err-load_streams.status (c.in-Ok.ensures.never_falls c.args.tokens.now) c.in-Err-load_streams.ensures.faults

pub returns-in-Ok-load_streams-clause-settles : goal.returns-in-Ok-load_streams-clause-settles
returns-in-Ok-load_streams-clause-settles g c =
    let files = g.S.Shelf.holds c.args.shelf.now in
    both_give (files c.args.graph.now) (files c.args.tokens.now) record { graphs = c.in-Ok.graphs; streams = c.in-Ok-load_streams.streams } c.in-Ok.ensures.settles
    (λ told e. c.in-Ok-load_streams.ensures.settles told (c.in-Ok.ensures.contents c.args.tokens.now ∙ e))
