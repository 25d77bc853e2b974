use Rattle.std.proofs.lemmas.List.{take_rest}
use Rattle.std.proofs.lemmas.Result.{err_from_is_err_and}
use Rattle.param_expr.proofs.Turning.{space_turns, token_turns, token_stops}
use Rattle.param_expr.proofs.reader.Reader.turn.Goals as goal

pub returns-then-bytes-at-eq32 : goal.returns-then-bytes-at-eq32
returns-then-bytes-at-eq32 c = space_turns c.args.bytes.now c.args.self 0 c.requires.more c.if-bytes-at-eq32.true

pub returns-in_err-state : goal.returns-in_err-state
returns-in_err-state c =
    let p = err_from_is_err_and c.from_residual-in_err-state.result c.from_residual-in_err-state.ensures.1 in
    rw (p.1, p.2) (token_stops c.args.bytes.now c.args.self 0 _ (take_rest c.args.bytes.now c.args.self.at) c.in_ok-symbol.symbol c.in_err-state.field-0.0 c.requires.more c.if-bytes-at-eq32.false c.in_ok-symbol.ensures.symbol c.in_err-state.ensures)

pub returns : goal.returns
returns c = token_turns c.args.bytes.now c.args.self 0 _ (take_rest c.args.bytes.now c.args.self.at) c.in_ok-symbol.symbol c.in_ok-symbol.length c.after-tally.result c.in_ok-state.state c.requires.more c.if-bytes-at-eq32.false c.in_ok-symbol.ensures.symbol c.in_ok-symbol.ensures.length c.after-tally.ensures c.in_ok-state.ensures
