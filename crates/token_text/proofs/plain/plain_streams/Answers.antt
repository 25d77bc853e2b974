use Rattle.std.proofs.Common.{◌≡◌, ◌++◌, Ok, length, map, take, drop, sym, ap, ◌∙◌, arith}
use Rattle.std.proofs.Math.Seq.{take-append_seam}
use Rattle.token_text.specs.Streams.{tokens_named}
use Rattle.token_text.proofs.PlainRows.{plain_end, plain_further, plain_more, plain_start}
use Rattle.token_text.proofs.StreamFacts.{first_fault-none}
use Rattle.token_text.proofs.plain.plain_streams.Goals as goal

pub rows-init : goal.rows-init
rows-init c = plain_start c.args.bytes.now c.args.names.now c.in_ok-streams.streams.items c.if-may_be_marked.ensures c.in_ok-streams.ensures (first_fault-none c.args.names.now)

pub rows-preserved : goal.rows-preserved
rows-preserved c =
    let inv = c.rows.invariant in
    let given : c.deref_mut.result.now ≡ map (tokens_named inv.before) c.args.names.now = rw c.deref_mut.ensures.value inv.given in
    let taken = rw c.in-Some.is at (c.in_ok-end.ensures.taken inv.before given) in
    let within = rw c.in-Some.is at c.in_ok-end.ensures.within in
    let len : c.rows.streams.len ≡ length c.take_plain_row.new.streams = omega (arith, c.rows.streams.ok.0) in
    let back : take c.rows.streams.len (c.take_plain_row.new.streams ++ drop (length c.take_plain_row.new.streams) c.rows.streams.items) ≡ c.take_plain_row.new.streams =
    rw len (take-append_seam c.take_plain_row.new.streams (drop (length c.take_plain_row.new.streams) c.rows.streams.items)) in
    rw back (plain_more c.args.bytes.now c.args.names.now c.rows.at c.past_line_ends-from.result c.in-Some.end c.rows.streams.items c.take_plain_row.new.streams inv c.past_line_ends-from.ensures.same taken within)

pub rows-smaller : goal.rows-smaller
rows-smaller c =
    let inv = c.rows.invariant in
    let given : c.deref_mut.result.now ≡ map (tokens_named inv.before) c.args.names.now = rw c.deref_mut.ensures.value inv.given in
    let taken = rw c.in-Some.is at (c.in_ok-end.ensures.taken inv.before given) in
    let within = rw c.in-Some.is at c.in_ok-end.ensures.within in
    let further = plain_further c.args.bytes.now c.args.names.now c.past_line_ends-from.result c.in-Some.end inv.before c.take_plain_row.new.streams taken c.past_line_ends-from.ensures.within.1 within in
    omega (arith, further, within, c.past_line_ends-from.ensures.within.0)

pub returns-then-from-bytes : goal.returns-then-from-bytes
returns-then-from-bytes c =
    plain_end c.args.bytes.now c.args.names.now c.rows.at c.past_line_ends-from.result c.rows.streams.items c.rows.invariant c.past_line_ends-from.ensures.same c.if-from-bytes.true
    ∙ ap Ok (sym c.in_ok-all_streams.ensures)
