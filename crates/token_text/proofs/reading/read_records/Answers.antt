use Rattle.std.proofs.Common.{◌≡◌, ◌<◌, ◌^◌, ◌∙◌, ◌++◌, [], Ok, length, map, take, drop, true, false, refl, sym, ap, inr, arith, rules}
use Rattle.std.proofs.Math.Seq.{take-append_seam}
use Rattle.csv.specs.Reading.{ReadRecord, Reached, strip_bom}
use Rattle.csv.specs.Records.{fields_of}
use Rattle.token_text.specs.Streams.{tokens_named}
use Rattle.token_text.proofs.ReadingFacts.{at-end, err-of, has-read, known, rows-fit, taken-in, told-fault}
use Rattle.token_text.proofs.RecordFacts.{all-records}
use Rattle.token_text.proofs.StreamFacts.{first_fault-none}
use Rattle.token_text.proofs.reading.read_records.Goals as goal

pub rows-init : goal.rows-init
unfolding Reached
rows-init c =
    let from = c.from_reader-reader.ensures in
    let flexible = c.flexible.ensures in
    let headers = c.has_headers.ensures in
    record {
      trims_none = rw (flexible, headers) at from.trim ∙ c.new.ensures.trim;
      is_ready = inr (inr (rw (flexible, headers) at from.has_headers, from.headers));
      by_default = rw (flexible, headers) at from.config ∙ c.new.ensures.config;
      any_length = rw flexible at from.flexible;
      before = [];
      left = strip_bom c.args.bytes.now;
      source = from.source;
      reached = (sym from.state, refl);
      rows = refl;
      given = c.in_ok-streams.ensures;
      sound = first_fault-none c.args.names.now;
    }

pub overflow_add-row : goal.overflow_add-row
overflow_add-row c =
    let inv = c.rows.invariant in
    let read : ReadRecord known c.rows.reader c.read_byte_record.new.self true (fields_of c.read_byte_record.new.row) =
    rw c.in-Ok-true.field-0-test at (c.in-Ok-true.ensures.reads inv.trims_none inv.is_ready) in
    let has = has-read c.args.bytes.now c.args.names.now c.rows.reader c.read_byte_record.new.self c.rows.row c.rows.streams.items (fields_of c.read_byte_record.new.row)
    inv read (c.in-Ok-true.ensures.ready inv.trims_none) c.in-Ok-true.ensures.flexible in
    let fit = rows-fit c.args.bytes.now c.args.names.now c.read_byte_record.new.self c.rows.row c.rows.streams.items (fields_of c.read_byte_record.new.row) has in
    let small : length c.args.bytes.now < 2 ^ 64 = search rules in
    omega (arith, fit, small)

pub rows-smaller : goal.rows-smaller
rows-smaller c =
    let inv = c.rows.invariant in
    let read : ReadRecord known c.rows.reader c.read_byte_record.new.self true (fields_of c.read_byte_record.new.row) =
    rw c.in-Ok-true.field-0-test at (c.in-Ok-true.ensures.reads inv.trims_none inv.is_ready) in
    let has = has-read c.args.bytes.now c.args.names.now c.rows.reader c.read_byte_record.new.self c.rows.row c.rows.streams.items (fields_of c.read_byte_record.new.row)
    inv read (c.in-Ok-true.ensures.ready inv.trims_none) c.in-Ok-true.ensures.flexible in
    let fit = rows-fit c.args.bytes.now c.args.names.now c.read_byte_record.new.self c.rows.row c.rows.streams.items (fields_of c.read_byte_record.new.row) has in
    omega (arith, fit)

pub rows-preserved : goal.rows-preserved
rows-preserved c =
    let inv = c.rows.invariant in
    let read : ReadRecord known c.rows.reader c.read_byte_record.new.self true (fields_of c.read_byte_record.new.row) =
    rw c.in-Ok-true.field-0-test at (c.in-Ok-true.ensures.reads inv.trims_none inv.is_ready) in
    let has = has-read c.args.bytes.now c.args.names.now c.rows.reader c.read_byte_record.new.self c.rows.row c.rows.streams.items (fields_of c.read_byte_record.new.row)
    inv read (c.in-Ok-true.ensures.ready inv.trims_none) c.in-Ok-true.ensures.flexible in
    let given : c.deref_mut.result.now ≡ map (tokens_named has.before) c.args.names.now = rw c.deref_mut.ensures.value has.given in
    let taken = c.in_ok-take_row-in-Ok-true.ensures.taken has.before given in
    let len : c.rows.streams.len ≡ length c.take_row.new.streams = omega (arith, c.rows.streams.ok.0) in
    let back : take c.rows.streams.len (c.take_row.new.streams ++ drop (length c.take_row.new.streams) c.rows.streams.items) ≡ c.take_row.new.streams =
    rw len (take-append_seam c.take_row.new.streams (drop (length c.take_row.new.streams) c.rows.streams.items)) in
    rw back (taken-in c.args.bytes.now c.args.names.now c.read_byte_record.new.self c.rows.row c.rows.streams.items c.take_row.new.streams (fields_of c.read_byte_record.new.row)
    has taken.0 taken.1)

pub returns-in_err-take_row-in-Ok-true-clause-fault : goal.returns-in_err-take_row-in-Ok-true-clause-fault
returns-in_err-take_row-in-Ok-true-clause-fault c =
    let inv = c.rows.invariant in
    let read : ReadRecord known c.rows.reader c.read_byte_record.new.self true (fields_of c.read_byte_record.new.row) =
    rw c.in-Ok-true.field-0-test at (c.in-Ok-true.ensures.reads inv.trims_none inv.is_ready) in
    let has = has-read c.args.bytes.now c.args.names.now c.rows.reader c.read_byte_record.new.self c.rows.row c.rows.streams.items (fields_of c.read_byte_record.new.row)
    inv read (c.in-Ok-true.ensures.ready inv.trims_none) c.in-Ok-true.ensures.flexible in
    let fault = c.in_err-take_row-in-Ok-true.field-0.0 in
    let given : c.deref_mut.result.now ≡ map (tokens_named has.before) c.args.names.now = rw c.deref_mut.ensures.value has.given in
    let told = c.in_err-take_row-in-Ok-true.ensures.fault has.before given in
    err-of _ fault c.from_residual-in_err-take_row-in-Ok-true.result c.from_residual-in_err-take_row-in-Ok-true.ensures.1
    (told-fault c.args.bytes.now c.args.names.now c.read_byte_record.new.self c.rows.row c.rows.streams.items (fields_of c.read_byte_record.new.row) fault has told)

pub returns-in-Ok-false-clause-streams : goal.returns-in-Ok-false-clause-streams
returns-in-Ok-false-clause-streams c =
    let inv = c.rows.invariant in
    let read : ReadRecord known c.rows.reader c.read_byte_record.new.self false (fields_of c.read_byte_record.new.row) =
    rw c.in-Ok-false.field-0-test at (c.in-Ok-false.ensures.reads inv.trims_none inv.is_ready) in
    at-end c.args.bytes.now c.args.names.now c.rows.reader c.read_byte_record.new.self c.rows.row c.rows.streams.items (fields_of c.read_byte_record.new.row) inv read
    ∙ ap Ok (sym c.in_ok-all_streams-in-Ok-false.ensures)

pub returns-in_err-streams-clause-records : goal.returns-in_err-streams-clause-records
returns-in_err-streams-clause-records c = all-records c.args.bytes.now

pub returns-in_err-take_row-in-Ok-true-clause-records : goal.returns-in_err-take_row-in-Ok-true-clause-records
returns-in_err-take_row-in-Ok-true-clause-records c = all-records c.args.bytes.now

pub returns-in_err-all_streams-in-Ok-false-clause-records : goal.returns-in_err-all_streams-in-Ok-false-clause-records
returns-in_err-all_streams-in-Ok-false-clause-records c = all-records c.args.bytes.now

pub returns-in-Ok-false-clause-records : goal.returns-in-Ok-false-clause-records
returns-in-Ok-false-clause-records c = all-records c.args.bytes.now

pub returns-in-Err-clause-records : goal.returns-in-Err-clause-records
returns-in-Err-clause-records c = all-records c.args.bytes.now
