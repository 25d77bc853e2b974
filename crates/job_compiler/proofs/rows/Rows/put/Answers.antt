use Rattle.std.proofs.Common.{◌≡◌, ℕ, ◌+◌, ◌<◌, List, length, set, sym, subst, ◌∙◌, arith}
use Rattle.std.specs.Prelude.{Option, Some}
use Rattle.std.proofs.lemmas.List.{get_or_read}
use Rattle.job_compiler.specs.Rows.{row_of}
use Rattle.job_compiler.specs.Rows.{rows_in, span_at, spans_of}
use Rattle.job_compiler.proofs.RowParts.{port_below, put_rows}
use Rattle.job_compiler.proofs.RowStarts.{begins, port_within}
use Rattle.job_compiler.proofs.rows.Rows.put.Goals as goal

pub index-start-requires : goal.index-start-requires
index-start-requires c =
    let i = c.self.inside in
    let there = subst (λ (rows : List (List (Option ℕ))). c.args.node < length rows) (sym c.self.view_is) c.requires.there in
    let at = begins i.ports.items i.starts.items c.self.invariant c.args.node there in
    omega (arith, at.next, i.starts.ok.0)

pub overflow_add-start : goal.overflow_add-start
overflow_add-start c =
    let i = c.self.inside in
    let there = subst (λ (rows : List (List (Option ℕ))). c.args.node < length rows) (sym c.self.view_is) c.requires.there in
    let at = begins i.ports.items i.starts.items c.self.invariant c.args.node there in
    let start = get_or_read i.starts.items c.args.node c.index-start.result.now (omega (arith, at.next)) c.index-start.ensures 0 in
    let below = port_within i.ports.items i.starts.items c.self.invariant c.args.node c.args.port c.index-start.result.now there
    (subst (λ (rows : List (List (Option ℕ))). c.args.port < length (row_of rows c.args.node)) (sym c.self.view_is) c.requires.port) start in
    omega (arith, below, i.ports.ok.0, i.ports.small)

pub index_mut-requires : goal.index_mut-requires
index_mut-requires c =
    let i = c.self.inside in
    let there = subst (λ (rows : List (List (Option ℕ))). c.args.node < length rows) (sym c.self.view_is) c.requires.there in
    let at = begins i.ports.items i.starts.items c.self.invariant c.args.node there in
    let start = get_or_read i.starts.items c.args.node c.index-start.result.now (omega (arith, at.next)) c.index-start.ensures 0 in
    let below = port_within i.ports.items i.starts.items c.self.invariant c.args.node c.args.port c.index-start.result.now there
    (subst (λ (rows : List (List (Option ℕ))). c.args.port < length (row_of rows c.args.node)) (sym c.self.view_is) c.requires.port) start in
    omega (arith, below, i.ports.ok.0)

pub returns : goal.returns
returns c =
    let ports = c.self.inside.ports.items in
    let starts = c.self.inside.starts.items in
    let spans = spans_of starts in
    let n = c.args.node in
    let p = c.args.port in
    let there = subst (λ (rows : List (List (Option ℕ))). n < length rows) (sym c.self.view_is) c.requires.there in
    let at = begins ports starts c.self.invariant n there in
    let below : p < (span_at spans n).1 = port_below ports spans c.self.invariant.rows n p at.inside
    (subst (λ (rows : List (List (Option ℕ))). p < length (row_of rows n)) (sym c.self.view_is) c.requires.port) in
    let start : c.index-start.result.now ≡ (span_at spans n).0 = get_or_read starts n c.index-start.result.now (omega (arith, at.next)) c.index-start.ensures 0 ∙ sym at.start in
    subst (λ (rows : List (List (Option ℕ))). rows_in (set ports (c.index-start.result.now + p) c.of.result) spans ≡ set rows n (set (row_of rows n) p (Some c.args.edge))) c.self.view_is
    (subst (λ (o : Option ℕ). rows_in (set ports (c.index-start.result.now + p) o) spans ≡ set (rows_in ports spans) n (set (row_of (rows_in ports spans) n) p (Some c.args.edge))) (sym c.of.ensures)
    (subst (λ (s : ℕ). rows_in (set ports (s + p) (Some c.args.edge)) spans ≡ set (rows_in ports spans) n (set (row_of (rows_in ports spans) n) p (Some c.args.edge))) (sym start)
    (put_rows ports spans c.self.invariant.rows n p c.args.edge at.inside below)))
