use Rattle.std.proofs.Common.{ℕ, ◌+◌, ◌<◌, ◌≤◌, List, length, sym, subst, ap, ◌∙◌}
use Rattle.std.specs.Prelude.{Option, slice_index, slice_range}
use Rattle.job_compiler.specs.Rows.{row_of}
use Rattle.job_compiler.proofs.RowStarts.{begins}
use Rattle.job_compiler.proofs.rows.Rows.row.Goals as goal

pub between-requires : goal.between-requires
between-requires c =
    let i = c.self.inside in
    let n = c.args.node in
    let at = begins i.ports.items i.starts.items c.self.invariant n (subst (λ (rows : List (List (Option ℕ))). n < length rows) (sym c.self.view_is) c.requires) in
    record {
      there = subst (λ (starts : List ℕ). n + 1 < length starts) (sym c.deref-2.ensures.value) at.next;
      rises = subst (λ (starts : List ℕ). slice_index starts n ≤ slice_index starts (n + 1)) (sym c.deref-2.ensures.value) at.rises;
      within = subst (λ (x : List ℕ × List (Option ℕ)). slice_index x.0 (n + 1) ≤ length x.1) (λ t. (sym c.deref-2.ensures.value t, sym c.deref.ensures.value t)) at.within;
    }

pub returns : goal.returns
returns c =
    let i = c.self.inside in
    let n = c.args.node in
    let at = begins i.ports.items i.starts.items c.self.invariant n (subst (λ (rows : List (List (Option ℕ))). n < length rows) (sym c.self.view_is) c.requires) in
    c.between.ensures ∙ ((λ t. slice_range (c.deref.ensures.value t) (slice_index (c.deref-2.ensures.value t) n) (slice_index (c.deref-2.ensures.value t) (n + 1)))
    ∙ (sym at.row ∙ ap (λ (rows : List (List (Option ℕ))). row_of rows n) c.self.view_is))
