use Rattle.std.proofs.Common.{List, length, map, sym, ap, ◌∙◌, subst}
use Rattle.std.specs.List.{range_with_len}
use Rattle.pisdf_model.specs.Details.{Answers}
use Rattle.pisdf_model.specs.Hold.{is_large}
use Rattle.pisdf_model.specs.Nesting.{children}
use Rattle.pisdf_model.specs.declared.counting.Counted.{Counted}
use Rattle.pisdf_model.specs.declared.graph.Graph.{Graph}
use Rattle.graph_reader.proofs.FileCounts.{all_counted, own_length, too_many_graphs}
use Rattle.graph_reader.proofs.file_counts.count.Goals as goal

pub returns-then-graphs-gt-MAX_GRAPHS : goal.returns-then-graphs-gt-MAX_GRAPHS
returns-then-graphs-gt-MAX_GRAPHS c = λ kernels is. too_many_graphs kernels c.args.file.now (rw c.items-graphs.ensures at c.if-graphs-gt-MAX_GRAPHS.true)

pub large_holds-requires : goal.large_holds-requires
large_holds-requires c =
    ap length (c.deref.ensures.value ∙ c.in_ok-own.ensures) ∙ own_length c.args.file.now c.args.marked.now.top ∙ sym c.requires ∙ sym (ap length c.items.ensures)

pub returns : goal.returns
returns c = λ kernels is.
    let own = c.deref.result.now in
    let told = c.deref-2.ensures.value ∙ c.in_ok-large.ensures ∙ ap (λ (gs : List Graph). map (is_large own (map children gs)) (range_with_len 0 (length gs))) c.items.ensures in
    subst (λ (faults : List Counted). Answers faults c.count_graphs.result)
    (all_counted kernels c.args.file.now c.args.marked.now own c.deref-2.result.now c.items-graphs.result.now is (c.deref.ensures.value ∙ c.in_ok-own.ensures) told c.items-graphs.ensures (rw c.items-graphs.ensures at c.if-graphs-gt-MAX_GRAPHS.false))
    c.count_graphs.ensures
