use Rattle.std.proofs.Common.{◌≡◌, ◌++◌, map, sym, ap, ◌∙◌, subst}
use Rattle.std.proofs.lemmas.Result.{err_from_is_err_and}
use Rattle.kernel_gate.specs.Signed.{signature_view}
use Rattle.pisdf_model.proofs.Lists.{unmapped}
use Rattle.pisdf_model.specs.Count.{count_faults}
use Rattle.pisdf_model.specs.Names.{repeats}
use Rattle.pisdf_model.specs.Range.{InRange}
use Rattle.graph_format.specs.Faults.{fits_kernel, graphs_of, rule_faults, too_many}
use Rattle.graph_format.specs.FileNames.{names_of_file}
use Rattle.graph_format.specs.Kernels.{kernel_names, unfit_in_file}
use Rattle.graph_format.specs.Placed.{mark_of}
use Rattle.graph_format.specs.References.{unknown_in_file}
use Rattle.graph_format.specs.declared.graph_fault.GraphFault.TheVariants.{Duplicate, Kernel, Unknown}
use Rattle.graph_format.proofs.Laws.{placed_marked, rules_marked}
use Rattle.graph_format.proofs.Ranged.{file_in_range}
use Rattle.graph_reader.proofs.FileCounts.{as_many}
use Rattle.graph_reader.proofs.Telling.{passes, stops, tells_after}
use Rattle.graph_reader.proofs.reader.check.Goals as goal

pub follow_rules-requires : goal.follow_rules-requires
follow_rules-requires c =
    let file = c.args.file.now in
    subst InRange (sym c.in_ok-marked.ensures.graphs)
    (file_in_range mark_of (kernel_names (map signature_view c.args.signatures.now)) file c.requires (unmapped Unknown (unknown_in_file file) c.in_ok-marked.ensures.tells))

pub count-requires : goal.count-requires
count-requires c = as_many (kernel_names (map signature_view c.args.signatures.now)) c.args.file.now c.in_ok-marked.marked c.in_ok-marked.ensures.graphs

pub returns-in_err-follow_rules : goal.returns-in_err-follow_rules
returns-in_err-follow_rules c =
    let file = c.args.file.now in
    let signatures = map signature_view c.args.signatures.now in
    let fits = fits_kernel signatures in
    let graphs = graphs_of signatures file in
    let duplicates = map Duplicate (repeats (names_of_file file)) in
    let unknown = map Unknown (unknown_in_file file) in
    let kernels = map Kernel (unfit_in_file signatures file) in
    let rules = rule_faults fits graphs in
    let counts = map too_many (count_faults graphs) in
    let p = err_from_is_err_and c.from_residual-in_err-follow_rules.result c.from_residual-in_err-follow_rules.ensures.1 in
    let fault = c.in_err-follow_rules.field-0.0 in
    let same : rule_faults fits c.in_ok-marked.marked ≡ rules = ap (rule_faults fits) (c.in_ok-marked.ensures.graphs ∙ sym (placed_marked (kernel_names signatures) file)) ∙ rules_marked fits graphs in
    rw (p.1, p.2)
    (passes duplicates (unknown ++ (kernels ++ (rules ++ counts))) fault c.in_ok-no_duplicate.ensures
    (passes unknown (kernels ++ (rules ++ counts)) fault c.in_ok-marked.ensures.tells
    (passes kernels (rules ++ counts) fault (c.in_ok-told_kernel.ensures (unfit_in_file signatures file) c.unfit_kernel.ensures)
    (stops rules counts fault (rw same at c.in_err-follow_rules.ensures)))))

pub returns : goal.returns
returns c =
    let file = c.args.file.now in
    let signatures = map signature_view c.args.signatures.now in
    let fits = fits_kernel signatures in
    let graphs = graphs_of signatures file in
    let duplicates = map Duplicate (repeats (names_of_file file)) in
    let unknown = map Unknown (unknown_in_file file) in
    let kernels = map Kernel (unfit_in_file signatures file) in
    let rules = rule_faults fits graphs in
    let counts = map too_many (count_faults graphs) in
    let answer = c.told_count.result in
    let same : rule_faults fits c.in_ok-marked.marked ≡ rules = ap (rule_faults fits) (c.in_ok-marked.ensures.graphs ∙ sym (placed_marked (kernel_names signatures) file)) ∙ rules_marked fits graphs in
    tells_after duplicates (unknown ++ (kernels ++ (rules ++ counts))) answer c.in_ok-no_duplicate.ensures
    (tells_after unknown (kernels ++ (rules ++ counts)) answer c.in_ok-marked.ensures.tells
    (tells_after kernels (rules ++ counts) answer (c.in_ok-told_kernel.ensures (unfit_in_file signatures file) c.unfit_kernel.ensures)
    (tells_after rules counts answer (sym same ∙ c.in_ok-follow_rules.ensures)
    (c.told_count.ensures (count_faults graphs) (c.count.ensures (kernel_names signatures) c.in_ok-marked.ensures.graphs)))))
