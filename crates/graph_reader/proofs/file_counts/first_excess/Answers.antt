use Rattle.std.proofs.Common.{◌≡◌, ◌∙◌, ap, arith, false, get_or, unwrap_or}
use Rattle.pisdf_model.specs.Count.{excess_of}
use Rattle.pisdf_model.specs.Details.{first}
use Rattle.graph_reader.specs.Counted.{part_counts}
use Rattle.graph_reader.proofs.file_counts.first_excess.Goals as goal

pub returns : goal.returns
returns c =
    let read : c.unwrap_or-is_large.result ≡ get_or c.args.large.now c.args.number false = c.unwrap_or-is_large.ensures ∙ ap (λ o. unwrap_or o false) c.copied.ensures ∙ c.get.ensures.lookup.4 (omega arith) false in
    c.excess.ensures ∙ ap (λ counts. first (excess_of counts)) c.counts_of.ensures ∙ ap (λ b. first (excess_of (part_counts b c.args.graph.now))) read
