use Rattle.param_resolver.proofs.Sound.{nested, resolvable}
use Rattle.pisdf_meaning.proofs.Fitting.{graph_fits, none_inherited}
use Rattle.pisdf_meaning.proofs.Knowing.{all_know}
use Rattle.pisdf_meaning.proofs.Nests.{nests_within}
use Rattle.pisdf_meaning.proofs.soundness.runnable.Goals as goal

pub returns : goal.returns
returns c = λ signatures graphs valid.
    let range = valid.valid.in_range in
    let well = valid.valid.well_formed in
    record {
      fit = record { fit = λ k d inside. graph_fits graphs range well k d inside signatures valid.kernels; know = all_know graphs.graphs (λ place inherited inside. c.early_unfolds.ensures graphs place inherited range well inside) };
      nests = nests_within 8 graphs.graphs (resolvable graphs range well) graphs.top range.top (nested graphs range well graphs.top range.top);
      none_inherited = none_inherited graphs range well;
    }
