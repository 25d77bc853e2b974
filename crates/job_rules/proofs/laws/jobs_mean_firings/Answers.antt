use Rattle.pisdf_meaning.proofs.Knowing.{Unfolds}
use Rattle.job_rules.proofs.Answered.{Laws}
use Rattle.job_rules.proofs.Calls.{called_fits}
use Rattle.job_rules.proofs.Settling.{settled_ends}
use Rattle.job_rules.proofs.laws.jobs_mean_firings.Goals as goal

pub returns : goal.returns
returns c = λ signatures graphs valid give.
    let range = valid.valid.in_range in
    let well = valid.valid.well_formed in
    let fit = (c.runnable.ensures signatures graphs valid).fit in
    let laws : Laws = record {
      all = c.graphs_numbered.ensures.all;
      in_order = c.graphs_numbered.ensures.in_order;
      tiers = c.graphs_numbered.ensures.tiers;
      ready = c.ready_stays.ensures.ready;
      inputs_stay = c.ready_stays.ensures.inputs;
      once = c.edges_have_ports.ensures.once;
      lens_are = c.frames_told.ensures.inputs;
      rates_are = c.frames_told.ensures.rates;
    } in
    let unfolds : Unfolds graphs.graphs = λ place inherited inside. c.early_unfolds.ensures graphs place inherited range well inside in
    record {
      calls = λ n firing v fitted sound i d is. called_fits laws signatures graphs range well fit give unfolds n firing v fitted sound i d is;
      settles = λ n firing v fitted settled. settled_ends laws signatures graphs range well fit give n firing v fitted settled c.jobs_end_as_runs.ensures.runs;
    }
