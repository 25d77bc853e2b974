use Rattle.board_rules.proofs.laws.job_laws.Goals as goal

pub returns : goal.returns
returns c = λ key is. record {
  lawful = c.rules_are_lawful.ensures key.graphs is.valid.valid;
  meant = c.jobs_mean_firings.ensures key.signatures key.graphs is.valid is.lengths;
  fit = (c.runnable.ensures key.signatures key.graphs is.valid).fit;
  all = c.graphs_numbered.ensures.all;
  in_order = c.graphs_numbered.ensures.in_order;
  tiers = c.graphs_numbered.ensures.tiers;
  ends_there = c.graphs_numbered.ensures.ends;
  ready = c.ready_stays.ensures.ready;
  inputs_stay = c.ready_stays.ensures.inputs;
  once = c.edges_have_ports.ensures.once;
  lens_are = c.frames_told.ensures.inputs;
  rates_are = c.frames_told.ensures.rates;
}
