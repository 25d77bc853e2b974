use Rattle.board_rules.proofs.Known.{board_laws}
use Rattle.worker_crew.proofs.Fitting.{work_fits}
use Rattle.worker_crew.proofs.laws.work_fits.Goals as goal

pub returns : goal.returns
returns c = λ key taken w work is legal runs.
    work_fits key is
    (board_laws key record {
      lawful = c.rules_are_lawful.ensures key.graphs is.valid.valid;
      meant = c.jobs_mean_firings.ensures key.signatures key.graphs is.valid is.lengths;
      fit = (c.runnable.ensures key.signatures key.graphs is.valid).fit;
      all = c.graphs_numbered.ensures.all;
      in_order = c.graphs_numbered.ensures.in_order;
      tiers = c.graphs_numbered.ensures.tiers;
      ends_there = c.graphs_numbered.ensures.ends;
      ready = c.ready_stays.ensures.ready;
      inputs_stay = c.ready_stays.ensures.inputs;
      once = c.edges_have_ports.ensures.once;
      lens_are = c.frames_told.ensures.inputs;
      rates_are = c.frames_told.ensures.rates;
    })
    c.tasks_fit.ensures.kernels c.frames_told.ensures.fit c.repetition_suffices.ensures taken legal w work runs
