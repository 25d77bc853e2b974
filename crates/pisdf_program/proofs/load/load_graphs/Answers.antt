use Rattle.std.proofs.Common.{subst, ◌∙◌, List, ℕ}
use Rattle.pisdf_program.specs.Loaded.{Settles}
use Rattle.pisdf_program.specs.Result.{read_graphs}
use Rattle.pisdf_program.proofs.Reading.{read_graphs_long}
use Rattle.pisdf_program.proofs.load.load_graphs.Goals as goal

pub returns-in-Ok-clause-settles : goal.returns-in-Ok-clause-settles
returns-in-Ok-clause-settles g c = λ told e. subst (λ (b : List ℕ). Settles (read_graphs b) c.graphs_in.result) (c.as_slice.ensures.value ∙ c.in-Ok.ensures.as_told told e) c.graphs_in.ensures.settles

pub returns-in-Err-TooLong-clause-settles : goal.returns-in-Err-TooLong-clause-settles
returns-in-Err-TooLong-clause-settles g c = λ told e answer. read_graphs_long told (c.in-Err-TooLong.ensures.only_too_long told e (cc (c.in-Err-TooLong.field-0-is)))
