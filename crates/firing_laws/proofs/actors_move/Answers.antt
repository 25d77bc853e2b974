use Rattle.firing_laws.proofs.GraphsMoved.{actor_moved}
use Rattle.firing_laws.proofs.actors_move.Goals as goal

pub returns : goal.returns
returns c = λ n top one other differ firing there values args actor k j trace read outs below fires. actor_moved top one other differ n firing there values args actor k j trace read outs below fires
