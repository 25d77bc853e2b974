use Rattle.sdf_level.specs.Laws.{among}
use Rattle.sdf_level.proofs.SameTokens as law
use Rattle.sdf_level.proofs.laws.same_tokens.Goals as goal

pub returns-clause-lines : goal.returns-clause-lines
returns-clause-lines g c = λ level firing sources delays q one other lines gives starting of_one of_other run. law.same_tokens level (among firing) sources delays q one other lines gives starting of_one of_other run

pub returns-clause-made : goal.returns-clause-made
returns-clause-made g c = λ level firing sources delays made q one other gives starting of_one of_other told. law.told_others level (among firing) sources delays q one made gives of_one told starting other of_other
