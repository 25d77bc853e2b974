use Rattle.param_resolver.proofs.SoundValues.{all_sound}
use Rattle.param_resolver.proofs.laws.all_sound.Goals as goal

pub returns : goal.returns
returns c = λ params supplied ordered full none. all_sound params supplied ordered full none
