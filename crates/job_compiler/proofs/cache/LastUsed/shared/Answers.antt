use Rattle.std.proofs.Common.{◌∙◌, sym, ap, Some}
use Rattle.std.specs.Arc.{arc_value}
use Rattle.std.specs.Option.{option_map}
use Rattle.job_compiler.specs.Keys.{is_key}
use Rattle.job_compiler.proofs.KeptEntries.{lookup-valued}
use Rattle.job_compiler.proofs.cache.LastUsed.shared.Goals as goal

pub returns-in_ok-clone-in-Some : goal.returns-in_ok-clone-in-Some
returns-in_ok-clone-in-Some g c =
    rw (← c.self.view_is) (ap Some c.in_ok-clone-in-Some.ensures.cases ∙ ap (option_map arc_value) c.in-Some.ensures ∙ sym (lookup-valued arc_value (is_key c.args.key.now) c.self.inside.cache.entries))

pub returns-in-None : goal.returns-in-None
returns-in-None g c =
    rw (← c.self.view_is) (ap (option_map arc_value) c.in-None.ensures ∙ sym (lookup-valued arc_value (is_key c.args.key.now) c.self.inside.cache.entries))
