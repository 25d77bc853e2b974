use Rattle.std.proofs.Common.{◌≡◌, ◌∙◌, Option, Some, None, is_some, refl, sym, ap}
use Rattle.std.specs.Arc.{arc_value}
use Rattle.std.specs.Map.{lookup}
use Rattle.std.specs.Option.{option_map}
use Rattle.job_compiler.specs.Keys.{is_key}
use Rattle.job_compiler.proofs.KeptEntries.{lookup-valued}
use Rattle.job_compiler.proofs.cache.LastUsed.has.Goals as goal

some_valued : {X Y : Type 0} (f : X → Y) (o : Option X) → is_some o ≡ is_some (option_map f o)
some_valued f None = refl
some_valued f (Some x) = refl

pub returns-in-Some : goal.returns-in-Some
returns-in-Some g c =
    rw (← c.self.view_is) (ap is_some c.in-Some.ensures ∙ some_valued arc_value _ ∙ ap is_some (sym (lookup-valued arc_value (is_key c.args.key.now) c.self.inside.cache.entries)))

pub returns-in-None : goal.returns-in-None
returns-in-None g c =
    rw (← c.self.view_is) (ap is_some c.in-None.ensures ∙ some_valued arc_value _ ∙ ap is_some (sym (lookup-valued arc_value (is_key c.args.key.now) c.self.inside.cache.entries)))
