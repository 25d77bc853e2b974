use Rattle.std.proofs.Common.{IfOk, IfSome, sym, subst}
use Rattle.std.specs.Arc.{arc_value}
use Rattle.job_compiler.specs.Keys.{is_key}
use Rattle.pisdf_model.specs.declared.graph.Graphs.{Graphs}
use Rattle.job_preparing.specs.Levels.{AreLevelsOf, IsLevelBy}
use Rattle.job_preparing.proofs.ByKeys.{found_serves, promoted_are}
use Rattle.job_preparing.proofs.levels.KeptLevels.find.Goals as goal

pub invariant_of-self : goal.invariant_of-self
invariant_of-self c = subst (AreLevelsOf c.self.inside.graphs.value.graphs) (sym c.find.ensures.front) (promoted_are c.self.inside.graphs.value.graphs c.self.inside.levels (is_key c.args.key.now) c.self.invariant)

pub returns-clause-serves : goal.returns-clause-serves
returns-clause-serves c =
    let P : Graphs → Type 0 = λ g. IfOk c.find.result (λ found. IfSome found (λ level. IsLevelBy g.graphs c.args.key.now (arc_value level))) in
    subst P c.self.view_is (found_serves c.self.inside.graphs.value.graphs c.self.inside.levels c.self.invariant c.args.key.now c.find.result c.find.ensures.found)
