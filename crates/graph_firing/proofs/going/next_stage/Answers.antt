use Rattle.std.proofs.Common.{Some, sym, ap, ◌∙◌, subst}
use Rattle.std.specs.Arc.{arc_value}
use Rattle.job_preparing.specs.CompileTasks.{IsEndOf}
use Rattle.job_preparing.specs.View as preparing
use Rattle.job_preparing.specs.declared.compiling.CompileEnd.{CompileEnd}
use Rattle.job_rules.specs.Items.{Prepared}
use Rattle.job_rules.specs.Words.{Schedules}
use Rattle.graph_firing.specs.Calls.{IsPlacedBy, compile_answer, nodes_by}
use Rattle.graph_firing.proofs.Compiling.{many, runs_for}
use Rattle.graph_firing.proofs.going.next_stage.Goals as goal

pub returns-in_ok-running-in-Ready : goal.returns-in_ok-running-in-Ready
returns-in_ok-running-in-Ready c =
    let own = c.args.configuring.now in
    let r = c.in_ok-running-in-Ready.running in
    let made = c.in_ok-running-in-Ready.ensures in
    let P : CompileEnd → Type 0 = λ end. IsEndOf own.graphs.graphs c.args.workers own.firing (preparing.left_by own) end in
    record {
      runs = runs_for own c.args.workers (arc_value (arc_value c.in-Ready.level).made.compiled) (arc_value c.in-Ready.level).made.set (arc_value c.in-Ready.level).made.values c.requires.ready (subst P c.in-Ready.is c.requires.end).made r
          made.made_of.0 made.made_of.1 made.compilation.0 made.compilation.1 made.compilation.2 made.free made.nothing;
      marks_are = made.free;
      lent_are = made.nothing;
      many = many own c.args.workers (arc_value (arc_value c.in-Ready.level).made.compiled) (arc_value c.in-Ready.level).made.set (arc_value c.in-Ready.level).made.values c.requires.ready (subst P c.in-Ready.is c.requires.end).made r
          made.made_of.0 made.made_of.1 made.compilation.0 made.compilation.1 made.compilation.2 made.free made.nothing
          ∙ sym (ap nodes_by c.in-Ready.is);
      placed =
          let R : CompileEnd → Type 0 = λ end. IsPlacedBy end (Some r.cells) in
          subst R (sym c.in-Ready.is) made.cells;
      schedule_is = ap (compile_answer own.firing) c.in-Ready.is ∙ ap (λ (p : Prepared). Some (Schedules p.schedule)) (sym made.compilation.0);
    }
