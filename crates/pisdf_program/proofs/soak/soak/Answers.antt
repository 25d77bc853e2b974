use Rattle.std.proofs.Common.{◌≡◌, [], sym, ap, ◌∙◌, subst}
use Rattle.param_resolver.specs.EarlyCheck.{early_faults}
use Rattle.pisdf_model.specs.declared.graph.Graphs.{Graphs}
use Rattle.pisdf_meaning.specs.Run.{top_needs}
use Rattle.pisdf_program.specs.Worked.{TellsSoak, Works}
use Rattle.pisdf_program.proofs.SoakFile.{soak_needs, soak_sound}
use Rattle.pisdf_program.proofs.SoakRuns.{soak_there, soak_works, unread_there}
use Rattle.pisdf_program.proofs.soak.soak.Goals as goal

pub run_soak-end-requires-clause-needs : goal.run_soak-end-requires-clause-needs
run_soak-end-requires-clause-needs g c = λ lives within. ap top_needs c.in-Ok-new.ensures.ok ∙ soak_needs c.in-Ok.graphs c.in-Ok.ensures.settles

pub run_soak-end-requires-clause-sound : goal.run_soak-end-requires-clause-sound
run_soak-end-requires-clause-sound g c = λ lives within.
    subst (λ (x : Graphs). early_faults x.graphs x.top [] ≡ []) (sym c.in-Ok-new.ensures.ok) (soak_sound c.in-Ok.graphs c.in-Ok.ensures.settles)

pub returns-clause-works : goal.returns-clause-works
returns-clause-works g c =
    let had = g.O.Sink.written c.args.out.now in
    let has = g.O.Sink.written c.tell_soak.new.out in
    let before = g.O.Sink.faults c.args.out.now in
    let now = g.O.Sink.faults c.tell_soak.new.out in
    soak_works c.in-Ok.graphs c.args.number c.in-Ok.ensures.settles c.run_soak-end.result had has before now c.tell_soak.result
    (rw c.in-Ok-new.ensures.ok at c.run_soak-end.ensures.ends)
    (subst (λ (x : Graphs). Works (TellsSoak x c.args.number c.run_soak-end.result) had has before now c.tell_soak.result) (c.deref.ensures ∙ c.in-Ok-new.ensures.ok) c.tell_soak.ensures.works)

pub returns-clause-there : goal.returns-clause-there
returns-clause-there g c =
    soak_there c.in-Ok.graphs c.args.number c.in-Ok.ensures.settles c.run_soak-end.result c.tell_soak.result
    (rw c.in-Ok-new.ensures.ok at c.run_soak-end.ensures.ends) c.tell_soak.ensures.memory

pub returns-in-Err-clause-there : goal.returns-in-Err-clause-there
returns-in-Err-clause-there g c = unread_there c.args.number c.in-Err.status c.in-Err.ensures.settles
