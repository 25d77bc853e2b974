use Rattle.std.proofs.Common.{sym, ap, ◌∙◌, Some, refl, map, string_bytes}
use Rattle.pisdf_program.specs.Words.{command_of}
use Rattle.pisdf_program.specs.Words as words
use Rattle.pisdf_program.specs.WordsSeen.{seen}
use Rattle.pisdf_program.specs.declared.words.Command.{Command as Here}
use Rattle.pisdf_program.proofs.NoSoak.{not_soak}
use Rattle.pisdf_program.proofs.Working.{usage_there, works_as}
use Rattle.pisdf_program.proofs.program.work.Goals as goal

pub returns-in-Plain-clause-works : goal.returns-in-Plain-clause-works
returns-in-Plain-clause-works g c =
    works_as (Some (words.Plain c.in-Plain.graph.now c.in-Plain.tokens.now c.in-Plain.iterations)) (command_of (map string_bytes c.args.words.now)) (g.S.Shelf.holds c.args.shelf.now)
    (g.O.Sink.written c.args.out.now) (g.O.Sink.written c.plain.new.out) (g.O.Sink.faults c.args.out.now) (g.O.Sink.faults c.plain.new.out) c.plain.result
    (ap (λ (x : Here). Some (seen x)) (sym c.in-Plain.is) ∙ c.in-Some.ensures.command) c.plain.ensures.works

pub returns-in-Job-clause-works : goal.returns-in-Job-clause-works
returns-in-Job-clause-works g c =
    works_as (Some (words.Job c.in-Job.what c.in-Job.graph.now c.in-Job.tokens.now c.in-Job.workers)) (command_of (map string_bytes c.args.words.now)) (g.S.Shelf.holds c.args.shelf.now)
    (g.O.Sink.written c.args.out.now) (g.O.Sink.written c.tell_job.new.out) (g.O.Sink.faults c.args.out.now) (g.O.Sink.faults c.tell_job.new.out) c.tell_job.result
    (ap (λ (x : Here). Some (seen x)) (sym c.in-Job.is) ∙ c.in-Some.ensures.command) c.tell_job.ensures.works

pub returns-in-Run-clause-works : goal.returns-in-Run-clause-works
returns-in-Run-clause-works g c =
    works_as (Some (words.Run c.in-Run.graph.now c.in-Run.tokens.now c.in-Run.iterations c.in-Run.workers)) (command_of (map string_bytes c.args.words.now)) (g.S.Shelf.holds c.args.shelf.now)
    (g.O.Sink.written c.args.out.now) (g.O.Sink.written c.run.new.out) (g.O.Sink.faults c.args.out.now) (g.O.Sink.faults c.run.new.out) c.run.result
    (ap (λ (x : Here). Some (seen x)) (sym c.in-Run.is) ∙ c.in-Some.ensures.command) c.run.ensures.works

pub returns-in-Journal-clause-works : goal.returns-in-Journal-clause-works
returns-in-Journal-clause-works g c =
    works_as (Some (words.Journal c.in-Journal.graph.now c.in-Journal.tokens.now c.in-Journal.iterations c.in-Journal.workers)) (command_of (map string_bytes c.args.words.now)) (g.S.Shelf.holds c.args.shelf.now)
    (g.O.Sink.written c.args.out.now) (g.O.Sink.written c.tell_journals.new.out) (g.O.Sink.faults c.args.out.now) (g.O.Sink.faults c.tell_journals.new.out) c.tell_journals.result
    (ap (λ (x : Here). Some (seen x)) (sym c.in-Journal.is) ∙ c.in-Some.ensures.command) c.tell_journals.ensures.works

pub returns-in-Journal-clause-soak : goal.returns-in-Journal-clause-soak
returns-in-Journal-clause-soak g c = not_soak (words.Journal c.in-Journal.graph.now c.in-Journal.tokens.now c.in-Journal.iterations c.in-Journal.workers) (command_of (map string_bytes c.args.words.now)) (ap (λ (x : Here). Some (seen x)) (sym c.in-Journal.is) ∙ c.in-Some.ensures.command) refl

pub returns-in-Soak-clause-works : goal.returns-in-Soak-clause-works
returns-in-Soak-clause-works g c =
    works_as (Some (words.Soak c.in-Soak.number c.in-Soak.workers)) (command_of (map string_bytes c.args.words.now)) (g.S.Shelf.holds c.args.shelf.now)
    (g.O.Sink.written c.args.out.now) (g.O.Sink.written c.soak.new.out) (g.O.Sink.faults c.args.out.now) (g.O.Sink.faults c.soak.new.out) c.soak.result
    (ap (λ (x : Here). Some (seen x)) (sym c.in-Soak.is) ∙ c.in-Some.ensures.command) c.soak.ensures.works

pub returns-in_default-clause-there : goal.returns-in_default-clause-there
returns-in_default-clause-there g c =
    usage_there (command_of (map string_bytes c.args.words.now)) (g.S.Shelf.holds c.args.shelf.now) (sym c.in_default.ensures.command)

pub returns-in-Run-clause-soak : goal.returns-in-Run-clause-soak
returns-in-Run-clause-soak g c = not_soak (words.Run c.in-Run.graph.now c.in-Run.tokens.now c.in-Run.iterations c.in-Run.workers) (command_of (map string_bytes c.args.words.now)) (ap (λ (x : Here). Some (seen x)) (sym c.in-Run.is) ∙ c.in-Some.ensures.command) refl

pub returns-in-Plain-clause-soak : goal.returns-in-Plain-clause-soak
returns-in-Plain-clause-soak g c = not_soak (words.Plain c.in-Plain.graph.now c.in-Plain.tokens.now c.in-Plain.iterations) (command_of (map string_bytes c.args.words.now)) (ap (λ (x : Here). Some (seen x)) (sym c.in-Plain.is) ∙ c.in-Some.ensures.command) refl

pub returns-in-Job-clause-soak : goal.returns-in-Job-clause-soak
returns-in-Job-clause-soak g c = not_soak (words.Job c.in-Job.what c.in-Job.graph.now c.in-Job.tokens.now c.in-Job.workers) (command_of (map string_bytes c.args.words.now)) (ap (λ (x : Here). Some (seen x)) (sym c.in-Job.is) ∙ c.in-Some.ensures.command) refl

pub returns-in-Upgrade-clause-soak : goal.returns-in-Upgrade-clause-soak
returns-in-Upgrade-clause-soak g c = not_soak (words.Upgrade c.in-Upgrade.graph.now) (command_of (map string_bytes c.args.words.now)) (ap (λ (x : Here). Some (seen x)) (sym c.in-Upgrade.is) ∙ c.in-Some.ensures.command) refl

pub returns-in-Audit-clause-works : goal.returns-in-Audit-clause-works
returns-in-Audit-clause-works g c =
    works_as (Some (words.Audit c.in-Audit.graph.now c.in-Audit.tokens.now c.in-Audit.iterations c.in-Audit.workers c.in-Audit.journal.now)) (command_of (map string_bytes c.args.words.now)) (g.S.Shelf.holds c.args.shelf.now)
    (g.O.Sink.written c.args.out.now) (g.O.Sink.written c.tell_audit.new.out) (g.O.Sink.faults c.args.out.now) (g.O.Sink.faults c.tell_audit.new.out) c.tell_audit.result
    (ap (λ (x : Here). Some (seen x)) (sym c.in-Audit.is) ∙ c.in-Some.ensures.command) c.tell_audit.ensures.works

pub returns-in-Audit-clause-soak : goal.returns-in-Audit-clause-soak
returns-in-Audit-clause-soak g c = not_soak (words.Audit c.in-Audit.graph.now c.in-Audit.tokens.now c.in-Audit.iterations c.in-Audit.workers c.in-Audit.journal.now) (command_of (map string_bytes c.args.words.now)) (ap (λ (x : Here). Some (seen x)) (sym c.in-Audit.is) ∙ c.in-Some.ensures.command) refl

pub returns-in-Unfold-clause-works : goal.returns-in-Unfold-clause-works
returns-in-Unfold-clause-works g c =
    works_as (Some (words.Unfold c.in-Unfold.times c.in-Unfold.graph.now c.in-Unfold.tokens.now c.in-Unfold.iterations c.in-Unfold.workers)) (command_of (map string_bytes c.args.words.now)) (g.S.Shelf.holds c.args.shelf.now)
    (g.O.Sink.written c.args.out.now) (g.O.Sink.written c.run_in_groups.new.out) (g.O.Sink.faults c.args.out.now) (g.O.Sink.faults c.run_in_groups.new.out) c.run_in_groups.result
    (ap (λ (x : Here). Some (seen x)) (sym c.in-Unfold.is) ∙ c.in-Some.ensures.command) c.run_in_groups.ensures.works

pub returns-in-Unfold-clause-soak : goal.returns-in-Unfold-clause-soak
returns-in-Unfold-clause-soak g c = not_soak (words.Unfold c.in-Unfold.times c.in-Unfold.graph.now c.in-Unfold.tokens.now c.in-Unfold.iterations c.in-Unfold.workers) (command_of (map string_bytes c.args.words.now)) (ap (λ (x : Here). Some (seen x)) (sym c.in-Unfold.is) ∙ c.in-Some.ensures.command) refl
