use Rattle.std.proofs.Common.{refl}
use Rattle.journal_audit.specs.Table.{held_of}
use Rattle.journal_audit.proofs.Finishes.{leaves, runs_it}
use Rattle.journal_audit.proofs.replay.leave.Goals as goal

pub finish_run-requires : goal.finish_run-requires
finish_run-requires g c =
    let s = c.requires.replays in
    let old = c.args.replay.now in
    (s.0, s.1, held_of old.running.items, c.args.worker, runs_it c.args.graphs.now _ s.0 s.1 old s.2 s.3 c.args.worker c.requires.worker c.args.run c.requires.runs)

pub returns : goal.returns
returns g c = λ key taken r signed.
    let old = c.args.replay.now in
    let ran = runs_it c.args.graphs.now _ key taken old r signed c.args.worker c.requires.worker c.args.run c.requires.runs in
    leaves c.args.graphs.now _ key taken old r signed c.args.worker c.requires.worker c.args.run c.requires.runs _ refl refl
    (c.in_ok-end.ensures key taken (held_of old.running.items) c.args.worker ran)
