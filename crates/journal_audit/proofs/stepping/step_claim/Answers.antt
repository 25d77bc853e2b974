use Rattle.std.proofs.Common.{◌≡◌, ◌<◌, Bool, List, length, refl, subst}
use Rattle.nested_jobs.specs.Marks.{Free}
use Rattle.nested_jobs.specs.Rules.{Work}
use Rattle.board_rules.specs.Entries.{Step}
use Rattle.board_rules.specs.Keys.{Key}
use Rattle.audit_job.specs.Marks.{mark_at}
use Rattle.audit_job.specs.Naming.{IsValidJob}
use Rattle.journal_audit.specs.Opening.{Finds, IsFound}
use Rattle.journal_audit.specs.Replays.{Replays}
use Rattle.journal_audit.specs.Stepping.{ClaimsTo, TakesClaim}
use Rattle.journal_audit.specs.Table.{held_of}
use Rattle.journal_audit.specs.declared.replay.Replay.{Replay}
use Rattle.journal_audit.specs.declared.table.Row.{Row}
use Rattle.journal_audit.proofs.Claims.{claims_to, none_claimed}
use Rattle.journal_audit.proofs.LastSteps.{lawful, valid_job}
use Rattle.journal_audit.proofs.Openings.{if_ok, item_inside}
use Rattle.journal_audit.proofs.Rows.{in_slot}
use Rattle.journal_audit.proofs.stepping.step_claim.Goals as goal

pub find-requires : goal.find-requires
find-requires c = let s = c.requires.replays in (s.0, s.1, held_of c.args.replay.now.running.items, s.2.keeps)

pub take_claim-requires-clause-row : goal.take_claim-requires-clause-row
take_claim-requires-clause-row c =
    let s = c.requires.replays in
    let law = c.rules_are_lawful.ensures in
    let graphs = c.args.graphs.now in
    let old = c.args.replay.now in
    let new = c.find.new.rows.items in
    let run = c.in-Some.run' in
    let f : IsFound graphs s.0 s.1 old.rows.items c.args.worker new run = subst (Finds graphs s.0 s.1 old.rows.items c.args.worker new) c.in-Some.is (c.in_ok-found.ensures s.0 s.1 (held_of old.running.items) s.2.keeps) in
    let job = f.so.jobs run.row f.row f.here in
    in_slot (λ (row : Row). IsValidJob row.job × (run.item < length row.job.marks.items) × (mark_at row.job.marks.items run.item ≡ Free)) _ f.row f.here
    (valid_job law graphs new s.0 f.marks f.so run.row f.row f.here, item_inside s.0 (lawful law graphs new s.0 f.marks f.so) f.row s.0.workers run.item (Work f.work) job f.task_is, f.free)

pub returns-in-Some : goal.returns-in-Some
returns-in-Some c =
    let law = c.rules_are_lawful.ensures in
    let graphs = c.args.graphs.now in
    let n = c.args.number in
    let w = c.args.worker in
    let line = c.args.line.now in
    let old = c.args.replay.now in
    let run = c.in-Some.run' in
    let half : Replay = record { workers = old.workers; rows = c.find.new.rows; running = old.running; end = old.end } in
    let new = c.take_claim.new.replay in
    if_ok c.take_claim.result
    (λ (took : Bool). TakesClaim half n w run line new took)
    (λ (took : Bool). (key : Key) (taken : List Step) → Replays graphs key taken old → ClaimsTo graphs key n taken w line took new)
    (λ took told. λ key taken r.
    let f : IsFound graphs key taken old.rows.items w half.rows.items run = subst (Finds graphs key taken old.rows.items w half.rows.items) c.in-Some.is (c.in_ok-found.ensures key taken (held_of old.running.items) r.keeps) in
    claims_to law c.boards_keep.ensures.claim c.journals_grow.ensures.claim c.next_steps_are_one.ensures graphs key taken old r w c.requires.worker c.requires.idle half refl refl run f n line new took c.requires.going told)
    c.take_claim.ensures

pub returns-in-None : goal.returns-in-None
returns-in-None c = λ key taken r place entry legal told e.
    let graphs = c.args.graphs.now in
    let old = c.args.replay.now in
    let none = subst (Finds graphs key taken old.rows.items c.args.worker c.find.new.rows.items) c.in-None.is (c.in_ok-found.ensures key taken (held_of old.running.items) r.keeps) in
    none_claimed key taken c.args.worker none place legal
