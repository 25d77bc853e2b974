use Rattle.std.proofs.Common.{◌≡◌, ◌^◌, ◌<◌, Bool, List, sym, ◌∙◌, arith}
use Rattle.board_rules.specs.Entries.{Step}
use Rattle.board_rules.specs.Keys.{Key}
use Rattle.journal_audit.specs.Replays.{Replays}
use Rattle.journal_audit.specs.Stepping.{ClaimsTo, FinishesTo, StepsTo}
use Rattle.journal_audit.proofs.Openings.{if_ok}
use Rattle.journal_audit.proofs.Rows.{run_is}
use Rattle.journal_audit.proofs.Speaking.{by_claim, by_finish}
use Rattle.journal_audit.proofs.stepping.step_worker.Goals as goal

pub step_finish-requires-clause-runs : goal.step_finish-requires-clause-runs
step_finish-requires-clause-runs g c = sym (run_is c.args.replay.now.running.items c.args.worker c.index.result.now c.requires.speaks.0 c.index.ensures) ∙ c.in-Some.is

pub step_claim-requires-clause-idle : goal.step_claim-requires-clause-idle
step_claim-requires-clause-idle g c = sym (run_is c.args.replay.now.running.items c.args.worker c.index.result.now c.requires.speaks.0 c.index.ensures) ∙ c.in-None.is

pub returns-in-Some : goal.returns-in-Some
returns-in-Some g c =
    let small : c.args.number < 2 ^ 32 = omega arith in
    let graphs = c.args.graphs.now in
    let old = c.args.replay.now in
    let new = c.step_finish.new.replay in
    let line = c.args.line.now in
    let n = c.args.number in
    let runs = sym (run_is old.running.items c.args.worker c.index.result.now c.requires.speaks.0 c.index.ensures) ∙ c.in-Some.is in
    if_ok c.step_finish.result
    (λ (took : Bool). (key : Key) (taken : List Step) → Replays graphs key taken old → key.signatures ≡ _ → FinishesTo graphs key n taken c.args.worker line took new)
    (λ (took : Bool). (key : Key) (taken : List Step) → Replays graphs key taken old → key.signatures ≡ _ → StepsTo graphs key n taken line took new)
    (λ took h. λ key taken r signed. by_finish graphs key taken old r (c.board_laws.ensures key r.keeps.is_key) c.lines_begin.ensures.begin c.lines_begin.ensures.tell n small line c.args.worker c.requires.speaks c.in-Some.run' runs took new (h key taken r signed))
    c.step_finish.ensures

pub returns-in-None : goal.returns-in-None
returns-in-None g c =
    let small : c.args.number < 2 ^ 32 = omega arith in
    let graphs = c.args.graphs.now in
    let old = c.args.replay.now in
    let new = c.step_claim.new.replay in
    let line = c.args.line.now in
    let n = c.args.number in
    let idle = sym (run_is old.running.items c.args.worker c.index.result.now c.requires.speaks.0 c.index.ensures) ∙ c.in-None.is in
    if_ok c.step_claim.result
    (λ (took : Bool). (key : Key) (taken : List Step) → Replays graphs key taken old → ClaimsTo graphs key n taken c.args.worker line took new)
    (λ (took : Bool). (key : Key) (taken : List Step) → Replays graphs key taken old → key.signatures ≡ _ → StepsTo graphs key n taken line took new)
    (λ took h. λ key taken r signed. by_claim graphs key taken old r (c.board_laws.ensures key r.keeps.is_key) c.lines_begin.ensures.begin c.lines_begin.ensures.tell n small line c.args.worker c.requires.speaks idle took new (h key taken r))
    c.step_claim.ensures
