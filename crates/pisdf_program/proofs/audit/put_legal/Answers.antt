use Rattle.std.proofs.Common.{◌≡◌, string_bytes, ◌∙◌}
use Rattle.pisdf_program.specs.Result.{legal_row, told}
use Rattle.quiescent_driver.proofs.Runs.{grows_as, grows_partly_as}
use Rattle.pisdf_program.proofs.Working.{told_partly, told_whole}
use Rattle.pisdf_program.proofs.audit.put_legal.Goals as goal

pub returns-in-Ok-put_text-clause-works : goal.returns-in-Ok-put_text-clause-works
returns-in-Ok-put_text-clause-works g c =
    let written = g.O.Sink.written in
    let row = legal_row c.args.boards c.args.entries in
    told_whole (λ o. o ≡ told row) (written c.args.out.now) (written c.put_text.new.sink) row (string_bytes c.new.result) (λ o e. e) c.new.ensures.bytes
    (grows_as (written c.args.out.now) (written c.put_text.new.sink) _ _ (c.as_bytes.ensures.value ∙ c.in-Ok.ensures) c.in-Ok-put_text.ensures.puts.all)

pub returns-clause-works : goal.returns-clause-works
returns-clause-works g c =
    let written = g.O.Sink.written in
    let row = legal_row c.args.boards c.args.entries in (
      c.in-Err.ensures.puts.failed,
      told_partly (λ o. o ≡ told row) (written c.args.out.now) (written c.put_text.new.sink) row (λ o e. e)
          (grows_partly_as (written c.args.out.now) (written c.put_text.new.sink) _ _ (c.as_bytes.ensures.value ∙ c.in-Ok.ensures) c.in-Err.ensures.puts.beginning),
    )
