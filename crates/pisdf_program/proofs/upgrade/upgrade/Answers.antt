use Rattle.std.proofs.Common.{Err, Ok, string_bytes}
use Rattle.pisdf_program.specs.Result.{Upgrades}
use Rattle.quiescent_driver.proofs.Runs.{grows_as, grows_partly_as}
use Rattle.pisdf_program.proofs.Working.{told_partly, told_whole, upgrade_there, upgrade_told}
use Rattle.pisdf_program.proofs.upgrade.upgrade.Goals as goal

pub returns-in-Err-clause-there : goal.returns-in-Err-clause-there
returns-in-Err-clause-there g c = upgrade_there (g.S.Shelf.holds c.args.shelf.now c.args.graph.now) (Err c.in-Err.status)

pub returns-in-Ok-put_text-clause-there : goal.returns-in-Ok-put_text-clause-there
returns-in-Ok-put_text-clause-there g c = upgrade_there (g.S.Shelf.holds c.args.shelf.now c.args.graph.now) (Ok c.new.result)

pub returns-in-Ok-put_text-clause-works : goal.returns-in-Ok-put_text-clause-works
returns-in-Ok-put_text-clause-works g c =
    let written = g.O.Sink.written in
    let file = g.S.Shelf.holds c.args.shelf.now c.args.graph.now in
    let text = c.in-Ok-file_of.text.items in
    told_whole (Upgrades file) (written c.args.out.now) (written c.put_text.new.sink) text (string_bytes c.new.result)
    (upgrade_told file c.in-Ok.graphs text c.in-Ok.ensures.settles c.in-Ok-file_of.ensures) c.new.ensures.bytes
    (grows_as (written c.args.out.now) (written c.put_text.new.sink) _ _ c.as_slice.ensures.value c.in-Ok-put_text.ensures.puts.all)

pub returns-clause-works : goal.returns-clause-works
returns-clause-works g c =
    let written = g.O.Sink.written in
    let file = g.S.Shelf.holds c.args.shelf.now c.args.graph.now in
    let text = c.in-Ok-file_of.text.items in (
      c.in-Err-put_text.ensures.puts.failed,
      told_partly (Upgrades file) (written c.args.out.now) (written c.put_text.new.sink) text
          (upgrade_told file c.in-Ok.graphs text c.in-Ok.ensures.settles c.in-Ok-file_of.ensures)
          (grows_partly_as (written c.args.out.now) (written c.put_text.new.sink) _ _ c.as_slice.ensures.value c.in-Err-put_text.ensures.puts.beginning),
    )
