use Rattle.std.proofs.Common.{◌≡◌, IfOk, true, false, subst, ◌∙◌}
use Rattle.board_calls.proofs.Lasting.{idle_then}
use Rattle.board_calls.proofs.Playing.{idle_after}
use Rattle.board_calls.proofs.crew.has_ended.Goals as goal

pub returns-in-Finished-clause-idle : goal.returns-in-Finished-clause-idle
returns-in-Finished-clause-idle c =
    idle_then c.board_laws.ensures 0 c.args.board.now c.claim.new.board c.journal-before.ensures.sound c.journal-ended.ensures.sound c.claim.ensures.steps c.requires.idle c.in-Finished.ensures.holds

pub returns-in_default : goal.returns-in_default
returns-in_default c =
    let back = c.finish-finished.ensures in record {
      idle = idle_after c.board_laws.ensures 0 c.args.board.now c.claim.new.board c.finish-finished.new.board c.journal-before.ensures.sound c.journal-after.ensures.sound c.claim.ensures.steps back c.requires.idle;
      key = back.0.key ∙ c.claim.ensures.steps.key;
      over = λ is. let no : true ≡ false = subst (λ r. IfOk r (λ done. done ≡ false)) is c.not_done.ensures in absurd (cc);
    }
