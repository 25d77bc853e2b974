use Rattle.std.proofs.Common.{◌∙◌, List, Ok, ap, arith, length, sym, ℕ}
use Rattle.pisdf_program.proofs.Reading.{read_journal_long, read_journal_short}
use Rattle.pisdf_program.proofs.load.load_journal.Goals as goal

pub returns-in-Ok-clause-settles : goal.returns-in-Ok-clause-settles
returns-in-Ok-clause-settles g c = λ told e.
    let most = c.in-Ok.ensures.at_most in
    read_journal_short told (omega (arith, ap (length {A = ℕ}) (c.in-Ok.ensures.as_told told e), most)) ∙ ap (λ (b : List ℕ). Ok b) (sym (c.new.ensures ∙ c.in-Ok.ensures.as_told told e))

pub returns-in-Err-TooLong-clause-settles : goal.returns-in-Err-TooLong-clause-settles
returns-in-Err-TooLong-clause-settles g c = λ told e answer. read_journal_long told (c.in-Err-TooLong.ensures.only_too_long told e (cc (c.in-Err-TooLong.field-0-is)))
