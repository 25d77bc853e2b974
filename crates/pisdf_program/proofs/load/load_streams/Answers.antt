use Rattle.std.proofs.Common.{sym, ap, subst, ◌∙◌, Result, length, arith, ℕ, ℤ, List}
use Rattle.token_text.specs.Streams.{read_of}
use Rattle.pisdf_program.specs.declared.status.Status.{Status}
use Rattle.pisdf_program.specs.Loaded.{Settles}
use Rattle.pisdf_program.specs.Result.{streams_in}
use Rattle.pisdf_program.specs.Inputs.{input_names}
use Rattle.pisdf_program.proofs.Reading.{read_streams_short, read_streams_long}
use Rattle.pisdf_program.proofs.load.load_streams.Goals as goal

pub returns-in-Ok-clause-settles : goal.returns-in-Ok-clause-settles
returns-in-Ok-clause-settles g c = λ told e.
    let same = c.as_slice.ensures.value ∙ c.in-Ok.ensures.as_told told e in
    let most = c.in-Ok.ensures.at_most in
    subst (λ (r : Result (List (List ℤ)) Status). Settles r c.parse_streams.result)
    (ap (λ b. streams_in (read_of b (input_names c.args.graphs.now))) same ∙ sym (read_streams_short c.args.graphs.now told (omega (arith, ap (length {A = ℕ}) (c.in-Ok.ensures.as_told told e), most)))) c.parse_streams.ensures.settles

pub returns-in-Err-TooLong-clause-settles : goal.returns-in-Err-TooLong-clause-settles
returns-in-Err-TooLong-clause-settles g c = λ told e answer. read_streams_long c.args.graphs.now told (c.in-Err-TooLong.ensures.only_too_long told e (cc (c.in-Err-TooLong.field-0-is)))
