use Rattle.std.proofs.Common.{◌≡◌, true, get_or, rules, arith}
use Rattle.std.proofs.lemmas.Grind.{common_steps}
use Rattle.token_text.specs.Plain.{ends_line}
use Rattle.token_text.proofs.PlainFacts.{skip_at}
use Rattle.token_text.proofs.plain.past_line_ends.Goals as goal

pub loop-at-preserved : goal.loop-at-preserved
loop-at-preserved c =
    let text = c.args.text.now in
    let at = c.loop-at.at in
    let ends : ends_line (get_or text at 0) ≡ true = first_of (cc, search rules, grind (arith, common_steps)) in
    (omega arith, omega arith, skip_at text c.args.from at (omega arith) ends c.loop-at.invariant.2)
