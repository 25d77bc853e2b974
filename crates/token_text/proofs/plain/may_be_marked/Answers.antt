use Rattle.std.proofs.Common.{◌≡◌, length, rules, arith}
use Rattle.std.proofs.lemmas.Bool.{OnFalse_from}
use Rattle.token_text.proofs.PlainFacts.{unmarked, unmarked_none}
use Rattle.token_text.proofs.plain.may_be_marked.Goals as goal

pub returns-then-is_empty : goal.returns-then-is_empty
returns-then-is_empty c =
    let none : length c.args.text.now ≡ 0 = first_of (omega arith, search rules) in
    unmarked_none c.args.text.now none

pub returns : goal.returns
returns c = OnFalse_from _ _ (λ e. unmarked c.args.text.now e)
