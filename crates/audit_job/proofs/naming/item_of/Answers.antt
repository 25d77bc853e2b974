use Rattle.std.proofs.Common.{◌<◌, length, ap, ◌∙◌, arith}
use Rattle.std.proofs.lemmas.List.{get_or_read}
use Rattle.board_rules.specs.declared.entry.ItemName.TheVariants.{Configure}
use Rattle.audit_job.proofs.NamedItems.{names_actor, place_few}
use Rattle.audit_job.proofs.naming.item_of.Goals as goal

pub overflow_cast-result : goal.overflow_cast-result
overflow_cast-result c =
    let job = c.args.job.now in
    let inside : c.args.item < length job.places.items = omega (arith, job.places.ok.0) in
    let at = get_or_read job.places.items c.args.item c.index.result.now inside c.index.ensures 0 in
    let few = place_few job c.requires.valid c.args.item inside in
    omega arith

pub returns-then-item-base : goal.returns-then-item-base
returns-then-item-base c = λ graphs workers is.
    let job = c.args.job.now in
    let inside : c.args.item < length job.places.items = omega (arith, job.places.ok.0) in
    let at = get_or_read job.places.items c.args.item c.index.result.now inside c.index.ensures 0 in
    ap Configure at ∙ names_actor graphs workers job is c.args.item inside
