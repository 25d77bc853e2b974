use Rattle.std.proofs.Common.{not, take, refl, ◌∙◌}
use Rattle.pisdf_model.specs.Names.{is_among, repeat_at}
use Rattle.pisdf_model.proofs.Seen.{is_new, seen_more}
use Rattle.pisdf_model.proofs.Walking.{fails_by, passes_by}
use Rattle.pisdf_model.proofs.names.repeat.Goals as goal

pub returns-then-not-branch : goal.returns-then-not-branch
returns-then-not-branch c =
    let name = c.name-item.result in
    let new = is_new c.args.names.now c.loop-name.name-index c.name-item.result c.loop-name-test.true c.name-item.is c.loop-name.seen c.text.result c.text.ensures c.loop-name.invariant.seen c.in_ok-insert.field-0 c.in_ok-insert.ensures.added in
    fails_by (repeat_at c.args.names.now) c.loop-name.name-index c.args.names.now name c.loop-name-test.true c.name-item.is (not (is_among (take c.loop-name.name-index c.args.names.now) name.scope name.name)) name.name refl c.loop-name.invariant.stands (new ∙ c.if-not-branch.true) c.fault_at.result c.fault_at.ensures

pub loop-name-preserved : goal.loop-name-preserved
loop-name-preserved c =
    let name = c.name-item.result in
    let new = is_new c.args.names.now c.loop-name.name-index c.name-item.result c.loop-name-test.true c.name-item.is c.loop-name.seen c.text.result c.text.ensures c.loop-name.invariant.seen c.in_ok-insert.field-0 c.in_ok-insert.ensures.added in
    record {
      stands = passes_by (repeat_at c.args.names.now) c.loop-name.name-index c.args.names.now name c.loop-name-test.true c.name-item.is (not (is_among (take c.loop-name.name-index c.args.names.now) name.scope name.name)) name.name refl c.loop-name.invariant.stands (new ∙ c.if-not-branch.false);
      seen = seen_more c.args.names.now c.loop-name.name-index c.name-item.result c.loop-name-test.true c.name-item.is c.loop-name.seen c.text.result c.text.ensures c.loop-name.invariant.seen c.insert.new.self c.in_ok-insert.ensures.updates.0;
    }
