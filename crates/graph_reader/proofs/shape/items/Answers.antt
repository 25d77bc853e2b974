use Rattle.std.proofs.lemmas.Result.{err_from_is_err_and}
use Rattle.graph_reader.specs.Place.{pointer_of}
use Rattle.graph_reader.proofs.Items.{goes_on, ends, is_done, starts}
use Rattle.graph_reader.proofs.shape.items.Goals as goal

pub loop-i-init : goal.loop-i-init
loop-i-init g c = rw c.new-items.ensures.items (starts (g.F.Form.reads c.args.form.now) (pointer_of c.args.place.now) c.args.values.now)

pub returns-in_err-item : goal.returns-in_err-item
returns-in_err-item g c =
    let p = err_from_is_err_and c.from_residual.result c.from_residual.ensures.1 in
    rw (p.1, p.2) (ends c.in_err-item.field-0.0 (g.F.Form.reads c.args.form.now) (pointer_of c.args.place.now) c.loop-i.items.items c.loop-i.i c.args.values.now c.index-values-i.result _ c.loop-i-test.true c.index-values-i.is c.in_err-item.ensures c.loop-i.invariant)

pub loop-i-preserved : goal.loop-i-preserved
loop-i-preserved g c =
    rw c.in_ok-push.ensures.items (goes_on (g.F.Form.reads c.args.form.now) (pointer_of c.args.place.now) c.loop-i.items.items c.loop-i.i c.args.values.now c.index-values-i.result c.in_ok-item.item _ c.loop-i-test.true c.index-values-i.is c.in_ok-item.ensures c.loop-i.invariant)

pub returns : goal.returns
returns g c =
    rw c.new.ensures (is_done (g.F.Form.reads c.args.form.now) (pointer_of c.args.place.now) c.loop-i.items.items c.loop-i.i c.args.values.now _ c.loop-i-test.false c.loop-i.invariant)
