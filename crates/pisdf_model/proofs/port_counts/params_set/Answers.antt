use Rattle.std.proofs.Common.{◌==◌, count_by, length, refl, sym, ap, ◌∙◌}
use Rattle.pisdf_model.specs.Ports.{is_set_as_due, param_ports}
use Rattle.pisdf_model.proofs.Tallied.{read_count}
use Rattle.pisdf_model.proofs.Walking.{fails_by, passes_by}
use Rattle.pisdf_model.proofs.port_counts.params_set.Goals as goal

pub returns-then-not-is_set_as_due : goal.returns-then-not-is_set_as_due
returns-then-not-is_set_as_due c =
    let p = c.index-params-place.result in
    let place = c.loop-place.place in
    let times = read_count c.args.sets.now c.in_ok-times.times.items (length c.args.params.now) c.in_ok-times.ensures.long c.in_ok-times.ensures.exact place c.index.result.now c.loop-place-test.true c.index.ensures in
    let due = sym (c.is_set_as_due.ensures ∙ ap (is_set_as_due c.args.is_top p.kind) times) in
    fails_by (λ i p. param_ports c.args.is_top c.args.sets.now i p) place c.args.params.now p c.loop-place-test.true c.index-params-place.is (is_set_as_due c.args.is_top p.kind (count_by (λ s. s == place) c.args.sets.now)) p.name refl c.loop-place.invariant (due ∙ c.if-not-is_set_as_due.true) c.fault_at.result c.fault_at.ensures

pub loop-place-preserved : goal.loop-place-preserved
loop-place-preserved c =
    let p = c.index-params-place.result in
    let place = c.loop-place.place in
    let times = read_count c.args.sets.now c.in_ok-times.times.items (length c.args.params.now) c.in_ok-times.ensures.long c.in_ok-times.ensures.exact place c.index.result.now c.loop-place-test.true c.index.ensures in
    let due = sym (c.is_set_as_due.ensures ∙ ap (is_set_as_due c.args.is_top p.kind) times) in
    passes_by (λ i p. param_ports c.args.is_top c.args.sets.now i p) place c.args.params.now p c.loop-place-test.true c.index-params-place.is (is_set_as_due c.args.is_top p.kind (count_by (λ s. s == place) c.args.sets.now)) p.name refl c.loop-place.invariant (due ∙ c.if-not-is_set_as_due.false)
