use Rattle.std.proofs.Common.{◌≡◌, ◌<◌, ℕ, List, length, length-drop, sym, ap, ◌∙◌, subst, arith}
use Rattle.std.specs.Ordering.{ordering_then}
use Rattle.journal_audit.specs.Standing.{IsOpenAt}
use Rattle.journal_audit.proofs.ComparedPaths.{more_steps, no_steps, paths_order}
use Rattle.journal_audit.proofs.LastSteps.{open_round, tail_is}
use Rattle.journal_audit.proofs.asking.+compare_paths.Goals as goal

pub returns-then-depth-eq0 : goal.returns-then-depth-eq0
returns-then-depth-eq0 t c = λ graphs key m so opened beside.
    let long = c.requires.6 in
    let none : length c.args.one.now ≡ 0 = c.if-depth-eq0.true in
    no_steps key m c.args.one.now c.args.other.now none (omega arith)

pub compare_paths-round-requires : goal.compare_paths-round-requires
compare_paths-round-requires t c =
    let r = c.requires in
    let law = c.rules_are_lawful.ensures in
    let rows = c.args.rows.now in
    let one = c.args.one.now in
    let other = c.args.other.now in
    let long = r.6 in
    let some = c.if-depth-eq0.false in
    let a = length-drop 1 one in
    let b = length-drop 1 other in
    let d = ap (λ (p : List ℕ). length p) (tail_is one) in
    let e = ap (λ (p : List ℕ). length p) (tail_is other) in
    let less : 0 < length one = omega arith in
    let more : 0 < length other = omega arith in (
      omega (arith, c.decreases),
      (r.0, r.1, r.2, r.3, subst (IsOpenAt r.2) (sym (tail_is one)) (open_round law r.0 rows r.1 r.2 r.3 one less r.4), subst (IsOpenAt r.2) (sym (tail_is other)) (open_round law r.0 rows r.1 r.2 r.3 other more r.5), omega arith),
    )

pub last_step-step-requires : goal.last_step-step-requires
last_step-step-requires t c =
    let r = c.requires in
    let some = c.if-depth-eq0.false in
    record { some = omega arith; stands = (r.0, r.1, r.2, r.3, r.4) }

pub last_step-beside-requires : goal.last_step-beside-requires
last_step-beside-requires t c =
    let r = c.requires in
    let some = c.if-depth-eq0.false in
    let long = r.6 in
    record { some = omega arith; stands = (r.0, r.1, r.2, r.3, r.5) }

pub returns : goal.returns
returns t c = λ graphs key m so opened beside.
    let law = c.rules_are_lawful.ensures in
    let rows = c.args.rows.now in
    let one = c.args.one.now in
    let other = c.args.other.now in
    let long = c.requires.6 in
    let some = c.if-depth-eq0.false in
    let less : 0 < length one = omega arith in
    let more : 0 < length other = omega arith in
    let round = c.compare_paths-round.ensures graphs key m so (subst (IsOpenAt m) (sym (tail_is one)) (open_round law graphs rows key m so one less opened)) (subst (IsOpenAt m) (sym (tail_is other)) (open_round law graphs rows key m so other more beside))
    ∙ (λ x. paths_order key m (tail_is one x) (tail_is other x)) in
    let x = c.last_step-step.ensures graphs key m so opened in
    let y = c.last_step-beside.ensures graphs key m so beside in
    c.then.ensures ∙ (ap (ordering_then c.compare_paths-round.result) c.compare_steps-order.ensures
    ∙ more_steps law graphs rows key m so one other long less opened beside c.compare_paths-round.result round c.last_step-step.result c.last_step-beside.result x y)
