use Rattle.std.proofs.Common.{◌≡◌, ◌+◌, ◌++◌, true, get_or, zip, drop, arith, sym, ap, ◌∙◌, append_assoc}
use Rattle.pisdf_model.specs.Ports.{sets_of}
use Rattle.pisdf_model.specs.InterfaceWires.{is_configuration}
use Rattle.pisdf_meaning.specs.Configuring.{configurations_from}
use Rattle.pisdf_meaning.specs.Preparing.{first_sets, values_set}
use Rattle.pisdf_meaning.proofs.Setting.{set_here}
use Rattle.pisdf_meaning.proofs.resolving.values_set.Goals as goal

pub loop-actor-preserved : goal.loop-actor-preserved
loop-actor-preserved c =
    let l = c.loop-actor in
    let actors = c.args.actors.now in
    let left = c.args.configured.now in
    let x = c.actor-item.result in
    let few = l.invariant.few in
    let is : is_configuration (get_or actors l.actor-index x).body ≡ true = ap (λ a. is_configuration a.body) (sym c.actor-item.is) ∙ sym c.if-not-is_configuration.ensures in
    let step = set_here actors left l.actor-index l.number x c.loop-actor-test.true is in
    let rest = values_set (configurations_from (l.number + 1) (l.actor-index + 1) (drop (l.actor-index + 1) actors)) (drop (l.number + 1) left) in
    let same = ap (λ a. sets_of a.body) (sym c.actor-item.is) in
    let now = c.in_ok-add_sets.ensures ∙ ap (λ s. l.sets.items ++ zip s c.sets_left.result.now) (c.sets_of.ensures ∙ sym same) ∙ ap (λ v. l.sets.items ++ zip (sets_of (get_or actors l.actor-index x).body) v) c.sets_left.ensures in
    record {
      few = omega arith;
      sets = ap (λ s. s ++ rest) now ∙ append_assoc l.sets.items (zip (sets_of (get_or actors l.actor-index x).body) (first_sets (drop l.number left))) rest ∙ ap (λ s. l.sets.items ++ s) (sym step) ∙ l.invariant.sets;
    }
