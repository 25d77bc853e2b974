use Rattle.std.proofs.Common.{◌≡◌, ◌<◌, ◌≤◌, ◌-◌, true, false, length, take}
use Rattle.std.specs.List.{list_any}
use Rattle.pisdf_model.specs.ParamOrder.{is_late}
use Rattle.pisdf_model.proofs.ordering.first_late.Given as goal

abbrev pub invariant-loop-before : goal.invariant-loop-before
invariant-loop-before l = record {
  order : l.before < l.behind;
  inside : l.behind ≤ length l.places;
  early : list_any (is_late l.graph) (take l.before l.places) ≡ false;
  late : list_any (is_late l.graph) (take l.behind l.places) ≡ true;
}

abbrev pub decreases-loop-before : goal.decreases-loop-before
decreases-loop-before l = l.behind - l.before
