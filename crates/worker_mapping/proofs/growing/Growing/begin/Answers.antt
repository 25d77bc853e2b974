use Rattle.std.proofs.Common.{arith, refl}
use Rattle.std.proofs.lemmas.Grind.{common_steps}
use Rattle.worker_mapping.proofs.growing.Growing.begin.Goals as goal

pub returns : goal.returns
returns c = record {
  none = c.in_ok-with_capacity.ensures.items;
  waiting = c.in_ok-waiting.ensures;
  candidates = rw c.deref.ensures.value at c.in_ok-places_of_zero.ensures;
  ready_long = grind (arith, common_steps);
  ready = λ n. grind (arith, common_steps);
  free_long = grind (arith, common_steps);
  free = λ n. grind (arith, common_steps);
  due = c.new.ensures.empty;
  later = c.new-2.ensures.empty;
  now = refl;
}
