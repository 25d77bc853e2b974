use Rattle.std.proofs.Common.{take}
use Rattle.pisdf_model.specs.Names.{repeat_at}
use Rattle.pisdf_model.proofs.Seen.{Seen}
use Rattle.pisdf_model.proofs.Walking.{Stands}
use Rattle.pisdf_model.proofs.names.repeat.Given as goal

abbrev pub invariant-loop-name : goal.invariant-loop-name
invariant-loop-name l = record {
  stands : Stands 0 (λ n name. repeat_at l.names n name) l.name-index l.names;
  seen : Seen l.seen (take l.name-index l.names);
}
