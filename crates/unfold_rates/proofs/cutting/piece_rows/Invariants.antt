use Rattle.std.proofs.Common.{◌≡◌, ◌*◌, ℕ, take, zip}
use Rattle.std.specs.List.{flat_map}
use Rattle.pisdf_model.specs.declared.actor.Actor.{Actor}
use Rattle.unfold_rates.specs.Cut.{firings_rows}
use Rattle.unfold_rates.proofs.cutting.piece_rows.Given as goal

abbrev pub invariant-loop-place : goal.invariant-loop-place
invariant-loop-place l = l.trace.items ≡ flat_map (λ (one : Actor × ℕ). firings_rows l.top.name one.0.name (l.number * one.1) one.1 l.rows) (take l.place (zip l.top.actors l.counts))
