use Rattle.outer_world.proofs.Sent.{Sent-more, Sent-same, Sent-beginning}
use Rattle.outer_world.proofs.stream_sink.write_whole.Goals as goal

pub loop-rest-preserved : goal.loop-rest-preserved
loop-rest-preserved g c = rw c.split_at.ensures.back (Sent-more _ _ _ _ _ c.in-Ok.taken c.loop-rest.invariant c.in-Ok.ensures.grown)

pub returns-in-Err-clause-beginning : goal.returns-in-Err-clause-beginning
returns-in-Err-clause-beginning g c = Sent-beginning _ _ _ _ (Sent-same _ _ _ _ _ c.loop-rest.invariant c.in-Err.ensures.same)
