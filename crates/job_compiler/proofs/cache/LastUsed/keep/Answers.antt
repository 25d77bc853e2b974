use Rattle.job_compiler.proofs.KeptEntries.{put-values, length-put}
use Rattle.job_compiler.proofs.cache.LastUsed.keep.Goals as goal

pub invariant_of-self-2 : goal.invariant_of-self-2
invariant_of-self-2 g c =
    rw c.in_ok-put.ensures.entries record {
      room = c.self.invariant.room;
      within = length-put c.self.inside.cache c.args.key c.args.value c.self.invariant.room c.self.invariant.within;
    }

pub returns-clause-kept : goal.returns-clause-kept
returns-clause-kept g c =
    rw (c.in_ok-put.ensures.entries, ← c.self.view_is) (put-values c.self.inside.cache c.args.key c.args.value c.self.invariant.room c.self.invariant.within)
