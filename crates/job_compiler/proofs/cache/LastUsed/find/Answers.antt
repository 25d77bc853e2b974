use Rattle.std.proofs.Common.{sym, arith}
use Rattle.std.specs.Arc.{arc_value}
use Rattle.job_compiler.specs.Keys.{is_key}
use Rattle.job_compiler.proofs.KeptEntries.{promoted-valued, length-promoted}
use Rattle.job_compiler.proofs.cache.LastUsed.find.Goals as goal

pub invariant_of-self : goal.invariant_of-self
invariant_of-self g c =
    rw c.promote.ensures.entries record {
      room = c.self.invariant.room;
      within = (let long = length-promoted (is_key c.args.key.now) c.self.inside.cache.entries in let within = c.self.invariant.within in omega arith);
    }

pub returns-clause-front : goal.returns-clause-front
returns-clause-front g c = rw (c.promote.ensures.entries, ← c.self.view_is) (sym (promoted-valued arc_value (is_key c.args.key.now) c.self.inside.cache.entries))
