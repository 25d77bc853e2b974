use Rattle.std.proofs.Common.{◌<◌, length, get_or, arith, ◌∙◌}
use Rattle.std.proofs.lemmas.List.{length-set}
use Rattle.worker_mapping.specs.declared.entry.Entry.{Entry}
use Rattle.worker_mapping.proofs.Lists.{each-at}
use Rattle.worker_mapping.proofs.Homes.{HaveHomes-more}
use Rattle.worker_mapping.proofs.mapping.homes.Goals as goal

pub loop-entry-preserved : goal.loop-entry-preserved
loop-entry-preserved c =
    let none : Entry = record { node = 0; worker = 0; start = 0; end = 0 } in
    let e : Entry = get_or c.args.entries.now c.loop-entry.entry-index none in
    let there : e.node < c.args.nodes = each-at (λ (x : Entry). x.node < c.args.nodes) c.args.entries.now c.loop-entry.entry-index none c.loop-entry-test.true c.requires.there in
    let inside : e.node < length c.loop-entry.home.items = (let l = c.loop-entry.invariant.long in omega arith) in
    record {
      long = length-set c.loop-entry.home.items e.node e.worker ∙ c.loop-entry.invariant.long;
      each = HaveHomes-more c.loop-entry.home.items c.args.entries.now c.loop-entry.entry-index none c.loop-entry-test.true inside (c.requires.once e.node there) c.loop-entry.invariant.each;
    }
