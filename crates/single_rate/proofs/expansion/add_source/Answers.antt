use Rattle.std.proofs.Common.{◌≡◌, List, ◌++◌, length, ap, ◌∙◌, arith}
use Rattle.single_rate.specs.declared.part.Part.{Part}
use Rattle.single_rate.specs.Wires.{firing_parts, total}
use Rattle.single_rate.proofs.Given.{total-firings}
use Rattle.single_rate.proofs.Snocs.{firings-length}
use Rattle.single_rate.proofs.expansion.add_source.Goals as goal

pub cut_and_join-requires-clause-few_readers : goal.cut_and_join-requires-clause-few_readers
cut_and_join-requires-clause-few_readers c =
    let is : c.deref.result.now ≡ firing_parts c.args.into.actor c.args.into.port c.args.into.rate 0 c.args.into.count = c.deref.ensures.value ∙ c.in_ok-add_firings.ensures ∙ ap (λ (x : List Part). x ++ firing_parts c.args.into.actor c.args.into.port c.args.into.rate 0 c.args.into.count) c.new-readers.ensures.items in
    let l = ap (λ (x : List Part). length x) is in
    let n = firings-length c.args.into.actor c.args.into.port c.args.into.rate 0 c.args.into.count in
    omega arith

pub cut_and_join-requires-clause-readers_short : goal.cut_and_join-requires-clause-readers_short
cut_and_join-requires-clause-readers_short c =
    let is : c.deref.result.now ≡ firing_parts c.args.into.actor c.args.into.port c.args.into.rate 0 c.args.into.count = c.deref.ensures.value ∙ c.in_ok-add_firings.ensures ∙ ap (λ (x : List Part). x ++ firing_parts c.args.into.actor c.args.into.port c.args.into.rate 0 c.args.into.count) c.new-readers.ensures.items in
    let l = ap total is in
    let n = total-firings c.args.into.actor c.args.into.port c.args.into.rate 0 c.args.into.count in
    omega arith
