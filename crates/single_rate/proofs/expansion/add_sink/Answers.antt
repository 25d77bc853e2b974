use Rattle.std.proofs.Common.{◌≡◌, List, ◌++◌, length, ap, ◌∙◌, arith}
use Rattle.single_rate.specs.declared.part.Part.{Part}
use Rattle.single_rate.specs.Wires.{firing_parts, total}
use Rattle.single_rate.proofs.Given.{total-firings}
use Rattle.single_rate.proofs.Snocs.{firings-length}
use Rattle.single_rate.proofs.expansion.add_sink.Goals as goal

pub cut_and_join-requires-clause-few_writers : goal.cut_and_join-requires-clause-few_writers
cut_and_join-requires-clause-few_writers c =
    let is : c.deref.result.now ≡ firing_parts c.args.from.actor c.args.from.port c.args.from.rate 0 c.args.from.count = c.deref.ensures.value ∙ c.in_ok-add_firings.ensures ∙ ap (λ (x : List Part). x ++ firing_parts c.args.from.actor c.args.from.port c.args.from.rate 0 c.args.from.count) c.new-writers.ensures.items in
    let l = ap (λ (x : List Part). length x) is in
    let n = firings-length c.args.from.actor c.args.from.port c.args.from.rate 0 c.args.from.count in
    omega arith

pub cut_and_join-requires-clause-short : goal.cut_and_join-requires-clause-short
cut_and_join-requires-clause-short c =
    let is : c.deref.result.now ≡ firing_parts c.args.from.actor c.args.from.port c.args.from.rate 0 c.args.from.count = c.deref.ensures.value ∙ c.in_ok-add_firings.ensures ∙ ap (λ (x : List Part). x ++ firing_parts c.args.from.actor c.args.from.port c.args.from.rate 0 c.args.from.count) c.new-writers.ensures.items in
    let l = ap total is in
    let n = total-firings c.args.from.actor c.args.from.port c.args.from.rate 0 c.args.from.count in
    omega arith
