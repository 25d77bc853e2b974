use Rattle.std.proofs.Common.{ℤ, ◌<◌, List, [], length, ap, sym, ◌∙◌, arith, Vec, Global}
use Rattle.std.proofs.lemmas.List.{get_or-map, length-map}
use Rattle.sdf_level.specs.Lists.{lists_of}
use Rattle.level_lines.proofs.Leaves.{written_here, written_later}
use Rattle.level_lines.proofs.ends.written_to.Goals as goal

pub returns-then-leads_to_sink : goal.returns-then-leads_to_sink
returns-then-leads_to_sink c =
    let lines : List (Vec ℤ Global) = c.args.lines.now in
    let items = λ (v : Vec ℤ Global). v.items in
    let inside : c.loop-i.i < length lines = let t = c.loop-i-test.true in let r = c.requires in omega arith in
    let too : c.loop-i.i < length (lists_of lines) = rw (length-map lines items) inside in
    c.as_slice.ensures.value ∙ ap items c.index-lines-i.is ∙ sym (get_or-map items lines c.loop-i.i c.index-lines-i.result [] inside)
    ∙ sym (c.loop-i.invariant ∙ written_here c.args.sink c.loop-i.i c.args.links.now (lists_of lines) c.loop-i-test.true too (sym c.leads_to_sink.ensures ∙ c.if-leads_to_sink.true))

pub loop-i-preserved : goal.loop-i-preserved
loop-i-preserved c =
    let lines : List (Vec ℤ Global) = c.args.lines.now in
    let items = λ (v : Vec ℤ Global). v.items in
    let inside : c.loop-i.i < length lines = let t = c.loop-i-test.true in let r = c.requires in omega arith in
    let too : c.loop-i.i < length (lists_of lines) = rw (length-map lines items) inside in
    c.loop-i.invariant ∙ written_later c.args.sink c.loop-i.i c.args.links.now (lists_of lines) c.loop-i-test.true too (sym c.leads_to_sink.ensures ∙ c.if-leads_to_sink.false)
