use Rattle.std.proofs.Common.{◌∙◌, sym, rules}
use Rattle.level_lines.proofs.AtPorts.{repeated_more, repeated_empty}
use Rattle.level_lines.proofs.reading.repeated_window.Goals as goal

pub loop-i-preserved : goal.loop-i-preserved
loop-i-preserved c =
    repeated_more c.args.source.now c.args.start c.loop-i.i c.loop-i.tokens.items c.extend_from_slice.new.self.items c.loop-i.invariant c.in_ok-extend_from_slice.ensures.items

pub returns-then-is_empty : goal.returns-then-is_empty
returns-then-is_empty c = c.new-then-is_empty.ensures ∙ c.new.ensures.items ∙ sym (repeated_empty c.args.source.now c.args.start c.args.count (search rules))
