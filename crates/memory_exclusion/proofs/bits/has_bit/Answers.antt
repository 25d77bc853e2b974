use Rattle.std.proofs.Common.{◌≡◌, ◌+◌, ◌-◌, ◌*◌, ◌/◌, take, drop, length, get_or, slice_index, ap, ◌∙◌}
use Rattle.std.proofs.lemmas.List.{take_rest, get_or-drop}
use Rattle.memory_exclusion.proofs.bits.has_bit.Goals as goal

pub returns : goal.returns
returns c =
    let start = c.args.row * c.args.width in
    let same : slice_index (take (length c.args.words.now - start) (drop start c.args.words.now)) (c.args.bit / 64) ≡ slice_index c.args.words.now (start + c.args.bit / 64) =
    ap (λ words. get_or words (c.args.bit / 64) 0) (take_rest c.args.words.now start) ∙ get_or-drop start c.args.words.now (c.args.bit / 64) 0 in
    ((λ on. rw same at (c.has_bit.ensures.0 on)), (λ has. c.has_bit.ensures.1 (rw same has)))
