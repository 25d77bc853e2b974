use Rattle.std.proofs.Common.{◌≡◌, ◌<◌, inl, inr, length, slice_index, sym, ◌∙◌, arith}
use Rattle.std.proofs.lemmas.List.{get_or_read}
use Rattle.sdf_level.proofs.Branches.{OnOk-map}
use Rattle.interface_rules.proofs.Grouping.{groups_apart, groups_joined, united_own}
use Rattle.interface_rules.proofs.component.join.Goals as goal

pub returns-then-put-eq0-clause-joined : goal.returns-then-put-eq0-clause-joined
returns-then-put-eq0-clause-joined c = groups_apart (length c.args.groups.now.number.items) c.args.link.now c.args.groups.now.number.items (elim c.then-put-eq0.either [ inl none ↦ inl none | inr other ↦ inr other.1 ])

pub returns-then-first-second-clause-joined : goal.returns-then-first-second-clause-joined
returns-then-first-second-clause-joined c =
    let first : c.index-first.result.now ≡ slice_index c.args.groups.now.number.items c.args.link.now.tail = get_or_read c.args.groups.now.number.items c.args.link.now.tail c.index-first.result.now c.requires.link.tail_there c.index-first.ensures 0 in
    let second : c.index-second.result.now ≡ slice_index c.args.groups.now.number.items c.args.link.now.head = get_or_read c.args.groups.now.number.items c.args.link.now.head c.index-second.result.now c.requires.link.head_there c.index-second.ensures 0 in
    let puts : 0 < c.args.link.now.produced = let h = c.if-put-eq0.false in omega arith in
    let takes : 0 < c.args.link.now.consumed = let h = c.if-taken-eq0.false in omega arith in
    groups_joined (length c.args.groups.now.number.items) c.args.link.now.tail 0 c.args.link.now.produced c.args.link.now.head 0 c.args.link.now.consumed c.args.link.now.delay c.args.groups.now.number.items c.args.groups.now.number.items c.requires.link.tail_there c.requires.link.head_there puts takes (united_own c.args.groups.now.number.items _ _ (sym first ∙ c.if-first-second.true ∙ second))

pub returns-clause-joined : goal.returns-clause-joined
returns-clause-joined c =
    let first : c.index-first.result.now ≡ slice_index c.args.groups.now.number.items c.args.link.now.tail = get_or_read c.args.groups.now.number.items c.args.link.now.tail c.index-first.result.now c.requires.link.tail_there c.index-first.ensures 0 in
    let second : c.index-second.result.now ≡ slice_index c.args.groups.now.number.items c.args.link.now.head = get_or_read c.args.groups.now.number.items c.args.link.now.head c.index-second.result.now c.requires.link.head_there c.index-second.ensures 0 in
    let puts : 0 < c.args.link.now.produced = let h = c.if-put-eq0.false in omega arith in
    let takes : 0 < c.args.link.now.consumed = let h = c.if-taken-eq0.false in omega arith in
    OnOk-map c.unite.result (λ united. groups_joined (length c.args.groups.now.number.items) c.args.link.now.tail 0 c.args.link.now.produced c.args.link.now.head 0 c.args.link.now.consumed c.args.link.now.delay c.args.groups.now.number.items c.unite.new.self.number.items c.requires.link.tail_there c.requires.link.head_there puts takes (rw (first, second) at united)) c.unite.ensures.united
