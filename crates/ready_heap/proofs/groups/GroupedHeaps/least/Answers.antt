use Rattle.std.proofs.Common.{◌≡◌, ℕ, ◌+◌, ◌<◌, ◌∙◌, length, sym, ap, subst, arith}
use Rattle.std.specs.Prelude.{slice_index, Some, None}
use Rattle.std.specs.Arc.{arc_value}
use Rattle.ready_heap.specs.Bits.{IsNext}
use Rattle.ready_heap.specs.Groups.{RankingView, group_count, IsLeastOf}
use Rattle.ready_heap.proofs.GroupSteps.{view, none_next, next_past, next_least}
use Rattle.ready_heap.proofs.groups.GroupedHeaps.least.Goals as goal

pub returns-in-Some : goal.returns-in-Some
returns-in-Some c =
    let i = c.self.inside in
    let r : RankingView = arc_value i.ranking in
    let inside : c.args.group + 1 < length r.starts = omega (arith, c.if-group-groups.false, c.groups.ensures, ap group_count c.deref.ensures) in
    let start_is : c.range-start.result.0 ≡ slice_index r.starts c.args.group = c.range-start.ensures.start ∙ ap (λ (v : RankingView). slice_index v.starts c.args.group) c.deref-2.ensures in
    let end_is : c.range-start.result.1 ≡ slice_index r.starts (c.args.group + 1) = c.range-start.ensures.end ∙ ap (λ (v : RankingView). slice_index v.starts (c.args.group + 1)) c.deref-2.ensures in
    let next : IsNext i.words.items (slice_index r.starts c.args.group) (Some c.in-Some.rank) = subst (λ (t : Type 0). t) (λ t. IsNext (c.deref-3.ensures.value t) (start_is t) (Some c.in-Some.rank)) c.in-Some.ensures in
    let below : c.in-Some.rank < slice_index r.starts (c.args.group + 1) = omega (arith, end_is, c.if-rank-end.true) in
    let number_is : c.number.result ≡ slice_index r.numbers c.in-Some.rank = c.number.ensures ∙ ap (λ (v : RankingView). slice_index v.numbers c.in-Some.rank) c.deref-in-Some.ensures in
    rw (← c.self.view_is) (subst (λ (k : ℕ). IsLeastOf (view r.groups r.keys r.starts r.numbers r.ranks c.self.invariant.0 i.words.items i.summary.items c.self.invariant.1) c.args.group (Some k)) (sym number_is)
    (next_least r.groups r.keys r.starts r.numbers r.ranks c.self.invariant.0 i.words.items i.summary.items c.self.invariant.1 c.args.group inside c.in-Some.rank next below))

pub returns-in_default : goal.returns-in_default
returns-in_default c =
    let i = c.self.inside in
    let r : RankingView = arc_value i.ranking in
    let inside : c.args.group + 1 < length r.starts = omega (arith, c.if-group-groups.false, c.groups.ensures, ap group_count c.deref.ensures) in
    let start_is : c.range-start.result.0 ≡ slice_index r.starts c.args.group = c.range-start.ensures.start ∙ ap (λ (v : RankingView). slice_index v.starts c.args.group) c.deref-2.ensures in
    let end_is : c.range-start.result.1 ≡ slice_index r.starts (c.args.group + 1) = c.range-start.ensures.end ∙ ap (λ (v : RankingView). slice_index v.starts (c.args.group + 1)) c.deref-2.ensures in
    let next : IsNext i.words.items (slice_index r.starts c.args.group) (Some c.in-Some.rank) = subst (λ (t : Type 0). t) (λ t. IsNext (c.deref-3.ensures.value t) (start_is t) (Some c.in-Some.rank)) c.in-Some.ensures in
    rw (← c.self.view_is) (next_past r.groups r.keys r.starts r.numbers r.ranks c.self.invariant.0 i.words.items i.summary.items c.self.invariant.1 c.args.group inside c.in-Some.rank next (omega (arith, end_is, c.if-rank-end.false)))

pub returns-in_default-2 : goal.returns-in_default-2
returns-in_default-2 c =
    let i = c.self.inside in
    let r : RankingView = arc_value i.ranking in
    let inside : c.args.group + 1 < length r.starts = omega (arith, c.if-group-groups.false, c.groups.ensures, ap group_count c.deref.ensures) in
    let start_is : c.range-start.result.0 ≡ slice_index r.starts c.args.group = c.range-start.ensures.start ∙ ap (λ (v : RankingView). slice_index v.starts c.args.group) c.deref-2.ensures in
    let none : IsNext i.words.items (slice_index r.starts c.args.group) None = subst (λ (t : Type 0). t) (λ t. IsNext (c.deref-3.ensures.value t) (start_is t) (c.in_default.is t)) c.first_from.ensures in
    rw (← c.self.view_is) (none_next r.groups r.keys r.starts r.numbers r.ranks c.self.invariant.0 i.words.items i.summary.items c.self.invariant.1 c.args.group inside none)
