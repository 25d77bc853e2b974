use Rattle.std.proofs.Common.{◌≡◌, ◌<◌, length, sym, ap, ◌∙◌, subst, false}
use Rattle.std.specs.Prelude.{slice_index}
use Rattle.std.specs.Arc.{arc_value}
use Rattle.std.proofs.lemmas.List.{with_items_is}
use Rattle.ready_heap.specs.Heaps.{Holds}
use Rattle.ready_heap.specs.Bits.{Puts}
use Rattle.ready_heap.specs.Groups.{RankingView, held_by, KeepsBits}
use Rattle.ready_heap.proofs.GroupSteps.{held_at, bits_after, held_after}
use Rattle.ready_heap.proofs.groups.GroupedHeaps.remove.Goals as goal

pub invariant_of-self : goal.invariant_of-self
invariant_of-self c =
    let i = c.self.inside in
    let r : RankingView = arc_value i.ranking in
    let holds : Holds (held_by i.words.items r.ranks) c.args.n = rw (← c.self.view_is) at c.requires in
    let inside : c.args.n < length r.ranks = (held_at i.words.items r.ranks c.args.n holds).0 in
    let rank_is : c.rank-rank.result ≡ slice_index r.ranks c.args.n = c.rank-rank.ensures ∙ ap (λ (v : RankingView). slice_index v.ranks c.args.n) c.deref.ensures in
    let long : length c.take_out.new.words ≡ length i.words.items = c.take_out.auto.words ∙ ap length c.deref_mut.ensures.value in
    let short : length c.take_out.new.summary ≡ length i.summary.items = c.take_out.auto.summary ∙ ap length c.deref_mut-2.ensures.value in
    let same_words = with_items_is i.words c.take_out.new.words (long ∙ sym i.words.ok.0) in
    let same_summary = with_items_is i.summary c.take_out.new.summary (short ∙ sym i.summary.ok.0) in
    let put : Puts (slice_index r.ranks c.args.n) false i.words.items c.take_out.new.words = subst (λ (t : Type 0). t) (λ t. Puts (rank_is t) false (c.deref_mut.ensures.value t) c.take_out.new.words) c.take_out.ensures.put in (
      c.self.invariant.0,
      subst (λ (t : Type 0). t) (λ t. KeepsBits r.numbers (sym same_words t) (sym same_summary t))
          (bits_after r.groups r.keys r.starts r.numbers r.ranks c.self.invariant.0 i.words.items i.summary.items c.self.invariant.1 c.args.n inside false c.take_out.new.words c.take_out.new.summary put c.take_out.ensures.summary short),
    )

pub returns : goal.returns
returns c =
    let i = c.self.inside in
    let r : RankingView = arc_value i.ranking in
    let holds : Holds (held_by i.words.items r.ranks) c.args.n = rw (← c.self.view_is) at c.requires in
    let inside : c.args.n < length r.ranks = (held_at i.words.items r.ranks c.args.n holds).0 in
    let rank_is : c.rank-rank.result ≡ slice_index r.ranks c.args.n = c.rank-rank.ensures ∙ ap (λ (v : RankingView). slice_index v.ranks c.args.n) c.deref.ensures in
    let long : length c.take_out.new.words ≡ length i.words.items = c.take_out.auto.words ∙ ap length c.deref_mut.ensures.value in
    let short : length c.take_out.new.summary ≡ length i.summary.items = c.take_out.auto.summary ∙ ap length c.deref_mut-2.ensures.value in
    let same_words = with_items_is i.words c.take_out.new.words (long ∙ sym i.words.ok.0) in
    let put : Puts (slice_index r.ranks c.args.n) false i.words.items c.take_out.new.words = subst (λ (t : Type 0). t) (λ t. Puts (rank_is t) false (c.deref_mut.ensures.value t) c.take_out.new.words) c.take_out.ensures.put in
    let after = held_after r.groups r.keys r.starts r.numbers r.ranks c.self.invariant.0 i.words.items i.summary.items c.self.invariant.1 c.args.n inside false c.take_out.new.words c.take_out.new.summary put c.take_out.ensures.summary short in
    let held_is = ap (λ ws. held_by ws r.ranks) same_words ∙ after in
    rw (← c.self.view_is) (λ t. record { groups = r.groups; keys = r.keys; held = held_is t })
