use Rattle.std.proofs.Common.{◌≡◌, ◌<◌, length, sym, ap, ◌∙◌, subst, arith, true}
use Rattle.std.specs.Prelude.{slice_index}
use Rattle.std.specs.Arc.{arc_value}
use Rattle.std.proofs.lemmas.List.{with_items_is}
use Rattle.ready_heap.specs.Bits.{Puts}
use Rattle.ready_heap.specs.Groups.{RankingView, held_by, KeepsBits}
use Rattle.ready_heap.proofs.GroupSteps.{held_length, bits_after, held_after}
use Rattle.ready_heap.proofs.groups.GroupedHeaps.insert.Goals as goal

pub invariant_of-self : goal.invariant_of-self
invariant_of-self c =
    let i = c.self.inside in
    let r : RankingView = arc_value i.ranking in
    let held : c.args.n < length (held_by i.words.items r.ranks) = rw (← c.self.view_is) at c.requires.below in
    let inside : c.args.n < length r.ranks = omega (arith, held, held_length i.words.items r.ranks) in
    let rank_is : c.rank-rank.result ≡ slice_index r.ranks c.args.n = c.rank-rank.ensures ∙ ap (λ (v : RankingView). slice_index v.ranks c.args.n) c.deref.ensures in
    let long : length c.put_in.new.words ≡ length i.words.items = c.put_in.auto.words ∙ ap length c.deref_mut.ensures.value in
    let short : length c.put_in.new.summary ≡ length i.summary.items = c.put_in.auto.summary ∙ ap length c.deref_mut-2.ensures.value in
    let same_words = with_items_is i.words c.put_in.new.words (long ∙ sym i.words.ok.0) in
    let same_summary = with_items_is i.summary c.put_in.new.summary (short ∙ sym i.summary.ok.0) in
    let put : Puts (slice_index r.ranks c.args.n) true i.words.items c.put_in.new.words = subst (λ (t : Type 0). t) (λ t. Puts (rank_is t) true (c.deref_mut.ensures.value t) c.put_in.new.words) c.put_in.ensures.put in (
      c.self.invariant.0,
      subst (λ (t : Type 0). t) (λ t. KeepsBits r.numbers (sym same_words t) (sym same_summary t))
          (bits_after r.groups r.keys r.starts r.numbers r.ranks c.self.invariant.0 i.words.items i.summary.items c.self.invariant.1 c.args.n inside true c.put_in.new.words c.put_in.new.summary put c.put_in.ensures.summary short),
    )

pub returns : goal.returns
returns c =
    let i = c.self.inside in
    let r : RankingView = arc_value i.ranking in
    let held : c.args.n < length (held_by i.words.items r.ranks) = rw (← c.self.view_is) at c.requires.below in
    let inside : c.args.n < length r.ranks = omega (arith, held, held_length i.words.items r.ranks) in
    let rank_is : c.rank-rank.result ≡ slice_index r.ranks c.args.n = c.rank-rank.ensures ∙ ap (λ (v : RankingView). slice_index v.ranks c.args.n) c.deref.ensures in
    let long : length c.put_in.new.words ≡ length i.words.items = c.put_in.auto.words ∙ ap length c.deref_mut.ensures.value in
    let short : length c.put_in.new.summary ≡ length i.summary.items = c.put_in.auto.summary ∙ ap length c.deref_mut-2.ensures.value in
    let same_words = with_items_is i.words c.put_in.new.words (long ∙ sym i.words.ok.0) in
    let put : Puts (slice_index r.ranks c.args.n) true i.words.items c.put_in.new.words = subst (λ (t : Type 0). t) (λ t. Puts (rank_is t) true (c.deref_mut.ensures.value t) c.put_in.new.words) c.put_in.ensures.put in
    let after = held_after r.groups r.keys r.starts r.numbers r.ranks c.self.invariant.0 i.words.items i.summary.items c.self.invariant.1 c.args.n inside true c.put_in.new.words c.put_in.new.summary put c.put_in.ensures.summary short in
    let held_is = ap (λ ws. held_by ws r.ranks) same_words ∙ after in
    rw (← c.self.view_is) (λ t. record { groups = r.groups; keys = r.keys; held = held_is t })
