use Rattle.std.proofs.Common.{◌≡◌, ◌<◌, ◌≤◌, ⊎_elim, [], length, ap, ◌∙◌, subst, arith}
use Rattle.std.specs.Prelude.{slice_index_or}
use Rattle.std.proofs.lemmas.Bool.{cases_lt}
use Rattle.std.proofs.lemmas.List.{get_or_read}
use Rattle.one_job.proofs.rooms.most_args.Goals as goal
use Rattle.one_job.proofs.rooms.most_args.Goals.{then-count-most, else-count-most}

pub loop-list-preserved : goal.loop-list-preserved
loop-list-preserved c =
    let lists = c.args.args.now in
    let i = c.loop-list.list-index in
    let item : c.list-item.result ≡ slice_index_or lists i [] = get_or_read lists i c.list-item.result c.loop-list-test.true c.list-item.is [] in
    let count : length c.items-count.result.now ≡ length (slice_index_or lists i []) = ap length (c.items-count.ensures ∙ item) in
    elim c.if-count-most.branch [
      | then-count-most w ↦ record {
        each = λ a below. ⊎_elim
            (λ (before : a < i). omega (arith, w.most-is, w.if-count-most.true, c.loop-list.invariant.each a before))
            (λ (here : i ≤ a). let same : i ≡ a = omega arith in subst (λ k. length (slice_index_or lists k []) ≤ c.if-count-most.most) same (omega (arith, w.most-is, count)))
            (cases_lt a i);
        least = λ m all. omega (arith, w.most-is, count, all i);
      }
      | else-count-most w ↦ record {
        each = λ a below. ⊎_elim
            (λ (before : a < i). omega (arith, w.most-is, c.loop-list.invariant.each a before))
            (λ (here : i ≤ a). let same : i ≡ a = omega arith in subst (λ k. length (slice_index_or lists k []) ≤ c.if-count-most.most) same (omega (arith, w.most-is, w.if-count-most.false, count)))
            (cases_lt a i);
        least = λ m all. omega (arith, w.most-is, c.loop-list.invariant.least m all);
      }
    ]
