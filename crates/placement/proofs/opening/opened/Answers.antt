use Rattle.std.proofs.Common.{◌≡◌, ◌+◌, ◌*◌, ◌/◌, ◌%◌, ◌<◌, ◌≤◌, ⊎_elim, slice_index, subst, arith}
use Rattle.std.proofs.lemmas.Bool.{cases_lt}
use Rattle.placement_checker.specs.Rows.{RowHas}
use Rattle.placement.specs.Placing.{all_in, IsFree}
use Rattle.placement.proofs.Beginning.{gained_bit, has_within}
use Rattle.placement.proofs.Shut.{shut_lower}
use Rattle.placement.proofs.opening.opened.Goals as goal

pub loop-k-preserved : goal.loop-k-preserved
loop-k-preserved c =
    let lower = c.opened_in_word-least.ensures.least in
    let before = c.loop-k.invariant.least in
    record {
      least = omega arith;
      free = λ below. ⊎_elim
          (λ (less : c.opened_in_word-least.result < c.loop-k.least). c.opened_in_word-least.ensures.free less)
          (λ (kept : c.loop-k.least ≤ c.opened_in_word-least.result).
          let same : c.loop-k.least ≡ c.opened_in_word-least.result = omega arith in
          subst (IsFree (RowHas c.args.sought.now.row.now) c.args.sought.now.size (all_in c.args.placed.now)) same (c.loop-k.invariant.free (omega arith)))
          (cases_lt c.opened_in_word-least.result c.loop-k.least);
      shut = λ e inside below has lacks. ⊎_elim
          (λ (earlier : e / 64 < c.loop-k.k). shut_lower (RowHas c.args.sought.now.row.now) c.args.sought.now.size (all_in c.args.placed.now) (slice_index c.args.spots.now.offsets.now e) (slice_index c.args.spots.now.offsets.now e + slice_index c.args.spots.now.sizes.now e) c.loop-k.least c.opened_in_word-least.result lower (c.loop-k.invariant.shut e inside earlier has lacks))
          (λ (last : c.loop-k.k ≤ e / 64).
          let here : e / 64 ≡ c.loop-k.k = omega arith in
          let place : 64 * c.loop-k.k + e % 64 ≡ e = omega arith in
          let gained = gained_bit (slice_index c.args.other.now c.loop-k.k) (slice_index c.args.sought.now.row.now c.loop-k.k) (e % 64) (omega arith) (omega arith) (rw here at has) (λ on. lacks (rw here on)) in
          rw place at (c.opened_in_word-least.ensures.shut (e % 64) (omega arith) (omega arith) gained))
          (cases_lt (e / 64) c.loop-k.k);
    }

pub returns-clause-shut : goal.returns-clause-shut
returns-clause-shut c = λ e inside has lacks.
    let within = has_within c.args.other.now e has in
    c.loop-k.invariant.shut e inside (omega arith) has lacks
