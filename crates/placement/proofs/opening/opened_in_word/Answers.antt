use Rattle.std.proofs.Common.{◌≡◌, ◌+◌, ◌<◌, ◌≤◌, ◌∙◌, inl, inr, ⊎_elim, slice_index, subst, arith, rules, w64}
use Rattle.std.proofs.lemmas.Bool.{cases_eq, cases_lt}
use Rattle.std.proofs.lemmas.Nat.Bits.{bit_at-trailing_zeros, bit_at-zero}
use Rattle.std.specs.Int.{trailing_zeros}
use Rattle.placement_checker.specs.Rows.{RowHas}
use Rattle.placement.specs.Placing.{all_in, IsFree}
use Rattle.placement.proofs.Beginning.{cleared}
use Rattle.placement.proofs.Shut.{shut_lower}
use Rattle.placement.proofs.opening.opened_in_word.Goals as goal

pub loop-left-smaller : goal.loop-left-smaller
loop-left-smaller c =
    let lowest = bit_at-trailing_zeros w64 c.loop-left.left (omega arith) (search rules) in
    (cleared c.loop-left.left _ lowest.0 lowest.1).0

pub loop-left-preserved : goal.loop-left-preserved
loop-left-preserved c =
    let lowest = bit_at-trailing_zeros w64 c.loop-left.left (omega arith) (search rules) in
    let others = (cleared c.loop-left.left _ lowest.0 lowest.1).1 in
    let lower = c.opened_by-least.ensures.least in
    let before = c.loop-left.invariant.least in
    record {
      least = omega arith;
      free = λ below. ⊎_elim
          (λ (less : c.opened_by-least.result < c.loop-left.least). c.opened_by-least.ensures.free less)
          (λ (kept : c.loop-left.least ≤ c.opened_by-least.result).
          let same : c.loop-left.least ≡ c.opened_by-least.result = omega arith in
          subst (IsFree (RowHas c.args.sought.now.row.now) c.args.sought.now.size (all_in c.args.placed.now)) same (c.loop-left.invariant.free (omega arith)))
          (cases_lt c.opened_by-least.result c.loop-left.least);
      shut = λ bit small inside set gone.
          elim (cases_eq bit (trailing_zeros w64 c.loop-left.left)) [
            | inl same ↦ rw same (c.opened_by-least.ensures.shut (rw same at inside))
            | inr other ↦ shut_lower (RowHas c.args.sought.now.row.now) c.args.sought.now.size (all_in c.args.placed.now) (slice_index c.args.spots.now.offsets.now (c.args.first + bit)) (slice_index c.args.spots.now.offsets.now (c.args.first + bit) + slice_index c.args.spots.now.sizes.now (c.args.first + bit)) c.loop-left.least c.opened_by-least.result lower (c.loop-left.invariant.shut bit small inside set (λ still. gone (others bit small other ∙ still)))
          ];
    }

pub returns-clause-shut : goal.returns-clause-shut
returns-clause-shut c = λ bit small inside set.
    c.loop-left.invariant.shut bit small inside set (λ still.
    let zero_left : c.loop-left.left ≡ 0 = omega arith in
    let h = rw zero_left at still in
    let none = bit_at-zero bit in
    absurd (omega arith))
