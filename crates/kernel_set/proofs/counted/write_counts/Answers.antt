use Rattle.std.proofs.Common.{◌≡◌, ◌<◌, ℕ, List, length, length-set, take, get_or, ap, ◌∙◌, rules, arith, FitsSigned, w64}
use Rattle.std.specs.Prelude.{ℤ, pos, ◌+ℤ◌, count_by}
use Rattle.std.proofs.lemmas.Int.{to_z-of_z}
use Rattle.std.proofs.lemmas.List.{take_all}
use Rattle.std.proofs.lemmas.List.FromFn.{fill_by_all}
use Rattle.kernel_gate.specs.Counted.{in_bin}
use Rattle.kernel_set.proofs.Bins.{counted_same, counted_at, counted_past, count_fits}
use Rattle.kernel_set.proofs.counted.write_counts.Goals as goal
use Rattle.kernel_set.proofs.counted.write_counts.Goals.{in-Some+then-bin-o, in-Some+else-bin-o, in_default}

pub loop-t-preserved : goal.loop-t-preserved
loop-t-preserved c b lt =
    let x = c.args.x.now in
    let i = c.loop-t.t-index in
    let token : FitsSigned w64 (get_or x i (pos 0)) = search rules in
    elim c.match-bin_of.branch [
      | in-Some+then-bin-o w ↦
          let bin = w.in-Some.bin in
          let here : b < length c.loop-t.o = omega (arith, ap (λ (l : List ℤ). length l) w.o-is, length-set {A = ℤ}) in
          let at = rw (to_z-of_z w64 _ token) at (w.in-Some.ensures.within b) in
          let count : FitsSigned w64 (get_or c.loop-t.o bin (pos 0)) = search rules in
          let one_more : FitsSigned w64 (get_or c.loop-t.o bin (pos 0) +ℤ pos 1) = count_fits _ x i c.loop-t.o bin (omega arith) (c.loop-t.invariant bin w.if-bin-o.true) in
          let o = rw (to_z-of_z w64 _ one_more) at (rw (to_z-of_z w64 _ count) at w.o-is) in
          ap (λ (l : List ℤ). get_or l b (pos 0)) o ∙ counted_at _ x i c.loop-t.o bin b c.loop-t-test.true w.if-bin-o.true at (c.loop-t.invariant b here)
      | in-Some+else-bin-o w ↦
          let here : b < length c.loop-t.o = omega (arith, ap (λ (l : List ℤ). length l) w.o-is) in
          let at = rw (to_z-of_z w64 _ token) at (w.in-Some.ensures.within b) in
          ap (λ (l : List ℤ). get_or l b (pos 0)) w.o-is ∙ counted_past _ x i c.loop-t.o w.in-Some.bin b c.loop-t-test.true w.if-bin-o.false here at (c.loop-t.invariant b here)
      | in_default w ↦
          let here : b < length c.loop-t.o = omega (arith, ap (λ (l : List ℤ). length l) w.o-is) in
          let at = rw (to_z-of_z w64 _ token) at (w.in_default.ensures.below b) in
          ap (λ (l : List ℤ). get_or l b (pos 0)) w.o-is ∙ counted_same _ x i _ c.loop-t-test.true at (c.loop-t.invariant b here)
    ]

pub returns : goal.returns
returns c =
    let x = c.args.x.now in
    let all : take c.loop-t.t-index x ≡ x = take_all c.loop-t.t-index x c.loop-t-test.false in
    fill_by_all (λ (b : ℕ). pos (count_by (in_bin c.args.low c.args.width b) x)) c.loop-t.o (length c.args.o.now) (pos 0) (omega arith)
    (λ k h.
    let here : k < length c.loop-t.o = omega arith in
    simp (to_z-of_z w64 c.args.low c.ranges.low, to_z-of_z w64 c.args.width c.ranges.width, all) at (c.loop-t.invariant k here))
