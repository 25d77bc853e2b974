use Rattle.std.proofs.Common.{◌≡◌, ◌+◌, ◌-◌, ◌++◌, length, take, drop, sym, ap, ◌∙◌, arith, length-drop}
use Rattle.std.specs.Prelude.{ℤ, List}
use Rattle.std.proofs.lemmas.List.{length-take-le}
use Rattle.special_actors.proofs.Rounds.{once_around, two_parts}
use Rattle.special_actors.proofs.repeating.write_once.Goals as goal

pub returns-clause-written : goal.returns-clause-written
returns-clause-written c =
    let t = c.args.tokens.now in
    let place = c.args.place in
    let n = c.min-n.result in
    let m = c.min-m.result in
    let count : place + n - place ≡ n = omega arith in
    let a : c.copy_from_slice.new.self ≡ take n (drop place t) = c.copy_from_slice.ensures.after ∙ ap (λ k. take k (drop place t)) count in
    let b : c.copy_from_slice-2.new.self ≡ take m t = c.copy_from_slice-2.ensures.after in
    let a_len : length c.copy_from_slice.new.self ≡ n = ap (λ (l : List ℤ). length l) a ∙ length-take-le n (drop place t) (omega (arith, length-drop place t)) in
    let b_len : length c.copy_from_slice-2.new.self ≡ m = ap (λ (l : List ℤ). length l) b ∙ length-take-le m t (omega arith) in
    two_parts c.copy_from_slice.new.self c.copy_from_slice-2.new.self _ _ n m a_len b_len
    ∙ (ap (λ (l : List ℤ). l ++ c.copy_from_slice-2.new.self) a ∙ (ap (λ (l : List ℤ). take n (drop place t) ++ l) b
    ∙ sym (once_around t place m n (omega arith) (omega arith) (λ some. omega arith))))
