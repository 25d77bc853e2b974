use Rattle.std.proofs.Common.{◌≡◌, ℕ, zero, suc, List, [], ◌∷◌, ◌++◌, length, get_or, cond, refl, ◌∙◌, ap, subst, sym, arith, length-append}
use Rattle.board_lock.specs.Passes.{first_part, second_part, first_gains}
use Rattle.lock_calls.specs.Tallied.{tally_meant}
use Rattle.lock_calls.specs.declared.tally.Count.{Count}
use Rattle.lock_calls.proofs.Places.{nothing_lent, first_alone}
use Rattle.lock_calls.proofs.tally.in_turn.Goals as goal

both_empty : {P : Type 0} (k : ℕ) → get_or {A = List P} ([] ∷ [] ∷ []) k [] ≡ []
both_empty zero = refl
both_empty (suc zero) = refl
both_empty (suc (suc k)) = refl

pub returns-in-Ok-clause-drawers : goal.returns-in-Ok-clause-drawers
returns-in-Ok-clause-drawers g c =
    let all = c.in-Ok.ensures.known in
    let left = c.split-first.ensures.first.1 ∙ ap (first_part 1) all in
    let right = c.split-first.ensures.second.1 ∙ ap (second_part 1) all in
    let first = c.add-first.ensures in
    let second = c.look-second.ensures in
    let both = c.join-all.ensures.known in
    let low = ap (λ k. k.number) both ∙ (first.later.number ∙ ap (λ k. k.number) left) in
    let workers = ap (λ k. k.workers) both ∙ (first.later.workers ∙ ap (λ k. k.workers) left) in
    let sum = length-append c.add-first.result.0.known.own c.look-second.result.0.known.own in
    let one = first.later.count ∙ ap (λ k. length k.own) left in
    let other = second.later.count ∙ ap (λ k. length k.own) right in
    let count = ap (λ k. length k.own) both in
    let lent = ap (λ k. k.lent) both ∙ (ap (λ l. l ++ c.look-second.result.0.known.lent) (first.lent ∙ ap (λ k. k.lent) left) ∙ ap (λ l. ([] ∷ []) ++ l) (second.lent ∙ ap (λ k. k.lent) right)) in
    nothing_lent tally_meant c.join-all.result.known c.close-tally.result c.close-tally.ensures low (omega arith) (λ k. subst (λ l. get_or l k [] ≡ []) (sym lent) (both_empty k))

pub returns-in-Ok-clause-counts : goal.returns-in-Ok-clause-counts
returns-in-Ok-clause-counts g c =
    let all = c.in-Ok.ensures.known in
    let left = c.split-first.ensures.first.1 ∙ ap (first_part 1) all in
    let right = c.split-first.ensures.second.1 ∙ ap (second_part 1) all in
    let first = c.add-first.ensures in
    let second = c.look-second.ensures in
    let both = c.join-all.ensures.known in
    let low = ap (λ k. k.number) both ∙ (first.later.number ∙ ap (λ k. k.number) left) in
    let workers = ap (λ k. k.workers) both ∙ (first.later.workers ∙ ap (λ k. k.workers) left) in
    let opening = ap (λ k. k.opening) both ∙ (first.later.opening ∙ ap (λ k. k.opening) left) in
    let more : ℕ → List Count = λ n. cond c.add-first.result.1 (record { worker = n; amount = c.args.amount } ∷ []) [] in
    let one = first.own ∙ ap (λ k. first_gains k.own (more k.number)) left in
    let other = second.own ∙ ap (λ k. first_gains k.own []) right in
    let own : c.join-all.result.known.own ≡ more 0 ∷ [] ∷ [] = ap (λ k. k.own) both ∙ (ap (λ l. l ++ c.look-second.result.0.known.own) one ∙ ap (λ l. (more 0 ∷ []) ++ l) other) in
    first_alone tally_meant c.join-all.result.known c.close-tally.result c.close-tally.ensures (more 0) low workers own ∙ ap (λ l. l ++ more 0) opening
