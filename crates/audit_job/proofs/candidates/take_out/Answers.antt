use Rattle.std.proofs.Common.{◌≡◌, ◌<◌, ◌-◌, ℕ, List, length, get_or, ap, ◌∙◌, subst, arith}
use Rattle.std.specs.Prelude.{slice_index}
use Rattle.audit_job.proofs.ItemLists.{none_out, taken_out}
use Rattle.audit_job.proofs.candidates.take_out.Goals as goal

pub returns-in-Some : goal.returns-in-Some
returns-in-Some c =
    let old = c.args.candidates.now in
    let place = c.in-Some.place in
    let long = old.ok.0 in
    let longer = c.swap_remove.new.self.ok.0 in
    let by = c.swap_remove.ensures.by_index in
    let one = c.swap_remove.ensures.len in
    let inside : place < length old.items = subst (λ (l : List ℕ). place < length l) c.deref.ensures.value c.in-Some.ensures.0 in
    let here : slice_index old.items place ≡ c.args.item = subst (λ (l : List ℕ). slice_index l place ≡ c.args.item) c.deref.ensures.value c.in-Some.ensures.1 in
    taken_out old c.swap_remove.new.self place c.args.item inside here (omega arith) c.swap_remove.ensures.capacity
    (λ d before. by.0 d (omega arith) ∙ ap (λ (k : ℕ). get_or old.items (k - 1) d) long)
    (λ k d else low. by.1 k d else (omega arith))

pub returns-in_default : goal.returns-in_default
returns-in_default c = none_out c.args.item c.args.candidates.now
