use Rattle.std.proofs.Common.{◌≡◌, None, length, arith, sym, ap, ◌∙◌, rules, pos, replicate, ℕ}
use Rattle.std.proofs.lemmas.List.{length-replicate, take_at}
use Rattle.pisdf_model.specs.Details.{first}
use Rattle.param_resolver.specs.Assignment.{numbers, param_faults}
use Rattle.param_resolver.specs.Settled.{values_found, faults_found, found_at}
use Rattle.param_resolver.proofs.Settling.{faults_are, none_first, values_are, fresh_none, fresh_numbers}
use Rattle.param_resolver.proofs.assignment.assign.Goals as goal

pub settle_all-requires-clause-numbers : goal.settle_all-requires-clause-numbers
settle_all-requires-clause-numbers c =
    let found : c.in_ok-found.found.items ≡ replicate (length c.args.params.now) None = search rules in
    let numbers : c.in_ok-numbers.numbers.items ≡ replicate (length c.args.params.now) (pos 0) = search rules in
    rw (c.deref_mut-2.ensures.value, c.deref_mut.ensures.value, numbers, found) (fresh_numbers (length c.args.params.now))

pub returns-in-Some-clause-fault : goal.returns-in-Some-clause-fault
returns-in-Some-clause-fault c =
    let params = c.args.params.now in
    let found : c.in_ok-found.found.items ≡ replicate (length params) None = search rules in
    let start = c.deref_mut.ensures.value ∙ found in
    let long = c.settle_all.auto.found ∙ ap length start ∙ length-replicate (length params) None in
    let fits : length c.settle_all.new.found ≡ c.in_ok-found.found.len = let e = c.deref_mut.ensures.len in let k = c.settle_all.auto.found in omega arith in
    let fresh = λ (q : ℕ). ap (λ f. found_at f q) start ∙ fresh_none (length params) q in
    let is = c.deref.ensures.value ∙ take_at _ _ _ fits in
    let faults = faults_are params c.args.supplied.now c.requires.ordered c.deref_mut.result.now c.settle_all.new.found fresh long c.in_ok-settle_all.ensures.settled c.settle_all.ensures.told in
    ap first (sym faults ∙ ap faults_found (sym is)) ∙ sym c.first_fault.ensures.first ∙ c.in-Some.is

pub returns-clause-values : goal.returns-clause-values
returns-clause-values c =
    let params = c.args.params.now in
    let found : c.in_ok-found.found.items ≡ replicate (length params) None = search rules in
    let start = c.deref_mut.ensures.value ∙ found in
    let long = c.settle_all.auto.found ∙ ap length start ∙ length-replicate (length params) None in
    let fits : length c.settle_all.new.found ≡ c.in_ok-found.found.len = let e = c.deref_mut.ensures.len in let k = c.settle_all.auto.found in omega arith in
    let fresh = λ (q : ℕ). ap (λ f. found_at f q) start ∙ fresh_none (length params) q in
    let is = c.deref-in-None.ensures.value ∙ take_at _ _ _ fits in
    c.in_ok-values_found-in-None.ensures ∙ ap values_found is ∙ values_are params c.args.supplied.now c.requires.ordered c.deref_mut.result.now c.settle_all.new.found fresh long c.in_ok-settle_all.ensures.settled c.settle_all.ensures.told

pub returns-clause-numbers : goal.returns-clause-numbers
returns-clause-numbers c =
    let params = c.args.params.now in
    let found : c.in_ok-found.found.items ≡ replicate (length params) None = search rules in
    let start = c.deref_mut.ensures.value ∙ found in
    let long = c.settle_all.auto.found ∙ ap length start ∙ length-replicate (length params) None in
    let fits : length c.settle_all.new.found ≡ c.in_ok-found.found.len = let e = c.deref_mut.ensures.len in let k = c.settle_all.auto.found in omega arith in
    let fresh = λ (q : ℕ). ap (λ f. found_at f q) start ∙ fresh_none (length params) q in
    let many : length c.settle_all.new.numbers ≡ c.in_ok-numbers.numbers.len = let e = c.deref_mut-2.ensures.len in let k = c.settle_all.auto.numbers in omega arith in
    take_at _ _ _ many ∙ c.settle_all.ensures.numbers ∙ ap numbers (values_are params c.args.supplied.now c.requires.ordered c.deref_mut.result.now c.settle_all.new.found fresh long c.in_ok-settle_all.ensures.settled c.settle_all.ensures.told)

pub returns-clause-sound : goal.returns-clause-sound
returns-clause-sound c =
    let params = c.args.params.now in
    let found : c.in_ok-found.found.items ≡ replicate (length params) None = search rules in
    let start = c.deref_mut.ensures.value ∙ found in
    let long = c.settle_all.auto.found ∙ ap length start ∙ length-replicate (length params) None in
    let fits : length c.settle_all.new.found ≡ c.in_ok-found.found.len = let e = c.deref_mut.ensures.len in let k = c.settle_all.auto.found in omega arith in
    let fresh = λ (q : ℕ). ap (λ f. found_at f q) start ∙ fresh_none (length params) q in
    let is = c.deref.ensures.value ∙ take_at _ _ _ fits in
    let faults = faults_are params c.args.supplied.now c.requires.ordered c.deref_mut.result.now c.settle_all.new.found fresh long c.in_ok-settle_all.ensures.settled c.settle_all.ensures.told in
    none_first (param_faults params c.args.supplied.now) (ap first (sym faults ∙ ap faults_found (sym is)) ∙ sym c.first_fault.ensures.first ∙ c.in-None.is)
