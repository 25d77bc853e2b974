use Rattle.std.proofs.Common.{◌≡◌, arith, sym, ◌∙◌}
use Rattle.std.specs.Prelude.{unwrap_or}
use Rattle.std.specs.BTreeMap.{get_by_text}
use Rattle.std.proofs.lemmas.Map.Text.{text_keys}
use Rattle.outer_world.proofs.CountFacts.{count_of-pairs_of}
use Rattle.outer_world.proofs.counts.raise.Goals as goal

pub returns-in-Some-clause-rises : goal.returns-in-Some-clause-rises
returns-in-Some-clause-rises c =
    let new = c.get_mut.follows.lender c.next_count.result in
    let old = c.args.counts.now in
    let name = c.args.name.now in
    let was : unwrap_or (get_by_text old name) 0 ≡ c.in-Some.count.now = grind (arith, text_keys) in
    let is : unwrap_or (get_by_text new name) 0 ≡ c.next_count.result = grind (arith, text_keys) in
    rw (count_of-pairs_of old name ∙ was, count_of-pairs_of new name ∙ is) c.next_count.ensures

pub returns-in-Some-clause-others : goal.returns-in-Some-clause-others
returns-in-Some-clause-others c =
    λ other apart.
    let new = c.get_mut.follows.lender c.next_count.result in
    let old = c.args.counts.now in
    let same : unwrap_or (get_by_text new other) 0 ≡ unwrap_or (get_by_text old other) 0 = grind (arith, text_keys) in
    count_of-pairs_of new other ∙ same ∙ sym (count_of-pairs_of old other)
