use Rattle.std.proofs.Common.{◌≡◌, arith, sym, ◌∙◌}
use Rattle.std.specs.Prelude.{unwrap_or}
use Rattle.std.specs.BTreeMap.{get_by_text}
use Rattle.std.proofs.lemmas.Map.Text.{text_keys}
use Rattle.outer_world.proofs.CountFacts.{count_of-pairs_of}
use Rattle.outer_world.proofs.counts.make_room.Goals as goal

pub returns-in_ok-insert-clause-same : goal.returns-in_ok-insert-clause-same
returns-in_ok-insert-clause-same c =
    λ other.
    let same : unwrap_or (get_by_text c.insert.new.self other) 0 ≡ unwrap_or (get_by_text c.args.counts.now other) 0 = grind (arith, text_keys) in
    count_of-pairs_of c.insert.new.self other ∙ same ∙ sym (count_of-pairs_of c.args.counts.now other)
