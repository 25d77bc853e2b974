use Rattle.std.proofs.Common.{string_bytes, bytes_eq, ◌||◌, sym, ◌∙◌, rules}
use Rattle.std.proofs.lemmas.Iterator.Consumers.{YieldsList-from_rest}
use Rattle.std.proofs.lemmas.Iterator.Search.{all_from_yields_List}
use Rattle.std.specs.List.{list_any}
use borrow.Author.Tests.{tests}
use Rattle.graph_reader.proofs.Known.{all_known_view}
use Rattle.graph_reader.proofs.shape.has_only.Goals as goal

pub returns : goal.returns
returns c =
    all_from_yields_List (λ k. list_any (λ n. bytes_eq n.now (string_bytes k)) c.args.known.now || list_any (λ n. bytes_eq n.now (string_bytes k)) c.args.more.now) _ _ _ c.all.ensures.ran
    (YieldsList-from_rest _ c.keys.ensures.rest) (λ x b q k. search (rules, tests))
    ∙ sym (all_known_view c.args.known.now c.args.more.now c.args.members.now.entries)
