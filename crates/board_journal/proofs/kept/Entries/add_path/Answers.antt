use Rattle.std.proofs.Common.{◌≡◌, ◌∙◌, ℕ, ◌-◌, List, [], ◌∷◌, ◌++◌, ap}
use Rattle.board_rules.specs.declared.entry.Entry.{Entry}
use Rattle.board_journal.proofs.Paths.{entries_stay}
use Rattle.board_journal.specs.Invariants.{entries_of}
use Rattle.board_journal.specs.View.{EntriesView}
use Rattle.board_journal.proofs.kept.Entries.add_path.Goals as goal

pub returns-clause-added : goal.returns-clause-added
returns-clause-added c =
    let i = c.self.inside in
    let path = c.args.path in
    let room = i.room in
    let moved : c.push_reserved.new.self.items ≡ i.paths.items ++ path ∷ [] = c.push_reserved.ensures.items ∙ ap (λ (ps : List (List ℕ)). ps ++ path ∷ []) c.reserve.ensures.items in
    ap (λ (ps : List (List ℕ)). record { paths = ps; entries = entries_of ps i.lines.items; room = room }) moved
    ∙ (ap (λ (es : List Entry). record { paths = i.paths.items ++ path ∷ []; entries = es; room = room }) (entries_stay i.paths.items path i.lines.items c.self.invariant.named)
    ∙ ap (λ (v : EntriesView). record { paths = v.paths ++ path ∷ []; entries = v.entries; room = v.room }) c.self.view_is)
