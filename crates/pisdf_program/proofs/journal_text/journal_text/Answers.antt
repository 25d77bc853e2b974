use Rattle.std.proofs.Common.{◌≡◌, ◌+◌, ◌++◌, ◌∷◌, append_assoc, ap, drop, string_bytes, sym, ◌∙◌}
use Rattle.board_journal.specs.View.{entry_told}
use Rattle.quiescent_driver.specs.Journals.{entry_line, journal_text}
use Rattle.pisdf_program.proofs.Rows.{item_next}
use Rattle.pisdf_program.proofs.journal_text.journal_text.Goals as goal

pub loop-place-preserved : goal.loop-place-preserved
loop-place-preserved c =
    let entries = c.args.journal.now.entries in
    let next = c.loop-place.place + 1 in
    let told = entry_told c.entry.result in
    let rest : drop c.loop-place.place entries ≡ told ∷ drop next entries = item_next entries c.loop-place.place told c.entry.ensures in
    let old = string_bytes c.loop-place.text in
    ap (λ t. t ++ journal_text c.args.number (drop next entries)) c.in_ok-push_entry.ensures
    ∙ append_assoc old (entry_line c.args.number told) (journal_text c.args.number (drop next entries))
    ∙ ap (λ l. old ++ journal_text c.args.number l) (sym rest) ∙ c.loop-place.invariant
