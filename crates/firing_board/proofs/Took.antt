-- The item that is handed out is claimed.
use Rattle.std.proofs.Common.{◌≡◌, ℕ, [], ◌∷◌, ◌++◌, length, Option, Some, sym, ap, ◌∙◌, subst}
use Rattle.std.specs.Prelude.{slice_index_or, slice_set}
use Rattle.kernel_gate.specs.Value.{Places}
use Rattle.nested_jobs.specs.Marks.{Busy}
use Rattle.board_rules.specs.declared.entry.Entry.TheVariants as entry
use Rattle.board_rules.specs.declared.entry.ItemName.{ItemName}
use Rattle.board_journal.specs.View.{JournalView}
use Rattle.firing_board.specs.Table.Calls.{LendsAsBefore, LendsItem, MarksItem}
use Rattle.firing_board.specs.Table.View.{TableView}
use Rattle.firing_board.specs.Core.{HasMemory}
use Rattle.firing_board.specs.Handing.{Enters, path_in}
use Rattle.firing_board.specs.declared.claim.Ticket.{Ticket}
use Rattle.firing_board.specs.declared.state.Core.{Core}
use Rattle.firing_board.specs.declared.run.Run.{Run}

-- the claim of an item is entered, and the worker runs it
pub record Took (mid : Core) (w : ℕ) (run : Run) (item : ItemName) (ticket : Ticket) (new : Core) : Type 0 where
  pub running_are : new.running.items ≡ slice_set mid.running.items w (Some run)
  pub numbers_are : new.numbers.items ≡ mid.numbers.items
  pub paths_are : new.journal.paths ≡ mid.journal.paths
  pub entries_are : new.journal.entries ≡ mid.journal.entries ++ entry.Claim w (path_in mid run.row) item ∷ []
  pub room : HasMemory new
  pub end_is : new.end ≡ mid.end
  pub ticket_is : ticket ≡ record { worker = w; entry = length mid.journal.entries }

pub took : (mid claimed new : Core) (w : ℕ) (run : Run) (item : ItemName) (ticket : Ticket) → claimed.running ≡ mid.running → claimed.numbers ≡ mid.numbers
    → claimed.journal ≡ mid.journal → claimed.end ≡ mid.end → HasMemory new → Enters claimed w run item ticket new → Took mid w run item ticket new
took mid claimed new w run item ticket running numbers journal end room e =
    let paths : claimed.journal.paths ≡ mid.journal.paths = ap (λ (j : JournalView). j.paths) journal in
    let entries : claimed.journal.entries ≡ mid.journal.entries = ap (λ (j : JournalView). j.entries) journal in
    let path : path_in claimed run.row ≡ path_in mid run.row = ap (λ ps. slice_index_or ps (slice_index_or claimed.numbers.items run.row 0) []) paths ∙ ap (λ ns. slice_index_or mid.journal.paths (slice_index_or ns.items run.row 0) []) numbers in
    record {
      running_are = e.running_are ∙ ap (λ rs. slice_set rs.items w (Some run)) running;
      numbers_are = ap (λ ns. ns.items) (e.numbers_are ∙ numbers);
      paths_are = ap (λ (j : JournalView). j.paths) e.journal_is ∙ paths;
      entries_are = ap (λ (j : JournalView). j.entries) e.journal_is ∙ (ap (λ es. es ++ entry.Claim w (path_in claimed run.row) item ∷ []) entries ∙ ap (λ p. mid.journal.entries ++ entry.Claim w p item ∷ []) path);
      room = room;
      end_is = e.end_is ∙ end;
      ticket_is = e.ticket_is ∙ ap (λ es. record { worker = w; entry = length es }) entries;
    }

-- by the table after the claim
pub marks_through : (a c d : TableView) (k item : ℕ) → d ≡ c → MarksItem k item Busy a c → MarksItem k item Busy a d
marks_through a c d k item is marks = subst (λ v. MarksItem k item Busy a v) (sym is) marks

pub lends_through : (a c d : TableView) (k item : ℕ) (places : Option Places) → d ≡ c → LendsItem k item places a c → LendsItem k item places a d
lends_through a c d k item places is lends = subst (λ v. LendsItem k item places a v) (sym is) lends

pub as_before_through : (a c d : TableView) → d ≡ c → LendsAsBefore a c → LendsAsBefore a d
as_before_through a c d is lends = subst (λ v. LendsAsBefore a v) (sym is) lends
