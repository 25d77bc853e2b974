-- Room in the journal for the entries that may come.
use Rattle.std.proofs.Common.{◌≡◌, ℕ, ◌+◌, ◌-◌, ◌≤◌, Bool, true, false, set, Some, refl, ap, ◌∙◌, arith}
use Rattle.board_journal.specs.View.{JournalView}
use Rattle.board_rules.specs.declared.entry.ItemName.{ItemName}
use Rattle.firing_board.specs.Table.View.{free_items}
use Rattle.firing_board.specs.Closing.{KeepsJournal}
use Rattle.firing_board.specs.Core.{HasJournalRoom, HasMemory, runners}
use Rattle.firing_board.specs.Handing.{Enters}
use Rattle.firing_board.specs.Invariants.{HasMemoryUnless}
use Rattle.firing_board.specs.Returning.{Leaves}
use Rattle.firing_board.specs.declared.claim.Ticket.{Ticket}
use Rattle.firing_board.specs.declared.run.Run.{Run}
use Rattle.firing_board.specs.declared.state.Core.{Core}
use Rattle.firing_board.proofs.Runners.{runners_less, runners_more}

-- an item that was free is claimed
pub entered_room : (old mid new : Core) (w : ℕ) (run : Run) (item : ItemName) (ticket : Ticket) → HasJournalRoom old → mid.running ≡ old.running → mid.journal ≡ old.journal → free_items old.table ≡ free_items mid.table + 1
    → Enters mid w run item ticket new → HasJournalRoom new
entered_room old mid new w run item ticket has running journal fewer e =
    let more = runners_more mid.running.items w run in
    let now : runners new.running.items ≡ runners (set mid.running.items w (Some run)) = ap runners e.running_are in
    let was : runners mid.running.items ≡ runners old.running.items = ap (λ rs. runners rs.items) running in
    let free : free_items new.table ≡ free_items mid.table = ap free_items e.table_is in
    let left : new.journal.room ≡ mid.journal.room - 1 = ap (λ (j : JournalView). j.room) e.journal_is in
    let before : mid.journal.room ≡ old.journal.room = ap (λ (j : JournalView). j.room) journal in
    omega (arith, has, fewer, more, now, was, free, left, before)

-- a worker runs one thing less
pub left_runners : (old mid : Core) (w : ℕ) (run : Run) → Leaves old w run mid → runners mid.running.items + 1 ≡ runners old.running.items
left_runners old mid w run l =
    let less = runners_less old.running.items w run l.ran in
    let now : runners mid.running.items ≡ runners (set old.running.items w Rattle.std.specs.Prelude.None) = ap runners l.running_are in
    omega (arith, less, now)

-- there is more room, and else all is as before
pub leaves_more : (old mid new : Core) (w : ℕ) (run : Run) → Leaves old w run mid → new.running ≡ mid.running → new.numbers ≡ mid.numbers → new.end ≡ mid.end
    → new.journal.paths ≡ mid.journal.paths → new.journal.entries ≡ mid.journal.entries → mid.journal.room ≤ new.journal.room → Leaves old w run new
leaves_more old mid new w run l running numbers end paths entries more = record {
  ran = l.ran;
  running_are = ap (λ rs. rs.items) running ∙ l.running_are;
  numbers_are = numbers ∙ l.numbers_are;
  journal_is = record {
    paths_are = paths ∙ l.journal_is.paths_are;
    entries_are = entries ∙ l.journal_is.entries_are;
    room = let was = l.journal_is.room in omega (arith, was, more);
  };
  end_is = end ∙ l.end_is;
}

-- jobs are closed
pub closed_room : (mid new : Core) → KeepsJournal mid new → free_items new.table ≤ free_items mid.table → HasJournalRoom mid → HasJournalRoom new
closed_room mid new kept fewer has =
    let running : runners new.running.items ≡ runners mid.running.items = ap (λ rs. runners rs.items) kept.running_is in
    let room : new.journal.room ≡ mid.journal.room = ap (λ (j : JournalView). j.room) kept.journal_is in
    omega (arith, has, fewer, running, room)

-- where a finish keeps it
pub room_unless : (starved after : Bool) (old new : Core) → (starved ≡ true → after ≡ true) → HasMemoryUnless starved old → (after ≡ false → HasMemory old → HasMemory new) → HasMemoryUnless after new
room_unless starved true old new stays was go = tt
room_unless false false old new stays was go = go refl was
room_unless true false old new stays was go = absurd (let wrong = stays refl in cc)
