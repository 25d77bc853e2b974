-- What a tally means to a lock.
use Rattle.std.specs.Prelude.{ℕ}
use Rattle.board_lock.specs.Meant.{Meant, entries_of}
use Rattle.lock_calls.specs.declared.tally.Count.{Count}
use Rattle.lock_calls.specs.declared.tally.Drawer.{Drawer}
use Rattle.lock_calls.specs.declared.tally.Tally.{Tally}

abbrev pub tally_meant : Meant Tally ℕ Count Drawer
tally_meant = record {
  key = λ t. t.name;
  journal = λ t. t.counts.items;
  worker = λ c. c.worker;
  lent = λ t n. entries_of (λ d. d.worker) n t.drawers.items;
  over = λ t. t.closed;
}
