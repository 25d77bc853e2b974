use Rattle.std.proofs.Common.{suc}
use Rattle.nested_jobs.specs.Journals.{state}
use Rattle.nested_jobs.proofs.Nesting.{journal_nested}
use Rattle.nested_jobs.proofs.Listing.{down_to, enabled_in}
use Rattle.nested_jobs.proofs.laws.enabled_items_listed.Goals as goal

pub returns : goal.returns
returns g c = λ rs rank top journal law.
    let m = (state rs top journal).marks in
    (down_to rs m (suc (rank top)), λ a e. enabled_in rs rank law top m (journal_nested rs rank law top journal) a e)
