-- The order of what two rows offer, as the code finds it.
use Rattle.std.proofs.Common.{◌≡◌, ℕ, Bool, true, false, List, length, Option, Some, None, refl, sym, ap, ◌∙◌, subst}
use Rattle.std.specs.Prelude.{IfSome, IsSome}
use Rattle.std.specs.Ordering.{is_lt, nat_cmp, ordering_then}
use Rattle.std.specs.declared.cmp.Ordering.TheVariants.{Less, Equal, Greater}
use Rattle.nested_jobs.specs.Marks.{Marks}
use Rattle.job_rules.specs.Words.{Answer}
use Rattle.pisdf_model.specs.declared.graph.Graphs.{Graphs}
use Rattle.pisdf_meaning.specs.declared.firing.Firing.{Firing}
use Rattle.board_rules.specs.Keys.{Key}
use Rattle.board_rules.specs.Picks.{steps_to}
use Rattle.journal_audit.specs.Asking.{IsBestOf, IsFirstOf, early_order, goes_before_in, stands_before}
use Rattle.journal_audit.specs.Standing.{IsOpenAt, StandsSo}
use Rattle.journal_audit.specs.Table.{job_row, row_at}
use Rattle.journal_audit.specs.declared.table.Asked.{Asked}
use Rattle.journal_audit.specs.declared.table.Row.{Row}
use Rattle.journal_audit.proofs.AskedOrder.{before, goes_by, goes_first, goes_last, same_depth}
use Rattle.journal_audit.proofs.ComparedPaths.{paths_order}
use Rattle.journal_audit.proofs.Rows.{in_table}

module _ (rows : List (Option Row)) (one other : Asked) (row beside : Row) (here : row_at rows one.row ≡ Some row) (there : row_at rows other.row ≡ Some beside) where
  pub same_length : early_order row one beside other ≡ Equal → length row.place ≡ length beside.place
  same_length e = same_depth (length row.place) (length beside.place) one.offer.away other.offer.away one.offer.urgency other.offer.urgency e

  module _ (key : Key) (m : Marks Firing Answer) (calls : Bool) where
    stands_so : stands_before key m calls rows one other ≡ before (length row.place) (length beside.place) one.offer.away other.offer.away one.offer.urgency other.offer.urgency calls (steps_to key m row.place) (steps_to key m beside.place) one.offer.item other.offer.item
    stands_so = λ x. goes_before_in key m calls (here x) one.offer (there x) other.offer

    pub less : early_order row one beside other ≡ Less → true ≡ stands_before key m calls rows one other
    less e = sym (stands_so ∙ goes_first (length row.place) (length beside.place) one.offer.away other.offer.away one.offer.urgency other.offer.urgency calls (steps_to key m row.place) (steps_to key m beside.place) one.offer.item other.offer.item e)

    pub greater : early_order row one beside other ≡ Greater → false ≡ stands_before key m calls rows one other
    greater e = sym (stands_so ∙ goes_last (length row.place) (length beside.place) one.offer.away other.offer.away one.offer.urgency other.offer.urgency calls (steps_to key m row.place) (steps_to key m beside.place) one.offer.item other.offer.item e)

    pub equal : early_order row one beside other ≡ Equal → is_lt (ordering_then (paths_order key m row.place beside.place) (nat_cmp one.offer.item other.offer.item)) ≡ stands_before key m calls rows one other
    equal e = goes_by (length row.place) (length beside.place) one.offer.away other.offer.away one.offer.urgency other.offer.urgency calls (steps_to key m row.place) (steps_to key m beside.place) one.offer.item other.offer.item e ∙ sym stands_so

-- ---- rows that are there

pub open_at : (graphs : Graphs) (rows : List (Option Row)) (key : Key) (m : Marks Firing Answer) → StandsSo graphs rows key m → (k : ℕ) (row : Row) → row_at rows k ≡ Some row → IsOpenAt m row.place
open_at graphs rows key m so k row here = (row.job.firing, (so.stands.rows k (job_row row) (in_table rows k row here)).is_open)

pub some_there : (o : Option Row) (row : Row) → o ≡ Some row → IsSome o
some_there o row is = subst (λ (x : Option Row). IsSome x) (sym is) refl

pub asked_there : (key : Key) (m : Marks Firing Answer) (w : ℕ) (calls : Bool) (rows : List (Option Row)) (k : ℕ) (asked : Asked) → IsFirstOf key m w calls k (row_at rows k) (Some asked) → IsSome (row_at rows asked.row)
asked_there key m w calls rows k asked first = go (row_at rows k) refl first
  where
    go : (o : Option Row) → row_at rows k ≡ o → IsFirstOf key m w calls k o (Some asked) → IsSome (row_at rows asked.row)
    go None e h = absurd (cc)
    go (Some row) e h = some_there (row_at rows asked.row) row (ap (row_at rows) h.0 ∙ e)

pub if_asked : (key : Key) (m : Marks Firing Answer) (w : ℕ) (calls : Bool) (rows : List (Option Row)) (k : ℕ) (answer : Option Asked) → IsFirstOf key m w calls k (row_at rows k) answer → IfSome answer (λ asked. IsSome (row_at rows asked.row))
if_asked key m w calls rows k None first = tt
if_asked key m w calls rows k (Some asked) first = asked_there key m w calls rows k asked first

pub if_best : (key : Key) (m : Marks Firing Answer) (w : ℕ) (calls : Bool) (rows : List (Option Row)) (n : ℕ) (answer : Option Asked) → IsBestOf key m w calls rows n answer → IfSome answer (λ asked. IsSome (row_at rows asked.row))
if_best key m w calls rows n None best = tt
if_best key m w calls rows n (Some asked) best = asked_there key m w calls rows asked.row asked best.is_first
