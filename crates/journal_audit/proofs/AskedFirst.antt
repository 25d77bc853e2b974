-- The best of all rows is what boards ask for.
use Rattle.std.proofs.Common.{◌≡◌, ◌≢◌, ⊎_elim, inl, inr, ℕ, ◌<◌, ◌≤◌, Bool, true, false, Option, Some, None, List, length, refl, sym, ap, ◌∙◌, subst}
use Rattle.std.proofs.lemmas.Bool.{cases_lt}
use Rattle.std.proofs.lemmas.List.{get_or_past}
use Rattle.std.specs.Option.{option_map}
use Rattle.board_rules.specs.Asking.{GivesWay, IsFirstIn, IsOffered, JobRow, NoRowOffers, standing_of}
use Rattle.board_rules.specs.Keys.{Key}
use Rattle.board_rules.specs.Picks.{Standing, goes_before, steps_to}
use Rattle.board_rules.proofs.Ordering.{standings_ordered}
use Rattle.job_rules.specs.Words.{Answer}
use Rattle.nested_jobs.specs.Marks.{Marks}
use Rattle.pisdf_model.specs.declared.graph.Graphs.{Graphs}
use Rattle.pisdf_meaning.specs.declared.firing.Firing.{Firing}
use Rattle.audit_job.specs.Offering.{offer_of}
use Rattle.audit_job.specs.declared.offering.Offer.{Offer}
use Rattle.journal_audit.specs.Asking.{Follows, GivesWayTo, HasFirst, IsBestOf, IsFirstOf, PathsDiffer, goes_before_in}
use Rattle.journal_audit.specs.Standing.{StandsSo}
use Rattle.journal_audit.specs.Table.{job_row, row_at, table_of}
use Rattle.journal_audit.specs.declared.table.Asked.{Asked}
use Rattle.journal_audit.specs.declared.table.Row.{Row}
use Rattle.journal_audit.proofs.Rows.{in_table, row_behind}

module _ (graphs : Graphs) (rows : List (Option Row)) (key : Key) (m : Marks Firing Answer) (so : StandsSo graphs rows key m) (differ : PathsDiffer key m) (w : ℕ) (opens : Bool) where
  -- the rows are among those that are counted
  low : (k : ℕ) (row : Row) → row_at rows k ≡ Some row → k < length rows
  low k row here = ⊎_elim
      (λ (less : k < length rows). less)
      (λ (past : length rows ≤ k). let none : row_at rows k ≡ None = get_or_past rows k None past in let no : None ≡ Some row = sym none ∙ here in absurd (cc))
      (cases_lt k (length rows))

  none_of : (k : ℕ) (row : Row) → row_at rows k ≡ Some row → IsFirstOf key m w opens k (row_at rows k) None → (i : ℕ) → ¬ (IsOffered key opens (job_row row) i)
  none_of k row here first = subst (λ (o : Option Row). IsFirstOf key m w opens k o None) here first

  first_of : (k : ℕ) (row : Row) → row_at rows k ≡ Some row → (asked : Asked) → IsFirstOf key m w opens k (row_at rows k) (Some asked) → (asked.row ≡ k) × IsFirstIn key m w opens (job_row row) (offer_of asked.offer)
  first_of k row here asked first = subst (λ (o : Option Row). IsFirstOf key m w opens k o (Some asked)) here first

  -- two rows with one path are one
  same_path : (k l : ℕ) (row other : Row) → row_at rows k ≡ Some row → row_at rows l ≡ Some other → steps_to key m row.place ≡ steps_to key m other.place → k ≡ l
  same_path k l row other here there same =
      let one = in_table rows k row here in
      let two = in_table rows l other there in
      let place = differ row.place other.place row.job.firing other.job.firing (so.stands.rows k (job_row row) one).is_open (so.stands.rows l (job_row other) two).is_open same in
      so.stands.apart k l (job_row row) (job_row other) one two place

  abbrev standing : Row → Offer → Standing
  standing row offer = standing_of key m opens (job_row row) (offer_of offer)

  -- of two offers of rows that differ one goes before the other
  goes_first : (k l : ℕ) (row other : Row) (offer rest : Offer) → row_at rows k ≡ Some row → row_at rows l ≡ Some other → l ≢ k → goes_before (standing other rest) (standing row offer) ≡ false
      → goes_before (standing row offer) (standing other rest) ≡ true
  goes_first k l row other offer rest here there differs after = go (goes_before (standing row offer) (standing other rest)) refl
    where
      go : (x : Bool) → goes_before (standing row offer) (standing other rest) ≡ x → goes_before (standing row offer) (standing other rest) ≡ true
      go true e = e
      go false e =
          let same = standings_ordered.same (standing row offer) (standing other rest) e after in
          absurd (differs (sym (same_path k l row other here there (ap (λ (s : Standing). s.path) same))))

  gives_way : (best : Asked) (row : Row) → row_at rows best.row ≡ Some row → (l : ℕ) (other : Row) → row_at rows l ≡ Some other → l ≢ best.row → GivesWayTo key m w opens rows best l → GivesWay key m w opens (job_row row) (offer_of best.offer) (job_row other)
  gives_way best row here l other there differs way = go way.answer way.is_first way.follows
    where
      go : (answer : Option Asked) → IsFirstOf key m w opens l (row_at rows l) answer → Follows key m opens rows best answer → GivesWay key m w opens (job_row row) (offer_of best.offer) (job_row other)
      go None first follows = inr (inl (none_of l other there first))
      go (Some asked) first follows =
          let is = first_of l other there asked first in
          let at : row_at rows asked.row ≡ Some other = ap (row_at rows) is.0 ∙ there in
          let after : goes_before (standing other asked.offer) (standing row best.offer) ≡ false = sym (λ x. goes_before_in key m opens (at x) asked.offer (here x) best.offer) ∙ follows in
          inr (inr (offer_of asked.offer, is.1, goes_first best.row l row other best.offer asked.offer here there differs after))

  no_row : (best : Asked) → IsFirstOf key m w opens best.row (row_at rows best.row) (Some best) → (r : Option Row) → row_at rows best.row ≡ r → (row : Row) × (row_at rows best.row ≡ Some row)
  no_row best first None is = let no : IsFirstOf key m w opens best.row None (Some best) = subst (λ (o : Option Row). IsFirstOf key m w opens best.row o (Some best)) is first in absurd (cc)
  no_row best first (Some row) is = (row, is)

  pub none_is : IsBestOf key m w opens rows (length rows) None → NoRowOffers key opens (table_of rows)
  none_is none = λ k job is.
      let own = row_behind (row_at rows k) job is in
      subst (λ (r : JobRow). (i : ℕ) → ¬ (IsOffered key opens r i)) (sym own.2) (none_of k own.0 own.1 (none k (low k own.0 own.1)))

  pub best_is : (best : Asked) → IsBestOf key m w opens rows (length rows) (Some best) → HasFirst key m w opens rows record { row = best.row; item = best.offer.item }
  best_is best is =
      let own = no_row best is.is_first (row_at rows best.row) refl in
      record {
        row = job_row own.0;
        away = best.offer.away;
        urgency = best.offer.urgency;
        first = record {
          here = ap (option_map job_row) own.1;
          first = (first_of best.row own.0 own.1 best is.is_first).1;
          others = λ l job there differs.
              let other = row_behind (row_at rows l) job there in
              subst (λ (r : JobRow). GivesWay key m w opens (job_row own.0) (offer_of best.offer) r) (sym other.2)
              (gives_way best own.0 own.1 l other.0 other.1 differs (is.others l (low l other.0 other.1) differs));
        };
      }
