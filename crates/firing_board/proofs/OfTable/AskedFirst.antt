-- The best of all rows is what boards ask for.
use Rattle.std.proofs.Common.{◌≡◌, ◌≢◌, ⊎_elim, inl, inr, ℕ, ◌<◌, ◌≤◌, Bool, true, false, Option, Some, None, List, [], length, refl, sym, ap, ◌∙◌, subst}
use Rattle.std.proofs.lemmas.Bool.{cases_lt}
use Rattle.std.proofs.lemmas.List.{get_or_past}
use Rattle.std.specs.Option.{option_map}
use Rattle.board_rules.specs.Asking as board
use Rattle.board_rules.specs.Asking.{GivesWay, IsFirstIn, IsOffered, JobRow}
use Rattle.board_rules.specs.Keys.{Key}
use Rattle.board_rules.specs.Picks.{Standing, goes_before, steps_to}
use Rattle.board_rules.proofs.Ordering.{standings_ordered}
use Rattle.job_rules.specs.Words.{Answer}
use Rattle.nested_jobs.specs.Marks.{Marks}
use Rattle.graph_firing.specs.declared.offer.Offer.{Offer}
use Rattle.pisdf_meaning.specs.declared.firing.Firing.{Firing}
use Rattle.firing_board.specs.Table.Asked.{IsAsked, IsFirstOffer, PathsDiffer, offer_of}
use Rattle.firing_board.specs.Table.AskedRows.{Follows, GivesWayTo, IsBestOf, IsFirstOf, goes_before_in, standing_of}
use Rattle.firing_board.specs.Table.Suits.{Suits}
use Rattle.firing_board.specs.Table.View.{TableView, job_row, row_at, table_of}
use Rattle.firing_board.specs.declared.table.pick.Asked.{Asked}
use Rattle.firing_board.specs.declared.table.row.Row.{Row}
use Rattle.firing_board.proofs.OfTable.AskedOffers.{first_offered, none_offered}

-- a row of the table as boards see it is one of these rows
record HasJobRow (o : Option Row) (job : JobRow) : Type 0 where
  row : Row
  here : o ≡ Some row
  is : job_row row ≡ job

row_of : (o : Option Row) (job : JobRow) → option_map job_row o ≡ Some job → HasJobRow o job
row_of None job is = absurd (cc)
row_of (Some row) job is = record { row = row; here = refl; is = cc }

module _ (key : Key) (m : Marks Firing Answer) (v : TableView) (suits : Suits key m v) (differ : PathsDiffer key m) (w : ℕ) (opens : Bool) where
  -- the rows are among those that are counted
  low : (k : ℕ) (row : Row) → row_at v k ≡ Some row → k < length v.rows
  low k row here = ⊎_elim
      (λ (less : k < length v.rows). less)
      (λ (past : length v.rows ≤ k). let none : row_at v k ≡ None = get_or_past v.rows k None past in let no : None ≡ Some row = sym none ∙ here in absurd (cc))
      (cases_lt k (length v.rows))

  none_of : (k : ℕ) (row : Row) → row_at v k ≡ Some row → IsFirstOf w opens k (row_at v k) None → (i : ℕ) → ¬ (IsOffered key opens (job_row row) i)
  none_of k row here first =
      let own = suits.rows k row here in
      none_offered key m w row own.graphs_are own.workers_are opens (subst (λ (o : Option Row). IsFirstOf w opens k o None) here first)

  first_of : (k : ℕ) (row : Row) → row_at v k ≡ Some row → (asked : Asked) → IsFirstOf w opens k (row_at v k) (Some asked) → (asked.row ≡ k) × IsFirstIn key m w opens (job_row row) (offer_of asked.offer)
  first_of k row here asked first =
      let own = suits.rows k row here in
      let at = subst (λ (o : Option Row). IsFirstOf w opens k o (Some asked)) here first in
      (at.0, first_offered key m w row own.graphs_are own.workers_are opens asked.offer at.1)

  -- two rows with one path are one
  same_path : (k l : ℕ) (row other : Row) → row_at v k ≡ Some row → row_at v l ≡ Some other → row.steps ≡ other.steps → k ≡ l
  same_path k l row other here there same =
      let one : table_of v k ≡ Some (job_row row) = ap (option_map job_row) here in
      let two : table_of v l ≡ Some (job_row other) = ap (option_map job_row) there in
      let own = suits.rows k row here in
      let its = suits.rows l other there in
      let path : steps_to key m row.place ≡ steps_to key m other.place = sym own.steps_are ∙ (same ∙ its.steps_are) in
      let place = differ row.place other.place row.job.firing other.job.firing (suits.stands.rows k (job_row row) one).is_open (suits.stands.rows l (job_row other) two).is_open path in
      suits.stands.apart k l (job_row row) (job_row other) one two place

  -- where an offer stands is where the board has it
  abbrev standing : Row → Offer → Standing
  standing row offer = board.standing_of key m opens (job_row row) (offer_of offer)

  kinds : (b : Bool) (row other : Row) (offer rest : Offer) (path path' : List (ℕ × ℕ)) → row.steps ≡ path → other.steps ≡ path'
      → goes_before (standing_of row offer) (standing_of other rest)
      ≡ goes_before record { opens = b; depth = length row.place; away = offer.away; urgency = offer.urgency; path = path; number = offer.item; within = [] } record { opens = b; depth = length other.place; away = rest.away; urgency = rest.urgency; path = path'; number = rest.item; within = [] }
  kinds false row other offer rest path path' one two = rw (one, two) refl
  kinds true row other offer rest path path' one two = rw (one, two) refl

  -- of two offers of rows that differ one goes before the other
  goes_first : (k l : ℕ) (row other : Row) (offer rest : Offer) → row_at v k ≡ Some row → row_at v l ≡ Some other → l ≢ k → goes_before (standing_of other rest) (standing_of row offer) ≡ false
      → goes_before (standing row offer) (standing other rest) ≡ true
  goes_first k l row other offer rest here there differs after = sym (kinds opens row other offer rest (steps_to key m row.place) (steps_to key m other.place) (suits.rows k row here).steps_are (suits.rows l other there).steps_are) ∙ go (goes_before (standing_of row offer) (standing_of other rest)) refl
    where
      go : (x : Bool) → goes_before (standing_of row offer) (standing_of other rest) ≡ x → goes_before (standing_of row offer) (standing_of other rest) ≡ true
      go true e = e
      go false e =
          let same = standings_ordered.same (standing_of row offer) (standing_of other rest) e after in
          absurd (differs (sym (same_path k l row other here there (ap (λ (s : Standing). s.path) same))))

  gives_way : (best : Asked) (row : Row) → row_at v best.row ≡ Some row → (l : ℕ) (other : Row) → row_at v l ≡ Some other → l ≢ best.row → GivesWayTo w opens v.rows best l → GivesWay key m w opens (job_row row) (offer_of best.offer) (job_row other)
  gives_way best row here l other there differs way = go way.answer way.is_first way.follows
    where
      go : (answer : Option Asked) → IsFirstOf w opens l (row_at v l) answer → Follows v.rows best answer → GivesWay key m w opens (job_row row) (offer_of best.offer) (job_row other)
      go None first follows = inr (inl (none_of l other there first))
      go (Some asked) first follows =
          let is = first_of l other there asked first in
          let at : row_at v asked.row ≡ Some other = ap (row_at v) is.0 ∙ there in
          let after : goes_before (standing_of other asked.offer) (standing_of row best.offer) ≡ false = sym (λ x. goes_before_in (at x) asked.offer (here x) best.offer) ∙ follows in
          inr (inr (offer_of asked.offer, is.1, goes_first best.row l row other best.offer asked.offer here there differs after))

  no_row : (best : Asked) → IsFirstOf w opens best.row (row_at v best.row) (Some best) → (r : Option Row) → row_at v best.row ≡ r → (row : Row) × (row_at v best.row ≡ Some row)
  no_row best first None is = let no : IsFirstOf w opens best.row None (Some best) = subst (λ (o : Option Row). IsFirstOf w opens best.row o (Some best)) is first in absurd (cc)
  no_row best first (Some row) is = (row, is)

  best_is : (answer : Option Asked) → IsBestOf w opens v.rows (length v.rows) answer → IsFirstOffer key m w opens v answer
  best_is None none = λ k job is.
      let own = row_of (row_at v k) job is in
      subst (λ (r : JobRow). (i : ℕ) → ¬ (IsOffered key opens r i)) own.is (none_of k own.row own.here (none k (low k own.row own.here)))
  best_is (Some best) is =
      let own = no_row best is.is_first (row_at v best.row) refl in (
        job_row own.0,
        record {
          here = ap (option_map job_row) own.1;
          first = (first_of best.row own.0 own.1 best is.is_first).1;
          others = λ l job there differs.
              let other = row_of (row_at v l) job there in
              subst (λ (r : JobRow). GivesWay key m w opens (job_row own.0) (offer_of best.offer) r) other.is
              (gives_way best own.0 own.1 l other.row other.here differs (is.others l (low l other.row other.here) differs));
        },
      )

pub asked_so : (w : ℕ) (opens : Bool) (rows : List (Option Row)) (answer : Option Asked) → IsBestOf w opens rows (length rows) answer → (v : TableView) → v.rows ≡ rows → IsAsked w opens v answer
asked_so w opens rows answer best v rows_are key m suits differ =
    best_is key m v suits differ w opens answer (subst (λ (rs : List (Option Row)). IsBestOf w opens rs (length rs) answer) (sym rows_are) best)
