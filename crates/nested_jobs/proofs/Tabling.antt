-- Tables of open jobs follow the steps of a board.
use Rattle.std.proofs.Common.{◌≡◌, ◌≢◌, ◌⊎◌, ℕ, Bool, true, false, cond, eqb, Option, Some, None, [], ◌∷◌, refl, sym, ◌∙◌, ap, subst, inl, inr, ⊎_elim}
use Rattle.std.proofs.lemmas.Bool.{eqb-true, eq-eqb}
use Rattle.nested_jobs.specs.Rules.{Place, Task, Work, Call, Values, Rules}
use Rattle.nested_jobs.specs.Marks.{Mark, Free, Busy, Open, Done, Marks, put, answer_of, values}
use Rattle.nested_jobs.specs.Steps.{IsEnabled, all_below, claimed, closed, is_quiet, is_settled}
use Rattle.nested_jobs.specs.Journals.{start_mark}
use Rattle.nested_jobs.specs.Meanings.{Lawful}
use Rattle.nested_jobs.specs.Invariants.{InJob, Nested}
use Rattle.nested_jobs.specs.Tables.{Row, Table, HasRow, IsRow, StandsFor, answers_in, fresh_row, is_quiet_row, put_row, with_mark}
use Rattle.nested_jobs.specs.TableLaws.{Closes, ClosesTop, Finishes, Opens}
use Rattle.nested_jobs.proofs.Places.{cons_ne, head_is, put_here, put_other, put_at, tail_is}
use Rattle.nested_jobs.proofs.Nesting.{closes_nested, ends_nested, opens_nested, quiet_idle}
use Rattle.nested_jobs.proofs.Finding.{claimed_ready}
use Rattle.nested_jobs.proofs.OneStep.{claimed_below, closed_goes_on, closed_stops, closed_top, enabled_below, finished_is, work_enabled}

module _ {J A : Type 0} where
  -- ---- rows after a write

  pub put_row_at : (table : Table J A) (k : ℕ) (row : Option (Row J A)) (l : ℕ) → ((k ≡ l) × (put_row table k row l ≡ row)) ⊎ ((k ≢ l) × (put_row table k row l ≡ table l))
  put_row_at table k row l =
      elim (eqb k l) as (λ b. eqb k l ≡ b → ((k ≡ l) × (cond b row (table l) ≡ row)) ⊎ ((k ≢ l) × (cond b row (table l) ≡ table l))) [
        | true ↦ λ e. inl (eqb-true k l e, refl)
        | false ↦ λ e. inr ((λ f. let t = eq-eqb k l f in cc), refl)
      ]
      refl

  row_is : (one other : Row J A) → Some one ≡ Some other → one ≡ other
  row_is one other e = cc

  -- the marks of a row after a write at one of its items
  marked : (m : Marks J A) (p : Place) (row : Row J A) (i : ℕ) (y : Mark J A) → row.place ≡ p → ((j : ℕ) → m (j ∷ p) ≡ row.marks j) → (j : ℕ) → put m (i ∷ p) y (j ∷ p) ≡ (with_mark row i y).marks j
  marked m p row i y place items j =
      elim (eqb i j) as (λ b. eqb i j ≡ b → put m (i ∷ p) y (j ∷ p) ≡ cond b y (row.marks j)) [
        | true ↦ λ e. ap (λ (k : ℕ). put m (i ∷ p) y (k ∷ p)) (sym (eqb-true i j e)) ∙ put_here m (i ∷ p) y
        | false ↦ λ e. put_other m (i ∷ p) y (j ∷ p) (λ f. let t = eq-eqb i j (head_is i j p p f) in cc) ∙ items j
      ]
      refl

  -- the row of the item that is written
  own_row : (m : Marks J A) (row : Row J A) (i : ℕ) (y : Mark J A) → IsRow m row → IsRow (put m (i ∷ row.place) y) (with_mark row i y)
  own_row m row i y is = record {
    is_open = put_other m (i ∷ row.place) y row.place (cons_ne i row.place) ∙ is.is_open;
    items = marked m row.place row i y refl is.items;
  }

  -- another row
  other_row : (m : Marks J A) (i : ℕ) (p : Place) (y : Mark J A) (row : Row J A) → IsRow m row → (i ∷ p) ≢ row.place → p ≢ row.place → IsRow (put m (i ∷ p) y) row
  other_row m i p y row is apart away = record {
    is_open = put_other m (i ∷ p) y row.place apart ∙ is.is_open;
    items = λ j. put_other m (i ∷ p) y (j ∷ row.place) (λ e. away (tail_is i j p row.place e)) ∙ is.items j;
  }

  not_open_here : (m : Marks J A) (a : Place) (row : Row J A) → IsRow m row → ((d : J) → m a ≢ Open d) → a ≢ row.place
  not_open_here m a row is shut e = shut row.job (ap m e ∙ is.is_open)

  module _ (table : Table J A) (m : Marks J A) (stands : StandsFor table m) (k : ℕ) (row : Row J A) (here : table k ≡ Some row) where
    own : IsRow m row
    own = stands.rows k row here

    pub answers_are : values m row.place ≡ answers_in row
    answers_are = let at : (j : ℕ) → values m row.place j ≡ answers_in row j = λ j. ap answer_of (own.items j) in λ x j. at j x

    -- a row apart from this one stands at another place
    away : (l : ℕ) (other : Row J A) → k ≢ l → table l ≡ Some other → row.place ≢ other.place
    away l other apart there e = apart (stands.apart k l row other here there e)

    module _ (i : ℕ) (y : Mark J A) where
      abbrev written : Table J A
      written = put_row table k (Some (with_mark row i y))

      -- a row of the new table has the place of one of the old
      record Old (l : ℕ) (row' : Row J A) : Type 0 where
        old : Row J A
        there : table l ≡ Some old
        place_is : old.place ≡ row'.place

      old_of : (l : ℕ) (row' : Row J A) → written l ≡ Some row' → Old l row'
      old_of l row' is = ⊎_elim
          (λ t. record { old = row; there = ap table (sym t.0) ∙ here; place_is = ap (λ (r : Row J A). r.place) (row_is (with_mark row i y) row' (sym t.1 ∙ is)) })
          (λ t. record { old = row'; there = sym t.1 ∙ is; place_is = refl })
          (put_row_at table k (Some (with_mark row i y)) l)

      new_row : (p : Place) → HasRow table p → HasRow written p
      new_row p has = ⊎_elim
          (λ t. record {
            key = has.key;
            row = with_mark row i y;
            here = t.1;
            place_is = ap (λ (r : Row J A). r.place) (row_is row has.row (sym here ∙ (ap table t.0 ∙ has.here))) ∙ has.place_is;
          })
          (λ t. record { key = has.key; row = has.row; here = t.1 ∙ has.here; place_is = has.place_is })
          (put_row_at table k (Some (with_mark row i y)) has.key)

      written_rows : ((d : J) → m (i ∷ row.place) ≢ Open d) → (l : ℕ) (row' : Row J A) → written l ≡ Some row' → IsRow (put m (i ∷ row.place) y) row'
      written_rows shut l row' is = ⊎_elim
          (λ t. subst (IsRow (put m (i ∷ row.place) y)) (row_is (with_mark row i y) row' (sym t.1 ∙ is)) (own_row m row i y own))
          (λ t.
          let there : table l ≡ Some row' = sym t.1 ∙ is in
          let old = stands.rows l row' there in
          other_row m i row.place y row' old (not_open_here m (i ∷ row.place) row' old shut) (away l row' t.0 there))
          (put_row_at table k (Some (with_mark row i y)) l)

      written_apart : (l n : ℕ) (one other : Row J A) → written l ≡ Some one → written n ≡ Some other → one.place ≡ other.place → l ≡ n
      written_apart l n one other one_is other_is same =
          let a = old_of l one one_is in
          let b = old_of n other other_is in
          stands.apart l n a.old b.old a.there b.there (a.place_is ∙ (same ∙ sym b.place_is))

      -- a write that opens nothing, at an item that isn't open
      pub writes : ((d : J) → m (i ∷ row.place) ≢ Open d) → ((d : J) → y ≢ Open d) → StandsFor written (put m (i ∷ row.place) y)
      writes shut closed_ = record {
        rows = written_rows shut;
        whole = λ p job o. ⊎_elim (λ t. absurd (closed_ job (sym t.1 ∙ o))) (λ t. new_row p (stands.whole p job (sym t.1 ∙ o))) (put_at m (i ∷ row.place) y p);
        apart = written_apart;
      }

    -- ---- a row more

    module _ (l i : ℕ) (d : J) (free_key : table l ≡ None) (free : m (i ∷ row.place) ≡ Free) (below_free : (j : ℕ) → m (j ∷ i ∷ row.place) ≡ Free) where
      abbrev middle : Table J A
      middle = written i (Open d)

      abbrev grown_table : Table J A
      grown_table = put_row middle l (Some (fresh_row (i ∷ row.place) d))

      abbrev opened_marks : Marks J A
      opened_marks = put m (i ∷ row.place) (Open d)

      shut : (c : J) → m (i ∷ row.place) ≢ Open c
      shut c o = let no : Free ≡ Open c = sym free ∙ o in cc

      child_row : IsRow opened_marks (fresh_row (i ∷ row.place) d)
      child_row = record {
        is_open = put_here m (i ∷ row.place) (Open d);
        items = λ j. put_other m (i ∷ row.place) (Open d) (j ∷ i ∷ row.place) (λ e. cons_ne j (i ∷ row.place) (sym e)) ∙ below_free j;
      }

      -- no row of the table before has the place of the child
      no_child : (n : ℕ) (row' : Row J A) → middle n ≡ Some row' → row'.place ≢ i ∷ row.place
      no_child n row' is e = let old = old_of i (Open d) n row' is in not_open_here m (i ∷ row.place) old.old (stands.rows n old.old old.there) shut (sym (old.place_is ∙ e))

      empty_still : middle l ≡ None
      empty_still = ⊎_elim
          (λ t. let no : None ≡ Some row = sym free_key ∙ (ap table (sym t.0) ∙ here) in absurd (cc))
          (λ t. t.1 ∙ free_key)
          (put_row_at table k (Some (with_mark row i (Open d))) l)

      pub grows_by : StandsFor grown_table opened_marks
      grows_by = record {
        rows = λ n row' is. ⊎_elim
            (λ t. subst (IsRow opened_marks) (row_is (fresh_row (i ∷ row.place) d) row' (sym t.1 ∙ is)) child_row)
            (λ t. written_rows i (Open d) shut n row' (sym t.1 ∙ is))
            (put_row_at middle l (Some (fresh_row (i ∷ row.place) d)) n);
        whole = λ p job o. ⊎_elim
            (λ t. record { key = l; row = fresh_row (i ∷ row.place) d; here = at_l; place_is = t.0 })
            (λ t. kept p (new_row i (Open d) p (stands.whole p job (sym t.1 ∙ o))))
            (put_at m (i ∷ row.place) (Open d) p);
        apart = apart;
      }
        where
          at_l : grown_table l ≡ Some (fresh_row (i ∷ row.place) d)
          at_l = ⊎_elim (λ t. t.1) (λ t. absurd (t.0 refl)) (put_row_at middle l (Some (fresh_row (i ∷ row.place) d)) l)

          kept : (p : Place) → HasRow middle p → HasRow grown_table p
          kept p has = ⊎_elim
              (λ t. let no : None ≡ Some has.row = sym empty_still ∙ (ap middle t.0 ∙ has.here) in absurd (cc))
              (λ t. record { key = has.key; row = has.row; here = t.1 ∙ has.here; place_is = has.place_is })
              (put_row_at middle l (Some (fresh_row (i ∷ row.place) d)) has.key)

          apart : (n o : ℕ) (one other : Row J A) → grown_table n ≡ Some one → grown_table o ≡ Some other → one.place ≡ other.place → n ≡ o
          apart n o one other one_is other_is same = ⊎_elim
              (λ t. ⊎_elim
              (λ u. sym t.0 ∙ u.0)
              (λ u. absurd (no_child o other (sym u.1 ∙ other_is) (sym same ∙ sym (ap (λ (r : Row J A). r.place) (row_is (fresh_row (i ∷ row.place) d) one (sym t.1 ∙ one_is))))))
              (put_row_at middle l (Some (fresh_row (i ∷ row.place) d)) o))
              (λ t. ⊎_elim
              (λ u. absurd (no_child n one (sym t.1 ∙ one_is) (same ∙ sym (ap (λ (r : Row J A). r.place) (row_is (fresh_row (i ∷ row.place) d) other (sym u.1 ∙ other_is))))))
              (λ u. written_apart i (Open d) n o one other (sym t.1 ∙ one_is) (sym u.1 ∙ other_is) same)
              (put_row_at middle l (Some (fresh_row (i ∷ row.place) d)) o))
              (put_row_at middle l (Some (fresh_row (i ∷ row.place) d)) n)

  -- ---- a row less

  module _ (table : Table J A) (m : Marks J A) (stands : StandsFor table m) (k : ℕ) (row : Row J A) (here : table k ≡ Some row) (y : Mark J A) (closed_ : (d : J) → y ≢ Open d) where
    abbrev rest : Table J A
    rest = put_row table k None

    rest_is : (l : ℕ) (row' : Row J A) → rest l ≡ Some row' → (k ≢ l) × (table l ≡ Some row')
    rest_is l row' is = ⊎_elim
        (λ t. let no : None ≡ Some row' = sym t.1 ∙ is in absurd (cc))
        (λ t. (t.0, sym t.1 ∙ is))
        (put_row_at table k None l)

    has_rest : (p : Place) → row.place ≢ p → HasRow table p → HasRow rest p
    has_rest p apart has = ⊎_elim
        (λ t. absurd (apart (ap (λ (r : Row J A). r.place) (row_is row has.row (sym here ∙ (ap table t.0 ∙ has.here))) ∙ has.place_is)))
        (λ t. record { key = has.key; row = has.row; here = t.1 ∙ has.here; place_is = has.place_is })
        (put_row_at table k None has.key)

    rest_apart : (l n : ℕ) (one other : Row J A) → rest l ≡ Some one → rest n ≡ Some other → one.place ≡ other.place → l ≡ n
    rest_apart l n one other one_is other_is same = stands.apart l n one other (rest_is l one one_is).1 (rest_is n other other_is).1 same

    pub top_goes : row.place ≡ [] → StandsFor rest (put m [] y)
    top_goes at_top = record {
      rows = λ l row' is.
          let t = rest_is l row' is in
          let old = stands.rows l row' t.1 in
          record {
            is_open = put_other m [] y row'.place (λ e. t.0 (stands.apart k l row row' here t.1 (at_top ∙ e))) ∙ old.is_open;
            items = λ j. put_other m [] y (j ∷ row'.place) (λ e. cc) ∙ old.items j;
          };
      whole = λ p job o. ⊎_elim (λ t. absurd (closed_ job (sym t.1 ∙ o))) (λ t. has_rest p (λ e. t.0 (sym at_top ∙ e)) (stands.whole p job (sym t.1 ∙ o))) (put_at m [] y p);
      apart = rest_apart;
    }

    module _ (l i : ℕ) (upper : Row J A) (above : table l ≡ Some upper) (place_is : row.place ≡ i ∷ upper.place) where
      abbrev shrunk : Table J A
      shrunk = put_row rest l (Some (with_mark upper i y))

      abbrev new_marks : Marks J A
      new_marks = put m (i ∷ upper.place) y

      keys_apart : k ≢ l
      keys_apart e =
          let same : row ≡ upper = row_is row upper (sym here ∙ (ap table e ∙ above)) in
          cons_ne i upper.place (sym place_is ∙ ap (λ (r : Row J A). r.place) same)

      old_at : (n : ℕ) (row' : Row J A) → shrunk n ≡ Some row' → (old : Row J A) × (table n ≡ Some old) × (old.place ≡ row'.place)
      old_at n row' is = ⊎_elim
          (λ t. (upper, ap table (sym t.0) ∙ above, ap (λ (r : Row J A). r.place) (row_is (with_mark upper i y) row' (sym t.1 ∙ is))))
          (λ t. (row', (rest_is n row' (sym t.1 ∙ is)).1, refl))
          (put_row_at rest l (Some (with_mark upper i y)) n)

      pub goes : StandsFor shrunk new_marks
      goes = record {
        rows = λ n row' is. ⊎_elim
            (λ t. subst (IsRow new_marks) (row_is (with_mark upper i y) row' (sym t.1 ∙ is)) (own_row m upper i y (stands.rows l upper above)))
            (λ t.
            let u = rest_is n row' (sym t.1 ∙ is) in
            let old = stands.rows n row' u.1 in
            other_row m i upper.place y row' old (λ e. u.0 (stands.apart k n row row' here u.1 (place_is ∙ e))) (λ e. t.0 (stands.apart l n upper row' above u.1 e)))
            (put_row_at rest l (Some (with_mark upper i y)) n);
        whole = λ p job o. ⊎_elim
            (λ t. absurd (closed_ job (sym t.1 ∙ o)))
            (λ t. kept p (has_rest p (λ e. t.0 (sym place_is ∙ e)) (stands.whole p job (sym t.1 ∙ o))))
            (put_at m (i ∷ upper.place) y p);
        apart = λ n o one other one_is other_is same.
            let a = old_at n one one_is in
            let b = old_at o other other_is in
            stands.apart n o a.0 b.0 a.1 b.1 (a.2 ∙ (same ∙ sym b.2));
      }
        where
          kept : (p : Place) → HasRow rest p → HasRow shrunk p
          kept p has = ⊎_elim
              (λ t.
              let there = rest_is has.key has.row has.here in
              record {
                key = has.key;
                row = with_mark upper i y;
                here = t.1;
                place_is = ap (λ (r : Row J A). r.place) (row_is upper has.row (sym above ∙ (ap table t.0 ∙ there.1))) ∙ has.place_is;
              })
              (λ t. record { key = has.key; row = has.row; here = t.1 ∙ has.here; place_is = has.place_is })
              (put_row_at rest l (Some (with_mark upper i y)) has.key)

  -- ---- the start

  pub starts_with : (top : J) (k : ℕ) → StandsFor (put_row (λ l. None) k (Some (fresh_row [] top))) (start_mark {A = A} top)
  starts_with top k = record {
    rows = λ l row is. subst (IsRow (start_mark top)) (row_is (fresh_row [] top) row (sym (first l row is).1 ∙ is)) record { is_open = refl; items = λ j. refl };
    whole = λ p job o. at p job o;
    apart = λ l n one other one_is other_is same. sym (first l one one_is).0 ∙ (first n other other_is).0;
  }
    where
      none : Table J A
      none l = None

      first : (l : ℕ) (row : Row J A) → put_row none k (Some (fresh_row [] top)) l ≡ Some row → (k ≡ l) × (put_row none k (Some (fresh_row [] top)) l ≡ Some (fresh_row [] top))
      first l row is = ⊎_elim (λ t. t) (λ t. let no : None ≡ Some row = sym t.1 ∙ is in absurd (cc)) (put_row_at none k (Some (fresh_row [] top)) l)

      at : (p : Place) (job : J) → start_mark {A = A} top p ≡ Open job → HasRow (put_row none k (Some (fresh_row [] top))) p
      at [] job o = record { key = k; row = fresh_row [] top; here = ⊎_elim (λ t. t.1) (λ t. absurd (t.0 refl)) (put_row_at none k (Some (fresh_row [] top)) k); place_is = refl }
      at (i ∷ p) job o = absurd (cc)

module _ {J W A : Type 0} (rs : Rules J W A) where
  -- ---- what rows tell

  abbrev quiet_by : J → (ℕ → Mark J A) → Bool
  quiet_by job f = all_below (rs.count job (λ i. answer_of (f i))) (λ i. is_settled (f i) (rs.rule job (λ j. answer_of (f j)) i))

  pub quiet_is : (m : Marks J A) (row : Row J A) → IsRow m row → is_quiet rs m row.job row.place ≡ is_quiet_row rs row
  quiet_is m row is =
      let same : ◌≡◌ {A = ℕ → Mark J A} (λ i. m (i ∷ row.place)) row.marks = λ x i. is.items i x in
      ap (quiet_by row.job) same

  module _ (rank : J → ℕ) (law : Lawful rs rank) (top : J) (table : Table J A) (m : Marks J A) (nested : Nested rs top m) (stands : StandsFor table m) (k : ℕ) (row : Row J A) (here : table k ≡ Some row) where
    own_is : IsRow m row
    own_is = stands.rows k row here

    in_job_of : (i : ℕ) (t : Task J W) → rs.rule row.job (answers_in row) i ≡ Some t → InJob rs m i row.place t
    in_job_of i t task = record { job = row.job; is_open = own_is.is_open; has_task = subst (λ (v : Values A). rs.rule row.job v i ≡ Some t) (sym (answers_are table m stands k row here)) task }

    pub claims : (i : ℕ) (work : W) → row.marks i ≡ Free → rs.rule row.job (answers_in row) i ≡ Some (Work work) → IsEnabled rs m (i ∷ row.place) × StandsFor (put_row table k (Some (with_mark row i Busy))) (claimed rs m (i ∷ row.place))
    claims i work free task =
        let free_so : m (i ∷ row.place) ≡ Free = own_is.items i ∙ free in
        let job = in_job_of i (Work work) task in (
          work_enabled rs rank law top m i row.place work nested free_so job,
          subst (StandsFor (put_row table k (Some (with_mark row i Busy)))) (sym (claimed_ready rs rank law top m i row.place work nested free_so job))
              (writes table m stands k row here i Busy (λ d e. let no : Free ≡ Open d = sym free_so ∙ e in cc) (λ d e. cc)),
        )

    pub opens_so : (l i : ℕ) (d : J) → table l ≡ None → row.marks i ≡ Free → rs.rule row.job (answers_in row) i ≡ Some (Call d) → Opens rs top table m k l i row d
    opens_so l i d free_key free task =
        let free_so : m (i ∷ row.place) ≡ Free = own_is.items i ∙ free in
        let job = in_job_of i (Call d) task in
        record {
          nested = opens_nested rs rank law top m i row.place d nested free_so job;
          stands = grows_by table m stands k row here l i d free_key free_so (λ j. nested.fresh j (i ∷ row.place) free_so);
          claims = claimed_below rs rank law top m i row.place d nested free_so job;
          enables = enabled_below rs rank law top m i row.place d nested free_so job;
        }

    pub finishes_so : (i : ℕ) (answer : A) → row.marks i ≡ Busy → Finishes rs top table m k i row answer
    finishes_so i answer busy =
        let busy_so : m (i ∷ row.place) ≡ Busy = own_is.items i ∙ busy in
        record {
          nested = ends_nested rs rank law top m i row.place answer nested busy_so;
          stands = writes table m stands k row here i (Done answer) (λ d e. let no : Busy ≡ Open d = sym busy_so ∙ e in cc) (λ d e. cc);
          closes = finished_is rs m i row.place answer busy_so;
        }

    pub stops : is_quiet_row rs row ≡ false → closed rs m row.place ≡ m
    stops unsettled = closed_stops rs rank law top m row.place row.job nested own_is.is_open (quiet_is m row own_is ∙ unsettled)

    outcome_same : rs.outcome row.job (values m row.place) ≡ rs.outcome row.job (answers_in row)
    outcome_same = ap (rs.outcome row.job) (answers_are table m stands k row here)

    pub closes_so : (l i : ℕ) (upper : Row J A) → table l ≡ Some upper → row.place ≡ i ∷ upper.place → is_quiet_row rs row ≡ true → Closes rs top table m k l i row upper
    closes_so l i upper above place_is quiet =
        let a : Place = i ∷ upper.place in
        let y : Mark J A = Done (rs.outcome row.job (answers_in row)) in
        let o : m a ≡ Open row.job = ap m (sym place_is) ∙ own_is.is_open in
        let quiet_so : is_quiet rs m row.job a ≡ true = ap (is_quiet rs m row.job) (sym place_is) ∙ (quiet_is m row own_is ∙ quiet) in
        let outcome : rs.outcome row.job (values m a) ≡ rs.outcome row.job (answers_in row) = ap (λ (z : Place). rs.outcome row.job (values m z)) (sym place_is) ∙ outcome_same in
        let same : put m a (Done (rs.outcome row.job (values m a))) ≡ put m a y = ap (λ (z : A). put m a (Done z)) outcome in
        record {
          was = sym ((stands.rows l upper above).items i) ∙ o;
          nested = subst (Nested rs top) same (closes_nested rs rank law top m a row.job nested o quiet_so);
          stands = goes table m stands k row here y (λ d e. cc) l i upper above place_is;
          goes_on = closed_goes_on rs m i upper.place row.job o quiet_so ∙ ap (λ (n : Marks J A). closed rs n upper.place) same;
        }

    pub none_below : (l i : ℕ) (other : Row J A) → table l ≡ Some other → is_quiet_row rs row ≡ true → other.place ≢ i ∷ row.place
    none_below l i other there quiet place_is =
        let below_row = stands.rows l other there in
        let o : m (i ∷ row.place) ≡ Open other.job = ap m (sym place_is) ∙ below_row.is_open in
        (quiet_idle rs rank law top m row.job row.place i nested own_is.is_open (quiet_is m row own_is ∙ quiet)).1 other.job o

    pub closes_top_so : row.place ≡ [] → is_quiet_row rs row ≡ true → ClosesTop rs table m k row
    closes_top_so place_is quiet =
        let y : Mark J A = Done (rs.outcome row.job (answers_in row)) in
        let o : m [] ≡ Open row.job = ap m (sym place_is) ∙ own_is.is_open in
        let quiet_so : is_quiet rs m row.job [] ≡ true = ap (is_quiet rs m row.job) (sym place_is) ∙ (quiet_is m row own_is ∙ quiet) in
        let outcome : rs.outcome row.job (values m []) ≡ rs.outcome row.job (answers_in row) = ap (λ (z : Place). rs.outcome row.job (values m z)) (sym place_is) ∙ outcome_same in
        let same : closed rs m [] ≡ put m [] y = closed_top rs m row.job o quiet_so ∙ ap (λ (z : A). put m [] (Done z)) outcome in
        record {
          stands = subst (StandsFor (put_row table k None)) (sym same) (top_goes table m stands k row here y (λ d e. cc) place_is);
          done = ap (λ (n : Marks J A). n []) same ∙ put_here m [] y;
        }
