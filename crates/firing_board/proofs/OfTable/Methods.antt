-- What the methods of a table give, from what they do to one row.
use Rattle.std.proofs.Common.{◌≡◌, ℕ, ◌<◌, ◌+◌, List, [], ◌∷◌, ◌++◌, length, get_or, set, Option, Some, None, Result, Ok, Err, OnOk, OnErr, All, refl, sym, ap, ◌∙◌, subst, arith, length-append}
use Rattle.std.proofs.lemmas.List.{get_or_append_left, get_or_at, set-get_or}
use Rattle.std.proofs.lemmas.List.Elements.{All-from_get_or, All-get_or}
use Rattle.std.specs.declared.alloc.AllocError.{AllocError}
use Rattle.job_preparing.specs.Handing.{lent_at, mark_at}
use Rattle.job_preparing.specs.declared.compiling.CompileEnd.{CompileEnd}
use Rattle.job_rules.specs.Words.{Answer}
use Rattle.kernel_gate.specs.Value.{Places}
use Rattle.nested_jobs.specs.Marks.{Busy, Done, Mark}
use Rattle.graph_firing.specs.Calls.{with_item, with_mark}
use Rattle.graph_firing.specs.View.{OpenView, compilation_of, free_in, free_one}
use Rattle.pisdf_meaning.specs.declared.firing.Firing.{Firing}
use Rattle.firing_board.specs.Table.Calls.{AsksAsBefore, FinishesIn, LendsAsBefore, LendsItem, MarksItem}
use Rattle.firing_board.specs.Table.Slots.{CompilesSlot, InSlot, IsUnlent, change_row}
use Rattle.firing_board.specs.Table.View.{HasJob, NothingIsLent, TableView, free_by, free_items, lent_by, lent_in, row_at, with_job}
use Rattle.firing_board.specs.declared.table.row.Row.{Row}
use Rattle.firing_board.proofs.OfTable.Freeing.{marks_freed, row_freed}
use Rattle.firing_board.proofs.OfTable.Rows.{inside_of}
use Rattle.firing_board.proofs.OfTable.Writes.{in_slot, lends_item, lends_same, lent_inside, mark_inside, marks_item, marks_set, rooms_same, slot_row}

-- a table, as it is and as it is seen, and what stands at a key of it
module _ (v now : TableView) (e : v ≡ now) (k : ℕ) (slot : Option Row) (read : slot ≡ get_or v.rows k slot) where
  abbrev pub with_slot : Option Row → TableView
  with_slot slot' = record { graphs = v.graphs; workers = v.workers; rows = set v.rows k slot' }

  pub slot_has : (P : OpenView → Type 0) → HasJob P now k → InSlot P slot
  slot_has P has = in_slot P v k slot (has.0, ap (λ (x : TableView). row_at x k) e ∙ has.1, has.2) read

  -- what was read is written back
  pub slot_same : (slot' : Option Row) → slot' ≡ slot → with_slot slot' ≡ now
  slot_same slot' is = ap (λ (rows : List (Option Row)). record { graphs = v.graphs; workers = v.workers; rows = rows }) (ap (set v.rows k) (is ∙ read) ∙ set-get_or v.rows k slot) ∙ e

  module _ (row : Row) (here : row_at now k ≡ Some row) where
    here_v : row_at v k ≡ Some row
    here_v = ap (λ (x : TableView). row_at x k) e ∙ here

    pub slot_is : slot ≡ Some row
    slot_is = slot_row v k row slot here_v read

    pub in_row : (P : OpenView → Type 0) → InSlot P slot → P row.job
    in_row P is = subst (InSlot P) slot_is is

    pub changed : (f : OpenView → OpenView) (slot' : Option Row) → slot' ≡ change_row f slot → slot' ≡ Some (with_job row (f row.job))
    changed f slot' is = is ∙ ap (change_row f) slot_is

    pub item_marked : (item : ℕ) (y : Mark Firing Answer) (places : Option Places) (slot' : Option Row) → slot' ≡ Some (with_job row (with_item row.job item y places)) → item < length row.job.marks → MarksItem k item y now (with_slot slot')
    item_marked item y places slot' is inside =
        subst (λ (x : TableView). MarksItem k item y x (with_slot slot')) e
        (marks_set v (set v.rows k slot') k row (with_item row.job item y places) here_v (ap (set v.rows k) is) item y refl refl refl (λ cells is. is) refl inside)

    pub item_lent : (item : ℕ) (y : Mark Firing Answer) (places : Option Places) (slot' : Option Row) → slot' ≡ Some (with_job row (with_item row.job item y places)) → item < length row.job.lent → LendsItem k item places now (with_slot slot')
    item_lent item y places slot' is inside =
        subst (λ (x : TableView). LendsItem k item places x (with_slot slot')) e
        (lends_item v (set v.rows k slot') k row (with_item row.job item y places) here_v (ap (set v.rows k) is) item places refl inside)

    pub mark_marked : (item : ℕ) (y : Mark Firing Answer) (slot' : Option Row) → slot' ≡ Some (with_job row (with_mark row.job item y)) → item < length row.job.marks → MarksItem k item y now (with_slot slot')
    mark_marked item y slot' is inside =
        subst (λ (x : TableView). MarksItem k item y x (with_slot slot')) e
        (marks_set v (set v.rows k slot') k row (with_mark row.job item y) here_v (ap (set v.rows k) is) item y refl refl refl (λ cells is. is) refl inside)

    pub lent_still : (job : OpenView) (slot' : Option Row) → slot' ≡ Some (with_job row job) → ((i : ℕ) → lent_at job.lent i ≡ lent_at row.job.lent i) → LendsAsBefore now (with_slot slot')
    lent_still job slot' is same =
        subst (λ (x : TableView). LendsAsBefore x (with_slot slot')) e
        (lends_same v (set v.rows k slot') k row job here_v (ap (set v.rows k) is) same)

    pub room_still : (job : OpenView) (slot' : Option Row) → slot' ≡ Some (with_job row job) → job.room ≡ row.job.room → AsksAsBefore now (with_slot slot')
    room_still job slot' is same =
        subst (λ (x : TableView). AsksAsBefore x (with_slot slot')) e
        (rooms_same v (set v.rows k slot') k row job here_v (ap (set v.rows k) is) same)

    -- how many items are free then
    pub job_freed : (job : OpenView) (slot' : Option Row) → slot' ≡ Some (with_job row job) → free_items (with_slot slot') + free_in row.job.marks ≡ free_items now + free_in job.marks
    job_freed job slot' is =
        let all = row_freed v.rows k (Some row) slot' (inside_of v.rows k row here_v) here_v in
        let after : free_by slot' ≡ free_in job.marks = ap free_by is in
        let same : free_items v ≡ free_items now = ap free_items e in
        omega (arith, all, after, same)

    pub item_freed : (item : ℕ) (y : Mark Firing Answer) (job : OpenView) (slot' : Option Row) → slot' ≡ Some (with_job row job) → job.marks ≡ set row.job.marks item y → item < length row.job.marks
        → free_items (with_slot slot') + free_one (mark_at row.job.marks item) ≡ free_items now + free_one y
    item_freed item y job slot' is marks inside =
        let all = job_freed job slot' is in
        let own = marks_freed row.job.marks item y inside in
        let written : free_in job.marks ≡ free_in (set row.job.marks item y) = ap free_in marks in
        omega (arith, all, own, written)

    -- the compilation
    pub compiled : (end : CompileEnd) (slot' : Option Row) → CompilesSlot end slot slot' → FinishesIn k end now (with_slot slot') row.job × LendsAsBefore now (with_slot slot')
    compiled end slot' is =
        let t : CompilesSlot end (Some row) slot' = subst (λ (s : Option Row). CompilesSlot end s slot') slot_is is in
        let f = t.1 in (
          record {
            answer = f.answer;
            answer_is = f.answer_is;
            answered = f.answered;
            marks = subst (λ (x : TableView). MarksItem k (compilation_of row.job) (Done f.answer) x (with_slot slot')) e
                (marks_item v (set v.rows k slot') k row t.0 here_v (ap (set v.rows k) t.2) (compilation_of row.job) (Done f.answer) f.graphs_are f.workers_are f.firing_is (λ cells some. absurd (let none = f.unplaced in cc)) f.done f.others);
            free = let all = job_freed t.0 slot' t.2 in let few = f.free in omega (arith, all, few);
          },
          lent_still t.0 slot' t.2 f.lent,
        )

    pub compile_lent : (end : CompileEnd) (slot' : Option Row) (r : Result (Unit {0}) AllocError) → OnOk r (CompilesSlot end slot slot') → OnErr r (slot' ≡ slot) → LendsAsBefore now (with_slot slot')
    compile_lent end slot' (Ok done) ok err = (compiled end slot' ok).1
    compile_lent end slot' (Err error) ok err = lent_still row.job slot' (err ∙ slot_is) (λ i. refl)

    pub busy_lent : {T : Type 0} (r : Result T AllocError) (item : ℕ) (slot' : Option Row) → OnOk r (slot' ≡ Some (with_job row (with_mark row.job item Busy))) → OnErr r (slot' ≡ slot) → LendsAsBefore now (with_slot slot')
    busy_lent (Ok x) item slot' ok err = lent_still (with_mark row.job item Busy) slot' ok (λ i. refl)
    busy_lent (Err error) item slot' ok err = lent_still row.job slot' (err ∙ slot_is) (λ i. refl)

    pub busy_room : {T : Type 0} (r : Result T AllocError) (item : ℕ) (slot' : Option Row) → OnOk r (slot' ≡ Some (with_job row (with_mark row.job item Busy))) → OnErr r (slot' ≡ slot) → AsksAsBefore now (with_slot slot')
    busy_room (Ok x) item slot' ok err = room_still (with_mark row.job item Busy) slot' ok refl
    busy_room (Err error) item slot' ok err = room_still row.job slot' (err ∙ slot_is) refl

    pub busy_inside : (item : ℕ) → mark_at row.job.marks item ≡ Busy → item < length row.job.marks
    busy_inside item busy = mark_inside row.job.marks item Busy busy (λ no. cc)

    pub lent_there : (item : ℕ) (places : Places) → lent_in now k item ≡ Some places → item < length row.job.lent
    lent_there item places is = lent_inside row.job.lent item places (sym (ap (λ (r : Option Row). lent_by r item) here) ∙ is)

    pub lent_is : (item : ℕ) (places : Places) → lent_in now k item ≡ Some places → lent_at row.job.lent item ≡ Some places
    lent_is item places is = sym (ap (λ (r : Option Row). lent_by r item) here) ∙ is

-- ---- giving up

pub all_unlent : (v : TableView) → NothingIsLent v → All IsUnlent v.rows
all_unlent v nothing = All-from_get_or IsUnlent v.rows None (λ k lt. go (row_at v k) k refl)
  where
    go : (o : Option Row) (k : ℕ) → row_at v k ≡ o → IsUnlent o
    go None k e = tt
    go (Some row) k e = record { each = λ i. sym (ap (λ (r : Option Row). lent_by r i) e) ∙ nothing k i }

pub all_before : (rows : List (Option Row)) (last : Option Row) → All IsUnlent (rows ++ last ∷ []) → All IsUnlent rows
all_before rows last all = All-from_get_or IsUnlent rows None (λ k lt.
    subst IsUnlent (get_or_append_left rows (last ∷ []) None k lt) (All-get_or IsUnlent (rows ++ last ∷ []) k None (let t = length-append rows (last ∷ []) in omega arith) all))

pub all_last : (rows : List (Option Row)) (last : Option Row) → All IsUnlent (rows ++ last ∷ []) → IsUnlent last
all_last rows last all = subst IsUnlent (get_or_at rows last [] None (length rows) refl) (All-get_or IsUnlent (rows ++ last ∷ []) (length rows) None (let t = length-append rows (last ∷ []) in omega arith) all)

-- ---- results

pub on_err_by : {T E : Type 0} (r : Result T E) (Q : Type 0) → Q → OnErr r Q
on_err_by (Ok x) Q q = tt
on_err_by (Err e) Q q = q

pub on_err_weaker : {T E : Type 0} (r : Result T E) (P Q : Type 0) → (P → Q) → OnErr r P → OnErr r Q
on_err_weaker (Ok x) P Q f is = is
on_err_weaker (Err e) P Q f is = f is
