-- What a worker is handed is what a claim says.
use Rattle.std.proofs.Common.{◌≡◌, ⊎_elim, inl, inr, ℕ, ◌-◌, true, false, Bool, eqb, nat_lt, List, [], ◌∷◌, ◌++◌, length, map, slice_index, get_or, Option, Some, None, refl, sym, ap, ◌∙◌, subst, arith}
use Rattle.std.proofs.lemmas.Bool.{eq-eqb, eqb-true, le-ltb, ltb-true}
use Rattle.kernel_gate.specs.Leased.{AreWhole}
use Rattle.kernel_gate.specs.Value.{Places}
use Rattle.nested_jobs.specs.Journals as steps
use Rattle.one_job.specs.Leased.{OneOwnerEach}
use Rattle.job_preparing.specs.Handing.{lent_at}
use Rattle.board_rules.specs.Asking.{JobRow}
use Rattle.job_rules.specs.Items.{compile_number, graph_of, node_base}
use Rattle.job_rules.specs.Words as words
use Rattle.nested_jobs.specs.Marks.{Busy}
use Rattle.nested_jobs.specs.Rules.{Task, Work}
use Rattle.graph_firing.proofs.OfferedCompilation.{compiles, may_compile}
use Rattle.graph_firing.specs.Calls.{IsHanded, IsHandedFor, frame_of}
use Rattle.graph_firing.specs.View.{IsOfferedWork, compilation_of, graph_in, left_by, task}
use Rattle.graph_firing.specs.declared.handed.Handed.{Handed}
use Rattle.graph_firing.specs.declared.handed.Handed.TheVariants as handed
use Rattle.pisdf_meaning.specs.Configuring.{Configuration, configurations}
use Rattle.pisdf_meaning.specs.declared.firing.Firing.{Firing}
use Rattle.pisdf_model.specs.declared.graph.Graph.{Graph}
use Rattle.board_rules.specs.Entries.{item_of}
use Rattle.board_rules.specs.Keys.{Key}
use Rattle.board_rules.specs.Legal.{state_after}
use Rattle.board_rules.specs.declared.entry.Entry.{Entry}
use Rattle.board_rules.specs.declared.entry.Entry.TheVariants as entry
use Rattle.board_rules.specs.declared.entry.ItemName.{ItemName}
use Rattle.board_rules.specs.declared.entry.ItemName.TheVariants as items
use Rattle.firing_board.specs.Table.Calls.{LendsItem, MarksItem, StaysAs}
use Rattle.firing_board.specs.Table.View.{TableView, firings_of, lent_by, lent_in, job_row, row_at, table_of}
use Rattle.firing_board.specs.declared.table.row.Row.{Row}
use Rattle.firing_board.specs.Claims.{Claims, EntersAs, EntersItem, IsTicket, Picks}
use Rattle.firing_board.specs.Core.{HasMemory, held_of}
use Rattle.firing_board.specs.Firings.{FiringsGoOn, LeasesFrame, LeasesNode}
use Rattle.firing_board.specs.Finding.{IsFound}
use Rattle.firing_board.specs.Handing.{HandsCompilation, HandsFrame, HandsOut, claim_of, path_in}
use Rattle.firing_board.specs.Invariants.{view_with}
use Rattle.firing_board.specs.OnCore.{ClaimsOn, MayClaim}
use Rattle.firing_board.specs.Opening.{KeepsRuns}
use Rattle.firing_board.specs.View.{BoardView}
use Rattle.firing_board.specs.Wanting.{MayStarve}
use Rattle.firing_board.specs.declared.claim.Claim.{Claim}
use Rattle.firing_board.specs.declared.claim.Claim.TheVariants as claim
use Rattle.firing_board.specs.declared.claim.Ticket.{Ticket}
use Rattle.firing_board.specs.declared.state.Core.{Core}
use Rattle.firing_board.specs.declared.run.Run.{Run}
use Rattle.firing_board.proofs.Claimed.{ClaimLaws, apart, entered_next, keeps_next, kept_next, lent_next, runs_next, suits_next, task_stands, work_next}
use Rattle.firing_board.proofs.LeasedFrames.{behind_compilation, leases_node}
use Rattle.firing_board.proofs.Openings.{task_by}
use Rattle.firing_board.proofs.Rows.{firings_go_on, in_table, last_go_on, marks_rows, rows_on, the_same}
use Rattle.firing_board.proofs.Runners.{held_as}
use Rattle.firing_board.proofs.Took.{Took, as_before_through, lends_through, marks_through, took}

-- a frame for this work
handed_claims : (before : Bool) (work : words.Work) (h : Handed) (ticket : Ticket) (old new : BoardView) (w : ℕ) → IsHandedFor before (Some (Work work)) h → IsTicket old w ticket → Picks old new w work (Some (frame_of h).places)
    → Claims old new w (claim_of ticket h)
handed_claims true (words.Fires spot asked) (handed.Configure frame) ticket old new w is t p = (t, spot, asked, is, p)
handed_claims true (words.Fires spot asked) (handed.Fire frame) ticket old new w is t p = absurd is
handed_claims true (words.Fires spot asked) (handed.Copy node frame) ticket old new w is t p = absurd is
handed_claims false (words.Fires spot asked) (handed.Configure frame) ticket old new w is t p = absurd is
handed_claims false (words.Fires spot asked) (handed.Fire frame) ticket old new w is t p = (t, spot, asked, is, p)
handed_claims false (words.Fires spot asked) (handed.Copy node frame) ticket old new w is t p = absurd is
handed_claims true (words.Copies node read lens) (handed.Configure frame) ticket old new w is t p = absurd is
handed_claims true (words.Copies node read lens) (handed.Fire frame) ticket old new w is t p = absurd is
handed_claims true (words.Copies node read lens) (handed.Copy other frame) ticket old new w is t p = absurd is
handed_claims false (words.Copies node read lens) (handed.Configure frame) ticket old new w is t p = absurd is
handed_claims false (words.Copies node read lens) (handed.Fire frame) ticket old new w is t p = absurd is
handed_claims false (words.Copies node read lens) (handed.Copy other frame) ticket old new w is t p = (t, read, lens, is.1, subst (λ n. Picks old new w (words.Copies n read lens) (Some frame.places)) (sym is.0) p)
handed_claims true (words.Compiles firing left) h ticket old new w is t p = absurd is
handed_claims false (words.Compiles firing left) h ticket old new w is t p = absurd is

handed_leases : (before : Bool) (work : words.Work) (h : Handed) (ticket : Ticket) (b : BoardView) (w : ℕ) → IsHandedFor before (Some (Work work)) h → (before ≡ false → LeasesNode b w (frame_of h).places) → (before ≡ true → AreWhole (frame_of h).places)
    → LeasesFrame b w (claim_of ticket h)
handed_leases true (words.Fires spot asked) (handed.Configure frame) ticket b w is node whole = whole refl
handed_leases true (words.Fires spot asked) (handed.Fire frame) ticket b w is node whole = absurd is
handed_leases true (words.Fires spot asked) (handed.Copy which frame) ticket b w is node whole = absurd is
handed_leases false (words.Fires spot asked) (handed.Configure frame) ticket b w is node whole = absurd is
handed_leases false (words.Fires spot asked) (handed.Fire frame) ticket b w is node whole = node refl
handed_leases false (words.Fires spot asked) (handed.Copy which frame) ticket b w is node whole = absurd is
handed_leases true (words.Copies which read lens) (handed.Configure frame) ticket b w is node whole = absurd is
handed_leases true (words.Copies which read lens) (handed.Fire frame) ticket b w is node whole = absurd is
handed_leases true (words.Copies which read lens) (handed.Copy other frame) ticket b w is node whole = absurd is
handed_leases false (words.Copies which read lens) (handed.Configure frame) ticket b w is node whole = absurd is
handed_leases false (words.Copies which read lens) (handed.Fire frame) ticket b w is node whole = absurd is
handed_leases false (words.Copies which read lens) (handed.Copy other frame) ticket b w is node whole = node refl
handed_leases true (words.Compiles firing left) h ticket b w is node whole = absurd is
handed_leases false (words.Compiles firing left) h ticket b w is node whole = absurd is

same_number : (before after : Row) → StaysAs before after → compilation_of after.job ≡ compilation_of before.job
same_number before after stays = λ t. compile_number (graph_of (stays.graphs_are t).graphs (stays.firing_is t))

-- ---- what is entered

compile_named : (g : Graph) (i : ℕ) → i ≡ compile_number g → item_of g i ≡ items.Compile
compile_named g i at =
    let late : nat_lt i (compile_number g) ≡ false = le-ltb i (compile_number g) (omega (arith, at)) in
    let same : eqb i (compile_number g) ≡ true = eq-eqb i (compile_number g) at in
    rw late (rw same refl)

config_named : (g : Graph) (i : ℕ) → nat_lt i (compile_number g) ≡ true → (place : ℕ) × (item_of g i ≡ items.Configure place)
config_named g i early = (slice_index (map (λ (c : Configuration). c.place) (configurations g)) i, rw early refl)

node_named : (g : Graph) (i : ℕ) → nat_lt i (compile_number g) ≡ false → (i ≡ compile_number g → ⊥) → (number : ℕ) × (item_of g i ≡ items.Node number)
node_named g i late apart = (i - node_base g, rw late (rw (other (eqb i (compile_number g)) refl) refl))
  where
    other : (b : Bool) → eqb i (compile_number g) ≡ b → eqb i (compile_number g) ≡ false
    other true e = absurd (apart (eqb-true i (compile_number g) e))
    other false e = e

enters_config : (g : Graph) (i : ℕ) (old new : List Entry) (w : ℕ) → nat_lt i (compile_number g) ≡ true → EntersItem old new w (item_of g i) → (place : ℕ) × EntersItem old new w (items.Configure place)
enters_config g i old new w early e = let n = config_named g i early in (n.0, subst (EntersItem old new w) n.1 e)

enters_node : (g : Graph) (i : ℕ) (old new : List Entry) (w : ℕ) → nat_lt i (compile_number g) ≡ false → (i ≡ compile_number g → ⊥) → EntersItem old new w (item_of g i) → (number : ℕ) × EntersItem old new w (items.Node number)
enters_node g i old new w late apart e = let n = node_named g i late apart in (n.0, subst (EntersItem old new w) n.1 e)

-- a configuration actor to be configured, a node to be fired or copied
enters_by : (g : Graph) (i : ℕ) (before : Bool) (work : words.Work) (h : Handed) (ticket : Ticket) (old new : BoardView) (w : ℕ) → nat_lt i (compile_number g) ≡ before → IsHandedFor before (Some (Work work)) h → (i ≡ compile_number g → ⊥)
    → EntersItem old.journal new.journal w (item_of g i) → EntersAs old new w (claim_of ticket h)
enters_by g i true (words.Fires spot asked) (handed.Configure frame) ticket old new w early is apart e = enters_config g i old.journal new.journal w early e
enters_by g i true (words.Fires spot asked) (handed.Fire frame) ticket old new w early is apart e = absurd is
enters_by g i true (words.Fires spot asked) (handed.Copy node frame) ticket old new w early is apart e = absurd is
enters_by g i false (words.Fires spot asked) (handed.Configure frame) ticket old new w late is apart e = absurd is
enters_by g i false (words.Fires spot asked) (handed.Fire frame) ticket old new w late is apart e = enters_node g i old.journal new.journal w late apart e
enters_by g i false (words.Fires spot asked) (handed.Copy node frame) ticket old new w late is apart e = absurd is
enters_by g i true (words.Copies node read lens) (handed.Configure frame) ticket old new w early is apart e = absurd is
enters_by g i true (words.Copies node read lens) (handed.Fire frame) ticket old new w early is apart e = absurd is
enters_by g i true (words.Copies node read lens) (handed.Copy other frame) ticket old new w early is apart e = absurd is
enters_by g i false (words.Copies node read lens) (handed.Configure frame) ticket old new w late is apart e = absurd is
enters_by g i false (words.Copies node read lens) (handed.Fire frame) ticket old new w late is apart e = absurd is
enters_by g i false (words.Copies node read lens) (handed.Copy other frame) ticket old new w late is apart e = enters_node g i old.journal new.journal w late apart e
enters_by g i true (words.Compiles firing left) h ticket old new w early is apart e = absurd is
enters_by g i false (words.Compiles firing left) h ticket old new w late is apart e = absurd is

handed_enters : (g : Graph) (i : ℕ) (work : words.Work) (h : Handed) (ticket : Ticket) (old new : BoardView) (w : ℕ) → IsHandedFor (nat_lt i (compile_number g)) (Some (Work work)) h → (i ≡ compile_number g → ⊥)
    → EntersItem old.journal new.journal w (item_of g i) → EntersAs old new w (claim_of ticket h)
handed_enters g i work h ticket old new w is apart e = enters_by g i (nat_lt i (compile_number g)) work h ticket old new w refl is apart e

-- which run it is that a worker holds
pub run_of : (r : Option Run) (k i : ℕ) → held_as r ≡ Some (k, i) → (run : Run) × (r ≡ Some run) × (run.row ≡ k) × (run.item ≡ i)
run_of None k i is = absurd (cc)
run_of (Some run) k i is = (run, refl, ap (λ (o : Option (ℕ × ℕ)). row_or o) is, ap (λ (o : Option (ℕ × ℕ)). item_or o) is)
  where
    row_or : Option (ℕ × ℕ) → ℕ
    row_or None = 0
    row_or (Some h) = h.0

    item_or : Option (ℕ × ℕ) → ℕ
    item_or None = 0
    item_or (Some h) = h.1

pub none_if : (o : Option Places) → ((places : Places) → o ≡ Some places → ⊥) → o ≡ None
none_if None not = refl
none_if (Some places) not = absurd (not places refl)

module _ (laws : ClaimLaws) (key : Key) (old : Core) (w : ℕ) (may : MayClaim key old w) (mid : Core) (run : Run) (found : IsFound key may.keeps.taken old w mid run) (kept : KeepsRuns old mid) (new : Core) where
  picks : (item : ItemName) (ticket : Ticket) (item_is : item ≡ item_of (graph_in found.row.job) run.item) (marks : MarksItem run.row run.item Busy mid.table new.table) (frame : Option Places)
      (lends : LendsItem run.row run.item frame mid.table new.table) (t : Took mid w run item ticket new) → Picks (view_with key old false) (view_with key new false) w found.offered.work frame
  picks item ticket item_is marks frame lends t =
      let next = kept_next laws key old w may mid run found kept new item ticket item_is marks frame lends t in
      record {
        taken = may.keeps.taken;
        before = record { legal = may.keeps.at.kept.legal; entered = may.keeps.at.entered };
        item = run.item;
        place = found.row.place;
        picked = found.picked;
        after = record { legal = next.legal; entered = entered_next laws key old w may mid run found kept new item ticket item_is marks frame lends t };
        runs = work_next laws key old w may mid run found kept new item ticket item_is marks frame lends t;
        live = refl;
        new_is = ap (λ (l : List (Option Places)). record { key = key; journal = new.journal.entries; starved = false; firings = firings_of new.table; lent = l; kept = false }) (lent_next laws key old w may mid run found kept new item ticket item_is marks frame lends t);
      }

  firings_claimed : MarksItem run.row run.item Busy mid.table new.table → FiringsGoOn (firings_of old.table) (firings_of new.table)
  firings_claimed marks = firings_go_on old.table new.table (last_go_on old.table new.table (rows_on old.table mid.table new.table kept.rows (marks_rows run.row run.item Busy mid.table new.table marks)))

  entered_in : (item : ItemName) (ticket : Ticket) → Took mid w run item ticket new → EntersItem old.journal.entries new.journal.entries w item
  entered_in item ticket t = record { path = path_in mid run.row; entered = t.entries_are ∙ ap (λ (es : List Entry). es ++ entry.Claim w (path_in mid run.row) item ∷ []) kept.entries_are }

  -- where it is the compilation, its work is to compile
  compiles_so : run.item ≡ compilation_of found.row.job → words.Compiles found.row.job.firing (left_by found.row.job) ≡ found.offered.work
  compiles_so at =
      let offered = subst (IsOfferedWork found.row.job) at found.offered in
      let one = compiles found.row.job (may_compile found.row.job offered) in
      let two : task found.row.job (compilation_of found.row.job) ≡ Some (Work found.offered.work) = ap (task found.row.job) (sym at) ∙ found.offered.task_is in
      cc

  -- memory may be wanted for it
  pub compile_wants : run.item ≡ compilation_of found.row.job → MayStarve (view_with key old false) w
  compile_wants at =
      let m = (state_after key may.keeps.taken).marks in
      let s = may.keeps.at in
      record {
        taken = may.keeps.taken;
        at = record { legal = s.kept.legal; entered = s.entered };
        wants = ⊎_elim
            (λ (same : mid ≡ old).
            let here : row_at old.table run.row ≡ Some found.row = ap (λ (x : Core). row_at x.table run.row) (sym same) ∙ found.here in
            let has = task_by key m old.table run.row run.item found.row (Some (Work found.offered.work)) s.suits here found.offered.task_is in
            let there = task_stands key m (table_of old.table) run.row run.item (job_row found.row) (Some (Work found.offered.work)) s.kept.stands (in_table old.table run.row found.row here) has in
            inr record {
              item = run.item;
              place = found.row.place;
              picked = found.picked;
              firing = found.row.job.firing;
              left = left_by found.row.job;
              compiles = there ∙ ap (λ (x : words.Work). Some (Work x)) (sym (compiles_so at));
            })
            (λ closed. inl record { item = run.item; place = found.row.place; picked = found.picked; opens = closed })
            found.opens;
      }

  module _ (room : HasMemory new) (result : Claim) (h : HandsOut mid w run new result) where
    is_row : h.row ≡ found.row
    is_row = the_same (row_at mid.table run.row) h.row found.row h.here found.here

    abbrev item : ItemName
    item = item_of (graph_in h.row.job) run.item

    item_is : item ≡ item_of (graph_in found.row.job) run.item
    item_is = ap (λ (r : Row). item_of (graph_in r.job) run.item) is_row

    frame_claims : HandsFrame mid w run item new result → ClaimsOn key old w new result
    frame_claims f =
        let t = took mid f.claimed new w run item f.ticket f.running_is f.numbers_are f.journal_is f.end_is room f.enters in
        let marks = marks_through mid.table f.claimed.table new.table run.row run.item f.enters.table_is f.marks in
        let places : Option Places = Some (frame_of f.handed).places in
        let lends = lends_through mid.table f.claimed.table new.table run.row run.item places f.enters.table_is f.lends in
        let p = picks item f.ticket item_is marks places lends t in
        let row : f.row ≡ found.row = the_same (row_at mid.table run.row) f.row found.row f.here found.here in
        let so : IsHanded found.row.job run.item f.handed = subst (λ (r : Row). IsHanded r.job run.item f.handed) row f.handed_so in
        let before = nat_lt run.item (compilation_of found.row.job) in
        let work = subst (λ (x : Option (Task Firing words.Work)). IsHandedFor before x f.handed) found.offered.task_is so in
        let ticket : IsTicket (view_with key old false) w f.ticket = t.ticket_is ∙ ap (λ (es : List Entry). record { worker = w; entry = length es }) kept.entries_are in
        let c = handed_claims before found.offered.work f.handed f.ticket (view_with key old false) (view_with key new false) w work ticket p in
        let entered = entered_in item f.ticket t in
        let e = handed_enters (graph_in found.row.job) run.item found.offered.work f.handed f.ticket (view_with key old false) (view_with key new false) w work
        (λ (at : run.item ≡ compilation_of found.row.job). f.framed (at ∙ ap (λ (r : Row). compilation_of r.job) (sym row)))
        (subst (EntersItem old.journal.entries new.journal.entries w) item_is entered) in
        let here : row_at new.table run.row ≡ Some f.marks.after = ap (λ (v : TableView). row_at v run.row) f.enters.table_is ∙ f.marks.now in
        let own : OneOwnerEach (lent_in new.table run.row) = subst (λ (o : Option Row). OneOwnerEach (lent_by o)) (sym here) f.owners in
        let lent : lent_at f.marks.after.job.lent run.item ≡ places = sym (ap (λ (o : Option Row). lent_by o run.item) here) ∙ lends.here in
        let was : f.marks.before ≡ found.row = the_same (row_at mid.table run.row) f.marks.before found.row f.marks.here found.here in
        let number : compilation_of f.marks.after.job ≡ compilation_of found.row.job = same_number f.marks.before f.marks.after f.marks.stays ∙ ap (λ (r : Row). compilation_of r.job) was in
        let next = kept_next laws key old w may mid run found kept new item f.ticket item_is marks places lends t in
        let entries = entered_next laws key old w may mid run found kept new item f.ticket item_is marks places lends t in
        let suits = suits_next laws key old w may mid run found kept new item f.ticket item_is marks places lends t in
        let runs = runs_next laws key old w may mid run found kept new item f.ticket item_is marks places lends t in
        let runs_here = runs.2 ∙ ap (λ (r : JobRow). Some (run.item ∷ r.place)) (the_same (table_of new.table run.row) runs.0 (job_row f.marks.after) runs.1 (in_table new.table run.row f.marks.after here)) in
        let other : run.item ≡ compilation_of found.row.job → ⊥ = λ at. f.framed (at ∙ ap (λ (r : Row). compilation_of r.job) (sym row)) in
        let leases = handed_leases before found.offered.work f.handed f.ticket (view_with key new false) w work
        (λ (late : nat_lt run.item (compilation_of found.row.job) ≡ false).
        leases_node key (may.keeps.taken ++ steps.Claim w (run.item ∷ found.row.place) ∷ []) new (held_of new.running.items) next entries suits w run.row run.item f.marks.after here runs_here f.leases (frame_of f.handed).places lent
        (behind_compilation (compilation_of f.marks.after.job) run.item (ap (nat_lt run.item) number ∙ late) (λ at. other (at ∙ number))))
        (λ (early : nat_lt run.item (compilation_of found.row.job) ≡ true).
        f.leases.actors run.item (frame_of f.handed).places (ltb-true run.item (compilation_of f.marks.after.job) (ap (nat_lt run.item) number ∙ early)) lent) in
        record {
          claims = subst (Claims (view_with key old false) (view_with key new false) w) (sym f.result_is) c;
          enters = subst (EntersAs (view_with key old false) (view_with key new false) w) (sym f.result_is) e;
          firings = firings_claimed marks;
          leases = subst (LeasesFrame (view_with key new false) w) (sym f.result_is) leases;
          keeps = keeps_next laws key old w may mid run found kept new item f.ticket item_is marks places lends t own;
        }

    compilation_claims : run.item ≡ compilation_of h.row.job → HandsCompilation mid w run new result → ClaimsOn key old w new result
    compilation_claims at f =
        let row : f.row ≡ found.row = the_same (row_at mid.table run.row) f.row found.row f.here found.here in
        let at_found : run.item ≡ compilation_of found.row.job = at ∙ ap (λ (r : Row). compilation_of r.job) is_row in
        let named : items.Compile ≡ item_of (graph_in found.row.job) run.item = sym (compile_named (graph_in found.row.job) run.item at_found) in
        let t = took mid f.claimed new w run items.Compile f.ticket f.running_is f.numbers_are f.journal_is f.end_is room f.enters in
        let place : compilation_of f.row.job ≡ run.item = ap (λ (r : Row). compilation_of r.job) row ∙ sym at_found in
        let marks = marks_through mid.table f.claimed.table new.table run.row run.item f.enters.table_is (subst (λ (i : ℕ). MarksItem run.row i Busy mid.table f.claimed.table) place f.marks) in
        let as_before = as_before_through mid.table f.claimed.table new.table f.enters.table_is f.lends in
        let unlent : lent_in mid.table run.row run.item ≡ None = none_if (lent_in mid.table run.row run.item) (λ places e.
        let v = may.keeps.lent run.row run.item places (sym (kept.lent run.row run.item) ∙ e) in
        let r = run_of (get_or old.running.items v.0 None) run.row run.item v.1 in
        apart laws key old w may mid run found kept v.0 r.0 r.1 r.2 r.3) in
        let lends : LendsItem run.row run.item None mid.table new.table = record {
          here = as_before run.row run.item ∙ unlent;
          in_job = λ i other. as_before run.row i;
          others = λ j i other. as_before j i;
        } in
        let work = compiles_so at_found in
        let p = subst (λ x. Picks (view_with key old false) (view_with key new false) w x None) (sym work) (picks items.Compile f.ticket named marks None lends t) in
        let suits = found.suits.rows run.row found.row found.here in
        let ticket : IsTicket (view_with key old false) w f.ticket = t.ticket_is ∙ ap (λ (es : List Entry). record { worker = w; entry = length es }) kept.entries_are in
        let c : (r : Row) → r ≡ found.row → Claims (view_with key old false) (view_with key new false) w (claim.Compile f.ticket record { graphs = r.job.graphs; workers = r.job.workers; firing = r.job.firing; left = left_by r.job; kept = f.kept }) =
        λ r e. subst (λ (x : Row). Claims (view_with key old false) (view_with key new false) w (claim.Compile f.ticket record { graphs = x.job.graphs; workers = x.job.workers; firing = x.job.firing; left = left_by x.job; kept = f.kept })) (sym e) (ticket, suits.graphs_are, suits.workers_are, p) in
        record {
          claims = subst (Claims (view_with key old false) (view_with key new false) w) (sym f.result_is) (c f.row row);
          enters = subst (EntersAs (view_with key old false) (view_with key new false) w) (sym f.result_is) (entered_in items.Compile f.ticket t);
          firings = firings_claimed marks;
          leases = subst (LeasesFrame (view_with key new false) w) (sym f.result_is) tt;
          keeps = keeps_next laws key old w may mid run found kept new items.Compile f.ticket named marks None lends t
              (λ i j p q a b cell one two has again. may.keeps.owners.each run.row i j p q a b cell (sym (as_before run.row i ∙ kept.lent run.row i) ∙ one) (sym (as_before run.row j ∙ kept.lent run.row j) ∙ two) has again);
        }

    pub hands_claims : ClaimsOn key old w new result
    hands_claims = ⊎_elim (λ f. frame_claims f) (λ k. compilation_claims k.0 k.1) h.handed
