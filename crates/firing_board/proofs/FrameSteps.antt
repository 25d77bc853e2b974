-- The rooms of workers from step to step.
use Rattle.std.proofs.Common.{◌≡◌, ◌≢◌, ◌⊎◌, ⊎_elim, ℕ, zero, suc, ◌+◌, ◌<◌, nat_lt, Bool, true, false, List, [], ◌∷◌, length, set, get_or, length-set, inl, inr, Option, Some, None, Result, Ok, Err, OnOk, refl, sym, ap, ◌∙◌, subst, arith}
use Rattle.std.proofs.lemmas.Bool.{cases_eq}
use Rattle.std.proofs.lemmas.List.{get_or-set_other, get_or-set_same, get_or_read}
use Rattle.std.proofs.Math.Nat.{le-max_left, le-max_right}
use Rattle.std.specs.Prelude.{is_err}
use Rattle.kernel_gate.specs.Rooms.{Suffices}
use Rattle.kernel_gate.specs.Value.{Places}
use Rattle.kernel_gate.specs.declared.room.RoomSize.{RoomSize}
use Rattle.job_rules.specs.Items.{compile_number, graph_of}
use Rattle.job_rules.specs.Words.{Answer}
use Rattle.nested_jobs.specs.Marks.{Mark}
use Rattle.pisdf_meaning.specs.declared.firing.Firing.{Firing}
use Rattle.graph_firing.specs.Rooms.{HasRoomFor, TakesRoom, is_node, slot_after}
use Rattle.board_rules.specs.declared.entry.ItemName.{ItemName}
use Rattle.firing_board.specs.Core.{HasFrameRooms, HoldsRoom, IsOut, RowsGoOn, RunsNode, lent_of, lent_with}
use Rattle.firing_board.specs.FrameRooms.{AreAllOf, FitsNeed, IsWithin, larger, size_with, slot_at}
use Rattle.firing_board.specs.Handing.{Enters}
use Rattle.firing_board.specs.Opening.{KeepsRuns}
use Rattle.firing_board.specs.Table.Calls.{AsksAsBefore, LendsAsBefore, LendsItem, MarksItem, StaysAs}
use Rattle.firing_board.specs.Table.Closing.{RowsStay}
use Rattle.firing_board.specs.Table.View.{TableView, lent_in, room_by, room_in, row_at}
use Rattle.firing_board.specs.declared.claim.Ticket.{Ticket}
use Rattle.firing_board.specs.declared.frame_rooms.FrameRooms.{FrameRooms}
use Rattle.firing_board.specs.declared.run.Run.{Run}
use Rattle.firing_board.specs.declared.state.Core.{Core}
use Rattle.firing_board.specs.declared.table.row.Row.{Row}
use Rattle.graph_firing.proofs.Rooms.{suffices_itself}
use Rattle.firing_board.proofs.Leaving.{lent_at_worker}
use Rattle.firing_board.proofs.Rows.{last_go_on, lends_row}

pub suffices_on : (a b c : RoomSize) → Suffices a b → Suffices b c → Suffices a c
suffices_on a b c one two = record {
  inputs = let x = one.inputs in let y = two.inputs in omega arith;
  outputs = let x = one.outputs in let y = two.outputs in omega arith;
  args = let x = one.args in let y = two.args in omega arith;
}

-- the larger of two sizes suffices for each
larger_one : (one other : RoomSize) → Suffices one (larger one other)
larger_one one other = record { inputs = le-max_left one.inputs other.inputs; outputs = le-max_left one.outputs other.outputs; args = le-max_left one.args other.args }

larger_other : (one other : RoomSize) → Suffices other (larger one other)
larger_other one other = record { inputs = le-max_right one.inputs other.inputs; outputs = le-max_right one.outputs other.outputs; args = le-max_right one.args other.args }

with_enough : (need : RoomSize) (before : Option RoomSize) → Suffices need (size_with need before)
with_enough need None = suffices_itself need
with_enough need (Some size) = larger_one need size

with_more : (need : RoomSize) (before : Option RoomSize) (size : RoomSize) → before ≡ Some size → Suffices size (size_with need before)
with_more need None size is = absurd (cc)
with_more need (Some own) size is = let same : own ≡ size = cc in subst (λ (x : RoomSize). Suffices x (larger need own)) same (larger_other need own)

-- one more slot has a new room
pub one_more_made : (slots : List (Option RoomSize)) (w : ℕ) (size : RoomSize) (slot : Option RoomSize) → slot ≡ Some size → w < length slots → ((u : ℕ) → u < w → slot_at slots u ≡ Some size)
    → (u : ℕ) → u < w + 1 → slot_at (set slots w slot) u ≡ Some size
one_more_made slots w size slot is inside made u below = ⊎_elim
    (λ (e : u ≡ w). ap (slot_at (set slots w slot)) e ∙ (get_or-set_same slots w slot None inside ∙ is))
    (λ apart. get_or-set_other slots w u slot None apart ∙ made u (omega arith))
    (cases_eq u w)

-- ---- frames that are out

pub same_node : (before after : Row) (i : ℕ) → StaysAs before after → is_node after.job i ≡ is_node before.job i
same_node before after i stays = λ t. nat_lt (compile_number (graph_of (stays.graphs_are t).graphs (stays.firing_is t))) i

pub runs_on : (old new : TableView) (run : Run) (before : Row) → RowsGoOn old new → row_at old run.row ≡ Some before → is_node before.job run.item ≡ true → RunsNode new run
runs_on old new run before rows here node = λ after now. same_node before after run.item (rows run.row before after here now) ∙ node

pub out_on : (size : RoomSize) (old new : TableView) (run : Run) → RowsGoOn old new → lent_in new run.row run.item ≡ lent_in old run.row run.item → IsOut size old run → IsOut size new run
out_on size old new run rows same out =
    let row = lends_row (row_at old run.row) run.item out.places out.lent in
    record { places = out.places; lent = same ∙ out.lent; enough = out.enough; node = runs_on old new run row.0 rows row.1 (out.node row.0 row.1) }

-- ---- rooms that are held

pub holds_on : (size : RoomSize) (old new : TableView) (run : Option Run) (slot : Option RoomSize) → RowsGoOn old new → ((r : Run) → run ≡ Some r → lent_in new r.row r.item ≡ lent_in old r.row r.item) → HoldsRoom size old run slot → HoldsRoom size new run slot
holds_on size old new run (Some room) rows same holds = holds
holds_on size old new None None rows same holds = absurd holds
holds_on size old new (Some r) None rows same holds = out_on size old new r rows (same r refl) holds

-- what a worker holds, by equal tables, runs and slots
pub held_as : (size : RoomSize) (v w : TableView) (run other : Option Run) (slot place : Option RoomSize) → w ≡ v → other ≡ run → place ≡ slot → HoldsRoom size v run slot → HoldsRoom size w other place
held_as size v w run other slot place tables runs slots holds =
    subst (λ (x : TableView). HoldsRoom size x other place) (sym tables)
    (subst (λ (x : Option Run). HoldsRoom size v x place) (sym runs)
    (subst (λ (x : Option RoomSize). HoldsRoom size v run x) (sym slots) holds))

-- the room of a worker that runs nothing
pub idle_room : (size : RoomSize) (v : TableView) (slot : Option RoomSize) → HoldsRoom size v None slot → (room : RoomSize) × (slot ≡ Some room) × Suffices size room
idle_room size v None holds = absurd holds
idle_room size v (Some room) holds = (room, refl, holds)

-- what was read of a slot
pub read_slot : (slots : List (Option RoomSize)) (w : ℕ) (slot : Option RoomSize) → w < length slots → slot ≡ get_or slots w slot → slot ≡ slot_at slots w
read_slot slots w slot inside at = get_or_read slots w slot inside at None

-- ---- jobs are opened

pub rooms_opened : (old new : Core) → KeepsRuns old new → HasFrameRooms old → HasFrameRooms new
rooms_opened old new kept has =
    let slots : new.rooms.slots.items ≡ old.rooms.slots.items = ap (λ (r : FrameRooms). r.slots.items) kept.rooms_are in
    let size_is : new.rooms.size ≡ old.rooms.size = ap (λ (r : FrameRooms). r.size) kept.rooms_are in
    let running : new.running.items ≡ old.running.items = ap (λ rs. rs.items) kept.running_is in
    record {
      one_each = ap (λ (l : List (Option RoomSize)). length l) slots ∙ (has.one_each ∙ ap (λ (l : List (Option Run)). length l) (sym running));
      needs = λ k need asks. subst (IsWithin need) (sym size_is) (has.needs k need (sym (kept.asked k) ∙ asks));
      each = λ w size lt is.
          let l = ap (λ (l : List (Option Run)). length l) running in
          let was = has.each w size (omega arith) (sym size_is ∙ is) in
          held_as size new.table new.table (get_or old.running.items w None) (get_or new.running.items w None) (slot_at old.rooms.slots.items w) (slot_at new.rooms.slots.items w) refl
          (ap (λ (l : List (Option Run)). get_or l w None) running) (ap (λ (l : List (Option RoomSize)). slot_at l w) slots)
          (holds_on size old.table new.table (get_or old.running.items w None) (slot_at old.rooms.slots.items w) (last_go_on old.table new.table kept.rows) (λ r at. kept.lent r.row r.item) was);
    }

-- what a job's nodes take, the room of a worker has that runs nothing
pub claims_room : (c : Core) (w : ℕ) (run : Run) (row : Row) → HasFrameRooms c → w < length c.running.items → get_or c.running.items w None ≡ None → row_at c.table run.row ≡ Some row
    → (slot : Option RoomSize) → slot ≡ slot_at c.rooms.slots.items w → HasRoomFor row.job.room slot
claims_room c w run row has lt idle here slot at = λ least need.
    let within = has.needs run.row least (ap room_by here ∙ need) in
    let held = subst (λ (r : Option Run). HoldsRoom within.0 c.table r (slot_at c.rooms.slots.items w)) idle (has.each w within.0 lt within.1) in
    let room = idle_room within.0 c.table (slot_at c.rooms.slots.items w) held in
    (room.0, at ∙ room.1, suffices_on least within.0 room.0 within.2 room.2)

-- ---- the frame of an item is handed out

module _ (old mid : TableView) (run : Run) (places : Places) (rows : RowsGoOn old mid) (lends : LendsItem run.row run.item (Some places) old mid) (row : Row) (here : row_at old run.row ≡ Some row) where
  lent_other : (r : Run) → (r.row ≡ run.row → r.item ≡ run.item → ⊥) → lent_in mid r.row r.item ≡ lent_in old r.row r.item
  lent_other r apart = ⊎_elim
      (λ (e : r.row ≡ run.row). ap (λ k. lent_in mid k r.item) e ∙ (lends.in_job r.item (apart e) ∙ ap (λ k. lent_in old k r.item) (sym e)))
      (λ other. lends.others r.row r.item other)
      (cases_eq r.row run.row)

  pub other_out : (size : RoomSize) (r : Run) → (is_node row.job run.item ≡ true → Suffices size places.room) → IsOut size old r → IsOut size mid r
  other_out size r enough out = ⊎_elim
      (λ (e : r.row ≡ run.row). ⊎_elim
      (λ (f : r.item ≡ run.item).
      let at : row_at old r.row ≡ Some row = ap (row_at old) e ∙ here in
      let node : is_node row.job r.item ≡ true = out.node row at in
      let is_out : IsOut size mid r = record {
        places = places;
        lent = ap (λ k. lent_in mid k r.item) e ∙ (ap (lent_in mid run.row) f ∙ lends.here);
        enough = enough (ap (is_node row.job) (sym f) ∙ node);
        node = runs_on old mid r row rows at node;
      } in
      is_out)
      (λ other. out_on size old mid r rows (lent_other r (λ e' f. other f)) out)
      (cases_eq r.item run.item))
      (λ other. out_on size old mid r rows (lent_other r (λ e f. other e)) out)
      (cases_eq r.row run.row)

  pub others_hold : (size : RoomSize) (other : Option Run) (slot : Option RoomSize) → (is_node row.job run.item ≡ true → Suffices size places.room) → HoldsRoom size old other slot → HoldsRoom size mid other slot
  others_hold size other (Some room) enough holds = holds
  others_hold size None None enough holds = absurd holds
  others_hold size (Some r) None enough holds = other_out size r enough holds

  -- the worker's own room
  module _ (size : RoomSize) (before after : Option RoomSize) (idle : HoldsRoom size old None before) where
    own_room : (b : Bool) → is_node row.job run.item ≡ b → TakesRoom b before places after → HoldsRoom size mid (Some run) after
    own_room true node takes =
        let room = idle_room size old before idle in
        let same : room.0 ≡ places.room = (let e : Some room.0 ≡ Some places.room = sym room.1 ∙ takes.0 in cc) in
        let out : IsOut size mid run = record { places = places; lent = lends.here; enough = subst (Suffices size) same room.2; node = runs_on old mid run row rows here node } in
        subst (λ (x : Option RoomSize). HoldsRoom size mid (Some run) x) (sym takes.1) out
    own_room false node takes =
        let room = idle_room size old before idle in
        subst (λ (x : Option RoomSize). HoldsRoom size mid (Some run) x) (sym (takes ∙ room.1)) room.2

    pub own_holds : TakesRoom (is_node row.job run.item) before places after → HoldsRoom size mid (Some run) after
    own_holds takes = own_room (is_node row.job run.item) refl takes

    enough_by : (b : Bool) → TakesRoom b before places after → b ≡ true → Suffices size places.room
    enough_by true takes is =
        let room = idle_room size old before idle in
        let same : room.0 ≡ places.room = (let e : Some room.0 ≡ Some places.room = sym room.1 ∙ takes.0 in cc) in
        subst (Suffices size) same room.2
    enough_by false takes is = absurd (cc)

    pub room_enough : TakesRoom (is_node row.job run.item) before places after → is_node row.job run.item ≡ true → Suffices size places.room
    room_enough takes is = enough_by (is_node row.job run.item) takes is

-- what stands at a place is written there
set_back : (slots : List (Option RoomSize)) (w : ℕ) → set slots w (slot_at slots w) ≡ slots
set_back [] w = refl
set_back (s ∷ slots) zero = refl
set_back (s ∷ slots) (suc w) = ap (λ l. s ∷ l) (set_back slots w)

-- ---- a worker that ran nothing runs something

module _ (old mid new : Core) (w : ℕ) (run : Run) (item : ItemName) (ticket : Ticket) (has : HasFrameRooms old) (running : mid.running ≡ old.running) (asked : AsksAsBefore old.table mid.table) (size_is : mid.rooms.size ≡ old.rooms.size)
    (slot : Option RoomSize) (slots : mid.rooms.slots.items ≡ set old.rooms.slots.items w slot) (lt : w < length old.running.items) (e : Enters mid w run item ticket new) where
  pub rooms_entered : ((size : RoomSize) → old.rooms.size ≡ Some size → HoldsRoom size mid.table (Some run) slot)
      → ((u : ℕ) (size : RoomSize) → u < length old.running.items → old.rooms.size ≡ Some size → HoldsRoom size mid.table (get_or old.running.items u None) (slot_at old.rooms.slots.items u)) → HasFrameRooms new
  rooms_entered own others =
      let runs : new.running.items ≡ set old.running.items w (Some run) = e.running_are ∙ ap (λ rs. set rs.items w (Some run)) running in
      let rooms : new.rooms.slots.items ≡ set old.rooms.slots.items w slot = ap (λ (r : FrameRooms). r.slots.items) e.rooms_are ∙ slots in
      let sizes : new.rooms.size ≡ old.rooms.size = ap (λ (r : FrameRooms). r.size) e.rooms_are ∙ size_is in
      let one = has.one_each in
      record {
        one_each =
            let a = ap (λ (l : List (Option RoomSize)). length l) rooms in
            let b = length-set old.rooms.slots.items w slot in
            let c = ap (λ (l : List (Option Run)). length l) runs in
            let d = length-set old.running.items w (Some run) in
            omega arith;
        needs = λ k need asks. subst (IsWithin need) (sym sizes) (has.needs k need (sym (asked k) ∙ (ap (λ (t : TableView). room_in t k) (sym e.table_is) ∙ asks)));
        each = λ u size inside is.
            let was = sym sizes ∙ is in
            let a = ap (λ (l : List (Option Run)). length l) runs in
            let b = length-set old.running.items w (Some run) in
            ⊎_elim
            (λ (same : u ≡ w). held_as size mid.table new.table (Some run) (get_or new.running.items u None) slot (slot_at new.rooms.slots.items u) e.table_is
            (ap (λ (l : List (Option Run)). get_or l u None) runs ∙ (ap (λ x. get_or (set old.running.items w (Some run)) x None) same ∙ get_or-set_same old.running.items w (Some run) None lt))
            (ap (λ (l : List (Option RoomSize)). slot_at l u) rooms ∙ (ap (λ x. slot_at (set old.rooms.slots.items w slot) x) same ∙ get_or-set_same old.rooms.slots.items w slot None (omega arith)))
            (own size was))
            (λ apart. held_as size mid.table new.table (get_or old.running.items u None) (get_or new.running.items u None) (slot_at old.rooms.slots.items u) (slot_at new.rooms.slots.items u) e.table_is
            (ap (λ (l : List (Option Run)). get_or l u None) runs ∙ get_or-set_other old.running.items w u (Some run) None apart)
            (ap (λ (l : List (Option RoomSize)). slot_at l u) rooms ∙ get_or-set_other old.rooms.slots.items w u slot None apart)
            (others u size (omega arith) was))
            (cases_eq u w);
      }

-- ---- a worker leaves what it ran

module _ (old new : Core) (w : ℕ) (run : Run) (has : HasFrameRooms old) (ran : get_or old.running.items w None ≡ Some run) (running : new.running.items ≡ set old.running.items w None) (lt : w < length old.running.items)
    (rows : RowsGoOn old.table new.table) (lent : lent_of new.table new.running.items ≡ set (lent_of old.table old.running.items) w None) (size_is : new.rooms.size ≡ old.rooms.size)
    (slot : Option RoomSize) (slots : new.rooms.slots.items ≡ set old.rooms.slots.items w slot) where
  still_lent : (u : ℕ) → u ≢ w → (r : Run) → get_or old.running.items u None ≡ Some r → lent_in new.table r.row r.item ≡ lent_in old.table r.row r.item
  still_lent u apart r runs =
      let now : get_or new.running.items u None ≡ Some r = ap (λ (l : List (Option Run)). get_or l u None) running ∙ (get_or-set_other old.running.items w u None None apart ∙ runs) in
      sym (lent_at_worker new.table new.running.items u ∙ ap (lent_with new.table) now)
      ∙ (ap (λ (l : List (Option Places)). get_or l u None) lent
      ∙ (get_or-set_other (lent_of old.table old.running.items) w u None None apart
      ∙ (lent_at_worker old.table old.running.items u ∙ ap (lent_with old.table) runs)))

  pub rooms_left : ((size : RoomSize) → old.rooms.size ≡ Some size → (room : RoomSize) × (slot ≡ Some room) × Suffices size room) → ((k : ℕ) (need : RoomSize) → room_in new.table k ≡ Some need → IsWithin need new.rooms.size) → HasFrameRooms new
  rooms_left own needs =
      let one = has.one_each in
      let a = ap (λ (l : List (Option Run)). length l) running in
      let b = length-set old.running.items w None in
      record {
        one_each =
            let c = ap (λ (l : List (Option RoomSize)). length l) slots in
            let d = length-set old.rooms.slots.items w slot in
            omega arith;
        needs = needs;
        each = λ u size inside is.
            let was = sym size_is ∙ is in
            ⊎_elim
            (λ (same : u ≡ w).
            let room = own size was in
            held_as size new.table new.table (get_or new.running.items u None) (get_or new.running.items u None) (Some room.0) (slot_at new.rooms.slots.items u) refl refl
            (ap (λ (l : List (Option RoomSize)). slot_at l u) slots ∙ (ap (λ x. slot_at (set old.rooms.slots.items w slot) x) same ∙ (get_or-set_same old.rooms.slots.items w slot None (omega arith) ∙ room.1)))
            room.2)
            (λ apart. held_as size new.table new.table (get_or old.running.items u None) (get_or new.running.items u None) (slot_at old.rooms.slots.items u) (slot_at new.rooms.slots.items u) refl
            (ap (λ (l : List (Option Run)). get_or l u None) running ∙ get_or-set_other old.running.items w u None None apart)
            (ap (λ (l : List (Option RoomSize)). slot_at l u) slots ∙ get_or-set_other old.rooms.slots.items w u slot None apart)
            (holds_on size old.table new.table (get_or old.running.items u None) (slot_at old.rooms.slots.items u) rows (still_lent u apart) (has.each u size (omega arith) was)))
            (cases_eq u w);
      }

  -- the room that the worker held
  pub own_held : (size : RoomSize) → old.rooms.size ≡ Some size → HoldsRoom size old.table (Some run) (slot_at old.rooms.slots.items w)
  own_held size is = held_as size old.table old.table (get_or old.running.items w None) (Some run) (slot_at old.rooms.slots.items w) (slot_at old.rooms.slots.items w) refl (sym ran) refl (has.each w size lt is)

-- what is lent to a worker is lent of the item that it runs
pub lent_run : (c : Core) (w : ℕ) (run : Run) (places : Places) → get_or c.running.items w None ≡ Some run → get_or (lent_of c.table c.running.items) w None ≡ Some places → lent_in c.table run.row run.item ≡ Some places
lent_run c w run places runs is = ap (lent_with c.table) (sym runs) ∙ (sym (lent_at_worker c.table c.running.items w) ∙ is)

-- ---- the room that comes back

module _ (size : RoomSize) (v : TableView) (run : Run) (row : Row) (here : row_at v run.row ≡ Some row) where
  back : (places : Places) (b : Bool) → is_node row.job run.item ≡ b → lent_in v run.row run.item ≡ Some places → (slot : Option RoomSize) → HoldsRoom size v (Some run) slot
      → (room : RoomSize) × (slot_after b slot places ≡ Some room) × Suffices size room
  back places true node lent (Some own) holds = (own, refl, holds)
  back places true node lent None holds =
      let same : holds.places ≡ places = (let e : Some holds.places ≡ Some places = sym holds.lent ∙ lent in cc) in
      (places.room, refl, subst (λ (p : Places). Suffices size p.room) same holds.enough)
  back places false node lent (Some own) holds = (own, refl, holds)
  back places false node lent None holds = absurd (let yes = holds.node row here in cc)

  pub comes_back : (places : Places) → lent_in v run.row run.item ≡ Some places → (slot : Option RoomSize) → HoldsRoom size v (Some run) slot → (room : RoomSize) × (slot_after (is_node row.job run.item) slot places ≡ Some room) × Suffices size room
  comes_back places lent slot holds = back places (is_node row.job run.item) refl lent slot holds

-- where no frame is out the room is there
pub stays_there : (size : RoomSize) (v : TableView) (run : Run) → lent_in v run.row run.item ≡ None → (slot : Option RoomSize) → HoldsRoom size v (Some run) slot → (room : RoomSize) × (slot ≡ Some room) × Suffices size room
stays_there size v run none (Some own) holds = (own, refl, holds)
stays_there size v run none None holds = absurd (let some = holds.lent in cc)

-- ---- what jobs ask for

asks_by : (o : Option Row) (need : RoomSize) → room_by o ≡ Some need → (row : Row) × (o ≡ Some row) × (row.job.room ≡ Some need)
asks_by None need is = absurd (cc)
asks_by (Some row) need is = (row, refl, is)

-- jobs are closed: the others ask for what they asked for
pub asks_still : (mid new : TableView) → RowsStay mid new → (k : ℕ) (need : RoomSize) → room_in new k ≡ Some need → room_in mid k ≡ Some need
asks_still mid new stay k need is =
    let row = asks_by (row_at new k) need is in
    let before = stay.rows k row.0 row.1 in
    ap room_by before.1 ∙ (sym before.4 ∙ row.2)

-- ---- the whole of a claim

-- a frame is handed out
pub rooms_claimed : (old mid new : Core) (w : ℕ) (run : Run) (item : ItemName) (ticket : Ticket) (places : Places) (row : Row) (slot : Option RoomSize) → HasFrameRooms old → w < length old.running.items → get_or old.running.items w None ≡ None
    → row_at old.table run.row ≡ Some row → mid.running ≡ old.running → RowsGoOn old.table mid.table → LendsItem run.row run.item (Some places) old.table mid.table → AsksAsBefore old.table mid.table → mid.rooms.size ≡ old.rooms.size
    → mid.rooms.slots.items ≡ set old.rooms.slots.items w slot → TakesRoom (is_node row.job run.item) (slot_at old.rooms.slots.items w) places slot → Enters mid w run item ticket new → HasFrameRooms new
rooms_claimed old mid new w run item ticket places row slot has lt idle here running rows lends asked size_is slots takes e =
    let held : (size : RoomSize) → old.rooms.size ≡ Some size → HoldsRoom size old.table None (slot_at old.rooms.slots.items w) = λ size is. subst (λ (r : Option Run). HoldsRoom size old.table r (slot_at old.rooms.slots.items w)) idle (has.each w size lt is) in
    rooms_entered old mid new w run item ticket has running asked size_is slot slots lt e
    (λ size is. own_holds old.table mid.table run places rows lends row here size (slot_at old.rooms.slots.items w) slot (held size is) takes)
    (λ u size inside is. others_hold old.table mid.table run places rows lends row here size (get_or old.running.items u None) (slot_at old.rooms.slots.items u)
    (room_enough old.table mid.table run places rows lends row here size (slot_at old.rooms.slots.items w) slot (held size is) takes) (has.each u size inside is))

-- a compilation is handed out
pub rooms_kept : (old mid new : Core) (w : ℕ) (run : Run) (item : ItemName) (ticket : Ticket) → HasFrameRooms old → w < length old.running.items → get_or old.running.items w None ≡ None
    → mid.running ≡ old.running → RowsGoOn old.table mid.table → LendsAsBefore old.table mid.table → AsksAsBefore old.table mid.table → mid.rooms ≡ old.rooms → Enters mid w run item ticket new → HasFrameRooms new
rooms_kept old mid new w run item ticket has lt idle running rows lends asked rooms e =
    let slots : mid.rooms.slots.items ≡ set old.rooms.slots.items w (slot_at old.rooms.slots.items w) = ap (λ (r : FrameRooms). r.slots.items) rooms ∙ sym (set_back old.rooms.slots.items w) in
    rooms_entered old mid new w run item ticket has running asked (ap (λ (r : FrameRooms). r.size) rooms) (slot_at old.rooms.slots.items w) slots lt e
    (λ size is.
    let room = idle_room size old.table (slot_at old.rooms.slots.items w) (subst (λ (r : Option Run). HoldsRoom size old.table r (slot_at old.rooms.slots.items w)) idle (has.each w size lt is)) in
    subst (λ (x : Option RoomSize). HoldsRoom size mid.table (Some run) x) (sym room.1) room.2)
    (λ u size inside is. holds_on size old.table mid.table (get_or old.running.items u None) (slot_at old.rooms.slots.items u) rows (λ r at. lends r.row r.item) (has.each u size inside is))

-- ---- the whole of a finish

-- a frame is back
pub rooms_back : (old new : Core) (w : ℕ) (run : Run) (row : Row) (places : Places) → HasFrameRooms old → get_or old.running.items w None ≡ Some run → w < length old.running.items → row_at old.table run.row ≡ Some row
    → lent_in old.table run.row run.item ≡ Some places → new.running.items ≡ set old.running.items w None → RowsGoOn old.table new.table → lent_of new.table new.running.items ≡ set (lent_of old.table old.running.items) w None
    → ((k : ℕ) (need : RoomSize) → room_in new.table k ≡ Some need → room_in old.table k ≡ Some need) → new.rooms.size ≡ old.rooms.size
    → new.rooms.slots.items ≡ set old.rooms.slots.items w (slot_after (is_node row.job run.item) (slot_at old.rooms.slots.items w) places) → HasFrameRooms new
rooms_back old new w run row places has ran lt here out running rows lent asked size_is slots =
    let slot = slot_after (is_node row.job run.item) (slot_at old.rooms.slots.items w) places in
    rooms_left old new w run has ran running lt rows lent size_is slot slots
    (λ size is. comes_back size old.table run row here places out (slot_at old.rooms.slots.items w) (own_held old new w run has ran running lt rows lent size_is slot slots size is))
    (λ k need asks. subst (IsWithin need) (sym size_is) (has.needs k need (asked k need asks)))

-- a compilation is back, and the rooms fit the job's nodes
pub rooms_fit : (old new : Core) (w : ℕ) (run : Run) → HasFrameRooms old → get_or old.running.items w None ≡ Some run → w < length old.running.items → lent_in old.table run.row run.item ≡ None
    → new.running.items ≡ set old.running.items w None → RowsGoOn old.table new.table → lent_of new.table new.running.items ≡ set (lent_of old.table old.running.items) w None
    → length new.rooms.slots.items ≡ length old.rooms.slots.items → (need : Option RoomSize) → FitsNeed need old.rooms new.rooms
    → ((k : ℕ) (asked : RoomSize) → room_in new.table k ≡ Some asked → (room_in old.table k ≡ Some asked) ⊎ (need ≡ Some asked)) → HasFrameRooms new
rooms_fit old new w run has ran lt none running rows lent many need fits asks = by_need need fits asks
  where
    as_were : new.rooms ≡ old.rooms → ((k : ℕ) (asked : RoomSize) → room_in new.table k ≡ Some asked → IsWithin asked old.rooms.size) → HasFrameRooms new
    as_were same within =
        let slots : new.rooms.slots.items ≡ set old.rooms.slots.items w (slot_at old.rooms.slots.items w) = ap (λ (r : FrameRooms). r.slots.items) same ∙ sym (set_back old.rooms.slots.items w) in
        let size_is : new.rooms.size ≡ old.rooms.size = ap (λ (r : FrameRooms). r.size) same in
        rooms_left old new w run has ran running lt rows lent size_is (slot_at old.rooms.slots.items w) slots
        (λ size is. stays_there size old.table run none (slot_at old.rooms.slots.items w) (own_held old new w run has ran running lt rows lent size_is (slot_at old.rooms.slots.items w) slots size is))
        (λ k asked is. subst (IsWithin asked) (sym size_is) (within k asked is))

    grown : (least : RoomSize) → AreAllOf (size_with least old.rooms.size) new.rooms → ((k : ℕ) (asked : RoomSize) → room_in new.table k ≡ Some asked → (room_in old.table k ≡ Some asked) ⊎ (Some least ≡ Some asked)) → HasFrameRooms new
    grown least g asks' =
        let size = size_with least old.rooms.size in
        let one : length new.rooms.slots.items ≡ length new.running.items =
        (let a = has.one_each in let b = ap (λ (l : List (Option Run)). length l) running in let d = length-set old.running.items w None in omega (arith, many, a, b, d)) in
        record {
          one_each = one;
          needs = λ k asked is. ⊎_elim
              (λ was. let within = has.needs k asked was in (size, g.size_is, suffices_on asked within.0 size within.2 (with_more least old.rooms.size within.0 within.1)))
              (λ (own : Some least ≡ Some asked). let same : least ≡ asked = cc in (size, g.size_is, subst (λ (x : RoomSize). Suffices x size) same (with_enough least old.rooms.size)))
              (asks' k asked is);
          each = λ u asked inside is.
              let same : size ≡ asked = (let e : Some size ≡ Some asked = sym g.size_is ∙ is in cc) in
              held_as asked new.table new.table (get_or new.running.items u None) (get_or new.running.items u None) (Some size) (slot_at new.rooms.slots.items u) refl refl (g.each u (omega (arith, inside, one))) (subst (λ (x : RoomSize). Suffices x size) same (suffices_itself size));
        }

    by_need : (o : Option RoomSize) → FitsNeed o old.rooms new.rooms → ((k : ℕ) (asked : RoomSize) → room_in new.table k ≡ Some asked → (room_in old.table k ≡ Some asked) ⊎ (o ≡ Some asked)) → HasFrameRooms new
    by_need None same asks' = as_were same (λ k asked is. ⊎_elim (λ was. has.needs k asked was) (λ (own : None ≡ Some asked). absurd (cc)) (asks' k asked is))
    by_need (Some least) fits' asks' = ⊎_elim
        (λ (t : IsWithin least old.rooms.size × (new.rooms ≡ old.rooms)).
        as_were t.1 (λ k asked is. ⊎_elim (λ was. has.needs k asked was) (λ (own : Some least ≡ Some asked). let same : least ≡ asked = cc in subst (λ (x : RoomSize). IsWithin x old.rooms.size) same t.0) (asks' k asked is)))
        (λ (t : (¬ (IsWithin least old.rooms.size)) × AreAllOf (size_with least old.rooms.size) new.rooms). grown least t.1 asks')
        fits'

-- the compilation of the job in a row is done: the other jobs ask for what they asked for
pub asks_or : (k item : ℕ) (mark : Mark Firing Answer) (old mid : TableView) → MarksItem k item mark old mid → (row : ℕ) → row ≡ k → (j : ℕ) (asked : RoomSize) → room_in mid j ≡ Some asked
    → (room_in old j ≡ Some asked) ⊎ (room_in mid row ≡ Some asked)
asks_or k item mark old mid m row row_is j asked is = ⊎_elim
    (λ (e : j ≡ k). inr (ap (room_in mid) (row_is ∙ sym e) ∙ is))
    (λ apart. inl (ap room_by (sym (m.others j apart apart)) ∙ is))
    (cases_eq j k)

pub on_ok_by : {X E : Type 0} (r : Result X E) (P : Type 0) → is_err r ≡ false → OnOk r P → P
on_ok_by (Ok x) P live is = is
on_ok_by (Err e) P live is = absurd (cc)
