-- What is true of a board doesn't depend on whether compilations are kept in it.
use Rattle.std.proofs.Common.{◌≡◌, ⊎_elim, ℕ, Bool, false, List, inl, inr, Option, sym, ap, subst}
use Rattle.kernel_gate.specs.Value.{Places}
use Rattle.job_rules.specs.Words as words
use Rattle.board_rules.specs.Entries.{Step}
use Rattle.board_rules.specs.Laws.{JournalsTellSteps}
use Rattle.firing_board.specs.Claims.{Claims, EntersAs, Picks, Stays}
use Rattle.firing_board.specs.Ends.{EndsAs, HasFinished, IsOver}
use Rattle.firing_board.specs.Finishes.{Finishes}
use Rattle.firing_board.specs.Firings.{LeasesFrame, LeasesNode}
use Rattle.firing_board.specs.Invariants.{IsBoard, Keeps, key_of, view_of, view_with}
use Rattle.firing_board.specs.OnCore.{MayClaim}
use Rattle.firing_board.specs.Runs.{AreAllIdle, IsIdle, IsSound, Runs}
use Rattle.firing_board.specs.View.{BoardView, IsAt}
use Rattle.firing_board.specs.Wanting.{MayStarve}
use Rattle.firing_board.specs.declared.board.Board.TheInside.{Inside}
use Rattle.firing_board.specs.declared.claim.Claim.{Claim}
use Rattle.firing_board.specs.declared.claim.Claim.TheVariants as claim
use Rattle.firing_board.specs.declared.ending.BoardEnd.{BoardEnd}
use Rattle.firing_board.specs.declared.ending.BoardEnd.TheVariants as ends
use Rattle.firing_board.proofs.Fields.{may_claim}

abbrev pub keeping : Bool → BoardView → BoardView
keeping k b = record b { kept = k }

at_as : (k : Bool) (b : BoardView) (taken : List Step) → IsAt b taken → IsAt (keeping k b) taken
at_as k b taken h = record { legal = h.legal; entered = h.entered }

pub idle_as : (k : Bool) (b : BoardView) (w : ℕ) → IsIdle b w → IsIdle (keeping k b) w
idle_as k b w h = record { is_worker = h.is_worker; taken = h.taken; at = at_as k b h.taken h.at; runs_none = h.runs_none }

pub all_idle_as : (k : Bool) (b : BoardView) → AreAllIdle b → AreAllIdle (keeping k b)
all_idle_as k b h = record { taken = h.taken; at = at_as k b h.taken h.at; run_none = h.run_none }

pub runs_as : (k : Bool) (b : BoardView) (w : ℕ) (P : words.Work → Type 0) → Runs b w P → Runs (keeping k b) w P
runs_as k b w P h = record { is_worker = h.is_worker; taken = h.taken; at = at_as k b h.taken h.at; work = h.work; runs = h.runs; so = h.so }

picks_as : (k : Bool) (old new : BoardView) (w : ℕ) (work : words.Work) (frame : Option Places) → Picks old new w work frame → Picks (keeping k old) (keeping k new) w work frame
picks_as k old new w work frame h = record {
  taken = h.taken;
  before = at_as k old h.taken h.before;
  item = h.item;
  place = h.place;
  picked = h.picked;
  after = record { legal = h.after.legal; entered = h.after.entered };
  runs = h.runs;
  live = h.live;
  new_is = ap (keeping k) h.new_is;
}

stays_as : (k : Bool) (old new : BoardView) (P : List Step → Type 0) → Stays old new P → Stays (keeping k old) (keeping k new) P
stays_as k old new P h = record { taken = h.taken; at = at_as k old h.taken h.at; so = h.so; live = h.live; new_is = ap (keeping k) h.new_is }

pub claims_as : (k : Bool) (old new : BoardView) (w : ℕ) (c : Claim) → Claims old new w c → Claims (keeping k old) (keeping k new) w c
claims_as k old new w (claim.Fire ticket frame) h = (h.0, h.1, h.2, h.3, picks_as k old new w (words.Fires h.1 h.2) (Rattle.std.specs.Prelude.Some frame.places) h.4)
claims_as k old new w (claim.Configure ticket frame) h = (h.0, h.1, h.2, h.3, picks_as k old new w (words.Fires h.1 h.2) (Rattle.std.specs.Prelude.Some frame.places) h.4)
claims_as k old new w (claim.Copy ticket node frame) h = (h.0, h.1, h.2, h.3, picks_as k old new w (words.Copies node h.1 h.2) (Rattle.std.specs.Prelude.Some frame.places) h.4)
claims_as k old new w (claim.Compile ticket task) h = (h.0, h.1, h.2, picks_as k old new w (words.Compiles task.firing task.left) Rattle.std.specs.Prelude.None h.3)
claims_as k old new w claim.Wait h = stays_as k old new _ h
claims_as k old new w claim.Finished h = stays_as k old new _ h
claims_as k old new w claim.Starved h = ap (keeping k) h

node_as : (k : Bool) (b : BoardView) (w : ℕ) (places : Places) → LeasesNode b w places → LeasesNode (keeping k b) w places
node_as k b w places h = record {
  number = h.number;
  firing = h.firing;
  here = h.here;
  cells = h.cells;
  cells_are = h.cells_are;
  taken = h.taken;
  at = at_as k b h.taken h.at;
  job = h.job;
  is_open = h.is_open;
  of_job = h.of_job;
  node = h.node;
  runs = h.runs;
  leases = h.leases;
}

pub leases_as : (k : Bool) (b : BoardView) (w : ℕ) (c : Claim) → LeasesFrame b w c → LeasesFrame (keeping k b) w c
leases_as k b w (claim.Fire ticket frame) h = node_as k b w frame.places h
leases_as k b w (claim.Configure ticket frame) h = h
leases_as k b w (claim.Copy ticket node frame) h = node_as k b w frame.places h
leases_as k b w (claim.Compile ticket task) h = h
leases_as k b w claim.Wait h = h
leases_as k b w claim.Finished h = h
leases_as k b w claim.Starved h = h

pub enters_as : (k : Bool) (old new : BoardView) (w : ℕ) (c : Claim) → EntersAs old new w c → EntersAs (keeping k old) (keeping k new) w c
enters_as k old new w (claim.Fire ticket frame) h = h
enters_as k old new w (claim.Configure ticket frame) h = h
enters_as k old new w (claim.Copy ticket node frame) h = h
enters_as k old new w (claim.Compile ticket task) h = h
enters_as k old new w claim.Wait h = h
enters_as k old new w claim.Finished h = h
enters_as k old new w claim.Starved h = h

pub starves_as : (k : Bool) (b : BoardView) (w : ℕ) → MayStarve b w → MayStarve (keeping k b) w
starves_as k b w h = record { taken = h.taken; at = at_as k b h.taken h.at; wants = h.wants }

pub finishes_as : (k : Bool) (old new : BoardView) (w : ℕ) → Finishes old new w → Finishes (keeping k old) (keeping k new) w
finishes_as k old new w h = record {
  entered = λ taken work answer at runs answers.
      let next = h.entered taken work answer (record { legal = at.legal; entered = at.entered }) runs answers in
      record { legal = next.legal; entered = next.entered };
  new_is = ap (keeping k) h.new_is;
}

pub sound_as : (k : Bool) (b : BoardView) → IsSound b → IsSound (keeping k b)
sound_as k b h = record { is_key = h.is_key; one_each = h.one_each; taken = h.taken; at = at_as k b h.taken h.at; unlent = h.unlent; owners = h.owners; open_so = h.open_so }

finished_as : (k : Bool) (b : BoardView) → HasFinished b → HasFinished (keeping k b)
finished_as k b h = record { taken = h.taken; at = at_as k b h.taken h.at; ended = h.ended }

pub over_as : (k : Bool) (b : BoardView) → IsOver b → IsOver (keeping k b)
over_as k b over = ⊎_elim (λ (h : HasFinished b). inl (finished_as k b h)) (λ h. inr (h.0, all_idle_as k b h.1)) over

pub ends_as_kept : (k : Bool) (b : BoardView) (end : BoardEnd) → EndsAs b end → EndsAs (keeping k b) end
ends_as_kept k b (ends.Done iteration delays journal) h = h
ends_as_kept k b (ends.Refused refusal journal) h = h
ends_as_kept k b ends.Starved h = h

-- ---- the view of a board

-- as the open jobs have it, where nothing is kept
pub bare : (i : Inside) (v : BoardView) → view_of i ≡ v → view_with (key_of i) i.core i.starved ≡ keeping false v
bare i v is = ap (keeping false) is

pub may_claim_by : JournalsTellSteps → (i : Inside) → IsBoard i → (v : BoardView) → view_of i ≡ v → i.starved ≡ false → (w : ℕ) → IsIdle v w → MayClaim (key_of i) i.core w
may_claim_by tell i board v is live w idle =
    let key = key_of i in
    let here = subst (λ (b : BoardView). IsIdle b w) (sym (bare i v is)) (idle_as false v w idle) in
    may_claim tell key i.core (subst (λ (b : Bool). Keeps key i.core b) live board.0) w (subst (λ (b : Bool). IsIdle (view_with key i.core b) w) live here)
