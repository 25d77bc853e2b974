-- What a pass knows once its number has asked for an item.
use Rattle.std.proofs.Common.{◌≡◌, ℕ, zero, suc, ◌<◌, true, false, Option, Some, None, List, [], ◌∷◌, ◌++◌, length, get_or, set, All, refl, sym, ap, ◌∙◌, subst, arith, append-nil, get_or-set_same, get_or-set_other}
use Rattle.kernel_gate.specs.Value.{Places}
use Rattle.nested_jobs.specs.Journals as steps
use Rattle.job_rules.specs.Words.{Compiles, Copies, Fires, Work}
use Rattle.board_lock.specs.Passes.{Finds, first_gains}
use Rattle.board_rules.specs.Entries.{Step}
use Rattle.board_rules.specs.Keys.{Key}
use Rattle.board_rules.specs.Legal.{AreLegal, journal_of}
use Rattle.board_rules.specs.declared.entry.Entry.{Entry}
use Rattle.board_rules.specs.declared.entry.Entry.TheVariants.{Claim as claim_entry}
use Rattle.board_rules.specs.declared.entry.ItemName.{ItemName}
use Rattle.firing_board.specs.Claims.{Claims, IsTicket, Picks, Stays}
use Rattle.firing_board.specs.Locking.{board_meant, places_of, worker_of}
use Rattle.firing_board.specs.Runs.{IsSound}
use Rattle.firing_board.specs.View.{BoardView, lent_to}
use Rattle.firing_board.specs.declared.claim.Claim.{Claim}
use Rattle.firing_board.specs.declared.claim.Claim.TheVariants as claim
use Rattle.firing_board.specs.declared.claim.Ticket.{Ticket}
use Rattle.worker_crew.specs.Asked.{Asked, HasClaimed, IsToCompile, IsToCopy, IsToFire}
use Rattle.worker_crew.specs.Laws.{BoardsHaveLaws, IsFitWork, WorkFits}
use Rattle.worker_crew.specs.Passes.{BoardPass}
use Rattle.worker_crew.specs.Worked.{AddsClaim, HasAdded}
use Rattle.worker_crew.proofs.Framing.{kernel_frame, node_frame}
use Rattle.worker_crew.proofs.Holding.{became_first}
use Rattle.worker_crew.proofs.Leaving.{Changes, added_left, left_by}

one_mine : (w : ℕ) (e : Entry) → worker_of e ≡ w → All (λ e. worker_of e ≡ w) (e ∷ [])
one_mine w e is zero d lt = is
one_mine w e is (suc k) d lt = absurd (omega arith)

none_mine : (w : ℕ) → All (λ e. worker_of e ≡ w) []
none_mine w k d lt = absurd (omega arith)

no_starving : (x : BoardView) → x.starved ≡ false → x.starved ≡ true → ⊥
no_starving x live starved = let no : true ≡ false = sym starved ∙ live in cc

gains_some : {E : Type 0} (own : List (List E)) (more : List E) → 0 < length own → 0 < length (first_gains own more)
gains_some [] more some = some
gains_some (o ∷ own) more some = some

module _ (laws : BoardsHaveLaws) (fits : WorkFits) (p : BoardPass) (x y : BoardView) (found : Finds board_meant p x) (sound : IsSound x) (some : 0 < length p.own) (inside : p.number < x.key.workers) where
  abbrev pub w : ℕ
  w = p.number

  abbrev pub q : BoardPass
  q = left_by p x y

  -- what a worker's turn at the lock comes to
  pub record Turns (c : Claim) : Type 0 where
    pub more : List Entry
    pub changes : Changes x y w more
    pub asked : Asked p q c

  abbrev added : (more : List Entry) → Changes x y w more → HasAdded p q more
  added more changes = added_left p x y more found changes

  -- ---- an item is claimed

  module _ (work : Work) (frame : Option Places) (picks : Picks x y w work frame) where
    key_is : y.key ≡ x.key
    key_is = ap (λ (b : BoardView). b.key) picks.new_is

    abbrev then : List Step
    then = picks.taken ++ steps.Claim w (picks.item ∷ picks.place) ∷ []

    then_legal : AreLegal x.key then
    then_legal = subst (λ (k : Key). AreLegal k then) key_is picks.after.legal

    then_entered : y.journal ≡ journal_of x.key then
    then_entered = picks.after.entered ∙ ap (λ (k : Key). journal_of k then) key_is

    entered : (path : List ℕ) × (item : ItemName) × (journal_of x.key then ≡ journal_of x.key picks.taken ++ claim_entry w path item ∷ [])
    entered = (laws x.key sound.is_key).claims picks.taken w (picks.item ∷ picks.place) picks.before.legal then_legal

    abbrev entry : Entry
    entry = claim_entry w entered.0 entered.1

    lent_is : y.lent ≡ set x.lent w frame
    lent_is = ap (λ (b : BoardView). b.lent) picks.new_is

    claim_changes : Changes x y w (entry ∷ [])
    claim_changes = record {
      key = key_is;
      journal = then_entered ∙ (entered.2 ∙ ap (λ (l : List Entry). l ++ entry ∷ []) (sym picks.before.entered));
      mine = one_mine w entry refl;
      lent = λ n ne. ap (λ (l : List (Option Places)). get_or l n None) lent_is ∙ get_or-set_other x.lent w n frame None ne;
      starved = λ starved. absurd (no_starving x picks.live starved);
    }

    adds : AddsClaim p q
    adds = (entered.0, entered.1, added (entry ∷ []) claim_changes)

    lent_so : lent_to y w ≡ frame
    lent_so = ap (λ (l : List (Option Places)). get_or l w None) lent_is ∙ get_or-set_same x.lent w frame None (subst (λ (n : ℕ). w < n) (sym sound.one_each) inside)

    fit : IsFitWork x.key.signatures work
    fit = fits x.key then w work sound.is_key then_legal picks.runs

    claimed : (P : Key → Work → Type 0) → P x.key work → HasClaimed q frame P
    claimed P so = record {
      key = x.key;
      key_is = sym found.key;
      is_key = sound.is_key;
      some = gains_some p.own _ some;
      is_worker = inside;
      taken = then;
      legal = then_legal;
      seen_is = then_entered;
      work = work;
      runs = picks.runs;
      lent = became_first p.lent (places_of (lent_to y w)) (subst (λ (n : ℕ). 0 < n) (sym found.sound.lists) some) ∙ ap places_of lent_so;
      so = so;
    }

  ticket_is : (ticket : Ticket) → IsTicket x w ticket → ticket.worker ≡ q.number
  ticket_is ticket is = ap (λ (t : Ticket). t.worker) is

  -- ---- nothing is

  stays : (P : List Step → Type 0) → Stays x y P → Changes x y w []
  stays P h = record {
    key = ap (λ (b : BoardView). b.key) h.new_is;
    journal = ap (λ (b : BoardView). b.journal) h.new_is ∙ sym (append-nil x.journal);
    mine = none_mine w;
    lent = λ n ne. ap (λ (b : BoardView). lent_to b n) h.new_is;
    starved = λ starved. ap (λ (b : BoardView). b.starved) h.new_is ∙ starved;
  }

  starves : y ≡ record x { starved = true; firings = y.firings } → Changes x y w []
  starves is = record {
    key = ap (λ (b : BoardView). b.key) is;
    journal = ap (λ (b : BoardView). b.journal) is ∙ sym (append-nil x.journal);
    mine = none_mine w;
    lent = λ n ne. ap (λ (b : BoardView). lent_to b n) is;
    starved = λ starved. ap (λ (b : BoardView). b.starved) is;
  }

  -- ---- in all

  pub turns : (c : Claim) → Claims x y w c → Turns c
  turns (claim.Fire ticket frame) h = record {
    more = _;
    changes = claim_changes (Fires h.1 h.2) (Some frame.places) h.4;
    asked = (
      ticket_is ticket h.0,
      adds (Fires h.1 h.2) (Some frame.places) h.4,
      claimed (Fires h.1 h.2) (Some frame.places) h.4 (IsToFire frame) (h.3, kernel_frame x.key.signatures h.2 frame h.3 (fit (Fires h.1 h.2) (Some frame.places) h.4)),
    );
  }
  turns (claim.Configure ticket frame) h = record {
    more = _;
    changes = claim_changes (Fires h.1 h.2) (Some frame.places) h.4;
    asked = (
      ticket_is ticket h.0,
      adds (Fires h.1 h.2) (Some frame.places) h.4,
      claimed (Fires h.1 h.2) (Some frame.places) h.4 (IsToFire frame) (h.3, kernel_frame x.key.signatures h.2 frame h.3 (fit (Fires h.1 h.2) (Some frame.places) h.4)),
    );
  }
  turns (claim.Copy ticket node frame) h = record {
    more = _;
    changes = claim_changes (Copies node h.1 h.2) (Some frame.places) h.4;
    asked = (
      ticket_is ticket h.0,
      adds (Copies node h.1 h.2) (Some frame.places) h.4,
      claimed (Copies node h.1 h.2) (Some frame.places) h.4 (IsToCopy node frame) (refl, h.3, node_frame x.key.signatures node h.1 h.2 frame h.3 (fit (Copies node h.1 h.2) (Some frame.places) h.4)),
    );
  }
  turns (claim.Compile ticket task) h = record {
    more = _;
    changes = claim_changes (Compiles task.firing task.left) None h.3;
    asked = (ticket_is ticket h.0, adds (Compiles task.firing task.left) None h.3, claimed (Compiles task.firing task.left) None h.3 (IsToCompile task) (h.1, h.2, refl, refl));
  }
  turns claim.Wait h = record { more = []; changes = stays _ h; asked = added [] (stays _ h) }
  turns claim.Finished h = record {
    more = [];
    changes = stays _ h;
    asked = (added [] (stays _ h), record { key = x.key; key_is = sym found.key; taken = h.taken; legal = h.at.legal; seen_is = ap (λ (b : BoardView). b.journal) h.new_is ∙ h.at.entered; ended = h.so });
  }
  turns claim.Starved h = record { more = []; changes = starves h; asked = (added [] (starves h), ap (λ (b : BoardView). b.starved) h) }
