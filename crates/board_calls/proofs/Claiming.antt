-- What a worker holds once it has claimed.
use Rattle.std.proofs.Common.{◌≡◌, inl, ℕ, ◌<◌, Option, Some, None, List, [], ◌∷◌, ◌++◌, get_or, set, refl, sym, ap, ◌∙◌, subst, append-nil, get_or-set_same, get_or-set_other}
use Rattle.kernel_gate.specs.Value.{Places}
use Rattle.nested_jobs.specs.Journals as steps
use Rattle.job_rules.specs.Words.{Compiles, Copies, Fires, Work}
use Rattle.board_rules.specs.Entries.{Step}
use Rattle.board_rules.specs.Keys.{Key}
use Rattle.board_rules.specs.Legal.{AreLegal, journal_of, state_after}
use Rattle.board_rules.specs.declared.entry.Entry.{Entry}
use Rattle.board_rules.specs.declared.entry.Entry.TheVariants.{Claim as claim_entry}
use Rattle.board_rules.specs.declared.entry.ItemName.{ItemName}
use Rattle.firing_board.specs.Claims.{Claims, IsTicket, Picks, Stays}
use Rattle.firing_board.specs.Ends.{HasFinished, IsOver}
use Rattle.firing_board.specs.Runs.{IsIdle, IsSound, RunsWork}
use Rattle.firing_board.specs.View.{BoardView}
use Rattle.firing_board.specs.declared.claim.Claim.{Claim}
use Rattle.firing_board.specs.declared.claim.Claim.TheVariants as claim
use Rattle.firing_board.specs.declared.claim.Ticket.{Ticket}
use Rattle.worker_crew.specs.Asked.{IsToCompile, IsToCopy, IsToFire}
use Rattle.worker_crew.specs.Laws.{BoardsHaveLaws, IsFitWork, WorkFits}
use Rattle.worker_crew.proofs.Framing.{kernel_frame, node_frame}
use Rattle.worker_crew.proofs.Steps.{other_first}
use Rattle.board_calls.specs.Holding.{HasClaimed, Holds, StepsOf, held_by}

module _ (laws : BoardsHaveLaws) (fits : WorkFits) (x y : BoardView) (w : ℕ) (sound : IsSound x) (idle : IsIdle x w) where
  -- ---- an item is claimed

  module _ (work : Work) (frame : Option Places) (picks : Picks x y w work frame) where
    key_is : y.key ≡ x.key
    key_is = ap (λ (b : BoardView). b.key) picks.new_is

    abbrev then : List Step
    then = picks.taken ++ steps.Claim w (picks.item ∷ picks.place) ∷ []

    then_legal : AreLegal x.key then
    then_legal = subst (λ (k : Key). AreLegal k then) key_is picks.after.legal

    entered : (path : List ℕ) × (item : ItemName) × (journal_of x.key then ≡ journal_of x.key picks.taken ++ claim_entry w path item ∷ [])
    entered = (laws x.key sound.is_key).claims picks.taken w (picks.item ∷ picks.place) picks.before.legal then_legal

    abbrev entry : Entry
    entry = claim_entry w entered.0 entered.1

    lent_is : y.lent ≡ set x.lent w frame
    lent_is = ap (λ (b : BoardView). b.lent) picks.new_is

    claim_steps : StepsOf w x y
    claim_steps = record {
      key = key_is;
      more = entry ∷ [];
      journal = picks.after.entered ∙ (ap (λ (k : Key). journal_of k then) key_is ∙ (entered.2 ∙ ap (λ (l : List Entry). l ++ entry ∷ []) (sym picks.before.entered)));
      others = λ v ne. other_first v entry [] (λ e. ne (sym e));
      lent = λ v ne. ap (λ (l : List (Option Places)). get_or l v None) lent_is ∙ get_or-set_other x.lent w v frame None ne;
    }

    fit : IsFitWork x.key.signatures work
    fit = fits x.key then w work sound.is_key then_legal picks.runs

    claimed : (ticket : Ticket) (P : Key → Work → Type 0) → IsTicket x w ticket → P x.key work → HasClaimed y w ticket frame (P y.key)
    claimed ticket P ticket_so so = record {
      ticket_is = ap (λ (t : Ticket). t.worker) ticket_so;
      runs = record {
        is_worker = subst (λ (k : Key). w < k.workers) (sym key_is) idle.is_worker;
        taken = then;
        at = picks.after;
        work = work;
        runs = subst (λ (k : Key). RunsWork k (state_after k then) w work) (sym key_is) picks.runs;
        so = subst (λ (k : Key). P k work) (sym key_is) so;
      };
      lent = ap (λ (l : List (Option Places)). get_or l w None) lent_is ∙ get_or-set_same x.lent w frame None (subst (λ (n : ℕ). w < n) (sym sound.one_each) idle.is_worker);
    }

  -- ---- nothing is

  same_steps : y.key ≡ x.key → y.journal ≡ x.journal → y.lent ≡ x.lent → StepsOf w x y
  same_steps key journal lent = record {
    key = key;
    more = [];
    journal = journal ∙ sym (append-nil x.journal);
    others = λ v ne. refl;
    lent = λ v ne. ap (λ (l : List (Option Places)). get_or l v None) lent;
  }

  same_idle : y.key ≡ x.key → y.journal ≡ x.journal → IsIdle y w
  same_idle key journal = record {
    is_worker = subst (λ (k : Key). w < k.workers) (sym key) idle.is_worker;
    taken = idle.taken;
    at = record { legal = subst (λ (k : Key). AreLegal k idle.taken) (sym key) idle.at.legal; entered = journal ∙ (idle.at.entered ∙ ap (λ (k : Key). journal_of k idle.taken) (sym key)) };
    runs_none = subst (λ (k : Key). (state_after k idle.taken).running w ≡ None) (sym key) idle.runs_none;
  }

  nothing : y.key ≡ x.key → y.journal ≡ x.journal → y.lent ≡ x.lent → StepsOf w x y × IsIdle y w
  nothing key journal lent = (same_steps key journal lent, same_idle key journal)

  stays : (P : List Step → Type 0) → Stays x y P → StepsOf w x y × IsIdle y w
  stays P h = nothing (ap (λ (b : BoardView). b.key) h.new_is) (ap (λ (b : BoardView). b.journal) h.new_is) (ap (λ (b : BoardView). b.lent) h.new_is)

  -- ---- in all

  pub claims : (c : Claim) → Claims x y w c → StepsOf w x y × Holds y w (held_by c)
  claims (claim.Fire ticket frame) h = (
    claim_steps (Fires h.1 h.2) (Some frame.places) h.4,
    claimed (Fires h.1 h.2) (Some frame.places) h.4 ticket (IsToFire frame) h.0 (h.3, kernel_frame x.key.signatures h.2 frame h.3 (fit (Fires h.1 h.2) (Some frame.places) h.4)),
  )
  claims (claim.Configure ticket frame) h = (
    claim_steps (Fires h.1 h.2) (Some frame.places) h.4,
    claimed (Fires h.1 h.2) (Some frame.places) h.4 ticket (IsToFire frame) h.0 (h.3, kernel_frame x.key.signatures h.2 frame h.3 (fit (Fires h.1 h.2) (Some frame.places) h.4)),
  )
  claims (claim.Copy ticket node frame) h = (
    claim_steps (Copies node h.1 h.2) (Some frame.places) h.4,
    claimed (Copies node h.1 h.2) (Some frame.places) h.4 ticket (IsToCopy node frame) h.0 (refl, h.3, node_frame x.key.signatures node h.1 h.2 frame h.3 (fit (Copies node h.1 h.2) (Some frame.places) h.4)),
  )
  claims (claim.Compile ticket task) h = (
    claim_steps (Compiles task.firing task.left) None h.3,
    claimed (Compiles task.firing task.left) None h.3 ticket (IsToCompile task) h.0 (h.1, h.2, refl, refl),
  )
  claims claim.Wait h = stays _ h
  claims claim.Finished h = stays _ h
  claims claim.Starved h = nothing (ap (λ (b : BoardView). b.key) h) (ap (λ (b : BoardView). b.journal) h) (ap (λ (b : BoardView). b.lent) h)

  -- where all is done the board is over
  pub over : (c : Claim) → Claims x y w c → c ≡ claim.Finished → IsOver y
  over c h is =
      let so : Claims x y w claim.Finished = subst (Claims x y w) is h in
      let finished : HasFinished x = record { taken = so.taken; at = so.at; ended = so.so } in
      subst IsOver (sym so.new_is) (inl finished)
