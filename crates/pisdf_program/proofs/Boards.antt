-- A run by many workers whose journals are put, board by board.
use Rattle.std.proofs.Common.{◌≡◌, ℕ, suc, ◌+◌, ◌-◌, ◌≤◌, ◌<◌, ℤ, List, [], ◌∷◌, ◌++◌, length, length-append, map, inl, inr, slice_get, Option, Some, None, Result, Ok, Err, String, Global, refl, sym, ap, ◌∙◌, subst, arith, take}
use Rattle.std.specs.Prelude.{IfErr, true}
use Rattle.outer_world.specs.Sink.{Grows}
use Rattle.kernel_gate.specs.Signed.{SignatureView}
use Rattle.kernel_gate.specs.Table.{the_signatures}
use Rattle.param_resolver.specs.EarlyCheck.{early_faults}
use Rattle.pisdf_model.specs.Hold.{initial}
use Rattle.pisdf_model.specs.declared.graph.Graph.{Graph}
use Rattle.pisdf_model.specs.declared.graph.Graphs.{Graphs}
use Rattle.pisdf_meaning.specs.Endings.{IfRefused}
use Rattle.pisdf_meaning.specs.Run as run
use Rattle.pisdf_meaning.specs.declared.outcome.Iteration.{Iteration}
use Rattle.pisdf_meaning.specs.declared.refusal.PlainFault.{PlainFault}
use Rattle.pisdf_meaning.specs.declared.refusal.PlainFault.TheVariants as plain
use Rattle.pisdf_meaning.specs.declared.refusal.Refusal.{Refusal}
use Rattle.board_rules.specs.declared.entry.Entry.{Entry}
use Rattle.board_journal.specs.View.{JournalView}
use Rattle.board_rules.specs.Keys.{Key}
use Rattle.quiescent_driver.specs.Endings.{HasReadableJournal, HasWholeJournal, IsWhole}
use Rattle.quiescent_driver.specs.Given.{key_with}
use Rattle.quiescent_driver.specs.declared.fault.IterationFault.{IterationFault}
use Rattle.quiescent_driver.specs.declared.fault.IterationFault.TheVariants as by_workers
use Rattle.quiescent_driver.specs.Journals.{IsJournalText, boards, boards_at_end, journal_text, key_at}
use Rattle.quiescent_driver.specs.Runs.{GrowsPartly}
use Rattle.quiescent_driver.specs.Iterated.{Checks, Gives, HaveIterated, IsRefused}
use Rattle.pisdf_program.specs.Journals.{ClosesWith, EndsBoard, EndsBoards, HasBoards, HasNoBoard, IsDone, PutsJournal, ToldTo}
use Rattle.pisdf_program.specs.Result.{AreTold, FromFiles, Journals, Outcome, journals_of, short_of, status_of}
use Rattle.quiescent_driver.specs.Stops.{refused_stop, run_end}
use Rattle.quiescent_driver.specs.Streams.{rest_of}
use Rattle.pisdf_program.specs.Lines.{line_of}
use Rattle.pisdf_program.specs.Worked.{Decided, IsThere, ReadsNothing, ReportsBoards, Stopped, Works}
use Rattle.pisdf_program.specs.Written.{AreTexts, Text, Wrote, WroteFirst, journals}
use Rattle.pisdf_program.specs.declared.load.Input.{Input}
use Rattle.quiescent_driver.specs.declared.end.RunEnd.{RunEnd}
use Rattle.quiescent_driver.specs.declared.end.RunEnd.TheVariants as end
use Rattle.pisdf_program.specs.declared.status.Status.{Status}
use Rattle.pisdf_program.specs.declared.status.Status.TheVariants.{Done, RunRefused, WantOfMemory, WriteFault}
use Rattle.quiescent_driver.specs.declared.stop.Stop.{Stop}
use Rattle.quiescent_driver.specs.declared.stop.Stop.TheVariants as stop
use Rattle.quiescent_driver.proofs.Runs.{counted, finds, found, grows_none, one_less, rose_since, run_refused, run_short, run_unchecked, then_run, top_there, whole_run}
use Rattle.pisdf_program.proofs.OneRun.{one_run, run_begins}
use Rattle.pisdf_program.proofs.Working.{Gives as Reads, comes_from, not_answer, unread_report}
use Rattle.pisdf_program.proofs.Written.{first_journals, partly_more, wrote_more, wrote_none_more, all_first}

abbrev File : Type 0
File = Option (List ℕ)

abbrev State : Type 0
State = List (List ℤ)

-- ---- how many boards there are

done_adds_none : {T : Type 0} (faults : List T) (left : List ℕ) → boards_at_end faults (run.Done left) ≡ 0
done_adds_none [] left = refl
done_adds_none (f ∷ faults) left = refl

short_adds_none : {T : Type 0} (faults : List T) (lack : run.Lack) → boards_at_end faults (run.Short lack) ≡ 0
short_adds_none [] lack = refl
short_adds_none (f ∷ faults) lack = refl

-- an early check that refuses makes none
unchecked_adds_none : {T : Type 0} (faults : List T) (refusal : Refusal) → (faults ≡ [] → ⊥) → boards_at_end faults (run.Refused refusal) ≡ 0
unchecked_adds_none [] refusal non = absurd (non refl)
unchecked_adds_none (f ∷ faults) refusal non = refl

module _ (g : Graphs) (streams : State) (n : ℕ) where
  -- the run that ends after k iterations
  ended_run : (k : ℕ) (s : State) (its : List Iteration) (e : run.RunEnd) → k ≤ n → HaveIterated g streams k its s
      → run.RunsFrom g (n - k) s (rest_of k (run.top_needs g) streams) (run.ended e) → run.IsRun g streams n (then_run its (run.ended e))
  ended_run k s its e le done rest =
      let m : k + (n - k) ≡ n = omega (arith, le) in
      subst (λ q. run.IsRun g streams q (then_run its (run.ended e))) m (whole_run g streams k (n - k) its s (run.ended e) done rest)

  ended_boards : (k : ℕ) (s : State) (its : List Iteration) (e : run.RunEnd) → HaveIterated g streams k its s
      → boards g (then_run its (run.ended e)) ≡ k + boards_at_end (early_faults g.graphs g.top []) e
  ended_boards k s its e done =
      let none : List Iteration = [] in
      let long : length (its ++ none) ≡ k = omega (arith, length-append its none, counted g streams k its s done) in
      ap (λ l. l + boards_at_end (early_faults g.graphs g.top []) e) long

  -- as many as iterations that are done
  begun_boards : (k : ℕ) (s : State) (its : List Iteration) → k ≤ n → HaveIterated g streams k its s → HasBoards g streams n k
  begun_boards k s its le done = λ r is.
      let m : n ≡ k + (n - k) = omega (arith, le) in
      let begins = run_begins g streams k (n - k) its s r done (subst (λ q. run.IsRun g streams q r) m is) in
      let long : length r.iterations ≡ length (its ++ begins.0.iterations) = ap (λ (q : run.Run). length q.iterations) begins.2 in
      let e = counted g streams k its s done in
      omega (arith, long, length-append its begins.0.iterations, e)

  -- and one more for a refusal
  refused_boards : (k : ℕ) (s : State) (its : List Iteration) (refusal : Refusal) → early_faults g.graphs g.top [] ≡ [] → k < n → HaveIterated g streams k its s
      → IsRefused g s (rest_of k (run.top_needs g) streams) refusal → run.IsRun g streams n (then_run its (run.ended (run.Refused refusal))) × (boards g (then_run its (run.ended (run.Refused refusal))) ≡ suc k)
  refused_boards k s its refusal sound lt done h =
      let rest = subst (λ m. run.RunsFrom g m s (rest_of k (run.top_needs g) streams) (run.ended (run.Refused refusal))) (one_less n k lt) (run_refused g (n - (k + 1)) s (rest_of k (run.top_needs g) streams) refusal h) in
      let last : boards_at_end (early_faults g.graphs g.top []) (run.Refused refusal) ≡ 1 = ap (λ f. boards_at_end f (run.Refused refusal)) sound in
      let count = ended_boards k s its (run.Refused refusal) done in
      (ended_run k s its (run.Refused refusal) (omega (arith, lt)) done rest, omega (arith, count, last))

  same_boards : (m : ℕ) (r : run.Run) → run.IsRun g streams n r → boards g r ≡ m → HasBoards g streams n m
  same_boards m r is count = λ q other. let e : boards g q ≡ m = ap (boards g) (one_run g streams n q r other is) ∙ count in omega (arith, e)

  closed_boards : (k : ℕ) (s next : State) (its : List Iteration) (refusal : Option Refusal) → early_faults g.graphs g.top [] ≡ [] → k < n → HaveIterated g streams k its s
      → ClosesWith g s next (rest_of k (run.top_needs g) streams) refusal → HasBoards g streams n (suc k)
  closed_boards k s next its None sound lt done (i, gives) =
      let more : HaveIterated g streams (suc k) (its ++ i ∷ []) next = (its, s, i, done, gives, refl) in
      begun_boards (suc k) next (its ++ i ∷ []) (omega (arith, lt)) more
  closed_boards k s next its (Some refusal) sound lt done h =
      let r = refused_boards k s its refusal sound lt done h in
      same_boards (suc k) (then_run its (run.ended (run.Refused refusal))) r.0 r.1

-- ---- the boards so far

module _ (g : Graphs) (streams : State) (workers : ℕ) where
  -- the journals of the first k iterations were put, which leave this state
  pub record BoardsReached (k : ℕ) (s : State) (had has : File) : Type 0 where
    pub so_far : List Iteration
    pub done : HaveIterated g streams k so_far s
    pub written : Wrote had has (journals g streams workers k)

  pub boards_start : (s : State) (had : File) → s ≡ initial g.graphs g.top → BoardsReached 0 s had had
  boards_start s had first = record { so_far = []; done = (refl, first); written = ([], tt, grows_none had) }

  pub is_journal : (k : ℕ) (s next : State) (its : List Iteration) (had has : File) (W : List ℕ → Type 0) → HaveIterated g streams k its s → (puts : PutsJournal g streams workers k s next had has W)
      → IsJournalText g the_signatures streams workers k (journal_text k puts.0)
  is_journal k s next its had has W done puts = record { before = its; state = s; done = done; entries = puts.0; whole = puts.1; text_is = refl }

  pub boards_go_on : (k : ℕ) (s next : State) (had has new : File) (i : Iteration) → BoardsReached k s had has → Gives g s (rest_of k (run.top_needs g) streams) i next
      → PutsJournal g streams workers k s next has new (Grows has new) → BoardsReached (k + 1) next had new
  boards_go_on k s next had has new i r gives puts =
      let n : suc k ≡ k + 1 = omega arith in
      let done : HaveIterated g streams (suc k) (r.so_far ++ i ∷ []) next = (r.so_far, s, i, r.done, gives, refl) in
      let text = is_journal k s next r.so_far has new (Grows has new) r.done puts in
      let written = wrote_more g streams workers had has new k (journal_text k puts.0) r.written text puts.2 in
      record {
        so_far = r.so_far ++ i ∷ [];
        done = subst (λ m. HaveIterated g streams m (r.so_far ++ i ∷ []) next) n done;
        written = subst (λ m. Wrote had new (journals g streams workers m)) n written;
      }

  wrote_as : (had has : File) (m n : ℕ) → m ≡ n → Wrote had has (journals g streams workers m) → Wrote had has (journals g streams workers n)
  wrote_as had has m n e h = subst (λ k. Wrote had has (journals g streams workers k)) e h

  -- a run whose last iteration has no board
  without_board : (n k : ℕ) (s : State) (had has new : File) (e : run.RunEnd) (Ends : run.RunEnd → Type 0) → k ≤ n → Ends e → boards_at_end (early_faults g.graphs g.top []) e ≡ 0
      → BoardsReached k s had has → Grows has new [] → run.RunsFrom g (n - k) s (rest_of k (run.top_needs g) streams) (run.ended e) → ToldTo g streams workers n had new Ends
  without_board n k s had has new e Ends le ends none r grows rest =
      let count = ended_boards g streams n k s r.so_far e r.done in
      let all : k ≡ boards g (then_run r.so_far (run.ended e)) = omega (arith, count, none) in
      (then_run r.so_far (run.ended e), ended_run g streams n k s r.so_far e le r.done rest, ends, wrote_as had new k _ all (wrote_none_more had has new (journals g streams workers k) r.written grows))

  pub board_ends : (n k : ℕ) (s next : State) (had has new : File) (first before now : ℕ) (e : RunEnd) → early_faults g.graphs g.top [] ≡ [] → k < n → first ≤ before
      → BoardsReached k s had has → EndsBoard g streams workers k s next has new before now e → EndsBoards g streams workers n had new first now (Err e)
  board_ends n k s next had has new first before now (end.Done left) sound lt le r h = absurd h
  board_ends n k s next had has new first before now (end.Short stream held needs) sound lt le r h =
      let lack : run.Lack = record { stream = stream; has = held; needs = needs } in
      without_board n k s had has new (run.Short lack) (λ (x : run.RunEnd). x ≡ run.Short lack) (omega (arith, lt)) refl (short_adds_none (early_faults g.graphs g.top []) lack) r h.1
      (subst (λ m. run.RunsFrom g m s (rest_of k (run.top_needs g) streams) (run.ended (run.Short lack))) (one_less n k lt) (run_short g (n - (k + 1)) s (rest_of k (run.top_needs g) streams) lack h.0))
  board_ends n k s next had has new first before now (end.Refused refusal) sound lt le r h =
      let boards_are = refused_boards g streams n k s r.so_far refusal sound lt r.done h.0 in
      let text = is_journal k s next r.so_far has new (Grows has new) r.done h.1 in
      let written = wrote_more g streams workers had has new k (journal_text k h.1.0) r.written text h.1.2 in
      (then_run r.so_far (run.ended (run.Refused refusal)), boards_are.0, refl, wrote_as had new (suc k) _ (sym boards_are.1) written)
  board_ends n k s next had has new first before now end.WriteFault sound lt le r (rose, refusal, closes, puts) =
      let text = is_journal k s next r.so_far has new (GrowsPartly has new) r.done puts in
      let written = partly_more g streams workers had has new k (journal_text k puts.0) r.written text puts.2 in
      (rose_since first before now le rose, suc k, closed_boards g streams n k s next r.so_far refusal sound lt r.done closes, written.0, written.1, written.2)
  board_ends n k s next had has new first before now end.Memory sound lt le r h =
      (k, begun_boards g streams n k s r.so_far (omega (arith, lt)) r.done, wrote_none_more had has new (journals g streams workers k) r.written h)

  -- all iterations are done
  pub boards_done : (n : ℕ) (s : State) (had has : File) → BoardsReached n s had has → ToldTo g streams workers n had has IsDone
  boards_done n s had has r =
      let left : List ℕ = map (λ (t : List ℤ). length t) (rest_of n (run.top_needs g) streams) in
      let none : 0 ≡ n - n = omega arith in
      let over : run.RunsFrom g 0 s (rest_of n (run.top_needs g) streams) (run.ended (run.Done left)) = refl in
      without_board n n s had has has (run.Done left) IsDone (omega arith) tt (done_adds_none (early_faults g.graphs g.top []) left) r (grows_none has)
      (subst (λ m. run.RunsFrom g m s (rest_of n (run.top_needs g) streams) (run.ended (run.Done left))) none over)

  -- no iteration was asked for
  pub no_boards : (n : ℕ) (had : File) → n ≡ 0 → ToldTo g streams workers n had had IsDone
  no_boards n had is =
      let left : List ℕ = map (λ (t : List ℤ). length t) streams in
      let one : run.Run = run.ended (run.Done left) in
      let none : 0 ≡ boards g one = let e = done_adds_none (early_faults g.graphs g.top []) left in omega (arith, e) in
      let runs : run.IsRun g streams 0 one = refl in
      (one, subst (λ m. run.IsRun g streams m one) (sym is) runs, tt, wrote_as had had 0 _ none ([], tt, grows_none had))

  -- there was no memory for the first board
  pub starved_boards : (n : ℕ) (had : File) (before now : ℕ) → EndsBoards g streams workers n had had before now (Err end.Memory)
  starved_boards n had before now = (0, λ r is. omega arith, ([], tt, grows_none had))

  -- the early check of the first iteration refuses the run
  refused_early : (n : ℕ) (had : File) (refusal : Refusal) → 0 < n → (h : Checks g streams (Err refusal)) → ToldTo g streams workers n had had (λ e. e ≡ run.Refused refusal)
  refused_early n had refusal lt h =
      let m : suc (n - 1) ≡ n = omega (arith, lt) in
      let one : run.Run = run.ended (run.Refused refusal) in
      let non : early_faults g.graphs g.top [] ≡ [] → ⊥ = λ sound.
      let e : found g h.top streams ≡ Ok (run.first_lack 0 (run.top_needs g) streams) = finds g h.top streams (run.first_lack 0 (run.top_needs g) streams) sound refl in
      let other = h.finds in cc in
      let none : 0 ≡ boards g one = let e = unchecked_adds_none (early_faults g.graphs g.top []) refusal non in omega (arith, e) in
      (one, subst (λ q. run.IsRun g streams q one) m (run_unchecked g (n - 1) (initial g.graphs g.top) streams refusal h), refl, wrote_as had had 0 _ none ([], tt, grows_none had))

  pub unchecked_boards : (n : ℕ) (had : File) (before now : ℕ) (fault : PlainFault) → 0 < n → g.top < length g.graphs
      → IfRefused (λ refusal. (top : Graph) (lack : Option run.Lack) → slice_get g.graphs g.top ≡ Some top → run.after_early g top lack ≡ Err refusal) fault
      → EndsBoards g streams workers n had had before now (Err (run_end (refused_stop fault)))
  unchecked_boards n had before now (plain.Refused refusal) lt there h =
      let top = top_there g there in
      refused_early n had refusal lt record { top = top.0; top_is = top.1; finds = h top.0 (run.first_lack 0 (run.top_needs g) streams) top.1 }
  unchecked_boards n had before now plain.Memory lt there h = starved_boards n had before now

-- a stop before a board ends the run
pub stops_before : (g : Graphs) (streams : State) (workers k : ℕ) (s next : State) (had : File) (f : ℕ) (stop : Stop) → HasNoBoard g (rest_of k (run.top_needs g) streams) stop
    → EndsBoard g streams workers k s next had had f f (run_end stop)
stops_before g streams workers k s next had f (stop.Short stream held needs) h = (h, grows_none had)
stops_before g streams workers k s next had f (stop.Refused refusal) h = absurd h
stops_before g streams workers k s next had f stop.Memory h = grows_none had

-- the journal that came with an iteration is one of its board
pub whole_at : (g : Graphs) (streams : State) (workers n : ℕ) (state : State) (needs : List ℕ) (ins : State) (kernels : List SignatureView) (entries : List Entry) → kernels ≡ the_signatures → needs ≡ run.top_needs g
    → ins ≡ run.taken needs (rest_of n needs streams) → IsWhole (key_with g kernels state ins workers) entries → IsWhole (key_at g the_signatures streams workers n state) entries
whole_at g streams workers n state needs ins kernels entries signed same is h =
    let taken : ins ≡ run.taken (run.top_needs g) (rest_of n (run.top_needs g) streams) = is ∙ ap (λ k. run.taken k (rest_of n k streams)) same in
    subst (λ i. IsWhole (key_with g the_signatures state i workers) entries) taken (subst (λ k. IsWhole (key_with g k state ins workers) entries) signed h)

-- so is that of a refusal
pub refused_whole : (key : Key) (fault : IterationFault) (refusal : Refusal) (journal : JournalView) → fault ≡ by_workers.Refused refusal journal → HasWholeJournal key (Err fault) → IsWhole key journal.entries
refused_whole key fault refusal journal is h = subst (λ (x : IterationFault). HasWholeJournal key (Err x)) is h

-- and it can be read
pub refused_readable : (fault : IterationFault) (refusal : Refusal) (journal : JournalView) → fault ≡ by_workers.Refused refusal journal → HasReadableJournal (Err fault) → journal.readable ≡ true
refused_readable fault refusal journal is h = subst (λ (x : IterationFault). HasReadableJournal (Err x)) is h

-- ---- the whole command

done_status : (g : Graphs) (e : run.RunEnd) → IsDone e → status_of g e ≡ Done
done_status g (run.Done left) h = refl
done_status g (run.Short lack) h = absurd h
done_status g (run.Refused refusal) h = absurd h

module _ (expected : Outcome → Type 0) (workers n : ℕ) (input : Input) (told : (o : Outcome) → expected o → Journals n workers input o) (had has : File) where
  abbrev g : Graphs
  g = input.graphs

  same_outcome : (r : run.Run) → run.IsRun g input.streams n r → (o : Outcome) → expected o → o ≡ journals_of workers input r
  same_outcome r is o e = let other = told o e in other.2 ∙ ap (journals_of workers input) (one_run g input.streams n other.0 r other.1 is)

  decided_boards : (Ends : run.RunEnd → Type 0) (s : Status) → ((e : run.RunEnd) → Ends e → status_of g e ≡ s) → ToldTo g input.streams workers n had has Ends → Decided expected had has (line_of s) s
  decided_boards Ends s status (r, is, ends, wrote) = λ o e.
      let same = same_outcome r is o e in
      let t : status_of g r.end ≡ s = status r.end ends in (
        ap (λ (p : Outcome). p.status) same ∙ t,
        ap (λ (p : Outcome). p.line) same ∙ ap line_of t,
        subst (λ (p : Outcome). Wrote had has p.texts) (sym same) wrote,
      )

  all_boards : (Ends : run.RunEnd → Type 0) → ToldTo g input.streams workers n had has Ends → (o : Outcome) → expected o → WroteFirst had has o.texts
  all_boards Ends (r, is, ends, wrote) o e =
      subst (λ (p : Outcome). WroteFirst had has p.texts) (sym (same_outcome r is o e)) (all_first had has (journals g input.streams workers (boards g r)) wrote)

  first_boards : (m : ℕ) → HasBoards g input.streams n m → (o : Outcome) → expected o → take m o.texts ≡ journals g input.streams workers m
  first_boards m more o e = let r = told o e in ap (λ (p : Outcome). take m p.texts) r.2 ∙ first_journals g input.streams workers m (boards g r.0) (more r.0 r.1)

  starved : (before now : ℕ) (s : Status) → ((o : Outcome) → expected o → WroteFirst had has o.texts) → s ≡ WantOfMemory → Stopped expected had has before now s
  starved before now s first is = subst (Stopped expected had has before now) (sym is) first

  pub works_boards : (before now : ℕ) (e : Result (Unit {0}) RunEnd) (result : Result (String Global) Status) → EndsBoards g input.streams workers n had has before now e → ReportsBoards g e result
      → Works expected had has before now result
  works_boards before now (Ok done) (Ok text) ends rep =
      subst (λ line. Decided expected had has line Done) (sym rep) (decided_boards IsDone Done (done_status g) ends)
  works_boards before now (Ok done) (Err s) ends rep = absurd rep
  works_boards before now (Err (end.Done left)) result ends rep = absurd ends
  works_boards before now (Err (end.Short stream held needs)) (Ok text) ends rep = absurd rep
  works_boards before now (Err (end.Short stream held needs)) (Err s) ends (inl is) =
      let lack : run.Lack = record { stream = stream; has = held; needs = needs } in
      subst (Stopped expected had has before now) (sym is) (decided_boards (λ (x : run.RunEnd). x ≡ run.Short lack) (short_of g lack) (λ x same. ap (status_of g) same) ends)
  works_boards before now (Err (end.Short stream held needs)) (Err s) ends (inr is) =
      let lack : run.Lack = record { stream = stream; has = held; needs = needs } in
      starved before now s (all_boards (λ (x : run.RunEnd). x ≡ run.Short lack) ends) is
  works_boards before now (Err (end.Refused refusal)) (Ok text) ends rep = absurd rep
  works_boards before now (Err (end.Refused refusal)) (Err s) ends rep =
      subst (Stopped expected had has before now) (sym rep) (decided_boards (λ (x : run.RunEnd). x ≡ run.Refused refusal) (RunRefused refusal) (λ x same. ap (status_of g) same) ends)
  works_boards before now (Err end.WriteFault) (Ok text) ends rep = absurd rep
  works_boards before now (Err end.WriteFault) (Err s) (rose, m, more, written, are, partly) rep =
      subst (Stopped expected had has before now) (sym rep)
      (rose, λ o e. (m, written, subst (λ (ts : List Text). AreTexts ts written) (sym (first_boards m more o e)) are, partly))
  works_boards before now (Err end.Memory) (Ok text) ends rep = absurd rep
  works_boards before now (Err end.Memory) (Err s) (m, more, wrote) rep =
      starved before now s (λ o e. (m, subst (λ (ts : List Text). Wrote had has ts) (sym (first_boards m more o e)) wrote)) rep

module _ (graph tokens : File) (workers n : ℕ) (input : Input) (reads : Reads graph tokens input) where
  boards_told : (r : run.Run) → run.IsRun input.graphs input.streams n r → AreTold graph tokens → (o : Outcome) × FromFiles (Journals n workers) graph tokens o
  boards_told r is t = (journals_of workers input r, comes_from (Journals n workers) graph tokens input reads t (journals_of workers input r) (r, is, refl))

  pub boards_there : (had has : File) (before now : ℕ) (e : Result (Unit {0}) RunEnd) (result : Result (String Global) Status) → EndsBoards input.graphs input.streams workers n had has before now e → ReportsBoards input.graphs e result
      → IsThere (AreTold graph tokens) (FromFiles (Journals n workers) graph tokens) result
  boards_there had has before now (Ok done) (Ok text) ends rep = λ t. boards_told ends.0 ends.1 t
  boards_there had has before now (Ok done) (Err s) ends rep = absurd rep
  boards_there had has before now (Err (end.Done left)) result ends rep = absurd ends
  boards_there had has before now (Err (end.Short stream held needs)) (Ok text) ends rep = absurd rep
  boards_there had has before now (Err (end.Short stream held needs)) (Err s) ends rep = λ t a. boards_told ends.0 ends.1 t
  boards_there had has before now (Err (end.Refused refusal)) (Ok text) ends rep = absurd rep
  boards_there had has before now (Err (end.Refused refusal)) (Err s) ends rep = λ t a. boards_told ends.0 ends.1 t
  boards_there had has before now (Err end.WriteFault) (Ok text) ends rep = absurd rep
  boards_there had has before now (Err end.WriteFault) (Err s) ends rep = λ t a. absurd (not_answer s WriteFault rep refl a)
  boards_there had has before now (Err end.Memory) (Ok text) ends rep = absurd rep
  boards_there had has before now (Err end.Memory) (Err s) ends rep = λ t a. absurd (not_answer s WantOfMemory rep refl a)

pub unread_boards : (g : Graphs) (e : Result (Unit {0}) RunEnd) (r : Result (String Global) Status) → ReportsBoards g e r → IfErr r ReadsNothing
unread_boards g (Ok done) (Ok text) h = tt
unread_boards g (Ok done) (Err s) h = absurd h
unread_boards g (Err e) r h = unread_report g e r h
