-- How far a text was read after the board of an iteration.
use Rattle.std.proofs.Common.{◌≡◌, ℕ, suc, ◌+◌, ◌<◌, ℤ, List, [], ◌∷◌, ◌++◌, length, take, drop, slice_get, Option, Some, None, is_some, true, false, Ok, Err, refl, sym, ap, ◌∙◌, subst, length-append, length-drop, arith}
use Rattle.std.proofs.lemmas.List.{append-nil, drop-drop, length-map}
use Rattle.std.proofs.lemmas.Option.{slice_get-get_or}
use Rattle.std.specs.Prelude.{slice_index_or}
use Rattle.std.specs.Option.{option_map}
use Rattle.kernel_gate.specs.Signed.{Counts, SignatureView}
use Rattle.param_resolver.specs.EarlyCheck.{early_faults}
use Rattle.pisdf_model.specs.Hold.{initial}
use Rattle.pisdf_model.specs.declared.graph.Graph.{Graph}
use Rattle.pisdf_model.specs.declared.graph.Graphs.{Graphs}
use Rattle.pisdf_meaning.specs.Endings.{End}
use Rattle.pisdf_meaning.specs.Run.{IterationEnds, IterationGives, Lack, first_lack, iteration_of, taken as tokens_taken}
use Rattle.pisdf_meaning.specs.Sound.{AreValidFor}
use Rattle.pisdf_meaning.specs.declared.firing.Given.{Given}
use Rattle.pisdf_meaning.specs.declared.refusal.Refusal.{Refusal}
use Rattle.nested_jobs.specs.Marks.{Done, Mark, Open}
use Rattle.job_rules.specs.Items.{no_graph}
use Rattle.job_rules.specs.Words as words
use Rattle.board_rules.specs.AskingLaws.{BoardsEnd, EndsAreMeant}
use Rattle.board_rules.specs.Keys.{IsKey, Key}
use Rattle.board_rules.specs.Legal.{AreLegal, EndedJournalsTell, HasEnded, journal_of, state_after}
use Rattle.quiescent_driver.specs.Iterated.{Checks, HaveIterated}
use Rattle.quiescent_driver.specs.Journals.{AreJournals, IsJournalText, entry_line, journal_text, key_at}
use Rattle.quiescent_driver.specs.Streams.{rest_of}
use Rattle.quiescent_driver.specs.Texts.{joined}
use Rattle.quiescent_driver.specs.Top.{top_of}
use Rattle.journal_laws.specs.Lines.{EntriesAreLines, JournalsHavePlainPaths, lines}
use Rattle.journal_laws.proofs.Iterations.{needs}
use Rattle.journal_laws.proofs.Joining.{joined-append, journals-append}
use Rattle.journal_laws.proofs.Onward.{RunGiven, is_key}
use Rattle.audit_job.specs.declared.answer.Answer.{Answer as Own}
use Rattle.audit_job.specs.declared.answer.Answer.TheVariants as own
use Rattle.journal_audit.specs.Reading.{HasRead, HasReadAll, HasReadBoards, HasReadPart, HasReadTo, NoStepWrites, first_line}
use Rattle.journal_audit.specs.Replays.{EndsBoard, HasReadBoard, StopsAt}
use Rattle.journal_audit.specs.declared.auditing.Next.{Next}
use Rattle.journal_audit.specs.declared.auditing.Reading.{Reading}
use Rattle.journal_audit.specs.declared.board.Read.{Read}
use Rattle.journal_audit.proofs.ReadBoards.{take_on}
use Rattle.journal_audit.proofs.WholeLines.{both_whole, journal_lines, journal_whole, nothing_whole}
use Rattle.journal_audit.proofs.WholeRuns.{IsAll, all_done, all_refused, all_refused_early, all_short, checks_so}

pub record IterationLaws : Type 0 where
  pub lines_are : EntriesAreLines
  pub plain : JournalsHavePlainPaths
  pub ended : BoardsEnd
  pub meant : EndsAreMeant
  pub tell : EndedJournalsTell

pub nothing_read : (journal : List ℕ) → HasRead journal [] record { boards = 0; bytes = 0; lines = 0 }
nothing_read journal = record { inside = omega arith; text_is = refl; whole_lines = nothing_whole; lines_are = refl; few = omega arith }

-- ---- what is found in the streams

pub lack_there : {A B : Type 0} (f : A → B) (o : Option A) → is_some o ≡ true → (r : Option B) → option_map f o ≡ r → (x : B) × (r ≡ Some x)
lack_there f None some r e = absurd (cc)
lack_there f (Some x) some r e = (f x, sym e)

pub no_lack : {A B : Type 0} (f : A → B) (o : Option A) → is_some o ≡ false → (r : Option B) → option_map f o ≡ r → r ≡ None
no_lack f None none r e = sym e
no_lack f (Some x) none r e = absurd (cc)

-- ---- the top graph

module _ (graphs : Graphs) {signatures : List Counts} (valid : AreValidFor signatures graphs) where
  pub top_in : graphs.top < length graphs.graphs
  top_in = valid.valid.in_range.top

  pub top_here : slice_get graphs.graphs graphs.top ≡ Some (top_of graphs)
  top_here = slice_get-get_or graphs.graphs graphs.top no_graph top_in

-- ---- whole texts

module _ (graphs : Graphs) (kernels : List SignatureView) (streams : List (List ℤ)) (iterations workers : ℕ) (journal : List ℕ) where
  pub read_all_of : (texts : List (List ℕ)) (reading : Reading) → IsAll graphs kernels streams iterations workers texts → reading.boards ≡ length texts → HasRead journal (joined texts) reading → HasReadAll graphs kernels streams iterations workers journal reading
  read_all_of texts reading all boards read = record {
    text = joined texts;
    whole = all.whole;
    boards_are = boards ∙ ap (λ (t : List (List ℕ)). length t) (sym all.texts_are);
    read = read;
  }

  -- nothing is to be run
  pub none_to_run : iterations ≡ 0 → (reading : Reading) → reading ≡ record { boards = 0; bytes = 0; lines = 0 } → HasReadAll graphs kernels streams iterations workers journal reading
  none_to_run zero_is reading is =
      subst (HasReadAll graphs kernels streams iterations workers journal) (sym is)
      (read_all_of [] record { boards = 0; bytes = 0; lines = 0 } (all_done graphs kernels streams iterations workers 0 [] (initial graphs.graphs graphs.top) (refl, refl) (sym zero_is) [] refl tt) refl (nothing_read journal))

  pub refused_early : 0 < iterations → (top : Graph) → slice_get graphs.graphs graphs.top ≡ Some top → (refusal : Refusal) → ((lack : Option Lack) → Rattle.pisdf_meaning.specs.Run.after_early graphs top lack ≡ Err refusal) → (reading : Reading) → reading ≡ record { boards = 0; bytes = 0; lines = 0 } → HasReadAll graphs kernels streams iterations workers journal reading
  refused_early some top top_is refusal finds reading is =
      subst (HasReadAll graphs kernels streams iterations workers journal) (sym is)
      (read_all_of [] record { boards = 0; bytes = 0; lines = 0 } (all_refused_early graphs kernels streams iterations workers some top top_is refusal finds) refl (nothing_read journal))

  pub begins : (state : List (List ℤ)) → state ≡ initial graphs.graphs graphs.top → (reading : Reading) → reading ≡ record { boards = 0; bytes = 0; lines = 0 } → HasReadBoards graphs kernels streams workers journal 0 state reading
  begins state is reading none =
      subst (HasReadBoards graphs kernels streams workers journal 0 state) (sym none)
      record { texts = []; many = refl; boards_are = refl; journals = tt; before = []; done = (refl, is); read = nothing_read journal }

  pub ends_at : (n : ℕ) → n ≡ iterations → (state : List (List ℤ)) (reading : Reading) → HasReadBoards graphs kernels streams workers journal n state reading → HasReadAll graphs kernels streams iterations workers journal reading
  ends_at n is state reading h =
      read_all_of h.texts reading (all_done graphs kernels streams iterations workers n h.before state h.done is h.texts h.many h.journals) (h.boards_are ∙ sym h.many) h.read

  pub ends_short : (sound : early_faults graphs.graphs graphs.top [] ≡ []) (n : ℕ) → n < iterations → (top : Graph) → slice_get graphs.graphs graphs.top ≡ Some top → (lack : Lack) → first_lack 0 (needs graphs) (rest_of n (needs graphs) streams) ≡ Some lack →
      (state : List (List ℤ)) (reading : Reading) → HasReadBoards graphs kernels streams workers journal n state reading → HasReadAll graphs kernels streams iterations workers journal reading
  ends_short sound n less top top_is lack is state reading h =
      read_all_of h.texts reading (all_short graphs kernels streams iterations workers top top_is sound n h.before state h.done less lack is h.texts h.many h.journals) (h.boards_are ∙ sym h.many) h.read

-- ---- the key of the next board

module _ (graphs : Graphs) (kernels : List SignatureView) (streams : List (List ℤ)) (workers : ℕ) (journal : List ℕ) (n : ℕ) (state : List (List ℤ)) (reading : Reading) (h : HasReadBoards graphs kernels streams workers journal n state reading)
    (given : RunGiven graphs kernels streams (n + 1) workers) (sound : early_faults graphs.graphs graphs.top [] ≡ []) (fed : first_lack 0 (needs graphs) (rest_of n (needs graphs) streams) ≡ None) where
  pub is_key_here : IsKey (key_at graphs kernels streams workers n state)
  is_key_here =
      is_key graphs kernels streams (n + 1) workers given n h.before state h.done (checks_so graphs kernels streams 0 workers (top_of graphs) (top_here graphs given.may.valid) sound n fed)

-- ---- one board more

module _ (laws : IterationLaws) (graphs : Graphs) (kernels : List SignatureView) (streams : List (List ℤ)) (workers : ℕ) (journal : List ℕ) (n : ℕ) (state : List (List ℤ)) (reading : Reading) (h : HasReadBoards graphs kernels streams workers journal n state reading)
    (top_in : graphs.top < length graphs.graphs) (sound : early_faults graphs.graphs graphs.top [] ≡ []) (fed : first_lack 0 (needs graphs) (rest_of n (needs graphs) streams) ≡ None)
    (is : IsKey (key_at graphs kernels streams workers n state)) (read : Read) (b : HasReadBoard graphs (key_at graphs kernels streams workers n state) n (drop reading.bytes journal) read)
    (now : Reading) (boards_now : now.boards ≡ reading.boards + 1) (bytes_now : now.bytes ≡ reading.bytes + read.bytes) (lines_now : now.lines ≡ reading.lines + read.lines) where
  abbrev key : Key
  key = key_at graphs kernels streams workers n state

  abbrev K : ℕ → Key
  K k = key_at graphs kernels streams workers k state

  abbrev top : Graph
  top = slice_index_or graphs.graphs graphs.top no_graph

  top_is : slice_get graphs.graphs graphs.top ≡ Some top
  top_is = slice_get-get_or graphs.graphs graphs.top no_graph top_in

  abbrev text : List ℕ
  text = journal_text n (journal_of key b.taken)

  abbrev so_far : List ℕ
  so_far = joined h.texts

  checks : Checks graphs (rest_of n (needs graphs) streams) (Ok None)
  checks = checks_so graphs kernels streams 0 workers top top_is sound n fed

  has_read : HasRead journal (so_far ++ text) now
  has_read =
      let plain = laws.plain key b.taken is b.legal in
      let whole = journal_whole laws.lines_are n (journal_of key b.taken) plain in
      let cut = length-drop reading.bytes journal in
      let low = h.read.inside in
      let more = b.part.inside in
      let one = h.read.lines_are in
      let two = b.part.lines_are in
      let lines_of = ap (λ (l : List (List ℕ)). length l) (h.read.whole_lines text) in
      let long = length-append (lines so_far) (lines text) in
      let each = ap (λ (l : List (List ℕ)). length l) (journal_lines laws.lines_are n (journal_of key b.taken) plain) in
      let many = length-map (journal_of key b.taken) (entry_line n) in
      let few_one = h.read.few in
      let few_two = b.part.few in
      record {
        inside = omega arith;
        text_is = ap (λ k. take k journal) bytes_now ∙ (take_on reading.bytes read.bytes journal ∙ (λ x. h.read.text_is x ++ b.part.text_is x));
        whole_lines = both_whole so_far text h.read.whole_lines whole;
        lines_are = omega arith;
        few = omega arith;
      }

  -- ---- the journal has ended

  module _ (answer : words.Answer) (done : (state_after key b.taken).marks [] ≡ Done answer) where
    has_ended : HasEnded key b.taken
    has_ended = (laws.ended key b.taken is b.legal).1 (answer, done)

    there : IsJournalText graphs kernels streams workers n text
    there = record {
      before = h.before;
      state = state;
      done = h.done;
      entries = journal_of key b.taken;
      whole = record { taken = b.taken; legal = b.legal; ended = has_ended; entries_are = refl };
      text_is = refl;
    }

    abbrev texts : List (List ℕ)
    texts = h.texts ++ text ∷ []

    many : length texts ≡ n + 1
    many = let a = length-append h.texts (text ∷ []) in let m = h.many in omega arith

    journals : AreJournals graphs kernels streams workers 0 texts
    journals =
        let m = h.many in
        let number : n ≡ 0 + length h.texts = omega arith in
        journals-append graphs kernels streams workers 0 h.texts (text ∷ []) h.journals (subst (λ (k : ℕ). AreJournals graphs kernels streams workers k (text ∷ [])) number (there, tt))

    read_texts : HasRead journal (joined texts) now
    read_texts =
        let same : so_far ++ text ≡ joined texts = ap (λ (t : List ℕ). so_far ++ t) (sym (append-nil text)) ∙ sym (joined-append h.texts (text ∷ [])) in
        subst (λ (t : List ℕ). HasRead journal t now) same has_read

    boards_so : now.boards ≡ n + 1
    boards_so = let a = h.boards_are in omega arith

  means : (end : End) → (state_after key b.taken).marks [] ≡ Done (words.answer_of end) → IterationEnds graphs (tokens_taken (needs graphs) (rest_of n (needs graphs) streams)) state end
  means end done = record { top = top; top_is = top_is; means = laws.meant key b.taken end is b.legal done }

  -- it gave this
  pub gave : (given : Given) → (state_after key b.taken).marks [] ≡ Done (words.Gives given) → HasReadBoards graphs kernels streams workers journal (n + 1) given.state now
  gave given done =
      let answer : words.Answer = words.Gives given in
      let ends = means (Ok given) done in
      let later : HaveIterated graphs streams (suc n) (h.before ++ iteration_of given ∷ []) given.state =
      (h.before, state, iteration_of given, h.done, record { checks = checks; gives = record { given = given; ends = ends; iteration_is = refl; state_is = refl } }, refl) in
      let number : suc n ≡ n + 1 = omega arith in
      record {
        texts = texts answer done;
        many = many answer done;
        boards_are = boards_so answer done;
        journals = journals answer done;
        before = h.before ++ iteration_of given ∷ [];
        done = subst (λ (k : ℕ). HaveIterated graphs streams k (h.before ++ iteration_of given ∷ []) given.state) number later;
        read = read_texts answer done;
      }

  -- no compilation is the end of a board
  pub not_scheduled : (schedule : Rattle.level_schedule.specs.declared.scheduling.LevelSchedule.LevelSchedule) → (state_after key b.taken).marks [] ≡ Done (words.Schedules schedule) → ⊥
  not_scheduled schedule done =
      let t = laws.tell key b.taken is b.legal (has_ended (words.Schedules schedule) done) in
      go t.end (sym done ∙ t.done)
    where
      go : (end : End) → ◌≡◌ {A = Mark Rattle.pisdf_meaning.specs.declared.firing.Firing.Firing words.Answer} (Done (words.Schedules schedule)) (Done (words.answer_of end)) → ⊥
      go (Ok given) e = cc
      go (Err refusal) e = cc

  module _ (iterations : ℕ) (less : n < iterations) where
    -- it was refused
    pub refused : (refusal : Refusal) → (state_after key b.taken).marks [] ≡ Done (words.Refuses refusal) → HasReadAll graphs kernels streams iterations workers journal now
    refused refusal done =
        let answer : words.Answer = words.Refuses refusal in
        read_all_of graphs kernels streams iterations workers journal (texts answer done) now
        (all_refused graphs kernels streams iterations workers top top_is sound n h.before state h.done less fed refusal (means (Err refusal) done) (texts answer done) (many answer done) (journals answer done))
        (boards_so answer done ∙ sym (many answer done)) (read_texts answer done)

    -- the journal goes on, but the text doesn't
    pub part : (job : Rattle.pisdf_meaning.specs.declared.firing.Firing.Firing) → (state_after key b.taken).marks [] ≡ Open job → NoStepWrites key n b.taken (first_line (drop read.bytes (drop reading.bytes journal))) → HasReadPart graphs kernels streams iterations workers journal now
    part job is_open none =
        let rest : List ℕ = drop now.bytes journal in
        let moved : drop read.bytes (drop reading.bytes journal) ≡ rest = drop-drop read.bytes reading.bytes journal ∙ ap (λ k. drop k journal) (sym bytes_now) in
        let none_here : NoStepWrites key n b.taken (first_line rest) = subst (λ (t : List ℕ). NoStepWrites key n b.taken (first_line t)) moved none in
        let not_ended : ¬ (HasEnded key b.taken) = λ ended. (let d = (laws.ended key b.taken is b.legal).0 ended in let e = sym is_open ∙ d.1 in cc) in
        go none_here not_ended
      where
        go : NoStepWrites (K n) n b.taken (first_line (drop now.bytes journal)) → ¬ (HasEnded (K n) b.taken) → HasReadPart graphs kernels streams iterations workers journal now
        go none not_ended =
            let m = h.many in
            let same : n ≡ length h.texts = sym m in
            record {
              texts = h.texts;
              state = state;
              taken = b.taken;
              come = record {
                journals = h.journals;
                before = h.before;
                done = subst (λ (x : ℕ). HaveIterated graphs streams x h.before state) same h.done;
                one_more = omega arith;
                checks = subst (λ (x : ℕ). Checks graphs (rest_of x (needs graphs) streams) (Ok None)) same checks;
                legal = subst (λ (x : ℕ). AreLegal (K x) b.taken) same b.legal;
              };
              read = subst (λ (x : ℕ). HasRead journal (so_far ++ journal_text x (journal_of (K x) b.taken)) now) same has_read;
              not_ended = subst (λ (x : ℕ). ¬ (HasEnded (K x) b.taken)) same not_ended;
              none_next = subst (λ (x : ℕ). NoStepWrites (K x) x b.taken (first_line (drop now.bytes journal))) same none;
            }

    -- whatever comes next
    pub reads_to : (end : Option Own) → StopsAt key n b.taken (drop read.bytes (drop reading.bytes journal)) end → (later : List (List ℤ)) (nxt : Next) → EndsBoard end state later nxt → HasReadTo graphs kernels streams iterations workers journal (n + 1) later now nxt
    reads_to None stops later nxt e = subst (HasReadTo graphs kernels streams iterations workers journal (n + 1) later now) (sym e.0) (part stops.0.0 stops.0.1 stops.1)
    reads_to (Some (own.Gives given)) stops later nxt e =
        subst (HasReadTo graphs kernels streams iterations workers journal (n + 1) later now) (sym e.0) (subst (λ (s : List (List ℤ)). HasReadBoards graphs kernels streams workers journal (n + 1) s now) (sym e.1) (gave given stops))
    reads_to (Some (own.Schedules schedule)) stops later nxt e = absurd (not_scheduled schedule stops)
    reads_to (Some (own.Refuses refusal)) stops later nxt e = subst (HasReadTo graphs kernels streams iterations workers journal (n + 1) later now) (sym e.0) (refused refusal stops)
