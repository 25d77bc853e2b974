-- Whole texts of a run that begin with the same lines have the same boards and steps.
use Rattle.std.proofs.Common.{◌≡◌, ℕ, zero, suc, ◌+◌, ◌<◌, ◌≤◌, ◌^◌, ℤ, List, [], ◌∷◌, ◌++◌, length, map, drop, slice_get, Option, Some, None, Result, Ok, Err, refl, sym, ap, ◌∙◌, subst, arith, append_assoc, length-append}
use Rattle.std.proofs.lemmas.List.{append-nil, append_cancel_left, take-append-drop, take_all}
use Rattle.kernel_gate.specs.Signed.{SignatureView}
use Rattle.param_resolver.specs.EarlyCheck.{early_faults}
use Rattle.param_resolver.specs.Refusal as part
use Rattle.pisdf_model.specs.Hold.{initial}
use Rattle.pisdf_model.specs.declared.graph.Graph.{Graph}
use Rattle.pisdf_model.specs.declared.graph.Graphs.{Graphs}
use Rattle.pisdf_meaning.specs.Causes.{unless_refused}
use Rattle.pisdf_meaning.specs.Endings.{End}
use Rattle.pisdf_meaning.specs.Laws.{HasOneMeaning, HasOneRun}
use Rattle.pisdf_meaning.specs.Run as run
use Rattle.pisdf_meaning.specs.Run.{AfterCheck, GoesOn as RunGoesOn, Lack, Run, RunsFrom, after_early, ended, first_lack, left_by}
use Rattle.pisdf_meaning.specs.declared.refusal.Refusal.{Refusal}
use Rattle.board_rules.specs.BoardLaws.{EndedJournalsStay}
use Rattle.board_rules.specs.Entries.{Step}
use Rattle.board_rules.specs.Keys.{IsKey, Key}
use Rattle.board_rules.specs.Legal.{AreLegal, HasEnded, journal_of}
use Rattle.board_rules.specs.declared.entry.Entry.{Entry}
use Rattle.worker_crew.specs.Laws.{BoardsHaveLaws}
use Rattle.quiescent_driver.specs.Iterated.{Checks}
use Rattle.quiescent_driver.specs.Journals.{AreJournals, IsJournalText, IsWholeText, boards, boards_at_end, entry_line, journal_text, key_at}
use Rattle.quiescent_driver.specs.Streams.{rest_of}
use Rattle.quiescent_driver.specs.Texts.{joined}
use Rattle.journal_laws.specs.Lines.{BeginningsTell, EntriesAreLines, JournalsHavePlainPaths, LinesBegin, Shares, lines}
use Rattle.journal_laws.specs.Steps.{NextStepsAreOne}
use Rattle.journal_laws.specs.Texts.{GoesOn, HasCome, text_so_far}
use Rattle.journal_laws.proofs.Common.{AtKey, common, ended_same}
use Rattle.journal_laws.proofs.Iterations.{iterated_once, needs, rest_first, rest_next}
use Rattle.journal_laws.proofs.Joining.{joined-append, journals_after}
use Rattle.journal_laws.proofs.Onward.{RunGiven, come_on, is_key}

-- what is cited here
pub record TextLaws (graphs : Graphs) : Type 0 where
  pub meaning : HasOneMeaning graphs.graphs
  pub run : HasOneRun graphs
  pub boards : BoardsHaveLaws
  pub once : NextStepsAreOne
  pub begin : LinesBegin
  pub tell : BeginningsTell
  pub stay : EndedJournalsStay
  pub lines_are : EntriesAreLines
  pub plain : JournalsHavePlainPaths

done_none : {T : Type 0} (faults : List T) (left : List ℕ) → boards_at_end faults (run.Done left) ≡ 0
done_none [] left = refl
done_none (f ∷ faults) left = refl

short_none : {T : Type 0} (faults : List T) (lack : Lack) → boards_at_end faults (run.Short lack) ≡ 0
short_none [] lack = refl
short_none (f ∷ faults) lack = refl

refused_one : {T : Type 0} (faults : List T) (refusal : Refusal) → boards_at_end faults (run.Refused refusal) ≤ 1
refused_one [] refusal = omega arith
refused_one (f ∷ faults) refusal = omega arith

checked_none : {T : Type 0} (graphs : List Graph) (g : Graph) (path : List ℕ) (faults : List part.Refusal) (value : T) (refusal other : Refusal) → unless_refused graphs g path faults value ≡ Err refusal → boards_at_end faults (run.Refused other) ≡ 0
checked_none graphs g path [] value refusal other e = absurd (cc)
checked_none graphs g path (f ∷ faults) value refusal other e = refl

module _ (graphs : Graphs) (kernels : List SignatureView) (streams : List (List ℤ)) (iterations workers : ℕ) (given : RunGiven graphs kernels streams iterations workers) (laws : TextLaws graphs) where
  abbrev State : Type 0
  State = List (List ℤ)

  abbrev left_at : ℕ → State
  left_at k = rest_of k (needs graphs) streams

  abbrev key : ℕ → State → Key
  key k state = key_at graphs kernels streams workers k state

  abbrev Journals : ℕ → List (List ℕ) → Type 0
  Journals n texts = AreJournals graphs kernels streams workers n texts

  abbrev faults : List part.Refusal
  faults = early_faults graphs.graphs graphs.top []

  -- ---- each board of a run is that of an iteration that goes through its early check

  record HasBoard (m k j : ℕ) : Type 0 where
    checks : Checks graphs (left_at (k + j)) (Ok None)
    inside : j < m

  ends_short : (r : Run) (end : run.RunEnd) (j : ℕ) → r ≡ ended end → boards_at_end faults end ≡ 0 → j < boards graphs r → ⊥
  ends_short r end j e none lt = let n = ap (boards graphs) e in omega arith

  abbrev HasBoards : ℕ → Type 0
  HasBoards m = (k : ℕ) (state : State) (r : Run) → RunsFrom graphs m state (left_at k) r → (j : ℕ) → j < boards graphs r → HasBoard m k j

  board_on : (m : ℕ) → HasBoards m → (k : ℕ) (r : Run) → Checks graphs (left_at k) (Ok None) → (end : End) → RunGoesOn (λ s run. RunsFrom graphs m s (left_by (needs graphs) (left_at k)) run) end r → (j : ℕ) → j < boards graphs r → HasBoard (suc m) k j
  board_on m on k r c end goes zero lt = let e : k ≡ k + 0 = omega arith in record { checks = subst (λ (n : ℕ). Checks graphs (left_at n) (Ok None)) e c; inside = omega arith }
  board_on m on k r c (Ok one) goes (suc j) lt =
      let n = ap (boards graphs) goes.2 in
      let b = on (suc k) one.state goes.0 (subst (λ (s : State). RunsFrom graphs m one.state s goes.0) (rest_next k (needs graphs) streams) goes.1) j (omega arith) in
      let e : suc k + j ≡ k + suc j = omega arith in
      let i = b.inside in
      record { checks = subst (λ (n : ℕ). Checks graphs (left_at n) (Ok None)) e b.checks; inside = omega arith }
  board_on m on k r c (Err refusal) goes (suc j) lt = let n = ap (boards graphs) goes in let few = refused_one faults refusal in absurd (omega arith)

  board_checked : (m : ℕ) → HasBoards m → (k : ℕ) (state : State) (r : Run) (top : Graph) → slice_get graphs.graphs graphs.top ≡ Some top → (x : Result (Option Lack) Refusal) → after_early graphs top (first_lack 0 (needs graphs) (left_at k)) ≡ x →
      AfterCheck graphs (RunsFrom graphs m) state (left_at k) x r → (j : ℕ) → j < boards graphs r → HasBoard (suc m) k j
  board_checked m on k state r top top_is (Err refusal) e is j lt = absurd (ends_short r (run.Refused refusal) j is (checked_none graphs.graphs top top.name faults (first_lack 0 (needs graphs) (left_at k)) refusal refusal e) lt)
  board_checked m on k state r top top_is (Ok (Some lack)) e is j lt = absurd (ends_short r (run.Short lack) j is (short_none faults lack) lt)
  board_checked m on k state r top top_is (Ok None) e (end, ends, goes) j lt = board_on m on k r record { top = top; top_is = top_is; finds = e } end goes j lt

  has_board : (m : ℕ) → HasBoards m
  has_board zero = λ k state r runs j lt. absurd (ends_short r (run.Done (map (λ (tokens : List ℤ). length tokens) (left_at k))) j runs (done_none faults (map (λ (tokens : List ℤ). length tokens) (left_at k))) lt)
  has_board (suc m) = λ k state r runs j lt. board_checked m (has_board m) k state r runs.0 runs.1 (after_early graphs runs.0 (first_lack 0 (needs graphs) (left_at k))) refl runs.2 j lt

  -- ---- the same lines

  at_key : (k : ℕ) (state : State) → IsKey (key k state) → AtKey (key k state)
  at_key k state is = record { is = is; board = laws.boards (key k state) is; once = laws.once; begin = laws.begin; tell = laws.tell; stay = laws.stay }

  text_lines : (k : ℕ) (state : State) → IsKey (key k state) → (taken : List Step) → AreLegal (key k state) taken → (text : List ℕ) →
      lines (journal_text k (journal_of (key k state) taken) ++ text) ≡ map (entry_line k) (journal_of (key k state) taken) ++ lines text
  text_lines k state is taken legal text = laws.lines_are k (journal_of (key k state) taken) text (laws.plain (key k state) taken is legal)

  -- a journal that has ended, with its text
  record Ends (k : ℕ) (state : State) (text : List ℕ) : Type 0 where
    taken : List Step
    legal : AreLegal (key k state) taken
    ended_so : HasEnded (key k state) taken
    text_is : text ≡ journal_text k (journal_of (key k state) taken)

  ends_of : (k : ℕ) (text : List ℕ) (t : IsJournalText graphs kernels streams workers k text) → Ends k t.state text
  ends_of k text t = record { taken = t.whole.taken; legal = t.whole.legal; ended_so = t.whole.ended; text_is = t.text_is ∙ ap (journal_text k) (sym t.whole.entries_are) }

  module _ (k : ℕ) (state : State) (is : IsKey (key k state)) (small : k < 2 ^ 32) (text : List ℕ) (e : Ends k state text) where
    ends_lines : (more : List ℕ) → lines (text ++ more) ≡ map (entry_line k) (journal_of (key k state) e.taken) ++ lines more
    ends_lines more = ap (λ (t : List ℕ). lines (t ++ more)) e.text_is ∙ text_lines k state is e.taken e.legal more

    -- one that begins with the lines of these steps takes them
    begins_so : (taken : List Step) → AreLegal (key k state) taken → (more : List ℕ) (R : List (List ℕ)) → lines (text ++ more) ≡ map (entry_line k) (journal_of (key k state) taken) ++ R → (rest : List Step) × (e.taken ≡ taken ++ rest)
    begins_so taken legal more R h = common (key k state) (at_key k state is) k small [] taken e.taken (lines more) R legal e.legal e.ended_so (sym (ends_lines more) ∙ h)

  record Paired (texts others : List (List ℕ)) (X : List ℕ) (R : List (List ℕ)) : Type 0 where
    more : List (List ℕ)
    is : others ≡ texts ++ more
    lines_are : lines (joined more) ≡ lines X ++ R

  paired : (n : ℕ) (texts others : List (List ℕ)) (X : List ℕ) (R : List (List ℕ)) → Journals n texts → Journals n others → length texts ≤ length others →
      ((j : ℕ) → j < length others → Checks graphs (left_at (n + j)) (Ok None) × (n + j < 2 ^ 32)) → lines (joined others) ≡ lines (joined texts ++ X) ++ R → Paired texts others X R
  paired n [] others X R one other le checks h = record { more = others; is = refl; lines_are = h }
  paired n (t ∷ texts) [] X R one other le checks h = absurd (omega arith)
  paired n (t ∷ texts) (u ∷ others) X R one other le checks h =
      let c = checks 0 (omega arith) in
      let number : n + 0 ≡ n = omega arith in
      let here : Checks graphs (left_at n) (Ok None) = subst (λ (k : ℕ). Checks graphs (left_at k) (Ok None)) number c.0 in
      let below = c.1 in
      let small : n < 2 ^ 32 = omega arith in
      let state : State = one.0.state in
      let is = is_key graphs kernels streams iterations workers given n one.0.before state one.0.done here in
      let same : other.0.state ≡ state = iterated_once graphs laws.meaning streams n other.0.before other.0.state one.0.before state other.0.done one.0.done in
      let a = ends_of n t one.0 in
      let b : Ends n state u = subst (λ (s : State). Ends n s u) same (ends_of n u other.0) in
      let line = entry_line n in
      let journal : List (List ℕ) = map line (journal_of (key n state) a.taken) in
      let split : lines ((t ++ joined texts) ++ X) ≡ journal ++ lines (joined texts ++ X) = ap lines (append_assoc t (joined texts) X) ∙ ends_lines n state is small t a (joined texts ++ X) in
      let all : lines (u ++ joined others) ≡ journal ++ (lines (joined texts ++ X) ++ R) = h ∙ (ap (λ (l : List (List ℕ)). l ++ R) split ∙ append_assoc journal (lines (joined texts ++ X)) R) in
      let begun = begins_so n state is small u b a.taken a.legal (joined others) (lines (joined texts ++ X) ++ R) all in
      let steps_same : b.taken ≡ a.taken = ended_same (key n state) (at_key n state is) a.taken begun.0 b.taken begun.1 a.ended_so b.legal in
      let text_same : u ≡ t = b.text_is ∙ (ap (λ (s : List Step). journal_text n (journal_of (key n state) s)) steps_same ∙ sym a.text_is) in
      let turned : journal ++ lines (joined others) ≡ lines (u ++ joined others) = ap (λ (s : List Step). map line (journal_of (key n state) s) ++ lines (joined others)) (sym steps_same) ∙ sym (ends_lines n state is small u b (joined others)) in
      let rest_lines = append_cancel_left journal (lines (joined others)) (lines (joined texts ++ X) ++ R) (turned ∙ all) in
      let p = paired (n + 1) texts others X R one.1 other.1 (omega arith) (λ j lt.
      let at = checks (suc j) (omega arith) in
      let next : n + suc j ≡ n + 1 + j = omega arith in
      let s = at.1 in
      (subst (λ (k : ℕ). Checks graphs (left_at k) (Ok None)) next at.0, omega arith)) rest_lines in
      let tail = p.is in
      record { more = p.more; is = λ x. text_same x ∷ tail x; lines_are = p.lines_are }

  -- ---- a whole text with the lines of another

  shared : (text other : List ℕ) → Shares (length (lines text)) text other → (R : List (List ℕ)) × (lines other ≡ lines text ++ R)
  shared text other s =
      let n : ℕ = length (lines text) in
      (drop n (lines other), sym (take-append-drop n (lines other)) ∙ ap (λ (l : List (List ℕ)). l ++ drop n (lines other)) (sym s.same ∙ take_all n (lines text) (omega arith)))

  boards_checked : (text : List ℕ) (w : IsWholeText graphs kernels streams iterations workers text) → (j : ℕ) → j < length w.texts → Checks graphs (left_at (0 + j)) (Ok None) × (0 + j < 2 ^ 32)
  boards_checked text w j lt =
      let all = w.all in
      let first : State = initial graphs.graphs graphs.top in
      let runs : RunsFrom graphs iterations first (left_at 0) w.r = subst (λ (s : State). RunsFrom graphs iterations first s w.r) (sym (rest_first (needs graphs) streams)) w.is_run in
      let b = has_board iterations 0 first w.r runs j (omega arith) in
      let small = given.may.small in
      let i = b.inside in
      (b.checks, omega arith)

  pub whole_ends : (text other : List ℕ) → IsWholeText graphs kernels streams iterations workers text → IsWholeText graphs kernels streams iterations workers other → Shares (length (lines text)) text other → other ≡ text
  whole_ends text other w v s =
      let h = shared text other s in
      let same_run = ap (boards graphs) (laws.run streams iterations w.r v.r w.is_run v.is_run) in
      let one = w.all in
      let two = v.all in
      let lines_so : lines (joined v.texts) ≡ lines (joined w.texts ++ []) ++ h.0 = ap lines (sym v.text_is) ∙ (h.1 ∙ ap (λ (t : List ℕ). lines t ++ h.0) (w.text_is ∙ sym (append-nil (joined w.texts)))) in
      let p = paired 0 w.texts v.texts [] h.0 w.journals v.journals (omega arith) (boards_checked other v) lines_so in
      v.text_is ∙ (ap joined (nothing_more w.texts p.more v.texts p.is (omega arith)) ∙ sym w.text_is)
    where
      nothing_more : (xs ys zs : List (List ℕ)) → zs ≡ xs ++ ys → length zs ≡ length xs → zs ≡ xs
      nothing_more xs [] zs e long = e ∙ append-nil xs
      nothing_more xs (y ∷ ys) zs e long = let l = ap (λ (t : List (List ℕ)). length t) e in let a = length-append xs (y ∷ ys) in absurd (omega arith)

  pub steps_same : (texts : List (List ℕ)) (state : State) (taken : List Step) (text : List ℕ) → HasCome graphs kernels streams iterations workers texts state taken → IsWholeText graphs kernels streams iterations workers text →
      Shares (length (lines (text_so_far (key (length texts) state) texts taken))) (text_so_far (key (length texts) state) texts taken) text → GoesOn graphs kernels streams workers (key (length texts) state) texts taken text
  steps_same texts state taken text come w s =
      let k : ℕ = length texts in
      let X : List ℕ = journal_text k (journal_of (key k state) taken) in
      let h = shared (joined texts ++ X) text s in
      let c = come_on graphs kernels streams iterations workers given texts state taken come in
      let same_run = ap (boards graphs) (laws.run streams iterations w.r c.r w.is_run c.is_run) in
      let one = w.all in
      let two = c.all in
      let lines_so : lines (joined w.texts) ≡ lines (joined texts ++ X) ++ h.0 = ap lines (sym w.text_is) ∙ h.1 in
      let p = paired 0 texts w.texts X h.0 come.journals w.journals (omega arith) (boards_checked text w) lines_so in
      let long = ap (λ (t : List (List ℕ)). length t) p.is ∙ length-append texts p.more in
      go h.0 p.more (omega arith) (w.text_is ∙ ap joined p.is) (subst (Journals 0) p.is w.journals) p.lines_are
    where
      go : (R : List (List ℕ)) (more : List (List ℕ)) → 0 < length more → text ≡ joined (texts ++ more) → Journals 0 (texts ++ more) → lines (joined more) ≡ lines (journal_text (length texts) (journal_of (key (length texts) state) taken)) ++ R →
          GoesOn graphs kernels streams workers (key (length texts) state) texts taken text
      go R [] some text_is journals h = absurd (omega arith)
      go R (u ∷ us) some text_is journals h =
          let k : ℕ = length texts in
          let line = entry_line k in
          let number : 0 + k ≡ k = omega arith in
          let there : Journals k (u ∷ us) = subst (λ (n : ℕ). Journals n (u ∷ us)) number (journals_after graphs kernels streams workers 0 texts (u ∷ us) journals) in
          let is = is_key graphs kernels streams iterations workers given k come.before state come.done come.checks in
          let less = come.one_more in
          let most = given.may.small in
          let small : k < 2 ^ 32 = omega arith in
          let same : there.0.state ≡ state = iterated_once graphs laws.meaning streams k there.0.before there.0.state come.before state there.0.done come.done in
          let b : Ends k state u = subst (λ (s : State). Ends k s u) same (ends_of k u there.0) in
          let journal : List Entry = journal_of (key k state) taken in
          let text_so : lines (journal_text k journal) ≡ map line journal ++ [] = ap lines (sym (append-nil (journal_text k journal))) ∙ text_lines k state is taken come.legal [] in
          let all : lines (u ++ joined us) ≡ map line journal ++ R = h ∙ (ap (λ (l : List (List ℕ)). l ++ R) text_so ∙ ap (λ (l : List (List ℕ)). l ++ R) (append-nil (map line journal))) in
          let begun = begins_so k state is small u b taken come.legal (joined us) R all in
          let text_u : u ≡ journal_text k (journal_of (key k state) (taken ++ begun.0)) = b.text_is ∙ ap (λ (l : List Step). journal_text k (journal_of (key k state) l)) begun.1 in
          record {
            steps = begun.0;
            ends = record { legal = subst (AreLegal (key k state)) begun.1 b.legal; ended = subst (HasEnded (key k state)) begun.1 b.ended_so };
            later = us;
            journals = there.1;
            text_is = text_is ∙ (joined-append texts (u ∷ us) ∙ (sym (append_assoc (joined texts) u (joined us)) ∙ ap (λ (t : List ℕ). (joined texts ++ t) ++ joined us) text_u));
          }
