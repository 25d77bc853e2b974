-- Journals and texts that are joined.
use Rattle.std.proofs.Common.{◌≡◌, ℕ, suc, ◌+◌, ℤ, List, [], ◌∷◌, ◌++◌, length, refl, sym, ap, ◌∙◌, subst, arith, append_assoc, length-append}
use Rattle.kernel_gate.specs.Signed.{SignatureView}
use Rattle.pisdf_model.specs.declared.graph.Graphs.{Graphs}
use Rattle.nested_jobs.specs.Journals.{after, start, state_from}
use Rattle.board_rules.specs.Entries.{BoardState, Step, entry_of}
use Rattle.board_rules.specs.Keys.{Key, rules, top_job}
use Rattle.board_rules.specs.Legal.{entries_from, journal_of, state_after}
use Rattle.board_rules.specs.declared.entry.Entry.{Entry}
use Rattle.quiescent_driver.specs.Journals.{AreJournals, IsWholeText, entry_line, journal_text, key_at}
use Rattle.quiescent_driver.specs.Texts.{joined}
use Rattle.journal_laws.specs.Texts.{HasCome, text_so_far}
use Rattle.journal_laws.proofs.Onward.{RunGiven, come_on}

pub joined-append : (xs ys : List (List ℕ)) → joined (xs ++ ys) ≡ joined xs ++ joined ys
joined-append [] ys = refl
joined-append (x ∷ xs) ys = ap (λ t. x ++ t) (joined-append xs ys) ∙ sym (append_assoc x (joined xs) (joined ys))

pub text-append : (n : ℕ) (es fs : List Entry) → journal_text n (es ++ fs) ≡ journal_text n es ++ journal_text n fs
text-append n [] fs = refl
text-append n (e ∷ es) fs = ap (λ t. entry_line n e ++ t) (text-append n es fs) ∙ sym (append_assoc (entry_line n e) (journal_text n es) (journal_text n fs))

pub entries-append : (key : Key) (s : BoardState) (taken more : List Step) → entries_from key s (taken ++ more) ≡ entries_from key s taken ++ entries_from key (state_from (rules key) s taken) more
entries-append key s [] more = refl
entries-append key s (x ∷ taken) more =
    ap (λ (l : List Entry). entry_of key s x ++ l) (entries-append key (after (rules key) s x) taken more)
    ∙ sym (append_assoc (entry_of key s x) (entries_from key (after (rules key) s x) taken) (entries_from key (state_from (rules key) (after (rules key) s x) taken) more))

pub journal-append : (key : Key) (taken more : List Step) → journal_of key (taken ++ more) ≡ journal_of key taken ++ entries_from key (state_after key taken) more
journal-append key taken more = entries-append key (start (top_job key)) taken more

module _ (graphs : Graphs) (kernels : List SignatureView) (streams : List (List ℤ)) (workers : ℕ) where
  abbrev Journals : ℕ → List (List ℕ) → Type 0
  Journals n texts = AreJournals graphs kernels streams workers n texts

  pub journals-append : (n : ℕ) (xs ys : List (List ℕ)) → Journals n xs → Journals (n + length xs) ys → Journals n (xs ++ ys)
  journals-append n [] ys h more = let e : n + 0 ≡ n = omega arith in subst (λ (k : ℕ). Journals k ys) e more
  journals-append n (x ∷ xs) ys h more = let e : n + suc (length xs) ≡ n + 1 + length xs = omega arith in (h.0, journals-append (n + 1) xs ys h.1 (subst (λ (k : ℕ). Journals k ys) e more))

  pub journals_after : (n : ℕ) (xs ys : List (List ℕ)) → Journals n (xs ++ ys) → Journals (n + length xs) ys
  journals_after n [] ys h = let e : n ≡ n + 0 = omega arith in subst (λ (k : ℕ). Journals k ys) e h
  journals_after n (x ∷ xs) ys h = let e : n + 1 + length xs ≡ n + suc (length xs) = omega arith in subst (λ (k : ℕ). Journals k ys) e (journals_after (n + 1) xs ys h.1)

  -- ---- the whole text of a run that has come so far

  module _ (iterations : ℕ) (given : RunGiven graphs kernels streams iterations workers) where
    pub goes_on : (texts : List (List ℕ)) (state : List (List ℤ)) (taken : List Step) → HasCome graphs kernels streams iterations workers texts state taken →
        (rest : List ℕ) × IsWholeText graphs kernels streams iterations workers (text_so_far (key_at graphs kernels streams workers (length texts) state) texts taken ++ rest)
    goes_on texts state taken come =
        let c = come_on graphs kernels streams iterations workers given texts state taken come in
        let key : Key = key_at graphs kernels streams workers (length texts) state in
        let n : ℕ = length texts in
        let so_far : List ℕ = journal_text n (journal_of key taken) in
        let more : List ℕ = journal_text n (entries_from key (state_after key taken) c.steps) in
        let last : List ℕ = joined c.later in
        let text : List ℕ = journal_text n (journal_of key (taken ++ c.steps)) in
        let parts : text ≡ so_far ++ more = ap (journal_text n) (journal-append key taken c.steps) ∙ text-append n (journal_of key taken) (entries_from key (state_after key taken) c.steps) in
        let first : (joined texts ++ so_far) ++ (more ++ last) ≡ joined texts ++ (so_far ++ (more ++ last)) = append_assoc (joined texts) so_far (more ++ last) in
        let second : so_far ++ (more ++ last) ≡ text ++ last = sym (append_assoc so_far more last) ∙ ap (λ (l : List ℕ). l ++ last) (sym parts) in
        let all = c.all in
        let long = length-append texts (text ∷ c.later) in
        let zero_first : length texts ≡ 0 + length texts = omega arith in (
          more ++ last,
          record {
            r = c.r;
            is_run = c.is_run;
            texts = texts ++ text ∷ c.later;
            all = omega arith;
            journals = journals-append 0 texts (text ∷ c.later) come.journals (subst (λ (k : ℕ). Journals k (text ∷ c.later)) zero_first (c.text, c.journals));
            text_is = first ∙ ap (λ (l : List ℕ). joined texts ++ l) second ∙ sym (joined-append texts (text ∷ c.later));
          },
        )
