-- Which line of a text is the first bad one, by how far it was read.
use Rattle.std.proofs.Common.{◌≡◌, ℕ, zero, suc, ◌+◌, ◌-◌, ◌≤◌, ℤ, List, [], ◌∷◌, ◌++◌, length, take, drop, refl, sym, ap, ◌∙◌, subst, append_assoc, arith, length-append}
use Rattle.std.proofs.lemmas.List.{append-nil, take-append-le, take_all, take-append-drop}
use Rattle.kernel_gate.specs.Signed.{SignatureView}
use Rattle.pisdf_model.specs.declared.graph.Graphs.{Graphs}
use Rattle.board_rules.specs.Entries.{Step}
use Rattle.board_rules.specs.Keys.{IsKey, Key}
use Rattle.board_rules.specs.Legal.{AreLegal, HasEnded, journal_of}
use Rattle.worker_crew.specs.Laws.{BoardLaws}
use Rattle.quiescent_driver.specs.Journals.{IsWholeText, entry_line, journal_text, key_at}
use Rattle.quiescent_driver.specs.Texts.{joined}
use Rattle.journal_laws.specs.Lines.{EntriesAreLines, JournalsHavePlainPaths, Shares, lines}
use Rattle.journal_laws.specs.Texts.{GoesOn, HasCome, MayRun, TextsAreOne, TextsGoOn, WholeTextsEnd, text_so_far}
use Rattle.journal_audit.specs.FirstBad.{IsFirstBad}
use Rattle.journal_audit.specs.Reading.{AreWholeLines, NoStepWrites, first_line}
use Rattle.journal_audit.proofs.NextLine.{GoesOnBy, by_next}
use Rattle.journal_audit.proofs.WholeLines.{lines_first}

-- ---- shared lines

abbrev Lines : Type 0
Lines = List (List ℕ)

-- the lines of a part are shared
pub shares_part : (a text other : List ℕ) (b c : Lines) → lines text ≡ lines a ++ b → lines other ≡ lines a ++ c → Shares (length (lines a)) text other
shares_part a text other b c one two =
    let x = ap (λ (l : Lines). length l) one in
    let y = ap (λ (l : Lines). length l) two in
    let m = length-append (lines a) b in
    let n = length-append (lines a) c in
    record {
      has = omega arith;
      other_has = omega arith;
      same = ap (take (length (lines a))) one ∙ (take-append-le (length (lines a)) (lines a) b (omega arith) ∙ sym (ap (take (length (lines a))) two ∙ take-append-le (length (lines a)) (lines a) c (omega arith)));
    }

-- one text has the lines of a part of another, where it shares at least these
record Has (a other : List ℕ) : Type 0 where
  rest : Lines
  is : lines other ≡ lines a ++ rest

has_part : (n : ℕ) (a text other : List ℕ) (b : Lines) → lines text ≡ lines a ++ b → length (lines a) ≤ n → Shares n text other → Has a other
has_part n a text other b one le s =
    let k : ℕ = length (lines a) in
    let first : take k (take n (lines text)) ≡ take k (take n (lines other)) = ap (take k) s.same in
    let left : take k (take n (lines text)) ≡ lines a = take_of k n (lines text) le ∙ (ap (take k) one ∙ (take-append-le k (lines a) b (omega arith) ∙ take_all k (lines a) (omega arith))) in
    let right : take k (take n (lines other)) ≡ take k (lines other) = take_of k n (lines other) le in
    record { rest = drop k (lines other); is = sym (take-append-drop k (lines other)) ∙ ap (λ (l : Lines). l ++ drop k (lines other)) (sym right ∙ (sym first ∙ left)) }
  where
    take_of : (m n : ℕ) (l : Lines) → m ≤ n → take m (take n l) ≡ take m l
    take_of zero n l le = refl
    take_of (suc m) zero l le = absurd (omega arith)
    take_of (suc m) (suc n) [] le = refl
    take_of (suc m) (suc n) (x ∷ l) le = ap (λ (r : Lines). x ∷ r) (take_of m n l (omega arith))

part_shares : (a other : List ℕ) → Has a other → Shares (length (lines a)) a other
part_shares a other h = shares_part a a other [] h.rest (sym (append-nil (lines a))) h.is

-- and where it shares one more, the next line is the same
next_same : (l : Lines) (x y : List ℕ) (b c : Lines) → take (suc (length l)) (l ++ x ∷ b) ≡ take (suc (length l)) (l ++ y ∷ c) → x ≡ y
next_same [] x y b c e = cc
next_same (z ∷ l) x y b c e = let rest : take (suc (length l)) (l ++ x ∷ b) ≡ take (suc (length l)) (l ++ y ∷ c) = cc in next_same l x y b c rest

pub next_shared : (a text other : List ℕ) (x y : List ℕ) (b c : Lines) → lines text ≡ lines a ++ x ∷ b → lines other ≡ lines a ++ y ∷ c → Shares (length (lines a) + 1) text other → x ≡ y
next_shared a text other x y b c one two s =
    let number : length (lines a) + 1 ≡ suc (length (lines a)) = omega arith in
    let same : take (suc (length (lines a))) (lines text) ≡ take (suc (length (lines a))) (lines other) = subst (λ (n : ℕ). take n (lines text) ≡ take n (lines other)) number s.same in
    next_same (lines a) x y b c (sym (ap (take (suc (length (lines a)))) one) ∙ (same ∙ ap (take (suc (length (lines a)))) two))

shares_self : (n : ℕ) (text : List ℕ) → n ≤ length (lines text) → Shares n text text
shares_self n text le = record { has = le; other_has = le; same = refl }

module _ (graphs : Graphs) (kernels : List SignatureView) (streams : List (List ℤ)) (iterations workers : ℕ) (may : MayRun graphs kernels streams iterations workers) where
  abbrev IsWhole : List ℕ → Type 0
  IsWhole text = IsWholeText graphs kernels streams iterations workers text

  abbrev Bad : List ℕ → ℕ → Type 0
  Bad text n = IsFirstBad graphs kernels streams iterations workers text n

  -- ---- more follows a whole text

  module _ (ends : WholeTextsEnd) (text : List ℕ) (whole : IsWhole text) (whole_lines : AreWholeLines text) (byte : ℕ) (more : List ℕ) where
    abbrev longer : List ℕ
    longer = text ++ byte ∷ more

    longer_lines : lines longer ≡ lines text ++ lines (byte ∷ more)
    longer_lines = whole_lines (byte ∷ more)

    one_more : length (lines text) + 1 ≤ length (lines longer)
    one_more =
        let f = lines_first byte more in
        let a = ap (λ (l : Lines). length l) longer_lines in
        let b = ap (λ (l : Lines). length l) f.1 in
        let c = length-append (lines text) (lines (byte ∷ more)) in
        omega arith

    none_with : (other : List ℕ) → IsWhole other → Shares (length (lines text) + 1) longer other → ⊥
    none_with other is s =
        let h = has_part (length (lines text) + 1) text longer other (lines (byte ∷ more)) longer_lines (omega arith) s in
        let same = ap (λ (t : List ℕ). length (lines t)) (ends graphs kernels streams iterations workers text other may whole is (part_shares text other h)) in
        let long = s.other_has in
        omega arith

    pub bad_after : Bad longer (length (lines text) + 1)
    bad_after =
        let number : length (lines text) ≡ length (lines text) + 1 - 1 = omega arith in
        record {
          not_whole = λ is. none_with longer is (shares_self (length (lines text) + 1) longer one_more);
          counted = omega arith;
          good = text;
          is_good = whole;
          before = subst (λ (n : ℕ). Shares n longer text) number (shares_part text longer text (lines (byte ∷ more)) [] longer_lines (sym (append-nil (lines text))));
          none = none_with;
        }

  -- ---- the board isn't at its end, and no step writes the next line

  module _ (go_on : TextsGoOn) (one : TextsAreOne) (lines_are : EntriesAreLines) (plain : JournalsHavePlainPaths)
      (texts : List (List ℕ)) (state : List (List ℤ)) (taken : List Step) (come : HasCome graphs kernels streams iterations workers texts state taken) where
    abbrev key : Key
    key = key_at graphs kernels streams workers (length texts) state

    abbrev so_far : List ℕ
    so_far = text_so_far key texts taken

    module _ (is : IsKey key) (laws : BoardLaws key) (not_ended : ¬ (HasEnded key taken)) (whole_lines : AreWholeLines so_far) where
      record Next (other : List ℕ) : Type 0 where
        rest : List ℕ
        by : GoesOnBy key is laws lines_are plain (length texts) taken rest
        other_is : other ≡ so_far ++ rest

      next_of : (other : List ℕ) → IsWhole other → Shares (length (lines so_far)) so_far other → Next other
      next_of other whole s = go g.steps g.ends.legal g.ends.ended g.text_is
        where
          g : GoesOn graphs kernels streams workers key texts taken other
          g = one graphs kernels streams iterations workers texts state taken other may come whole s

          go : (steps : List Step) → AreLegal key (taken ++ steps) → HasEnded key (taken ++ steps) → other ≡ text_so_far key texts (taken ++ steps) ++ joined g.later → Next other
          go [] legal ended text = absurd (not_ended (subst (HasEnded key) (append-nil taken) ended))
          go (e ∷ more) legal ended text =
              let b = by_next key is laws lines_are plain (length texts) taken e more legal (joined g.later) in
              let n : ℕ = length texts in
              let first : List ℕ = journal_text n (journal_of key (taken ++ e ∷ more)) in
              record {
                rest = b.0;
                by = b.1;
                other_is = text ∙ (append_assoc (joined texts) first (joined g.later) ∙ (ap (λ (t : List ℕ). joined texts ++ t) b.2 ∙ sym (append_assoc (joined texts) (journal_text n (journal_of key taken)) b.0)));
              }

      next_lines : (other : List ℕ) (x : Next other) → lines other ≡ lines so_far ++ entry_line (length texts) x.by.entry ∷ lines x.by.after
      next_lines other x = ap lines x.other_is ∙ (whole_lines x.rest ∙ ap (λ (l : Lines). lines so_far ++ l) (ap lines x.by.rest_is ∙ x.by.line_is))

      module _ (rest : List ℕ) (none_next : NoStepWrites key (length texts) taken (first_line rest)) where
        abbrev text : List ℕ
        text = so_far ++ rest

        text_lines : lines text ≡ lines so_far ++ lines rest
        text_lines = whole_lines rest

        abbrev L : ℕ
        L = length (lines so_far)

        none_with_part : (other : List ℕ) → IsWhole other → Shares (L + 1) text other → ⊥
        none_with_part other whole s =
            let h = has_part (L + 1) so_far text other (lines rest) text_lines (omega arith) s in
            let x = next_of other whole (part_shares so_far other h) in
            go rest refl x
          where
            go : (r : List ℕ) → rest ≡ r → Next other → ⊥
            go [] e x =
                let a = s.has in
                let b = ap (λ (l : Lines). length l) text_lines in
                let c = length-append (lines so_far) (lines rest) in
                let d = ap (λ (t : List ℕ). length (lines t)) e in
                omega arith
            go (byte ∷ more) e x =
                let f = lines_first byte more in
                let here : lines text ≡ lines so_far ++ first_line (byte ∷ more) ∷ f.0 = text_lines ∙ ap (λ (l : Lines). lines so_far ++ l) (ap lines e ∙ f.1) in
                let same = next_shared so_far text other (first_line (byte ∷ more)) (entry_line (length texts) x.by.entry) f.0 (lines x.by.after) here (next_lines other x) s in
                none_next x.by.step x.by.entry x.by.legal x.by.entered (ap first_line e ∙ same)

        not_whole_part : IsWhole text → ⊥
        not_whole_part whole = go rest refl
          where
            go : (r : List ℕ) → rest ≡ r → ⊥
            go [] e =
                let same : text ≡ so_far = ap (λ (t : List ℕ). so_far ++ t) e ∙ append-nil so_far in
                let h : Has so_far text = record { rest = lines rest; is = text_lines } in
                let x = next_of text whole (part_shares so_far text h) in
                let a = ap (λ (l : Lines). length l) (next_lines text x) in
                let b = length-append (lines so_far) (entry_line (length texts) x.by.entry ∷ lines x.by.after) in
                let c = ap (λ (t : List ℕ). length (lines t)) same in
                omega arith
            go (byte ∷ more) e =
                let f = lines_first byte more in
                let a = ap (λ (l : Lines). length l) text_lines in
                let b = length-append (lines so_far) (lines rest) in
                let c = ap (λ (l : Lines). length l) (ap lines e ∙ f.1) in
                none_with_part text whole (shares_self (L + 1) text (omega arith))

        pub bad_part : Bad text (L + 1)
        bad_part =
            let g = go_on graphs kernels streams iterations workers texts state taken may come in
            let number : L ≡ L + 1 - 1 = omega arith in
            record {
              not_whole = not_whole_part;
              counted = omega arith;
              good = so_far ++ g.0;
              is_good = g.1;
              before = subst (λ (n : ℕ). Shares n text (so_far ++ g.0)) number (shares_part so_far text (so_far ++ g.0) (lines rest) (lines g.0) text_lines (whole_lines g.0));
              none = none_with_part;
            }
