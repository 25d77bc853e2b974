-- A text has at most one verdict.
use Rattle.std.proofs.Common.{◌≡◌, ⊎_elim, ℕ, zero, suc, ◌-◌, ◌<◌, ◌≤◌, ℤ, List, [], ◌∷◌, length, take, refl, sym, ap, ◌∙◌, arith}
use Rattle.std.proofs.lemmas.Bool.{cases_lt}
use Rattle.kernel_gate.specs.Signed.{SignatureView}
use Rattle.pisdf_model.specs.declared.graph.Graphs.{Graphs}
use Rattle.pisdf_meaning.specs.Laws.{HasOneRun}
use Rattle.quiescent_driver.specs.Journals.{IsWholeText, boards}
use Rattle.journal_laws.specs.Lines.{Shares, lines}
use Rattle.journal_audit.specs.FirstBad.{IsFirstBad}
use Rattle.journal_audit.specs.Verdicts.{IsVerdict}
use Rattle.journal_audit.specs.declared.verdict.Verdict.{Verdict}
use Rattle.journal_audit.specs.declared.verdict.Verdict.TheVariants.{Legal, Illegal}

take_fewer : (m n : ℕ) (l : List (List ℕ)) → m ≤ n → take m (take n l) ≡ take m l
take_fewer zero n l le = refl
take_fewer (suc m) zero l le = absurd (omega arith)
take_fewer (suc m) (suc n) [] le = refl
take_fewer (suc m) (suc n) (x ∷ l) le = ap (λ (r : List (List ℕ)). x ∷ r) (take_fewer m n l (omega arith))

fewer : (m n : ℕ) (text other : List ℕ) → m ≤ n → Shares n text other → Shares m text other
fewer m n text other le s =
    let a = s.has in
    let b = s.other_has in
    record {
      has = omega arith;
      other_has = omega arith;
      same = sym (take_fewer m n (lines text) le) ∙ (ap (take m) s.same ∙ take_fewer m n (lines other) le);
    }

module _ (graphs : Graphs) (kernels : List SignatureView) (streams : List (List ℤ)) (iterations workers : ℕ) (law : HasOneRun graphs) (text : List ℕ) where
  abbrev Is : Verdict → Type 0
  Is verdict = IsVerdict graphs kernels streams iterations workers text verdict

  same_boards : (a b : IsWholeText graphs kernels streams iterations workers text) → length a.texts ≡ length b.texts
  same_boards a b = a.all ∙ (ap (boards graphs) (law streams iterations a.r b.r a.is_run b.is_run) ∙ sym b.all)

  not_later : (n m : ℕ) → IsFirstBad graphs kernels streams iterations workers text n → IsFirstBad graphs kernels streams iterations workers text m → n < m → ⊥
  not_later n m a b less = a.none b.good b.is_good (fewer n (m - 1) text b.good (omega arith) b.before)

  pub one_verdict : (one other : Verdict) → Is one → Is other → one ≡ other
  one_verdict (Legal b e) (Legal c f) is also =
      let many : b ≡ c = is.boards_are ∙ (same_boards is.whole also.whole ∙ sym also.boards_are) in
      let long : e ≡ f = is.entries_are ∙ sym also.entries_are in
      λ i. Legal (many i) (long i)
  one_verdict (Legal b e) (Illegal m) is also = absurd (also.not_whole is.whole)
  one_verdict (Illegal n) (Legal c f) is also = absurd (is.not_whole also.whole)
  one_verdict (Illegal n) (Illegal m) is also = ap Illegal
      (⊎_elim (λ (l : n < m). absurd (not_later n m is also l)) (λ (le : m ≤ n). ⊎_elim (λ (l : m < n). absurd (not_later m n also is l)) (λ (ge : n ≤ m). omega arith) (cases_lt m n)) (cases_lt n m))
