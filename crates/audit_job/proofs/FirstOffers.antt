-- The first of what is offered, one item after the other.
use Rattle.std.proofs.Common.{◌≡◌, ◌≢◌, ℕ, ◌+◌, ◌<◌, nat_lt, not, ◌&&◌, Bool, true, false, refl, sym, ap, ◌∙◌, subst, arith, ⊎_elim, []}
use Rattle.std.specs.Prelude.{List, slice_index}
use Rattle.std.proofs.lemmas.Bool.{cases_eq, cases_lt}
use Rattle.nested_jobs.specs.Pick.{decide, is_more_urgent}
use Rattle.board_rules.specs.Asking as board
use Rattle.board_rules.specs.Asking.{goes_first}
use Rattle.board_rules.specs.Picks.{Standing, goes_before}
use Rattle.board_rules.proofs.Ordering.{standings_ordered}
use Rattle.audit_job.specs.Offering.{GoesFirst}

abbrev stand : board.Offer → Standing
stand o = record { opens = false; depth = 0; away = o.away; urgency = o.urgency; path = []; number = o.item; within = [] }

last_rule : (x y : Bool) → x ≡ decide x y false
last_rule true y = refl
last_rule false true = refl
last_rule false false = refl

as_standing : (a b : board.Offer) → goes_first a b ≡ goes_before (stand a) (stand b)
as_standing a b =
    ap (λ z. decide (not a.away && b.away) (a.away && not b.away) (decide (is_more_urgent a.urgency b.urgency) (is_more_urgent b.urgency a.urgency) z)) (last_rule (nat_lt a.item b.item) (nat_lt b.item a.item))

through : (a b c : board.Offer) → goes_first a b ≡ true → goes_first b c ≡ true → goes_first a c ≡ true
through a b c one other = as_standing a c ∙ standings_ordered.through (stand a) (stand b) (stand c) (sym (as_standing a b) ∙ one) (sym (as_standing b c) ∙ other)

-- of two items one goes first
pub one_first : (a b : board.Offer) → a.item ≢ b.item → goes_first a b ≡ false → goes_first b a ≡ true
one_first a b differs not = go (goes_first b a) refl
  where
    go : (x : Bool) → goes_first b a ≡ x → goes_first b a ≡ true
    go true e = e
    go false e = absurd (differs (ap (λ (s : Standing). s.number) (standings_ordered.same (stand a) (stand b) (sym (as_standing a b) ∙ not) (sym (as_standing b a) ∙ e))))

module _ (P : ℕ → Type 0) (at : ℕ → board.Offer) (own : (i : ℕ) → (at i).item ≡ i) (items : List ℕ) where
  abbrev item : ℕ → ℕ
  item k = slice_index items k

  same_item : (j k : ℕ) → j ≡ k → item j ≡ item k
  same_item j k same = ap item same

  pub none_more : (n : ℕ) → ((k : ℕ) → k < n → ¬ (P (item k))) → ¬ (P (item n)) → (k : ℕ) → k < n + 1 → ¬ (P (item k))
  none_more n none lacks k below holds = ⊎_elim
      (λ (less : k < n). none k less holds)
      (λ more. let e : k ≡ n = omega arith in lacks (subst P (same_item k n e) holds))
      (cases_lt k n)

  pub still : (n : ℕ) (o : board.Offer) → GoesFirst P at items n o → ¬ (P (item n)) → GoesFirst P at items (n + 1) o
  still n o best lacks = record {
    holds = best.holds;
    is = best.is;
    first = λ k below holds differs. ⊎_elim
        (λ (less : k < n). best.first k less holds differs)
        (λ more. let e : k ≡ n = omega arith in absurd (lacks (subst P (same_item k n e) holds)))
        (cases_lt k n);
  }

  pub found : (n : ℕ) → ((k : ℕ) → k < n → ¬ (P (item k))) → P (item n) → GoesFirst P at items (n + 1) (at (item n))
  found n none holds =
      let e = own (item n) in
      record {
        holds = subst P (sym e) holds;
        is = ap at (sym e);
        first = λ k below other differs. ⊎_elim
            (λ (less : k < n). absurd (none k less other))
            (λ more. let f : k ≡ n = omega arith in absurd (differs (same_item k n f ∙ sym e)))
            (cases_lt k n);
      }

  pub stays : (n : ℕ) (o : board.Offer) → GoesFirst P at items n o → goes_first (at (item n)) o ≡ false → GoesFirst P at items (n + 1) o
  stays n o best after = record {
    holds = best.holds;
    is = best.is;
    first = λ k below other differs. ⊎_elim
        (λ (less : k < n). best.first k less other differs)
        (λ more.
        let f : n ≡ k = omega arith in
        let apart : (at (item n)).item ≢ o.item = λ same. absurd (differs (sym (same_item n k f) ∙ sym (own (item n)) ∙ same)) in
        subst (λ (i : ℕ). goes_first o (at i) ≡ true) (same_item n k f) (one_first (at (item n)) o apart after))
        (cases_lt k n);
  }

  pub gives_way : (n : ℕ) (o : board.Offer) → GoesFirst P at items n o → P (item n) → goes_first (at (item n)) o ≡ true → GoesFirst P at items (n + 1) (at (item n))
  gives_way n o best holds before =
      let e = own (item n) in
      record {
        holds = subst P (sym e) holds;
        is = ap at (sym e);
        first = λ k below other differs. ⊎_elim
            (λ (less : k < n). ⊎_elim
            (λ (same : item k ≡ o.item). subst (λ (x : board.Offer). goes_first (at (item n)) x ≡ true) (best.is ∙ ap at (sym same)) before)
            (λ (apart : item k ≢ o.item). through (at (item n)) o (at (item k)) before (best.first k less other apart))
            (cases_eq (item k) o.item))
            (λ more. let f : k ≡ n = omega arith in absurd (differs (same_item k n f ∙ sym e)))
            (cases_lt k n);
      }
