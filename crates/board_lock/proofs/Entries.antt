-- The entries of one number, in a longer list.
use Rattle.std.proofs.Common.{◌≡◌, ◌≢◌, ◌≤◌, ℕ, suc, Bool, true, false, cond, eqb, eq-eqb, ne_eqb, List, [], ◌∷◌, ◌++◌, length, drop, All, refl, sym, ◌∙◌, ap, arith, append_assoc, append-nil}
use Rattle.std.proofs.Math.Seq.{drop-append_seam}
use Rattle.std.proofs.lemmas.List.{append_cancel_left, drop-append-le}
use Rattle.board_lock.specs.Meant.{entries_of, Begins}

empty_right : {E : Type 0} (xs ys : List E) → xs ++ ys ≡ [] → ys ≡ []
empty_right [] ys e = e
empty_right (x ∷ xs) ys e = cc

module _ {E : Type 0} (worker : E → ℕ) where
  pub entries-append : (n : ℕ) (xs ys : List E) → entries_of worker n (xs ++ ys) ≡ entries_of worker n xs ++ entries_of worker n ys
  entries-append n [] ys = refl
  entries-append n (x ∷ xs) ys =
      elim (eqb (worker x) n) as (λ b. cond b (x ∷ entries_of worker n (xs ++ ys)) (entries_of worker n (xs ++ ys)) ≡ cond b (x ∷ entries_of worker n xs) (entries_of worker n xs) ++ entries_of worker n ys)
      [ true ↦ ap (λ (l : List E). x ∷ l) (entries-append n xs ys) | false ↦ entries-append n xs ys ]

  pub entries_mine : (n : ℕ) (xs : List E) → All (λ e. worker e ≡ n) xs → entries_of worker n xs ≡ xs
  entries_mine n [] all = refl
  entries_mine n (x ∷ xs) all =
      rw (eq-eqb (worker x) n (all 0 x (omega arith))) (ap (λ (l : List E). x ∷ l) (entries_mine n xs (λ k d lt. all (suc k) d (omega arith))))

  pub entries_other : (n l : ℕ) (xs : List E) → All (λ e. worker e ≡ l) xs → n ≢ l → entries_of worker n xs ≡ []
  entries_other n l [] all other = refl
  entries_other n l (x ∷ xs) all other =
      let here : worker x ≡ l = all 0 x (omega arith) in
      let not : worker x ≢ n = λ e. other (sym e ∙ here) in
      rw (ne_eqb (worker x) n not) (entries_other n l xs (λ k d lt. all (suc k) d (omega arith)) other)

  -- where a beginning of a list has all entries of a number, each longer beginning has
  pub entries_within : (n : ℕ) (zs xs ys a b : List E) → zs ≡ xs ++ a → zs ≡ ys ++ b → length xs ≤ length ys → entries_of worker n xs ≡ entries_of worker n zs → entries_of worker n ys ≡ entries_of worker n zs
  entries_within n zs xs ys a b first second longer all =
      let middle : List E = drop (length xs) ys in
      let cut : a ≡ middle ++ b = sym (drop-append_seam xs a) ∙ (ap (drop (length xs)) (sym first ∙ second) ∙ drop-append-le (length xs) ys b longer) in
      let none : entries_of worker n a ≡ [] = append_cancel_left (entries_of worker n xs) (entries_of worker n a) [] (sym (entries-append n xs a) ∙ (ap (entries_of worker n) (sym first) ∙ (sym all ∙ sym (append-nil (entries_of worker n xs))))) in
      let last : entries_of worker n b ≡ [] = empty_right (entries_of worker n middle) (entries_of worker n b) (sym (entries-append n middle b) ∙ (ap (entries_of worker n) (sym cut) ∙ none)) in
      sym (ap (entries_of worker n) second ∙ (entries-append n ys b ∙ (ap (λ (l : List E). entries_of worker n ys ++ l) last ∙ append-nil (entries_of worker n ys))))

pub begins_more : {E : Type 0} (xs ys zs : List E) → Begins xs ys → Begins xs (ys ++ zs)
begins_more xs ys zs b = (b.0 ++ zs, ap (λ (l : List _). l ++ zs) b.1 ∙ append_assoc xs b.0 zs)
