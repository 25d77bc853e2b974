-- The best of the rows before one gives way to what this one offers, or stays.
use Rattle.std.proofs.Common.{◌≡◌, ◌≢◌, ℕ, ◌+◌, ◌<◌, ⊎_elim, Bool, true, false, Option, Some, None, List, length, refl, sym, ◌∙◌, subst, arith}
use Rattle.std.proofs.lemmas.Bool.{cases_eq, cases_lt}
use Rattle.board_rules.proofs.Ordering.{standings_ordered}
use Rattle.graph_firing.specs.declared.offer.Offer.{Offer}
use Rattle.firing_board.specs.Table.AskedRows.{Follows, GivesWayTo, IsBest, IsBestOf, IsFirstOf, better, first_of_two, goes_before_in, row_in, standing_of, stands_before}
use Rattle.firing_board.specs.declared.table.pick.Asked.{Asked}
use Rattle.firing_board.specs.declared.table.row.Row.{Row}

-- ---- the order

in_apart : (r : Option Row) (a : Offer) → goes_before_in r a r a ≡ false
in_apart None a = refl
in_apart (Some row) a = standings_ordered.apart (standing_of row a)

in_through : (r s t : Option Row) (a b c : Offer) → goes_before_in r a s b ≡ true → goes_before_in s b t c ≡ true → goes_before_in r a t c ≡ true
in_through None s t a b c one other = absurd (cc)
in_through (Some x) None t a b c one other = absurd (cc)
in_through (Some x) (Some y) None a b c one other = absurd (cc)
in_through (Some x) (Some y) (Some z) a b c one other = standings_ordered.through (standing_of x a) (standing_of y b) (standing_of z c) one other

not_both : (x : Bool) → x ≡ true → x ≡ false → ⊥
not_both x one other = let no : true ≡ false = sym one ∙ other in cc

module _ (rows : List (Option Row)) where
  abbrev before : Asked → Asked → Bool
  before a b = stands_before rows a b

  through : (a b c : Asked) → before a b ≡ true → before b c ≡ true → before a c ≡ true
  through a b c = in_through (row_in rows a.row) (row_in rows b.row) (row_in rows c.row) a.offer b.offer c.offer

  -- of two of which one goes before the other, the other doesn't go before the one
  not_back : (a b : Asked) → before a b ≡ true → before b a ≡ false
  not_back a b is = go (before b a) refl
    where
      go : (x : Bool) → before b a ≡ x → before b a ≡ false
      go false e = e
      go true e = absurd (not_both (before a a) (through a b a is e) (in_apart (row_in rows a.row) a.offer))

  -- what doesn't go before the one doesn't go before what goes before it
  not_more : (a b c : Asked) → before a b ≡ true → before c b ≡ false → before c a ≡ false
  not_more a b c is not = go (before c a) refl
    where
      go : (x : Bool) → before c a ≡ x → before c a ≡ false
      go false e = e
      go true e = absurd (not_both (before c b) (through c a b e is) not)

  follows_more : (a b : Asked) → before a b ≡ true → (o : Option Asked) → Follows rows b o → Follows rows a o
  follows_more a b is None follows = tt
  follows_more a b is (Some c) follows = not_more a b c is follows

  -- ---- the rows

  module _ (w : ℕ) (calls : Bool) where
    abbrev First : ℕ → Option Asked → Type 0
    First k answer = IsFirstOf w calls k (row_in rows k) answer

    abbrev Best : ℕ → Option Asked → Type 0
    Best n answer = IsBestOf w calls rows n answer

    -- what a row offers has its key
    key_is : (k : ℕ) (a : Asked) (r : Option Row) → IsFirstOf w calls k r (Some a) → a.row ≡ k
    key_is k a None first = absurd (cc)
    key_is k a (Some row) first = first.0

    at_own : (n : ℕ) (a : Asked) → First n (Some a) → (a.row ≡ n) × First a.row (Some a)
    at_own n a first =
        let e = key_is n a (row_in rows n) first in
        (e, subst (λ (l : ℕ). First l (Some a)) (sym e) first)

    below_or : (P : ℕ → Type 0) (n k : ℕ) → k < n + 1 → (k < n → P k) → P n → P k
    below_or P n k low below last = ⊎_elim
        (λ (less : k < n). below less)
        (λ more. let e : n ≡ k = omega arith in subst P e last)
        (cases_lt k n)

    -- none before, and this is the first
    found : (n : ℕ) (a : Asked) → ((k : ℕ) → k < n → First k None) → First n (Some a) → IsBest w calls rows (n + 1) a
    found n a none first =
        let own = at_own n a first in
        let e = own.0 in
        record {
          below = omega arith;
          is_first = own.1;
          others = λ k low differs. ⊎_elim
              (λ (less : k < n). record { answer = None; is_first = none k less; follows = tt })
              (λ more. absurd (differs (omega arith)))
              (cases_lt k n);
        }

    -- the best so far stays
    stays : (n : ℕ) (a : Asked) (answer : Option Asked) → IsBest w calls rows n a → First n answer → Follows rows a answer → IsBest w calls rows (n + 1) a
    stays n a answer best first follows =
        let low = best.below in
        record {
          below = omega arith;
          is_first = best.is_first;
          others = λ k less differs. below_or (λ (l : ℕ). l ≢ a.row → GivesWayTo w calls rows a l) n k less (λ lower other. best.others k lower other) (λ other. record { answer = answer; is_first = first; follows = follows }) differs;
        }

    -- the best so far gives way
    gives_way : (n : ℕ) (a b : Asked) → IsBest w calls rows n a → First n (Some b) → before b a ≡ true → IsBest w calls rows (n + 1) b
    gives_way n a b best first is =
        let own = at_own n b first in
        let e = own.0 in
        record {
          below = omega arith;
          is_first = own.1;
          others = λ k less differs. ⊎_elim
              (λ (lower : k < n). at k lower)
              (λ more. absurd (differs (omega arith)))
              (cases_lt k n);
        }
      where
        at : (k : ℕ) → k < n → GivesWayTo w calls rows b k
        at k lower = ⊎_elim
            (λ (same : k ≡ a.row). record { answer = Some a; is_first = subst (λ (l : ℕ). First l (Some a)) (sym same) best.is_first; follows = not_back b a is })
            (λ (other : k ≢ a.row). let rest = best.others k lower other in record { answer = rest.answer; is_first = rest.is_first; follows = follows_more b a is rest.answer rest.follows })
            (cases_eq k a.row)

    pub goes_on : (n : ℕ) (best next : Option Asked) → Best n best → First n next → Best (n + 1) (better rows best next)
    goes_on n None None best next = λ k low. below_or (λ (l : ℕ). First l None) n k low (best k) next
    goes_on n None (Some a) best next = found n a best next
    goes_on n (Some a) None best next = stays n a None best next tt
    goes_on n (Some a) (Some b) best next = go (before b a) refl
      where
        go : (x : Bool) → before b a ≡ x → IsBest w calls rows (n + 1) (first_of_two rows a b)
        go true e = subst (λ (z : Asked). IsBest w calls rows (n + 1) z) (sym (rw e refl)) (gives_way n a b best next e)
        go false e = subst (λ (z : Asked). IsBest w calls rows (n + 1) z) (sym (rw e refl)) (stays n a (Some b) best next e)

    -- of one row it is what that row offers
    pub alone : length rows ≡ 1 → (answer : Option Asked) → First 0 answer → Best (length rows) answer
    alone one answer first = subst (λ (n : ℕ). Best n answer) (sym one) (goes_on 0 None answer (λ k low. absurd (omega arith)) first)
