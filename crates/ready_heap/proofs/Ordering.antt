-- The order of numbers, from rows that were sorted.
use Rattle.std.proofs.Common.{◌≡◌, ◌≢◌, ℕ, zero, suc, ◌+◌, ◌-◌, ◌^◌, ◌<◌, ◌≤◌, ⊎_elim, List, [], ◌∷◌, ◌++◌, length, get_or, slice_index, IsPermutation, refl, sym, ap, ◌∙◌, subst, arith, false}
use Rattle.std.specs.Prelude.{nat_eq, All}
use Rattle.std.specs.List.{IsDistinct}
use Rattle.std.specs.List.Sorted.{IsNonDecreasingBy}
use Rattle.std.proofs.lemmas.Bool.{cases_lt, cases_eq, eqb-false, eq-eqb, ne_eqb}
use Rattle.std.proofs.lemmas.List.{get_or-map, length-map, ext_get_or, get_or_default, get_or_append_left, get_or_push, length_push}
use Rattle.std.proofs.lemmas.List.Sorted.{IsPermutation-map, Contains-permutation, All-permutation, length_permutation}
use Rattle.std.proofs.lemmas.Map.Keys.{IsDistinct-from_apart, IsDistinct-IsPermutation, apart_from_distinct}
use Rattle.ready_heap.specs.declared.ranking.Row.{Row}
use Rattle.ready_heap.specs.Ranks.{groups_in, keys_in, numbers_in, AreKeyed, NeighboursRise, IsStartIn, AreStartsIn, IsListing, at_place, AreRanks, IsRanking, AreStarts}
use Rattle.ready_heap.specs.Groups.{KeepsRanks}

-- ---- rows in the order of the numbers

abbrev pub no_row : Row
no_row = record { key = 0; group = 0; number = 0 }

pub none_keyed : (groups keys : List ℕ) → AreKeyed groups keys 0 []
none_keyed groups keys = record {
  long = refl;
  group = λ n d below. absurd (omega arith);
  key = λ n d below. absurd (omega arith);
  number = λ n d below. absurd (omega arith);
}

module _ (groups keys : List ℕ) (count : ℕ) (rows : List Row) (keyed : AreKeyed groups keys count rows) where
  pub one_more_keyed : (row : Row) → row.group ≡ slice_index groups count → row.key ≡ slice_index keys count → row.number ≡ count → AreKeyed groups keys (count + 1) (rows ++ row ∷ [])
  one_more_keyed row group_is key_is number_is = record {
    long = let l = keyed.long in length_push rows row ∙ (omega arith);
    group = λ n d below. ⊎_elim
        (λ (before : n < count). ap (λ (r : Row). r.group) (get_or_append_left rows (row ∷ []) d n (let l = keyed.long in omega arith)) ∙ keyed.group n d before)
        (λ (last : count ≤ n). let here : n ≡ count = omega arith in rw here (ap (λ (r : Row). r.group) (get_or_push rows row d count keyed.long) ∙ group_is))
        (cases_lt n count);
    key = λ n d below. ⊎_elim
        (λ (before : n < count). ap (λ (r : Row). r.key) (get_or_append_left rows (row ∷ []) d n (let l = keyed.long in omega arith)) ∙ keyed.key n d before)
        (λ (last : count ≤ n). let here : n ≡ count = omega arith in rw here (ap (λ (r : Row). r.key) (get_or_push rows row d count keyed.long) ∙ key_is))
        (cases_lt n count);
    number = λ n d below. ⊎_elim
        (λ (before : n < count). ap (λ (r : Row). r.number) (get_or_append_left rows (row ∷ []) d n (let l = keyed.long in omega arith)) ∙ keyed.number n d before)
        (λ (last : count ≤ n). let here : n ≡ count = omega arith in rw here (ap (λ (r : Row). r.number) (get_or_push rows row d count keyed.long) ∙ number_is))
        (cases_lt n count);
  }

  pub groups_are : count ≡ length groups → groups_in rows ≡ groups
  groups_are all =
      let l = keyed.long in
      let m = length-map rows (λ (row : Row). row.group) in
      ext_get_or 0 (groups_in rows) groups (omega arith) (λ n below.
      get_or-map (λ (row : Row). row.group) rows n no_row 0 (omega arith) ∙ keyed.group n no_row (omega arith))

  pub keys_are : count ≡ length keys → keys_in rows ≡ keys
  keys_are all =
      let l = keyed.long in
      let m = length-map rows (λ (row : Row). row.key) in
      ext_get_or 0 (keys_in rows) keys (omega arith) (λ n below.
      get_or-map (λ (row : Row). row.key) rows n no_row 0 (omega arith) ∙ keyed.key n no_row (omega arith))

-- ---- rows in the order of groups and keys

-- a row has the group and the key of its number, which is below a bound
record IsOwn (groups keys : List ℕ) (count : ℕ) (row : Row) : Type 0 where
  group : row.group ≡ slice_index groups row.number
  key : row.key ≡ slice_index keys row.number
  below : row.number < count

module _ (groups keys : List ℕ) (given rows : List Row) (keyed : AreKeyed groups keys (length groups) given) (same : IsPermutation given rows) where
  pub rows_long : length rows ≡ length groups
  rows_long = length_permutation given rows same ∙ keyed.long

  own_given : All (IsOwn groups keys (length groups)) given
  own_given n d below =
      let l = keyed.long in
      let number_is = keyed.number n d (omega arith) in
      record {
        group = keyed.group n d (omega arith) ∙ ap (slice_index groups) (sym number_is);
        key = keyed.key n d (omega arith) ∙ ap (slice_index keys) (sym number_is);
        below = omega arith;
      }

  own : All (IsOwn groups keys (length groups)) rows
  own = All-permutation (IsOwn groups keys (length groups)) given rows same own_given

  numbers_long : length (numbers_in rows) ≡ length groups
  numbers_long = length-map rows (λ (row : Row). row.number) ∙ rows_long

  number_at : (r : ℕ) (d : Row) → r < length rows → slice_index (numbers_in rows) r ≡ (get_or rows r d).number
  number_at r d below = get_or-map (λ (row : Row). row.number) rows r d 0 below

  group_at : (r : ℕ) (d : Row) → r < length rows → at_place groups (numbers_in rows) r ≡ (get_or rows r d).group
  group_at r d below = ap (slice_index groups) (number_at r d below) ∙ sym (own r d below).group

  key_at : (r : ℕ) (d : Row) → r < length rows → at_place keys (numbers_in rows) r ≡ (get_or rows r d).key
  key_at r d below = ap (slice_index keys) (number_at r d below) ∙ sym (own r d below).key

  given_number : (n : ℕ) → n < length groups → slice_index (numbers_in given) n ≡ n
  given_number n below =
      let l = keyed.long in
      get_or-map (λ (row : Row). row.number) given n no_row 0 (omega arith) ∙ keyed.number n no_row below

  same_numbers : IsPermutation (numbers_in given) (numbers_in rows)
  same_numbers = IsPermutation-map (λ (row : Row). row.number) given rows same

  given_long : length (numbers_in given) ≡ length groups
  given_long = length-map given (λ (row : Row). row.number) ∙ keyed.long

  differ : (a b : ℕ) → a ≢ b → nat_eq a b ≡ false
  differ a b apart = ne_eqb a b apart

  equal_test : (a b : ℕ) → nat_eq a b ≡ false → a ≢ b
  equal_test a b test is = eqb-false a b test is

  flips : (a b : ℕ) → nat_eq a b ≡ nat_eq b a
  flips a b = ⊎_elim
      (λ (same : a ≡ b). eq-eqb a b same ∙ sym (eq-eqb b a (sym same)))
      (λ (other : a ≢ b). ne_eqb a b other ∙ sym (ne_eqb b a (λ is. other (sym is))))
      (cases_eq a b)

  distinct : IsDistinct nat_eq (numbers_in rows)
  distinct = IsDistinct-IsPermutation nat_eq flips (numbers_in given) (numbers_in rows) same_numbers
      (IsDistinct-from_apart nat_eq (numbers_in given) (λ i j d up below.
      let l = given_long in
      let one = get_or_default (numbers_in given) i d 0 (omega arith) ∙ given_number i (omega arith) in
      let other = get_or_default (numbers_in given) j d 0 below ∙ given_number j (omega arith) in
      differ (get_or (numbers_in given) i d) (get_or (numbers_in given) j d) (λ is. let alike = is in omega arith)))

  pub listing : IsListing (length groups) (numbers_in rows)
  listing = record {
    long = numbers_long;
    below = λ r inside.
        let m = length-map rows (λ (row : Row). row.number) in
        let there : r < length rows = omega arith in
        let is = number_at r no_row there in
        let low = (own r no_row there).below in
        omega arith;
    all = λ n below.
        let l = given_long in
        let there : n < length (numbers_in given) = omega arith in
        let found = Contains-permutation (numbers_in given) (numbers_in rows) n same_numbers (n, there, get_or_default (numbers_in given) n n 0 there ∙ given_number n below) in
        (found.0, found.1, get_or_default (numbers_in rows) found.0 0 n found.1 ∙ found.2);
    once = λ r s r_in s_in is. ⊎_elim
        (λ (under : r < s). absurd (equal_test (slice_index (numbers_in rows) r) (slice_index (numbers_in rows) s) (apart_from_distinct nat_eq (numbers_in rows) r s 0 distinct under s_in) is))
        (λ (over : s ≤ r). ⊎_elim
        (λ (above : s < r). absurd (equal_test (slice_index (numbers_in rows) s) (slice_index (numbers_in rows) r) (apart_from_distinct nat_eq (numbers_in rows) s r 0 distinct above r_in) (sym is)))
        (λ (under : r ≤ s). omega arith)
        (cases_lt s r))
        (cases_lt r s);
  }

  module _ (groups_rise : IsNonDecreasingBy (λ (row : Row). row.group) rows) (neighbours : NeighboursRise rows) where
    -- the row so many places on has no lesser key, where it is of the same group
    keys_on : (d : Row) (r more : ℕ) → r + more < length rows → (get_or rows r d).group ≡ (get_or rows (r + more) d).group → (get_or rows r d).key ≤ (get_or rows (r + more) d).key
    keys_on d r zero inside is = let here : r + 0 ≡ r = omega arith in subst (λ k. (get_or rows r d).key ≤ (get_or rows k d).key) (sym here) (omega arith)
    keys_on d r (suc more) inside is =
        let next : r + suc more ≡ (r + more) + 1 = omega arith in
        let last_is : (get_or rows r d).group ≡ (get_or rows ((r + more) + 1) d).group = subst (λ k. (get_or rows r d).group ≡ (get_or rows k d).group) next is in
        let low = groups_rise r (r + more) d (omega arith) (omega arith) in
        let high = groups_rise (r + more) ((r + more) + 1) d (omega arith) (omega arith) in
        let before = keys_on d r more (omega arith) (omega arith) in
        let step = neighbours (r + more) d (omega arith) (omega arith) in
        subst (λ k. (get_or rows r d).key ≤ (get_or rows k d).key) (sym next) (omega arith)

    pub ranking : IsRanking groups keys (numbers_in rows)
    ranking = record {
      listing = listing;
      groups_rise = λ r s up inside.
          let m = length-map rows (λ (row : Row). row.number) in
          let s_in : s < length rows = omega arith in
          let r_in : r < length rows = omega arith in
          let one = group_at r no_row r_in in
          let other = group_at s no_row s_in in
          let rise = groups_rise r s no_row up s_in in
          omega arith;
      keys_rise = λ r s up inside is.
          let m = length-map rows (λ (row : Row). row.number) in
          let s_in : s < length rows = omega arith in
          let r_in : r < length rows = omega arith in
          let one = group_at r no_row r_in in
          let other = group_at s no_row s_in in
          let first = key_at r no_row r_in in
          let second = key_at s no_row s_in in
          let on : r + (s - r) ≡ s = omega arith in
          let rise = keys_on no_row r (s - r) (omega arith) (subst (λ k. (get_or rows r no_row).group ≡ (get_or rows k no_row).group) (sym on) (omega arith)) in
          let high : (get_or rows r no_row).key ≤ (get_or rows s no_row).key = subst (λ k. (get_or rows r no_row).key ≤ (get_or rows k no_row).key) on rise in
          omega arith;
    }

  pub starts_by_number : (starts : List ℕ) → AreStartsIn rows starts → AreStarts groups (numbers_in rows) starts
  starts_by_number starts are g inside =
      let start = are g inside in
      let m = length-map rows (λ (row : Row). row.number) in
      record {
        within = let within = start.within in omega arith;
        before = λ r below.
            let within = start.within in
            let is = group_at r no_row (omega arith) in
            let low = start.before r no_row below in
            omega arith;
        after = λ r above there.
            let r_in : r < length rows = omega arith in
            let is = group_at r no_row r_in in
            let high = start.after r no_row above r_in in
            omega arith;
      }

  -- each row is of a group below the bound, as each number is
  pub rows_below : (count : ℕ) → ((n : ℕ) → n < length groups → slice_index groups n < count) → All (λ (row : Row). row.group < count) rows
  rows_below count all r d inside =
      let mine = own r d inside in
      let is = mine.group in
      let low = all (get_or rows r d).number mine.below in
      omega arith

  -- ---- what is kept of them

  pub ranks_kept : IsNonDecreasingBy (λ (row : Row). row.group) rows → NeighboursRise rows → (numbers ranks starts : List ℕ) (count : ℕ) → numbers ≡ numbers_in rows → AreRanks numbers ranks → length starts ≡ count + 1 → AreStartsIn rows starts → ((n : ℕ) → n < length groups → slice_index groups n < count) → length keys ≡ length groups → length groups < 2 ^ 32 → KeepsRanks groups keys starts numbers ranks
  ranks_kept groups_rise neighbours numbers ranks starts count numbers_are ranks_are starts_long starts_are below keys_long few = subst (λ ns. KeepsRanks groups keys starts ns ranks) (sym numbers_are) (record {
    keys_long = keys_long;
    few = few;
    ranking = ranking groups_rise neighbours;
    ranks_are = subst (λ ns. AreRanks ns ranks) numbers_are ranks_are;
    starts_are = starts_by_number starts starts_are;
    some = omega arith;
    grouped = λ n inside. let low = below n inside in omega arith;
  })

-- the numbers at the first so many places have these ranks, and that is all of them
pub ranks_written : (numbers ranks : List ℕ) (count : ℕ) → length numbers ≤ count → IsListing (length numbers) numbers → length ranks ≡ length numbers → ((k : ℕ) → k < count → slice_index ranks (slice_index numbers k) ≡ k) → AreRanks numbers ranks
ranks_written numbers ranks count all listing long written =
    let rank_is : (n : ℕ) → n < length numbers → (r : ℕ) × (r < length numbers) × (slice_index numbers r ≡ n) × (slice_index ranks n ≡ r) = λ n inside.
    let found = listing.all n inside in
    (found.0, found.1, found.2, rw found.2 at (written found.0 (let low = found.1 in omega arith))) in
    record {
      long = long;
      below = λ n inside. let is = rank_is n (omega arith) in let low = is.1 in let at = is.3 in omega arith;
      number_at = λ n inside. let is = rank_is n (omega arith) in ap (slice_index numbers) is.3 ∙ is.2;
      rank_of = λ r inside. written r (omega arith);
    }

-- the first row that isn't of a lesser group
pub start_here : (rows : List Row) (group rank : ℕ) (d : Row) → rank < length rows → IsNonDecreasingBy (λ (row : Row). row.group) rows → ((r : ℕ) (e : Row) → r < rank → (get_or rows r e).group < group) → group ≤ (get_or rows rank d).group → IsStartIn rows group rank
start_here rows group rank d there rise before here = record {
  within = omega arith;
  before = before;
  after = λ r e up inside.
      let high = rise rank r e up inside in
      let same = ap (λ (row : Row). row.group) (get_or_default rows rank d e there) in
      omega arith;
}
