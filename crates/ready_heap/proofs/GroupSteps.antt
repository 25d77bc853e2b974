-- Which numbers are in, by the bits of their ranks.
use Rattle.std.proofs.Common.{◌≡◌, ◌≢◌, ℕ, ◌+◌, ◌-◌, ◌*◌, ◌/◌, ◌%◌, ◌^◌, ◌<◌, ◌≤◌, ⊎_elim, ◌↔◌, Bool, true, false, List, length, set, get_or, slice_index, replicate, IsTrue, refl, sym, ap, ◌∙◌, subst, arith}
use Rattle.std.specs.Prelude.{nat_eq, Some, None, Option, is_some, not}
use Rattle.std.specs.Int.{bit_at}
use Rattle.std.proofs.lemmas.Bool.{cases_lt, cases_eq, false≢true, eqb-true, eq-eqb, ne_eqb}
use Rattle.std.proofs.lemmas.Nat.Bits.{bit_at-zero}
use Rattle.std.proofs.lemmas.List.{length-map, length-set, length-replicate, get_or-map, get_or_past, get_or-set_same, get_or-set_other, get_or-replicate, ext_get_or}
use Rattle.ready_heap.specs.Heaps.{Holds}
use Rattle.ready_heap.specs.Bits.{IsSet, IsNext, Puts, IsSummary}
use Rattle.ready_heap.specs.Ranks.{at_place}
use Rattle.ready_heap.specs.Groups.{HeapsView, IsIn, IsLeastOf, is_set, held_by, KeepsRanks, KeepsBits}

-- ---- a bit and its test

one_test : (bit : ℕ) → bit ≡ 1 → nat_eq bit 1 ≡ true
one_test bit is = eq-eqb bit 1 is

test_one : (bit : ℕ) → nat_eq bit 1 ≡ true → bit ≡ 1
test_one bit is = eqb-true bit 1 is

other_test : (bit : ℕ) → (bit ≡ 1 → ⊥) → nat_eq bit 1 ≡ false
other_test bit is = ne_eqb bit 1 is

set_test : (words : List ℕ) (r : ℕ) → IsSet words r → is_set words r ≡ true
set_test words r is = one_test (bit_at (slice_index words (r / 64)) (r % 64)) is

test_set : (words : List ℕ) (r : ℕ) → is_set words r ≡ true → IsSet words r
test_set words r is = test_one (bit_at (slice_index words (r / 64)) (r % 64)) is

clear_test : (words : List ℕ) (r : ℕ) → (IsSet words r → ⊥) → is_set words r ≡ false
clear_test words r is = other_test (bit_at (slice_index words (r / 64)) (r % 64)) is

-- ---- which numbers are in

module _ (words ranks : List ℕ) where
  pub held_length : length (held_by words ranks) ≡ length ranks
  held_length = length-map ranks (λ rank. is_set words rank)

  held_is : (n : ℕ) → n < length ranks → get_or (held_by words ranks) n false ≡ is_set words (slice_index ranks n)
  held_is n inside = get_or-map (λ rank. is_set words rank) ranks n 0 false inside

  pub held_at : (n : ℕ) → Holds (held_by words ranks) n → (n < length ranks) × IsSet words (slice_index ranks n)
  held_at n holds = ⊎_elim
      (λ (inside : n < length ranks). (inside, test_set words (slice_index ranks n) (sym (held_is n inside) ∙ holds)))
      (λ (past : length ranks ≤ n). absurd (false≢true (sym (get_or_past (held_by words ranks) n false (let l = held_length in omega arith)) ∙ holds)))
      (cases_lt n (length ranks))

  pub at_held : (n : ℕ) → n < length ranks → IsSet words (slice_index ranks n) → Holds (held_by words ranks) n
  at_held n inside is = held_is n inside ∙ set_test words (slice_index ranks n) is

-- none is in where no bit is set
pub zero_clear : (count k : ℕ) → IsSet (replicate count 0) k → ⊥
zero_clear count k is =
    let none : slice_index (replicate count 0) (k / 64) ≡ 0 = ⊎_elim
    (λ (inside : k / 64 < count). get_or-replicate count (k / 64) 0 0 inside)
    (λ (past : count ≤ k / 64). get_or_past (replicate count 0) (k / 64) 0 (let l : length (replicate {A = ℕ} count 0) ≡ count = length-replicate count 0 in omega arith))
    (cases_lt (k / 64) count) in
    let one : bit_at 0 (k % 64) ≡ 1 = rw none at is in
    let zero_bit = bit_at-zero (k % 64) in
    omega arith

pub held_none : (count : ℕ) (ranks : List ℕ) → held_by (replicate count 0) ranks ≡ replicate (length ranks) false
held_none count ranks =
    let l = held_length (replicate count 0) ranks in
    let r = length-replicate (length ranks) false in
    ext_get_or false (held_by (replicate count 0) ranks) (replicate (length ranks) false) (l ∙ sym r) (λ n below.
    let inside : n < length ranks = omega arith in
    held_is (replicate count 0) ranks n inside ∙ (clear_test (replicate count 0) (slice_index ranks n) (zero_clear count (slice_index ranks n)) ∙ sym (get_or-replicate (length ranks) n false false inside)))

pub none_kept : (numbers words summary : List ℕ) (count short : ℕ) → words ≡ replicate count 0 → summary ≡ replicate short 0 → length numbers ≤ 64 * count → count ≤ 64 * short → count < 2 ^ 57 → short < 2 ^ 57 → KeepsBits numbers words summary
none_kept numbers words summary count short words_are summary_is wide over few small =
    let l : length words ≡ count = ap length words_are ∙ length-replicate count 0 in
    let s : length summary ≡ short = ap length summary_is ∙ length-replicate short 0 in
    let clear : (k : ℕ) → IsSet words k → ⊥ = λ k is. zero_clear count k (subst (λ ws. IsSet ws k) words_are is) in
    record {
      wide = omega arith;
      few = omega arith;
      short = omega arith;
      within = λ k is. absurd (clear k is);
      is_summary = record {
        wide = omega arith;
        some = λ w is. absurd (zero_clear short w (subst (λ ws. IsSet ws w) summary_is is));
        each = λ k is. absurd (clear k is);
      };
    }

-- ---- the groups

module _ (groups keys starts numbers ranks : List ℕ) (keeps : KeepsRanks groups keys starts numbers ranks) where
  pub ranks_long : length ranks ≡ length groups
  ranks_long = keeps.ranks_are.long ∙ keeps.ranking.listing.long

  -- the rank of a number lies in the range of its group
  rank_from : (g n : ℕ) → n < length groups → slice_index groups n ≡ g → slice_index starts g ≤ slice_index ranks n
  rank_from g n inside is = ⊎_elim
      (λ (under : slice_index ranks n < slice_index starts g).
      let grouped = keeps.grouped n inside in
      let low = (keeps.starts_are g (omega arith)).before (slice_index ranks n) under in
      let number_is = ap (slice_index groups) (keeps.ranks_are.number_at n (let l = ranks_long in omega arith)) in
      absurd (omega arith))
      (λ (up : slice_index starts g ≤ slice_index ranks n). up)
      (cases_lt (slice_index ranks n) (slice_index starts g))

  rank_to : (g n : ℕ) → n < length groups → slice_index groups n ≡ g → slice_index ranks n < slice_index starts (g + 1)
  rank_to g n inside is = ⊎_elim
      (λ (under : slice_index ranks n < slice_index starts (g + 1)). under)
      (λ (up : slice_index starts (g + 1) ≤ slice_index ranks n).
      let grouped = keeps.grouped n inside in
      let l = ranks_long in
      let high = (keeps.starts_are (g + 1) (omega arith)).after (slice_index ranks n) up (keeps.ranks_are.below n (omega arith)) in
      let number_is = ap (slice_index groups) (keeps.ranks_are.number_at n (omega arith)) in
      absurd (omega arith))
      (cases_lt (slice_index ranks n) (slice_index starts (g + 1)))

  -- and the number of a rank in that range is of the group
  rank_group : (g r : ℕ) → g + 1 < length starts → slice_index starts g ≤ r → r < slice_index starts (g + 1) → (r < length numbers) × (at_place groups numbers r ≡ g)
  rank_group g r inside up below =
      let within = (keeps.starts_are (g + 1) inside).within in
      let there : r < length numbers = omega arith in
      let low = (keeps.starts_are g (omega arith)).after r up there in
      let high = (keeps.starts_are (g + 1) inside).before r below in
      (there, omega arith)

  module _ (words summary : List ℕ) (bits : KeepsBits numbers words summary) where
    abbrev pub view : HeapsView
    view = record { groups = groups; keys = keys; held = held_by words ranks }

    -- a number that is in has the bit of its rank
    bit_of_in : (g n : ℕ) → IsIn view g n → (n < length groups) × IsSet words (slice_index ranks n)
    bit_of_in g n is =
        let held = held_at words ranks n is.held in
        let l = ranks_long in
        let inside = held.0 in
        (omega arith, held.1)

    -- a rank whose bit is set is that of a number that is in
    pub in_of_bit : (r : ℕ) → IsSet words r → Holds (held_by words ranks) (slice_index numbers r)
    in_of_bit r is =
        let inside = bits.within r is in
        let low = keeps.ranking.listing.below r inside in
        let l = ranks_long in
        at_held words ranks (slice_index numbers r) (omega arith) (subst (IsSet words) (sym (keeps.ranks_are.rank_of r inside)) is)

    pub past_groups : (g : ℕ) → length starts - 1 ≤ g → IsLeastOf view g None
    past_groups g past n is =
        let here = bit_of_in g n is in
        let grouped = keeps.grouped n here.0 in
        let group_is = is.group_is in
        let some = keeps.some in
        omega arith

    module _ (g : ℕ) (inside : g + 1 < length starts) where
      pub none_next : IsNext words (slice_index starts g) None → IsLeastOf view g None
      none_next none n is =
          let here = bit_of_in g n is in
          none (slice_index ranks n) (rank_from g n here.0 is.group_is) here.1

      pub next_past : (r : ℕ) → IsNext words (slice_index starts g) (Some r) → slice_index starts (g + 1) ≤ r → IsLeastOf view g None
      next_past r next past n is =
          let here = bit_of_in g n is in
          let to = rank_to g n here.0 is.group_is in
          next.2 (slice_index ranks n) (rank_from g n here.0 is.group_is) (omega arith) here.1

      pub next_least : (r : ℕ) → IsNext words (slice_index starts g) (Some r) → r < slice_index starts (g + 1) → IsLeastOf view g (Some (slice_index numbers r))
      next_least r next below =
          let there = rank_group g r inside next.0 below in (
            record { held = in_of_bit r next.1; group_is = there.1 },
            λ m is.
                let here = bit_of_in g m is in
                let l = ranks_long in
                let m_in : m < length ranks = (let low = here.0 in omega arith) in
                let number_is = keeps.ranks_are.number_at m m_in in
                let up : r ≤ slice_index ranks m = ⊎_elim
                (λ (under : slice_index ranks m < r). absurd (next.2 (slice_index ranks m) (rank_from g m here.0 is.group_is) under here.1))
                (λ (above : r ≤ slice_index ranks m). above)
                (cases_lt (slice_index ranks m) r) in
                let rise = keeps.ranking.keys_rise r (slice_index ranks m) up (keeps.ranks_are.below m m_in) (there.1 ∙ sym (ap (slice_index groups) number_is ∙ is.group_is)) in
                subst (λ k. slice_index keys (slice_index numbers r) ≤ slice_index keys k) number_is rise,
          )

    pub next_inside : (g r : ℕ) → IsNext words (slice_index starts g) (Some r) → r < length numbers
    next_inside g r next = bits.within r next.1

    pub none_in : IsNext words 0 None → (n : ℕ) → Holds (held_by words ranks) n → ⊥
    none_in none n holds =
        let held = held_at words ranks n holds in
        none (slice_index ranks n) (omega arith) held.1

    pub empty_of : (result : Option ℕ) (empty : Bool) → is_some result ≡ not empty → IsNext summary 0 result → IsTrue empty ↔ ((n : ℕ) → Holds (held_by words ranks) n → ⊥)
    empty_of None true is none = ((λ yes n holds. none_in (λ k up set. none (k / 64) (omega arith) (bits.is_summary.each k set)) n holds), (λ all. refl))
    empty_of None false is none = absurd (false≢true is)
    empty_of (Some r) true is next = absurd (false≢true (sym is))
    empty_of (Some r) false is next =
        let one = bits.is_summary.some r next.1 in ((λ yes. absurd (false≢true yes)), (λ all. absurd (all (slice_index numbers one.0) (in_of_bit one.0 one.2))))

    -- ---- a bit is set or cleared

    module _ (n : ℕ) (inside : n < length ranks) (on : Bool) (new newer : List ℕ) (put : Puts (slice_index ranks n) on words new) (is_summary : IsSummary new newer) (as_short : length newer ≡ length summary) where
      abbrev rank : ℕ
      rank = slice_index ranks n

      pub bits_after : KeepsBits numbers new newer
      bits_after =
          let low = keeps.ranks_are.below n inside in
          let l = put.long in
          let few = bits.few in
          let short = bits.short in
          let wide = bits.wide in
          record {
            wide = omega arith;
            few = omega arith;
            short = omega arith;
            within = λ k is. ⊎_elim
                (λ (here : k ≡ rank). omega arith)
                (λ (other : k ≢ rank). bits.within k ((put.others k other).0 is))
                (cases_eq k rank);
            is_summary = is_summary;
          }

      here_now : (b : Bool) → b ≡ on → is_set new rank ≡ b
      here_now true is = set_test new rank (put.here.1 (sym is))
      here_now false is = clear_test new rank (λ now. false≢true (is ∙ put.here.0 now))

      others_now : (r : ℕ) → r ≢ rank → is_set new r ≡ is_set words r
      others_now r other = ⊎_elim
          (λ (one : bit_at (slice_index words (r / 64)) (r % 64) ≡ 1). set_test new r ((put.others r other).1 one) ∙ sym (set_test words r one))
          (λ (none : bit_at (slice_index words (r / 64)) (r % 64) ≢ 1). clear_test new r (λ now. none ((put.others r other).0 now)) ∙ sym (clear_test words r none))
          (cases_eq (bit_at (slice_index words (r / 64)) (r % 64)) 1)

      pub held_after : held_by new ranks ≡ set (held_by words ranks) n on
      held_after =
          let l = held_length new ranks in
          let o = held_length words ranks in
          let s = length-set (held_by words ranks) n on in
          ext_get_or false (held_by new ranks) (set (held_by words ranks) n on) (l ∙ sym (s ∙ o)) (λ m below.
          let m_in : m < length ranks = omega arith in ⊎_elim
          (λ (same : m ≡ n). subst (λ k. get_or (held_by new ranks) k false ≡ get_or (set (held_by words ranks) n on) k false) (sym same)
          (held_is new ranks n inside ∙ (here_now on refl ∙ sym (get_or-set_same (held_by words ranks) n on false (omega arith)))))
          (λ (differs : m ≢ n).
          let apart : slice_index ranks m ≢ rank = λ is. differs (sym (keeps.ranks_are.number_at m m_in) ∙ (ap (slice_index numbers) is ∙ keeps.ranks_are.number_at n inside)) in
          held_is new ranks m m_in ∙ (others_now (slice_index ranks m) apart ∙ (sym (held_is words ranks m m_in) ∙ sym (get_or-set_other (held_by words ranks) n m on false differs))))
          (cases_eq m n))
