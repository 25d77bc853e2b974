-- The least offset as one placed buffer after another is passed.
use Rattle.std.proofs.Common.{◌≡◌, ℕ, ◌+◌, ◌-◌, ◌^◌, ◌<◌, ◌≤◌, ⊎_elim, List, ◌++◌, length, get_or, All, Any, refl, ◌∙◌, arith}
use Rattle.std.proofs.lemmas.Bool.{cases_lt}
use Rattle.std.proofs.lemmas.List.{get_or_default, get_or_append_left, get_or-append_right, length-append}
use Rattle.placement.specs.Placing.{IsOpenTo, IsBehind, ArePassed, Blocks}
use Rattle.placement.specs.declared.gap.Placed.{Placed}

pub any_left : {A : Type 0} (P : A → Type 0) (xs ys : List A) → Any P xs → Any P (xs ++ ys)
any_left P xs ys any =
    let h = any.2 in
    (any.0, any.1, rw length-append (omega arith), get_or_append_left xs ys any.1 any.0 any.2 ∙ any.3, any.4)

pub any_right : {A : Type 0} (P : A → Type 0) (xs ys : List A) → Any P ys → Any P (xs ++ ys)
any_right P xs ys any =
    let h = any.2 in
    let here : length xs + any.0 - length xs ≡ any.0 = omega arith in
    (length xs + any.0, any.1, rw length-append (omega arith), (rw here at (get_or-append_right xs ys (length xs) (length xs + any.0) any.1 refl (omega arith))) ∙ any.3, any.4)

pub all_left : {A : Type 0} (P : A → Type 0) (xs ys : List A) → All P (xs ++ ys) → All P xs
all_left P xs ys all = λ k d inside. rw (get_or_append_left xs ys d k inside) at (all k d (rw length-append (omega arith)))

pub all_right : {A : Type 0} (P : A → Type 0) (xs ys : List A) → All P (xs ++ ys) → All P ys
all_right P xs ys all = λ k d inside.
    let here : length xs + k - length xs ≡ k = omega arith in
    let moved = rw here at (get_or-append_right xs ys (length xs) (length xs + k) d refl (omega arith)) in
    rw moved at (all (length xs + k) d (rw length-append (omega arith)))

module _ (Others : ℕ → Type 0) (size : ℕ) where
  module _ (placed : List Placed) where
    -- from an offset up to this one some of the others is in the way, and those passed end at or below it
    pub record OffsetSoFar (start i offset : ℕ) : Type 0 where
      pub passed : ArePassed Others placed i offset
      pub blocked : (lower : ℕ) → start ≤ lower → lower < offset → Any (Blocks Others size lower) placed
      pub up : start ≤ offset
      pub room : offset + size < 2 ^ 32

    -- the buffer at i begins behind the gap
    pub free_before : (words i offset : ℕ) (d : Placed) → IsOpenTo words size placed → ArePassed Others placed i offset → offset + size ≤ (get_or placed i d).offset → All (λ (p : Placed). Blocks Others size offset p → ⊥) placed
    free_before words i offset d open_ passed gap = λ k e inside blocks. ⊎_elim
        (λ (before : k < i). let low = passed k e before blocks.0 in let high = blocks.2 in omega arith)
        (λ (behind : i ≤ k).
        let rises = open_.rising i k d behind inside in
        let same = get_or_default placed k d e inside in
        let late : (get_or placed i d).offset ≤ (get_or placed k e).offset = rw same at rises in
        let reaches = blocks.1 in omega arith)
        (cases_lt k i)

    pub free_at_end : (i offset : ℕ) → length placed ≤ i → ArePassed Others placed i offset → All (λ (p : Placed). Blocks Others size offset p → ⊥) placed
    free_at_end i offset all passed = λ k e inside blocks. let low = passed k e (omega arith) blocks.0 in let high = blocks.2 in omega arith

    pub passed_at_end : (i offset : ℕ) → length placed ≤ i → ArePassed Others placed i offset → ArePassed Others placed (length placed) offset
    passed_at_end i offset all passed = λ k e below related. passed k e (omega arith) related

    pub passed_higher : (i offset higher : ℕ) → offset ≤ higher → ArePassed Others placed i offset → ArePassed Others placed i higher
    passed_higher i offset higher up passed = λ k e below related. let low = passed k e below related in omega arith

    module _ (i offset next : ℕ) (d : Placed) (inside : i < length placed) (behind : IsBehind Others (get_or placed i d) offset next) where
      pub no_lower : offset ≤ next
      no_lower = ⊎_elim
          (λ (over : Others (get_or placed i d).number × (offset < (get_or placed i d).end) × (next ≡ (get_or placed i d).end)). let h = over.1 in let e = over.2 in omega arith)
          (λ (by : (Others (get_or placed i d).number → (get_or placed i d).end ≤ offset) × (next ≡ offset)). let e = by.1 in omega arith)
          behind

      ends_by : Others (get_or placed i d).number → (get_or placed i d).end ≤ next
      ends_by related = ⊎_elim
          (λ (over : Others (get_or placed i d).number × (offset < (get_or placed i d).end) × (next ≡ (get_or placed i d).end)). let e = over.2 in omega arith)
          (λ (by : (Others (get_or placed i d).number → (get_or placed i d).end ≤ offset) × (next ≡ offset)). let low = by.0 related in let e = by.1 in omega arith)
          behind

      pub passed_more : ArePassed Others placed i offset → ArePassed Others placed (i + 1) next
      passed_more passed = λ k e below related. ⊎_elim
          (λ (before : k < i). let low = passed k e before related in let up = no_lower in omega arith)
          (λ (last : i ≤ k).
          let here : k ≡ i = omega arith in
          let same = get_or_default placed i e d inside in
          rw (here, same) (ends_by (rw (here, same) at related)))
          (cases_lt k i)

      pub blocked_up_to : (get_or placed i d).offset < offset + size → (lower : ℕ) → offset ≤ lower → lower < next → Any (Blocks Others size lower) placed
      blocked_up_to begins lower low below = ⊎_elim
          (λ (over : Others (get_or placed i d).number × (offset < (get_or placed i d).end) × (next ≡ (get_or placed i d).end)).
          let e = over.2 in
          (i, get_or placed i d, inside, get_or_default placed i (get_or placed i d) d inside, (over.0, omega arith, omega arith)))
          (λ (by : (Others (get_or placed i d).number → (get_or placed i d).end ≤ offset) × (next ≡ offset)). let e = by.1 in absurd (omega arith))
          behind

      pub has_room : (words : ℕ) → IsOpenTo words size placed → offset + size < 2 ^ 32 → next + size < 2 ^ 32
      has_room words open_ room = ⊎_elim
          (λ (over : Others (get_or placed i d).number × (offset < (get_or placed i d).end) × (next ≡ (get_or placed i d).end)). let r = open_.room i d inside in let e = over.2 in omega arith)
          (λ (by : (Others (get_or placed i d).number → (get_or placed i d).end ≤ offset) × (next ≡ offset)). let e = by.1 in omega arith)
          behind

      pub one_more : (words start : ℕ) → IsOpenTo words size placed → (get_or placed i d).offset < offset + size → OffsetSoFar start i offset → OffsetSoFar start (i + 1) next
      one_more words start open_ begins so_far = record {
        passed = passed_more so_far.passed;
        blocked = λ lower low below. ⊎_elim
            (λ (before : lower < offset). so_far.blocked lower low before)
            (λ (later : offset ≤ lower). blocked_up_to begins lower later below)
            (cases_lt lower offset);
        up = let u = so_far.up in let n = no_lower in omega arith;
        room = has_room words open_ so_far.room;
      }

  module _ (small large : List Placed) (start : ℕ) where
    -- the search has come to this offset, before these places
    pub record SearchSoFar (from i offset : ℕ) : Type 0 where
      pub small_passed : ArePassed Others small from offset
      pub large_passed : ArePassed Others large i offset
      pub blocked : (lower : ℕ) → start ≤ lower → lower < offset → Any (Blocks Others size lower) (small ++ large)
      pub up : start ≤ offset
      pub room : offset + size < 2 ^ 32

    pub search_starts : (from : ℕ) → ArePassed Others small from start → start + size < 2 ^ 32 → SearchSoFar from 0 start
    search_starts from passed room = record {
      small_passed = passed;
      large_passed = λ k d below. absurd (omega arith);
      blocked = λ lower low below. absurd (omega arith);
      up = omega arith;
      room = room;
    }

    -- on to the next gap among the small ones
    pub blocked_to_gap : (from i offset gap : ℕ) → SearchSoFar from i offset → ((lower : ℕ) → offset ≤ lower → lower < gap → Any (Blocks Others size lower) small) → (lower : ℕ) → start ≤ lower → lower < gap → Any (Blocks Others size lower) (small ++ large)
    blocked_to_gap from i offset gap so_far blocked lower low below = ⊎_elim
        (λ (before : lower < offset). so_far.blocked lower low before)
        (λ (behind : offset ≤ lower). any_left (Blocks Others size lower) small large (blocked lower behind below))
        (cases_lt lower offset)

    -- and behind a large one
    pub one_more_large : (words from i offset next : ℕ) (d : Placed) → i < length large → IsBehind Others (get_or large i d) offset next → IsOpenTo words size large → (get_or large i d).offset < offset + size → ArePassed Others small from offset → ArePassed Others large i offset → ((lower : ℕ) → start ≤ lower → lower < offset → Any (Blocks Others size lower) (small ++ large)) → start ≤ offset → offset + size < 2 ^ 32 → SearchSoFar from (i + 1) next
    one_more_large words from i offset next d inside behind open_ begins small_passed large_passed blocked up room = record {
      small_passed = passed_higher small from offset next (no_lower large i offset next d inside behind) small_passed;
      large_passed = passed_more large i offset next d inside behind large_passed;
      blocked = λ lower low below. ⊎_elim
          (λ (before : lower < offset). blocked lower low before)
          (λ (later : offset ≤ lower). any_right (Blocks Others size lower) small large (blocked_up_to large i offset next d inside behind begins lower later below))
          (cases_lt lower offset);
      up = let n = no_lower large i offset next d inside behind in omega arith;
      room = has_room large i offset next d inside behind words open_ room;
    }
