-- One buffer after another gets its offset.
use Rattle.std.proofs.Common.{◌≡◌, ◌≢◌, ℕ, suc, ◌+◌, ◌-◌, ◌*◌, ◌/◌, ◌^◌, ◌<◌, ◌≤◌, ◌⊎◌, inl, inr, ⊎_elim, List, [], ◌∷◌, length, get_or, set, slice_index, sum, All, Any, IsPermutation, refl, sym, ◌∙◌, arith}
use Rattle.std.proofs.lemmas.Bool.{cases_lt}
use Rattle.std.proofs.lemmas.List.{get_or-set_same, get_or-set_other, length-set}
use Rattle.std.proofs.lemmas.List.Elements.{All-cons, All-weaker}
use Rattle.std.proofs.lemmas.List.Sorted.{All-permutation, Contains-permutation}
use Rattle.std.proofs.lemmas.List.Sums.{sum_by_more, sum_by-take-le}
use Rattle.placement_checker.specs.Placed.{end_of, Relates, Valid, StandsEarlier, Fits, Tight}
use Rattle.placement_checker.specs.Rows.{RowHas, IsRowOf}
use Rattle.placement.specs.Placing.{IsPlacingOrder, Rise, IsOpenTo, Blocks, IsLast, StandsAt}
use Rattle.placement.specs.Progress.{IsPlaced, PlacedSoFar}
use Rattle.placement.specs.declared.gap.Placed.{Placed}

-- an element with this property stands in the same list in another order too
any_moved : {A : Type 0} (P : A → Type 0) (xs ys : List A) → IsPermutation xs ys → Any P xs → Any P ys
any_moved P xs ys moved any =
    let there = Contains-permutation xs ys any.1 moved (any.0, any.2, any.3) in
    (there.0, any.1, there.1, there.2, any.4)

any_behind : {A : Type 0} (P : A → Type 0) (x : A) (xs : List A) → Any P xs → Any P (x ∷ xs)
any_behind P x xs any = (suc any.0, any.1, let h = any.2 in omega arith, any.3, any.4)

-- a buffer that was just placed is the last one
pub last_of : (row : List ℕ) (placed next_placed : List Placed) (next : Placed) (size : ℕ) → next.end ≡ next.offset + size → 1 ≤ size → IsPermutation (next ∷ placed) next_placed → ((lower : ℕ) → lower < next.offset → Any (Blocks (RowHas row) size lower) placed) → IsLast row next_placed next
last_of row placed next_placed next size ends filled moved blocked = record {
  there = any_moved (λ (p : Placed). p ≡ next) (next ∷ placed) next_placed moved (0, next, omega arith, refl, refl);
  filled = omega arith;
  blocked = λ lower below.
      let large : next.end - next.offset ≡ size = omega arith in
      rw large (any_moved (Blocks (RowHas row) size lower) (next ∷ placed) next_placed moved (any_behind (Blocks (RowHas row) size lower) next placed (blocked lower below)));
}

module _ (sizes : List ℕ) where
  never_earlier : (e : ℕ) → StandsEarlier sizes e e → ⊥
  never_earlier e earlier = ⊎_elim
      (λ (larger : slice_index sizes e < slice_index sizes e). omega arith)
      (λ (tie : (slice_index sizes e ≡ slice_index sizes e) × (e < e)). let h = tie.1 in omega arith)
      earlier

  one_way : (e f : ℕ) → StandsEarlier sizes e f → StandsEarlier sizes f e → ⊥
  one_way e f forth back = ⊎_elim
      (λ (larger : slice_index sizes f < slice_index sizes e). ⊎_elim
      (λ (other : slice_index sizes e < slice_index sizes f). omega arith)
      (λ (tie : (slice_index sizes f ≡ slice_index sizes e) × (f < e)). let h = tie.0 in omega arith)
      back)
      (λ (tie : (slice_index sizes e ≡ slice_index sizes f) × (e < f)). let h = tie.0 in let k = tie.1 in ⊎_elim
      (λ (other : slice_index sizes e < slice_index sizes f). omega arith)
      (λ (both : (slice_index sizes f ≡ slice_index sizes e) × (f < e)). let l = both.1 in omega arith)
      back)
      forth

  -- of two buffers one stands earlier
  one_earlier : (e f : ℕ) → e < f → StandsEarlier sizes e f ⊎ StandsEarlier sizes f e
  one_earlier e f below = ⊎_elim
      (λ (larger : slice_index sizes f < slice_index sizes e). inl (inl larger))
      (λ (rest : slice_index sizes e ≤ slice_index sizes f). ⊎_elim
      (λ (smaller : slice_index sizes e < slice_index sizes f). inr (inl smaller))
      (λ (tie : slice_index sizes f ≤ slice_index sizes e). inl (inr (omega arith, below)))
      (cases_lt (slice_index sizes e) (slice_index sizes f)))
      (cases_lt (slice_index sizes f) (slice_index sizes e))

  module _ (X : ℕ → ℕ → Type 0) where
    -- a tight placement is valid
    pub valid_from_tight : (offsets : List ℕ) (height : ℕ) → Tight sizes X offsets height → Valid sizes X offsets height
    valid_from_tight offsets height tight = record {
      within = tight.above;
      apart = λ e f below inside related overlap. ⊎_elim
          (λ (first : StandsEarlier sizes e f). tight.fits f inside e (omega arith) first (inr (below, related)) (record { cell = overlap.cell; in_one = overlap.in_other; in_other = overlap.in_one }))
          (λ (second : StandsEarlier sizes f e). tight.fits e (omega arith) f inside second (inl (below, related)) overlap)
          (one_earlier e f below);
    }

    -- what fits beside some offsets of earlier buffers fits beside the same
    fits_moved : (one other : List ℕ) (e offset : ℕ) → ((f : ℕ) → f < length sizes → StandsEarlier sizes f e → slice_index other f ≡ slice_index one f) → Fits sizes X one e offset → Fits sizes X other e offset
    fits_moved one other e offset same fits = λ f inside earlier related overlap. fits f inside earlier related (rw (same f inside earlier) at overlap)

    module _ (order : List ℕ) (o : IsPlacingOrder sizes order) where
      -- what stands earlier than the buffer at k has a place before k
      place_before : (k f : ℕ) → k < length order → f < length sizes → StandsEarlier sizes f (slice_index order k) → (j : ℕ) × (j < k) × (slice_index order j ≡ f)
      place_before k f k_in f_in earlier =
          let found = o.all f f_in in
          ⊎_elim
          (λ (before : found.0 < k). (found.0, before, found.2))
          (λ (rest : k ≤ found.0). ⊎_elim
          (λ (behind : k < found.0). absurd (one_way f (slice_index order k) earlier (let e = o.earlier k found.0 behind found.1 in rw found.2 at e)))
          (λ (last : found.0 ≤ k). let here : k ≡ found.0 = omega arith in absurd (never_earlier f (let e = rw here at earlier in rw found.2 at e)))
          (cases_lt k found.0))
          (cases_lt found.0 k)

      apart : (j k : ℕ) → j < k → k < length order → slice_index order j ≢ slice_index order k
      apart j k below inside = λ same. never_earlier (slice_index order k) (let e = o.earlier j k below inside in rw same at e)

      pub none_placed : (offsets : List ℕ) → length offsets ≡ length sizes → PlacedSoFar sizes X order 0 [] offsets 0
      none_placed offsets long = record {
        long = long;
        known = λ k d inside. absurd (omega arith);
        all = λ k below. absurd (omega arith);
        above = λ k below. absurd (omega arith);
        reached = inl refl;
        low = omega arith;
        fits = λ k below. absurd (omega arith);
        least = λ k lower below. absurd (omega arith);
      }

      pub all_placed : (i : ℕ) (placed : List Placed) (offsets : List ℕ) (height : ℕ) → length order ≤ i → i ≤ length order → PlacedSoFar sizes X order i placed offsets height → Tight sizes X offsets height
      all_placed i placed offsets height whole within so_far = record {
        fits = λ e inside. let found = o.all e inside in let h = so_far.fits found.0 (let k = found.1 in omega arith) in rw found.2 at h;
        least = λ e lower inside below fits.
            let found = o.all e inside in
            so_far.least found.0 lower (let k = found.1 in omega arith) (rw found.2 below) (rw found.2 fits);
        above = λ e inside. let found = o.all e inside in let h = so_far.above found.0 (let k = found.1 in omega arith) in rw found.2 at h;
        reached = ⊎_elim
            (λ (none : height ≡ 0). inl none)
            (λ (some : (k : ℕ) × (k < i) × (end_of sizes offsets (slice_index order k) ≡ height)). inr (slice_index order some.0, o.inside some.0 (let k = some.1 in omega arith), some.2))
            so_far.reached;
      }

      module _ (i : ℕ) (placed : List Placed) (offsets : List ℕ) (height : ℕ) (inside : i < length order) (filled : All (λ (size : ℕ). 1 ≤ size) sizes) (few : sum sizes < 2 ^ 32) (so_far : PlacedSoFar sizes X order i placed offsets height) where
        -- the sizes of the first buffers and of the next
        pub room : height + slice_index sizes (slice_index order i) < 2 ^ 32
        room =
            let more = sum_by_more (λ (e : ℕ). slice_index sizes e) order i 0 inside in
            let part = sum_by-take-le (λ (e : ℕ). slice_index sizes e) order (i + 1) in
            let all = o.total in
            let low = so_far.low in
            omega arith

        number_in : (k : ℕ) (d : Placed) → k < length placed → (get_or placed k d).number < length sizes
        number_in k d below =
            let p = so_far.known k d below in
            let there = o.inside p.place (let b = p.before in omega arith) in
            rw p.is at there

        another : (k : ℕ) (d : Placed) → k < length placed → (get_or placed k d).number ≢ slice_index order i
        another k d below same = let p = so_far.known k d below in apart p.place i p.before inside (p.is ∙ same)

        pub all_filled : All (λ (p : Placed). p.offset < p.end) placed
        all_filled k d below =
            let p = so_far.known k d below in
            let one = filled (get_or placed k d).number 0 (number_in k d below) in
            let b = p.begins in let e = p.ends in omega arith

        pub all_told : (words : ℕ) → length sizes ≤ 64 * words → All (λ (p : Placed). p.number / 64 < words) placed
        all_told words wide k d below = let own = number_in k d below in omega arith

        pub all_room : All (λ (p : Placed). p.end + slice_index sizes (slice_index order i) < 2 ^ 32) placed
        all_room k d below =
            let p = so_far.known k d below in
            let top = so_far.above p.place p.before in
            let end = rw p.is at top in
            let e = p.ends in let r = room in omega arith

        pub all_standing : All (StandsAt offsets sizes) placed
        all_standing k d below =
            let own = number_in k d below in
            let p = so_far.known k d below in
            record {
              there = let l = so_far.long in omega arith;
              begins = p.begins;
              ends = p.ends;
            }

        -- the next buffer can be placed beside a part of those placed
        pub open_to : (words : ℕ) (some : List Placed) → length sizes ≤ 64 * words → Rise some → ((P : Placed → Type 0) → All P placed → All P some) → IsOpenTo words (slice_index sizes (slice_index order i)) some
        open_to words some wide rising part = record {
          rising = rising;
          filled = part (λ (p : Placed). p.offset < p.end) all_filled;
          told = part (λ (p : Placed). p.number / 64 < words) (all_told words wide);
          room = part (λ (p : Placed). p.end + slice_index sizes (slice_index order i) < 2 ^ 32) all_room;
        }

        -- what the row of the next buffer has is what excludes it
        module _ (range : ℕ) (wide : length sizes ≤ range) (row : List ℕ) (row_is : IsRowOf X range (slice_index order i) row) (size offset : ℕ) where
          pub free_by_row : All (λ (p : Placed). Blocks (RowHas row) size offset p → ⊥) placed → All (λ (p : Placed). Blocks (Relates X (slice_index order i)) size offset p → ⊥) placed
          free_by_row free = λ k d below blocks.
              let own = number_in k d below in
              free k d below ((row_is (get_or placed k d).number (omega arith) (another k d below)).1 blocks.0, blocks.1, blocks.2)

          pub blocked_by_row : Any (Blocks (RowHas row) size offset) placed → Any (Blocks (Relates X (slice_index order i)) size offset) placed
          blocked_by_row some =
              let own = rw some.3 at (number_in some.0 some.1 some.2) in
              let other = rw some.3 at (another some.0 some.1 some.2) in
              (some.0, some.1, some.2, some.3, ((row_is some.1.number (omega arith) other).0 some.4.0, some.4.1, some.4.2))

        -- the least offset is 0 or the end of one of the others
        at_an_end : (Others : ℕ → Type 0) (size offset : ℕ) → All (λ (p : Placed). Blocks Others size offset p → ⊥) placed → ((lower : ℕ) → lower < offset → Any (Blocks Others size lower) placed) → (offset ≡ 0) ⊎ Any (λ (p : Placed). p.end ≡ offset) placed
        at_an_end Others size offset free least = ⊎_elim
            (λ (some : 0 < offset).
            let one = least (offset - 1) (omega arith) in
            let spared = rw one.3 at (free one.0 one.1 one.2) in
            let begins = one.4.1 in
            let ends = one.4.2 in
            inr (
              one.0,
              one.1,
              one.2,
              one.3,
              ⊎_elim
                  (λ (over : offset < one.1.end). absurd (spared (one.4.0, omega arith, over)))
                  (λ (up_to : one.1.end ≤ offset). omega arith)
                  (cases_lt offset one.1.end),
            ))
            (λ (none : offset ≤ 0). inl (omega arith))
            (cases_lt 0 offset)

        offset_low : (offset : ℕ) → (offset ≡ 0) ⊎ Any (λ (p : Placed). p.end ≡ offset) placed → offset ≤ height
        offset_low offset bound = ⊎_elim
            (λ (none : offset ≡ 0). omega arith)
            (λ (some : Any (λ (p : Placed). p.end ≡ offset) placed).
            let p = rw some.3 at (so_far.known some.0 some.1 some.2) in
            let top = so_far.above p.place p.before in
            let end = rw p.is at top in
            let e = p.ends in let h = some.4 in omega arith)
            bound

        -- the next buffer gets this offset, and the height rises where it has to
        module _ (offset new_height : ℕ) (next_placed : List Placed)
            (free : All (λ (p : Placed). Blocks (Relates X (slice_index order i)) (slice_index sizes (slice_index order i)) offset p → ⊥) placed)
            (least : (lower : ℕ) → lower < offset → Any (Blocks (Relates X (slice_index order i)) (slice_index sizes (slice_index order i)) lower) placed)
            (moved : IsPermutation {X = Placed} (record { number = slice_index order i; offset = offset; end = offset + slice_index sizes (slice_index order i) } ∷ placed) next_placed)
            (no_lower : height ≤ new_height)
            (high : offset + slice_index sizes (slice_index order i) ≤ new_height)
            (tight : (new_height ≡ height) ⊎ (new_height ≡ offset + slice_index sizes (slice_index order i)))
          where
            abbrev next_offsets : List ℕ
            next_offsets = set offsets (slice_index order i) offset

            own : slice_index next_offsets (slice_index order i) ≡ offset
            own = get_or-set_same offsets (slice_index order i) offset 0 (let l = so_far.long in let h = o.inside i inside in omega arith)

            same : (f : ℕ) → f ≢ slice_index order i → slice_index next_offsets f ≡ slice_index offsets f
            same f other = get_or-set_other offsets (slice_index order i) f offset 0 other

            same_before : (k : ℕ) → k < i → slice_index next_offsets (slice_index order k) ≡ slice_index offsets (slice_index order k)
            same_before k below = same (slice_index order k) (apart k i below inside)

            same_earlier : (k f : ℕ) → k ≤ i → f < length sizes → StandsEarlier sizes f (slice_index order k) → slice_index next_offsets f ≡ slice_index offsets f
            same_earlier k f up f_in earlier =
                let found = place_before k f (omega arith) f_in earlier in
                rw (← found.2) (same_before found.0 (let h = found.1 in omega arith))

            fits_here : Fits sizes X next_offsets (slice_index order i) offset
            fits_here f f_in earlier related overlap =
                let found = place_before i f inside f_in earlier in
                let some = so_far.all found.0 found.1 in
                let is : some.1.number ≡ f = some.4 ∙ found.2 in
                let p = rw some.3 at (so_far.known some.0 some.1 some.2) in
                let spared = rw some.3 at (free some.0 some.1 some.2) in
                let at_f : slice_index next_offsets f ≡ slice_index offsets f = same_earlier i f (omega arith) f_in earlier in
                let begins : some.1.offset ≡ slice_index offsets f = rw is at p.begins in
                let ends : some.1.end ≡ end_of sizes offsets f = rw is at p.ends in
                let low = overlap.in_one.0 in
                let high = overlap.in_one.1 in
                let from = overlap.in_other.0 in
                let to = overlap.in_other.1 in
                spared (rw is related, omega arith, omega arith)

            none_lower : (lower : ℕ) → lower < offset → Fits sizes X next_offsets (slice_index order i) lower → ⊥
            none_lower lower below fits =
                let some = least lower below in
                let p = rw some.3 at (so_far.known some.0 some.1 some.2) in
                let f_in : some.1.number < length sizes = rw p.is at (o.inside p.place (let b = p.before in omega arith)) in
                let earlier : StandsEarlier sizes some.1.number (slice_index order i) = rw p.is at (o.earlier p.place i p.before inside) in
                let at_f : slice_index next_offsets some.1.number ≡ slice_index offsets some.1.number = same_earlier i some.1.number (omega arith) f_in earlier in
                let begins = p.begins in
                let ends = p.ends in
                let from = some.4.1 in
                let to = some.4.2 in
                let size_in = filled some.1.number 0 f_in in
                let size_here = filled (slice_index order i) 0 (o.inside i inside) in
                fits some.1.number f_in earlier some.4.0 (⊎_elim
                (λ (behind : lower < slice_index offsets some.1.number). record { cell = slice_index offsets some.1.number; in_one = (omega arith, omega arith); in_other = (omega arith, omega arith) })
                (λ (before : slice_index offsets some.1.number ≤ lower). record { cell = lower; in_one = (omega arith, omega arith); in_other = (omega arith, omega arith) })
                (cases_lt lower (slice_index offsets some.1.number)))

            known_next : All (IsPlaced sizes order next_offsets (i + 1)) next_placed
            known_next =
                All-permutation (IsPlaced sizes order next_offsets (i + 1)) (record { number = slice_index order i; offset = offset; end = offset + slice_index sizes (slice_index order i) } ∷ placed) next_placed moved
                (All-cons (IsPlaced sizes order next_offsets (i + 1)) (record { number = slice_index order i; offset = offset; end = offset + slice_index sizes (slice_index order i) }) placed
                (record { place = i; before = omega arith; is = refl; begins = sym own; ends = rw own refl })
                (All-weaker (IsPlaced sizes order offsets i) (IsPlaced sizes order next_offsets (i + 1))
                (λ p old.
                let here : slice_index next_offsets p.number ≡ slice_index offsets p.number = rw (← old.is) (same_before old.place old.before) in
                record {
                  place = old.place;
                  before = let b = old.before in omega arith;
                  is = old.is;
                  begins = rw here old.begins;
                  ends = rw here old.ends;
                })
                placed so_far.known))

            all_next : (k : ℕ) → k < i + 1 → Any (λ (p : Placed). p.number ≡ slice_index order k) next_placed
            all_next k below =
                any_moved (λ (p : Placed). p.number ≡ slice_index order k) (record { number = slice_index order i; offset = offset; end = offset + slice_index sizes (slice_index order i) } ∷ placed) next_placed moved
                (⊎_elim
                (λ (before : k < i). any_behind (λ (p : Placed). p.number ≡ slice_index order k) (record { number = slice_index order i; offset = offset; end = offset + slice_index sizes (slice_index order i) }) placed (so_far.all k before))
                (λ (last : i ≤ k). let here : i ≡ k = omega arith in (0, record { number = slice_index order i; offset = offset; end = offset + slice_index sizes (slice_index order i) }, omega arith, refl, rw here refl))
                (cases_lt k i))

            pub one_more_placed : PlacedSoFar sizes X order (i + 1) next_placed next_offsets new_height
            one_more_placed = record {
              long = length-set offsets (slice_index order i) offset ∙ so_far.long;
              known = known_next;
              all = all_next;
              above = λ k below. ⊎_elim
                  (λ (before : k < i). rw (same_before k before) (let h = so_far.above k before in omega arith))
                  (λ (last : i ≤ k). let here : k ≡ i = omega arith in rw (here, own) high)
                  (cases_lt k i);
              reached = ⊎_elim
                  (λ (kept : new_height ≡ height). ⊎_elim
                  (λ (none : height ≡ 0). inl (omega arith))
                  (λ (some : (k : ℕ) × (k < i) × (end_of sizes offsets (slice_index order k) ≡ height)). inr (some.0, let h = some.1 in omega arith, rw (same_before some.0 some.1) (some.2 ∙ sym kept)))
                  so_far.reached)
                  (λ (risen : new_height ≡ offset + slice_index sizes (slice_index order i)). inr (i, omega arith, rw own (sym risen)))
                  tight;
              low =
                  let more = sum_by_more (λ (e : ℕ). slice_index sizes e) order i 0 inside in
                  let before = so_far.low in
                  let at_most = offset_low offset (at_an_end (Relates X (slice_index order i)) (slice_index sizes (slice_index order i)) offset free least) in
                  ⊎_elim
                  (λ (kept : new_height ≡ height). omega arith)
                  (λ (risen : new_height ≡ offset + slice_index sizes (slice_index order i)). omega arith)
                  tight;
              fits = λ k below. ⊎_elim
                  (λ (before : k < i). rw (same_before k before) (fits_moved offsets next_offsets (slice_index order k) (slice_index offsets (slice_index order k)) (λ f f_in earlier. same_earlier k f (omega arith) f_in earlier) (so_far.fits k before)))
                  (λ (last : i ≤ k). let here : k ≡ i = omega arith in rw (here, own) fits_here)
                  (cases_lt k i);
              least = λ k lower below under fits. ⊎_elim
                  (λ (before : k < i). so_far.least k lower before (rw (same_before k before) at under) (fits_moved next_offsets offsets (slice_index order k) lower (λ f f_in earlier. sym (same_earlier k f (omega arith) f_in earlier)) fits))
                  (λ (last : i ≤ k). let here : k ≡ i = omega arith in none_lower lower (let h = rw here at under in rw own at h) (rw here at fits))
                  (cases_lt k i);
            }
