-- The definitions of balance, factors and limits, evaluated.
use Rattle.std.proofs.Common.{◌≡◌, ℕ, zero, suc, ◌*◌, ◌≤◌, ◌<◌, List, [], ◌∷◌, slice_index, inl, inr, refl, arith}
use Rattle.sdf_level.specs.Balance.{Solves, IsBase, HasNoVector}
use Rattle.sdf_level.specs.Components.{AreConnected}
use Rattle.sdf_level.specs.Repetition.{IsLeastFactor, IsMultiplied, IsRepetition, IsFirstMismatch}
use Rattle.sdf_level.specs.Limits.{IsWithinLimits, HasTooManyFirings, HasTooManyLinks, HasTooManyTokens, firing_count, link_count, token_count}
use Rattle.sdf_level.proofs.ExampleLevels.{pairs, doubled, keep_last, uneven, ramp, eight_links, own_link, filters, growing, silent, mute, starved}

doubled_solved : Solves doubled (3 ∷ 2 ∷ [])
doubled_solved = record { one_each = refl; at_least_one = some; within = small; balanced = (tt, (refl, (tt, tt))) }
  where
    some : (a : ℕ) → a < 2 → 1 ≤ slice_index (3 ∷ 2 ∷ []) a
    some zero h = omega arith
    some (suc zero) h = omega arith
    some (suc (suc a)) h = absurd (omega arith)

    small : (a : ℕ) → a < 2 → slice_index (3 ∷ 2 ∷ []) a ≤ 1024
    small zero h = omega arith
    small (suc zero) h = omega arith
    small (suc (suc a)) h = absurd (omega arith)

doubled_base : IsBase doubled (3 ∷ 2 ∷ [])
doubled_base = record { solves = doubled_solved; least = least }
  where
    least : (other : List ℕ) → Solves doubled other → (a : ℕ) → slice_index (3 ∷ 2 ∷ []) a ≤ slice_index other a
    least other s zero = let one = s.at_least_one 0 (omega arith) in let e : slice_index other 0 * 2 ≡ slice_index other 1 * 3 = s.balanced.1.0 in omega arith
    least other s (suc zero) = let one = s.at_least_one 0 (omega arith) in let e : slice_index other 0 * 2 ≡ slice_index other 1 * 3 = s.balanced.1.0 in omega arith
    least other s (suc (suc a)) = omega arith

-- a token against a token and against two: nothing balances both
uneven_none : HasNoVector uneven
uneven_none q s =
    let one = s.at_least_one 0 (omega arith) in
    let e : slice_index q 0 * 1 ≡ slice_index q 1 * 1 = s.balanced.1.0 in
    let f : slice_index q 0 * 1 ≡ slice_index q 1 * 2 = s.balanced.1.1.0 in
    omega arith

-- 4,096 is above the limit
growing_none : HasNoVector growing
growing_none q s =
    let one = s.at_least_one 0 (omega arith) in
    let most = s.within 3 (omega arith) in
    let e : slice_index q 0 * 16 ≡ slice_index q 1 * 1 = s.balanced.0 in
    let f : slice_index q 1 * 16 ≡ slice_index q 2 * 1 = s.balanced.1.0 in
    let g : slice_index q 2 * 16 ≡ slice_index q 3 * 1 = s.balanced.1.1.0 in
    omega arith

-- rate 0 at one end alone
mute_none : HasNoVector mute
mute_none q s = let one = s.at_least_one 0 (omega arith) in let e : slice_index q 0 * 1 ≡ slice_index q 1 * 0 = s.balanced.0 in omega arith

pairs_base : IsBase pairs (1 ∷ [])
pairs_base = record { solves = record { one_each = refl; at_least_one = some; within = small; balanced = (tt, (tt, tt)) }; least = least }
  where
    some : (a : ℕ) → a < 1 → 1 ≤ slice_index (1 ∷ []) a
    some zero h = omega arith
    some (suc a) h = absurd (omega arith)

    small : (a : ℕ) → a < 1 → slice_index (1 ∷ []) a ≤ 1024
    small zero h = omega arith
    small (suc a) h = absurd (omega arith)

    least : (other : List ℕ) → Solves pairs other → (a : ℕ) → slice_index (1 ∷ []) a ≤ slice_index other a
    least other s zero = s.at_least_one 0 (omega arith)
    least other s (suc a) = omega arith

pairs_factor : IsLeastFactor pairs (1 ∷ []) 0 2
pairs_factor = record {
  factor = record { at_least_one = omega arith; enough = ((λ c. omega arith), ((λ c. omega arith), tt)) };
  least = λ m f. let e : 4 ≤ m * 1 * 2 = f.enough.0 record { over = []; path = refl } in omega arith;
}

pairs_repetition : IsRepetition pairs (2 ∷ [])
pairs_repetition = record {
  base = 1 ∷ [];
  is_base = pairs_base;
  agree = (((λ e. absurd (omega arith)), (λ e. absurd (omega arith))), (((λ e. absurd (omega arith)), (λ e. absurd (omega arith))), tt));
  multiplied = record { one_each = refl; entries = entry };
}
  where
    entry : (a : ℕ) → a < 1 → IsMultiplied pairs (1 ∷ []) a (slice_index (2 ∷ []) a)
    entry zero h = record { factor = 2; least = pairs_factor; product = refl }
    entry (suc a) h = absurd (omega arith)

-- the sink is reached over the link between the actors
doubled_connected : AreConnected doubled.links 0 1
doubled_connected = record { over = 1 ∷ []; path = (inr (inl record { puts = omega arith; takes = omega arith; ends = inl (refl, refl) }), refl) }

doubled_factor : IsLeastFactor doubled (3 ∷ 2 ∷ []) 0 1
doubled_factor = record {
  factor = record { at_least_one = omega arith; enough = ((λ c. omega arith), (tt, ((λ c. omega arith), tt))) };
  least = λ m f. f.at_least_one;
}

keep_last_factor : IsLeastFactor keep_last (1 ∷ []) 0 4
keep_last_factor = record {
  factor = record { at_least_one = omega arith; enough = ((λ c. omega arith), ((λ c. omega arith), tt)) };
  least = λ m f. let e : 4 ≤ m * 1 * 1 = f.enough.0 record { over = []; path = refl } in omega arith;
}

filters_tokens : token_count filters (8 ∷ 8 ∷ []) ≡ 304128
filters_tokens = refl

-- firings up to their limit, and past it
most_firings : firing_count (1 ∷ 1023 ∷ 1024 ∷ []) ≡ 2048
most_firings = refl

ramp_links : link_count (ramp 1024) (1 ∷ 1024 ∷ []) ≡ 2054
ramp_links = refl

most_firings_within : IsWithinLimits (ramp 2047) (1 ∷ 2047 ∷ [])
most_firings_within = record { firings = omega arith; links = omega arith; tokens = omega arith }

too_many_firings : HasTooManyFirings (1 ∷ 1024 ∷ 1024 ∷ [])
too_many_firings = omega arith

-- links up to their limit, and past it
most_links : link_count (eight_links 1021) (1 ∷ 1021 ∷ []) ≡ 8192
most_links = refl

most_links_within : IsWithinLimits (eight_links 1021) (1 ∷ 1021 ∷ [])
most_links_within = record { firings = omega arith; links = omega arith; tokens = omega arith }

too_many_links : HasTooManyLinks (eight_links 1022) (1 ∷ 1022 ∷ [])
too_many_links = record { firings = omega arith; over = omega arith }

-- tokens up to their limit, and past it
most_tokens : token_count (own_link 0) (4 ∷ []) ≡ 1048576
most_tokens = refl

most_tokens_within : IsWithinLimits (own_link 0) (4 ∷ [])
most_tokens_within = record { firings = omega arith; links = omega arith; tokens = omega arith }

too_many_tokens : HasTooManyTokens (own_link 1) (4 ∷ [])
too_many_tokens = record { firings = omega arith; links = omega arith; over = omega arith }

-- rates of 0 on both sides: each actor fires once
silent_base : IsBase silent (1 ∷ 1 ∷ [])
silent_base = record { solves = record { one_each = refl; at_least_one = some; within = small; balanced = (refl, (tt, tt)) }; least = least }
  where
    some : (a : ℕ) → a < 2 → 1 ≤ slice_index (1 ∷ 1 ∷ []) a
    some zero h = omega arith
    some (suc zero) h = omega arith
    some (suc (suc a)) h = absurd (omega arith)

    small : (a : ℕ) → a < 2 → slice_index (1 ∷ 1 ∷ []) a ≤ 1024
    small zero h = omega arith
    small (suc zero) h = omega arith
    small (suc (suc a)) h = absurd (omega arith)

    least : (other : List ℕ) → Solves silent other → (a : ℕ) → slice_index (1 ∷ 1 ∷ []) a ≤ slice_index other a
    least other s zero = s.at_least_one 0 (omega arith)
    least other s (suc zero) = s.at_least_one 1 (omega arith)
    least other s (suc (suc a)) = omega arith

silent_repetition : IsRepetition silent (1 ∷ 1 ∷ [])
silent_repetition = record {
  base = 1 ∷ 1 ∷ [];
  is_base = silent_base;
  agree = (tt, (((λ e. refl), (λ e. refl)), tt));
  multiplied = record { one_each = refl; entries = entry };
}
  where
    once : (a : ℕ) → IsLeastFactor silent (1 ∷ 1 ∷ []) a 1
    once a = record { factor = record { at_least_one = omega arith; enough = (tt, ((λ c. omega arith), tt)) }; least = λ m f. f.at_least_one }

    entry : (a : ℕ) → a < 2 → IsMultiplied silent (1 ∷ 1 ∷ []) a (slice_index (1 ∷ 1 ∷ []) a)
    entry zero h = record { factor = 1; least = once 0; product = refl }
    entry (suc zero) h = record { factor = 1; least = once 1; product = refl }
    entry (suc (suc a)) h = absurd (omega arith)

-- the second link has exactly one rate 0
starved_mismatch : IsFirstMismatch starved 1
starved_mismatch = record {
  before = (((λ e. absurd (omega arith)), (λ e. absurd (omega arith))), tt);
  here = λ all. let one : 1 ≡ 0 = all.1.0.0 refl in omega arith;
}
