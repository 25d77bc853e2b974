-- The numbers that the rows of the table limit.
use Rattle.std.specs.Prelude.{ℕ}

-- arguments of `fir` and of `pick`
abbrev pub most_args : ℕ
most_args = 16

-- parameters that `read_param` sets
abbrev pub most_sets : ℕ
most_sets = 4

-- tokens that `median` takes
abbrev pub most_median_tokens : ℕ
most_median_tokens = 255

-- tokens of a window of `moving`
abbrev pub most_moving_width : ℕ
most_moving_width = 64
