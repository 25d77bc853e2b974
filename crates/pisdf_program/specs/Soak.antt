-- The run that `soak` makes from a number: its graphs, its streams, and what is told of it.
use Rattle.std.specs.Prelude.{ℕ, ◌+◌, ◌*◌, ◌%◌, ℤ, pos, ◌+ℤ◌, List, [], ◌∷◌, ◌++◌, codes, fold, length, map, slice_index_or}
use Rattle.std.specs.Fmt.{decimal, signed_decimal}
use Rattle.std.specs.List.{flat_map, range_with_len}
use Rattle.token_text.specs.Rows.{comma, line_feed, row_of}
use Rattle.pisdf_meaning.specs.declared.outcome.Iteration.{Iteration}

-- The file of its graphs. The top graph has the inputs k and x, and the output y: a configuration actor takes a token of k as
-- the parameter n, and a hierarchical actor takes the 64 tokens of x in blocks of n. Its child gives for each block the sum
-- times n, and the last 8 of these are y.
unfoldable pub soak_file : List ℕ
soak_file = codes "{\"pisdf\":3,\"top\":\"g\",\"graphs\":[{\"name\":\"g\",\"params\":[{\"name\":\"n\",\"kind\":\"set\",\"low\":1,\"high\":8}],\"inputs\":[{\"name\":\"k\",\"rate\":\"1\"},{\"name\":\"x\",\"rate\":\"64\"}],\"outputs\":[{\"name\":\"y\",\"rate\":\"8\"}],\"actors\":[{\"name\":\"c\",\"kind\":\"config\",\"kernel\":\"read_param\",\"args\":[],\"ins\":[{\"name\":\"i\"}],\"outs\":[],\"sets\":[\"n\"]},{\"name\":\"h\",\"kind\":\"graph\",\"graph\":\"blk\",\"args\":[\"n\"]}],\"fifos\":[{\"from\":\"k\",\"to\":\"c.i\"},{\"from\":\"x\",\"to\":\"h.i\"},{\"from\":\"h.o\",\"to\":\"y\"}],\"exports\":[]},{\"name\":\"blk\",\"params\":[{\"name\":\"n\",\"kind\":\"in\",\"low\":1,\"high\":8}],\"inputs\":[{\"name\":\"i\",\"rate\":\"n\"}],\"outputs\":[{\"name\":\"o\",\"rate\":\"1\"}],\"actors\":[{\"name\":\"s\",\"kind\":\"kernel\",\"kernel\":\"sum\",\"args\":[],\"ins\":[{\"name\":\"i\",\"rate\":\"n\"}],\"outs\":[{\"name\":\"o\",\"rate\":\"1\"}]},{\"name\":\"m\",\"kind\":\"kernel\",\"kernel\":\"gain\",\"args\":[\"n\"],\"ins\":[{\"name\":\"i\",\"rate\":\"1\"}],\"outs\":[{\"name\":\"o\",\"rate\":\"1\"}]}],\"fifos\":[{\"from\":\"i\",\"to\":\"s.i\"},{\"from\":\"s.o\",\"to\":\"m.i\"},{\"from\":\"m.o\",\"to\":\"o\"}],\"exports\":[]}]}"

abbrev pub soak_iterations : ℕ → ℕ
soak_iterations number = 4 + number % 2045

-- a token of each input by its place in the stream
abbrev pub k_token : ℕ → ℕ → ℤ
k_token number place = pos (1 + (place + number) % 8)

abbrev pub x_token : ℕ → ℕ → ℤ
x_token number place = pos ((7 * place + number) % 101)

-- so many tokens from a place on
abbrev pub tokens_from : (ℕ → ℤ) → ℕ → ℕ → List ℤ
tokens_from token start count = map token (range_with_len start count)

-- all that the iterations take: 1 token of k and 64 of x each
abbrev pub soak_streams : ℕ → List (List ℤ)
soak_streams number = tokens_from (k_token number) 0 (soak_iterations number) ∷ tokens_from (x_token number) 0 (64 * soak_iterations number) ∷ []

-- what one of them takes
abbrev pub soak_part : ℕ → ℕ → List (List ℤ)
soak_part number iteration = tokens_from (k_token number) iteration 1 ∷ tokens_from (x_token number) (64 * iteration) 64 ∷ []

-- ---- what is told

-- the tokens of y, which is the first output
abbrev pub y_tokens : Iteration → List ℤ
y_tokens iteration = slice_index_or iteration.outs 0 []

abbrev pub all_tokens : List Iteration → List ℤ
all_tokens iterations = flat_map y_tokens iterations

abbrev pub sum_of : List ℤ → ℤ
sum_of tokens = fold (λ sum token. sum +ℤ token) (pos 0) tokens

-- a number as the last field of a row
abbrev pub last_field : ℤ → List ℕ
last_field number = comma ∷ (signed_decimal number ++ line_feed ∷ [])

-- soak,NUMBER,ITERATIONS,COUNT,SUM
abbrev pub soak_row : ℕ → ℕ → ℕ → ℤ → List ℕ
soak_row number iterations count sum = row_of (codes "soak" ∷ decimal number ∷ decimal iterations ∷ decimal count ∷ signed_decimal sum ∷ [])

abbrev pub soak_text : ℕ → List ℤ → List ℕ
soak_text number tokens = soak_row number (soak_iterations number) (length tokens) (sum_of tokens)
