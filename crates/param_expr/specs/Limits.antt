-- The greatest sizes of names and of the texts of expressions.
use Rattle.std.specs.Prelude.{ℕ}

-- bytes of a name
abbrev pub most_name_bytes : ℕ
most_name_bytes = 64

-- bytes of an expression's text
abbrev pub most_expression_bytes : ℕ
most_expression_bytes = 1024

-- parentheses that are open at once in an expression, those of `min` and `max` among them
abbrev pub most_open_parentheses : ℕ
most_open_parentheses = 32
