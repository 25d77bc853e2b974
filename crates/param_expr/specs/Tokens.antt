-- The tokens of a text: the longest runs of its bytes.
use Rattle.std.specs.Prelude.{ℕ, zero, suc, ◌+◌, ◌-◌, ◌==◌, List, [], ◌∷◌, length, take_while, map, codes, if◌then◌else◌}
use Rattle.std.specs.Str.{bytes_eq}
use Rattle.std.specs.Str.Parse.{digits_value}
use Rattle.param_expr.specs.declared.op.Op.{Op}
use Rattle.param_expr.specs.declared.op.Op.TheVariants.{Add, Sub, Mul, Div, Rem, Min, Max}
use Rattle.param_expr.specs.Words.{is_digit, is_letter, is_word_byte, is_name}

pub data Token : Type 0 where
  -- a number, of any size
  number : ℕ → Token
  name : List ℕ → Token
  -- `+` and `-`
  additive : Op → Token
  -- `*`, `/` and `%`
  multiplicative : Op → Token
  -- `min` and `max`
  function : Op → Token
  left_paren : Token
  right_paren : Token
  comma : Token
  -- bytes that are no token of the grammar
  other : Token

-- a byte that is a token by itself
abbrev pub mark_of : ℕ → Token
mark_of b =
    if b == 43 then additive Add else
    if b == 45 then additive Sub else
    if b == 42 then multiplicative Mul else
    if b == 47 then multiplicative Div else
    if b == 37 then multiplicative Rem else
    if b == 40 then left_paren else
    if b == 41 then right_paren else
    if b == 44 then comma else other

-- a run of letters, digits and `_`; where it is too long, it is no name
abbrev pub word_token : List ℕ → Token
word_token w =
    if bytes_eq w (codes "min") then function Min else
    if bytes_eq w (codes "max") then function Max else
    if is_name w then name w else other

-- a token and its bytes
pub record Lexeme : Type 0 where
  pub bytes : List ℕ
  pub token : Token

-- The token at the front: the longest run of digits, the longest word, or one byte.
abbrev pub front : List ℕ → Lexeme
front [] = record { bytes = []; token = other }
front (b ∷ rest) =
    if is_digit b then record { bytes = take_while is_digit (b ∷ rest); token = number (digits_value 10 (take_while is_digit (b ∷ rest))) } else
    if is_letter b then record { bytes = take_while is_word_byte (b ∷ rest); token = word_token (take_while is_word_byte (b ∷ rest)) } else
    record { bytes = b ∷ []; token = mark_of b }

-- a token, its bytes and the place of the first of them
pub record Placed : Type 0 where
  pub at : ℕ
  pub bytes : List ℕ
  pub token : Token

abbrev pub front_at : ℕ → List ℕ → Placed
front_at at text = record { at = at; bytes = (front text).bytes; token = (front text).token }

-- The tokens of what stands from place `at` on, after so many bytes more of the token before. Spaces stand between tokens.
unfoldable pub tokens_from : ℕ → ℕ → List ℕ → List Placed
tokens_from at skip [] = []
tokens_from at (suc skip) (b ∷ rest) = tokens_from (at + 1) skip rest
tokens_from at zero (b ∷ rest) = if b == 32 then tokens_from (at + 1) 0 rest else front_at at (b ∷ rest) ∷ tokens_from (at + 1) (length (front (b ∷ rest)).bytes - 1) rest

abbrev pub tokens_of : List ℕ → List Placed
tokens_of text = tokens_from 0 0 text

abbrev pub plain_tokens : List Placed → List Token
plain_tokens placed = map (λ (p : Placed). p.token) placed
