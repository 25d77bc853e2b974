-- The limits that the code has are those of the definitions.
use Rattle.std.proofs.Common.{◌≡◌, refl}
use Rattle.param_expr.specs.Limits.{most_name_bytes, most_expression_bytes, most_open_parentheses}
use Rattle.param_expr.specs.declared.limits.TheConstants.{MAX_NAME_BYTES, MAX_EXPRESSION_BYTES, MAX_OPEN_PARENTHESES}

name_bytes : MAX_NAME_BYTES ≡ most_name_bytes
name_bytes = refl

expression_bytes : MAX_EXPRESSION_BYTES ≡ most_expression_bytes
expression_bytes = refl

open_parentheses : MAX_OPEN_PARENTHESES ≡ most_open_parentheses
open_parentheses = refl
