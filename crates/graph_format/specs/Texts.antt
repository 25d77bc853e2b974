-- The texts of a graph file: names, expressions and ends.
use Rattle.std.specs.Prelude.{ℕ, ◌&&◌, ◌||◌, ◌==◌, List, [], ◌∷◌, Bool, if◌then◌else◌, Option, Some, None, option_map, option_and_then, Result, Ok, Err}
use Rattle.serde_json.specs.Data.{Data}
use Rattle.serde_json.specs.Find.{as_str}
use Rattle.param_expr.specs.Named.{NamedTree}
use Rattle.param_expr.specs.Words.{is_name, is_reserved}
use Rattle.param_expr.specs.Machine.{answer_of}
use Rattle.param_expr.specs.declared.fault.ExprFault.{ExprFault}
use Rattle.graph_format.specs.declared.fifo.FileEnd.{FileEnd}
use Rattle.graph_format.specs.declared.fifo.FileEnd.TheVariants.{Interface, Port}
use Rattle.graph_format.specs.Walk.{shaped}

-- ---- names

abbrev pub name_from : List ℕ → Option (List ℕ)
name_from text = if is_name text then Some text else None

abbrev pub name_at : List ℕ → Data → Result (List ℕ) (List ℕ)
name_at at d = shaped at (option_and_then name_from (as_str d))

-- the name of a kernel may also be `min` or `max`
abbrev pub is_kernel_name : List ℕ → Bool
is_kernel_name text = is_name text || is_reserved text

abbrev pub kernel_from : List ℕ → Option (List ℕ)
kernel_from text = if is_kernel_name text then Some text else None

abbrev pub kernel_at : List ℕ → Data → Result (List ℕ) (List ℕ)
kernel_at at d = shaped at (option_and_then kernel_from (as_str d))

-- ---- expressions

abbrev pub if_parsed : Result NamedTree ExprFault → Option NamedTree
if_parsed (Ok expr) = Some expr
if_parsed (Err fault) = None

abbrev pub expression_from : List ℕ → Option NamedTree
expression_from text = if_parsed (answer_of text)

abbrev pub expression_at : List ℕ → Data → Result NamedTree (List ℕ)
expression_at at d = shaped at (option_and_then expression_from (as_str d))

-- ---- ends

abbrev pub put_in_front : ℕ → List ℕ × List ℕ → List ℕ × List ℕ
put_in_front b parts = (b ∷ parts.0, parts.1)

-- what stands before the first `.`, and what after it
abbrev pub cut_at_point : List ℕ → Option (List ℕ × List ℕ)
cut_at_point [] = None
cut_at_point (b ∷ rest) = if b == 46 then Some ([], rest) else option_map (put_in_front b) (cut_at_point rest)

abbrev pub end_of_parts : List ℕ → Option (List ℕ × List ℕ) → Option FileEnd
end_of_parts text None = if is_name text then Some (Interface text) else None
end_of_parts text (Some parts) = if is_name parts.0 && is_name parts.1 then Some (Port parts.0 parts.1) else None

abbrev pub end_from : List ℕ → Option FileEnd
end_from text = end_of_parts text (cut_at_point text)

abbrev pub end_at : List ℕ → Data → Result FileEnd (List ℕ)
end_at at d = shaped at (option_and_then end_from (as_str d))
