-- The texts that a run puts.
use Rattle.std.specs.Prelude.{ℕ, ◌+◌, ℤ, List, [], ◌∷◌, ◌++◌}
use Rattle.token_text.specs.Rows.{tokens_text, param_text}
use Rattle.pisdf_model.specs.declared.graph.Interface.{Interface}
use Rattle.pisdf_meaning.specs.declared.outcome.Iteration.{Iteration}
use Rattle.pisdf_meaning.specs.declared.outcome.TraceRow.{TraceRow}

-- texts one after another
abbrev pub joined : List (List ℕ) → List ℕ
joined [] = []
joined (text ∷ texts) = text ++ joined texts

-- the rows of the chosen parameters' values
abbrev pub param_rows : ℕ → List TraceRow → List ℕ
param_rows n [] = []
param_rows n (row ∷ rows) = param_text n row.path row.name row.value ++ param_rows n rows

-- a row of tokens for each output
abbrev pub token_rows : ℕ → List Interface → List (List ℤ) → List ℕ
token_rows n [] lists = []
token_rows n (output ∷ outputs) [] = []
token_rows n (output ∷ outputs) (tokens ∷ lists) = tokens_text n output.name tokens ++ token_rows n outputs lists

-- the text of iteration n: its parameter trace, and then its outputs
abbrev pub iteration_text : ℕ → List Interface → Iteration → List ℕ
iteration_text n outputs iteration = param_rows n iteration.trace ++ token_rows n outputs iteration.outs

-- the texts of iterations from number n on
abbrev pub texts_from : ℕ → List Interface → List Iteration → List (List ℕ)
texts_from n outputs [] = []
texts_from n outputs (iteration ∷ iterations) = iteration_text n outputs iteration ∷ texts_from (n + 1) outputs iterations
