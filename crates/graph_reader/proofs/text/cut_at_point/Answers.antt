use Rattle.std.proofs.Common.{◌≡◌, ℕ, List, ◌∷◌, ◌++◌, Bor, Option, Some, None, option_map, sym, ap, ◌∙◌, arith}
use Rattle.std.specs.Prelude.{MatchOption}
use Rattle.std.proofs.lemmas.Str.Pattern.{split_parts}
use Rattle.graph_format.specs.Texts.{cut_at_point}
use Rattle.graph_format.proofs.Points.{Lacks, cut_none, cut_some}
use Rattle.graph_reader.proofs.text.cut_at_point.Goals as goal

cut : (text : List ℕ) (r : Option (Bor (List ℕ) × Bor (List ℕ))) → MatchOption r (Lacks text) (λ x. (text ≡ x.0.now ++ (46 ∷ x.1.now)) × Lacks x.0.now) → option_map (λ parts. (parts.0.now, parts.1.now)) r ≡ cut_at_point text
cut text None h = sym (cut_none text h)
cut text (Some x) h = sym (ap cut_at_point h.0 ∙ cut_some x.0.now x.1.now h.1)

pub returns : goal.returns
returns c = cut c.args.text.now c.split_once.result (split_parts 46 c.args.text.now c.split_once.result c.split_once.ensures.cases (omega arith))
