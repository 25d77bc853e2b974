-- Expressions as trees with names at their leaves.
use Rattle.std.specs.Prelude.{◌≡◌, ℕ, suc, max, ℤ, pos, List, [], ◌∷◌, ◌++◌, refl, cond, ◌==◌}
use Rattle.std.specs.Coded.{Coded, code_by, coded×, coded_ℕ, coded_ℤ, coded_list}
use Rattle.std.proofs.Common.{sym, ap, ◌∙◌, append_assoc}
use Rattle.std.proofs.lemmas.List.{append-nil}
use Rattle.param_expr.specs.declared.op.Op.{Op}
use Rattle.param_expr.specs.declared.op.Op.TheVariants.{Add, Sub, Mul, Div, Rem, Min, Max}
use Rattle.param_expr.specs.Tree.{op_number, op_at}

-- a number, a name as its bytes, or an operation
pub data NamedTree : Type 0 where
  number : ℤ → NamedTree
  name : List ℕ → NamedTree
  binary : Op → NamedTree → NamedTree → NamedTree

abbrev pub height : NamedTree → ℕ
height (number z) = 0
height (name w) = 0
height (binary op a b) = suc (max (height a) (height b))

-- ---- a tree as a list of parts, from which it is built again

abbrev Part : Type 0
Part = ℕ × (ℤ × List ℕ)

-- an operation stands behind its two sides
abbrev to_parts : NamedTree → List Part
to_parts (number z) = (0, (z, [])) ∷ []
to_parts (name w) = (1, (pos 0, w)) ∷ []
to_parts (binary op a b) = to_parts a ++ (to_parts b ++ (op_number op, (pos 0, [])) ∷ [])

abbrev join : Op → List NamedTree → List NamedTree
join op [] = []
join op (b ∷ []) = []
join op (b ∷ a ∷ rest) = binary op a b ∷ rest

abbrev build : Part → List NamedTree → List NamedTree
build p stack = cond (p.0 == 0) (number p.1.0 ∷ stack) (cond (p.0 == 1) (name p.1.1 ∷ stack) (join (op_at p.0) stack))

abbrev build_all : List Part → List NamedTree → List NamedTree
build_all [] stack = stack
build_all (p ∷ ps) stack = build_all ps (build p stack)

abbrev top : List NamedTree → NamedTree
top [] = number (pos 0)
top (t ∷ stack) = t

abbrev from_parts : List Part → NamedTree
from_parts ps = top (build_all ps [])

build_op : (op : Op) (a b : NamedTree) (stack : List NamedTree) → build (op_number op, (pos 0, [])) (b ∷ a ∷ stack) ≡ binary op a b ∷ stack
build_op Add a b stack = refl
build_op Sub a b stack = refl
build_op Mul a b stack = refl
build_op Div a b stack = refl
build_op Rem a b stack = refl
build_op Min a b stack = refl
build_op Max a b stack = refl

build_tree : (t : NamedTree) (rest : List Part) (stack : List NamedTree) → build_all (to_parts t ++ rest) stack ≡ build_all rest (t ∷ stack)
build_tree (number z) rest stack = refl
build_tree (name w) rest stack = refl
build_tree (binary op a b) rest stack =
    ap (λ ps. build_all ps stack) (append_assoc (to_parts a) (to_parts b ++ (op_number op, (pos 0, [])) ∷ []) rest)
    ∙ build_tree a ((to_parts b ++ (op_number op, (pos 0, [])) ∷ []) ++ rest) stack
    ∙ ap (λ ps. build_all ps (a ∷ stack)) (append_assoc (to_parts b) ((op_number op, (pos 0, [])) ∷ []) rest)
    ∙ build_tree b ((op_number op, (pos 0, [])) ∷ rest) (a ∷ stack)
    ∙ ap (build_all rest) (build_op op a b stack)

pub from_parts-to_parts : (t : NamedTree) → from_parts (to_parts t) ≡ t
from_parts-to_parts t = ap (λ ps. top (build_all ps [])) (sym (append-nil (to_parts t))) ∙ ap top (build_tree t [] [])

abbrev pub named_code : Coded NamedTree
named_code = code_by (List Part) (coded_list (coded× coded_ℕ (coded× coded_ℤ (coded_list coded_ℕ)))) to_parts from_parts from_parts-to_parts
