-- Expressions as trees.
use Rattle.std.specs.Prelude.{◌≡◌, ℕ, suc, max, ℤ, pos, List, [], ◌∷◌, ◌++◌, refl, cond, ◌==◌}
use Rattle.std.specs.Coded.{Coded, code_by, coded×, coded_ℕ, coded_ℤ, coded_list}
use Rattle.std.proofs.Common.{sym, ap, ◌∙◌, append_assoc}
use Rattle.std.proofs.lemmas.List.{append-nil}
use Rattle.param_expr.specs.declared.op.Op.{Op}
use Rattle.param_expr.specs.declared.op.Op.TheVariants.{Add, Sub, Mul, Div, Rem, Min, Max}

pub data Tree : Type 0 where
  number : ℤ → Tree
  param : ℕ → Tree
  binary : Op → Tree → Tree → Tree

abbrev pub height : Tree → ℕ
height (number z) = 0
height (param i) = 0
height (binary op a b) = suc (max (height a) (height b))

-- ---- a tree as a list of numbers, from which it is built again

abbrev pub op_number : Op → ℕ
op_number Add = 2
op_number Sub = 3
op_number Mul = 4
op_number Div = 5
op_number Rem = 6
op_number Min = 7
op_number Max = 8

abbrev pub op_at : ℕ → Op
op_at n = cond (n == 2) Add (cond (n == 3) Sub (cond (n == 4) Mul (cond (n == 5) Div (cond (n == 6) Rem (cond (n == 7) Min Max)))))

abbrev Part : Type 0
Part = ℕ × (ℤ × ℕ)

-- an operation stands behind its two sides
abbrev to_parts : Tree → List Part
to_parts (number z) = (0, (z, 0)) ∷ []
to_parts (param i) = (1, (pos 0, i)) ∷ []
to_parts (binary op a b) = to_parts a ++ (to_parts b ++ (op_number op, (pos 0, 0)) ∷ [])

abbrev join : Op → List Tree → List Tree
join op [] = []
join op (b ∷ []) = []
join op (b ∷ a ∷ rest) = binary op a b ∷ rest

abbrev build : Part → List Tree → List Tree
build p stack = cond (p.0 == 0) (number p.1.0 ∷ stack) (cond (p.0 == 1) (param p.1.1 ∷ stack) (join (op_at p.0) stack))

abbrev build_all : List Part → List Tree → List Tree
build_all [] stack = stack
build_all (p ∷ ps) stack = build_all ps (build p stack)

abbrev top : List Tree → Tree
top [] = number (pos 0)
top (t ∷ stack) = t

abbrev from_parts : List Part → Tree
from_parts ps = top (build_all ps [])

build_op : (op : Op) (a b : Tree) (stack : List Tree) → build (op_number op, (pos 0, 0)) (b ∷ a ∷ stack) ≡ binary op a b ∷ stack
build_op Add a b stack = refl
build_op Sub a b stack = refl
build_op Mul a b stack = refl
build_op Div a b stack = refl
build_op Rem a b stack = refl
build_op Min a b stack = refl
build_op Max a b stack = refl

build_tree : (t : Tree) (rest : List Part) (stack : List Tree) → build_all (to_parts t ++ rest) stack ≡ build_all rest (t ∷ stack)
build_tree (number z) rest stack = refl
build_tree (param i) rest stack = refl
build_tree (binary op a b) rest stack =
    ap (λ ps. build_all ps stack) (append_assoc (to_parts a) (to_parts b ++ (op_number op, (pos 0, 0)) ∷ []) rest)
    ∙ build_tree a ((to_parts b ++ (op_number op, (pos 0, 0)) ∷ []) ++ rest) stack
    ∙ ap (λ ps. build_all ps (a ∷ stack)) (append_assoc (to_parts b) ((op_number op, (pos 0, 0)) ∷ []) rest)
    ∙ build_tree b ((op_number op, (pos 0, 0)) ∷ rest) (a ∷ stack)
    ∙ ap (build_all rest) (build_op op a b stack)

pub from_parts-to_parts : (t : Tree) → from_parts (to_parts t) ≡ t
from_parts-to_parts t = ap (λ ps. top (build_all ps [])) (sym (append-nil (to_parts t))) ∙ ap top (build_tree t [] [])

abbrev pub tree_code : Coded Tree
tree_code = code_by (List Part) (coded_list (coded× coded_ℕ (coded× coded_ℤ coded_ℕ))) to_parts from_parts from_parts-to_parts
