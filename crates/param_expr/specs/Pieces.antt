-- The pieces that an operation is written of, one after the other.
use Rattle.std.specs.Prelude.{ℕ, ◌+◌, List, [], codes, IsTrue}
use Rattle.param_expr.specs.Eval.{in_i64}
use Rattle.param_expr.specs.Tree.{Tree, number, param, binary}
use Rattle.param_expr.specs.Print.{level_of}
use Rattle.param_expr.specs.declared.op.Op.{Op}
use Rattle.param_expr.specs.declared.op.Op.TheVariants.{Add, Sub, Mul, Div, Rem, Min, Max}

abbrev pub before_of : Op → List ℕ
before_of Min = codes "min("
before_of Max = codes "max("
before_of _ = []

abbrev pub between_of : Op → List ℕ
between_of Add = codes "+"
between_of Sub = codes "-"
between_of Mul = codes "*"
between_of Div = codes "/"
between_of Rem = codes "%"
between_of Min = codes ","
between_of Max = codes ","

abbrev pub after_of : Op → List ℕ
after_of Min = codes ")"
after_of Max = codes ")"
after_of _ = []

-- how tightly the left operand has to bind, and the right one
abbrev pub lhs_asks : Op → ℕ
lhs_asks Min = 0
lhs_asks Max = 0
lhs_asks op = level_of op

abbrev pub rhs_asks : Op → ℕ
rhs_asks Min = 0
rhs_asks Max = 0
rhs_asks op = level_of op + 1

-- each number lies in i64
abbrev pub HasSmallNumbers : Tree → Type 0
HasSmallNumbers (number z) = IsTrue (in_i64 z)
HasSmallNumbers (param i) = Unit {0}
HasSmallNumbers (binary op a b) = HasSmallNumbers a × HasSmallNumbers b
