-- What an expression is as a tree, where the expressions below it are trees.
use Rattle.param_expr.specs.Tree.{Tree, number, param, binary}
use Rattle.param_expr.specs.declared.expr.ExprForm.{ExprForm}
use Rattle.param_expr.specs.declared.expr.ExprForm.TheVariants.{Number, Param, Binary}

abbrev pub tree_of : ExprForm → Tree
tree_of (Number z) = number z
tree_of (Param i) = param i
tree_of (Binary op a b) = binary op a.value b.value
