-- What a parsed expression is as a tree, where those below it are trees.
use Rattle.param_expr.specs.Named.{NamedTree, number, name, binary}
use Rattle.param_expr.specs.declared.parsed.NamedForm.{NamedForm}
use Rattle.param_expr.specs.declared.parsed.NamedForm.TheVariants.{Number, Named, Binary}

abbrev pub named_tree : NamedForm → NamedTree
named_tree (Number z) = number z
named_tree (Named w) = name w
named_tree (Binary op a b) = binary op a.value b.value
