-- What the nodes of a single-rate graph that only copy tokens do (PREESM's special actors).
use Rattle.std.specs.Prelude.{◌≡◌, List, length}
use Rattle.sdf_level.specs.Interfaces.{repeated, last}
use Rattle.sdf_level.specs.declared.node.Node.{Node}
use Rattle.sdf_level.specs.declared.node.Node.TheVariants as node

-- The tokens that leave such a node, for those that arrive: a Fork cuts what arrives, a Join joins it, a Broadcast repeats
-- it, a Round keeps its last. Of the other nodes this says nothing.
abbrev pub Copies : {T : Type 0} → Node → List T → List T → Type 0
Copies (node.Source s) ins outs = Unit {0}
Copies (node.Init l) ins outs = Unit {0}
Copies (node.Firing a k) ins outs = Unit {0}
Copies (node.Broadcast l) ins outs = outs ≡ repeated ins 0 (length outs)
Copies (node.Fork l i) ins outs = outs ≡ ins
Copies (node.Join l j) ins outs = outs ≡ ins
Copies (node.Round l) ins outs = outs ≡ last (length outs) ins
Copies (node.End l) ins outs = Unit {0}
Copies (node.Sink t) ins outs = Unit {0}
