-- What each node that fires no kernel gives for what it gets.
use Rattle.std.specs.Prelude.{◌≡◌, List}
use Rattle.std.specs.List.{flat_map}
use Rattle.sdf_level.specs.Copying.{Copies}
use Rattle.sdf_level.specs.declared.node.Node.{Node}
use Rattle.sdf_level.specs.declared.node.Node.TheVariants as node

-- the tokens of the ports, one port after the other
abbrev pub joined : {T : Type 0} → List (List T) → List T
joined lists = flat_map (λ l. l) lists

-- The tokens of a node's outputs, joined, for the tokens of its inputs, joined: the ends of the graph pass on what they get,
-- and the other nodes copy it.
abbrev pub PassesOn : {T : Type 0} → Node → List T → List T → Type 0
PassesOn (node.Source s) ins outs = outs ≡ ins
PassesOn (node.Init l) ins outs = outs ≡ ins
PassesOn (node.Firing a k) ins outs = ⊥
PassesOn (node.Broadcast l) ins outs = Copies (node.Broadcast l) ins outs
PassesOn (node.Fork l i) ins outs = Copies (node.Fork l i) ins outs
PassesOn (node.Join l j) ins outs = Copies (node.Join l j) ins outs
PassesOn (node.Round l) ins outs = Copies (node.Round l) ins outs
PassesOn (node.End l) ins outs = outs ≡ ins
PassesOn (node.Sink t) ins outs = outs ≡ ins
