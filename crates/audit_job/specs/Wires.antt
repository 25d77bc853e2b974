-- Which nodes keep the state of the graph that their actor names.
use Rattle.std.specs.Prelude.{Bool, false, List, slice_index_or}
use Rattle.sdf_level.specs.declared.node.Node.{Node}
use Rattle.sdf_level.specs.declared.node.Node.TheVariants as node

-- whether the state of the actor goes on whose firing a node is, where these say it of each actor
abbrev pub keeps_in : List Bool → Node → Bool
keeps_in keeps (node.Source s) = false
keeps_in keeps (node.Init l) = false
keeps_in keeps (node.Firing a k) = slice_index_or keeps a false
keeps_in keeps (node.Broadcast l) = false
keeps_in keeps (node.Fork l i) = false
keeps_in keeps (node.Join l j) = false
keeps_in keeps (node.Round l) = false
keeps_in keeps (node.End l) = false
keeps_in keeps (node.Sink t) = false
