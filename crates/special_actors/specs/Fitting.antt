-- The frames of the nodes that fire no kernel.
use Rattle.std.specs.Prelude.{◌≡◌, ℕ, ◌<◌, ◌≤◌, ◌^◌, List, length, sum}
use Rattle.sdf_level.specs.declared.node.Node.{Node}
use Rattle.sdf_level.specs.declared.node.Node.TheVariants as node
use Rattle.kernel_gate.specs.Value.{FrameView, lengths}

-- the lengths of inputs and of outputs that such a node has
abbrev pub HasLengths : Node → List ℕ → List ℕ → Type 0
HasLengths (node.Source s) ins outs = (length ins ≡ 1) × (outs ≡ ins)
HasLengths (node.Init l) ins outs = (length ins ≡ 1) × (outs ≡ ins)
HasLengths (node.Firing a k) ins outs = ⊥
HasLengths (node.Broadcast l) ins outs = (length ins ≡ 1) × (0 < sum ins)
HasLengths (node.Fork l i) ins outs = (length ins ≡ 1) × (sum outs ≡ sum ins)
HasLengths (node.Join l j) ins outs = (length outs ≡ 1) × (sum outs ≡ sum ins)
HasLengths (node.Round l) ins outs = (length outs ≡ 1) × (sum outs ≤ sum ins)
HasLengths (node.End l) ins outs = (length ins ≡ 1) × (outs ≡ ins)
HasLengths (node.Sink t) ins outs = (length ins ≡ 1) × (outs ≡ ins)

-- a frame of such a node
pub record IsFrameOf (n : Node) (f : FrameView) : Type 0 where
  -- a number of 32 bits tells the ports apart
  pub few_inputs : length f.inputs < 2 ^ 32
  pub few_outputs : length f.outputs < 2 ^ 32
  pub fitting : HasLengths n (lengths f.inputs) (lengths f.outputs)
