-- The ports of a job's nodes, each with the edge that enters or leaves there, if one does.
use Rattle.std.specs.Prelude.{◌≡◌, ℕ, ℤ, Bool, List, [], ◌∷◌, ◌++◌, length, slice_set, Option, Some, None, if◌then◌else◌}
use Rattle.split_block.specs.View.{Block, LeasePlace, IsWholePlace}
use Rattle.kernel_gate.specs.Leased.{AllWhole}
use Rattle.sdf_level.specs.declared.node.Node.{Node}
use Rattle.sdf_level.specs.declared.node.Node.TheVariants as node
pub use Rattle.job_compiler.specs.Rows.{row_of}
pub use Rattle.job_compiler.specs.Wired.{reads_stored, writes_stored, EachEnters, EachLeaves, port_size, AreWired}
use Rattle.one_job.specs.Taking.{Layout}

-- where the lease of a port lies: a port without an edge has an empty block of its own
abbrev pub Lies : Layout → Block → Option ℕ → LeasePlace → Type 0
Lies place block None p = IsWholePlace p × (p.len ≡ 0)
Lies place block (Some e) p = p ≡ record { block = block; start = (place e).start; len = (place e).len }

abbrev pub EachLies : Layout → Block → List (Option ℕ) → List LeasePlace → Type 0
EachLies place block [] [] = Unit {0}
EachLies place block [] (p ∷ places) = ⊥
EachLies place block (port ∷ ports) [] = ⊥
EachLies place block (port ∷ ports) (p ∷ places) = Lies place block port p × EachLies place block ports places

-- first so many blocks of their own, of tokens that are stored, then the leases of the ports
pub record LieBehind (place : Layout) (block : Block) (stored : Bool) (ports : List (Option ℕ)) (places : List LeasePlace) : Type 0 where
  pub own : List LeasePlace
  pub whole : AllWhole own
  pub count : length own ≡ (if stored then 1 else 0)
  pub others : List LeasePlace
  pub each : EachLies place block ports others
  pub all : places ≡ own ++ others

-- what is kept of the tokens that an End or a Sink writes: each has a list of its own among those of its kind
abbrev pub with_left : Node → List ℤ → List (List ℤ) → List (List ℤ)
with_left (node.Source s) tokens lists = lists
with_left (node.Init l) tokens lists = lists
with_left (node.Firing a k) tokens lists = lists
with_left (node.End l) tokens lists = slice_set lists l tokens
with_left (node.Sink t) tokens lists = lists
with_left (node.Broadcast l) tokens lists = lists
with_left (node.Fork l i) tokens lists = lists
with_left (node.Join l j) tokens lists = lists
with_left (node.Round l) tokens lists = lists

abbrev pub with_out : Node → List ℤ → List (List ℤ) → List (List ℤ)
with_out (node.Source s) tokens lists = lists
with_out (node.Init l) tokens lists = lists
with_out (node.Firing a k) tokens lists = lists
with_out (node.End l) tokens lists = lists
with_out (node.Sink t) tokens lists = slice_set lists t tokens
with_out (node.Broadcast l) tokens lists = lists
with_out (node.Fork l i) tokens lists = lists
with_out (node.Join l j) tokens lists = lists
with_out (node.Round l) tokens lists = lists
