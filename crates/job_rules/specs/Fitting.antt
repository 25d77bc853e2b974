-- Kernels are asked what fits their signatures, and firings that are called have a value for each inherited parameter.
use Rattle.std.specs.Prelude.{◌≡◌, ℕ, List, length, slice_get, Some}
use Rattle.kernel_gate.specs.Signed.{Counts}
use Rattle.pisdf_model.specs.Ports.{inherited_count}
use Rattle.pisdf_model.specs.declared.graph.Graph.{Graph}
use Rattle.pisdf_model.specs.declared.graph.Graphs.{Graphs}
use Rattle.pisdf_meaning.specs.Kernels.{FitsKernel}
use Rattle.pisdf_meaning.specs.Sound.{AreValidFor}
use Rattle.pisdf_meaning.specs.declared.firing.Firing.{Firing}
use Rattle.nested_jobs.specs.Rules.{Work, Call, Values}
use Rattle.job_rules.specs.Words.{Answer, Asked, Fires, Spot}
use Rattle.job_rules.specs.Items.{rule}
use Rattle.job_rules.specs.Meant.{IsFit}

-- as many arguments, inputs, outputs and sets as the signature of the kernel takes
abbrev pub FitsAsked : List Counts → Asked → Type 0
FitsAsked signatures asked = FitsKernel signatures asked.kind (length asked.args) (length asked.inputs) (length asked.lens) asked.sets

-- where the graphs are well formed, their kernels fit and the firing is given what its graph takes, each kernel that fires is
-- asked what fits its signature, whatever was answered before
abbrev pub TasksFit : Type 0
TasksFit = (signatures : List Counts) (graphs : Graphs) → AreValidFor signatures graphs →
    (firing : Firing) (v : Values Answer) (i : ℕ) (spot : Spot) (asked : Asked) → IsFit graphs.graphs firing → rule graphs.graphs firing v i ≡ Some (Work (Fires spot asked)) → FitsAsked signatures asked

-- a value for each inherited parameter of its graph
abbrev pub InheritsAll : List Graph → Firing → Type 0
InheritsAll graphs d = length d.inherited ≡ inherited_count (slice_get graphs d.graph)

-- and each firing that is called has those
abbrev pub CallsInherit : Type 0
CallsInherit = (signatures : List Counts) (graphs : Graphs) → AreValidFor signatures graphs →
    (firing : Firing) (v : Values Answer) (i : ℕ) (d : Firing) → IsFit graphs.graphs firing → rule graphs.graphs firing v i ≡ Some (Call d) → InheritsAll graphs.graphs d
