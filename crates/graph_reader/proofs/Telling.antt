-- The first of faults that are told list by list.
use Rattle.std.proofs.Common.{◌≡◌, ◌⊎◌, inl, inr, ⊎_elim, List, [], ◌++◌, Some, Result, sym, subst}
use Rattle.pisdf_model.specs.Details.{first}
use Rattle.pisdf_model.proofs.Walking.{first-append}
use Rattle.graph_format.specs.Faults.{Tells}
use Rattle.graph_format.specs.declared.graph_fault.GraphFault.{GraphFault}
use Rattle.graph_format.specs.declared.graph_fault.GraphFault.TheVariants.{Memory}

-- the fault stands first, unless memory ran out
abbrev pub IsTold : List GraphFault → GraphFault → Type 0
IsTold faults fault = (fault ≡ Memory) ⊎ (first faults ≡ Some fault)

-- a fault of the first list stands first of all
pub stops : (xs ys : List GraphFault) (fault : GraphFault) → IsTold xs fault → IsTold (xs ++ ys) fault
stops xs ys fault told = ⊎_elim (λ (memory : fault ≡ Memory). inl memory) (λ (is : first xs ≡ Some fault). inr (first-append xs ys fault is)) told

-- where the first list is empty, the others decide
pub passes : (xs ys : List GraphFault) (fault : GraphFault) → xs ≡ [] → IsTold ys fault → IsTold (xs ++ ys) fault
passes xs ys fault none told = subst (λ zs. IsTold (zs ++ ys) fault) (sym none) told

pub tells_after : {U : Type 0} (xs ys : List GraphFault) (answer : Result U GraphFault) → xs ≡ [] → Tells ys answer → Tells (xs ++ ys) answer
tells_after xs ys answer none tells = subst (λ zs. Tells (zs ++ ys) answer) (sym none) tells

-- where there is no fault at all, what a part tells is want of memory
pub tells_none : {U : Type 0} (faults part : List GraphFault) (answer : Result U GraphFault) → faults ≡ [] → part ≡ [] → Tells part answer → Tells faults answer
tells_none faults part answer none none_here tells = subst (λ zs. Tells zs answer) (sym none) (subst (λ zs. Tells zs answer) none_here tells)
