-- A fault of shape tells the first value of the walk that has not its form.
use Rattle.std.proofs.Common.{◌≡◌, ◌⊎◌, ⊎_elim, Bool, All, subst, ℕ, ℤ, List, [], ◌∷◌, ◌++◌, map, Option, Some, None, Result, Ok, Err, refl, sym, ◌∙◌}
use Rattle.std.specs.Prelude.{IfErr}
use Rattle.std.proofs.lemmas.List.Elements.{All-nil, All-cons, All-head, All-append}
use Rattle.serde_json.specs.Data.{Data}
use Rattle.kernel_gate.specs.Signed.{SignatureView}
use Rattle.pisdf_model.specs.Count.{count_faults}
use Rattle.pisdf_model.specs.InterfaceWires.{interface_wire_faults}
use Rattle.pisdf_model.specs.Names.{repeats}
use Rattle.pisdf_model.specs.Nesting.{depth_faults, graph_cycle_faults}
use Rattle.pisdf_model.specs.ParamOrder.{param_order_faults}
use Rattle.pisdf_model.specs.Ports.{ports_faults}
use Rattle.pisdf_model.specs.Wires.{wire_faults}
use Rattle.pisdf_model.specs.declared.actor.Body.{Body}
use Rattle.pisdf_model.specs.declared.graph.Graphs.{Graphs}
use Rattle.graph_format.specs.Faults.{at_fifo, file_faults, fits_kernel, graphs_of, rule_faults, too_many}
use Rattle.graph_format.specs.FileNames.{names_of_file}
use Rattle.graph_format.specs.Kernels.{unfit_in_file}
use Rattle.graph_format.specs.Objects.{file_at, stated_version}
use Rattle.graph_format.specs.Reads.{AreReadAs, IsJson, IsMisshapen, Reads, TellsShape, graphs_or_fault, of_version, other_version, unless_faulty, version_of}
use Rattle.graph_format.specs.References.{unknown_in_file}
use Rattle.graph_format.specs.declared.file.File.{File}
use Rattle.graph_format.specs.declared.graph_fault.GraphFault.{GraphFault}
use Rattle.graph_format.specs.declared.graph_fault.GraphFault.TheVariants.{Count, Depth, Duplicate, GraphCycle, InterfaceWire, Kernel, Memory, NotJson, ParamOrder, Ports, Shape, Unknown, Version, Wire}
use Rattle.graph_format.proofs.Located.{fault_of, located}

-- ---- the faults of a file that has its form

abbrev IsOther : GraphFault → Type 0
IsOther NotJson = Unit {0}
IsOther (Shape pointer) = ⊥
IsOther (Version version) = Unit {0}
IsOther (Duplicate name) = Unit {0}
IsOther (Unknown name) = Unit {0}
IsOther (Kernel name) = Unit {0}
IsOther (Ports name) = Unit {0}
IsOther (Wire name) = Unit {0}
IsOther (InterfaceWire graph fifo) = Unit {0}
IsOther (ParamOrder name) = Unit {0}
IsOther (GraphCycle name) = Unit {0}
IsOther (Depth name) = Unit {0}
IsOther (Count word) = Unit {0}
IsOther Memory = Unit {0}

each_other : {A : Type 0} (kind : A → GraphFault) → ((x : A) → IsOther (kind x)) → (xs : List A) → All IsOther (map kind xs)
each_other kind other [] = All-nil IsOther
each_other kind other (x ∷ xs) = All-cons IsOther (kind x) (map kind xs) (other x) (each_other kind other xs)

both_other : (xs ys : List GraphFault) → All IsOther xs → All IsOther ys → All IsOther (xs ++ ys)
both_other xs ys one two = All-append IsOther xs ys one two

rules_other : (fits : Body → Bool) (g : Graphs) → All IsOther (rule_faults fits g)
rules_other fits g =
    both_other _ _ (each_other Ports (λ x. tt) (ports_faults fits g))
    (both_other _ _ (each_other Wire (λ x. tt) (wire_faults g))
    (both_other _ _ (each_other at_fifo (λ x. tt) (interface_wire_faults g))
    (both_other _ _ (each_other ParamOrder (λ x. tt) (param_order_faults g))
    (both_other _ _ (each_other GraphCycle (λ x. tt) (graph_cycle_faults g))
    (each_other Depth (λ x. tt) (depth_faults g))))))

file_other : (signatures : List SignatureView) (file : File) → All IsOther (file_faults signatures file)
file_other signatures file =
    both_other _ _ (each_other Duplicate (λ x. tt) (repeats (names_of_file file)))
    (both_other _ _ (each_other Unknown (λ x. tt) (unknown_in_file file))
    (both_other _ _ (each_other Kernel (λ x. tt) (unfit_in_file signatures file))
    (both_other _ _ (rules_other (fits_kernel signatures) (graphs_of signatures file))
    (each_other too_many (λ x. tt) (count_faults (graphs_of signatures file))))))

not_shape : (graphs : Graphs) (faults : List GraphFault) (pointer : List ℕ) → All IsOther faults → unless_faulty graphs faults ≡ Err (Shape pointer) → ⊥
not_shape graphs [] pointer other is = absurd cc
not_shape graphs (fault ∷ faults) pointer other is =
    let same : fault ≡ Shape pointer = cc in
    subst IsOther same (All-head IsOther fault faults other)

-- ---- the fault of a file that has not its form

misshapen_at : (signatures : List SignatureView) (walk : Result File (List ℕ)) (other : Option ℤ) (pointer : List ℕ) → of_version other (graphs_or_fault signatures walk) ≡ Err (Shape pointer) → fault_of walk ≡ Some pointer
unfolding fault_of
misshapen_at signatures (Ok file) None pointer is = absurd (not_shape (graphs_of signatures file) (file_faults signatures file) pointer (file_other signatures file) is)
misshapen_at signatures (Err found) None pointer is = cc
misshapen_at signatures walk (Some version) pointer is = absurd cc

misshapen : (signatures : List SignatureView) (bytes pointer : List ℕ) → AreReadAs signatures bytes (Err (Shape pointer)) → IsMisshapen bytes pointer
misshapen signatures bytes pointer h =
    let version = version_of (stated_version h.0) in
    record {
      value = h.0;
      json = h.1;
      first_one = sym (located version h.0 (file_at version [] h.0) refl) ∙ misshapen_at signatures (file_at version [] h.0) (other_version (stated_version h.0)) pointer h.2;
    }

told : (signatures : List SignatureView) (bytes : List ℕ) (fault : GraphFault) → Reads signatures bytes (Err fault) → TellsShape bytes fault
told signatures bytes NotJson h = tt
told signatures bytes (Shape pointer) h =
    ⊎_elim
    (λ (memory : Shape pointer ≡ Memory). absurd cc)
    (λ (rest : ((Shape pointer ≡ NotJson) × ((d : Data) → IsJson bytes d → ⊥)) ⊎ AreReadAs signatures bytes (Err (Shape pointer))).
    ⊎_elim
    (λ (none : (Shape pointer ≡ NotJson) × ((d : Data) → IsJson bytes d → ⊥)). let never : Shape pointer ≡ NotJson = none.0 in absurd cc)
    (λ (read : AreReadAs signatures bytes (Err (Shape pointer))). misshapen signatures bytes pointer read)
    rest)
    h
told signatures bytes (Version version) h = tt
told signatures bytes (Duplicate name) h = tt
told signatures bytes (Unknown name) h = tt
told signatures bytes (Kernel name) h = tt
told signatures bytes (Ports name) h = tt
told signatures bytes (Wire name) h = tt
told signatures bytes (InterfaceWire graph fifo) h = tt
told signatures bytes (ParamOrder name) h = tt
told signatures bytes (GraphCycle name) h = tt
told signatures bytes (Depth name) h = tt
told signatures bytes (Count word) h = tt
told signatures bytes Memory h = tt

-- what is answered for bytes tells the place of a fault of shape
pub tells_shape : (signatures : List SignatureView) (bytes : List ℕ) (r : Result Graphs GraphFault) → Reads signatures bytes r → IfErr r (λ fault. TellsShape bytes fault)
tells_shape signatures bytes (Ok graphs) h = tt
tells_shape signatures bytes (Err fault) h = told signatures bytes fault h
