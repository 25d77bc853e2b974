-- What the bytes of a file are read as, in terms of the file that they state.
use Rattle.std.proofs.Common.{◌≡◌, ◌⊎◌, inl, inr, ⊎_elim, ℕ, ◌≤◌, ◌&&◌, cond, Bool, false, ℤ, pos, List, [], ◌∷◌, All, true, Option, Some, None, Result, Ok, Err, refl, sym, ap, ◌∙◌, subst, arith}
use Rattle.std.specs.Prelude.{IfErr, IfOk, nat_le, option_and_then}
use Rattle.std.proofs.lemmas.Bool.Decides.{nat_tests}
use Rattle.serde_json.specs.Data.{Data}
use Rattle.kernel_gate.specs.Signed.{SignatureView}
use Rattle.pisdf_model.specs.Details.{first}
use Rattle.pisdf_model.specs.Range.{InRange}
use Rattle.pisdf_model.specs.Valid.{AreNamed}
use Rattle.pisdf_model.specs.WellFormed.{WellFormed}
use Rattle.pisdf_model.specs.declared.graph.Graphs.{Graphs}
use Rattle.graph_format.specs.Faults.{Tells, file_faults, graphs_of}
use Rattle.graph_format.specs.Kernels.{kernel_names}
use Rattle.graph_format.specs.Means.{Means}
use Rattle.graph_format.specs.Objects.{file_at, stated_version}
use Rattle.graph_format.specs.Placed.{tokens_of}
use Rattle.graph_format.specs.Reads.{AreReadAs, IsJson, Reads, graphs_or_fault, of_version, other_version, reading, unless_faulty, version_of}
use Rattle.graph_format.specs.States.{StatesIn, States}
use Rattle.graph_format.specs.Walk.{whole_of}
use Rattle.graph_format.specs.Writable.{IsWritableGraph}
use Rattle.graph_format.specs.declared.file.File.{File}
use Rattle.graph_format.specs.declared.graph_fault.GraphFault.{GraphFault}
use Rattle.graph_format.specs.declared.graph_fault.GraphFault.TheVariants.{Memory, NotJson}
use Rattle.graph_format.proofs.FileNamed.{named}
use Rattle.graph_format.proofs.Laws.{well_formed}
use Rattle.graph_format.proofs.NoFaults.{no_file_faults}
use Rattle.graph_format.proofs.StatedFiles.{file_reads}
use Rattle.graph_format.proofs.Writable.{writable}
use Rattle.graph_format.proofs.Ranged.{file_in_range}
use Rattle.graph_format.proofs.OfVersion.{stated_of_version}

-- ---- a file and its first fault

faultless : (graphs found : Graphs) (faults : List GraphFault) → unless_faulty graphs faults ≡ Ok found → (faults ≡ []) × (found ≡ graphs)
faultless graphs found [] is = let same : graphs ≡ found = cc in (refl, sym same)
faultless graphs found (fault ∷ faults) is = absurd cc

first_fault : (graphs : Graphs) (faults : List GraphFault) (fault : GraphFault) → unless_faulty graphs faults ≡ Err fault → first faults ≡ Some fault
first_fault graphs [] fault is = absurd cc
first_fault graphs (f ∷ faults) fault is = let same : f ≡ fault = cc in ap Some same

faulty : (graphs : Graphs) (faults : List GraphFault) (fault : GraphFault) → first faults ≡ Some fault → unless_faulty graphs faults ≡ Err fault
faulty graphs [] fault is = absurd cc
faulty graphs (f ∷ faults) fault is = let same : f ≡ fault = cc in ap Err same

-- ---- a value that states a file

version_stated : (version : ℕ) (d : Data) (file : File) → StatesIn version d file → stated_version d ≡ Some (pos file.version)
version_stated version d file f = ap (option_and_then whole_of) f.pisdf.is_there ∙ f.pisdf.states.number

states_reading : (signatures : List SignatureView) (d : Data) (file : File) → States d file → reading signatures d ≡ unless_faulty (graphs_of signatures file) (file_faults signatures file)
states_reading signatures d file f =
    let low : nat_le 1 file.version ≡ true = grind (arith, nat_tests, f.first_version) in
    let high : nat_le file.version 3 ≡ true = grind (arith, nat_tests, f.last_version) in
    rw (version_stated file.version d file f.states, low, high, (file_reads file.version).again [] d file f.states) refl

pub reads_file : (signatures : List SignatureView) (bytes : List ℕ) (file : File) (r : Result Graphs GraphFault) → (d : Data) × IsJson bytes d × States d file → Tells (file_faults signatures file) r → IfOk r (λ g. g ≡ graphs_of signatures file)
    → Reads signatures bytes r
reads_file signatures bytes file (Ok g) h none is =
    (h.0, h.1, states_reading signatures h.0 file h.2 ∙ ap (unless_faulty (graphs_of signatures file)) none ∙ ap Ok (sym is))
reads_file signatures bytes file (Err fault) h told is =
    ⊎_elim
    (λ (memory : fault ≡ Memory). inl memory)
    (λ (stands : first (file_faults signatures file) ≡ Some fault). inr (inr (h.0, h.1, states_reading signatures h.0 file h.2 ∙ faulty (graphs_of signatures file) (file_faults signatures file) fault stands)))
    told

-- ---- what was read is stated

-- the bytes state a file that has no fault, and these are its graphs
pub record IsFound (signatures : List SignatureView) (bytes : List ℕ) (graphs : Graphs) : Type 0 where
  pub value : Data
  pub json : IsJson bytes value
  pub file : File
  pub states : States value file
  pub none : file_faults signatures file ≡ []
  pub is : graphs ≡ graphs_of signatures file

walked : (signatures : List SignatureView) (other : Option ℤ) (walk : Result File (List ℕ)) (graphs : Graphs) → of_version other (graphs_or_fault signatures walk) ≡ Ok graphs
    → (other ≡ None) × (file : File) × (walk ≡ Ok file) × (unless_faulty (graphs_of signatures file) (file_faults signatures file) ≡ Ok graphs)
walked signatures None (Ok file) graphs is = (refl, file, refl, is)
walked signatures None (Err pointer) graphs is = absurd cc
walked signatures (Some version) walk graphs is = absurd cc

-- a version that is one of the format's
is_a_version : (n : ℕ) (one : Bool) → (nat_le 1 n && nat_le n 3) ≡ one → cond one None (Some (pos n)) ≡ None → (1 ≤ n) × (n ≤ 3)
is_a_version n true is none = (grind (arith, nat_tests, is), grind (arith, nat_tests, is))
is_a_version n false is none = absurd cc

pub states_file : (version : ℕ) (d : Data) (file : File) → StatesIn version d file → other_version (stated_version d) ≡ None → States d file
states_file version d file f none =
    let here : other_version (Some (pos file.version)) ≡ None = rw (version_stated version d file f) at none in
    let one = is_a_version file.version (nat_le 1 file.version && nat_le file.version 3) refl here in
    record { first_version = one.0; last_version = one.1; states = subst (λ v. StatesIn v d file) (sym f.pisdf.states.is_version) f }

pub found : (signatures : List SignatureView) (bytes : List ℕ) (graphs : Graphs) → Reads signatures bytes (Ok graphs) → IsFound signatures bytes graphs
found signatures bytes graphs h =
    let version = version_of (stated_version h.0) in
    let walk = walked signatures (other_version (stated_version h.0)) (file_at version [] h.0) graphs h.2 in
    let read = faultless (graphs_of signatures walk.1) graphs (file_faults signatures walk.1) walk.3 in
    record { value = h.0; json = h.1; file = walk.1; states = states_file version h.0 walk.1 ((file_reads version).found [] h.0 walk.1 walk.2) walk.0; none = read.0; is = read.1 }

module _ (signatures : List SignatureView) (bytes : List ℕ) where
  pub reads_mean : (r : Result Graphs GraphFault) → Reads signatures bytes r → IfOk r (λ graphs. (d : Data) × IsJson bytes d × ((file : File) × States d file × Means signatures file graphs))
  reads_mean (Ok graphs) h =
      let f = found signatures bytes graphs h in
      let has = no_file_faults signatures f.file f.none in
      (f.value, f.json, (f.file, f.states, record { references = has.unknown; kernels = has.unfit; is = f.is }))
  reads_mean (Err fault) h = tt

  pub reads_in_range : (r : Result Graphs GraphFault) → Reads signatures bytes r → IfOk r (λ graphs. InRange graphs)
  reads_in_range (Ok graphs) h =
      let f = found signatures bytes graphs h in
      subst InRange (sym f.is) (file_in_range tokens_of (kernel_names signatures) f.file (stated_of_version f.value f.file f.states) (no_file_faults signatures f.file f.none).unknown)
  reads_in_range (Err fault) h = tt

  pub reads_well_formed : (r : Result Graphs GraphFault) → Reads signatures bytes r → IfOk r (λ graphs. WellFormed graphs)
  reads_well_formed (Ok graphs) h =
      let f = found signatures bytes graphs h in
      subst (λ (g : Graphs). WellFormed g) (sym f.is) (well_formed signatures f.file f.none)
  reads_well_formed (Err fault) h = tt

  pub reads_named : (r : Result Graphs GraphFault) → Reads signatures bytes r → IfOk r (λ graphs. AreNamed graphs)
  reads_named (Ok graphs) h =
      let f = found signatures bytes graphs h in
      subst (λ (g : Graphs). AreNamed g) (sym f.is) (named signatures f.value f.file f.states.states)
  reads_named (Err fault) h = tt

  pub reads_writable : (r : Result Graphs GraphFault) → Reads signatures bytes r → IfOk r (λ graphs. All IsWritableGraph graphs.graphs)
  reads_writable (Ok graphs) h =
      let f = found signatures bytes graphs h in
      let range = file_in_range tokens_of (kernel_names signatures) f.file (stated_of_version f.value f.file f.states) (no_file_faults signatures f.file f.none).unknown in
      subst (λ (g : Graphs). All IsWritableGraph g.graphs) (sym f.is) (writable signatures f.value f.file f.states.states range)
  reads_writable (Err fault) h = tt

-- ---- what is stated is read

abbrev found_value : Data → Option Data
found_value d = Some d

-- the bytes are one value
one_value : (bytes : List ℕ) (d e : Data) → IsJson bytes d → IsJson bytes e → d ≡ e
one_value bytes d e p q = let same : found_value d ≡ found_value e = sym p.1 ∙ q.1 in cc

-- what the bytes are read as, where they state a file
read_as : (signatures : List SignatureView) (bytes : List ℕ) (d : Data) (file : File) (answer : Result Graphs GraphFault) → AreReadAs signatures bytes answer → IsJson bytes d → States d file
    → unless_faulty (graphs_of signatures file) (file_faults signatures file) ≡ answer
read_as signatures bytes d file answer h json f =
    sym (states_reading signatures d file f) ∙ ap (reading signatures) (one_value bytes d h.0 json h.1) ∙ h.2

pub reads_stated : (signatures : List SignatureView) (bytes : List ℕ) (r : Result Graphs GraphFault) → Reads signatures bytes r → (d : Data) (file : File) → IsJson bytes d → States d file
    → Tells (file_faults signatures file) r × IfOk r (λ graphs. graphs ≡ graphs_of signatures file)
reads_stated signatures bytes (Ok graphs) h d file json f = faultless (graphs_of signatures file) graphs (file_faults signatures file) (read_as signatures bytes d file (Ok graphs) h json f)
reads_stated signatures bytes (Err fault) h d file json f =
    let told : Tells {U = Graphs} (file_faults signatures file) (Err fault) =
    ⊎_elim
    (λ (memory : fault ≡ Memory). inl memory)
    (λ (rest : ((fault ≡ NotJson) × ((d : Data) → IsJson bytes d → ⊥)) ⊎ AreReadAs signatures bytes (Err fault)).
    ⊎_elim
    (λ (none : (fault ≡ NotJson) × ((d : Data) → IsJson bytes d → ⊥)). absurd (none.1 d json))
    (λ (read : AreReadAs signatures bytes (Err fault)). inr (first_fault (graphs_of signatures file) (file_faults signatures file) fault (read_as signatures bytes d file (Err fault) read json f)))
    rest)
    h in
    (told, tt)

-- ---- what is no file

-- the fault of a value is that of the bytes that it is read from
pub value_refused : (signatures : List SignatureView) (bytes : List ℕ) (d : Data) (r : Result File GraphFault) → IsJson bytes d → IfErr r (λ fault. (fault ≡ Memory) ⊎ (reading signatures d ≡ Err fault)) → IfErr r (λ fault. Reads signatures bytes (Err fault))
value_refused signatures bytes d (Ok file) json h = tt
value_refused signatures bytes d (Err fault) json h = ⊎_elim (λ (memory : fault ≡ Memory). inl memory) (λ (read : reading signatures d ≡ Err fault). inr (inr (d, json, read))) h
