-- The pointers of places.
use Rattle.std.specs.Prelude.{◌≡◌, ℕ, List, []}
use Rattle.std.specs.Fmt.{decimal}
use Rattle.graph_format.specs.Pointer.{under, pointer_text}
use Rattle.pisdf_model.specs.declared.detail_fault.DetailFault.{DetailFault}
use Rattle.pisdf_model.specs.declared.detail_fault.DetailFault.TheVariants.{Fault, Memory}
use Rattle.graph_reader.specs.declared.place.Place.{Place}
use Rattle.graph_reader.specs.declared.place.Place.TheVariants.{Root, Member', Item'}

abbrev pub pointer_of : Place → List ℕ
pointer_of Root = []
pointer_of (Member' p up name) = under (pointer_of up) name.now
pointer_of (Item' p up number) = under (pointer_of up) (decimal number)

-- the value at the pointer has not the form, unless memory ran out
abbrev pub MisshapenAt : List ℕ → DetailFault (List ℕ) → Type 0
MisshapenAt at (Fault text) = text ≡ pointer_text at
MisshapenAt at Memory = Unit {0}
