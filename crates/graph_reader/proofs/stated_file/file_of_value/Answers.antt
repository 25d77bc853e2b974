use Rattle.std.proofs.Common.{◌≡◌, [], ℤ, Option, Some, None, refl, sym, ap, ◌∙◌}
use Rattle.serde_json.specs.View.{view}
use Rattle.graph_format.specs.Objects.{stated_version}
use Rattle.graph_format.specs.Reads.{other_version}
use Rattle.graph_format.proofs.Reading.{states_file}
use Rattle.graph_format.proofs.StatedFiles.{file_reads}
use Rattle.graph_reader.proofs.stated_file.file_of_value.Goals as goal

no_value : (o : Option ℤ) → ((x : ℤ) → o ≡ Some x → ⊥) → o ≡ None
no_value None h = refl
no_value (Some x) h = absurd (h x refl)

pub returns-in-Ok-clause-stated : goal.returns-in-Ok-clause-stated
returns-in-Ok-clause-stated c =
    let d = view c.args.value.now in
    let version = c.version_of.result in
    let none : other_version (stated_version d) ≡ None = ap other_version (sym c.stated_version-stated.ensures) ∙ sym c.other_version.ensures ∙ no_value c.other_version.result c.in_default.not-Some in
    states_file version d c.in-Ok.file ((file_reads version).found [] d c.in-Ok.file c.in-Ok.ensures) none
