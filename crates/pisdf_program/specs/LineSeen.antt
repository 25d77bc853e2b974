-- A line as it stands in the program, as its bytes.
use Rattle.std.specs.Prelude.{ℕ, List, string_bytes}
use Rattle.pisdf_program.specs.declared.line.Line.{Line}
use Rattle.pisdf_program.specs.declared.line.Line.TheVariants.{Fixed, Written}

abbrev pub line_text : Line → List ℕ
line_text (Fixed text) = text.now
line_text (Written text) = string_bytes text
