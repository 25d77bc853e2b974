use Rattle.std.proofs.Common.{ap, ◌∙◌, length, map, List, ℕ}
use Rattle.pisdf_model.specs.declared.graph.Interface.{Interface}
use Rattle.pisdf_model.specs.declared.graph.Graph.{Graph}
use Rattle.pisdf_program.proofs.Reading.{length_read, length_names}
use Rattle.pisdf_program.proofs.load.parse_streams.Goals as goal

pub returns-in-Ok-read_tokens-clause-fit : goal.returns-in-Ok-read_tokens-clause-fit
returns-in-Ok-read_tokens-clause-fit c =
    let inputs = c.items.ensures ∙ ap (λ (g : Graph). g.inputs) c.top_of.ensures in
    let names = c.as_slice.ensures.value ∙ c.in-Ok.ensures ∙ ap (map (λ (i : Interface). i.name)) inputs in
    length_read c.args.bytes.now c.as_slice.result.now c.in-Ok-read_tokens.streams c.in-Ok-read_tokens.ensures.streams
    ∙ ap (length {A = List ℕ}) names ∙ length_names c.args.graphs.now
