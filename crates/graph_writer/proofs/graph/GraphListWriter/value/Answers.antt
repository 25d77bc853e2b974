use Rattle.std.proofs.Common.{◌≡◌, ◌∙◌, ◌≤◌, true, false, map, ap, refl, arith}
use Rattle.std.proofs.lemmas.Bool.Decides.{nat_tests}
use Rattle.serde_json.proofs.Views.{view-Object}
use Rattle.graph_format.specs.Canonical.{graph_value}
use Rattle.graph_format.specs.Objects.{has_exports}
use Rattle.graph_format.specs.Named.{named_graph, names_of_params}
use Rattle.pisdf_model.specs.declared.param.Param.{Param}
use Rattle.graph_writer.proofs.graph.GraphListWriter.value.Goals as goal

pub with_list-requires-2 : goal.with_list-requires-2
with_list-requires-2 c =
    let names : c.as_slice-names.result.now ≡ names_of_params c.args.graph.now = c.as_slice-names.ensures.value ∙ c.in_ok-names.ensures ∙ ap (λ ps. map (λ (p : Param). p.name) ps) c.items.ensures in
    rw (names, c.items-outputs.ensures) c.requires.outputs

pub with_list-requires-3 : goal.with_list-requires-3
with_list-requires-3 c =
    let names : c.as_slice-names.result.now ≡ names_of_params c.args.graph.now = c.as_slice-names.ensures.value ∙ c.in_ok-names.ensures ∙ ap (λ ps. map (λ (p : Param). p.name) ps) c.items.ensures in
    rw (names, c.items-inputs.ensures) c.requires.inputs

pub with_list-requires-then-self-lt3 : goal.with_list-requires-then-self-lt3
with_list-requires-then-self-lt3 c =
    let names : c.as_slice-names.result.now ≡ names_of_params c.args.graph.now = c.as_slice-names.ensures.value ∙ c.in_ok-names.ensures ∙ ap (λ ps. map (λ (p : Param). p.name) ps) c.items.ensures in
    rw (names, c.items-then-self-lt3.ensures) c.requires.actors

pub with_list-requires-6 : goal.with_list-requires-6
with_list-requires-6 c =
    let names : c.as_slice-names.result.now ≡ names_of_params c.args.graph.now = c.as_slice-names.ensures.value ∙ c.in_ok-names.ensures ∙ ap (λ ps. map (λ (p : Param). p.name) ps) c.items.ensures in
    rw (names, c.items-3.ensures) c.requires.actors

pub returns-then-self-lt3-clause-shown : goal.returns-then-self-lt3-clause-shown
unfolding graph_value named_graph
returns-then-self-lt3-clause-shown c =
    let names : c.as_slice-names.result.now ≡ names_of_params c.args.graph.now = c.as_slice-names.ensures.value ∙ c.in_ok-names.ensures ∙ ap (λ ps. map (λ (p : Param). p.name) ps) c.items.ensures in
    let none : has_exports c.args.self.now.graphs.now.version ≡ false = grind (arith, nat_tests, c.if-self-lt3.true) in
    rw (view-Object c.in_ok-members-6.members, c.in_ok-members-6.ensures.shown, c.in_ok-members-5.ensures.shown, c.in_ok-members-4.ensures.shown, c.in_ok-members-3.ensures, c.in_ok-members-2.ensures.shown, c.in_ok-members.ensures.shown, c.new.ensures.empty, c.text.ensures, names, c.items-params.ensures, c.items-outputs.ensures, c.items-inputs.ensures, c.items-2.ensures, c.items-then-self-lt3.ensures, none) refl

pub returns-clause-shown : goal.returns-clause-shown
unfolding graph_value named_graph
returns-clause-shown c =
    let names : c.as_slice-names.result.now ≡ names_of_params c.args.graph.now = c.as_slice-names.ensures.value ∙ c.in_ok-names.ensures ∙ ap (λ ps. map (λ (p : Param). p.name) ps) c.items.ensures in
    let later : 3 ≤ c.args.self.now.graphs.now.version = c.if-self-lt3.false in
    let has : has_exports c.args.self.now.graphs.now.version ≡ true = grind (arith, nat_tests) in
    rw (view-Object c.in_ok-members-8.members, c.in_ok-members-8.ensures.shown, c.in_ok-members-7.ensures.shown, c.in_ok-members-5.ensures.shown, c.in_ok-members-4.ensures.shown, c.in_ok-members-3.ensures, c.in_ok-members-2.ensures.shown, c.in_ok-members.ensures.shown, c.new.ensures.empty, c.text.ensures, names, c.items-params.ensures, c.items-outputs.ensures, c.items-inputs.ensures, c.items-2.ensures, c.items-exports.ensures, c.items-3.ensures, has) refl
