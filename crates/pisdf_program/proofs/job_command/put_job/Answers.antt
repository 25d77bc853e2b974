use Rattle.std.proofs.Common.{◌≡◌, List, Ok, refl, ap, ◌∙◌, subst, string_bytes}
use Rattle.job_report.specs.Names.{names_of}
use Rattle.job_report.specs.Told.{Tells}
use Rattle.pisdf_model.specs.declared.graph.Graph.{Graph}
use Rattle.pisdf_program.specs.Result.{TellsEnd, told}
use Rattle.quiescent_driver.specs.Top.{top_of}
use Rattle.quiescent_driver.proofs.Runs.{grows_as, grows_partly_as}
use Rattle.pisdf_program.proofs.Telling.{same_told}
use Rattle.pisdf_program.proofs.Working.{told_partly, told_whole}
use Rattle.pisdf_program.proofs.job_command.put_job.Goals as goal

pub returns-in-Ok-put_text-clause-there : goal.returns-in-Ok-put_text-clause-there
returns-in-Ok-put_text-clause-there g c =
    let text = string_bytes c.in-Ok.text in
    let graphs = c.args.graphs.now in
    let names : names_of c.items.result.now c.top_of.result.now ≡ names_of graphs.graphs (top_of graphs) = ap (λ (all : List Graph). names_of all c.top_of.result.now) c.items.ensures ∙ ap (names_of graphs.graphs) c.top_of.ensures in
    λ u. (told text, (text, subst (λ n. Tells c.args.what n c.args.job.now text) names c.in-Ok.ensures.tells, refl))

pub returns-in-Ok-put_text-clause-works : goal.returns-in-Ok-put_text-clause-works
returns-in-Ok-put_text-clause-works g c =
    let written = g.O.Sink.written in
    let graphs = c.args.graphs.now in
    let names : names_of c.items.result.now c.top_of.result.now ≡ names_of graphs.graphs (top_of graphs) = ap (λ (all : List Graph). names_of all c.top_of.result.now) c.items.ensures ∙ ap (names_of graphs.graphs) c.top_of.ensures in
    told_whole (TellsEnd c.args.what graphs (Ok c.args.job.now)) (written c.args.out.now) (written c.put_text.new.sink) (string_bytes c.in-Ok.text) (string_bytes c.new.result)
    (same_told c.args.what graphs c.items.result.now c.top_of.result.now c.args.job.now (string_bytes c.in-Ok.text) names c.in-Ok.ensures.only) c.new.ensures.bytes
    (grows_as (written c.args.out.now) (written c.put_text.new.sink) _ _ c.as_bytes.ensures.value c.in-Ok-put_text.ensures.puts.all)

pub returns-clause-works : goal.returns-clause-works
returns-clause-works g c =
    let written = g.O.Sink.written in
    let graphs = c.args.graphs.now in
    let names : names_of c.items.result.now c.top_of.result.now ≡ names_of graphs.graphs (top_of graphs) = ap (λ (all : List Graph). names_of all c.top_of.result.now) c.items.ensures ∙ ap (names_of graphs.graphs) c.top_of.ensures in (
      c.in-Err.ensures.puts.failed,
      told_partly (TellsEnd c.args.what graphs (Ok c.args.job.now)) (written c.args.out.now) (written c.put_text.new.sink) (string_bytes c.in-Ok.text)
          (same_told c.args.what graphs c.items.result.now c.top_of.result.now c.args.job.now (string_bytes c.in-Ok.text) names c.in-Ok.ensures.only)
          (grows_partly_as (written c.args.out.now) (written c.put_text.new.sink) _ _ c.as_bytes.ensures.value c.in-Err.ensures.puts.beginning),
    )
