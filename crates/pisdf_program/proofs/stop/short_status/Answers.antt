use Rattle.std.proofs.Common.{inl, ap, ◌∙◌, map, List, ℕ}
use Rattle.pisdf_model.specs.declared.graph.Graph.{Graph}
use Rattle.pisdf_model.specs.declared.graph.Interface.{Interface}
use Rattle.job_report.specs.Rows.{name_at}
use Rattle.pisdf_program.specs.declared.status.Status.TheVariants.{TokensRefused}
use Rattle.pisdf_program.specs.declared.status.TokenCause.TheVariants.{Short}
use Rattle.pisdf_program.proofs.stop.short_status.Goals as goal

pub returns-in-Ok : goal.returns-in-Ok
returns-in-Ok c =
    let inputs = c.items.ensures ∙ ap (λ (g : Graph). g.inputs) c.top_of.ensures in
    inl (ap (λ (n : List ℕ). TokensRefused (Short n c.args.has c.args.needs)) (c.in-Ok.ensures ∙ ap (λ (xs : List Interface). name_at (map (λ (i : Interface). i.name) xs) c.args.stream) inputs))
