use Rattle.std.proofs.Common.{◌≡◌, ◌∙◌, sym, ap, subst}
use Rattle.std.specs.Arc.{arc_value}
use Rattle.job_compiler.specs.Entries.{kept_limit}
use Rattle.job_compiler.specs.Keys.{is_key}
use Rattle.pisdf_model.specs.declared.graph.Graphs.{Graphs}
use Rattle.job_preparing.specs.Levels.{IsLevelBy, IsLevelOf}
use Rattle.job_preparing.specs.declared.compiling.ReadyLevel.{ReadyLevel}
use Rattle.job_preparing.proofs.ByKeys.{kept_or_not}
use Rattle.job_preparing.proofs.levels.KeptLevels.keep.Goals as goal

pub invariant_of-self : goal.invariant_of-self
invariant_of-self c =
    let graphs = c.self.inside.graphs.value.graphs in
    let shared : arc_value c.in_ok-shared.shared ≡ arc_value c.args.level.now = c.in_ok-shared.ensures in
    let P : Graphs → Type 0 = λ g. IsLevelOf g.graphs (arc_value c.args.level.now) in
    let own : IsLevelBy graphs c.in_ok-key.key (arc_value c.in_ok-shared.shared) = record {
      key_is = ap (λ (l : ReadyLevel). l.key) (shared ∙ sym c.deref.ensures) ∙ sym c.in_ok-key.ensures;
      level_of = subst (IsLevelOf graphs) (sym shared) (subst P (sym c.self.view_is) c.requires);
    } in
    kept_or_not graphs c.self.inside.levels c.keep.new.self (is_key c.in_ok-key.key) kept_limit c.in_ok-key.key (arc_value c.in_ok-shared.shared) c.keep.result c.self.invariant own c.keep.ensures.kept c.keep.ensures.refused
