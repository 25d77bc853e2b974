use Rattle.std.proofs.Common.{sym}
use Rattle.graph_reader.proofs.Known.{has_form_where}
use Rattle.graph_reader.proofs.shape.has_form.Goals as goal
use Rattle.serde_json.specs.View.{view, members_view}

pub returns-then-has_only : goal.returns-then-has_only
returns-then-has_only c = has_form_where c.args.required.now c.args.optional.now (view c.args.value.now) (members_view c.in-Some.members.now.entries) c.has_each.result c.in-Some.ensures (sym c.if-has_only.ensures) c.has_each.ensures
