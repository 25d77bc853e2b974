use Rattle.std.proofs.Common.{refl, map-id}
use Rattle.serde_json.proofs.Views.{view-Object}
use Rattle.graph_writer.proofs.actor.Actors.config.Goals as goal

pub returns : goal.returns
returns c = rw (view-Object c.in_ok-members-7.members, c.in_ok-members-7.ensures.shown, c.in_ok-members-6.ensures.shown, c.in_ok-members-5.ensures, c.in_ok-members-4.ensures, c.in_ok-members-3.ensures, c.in_ok-members-2.ensures.shown, c.in_ok-members.ensures.shown, c.new.ensures.empty, c.kernel_name-kernel.ensures, map-id c.args.ins.now) refl
