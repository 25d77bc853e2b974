use Rattle.sdf_level.proofs.Branches.{OnOk-map}
use Rattle.sdf_level.proofs.Regrouped.{swapped}
use Rattle.sdf_level.proofs.groups.Groups.unite.Goals as goal

pub returns-then-len-clause-united : goal.returns-then-len-clause-united
returns-then-len-clause-united c = OnOk-map c.merge.result (swapped c.args.self.now.number.items c.merge.new.self.number.items c.args.second c.args.first) c.merge.ensures.united
