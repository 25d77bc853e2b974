use Rattle.std.proofs.Common.{◌≡◌, ◌++◌, length, take, drop, refl, ap, ◌∙◌, arith}
use Rattle.std.proofs.lemmas.Grind.{common_steps}
use Rattle.std.proofs.lemmas.Result.{on_ok_weaker}
use Rattle.std.specs.Vec.{with_items}
use Rattle.placement.proofs.Stepping.{can_place, one_more}
use Rattle.placement.proofs.progress.Progress.place_next.Goals as goal

pub next_offset-offset-requires : goal.next_offset-offset-requires
next_offset-offset-requires g c =
    let whole : take c.args.self.now.row.len (c.write_row.new.row ++ drop (length c.write_row.new.row) c.args.self.now.row.items) ≡ c.write_row.new.row = grind (arith, common_steps) in
    let long : length c.write_row.new.row ≡ length c.args.self.now.row.items = c.write_row.auto.row ∙ ap length c.deref_mut.ensures.value in
    can_place c.args.sizes.now (g.X.Exclusion.excludes c.args.exclusion.now) (g.X.Exclusion.range c.args.exclusion.now) c.args.order.now c.args.place c.args.self.now record { offsets = c.args.self.now.offsets; placed = c.args.self.now.placed; before = c.args.self.now.before; row = with_items c.args.self.now.row c.write_row.new.row; height = c.args.self.now.height } c.requires.order c.requires.inside c.requires.range c.requires.filled c.requires.sum c.requires.placed refl refl refl refl (rw whole long)

pub returns : goal.returns
returns g c =
    let whole : take c.args.self.now.row.len (c.write_row.new.row ++ drop (length c.write_row.new.row) c.args.self.now.row.items) ≡ c.write_row.new.row = grind (arith, common_steps) in
    let long : length c.write_row.new.row ≡ length c.args.self.now.row.items = c.write_row.auto.row ∙ ap length c.deref_mut.ensures.value in
    on_ok_weaker c.keep.result (one_more c.args.sizes.now (g.X.Exclusion.excludes c.args.exclusion.now) (g.X.Exclusion.range c.args.exclusion.now) c.args.order.now c.args.place c.args.self.now record { offsets = c.args.self.now.offsets; placed = c.args.self.now.placed; before = c.args.self.now.before; row = with_items c.args.self.now.row c.write_row.new.row; height = c.args.self.now.height } c.requires.order c.requires.inside c.requires.range c.requires.filled c.requires.sum c.requires.placed refl refl refl refl (rw whole long) (rw whole c.write_row.ensures) c.next_offset-offset.result c.next_offset-offset.ensures c.keep.new.self) c.keep.ensures
