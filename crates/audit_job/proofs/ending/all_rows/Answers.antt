use Rattle.std.proofs.Common.{◌≡◌, ◌<◌, ℕ, List, [], length, get_or, sym, ap, ◌∙◌, arith}
use Rattle.std.specs.Prelude.{Vec, slice_index}
use Rattle.std.specs.Global.{Global}
use Rattle.std.proofs.lemmas.List.{get_or-map, length-map}
use Rattle.pisdf_meaning.specs.Running.{traces_below}
use Rattle.sdf_level.specs.Lists.{lists_of}
use Rattle.audit_job.specs.Ending.{traces_at, traces_of}
use Rattle.audit_job.specs.Marks.{answers}
use Rattle.audit_job.proofs.ActorRows.{each_row, one_longer, traces_same}
use Rattle.audit_job.proofs.ending.all_rows.Goals as goal

pub loop-actor-preserved : goal.loop-actor-preserved
loop-actor-preserved c =
    let nodes = c.args.nodes.now in
    let v = answers c.args.marks.now in
    let a = c.loop-actor.actor in
    let lists : List (Vec ℕ Global) = c.in_ok-places.places.items in
    let inside : a < length lists = omega (arith, c.in_ok-places.places.ok.0) in
    let one = c.in_ok-places.ensures.one_each in
    let long = length-map lists (λ (w : Vec ℕ Global). w.items) in
    let under : a < length c.args.counts.now = omega arith in
    let list : c.deref.result.now ≡ get_or (lists_of lists) a [] = c.deref.ensures.value ∙ ap (λ (w : Vec ℕ Global). w.items) c.index.ensures ∙ sym (get_or-map (λ (w : Vec ℕ Global). w.items) lists a c.index.result.now [] inside) in
    let row : c.in_ok-actor_rows.field-0.items ≡ traces_below (traces_at nodes v a) (slice_index c.args.counts.now a) =
    c.in_ok-actor_rows.ensures ∙ ap (λ (l : List ℕ). traces_below (traces_of l v) (length l)) list
    ∙ traces_same nodes v a (slice_index c.args.counts.now a) (get_or (lists_of lists) a []) (c.in_ok-places.ensures.each a under) in
    let X = λ (b : ℕ). traces_below (traces_at nodes v b) (slice_index c.args.counts.now b) in
    record {
      many = one_longer X c.loop-actor.all.items c.push.new.self.items c.in_ok-actor_rows.field-0 a c.loop-actor.invariant.many c.in_ok-push.ensures.items;
      each = each_row X c.loop-actor.all.items c.push.new.self.items c.in_ok-actor_rows.field-0 a c.loop-actor.invariant.many c.in_ok-push.ensures.items c.loop-actor.invariant.each row;
    }
