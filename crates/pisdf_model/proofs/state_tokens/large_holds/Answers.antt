use Rattle.std.proofs.Common.{◌≡◌, ◌∙◌, sym, ap, length}
use Rattle.std.proofs.lemmas.List.{length-map}
use Rattle.pisdf_model.specs.Nesting.{children}
use Rattle.pisdf_model.proofs.Holds.{one_more_large}
use Rattle.pisdf_model.proofs.state_tokens.large_holds.Goals as goal

pub loop-place-preserved : goal.loop-place-preserved
loop-place-preserved c =
    let held = c.in_ok-children.children.items in
    let long : length c.args.own.now ≡ length held = c.requires ∙ sym (ap length c.in_ok-children.ensures ∙ length-map c.args.graphs.now children) in
    c.in_ok-push.ensures.items
    ∙ one_more_large c.args.own.now held long c.loop-place.place c.in_ok-holds.holds.items c.is_large.result c.loop-place.large.items (rw c.deref.ensures.value at c.in_ok-holds.ensures) (rw (c.deref-in-loop-place.ensures.value, c.deref-in-loop-place-2.ensures.value) at c.is_large.ensures) c.loop-place.invariant
