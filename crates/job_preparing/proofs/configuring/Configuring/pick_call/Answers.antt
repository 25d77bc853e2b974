use Rattle.std.proofs.Common.{◌≡◌, ◌<◌, ℕ, length, Option, Some, None, sym, ap, ◌∙◌, subst, arith}
use Rattle.std.specs.Arc.{arc_value}
use Rattle.std.specs.List.{position}
use Rattle.std.proofs.lemmas.Option.{slice_get_within}
use Rattle.job_preparing.specs.Handing.{IsLeast}
use Rattle.job_preparing.specs.Stages.{is_call}
use Rattle.job_preparing.specs.View.{ConfiguringView, IsOfferedCall}
use Rattle.job_preparing.proofs.Offered.{IsFirst, first_found, picked_call}
use Rattle.job_preparing.proofs.Readied.{few}
use Rattle.job_preparing.proofs.configuring.Configuring.pick_call.Goals as goal

pub overflow_cast-result : goal.overflow_cast-result
overflow_cast-result c =
    let e : position is_call c.self.inside.stages.items ≡ Some c.in-Some.n = ap (position is_call) (sym c.deref.ensures.value) ∙ sym c.in-Some.ensures in
    let P : Option ℕ → Type 0 = λ o. IsFirst is_call c.self.inside.stages.items o in
    let at = subst P e (first_found is_call c.self.inside.stages.items) in
    let inside : c.in-Some.n < length c.self.inside.stages.items = slice_get_within c.self.inside.stages.items c.in-Some.n at.stage at.is in
    let many = few (arc_value c.self.inside.graphs) c.self.inside.firing c.self.inside.early c.self.inside.places.items c.self.inside.stages.items c.self.inside.frames.items c.self.inside.left.items c.self.inside.traces.items c.self.invariant in
    omega arith

pub returns-in-Some : goal.returns-in-Some
returns-in-Some c =
    let e : position is_call c.self.inside.stages.items ≡ Some c.in-Some.n = ap (position is_call) (sym c.deref.ensures.value) ∙ sym c.in-Some.ensures in
    let P : Option ℕ → Type 0 = λ o. IsFirst is_call c.self.inside.stages.items o in
    let Q : ConfiguringView → Type 0 = λ v. IsLeast (IsOfferedCall v) (Some c.in-Some.n) in
    subst Q c.self.view_is (picked_call (arc_value c.self.inside.graphs) c.self.inside.firing c.self.inside.early c.self.inside.places.items c.self.inside.stages.items c.self.inside.frames.items c.self.inside.left.items c.self.inside.traces.items c.self.invariant (Some c.in-Some.n) (subst P e (first_found is_call c.self.inside.stages.items)))

pub returns-in-None : goal.returns-in-None
returns-in-None c =
    let e : position is_call c.self.inside.stages.items ≡ None = ap (position is_call) (sym c.deref.ensures.value) ∙ sym c.in-None.ensures in
    let P : Option ℕ → Type 0 = λ o. IsFirst is_call c.self.inside.stages.items o in
    let Q : ConfiguringView → Type 0 = λ v. IsLeast (IsOfferedCall v) None in
    subst Q c.self.view_is (picked_call (arc_value c.self.inside.graphs) c.self.inside.firing c.self.inside.early c.self.inside.places.items c.self.inside.stages.items c.self.inside.frames.items c.self.inside.left.items c.self.inside.traces.items c.self.invariant None (subst P e (first_found is_call c.self.inside.stages.items)))
