use Rattle.std.proofs.Common.{◌≡◌, true, false, not, refl, sym, ap, ◌∙◌}
use Rattle.std.specs.Cmp.{unsigned_Decides}
use Rattle.std.proofs.lemmas.Slice.Eq.{slice_eq-Decides}
use Rattle.journal_audit.proofs.Finishes.{makes}
use Rattle.journal_audit.proofs.Speaking.{not_false}
use Rattle.journal_audit.proofs.stepping.step_finish.Goals as goal

pub returns-then-ne : goal.returns-then-ne
returns-then-ne g c = λ key taken r signed e.
    let d = slice_eq-Decides unsigned_Decides c.args.line.now c.as_bytes.result.now _ refl in
    let yes = d.1 (e ∙ sym (c.as_bytes.ensures.value ∙ c.in_ok-right.ensures)) in
    let x : true ≡ false = sym c.if-ne.true ∙ (c.ne.ensures ∙ ap not yes) in
    absurd (cc)

pub returns : goal.returns
returns g c = λ key taken r signed.
    let d = slice_eq-Decides unsigned_Decides c.args.line.now c.as_bytes.result.now _ refl in
    let same = d.0 (not_false _ (sym c.ne.ensures ∙ c.if-ne.false)) in
    makes c.journals_grow.ensures.finish c.args.graphs.now key c.args.number taken c.args.worker c.args.line.now c.leave.new.replay (c.in_ok-leave.ensures key taken r signed) (same ∙ (c.as_bytes.ensures.value ∙ c.in_ok-right.ensures))
