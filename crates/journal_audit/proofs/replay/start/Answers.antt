use Rattle.std.proofs.Common.{◌≡◌, ◌∷◌, [], ◌++◌, Some, None, replicate, refl, ◌∙◌, rules}
use Rattle.journal_audit.proofs.Starting.{starts}
use Rattle.journal_audit.proofs.replay.start.Goals as goal

pub returns : goal.returns
returns c = λ key top.
    let job = c.in_ok-job.job in
    let place = c.new-place.ensures ∙ c.new.ensures.items in
    let rows : c.push.new.self.items ≡ Some record { job = job; place = [] } ∷ [] =
    c.in_ok-push.ensures.items ∙ (λ x. c.new-rows.ensures.items x ++ Some record { job = job; place = place x } ∷ []) in
    let running : c.in_ok-running.running.items ≡ replicate c.args.workers None = c.in_ok-running.ensures.items_if_clones_equal (λ y h. search rules) in
    starts c.boards_keep.ensures.start c.args.graphs.now key c.args.workers c.args.firing top job c.in_ok-job.ensures.firing c.in_ok-job.ensures.free (c.in_ok-job.ensures.is key.workers) _ refl rows running refl
