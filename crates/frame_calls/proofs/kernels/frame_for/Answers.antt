use Rattle.std.proofs.Common.{ℕ, List, length, ap, ◌∙◌}
use Rattle.std.proofs.lemmas.List.{length-map, length-replicate}
use Rattle.std.specs.Prelude.{ℤ, replicate, pos}
use Rattle.frame_calls.proofs.Fitting.{is_frame}
use Rattle.frame_calls.proofs.kernels.frame_for.Goals as goal

pub returns-clause-fitting : goal.returns-clause-fitting
returns-clause-fitting c =
    let f = c.in_ok-frame.frame in
    let given = c.in_ok-frame.ensures.made_of in
    let zeros = c.in_ok-frame.ensures.zeros in
    is_frame c.args.kind _ _ _ _ f c.requires given.0
    (ap (λ (l : List ℤ). length l) (given.1 ∙ c.new.ensures))
    (ap (λ (l : List (List ℤ)). length l) given.2)
    (ap (λ (l : List (List ℤ)). length l) zeros.0 ∙ length-map c.args.outs.now (λ (n : ℕ). replicate n (pos 0)))
    (ap (λ (l : List ℤ). length l) zeros.1 ∙ length-replicate c.args.sets (pos 0))
