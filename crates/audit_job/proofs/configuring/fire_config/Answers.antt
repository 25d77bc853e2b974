use Rattle.std.proofs.Common.{◌≡◌, List, ℕ, ℤ, [], length, get_or, ap, ◌∙◌}
use Rattle.std.proofs.lemmas.List.{length-map}
use Rattle.std.proofs.lemmas.List.FromFn.{length-range_with_len}
use Rattle.param_resolver.specs.EarlyView.{EarlyView}
use Rattle.pisdf_meaning.specs.States.{tokens_at}
use Rattle.audit_job.proofs.configuring.fire_config.Goals as goal

pub fire_kernel-requires : goal.fire_kernel-requires
fire_kernel-requires g c =
    let args : length c.tokens_at-args.result.now ≡ length (tokens_at c.args.early.now.args c.args.number) =
    ap (λ (l : List ℤ). length l) (c.tokens_at-args.ensures ∙ ap (λ l. tokens_at l c.args.number) c.items-2.ensures ∙ ap (λ (e : EarlyView). tokens_at e.args c.args.number) c.early.view_is) in
    let rates : length c.rates_at-rates.result.now ≡ length (get_or c.args.early.now.outs c.args.number []) =
    ap (λ (l : List ℕ). length l) (c.rates_at-rates.ensures ∙ ap (λ l. get_or l c.args.number []) c.items-3.ensures ∙ ap (λ (e : EarlyView). get_or e.outs c.args.number []) c.early.view_is) in
    let read : length c.in_ok-read.read ≡ c.args.ins = ap (λ (l : List (List ℤ)). length l) c.in_ok-read.ensures ∙ length-map _ _ ∙ length-range_with_len 0 c.args.ins in
    rw (args, rates, read) c.requires
