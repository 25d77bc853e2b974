use Rattle.std.proofs.Common.{◌≡◌, ◌≤◌, ℕ, ℤ, pos, List, [], length, map, replicate, get_or, Option, Some, refl, sym, ap, ◌∙◌, subst, arith}
use Rattle.std.specs.Prelude.{vec_capacity}
use Rattle.std.proofs.lemmas.List.{length-replicate}
use Rattle.kernel_gate.specs.Value.{lengths}
use Rattle.split_block.specs.View.{LeasePlace}
use Rattle.param_resolver.specs.EarlyView.{EarlyView}
use Rattle.pisdf_meaning.proofs.KernelFrames.{lengths_of_zeros}
use Rattle.pisdf_meaning.specs.Configuring.{config_args, config_rates, fed_to}
use Rattle.pisdf_meaning.specs.States.{tokens_at}
use Rattle.job_preparing.proofs.asking.unclaimed_kernel.Goals as goal

pub returns-clause-waits : goal.returns-clause-waits
returns-clause-waits c = λ rates one trace.
    let rates_are : c.rates_at-rates.result.now ≡ config_rates c.args.graphs.now c.args.firing.now c.args.number =
    c.rates_at-rates.ensures ∙ ap (λ (l : List (List ℕ)). get_or l c.args.number []) (c.items.ensures ∙ ap (λ (e : EarlyView). e.outs) (c.early.view_is ∙ c.requires)) in
    let args_are : c.in_ok-args.args ≡ config_args c.args.graphs.now c.args.firing.now c.args.number =
    c.in_ok-args.ensures ∙ c.tokens_at.ensures ∙ ap (λ (l : List (List ℤ)). tokens_at l c.args.number) (c.items-2.ensures ∙ ap (λ (e : EarlyView). e.args) (c.early.view_is ∙ c.requires)) in
    let outputs_are : lengths c.in_ok-frame.frame.outputs ≡ config_rates c.args.graphs.now c.args.firing.now c.args.number =
    ap lengths c.in_ok-frame.ensures.zeros.0 ∙ lengths_of_zeros c.rates_at-rates.result.now ∙ rates_are in
    record {
      has = record {
        spot = record { path = c.args.firing.now.path; name = c.args.name.now; turn = 0 };
        asked = record { kind = c.args.kernel; args = config_args c.args.graphs.now c.args.firing.now c.args.number; inputs = fed_to c.args.graph.now c.args.firing.now.inputs c.args.place c.args.ins; lens = config_rates c.args.graphs.now c.args.firing.now c.args.number; sets = c.args.sets };
        task_is = refl;
        path_is = c.in_ok-copy.ensures;
        name_is = c.in_ok-copy_name.ensures;
        turn_is = refl;
        empty = c.in_ok-with_capacity.ensures.items;
        room =
            let exact = c.in_ok-with_capacity.ensures.exact in
            let many = ap (λ (l : List ℕ). length l) rates_are in
            omega arith;
      };
      frame = c.in_ok-frame.frame;
      frame_is = refl;
      asks = record {
        kind = c.in_ok-frame.ensures.made_of.0;
        args = c.in_ok-frame.ensures.made_of.1 ∙ args_are;
        inputs = c.in_ok-frame.ensures.made_of.2 ∙ c.in_ok-inputs.ensures ∙ ap (λ (l : List (List ℤ)). fed_to c.args.graph.now l c.args.place c.args.ins) c.items-3.ensures;
        outputs = outputs_are;
        sets = ap (λ (l : List ℤ). length l) c.in_ok-frame.ensures.zeros.1 ∙ length-replicate c.args.sets (pos 0);
      };
      outputs = sym c.outputs_fill_leases.ensures ∙ outputs_are;
    }
