-- A frame that is handed out fits its kernel or its node.
use Rattle.std.proofs.Common.{◌≡◌, ℕ, ◌<◌, ◌≤◌, ◌^◌, ℤ, List, length, slice_get, sym, ap, ◌∙◌, subst}
use Rattle.std.proofs.lemmas.List.{length-map}
use Rattle.kernel_gate.specs.Signed.{Counts, Fits, IsFrameOf}
use Rattle.kernel_gate.specs.Value.{FrameView, lengths}
use Rattle.special_actors.specs.Fitting as special
use Rattle.sdf_level.specs.declared.node.Node.{Node}
use Rattle.job_preparing.specs.Handing.{AsksFor, CopiesIn}
use Rattle.job_rules.specs.Fitting.{FitsAsked}
use Rattle.job_rules.specs.Words.{Asked, Copies}
use Rattle.worker_crew.specs.Laws.{IsFitWork}

many : (lists : List (List ℤ)) → length (lengths lists) ≡ length lists
many lists = length-map lists (λ (l : List ℤ). length l)

pub kernel_frame : (signatures : List Counts) (asked : Asked) (frame : FrameView) → AsksFor asked frame → FitsAsked signatures asked → IsFrameOf signatures frame
kernel_frame signatures asked frame asks fits =
    let args = ap (λ (l : List ℤ). length l) asks.args in
    let inputs = ap (λ (l : List (List ℤ)). length l) asks.inputs in
    let outputs : length frame.outputs ≡ length asked.lens = sym (many frame.outputs) ∙ ap (λ (l : List ℕ). length l) asks.outputs in
    let sets = asks.sets in
    let own : Fits fits.counts frame = record {
      args = subst (λ (n : ℕ). (fits.counts.args_min ≤ n) × (n ≤ fits.counts.args_max)) (sym args) fits.args;
      ins = inputs ∙ fits.ins;
      outs = outputs ∙ fits.outs;
      sets = subst (λ (n : ℕ). (fits.counts.sets_min ≤ n) × (n ≤ fits.counts.sets_max)) (sym sets) fits.sets;
    } in
    (fits.counts, ap (slice_get signatures) asks.kind ∙ fits.place, own)

pub node_frame : (signatures : List Counts) (node : Node) (read : List (List ℤ)) (lens : List ℕ) (frame : FrameView) → CopiesIn read lens frame → IsFitWork signatures (Copies node read lens) → special.IsFrameOf node frame
node_frame signatures node read lens frame copies fits =
    let inputs = ap (λ (l : List (List ℤ)). length l) copies.inputs in
    let outputs : length frame.outputs ≡ length lens = sym (many frame.outputs) ∙ ap (λ (l : List ℕ). length l) copies.outputs in
    record {
      few_inputs = subst (λ (n : ℕ). n < 2 ^ 32) (sym inputs) fits.1;
      few_outputs = subst (λ (n : ℕ). n < 2 ^ 32) (sym outputs) fits.2;
      fitting = subst (λ (l : List ℕ). special.HasLengths node l (lengths frame.outputs)) (sym (ap lengths copies.inputs)) (subst (λ (l : List ℕ). special.HasLengths node (lengths read) l) (sym copies.outputs) fits.0);
    }
