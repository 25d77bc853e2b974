-- What an iteration is given is what a board is started with.
use Rattle.std.proofs.Common.{◌≡◌, ℕ, ◌<◌, ◌≤◌, ℤ, List, [], ◌∷◌, map, Some, None, Result, Ok, Err, IfOk, false, refl, sym, ap, ◌∙◌, subst, replicate}
use Rattle.std.proofs.lemmas.Option.{slice_get-get_or}
use Rattle.std.proofs.lemmas.Simd.{map-map}
use Rattle.kernel_gate.specs.Signed.{SignatureView, counts_of, signature_view, unnamed}
use Rattle.kernel_gate.specs.Value.{lengths}
use Rattle.kernel_gate.specs.declared.signature.Signature.{Signature}
use Rattle.param_resolver.specs.EarlyCheck.{early_faults}
use Rattle.pisdf_model.specs.declared.graph.Graphs.{Graphs}
use Rattle.pisdf_meaning.specs.Run.{top_needs}
use Rattle.kernel_gate.specs.Laws.{GiveLengths}
use Rattle.pisdf_meaning.specs.Sound.{AreValidFor}
use Rattle.pisdf_meaning.specs.declared.outcome.Delays.{Delays}
use Rattle.job_rules.specs.Items.{no_graph}
use Rattle.board_rules.specs.Keys.{IsKey, Key}
use Rattle.firing_board.specs.Runs.{AreAllIdle}
use Rattle.firing_board.specs.Starts.{key_from}
use Rattle.firing_board.specs.View.{BoardView}
use Rattle.quiescent_driver.specs.Given.{IsTopState, key_with}

-- signatures without their names
pub counts_told : (signatures : List Signature) (kernels : List SignatureView) → map signature_view signatures ≡ kernels → map counts_of signatures ≡ unnamed kernels
counts_told signatures kernels told = sym (map-map (λ (s : SignatureView). s.counts) signature_view signatures) ∙ ap unnamed told

pub is_key : (graphs : Graphs) (signatures : List Signature) (kernels : List SignatureView) (delays : Delays) (ins : List (List ℤ)) (workers : ℕ) → map signature_view signatures ≡ kernels →
    AreValidFor (unnamed kernels) graphs → GiveLengths (unnamed kernels) → early_faults graphs.graphs graphs.top [] ≡ [] →
    lengths ins ≡ top_needs graphs → IsTopState graphs delays.lists → 0 < workers → workers ≤ 16 → IsKey (key_from graphs signatures delays ins workers)
is_key graphs signatures kernels delays ins workers told valid give sound inputs state some few =
    let counts : unnamed kernels ≡ map counts_of signatures = sym (counts_told signatures kernels told) in
    record {
      valid = subst (λ s. AreValidFor s graphs) counts valid;
      lengths = subst GiveLengths counts give;
      fit = record { g = _; here = slice_get-get_or graphs.graphs graphs.top no_graph valid.valid.in_range.top; sound = sound; inputs = inputs; state = state };
      some = some;
      few = few;
    }

-- ---- the board that is started

abbrev new_board : Key → ℕ → BoardView
new_board key workers = record { key = key; journal = []; starved = false; firings = Some record { place = []; cells = None } ∷ []; lent = replicate workers None; kept = false }

new_is_idle : (key : Key) (workers : ℕ) → AreAllIdle (new_board key workers)
new_is_idle key workers = record { taken = []; at = record { legal = record { allowed = tt; picked = tt }; entered = refl }; run_none = λ w lt. refl }

pub started_key : {E : Type 0} (graphs : Graphs) (signatures : List Signature) (kernels : List SignatureView) (delays : Delays) (ins : List (List ℤ)) (workers : ℕ) (result : Result BoardView E) →
    map signature_view signatures ≡ kernels → IfOk result (λ b. b ≡ new_board (key_from graphs signatures delays ins workers) workers) → IfOk result (λ b. b.key ≡ key_with graphs kernels delays.lists ins workers)
started_key graphs signatures kernels delays ins workers (Ok b) told is =
    let same : key_from graphs signatures delays ins workers ≡ key_with graphs kernels delays.lists ins workers =
    ap (λ s. record { graphs = graphs; signatures = s; delays = delays.lists; ins = ins; workers = workers }) (counts_told signatures kernels told) in
    ap (λ (x : BoardView). x.key) is ∙ same
started_key graphs signatures kernels delays ins workers (Err e) told is = tt

pub started_idle : {E : Type 0} (key : Key) (workers : ℕ) (result : Result BoardView E) → IfOk result (λ b. b ≡ new_board key workers) → IfOk result AreAllIdle
started_idle key workers (Ok b) is = subst AreAllIdle (sym is) (new_is_idle key workers)
started_idle key workers (Err e) is = tt
