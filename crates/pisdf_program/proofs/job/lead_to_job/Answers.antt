use Rattle.std.proofs.Common.{◌≡◌, ◌⊎◌, inl, inr, ⊎_elim, ap, sym, subst, ◌∙◌, None, Some, Ok, Err}
use Rattle.param_resolver.specs.declared.level_set.LevelSet.{LevelSet}
use Rattle.pisdf_meaning.specs.Endings.{IfRefused}
use Rattle.pisdf_meaning.specs.Run as run
use Rattle.pisdf_meaning.specs.TopLevel.{IsTopLevel, TopLevelRefused}
use Rattle.pisdf_meaning.specs.declared.refusal.PlainFault.TheVariants as plain
use Rattle.pisdf_meaning.specs.declared.refusal.Refusal.{Refusal}
use Rattle.pisdf_model.specs.declared.graph.Graph.{Graph}
use Rattle.quiescent_driver.specs.Iterated.{Checks}
use Rattle.pisdf_program.specs.Job.{Compiles, EndsJob, FindsLevel, JobEnd, first_inputs}
use Rattle.quiescent_driver.specs.Streams.{rest_of}
use Rattle.quiescent_driver.specs.declared.stop.Stop.{Stop}
use Rattle.quiescent_driver.specs.declared.stop.Stop.TheVariants as stop
use Rattle.pisdf_program.proofs.Jobs.{as_first, level_ends, level_only, short_only, unlevelled_alike, unlevelled_ends}
use Rattle.quiescent_driver.proofs.Runs.{finds, lacks, rest_first, top_is, top_there}
use Rattle.pisdf_program.proofs.job.lead_to_job.Goals as goal

pub returns-in-Some-clause-ends : goal.returns-in-Some-clause-ends
returns-in-Some-clause-ends g c =
    let graphs = c.args.graphs.now in
    let tokens = c.args.streams.now.tokens.now in
    let lack : run.Lack = record { stream = c.in-Some.lack.stream; has = c.in-Some.lack.has; needs = c.in-Some.lack.needs } in
    let lacking : Checks graphs tokens (Ok (Some lack)) = subst (λ s. Checks graphs s (Ok (Some lack))) (rest_first (run.top_needs graphs) tokens)
    (lacks graphs tokens c.args.streams.now.needs.now 0 lack c.requires.good.valid.valid.in_range.top c.requires.needs c.requires.sound c.in-Some.ensures) in
    inl (subst (λ (s : Stop). EndsJob graphs tokens c.args.workers (Err s)) (sym c.from.ensures) lacking)

pub returns-in-Some-clause-only : goal.returns-in-Some-clause-only
returns-in-Some-clause-only g c =
    let graphs = c.args.graphs.now in
    let tokens = c.args.streams.now.tokens.now in
    let lack : run.Lack = record { stream = c.in-Some.lack.stream; has = c.in-Some.lack.has; needs = c.in-Some.lack.needs } in
    let lacking : Checks graphs tokens (Ok (Some lack)) = subst (λ s. Checks graphs s (Ok (Some lack))) (rest_first (run.top_needs graphs) tokens)
    (lacks graphs tokens c.args.streams.now.needs.now 0 lack c.requires.good.valid.valid.in_range.top c.requires.needs c.requires.sound c.in-Some.ensures) in
    λ end h. inl (ap (λ (s : Stop). let e : JobEnd = Err s in e) c.from.ensures ∙ short_only graphs tokens c.args.workers lack lacking end h)

pub returns-in-Ok-top_level-clause-ends : goal.returns-in-Ok-top_level-clause-ends
returns-in-Ok-top_level-clause-ends g c =
    let graphs = c.args.graphs.now in
    let tokens = c.args.streams.now.tokens.now in
    let needs = c.args.streams.now.needs.now in
    let set = c.in-Ok-top_level.set in
    let top = top_there graphs c.requires.good.valid.valid.in_range.top in
    let ins : c.as_slice.result.now ≡ first_inputs graphs tokens =
    c.as_slice.ensures.value ∙ c.in-Ok.ensures ∙ ap (λ n. run.taken n (rest_of 0 n tokens)) c.requires.needs ∙ ap (run.taken (run.top_needs graphs)) (rest_first (run.top_needs graphs) tokens) in
    let none : run.first_lack 0 (run.top_needs graphs) tokens ≡ None =
    ap (run.first_lack 0 (run.top_needs graphs)) (sym (rest_first (run.top_needs graphs) tokens)) ∙ ap (λ n. run.first_lack 0 n (rest_of 0 n tokens)) (sym c.requires.needs) ∙ sym c.in-None.ensures in
    let found : FindsLevel graphs tokens set = record {
      checks = record { top = top.0; top_is = top.1; finds = finds graphs top.0 tokens None c.requires.sound none };
      level = as_first graphs tokens c.args.workers (λ i s. IsTopLevel graphs i s set) c.as_slice.result.now c.in-Ok-first_delays.delays.lists ins c.in-Ok-first_delays.ensures c.in-Ok-top_level.ensures.level;
    } in
    ⊎_elim
    (λ (h : Compiles c.top_of.result.now c.args.workers set.level c.compile_level.result).
    inl (level_ends graphs tokens c.args.workers set found c.compile_level.result (subst (λ (t : Graph). Compiles t c.args.workers set.level c.compile_level.result) (c.top_of.ensures ∙ top_is graphs top.0 top.1) h)))
    (λ (m : c.compile_level.result ≡ Err stop.Memory). inr m)
    c.compile_level.ensures.compiles

pub returns-in-Ok-top_level-clause-only : goal.returns-in-Ok-top_level-clause-only
returns-in-Ok-top_level-clause-only g c =
    let graphs = c.args.graphs.now in
    let tokens = c.args.streams.now.tokens.now in
    let set = c.in-Ok-top_level.set in
    let top = top_there graphs c.requires.good.valid.valid.in_range.top in
    let lead = c.top_level.result in
    let ins : c.as_slice.result.now ≡ first_inputs graphs tokens =
    c.as_slice.ensures.value ∙ c.in-Ok.ensures ∙ ap (λ n. run.taken n (rest_of 0 n tokens)) c.requires.needs ∙ ap (run.taken (run.top_needs graphs)) (rest_first (run.top_needs graphs) tokens) in
    let none : run.first_lack 0 (run.top_needs graphs) tokens ≡ None =
    ap (run.first_lack 0 (run.top_needs graphs)) (sym (rest_first (run.top_needs graphs) tokens)) ∙ ap (λ n. run.first_lack 0 n (rest_of 0 n tokens)) (sym c.requires.needs) ∙ sym c.in-None.ensures in
    level_only graphs tokens c.args.workers lead
    (as_first graphs tokens c.args.workers (λ i s. (x : LevelSet) → IsTopLevel graphs i s x → (lead ≡ Ok x) ⊎ (lead ≡ Err plain.Memory)) c.as_slice.result.now c.in-Ok-first_delays.delays.lists ins c.in-Ok-first_delays.ensures c.top_level.ensures.only_level)
    (as_first graphs tokens c.args.workers (λ i s. (r : Refusal) → TopLevelRefused graphs i s r → (lead ≡ Err (plain.Refused r)) ⊎ (lead ≡ Err plain.Memory)) c.as_slice.result.now c.in-Ok-first_delays.delays.lists ins c.in-Ok-first_delays.ensures c.top_level.ensures.only_refused)
    record { top = top.0; top_is = top.1; finds = finds graphs top.0 tokens None c.requires.sound none }
    set c.in-Ok-top_level.is top.0 top.1 c.compile_level.result
    (λ end h. c.compile_level.ensures.only end (subst (λ (t : Graph). Compiles t c.args.workers set.level end) (sym (c.top_of.ensures ∙ top_is graphs top.0 top.1)) h))

pub returns-clause-ends : goal.returns-clause-ends
returns-clause-ends g c =
    let graphs = c.args.graphs.now in
    let tokens = c.args.streams.now.tokens.now in
    let top = top_there graphs c.requires.good.valid.valid.in_range.top in
    let fault = c.in-Err.fault in
    let ins : c.as_slice.result.now ≡ first_inputs graphs tokens =
    c.as_slice.ensures.value ∙ c.in-Ok.ensures ∙ ap (λ n. run.taken n (rest_of 0 n tokens)) c.requires.needs ∙ ap (run.taken (run.top_needs graphs)) (rest_first (run.top_needs graphs) tokens) in
    let none : run.first_lack 0 (run.top_needs graphs) tokens ≡ None =
    ap (run.first_lack 0 (run.top_needs graphs)) (sym (rest_first (run.top_needs graphs) tokens)) ∙ ap (λ n. run.first_lack 0 n (rest_of 0 n tokens)) (sym c.requires.needs) ∙ sym c.in-None.ensures in
    let at : (s : Stop) → Type 0 = λ s. EndsJob graphs tokens c.args.workers (Err s) ⊎ ((let e : JobEnd = Err s in e) ≡ Err stop.Memory) in
    subst at (sym c.from-in-Err.ensures)
    (unlevelled_ends graphs tokens c.args.workers fault record { top = top.0; top_is = top.1; finds = finds graphs top.0 tokens None c.requires.sound none }
    (as_first graphs tokens c.args.workers (λ i s. IfRefused (TopLevelRefused graphs i s) fault) c.as_slice.result.now c.in-Ok-first_delays.delays.lists ins c.in-Ok-first_delays.ensures c.in-Err.ensures.refused))

pub returns-clause-only : goal.returns-clause-only
returns-clause-only g c =
    let graphs = c.args.graphs.now in
    let tokens = c.args.streams.now.tokens.now in
    let top = top_there graphs c.requires.good.valid.valid.in_range.top in
    let fault = c.in-Err.fault in
    let lead = c.top_level.result in
    let ins : c.as_slice.result.now ≡ first_inputs graphs tokens =
    c.as_slice.ensures.value ∙ c.in-Ok.ensures ∙ ap (λ n. run.taken n (rest_of 0 n tokens)) c.requires.needs ∙ ap (run.taken (run.top_needs graphs)) (rest_first (run.top_needs graphs) tokens) in
    let none : run.first_lack 0 (run.top_needs graphs) tokens ≡ None =
    ap (run.first_lack 0 (run.top_needs graphs)) (sym (rest_first (run.top_needs graphs) tokens)) ∙ ap (λ n. run.first_lack 0 n (rest_of 0 n tokens)) (sym c.requires.needs) ∙ sym c.in-None.ensures in
    let at : (s : Stop) → Type 0 = λ s. (end : JobEnd) → EndsJob graphs tokens c.args.workers end → ((let e : JobEnd = Err s in e) ≡ end) ⊎ ((let e : JobEnd = Err s in e) ≡ Err stop.Memory) in
    subst at (sym c.from-in-Err.ensures)
    (unlevelled_alike graphs tokens c.args.workers lead
    (as_first graphs tokens c.args.workers (λ i s. (x : LevelSet) → IsTopLevel graphs i s x → (lead ≡ Ok x) ⊎ (lead ≡ Err plain.Memory)) c.as_slice.result.now c.in-Ok-first_delays.delays.lists ins c.in-Ok-first_delays.ensures c.top_level.ensures.only_level)
    (as_first graphs tokens c.args.workers (λ i s. (r : Refusal) → TopLevelRefused graphs i s r → (lead ≡ Err (plain.Refused r)) ⊎ (lead ≡ Err plain.Memory)) c.as_slice.result.now c.in-Ok-first_delays.delays.lists ins c.in-Ok-first_delays.ensures c.top_level.ensures.only_refused)
    record { top = top.0; top_is = top.1; finds = finds graphs top.0 tokens None c.requires.sound none }
    fault c.in-Err.is)
