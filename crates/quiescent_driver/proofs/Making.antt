-- What an iteration is given, and how it ends, whoever makes it.
use Rattle.std.proofs.Common.{◌≡◌, ℕ, suc, ◌+◌, ◌≤◌, ℤ, Bool, true, false, List, [], ◌∷◌, length, length-take-le, take, Option, Some, None, Result, Ok, Err, refl, ap, ◌∙◌, arith}
use Rattle.std.specs.Prelude.{IfErr, IfOk, if◌then◌else◌, nat_lt}
use Rattle.std.proofs.lemmas.Bool.Decides.{nat_tests}
use Rattle.kernel_gate.specs.Value.{lengths}
use Rattle.param_resolver.specs.EarlyCheck.{early_faults}
use Rattle.pisdf_model.specs.declared.graph.Graphs.{Graphs}
use Rattle.pisdf_meaning.specs.Run as run
use Rattle.pisdf_meaning.specs.declared.outcome.Iteration.{Iteration}
use Rattle.pisdf_meaning.specs.declared.refusal.Refusal.{Refusal}
use Rattle.quiescent_driver.specs.Endings as driver
use Rattle.quiescent_driver.specs.declared.fault.IterationFault.{IterationFault}
use Rattle.quiescent_driver.specs.declared.fault.IterationFault.TheVariants as workers
use Rattle.quiescent_driver.specs.Iterated.{Gives}
use Rattle.quiescent_driver.specs.Making.{StopsOnly}
use Rattle.quiescent_driver.specs.Stepped.{StopsAt}
use Rattle.quiescent_driver.specs.Stops.{workers_stop}
use Rattle.quiescent_driver.specs.Streams.{rest_of}
use Rattle.quiescent_driver.specs.declared.stop.Stop.{Stop}
use Rattle.quiescent_driver.specs.declared.stop.Stop.TheVariants as stop
use Rattle.quiescent_driver.proofs.Runs.{gives, refused_by_one}

-- ---- the tokens that an iteration takes

pub lacks_none : (lacking : Bool) (lack : run.Lack) (more : Option run.Lack) → None ≡ (if lacking then Some lack else more) → (lacking ≡ false) × (None ≡ more)
lacks_none true lack more none = absurd cc
lacks_none false lack more none = (refl, none)

-- where no stream lacks tokens, as many are taken as are needed
taken_fit : (needs : List ℕ) (streams : List (List ℤ)) (k : ℕ) → length needs ≡ length streams → None ≡ run.first_lack k needs streams → lengths (run.taken needs streams) ≡ needs
taken_fit [] streams k fit none = refl
taken_fit (need ∷ needs) [] k fit none = absurd (omega (arith, fit))
taken_fit (need ∷ needs) (t ∷ streams) k fit none =
    let parts = lacks_none (nat_lt (length t) need) record { stream = k; has = length t; needs = need } (run.first_lack (k + 1) needs streams) none in
    let enough : need ≤ length t = let few = parts.0 in grind (arith, nat_tests, few) in
    let first : length (take need t) ≡ need = length-take-le need t enough in
    let others : lengths (run.taken needs streams) ≡ needs = taken_fit needs streams (k + 1) (omega (arith, fit)) parts.1 in
    ap (λ n. n ∷ lengths (run.taken needs streams)) first ∙ ap (λ ns. need ∷ ns) others

rest_fit : (done : ℕ) (needs : List ℕ) (streams : List (List ℤ)) → length needs ≡ length streams → length needs ≡ length (rest_of done needs streams)
rest_fit done [] streams fit = fit
rest_fit done (need ∷ needs) [] fit = fit
rest_fit done (need ∷ needs) (t ∷ streams) fit = ap suc (rest_fit done needs streams (omega (arith, fit)))

-- so it is after some iterations
pub taken_lengths : (done : ℕ) (needs wanted : List ℕ) (streams ins : List (List ℤ)) → length needs ≡ length streams → None ≡ run.first_lack 0 needs (rest_of done needs streams)
    → ins ≡ run.taken needs (rest_of done needs streams) → needs ≡ wanted → lengths ins ≡ wanted
taken_lengths done needs wanted streams ins fit none is same =
    ap lengths is ∙ taken_fit needs (rest_of done needs streams) 0 (rest_fit done needs streams fit) none ∙ same

-- ---- how an iteration ends

pub stops_by_workers : (P : Refusal → Type 0) (fault : IterationFault) → driver.IfRefused P fault → StopsOnly P (workers_stop fault)
stops_by_workers P (workers.Refused refusal journal) h = h
stops_by_workers P workers.Memory h = tt

-- ---- the iteration of a run

module _ (g : Graphs) (s next tokens ins : List (List ℤ)) (needs : List ℕ) (k : ℕ) (same : needs ≡ run.top_needs g) (sound : early_faults g.graphs g.top [] ≡ [])
    (none : None ≡ run.first_lack 0 needs (rest_of k needs tokens)) (is : ins ≡ run.taken needs (rest_of k needs tokens)) where
  pub gives_next : (result : Result Iteration Stop) → IfOk result (λ i. run.IterationGives g ins s i next) → IfOk result (λ i. Gives g s (rest_of k (run.top_needs g) tokens) i next)
  gives_next (Ok i) h = gives g s next tokens ins needs k i same sound none is h
  gives_next (Err e) h = tt

  pub stops_next : (result : Result Iteration Stop) → IfErr result (StopsOnly (λ refusal. run.IterationEnds g ins s (Err refusal))) → IfErr result (StopsAt g s (rest_of k (run.top_needs g) tokens))
  stops_next (Ok i) h = tt
  stops_next (Err (stop.Short stream has lacking)) h = absurd h
  stops_next (Err (stop.Refused refusal)) h = refused_by_one g s tokens ins needs k refusal same sound none is h
  stops_next (Err stop.Memory) h = tt
