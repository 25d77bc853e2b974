-- A run is the only one, and begins with the iterations that are done.
use Rattle.std.proofs.Common.{◌≡◌, ℕ, suc, zero, ◌+◌, ℤ, List, Some, None, slice_get, Ok, sym, ap, ◌∙◌, subst, arith}
use Rattle.pisdf_model.specs.Hold.{initial}
use Rattle.pisdf_model.specs.declared.graph.Graph.{Graph}
use Rattle.pisdf_model.specs.declared.graph.Graphs.{Graphs}
use Rattle.pisdf_meaning.specs.Run as run
use Rattle.pisdf_meaning.specs.declared.outcome.Iteration.{Iteration}
use Rattle.pisdf_meaning.proofs.OneRun.{iteration_once, run_once}
use Rattle.quiescent_driver.specs.Iterated.{Gives, HaveIterated}
use Rattle.quiescent_driver.specs.Streams.{rest_of}
use Rattle.quiescent_driver.proofs.Runs.{after_snoc, found, rest_first, rest_next, then_run}

abbrev State : Type 0
State = List (List ℤ)

pub same_top : (g : Graphs) (a b : Graph) → slice_get g.graphs g.top ≡ Some a → slice_get g.graphs g.top ≡ Some b → a ≡ b
same_top g a b p q = let e : Some a ≡ Some b = sym p ∙ q in cc

pub one_run : (g : Graphs) (streams : State) (n : ℕ) (r r' : run.Run) → run.IsRun g streams n r → run.IsRun g streams n r' → r ≡ r'
one_run g streams n r r' h h' = run_once g n (initial g.graphs g.top) streams r r' h h'

-- where an iteration gives something, the rest of the run is from what it leaves
goes_on_from : (g : Graphs) (n : ℕ) (s next streams : State) (i : Iteration) (r : run.Run) → Gives g s streams i next → run.RunsFrom g (suc n) s streams r
    → (rest : run.Run) × run.RunsFrom g n next (run.left_by (run.top_needs g) streams) rest × (r ≡ run.after i rest)
goes_on_from g n s next streams i r h (top, top_is, check) =
    let rest_run : State → State → run.Run → Type 0 = run.RunsFrom g n in
    let same = same_top g top h.checks.top top_is h.checks.top_is in
    let finds : found g top streams ≡ Ok None = ap (λ t. found g t streams) same ∙ h.checks.finds in
    let iterates : run.Iterates g rest_run s streams None r = subst (λ f. run.AfterCheck g rest_run s streams f r) finds check in
    let given = h.gives.given in
    let ends : iterates.0 ≡ Ok given = iteration_once g (run.taken (run.top_needs g) streams) s iterates.0 (Ok given) iterates.1 h.gives.ends in
    let on : run.GoesOn (λ t q. rest_run t (run.left_by (run.top_needs g) streams) q) (Ok given) r = subst (λ e. run.GoesOn (λ t q. rest_run t (run.left_by (run.top_needs g) streams) q) e r) ends iterates.2 in
    (on.0, subst (λ t. rest_run t (run.left_by (run.top_needs g) streams) on.0) (sym h.gives.state_is) on.1, on.2 ∙ ap (λ j. run.after j on.0) (sym h.gives.iteration_is))

-- each run of more iterations begins with them
pub run_begins : (g : Graphs) (streams : State) (k m : ℕ) (its : List Iteration) (s : State) (r : run.Run) → HaveIterated g streams k its s → run.IsRun g streams (k + m) r → (rest : run.Run) × run.RunsFrom g m s (rest_of k (run.top_needs g) streams) rest × (r ≡ then_run its rest)
run_begins g streams zero m its s r h is =
    let first = rest_first (run.top_needs g) streams in
    let n : 0 + m ≡ m = omega arith in
    let here = subst (λ q. run.IsRun g streams q r) n is in
    (r, subst (λ t. run.RunsFrom g m t (rest_of 0 (run.top_needs g) streams) r) (sym h.1) (subst (λ t. run.RunsFrom g m (initial g.graphs g.top) t r) (sym first) here), ap (λ l. then_run l r) (sym h.0))
run_begins g streams (suc k) m its s r (before, from, i, h, gives, its_are) is =
    let n : suc k + m ≡ k + suc m = omega arith in
    let more = run_begins g streams k (suc m) before from r h (subst (λ q. run.IsRun g streams q r) n is) in
    let on = goes_on_from g m from s (rest_of k (run.top_needs g) streams) i more.0 gives more.1 in
    let same : then_run before (run.after i on.0) ≡ then_run its on.0 = after_snoc before i on.0 ∙ ap (λ l. then_run l on.0) (sym its_are) in
    (on.0, subst (λ t. run.RunsFrom g m s t on.0) (rest_next k (run.top_needs g) streams) on.1, more.2 ∙ ap (then_run before) on.2 ∙ same)
