-- What one thread gets from the iterations of a run.
use Rattle.std.specs.Prelude.{◌≡◌, ℕ, zero, suc, ℤ, ◌+◌, nat_lt, List, [], ◌∷◌, map, length, take, drop, slice_get, Option, Some, None, Result, Ok, Err, if◌then◌else◌}
use Rattle.param_resolver.specs.EarlyCheck.{early_of, early_faults}
use Rattle.pisdf_model.specs.Hold.{initial}
use Rattle.pisdf_model.specs.declared.graph.Graph.{Graph}
use Rattle.pisdf_model.specs.declared.graph.Graphs.{Graphs}
use Rattle.pisdf_meaning.specs.Causes.{unless_refused}
use Rattle.pisdf_meaning.specs.Endings.{End}
use Rattle.pisdf_meaning.specs.Meaning.{Means}
use Rattle.pisdf_meaning.specs.declared.outcome.Iteration.{Iteration}
use Rattle.pisdf_meaning.specs.declared.firing.Firing.{Firing}
use Rattle.pisdf_meaning.specs.declared.firing.Given.{Given}
use Rattle.pisdf_meaning.specs.declared.refusal.Refusal.{Refusal}

-- ---- streams

-- a stream that holds fewer tokens than an iteration needs
pub record Lack : Type 0 where
  pub stream : ℕ
  pub has : ℕ
  pub needs : ℕ

-- the first such stream, counted from `stream`
abbrev pub first_lack : ℕ → List ℕ → List (List ℤ) → Option Lack
first_lack stream [] streams = None
first_lack stream (need ∷ needs) [] = None
first_lack stream (need ∷ needs) (tokens ∷ streams) =
    if nat_lt (length tokens) need then Some record { stream = stream; has = length tokens; needs = need } else first_lack (stream + 1) needs streams

-- the tokens that an iteration takes from each stream
abbrev pub taken : List ℕ → List (List ℤ) → List (List ℤ)
taken [] streams = []
taken (need ∷ needs) [] = []
taken (need ∷ needs) (tokens ∷ streams) = take need tokens ∷ taken needs streams

-- the tokens that it leaves
abbrev pub left_by : List ℕ → List (List ℤ) → List (List ℤ)
left_by [] streams = streams
left_by (need ∷ needs) [] = []
left_by (need ∷ needs) (tokens ∷ streams) = drop need tokens ∷ left_by needs streams

-- ---- an iteration

-- a firing of a top graph: its path is its name, and it has no inherited parameter
abbrev pub top_firing : Graph → ℕ → List (List ℤ) → List (List ℤ) → Firing
top_firing g place inputs state = record { path = g.name; graph = place; inherited = []; inputs = inputs; state = state }

-- how many tokens each input of the top graph takes
abbrev pub top_needs : Graphs → List ℕ
top_needs graphs = (early_of graphs.graphs graphs.top []).inputs

-- the refusal of the early check, which each iteration makes first, or what stands where there is none
abbrev pub after_early : {T : Type 0} → Graphs → Graph → T → Result T Refusal
after_early graphs g given = unless_refused graphs.graphs g g.name (early_faults graphs.graphs graphs.top []) given

-- the firing of the top graph in an iteration with these inputs and this state ends so
pub record IterationEnds (graphs : Graphs) (inputs state : List (List ℤ)) (end : End) : Type 0 where
  pub top : Graph
  pub top_is : slice_get graphs.graphs graphs.top ≡ Some top
  pub means : Means graphs.graphs (top_firing top graphs.top inputs state) end

abbrev pub iteration_of : Given → Iteration
iteration_of given = record { outs = given.outs; trace = given.trace }

-- an iteration gives this, and leaves this state
pub record IterationGives (graphs : Graphs) (inputs state : List (List ℤ)) (iteration : Iteration) (state' : List (List ℤ)) : Type 0 where
  pub given : Given
  pub ends : IterationEnds graphs inputs state (Ok given)
  pub iteration_is : iteration ≡ iteration_of given
  pub state_is : state' ≡ given.state

-- ---- a run

-- how a run ends: all iterations are done and so many tokens of each stream are left, a stream lacks tokens, or a refusal
pub data RunEnd : Type 0 where
  Done : (left : List ℕ) → RunEnd
  Short : (lack : Lack) → RunEnd
  Refused : (refusal : Refusal) → RunEnd

-- what the iterations that are done gave, and the end
pub record Run : Type 0 where
  pub iterations : List Iteration
  pub end : RunEnd

abbrev pub ended : RunEnd → Run
ended end = record { iterations = []; end = end }

abbrev pub after : Iteration → Run → Run
after iteration run = record { iterations = iteration ∷ run.iterations; end = run.end }

-- a run that goes on, with the state left, where an iteration gives something, and else is over
abbrev pub GoesOn : (List (List ℤ) → Run → Type 0) → End → Run → Type 0
GoesOn rest (Ok given) run = (more : Run) × rest given.state more × (run ≡ after (iteration_of given) more)
GoesOn rest (Err refusal) run = run ≡ ended (Refused refusal)

-- an iteration after its early check, where this is the first stream that lacks tokens
abbrev pub Iterates : Graphs → (List (List ℤ) → List (List ℤ) → Run → Type 0) → List (List ℤ) → List (List ℤ) → Option Lack → Run → Type 0
Iterates graphs rest state streams (Some lack) run = run ≡ ended (Short lack)
Iterates graphs rest state streams None run =
    (end : End) × IterationEnds graphs (taken (top_needs graphs) streams) state end × GoesOn (λ state run. rest state (left_by (top_needs graphs) streams) run) end run

abbrev pub AfterCheck : Graphs → (List (List ℤ) → List (List ℤ) → Run → Type 0) → List (List ℤ) → List (List ℤ) → Result (Option Lack) Refusal → Run → Type 0
AfterCheck graphs rest state streams (Ok lack) run = Iterates graphs rest state streams lack run
AfterCheck graphs rest state streams (Err refusal) run = run ≡ ended (Refused refusal)

-- so many iterations from this state and these streams on
abbrev pub RunsFrom : Graphs → ℕ → List (List ℤ) → List (List ℤ) → Run → Type 0
RunsFrom graphs zero state streams run = run ≡ ended (Done (map (λ (tokens : List ℤ). length tokens) streams))
RunsFrom graphs (suc n) state streams run =
    (top : Graph) × (slice_get graphs.graphs graphs.top ≡ Some top) ×
    AfterCheck graphs (RunsFrom graphs n) state streams (after_early graphs top (first_lack 0 (top_needs graphs) streams)) run

-- a run of so many iterations
abbrev pub IsRun : Graphs → List (List ℤ) → ℕ → Run → Type 0
IsRun graphs streams n run = RunsFrom graphs n (initial graphs.graphs graphs.top) streams run
