-- A run over a list of firings, on queues without a bound, for any type of token and any fault.
use Rattle.std.specs.Prelude.{◌≡◌, ℕ, zero, suc, ◌*◌, Bool, false, ◌==◌, List, [], ◌∷◌, ◌++◌, take, drop, slice_index_or, Result, Ok, Err, if◌then◌else◌}
use Rattle.sdf_level.specs.View.{LevelView}
use Rattle.sdf_level.specs.Invariants.{how_many, is_into_port}
use Rattle.sdf_level.specs.Firings.{firings}
use Rattle.sdf_level.specs.Interfaces.{repeated}
use Rattle.sdf_level.specs.declared.link.Link.{Link}
use Rattle.sdf_level.specs.declared.link.Tail.{Tail}
use Rattle.sdf_level.specs.declared.link.Head.{Head}
use Rattle.sdf_level.specs.declared.link.Tail.TheVariants as tail
use Rattle.sdf_level.specs.declared.link.Head.TheVariants as head

-- Whether firing k of an actor, of these inputs (a list for each input port), gives this answer: a list for each output
-- port, or a fault.
abbrev pub Fire : Type 0 → Type 0 → Type 1
Fire T F = ℕ → ℕ → List (List T) → Result (List (List T)) F → Type 0

-- the same where a function gives the answer
abbrev pub FireFunction : Type 0 → Type 0 → Type 0
FireFunction T F = ℕ → ℕ → List (List T) → Result (List (List T)) F

abbrev pub by_function : {T F : Type 0} → FireFunction T F → Fire T F
by_function fire b k ins answer = fire b k ins ≡ answer

-- The line of a link has every token that was put on it so far, in order: first its delay, then what its tail put.

-- the queue of a link, whose head fired k times at rate c: its line without what these firings took
abbrev pub queue : {T : Type 0} → ℕ → ℕ → List T → List T
queue k c line = drop (k * c) line

-- what firing k of the head, of rate c, reads: of a source its repeated tokens, else the first c of the queue
abbrev pub read : {T : Type 0} → List (List T) → ℕ → ℕ → Tail → List T → List T
read sources k c (tail.Source s) line = repeated (slice_index_or sources s []) (k * c) c
read sources k c (tail.Port a p r) line = take c (queue k c line)

abbrev pub head_rate : Head → ℕ
head_rate (head.Sink t) = 0
head_rate (head.Port b j c) = c

-- what firing k of the actor reads at this input port
abbrev pub input : {T : Type 0} → List (List T) → ℕ → ℕ → ℕ → List Link → List (List T) → List T
input sources b k port [] lines = []
input sources b k port (link ∷ links) [] = []
input sources b k port (link ∷ links) (line ∷ lines) =
    if is_into_port b port link then read sources k (head_rate link.head) link.tail line else input sources b k port links lines

abbrev pub is_into_actor : ℕ → Link → Bool
is_into_actor b link = elim link.head [ head.Sink t ↦ false | head.Port a j c ↦ a == b ]

-- what it reads at the first so many input ports
abbrev pub inputs_below : {T : Type 0} → List (List T) → ℕ → ℕ → ℕ → List Link → List (List T) → List (List T)
inputs_below sources b k zero links lines = []
inputs_below sources b k (suc port) links lines = inputs_below sources b k port links lines ++ input sources b k port links lines ∷ []

abbrev pub inputs : {T : Type 0} → List (List T) → ℕ → ℕ → List Link → List (List T) → List (List T)
inputs sources b k links lines = inputs_below sources b k (how_many (is_into_actor b) links) links lines

-- what the outputs of an actor add to a line
abbrev pub added : {T : Type 0} → ℕ → List (List T) → Tail → List T
added b outputs (tail.Source s) = []
added b outputs (tail.Port a p r) = if a == b then slice_index_or outputs p [] else []

abbrev pub put : {T : Type 0} → ℕ → List (List T) → List Link → List (List T) → List (List T)
put b outputs [] lines = lines
put b outputs (link ∷ links) [] = []
put b outputs (link ∷ links) (line ∷ lines) = (line ++ added b outputs link.tail) ∷ put b outputs links lines

-- how a run goes on after a firing's answer: with outputs as this says, with a fault to its end
abbrev pub GoesOn : {T F : Type 0} → (List (List T) → Type 0) → Result (List (List T)) F → Result (List (List T)) F → Type 0
GoesOn with_outputs end (Ok outputs) = with_outputs outputs
GoesOn with_outputs end (Err fault) = end ≡ Err fault

-- the firings of the rest, after those before it left these lines, come to this end: the lines after all, or the first fault
abbrev pub RunsFrom : {T F : Type 0} → LevelView → Fire T F → List (List T) → List ℕ → List (List T) → List ℕ → Result (List (List T)) F → Type 0
RunsFrom level fire sources before lines [] end = end ≡ Ok lines
RunsFrom {T} {F} level fire sources before lines (b ∷ rest) end =
    (answer : Result (List (List T)) F) × fire b (firings b before) (inputs sources b (firings b before) level.links lines) answer ×
    GoesOn (λ outputs. RunsFrom level fire sources (before ++ b ∷ []) (put b outputs level.links lines) rest end) end answer

-- the firings of a list come to this end. The line of each link starts with its delay
abbrev pub Runs : {T F : Type 0} → LevelView → Fire T F → List (List T) → List (List T) → List ℕ → Result (List (List T)) F → Type 0
Runs level fire sources delays list end = RunsFrom level fire sources [] delays list end
