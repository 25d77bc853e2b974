-- The run of one thread: what stays at the sinks and on the links.
use Rattle.std.specs.Prelude.{◌≡◌, ℕ, ◌+◌, List, [], ◌∷◌, length, slice_index, slice_index_or, Result, Ok, Err, if◌then◌else◌}
use Rattle.sdf_level.specs.View.{LevelView}
use Rattle.sdf_level.specs.Invariants.{is_into_sink}
use Rattle.sdf_level.specs.Orders.{IsOrder}
use Rattle.sdf_level.specs.Interfaces.{last}
use Rattle.sdf_level.specs.Run.{Fire, queue, Runs}
use Rattle.sdf_level.specs.declared.link.Link.{Link}
use Rattle.sdf_level.specs.declared.link.Tail.{Tail}
use Rattle.sdf_level.specs.declared.link.Head.{Head}
use Rattle.sdf_level.specs.declared.link.Tail.TheVariants as tail
use Rattle.sdf_level.specs.declared.link.Head.TheVariants as head

-- what each sink keeps, and what is left on each link
pub record Ended (T : Type 0) : Type 0 where
  pub outs : List (List T)
  pub left : List (List T)

-- all that was written to this sink
abbrev pub written : {T : Type 0} → ℕ → List Link → List (List T) → List T
written t [] lines = []
written t (link ∷ links) [] = []
written t (link ∷ links) (line ∷ lines) = if is_into_sink t link then line else written t links lines

-- what these sinks keep, the first of them having this number
abbrev pub kept_at : {T : Type 0} → ℕ → List ℕ → List Link → List (List T) → List (List T)
kept_at t [] links lines = []
kept_at t (r ∷ sinks) links lines = last r (written t links lines) ∷ kept_at (t + 1) sinks links lines

abbrev pub kept : {T : Type 0} → LevelView → List (List T) → List (List T)
kept level lines = kept_at 0 level.sinks level.links lines

-- what is left on a link after all firings: between two actors its queue
abbrev pub left_on : {T : Type 0} → List ℕ → Tail → Head → List T → List T
left_on q (tail.Source s) h line = []
left_on q (tail.Port a p r) (head.Sink t) line = []
left_on q (tail.Port a p r) (head.Port b j c) line = queue (slice_index q b) c line

abbrev pub left_of : {T : Type 0} → List ℕ → List Link → List (List T) → List (List T)
left_of q [] lines = []
left_of q (link ∷ links) [] = []
left_of q (link ∷ links) (line ∷ lines) = left_on q link.tail link.head line ∷ left_of q links lines

abbrev pub end_of : {T : Type 0} → LevelView → List ℕ → List (List T) → Ended T
end_of level q lines = record { outs = kept level lines; left = left_of q level.links lines }

abbrev pub IsEnd : {T F : Type 0} → LevelView → List ℕ → Result (List (List T)) F → Result (Ended T) F → Type 0
IsEnd level q (Ok lines) end = end ≡ Ok (end_of level q lines)
IsEnd level q (Err fault) end = end ≡ Err fault

-- the end of a run over this list, which fires each actor its count
pub record RunEnds {T F : Type 0} (level : LevelView) (q : List ℕ) (sources delays : List (List T)) (fire : Fire T F) (list : List ℕ) (end : Result (Ended T) F) : Type 0 where
  pub lines : Result (List (List T)) F
  pub runs : Runs level fire sources delays list lines
  pub is_end : IsEnd level q lines end

-- the end of the run in the order of one thread
pub record IsLevelRun {T F : Type 0} (level : LevelView) (q : List ℕ) (sources delays : List (List T)) (fire : Fire T F) (end : Result (Ended T) F) : Type 0 where
  pub list : List ℕ
  pub order : IsOrder level q list
  pub ends : RunEnds level q sources delays fire list end

-- as many tokens on each link at the start as its delay
abbrev pub HaveDelays : {T : Type 0} → List Link → List (List T) → Type 0
HaveDelays [] [] = Unit {0}
HaveDelays [] (line ∷ lines) = ⊥
HaveDelays (link ∷ links) [] = ⊥
HaveDelays (link ∷ links) (line ∷ lines) = (length line ≡ link.delay) × HaveDelays links lines

-- at a port of this actor, as many tokens as its rate
abbrev pub HasRate : {T : Type 0} → ℕ → List (List T) → Tail → Type 0
HasRate b outputs (tail.Source s) = Unit {0}
HasRate b outputs (tail.Port a p r) = a ≡ b → length (slice_index_or outputs p []) ≡ r

abbrev pub HaveRates : {T : Type 0} → ℕ → List (List T) → List Link → Type 0
HaveRates b outputs [] = Unit {0}
HaveRates b outputs (link ∷ links) = HasRate b outputs link.tail × HaveRates b outputs links

-- every firing without a fault gives each port as many tokens as its rate
abbrev pub GivesRates : {T F : Type 0} → LevelView → Fire T F → Type 0
GivesRates {T} {F} level fire = (b k : ℕ) (ins outputs : List (List T)) → fire b k ins (Ok outputs) → HaveRates b outputs level.links
