-- Runs told by what each firing made.
use Rattle.std.specs.Prelude.{◌≡◌, ℕ, zero, suc, List, [], ◌∷◌, ◌++◌, slice_index_or, Ok, Err}
use Rattle.sdf_level.specs.View.{LevelView}
use Rattle.sdf_level.specs.Firings.{firings, EachFiring}
use Rattle.sdf_level.specs.Run.{Fire, inputs}
use Rattle.sdf_level.specs.declared.link.Link.{Link}
use Rattle.sdf_level.specs.declared.link.Tail.{Tail}
use Rattle.sdf_level.specs.declared.link.Tail.TheVariants as tail

-- what each firing of each actor made: a list for each output port
abbrev pub Made : Type 0 → Type 0
Made T = ℕ → ℕ → List (List T)

-- what the first n firings, which made these, sent through a port
abbrev pub sent : {T : Type 0} → (ℕ → List (List T)) → ℕ → ℕ → List T
sent own p zero = []
sent own p (suc n) = sent own p n ++ slice_index_or (own n) p []

-- the line of a link with this tail after so many firings of each actor
abbrev pub line_of : {T : Type 0} → Made T → (ℕ → ℕ) → Tail → List T → List T
line_of made fired (tail.Source s) start = start
line_of made fired (tail.Port a p r) start = start ++ sent (made a) p (fired a)

abbrev pub lines_of : {T : Type 0} → Made T → (ℕ → ℕ) → List Link → List (List T) → List (List T)
lines_of made fired [] starts = starts
lines_of made fired (link ∷ links) [] = []
lines_of made fired (link ∷ links) (start ∷ starts) = line_of made fired link.tail start ∷ lines_of made fired links starts

-- the lines after the firings of a list
abbrev pub lines_after : {T : Type 0} → LevelView → List (List T) → Made T → List ℕ → List (List T)
lines_after level delays made before = lines_of made (λ a. firings a before) level.links delays

-- what the actor's next firing reads of them
abbrev pub reads_after : {T : Type 0} → LevelView → List (List T) → List (List T) → Made T → List ℕ → ℕ → List (List T)
reads_after level sources delays made before b = inputs sources b (firings b before) level.links (lines_after level delays made before)

-- what that firing would read of the lines after all firings of a list
abbrev pub final_reads : {T : Type 0} → LevelView → List (List T) → List (List T) → Made T → List ℕ → List ℕ → ℕ → List (List T)
final_reads level sources delays made list before b = inputs sources b (firings b before) level.links (lines_after level delays made list)

-- that firing makes, of what it reads, what it is told to have made
abbrev pub Tells : {T F : Type 0} → LevelView → Fire T F → List (List T) → List (List T) → Made T → List ℕ → ℕ → Type 0
Tells level fire sources delays made before b = fire b (firings b before) (reads_after level sources delays made before b) (Ok (made b (firings b before)))

-- each firing of the list does, and these are the lines after them
pub record IsTold {T F : Type 0} (level : LevelView) (fire : Fire T F) (sources delays : List (List T)) (list : List ℕ) (lines : List (List T)) : Type 0 where
  pub made : Made T
  pub each : EachFiring (Tells level fire sources delays made) [] list
  pub lines_are : lines ≡ lines_after level delays made list

-- of the firings after those before, each of the first does, and the next one gives the fault
pub record MeetsFault {T F : Type 0} (level : LevelView) (fire : Fire T F) (sources delays : List (List T)) (made : Made T) (before rest : List ℕ) (fault : F) : Type 0 where
  pub first : List ℕ
  pub actor : ℕ
  pub after : List ℕ
  pub rest_is : rest ≡ first ++ actor ∷ after
  pub each : EachFiring (Tells level fire sources delays made) before first
  pub gives : fire actor (firings actor (before ++ first)) (reads_after level sources delays made (before ++ first) actor) (Err fault)

-- the firings of a list up to its first fault
pub record IsFaultTold {T F : Type 0} (level : LevelView) (fire : Fire T F) (sources delays : List (List T)) (list : List ℕ) (fault : F) : Type 0 where
  pub made : Made T
  pub meets : MeetsFault level fire sources delays made [] list fault
