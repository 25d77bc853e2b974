-- Lists of firings (Lee and Messerschmitt 1987): a list names the actor of each firing in turn.
use Rattle.std.specs.Prelude.{◌≡◌, ℕ, ◌+◌, ◌*◌, ◌≤◌, List, [], ◌∷◌, ◌++◌, map}
use Rattle.sdf_level.specs.View.{LevelView}
use Rattle.sdf_level.specs.Lists.{occurrences}
use Rattle.sdf_level.specs.Links.{Inner, EachInner}
use Rattle.sdf_level.specs.declared.turn.Turn.{Turn}

-- how often an actor fires in a list
abbrev pub firings : ℕ → List ℕ → ℕ
firings a list = occurrences a list

-- after so many firings of each actor, the link has the tokens for one more of its head
abbrev pub HasTokens : (ℕ → ℕ) → Inner → Type 0
HasTokens fired link = link.consumed * (fired link.head + 1) ≤ link.delay + link.produced * fired link.tail

-- if it leads to the actor, it has the tokens
abbrev pub IsReady : (ℕ → ℕ) → ℕ → Inner → Type 0
IsReady fired b link = link.head ≡ b → HasTokens fired link

-- each link into the actor has the tokens
abbrev pub CanFireAfter : LevelView → (ℕ → ℕ) → ℕ → Type 0
CanFireAfter level fired b = EachInner (IsReady fired b) level.links

abbrev pub CanFire : LevelView → List ℕ → ℕ → Type 0
CanFire level before b = CanFireAfter level (λ a. firings a before) b

-- of each firing in the rest, with the firings before it
abbrev pub EachFiring : (List ℕ → ℕ → Type 0) → List ℕ → List ℕ → Type 0
EachFiring P before [] = Unit {0}
EachFiring P before (b ∷ rest) = P before b × EachFiring P (before ++ b ∷ []) rest

-- each firing finds its tokens
abbrev pub EachCanFire : LevelView → List ℕ → Type 0
EachCanFire level list = EachFiring (CanFire level) [] list

abbrev pub actors_of : List Turn → List ℕ
actors_of turns = map (λ t. t.actor) turns

-- each firing with the number of its actor's firings before it
abbrev pub turns_after : List ℕ → List ℕ → List Turn
turns_after before [] = []
turns_after before (b ∷ rest) = record { actor = b; turn = firings b before } ∷ turns_after (before ++ b ∷ []) rest

abbrev pub turns_of : List ℕ → List Turn
turns_of list = turns_after [] list
