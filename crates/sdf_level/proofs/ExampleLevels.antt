-- Small levels on which the definitions are evaluated.
use Rattle.std.proofs.Common.{ℕ, [], ◌∷◌}
use Rattle.sdf_level.specs.View.{LevelView}
use Rattle.sdf_level.specs.declared.link.Link.{Link}
use Rattle.sdf_level.specs.declared.link.Tail.TheVariants as tail
use Rattle.sdf_level.specs.declared.link.Head.TheVariants as head

abbrev pub from_source : ℕ → ℕ → ℕ → ℕ → Link
from_source s b j c = record { tail = tail.Source s; head = head.Port b j c; delay = 0 }

abbrev pub into_sink : ℕ → ℕ → ℕ → ℕ → Link
into_sink a p r t = record { tail = tail.Port a p r; head = head.Sink t; delay = 0 }

abbrev pub between : ℕ → ℕ → ℕ → ℕ → ℕ → ℕ → ℕ → Link
between a p r b j c d = record { tail = tail.Port a p r; head = head.Port b j c; delay = d }

-- one actor that takes 2 and gives 1, a source of 4, a sink of 2
abbrev pub pairs : LevelView
pairs = record { actors = 1; sources = 4 ∷ []; sinks = 2 ∷ []; links = from_source 0 0 0 2 ∷ into_sink 0 0 1 0 ∷ [] }

-- an actor that gives 2 of each token, and one that takes 3
abbrev pub doubled : LevelView
doubled = record { actors = 2; sources = 3 ∷ []; sinks = 2 ∷ []; links = from_source 0 0 0 1 ∷ between 0 0 2 1 0 3 0 ∷ into_sink 1 0 1 0 ∷ [] }

-- an actor that gives 1 of each token, and one that takes 3, with a source of 1
abbrev pub thrice : LevelView
thrice = record { actors = 2; sources = 1 ∷ []; sinks = 1 ∷ []; links = from_source 0 0 0 1 ∷ between 0 0 1 1 0 3 0 ∷ into_sink 1 0 1 0 ∷ [] }

-- an actor that takes 2 tokens, with a source of 3: of its two repetitions the last is cut
abbrev pub cut : LevelView
cut = record { actors = 1; sources = 3 ∷ []; sinks = 2 ∷ []; links = from_source 0 0 0 2 ∷ into_sink 0 0 1 0 ∷ [] }

-- a sum that comes back over a cycle with this delay
abbrev pub cycle : ℕ → LevelView
cycle d = record { actors = 2; sources = 1 ∷ []; sinks = 1 ∷ []; links = from_source 0 0 0 1 ∷ between 0 0 1 1 0 1 0 ∷ into_sink 1 0 1 0 ∷ between 1 1 1 0 1 1 d ∷ [] }

-- a token of one port against two tokens of another
abbrev pub uneven : LevelView
uneven = record { actors = 2; sources = 1 ∷ []; sinks = 1 ∷ []; links = from_source 0 0 0 1 ∷ between 0 0 1 1 0 1 0 ∷ between 0 1 1 1 1 2 0 ∷ into_sink 1 0 1 0 ∷ [] }

-- one firing that gives so many tokens, each of which another actor takes
abbrev pub ramp : ℕ → LevelView
ramp n = record { actors = 2; sources = []; sinks = 1 ∷ []; links = between 0 0 n 1 0 1 0 ∷ into_sink 1 0 1 0 ∷ [] }

-- the same over eight links
abbrev pub eight_links : ℕ → LevelView
eight_links n = record {
  actors = 2;
  sources = [];
  sinks = [];
  links = between 0 0 n 1 0 1 0 ∷ between 0 1 n 1 1 1 0 ∷ between 0 2 n 1 2 1 0 ∷ between 0 3 n 1 3 1 0 ∷ between 0 4 n 1 4 1 0 ∷ between 0 5 n 1 5 1 0 ∷ between 0 6 n 1 6 1 0 ∷ between 0 7 n 1 7 1 0 ∷ [];
}

-- an actor that takes back, at the greatest rate, what it gives, and this delay
abbrev pub own_link : ℕ → LevelView
own_link d = record { actors = 1; sources = []; sinks = []; links = between 0 0 262144 0 0 262144 d ∷ [] }

-- an actor takes one token in each firing, of a source of 4, and gives one to a sink of 1
abbrev pub keep_last : LevelView
keep_last = record { actors = 1; sources = 4 ∷ []; sinks = 1 ∷ []; links = from_source 0 0 0 1 ∷ into_sink 0 0 1 0 ∷ [] }

-- two filters in a chain, on an image in 8 parts
abbrev pub filters : LevelView
filters = record { actors = 2; sources = 101376 ∷ []; sinks = 101376 ∷ []; links = from_source 0 0 0 12672 ∷ between 0 0 12672 1 0 12672 0 ∷ into_sink 1 0 12672 0 ∷ [] }

-- a chain in which the last actor has to fire 4,096 times
abbrev pub growing : LevelView
growing = record { actors = 4; sources = []; sinks = 1 ∷ []; links = between 0 0 16 1 0 1 0 ∷ between 1 0 16 2 0 1 0 ∷ between 2 0 16 3 0 1 0 ∷ into_sink 3 0 1 0 ∷ [] }

-- a link that carries no tokens
abbrev pub silent : LevelView
silent = record { actors = 2; sources = []; sinks = 0 ∷ []; links = between 0 0 0 1 0 0 0 ∷ into_sink 1 0 0 0 ∷ [] }

-- the same, but that a firing at one end puts a token
abbrev pub mute : LevelView
mute = record { actors = 2; sources = []; sinks = 0 ∷ []; links = between 0 0 1 1 0 0 0 ∷ into_sink 1 0 0 0 ∷ [] }

-- a source of rate 0, of which the actor takes a token in each firing
abbrev pub starved : LevelView
starved = record { actors = 1; sources = 4 ∷ 0 ∷ []; sinks = []; links = from_source 0 0 0 2 ∷ from_source 1 0 1 1 ∷ [] }
