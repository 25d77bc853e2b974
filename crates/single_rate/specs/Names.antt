-- Tokens named by what makes them.
use Rattle.std.specs.Prelude.{ℕ, zero, suc, ◌+◌, Bool, false, ◌==◌, List, [], ◌∷◌, ◌++◌, if◌then◌else◌}
use Rattle.sdf_level.specs.View.{LevelView}
use Rattle.sdf_level.specs.Invariants.{how_many, is_from_port}
use Rattle.sdf_level.specs.declared.link.Link.{Link}
use Rattle.sdf_level.specs.declared.link.Tail.{Tail}
use Rattle.sdf_level.specs.declared.link.Tail.TheVariants as tail
use Rattle.sdf_level.specs.declared.token_name.TokenName.{TokenName}
use Rattle.sdf_level.specs.declared.token_name.Maker.{Maker}
use Rattle.sdf_level.specs.declared.token_name.Maker.TheVariants as maker
use Rattle.single_rate.specs.Flow.{Given}

-- what stands at n places, from this one on
abbrev pub listed : {A : Type 0} → (ℕ → A) → ℕ → ℕ → List A
listed at place zero = []
listed at place (suc n) = at place ∷ listed at (place + 1) n

-- n tokens of one maker, from this place on
abbrev pub names_from : Maker → ℕ → ℕ → List TokenName
names_from m place n = listed (λ k. record { maker = m; place = k }) place n

abbrev pub names_of : Maker → ℕ → List TokenName
names_of m n = names_from m 0 n

abbrev pub source_names : ℕ → List ℕ → List (List TokenName)
source_names s [] = []
source_names s (rate ∷ rates) = names_of (maker.Source s) rate ∷ source_names (s + 1) rates

abbrev pub delay_names : ℕ → List Link → List (List TokenName)
delay_names l [] = []
delay_names l (link ∷ links) = names_of (maker.Init l) link.delay ∷ delay_names (l + 1) links

abbrev pub is_from_actor : ℕ → Link → Bool
is_from_actor a link = elim link.tail [ tail.Source s ↦ false | tail.Port b j r ↦ b == a ]

abbrev pub tail_rate : Tail → ℕ
tail_rate (tail.Source s) = 0
tail_rate (tail.Port a p r) = r

-- the rate of an actor's output port
abbrev pub output_rate : ℕ → ℕ → List Link → ℕ
output_rate a p [] = 0
output_rate a p (link ∷ links) = if is_from_port a p link then tail_rate link.tail else output_rate a p links

abbrev pub outputs_below : List Link → ℕ → ℕ → ℕ → List (List TokenName)
outputs_below links a k zero = []
outputs_below links a k (suc p) = outputs_below links a k p ++ names_of (maker.Firing a k p) (output_rate a p links) ∷ []

-- what firing k of an actor gives: a list for each output port
abbrev pub output_names : List Link → ℕ → ℕ → List (List TokenName)
output_names links a k = outputs_below links a k (how_many (is_from_actor a) links)

abbrev pub names : LevelView → Given TokenName
names level = record { sources = source_names 0 level.sources; delays = delay_names 0 level.links; made = output_names level.links }
