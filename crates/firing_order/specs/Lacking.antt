-- How many links into each actor lack tokens, after so many firings of each: a list with an entry for each actor.
use Rattle.std.specs.Prelude.{◌≡◌, ℕ, ◌+◌, ◌-◌, ◌*◌, ◌<◌, Bool, ◌==◌, ◌&&◌, nat_lt, List, [], ◌∷◌, length, slice_index, if◌then◌else◌}
use Rattle.sdf_level.specs.declared.inner_link.InnerLink.{InnerLink}

abbrev pub entry_of : List ℕ → ℕ → ℕ
entry_of list a = slice_index list a

-- it doesn't have the tokens for one more firing of its head
abbrev pub is_lacking : List ℕ → InnerLink → Bool
is_lacking fired link = nat_lt (link.delay + link.produced * slice_index fired link.tail) (link.consumed * (slice_index fired link.head + 1))

-- it leads to this actor, and lacks tokens
abbrev pub is_lacking_into : List ℕ → ℕ → InnerLink → Bool
is_lacking_into fired b link = (link.head == b) && is_lacking fired link

-- how many of these links lead to the actor and lack tokens
abbrev pub lacking_into : List ℕ → ℕ → List InnerLink → ℕ
lacking_into fired b [] = 0
lacking_into fired b (link ∷ links) = (if is_lacking_into fired b link then 1 else 0) + lacking_into fired b links

-- each actor has the number of links into it that lack tokens
pub record AreLacking (links : List InnerLink) (fired lacking : List ℕ) : Type 0 where
  pub one_each : length lacking ≡ length fired
  pub each : (b : ℕ) → slice_index lacking b ≡ lacking_into fired b links

-- the actor has count left, and no link into it lacks tokens
pub record IsFree (counts fired lacking : List ℕ) (a : ℕ) : Type 0 where
  pub left : slice_index fired a < slice_index counts a
  pub fed : slice_index lacking a ≡ 0

-- what is left of each count
pub record IsRest (counts fired left : List ℕ) : Type 0 where
  pub one_each : length left ≡ length counts
  pub each : (a : ℕ) → a < length counts → slice_index left a ≡ slice_index counts a - slice_index fired a
