-- Tokens for the sources and links of a level: all of them 0.
use Rattle.std.proofs.Common.{◌≡◌, ℕ, ℤ, pos, List, [], ◌∷◌, length, map, replicate, refl, ap₂}
use Rattle.std.proofs.lemmas.List.{length-replicate}
use Rattle.sdf_level.specs.LevelRun.{HaveDelays}
use Rattle.sdf_level.specs.declared.link.Link.{Link}

abbrev zeros : ℕ → List ℤ
zeros count = replicate count (pos 0)

abbrev pub given : List ℕ → List (List ℤ)
given rates = map zeros rates

pub given_fit : (rates : List ℕ) → map length (given rates) ≡ rates
given_fit [] = refl
given_fit (rate ∷ rates) = ap₂ (λ x xs. x ∷ xs) (length-replicate rate (pos 0)) (given_fit rates)

abbrev pub held : List Link → List (List ℤ)
held links = map (λ (link : Link). zeros link.delay) links

pub held_fit : (links : List Link) → HaveDelays links (held links)
held_fit [] = tt
held_fit (link ∷ links) = (length-replicate link.delay (pos 0), held_fit links)
