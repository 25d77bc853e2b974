-- Within the limits each link is short.
use Rattle.std.proofs.Common.{◌≡◌, ℕ, ◌+◌, ◌≤◌, List, [], ◌∷◌, length, arith}
use Rattle.std.specs.List.{AllByRecursion}
use Rattle.sdf_level.specs.View.{LevelView}
use Rattle.sdf_level.specs.Invariants.{TailIsThere, HeadIsThere, IsLevel}
use Rattle.sdf_level.specs.Links.{OfInner, OfOuter, EachInner, EachOuter}
use Rattle.sdf_level.specs.Balance.{IsBalanced}
use Rattle.sdf_level.specs.Limits.{tail_count, head_count, moved, links_of, tokens_of, IsWithinLimits}
use Rattle.sdf_level.specs.Laws.{Reaches, Suffices}
use Rattle.sdf_level.specs.declared.link.Link.{Link}
use Rattle.sdf_level.specs.declared.link.Tail.{Tail}
use Rattle.sdf_level.specs.declared.link.Head.{Head}
use Rattle.sdf_level.specs.declared.link.Tail.TheVariants as tail
use Rattle.sdf_level.specs.declared.link.Head.TheVariants as head
use Rattle.single_rate.specs.Short.{IsShort}

module _ (level : LevelView) (q : List ℕ) (one_each : length q ≡ level.actors) where
  one-short : (t : Tail) (h : Head) (d : ℕ) → TailIsThere level t → HeadIsThere level h → moved q t h + d ≤ 1048576 → tail_count q t + head_count q h + 2 ≤ 8192 → OfOuter (Reaches q) level t h → OfInner (IsBalanced q) t h d → IsShort level q t h d
  one-short (tail.Source s) (head.Sink t) d there here tokens links reaches balanced = tt
  one-short (tail.Source s) (head.Port b j c) d there here tokens links reaches balanced = (there, omega arith, omega arith)
  one-short (tail.Port a p r) (head.Sink t) d there here tokens links reaches balanced = (omega arith, here, omega arith, reaches)
  one-short (tail.Port a p r) (head.Port b j c) d there here tokens links reaches balanced = (omega arith, omega arith, omega arith, omega arith, omega arith, omega arith)

  all-short : (links : List Link) → AllByRecursion (λ link. TailIsThere level link.tail) links → AllByRecursion (λ link. HeadIsThere level link.head) links → tokens_of q links ≤ 1048576 → links_of q links ≤ 8192 → EachOuter (Reaches q) level links → EachInner (IsBalanced q) links →
      AllByRecursion (λ link. IsShort level q link.tail link.head link.delay) links
  all-short [] tails heads tokens counts reaches balanced = tt
  all-short (link ∷ links) tails heads tokens counts reaches balanced = (one-short link.tail link.head link.delay tails.0 heads.0 (omega arith) (omega arith) reaches.0 balanced.0, all-short links tails.1 heads.1 (omega arith) (omega arith) reaches.1 balanced.1)

pub links-short : (level : LevelView) (q : List ℕ) → IsLevel level → length q ≡ level.actors → Suffices level q → IsWithinLimits level q → AllByRecursion (λ link. IsShort level q link.tail link.head link.delay) level.links
links-short level q sound one_each suffices limits = all-short level q one_each level.links sound.tails_there sound.heads_there limits.tokens limits.links suffices.reaches suffices.balanced
