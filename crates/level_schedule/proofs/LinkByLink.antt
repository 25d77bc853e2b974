-- The counts of links, with one link more.
use Rattle.std.proofs.Common.{◌≡◌, ℕ, ◌+◌, ◌*◌, ◌<◌, ◌≤◌, List, [], ◌∷◌, ◌++◌, length, slice_index_or, take, ap, ◌∙◌, arith}
use Rattle.std.proofs.lemmas.List.{take_more}
use Rattle.sdf_level.specs.Limits.{tail_count, head_count, moved, links_of, tokens_of}
use Rattle.sdf_level.specs.declared.link.Link.{Link}
use Rattle.sdf_level.specs.declared.link.Tail.TheVariants as tail
use Rattle.sdf_level.specs.declared.link.Head.TheVariants as head

-- what stands for an element that is not there
abbrev pub no_link : Link
no_link = record { tail = tail.Source 0; head = head.Sink 0; delay = 0 }

links_of-snoc : (q : List ℕ) (links : List Link) (link : Link) → links_of q (links ++ link ∷ []) ≡ links_of q links + (tail_count q link.tail + head_count q link.head + 2)
links_of-snoc q [] link = omega arith
links_of-snoc q (x ∷ links) link = let e = links_of-snoc q links link in omega arith

tokens_of-snoc : (q : List ℕ) (links : List Link) (link : Link) → tokens_of q (links ++ link ∷ []) ≡ tokens_of q links + (moved q link.tail link.head + link.delay)
tokens_of-snoc q [] link = omega arith
tokens_of-snoc q (x ∷ links) link = let e = tokens_of-snoc q links link in omega arith

pub links_of-more : (q : List ℕ) (links : List Link) (i : ℕ) → i < length links →
    links_of q (take (i + 1) links) ≡ links_of q (take i links) + (tail_count q (slice_index_or links i no_link).tail + head_count q (slice_index_or links i no_link).head + 2)
links_of-more q links i h = ap (links_of q) (take_more links i no_link h) ∙ links_of-snoc q (take i links) (slice_index_or links i no_link)

pub tokens_of-more : (q : List ℕ) (links : List Link) (i : ℕ) → i < length links →
    tokens_of q (take (i + 1) links) ≡ tokens_of q (take i links) + (moved q (slice_index_or links i no_link).tail (slice_index_or links i no_link).head + (slice_index_or links i no_link).delay)
tokens_of-more q links i h = ap (tokens_of q) (take_more links i no_link h) ∙ tokens_of-snoc q (take i links) (slice_index_or links i no_link)

-- each link counts at least 2
pub links_are_few : (q : List ℕ) (links : List Link) → 2 * length links ≤ links_of q links
links_are_few q [] = omega arith
links_are_few q (x ∷ links) = let e = links_are_few q links in omega arith
