-- Sources and sinks link by link.
use Rattle.std.proofs.Common.{ℕ, zero, suc, ◌+◌, ◌<◌, ◌≤◌, ◌⊎◌, inl, inr, List, [], ◌∷◌, ◌++◌, length, slice_index, slice_index_or, take, sym, subst, arith}
use Rattle.std.proofs.lemmas.List.{take_all, take_more}
use Rattle.std.specs.List.{AllByRecursion}
use Rattle.interface_rules.specs.Connections.{AreGrouped}
use Rattle.level_laws.specs.Unfolded.{IsOuterWith, IsServed, Serves, SomeOuter}
use Rattle.level_schedule.proofs.LinkByLink.{no_link}
use Rattle.sdf_level.specs.Invariants.{HeadIsThere, IsLevel, TailIsThere}
use Rattle.sdf_level.specs.Links.{EachOuter, OfOuter, Outer}
use Rattle.sdf_level.specs.View.{LevelView}
use Rattle.sdf_level.specs.declared.link.Link.{Link}
use Rattle.sdf_level.specs.declared.link.Tail.{Tail}
use Rattle.sdf_level.specs.declared.link.Head.{Head}
use Rattle.sdf_level.specs.declared.link.Tail.TheVariants as tail
use Rattle.sdf_level.specs.declared.link.Head.TheVariants as head
use Rattle.unfold_rates.specs.Components.{IsOfComponent}

module _ (P : Outer → Type 0) (level : LevelView) where
  each_snoc : (links : List Link) (link : Link) → EachOuter P level links → OfOuter P level link.tail link.head → EachOuter P level (links ++ link ∷ [])
  each_snoc [] link each here = (here, tt)
  each_snoc (x ∷ links) link each here = (each.0, each_snoc links link each.1 here)

  pub each_more : (links : List Link) (i : ℕ) → i < length links → EachOuter P level (take i links) → OfOuter P level (slice_index_or links i no_link).tail (slice_index_or links i no_link).head → EachOuter P level (take (i + 1) links)
  each_more links i inside each here =
      let Q : List Link → Type 0 = λ l. EachOuter P level l in
      subst Q (sym (take_more links i no_link inside)) (each_snoc (take i links) (slice_index_or links i no_link) each here)

  pub each_at : (links : List Link) (i : ℕ) → i < length links → EachOuter P level links → OfOuter P level (slice_index_or links i no_link).tail (slice_index_or links i no_link).head
  each_at [] i inside each = absurd (omega arith)
  each_at (x ∷ links) zero inside each = each.0
  each_at (x ∷ links) (suc i) inside each = each_at links i (omega arith) each.1

  pub each_whole : (links : List Link) (i : ℕ) → length links ≤ i → EachOuter P level (take i links) → EachOuter P level links
  each_whole links i over each = let Q : List Link → Type 0 = λ l. EachOuter P level l in subst Q (take_all i links over) each

  some_snoc : (links : List Link) (link : Link) → SomeOuter P level (links ++ link ∷ []) → SomeOuter P level links ⊎ IsOuterWith P level link.tail link.head
  some_snoc [] link some = elim some [ inl here ↦ inr here | inr none ↦ absurd none ]
  some_snoc (x ∷ links) link some = elim some [
    | inl here ↦ inl (inl here)
    | inr more ↦ elim (some_snoc links link more) [ inl s ↦ inl (inr s) | inr last ↦ inr last ]
  ]

  pub none_more : (links : List Link) (i : ℕ) → i < length links → (SomeOuter P level (take i links) → ⊥) → (IsOuterWith P level (slice_index_or links i no_link).tail (slice_index_or links i no_link).head → ⊥) → SomeOuter P level (take (i + 1) links) → ⊥
  none_more links i inside none not some =
      let Q : List Link → Type 0 = λ l. SomeOuter P level l in
      elim (some_snoc (take i links) (slice_index_or links i no_link) (subst Q (take_more links i no_link inside) some)) [ inl s ↦ none s | inr last ↦ not last ]

  pub some_at : (links : List Link) (i : ℕ) → i < length links → IsOuterWith P level (slice_index_or links i no_link).tail (slice_index_or links i no_link).head → SomeOuter P level links
  some_at [] i inside here = absurd (omega arith)
  some_at (x ∷ links) zero inside here = inl here
  some_at (x ∷ links) (suc i) inside here = inr (some_at links i (omega arith) here)

  pub none_whole : (links : List Link) (i : ℕ) → length links ≤ i → (SomeOuter P level (take i links) → ⊥) → SomeOuter P level links → ⊥
  none_whole links i over none some = let Q : List Link → Type 0 = λ l. SomeOuter P level l in none (subst Q (sym (take_all i links over)) some)

-- ---- what holds of the links of actors that are there

module _ (P Q : Outer → Type 0) (level : LevelView) (turn : (link : Outer) → link.actor < level.actors → P link → Q link) where
  one_turned : (t : Tail) (h : Head) → TailIsThere level t → HeadIsThere level h → IsOuterWith P level t h → IsOuterWith Q level t h
  one_turned (tail.Source s) (head.Sink t) there there' p = p
  one_turned (tail.Source s) (head.Port b j c) there there' p = turn record { outside = slice_index level.sources s; actor = b; rate = c } there' p
  one_turned (tail.Port a p r) (head.Sink t) there there' q = turn record { outside = slice_index level.sinks t; actor = a; rate = r } there q
  one_turned (tail.Port a p r) (head.Port b j c) there there' q = q

  pub some_turned : (links : List Link) → AllByRecursion (λ link. TailIsThere level link.tail) links → AllByRecursion (λ link. HeadIsThere level link.head) links → SomeOuter P level links → SomeOuter Q level links
  some_turned [] tails heads some = some
  some_turned (link ∷ links) tails heads some = elim some [
    | inl here ↦ inl (one_turned link.tail link.head tails.0 heads.0 here)
    | inr more ↦ inr (some_turned links tails.1 heads.1 more)
  ]

-- ---- components

module _ (level : LevelView) (is_level : IsLevel level) (component : List ℕ) (grouped : AreGrouped level.actors level.links component) (a : ℕ) (inside : a < level.actors) where
  pub served_by : SomeOuter (IsOfComponent component (slice_index component a)) level level.links → IsServed level a
  served_by some = some_turned (IsOfComponent component (slice_index component a)) (Serves level.links a) level
      (λ link there one. record { rate = one.rate; connected = (grouped.same a link.actor inside there).0 (sym one.here) })
      level.links is_level.tails_there is_level.heads_there some

  pub component_of : IsServed level a → SomeOuter (IsOfComponent component (slice_index component a)) level level.links
  component_of served = some_turned (Serves level.links a) (IsOfComponent component (slice_index component a)) level
      (λ link there one. record { rate = one.rate; here = sym ((grouped.same a link.actor inside there).1 one.connected) })
      level.links is_level.tails_there is_level.heads_there served
