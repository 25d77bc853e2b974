-- Facts on each link between two actors, or with a source or sink: mapped, and with one link more.
use Rattle.std.proofs.Common.{◌≡◌, refl, ℕ, List, [], ◌∷◌, ◌++◌, ◌⊎◌, inl, inr}
use Rattle.sdf_level.specs.View.{LevelView}
use Rattle.sdf_level.specs.declared.link.Link.{Link}
use Rattle.sdf_level.specs.declared.link.Tail.{Tail}
use Rattle.sdf_level.specs.declared.link.Head.{Head}
use Rattle.sdf_level.specs.declared.link.Tail.TheVariants as tail
use Rattle.sdf_level.specs.declared.link.Head.TheVariants as head
use Rattle.sdf_level.specs.Links.{Inner, Outer, OfInner, OfOuter, EachInner, EachOuter, IsInnerWith, SomeInner}

module _ (P : Inner → Type 0) where
  pub EachInner-snoc : (links : List Link) (link : Link) → EachInner P links → OfInner P link.tail link.head link.delay → EachInner P (links ++ link ∷ [])
  EachInner-snoc [] link all here = (here, tt)
  EachInner-snoc (l ∷ links) link all here = (all.0, EachInner-snoc links link all.1 here)

  pub EachInner-front : (links : List Link) (link : Link) → EachInner P (links ++ link ∷ []) → EachInner P links
  EachInner-front [] link all = tt
  EachInner-front (l ∷ links) link all = (all.0, EachInner-front links link all.1)

  pub EachInner-end : (links : List Link) (link : Link) → EachInner P (links ++ link ∷ []) → OfInner P link.tail link.head link.delay
  EachInner-end [] link all = all.0
  EachInner-end (l ∷ links) link all = EachInner-end links link all.1

  pub SomeInner-more : (links : List Link) (link : Link) → SomeInner P links → SomeInner P (links ++ link ∷ [])
  SomeInner-more [] link some = absurd some
  SomeInner-more (l ∷ links) link some = elim some [ inl here ↦ inl here | inr later ↦ inr (SomeInner-more links link later) ]

  pub SomeInner-end : (links : List Link) (link : Link) → IsInnerWith P link.tail link.head link.delay → SomeInner P (links ++ link ∷ [])
  SomeInner-end [] link here = inl here
  SomeInner-end (l ∷ links) link here = inr (SomeInner-end links link here)

  pub SomeInner-split : (links : List Link) (link : Link) → SomeInner P (links ++ link ∷ []) → SomeInner P links ⊎ IsInnerWith P link.tail link.head link.delay
  SomeInner-split [] link some = elim some [ inl here ↦ inr here | inr none ↦ absurd none ]
  SomeInner-split (l ∷ links) link some =
      elim some [
        | inl here ↦ inl (inl here)
        | inr later ↦ elim (SomeInner-split links link later) [ inl before ↦ inl (inr before) | inr last ↦ inr last ]
      ]

module _ {P Q : Inner → Type 0} where
  pub OfInner-map : ((link : Inner) → P link → Q link) → (t : Tail) (h : Head) (d : ℕ) → OfInner P t h d → OfInner Q t h d
  OfInner-map f (tail.Source s) h d p = tt
  OfInner-map f (tail.Port a i r) (head.Sink s) d p = tt
  OfInner-map f (tail.Port a i r) (head.Port b j c) d p = f _ p

  pub EachInner-map : ((link : Inner) → P link → Q link) → (links : List Link) → EachInner P links → EachInner Q links
  EachInner-map f [] p = tt
  EachInner-map f (link ∷ links) p = (OfInner-map f link.tail link.head link.delay p.0, EachInner-map f links p.1)

  IsInnerWith-map : ((link : Inner) → P link → Q link) → (t : Tail) (h : Head) (d : ℕ) → IsInnerWith P t h d → IsInnerWith Q t h d
  IsInnerWith-map f (tail.Source s) h d p = p
  IsInnerWith-map f (tail.Port a i r) (head.Sink s) d p = p
  IsInnerWith-map f (tail.Port a i r) (head.Port b j c) d p = f _ p

  pub SomeInner-map : ((link : Inner) → P link → Q link) → (links : List Link) → SomeInner P links → SomeInner Q links
  SomeInner-map f [] some = some
  SomeInner-map f (link ∷ links) some = elim some [ inl here ↦ inl (IsInnerWith-map f link.tail link.head link.delay here) | inr later ↦ inr (SomeInner-map f links later) ]

  OfInner-with : (t : Tail) (h : Head) (d : ℕ) → OfInner P t h d → ((link : Inner) → IsInnerWith (λ x. x ≡ link) t h d → P link → Q link) → OfInner Q t h d
  OfInner-with (tail.Source s) h d p f = tt
  OfInner-with (tail.Port a i r) (head.Sink s) d p f = tt
  OfInner-with (tail.Port a i r) (head.Port b j c) d p f = f _ refl p

  -- the same, where it is known besides that the link is there
  pub EachInner-with : (links : List Link) → EachInner P links → ((link : Inner) → SomeInner (λ x. x ≡ link) links → P link → Q link) → EachInner Q links
  EachInner-with [] p f = tt
  EachInner-with (l ∷ links) p f = (OfInner-with l.tail l.head l.delay p.0 (λ link here. f link (inl here)), EachInner-with links p.1 (λ link there. f link (inr there)))

module _ (P : Outer → Type 0) (level : LevelView) where
  pub EachOuter-snoc : (links : List Link) (link : Link) → EachOuter P level links → OfOuter P level link.tail link.head → EachOuter P level (links ++ link ∷ [])
  EachOuter-snoc [] link all here = (here, tt)
  EachOuter-snoc (l ∷ links) link all here = (all.0, EachOuter-snoc links link all.1 here)

  pub EachOuter-front : (links : List Link) (link : Link) → EachOuter P level (links ++ link ∷ []) → EachOuter P level links
  EachOuter-front [] link all = tt
  EachOuter-front (l ∷ links) link all = (all.0, EachOuter-front links link all.1)

  pub EachOuter-end : (links : List Link) (link : Link) → EachOuter P level (links ++ link ∷ []) → OfOuter P level link.tail link.head
  EachOuter-end [] link all = all.0
  EachOuter-end (l ∷ links) link all = EachOuter-end links link all.1

module _ {P Q : Outer → Type 0} (level : LevelView) where
  pub OfOuter-map : ((link : Outer) → P link → Q link) → (t : Tail) (h : Head) → OfOuter P level t h → OfOuter Q level t h
  OfOuter-map f (tail.Source s) (head.Sink t) p = tt
  OfOuter-map f (tail.Source s) (head.Port b j c) p = f _ p
  OfOuter-map f (tail.Port a i r) (head.Sink t) p = f _ p
  OfOuter-map f (tail.Port a i r) (head.Port b j c) p = tt

  pub EachOuter-map : ((link : Outer) → P link → Q link) → (links : List Link) → EachOuter P level links → EachOuter Q level links
  EachOuter-map f [] p = tt
  EachOuter-map f (link ∷ links) p = (OfOuter-map f link.tail link.head p.0, EachOuter-map f links p.1)
