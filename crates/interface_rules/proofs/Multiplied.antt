-- The base vector times the factors is the repetition vector.
use Rattle.std.proofs.Common.{◌≡◌, ℕ, zero, suc, ◌+◌, ◌*◌, ◌<◌, List, [], ◌∷◌, length, slice_index, take, sym}
use Rattle.std.specs.List.{AllByRecursion}
use Rattle.sdf_level.specs.View.{LevelView}
use Rattle.sdf_level.specs.Invariants.{TailIsThere, HeadIsThere, IsLevel}
use Rattle.sdf_level.specs.Links.{Outer, OfOuter, EachOuter}
use Rattle.sdf_level.specs.Balance.{IsBase}
use Rattle.sdf_level.specs.Components.{AreConnected}
use Rattle.sdf_level.specs.Repetition.{AgreesOnZero, HasEnough, IsLeastFactor, IsRepetition, IsFirstMismatch}
use Rattle.sdf_level.specs.declared.link.Link.{Link}
use Rattle.sdf_level.specs.declared.link.Tail.{Tail}
use Rattle.sdf_level.specs.declared.link.Head.{Head}
use Rattle.sdf_level.specs.declared.link.Tail.TheVariants as tail
use Rattle.sdf_level.specs.declared.link.Head.TheVariants as head
use Rattle.sdf_level.proofs.InnerLinks.{EachOuter-map}
use Rattle.interface_rules.specs.Connections.{AreGrouped}
use Rattle.interface_rules.specs.Served.{IsServed, IsLeastFor, AreServed}

actors_there : (level : LevelView) (links : List Link) → AllByRecursion (λ link. TailIsThere level link.tail) links → AllByRecursion (λ link. HeadIsThere level link.head) links → EachOuter (λ o. o.actor < level.actors) level links
actors_there level [] tails heads = tt
actors_there level (link ∷ links) tails heads = (one link.tail link.head tails.0 heads.0, actors_there level links tails.1 heads.1)
  where
    one : (t : Tail) (h : Head) → TailIsThere level t → HeadIsThere level h → OfOuter (λ o. o.actor < level.actors) level t h
    one (tail.Source s) (head.Sink k) there here = tt
    one (tail.Source s) (head.Port b j c) there here = here
    one (tail.Port a p r) (head.Sink k) there here = there
    one (tail.Port a p r) (head.Port b j c) there here = tt

both : (P Q : Outer → Type 0) (level : LevelView) (links : List Link) → EachOuter P level links → EachOuter Q level links → EachOuter (λ o. P o × Q o) level links
both P Q level [] p q = tt
both P Q level (link ∷ links) p q = (one link.tail link.head p.0 q.0, both P Q level links p.1 q.1)
  where
    one : (t : Tail) (h : Head) → OfOuter P level t h → OfOuter Q level t h → OfOuter (λ o. P o × Q o) level t h
    one (tail.Source s) (head.Sink k) p q = tt
    one (tail.Source s) (head.Port b j c) p q = (p, q)
    one (tail.Port a i r) (head.Sink k) p q = (p, q)
    one (tail.Port a i r) (head.Port b j c) p q = tt

module _ (level : LevelView) (known : IsLevel level) (base group : List ℕ) (grouped : AreGrouped level.actors level.links group) where
  there : EachOuter (λ o. o.actor < level.actors) level level.links
  there = actors_there level level.links known.tails_there known.heads_there

  pub least_factor : (a m : ℕ) → a < level.actors → IsLeastFor level level.links base group (slice_index group a) m → IsLeastFactor level base a m
  least_factor a m h l = record {
    factor = record {
      at_least_one = l.at_least_one;
      enough = EachOuter-map {P = λ o. (o.actor < level.actors) × IsServed base group (slice_index group a) m o} {Q = λ o. AreConnected level.links a o.actor → HasEnough base m o} level
          (λ o p f. p.1 (sym ((grouped.same a o.actor h p.0).1 f)))
          level.links
          (both (λ o. o.actor < level.actors) (IsServed base group (slice_index group a) m) level level.links there l.enough);
    };
    least = λ other f. l.least other f.at_least_one
        (EachOuter-map {P = λ o. (o.actor < level.actors) × (AreConnected level.links a o.actor → HasEnough base other o)} {Q = IsServed base group (slice_index group a) other} level
        (λ o p e. p.1 ((grouped.same a o.actor h p.0).0 (sym e)))
        level.links
        (both (λ o. o.actor < level.actors) (λ o. AreConnected level.links a o.actor → HasEnough base other o) level level.links there f.enough));
  }

  pub is_repetition : (factors counts : List ℕ) → IsBase level base → AreServed level level.links base group factors → length counts ≡ level.actors →
      ((a : ℕ) → a < level.actors → slice_index counts a ≡ slice_index factors (slice_index group a) * slice_index base a) → IsRepetition level counts
  is_repetition factors counts is_base served long products = record {
    base = base;
    is_base = is_base;
    agree = served.agree;
    multiplied = record {
      one_each = long;
      entries = λ a h. record {
        factor = slice_index factors (slice_index group a);
        least = least_factor a (slice_index factors (slice_index group a)) h (served.each (slice_index group a) (grouped.below a h));
        product = products a h;
      };
    };
  }

agree-take : (level : LevelView) (links : List Link) (i : ℕ) → EachOuter AgreesOnZero level links → EachOuter AgreesOnZero level (take i links)
agree-take level [] zero all = tt
agree-take level [] (suc i) all = tt
agree-take level (link ∷ links) zero all = tt
agree-take level (link ∷ links) (suc i) all = (all.0, agree-take level links i all.1)

-- where there is a repetition vector, no link is mismatched
pub no_mismatch : (level : LevelView) (counts : List ℕ) (i : ℕ) → IsRepetition level counts → IsFirstMismatch level i → ⊥
no_mismatch level counts i is m = m.here (agree-take level level.links (i + 1) is.agree)
