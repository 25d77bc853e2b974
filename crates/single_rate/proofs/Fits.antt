-- What is given in lengths that fit a level fits each of its links.
use Rattle.std.proofs.Common.{◌≡◌, ℕ, zero, suc, ◌+◌, ◌<◌, List, [], ◌∷◌, map, length, slice_index, slice_index_or, refl, ap, ◌∙◌, arith}
use Rattle.std.specs.List.{AllByRecursion}
use Rattle.sdf_level.specs.View.{LevelView}
use Rattle.sdf_level.specs.Invariants.{TouchesActor, HasSoundDelay, IsLevel}
use Rattle.sdf_level.specs.Links.{OfInner, OfOuter, EachInner, EachOuter}
use Rattle.sdf_level.specs.Balance.{IsBalanced}
use Rattle.sdf_level.specs.Repetition.{AgreesOnZero}
use Rattle.sdf_level.specs.LevelRun.{HaveDelays, HasRate, HaveRates}
use Rattle.sdf_level.specs.Laws.{Reaches, Suffices}
use Rattle.sdf_level.specs.declared.link.Link.{Link}
use Rattle.sdf_level.specs.declared.link.Tail.{Tail}
use Rattle.sdf_level.specs.declared.link.Head.{Head}
use Rattle.sdf_level.specs.declared.link.Tail.TheVariants as tail
use Rattle.sdf_level.specs.declared.link.Head.TheVariants as head
use Rattle.single_rate.specs.Flow.{Given}
use Rattle.single_rate.specs.Laws.{HasLengths}
use Rattle.single_rate.proofs.EachLink.{TailFits, EndsFit}
use Rattle.single_rate.proofs.AllLinks.{AllFit}

index-lengths : {T : Type 0} (lists : List (List T)) (s : ℕ) → length (slice_index_or lists s []) ≡ slice_index (map length lists) s
index-lengths [] s = refl
index-lengths (x ∷ lists) zero = refl
index-lengths (x ∷ lists) (suc s) = index-lengths lists s

module _ {T : Type 0} (level : LevelView) (q : List ℕ) (given : Given T) (lengths : HasLengths level q given) where
  tail-fits : (t : Tail) → ((a k : ℕ) → k < slice_index q a → HasRate a (given.made a k) t) → TailFits level q given t
  tail-fits (tail.Source s) rates = index-lengths given.sources s ∙ ap (λ (x : List ℕ). slice_index x s) lengths.sources
  tail-fits (tail.Port a p r) rates = λ i within. rates a i within refl

  ends-fit : (t : Tail) (h : Head) (d : ℕ) → TouchesActor t h → OfInner (IsBalanced q) t h d → OfOuter (Reaches q) level t h → OfOuter AgreesOnZero level t h → EndsFit level q given t h
  ends-fit (tail.Source s) (head.Sink t) d touches balanced reaches agrees = touches
  ends-fit (tail.Source s) (head.Port b j c) d touches balanced reaches agrees = (reaches, agrees.0)
  ends-fit (tail.Port a p r) (head.Sink t) d touches balanced reaches agrees = reaches
  ends-fit (tail.Port a p r) (head.Port b j c) d touches balanced reaches agrees = balanced

  each-fits : (links : List Link) (starts : List (List T)) (l : ℕ) → ((i : ℕ) → slice_index_or given.delays (l + i) [] ≡ slice_index_or starts i []) → HaveDelays links starts → ((a k : ℕ) → k < slice_index q a → HaveRates a (given.made a k) links) →
      AllByRecursion (λ link. TouchesActor link.tail link.head) links → AllByRecursion (λ link. HasSoundDelay link.tail link.head link.delay) links → EachInner (IsBalanced q) links → EachOuter (Reaches q) level links → EachOuter AgreesOnZero level links →
      AllFit level q given l links starts
  each-fits [] [] l at long rates touches delays balanced reaches agrees = tt
  each-fits [] (start ∷ starts) l at long rates touches delays balanced reaches agrees = absurd long
  each-fits (link ∷ links) [] l at long rates touches delays balanced reaches agrees = absurd long
  each-fits (link ∷ links) (start ∷ starts) l at long rates touches delays balanced reaches agrees = (
    record {
      is = (let e : l + 0 ≡ l = omega arith in let a = at 0 in rw e at a);
      long = long.0;
      no_delay = delays.0;
      gives = tail-fits link.tail (λ a k within. (rates a k within).0);
      ends = ends-fit link.tail link.head link.delay touches.0 balanced.0 reaches.0 agrees.0;
    },
    each-fits links starts (l + 1) (λ i. let e : (l + 1) + i ≡ l + suc i = omega arith in let a = at (suc i) in rw e a) long.1 (λ a k within. (rates a k within).1) touches.1 delays.1 balanced.1 reaches.1 agrees.1,
  )

  pub all-fit : IsLevel level → Suffices level q → EachOuter AgreesOnZero level level.links → AllFit level q given 0 level.links given.delays
  all-fit sound suffices agrees = each-fits level.links given.delays 0 (λ i. let e : 0 + i ≡ i = omega arith in rw e refl) lengths.delays lengths.made sound.actors_between sound.delays suffices.balanced suffices.reaches agrees
