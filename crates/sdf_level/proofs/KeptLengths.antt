-- The lengths of what a run leaves on the links and in the sinks.
use Rattle.std.proofs.Common.{◌≡◌, ℕ, suc, ◌+◌, ◌*◌, ◌<◌, ◌≤◌, true, false, ⊎_elim, List, [], ◌∷◌, length, map, slice_index, Ok, refl, sym, arith}
use Rattle.std.specs.List.{AllByRecursion}
use Rattle.std.proofs.lemmas.Bool.{cases_Bool, cases_eq, ne_eqb}
use Rattle.std.proofs.lemmas.List.{length-append, length-drop}
use Rattle.std.proofs.Math.Nat.{mul_comm}
use Rattle.sdf_level.specs.View.{LevelView}
use Rattle.sdf_level.specs.declared.link.Link.{Link}
use Rattle.sdf_level.specs.declared.link.Tail.{Tail}
use Rattle.sdf_level.specs.declared.link.Head.{Head}
use Rattle.sdf_level.specs.declared.link.Tail.TheVariants as tail
use Rattle.sdf_level.specs.declared.link.Head.TheVariants as head
use Rattle.sdf_level.specs.Invariants.{TouchesActor, HasSoundDelay, how_many, is_into_sink, IsLevel}
use Rattle.sdf_level.specs.Links.{OfInner, OfOuter, EachInner, EachOuter}
use Rattle.sdf_level.specs.Balance.{IsBalanced}
use Rattle.sdf_level.specs.Repetition.{IsRepetition}
use Rattle.sdf_level.specs.Interfaces.{last}
use Rattle.sdf_level.specs.Firings.{firings}
use Rattle.sdf_level.specs.Orders.{IsAdmissible}
use Rattle.sdf_level.specs.Run.{Fire, Runs}
use Rattle.sdf_level.specs.LevelRun.{HasRate, HaveRates, HaveDelays, GivesRates, written, kept_at, kept, left_on, left_of}
use Rattle.sdf_level.specs.Told.{Made, line_of, lines_of}
use Rattle.sdf_level.specs.Laws.{Reaches}
use Rattle.sdf_level.proofs.Windows.{length-sent}
use Rattle.sdf_level.proofs.Balanced.{repetition_balanced, repetition_reaches}
use Rattle.sdf_level.proofs.SameTokens.{told_lines, rates}

module _ {T : Type 0} (level : LevelView) (q : List ℕ) (made : Made T) (f : ℕ → ℕ) (counts : (a : ℕ) → f a ≡ slice_index q a) where
  left_one : (t : Tail) (h : Head) (d : ℕ) (start : List T) → length start ≡ d → ((a j : ℕ) → j < slice_index q a → HasRate a (made a j) t) → OfInner (IsBalanced q) t h d → HasSoundDelay t h d → length (left_on q t h (line_of made f t start)) ≡ d
  left_one (tail.Source s) h d start long rated balanced sound = sym sound
  left_one (tail.Port a p r) (head.Sink t) d start long rated balanced sound = sym sound
  left_one (tail.Port a p r) (head.Port b j c) d start long rated balanced sound =
      let put = length-sent (made a) p r (slice_index q a) (λ i h. rated a i h refl) in
      let turned : r * slice_index q a ≡ slice_index q a * r = mul_comm r (slice_index q a) in
      let even : slice_index q a * r ≡ slice_index q b * c = balanced in
      rw (counts a, length-drop, length-append, put) (omega arith)

  pub left_long : (links : List Link) (starts : List (List T)) → HaveDelays links starts → ((a j : ℕ) → j < slice_index q a → HaveRates a (made a j) links) → EachInner (IsBalanced q) links → AllByRecursion (λ link. HasSoundDelay link.tail link.head link.delay) links →
      HaveDelays links (left_of q links (lines_of made f links starts))
  left_long [] [] at rated balanced sound = tt
  left_long [] (start ∷ starts) at rated balanced sound = absurd at
  left_long (link ∷ links) [] at rated balanced sound = absurd at
  left_long (link ∷ links) (start ∷ starts) at rated balanced sound =
      (left_one link.tail link.head link.delay start at.0 (λ a j h. (rated a j h).0) balanced.0 sound.0, left_long links starts at.1 (λ a j h. (rated a j h).1) balanced.1 sound.1)

  -- all that is written to a sink is at least its rate
  one_written : (s : ℕ) (t : Tail) (h : Head) (d : ℕ) (start : List T) → is_into_sink s record { tail = t; head = h; delay = d } ≡ true → ((a j : ℕ) → j < slice_index q a → HasRate a (made a j) t) → TouchesActor t h → OfOuter (Reaches q) level t h →
      slice_index level.sinks s ≤ length (line_of made f t start)
  one_written s t (head.Port b j c) d start into rated touches reaches = absurd (cc)
  one_written s (tail.Source x) (head.Sink y) d start into rated touches reaches = absurd touches
  one_written s (tail.Port a p r) (head.Sink y) d start into rated touches reaches = ⊎_elim
      (λ (e : y ≡ s).
      let put = length-sent (made a) p r (slice_index q a) (λ i h. rated a i h refl) in
      let turned : r * slice_index q a ≡ slice_index q a * r = mul_comm r (slice_index q a) in
      let enough : slice_index level.sinks s ≤ slice_index q a * r = rw e at reaches in
      rw (counts a, length-append, put) (omega arith))
      (λ (n : y ≡ s → ⊥). absurd (let m = rw (ne_eqb y s n) at into in cc))
      (cases_eq y s)

  pub written_long : (s : ℕ) (links : List Link) (starts : List (List T)) → HaveDelays links starts → 0 < how_many (is_into_sink s) links → ((a j : ℕ) → j < slice_index q a → HaveRates a (made a j) links) → AllByRecursion (λ link. TouchesActor link.tail link.head) links → EachOuter (Reaches q) level links →
      slice_index level.sinks s ≤ length (written s links (lines_of made f links starts))
  written_long s [] starts at some rated touches reaches = absurd (omega arith)
  written_long s (link ∷ links) [] at some rated touches reaches = absurd at
  written_long s (link ∷ links) (start ∷ starts) at some rated touches reaches = ⊎_elim
      (λ (e : is_into_sink s link ≡ true). rw e (one_written s link.tail link.head link.delay start e (λ a j h. (rated a j h).0) touches.0 reaches.0))
      (λ (e : is_into_sink s link ≡ false). rw e (written_long s links starts at.1 (let m = rw e at some in omega arith) (λ a j h. (rated a j h).1) touches.1 reaches.1))
      (cases_Bool (is_into_sink s link))

  last_long : (r : ℕ) (line : List T) → r ≤ length line → length (last r line) ≡ r
  last_long r line h = rw length-drop (omega arith)

  pub kept_long : (s : ℕ) (sinks : List ℕ) (lines : List (List T)) → ((i : ℕ) → i < length sinks → slice_index sinks i ≤ length (written (s + i) level.links lines)) → map length (kept_at s sinks level.links lines) ≡ sinks
  kept_long s [] lines enough = refl
  kept_long s (r ∷ sinks) lines enough =
      let e : s + 0 ≡ s = omega arith in
      let here : r ≤ length (written s level.links lines) = let h = enough 0 (omega arith) in rw e at h in
      let later = kept_long (s + 1) sinks lines (λ i h. let f : s + suc i ≡ (s + 1) + i = omega arith in let g = enough (suc i) (omega arith) in rw f at g) in
      rw (last_long r (written s level.links lines) here, later) refl

module _ {T F : Type 0} (level : LevelView) (fire : Fire T F) (sources delays : List (List T)) (q list : List ℕ) (lines : List (List T)) (sound : IsLevel level) (is : IsRepetition level q)
    (gives : GivesRates level fire) (starting : HaveDelays level.links delays) (admissible : IsAdmissible level q list) (run : Runs level fire sources delays list (Ok lines)) where
  pub leaves_delays : HaveDelays level.links (left_of q level.links lines)
  leaves_delays =
      let told = told_lines level fire sources delays list lines run in
      let rated = rates level fire sources delays q list told.made gives admissible told.each in
      rw told.lines_are (left_long level q told.made (λ a. firings a list) admissible.counts level.links delays starting rated (repetition_balanced level q sound is) sound.delays)

  pub keeps_rates : map length (kept level lines) ≡ level.sinks
  keeps_rates =
      let told = told_lines level fire sources delays list lines run in
      let rated = rates level fire sources delays q list told.made gives admissible told.each in
      rw told.lines_are (kept_long level q told.made (λ a. firings a list) admissible.counts 0 level.sinks (lines_of told.made (λ a. firings a list) level.links delays) (λ i h.
      let e : 0 + i ≡ i = omega arith in
      rw e (written_long level q told.made (λ a. firings a list) admissible.counts i level.links delays starting (let o = sound.sinks_at_one i h in omega arith) rated sound.actors_between (repetition_reaches level q sound is))))
