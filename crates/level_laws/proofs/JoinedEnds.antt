-- What a run over copies keeps and leaves.
use Rattle.std.proofs.Common.{◌≡◌, ◌≢◌, ℕ, suc, ◌+◌, ◌-◌, ◌*◌, ◌<◌, true, false, ⊎_elim, List, [], ◌∷◌, ◌++◌, length, slice_index, drop, Ok, refl, ap, sym, ◌∙◌, subst, arith}
use Rattle.std.specs.List.{AllByRecursion}
use Rattle.std.proofs.lemmas.Bool.{cases_Bool, cases_eq, ne_eqb}
use Rattle.std.proofs.lemmas.List.{length-append}
use Rattle.std.proofs.Math.Nat.{mul_comm}
use Rattle.std.proofs.Math.Seq.{drop-append-add}
use Rattle.sdf_level.specs.View.{LevelView}
use Rattle.sdf_level.specs.declared.link.Link.{Link}
use Rattle.sdf_level.specs.declared.link.Tail.{Tail}
use Rattle.sdf_level.specs.declared.link.Head.{Head}
use Rattle.sdf_level.specs.declared.link.Tail.TheVariants as tail
use Rattle.sdf_level.specs.declared.link.Head.TheVariants as head
use Rattle.sdf_level.specs.Interfaces.{last}
use Rattle.sdf_level.specs.Invariants.{HasSoundDelay, TouchesActor, how_many, is_into_sink}
use Rattle.sdf_level.specs.Links.{OfOuter, EachOuter}
use Rattle.sdf_level.specs.Firings.{firings}
use Rattle.sdf_level.specs.Orders.{IsAdmissible}
use Rattle.sdf_level.specs.Run.{Fire, Runs}
use Rattle.sdf_level.specs.LevelRun.{Ended, GivesRates, HasRate, HaveDelays, HaveRates, end_of, kept, kept_at, left_of, left_on, written}
use Rattle.sdf_level.specs.Told.{Made, line_of, lines_of}
use Rattle.sdf_level.proofs.KeptLengths.{leaves_delays}
use Rattle.sdf_level.proofs.SameTokens.{rates, told_lines}
use Rattle.sdf_level.proofs.Windows.{length-sent}
use Rattle.level_laws.specs.Unfolded.{IsExactLevel, copies, multiplied, unfolded}
use Rattle.level_laws.specs.Pieces.{IsCut, first_tokens, joined, later, one_and_others, other_tokens, used_of, used_on}
use Rattle.level_laws.proofs.Copies.{copies_admissible, suc_times}
use Rattle.level_laws.proofs.CutReads.{AreUsed, IsUsed, sum_times}
use Rattle.level_laws.proofs.Cutting.{done}
use Rattle.level_laws.proofs.Multiplied.{IsMet, all_met, all_met_widened, at_multiplied}

-- ---- what is written to a sink is just its rate

module _ {T : Type 0} (level : LevelView) (q : List ℕ) (made : Made T) (f : ℕ → ℕ) (counts : (a : ℕ) → f a ≡ slice_index q a) where
  exact_one : (s : ℕ) (t : Tail) (h : Head) (d : ℕ) (start : List T) → is_into_sink s record { tail = t; head = h; delay = d } ≡ true → length start ≡ d → ((a j : ℕ) → j < slice_index q a → HasRate a (made a j) t) → TouchesActor t h → HasSoundDelay t h d → OfOuter (IsMet q) level t h →
      length (line_of made f t start) ≡ slice_index level.sinks s
  exact_one s t (head.Port b j c) d start into long rated touches sound met = absurd (cc)
  exact_one s (tail.Source x) (head.Sink y) d start into long rated touches sound met = absurd touches
  exact_one s (tail.Port a p r) (head.Sink y) d start into long rated touches sound met = ⊎_elim
      (λ (e : y ≡ s).
      let put = length-sent (made a) p r (slice_index q a) (λ i h. rated a i h refl) in
      let turned : r * slice_index q a ≡ slice_index q a * r = mul_comm r (slice_index q a) in
      let exact : slice_index q a * r ≡ slice_index level.sinks s = rw e at met in
      let none : d ≡ 0 = sound in
      rw (counts a, length-append, put) (omega arith))
      (λ (n : y ≢ s). absurd (let m = rw (ne_eqb y s n) at into in cc))
      (cases_eq y s)

  exact_each : (s : ℕ) (links : List Link) (starts : List (List T)) → HaveDelays links starts → 0 < how_many (is_into_sink s) links → ((a j : ℕ) → j < slice_index q a → HaveRates a (made a j) links) →
      AllByRecursion (λ link. TouchesActor link.tail link.head) links → AllByRecursion (λ link. HasSoundDelay link.tail link.head link.delay) links → EachOuter (IsMet q) level links →
      length (written s links (lines_of made f links starts)) ≡ slice_index level.sinks s
  exact_each s [] starts at some rated touches sound met = absurd (omega arith)
  exact_each s (link ∷ links) [] at some rated touches sound met = absurd at
  exact_each s (link ∷ links) (start ∷ starts) at some rated touches sound met = ⊎_elim
      (λ (e : is_into_sink s link ≡ true). rw e (exact_one s link.tail link.head link.delay start e at.0 (λ a j h. (rated a j h).0) touches.0 sound.0 met.0))
      (λ (e : is_into_sink s link ≡ false). rw e (exact_each s links starts at.1 (let m = rw e at some in omega arith) (λ a j h. (rated a j h).1) touches.1 sound.1 met.1))
      (cases_Bool (is_into_sink s link))

-- after a run
pub written_exactly : {T F : Type 0} (level : LevelView) (fire : Fire T F) (sources starts : List (List T)) (q list : List ℕ) (lines : List (List T)) → GivesRates level fire → HaveDelays level.links starts → IsAdmissible level q list → EachOuter (IsMet q) level level.links →
    AllByRecursion (λ link. TouchesActor link.tail link.head) level.links → AllByRecursion (λ link. HasSoundDelay link.tail link.head link.delay) level.links → Runs level fire sources starts list (Ok lines) →
    (s : ℕ) → how_many (is_into_sink s) level.links ≡ 1 → length (written s level.links lines) ≡ slice_index level.sinks s
written_exactly {T} {F} level fire sources starts q list lines gives starting admissible met touches sound run s one =
    let told = told_lines level fire sources starts list lines run in
    let rated = rates level fire sources starts q list told.made gives admissible told.each in
    let P : List (List T) → Type 0 = λ l. length (written s level.links l) ≡ slice_index level.sinks s in
    subst P (sym told.lines_are) (exact_each level q told.made (λ a. firings a list) admissible.counts s level.links starts starting (omega arith) rated touches sound met)

-- ---- lines put together

module _ {T : Type 0} (q : List ℕ) where
  used_at_sink : (s : ℕ) (t : Tail) (h : Head) (d : ℕ) (line : List T) → is_into_sink s record { tail = t; head = h; delay = d } ≡ true → used_on q t h line ≡ line
  used_at_sink s (tail.Source x) (head.Sink y) d line into = refl
  used_at_sink s (tail.Port a p r) (head.Sink y) d line into = refl
  used_at_sink s t (head.Port b j c) d line into = absurd (cc)

  written_joined : (s : ℕ) (links : List Link) (one others : List (List T)) → AreUsed q links (used_of q links one) others → written s links (joined (used_of q links one) others) ≡ written s links one ++ written s links others
  written_joined s [] one others are = refl
  written_joined s (link ∷ links) [] others are = absurd are
  written_joined s (link ∷ links) (line ∷ one) [] are = absurd are
  written_joined s (link ∷ links) (line ∷ one) (other ∷ others) are = ⊎_elim
      (λ (e : is_into_sink s link ≡ true). rw e (ap (λ (l : List T). l ++ other) (used_at_sink s link.tail link.head link.delay line e)))
      (λ (e : is_into_sink s link ≡ false). rw e (written_joined s links one others are.1))
      (cases_Bool (is_into_sink s link))

  last_all : (r : ℕ) (line : List T) → length line ≡ r → last r line ≡ line
  last_all r line e = let none : length line - r ≡ 0 = omega arith in ap (λ n. drop n line) none

  kept_joined : (times s : ℕ) (sinks : List ℕ) (links : List Link) (one others : List (List T)) → AreUsed q links (used_of q links one) others → ((i : ℕ) → i < length sinks → length (written (s + i) links one) ≡ slice_index sinks i) →
      ((i : ℕ) → i < length sinks → length (written (s + i) links others) ≡ times * slice_index sinks i) →
      kept_at s (multiplied (suc times) sinks) links (joined (used_of q links one) others) ≡ joined (kept_at s sinks links one) (kept_at s (multiplied times sinks) links others)
  kept_joined times s [] links one others are first rest = refl
  kept_joined times s (r ∷ sinks) links one others are first rest =
      let at : s + 0 ≡ s = omega arith in
      let x : length (written s links one) ≡ r = let h = first 0 (omega arith) in rw at at h in
      let y : length (written s links others) ≡ times * r = let h = rest 0 (omega arith) in rw at at h in
      let both : length (written s links one ++ written s links others) ≡ suc times * r = length-append (written s links one) (written s links others) ∙ (let m = suc_times times r in omega arith) in
      let here : last (suc times * r) (written s links (joined (used_of q links one) others)) ≡ last r (written s links one) ++ last (times * r) (written s links others) =
      ap (last (suc times * r)) (written_joined s links one others are) ∙ last_all (suc times * r) (written s links one ++ written s links others) both
      ∙ ap (λ (l : List T). l ++ written s links others) (sym (last_all r (written s links one) x)) ∙ ap (λ (l : List T). last r (written s links one) ++ l) (sym (last_all (times * r) (written s links others) y)) in
      let later = kept_joined times (s + 1) sinks links one others are
      (λ i h. let e : s + suc i ≡ (s + 1) + i = omega arith in let g = first (suc i) (omega arith) in rw e at g)
      (λ i h. let e : s + suc i ≡ (s + 1) + i = omega arith in let g = rest (suc i) (omega arith) in rw e at g) in
      rw (here, later) refl

  left_one : (times : ℕ) (t : Tail) (h : Head) (used line : List T) → IsUsed q t h used → left_on (multiplied (suc times) q) t h (used ++ line) ≡ left_on (multiplied times q) t h line
  left_one times (tail.Source s) h used line is = refl
  left_one times (tail.Port a p r) (head.Sink t) used line is = refl
  left_one times (tail.Port a p r) (head.Port b j c) used line is =
      let n : ℕ = slice_index (multiplied times q) b in
      let more : slice_index (multiplied (suc times) q) b ≡ slice_index q b + n = at_multiplied (suc times) q b ∙ suc_times times (slice_index q b) ∙ ap (λ m. slice_index q b + m) (sym (at_multiplied times q b)) in
      let at : slice_index (multiplied (suc times) q) b * c ≡ length used + n * c = ap (λ m. m * c) more ∙ sum_times (slice_index q b) n c ∙ ap (λ m. m + n * c) (sym is) in
      ap (λ m. drop m (used ++ line)) at ∙ drop-append-add used line (n * c)

  left_joined : (times : ℕ) (links : List Link) (all others : List (List T)) → AreUsed q links all others → left_of (multiplied (suc times) q) links (joined all others) ≡ left_of (multiplied times q) links others
  left_joined times [] all others are = refl
  left_joined times (link ∷ links) [] others are = absurd are
  left_joined times (link ∷ links) (used ∷ all) [] are = absurd are
  left_joined times (link ∷ links) (used ∷ all) (other ∷ others) are = rw (left_one times link.tail link.head used other are.0, left_joined times links all others are.1) refl

  -- a list of what is done with stays one, whatever lines stand beside it
  used_beside : (links : List Link) (all lines starts others : List (List T)) → AreUsed q links all lines → HaveDelays links starts → length others ≡ length starts → AreUsed q links all others
  used_beside [] [] lines [] [] are at long = tt
  used_beside [] [] lines [] (other ∷ others) are at long = absurd (omega arith)
  used_beside [] [] lines (start ∷ starts) others are at long = absurd at
  used_beside [] (used ∷ all) [] starts others are at long = absurd are
  used_beside [] (used ∷ all) (line ∷ lines) starts others are at long = absurd are
  used_beside (link ∷ links) all lines [] others are at long = absurd at
  used_beside (link ∷ links) [] lines (start ∷ starts) others are at long = absurd are
  used_beside (link ∷ links) (used ∷ all) [] (start ∷ starts) others are at long = absurd are
  used_beside (link ∷ links) (used ∷ all) (line ∷ lines) (start ∷ starts) [] are at long = absurd (omega arith)
  used_beside (link ∷ links) (used ∷ all) (line ∷ lines) (start ∷ starts) (other ∷ others) are at long = (are.0, used_beside links all lines starts others are.1 at.1 (omega arith))

  lines_many : (made : Made T) (f : ℕ → ℕ) (links : List Link) (starts : List (List T)) → HaveDelays links starts → length (lines_of made f links starts) ≡ length starts
  lines_many made f [] starts at = refl
  lines_many made f (link ∷ links) [] at = absurd at
  lines_many made f (link ∷ links) (start ∷ starts) at = let e = lines_many made f links starts at.1 in omega arith

-- ---- the end of a run over copies

module _ {T F : Type 0} (times : ℕ) (level : LevelView) (fire : Fire T F) (sources starts : List (List T)) (q list : List ℕ) (lines : List (List T)) (is : IsExactLevel level q)
    (gives : GivesRates level fire) (starting : HaveDelays level.links starts) (admissible : IsAdmissible level q list) (c : IsCut level fire q sources starts list (copies times list) lines) where
  abbrev all : List (List T)
  all = used_of q level.links c.one

  abbrev left : List (List T)
  left = left_of q level.links c.one

  pub left_starts : HaveDelays level.links left
  left_starts = leaves_delays level fire (first_tokens level.sources sources) starts q list c.one is.is_level is.repetition gives starting admissible c.one_runs

  others_many : length c.others ≡ length left
  others_many =
      let told = told_lines level (later q fire) (other_tokens level.sources sources) left (copies times list) c.others c.others_run in
      ap (λ (l : List (List T)). length l) told.lines_are ∙ lines_many q told.made (λ a. firings a (copies times list)) level.links left left_starts

  used : AreUsed q level.links all c.others
  used =
      let is_done = done level fire (first_tokens level.sources sources) starts q list is gives starting admissible c.one c.one_runs in
      used_beside q level.links all left left c.others is_done.used left_starts others_many

  one_exact : (i : ℕ) → i < length level.sinks → length (written (0 + i) level.links c.one) ≡ slice_index level.sinks i
  one_exact i below =
      let at : 0 + i ≡ i = omega arith in
      rw at (written_exactly level fire (first_tokens level.sources sources) starts q list c.one gives starting admissible (all_met level q is) is.is_level.actors_between is.is_level.delays c.one_runs i (is.is_level.sinks_at_one i below))

  others_exact : (i : ℕ) → i < length level.sinks → length (written (0 + i) level.links c.others) ≡ times * slice_index level.sinks i
  others_exact i below =
      let at : 0 + i ≡ i = omega arith in
      let wide = written_exactly (unfolded times level) (later q fire) (other_tokens level.sources sources) left (multiplied times q) (copies times list) c.others (λ b k ins outs f. gives b (slice_index q b + k) ins outs f) left_starts
      (copies_admissible times level q list is admissible) (all_met_widened times level q is) is.is_level.actors_between is.is_level.delays c.others_run i (is.is_level.sinks_at_one i below) in
      rw at (wide ∙ at_multiplied times level.sinks i)

  pub ends_joined : end_of (unfolded (suc times) level) (multiplied (suc times) q) lines ≡ one_and_others (end_of level q c.one) (end_of (unfolded times level) (multiplied times q) c.others)
  ends_joined =
      let P : List (List T) → Type 0 = λ l. end_of (unfolded (suc times) level) (multiplied (suc times) q) l ≡ one_and_others (end_of level q c.one) (end_of (unfolded times level) (multiplied times q) c.others) in
      let outs = kept_joined q times 0 level.sinks level.links c.one c.others used one_exact others_exact in
      let lefts = left_joined q times level.links all c.others used in
      let E : List (List T) → List (List T) → Ended T = λ o l. record { outs = o; left = l } in
      subst P (sym c.lines_are)
      (ap (λ (o : List (List T)). E o (left_of (multiplied (suc times) q) level.links (joined all c.others))) outs
      ∙ ap (E (joined (kept level c.one) (kept (unfolded times level) c.others))) lefts)
