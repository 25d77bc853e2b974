-- A run over copies of a list is a run over the first and one over the others.
use Rattle.std.proofs.Common.{◌≡◌, ℕ, suc, ◌+◌, ◌*◌, ◌<◌, ◌≤◌, List, [], ◌∷◌, ◌++◌, length, slice_index, Ok, refl, ap, sym, ◌∙◌, subst, append_assoc, arith}
use Rattle.std.specs.List.{AllByRecursion}
use Rattle.std.proofs.lemmas.List.{append-nil, length-append, length-take-le, take-append-drop}
use Rattle.std.proofs.Math.Nat.{mul_comm}
use Rattle.sdf_level.specs.View.{LevelView}
use Rattle.sdf_level.specs.declared.link.Link.{Link}
use Rattle.sdf_level.specs.declared.link.Tail.{Tail}
use Rattle.sdf_level.specs.declared.link.Head.{Head}
use Rattle.sdf_level.specs.declared.link.Tail.TheVariants as tail
use Rattle.sdf_level.specs.declared.link.Head.TheVariants as head
use Rattle.sdf_level.specs.Invariants.{how_many}
use Rattle.sdf_level.specs.Links.{OfInner, EachInner}
use Rattle.sdf_level.specs.Balance.{IsBalanced}
use Rattle.sdf_level.specs.Firings.{firings}
use Rattle.sdf_level.specs.Orders.{IsAdmissible}
use Rattle.sdf_level.specs.Run.{Fire, RunsFrom, Runs, is_into_actor}
use Rattle.sdf_level.specs.LevelRun.{GivesRates, HasRate, HaveDelays, HaveRates, left_of, left_on}
use Rattle.sdf_level.specs.Told.{Made, line_of, lines_of, sent}
use Rattle.sdf_level.proofs.Balanced.{repetition_balanced}
use Rattle.sdf_level.proofs.FiringLists.{firings-moved, firings-own}
use Rattle.sdf_level.proofs.SameTokens.{rates, told_lines}
use Rattle.sdf_level.proofs.Windows.{length-sent}
use Rattle.level_laws.specs.Unfolded.{IsExactLevel, copies}
use Rattle.level_laws.specs.Pieces.{HaveTokens, IsCut, first_tokens, joined, later, other_tokens, used_of, used_on}
use Rattle.level_laws.proofs.AlikeRuns.{AllAlike, join, other_run, split, whole_run}
use Rattle.level_laws.proofs.Copies.{firings-copies, firings_moved}
use Rattle.level_laws.proofs.CutReads.{AreUsed, IsUsed, ReadAlike, firsts_alike, inputs_alike, inputs_moved, laters_alike, put_joined, put_used}

-- ---- what is done with after one iteration

module _ {T : Type 0} (q : List ℕ) (made : Made T) (f : ℕ → ℕ) (counts : (a : ℕ) → f a ≡ slice_index q a) where
  used_one : (t : Tail) (h : Head) (d : ℕ) (start : List T) → ((a j : ℕ) → j < slice_index q a → HasRate a (made a j) t) → OfInner (IsBalanced q) t h d → IsUsed q t h (used_on q t h (line_of made f t start))
  used_one (tail.Source s) h d start rated balanced = tt
  used_one (tail.Port a p r) (head.Sink t) d start rated balanced = tt
  used_one (tail.Port a p r) (head.Port b j c) d start rated balanced =
      let line : List T = start ++ sent (made a) p (slice_index q a) in
      let put = length-sent (made a) p r (slice_index q a) (λ i h. rated a i h refl) in
      let turned : r * slice_index q a ≡ slice_index q a * r = mul_comm r (slice_index q a) in
      let even : slice_index q a * r ≡ slice_index q b * c = balanced in
      let long = length-append start (sent (made a) p (slice_index q a)) in
      let enough : slice_index q b * c ≤ length line = omega arith in
      rw (counts a) (length-take-le (slice_index q b * c) line enough)

  used_each : (links : List Link) (starts : List (List T)) → HaveDelays links starts → ((a j : ℕ) → j < slice_index q a → HaveRates a (made a j) links) → EachInner (IsBalanced q) links →
      AreUsed q links (used_of q links (lines_of made f links starts)) (left_of q links (lines_of made f links starts))
  used_each [] [] at rated balanced = tt
  used_each [] (start ∷ starts) at rated balanced = absurd at
  used_each (link ∷ links) [] at rated balanced = absurd at
  used_each (link ∷ links) (start ∷ starts) at rated balanced =
      (used_one link.tail link.head link.delay start (λ a j h. (rated a j h).0) balanced.0, used_each links starts at.1 (λ a j h. (rated a j h).1) balanced.1)

  whole_one : (t : Tail) (h : Head) (line : List T) → used_on q t h line ++ left_on q t h line ≡ line
  whole_one (tail.Source s) h line = append-nil line
  whole_one (tail.Port a p r) (head.Sink t) line = append-nil line
  whole_one (tail.Port a p r) (head.Port b j c) line = take-append-drop (slice_index q b * c) line

  whole_each : (links : List Link) (starts : List (List T)) → HaveDelays links starts → joined (used_of q links (lines_of made f links starts)) (left_of q links (lines_of made f links starts)) ≡ lines_of made f links starts
  whole_each [] [] at = refl
  whole_each [] (start ∷ starts) at = absurd at
  whole_each (link ∷ links) [] at = absurd at
  whole_each (link ∷ links) (start ∷ starts) at = rw (whole_one link.tail link.head (line_of made f link.tail start), whole_each links starts at.1) refl

module _ {T F : Type 0} (level : LevelView) (fire : Fire T F) (sources starts : List (List T)) (q list : List ℕ) (is : IsExactLevel level q)
    (gives : GivesRates level fire) (starting : HaveDelays level.links starts) (admissible : IsAdmissible level q list) where
  abbrev balanced : EachInner (IsBalanced q) level.links
  balanced = repetition_balanced level q is.is_level is.repetition

  -- all firings of one iteration read what is done with, and the rest is left
  pub record IsDone (lines : List (List T)) : Type 0 where
    pub used : AreUsed q level.links (used_of q level.links lines) (left_of q level.links lines)
    pub whole : joined (used_of q level.links lines) (left_of q level.links lines) ≡ lines

  pub done : (lines : List (List T)) → Runs level fire sources starts list (Ok lines) → IsDone lines
  done lines run =
      let told = told_lines level fire sources starts list lines run in
      let rated = rates level fire sources starts q list told.made gives admissible told.each in
      let fired : ℕ → ℕ = λ a. firings a list in
      subst IsDone (sym told.lines_are) record {
        used = used_each q told.made fired admissible.counts level.links starts starting rated balanced;
        whole = whole_each q told.made fired admissible.counts level.links starts starting;
      }

-- ---- the two parts of a run over copies

module _ {T F : Type 0} (times : ℕ) (level : LevelView) (fire : Fire T F) (sources : List (List T)) (q list : List ℕ) (is : IsExactLevel level q)
    (holds : HaveTokens (suc times) level sources) (counts : (a : ℕ) → firings a list ≡ slice_index q a) where
  abbrev firsts : List (List T)
  firsts = first_tokens level.sources sources

  abbrev rest_of : List (List T)
  rest_of = other_tokens level.sources sources

  abbrev same : List (List T) → List (List T)
  same lines = lines

  abbrev Any : List (List T) → Type 0
  Any lines = Unit {0}

  first_alike : (before rest : List ℕ) → ((a : ℕ) → firings a before + firings a rest ≤ slice_index q a) → AllAlike level fire fire sources firsts same Any before before rest
  first_alike before [] within = tt
  first_alike before (b ∷ rest) within =
      let early : firings b before < slice_index q b = let own = firings-own b rest in let w = within b in omega arith in (
        record {
          reads = λ lines any. inputs_alike sources firsts b (firings b before) level.links lines (how_many (is_into_actor b) level.links) (firsts_alike times level sources holds q b (firings b before) early level.links is.met);
          forth = λ ins answer f. f;
          back = λ ins answer f. f;
        },
        first_alike (before ++ b ∷ []) rest (λ a. let w = within a in let m = firings-moved a b before rest in omega arith),
      )

  later_alike : (all : List (List T)) (before rest : List ℕ) → ((a : ℕ) → firings a before + firings a rest ≤ times * slice_index q a) →
      AllAlike level fire (later q fire) sources rest_of (joined all) (AreUsed q level.links all) (list ++ before) before rest
  later_alike all before [] within = tt
  later_alike all before (b ∷ rest) within =
      let early : firings b before < times * slice_index q b = let own = firings-own b rest in let w = within b in omega arith in
      let number : firings b (list ++ before) ≡ slice_index q b + firings b before = firings_moved level q list counts (repetition_balanced level q is.is_level is.repetition) b before in
      let P : ℕ → Type 0 = λ n. AllByRecursion (λ link. ReadAlike sources rest_of b n (firings b before) link.tail link.head) level.links in
      let alike = subst P (sym number) (laters_alike times level sources holds q b (firings b before) early level.links is.met) in
      let Q : List ℕ → Type 0 = λ l. AllAlike level fire (later q fire) sources rest_of (joined all) (AreUsed q level.links all) l (before ++ b ∷ []) rest in (
        record {
          reads = λ lines used. inputs_moved q sources rest_of b (firings b (list ++ before)) (firings b before) number level.links all lines (how_many (is_into_actor b) level.links) used alike;
          forth = λ ins answer f. let R : ℕ → Type 0 = λ n. fire b n ins answer in subst R number f;
          back = λ ins answer f. let R : ℕ → Type 0 = λ n. fire b n ins answer in subst R (sym number) f;
        },
        subst Q (sym (append_assoc list before (b ∷ []))) (later_alike all (before ++ b ∷ []) rest (λ a. let w = within a in let m = firings-moved a b before rest in omega arith)),
      )

  module _ (starts : List (List T)) (gives : GivesRates level fire) (starting : HaveDelays level.links starts) (admissible : IsAdmissible level q list) where
    first_whole : (a : ℕ) → firings a [] + firings a list ≤ slice_index q a
    first_whole a = let c = counts a in omega arith

    others_whole : (a : ℕ) → firings a [] + firings a (copies times list) ≤ times * slice_index q a
    others_whole a = let e = firings-copies a times list ∙ ap (λ n. times * n) (counts a) in omega arith

    pub cut : (lines : List (List T)) → Runs level fire sources starts (copies (suc times) list) (Ok lines) → IsCut level fire q sources starts list (copies times list) lines
    cut lines run =
        let parts = split level fire sources [] starts list (copies times list) lines run in
        let first = other_run level fire fire sources firsts same Any (λ b outs l any. refl) (λ b outs l any. tt) [] [] list starts parts.0 (first_alike [] list first_whole) tt parts.1 in
        let one : List (List T) = first.own in
        let all : List (List T) = used_of q level.links one in
        let is_done = done level fire firsts starts q list is gives starting admissible one first.runs in
        let P : List (List T) → Type 0 = λ l. RunsFrom level fire sources list l (copies times list) (Ok lines) in
        let Q : List ℕ → Type 0 = λ l. RunsFrom level fire sources l (joined all (left_of q level.links one)) (copies times list) (Ok lines) in
        let next = subst Q (sym (append-nil list)) (subst P (first.is ∙ sym is_done.whole) parts.2) in
        let others = other_run level fire (later q fire) sources rest_of (joined all) (AreUsed q level.links all) (λ b outs l used. put_joined q b outs level.links all l used) (λ b outs l used. put_used q b outs level.links all l used)
        (list ++ []) [] (copies times list) (left_of q level.links one) lines (later_alike all [] (copies times list) others_whole) is_done.used next in
        record { one = one; others = others.own; one_runs = first.runs; others_run = others.runs; lines_are = others.is }

    pub uncut : (lines : List (List T)) → IsCut level fire q sources starts list (copies times list) lines → Runs level fire sources starts (copies (suc times) list) (Ok lines)
    uncut lines c =
        let all : List (List T) = used_of q level.links c.one in
        let is_done = done level fire firsts starts q list is gives starting admissible c.one c.one_runs in
        let first = whole_run level fire fire sources firsts same Any (λ b outs l any. refl) (λ b outs l any. tt) [] [] list starts c.one (first_alike [] list first_whole) tt c.one_runs in
        let others = whole_run level fire (later q fire) sources rest_of (joined all) (AreUsed q level.links all) (λ b outs l used. put_joined q b outs level.links all l used) (λ b outs l used. put_used q b outs level.links all l used)
        (list ++ []) [] (copies times list) (left_of q level.links c.one) c.others (later_alike all [] (copies times list) others_whole) is_done.used c.others_run in
        let P : List (List T) → Type 0 = λ l. RunsFrom level fire sources list l (copies times list) (Ok (joined all c.others)) in
        let Q : List ℕ → Type 0 = λ l. RunsFrom level fire sources l (joined all (left_of q level.links c.one)) (copies times list) (Ok (joined all c.others)) in
        let R : List (List T) → Type 0 = λ l. Runs level fire sources starts (copies (suc times) list) (Ok l) in
        let next = subst P is_done.whole (subst Q (append-nil list) others) in
        subst R (sym c.lines_are) (join level fire sources [] starts list (copies times list) c.one (joined all c.others) first next)
