-- The run of one thread through an unfolded level, cut into one iteration and the others.
use Rattle.std.proofs.Common.{◌≡◌, ℕ, suc, ◌+◌, ◌-◌, ◌*◌, List, [], ◌∷◌, length, map, slice_index, drop, Result, Ok, Err, refl, ap, sym, ◌∙◌, subst, arith}
use Rattle.std.specs.List.{AllByRecursion}
use Rattle.std.proofs.lemmas.List.{drop_all, nil_from_length}
use Rattle.sdf_level.specs.View.{LevelView}
use Rattle.sdf_level.specs.declared.link.Link.{Link}
use Rattle.sdf_level.specs.declared.link.Tail.{Tail}
use Rattle.sdf_level.specs.declared.link.Head.{Head}
use Rattle.sdf_level.specs.declared.link.Tail.TheVariants as tail
use Rattle.sdf_level.specs.declared.link.Head.TheVariants as head
use Rattle.sdf_level.specs.Interfaces.{last}
use Rattle.sdf_level.specs.Invariants.{HasSoundDelay, IsLevel}
use Rattle.sdf_level.specs.Firings.{firings, actors_of}
use Rattle.sdf_level.specs.Orders.{IsAdmissible}
use Rattle.sdf_level.specs.Run.{Fire, Runs}
use Rattle.sdf_level.specs.LevelRun.{Ended, GivesRates, HaveDelays, IsEnd, IsLevelRun, RunEnds, end_of, kept_at, left_of, left_on, written}
use Rattle.sdf_level.proofs.FiringLists.{firings-own}
use Rattle.sdf_level.proofs.KeptLengths.{leaves_delays}
use Rattle.sdf_level.proofs.SameTokens.{same_tokens}
use Rattle.level_laws.specs.Unfolded.{IsExactLevel, copies, multiplied, unfolded}
use Rattle.level_laws.specs.Pieces.{HaveTokens, IsCut, IsCutRun, first_tokens, joined, later, nothing_kept, one_and_others, other_tokens, used_of}
use Rattle.level_laws.proofs.Copies.{copies_admissible, ordered}
use Rattle.level_laws.proofs.Cutting.{cut, uncut}
use Rattle.level_laws.proofs.JoinedEnds.{ends_joined, left_starts}
use Rattle.level_laws.proofs.Multiplied.{at_multiplied}

-- ---- any admissible list in place of another

module _ {T F : Type 0} (level : LevelView) (q : List ℕ) (fire : Fire T F) (sources starts : List (List T)) where
  -- the lines of a run that ends without a fault
  pub record Came (list : List ℕ) (end : Ended T) : Type 0 where
    pub lines : List (List T)
    pub runs : Runs level fire sources starts list (Ok lines)
    pub is : end ≡ end_of level q lines

  pub came : (list : List ℕ) (end : Ended T) → RunEnds level q sources starts fire list (Ok end) → Came list end
  came list end r = go r.lines r.runs r.is_end
    where
      go : (lines : Result (List (List T)) F) → Runs level fire sources starts list lines → IsEnd level q lines (Ok end) → Came list end
      go (Ok lines) runs is = record { lines = lines; runs = runs; is = cc }
      go (Err fault) runs is = absurd (cc)

  pub ending : (list : List ℕ) (end : Ended T) → Came list end → RunEnds level q sources starts fire list (Ok end)
  ending list end c = record { lines = Ok c.lines; runs = c.runs; is_end = ap (λ (e : Ended T). Ok e) c.is }

  module _ (gives : GivesRates level fire) (starting : HaveDelays level.links starts) (list : List ℕ) (admissible : IsAdmissible level q list) (end : Ended T) where
    pub in_list : IsLevelRun level q sources starts fire (Ok end) → Came list end
    in_list run =
        let c = came run.list end run.ends in
        record { lines = c.lines; runs = same_tokens level fire sources starts q run.list list c.lines gives starting run.order.admissible admissible c.runs; is = c.is }

    pub in_order : Came list end → IsLevelRun level q sources starts fire (Ok end)
    in_order c =
        let found = ordered level q list admissible in
        let own : List ℕ = actors_of found.0 in
        record {
          list = own;
          order = found.1.order;
          ends = ending own end record { lines = c.lines; runs = same_tokens level fire sources starts q list own c.lines gives starting admissible found.1.order.admissible c.runs; is = c.is };
        }

module _ {T F : Type 0} (times : ℕ) (level : LevelView) (fire : Fire T F) (sources starts : List (List T)) (q list : List ℕ) (end : Ended T) (is : IsExactLevel level q)
    (gives : GivesRates level fire) (starting : HaveDelays level.links starts) (admissible : IsAdmissible level q list) where
  pub to_copies : IsLevelRun (unfolded times level) (multiplied times q) sources starts fire (Ok end) → RunEnds (unfolded times level) (multiplied times q) sources starts fire (copies times list) (Ok end)
  to_copies run =
      ending (unfolded times level) (multiplied times q) fire sources starts (copies times list) end
      (in_list (unfolded times level) (multiplied times q) fire sources starts gives starting (copies times list) (copies_admissible times level q list is admissible) end run)

  pub from_copies : RunEnds (unfolded times level) (multiplied times q) sources starts fire (copies times list) (Ok end) → IsLevelRun (unfolded times level) (multiplied times q) sources starts fire (Ok end)
  from_copies run =
      in_order (unfolded times level) (multiplied times q) fire sources starts gives starting (copies times list) (copies_admissible times level q list is admissible) end
      (came (unfolded times level) (multiplied times q) fire sources starts (copies times list) end run)

-- ---- one iteration and the others

module _ {T F : Type 0} (times : ℕ) (level : LevelView) (fire : Fire T F) (sources starts : List (List T)) (q list : List ℕ) (end : Ended T) (is : IsExactLevel level q)
    (gives : GivesRates level fire) (starting : HaveDelays level.links starts) (holds : HaveTokens (suc times) level sources) (admissible : IsAdmissible level q list) where
  gives_later : GivesRates level (later q fire)
  gives_later b k ins outs f = gives b (slice_index q b + k) ins outs f

  pub level_cut : IsLevelRun (unfolded (suc times) level) (multiplied (suc times) q) sources starts fire (Ok end) → IsCutRun level fire q sources starts times end
  level_cut run =
      let whole = in_list (unfolded (suc times) level) (multiplied (suc times) q) fire sources starts gives starting (copies (suc times) list) (copies_admissible (suc times) level q list is admissible) end run in
      let c = cut times level fire sources q list is holds admissible.counts starts gives starting admissible whole.lines whole.runs in
      let begun = left_starts times level fire sources starts q list whole.lines is gives starting admissible c in
      let one : Ended T = end_of level q c.one in
      let others : Ended T = end_of (unfolded times level) (multiplied times q) c.others in
      record {
        one = one;
        others = others;
        one_runs = in_order level q fire (first_tokens level.sources sources) starts gives starting list admissible one record { lines = c.one; runs = c.one_runs; is = refl };
        others_run = in_order (unfolded times level) (multiplied times q) (later q fire) (other_tokens level.sources sources) one.left gives_later begun (copies times list) (copies_admissible times level q list is admissible) others
            record { lines = c.others; runs = c.others_run; is = refl };
        end_is = whole.is ∙ ends_joined times level fire sources starts q list whole.lines is gives starting admissible c;
      }

  module _ (c : IsCutRun level fire q sources starts times end) where
    first : Came level q fire (first_tokens level.sources sources) starts list c.one
    first = in_list level q fire (first_tokens level.sources sources) starts gives starting list admissible c.one c.one_runs

    begun : HaveDelays level.links (left_of q level.links first.lines)
    begun = leaves_delays level fire (first_tokens level.sources sources) starts q list first.lines is.is_level is.repetition gives starting admissible first.runs

    left_is : c.one.left ≡ left_of q level.links first.lines
    left_is = ap (λ (e : Ended T). e.left) first.is

    rest : Came (unfolded times level) (multiplied times q) (later q fire) (other_tokens level.sources sources) (left_of q level.links first.lines) (copies times list) c.others
    rest =
        let P : List (List T) → Type 0 = λ l. IsLevelRun (unfolded times level) (multiplied times q) (other_tokens level.sources sources) l (later q fire) (Ok c.others) in
        in_list (unfolded times level) (multiplied times q) (later q fire) (other_tokens level.sources sources) (left_of q level.links first.lines) gives_later begun (copies times list) (copies_admissible times level q list is admissible) c.others
        (subst P left_is c.others_run)

    lines_cut : IsCut level fire q sources starts list (copies times list) (joined (used_of q level.links first.lines) rest.lines)
    lines_cut = record { one = first.lines; others = rest.lines; one_runs = first.runs; others_run = rest.runs; lines_are = refl }

    pub level_uncut : IsLevelRun (unfolded (suc times) level) (multiplied (suc times) q) sources starts fire (Ok end)
    unfolding first lines_cut rest
    level_uncut =
        let lines : List (List T) = joined (used_of q level.links first.lines) rest.lines in
        let runs = uncut times level fire sources q list is holds admissible.counts starts gives starting admissible lines lines_cut in
        let whole = ends_joined times level fire sources starts q list lines is gives starting admissible lines_cut in
        let parts : one_and_others c.one c.others ≡ one_and_others (end_of level q first.lines) (end_of (unfolded times level) (multiplied times q) rest.lines) =
        ap (λ (e : Ended T). one_and_others e c.others) first.is ∙ ap (one_and_others (end_of level q first.lines)) rest.is in
        in_order (unfolded (suc times) level) (multiplied (suc times) q) fire sources starts gives starting (copies (suc times) list) (copies_admissible (suc times) level q list is admissible) end
        record { lines = lines; runs = runs; is = c.end_is ∙ parts ∙ sym whole }

-- ---- no iteration

no_firings : (list : List ℕ) → ((a : ℕ) → firings a list ≡ 0) → list ≡ []
no_firings [] none = refl
no_firings (b ∷ rest) none = absurd (let own = firings-own b rest in let n = none b in omega arith)

no_count : (q : List ℕ) (b : ℕ) → slice_index (multiplied 0 q) b ≡ 0
no_count q b = at_multiplied 0 q b ∙ (let z : 0 * slice_index q b ≡ 0 = omega arith in z)

module _ {T : Type 0} (q : List ℕ) where
  none_used : (t : Tail) (h : Head) (d : ℕ) (start : List T) → length start ≡ d → HasSoundDelay t h d → left_on (multiplied 0 q) t h start ≡ start
  none_used (tail.Source s) h d start long sound = sym (nil_from_length start (long ∙ sound))
  none_used (tail.Port a p r) (head.Sink t) d start long sound = sym (nil_from_length start (long ∙ sound))
  none_used (tail.Port a p r) (head.Port b j c) d start long sound =
      let none : slice_index (multiplied 0 q) b * c ≡ 0 = ap (λ n. n * c) (no_count q b) ∙ (let z : 0 * c ≡ 0 = omega arith in z) in
      ap (λ n. drop n start) none

  all_left : (links : List Link) (starts : List (List T)) → HaveDelays links starts → AllByRecursion (λ link. HasSoundDelay link.tail link.head link.delay) links → left_of (multiplied 0 q) links starts ≡ starts
  all_left [] [] at sound = refl
  all_left [] (start ∷ starts) at sound = absurd at
  all_left (link ∷ links) [] at sound = absurd at
  all_left (link ∷ links) (start ∷ starts) at sound = rw (none_used link.tail link.head link.delay start at.0 sound.0, all_left links starts at.1 sound.1) refl

  none_kept : (s : ℕ) (sinks : List ℕ) (links : List Link) (lines : List (List T)) → kept_at s (multiplied 0 sinks) links lines ≡ map (λ r. []) sinks
  none_kept s [] links lines = refl
  none_kept s (r ∷ sinks) links lines =
      let line : List T = written s links lines in
      let nothing : last (0 * r) line ≡ [] = drop_all (length line - 0 * r) line (omega arith) in
      rw (nothing, none_kept (s + 1) sinks links lines) refl

module _ {T F : Type 0} (level : LevelView) (fire : Fire T F) (sources starts : List (List T)) (q : List ℕ) (end : Ended T) (is : IsLevel level) (starting : HaveDelays level.links starts) where
  none_ends : end_of (unfolded 0 level) (multiplied 0 q) starts ≡ nothing_kept level starts
  none_ends =
      let E : List (List T) → List (List T) → Ended T = λ o l. record { outs = o; left = l } in
      ap (λ (o : List (List T)). E o (left_of (multiplied 0 q) level.links starts)) (none_kept q 0 level.sinks level.links starts) ∙ ap (E (map (λ r. []) level.sinks)) (all_left q level.links starts starting is.delays)

  pub none_run : IsLevelRun (unfolded 0 level) (multiplied 0 q) sources starts fire (Ok end) → end ≡ nothing_kept level starts
  none_run run =
      let c = came (unfolded 0 level) (multiplied 0 q) fire sources starts run.list end run.ends in
      let empty : run.list ≡ [] = no_firings run.list (λ a. run.order.admissible.counts a ∙ no_count q a) in
      let P : List ℕ → Type 0 = λ l. Runs level fire sources starts l (Ok c.lines) in
      let stays : Ok c.lines ≡ Ok starts = subst P empty c.runs in
      let same : c.lines ≡ starts = cc in
      c.is ∙ ap (λ (l : List (List T)). end_of (unfolded 0 level) (multiplied 0 q) l) same ∙ none_ends

  pub run_none : end ≡ nothing_kept level starts → IsLevelRun (unfolded 0 level) (multiplied 0 q) sources starts fire (Ok end)
  run_none e = record {
    list = [];
    order = record { admissible = record { counts = λ a. sym (no_count q a); each = tt }; least = tt };
    ends = record { lines = Ok starts; runs = refl; is_end = ap (λ (x : Ended T). Ok x) (e ∙ sym none_ends) };
  }
