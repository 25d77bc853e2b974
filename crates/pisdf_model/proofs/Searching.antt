-- What a search for the places that paths lead to keeps, and what it has found in the end.
use Rattle.std.proofs.Common.{◌≡◌, ℕ, ◌<◌, ◌⊎◌, inl, inr, ⊎_elim, ◌↔◌, Bool, false, List, [], ◌∷◌, ◌++◌, length, replicate, take, drop, All, Contains, sym, ◌∙◌, arith, get_or}
use Rattle.std.proofs.lemmas.Bool.{false≢true}
use Rattle.std.proofs.Math.Seq.{take-append_seam}
use Rattle.std.proofs.lemmas.List.{get_or_default, get_or-replicate, length-replicate}
use Rattle.std.proofs.lemmas.List.Elements.{Contains-append_left, Contains-push, Contains-push_cases, All-get_or}
use Rattle.pisdf_model.specs.Arrows.{to_of, LeadsInside, Leads, Reaches, IsReached, IsMarked}
use Rattle.pisdf_model.specs.Search.{Notes}
use Rattle.pisdf_model.proofs.Marking.{inside_of_mark}

-- the marked places are reached, the starts among them; and where not all that arrows lead to from a marked place is marked, that place is noted
pub record Searches (arrows : List (List ℕ)) (starts : List ℕ) (marks : List Bool) (noted : List ℕ) : Type 0 where
  pub long : length marks ≡ length arrows
  pub sound : (w : ℕ) → IsMarked marks w → IsReached arrows starts w
  pub started : (w : ℕ) → Contains starts w → IsMarked marks w
  pub followed : (v w : ℕ) → IsMarked marks v → Contains (to_of arrows v) w → IsMarked marks w ⊎ Contains noted v
  pub marked : (w : ℕ) → Contains noted w → IsMarked marks w

-- one arrow more at the end of a path
pub leads_on : (arrows : List (List ℕ)) (v : ℕ) (between : List ℕ) (u w : ℕ) → Leads arrows v between u → Contains (to_of arrows u) w → Leads arrows v (between ++ u ∷ []) w
leads_on arrows v [] u w path arrow = (path, arrow)
leads_on arrows v (t ∷ between) u w path arrow = (path.0, leads_on arrows t between u w path.1 arrow)

pub reached_next : (arrows : List (List ℕ)) (starts : List ℕ) (v w : ℕ) → IsReached arrows starts v → Contains (to_of arrows v) w → IsReached arrows starts w
reached_next arrows starts v w (inl start) arrow = inr (v, start, ([], arrow))
reached_next arrows starts v w (inr path) arrow = inr (path.0, path.1, (path.2.0 ++ v ∷ [], leads_on arrows path.0 path.2.0 v w path.2.1 arrow))

unmarked_first : (n w : ℕ) → IsMarked (replicate n false) w → ⊥
unmarked_first n w marked =
    let inside : w < n = rw length-replicate at (inside_of_mark (replicate n false) w marked) in
    false≢true (sym (get_or-replicate n w false false inside) ∙ marked)

none_noted : (w : ℕ) → Contains [] w → ⊥
none_noted w c = let inside = c.1 in omega arith

-- what stands at a place is where arrows lead from it
pub here : (arrows : List (List ℕ)) (v : ℕ) (read places : List ℕ) → v < length arrows → read ≡ get_or arrows v read → places ≡ read → places ≡ to_of arrows v
here arrows v read places inside is same = same ∙ is ∙ get_or_default arrows v read [] inside

-- a slice written as a whole is what was written
pub written : (n : ℕ) (old new : List Bool) → length new ≡ n → take n (new ++ drop (length new) old) ≡ new
written n old new whole = rw (← whole) (take-append_seam new (drop (length new) old))

module _ (arrows : List (List ℕ)) (starts : List ℕ) where
  pub searches_start : (n : ℕ) (marks : List Bool) (noted : List ℕ) → n ≡ length arrows → Notes starts (replicate n false) [] marks noted → Searches arrows starts marks noted
  searches_start n marks noted whole notes = record {
    long = notes.long ∙ length-replicate n false ∙ whole;
    sound = λ w marked. ⊎_elim
        (λ (old : IsMarked (replicate n false) w). absurd (unmarked_first n w old))
        (λ (new : Contains starts w × Contains noted w). inl new.0)
        (notes.only w marked);
    started = notes.all;
    followed = λ v w marked arrow. ⊎_elim
        (λ (old : IsMarked (replicate n false) v). absurd (unmarked_first n v old))
        (λ (new : Contains starts v × Contains noted v). inr new.1)
        (notes.only v marked);
    marked = λ w c. ⊎_elim
        (λ (old : Contains [] w). absurd (none_noted w old))
        (λ (new : IsMarked marks w). new)
        (notes.noted_only w c);
  }

  module _ (marks : List Bool) (noted rest : List ℕ) (v : ℕ) (so_far : Searches arrows starts marks noted) (popped : noted ≡ rest ++ v ∷ []) where
    noted_here : Contains noted v
    noted_here = rw popped (Contains-push rest v)

    pub inside_arrows : v < length arrows
    inside_arrows = let fits = inside_of_mark marks v (so_far.marked v noted_here) in let long = so_far.long in omega arith

    pub stays_inside : LeadsInside arrows → All (λ w. w < length marks) (to_of arrows v)
    stays_inside inside = rw so_far.long (All-get_or (λ to. All (λ w. w < length arrows) to) arrows v [] inside_arrows inside)

    pub searches_on : (new_marks : List Bool) (new_noted : List ℕ) → Notes (to_of arrows v) marks rest new_marks new_noted → Searches arrows starts new_marks new_noted
    searches_on new_marks new_noted notes =
        let marked_before : (w : ℕ) → Contains rest w → IsMarked marks w = λ w c. so_far.marked w (rw popped (Contains-append_left rest (v ∷ []) w c)) in
        record {
          long = notes.long ∙ so_far.long;
          sound = λ w marked. ⊎_elim
              (λ (old : IsMarked marks w). so_far.sound w old)
              (λ (new : Contains (to_of arrows v) w × Contains new_noted w). reached_next arrows starts v w (so_far.sound v (so_far.marked v noted_here)) new.0)
              (notes.only w marked);
          started = λ w start. notes.kept w (so_far.started w start);
          followed = λ u w marked arrow. ⊎_elim
              (λ (old : IsMarked marks u). ⊎_elim
              (λ (there : IsMarked marks w). inl (notes.kept w there))
              (λ (c : Contains noted u). ⊎_elim
              (λ (before : Contains rest u). inr (notes.noted_kept u before))
              (λ (last : v ≡ u). inl (notes.all w (rw last arrow)))
              (Contains-push_cases rest v u (rw popped at c)))
              (so_far.followed u w old arrow))
              (λ (new : Contains (to_of arrows v) u × Contains new_noted u). inr new.1)
              (notes.only u marked);
          marked = λ w c. ⊎_elim
              (λ (before : Contains rest w). notes.kept w (marked_before w before))
              (λ (new : IsMarked new_marks w). new)
              (notes.noted_only w c);
        }

  module _ (marks : List Bool) (found : Searches arrows starts marks []) where
    next : (v w : ℕ) → IsMarked marks v → Contains (to_of arrows v) w → IsMarked marks w
    next v w marked arrow = ⊎_elim
        (λ (there : IsMarked marks w). there)
        (λ (c : Contains [] v). absurd (none_noted v c))
        (found.followed v w marked arrow)

    follows : (v : ℕ) (between : List ℕ) (w : ℕ) → IsMarked marks v → Leads arrows v between w → IsMarked marks w
    follows v [] w marked path = next v w marked path
    follows v (u ∷ between) w marked path = follows u between w (next v u marked path.0) path.1

    pub searched : (w : ℕ) → IsMarked marks w ↔ IsReached arrows starts w
    searched w = (
      found.sound w,
      λ reached. ⊎_elim
          (λ (start : Contains starts w). found.started w start)
          (λ (path : (s : ℕ) × Contains starts s × Reaches arrows s w). follows path.0 path.2.0 w (found.started path.0 path.1) path.2.1)
          reached,
    )
