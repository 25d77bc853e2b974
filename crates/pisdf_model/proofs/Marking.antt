-- Places marked and noted one after the other.
use Rattle.std.proofs.Common.{◌≡◌, ◌≢◌, ℕ, ◌+◌, ◌<◌, ◌≤◌, ◌⊎◌, inl, inr, ⊎_elim, Bool, true, false, List, [], ◌∷◌, ◌++◌, length, take, set, Contains, sym, ap, ◌∙◌, arith, get_or}
use Rattle.std.proofs.lemmas.Bool.{cases_eq, cases_lt, false≢true}
use Rattle.std.proofs.lemmas.List.{get_or-set_same, get_or-set_other, get_or_past, length-set, length-append, take_more}
use Rattle.std.proofs.lemmas.List.Elements.{Contains-append_left, Contains-push, Contains-push_cases}
use Rattle.std.proofs.lemmas.List.Sums.{sum_by-set}
use Rattle.pisdf_model.specs.Arrows.{IsMarked}
use Rattle.pisdf_model.specs.Search.{cost, work_left, Notes}

-- a marked place is one of the places
pub inside_of_mark : (marks : List Bool) (w : ℕ) → IsMarked marks w → w < length marks
inside_of_mark marks w marked = ⊎_elim
    (λ (inside : w < length marks). inside)
    (λ (past : length marks ≤ w). absurd (false≢true (sym (get_or_past marks w false past) ∙ marked)))
    (cases_lt w (length marks))

module _ (marks : List Bool) (p : ℕ) (inside : p < length marks) where
  mark_same : IsMarked (set marks p true) p
  mark_same = get_or-set_same marks p true false inside

  mark_kept : (w : ℕ) → IsMarked marks w → IsMarked (set marks p true) w
  mark_kept w marked = ⊎_elim
      (λ (same : w ≡ p). rw same mark_same)
      (λ (other : w ≢ p). get_or-set_other marks p w true false other ∙ marked)
      (cases_eq w p)

  mark_cases : (w : ℕ) → IsMarked (set marks p true) w → IsMarked marks w ⊎ (w ≡ p)
  mark_cases w marked = ⊎_elim
      (λ (same : w ≡ p). inr same)
      (λ (other : w ≢ p). inl (sym (get_or-set_other marks p w true false other) ∙ marked))
      (cases_eq w p)

  less_left : (noted : List ℕ) → get_or marks p false ≡ false → work_left (set marks p true) (noted ++ p ∷ []) ≤ work_left marks noted
  less_left noted unmarked =
      let sums = sum_by-set cost marks p true false inside in
      let one : cost (get_or marks p false) ≡ 1 = ap cost unmarked in
      let long : length (noted ++ p ∷ []) ≡ length noted + 1 = simp length-append in
      omega arith

contains_more : (places : List ℕ) (p w : ℕ) → Contains (places ++ p ∷ []) w → Contains places w ⊎ (w ≡ p)
contains_more places p w c = ⊎_elim
    (λ (before : Contains places w). inl before)
    (λ (last : p ≡ w). inr (sym last))
    (Contains-push_cases places p w c)

module _ (places : List ℕ) (marks : List Bool) (noted : List ℕ) where
  module _ (p : ℕ) (marks_now : List Bool) (noted_now : List ℕ) (so_far : Notes places marks noted marks_now noted_now) where
    pub notes_marked : IsMarked marks_now p → Notes (places ++ p ∷ []) marks noted marks_now noted_now
    notes_marked here = record {
      long = so_far.long;
      kept = so_far.kept;
      all = λ w c. ⊎_elim
          (λ (before : Contains places w). so_far.all w before)
          (λ (last : w ≡ p). rw last here)
          (contains_more places p w c);
      only = λ w marked. ⊎_elim
          (λ (old : IsMarked marks w). inl old)
          (λ (new : Contains places w × Contains noted_now w). inr (Contains-append_left places (p ∷ []) w new.0, new.1))
          (so_far.only w marked);
      noted_kept = so_far.noted_kept;
      noted_only = so_far.noted_only;
      less = so_far.less;
    }

    pub notes_more : p < length marks_now → get_or marks_now p false ≡ false → Notes (places ++ p ∷ []) marks noted (set marks_now p true) (noted_now ++ p ∷ [])
    notes_more inside unmarked = record {
      long = length-set marks_now p true ∙ so_far.long;
      kept = λ w marked. mark_kept marks_now p inside w (so_far.kept w marked);
      all = λ w c. ⊎_elim
          (λ (before : Contains places w). mark_kept marks_now p inside w (so_far.all w before))
          (λ (last : w ≡ p). rw last (mark_same marks_now p inside))
          (contains_more places p w c);
      only = λ w marked. ⊎_elim
          (λ (before : IsMarked marks_now w). ⊎_elim
          (λ (old : IsMarked marks w). inl old)
          (λ (new : Contains places w × Contains noted_now w). inr (Contains-append_left places (p ∷ []) w new.0, Contains-append_left noted_now (p ∷ []) w new.1))
          (so_far.only w before))
          (λ (last : w ≡ p). inr (rw last (Contains-push places p), rw last (Contains-push noted_now p)))
          (mark_cases marks_now p inside w marked);
      noted_kept = λ w c. Contains-append_left noted_now (p ∷ []) w (so_far.noted_kept w c);
      noted_only = λ w c. ⊎_elim
          (λ (before : Contains noted_now w). ⊎_elim
          (λ (old : Contains noted w). inl old)
          (λ (marked : IsMarked marks_now w). inr (mark_kept marks_now p inside w marked))
          (so_far.noted_only w before))
          (λ (last : w ≡ p). inr (rw last (mark_same marks_now p inside)))
          (contains_more noted_now p w c);
      less = let step = less_left marks_now p inside noted_now unmarked in let before = so_far.less in omega arith;
    }

-- the same over the first places of a list
module _ (all_places : List ℕ) (i : ℕ) (inside : i < length all_places) (marks : List Bool) (noted : List ℕ) (marks_now : List Bool) (noted_now : List ℕ) (so_far : Notes (take i all_places) marks noted marks_now noted_now) where
  pub taken_marked : IsMarked marks_now (get_or all_places i 0) → Notes (take (i + 1) all_places) marks noted marks_now noted_now
  taken_marked marked = rw (take_more all_places i 0 inside) (notes_marked (take i all_places) marks noted (get_or all_places i 0) marks_now noted_now so_far marked)

  pub taken_more : get_or all_places i 0 < length marks_now → get_or marks_now (get_or all_places i 0) false ≡ false → Notes (take (i + 1) all_places) marks noted (set marks_now (get_or all_places i 0) true) (noted_now ++ get_or all_places i 0 ∷ [])
  taken_more fits unmarked = rw (take_more all_places i 0 inside) (notes_more (take i all_places) marks noted (get_or all_places i 0) marks_now noted_now so_far fits unmarked)
