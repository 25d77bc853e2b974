-- Late parameters of a graph none of whose parameters depends on itself: references lead from them to a chosen one.
use Rattle.std.proofs.Common.{◌≡◌, ℕ, ◌<◌, ◌≤◌, ◌⊎◌, inl, inr, ⊎_elim, ◌↔◌, Bool, true, false, ◌&&◌, List, [], length, map, Contains, All, sym, ◌∙◌, get_or}
use Rattle.std.specs.List.{list_any, range_with_len}
use Rattle.std.proofs.lemmas.Bool.{cases_lt, and_parts, and_from, or_cases, or_left, or_right, true≢false, false≢true}
use Rattle.std.proofs.lemmas.List.{get_or_past, length-map}
use Rattle.std.proofs.lemmas.List.Elements.{All-contains}
use Rattle.pisdf_model.specs.Arrows.{Reaches, IsReached, IsMarked, leads, on_cycles}
use Rattle.pisdf_model.specs.ParamOrder.{references, is_chosen_kind, is_chosen, ends_late, is_late}
use Rattle.pisdf_model.specs.declared.graph.Graph.{Graph}
use Rattle.pisdf_model.specs.declared.param.Param.{Param}
use Rattle.pisdf_model.proofs.Closure.{closure}
use Rattle.pisdf_model.proofs.Cycles.{same_test}
use Rattle.pisdf_model.proofs.Lists.{one_of, any_by, inside_range, range_has, nowhere_kept}

module _ (g : Graph) where
  chosen_inside : (q : ℕ) → is_chosen g q ≡ true → q < length g.params
  chosen_inside q chosen = ⊎_elim
      (λ (inside : q < length g.params). inside)
      (λ (past : length g.params ≤ q). absurd (false≢true (sym (get_or_past (map (λ (p : Param). is_chosen_kind p.kind) g.params) q false (rw (length-map {A = Param}) past)) ∙ chosen)))
      (cases_lt q (length g.params))

  late_itself : (p : ℕ) → ends_late g p ≡ true → is_late g p ≡ true
  unfolding is_late
  late_itself p ends = or_left (ends_late g p) (list_any (λ q. ends_late g q && leads (references g) p q) (range_with_len 0 (length g.params))) ends

  late_by : (p q : ℕ) → is_chosen g q ≡ true → Reaches (references g) p q → is_late g p ≡ true
  unfolding is_late
  late_by p q chosen path =
      let ends = or_left (is_chosen g q) (leads (references g) q q) chosen in
      let there = and_from (ends_late g q) (leads (references g) p q) ends ((closure (references g) p q).1 path) in
      or_right (ends_late g p) (list_any (λ q. ends_late g q && leads (references g) p q) (range_with_len 0 (length g.params)))
      (any_by (λ q. ends_late g q && leads (references g) p q) (range_with_len 0 (length g.params)) q (range_has (length g.params) q (chosen_inside q chosen)) there)

  module _ (no_cycle : on_cycles (references g) ≡ []) where
    ends_chosen : (p : ℕ) → p < length g.params → ends_late g p ≡ true → is_chosen g p ≡ true
    ends_chosen p inside ends = ⊎_elim
        (λ (chosen : is_chosen g p ≡ true). chosen)
        (λ (around : leads (references g) p p ≡ true).
        let never = nowhere_kept (λ v. leads (references g) v v) (length (references g)) p no_cycle (rw (length-map {A = Param}) inside) in
        absurd (true≢false (sym around ∙ never)))
        (or_cases (is_chosen g p) (leads (references g) p p) ends)

    -- a late parameter is chosen, or references lead from it to a chosen one
    late_cases : (p : ℕ) → p < length g.params → is_late g p ≡ true → (is_chosen g p ≡ true) ⊎ ((q : ℕ) × (is_chosen g q ≡ true) × Reaches (references g) p q)
    unfolding is_late
    late_cases p inside late = ⊎_elim
        (λ (ends : ends_late g p ≡ true). inl (ends_chosen p inside ends))
        (λ (some : list_any (λ q. ends_late g q && leads (references g) p q) (range_with_len 0 (length g.params)) ≡ true).
        let found = one_of (λ q. ends_late g q && leads (references g) p q) (range_with_len 0 (length g.params)) some in
        let parts = and_parts (ends_late g found.0) (leads (references g) p found.0) found.2 in
        inr (found.0, ends_chosen found.0 (inside_range (length g.params) found.0 found.1) parts.0, (closure (references g) p found.0).0 parts.1))
        (or_cases (ends_late g p) (list_any (λ q. ends_late g q && leads (references g) p q) (range_with_len 0 (length g.params))) late)

    module _ (starts : List ℕ) (marks : List Bool) (inside : All (λ w. w < length (references g)) starts) (exact : (w : ℕ) → IsMarked marks w ↔ IsReached (references g) starts w) where
      chosen_marked : (q : ℕ) → is_chosen g q ≡ true → IsReached (references g) starts q → list_any (λ q. is_chosen g q && get_or marks q false) (range_with_len 0 (length g.params)) ≡ true
      chosen_marked q chosen reached =
          any_by (λ q. is_chosen g q && get_or marks q false) (range_with_len 0 (length g.params)) q (range_has (length g.params) q (chosen_inside q chosen))
          (and_from (is_chosen g q) (get_or marks q false) chosen ((exact q).1 reached))

      marked_of_late : list_any (is_late g) starts ≡ true → list_any (λ q. is_chosen g q && get_or marks q false) (range_with_len 0 (length g.params)) ≡ true
      marked_of_late some =
          let found = one_of (is_late g) starts some in
          let below : found.0 < length g.params = rw (length-map {A = Param}) at (All-contains (λ w. w < length (references g)) starts found.0 inside found.1) in
          ⊎_elim
          (λ (chosen : is_chosen g found.0 ≡ true). chosen_marked found.0 chosen (inl found.1))
          (λ (path : (q : ℕ) × (is_chosen g q ≡ true) × Reaches (references g) found.0 q). chosen_marked path.0 path.1 (inr (found.0, found.1, path.2)))
          (late_cases found.0 below found.2)

      late_of_marked : list_any (λ q. is_chosen g q && get_or marks q false) (range_with_len 0 (length g.params)) ≡ true → list_any (is_late g) starts ≡ true
      late_of_marked some =
          let found = one_of (λ q. is_chosen g q && get_or marks q false) (range_with_len 0 (length g.params)) some in
          let parts = and_parts (is_chosen g found.0) (get_or marks found.0 false) found.2 in
          ⊎_elim
          (λ (start : Contains starts found.0). any_by (is_late g) starts found.0 start (late_itself found.0 (or_left (is_chosen g found.0) (leads (references g) found.0 found.0) parts.0)))
          (λ (path : (s : ℕ) × Contains starts s × Reaches (references g) s found.0). any_by (is_late g) starts path.0 path.1 (late_by path.0 found.0 parts.0 path.2))
          ((exact found.0).0 parts.1)

      pub late_by_marks : list_any (λ q. is_chosen g q && get_or marks q false) (range_with_len 0 (length g.params)) ≡ list_any (is_late g) starts
      late_by_marks = same_test (list_any (λ q. is_chosen g q && get_or marks q false) (range_with_len 0 (length g.params))) (list_any (is_late g) starts) (late_of_marked, marked_of_late)
