-- What a finished node releases, edge by edge.
use Rattle.std.proofs.Common.{◌≡◌, ℕ, ◌+◌, ◌-◌, ◌<◌, ◌≤◌, inl, inr, ⊎_elim, Bool, true, false, List, length, set, refl, sym, ap, ◌∙◌, subst, arith}
use Rattle.std.specs.Prelude.{◌≢◌, ◌==◌, Option, Some, slice_index, if◌then◌else◌}
use Rattle.std.proofs.lemmas.Bool.{cases_eq, eq-eqb, ne_eqb, eqb-true, false≢true}
use Rattle.std.proofs.lemmas.List.{length-set, get_or-set_same, get_or-set_other}
use Rattle.sdf_level.specs.declared.single_rate.Edge.{Edge}
use Rattle.one_job.specs.Places.{edge_at}
use Rattle.one_job.specs.Ready.{bit, side, put, is_in, AreSorted, AreRankedAs, heads_at, heads_in, Releases, CanRelease}
use Rattle.one_job.specs.declared.ready.ReadyNodes.{ReadyNodes}
use Rattle.one_job.proofs.Sides.{as_before, as_earlier, put_here, put_others, put_ranked, put_sorted}

pub releases_same : (child : ℕ → Bool) (edges : List Edge) (all rest next : List (Option ℕ)) (old now : List ℕ) (before after : ReadyNodes) → Releases child edges all rest old now before after → ((n : ℕ) → heads_in edges rest n ≡ heads_in edges next n) → Releases child edges all next old now before after
releases_same child edges all rest next old now before after so_far same = record {
  long = so_far.long;
  ranked = so_far.ranked;
  sorted = so_far.sorted;
  counted = λ n. so_far.counted n ∙ ap (λ k. slice_index old n + k) (same n);
  less = λ n. let was = so_far.less n in let is = same n in omega arith;
  more = so_far.more;
  new = λ n below none. so_far.new n (let is = same n in omega arith) none;
  only = λ n holds. ⊎_elim
      (λ (was : is_in child before n ≡ true). inl was)
      (λ (now_in : (heads_in edges rest n < heads_in edges all n) × (slice_index now n ≡ 0)). inr (let below = now_in.0 in let is = same n in omega arith, now_in.1))
      (so_far.only n holds);
}

module _ (child : ℕ → Bool) (edges : List Edge) (all rest next : List (Option ℕ)) (e : ℕ) (old now : List ℕ) (before after : ReadyNodes) (so_far : Releases child edges all rest old now before after)
    (can : CanRelease child edges all old before) (step : (n : ℕ) → heads_in edges rest n ≡ heads_at edges (Some e) n + heads_in edges next n) (there : (edge_at edges e).head < length old) where
  abbrev h : ℕ
  h = (edge_at edges e).head

  step_here : heads_in edges rest h ≡ 1 + heads_in edges next h
  step_here = step h ∙ ap (λ b. bit b + heads_in edges next h) (eq-eqb h h refl)

  step_other : (n : ℕ) → n ≢ h → heads_in edges rest n ≡ heads_in edges next n
  step_other n differs = step n ∙ (ap (λ b. bit b + heads_in edges next n) (ne_eqb h n (λ same. differs (sym same))) ∙ omega arith)

  pub waits_one : 1 ≤ slice_index now h
  waits_one = let count = so_far.counted h in let enough = can.waits h there in let here = step_here in omega arith

  pub not_in : is_in child after h ≡ false
  not_in = by_value (is_in child after h) refl
    where
      by_value : (b : Bool) → is_in child after h ≡ b → b ≡ false
      by_value false is = refl
      by_value true is = absurd (⊎_elim
          (λ (was : is_in child before h ≡ true). false≢true (sym (can.out h (let here = step_here in let less = so_far.less h in omega arith)) ∙ was))
          (λ (now_in : (heads_in edges rest h < heads_in edges all h) × (slice_index now h ≡ 0)). let none = now_in.1 in let one = waits_one in let bad : ⊥ = omega arith in bad)
          (so_far.only h is))

  abbrev count_now : List ℕ
  count_now = set now h (slice_index now h - 1)

  abbrev ready_if : Bool → ReadyNodes
  ready_if b = if b then put after (child h) h true else after

  abbrev ready_now : ReadyNodes
  ready_now = ready_if (slice_index now h == 1)

  inside : h < length now
  inside = let long = so_far.long in omega arith

  pub wide_now : (b : Bool) → length (side after b).held ≡ length now
  wide_now b = let wide = (so_far.ranked b).wide in let same = can.wide b in let long = so_far.long in omega arith

  held_inside : h < length (side after (child h)).held
  held_inside = let wide = wide_now (child h) in let here = inside in omega arith

  ranked_if : (b c : Bool) → AreRankedAs (side after c) (side (ready_if b) c)
  ranked_if true c = put_ranked after h true (child h) c
  ranked_if false c = as_before (side after c)

  sorted_if : (b : Bool) → AreSorted child (ready_if b)
  sorted_if true = put_sorted after h true child so_far.sorted
  sorted_if false = so_far.sorted

  still_in : (b : Bool) (n : ℕ) → is_in child after n ≡ true → is_in child (ready_if b) n ≡ true
  still_in true n holds = ⊎_elim
      (λ (same : n ≡ h). subst (λ k. is_in child (put after (child h) h true) k ≡ true) (sym same) (put_here after h true (child h) held_inside))
      (λ (differs : n ≢ h). put_others after h true (child h) (child n) n differs ∙ holds)
      (cases_eq n h)
  still_in false n holds = holds

  other_in : (b : Bool) (n : ℕ) → n ≢ h → is_in child (ready_if b) n ≡ true → is_in child after n ≡ true
  other_in true n differs holds = sym (put_others after h true (child h) (child n) n differs) ∙ holds
  other_in false n differs holds = holds

  here_in : (b : Bool) → b ≡ true → is_in child (ready_if b) h ≡ true
  here_in true is = put_here after h true (child h) held_inside
  here_in false is = absurd (false≢true is)

  in_here : (b : Bool) → is_in child (ready_if b) h ≡ true → b ≡ true
  in_here true holds = refl
  in_here false holds = absurd (false≢true (sym not_in ∙ holds))

  count_here : slice_index count_now h ≡ slice_index now h - 1
  count_here = get_or-set_same now h (slice_index now h - 1) 0 inside

  count_other : (n : ℕ) → n ≢ h → slice_index count_now n ≡ slice_index now n
  count_other n differs = get_or-set_other now h n (slice_index now h - 1) 0 differs

  pub releases_step : Releases child edges all next old count_now before ready_now
  releases_step = record {
    long = length-set now h (slice_index now h - 1) ∙ so_far.long;
    ranked = λ b. as_earlier (side before b) (side after b) (side ready_now b) (so_far.ranked b) (ranked_if (slice_index now h == 1) b);
    sorted = sorted_if (slice_index now h == 1);
    counted = λ n. ⊎_elim
        (λ (same : n ≡ h). subst (λ k. slice_index count_now k + heads_in edges all k ≡ slice_index old k + heads_in edges next k) (sym same)
        (let count = so_far.counted h in let here = step_here in let one = waits_one in let is = count_here in omega arith))
        (λ (differs : n ≢ h). let count = so_far.counted n in let other = step_other n differs in let is = count_other n differs in omega arith)
        (cases_eq n h);
    less = λ n. let was = so_far.less n in ⊎_elim
        (λ (same : n ≡ h). subst (λ k. heads_in edges next k ≤ heads_in edges all k) (sym same) (let here = step_here in let less = so_far.less h in omega arith))
        (λ (differs : n ≢ h). let other = step_other n differs in omega arith)
        (cases_eq n h);
    more = λ n holds. still_in (slice_index now h == 1) n (so_far.more n holds);
    new = λ n below none. ⊎_elim
        (λ (same : n ≡ h).
        let zero_here : slice_index count_now h ≡ 0 = subst (λ k. slice_index count_now k ≡ 0) same none in
        let one : slice_index now h ≡ 1 = (let is = count_here in let some = waits_one in omega arith) in
        subst (λ k. is_in child ready_now k ≡ true) (sym same) (here_in (slice_index now h == 1) (eq-eqb (slice_index now h) 1 one)))
        (λ (differs : n ≢ h). still_in (slice_index now h == 1) n (so_far.new n (let other = step_other n differs in omega arith) (sym (count_other n differs) ∙ none)))
        (cases_eq n h);
    only = λ n holds. ⊎_elim
        (λ (same : n ≡ h).
        let one : slice_index now h ≡ 1 = eqb-true (slice_index now h) 1 (in_here (slice_index now h == 1) (subst (λ k. is_in child ready_now k ≡ true) same holds)) in
        inr (subst (λ k. (heads_in edges next k < heads_in edges all k) × (slice_index count_now k ≡ 0)) (sym same)
        (let here = step_here in let less = so_far.less h in omega arith, let is = count_here in omega arith)))
        (λ (differs : n ≢ h). ⊎_elim
        (λ (was : is_in child before n ≡ true). inl was)
        (λ (now_in : (heads_in edges rest n < heads_in edges all n) × (slice_index now n ≡ 0)). inr (let below = now_in.0 in let other = step_other n differs in omega arith, count_other n differs ∙ now_in.1))
        (so_far.only n (other_in (slice_index now h == 1) n differs holds)))
        (cases_eq n h);
  }
