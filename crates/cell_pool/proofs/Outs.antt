-- Places that are out, less one.
use Rattle.std.proofs.Common.{◌≡◌, ℕ, ℤ, ◌+◌, ◌<◌, ◌≤◌, inl, inr, Bool, true, false, ◌||◌, List, [], ◌∷◌, ◌++◌, length, take, drop, refl, sym, ap, ◌∙◌, subst, arith}
use Rattle.std.specs.Prelude.{◌==◌, if◌then◌else◌}
use Rattle.std.proofs.lemmas.Bool.{and_parts, eqb-true, false≢true, eq-eqb, ne_eqb, or_from}
use Rattle.std.proofs.lemmas.List.{length-take-le, length-drop, length-append}
use Rattle.split_block.specs.Places.{Place, Apart, Clear, AllApart, has, without, same, write}
use Rattle.cell_pool.specs.Pooled.{EachWithin}

same_place : (p q : Place) → same p q ≡ true → p ≡ q
same_place p q e =
    let parts = and_parts (p.start == q.start) (p.len == q.len) e in
    λ i. record { start = eqb-true p.start q.start parts.0 i; len = eqb-true p.len q.len parts.1 i }

turned : (p q : Place) → Apart p q → Apart q p
turned p q (inl h) = inr h
turned p q (inr h) = inl h

module _ (p : Place) where
  -- what is apart from all is apart from each
  apart_step : (q r : Place) (qs : List Place) (b : Bool) → same p r ≡ b → (b || has p qs) ≡ true → Apart q r → (has p qs ≡ true → Apart q p) → Apart q p
  apart_step q r qs true e h here rest = subst (Apart q) (sym (same_place p r e)) here
  apart_step q r qs false e h here rest = rest h

  apart_each : (q : Place) (qs : List Place) → Clear q qs → has p qs ≡ true → Apart q p
  apart_each q [] c h = absurd (false≢true h)
  apart_each q (r ∷ qs) c h = apart_step q r qs (same p r) refl h c.0 (apart_each q qs c.1)

  clear_step : (q r : Place) (qs : List Place) (b : Bool) → Apart q r → Clear q qs → Clear q (without p qs) → Clear q (if b then qs else (r ∷ without p qs))
  clear_step q r qs true a c d = c
  clear_step q r qs false a c d = (a, d)

  pub clear_without : (q : Place) (qs : List Place) → Clear q qs → Clear q (without p qs)
  clear_without q [] c = tt
  clear_without q (r ∷ qs) c = clear_step q r qs (same p r) c.0 c.1 (clear_without q qs c.1)

  less_step : (q : Place) (qs : List Place) (b : Bool) → same p q ≡ b → (b || has p qs) ≡ true → Clear q qs → (has p qs ≡ true → Clear p (without p qs)) → Clear p (if b then qs else (q ∷ without p qs))
  less_step q qs true e h c rest = subst (λ r. Clear r qs) (sym (same_place p q e)) c
  less_step q qs false e h c rest = (turned q p (apart_each q qs c h), rest h)

  pub clear_less : (qs : List Place) → AllApart qs → has p qs ≡ true → Clear p (without p qs)
  clear_less [] a h = absurd (false≢true h)
  clear_less (q ∷ qs) a h = less_step q qs (same p q) refl h a.0 (clear_less qs a.1)

  all_step : (q : Place) (qs : List Place) (b : Bool) → Clear q qs → AllApart qs → AllApart (without p qs) → AllApart (if b then qs else (q ∷ without p qs))
  all_step q qs true c a d = a
  all_step q qs false c a d = (clear_without q qs c, d)

  pub all_less : (qs : List Place) → AllApart qs → AllApart (without p qs)
  all_less [] a = tt
  all_less (q ∷ qs) a = all_step q qs (same p q) a.0 a.1 (all_less qs a.1)

  within_step : (size : ℕ) (q : Place) (qs : List Place) (b : Bool) → EachWithin size (q ∷ qs) → EachWithin size (without p qs) → EachWithin size (if b then qs else (q ∷ without p qs))
  within_step size q qs true w d = w.2
  within_step size q qs false w d = (w.0, w.1, d)

  pub within_less : (size : ℕ) (qs : List Place) → EachWithin size qs → EachWithin size (without p qs)
  within_less size [] w = tt
  within_less size (q ∷ qs) w = within_step size q qs (same p q) w (within_less size qs w.2)

  each_step : (size : ℕ) (q : Place) (qs : List Place) (b : Bool) → same p q ≡ b → (b || has p qs) ≡ true → EachWithin size (q ∷ qs) → (has p qs ≡ true → (0 < p.len) × (p.start + p.len ≤ size)) → (0 < p.len) × (p.start + p.len ≤ size)
  each_step size q qs true e h w rest = subst (λ (r : Place). (0 < r.len) × (r.start + r.len ≤ size)) (sym (same_place p q e)) (w.0, w.1)
  each_step size q qs false e h w rest = rest h

  pub each_within : (size : ℕ) (qs : List Place) → EachWithin size qs → has p qs ≡ true → (0 < p.len) × (p.start + p.len ≤ size)
  each_within size [] w h = absurd (false≢true h)
  each_within size (q ∷ qs) w h = each_step size q qs (same p q) refl h w (each_within size qs w.2)

pub length-write : (s : ℕ) (ws xs : List ℤ) → s + length ws ≤ length xs → length (write s ws xs) ≡ length xs
length-write s ws xs h =
    omega (arith, length-append (take s xs) (ws ++ drop (s + length ws) xs), length-append ws (drop (s + length ws) xs), length-take-le s xs (omega (arith, h)), length-drop (s + length ws) xs)
