-- Places that are out of a pool, with one more and with one less.
use Rattle.std.proofs.Common.{◌≡◌, ℕ, ◌+◌, ◌<◌, ◌≤◌, ◌⊎◌, inl, inr, ⊎_elim, Bool, true, false, ◌||◌, List, [], ◌∷◌, length, map, refl, sym, ap, ◌∙◌, subst, arith}
use Rattle.std.specs.Prelude.{◌==◌, ◌≢◌, if◌then◌else◌}
use Rattle.std.specs.List.{IsDistinct, AllByRecursion, list_any}
use Rattle.std.proofs.lemmas.Bool.{and_parts, eqb-true, false≢true, eq-eqb, ne_eqb}
use Rattle.std.proofs.lemmas.List.{length-map}
use Rattle.std.proofs.lemmas.Map.Steps.{length-le_from_distinct_below}
use Rattle.split_block.specs.Places.{Place, Apart, Clear, AllApart, has, without, same}
use Rattle.one_job.specs.Live.{AreOut}
use Rattle.one_job.proofs.Order.{turned}

pub same_place : (p q : Place) → same p q ≡ true → p ≡ q
same_place p q e =
    let parts = and_parts (p.start == q.start) (p.len == q.len) e in
    λ i. record { start = eqb-true p.start q.start parts.0 i; len = eqb-true p.len q.len parts.1 i }

same_itself : (p : Place) → same p p ≡ true
same_itself p = rw (eq-eqb p.start p.start refl, eq-eqb p.len p.len refl) refl

pub not_same : (p q : Place) → Apart p q → 1 ≤ p.len → same p q ≡ false
not_same p q apart some = go (same p q) refl
  where
    go : (b : Bool) → same p q ≡ b → b ≡ false
    go false is = refl
    go true is =
        let whole : Apart p p = subst (λ r. Apart p r) (sym (same_place p q is)) apart in
        absurd (⊎_elim (λ (h : p.start + p.len ≤ p.start). let bad : ⊥ = omega arith in bad) (λ (h : p.start + p.len ≤ p.start). let bad : ⊥ = omega arith in bad) whole)

pub has_first : (p : Place) (out : List Place) → has p (p ∷ out) ≡ true
has_first p out = rw (same_itself p) refl

or_true : (b : Bool) → b || true ≡ true
or_true true = refl
or_true false = refl

pub has_more : (p q : Place) (out : List Place) → has p out ≡ true → has p (q ∷ out) ≡ true
has_more p q out is = ap (λ b. same p q || b) is ∙ or_true (same p q)

has_cases : (p q : Place) (out : List Place) → has p (q ∷ out) ≡ true → (p ≡ q) ⊎ (has p out ≡ true)
has_cases p q out is = go (same p q) refl is
  where
    go : (b : Bool) → same p q ≡ b → (b || has p out) ≡ true → (p ≡ q) ⊎ (has p out ≡ true)
    go true here is = inl (same_place p q here)
    go false here is = inr is

-- what is apart from each place out is clear of all
pub Clear-from_each : (p : Place) (out : List Place) → ((q : Place) → has q out ≡ true → Apart p q) → Clear p out
Clear-from_each p [] each = tt
Clear-from_each p (q ∷ out) each = (each q (has_first q out), Clear-from_each p out (λ r is. each r (has_more r q out is)))

pub Clear-each : (p q : Place) (out : List Place) → Clear p out → has q out ≡ true → Apart p q
Clear-each p q [] clear is = absurd (false≢true is)
Clear-each p q (r ∷ out) clear is = ⊎_elim
    (λ (here : q ≡ r). subst (Apart p) (sym here) clear.0)
    (λ (there : has q out ≡ true). Clear-each p q out clear.1 there)
    (has_cases q r out is)

module _ (p : Place) where
  -- one less
  clear_step : (q r : Place) (qs : List Place) (b : Bool) → Apart q r → Clear q qs → Clear q (without p qs) → Clear q (if b then qs else (r ∷ without p qs))
  clear_step q r qs true a c d = c
  clear_step q r qs false a c d = (a, d)

  clear_without : (q : Place) (qs : List Place) → Clear q qs → Clear q (without p qs)
  clear_without q [] c = tt
  clear_without q (r ∷ qs) c = clear_step q r qs (same p r) c.0 c.1 (clear_without q qs c.1)

  less_step : (q : Place) (qs : List Place) (b : Bool) → same p q ≡ b → (b || has p qs) ≡ true → Clear q qs → (has p qs ≡ true → Clear p (without p qs)) → Clear p (if b then qs else (q ∷ without p qs))
  less_step q qs true e h c rest = subst (λ r. Clear r qs) (sym (same_place p q e)) c
  less_step q qs false e h c rest = (turned q p (Clear-each q p qs c h), rest h)

  pub clear_less : (qs : List Place) → AllApart qs → has p qs ≡ true → Clear p (without p qs)
  clear_less [] a h = absurd (false≢true h)
  clear_less (q ∷ qs) a h = less_step q qs (same p q) refl h a.0 (clear_less qs a.1)

  all_step : (q : Place) (qs : List Place) (b : Bool) → Clear q qs → AllApart qs → AllApart (without p qs) → AllApart (if b then qs else (q ∷ without p qs))
  all_step q qs true c a d = a
  all_step q qs false c a d = (clear_without q qs c, d)

  pub all_less : (qs : List Place) → AllApart qs → AllApart (without p qs)
  all_less [] a = tt
  all_less (q ∷ qs) a = all_step q qs (same p q) a.0 a.1 (all_less qs a.1)

  -- another place stays
  stay_step : (q r : Place) (qs : List Place) (b : Bool) → same p r ≡ b → same p q ≡ false → has q (r ∷ qs) ≡ true → (has q qs ≡ true → has q (without p qs) ≡ true) → has q (if b then qs else (r ∷ without p qs)) ≡ true
  stay_step q r qs true e not h rest = ⊎_elim
      (λ (here : q ≡ r). absurd (false≢true (sym not ∙ (ap (same p) here ∙ e))))
      (λ (there : has q qs ≡ true). there)
      (has_cases q r qs h)
  stay_step q r qs false e not h rest = ⊎_elim
      (λ (here : q ≡ r). subst (λ s. has q (s ∷ without p qs) ≡ true) here (has_first q (without p qs)))
      (λ (there : has q qs ≡ true). has_more q r (without p qs) (rest there))
      (has_cases q r qs h)

  pub has_other : (q : Place) (qs : List Place) → same p q ≡ false → has q qs ≡ true → has q (without p qs) ≡ true
  has_other q [] not h = absurd (false≢true h)
  has_other q (r ∷ qs) not h = stay_step q r qs (same p r) refl not h (has_other q qs not)

  -- nothing comes in
  back_step : (q r : Place) (qs : List Place) (b : Bool) → has q (if b then qs else (r ∷ without p qs)) ≡ true → (has q (without p qs) ≡ true → has q qs ≡ true) → has q (r ∷ qs) ≡ true
  back_step q r qs true h rest = has_more q r qs h
  back_step q r qs false h rest = ⊎_elim
      (λ (here : q ≡ r). subst (λ s. has q (s ∷ qs) ≡ true) here (has_first q qs))
      (λ (there : has q (without p qs) ≡ true). has_more q r qs (rest there))
      (has_cases q r (without p qs) h)

  pub has_less : (q : Place) (qs : List Place) → has q (without p qs) ≡ true → has q qs ≡ true
  has_less q [] h = absurd (false≢true h)
  has_less q (r ∷ qs) h = back_step q r qs (same p r) h (has_less q qs)

-- ---- how many there are

record IsIn (cells : ℕ) (p : Place) : Type 0 where
  pub some : 1 ≤ p.len
  pub within : p.start + p.len ≤ cells

module _ (cells : ℕ) where
  others_apart : (p : Place) (out : List Place) → 1 ≤ p.len → Clear p out → ((q : Place) → has q out ≡ true → IsIn cells q) → AllByRecursion (λ y. (p.start == y) ≡ false) (map (λ (q : Place). q.start) out)
  others_apart p [] some clear each = tt
  others_apart p (q ∷ out) some clear each =
      let q_in = each q (has_first q out) in
      let differ : p.start ≢ q.start = λ same. ⊎_elim (λ (h : p.start + p.len ≤ q.start). let bad : ⊥ = omega arith in bad) (λ (h : q.start + q.len ≤ p.start). let s = q_in.some in let bad : ⊥ = omega arith in bad) clear.0 in
      (ne_eqb p.start q.start differ, others_apart p out some clear.1 (λ r is. each r (has_more r q out is)))

  distinct : (out : List Place) → AllApart out → ((q : Place) → has q out ≡ true → IsIn cells q) → IsDistinct (λ x y. x == y) (map (λ (q : Place). q.start) out)
  unfolding IsDistinct
  distinct [] apart each = tt
  distinct (p ∷ out) apart each = (others_apart p out (each p (has_first p out)).some apart.0 (λ q is. each q (has_more q p out is)), distinct out apart.1 (λ q is. each q (has_more q p out is)))

  start_step : (q : Place) (out : List Place) (s : ℕ) (b : Bool) → (s == q.start) ≡ b → (b || list_any (λ y. s == y) (map (λ (r : Place). r.start) out)) ≡ true → (list_any (λ y. s == y) (map (λ (r : Place). r.start) out) ≡ true → (r : Place) × (has r out ≡ true) × (r.start ≡ s)) → (r : Place) × (has r (q ∷ out) ≡ true) × (r.start ≡ s)
  start_step q out s true here is rest = (q, has_first q out, sym (eqb-true s q.start here))
  start_step q out s false here is rest = let found = rest is in (found.0, has_more found.0 q out found.1, found.2)

  start_of : (out : List Place) (s : ℕ) → list_any (λ y. s == y) (map (λ (q : Place). q.start) out) ≡ true → (q : Place) × (has q out ≡ true) × (q.start ≡ s)
  start_of [] s is = absurd (false≢true is)
  start_of (q ∷ out) s is = start_step q out s (s == q.start) refl is (start_of out s)

  pub places_few : (out : List Place) → AllApart out → ((q : Place) → has q out ≡ true → (1 ≤ q.len) × (q.start + q.len ≤ cells)) → length out ≤ cells
  places_few out apart each =
      let inside : (q : Place) → has q out ≡ true → IsIn cells q = λ q is. record { some = (each q is).0; within = (each q is).1 } in
      let bound = length-le_from_distinct_below (map (λ (q : Place). q.start) out) cells (distinct out apart inside)
      (λ s is. let found = start_of out s is in let q_in = inside found.0 found.1 in let at = found.2 in omega (arith, q_in.some, q_in.within, at)) in
      omega (arith, bound, length-map out (λ (q : Place). q.start))

-- ---- one more lent, and one less

module _ (place : ℕ → Place) (count : ℕ) (lent : ℕ → Type 0) (out : List Place) (are : AreOut place count lent out) where
  pub AreOut-same : (other : ℕ → Type 0) → ((e : ℕ) → e < count → lent e → other e) → ((e : ℕ) → e < count → other e → lent e) → AreOut place count other out
  AreOut-same other on back = record {
    all = λ e inside is. are.all e inside (back e inside is);
    only = λ p is. let found = are.only p is in (found.0, found.1, on found.0 found.1 found.2, found.3);
    apart = are.apart;
  }

  pub AreOut-more : (e : ℕ) → e < count → Clear (place e) out → AreOut place count (λ f. lent f ⊎ (f ≡ e)) (place e ∷ out)
  AreOut-more e inside clear = record {
    all = λ f f_in is. ⊎_elim
        (λ (old : lent f). has_more (place f) (place e) out (are.all f f_in old))
        (λ (new : f ≡ e). subst (λ p. has (place f) (p ∷ out) ≡ true) (ap place new) (has_first (place f) out))
        is;
    only = λ p is. ⊎_elim
        (λ (here : p ≡ place e). (e, inside, inr refl, sym here))
        (λ (there : has p out ≡ true). let found = are.only p there in (found.0, found.1, inl found.2, found.3))
        (has_cases p (place e) out is);
    apart = (clear, are.apart);
  }

  pub AreOut-less : (e : ℕ) → e < count → lent e → 1 ≤ (place e).len → ((f : ℕ) → f < count → lent f → f ≢ e → Apart (place e) (place f)) → AreOut place count (λ f. lent f × (f ≢ e)) (without (place e) out)
  AreOut-less e inside is some apart = record {
    all = λ f f_in is. has_other (place e) (place f) out (not_same (place e) (place f) (apart f f_in is.0 is.1) some) (are.all f f_in is.0);
    only = λ p p_in.
        let found = are.only p (has_less (place e) p out p_in) in (
          found.0,
          found.1,
          (
            found.2,
            λ same_e.
                let here : has (place e) (without (place e) out) ≡ true = subst (λ q. has q (without (place e) out) ≡ true) (sym found.3 ∙ ap place same_e) p_in in
                let bad = Clear-each (place e) (place e) (without (place e) out) (clear_less (place e) out are.apart (are.all e inside is)) here in
                ⊎_elim (λ (h : (place e).start + (place e).len ≤ (place e).start). let no : ⊥ = omega arith in no) (λ (h : (place e).start + (place e).len ≤ (place e).start). let no : ⊥ = omega arith in no) bad,
          ),
          found.3,
        );
    apart = all_less (place e) out are.apart;
  }
