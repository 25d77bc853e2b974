-- What a link between two actors makes of their groups.
use Rattle.std.proofs.Common.{◌≡◌, ◌≢◌, ℕ, zero, suc, ◌*◌, ◌<◌, ◌≤◌, ◌⊎◌, inl, inr, ⊎_elim, List, [], ◌∷◌, ◌++◌, length, slice_index, refl, ap, sym, ◌∙◌, arith}
use Rattle.std.proofs.lemmas.Bool.{cases_eq, eq-eqb, ne_eqb}
use Rattle.sdf_level.specs.declared.link.Link.{Link}
use Rattle.sdf_level.specs.Links.{Inner, OfInner}
use Rattle.sdf_level.specs.Balance.{IsBalanced}
use Rattle.balance_solver.specs.Pair.{IsLeastPair}
use Rattle.sdf_level.specs.Groups.{united}
use Rattle.sdf_level.proofs.Regrouped.{united-first, united-second, united-other, united-origin}
use Rattle.balance_solver.specs.Scaled.{factor, IsScaled, IsTooLarge}
use Rattle.balance_solver.specs.Joined.{IsJoined, SolvesLinks, AreJoined, IsMultipleOn, Adds, Refutes}
use Rattle.std.proofs.Math.Nat.{mul_comm, mul-pos}
use Rattle.balance_solver.proofs.Euclid.{equal_factor}
use Rattle.sdf_level.proofs.InnerLinks.{EachInner-snoc, EachInner-front, EachInner-end, EachInner-map}

front : (n : ℕ) (links : List Link) (link : Link) (other : List ℕ) → SolvesLinks n (links ++ link ∷ []) other → SolvesLinks n links other
front n links link other s = record { at_least_one = s.at_least_one; within = s.within; balanced = EachInner-front (IsBalanced other) links link s.balanced }

-- the link is balanced already
pub adds_same : (n : ℕ) (link : Link) (group q : List ℕ) → OfInner (IsJoined n group q) link.tail link.head link.delay → Adds n link group q group q
adds_same n link group q here links j = record {
  at_least_one = j.at_least_one;
  within = j.within;
  joined = EachInner-snoc (IsJoined n group q) links link j.joined here;
  multiple = λ other s g. j.multiple other (front n links link other s) g;
}

factor_into : (into from x y : ℕ) → factor into from x y into ≡ x
factor_into into from x y = rw (eq-eqb into into refl)

factor_from : (into from x y : ℕ) → from ≢ into → factor into from x y from ≡ y
factor_from into from x y n = rw (ne_eqb from into n, eq-eqb from from refl)

factor_none : (into from x y g : ℕ) → g ≢ into → g ≢ from → factor into from x y g ≡ 1
factor_none into from x y g n m = rw (ne_eqb g into n, ne_eqb g from m)

swap_factors : (m q p : ℕ) → m * q * p ≡ m * (q * p)
swap_factors m q p = grind arith

pub at_most_multiple : (k v : ℕ) → 1 ≤ k * v → v ≤ k * v
at_most_multiple zero v h = omega arith
at_most_multiple (suc k) v h = omega arith

turned : (m u v : ℕ) → m * u * v ≡ m * (v * u)
turned m u v = grind arith

multiple_turned : (o m q f k x : ℕ) → o ≡ m * q → m ≡ k * x → f ≡ x → o ≡ k * (q * f)
multiple_turned o m q f k x a b c = a ∙ rw (b, c) (turned k x q)

scaled_even : (u v p c f : ℕ) → u * p ≡ v * c → u * f * p ≡ v * f * c
scaled_even u v p c f e = rw (moved_factor u f p, moved_factor v f c, e) refl
  where
    moved_factor : (u f p : ℕ) → u * f * p ≡ f * (u * p)
    moved_factor u f p = grind arith

pair_even : (u v p c x y : ℕ) → x * (u * p) ≡ y * (v * c) → u * x * p ≡ v * y * c
pair_even u v p c x y e = rw (moved_factor u x p, moved_factor v y c) e
  where
    moved_factor : (u f p : ℕ) → u * f * p ≡ f * (u * p)
    moved_factor u f p = grind arith

-- what balances a multiple balances the vector
cancel : (m u p v c : ℕ) → 1 ≤ m * u → m * u * p ≡ m * v * c → u * p ≡ v * c
cancel zero u p v c some e = omega arith
cancel (suc m) u p v c some e = equal_factor (u * p) (v * c) (suc m) (omega arith) (mul_comm (u * p) (suc m) ∙ sym (swap_factors (suc m) u p) ∙ e ∙ swap_factors (suc m) v c ∙ mul_comm (suc m) (v * c))

module _ (n : ℕ) (link : Link) (k : Inner) (group q : List ℕ) (only : (P : Inner → Type 0) → OfInner P link.tail link.head link.delay → P k) (back : (P : Inner → Type 0) → P k → OfInner P link.tail link.head link.delay) (tail_there : k.tail < n) (head_there : k.head < n) where
  -- what a solving vector says of the link
  even : (links : List Link) (other : List ℕ) → SolvesLinks n (links ++ link ∷ []) other → slice_index other k.tail * k.produced ≡ slice_index other k.head * k.consumed
  even links other s = only (IsBalanced other) (EachInner-end (IsBalanced other) links link s.balanced)

  -- a link within a group that the group's vector doesn't balance
  pub refutes_uneven : slice_index group k.tail ≡ slice_index group k.head → (IsBalanced q k → ⊥) → Refutes n link group q
  refutes_uneven same uneven links j other s =
      let all = j.multiple other (front n links link other s) (slice_index group k.head) in
      let t = all.1 k.tail tail_there same in
      let h = all.1 k.head head_there refl in
      uneven (cancel all.0 (slice_index q k.tail) k.produced (slice_index q k.head) k.consumed (rw t at (s.at_least_one k.tail tail_there)) (rw (t, h) at (even links other s)))

  -- a link with exactly one rate 0
  pub refutes_zero : ((k.produced ≡ 0) × (0 < k.consumed)) ⊎ ((0 < k.produced) × (k.consumed ≡ 0)) → Refutes n link group q
  refutes_zero one links j other s =
      let e = even links other s in
      ⊎_elim
      (λ (z : (k.produced ≡ 0) × (0 < k.consumed)). let some = mul-pos {m = slice_index other k.head} {n = k.consumed} (s.at_least_one k.head head_there) z.1 in let none : slice_index other k.tail * k.produced ≡ 0 = rw z.0 (omega arith) in omega arith)
      (λ (z : (0 < k.produced) × (k.consumed ≡ 0)). let some = mul-pos {m = slice_index other k.tail} {n = k.produced} (s.at_least_one k.tail tail_there) z.0 in let none : slice_index other k.head * k.consumed ≡ 0 = rw z.1 (omega arith) in omega arith)
      one

  module _ (into from x y : ℕ) (is_into : slice_index group k.tail ≡ into) (is_from : slice_index group k.head ≡ from) (apart : from ≢ into) (pair : IsLeastPair (slice_index q k.tail * k.produced) (slice_index q k.head * k.consumed) x y) where
    -- on both groups a solving vector is one multiple of the scaled one
    multiple_of_both : (links : List Link) → AreJoined n links group q → (other : List ℕ) → SolvesLinks n (links ++ link ∷ []) other → (times : ℕ) × ((a : ℕ) → a < n → (slice_index group a ≡ into) ⊎ (slice_index group a ≡ from) → slice_index other a ≡ times * (slice_index q a * factor into from x y (slice_index group a)))
    multiple_of_both links j other s =
        let t = j.multiple other (front n links link other s) into in
        let h = j.multiple other (front n links link other s) from in
        let e : t.0 * (slice_index q k.tail * k.produced) ≡ h.0 * (slice_index q k.head * k.consumed) =
        sym (swap_factors t.0 (slice_index q k.tail) k.produced) ∙ rw (t.1 k.tail tail_there is_into, h.1 k.head head_there is_from) at (even links other s) ∙ swap_factors h.0 (slice_index q k.head) k.consumed in
        let all = pair.multiple t.0 h.0 e in (
          all.0,
          λ a in' where'. ⊎_elim
              (λ (i : slice_index group a ≡ into). multiple_turned (slice_index other a) t.0 (slice_index q a) (factor into from x y (slice_index group a)) all.0 x (t.1 a in' i) all.1 (ap (factor into from x y) i ∙ factor_into into from x y))
              (λ (f : slice_index group a ≡ from). multiple_turned (slice_index other a) h.0 (slice_index q a) (factor into from x y (slice_index group a)) all.0 y (h.1 a in' f) all.2 (ap (factor into from x y) f ∙ factor_from into from x y apart))
              where',
        )

    pub refutes_large : IsTooLarge group q into from x y → length q ≡ n → Refutes n link group q
    refutes_large large long links j other s =
        let a = large.0 in
        let in' : a < n = let l = large.1 in omega arith in
        let u = multiple_of_both links j other s in
        let beyond : (slice_index group a ≡ into) ⊎ (slice_index group a ≡ from) → ⊥ = λ w. (
        let e = u.1 a in' w in
        let low = at_most_multiple u.0 (slice_index q a * factor into from x y (slice_index group a)) (rw e at (s.at_least_one a in')) in
        let high = s.within a in' in
        let l = large.2 in
        omega arith) in
        ⊎_elim
        (λ (i : slice_index group a ≡ into). beyond (inl i))
        (λ (i : slice_index group a ≢ into). ⊎_elim
        (λ (f : slice_index group a ≡ from). beyond (inr f))
        (λ (f : slice_index group a ≢ from). let w = j.within a in' in let l : 1024 < slice_index q a * 1 = rw (factor_none into from x y (slice_index group a) i f) at large.2 in omega arith)
        (cases_eq (slice_index group a) from))
        (cases_eq (slice_index group a) into)

    module _ (group' q' : List ℕ) (scaled : IsScaled group q group' q' into from x y) (long : length q ≡ n) where
      inside : (a : ℕ) → a < n → a < length q
      inside a h = omega arith

      now : (a : ℕ) → a < n → slice_index group' a ≡ united into from scaled.united.kept (slice_index group a)
      now a h = scaled.united.each a (let l = scaled.one_each in omega arith)

      some_factor : (g : ℕ) → 1 ≤ factor into from x y g
      some_factor g = ⊎_elim
          (λ (i : g ≡ into). rw (i, factor_into into from x y) pair.x_some)
          (λ (i : g ≢ into). ⊎_elim (λ (f : g ≡ from). rw (f, factor_from into from x y apart) pair.y_some) (λ (f : g ≢ from). rw (factor_none into from x y g i f) (omega arith)) (cases_eq g from))
          (cases_eq g into)

      -- a link within a group is within a group, and balanced
      keeps : (l : Inner) → IsJoined n group q l → IsJoined n group' q' l
      keeps l h = record {
        tail_there = h.tail_there;
        head_there = h.head_there;
        either = ⊎_elim (λ z. inl z) (λ (b : (slice_index group l.tail ≡ slice_index group l.head) × IsBalanced q l). inr (
          now l.tail h.tail_there ∙ ap (united into from scaled.united.kept) b.0 ∙ sym (now l.head h.head_there),
          rw (scaled.entries l.tail (inside l.tail h.tail_there), scaled.entries l.head (inside l.head h.head_there), b.0)
              (scaled_even (slice_index q l.tail) (slice_index q l.head) l.produced l.consumed (factor into from x y (slice_index group l.head)) b.1),
        )) h.either;
      }

      here : IsJoined n group' q' k
      here = record {
        tail_there = tail_there;
        head_there = head_there;
        either = inr (
          now k.tail tail_there ∙ ap (united into from scaled.united.kept) is_into ∙ united-first into from scaled.united.kept ∙ sym (now k.head head_there ∙ ap (united into from scaled.united.kept) is_from ∙ united-second into from scaled.united.kept),
          rw (scaled.entries k.tail (inside k.tail tail_there), scaled.entries k.head (inside k.head head_there), is_into, is_from, factor_into into from x y, factor_from into from x y apart)
              (pair_even (slice_index q k.tail) (slice_index q k.head) k.produced k.consumed x y pair.even),
        );
      }

      -- a group that is not the new one
      other_group : (other : List ℕ) (g : ℕ) → g ≢ scaled.united.kept → IsMultipleOn n group q other g → IsMultipleOn n group' q' other g
      other_group other g apart_too all = (
        all.0,
        λ a in' e.
            let came : united into from scaled.united.kept (slice_index group a) ≡ g = sym (now a in') ∙ e in
            let not_into : slice_index group a ≢ into = λ f. apart_too (sym came ∙ ap (united into from scaled.united.kept) f ∙ united-first into from scaled.united.kept) in
            let not_from : slice_index group a ≢ from = λ f. apart_too (sym came ∙ ap (united into from scaled.united.kept) f ∙ united-second into from scaled.united.kept) in
            let stays : slice_index group a ≡ g = sym (united-other into from scaled.united.kept (slice_index group a) not_into not_from) ∙ came in
            let one : factor into from x y (slice_index group a) ≡ 1 = factor_none into from x y (slice_index group a) not_into not_from in
            all.1 a in' stays ∙ sym (ap (λ (v : ℕ). all.0 * v) (scaled.entries a (inside a in') ∙ ap (λ (v : ℕ). slice_index q a * v) one ∙ omega arith)),
      )

      pub adds_united : Adds n link group q group' q'
      adds_united links j = record {
        at_least_one = λ a h. rw (scaled.entries a (inside a h)) (mul-pos {m = slice_index q a} {n = factor into from x y (slice_index group a)} (j.at_least_one a h) (some_factor (slice_index group a)));
        within = λ a h. scaled.within a (inside a h) (j.within a h);
        joined = EachInner-snoc (IsJoined n group' q') links link (EachInner-map {P = IsJoined n group q} {Q = IsJoined n group' q'} keeps links j.joined) (back (IsJoined n group' q') here);
        multiple = λ other s g. ⊎_elim
            (λ (e : g ≡ scaled.united.kept). let u = multiple_of_both links j other s in (u.0, λ a in' at. u.1 a in' (united-origin into from scaled.united.kept (slice_index group a) scaled.united.either (sym (now a in') ∙ at ∙ e)) ∙ sym (ap (λ (v : ℕ). u.0 * v) (scaled.entries a (inside a in')))))
            (λ (e : g ≢ scaled.united.kept). other_group other g e (j.multiple other (front n links link other s) g))
            (cases_eq g scaled.united.kept);
      }
