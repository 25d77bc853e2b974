-- For how many edges nodes wait, as the edges out of another are gone over.
use Rattle.std.proofs.Common.{◌≡◌, ◌≢◌, ℕ, ◌+◌, ◌-◌, ◌<◌, ◌≤◌, ◌==◌, ◌&&◌, Bool, true, false, List, ◌∷◌, length, set, drop, get_or, refl, sym, ap, ◌∙◌, arith, ⊎_elim, if◌then◌else◌}
use Rattle.std.specs.Prelude.{slice_index}
use Rattle.std.proofs.lemmas.Bool.{eq-eqb}
use Rattle.std.proofs.lemmas.Bool.Decides.{eqb_tells}
use Rattle.std.proofs.lemmas.List.{drop_more, get_or-set_other, get_or-set_same}
use Rattle.sdf_level.specs.declared.single_rate.Edge.{Edge}
use Rattle.audit_job.specs.Waiting.{between}

module _ (edges : List Edge) (t : ℕ) (before : List ℕ) where
  -- after the first so many edges
  pub record IsBetween (i : ℕ) (waits : List ℕ) : Type 0 where
    pub each : (n : ℕ) → n < length before → slice_index waits n + between edges t n ≡ slice_index before n + between (drop i edges) t n
    pub enough : (n : ℕ) → n < length before → between (drop i edges) t n ≤ slice_index waits n

  module _ (i : ℕ) (e : Edge) (inside : i < length edges) (is : get_or edges i e ≡ e) where
    abbrev bit : Bool → ℕ
    bit b = if b then 1 else 0

    next : (n : ℕ) → between (drop i edges) t n ≡ bit ((e.head == n) && (e.tail == t)) + between (drop (i + 1) edges) t n
    next n = ap (λ (l : List Edge). between l t n) (drop_more edges i e inside ∙ ap (λ (x : Edge). x ∷ drop (i + 1) edges) is)

    no_bit : (b : Bool) → bit (b && false) ≡ 0
    no_bit true = refl
    no_bit false = refl

    not_from : (e.tail == t) ≡ false → (n : ℕ) → between (drop i edges) t n ≡ between (drop (i + 1) edges) t n
    not_from off n =
        let n_is = next n in
        let none : bit ((e.head == n) && (e.tail == t)) ≡ 0 = ap (λ b. bit ((e.head == n) && b)) off ∙ no_bit (e.head == n) in
        omega arith

    into_other : (n : ℕ) → (e.head == n) ≡ false → between (drop i edges) t n ≡ between (drop (i + 1) edges) t n
    into_other n off =
        let n_is = next n in
        let none : bit ((e.head == n) && (e.tail == t)) ≡ 0 = ap (λ b. bit (b && (e.tail == t))) off in
        omega arith

    into_this : (e.tail == t) ≡ true → (n : ℕ) → (e.head == n) ≡ true → between (drop i edges) t n ≡ between (drop (i + 1) edges) t n + 1
    into_this from n on =
        let n_is = next n in
        let one : bit ((e.head == n) && (e.tail == t)) ≡ 1 = (λ k. bit (on k && from k)) in
        omega arith

    module _ (waits : List ℕ) (so_far : IsBetween i waits) where
      pub passed : e.tail ≢ t → IsBetween (i + 1) waits
      passed apart =
          let off : (e.tail == t) ≡ false = ⊎_elim (λ (s : ((e.tail == t) ≡ true) × (e.tail ≡ t)). absurd (apart s.1)) (λ (s : ((e.tail == t) ≡ false) × (e.tail ≢ t)). s.0) (eqb_tells e.tail t) in
          record {
            each = λ n below. let same = not_from off n in let were = so_far.each n below in omega arith;
            enough = λ n below. let same = not_from off n in let were = so_far.enough n below in omega arith;
          }

      module _ (own : e.tail ≡ t) (there : e.head < length before) (long : length waits ≡ length before) where
        from : (e.tail == t) ≡ true
        from = eq-eqb e.tail t own

        pub still_waits : 0 < slice_index waits e.head
        still_waits = let less = into_this from e.head (eq-eqb e.head e.head refl) in let were = so_far.enough e.head there in omega arith

        abbrev later : List ℕ
        later = set waits e.head (slice_index waits e.head - 1)

        now_here : slice_index later e.head ≡ slice_index waits e.head - 1
        now_here = let inside_too : e.head < length waits = omega arith in get_or-set_same waits e.head (slice_index waits e.head - 1) 0 inside_too

        now_else : (n : ℕ) → n ≢ e.head → slice_index later n ≡ slice_index waits n
        now_else n apart = get_or-set_other waits e.head n (slice_index waits e.head - 1) 0 apart

        each_later : (n : ℕ) → n < length before → (slice_index later n + between edges t n ≡ slice_index before n + between (drop (i + 1) edges) t n) × (between (drop (i + 1) edges) t n ≤ slice_index later n)
        each_later n below = ⊎_elim
            (λ (s : ((e.head == n) ≡ true) × (e.head ≡ n)).
            let less = into_this from n s.0 in
            let were = so_far.each n below in
            let enough = so_far.enough n below in
            let now : slice_index later n ≡ slice_index waits n - 1 = ap (λ k. slice_index later k) (sym s.1) ∙ now_here ∙ ap (λ k. slice_index waits k - 1) s.1 in
            (omega arith, omega arith))
            (λ (s : ((e.head == n) ≡ false) × (e.head ≢ n)).
            let same = into_other n s.0 in
            let were = so_far.each n below in
            let enough = so_far.enough n below in
            let now = now_else n (λ here. s.1 (sym here)) in
            (omega arith, omega arith))
            (eqb_tells e.head n)

        pub released_one : IsBetween (i + 1) later
        released_one = record { each = λ n below. (each_later n below).0; enough = λ n below. (each_later n below).1 }
