-- The same of a link between two ports, in numbers.
use Rattle.std.proofs.Common.{◌≡◌, ℕ, ◌*◌, ◌<◌, ◌⊎◌, inl, inr, List, length, slice_index, refl, sym}
use Rattle.sdf_level.specs.Links.{Inner}
use Rattle.sdf_level.specs.declared.link.Link.{Link}
use Rattle.sdf_level.specs.declared.link.Tail.TheVariants as tail
use Rattle.sdf_level.specs.declared.link.Head.TheVariants as head
use Rattle.balance_solver.specs.Pair.{IsLeastPair}
use Rattle.balance_solver.specs.Scaled.{IsScaled, IsTooLarge}
use Rattle.balance_solver.specs.Joined.{Adds, Refutes}
use Rattle.balance_solver.proofs.Uniting.{adds_same, refutes_uneven, refutes_zero, refutes_large, adds_united}

module _ (n a put b taken : ℕ) (group q : List ℕ) (tail_there : a < n) (head_there : b < n) where
  abbrev link : ℕ → ℕ → ℕ → Link
  link i j d = record { tail = tail.Port a i put; head = head.Port b j taken; delay = d }

  abbrev inner : ℕ → Inner
  inner d = record { tail = a; produced = put; head = b; consumed = taken; delay = d }

  pub between_none : put ≡ 0 → taken ≡ 0 → (i j d : ℕ) → Adds n (link i j d) group q group q
  between_none e f i j d = adds_same n (link i j d) group q record { tail_there = tail_there; head_there = head_there; either = inl (e, f) }

  pub between_even : slice_index group a ≡ slice_index group b → slice_index q a * put ≡ slice_index q b * taken → (i j d : ℕ) → Adds n (link i j d) group q group q
  between_even same e i j d = adds_same n (link i j d) group q record { tail_there = tail_there; head_there = head_there; either = inr (same, e) }

  pub between_one_zero : ((put ≡ 0) × (0 < taken)) ⊎ ((0 < put) × (taken ≡ 0)) → (i j d : ℕ) → Refutes n (link i j d) group q
  between_one_zero one i j d = refutes_zero n (link i j d) (inner d) group q (λ P h. h) (λ P h. h) tail_there head_there one

  pub between_uneven : slice_index group a ≡ slice_index group b → (slice_index q a * put ≡ slice_index q b * taken → ⊥) → (i j d : ℕ) → Refutes n (link i j d) group q
  between_uneven same uneven i j d = refutes_uneven n (link i j d) (inner d) group q (λ P h. h) (λ P h. h) tail_there head_there same uneven

  module _ (x y : ℕ) (apart : slice_index group a ≡ slice_index group b → ⊥) (pair : IsLeastPair (slice_index q a * put) (slice_index q b * taken) x y) (long : length q ≡ n) where
    pub between_large : IsTooLarge group q (slice_index group a) (slice_index group b) x y → (i j d : ℕ) → Refutes n (link i j d) group q
    between_large large i j d = refutes_large n (link i j d) (inner d) group q (λ P h. h) (λ P h. h) tail_there head_there (slice_index group a) (slice_index group b) x y refl refl (λ e. apart (sym e)) pair large long

    pub between_united : (group' q' : List ℕ) → IsScaled group q group' q' (slice_index group a) (slice_index group b) x y → (i j d : ℕ) → Adds n (link i j d) group q group' q'
    between_united group' q' scaled i j d = adds_united n (link i j d) (inner d) group q (λ P h. h) (λ P h. h) tail_there head_there (slice_index group a) (slice_index group b) x y refl refl (λ e. apart (sym e)) pair group' q' scaled long
