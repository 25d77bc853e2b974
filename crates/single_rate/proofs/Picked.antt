-- What the edges of a line carry, where each has its range of the line.
use Rattle.std.proofs.Common.{◌≡◌, ℕ, min, max, Bool, true, false, ⊎_elim, List, [], ◌∷◌, ◌++◌, take, drop, if◌then◌else◌, refl, sym, append_assoc, arith}
use Rattle.std.proofs.lemmas.Bool.{cases_eq, eq-eqb, ne_eqb}
use Rattle.std.proofs.lemmas.List.{append-nil}
use Rattle.single_rate.specs.Wires.{common, piece}
use Rattle.single_rate.specs.declared.part.Port.{Port}
use Rattle.single_rate.specs.declared.wire.Wire.{Wire}
use Rattle.single_rate.proofs.Spans.{span-empty, meet}

pub if-same : {A : Type 0} (c : Bool) (x : A) → (if c then x else x) ≡ x
if-same true x = refl
if-same false x = refl

abbrev pub Every : (Wire → Type 0) → List Wire → Type 0
Every P [] = Unit {0}
Every P (w ∷ ws) = P w × Every P ws

pub Every-append : (P : Wire → Type 0) (xs ys : List Wire) → Every P xs → Every P ys → Every P (xs ++ ys)
Every-append P [] ys of_xs of_ys = of_ys
Every-append P (w ∷ xs) ys of_xs of_ys = (of_xs.0, Every-append P xs ys of_xs.1 of_ys)

module _ {T : Type 0} (line : List T) where
  abbrev pub carried : Wire → List T
  carried w = take w.size (drop w.place line)

  -- what the edges that pass a test carry, joined
  abbrev pub picked : (Wire → Bool) → List Wire → List T
  picked test [] = []
  picked test (w ∷ ws) = (if test w then carried w else []) ++ picked test ws

  pub picked-append : (test : Wire → Bool) (xs ys : List Wire) → picked test (xs ++ ys) ≡ picked test xs ++ picked test ys
  picked-append test [] ys = refl
  picked-append test (w ∷ xs) ys = rw (picked-append test xs ys) (sym (append_assoc (if test w then carried w else []) (picked test xs) (picked test ys)))

  pub picked-piece : (test : Wire → Bool) (c : Bool) (t h : Port) (a e b f : ℕ) → test record { tail = t; head = h; size = common a e b f; place = max a b } ≡ c → picked test (piece t h a e b f) ≡ (if c then meet line a e b f else [])
  picked-piece test c t h a e b f is = ⊎_elim
      (λ (none : common a e b f ≡ 0). rw (eq-eqb (common a e b f) 0 none, span-empty line (max a b) (min e f) (omega arith)) (sym (if-same c [])))
      (λ (some : common a e b f ≡ 0 → ⊥). rw (ne_eqb (common a e b f) 0 some, is) (append-nil (if c then meet line a e b f else [])))
      (cases_eq (common a e b f) 0)
