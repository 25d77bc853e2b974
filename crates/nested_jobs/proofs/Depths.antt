-- How many jobs are open in all.
use Rattle.std.proofs.Common.{◌≡◌, ◌⊎◌, ℕ, zero, suc, ◌+◌, ◌*◌, ◌<◌, ◌≤◌, List, [], ◌∷◌, length, refl, ⊎_elim, arith}
use Rattle.nested_jobs.specs.Rules.{Place}
use Rattle.nested_jobs.specs.Marks.{Open, Marks}
use Rattle.nested_jobs.specs.Pick.{NotIn, Distinct, AreOpen, AreAllOpen, Few}

split : (l d : ℕ) → l < suc d → (l ≡ d) ⊎ (l < d)
split l d h = grind arith

module _ {J A : Type 0} (m : Marks J A) where
  -- jobs are open at these places, all less deep than this
  abbrev Shallow : ℕ → List Place → Type 0
  Shallow d [] = Unit {0}
  Shallow d (p ∷ ps) = (length p < d) × ((j : J) × (m p ≡ Open j)) × Shallow d ps

  -- those of the greatest depth, and the others
  record Parted (d : ℕ) (ps : List Place) : Type 0 where
    deep : List Place
    others : List Place
    long : length ps ≡ length deep + length others
    deep_apart : Distinct deep
    others_apart : Distinct others
    deep_open : AreOpen m d deep
    others_open : Shallow d others
    not_in : (r : Place) → NotIn r ps → NotIn r deep × NotIn r others

  parted : (d : ℕ) (ps : List Place) → Distinct ps → Shallow (suc d) ps → Parted d ps
  parted d [] apart low = record { deep = []; others = []; long = refl; deep_apart = tt; others_apart = tt; deep_open = tt; others_open = tt; not_in = λ r h. (tt, tt) }
  parted d (p ∷ ps) apart low =
      let rest = parted d ps apart.1 low.2 in
      let l = rest.long in
      ⊎_elim
      (λ (at : length p ≡ d). record {
        deep = p ∷ rest.deep;
        others = rest.others;
        long = omega arith;
        deep_apart = ((rest.not_in p apart.0).0, rest.deep_apart);
        others_apart = rest.others_apart;
        deep_open = (at, low.1, rest.deep_open);
        others_open = rest.others_open;
        not_in = λ r h. ((h.0, (rest.not_in r h.1).0), (rest.not_in r h.1).1);
      })
      (λ (less : length p < d). record {
        deep = rest.deep;
        others = p ∷ rest.others;
        long = omega arith;
        deep_apart = rest.deep_apart;
        others_apart = ((rest.not_in p apart.0).1, rest.others_apart);
        deep_open = rest.deep_open;
        others_open = (less, low.1, rest.others_open);
        not_in = λ r h. ((rest.not_in r h.1).0, (h.0, (rest.not_in r h.1).1));
      })
      (split (length p) d low.0)

  few_shallow : (most d : ℕ) (ps : List Place) → Few most m → Distinct ps → Shallow d ps → length ps ≤ d * most
  few_shallow most zero [] few apart low = omega arith
  few_shallow most zero (p ∷ ps) few apart low = let l = low.0 in absurd (omega arith)
  few_shallow most (suc d) ps few apart low =
      let t = parted d ps apart low in
      let here = few d t.deep t.deep_apart t.deep_open in
      let rest = few_shallow most d t.others few t.others_apart t.others_open in
      let l = t.long in
      let more : suc d * most ≡ most + d * most = grind arith in
      omega arith

  shallow : (d : ℕ) (ps : List Place) → ((p : Place) (j : J) → m p ≡ Open j → length p < d) → AreAllOpen m ps → Shallow d ps
  shallow d [] low o = tt
  shallow d (p ∷ ps) low o = (low p o.0.0 o.0.1, o.0, shallow d ps low o.1)

  pub few_in_all : (most d : ℕ) (ps : List Place) → Few most m → ((p : Place) (j : J) → m p ≡ Open j → length p < d) → Distinct ps → AreAllOpen m ps → length ps ≤ d * most
  few_in_all most d ps few low apart o = few_shallow most d ps few apart (shallow d ps low o)
