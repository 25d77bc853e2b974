-- At a reader arrives its range.
use Rattle.std.proofs.Common.{◌≡◌, ℕ, ◌+◌, ◌-◌, ◌<◌, ◌≤◌, Bool, true, false, ◌&&◌, ◌==◌, ⊎_elim, ◌⊎◌, inl, inr, List, [], ◌∷◌, ◌++◌, if◌then◌else◌, refl, ap, sym, ◌∙◌, append_assoc, arith}
use Rattle.std.proofs.lemmas.Bool.{cases_lt, cases_Bool, lt-ltb, le-ltb}
use Rattle.std.proofs.lemmas.List.{append-nil}
use Rattle.sdf_level.specs.declared.node.Node.{Node}
use Rattle.sdf_level.specs.declared.node.Node.TheVariants as node
use Rattle.single_rate.specs.Nodes.{same}
use Rattle.single_rate.specs.Wires.{pieces, end_at, into_forks, out_of_joins, all_pieces, cut_and_joined, total}
use Rattle.single_rate.specs.declared.part.Port.{Port}
use Rattle.single_rate.specs.declared.part.Part.{Part}
use Rattle.single_rate.specs.declared.wire.Wire.{Wire}
use Rattle.single_rate.proofs.Spans.{span, meet-turned, meet-all}
use Rattle.single_rate.proofs.Picked.{picked, picked-append}
use Rattle.single_rate.proofs.Rows.{column, Once, column-none, all-heads-once}
use Rattle.single_rate.proofs.Copies.{Fails, join-heads, none-of}

-- at most one of the parts' own nodes passes the test
abbrev pub Single : (Port → Bool) → List Part → Type 0
Single t [] = Unit {0}
Single t (part ∷ parts) = (t part.at ≡ true → Fails t parts) × Single t parts

abbrev pub at_port : Node → ℕ → Port → Bool
at_port n port p = same n p.node && (port == p.port)

module _ {T : Type 0} (line : List T) where
  -- the ranges of the parts that pass the test
  abbrev pub ranges : (Port → Bool) → ℕ → List Part → List T
  ranges t b [] = []
  ranges t b (r ∷ rs) = (if t r.at then span line b (b + r.size) else []) ++ ranges t (b + r.size) rs

  pub ranges-append : (t : Port → Bool) (b : ℕ) (xs ys : List Part) → ranges t b (xs ++ ys) ≡ ranges t b xs ++ ranges t (b + total xs) ys
  ranges-append t b [] ys = let e : b + 0 ≡ b = omega arith in rw e refl
  ranges-append t b (r ∷ xs) ys = let e : (b + r.size) + total xs ≡ b + (r.size + total xs) = omega arith in
      rw (ranges-append t (b + r.size) xs ys, e) (sym (append_assoc (if t r.at then span line b (b + r.size) else []) (ranges t (b + r.size) xs) (ranges t (b + (r.size + total xs)) ys)))

  pub ranges-none : (t : Port → Bool) (b : ℕ) (rs : List Part) → Fails t rs → ranges t b rs ≡ []
  ranges-none t b [] fails = refl
  ranges-none t b (r ∷ rs) fails = rw (fails.0) (ranges-none t (b + r.size) rs fails.1)

module _ {T : Type 0} (line : List T) (l : ℕ) (t : Port → Bool) (forks : (i p : ℕ) → t record { node = node.Fork l i; port = p } ≡ false) (joins : (j p : ℕ) → t record { node = node.Join l j; port = p } ≡ false) where
  no_fork-heads : (readers : List Part) (a i : ℕ) (more : List Part) → picked line (λ w. t w.head) (into_forks l readers a i more) ≡ []
  no_fork-heads readers a i [] = refl
  no_fork-heads readers a i (w ∷ more) = ⊎_elim
      (λ (lt : 1 < pieces a (a + w.size) 0 readers). rw (lt-ltb 1 (pieces a (a + w.size) 0 readers) lt, forks i 0) (no_fork-heads readers (a + w.size) (i + 1) more))
      (λ (ge : pieces a (a + w.size) 0 readers ≤ 1). rw (le-ltb 1 (pieces a (a + w.size) 0 readers) ge) (no_fork-heads readers (a + w.size) (i + 1) more))
      (cases_lt 1 (pieces a (a + w.size) 0 readers))

  own_end : (many j : ℕ) (at : Port) → t (end_at (node.Join l j) many 0 at) ≡ true → t at ≡ true
  own_end many j at e = ⊎_elim
      (λ (lt : 1 < many). let no = joins j 0 in absurd (let f = rw (lt-ltb 1 many lt) at e in cc))
      (λ (ge : many ≤ 1). rw (le-ltb 1 many ge) at e)
      (cases_lt 1 many)

  single-once : (writers : List Part) (b j : ℕ) (rs : List Part) → Single t rs → Once line l t writers b j rs
  single-once writers b j [] single = tt
  single-once writers b j (r ∷ rs) single = ((λ e. none-of line l t writers (b + r.size) (j + 1) rs joins (single.0 (own_end (pieces b (b + r.size) 0 writers) j r.at e))), single-once writers (b + r.size) (j + 1) rs single.1)

  -- directly, or out of its Join
  merged : (writers : List Part) (top b j : ℕ) (rs : List Part) → b + total rs ≤ top → Single t rs → column line l t writers 0 top b j rs ++ picked line (λ w. t w.head) (out_of_joins l writers b j rs) ≡ ranges line t b rs
  merged writers top b j [] within single = refl
  merged writers top b j (r ∷ rs) within single = go (cases_Bool (t r.at)) (cases_lt 1 (pieces b (b + r.size) 0 writers)) (merged writers top (b + r.size) (j + 1) rs (omega arith) single.1)
    where
      f : ℕ
      f = b + r.size

      go : (t r.at ≡ true) ⊎ (t r.at ≡ false) → (1 < pieces b (b + r.size) 0 writers) ⊎ (pieces b (b + r.size) 0 writers ≤ 1) →
          column line l t writers 0 top (b + r.size) (j + 1) rs ++ picked line (λ w. t w.head) (out_of_joins l writers (b + r.size) (j + 1) rs) ≡ ranges line t (b + r.size) rs →
          column line l t writers 0 top b j (r ∷ rs) ++ picked line (λ w. t w.head) (out_of_joins l writers b j (r ∷ rs)) ≡ ranges line t b (r ∷ rs)
      go (inr fails) (inl lt) later = rw (lt-ltb 1 (pieces b (b + r.size) 0 writers) lt, joins j 0, fails) later
      go (inr fails) (inr ge) later = rw (le-ltb 1 (pieces b (b + r.size) 0 writers) ge, fails) later
      go (inl holds) (inl lt) later =
          let e : (b + r.size) - b ≡ r.size = omega arith in
          let rest : Fails t rs = single.0 holds in
          rw (lt-ltb 1 (pieces b (b + r.size) 0 writers) lt, joins j 0, holds, column-none line l t writers 0 top (b + r.size) (j + 1) rs (none-of line l t writers (b + r.size) (j + 1) rs joins rest), join-heads line l t writers (b + r.size) (j + 1) rs rest, ranges-none line t (b + r.size) rs rest, e) refl
      go (inl holds) (inr ge) later =
          let rest : Fails t rs = single.0 holds in
          rw (le-ltb 1 (pieces b (b + r.size) 0 writers) ge, holds, column-none line l t writers 0 top (b + r.size) (j + 1) rs (none-of line l t writers (b + r.size) (j + 1) rs joins rest), join-heads line l t writers (b + r.size) (j + 1) rs rest, ranges-none line t (b + r.size) rs rest, meet-turned line 0 top b (b + r.size), meet-all line b (b + r.size) 0 top (omega arith) (omega arith))
          (append-nil (span line b (b + r.size) ++ []))

  pub reader-gets : (writers readers : List Part) → Single t readers → total writers ≡ total readers → picked line (λ w. t w.head) (cut_and_joined l writers readers) ≡ ranges line t 0 readers
  reader-gets writers readers single same_total =
      let t' : Wire → Bool = λ w. t w.head in
      picked-append line t' (into_forks l readers 0 0 writers ++ all_pieces l writers readers [] 0 0 writers) (out_of_joins l writers 0 0 readers)
      ∙ ap (λ (a : List T). a ++ picked line t' (out_of_joins l writers 0 0 readers)) (picked-append line t' (into_forks l readers 0 0 writers) (all_pieces l writers readers [] 0 0 writers))
      ∙ rw (no_fork-heads readers 0 0 writers, all-heads-once line l t (λ j p. joins j p ∙ sym (joins j 0)) writers readers (single-once writers 0 0 readers single)) (merged writers (total writers) 0 0 readers (omega arith) single)
