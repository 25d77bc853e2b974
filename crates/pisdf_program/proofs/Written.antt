-- What was written of texts.
use Rattle.std.proofs.Common.{◌≡◌, ℕ, zero, suc, ◌+◌, ◌-◌, ◌≤◌, ℤ, List, [], ◌∷◌, ◌++◌, length, length-append, take, Option, refl, sym, ap, ◌∙◌, subst, append_assoc, arith}
use Rattle.std.proofs.lemmas.List.{append-nil}
use Rattle.std.proofs.Math.Seq.{take-length, take-append_seam}
use Rattle.kernel_gate.specs.Table.{the_signatures}
use Rattle.outer_world.specs.Sink.{Grows}
use Rattle.pisdf_model.specs.declared.graph.Graphs.{Graphs}
use Rattle.quiescent_driver.specs.Journals.{IsJournalText}
use Rattle.quiescent_driver.specs.Runs.{GrowsPartly}
use Rattle.quiescent_driver.specs.Texts.{joined}
use Rattle.pisdf_program.specs.Written.{AreTexts, Exactly, IsText, JournalOf, Text, Wrote, WroteFirst, WrotePartly, exactly, journals}
use Rattle.quiescent_driver.proofs.Runs.{grows_as, grows_on, grows_partly_as, joined-append, partly_after}

abbrev File : Type 0
File = Option (List ℕ)

-- ---- texts that are told by their bytes

exactly_texts : (ts : List (List ℕ)) → AreTexts (exactly ts) ts
exactly_texts [] = tt
exactly_texts (t ∷ ts) = (refl, exactly_texts ts)

take_exactly : (n : ℕ) (ts : List (List ℕ)) → take n (exactly ts) ≡ exactly (take n ts)
take_exactly zero ts = refl
take_exactly (suc n) [] = refl
take_exactly (suc n) (t ∷ ts) = ap (λ (rest : List Text). Exactly t ∷ rest) (take_exactly n ts)

pub wrote : (had has : File) (ts : List (List ℕ)) → Grows had has (joined ts) → Wrote had has (exactly ts)
wrote had has ts grows = (ts, exactly_texts ts, grows)

pub wrote_first : (had has : File) (ts : List (List ℕ)) (count : ℕ) → Grows had has (joined (take count ts)) → WroteFirst had has (exactly ts)
wrote_first had has ts count grows = (count, (take count ts, subst (λ (x : List Text). AreTexts x (take count ts)) (sym (take_exactly count ts)) (exactly_texts (take count ts)), grows))

pub wrote_partly : (had has : File) (ts : List (List ℕ)) → GrowsPartly had has (joined ts) → WrotePartly had has (exactly ts)
wrote_partly had has ts partly =
    let all : take (length ts) (exactly ts) ≡ exactly ts = take_exactly (length ts) ts ∙ ap exactly (take-length ts) in
    (length ts, ts, subst (λ (x : List Text). AreTexts x ts) (sym all) (exactly_texts ts), partly)

-- ---- any texts

pub wrote_nothing : (had has : File) (ts : List Text) → Grows had has [] → WroteFirst had has ts
wrote_nothing had has ts none = (0, ([], tt, none))

pub all_first : (had has : File) (ts : List Text) → Wrote had has ts → WroteFirst had has ts
all_first had has ts h = (length ts, subst (Wrote had has) (sym (take-length ts)) h)

pub wrote_none_more : (had has new : File) (ts : List Text) → Wrote had has ts → Grows has new [] → Wrote had new ts
wrote_none_more had has new ts h none = (h.0, h.1, grows_as had new _ _ (append-nil (joined h.0)) (grows_on had has new (joined h.0) [] h.2 none))

texts_snoc : (ts : List Text) (written : List (List ℕ)) (t : Text) (bytes : List ℕ) → AreTexts ts written → IsText t bytes → AreTexts (ts ++ t ∷ []) (written ++ bytes ∷ [])
texts_snoc [] [] t bytes are is = (is, tt)
texts_snoc [] (b ∷ written) t bytes are is = absurd are
texts_snoc (x ∷ ts) [] t bytes are is = absurd are
texts_snoc (x ∷ ts) (b ∷ written) t bytes are is = (are.0, texts_snoc ts written t bytes are.1 is)

joined_snoc : (written : List (List ℕ)) (bytes : List ℕ) → joined written ++ bytes ≡ joined (written ++ bytes ∷ [])
joined_snoc written bytes = ap (λ (t : List ℕ). joined written ++ t) (sym (append-nil bytes)) ∙ sym (joined-append written (bytes ∷ []))

-- ---- journals

module _ (g : Graphs) (streams : List (List ℤ)) (workers : ℕ) where
  pub wrote_more : (had has new : File) (k : ℕ) (bytes : List ℕ) → Wrote had has (journals g streams workers k) → IsJournalText g the_signatures streams workers k bytes → Grows has new bytes
      → Wrote had new (journals g streams workers (suc k))
  wrote_more had has new k bytes h is grows = (
    h.0 ++ bytes ∷ [],
    texts_snoc (journals g streams workers k) h.0 (JournalOf g streams workers k) bytes h.1 is,
    grows_as had new _ _ (joined_snoc h.0 bytes) (grows_on had has new (joined h.0) bytes h.2 grows),
  )

  pub partly_more : (had has new : File) (k : ℕ) (bytes : List ℕ) → Wrote had has (journals g streams workers k) → IsJournalText g the_signatures streams workers k bytes → GrowsPartly has new bytes
      → (written : List (List ℕ)) × AreTexts (journals g streams workers (suc k)) written × GrowsPartly had new (joined written)
  partly_more had has new k bytes h is grows = (
    h.0 ++ bytes ∷ [],
    texts_snoc (journals g streams workers k) h.0 (JournalOf g streams workers k) bytes h.1 is,
    grows_partly_as had new _ _ (joined_snoc h.0 bytes) (partly_after had has new (joined h.0) bytes h.2 grows),
  )

  journals_count : (n : ℕ) → length (journals g streams workers n) ≡ n
  journals_count zero = refl
  journals_count (suc n) = let e = journals_count n in omega (arith, e, length-append (journals g streams workers n) (JournalOf g streams workers n ∷ []))

  journals_more : (m d : ℕ) → (more : List Text) × (journals g streams workers (m + d) ≡ journals g streams workers m ++ more)
  journals_more m zero =
      let e : m + 0 ≡ m = omega arith in
      ([], ap (journals g streams workers) e ∙ sym (append-nil (journals g streams workers m)))
  journals_more m (suc d) =
      let r = journals_more m d in
      let e : m + suc d ≡ suc (m + d) = omega arith in
      let last : List Text = JournalOf g streams workers (m + d) ∷ [] in
      (r.0 ++ last, ap (journals g streams workers) e ∙ ap (λ (l : List Text). l ++ last) r.1 ∙ append_assoc (journals g streams workers m) r.0 last)

  -- the first of more journals
  pub first_journals : (m n : ℕ) → m ≤ n → take m (journals g streams workers n) ≡ journals g streams workers m
  first_journals m n le =
      let e : n ≡ m + (n - m) = omega (arith, le) in
      let r = journals_more m (n - m) in
      let first : List Text = journals g streams workers m in
      ap (take m) (ap (journals g streams workers) e ∙ r.1) ∙ ap (λ k. take k (first ++ r.0)) (sym (journals_count m)) ∙ take-append_seam first r.0
