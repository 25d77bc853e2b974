-- A frame of a kernel has the ports that the kernel's signature says.
use Rattle.std.proofs.Common.{◌≡◌, ℕ, zero, suc, ◌<◌, List, [], ◌∷◌, length, map, get_or, Some, refl, sym, ap, ◌∙◌, subst, arith}
use Rattle.std.specs.Prelude.{slice_get}
use Rattle.std.proofs.lemmas.List.{length-map}
use Rattle.std.proofs.lemmas.Option.{slice_get_within}
use Rattle.kernel_gate.specs.Signed.{Counts, SignatureView, counts_of, signature_view, unnamed}
use Rattle.kernel_gate.specs.declared.signature.Signature.{Signature}

some_is : {A : Type 0} (x y : A) → Some x ≡ Some y → x ≡ y
some_is x y e = cc

seen_at : (xs : List Signature) (kind : ℕ) (s d : Signature) → kind < length xs → s ≡ get_or xs kind d → slice_get (unnamed (map signature_view xs)) kind ≡ Some (counts_of s)
seen_at [] kind s d lt e = absurd (omega arith)
seen_at (x ∷ xs) zero s d lt e = ap (λ (t : Signature). Some (counts_of t)) (sym e)
seen_at (x ∷ xs) (suc kind) s d lt e = seen_at xs kind s d (omega arith) e

module _ (xs : List Signature) (table : List SignatureView) (kind : ℕ) (c : Counts) (same : map signature_view xs ≡ table) (at : slice_get (unnamed table) kind ≡ Some c) where
  pub kind_inside : kind < length xs
  kind_inside =
      let inside : kind < length (unnamed table) = slice_get_within (unnamed table) kind c at in
      let long : length (unnamed table) ≡ length xs = length-map table (λ (s : SignatureView). s.counts) ∙ (ap (λ (t : List SignatureView). length t) (sym same) ∙ length-map xs signature_view) in
      subst (λ (n : ℕ). kind < n) long inside

  -- its numbers of ports are the frame's
  pub counts_same : (s d : Signature) → s ≡ get_or xs kind d → counts_of s ≡ c
  counts_same s d e = some_is (counts_of s) c (sym (subst (λ (t : List SignatureView). slice_get (unnamed t) kind ≡ Some (counts_of s)) same (seen_at xs kind s d kind_inside e)) ∙ at)

  pub reads : (d : Signature) → 0 < (get_or xs kind d).ins → 0 < c.ins
  reads d some = subst (λ (k : Counts). 0 < k.ins) (counts_same (get_or xs kind d) d refl) some

  pub writes : (d : Signature) → 0 < (get_or xs kind d).outs → 0 < c.outs
  writes d some = subst (λ (k : Counts). 0 < k.outs) (counts_same (get_or xs kind d) d refl) some
