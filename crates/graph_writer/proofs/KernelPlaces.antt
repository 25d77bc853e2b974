-- The signature that a kernel's name stands for is the one at the place of the name.
use Rattle.std.proofs.Common.{◌≡◌, ℕ, zero, suc, ◌+◌, ◌<◌, Bool, true, false, not, cond, ltb, List, [], ◌∷◌, map, length, refl, sym, ap, ◌∙◌, arith}
use Rattle.std.specs.Prelude.{Option, Some, None, is_none, option_and_then, unwrap_or, slice_get}
use Rattle.std.specs.List.{position_or_len}
use Rattle.std.specs.Str.{bytes_eq}
use Rattle.std.proofs.lemmas.Bool.{false≢true}
use Rattle.std.proofs.lemmas.Bool.Decides.{nat_tests}
use Rattle.std.proofs.lemmas.List.{length-map}
use Rattle.std.proofs.lemmas.List.Folds.{find_at}
use Rattle.std.proofs.lemmas.Option.{slice_get_past}
use Rattle.kernel_gate.specs.Signed.{SignatureView, signature_view}
use Rattle.kernel_gate.specs.declared.signature.Signature.{Signature}
use Rattle.param_expr.specs.Bind.{place_of}
use Rattle.param_expr.specs.Print.{Differ}
use Rattle.param_expr.proofs.Printed.{place_again}
use Rattle.pisdf_model.proofs.Alike.{of_mapped}
use Rattle.graph_format.specs.Kernels.{kernel_names, signature_named}
use Rattle.graph_format.specs.Named.{name_at_place}
use Rattle.graph_format.specs.Placed.{first_place}

-- the names of signatures, as plain data or not
pub same_kernels : (signatures : List Signature) → kernel_names (map signature_view signatures) ≡ map (λ (s : Signature). s.name.now) signatures
same_kernels signatures = of_mapped signature_view (λ (s : SignatureView). s.name) (λ (s : Signature). s.name.now) (λ s. refl) signatures

-- ---- names

first_named : (signatures : List SignatureView) (w : List ℕ) → position_or_len (bytes_eq w) (kernel_names signatures) ≡ position_or_len (λ (s : SignatureView). bytes_eq w s.name) signatures
first_named [] w = refl
first_named (s ∷ signatures) w = ap (λ n. cond (not (bytes_eq w s.name)) (1 + n) 0) (first_named signatures w)

-- past the end stands nothing
within_list : {X : Type 0} (xs : List X) (i n : ℕ) (b : Bool) → n ≡ length xs → ltb i n ≡ b → slice_get xs i ≡ option_and_then (slice_get xs) (cond b (Some i) None)
within_list xs i n true same is = refl
within_list xs i n false same is = slice_get_past xs i (grind (arith, nat_tests))

named_there : (signatures : List SignatureView) (w : List ℕ) → signature_named signatures w ≡ option_and_then (slice_get signatures) (place_of (kernel_names signatures) w)
named_there signatures w =
    let i = position_or_len (bytes_eq w) (kernel_names signatures) in
    find_at (λ (s : SignatureView). bytes_eq w s.name) signatures
    ∙ ap (slice_get signatures) (sym (first_named signatures w))
    ∙ within_list signatures i (length (kernel_names signatures)) _ (length-map signatures (λ (s : SignatureView). s.name)) refl

-- ---- tests of a signature, which fail where there is none

-- the name has a place, and the signature there passes the test
pub record PassesThere (test : Option SignatureView → Bool) (signatures : List SignatureView) (w : List ℕ) : Type 0 where
  pub named : is_none (place_of (kernel_names signatures) w) ≡ false
  pub passes : test (slice_get signatures (first_place (kernel_names signatures) w)) ≡ true

module _ (test : Option SignatureView → Bool) (fails : test None ≡ false) where
  -- what the signature of a name passes, the one at the name's place passes
  pub passes_there : (signatures : List SignatureView) (w : List ℕ) → test (signature_named signatures w) ≡ true → PassesThere test signatures w
  passes_there signatures w h = go (place_of (kernel_names signatures) w) refl (ap test (sym (named_there signatures w)) ∙ h)
    where
      go : (o : Option ℕ) → place_of (kernel_names signatures) w ≡ o → test (option_and_then (slice_get signatures) o) ≡ true → PassesThere test signatures w
      go None is passes = absurd (false≢true (sym fails ∙ passes))
      go (Some i) is passes = record { named = ap (λ (o : Option ℕ). is_none o) is; passes = ap (λ (o : Option ℕ). test (slice_get signatures (unwrap_or o 0))) is ∙ passes }

  passes_inside : (signatures : List SignatureView) (k : ℕ) → test (slice_get signatures k) ≡ true → k < length signatures
  passes_inside [] k passes = absurd (false≢true (sym fails ∙ passes))
  passes_inside (s ∷ signatures) zero passes = omega arith
  passes_inside (s ∷ signatures) (suc k) passes = omega (arith, passes_inside signatures k passes)

  -- a place whose signature passes is that of a name
  pub is_place_of_kernel : (signatures : List SignatureView) (k : ℕ) → test (slice_get signatures k) ≡ true → k < length (kernel_names signatures)
  is_place_of_kernel signatures k passes =
      omega (arith, passes_inside signatures k passes, length-map signatures (λ (s : SignatureView). s.name))

  -- where names differ, what the signature at a place passes, the one of the name there passes
  pub passes_named : (signatures : List SignatureView) (k : ℕ) → Differ (kernel_names signatures) → test (slice_get signatures k) ≡ true
      → test (signature_named signatures (name_at_place (kernel_names signatures) k)) ≡ true
  passes_named signatures k differ passes =
      let names = kernel_names signatures in
      let w = name_at_place names k in
      let there : signature_named signatures w ≡ slice_get signatures k = named_there signatures w ∙ ap (option_and_then (slice_get signatures)) (place_again names k differ (is_place_of_kernel signatures k passes)) in
      ap test there ∙ passes
