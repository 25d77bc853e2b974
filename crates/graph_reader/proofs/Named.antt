-- The first signature of a name, as it lies in memory and as plain data.
use Rattle.std.proofs.Common.{◌≡◌, ℕ, List, [], ◌∷◌, map, Bool, true, false, cond, Option, Some, None, Bor, bytes_eq, refl, ap, ◌∙◌}
use Rattle.std.specs.Prelude.{find, option_copied, option_map}
use Rattle.kernel_gate.specs.declared.signature.Signature.{Signature}
use Rattle.kernel_gate.specs.Signed.{SignatureView, signature_view}
use Rattle.graph_format.specs.Kernels.{signature_named}

mapped_cond : {A B : Type 0} (f : A → B) (b : Bool) (x : A) (rest : Option A) → option_map f (cond b (Some x) rest) ≡ cond b (Some (f x)) (option_map f rest)
mapped_cond f true x rest = refl
mapped_cond f false x rest = refl

find-map : {A B : Type 0} (f : A → B) (test : B → Bool) (xs : List A) → option_map f (find (λ x. test (f x)) xs) ≡ find test (map f xs)
find-map f test [] = refl
find-map f test (x ∷ xs) = mapped_cond f (test (f x)) x (find (λ x. test (f x)) xs) ∙ ap (cond (test (f x)) (Some (f x))) (find-map f test xs)

copied : {A B : Type 0} (f : A → B) (r : Option (Bor A)) → option_map (λ (s : Bor A). f s.now) r ≡ option_map f (option_copied r)
copied f None = refl
copied f (Some x) = refl

pub named_view : (signatures : List Signature) (w : List ℕ) (r : Option (Bor Signature)) → option_copied r ≡ find (λ (s : Signature). bytes_eq w s.name.now) signatures → option_map (λ (s : Bor Signature). signature_view s.now) r ≡ signature_named (map signature_view signatures) w
named_view signatures w r h =
    copied signature_view r ∙ ap (option_map signature_view) h ∙ find-map signature_view (λ (s : SignatureView). bytes_eq w s.name) signatures
