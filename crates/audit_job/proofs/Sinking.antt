-- What Sinks and Ends have given, one after the other.
use Rattle.std.proofs.Common.{◌≡◌, ℕ, zero, suc, ◌+◌, ◌<◌, ℤ, List, [], ◌∷◌, ◌++◌, length, drop, refl, sym, ap, ◌∙◌, arith}
use Rattle.std.proofs.lemmas.List.{append_assoc}
use Rattle.job_flow.specs.Frames as flow
use Rattle.job_flow.specs.Outcomes.{left_over, put_out, sunk}
use Rattle.pisdf_meaning.specs.declared.refusal.Refusal.{Refusal}
use Rattle.sdf_level.specs.declared.link.Link.{Link}
use Rattle.sdf_level.specs.declared.node.Node.{Node}
use Rattle.sdf_level.specs.declared.node.Node.TheVariants as node

module _ (nodes : List Node) (v : flow.Values ℤ Refusal) where
  sunk_next : (rates : List ℕ) (t k : ℕ) → k < length rates → sunk nodes v t (drop k rates) ≡ put_out nodes v (node.Sink t) ∷ sunk nodes v (t + 1) (drop (k + 1) rates)
  sunk_next [] t k inside = absurd (omega arith)
  sunk_next (r ∷ rates) t zero inside = refl
  sunk_next (r ∷ rates) t (suc k) inside = let e : suc k + 1 ≡ suc (k + 1) = omega arith in rw e (sunk_next rates t k (omega arith))

  left_next : (links : List Link) (l k : ℕ) → k < length links → left_over nodes v l (drop k links) ≡ put_out nodes v (node.End l) ∷ left_over nodes v (l + 1) (drop (k + 1) links)
  left_next [] l k inside = absurd (omega arith)
  left_next (x ∷ links) l zero inside = refl
  left_next (x ∷ links) l (suc k) inside = let e : suc k + 1 ≡ suc (k + 1) = omega arith in rw e (left_next links l k (omega arith))

  pub one_more_sunk : (rates : List ℕ) (k : ℕ) (outs : List (List ℤ)) (out : List ℤ) (outs' : List (List ℤ)) → k < length rates → out ≡ put_out nodes v (node.Sink k) → outs' ≡ outs ++ out ∷ [] →
      outs ++ sunk nodes v k (drop k rates) ≡ sunk nodes v 0 rates → outs' ++ sunk nodes v (k + 1) (drop (k + 1) rates) ≡ sunk nodes v 0 rates
  one_more_sunk rates k outs out outs' inside is more before =
      ap (λ l. l ++ sunk nodes v (k + 1) (drop (k + 1) rates)) more ∙ append_assoc outs (out ∷ []) (sunk nodes v (k + 1) (drop (k + 1) rates))
      ∙ ap (λ x. outs ++ x ∷ sunk nodes v (k + 1) (drop (k + 1) rates)) is ∙ ap (λ l. outs ++ l) (sym (sunk_next rates k k inside)) ∙ before

  pub one_more_left_over : (links : List Link) (k : ℕ) (left : List (List ℤ)) (out : List ℤ) (left' : List (List ℤ)) → k < length links → out ≡ put_out nodes v (node.End k) → left' ≡ left ++ out ∷ [] →
      left ++ left_over nodes v k (drop k links) ≡ left_over nodes v 0 links → left' ++ left_over nodes v (k + 1) (drop (k + 1) links) ≡ left_over nodes v 0 links
  one_more_left_over links k left out left' inside is more before =
      ap (λ l. l ++ left_over nodes v (k + 1) (drop (k + 1) links)) more ∙ append_assoc left (out ∷ []) (left_over nodes v (k + 1) (drop (k + 1) links))
      ∙ ap (λ x. left ++ x ∷ left_over nodes v (k + 1) (drop (k + 1) links)) is ∙ ap (λ l. left ++ l) (sym (left_next links k k inside)) ∙ before
