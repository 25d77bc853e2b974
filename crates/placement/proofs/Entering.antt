-- A buffer joins the large ones or the small ones.
use Rattle.std.proofs.Common.{List, ◌∷◌, ◌++◌, IsPermutation}
use Rattle.std.proofs.lemmas.List.Sorted.{IsPermutation-trans, IsPermutation-sym, IsPermutation-middle, IsPermutation-append_left, IsPermutation-append_right}
use Rattle.placement.specs.declared.gap.Placed.{Placed}

module _ (small large new : List Placed) (next : Placed) where
  pub same_large : IsPermutation (next ∷ large) new → IsPermutation (next ∷ (small ++ large)) (small ++ new)
  same_large moved =
      IsPermutation-trans (next ∷ (small ++ large)) (small ++ next ∷ large) (small ++ new)
      (IsPermutation-sym (small ++ next ∷ large) (next ∷ (small ++ large)) (IsPermutation-middle small next large))
      (IsPermutation-append_right small (next ∷ large) new moved)

  pub same_small : IsPermutation (next ∷ small) new → IsPermutation (next ∷ (small ++ large)) (new ++ large)
  same_small moved = IsPermutation-append_left large (next ∷ small) new moved
