-- Whose next line a line can be, by how it begins.
use Rattle.std.proofs.Common.{◌≡◌, ℕ, zero, suc, ◌<◌, Bool, true, false, List, [], ◌∷◌, ◌++◌, length, take, drop, get_or, Option, None, refl, sym, ap, ◌∙◌, arith}
use Rattle.std.specs.Bool.{Decides}
use Rattle.std.specs.Cmp.Lexicographic.{pointwise}
use Rattle.std.proofs.lemmas.Slice.Eq.{starts_is}
use Rattle.journal_audit.specs.Stepping.{Begins, line_start}
use Rattle.journal_audit.specs.declared.table.Run.{Run}

-- what stands at a place, whatever would stand past the end
pub at_any : {X : Type 0} (xs : List X) (i : ℕ) (d e : X) → i < length xs → get_or xs i d ≡ get_or xs i e
at_any [] i d e less = absurd (omega arith)
at_any (x ∷ xs) zero d e less = refl
at_any (x ∷ xs) (suc i) d e less = at_any xs i d e (omega arith)

module _ (E : ℕ → ℕ → Bool) (decides : (a b : ℕ) → Decides (E a b) (a ≡ b)) (n : ℕ) (running : List (Option Run)) (line : List ℕ) (w : ℕ) (start : List ℕ) (start_is : start ≡ line_start n w (get_or running w None))
    (b : Bool) (starts : b ≡ pointwise E start (take (length start) line)) where
  pub begins : b ≡ true → Begins n running line w
  begins t = (drop (length start) line, (starts_is decides line start b starts).0 t ∙ ap (λ (s : List ℕ). s ++ drop (length start) line) start_is)

  pub begins_not : b ≡ false → Begins n running line w → ⊥
  begins_not f h = let yes = (starts_is decides line start b starts).1 h.0 (h.1 ∙ ap (λ (s : List ℕ). s ++ h.0) (sym start_is)) in cc
