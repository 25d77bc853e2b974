-- Runs where a function gives each firing's answer: there is exactly one end, and it can be computed.
use Rattle.std.proofs.Common.{◌≡◌, ℕ, List, [], ◌∷◌, ◌++◌, Result, Ok, Err, refl, sym, ◌∙◌, subst}
use Rattle.sdf_level.specs.View.{LevelView}
use Rattle.sdf_level.specs.Firings.{firings}
use Rattle.sdf_level.specs.Run.{Fire, FireFunction, by_function, inputs, put, GoesOn, RunsFrom}
use Rattle.sdf_level.specs.LevelRun.{Ended, IsEnd, RunEnds}

module _ {T F : Type 0} (level : LevelView) (fire : Fire T F) (sources : List (List T)) (one_answer : (b k : ℕ) (ins : List (List T)) (x y : Result (List (List T)) F) → fire b k ins x → fire b k ins y → x ≡ y) where
  pub RunsFrom-unique : (before : List ℕ) (lines : List (List T)) (rest : List ℕ) (x y : Result (List (List T)) F) → RunsFrom level fire sources before lines rest x → RunsFrom level fire sources before lines rest y → x ≡ y
  RunsFrom-unique before lines [] x y p q = p ∙ sym q
  RunsFrom-unique before lines (b ∷ rest) x y p q =
      let same = one_answer b (firings b before) (inputs sources b (firings b before) level.links lines) p.0 q.0 p.1 q.1 in
      let P : Result (List (List T)) F → Type 0 = λ answer. GoesOn (λ outputs. RunsFrom level fire sources (before ++ b ∷ []) (put b outputs level.links lines) rest y) y answer in
      go p.0 p.2 (subst P (sym same) q.2) (λ outputs. RunsFrom-unique (before ++ b ∷ []) (put b outputs level.links lines) rest x y)
    where
      go : (answer : Result (List (List T)) F) → GoesOn (λ outputs. RunsFrom level fire sources (before ++ b ∷ []) (put b outputs level.links lines) rest x) x answer → GoesOn (λ outputs. RunsFrom level fire sources (before ++ b ∷ []) (put b outputs level.links lines) rest y) y answer →
          ((outputs : List (List T)) → RunsFrom level fire sources (before ++ b ∷ []) (put b outputs level.links lines) rest x → RunsFrom level fire sources (before ++ b ∷ []) (put b outputs level.links lines) rest y → x ≡ y) → x ≡ y
      go (Ok outputs) p q later = later outputs p q
      go (Err fault) p q later = p ∙ sym q

module _ {T F : Type 0} (level : LevelView) (fire : FireFunction T F) (sources : List (List T)) where
  abbrev pub computed : List ℕ → List (List T) → List ℕ → Result (List (List T)) F
  computed before lines [] = Ok lines
  computed before lines (b ∷ rest) =
      elim (fire b (firings b before) (inputs sources b (firings b before) level.links lines)) [
        | Ok outputs ↦ computed (before ++ b ∷ []) (put b outputs level.links lines) rest
        | Err fault ↦ Err fault
      ]

  pub runs-computed : (before : List ℕ) (lines : List (List T)) (rest : List ℕ) → RunsFrom level (by_function fire) sources before lines rest (computed before lines rest)
  runs-computed before lines [] = refl
  runs-computed before lines (b ∷ rest) = (answer, refl, goes answer (λ outputs. runs-computed (before ++ b ∷ []) (put b outputs level.links lines) rest))
    where
      answer : Result (List (List T)) F
      answer = fire b (firings b before) (inputs sources b (firings b before) level.links lines)

      goes : (x : Result (List (List T)) F) → ((outputs : List (List T)) → RunsFrom level (by_function fire) sources (before ++ b ∷ []) (put b outputs level.links lines) rest (computed (before ++ b ∷ []) (put b outputs level.links lines) rest)) →
          GoesOn (λ outputs. RunsFrom level (by_function fire) sources (before ++ b ∷ []) (put b outputs level.links lines) rest (elim x [ Ok o ↦ computed (before ++ b ∷ []) (put b o level.links lines) rest | Err fault ↦ Err fault ])) (elim x [ Ok o ↦ computed (before ++ b ∷ []) (put b o level.links lines) rest | Err fault ↦ Err fault ]) x
      goes (Ok outputs) later = later outputs
      goes (Err fault) later = refl

  pub ends-computed : (q : List ℕ) (delays : List (List T)) (list : List ℕ) (end : Result (Ended T) F) → IsEnd level q (computed [] delays list) end → RunEnds level q sources delays (by_function fire) list end
  ends-computed q delays list end is = record { lines = computed [] delays list; runs = runs-computed [] delays list; is_end = is }
