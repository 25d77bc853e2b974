-- The traces of the firings of actors, one actor after the other.
use Rattle.std.proofs.Common.{◌≡◌, ℕ, zero, suc, ◌+◌, ◌<◌, ◌≤◌, ◌++◌, List, [], ◌∷◌, length, get_or, refl, sym, ap, ◌∙◌, arith, ⊎_elim}
use Rattle.std.specs.Prelude.{Vec}
use Rattle.std.specs.Global.{Global}
use Rattle.std.proofs.lemmas.Bool.{cases_lt}
use Rattle.std.proofs.lemmas.List.{get_or_append_left, get_or_push, length-map, length_push, map_push}
use Rattle.job_rules.specs.Items.{trace_of}
use Rattle.job_rules.specs.Words.{Answer}
use Rattle.nested_jobs.specs.Rules.{Values}
use Rattle.pisdf_meaning.specs.Running.{traces_below}
use Rattle.pisdf_meaning.specs.declared.outcome.TraceRow.{TraceRow}
use Rattle.sdf_level.specs.Lists.{lists_of}
use Rattle.sdf_level.specs.declared.node.Node.{Node}
use Rattle.audit_job.specs.Ending.{traces_at, traces_of}
use Rattle.audit_job.specs.Outlets.{ActorPlaces}

below_same : (f g : ℕ → List TraceRow) (n : ℕ) → ((k : ℕ) → k < n → f k ≡ g k) → traces_below f n ≡ traces_below g n
below_same f g zero each = refl
below_same f g (suc n) each = (λ i. below_same f g n (λ k below. each k (omega arith)) i ++ each n (omega arith) i)

-- of the firings that stand at these places
pub traces_same : (nodes : List Node) (v : Values Answer) (a count : ℕ) (places : List ℕ) → ActorPlaces nodes a count places → traces_below (traces_of places v) (length places) ≡ traces_below (traces_at nodes v a) count
traces_same nodes v a count places are =
    ap (traces_below (traces_of places v)) are.many
    ∙ below_same (traces_of places v) (traces_at nodes v a) count (λ k below. ap (λ p. trace_of (v p)) (are.each k below))

module _ (X : ℕ → List TraceRow) (all all' : List (Vec TraceRow Global)) (row : Vec TraceRow Global) (a : ℕ) (many : length all ≡ a) (pushed : all' ≡ all ++ row ∷ []) where
  pub one_longer : length all' ≡ a + 1
  one_longer = let long = ap (λ (l : List (Vec TraceRow Global)). length l) pushed ∙ length_push all row in omega arith

  lists_are : lists_of all' ≡ lists_of all ++ row.items ∷ []
  lists_are = ap lists_of pushed ∙ map_push (λ (v : Vec TraceRow Global). v.items) all row

  pub each_row : ((b : ℕ) → b < a → get_or (lists_of all) b [] ≡ X b) → row.items ≡ X a → (b : ℕ) → b < a + 1 → get_or (lists_of all') b [] ≡ X b
  each_row were is b below =
      let long = length-map all (λ (v : Vec TraceRow Global). v.items) in
      ap (λ l. get_or l b []) lists_are
      ∙ ⊎_elim
      (λ (low : b < a). get_or_append_left (lists_of all) (row.items ∷ []) [] b (omega arith) ∙ were b low)
      (λ (high : a ≤ b).
      let here : b ≡ a = omega arith in
      let seam : length (lists_of all) ≡ b = omega arith in
      get_or_push (lists_of all) row.items [] b seam ∙ is ∙ ap X (sym here))
      (cases_lt b a)
