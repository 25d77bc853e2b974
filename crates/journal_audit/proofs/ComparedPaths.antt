-- The order of two paths of one length.
use Rattle.std.proofs.Common.{◌≡◌, ℕ, ◌<◌, List, [], ◌∷◌, length, drop, Option, refl, sym, ◌∙◌, arith}
use Rattle.std.specs.Ordering.{nat_cmp, ordering_then}
use Rattle.std.specs.declared.cmp.Ordering.{Ordering}
use Rattle.std.specs.declared.cmp.Ordering.TheVariants.{Equal}
use Rattle.job_rules.specs.Words.{Answer}
use Rattle.nested_jobs.specs.Marks.{Marks}
use Rattle.nested_jobs.specs.Rules.{Place}
use Rattle.pisdf_model.specs.declared.graph.Graphs.{Graphs}
use Rattle.pisdf_meaning.specs.declared.firing.Firing.{Firing}
use Rattle.board_rules.specs.Keys.{Key}
use Rattle.board_rules.specs.Picks.{is_lesser_path, steps_to}
use Rattle.audit_job.specs.Offering.{ordering_by}
use Rattle.journal_audit.specs.Standing.{IsOpenAt, StandsSo, last_step}
use Rattle.journal_audit.specs.declared.table.Row.{Row}
use Rattle.journal_audit.proofs.AskedOrder.{paths_more}
use Rattle.journal_audit.proofs.LastSteps.{AllLawful, open_round, path_long, path_more}

abbrev pub paths_order : Key → Marks Firing Answer → Place → Place → Ordering
paths_order key m one other = ordering_by (is_lesser_path (steps_to key m one) (steps_to key m other)) (is_lesser_path (steps_to key m other) (steps_to key m one))

-- paths of no step are one
pub no_steps : (key : Key) (m : Marks Firing Answer) (one other : Place) → length one ≡ 0 → length other ≡ 0 → Equal ≡ paths_order key m one other
no_steps key m [] [] a b = refl
no_steps key m [] (y ∷ ys) a b = absurd (omega arith)
no_steps key m (x ∷ xs) other a b = absurd (omega arith)

module _ (law : AllLawful) (graphs : Graphs) (rows : List (Option Row)) (key : Key) (m : Marks Firing Answer) (so : StandsSo graphs rows key m) where
  pub more_steps : (one other : Place) → length one ≡ length other → 0 < length one → IsOpenAt m one → IsOpenAt m other → (round : Ordering) → round ≡ paths_order key m (drop 1 one) (drop 1 other) → (x y : ℕ × ℕ) → x ≡ last_step key m one → y ≡ last_step key m other →
      ordering_then round (ordering_then (nat_cmp x.0 y.0) (nat_cmp x.1 y.1)) ≡ paths_order key m one other
  more_steps [] other long some opened opened' round is x y x_is y_is = absurd (omega arith)
  more_steps (i ∷ p) [] long some opened opened' round is x y x_is y_is = absurd (omega arith)
  more_steps (i ∷ p) (j ∷ q) long some opened opened' round is x y x_is y_is =
      let open_p = open_round law graphs rows key m so (i ∷ p) (omega arith) opened in
      let open_q = open_round law graphs rows key m so (j ∷ q) (omega arith) opened' in
      let one = path_more law graphs rows key m so i p open_p in
      let two = path_more law graphs rows key m so j q open_q in
      let a = path_long law graphs rows key m so p open_p in
      let b = path_long law graphs rows key m so q open_q in
      let X : ℕ × ℕ = last_step key m (i ∷ p) in
      let Y : ℕ × ℕ = last_step key m (j ∷ q) in
      let steps : ordering_then (nat_cmp x.0 y.0) (nat_cmp x.1 y.1) ≡ ordering_then (nat_cmp X.0 Y.0) (nat_cmp X.1 Y.1) = (λ t. ordering_then (nat_cmp (x_is t).0 (y_is t).0) (nat_cmp (x_is t).1 (y_is t).1)) in
      (λ t. ordering_then (is t) (steps t))
      ∙ (paths_more (steps_to key m p) (steps_to key m q) X Y (omega arith)
      ∙ (λ t. ordering_by (is_lesser_path (sym one t) (sym two t)) (is_lesser_path (sym two t) (sym one t))))
