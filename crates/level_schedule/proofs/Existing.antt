-- Each level has a schedule or a fault.
use Rattle.std.proofs.Common.{ℕ, ◌<◌, ◌≤◌, ◌⊎◌, inl, inr, ⊎_elim, List, Ok, Err, refl}
use Rattle.std.proofs.lemmas.Bool.{cases_lt}
use Rattle.sdf_level.specs.View.{LevelView}
use Rattle.sdf_level.specs.Invariants.{IsLevel}
use Rattle.sdf_level.specs.Limits.{IsWithinLimits, firing_count, firings_limit, link_count, links_limit, token_count, tokens_limit}
use Rattle.sdf_level.specs.Orders.{IsDeadlocked, IsLeft, IsTurnOrder}
use Rattle.sdf_level.specs.Repetition.{HasNoRepetition, IsRepetition}
use Rattle.sdf_level.specs.declared.turn.Turn.{Turn}
use Rattle.level_schedule.specs.Laws.{HasAnswer}
use Rattle.level_schedule.specs.Schedules.{IsFirstOver, count_of}
use Rattle.level_schedule.specs.declared.unscheduled.What.{What}
use Rattle.level_schedule.specs.declared.unscheduled.What.TheVariants.{Firings, Links, Tokens}
use Rattle.level_schedule.specs.declared.unscheduled.Unscheduled.TheVariants.{Rates, Limit, Deadlock}
use Rattle.level_schedule.proofs.Orders.{order_or_deadlock}
use Rattle.level_schedule.proofs.Repetitions.{repetition_or_none}

module _ (level : LevelView) where
  within_or_over : (q : List ℕ) → IsWithinLimits level q ⊎ ((what : What) × IsFirstOver what level q)
  within_or_over q = ⊎_elim
      (λ (over : firings_limit < firing_count q). inr (Firings, over))
      (λ (few : firing_count q ≤ firings_limit). ⊎_elim
      (λ (over : links_limit < link_count level q). inr (Links, record { firings = few; over = over }))
      (λ (short : link_count level q ≤ links_limit). ⊎_elim
      (λ (over : tokens_limit < token_count level q). inr (Tokens, record { firings = few; links = short; over = over }))
      (λ (small : token_count level q ≤ tokens_limit). inl record { firings = few; links = short; tokens = small })
      (cases_lt tokens_limit (token_count level q)))
      (cases_lt links_limit (link_count level q)))
      (cases_lt firings_limit (firing_count q))

  answer_within : (q : List ℕ) → IsRepetition level q → IsWithinLimits level q → HasAnswer level
  answer_within q is within = ⊎_elim
      (λ (found : (turns : List Turn) × IsTurnOrder level q turns). (Ok record { counts = q; order = found.0 }, record { repetition = is; within = within; order = found.1 }))
      (λ (dead : IsDeadlocked level q × ((left : List ℕ) × IsLeft level q left)). (Err (Deadlock dead.1.0), record { counts = q; repetition = is; within = within; deadlock = dead.0; left_is = dead.1.1 }))
      (order_or_deadlock level q)

  answer_with : (q : List ℕ) → IsRepetition level q → HasAnswer level
  answer_with q is = ⊎_elim
      (λ (within : IsWithinLimits level q). answer_within q is within)
      (λ (over : (what : What) × IsFirstOver what level q). (Err (Limit over.0 (count_of over.0 level q)), record { counts = q; repetition = is; over = over.1; value_is = refl }))
      (within_or_over q)

  pub has_answer : IsLevel level → HasAnswer level
  has_answer is_level = ⊎_elim
      (λ (found : (q : List ℕ) × IsRepetition level q). answer_with found.0 found.1)
      (λ (none : HasNoRepetition level). (Err Rates, none))
      (repetition_or_none level is_level)
