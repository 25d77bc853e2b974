-- What a job offers a worker first.
use Rattle.std.specs.Prelude.{◌≡◌, ◌≢◌, ℕ, ◌-◌, ◌<◌, ◌==◌, nat_lt, not, Bool, false, true, List, Option, Some, None, length, slice_index, if◌then◌else◌}
use Rattle.std.specs.Arc.{arc_value}
use Rattle.board_rules.specs.Asking as board
use Rattle.board_rules.specs.Asking.{goes_first}
use Rattle.board_rules.specs.Offers.{calls}
use Rattle.job_rules.specs.Items.{rule}
use Rattle.job_rules.specs.Words as words
use Rattle.nested_jobs.specs.Marks.{Free}
use Rattle.nested_jobs.specs.Rules.{Task}
use Rattle.pisdf_meaning.specs.declared.firing.Firing.{Firing}
use Rattle.pisdf_model.specs.declared.graph.Graph.{Graph}
use Rattle.std.specs.declared.cmp.Ordering.{Ordering}
use Rattle.std.specs.declared.cmp.Ordering.TheVariants.{Less, Equal, Greater}
use Rattle.audit_job.specs.Marks.{answers, mark_at}
use Rattle.audit_job.specs.declared.job.Job.{Job}
use Rattle.audit_job.specs.declared.job.Nodes.{Nodes}
use Rattle.audit_job.specs.declared.offering.Offer.{Offer}

-- how two stand, of which the first goes before the second, or the second before the first
abbrev pub ordering_by : (first second : Bool) → Ordering
ordering_by first second = if first then Less else (if second then Greater else Equal)

-- an offer as the rules of boards have it
abbrev pub offer_of : Offer → board.Offer
offer_of offer = record { item = offer.item; away = offer.away; urgency = offer.urgency }

-- an item that is at home everywhere, and goes before every node
abbrev pub early_offer : ℕ → board.Offer
early_offer i = record { item = i; away = false; urgency = None }

-- where node number n stands, which is this item, for a worker
abbrev pub node_offer : Nodes → ℕ → ℕ → ℕ → board.Offer
node_offer nodes w n i = record { item = i; away = not (slice_index (arc_value nodes.compiled).mapping.home n == w); urgency = Some (slice_index (arc_value nodes.compiled).mapping.priority n) }

-- where item number i stands for a worker, the compilation having this number
abbrev pub offer_by : Option Nodes → ℕ → ℕ → ℕ → board.Offer
offer_by None base w i = early_offer i
offer_by (Some nodes) base w i = if nat_lt base i then node_offer nodes w (i - base - 1) i else early_offer i

abbrev pub offer_at : Job → ℕ → ℕ → board.Offer
offer_at job w i = offer_by job.nodes (length job.places.items) w i

-- the item is free, and its task is work, or a call
pub record IsOfferedIn (graphs : List Graph) (opens : Bool) (job : Job) (i : ℕ) : Type 0 where
  pub free : mark_at job.marks.items i ≡ Free
  pub task : Task Firing words.Work
  pub has_task : rule graphs job.firing (answers job.marks.items) i ≡ Some task
  pub kind : calls task ≡ opens

-- of the first n of these items, those of which this holds, and which stand so, the item goes first
pub record GoesFirst (P : ℕ → Type 0) (at : ℕ → board.Offer) (items : List ℕ) (n : ℕ) (offer : board.Offer) : Type 0 where
  pub holds : P offer.item
  pub is : offer ≡ at offer.item
  pub first : (k : ℕ) → k < n → P (slice_index items k) → slice_index items k ≢ offer.item → goes_first offer (at (slice_index items k)) ≡ true

-- it goes first, or none is there
abbrev pub IsFirstOf : (ℕ → Type 0) → (ℕ → board.Offer) → List ℕ → ℕ → Option Offer → Type 0
IsFirstOf P at items n None = (k : ℕ) → k < n → ¬ (P (slice_index items k))
IsFirstOf P at items n (Some offer) = GoesFirst P at items n (offer_of offer)

-- whether an offer goes before what was found before, if anything was
abbrev pub leads : board.Offer → Option Offer → Bool
leads next None = true
leads next (Some best) = goes_first next (offer_of best)
