-- What a job offers, in the words of the rules of boards.
use Rattle.std.proofs.Common.{◌≡◌, ℕ, ◌-◌, ◌<◌, ◌≤◌, ◌==◌, nat_lt, not, Bool, true, false, length, Option, Some, None, refl, sym, ap, ◌∙◌, subst, arith, ⊎_elim, if◌then◌else◌}
use Rattle.std.specs.Prelude.{slice_index}
use Rattle.std.specs.Arc.{arc_value}
use Rattle.std.specs.Option.{option_map}
use Rattle.std.proofs.lemmas.Bool.{cases_lt, le-ltb, lt-ltb}
use Rattle.std.proofs.lemmas.List.{get_or_default}
use Rattle.board_rules.specs.Asking as board
use Rattle.board_rules.specs.Asking.{IsAskedFor, IsHomed, IsOffered, goes_first, standing_of}
use Rattle.board_rules.specs.Keys.{Key}
use Rattle.board_rules.specs.Picks.{ItemStands, Standing}
use Rattle.job_rules.specs.Items.{Prepared, compile_number, graph_of, node_base, prepared_in}
use Rattle.job_rules.specs.Words as words
use Rattle.nested_jobs.specs.Marks.{Marks}
use Rattle.nested_jobs.specs.Rules.{Place}
use Rattle.pisdf_meaning.specs.declared.firing.Firing.{Firing}
use Rattle.pisdf_model.specs.declared.graph.Graph.{Graph}
use Rattle.audit_job.specs.Jobs.{IsJob, IsPrepared, row_of}
use Rattle.audit_job.specs.Marks.{answers}
use Rattle.audit_job.specs.Offering.{IsFirstOf, IsOfferedIn, early_offer, node_offer, offer_at, offer_by, offer_of}
use Rattle.audit_job.specs.declared.job.Job.{Job}
use Rattle.audit_job.specs.declared.job.Nodes.{Nodes}
use Rattle.audit_job.specs.declared.offering.Offer.{Offer}
use Rattle.audit_job.proofs.Answered.{unprepared}
use Rattle.job_preparing.proofs.Compiled as compiled
use Rattle.audit_job.proofs.ListedItems.{listed}

one_item : (b : Bool) (nodes : Nodes) (w n i : ℕ) → (if b then node_offer nodes w n i else early_offer i).item ≡ i
one_item true nodes w n i = refl
one_item false nodes w n i = refl

item_by : (o : Option Nodes) (base w i : ℕ) → (offer_by o base w i).item ≡ i
item_by None base w i = refl
item_by (Some nodes) base w i = one_item (nat_lt base i) nodes w (i - base - 1) i

-- an offer is of its item
pub item_is : (job : Job) (w i : ℕ) → (offer_at job w i).item ≡ i
item_is job w i = item_by job.nodes (length job.places.items) w i

module _ (key : Key) (m : Marks Firing words.Answer) (place : Place) (job : Job) (is : IsJob key.graphs.graphs key.workers job) (w : ℕ) (opens : Bool) where
  abbrev g : Graph
  g = graph_of key.graphs.graphs job.firing

  -- an offer with such a standing
  abbrev stand : board.Offer → Standing
  stand offer = standing_of key m opens (row_of place job) offer

  homed_by : (o : Option Nodes) (base i : ℕ) → base ≡ compile_number g → IsPrepared key.graphs.graphs key.workers job.firing (answers job.marks.items) o →
      ItemStands key g job.firing (prepared_in g (answers job.marks.items)) w i (stand (offer_by o base w i))
  homed_by None base i counted so =
      let P : Option Prepared → Type 0 = λ o. ItemStands key g job.firing o w i (stand (early_offer i)) in
      subst P (sym (unprepared g (answers job.marks.items) so)) (refl, refl)
  homed_by (Some nodes) base i counted so = ⊎_elim
      (λ (node : base < i).
      let n = i - base - 1 in
      let off : nat_lt i (node_base g) ≡ false = le-ltb i (node_base g) (omega arith) in
      let same : n ≡ i - node_base g = omega arith in
      let P : Option Prepared → Type 0 = λ o. ItemStands key g job.firing o w i (stand (offer_by (Some nodes) base w i)) in
      subst P (sym so.0) (rw (off, lt-ltb base i node) (record {
        mapping = (arc_value nodes.compiled).mapping;
        mapped = compiled.mapped_so key.graphs.graphs key.workers job.firing nodes.left.items (arc_value nodes.compiled) nodes.set nodes.values so.1.made.ready;
        away_is = ap (λ k. not (slice_index (arc_value nodes.compiled).mapping.home k == w)) same;
        urgency_is = ap (λ k. Some (slice_index (arc_value nodes.compiled).mapping.priority k)) same;
      })))
      (λ (early : i ≤ base).
      let on : nat_lt i (node_base g) ≡ true = lt-ltb i (node_base g) (omega arith) in
      let P : Option Prepared → Type 0 = λ o. ItemStands key g job.firing o w i (stand (offer_by (Some nodes) base w i)) in
      subst P (sym so.0) (rw (on, le-ltb base i early) (refl, refl)))
      (cases_lt base i)

  -- an offer stands as the list schedule has it
  pub homed : (i : ℕ) → IsHomed key m w opens (row_of place job) (offer_at job w i)
  homed i =
      let at = homed_by job.nodes (length job.places.items) i is.places_are.one_each is.prepared in
      subst (λ (k : ℕ). ItemStands key g job.firing (prepared_in g (answers job.marks.items)) w k (stand (offer_at job w i))) (sym (item_is job w i)) at

  in_job : (i : ℕ) → IsOffered key opens (row_of place job) i → IsOfferedIn key.graphs.graphs opens job i
  in_job i offered = record { free = offered.free; task = offered.task; has_task = offered.has_task; kind = offered.kind }

  in_row : (i : ℕ) → IsOfferedIn key.graphs.graphs opens job i → IsOffered key opens (row_of place job) i
  in_row i offered = record { free = offered.free; task = offered.task; has_task = offered.has_task; kind = offered.kind }

  -- an item that is offered is a candidate
  place_of : (i : ℕ) → IsOffered key opens (row_of place job) i → (k : ℕ) × (k < length job.candidates.items) × (slice_index job.candidates.items k ≡ i)
  place_of i offered =
      let at = listed key.graphs.graphs key.workers job is i offered.free offered.task offered.has_task in
      (at.0, at.1, get_or_default job.candidates.items at.0 0 i at.1 ∙ at.2)

  pub asked_so : (o : Option Offer) → IsFirstOf (IsOfferedIn key.graphs.graphs opens job) (offer_at job w) job.candidates.items (length job.candidates.items) o → IsAskedFor key m w opens (row_of place job) (option_map offer_of o)
  asked_so None none = λ i offered.
      let at = place_of i offered in
      none at.0 at.1 (subst (λ (j : ℕ). IsOfferedIn key.graphs.graphs opens job j) (sym at.2) (in_job i offered))
  asked_so (Some offer) best = record {
    offered = in_row (offer_of offer).item best.holds;
    homed = subst (λ (x : board.Offer). IsHomed key m w opens (row_of place job) x) (sym best.is) (homed (offer_of offer).item);
    first = λ j other differs.
        let at = place_of j other in
        let goes = best.first at.0 at.1 (subst (λ (i : ℕ). IsOfferedIn key.graphs.graphs opens job i) (sym at.2) (in_job j other)) (λ same. differs (sym at.2 ∙ same)) in
        (offer_at job w j, item_is job w j, homed j, subst (λ (i : ℕ). goes_first (offer_of offer) (offer_at job w i) ≡ true) at.2 goes);
  }
