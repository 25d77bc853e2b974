-- What a job offers first is what boards ask of its row.
use Rattle.std.proofs.Common.{◌≡◌, ℕ, Bool, true, false, nat_lt, Option, Some, None, List, refl, sym, ◌∙◌, subst}
use Rattle.board_rules.specs.Asking as board
use Rattle.board_rules.specs.Asking.{IsFirstIn, IsHomed, IsOffered, JobRow}
use Rattle.board_rules.specs.Keys.{Key}
use Rattle.board_rules.specs.Offers.{calls}
use Rattle.board_rules.specs.Picks as picks
use Rattle.board_rules.specs.Picks.{Standing}
use Rattle.job_rules.specs.Items.{Prepared, graph_of, node_base, prepared_in, rule}
use Rattle.job_rules.specs.Words as words
use Rattle.job_rules.specs.Words.{Answer}
use Rattle.nested_jobs.specs.Marks.{Marks}
use Rattle.nested_jobs.specs.Rules.{Call, Task, Work}
use Rattle.graph_firing.specs.Offers as job
use Rattle.graph_firing.specs.Offers.{IsFirst, IsPick}
use Rattle.graph_firing.specs.View.{answered}
use Rattle.graph_firing.specs.declared.offer.Offer.{Offer}
use Rattle.pisdf_meaning.specs.declared.firing.Firing.{Firing}
use Rattle.pisdf_model.specs.declared.graph.Graph.{Graph}
use Rattle.pisdf_model.specs.declared.graph.Graphs.{Graphs}
use Rattle.firing_board.specs.Table.Asked.{offer_of}
use Rattle.firing_board.specs.Table.AskedRows.{IsOfferedAs}
use Rattle.firing_board.specs.Table.View.{job_row}
use Rattle.firing_board.specs.declared.table.row.Row.{Row}

-- ---- the order

before_same : (a b : board.Offer) → job.goes_first a.away a.urgency a.item b.away b.urgency b.item ≡ board.goes_first a b
before_same a b = refl

module _ (key : Key) (m : Marks Firing Answer) (w : ℕ) (row : Row) (graphs_are : row.job.graphs ≡ key.graphs) (workers_are : row.job.workers ≡ key.workers) where
  abbrev G : List Graph
  G = key.graphs.graphs

  abbrev g : Graph
  g = graph_of G row.job.firing

  -- ---- where an item stands

  stands_so : (o : Option Prepared) (i : ℕ) (s : Standing) → job.ItemStands G key.workers g row.job.firing o w i s.away s.urgency → picks.ItemStands key g row.job.firing o w i s
  stands_so None i s stands = stands
  stands_so (Some p) i s stands = go (nat_lt i (node_base g)) stands
    where
      go : (b : Bool) → job.StandsAsNode G key.workers g row.job.firing p w i s.away s.urgency b → picks.StandsAsNode key g row.job.firing p w i s b
      go true first = first
      go false node = record { mapping = node.mapping; mapped = node.mapped; away_is = node.away_is; urgency_is = node.urgency_is }

  homed : (calls : Bool) (offer : board.Offer) → job.Stands row.job w offer.item offer.away offer.urgency → IsHomed key m w calls (job_row row) offer
  homed calls offer stands =
      let P : Graphs → Type 0 = λ gs. job.ItemStands gs.graphs row.job.workers (graph_of gs.graphs row.job.firing) row.job.firing (prepared_in (graph_of gs.graphs row.job.firing) (answered row.job)) w offer.item offer.away offer.urgency in
      let Q : ℕ → Type 0 = λ n. job.ItemStands G n g row.job.firing (prepared_in g (answered row.job)) w offer.item offer.away offer.urgency in
      stands_so (prepared_in g (answered row.job)) offer.item (board.standing_of key m calls (job_row row) offer) (subst Q workers_are (subst P graphs_are stands))

  -- ---- what is offered

  abbrev TaskIs : Graphs → ℕ → Task Firing words.Work → Type 0
  TaskIs gs i t = rule gs.graphs row.job.firing (answered row.job) i ≡ Some t

  offered : (opens : Bool) (i : ℕ) → IsOfferedAs opens row.job i → IsOffered key opens (job_row row) i
  offered false i is = record { free = is.free; task = Work is.work; has_task = subst (λ (gs : Graphs). TaskIs gs i (Work is.work)) graphs_are is.task_is; kind = refl }
  offered true i is = record { free = is.free; task = Call is.job; has_task = subst (λ (gs : Graphs). TaskIs gs i (Call is.job)) graphs_are is.task_is; kind = refl }

  as_work : (i : ℕ) (t : Task Firing words.Work) → calls t ≡ false → TaskIs key.graphs i t → (work : words.Work) × TaskIs row.job.graphs i (Work work)
  as_work i (Work work) kind is = (work, subst (λ (gs : Graphs). TaskIs gs i (Work work)) (sym graphs_are) is)
  as_work i (Call d) kind is = absurd (cc)

  as_call : (i : ℕ) (t : Task Firing words.Work) → calls t ≡ true → TaskIs key.graphs i t → (d : Firing) × TaskIs row.job.graphs i (Call d)
  as_call i (Call d) kind is = (d, subst (λ (gs : Graphs). TaskIs gs i (Call d)) (sym graphs_are) is)
  as_call i (Work work) kind is = absurd (cc)

  asked_as : (opens : Bool) (i : ℕ) → IsOffered key opens (job_row row) i → IsOfferedAs opens row.job i
  asked_as false i is = let t = as_work i is.task is.kind is.has_task in record { free = is.free; work = t.0; task_is = t.1 }
  asked_as true i is = let t = as_call i is.task is.kind is.has_task in record { free = is.free; job = t.0; task_is = t.1 }

  -- ---- the first

  pub none_offered : (opens : Bool) → IsPick (IsOfferedAs opens row.job) row.job w None → (i : ℕ) → ¬ (IsOffered key opens (job_row row) i)
  none_offered opens none i is = none i (asked_as opens i is)

  pub first_offered : (opens : Bool) (offer : Offer) → IsFirst (IsOfferedAs opens row.job) row.job w offer → IsFirstIn key m w opens (job_row row) (offer_of offer)
  first_offered opens offer is = record {
    offered = offered opens offer.item is.offered;
    homed = homed opens (offer_of offer) is.stands;
    first = λ j other differs.
        let after = is.first j (asked_as opens j other) differs in
        let rest : board.Offer = record { item = j; away = after.away; urgency = after.urgency } in
        (rest, refl, homed opens rest after.stands, sym (before_same (offer_of offer) rest) ∙ after.before);
  }
