-- The rows of a board are asked.
use Rattle.std.proofs.Common.{Bool, Err, List, None, Ok, Some, [], ap, false, inl, inr, length, refl, subst, suc, sym, true, ℕ, ◌*◌, ◌↔◌, ◌∙◌, ◌∷◌, ◌≡◌, ◌≢◌, ◌≤◌}
use Rattle.pisdf_model.specs.declared.graph.Graph.{Graph}
use Rattle.pisdf_meaning.specs.Configuring.{Configuration, configurations}
use Rattle.pisdf_meaning.specs.Endings.{End}
use Rattle.pisdf_meaning.specs.Meaning.{Means}
use Rattle.pisdf_meaning.specs.declared.firing.Firing.{Firing}
use Rattle.nested_jobs.specs.Rules.{Place, Task, Values, Work}
use Rattle.nested_jobs.specs.Marks.{Done, Free, Mark, Marks, values}
use Rattle.nested_jobs.specs.Pick.{AreAllOpen, Distinct, NotIn}
use Rattle.nested_jobs.specs.Steps.{IsEnabled}
use Rattle.nested_jobs.specs.Tables.{HasRow, IsRow, StandsFor, answers_in}
use Rattle.nested_jobs.proofs.Ending.{done_ends, ended_done}
use Rattle.nested_jobs.proofs.Places.{one_open}
use Rattle.nested_jobs.proofs.Tabling.{answers_are}
use Rattle.job_rules.proofs.Lawfully.{config_has_task, configured}
use Rattle.job_rules.specs.Items.{compile_rule, graph_of, left_from, prepared_in, rule, rule_from}
use Rattle.job_rules.specs.Meant.{rank}
use Rattle.job_rules.specs.Words as words
use Rattle.job_rules.specs.Words.{Answer, answer_of}
use Rattle.pisdf_model.specs.InterfaceWires.{is_configuration}
use Rattle.std.specs.List.{AllByRecursion}
use Rattle.board_rules.specs.Keys.{IsKey, Key, rules, top_job}
use Rattle.board_rules.specs.Entries.{Step}
use Rattle.board_rules.specs.Legal.{AreLegal, HasEnded, TellsOneThread, state_after}
use Rattle.board_rules.specs.Board.{OpenJobs}
use Rattle.board_rules.specs.AskingLaws.{AreKeys}
use Rattle.board_rules.specs.Asking.{GivesWay, IsFirstIn, IsFirstOfAll, IsHomed, IsOffered, JobRow, NoRowOffers, Offer, graph_in, standing_of}
use Rattle.board_rules.specs.Offers.{IsBest, IsBestIn, NoneOffers, Offers, Yields, calls}
use Rattle.board_rules.specs.Picks.{ItemStands, Standing, goes_before}
use Rattle.board_rules.proofs.Asking.{offers_once}
use Rattle.board_rules.proofs.Known.{BoardLaws, Known, keeps}
use Rattle.board_rules.proofs.Ordering.{in_one_job}
use Rattle.board_rules.proofs.Standing.{Way, way_of}

module _ (key : Key) (is : IsKey key) (laws : BoardLaws key) (m : Marks Firing Answer) (known : Known key m) where
  module _ (table : OpenJobs) (stands : StandsFor table m) where
    module _ (k : ℕ) (row : JobRow) (here : table k ≡ Some row) where
      own : IsRow m row
      own = stands.rows k row here

      values_are : values m row.place ≡ answers_in row
      values_are = answers_are table m stands k row here

      -- what a row offers, the job at its place offers
      offers : (w : ℕ) (opens : Bool) (offer : Offer) → IsOffered key opens row offer.item → IsHomed key m w opens row offer → Offers key m w opens row.place offer.item (standing_of key m opens row offer)
      offers w opens offer offered homed =
          let P : Values Answer → Type 0 = λ v. ItemStands key (graph_in key row) row.job (prepared_in (graph_in key row) v) w offer.item (standing_of key m opens row offer) in
          record {
            job = row.job;
            is_open = own.is_open;
            free = own.items offer.item ∙ offered.free;
            task = offered.task;
            has_task = ap (λ (v : Values Answer). rule key.graphs.graphs row.job v offer.item) values_are ∙ offered.has_task;
            kind = offered.kind;
            opens_is = refl;
            depth_is = refl;
            path_is = refl;
            number_is = refl;
            within_is = refl;
            at_home = subst P (sym values_are) homed;
          }

      -- and the other way round
      offered_by : (w : ℕ) (opens : Bool) (i : ℕ) (s : Standing) → Offers key m w opens row.place i s → IsOffered key opens row i
      offered_by w opens i s offer =
          let job : offer.job ≡ row.job = one_open m row.place offer.job row.job offer.is_open own.is_open in
          let P : Firing → Type 0 = λ f. rule key.graphs.graphs f (values m row.place) i ≡ Some offer.task in
          record {
            free = sym (own.items i) ∙ offer.free;
            task = offer.task;
            has_task = ap (λ (v : Values Answer). rule key.graphs.graphs row.job v i) (sym values_are) ∙ subst P job offer.has_task;
            kind = offer.kind;
          }

      best_in : (w : ℕ) (opens : Bool) (offer : Offer) → IsFirstIn key m w opens row offer → IsBestIn key m w opens row.place offer.item (standing_of key m opens row offer)
      best_in w opens offer first = record {
        offered = offers w opens offer first.offered first.homed;
        first = λ l u there apart.
            let other = first.first l (offered_by w opens l u there) apart in
            let again : IsOffered key opens row other.0.item = subst (IsOffered key opens row) (sym other.1) (offered_by w opens l u there) in
            let one = offers w opens other.0 again other.2 in
            let moved : Offers key m w opens row.place l (standing_of key m opens row other.0) = subst (λ (z : ℕ). Offers key m w opens row.place z (standing_of key m opens row other.0)) other.1 one in
            let same : standing_of key m opens row other.0 ≡ u = offers_once key is laws m known w opens row.place l (standing_of key m opens row other.0) u moved there in
            subst (λ (z : Standing). goes_before (standing_of key m opens row offer) z ≡ true) same
            (in_one_job opens (length row.place) offer.away other.0.away offer.urgency other.0.urgency (standing_of key m opens row offer).path offer.item other.0.item other.3);
      }

      none_in : (w : ℕ) (opens : Bool) → ((i : ℕ) → IsOffered key opens row i → ⊥) → (i : ℕ) (s : Standing) → Offers key m w opens row.place i s → ⊥
      none_in w opens none i s offer = none i (offered_by w opens i s offer)

    -- the first of all rows is the best of all jobs
    pub best_of_all : (w : ℕ) (opens : Bool) (k : ℕ) (row : JobRow) (offer : Offer) → IsFirstOfAll key m w opens table k row offer → IsBest key m w opens row.place offer.item (standing_of key m opens row offer)
    best_of_all w opens k row offer all = record {
      best = best_in k row all.here w opens offer all.first;
      others = λ r c o away. yields (stands.whole r c o) away;
    }
      where
        yields : {r : Place} → HasRow table r → r ≢ row.place → Yields key m w opens row.place (standing_of key m opens row offer) r
        yields {r} has away =
            let apart : has.key ≢ k = λ e. let same : has.row ≡ row = let f : Some has.row ≡ Some row = sym has.here ∙ (ap table e ∙ all.here) in cc in away (sym has.place_is ∙ ap (λ (x : JobRow). x.place) same) in
            subst (λ (z : Place). Yields key m w opens row.place (standing_of key m opens row offer) z) has.place_is (so (all.others has.key has.row has.here apart))
          where
            so : GivesWay key m w opens row offer has.row → Yields key m w opens row.place (standing_of key m opens row offer) has.row.place
            so (inl lower) = inl lower
            so (inr (inl none)) = inr (inl (none_in has.key has.row has.here w opens none))
            so (inr (inr there)) = inr (inr (there.0.item, standing_of key m opens has.row there.0, best_in has.key has.row has.here w opens there.0 there.1, there.2))

    pub none_offers : (w : ℕ) (opens : Bool) → NoRowOffers key opens table → NoneOffers key m w opens
    none_offers w opens none q i s offer =
        let has = stands.whole q offer.job offer.is_open in
        none_in has.key has.row has.here w opens (none has.key has.row has.here) i s (subst (λ (z : Place). Offers key m w opens z i s) (sym has.place_is) offer)

    pub nothing_enabled : NoRowOffers key false table → NoRowOffers key true table → (a : Place) → IsEnabled (rules key) m a → ⊥
    nothing_enabled no_work no_call a on = go (calls t.ready.task) refl
      where
        t : Way key is laws m known a
        t = way_of key is laws m known a on

        has : HasRow table t.place
        has = stands.whole t.place t.ready.in_job.job t.ready.in_job.is_open

        offered : (opens : Bool) → calls t.ready.task ≡ opens → IsOffered key opens has.row t.item
        offered opens kind =
            let row_own = stands.rows has.key has.row has.here in
            let free : m (t.item ∷ has.row.place) ≡ Free = ap (λ (z : Place). m (t.item ∷ z)) has.place_is ∙ t.ready.free in
            let job : t.ready.in_job.job ≡ has.row.job = one_open m t.place t.ready.in_job.job has.row.job t.ready.in_job.is_open (ap m (sym has.place_is) ∙ row_own.is_open) in
            let P : Firing → Type 0 = λ f. rule key.graphs.graphs f (values m t.place) t.item ≡ Some t.ready.task in
            let Q : Place → Type 0 = λ z. rule key.graphs.graphs has.row.job (values m z) t.item ≡ Some t.ready.task in
            let task = subst Q (sym has.place_is) (subst P job t.ready.in_job.has_task) in
            record {
              free = sym (row_own.items t.item) ∙ free;
              task = t.ready.task;
              has_task = ap (λ (v : Values Answer). rule key.graphs.graphs has.row.job v t.item) (sym (values_are has.key has.row has.here)) ∙ task;
              kind = kind;
            }

        go : (opens : Bool) → calls t.ready.task ≡ opens → ⊥
        go true kind = no_call has.key has.row has.here t.item (offered true kind)
        go false kind = no_work has.key has.row has.here t.item (offered false kind)

-- ---- the first item of a job

module _ (graphs : List Graph) (g : Graph) (firing : Firing) where
  abbrev none : Values Answer
  none i = None

  begins_from : (cs : List Configuration) → configurations g ≡ cs → AllByRecursion (λ (c : Configuration). is_configuration c.body ≡ true) cs → (t : Task Firing words.Work) × (rule_from graphs g firing none cs 0 ≡ Some t)
  begins_from [] e each = (Work (words.Compiles firing []), ap (λ (l : List Configuration). compile_rule firing (left_from none 0 l)) e)
  begins_from (c ∷ cs) e each = config_has_task graphs g firing c c.body each.0

pub job_begins : (key : Key) (job : Firing) → (t : Task Firing words.Work) × (rule key.graphs.graphs job (λ i. None) 0 ≡ Some t)
job_begins key job = let g = graph_of key.graphs.graphs job in begins_from key.graphs.graphs g job (configurations g) refl (configured 0 0 g.actors)

-- ---- the end

module _ (key : Key) (is : IsKey key) (laws : BoardLaws key) (taken : List Step) (legal : AreLegal key taken) where
  pub ends_at_top : HasEnded key taken ↔ ((answer : Answer) × ((state_after key taken).marks [] ≡ Done answer))
  ends_at_top =
      let h = keeps key is laws taken legal in (
        λ ended. ended_done (rules key) (rank key.graphs.graphs) laws.lawful (top_job key) key.workers (state_after key taken) h ended,
        λ t. done_ends (rules key) (rank key.graphs.graphs) laws.lawful (top_job key) key.workers (state_after key taken) h t.0 t.1,
      )

  answer_once : (a b : End) → answer_of a ≡ answer_of b → a ≡ b
  answer_once (Ok given) (Ok other) same = let e : given ≡ other = cc in ap Ok e
  answer_once (Ok given) (Err refusal) same = absurd (cc)
  answer_once (Err refusal) (Ok given) same = absurd (cc)
  answer_once (Err refusal) (Err other) same = let e : refusal ≡ other = cc in ap Err e

  pub end_is_meant : (end : End) → (HasEnded key taken → TellsOneThread key taken) → (state_after key taken).marks [] ≡ Done (answer_of end) → Means key.graphs.graphs (top_job key) end
  end_is_meant end tells done =
      let told = tells (ends_at_top.1 (answer_of end, done)) in
      let answers : answer_of told.end ≡ answer_of end = let e : ◌≡◌ {A = Mark Firing Answer} (Done (answer_of told.end)) (Done (answer_of end)) = sym told.done ∙ done in cc in
      subst (Means key.graphs.graphs (top_job key)) (answer_once told.end end answers) told.means

-- ---- how many rows there are

module _ (key : Key) (table : OpenJobs) (m : Marks Firing Answer) (stands : StandsFor table m) where
  places : (keys : List ℕ) → AreKeys table keys → List Place
  places [] are = []
  places (k ∷ keys) are = are.0.0.place ∷ places keys are.2

  places_many : (keys : List ℕ) (are : AreKeys table keys) → length (places keys are) ≡ length keys
  unfolding places
  places_many [] are = refl
  places_many (k ∷ keys) are = ap suc (places_many keys are.2)

  place_apart : (k : ℕ) (row : JobRow) (keys : List ℕ) → table k ≡ Some row → AllByRecursion (λ (l : ℕ). k ≢ l) keys → (are : AreKeys table keys) → NotIn row.place (places keys are)
  unfolding places
  place_apart k row [] here apart are = tt
  place_apart k row (l ∷ keys) here apart are = ((λ e. apart.0 (stands.apart k l row are.0.0 here are.0.1 e)), place_apart k row keys here apart.1 are.2)

  places_apart : (keys : List ℕ) (are : AreKeys table keys) → Distinct (places keys are)
  unfolding places
  places_apart [] are = tt
  places_apart (k ∷ keys) are = (place_apart k are.0.0 keys are.0.1 are.1 are.2, places_apart keys are.2)

  places_open : (keys : List ℕ) (are : AreKeys table keys) → AreAllOpen m (places keys are)
  unfolding places
  places_open [] are = tt
  places_open (k ∷ keys) are = ((are.0.0.job, (stands.rows k are.0.0 are.0.1).is_open), places_open keys are.2)

  pub rows_few : (keys : List ℕ) → ((ps : List Place) → Distinct ps → AreAllOpen m ps → length ps ≤ 8 * key.workers) → AreKeys table keys → length keys ≤ 8 * key.workers
  rows_few keys few are =
      let most = few (places keys are) (places_apart keys are) (places_open keys are) in
      subst (λ (n : ℕ). n ≤ 8 * key.workers) (places_many keys are) most
