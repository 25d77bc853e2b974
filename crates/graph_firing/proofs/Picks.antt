-- The first item of a job is the first of those in its stage.
use Rattle.std.proofs.Common.{◌≡◌, ◌≢◌, ℕ, ◌+◌, ◌-◌, ◌<◌, ◌≤◌, ◌==◌, nat_lt, ◌⊎◌, inl, inr, ⊎_elim, Bool, true, false, not, ◌&&◌, [], length, Option, Some, None, slice_index, refl, sym, ap, ◌∙◌, subst, arith, if◌then◌else◌}
use Rattle.std.proofs.lemmas.Bool.{cases_lt, le-ltb, lt-ltb}
use Rattle.nested_jobs.specs.Marks as mark
use Rattle.job_rules.specs.Items.{Prepared, compile_number, node_base, prepared_in}
use Rattle.job_preparing.specs.View as preparing
use Rattle.job_preparing.specs.View.{ConfiguringView}
use Rattle.graph_firing.specs.Nodes.View as running
use Rattle.graph_firing.specs.Nodes.View.{RunningView}
use Rattle.one_job.specs.Pick as one
use Rattle.worker_mapping.specs.Schedule.{GoesFirst}
use Rattle.graph_firing.specs.View.{IsOfferedCall, IsOfferedWork, OpenView, answered}
use Rattle.nested_jobs.specs.Pick.{decide}
use Rattle.graph_firing.specs.Offers.{GoesBefore, IsFirst, IsPick, ItemStands, NodeStands, Stands, StandsAsNode}
use Rattle.graph_firing.specs.Invariants.{view_with}
use Rattle.graph_firing.specs.Running.{RunsFor}
use Rattle.graph_firing.specs.Stages.{IsFirstActor, IsFirstCallWaiting, IsFirstNode, IsFirstWaiting, IsNodeFirst, early_offer, node_offer, offer_before}
use Rattle.graph_firing.specs.declared.offer.Offer.{Offer}
use Rattle.graph_firing.specs.declared.stage.Stage.TheVariants.{Waiting, Nodes}
use Rattle.graph_firing.proofs.Early as early
use Rattle.graph_firing.proofs.NodeRules as nodes
use Rattle.graph_firing.proofs.Rules as rules
use Rattle.graph_firing.proofs.Offered as offered
use Rattle.graph_firing.proofs.Offered.{IsNodeOf}

-- ---- before the compilation is claimed

module _ (c : ConfiguringView) (workers worker : ℕ) (long : length c.marks ≡ compile_number (preparing.graph_in c)) where
  abbrev v : OpenView
  v = view_with c workers Waiting

  abbrev k : ℕ
  k = compile_number (preparing.graph_in c)

  unprepared : prepared_in (preparing.graph_in c) (answered v) ≡ None
  unprepared = rules.unprepared c.graphs.graphs c.firing c.marks mark.Free [] long (offered.unprepared_so c workers Waiting long refl)

  -- every item is at home, and has no priority
  stands : (i : ℕ) → Stands v worker i false None
  stands i =
      let P : Option Prepared → Type 0 = λ o. ItemStands v.graphs.graphs v.workers (preparing.graph_in c) v.firing o worker i false None in
      subst P (sym unprepared) (refl, refl)

  -- the item of the least number goes first
  least : (P : ℕ → Type 0) (n : ℕ) → P n → ((j : ℕ) → P j → j ≢ n → n < j) → IsFirst P v worker (early_offer n)
  least P n holds first = record {
    offered = holds;
    stands = stands n;
    first = λ j other differs. record { away = false; urgency = None; stands = stands j; before = lt-ltb n j (first j other differs) };
  }

  after_first : (n j : ℕ) → (j < n → ⊥) → j ≢ n → n < j
  after_first n j not_below differs = ⊎_elim
      (λ (below : n < j). below)
      (λ (past : j ≤ n). ⊎_elim (λ (less : j < n). absurd (not_below less)) (λ (more : n ≤ j). absurd (differs (omega arith))) (cases_lt j n))
      (cases_lt n j)

  actor_first : (offer : Offer) → IsFirstActor (preparing.IsOfferedWork c) offer → IsFirst (IsOfferedWork v) v worker offer
  actor_first offer is =
      let inside = offered.actor_inside c is.number _ is.offered.task_is in
      let F : Offer → Type 0 = λ o. IsFirst (IsOfferedWork v) v worker o in
      subst F (sym is.offer_is) (least (IsOfferedWork v) is.number (early.work_of c workers Waiting long is.number inside is.offered)
      (λ j other differs. ⊎_elim
      (λ (actor : preparing.IsOfferedWork c j). after_first is.number j (λ below. is.first j below actor) differs)
      (λ (compile : (j ≡ k) × preparing.IsReady c). let at = compile.0 in omega arith)
      (offered.waiting_work c workers long j other)))

  compilation_first : (offer : Offer) → ((i : ℕ) → preparing.IsOfferedWork c i → ⊥) → preparing.IsReady c → offer ≡ early_offer k → IsFirst (IsOfferedWork v) v worker offer
  compilation_first offer none ready is =
      let F : Offer → Type 0 = λ o. IsFirst (IsOfferedWork v) v worker o in
      subst F (sym is) (least (IsOfferedWork v) k (offered.compilation_waits c workers long ready)
      (λ j other differs. ⊎_elim
      (λ (actor : preparing.IsOfferedWork c j). absurd (none j actor))
      (λ (compile : (j ≡ k) × preparing.IsReady c). absurd (differs compile.0))
      (offered.waiting_work c workers long j other)))

  pub waiting_pick : (o : Option Offer) → IsFirstWaiting c o → IsPick (IsOfferedWork v) v worker o
  waiting_pick None is = λ i other. ⊎_elim
      (λ (actor : preparing.IsOfferedWork c i). is.0 i actor)
      (λ (compile : (i ≡ k) × preparing.IsReady c). is.1 compile.1)
      (offered.waiting_work c workers long i other)
  waiting_pick (Some offer) is = ⊎_elim
      (λ (actor : IsFirstActor (preparing.IsOfferedWork c) offer). actor_first offer actor)
      (λ (compile : ((i : ℕ) → preparing.IsOfferedWork c i → ⊥) × preparing.IsReady c × (offer ≡ early_offer k)). compilation_first offer compile.0 compile.1 compile.2)
      is

  pub waiting_call : (o : Option Offer) → IsFirstCallWaiting c o → IsPick (IsOfferedCall v) v worker o
  waiting_call None is = λ i other. is i (offered.waiting_call c workers long i other)
  waiting_call (Some offer) is =
      let inside = offered.actor_inside c is.number _ is.offered.task_is in
      let F : Offer → Type 0 = λ o. IsFirst (IsOfferedCall v) v worker o in
      subst F (sym is.offer_is) (least (IsOfferedCall v) is.number (early.call_of c workers Waiting long is.number inside is.offered)
      (λ j other differs. after_first is.number j (λ below. is.first j below (offered.waiting_call c workers long j other)) differs))

-- ---- nodes

module _ (c : ConfiguringView) (workers worker : ℕ) (r : RunningView) (long : length c.marks ≡ compile_number (preparing.graph_in c)) (runs : RunsFor c workers r) where
  abbrev w : OpenView
  w = view_with c workers (Nodes r)

  abbrev base : ℕ
  base = node_base (preparing.graph_in c)

  node_stands : (n : ℕ) → Stands w worker (base + n) (node_offer r base worker n).away (node_offer r base worker n).urgency
  node_stands n =
      let G = c.graphs.graphs in
      let g = preparing.graph_in c in
      let away : Bool = (node_offer r base worker n).away in
      let urgency : Option ℕ = (node_offer r base worker n).urgency in
      let P : Option Prepared → Type 0 = λ o. ItemStands G workers g c.firing o worker (base + n) away urgency in
      let Q : Bool → Type 0 = λ b. StandsAsNode G workers g c.firing r.prepared worker (base + n) away urgency b in
      let R : ℕ → Type 0 = λ m. NodeStands G workers g c.firing r.prepared worker m away urgency in
      let stands : R n = record { mapping = r.mapping; mapped = runs.mapped; away_is = refl; urgency_is = refl } in
      let e : n ≡ base + n - base = omega arith in
      subst P (sym (nodes.prepared_is c workers r long runs)) (subst Q (sym (le-ltb (base + n) base (omega arith))) (subst R e stands))

  node_first : (P N : ℕ → Type 0) → ((n : ℕ) → N n → P (base + n)) → ((i : ℕ) → P i → IsNodeOf N base i) → (offer : Offer) → IsNodeFirst N r base worker offer → IsFirst P w worker offer
  node_first P N to from offer is =
      let F : Offer → Type 0 = λ o. IsFirst P w worker o in
      subst F (sym is.offer_is) record {
        offered = to is.node is.offered;
        stands = node_stands is.node;
        first = λ j other differs.
            let own = from j other in
            let B : ℕ → Type 0 = λ m. GoesBefore w worker (node_offer r base worker is.node) m in
            subst B (sym own.number) record {
              away = (node_offer r base worker own.node).away;
              urgency = (node_offer r base worker own.node).urgency;
              stands = node_stands own.node;
              before = is.first own.node own.holds (λ same. differs (own.number ∙ ap (λ m. base + m) same));
            };
      }

  pub nodes_pick : (o : Option Offer) → IsFirstNode (running.IsOfferedWork r) r base worker o → IsPick (IsOfferedWork w) w worker o
  nodes_pick None is = λ i other. let own = offered.work_is_node c workers r long runs i other in is own.node own.holds
  nodes_pick (Some offer) is = node_first (IsOfferedWork w) (running.IsOfferedWork r) (nodes.work_of_node c workers r long runs) (offered.work_is_node c workers r long runs) offer is

  pub nodes_call : (o : Option Offer) → IsFirstNode (running.IsOfferedCall r) r base worker o → IsPick (IsOfferedCall w) w worker o
  nodes_call None is = λ i other. let own = offered.call_is_node c workers r long runs i other in is own.node own.holds
  nodes_call (Some offer) is = node_first (IsOfferedCall w) (running.IsOfferedCall r) (nodes.call_of_node c workers r long runs) (offered.call_is_node c workers r long runs) offer is

-- ---- the order of nodes, by homes, priorities and numbers

-- what isn't less is a tie
tie_of : (x y : ℕ) (rest : Bool) → (x < y) ⊎ ((x ≡ y) × (rest ≡ true)) → (x < y → ⊥) → (x ≡ y) × (rest ≡ true)
tie_of x y rest first never = ⊎_elim (λ (less : x < y). absurd (never less)) (λ (tie : (x ≡ y) × (rest ≡ true)). tie) first

decide_later : (b c : Bool) (first second : Bool) → first ≡ false → second ≡ false → b ≡ c → decide first second b ≡ c
decide_later b c first second one two same = rw (one, two) same

module _ (r : RunningView) (base worker : ℕ) where
  abbrev home_is : ℕ → Bool
  home_is n = slice_index r.mapping.home n == worker

  abbrev urgent : ℕ → ℕ
  urgent n = slice_index r.mapping.priority n

  by_urgency : (n m : ℕ) → n ≢ m → GoesFirst r.mapping.priority n m → decide (nat_lt (urgent m) (urgent n)) (nat_lt (urgent n) (urgent m)) (nat_lt (base + n) (base + m)) ≡ true
  by_urgency n m differs first = ⊎_elim
      (λ (more : urgent m < urgent n). rw (lt-ltb (urgent m) (urgent n) more) refl)
      (λ (tie : (urgent m ≡ urgent n) × (n ≤ m)).
      let same = tie.0 in
      let low = tie.1 in
      let less : n < m = ⊎_elim (λ (below : n < m). below) (λ (past : m ≤ n). absurd (differs (omega arith))) (cases_lt n m) in
      decide_later (nat_lt (base + n) (base + m)) true _ _ (le-ltb (urgent m) (urgent n) (omega arith)) (le-ltb (urgent n) (urgent m) (omega arith)) (lt-ltb (base + n) (base + m) (omega arith)))
      first

  abbrev far : Bool → ℕ
  far a = if a then 0 else 1

  by_home : (a b rest : Bool) → (far a < far b) ⊎ ((far a ≡ far b) × (rest ≡ true)) → decide (not (not a) && not b) (not a && not (not b)) rest ≡ true
  by_home true true rest first = (tie_of 0 0 rest first (λ less. omega arith)).1
  by_home true false rest first = refl
  by_home false true rest first = absurd (let tie = (tie_of 1 0 rest first (λ less. omega arith)).0 in omega arith)
  by_home false false rest first = (tie_of 1 1 rest first (λ less. omega arith)).1

  goes_so : (n m : ℕ) → m ≢ n → one.GoesBefore r.mapping worker n m → offer_before (node_offer r base worker n) (node_offer r base worker m) ≡ true
  goes_so n m differs before =
      let rest : Bool = decide (nat_lt (urgent m) (urgent n)) (nat_lt (urgent n) (urgent m)) (nat_lt (base + n) (base + m)) in
      by_home (home_is n) (home_is m) rest
      (⊎_elim
      (λ (less : one.away r.mapping worker n < one.away r.mapping worker m). inl less)
      (λ (tie : (one.away r.mapping worker n ≡ one.away r.mapping worker m) × GoesFirst r.mapping.priority n m). inr (tie.0, by_urgency n m (λ same. differs (sym same)) tie.1))
      before)

  pub first_is : (P : ℕ → Type 0) (n : ℕ) → one.IsFirst r.mapping worker P (Some n) → IsNodeFirst P r base worker (node_offer r base worker n)
  first_is P n is = record { node = n; offer_is = refl; offered = is.0; first = λ m other differs. goes_so n m differs (is.1 m other) }
