-- Open jobs have different paths: the steps from the top tell the place.
use Rattle.std.proofs.Common.{◌≡◌, ◌⊎◌, ⊎_elim, inl, inr, ℕ, ◌+◌, ◌-◌, ◌<◌, ◌≤◌, ℤ, List, [], ◌∷◌, ◌++◌, length, map, slice_get, slice_index, Option, Some, None, refl, sym, ap, ◌∙◌, subst, arith, length-append}
use Rattle.std.proofs.lemmas.Bool.{cases_lt, le-ltb, lt-ltb}
use Rattle.std.proofs.lemmas.List.{length-map}
use Rattle.std.proofs.lemmas.Option.{slice_get_within}
use Rattle.param_resolver.proofs.Leveling.{many_places}
use Rattle.param_resolver.specs.Numbering.{acting, acting_places}
use Rattle.pisdf_model.specs.declared.actor.Actor.{Actor}
use Rattle.pisdf_model.specs.declared.graph.Graph.{Graph}
use Rattle.sdf_level.specs.declared.node.Node.{Node}
use Rattle.sdf_level.specs.declared.node.Node.TheVariants as node
use Rattle.single_rate.specs.Expanded.{place_of}
use Rattle.pisdf_meaning.specs.Configuring.{Configuration, configurations}
use Rattle.pisdf_meaning.specs.declared.firing.Configured.{Configured}
use Rattle.pisdf_meaning.specs.declared.firing.Firing.{Firing}
use Rattle.nested_jobs.specs.Rules.{Call, Place, Values}
use Rattle.nested_jobs.specs.Marks.{Mark, Marks, Open, values}
use Rattle.nested_jobs.proofs.Nesting.{of_open}
use Rattle.nested_jobs.proofs.Places.{one_open}
use Rattle.job_flow.specs.Frames.{inputs, lens}
use Rattle.job_flow.specs.Graphs.{node_at}
use Rattle.job_rules.proofs.Answered.{is_job, rule_so}
use Rattle.job_rules.proofs.Numbers.{rule_of_compilation, rule_of_node}
use Rattle.job_rules.specs.Items.{Prepared, actor_task, compile_number, compile_rule, graph_of, job_graph, node_base, node_rule, node_task, node_values, nodes_in, prepared_in, rule, values_in}
use Rattle.job_rules.specs.Meant.{rank}
use Rattle.job_rules.specs.Words.{Answer}
use Rattle.board_rules.specs.Keys.{IsKey, Key, rules, top_job}
use Rattle.job_rules.specs.Items.{step_of_node}
use Rattle.board_rules.specs.Picks.{step_in, step_of_item, steps_to}
use Rattle.board_rules.proofs.ActorPlaces.{acting_rise, configs_rise, places_apart, rises_apart}
use Rattle.board_rules.proofs.Known.{BoardLaws, Known}

snoc_is : {T : Type 0} (xs ys : List T) (x y : T) → xs ++ x ∷ [] ≡ ys ++ y ∷ [] → (xs ≡ ys) × (x ≡ y)
snoc_is [] [] x y e = (refl, cc)
snoc_is [] (z ∷ ys) x y e = let l = ap length e in let m = length-append ys (y ∷ []) in absurd (omega arith)
snoc_is (z ∷ xs) [] x y e = let l = ap length e in let m = length-append xs (x ∷ []) in absurd (omega arith)
snoc_is (z ∷ xs) (w ∷ ys) x y e =
    let head : z ≡ w = cc in
    let tail : xs ++ x ∷ [] ≡ ys ++ y ∷ [] = cc in
    let t = snoc_is xs ys x y tail in
    let same = t.0 in
    (λ i. head i ∷ same i, t.1)

-- ---- items of one job that call jobs

module _ (key : Key) (g : Graph) (firing : Firing) where
  abbrev places : List ℕ
  places = map (λ (c : Configuration). c.place) (configurations g)

  pub config_step : (k : ℕ) → k < compile_number g → (o : Option Prepared) → step_of_item key g firing k o ≡ (slice_index places k, 0)
  config_step k low None = refl
  config_step k low (Some p) = rw (lt-ltb k (compile_number g) low) refl

  node_step : (n : ℕ) (p : Prepared) → step_of_item key g firing (node_base g + n) (Some p) ≡ step_of_node g (node_at (nodes_in key.graphs.graphs g firing p) n)
  node_step n p =
      let past = le-ltb (node_base g + n) (compile_number g) (omega arith) in
      let e : node_base g + n - node_base g ≡ n = omega arith in
      rw (past, e) refl

  pub record IsFiring (nd : Node) : Type 0 where
    actor : ℕ
    turn : ℕ
    is : nd ≡ node.Firing actor turn
    there : actor < length (acting g)

  module _ (values : List ℤ) (read : List (List ℤ)) (lengths : List ℕ) (d : Firing) where
    actor_there : (a k : ℕ) (o : Option Actor) → slice_get (acting g) a ≡ o → actor_task key.graphs.graphs g firing values a k read o ≡ Some (Call d) → a < length (acting g)
    actor_there a k None at task = absurd (cc)
    actor_there a k (Some actor) at task = slice_get_within (acting g) a actor at

    is_firing : (nd : Node) → node_task key.graphs.graphs g firing values nd read lengths ≡ Some (Call d) → IsFiring nd
    is_firing (node.Source s) task = absurd (cc)
    is_firing (node.Init l) task = absurd (cc)
    is_firing (node.Firing a k) task = record { actor = a; turn = k; is = refl; there = actor_there a k (slice_get (acting g) a) refl task }
    is_firing (node.Broadcast l) task = absurd (cc)
    is_firing (node.Fork l i) task = absurd (cc)
    is_firing (node.Join l j) task = absurd (cc)
    is_firing (node.Round l) task = absurd (cc)
    is_firing (node.End l) task = absurd (cc)
    is_firing (node.Sink t) task = absurd (cc)

module _ (key : Key) (is : IsKey key) (laws : BoardLaws key) (m : Marks Firing Answer) (known : Known key m) where
  module _ (q : Place) (firing : Firing) (o : m q ≡ Open firing) where
    abbrev g : Graph
    g = graph_of key.graphs.graphs firing

    abbrev v : Values Answer
    v = values m q

    -- an item that is a node, of an actor whose graph is fired
    pub record CallsNode (k : ℕ) : Type 0 where
      pub number : ℕ
      pub number_is : k ≡ node_base g + number
      pub p : Prepared
      pub prepared_so : prepared_in g v ≡ Some p
      pub inside : number < length (nodes_in key.graphs.graphs g firing p)
      pub firing_is : IsFiring key g firing (node_at (nodes_in key.graphs.graphs g firing p) number)

    by_node : (n : ℕ) (d : Firing) (r : Option Prepared) → prepared_in g v ≡ r → node_rule key.graphs.graphs g firing v n r ≡ Some (Call d) → CallsNode (node_base g + n)
    by_node n d None e task = absurd (cc)
    by_node n d (Some p) e task =
        let at : node_rule key.graphs.graphs g firing v n (prepared_in g v) ≡ Some (Call d) = ap (node_rule key.graphs.graphs g firing v n) e ∙ task in
        let ready = rule_so laws.jobs key.signatures key.graphs is.valid.valid.in_range is.valid.valid.well_formed laws.fit is.lengths (known.levels q) firing v (known.fits q firing o) (known.sound q firing o) p e n (Call d) at in
        record {
          number = n;
          number_is = refl;
          p = p;
          prepared_so = e;
          inside = ready.0.there;
          firing_is = is_firing key g firing (values_in g firing p) (inputs (job_graph key.graphs.graphs g firing p) (node_values key.graphs.graphs g firing p v) n) (lens (job_graph key.graphs.graphs g firing p) n) d (node_at (nodes_in key.graphs.graphs g firing p) n) ready.1;
        }

    not_compilation : (d : Firing) (left : Option (List Configured)) → compile_rule firing left ≡ Some (Call d) → ⊥
    not_compilation d None task = cc
    not_compilation d (Some left) task = cc

    pub which : (k : ℕ) (d : Firing) → rule key.graphs.graphs firing v k ≡ Some (Call d) → (k < compile_number g) ⊎ CallsNode k
    which k d task = ⊎_elim
        (λ (low : k < compile_number g). inl low)
        (λ (past : compile_number g ≤ k). ⊎_elim
        (λ (more : compile_number g < k).
        let n : ℕ = k - node_base g in
        let k_is : k ≡ node_base g + n = omega arith in
        let at : rule key.graphs.graphs firing v (node_base g + n) ≡ Some (Call d) = subst (λ (z : ℕ). rule key.graphs.graphs firing v z ≡ Some (Call d)) k_is task in
        inr (subst CallsNode (sym k_is) (by_node n d (prepared_in g v) refl (sym (rule_of_node key.graphs.graphs g firing v (configurations g) n) ∙ at))))
        (λ (none : k ≤ compile_number g).
        let k_is : k ≡ compile_number g = omega arith in
        absurd (not_compilation d _ (sym (rule_of_compilation key.graphs.graphs g firing v (configurations g)) ∙ subst (λ (z : ℕ). rule key.graphs.graphs firing v z ≡ Some (Call d)) k_is task)))
        (cases_lt (compile_number g) k))
        (cases_lt k (compile_number g))

    abbrev step : ℕ → ℕ × ℕ
    step k = step_of_item key g firing k (prepared_in g v)

    step_of_calls : (k : ℕ) (c : CallsNode k) → step k ≡ (slice_index (acting_places g) c.firing_is.actor, c.firing_is.turn)
    step_of_calls k c =
        ap (λ (z : ℕ). step_of_item key g firing z (prepared_in g v)) c.number_is
        ∙ ap (step_of_item key g firing (node_base g + c.number)) c.prepared_so
        ∙ node_step key g firing c.number c.p
        ∙ ap (step_of_node g) c.firing_is.is

    many : length (places key g firing) ≡ compile_number g
    many = length-map (configurations g) (λ (c : Configuration). c.place)

    both_nodes : (k l : ℕ) (c : CallsNode k) (e : CallsNode l) → step k ≡ step l → k ≡ l
    both_nodes k l c e same =
        let pair = sym (step_of_calls k c) ∙ (same ∙ step_of_calls l e) in
        let place : slice_index (acting_places g) c.firing_is.actor ≡ slice_index (acting_places g) e.firing_is.actor = ap (λ (x : ℕ × ℕ). x.0) pair in
        let turn : c.firing_is.turn ≡ e.firing_is.turn = ap (λ (x : ℕ × ℕ). x.1) pair in
        let long = many_places g in
        let low = c.firing_is.there in
        let low' = e.firing_is.there in
        let actor : c.firing_is.actor ≡ e.firing_is.actor = rises_apart 0 (acting_places g) c.firing_is.actor e.firing_is.actor (acting_rise 0 g.actors) (omega arith) (omega arith) place in
        let p_same : e.p ≡ c.p = let z : Some e.p ≡ Some c.p = sym e.prepared_so ∙ c.prepared_so in cc in
        let N : List Node = nodes_in key.graphs.graphs g firing c.p in
        let e_is : node_at N e.number ≡ node.Firing e.firing_is.actor e.firing_is.turn = subst (λ (z : Prepared). node_at (nodes_in key.graphs.graphs g firing z) e.number ≡ node.Firing e.firing_is.actor e.firing_is.turn) p_same e.firing_is.is in
        let e_inside : e.number < length N = subst (λ (z : Prepared). e.number < length (nodes_in key.graphs.graphs g firing z)) p_same e.inside in
        let nodes_same : node_at N c.number ≡ node_at N e.number = c.firing_is.is ∙ (ap (λ (z : ℕ). node.Firing z c.firing_is.turn) actor ∙ (ap (node.Firing e.firing_is.actor) turn ∙ sym e_is)) in
        let job = is_job laws.jobs key.signatures key.graphs is.valid.valid.in_range is.valid.valid.well_formed laws.fit is.lengths (known.levels q) firing v (known.fits q firing o) (known.sound q firing o) c.p c.prepared_so in
        let once : (n : ℕ) → n < length N → place_of N (node_at N n) ≡ n = λ n inside. laws.jobs.once c.p.schedule.counts c.p.schedule.order (job_graph key.graphs.graphs g firing c.p) n job inside in
        let number : c.number ≡ e.number = sym (once c.number c.inside) ∙ (ap (place_of N) nodes_same ∙ once e.number e_inside) in
        c.number_is ∙ (ap (λ (z : ℕ). node_base g + z) number ∙ sym e.number_is)

    node_and_config : (k l : ℕ) → CallsNode k → l < compile_number g → step k ≡ step l → ⊥
    node_and_config k l c low same =
        let pair = sym (step_of_calls k c) ∙ (same ∙ config_step key g firing l low (prepared_in g v)) in
        let long = many_places g in
        let there = c.firing_is.there in
        let l_many = many in
        places_apart 0 0 g.actors c.firing_is.actor l (omega arith) (omega arith) (ap (λ (x : ℕ × ℕ). x.0) pair)

    -- items that call jobs have different steps
    pub step_apart : (k l : ℕ) (d e : Firing) → rule key.graphs.graphs firing v k ≡ Some (Call d) → rule key.graphs.graphs firing v l ≡ Some (Call e) → step k ≡ step l → k ≡ l
    step_apart k l d e one other same = ⊎_elim
        (λ (low : k < compile_number g). ⊎_elim
        (λ (low' : l < compile_number g).
        let pair = sym (config_step key g firing k low (prepared_in g v)) ∙ (same ∙ config_step key g firing l low' (prepared_in g v)) in
        let long = many in
        rises_apart 0 (places key g firing) k l (configs_rise 0 0 g.actors) (omega arith) (omega arith) (ap (λ (x : ℕ × ℕ). x.0) pair))
        (λ (c : CallsNode l). absurd (node_and_config l k c low (sym same)))
        (which l e other))
        (λ (c : CallsNode k). ⊎_elim
        (λ (low' : l < compile_number g). absurd (node_and_config k l c low' same))
        (λ (b : CallsNode l). both_nodes k l c b same)
        (which l e other))
        (which k d one)

  -- ---- paths

  abbrev Up : ℕ → Place → Firing → Type 0
  Up i p d = (c : Firing) × (m p ≡ Open c) × (rule key.graphs.graphs c (values m p) i ≡ Some (Call d))

  up_of : (i : ℕ) (p : Place) (d : Firing) → m (i ∷ p) ≡ Open d → Up i p d
  up_of i p d o = let up = of_open (rules key) (rank key.graphs.graphs) laws.lawful (top_job key) m i p d known.nested o in (up.job, up.is_open, up.has_task)

  pub steps_are : (i : ℕ) (p : Place) (c : Firing) → m p ≡ Open c → steps_to key m (i ∷ p) ≡ steps_to key m p ++ step_of_item key (graph_of key.graphs.graphs c) c i (prepared_in (graph_of key.graphs.graphs c) (values m p)) ∷ []
  steps_are i p c o = ap (λ (x : Mark Firing Answer). steps_to key m p ++ step_in key m p i x) o

  abbrev step_to : ℕ → Place → Firing → ℕ × ℕ
  step_to i p c = step_of_item key (graph_of key.graphs.graphs c) c i (prepared_in (graph_of key.graphs.graphs c) (values m p))

  in_one_job : (i j : ℕ) (p : Place) (c d : Firing) (up : Up i p c) (up' : Up j p d) → step_to i p up.0 ≡ step_to j p up'.0 → i ∷ p ≡ j ∷ p
  in_one_job i j p c d up up' same =
      let job : up.0 ≡ up'.0 = one_open m p up.0 up'.0 up.1 up'.1 in
      let P : Firing → Type 0 = λ f. rule key.graphs.graphs f (values m p) j ≡ Some (Call d) → step_to i p up.0 ≡ step_to j p f → i ∷ p ≡ j ∷ p in
      subst P job (λ task s. ap (λ (k : ℕ). k ∷ p) (step_apart p up.0 up.1 i j c d up.2 task s)) up'.2 same

  in_one_place : (i j : ℕ) (p q : Place) (c d : Firing) → p ≡ q → (up : Up i p c) (up' : Up j q d) → step_to i p up.0 ≡ step_to j q up'.0 → i ∷ p ≡ j ∷ q
  in_one_place i j p q c d place up up' same =
      let P : Place → Type 0 = λ z. (u : Up j z d) → step_to i p up.0 ≡ step_to j z u.0 → i ∷ p ≡ j ∷ z in
      subst P place (λ u s. in_one_job i j p c d up u s) up' same

  -- two open jobs with one path are one
  pub paths_apart : (a b : Place) (c d : Firing) → m a ≡ Open c → m b ≡ Open d → steps_to key m a ≡ steps_to key m b → a ≡ b
  paths_apart [] [] c d one other same = refl
  paths_apart [] (j ∷ q) c d one other same =
      let up = up_of j q d other in
      let l = ap (λ (x : List (ℕ × ℕ)). length x) (same ∙ steps_are j q up.0 up.1) in
      let n = length-append (steps_to key m q) (step_to j q up.0 ∷ []) in
      absurd (omega arith)
  paths_apart (i ∷ p) [] c d one other same =
      let up = up_of i p c one in
      let l = ap (λ (x : List (ℕ × ℕ)). length x) (sym same ∙ steps_are i p up.0 up.1) in
      let n = length-append (steps_to key m p) (step_to i p up.0 ∷ []) in
      absurd (omega arith)
  paths_apart (i ∷ p) (j ∷ q) c d one other same =
      let up = up_of i p c one in
      let up' = up_of j q d other in
      let t = snoc_is (steps_to key m p) (steps_to key m q) (step_to i p up.0) (step_to j q up'.0) (sym (steps_are i p up.0 up.1) ∙ (same ∙ steps_are j q up'.0 up'.1)) in
      in_one_place i j p q c d (paths_apart p q up.0 up'.0 up.1 up'.1 t.0) up up' t.1
