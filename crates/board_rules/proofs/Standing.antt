-- Where enabled items stand: each stands somewhere, at one place alone, and no two at the same.
use Rattle.std.proofs.Common.{◌≡◌, ℕ, suc, ◌-◌, ◌==◌, nat_lt, not, Bool, true, false, Option, Some, None, List, [], ◌∷◌, ◌++◌, length, reverse, take, slice_index, refl, sym, ap, ◌∙◌, subst, arith, length-append}
use Rattle.std.proofs.lemmas.List.{reverse-reverse}
use Rattle.pisdf_model.specs.declared.graph.Graph.{Graph}
use Rattle.pisdf_meaning.specs.declared.firing.Firing.{Firing}
use Rattle.worker_mapping.specs.declared.mapping.Mapping.{Mapping}
use Rattle.nested_jobs.specs.Rules.{Place}
use Rattle.nested_jobs.specs.Marks.{Free, Mark, Marks, Open, values}
use Rattle.nested_jobs.specs.Pick.{outer}
use Rattle.nested_jobs.specs.Steps.{IsEnabled}
use Rattle.nested_jobs.proofs.Finding.{OnWay, enabled_by}
use Rattle.nested_jobs.proofs.OneStep.{free_below, outer_below, outer_open}
use Rattle.nested_jobs.proofs.Places.{one_open, tail_is}
use Rattle.job_rules.proofs.Answered.{is_job}
use Rattle.job_rules.specs.Items.{Prepared, graph_of, node_base, prepared_in}
use Rattle.job_rules.specs.Meant.{rank}
use Rattle.job_rules.specs.Words.{Answer}
use Rattle.board_rules.specs.Keys.{IsKey, Key, rules, top_job}
use Rattle.board_rules.specs.Picks.{AreMapped, IsMappingOf, ItemStands, Standing, StandsAs, StandsAsNode, is_open, item_towards, items_below, steps_to}
use Rattle.board_rules.proofs.Known.{BoardLaws, Known}
use Rattle.board_rules.proofs.Mapped.{mapping_made, mapping_once}
use Rattle.board_rules.proofs.Steps.{paths_apart}

-- ---- a place on a way

-- whether the claim of an item at the end of this way opens a job
abbrev pub goes_below : List ℕ → Bool
goes_below [] = false
goes_below (j ∷ way) = true

at_way : (way : List ℕ) (k : ℕ) (q : Place) → slice_index (way ++ k ∷ q) (length way) ≡ k
at_way [] k q = refl
at_way (j ∷ way) k q = at_way way k q

take_way : (way : List ℕ) (q : Place) → take (length way) (way ++ q) ≡ way
take_way [] q = refl
take_way (j ∷ way) q = ap (λ (z : List ℕ). j ∷ z) (take_way way q)

way_long : (way : List ℕ) (k : ℕ) (q : Place) → length (way ++ k ∷ q) - suc (length q) ≡ length way
way_long way k q = let l = length-append way (k ∷ q) in omega arith

pub towards : (way : List ℕ) (k : ℕ) (q : Place) → item_towards q (way ++ k ∷ q) ≡ k
towards way k q = ap (slice_index (way ++ k ∷ q)) (way_long way k q) ∙ at_way way k q

pub below_way : (way : List ℕ) (k : ℕ) (q : Place) → items_below q (way ++ k ∷ q) ≡ reverse way
below_way way k q = ap (λ (n : ℕ). reverse (take n (way ++ k ∷ q))) (way_long way k q) ∙ ap reverse (take_way way (k ∷ q))

module _ (key : Key) (is : IsKey key) (laws : BoardLaws key) (m : Marks Firing Answer) (known : Known key m) where
  abbrev ranks : Firing → ℕ
  ranks = rank key.graphs.graphs

  abbrev graph_so : Firing → Graph
  graph_so c = graph_of key.graphs.graphs c

  abbrev prepared_so : Place → Firing → Option Prepared
  prepared_so q c = prepared_in (graph_so c) (values m q)

  open_is : (x : Mark Firing Answer) (c : Firing) → x ≡ Open c → is_open x ≡ true
  open_is x c e = ap is_open e

  -- ---- the open job on the way

  -- the item of an open job on the way to an enabled item, and the way from it
  abbrev pub Way : Place → Type 0
  Way a = OnWay (rules key) m a

  pub way_of : (a : Place) → IsEnabled (rules key) m a → Way a
  way_of a enabled = enabled_by (rules key) ranks laws.lawful (top_job key) m a known.nested enabled

  module _ (i : ℕ) (p : Place) (t : Way (i ∷ p)) where
    abbrev job_open : m t.place ≡ Open t.ready.in_job.job
    job_open = t.ready.in_job.is_open

    pub outer_is : outer m p ≡ t.place
    outer_is = go t.way refl
      where
        go : (way : List ℕ) → t.way ≡ way → outer m p ≡ t.place
        go [] e =
            let at : i ∷ p ≡ t.item ∷ t.place = t.is_on_way ∙ ap (λ (w : List ℕ). w ++ t.item ∷ t.place) e in
            let same : p ≡ t.place = tail_is i t.item p t.place at in
            ap (outer m) same ∙ outer_open (rules key) ranks laws.lawful (top_job key) m t.place t.ready.in_job.job job_open
        go (j ∷ way) e =
            let at : i ∷ p ≡ j ∷ way ++ t.item ∷ t.place = t.is_on_way ∙ ap (λ (w : List ℕ). w ++ t.item ∷ t.place) e in
            let same : p ≡ way ++ t.item ∷ t.place = tail_is i j p (way ++ t.item ∷ t.place) at in
            ap (outer m) same ∙ outer_below (rules key) ranks laws.lawful (top_job key) m t.item t.place t.ready.in_job.job way known.nested job_open t.ready.free

    pub opens_is : not (is_open (m p)) ≡ goes_below t.way
    opens_is = go t.way refl
      where
        go : (way : List ℕ) → t.way ≡ way → not (is_open (m p)) ≡ goes_below t.way
        go [] e =
            let at : i ∷ p ≡ t.item ∷ t.place = t.is_on_way ∙ ap (λ (w : List ℕ). w ++ t.item ∷ t.place) e in
            let same : p ≡ t.place = tail_is i t.item p t.place at in
            ap (λ (x : Mark Firing Answer). not (is_open x)) (ap m same ∙ job_open) ∙ ap goes_below (sym e)
        go (j ∷ way) e =
            let at : i ∷ p ≡ j ∷ way ++ t.item ∷ t.place = t.is_on_way ∙ ap (λ (w : List ℕ). w ++ t.item ∷ t.place) e in
            let same : p ≡ way ++ t.item ∷ t.place = tail_is i j p (way ++ t.item ∷ t.place) at in
            let free : m p ≡ Free = ap m same ∙ free_below (rules key) ranks laws.lawful (top_job key) m (t.item ∷ t.place) way known.nested t.ready.free in
            ap (λ (x : Mark Firing Answer). not (is_open x)) free ∙ ap goes_below (sym e)

    pub number_is : item_towards (outer m p) (i ∷ p) ≡ t.item
    number_is = ap (λ (q : Place). item_towards q (i ∷ p)) outer_is ∙ ap (item_towards t.place) t.is_on_way ∙ towards t.way t.item t.place

    pub within_is : items_below (outer m p) (i ∷ p) ≡ reverse t.way
    within_is = ap (λ (q : Place). items_below q (i ∷ p)) outer_is ∙ ap (items_below t.place) t.is_on_way ∙ below_way t.way t.item t.place

  -- ---- one standing

  node_once : (c : Firing) (q : Place) (o : m q ≡ Open c) (p : Prepared) (e : prepared_so q c ≡ Some p) (one other : Mapping) → IsMappingOf key (graph_so c) c p one → IsMappingOf key (graph_so c) c p other → one ≡ other
  node_once c q o p e one other a b =
      let job = is_job laws.jobs key.signatures key.graphs is.valid.valid.in_range is.valid.valid.well_formed laws.fit is.lengths (known.levels q) c (values m q) (known.fits q c o) (known.sound q c o) p e in
      mapping_once laws.ends laws.jobs.tiers _ p.schedule.counts p.schedule.order job.level_kept job.order key.workers one other a b

  -- each job that is compiled has a list schedule
  pub mapped_so : AreMapped key m
  mapped_so q c p o e =
      let job = is_job laws.jobs key.signatures key.graphs is.valid.valid.in_range is.valid.valid.well_formed laws.fit is.lengths (known.levels q) c (values m q) (known.fits q c o) (known.sound q c o) p e in
      mapping_made laws.ends laws.jobs.tiers _ p.schedule.counts p.schedule.order job.level_kept job.order key.workers is.some

  pub record Alike (s u : Standing) : Type 0 where
    pub away : s.away ≡ u.away
    pub urgency : s.urgency ≡ u.urgency

  alike_node : (c : Firing) (q : Place) (o : m q ≡ Open c) (p : Prepared) (e : prepared_so q c ≡ Some p) (w n : ℕ) (s u : Standing) → (b : Bool) → StandsAsNode key (graph_so c) c p w n s b → StandsAsNode key (graph_so c) c p w n u b → Alike s u
  alike_node c q o p e w n s u true one other = record { away = one.0 ∙ sym other.0; urgency = one.1 ∙ sym other.1 }
  alike_node c q o p e w n s u false one other =
      let same = node_once c q o p e one.mapping other.mapping one.mapped other.mapped in
      record {
        away = one.away_is ∙ (ap (λ (x : Mapping). not (slice_index x.home (n - node_base (graph_so c)) == w)) same ∙ sym other.away_is);
        urgency = one.urgency_is ∙ (ap (λ (x : Mapping). Some (slice_index x.priority (n - node_base (graph_so c)))) same ∙ sym other.urgency_is);
      }

  pub alike_item : (c : Firing) (q : Place) (o : m q ≡ Open c) (w n : ℕ) (s u : Standing) (r : Option Prepared) → prepared_so q c ≡ r → ItemStands key (graph_so c) c r w n s → ItemStands key (graph_so c) c r w n u → Alike s u
  alike_item c q o w n s u None e one other = record { away = one.0 ∙ sym other.0; urgency = one.1 ∙ sym other.1 }
  alike_item c q o w n s u (Some p) e one other = alike_node c q o p e w n s u (nat_lt n (node_base (graph_so c))) one other

  alike : (w n l : ℕ) (q : Place) (c d : Firing) (s u : Standing) → m q ≡ Open c → m q ≡ Open d → n ≡ l → ItemStands key (graph_so c) c (prepared_so q c) w n s → ItemStands key (graph_so d) d (prepared_so q d) w l u → Alike s u
  alike w n l q c d s u o o' number one other =
      let job : d ≡ c = one_open m q d c o' o in
      let moved : ItemStands key (graph_so c) c (prepared_so q c) w n u = subst (λ (z : ℕ). ItemStands key (graph_so c) c (prepared_so q c) w z u) (sym number) (subst (λ (f : Firing). ItemStands key (graph_so f) f (prepared_so q f) w l u) job other) in
      alike_item c q o w n s u (prepared_so q c) refl one moved

  pub stands_once : (w i : ℕ) (p : Place) (s u : Standing) → StandsAs key m w i p s → StandsAs key m w i p u → s ≡ u
  stands_once w i p s u one other =
      let opens = one.opens_is ∙ sym other.opens_is in
      let depth = one.depth_is ∙ sym other.depth_is in
      let path = one.path_is ∙ sym other.path_is in
      let number = one.number_is ∙ sym other.number_is in
      let within = one.within_is ∙ sym other.within_is in
      let rest = alike w s.number u.number (outer m p) one.firing other.firing s u one.is_open_job other.is_open_job number one.at_home other.at_home in
      let away = rest.away in
      let urgency = rest.urgency in
      λ x. record { opens = opens x; depth = depth x; away = away x; urgency = urgency x; path = path x; number = number x; within = within x }

  -- ---- no two alike

  pub stands_apart : (w i j : ℕ) (p q : Place) (s : Standing) → Way (i ∷ p) → Way (j ∷ q) → StandsAs key m w i p s → StandsAs key m w j q s → i ∷ p ≡ j ∷ q
  stands_apart w i j p q s t u one other =
      let outer_same : outer m p ≡ outer m q = paths_apart key is laws m known (outer m p) (outer m q) one.firing other.firing one.is_open_job other.is_open_job (sym one.path_is ∙ other.path_is) in
      let place : t.place ≡ u.place = sym (outer_is i p t) ∙ (outer_same ∙ outer_is j q u) in
      let number : t.item ≡ u.item = sym (one.number_is ∙ number_is i p t) ∙ (other.number_is ∙ number_is j q u) in
      let turned : reverse t.way ≡ reverse u.way = sym (one.within_is ∙ within_is i p t) ∙ (other.within_is ∙ within_is j q u) in
      let way : t.way ≡ u.way = sym (reverse-reverse t.way) ∙ (ap reverse turned ∙ reverse-reverse u.way) in
      t.is_on_way ∙ ((λ x. way x ++ number x ∷ place x) ∙ sym u.is_on_way)

  -- ---- each stands somewhere

  -- a home and an urgency that an item has
  pub record Homed (c : Firing) (r : Option Prepared) (w n : ℕ) : Type 0 where
    pub away : Bool
    pub urgency : Option ℕ
    pub stands : (s : Standing) → s.away ≡ away → s.urgency ≡ urgency → ItemStands key (graph_so c) c r w n s

  homed_node : (c : Firing) (p : Prepared) (w n : ℕ) (mapping : Mapping) → IsMappingOf key (graph_so c) c p mapping → (b : Bool) → nat_lt n (node_base (graph_so c)) ≡ b → Homed c (Some p) w n
  homed_node c p w n mapping mapped true e = record {
    away = false;
    urgency = None;
    stands = λ s a u. subst (λ (b : Bool). StandsAsNode key (graph_so c) c p w n s b) (sym e) (a, u);
  }
  homed_node c p w n mapping mapped false e = record {
    away = not (slice_index mapping.home (n - node_base (graph_so c)) == w);
    urgency = Some (slice_index mapping.priority (n - node_base (graph_so c)));
    stands = λ s a u. subst (λ (b : Bool). StandsAsNode key (graph_so c) c p w n s b) (sym e) record { mapping = mapping; mapped = mapped; away_is = a; urgency_is = u };
  }

  pub homed : AreMapped key m → (q : Place) (c : Firing) → m q ≡ Open c → (w n : ℕ) (r : Option Prepared) → prepared_so q c ≡ r → Homed c r w n
  homed mapped q c o w n None e = record { away = false; urgency = None; stands = λ s a u. (a, u) }
  homed mapped q c o w n (Some p) e = let t = mapped q c p o e in homed_node c p w n t.0 t.1 (nat_lt n (node_base (graph_so c))) refl

  pub stands : AreMapped key m → (w i : ℕ) (p : Place) → Way (i ∷ p) → (s : Standing) × StandsAs key m w i p s
  stands mapped w i p t =
      let c : Firing = t.ready.in_job.job in
      let q : Place = outer m p in
      let o : m q ≡ Open c = ap m (outer_is i p t) ∙ t.ready.in_job.is_open in
      let n : ℕ = item_towards q (i ∷ p) in
      let h = homed mapped q c o w n (prepared_so q c) refl in
      let s : Standing = record { opens = not (is_open (m p)); depth = length q; away = h.away; urgency = h.urgency; path = steps_to key m q; number = n; within = items_below q (i ∷ p) } in
      (s, record { firing = c; is_open_job = o; opens_is = refl; depth_is = refl; path_is = refl; number_is = refl; within_is = refl; at_home = h.stands s refl refl })
