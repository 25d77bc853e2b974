-- Levels that are kept by their keys.
use Rattle.std.proofs.Common.{◌≡◌, ℕ, ℤ, Bool, List, [], ◌∷◌, ◌++◌, length, map, slice_get, take, inl, inr, Option, Some, None, IfSome, IfOk, OnOk, OnErr, Result, Ok, Err, refl, sym, ap, ◌∙◌, subst, arith}
use Rattle.std.specs.Arc.{arc_value}
use Rattle.std.specs.Option.{option_map}
use Rattle.std.specs.declared.alloc.AllocError.{AllocError}
use Rattle.std.specs.declared.sync.Arc.{Arc}
use Rattle.std.specs.Map.{lookup, remove_entry}
use Rattle.lru.specs.LruCache.{promoted}
use Rattle.lru.proofs.CallerLemmas.{Contains-lookup, Contains-promoted, Contains-remove_entry, Contains-take}
use Rattle.lru.proofs.Splits.{Contains-cons}
use Rattle.job_compiler.specs.Keys.{is_key}
use Rattle.job_compiler.specs.declared.key.Key.{Key}
use Rattle.job_compiler.proofs.KeptEntries.{same_key}
use Rattle.param_resolver.specs.Assignment.{numbers, param_faults, supplied_to, values_of}
use Rattle.param_resolver.specs.EarlyCheck.{as_refusal}
use Rattle.param_resolver.specs.Refusal as part
use Rattle.pisdf_model.specs.Ports.{inherited_count}
use Rattle.pisdf_model.specs.declared.graph.Graph.{Graph}
use Rattle.pisdf_meaning.specs.Causes.{unless_refused}
use Rattle.pisdf_meaning.specs.Preparing.{chosen_values, rated, resolved}
use Rattle.pisdf_meaning.specs.TopLevel.{IsLevelSet}
use Rattle.pisdf_meaning.specs.declared.firing.Configured.{Configured}
use Rattle.pisdf_meaning.specs.declared.firing.Firing.{Firing}
use Rattle.pisdf_meaning.specs.declared.refusal.Refusal.{Refusal}
use Rattle.job_rules.specs.Items.{graph_of}
use Rattle.job_preparing.specs.CompileTasks.{IsReadyFor}
use Rattle.job_preparing.specs.Levels.{AreLevelsOf, IsLevelBy}
use Rattle.job_preparing.specs.View.{HasInherited, key_of}
use Rattle.job_preparing.specs.declared.compiling.ReadyLevel.{ReadyLevel}

-- ---- one level serves each firing with its key

-- lists that are equal, and begin with lists of one length
same_first : {T : Type 0} (xs ys zs ws : List T) → length xs ≡ length ys → xs ++ zs ≡ ys ++ ws → (xs ≡ ys) × (zs ≡ ws)
same_first [] [] zs ws long e = (refl, e)
same_first [] (y ∷ ys) zs ws long e = absurd (omega arith)
same_first (x ∷ xs) [] zs ws long e = absurd (omega arith)
same_first (x ∷ xs) (y ∷ ys) zs ws long e =
    let head : x ≡ y = cc in
    let tail : xs ++ zs ≡ ys ++ ws = cc in
    let rest = same_first xs ys zs ws (omega arith) tail in
    (ap (λ l. x ∷ l) rest.0 ∙ ap (λ h. h ∷ ys) head, rest.1)

-- where nothing is refused, the path of the firing doesn't matter
other_path : {T : Type 0} (graphs : List Graph) (g : Graph) (path other : List ℕ) (faults : List part.Refusal) (own found : T) → unless_refused graphs g path faults own ≡ Ok found → unless_refused graphs g other faults own ≡ Ok found
other_path graphs g path other [] own found e = e
other_path graphs g path other (refusal ∷ faults) own found e = absurd (cc)

module _ (graphs : List Graph) (workers : ℕ) (firing : Firing) (left : List Configured) (level : ReadyLevel) (ready : IsReadyFor graphs workers firing left level)
    (workers' : ℕ) (firing' : Firing) (left' : List Configured) (inherited : HasInherited graphs firing') (key_is : level.key ≡ key_of (graph_of graphs firing') workers' firing' left') where
  keys : key_of (graph_of graphs firing) workers firing left ≡ key_of (graph_of graphs firing') workers' firing' left'
  keys = sym ready.key ∙ key_is

  graphs_same : firing.graph ≡ firing'.graph
  graphs_same = ap (λ (k : Key). k.graph) keys

  workers_same : workers ≡ workers'
  workers_same = ap (λ (k : Key). k.workers) keys

  g_same : graph_of graphs firing ≡ graph_of graphs firing'
  g_same = ap (λ n. graph_of graphs record { path = firing.path; graph = n; inherited = firing.inherited; inputs = firing.inputs; state = firing.state }) graphs_same

  as_many : length firing.inherited ≡ length firing'.inherited
  as_many = ready.inherited.one_each ∙ ap (λ n. inherited_count (slice_get graphs n)) graphs_same ∙ sym inherited.one_each

  values_same : (firing.inherited ≡ firing'.inherited) × (chosen_values (graph_of graphs firing) left ≡ chosen_values (graph_of graphs firing') left')
  values_same = same_first firing.inherited firing'.inherited _ _ as_many (ap (λ (k : Key). k.values) keys)

  abbrev faults_with : Graph → List ℤ → List ℤ → List part.Refusal
  faults_with g inherited chosen = map as_refusal (param_faults g.params (supplied_to g.params inherited chosen))

  abbrev numbers_with : Graph → List ℤ → List ℤ → List ℤ
  numbers_with g inherited chosen = numbers (values_of g.params (supplied_to g.params inherited chosen))

  abbrev found : List ℤ
  found = level.made.values

  abbrev resolved_with : Graph → List ℤ → List ℤ → Type 0
  resolved_with g inherited chosen = unless_refused graphs g firing'.path (faults_with g inherited chosen) (numbers_with g inherited chosen) ≡ Ok found

  resolved_so : resolved graphs (graph_of graphs firing') firing' left' ≡ Ok found
  resolved_so =
      let own = other_path graphs (graph_of graphs firing) firing.path firing'.path _ _ found ready.made.values_are in
      let G : Graph → Type 0 = λ g. resolved_with g firing.inherited (chosen_values (graph_of graphs firing) left) in
      let I : List ℤ → Type 0 = λ l. resolved_with (graph_of graphs firing') l (chosen_values (graph_of graphs firing) left) in
      let C : List ℤ → Type 0 = λ l. resolved_with (graph_of graphs firing') firing'.inherited l in
      subst C values_same.1 (subst I values_same.0 (subst G g_same own))

  rated_so : rated graphs (graph_of graphs firing') firing' found ≡ Ok found
  rated_so =
      let own = other_path graphs (graph_of graphs firing) firing.path firing'.path _ found found ready.made.rated_so in
      let G : Graph → Type 0 = λ g. rated graphs g firing' found ≡ Ok found in
      subst G g_same own

  -- the level looks at the firing's graph and inherited values alone
  set_so : IsLevelSet graphs (graph_of graphs firing') firing' found level.made.set
  set_so =
      let S : Graph → ℕ → List ℤ → Type 0 = λ g n l. IsLevelSet graphs g record { path = firing'.path; graph = n; inherited = l; inputs = firing'.inputs; state = firing'.state } found level.made.set in
      let set = ready.made.set_is in
      let own : S (graph_of graphs firing) firing.graph firing.inherited = record { level = set.level; origins = set.origins; places = set.places; args = set.args; outs = set.outs; children = set.children } in
      subst (S (graph_of graphs firing') firing'.graph) values_same.0 (subst (λ n. S (graph_of graphs firing') n firing.inherited) graphs_same (subst (λ g. S g firing.graph firing.inherited) g_same own))

  pub serves : IsReadyFor graphs workers' firing' left' level
  serves = record {
    made = record { values_are = resolved_so; rated_so = rated_so; set_is = set_so; compiled = ready.made.compiled; level_is = ready.made.level_is; workers_are = ready.made.workers_are ∙ workers_same };
    key = key_is;
    inherited = inherited;
  }

-- a level by the key of a firing serves it
pub by_key : (graphs : List Graph) (level : ReadyLevel) (workers : ℕ) (firing : Firing) (left : List Configured) → HasInherited graphs firing → IsLevelBy graphs (key_of (graph_of graphs firing) workers firing left) level →
    IsReadyFor graphs workers firing left level
by_key graphs level workers firing left inherited by = serves graphs by.level_of.workers by.level_of.firing by.level_of.left level by.level_of.ready workers firing left inherited by.key_is

-- ---- what is kept

found_by : (graphs : List Graph) (levels : List (Key × ReadyLevel)) → AreLevelsOf graphs levels → (key : Key) (level : ReadyLevel) → lookup (is_key key) levels ≡ Some level → IsLevelBy graphs key level
found_by graphs levels are key level found =
    let at = Contains-lookup (is_key key) levels level found in
    let by = are (at.0, level) at.1 in
    record { key_is = by.key_is ∙ sym (same_key key at.0 at.2); level_of = by.level_of }

pub promoted_are : (graphs : List Graph) (levels : List (Key × ReadyLevel)) (test : Key → Bool) → AreLevelsOf graphs levels → AreLevelsOf graphs (promoted test levels)
promoted_are graphs levels test are = λ entry in_it. are entry (Contains-promoted test levels entry in_it)

kept_are : (graphs : List Graph) (levels : List (Key × ReadyLevel)) (test : Key → Bool) (most : ℕ) (key : Key) (level : ReadyLevel) → AreLevelsOf graphs levels → IsLevelBy graphs key level →
    AreLevelsOf graphs (take most ((key, level) ∷ remove_entry test levels))
kept_are graphs levels test most key level are own = λ entry in_it.
    let P : Key × ReadyLevel → Type 0 = λ e. IsLevelBy graphs e.0 e.1 in
    elim (Contains-cons (key, level) (remove_entry test levels) entry (Contains-take most _ entry in_it)) [
      | inl same ↦ subst P same own
      | inr there ↦ are entry (Contains-remove_entry test levels entry there)
    ]

-- whether it was kept or not
pub kept_or_not : (graphs : List Graph) (old new : List (Key × ReadyLevel)) (test : Key → Bool) (most : ℕ) (key : Key) (level : ReadyLevel) (r : Result (Unit {0}) AllocError) → AreLevelsOf graphs old → IsLevelBy graphs key level →
    OnOk r (new ≡ take most ((key, level) ∷ remove_entry test old)) → OnErr r (new ≡ old) → AreLevelsOf graphs new
kept_or_not graphs old new test most key level (Ok done) are own kept refused = subst (AreLevelsOf graphs) (sym kept) (kept_are graphs old test most key level are own)
kept_or_not graphs old new test most key level (Err error) are own kept refused = subst (AreLevelsOf graphs) (sym refused) are

-- what was found serves
pub found_serves : {Z : Type 0} (graphs : List Graph) (levels : List (Key × ReadyLevel)) → AreLevelsOf graphs levels → (key : Key) (r : Result (Option (Arc ReadyLevel Z)) AllocError) → IfOk r (λ found. option_map arc_value found ≡ lookup (is_key key) levels) →
    IfOk r (λ found. IfSome found (λ level. IsLevelBy graphs key (arc_value level)))
found_serves graphs levels are key (Ok None) is = tt
found_serves graphs levels are key (Ok (Some level)) is = found_by graphs levels are key (arc_value level) (sym is)
found_serves graphs levels are key (Err error) is = tt
