-- One actor of a level, and one configuration actor.
use Rattle.std.proofs.Common.{◌≡◌, ℕ, zero, suc, ◌+◌, ◌-◌, ◌<◌, ◌^◌, ℤ, Bool, true, false, List, [], ◌∷◌, length, get_or, slice_get, Option, Some, None, Result, Ok, Err, OnOk, if◌then◌else◌, nat_lt, refl, ap, sym, ◌∙◌, subst, arith}
use Rattle.std.specs.List.{All}
use Rattle.std.proofs.lemmas.Bool.{lt-ltb, le-ltb}
use Rattle.std.proofs.lemmas.List.{get_or_default, length-map}
use Rattle.std.proofs.lemmas.Option.{slice_get-get_or, slice_get_within}
use Rattle.kernel_gate.specs.Signed.{Counts}
use Rattle.kernel_gate.specs.Table.{the_value}
use Rattle.param_expr.specs.Tree.{Tree}
use Rattle.param_resolver.specs.EarlyCheck.{early_of, early_faults}
use Rattle.param_resolver.specs.EarlyView.{EarlyView, forest_of, trees_of}
use Rattle.param_resolver.specs.LevelOf.{level_args, out_rates}
use Rattle.param_resolver.specs.Numbering.{acting, has_state, level_inputs, state_size}
use Rattle.pisdf_model.specs.Parts.{input_count, inputs_of}
use Rattle.pisdf_model.specs.declared.actor.Actor.{Actor}
use Rattle.pisdf_model.specs.declared.actor.Body.{Body}
use Rattle.pisdf_model.specs.declared.actor.Body.TheVariants.{Kernel, Config, Child, ConfigChild}
use Rattle.pisdf_model.specs.declared.actor.Port.{Port}
use Rattle.pisdf_model.specs.declared.graph.Graph.{Graph}
use Rattle.pisdf_model.specs.declared.graph.Graphs.{Graphs}
use Rattle.pisdf_model.specs.declared.graph.Interface as interface
use Rattle.sdf_level.specs.Invariants.{how_many}
use Rattle.sdf_level.specs.Run.{is_into_actor}
use Rattle.pisdf_meaning.specs.Configuring.{Leaves, child_leaves, config_firing}
use Rattle.pisdf_meaning.specs.Endings.{Ends}
use Rattle.pisdf_meaning.specs.Kernels.{FitsKernel}
use Rattle.pisdf_meaning.specs.Meaning.{MeansWithin}
use Rattle.pisdf_meaning.specs.Nested.{Holds, IsUnderway, actor_fires, configuration_at}
use Rattle.pisdf_meaning.specs.PartsOf.{ActorParts, HasChild, HasRates}
use Rattle.pisdf_meaning.specs.Prepared.{IsPrepared}
use Rattle.pisdf_meaning.specs.Running.{FiresActor, FiresBody, FiresChild, child_fires, child_firing, kernel_fires}
use Rattle.pisdf_meaning.specs.Sound.{BodyFits, ChildWithin, GraphFits, IsConfiguration, KnowsBody, NestsWithin, actor_at, no_actor}
use Rattle.pisdf_meaning.specs.States.{tokens_at}
use Rattle.pisdf_meaning.specs.declared.firing.Configured.{Configured}
use Rattle.pisdf_meaning.specs.declared.firing.Firing.{Firing}
use Rattle.pisdf_meaning.specs.declared.firing.Given.{Given}
use Rattle.pisdf_meaning.specs.declared.firing.Made.{Made}
use Rattle.pisdf_meaning.specs.declared.outcome.TraceRow.{TraceRow}
use Rattle.pisdf_meaning.specs.declared.parts.Prepared as prepared_parts
use Rattle.pisdf_meaning.specs.declared.refusal.Refusal.{Refusal}

-- ---- lists

-- the element at a place of the same list
pub element_of : {T : Type 0} (xs ys : List T) (i : ℕ) (x : T) → xs ≡ ys → i < length ys → x ≡ get_or xs i x → slice_get ys i ≡ Some x
element_of xs ys i x same inside is =
    let at : x ≡ get_or ys i x = is ∙ ap (λ (l : List _). get_or l i x) same in
    slice_get-get_or ys i x inside ∙ ap Some (sym at)

-- what holds of all holds of one
pub holds_of : {T : Type 0} (P : T → Type 0) (xs : List T) (i : ℕ) (x : T) → slice_get xs i ≡ Some x → All P xs → P x
holds_of P xs i x is all =
    let inside = slice_get_within xs i x is in
    let same : get_or xs i x ≡ x = let e = sym (slice_get-get_or xs i x inside) ∙ is in cc in
    subst P same (all i x inside)

-- ---- graphs nested in each other

pub nests_some : (n : ℕ) (graphs : List Graph) (place : ℕ) → NestsWithin n graphs place → 0 < n
nests_some zero graphs place nests = absurd nests
nests_some (suc n) graphs place nests = omega arith

pub nests_there : (n : ℕ) (graphs : List Graph) (place : ℕ) → NestsWithin n graphs place → place < length graphs
nests_there zero graphs place nests = absurd nests
nests_there (suc n) graphs place nests = slice_get_within graphs place nests.0 nests.1

pub nests_below : (n : ℕ) (graphs : List Graph) (place : ℕ) (g : Graph) → slice_get graphs place ≡ Some g → NestsWithin n graphs place → All (λ (a : Actor). ChildWithin (NestsWithin (n - 1) graphs) a.body) g.actors
nests_below zero graphs place g here nests = absurd nests
nests_below (suc n) graphs place g here nests =
    let less : n ≡ suc n - 1 = omega arith in
    let same : nests.0 ≡ g = let e = sym nests.1 ∙ here in cc in
    let P : ℕ → Type 0 = λ m. All (λ (a : Actor). ChildWithin (NestsWithin m graphs) a.body) g.actors in
    let Q : Graph → Type 0 = λ x. All (λ (a : Actor). ChildWithin (NestsWithin n graphs) a.body) x.actors in
    subst P less (subst Q same nests.2)

pub same_known : (o : Option (Option EarlyView)) (x y : EarlyView) → o ≡ Some (Some x) → o ≡ Some (Some y) → x ≡ y
same_known o x y is as_well = let e : Some (Some x) ≡ Some (Some y) = sym is ∙ as_well in cc

pub at_place : (g : Graph) (xs : List Actor) (place : ℕ) (x : Actor) → xs ≡ g.actors → place < length g.actors → x ≡ get_or xs place x → x ≡ actor_at g place
at_place g xs place x same inside is = is ∙ ap (λ (l : List Actor). get_or l place x) same ∙ get_or_default g.actors place x no_actor inside

-- ---- whether an actor's state goes on

pub keeps_so : (inputs count : ℕ) (b : Bool) → count ≡ inputs + (if b then 1 else 0) → nat_lt inputs count ≡ b
keeps_so inputs count true is = lt-ltb inputs count (omega arith)
keeps_so inputs count false is = le-ltb inputs count (omega arith)

-- ---- an actor of a level

module _ (signatures : List Counts) (n : ℕ) (graphs : Graphs) (g : Graph) (firing : Firing) (p : prepared_parts.Prepared) (holds : Holds signatures n graphs g) (prepared : IsPrepared graphs.graphs g firing p)
    (b : ℕ) (h : b < p.parts.level.actors) (items : List Actor) (places : List ℕ) (x : Actor) (items_are : items ≡ g.actors) (places_are : places ≡ p.parts.places) (x_is : x ≡ get_or items (get_or places b 0) x) where
  there : slice_get g.actors (get_or p.parts.places b 0) ≡ Some x
  there = element_of items g.actors (get_or p.parts.places b 0) x items_are (prepared.parts.inside b h) (x_is ∙ ap (λ (l : List ℕ). get_or items (get_or l b 0) x) places_are)

  acts : slice_get (acting g) b ≡ Some x
  acts = prepared.parts.places b h ∙ there

  known : ActorParts graphs.graphs p.values p.parts b x
  known = prepared.parts.actors b x h acts

  fits : BodyFits signatures graphs.graphs x.body
  fits = holds_of (λ (a : Actor). BodyFits signatures graphs.graphs a.body) g.actors (get_or p.parts.places b 0) x there holds.here.fit

  within : ChildWithin (NestsWithin n graphs.graphs) x.body
  within = holds_of (λ (a : Actor). ChildWithin (NestsWithin n graphs.graphs) a.body) g.actors (get_or p.parts.places b 0) x there holds.nests

  pub reads_so : (read : List (List ℤ)) → length read ≡ how_many (is_into_actor b) p.parts.level.links → length read ≡ level_inputs graphs.graphs x
  reads_so read count = count ∙ known.ins

  fires_so : (ends : Ends) (args : List ℤ) (k : ℕ) (trace : List TraceRow) (read : List (List ℤ)) (answer : Result (List (List ℤ)) Refusal) → args ≡ tokens_at p.parts.args b →
      FiresBody graphs.graphs ends firing p.values args x x.body k trace read answer → actor_fires graphs.graphs ends g firing p.values b k trace read answer
  fires_so ends args k trace read answer args_are fires =
      let same : args ≡ tokens_at (level_args g p.values) b = args_are ∙ ap (λ (l : List (List ℤ)). tokens_at l b) prepared.parts.args in
      let P : List ℤ → Type 0 = λ l. FiresBody graphs.graphs ends firing p.values l x x.body k trace read answer in
      let Q : Option Actor → Type 0 = λ o. FiresActor graphs.graphs ends firing p.values (tokens_at (level_args g p.values) b) o k trace read answer in
      subst Q (sym acts) (subst P same fires)

  module _ (kernel : ℕ) (exprs : List Tree) (ins outs : List Port) (is : x.body ≡ Kernel kernel exprs ins outs) (args : List ℤ) (rates : List ℕ)
      (args_are : args ≡ tokens_at p.parts.args b) (rates_are : rates ≡ get_or p.parts.outs b []) (read : List (List ℤ)) (read_is : length read ≡ how_many (is_into_actor b) p.parts.level.links) where
    kernel_fit : FitsKernel signatures kernel (length exprs) (length ins) (length outs) 0
    kernel_fit = subst (BodyFits signatures graphs.graphs) is fits

    has : HasRates graphs.graphs p.values (tokens_at p.parts.args b) (get_or p.parts.outs b []) (Kernel kernel exprs ins outs)
    has = subst (HasRates graphs.graphs p.values (tokens_at p.parts.args b) (get_or p.parts.outs b [])) is known.rates

    pub kernel_fits : FitsKernel signatures kernel (length args) (length read) (length rates) 0
    kernel_fits =
        let same_args : length args ≡ length exprs = ap length args_are ∙ has.1 in
        let same_rates : length rates ≡ length outs = ap length (rates_are ∙ has.0) ∙ length-map outs _ in
        let P : Body → Type 0 = λ body. how_many (is_into_actor b) p.parts.level.links ≡ input_count graphs.graphs body + (if nat_lt 0 (state_size graphs.graphs body) then 1 else 0) in
        let ins_are = subst P is known.ins in
        let names = length-map ins (λ (q : Port). q.name) in
        let same_ins : length read ≡ length ins = omega arith in
        rw (same_args, same_ins, same_rates) kernel_fit

    pub kernel_fires_so : (ends : Ends) (k : ℕ) (trace : List TraceRow) (answer : Result (List (List ℤ)) Refusal) → OnOk answer (trace ≡ []) → answer ≡ kernel_fires firing.path x.name k (the_value kernel args read rates 0) →
        actor_fires graphs.graphs ends g firing p.values b k trace read answer
    kernel_fires_so ends k trace answer nothing gives =
        let same : rates ≡ out_rates graphs.graphs p.values x.body = rates_are ∙ has.0 ∙ ap (out_rates graphs.graphs p.values) (sym is) in
        let now : answer ≡ kernel_fires firing.path x.name k (the_value kernel args read (out_rates graphs.graphs p.values x.body) 0) = gives ∙ ap (λ (l : List ℕ). kernel_fires firing.path x.name k (the_value kernel args read l 0)) same in
        let P : Body → Type 0 = λ body. FiresBody graphs.graphs ends firing p.values args x body k trace read answer in
        fires_so ends args k trace read answer args_are (subst P (sym is) (nothing, now))

  module _ (place : ℕ) (exprs : List Tree) (is : x.body ≡ Child place exprs) where
    pub child_nests : NestsWithin n graphs.graphs place
    child_nests = subst (ChildWithin (NestsWithin n graphs.graphs)) is within

    pub child_inputs : input_count graphs.graphs x.body ≡ length (inputs_of (slice_get graphs.graphs place))
    child_inputs = ap (input_count graphs.graphs) is ∙ length-map (inputs_of (slice_get graphs.graphs place)) (λ (i : interface.Interface). i.name)

    has_child : HasChild graphs.graphs (tokens_at p.parts.args b) (slice_get p.parts.children b) (Child place exprs)
    has_child = subst (HasChild graphs.graphs (tokens_at p.parts.args b) (slice_get p.parts.children b)) is known.child

    module _ (args : List ℤ) (args_are : args ≡ tokens_at p.parts.args b) where
      pub child_is : (children : List (Option EarlyView)) → children ≡ p.parts.children → slice_get children b ≡ Some (Some (early_of graphs.graphs place args))
      child_is children same = ap (λ (l : List (Option EarlyView)). slice_get l b) same ∙ has_child.0 ∙ ap (λ (l : List ℤ). Some (Some (early_of graphs.graphs place l))) (sym args_are)

      pub child_sound : early_faults graphs.graphs place args ≡ []
      child_sound = ap (early_faults graphs.graphs place) args_are ∙ has_child.1

      pub child_fires_so : (ends : Ends) (k : ℕ) (trace : List TraceRow) (read : List (List ℤ)) (answer : Result (List (List ℤ)) Refusal) →
          FiresChild graphs.graphs ends firing args x place k trace read answer → actor_fires graphs.graphs ends g firing p.values b k trace read answer
      child_fires_so ends k trace read answer fires =
          let P : Body → Type 0 = λ body. FiresBody graphs.graphs ends firing p.values args x body k trace read answer in
          fires_so ends args k trace read answer args_are (subst P (sym is) fires)

  -- a configuration actor doesn't fire in the level
  pub no_config : (kernel : ℕ) (exprs : List Tree) (ins : List (List ℕ)) (outs : List Port) (sets : List ℕ) → x.body ≡ Config kernel exprs ins outs sets → ⊥
  no_config kernel exprs ins outs sets is = subst (HasChild graphs.graphs (tokens_at p.parts.args b) (slice_get p.parts.children b)) is known.child

  pub no_config_child : (place : ℕ) (exprs : List Tree) (sets : List ℕ) → x.body ≡ ConfigChild place exprs sets → ⊥
  no_config_child place exprs sets is = subst (HasChild graphs.graphs (tokens_at p.parts.args b) (slice_get p.parts.children b)) is known.child

-- ---- a configuration actor

-- the trees of a forest are those that it was made of
pub trees_of-forest_of : (items : List (Option EarlyView)) → trees_of (forest_of items) ≡ items
trees_of-forest_of [] = refl
trees_of-forest_of (None ∷ rest) = ap (λ l. None ∷ l) (trees_of-forest_of rest)
trees_of-forest_of (Some e ∷ rest) = ap (λ l. Some e ∷ l) (trees_of-forest_of rest)

module _ (signatures : List Counts) (n : ℕ) (graphs : Graphs) (g : Graph) (firing : Firing) (early : EarlyView) (underway : IsUnderway signatures n graphs g firing early)
    (number a : ℕ) (is : IsConfiguration g number a) (x : Actor) (x_is : x ≡ actor_at g a) where
  at : slice_get g.actors a ≡ Some x
  at = slice_get-get_or g.actors a no_actor is.inside ∙ ap Some (sym x_is)

  config_fit : BodyFits signatures graphs.graphs x.body
  config_fit =
      let here : GraphFits signatures graphs.graphs g = holds_of (λ (y : Graph). GraphFits signatures graphs.graphs y) graphs.graphs firing.graph g underway.here underway.can.fit.fit in
      holds_of (λ (y : Actor). BodyFits signatures graphs.graphs y.body) g.actors a x at here.fit

  config_within : ChildWithin (NestsWithin n graphs.graphs) x.body
  config_within = holds_of (λ (y : Actor). ChildWithin (NestsWithin n graphs.graphs) y.body) g.actors a x at underway.nests

  knows : KnowsBody graphs.graphs early number x.body
  knows =
      let all = (underway.can.fit.know firing.graph g firing.inherited underway.here underway.sound).each number a is in
      let P : EarlyView → Type 0 = λ e. KnowsBody graphs.graphs e number (actor_at g a).body in
      let Q : Actor → Type 0 = λ y. KnowsBody graphs.graphs early number y.body in
      subst Q (sym x_is) (subst P (sym underway.early_is) all)

  pub few : length g.fifos + a < 2 ^ 64
  few =
      let here : GraphFits signatures graphs.graphs g = holds_of (λ (y : Graph). GraphFits signatures graphs.graphs y) graphs.graphs firing.graph g underway.here underway.can.fit.fit in
      let fifos = here.few_fifos in
      let actors = here.few_actors in
      let inside = is.inside in
      omega arith

  module _ (kernel : ℕ) (exprs : List Tree) (ins : List (List ℕ)) (outs : List Port) (sets : List ℕ) (body_is : x.body ≡ Config kernel exprs ins outs sets) where
    config_kernel : BodyFits signatures graphs.graphs (Config kernel exprs ins outs sets)
    config_kernel = subst (BodyFits signatures graphs.graphs) body_is config_fit

    config_known : KnowsBody graphs.graphs early number (Config kernel exprs ins outs sets)
    config_known = subst (KnowsBody graphs.graphs early number) body_is knows

    pub few_sets : length sets < 2 ^ 32
    few_sets = config_kernel.1

    pub config_fits : FitsKernel signatures kernel (length (tokens_at early.args number)) (length ins) (length (get_or early.outs number [])) (length sets)
    config_fits = rw (config_known.0, config_known.1) config_kernel.0

  module _ (place : ℕ) (exprs : List Tree) (sets : List ℕ) (body_is : x.body ≡ ConfigChild place exprs sets) where
    pub config_nests : NestsWithin n graphs.graphs place
    config_nests = subst (ChildWithin (NestsWithin n graphs.graphs)) body_is config_within

    config_child_known : KnowsBody graphs.graphs early number (ConfigChild place exprs sets)
    config_child_known = subst (KnowsBody graphs.graphs early number) body_is knows

    pub config_inputs : (actors_body : Body) → actors_body ≡ x.body → input_count graphs.graphs actors_body ≡ length (inputs_of (slice_get graphs.graphs place))
    config_inputs actors_body same = ap (input_count graphs.graphs) (same ∙ body_is) ∙ length-map (inputs_of (slice_get graphs.graphs place)) (λ (i : interface.Interface). i.name)

    pub config_child : slice_get (trees_of early.children) number ≡ Some (Some (early_of graphs.graphs place (tokens_at early.args number)))
    config_child = config_child_known.2

    pub config_sound : early_faults graphs.graphs place (tokens_at early.args number) ≡ []
    config_sound = config_child_known.3

    pub config_outs : get_or early.outs number [] ≡ (early_of graphs.graphs place (tokens_at early.args number)).outputs
    config_outs = config_child_known.1

    module _ (inner : Firing) (inner_is : inner ≡ config_firing graphs.graphs g firing (configuration_at g number a) place) where
      graph_is : inner.graph ≡ place
      graph_is = ap (λ (f : Firing). f.graph) inner_is

      inherited_is : inner.inherited ≡ tokens_at early.args number
      inherited_is = ap (λ (f : Firing). f.inherited) inner_is ∙ ap (λ (e : EarlyView). tokens_at e.args number) (sym underway.early_is)

      pub inner_nests : NestsWithin n graphs.graphs inner.graph
      inner_nests = subst (NestsWithin n graphs.graphs) (sym graph_is) config_nests

      pub inner_sound : early_faults graphs.graphs inner.graph inner.inherited ≡ []
      inner_sound =
          let P : ℕ → Type 0 = λ k. early_faults graphs.graphs k inner.inherited ≡ [] in
          let Q : List ℤ → Type 0 = λ l. early_faults graphs.graphs place l ≡ [] in
          subst P (sym graph_is) (subst Q (sym inherited_is) config_sound)

      pub inner_early : (known : EarlyView) (o : Option (Option EarlyView)) → o ≡ slice_get (trees_of early.children) number → o ≡ Some (Some known) → known ≡ early_of graphs.graphs inner.graph inner.inherited
      inner_early known o is found =
          same_known o known (early_of graphs.graphs place (tokens_at early.args number)) found (is ∙ config_child)
          ∙ ap (early_of graphs.graphs place) (sym inherited_is) ∙ ap (λ k. early_of graphs.graphs k inner.inherited) (sym graph_is)

      pub inner_outs : (known : EarlyView) (o : Option (Option EarlyView)) → o ≡ slice_get (trees_of early.children) number → o ≡ Some (Some known) → known.outputs ≡ get_or early.outs number []
      inner_outs known o is found = ap (λ (e : EarlyView). e.outputs) (same_known o known (early_of graphs.graphs place (tokens_at early.args number)) found (is ∙ config_child)) ∙ sym config_outs

      pub config_leaves_so : (given : Given) → MeansWithin n graphs.graphs inner (Ok given) → (one : Configured) → Ok one ≡ child_leaves (Ok given) →
          Leaves graphs.graphs (MeansWithin n graphs.graphs) g firing (configuration_at g number a) x.body (Ok one)
      config_leaves_so given means one leaves =
          let P : Firing → Type 0 = λ f. MeansWithin n graphs.graphs f (Ok given) in
          let Q : Body → Type 0 = λ body. Leaves graphs.graphs (MeansWithin n graphs.graphs) g firing (configuration_at g number a) body (Ok one) in
          subst Q (sym body_is) (Ok given, subst P inner_is means, leaves)

-- ---- the firing of a child

module _ (graphs items : List Graph) (firing : Firing) (x : Actor) (place k : ℕ) (args : List ℤ) (read counted : List (List ℤ)) (inputs : ℕ) (inner : Firing)
    (items_are : items ≡ graphs) (counted_are : counted ≡ read) (inputs_is : inputs ≡ length (inputs_of (slice_get items place)))
    (ports : input_count graphs x.body ≡ length (inputs_of (slice_get graphs place))) (reads : length read ≡ level_inputs graphs x)
    (inner_is : inner ≡ child_firing items firing x.name k args (nat_lt inputs (length counted)) place inputs read) where
  ports_are : inputs ≡ input_count graphs x.body
  ports_are = inputs_is ∙ ap (λ (l : List Graph). length (inputs_of (slice_get l place))) items_are ∙ sym ports

  pub keeps_is : nat_lt inputs (length counted) ≡ has_state graphs x
  keeps_is = ap (λ m. nat_lt m (length counted)) ports_are ∙ ap (λ (l : List (List ℤ)). nat_lt (input_count graphs x.body) (length l)) counted_are ∙ keeps_so (input_count graphs x.body) (length read) (has_state graphs x) reads

  pub inner_so : inner ≡ child_firing graphs firing x.name k args (has_state graphs x) place (input_count graphs x.body) read
  inner_so = inner_is ∙ ap (λ (l : List Graph). child_firing l firing x.name k args (nat_lt inputs (length counted)) place inputs read) items_are
      ∙ ap (λ b. child_firing graphs firing x.name k args b place inputs read) keeps_is ∙ ap (λ m. child_firing graphs firing x.name k args (has_state graphs x) place m read) ports_are

module _ (n : ℕ) (graphs : List Graph) (firing : Firing) (x : Actor) (place k : ℕ) (args : List ℤ) (read : List (List ℤ)) (inner : Firing)
    (inner_is : inner ≡ child_firing graphs firing x.name k args (has_state graphs x) place (input_count graphs x.body) read) where
  pub child_made_so : (keeps : Bool) → keeps ≡ has_state graphs x → (given : Given) → MeansWithin n graphs inner (Ok given) → (made : Made) → made.trace ≡ given.trace → Ok made.outs ≡ child_fires keeps (Ok given) →
      FiresChild graphs (MeansWithin n graphs) firing args x place k made.trace read (Ok made.outs)
  child_made_so keeps keeps_are given means made same outs =
      let P : Firing → Type 0 = λ f. MeansWithin n graphs f (Ok given) in
      (Ok given, subst P inner_is means, same, outs ∙ ap (λ b. child_fires b (Ok given)) keeps_are)

  pub child_refused_so : (refusal : Refusal) → MeansWithin n graphs inner (Err refusal) → (trace : List TraceRow) → FiresChild graphs (MeansWithin n graphs) firing args x place k trace read (Err refusal)
  child_refused_so refusal means trace =
      let P : Firing → Type 0 = λ f. MeansWithin n graphs f (Err refusal) in
      (Err refusal, subst P inner_is means, tt, refl)
