-- A firing of a graph gives outputs as long as their rates, and leaves lists as long as those that the graph begins with.
use Rattle.std.proofs.Common.{◌≡◌, ℕ, zero, suc, ◌+◌, ◌<◌, nat_lt, Bool, true, false, cond, ⊎_elim, ℤ, List, [], ◌∷◌, ◌++◌, length, map, slice_get, slice_index, Option, Some, None, Result, Ok, Err, refl, ap, sym, ◌∙◌, subst, arith}
use Rattle.std.specs.List.{AllByRecursion, filter, flat_map}
use Rattle.std.proofs.lemmas.Bool.{cases_Bool}
use Rattle.std.proofs.lemmas.List.{append-nil, get_or-append-add, get_or_append_left, length-map}
use Rattle.std.proofs.lemmas.Option.{get_or_from_slice_get, slice_get_within}
use Rattle.kernel_gate.specs.Laws.{HasLengths}
use Rattle.kernel_gate.specs.Signed.{Counts}
use Rattle.kernel_gate.specs.Table.{the_value}
use Rattle.kernel_gate.specs.Value.{Answer, Gives, Faults, lengths}
use Rattle.level_schedule.specs.Schedules.{IsScheduled}
use Rattle.level_schedule.specs.declared.scheduling.LevelSchedule.{LevelSchedule}
use Rattle.param_expr.specs.Tree.{Tree}
use Rattle.param_resolver.specs.EarlyCheck.{Checked, check_by, check_to, early_faults, early_of}
use Rattle.param_resolver.specs.LevelOf.{acting_args, acting_faults, level_args, level_faults, links_of, out_rates}
use Rattle.param_resolver.specs.Numbering.{acting, fires, has_state, is_kept, output_count, state_size}
use Rattle.param_resolver.specs.Rates.{arg_faults, arg_values, port_rates}
use Rattle.param_resolver.specs.Refusal as part
use Rattle.pisdf_model.specs.Details.{from_number}
use Rattle.pisdf_model.specs.Hold.{actor_state, graph_state, in_line, initial}
use Rattle.pisdf_model.specs.InterfaceWires.{is_configuration}
use Rattle.pisdf_model.specs.Parts.{input_count, outputs_of}
use Rattle.pisdf_model.specs.declared.actor.Actor.{Actor}
use Rattle.pisdf_model.specs.declared.actor.Body.{Body}
use Rattle.pisdf_model.specs.declared.actor.Body.TheVariants.{Kernel, Config, Child, ConfigChild}
use Rattle.pisdf_model.specs.declared.fifo.Fifo.{Fifo}
use Rattle.pisdf_model.specs.declared.graph.Graph.{Graph}
use Rattle.pisdf_model.specs.declared.graph.Interface.{Interface}
use Rattle.pisdf_model.proofs.Lists.{left_none, right_none, unmapped}
use Rattle.sdf_level.specs.View.{LevelView}
use Rattle.sdf_level.specs.Firings.{firings}
use Rattle.sdf_level.specs.Invariants.{IsLevel, how_many}
use Rattle.sdf_level.specs.LevelRun.{Ended, GivesRates, HaveDelays, HaveRates, IsEnd, end_of, left_of}
use Rattle.sdf_level.specs.Run.{Runs, inputs, is_into_actor}
use Rattle.sdf_level.proofs.KeptLengths.{keeps_rates, leaves_delays}
use Rattle.pisdf_meaning.specs.Causes.{unless_refused}
use Rattle.pisdf_meaning.specs.Configuring.{Configuration, Configures, Leaves, child_leaves, config_answer, config_firing, early_in, kernel_leaves}
use Rattle.pisdf_meaning.specs.Endings.{End, Ends, Then}
use Rattle.pisdf_meaning.specs.Meaning.{FiresGraph, MeansWithin}
use Rattle.pisdf_meaning.specs.Preparing.{Schedules, level_in, rated, resolved}
use Rattle.pisdf_meaning.specs.Running.{Fires, FiresActor, FiresBody, RunsLevel, child_fires, child_firing, child_state, given_by, kernel_fires, link_starts, source_tokens, state_after}
use Rattle.kernel_gate.specs.Laws.{GiveLengths}
use Rattle.pisdf_meaning.specs.Sizes.{HasSizes, IsWired, KeepsSizes, MakesLevels}
use Rattle.pisdf_meaning.specs.Sound.{AllFit, BodyFits, GraphFits, IsConfiguration, KnowsBody, actor_at, no_actor}
use Rattle.pisdf_meaning.specs.States.{actor_list, tokens_at}
use Rattle.pisdf_meaning.specs.declared.firing.Configured.{Configured}
use Rattle.pisdf_meaning.specs.declared.firing.Firing.{Firing}
use Rattle.pisdf_meaning.specs.declared.firing.Given.{Given}
use Rattle.pisdf_meaning.specs.declared.outcome.TraceRow.{TraceRow}
use Rattle.pisdf_meaning.specs.declared.refusal.Refusal.{Refusal}
use Rattle.pisdf_meaning.proofs.LineSizes.{HaveSizes, narrowed, own_reads, runs_narrowed, sizes_start}
use Rattle.pisdf_meaning.proofs.LinkSizes.{OutsFit, Placed, all_own, no_delay, placed, rates_given, some_own}
use Rattle.pisdf_meaning.proofs.StateSizes.{StateFits, actor_size, begun_sizes, same_line, size_at, starts_fit, state_fits, state_in_sizes, state_left}

-- ---- what is given after a step

pub record Gone {S T : Type 0} (next : S → Result T Refusal → Type 0) (r : Result S Refusal) (given : T) : Type 0 where
  pub one : S
  pub is : r ≡ Ok one
  pub goes : next one (Ok given)

pub gone : {S T : Type 0} (next : S → Result T Refusal → Type 0) (r : Result S Refusal) (given : T) → Then next r (Ok given) → Gone next r given
gone next (Ok s) given f = record { one = s; is = refl; goes = f }
gone next (Err refusal) given f = absurd (cc)

-- ---- early checks

outputs_by : (check : ℕ → List ℤ → Checked) (graphs : List Graph) (o : Option Graph) (inherited : List ℤ) → length (check_by check graphs o inherited).early.outputs ≡ length (outputs_of o)
outputs_by check graphs None inherited = refl
outputs_by check graphs (Some g) inherited = length-map {A = Interface} g.outputs _

outputs_to : (n : ℕ) (graphs : List Graph) (place : ℕ) (inherited : List ℤ) → length (check_to (suc n) graphs place inherited).early.outputs ≡ length (outputs_of (slice_get graphs place))
unfolding check_to
outputs_to n graphs place inherited = outputs_by (check_to n graphs) graphs (slice_get graphs place) inherited

pub outputs_many : (graphs : List Graph) (place : ℕ) (inherited : List ℤ) (exprs : List Tree) → length (early_of graphs place inherited).outputs ≡ output_count graphs (Child place exprs)
outputs_many graphs place inherited exprs = outputs_to 7 graphs place inherited ∙ sym (length-map (outputs_of (slice_get graphs place)) (λ (x : Interface). x.name))

-- ---- the arguments and faults of the actors of a level

abbrev pub body_args : List ℤ → Body → List ℤ
body_args values (Kernel kernel args ins outs) = arg_values values args
body_args values (Config kernel args ins outs sets) = []
body_args values (Child place args) = arg_values values args
body_args values (ConfigChild place args sets) = []

one_args : (values : List ℤ) (body : Body) → is_configuration body ≡ false → acting_args values body ≡ body_args values body ∷ []
one_args values (Kernel kernel args ins outs) acts = refl
one_args values (Config kernel args ins outs sets) acts = absurd (cc)
one_args values (Child place args) acts = refl
one_args values (ConfigChild place args sets) acts = absurd (cc)

no_args : (values : List ℤ) (body : Body) → is_configuration body ≡ true → acting_args values body ≡ []
no_args values (Kernel kernel args ins outs) config = absurd (cc)
no_args values (Config kernel args ins outs sets) config = refl
no_args values (Child place args) config = absurd (cc)
no_args values (ConfigChild place args sets) config = refl

abbrev args_of : List ℤ → List Actor → List (List ℤ)
args_of values actors = flat_map (λ (x : Actor). acting_args values x.body) actors

args_here : (values : List ℤ) (y : Actor) (actors : List Actor) (x : Actor) (n : ℕ) → slice_get (y ∷ filter fires actors) n ≡ Some x → ((m : ℕ) → slice_get (filter fires actors) m ≡ Some x → tokens_at (args_of values actors) m ≡ body_args values x.body) →
    tokens_at (body_args values y.body ∷ args_of values actors) n ≡ body_args values x.body
args_here values y actors x zero is again = let same : y ≡ x = cc in ap (λ (z : Actor). body_args values z.body) same
args_here values y actors x (suc n) is again = again n is

pub args_at : (values : List ℤ) (actors : List Actor) (b : ℕ) (x : Actor) → slice_get (filter fires actors) b ≡ Some x → tokens_at (args_of values actors) b ≡ body_args values x.body
args_at values [] b x is = absurd (cc)
args_at values (y ∷ actors) b x is = ⊎_elim
    (λ (config : is_configuration y.body ≡ true).
    let first : filter fires (y ∷ actors) ≡ filter fires actors = rw config refl in
    ap (λ (l : List (List ℤ)). tokens_at (l ++ args_of values actors) b) (no_args values y.body config) ∙ args_at values actors b x (ap (λ l. slice_get l b) (sym first) ∙ is))
    (λ (acts : is_configuration y.body ≡ false).
    let first : filter fires (y ∷ actors) ≡ y ∷ filter fires actors = rw acts refl in
    ap (λ (l : List (List ℤ)). tokens_at (l ++ args_of values actors) b) (one_args values y.body acts)
    ∙ args_here values y actors x b (ap (λ l. slice_get l b) (sym first) ∙ is) (λ m e. args_at values actors m x e))
    (cases_Bool (is_configuration y.body))

pub none_each : {X Y : Type 0} (f : ℕ → X → List Y) (n : ℕ) (xs : List X) → from_number n f xs ≡ [] → (i : ℕ) (x : X) → slice_get xs i ≡ Some x → f (n + i) x ≡ []
none_each f n [] none i x is = absurd (cc)
none_each f n (y ∷ xs) none zero x is =
    let same : y ≡ x = cc in
    let zeroth : n ≡ n + 0 = omega arith in
    let P : ℕ → Type 0 = λ m. f m x ≡ [] in
    let Q : _ → Type 0 = λ z. f n z ≡ [] in
    subst P zeroth (subst Q same (left_none (f n y) (from_number (n + 1) f xs) none))
none_each f n (y ∷ xs) none (suc i) x is =
    let e : (n + 1) + i ≡ n + suc i = omega arith in
    let P : ℕ → Type 0 = λ m. f m x ≡ [] in
    subst P e (none_each f (n + 1) xs (right_none (f n y) (from_number (n + 1) f xs) none) i x is)

pub child_sound : (graphs : List Graph) (values : List ℤ) (a : ℕ) (name : List ℕ) (body : Body) (place : ℕ) (exprs : List Tree) → body ≡ Child place exprs → acting_faults graphs values a name body ≡ [] → early_faults graphs place (arg_values values exprs) ≡ []
child_sound graphs values a name body place exprs is none =
    let P : Body → Type 0 = λ x. acting_faults graphs values a name x ≡ [] in
    unmapped (part.child a) (early_faults graphs place (arg_values values exprs)) (right_none (arg_faults values name exprs) (map (part.child a) (early_faults graphs place (arg_values values exprs))) (subst P is none))

-- ---- what is known of a graph

pub record Levelled (graphs : List Graph) (place : ℕ) (g : Graph) : Type 0 where
  pub wired : AllByRecursion (IsWired graphs g) g.fifos
  pub begins : initial graphs place ≡ graph_state (initial graphs) (Some g)
  pub makes : MakesLevels graphs place g

-- a firing within so many graphs keeps the lengths
abbrev pub KeepsTo : List Graph → Ends → Type 0
KeepsTo graphs ends = (firing : Firing) (given : Given) →
    early_faults graphs firing.graph firing.inherited ≡ [] → lengths firing.state ≡ lengths (initial graphs firing.graph) → ends firing (Ok given) → HasSizes graphs firing given

module _ (signatures : List Counts) (graphs : List Graph) (fit : AllFit signatures graphs) (give : GiveLengths signatures) (ends : Ends) (keeps : KeepsTo graphs ends) (g : Graph) (firing : Firing)
    (here : slice_get graphs firing.graph ≡ Some g) (levelled : Levelled graphs firing.graph g) (sound : early_faults graphs firing.graph firing.inherited ≡ []) (long : lengths firing.state ≡ lengths (initial graphs firing.graph)) where
  fits : StateFits graphs g firing.state
  fits = state_fits graphs g firing.state (long ∙ ap lengths levelled.begins)

  graph_fits : GraphFits signatures graphs g
  graph_fits = let P : Graph → Type 0 = λ x. GraphFits signatures graphs x in subst P (get_or_from_slice_get graphs firing.graph g g here) (fit.fit firing.graph g (slice_get_within graphs firing.graph g here))

  -- ---- configuration actors

  kernel_state : (path name : List ℕ) (answer : Answer) (one : Configured) → Ok one ≡ kernel_leaves path name answer → length one.state ≡ 0
  kernel_state path name (Gives outs sets) one e = let same : one ≡ record { outs = outs; sets = sets; state = []; trace = [] } = cc in ap (λ (c : Configured). length c.state) same
  kernel_state path name (Faults code) one e = absurd (cc)

  child_leaves_state : (end : End) (one : Configured) (place : ℕ) → Ok one ≡ child_leaves end → ((given : Given) → end ≡ Ok given → lengths given.state ≡ lengths (initial graphs place)) → length one.state ≡ length (in_line (initial graphs place))
  child_leaves_state (Ok given) one place e sizes =
      let same : one ≡ record { outs = given.outs; sets = given.exports; state = in_line given.state; trace = given.trace } = cc in
      ap (λ (c : Configured). length c.state) same ∙ same_line given.state (initial graphs place) (sizes given refl)
  child_leaves_state (Err refusal) one place e sizes = absurd (cc)

  leaves_size : (c : Configuration) (x : Actor) (one : Configured) (body : Body) → x.body ≡ body → c.place ≡ c.place → slice_get g.actors c.place ≡ Some x → KnowsBody graphs (early_in graphs firing) c.number body → Leaves graphs ends g firing c body (Ok one) → length one.state ≡ length (actor_state (initial graphs) body)
  leaves_size c x one (Kernel kernel args ins outs) is self there knows leaves = absurd leaves
  leaves_size c x one (Child place args) is self there knows leaves = absurd leaves
  leaves_size c x one (Config kernel args ins outs sets) is self there knows leaves = kernel_state firing.path c.name (config_answer graphs g firing c kernel (length ins) (length sets)) one leaves
  leaves_size c x one (ConfigChild place args sets) is self there knows leaves =
      let own : length (actor_list g firing.state c.place) ≡ length (in_line (initial graphs place)) = fits.actors c.place x there ∙ ap (λ (b : Body). length (actor_state (initial graphs) b)) is in
      child_leaves_state leaves.0 one place leaves.2 (λ given e.
      let P : End → Type 0 = λ end. ends (config_firing graphs g firing c place) end in
      (keeps (config_firing graphs g firing c place) given knows.3 (state_in_sizes graphs place (actor_list g firing.state c.place) own) (subst P e leaves.1)).state)

  config_sizes : (number a : ℕ) (x : Actor) (one : Configured) → IsConfiguration g number a → slice_get g.actors a ≡ Some x →
      Leaves graphs ends g firing (record { number = number; place = a; name = x.name; body = x.body }) x.body (Ok one) → length one.state ≡ actor_size graphs x
  config_sizes number a x one is there leaves =
      let knows = (fit.know firing.graph g firing.inherited here sound).each number a is in
      let own : actor_at g a ≡ x = get_or_from_slice_get g.actors a x no_actor there in
      let P : Actor → Type 0 = λ y. KnowsBody graphs (early_in graphs firing) number y.body in
      leaves_size record { number = number; place = a; name = x.name; body = x.body } x one x.body refl refl there (subst P own knows) leaves

  -- ---- the actors of the level

  module _ (values : List ℤ) (none : level_faults graphs g values ≡ []) where
    abbrev level : LevelView
    level = level_in graphs g firing values

    -- what the actor reads on its link to itself is as long as its state
    abbrev pub Fitting : ℕ → List (List ℤ) → Type 0
    Fitting b ins = (actor : Actor) → slice_get (acting g) b ≡ Some actor → has_state graphs actor ≡ true → length (tokens_at ins (input_count graphs actor.body)) ≡ state_size graphs actor.body

    fitting : (sources : List (List ℤ)) (f : ℕ → ℕ) (b : ℕ) (lines : List (List ℤ)) → HaveSizes f level.links lines → Fitting b (inputs sources b (f b) level.links lines)
    fitting sources f b lines sizes actor is has =
        let count : how_many (is_into_actor b) (links_of graphs g values) ≡ input_count graphs actor.body + 1 = levelled.makes.inputs values b actor is ∙ ap (λ t. input_count graphs actor.body + cond t 1 0) has in
        own_reads sources f b (input_count graphs actor.body) (state_size graphs actor.body) (links_of graphs g values) lines
        (all_own graphs g values levelled.wired b actor is) (some_own graphs g values levelled.wired b actor is has) (omega arith) sizes

    kernel_outs : (path name : List ℕ) (k : ℕ) (lens : List ℕ) (answer : Answer) (outs : List (List ℤ)) → HasLengths lens 0 answer → Ok outs ≡ kernel_fires path name k answer → lengths outs ≡ lens
    kernel_outs path name k lens (Gives given sets) outs sizes e = let same : outs ≡ given = cc in ap lengths same ∙ sizes.0
    kernel_outs path name k lens (Faults code) outs sizes e = absurd (cc)

    child_outs : (keep : Bool) (end : End) (outs : List (List ℤ)) (place : ℕ) (rates : List ℕ) → Ok outs ≡ child_fires keep end →
        ((given : Given) → end ≡ Ok given → (lengths given.outs ≡ rates) × (lengths given.state ≡ lengths (initial graphs place))) →
        ((j : ℕ) → j < length rates → length (tokens_at outs j) ≡ slice_index rates j) × (keep ≡ true → length (tokens_at outs (length rates)) ≡ length (in_line (initial graphs place)))
    child_outs true (Ok given) outs place rates e sizes =
        let all = sizes given refl in
        let same : outs ≡ given.outs ++ in_line given.state ∷ [] = cc in
        let many : length given.outs ≡ length rates = sym (length-map given.outs (λ (x : List ℤ). length x)) ∙ ap (λ (l : List ℕ). length l) all.0 in (
          (λ j inside. ap (λ (l : List (List ℤ)). length (tokens_at l j)) same ∙ ap (λ (l : List ℤ). length l) (get_or_append_left given.outs (in_line given.state ∷ []) [] j (omega arith)) ∙ size_at given.outs j ∙ ap (λ (l : List ℕ). slice_index l j) all.0),
          (λ keeps. ap (λ (l : List (List ℤ)). length (tokens_at l (length rates))) same
              ∙ ap (λ n. length (tokens_at (given.outs ++ in_line given.state ∷ []) n)) (let n : length rates ≡ length given.outs + 0 = omega arith in n)
              ∙ ap (λ (l : List ℤ). length l) (get_or-append-add given.outs (in_line given.state ∷ []) 0 []) ∙ same_line given.state (initial graphs place) all.1),
        )
    child_outs false (Ok given) outs place rates e sizes =
        let all = sizes given refl in
        let same : outs ≡ given.outs ++ [] = cc in
        ((λ j inside. ap (λ (l : List (List ℤ)). length (tokens_at l j)) (same ∙ append-nil given.outs) ∙ size_at given.outs j ∙ ap (λ (l : List ℕ). slice_index l j) all.0), (λ keeps. absurd (cc)))
    child_outs keep (Err refusal) outs place rates e sizes = absurd (cc)

    child_begins : (keep : Bool) (place n : ℕ) (ins : List (List ℤ)) → (keep ≡ true → length (tokens_at ins n) ≡ length (in_line (initial graphs place))) → lengths (child_state graphs keep place n ins) ≡ lengths (initial graphs place)
    child_begins true place n ins own = state_in_sizes graphs place (tokens_at ins n) (own refl)
    child_begins false place n ins own = refl

    module _ (b k : ℕ) (trace : List TraceRow) (ins outs : List (List ℤ)) (actor : Actor) (is : slice_get (acting g) b ≡ Some actor) (fitted : Fitting b ins) where
      abbrev place : Placed g.actors b actor
      place = placed g.actors b actor is

      abbrev args : List ℤ
      args = tokens_at (level_args g values) b

      body_outs : (body : Body) → actor.body ≡ body → FiresBody graphs ends firing values args actor body k trace ins (Ok outs) → OutsFit graphs values actor outs
      body_outs (Kernel kernel exprs in_ports out_ports) same fires_so =
          let B : Actor → Type 0 = λ x. BodyFits signatures graphs x.body in
          let C : Body → Type 0 = λ x. BodyFits signatures graphs x in
          let fitting_body = subst C same (subst B (get_or_from_slice_get g.actors place.place actor actor place.is) (graph_fits.fit place.place actor (slice_get_within g.actors place.place actor place.is))) in
          let rates : out_rates graphs values actor.body ≡ port_rates values out_ports = ap (out_rates graphs values) same in
          let many : length (out_rates graphs values actor.body) ≡ fitting_body.counts.outs = ap (λ (l : List ℕ). length l) rates ∙ length-map out_ports _ ∙ fitting_body.outs in
          let sizes = kernel_outs firing.path actor.name k (out_rates graphs values actor.body) (the_value kernel args ins (out_rates graphs values actor.body) 0) outs
          (give kernel fitting_body.counts fitting_body.place args ins (out_rates graphs values actor.body) 0 many fitting_body.sets.0 fitting_body.sets.1) fires_so.1 in
          record {
            ports = λ j inside. size_at outs j ∙ ap (λ (l : List ℕ). slice_index l j) sizes;
            state = λ has. absurd (let e : nat_lt 0 0 ≡ true = ap (λ (x : Body). nat_lt 0 (state_size graphs x)) (sym same) ∙ has in cc);
          }
      body_outs (Child child exprs) same fires_so =
          let args_are : args ≡ arg_values values exprs = args_at values g.actors b actor is ∙ ap (body_args values) same in
          let child_none = none_each (λ a (x : Actor). acting_faults graphs values a x.name x.body) 0 g.actors none place.place actor place.is in
          let sound_child : early_faults graphs child args ≡ [] = let P : List ℤ → Type 0 = λ l. early_faults graphs child l ≡ [] in subst P (sym args_are) (child_sound graphs values (0 + place.place) actor.name actor.body child exprs same child_none) in
          let keep = has_state graphs actor in
          let size : state_size graphs actor.body ≡ length (in_line (initial graphs child)) = ap (state_size graphs) same in
          let begins = child_begins keep child (input_count graphs actor.body) ins (λ has. fitted actor is has ∙ size) in
          let rates : out_rates graphs values actor.body ≡ (early_of graphs child args).outputs = ap (out_rates graphs values) same ∙ ap (λ (l : List ℤ). (early_of graphs child l).outputs) (sym args_are) in
          let many : length (early_of graphs child args).outputs ≡ output_count graphs actor.body = outputs_many graphs child args exprs ∙ ap (output_count graphs) (sym same) in
          let both = child_outs keep fires_so.0 outs child (early_of graphs child args).outputs fires_so.3 (λ given e.
          let P : End → Type 0 = λ end. ends (child_firing graphs firing actor.name k args keep child (input_count graphs actor.body) ins) end in
          let sizes = keeps (child_firing graphs firing actor.name k args keep child (input_count graphs actor.body) ins) given sound_child begins (subst P e fires_so.1) in
          (sizes.outs, sizes.state)) in
          record {
            ports = λ j inside. both.0 j (omega arith) ∙ ap (λ (l : List ℕ). slice_index l j) (sym rates);
            state = λ has. ap (λ n. length (tokens_at outs n)) (sym many) ∙ both.1 has ∙ sym size;
          }
      body_outs (Config kernel exprs in_ports out_ports sets) same fires_so = absurd fires_so
      body_outs (ConfigChild child exprs sets) same fires_so = absurd fires_so

    pub rates_of : (b k : ℕ) (trace : List TraceRow) (ins outs : List (List ℤ)) (o : Option Actor) → slice_get (acting g) b ≡ o → Fitting b ins → FiresActor graphs ends firing values (tokens_at (level_args g values) b) o k trace ins (Ok outs) → HaveRates b outs level.links
    rates_of b k trace ins outs None is fitted fires_so = absurd fires_so
    rates_of b k trace ins outs (Some actor) is fitted fires_so =
        rates_given graphs g values levelled.wired b actor is outs (body_outs b k trace ins outs actor is fitted actor.body refl fires_so)

    -- ---- the run of the level

    -- the lines that a run leaves without a fault
    record LinesOf (counts : List ℕ) (lines : Result (List (List ℤ)) Refusal) (ended : Ended ℤ) : Type 0 where
      list : List (List ℤ)
      is : lines ≡ Ok list
      end : ended ≡ end_of level counts list

    lines_of : (counts : List ℕ) (lines : Result (List (List ℤ)) Refusal) (ended : Ended ℤ) → IsEnd level counts lines (Ok ended) → LinesOf counts lines ended
    lines_of counts (Ok list) ended e = record { list = list; is = refl; end = cc }
    lines_of counts (Err fault) ended e = absurd (cc)

    skipped_empty : (fifos : List Fifo) → AllByRecursion (IsWired graphs g) fifos → AllByRecursion (λ (f : Fifo). is_kept g f ≡ false → length f.delay ≡ 0) fifos
    skipped_empty [] all = tt
    skipped_empty (f ∷ fifos) all = (no_delay graphs g f all.0, skipped_empty fifos all.1)

    module _ (configured : List Configured) (all : Configures graphs ends g firing (Ok configured)) (s : LevelSchedule) (is : IsScheduled level s) (given : Given) (run : RunsLevel graphs ends g firing configured values s.counts (Ok given)) where
      abbrev sources : List (List ℤ)
      sources = source_tokens g firing configured

      abbrev starts : List (List ℤ)
      starts = link_starts graphs g firing

      starting : HaveDelays level.links starts
      starting = starts_fit graphs g values firing.state fits

      given_rates : (b k : ℕ) (ins outs : List (List ℤ)) → Fitting b ins → Fires graphs ends g firing values run.traces b k ins (Ok outs) → HaveRates b outs level.links
      given_rates b k ins outs fitted f = rates_of b k (run.traces b k) ins outs (slice_get (acting g) b) refl fitted f

      level_sizes : HasSizes graphs firing given
      level_sizes =
          let ended = gone (λ (e : Ended ℤ) (end : End). end ≡ Ok (given_by graphs g firing configured values s.counts run.traces e)) run.run given run.gives in
          let E : Result (Ended ℤ) Refusal → Type 0 = λ r. IsEnd level s.counts run.level_run.ends.lines r in
          let lines = lines_of s.counts run.level_run.ends.lines ended.one (subst E ended.is run.level_run.ends.is_end) in
          let fire = Fires graphs ends g firing values run.traces in
          let R : Result (List (List ℤ)) Refusal → Type 0 = λ r. Runs level fire sources starts run.level_run.list r in
          let narrow = runs_narrowed level fire Fitting sources given_rates (fitting sources) [] starts run.level_run.list lines.list (sizes_start (λ a. firings a []) (λ a. refl) level.links starts starting) (subst R lines.is run.level_run.ends.runs) in
          let rated_all : GivesRates level (narrowed level fire Fitting sources) = λ b k ins outs f. given_rates b k ins outs f.1 f.0 in
          let level_is : IsLevel level = levelled.makes.level firing.inherited values sound none in
          let delays = leaves_delays level (narrowed level fire Fitting sources) sources starts s.counts run.level_run.list lines.list level_is is.repetition rated_all starting run.level_run.order.admissible narrow in
          let rates = keeps_rates level (narrowed level fire Fitting sources) sources starts s.counts run.level_run.list lines.list level_is is.repetition rated_all starting run.level_run.order.admissible narrow in
          let same : given ≡ given_by graphs g firing configured values s.counts run.traces ended.one = let e = ended.goes in cc in
          record {
            outs = ap (λ (x : Given). lengths x.outs) same ∙ ap (λ (e : Ended ℤ). lengths e.outs) lines.end ∙ rates;
            state = ap (λ (x : Given). lengths x.state) same ∙ ap (λ (e : Ended ℤ). lengths (state_after graphs g configured e.left)) lines.end
                ∙ state_left graphs g values ends firing config_sizes configured (left_of s.counts level.links lines.list) (skipped_empty g.fifos levelled.wired) all delays
                ∙ sym (begun_sizes graphs g firing.graph levelled.begins);
          }

  -- ---- the whole firing

  unrefused : (faults : List part.Refusal) (values v : List ℤ) → unless_refused graphs g firing.path faults values ≡ Ok v → (faults ≡ []) × (values ≡ v)
  unrefused [] values v e = (refl, cc)
  unrefused (refusal ∷ faults) values v e = absurd (cc)

  graph_sizes : (given : Given) → FiresGraph graphs ends g firing (Ok given) → HasSizes graphs firing given
  graph_sizes given f =
      let AfterRates : List Configured → List ℤ → End → Type 0 = λ configured values end.
      (schedule : Result LevelSchedule Refusal) × Schedules g firing (level_in graphs g firing values) schedule × Then (λ s end. RunsLevel graphs ends g firing configured values s.counts end) schedule end in
      let AfterValues : List Configured → List ℤ → End → Type 0 = λ configured values end. Then (AfterRates configured) (rated graphs g firing values) end in
      let actors = gone (λ configured (end : End). Then (AfterValues configured) (resolved graphs g firing configured) end) f.0 given f.2 in
      let values = gone (AfterValues actors.one) (resolved graphs g firing actors.one) given actors.goes in
      let rates = gone (AfterRates actors.one) (rated graphs g firing values.one) given values.goes in
      let free = unrefused (level_faults graphs g values.one) values.one rates.one rates.is in
      let schedule = gone (λ s (end : End). RunsLevel graphs ends g firing actors.one rates.one s.counts end) rates.goes.0 given rates.goes.2 in
      let C : Result (List Configured) Refusal → Type 0 = λ r. Configures graphs ends g firing r in
      let S : Result LevelSchedule Refusal → Type 0 = λ r. Schedules g firing (level_in graphs g firing rates.one) r in
      let F : List ℤ → Type 0 = λ v. level_faults graphs g v ≡ [] in
      level_sizes rates.one (subst F free.1 free.0) actors.one (subst C actors.is f.1) schedule.one (subst S schedule.is rates.goes.1) given schedule.goes

pub within_sizes : (signatures : List Counts) (graphs : List Graph) → AllFit signatures graphs → GiveLengths signatures → ((place : ℕ) (g : Graph) → slice_get graphs place ≡ Some g → Levelled graphs place g) → (n : ℕ) → KeepsTo graphs (MeansWithin n graphs)
within_sizes signatures graphs fit give levelled zero firing given sound long f = absurd f
within_sizes signatures graphs fit give levelled (suc n) firing given sound long f =
    graph_sizes signatures graphs fit give (MeansWithin n graphs) (within_sizes signatures graphs fit give levelled n) f.0 firing f.1 (levelled firing.graph f.0 f.1) sound long given f.2

pub sizes_kept : (signatures : List Counts) (graphs : List Graph) → AllFit signatures graphs → GiveLengths signatures → ((place : ℕ) (g : Graph) → slice_get graphs place ≡ Some g → Levelled graphs place g) → KeepsSizes graphs
sizes_kept signatures graphs fit give levelled firing given sound long f = within_sizes signatures graphs fit give levelled 8 firing given sound long f
