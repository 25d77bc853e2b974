-- What the sources of a job give: as much as their rates say.
use Rattle.std.proofs.Common.{◌≡◌, ℕ, zero, suc, ◌+◌, ⊎_elim, true, false, ℤ, List, [], ◌∷◌, ◌++◌, length, map, take, slice_get, slice_index, get_or, Some, Ok, Err, refl, sym, ap, ◌∙◌, subst, arith, append_assoc, length-append}
use Rattle.std.specs.List.{flat_map}
use Rattle.std.proofs.lemmas.Bool.{cases_Bool}
use Rattle.std.proofs.lemmas.List.{map-append}
use Rattle.std.proofs.lemmas.Option.{get_or_from_slice_get, slice_get_within}
use Rattle.kernel_gate.specs.Laws.{HasLengths}
use Rattle.kernel_gate.specs.Signed.{Counts}
use Rattle.kernel_gate.specs.Value.{Answer, Gives, Faults, lengths}
use Rattle.param_resolver.specs.EarlyCheck.{early_faults}
use Rattle.param_resolver.specs.LevelOf.{sources_of}
use Rattle.param_resolver.specs.Numbering.{source_inputs}
use Rattle.pisdf_model.specs.Hold.{actor_state, in_line, initial}
use Rattle.pisdf_model.specs.InterfaceWires.{is_configuration}
use Rattle.pisdf_model.specs.declared.actor.Actor.{Actor}
use Rattle.pisdf_model.specs.declared.actor.Body.{Body}
use Rattle.pisdf_model.specs.declared.actor.Body.TheVariants.{Kernel, Config, Child, ConfigChild}
use Rattle.pisdf_model.specs.declared.graph.Graph.{Graph}
use Rattle.pisdf_meaning.specs.Configuring.{Configuration, LeaveAll, Leaves, child_leaves, config_answer, config_args, config_firing, config_rates, configurations, configurations_from, early_in, fed_to, kernel_leaves}
use Rattle.pisdf_meaning.specs.Endings.{End, Ends}
use Rattle.pisdf_meaning.specs.Running.{source_tokens}
use Rattle.kernel_gate.specs.Laws.{GiveLengths}
use Rattle.pisdf_meaning.specs.Sound.{AllFit, BodyFits, GraphFits, IsConfiguration, KnowsBody, actor_at, no_actor}
use Rattle.pisdf_meaning.specs.States.{actor_list, tokens_at}
use Rattle.pisdf_meaning.specs.declared.firing.Configured.{Configured}
use Rattle.pisdf_meaning.specs.declared.firing.Firing.{Firing}
use Rattle.pisdf_meaning.specs.declared.firing.Given.{Given}
use Rattle.pisdf_meaning.proofs.KeptSizes.{KeepsTo, Levelled}
use Rattle.pisdf_meaning.proofs.OneByOne.{count_with, count_without}
use Rattle.pisdf_meaning.proofs.StateSizes.{StateFits, leaving, size_at, state_fits, state_in_sizes}

-- ---- where configuration actors stand

take_own : {X : Type 0} (xs ys : List X) → take (length xs) (xs ++ ys) ≡ xs
take_own [] ys = refl
take_own (x ∷ xs) ys = ap (λ l. x ∷ l) (take_own xs ys)

own_at : {X : Type 0} (xs : List X) (y : X) (ys : List X) → slice_get (xs ++ y ∷ ys) (length xs) ≡ Some y
own_at [] y ys = refl
own_at (x ∷ xs) y ys = own_at xs y ys

-- a configuration actor of a graph stands at its place, and has its number
pub record Found (g : Graph) (c : Configuration) : Type 0 where
  pub is : IsConfiguration g c.number c.place
  pub there : slice_get g.actors c.place ≡ Some record { name = c.name; body = c.body }

module _ (g : Graph) where
  found_here : (before : List Actor) (x : Actor) (actors : List Actor) → g.actors ≡ before ++ x ∷ actors → (n a : ℕ) → a ≡ length before → n ≡ length (configurations_from 0 0 before) → is_configuration x.body ≡ true →
      Found g record { number = n; place = a; name = x.name; body = x.body }
  found_here before x actors all n a at number is =
      let there : slice_get g.actors a ≡ Some x = ap (λ (l : List Actor). slice_get l a) all ∙ ap (slice_get (before ++ x ∷ actors)) at ∙ own_at before x actors in
      let own : actor_at g a ≡ x = get_or_from_slice_get g.actors a x no_actor there in
      record {
        is = record {
          inside = slice_get_within g.actors a x there;
          is = ap (λ (y : Actor). is_configuration y.body) own ∙ is;
          number_is = number ∙ ap (λ (l : List Actor). length (configurations_from 0 0 l)) (sym (ap (take a) all ∙ ap (λ k. take k (before ++ x ∷ actors)) at ∙ take_own before (x ∷ actors)));
        };
        there = there;
      }

  found_from : (before actors : List Actor) → g.actors ≡ before ++ actors → (n a : ℕ) → a ≡ length before → n ≡ length (configurations_from 0 0 before) →
      (j : ℕ) (c : Configuration) → slice_get (configurations_from n a actors) j ≡ Some c → Found g c × (c.number ≡ n + j)
  found_from before [] all n a at number j c is = absurd (cc)
  found_from before (x ∷ actors) all n a at number j c is = ⊎_elim
      (λ (config : is_configuration x.body ≡ true).
      let count = count_with 0 0 before x config in
      first config j (rw config at is)
      (λ k e. found_from (before ++ x ∷ []) actors (all ∙ sym (append_assoc before (x ∷ []) actors)) (n + 1) (a + 1) (let l = length-append before (x ∷ []) in omega arith) (omega arith) k c e))
      (λ (acts : is_configuration x.body ≡ false).
      let count = count_without 0 0 before x acts in
      found_from (before ++ x ∷ []) actors (all ∙ sym (append_assoc before (x ∷ []) actors)) n (a + 1) (let l = length-append before (x ∷ []) in omega arith) (omega arith) j c (rw acts at is))
      (cases_Bool (is_configuration x.body))
    where
      first : is_configuration x.body ≡ true → (j : ℕ) → slice_get (record { number = n; place = a; name = x.name; body = x.body } ∷ configurations_from (n + 1) (a + 1) actors) j ≡ Some c →
          ((k : ℕ) → slice_get (configurations_from (n + 1) (a + 1) actors) k ≡ Some c → Found g c × (c.number ≡ n + 1 + k)) → Found g c × (c.number ≡ n + j)
      first config zero e again =
          let same : record { number = n; place = a; name = x.name; body = x.body } ≡ c = cc in
          let P : Configuration → Type 0 = λ d. Found g d × (d.number ≡ n + 0) in
          subst P same (found_here before x actors all n a at number config, omega arith)
      first config (suc j) e again = let rest = again j e in (rest.0, let m = rest.1 in omega arith)

  pub found : (j : ℕ) (c : Configuration) → slice_get (configurations g) j ≡ Some c → Found g c × (c.number ≡ 0 + j)
  found j c is = found_from [] g.actors refl 0 0 refl refl j c is

module _ (signatures : List Counts) (graphs : List Graph) (fit : AllFit signatures graphs) (give : GiveLengths signatures) (ends : Ends) (keeps : KeepsTo graphs ends) (g : Graph) (firing : Firing)
    (here : slice_get graphs firing.graph ≡ Some g) (levelled : Levelled graphs firing.graph g) (sound : early_faults graphs firing.graph firing.inherited ≡ []) (long : lengths firing.state ≡ lengths (initial graphs firing.graph)) where
  pub fits : StateFits graphs g firing.state
  fits = state_fits graphs g firing.state (long ∙ ap lengths levelled.begins)

  graph_fits : GraphFits signatures graphs g
  graph_fits = let P : Graph → Type 0 = λ x. GraphFits signatures graphs x in subst P (get_or_from_slice_get graphs firing.graph g g here) (fit.fit firing.graph g (slice_get_within graphs firing.graph g here))

  pub body_fits : (a : ℕ) (x : Actor) → slice_get g.actors a ≡ Some x → BodyFits signatures graphs x.body
  body_fits a x there = let P : Actor → Type 0 = λ y. BodyFits signatures graphs y.body in subst P (get_or_from_slice_get g.actors a x x there) (graph_fits.fit a x (slice_get_within g.actors a x there))

  module _ (c : Configuration) (at : Found g c) where
    actor : Actor
    actor = record { name = c.name; body = c.body }

    pub known : KnowsBody graphs (early_in graphs firing) c.number c.body
    known =
        let own : actor_at g c.place ≡ record { name = c.name; body = c.body } = get_or_from_slice_get g.actors c.place record { name = c.name; body = c.body } no_actor at.there in
        let P : Actor → Type 0 = λ y. KnowsBody graphs (early_in graphs firing) c.number y.body in
        subst P own ((fit.know firing.graph g firing.inherited here sound).each c.number c.place at.is)

    -- the firing of the graph that it names begins with lists as long as those of the graph
    pub child_begins : (place : ℕ) (b : Body) → c.body ≡ b → actor_state (initial graphs) b ≡ in_line (initial graphs place) → lengths (config_firing graphs g firing c place).state ≡ lengths (initial graphs place)
    child_begins place b is state = state_in_sizes graphs place (actor_list g firing.state c.place) (fits.actors c.place record { name = c.name; body = c.body } at.there ∙ ap (λ (x : Body). length (actor_state (initial graphs) x)) is ∙ ap (λ (l : List ℤ). length l) state)

    kernel_outs : (path name : List ℕ) (lens : List ℕ) (sets : ℕ) (answer : Answer) (one : Configured) → HasLengths lens sets answer → Ok one ≡ kernel_leaves path name answer → lengths one.outs ≡ lens
    kernel_outs path name lens sets (Gives outs values) one sizes e = let same : one ≡ record { outs = outs; sets = values; state = []; trace = [] } = cc in ap (λ (x : Configured). lengths x.outs) same ∙ sizes.0
    kernel_outs path name lens sets (Faults code) one sizes e = absurd (cc)

    child_outs : (end : End) (one : Configured) (rates : List ℕ) → Ok one ≡ child_leaves end → ((given : Given) → end ≡ Ok given → lengths given.outs ≡ rates) → lengths one.outs ≡ rates
    child_outs (Ok given) one rates e sizes =
        let same : one ≡ record { outs = given.outs; sets = given.exports; state = in_line given.state; trace = given.trace } = cc in
        ap (λ (x : Configured). lengths x.outs) same ∙ sizes given refl
    child_outs (Err refusal) one rates e sizes = absurd (cc)

    outs_fit : (body : Body) → c.body ≡ body → (one : Configured) → KnowsBody graphs (early_in graphs firing) c.number body → BodyFits signatures graphs body → Leaves graphs ends g firing c body (Ok one) → lengths one.outs ≡ config_rates graphs firing c.number
    outs_fit (Kernel kernel args ins outs) is one knows fitting leaves = absurd leaves
    outs_fit (Child place args) is one knows fitting leaves = absurd leaves
    outs_fit (Config kernel args ins outs sets) is one knows fitting leaves =
        let kind = fitting.0 in
        let rates = config_rates graphs firing c.number in
        kernel_outs firing.path c.name rates (length sets) (config_answer graphs g firing c kernel (length ins) (length sets)) one
        (give kernel kind.counts kind.place (config_args graphs firing c.number) (fed_to g firing.inputs c.place (length ins)) rates (length sets) (knows.1 ∙ kind.outs) kind.sets.0 kind.sets.1) leaves
    outs_fit (ConfigChild place args sets) is one knows fitting leaves =
        child_outs leaves.0 one (config_rates graphs firing c.number) leaves.2
        (λ given e.
        let P : End → Type 0 = λ end. ends (config_firing graphs g firing c place) end in
        (keeps (config_firing graphs g firing c place) given knows.3 (child_begins place (ConfigChild place args sets) is refl) (subst P e leaves.1)).outs ∙ sym knows.1)

    pub config_outs : (one : Configured) → Leaves graphs ends g firing c c.body (Ok one) → lengths one.outs ≡ config_rates graphs firing c.number
    config_outs one leaves = outs_fit c.body refl one known (body_fits c.place record { name = c.name; body = c.body } at.there) leaves

  -- ---- all of them

  all_outs : (cs : List Configuration) (i : ℕ) (left : List Configured) (rates : List (List ℕ)) → ((j : ℕ) (c : Configuration) → slice_get cs j ≡ Some c → Found g c × (config_rates graphs firing c.number ≡ get_or rates j [])) →
      length rates ≡ length cs → LeaveAll graphs ends g firing cs (Ok left) → lengths (flat_map (λ (one : Configured). one.outs) left) ≡ flat_map (λ (r : List ℕ). r) rates
  all_outs [] i left [] each many all = let none : left ≡ [] = cc in ap (λ (l : List Configured). lengths (flat_map (λ (one : Configured). one.outs) l)) none
  all_outs [] i left (r ∷ rates) each many all = absurd (omega arith)
  all_outs (c ∷ cs) i left [] each many all = absurd (omega arith)
  all_outs (c ∷ cs) i left (r ∷ rates) each many all =
      let s = leaving graphs g [] ends firing c cs left all in
      let at = each 0 c refl in
      let first = config_outs c at.0 s.one s.leaves ∙ at.1 in
      let rest = all_outs cs i s.more rates (λ j d is. each (suc j) d is) (omega arith) s.others in
      ap (λ (l : List Configured). lengths (flat_map (λ (one : Configured). one.outs) l)) s.is
      ∙ map-append (λ (x : List ℤ). length x) s.one.outs (flat_map (λ (one : Configured). one.outs) s.more)
      ∙ ap (λ (l : List ℕ). l ++ lengths (flat_map (λ (one : Configured). one.outs) s.more)) first
      ∙ ap (λ (l : List ℕ). r ++ l) rest

  input_lengths : (inputs : List ℕ) → lengths (map (λ i. tokens_at firing.inputs i) inputs) ≡ map (λ i. slice_index (lengths firing.inputs) i) inputs
  input_lengths [] = refl
  input_lengths (i ∷ inputs) = ap (λ n. n ∷ lengths (map (λ i. tokens_at firing.inputs i) inputs)) (size_at firing.inputs i) ∙ ap (λ (l : List ℕ). slice_index (lengths firing.inputs) i ∷ l) (input_lengths inputs)

  -- the sources give as much as their rates say
  pub sources_fit : (left : List Configured) → lengths firing.inputs ≡ (early_in graphs firing).inputs → LeaveAll graphs ends g firing (configurations g) (Ok left) → lengths (source_tokens g firing left) ≡ sources_of g (early_in graphs firing)
  sources_fit left inputs all =
      let early = early_in graphs firing in
      let known_ones = fit.know firing.graph g firing.inherited here sound in
      let config = all_outs (configurations g) 0 left early.outs
      (λ j c is. let at = found g j c is in (at.0, let e : c.number ≡ j = let m = at.1 in omega arith in ap (λ k. get_or early.outs k []) e))
      known_ones.one_each all in
      map-append (λ (x : List ℤ). length x) (map (λ i. tokens_at firing.inputs i) (source_inputs g)) (flat_map (λ (one : Configured). one.outs) left)
      ∙ ap (λ (l : List ℕ). l ++ lengths (flat_map (λ (one : Configured). one.outs) left)) (input_lengths (source_inputs g) ∙ ap (λ (l : List ℕ). map (λ i. slice_index l i) (source_inputs g)) inputs)
      ∙ ap (λ (l : List ℕ). map (λ i. slice_index early.inputs i) (source_inputs g) ++ l) config
