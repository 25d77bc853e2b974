-- How much the firing of an actor of a level writes: as its body says, and its state on the last output, where that goes on.
use Rattle.std.proofs.Common.{◌≡◌, ℕ, ◌+◌, Bool, true, false, ℤ, pos, List, [], ◌∷◌, ◌++◌, length, map, replicate, slice_get, slice_index, Some, refl, sym, ap, ◌∙◌, arith, length-append}
use Rattle.std.proofs.lemmas.List.{get_or-append-add, get_or_append_left, length-map, length-replicate}
use Rattle.kernel_gate.specs.Value.{lengths}
use Rattle.param_resolver.specs.LevelOf.{links_of, out_rates}
use Rattle.param_resolver.specs.Numbering.{acting, has_state, output_count, state_size}
use Rattle.param_resolver.specs.Rates.{arg_values}
use Rattle.param_resolver.proofs.Passing.{one}
use Rattle.param_resolver.proofs.Sound.{resolvable}
use Rattle.param_resolver.proofs.Wired.{AreWired, well_wired}
use Rattle.pisdf_model.specs.InterfaceWires.{is_configuration}
use Rattle.pisdf_model.specs.Range.{InRange}
use Rattle.pisdf_model.specs.WellFormed.{WellFormed}
use Rattle.pisdf_model.specs.declared.actor.Actor.{Actor}
use Rattle.pisdf_model.specs.declared.actor.Body.{Body}
use Rattle.pisdf_model.specs.declared.actor.Body.TheVariants.{Kernel, Config, Child, ConfigChild}
use Rattle.pisdf_model.specs.declared.actor.Port.{Port}
use Rattle.pisdf_model.specs.declared.graph.Graph.{Graph}
use Rattle.pisdf_model.specs.declared.graph.Graphs.{Graphs}
use Rattle.pisdf_meaning.specs.States.{tokens_at}
use Rattle.pisdf_meaning.specs.declared.firing.Firing.{Firing}
use Rattle.pisdf_meaning.proofs.KeptSizes.{Levelled, outputs_many}
use Rattle.pisdf_meaning.proofs.LinkSizes.{OutsFit, placed, rates_given}
use Rattle.pisdf_meaning.proofs.MadeLevels.{levels_made}
use Rattle.pisdf_meaning.proofs.SoundGraphs.{levelled}
use Rattle.pisdf_meaning.proofs.StateSizes.{size_at}
use Rattle.job_flow.specs.Frames.{output_rates}
use Rattle.job_rules.proofs.Rates.{out_lengths}

abbrev pub of_length : ℕ → List ℤ
of_length n = replicate n (pos 0)

zeros_long : (rates : List ℕ) → lengths (map of_length rates) ≡ rates
zeros_long [] = refl
zeros_long (r ∷ rates) = ap (λ n. n ∷ lengths (map of_length rates)) (length-replicate r (pos 0)) ∙ ap (λ (l : List ℕ). r ∷ l) (zeros_long rates)

-- the size of the state, where it goes on
abbrev pub own_rate : Bool → ℕ → List ℕ
own_rate true size = size ∷ []
own_rate false size = []

own_many : (keeps : Bool) (size : ℕ) → length (own_rate keeps size) ≡ one keeps
own_many true size = refl
own_many false size = refl

pub rates_many : (graphs : List Graph) (values : List ℤ) (body : Body) → is_configuration body ≡ false → length (out_rates graphs values body) ≡ output_count graphs body
rates_many graphs values (Kernel kernel args ins outs) acts = length-map outs _ ∙ sym (length-map outs (λ (p : Port). p.name))
rates_many graphs values (Config kernel args ins outs sets) acts = absurd (cc)
rates_many graphs values (Child place args) acts = outputs_many graphs place (arg_values values args) args
rates_many graphs values (ConfigChild place args sets) acts = absurd (cc)

not_is : (b : Bool) → Rattle.std.specs.Prelude.not b ≡ true → b ≡ false
not_is true e = absurd (cc)
not_is false e = refl

module _ (graphs : Graphs) (range : InRange graphs) (well : WellFormed graphs) (firing : Firing) (g : Graph) (here : slice_get graphs.graphs firing.graph ≡ Some g) (values : List ℤ) (b : ℕ) (actor : Actor) (is : slice_get (acting g) b ≡ Some actor) where
  abbrev G : List Graph
  G = graphs.graphs

  wired : AreWired G g
  wired = well_wired graphs well (resolvable graphs range well) firing.graph g here

  level : Levelled G firing.graph g
  level = levelled graphs well firing.graph g here (levels_made graphs range well)

  pub acts : is_configuration actor.body ≡ false
  acts = not_is (is_configuration actor.body) (placed g.actors b actor is).acts

  abbrev own : List ℕ
  own = own_rate (has_state G actor) (state_size G actor.body)

  abbrev pub rates : List ℕ
  rates = out_rates G values actor.body ++ own

  abbrev zeros : List (List ℤ)
  zeros = map of_length rates

  zero_at : (j : ℕ) → length (tokens_at zeros j) ≡ slice_index rates j
  zero_at j = size_at zeros j ∙ ap (λ (l : List ℕ). slice_index l j) (zeros_long rates)

  at_own : (keeps : Bool) (size : ℕ) (xs : List ℕ) → keeps ≡ true → slice_index (xs ++ own_rate keeps size) (length xs) ≡ size
  at_own true size xs has = let e : length xs ≡ length xs + 0 = omega arith in ap (slice_index (xs ++ size ∷ [])) e ∙ get_or-append-add xs (size ∷ []) 0 0
  at_own false size xs has = absurd (cc)

  zeros_fit : OutsFit G values actor zeros
  zeros_fit = record {
    ports = λ j inside. zero_at j ∙ get_or_append_left (out_rates G values actor.body) own 0 j (let m = rates_many G values actor.body acts in omega arith);
    state = λ has.
        zero_at (output_count G actor.body) ∙ ap (slice_index rates) (sym (rates_many G values actor.body acts)) ∙ at_own (has_state G actor) (state_size G actor.body) (out_rates G values actor.body) has;
  }

  pub written : output_rates (links_of G g values) b ≡ rates
  written =
      let many : length zeros ≡ output_count G actor.body + one (has_state G actor) =
      length-map rates of_length ∙ length-append (out_rates G values actor.body) own ∙ (let m = rates_many G values actor.body acts in let o = own_many (has_state G actor) (state_size G actor.body) in omega arith) in
      sym (out_lengths G firing.graph g here values wired b actor is zeros many (rates_given G g values level.wired b actor is zeros zeros_fit)) ∙ zeros_long rates
