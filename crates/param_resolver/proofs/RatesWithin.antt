-- Rates are within their limit, and there are as many as interfaces and ports.
use Rattle.std.proofs.Common.{◌≡◌, ℕ, zero, suc, ◌+◌, ◌≤◌, ⊎_elim, true, false, cond, nat_le, ℤ, pos, negsuc, List, [], ◌∷◌, ◌++◌, length, map, Option, Some, None, Result, Ok, Err, refl, sym, ap, ◌∙◌, arith, slice_get, slice_index}
use Rattle.std.specs.List.{AllByRecursion, flat_map}
use Rattle.std.specs.Result.{result_unwrap_or}
use Rattle.std.proofs.lemmas.Bool.{cases_Bool, leb-true}
use Rattle.std.proofs.lemmas.List.{length-append, length-map}
use Rattle.param_expr.specs.Eval.{eval_of}
use Rattle.param_expr.specs.declared.evaluation.EvalFault.{EvalFault}
use Rattle.pisdf_model.specs.InterfaceWires.{is_configuration}
use Rattle.pisdf_model.specs.Parts.{inputs_of, outputs_of}
use Rattle.pisdf_model.specs.declared.actor.Actor.{Actor}
use Rattle.pisdf_model.specs.declared.actor.Body.{Body}
use Rattle.pisdf_model.specs.declared.actor.Body.TheVariants.{Kernel, Config, Child, ConfigChild}
use Rattle.pisdf_model.specs.declared.actor.Port.{Port}
use Rattle.pisdf_model.specs.declared.graph.Graph.{Graph}
use Rattle.pisdf_model.specs.declared.graph.Interface.{Interface}
use Rattle.sdf_level.specs.Invariants.{rate_limit}
use Rattle.param_resolver.specs.EarlyCheck.{Checked, check_by, check_to, config_outs, early_numbers, early_of}
use Rattle.param_resolver.specs.LevelOf.{in_rates, out_rates, sources_of}
use Rattle.param_resolver.specs.Numbering.{output_count, source_inputs}
use Rattle.param_resolver.specs.Rates.{as_rate, interface_rates, port_rates}
use Rattle.param_resolver.specs.Tables.{config_outputs}
use Rattle.param_resolver.proofs.SourceEnds.{total}

abbrev pub AreWithin : List ℕ → Type 0
AreWithin rates = AllByRecursion (λ r. r ≤ rate_limit) rates

rate_within : (r : Result ℤ EvalFault) → result_unwrap_or (as_rate r) 0 ≤ rate_limit
rate_within (Ok (pos n)) = ⊎_elim
    (λ (is : nat_le n rate_limit ≡ true). rw is (leb-true n rate_limit is))
    (λ (not : nat_le n rate_limit ≡ false). rw not (omega arith))
    (cases_Bool (nat_le n rate_limit))
rate_within (Ok (negsuc n)) = omega arith
rate_within (Err fault) = omega arith

pub within_append : (xs ys : List ℕ) → AreWithin xs → AreWithin ys → AreWithin (xs ++ ys)
within_append [] ys first second = second
within_append (x ∷ xs) ys first second = (first.0, within_append xs ys first.1 second)

pub index_within : (rates : List ℕ) → AreWithin rates → (i : ℕ) → slice_index rates i ≤ rate_limit
index_within [] all i = omega arith
index_within (r ∷ rates) all zero = all.0
index_within (r ∷ rates) all (suc i) = index_within rates all.1 i

interfaces_within : (values : List ℤ) (interfaces : List Interface) → AreWithin (interface_rates values interfaces)
interfaces_within values [] = tt
interfaces_within values (x ∷ interfaces) = (rate_within (eval_of values x.rate), interfaces_within values interfaces)

ports_within : (values : List ℤ) (ports : List Port) → AreWithin (port_rates values ports)
ports_within values [] = tt
ports_within values (p ∷ ports) = (rate_within (eval_of values p.rate), ports_within values ports)

-- ---- what the early check of a graph finds

module _ (check : ℕ → List ℤ → Checked) (graphs : List Graph) where
  found_inputs : (o : Option Graph) (inherited : List ℤ) → AreWithin (check_by check graphs o inherited).early.inputs × (length (check_by check graphs o inherited).early.inputs ≡ length (inputs_of o))
  found_inputs None inherited = (tt, refl)
  found_inputs (Some g) inherited = (interfaces_within (early_numbers g inherited) g.inputs, length-map g.inputs _)

  found_outputs : (o : Option Graph) (inherited : List ℤ) → AreWithin (check_by check graphs o inherited).early.outputs × (length (check_by check graphs o inherited).early.outputs ≡ length (outputs_of o))
  found_outputs None inherited = (tt, refl)
  found_outputs (Some g) inherited = (interfaces_within (early_numbers g inherited) g.outputs, length-map g.outputs _)

module _ (n : ℕ) (graphs : List Graph) (place : ℕ) (inherited : List ℤ) where
  pub inputs_found : AreWithin (check_to (suc n) graphs place inherited).early.inputs × (length (check_to (suc n) graphs place inherited).early.inputs ≡ length (inputs_of (slice_get graphs place)))
  unfolding check_to
  inputs_found = found_inputs (check_to n graphs) graphs (slice_get graphs place) inherited

  pub outputs_found : AreWithin (check_to (suc n) graphs place inherited).early.outputs × (length (check_to (suc n) graphs place inherited).early.outputs ≡ length (outputs_of (slice_get graphs place)))
  unfolding check_to
  outputs_found = found_outputs (check_to n graphs) graphs (slice_get graphs place) inherited

-- ---- the rates of an actor's ports

pub in_within : (graphs : List Graph) (values : List ℤ) (body : Body) → AreWithin (in_rates graphs values body)
in_within graphs values (Kernel kernel args ins outs) = ports_within values ins
in_within graphs values (Config kernel args ins outs sets) = tt
in_within graphs values (Child k args) = (inputs_found 7 graphs k _).0
in_within graphs values (ConfigChild k args sets) = (inputs_found 7 graphs k _).0

pub out_within : (graphs : List Graph) (values : List ℤ) (body : Body) → AreWithin (out_rates graphs values body)
out_within graphs values (Kernel kernel args ins outs) = ports_within values outs
out_within graphs values (Config kernel args ins outs sets) = ports_within values outs
out_within graphs values (Child k args) = (outputs_found 7 graphs k _).0
out_within graphs values (ConfigChild k args sets) = (outputs_found 7 graphs k _).0

-- ---- the rates of sources

module _ (n : ℕ) (graphs : List Graph) (values : List ℤ) where
  abbrev given : Body → List (List ℕ)
  given body = config_outs (check_to (suc n) graphs) values body

  given_within : (body : Body) (rest : List (List ℕ)) → AreWithin (flat_map (λ rates. rates) rest) → AreWithin (flat_map (λ rates. rates) (given body ++ rest))
  given_within (Kernel kernel args ins outs) rest all = all
  given_within (Config kernel args ins outs sets) rest all = within_append (port_rates values outs) _ (ports_within values outs) all
  given_within (Child k args) rest all = all
  given_within (ConfigChild k args sets) rest all = within_append _ _ (outputs_found n graphs k _).0 all

  given_many : (body : Body) (rest : List (List ℕ)) → length (flat_map (λ rates. rates) (given body ++ rest)) ≡ cond (is_configuration body) (output_count graphs body) 0 + length (flat_map (λ rates. rates) rest)
  given_many (Kernel kernel args ins outs) rest = omega arith
  given_many (Config kernel args ins outs sets) rest = length-append (port_rates values outs) _ ∙ ap (λ m. m + length (flat_map (λ rates. rates) rest)) (length-map outs _ ∙ sym (length-map outs _))
  given_many (Child k args) rest = omega arith
  given_many (ConfigChild k args sets) rest = length-append _ (flat_map (λ rates. rates) rest) ∙ ap (λ m. m + length (flat_map (λ rates. rates) rest)) ((outputs_found n graphs k _).1 ∙ sym (length-map (outputs_of (slice_get graphs k)) _))

  all_within : (actors : List Actor) → AreWithin (flat_map (λ rates. rates) (flat_map (λ (a : Actor). given a.body) actors))
  all_within [] = tt
  all_within (x ∷ actors) = given_within x.body (flat_map (λ (a : Actor). given a.body) actors) (all_within actors)

  all_many : (actors : List Actor) → length (flat_map (λ rates. rates) (flat_map (λ (a : Actor). given a.body) actors)) ≡ total graphs actors
  all_many [] = refl
  all_many (x ∷ actors) = given_many x.body (flat_map (λ (a : Actor). given a.body) actors) ∙ ap (λ m. config_outputs graphs x + m) (all_many actors)

module _ (graphs : List Graph) (place : ℕ) (g : Graph) (here : slice_get graphs place ≡ Some g) (inherited : List ℤ) where
  configured : (early_of graphs place inherited).outs ≡ flat_map (λ (a : Actor). config_outs (check_to 7 graphs) (early_numbers g inherited) a.body) g.actors
  unfolding check_to
  configured = ap (λ o. (check_by (check_to 7 graphs) graphs o inherited).early.outs) here

  pub outs_within : AreWithin (flat_map (λ rates. rates) (early_of graphs place inherited).outs)
  outs_within = rw configured (all_within 6 graphs (early_numbers g inherited) g.actors)

  pub outs_many : length (flat_map (λ rates. rates) (early_of graphs place inherited).outs) ≡ total graphs g.actors
  outs_many = ap (λ (l : List (List ℕ)). length (flat_map (λ rates. rates) l)) configured ∙ all_many 6 graphs (early_numbers g inherited) g.actors

  pub sinks_many : length (early_of graphs place inherited).outputs ≡ length g.outputs
  sinks_many = (outputs_found 7 graphs place inherited).1 ∙ ap (λ o. length (outputs_of o)) here

  taken : (is : List ℕ) → AreWithin (map (λ i. slice_index (early_of graphs place inherited).inputs i) is)
  taken [] = tt
  taken (i ∷ is) = (index_within (early_of graphs place inherited).inputs (inputs_found 7 graphs place inherited).0 i, taken is)

  pub sources_within : AreWithin (sources_of g (early_of graphs place inherited))
  sources_within = within_append _ _ (taken (source_inputs g)) outs_within

  pub sources_many : length (sources_of g (early_of graphs place inherited)) ≡ length (source_inputs g) + total graphs g.actors
  sources_many =
      length-append (map (λ i. slice_index (early_of graphs place inherited).inputs i) (source_inputs g)) _
      ∙ ap (λ m. m + length (flat_map (λ rates. rates) (early_of graphs place inherited).outs)) (length-map (source_inputs g) _)
      ∙ ap (λ m. length (source_inputs g) + m) outs_many
