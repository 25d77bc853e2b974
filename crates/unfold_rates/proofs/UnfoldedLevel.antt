-- The level of the unfolded top graph is the unfolded level.
use Rattle.std.proofs.Common.{◌≡◌, ℕ, ◌*◌, false, not, ℤ, List, [], ◌∷◌, ◌++◌, length, map, slice_index, Some, refl, ap, sym, ◌∙◌}
use Rattle.std.specs.List.{filter, flat_map, range_with_len}
use Rattle.std.proofs.lemmas.List.{append-nil, length-map}
use Rattle.level_laws.proofs.Multiplied.{at_multiplied}
use Rattle.level_laws.specs.Unfolded.{multiplied, unfolded}
use Rattle.param_resolver.specs.EarlyCheck.{Checked, check_by, check_of, config_outs, early_numbers, early_of}
use Rattle.param_resolver.specs.EarlyView.{EarlyView}
use Rattle.param_resolver.specs.LevelOf.{level_at, links_of, sources_of}
use Rattle.param_resolver.specs.Numbering.{acting, feeds_configuration, source_inputs}
use Rattle.pisdf_model.specs.InterfaceWires.{is_configuration}
use Rattle.pisdf_model.specs.declared.actor.Actor.{Actor}
use Rattle.pisdf_model.specs.declared.actor.Body.{Body}
use Rattle.pisdf_model.specs.declared.actor.Body.TheVariants.{Kernel, Config, Child, ConfigChild}
use Rattle.pisdf_model.specs.declared.graph.Graph.{Graph}
use Rattle.sdf_level.specs.declared.link.Link.{Link}
use Rattle.unfold_rates.specs.Multiplied.{multiplied_graph, multiplied_interface}
use Rattle.unfold_rates.proofs.Lookups.{append_same}
use Rattle.unfold_rates.proofs.Unset.{NoneConfigures, first_configures_nothing, others_configure_nothing}

no_body_outs : (check : ℕ → List ℤ → Checked) (values : List ℤ) (body : Body) → is_configuration body ≡ false → config_outs check values body ≡ []
no_body_outs check values (Kernel kernel args ins outs) is = refl
no_body_outs check values (Config kernel args ins outs sets) is = absurd (cc)
no_body_outs check values (Child k args) is = refl
no_body_outs check values (ConfigChild k args sets) is = absurd (cc)

no_outs : (check : ℕ → List ℤ → Checked) (values : List ℤ) (actors : List Actor) → NoneConfigures actors → flat_map (λ (actor : Actor). config_outs check values actor.body) actors ≡ []
no_outs check values [] all = refl
no_outs check values (actor ∷ actors) all =
    append_same [] (config_outs check values actor.body) [] _ (no_body_outs check values actor.body (first_configures_nothing actor actors all)) (no_outs check values actors (others_configure_nothing actor actors all))

each_multiplied : (times : ℕ) (rates : List ℕ) (places : List ℕ) → map (λ i. slice_index (map (λ r. times * r) rates) i) places ≡ map (λ r. times * r) (map (λ i. slice_index rates i) places)
each_multiplied times rates [] = refl
each_multiplied times rates (i ∷ places) =
    ap (λ (r : ℕ). r ∷ map (λ i. slice_index (map (λ r. times * r) rates) i) places) (at_multiplied times rates i) ∙ ap (λ (rs : List ℕ). (times * slice_index rates i) ∷ rs) (each_multiplied times rates places)

module _ (times : ℕ) (gs hs : List Graph) (place : ℕ) (g : Graph) (nothing : NoneConfigures g.actors)
    (opened : check_of gs place [] ≡ check_by (check_of gs) gs (Some g) [])
    (opened' : check_of hs place [] ≡ check_by (check_of hs) hs (Some (multiplied_graph times g)) [])
    (inputs : (early_of hs place []).inputs ≡ map (λ r. times * r) (early_of gs place []).inputs)
    (outputs : (early_of hs place []).outputs ≡ map (λ r. times * r) (early_of gs place []).outputs)
    (links : links_of hs (multiplied_graph times g) (early_numbers g []) ≡ links_of gs g (early_numbers g [])) where
  abbrev early : EarlyView
  early = early_of gs place []

  abbrev early' : EarlyView
  early' = early_of hs place []

  outs_none : early.outs ≡ []
  outs_none = ap (λ (c : Checked). c.early.outs) opened ∙ no_outs (check_of gs) (early_numbers g []) g.actors nothing

  outs_none' : early'.outs ≡ []
  outs_none' = ap (λ (c : Checked). c.early.outs) opened' ∙ no_outs (check_of hs) (early_numbers g []) g.actors nothing

  pub same_sources : source_inputs (multiplied_graph times g) ≡ source_inputs g
  same_sources = ap (λ (n : ℕ). filter (λ i. not (feeds_configuration g i)) (range_with_len 0 n)) (length-map g.inputs (multiplied_interface times))

  pub sources_are : sources_of g early ≡ map (λ i. slice_index early.inputs i) (source_inputs g)
  sources_are = ap (λ (outs : List (List ℕ)). map (λ i. slice_index early.inputs i) (source_inputs g) ++ flat_map (λ rates. rates) outs) outs_none ∙ append-nil _

  sources_are' : sources_of (multiplied_graph times g) early' ≡ multiplied times (sources_of g early)
  sources_are' =
      ap (λ (outs : List (List ℕ)). map (λ i. slice_index early'.inputs i) (source_inputs (multiplied_graph times g)) ++ flat_map (λ rates. rates) outs) outs_none' ∙ append-nil _
      ∙ ap (λ (places : List ℕ). map (λ i. slice_index early'.inputs i) places) same_sources
      ∙ ap (λ (rates : List ℕ). map (λ i. slice_index rates i) (source_inputs g)) inputs
      ∙ each_multiplied times early.inputs (source_inputs g)
      ∙ ap (λ (rates : List ℕ). map (λ r. times * r) rates) (sym sources_are)

  pub level_unfolds : level_at hs (multiplied_graph times g) early' (early_numbers g []) ≡ unfolded times (level_at gs g early (early_numbers g []))
  level_unfolds =
      ap (λ (sources : List ℕ). record { actors = length (acting g); sources = sources; sinks = early'.outputs; links = links_of hs (multiplied_graph times g) (early_numbers g []) }) sources_are'
      ∙ ap (λ (sinks : List ℕ). record { actors = length (acting g); sources = multiplied times (sources_of g early); sinks = sinks; links = links_of hs (multiplied_graph times g) (early_numbers g []) }) outputs
      ∙ ap (λ (l : List Link). record { actors = length (acting g); sources = multiplied times (sources_of g early); sinks = multiplied times early.outputs; links = l }) links
