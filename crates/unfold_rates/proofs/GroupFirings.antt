-- The firings of a group of iterations, as those of the unfolded graphs.
use Rattle.std.proofs.Common.{◌≡◌, ℕ, ◌+◌, ◌*◌, ◌≤◌, true, cond, not, ℤ, List, length, map, slice_get, slice_index, Some, Ok, refl, ap, sym, ◌∙◌, subst, arith, suc-mul, add-one}
use Rattle.std.specs.List.{filter, range_with_len}
use Rattle.std.proofs.lemmas.List.{length-map}
use Rattle.firing_laws.specs.Alike.{IsLevelAlike}
use Rattle.firing_laws.specs.Runs.{LevelFirings, RunsMove}
use Rattle.kernel_gate.specs.Laws.{GiveLengths}
use Rattle.kernel_gate.specs.Signed.{Counts}
use Rattle.kernel_gate.specs.Value.{lengths}
use Rattle.level_laws.specs.Laws.{CountsAreMultiplied}
use Rattle.level_laws.specs.Pieces.{HaveTokens}
use Rattle.level_laws.specs.Unfolded.{unfolded}
use Rattle.param_resolver.specs.LevelOf.{links_of}
use Rattle.param_resolver.specs.Numbering.{acting, feeds_configuration, has_state, source_inputs, state_size}
use Rattle.pisdf_meaning.specs.Meaning.{MeansWithin}
use Rattle.pisdf_meaning.specs.Run.{top_firing, top_needs}
use Rattle.pisdf_meaning.specs.Running.{Fires, Traces, link_starts}
use Rattle.pisdf_meaning.specs.Sound.{AllFit, AreRunnable, AreValidFor, KernelsFit}
use Rattle.pisdf_meaning.specs.States.{tokens_at}
use Rattle.pisdf_meaning.specs.declared.firing.Firing.{Firing}
use Rattle.pisdf_meaning.specs.declared.refusal.Refusal.{Refusal}
use Rattle.pisdf_meaning.proofs.KeptSizes.{KeepsTo, Levelled, rates_of, within_sizes}
use Rattle.pisdf_meaning.proofs.LineSizes.{HaveSizes, own_reads}
use Rattle.pisdf_meaning.proofs.LinkSizes.{all_own, some_own}
use Rattle.pisdf_meaning.proofs.MadeLevels.{levels_made}
use Rattle.pisdf_meaning.proofs.SoundGraphs.{levelled}
use Rattle.pisdf_meaning.proofs.StateSizes.{starts_fit, state_fits}
use Rattle.pisdf_model.specs.Hold.{initial}
use Rattle.pisdf_model.specs.Parts.{input_count}
use Rattle.pisdf_model.specs.Valid.{AreValid}
use Rattle.pisdf_model.specs.declared.actor.Actor.{Actor}
use Rattle.pisdf_model.specs.declared.graph.Graph.{Graph}
use Rattle.pisdf_model.specs.declared.graph.Graphs.{Graphs}
use Rattle.sdf_level.specs.Invariants.{how_many}
use Rattle.sdf_level.specs.LevelRun.{GivesRates, HaveDelays, HaveRates}
use Rattle.sdf_level.specs.Run.{Fire, inputs, is_into_actor}
use Rattle.sdf_level.specs.View.{LevelView}
use Rattle.sdf_level.specs.declared.link.Link.{Link}
use Rattle.unfold_rates.specs.Exact.{IsExact, own_values, top_level}
use Rattle.unfold_rates.specs.Fits.{FitAsBefore}
use Rattle.unfold_rates.specs.InTurn.{CanBegin}
use Rattle.unfold_rates.specs.Multiplied.{multiplied_graph, multiplied_interface, unfolded_graphs}
use Rattle.unfold_rates.proofs.Fitted.{EarlyUnfolds, fit_as_before, opened, opened'}
use Rattle.unfold_rates.proofs.MultipliedRates.{needs_multiply, outputs_multiply}
use Rattle.unfold_rates.proofs.PartTokens.{fed, fed_long}
use Rattle.unfold_rates.proofs.TraceOrder.{AreAlike, AreBelow, TheyMove, h_is, is_alike, level_is}
use Rattle.unfold_rates.proofs.UnfoldedLevel.{sources_are}

-- ---- the laws that are used

abbrev pub RunsGoAlong : Type 0
RunsGoAlong = (n top : ℕ) (one other : LevelFirings) → RunsMove n top one other

abbrev pub CanRun : Type 0
CanRun = (signatures : List Counts) (graphs : Graphs) → AreValidFor signatures graphs → AreRunnable signatures graphs

-- ---- numbers of firings

-- the firing of this number after those of i iterations
abbrev pub number_of : List ℕ → ℕ → ℕ → ℕ → ℕ
number_of q i b k = i * slice_index q b + k

pub number_next : (i n k : ℕ) → i * n + (n + k) ≡ (i + 1) * n + k
number_next i n k = let m = suc-mul i n in let e = ap (λ j. j * n) (add-one i) in omega arith

pub number_first : (n k : ℕ) → 0 * n + k ≡ k
number_first n k = omega arith

-- ---- what they are among

module _ (unfolds : EarlyUnfolds) (counted : CountsAreMultiplied) (below : AreBelow) (alike : AreAlike) (move : TheyMove) (can_run : CanRun)
    (graphs : Graphs) (times : ℕ) (some : 1 ≤ times) (few : times ≤ 64) (valid : AreValid graphs) (exact : IsExact graphs times) where
  abbrev others : Graphs
  others = unfolded_graphs graphs times

  abbrev g : Graph
  g = exact.top

  abbrev h : Graph
  h = multiplied_graph times exact.top

  abbrev values : List ℤ
  values = own_values exact.top

  abbrev level : LevelView
  level = top_level graphs exact.top

  abbrev places : List ℕ
  places = source_inputs exact.top

  pub fits : FitAsBefore graphs times others
  fits = fit_as_before unfolds graphs times few valid exact

  here : slice_get others.graphs graphs.top ≡ Some h
  here = h_is unfolds counted below alike move graphs times some few valid exact

  pub like : IsLevelAlike graphs.graphs others.graphs g h
  like = is_alike unfolds counted below alike move graphs times some few valid exact

  pub same_level : top_level others h ≡ unfolded times level
  same_level = level_is unfolds counted below alike move graphs times some few valid exact

  pub same_places : source_inputs h ≡ places
  same_places = ap (λ (n : ℕ). filter (λ i. not (feeds_configuration g i)) (range_with_len 0 n)) (length-map g.inputs (multiplied_interface times))

  module _ (signatures : List Counts) (kernels : KernelsFit signatures graphs.graphs) (give : GiveLengths signatures) where
    all_fit : AllFit signatures others.graphs
    all_fit = (can_run signatures others record { valid = fits.valid; kernels = fits.kernels signatures kernels }).fit

    levels : (place : ℕ) (x : Graph) → slice_get others.graphs place ≡ Some x → Levelled others.graphs place x
    levels place x there = levelled others fits.valid.well_formed place x there (levels_made others fits.valid.in_range fits.valid.well_formed)

    keeps : KeepsTo others.graphs (MeansWithin 7 others.graphs)
    keeps = within_sizes signatures others.graphs all_fit give levels 7

    module _ (state ins : List (List ℤ)) (begins : CanBegin graphs times state ins) where
      abbrev firing : Firing
      firing = top_firing h graphs.top ins state

      abbrev links : List Link
      links = links_of others.graphs h values

      long : lengths state ≡ lengths (initial others.graphs graphs.top)
      long = begins.state_fits ∙ ap lengths (sym fits.begins)

      -- what an actor reads on its link to itself is as long as its state
      abbrev pub Fits : ℕ → List (List ℤ) → Type 0
      Fits b read = (actor : Actor) → slice_get (acting h) b ≡ Some actor → has_state others.graphs actor ≡ true → length (tokens_at read (input_count others.graphs actor.body)) ≡ state_size others.graphs actor.body

      pub fitting : (sources : List (List ℤ)) (f : ℕ → ℕ) (b : ℕ) (lines : List (List ℤ)) → HaveSizes f links lines → Fits b (inputs sources b (f b) links lines)
      fitting sources f b lines sizes actor is has =
          let top_levels = levels graphs.top h here in
          let count : how_many (is_into_actor b) links ≡ input_count others.graphs actor.body + 1 = top_levels.makes.inputs values b actor is ∙ ap (λ t. input_count others.graphs actor.body + cond t 1 0) has in
          own_reads sources f b (input_count others.graphs actor.body) (state_size others.graphs actor.body) links lines (all_own others.graphs h values top_levels.wired b actor is) (some_own others.graphs h values top_levels.wired b actor is has) (omega arith) sizes

      -- ---- with what they begin

      pub starting' : HaveDelays links (link_starts others.graphs h firing)
      starting' = starts_fit others.graphs h values state (state_fits others.graphs h state (long ∙ ap lengths (levels graphs.top h here).begins))

      pub starting : HaveDelays level.links (link_starts graphs.graphs g firing)
      starting = subst (λ (l : List Link). HaveDelays l (link_starts graphs.graphs g firing)) (like.links values) (subst (λ (s : List (List ℤ)). HaveDelays links s) (like.starts firing) starting')

      pub holds : HaveTokens times level (fed places ins)
      holds =
          let check = opened unfolds graphs times few valid exact in
          let check' = opened' unfolds graphs times few valid exact in
          let needs = needs_multiply times few graphs.graphs others.graphs graphs.top g check check' exact.configures_nothing exact.early exact.inputs exact.outputs in
          let outs = outputs_multiply times few graphs.graphs others.graphs graphs.top g check check' exact.configures_nothing exact.early exact.inputs exact.outputs in
          fed_long times (top_needs graphs) places ins begins.inputs_fit
          ∙ ap (λ (rates : List ℕ). map (λ r. times * r) rates) (sym (sources_are times graphs.graphs others.graphs graphs.top g exact.configures_nothing check check' needs outs (like.links values)))

      -- ---- with these traces

      module _ (traces : Traces) where
        abbrev pub fire : Fire ℤ Refusal
        fire = Fires others.graphs (MeansWithin 7 others.graphs) h firing values traces

        -- the firings that read what fits
        abbrev pub fire_fitting : Fire ℤ Refusal
        fire_fitting b k read answer = fire b k read answer × Fits b read

        pub rated : (b k : ℕ) (read outs : List (List ℤ)) → Fits b read → fire b k read (Ok outs) → HaveRates b outs links
        rated b k read outs fitted f =
            rates_of signatures others.graphs all_fit give (MeansWithin 7 others.graphs) keeps h firing here (levels graphs.top h here) fits.sound long values (like.faults values ∙ exact.rates) b k (traces b k) read outs (slice_get (acting h) b) refl fitted f

        pub gives_rates : GivesRates level fire_fitting
        gives_rates b k read outs f = subst (λ (l : List Link). HaveRates b outs l) (like.links values) (rated b k read outs f.1 f.0)
