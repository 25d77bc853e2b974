-- The level of the top graph in an iteration.
use Rattle.std.specs.Prelude.{◌≡◌, ◌-◌, ℤ, List, slice_get, Some, Result, Ok, Err}
use Rattle.param_resolver.specs.LevelOf.{level_args, level_children, level_outs}
use Rattle.param_resolver.specs.Numbering.{acting_places, link_origins}
use Rattle.param_resolver.specs.declared.level_set.LevelSet.{LevelSet}
use Rattle.pisdf_model.specs.Nesting.{nesting_limit}
use Rattle.pisdf_model.specs.declared.graph.Graph.{Graph}
use Rattle.pisdf_model.specs.declared.graph.Graphs.{Graphs}
use Rattle.pisdf_meaning.specs.Configuring.{Configures}
use Rattle.pisdf_meaning.specs.Endings.{Ends, Then}
use Rattle.pisdf_meaning.specs.Meaning.{MeansWithin}
use Rattle.pisdf_meaning.specs.Preparing.{level_in, rated, resolved}
use Rattle.pisdf_meaning.specs.Run.{top_firing}
use Rattle.pisdf_meaning.specs.declared.firing.Configured.{Configured}
use Rattle.pisdf_meaning.specs.declared.firing.Firing.{Firing}
use Rattle.pisdf_meaning.specs.declared.refusal.Refusal.{Refusal}

-- the first three steps of a firing come to these values of the parameters, or to a refusal: its configuration actors fire,
-- then the parameters, and then the rates and arguments of its level are worked out
abbrev pub LeadsToLevel : List Graph → Ends → Graph → Firing → Result (List ℤ) Refusal → Type 0
LeadsToLevel graphs ends g firing end =
    (all : Result (List Configured) Refusal) × Configures graphs ends g firing all ×
    Then (λ configured end. Then (λ values end. end ≡ rated graphs g firing values) (resolved graphs g firing configured) end) all end

-- the level of a firing whose parameters have these values, and with what its actors fire
pub record IsLevelSet (graphs : List Graph) (g : Graph) (firing : Firing) (values : List ℤ) (set : LevelSet) : Type 0 where
  pub level : set.level ≡ level_in graphs g firing values
  pub origins : set.origins ≡ link_origins graphs g
  pub places : set.places ≡ acting_places g
  pub args : set.args ≡ level_args g values
  pub outs : set.outs ≡ level_outs graphs g values
  pub children : set.children ≡ level_children graphs g values

-- the first three steps of the top graph's firing
pub record TopLeads (graphs : Graphs) (inputs state : List (List ℤ)) (end : Result (List ℤ) Refusal) : Type 0 where
  pub top : Graph
  pub top_is : slice_get graphs.graphs graphs.top ≡ Some top
  pub leads : LeadsToLevel graphs.graphs (MeansWithin (nesting_limit - 1) graphs.graphs) top (top_firing top graphs.top inputs state) end

-- they come to this level
pub record IsTopLevel (graphs : Graphs) (inputs state : List (List ℤ)) (set : LevelSet) : Type 0 where
  pub values : List ℤ
  pub leads : TopLeads graphs inputs state (Ok values)
  pub set_is : IsLevelSet graphs.graphs leads.top (top_firing leads.top graphs.top inputs state) values set

-- they are refused so
abbrev pub TopLevelRefused : Graphs → List (List ℤ) → List (List ℤ) → Refusal → Type 0
TopLevelRefused graphs inputs state refusal = TopLeads graphs inputs state (Err refusal)
