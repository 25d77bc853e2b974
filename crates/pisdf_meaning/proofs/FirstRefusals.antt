-- The refusal that stands first, whatever would stand in its place.
use Rattle.std.proofs.Common.{◌≡◌, ℕ, ℤ, List, [], ◌∷◌, Option, Some, Result, Err, None, Ok, IfOk, OnErr, option_map, slice_get, get_or, ap, ◌∙◌, subst}
use Rattle.std.proofs.lemmas.Option.{get_or_from_slice_get}
use Rattle.param_resolver.specs.EarlyCheck.{early_faults}
use Rattle.param_resolver.specs.Refusal as part
use Rattle.param_resolver.specs.Refusal.{StandsFirst}
use Rattle.pisdf_model.specs.declared.graph.Graph.{Graph}
use Rattle.pisdf_model.specs.declared.graph.Graphs.{Graphs}
use Rattle.pisdf_meaning.specs.Causes.{part_cause, unless_refused}
use Rattle.pisdf_meaning.specs.Endings.{IfRefused}
use Rattle.pisdf_meaning.specs.Run.{Lack, after_early}
use Rattle.pisdf_meaning.specs.declared.refusal.Cause.{Cause}
use Rattle.pisdf_meaning.specs.declared.refusal.PlainFault.{PlainFault}
use Rattle.pisdf_meaning.specs.declared.refusal.PlainFault.TheVariants.{Refused, Memory}
use Rattle.pisdf_meaning.specs.declared.refusal.Refusal.{Refusal}

pub refused_in_place : {S T : Type 0} (graphs : List Graph) (g : Graph) (path : List ℕ) (faults : List part.Refusal) (refusal : Refusal) (given : S) (other : T) → unless_refused graphs g path faults given ≡ Err refusal → unless_refused graphs g path faults other ≡ Err refusal
refused_in_place graphs g path [] refusal given other refused = cc
refused_in_place graphs g path (fault ∷ faults) refusal given other refused = cc

pub if_refused : (P Q : Refusal → Type 0) (fault : PlainFault) → ((refusal : Refusal) → P refusal → Q refusal) → IfRefused P fault → IfRefused Q fault
if_refused P Q (Refused refusal) implies is = implies refusal is
if_refused P Q Memory implies is = tt

module _ (graphs : Graphs) (all : List Graph) (all_are : all ≡ graphs.graphs) (g : Graph) (is_top : g ≡ get_or all graphs.top g) (path : List ℕ) (path_is : path ≡ g.name) (faults : List part.Refusal) (faults_are : faults ≡ early_faults graphs.graphs graphs.top []) (values : List ℤ) where
  same_top : (top : Graph) → slice_get graphs.graphs graphs.top ≡ Some top → g ≡ top
  same_top top is = is_top ∙ ap (λ (gs : List Graph). get_or gs graphs.top g) all_are ∙ get_or_from_slice_get graphs.graphs graphs.top top g is

  after_check : (refusal : Refusal) → unless_refused all g path faults values ≡ Err refusal → (top : Graph) (lack : Option Lack) → slice_get graphs.graphs graphs.top ≡ Some top → after_early graphs top lack ≡ Err refusal
  after_check refusal refused top lack is =
      let here = refused_in_place all g path faults refusal values lack refused in
      let P : List Graph → Type 0 = λ gs. unless_refused gs g path faults lack ≡ Err refusal in
      let Q : List ℕ → Type 0 = λ p. unless_refused graphs.graphs g p faults lack ≡ Err refusal in
      let R : List part.Refusal → Type 0 = λ fs. unless_refused graphs.graphs g g.name fs lack ≡ Err refusal in
      let S : Graph → Type 0 = λ t. unless_refused graphs.graphs t t.name (early_faults graphs.graphs graphs.top []) lack ≡ Err refusal in
      subst S (same_top top is) (subst R faults_are (subst Q path_is (subst P all_are here)))

  pub iteration_refused : (fault : PlainFault) → IfRefused (λ refusal. unless_refused all g path faults values ≡ Err refusal) fault → IfRefused (λ refusal. (top : Graph) (lack : Option Lack) → slice_get graphs.graphs graphs.top ≡ Some top → after_early graphs top lack ≡ Err refusal) fault
  iteration_refused fault refused =
      if_refused (λ refusal. unless_refused all g path faults values ≡ Err refusal) (λ refusal. (top : Graph) (lack : Option Lack) → slice_get graphs.graphs graphs.top ≡ Some top → after_early graphs top lack ≡ Err refusal) fault after_check refused

-- a cause that is known makes the refusal of what stands first
pub known_refuses : {E T : Type 0} (graphs : List Graph) (g : Graph) (path : List ℕ) (told : Option part.Refusal) (cause : Result Cause E) (answer : PlainFault) (given : T)
    → IfOk cause (λ known. option_map (part_cause graphs (Some g)) told ≡ Some known) → IfRefused (λ refusal. IfOk cause (λ known. refusal ≡ record { path = path; cause = known })) answer → OnErr cause (answer ≡ Memory)
    → (faults : List part.Refusal) → StandsFirst faults told → IfRefused (λ refusal. unless_refused graphs g path faults given ≡ Err refusal) answer
known_refuses graphs g path told cause Memory given known refused none faults first = tt
known_refuses graphs g path told (Err e) (Refused refusal) given known refused none faults first = absurd (cc)
known_refuses graphs g path None (Ok c) (Refused refusal) given known refused none faults first = cc
known_refuses graphs g path (Some told) (Ok c) (Refused refusal) given known refused none [] first = cc
known_refuses graphs g path (Some told) (Ok c) (Refused refusal) given known refused none (fault ∷ faults) first = cc
