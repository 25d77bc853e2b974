-- The graph at `top` itself among the other graphs, where its interfaces have other rates.
use Rattle.std.proofs.Common.{◌≡◌, ℕ, zero, suc, List, length, slice_get, Option, Some, refl, ap, ◌∙◌, sym, subst}
use Rattle.pisdf_model.specs.Hold.{graph_state, initial, initial_to}
use Rattle.pisdf_model.specs.declared.graph.Graph.{Graph}
use Rattle.pisdf_model.specs.declared.graph.Interface as interface
use Rattle.firing_laws.specs.Alike.{IsLevelAlike, with_interfaces}
use Rattle.firing_laws.specs.Moving.{DifferAt, IsBelow}
use Rattle.firing_laws.proofs.Belows.{NameWithin}
use Rattle.firing_laws.proofs.Checks.{graph_states_same, initial_to_same}
use Rattle.firing_laws.proofs.LevelsAlike.{level_faults_same, links_same}
use Rattle.firing_laws.proofs.RunsMoved.{have_own, link_starts_same, state_after_same}

module _ (top : ℕ) (one other : List Graph) (differ : DifferAt top one other) (g : Graph) (names : NameWithin (IsBelow one top) g.actors) (ins outs : List interface.Interface) where
  initial_top_to : (n : ℕ) → slice_get one top ≡ Some g → slice_get other top ≡ Some (with_interfaces ins outs g) → initial_to other n top ≡ initial_to one n top
  unfolding initial_to
  initial_top_to zero here there = refl
  initial_top_to (suc n) here there =
      ap (λ (o : Option Graph). graph_state (initial_to other n) o) there
      ∙ graph_states_same top one other differ (initial_to one n) (initial_to other n) (λ k low. initial_to_same top one other differ n k low) (Some g) (λ x is. let same : g ≡ x = cc in subst (λ (y : Graph). NameWithin (IsBelow one top) y.actors) same names)
      ∙ sym (ap (λ (o : Option Graph). graph_state (initial_to one n) o) here)

  pub initial_top_same : slice_get one top ≡ Some g → slice_get other top ≡ Some (with_interfaces ins outs g) → initial other top ≡ initial one top
  initial_top_same here there = initial_top_to 8 here there

  pub level_alike : length ins ≡ length g.inputs → IsLevelAlike one other g (with_interfaces ins outs g)
  level_alike long = record {
    faults = λ values. level_faults_same top one other differ g names values;
    links = λ values. links_same top one other differ g names ins outs long values;
    starts = λ firing. link_starts_same top one other differ g firing firing.path names;
    states = λ configured left. state_after_same top one other differ g names configured configured (have_own configured) left;
  }
