-- What parameters come to, once configuration actors fired.
use Rattle.std.proofs.Common.{◌≡◌, ℕ, ℤ, List, [], ◌∷◌, length, get_or, map, slice_get, Some, Ok, Err, refl, ap, sym, ◌∙◌, subst}
use Rattle.param_resolver.specs.Assignment.{supplied_to, numbers, param_faults, values_of}
use Rattle.param_resolver.specs.EarlyCheck.{IsEarlyOf, as_refusal, check_by, check_of, early_faults, early_of, supplied_early}
use Rattle.param_resolver.specs.EarlyView.{EarlyView}
use Rattle.param_resolver.specs.Resolvable.{AreResolvable, IsResolvable}
use Rattle.pisdf_model.specs.declared.graph.Graph.{Graph}
use Rattle.pisdf_model.proofs.Lists.{left_none}
use Rattle.std.proofs.lemmas.Option.{slice_get-get_or, slice_get_within}
use Rattle.pisdf_meaning.specs.Causes.{unless_refused}
use Rattle.pisdf_meaning.specs.Endings.{IfRefused}
use Rattle.pisdf_meaning.specs.Preparing.{chosen_values, resolved}
use Rattle.pisdf_meaning.specs.declared.firing.Configured.{Configured}
use Rattle.pisdf_meaning.specs.declared.firing.Firing.{Firing}
use Rattle.pisdf_meaning.specs.declared.refusal.PlainFault.{PlainFault}
use Rattle.pisdf_meaning.specs.declared.refusal.PlainFault.TheVariants.{Refused, Memory}
use Rattle.pisdf_meaning.specs.declared.refusal.Refusal.{Refusal}

map_none : {A B : Type 0} → (f : A → B) (xs : List A) → map f xs ≡ [] → xs ≡ []
map_none f [] none = refl
map_none f (x ∷ xs) none = cc

-- what holds of a refusal holds of another form of it
pub refused_as : (P Q : Refusal → Type 0) (fault : PlainFault) → ((refusal : Refusal) → P refusal → Q refusal) → IfRefused P fault → IfRefused Q fault
refused_as P Q (Refused refusal) turn holds = turn refusal holds
refused_as P Q Memory turn holds = tt

-- the graph at a place is resolvable
pub resolvable_at : (graphs : List Graph) (place : ℕ) (g : Graph) → slice_get graphs place ≡ Some g → AreResolvable graphs → IsResolvable (length graphs) g
resolvable_at graphs place g here all =
    let inside = slice_get_within graphs place g here in
    let same : get_or graphs place g ≡ g = let e = sym (slice_get-get_or graphs place g inside) ∙ here in cc in
    let P : Graph → Type 0 = λ x. IsResolvable (length graphs) x in
    subst P same (all place g inside)

-- what is known of a graph whose early check finds nothing are the values of its early parameters
pub known_early : (graphs : List Graph) (place : ℕ) (g : Graph) (inherited : List ℤ) (early : EarlyView) → slice_get graphs place ≡ Some g →
    check_of graphs place inherited ≡ check_by (check_of graphs) graphs (slice_get graphs place) inherited → early ≡ early_of graphs place inherited → early_faults graphs place inherited ≡ [] →
    IsEarlyOf g.params inherited early.values
known_early graphs place g inherited early here unfolds is sound =
    let opened = unfolds ∙ ap (λ o. check_by (check_of graphs) graphs o inherited) here in
    let none = sym (ap (λ c. c.faults) opened) ∙ sound in
    record {
      known = ap (λ (e : EarlyView). e.values) (is ∙ ap (λ c. c.early) opened);
      sound = map_none as_refusal (param_faults g.params (supplied_early g.params inherited)) (left_none _ _ (left_none _ _ none));
    }

module _ (graphs : List Graph) (g : Graph) (firing : Firing) (configured : List Configured) (chosen : List ℤ) (chosen_are : chosen ≡ chosen_values g configured) where
  pub resolved_so : (values : List ℤ) → values ≡ numbers (values_of g.params (supplied_to g.params firing.inherited chosen)) → param_faults g.params (supplied_to g.params firing.inherited chosen) ≡ [] → Ok values ≡ resolved graphs g firing configured
  resolved_so values are sound =
      let P : List ℤ → Type 0 = λ c. unless_refused graphs g firing.path (map as_refusal (param_faults g.params (supplied_to g.params firing.inherited c))) (numbers (values_of g.params (supplied_to g.params firing.inherited c))) ≡ Ok values in
      let here : P chosen = rw (sound, ← are) refl in
      sym (subst P chosen_are here)

  pub unresolved_so : (fault : PlainFault) → IfRefused (λ refusal. unless_refused graphs g firing.path (map as_refusal (param_faults g.params (supplied_to g.params firing.inherited chosen))) (numbers (values_of g.params (supplied_to g.params firing.inherited chosen))) ≡ Err refusal) fault →
      IfRefused (λ refusal. Err refusal ≡ resolved graphs g firing configured) fault
  unresolved_so fault refused = refused_as _ _ fault
      (λ refusal e.
      let P : List ℤ → Type 0 = λ c. unless_refused graphs g firing.path (map as_refusal (param_faults g.params (supplied_to g.params firing.inherited c))) (numbers (values_of g.params (supplied_to g.params firing.inherited c))) ≡ Err refusal in
      sym (subst P chosen_are e))
      refused
