-- An iteration leads to only one level of the top graph.
use Rattle.std.proofs.Common.{◌≡◌, ◌⊎◌, inl, inr, ℤ, List, Result, Ok, Err, IfOk, IfErr, refl, ap, sym, ◌∙◌, subst}
use Rattle.param_resolver.specs.declared.level_set.LevelSet.{LevelSet}
use Rattle.pisdf_model.specs.declared.graph.Graph.{Graph}
use Rattle.pisdf_model.specs.declared.graph.Graphs.{Graphs}
use Rattle.pisdf_meaning.specs.Configuring.{configurations}
use Rattle.pisdf_meaning.specs.Endings.{IfRefused, Then}
use Rattle.pisdf_meaning.specs.Meaning.{MeansWithin}
use Rattle.pisdf_meaning.specs.Preparing.{rated, resolved}
use Rattle.pisdf_meaning.specs.Run.{top_firing}
use Rattle.pisdf_meaning.specs.TopLevel.{IsLevelSet, IsTopLevel, LeadsToLevel, TopLeads, TopLevelRefused}
use Rattle.pisdf_meaning.specs.declared.firing.Configured.{Configured}
use Rattle.pisdf_meaning.specs.declared.firing.Firing.{Firing}
use Rattle.pisdf_meaning.specs.declared.refusal.PlainFault.{PlainFault}
use Rattle.pisdf_meaning.specs.declared.refusal.PlainFault.TheVariants.{Refused, Memory}
use Rattle.pisdf_meaning.specs.declared.refusal.Refusal.{Refusal}
use Rattle.pisdf_meaning.proofs.OneMeaning.{all_once, then_once, within_once}

module _ (graphs : List Graph) (g : Graph) (firing : Firing) where
  abbrev AfterValues : List ℤ → Result (List ℤ) Refusal → Type 0
  AfterValues values end = end ≡ rated graphs g firing values

  abbrev AfterActors : List Configured → Result (List ℤ) Refusal → Type 0
  AfterActors configured end = Then AfterValues (resolved graphs g firing configured) end

  leads_once : (a b : Result (List ℤ) Refusal) → LeadsToLevel graphs (MeansWithin 7 graphs) g firing a → LeadsToLevel graphs (MeansWithin 7 graphs) g firing b → a ≡ b
  leads_once a b f h =
      let same = all_once graphs (MeansWithin 7 graphs) (within_once 7 graphs) g firing (configurations g) h.0 f.0 h.1 f.1 in
      let P : Result (List Configured) Refusal → Type 0 = λ r. Then AfterActors r b in
      then_once AfterActors (λ configured x y p q. then_once AfterValues (λ values x y p q. p ∙ sym q) (resolved graphs g firing configured) x y p q) f.0 a b f.2 (subst P same h.2)

module _ (graphs : Graphs) (ins state : List (List ℤ)) where
  top_once : (a b : Result (List ℤ) Refusal) (f : TopLeads graphs ins state a) (h : TopLeads graphs ins state b) → (f.top ≡ h.top) × (a ≡ b)
  top_once a b f h =
      let same : f.top ≡ h.top = let e = sym f.top_is ∙ h.top_is in cc in
      let P : Graph → Type 0 = λ t. LeadsToLevel graphs.graphs (MeansWithin 7 graphs.graphs) t (top_firing t graphs.top ins state) a in
      (same, leads_once graphs.graphs h.top (top_firing h.top graphs.top ins state) a b (subst P same f.leads) h.leads)

  one_set : (top : Graph) (firing : Firing) (values : List ℤ) (a b : LevelSet) → IsLevelSet graphs.graphs top firing values a → IsLevelSet graphs.graphs top firing values b → a ≡ b
  one_set top firing values a b f h = λ i. record {
    level = (f.level ∙ sym h.level) i;
    origins = (f.origins ∙ sym h.origins) i;
    places = (f.places ∙ sym h.places) i;
    args = (f.args ∙ sym h.args) i;
    outs = (f.outs ∙ sym h.outs) i;
    children = (f.children ∙ sym h.children) i;
  }

  level_once : (a b : LevelSet) → IsTopLevel graphs ins state a → IsTopLevel graphs ins state b → a ≡ b
  level_once a b f h =
      let once = top_once (Ok f.values) (Ok h.values) f.leads h.leads in
      let values : f.values ≡ h.values = let e = once.1 in cc in
      let P : Graph → Type 0 = λ t. IsLevelSet graphs.graphs t (top_firing t graphs.top ins state) f.values a in
      let Q : List ℤ → Type 0 = λ v. IsLevelSet graphs.graphs h.leads.top (top_firing h.leads.top graphs.top ins state) v a in
      one_set h.leads.top (top_firing h.leads.top graphs.top ins state) h.values a b (subst Q values (subst P once.0 f.set_is)) h.set_is

  module _ (result : Result LevelSet PlainFault) where
    -- where there is a level, nothing else is answered
    pub only_level : IfOk result (IsTopLevel graphs ins state) → IfErr result (IfRefused (TopLevelRefused graphs ins state)) → (set : LevelSet) → IsTopLevel graphs ins state set → (result ≡ Ok set) ⊎ (result ≡ Err Memory)
    only_level = only result
      where
        only : (r : Result LevelSet PlainFault) → IfOk r (IsTopLevel graphs ins state) → IfErr r (IfRefused (TopLevelRefused graphs ins state)) → (set : LevelSet) → IsTopLevel graphs ins state set → (r ≡ Ok set) ⊎ (r ≡ Err Memory)
        only (Ok one) level refused set is = inl (ap Ok (level_once one set level is))
        only (Err (Refused refusal)) level refused set is = let e : Err refusal ≡ Ok is.values = (top_once (Err refusal) (Ok is.values) refused is.leads).1 in cc
        only (Err Memory) level refused set is = inr refl

    -- where it is refused, nothing else is answered
    pub only_unlevelled : IfOk result (IsTopLevel graphs ins state) → IfErr result (IfRefused (TopLevelRefused graphs ins state)) → (refusal : Refusal) → TopLevelRefused graphs ins state refusal → (result ≡ Err (Refused refusal)) ⊎ (result ≡ Err Memory)
    only_unlevelled = only result
      where
        only : (r : Result LevelSet PlainFault) → IfOk r (IsTopLevel graphs ins state) → IfErr r (IfRefused (TopLevelRefused graphs ins state)) → (refusal : Refusal) → TopLevelRefused graphs ins state refusal → (r ≡ Err (Refused refusal)) ⊎ (r ≡ Err Memory)
        only (Ok one) level refused refusal is = let e : Ok level.values ≡ Err refusal = (top_once (Ok level.values) (Err refusal) level.leads is).1 in cc
        only (Err (Refused other)) level refused refusal is =
            let e : Err other ≡ Err refusal = (top_once (Err other) (Err refusal) refused is).1 in
            let same : other ≡ refusal = cc in
            inl (ap (λ r. Err (Refused r)) same)
        only (Err Memory) level refused refusal is = inr refl
