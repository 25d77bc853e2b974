-- The firing of a top graph.
use Rattle.std.proofs.Common.{◌≡◌, ℕ, ◌-◌, ℤ, List, [], ◌⊎◌, inl, inr, slice_get, Some, Result, Ok, Err, IfOk, IfErr, refl, ap, sym, ◌∙◌, subst, get_or}
use Rattle.std.proofs.lemmas.Option.{slice_get-get_or}
use Rattle.kernel_gate.specs.Signed.{Counts}
use Rattle.param_resolver.specs.EarlyCheck.{early_of, early_faults}
use Rattle.param_resolver.specs.EarlyView.{EarlyView}
use Rattle.param_resolver.specs.declared.level_set.LevelSet.{LevelSet}
use Rattle.param_resolver.proofs.Levels.{some_graph}
use Rattle.pisdf_model.specs.Nesting.{nesting_limit}
use Rattle.pisdf_model.specs.Range.{InRange}
use Rattle.pisdf_model.specs.Valid.{AreValid}
use Rattle.pisdf_model.specs.declared.graph.Graph.{Graph}
use Rattle.pisdf_model.specs.declared.graph.Graphs.{Graphs}
use Rattle.pisdf_meaning.specs.Configuring.{Configures}
use Rattle.pisdf_meaning.specs.Endings.{End, IfRefused, Then}
use Rattle.pisdf_meaning.specs.Laws.{HasOneMeaning}
use Rattle.pisdf_meaning.specs.Meaning.{Means, MeansWithin}
use Rattle.pisdf_meaning.specs.Nested.{CanRun, IsUnderway}
use Rattle.pisdf_meaning.specs.Preparing.{rated, resolved}
use Rattle.pisdf_meaning.specs.Run.{IterationEnds, IterationGives, iteration_of, top_firing}
use Rattle.pisdf_meaning.specs.Sound.{AreRunnable, NestsWithin}
use Rattle.pisdf_meaning.specs.TopLevel.{IsLevelSet, IsTopLevel, LeadsToLevel, TopLeads}
use Rattle.pisdf_meaning.specs.declared.firing.Configured.{Configured}
use Rattle.pisdf_meaning.specs.declared.firing.Firing.{Firing}
use Rattle.pisdf_meaning.specs.declared.firing.Given.{Given}
use Rattle.pisdf_meaning.specs.declared.outcome.Iteration.{Iteration}
use Rattle.pisdf_meaning.specs.declared.refusal.PlainFault.{PlainFault}
use Rattle.pisdf_meaning.specs.declared.refusal.PlainFault.TheVariants.{Refused, Memory}
use Rattle.pisdf_meaning.specs.declared.refusal.Refusal.{Refusal}
use Rattle.pisdf_meaning.proofs.AtActors.{nests_below}

pub can_run : (signatures : List Counts) (graphs : Graphs) → AreValid graphs → AreRunnable signatures graphs → CanRun signatures graphs
can_run signatures graphs valid runnable = record { valid = valid; fit = runnable.fit }

module _ (graphs : Graphs) (ins state : List (List ℤ)) (top : Graph) (firing : Firing) (top_at : slice_get graphs.graphs graphs.top ≡ Some top) (firing_is : firing ≡ top_firing top graphs.top ins state) where
  graph_is : firing.graph ≡ graphs.top
  graph_is = ap (λ (f : Firing). f.graph) firing_is

  pub top_here : slice_get graphs.graphs firing.graph ≡ Some top
  top_here = ap (slice_get graphs.graphs) graph_is ∙ top_at

  pub top_nests : (n : ℕ) → n ≡ nesting_limit → NestsWithin nesting_limit graphs.graphs graphs.top → NestsWithin n graphs.graphs firing.graph
  top_nests n most nests =
      let P : ℕ → Type 0 = λ m. NestsWithin m graphs.graphs graphs.top in
      subst (NestsWithin n graphs.graphs) (sym graph_is) (subst P (sym most) nests)

  pub top_underway : (signatures : List Counts) (early : EarlyView) → AreValid graphs → AreRunnable signatures graphs → early ≡ early_of graphs.graphs graphs.top [] → early_faults graphs.graphs graphs.top [] ≡ [] →
      IsUnderway signatures (nesting_limit - 1) graphs top firing early
  top_underway signatures early valid runnable is sound =
      let P : Firing → Type 0 = λ f. early_faults graphs.graphs f.graph f.inherited ≡ [] in
      record {
        can = can_run signatures graphs valid runnable;
        here = top_here;
        nests = nests_below nesting_limit graphs.graphs graphs.top top top_at runnable.nests;
        early_is = is ∙ ap (λ (f : Firing). early_of graphs.graphs f.graph f.inherited) (sym firing_is);
        sound = subst P (sym firing_is) sound;
      }

  pub top_ends : (n : ℕ) → n ≡ nesting_limit → (end : End) → MeansWithin n graphs.graphs firing end → IterationEnds graphs ins state end
  top_ends n most end means =
      let P : ℕ → Type 0 = λ m. MeansWithin m graphs.graphs firing end in
      let Q : Firing → Type 0 = λ f. Means graphs.graphs f end in
      record { top = top; top_is = top_at; means = subst Q firing_is (subst P most means) }

  pub top_gives : (n : ℕ) → n ≡ nesting_limit → (given : Given) → MeansWithin n graphs.graphs firing (Ok given) → IterationGives graphs ins state (iteration_of given) given.state
  top_gives n most given means = record { given = given; ends = top_ends n most (Ok given) means; iteration_is = refl; state_is = refl }

  -- ---- to the level

  leads_so : (end : Result (List ℤ) Refusal) → LeadsToLevel graphs.graphs (MeansWithin (nesting_limit - 1) graphs.graphs) top firing end → TopLeads graphs ins state end
  leads_so end leads =
      let P : Firing → Type 0 = λ f. LeadsToLevel graphs.graphs (MeansWithin (nesting_limit - 1) graphs.graphs) top f end in
      record { top = top; top_is = top_at; leads = subst P firing_is leads }

  pub top_unconfigured : (refusal : Refusal) → Configures graphs.graphs (MeansWithin (nesting_limit - 1) graphs.graphs) top firing (Err refusal) → TopLeads graphs ins state (Err refusal)
  top_unconfigured refusal all = leads_so (Err refusal) (Err refusal, all, refl)

  module _ (configured slice : List Configured) (slice_is : slice ≡ configured) (all : Configures graphs.graphs (MeansWithin (nesting_limit - 1) graphs.graphs) top firing (Ok configured)) where
    abbrev AfterValues : List ℤ → Result (List ℤ) Refusal → Type 0
    AfterValues values end = end ≡ rated graphs.graphs top firing values

    pub top_unresolved : (refusal : Refusal) → Err refusal ≡ resolved graphs.graphs top firing slice → TopLeads graphs ins state (Err refusal)
    top_unresolved refusal is =
        let P : Result (List ℤ) Refusal → Type 0 = λ r. Then AfterValues r (Err refusal) in
        leads_so (Err refusal) (Ok configured, all, subst P (is ∙ ap (resolved graphs.graphs top firing) slice_is) refl)

    module _ (values known : List ℤ) (known_is : known ≡ values) (values_are : Ok values ≡ resolved graphs.graphs top firing slice) where
      onward : (end : Result (List ℤ) Refusal) → end ≡ rated graphs.graphs top firing known → TopLeads graphs ins state end
      onward end is =
          let P : Result (List ℤ) Refusal → Type 0 = λ r. Then AfterValues r end in
          leads_so end (Ok configured, all, subst P (values_are ∙ ap (resolved graphs.graphs top firing) slice_is) (is ∙ ap (rated graphs.graphs top firing) known_is))

      pub top_unrated : (refusal : Refusal) → rated graphs.graphs top firing known ≡ Err refusal → TopLeads graphs ins state (Err refusal)
      top_unrated refusal is = onward (Err refusal) (sym is)

      pub top_levelled : (set : LevelSet) → rated graphs.graphs top firing known ≡ Ok known → IsLevelSet graphs.graphs top firing known set → IsTopLevel graphs ins state set
      unfolding onward leads_so
      top_levelled set rated_so is =
          let P : Firing → Type 0 = λ f. IsLevelSet graphs.graphs top f known set in
          record { values = known; leads = onward (Ok known) (sym rated_so); set_is = subst P firing_is is }

-- the top graph is there
pub some_top : (graphs : Graphs) → InRange graphs → (top : Graph) × (slice_get graphs.graphs graphs.top ≡ Some top)
some_top graphs range = let d = some_graph graphs.graphs graphs.top range.top in (get_or graphs.graphs graphs.top d, slice_get-get_or graphs.graphs graphs.top d range.top)

-- an iteration has only one end
pub one_end : (graphs : Graphs) (ins state : List (List ℤ)) (one other : End) → HasOneMeaning graphs.graphs → IterationEnds graphs ins state one → IterationEnds graphs ins state other → one ≡ other
one_end graphs ins state one other law a b =
    let same : a.top ≡ b.top = let e = sym a.top_is ∙ b.top_is in cc in
    let P : Graph → Type 0 = λ t. Means graphs.graphs (top_firing t graphs.top ins state) one in
    law (top_firing b.top graphs.top ins state) one other (subst P same a.means) b.means

module _ (graphs : Graphs) (ins state : List (List ℤ)) (law : HasOneMeaning graphs.graphs) where
  -- where an iteration gives something, nothing else is answered
  pub only_given : (result : Result Iteration PlainFault) (after : List (List ℤ)) → IfOk result (λ iteration. IterationGives graphs ins state iteration after) → IfErr result (IfRefused (λ refusal. IterationEnds graphs ins state (Err refusal))) →
      (iteration : Iteration) (later : List (List ℤ)) → IterationGives graphs ins state iteration later → ((result ≡ Ok iteration) × (after ≡ later)) ⊎ (result ≡ Err Memory)
  only_given (Ok one) after gives refused iteration later other =
      let same : gives.given ≡ other.given = let e = one_end graphs ins state (Ok gives.given) (Ok other.given) law gives.ends other.ends in cc in
      inl (ap Ok (gives.iteration_is ∙ ap iteration_of same ∙ sym other.iteration_is), gives.state_is ∙ ap (λ (x : Given). x.state) same ∙ sym other.state_is)
  only_given (Err (Refused refusal)) after gives refused iteration later other =
      let e : Err refusal ≡ Ok other.given = one_end graphs ins state (Err refusal) (Ok other.given) law refused other.ends in cc
  only_given (Err Memory) after gives refused iteration later other = inr refl

  -- where it is refused, nothing else is answered
  pub only_refused : (result : Result Iteration PlainFault) (after : List (List ℤ)) → IfOk result (λ iteration. IterationGives graphs ins state iteration after) → IfErr result (IfRefused (λ refusal. IterationEnds graphs ins state (Err refusal))) →
      (refusal : Refusal) → IterationEnds graphs ins state (Err refusal) → (result ≡ Err (Refused refusal)) ⊎ (result ≡ Err Memory)
  only_refused (Ok one) after gives refused refusal other =
      let e : Ok gives.given ≡ Err refusal = one_end graphs ins state (Ok gives.given) (Err refusal) law gives.ends other in cc
  only_refused (Err (Refused one)) after gives refused refusal other =
      let e : Err one ≡ Err refusal = one_end graphs ins state (Err one) (Err refusal) law refused other in
      let same : one ≡ refusal = cc in
      inl (ap (λ r. Err (Refused r)) same)
  only_refused (Err Memory) after gives refused refusal other = inr refl
