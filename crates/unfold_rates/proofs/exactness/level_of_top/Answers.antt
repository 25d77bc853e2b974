use Rattle.std.proofs.Common.{◌≡◌, ℤ, List, [], length, slice_get, Option, Some, None, IfSome, IsSome, ◌∷◌, ap, sym, ◌∙◌, refl}
use Rattle.param_resolver.specs.Assignment.{numbers}
use Rattle.param_resolver.specs.EarlyCheck.{early_of}
use Rattle.param_resolver.specs.EarlyView.{EarlyView}
use Rattle.param_resolver.specs.LevelOf.{level_at, level_faults}
use Rattle.param_resolver.specs.Refusal.{Refusal, StandsFirst, level_refusal_of}
use Rattle.pisdf_meaning.proofs.LevelSets.{some_at}
use Rattle.unfold_rates.specs.Exact.{own_values}
use Rattle.unfold_rates.proofs.EarlyOnes.{values_known, values_long}
use Rattle.unfold_rates.proofs.exactness.level_of_top.Goals as goal

by_some : {T : Type 0} (o : Option T) (P : T → Type 0) → ((x : T) → o ≡ Some x → P x) → IfSome o P
by_some None P holds = tt
by_some (Some x) P holds = holds x refl

none_first : (faults : List Refusal) (o : Option Refusal) → IsSome o → StandsFirst faults o → faults ≡ [] → ⊥
none_first faults None some first none = absurd (cc)
none_first [] (Some refusal) some first none = cc
none_first (fault ∷ faults) (Some refusal) some first none = cc

pub level_of-requires-clause-values : goal.level_of-requires-clause-values
level_of-requires-clause-values c =
    let graphs = c.args.graphs.now in
    let known : numbers c.items.result.now ≡ numbers (early_of graphs.graphs graphs.top []).values = ap numbers (c.items.ensures ∙ ap (λ (e : EarlyView). e.values) c.known.view_is) ∙ ap (λ (e : EarlyView). numbers e.values) c.requires.early in
    by_some (slice_get graphs.graphs graphs.top) (λ g. length c.deref.result.now ≡ length g.params) (λ g here.
    ap (λ (l : List ℤ). length l) (c.deref.ensures.value ∙ c.in_ok-values.ensures ∙ known) ∙ values_long c.early_unfolds.ensures c.graphs_resolvable.ensures graphs c.requires.valid g here)

pub returns-in-Ok-clause-level : goal.returns-in-Ok-clause-level
returns-in-Ok-clause-level c = λ top here.
    let graphs = c.args.graphs.now in
    let known : numbers c.items.result.now ≡ numbers (early_of graphs.graphs graphs.top []).values = ap numbers (c.items.ensures ∙ ap (λ (e : EarlyView). e.values) c.known.view_is) ∙ ap (λ (e : EarlyView). numbers e.values) c.requires.early in
    let own : c.deref.result.now ≡ own_values top = c.deref.ensures.value ∙ c.in_ok-values.ensures ∙ known ∙ values_known c.early_unfolds.ensures c.graphs_resolvable.ensures graphs c.requires.valid top here in
    some_at (slice_get graphs.graphs graphs.top) top _ here c.in-Ok.ensures.level
    ∙ ap (λ (e : EarlyView). level_at graphs.graphs top e c.deref.result.now) c.requires.early
    ∙ ap (λ (v : List ℤ). level_at graphs.graphs top (early_of graphs.graphs graphs.top []) v) own

pub returns-in-Ok-clause-sound : goal.returns-in-Ok-clause-sound
returns-in-Ok-clause-sound c = λ top here.
    let graphs = c.args.graphs.now in
    let known : numbers c.items.result.now ≡ numbers (early_of graphs.graphs graphs.top []).values = ap numbers (c.items.ensures ∙ ap (λ (e : EarlyView). e.values) c.known.view_is) ∙ ap (λ (e : EarlyView). numbers e.values) c.requires.early in
    let own : c.deref.result.now ≡ own_values top = c.deref.ensures.value ∙ c.in_ok-values.ensures ∙ known ∙ values_known c.early_unfolds.ensures c.graphs_resolvable.ensures graphs c.requires.valid top here in
    ap (λ (v : List ℤ). level_faults graphs.graphs top v) (sym own) ∙ some_at (slice_get graphs.graphs graphs.top) top _ here c.in-Ok.ensures.sound

pub returns-clause-refused : goal.returns-clause-refused
returns-clause-refused c = λ is top here none.
    let graphs = c.args.graphs.now in
    let known : numbers c.items.result.now ≡ numbers (early_of graphs.graphs graphs.top []).values = ap numbers (c.items.ensures ∙ ap (λ (e : EarlyView). e.values) c.known.view_is) ∙ ap (λ (e : EarlyView). numbers e.values) c.requires.early in
    let own : c.deref.result.now ≡ own_values top = c.deref.ensures.value ∙ c.in_ok-values.ensures ∙ known ∙ values_known c.early_unfolds.ensures c.graphs_resolvable.ensures graphs c.requires.valid top here in
    none_first (level_faults graphs.graphs top c.deref.result.now) (level_refusal_of c.in-Err.fault) (c.refused.ensures is)
    (some_at (slice_get graphs.graphs graphs.top) top _ here c.in-Err.ensures.first_fault)
    (ap (λ (v : List ℤ). level_faults graphs.graphs top v) own ∙ none)
