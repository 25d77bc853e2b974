-- Graphs that are nested in each other to a limit, one level after the other.
use Rattle.std.proofs.Common.{◌≡◌, ℕ, zero, suc, ◌-◌, ◌<◌, List, length, All, arith, get_or, subst}
use Rattle.std.proofs.lemmas.Option.{slice_get-get_or}
use Rattle.std.proofs.lemmas.List.{get_or_default}
use Rattle.pisdf_model.specs.declared.actor.Actor.{Actor}
use Rattle.pisdf_model.specs.declared.actor.Body.{Body}
use Rattle.pisdf_model.specs.declared.actor.Body.TheVariants.{Kernel, Config, Child, ConfigChild}
use Rattle.pisdf_model.specs.declared.graph.Graph.{Graph}
use Rattle.param_resolver.specs.Resolvable.{AreNestedWithin, AreResolvable, IsBodyResolvable, IsNestedWithin}
use Rattle.param_resolver.proofs.Levels.{some_graph}
use Rattle.param_resolver.proofs.NestedGraphs.{children_nested, some_levels}
use Rattle.pisdf_meaning.specs.Sound.{ChildWithin, NestsWithin}

child_within : (graphs : List Graph) (n params : ℕ) (P : ℕ → Type 0) → ((place : ℕ) → place < length graphs → IsNestedWithin graphs n place → P place) → (body : Body) → IsBodyResolvable (length graphs) params body → AreNestedWithin graphs n body → ChildWithin P body
child_within graphs n params P all (Kernel kernel args ins outs) resolvable nested = tt
child_within graphs n params P all (Config kernel args ins outs sets) resolvable nested = tt
child_within graphs n params P all (Child place args) resolvable nested = all place resolvable.0 (nested 0 place (omega arith))
child_within graphs n params P all (ConfigChild place args sets) resolvable nested = all place resolvable.0 (nested 0 place (omega arith))

pub nests_within : (n : ℕ) (graphs : List Graph) → AreResolvable graphs → (place : ℕ) → place < length graphs → IsNestedWithin graphs n place → NestsWithin n graphs place
nests_within zero graphs resolvable place inside nested = let some = some_levels graphs 0 place nested in absurd (omega arith)
nests_within (suc n) graphs resolvable place inside nested =
    let d = some_graph graphs place inside in
    let g = get_or graphs place d in
    let less : suc n - 1 ≡ n = omega arith in
    let P : ℕ → Type 0 = λ m. All (λ (a : Actor). AreNestedWithin graphs m a.body) g.actors in
    let below = subst P less (children_nested graphs (suc n) place g inside (get_or_default graphs place d g inside) nested) in (
      g,
      slice_get-get_or graphs place d inside,
      λ i a there.
          child_within graphs n (length g.params) (NestsWithin n graphs) (λ child within deep. nests_within n graphs resolvable child within deep) (get_or g.actors i a).body ((resolvable place d inside).actors i a there) (below i a there),
    )
