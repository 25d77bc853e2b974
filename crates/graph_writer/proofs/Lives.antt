-- Graphs of version 1 as those of version 2.
use Rattle.std.proofs.Common.{◌≡◌, ℕ, ◌==◌, ◌≤◌, ◌<◌, ◌⊎◌, inl, inr, Bool, ℤ, List, [], ◌∷◌, All, length, get_or, refl, subst, arith}
use Rattle.pisdf_model.specs.Range.{InRange, IsActorInRange, IsBodyInRange, IsFifoInRange, IsGraphInRange, life_of}
use Rattle.pisdf_model.specs.declared.actor.Actor.{Actor}
use Rattle.pisdf_model.specs.declared.actor.Body.{Body}
use Rattle.pisdf_model.specs.declared.actor.Body.TheVariants.{Kernel, Config, Child, ConfigChild}
use Rattle.pisdf_model.specs.declared.fifo.Fifo.{Fifo}
use Rattle.pisdf_model.specs.declared.fifo.Life.{Life}
use Rattle.pisdf_model.specs.declared.graph.Graph.{Graph}
use Rattle.pisdf_model.specs.declared.graph.Graphs.{Graphs}
use Rattle.graph_writer.specs.Upgraded.{HasFirstLives, upgraded}

no_exports_in : (version : ℕ) → version ≡ 1 → version ≡ 3 → ⊥
no_exports_in version first last = omega arith

-- version 2 has each actor of version 1
body_kept : (graphs params : ℕ) (b : Body) → IsBodyInRange 1 graphs params b → IsBodyInRange 2 graphs params b
body_kept graphs params (Kernel kernel args ins outs) range = range
body_kept graphs params (Config kernel args ins outs sets) range = range
body_kept graphs params (Child k args) range = range
body_kept graphs params (ConfigChild k args sets) range = absurd (no_exports_in 1 refl range.0)

-- version 2 states any life
life_kept : (is_top : Bool) (life : Life) (tokens : List ℤ) → life ≡ life_of 1 is_top life tokens → life ≡ life_of 2 is_top life tokens
life_kept is_top life [] is = is
life_kept is_top life (t ∷ ts) is = refl

exports_kept : (old new : ℕ) → old ≡ 1 → (exports : List ℕ) → (old ≡ 3) ⊎ (exports ≡ []) → (new ≡ 3) ⊎ (exports ≡ [])
exports_kept old new first exports (inl last) = absurd (no_exports_in old first last)
exports_kept old new first exports (inr none) = inr none

graph_kept : (graphs : List Graph) (is_top : Bool) (g : Graph) → IsGraphInRange 1 graphs is_top g → IsGraphInRange 2 graphs is_top g
graph_kept graphs is_top g range = record {
  params = range.params;
  inputs = range.inputs;
  outputs = range.outputs;
  actors = λ k a inside. body_kept (length graphs) (length g.params) (get_or g.actors k a).body (range.actors k a inside);
  fifos = λ k f inside. let h = range.fifos k f inside in record { tail = h.tail; head = h.head; life = life_kept is_top (get_or g.fifos k f).life (get_or g.fifos k f).delay h.life };
  exports = range.exports;
  exporting = exports_kept 1 2 refl g.exports range.exporting;
}

pub upgraded_in_range : (graphs : Graphs) → graphs.version ≡ 1 → InRange graphs → InRange (upgraded graphs)
upgraded_in_range graphs first range = record {
  first_version = omega arith;
  last_version = omega arith;
  top = range.top;
  each_graph = λ n d inside. graph_kept graphs.graphs (n == graphs.top) (get_or graphs.graphs n d) (subst (λ v. IsGraphInRange v graphs.graphs (n == graphs.top) (get_or graphs.graphs n d)) first (range.each_graph n d inside));
}

pub first_lives : (graphs : Graphs) → graphs.version ≡ 1 → InRange graphs → HasFirstLives (upgraded graphs)
first_lives graphs first range = λ n d inside k f within.
    let fifo = get_or (get_or graphs.graphs n d).fifos k f in
    subst (λ v. fifo.life ≡ life_of v (n == graphs.top) fifo.life fifo.delay) first ((range.each_graph n d inside).fifos k f within).life
