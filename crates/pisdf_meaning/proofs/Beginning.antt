-- With what a graph begins.
use Rattle.std.proofs.Common.{◌≡◌, ◌≢◌, ℕ, zero, suc, ◌-◌, List, [], ◌++◌, map, slice_get, Some, None, refl, arith}
use Rattle.pisdf_model.specs.Hold.{actor_state, initial_to, kept_in}
use Rattle.pisdf_model.specs.declared.actor.Actor.{Actor}
use Rattle.pisdf_model.specs.declared.graph.Graph.{Graph}

pub begins_empty : (graphs : List Graph) (levels place : ℕ) → levels ≡ 0 → initial_to graphs levels place ≡ []
unfolding initial_to
begins_empty graphs levels place e = rw e refl

pub begins_absent : (graphs : List Graph) (levels place : ℕ) → slice_get graphs place ≡ None → initial_to graphs levels place ≡ []
unfolding initial_to
begins_absent graphs zero place e = refl
begins_absent graphs (suc n) place e = rw e refl

pub begins_so : (graphs : List Graph) (levels place : ℕ) (g : Graph) → levels ≢ 0 → slice_get graphs place ≡ Some g →
    map kept_in g.fifos ++ map (λ (a : Actor). actor_state (initial_to graphs (levels - 1)) a.body) g.actors ≡ initial_to graphs levels place
unfolding initial_to
begins_so graphs zero place g n e = absurd (n refl)
begins_so graphs (suc m) place g n e = let p : suc m - 1 ≡ m = omega arith in rw (e, p) refl
