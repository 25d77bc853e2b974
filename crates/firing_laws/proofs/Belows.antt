-- The graphs that a graph holds are below where it is.
use Rattle.std.proofs.Common.{◌≡◌, ℕ, List, [], ◌∷◌, map, slice_get, Some, refl, ap, ◌∙◌, subst, sym, arith, Contains}
use Rattle.std.specs.List.{AllByRecursion, flat_map}
use Rattle.std.specs.Option.{option_map}
use Rattle.std.proofs.lemmas.List.Elements.{Contains-append_left, Contains-append_right}
use Rattle.std.proofs.lemmas.Option.{get_or_from_slice_get, slice_get-map}
use Rattle.pisdf_model.specs.Arrows.{to_of}
use Rattle.pisdf_model.specs.Nesting.{children, children_of}
use Rattle.pisdf_model.specs.declared.actor.Actor.{Actor}
use Rattle.pisdf_model.specs.declared.actor.Body.{Body}
use Rattle.pisdf_model.specs.declared.actor.Body.TheVariants.{Kernel, Config, Child, ConfigChild}
use Rattle.pisdf_model.specs.declared.graph.Graph.{Graph}
use Rattle.pisdf_meaning.specs.Sound.{ChildWithin}
use Rattle.firing_laws.specs.Moving.{IsBelow}

-- each actor of these names a graph of this kind, if it names one
abbrev pub NameWithin : (ℕ → Type 0) → List Actor → Type 0
NameWithin P actors = AllByRecursion (λ (a : Actor). ChildWithin P a.body) actors

names_within : (P : ℕ → Type 0) (body : Body) → ((k : ℕ) → Contains (children_of body) k → P k) → ChildWithin P body
names_within P (Kernel kernel args ins outs) all = tt
names_within P (Config kernel args ins outs sets) all = tt
names_within P (Child place args) all = all place (0, omega arith, refl)
names_within P (ConfigChild place args sets) all = all place (0, omega arith, refl)

pub name_within : (P : ℕ → Type 0) (actors : List Actor) → ((k : ℕ) → Contains (flat_map (λ (a : Actor). children_of a.body) actors) k → P k) → NameWithin P actors
name_within P [] all = tt
name_within P (a ∷ actors) all =
    let rest = flat_map (λ (x : Actor). children_of x.body) actors in (
      names_within P a.body (λ k has. all k (Contains-append_left (children_of a.body) rest k has)),
      name_within P actors (λ k has. all k (Contains-append_right (children_of a.body) rest k has)),
    )

pub children_at : (graphs : List Graph) (place : ℕ) (g : Graph) → slice_get graphs place ≡ Some g → to_of (map children graphs) place ≡ children g
children_at graphs place g is = get_or_from_slice_get (map children graphs) place (children g) [] (slice_get-map children graphs place ∙ ap (option_map children) is)

-- a child of a graph below is below
pub child_below : (graphs : List Graph) (top place child : ℕ) → IsBelow graphs top place → Contains (to_of (map children graphs) place) child → IsBelow graphs top child
child_below graphs top place child below has = record {
  apart = λ is. below.without ([], subst (λ (k : ℕ). Contains (to_of (map children graphs) place) k) is has);
  without = λ path. below.without (child ∷ path.0, (has, path.1));
}

pub children_below : (graphs : List Graph) (top place : ℕ) (g : Graph) → IsBelow graphs top place → slice_get graphs place ≡ Some g → NameWithin (IsBelow graphs top) g.actors
children_below graphs top place g below is =
    name_within (IsBelow graphs top) g.actors
    (λ k has. child_below graphs top place k below (subst (λ (list : List ℕ). Contains list k) (sym (children_at graphs place g is)) has))
