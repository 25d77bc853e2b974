-- The refusals of kernels, by the names of the actors of the level.
use Rattle.std.proofs.Common.{◌≡◌, ℕ, zero, suc, List, [], ◌∷◌, map, get_or, slice_get, refl, sym, ap, ◌∙◌}
use Rattle.pisdf_model.specs.declared.actor.Actor.{Actor}
use Rattle.pisdf_meaning.specs.declared.refusal.Refusal.{Refusal}
use Rattle.pisdf_meaning.specs.declared.refusal.Cause.TheVariants as cause
use Rattle.sdf_level.specs.declared.node.Node.{Node}
use Rattle.sdf_level.specs.declared.node.Node.TheVariants as node
use Rattle.graph_firing.specs.Nodes.Stages.{name_in, refusal_at, spot_of}

name_at : (own : List Actor) (a : ℕ) → get_or (map (λ (x : Actor). x.name) own) a [] ≡ name_in (slice_get own a)
name_at [] a = refl
name_at (x ∷ own) zero = refl
name_at (x ∷ own) (suc a) = name_at own a

abbrev kernel_at : List ℕ → List ℕ → ℕ → ℕ → Refusal
kernel_at path name turn code = record { path = path; cause = cause.Kernel name turn code }

pub refusal_named : (path : List ℕ) (own : List Actor) (names : List (List ℕ)) (which : Node) (code a turn : ℕ) (name : List ℕ) → names ≡ map (λ (x : Actor). x.name) own → which ≡ node.Firing a turn → name ≡ get_or names a [] →
    ◌≡◌ {A = Refusal} record { path = path; cause = cause.Kernel name turn code } (refusal_at (spot_of path own which) code)
refusal_named path own names which code a turn name named is e =
    ap (λ (l : List ℕ). kernel_at path l turn code) (e ∙ ap (λ (l : List (List ℕ)). get_or l a []) named ∙ name_at own a)
    ∙ ap (λ (w : Node). refusal_at (spot_of path own w) code) (sym is)
