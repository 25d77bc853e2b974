-- Why a firing of a graph is refused, and where.
use Rattle.std.specs.Prelude.{ℕ, zero, suc, ℤ, pos, List, [], ◌∷◌, ◌++◌, slice_get, Option, Some, None, Result, Ok, Err}
use Rattle.param_resolver.specs.Refusal as part
use Rattle.param_resolver.specs.declared.fault.Why.{Why}
use Rattle.pisdf_model.specs.ParamOrder.{param_name}
use Rattle.pisdf_model.specs.Wires.{port_text}
use Rattle.pisdf_model.specs.declared.actor.Actor.{Actor}
use Rattle.pisdf_model.specs.declared.graph.Graph.{Graph}
use Rattle.pisdf_model.specs.declared.param.Param.{Param}
use Rattle.level_schedule.specs.declared.unscheduled.Unscheduled.{Unscheduled}
use Rattle.level_schedule.specs.declared.unscheduled.Unscheduled.TheVariants as unscheduled
use Rattle.pisdf_meaning.specs.declared.refusal.Cause.{Cause}
use Rattle.pisdf_meaning.specs.declared.refusal.Cause.TheVariants as cause
use Rattle.pisdf_meaning.specs.declared.refusal.Left.{Left}
use Rattle.pisdf_meaning.specs.declared.refusal.Refusal.{Refusal}

-- ---- a parameter, a rate or an argument

abbrev pub low_of : Option Param → ℤ
low_of None = pos 0
low_of (Some p) = p.low

abbrev pub high_of : Option Param → ℤ
high_of None = pos 0
high_of (Some p) = p.high

abbrev pub param_cause : Graph → ℕ → Why → Cause
param_cause g place why = cause.Param (param_name g place) why (low_of (slice_get g.params place)) (high_of (slice_get g.params place))

-- a part of a child has the actor's name before it
abbrev pub under : List ℕ → Cause → Cause
under actor (cause.Param name why low high) = cause.Param (port_text actor name) why low high
under actor (cause.Rate name why) = cause.Rate (port_text actor name) why
under actor cause.Rates = cause.Rates
under actor (cause.Limit what value) = cause.Limit what value
under actor (cause.Deadlock left) = cause.Deadlock left
under actor (cause.Kernel name firing code) = cause.Kernel name firing code

-- what the early check of a graph or the making of its level is refused for; no refusal stands in a graph that isn't there
abbrev pub part_cause : List Graph → Option Graph → part.Refusal → Cause
part_cause graphs None refusal = cause.Rates
part_cause graphs (Some g) (part.param place why) = param_cause g place why
part_cause graphs (Some g) (part.rate name why) = cause.Rate name why
part_cause graphs (Some g) (part.child a refusal) = under (part.actor_name g a) (part_cause graphs (part.child_graph graphs g a) refusal)

-- the first of these refusals, or what stands where there is none
abbrev pub unless_refused : {T : Type 0} → List Graph → Graph → List ℕ → List part.Refusal → T → Result T Refusal
unless_refused graphs g path [] given = Ok given
unless_refused graphs g path (refusal ∷ rest) given = Err record { path = path; cause = part_cause graphs (Some g) refusal }

-- ---- a schedule

abbrev pub left_of_actor : Actor → ℕ → List Left
left_of_actor actor zero = []
left_of_actor actor (suc n) = record { name = actor.name; count = suc n } ∷ []

-- these actors with the counts left, where there are any
abbrev pub actors_left : List Actor → List ℕ → List Left
actors_left [] counts = []
actors_left (actor ∷ actors) [] = []
actors_left (actor ∷ actors) (n ∷ counts) = left_of_actor actor n ++ actors_left actors counts

-- of the actors that fire in the level; want of memory is no cause
abbrev pub schedule_cause : List Actor → Unscheduled → Cause
schedule_cause actors unscheduled.Rates = cause.Rates
schedule_cause actors (unscheduled.Limit what value) = cause.Limit what value
schedule_cause actors (unscheduled.Deadlock left) = cause.Deadlock (actors_left actors left)
schedule_cause actors unscheduled.Memory = cause.Rates
