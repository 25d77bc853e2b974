use Rattle.job_preparing.proofs.ActingPlaces.{actor_inside, actor_there, level_inside}
use Rattle.job_preparing.proofs.acting.acting_at.Goals as goal

pub bounds-items-places : goal.bounds-items-places
bounds-items-places c = actor_inside c.level_by_actor.ensures.each c.level_by_actor.ensures.many c.args.graph.now c.args.places.now c.args.number c.requires.places (level_inside c.level_by_actor.ensures.many c.args.graph.now c.args.places.now c.args.number c.requires.places c.requires.there) c.items.result.now c.items.ensures

pub returns : goal.returns
returns c = actor_there c.level_by_actor.ensures.each c.level_by_actor.ensures.many c.args.graph.now c.args.places.now c.args.number c.requires.places (level_inside c.level_by_actor.ensures.many c.args.graph.now c.args.places.now c.args.number c.requires.places c.requires.there) c.items.result.now c.index-items-places.result c.items.ensures c.index-items-places.is
