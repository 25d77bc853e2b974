use Rattle.std.proofs.Common.{ℕ, List, subst}
use Rattle.level_laws.specs.Unfolded.{IsMetExactly, multiplied}
use Rattle.sdf_level.specs.Invariants.{IsLevel}
use Rattle.sdf_level.specs.Limits.{IsWithinLimits}
use Rattle.sdf_level.specs.Links.{EachOuter}
use Rattle.sdf_level.specs.View.{LevelView}
use Rattle.unfold_rates.proofs.exactness.exact_schedule.Goals as goal

pub returns-clause-exact : goal.returns-clause-exact
returns-clause-exact c =
    let level = c.args.level.now in
    let known : IsLevel c.args.level.now = let P : LevelView → Type 0 = λ v. IsLevel v in subst P c.level.view_is c.level.invariant in
    let M : List ℕ → Type 0 = λ q. EachOuter (IsMetExactly q) c.args.level.now c.args.level.now.links in
    let W : List ℕ → Type 0 = λ q. IsWithinLimits c.args.level.now (multiplied c.args.times q) in
    record {
      scheduled = c.in-Ok.ensures.scheduled;
      exact = record {
        is_level = known;
        repetition = c.in-Ok.ensures.scheduled.repetition;
        served = c.in_ok-are_served.ensures.0 c.if-not-branch.false;
        met = subst M c.items.ensures (c.are_met.ensures.0 c.if-not-are_met.false);
      };
      within = subst W c.items-2.ensures (c.in_ok-is_within_limits.ensures.0 c.if-not-branch-2.false);
    }
