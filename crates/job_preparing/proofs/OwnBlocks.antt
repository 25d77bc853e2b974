-- The blocks of the frames that are out.
use Rattle.std.proofs.Common.{◌≡◌, ℕ, zero, suc, List, [], ◌∷◌, map, slice_get, Option, Some, None, refl, ap}
use Rattle.kernel_gate.specs.Value.{Places}
use Rattle.kernel_gate.specs.Leased.{AreWhole}
use Rattle.pisdf_model.specs.declared.graph.Graph.{Graph}
use Rattle.pisdf_meaning.specs.declared.firing.Configured.{Configured}
use Rattle.pisdf_meaning.specs.declared.firing.Firing.{Firing}
use Rattle.pisdf_meaning.specs.declared.outcome.TraceRow.{TraceRow}
use Rattle.nested_jobs.specs.Rules.{Task}
use Rattle.job_rules.specs.Words as words
use Rattle.kernel_gate.specs.Value.{FrameView}
use Rattle.job_preparing.specs.Handing.{lent_at}
use Rattle.job_preparing.specs.Stages.{lent_of}
use Rattle.job_preparing.specs.Standing.{StandsRight}
use Rattle.job_preparing.specs.declared.stage.Stage.{Stage}
use Rattle.job_preparing.specs.declared.stage.Stage.TheVariants.{Fires, Calls, Busy, Open, Gave, Refused}

-- what is lent, is lent of a stage that is there
pub lent_stage : (stages : List Stage) (i : ℕ) (places : Places) → lent_at (map lent_of stages) i ≡ Some places → (stage : Stage) × (slice_get stages i ≡ Some stage) × (lent_of stage ≡ Some places)
lent_stage [] i places is = absurd (cc)
lent_stage (s ∷ stages) zero places is = (s, refl, is)
lent_stage (s ∷ stages) (suc i) places is = lent_stage stages i places is

pub lent_whole : (graphs : List Graph) (t : Option (Task Firing words.Work)) (rates : List ℕ) (stage : Stage) (waiting : Option FrameView) (one : Configured) (trace : List TraceRow) (places : Places)
    → StandsRight graphs t rates stage waiting one trace → lent_of stage ≡ Some places → AreWhole places
lent_whole graphs t rates (Fires spare) waiting one trace places right is = absurd (cc)
lent_whole graphs t rates Calls waiting one trace places right is = absurd (cc)
lent_whole graphs t rates (Busy told spare) waiting one trace places right is =
    let same : told.frame.places ≡ places = cc in
    Rattle.std.proofs.Common.subst AreWhole same right.whole
lent_whole graphs t rates (Open told line) waiting one trace places right is = absurd (cc)
lent_whole graphs t rates (Gave told) waiting one trace places right is = absurd (cc)
lent_whole graphs t rates (Refused refusal) waiting one trace places right is = absurd (cc)
