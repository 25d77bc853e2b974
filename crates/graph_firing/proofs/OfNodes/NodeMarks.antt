-- The marks of nodes by their stages.
use Rattle.std.proofs.Common.{◌≡◌, ℕ, zero, suc, ℤ, Bool, false, List, [], ◌∷◌, length, map, set, replicate, Option, Some, None, Ok, refl, ap, arith}
use Rattle.std.specs.Option.{option_map, unwrap_or}
use Rattle.std.proofs.lemmas.List.{append-nil}
use Rattle.std.specs.declared.snapshot.Snapshot.{Snapshot}
use Rattle.kernel_gate.specs.declared.told.Told.{Told}
use Rattle.kernel_gate.specs.Value.{FrameView, Places}
use Rattle.nested_jobs.specs.Marks as mark
use Rattle.pisdf_model.specs.declared.actor.Actor.{Actor}
use Rattle.pisdf_meaning.specs.declared.firing.Firing.{Firing}
use Rattle.pisdf_meaning.specs.declared.refusal.Refusal.{Refusal}
use Rattle.sdf_level.specs.declared.node.Node.{Node}
use Rattle.job_flow.specs.Graphs.{node_at}
use Rattle.job_flow.specs.Renamed.{renamed_answer}
use Rattle.job_rules.specs.Items.{node_result}
use Rattle.job_rules.specs.Words.{Spot}
use Rattle.one_job.specs.Marks as one
use Rattle.job_preparing.specs.Handing.{ItemMarks, lent_at, mark_at}
use Rattle.graph_firing.specs.Nodes.Parts.{refusal_in}
use Rattle.graph_firing.specs.Nodes.Stages.{FitsSort, IsFired, IsLost, IsOpened, fired_in, job_mark, lent_of, held_by, mark_of, marks_of, refusal_at, spot_of, stage_at}
use Rattle.graph_firing.specs.declared.nodes.stage.Stage.{Stage}
use Rattle.graph_firing.specs.declared.nodes.stage.Stage.TheVariants.{Free, Busy, Lost, Open, Fired, Failed, Gave, Refused}

module _ (path : List ℕ) (acting : List Actor) where
  abbrev spot_at : List Node → ℕ → Option Spot
  spot_at nodes n = spot_of path acting (node_at nodes n)

  pub mark_here : (nodes : List Node) (stages : List Stage) (n : ℕ) → length stages ≡ length nodes → mark_at (marks_of path acting nodes stages) n ≡ mark_of (spot_at nodes n) (stage_at stages n)
  mark_here [] [] n long = refl
  mark_here [] (s ∷ stages) n long = absurd (omega arith)
  mark_here (x ∷ nodes) [] n long = absurd (omega arith)
  mark_here (x ∷ nodes) (s ∷ stages) zero long = refl
  mark_here (x ∷ nodes) (s ∷ stages) (suc n) long = mark_here nodes stages n (omega arith)

  pub marks_set : (nodes : List Node) (stages : List Stage) (n : ℕ) (s : Stage) → marks_of path acting nodes (set stages n s) ≡ set (marks_of path acting nodes stages) n (mark_of (spot_at nodes n) s)
  marks_set [] stages n s = refl
  marks_set (x ∷ nodes) [] n s = refl
  marks_set (x ∷ nodes) (y ∷ stages) zero s = refl
  marks_set (x ∷ nodes) (y ∷ stages) (suc n) s = ap (λ l. mark_of (spot_of path acting x) y ∷ l) (marks_set nodes stages n s)

  pub marks_long : (nodes : List Node) (stages : List Stage) → length stages ≡ length nodes → length (marks_of path acting nodes stages) ≡ length nodes
  marks_long [] [] long = refl
  marks_long [] (s ∷ stages) long = absurd (omega arith)
  marks_long (x ∷ nodes) [] long = absurd (omega arith)
  marks_long (x ∷ nodes) (s ∷ stages) long = let again = marks_long nodes stages (omega arith) in omega arith

  pub marks_free : (nodes : List Node) → marks_of path acting nodes (replicate (length nodes) Free) ≡ replicate (length nodes) mark.Free
  marks_free [] = refl
  marks_free (x ∷ nodes) = ap (λ (l : ItemMarks). mark.Free ∷ l) (marks_free nodes)

pub lent_here : (stages : List Stage) (n : ℕ) → lent_at (map lent_of stages) n ≡ lent_of (stage_at stages n)
lent_here [] n = refl
lent_here (s ∷ stages) zero = refl
lent_here (s ∷ stages) (suc n) = lent_here stages n

-- ---- stages by their marks

pub free_stage : (spot : Option Spot) (s : Stage) → mark_of spot s ≡ mark.Free → s ≡ Free
free_stage spot Free is = refl
free_stage spot (Busy told) is = absurd (cc)
free_stage spot (Lost told) is = absurd (cc)
free_stage spot (Open job told) is = absurd (cc)
free_stage spot (Fired told) is = absurd (cc)
free_stage spot (Failed code) is = absurd (cc)
free_stage spot (Gave told) is = absurd (cc)
free_stage spot (Refused told) is = absurd (cc)

pub free_job : (keeps : Bool) (spot : Option Spot) (s : Stage) → job_mark keeps s ≡ one.Free → mark_of spot s ≡ mark.Free
free_job keeps spot Free is = refl
free_job keeps spot (Busy told) is = absurd (cc)
free_job keeps spot (Lost told) is = absurd (cc)
free_job keeps spot (Open job told) is = absurd (cc)
free_job keeps spot (Fired told) is = absurd (cc)
free_job keeps spot (Failed code) is = absurd (cc)
free_job keeps spot (Gave told) is = absurd (cc)
free_job keeps spot (Refused told) is = absurd (cc)

-- what a stage with a lent frame is
pub record IsBusy (s : Stage) (places : Places) : Type 0 where
  pub told : Told
  pub stage_is : s ≡ Busy told
  pub places_are : told.frame.places ≡ places

pub lent_busy : (s : Stage) (places : Places) → lent_of s ≡ Some places → IsBusy s places
lent_busy Free places is = absurd (cc)
lent_busy (Busy told) places is = record { told = told; stage_is = refl; places_are = cc }
lent_busy (Lost told) places is = absurd (cc)
lent_busy (Open job told) places is = absurd (cc)
lent_busy (Fired told) places is = absurd (cc)
lent_busy (Failed code) places is = absurd (cc)
lent_busy (Gave told) places is = absurd (cc)
lent_busy (Refused told) places is = absurd (cc)

pub record IsOpen (s : Stage) (job : Firing) : Type 0 where
  pub own : Snapshot Firing
  pub told : Told
  pub stage_is : s ≡ Open own told
  pub job_is : own.value ≡ job

pub open_stage : (spot : Option Spot) (s : Stage) (job : Firing) → mark_of spot s ≡ mark.Open job → IsOpen s job
open_stage spot Free job is = absurd (cc)
open_stage spot (Busy told) job is = absurd (cc)
open_stage spot (Lost told) job is = absurd (cc)
open_stage spot (Open own told) job is = record { own = own; told = told; stage_is = refl; job_is = cc }
open_stage spot (Fired told) job is = absurd (cc)
open_stage spot (Failed code) job is = absurd (cc)
open_stage spot (Gave told) job is = absurd (cc)
open_stage spot (Refused told) job is = absurd (cc)

-- ---- what a node is finished with, in the words of refusals and in those of codes

-- the refusal for which the job of leases has this code: that which is held for the node, or else that of its kernel
abbrev pub refusal_for : Option Spot → Stage → ℕ → Refusal
refusal_for spot s code = unwrap_or (refusal_in (held_by s)) (refusal_at spot code)

fired_tie : (keeps : Bool) (spot : Option Spot) (frame : FrameView) → keeps ≡ false → Some (node_result keeps (fired_in spot frame)) ≡ Some (Ok frame.outputs)
fired_tie keeps None frame none = rw none (ap (λ (l : List (List ℤ)). Some (Ok l)) (append-nil frame.outputs))
fired_tie keeps (Some spot) frame none = rw none (ap (λ (l : List (List ℤ)). Some (Ok l)) (append-nil frame.outputs))

failed_tie : (keeps : Bool) (spot : Option Spot) (code : ℕ) → option_map (node_result keeps) (mark.answer_of (mark_of spot (Failed code))) ≡ renamed_answer (refusal_for spot (Failed code)) (one.value_of (job_mark keeps (Failed code)))
failed_tie keeps None code = refl
failed_tie keeps (Some spot) code = refl

pub value_tie : (keeps child : Bool) (fires : Type 0) (spot : Option Spot) (s : Stage) → FitsSort child fires s → (child ≡ false → keeps ≡ false) →
    option_map (node_result keeps) (mark.answer_of (mark_of spot s)) ≡ renamed_answer (refusal_for spot s) (one.value_of (job_mark keeps s))
value_tie keeps child fires spot Free sort none = refl
value_tie keeps child fires spot (Busy told) sort none = refl
value_tie keeps child fires spot (Lost told) sort none = refl
value_tie keeps child fires spot (Open job told) sort none = refl
value_tie keeps child fires spot (Fired told) sort none = fired_tie keeps spot told.frame (none sort)
value_tie keeps child fires spot (Failed code) sort none = failed_tie keeps spot code
value_tie keeps child fires spot (Gave told) sort none = refl
value_tie keeps child fires spot (Refused told) sort none = refl

-- ---- stages of nodes whose frames came back

pub record IsFiredWith (s : Stage) (frame : FrameView) : Type 0 where
  pub told : Told
  pub stage_is : s ≡ Fired told
  pub frame_is : told.frame ≡ frame

pub fired_stage : (s : Stage) (frame : FrameView) → IsFired frame s → IsFiredWith s frame
fired_stage Free frame is = absurd is
fired_stage (Busy told) frame is = absurd is
fired_stage (Lost told) frame is = absurd is
fired_stage (Open job told) frame is = absurd is
fired_stage (Fired told) frame is = record { told = told; stage_is = refl; frame_is = is }
fired_stage (Failed code) frame is = absurd is
fired_stage (Gave told) frame is = absurd is
fired_stage (Refused told) frame is = absurd is

pub record IsOpenedWith (s : Stage) (job : Firing) (frame : FrameView) : Type 0 where
  pub own : Snapshot Firing
  pub told : Told
  pub stage_is : s ≡ Open own told
  pub job_is : own.value ≡ job
  pub frame_is : told.frame ≡ frame

pub opened_stage : (s : Stage) (job : Firing) (frame : FrameView) → IsOpened job frame s → IsOpenedWith s job frame
opened_stage Free job frame is = absurd is
opened_stage (Busy told) job frame is = absurd is
opened_stage (Lost told) job frame is = absurd is
opened_stage (Open own told) job frame is = record { own = own; told = told; stage_is = refl; job_is = is.0; frame_is = is.1 }
opened_stage (Fired told) job frame is = absurd is
opened_stage (Failed code) job frame is = absurd is
opened_stage (Gave told) job frame is = absurd is
opened_stage (Refused told) job frame is = absurd is

pub record IsLostWith (s : Stage) (frame : FrameView) : Type 0 where
  pub told : Told
  pub stage_is : s ≡ Lost told
  pub frame_is : told.frame ≡ frame

pub lost_stage : (s : Stage) (frame : FrameView) → IsLost frame s → IsLostWith s frame
lost_stage Free frame is = absurd is
lost_stage (Busy told) frame is = absurd is
lost_stage (Lost told) frame is = record { told = told; stage_is = refl; frame_is = is }
lost_stage (Open own told) frame is = absurd is
lost_stage (Fired told) frame is = absurd is
lost_stage (Failed code) frame is = absurd is
lost_stage (Gave told) frame is = absurd is
lost_stage (Refused told) frame is = absurd is
