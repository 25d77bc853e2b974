-- What claims, calls and finishes do to configuration actors.
use Rattle.std.proofs.Common.{◌≡◌, ℕ, ◌+◌, ◌<◌, ◌≤◌, ℤ, List, [], length, map, set, get_or, slice_get, Option, Some, None, Result, Ok, Err, refl, sym, ap, ◌∙◌, subst, arith}
use Rattle.std.specs.Prelude.{Vec, vec_capacity}
use Rattle.std.specs.Global.{Global}
use Rattle.std.specs.declared.snapshot.Snapshot.{Snapshot}
use Rattle.std.proofs.lemmas.List.{length-map, map-set, set-get_or}
use Rattle.std.proofs.lemmas.Option.{slice_get_within}
use Rattle.split_block.specs.View.{LeasePlace}
use Rattle.kernel_gate.specs.Leased.{AreWhole}
use Rattle.kernel_gate.specs.Value.{FrameView, Places, lengths}
use Rattle.kernel_gate.specs.declared.fault.KernelFault.{KernelFault}
use Rattle.nested_jobs.specs.Marks as mark
use Rattle.nested_jobs.specs.Marks.{Mark}
use Rattle.nested_jobs.specs.Rules.{Task, Work, Call}
use Rattle.param_resolver.specs.EarlyCheck.{early_of}
use Rattle.param_resolver.specs.EarlyView.{EarlyView}
use Rattle.pisdf_model.specs.Hold.{in_line, initial}
use Rattle.pisdf_model.specs.declared.graph.Graph.{Graph}
use Rattle.pisdf_model.specs.declared.graph.Graphs.{Graphs}
use Rattle.pisdf_meaning.specs.Configuring.{config_rates}
use Rattle.pisdf_meaning.specs.declared.firing.Configured.{Configured}
use Rattle.pisdf_meaning.specs.declared.firing.Firing.{Firing}
use Rattle.pisdf_meaning.specs.declared.outcome.TraceRow.{TraceRow}
use Rattle.pisdf_meaning.specs.declared.refusal.Refusal.{Refusal}
use Rattle.pisdf_meaning.specs.declared.refusal.Cause.TheVariants as cause
use Rattle.pisdf_meaning.proofs.StateSizes.{same_line}
use Rattle.job_rules.specs.Items.{graph_of}
use Rattle.job_rules.specs.Words as words
use Rattle.job_rules.specs.Words.{Answer}
use Rattle.job_preparing.specs.Ending.{IsKeptAs}
use Rattle.job_preparing.specs.Handing.{IsFrameFor, ItemMarks, Lent, SuitsCall, answer_with, given_of, lent_at, mark_at}
use Rattle.job_preparing.specs.Stages.{lent_of, line_in, mark_of, spare_in}
use Rattle.job_preparing.specs.Standing.{HasLeft, HasSpare, IsCalled, IsLeft, IsOut, IsOwn, Keeps, StandsRight, nothing, task_hold}
use Rattle.job_preparing.specs.View.{ConfiguringView, IsOfferedCall, IsOfferedWork, task, task_of}
use Rattle.job_preparing.specs.declared.handing.JobGiven.{JobGiven}
use Rattle.job_preparing.specs.declared.stage.Spare.{Spare}
use Rattle.job_preparing.specs.declared.stage.Stage.{Stage}
use Rattle.job_preparing.specs.declared.stage.Stage.TheVariants.{Fires, Calls, Busy, Open, Gave, Refused}
use Rattle.kernel_gate.specs.declared.told.Told.{Told}
use Rattle.job_preparing.proofs.Asked.{lens_are}
use Rattle.job_preparing.proofs.Offered.{IsBusyAt, IsOpenAt, IsWaiting, busy_stage, calling_at, open_stage, waiting_at}
use Rattle.job_preparing.proofs.Reading.{image_at, set_twice}
use Rattle.job_preparing.proofs.Writing.{put_alone, put_left, put_stage}

-- ---- what is kept of what was given

-- what a kernel gives, as what a firing gives
abbrev pub kernel_gives : FrameView → JobGiven
kernel_gives frame = record { outs = frame.outputs; state = []; trace = []; exports = frame.sets }

abbrev pub kept_one : JobGiven → Configured
kept_one given = record { outs = given.outs; sets = given.exports; state = in_line given.state; trace = [] }

pub kept_stands : (graphs : List Graph) (t : Option (Task Firing words.Work)) (rates : List ℕ) (given : JobGiven) (stage : Stage) (frame : Option FrameView) (one : Configured) (trace : List TraceRow) →
    IsKeptAs given stage → one ≡ kept_one given → trace ≡ given.trace → lengths given.outs ≡ rates → length (in_line given.state) ≡ task_hold graphs t → StandsRight graphs t rates stage frame one trace
kept_stands graphs t rates given (Fires spare) frame one trace kept one_is trace_is long held = absurd kept
kept_stands graphs t rates given Calls frame one trace kept one_is trace_is long held = absurd kept
kept_stands graphs t rates given (Busy told spare) frame one trace kept one_is trace_is long held = absurd kept
kept_stands graphs t rates given (Open told line) frame one trace kept one_is trace_is long held = absurd kept
kept_stands graphs t rates given (Gave told) frame one trace kept one_is trace_is long held =
    let P : JobGiven → Type 0 = λ x. HasLeft graphs t rates x one trace in
    let kept_so : IsLeft rates given one trace = record { one_is = one_is; trace_is = trace_is; rates_are = long } in
    let own : HasLeft graphs t rates given one trace = record { left = kept_so; state = ap (λ (x : Configured). length x.state) one_is ∙ held } in
    subst P (sym kept) own
kept_stands graphs t rates given (Refused refusal) frame one trace kept one_is trace_is long held = absurd kept

pub kept_mark : (given : JobGiven) (stage : Stage) → IsKeptAs given stage → mark_of stage ≡ mark.Done (words.Gives (given_of given))
kept_mark given (Fires spare) kept = absurd kept
kept_mark given Calls kept = absurd kept
kept_mark given (Busy told spare) kept = absurd kept
kept_mark given (Open told line) kept = absurd kept
kept_mark given (Gave told) kept = ap (λ (x : JobGiven). mark.Done (words.Gives (given_of x))) kept
kept_mark given (Refused refusal) kept = absurd kept

pub kept_lent : (given : JobGiven) (stage : Stage) → IsKeptAs given stage → lent_of stage ≡ None
kept_lent given (Fires spare) kept = absurd kept
kept_lent given Calls kept = absurd kept
kept_lent given (Busy told spare) kept = absurd kept
kept_lent given (Open told line) kept = absurd kept
kept_lent given (Gave told) kept = refl
kept_lent given (Refused refusal) kept = absurd kept

abbrev pub the_view : Graphs → Firing → ItemMarks → Lent → ConfiguringView
the_view graphs firing marks lent = record { graphs = graphs; firing = firing; marks = marks; lent = lent }

pub open_lent : (s : Stage) (job : Firing) → mark_of s ≡ mark.Open job → lent_of s ≡ None
open_lent (Fires spare) job e = refl
open_lent Calls job e = refl
open_lent (Busy told spare) job e = absurd (cc)
open_lent (Open told line) job e = refl
open_lent (Gave told) job e = refl
open_lent (Refused refusal) job e = refl

-- ---- the answer of a kernel

module _ (t : Option (Task Firing words.Work)) (spare : Spare) (has : HasSpare t spare) (frame : FrameView) where
  pub answer_given : (done : Unit {0}) → answer_with t frame (Ok done) ≡ words.Gives (given_of (kernel_gives frame))
  answer_given done = ap (λ x. answer_with x frame (Ok done)) has.task_is

  pub answer_refused : (fault : KernelFault) → answer_with t frame (Err fault) ≡ words.Refuses record { path = spare.path; cause = cause.Kernel spare.name 0 fault.code }
  answer_refused fault =
      ap (λ x. answer_with x frame (Err fault)) has.task_is
      ∙ ap (λ p. words.Refuses record { path = p; cause = cause.Kernel has.spot.name has.spot.turn fault.code }) (sym has.path_is)
      ∙ ap (λ n. words.Refuses record { path = spare.path; cause = cause.Kernel n has.spot.turn fault.code }) (sym has.name_is)
      ∙ ap (λ k. words.Refuses record { path = spare.path; cause = cause.Kernel spare.name k fault.code }) has.turn_is

module _ (graphs : Graphs) (firing : Firing) (early : EarlyView) (places : List ℕ) (stages : List Stage) (frames : List (Option FrameView)) (left : List Configured) (traces : List (List TraceRow)) (kept : Keeps graphs firing early places stages frames left traces)
    (n : ℕ) (s : Stage) (is : slice_get stages n ≡ Some s) (between : Stage) where
  abbrev view : ConfiguringView
  view = record { graphs = graphs; firing = firing; marks = map mark_of stages; lent = map lent_of stages }

  inside : n < length stages
  inside = slice_get_within stages n s is

  -- ---- marks after a write

  pub marks_after : (later : Stage) (m : Mark Firing Answer) → mark_of later ≡ m → map mark_of (set (set stages n between) n later) ≡ set (map mark_of stages) n m
  marks_after later m e = ap (map mark_of) (set_twice stages n between later) ∙ map-set mark_of stages n later ∙ ap (λ x. set (map mark_of stages) n x) e

  pub lent_after : (later : Stage) (p : Option Places) → lent_of later ≡ p → map lent_of (set (set stages n between) n later) ≡ set (map lent_of stages) n p
  lent_after later p e = ap (map lent_of) (set_twice stages n between later) ∙ map-set lent_of stages n later ∙ ap (λ x. set (map lent_of stages) n x) e

  -- the view then, for whoever knows what it was
  pub both_after : (old : ConfiguringView) → view ≡ old → (later : Stage) (m : Mark Firing Answer) (p : Option Places) → mark_of later ≡ m → lent_of later ≡ p →
      the_view graphs firing (map mark_of (set (set stages n between) n later)) (map lent_of (set (set stages n between) n later)) ≡ the_view old.graphs old.firing (set old.marks n m) (set old.lent n p)
  both_after old was later m p e f =
      ap (λ l. the_view graphs firing l (map lent_of (set (set stages n between) n later))) (marks_after later m e)
      ∙ ap (λ l. the_view graphs firing (set (map mark_of stages) n m) l) (lent_after later p f)
      ∙ ap (λ (v : ConfiguringView). the_view v.graphs v.firing (set v.marks n m) (set v.lent n p)) was

  -- where nothing was lent before and after
  nothing_at : lent_of s ≡ None → set (map lent_of stages) n None ≡ map lent_of stages
  nothing_at none =
      let at : get_or (map lent_of stages) n None ≡ None = image_at lent_of stages n s None is ∙ none in
      ap (λ x. set (map lent_of stages) n x) (sym at) ∙ set-get_or (map lent_of stages) n None

  pub marks_only : (old : ConfiguringView) → view ≡ old → lent_of s ≡ None → (later : Stage) (m : Mark Firing Answer) → mark_of later ≡ m → lent_of later ≡ None →
      the_view graphs firing (map mark_of (set (set stages n between) n later)) (map lent_of (set (set stages n between) n later)) ≡ the_view old.graphs old.firing (set old.marks n m) old.lent
  marks_only old was none later m e f =
      ap (λ l. the_view graphs firing l (map lent_of (set (set stages n between) n later))) (marks_after later m e)
      ∙ ap (λ l. the_view graphs firing (set (map mark_of stages) n m) l) (lent_after later None f ∙ nothing_at none)
      ∙ ap (λ (v : ConfiguringView). the_view v.graphs v.firing (set v.marks n m) v.lent) was

  pub opened_only : (old : ConfiguringView) → view ≡ old → lent_of s ≡ None → (later : Stage) (m : Mark Firing Answer) → mark_of later ≡ m → lent_of later ≡ None →
      the_view graphs firing (map mark_of (set stages n later)) (map lent_of (set stages n later)) ≡ the_view old.graphs old.firing (set old.marks n m) old.lent
  opened_only old was none later m e f =
      ap (λ l. the_view graphs firing l (map lent_of (set stages n later))) (map-set mark_of stages n later ∙ ap (λ x. set (map mark_of stages) n x) e)
      ∙ ap (λ l. the_view graphs firing (set (map mark_of stages) n m) l) (map-set lent_of stages n later ∙ ap (λ x. set (map lent_of stages) n x) f ∙ nothing_at none)
      ∙ ap (λ (v : ConfiguringView). the_view v.graphs v.firing (set v.marks n m) v.lent) was

  -- ---- a claim

  module _ (offered : IsOfferedWork view n) where
    w : IsWaiting (task view n) s (get_or frames n None)
    w = waiting_at graphs firing early places stages frames left traces kept n s is offered

    pub has_spare : (x : Spare) × (spare_in s ≡ Some x)
    has_spare = (w.spare, ap spare_in w.stage_is)

    pub has_frame : (x : FrameView) × (get_or frames n None ≡ Some x)
    has_frame = (w.waits.frame, w.waits.frame_is)

    module _ (frame : FrameView) (frame_is : get_or frames n None ≡ Some frame) where
      own_frame : w.waits.frame ≡ frame
      own_frame = let e : Some w.waits.frame ≡ Some frame = sym w.waits.frame_is ∙ frame_is in cc

      -- the frame is that of the task
      pub frame_for : IsFrameFor (task view n) frame
      frame_for =
          let P : Option (Task Firing words.Work) → Type 0 = λ t. IsFrameFor t w.waits.frame in
          let Q : FrameView → Type 0 = λ f. IsFrameFor (task view n) f in
          subst Q own_frame (subst P (sym w.waits.has.task_is) w.waits.asks)

      whole : AreWhole frame.places
      whole = subst IsOwn frame_is (kept.own n None (let a = kept.one_stage in let b = kept.one_frame in let i = inside in omega arith))

      pub claim_keeps : (spare : Spare) → spare_in s ≡ Some spare → (told : Told) → told.frame ≡ frame → Keeps graphs firing early places (set (set stages n between) n (Busy told spare)) (set frames n None) left traces
      claim_keeps spare spare_is told told_is =
          let own_spare : w.spare ≡ spare = (let e : Some w.spare ≡ Some spare = sym (ap spare_in w.stage_is) ∙ spare_is in cc) in
          let first : IsOut (task view n) w.spare w.waits.frame.places = record { has = w.waits.has; outputs = w.waits.outputs; whole = subst (λ (f : FrameView). AreWhole f.places) (sym own_frame) whole } in
          let P : Spare → Type 0 = λ x. IsOut (task view n) x w.waits.frame.places in
          let Q : FrameView → Type 0 = λ f. IsOut (task view n) spare f.places in
          let R : List Stage → Type 0 = λ l. Keeps graphs firing early places l (set frames n None) left traces in
          subst R (sym (set_twice stages n between (Busy told spare))) (put_stage graphs firing early places stages frames left traces kept n inside (Busy told spare) None tt (subst Q (own_frame ∙ sym told_is) (subst P own_spare first)))

  -- ---- a call

  pub call_keeps : IsOfferedCall view n → (told : Snapshot Firing) (line : Vec ℤ Global) → task view n ≡ Some (Call told.value) → (early_of graphs.graphs told.value.graph told.value.inherited).outputs ≡ config_rates graphs.graphs firing n →
      line.items ≡ [] → lengths told.value.state ≡ lengths (initial graphs.graphs told.value.graph) → vec_capacity line ≡ length (in_line told.value.state) → Keeps graphs firing early places (set stages n (Open told line)) frames left traces
  call_keeps offered told line task_is rates empty state room =
      put_alone graphs firing early places stages frames left traces kept n inside (Open told line) (record {
        task_is = task_is;
        rates_are = rates;
        empty = empty;
        room = let e = same_line told.value.state (initial graphs.graphs told.value.graph) state in omega arith;
      })

  -- ---- a finish

  module _ (frame : FrameView) (busy : mark_at view.marks n ≡ mark.Busy) (lent : lent_at view.lent n ≡ Some frame.places) where
    b : IsBusyAt (task view n) s frame.places
    b = busy_stage graphs.graphs (task view n) (config_rates graphs.graphs firing n) s (get_or frames n None) (get_or left n nothing) (get_or traces n []) frame.places (kept.right n s is)
        (sym (image_at mark_of stages n s mark.Free is) ∙ busy) (sym (image_at lent_of stages n s None is) ∙ lent)

    pub busy_spare : (x : Spare) × (spare_in s ≡ Some x)
    busy_spare = (b.spare, b.spare_is)

    module _ (spare : Spare) (spare_is : spare_in s ≡ Some spare) where
      pub out : IsOut (task view n) spare frame.places
      out = (let e : Some b.spare ≡ Some spare = sym b.spare_is ∙ spare_is in let same : b.spare ≡ spare = cc in subst (λ (x : Spare). IsOut (task view n) x frame.places) same b.out)

      pub finish_room : length frame.places.outputs ≤ vec_capacity spare.lists
      finish_room =
          let many = ap (λ (l : List ℕ). length l) out.outputs in
          let same = length-map frame.places.outputs (λ (p : LeasePlace). p.len) in
          let room = out.has.room in
          omega arith

      pub given_keeps : (given : JobGiven) (stage : Stage) (one : Configured) (trace : List TraceRow) → given ≡ kernel_gives frame → lengths frame.outputs ≡ map (λ (p : LeasePlace). p.len) frame.places.outputs → IsKeptAs given stage → one ≡ kept_one given → trace ≡ given.trace →
          Keeps graphs firing early places (set (set stages n between) n stage) frames (set left n one) (set traces n trace)
      given_keeps given stage one trace given_is long kept_as one_is trace_is =
          let rates : lengths given.outs ≡ config_rates graphs.graphs firing n =
          ap (λ (x : JobGiven). lengths x.outs) given_is ∙ long ∙ out.outputs ∙ lens_are graphs.graphs (graph_of graphs.graphs firing) firing n out.has.spot out.has.asked out.has.task_is in
          let held : length (in_line given.state) ≡ task_hold graphs.graphs (task view n) = ap (λ (x : JobGiven). length (in_line x.state)) given_is ∙ ap (task_hold graphs.graphs) (sym out.has.task_is) in
          let R : List Stage → Type 0 = λ l. Keeps graphs firing early places l frames (set left n one) (set traces n trace) in
          subst R (sym (set_twice stages n between stage))
          (put_left graphs firing early places stages frames left traces kept n inside stage one trace (kept_stands graphs.graphs (task view n) (config_rates graphs.graphs firing n) given stage (get_or frames n None) one trace kept_as one_is trace_is rates held))

      pub given_mark : (given : JobGiven) (stage : Stage) (done : Unit {0}) → given ≡ kernel_gives frame → IsKeptAs given stage → mark_of stage ≡ mark.Done (answer_with (task view n) frame (Ok done))
      given_mark given stage done given_is kept_as =
          kept_mark given stage kept_as ∙ ap (λ (x : JobGiven). mark.Done (words.Gives (given_of x))) given_is ∙ ap mark.Done (sym (answer_given (task view n) spare out.has frame done))

      pub refused_mark : (fault : KernelFault) → mark_of (Refused record { path = spare.path; cause = cause.Kernel spare.name 0 fault.code }) ≡ mark.Done (answer_with (task view n) frame (Err fault))
      refused_mark fault = ap mark.Done (sym (answer_refused (task view n) spare out.has frame fault))

  -- an actor that was refused
  pub refused_keeps : (refusal : Refusal) → Keeps graphs firing early places (set (set stages n between) n (Refused refusal)) frames left traces
  refused_keeps refusal =
      let R : List Stage → Type 0 = λ l. Keeps graphs firing early places l frames left traces in
      subst R (sym (set_twice stages n between (Refused refusal))) (put_alone graphs firing early places stages frames left traces kept n inside (Refused refusal) tt)

  pub refused_keeps_once : (refusal : Refusal) → Keeps graphs firing early places (set stages n (Refused refusal)) frames left traces
  refused_keeps_once refusal = put_alone graphs firing early places stages frames left traces kept n inside (Refused refusal) tt

  -- ---- the end of a call

  module _ (job : Firing) (open_at : mark_at view.marks n ≡ mark.Open job) where
    pub open_mark : mark_of s ≡ mark.Open job
    open_mark = sym (image_at mark_of stages n s mark.Free is) ∙ open_at

    o : IsOpenAt graphs.graphs (task view n) (config_rates graphs.graphs firing n) s job
    o = open_stage graphs.graphs (task view n) (config_rates graphs.graphs firing n) s (get_or frames n None) (get_or left n nothing) (get_or traces n []) job (kept.right n s is)
        (sym (image_at mark_of stages n s mark.Free is) ∙ open_at)

    pub open_line : (x : Vec ℤ Global) × (line_in s ≡ Some x)
    open_line = (o.line, o.line_is)

    module _ (line : Vec ℤ Global) (line_is : line_in s ≡ Some line) where
      pub called : IsCalled graphs.graphs (task view n) (config_rates graphs.graphs firing n) job line
      called = (let e : Some o.line ≡ Some line = sym o.line_is ∙ line_is in let same : o.line ≡ line = cc in subst (λ (x : Vec ℤ Global). IsCalled graphs.graphs (task view n) (config_rates graphs.graphs firing n) job x) same o.called)

      pub line_room : (given : JobGiven) → SuitsCall graphs.graphs job (given_of given) → length (in_line given.state) ≤ vec_capacity line
      line_room given suits =
          let e = same_line given.state (initial graphs.graphs job.graph) suits.state in
          let room = called.room in
          omega arith

      pub call_given_keeps : (given : JobGiven) (stage : Stage) (one : Configured) (trace : List TraceRow) → SuitsCall graphs.graphs job (given_of given) → IsKeptAs given stage → one ≡ kept_one given → trace ≡ given.trace →
          Keeps graphs firing early places (set (set stages n between) n stage) frames (set left n one) (set traces n trace)
      call_given_keeps given stage one trace suits kept_as one_is trace_is =
          let held : length (in_line given.state) ≡ task_hold graphs.graphs (task view n) = same_line given.state (initial graphs.graphs job.graph) suits.state ∙ ap (task_hold graphs.graphs) (sym called.task_is) in
          let R : List Stage → Type 0 = λ l. Keeps graphs firing early places l frames (set left n one) (set traces n trace) in
          subst R (sym (set_twice stages n between stage))
          (put_left graphs firing early places stages frames left traces kept n inside stage one trace (kept_stands graphs.graphs (task view n) (config_rates graphs.graphs firing n) given stage (get_or frames n None) one trace kept_as one_is trace_is (suits.outs ∙ called.rates_are) held))
