-- What a worker ran gives an answer that its work may have.
use Rattle.std.proofs.Common.{◌≡◌, IsOk, Option, Some, None, Result, Ok, Err, List, refl, sym, ap, ◌∙◌, subst}
use Rattle.kernel_gate.specs.Signed.{Counts, IsFrameOf}
use Rattle.kernel_gate.specs.Table.{frame_value, the_value}
use Rattle.kernel_gate.specs.Value.{FrameView, Places, SameFrame, told_by}
use Rattle.kernel_gate.specs.declared.fault.KernelFault.{KernelFault}
use Rattle.sdf_level.specs.declared.node.Node.{Node}
use Rattle.special_actors.specs.Copying.{PassesOn, joined}
use Rattle.special_actors.specs.Fitting as special
use Rattle.job_preparing.specs.CompileTasks.{CompileView, IsEndOf}
use Rattle.job_preparing.specs.Handing.{AsksFor, fired_with}
use Rattle.job_preparing.specs.declared.compiling.CompileEnd.{CompileEnd}
use Rattle.job_rules.specs.Doing.{Answers, value_of}
use Rattle.job_rules.specs.Words.{Answer, Asked, Compiles, Copies, Fires, Spot, Work, fired}
use Rattle.board_rules.specs.Keys.{Key}
use Rattle.board_rules.specs.Legal.{state_after}
use Rattle.firing_board.specs.Runs.{RunsWork}
use Rattle.firing_board.specs.Finishes.{MayComeBack, MayEnd}
use Rattle.worker_crew.specs.Asked.{HasClaimed, IsToCompile, IsToCopy, IsToFire}
use Rattle.worker_crew.specs.Laws.{CompilationsEnd}
use Rattle.worker_crew.specs.Passes.{BoardPass, MayWork}

some_is : {A : Type 0} (x y : A) → Some x ≡ Some y → x ≡ y
some_is x y e = cc

-- the same claim, of which something else holds
claimed_as : (p : BoardPass) (old new : Option Places) (P Q : Key → Work → Type 0) → new ≡ old → ((claimed : HasClaimed p old P) → Q claimed.key claimed.work) → HasClaimed p old P → HasClaimed p new Q
claimed_as p old new P Q same so claimed = subst (λ (o : Option Places). HasClaimed p o Q) (sym same) record {
  key = claimed.key;
  key_is = claimed.key_is;
  is_key = claimed.is_key;
  some = claimed.some;
  is_worker = claimed.is_worker;
  taken = claimed.taken;
  legal = claimed.legal;
  seen_is = claimed.seen_is;
  work = claimed.work;
  runs = claimed.runs;
  lent = claimed.lent;
  so = so claimed;
}

-- ---- kernels

pub fits_work : (frame : FrameView) (key : Key) (work : Work) → IsToFire frame key work → IsFrameOf key.signatures frame
fits_work frame key (Fires spot asked) h = h.1
fits_work frame key (Copies node read lens) h = absurd h
fits_work frame key (Compiles firing left) h = absurd h

pub fits_gate : (kernels : List Counts) (p : BoardPass) (places : Option Places) (frame : FrameView) → MayWork kernels p → HasClaimed p places (IsToFire frame) → IsFrameOf kernels frame
fits_gate kernels p places frame may claimed =
    let same : claimed.key ≡ may.key = some_is claimed.key may.key (sym claimed.key_is ∙ may.key_is) in
    subst (λ (s : List Counts). IsFrameOf s frame) (ap (λ (k : Key). k.signatures) same ∙ may.kernels_are) (fits_work frame claimed.key claimed.work claimed.so)

told_is : (spot : Spot) (frame : FrameView) (result : Result (Unit {0}) KernelFault) → fired_with spot frame result ≡ fired spot (told_by frame result)
told_is spot frame (Ok done) = refl
told_is spot frame (Err fault) = refl

asked_is : (asked : Asked) (frame : FrameView) → AsksFor asked frame → frame_value frame ≡ value_of asked
asked_is asked frame asks =
    let kind = asks.kind in
    let args = asks.args in
    let inputs = asks.inputs in
    let outputs = asks.outputs in
    let sets = asks.sets in
    λ i. the_value (kind i) (args i) (inputs i) (outputs i) (sets i)

pub fired_work : (old new : FrameView) (result : Result (Unit {0}) KernelFault) (key : Key) (work : Work) → told_by new result ≡ frame_value old → IsToFire old key work → MayComeBack key new result (IsOk result) work
fired_work old new result key (Fires spot asked) value h = record {
  answered = told_is spot new result ∙ ap (fired spot) (value ∙ asked_is asked old h.0);
  sound_so = tt;
}
fired_work old new result key (Copies node read lens) value h = absurd h
fired_work old new result key (Compiles firing left) value h = absurd h

pub fires_back : (p : BoardPass) (old new : FrameView) (result : Result (Unit {0}) KernelFault) → HasClaimed p (Some old.places) (IsToFire old) → SameFrame old new → told_by new result ≡ frame_value old
    → HasClaimed p (Some new.places) (λ key. MayComeBack key new result (IsOk result))
fires_back p old new result claimed same value =
    claimed_as p (Some old.places) (Some new.places) (IsToFire old) (λ key. MayComeBack key new result (IsOk result)) (ap Some same.places) (λ c. fired_work old new result c.key c.work value c.so) claimed

-- ---- nodes

pub frame_work : (node : Node) (frame : FrameView) (key : Key) (work : Work) → IsToCopy node frame key work → special.IsFrameOf node frame
frame_work node frame key (Fires spot asked) h = absurd h
frame_work node frame key (Copies copier read lens) h = h.2
frame_work node frame key (Compiles firing left) h = absurd h

pub fits_node : (p : BoardPass) (places : Option Places) (node : Node) (frame : FrameView) → HasClaimed p places (IsToCopy node frame) → special.IsFrameOf node frame
fits_node p places node frame claimed = frame_work node frame claimed.key claimed.work claimed.so

done : Result (Unit {0}) KernelFault
done = Ok tt

pub copied_work : (node : Node) (old new : FrameView) (result : Result (Unit {0}) KernelFault) (key : Key) (work : Work) → IsOk result → SameFrame old new → PassesOn node (joined old.inputs) (joined new.outputs) → IsToCopy node old key work → MayComeBack key new result (IsOk result) work
copied_work node old new result key (Fires spot asked) ok same passed h = absurd h
copied_work node old new result key (Copies copier read lens) ok same passed h = record {
  answered = record {
    outs = new.outputs;
    answer_is = refl;
    fitting = same.outputs ∙ h.1.outputs;
    passed = subst (λ (n : Node). PassesOn n (joined read) (joined new.outputs)) (sym h.0) (subst (λ (l : List (List _)). PassesOn node (joined l) (joined new.outputs)) h.1.inputs passed);
  };
  sound_so = ok;
}
copied_work node old new result key (Compiles firing left) ok same passed h = absurd h

pub copies_back : (p : BoardPass) (node : Node) (old new : FrameView) (result : Result (Unit {0}) KernelFault) → HasClaimed p (Some old.places) (IsToCopy node old) → IsOk result → SameFrame old new → PassesOn node (joined old.inputs) (joined new.outputs)
    → HasClaimed p (Some new.places) (λ key. MayComeBack key new result (IsOk result))
copies_back p node old new result claimed ok same passed =
    claimed_as p (Some old.places) (Some new.places) (IsToCopy node old) (λ key. MayComeBack key new result (IsOk result)) (ap Some same.places) (λ c. copied_work node old new result c.key c.work ok same passed c.so) claimed

-- ---- compilations

pub ended_work : (task : CompileView) (end : CompileEnd) (key : Key) (work : Work) → ((answer : Answer) × Answers key.graphs.graphs work answer) → IsEndOf task.graphs.graphs task.workers task.firing task.left end → IsToCompile task key work → MayEnd key end work
ended_work task end key (Fires spot asked) answer ends h = absurd h
ended_work task end key (Copies node read lens) answer ends h = absurd h
ended_work task end key (Compiles firing left) answer ends h =
    let graphs = h.0 in
    let workers = h.1 in
    let firing = h.2 in
    let left = h.3 in
    (subst (λ (E : Type 0). E) (λ i. IsEndOf (graphs i).graphs (workers i) (firing i) (left i) end) ends, answer)

pub compile_answer : (key : Key) (work : Work) (task : CompileView) → IsToCompile task key work → ((firing : _) (left : _) → work ≡ Compiles firing left → (answer : Answer) × Answers key.graphs.graphs (Compiles firing left) answer) → (answer : Answer) × Answers key.graphs.graphs work answer
compile_answer key (Fires spot asked) task h ends = absurd h
compile_answer key (Copies node read lens) task h ends = absurd h
compile_answer key (Compiles firing left) task h ends = ends firing left refl

pub compiles_back : (p : BoardPass) (task : CompileView) (end : CompileEnd) → CompilationsEnd → HasClaimed p None (IsToCompile task) → IsEndOf task.graphs.graphs task.workers task.firing task.left end → HasClaimed p None (λ key. MayEnd key end)
compiles_back p task end law claimed ends =
    claimed_as p None None (IsToCompile task) (λ key. MayEnd key end) refl
    (λ c. ended_work task end c.key c.work
    (compile_answer c.key c.work task c.so (λ firing left is. law c.key c.taken p.number firing left c.is_key c.legal (subst (λ (z : Work). RunsWork c.key (state_after c.key c.taken) p.number z) is c.runs)))
    ends c.so)
    claimed
