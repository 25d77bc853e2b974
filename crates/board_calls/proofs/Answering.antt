-- What a worker ran gives an answer that its work may have.
use Rattle.std.proofs.Common.{◌≡◌, ◌≢◌, ℕ, ◌<◌, false, Option, Some, None, Result, List, [], ◌∷◌, ◌++◌, get_or, refl, sym, ap, ◌∙◌, subst, get_or-set_other}
use Rattle.kernel_gate.specs.Value.{FrameView, Places}
use Rattle.kernel_gate.specs.declared.fault.KernelFault.{KernelFault}
use Rattle.nested_jobs.specs.Journals as steps
use Rattle.nested_jobs.specs.Rules as nested
use Rattle.job_preparing.specs.CompileTasks.{CompileView, IsEndOf}
use Rattle.job_preparing.specs.Handing.{answer_with}
use Rattle.job_preparing.specs.declared.compiling.CompileEnd.{CompileEnd}
use Rattle.job_rules.specs.Doing.{Answers}
use Rattle.job_rules.specs.Words.{Answer, Compiles, Copies, Fires, Work}
use Rattle.board_lock.specs.Meant.{entries_of}
use Rattle.board_lock.proofs.Entries.{entries-append}
use Rattle.board_rules.specs.Entries.{Step}
use Rattle.board_rules.specs.Keys.{Key}
use Rattle.board_rules.specs.Legal.{journal_of, state_after}
use Rattle.board_rules.specs.declared.entry.Entry.{Entry}
use Rattle.board_rules.specs.declared.entry.Entry.TheVariants.{Finish}
use Rattle.firing_board.specs.Finishes.{Finishes, MayComeBack, MayEnd}
use Rattle.firing_board.specs.Locking.{worker_of}
use Rattle.firing_board.specs.Runs.{IsSound, Runs, RunsWork}
use Rattle.firing_board.specs.View.{BoardView}
use Rattle.firing_board.specs.declared.claim.Ticket.{Ticket}
use Rattle.worker_crew.specs.Asked.{IsToCompile}
use Rattle.worker_crew.specs.Laws.{BoardsHaveLaws, CompilationsEnd}
use Rattle.worker_crew.specs.Passes.{last_claims}
use Rattle.worker_crew.proofs.Advancing.{last_append}
use Rattle.worker_crew.proofs.Answering.{compile_answer, ended_work}
use Rattle.worker_crew.proofs.Steps.{mine_first, other_first}
use Rattle.board_calls.specs.Holding.{GivesBack, HasClaimed}
use Rattle.board_calls.proofs.Lasting.{told_idle}

-- the same claim, of which something else holds
claimed_as : (b : BoardView) (w : ℕ) (ticket : Ticket) (old new : Option Places) (P Q : Work → Type 0) → new ≡ old → ((claimed : HasClaimed b w ticket old P) → Q claimed.runs.work) → HasClaimed b w ticket old P → HasClaimed b w ticket new Q
claimed_as b w ticket old new P Q same so claimed = record {
  ticket_is = claimed.ticket_is;
  runs = record {
    is_worker = claimed.runs.is_worker;
    taken = claimed.runs.taken;
    at = claimed.runs.at;
    work = claimed.runs.work;
    runs = claimed.runs.runs;
    so = so claimed;
  };
  lent = claimed.lent ∙ sym same;
}

-- ---- compilations

pub compiles_back : (b : BoardView) (w : ℕ) (ticket : Ticket) (task : CompileView) (end : CompileEnd) → CompilationsEnd → IsSound b → HasClaimed b w ticket None (IsToCompile task b.key) → IsEndOf task.graphs.graphs task.workers task.firing task.left end
    → HasClaimed b w ticket None (MayEnd b.key end)
compiles_back b w ticket task end law sound claimed ends =
    claimed_as b w ticket None None (IsToCompile task b.key) (MayEnd b.key end) refl
    (λ c. ended_work task end b.key c.runs.work
    (compile_answer b.key c.runs.work task c.runs.so (λ firing left is. law b.key c.runs.taken w firing left sound.is_key c.runs.at.legal (subst (λ (z : Work). RunsWork b.key (state_after b.key c.runs.taken) w z) is c.runs.runs)))
    ends c.runs.so)
    claimed

-- ---- what is given back

only_mine : (w v : ℕ) → v ≢ w → entries_of worker_of v (Finish w ∷ []) ≡ []
only_mine w v ne = other_first v (Finish w) [] (λ e. ne (sym e))

-- the worker has finished what it ran, and runs nothing
pub gives_back : (laws : BoardsHaveLaws) (x y : BoardView) (w : ℕ) (P : Work → Type 0) → IsSound x → IsSound y → (runs : Runs x w P) → (answer : Answer) → Answers x.key.graphs.graphs runs.work answer → Finishes x y w → GivesBack w x y
gives_back laws x y w P sound later runs answer answered finishes =
    let key_is : y.key ≡ x.key = ap (λ (b : BoardView). b.key) finishes.new_is in
    let after = finishes.entered runs.taken runs.work answer runs.at runs.runs answered in
    let then : List Step = runs.taken ++ steps.Finish w answer ∷ [] in
    let journal : y.journal ≡ x.journal ++ Finish w ∷ [] =
    after.entered ∙ (ap (λ (k : Key). journal_of k then) key_is ∙ ((laws x.key sound.is_key).finishes runs.taken w answer ∙ ap (λ (l : List Entry). l ++ Finish w ∷ []) (sym runs.at.entered))) in
    let own : entries_of worker_of w y.journal ≡ entries_of worker_of w x.journal ++ Finish w ∷ [] =
    ap (entries_of worker_of w) journal ∙ (entries-append worker_of w x.journal (Finish w ∷ []) ∙ ap (λ (l : List Entry). entries_of worker_of w x.journal ++ l) (mine_first w (Finish w) [] refl)) in
    let last : last_claims false (entries_of worker_of w y.journal) ≡ false = ap (last_claims false) own ∙ last_append false (entries_of worker_of w x.journal) (Finish w ∷ []) in (
      record {
        key = key_is;
        more = Finish w ∷ [];
        journal = journal;
        others = only_mine w;
        lent = λ v ne. ap (λ (b : BoardView). get_or b.lent v None) finishes.new_is ∙ get_or-set_other x.lent w v None None ne;
      },
      told_idle laws y later w (subst (λ (k : Key). w < k.workers) (sym key_is) runs.is_worker) last,
    )

-- a frame has come back
pub comes_back : (laws : BoardsHaveLaws) (x y : BoardView) (w : ℕ) (frame : FrameView) (result : Result (Unit {0}) KernelFault) (sound_so : Type 0) → IsSound x → IsSound y → Runs x w (MayComeBack x.key frame result sound_so) → Finishes x y w → GivesBack w x y
comes_back laws x y w frame result sound_so sound later runs finishes =
    gives_back laws x y w (MayComeBack x.key frame result sound_so) sound later runs (answer_with (Some (nested.Work runs.work)) frame result) runs.so.answered finishes

ended_answers : (key : Key) (end : CompileEnd) (work : Work) → MayEnd key end work → (answer : Answer) × Answers key.graphs.graphs work answer
ended_answers key end (Fires spot asked) may = absurd may
ended_answers key end (Copies node read lens) may = absurd may
ended_answers key end (Compiles firing left) may = may.1

-- a compilation has
pub ends_back : (laws : BoardsHaveLaws) (x y : BoardView) (w : ℕ) (end : CompileEnd) → IsSound x → IsSound y → Runs x w (MayEnd x.key end) → Finishes x y w → GivesBack w x y
ends_back laws x y w end sound later runs finishes =
    let answer = ended_answers x.key end runs.work runs.so in
    gives_back laws x y w (MayEnd x.key end) sound later runs answer.0 answer.1 finishes
