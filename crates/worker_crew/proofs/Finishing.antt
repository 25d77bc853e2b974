-- What a worker's board is like once it has given back what it ran.
use Rattle.std.proofs.Common.{◌≡◌, ℕ, zero, suc, true, Option, None, List, [], ◌∷◌, ◌++◌, get_or, All, refl, sym, ap, ◌∙◌, arith, get_or-set_other}
use Rattle.kernel_gate.specs.Value.{Places}
use Rattle.nested_jobs.specs.Journals as steps
use Rattle.job_preparing.specs.declared.compiling.CompileEnd.{CompileEnd}
use Rattle.job_rules.specs.Doing.{Answers}
use Rattle.job_rules.specs.Words.{Answer, Compiles, Copies, Fires, Work}
use Rattle.board_lock.specs.Passes.{Finds}
use Rattle.board_rules.specs.Entries.{Step}
use Rattle.board_rules.specs.Keys.{Key}
use Rattle.board_rules.specs.Legal.{journal_of}
use Rattle.board_rules.specs.declared.entry.Entry.{Entry}
use Rattle.board_rules.specs.declared.entry.Entry.TheVariants.{Finish}
use Rattle.firing_board.specs.Finishes.{Finishes, MayEnd}
use Rattle.firing_board.specs.Locking.{board_meant, worker_of}
use Rattle.firing_board.specs.Runs.{IsSound, Runs}
use Rattle.firing_board.specs.View.{BoardView}
use Rattle.worker_crew.specs.Laws.{BoardsHaveLaws}
use Rattle.worker_crew.specs.Asked.{HasClaimed}
use Rattle.worker_crew.specs.Passes.{BoardPass}
use Rattle.worker_crew.proofs.Leaving.{Changes, found_running}

one_mine : (w : ℕ) → All (λ e. worker_of e ≡ w) (Finish w ∷ [])
one_mine w zero d lt = refl
one_mine w (suc k) d lt = absurd (omega arith)

pub finish_changes : (x y : BoardView) (w : ℕ) (P : Work → Type 0) → BoardsHaveLaws → IsSound x → (runs : Runs x w P) → (answer : Answer) → Answers x.key.graphs.graphs runs.work answer
    → Finishes x y w → (x.starved ≡ true → y.starved ≡ true) → Changes x y w (Finish w ∷ [])
finish_changes x y w P laws sound runs answer answered finishes starved =
    let key_is : y.key ≡ x.key = ap (λ (b : BoardView). b.key) finishes.new_is in
    let after = finishes.entered runs.taken runs.work answer runs.at runs.runs answered in
    let then : List Step = runs.taken ++ steps.Finish w answer ∷ [] in
    record {
      key = key_is;
      journal = after.entered ∙ (ap (λ (k : Key). journal_of k then) key_is ∙ ((laws x.key sound.is_key).finishes runs.taken w answer ∙ ap (λ (l : List Entry). l ++ Finish w ∷ []) (sym runs.at.entered)));
      mine = one_mine w;
      lent = λ n ne. ap (λ (b : BoardView). get_or b.lent n None) finishes.new_is ∙ get_or-set_other x.lent w n None None ne;
      starved = starved;
    }

-- so it is where the pass's number has claimed what it gives back
pub gives_back : (p : BoardPass) (x y : BoardView) (frame : Option Places) (P : Key → Work → Type 0) → BoardsHaveLaws → Finds board_meant p x → IsSound x → HasClaimed p frame P
    → ((work : Work) → P x.key work → (answer : Answer) × Answers x.key.graphs.graphs work answer)
    → Finishes x y p.number → (x.starved ≡ true → y.starved ≡ true) → Changes x y p.number (Finish p.number ∷ [])
gives_back p x y frame P laws found sound claimed answers finishes starved =
    let runs = found_running p x found laws sound frame P claimed in
    let answer = answers runs.work runs.so in
    finish_changes x y p.number (P x.key) laws sound runs answer.0 answer.1 finishes starved

-- a compilation has the answer that it ends with
pub ended_answers : (key : Key) (end : CompileEnd) (work : Work) → MayEnd key end work → (answer : Answer) × Answers key.graphs.graphs work answer
ended_answers key end (Fires spot asked) may = absurd may
ended_answers key end (Copies node read lens) may = absurd may
ended_answers key end (Compiles firing left) may = may.1
