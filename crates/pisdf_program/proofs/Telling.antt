-- What is told of the compiled job.
use Rattle.std.proofs.Common.{◌≡◌, ◌⊎◌, ⊎_elim, ℕ, List, Option, Result, Ok, Err, String, Global, sym, ap, ◌∙◌, subst, true}
use Rattle.job_compiler.specs.Compilation.{Compilation}
use Rattle.job_report.specs.Names.{names_of}
use Rattle.job_report.specs.Told.{Tells}
use Rattle.job_report.specs.declared.text.JobText.{JobText}
use Rattle.pisdf_model.specs.declared.graph.Graph.{Graph}
use Rattle.pisdf_model.specs.declared.graph.Graphs.{Graphs}
use Rattle.pisdf_program.specs.Job.{EndsJob, JobEnd}
use Rattle.pisdf_program.specs.Loaded.{is_answer}
use Rattle.pisdf_program.specs.Result.{AreTold, FromFiles, Outcome, TellsEnd, TellsJob, told}
use Rattle.quiescent_driver.specs.Top.{top_of}
use Rattle.pisdf_program.specs.Worked.{IsThere, Works}
use Rattle.pisdf_program.specs.declared.load.Input.{Input}
use Rattle.pisdf_program.specs.declared.status.Status.{Status}
use Rattle.pisdf_program.specs.declared.status.Status.TheVariants.{WantOfMemory}
use Rattle.quiescent_driver.specs.declared.stop.Stop.TheVariants as stop
use Rattle.pisdf_program.proofs.Working.{Gives, comes_from, goes_on, works_for}

abbrev File : Type 0
File = Option (List ℕ)

abbrev starved : JobEnd
starved = Err stop.Memory

abbrev out_of_memory : Result (String Global) Status
out_of_memory = Err WantOfMemory

-- what is told of a job is this text
pub same_told : (what : JobText) (g : Graphs) (all : List Graph) (top : Graph) (job : Compilation) (text : List ℕ) → names_of all top ≡ names_of g.graphs (top_of g) → ((other : List ℕ) → Tells what (names_of all top) job other → other ≡ text)
    → (o : Outcome) → TellsEnd what g (Ok job) o → o ≡ told text
same_told what g all top job text is only o (other, tells, same) = same ∙ ap told (only other (subst (λ names. Tells what names job other) (sym is) tells))

module _ (what : JobText) (workers : ℕ) (graph tokens : File) (input : Input) (end : JobEnd) (gives : Gives graph tokens input) where
  -- each outcome is told of this end
  told_of : ((other : JobEnd) → EndsJob input.graphs input.streams workers other → (end ≡ other) ⊎ (end ≡ starved)) → (o : Outcome) → FromFiles (TellsJob what workers) graph tokens o → TellsEnd what input.graphs end o
  told_of only o h =
      let t = goes_on (TellsJob what workers) graph tokens input gives o h in
      ⊎_elim
      (λ (same : end ≡ t.0). subst (λ (e : JobEnd). TellsEnd what input.graphs e o) (sym same) t.2)
      (λ (none : end ≡ starved). subst (λ (e : JobEnd). TellsEnd what input.graphs e o) (sym none) tt)
      (only t.0 t.1)

  pub job_works : (had has : File) (b n : ℕ) (r : Result (String Global) Status) → ((other : JobEnd) → EndsJob input.graphs input.streams workers other → (end ≡ other) ⊎ (end ≡ starved))
      → Works (TellsEnd what input.graphs end) had has b n r → Works (FromFiles (TellsJob what workers) graph tokens) had has b n r
  job_works had has b n r only h = works_for (TellsEnd what input.graphs end) (FromFiles (TellsJob what workers) graph tokens) had has b n r (told_of only) h

  is_told : EndsJob input.graphs input.streams workers end → AreTold graph tokens → (o : Outcome) × TellsEnd what input.graphs end o → (o : Outcome) × FromFiles (TellsJob what workers) graph tokens o
  is_told ends t o = (o.0, comes_from (TellsJob what workers) graph tokens input gives t o.0 (end, ends, o.1))

  pub job_there : (r : Result (String Global) Status) → (EndsJob input.graphs input.streams workers end ⊎ (end ≡ starved)) → (end ≡ starved → r ≡ out_of_memory)
      → IsThere (Unit {0}) (TellsEnd what input.graphs end) r → IsThere (AreTold graph tokens) (FromFiles (TellsJob what workers) graph tokens) r
  job_there (Ok text) ends memory h = λ t. ⊎_elim (λ (e : EndsJob input.graphs input.streams workers end). is_told e t (h tt)) (λ (m : end ≡ starved). absurd (let x = memory m in cc)) ends
  job_there (Err s) ends memory h = λ t a.
      ⊎_elim (λ (e : EndsJob input.graphs input.streams workers end). is_told e t (h tt a))
      (λ (m : end ≡ starved). absurd (let x = memory m in let same : s ≡ WantOfMemory = cc in let no : is_answer WantOfMemory ≡ true = ap is_answer (sym same) ∙ a in cc)) ends
