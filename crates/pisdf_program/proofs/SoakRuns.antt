-- A soak run, iteration by iteration, and what is told of it.
use Rattle.std.proofs.Common.{◌≡◌, ℕ, suc, ◌+◌, ◌<◌, ℤ, pos, true, List, [], ◌∷◌, ◌++◌, length, length-append, Option, None, Result, Ok, Err, String, Global, inl, inr, refl, sym, ap, ◌∙◌, subst, append_assoc, arith, map}
use Rattle.std.specs.Prelude.{◌+ℤ◌, ◌⊎◌, fold, IfErr}
use Rattle.std.proofs.lemmas.List.{append-nil}
use Rattle.pisdf_model.specs.Hold.{initial}
use Rattle.pisdf_model.specs.declared.graph.Graphs.{Graphs}
use Rattle.pisdf_meaning.specs.Run as run
use Rattle.pisdf_meaning.specs.declared.outcome.Iteration.{Iteration}
use Rattle.pisdf_meaning.specs.declared.refusal.Refusal.{Refusal}
use Rattle.quiescent_driver.specs.Runs.{EndsRun}
use Rattle.quiescent_driver.specs.Iterated.{Gives, HaveIterated}
use Rattle.pisdf_program.specs.Soak.{all_tokens, soak_file, soak_iterations, soak_text, soak_streams, sum_of, y_tokens}
use Rattle.pisdf_program.specs.SoakEnd.{EndsSoak, IsSoakStatus, LacksNothing, SoakEndsBy, SoakIsDone, total_row}
use Rattle.pisdf_program.specs.Loaded.{is_answer}
use Rattle.pisdf_program.specs.Result.{Outcome, Soaks, SoaksIn, SoaksOn, soak_ends, read_graphs, refused, told}
use Rattle.quiescent_driver.specs.Making.{StopsOnly}
use Rattle.quiescent_driver.specs.Stepped.{StopsAt}
use Rattle.quiescent_driver.specs.Stops.{run_end}
use Rattle.quiescent_driver.specs.Streams.{rest_of}
use Rattle.pisdf_program.specs.Worked.{IsThere, StopsWith, TellsSoak, Works}
use Rattle.pisdf_program.specs.declared.soak_totals.Total.{Total}
use Rattle.pisdf_program.specs.declared.status.Status.{Status}
use Rattle.pisdf_program.specs.declared.status.Status.TheVariants.{WantOfMemory, WriteFault}
use Rattle.quiescent_driver.specs.declared.stop.Stop.{Stop}
use Rattle.quiescent_driver.specs.declared.stop.Stop.TheVariants as stop
use Rattle.quiescent_driver.specs.Reached.{Reached}
use Rattle.quiescent_driver.proofs.Runs.{ends_at, ends_by, then_run, whole_run}
use Rattle.pisdf_program.proofs.OneRun.{one_run}
use Rattle.pisdf_program.proofs.Working.{works_for}

abbrev State : Type 0
State = List (List ℤ)

-- ---- the tokens of y

fold_on : (f : ℤ → ℤ → ℤ) (a : ℤ) (xs ys : List ℤ) → fold f a (xs ++ ys) ≡ fold f (fold f a xs) ys
fold_on f a [] ys = refl
fold_on f a (x ∷ xs) ys = fold_on f (f a x) xs ys

all_more : (its : List Iteration) (i : Iteration) → all_tokens (its ++ i ∷ []) ≡ all_tokens its ++ y_tokens i
all_more [] i = append-nil (y_tokens i)
all_more (x ∷ its) i = ap (λ t. y_tokens x ++ t) (all_more its i) ∙ sym (append_assoc (y_tokens x) (all_tokens its) (y_tokens i))

-- ---- the iterations so far

-- the first k iterations are done, leave this state, and gave this total
pub record SoakReached (g : Graphs) (number k : ℕ) (s : State) (total : Total) : Type 0 where
  pub so_far : List Iteration
  pub done : HaveIterated g (soak_streams number) k so_far s
  pub count : total.count ≡ length (all_tokens so_far)
  pub sum : total.sum ≡ sum_of (all_tokens so_far)

pub soak_starts : (g : Graphs) (number : ℕ) (s : State) → s ≡ initial g.graphs g.top → SoakReached g number 0 s record { count = 0; sum = pos 0 }
soak_starts g number s first = record { so_far = []; done = (refl, first); count = refl; sum = refl }

module _ (g : Graphs) (number k : ℕ) (s : State) (total : Total) (reached : SoakReached g number k s total) where
  pub soak_goes_on : (next : State) (i : Iteration) (more : Total) → Gives g s (rest_of k (run.top_needs g) (soak_streams number)) i next → more.count ≡ total.count + length (y_tokens i)
      → more.sum ≡ fold (λ sum token. sum +ℤ token) total.sum (y_tokens i) → SoakReached g number (k + 1) next more
  soak_goes_on next i more gives count sum =
      let its = reached.so_far in
      let n : suc k ≡ k + 1 = omega arith in
      let done : HaveIterated g (soak_streams number) (suc k) (its ++ i ∷ []) next = (its, s, i, reached.done, gives, refl) in
      let add : ℤ → ℤ → ℤ = λ sum token. sum +ℤ token in
      record {
        so_far = its ++ i ∷ [];
        done = subst (λ m. HaveIterated g (soak_streams number) m (its ++ i ∷ []) next) n done;
        count = count ∙ ap (λ c. c + length (y_tokens i)) reached.count ∙ sym (length-append (all_tokens its) (y_tokens i)) ∙ ap length (sym (all_more its i));
        sum = sum ∙ ap (λ t. fold add t (y_tokens i)) reached.sum ∙ sym (fold_on add (pos 0) (all_tokens its) (y_tokens i)) ∙ ap sum_of (sym (all_more its i));
      }

  pub soak_done : k ≡ soak_iterations number → SoakIsDone g number total
  soak_done all =
      let its = reached.so_far in
      let streams = soak_streams number in
      let left : List ℕ = map (λ (tokens : List ℤ). length tokens) (rest_of k (run.top_needs g) streams) in
      let whole : run.IsRun g streams (k + 0) (then_run its (run.ended (run.Done left))) = whole_run g streams k 0 its s (run.ended (run.Done left)) reached.done refl in
      let n : k + 0 ≡ soak_iterations number = omega arith in
      let same : its ≡ its ++ [] = sym (append-nil its) in
      record {
        left = left;
        done = record { ran = then_run its (run.ended (run.Done left)); is_run = subst (λ m. run.IsRun g streams m (then_run its (run.ended (run.Done left)))) n whole; ends = refl };
        count = reached.count ∙ ap (λ l. length (all_tokens l)) same;
        sum = reached.sum ∙ ap (λ l. sum_of (all_tokens l)) same;
      }

  abbrev nothing : Option (List ℕ)
  nothing = None

  ran_to : (end : Stop) → EndsRun g (soak_streams number) (soak_iterations number) nothing nothing 0 0 (run_end end) → EndsSoak g number (Err end)
  ran_to (stop.Short stream has needs) (r, is, ends, grows) = record { ran = r; is_run = is; ends = ends }
  ran_to (stop.Refused refusal) (r, is, ends, grows) = record { ran = r; is_run = is; ends = ends }
  ran_to stop.Memory h = tt

  pub soak_stops : (end : Stop) → k < soak_iterations number → StopsAt g s (rest_of k (run.top_needs g) (soak_streams number)) end → EndsSoak g number (Err end)
  soak_stops end lt stops =
      let written : Reached g (soak_streams number) k s nothing nothing = record { so_far = reached.so_far; done = reached.done; written = λ told e. absurd cc } in
      ran_to end (ends_at g (soak_streams number) (soak_iterations number) k s nothing nothing nothing 0 0 0 (run_end end) lt (omega arith) written (ends_by g k s (rest_of k (run.top_needs g) (soak_streams number)) nothing 0 end stops))

-- ---- what is told

-- a file that is refused refuses it
pub unread_there : (number : ℕ) (s : Status) → (is_answer s ≡ true → read_graphs soak_file ≡ Err s) → IsThere (Unit {0}) (Soaks number) (Err s)
unread_there number s h = λ t a. (refused s, subst (λ r. SoaksIn number r (refused s)) (sym (h a)) refl)

told_total : (number : ℕ) (total : Total) (tokens : List ℤ) → total.count ≡ length tokens → total.sum ≡ sum_of tokens → soak_text number tokens ≡ total_row number total
told_total number total tokens count sum = cc

module _ (g : Graphs) (number : ℕ) (is : read_graphs soak_file ≡ Ok g) where
  soaks_on : (o : Outcome) → Soaks number o → SoaksOn number g o
  soaks_on o h = subst (λ r. SoaksIn number r o) is h

  from_soaks_on : (o : Outcome) → SoaksOn number g o → Soaks number o
  from_soaks_on o h = subst (λ r. SoaksIn number r o) (sym is) h

  same_end : (end : run.RunEnd) (by : SoakEndsBy g number end) (o : Outcome) → Soaks number o → o ≡ soak_ends number g end by.ran.iterations
  same_end end by o h =
      let on = soaks_on o h in
      let same : on.0 ≡ by.ran = one_run g (soak_streams number) (soak_iterations number) on.0 by.ran on.1 by.is_run in
      on.2 ∙ ap (λ (r : run.Run). soak_ends number g r.end r.iterations) same ∙ ap (λ e. soak_ends number g e by.ran.iterations) by.ends

  ended_so : (end : run.RunEnd) (by : SoakEndsBy g number end) → Soaks number (soak_ends number g end by.ran.iterations)
  ended_so end by = from_soaks_on (soak_ends number g end by.ran.iterations) (by.ran, by.is_run, ap (λ e. soak_ends number g e by.ran.iterations) (sym by.ends))

  told_of : (end : Result Total Stop) → EndsSoak g number end → (o : Outcome) → Soaks number o → TellsSoak g number end o
  told_of (Ok total) h o s = same_end (run.Done h.left) h.done o s ∙ ap told (told_total number total (all_tokens h.done.ran.iterations) h.count h.sum)
  told_of (Err (stop.Short stream has needs)) h o s = same_end (run.Short record { stream = stream; has = has; needs = needs }) h o s
  told_of (Err (stop.Refused refusal)) h o s = same_end (run.Refused refusal) h o s
  told_of (Err stop.Memory) h o s = tt

  pub soak_works : (end : Result Total Stop) (had has : Option (List ℕ)) (b n : ℕ) (r : Result (String Global) Status) → EndsSoak g number end → Works (TellsSoak g number end) had has b n r → Works (Soaks number) had has b n r
  soak_works end had has b n r ends h = works_for (TellsSoak g number end) (Soaks number) had has b n r (told_of end ends) h

  abbrev out_of_memory : Result (String Global) Status
  out_of_memory = Err WantOfMemory

  starved_there : (r : Result (String Global) Status) → r ≡ out_of_memory → IsThere (Unit {0}) (Soaks number) r
  starved_there (Ok text) is = absurd cc
  starved_there (Err s) is = λ t a. absurd (let same : s ≡ WantOfMemory = cc in let no : is_answer WantOfMemory ≡ true = ap is_answer (sym same) ∙ a in cc)

  so_there : (r : Result (String Global) Status) → (o : Outcome) × Soaks number o → IsThere (Unit {0}) (Soaks number) r
  so_there (Ok text) h = λ t. h
  so_there (Err s) h = λ t a. h

  pub soak_there : (end : Result Total Stop) (r : Result (String Global) Status) → EndsSoak g number end → ((let e : Result Total Stop = Err stop.Memory in end ≡ e) → r ≡ out_of_memory) → IsThere (Unit {0}) (Soaks number) r
  soak_there (Ok total) r h memory = so_there r (soak_ends number g (run.Done h.left) h.done.ran.iterations, ended_so (run.Done h.left) h.done)
  soak_there (Err (stop.Short stream has needs)) r h memory = so_there r (soak_ends number g (run.Short record { stream = stream; has = has; needs = needs }) h.ran.iterations, ended_so (run.Short record { stream = stream; has = has; needs = needs }) h)
  soak_there (Err (stop.Refused refusal)) r h memory = so_there r (soak_ends number g (run.Refused refusal) h.ran.iterations, ended_so (run.Refused refusal) h)
  soak_there (Err stop.Memory) r h memory = starved_there r (memory refl)

-- ---- how it may end

pub made_lacks : (P : Refusal → Type 0) (result : Result Iteration Stop) → IfErr result (StopsOnly P) → IfErr result LacksNothing
made_lacks P (Ok iteration) h = tt
made_lacks P (Err (stop.Short stream has needs)) h = absurd h
made_lacks P (Err (stop.Refused refusal)) h = tt
made_lacks P (Err stop.Memory) h = tt

pub stop_tells : (g : Graphs) (end : Stop) (s : Status) → LacksNothing end → StopsWith g end s → IsSoakStatus s
stop_tells g (stop.Short stream has needs) s enough is = absurd enough
stop_tells g (stop.Refused refusal) s enough is = subst IsSoakStatus (sym is) tt
stop_tells g stop.Memory s enough is = subst IsSoakStatus (sym is) tt

pub put_tells : (r : Result (String Global) Status) → IfErr r (λ s. (s ≡ WantOfMemory) ⊎ (s ≡ WriteFault)) → IfErr r IsSoakStatus
put_tells (Ok text) h = tt
put_tells (Err s) (inl is) = subst IsSoakStatus (sym is) tt
put_tells (Err s) (inr is) = subst IsSoakStatus (sym is) tt
