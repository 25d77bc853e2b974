-- The entries of a legal journal tell the steps.
use Rattle.std.proofs.Common.{◌≡◌, ⊎_elim, inl, ℕ, ℤ, Some, Result, Ok, Err, List, [], ◌∷◌, ◌++◌, length, refl, sym, ap, ◌∙◌, subst, arith}
use Rattle.std.proofs.lemmas.List.{length-append}
use Rattle.kernel_gate.specs.Value.{lengths}
use Rattle.sdf_level.specs.Interfaces.{last, repeated}
use Rattle.sdf_level.specs.View.{LevelView}
use Rattle.sdf_level.specs.declared.node.Node.{Node}
use Rattle.sdf_level.specs.declared.node.Node.TheVariants as node
use Rattle.special_actors.specs.Copying.{PassesOn, joined}
use Rattle.level_schedule.proofs.OneAnswer.{answers_fault, answers_schedule}
use Rattle.level_schedule.specs.Schedules.{IsScheduled, IsUnscheduled}
use Rattle.level_schedule.specs.declared.scheduling.LevelSchedule.{LevelSchedule}
use Rattle.level_schedule.specs.declared.unscheduled.Unscheduled.{Unscheduled}
use Rattle.level_schedule.specs.declared.unscheduled.Unscheduled.TheVariants.{Memory}
use Rattle.param_resolver.specs.Numbering.{acting}
use Rattle.pisdf_model.specs.declared.graph.Graph.{Graph}
use Rattle.pisdf_meaning.proofs.OneMeaning.{then_once}
use Rattle.pisdf_meaning.specs.Causes.{schedule_cause}
use Rattle.pisdf_meaning.specs.Preparing.{Schedules, level_in, rated, resolved}
use Rattle.pisdf_meaning.specs.declared.firing.Configured.{Configured}
use Rattle.pisdf_meaning.specs.declared.firing.Firing.{Firing}
use Rattle.pisdf_meaning.specs.declared.refusal.Refusal.{Refusal}
use Rattle.nested_jobs.specs.Rules as nested
use Rattle.nested_jobs.specs.Rules.{Place}
use Rattle.nested_jobs.specs.Marks.{Open}
use Rattle.nested_jobs.specs.Journals as steps
use Rattle.nested_jobs.specs.Journals.{Allowed, LegalFrom, MayFinish, after, start, task_of}
use Rattle.nested_jobs.specs.Steps.{claimed}
use Rattle.nested_jobs.proofs.Appending.{legal-snoc, state-snoc}
use Rattle.nested_jobs.proofs.Nesting.{claimed_nested, of_busy}
use Rattle.job_rules.specs.Doing.{Answers, IsCompiled, IsCopied, LeadsToSchedule, scheduled}
use Rattle.job_rules.specs.Items.{graph_of}
use Rattle.job_rules.specs.Meant.{rank}
use Rattle.job_rules.specs.Words as words
use Rattle.job_rules.specs.Words.{Answer, Compiles, Copies as CopiesOn, Fires, Work, given_outs}
use Rattle.board_rules.specs.Keys.{IsKey, Key, rules, top_job}
use Rattle.board_rules.specs.Entries.{BoardState, Step, claim_in, entry_of, item_of}
use Rattle.board_rules.specs.Legal.{AreLegal, ArePickedFrom, IsPicked, entries_from, state_after}
use Rattle.board_rules.specs.declared.entry.Entry.{Entry}
use Rattle.board_rules.specs.declared.entry.Entry.TheVariants.{Claim, Finish}
use Rattle.board_rules.proofs.Choosing.{pick_once}
use Rattle.board_rules.proofs.Known.{BoardLaws, Known, known}

-- ---- work has at most one answer

-- lists of the same lengths with the same tokens
cut : {T : Type 0} (xs ys us vs : List T) → length xs ≡ length ys → xs ++ us ≡ ys ++ vs → (xs ≡ ys) × (us ≡ vs)
cut [] [] us vs long same = (refl, same)
cut [] (y ∷ ys) us vs long same = absurd (omega arith)
cut (x ∷ xs) [] us vs long same = absurd (omega arith)
cut (x ∷ xs) (y ∷ ys) us vs long same =
    let head : x ≡ y = cc in
    let tail : xs ++ us ≡ ys ++ vs = cc in
    let rest = cut xs ys us vs (omega arith) tail in
    let more = rest.0 in
    (λ i. head i ∷ more i, rest.1)

lists_once : (xs ys : List (List ℤ)) → lengths xs ≡ lengths ys → joined xs ≡ joined ys → xs ≡ ys
lists_once [] [] long same = refl
lists_once [] (y ∷ ys) long same = absurd (let l = ap (λ (z : List ℕ). length z) long in omega arith)
lists_once (x ∷ xs) [] long same = absurd (let l = ap (λ (z : List ℕ). length z) long in omega arith)
lists_once (x ∷ xs) (y ∷ ys) long same =
    let first : length x ≡ length y = cc in
    let others : lengths xs ≡ lengths ys = cc in
    let t = cut x y (joined xs) (joined ys) first same in
    let head = t.0 in
    let rest = lists_once xs ys others t.1 in
    λ i. head i ∷ rest i

joined_long : (xs ys : List (List ℤ)) → lengths xs ≡ lengths ys → length (joined xs) ≡ length (joined ys)
joined_long [] [] long = refl
joined_long [] (y ∷ ys) long = absurd (let l = ap (λ (z : List ℕ). length z) long in omega arith)
joined_long (x ∷ xs) [] long = absurd (let l = ap (λ (z : List ℕ). length z) long in omega arith)
joined_long (x ∷ xs) (y ∷ ys) long =
    let first : length x ≡ length y = cc in
    let others : lengths xs ≡ lengths ys = cc in
    let rest = joined_long xs ys others in
    let one = length-append x (joined xs) in
    let other = length-append y (joined ys) in
    omega arith

passed_once : (n : Node) (ins outs others : List ℤ) → length outs ≡ length others → PassesOn n ins outs → PassesOn n ins others → outs ≡ others
passed_once (node.Source s) ins outs others long one other = one ∙ sym other
passed_once (node.Init l) ins outs others long one other = one ∙ sym other
passed_once (node.Firing a k) ins outs others long one other = absurd one
passed_once (node.Broadcast l) ins outs others long one other = one ∙ (ap (repeated ins 0) long ∙ sym other)
passed_once (node.Fork l i) ins outs others long one other = one ∙ sym other
passed_once (node.Join l j) ins outs others long one other = one ∙ sym other
passed_once (node.Round l) ins outs others long one other = one ∙ (ap (λ (n : ℕ). last n ins) long ∙ sym other)
passed_once (node.End l) ins outs others long one other = one ∙ sym other
passed_once (node.Sink t) ins outs others long one other = one ∙ sym other

copied_once : (n : Node) (inputs : List (List ℤ)) (lens : List ℕ) (a b : Answer) → IsCopied n inputs lens a → IsCopied n inputs lens b → a ≡ b
copied_once n inputs lens a b one other =
    let long : lengths one.outs ≡ lengths other.outs = one.fitting ∙ sym other.fitting in
    let tokens = passed_once n (joined inputs) (joined one.outs) (joined other.outs) (joined_long one.outs other.outs long) one.passed other.passed in
    one.answer_is ∙ (ap (λ (o : List (List ℤ)). words.Gives (given_outs o)) (lists_once one.outs other.outs long tokens) ∙ sym other.answer_is)

abbrev as_scheduled : LevelSchedule → Result LevelSchedule Unscheduled
as_scheduled s = Ok s

abbrev as_fault : Unscheduled → Result LevelSchedule Unscheduled
as_fault fault = Err fault

no_fault : (level : LevelView) (s : LevelSchedule) (fault : Unscheduled) → IsScheduled level s → IsUnscheduled level fault → ⊥
no_fault level s fault one other = ⊎_elim (λ (e : as_scheduled s ≡ as_fault fault). cc) (λ (e : as_scheduled s ≡ as_fault Memory). cc) (answers_fault level (as_scheduled s) one tt fault other)

one_fault : (level : LevelView) (a b : Unscheduled) → IsUnscheduled level a → IsUnscheduled level b → a ≡ b
one_fault level a b one other = ⊎_elim
    (λ (e : as_fault a ≡ as_fault b). cc)
    (λ (e : as_fault a ≡ as_fault Memory). let m : a ≡ Memory = cc in absurd (subst (IsUnscheduled level) m one))
    (answers_fault level (as_fault a) tt (inl one) b other)

schedules_once : (g : Graph) (firing : Firing) (level : LevelView) (a b : Result LevelSchedule Refusal) → Schedules g firing level a → Schedules g firing level b → a ≡ b
schedules_once g firing level (Ok s) (Ok r) one other = ⊎_elim (λ (e : as_scheduled s ≡ as_scheduled r). let same : s ≡ r = cc in ap Ok same) (λ (e : as_scheduled s ≡ as_fault Memory). absurd (cc)) (answers_schedule level (as_scheduled s) one tt r other)
schedules_once g firing level (Ok s) (Err refusal) one other = absurd (no_fault level s other.0 one other.1)
schedules_once g firing level (Err refusal) (Ok r) one other = absurd (no_fault level r one.0 other one.1)
schedules_once g firing level (Err refusal) (Err again) one other =
    let same = one_fault level one.0 other.0 one.1 other.1 in
    ap Err (one.2 ∙ ap (λ (fault : Unscheduled). record { path = firing.path; cause = schedule_cause (acting g) fault }) same ∙ sym other.2)

leads_once : (graphs : List Graph) (g : Graph) (firing : Firing) (left : List Configured) (a b : Result LevelSchedule Refusal) → LeadsToSchedule graphs g firing left a → LeadsToSchedule graphs g firing left b → a ≡ b
leads_once graphs g firing left a b one other =
    then_once _ (λ values x y p q. then_once _ (λ rates u v r s. schedules_once g firing (level_in graphs g firing rates) u v r s) (rated graphs g firing values) x y p q) (resolved graphs g firing left) a b one other

compiled_once : (graphs : List Graph) (firing : Firing) (left : List Configured) (a b : Answer) → IsCompiled graphs firing left a → IsCompiled graphs firing left b → a ≡ b
compiled_once graphs firing left a b one other =
    let graph : other.g ≡ one.g = let e : Some other.g ≡ Some one.g = sym other.here ∙ one.here in cc in
    let moved : LeadsToSchedule graphs one.g firing left other.end = subst (λ (x : Graph). LeadsToSchedule graphs x firing left other.end) graph other.leads in
    one.answer_is ∙ (ap scheduled (leads_once graphs one.g firing left one.end other.end one.leads moved) ∙ sym other.answer_is)

pub answers_once : (graphs : List Graph) (work : Work) (a b : Answer) → Answers graphs work a → Answers graphs work b → a ≡ b
answers_once graphs (Fires spot asked) a b one other = one ∙ sym other
answers_once graphs (CopiesOn n inputs lens) a b one other = copied_once n inputs lens a b one other
answers_once graphs (Compiles firing left) a b one other = compiled_once graphs firing left a b one other

-- ---- the entries of one step

module _ (key : Key) (is : IsKey key) (laws : BoardLaws key) where
  abbrev G : List Graph
  G = key.graphs.graphs

  abbrev MayStep : BoardState → Step → Type 0
  MayStep s e = Allowed (rules key) (Answers G) key.workers s e × IsPicked key s e

  -- the only entry of a step
  abbrev OneEntry : BoardState → Step → Type 0
  OneEntry s e = (x : Entry) × (entry_of key s e ≡ x ∷ [])

  claim_open : (s : BoardState) (w i : ℕ) (p : Place) → Known key s.marks → MayStep s (steps.Claim w (i ∷ p)) → (job : Firing) × (claimed (rules key) s.marks (i ∷ p) p ≡ Open job)
  claim_open s w i p known may =
      let nested = claimed_nested (rules key) (rank G) laws.lawful (top_job key) s.marks (i ∷ p) known.nested in
      let busy = of_busy (rules key) (rank G) laws.lawful (top_job key) (claimed (rules key) s.marks (i ∷ p)) i p nested may.0.enabled.1 in
      (busy.1.job, busy.1.is_open)

  abbrev claim_entry : ℕ → ℕ → Firing → Entry
  claim_entry w i job = Claim w job.path (item_of (graph_of G job) i)

  claim_entry_is : (s : BoardState) (w i : ℕ) (p : Place) (job : Firing) → claimed (rules key) s.marks (i ∷ p) p ≡ Open job → entry_of key s (steps.Claim w (i ∷ p)) ≡ claim_entry w i job ∷ []
  claim_entry_is s w i p job o = ap (claim_in key w i) o

  one_entry : (s : BoardState) (e : Step) → Known key s.marks → MayStep s e → OneEntry s e
  one_entry s (steps.Claim w []) known may = absurd may.1
  one_entry s (steps.Claim w (i ∷ p)) known may = let o = claim_open s w i p known may in (claim_entry w i o.0, claim_entry_is s w i p o.0 o.1)
  one_entry s (steps.Finish w answer) known may = (Finish w, refl)

  -- it tells the step
  step_once : (s : BoardState) (e f : Step) → Known key s.marks → MayStep s e → MayStep s f → (x y : Entry) → entry_of key s e ≡ x ∷ [] → entry_of key s f ≡ y ∷ [] → x ≡ y → e ≡ f
  step_once s (steps.Claim w []) f known may may' x y x_is y_is same = absurd may.1
  step_once s (steps.Claim w (i ∷ p)) (steps.Claim v []) known may may' x y x_is y_is same = absurd may'.1
  step_once s (steps.Claim w (i ∷ p)) (steps.Claim v (j ∷ q)) known may may' x y x_is y_is same =
      let one = claim_open s w i p known may in
      let other = claim_open s v j q known may' in
      let entries : claim_entry w i one.0 ∷ [] ≡ claim_entry v j other.0 ∷ [] = sym (claim_entry_is s w i p one.0 one.1) ∙ (x_is ∙ (ap (λ (z : Entry). z ∷ []) same ∙ (sym y_is ∙ claim_entry_is s v j q other.0 other.1))) in
      let worker : w ≡ v = cc in
      let place : i ∷ p ≡ j ∷ q = pick_once key is laws s.marks known v i j p q (subst (λ (z : ℕ). IsPicked key s (steps.Claim z (i ∷ p))) worker may.1) may'.1 in
      ap (λ (z : ℕ). steps.Claim z (i ∷ p)) worker ∙ ap (steps.Claim v) place
  step_once s (steps.Claim w (i ∷ p)) (steps.Finish v answer) known may may' x y x_is y_is same =
      let one = claim_open s w i p known may in
      let entries : claim_entry w i one.0 ∷ [] ≡ Finish v ∷ [] = sym (claim_entry_is s w i p one.0 one.1) ∙ (x_is ∙ (ap (λ (z : Entry). z ∷ []) same ∙ sym y_is)) in
      absurd (cc)
  step_once s (steps.Finish w answer) (steps.Claim v []) known may may' x y x_is y_is same = absurd may'.1
  step_once s (steps.Finish w answer) (steps.Claim v (j ∷ q)) known may may' x y x_is y_is same =
      let other = claim_open s v j q known may' in
      let entries : Finish w ∷ [] ≡ claim_entry v j other.0 ∷ [] = x_is ∙ (ap (λ (z : Entry). z ∷ []) same ∙ (sym y_is ∙ claim_entry_is s v j q other.0 other.1)) in
      absurd (cc)
  step_once s (steps.Finish w answer) (steps.Finish v answer') known may may' x y x_is y_is same =
      let entries : Finish w ∷ [] ≡ Finish v ∷ [] = x_is ∙ (ap (λ (z : Entry). z ∷ []) same ∙ sym y_is) in
      let worker : w ≡ v = cc in
      let one = may.0 in
      let other = may'.0 in
      let place : Some one.place ≡ Some other.place = sym one.runs ∙ (ap s.running worker ∙ other.runs) in
      let same_place : one.place ≡ other.place = cc in
      let task : Some (nested.Work one.work) ≡ Some (nested.Work other.work) = sym one.is_work ∙ (ap (task_of (rules key) s.marks) same_place ∙ other.is_work) in
      let work : other.work ≡ one.work = cc in
      let answers : answer ≡ answer' = answers_once G one.work answer answer' one.answered (subst (λ (z : Work). Answers G z answer') work other.answered) in
      ap (λ (z : ℕ). steps.Finish z answer) worker ∙ ap (steps.Finish v) answers

  -- ---- and so on

  picked_snoc : (s : BoardState) (es : List Step) (e : Step) → ArePickedFrom key s es → IsPicked key (steps.state_from (rules key) s es) e → ArePickedFrom key s (es ++ e ∷ [])
  picked_snoc s [] e picked one = (one, tt)
  picked_snoc s (x ∷ es) e picked one = (picked.0, picked_snoc (after (rules key) s x) es e picked.1 one)

  pub one_more : (before : List Step) (e : Step) → AreLegal key before → MayStep (state_after key before) e → AreLegal key (before ++ e ∷ [])
  one_more before e legal may = record {
    allowed = legal-snoc (rules key) (Answers G) key.workers (start (top_job key)) before e legal.allowed may.0;
    picked = picked_snoc (start (top_job key)) before e legal.picked may.1;
  }

  abbrev Rest : BoardState → List Step → Type 0
  Rest s es = LegalFrom (rules key) (Answers G) key.workers s es × ArePickedFrom key s es

  steps_once : (before rest others : List Step) (s : BoardState) → state_after key before ≡ s → AreLegal key before → Rest s rest → Rest s others → entries_from key s rest ≡ entries_from key s others → rest ≡ others
  steps_once before [] [] s s_is legal one other same = refl
  steps_once before [] (f ∷ others) s s_is legal one other same =
      let so : Known key s.marks = subst (λ (z : BoardState). Known key z.marks) s_is (known key is laws before legal) in
      let y = one_entry s f so (other.0.0, other.1.0) in
      let no : [] ≡ y.0 ∷ entries_from key (after (rules key) s f) others = same ∙ ap (λ (z : List Entry). z ++ entries_from key (after (rules key) s f) others) y.1 in
      absurd (cc)
  steps_once before (e ∷ rest) [] s s_is legal one other same =
      let so : Known key s.marks = subst (λ (z : BoardState). Known key z.marks) s_is (known key is laws before legal) in
      let x = one_entry s e so (one.0.0, one.1.0) in
      let no : x.0 ∷ entries_from key (after (rules key) s e) rest ≡ [] = sym (ap (λ (z : List Entry). z ++ entries_from key (after (rules key) s e) rest) x.1) ∙ same in
      absurd (cc)
  steps_once before (e ∷ rest) (f ∷ others) s s_is legal one other same =
      let so : Known key s.marks = subst (λ (z : BoardState). Known key z.marks) s_is (known key is laws before legal) in
      let may : MayStep s e = (one.0.0, one.1.0) in
      let may' : MayStep s f = (other.0.0, other.1.0) in
      let x = one_entry s e so may in
      let y = one_entry s f so may' in
      let all : x.0 ∷ entries_from key (after (rules key) s e) rest ≡ y.0 ∷ entries_from key (after (rules key) s f) others =
      sym (ap (λ (z : List Entry). z ++ entries_from key (after (rules key) s e) rest) x.1) ∙ (same ∙ ap (λ (z : List Entry). z ++ entries_from key (after (rules key) s f) others) y.1) in
      let first : x.0 ≡ y.0 = cc in
      let later : entries_from key (after (rules key) s e) rest ≡ entries_from key (after (rules key) s f) others = cc in
      let step : e ≡ f = step_once s e f so may may' x.0 y.0 x.1 y.1 first in
      let moved : Rest (after (rules key) s e) others = subst (λ (z : Step). Rest (after (rules key) s z) others) (sym step) (other.0.1, other.1.1) in
      let later' : entries_from key (after (rules key) s e) rest ≡ entries_from key (after (rules key) s e) others = later ∙ ap (λ (z : Step). entries_from key (after (rules key) s z) others) (sym step) in
      let here : MayStep (state_after key before) e = subst (λ (z : BoardState). MayStep z e) (sym s_is) may in
      let next : state_after key (before ++ e ∷ []) ≡ after (rules key) s e = state-snoc (rules key) (start (top_job key)) before e ∙ ap (λ (z : BoardState). after (rules key) z e) s_is in
      let tail : rest ≡ others = steps_once (before ++ e ∷ []) rest others (after (rules key) s e) next (one_more before e legal here) (one.0.1, one.1.1) moved later' in
      λ i. step i ∷ tail i

  pub journal_once : (taken others : List Step) → AreLegal key taken → AreLegal key others → entries_from key (start (top_job key)) taken ≡ entries_from key (start (top_job key)) others → taken ≡ others
  journal_once taken others one other same =
      steps_once [] taken others (start (top_job key)) refl record { allowed = tt; picked = tt } (one.allowed, one.picked) (other.allowed, other.picked) same
