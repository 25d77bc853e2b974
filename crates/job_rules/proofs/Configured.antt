-- What the configuration actors of a job leave, one after the other.
use Rattle.std.proofs.Common.{◌≡◌, ℕ, suc, ◌+◌, List, [], ◌∷◌, length, slice_get, Option, Some, None, Result, Ok, Err, refl, sym, ap, ◌∙◌, subst, arith}
use Rattle.kernel_gate.specs.Value as kernel
use Rattle.pisdf_model.specs.declared.actor.Body.{Body}
use Rattle.pisdf_model.specs.declared.actor.Body.TheVariants.{Kernel, Config, Child, ConfigChild}
use Rattle.pisdf_model.specs.declared.graph.Graph.{Graph}
use Rattle.pisdf_meaning.specs.Configuring.{Configuration, LeaveAll, Leaves, child_leaves, config_answer, config_args, config_firing, config_rates, fed_to, kernel_leaves, with_first}
use Rattle.pisdf_meaning.specs.Endings.{End}
use Rattle.pisdf_meaning.specs.Meaning.{MeansWithin}
use Rattle.pisdf_meaning.specs.declared.firing.Configured.{Configured}
use Rattle.pisdf_meaning.specs.declared.firing.Firing.{Firing}
use Rattle.pisdf_meaning.specs.declared.refusal.Refusal.{Refusal}
use Rattle.nested_jobs.specs.Rules.{Task, Work, Call, Values}
use Rattle.nested_jobs.specs.Meanings.{MayAnswer}
use Rattle.job_rules.specs.Words as words
use Rattle.job_rules.specs.Words.{Answer, Gives, Schedules, Refuses, Asked, Spot, answer_of, fired, given_outs, left_of}
use Rattle.job_rules.specs.Items.{config_task, first_refusal, left_from, leaves, refusal_or}
use Rattle.job_rules.specs.Meant.{meanings}

-- what a configuration actor left that has this answer, which is none of a compilation
abbrev pub came_to : Answer → Result Configured Refusal
came_to (Gives given) = Ok (left_of given)
came_to (Schedules schedule) = Ok (left_of (given_outs []))
came_to (Refuses refusal) = Err refusal

abbrev pub IsOfActor : Answer → Type 0
IsOfActor (Gives given) = Unit {0}
IsOfActor (Schedules schedule) = ⊥
IsOfActor (Refuses refusal) = Unit {0}

pub fired_is : (spot : Spot) (answer : kernel.Answer) → IsOfActor (fired spot answer)
fired_is spot (kernel.Gives outs sets) = tt
fired_is spot (kernel.Faults code) = tt

pub ended_is : (end : End) → IsOfActor (answer_of end)
ended_is (Ok given) = tt
ended_is (Err refusal) = tt

kernel_came : (path name : List ℕ) (answer : kernel.Answer) → came_to (fired record { path = path; name = name; turn = 0 } answer) ≡ kernel_leaves path name answer
kernel_came path name (kernel.Gives outs sets) = refl
kernel_came path name (kernel.Faults code) = refl

child_came : (end : End) → came_to (answer_of end) ≡ child_leaves end
child_came (Ok given) = refl
child_came (Err refusal) = refl

module _ (graphs : List Graph) (n : ℕ) (g : Graph) (firing : Firing) where
  -- what it leaves, where its answer is such
  pub config_leaves : (c : Configuration) (body : Body) (t : Task Firing words.Work) (a : Answer) → config_task graphs g firing c body ≡ Some t → MayAnswer (meanings graphs) n t a →
      IsOfActor a × Leaves graphs (MeansWithin n graphs) g firing c body (came_to a)
  config_leaves c (Kernel kernel args ins outs) t a is may = absurd (cc)
  config_leaves c (Child place args) t a is may = absurd (cc)
  config_leaves c (Config kernel args ins outs sets) t a is may =
      let spot : Spot = record { path = firing.path; name = c.name; turn = 0 } in
      let asked : Asked = record { kind = kernel; args = config_args graphs firing c.number; inputs = fed_to g firing.inputs c.place (length ins); lens = config_rates graphs firing c.number; sets = length sets } in
      let same : t ≡ Work (words.Fires spot asked) = cc in
      let P : Task Firing words.Work → Type 0 = λ x. MayAnswer (meanings graphs) n x a in
      let e = subst P same may in
      let answer = config_answer graphs g firing c kernel (length ins) (length sets) in
      (subst IsOfActor (sym e) (fired_is spot answer), ap came_to e ∙ kernel_came firing.path c.name answer)
  config_leaves c (ConfigChild place args sets) t a is may =
      let same : t ≡ Call (config_firing graphs g firing c place) = cc in
      let P : Task Firing words.Work → Type 0 = λ x. MayAnswer (meanings graphs) n x a in
      let ends = subst P same may in
      (subst IsOfActor (sym ends.answer_is) (ended_is ends.end), (ends.end, ends.means, ap came_to ends.answer_is ∙ child_came ends.end))

  -- ---- those that left something

  module _ (v : Values Answer) where
    -- this configuration actor has an answer, and leaves what it says
    abbrev pub Came : ℕ → Configuration → Answer → Type 0
    Came i c a = (v i ≡ Some a) × IsOfActor a × Leaves graphs (MeansWithin n graphs) g firing c c.body (came_to a)

    -- what is left, and where the first refusal stands
    abbrev pub Tells : ℕ → List Configuration → Result (List Configured) Refusal → Type 0
    Tells i cs (Ok left) = (left_from v i cs ≡ Some left) × ((m : ℕ) → first_refusal v i (length cs + m) ≡ first_refusal v (i + length cs) m)
    Tells i cs (Err refusal) = (left_from v i cs ≡ None) × ((m : ℕ) → first_refusal v i (length cs + m) ≡ Some refusal)

    pub record Walked (i : ℕ) (cs : List Configuration) : Type 0 where
      pub all : Result (List Configured) Refusal
      pub leave : LeaveAll graphs (MeansWithin n graphs) g firing cs all
      pub tells : Tells i cs all

    past : (i m : ℕ) (c : Configuration) (cs : List Configuration) → first_refusal v i (length (c ∷ cs) + m) ≡ refusal_or (v i) (first_refusal v (i + 1) (length cs + m))
    past i m c cs = let e : length (c ∷ cs) + m ≡ suc (length cs + m) = omega arith in rw e refl

    gave : (i : ℕ) (c : Configuration) (cs : List Configuration) (given : words.Answer) (one : Configured) → v i ≡ Some given → leaves (Some given) ≡ Some one → ((later : Option Refusal) → refusal_or (Some given) later ≡ later) → (r : Result (List Configured) Refusal) → Tells (i + 1) cs r → Tells i (c ∷ cs) (with_first one r)
    gave i c cs given one is leaving passes (Ok left) told = (
      rw (is, leaving, told.0) refl,
      (λ m. past i m c cs ∙ rw is (passes (first_refusal v (i + 1) (length cs + m)) ∙ told.1 m ∙ ap (λ k. first_refusal v k m) (let e : i + 1 + length cs ≡ i + length (c ∷ cs) = omega arith in e))),
    )
    gave i c cs given one is leaving passes (Err refusal) told = (
      rw (is, leaving, told.0) refl,
      (λ m. past i m c cs ∙ rw is (passes (first_refusal v (i + 1) (length cs + m)) ∙ told.1 m)),
    )

    walk_on : (i : ℕ) (c : Configuration) (cs : List Configuration) (a : Answer) → Came i c a → Walked (i + 1) cs → Walked i (c ∷ cs)
    walk_on i c cs (Gives given) came rest = record {
      all = with_first (left_of given) rest.all;
      leave = (Ok (left_of given), came.2, (rest.all, rest.leave, refl));
      tells = gave i c cs (Gives given) (left_of given) came.0 refl (λ later. refl) rest.all rest.tells;
    }
    walk_on i c cs (Schedules schedule) came rest = absurd came.1
    walk_on i c cs (Refuses refusal) came rest = record {
      all = Err refusal;
      leave = (Err refusal, came.2, refl);
      tells = (rw came.0 refl, λ m. past i m c cs ∙ rw came.0 refl);
    }

    pub walk : (i : ℕ) (cs : List Configuration) → ((j : ℕ) (c : Configuration) → slice_get cs j ≡ Some c → (a : Answer) × Came (i + j) c a) → Walked i cs
    walk i [] each = record { all = Ok []; leave = refl; tells = (refl, λ m. let e : 0 + m ≡ m = omega arith in let f : i + 0 ≡ i = omega arith in rw (e, f) refl) }
    walk i (c ∷ cs) each =
        let first = each 0 c refl in
        let zeroth : i + 0 ≡ i = omega arith in
        let P : ℕ → Type 0 = λ k. Came k c first.0 in
        let here : P i = subst P zeroth first.1 in
        walk_on i c cs first.0 here (walk (i + 1) cs (λ j d is. let e : i + suc j ≡ i + 1 + j = omega arith in let Q : ℕ → Type 0 = λ k. (a : Answer) × Came k d a in subst Q e (each (suc j) d is)))
