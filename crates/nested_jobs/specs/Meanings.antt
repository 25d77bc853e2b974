-- What one thread gets, told by relations; and what rules have to keep, so that many workers get the same.
use Rattle.std.specs.Prelude.{◌≡◌, ℕ, suc, ◌<◌, Some, None}
use Rattle.nested_jobs.specs.Rules.{Task, Work, Call, Values, Rules}

-- which answers work may have, which answers a job may have with so many levels of jobs within jobs, and which jobs are
-- well made
pub record Meanings (J W A : Type 0) : Type 1 where
  pub answers : W → A → Type 0
  pub means : ℕ → J → A → Type 0
  pub fit : J → Type 0

-- an answer that a task may have, jobs that it calls having so many levels
abbrev pub MayAnswer : {J W A : Type 0} → Meanings J W A → ℕ → Task J W → A → Type 0
MayAnswer m n (Work work) a = m.answers work a
MayAnswer m n (Call job) a = m.means n job a

-- each finished item has an answer that its task may have
abbrev pub Sound : {J W A : Type 0} → Rules J W A → Meanings J W A → ℕ → J → Values A → Type 0
Sound {J} {W} {A} rs m n job v = (i : ℕ) (a : A) → v i ≡ Some a → (t : Task J W) × (rs.rule job v i ≡ Some t) × MayAnswer m n t a

-- a job of which nothing more will come: each item that has a task is finished too
pub record Settled {J W A : Type 0} (rs : Rules J W A) (m : Meanings J W A) (n : ℕ) (job : J) (v : Values A) : Type 0 where
  pub sound : Sound rs m n job v
  pub whole : (i : ℕ) (t : Task J W) → rs.rule job v i ≡ Some t → (a : A) × (v i ≡ Some a)

-- whatever is answered stays
abbrev pub Within : {A : Type 0} → Values A → Values A → Type 0
Within {A} v w = (i : ℕ) (a : A) → v i ≡ Some a → w i ≡ Some a

-- A task stays when more is finished, and is that of one of the job's items; a job that is called has a lower rank; a fresh
-- job has a task.
pub record Lawful {J W A : Type 0} (rs : Rules J W A) (rank : J → ℕ) : Type 0 where
  pub grows : (job : J) (v w : Values A) → Within v w → (i : ℕ) (t : Task J W) → rs.rule job v i ≡ Some t → rs.rule job w i ≡ Some t
  pub counts : (job : J) (v : Values A) (i : ℕ) (t : Task J W) → rs.rule job v i ≡ Some t → i < rs.count job v
  pub falls : (job : J) (v : Values A) (i : ℕ) (d : J) → rs.rule job v i ≡ Some (Call d) → rank d < rank job
  pub starts : (job : J) → (i : ℕ) × (t : Task J W) × (rs.rule job (λ _. None) i ≡ Some t)

-- A well-made job calls well-made jobs, and where nothing more will come of its items, its outcome is an answer that it may
-- have.
pub record Meant {J W A : Type 0} (rs : Rules J W A) (m : Meanings J W A) : Type 0 where
  pub calls : (n : ℕ) (job : J) (v : Values A) → m.fit job → Sound rs m n job v → (i : ℕ) (d : J) → rs.rule job v i ≡ Some (Call d) → m.fit d
  pub settles : (n : ℕ) (job : J) (v : Values A) → m.fit job → Settled rs m n job v → m.means (suc n) job (rs.outcome job v)

-- ---- the same relations, each told by elements of a type, for whoever speaks of all relations at once

-- the pairs that the elements of a type name
abbrev pub among : {X Y R : Type 0} → (R → X × Y) → X → Y → Type 0
among {X} {Y} {R} pair x y = (r : R) × (pair r ≡ (x, y))

-- each element names work with its answer, a job of so many levels with its answer, or a well-made job
pub record Tellings (J W A R M F : Type 0) : Type 0 where
  pub answered : R → W × A
  pub meant : M → ℕ × J × A
  pub made : F → J

abbrev pub told : {J W A R M F : Type 0} → Tellings J W A R M F → Meanings J W A
told {J} {W} {A} {R} {M} {F} t = record {
  answers = among t.answered;
  means = λ n job a. (m : M) × (t.meant m ≡ (n, job, a));
  fit = λ job. (f : F) × (t.made f ≡ job);
}
