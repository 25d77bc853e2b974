-- Phases of nodes before and after one is marked.
use Rattle.std.proofs.Common.{◌≡◌, ℕ, ◌<◌, ◌≤◌, ⊎_elim, List, length, set, ap}
use Rattle.std.specs.Prelude.{◌≢◌}
use Rattle.std.proofs.lemmas.Bool.{cases_lt}
use Rattle.std.proofs.lemmas.List.{get_or-set_same, get_or-set_other, get_or_past}
use Rattle.one_job.specs.Marks.{Mark, Free, mark_at, Phase, IsFree, IsClaimed, IsFinished, IsFailed, phase, phase_of}

pub inside_of : (marks : List Mark) (node : ℕ) → phase marks node ≢ IsFree → node < length marks
inside_of marks node not_free = ⊎_elim
    (λ (inside : node < length marks). inside)
    (λ (past : length marks ≤ node). absurd (not_free (ap phase_of (get_or_past marks node Free past))))
    (cases_lt node (length marks))

pub mark_there : (marks : List Mark) (node : ℕ) (mark : Mark) → node < length marks → mark_at (set marks node mark) node ≡ mark
mark_there marks node mark inside = get_or-set_same marks node mark Free inside

pub mark_elsewhere : (marks : List Mark) (node other : ℕ) (mark : Mark) → other ≢ node → mark_at (set marks node mark) other ≡ mark_at marks other
mark_elsewhere marks node other mark differs = get_or-set_other marks node other mark Free differs

pub phase_there : (marks : List Mark) (node : ℕ) (mark : Mark) → node < length marks → phase (set marks node mark) node ≡ phase_of mark
phase_there marks node mark inside = ap phase_of (mark_there marks node mark inside)

pub phase_elsewhere : (marks : List Mark) (node other : ℕ) (mark : Mark) → other ≢ node → phase (set marks node mark) other ≡ phase marks other
phase_elsewhere marks node other mark differs = ap phase_of (mark_elsewhere marks node other mark differs)

-- one phase is not another
pub finished_not_free : (p : Phase) → p ≡ IsFinished → p ≢ IsFree
finished_not_free p is free = absurd (cc)

pub claimed_not_free : (p : Phase) → p ≡ IsClaimed → p ≢ IsFree
claimed_not_free p is free = absurd (cc)

pub claimed_not_finished : (p : Phase) → p ≡ IsClaimed → p ≢ IsFinished
claimed_not_finished p is done = absurd (cc)

pub claimed_not_failed : (p : Phase) → p ≡ IsClaimed → p ≢ IsFailed
claimed_not_failed p is failed = absurd (cc)

pub free_not_finished : (p : Phase) → p ≡ IsFree → p ≢ IsFinished
free_not_finished p is done = absurd (cc)

pub free_not_failed : (p : Phase) → p ≡ IsFree → p ≢ IsFailed
free_not_failed p is failed = absurd (cc)

pub free_not_claimed : (p : Phase) → p ≡ IsFree → p ≢ IsClaimed
free_not_claimed p is claimed = absurd (cc)

pub failed_not_free : (p : Phase) → p ≡ IsFailed → p ≢ IsFree
failed_not_free p is free = absurd (cc)
