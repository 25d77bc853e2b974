-- The first at home, or else the first of all, goes before all that are in.
use Rattle.std.proofs.Common.{◌≡◌, ℕ, ◌<◌, ◌≤◌, inl, inr, ⊎_elim, List, slice_index, refl, sym, ◌∙◌, arith}
use Rattle.std.specs.Prelude.{◌≢◌, Option, Some, None}
use Rattle.std.proofs.lemmas.Bool.{cases_lt, cases_eq, eq-eqb, ne_eqb}
use Rattle.ready_heap.specs.Heaps.{Holds}
use Rattle.ready_heap.specs.Groups.{HeapsView, IsIn, IsLeastOf}
use Rattle.worker_mapping.specs.Schedule.{GoesFirst}
use Rattle.worker_mapping.specs.declared.mapping.Mapping.{Mapping}
use Rattle.job_compiler.specs.Ranked.{IsKey}
use Rattle.one_job.specs.Pick.{IsFirst, away}
use Rattle.one_job.specs.Ready.{AreRanked}
use Rattle.one_job.specs.Alike.{IsLeast}

-- the lesser key goes first
keys_order : (priority : List ℕ) (n m one two : ℕ) → IsKey (slice_index priority n) n one → IsKey (slice_index priority m) m two → n < 4294967296 → m < 4294967296 → one ≤ two → GoesFirst priority n m
keys_order priority n m one two key other n_in m_in below =
    let first = key.sum in
    let second = other.sum in
    ⊎_elim
    (λ (less : slice_index priority m < slice_index priority n). inl less)
    (λ (most : slice_index priority n ≤ slice_index priority m).
    let same : slice_index priority m ≡ slice_index priority n = omega arith in inr (same, omega arith))
    (cases_lt (slice_index priority m) (slice_index priority n))

module _ (mapping : Mapping) (heaps : HeapsView) (ranked : AreRanked mapping heaps) (worker : ℕ) where
  by_key : (n m : ℕ) → Holds heaps.held n → Holds heaps.held m → slice_index heaps.keys n ≤ slice_index heaps.keys m → GoesFirst mapping.priority n m
  by_key n m n_in m_in below =
      let one = ranked n n_in in
      let two = ranked m m_in in
      keys_order mapping.priority n m (slice_index heaps.keys n) (slice_index heaps.keys m) one.key two.key one.narrow two.narrow below

  at_home : (n : ℕ) → slice_index mapping.home n ≡ worker → away mapping worker n ≡ 0
  at_home n same = rw (eq-eqb (slice_index mapping.home n) worker same) refl

  not_at_home : (n : ℕ) → slice_index mapping.home n ≢ worker → away mapping worker n ≡ 1
  not_at_home n differs = rw (ne_eqb (slice_index mapping.home n) worker differs) refl

  home_of : (n : ℕ) → IsIn heaps worker n → slice_index mapping.home n ≡ worker
  home_of n is = sym (ranked n is.held).group ∙ is.group_is

  is_at_home : (n : ℕ) → Holds heaps.held n → slice_index mapping.home n ≡ worker → IsIn heaps worker n
  is_at_home n held home = record { held = held; group_is = (ranked n held).group ∙ home }

  -- the first at home
  pub home_first : (n : ℕ) → IsLeastOf heaps worker (Some n) → IsFirst mapping worker (Holds heaps.held) (Some n)
  home_first n least =
      let here = at_home n (home_of n least.0) in (
        least.0.held,
        λ m held. ⊎_elim
            (λ (same : slice_index mapping.home m ≡ worker).
            inr (here ∙ sym (at_home m same), by_key n m least.0.held held (least.1 m (is_at_home m held same))))
            (λ (differs : slice_index mapping.home m ≢ worker).
            inl (let there = not_at_home m differs in omega arith))
            (cases_eq (slice_index mapping.home m) worker),
      )

  -- the first of all, where none is at home
  pub all_first : (first : Option ℕ) → IsLeastOf heaps worker None → IsLeast heaps first → IsFirst mapping worker (Holds heaps.held) first
  all_first None none least = least
  all_first (Some n) none least =
      let away_is = λ (m : ℕ) (held : Holds heaps.held m). not_at_home m (λ home. none m (is_at_home m held home)) in (
        least.0,
        λ m held. inr (away_is n least.0 ∙ sym (away_is m held), by_key n m least.0 held (least.1 m held)),
      )

-- the same are on offer
pub first_same : (mapping : Mapping) (worker : ℕ) (Old New : ℕ → Type 0) (best : Option ℕ) → ((n : ℕ) → Old n → New n) → ((n : ℕ) → New n → Old n) → IsFirst mapping worker Old best → IsFirst mapping worker New best
first_same mapping worker Old New None more less is = λ n offered. is n (less n offered)
first_same mapping worker Old New (Some b) more less is = (more b is.0, λ n offered. is.1 n (less n offered))
