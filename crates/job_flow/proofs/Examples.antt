-- Jobs of small levels, evaluated.
use Rattle.std.proofs.Common.{◌≡◌, ℕ, zero, suc, List, [], ◌∷◌, ◌++◌, Some, None, Ok, Err, refl, ◌<◌, slice_index_or, Result, sym, ◌∙◌, subst, arith}
use Rattle.std.specs.List.{AllByRecursion, sum as total}
use Rattle.sdf_level.specs.Run.{Fire}
use Rattle.sdf_level.specs.View.{LevelView}
use Rattle.sdf_level.specs.Firings.{turns_of}
use Rattle.sdf_level.proofs.ExampleLevels.{pairs, cycle, silent}
use Rattle.single_rate.specs.Expanded.{nodes, edges}
use Rattle.job_flow.specs.Graphs.{JobGraph}
use Rattle.job_flow.specs.Frames.{Values, inputs, in_lens, lens}
use Rattle.job_flow.specs.Events.{IsDone, IsFinished, Answers, IsAnswered, AreAnswered, Settled}
use Rattle.job_flow.specs.Outcomes.{failure, outcome}

abbrev job_of : LevelView → List ℕ → List ℕ → List (List ℕ) → List (List ℕ) → JobGraph ℕ
job_of level q order sources delays = record { level = level; nodes = nodes level q (turns_of order); edges = edges level q (turns_of order); sources = sources; delays = delays }

-- the outputs of the first nodes
abbrev done : List (List (List ℕ)) → Values ℕ ℕ
done [] n = None
done (outs ∷ more) zero = Some (Ok outs)
done (outs ∷ more) (suc n) = done more n

abbrev inputs_below : JobGraph ℕ → Values ℕ ℕ → ℕ → List (List (List ℕ))
inputs_below job v zero = []
inputs_below job v (suc n) = inputs_below job v n ++ inputs job v n ∷ []

abbrev lens_below : JobGraph ℕ → ℕ → List (List ℕ)
lens_below job zero = []
lens_below job (suc n) = lens_below job n ++ lens job n ∷ []

abbrev in_lens_below : JobGraph ℕ → ℕ → List (List ℕ)
in_lens_below job zero = []
in_lens_below job (suc n) = in_lens_below job n ++ in_lens job n ∷ []

-- two sums of two tokens: a Source, two firings, a Fork, a Join, a Sink
abbrev sums : JobGraph ℕ
sums = job_of pairs (2 ∷ []) (0 ∷ 0 ∷ []) ((1 ∷ 2 ∷ 3 ∷ 4 ∷ []) ∷ []) ([] ∷ [] ∷ [])

abbrev sums_done : Values ℕ ℕ
sums_done = done (((1 ∷ 2 ∷ 3 ∷ 4 ∷ []) ∷ []) ∷ ((3 ∷ []) ∷ []) ∷ ((7 ∷ []) ∷ []) ∷ ((1 ∷ 2 ∷ []) ∷ (3 ∷ 4 ∷ []) ∷ []) ∷ ((3 ∷ 7 ∷ []) ∷ []) ∷ ((3 ∷ 7 ∷ []) ∷ []) ∷ [])

sums_inputs : inputs_below sums sums_done 6 ≡ ((1 ∷ 2 ∷ 3 ∷ 4 ∷ []) ∷ []) ∷ ((1 ∷ 2 ∷ []) ∷ []) ∷ ((3 ∷ 4 ∷ []) ∷ []) ∷ ((1 ∷ 2 ∷ 3 ∷ 4 ∷ []) ∷ []) ∷ ((3 ∷ []) ∷ (7 ∷ []) ∷ []) ∷ ((3 ∷ 7 ∷ []) ∷ []) ∷ []
sums_inputs = refl

sums_in_lens : in_lens_below sums 6 ≡ (4 ∷ []) ∷ (2 ∷ []) ∷ (2 ∷ []) ∷ (4 ∷ []) ∷ (1 ∷ 1 ∷ []) ∷ (2 ∷ []) ∷ []
sums_in_lens = refl

sums_lens : lens_below sums 6 ≡ (4 ∷ []) ∷ (1 ∷ []) ∷ (1 ∷ []) ∷ (2 ∷ 2 ∷ []) ∷ (2 ∷ []) ∷ (2 ∷ []) ∷ []
sums_lens = refl

sums_outcome : outcome sums sums_done ≡ Ok record { outs = (3 ∷ 7 ∷ []) ∷ []; left = [] ∷ [] ∷ [] }
sums_outcome = refl

-- each firing answers with the sum of what it reads
abbrev adds : Fire ℕ ℕ
adds b k ins answer = answer ≡ Ok ((total (slice_index_or ins 0 []) ∷ []) ∷ [])

sums_before : (n : ℕ) → AllByRecursion (λ e. e.head ≡ n → IsDone (sums_done e.tail)) sums.edges
sums_before n = ((λ h. tt), ((λ h. tt), ((λ h. tt), ((λ h. tt), ((λ h. tt), ((λ h. tt), tt))))))

sums_answered : (n : ℕ) (outs : List (List ℕ)) → n < 6 → sums_done n ≡ Some (Ok outs) → Answers sums adds sums_done n (Ok outs) → (answer : Result (List (List ℕ)) ℕ) → sums_done n ≡ Some answer → IsAnswered sums adds sums_done n answer
sums_answered n outs inside done answers answer is =
    let e : Ok outs ≡ answer = let f : Some (Ok outs) ≡ Some answer = sym done ∙ is in cc in
    subst (IsAnswered sums adds sums_done n) e record { ready = record { there = inside; before = sums_before n }; answers = answers }

-- so all is done that can be, and as it may be
sums_settled : Settled sums adds sums_done
sums_settled = record { answered = answered; quiet = λ n ready. finished n ready.there }
  where
    answered : AreAnswered sums adds sums_done
    answered zero = sums_answered 0 ((1 ∷ 2 ∷ 3 ∷ 4 ∷ []) ∷ []) (omega arith) refl record { allowed = refl; lengths = refl }
    answered (suc zero) = sums_answered 1 ((3 ∷ []) ∷ []) (omega arith) refl record { allowed = refl; lengths = refl }
    answered (suc (suc zero)) = sums_answered 2 ((7 ∷ []) ∷ []) (omega arith) refl record { allowed = refl; lengths = refl }
    answered (suc (suc (suc zero))) = sums_answered 3 ((1 ∷ 2 ∷ []) ∷ (3 ∷ 4 ∷ []) ∷ []) (omega arith) refl record { allowed = refl; lengths = refl }
    answered (suc (suc (suc (suc zero)))) = sums_answered 4 ((3 ∷ 7 ∷ []) ∷ []) (omega arith) refl record { allowed = refl; lengths = refl }
    answered (suc (suc (suc (suc (suc zero))))) = sums_answered 5 ((3 ∷ 7 ∷ []) ∷ []) (omega arith) refl record { allowed = refl; lengths = refl }
    answered (suc (suc (suc (suc (suc (suc n)))))) = λ answer is. absurd (cc)

    finished : (n : ℕ) → n < 6 → IsFinished (sums_done n)
    finished zero inside = tt
    finished (suc zero) inside = tt
    finished (suc (suc zero)) inside = tt
    finished (suc (suc (suc zero))) inside = tt
    finished (suc (suc (suc (suc zero)))) inside = tt
    finished (suc (suc (suc (suc (suc zero))))) inside = tt
    finished (suc (suc (suc (suc (suc (suc n)))))) inside = absurd (omega arith)

-- both firings failed, and the first of them counts
sums_failed : Values ℕ ℕ
sums_failed zero = Some (Ok ((1 ∷ 2 ∷ 3 ∷ 4 ∷ []) ∷ []))
sums_failed (suc zero) = Some (Err 5)
sums_failed (suc (suc zero)) = Some (Err 6)
sums_failed (suc (suc (suc n))) = None

sums_failure : failure sums sums_failed ≡ Some record { node = 1; fault = 5 }
unfolding sums_failed
sums_failure = refl

-- a sum that comes back over a delay of one token, 2: a Source, an Init, the sum, what gives it twice, an End, a Sink
abbrev sum : JobGraph ℕ
sum = job_of (cycle 1) (1 ∷ 1 ∷ []) (0 ∷ 1 ∷ []) ((3 ∷ []) ∷ []) ([] ∷ [] ∷ [] ∷ (2 ∷ []) ∷ [])

abbrev sum_done : Values ℕ ℕ
sum_done = done (((3 ∷ []) ∷ []) ∷ ((2 ∷ []) ∷ []) ∷ ((5 ∷ []) ∷ []) ∷ ((5 ∷ []) ∷ (5 ∷ []) ∷ []) ∷ ((5 ∷ []) ∷ []) ∷ ((5 ∷ []) ∷ []) ∷ [])

sum_inputs : inputs_below sum sum_done 6 ≡ ((3 ∷ []) ∷ []) ∷ ((2 ∷ []) ∷ []) ∷ ((3 ∷ []) ∷ (2 ∷ []) ∷ []) ∷ ((5 ∷ []) ∷ []) ∷ ((5 ∷ []) ∷ []) ∷ ((5 ∷ []) ∷ []) ∷ []
sum_inputs = refl

sum_lens : lens_below sum 6 ≡ (1 ∷ []) ∷ (1 ∷ []) ∷ (1 ∷ []) ∷ (1 ∷ 1 ∷ []) ∷ (1 ∷ []) ∷ (1 ∷ []) ∷ []
sum_lens = refl

sum_outcome : outcome sum sum_done ≡ Ok record { outs = (5 ∷ []) ∷ []; left = [] ∷ [] ∷ [] ∷ (5 ∷ []) ∷ [] }
sum_outcome = refl

-- a link and a sink of rate 0: two firings and a Sink, without edges
abbrev none : JobGraph ℕ
none = job_of silent (1 ∷ 1 ∷ []) (0 ∷ 1 ∷ []) [] ([] ∷ [] ∷ [])

abbrev none_done : Values ℕ ℕ
none_done = done (([] ∷ []) ∷ ([] ∷ []) ∷ ([] ∷ []) ∷ [])

none_inputs : inputs_below none none_done 3 ≡ [] ∷ ([] ∷ []) ∷ ([] ∷ []) ∷ []
none_inputs = refl

none_lens : lens_below none 3 ≡ (0 ∷ []) ∷ (0 ∷ []) ∷ (0 ∷ []) ∷ []
none_lens = refl

none_in_lens : in_lens_below none 3 ≡ [] ∷ (0 ∷ []) ∷ (0 ∷ []) ∷ []
none_in_lens = refl

none_outcome : outcome none none_done ≡ Ok record { outs = [] ∷ []; left = [] ∷ [] ∷ [] }
none_outcome = refl
