-- How a run ends, and what it has written.
use Rattle.std.specs.Prelude.{◌≡◌, ◌⊎◌, ℕ, ◌≤◌, ℤ, List, length, take, Option}
use Rattle.outer_world.specs.Faults.{Rose}
use Rattle.outer_world.specs.Sink.{Grows}
use Rattle.pisdf_meaning.specs.Run as run
use Rattle.pisdf_meaning.specs.declared.outcome.Iteration.{Iteration}
use Rattle.pisdf_model.specs.declared.graph.Graphs.{Graphs}
use Rattle.quiescent_driver.specs.Iterated.{HaveIterated}
use Rattle.quiescent_driver.specs.Top.{top_of}
use Rattle.quiescent_driver.specs.Texts.{joined, texts_from}
use Rattle.quiescent_driver.specs.declared.end.RunEnd.{RunEnd}
use Rattle.quiescent_driver.specs.declared.end.RunEnd.TheVariants as here

-- where it is told what was written, it has grown by a beginning of this text
abbrev pub GrowsPartly : Option (List ℕ) → Option (List ℕ) → List ℕ → Type 0
GrowsPartly had has text = (kept : ℕ) × (kept ≤ length text) × Grows had has (take kept text)

-- the texts of these iterations, one after another
abbrev pub text_of : Graphs → List Iteration → List ℕ
text_of graphs iterations = joined (texts_from 0 (top_of graphs).outputs iterations)

-- the run of n iterations ends so, and its texts were written
abbrev pub RanTo : Graphs → List (List ℤ) → ℕ → Option (List ℕ) → Option (List ℕ) → run.RunEnd → Type 0
RanTo graphs streams n had has end = (r : run.Run) × run.IsRun graphs streams n r × (r.end ≡ end) × Grows had has (text_of graphs r.iterations)

-- the first of n iterations were done, and of the list of their texts this was written
abbrev pub HasBegun : Graphs → List (List ℤ) → ℕ → (List Iteration → Type 0) → Type 0
HasBegun graphs streams n Written =
    (k : ℕ) × (k ≤ n) × (iterations : List Iteration) × (state : List (List ℤ)) × HaveIterated graphs streams k iterations state × Written iterations

-- how a run of n iterations ended; a failed put and want of memory leave the first texts
abbrev pub EndsRun : Graphs → List (List ℤ) → ℕ → Option (List ℕ) → Option (List ℕ) → ℕ → ℕ → RunEnd → Type 0
EndsRun graphs streams n had has before now (here.Done left) = RanTo graphs streams n had has (run.Done left)
EndsRun graphs streams n had has before now (here.Short stream has_tokens needs) = RanTo graphs streams n had has (run.Short record { stream = stream; has = has_tokens; needs = needs })
EndsRun graphs streams n had has before now (here.Refused refusal) = RanTo graphs streams n had has (run.Refused refusal)
EndsRun graphs streams n had has before now here.WriteFault = Rose before now × HasBegun graphs streams n (λ iterations. GrowsPartly had has (text_of graphs iterations))
EndsRun graphs streams n had has before now here.Memory = HasBegun graphs streams n (λ iterations. Grows had has (text_of graphs iterations))

-- ---- against one run

-- the answer that such an end is
abbrev pub answer_of : run.RunEnd → RunEnd
answer_of (run.Done left) = here.Done left
answer_of (run.Short lack) = here.Short lack.stream lack.has lack.needs
answer_of (run.Refused refusal) = here.Refused refusal

-- the answer is the end of this run, all of whose texts were written, or there was no memory, or a put failed and the count rose
abbrev pub EndsLike : Graphs → run.Run → Option (List ℕ) → Option (List ℕ) → ℕ → ℕ → RunEnd → Type 0
EndsLike graphs r had has before now end =
    ((end ≡ answer_of r.end) × Grows had has (text_of graphs r.iterations)) ⊎ (end ≡ here.Memory) ⊎ ((end ≡ here.WriteFault) × Rose before now)
