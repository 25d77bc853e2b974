-- A board of a graph with one actor, which passes the token of x on to y: what one worker's journal tells.
use Rattle.std.proofs.Common.{◌≡◌, ◌≢◌, ℕ, zero, suc, pos, Bool, true, false, List, [], ◌∷◌, None, Some, codes, refl, sym, ap, ◌∙◌}
use Rattle.param_resolver.specs.Assignment.{values_after}
use Rattle.param_resolver.specs.EarlyCheck.{check_to}
use Rattle.nested_jobs.specs.Journals as steps
use Rattle.nested_jobs.specs.Marks.{Done, Marks}
use Rattle.nested_jobs.specs.Rules.{Work}
use Rattle.nested_jobs.specs.Tables.{fresh_row}
use Rattle.pisdf_meaning.specs.declared.firing.Firing.{Firing}
use Rattle.job_rules.proofs.Examples.{passes}
use Rattle.job_rules.specs.Words.{Answer, Compiles, Gives, Schedules, given_outs}
use Rattle.board_rules.specs.Asking.{IsAskedFor, IsFirstIn, IsOffered, JobRow, Offer}
use Rattle.board_rules.specs.Keys.{Key, top_job}
use Rattle.board_rules.specs.Offers.{calls}
use Rattle.board_rules.specs.Entries.{Step}
use Rattle.board_rules.specs.Legal.{journal_of, state_after}
use Rattle.board_rules.specs.Picks.{Standing, goes_before}
use Rattle.board_rules.specs.declared.entry.Entry.TheVariants.{Claim, Finish}
use Rattle.board_rules.specs.declared.entry.ItemName.TheVariants.{Compile, Node}

abbrev key : Key
key = record { graphs = record { version = 1; top = 0; graphs = passes ∷ [] }; signatures = []; delays = [] ∷ [] ∷ [] ∷ []; ins = (pos 5 ∷ []) ∷ []; workers = 1 }

abbrev token : Answer
token = Gives (given_outs ((pos 5 ∷ []) ∷ []))

-- one worker claims the compilation, then the Source, the firing and the Sink
abbrev taken : List Step
taken =
    steps.Claim 0 (0 ∷ []) ∷ steps.Finish 0 (Schedules record { counts = 1 ∷ []; order = record { actor = 0; turn = 0 } ∷ [] })
    ∷ steps.Claim 0 (1 ∷ []) ∷ steps.Finish 0 token
    ∷ steps.Claim 0 (2 ∷ []) ∷ steps.Finish 0 token
    ∷ steps.Claim 0 (3 ∷ []) ∷ steps.Finish 0 token
    ∷ []

journal_is : journal_of key taken ≡ Claim 0 (codes "g") Compile ∷ Finish 0 ∷ Claim 0 (codes "g") (Node 0) ∷ Finish 0 ∷ Claim 0 (codes "g") (Node 1) ∷ Finish 0 ∷ Claim 0 (codes "g") (Node 2) ∷ Finish 0 ∷ []
unfolding check_to values_after
journal_is = refl

end_is : (state_after key taken).marks [] ≡ Done (Gives record { outs = (pos 5 ∷ []) ∷ []; state = [] ∷ [] ∷ [] ∷ []; trace = []; exports = [] })
unfolding check_to values_after
end_is = refl

-- ---- the rules of the pick

abbrev stands : Bool → ℕ → Bool → ℕ → List ℕ → Standing
stands opens depth away number within = record { opens = opens; depth = depth; away = away; urgency = None; path = []; number = number; within = within }

-- an item of an open job, however shallow, goes before one that opens a job; a deeper one, before one at home; of a job that is
-- opened, its first item before its second
open_first : goes_before (stands false 0 true 7 []) (stands true 3 false 0 (0 ∷ [])) ≡ true
open_first = refl

deep_first : goes_before (stands true 3 true 7 (0 ∷ [])) (stands true 2 false 0 (0 ∷ [])) ≡ true
deep_first = refl

first_first : goes_before (stands true 1 false 4 (0 ∷ [])) (stands true 1 false 4 (1 ∷ [])) ≡ true
first_first = refl

second_waits : goes_before (stands true 1 false 4 (1 ∷ [])) (stands true 1 false 4 (0 ∷ 0 ∷ [])) ≡ false
second_waits = refl

-- ---- what a job offers

-- the top job before anything is claimed: it offers its compilation, and nothing else
top_row : JobRow
top_row = fresh_row [] (top_job key)

compilation : Offer
compilation = record { item = 0; away = false; urgency = None }

nothing_more : (j : ℕ) → IsOffered key false top_row j → j ≢ 0 → ⊥
unfolding top_row
nothing_more zero offered apart = apart refl
nothing_more (suc j) offered apart = let none : None ≡ Some offered.task = offered.has_task in cc

offers_compilation : (m : Marks Firing Answer) (w : ℕ) → IsFirstIn key m w false top_row compilation
unfolding top_row compilation
offers_compilation m w = record {
  offered = record { free = refl; task = Work (Compiles (top_job key) []); has_task = refl; kind = refl };
  homed = (refl, refl);
  first = λ j offered apart. absurd (nothing_more j offered apart);
}

calls_nothing : (m : Marks Firing Answer) (w : ℕ) → IsAskedFor key m w true top_row None
unfolding top_row
calls_nothing m w zero offered = let same : Some (Work (Compiles (top_job key) [])) ≡ Some offered.task = offered.has_task in let task : offered.task ≡ Work (Compiles (top_job key) []) = cc in let kind : false ≡ true = sym (ap calls task) ∙ offered.kind in cc
calls_nothing m w (suc j) offered = let none : None ≡ Some offered.task = offered.has_task in cc
