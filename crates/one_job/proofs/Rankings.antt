-- The ranking of all nodes has the keys of the ranking by homes.
use Rattle.std.proofs.Common.{◌≡◌, ℕ, ◌<◌, ◌≤◌, ⊎_elim, Bool, true, false, List, length, refl, replicate, slice_index, sym, ap, ◌∙◌, arith}
use Rattle.std.specs.Prelude.{IsTrue, Some, None, if◌then◌else◌}
use Rattle.std.proofs.lemmas.List.{ext_get_or, get_or-replicate, get_or_past, length-replicate}
use Rattle.std.proofs.lemmas.Bool.{cases_lt}
use Rattle.ready_heap.specs.Groups.{RankingView}
use Rattle.worker_mapping.specs.declared.mapping.Mapping.{Mapping}
use Rattle.job_compiler.specs.Ranked.{AreKeys, IsRankingOf, IsRankingOfAll}
use Rattle.one_job.specs.Alike.{AreAlike, AreKeptAlike, AreOneGroup, IsOfAll}
use Rattle.one_job.specs.Ready.{none_in}

keys_are_one : (priority one two : List ℕ) → AreKeys priority one → AreKeys priority two → one ≡ two
keys_are_one priority one two first second = ext_get_or 0 one two (first.long ∙ sym second.long)
    (λ n inside.
    let below : n < length priority = let long = first.long in omega arith in
    let key = (first.each n below).sum in
    let other = (second.each n below).sum in omega arith)

pub are_of_all : (mapping : Mapping) (ranking of_all : RankingView) → IsRankingOf mapping ranking → IsRankingOfAll mapping of_all → IsOfAll ranking of_all
are_of_all mapping ranking of_all by_home by_all = record {
  one_group = by_all.one_group ∙ ap (λ (homes : List ℕ). replicate (length homes) 0) (sym by_home.homes);
  keys = keys_are_one mapping.priority of_all.keys ranking.keys by_all.keys by_home.keys;
}

one_group : (count n : ℕ) → slice_index (replicate count 0) n ≡ 0
one_group count n = ⊎_elim
    (λ (inside : n < count). get_or-replicate count n 0 0 inside)
    (λ (past : count ≤ n). get_or_past (replicate count 0) n 0 (let zero : ℕ = 0 in let long = length-replicate count zero in omega arith))
    (cases_lt n count)

-- none is in
pub none_alike : (ranking of_all : RankingView) → IsOfAll ranking of_all → AreAlike (none_in ranking) (none_in of_all)
none_alike ranking of_all is = record {
  one_group = λ n. ap (λ (groups : List ℕ). slice_index groups n) is.one_group ∙ one_group (length ranking.groups) n;
  keys = is.keys;
  held = ap (λ (k : ℕ). replicate k false) (ap length is.one_group ∙ length-replicate (length ranking.groups) 0);
}

-- where they have one group, there is no need of others
pub none_kept : (ranking of_all : RankingView) (one_home : Bool) → IsOfAll ranking of_all → (IsTrue one_home → AreOneGroup ranking.groups) → AreKeptAlike (none_in ranking) (if one_home then None else Some (none_in of_all))
none_kept ranking of_all true is one = one refl
none_kept ranking of_all false is one = none_alike ranking of_all is
