-- The counts and rows of a job's ports, over the lists that were read.
use Rattle.std.proofs.Common.{◌≡◌, ℕ, List, length, sym, subst, All, ◌<◌}
use Rattle.std.specs.Prelude.{Option}
use Rattle.sdf_level.specs.declared.link.Link.{Link}
use Rattle.sdf_level.specs.declared.node.Node.{Node}
use Rattle.job_compiler.specs.Ends.{AreEndCounts, AreCounts, AreRows, HaveRows}

pub ends_as : (n n' : ℕ) (ends ends' : List (ℕ × ℕ)) (counts counts' : List ℕ) → n ≡ n' → ends ≡ ends' → counts ≡ counts' → AreEndCounts n ends counts → AreEndCounts n' ends' counts'
ends_as n n' ends ends' counts counts' same_n same_ends same_counts are =
    subst (λ k. AreEndCounts k ends' counts') same_n (subst (λ xs. AreEndCounts n xs counts') same_ends (subst (λ xs. AreEndCounts n ends xs) same_counts are))

pub counts_as : (count : List Link → Node → ℕ → ℕ) (links links' : List Link) (nodes nodes' : List Node) (ends ends' counts counts' : List ℕ) → links ≡ links' → nodes ≡ nodes' → ends ≡ ends' → counts ≡ counts' → AreCounts (count links) nodes ends counts → AreCounts (count links') nodes' ends' counts'
counts_as count links links' nodes nodes' ends ends' counts counts' same_links same_nodes same_ends same_counts are =
    subst (λ xs. AreCounts (count xs) nodes' ends' counts') same_links (subst (λ xs. AreCounts (count links) xs ends' counts') same_nodes (subst (λ xs. AreCounts (count links) nodes xs counts') same_ends (subst (λ xs. AreCounts (count links) nodes ends xs) same_counts are)))

pub rows_as : (counts counts' : List ℕ) (ends ends' : List (ℕ × ℕ)) (rows : List (List (Option ℕ))) → counts ≡ counts' → ends ≡ ends' → AreRows counts ends (length ends) rows → AreRows counts' ends' (length ends') rows
rows_as counts counts' ends ends' rows same_counts same_ends are =
    subst (λ xs. AreRows counts' xs (length xs) rows) same_ends (subst (λ xs. AreRows xs ends (length ends) rows) same_counts are)

pub have_as : (counts counts' : List ℕ) (ends ends' : List (ℕ × ℕ)) → counts ≡ counts' → ends ≡ ends' → HaveRows counts' ends' → HaveRows counts ends
have_as counts counts' ends ends' same_counts same_ends have =
    subst (λ xs. HaveRows counts xs) (sym same_ends) (subst (λ xs. HaveRows xs ends') (sym same_counts) have)

pub below_as : (n n' : ℕ) (ends ends' : List (ℕ × ℕ)) → n ≡ n' → ends ≡ ends' → All (λ (x : ℕ × ℕ). x.0 < n') ends' → All (λ (x : ℕ × ℕ). x.0 < n) ends
below_as n n' ends ends' same_n same_ends all =
    subst (λ k. All (λ (x : ℕ × ℕ). x.0 < k) ends) (sym same_n) (subst (λ xs. All (λ (x : ℕ × ℕ). x.0 < n') xs) (sym same_ends) all)
