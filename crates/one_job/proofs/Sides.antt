-- A node comes in on its side, or goes out.
use Rattle.std.proofs.Common.{◌≡◌, ℕ, ◌<◌, ⊎_elim, Bool, true, false, length, get_or, refl, sym, ◌∙◌, ap, subst}
use Rattle.std.specs.Prelude.{◌≢◌}
use Rattle.std.proofs.lemmas.Bool.{cases_eq}
use Rattle.std.proofs.lemmas.List.{length-set, length-replicate, get_or-set_same, get_or-set_other}
use Rattle.ready_heap.specs.Heaps.{Holds}
use Rattle.ready_heap.specs.Groups.{HeapsView, RankingView}
use Rattle.worker_mapping.specs.declared.mapping.Mapping.{Mapping}
use Rattle.job_compiler.specs.Ranked.{AreKeys, IsRankingOf}
use Rattle.one_job.specs.Ready.{side, put, none_ready, AreSorted, AreRankedAs, AreRankedBy}
use Rattle.one_job.specs.declared.ready.ReadyNodes.{ReadyNodes}

-- ---- the same nodes are ranked, in the same way

pub as_before : (heaps : HeapsView) → AreRankedAs heaps heaps
as_before heaps = record { groups = refl; keys = refl; wide = refl }

pub as_earlier : (one two three : HeapsView) → AreRankedAs one two → AreRankedAs two three → AreRankedAs one three
as_earlier one two three first second = record { groups = second.groups ∙ first.groups; keys = second.keys ∙ first.keys; wide = second.wide ∙ first.wide }

pub ranked_still : (mapping : Mapping) (count : ℕ) (old new : HeapsView) → AreRankedBy mapping count old → AreRankedAs old new → AreRankedBy mapping count new
ranked_still mapping count old new by same = record {
  groups = same.groups ∙ by.groups;
  keys = subst (AreKeys mapping.priority) (sym same.keys) by.keys;
  wide = same.wide ∙ by.wide;
}

-- ---- a node comes in or goes out

module _ (r : ReadyNodes) (n : ℕ) (on : Bool) where
  pub put_here : (b : Bool) → n < length (side r b).held → get_or (side (put r b n on) b).held n false ≡ on
  put_here true inside = get_or-set_same r.children.held n on false inside
  put_here false inside = get_or-set_same r.others.held n on false inside

  -- the others are in as before
  pub put_others : (b c : Bool) (k : ℕ) → k ≢ n → get_or (side (put r b n on) c).held k false ≡ get_or (side r c).held k false
  put_others true true k differs = get_or-set_other r.children.held n k on false differs
  put_others true false k differs = refl
  put_others false true k differs = refl
  put_others false false k differs = get_or-set_other r.others.held n k on false differs

  pub put_ranked : (b c : Bool) → AreRankedAs (side r c) (side (put r b n on) c)
  put_ranked true true = record { groups = refl; keys = refl; wide = length-set r.children.held n on }
  put_ranked true false = as_before r.others
  put_ranked false true = as_before r.children
  put_ranked false false = record { groups = refl; keys = refl; wide = length-set r.others.held n on }

  module _ (child : ℕ → Bool) (sorted : AreSorted child r) where
    here_sorted : (a : Bool) → child n ≡ a → (b : Bool) → Holds (side (put r a n on) b).held n → child n ≡ b
    here_sorted true is true holds = is
    here_sorted true is false holds = sorted false n holds
    here_sorted false is true holds = sorted true n holds
    here_sorted false is false holds = is

    pub put_sorted : AreSorted child (put r (child n) n on)
    put_sorted b k holds = ⊎_elim
        (λ (same : k ≡ n). subst (λ q. child q ≡ b) (sym same) (here_sorted (child n) refl b (subst (Holds (side (put r (child n) n on) b).held) same holds)))
        (λ (differs : k ≢ n). sorted b k (sym (put_others (child n) b k differs) ∙ holds))
        (cases_eq k n)

-- ---- none is in

pub both_sides : (r : ReadyNodes) → ((n : ℕ) → Holds r.others.held n → ⊥) → ((n : ℕ) → Holds r.children.held n → ⊥) → (b : Bool) (n : ℕ) → Holds (side r b).held n → ⊥
both_sides r no_other no_child true n holds = no_child n holds
both_sides r no_other no_child false n holds = no_other n holds

pub none_wide : (ranking : RankingView) (b : Bool) → length (side (none_ready ranking) b).held ≡ length ranking.groups
none_wide ranking true = length-replicate (length ranking.groups) false
none_wide ranking false = length-replicate (length ranking.groups) false

pub none_ranked : (mapping : Mapping) (ranking : RankingView) (count : ℕ) → IsRankingOf mapping ranking → length mapping.home ≡ count → (b : Bool) → AreRankedBy mapping count (side (none_ready ranking) b)
none_ranked mapping ranking count by homes true = record { groups = by.homes; keys = by.keys; wide = none_wide ranking true ∙ (ap length by.homes ∙ homes) }
none_ranked mapping ranking count by homes false = record { groups = by.homes; keys = by.keys; wide = none_wide ranking false ∙ (ap length by.homes ∙ homes) }
