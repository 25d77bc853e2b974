-- The graphs of a file, one by one.
use Rattle.std.proofs.Common.{◌≡◌, ℕ, ◌+◌, ◌<◌, ◌↔◌, ◌∙◌, ◌≤◌, Bool, true, false, IsTrue, eqb, ltb, List, length, get_or, sym, subst, below_more}
use Rattle.std.proofs.lemmas.List.{get_or_read}
use Rattle.std.proofs.lemmas.Bool.{ltb-true}
use Rattle.pisdf_model.specs.declared.graph.Graph.{Graph}
use Rattle.pisdf_model.specs.declared.graph.Graphs.{Graphs}
use Rattle.pisdf_model.specs.Range.{IsGraphInRange, EachGraphInRange, InRange}

pub not_each : (version top : ℕ) (graphs : List Graph) (n : ℕ) (g : Graph) (r : Bool) → n < length graphs → g ≡ get_or graphs n g → (IsTrue r ↔ IsGraphInRange version graphs (eqb n top) g) → r ≡ false → IsTrue false ↔ EachGraphInRange version top graphs
not_each version top graphs n g r lt is iff refused =
    (λ f. absurd cc, λ each. sym refused ∙ iff.1 (subst (IsGraphInRange version graphs (eqb n top)) (sym is) (each n g lt)))

pub one_more : (version top : ℕ) (graphs : List Graph) (n : ℕ) (g : Graph) → n < length graphs → g ≡ get_or graphs n g → IsGraphInRange version graphs (eqb n top) g
    → ((k : ℕ) (d : Graph) → k < n → IsGraphInRange version graphs (eqb k top) (get_or graphs k d)) → (k : ℕ) (d : Graph) → k < n + 1 → IsGraphInRange version graphs (eqb k top) (get_or graphs k d)
one_more version top graphs n g lt is here before k d h =
    let P : ℕ → Type 0 = λ j. (e : Graph) → IsGraphInRange version graphs (eqb j top) (get_or graphs j e) in
    below_more P n (λ j q e. before j e q) (λ e. subst (IsGraphInRange version graphs (eqb n top)) (get_or_read graphs n g lt is e) here) k h d

pub in_range_where : (graphs : Graphs) (r : Bool) → 1 ≤ graphs.version → graphs.version ≤ 3 → ltb graphs.top (length graphs.graphs) ≡ true → (IsTrue r ↔ EachGraphInRange graphs.version graphs.top graphs.graphs) → IsTrue r ↔ InRange graphs
in_range_where graphs r low high top iff =
    (λ t. record { first_version = low; last_version = high; top = ltb-true graphs.top (length graphs.graphs) top; each_graph = iff.0 t }, λ range. iff.1 range.each_graph)
