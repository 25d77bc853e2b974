-- The graphs that each graph holds, where each graph that an actor names is there.
use Rattle.std.proofs.Common.{◌≡◌, ℕ, ◌<◌, Bool, false, List, [], length, map, All, Option, sym, ap, ◌∙◌, get_or}
use Rattle.std.specs.List.{filter, range_with_len}
use Rattle.std.specs.Option.{IfSome}
use Rattle.std.proofs.lemmas.List.{length-map, get_or-map}
use Rattle.std.proofs.lemmas.List.Elements.{All-map, All-get_or}
use Rattle.pisdf_model.specs.Arrows.{LeadsInside}
use Rattle.pisdf_model.specs.Nesting.{children, child_lists, nested_over, RefersToGraphs}
use Rattle.pisdf_model.specs.Details.{first}
use Rattle.pisdf_model.proofs.Nested.{over, marks_long, kept_by_marks}
use Rattle.pisdf_model.specs.declared.graph.Graph.{Graph}
use Rattle.pisdf_model.specs.declared.graph.Graphs.{Graphs}

pub inside_holds : (graphs : Graphs) → RefersToGraphs graphs → LeadsInside (child_lists graphs)
inside_holds graphs refers = All-map (λ (to : List ℕ). All (λ w. w < length (child_lists graphs)) to) children graphs.graphs (rw (length-map {A = Graph}) refers)

-- what was made of the graphs, as it is read
pub read_holds : (graphs : Graphs) (items : List Graph) (made read : List (List ℕ)) → items ≡ graphs.graphs → made ≡ map children items → read ≡ made → read ≡ child_lists graphs
read_holds graphs items made read are told same = same ∙ told ∙ ap (map children) are

pub place_inside : (n m : ℕ) (place : Option ℕ) → n ≡ m → IfSome place (λ v. v < n) → IfSome place (λ v. v < m)
place_inside n m place same inside = rw (sym same) inside

module _ (graphs : Graphs) (n : ℕ) (read : List (List ℕ)) (made marks : List Bool) (is : read ≡ child_lists graphs) (told : made ≡ map (λ place. over read n place) (range_with_len 0 (length read))) (same : marks ≡ made) where
  marks_are : marks ≡ map (λ place. over (child_lists graphs) n place) (range_with_len 0 (length (child_lists graphs)))
  marks_are = same ∙ told ∙ ap (λ arrows. map (λ place. over arrows n place) (range_with_len 0 (length arrows))) is

  pub as_many : length marks ≡ length graphs.graphs
  as_many = marks_long (child_lists graphs) n marks marks_are ∙ length-map graphs.graphs children

  pub first_deep : (place : Option ℕ) → place ≡ first (filter (λ v. get_or marks v false) (range_with_len 0 (length marks))) → first (nested_over (child_lists graphs) n) ≡ place
  first_deep place first_is = sym (first_is ∙ ap first (kept_by_marks (λ place. over (child_lists graphs) n place) (length (child_lists graphs)) marks marks_are))

pub refers_of_inside : (graphs : Graphs) → LeadsInside (child_lists graphs) → RefersToGraphs graphs
refers_of_inside graphs inside k d below =
    let here = All-get_or (λ (to : List ℕ). All (λ w. w < length (child_lists graphs)) to) (child_lists graphs) k [] (rw (length-map {A = Graph}) below) inside in
    rw (get_or-map children graphs.graphs k d [] below, length-map {A = Graph}) at here
