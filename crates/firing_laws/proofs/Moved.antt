-- Traces that are moved to another path.
use Rattle.std.proofs.Common.{◌≡◌, ℕ, zero, suc, ◌+◌, ◌<◌, Bool, true, false, if◌then◌else◌, ℤ, List, [], ◌∷◌, ◌++◌, map, refl, ap, ◌∙◌, sym, append_assoc, append-nil, arith}
use Rattle.std.proofs.lemmas.List.{map-append}
use Rattle.std.proofs.Math.Seq.{drop-append_seam}
use Rattle.std.specs.List.{AllByRecursion}
use Rattle.pisdf_model.specs.declared.param.Param.{Param}
use Rattle.pisdf_model.specs.declared.param.ParamKind.{ParamKind}
use Rattle.pisdf_model.specs.declared.param.ParamKind.TheVariants.{Inherited, Derived, Chosen}
use Rattle.pisdf_meaning.specs.Running.{chosen_row, chosen_rows, traces_below, value_at}
use Rattle.pisdf_meaning.specs.declared.outcome.TraceRow.{TraceRow}
use Rattle.firing_laws.specs.Moving.{AreMoved, GoesDown, moved_row, under}
use Rattle.firing_laws.proofs.Elements.{all_both}

under_twice : (path more : List ℕ) (rows : List TraceRow) → map (under (path ++ more)) rows ≡ map (under path) (map (under more) rows)
under_twice path more [] = refl
under_twice path more (row ∷ rows) =
    ap (λ (p : List ℕ). record { path = p; name = row.name; value = row.value } ∷ map (under (path ++ more)) rows) (append_assoc path more row.path)
    ∙ ap (λ (rest : List TraceRow). under path (under more row) ∷ rest) (under_twice path more rows)

moved_under : (path other : List ℕ) (rows : List TraceRow) → map (moved_row path other) (map (under path) rows) ≡ map (under other) rows
moved_under path other [] = refl
moved_under path other (row ∷ rows) =
    ap (λ (p : List ℕ). record { path = other ++ p; name = row.name; value = row.value } ∷ map (moved_row path other) (map (under path) rows)) (drop-append_seam path row.path)
    ∙ ap (λ (rest : List TraceRow). under other row ∷ rest) (moved_under path other rows)

-- there is only one trace to which it can be moved
pub moved_is : (path other : List ℕ) (rows moved : List TraceRow) → AreMoved path other rows moved → moved ≡ map (moved_row path other) rows
moved_is path other rows moved are = are.moved_are ∙ sym (ap (map (moved_row path other)) are.rows_are ∙ moved_under path other are.below)

all_down : (more : List ℕ) → ((rest : List ℕ) → GoesDown (more ++ rest)) → (rows : List TraceRow) → AllByRecursion (λ (row : TraceRow). GoesDown row.path) (map (under more) rows)
all_down more down [] = tt
all_down more down (row ∷ rows) = (down row.path, all_down more down rows)

-- paths that go on alike, and down
pub moved_above : (path other more : List ℕ) (rows moved : List TraceRow) → ((rest : List ℕ) → GoesDown (more ++ rest)) → AreMoved (path ++ more) (other ++ more) rows moved → AreMoved path other rows moved
moved_above path other more rows moved down are = record {
  below = map (under more) are.below;
  down = all_down more down are.below;
  rows_are = are.rows_are ∙ under_twice path more are.below;
  moved_are = are.moved_are ∙ under_twice other more are.below;
}

module _ (path other : List ℕ) where
  pub moved_none : AreMoved path other [] []
  moved_none = record { below = []; down = tt; rows_are = refl; moved_are = refl }

  pub moved_empty : (rows moved : List TraceRow) → rows ≡ [] → moved ≡ [] → AreMoved path other rows moved
  moved_empty rows moved e f = record { below = []; down = tt; rows_are = e; moved_are = f }

  pub moved_both : (rows more rows' more' : List TraceRow) → AreMoved path other rows rows' → AreMoved path other more more' → AreMoved path other (rows ++ more) (rows' ++ more')
  moved_both rows more rows' more' a b = record {
    below = a.below ++ b.below;
    down = all_both (λ (row : TraceRow). GoesDown row.path) a.below b.below a.down b.down;
    rows_are = ap (λ (r : List TraceRow). r ++ more) a.rows_are ∙ ap (λ (r : List TraceRow). map (under path) a.below ++ r) b.rows_are ∙ sym (map-append (under path) a.below b.below);
    moved_are = ap (λ (r : List TraceRow). r ++ more') a.moved_are ∙ ap (λ (r : List TraceRow). map (under other) a.below ++ r) b.moved_are ∙ sym (map-append (under other) a.below b.below);
  }

  pub moved_either : (test : Bool) (rows more rows' more' : List TraceRow) → AreMoved path other rows rows' → AreMoved path other more more' → AreMoved path other (if test then rows else more) (if test then rows' else more')
  moved_either true rows more rows' more' a b = a
  moved_either false rows more rows' more' a b = b

  chosen_moved : (name : List ℕ) (value : ℤ) (kind : ParamKind) → AreMoved path other (chosen_row path name value kind) (chosen_row other name value kind)
  chosen_moved name value Inherited = moved_none
  chosen_moved name value (Derived expr) = moved_none
  chosen_moved name value Chosen =
      let row : List ℕ → List TraceRow = λ p. record { path = p; name = name; value = value } ∷ [] in
      record { below = row []; down = (tt, tt); rows_are = ap row (sym (append-nil path)); moved_are = ap row (sym (append-nil other)) }

  pub choices_moved : (values : List ℤ) (n : ℕ) (params : List Param) → AreMoved path other (chosen_rows path values n params) (chosen_rows other values n params)
  choices_moved values n [] = moved_none
  choices_moved values n (p ∷ params) =
      moved_both (chosen_row path p.name (value_at values n) p.kind) (chosen_rows path values (n + 1) params) (chosen_row other p.name (value_at values n) p.kind) (chosen_rows other values (n + 1) params)
      (chosen_moved p.name (value_at values n) p.kind) (choices_moved values (n + 1) params)

  pub below_moved : (f h : ℕ → List TraceRow) (n : ℕ) → ((k : ℕ) → k < n → AreMoved path other (f k) (h k)) → AreMoved path other (traces_below f n) (traces_below h n)
  below_moved f h zero each = moved_none
  below_moved f h (suc n) each = moved_both (traces_below f n) (f n) (traces_below h n) (h n) (below_moved f h n (λ k less. each k (omega arith))) (each n (omega arith))
