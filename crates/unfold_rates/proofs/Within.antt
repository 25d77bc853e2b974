-- Rows within a path, and the same rows at another.
use Rattle.std.proofs.Common.{◌≡◌, ℕ, true, List, ◌++◌, length, take, drop, bytes_eq, refl, ap, sym, ◌∙◌, subst, take-append-drop}
use Rattle.std.specs.List.{AllByRecursion}
use Rattle.std.proofs.lemmas.Bool.{and_parts}
use Rattle.std.proofs.Math.Seq.{drop-append_seam, take-append_seam}
use Rattle.std.proofs.lemmas.Slice.Eq.{bytes_eq-Decides}
use Rattle.pisdf_meaning.specs.declared.outcome.TraceRow.{TraceRow}
use Rattle.unfold_rates.specs.Cut.{ends_or_goes_down, is_within}

-- ---- paths

-- the other path goes on from the one with `/`, or is the same
pub record Within (path other : List ℕ) : Type 0 where
  pub rest : List ℕ
  pub is : other ≡ path ++ rest
  pub down : ends_or_goes_down rest ≡ true

bytes_same : (xs : List ℕ) → bytes_eq xs xs ≡ true
bytes_same xs = (bytes_eq-Decides xs xs).1 refl

pub within_test : (path other : List ℕ) → Within path other → is_within path other ≡ true
within_test path other w =
    let P : List ℕ → Type 0 = λ o. is_within path o ≡ true in
    let here : is_within path (path ++ w.rest) ≡ true = rw (take-append_seam path w.rest, drop-append_seam path w.rest, bytes_same path) w.down in
    subst P (sym w.is) here

pub within_from : (path other : List ℕ) → is_within path other ≡ true → Within path other
within_from path other h =
    let parts = and_parts (bytes_eq path (take (length path) other)) (ends_or_goes_down (drop (length path) other)) h in
    let same : path ≡ take (length path) other = (bytes_eq-Decides path (take (length path) other)).0 parts.0 in
    record { rest = drop (length path) other; is = sym (take-append-drop (length path) other) ∙ ap (λ (p : List ℕ). p ++ drop (length path) other) (sym same); down = parts.1 }

-- ---- rows

abbrev pub AllWithin : List ℕ → List TraceRow → Type 0
AllWithin path rows = AllByRecursion (λ (row : TraceRow). is_within path row.path ≡ true) rows
