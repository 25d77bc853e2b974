-- Outputs of a frame that are written one after the other.
use Rattle.std.proofs.Common.{◌≡◌, ℕ, zero, suc, ◌+◌, ◌<◌, ◌≤◌, ℤ, Bool, true, false, List, [], ◌∷◌, ◌++◌, length, set, get_or, take, drop, refl, sym, ap, ◌∙◌, arith, length-append, take_all}
use Rattle.std.proofs.lemmas.List.{get_or-append-add, get_or_append_left, length-take-le, length-map, take-append-le, drop_all}
use Rattle.kernel_gate.specs.Value.{FrameView, lengths, port, with_output}
use Rattle.split_block.specs.View.{refit}
use Rattle.pisdf_model.specs.Hold.{in_line}
use Rattle.pisdf_meaning.proofs.StateSizes.{size_at}
use Rattle.graph_firing.specs.Nodes.Sizes.{child_outs}

pub refit_same : (old w : List ℤ) → length old ≡ length w → refit old w ≡ w
refit_same old w e =
    ap (λ n. take n (w ++ drop (length w) old)) e ∙ take-append-le (length w) w (drop (length w) old) (omega arith) ∙ take_all (length w) w (omega arith)

set_behind : {X : Type 0} (xs : List X) (y : X) (ys : List X) (w : X) → set (xs ++ y ∷ ys) (length xs) w ≡ xs ++ w ∷ ys
set_behind [] y ys w = refl
set_behind (x ∷ xs) y ys w = ap (λ l. x ∷ l) (set_behind xs y ys w)

from_here : {X : Type 0} (xs : List X) (i : ℕ) (d : X) → i < length xs → drop i xs ≡ get_or xs i d ∷ drop (suc i) xs
from_here [] i d inside = absurd (omega arith)
from_here (x ∷ xs) zero d inside = refl
from_here (x ∷ xs) (suc i) d inside = from_here xs i d (omega arith)

pub take_one : {X : Type 0} (xs : List X) (i : ℕ) (d : X) → i < length xs → take (suc i) xs ≡ take i xs ++ get_or xs i d ∷ []
take_one [] i d inside = absurd (omega arith)
take_one (x ∷ xs) zero d inside = refl
take_one (x ∷ xs) (suc i) d inside = ap (λ l. x ∷ l) (take_one xs i d (omega arith))

append_one : {X : Type 0} (xs : List X) (y : X) (ys : List X) → (xs ++ y ∷ []) ++ ys ≡ xs ++ y ∷ ys
append_one [] y ys = refl
append_one (x ∷ xs) y ys = ap (λ l. x ∷ l) (append_one xs y ys)

module _ (outs old : List (List ℤ)) (p : ℕ) (w : List ℤ) (inside : p < length old) where
  -- the first so many are these: what is written at the next place stands there
  put_at : (xs : List (List ℤ)) → length xs ≡ p → length (get_or old p []) ≡ length w → set (xs ++ drop p old) p (refit (port (xs ++ drop p old) p) w) ≡ xs ++ w ∷ drop (suc p) old
  put_at xs many long =
      let here = from_here old p [] inside in
      let at : port (xs ++ drop p old) p ≡ get_or old p [] =
      ap (λ (l : List (List ℤ)). port (xs ++ l) p) here ∙ (let e : p ≡ length xs + 0 = omega arith in ap (port (xs ++ get_or old p [] ∷ drop (suc p) old)) e ∙ get_or-append-add xs (get_or old p [] ∷ drop (suc p) old) 0 []) in
      let fits : refit (port (xs ++ drop p old) p) w ≡ w = ap (λ (l : List ℤ). refit l w) at ∙ refit_same (get_or old p []) w long in
      ap (set (xs ++ drop p old) p) fits ∙ ap (λ (l : List (List ℤ)). set (xs ++ l) p w) here ∙ ap (λ i. set (xs ++ get_or old p [] ∷ drop (suc p) old) i w) (sym many) ∙ set_behind xs (get_or old p []) (drop (suc p) old) w

  pub wrote_next : p < length outs → w ≡ get_or outs p [] → length (get_or old p []) ≡ length (get_or outs p []) → set (take p outs ++ drop p old) p (refit (port (take p outs ++ drop p old) p) w) ≡ take (p + 1) outs ++ drop (p + 1) old
  wrote_next below w_is long =
      let e : suc p ≡ p + 1 = omega arith in
      put_at (take p outs) (length-take-le p outs (omega arith)) (long ∙ ap (λ (l : List ℤ). length l) (sym w_is))
      ∙ sym (append_one (take p outs) w (drop (suc p) old))
      ∙ ap (λ (l : List ℤ). (take p outs ++ l ∷ []) ++ drop (suc p) old) w_is
      ∙ ap (λ (l : List (List ℤ)). l ++ drop (suc p) old) (sym (take_one outs p [] below))
      ∙ ap (λ n. take n outs ++ drop n old) e

pub write_next : (f first : FrameView) (outs : List (List ℤ)) (p : ℕ) (w : List ℤ) → f ≡ record first { outputs = take p outs ++ drop p first.outputs } → p < length outs → length outs ≤ length first.outputs → w ≡ get_or outs p [] →
    length (get_or first.outputs p []) ≡ length (get_or outs p []) → with_output f p w ≡ record first { outputs = take (p + 1) outs ++ drop (p + 1) first.outputs }
write_next f first outs p w is below many w_is long =
    ap (λ (x : FrameView). with_output x p w) is ∙ (λ k. record first { outputs = wrote_next outs first.outputs p w (omega arith) below w_is long k })

-- ---- a child's outputs, of which the last is its state where that goes on

out_at : (keeps : Bool) (outs state : List (List ℤ)) (p : ℕ) → p < length outs → get_or (child_outs keeps outs state) p [] ≡ get_or outs p []
out_at true outs state p below = get_or_append_left outs (in_line state ∷ []) [] p below
out_at false outs state p below = get_or_append_left outs [] [] p below

pub out_long : (keeps : Bool) (outs state written : List (List ℤ)) → lengths written ≡ lengths (child_outs keeps outs state) → (p : ℕ) → p < length outs → length (get_or written p []) ≡ length (get_or outs p [])
out_long keeps outs state written e p below =
    size_at written p ∙ ap (λ (l : List ℕ). get_or l p 0) e ∙ sym (size_at (child_outs keeps outs state) p) ∙ ap (λ (l : List ℤ). length l) (out_at keeps outs state p below)

module _ (outs state written : List (List ℤ)) (e : lengths written ≡ lengths (child_outs true outs state)) where
  pub many : length written ≡ length outs + 1
  many = sym (length-map written (λ (l : List ℤ). length l)) ∙ ap (λ (l : List ℕ). length l) e ∙ length-map (outs ++ in_line state ∷ []) (λ (l : List ℤ). length l) ∙ length-append outs (in_line state ∷ [])

  own_long : length (get_or written (length outs) []) ≡ length (in_line state)
  own_long =
      size_at written (length outs) ∙ ap (λ (l : List ℕ). get_or l (length outs) 0) e ∙ sym (size_at (child_outs true outs state) (length outs))
      ∙ ap (λ (l : List ℤ). length l) (let n : length outs ≡ length outs + 0 = omega arith in ap (λ i. get_or (outs ++ in_line state ∷ []) i []) n ∙ get_or-append-add outs (in_line state ∷ []) 0 [])

  pub line_long : length (get_or (outs ++ drop (length outs) written) (length outs) []) ≡ length (in_line state)
  line_long =
      let here = from_here written (length outs) [] (let m = many in omega arith) in
      ap (λ (l : List (List ℤ)). length (get_or (outs ++ l) (length outs) [])) here
      ∙ ap (λ i. length (get_or (outs ++ get_or written (length outs) [] ∷ drop (suc (length outs)) written) i [])) (let n : length outs ≡ length outs + 0 = omega arith in n)
      ∙ ap (λ (l : List ℤ). length l) (get_or-append-add outs (get_or written (length outs) [] ∷ drop (suc (length outs)) written) 0 [])
      ∙ own_long

  pub line_written : set (outs ++ drop (length outs) written) (length outs) (refit (port (outs ++ drop (length outs) written) (length outs)) (in_line state)) ≡ child_outs true outs state
  line_written =
      put_at outs written (length outs) (in_line state) (let m = many in omega arith) outs refl own_long
      ∙ ap (λ (l : List (List ℤ)). outs ++ in_line state ∷ l) (drop_all (suc (length outs)) written (let m = many in omega arith))

pub write_state : (f first : FrameView) (outs state : List (List ℤ)) (w : List ℤ) → f ≡ record first { outputs = outs ++ drop (length outs) first.outputs } → lengths first.outputs ≡ lengths (child_outs true outs state) → w ≡ in_line state →
    with_output f (length outs) w ≡ record first { outputs = child_outs true outs state }
write_state f first outs state w is e w_is =
    ap (λ (x : FrameView). with_output x (length outs) w) is
    ∙ ap (λ (l : List ℤ). with_output record first { outputs = outs ++ drop (length outs) first.outputs } (length outs) l) w_is
    ∙ (λ k. record first { outputs = line_written outs state first.outputs e k })

-- ---- lists one after the other

pub line_more : (lists : List (List ℤ)) (i : ℕ) (d : List ℤ) → i < length lists → length (in_line (take i lists)) + length (get_or lists i d) ≤ length (in_line lists)
line_more [] i d inside = absurd (omega arith)
line_more (x ∷ lists) zero d inside = let l = length-append x (in_line lists) in omega arith
line_more (x ∷ lists) (suc i) d inside =
    let again = line_more lists i d (omega arith) in
    let l = length-append x (in_line lists) in
    let m = length-append x (in_line (take i lists)) in
    omega arith
