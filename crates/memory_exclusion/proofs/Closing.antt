-- The rows as edge after edge is entered, and then each edge is taken out of the row of its head.
use Rattle.std.proofs.Common.{◌≡◌, ℕ, ◌+◌, ◌*◌, ◌/◌, ◌%◌, ◌<◌, ◌≤◌, ◌⊎◌, inl, inr, ⊎_elim, List, length, slice_index, replicate, All, refl, sym, arith}
use Rattle.std.proofs.lemmas.Bool.{cases_lt}
use Rattle.std.proofs.lemmas.List.{get_or-replicate, get_or_past, length-replicate}
use Rattle.std.proofs.lemmas.Nat.Bits.{bit_at-zero}
use Rattle.memory_exclusion.specs.Paths.{tail_of, head_of}
use Rattle.memory_exclusion.specs.Bits.{HasBit, AddsBit, DropsBit, AddsRow}
use Rattle.memory_exclusion.specs.Closure.{number_at, IsInOrder, IsOwnClosure, IsClosure}
use Rattle.memory_exclusion.proofs.Chains.{Comes, first, next, path_of, comes_by}

-- the head of edge f is node w, or a path leads from it there
abbrev pub Meets : List (ℕ × ℕ) → ℕ → ℕ → Type 0
Meets edges f w = (head_of edges f ≡ w) ⊎ Comes edges (head_of edges f) w

-- the rows hold the paths whose last edge is among the first i of the order
pub record ClosedSoFar (edges order : List (ℕ × ℕ)) (width : ℕ) (words : List ℕ) (i : ℕ) : Type 0 where
  pub sound : (f w : ℕ) → f < length edges → HasBit words width w f → Meets edges f w
  pub own : (k : ℕ) → k < i → HasBit words width (head_of edges (number_at order k)) (number_at order k)
  pub more : (k f : ℕ) → k < i → f < length edges → Meets edges f (tail_of edges (number_at order k)) → HasBit words width (head_of edges (number_at order k)) f

-- no bit is set among zeros
clear_row : (n width w f : ℕ) → HasBit (replicate n 0) width w f → ⊥
clear_row n width w f has =
    let zero_word : slice_index (replicate n 0) (w * width + f / 64) ≡ 0 = ⊎_elim
    (λ (inside : w * width + f / 64 < n). get_or-replicate n (w * width + f / 64) 0 0 inside)
    (λ (past : n ≤ w * width + f / 64). get_or_past (replicate n 0) (w * width + f / 64) 0 (rw (length-replicate {A = ℕ}) past))
    (cases_lt (w * width + f / 64) n) in
    let none = rw (zero_word, bit_at-zero (f % 64)) at has in
    absurd (omega arith)

pub none_closed : (edges order : List (ℕ × ℕ)) (width n : ℕ) → ClosedSoFar edges order width (replicate n 0) 0
none_closed edges order width n = record {
  sound = λ f w inside has. absurd (clear_row n width w f has);
  own = λ k below. absurd (omega arith);
  more = λ k f below inside meets. absurd (omega arith);
}

module _ (edges order : List (ℕ × ℕ)) (width : ℕ) (words : List ℕ) (in_order : IsInOrder edges order) (wide : length edges ≤ 64 * width) where
  -- where the edges that lead to node u are entered, its row is complete
  bit_of : (i f u : ℕ) → ((k : ℕ) → k < length order → head_of edges (number_at order k) ≡ u → k < i) → ClosedSoFar edges order width words i → f < length edges → Meets edges f u → HasBit words width u f
  bit_of i f u entered so_far inside (inl here) =
      let place = in_order.every f inside in
      let has = so_far.own place.0 (entered place.0 place.1 (rw place.2 here)) in
      rw (place.2, here) at has
  bit_of i f u entered so_far inside (inr (first k edge)) =
      let place = in_order.every k edge.inside in
      let has = so_far.more place.0 f (entered place.0 place.1 (rw place.2 edge.head)) inside (inl (rw place.2 (sym edge.tail))) in
      rw (place.2, edge.head) at has
  bit_of i f u entered so_far inside (inr (next k before edge)) =
      let place = in_order.every k edge.inside in
      let has = so_far.more place.0 f (entered place.0 place.1 (rw place.2 edge.head)) inside (inr (rw (place.2, edge.tail) before)) in
      rw (place.2, edge.head) at has

  -- a path goes on by edge e
  meets_on : (f e : ℕ) → e < length edges → Meets edges f (tail_of edges e) → Comes edges (head_of edges f) (head_of edges e)
  meets_on f e inside (inl here) = first e (record { inside = inside; tail = sym here; head = refl })
  meets_on f e inside (inr comes) = next e comes (record { inside = inside; tail = refl; head = refl })

  pub closed_more : (i e : ℕ) (middle new : List ℕ) → i < length order → number_at order i ≡ e → e < length edges → ClosedSoFar edges order width words i → AddsRow width words middle (head_of edges e) (tail_of edges e) → AddsBit width middle new (head_of edges e) e → ClosedSoFar edges order width new (i + 1)
  closed_more i e middle new i_in is e_in so_far row bit = record {
    sound = λ f w inside has. ⊎_elim
        (λ (old : HasBit middle width w f). ⊎_elim
        (λ (before : HasBit words width w f). so_far.sound f w inside before)
        (λ (taken : (w ≡ head_of edges e) × HasBit words width (tail_of edges e) f). rw taken.0 (inr (meets_on f e e_in (so_far.sound f (tail_of edges e) inside taken.1))))
        (row.only w f (omega arith) old))
        (λ (own : (w ≡ head_of edges e) × (f ≡ e)). rw (own.0, own.1) (inl refl))
        (bit.only w f (omega arith) has);
    own = λ k below. ⊎_elim
        (λ (before : k < i). bit.kept (head_of edges (number_at order k)) (number_at order k) (row.kept (head_of edges (number_at order k)) (number_at order k) (so_far.own k before)))
        (λ (last : i ≤ k). let same : k ≡ i = omega arith in rw (same, is) bit.added)
        (cases_lt k i);
    more = λ k f below inside meets. ⊎_elim
        (λ (before : k < i). bit.kept (head_of edges (number_at order k)) f (row.kept (head_of edges (number_at order k)) f (so_far.more k f before inside meets)))
        (λ (last : i ≤ k).
        let same : k ≡ i = omega arith in
        let to_tail = rw (same, is) at meets in
        let at_tail = bit_of i f (tail_of edges e) (λ j j_in leads. in_order.behind i j i_in j_in (rw is leads)) so_far inside to_tail in
        rw (same, is) (bit.kept (head_of edges e) f (row.added f (omega arith) at_tail)))
        (cases_lt k i);
  }

  pub own_closure_of : (i : ℕ) → length order ≤ i → ClosedSoFar edges order width words i → IsOwnClosure edges width words
  own_closure_of i all so_far = λ f w inside. (
    (λ has. ⊎_elim
        (λ (here : head_of edges f ≡ w). inl here)
        (λ (comes : Comes edges (head_of edges f) w). inr (path_of edges comes))
        (so_far.sound f w inside has)),
    (λ path. bit_of i f w (λ k k_in leads. omega arith) so_far inside (⊎_elim
        (λ (here : head_of edges f ≡ w). inl here)
        (λ path. inr (comes_by edges (head_of edges f) w path.0 path.1))
        path)),
  )

-- the first i edges are taken out of the rows of their heads
pub record DroppedSoFar (edges : List (ℕ × ℕ)) (width : ℕ) (old words : List ℕ) (i : ℕ) : Type 0 where
  pub kept : (f w : ℕ) → f < length edges → HasBit old width w f → (head_of edges f ≡ w → ⊥) → HasBit words width w f
  pub gone : (f : ℕ) → f < i → HasBit words width (head_of edges f) f → ⊥
  pub only : (f w : ℕ) → HasBit words width w f → HasBit old width w f

pub none_dropped : (edges : List (ℕ × ℕ)) (width : ℕ) (old : List ℕ) → DroppedSoFar edges width old old 0
none_dropped edges width old = record {
  kept = λ f w inside has apart. has;
  gone = λ f below. absurd (omega arith);
  only = λ f w has. has;
}

module _ (edges : List (ℕ × ℕ)) (width : ℕ) (old words : List ℕ) (wide : length edges ≤ 64 * width) where
  pub dropped_more : (i : ℕ) (new : List ℕ) → DroppedSoFar edges width old words i → DropsBit width words new (head_of edges i) i → DroppedSoFar edges width old new (i + 1)
  dropped_more i new so_far drop = record {
    kept = λ f w inside has apart. drop.kept w f (omega arith) (so_far.kept f w inside has apart) (λ both. apart (rw both.1 (sym both.0)));
    gone = λ f below has. ⊎_elim
        (λ (before : f < i). so_far.gone f before (drop.only (head_of edges f) f has))
        (λ (last : i ≤ f). let same : f ≡ i = omega arith in drop.gone (rw same at has))
        (cases_lt f i);
    only = λ f w has. so_far.only f w (drop.only w f has);
  }

  -- ranks rise along each edge, and so along each path
  rising_path : (ranks : List ℕ) → All (λ (edge : ℕ × ℕ). slice_index ranks edge.0 < slice_index ranks edge.1) edges → {v w : ℕ} → Comes edges v w → slice_index ranks v < slice_index ranks w
  rising_path ranks rising (first k edge) = let up = rising k (0, 0) edge.inside in rw (edge.tail, edge.head) at up
  rising_path ranks rising (next k before edge) =
      let up = rising k (0, 0) edge.inside in
      let last = rw (edge.tail, edge.head) at up in
      let so_far = rising_path ranks rising before in
      omega arith

  pub closure_of : (ranks : List ℕ) → All (λ (edge : ℕ × ℕ). slice_index ranks edge.0 < slice_index ranks edge.1) edges → (i : ℕ) → length edges ≤ i → IsOwnClosure edges width old → DroppedSoFar edges width old words i → IsClosure edges width words
  closure_of ranks rising i all own so_far = λ f w inside. (
    (λ has. ⊎_elim
        (λ (here : head_of edges f ≡ w). absurd (so_far.gone f (omega arith) (rw here has)))
        (λ path. path)
        ((own f w inside).0 (so_far.only f w has))),
    (λ path. so_far.kept f w inside ((own f w inside).1 (inr path)) (λ here.
        let up = rising_path ranks rising (comes_by edges (head_of edges f) w path.0 path.1) in
        let down = rw here at up in
        absurd (omega arith))),
  )
