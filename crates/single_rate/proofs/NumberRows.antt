-- Rows of numbers: no two nodes share a place, so a number that is written changes no other.
use Rattle.std.proofs.Common.{◌≡◌, ℕ, zero, suc, ◌+◌, ◌*◌, ◌<◌, ◌==◌, true, false, ⊎_elim, ◌⊎◌, inl, inr, List, [], length, drop, set, slice_index, slice_index_or, if◌then◌else◌, refl, ap, sym, ◌∙◌, subst, arith}
use Rattle.std.proofs.lemmas.Bool.{cases_Bool, cases_eq, eq-eqb, ne_eqb}
use Rattle.std.proofs.lemmas.List.{get_or-set_same, get_or-set_other}
use Rattle.sdf_level.specs.declared.node.Node.{Node}
use Rattle.sdf_level.specs.declared.node.Node.TheVariants as node
use Rattle.single_rate.specs.Nodes.{same}
use Rattle.single_rate.specs.Expanded.{place_of}
use Rattle.single_rate.specs.Numbers.{row_of, column_of, number_in}
use Rattle.single_rate.proofs.Unique.{same-node, same-self}

-- the node that has this place
abbrev in_three : ℕ → ℕ → ℕ → Node
in_three zero x c = node.Firing x c
in_three (suc zero) x c = node.Fork x c
in_three (suc (suc zero)) x c = node.Join x c
in_three (suc (suc (suc r))) x c = in_three r (suc x) c

abbrev node_at : ℕ → ℕ → Node
node_at zero c = node.Source c
node_at (suc zero) c = node.Init c
node_at (suc (suc zero)) c = node.End c
node_at (suc (suc (suc zero))) c = node.Sink c
node_at (suc (suc (suc (suc zero)))) c = node.Broadcast c
node_at (suc (suc (suc (suc (suc zero))))) c = node.Round c
node_at (suc (suc (suc (suc (suc (suc r)))))) c = in_three r 0 c

three : (a x r c : ℕ) → in_three (3 * a + r) x c ≡ in_three r (a + x) c
three zero x r c = let e : 3 * 0 + r ≡ r = omega arith in let f : 0 + x ≡ x = omega arith in rw (e, f) refl
three (suc a) x r c = let e : 3 * suc a + r ≡ suc (suc (suc (3 * a + r))) = omega arith in let f : suc a + x ≡ a + suc x = omega arith in rw (e, f) (three a (suc x) r c)

at-six : (r c : ℕ) → node_at (r + 6) c ≡ in_three r 0 c
at-six r c = let e : r + 6 ≡ suc (suc (suc (suc (suc (suc r))))) = omega arith in rw e refl

found : (n : Node) → node_at (row_of n) (column_of n) ≡ n
found (node.Source s) = refl
found (node.Init l) = refl
found (node.End l) = refl
found (node.Sink t) = refl
found (node.Broadcast l) = refl
found (node.Round l) = refl
found (node.Firing a k) = let e : 3 * a + 6 ≡ (3 * a + 0) + 6 = omega arith in let f : a + 0 ≡ a = omega arith in rw e (at-six (3 * a + 0) k ∙ three a 0 0 k ∙ ap (λ x. node.Firing x k) f)
found (node.Fork l i) = let e : 3 * l + 7 ≡ (3 * l + 1) + 6 = omega arith in let f : l + 0 ≡ l = omega arith in rw e (at-six (3 * l + 1) i ∙ three l 0 1 i ∙ ap (λ x. node.Fork x i) f)
found (node.Join l j) = let e : 3 * l + 8 ≡ (3 * l + 2) + 6 = omega arith in let f : l + 0 ≡ l = omega arith in rw e (at-six (3 * l + 2) j ∙ three l 0 2 j ∙ ap (λ x. node.Join x j) f)

only : (m n : Node) → row_of m ≡ row_of n → column_of m ≡ column_of n → m ≡ n
only m n r c = sym (found m) ∙ ap (λ x. node_at x (column_of m)) r ∙ ap (node_at (row_of n)) c ∙ found n

-- a number written at a node's place is found there, and all others as before
pub written : (rows : List (List ℕ)) (row : List ℕ) (m n : Node) (v : ℕ) → row_of m < length rows → ((c : ℕ) → slice_index row c ≡ (if c == column_of m then v else slice_index (slice_index_or rows (row_of m) []) c)) →
    number_in (set rows (row_of m) row) n ≡ (if same n m then v else number_in rows n)
written rows row m n v inside is = go (cases_Bool (same n m))
  where
    own : slice_index_or (set rows (row_of m) row) (row_of m) [] ≡ row
    own = get_or-set_same rows (row_of m) row [] inside

    go : (same n m ≡ true) ⊎ (same n m ≡ false) → number_in (set rows (row_of m) row) n ≡ (if same n m then v else number_in rows n)
    go (inl s) = rw s (ap (number_in (set rows (row_of m) row)) (same-node n m s) ∙ ap (λ (x : List ℕ). slice_index x (column_of m)) own ∙ is (column_of m) ∙ rw (eq-eqb (column_of m) (column_of m) refl) refl)
    go (inr d) = rw d (⊎_elim
        (λ (r : row_of n ≡ row_of m).
        let other : column_of n ≡ column_of m → ⊥ = λ c. let P : Node → Type 0 = λ x. same n x ≡ true in let u : same n m ≡ true = subst P (only n m r c) (same-self n) in absurd (cc) in
        ap (λ x. slice_index (slice_index_or (set rows (row_of m) row) x []) (column_of n)) r
        ∙ ap (λ (x : List ℕ). slice_index x (column_of n)) own ∙ is (column_of n) ∙ rw (ne_eqb (column_of n) (column_of m) other) (ap (λ x. slice_index (slice_index_or rows x []) (column_of n)) (sym r)))
        (λ (r : row_of n ≡ row_of m → ⊥). ap (λ (x : List ℕ). slice_index x (column_of n)) (get_or-set_other rows (row_of m) (row_of n) row [] r))
        (cases_eq (row_of n) (row_of m)))

-- the nodes from place i on have their numbers
abbrev pub NumberedFrom : List Node → List (List ℕ) → ℕ → Type 0
NumberedFrom list rows i = (n : Node) → place_of (drop i list) n < length (drop i list) → number_in rows n ≡ i + place_of (drop i list) n
