-- What is bound of an operation, from what is bound of its two sides.
use Rattle.std.proofs.Common.{◌≡◌, List, [], length, ◌<◌, Bool, true, false, cond, pos, negsuc, refl, subst, Option, Some, None, Result, Ok, Err, ℕ, sym, ap, ◌∙◌}
use Rattle.std.specs.Prelude.{is_none, unwrap_or, IfOk}
use Rattle.std.specs.Str.{bytes_eq}
use Rattle.std.proofs.lemmas.List.Quantifiers.{position-Some}
use Rattle.param_expr.specs.Eval.{RefersBelow}
use Rattle.param_expr.specs.Parse.{IsStated}
use Rattle.param_expr.specs.Print.{NonNegative}
use Rattle.std.proofs.lemmas.List.Folds.{find-append}
use Rattle.std.specs.Option.{option_or}
use Rattle.param_expr.specs.Tree as tree
use Rattle.param_expr.specs.Tree.{Tree}
use Rattle.param_expr.specs.Named.{NamedTree, number, name, binary}
use Rattle.param_expr.specs.Bind.{Binds, names_of, unknown_of, place_of, placed_in}
use Rattle.param_expr.specs.declared.op.Op.{Op}
use Rattle.param_expr.specs.declared.binding.BindFault.{BindFault}
use Rattle.param_expr.specs.declared.binding.BindFault.TheVariants.{Unknown, Memory}

-- the first unknown name stands in the left side, or else in the right one
unknown_of-binary : (names : List (List ℕ)) (op : Op) (a b : NamedTree) → unknown_of names (binary op a b) ≡ option_or (unknown_of names a) (unknown_of names b)
unknown_of-binary names op a b = find-append (λ w. is_none (place_of names w)) (names_of a) (names_of b)

-- an expression that is an operation fails as its left side does
pub lhs_fails : (names : List (List ℕ)) (expr : NamedTree) (op : Op) (a b : NamedTree) (fault : BindFault) → binary op a b ≡ expr → Binds names a (Err fault) → Binds names expr (Err fault)
lhs_fails names expr op a b Memory e h = tt
lhs_fails names expr op a b (Unknown w) e h = ap (unknown_of names) (sym e) ∙ unknown_of-binary names op a b ∙ ap (λ o. option_or o (unknown_of names b)) h

-- or else as its right side does
pub rhs_fails : (names : List (List ℕ)) (expr : NamedTree) (op : Op) (a b : NamedTree) (bound : Tree) (fault : BindFault) → binary op a b ≡ expr → Binds names a (Ok bound) → Binds names b (Err fault) → Binds names expr (Err fault)
rhs_fails names expr op a b bound Memory e h k = tt
rhs_fails names expr op a b bound (Unknown w) e h k = ap (unknown_of names) (sym e) ∙ unknown_of-binary names op a b ∙ ap (λ o. option_or o (unknown_of names b)) h.0 ∙ k

-- or is bound as both sides are
pub both_bind : (names : List (List ℕ)) (expr : NamedTree) (op : Op) (a b : NamedTree) (x y z : Tree) → binary op a b ≡ expr → Binds names a (Ok x) → Binds names b (Ok y) → z ≡ tree.binary op x y → Binds names expr (Ok z)
both_bind names expr op a b x y z e h k is = (
  ap (unknown_of names) (sym e) ∙ unknown_of-binary names op a b ∙ ap (λ o. option_or o (unknown_of names b)) h.0 ∙ k.0,
  is ∙ ap (λ t. tree.binary op t y) h.1 ∙ ap (tree.binary op (placed_in names a)) k.1 ∙ ap (placed_in names) e,
)

-- ---- what is bound

refers_at : (names : List (List ℕ)) (w : List ℕ) (o : Option ℕ) → place_of names w ≡ o → is_none o ≡ false → unwrap_or o 0 < length names
refers_at names w None e h = absurd cc
refers_at names w (Some i) e h = (position-Some (bytes_eq w) names i [] e).0

found_there : (b : Bool) (w : List ℕ) → cond b (Some w) None ≡ None → b ≡ false
found_there true w h = absurd cc
found_there false w h = refl

both_none : {A : Type 0} (a b : Option A) → option_or a b ≡ None → (a ≡ None) × (b ≡ None)
both_none None b h = (refl, h)
both_none (Some x) b h = absurd cc

placed_refers : (names : List (List ℕ)) (t : NamedTree) → unknown_of names t ≡ None → RefersBelow (length names) (placed_in names t)
placed_refers names (number z) h = tt
placed_refers names (name w) h = refers_at names w (place_of names w) refl (found_there (is_none (place_of names w)) w h)
placed_refers names (binary op a b) h =
    let p = both_none (unknown_of names a) (unknown_of names b) (sym (unknown_of-binary names op a b) ∙ h) in
    (placed_refers names a p.0, placed_refers names b p.1)

placed_numbers : (names : List (List ℕ)) (t : NamedTree) → IsStated t → NonNegative (placed_in names t)
placed_numbers names (number (pos n)) h = tt
placed_numbers names (number (negsuc n)) h = absurd h
placed_numbers names (name w) h = tt
placed_numbers names (binary op a b) h = (placed_numbers names a h.0, placed_numbers names b h.1)

pub bound_refers : (names : List (List ℕ)) (t : NamedTree) (r : Result Tree BindFault) → Binds names t r → IfOk r (λ expr. RefersBelow (length names) expr)
bound_refers names t (Ok expr) h = subst (RefersBelow (length names)) (sym h.1) (placed_refers names t h.0)
bound_refers names t (Err fault) h = tt

pub bound_numbers : (names : List (List ℕ)) (t : NamedTree) (r : Result Tree BindFault) → Binds names t r → IfOk r (λ expr. IsStated t → NonNegative expr)
bound_numbers names t (Ok expr) h = λ stated. subst NonNegative (sym h.1) (placed_numbers names t stated)
bound_numbers names t (Err fault) h = tt
