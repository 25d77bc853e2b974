-- The laws of what is printed.
use Rattle.std.proofs.Common.{◌≡◌, ℕ, ◌+◌, ◌<◌, ◌≤◌, ◌^◌, zero, suc, List, [], ◌∷◌, ◌++◌, length, get_or, true, false, cond, Option, Some, None, pos, negsuc, refl, sym, ap, subst, ◌∙◌, arith}
use Rattle.std.proofs.lemmas.Bool.Decides.{nat_tests}
use Rattle.std.proofs.lemmas.Int.{ints}
use Rattle.std.proofs.lemmas.List.Elements.{All-get_or}
use Rattle.std.proofs.lemmas.List.Folds.{find-append}
use Rattle.std.proofs.lemmas.Bool.{false_from_ne_true}
use Rattle.std.proofs.lemmas.Iterator.Adapters.{position_from-zero}
use Rattle.std.proofs.lemmas.Slice.Eq.{bytes_eq-Decides}
use Rattle.std.specs.Option.{option_or}
use Rattle.std.specs.Prelude.{All, is_none, unwrap_or, IsTrue, Ok}
use Rattle.std.specs.List.{position_from}
use Rattle.std.specs.Str.{bytes_eq}
use Rattle.param_expr.specs.Eval.{RefersBelow, in_i64}
use Rattle.param_expr.specs.Tree as expr
use Rattle.param_expr.specs.Tree.{Tree}
use Rattle.param_expr.specs.Words.{IsName}
use Rattle.param_expr.specs.Grammar.{Spells}
use Rattle.param_expr.specs.Bind.{place_of, names_of, unknown_of, placed_in}
use Rattle.param_expr.specs.Print.{with_names, NonNegative, Differ, printed, operand, parentheses, has_no_leading_zeros, has_no_spaces, IsReadAgain, IsStatable}
use Rattle.param_expr.specs.Pieces.{HasSmallNumbers}
use Rattle.param_expr.specs.Named.{NamedTree}
use Rattle.param_expr.specs.Tokens.{tokens_of}
use Rattle.param_expr.specs.Parse.{Answers, first_large, most_open}
use Rattle.param_expr.proofs.Derived.{Writable}
use Rattle.param_expr.proofs.Written.{whole_operand, printed_spells, printed_zeros, printed_small, printed_spaces}
use Rattle.param_expr.proofs.Fewest.{printed_fewest}
use Rattle.param_expr.proofs.Flattest.{printed_flattest}
use Rattle.param_expr.proofs.Shortest.{printed_shortest}
use Rattle.param_expr.proofs.Stated.{spelled_writable}

-- ---- what can be printed

small_number : (n : ℕ) → IsTrue (in_i64 (pos n)) → n < 2 ^ 63
small_number n h = grind (arith, nat_tests, ints)

writable : (names : List (List ℕ)) (t : Tree) → RefersBelow (length names) t → All IsName names → NonNegative t → HasSmallNumbers t → Writable (with_names names t)
writable names (expr.number (pos n)) refers named h small = small_number n small
writable names (expr.number (negsuc n)) refers named h small = absurd h
writable names (expr.param i) refers named h small = All-get_or IsName names i [] refers named
writable names (expr.binary op a b) refers named h small = (writable names a refers.0 named h.0 small.0, writable names b refers.1 named h.1 small.1)

-- ---- names that differ are found again

same_bytes : (x : List ℕ) → bytes_eq x x ≡ true
same_bytes x = (bytes_eq-Decides x x).1 refl

other_bytes : (x y : List ℕ) → (x ≡ y → ⊥) → bytes_eq x y ≡ false
other_bytes x y h = false_from_ne_true (bytes_eq x y) (λ e. h ((bytes_eq-Decides x y).0 e))

first_place : (names : List (List ℕ)) (i k : ℕ) → i < length names → ((j : ℕ) → j < i → get_or names i [] ≡ get_or names j [] → ⊥) → position_from (bytes_eq (get_or names i [])) k names ≡ Some (k + i)
first_place [] i k h first = absurd (omega arith)
first_place (x ∷ names) zero k h first = rw same_bytes (ap (λ n. Some n) (omega arith))
first_place (x ∷ names) (suc i) k h first =
    let no = other_bytes (get_or names i []) x (first 0 (omega arith)) in
    ap (λ b. cond b (Some k) (position_from (bytes_eq (get_or names i [])) (k + 1) names)) no
    ∙ first_place names i (k + 1) (omega arith) (λ j below. first (suc j) (omega arith))
    ∙ ap (λ n. Some n) (omega arith)

pub place_again : (names : List (List ℕ)) (i : ℕ) → Differ names → i < length names → place_of names (get_or names i []) ≡ Some i
place_again names i differ h =
    position_from-zero (bytes_eq (get_or names i [])) names
    ∙ first_place names i 0 h (λ j below same. let one : i ≡ j = differ i j h (omega arith) same in omega arith)
    ∙ ap (λ n. Some n) (omega arith)

pub unknown_none : (names : List (List ℕ)) (t : Tree) → Differ names → RefersBelow (length names) t → unknown_of names (with_names names t) ≡ None
unknown_none names (expr.number z) differ h = refl
unknown_none names (expr.param i) differ h = ap (λ (o : Option ℕ). cond (is_none o) (Some (get_or names i [])) None) (place_again names i differ h)
unknown_none names (expr.binary op a b) differ h =
    find-append (λ w. is_none (place_of names w)) (names_of (with_names names a)) (names_of (with_names names b))
    ∙ ap (λ o. option_or o (unknown_of names (with_names names b))) (unknown_none names a differ h.0)
    ∙ unknown_none names b differ h.1

pub placed_again : (names : List (List ℕ)) (t : Tree) → Differ names → RefersBelow (length names) t → t ≡ placed_in names (with_names names t)
placed_again names (expr.number z) differ h = refl
placed_again names (expr.param i) differ h = ap (λ (o : Option ℕ). expr.param (unwrap_or o 0)) (sym (place_again names i differ h))
placed_again names (expr.binary op a b) differ h = ap (λ x. expr.binary op x b) (placed_again names a differ h.0) ∙ ap (expr.binary op (placed_in names (with_names names a))) (placed_again names b differ h.1)

-- ---- a text that was printed

-- what is printed is within the limits of parsing where any text of the tree is
pub printed_answers : (t : NamedTree) → IsStatable t → Answers (printed t) (Ok t)
printed_answers t k =
    let h : Writable t = spelled_writable k.text t k.answers.1 k.answers.2 in
    let short : length (printed t) ≤ length k.text = printed_shortest t h k.text k.answers.1 in
    let flat : most_open 0 (tokens_of (printed t)) ≤ most_open 0 (tokens_of k.text) = printed_flattest t h k.text k.answers.1 in
    (omega (arith, k.answers.0), printed_spells t h, printed_small t h, omega (arith, k.answers.3))

read_again : (names : List (List ℕ)) (t : Tree) → RefersBelow (length names) t → IsStatable (with_names names t) → Differ names → IsReadAgain (printed (with_names names t)) names t
read_again names t refers k differ = record {
  parsed = printed_answers (with_names names t) k;
  bound = (unknown_none names t differ refers, placed_again names t differ refers);
}

pub record Laws (text : List ℕ) (names : List (List ℕ)) (t : Tree) : Type 0 where
  pub spelled : Spells text (with_names names t)
  pub spaces : IsTrue (has_no_spaces text)
  pub zeros : IsTrue (has_no_leading_zeros text)
  pub small : first_large (tokens_of text) ≡ None
  pub fewest : (other : List ℕ) → Spells other (with_names names t) → parentheses text ≤ parentheses other
  pub flattest : (other : List ℕ) → Spells other (with_names names t) → most_open 0 (tokens_of text) ≤ most_open 0 (tokens_of other)
  pub shortest : (other : List ℕ) → Spells other (with_names names t) → length text ≤ length other
  pub again : IsStatable (with_names names t) → Differ names → IsReadAgain text names t

laws : (names : List (List ℕ)) (t : Tree) → RefersBelow (length names) t → Writable (with_names names t) → Laws (printed (with_names names t)) names t
laws names t refers h = record {
  spelled = printed_spells (with_names names t) h;
  spaces = printed_spaces (with_names names t) h;
  zeros = printed_zeros (with_names names t) h;
  small = printed_small (with_names names t) h;
  fewest = printed_fewest (with_names names t) h;
  flattest = printed_flattest (with_names names t) h;
  shortest = printed_shortest (with_names names t) h;
  again = read_again names t refers;
}

-- the laws of a text that was written whole
pub written_laws : (old text : List ℕ) (names : List (List ℕ)) (t : Tree) → old ≡ [] → text ≡ old ++ operand 0 (with_names names t) → RefersBelow (length names) t → All IsName names → NonNegative t → HasSmallNumbers t → Laws text names t
written_laws old text names t e is refers named h small =
    let whole : text ≡ printed (with_names names t) = is ∙ ap (λ o. o ++ operand 0 (with_names names t)) e ∙ whole_operand (with_names names t) in
    subst (λ bytes. Laws bytes names t) (sym whole) (laws names t refers (writable names t refers named h small))
