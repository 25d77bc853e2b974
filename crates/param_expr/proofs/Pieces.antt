-- The pieces that an operation is written of.
use Rattle.std.proofs.Common.{◌≡◌, ℕ, List, [], ◌++◌, Bool, true, false, cond, Result, Ok, Err, refl, sym, ap, ◌∙◌, append_assoc}
use Rattle.std.proofs.lemmas.List.{append-nil}
use Rattle.std.specs.Prelude.{nat_lt, codes, OnOk}
use Rattle.param_expr.specs.Named.{NamedTree, binary}
use Rattle.param_expr.specs.Pieces.{before_of, between_of, after_of, lhs_asks, rhs_asks}
use Rattle.param_expr.specs.Print.{level_of, operand, operand_text, operation_text}
use Rattle.param_expr.specs.declared.op.Op.{Op}
use Rattle.param_expr.specs.declared.op.Op.TheVariants.{Add, Sub, Mul, Div, Rem, Min, Max}

operation_pieces : (op : Op) (lhs rhs : ℕ → List ℕ) → operation_text op lhs rhs ≡ before_of op ++ (lhs (lhs_asks op) ++ (between_of op ++ (rhs (rhs_asks op) ++ after_of op)))
operation_pieces Add lhs rhs = simp append-nil
operation_pieces Sub lhs rhs = simp append-nil
operation_pieces Mul lhs rhs = simp append-nil
operation_pieces Div lhs rhs = simp append-nil
operation_pieces Rem lhs rhs = simp append-nil
operation_pieces Min lhs rhs = refl
operation_pieces Max lhs rhs = refl

in_pieces : (b : Bool) (before lhs between rhs after : List ℕ) → cond b (codes "(" ++ ((before ++ (lhs ++ (between ++ (rhs ++ after)))) ++ codes ")")) (before ++ (lhs ++ (between ++ (rhs ++ after)))) ≡ cond b (codes "(") [] ++ (before ++ (lhs ++ (between ++ (rhs ++ (after ++ cond b (codes ")") [])))))
in_pieces true before lhs between rhs after = simp append_assoc
in_pieces false before lhs between rhs after = simp append-nil

pub operand_pieces : (asked : ℕ) (op : Op) (x y : NamedTree) → operand asked (binary op x y) ≡ cond (nat_lt (level_of op) asked) (codes "(") [] ++ (before_of op ++ (operand (lhs_asks op) x ++ (between_of op ++ (operand (rhs_asks op) y ++ (after_of op ++ cond (nat_lt (level_of op) asked) (codes ")") [])))))
operand_pieces asked op x y =
    ap (operand_text asked (level_of op)) (operation_pieces op (λ n. operand n x) (λ n. operand n y))
    ∙ in_pieces (nat_lt (level_of op) asked) (before_of op) (operand (lhs_asks op) x) (between_of op) (operand (rhs_asks op) y) (after_of op)

pub appended : (old t1 t2 t3 t4 t5 t6 t7 a b c d e f g : List ℕ) → t1 ≡ old ++ a → t2 ≡ t1 ++ b → t3 ≡ t2 ++ c → t4 ≡ t3 ++ d → t5 ≡ t4 ++ e → t6 ≡ t5 ++ f → t7 ≡ t6 ++ g → t7 ≡ old ++ (a ++ (b ++ (c ++ (d ++ (e ++ (f ++ g))))))
appended old t1 t2 t3 t4 t5 t6 t7 a b c d e f g h1 h2 h3 h4 h5 h6 h7 = rw (h7, h6, h5, h4, h3, h2, h1) (simp append_assoc)

pub on_ok : {T E : Type 0} (r : Result T E) (A B : Type 0) → OnOk r A → (A → B) → OnOk r B
on_ok (Ok x) A B h f = f h
on_ok (Err e) A B h f = tt

-- an operation, written piece by piece
pub operation_written : (asked : ℕ) (op : Op) (x y whole : NamedTree) (lv la ra : ℕ) (old t1 t2 t3 t4 t5 t6 t7 o b m a g : List ℕ) → binary op x y ≡ whole → lv ≡ level_of op → la ≡ lhs_asks op → ra ≡ rhs_asks op → o ≡ cond (nat_lt lv asked) (codes "(") [] → b ≡ before_of op → m ≡ between_of op → a ≡ after_of op → g ≡ cond (nat_lt lv asked) (codes ")") [] → t1 ≡ old ++ o → t2 ≡ t1 ++ b → t3 ≡ t2 ++ operand la x → t4 ≡ t3 ++ m → t5 ≡ t4 ++ operand ra y → t6 ≡ t5 ++ a → t7 ≡ t6 ++ g → t7 ≡ old ++ operand asked whole
operation_written asked op x y whole lv la ra old t1 t2 t3 t4 t5 t6 t7 o b m a g e elv ela era eo eb em ea eg h1 h2 h3 h4 h5 h6 h7 =
    let pieces : o ++ (b ++ (operand la x ++ (m ++ (operand ra y ++ (a ++ g))))) ≡ operand asked (binary op x y) = rw (eo, eb, ela, em, era, ea, eg, elv) (sym (operand_pieces asked op x y)) in
    appended old t1 t2 t3 t4 t5 t6 t7 o b (operand la x) m (operand ra y) a g h1 h2 h3 h4 h5 h6 h7 ∙ ap (λ w. old ++ w) (pieces ∙ ap (operand asked) e)
