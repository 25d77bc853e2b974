-- A state is what some part of a sum leaves, and that part can be completed.
use Rattle.std.proofs.Common.{◌≡◌, ℕ, List, [], ◌∷◌, ◌++◌, Option, Some, None, ℤ, refl, sym, ap, ◌∙◌, append_assoc}
use Rattle.std.proofs.lemmas.List.{append-nil}
use Rattle.std.specs.Prelude.{option_map}
use Rattle.param_expr.specs.Named as tree
use Rattle.param_expr.specs.Named.{NamedTree}
use Rattle.param_expr.specs.Tokens.{Token, number, name, additive, multiplicative, function, left_paren, right_paren, comma, other}
use Rattle.param_expr.specs.Grammar.{Sum, Term, Factor, one_term, sum_of, one_factor, product_of, literal, named, group, call, sum_tokens, term_tokens, factor_tokens}
use Rattle.param_expr.specs.Parse.{BeginsSum}
use Rattle.param_expr.specs.Machine.{joined, sum_with, step, end_of}
use Rattle.param_expr.specs.declared.op.Op.{Op}
use Rattle.param_expr.specs.declared.symbol.Symbol.TheVariants.{Close, Comma}
use Rattle.param_expr.specs.declared.state.Lhs.{Lhs}
use Rattle.param_expr.specs.declared.state.Waiting.{Waiting}
use Rattle.param_expr.specs.declared.state.Opened.{Opened}
use Rattle.param_expr.specs.declared.state.Opened.TheVariants.{Group, First, Second}
use Rattle.param_expr.specs.declared.state.Outer.{Outer}
use Rattle.param_expr.specs.declared.state.State.{State}
use Rattle.param_expr.specs.declared.state.State.TheVariants.{Want, Called, Have}
use Rattle.param_expr.proofs.Spelled.{symbol_by, sum_by, term_by, factor_by}

-- ---- parts of a sum

pub record LeftSum : Type 0 where
  pub sum : Sum
  pub op : Op

pub record LeftTerm : Type 0 where
  pub term : Term
  pub op : Op

pub record Part : Type 0 where
  pub sum : Option LeftSum
  pub term : Option LeftTerm

pub data Began : Type 0 where
  in_group : Began
  in_first : Op → Began
  in_second : Op → Sum → Began

pub record Around : Type 0 where
  pub part : Part
  pub began : Began

pub data Half : Type 0 where
  want : Part → List Around → Half
  called : Op → Part → List Around → Half
  have : Part → Factor → List Around → Half

-- ---- their states

abbrev lhs_of_sum : (ℕ → Option ℤ) → LeftSum → Lhs
lhs_of_sum value l = record { operand = sum_by value l.sum; op = l.op }

abbrev lhs_of_term : (ℕ → Option ℤ) → LeftTerm → Lhs
lhs_of_term value l = record { operand = term_by value l.term; op = l.op }

abbrev waiting_of : (ℕ → Option ℤ) → Part → Waiting
waiting_of value p = record { sum = option_map (lhs_of_sum value) p.sum; term = option_map (lhs_of_term value) p.term }

abbrev opened_of : (ℕ → Option ℤ) → Began → Opened
opened_of value in_group = Group
opened_of value (in_first op) = First op
opened_of value (in_second op s) = Second op (sum_by value s)

abbrev outer_of : (ℕ → Option ℤ) → Around → Outer
outer_of value a = record { waiting = waiting_of value a.part; opened = opened_of value a.began }

abbrev outers_of : (ℕ → Option ℤ) → List Around → List Outer
outers_of value [] = []
outers_of value (a ∷ rest) = outer_of value a ∷ outers_of value rest

abbrev pub state_of : (ℕ → Option ℤ) → Half → State
state_of value (want p rest) = Want (waiting_of value p) (outers_of value rest)
state_of value (called op p rest) = Called op (waiting_of value p) (outers_of value rest)
state_of value (have p f rest) = Have (waiting_of value p) (factor_by value f) (outers_of value rest)

-- ---- their tokens

abbrev sum_front : Option LeftSum → List Token
sum_front None = []
sum_front (Some l) = sum_tokens l.sum ++ additive l.op ∷ []

abbrev term_front : Option LeftTerm → List Token
term_front None = []
term_front (Some l) = term_tokens l.term ++ multiplicative l.op ∷ []

abbrev front_of : Part → List Token
front_of p = sum_front p.sum ++ term_front p.term

abbrev began_tokens : Began → List Token
began_tokens in_group = left_paren ∷ []
began_tokens (in_first op) = function op ∷ left_paren ∷ []
began_tokens (in_second op s) = function op ∷ left_paren ∷ (sum_tokens s ++ comma ∷ [])

abbrev fronts : List Around → List Token
fronts [] = []
fronts (a ∷ rest) = fronts rest ++ (front_of a.part ++ began_tokens a.began)

abbrev pub half_tokens : Half → List Token
half_tokens (want p rest) = fronts rest ++ front_of p
half_tokens (called op p rest) = fronts rest ++ (front_of p ++ function op ∷ [])
half_tokens (have p f rest) = fronts rest ++ (front_of p ++ factor_tokens f)

-- ---- the whole that a part and a factor are

abbrev term_whole : Option LeftTerm → Factor → Term
term_whole None f = one_factor f
term_whole (Some l) f = product_of l.term l.op f

abbrev sum_whole : Option LeftSum → Term → Sum
sum_whole None t = one_term t
sum_whole (Some l) t = sum_of l.sum l.op t

abbrev pub whole : Part → Factor → Sum
whole p f = sum_whole p.sum (term_whole p.term f)

term_whole-tokens : (o : Option LeftTerm) (f : Factor) → term_tokens (term_whole o f) ≡ term_front o ++ factor_tokens f
term_whole-tokens None f = refl
term_whole-tokens (Some l) f = simp append_assoc

sum_whole-tokens : (o : Option LeftSum) (t : Term) → sum_tokens (sum_whole o t) ≡ sum_front o ++ term_tokens t
sum_whole-tokens None t = refl
sum_whole-tokens (Some l) t = simp append_assoc

pub whole-tokens : (p : Part) (f : Factor) → sum_tokens (whole p f) ≡ front_of p ++ factor_tokens f
whole-tokens p f = sum_whole-tokens p.sum (term_whole p.term f) ∙ ap (λ ts. sum_front p.sum ++ ts) (term_whole-tokens p.term f) ∙ sym (append_assoc (sum_front p.sum) (term_front p.term) (factor_tokens f))

term_whole-tree : (value : ℕ → Option ℤ) (o : Option LeftTerm) (f : Factor) → term_by value (term_whole o f) ≡ joined (option_map (lhs_of_term value) o) (factor_by value f)
term_whole-tree value None f = refl
term_whole-tree value (Some l) f = refl

sum_whole-tree : (value : ℕ → Option ℤ) (o : Option LeftSum) (t : Term) → sum_by value (sum_whole o t) ≡ joined (option_map (lhs_of_sum value) o) (term_by value t)
sum_whole-tree value None t = refl
sum_whole-tree value (Some l) t = refl

pub whole-tree : (value : ℕ → Option ℤ) (p : Part) (f : Factor) → sum_by value (whole p f) ≡ sum_with (waiting_of value p) (factor_by value f)
whole-tree value p f = sum_whole-tree value p.sum (term_whole p.term f) ∙ ap (joined (option_map (lhs_of_sum value) p.sum)) (term_whole-tree value p.term f)

abbrev no_part : Part
no_part = record { sum = None; term = None }

abbrev pub no_half : Half
no_half = want no_part []

-- ---- a step from half to half

pub record Next (value : ℕ → Option ℤ) (half : Half) (t : Token) (after : State) : Type 0 where
  pub half_after : Half
  pub state_is : state_of value half_after ≡ after
  pub tokens_are : half_tokens half_after ≡ half_tokens half ++ t ∷ []

some_same : {A : Type 0} (a b : A) → Some a ≡ Some b → a ≡ b
some_same a b e = cc

abbrev within : Part → Began → List Around → List Around
within q b rest = record { part = q; began = b } ∷ rest

group_tokens : (p : Part) (f : Factor) (q : Part) (rest : List Around) → half_tokens (have q (group (whole p f)) rest) ≡ half_tokens (have p f (within q in_group rest)) ++ right_paren ∷ []
group_tokens p f q rest = ap (λ ts. fronts rest ++ (front_of q ++ (left_paren ∷ (ts ++ right_paren ∷ [])))) (whole-tokens p f) ∙ simp append_assoc

call_tokens : (p : Part) (f : Factor) (q : Part) (op : Op) (s : Sum) (rest : List Around) → half_tokens (have q (call op s (whole p f)) rest) ≡ half_tokens (have p f (within q (in_second op s) rest)) ++ right_paren ∷ []
call_tokens p f q op s rest = ap (λ ts. fronts rest ++ (front_of q ++ (function op ∷ left_paren ∷ (sum_tokens s ++ comma ∷ (ts ++ right_paren ∷ []))))) (whole-tokens p f) ∙ simp append_assoc

comma_tokens : (p : Part) (f : Factor) (q : Part) (op : Op) (rest : List Around) → half_tokens (want no_part (within q (in_second op (whole p f)) rest)) ≡ half_tokens (have p f (within q (in_first op) rest)) ++ comma ∷ []
comma_tokens p f q op rest = ap (λ ts. (fronts rest ++ (front_of q ++ (function op ∷ left_paren ∷ (ts ++ comma ∷ [])))) ++ []) (whole-tokens p f) ∙ simp (append_assoc, append-nil)

close_step : (value : ℕ → Option ℤ) (p : Part) (f : Factor) (q : Part) (b : Began) (rest : List Around) (after : State) → step (state_of value (have p f (within q b rest))) Close ≡ Some after → Next value (have p f (within q b rest)) right_paren after
close_step value p f q in_group rest after e =
    record {
      half_after = have q (group (whole p f)) rest;
      state_is = ap (λ t. Have (waiting_of value q) t (outers_of value rest)) (whole-tree value p f) ∙ some_same _ _ e;
      tokens_are = group_tokens p f q rest;
    }
close_step value p f q (in_first op) rest after e = absurd cc
close_step value p f q (in_second op s) rest after e =
    record {
      half_after = have q (call op s (whole p f)) rest;
      state_is = ap (λ t. Have (waiting_of value q) (tree.binary op (sum_by value s) t) (outers_of value rest)) (whole-tree value p f) ∙ some_same _ _ e;
      tokens_are = call_tokens p f q op s rest;
    }

comma_step : (value : ℕ → Option ℤ) (p : Part) (f : Factor) (q : Part) (b : Began) (rest : List Around) (after : State) → step (state_of value (have p f (within q b rest))) Comma ≡ Some after → Next value (have p f (within q b rest)) comma after
comma_step value p f q in_group rest after e = absurd cc
comma_step value p f q (in_first op) rest after e =
    record {
      half_after = want no_part (within q (in_second op (whole p f)) rest);
      state_is = ap (λ t. Want (waiting_of value no_part) (record { waiting = waiting_of value q; opened = Second op t } ∷ outers_of value rest)) (whole-tree value p f) ∙ some_same _ _ e;
      tokens_are = comma_tokens p f q op rest;
    }
comma_step value p f q (in_second op s) rest after e = absurd cc

pub half_step : (value : ℕ → Option ℤ) (half : Half) (t : Token) (after : State) → step (state_of value half) (symbol_by value t) ≡ Some after → Next value half t after
half_step value (want p rest) (number n) after e =
    record { half_after = have p (literal n) rest; state_is = some_same _ _ e; tokens_are = simp append_assoc }
half_step value (want p rest) (name w) after e =
    record { half_after = have p (named w) rest; state_is = some_same _ _ e; tokens_are = simp append_assoc }
half_step value (want p rest) (function op) after e =
    record { half_after = called op p rest; state_is = some_same _ _ e; tokens_are = simp append_assoc }
half_step value (want p rest) left_paren after e =
    record { half_after = want no_part (record { part = p; began = in_group } ∷ rest); state_is = some_same _ _ e; tokens_are = simp (append_assoc, append-nil) }
half_step value (want p rest) (additive op) after e = absurd cc
half_step value (want p rest) (multiplicative op) after e = absurd cc
half_step value (want p rest) right_paren after e = absurd cc
half_step value (want p rest) comma after e = absurd cc
half_step value (want p rest) other after e = absurd cc
half_step value (called op p rest) left_paren after e =
    record { half_after = want no_part (record { part = p; began = in_first op } ∷ rest); state_is = some_same _ _ e; tokens_are = simp (append_assoc, append-nil) }
half_step value (called op p rest) (number n) after e = absurd cc
half_step value (called op p rest) (name w) after e = absurd cc
half_step value (called op p rest) (additive o) after e = absurd cc
half_step value (called op p rest) (multiplicative o) after e = absurd cc
half_step value (called op p rest) (function o) after e = absurd cc
half_step value (called op p rest) right_paren after e = absurd cc
half_step value (called op p rest) comma after e = absurd cc
half_step value (called op p rest) other after e = absurd cc
half_step value (have p f rest) (additive op) after e =
    record {
      half_after = want (record { sum = Some (record { sum = whole p f; op = op }); term = None }) rest;
      state_is = ap (λ t. Want (record { sum = Some (record { operand = t; op = op }); term = None }) (outers_of value rest)) (whole-tree value p f) ∙ some_same _ _ e;
      tokens_are = ap (λ ts. fronts rest ++ ((ts ++ additive op ∷ []) ++ [])) (whole-tokens p f) ∙ simp (append_assoc, append-nil);
    }
half_step value (have p f rest) (multiplicative op) after e =
    record {
      half_after = want (record { sum = p.sum; term = Some (record { term = term_whole p.term f; op = op }) }) rest;
      state_is = ap (λ t. Want (record { sum = option_map (lhs_of_sum value) p.sum; term = Some (record { operand = t; op = op }) }) (outers_of value rest)) (term_whole-tree value p.term f) ∙ some_same _ _ e;
      tokens_are = ap (λ ts. fronts rest ++ (sum_front p.sum ++ (ts ++ multiplicative op ∷ []))) (term_whole-tokens p.term f) ∙ simp append_assoc;
    }
half_step value (have p f []) right_paren after e = absurd cc
half_step value (have p f (a ∷ rest)) right_paren after e = close_step value p f a.part a.began rest after e
half_step value (have p f []) comma after e = absurd cc
half_step value (have p f (a ∷ rest)) comma after e = comma_step value p f a.part a.began rest after e
half_step value (have p f rest) (number n) after e = absurd cc
half_step value (have p f rest) (name w) after e = absurd cc
half_step value (have p f rest) (function o) after e = absurd cc
half_step value (have p f rest) left_paren after e = absurd cc
half_step value (have p f rest) other after e = absurd cc

-- ---- the end

pub record Ended (value : ℕ → Option ℤ) (half : Half) (expr : NamedTree) : Type 0 where
  pub sum : Sum
  pub tokens_are : sum_tokens sum ≡ half_tokens half
  pub tree_is : sum_by value sum ≡ expr

pub half_end : (value : ℕ → Option ℤ) (half : Half) (expr : NamedTree) → end_of (state_of value half) ≡ Some expr → Ended value half expr
half_end value (want p rest) expr e = absurd cc
half_end value (called op p rest) expr e = absurd cc
half_end value (have p f []) expr e = record { sum = whole p f; tokens_are = whole-tokens p f; tree_is = whole-tree value p f ∙ some_same _ _ e }
half_end value (have p f (a ∷ rest)) expr e = absurd cc

-- ---- each part of a sum can be completed

begins_more : (tokens : List Token) (t : Token) (all : List Token) → all ≡ tokens ++ t ∷ [] → BeginsSum all → BeginsSum tokens
begins_more tokens t all e h = record { more = t ∷ h.more; sum = h.sum; is = h.is ∙ ap (λ ts. ts ++ h.more) e ∙ append_assoc tokens (t ∷ []) h.more }

number_tokens : (p : Part) (n : ℕ) (rest : List Around) → half_tokens (have p (literal n) rest) ≡ half_tokens (want p rest) ++ number n ∷ []
number_tokens p n rest = simp append_assoc

opened_tokens : (op : Op) (p : Part) (rest : List Around) → half_tokens (want no_part (within p (in_first op) rest)) ≡ half_tokens (called op p rest) ++ left_paren ∷ []
opened_tokens op p rest = simp (append_assoc, append-nil)

begins_within : (rest : List Around) → ((q : Part) (g : Factor) → BeginsSum (half_tokens (have q g rest))) → (p : Part) (f : Factor) (q : Part) (b : Began) → BeginsSum (half_tokens (have p f (within q b rest)))
begins_within rest outside p f q in_group = begins_more _ right_paren _ (group_tokens p f q rest) (outside q (group (whole p f)))
begins_within rest outside p f q (in_second op s) = begins_more _ right_paren _ (call_tokens p f q op s rest) (outside q (call op s (whole p f)))
begins_within rest outside p f q (in_first op) =
    begins_more _ comma _ (comma_tokens p f q op rest)
    (begins_more _ (number 0) _ (number_tokens no_part 0 (within q (in_second op (whole p f)) rest))
    (begins_more _ right_paren _ (call_tokens no_part (literal 0) q op (whole p f) rest) (outside q (call op (whole p f) (whole no_part (literal 0))))))

begins_have : (rest : List Around) (p : Part) (f : Factor) → BeginsSum (half_tokens (have p f rest))
begins_have [] p f = record { more = []; sum = whole p f; is = whole-tokens p f ∙ sym (append-nil (front_of p ++ factor_tokens f)) }
begins_have (a ∷ rest) p f = begins_within rest (λ q g. begins_have rest q g) p f a.part a.began

pub half_begins : (half : Half) → BeginsSum (half_tokens half)
half_begins (want p rest) = begins_more _ (number 0) _ (number_tokens p 0 rest) (begins_have rest p (literal 0))
half_begins (called op p rest) =
    begins_more _ left_paren _ (opened_tokens op p rest)
    (begins_more _ (number 0) _ (number_tokens no_part 0 (within p (in_first op) rest)) (begins_have (within p (in_first op) rest) no_part (literal 0)))
half_begins (have p f rest) = begins_have rest p f
