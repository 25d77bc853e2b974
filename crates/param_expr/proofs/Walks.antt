-- A run over the tokens of a text, against the grammar.
use Rattle.std.proofs.Common.{◌≡◌, ℕ, List, [], ◌∷◌, ◌++◌, Option, Some, None, Result, Ok, Err, inl, inr, refl, sym, ap, subst, ◌∙◌, append_assoc, length, Bool, true, false, cond}
use Rattle.std.proofs.lemmas.List.{append-nil}
use Rattle.std.specs.Prelude.{option_and_then}
use Rattle.param_expr.specs.Named.{NamedTree}
use Rattle.param_expr.specs.Tokens.{Token, Placed, tokens_of, plain_tokens, number, name, additive, multiplicative, function, left_paren, right_paren, comma, other}
use Rattle.param_expr.specs.Grammar.{Sum, sum_tokens, sum_tree, Spells}
use Rattle.param_expr.specs.Parse.{BeginsSum, StopsAt, is_large, first_large}
use Rattle.param_expr.specs.Machine.{limited, symbol_of, start, step, end_of, ended, next, run}
use Rattle.param_expr.specs.declared.state.State.{State}
use Rattle.param_expr.proofs.Spelled.{symbol_by, sum_by, accepts, sum_accepted, exactly, exact_accepted}
use Rattle.param_expr.proofs.Halves.{Half, no_half, state_of, half_tokens, half_step, half_end, half_begins}

same_symbol : (t : Token) → symbol_of t ≡ symbol_by limited t
same_symbol (number n) = refl
same_symbol (name w) = refl
same_symbol (additive op) = refl
same_symbol (multiplicative op) = refl
same_symbol (function op) = refl
same_symbol left_paren = refl
same_symbol right_paren = refl
same_symbol comma = refl
same_symbol other = refl

-- ---- how a state came about

record Trace (done : List Token) (state : State) : Type 0 where
  half : Half
  state_is : state_of limited half ≡ state
  tokens_are : half_tokens half ≡ done
  runs : (more : List Token) → accepts limited start (done ++ more) ≡ accepts limited state more

trace_start : Trace [] start
trace_start = record { half = no_half; state_is = refl; tokens_are = refl; runs = λ more. refl }

trace_step : (done : List Token) (state : State) (t : Token) (after : State) → Trace done state → step state (symbol_of t) ≡ Some after → Trace (done ++ t ∷ []) after
trace_step done state t after h goes =
    let here : step state (symbol_by limited t) ≡ Some after = ap (step state) (sym (same_symbol t)) ∙ goes in
    let n = half_step limited h.half t after (ap (λ s. step s (symbol_by limited t)) h.state_is ∙ here) in
    record {
      half = n.half_after;
      state_is = n.state_is;
      tokens_are = n.tokens_are ∙ ap (λ ts. ts ++ t ∷ []) h.tokens_are;
      runs = λ more. ap (accepts limited start) (append_assoc done (t ∷ []) more) ∙ h.runs (t ∷ more) ∙ ap (option_and_then (λ s. accepts limited s more)) here;
    }

pub plain-append : (a b : List Placed) → plain_tokens (a ++ b) ≡ plain_tokens a ++ plain_tokens b
plain-append [] b = refl
plain-append (p ∷ a) b = ap (λ ts. p.token ∷ ts) (plain-append a b)

trace_on : (before : List Placed) (p : Placed) (state after : State) → Trace (plain_tokens before) state → step state (symbol_of p.token) ≡ Some after → Trace (plain_tokens (before ++ p ∷ [])) after
trace_on before p state after h goes = subst (λ ts. Trace ts after) (sym (plain-append before (p ∷ []))) (trace_step (plain_tokens before) state p.token after h goes)

trace_begins : (done : List Token) (state : State) → Trace done state → BeginsSum done
trace_begins done state h = subst BeginsSum h.tokens_are (half_begins h.half)

-- ---- cases of a run

next_cases : {R : Type 0} (o : Option State) (at : ℕ) (more : State → Result NamedTree ℕ) (r : Result NamedTree ℕ) → next at more o ≡ r → ((after : State) → o ≡ Some after → more after ≡ r → R) → (o ≡ None → Err at ≡ r → R) → R
next_cases None at more r e some none = none refl e
next_cases (Some after) at more r e some none = some after refl e

ended_cases : {R : Type 0} (o : Option NamedTree) (at : ℕ) (r : Result NamedTree ℕ) → ended at o ≡ r → ((expr : NamedTree) → o ≡ Some expr → Ok expr ≡ r → R) → (o ≡ None → Err at ≡ r → R) → R
ended_cases None at r e some none = none refl e
ended_cases (Some expr) at r e some none = some expr refl e

ok_same : (a b : NamedTree) → (let r : Result NamedTree ℕ = Ok a in r) ≡ Ok b → a ≡ b
ok_same a b e = cc

err_same : (a b : ℕ) → (let r : Result NamedTree ℕ = Err a in r) ≡ Err b → a ≡ b
err_same a b e = cc

ok_is_no_err : {R : Type 0} (a : NamedTree) (b : ℕ) → (let r : Result NamedTree ℕ = Ok a in r) ≡ Err b → R
ok_is_no_err a b e = absurd cc

err_is_no_ok : {R : Type 0} (a : ℕ) (b : NamedTree) → (let r : Result NamedTree ℕ = Err a in r) ≡ Ok b → R
err_is_no_ok a b e = absurd cc

some_is_not_none : {A : Type 0} (a : A) → Some a ≡ None → ⊥
some_is_not_none a e = absurd cc

-- ---- a run that ends well

pub record Found (text : List ℕ) (expr : NamedTree) : Type 0 where
  pub sum : Sum
  pub tokens_are : sum_tokens sum ≡ plain_tokens (tokens_of text)
  pub tree_is : sum_by limited sum ≡ expr

finds : (text : List ℕ) (before placed : List Placed) (state : State) (expr : NamedTree) → tokens_of text ≡ before ++ placed → Trace (plain_tokens before) state → run (length text) state placed ≡ Ok expr → Found text expr
unfolding run
finds text before [] state expr cut h e =
    ended_cases (end_of state) (length text) (Ok expr) e
    (λ found is same.
    let end = half_end limited h.half found (ap end_of h.state_is ∙ is) in
    record { sum = end.sum; tokens_are = end.tokens_are ∙ h.tokens_are ∙ ap plain_tokens (sym (cut ∙ append-nil before)); tree_is = end.tree_is ∙ ok_same found expr same })
    (λ none e. err_is_no_ok (length text) expr e)
finds text before (p ∷ rest) state expr cut h e =
    next_cases (step state (symbol_of p.token)) p.at (λ after. run (length text) after rest) (Ok expr) e
    (λ after goes e. finds text (before ++ p ∷ []) rest after expr (cut ∙ sym (append_assoc before (p ∷ []) rest)) (trace_on before p state after h goes) e)
    (λ none e. err_is_no_ok p.at expr e)

-- ---- a run that stops

no_more : (before : List Placed) (p : Placed) (state : State) → Trace (plain_tokens before) state → step state (symbol_of p.token) ≡ None → BeginsSum (plain_tokens (before ++ p ∷ [])) → ⊥
no_more before p state h stops begins =
    let here : step state (symbol_by limited p.token) ≡ None = ap (step state) (sym (same_symbol p.token)) ∙ stops in
    some_is_not_none (sum_by limited begins.sum)
    (sym (sum_accepted limited begins.sum)
    ∙ ap (accepts limited start) (begins.is ∙ ap (λ ts. ts ++ begins.more) (plain-append before (p ∷ [])) ∙ append_assoc (plain_tokens before) (p.token ∷ []) begins.more)
    ∙ h.runs (p.token ∷ begins.more)
    ∙ ap (option_and_then (λ s. accepts limited s begins.more)) here)

no_end : (text : List ℕ) (before : List Placed) (state : State) → tokens_of text ≡ before → Trace (plain_tokens before) state → end_of state ≡ None → (expr : NamedTree) → Spells text expr → ⊥
no_end text before state cut h stops expr spells =
    some_is_not_none (sum_by limited spells.sum)
    (sym (sum_accepted limited spells.sum)
    ∙ ap (accepts limited start) (spells.tokens_are ∙ ap plain_tokens cut ∙ sym (append-nil (plain_tokens before)))
    ∙ h.runs []
    ∙ stops)

stops : (text : List ℕ) (before placed : List Placed) (state : State) (at : ℕ) → tokens_of text ≡ before ++ placed → Trace (plain_tokens before) state → run (length text) state placed ≡ Err at → StopsAt text at
unfolding run
stops text before [] state at cut h e =
    let whole : tokens_of text ≡ before = cut ∙ append-nil before in
    ended_cases (end_of state) (length text) (Err at) e
    (λ found is same. ok_is_no_err found at same)
    (λ none same. inr (record { place = err_same (length text) at same; fits = subst BeginsSum (ap plain_tokens (sym whole)) (trace_begins (plain_tokens before) state h); stops = no_end text before state whole h none }))
stops text before (p ∷ rest) state at cut h e =
    next_cases (step state (symbol_of p.token)) p.at (λ after. run (length text) after rest) (Err at) e
    (λ after goes e. stops text (before ++ p ∷ []) rest after at (cut ∙ sym (append_assoc before (p ∷ []) rest)) (trace_on before p state after h goes) e)
    (λ none same. inl (record { before = before; stop = p; after = rest; cut = cut; place = err_same p.at at same; fits = trace_begins (plain_tokens before) state h; stops = no_more before p state h none }))

pub run_finds : (text : List ℕ) (expr : NamedTree) → run (length text) start (tokens_of text) ≡ Ok expr → Found text expr
run_finds text expr e = finds text [] (tokens_of text) start expr refl trace_start e

pub run_stops : (text : List ℕ) (at : ℕ) → run (length text) start (tokens_of text) ≡ Err at → StopsAt text at
run_stops text at e = stops text [] (tokens_of text) start at refl trace_start e

-- ---- where no number is large, numbers are seen as they are

small_symbol : (t : Token) → is_large t ≡ false → symbol_by limited t ≡ symbol_by exactly t
small_symbol (number n) h = rw h refl
small_symbol (name w) h = refl
small_symbol (additive op) h = refl
small_symbol (multiplicative op) h = refl
small_symbol (function op) h = refl
small_symbol left_paren h = refl
small_symbol right_paren h = refl
small_symbol comma h = refl
small_symbol other h = refl

cond_none : {A : Type 0} (b : Bool) (x : A) (o : Option A) → cond b (Some x) o ≡ None → (b ≡ false) × (o ≡ None)
cond_none true x o e = absurd cc
cond_none false x o e = (refl, e)

then_same : {A B : Type 0} (o : Option A) (f g : A → Option B) → ((x : A) → f x ≡ g x) → option_and_then f o ≡ option_and_then g o
then_same None f g h = refl
then_same (Some x) f g h = h x

same_small : (placed : List Placed) (state : State) → first_large placed ≡ None → accepts limited state (plain_tokens placed) ≡ accepts exactly state (plain_tokens placed)
same_small [] state h = refl
same_small (p ∷ rest) state h =
    let parts = cond_none (is_large p.token) p.at (first_large rest) h in
    ap (λ s. option_and_then (λ after. accepts limited after (plain_tokens rest)) (step state s)) (small_symbol p.token parts.0)
    ∙ then_same (step state (symbol_by exactly p.token)) _ _ (λ after. same_small rest after parts.1)

some_same : {A : Type 0} (a b : A) → Some a ≡ Some b → a ≡ b
some_same a b e = cc

pub found_spells : (text : List ℕ) (expr : NamedTree) → Found text expr → first_large (tokens_of text) ≡ None → Spells text expr
found_spells text expr h small = record {
  sum = h.sum;
  tokens_are = h.tokens_are;
  tree_is = some_same _ _ (sym (exact_accepted h.sum) ∙ ap (accepts exactly start) h.tokens_are ∙ sym (same_small (tokens_of text) start small) ∙ sym (ap (accepts limited start) h.tokens_are) ∙ sum_accepted limited h.sum ∙ ap (λ t. Some t) h.tree_is);
}

pub found_some : (text : List ℕ) (expr : NamedTree) (h : Found text expr) → Spells text (sum_tree h.sum)
found_some text expr h = record { sum = h.sum; tokens_are = h.tokens_are; tree_is = refl }
