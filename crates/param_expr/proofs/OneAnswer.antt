-- A text has one answer.
use Rattle.std.proofs.Common.{◌≡◌, ℕ, List, [], ◌∷◌, ◌++◌, Option, Some, None, Result, Ok, Err, inl, inr, refl, sym, ap, ◌∙◌, append_assoc, arith}
use Rattle.std.proofs.lemmas.List.{append-nil}
use Rattle.param_expr.specs.Named.{NamedTree}
use Rattle.param_expr.specs.Tokens.{Placed, tokens_of, plain_tokens}
use Rattle.param_expr.specs.Grammar.{Spells}
use Rattle.param_expr.specs.Parse.{BeginsSum, StopsAtToken, StopsAt, Answers, UnlessMemory, SameUnlessMemory, first_large}
use Rattle.param_expr.specs.declared.fault.ExprFault.{ExprFault}
use Rattle.param_expr.specs.declared.fault.ExprFault.TheVariants.{Syntax, TooLarge, TooDeep, TooLong, Memory}
use Rattle.param_expr.proofs.Spelled.{one_tree}
use Rattle.param_expr.proofs.Walks.{plain-append}

pub one_spelled : (text : List ℕ) (a b : NamedTree) → Spells text a → Spells text b → a ≡ b
one_spelled text a b h k = sym h.tree_is ∙ one_tree h.sum k.sum (h.tokens_are ∙ sym k.tokens_are) ∙ k.tree_is

-- ---- places where a text stops

-- a cut stands at another's place, before it or after it
data Cuts (a : List Placed) (p : Placed) (b : List Placed) (q : Placed) : Type 0 where
  same : p ≡ q → Cuts a p b q
  sooner : (m : List Placed) → b ≡ (a ++ p ∷ []) ++ m → Cuts a p b q
  later : (m : List Placed) → a ≡ (b ++ q ∷ []) ++ m → Cuts a p b q

cons_head : (p q : Placed) (x y : List Placed) → p ∷ x ≡ q ∷ y → p ≡ q
cons_head p q x y e = cc

cons_tail : (p q : Placed) (x y : List Placed) → p ∷ x ≡ q ∷ y → x ≡ y
cons_tail p q x y e = cc

cuts_more : (r s : Placed) (a : List Placed) (p : Placed) (b : List Placed) (q : Placed) → r ≡ s → Cuts a p b q → Cuts (r ∷ a) p (s ∷ b) q
cuts_more r s a p b q e (same h) = same h
cuts_more r s a p b q e (sooner m h) = sooner m (ap (λ t. t ∷ b) (sym e) ∙ ap (λ xs. r ∷ xs) h)
cuts_more r s a p b q e (later m h) = later m (ap (λ t. t ∷ a) e ∙ ap (λ xs. s ∷ xs) h)

cuts : (a : List Placed) (p : Placed) (x b : List Placed) (q : Placed) (y : List Placed) → a ++ p ∷ x ≡ b ++ q ∷ y → Cuts a p b q
cuts [] p x [] q y e = same (cons_head p q x y e)
cuts [] p x (s ∷ b) q y e = sooner b (ap (λ t. t ∷ b) (sym (cons_head p s x _ e)))
cuts (r ∷ a) p x [] q y e = later a (ap (λ t. t ∷ a) (cons_head r q _ y e))
cuts (r ∷ a) p x (s ∷ b) q y e = cuts_more r s a p b q (cons_head r s _ _ e) (cuts a p x b q y (cons_tail r s _ _ e))

-- the front of what begins a sum begins one
begins_front : (front more : List Placed) (all : List Placed) → all ≡ front ++ more → BeginsSum (plain_tokens all) → BeginsSum (plain_tokens front)
begins_front front more all e h = record {
  more = plain_tokens more ++ h.more;
  sum = h.sum;
  is = h.is ∙ ap (λ ts. plain_tokens ts ++ h.more) e ∙ ap (λ ts. ts ++ h.more) (plain-append front more) ∙ append_assoc (plain_tokens front) (plain_tokens more) h.more;
}

spelled_begins : (text : List ℕ) (expr : NamedTree) → Spells text expr → BeginsSum (plain_tokens (tokens_of text))
spelled_begins text expr h = record { more = []; sum = h.sum; is = h.tokens_are ∙ sym (append-nil (plain_tokens (tokens_of text))) }

cut_front : (text : List ℕ) (at : ℕ) (h : StopsAtToken text at) → tokens_of text ≡ (h.before ++ h.stop ∷ []) ++ h.after
cut_front text at h = h.cut ∙ sym (append_assoc h.before (h.stop ∷ []) h.after)

not_whole : (text : List ℕ) (at : ℕ) → StopsAtToken text at → BeginsSum (plain_tokens (tokens_of text)) → ⊥
not_whole text at h begins = h.stops (begins_front (h.before ++ h.stop ∷ []) h.after (tokens_of text) (cut_front text at h) begins)

one_token : (text : List ℕ) (m n : ℕ) (h : StopsAtToken text m) (k : StopsAtToken text n) → Cuts h.before h.stop k.before k.stop → m ≡ n
one_token text m n h k (same e) = sym h.place ∙ ap (λ (p : Placed). p.at) e ∙ k.place
one_token text m n h k (sooner more e) = absurd (h.stops (begins_front (h.before ++ h.stop ∷ []) more k.before e k.fits))
one_token text m n h k (later more e) = absurd (k.stops (begins_front (k.before ++ k.stop ∷ []) more h.before e h.fits))

one_stop : (text : List ℕ) (m n : ℕ) → StopsAt text m → StopsAt text n → m ≡ n
one_stop text m n (inl h) (inl k) = one_token text m n h k (cuts h.before h.stop h.after k.before k.stop k.after (sym h.cut ∙ k.cut))
one_stop text m n (inl h) (inr k) = absurd (not_whole text m h k.fits)
one_stop text m n (inr h) (inl k) = absurd (not_whole text n k h.fits)
one_stop text m n (inr h) (inr k) = sym h.place ∙ k.place

spelled_goes_on : (text : List ℕ) (at : ℕ) (expr : NamedTree) → StopsAt text at → Spells text expr → ⊥
spelled_goes_on text at expr (inl h) k = not_whole text at h (spelled_begins text expr k)
spelled_goes_on text at expr (inr h) k = h.stops expr k

-- ---- the answers

some_none : {A : Type 0} (o : Option A) (x : A) → o ≡ Some x → o ≡ None → ⊥
some_none o x h k = absurd cc

some_place : (o : Option ℕ) (m n : ℕ) → o ≡ Some m → o ≡ Some n → m ≡ n
some_place o m n h k = cc

pub one_answer : (text : List ℕ) (a b : Result NamedTree ExprFault) → UnlessMemory (Answers text) a → Answers text b → SameUnlessMemory a b
one_answer text (Err Memory) b h k = tt
one_answer text (Err TooLong) (Err TooLong) h k = refl
one_answer text (Err TooLong) (Err (Syntax at)) h k = absurd (let short = k.0 in omega arith)
one_answer text (Err TooLong) (Err (TooLarge at)) h k = absurd (let short = k.0.short in omega arith)
one_answer text (Err TooLong) (Err TooDeep) h k = absurd (let short = k.0.short in omega arith)
one_answer text (Err TooLong) (Ok expr) h k = absurd (let short = k.0 in omega arith)
one_answer text (Err TooLong) (Err Memory) h k = absurd k
one_answer text (Err (Syntax at)) (Err TooLong) h k = absurd (let short = h.0 in omega arith)
one_answer text (Err (Syntax at)) (Err (Syntax place)) h k = ap (λ n. Err (Syntax n)) (one_stop text place at k.1 h.1)
one_answer text (Err (Syntax at)) (Err (TooLarge place)) h k = absurd (spelled_goes_on text at k.0.expr h.1 k.0.spelled)
one_answer text (Err (Syntax at)) (Err TooDeep) h k = absurd (spelled_goes_on text at k.0.expr h.1 k.0.spelled)
one_answer text (Err (Syntax at)) (Ok expr) h k = absurd (spelled_goes_on text at expr h.1 k.1)
one_answer text (Err (Syntax at)) (Err Memory) h k = absurd k
one_answer text (Err (TooLarge at)) (Err TooLong) h k = absurd (let short = h.0.short in omega arith)
one_answer text (Err (TooLarge at)) (Err (Syntax place)) h k = absurd (spelled_goes_on text place h.0.expr k.1 h.0.spelled)
one_answer text (Err (TooLarge at)) (Err (TooLarge place)) h k = ap (λ n. Err (TooLarge n)) (some_place (first_large (tokens_of text)) place at k.1 h.1)
one_answer text (Err (TooLarge at)) (Err TooDeep) h k = absurd (some_none (first_large (tokens_of text)) at h.1 k.1)
one_answer text (Err (TooLarge at)) (Ok expr) h k = absurd (some_none (first_large (tokens_of text)) at h.1 k.2)
one_answer text (Err (TooLarge at)) (Err Memory) h k = absurd k
one_answer text (Err TooDeep) (Err TooLong) h k = absurd (let short = h.0.short in omega arith)
one_answer text (Err TooDeep) (Err (Syntax place)) h k = absurd (spelled_goes_on text place h.0.expr k.1 h.0.spelled)
one_answer text (Err TooDeep) (Err (TooLarge place)) h k = absurd (some_none (first_large (tokens_of text)) place k.1 h.1)
one_answer text (Err TooDeep) (Err TooDeep) h k = refl
one_answer text (Err TooDeep) (Ok expr) h k = absurd (let deep = h.2 in let flat = k.3 in omega arith)
one_answer text (Err TooDeep) (Err Memory) h k = absurd k
one_answer text (Ok found) (Err TooLong) h k = absurd (let short = h.0 in omega arith)
one_answer text (Ok found) (Err (Syntax place)) h k = absurd (spelled_goes_on text place found k.1 h.1)
one_answer text (Ok found) (Err (TooLarge place)) h k = absurd (some_none (first_large (tokens_of text)) place k.1 h.2)
one_answer text (Ok found) (Err TooDeep) h k = absurd (let deep = k.2 in let flat = h.3 in omega arith)
one_answer text (Ok found) (Ok expr) h k = ap (λ t. Ok t) (one_spelled text expr found k.1 h.1)
one_answer text (Ok found) (Err Memory) h k = absurd k
