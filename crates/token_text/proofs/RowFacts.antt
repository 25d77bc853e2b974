-- A row as its first field and, after it, each other field behind a comma.
use Rattle.std.proofs.Common.{◌≡◌, ◌+◌, ◌<◌, ◌∷◌, ◌++◌, [], ℕ, ℤ, pos, List, length, get_or, add-one, map, drop, codes, refl, sym, ap, ◌∙◌, append_assoc}
use Rattle.std.proofs.Math.Seq.{drop-cons}
use Rattle.std.proofs.lemmas.List.{append-nil}
use Rattle.std.specs.Fmt.{decimal, signed_decimal}
use Rattle.std.specs.List.{join_with_byte}
use Rattle.token_text.specs.Rows.{param_text, row_of, tokens_text}

abbrev pub after_commas : List (List ℕ) → List ℕ
after_commas [] = []
after_commas (x ∷ xs) = 44 ∷ (x ++ after_commas xs)

join-first : (x : List ℕ) (xs : List (List ℕ)) → join_with_byte 44 (x ∷ xs) ≡ x ++ after_commas xs
join-first x [] = sym (append-nil x)
join-first x (y ∷ ys) = ap (λ t. x ++ (44 ∷ t)) (join-first y ys)

row_of-first : (x : List ℕ) (xs : List (List ℕ)) → row_of (x ∷ xs) ≡ x ++ (after_commas xs ++ 10 ∷ [])
row_of-first x xs = ap (λ t. t ++ 10 ∷ []) (join-first x xs) ∙ append_assoc x (after_commas xs) (10 ∷ [])

pub tokens_text-parts : (iteration : ℕ) (name : List ℕ) (tokens : List ℤ)
    → tokens_text iteration name tokens ≡ (codes "tokens," ++ (decimal iteration ++ (44 ∷ name))) ++ (after_commas (map signed_decimal tokens) ++ 10 ∷ [])
unfolding tokens_text
tokens_text-parts iteration name tokens =
    row_of-first (codes "tokens") (decimal iteration ∷ name ∷ map signed_decimal tokens) ∙ simp append_assoc

pub param_text-parts : (iteration : ℕ) (path name : List ℕ) (value : ℤ)
    → param_text iteration path name value ≡ (codes "param," ++ (decimal iteration ++ (44 ∷ path))) ++ (44 ∷ (name ++ (44 ∷ (signed_decimal value ++ (10 ∷ [])))))
unfolding param_text
param_text-parts iteration path name value =
    row_of-first (codes "param") (decimal iteration ∷ path ∷ name ∷ signed_decimal value ∷ []) ∙ simp append_assoc

-- a row of tokens that was written so far, where those from i on are left
pub record IsWrittenTo (old row text : List ℕ) (tokens : List ℤ) (i : ℕ) : Type 0 where
  pub whole : text ++ (after_commas (map signed_decimal (drop i tokens)) ++ 10 ∷ []) ≡ old ++ row
  pub more : List ℕ
  pub begun : text ≡ old ++ more

pub written-start : (old head row text : List ℕ) (tokens : List ℤ) → row ≡ head ++ (after_commas (map signed_decimal tokens) ++ 10 ∷ [])
    → text ≡ old ++ head → IsWrittenTo old row text tokens 0
written-start old head row text tokens e start = record {
  whole = rw (start, e) (append_assoc old head (after_commas (map signed_decimal tokens) ++ 10 ∷ []));
  more = head;
  begun = start;
}

pub written-more : (old row text : List ℕ) (tokens : List ℤ) (i : ℕ) (next : List ℕ) (z : ℤ) → IsWrittenTo old row text tokens i
    → drop i tokens ≡ z ∷ drop (i + 1) tokens → next ≡ text ++ 44 ∷ signed_decimal z → IsWrittenTo old row next tokens (i + 1)
written-more old row text tokens i next z h e grown =
    let whole = rw e at h.whole in
    record {
      whole = ap (λ t. t ++ (after_commas (map signed_decimal (drop (i + 1) tokens)) ++ 10 ∷ [])) grown
          ∙ append_assoc text (44 ∷ signed_decimal z) (after_commas (map signed_decimal (drop (i + 1) tokens)) ++ 10 ∷ [])
          ∙ ap (λ t. text ++ (44 ∷ t)) (sym (append_assoc (signed_decimal z) (after_commas (map signed_decimal (drop (i + 1) tokens))) (10 ∷ [])))
          ∙ whole;
      more = h.more ++ 44 ∷ signed_decimal z;
      begun = grown ∙ ap (λ t. t ++ 44 ∷ signed_decimal z) h.begun ∙ append_assoc old h.more (44 ∷ signed_decimal z);
    }

pub written-end : (old row text : List ℕ) (tokens : List ℤ) (i : ℕ) → IsWrittenTo old row text tokens i → drop i tokens ≡ [] → text ++ 10 ∷ [] ≡ old ++ row
written-end old row text tokens i h e = rw e at h.whole

pub one-left : (tokens : List ℤ) (i : ℕ) → i < length tokens → drop i tokens ≡ get_or tokens i (pos 0) ∷ drop (i + 1) tokens
one-left tokens i h = rw (add-one, drop-cons tokens i (pos 0)) refl
