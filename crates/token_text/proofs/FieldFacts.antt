-- The fields of a record, one after the other, as tokens.
use Rattle.std.proofs.Common.{◌≡◌, ◌+◌, ◌∷◌, ◌++◌, [], ℕ, zero, suc, ℤ, List, Option, Some, None, drop, get_or, refl, sym, ap, ◌∙◌, append_assoc, add-one, option_map}
use Rattle.std.proofs.lemmas.List.{append-nil}
use Rattle.std.specs.List.{filter_map, position_from}
use Rattle.csv.specs.Records.{field_at}
use Rattle.token_text.specs.Token.{token_of}
use Rattle.token_text.specs.Records.{Record, token_fields}
use Rattle.token_text.specs.Streams.{is_no_token, number_fault, tokens_of}
use Rattle.token_text.specs.declared.fault.TokenFault.TheVariants.{Number}

pub field_at-some : (fields : Record) (i : ℕ) (f : List ℕ) → Some f ≡ field_at fields i → (drop i fields ≡ f ∷ drop (suc i) fields) × (get_or fields i [] ≡ f)
unfolding field_at
field_at-some [] i f e = cc e
field_at-some (x ∷ xs) zero f e = let same : f ≡ x = cc e in (ap (λ t. t ∷ xs) (sym same), sym same)
field_at-some (x ∷ xs) (suc i) f e = field_at-some xs i f e

pub field_at-none : (fields : Record) (i : ℕ) → ◌≡◌ {A = Option (List ℕ)} None (field_at fields i) → (drop i fields ≡ []) × (get_or fields i [] ≡ [])
unfolding field_at
field_at-none [] zero e = (refl, refl)
field_at-none [] (suc i) e = (refl, refl)
field_at-none (x ∷ xs) zero e = cc e
field_at-none (x ∷ xs) (suc i) e = field_at-none xs i e

-- the tokens of the fields before i, where the fields from i on decide the rest
pub record AreTokensTo (fields : Record) (i : ℕ) (tokens : List ℤ) : Type 0 where
  pub all : tokens ++ filter_map token_of (drop i fields) ≡ tokens_of fields
  pub fault : position_from is_no_token (i + 1) (drop i fields) ≡ position_from is_no_token 2 (token_fields fields)

pub tokens-start : (fields : Record) → AreTokensTo fields 1 []
tokens-start fields = record { all = refl; fault = refl }

pub tokens-more : (fields : Record) (i : ℕ) (tokens : List ℤ) (f : List ℕ) (v : ℤ) → AreTokensTo fields i tokens
    → drop i fields ≡ f ∷ drop (suc i) fields → Some v ≡ token_of f → AreTokensTo fields (i + 1) (tokens ++ v ∷ [])
tokens-more fields i tokens f v h e value =
    let all = rw (e, ← value) at h.all in
    let fault = rw (e, ← value) at h.fault in
    record {
      all = rw (add-one i) (append_assoc tokens (v ∷ []) (filter_map token_of (drop (suc i) fields)) ∙ all);
      fault = rw (add-one i) (rw (add-one i) at fault);
    }

pub tokens-end : (fields : Record) (row i : ℕ) (tokens : List ℤ) → AreTokensTo fields i tokens → drop i fields ≡ []
    → (number_fault row fields ≡ None) × (tokens ≡ tokens_of fields)
tokens-end fields row i tokens h e =
    let all = rw e at h.all in
    let fault = rw e at h.fault in
    (ap (option_map (λ field. Number row field)) (sym fault), sym (append-nil tokens) ∙ all)

pub tokens-fault : (fields : Record) (row i : ℕ) (tokens : List ℤ) (f : List ℕ) → AreTokensTo fields i tokens
    → drop i fields ≡ f ∷ drop (suc i) fields → None ≡ token_of f → number_fault row fields ≡ Some (Number row (i + 1))
tokens-fault fields row i tokens f h e none =
    let fault = rw (e, ← none) at h.fault in
    ap (option_map (λ field. Number row field)) (sym fault)
