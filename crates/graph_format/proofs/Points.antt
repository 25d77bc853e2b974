-- Texts that are cut at their first `.`.
use Rattle.std.proofs.Common.{◌≡◌, ◌≢◌, ℕ, zero, suc, ◌<◌, ◌==◌, ◌&&◌, List, [], ◌∷◌, ◌++◌, length, get_or, Bool, true, false, Option, Some, None, option_map, refl, ap, subst, arith}
use Rattle.std.proofs.lemmas.Bool.Decides.{nat_tests}
use Rattle.std.specs.List.{list_all}
use Rattle.param_expr.specs.Words.{is_word_byte, is_name, starts_with_letter}
use Rattle.graph_format.specs.Texts.{cut_at_point, put_in_front}

-- no byte is a `.`
abbrev pub Lacks : List ℕ → Type 0
Lacks bs = (i : ℕ) → i < length bs → get_or bs i 0 ≢ 46

lacks_rest : (b : ℕ) (bs : List ℕ) → Lacks (b ∷ bs) → Lacks bs
lacks_rest b bs h = λ i l. h (suc i) (omega arith)

is_point : (b : ℕ) → (b == 46) ≡ true → b ≡ 46
is_point b e = grind (arith, nat_tests)

pub cut_none : (text : List ℕ) → Lacks text → cut_at_point text ≡ None
cut_none [] h = refl
cut_none (b ∷ rest) h = go (b == 46) refl (cut_none rest (lacks_rest b rest h))
  where
    go : (t : Bool) → (b == 46) ≡ t → cut_at_point rest ≡ None → cut_at_point (b ∷ rest) ≡ None
    go true e more = absurd (h 0 (omega arith) (is_point b e))
    go false e more = rw (e, more) refl

pub cut_some : (front back : List ℕ) → Lacks front → cut_at_point (front ++ 46 ∷ back) ≡ Some (front, back)
cut_some [] back h = refl
cut_some (b ∷ rest) back h = go (b == 46) refl (cut_some rest back (lacks_rest b rest h))
  where
    go : (t : Bool) → (b == 46) ≡ t → cut_at_point (rest ++ 46 ∷ back) ≡ Some (rest, back) → cut_at_point (b ∷ (rest ++ 46 ∷ back)) ≡ Some (b ∷ rest, back)
    go true e more = absurd (h 0 (omega arith) (is_point b e))
    go false e more = rw (e, more) refl

joined_front : (b : ℕ) (rest : List ℕ) (o : Option (List ℕ × List ℕ)) (parts : List ℕ × List ℕ) → ((found : List ℕ × List ℕ) → o ≡ Some found → rest ≡ found.0 ++ 46 ∷ found.1) → option_map (put_in_front b) o ≡ Some parts → b ∷ rest ≡ parts.0 ++ 46 ∷ parts.1
joined_front b rest None parts h e = absurd cc
joined_front b rest (Some found) parts h e =
    let same : put_in_front b found ≡ parts = cc in
    subst (λ (p : List ℕ × List ℕ). b ∷ rest ≡ p.0 ++ 46 ∷ p.1) same (ap (λ l. b ∷ l) (h found refl))

abbrev some_parts : List ℕ × List ℕ → Option (List ℕ × List ℕ)
some_parts parts = Some parts

-- the parts, joined by a `.`, are the text
pub cut_joined : (text : List ℕ) (parts : List ℕ × List ℕ) → cut_at_point text ≡ Some parts → text ≡ parts.0 ++ 46 ∷ parts.1
cut_joined [] parts e = absurd cc
cut_joined (b ∷ rest) parts e = go (b == 46) refl (cut_joined rest)
  where
    go : (t : Bool) → (b == 46) ≡ t → ((found : List ℕ × List ℕ) → cut_at_point rest ≡ Some found → rest ≡ found.0 ++ 46 ∷ found.1) → b ∷ rest ≡ parts.0 ++ 46 ∷ parts.1
    go true t more =
        let here : some_parts ([], rest) ≡ Some parts = rw t at e in
        let same : ([], rest) ≡ parts = cc in
        subst (λ (p : List ℕ × List ℕ). b ∷ rest ≡ p.0 ++ 46 ∷ p.1) same (ap (λ n. n ∷ rest) (is_point b t))
    go false t more = joined_front b rest (cut_at_point rest) parts more (rw t at e)

and_left : (s t : Bool) → (s && t) ≡ true → s ≡ true
and_left true t e = refl
and_left false t e = absurd cc

and_right : (s t : Bool) → (s && t) ≡ true → t ≡ true
and_right true t e = e
and_right false t e = absurd cc

word_byte_no_point : (b : ℕ) → is_word_byte b ≡ true → b ≢ 46
word_byte_no_point b h e = let no : is_word_byte 46 ≡ true = rw e at h in absurd cc

word_lacks : (text : List ℕ) → list_all is_word_byte text ≡ true → Lacks text
word_lacks [] h = λ i l. absurd (omega arith)
word_lacks (b ∷ rest) h = at (word_lacks rest (and_right (is_word_byte b) (list_all is_word_byte rest) h))
  where
    at : Lacks rest → (i : ℕ) → i < length (b ∷ rest) → get_or (b ∷ rest) i 0 ≢ 46
    at more zero l = word_byte_no_point b (and_left (is_word_byte b) (list_all is_word_byte rest) h)
    at more (suc i) l = more i (omega arith)

pub name_lacks : (text : List ℕ) → is_name text ≡ true → Lacks text
name_lacks text h = word_lacks text (and_right (starts_with_letter text) (list_all is_word_byte text) (and_left _ _ (and_left _ _ h)))
