-- Lengths of what nodes give.
use Rattle.std.proofs.Common.{◌≡◌, ℕ, zero, suc, Bool, true, false, ⊎_elim, List, [], ◌∷◌, map, length, slice_index, slice_index_or, refl, ap, sym, ◌∙◌, arith}
use Rattle.std.specs.List.{AllByRecursion}
use Rattle.std.proofs.lemmas.Bool.{cases_Bool, cases_eq, eq-eqb, ne_eqb}
use Rattle.std.proofs.lemmas.List.{append-nil, length-append, length-map, map-append}
use Rattle.sdf_level.specs.LevelRun.{HasRate, HaveRates}
use Rattle.sdf_level.specs.declared.link.Link.{Link}
use Rattle.sdf_level.specs.declared.link.Tail.{Tail}
use Rattle.sdf_level.specs.declared.link.Tail.TheVariants as tail
use Rattle.sdf_level.specs.declared.single_rate.Edge.{Edge}
use Rattle.sdf_level.specs.declared.token_name.Maker.TheVariants as maker
use Rattle.special_actors.specs.Copying.{joined}
use Rattle.single_rate.specs.Names.{names_of, output_rate, outputs_below}
use Rattle.single_rate.specs.Ports.{ports_into, ports_from}
use Rattle.single_rate.proofs.NamesLengths.{length-names}
use Rattle.job_flow.specs.Frames.{sizes_out, edges_into, rates_below}
use Rattle.job_flow.proofs.Collected.{collected, Sized}

pub length-at : {A : Type 0} (xs : List (List A)) (p : ℕ) → length (slice_index_or xs p []) ≡ slice_index (map length xs) p
length-at [] p = refl
length-at (x ∷ xs) zero = refl
length-at (x ∷ xs) (suc p) = length-at xs p

-- outputs of the same lengths have the same rates
one-rate : {A B : Type 0} (a : ℕ) (xs : List (List A)) (ys : List (List B)) → map length xs ≡ map length ys → (x : Tail) → HasRate a ys x → HasRate a xs x
one-rate a xs ys same (tail.Source s) has = tt
one-rate a xs ys same (tail.Port b p r) has = λ is. length-at xs p ∙ ap (λ (l : List ℕ). slice_index l p) same ∙ sym (length-at ys p) ∙ has is

pub same-rates : {A B : Type 0} (a : ℕ) (xs : List (List A)) (ys : List (List B)) → map length xs ≡ map length ys → (links : List Link) → HaveRates a ys links → HaveRates a xs links
same-rates a xs ys same [] have = tt
same-rates a xs ys same (link ∷ links) have = (one-rate a xs ys same link.tail have.0, same-rates a xs ys same links have.1)

pub names-rates : (links : List Link) (a k n : ℕ) → map length (outputs_below links a k n) ≡ rates_below links a n
names-rates links a k zero = refl
names-rates links a k (suc n) = map-append length (outputs_below links a k n) (names_of (maker.Firing a k n) (output_rate a n links) ∷ []) ∙ rw (names-rates links a k n, length-names (maker.Firing a k n) 0 (output_rate a n links)) refl

-- lists of one token in place of these
pub alike : {A B : Type 0} → B → List (List A) → List (List B)
alike token [] = []
alike token (x ∷ xs) = map (λ y. token) x ∷ alike token xs

pub lengths-alike : {A B : Type 0} (token : B) (xs : List (List A)) → map length (alike token xs) ≡ map length xs
unfolding alike
lengths-alike token [] = refl
lengths-alike token (x ∷ xs) = rw (length-map x (λ y. token), lengths-alike token xs) refl

pub into-many : (es : List Edge) (n : ℕ) → edges_into es n ≡ length (ports_into es n)
into-many [] n = refl
into-many (e ∷ es) n = let later = into-many es n in ⊎_elim
    (λ (own : e.head ≡ n). rw (eq-eqb e.head n own) (omega arith))
    (λ (other : e.head ≡ n → ⊥). rw (ne_eqb e.head n other) (omega arith))
    (cases_eq e.head n)

pub from-many : (es : List Edge) (n : ℕ) → length (sizes_out es n) ≡ length (ports_from es n)
from-many [] n = refl
from-many (e ∷ es) n = let later = from-many es n in ⊎_elim
    (λ (own : e.tail ≡ n). rw (eq-eqb e.tail n own) (omega arith))
    (λ (other : e.tail ≡ n → ⊥). rw (ne_eqb e.tail n other) later)
    (cases_eq e.tail n)

module _ {T : Type 0} where
  pub collected-length : (f : Edge → List T) (test : Edge → Bool) (es : List Edge) (ys : List (List T)) → length ys ≡ length es → AllByRecursion (λ e. test e ≡ true → length (f e) ≡ e.size) es → Sized es ys → length (collected test es (map f es)) ≡ length (collected test es ys)
  collected-length f test [] ys long sizes sized = refl
  collected-length f test (e ∷ es) [] long sizes sized = absurd (omega arith)
  collected-length f test (e ∷ es) (y ∷ ys) long sizes sized = let later = collected-length f test es ys (omega arith) sizes.1 sized.1 in ⊎_elim
      (λ (passes : test e ≡ true). let a = sizes.0 passes in let b = sized.0 in rw (passes, length-append, length-append) (omega arith))
      (λ (fails : test e ≡ false). rw fails later)
      (cases_Bool (test e))

  -- the one list of an output that is passed on
  pub the-one : (outs : List (List T)) (x : List T) (size : ℕ) → map length outs ≡ size ∷ [] → joined outs ≡ joined (x ∷ []) → slice_index_or outs 0 [] ≡ x
  the-one [] x size long same = absurd (cc)
  the-one (y ∷ []) x size long same = sym (append-nil y) ∙ same ∙ append-nil x
  the-one (y ∷ z ∷ outs) x size long same = absurd (cc)
