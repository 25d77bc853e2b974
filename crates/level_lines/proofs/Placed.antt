-- The places of the links that meet a test.
use Rattle.std.proofs.Common.{◌≡◌, ℕ, zero, suc, ◌+◌, ◌<◌, Bool, true, false, List, [], ◌∷◌, ◌++◌, length, get_or, take, refl, ap, sym, ◌∙◌, set, length-set, length-take-le, get_or-set_same, get_or-set_other, ⊎_elim, ◌≢◌, Option, Some, ne_eqb, eq-eqb, append_assoc, arith, if◌then◌else◌}
use Rattle.std.proofs.lemmas.Bool.{cases_eq, cases_Bool}
use Rattle.std.proofs.lemmas.List.{take_more, append-nil}
use Rattle.sdf_level.specs.Invariants.{how_many}
use Rattle.sdf_level.specs.declared.link.Link.{Link}
use Rattle.level_lines.specs.AtActors.{no_link, places, stands_at, is_of, AreListed, IsListed}
use Rattle.level_lines.specs.declared.ports.Side.{Side}

pub places-snoc : (test : Link → Bool) (i : ℕ) (links : List Link) (link : Link) →
    places test i (links ++ link ∷ []) ≡ places test i links ++ (if test link then (i + length links) ∷ [] else [])
places-snoc test i [] link = let e : i + 0 ≡ i = omega arith in rw e (append-nil (if test link then i ∷ [] else []))
places-snoc test i (x ∷ links) link =
    let e = places-snoc test (i + 1) links link in
    let n : (i + 1) + length links ≡ i + length (x ∷ links) = omega arith in
    let M : ℕ → List ℕ = λ m. if test link then m ∷ [] else [] in
    ap (λ (l : List ℕ). (if test x then i ∷ [] else []) ++ l) (e ∙ ap (λ (m : ℕ). places test (i + 1) links ++ M m) n) ∙ sym (append_assoc (if test x then i ∷ [] else []) (places test (i + 1) links) (M (i + length (x ∷ links))))

-- a number put at the end of one list
pub listed_at : (lists lists' : List (List ℕ)) (actor : Option ℕ) (a number : ℕ) → actor ≡ Some a → a < length lists → lists' ≡ set lists a (get_or lists a [] ++ number ∷ []) → IsListed lists lists' actor number
listed_at lists lists' actor a number some h now = rw (now, some) record {
  one_each = length-set lists a (get_or lists a [] ++ number ∷ []);
  each = λ b k. ⊎_elim
      (λ (e : a ≡ b). rw (← e, get_or-set_same lists a (get_or lists a [] ++ number ∷ []) [] h, eq-eqb a a refl) refl)
      (λ (n : a ≢ b). rw (get_or-set_other lists a b (get_or lists a [] ++ number ∷ []) [] (λ e. n (sym e)), ne_eqb a b n) (sym (append-nil (get_or lists b []))))
      (cases_eq a b);
}

-- with one link more
pub listed_more : (n : ℕ) (end : Side) (links : List Link) (i : ℕ) (lists lists' : List (List ℕ)) (actor : Option ℕ) → i < length links →
    ((b : ℕ) → stands_at end b (get_or links i no_link) ≡ is_of b actor) → AreListed n end (take i links) lists → IsListed lists lists' actor i → AreListed n end (take (i + 1) links) lists'
listed_more n end links i lists lists' actor h same were listed = record {
  one_each = listed.one_each ∙ were.one_each;
  each = λ b k.
      let now = listed.each b (rw were.one_each k) in
      let was = were.each b k in
      let step = places-snoc (stands_at end b) 0 (take i links) (get_or links i no_link) in
      let long : 0 + length (take i links) ≡ i = let e = length-take-le i links (omega arith) in omega arith in
      let L : Bool → List ℕ = λ t. places (stands_at end b) 0 (take i links) ++ (if t then i ∷ [] else []) in
      let M : ℕ → List ℕ = λ m. places (stands_at end b) 0 (take i links) ++ (if stands_at end b (get_or links i no_link) then m ∷ [] else []) in
      now ∙ ap (λ (x : List ℕ). x ++ (if is_of b actor then i ∷ [] else [])) was ∙ sym (ap (places (stands_at end b) 0) (take_more links i no_link h) ∙ step ∙ ap M long ∙ ap L (same b));
}

with_first : (test : Link → Bool) (i : ℕ) (link : Link) (links : List Link) → test link ≡ true → places test i (link ∷ links) ≡ i ∷ places test (i + 1) links
with_first test i link links holds = rw holds refl

without_first : (test : Link → Bool) (i : ℕ) (link : Link) (links : List Link) → test link ≡ false → places test i (link ∷ links) ≡ places test (i + 1) links
without_first test i link links none = rw none refl

pub places_below : (test : Link → Bool) (i : ℕ) (links : List Link) (n : ℕ) → n < length (places test i links) → get_or (places test i links) n 0 < i + length links
places_below test i [] n h = absurd (omega arith)
places_below test i (link ∷ links) zero h = ⊎_elim
    (λ (holds : test link ≡ true). rw (with_first test i link links holds) (omega arith))
    (λ (none : test link ≡ false). let e = without_first test i link links none in let again = places_below test (i + 1) links 0 (rw e at h) in rw e (omega arith))
    (cases_Bool (test link))
places_below test i (link ∷ links) (suc n) h = ⊎_elim
    (λ (holds : test link ≡ true). let e = with_first test i link links holds in let more = rw e at h in let again = places_below test (i + 1) links n (omega arith) in rw e (omega arith))
    (λ (none : test link ≡ false). let e = without_first test i link links none in let again = places_below test (i + 1) links (suc n) (rw e at h) in rw e (omega arith))
    (cases_Bool (test link))

-- each link that meets the test has its place there
pub places_has : (test : Link → Bool) (i : ℕ) (links : List Link) (l : ℕ) → l < length links → test (get_or links l no_link) ≡ true → (n : ℕ) × (n < length (places test i links)) × (get_or (places test i links) n 0 ≡ i + l)
places_has test i [] l h is = absurd (omega arith)
places_has test i (link ∷ links) zero h is = let e = with_first test i link links is in (0, rw e (omega arith), rw e (omega arith))
places_has test i (link ∷ links) (suc l) h is =
    let at = places_has test (i + 1) links l (omega arith) is in
    let here : get_or (places test (i + 1) links) at.0 0 ≡ i + suc l = let e = at.2 in omega arith in
    ⊎_elim
    (λ (holds : test link ≡ true). let e = with_first test i link links holds in (suc at.0, rw e (let k = at.1 in omega arith), rw e here))
    (λ (none : test link ≡ false). let e = without_first test i link links none in (at.0, rw e at.1, rw e here))
    (cases_Bool (test link))

pub length-places : (test : Link → Bool) (i : ℕ) (links : List Link) → length (places test i links) ≡ how_many test links
length-places test i [] = refl
length-places test i (link ∷ links) = let again = length-places test (i + 1) links in ⊎_elim
    (λ (holds : test link ≡ true). rw holds (omega arith))
    (λ (none : test link ≡ false). rw none (omega arith))
    (cases_Bool (test link))

pub places_inside : (test : Link → Bool) (links : List Link) (ps : List ℕ) (n : ℕ) → ps ≡ places test 0 links → n < length ps → get_or ps n 0 < length links
places_inside test links ps n are h = let below = places_below test 0 links n (rw are at h) in rw are (omega arith)
