-- Names have the lengths that a level asks for.
use Rattle.std.proofs.Common.{◌≡◌, ℕ, zero, suc, ◌+◌, ◌<◌, ◌≤◌, Bool, true, false, ◌&&◌, ◌==◌, ⊎_elim, ◌⊎◌, inl, inr, List, [], ◌∷◌, ◌++◌, map, length, slice_index, slice_index_or, if◌then◌else◌, refl, ap, sym, ◌∙◌, subst, append_assoc, nat_lt, arith}
use Rattle.std.proofs.lemmas.Bool.{cases_Bool, cases_eq, cases_lt, eq-eqb, ne_eqb, lt-ltb, le-ltb}
use Rattle.std.proofs.lemmas.List.{length-append, get_or_append_left, get_or_push}
use Rattle.sdf_level.specs.View.{LevelView}
use Rattle.sdf_level.specs.Invariants.{IsLevel, how_many, is_from_port}
use Rattle.sdf_level.specs.LevelRun.{HaveDelays, HasRate, HaveRates}
use Rattle.sdf_level.specs.declared.link.Link.{Link}
use Rattle.sdf_level.specs.declared.link.Tail.{Tail}
use Rattle.sdf_level.specs.declared.link.Head.{Head}
use Rattle.sdf_level.specs.declared.link.Tail.TheVariants as tail
use Rattle.sdf_level.specs.declared.token_name.Maker.{Maker}
use Rattle.sdf_level.specs.declared.token_name.Maker.TheVariants as maker
use Rattle.single_rate.specs.Names.{names_from, names_of, source_names, delay_names, is_from_actor, output_rate, outputs_below, output_names, names}
use Rattle.single_rate.specs.Laws.{HasLengths}

pub length-names : (m : Maker) (place n : ℕ) → length (names_from m place n) ≡ n
length-names m place zero = refl
length-names m place (suc n) = let e = length-names m (place + 1) n in omega arith

source-lengths : (s : ℕ) (rates : List ℕ) → map length (source_names s rates) ≡ rates
source-lengths s [] = refl
source-lengths s (r ∷ rates) = rw (length-names (maker.Source s) 0 r, source-lengths (s + 1) rates) refl

pub source-names : (s t : ℕ) (rates : List ℕ) → 0 < slice_index rates s → slice_index_or (source_names t rates) s [] ≡ names_of (maker.Source (t + s)) (slice_index rates s)
source-names s t [] some = absurd (omega arith)
source-names zero t (r ∷ rates) some = let e : t + 0 ≡ t = omega arith in rw e refl
source-names (suc s) t (r ∷ rates) some = let e : t + suc s ≡ (t + 1) + s = omega arith in rw e (source-names s (t + 1) rates some)

delay-lengths : (l : ℕ) (links : List Link) → HaveDelays links (delay_names l links)
delay-lengths l [] = tt
delay-lengths l (link ∷ links) = (length-names (maker.Init l) 0 link.delay, delay-lengths (l + 1) links)

-- the links from an actor's ports before this one
abbrev is_before : ℕ → ℕ → Link → Bool
is_before a p link = elim link.tail [ tail.Source s ↦ false | tail.Port b j r ↦ (b == a) && nat_lt j p ]

abbrev one : Bool → ℕ
one c = if c then 1 else 0

one-more : (a p : ℕ) (t : Tail) (h : Head) (d : ℕ) → one (is_before a (p + 1) record { tail = t; head = h; delay = d }) ≡ one (is_before a p record { tail = t; head = h; delay = d }) + one (is_from_port a p record { tail = t; head = h; delay = d })
one-more a p (tail.Source s) h d = refl
one-more a p (tail.Port b j r) h d = ⊎_elim
    (λ (e : b ≡ a). ⊎_elim
    (λ (lt : j < p). rw (eq-eqb b a e, lt-ltb j (p + 1) (omega arith), lt-ltb j p lt, ne_eqb j p (λ f. omega arith)) refl)
    (λ (ge : p ≤ j). ⊎_elim
    (λ (f : j ≡ p). rw (eq-eqb b a e, lt-ltb j (p + 1) (omega arith), le-ltb j p ge, eq-eqb j p f) refl)
    (λ (f : j ≡ p → ⊥). rw (eq-eqb b a e, le-ltb j (p + 1) (omega arith), le-ltb j p ge, ne_eqb j p f) refl)
    (cases_eq j p))
    (cases_lt j p))
    (λ (n : b ≡ a → ⊥). rw (ne_eqb b a n) refl)
    (cases_eq b a)

before-more : (a p : ℕ) (links : List Link) → how_many (is_before a (p + 1)) links ≡ how_many (is_before a p) links + how_many (is_from_port a p) links
before-more a p [] = refl
before-more a p (link ∷ links) = let e = one-more a p link.tail link.head link.delay in let f = before-more a p links in omega arith

one-within : (a p : ℕ) (t : Tail) (h : Head) (d : ℕ) → one (is_before a p record { tail = t; head = h; delay = d }) ≤ one (is_from_actor a record { tail = t; head = h; delay = d })
one-within a p (tail.Source s) h d = omega arith
one-within a p (tail.Port b j r) h d = ⊎_elim
    (λ (e : b ≡ a). rw (eq-eqb b a e) (at_most (nat_lt j p)))
    (λ (n : b ≡ a → ⊥). rw (ne_eqb b a n) (omega arith))
    (cases_eq b a)
  where
    at_most : (c : Bool) → one c ≤ 1
    at_most true = omega arith
    at_most false = omega arith

before-within : (a p : ℕ) (links : List Link) → how_many (is_before a p) links ≤ how_many (is_from_actor a) links
before-within a p [] = omega arith
before-within a p (link ∷ links) = let e = one-within a p link.tail link.head link.delay in let f = before-within a p links in omega arith

-- where a port is there, so are those before it
port-counted : (a : ℕ) (links : List Link) → ((p : ℕ) → 0 < how_many (is_from_port a (p + 1)) links → 0 < how_many (is_from_port a p) links) → (p : ℕ) → 0 < how_many (is_from_port a p) links → p < how_many (is_before a (p + 1)) links
port-counted a links gapless zero there = let e = before-more a 0 links in omega arith
port-counted a links gapless (suc p) there =
    let s : suc p ≡ p + 1 = omega arith in
    let there' : 0 < how_many (is_from_port a (p + 1)) links = rw s at there in
    let earlier = port-counted a links gapless p (gapless p there') in
    let e = before-more a (p + 1) links in
    rw s (omega arith)

pub port-below : (a : ℕ) (links : List Link) → ((p : ℕ) → 0 < how_many (is_from_port a (p + 1)) links → 0 < how_many (is_from_port a p) links) → (p : ℕ) → 0 < how_many (is_from_port a p) links → p < how_many (is_from_actor a) links
port-below a links gapless p there = let c = port-counted a links gapless p there in let w = before-within a (p + 1) links in omega arith

length-outputs : (links : List Link) (a k n : ℕ) → length (outputs_below links a k n) ≡ n
length-outputs links a k zero = refl
length-outputs links a k (suc n) = length-append (outputs_below links a k n) (names_of (maker.Firing a k n) (output_rate a n links) ∷ []) ∙ (let e = length-outputs links a k n in omega arith)

output-at : (links : List Link) (a k n p : ℕ) → p < n → slice_index_or (outputs_below links a k n) p [] ≡ names_of (maker.Firing a k p) (output_rate a p links)
output-at links a k zero p h = absurd (omega arith)
output-at links a k (suc n) p h = let long = length-outputs links a k n in ⊎_elim
    (λ (e : p ≡ n). get_or_push (outputs_below links a k n) (names_of (maker.Firing a k n) (output_rate a n links)) [] p (omega arith) ∙ rw e refl)
    (λ (f : p ≡ n → ⊥). get_or_append_left (outputs_below links a k n) (names_of (maker.Firing a k n) (output_rate a n links) ∷ []) [] p (omega arith) ∙ output-at links a k n p (omega arith))
    (cases_eq p n)

-- the rate of a port is that of its one link
rate-at : (a p r : ℕ) (before : List Link) (h : Head) (d : ℕ) (links : List Link) → how_many (is_from_port a p) (before ++ record { tail = tail.Port a p r; head = h; delay = d } ∷ links) ≤ 1 → output_rate a p (before ++ record { tail = tail.Port a p r; head = h; delay = d } ∷ links) ≡ r
rate-at a p r [] h d links once = rw (eq-eqb a a refl, eq-eqb p p refl) refl
rate-at a p r (link ∷ before) h d links once = go (cases_Bool (is_from_port a p link)) (rate-at a p r before h d links)
  where
    there : (before : List Link) → 0 < how_many (is_from_port a p) (before ++ record { tail = tail.Port a p r; head = h; delay = d } ∷ links)
    there [] = rw (eq-eqb a a refl, eq-eqb p p refl) (omega arith)
    there (x ∷ before) = let t = there before in omega arith

    go : (is_from_port a p link ≡ true) ⊎ (is_from_port a p link ≡ false) → (how_many (is_from_port a p) (before ++ record { tail = tail.Port a p r; head = h; delay = d } ∷ links) ≤ 1 → output_rate a p (before ++ record { tail = tail.Port a p r; head = h; delay = d } ∷ links) ≡ r) → output_rate a p ((link ∷ before) ++ record { tail = tail.Port a p r; head = h; delay = d } ∷ links) ≡ r
    go (inl e) later = absurd (let o = rw e at once in let t = there before in omega arith)
    go (inr e) later = let o = rw e at once in rw e (later (omega arith))

port-there : (a p r : ℕ) (before : List Link) (h : Head) (d : ℕ) (links : List Link) → 0 < how_many (is_from_port a p) (before ++ record { tail = tail.Port a p r; head = h; delay = d } ∷ links)
port-there a p r [] h d links = rw (eq-eqb a a refl, eq-eqb p p refl) (omega arith)
port-there a p r (x ∷ before) h d links = let t = port-there a p r before h d links in omega arith

module _ (level : LevelView) (sound : IsLevel level) where
  -- what a firing gives at the port of a link
  pub port-names : (a k : ℕ) (before : List Link) (p r : ℕ) (h : Head) (d : ℕ) (links : List Link) → level.links ≡ before ++ record { tail = tail.Port a p r; head = h; delay = d } ∷ links → slice_index_or (output_names level.links a k) p [] ≡ names_of (maker.Firing a k p) r
  port-names a k before p r h d links all =
      let P : List Link → Type 0 = λ l. 0 < how_many (is_from_port a p) l in
      let there : P level.links = subst P (sym all) (port-there a p r before h d links) in
      let Q : List Link → Type 0 = λ l. how_many (is_from_port a p) l ≤ 1 in
      let once : Q (before ++ record { tail = tail.Port a p r; head = h; delay = d } ∷ links) = subst Q all (sound.outputs_once a p) in
      let R : List Link → Type 0 = λ l. output_rate a p l ≡ r in
      let rate : R level.links = subst R (sym all) (rate-at a p r before h d links once) in
      let below = port-below a level.links (sound.outputs_without_gap a) p there in
      output-at level.links a k (how_many (is_from_actor a) level.links) p below ∙ ap (names_of (maker.Firing a k p)) rate

  one-rate : (a k : ℕ) (before : List Link) (t : Tail) (h : Head) (d : ℕ) (links : List Link) → level.links ≡ before ++ record { tail = t; head = h; delay = d } ∷ links → HasRate a (output_names level.links a k) t
  one-rate a k before (tail.Source s) h d links all = tt
  one-rate a k before (tail.Port b p r) h d links all = λ is.
      let S : ℕ → Type 0 = λ x. length (slice_index_or (output_names level.links x k) p []) ≡ r in
      let own : S b = rw (port-names b k before p r h d links all) (length-names (maker.Firing b k p) 0 r) in
      subst S is own

  all-rates : (a k : ℕ) (before links : List Link) → level.links ≡ before ++ links → HaveRates a (output_names level.links a k) links
  all-rates a k before [] all = tt
  all-rates a k before (link ∷ links) all = (one-rate a k before link.tail link.head link.delay links all, all-rates a k (before ++ link ∷ []) links (all ∙ sym (append_assoc before (link ∷ []) links)))

  pub names-lengths : (q : List ℕ) → HasLengths level q (names level)
  names-lengths q = record { sources = source-lengths 0 level.sources; delays = delay-lengths 0 level.links; made = λ a k within. all-rates a k [] level.links refl }
