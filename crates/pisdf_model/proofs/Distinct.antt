-- Where no name is repeated, no name stands at two places of its scope.
use Rattle.std.proofs.Common.{◌≡◌, ℕ, zero, suc, ◌+◌, ◌<◌, ◌&&◌, Bool, true, false, not, List, [], ◌∷◌, ◌++◌, map, length, take, get_or, refl, sym, ap, ◌∙◌, subst, arith, get_or-take, length-take-le, rules}
use Rattle.std.specs.List.{list_any}
use Rattle.std.specs.Str.{bytes_eq}
use Rattle.std.specs.Cmp.Lexicographic.{bytes_decides}
use Rattle.std.proofs.lemmas.Bool.{or_parts, true≢false}
use Rattle.std.proofs.lemmas.Bool.Decides.{nat_tests}
use Rattle.param_expr.specs.Print.{Differ}
use Rattle.pisdf_model.proofs.Lists.{left_none, right_none}
use Rattle.pisdf_model.specs.Details.{from_number, of_each, unless}
use Rattle.pisdf_model.specs.Names.{same_scope, is_among, repeat_at, repeats, scoped, own_port_names, actor_walk}
use Rattle.pisdf_model.specs.declared.actor.Actor.{Actor}
use Rattle.pisdf_model.specs.declared.names.Scope.{Scope}
use Rattle.pisdf_model.specs.declared.names.Scope.TheVariants as scope
use Rattle.pisdf_model.specs.declared.names.ScopedName.{ScopedName}

-- ---- lists of which nothing is told

pub none_at : {X D : Type 0} (f : ℕ → X → List D) (n : ℕ) (xs : List X) (i m : ℕ) (d : X) → n + i ≡ m → i < length xs → from_number n f xs ≡ [] → f m (get_or xs i d) ≡ []
none_at f n [] i m d is inside none = absurd (omega arith)
none_at f n (x ∷ xs) zero m d is inside none =
    let here : n ≡ m = omega arith in
    subst (λ k. f k x ≡ []) here (left_none (f n x) (from_number (n + 1) f xs) none)
none_at f n (x ∷ xs) (suc i) m d is inside none = none_at f (n + 1) xs i m d (omega arith) (omega arith) (right_none (f n x) (from_number (n + 1) f xs) none)

not_any : {X : Type 0} (p : X → Bool) (xs : List X) (i : ℕ) (d : X) → i < length xs → list_any p xs ≡ false → p (get_or xs i d) ≡ false
not_any p [] i d inside none = absurd (omega arith)
not_any p (x ∷ xs) zero d inside none = (or_parts (p x) (list_any p xs) none).0
not_any p (x ∷ xs) (suc i) d inside none = not_any p xs i d (omega arith) (or_parts (p x) (list_any p xs) none).1

-- ---- names that stand apart

abbrev pub clash : ScopedName → ScopedName → Bool
clash earlier later = same_scope earlier.scope later.scope && bytes_eq earlier.name later.name

-- none of those after it is the name again
abbrev pub IsAlone : ScopedName → List ScopedName → Type 0
IsAlone x [] = Unit {0}
IsAlone x (y ∷ ys) = (clash x y ≡ false) × IsAlone x ys

abbrev pub Apart : List ScopedName → Type 0
Apart [] = Unit {0}
Apart (x ∷ xs) = IsAlone x xs × Apart xs

pub not_told : {D : Type 0} (b : Bool) (d : D) → unless (not b) d ≡ [] → b ≡ false
not_told true d none = absurd cc
not_told false d none = refl

no_clash : (names : List ScopedName) → repeats names ≡ [] → (i j : ℕ) (d : ScopedName) → i < j → j < length names → clash (get_or names i d) (get_or names j d) ≡ false
no_clash names none i j d before inside =
    let later = get_or names j d in
    let told = none_at (λ n name. repeat_at names n name) 0 names j j d (omega arith) inside none in
    let free = not_told (is_among (take j names) later.scope later.name) later.name told in
    let kept : i < length (take j names) = omega (arith, length-take-le j names) in
    let same = get_or-take j names i d before in
    subst (λ earlier. clash earlier later ≡ false) same (not_any (λ other. clash other later) (take j names) i d kept free)

alone_by : (x : ScopedName) (ys : List ScopedName) → ((j : ℕ) (d : ScopedName) → j < length ys → clash x (get_or ys j d) ≡ false) → IsAlone x ys
alone_by x [] h = tt
alone_by x (y ∷ ys) h = (h 0 y (omega arith), alone_by x ys (λ j d inside. h (suc j) d (omega arith)))

apart_by : (names : List ScopedName) → ((i j : ℕ) (d : ScopedName) → i < j → j < length names → clash (get_or names i d) (get_or names j d) ≡ false) → Apart names
apart_by [] h = tt
apart_by (x ∷ xs) h = (alone_by x xs (λ j d inside. h 0 (suc j) d (omega arith) (omega arith)), apart_by xs (λ i j d before inside. h (suc i) (suc j) d (omega arith) (omega arith)))

pub apart_of : (names : List ScopedName) → repeats names ≡ [] → Apart names
apart_of names none = apart_by names (no_clash names none)

-- ---- parts of a list

alone_left : (x : ScopedName) (ys zs : List ScopedName) → IsAlone x (ys ++ zs) → IsAlone x ys
alone_left x [] zs h = tt
alone_left x (y ∷ ys) zs h = (h.0, alone_left x ys zs h.1)

alone_right : (x : ScopedName) (ys zs : List ScopedName) → IsAlone x (ys ++ zs) → IsAlone x zs
alone_right x [] zs h = h
alone_right x (y ∷ ys) zs h = alone_right x ys zs h.1

pub apart_left : (xs ys : List ScopedName) → Apart (xs ++ ys) → Apart xs
apart_left [] ys h = tt
apart_left (x ∷ xs) ys h = (alone_left x xs ys h.0, apart_left xs ys h.1)

pub apart_right : (xs ys : List ScopedName) → Apart (xs ++ ys) → Apart ys
apart_right [] ys h = h
apart_right (x ∷ xs) ys h = apart_right xs ys h.1

pub apart_at : {X : Type 0} (f : ℕ → X → List ScopedName) (n : ℕ) (xs : List X) (i m : ℕ) (d : X) → n + i ≡ m → i < length xs → Apart (from_number n f xs) → Apart (f m (get_or xs i d))
apart_at f n [] i m d is inside h = absurd (omega arith)
apart_at f n (x ∷ xs) zero m d is inside h =
    let here : n ≡ m = omega arith in
    subst (λ k. Apart (f k x)) here (apart_left (f n x) (from_number (n + 1) f xs) h)
apart_at f n (x ∷ xs) (suc i) m d is inside h = apart_at f (n + 1) xs i m d (omega arith) (omega arith) (apart_right (f n x) (from_number (n + 1) f xs) h)

-- of a walk in which each part's own name stands first
module _ {X : Type 0} (own : X → ScopedName) (rest : ℕ → X → List ScopedName) where
  abbrev walk : ℕ → X → List ScopedName
  walk n x = own x ∷ rest n x

  alone_first : (y : ScopedName) (n : ℕ) (xs : List X) → IsAlone y (from_number n walk xs) → IsAlone y (map own xs)
  alone_first y n [] h = tt
  alone_first y n (x ∷ xs) h = (h.0, alone_first y (n + 1) xs (alone_right y (rest n x) (from_number (n + 1) walk xs) h.1))

  pub apart_first : (n : ℕ) (xs : List X) → Apart (from_number n walk xs) → Apart (map own xs)
  apart_first n [] h = tt
  apart_first n (x ∷ xs) h = (
    alone_first (own x) (n + 1) xs (alone_right (own x) (rest n x) (from_number (n + 1) walk xs) h.0),
    apart_first (n + 1) xs (apart_right (rest n x) (from_number (n + 1) walk xs) h.1),
  )

-- ---- the names of one scope

own_scope : (s : Scope) → same_scope s s ≡ true
own_scope scope.Graphs = refl
own_scope (scope.Parts n) = search (rules, nat_tests)
own_scope (scope.Ports n a) = search (rules, nat_tests)

abbrev pub in_scope : Scope → List ℕ → ScopedName
in_scope s name = record { scope = s; name = name }

other_name : (s : Scope) (x y : List ℕ) → clash (in_scope s x) (in_scope s y) ≡ false → x ≡ y → ⊥
other_name s x y free same =
    let both : clash (in_scope s x) (in_scope s y) ≡ true = rw (own_scope s, (bytes_decides x y).1 same) refl in
    true≢false (sym both ∙ free)

alone_at : (s : Scope) (x : List ℕ) (ys : List (List ℕ)) (j : ℕ) → j < length ys → IsAlone (in_scope s x) (scoped s ys) → x ≡ get_or ys j [] → ⊥
alone_at s x [] j inside h same = absurd (omega arith)
alone_at s x (y ∷ ys) zero inside h same = other_name s x y h.0 same
alone_at s x (y ∷ ys) (suc j) inside h same = alone_at s x ys j (omega arith) h.1 same

pub differ : (s : Scope) (names : List (List ℕ)) → Apart (scoped s names) → Differ names
differ s [] h i j i_in j_in same = absurd (omega arith)
differ s (x ∷ xs) h zero zero i_in j_in same = refl
differ s (x ∷ xs) h zero (suc j) i_in j_in same = absurd (alone_at s x xs j (omega arith) h.0 same)
differ s (x ∷ xs) h (suc i) zero i_in j_in same = absurd (alone_at s x xs i (omega arith) h.0 (sym same))
differ s (x ∷ xs) h (suc i) (suc j) i_in j_in same = ap suc (differ s xs h.1 i j (omega arith) (omega arith) same)

-- ---- the actors of a graph

names_in_scope : (s : Scope) (actors : List Actor) → map (λ (actor : Actor). in_scope s actor.name) actors ≡ scoped s (map (λ (actor : Actor). actor.name) actors)
names_in_scope s [] = refl
names_in_scope s (actor ∷ actors) = ap (λ names. in_scope s actor.name ∷ names) (names_in_scope s actors)

pub apart_names : (n : ℕ) (actors : List Actor) → Apart (of_each (λ a actor. actor_walk n a actor) actors) → Apart (scoped (scope.Parts n) (map (λ (actor : Actor). actor.name) actors))
apart_names n actors h =
    let s = scope.Parts n in
    subst Apart (names_in_scope s actors) (apart_first (λ (actor : Actor). in_scope s actor.name) (λ a actor. scoped (scope.Ports n a) (own_port_names actor.body)) 0 actors h)
