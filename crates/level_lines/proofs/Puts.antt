-- Outputs put on the lines of an actor's links, link by link.
use Rattle.std.proofs.Common.{◌≡◌, ℕ, ◌==◌, if◌then◌else◌, ⊎_elim, ◌+◌, ◌<◌, ◌≤◌, Bool, true, false, List, [], ◌∷◌, ◌++◌, length, get_or, set, take, refl, ap, sym, ◌∙◌, append_assoc, arith, length-append, length-set}
use Rattle.std.proofs.lemmas.Bool.{cases_Bool}
use Rattle.std.proofs.lemmas.List.{take_more, take_all, append-nil}
use Rattle.sdf_level.specs.Run.{added, put}
use Rattle.sdf_level.specs.declared.link.Link.{Link}
use Rattle.sdf_level.specs.declared.link.Tail.{Tail}
use Rattle.sdf_level.specs.declared.link.Tail.TheVariants as tail
use Rattle.level_lines.specs.AtActors.{no_link, places, is_from_actor}

abbrev is_from_tail : ℕ → Tail → Bool
is_from_tail b t = elim t [ tail.Source s ↦ false | tail.Port a p r ↦ a == b ]

module _ {T : Type 0} (b : ℕ) (outputs : List (List T)) where
  none_of : (t : Tail) → is_from_tail b t ≡ false → added b outputs t ≡ []
  none_of (tail.Source s) none = refl
  none_of (tail.Port a p r) none = rw none refl

  -- with what the link at a place gets
  abbrev pub put_at : List Link → ℕ → List (List T) → List (List T)
  put_at links place lines = set lines place (get_or lines place [] ++ added b outputs (get_or links place no_link).tail)

  -- with what the links at these places get, one after the other
  abbrev pub puts : List Link → List ℕ → List (List T) → List (List T)
  puts links [] lines = lines
  puts links (place ∷ places) lines = puts links places (put_at links place lines)

  pub puts-snoc : (links : List Link) (places : List ℕ) (place : ℕ) (lines : List (List T)) → puts links (places ++ place ∷ []) lines ≡ put_at links place (puts links places lines)
  puts-snoc links [] place lines = refl
  puts-snoc links (p ∷ places) place lines = puts-snoc links places place (put_at links p lines)

  pub puts-more : (links : List Link) (places : List ℕ) (i : ℕ) (lines : List (List T)) → i < length places →
      puts links (take (i + 1) places) lines ≡ put_at links (get_or places i 0) (puts links (take i places) lines)
  puts-more links places i lines h = ap (λ p. puts links p lines) (take_more places i 0 h) ∙ puts-snoc links (take i places) (get_or places i 0) lines

  pub length-puts : (links : List Link) (places : List ℕ) (lines : List (List T)) → length (puts links places lines) ≡ length lines
  length-puts links [] lines = refl
  length-puts links (p ∷ places) lines = length-puts links places (put_at links p lines) ∙ length-set lines p _

  get_or-append : {X : Type 0} (xs ys : List X) (d : X) → get_or (xs ++ ys) (length xs) d ≡ get_or ys 0 d
  get_or-append [] ys d = refl
  get_or-append (x ∷ xs) ys d = get_or-append xs ys d

  set-append : {X : Type 0} (xs ys : List X) (y : X) → set (xs ++ ys) (length xs) y ≡ xs ++ set ys 0 y
  set-append [] ys y = refl
  set-append (x ∷ xs) ys y = ap (λ l. x ∷ l) (set-append xs ys y)

  -- a link from another actor gets nothing
  other_adds_none : (h : Link) → is_from_actor b h ≡ false → added b outputs h.tail ≡ []
  other_adds_none h none = none_of h.tail none

  regrouped : {X : Type 0} (xs : List X) (y : X) (ys : List X) → xs ++ (y ∷ ys) ≡ (xs ++ y ∷ []) ++ ys
  regrouped xs y ys = sym (append_assoc xs (y ∷ []) ys)

  abbrev putting : List Link → List Link → ℕ → List (List T) → List (List T)
  putting links all n lines = puts all (places (is_from_actor b) n links) lines

  puts-places : (first links : List Link) (before lines : List (List T)) → length before ≡ length first → length lines ≡ length links →
      puts (first ++ links) (places (is_from_actor b) (length before) links) (before ++ lines) ≡ before ++ put b outputs links lines
  puts-places first [] before [] h k = refl
  puts-places first [] before (line ∷ lines) h k = absurd (omega arith)
  puts-places first (link ∷ links) before [] h k = absurd (omega arith)
  puts-places first (link ∷ links) before (line ∷ lines) h k =
      let rest : (x : List T) → putting links (first ++ (link ∷ links)) (length before + 1) (before ++ (x ∷ lines)) ≡ before ++ (x ∷ put b outputs links lines) = λ x.
      let long : length (before ++ x ∷ []) ≡ length before + 1 = length-append before (x ∷ []) in
      let long_too : length (first ++ link ∷ []) ≡ length first + 1 = length-append first (link ∷ []) in
      let again = puts-places (first ++ link ∷ []) links (before ++ x ∷ []) lines (omega arith) (omega arith) in
      ap (λ all. putting links all (length before + 1) (before ++ (x ∷ lines))) (regrouped first link links)
      ∙ ap (λ n. putting links ((first ++ link ∷ []) ++ links) n (before ++ (x ∷ lines))) (sym long)
      ∙ ap (λ l. putting links ((first ++ link ∷ []) ++ links) (length (before ++ x ∷ [])) l) (regrouped before x lines)
      ∙ again ∙ append_assoc before (x ∷ []) (put b outputs links lines) in
      ⊎_elim
      (λ (holds : is_from_actor b link ≡ true).
      let own : get_or (first ++ (link ∷ links)) (length before) no_link ≡ link = rw h (get_or-append first (link ∷ links) no_link) in
      let was : get_or (before ++ (line ∷ lines)) (length before) [] ≡ line = get_or-append before (line ∷ lines) [] in
      let now : put_at (first ++ (link ∷ links)) (length before) (before ++ (line ∷ lines)) ≡ before ++ ((line ++ added b outputs link.tail) ∷ lines) =
      ap (λ (w : List T). set (before ++ (line ∷ lines)) (length before) (w ++ added b outputs (get_or (first ++ (link ∷ links)) (length before) no_link).tail)) was
      ∙ ap (λ (l : Link). set (before ++ (line ∷ lines)) (length before) (line ++ added b outputs l.tail)) own
      ∙ set-append before (line ∷ lines) (line ++ added b outputs link.tail) in
      ap (λ p. puts (first ++ (link ∷ links)) (p ++ places (is_from_actor b) (length before + 1) links) (before ++ (line ∷ lines))) (ap (λ (t : Bool). if t then length before ∷ [] else []) holds)
      ∙ ap (λ l. putting links (first ++ (link ∷ links)) (length before + 1) l) now
      ∙ rest (line ++ added b outputs link.tail))
      (λ (none : is_from_actor b link ≡ false).
      ap (λ p. puts (first ++ (link ∷ links)) (p ++ places (is_from_actor b) (length before + 1) links) (before ++ (line ∷ lines))) (ap (λ (t : Bool). if t then length before ∷ [] else []) none)
      ∙ rest line
      ∙ ap (λ (w : List T). before ++ (w ∷ put b outputs links lines)) (sym (append-nil line) ∙ ap (λ w. line ++ w) (sym (other_adds_none link none))))
      (cases_Bool (is_from_actor b link))

  -- at the places of the actor's links, that is what the actor puts
  pub puts_all : (links : List Link) (lines : List (List T)) → length lines ≡ length links → puts links (places (is_from_actor b) 0 links) lines ≡ put b outputs links lines
  puts_all links lines k = puts-places [] links [] lines refl k

  pub put_step : (links links' : List Link) (ps : List ℕ) (i : ℕ) (start lines lines' : List (List T)) (tokens : List T) → links' ≡ links → i < length ps →
      lines ≡ puts links (take i ps) start → tokens ≡ added b outputs (get_or links' (get_or ps i 0) no_link).tail →
      lines' ≡ set lines (get_or ps i 0) (get_or lines (get_or ps i 0) [] ++ tokens) → lines' ≡ puts links (take (i + 1) ps) start
  put_step links links' ps i start lines lines' tokens same h were more now = rw (now, more, same, were) (sym (puts-more links ps i start h))

  pub put_done : (links : List Link) (ps : List ℕ) (i : ℕ) (start lines : List (List T)) → lines ≡ puts links (take i ps) start → length ps ≤ i →
      ps ≡ places (is_from_actor b) 0 links → length start ≡ length links → lines ≡ put b outputs links start
  put_done links ps i start lines are over same long = are ∙ ap (λ p. puts links p start) (take_all i ps over ∙ same) ∙ puts_all links start long
