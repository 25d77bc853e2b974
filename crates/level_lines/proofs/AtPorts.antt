-- What is read at a port.
use Rattle.std.proofs.Common.{◌≡◌, ℕ, zero, ◌==◌, ◌&&◌, ⊎_elim, suc, ◌+◌, ◌%◌, ◌<◌, ◌≤◌, Bool, true, false, List, [], ◌∷◌, ◌++◌, length, get_or, take, drop, length-drop, ◌-◌, refl, ap, sym, ◌∙◌, append_assoc, arith}
use Rattle.std.proofs.Math.Seq.{drop-nil}
use Rattle.std.proofs.lemmas.Bool.{cases_Bool}
use Rattle.std.proofs.lemmas.List.{append-nil, take_all}
use Rattle.sdf_level.specs.Interfaces.{repeat, repeated}
use Rattle.sdf_level.specs.Invariants.{how_many, is_into_port}
use Rattle.sdf_level.specs.Run.{head_rate, input, inputs, inputs_below, read, is_into_actor}
use Rattle.sdf_level.specs.declared.link.Link.{Link}
use Rattle.sdf_level.specs.declared.link.Head.{Head}
use Rattle.sdf_level.specs.declared.link.Head.TheVariants as head
use Rattle.level_lines.specs.AtActors.{no_link, places}
use Rattle.level_lines.proofs.Placed.{places_has, length-places}

abbrev is_port_of : ℕ → ℕ → Head → Bool
is_port_of a p h = elim h [ head.Sink t ↦ false | head.Port b j r ↦ (b == a) && (j == p) ]

abbrev is_actor_of : ℕ → Head → Bool
is_actor_of b h = elim h [ head.Sink t ↦ false | head.Port a j c ↦ a == b ]

and_left : (x y : Bool) → (x && y) ≡ true → x ≡ true
and_left true y h = refl
and_left false y h = h

how_many_some : (test : Link → Bool) (links : List Link) (l : ℕ) → l < length links → test (get_or links l no_link) ≡ true → 1 ≤ how_many test links
how_many_some test [] l h is = absurd (omega arith)
how_many_some test (link ∷ links) zero h is = rw is (omega arith)
how_many_some test (link ∷ links) (suc l) h is = let some = how_many_some test links l (omega arith) is in omega arith

module _ {T : Type 0} where
  pub repeated-snoc : (t : List T) (i n : ℕ) → repeated t i (n + 1) ≡ repeated t i n ++ repeat t (i + n)
  repeated-snoc t i zero = let e : i + 0 ≡ i = omega arith in rw e (append-nil (repeat t i))
  repeated-snoc t i (suc n) =
      let p : suc n + 1 ≡ suc (n + 1) = omega arith in
      let e : (i + 1) + n ≡ i + suc n = omega arith in
      ap (repeated t i) p ∙ ap (λ l. repeat t i ++ l) (repeated-snoc t (i + 1) n ∙ ap (λ m. repeated t (i + 1) n ++ repeat t m) e) ∙ sym (append_assoc (repeat t i) (repeated t (i + 1) n) (repeat t (i + suc n)))

  repeat_none : (i : ℕ) → repeat {T = T} [] i ≡ []
  repeat_none i = ap (take 1) (drop-nil (i % 0))

  pub repeated_none : (i n : ℕ) → repeated {T = T} [] i n ≡ []
  repeated_none i zero = refl
  repeated_none i (suc n) = rw (repeat_none i) (repeated_none (i + 1) n)

  -- the one link into the port is read
  pub input_found : (sources : List (List T)) (b k port : ℕ) (links : List Link) (lines : List (List T)) (l : ℕ) →
      how_many (is_into_port b port) links ≤ 1 → l < length links → length lines ≡ length links → is_into_port b port (get_or links l no_link) ≡ true →
      input sources b k port links lines ≡ read sources k (head_rate (get_or links l no_link).head) (get_or links l no_link).tail (get_or lines l [])
  input_found sources b k port [] lines l once h e is = absurd (omega arith)
  input_found sources b k port (link ∷ links) [] l once h e is = absurd (omega arith)
  input_found sources b k port (link ∷ links) (line ∷ lines) zero once h e is = rw is refl
  input_found sources b k port (link ∷ links) (line ∷ lines) (suc l) once h e is =
      let some = how_many_some (is_into_port b port) links l (omega arith) is in
      ⊎_elim
      (λ (holds : is_into_port b port link ≡ true). absurd (let two = rw holds at once in omega arith))
      (λ (none : is_into_port b port link ≡ false). rw none (input_found sources b k port links lines l (let e = rw none at once in omega arith) (omega arith) (omega arith) is))
      (cases_Bool (is_into_port b port link))

  -- nothing is read where no link leads
  pub input_missing : (sources : List (List T)) (b k port : ℕ) (links : List Link) (lines : List (List T)) →
      ((l : ℕ) → l < length links → is_into_port b port (get_or links l no_link) ≡ false) → input sources b k port links lines ≡ []
  input_missing sources b k port [] lines none = refl
  input_missing sources b k port (link ∷ links) [] none = refl
  input_missing sources b k port (link ∷ links) (line ∷ lines) none = rw (none 0 (omega arith)) (input_missing sources b k port links lines (λ l h. none (suc l) (omega arith)))

into_port_is_into_actor : (b port : ℕ) (h : Head) → is_port_of b port h ≡ true → is_actor_of b h ≡ true
into_port_is_into_actor b port (head.Sink t) is = is
into_port_is_into_actor b port (head.Port a j c) is = and_left (a == b) (j == port) is

-- no link leads to the port where none of the actor's does
pub none_leads : (b port : ℕ) (links : List Link) (into : List ℕ) → into ≡ places (is_into_actor b) 0 links →
    ((i : ℕ) → i < length into → is_into_port b port (get_or links (get_or into i 0) no_link) ≡ false) →
    (l : ℕ) → l < length links → is_into_port b port (get_or links l no_link) ≡ false
none_leads b port links into are none l h =
    ⊎_elim
    (λ (holds : is_into_port b port (get_or links l no_link) ≡ true).
    let at = places_has (is_into_actor b) 0 links l h (into_port_is_into_actor b port (get_or links l no_link).head holds) in
    let i : ℕ = at.0 in
    let here : get_or into i 0 ≡ l = ap (λ (p : List ℕ). get_or p i 0) are ∙ (let e = at.2 in omega arith) in
    let inside : i < length into = rw are at.1 in
    absurd (cc (none i inside, holds, ap (λ m. is_into_port b port (get_or links m no_link)) here)))
    (λ (none : is_into_port b port (get_or links l no_link) ≡ false). none)
    (cases_Bool (is_into_port b port (get_or links l no_link)))

module _ {T : Type 0} where
  pub repeated_empty : (t : List T) (i n : ℕ) → length t ≡ 0 → repeated t i n ≡ []
  repeated_empty [] i n h = repeated_none i n
  repeated_empty (x ∷ t) i n h = absurd (omega arith)

  rest_of : (t : List T) (p : ℕ) → take (length t - p) (drop p t) ≡ drop p t
  rest_of t p = take_all (length t - p) (drop p t) (simp length-drop (omega arith))

  -- one token more, the first of the rest of the list
  pub repeated_more : (t : List T) (i n : ℕ) (tokens tokens' : List T) → tokens ≡ repeated t i n → tokens' ≡ tokens ++ take 1 (take (length t - (i + n) % length t) (drop ((i + n) % length t) t)) → tokens' ≡ repeated t i (n + 1)
  repeated_more t i n tokens tokens' were now = now ∙ ap (λ (r : List T). tokens ++ take 1 r) (rest_of t ((i + n) % length t)) ∙ ap (λ (l : List T). l ++ repeat t (i + n)) were ∙ sym (repeated-snoc t i n)

  pub port_read : (sources : List (List T)) (b k port : ℕ) (links links' : List Link) (lines : List (List T)) (l : ℕ) (line : List T) → links' ≡ links →
      how_many (is_into_port b port) links ≤ 1 → l < length links → length lines ≡ length links → is_into_port b port (get_or links' l no_link) ≡ true → line ≡ get_or lines l [] →
      read sources k (head_rate (get_or links' l no_link).head) (get_or links' l no_link).tail line ≡ input sources b k port links lines
  port_read sources b k port links links' lines l line same once h long is line_is = rw (line_is, same) (sym (input_found sources b k port links lines l once h long (rw same at is)))

  pub inputs_read : (sources : List (List T)) (b k n : ℕ) (links : List Link) (lines : List (List T)) (into : List ℕ) → into ≡ places (is_into_actor b) 0 links → n ≡ length into →
      inputs_below sources b k n links lines ≡ inputs sources b k links lines
  inputs_read sources b k n links lines into are long = ap (λ m. inputs_below sources b k m links lines) (long ∙ ap length are ∙ length-places (is_into_actor b) 0 links)
