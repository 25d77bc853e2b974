-- On each edge stand the names that the formula gives at its places.
use Rattle.std.proofs.Common.{◌≡◌, ℕ, zero, suc, ◌+◌, ◌-◌, ◌*◌, ◌%◌, ◌<◌, ◌≤◌, ⊎_elim, List, [], ◌∷◌, ◌++◌, map, length, take, drop, slice_index, slice_index_or, refl, ap, sym, ◌∙◌, append_assoc, arith}
use Rattle.std.proofs.lemmas.Bool.{cases_lt, lt-ltb, le-ltb}
use Rattle.std.proofs.lemmas.Nat.{div-mul-add, mod-mul-add}
use Rattle.sdf_level.specs.View.{LevelView}
use Rattle.sdf_level.specs.Invariants.{IsLevel}
use Rattle.sdf_level.specs.Interfaces.{repeat, repeated}
use Rattle.sdf_level.specs.Told.{sent}
use Rattle.sdf_level.specs.declared.link.Link.{Link}
use Rattle.sdf_level.specs.declared.link.Tail.{Tail}
use Rattle.sdf_level.specs.declared.link.Head.{Head}
use Rattle.sdf_level.specs.declared.link.Tail.TheVariants as tail
use Rattle.sdf_level.specs.declared.link.Head.TheVariants as head
use Rattle.sdf_level.specs.declared.token_name.TokenName.{TokenName}
use Rattle.sdf_level.specs.declared.token_name.Maker.{Maker}
use Rattle.sdf_level.specs.declared.token_name.Maker.TheVariants as maker
use Rattle.single_rate.specs.declared.wire.Wire.{Wire}
use Rattle.single_rate.specs.Wires.{wires_at}
use Rattle.single_rate.specs.Names.{listed, names_of, delay_names, output_names, names}
use Rattle.single_rate.specs.NamedLines.{name_at, named_from}
use Rattle.single_rate.proofs.Picked.{Every, carried}
use Rattle.single_rate.proofs.NamesLengths.{length-names, source-names, port-names}
use Rattle.single_rate.proofs.EachLink.{full, FitsAt, link-within}
use Rattle.single_rate.proofs.AllLinks.{AllFit, ranges_on}

module _ {A : Type 0} where
  listed-append : (at : ℕ → A) (x m n : ℕ) → listed at x (m + n) ≡ listed at x m ++ listed at (x + m) n
  listed-append at x zero n = let e : 0 + n ≡ n = omega arith in let f : x + 0 ≡ x = omega arith in rw (e, f) refl
  listed-append at x (suc m) n = let e : suc m + n ≡ suc (m + n) = omega arith in let f : x + suc m ≡ (x + 1) + m = omega arith in rw (e, f) (ap (λ (l : List A). at x ∷ l) (listed-append at (x + 1) m n))

  listed-same : (one other : ℕ → A) (x y n : ℕ) → ((i : ℕ) → i < n → one (x + i) ≡ other (y + i)) → listed one x n ≡ listed other y n
  listed-same one other x y zero same = refl
  listed-same one other x y (suc n) same =
      let here : one x ≡ other y = (let e : x + 0 ≡ x = omega arith in let f : y + 0 ≡ y = omega arith in ap one (sym e) ∙ same 0 (omega arith) ∙ ap other f) in
      rw (here, listed-same one other (x + 1) (y + 1) n (λ i h. let e : (x + 1) + i ≡ x + suc i = omega arith in let f : (y + 1) + i ≡ y + suc i = omega arith in ap one e ∙ same (suc i) (omega arith) ∙ ap other (sym f))) refl

  listed-window : (at : ℕ → A) (x p n all : ℕ) → p + n ≤ all → take n (drop p (listed at x all)) ≡ listed at (x + p) n
  listed-window at x zero zero all h = refl
  listed-window at x zero (suc n) zero h = absurd (omega arith)
  listed-window at x zero (suc n) (suc all) h = let e : x + 0 ≡ x = omega arith in let f : (x + 1) + 0 ≡ x + 1 = omega arith in rw e (ap (λ (l : List A). at x ∷ l) (listed-window at (x + 1) zero n all (omega arith) ∙ ap (λ k. listed at k n) f))
  listed-window at x (suc p) zero zero h = absurd (omega arith)
  listed-window at x (suc p) (suc n) zero h = absurd (omega arith)
  listed-window at x (suc p) n (suc all) h = let e : x + suc p ≡ (x + 1) + p = omega arith in rw e (listed-window at (x + 1) p n all (omega arith))

  length-listed : (at : ℕ → A) (x n : ℕ) → length (listed at x n) ≡ n
  length-listed at x zero = refl
  length-listed at x (suc n) = let e = length-listed at (x + 1) n in omega arith

repeated-names : (m : Maker) (r i n : ℕ) → 0 < r → repeated (names_of m r) i n ≡ listed (λ k. record { maker = m; place = k % r }) i n
repeated-names m r i zero some = refl
repeated-names m r i (suc n) some =
    let long = length-names m 0 r in
    let small : i % r < r = omega arith in
    let own : repeat (names_of m r) i ≡ record { maker = m; place = i % r } ∷ [] = rw long (listed-window (λ k. record { maker = m; place = k }) 0 (i % r) 1 r (omega arith) ∙ ap (λ k. record { maker = m; place = k } ∷ []) (let e : 0 + i % r ≡ i % r = omega arith in e)) in
    rw (own, repeated-names m r (i + 1) n some) refl

module _ (level : LevelView) (q : List ℕ) (sound : IsLevel level) where
  abbrev name : ℕ → Tail → ℕ → ℕ → TokenName
  name l t d k = name_at level l t d k

  delay-line : (l a p r d : ℕ) → names_of (maker.Init l) d ≡ listed (name l (tail.Port a p r) d) 0 d
  delay-line l a p r d = listed-same (λ k. record { maker = maker.Init l; place = k }) (name l (tail.Port a p r) d) 0 0 d (λ i h. rw (lt-ltb (0 + i) d (omega arith)) refl)

  firing-line : (l a p r d k : ℕ) → names_of (maker.Firing a k p) r ≡ listed (name l (tail.Port a p r) d) (d + k * r) r
  firing-line l a p r d k = listed-same (λ k'. record { maker = maker.Firing a k p; place = k' }) (name l (tail.Port a p r) d) 0 (d + k * r) r one
    where
      one : (i : ℕ) → i < r → record { maker = maker.Firing a k p; place = 0 + i } ≡ name l (tail.Port a p r) d ((d + k * r) + i)
      one i h =
          let e : ((d + k * r) + i) - d ≡ k * r + i = omega arith in
          let f : 0 + i ≡ i = omega arith in
          rw (le-ltb ((d + k * r) + i) d (omega arith), e, div-mul-add k r i h, mod-mul-add k r i h, f) refl

  sent-line : (l a p r d m : ℕ) → ((k : ℕ) → slice_index_or (output_names level.links a k) p [] ≡ names_of (maker.Firing a k p) r) → sent (output_names level.links a) p m ≡ listed (name l (tail.Port a p r) d) d (m * r)
  sent-line l a p r d zero gives = let z : 0 * r ≡ 0 = omega arith in rw z refl
  sent-line l a p r d (suc m) gives =
      let e : suc m * r ≡ m * r + r = grind arith in
      rw (sent-line l a p r d m gives, gives m, firing-line l a p r d m, e) (sym (listed-append (name l (tail.Port a p r) d) d (m * r) r))

  -- how many places a line has
  abbrev places : Tail → Head → ℕ → ℕ
  places (tail.Source s) (head.Sink t) d = 0
  places (tail.Source s) (head.Port b j c) d = slice_index q b * c
  places (tail.Port a p r) h d = d + slice_index q a * r

  whole-line : (before : List Link) (l : ℕ) (t : Tail) (h : Head) (d : ℕ) (links : List Link) → level.links ≡ before ++ record { tail = t; head = h; delay = d } ∷ links → FitsAt level q (names level) l t h d (names_of (maker.Init l) d) →
      full level q (names level) t h (names_of (maker.Init l) d) ≡ listed (name l t d) 0 (places t h d)
  whole-line before l (tail.Source s) (head.Sink t) d links all fits = refl
  whole-line before l (tail.Source s) (head.Port b j c) d links all fits =
      let rate : ℕ = slice_index level.sources s in
      ⊎_elim
      (λ (some : 0 < rate). rw (source-names s 0 level.sources some) (repeated-names (maker.Source (0 + s)) rate 0 (slice_index q b * c) some ∙ ap (λ x. listed (λ k. record { maker = maker.Source x; place = k % rate }) 0 (slice_index q b * c)) (let e : 0 + s ≡ s = omega arith in e)))
      (λ (none : rate ≤ 0). let z : c ≡ 0 = fits.ends.1 (omega arith) in let e : slice_index q b * c ≡ 0 = rw z (omega arith) in rw e refl)
      (cases_lt 0 rate)
  whole-line before l (tail.Port a p r) h d links all fits =
      let m : ℕ = slice_index q a in
      let z : 0 + d ≡ d = omega arith in
      rw (delay-line l a p r d, sent-line l a p r d m (λ k. port-names level sound a k before p r h d links all)) (sym (listed-append (name l (tail.Port a p r) d) 0 d (m * r) ∙ rw z refl))

  ranges-named : (at : ℕ → TokenName) (line : List TokenName) (all : ℕ) → line ≡ listed at 0 all → (ws : List Wire) → Every (λ w. w.place + w.size ≤ length line) ws → map (carried line) ws ≡ map (λ w. listed at w.place w.size) ws
  ranges-named at line all is [] within = refl
  ranges-named at line all is (w ∷ ws) within =
      let long : length line ≡ all = ap (λ (x : List TokenName). length x) is ∙ length-listed at 0 all in
      let z : 0 + w.place ≡ w.place = omega arith in
      let here : carried line w ≡ listed at w.place w.size = ap (λ (x : List TokenName). take w.size (drop w.place x)) is ∙ listed-window at 0 w.place w.size all (let h = within.0 in omega arith) ∙ rw z refl in
      rw (here, ranges-named at line all is ws within.1) refl

  pub edges-named : (before links : List Link) (l : ℕ) → level.links ≡ before ++ links → AllFit level q (names level) l links (delay_names l links) → ranges_on level q (names level) l links (delay_names l links) ≡ named_from level q l links
  edges-named before [] l all fits = refl
  edges-named before (link ∷ links) l all fits =
      rw (
        ranges-named (name l link.tail link.delay) (full level q (names level) link.tail link.head (names_of (maker.Init l) link.delay)) (places link.tail link.head link.delay) (whole-line before l link.tail link.head link.delay links all fits.0) (wires_at level q l link.tail link.head link.delay) (link-within level q (names level) l link.tail link.head link.delay (names_of (maker.Init l) link.delay) fits.0),
        edges-named (before ++ link ∷ []) links (l + 1) (all ∙ sym (append_assoc before (link ∷ []) links)) fits.1,
      ) refl
