-- How long the lines of links are in a run, and what firings read on a link from an actor to itself.
use Rattle.std.proofs.Common.{◌≡◌, ◌≢◌, ℕ, zero, suc, ◌+◌, ◌*◌, ◌<◌, ◌≤◌, true, false, ⊎_elim, ℤ, List, [], ◌∷◌, ◌++◌, length, get_or, take, drop, Result, Ok, Err, refl, ap, sym, ◌∙◌, subst, arith, length-append}
use Rattle.std.specs.List.{AllByRecursion}
use Rattle.std.proofs.Math.Nat.{mul-suc, mul_comm}
use Rattle.std.proofs.lemmas.Bool.{cases_Bool, cases_eq, cases_lt, eq-eqb, ne_eqb}
use Rattle.std.proofs.lemmas.List.{append-nil, get_or-append-add, get_or_append_left, length-drop, length-take-le}
use Rattle.sdf_level.specs.View.{LevelView}
use Rattle.sdf_level.specs.Firings.{firings}
use Rattle.sdf_level.specs.Invariants.{how_many, is_into_port}
use Rattle.sdf_level.specs.LevelRun.{HasRate, HaveDelays, HaveRates}
use Rattle.sdf_level.specs.Run.{Fire, GoesOn, RunsFrom, added, head_rate, input, inputs, inputs_below, is_into_actor, put, read}
use Rattle.sdf_level.specs.declared.link.Link.{Link}
use Rattle.sdf_level.specs.declared.link.Tail.{Tail}
use Rattle.sdf_level.specs.declared.link.Tail.TheVariants as tail
use Rattle.sdf_level.specs.declared.link.Head.TheVariants as head
use Rattle.sdf_level.proofs.FiringLists.{firings-snoc_own, firings-snoc_other}
use Rattle.pisdf_meaning.specs.declared.refusal.Refusal.{Refusal}

-- how many tokens were put on a link with this tail and this delay, after so many firings of each actor
abbrev pub line_size : (ℕ → ℕ) → Tail → ℕ → ℕ
line_size fired (tail.Source s) d = d
line_size fired (tail.Port a p r) d = d + r * fired a

abbrev pub HaveSizes : (ℕ → ℕ) → List Link → List (List ℤ) → Type 0
HaveSizes fired [] [] = Unit {0}
HaveSizes fired [] (line ∷ lines) = ⊥
HaveSizes fired (link ∷ links) [] = ⊥
HaveSizes fired (link ∷ links) (line ∷ lines) = (length line ≡ line_size fired link.tail link.delay) × HaveSizes fired links lines

-- ---- at the start

size_start : (f : ℕ → ℕ) (t : Tail) (d : ℕ) → ((a : ℕ) → f a ≡ 0) → d ≡ line_size f t d
size_start f (tail.Source s) d none = refl
size_start f (tail.Port a p r) d none = let z : r * f a ≡ r * 0 = ap (λ n. r * n) (none a) in omega arith

pub sizes_start : (f : ℕ → ℕ) → ((a : ℕ) → f a ≡ 0) → (links : List Link) (starts : List (List ℤ)) → HaveDelays links starts → HaveSizes f links starts
sizes_start f none [] [] at = tt
sizes_start f none [] (start ∷ starts) at = absurd at
sizes_start f none (link ∷ links) [] at = absurd at
sizes_start f none (link ∷ links) (start ∷ starts) at = (at.0 ∙ size_start f link.tail link.delay none, sizes_start f none links starts at.1)

-- ---- with one firing more

module _ (f g : ℕ → ℕ) (b : ℕ) (own : g b ≡ f b + 1) (others : (a : ℕ) → a ≢ b → g a ≡ f a) (outs : List (List ℤ)) where
  size_put : (t : Tail) (d : ℕ) (line : List ℤ) → HasRate b outs t → length line ≡ line_size f t d → length (line ++ added b outs t) ≡ line_size g t d
  size_put (tail.Source s) d line rate long = ap (λ (l : List ℤ). length l) (append-nil line) ∙ long
  size_put (tail.Port a p r) d line rate long = ⊎_elim
      (λ (e : a ≡ b).
      let put = rate e in
      let both = length-append line (get_or outs p []) in
      let now : g a ≡ suc (f a) = ap g e ∙ own ∙ (let s : f b + 1 ≡ suc (f a) = let same = ap f e in omega arith in s) in
      let more : r * g a ≡ r * f a + r = ap (λ n. r * n) now ∙ mul-suc r (f a) in
      rw (eq-eqb a b e) (omega arith))
      (λ (n : a ≢ b).
      let more : r * g a ≡ r * f a = ap (λ n. r * n) (others a n) in
      rw (ne_eqb a b n) (ap (λ (l : List ℤ). length l) (append-nil line) ∙ long ∙ ap (λ m. d + m) (sym more)))
      (cases_eq a b)

  pub sizes_put : (links : List Link) (lines : List (List ℤ)) → HaveRates b outs links → HaveSizes f links lines → HaveSizes g links (put b outs links lines)
  sizes_put [] [] rates sizes = tt
  sizes_put [] (line ∷ lines) rates sizes = absurd sizes
  sizes_put (link ∷ links) [] rates sizes = absurd sizes
  sizes_put (link ∷ links) (line ∷ lines) rates sizes = (size_put link.tail link.delay line rates.0 sizes.0, sizes_put links lines rates.1 sizes.1)

-- ---- a link from an actor to itself

-- the link leads from the actor to itself, with this rate at both ends and as many tokens at the start
pub record IsOwn (b port h : ℕ) (link : Link) : Type 0 where
  pub out : ℕ
  pub is : link ≡ record { tail = tail.Port b out h; head = head.Port b port h; delay = h }

abbrev OwnAt : ℕ → ℕ → ℕ → Link → Type 0
OwnAt b port h link = is_into_port b port link ≡ true → IsOwn b port h link

module _ (sources : List (List ℤ)) (f : ℕ → ℕ) (b port h : ℕ) where
  own_line : (line : List ℤ) → length line ≡ h + h * f b → length (take h (drop (f b * h) line)) ≡ h
  own_line line long =
      let turned : f b * h ≡ h * f b = mul_comm (f b) h in
      let left = length-drop (f b * h) line in
      length-take-le h (drop (f b * h) line) (omega arith)

  own_link : (link : Link) (line : List ℤ) → IsOwn b port h link → length line ≡ line_size f link.tail link.delay → length (read sources (f b) (head_rate link.head) link.tail line) ≡ h
  own_link link line own long =
      let P : Link → Type 0 = λ l. length line ≡ line_size f l.tail l.delay → length (read sources (f b) (head_rate l.head) l.tail line) ≡ h in
      subst P (sym own.is) (own_line line) long

  own_read : (links : List Link) (lines : List (List ℤ)) → AllByRecursion (OwnAt b port h) links → 0 < how_many (is_into_port b port) links → HaveSizes f links lines → length (input sources b (f b) port links lines) ≡ h
  own_read [] lines own some sizes = absurd (omega arith)
  own_read (link ∷ links) [] own some sizes = absurd sizes
  own_read (link ∷ links) (line ∷ lines) own some sizes = ⊎_elim
      (λ (e : is_into_port b port link ≡ true). rw e (own_link link line (own.0 e) sizes.0))
      (λ (e : is_into_port b port link ≡ false). rw e (own_read links lines own.1 (let m = rw e at some in omega arith) sizes.1))
      (cases_Bool (is_into_port b port link))

length-inputs_below : (sources : List (List ℤ)) (b k n : ℕ) (links : List Link) (lines : List (List ℤ)) → length (inputs_below sources b k n links lines) ≡ n
length-inputs_below sources b k zero links lines = refl
length-inputs_below sources b k (suc n) links lines =
    let both = length-append (inputs_below sources b k n links lines) (input sources b k n links lines ∷ []) in
    let again = length-inputs_below sources b k n links lines in
    omega arith

input_at : (sources : List (List ℤ)) (b k n p : ℕ) (links : List Link) (lines : List (List ℤ)) → p < n → get_or (inputs_below sources b k n links lines) p [] ≡ input sources b k p links lines
input_at sources b k zero p links lines inside = absurd (omega arith)
input_at sources b k (suc n) p links lines inside =
    let before = inputs_below sources b k n links lines in
    let long = length-inputs_below sources b k n links lines in
    ⊎_elim
    (λ (less : p < n). get_or_append_left before (input sources b k n links lines ∷ []) [] p (omega arith) ∙ input_at sources b k n p links lines less)
    (λ (most : n ≤ p).
    let here : length before + 0 ≡ p = omega arith in
    let same : n ≡ p = omega arith in
    ap (λ i. get_or (before ++ input sources b k n links lines ∷ []) i []) (sym here) ∙ get_or-append-add before (input sources b k n links lines ∷ []) 0 [] ∙ ap (λ m. input sources b k m links lines) same)
    (cases_lt p n)

-- what the actor reads there, in the turn that it has come to
pub own_reads : (sources : List (List ℤ)) (f : ℕ → ℕ) (b port h : ℕ) (links : List Link) (lines : List (List ℤ)) → AllByRecursion (OwnAt b port h) links → 0 < how_many (is_into_port b port) links → port < how_many (is_into_actor b) links → HaveSizes f links lines →
    length (get_or (inputs sources b (f b) links lines) port []) ≡ h
own_reads sources f b port h links lines own some inside sizes =
    ap (λ (l : List ℤ). length l) (input_at sources b (f b) (how_many (is_into_actor b) links) port links lines inside) ∙ own_read sources f b port h links lines own some sizes

-- ---- a run whose firings read what fits

module _ (level : LevelView) (fire : Fire ℤ Refusal) (Fitting : ℕ → List (List ℤ) → Type 0) (sources : List (List ℤ)) where
  -- the firings that read what fits
  abbrev pub narrowed : Fire ℤ Refusal
  narrowed b k ins answer = fire b k ins answer × Fitting b ins

  module _ (gives : (b k : ℕ) (ins outs : List (List ℤ)) → Fitting b ins → fire b k ins (Ok outs) → HaveRates b outs level.links)
      (fits : (f : ℕ → ℕ) (b : ℕ) (lines : List (List ℤ)) → HaveSizes f level.links lines → Fitting b (inputs sources b (f b) level.links lines)) where
    onward : (N M : List (List ℤ) → Type 0) (end : List (List ℤ)) → (answer : Result (List (List ℤ)) Refusal) → ((outs : List (List ℤ)) → answer ≡ Ok outs → N outs → M outs) → GoesOn N (Ok end) answer → GoesOn M (Ok end) answer
    onward N M end (Ok outs) next goes = next outs refl goes
    onward N M end (Err fault) next goes = goes

    pub runs_narrowed : (before : List ℕ) (lines : List (List ℤ)) (rest : List ℕ) (end : List (List ℤ)) → HaveSizes (λ a. firings a before) level.links lines →
        RunsFrom level fire sources before lines rest (Ok end) → RunsFrom level narrowed sources before lines rest (Ok end)
    runs_narrowed before lines [] end sizes run = run
    runs_narrowed before lines (b ∷ rest) end sizes run =
        let ins = inputs sources b (firings b before) level.links lines in
        let fit = fits (λ a. firings a before) b lines sizes in
        let N : List (List ℤ) → Type 0 = λ outs. RunsFrom level fire sources (before ++ b ∷ []) (put b outs level.links lines) rest (Ok end) in
        let M : List (List ℤ) → Type 0 = λ outs. RunsFrom level narrowed sources (before ++ b ∷ []) (put b outs level.links lines) rest (Ok end) in
        let P : Result (List (List ℤ)) Refusal → Type 0 = λ r. fire b (firings b before) ins r in (
          run.0,
          (run.1, fit),
          onward N M end run.0 (λ outs e goes.
              let rates = gives b (firings b before) ins outs fit (subst P e run.1) in
              let more = sizes_put (λ a. firings a before) (λ a. firings a (before ++ b ∷ [])) b (firings-snoc_own b before) (λ a n. firings-snoc_other a b before (λ e. n (sym e))) outs level.links lines rates sizes in
              runs_narrowed (before ++ b ∷ []) (put b outs level.links lines) rest end more goes) run.2,
        )
