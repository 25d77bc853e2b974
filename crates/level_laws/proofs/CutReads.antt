-- What firings read of sources and of lines that are cut.
use Rattle.std.proofs.Common.{◌≡◌, ◌≢◌, ℕ, zero, suc, ◌+◌, ◌*◌, ◌%◌, ◌<◌, ◌≤◌, ⊎_elim, List, [], ◌∷◌, ◌++◌, length, map, slice_index, slice_index_or, take, drop, if◌then◌else◌, refl, ap, sym, ◌∙◌, subst, append_assoc, arith}
use Rattle.std.specs.List.{AllByRecursion}
use Rattle.std.proofs.lemmas.Bool.{cases_eq, ne_eqb}
use Rattle.std.proofs.lemmas.List.{drop-drop, drop_all, length-drop, length-take-le, take-append-drop, take_all}
use Rattle.std.proofs.Math.ListN.{get_or-map}
use Rattle.std.proofs.Math.Nat.{mod-eq_of_lt, mul-add, mul-le-mul_right, mul_assoc, mul_comm}
use Rattle.std.proofs.Math.Seq.{drop-append-add}
use Rattle.sdf_level.specs.View.{LevelView}
use Rattle.sdf_level.specs.declared.link.Link.{Link}
use Rattle.sdf_level.specs.declared.link.Tail.{Tail}
use Rattle.sdf_level.specs.declared.link.Head.{Head}
use Rattle.sdf_level.specs.declared.link.Tail.TheVariants as tail
use Rattle.sdf_level.specs.declared.link.Head.TheVariants as head
use Rattle.sdf_level.specs.Invariants.{is_into_port}
use Rattle.sdf_level.specs.Links.{OfOuter, EachOuter}
use Rattle.sdf_level.specs.Interfaces.{repeated}
use Rattle.sdf_level.specs.Run.{added, head_rate, input, inputs_below, put, read}
use Rattle.sdf_level.proofs.Windows.{window-append}
use Rattle.level_laws.specs.Unfolded.{multiplied, IsMetExactly}
use Rattle.level_laws.specs.Pieces.{HaveTokens, first_tokens, joined, other_tokens}
use Rattle.level_laws.proofs.Multiplied.{at_multiplied}
use Rattle.level_laws.proofs.Copies.{suc_times}

pub sum_times : (x y c : ℕ) → (x + y) * c ≡ x * c + y * c
sum_times x y c = mul_comm (x + y) c ∙ mul-add c x y ∙ (let a = mul_comm c x in let b = mul_comm c y in omega arith)

one_more_times : (k c : ℕ) → (k + 1) * c ≡ k * c + c
one_more_times k c = sum_times k 1 c ∙ (let e : 1 * c ≡ c = omega arith in omega arith)

module _ {T : Type 0} where
  -- ---- sources

  one_and_more : (i n : ℕ) (t : List T) → i < length t → take 1 (drop i t) ++ take n (drop (suc i) t) ≡ take (suc n) (drop i t)
  one_and_more i n [] h = absurd (omega arith)
  one_and_more zero n (x ∷ t) h = refl
  one_and_more (suc i) n (x ∷ t) h = one_and_more i n t (omega arith)

  -- within a list, its repetition is the list
  repeated_within : (t : List T) (i n : ℕ) → i + n ≤ length t → repeated t i n ≡ take n (drop i t)
  repeated_within t i zero h = refl
  repeated_within t i (suc n) h =
      let small : i % length t ≡ i = mod-eq_of_lt (omega arith) in
      let again = repeated_within t (i + 1) n (omega arith) in
      let next : i + 1 ≡ suc i = omega arith in
      ap (λ j. take 1 (drop j t) ++ repeated t (i + 1) n) small ∙ ap (λ (l : List T). take 1 (drop i t) ++ l) again ∙ ap (λ j. take 1 (drop i t) ++ take n (drop j t)) next ∙ one_and_more i n t (omega arith)

  -- the firings of one iteration read the first tokens
  source_first : (source : List T) (rate k n c : ℕ) → n * c ≡ rate → rate ≤ length source → k < n → repeated source (k * c) c ≡ repeated (take rate source) (k * c) c
  source_first source rate k n c met holds early =
      let place : ℕ = k * c in
      let fits : place + c ≤ rate = let m : (k + 1) * c ≤ n * c = mul-le-mul_right c (let l : k + 1 ≤ n = omega arith in l) in let e = one_more_times k c in omega arith in
      let long = length-take-le rate source holds in
      let whole : source ≡ take rate source ++ drop rate source = sym (take-append-drop rate source) in
      repeated_within source place c (omega arith) ∙ ap (λ (l : List T). take c (drop place l)) whole ∙ window-append c place (take rate source) (drop rate source) (omega arith)
      ∙ sym (repeated_within (take rate source) place c (omega arith))

  -- those of the others read the rest
  source_later : (source : List T) (rate k n c : ℕ) → n * c ≡ rate → rate + (k * c + c) ≤ length source → repeated source ((n + k) * c) c ≡ repeated (drop rate source) (k * c) c
  source_later source rate k n c met holds =
      let place : ℕ = k * c in
      let at : (n + k) * c ≡ rate + place = sum_times n k c ∙ ap (λ m. m + k * c) met in
      let long = length-drop rate source in
      ap (λ m. repeated source m c) at ∙ repeated_within source (rate + place) c (omega arith) ∙ ap (λ (l : List T). take c l) (sym (drop-drop place rate source)) ∙ sym (repeated_within (drop rate source) place c (omega arith))

  first_at : (rates : List ℕ) (sources : List (List T)) (s : ℕ) → slice_index_or (first_tokens rates sources) s [] ≡ take (slice_index rates s) (slice_index_or sources s [])
  first_at [] sources s = refl
  first_at (rate ∷ rates) [] s = sym (take_all (slice_index (rate ∷ rates) s) [] (omega arith))
  first_at (rate ∷ rates) (source ∷ sources) zero = refl
  first_at (rate ∷ rates) (source ∷ sources) (suc s) = first_at rates sources s

  other_at : (rates : List ℕ) (sources : List (List T)) (s : ℕ) → slice_index_or (other_tokens rates sources) s [] ≡ drop (slice_index rates s) (slice_index_or sources s [])
  other_at [] sources s = refl
  other_at (rate ∷ rates) [] s = sym (drop_all (slice_index (rate ∷ rates) s) [] (omega arith))
  other_at (rate ∷ rates) (source ∷ sources) zero = refl
  other_at (rate ∷ rates) (source ∷ sources) (suc s) = other_at rates sources s

  length_at : (sources : List (List T)) (s : ℕ) → slice_index (map (λ (l : List T). length l) sources) s ≡ length (slice_index_or sources s [])
  length_at sources s = get_or-map (λ (l : List T). length l) sources s []

  -- ---- cut sources

  tokens_first : (times : ℕ) (rates : List ℕ) (sources : List (List T)) → map (λ (l : List T). length l) sources ≡ multiplied (suc times) rates → map (λ (l : List T). length l) (first_tokens rates sources) ≡ multiplied 1 rates
  tokens_first times [] sources are = refl
  tokens_first times (rate ∷ rates) [] are = absurd (cc)
  tokens_first times (rate ∷ rates) (source ∷ sources) are =
      let here : length source ≡ suc times * rate = cc in
      let more = suc_times times rate in
      let there : map (λ (l : List T). length l) sources ≡ multiplied (suc times) rates = cc in
      let one : length (take rate source) ≡ 1 * rate = length-take-le rate source (omega arith) ∙ (let e : rate ≡ 1 * rate = omega arith in e) in
      rw (one, tokens_first times rates sources there) refl

  tokens_other : (times : ℕ) (rates : List ℕ) (sources : List (List T)) → map (λ (l : List T). length l) sources ≡ multiplied (suc times) rates → map (λ (l : List T). length l) (other_tokens rates sources) ≡ multiplied times rates
  tokens_other times [] sources are = are
  tokens_other times (rate ∷ rates) [] are = absurd (cc)
  tokens_other times (rate ∷ rates) (source ∷ sources) are =
      let here : length source ≡ suc times * rate = cc in
      let more = suc_times times rate in
      let there : map (λ (l : List T). length l) sources ≡ multiplied (suc times) rates = cc in
      let rest : length (drop rate source) ≡ times * rate = length-drop rate source ∙ (let l : length source ≡ rate + times * rate = omega arith in omega arith) in
      rw (rest, tokens_other times rates sources there) refl

  -- a firing of b reads of the one sources with number k what it reads of the other with number j
  abbrev pub ReadAlike : List (List T) → List (List T) → ℕ → ℕ → ℕ → Tail → Head → Type 0
  ReadAlike one other b k j (tail.Source s) (head.Sink t) = Unit {0}
  ReadAlike one other b k j (tail.Source s) (head.Port a i c) = a ≡ b → repeated (slice_index_or one s []) (k * c) c ≡ repeated (slice_index_or other s []) (j * c) c
  ReadAlike one other b k j (tail.Port a p r) h = Unit {0}

  module _ (times : ℕ) (level : LevelView) (sources : List (List T)) (holds : HaveTokens (suc times) level sources) (q : List ℕ) (b k : ℕ) where
    source_holds : (s : ℕ) → length (slice_index_or sources s []) ≡ slice_index level.sources s + times * slice_index level.sources s
    source_holds s = sym (length_at sources s) ∙ ap (λ (l : List ℕ). slice_index l s) holds ∙ at_multiplied (suc times) level.sources s ∙ suc_times times (slice_index level.sources s)

    first_alike : k < slice_index q b → (t : Tail) (h : Head) → OfOuter (IsMetExactly q) level t h → ReadAlike sources (first_tokens level.sources sources) b k k t h
    first_alike early (tail.Source s) (head.Sink t) met = tt
    first_alike early (tail.Port a p r) h met = tt
    first_alike early (tail.Source s) (head.Port a i zero) met = λ e. refl
    first_alike early (tail.Source s) (head.Port a i (suc c)) met = λ e.
        let count : slice_index q a ≡ slice_index q b = ap (slice_index q) e in
        let long = source_holds s in
        let P : List T → Type 0 = λ l. repeated (slice_index_or sources s []) (k * suc c) (suc c) ≡ repeated l (k * suc c) (suc c) in
        subst P (sym (first_at level.sources sources s)) (source_first (slice_index_or sources s []) (slice_index level.sources s) k (slice_index q a) (suc c) (met (omega arith)) (omega arith) (omega arith))

    pub firsts_alike : k < slice_index q b → (links : List Link) → EachOuter (IsMetExactly q) level links → AllByRecursion (λ link. ReadAlike sources (first_tokens level.sources sources) b k k link.tail link.head) links
    firsts_alike early [] met = tt
    firsts_alike early (link ∷ links) met = (first_alike early link.tail link.head met.0, firsts_alike early links met.1)

    rest_holds : (rate c : ℕ) → k < times * slice_index q b → slice_index q b * c ≡ rate → k * c + c ≤ times * rate
    rest_holds rate c within met =
        let more : (k + 1) * c ≤ times * slice_index q b * c = mul-le-mul_right c (let l : k + 1 ≤ times * slice_index q b = omega arith in l) in
        let e = one_more_times k c in
        let f : times * slice_index q b * c ≡ times * rate = mul_assoc times (slice_index q b) c ∙ ap (λ n. times * n) met in
        omega arith

    later_alike : k < times * slice_index q b → (t : Tail) (h : Head) → OfOuter (IsMetExactly q) level t h → ReadAlike sources (other_tokens level.sources sources) b (slice_index q b + k) k t h
    later_alike within (tail.Source s) (head.Sink t) met = tt
    later_alike within (tail.Port a p r) h met = tt
    later_alike within (tail.Source s) (head.Port a i zero) met = λ e. refl
    later_alike within (tail.Source s) (head.Port a i (suc c)) met = λ e.
        let even : slice_index q b * suc c ≡ slice_index level.sources s = ap (λ x. slice_index q x * suc c) (sym e) ∙ met (omega arith) in
        let long = source_holds s in
        let rest = rest_holds (slice_index level.sources s) (suc c) within even in
        let P : List T → Type 0 = λ l. repeated (slice_index_or sources s []) ((slice_index q b + k) * suc c) (suc c) ≡ repeated l (k * suc c) (suc c) in
        subst P (sym (other_at level.sources sources s)) (source_later (slice_index_or sources s []) (slice_index level.sources s) k (slice_index q b) (suc c) even (omega arith))

    pub laters_alike : k < times * slice_index q b → (links : List Link) → EachOuter (IsMetExactly q) level links → AllByRecursion (λ link. ReadAlike sources (other_tokens level.sources sources) b (slice_index q b + k) k link.tail link.head) links
    laters_alike within [] met = tt
    laters_alike within (link ∷ links) met = (later_alike within link.tail link.head met.0, laters_alike within links met.1)

  -- ---- what a firing reads of the same lines

  module _ (one other : List (List T)) (b k : ℕ) where
    read_alike : (t : Tail) (h : Head) (d port : ℕ) (line first second : List T) → ReadAlike one other b k k t h → first ≡ second →
        (if is_into_port b port record { tail = t; head = h; delay = d } then read one k (head_rate h) t line else first)
        ≡ (if is_into_port b port record { tail = t; head = h; delay = d } then read other k (head_rate h) t line else second)
    read_alike t (head.Sink s) d port line first second alike rest = rest
    read_alike (tail.Port x p r) (head.Port a i c) d port line first second alike rest = rw rest refl
    read_alike (tail.Source s) (head.Port a i c) d port line first second alike rest = ⊎_elim
        (λ (e : a ≡ b). rw (rest, alike e) refl)
        (λ (n : a ≢ b). rw (ne_eqb a b n) rest)
        (cases_eq a b)

    input_alike : (links : List Link) (lines : List (List T)) (port : ℕ) → AllByRecursion (λ link. ReadAlike one other b k k link.tail link.head) links → input one b k port links lines ≡ input other b k port links lines
    input_alike [] lines port alike = refl
    input_alike (link ∷ links) [] port alike = refl
    input_alike (link ∷ links) (line ∷ lines) port alike =
        read_alike link.tail link.head link.delay port line (input one b k port links lines) (input other b k port links lines) alike.0 (input_alike links lines port alike.1)

    pub inputs_alike : (links : List Link) (lines : List (List T)) (ports : ℕ) → AllByRecursion (λ link. ReadAlike one other b k k link.tail link.head) links → inputs_below one b k ports links lines ≡ inputs_below other b k ports links lines
    inputs_alike links lines zero alike = refl
    inputs_alike links lines (suc port) alike = rw (inputs_alike links lines port alike, input_alike links lines port alike) refl

  -- ---- lines without what is done with

  -- what is done with on a link between two actors is what all firings of its head read
  abbrev pub IsUsed : List ℕ → Tail → Head → List T → Type 0
  IsUsed q (tail.Source s) h used = Unit {0}
  IsUsed q (tail.Port a p r) (head.Sink t) used = Unit {0}
  IsUsed q (tail.Port a p r) (head.Port b j c) used = length used ≡ slice_index q b * c

  -- a list and a line for each link
  abbrev pub AreUsed : List ℕ → List Link → List (List T) → List (List T) → Type 0
  AreUsed q [] [] [] = Unit {0}
  AreUsed q [] [] (line ∷ lines) = ⊥
  AreUsed q [] (used ∷ all) lines = ⊥
  AreUsed q (link ∷ links) [] lines = ⊥
  AreUsed q (link ∷ links) (used ∷ all) [] = ⊥
  AreUsed q (link ∷ links) (used ∷ all) (line ∷ lines) = IsUsed q link.tail link.head used × AreUsed q links all lines

  module _ (q : List ℕ) where
    pub put_joined : (b : ℕ) (outs : List (List T)) (links : List Link) (all lines : List (List T)) → AreUsed q links all lines → put b outs links (joined all lines) ≡ joined all (put b outs links lines)
    put_joined b outs [] [] [] are = refl
    put_joined b outs [] [] (line ∷ lines) are = absurd are
    put_joined b outs [] (used ∷ all) lines are = absurd are
    put_joined b outs (link ∷ links) [] lines are = absurd are
    put_joined b outs (link ∷ links) (used ∷ all) [] are = absurd are
    put_joined b outs (link ∷ links) (used ∷ all) (line ∷ lines) are = rw (append_assoc used line (added b outs link.tail), put_joined b outs links all lines are.1) refl

    pub put_used : (b : ℕ) (outs : List (List T)) (links : List Link) (all lines : List (List T)) → AreUsed q links all lines → AreUsed q links all (put b outs links lines)
    put_used b outs [] [] [] are = tt
    put_used b outs [] [] (line ∷ lines) are = absurd are
    put_used b outs [] (used ∷ all) lines are = absurd are
    put_used b outs (link ∷ links) [] lines are = absurd are
    put_used b outs (link ∷ links) (used ∷ all) [] are = absurd are
    put_used b outs (link ∷ links) (used ∷ all) (line ∷ lines) are = (are.0, put_used b outs links all lines are.1)

    module _ (one other : List (List T)) (b k j : ℕ) (number : k ≡ slice_index q b + j) where
      window_moved : (a c : ℕ) (used line : List T) → a ≡ b → length used ≡ slice_index q a * c → take c (drop (k * c) (used ++ line)) ≡ take c (drop (j * c) line)
      window_moved a c used line same long =
          let at : k * c ≡ length used + j * c = ap (λ n. n * c) number ∙ sum_times (slice_index q b) j c ∙ ap (λ x. slice_index q x * c + j * c) (sym same) ∙ ap (λ n. n + j * c) (sym long) in
          ap (λ n. take c (drop n (used ++ line))) at ∙ ap (λ (l : List T). take c l) (drop-append-add used line (j * c))

      read_moved : (t : Tail) (h : Head) (d port : ℕ) (used line first second : List T) → IsUsed q t h used → ReadAlike one other b k j t h → first ≡ second →
          (if is_into_port b port record { tail = t; head = h; delay = d } then read one k (head_rate h) t (used ++ line) else first)
          ≡ (if is_into_port b port record { tail = t; head = h; delay = d } then read other j (head_rate h) t line else second)
      read_moved t (head.Sink s) d port used line first second is alike rest = rest
      read_moved (tail.Source s) (head.Port a i c) d port used line first second is alike rest = ⊎_elim
          (λ (e : a ≡ b). rw (rest, alike e) refl)
          (λ (n : a ≢ b). rw (ne_eqb a b n) rest)
          (cases_eq a b)
      read_moved (tail.Port x p r) (head.Port a i c) d port used line first second is alike rest = ⊎_elim
          (λ (e : a ≡ b). rw (rest, window_moved a c used line e is) refl)
          (λ (n : a ≢ b). rw (ne_eqb a b n) rest)
          (cases_eq a b)

      input_moved : (links : List Link) (all lines : List (List T)) (port : ℕ) → AreUsed q links all lines → AllByRecursion (λ link. ReadAlike one other b k j link.tail link.head) links → input one b k port links (joined all lines) ≡ input other b j port links lines
      input_moved [] all lines port are alike = refl
      input_moved (link ∷ links) [] lines port are alike = absurd are
      input_moved (link ∷ links) (used ∷ all) [] port are alike = absurd are
      input_moved (link ∷ links) (used ∷ all) (line ∷ lines) port are alike =
          read_moved link.tail link.head link.delay port used line (input one b k port links (joined all lines)) (input other b j port links lines) are.0 alike.0 (input_moved links all lines port are.1 alike.1)

      pub inputs_moved : (links : List Link) (all lines : List (List T)) (ports : ℕ) → AreUsed q links all lines → AllByRecursion (λ link. ReadAlike one other b k j link.tail link.head) links → inputs_below one b k ports links (joined all lines) ≡ inputs_below other b j ports links lines
      inputs_moved links all lines zero are alike = refl
      inputs_moved links all lines (suc port) are alike = rw (inputs_moved links all lines port are alike, input_moved links all lines port are alike) refl

pub tokens_cut : {T : Type 0} (times : ℕ) (level : LevelView) (sources : List (List T)) → HaveTokens (suc times) level sources →
    HaveTokens 1 level (first_tokens level.sources sources) × HaveTokens times level (other_tokens level.sources sources)
tokens_cut times level sources holds = (tokens_first times level.sources sources holds, tokens_other times level.sources sources holds)
