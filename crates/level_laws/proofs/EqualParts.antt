-- The iterations of an unfolded run, each with its equal part of the tokens.
use Rattle.std.proofs.Common.{◌≡◌, ℕ, zero, suc, ◌+◌, ◌*◌, ◌/◌, ◌<◌, ◌≤◌, List, [], ◌∷◌, ◌++◌, length, map, slice_index, take, drop, Ok, refl, ap, sym, ◌∙◌, subst, arith}
use Rattle.std.specs.List.{range_with_len}
use Rattle.std.proofs.lemmas.List.{drop-drop, drop_at, length-append, length-drop, take_at}
use Rattle.std.proofs.Math.Nat.{mul-div_cancel_left}
use Rattle.sdf_level.specs.View.{LevelView}
use Rattle.sdf_level.specs.Orders.{IsAdmissible}
use Rattle.sdf_level.specs.Run.{Fire}
use Rattle.sdf_level.specs.LevelRun.{Ended, GivesRates, HaveDelays, IsLevelRun}
use Rattle.sdf_level.proofs.KeptLengths.{keeps_rates}
use Rattle.level_laws.specs.Unfolded.{IsExactLevel, multiplied, unfolded}
use Rattle.level_laws.specs.Pieces.{GoInTurn, HaveTokens, first_tokens, joined, later, one_and_others, other_tokens}
use Rattle.level_laws.specs.Parts.{GoByParts, GoesAtOnce, part, parts, parts_at}
use Rattle.level_laws.proofs.Copies.{suc_times}
use Rattle.level_laws.proofs.CutReads.{tokens_cut}
use Rattle.level_laws.proofs.InTurn.{at_once, in_turn, leaves}
use Rattle.level_laws.proofs.LevelCuts.{came}

module _ {T : Type 0} where
  abbrev pub sizes : List (List T) → List ℕ
  sizes lists = map (λ (l : List T). length l) lists

  -- ---- the first part and the others

  size_of_part : (times rate : ℕ) (list : List T) → 0 < times → length list ≡ times * rate → length list / times ≡ rate
  size_of_part times rate list some long = ap (λ n. n / times) long ∙ mul-div_cancel_left rate some

  part_is : (times rate i : ℕ) (list : List T) → 0 < times → length list ≡ times * rate → part times i list ≡ take rate (drop (i * rate) list)
  part_is times rate i list some long = let P : ℕ → Type 0 = λ n. part times i list ≡ take n (drop (i * n) list) in subst P (size_of_part times rate list some long) refl

  first_part : (n rate : ℕ) (list : List T) → length list ≡ suc n * rate → part (suc n) 0 list ≡ take rate list
  first_part n rate list long = part_is (suc n) rate 0 list (omega arith) long ∙ ap (λ m. take rate (drop m list)) (let z : 0 * rate ≡ 0 = omega arith in z)

  next_part : (n rate i : ℕ) (list : List T) → i < n → length list ≡ suc n * rate → part (suc n) (suc i) list ≡ part n i (drop rate list)
  next_part n rate i list below long =
      let more = suc_times n rate in
      let rest : length (drop rate list) ≡ n * rate = length-drop rate list ∙ (let l : length list ≡ rate + n * rate = omega arith in omega arith) in
      part_is (suc n) rate (suc i) list (omega arith) long ∙ ap (λ m. take rate (drop m list)) (suc_times i rate) ∙ ap (λ (l : List T). take rate l) (sym (drop-drop (i * rate) rate list))
      ∙ sym (part_is n rate i (drop rate list) (omega arith) rest)

  firsts_at : (n : ℕ) (rates : List ℕ) (lists : List (List T)) → sizes lists ≡ multiplied (suc n) rates → parts_at (suc n) 0 lists ≡ first_tokens rates lists
  firsts_at n [] [] are = refl
  firsts_at n [] (list ∷ lists) are = absurd (cc)
  firsts_at n (rate ∷ rates) [] are = refl
  firsts_at n (rate ∷ rates) (list ∷ lists) are =
      let here : length list ≡ suc n * rate = cc in
      let there : sizes lists ≡ multiplied (suc n) rates = cc in
      rw (first_part n rate list here, firsts_at n rates lists there) refl

  nexts_at : (n i : ℕ) (rates : List ℕ) (lists : List (List T)) → i < n → sizes lists ≡ multiplied (suc n) rates → parts_at (suc n) (suc i) lists ≡ parts_at n i (other_tokens rates lists)
  nexts_at n i [] [] below are = refl
  nexts_at n i [] (list ∷ lists) below are = absurd (cc)
  nexts_at n i (rate ∷ rates) [] below are = refl
  nexts_at n i (rate ∷ rates) (list ∷ lists) below are =
      let here : length list ≡ suc n * rate = cc in
      let there : sizes lists ≡ multiplied (suc n) rates = cc in
      rw (next_part n rate i list below here, nexts_at n i rates lists below there) refl

  nexts : (n a m : ℕ) (rates : List ℕ) (lists : List (List T)) → a + m ≤ n → sizes lists ≡ multiplied (suc n) rates →
      map (λ i. parts_at (suc n) i lists) (range_with_len (a + 1) m) ≡ map (λ i. parts_at n i (other_tokens rates lists)) (range_with_len a m)
  nexts n a zero rates lists within are = refl
  nexts n a (suc m) rates lists within are =
      let one : a + 1 ≡ suc a = omega arith in
      let here : parts_at (suc n) (a + 1) lists ≡ parts_at n a (other_tokens rates lists) = ap (λ i. parts_at (suc n) i lists) one ∙ nexts_at n a rates lists (omega arith) are in
      rw (here, nexts n (a + 1) m rates lists (omega arith) are) refl

  pub parts_cut : (n : ℕ) (rates : List ℕ) (lists : List (List T)) → sizes lists ≡ multiplied (suc n) rates → parts (suc n) lists ≡ first_tokens rates lists ∷ parts n (other_tokens rates lists)
  parts_cut n rates lists are = rw (firsts_at n rates lists are, nexts n 0 n rates lists (omega arith) are) refl

  -- ---- lists put together

  firsts_joined : (rates : List ℕ) (one others : List (List T)) → sizes one ≡ rates → length others ≡ length rates → first_tokens rates (joined one others) ≡ one
  firsts_joined [] [] others are many = refl
  firsts_joined [] (list ∷ one) others are many = absurd (cc)
  firsts_joined (rate ∷ rates) [] others are many = absurd (cc)
  firsts_joined (rate ∷ rates) (list ∷ one) [] are many = absurd (omega arith)
  firsts_joined (rate ∷ rates) (list ∷ one) (other ∷ others) are many =
      let here : length list ≡ rate = cc in
      let there : sizes one ≡ rates = cc in
      rw (take_at list other rate here, firsts_joined rates one others there (omega arith)) refl

  others_joined : (rates : List ℕ) (one others : List (List T)) → sizes one ≡ rates → length others ≡ length rates → other_tokens rates (joined one others) ≡ others
  others_joined [] [] [] are many = refl
  others_joined [] [] (other ∷ others) are many = absurd (omega arith)
  others_joined [] (list ∷ one) others are many = absurd (cc)
  others_joined (rate ∷ rates) [] others are many = absurd (cc)
  others_joined (rate ∷ rates) (list ∷ one) [] are many = absurd (omega arith)
  others_joined (rate ∷ rates) (list ∷ one) (other ∷ others) are many =
      let here : length list ≡ rate = cc in
      let there : sizes one ≡ rates = cc in
      rw (drop_at list other rate here, others_joined rates one others there (omega arith)) refl

  sizes_joined : (n : ℕ) (rates : List ℕ) (one others : List (List T)) → sizes one ≡ rates → sizes others ≡ multiplied n rates → sizes (joined one others) ≡ multiplied (suc n) rates
  sizes_joined n [] [] others are more = refl
  sizes_joined n [] (list ∷ one) others are more = absurd (cc)
  sizes_joined n (rate ∷ rates) [] others are more = absurd (cc)
  sizes_joined n (rate ∷ rates) (list ∷ one) [] are more = absurd (cc)
  sizes_joined n (rate ∷ rates) (list ∷ one) (other ∷ others) are more =
      let x : length list ≡ rate = cc in
      let y : length other ≡ n * rate = cc in
      let xs : sizes one ≡ rates = cc in
      let ys : sizes others ≡ multiplied n rates = cc in
      let both : length (list ++ other) ≡ suc n * rate = length-append list other ∙ (let m = suc_times n rate in omega arith) in
      rw (both, sizes_joined n rates one others xs ys) refl

  many_of : (n : ℕ) (rates : List ℕ) (lists : List (List T)) → sizes lists ≡ multiplied n rates → length lists ≡ length rates
  many_of n [] [] are = refl
  many_of n [] (list ∷ lists) are = absurd (cc)
  many_of n (rate ∷ rates) [] are = absurd (cc)
  many_of n (rate ∷ rates) (list ∷ lists) are = let there : sizes lists ≡ multiplied n rates = cc in let e = many_of n rates lists there in omega arith

  pub parts_joined : (n : ℕ) (rates : List ℕ) (one others : List (List T)) → sizes one ≡ rates → sizes others ≡ multiplied n rates → parts (suc n) (joined one others) ≡ one ∷ parts n others
  parts_joined n rates one others are more =
      let many = many_of n rates others more in
      parts_cut n rates (joined one others) (sizes_joined n rates one others are more) ∙ ap (λ (l : List (List T)). l ∷ parts n (other_tokens rates (joined one others))) (firsts_joined rates one others are many)
      ∙ ap (λ (l : List (List T)). one ∷ parts n l) (others_joined rates one others are many)

no_sizes : (X : Type 0) (sinks : List ℕ) → map (λ (l : List X). length l) (map (λ r. []) sinks) ≡ multiplied 0 sinks
no_sizes X [] = refl
no_sizes X (r ∷ sinks) = let z : 0 ≡ 0 * r = omega arith in rw (no_sizes X sinks, ← z) refl

-- ---- the iterations

module _ {T F : Type 0} (level : LevelView) (q list : List ℕ) (is : IsExactLevel level q) (admissible : IsAdmissible level q list) where
  gives_later : (fire : Fire T F) → GivesRates level fire → GivesRates level (later q fire)
  gives_later fire gives b k ins outs f = gives b (slice_index q b + k) ins outs f

  -- an iteration keeps as many tokens as the rates of the sinks
  one_long : (fire : Fire T F) (sources starts : List (List T)) (one : Ended T) → GivesRates level fire → HaveDelays level.links starts → IsLevelRun level q sources starts fire (Ok one) → sizes one.outs ≡ level.sinks
  one_long fire sources starts one gives starting run =
      let c = came level q fire sources starts run.list one run.ends in
      let P : List (List T) → Type 0 = λ l. sizes l ≡ level.sinks in
      subst P (sym (ap (λ (e : Ended T). e.outs) c.is)) (keeps_rates level fire sources starts q run.list c.lines is.is_level is.repetition gives starting run.order.admissible c.runs)

  turn_long : (times : ℕ) (fire : Fire T F) (sources starts : List (List T)) (end : Ended T) → GivesRates level fire → HaveDelays level.links starts → GoInTurn level fire q times sources starts end → sizes end.outs ≡ multiplied times level.sinks
  turn_long zero fire sources starts end gives starting go = ap (λ (e : Ended T). sizes e.outs) go ∙ no_sizes T level.sinks
  turn_long (suc n) fire sources starts end gives starting go =
      let first : List (List T) = first_tokens level.sources sources in
      let left = leaves level q list is admissible fire first starts go.0 gives starting go.2 in
      ap (λ (e : Ended T). sizes e.outs) go.4
      ∙ sizes_joined n level.sinks go.0.outs go.1.outs (one_long fire first starts go.0 gives starting go.2) (turn_long n (later q fire) (other_tokens level.sources sources) go.0.left go.1 (gives_later fire gives) left go.3)

  outs_cut : (n : ℕ) (fire : Fire T F) (sources starts : List (List T)) (one others : Ended T) → GivesRates level fire → HaveDelays level.links starts → IsLevelRun level q (first_tokens level.sources sources) starts fire (Ok one) →
      GoInTurn level (later q fire) q n (other_tokens level.sources sources) one.left others → parts (suc n) (joined one.outs others.outs) ≡ one.outs ∷ parts n others.outs
  outs_cut n fire sources starts one others gives starting run go =
      let first : List (List T) = first_tokens level.sources sources in
      let left = leaves level q list is admissible fire first starts one gives starting run in
      parts_joined n level.sinks one.outs others.outs (one_long fire first starts one gives starting run) (turn_long n (later q fire) (other_tokens level.sources sources) one.left others (gives_later fire gives) left go)

  by_parts : (times : ℕ) (fire : Fire T F) (sources starts : List (List T)) (end : Ended T) → GivesRates level fire → HaveDelays level.links starts → HaveTokens times level sources → GoInTurn level fire q times sources starts end →
      GoByParts level fire q (parts times sources) starts (parts times end.outs) end.left
  by_parts zero fire sources starts end gives starting holds go = (refl, ap (λ (e : Ended T). e.left) go)
  by_parts (suc n) fire sources starts end gives starting holds go =
      let first : List (List T) = first_tokens level.sources sources in
      let rest : List (List T) = other_tokens level.sources sources in
      let left = leaves level q list is admissible fire first starts go.0 gives starting go.2 in
      let later_on = by_parts n (later q fire) rest go.0.left go.1 (gives_later fire gives) left (tokens_cut n level sources holds).1 go.3 in
      let outs = ap (λ (e : Ended T). parts (suc n) e.outs) go.4 ∙ outs_cut n fire sources starts go.0 go.1 gives starting go.2 go.3 in
      let left_is : end.left ≡ go.1.left = ap (λ (e : Ended T). e.left) go.4 in
      let P : List (List (List T)) → Type 0 = λ l. GoByParts level fire q l starts (parts (suc n) end.outs) end.left in
      let Q : List (List T) → Type 0 = λ l. GoByParts level (later q fire) q (parts n rest) go.0.left (parts n go.1.outs) l in
      subst P (sym (parts_cut n level.sources sources holds)) (go.0, parts n go.1.outs, go.2, subst Q (sym left_is) later_on, outs)

  record Turned (times : ℕ) (fire : Fire T F) (sources starts : List (List T)) (outs : List (List (List T))) (left : List (List T)) : Type 0 where
    end : Ended T
    go : GoInTurn level fire q times sources starts end
    outs_are : outs ≡ parts times end.outs
    left_is : left ≡ end.left

  from_parts : (times : ℕ) (fire : Fire T F) (sources starts : List (List T)) (outs : List (List (List T))) (left : List (List T)) → GivesRates level fire → HaveDelays level.links starts → HaveTokens times level sources →
      GoByParts level fire q (parts times sources) starts outs left → Turned times fire sources starts outs left
  from_parts zero fire sources starts outs left gives starting holds go = record { end = record { outs = map (λ r. []) level.sinks; left = starts }; go = refl; outs_are = go.0; left_is = go.1 }
  from_parts (suc n) fire sources starts outs left gives starting holds by =
      let first : List (List T) = first_tokens level.sources sources in
      let rest : List (List T) = other_tokens level.sources sources in
      let P : List (List (List T)) → Type 0 = λ l. GoByParts level fire q l starts outs left in
      let go : GoByParts level fire q (first ∷ parts n rest) starts outs left = subst P (parts_cut n level.sources sources holds) by in
      let begun = leaves level q list is admissible fire first starts go.0 gives starting go.2 in
      let others = from_parts n (later q fire) rest go.0.left go.1 left (gives_later fire gives) begun (tokens_cut n level sources holds).1 go.3 in
      record {
        end = one_and_others go.0 others.end;
        go = (go.0, others.end, go.2, others.go, refl);
        outs_are = go.4 ∙ ap (λ (l : List (List (List T))). go.0.outs ∷ l) others.outs_are ∙ sym (outs_cut n fire sources starts go.0 others.end gives starting go.2 others.go);
        left_is = others.left_is;
      }

  pub parts_there : (times : ℕ) (fire : Fire T F) (sources starts : List (List T)) (end : Ended T) → GivesRates level fire → HaveDelays level.links starts → HaveTokens times level sources →
      IsLevelRun (unfolded times level) (multiplied times q) sources starts fire (Ok end) → GoByParts level fire q (parts times sources) starts (parts times end.outs) end.left
  parts_there times fire sources starts end gives starting holds run = by_parts times fire sources starts end gives starting holds (in_turn level q list is admissible times fire sources starts end gives starting holds run)

  pub parts_back : (times : ℕ) (fire : Fire T F) (sources starts : List (List T)) (outs : List (List (List T))) (left : List (List T)) → GivesRates level fire → HaveDelays level.links starts → HaveTokens times level sources →
      GoByParts level fire q (parts times sources) starts outs left → GoesAtOnce times level fire q sources starts outs left
  parts_back times fire sources starts outs left gives starting holds by =
      let turned = from_parts times fire sources starts outs left gives starting holds by in
      record { end = turned.end; runs = at_once level q list is admissible times fire sources starts turned.end gives starting holds turned.go; outs_are = turned.outs_are; left_is = turned.left_is }
