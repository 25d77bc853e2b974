-- Repeated tokens.
use Rattle.std.proofs.Common.{◌≡◌, ℕ, zero, suc, ◌+◌, ◌-◌, ◌*◌, ◌/◌, ◌%◌, ◌<◌, ◌≤◌, List, ◌++◌, length, min, take, drop, refl, sym, ap, ◌∙◌, append_assoc, append-nil, arith, length-take, length-drop, length-append}
use Rattle.std.proofs.Math.Nat.{add-mul-mod_self_right, mod-eq_of_lt, mod-add-div'}
use Rattle.std.proofs.Math.Seq.{take-add}
use Rattle.std.proofs.lemmas.List.{drop-drop, take_at, take-take, take_all}
use Rattle.sdf_level.specs.Interfaces.{repeat, repeated}

length_repeat : {T : Type 0} (t : List T) (i : ℕ) → 0 < length t → length (repeat t i) ≡ 1
length_repeat {T} t i some =
    let within : i % length t < length t = omega arith in
    omega (arith, length-take {A = T} 1 (drop (i % length t) t), length-drop {A = T} (i % length t) t)

pub length_repeated : {T : Type 0} (t : List T) (i n : ℕ) → 0 < length t → length (repeated t i n) ≡ n
length_repeated t i zero some = refl
length_repeated t i (suc n) some =
    omega (arith, length-append (repeat t i) (repeated t (i + 1) n), length_repeat t i some, length_repeated t (i + 1) n some)

-- one stretch after another
pub repeated_append : {T : Type 0} (t : List T) (i m n : ℕ) → repeated t i m ++ repeated t (i + m) n ≡ repeated t i (m + n)
repeated_append t i zero n =
    let here : i + 0 ≡ i = omega arith in
    let all : n ≡ 0 + n = omega arith in
    ap (λ k. repeated t k n) here ∙ ap (repeated t i) all
repeated_append t i (suc m) n =
    let here : i + suc m ≡ i + 1 + m = omega arith in
    let all : suc (m + n) ≡ suc m + n = omega arith in
    append_assoc (repeat t i) (repeated t (i + 1) m) (repeated t (i + suc m) n)
    ∙ (ap (λ k. repeat t i ++ (repeated t (i + 1) m ++ repeated t k n)) here
    ∙ (ap (λ l. repeat t i ++ l) (repeated_append t (i + 1) m n) ∙ ap (repeated t i) all))

-- whole rounds change nothing
pub repeated_round : {T : Type 0} (t : List T) (i k n : ℕ) → repeated t (i + k * length t) n ≡ repeated t i n
repeated_round t i k zero = refl
repeated_round t i k (suc n) =
    let next : i + k * length t + 1 ≡ i + 1 + k * length t = omega arith in
    ap (λ p. take 1 (drop p t) ++ repeated t (i + k * length t + 1) n) (add-mul-mod_self_right i k (length t))
    ∙ (ap (λ p. repeat t i ++ repeated t p n) next ∙ ap (λ l. repeat t i ++ l) (repeated_round t (i + 1) k n))

pub repeated_mod : {T : Type 0} (t : List T) (i n : ℕ) → repeated t (i % length t) n ≡ repeated t i n
repeated_mod t i n = sym (repeated_round t (i % length t) (i / length t) n) ∙ ap (λ p. repeated t p n) (mod-add-div' i (length t))

-- a stretch within one round is a part of the list
pub repeated_within : {T : Type 0} (t : List T) (i n : ℕ) → i + n ≤ length t → repeated t i n ≡ take n (drop i t)
repeated_within t i zero le = refl
repeated_within t i (suc n) le =
    let more : 1 + n ≡ suc n = omega arith in
    ap (λ p. take 1 (drop p t) ++ repeated t (i + 1) n) (mod-eq_of_lt {n = i} {m = length t} (omega arith))
    ∙ (ap (λ l. take 1 (drop i t) ++ l) (repeated_within t (i + 1) n (omega arith) ∙ ap (λ l. take n l) (sym (drop-drop 1 i t)))
    ∙ (sym (take-add 1 n (drop i t)) ∙ ap (λ k. take k (drop i t)) more))

pub take_repeated : {T : Type 0} (t : List T) (i m n : ℕ) → 0 < length t → m ≤ n → take m (repeated t i n) ≡ repeated t i m
take_repeated t i m n some le =
    let parts : n ≡ m + (n - m) = omega arith in
    ap (λ k. take m (repeated t i k)) parts ∙ (ap (λ l. take m l) (sym (repeated_append t i m (n - m))) ∙ take_at (repeated t i m) (repeated t (i + m) (n - m)) m (length_repeated t i m some))

-- from a place to the end, and then what stands before
pub once_around : {T : Type 0} (t : List T) (i m n : ℕ) → i + n ≤ length t → m ≤ i → (0 < m → i + n ≡ length t) → repeated t i (n + m) ≡ take n (drop i t) ++ take m t
once_around t i zero n le in_front end =
    let only : n + 0 ≡ n = omega arith in
    ap (repeated t i) only ∙ (repeated_within t i n le ∙ sym (append-nil (take n (drop i t))))
once_around t i (suc m) n le in_front end =
    let whole : i + n ≡ 0 + 1 * length t = omega (arith, end (omega arith)) in
    sym (repeated_append t i n (suc m))
    ∙ (ap (λ l. l ++ repeated t (i + n) (suc m)) (repeated_within t i n le)
    ∙ ap (λ l. take n (drop i t) ++ l) (ap (λ p. repeated t p (suc m)) whole ∙ (repeated_round t 0 1 (suc m) ∙ repeated_within t 0 (suc m) (omega arith))))

-- What stands in a list that repeated tokens fill from the front: whole rounds, until it is full.
pub record FilledTo {T : Type 0} (t : List T) (place room : ℕ) (o : List T) (filled : ℕ) : Type 0 where
  pub size : length o ≡ room
  pub within : filled ≤ room
  pub so_far : take filled o ≡ repeated t place filled
  pub rounds : filled < room → (k : ℕ) × (filled ≡ k * length t)
  pub some : filled < room → 0 < filled

pub filled_once : {T : Type 0} (t o : List T) (place size filled : ℕ) → 0 < length t → length o ≡ size → filled ≡ min (length t) size → take filled o ≡ repeated t place filled → FilledTo t place size o filled
filled_once t o place size filled some len count so_far = record {
  size = len;
  within = omega arith;
  so_far = so_far;
  rounds = λ more. (1, omega arith);
  some = λ more. omega arith;
}

pub filled_again : {T : Type 0} (t o o' : List T) (place size filled more : ℕ) → 0 < length t → FilledTo t place size o filled → filled < size → length o' ≡ length o → more ≡ filled + min filled (length o - filled)
    → take more o' ≡ take filled o ++ take (more - filled) o → FilledTo t place size o' more
filled_again t o o' place size filled more some before lt len count written =
    let n = more - filled in
    let end : filled + n ≡ more = omega arith in
    let at_front : take n o ≡ repeated t place n =
    sym (take-take n filled o (omega arith)) ∙ (ap (λ l. take n l) before.so_far ∙ take_repeated t place n filled some (omega arith))
    in
    let rounds = before.rounds lt in
    let on : repeated t (place + filled) n ≡ repeated t place n = ap (λ k. repeated t (place + k) n) rounds.1 ∙ repeated_round t place rounds.0 n in
    record {
      size = len ∙ before.size;
      within = omega (arith, before.size, before.within);
      so_far = written ∙ (ap (λ l. l ++ take n o) before.so_far ∙ (ap (λ l. repeated t place filled ++ l) (at_front ∙ sym on) ∙ (repeated_append t place filled n ∙ ap (repeated t place) end)));
      rounds = λ less. (rounds.0 + rounds.0, omega (arith, rounds.1, before.size));
      some = λ less. omega (arith, before.some lt);
    }

pub filled_all : {T : Type 0} (t o : List T) (place size filled : ℕ) → FilledTo t place size o filled → size ≤ filled → o ≡ repeated t place size
filled_all t o place size filled done le =
    let all : filled ≡ size = omega (arith, done.within) in
    sym (take_all filled o (omega (arith, done.size))) ∙ (done.so_far ∙ ap (repeated t place) all)

-- a list whose first n and next m elements are written
pub two_parts : {T : Type 0} (a b rest after : List T) (n m : ℕ) → length a ≡ n → length b ≡ m → take (n + m) (take n (a ++ rest) ++ (b ++ after)) ≡ a ++ b
two_parts a b rest after n m first second =
    ap (λ l. take (n + m) (l ++ (b ++ after))) (take_at a rest n first)
    ∙ (ap (λ l. take (n + m) l) (sym (append_assoc a b after)) ∙ take_at (a ++ b) after (n + m) (omega (arith, length-append a b)))
