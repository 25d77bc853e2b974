-- A frame whose one output is written from its end.
use Rattle.std.proofs.Common.{◌≡◌, ℕ, zero, suc, ◌+◌, ◌-◌, ◌<◌, ◌≤◌, List, [], ◌∷◌, ◌++◌, length, min, get_or, take, drop, refl, sym, ap, ◌∙◌, arith, length-drop, length-append}
use Rattle.std.specs.Prelude.{ℤ}
use Rattle.std.proofs.lemmas.List.{drop-drop, drop_at, drop_all, drop_more, drop-append-le, length-take-le}
use Rattle.sdf_level.specs.Interfaces.{last}
use Rattle.kernel_gate.specs.Value.{FrameView, port}
use Rattle.special_actors.specs.Copying.{joined}
use Rattle.special_actors.specs.Writing.{ended}

length_last : {T : Type 0} (n : ℕ) (x : List T) → n ≤ length x → length (last n x) ≡ n
length_last {T} n x le = omega (arith, length-drop {A = T} (length x - n) x)

length_ended : {T : Type 0} (old w : List T) (end : ℕ) → end ≤ length old → length w ≤ end → length (ended old w end) ≡ length old
length_ended {T} old w end le fits =
    omega (arith, length-append (take (end - length w) old) (w ++ drop end old), length-append w (drop end old), length-take-le (end - length w) old (omega arith), length-drop {A = T} end old)

ended_tail : {T : Type 0} (old w : List T) (end start : ℕ) → end ≤ length old → start + length w ≡ end → drop start (ended old w end) ≡ w ++ drop end old
ended_tail old w end start le fits =
    ap (λ n. drop start (take n old ++ (w ++ drop end old))) (omega arith) ∙ drop_at (take start old) (w ++ drop end old) start (length-take-le start old (omega arith))

-- the last elements of two lists are the end of the first and the last of the second, as far as there is room
last_append : {T : Type 0} (r : ℕ) (x t : List T) (n : ℕ) → n ≡ min (length x) (r - length t) → last n x ++ last r t ≡ last r (x ++ t)
last_append {T} r x t n count = by_rest (length t - r) refl
  where
    by_rest : (k : ℕ) → k ≡ length t - r → drop (length x - n) x ++ drop (length t - r) t ≡ drop (length (x ++ t) - r) (x ++ t)
    by_rest zero e =
        let start : length x - n ≡ length (x ++ t) - r = omega (arith, length-append x t) in
        ap (λ i. drop (length x - n) x ++ drop i t) (sym e) ∙ (sym (drop-append-le (length x - n) x t (omega arith)) ∙ ap (λ i. drop i (x ++ t)) start)
    by_rest (suc k) e =
        let none : length x ≤ length x - n = omega arith in
        let start : length x + (length t - r) ≡ length (x ++ t) - r = omega (arith, length-append x t) in
        ap (λ l. l ++ drop (length t - r) t) (drop_all (length x - n) x none)
        ∙ (ap (λ l. drop (length t - r) l) (sym (drop_at x t (length x) refl)) ∙ (drop-drop (length t - r) (length x) (x ++ t) ∙ ap (λ i. drop i (x ++ t)) start))

-- the one list of a list of one
the_one : {T : Type 0} (lists : List (List T)) → length lists ≡ 1 → lists ≡ get_or lists 0 [] ∷ []
the_one [] e = absurd (omega arith)
the_one (l ∷ []) e = refl
the_one (l ∷ m ∷ rest) e = absurd (omega arith)

-- From place `end` on, the one output has the last tokens of the inputs from `left` on.
pub record KeptFrom (f g : FrameView) (left end : ℕ) : Type 0 where
  pub within : left ≤ length f.inputs
  pub same : g ≡ record f { outputs = port g.outputs 0 ∷ [] }
  pub size : length (port g.outputs 0) ≡ length (port f.outputs 0)
  pub room : end ≡ length (port f.outputs 0) - length (joined (drop left f.inputs))
  pub kept : drop end (port g.outputs 0) ≡ last (length (port f.outputs 0)) (joined (drop left f.inputs))

pub kept_start : (f : FrameView) → length f.outputs ≡ 1 → KeptFrom f f (length f.inputs) (length (port f.outputs 0))
kept_start f one =
    let none : drop (length f.inputs) f.inputs ≡ [] = drop_all (length f.inputs) f.inputs (omega arith) in
    record {
      within = omega arith;
      same = ap (λ (l : List (List ℤ)). record f { outputs = l }) (the_one f.outputs one);
      size = refl;
      room = omega (arith, ap (λ (l : List (List ℤ)). length (joined l)) none);
      kept = drop_all (length (port f.outputs 0)) (port f.outputs 0) (omega arith)
          ∙ (sym (drop_all (0 - length (port f.outputs 0)) [] (omega arith)) ∙ ap (λ (l : List (List ℤ)). last (length (port f.outputs 0)) (joined l)) (sym none));
    }

pub kept_count : (f g : FrameView) (left end : ℕ) → KeptFrom f g left end → length g.outputs ≡ 1
kept_count f g left end k = ap (λ (v : FrameView). length v.outputs) k.same

pub kept_inputs : (f g : FrameView) (left end : ℕ) → KeptFrom f g left end → g.inputs ≡ f.inputs
kept_inputs f g left end k = ap (λ (v : FrameView). v.inputs) k.same

pub kept_within : (f g : FrameView) (left end : ℕ) → KeptFrom f g left end → end ≤ length (port g.outputs 0)
kept_within f g left end k = omega (arith, k.size, k.room)

pub kept_more : (f g h : FrameView) (left next end start : ℕ) → KeptFrom f g left end → left ≡ next + 1 → start ≡ end - length (port g.inputs next)
    → h ≡ record g { outputs = ended (port g.outputs 0) (last (end - start) (port g.inputs next)) end ∷ [] } → KeptFrom f h next start
kept_more f g h left next end start k one_less at e =
    let r = length (port f.outputs 0) in
    let old = port g.outputs 0 in
    let x = port f.inputs next in
    let t = joined (drop left f.inputs) in
    let there : next < length f.inputs = omega (arith, k.within) in
    let same_x : port g.inputs next ≡ x = ap (λ (l : List (List ℤ)). port l next) (kept_inputs f g left end k) in
    let w = last (end - start) x in
    let begins : start ≡ end - length x = at ∙ ap (λ (l : List ℤ). end - length l) same_x in
    let len : length w ≡ end - start = length_last (end - start) x (omega arith) in
    let in_old : end ≤ length old = kept_within f g left end k in
    let e' : h ≡ record f { outputs = ended old w end ∷ [] } =
    e ∙ (ap (λ (l : List ℤ). record g { outputs = ended old (last (end - start) l) end ∷ [] }) same_x ∙ ap (λ (v : FrameView). record v { outputs = ended old w end ∷ [] }) k.same)
    in
    let output : port h.outputs 0 ≡ ended old w end = ap (λ (v : FrameView). port v.outputs 0) e' in
    let rest : joined (drop next f.inputs) ≡ x ++ t = ap joined (drop_more f.inputs next [] there) ∙ ap (λ i. x ++ joined (drop i f.inputs)) (sym one_less) in
    record {
      within = omega (arith, k.within);
      same = e' ∙ ap (λ (l : List ℤ). record f { outputs = l ∷ [] }) (sym output);
      size = ap (λ (l : List ℤ). length l) output ∙ (length_ended old w end in_old (omega arith) ∙ k.size);
      room = begins ∙ (ap (λ n. n - length x) k.room ∙ omega (arith, ap (λ (l : List ℤ). length l) rest, length-append x t));
      kept = ap (λ (l : List ℤ). drop start l) output
          ∙ (ended_tail old w end start in_old (omega arith)
          ∙ (ap (λ (l : List ℤ). w ++ l) k.kept ∙ (last_append r x t (end - start) (omega (arith, k.room)) ∙ ap (last r) (sym rest))));
    }

pub kept_all : (f g : FrameView) (left end : ℕ) → KeptFrom f g left end → left ≡ 0 → length (port f.outputs 0) ≤ length (joined f.inputs) → g ≡ record f { outputs = last (length (port f.outputs 0)) (joined f.inputs) ∷ [] }
kept_all f g left end k none room =
    let all : joined (drop left f.inputs) ≡ joined f.inputs = ap (λ n. joined (drop n f.inputs)) none in
    let start : end ≡ 0 = omega (arith, k.room, ap (λ (l : List ℤ). length l) all) in
    let whole : port g.outputs 0 ≡ last (length (port f.outputs 0)) (joined f.inputs) = ap (λ n. drop n (port g.outputs 0)) (sym start) ∙ (k.kept ∙ ap (last (length (port f.outputs 0))) all) in
    k.same ∙ ap (λ (l : List ℤ). record f { outputs = l ∷ [] }) whole
