-- A firing that finds its tokens reads of the lines so far what it would read of them after more firings.
use Rattle.std.proofs.Common.{◌≡◌, ℕ, zero, suc, ◌+◌, ◌*◌, ◌<◌, ◌≤◌, ⊎_elim, List, [], ◌∷◌, ◌++◌, length, slice_index_or, if◌then◌else◌, refl, sym, ◌∙◌, arith}
use Rattle.std.proofs.lemmas.Bool.{cases_eq, ne_eqb}
use Rattle.std.proofs.lemmas.List.{length-append}
use Rattle.std.proofs.Math.Nat.{mul-le-mul_left}
use Rattle.sdf_level.specs.declared.link.Link.{Link}
use Rattle.sdf_level.specs.declared.link.Tail.{Tail}
use Rattle.sdf_level.specs.declared.link.Head.{Head}
use Rattle.sdf_level.specs.declared.link.Tail.TheVariants as tail
use Rattle.sdf_level.specs.declared.link.Head.TheVariants as head
use Rattle.sdf_level.specs.Invariants.{is_into_port}
use Rattle.sdf_level.specs.Links.{OfInner, EachInner}
use Rattle.sdf_level.specs.Firings.{IsReady}
use Rattle.sdf_level.specs.Run.{read, input, inputs_below, head_rate}
use Rattle.sdf_level.specs.LevelRun.{HasRate, HaveRates, HaveDelays}
use Rattle.sdf_level.specs.Told.{Made, sent, line_of, lines_of}
use Rattle.sdf_level.proofs.Windows.{window_same, length-sent}

enough : (c k d r n s : ℕ) → c * (k + 1) ≤ d + r * n → s ≡ d → k * c + c ≤ s + r * n
enough c k d r n s h e = grind arith

module _ {T : Type 0} (sources : List (List T)) (made : Made T) (later : ℕ → ℕ) (b k : ℕ) where
  module _ (f : ℕ → ℕ) (own : f b ≡ k) (below : (a : ℕ) → f a ≤ later a) where
    -- one link, where the firing reads from it, else another that gives the same
    read_later : (t : Tail) (h : Head) (d port : ℕ) (start one other : List T) → length start ≡ d → ((a j : ℕ) → j < later a → HasRate a (made a j) t) → OfInner (IsReady f b) t h d → one ≡ other →
        (if is_into_port b port record { tail = t; head = h; delay = d } then read sources k (head_rate h) t (line_of made f t start) else one)
        ≡ (if is_into_port b port record { tail = t; head = h; delay = d } then read sources k (head_rate h) t (line_of made later t start) else other)
    read_later t (head.Sink s) d port start one other long rates ready rest = rest
    read_later (tail.Source s) (head.Port a i c) d port start one other long rates ready rest = rw rest refl
    read_later (tail.Port x p r) (head.Port a i c) d port start one other long rates ready rest = ⊎_elim
        (λ (e : a ≡ b).
        let rate : (j : ℕ) → j < later x → length (slice_index_or (made x j) p []) ≡ r = λ j h. rates x j h refl in
        let so_far : k * c + c ≤ length start + r * f x = enough c k d r (f x) (length start) (rw (e, own) at (ready e)) long in
        let more : r * f x ≤ r * later x = mul-le-mul_left r (below x) in
        let room : k * c + c ≤ length (start ++ sent (made x) p (f x)) = rw (length-append, length-sent (made x) p r (f x) (λ j h. rate j (let w = below x in omega arith))) so_far in
        let room_more : k * c + c ≤ length (start ++ sent (made x) p (later x)) = rw (length-append, length-sent (made x) p r (later x) rate) (omega arith) in
        rw (rest, window_same (made x) start p (f x) (later x) c (k * c) room room_more) refl)
        (λ (n : a ≡ b → ⊥). rw (ne_eqb a b n) rest)
        (cases_eq a b)

    input_later : (links : List Link) (starts : List (List T)) (port : ℕ) → HaveDelays links starts → ((a j : ℕ) → j < later a → HaveRates a (made a j) links) → EachInner (IsReady f b) links → input sources b k port links (lines_of made f links starts) ≡ input sources b k port links (lines_of made later links starts)
    input_later [] starts port at rates ready = refl
    input_later (link ∷ links) [] port at rates ready = refl
    input_later (link ∷ links) (start ∷ starts) port at rates ready =
        read_later link.tail link.head link.delay port start (input sources b k port links (lines_of made f links starts)) (input sources b k port links (lines_of made later links starts)) at.0 (λ a j h. (rates a j h).0) ready.0
        (input_later links starts port at.1 (λ a j h. (rates a j h).1) ready.1)

    pub inputs_later : (links : List Link) (starts : List (List T)) (ports : ℕ) → HaveDelays links starts → ((a j : ℕ) → j < later a → HaveRates a (made a j) links) → EachInner (IsReady f b) links → inputs_below sources b k ports links (lines_of made f links starts) ≡ inputs_below sources b k ports links (lines_of made later links starts)
    inputs_later links starts zero at rates ready = refl
    inputs_later links starts (suc port) at rates ready = rw (inputs_later links starts port at rates ready, input_later links starts port at rates ready) refl

  -- so it reads the same after any firings that leave it enough
  pub inputs_same : (f g : ℕ → ℕ) → f b ≡ k → g b ≡ k → ((a : ℕ) → f a ≤ later a) → ((a : ℕ) → g a ≤ later a) → (links : List Link) (starts : List (List T)) (ports : ℕ) → HaveDelays links starts → ((a j : ℕ) → j < later a → HaveRates a (made a j) links) →
      EachInner (IsReady f b) links → EachInner (IsReady g b) links → inputs_below sources b k ports links (lines_of made f links starts) ≡ inputs_below sources b k ports links (lines_of made g links starts)
  inputs_same f g own_f own_g below_f below_g links starts ports at rates ready_f ready_g = inputs_later f own_f below_f links starts ports at rates ready_f ∙ sym (inputs_later g own_g below_g links starts ports at rates ready_g)
