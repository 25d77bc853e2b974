-- What stands on the edges into a node, and out of it, by its ports and in the order of the edges.
use Rattle.std.proofs.Common.{◌≡◌, ℕ, zero, suc, ◌+◌, ◌<◌, ◌≤◌, Bool, true, false, ◌&&◌, ◌==◌, ⊎_elim, ◌⊎◌, inl, inr, List, [], ◌∷◌, ◌++◌, map, length, slice_index_or, if◌then◌else◌, refl, ap, sym, ◌∙◌, append_assoc, arith}
use Rattle.std.specs.List.{AllByRecursion}
use Rattle.std.proofs.lemmas.Bool.{cases_Bool, cases_eq, eq-eqb, ne_eqb}
use Rattle.std.proofs.lemmas.List.{append-nil, length-append, get_or-append-add}
use Rattle.sdf_level.specs.declared.node.Node.{Node}
use Rattle.sdf_level.specs.declared.single_rate.Edge.{Edge}
use Rattle.special_actors.specs.Copying.{joined}
use Rattle.single_rate.specs.declared.wire.Wire.{Wire}
use Rattle.single_rate.specs.Nodes.{same}
use Rattle.single_rate.specs.Flow.{EachEdge, gathered, arrives, leaves, arrives_at}
use Rattle.single_rate.specs.Expanded.{place_of, wire_of, by_nodes}
use Rattle.single_rate.specs.Tiers.{node_at}
use Rattle.single_rate.specs.Ports.{ports_into, ports_from, up_from}
use Rattle.single_rate.proofs.Unique.{same-node, same-self, split}
use Rattle.single_rate.proofs.Copies.{and-false}
use Rattle.single_rate.proofs.PortNodes.{eq-turned}
use Rattle.job_flow.specs.Frames.{arriving, arriving_below}

-- nodes by their numbers
module _ (list : List Node) (once : (n : ℕ) → n < length list → place_of list (node_at list n) ≡ n) where
  same-at : (m k : ℕ) → m < length list → k < length list → same (node_at list m) (node_at list k) ≡ (k == m)
  same-at m k at_m at_k = ⊎_elim
      (λ (e : same (node_at list m) (node_at list k) ≡ true). let f : k ≡ m = sym (once k at_k) ∙ ap (place_of list) (sym (same-node (node_at list m) (node_at list k) e)) ∙ once m at_m in e ∙ sym (eq-eqb k m f))
      (λ (e : same (node_at list m) (node_at list k) ≡ false). e ∙ sym (ne_eqb k m (λ f. let s : same (node_at list m) (node_at list m) ≡ true = same-self (node_at list m) in let g : same (node_at list m) (node_at list m) ≡ false = rw f at e in absurd (cc))))
      (cases_Bool (same (node_at list m) (node_at list k)))

  heads-alike : (m : ℕ) → m < length list → (es : List Edge) → AllByRecursion (λ e. (e.tail < length list) × (e.head < length list)) es → AllByRecursion (λ e. same (node_at list m) (wire_of list e).head.node ≡ (e.head == m)) es
  heads-alike m at [] ends = ends
  heads-alike m at (e ∷ es) ends = (same-at m e.head at ends.0.1, heads-alike m at es ends.1)

  tails-alike : (m : ℕ) → m < length list → (es : List Edge) → AllByRecursion (λ e. (e.tail < length list) × (e.head < length list)) es → AllByRecursion (λ e. same (node_at list m) (wire_of list e).tail.node ≡ (e.tail == m)) es
  tails-alike m at [] ends = ends
  tails-alike m at (e ∷ es) ends = (same-at m e.tail at ends.0.0, tails-alike m at es ends.1)

  ports-alike : (m port : ℕ) → m < length list → (es : List Edge) → AllByRecursion (λ e. (e.tail < length list) × (e.head < length list)) es → AllByRecursion (λ e. (same (node_at list m) (wire_of list e).head.node && (port == (wire_of list e).head.port)) ≡ ((e.head == m) && (e.head_port == port))) es
  ports-alike m port at [] ends = ends
  ports-alike m port at (e ∷ es) ends = (rw (same-at m e.head at ends.0.1, eq-turned port e.head_port) refl, ports-alike m port at es ends.1)

module _ {T : Type 0} where
  -- what stands on the edges that pass a test, joined
  abbrev pub collected : (Edge → Bool) → List Edge → List (List T) → List T
  collected test [] tokens = []
  collected test (e ∷ es) [] = []
  collected test (e ∷ es) (x ∷ tokens) = (if test e then x else []) ++ collected test es tokens

  pub each-long : (list : List Node) (P : Wire → List T → Type 0) (es : List Edge) (ys : List (List T)) → EachEdge P (map (wire_of list) es) ys → length ys ≡ length es
  each-long list P [] [] each = refl
  each-long list P [] (y ∷ ys) each = absurd each
  each-long list P (e ∷ es) [] each = absurd each
  each-long list P (e ∷ es) (y ∷ ys) each = let l = each-long list P es ys each.1 in omega arith

  pub arriving-is : (es : List Edge) (tokens : List (List T)) (n port : ℕ) → arriving es tokens n port ≡ collected (λ e. (e.head == n) && (e.head_port == port)) es tokens
  arriving-is [] tokens n port = refl
  arriving-is (e ∷ es) [] n port = refl
  arriving-is (e ∷ es) (x ∷ tokens) n port = rw (arriving-is es tokens n port) refl

  gathered-is : (list : List Node) (test : Wire → Bool) (test' : Edge → Bool) (es : List Edge) → AllByRecursion (λ e. test (wire_of list e) ≡ test' e) es → (tokens : List (List T)) → gathered test (map (wire_of list) es) tokens ≡ collected test' es tokens
  gathered-is list test test' [] alike tokens = refl
  gathered-is list test test' (e ∷ es) alike [] = refl
  gathered-is list test test' (e ∷ es) alike (x ∷ tokens) = rw (alike.0, gathered-is list test test' es alike.1 tokens) refl

  -- by number
  module _ (list : List Node) (once : (n : ℕ) → n < length list → place_of list (node_at list n) ≡ n) where
    pub arrives-is : (m : ℕ) → m < length list → (es : List Edge) → AllByRecursion (λ e. (e.tail < length list) × (e.head < length list)) es → (tokens : List (List T)) → arrives (by_nodes list es) tokens (node_at list m) ≡ collected (λ e. e.head == m) es tokens
    arrives-is m at es ends tokens = gathered-is list (λ w. same (node_at list m) w.head.node) (λ e. e.head == m) es (heads-alike list once m at es ends) tokens

    pub leaves-is : (m : ℕ) → m < length list → (es : List Edge) → AllByRecursion (λ e. (e.tail < length list) × (e.head < length list)) es → (tokens : List (List T)) → leaves (by_nodes list es) tokens (node_at list m) ≡ collected (λ e. e.tail == m) es tokens
    leaves-is m at es ends tokens = gathered-is list (λ w. same (node_at list m) w.tail.node) (λ e. e.tail == m) es (tails-alike list once m at es ends) tokens

    pub arrives_at-is : (m port : ℕ) → m < length list → (es : List Edge) → AllByRecursion (λ e. (e.tail < length list) × (e.head < length list)) es → (tokens : List (List T)) → arrives_at (by_nodes list es) tokens (node_at list m) port ≡ arriving es tokens m port
    arrives_at-is m port at es ends tokens = gathered-is list (λ w. same (node_at list m) w.head.node && (port == w.head.port)) (λ e. (e.head == m) && (e.head_port == port)) es (ports-alike list once m port at es ends) tokens ∙ sym (arriving-is es tokens m port)

  -- into a node at so many ports from one on
  abbrev spanning : List Edge → List (List T) → ℕ → ℕ → ℕ → List (List T)
  spanning es tokens n k zero = []
  spanning es tokens n k (suc m) = arriving es tokens n k ∷ spanning es tokens n (k + 1) m

  spanning-snoc : (es : List Edge) (tokens : List (List T)) (n k m : ℕ) → spanning es tokens n k (suc m) ≡ spanning es tokens n k m ++ arriving es tokens n (k + m) ∷ []
  spanning-snoc es tokens n k zero = let e : k + 0 ≡ k = omega arith in rw e refl
  spanning-snoc es tokens n k (suc m) = let e : (k + 1) + m ≡ k + suc m = omega arith in ap (λ (l : List (List T)). arriving es tokens n k ∷ l) (spanning-snoc es tokens n (k + 1) m ∙ rw e refl)

  below-spanning : (es : List Edge) (tokens : List (List T)) (n m : ℕ) → arriving_below es tokens n m ≡ spanning es tokens n 0 m
  below-spanning es tokens n zero = refl
  below-spanning es tokens n (suc m) = let e : 0 + m ≡ m = omega arith in sym (spanning-snoc es tokens n 0 m ∙ rw (e, ← below-spanning es tokens n m) refl)

  -- an edge that has none of these ports
  spanning-past : (e : Edge) (x : List T) (es : List Edge) (tokens : List (List T)) (n k m : ℕ) → ((port : ℕ) → k ≤ port → ((e.head == n) && (e.head_port == port)) ≡ false) → spanning (e ∷ es) (x ∷ tokens) n k m ≡ spanning es tokens n k m
  spanning-past e x es tokens n k zero other = refl
  spanning-past e x es tokens n k (suc m) other = rw (other k (omega arith), spanning-past e x es tokens n (k + 1) m (λ port h. other port (omega arith))) refl

  absent : (es : List Edge) (tokens : List (List T)) (n k m port : ℕ) → ports_into es n ≡ up_from k m → port < k → arriving es tokens n port ≡ []
  absent [] tokens n k m port is h = refl
  absent (e ∷ es) [] n k m port is h = refl
  absent (e ∷ es) (x ∷ tokens) n k m port is h = ⊎_elim
      (λ (own : e.head ≡ n). let i = rw (eq-eqb e.head n own) at is in first m i (λ k' m' i' h'. absent es tokens n k' m' port i' h'))
      (λ (other : e.head ≡ n → ⊥). let i = rw (ne_eqb e.head n other) at is in rw (ne_eqb e.head n other) (absent es tokens n k m port i h))
      (cases_eq e.head n)
    where
      first : (m : ℕ) → e.head_port ∷ ports_into es n ≡ up_from k m → ((k' m' : ℕ) → ports_into es n ≡ up_from k' m' → port < k' → arriving es tokens n port ≡ []) → (if (e.head == n) && (e.head_port == port) then x else []) ++ arriving es tokens n port ≡ []
      first zero i later = absurd (cc)
      first (suc m) i later =
          let p : e.head_port ≡ k = cc in
          let r : ports_into es n ≡ up_from (k + 1) m = cc in
          let f : ((e.head == n) && (e.head_port == port)) ≡ false = rw (ne_eqb e.head_port port (λ g. omega arith)) (and-false (e.head == n)) in
          rw f (later (k + 1) m r (omega arith))

  in-collected : (es : List Edge) (tokens : List (List T)) (n k m : ℕ) → length tokens ≡ length es → ports_into es n ≡ up_from k m → joined (spanning es tokens n k m) ≡ collected (λ e. e.head == n) es tokens
  in-collected [] tokens n k zero long is = refl
  in-collected [] tokens n k (suc m) long is = absurd (cc)
  in-collected (e ∷ es) [] n k m long is = absurd (omega arith)
  in-collected (e ∷ es) (x ∷ tokens) n k m long is = ⊎_elim
      (λ (own : e.head ≡ n). let i = rw (eq-eqb e.head n own) at is in first own m i (λ k' m' i'. in-collected es tokens n k' m' (omega arith) i'))
      (λ (other : e.head ≡ n → ⊥). let i = rw (ne_eqb e.head n other) at is in
      rw (spanning-past e x es tokens n k m (λ port h. rw (ne_eqb e.head n other) refl), ne_eqb e.head n other) (in-collected es tokens n k m (omega arith) i))
      (cases_eq e.head n)
    where
      first : e.head ≡ n → (m : ℕ) → e.head_port ∷ ports_into es n ≡ up_from k m → ((k' m' : ℕ) → ports_into es n ≡ up_from k' m' → joined (spanning es tokens n k' m') ≡ collected (λ e. e.head == n) es tokens) → joined (spanning (e ∷ es) (x ∷ tokens) n k m) ≡ (if e.head == n then x else []) ++ collected (λ e. e.head == n) es tokens
      first own zero i later = absurd (cc)
      first own (suc m) i later =
          let p : e.head_port ≡ k = cc in
          let r : ports_into es n ≡ up_from (k + 1) m = cc in
          rw (spanning-past e x es tokens n (k + 1) m (λ port h. rw (eq-eqb e.head n own, ne_eqb e.head_port port (λ g. omega arith)) refl), eq-eqb e.head n own, eq-eqb e.head_port k p, absent es tokens n (k + 1) m k r (omega arith), append-nil x)
          (ap (λ (l : List T). x ++ l) (later (k + 1) m r))

  -- where its ports are counted, what arrives at the ports is what arrives
  pub below-collected : (es : List Edge) (tokens : List (List T)) (n m : ℕ) → length tokens ≡ length es → ports_into es n ≡ up_from 0 m → joined (arriving_below es tokens n m) ≡ collected (λ e. e.head == n) es tokens
  below-collected es tokens n m long is = rw (below-spanning es tokens n m) (in-collected es tokens n 0 m long is)

  -- out of a node whose outputs these are
  pub out-collected : (f : Edge → List T) (outs : List (List T)) (n : ℕ) → ((e : Edge) → e.tail ≡ n → f e ≡ slice_index_or outs e.tail_port []) → (es : List Edge) (before rest : List (List T)) → outs ≡ before ++ rest → ports_from es n ≡ up_from (length before) (length rest) → collected (λ e. e.tail == n) es (map f es) ≡ joined rest
  out-collected f outs n gives [] before [] all is = refl
  out-collected f outs n gives [] before (x ∷ rest) all is = absurd (cc)
  out-collected f outs n gives (e ∷ es) before rest all is = ⊎_elim
      (λ (own : e.tail ≡ n). let i = rw (eq-eqb e.tail n own) at is in first own rest all i (λ before' rest' all' i'. out-collected f outs n gives es before' rest' all' i'))
      (λ (other : e.tail ≡ n → ⊥). let i = rw (ne_eqb e.tail n other) at is in rw (ne_eqb e.tail n other) (out-collected f outs n gives es before rest all i))
      (cases_eq e.tail n)
    where
      first : e.tail ≡ n → (rest : List (List T)) → outs ≡ before ++ rest → e.tail_port ∷ ports_from es n ≡ up_from (length before) (length rest) → ((before' rest' : List (List T)) → outs ≡ before' ++ rest' → ports_from es n ≡ up_from (length before') (length rest') → collected (λ e. e.tail == n) es (map f es) ≡ joined rest') → (if e.tail == n then f e else []) ++ collected (λ e. e.tail == n) es (map f es) ≡ joined rest
      first own [] all i later = absurd (cc)
      first own (x ∷ rest) all i later =
          let p : e.tail_port ≡ length before = cc in
          let r : ports_from es n ≡ up_from (length before + 1) (length rest) = cc in
          let more : length (before ++ x ∷ []) ≡ length before + 1 = let l = length-append before (x ∷ []) in omega arith in
          let at : f e ≡ x = gives e own ∙ ap (λ (l : List (List T)). slice_index_or l e.tail_port []) all ∙ (let z : e.tail_port ≡ length before + 0 = omega arith in ap (λ i. slice_index_or (before ++ x ∷ rest) i []) z) ∙ get_or-append-add before (x ∷ rest) 0 [] in
          let rest_is = later (before ++ x ∷ []) rest (all ∙ sym (append_assoc before (x ∷ []) rest)) (rw more r) in
          rw (eq-eqb e.tail n own, at, rest_is) refl

  -- where a list for each edge agrees with what f gives
  abbrev pub Agree : (Edge → List T) → (Edge → Type 0) → List Edge → List (List T) → Type 0
  Agree f P [] ys = Unit {0}
  Agree f P (e ∷ es) [] = Unit {0}
  Agree f P (e ∷ es) (y ∷ ys) = (P e → f e ≡ y) × Agree f P es ys

  pub agree-less : (f : Edge → List T) (P Q : Edge → Type 0) (es : List Edge) (ys : List (List T)) → AllByRecursion (λ e. Q e → P e) es → Agree f P es ys → Agree f Q es ys
  agree-less f P Q [] ys less agree = tt
  agree-less f P Q (e ∷ es) [] less agree = tt
  agree-less f P Q (e ∷ es) (y ∷ ys) less agree = ((λ q. agree.0 (less.0 q)), agree-less f P Q es ys less.1 agree.1)

  pub collected-same : (f : Edge → List T) (test : Edge → Bool) (es : List Edge) (ys : List (List T)) → length ys ≡ length es → Agree f (λ e. test e ≡ true) es ys → collected test es (map f es) ≡ collected test es ys
  collected-same f test [] ys long agree = refl
  collected-same f test (e ∷ es) [] long agree = absurd (omega arith)
  collected-same f test (e ∷ es) (y ∷ ys) long agree = let later = collected-same f test es ys (omega arith) agree.1 in ⊎_elim
      (λ (passes : test e ≡ true). rw (passes, agree.0 passes, later) refl)
      (λ (fails : test e ≡ false). rw fails later)
      (cases_Bool (test e))

  abbrev pub Sized : List Edge → List (List T) → Type 0
  Sized [] ys = Unit {0}
  Sized (e ∷ es) [] = Unit {0}
  Sized (e ∷ es) (y ∷ ys) = (length y ≡ e.size) × Sized es ys

  -- lists that are the same when joined, and of the same lengths, are the same
  pub collected-split : (f : Edge → List T) (test : Edge → Bool) (es : List Edge) (ys : List (List T)) → AllByRecursion (λ e. test e ≡ true → length (f e) ≡ e.size) es → Sized es ys → collected test es (map f es) ≡ collected test es ys → Agree f (λ e. test e ≡ true) es ys
  collected-split f test [] ys sizes sized alike = tt
  collected-split f test (e ∷ es) [] sizes sized alike = tt
  collected-split f test (e ∷ es) (y ∷ ys) sizes sized alike = go (cases_Bool (test e)) (λ rest. collected-split f test es ys sizes.1 sized.1 rest)
    where
      go : (test e ≡ true) ⊎ (test e ≡ false) → (collected test es (map f es) ≡ collected test es ys → Agree f (λ e. test e ≡ true) es ys) → Agree f (λ e. test e ≡ true) (e ∷ es) (y ∷ ys)
      go (inl passes) later = let both_same = rw passes at alike in let both = split (f e) y (collected test es (map f es)) (collected test es ys) (sizes.0 passes ∙ sym sized.0) both_same in ((λ p. both.0), later both.1)
      go (inr fails) later = let rest_same = rw fails at alike in ((λ p. absurd (cc)), later rest_same)
