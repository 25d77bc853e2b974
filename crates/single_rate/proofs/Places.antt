-- A node is found at its number.
use Rattle.std.proofs.Common.{◌≡◌, zero, suc, ◌+◌, ◌<◌, Bool, true, false, ◌⊎◌, inl, inr, List, [], ◌∷◌, ◌++◌, map, length, slice_index_or, refl, sym, subst, arith}
use Rattle.std.proofs.lemmas.Bool.{cases_Bool}
use Rattle.sdf_level.specs.declared.node.Node.{Node}
use Rattle.sdf_level.specs.declared.node.Node.TheVariants as node
use Rattle.single_rate.specs.Nodes.{same}
use Rattle.single_rate.specs.declared.wire.Wire.{Wire}
use Rattle.single_rate.specs.Flow.{gathered, arrives, leaves, Given, Sends, EachEdge, IsFlow}
use Rattle.sdf_level.specs.Copying.{Copies}
use Rattle.std.specs.List.{All}
use Rattle.single_rate.specs.Numbers.{HasNumbers}
use Rattle.single_rate.specs.Expanded.{place_of, edge_of, wire_of}
use Rattle.single_rate.proofs.Picked.{Every}
use Rattle.single_rate.proofs.Unique.{same-node, same-self}

abbrev pub In : Node → List Node → Type 0
In n [] = ⊥
In n (m ∷ ms) = (m ≡ n) ⊎ In n ms

pub In-left : (n : Node) (xs ys : List Node) → In n xs → In n (xs ++ ys)
In-left n [] ys i = absurd i
In-left n (x ∷ xs) ys (inl e) = inl e
In-left n (x ∷ xs) ys (inr i) = inr (In-left n xs ys i)

pub In-right : (n : Node) (xs ys : List Node) → In n ys → In n (xs ++ ys)
In-right n [] ys i = i
In-right n (x ∷ xs) ys i = inr (In-right n xs ys i)

pub place-found : (list : List Node) (n : Node) → In n list → slice_index_or list (place_of list n) (node.Source 0) ≡ n
place-found [] n i = absurd i
place-found (m ∷ ms) n i = go (cases_Bool (same n m)) i (place-found ms n)
  where
    go : (same n m ≡ true) ⊎ (same n m ≡ false) → (m ≡ n) ⊎ In n ms → (In n ms → slice_index_or ms (place_of ms n) (node.Source 0) ≡ n) → slice_index_or (m ∷ ms) (place_of (m ∷ ms) n) (node.Source 0) ≡ n
    go (inl e) i later = rw e (sym (same-node n m e))
    go (inr e) (inl is) later = let s : same n n ≡ true = same-self n in absurd (let f : same n n ≡ false = rw is at e in cc)
    go (inr e) (inr i) later = let s : 1 + place_of ms n ≡ suc (place_of ms n) = omega arith in rw (e, s) (later i)

pub place-below : (list : List Node) (n : Node) → In n list → place_of list n < length list
place-below [] n i = absurd i
place-below (m ∷ ms) n i = go (cases_Bool (same n m)) i (place-below ms n)
  where
    go : (same n m ≡ true) ⊎ (same n m ≡ false) → (m ≡ n) ⊎ In n ms → (In n ms → place_of ms n < length ms) → place_of (m ∷ ms) n < length (m ∷ ms)
    go (inl e) i later = rw e (omega arith)
    go (inr e) (inl is) later = let s : same n n ≡ true = same-self n in absurd (let f : same n n ≡ false = rw is at e in cc)
    go (inr e) (inr i) later = rw e (let l = later i in omega arith)

abbrev pub HasEnds : List Node → Wire → Type 0
HasEnds list w = In w.tail.node list × In w.head.node list

-- the same without its place on the line
abbrev pub erased : Wire → Wire
erased w = record { tail = w.tail; head = w.head; size = w.size; place = 0 }

pub wires-again : (list : List Node) (ws : List Wire) → Every (HasEnds list) ws → map (wire_of list) (map (edge_of list) ws) ≡ map erased ws
wires-again list [] ends = refl
wires-again list (w ∷ ws) ends = rw (place-found list w.tail.node ends.0.0, place-found list w.head.node ends.0.1, wires-again list ws ends.1) refl

module _ {T : Type 0} where
  pub gathered-erased : (test : Wire → Bool) → ((w : Wire) → test (erased w) ≡ test w) → (ws : List Wire) (on : List (List T)) → gathered test (map erased ws) on ≡ gathered test ws on
  gathered-erased test blind [] on = refl
  gathered-erased test blind (w ∷ ws) [] = refl
  gathered-erased test blind (w ∷ ws) (x ∷ on) = rw (blind w, gathered-erased test blind ws on) refl

  EachEdge-erased : (P : Wire → List T → Type 0) → ((w : Wire) (x : List T) → P w x → P (erased w) x) → (ws : List Wire) (on : List (List T)) → EachEdge P ws on → EachEdge P (map erased ws) on
  EachEdge-erased P f [] [] each = tt
  EachEdge-erased P f [] (x ∷ on) each = absurd each
  EachEdge-erased P f (w ∷ ws) [] each = absurd each
  EachEdge-erased P f (w ∷ ws) (x ∷ on) each = (f w x each.0, EachEdge-erased P f ws on each.1)

  EachEdge-placed : (P : Wire → List T → Type 0) → ((w : Wire) (x : List T) → P (erased w) x → P w x) → (ws : List Wire) (on : List (List T)) → EachEdge P (map erased ws) on → EachEdge P ws on
  EachEdge-placed P f [] [] each = tt
  EachEdge-placed P f [] (x ∷ on) each = absurd each
  EachEdge-placed P f (w ∷ ws) [] each = absurd each
  EachEdge-placed P f (w ∷ ws) (x ∷ on) each = (f w x each.0, EachEdge-placed P f ws on each.1)

  -- a flow doesn't depend on places
  pub flow-erased : (given : Given T) (ws : List Wire) (on : List (List T)) → IsFlow given ws on → IsFlow given (map erased ws) on
  flow-erased given ws on flow = record {
    sizes = EachEdge-erased (λ w x. length x ≡ w.size) (λ w x p. p) ws on flow.sizes;
    sent = EachEdge-erased (λ w x. Sends given w.tail.node w.tail.port x) (λ w x p. p) ws on flow.sent;
    copied = λ n. rw (gathered-erased (λ w. same n w.head.node) (λ w. refl) ws on, gathered-erased (λ w. same n w.tail.node) (λ w. refl) ws on) (flow.copied n);
  }

  pub flow-placed : (given : Given T) (ws : List Wire) (on : List (List T)) → IsFlow given (map erased ws) on → IsFlow given ws on
  flow-placed given ws on flow = record {
    sizes = EachEdge-placed (λ w x. length x ≡ w.size) (λ w x p. p) ws on flow.sizes;
    sent = EachEdge-placed (λ w x. Sends given w.tail.node w.tail.port x) (λ w x p. p) ws on flow.sent;
    copied = λ n. let c = flow.copied n in let P : List T → List T → Type 0 = λ i o. Copies n i o in
        let a : arrives (map erased ws) on n ≡ arrives ws on n = gathered-erased (λ w. same n w.head.node) (λ w. refl) ws on in
        let l : leaves (map erased ws) on n ≡ leaves ws on n = gathered-erased (λ w. same n w.tail.node) (λ w. refl) ws on in
        subst (λ (i : List T). Copies n i (leaves ws on n)) a (subst (λ (o : List T). Copies n (arrives (map erased ws) on n) o) l c);
  }

pub all-numbered : (list : List Node) (ws : List Wire) → Every (HasEnds list) ws → All (HasNumbers list) ws
all-numbered list [] ends i d inside = absurd (omega arith)
all-numbered list (w ∷ ws) ends zero d inside = record { tail = place-below list w.tail.node ends.0.0; head = place-below list w.head.node ends.0.1 }
all-numbered list (w ∷ ws) ends (suc i) d inside = all-numbered list ws ends.1 i d (omega arith)
