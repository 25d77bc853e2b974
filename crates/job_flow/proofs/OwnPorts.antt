-- Each edge has its ports to itself.
use Rattle.std.proofs.Common.{◌≡◌, ℕ, zero, suc, ◌+◌, ◌<◌, ◌≤◌, Bool, true, false, ◌&&◌, ◌==◌, ⊎_elim, List, [], ◌∷◌, ◌++◌, length, slice_index, slice_index_or, if◌then◌else◌, refl, ap, ◌∙◌, append_assoc, arith}
use Rattle.std.proofs.lemmas.Bool.{eqb-true, cases_Bool, cases_eq, eq-eqb, ne_eqb}
use Rattle.std.proofs.lemmas.List.{append-nil, length-append, get_or-append-add, get_or_append_left, get_or_push}
use Rattle.std.specs.List.{AllByRecursion}
use Rattle.sdf_level.specs.View.{LevelView}
use Rattle.sdf_level.specs.Lists.{occurrences}
use Rattle.sdf_level.specs.declared.node.Node.{Node}
use Rattle.sdf_level.specs.declared.node.Node.TheVariants as node
use Rattle.sdf_level.specs.declared.single_rate.Edge.{Edge}
use Rattle.single_rate.specs.Ports.{ports_into, ports_from, up_from, AreCounted, PortsAt}
use Rattle.single_rate.proofs.Unique.{and-left, and-right}
use Rattle.single_rate.proofs.PortCounts.{one, one-most}
use Rattle.job_flow.specs.Graphs.{JobGraph}
use Rattle.job_flow.specs.Frames.{arriving, arriving_size, sizes_below, sizes_out, edges_into, lengths_read}
use Rattle.job_flow.specs.Laws.{edge_at}
use Rattle.job_flow.proofs.Sized.{into-many}

-- so many numbers from one on: each once, and those alone
up-below : (k m p : ℕ) → p < k → occurrences p (up_from k m) ≡ 0
up-below k zero p h = refl
up-below k (suc m) p h = let later = up-below (k + 1) m p (omega arith) in rw (ne_eqb k p (λ e. omega arith)) (omega arith)

up-once : (k m p : ℕ) → occurrences p (up_from k m) ≤ 1
up-once k zero p = omega arith
up-once k (suc m) p = ⊎_elim
    (λ (e : k ≡ p). let later = up-below (k + 1) m p (omega arith) in let o = one-most (k == p) in omega arith)
    (λ (n : k ≡ p → ⊥). let later = up-once (k + 1) m p in rw (ne_eqb k p n) (omega arith))
    (cases_eq k p)

up-within : (k m p : ℕ) → 0 < occurrences p (up_from k m) → p < k + m
up-within k zero p some = absurd (omega arith)
up-within k (suc m) p some = ⊎_elim
    (λ (e : k ≡ p). omega arith)
    (λ (n : k ≡ p → ⊥). let later = up-within (k + 1) m p (let s = rw (ne_eqb k p n) at some in omega arith) in omega arith)
    (cases_eq k p)

up-there : (k m p : ℕ) → k ≤ p → p < k + m → 0 < occurrences p (up_from k m)
up-there k zero p low high = absurd (omega arith)
up-there k (suc m) p low high = ⊎_elim
    (λ (e : k ≡ p). rw (eq-eqb k p e) (omega arith))
    (λ (n : k ≡ p → ⊥). let later = up-there (k + 1) m p (omega arith) (omega arith) in omega arith)
    (cases_eq k p)

pub counted-there : (ports : List ℕ) → AreCounted ports → (p : ℕ) → p < length ports → 0 < occurrences p ports
counted-there ports counted p below = let e : occurrences p ports ≡ occurrences p (up_from 0 (length ports)) = ap (occurrences p) counted in let t = up-there 0 (length ports) p (omega arith) (omega arith) in omega arith

counted-once : (ports : List ℕ) → AreCounted ports → (p : ℕ) → occurrences p ports ≤ 1
counted-once ports counted p = let e : occurrences p ports ≡ occurrences p (up_from 0 (length ports)) = ap (occurrences p) counted in let o = up-once 0 (length ports) p in omega arith

pub counted-within : (ports : List ℕ) → AreCounted ports → (p : ℕ) → 0 < occurrences p ports → p < length ports
counted-within ports counted p some = let e : occurrences p ports ≡ occurrences p (up_from 0 (length ports)) = ap (occurrences p) counted in let w = up-within 0 (length ports) p (omega arith) in omega arith

module _ (level : LevelView) (into from : List ℕ) where
  pub into-once : (m : Node) → PortsAt level m into from → (p : ℕ) → occurrences p into ≤ 1
  into-once (node.Source s) ports p = let e : occurrences p into ≡ 0 = ap (occurrences p) (ports.0) in omega arith
  into-once (node.Init l) ports p = let e : occurrences p into ≡ 0 = ap (occurrences p) (ports.0) in omega arith
  into-once (node.Firing a k) ports p = ports.0 p
  into-once (node.End l) ports p = counted-once into (ports.0.0) p
  into-once (node.Sink t) ports p = counted-once into (ports.0.0) p
  into-once (node.Broadcast l) ports p = let e : occurrences p into ≡ occurrences p (up_from 0 1) = ap (occurrences p) (ports.0) in let o = up-once 0 1 p in omega arith
  into-once (node.Fork l i) ports p = let e : occurrences p into ≡ occurrences p (up_from 0 1) = ap (occurrences p) (ports.0) in let o = up-once 0 1 p in omega arith
  into-once (node.Join l j) ports p = counted-once into (ports.0) p
  into-once (node.Round l) ports p = counted-once into (ports.0) p

  pub from-once : (m : Node) → PortsAt level m into from → (p : ℕ) → occurrences p from ≤ 1
  from-once (node.Source s) ports p = counted-once from (ports.1.0) p
  from-once (node.Init l) ports p = counted-once from (ports.1.0) p
  from-once (node.Firing a k) ports p = ports.2 p
  from-once (node.End l) ports p = let e : occurrences p from ≡ 0 = ap (occurrences p) (ports.1) in omega arith
  from-once (node.Sink t) ports p = let e : occurrences p from ≡ 0 = ap (occurrences p) (ports.1) in omega arith
  from-once (node.Broadcast l) ports p = counted-once from (ports.1) p
  from-once (node.Fork l i) ports p = counted-once from (ports.1) p
  from-once (node.Join l j) ports p = let e : occurrences p from ≡ occurrences p (up_from 0 1) = ap (occurrences p) (ports.1) in let o = up-once 0 1 p in omega arith
  from-once (node.Round l) ports p = let e : occurrences p from ≡ occurrences p (up_from 0 1) = ap (occurrences p) (ports.1) in let o = up-once 0 1 p in omega arith

-- the edges at one end
module _ (at port : Edge → ℕ) where
  abbrev ports_at : List Edge → ℕ → List ℕ
  ports_at [] n = []
  ports_at (e ∷ es) n = (if at e == n then port e ∷ [] else []) ++ ports_at es n

  pub step : (e : Edge) (es : List Edge) (n p : ℕ) → occurrences p (ports_at (e ∷ es) n) ≡ one ((at e == n) && (port e == p)) + occurrences p (ports_at es n)
  step e es n p = go (at e == n)
    where
      go : (c : Bool) → occurrences p ((if c then port e ∷ [] else []) ++ ports_at es n) ≡ one (c && (port e == p)) + occurrences p (ports_at es n)
      go true = refl
      go false = omega arith

  here : (e : Edge) (n p : ℕ) → at e ≡ n → port e ≡ p → one ((at e == n) && (port e == p)) ≡ 1
  here e n p own is = rw (eq-eqb (at e) n own, eq-eqb (port e) p is) refl

  pub stands : (es : List Edge) (i n p : ℕ) → i < length es → at (edge_at es i) ≡ n → port (edge_at es i) ≡ p → 0 < occurrences p (ports_at es n)
  stands [] i n p h own is = absurd (omega arith)
  stands (e ∷ es) zero n p h own is = let s = step e es n p in let o = here e n p own is in omega arith
  stands (e ∷ es) (suc i) n p h own is = let s = step e es n p in let later = stands es i n p (omega arith) own is in omega arith

  pub apart : (es : List Edge) (n p : ℕ) → occurrences p (ports_at es n) ≤ 1 → (i j : ℕ) → i < length es → j < length es → at (edge_at es i) ≡ n → at (edge_at es j) ≡ n → port (edge_at es i) ≡ p → port (edge_at es j) ≡ p → i ≡ j
  apart [] n p once i j h g own_i own_j is_i is_j = absurd (omega arith)
  apart (e ∷ es) n p once zero zero h g own_i own_j is_i is_j = refl
  apart (e ∷ es) n p once zero (suc j) h g own_i own_j is_i is_j = absurd (let s = step e es n p in let o = here e n p own_i is_i in let later = stands es j n p (omega arith) own_j is_j in omega arith)
  apart (e ∷ es) n p once (suc i) zero h g own_i own_j is_i is_j = absurd (let s = step e es n p in let o = here e n p own_j is_j in let later = stands es i n p (omega arith) own_i is_i in omega arith)
  apart (e ∷ es) n p once (suc i) (suc j) h g own_i own_j is_i is_j = let s = step e es n p in ap (λ k. suc k) (apart es n p (omega arith) i j (omega arith) (omega arith) own_i own_j is_i is_j)

  pub found : (es : List Edge) (n p : ℕ) → 0 < occurrences p (ports_at es n) → (i : ℕ) × (i < length es) × (at (edge_at es i) ≡ n) × (port (edge_at es i) ≡ p)
  found [] n p some = absurd (omega arith)
  found (e ∷ es) n p some = let s = step e es n p in ⊎_elim
      (λ (c : ((at e == n) && (port e == p)) ≡ true). let first : (i : ℕ) × (i < length (e ∷ es)) × (at (edge_at (e ∷ es) i) ≡ n) × (port (edge_at (e ∷ es) i) ≡ p) = (0, omega arith, eqb-true (at e) n (and-left (at e == n) (port e == p) c), eqb-true (port e) p (and-right (at e == n) (port e == p) c)) in first)
      (λ (c : ((at e == n) && (port e == p)) ≡ false).
      let o : one ((at e == n) && (port e == p)) ≡ 0 = rw c refl in
      let later = found es n p (omega arith) in
      let next : (i : ℕ) × (i < length (e ∷ es)) × (at (edge_at (e ∷ es) i) ≡ n) × (port (edge_at (e ∷ es) i) ≡ p) = (suc later.0, (let l = later.1 in omega arith), later.2, later.3) in next)
      (cases_Bool ((at e == n) && (port e == p)))

abbrev meets : ℕ → ℕ → Edge → Bool
meets n p e = (e.head == n) && (e.head_port == p)

-- where no edge has the port, nothing arrives there; and where one has it, that edge's tokens
module _ {T : Type 0} where
  none-arrives : (es : List Edge) (tokens : List (List T)) (n p : ℕ) → occurrences p (ports_into es n) ≡ 0 → arriving es tokens n p ≡ []
  none-arrives [] tokens n p none = refl
  none-arrives (e ∷ es) [] n p none = refl
  none-arrives (e ∷ es) (x ∷ tokens) n p none = let s = step (λ e. e.head) (λ e. e.head_port) e es n p in ⊎_elim
      (λ (c : meets n p e ≡ true). absurd (let o : one (meets n p e) ≡ 1 = rw c refl in omega arith))
      (λ (c : meets n p e ≡ false). let o : one (meets n p e) ≡ 0 = rw c refl in rw c (none-arrives es tokens n p (omega arith)))
      (cases_Bool (meets n p e))

  pub arrives-alone : (es : List Edge) (tokens : List (List T)) (n p i : ℕ) → length tokens ≡ length es → occurrences p (ports_into es n) ≤ 1 → i < length es → (edge_at es i).head ≡ n → (edge_at es i).head_port ≡ p → arriving es tokens n p ≡ slice_index_or tokens i []
  arrives-alone [] tokens n p i long once h own is = absurd (omega arith)
  arrives-alone (e ∷ es) [] n p i long once h own is = absurd (omega arith)
  arrives-alone (e ∷ es) (x ∷ tokens) n p zero long once h own is =
      let s = step (λ e. e.head) (λ e. e.head_port) e es n p in
      let o : one (meets n p e) ≡ 1 = here (λ e. e.head) (λ e. e.head_port) e n p own is in
      rw (eq-eqb e.head n own, eq-eqb e.head_port p is, none-arrives es tokens n p (omega arith)) (append-nil x)
  arrives-alone (e ∷ es) (x ∷ tokens) n p (suc i) long once h own is =
      let s = step (λ e. e.head) (λ e. e.head_port) e es n p in
      let later = stands (λ e. e.head) (λ e. e.head_port) es i n p (omega arith) own is in ⊎_elim
      (λ (c : meets n p e ≡ true). absurd (let o : one (meets n p e) ≡ 1 = rw c refl in omega arith))
      (λ (c : meets n p e ≡ false). let o : one (meets n p e) ≡ 0 = rw c refl in rw c (arrives-alone es tokens n p i (omega arith) (omega arith) (omega arith) own is))
      (cases_Bool (meets n p e))

none-size : (es : List Edge) (n p : ℕ) → occurrences p (ports_into es n) ≡ 0 → arriving_size es n p ≡ 0
none-size [] n p none = refl
none-size (e ∷ es) n p none = let s = step (λ e. e.head) (λ e. e.head_port) e es n p in ⊎_elim
    (λ (c : meets n p e ≡ true). absurd (let o : one (meets n p e) ≡ 1 = rw c refl in omega arith))
    (λ (c : meets n p e ≡ false). let o : one (meets n p e) ≡ 0 = rw c refl in let later = none-size es n p (omega arith) in rw c (omega arith))
    (cases_Bool (meets n p e))

pub size-alone : (es : List Edge) (n p i : ℕ) → occurrences p (ports_into es n) ≤ 1 → i < length es → (edge_at es i).head ≡ n → (edge_at es i).head_port ≡ p → arriving_size es n p ≡ (edge_at es i).size
size-alone [] n p i once h own is = absurd (omega arith)
size-alone (e ∷ es) n p zero once h own is =
    let s = step (λ e. e.head) (λ e. e.head_port) e es n p in
    let o : one (meets n p e) ≡ 1 = here (λ e. e.head) (λ e. e.head_port) e n p own is in
    let none = none-size es n p (omega arith) in
    rw (eq-eqb e.head n own, eq-eqb e.head_port p is) (omega arith)
size-alone (e ∷ es) n p (suc i) once h own is =
    let s = step (λ e. e.head) (λ e. e.head_port) e es n p in
    let later = stands (λ e. e.head) (λ e. e.head_port) es i n p (omega arith) own is in ⊎_elim
    (λ (c : meets n p e ≡ true). absurd (let o : one (meets n p e) ≡ 1 = rw c refl in omega arith))
    (λ (c : meets n p e ≡ false). let o : one (meets n p e) ≡ 0 = rw c refl in let rest = size-alone es n p i (omega arith) (omega arith) own is in rw c (omega arith))
    (cases_Bool (meets n p e))

pub length-sizes : (es : List Edge) (n k : ℕ) → length (sizes_below es n k) ≡ k
length-sizes es n zero = refl
length-sizes es n (suc k) = length-append (sizes_below es n k) (arriving_size es n k ∷ []) ∙ (let e = length-sizes es n k in omega arith)

pub size-slot : (es : List Edge) (n k p : ℕ) → p < k → slice_index (sizes_below es n k) p ≡ arriving_size es n p
size-slot es n zero p h = absurd (omega arith)
size-slot es n (suc k) p h = let long = length-sizes es n k in ⊎_elim
    (λ (e : p ≡ k). get_or_push (sizes_below es n k) (arriving_size es n k) 0 p (omega arith) ∙ rw e refl)
    (λ (f : p ≡ k → ⊥). get_or_append_left (sizes_below es n k) (arriving_size es n k ∷ []) 0 p (omega arith) ∙ size-slot es n k p (omega arith))
    (cases_eq p k)

-- a port where an edge enters is one of the node's, and as long as what arrives there
module _ {T : Type 0} (job : JobGraph T) (n : ℕ) where
  abbrev HasSlot : Node → ℕ → Type 0
  HasSlot m p = (p < length (lengths_read job m n)) × (slice_index (lengths_read job m n) p ≡ arriving_size job.edges n p)

  slot-below : (k p : ℕ) → p < k → (p < length (sizes_below job.edges n k)) × (slice_index (sizes_below job.edges n k) p ≡ arriving_size job.edges n p)
  slot-below k p h = ((let l = length-sizes job.edges n k in omega arith), size-slot job.edges n k p h)

  pub in-slot : (m : Node) (from : List ℕ) → PortsAt job.level m (ports_into job.edges n) from → (p : ℕ) → 0 < occurrences p (ports_into job.edges n) → HasSlot m p
  in-slot (node.Source s) from ports p some = absurd (let e : occurrences p (ports_into job.edges n) ≡ 0 = ap (occurrences p) (ports.0) in omega arith)
  in-slot (node.Init l) from ports p some = absurd (let e : occurrences p (ports_into job.edges n) ≡ 0 = ap (occurrences p) (ports.0) in omega arith)
  in-slot (node.Firing a k) from ports p some = slot-below _ p (ports.1 p some)
  in-slot (node.End l) from ports p some = slot-below 1 p (let w = counted-within (ports_into job.edges n) (ports.0.0) p some in let o = ports.0.1 in omega arith)
  in-slot (node.Sink t) from ports p some = slot-below 1 p (let w = counted-within (ports_into job.edges n) (ports.0.0) p some in let o = ports.0.1 in omega arith)
  in-slot (node.Broadcast l) from ports p some = slot-below 1 p (let e : occurrences p (ports_into job.edges n) ≡ occurrences p (up_from 0 1) = ap (occurrences p) (ports.0) in let w = up-within 0 1 p (omega arith) in omega arith)
  in-slot (node.Fork l i) from ports p some = slot-below 1 p (let e : occurrences p (ports_into job.edges n) ≡ occurrences p (up_from 0 1) = ap (occurrences p) (ports.0) in let w = up-within 0 1 p (omega arith) in omega arith)
  in-slot (node.Join l j) from ports p some = slot-below (edges_into job.edges n) p (let w = counted-within (ports_into job.edges n) (ports.0) p some in let m = into-many job.edges n in omega arith)
  in-slot (node.Round l) from ports p some = slot-below (edges_into job.edges n) p (let w = counted-within (ports_into job.edges n) (ports.0) p some in let m = into-many job.edges n in omega arith)

-- what holds of each edge by its place
pub each-index : (P : Edge → Type 0) (es : List Edge) → ((i : ℕ) → i < length es → P (edge_at es i)) → AllByRecursion P es
each-index P [] each = tt
each-index P (e ∷ es) each = (each 0 (omega arith), each-index P es (λ i h. each (suc i) (omega arith)))

-- a port that is counted, where an edge leaves
pub out-slot : (before : List ℕ) (es : List Edge) (n m i : ℕ) → ports_from es n ≡ up_from (length before) m → i < length es → (edge_at es i).tail ≡ n → ((edge_at es i).tail_port < length (before ++ sizes_out es n)) × (slice_index (before ++ sizes_out es n) (edge_at es i).tail_port ≡ (edge_at es i).size)
out-slot before [] n m i counted h own = absurd (omega arith)
out-slot before (e ∷ es) n m i counted h own = ⊎_elim
    (λ (is : e.tail ≡ n). let c = rw (eq-eqb e.tail n is) at counted in rw (eq-eqb e.tail n is) (first m i c h own (λ before' m' j c' h' own'. out-slot before' es n m' j c' h' own')))
    (λ (other : e.tail ≡ n → ⊥). let c = rw (ne_eqb e.tail n other) at counted in rw (ne_eqb e.tail n other) (past i c h own other (λ j h' own'. out-slot before es n m j c h' own')))
    (cases_eq e.tail n)
  where
    first : (m i : ℕ) → e.tail_port ∷ ports_from es n ≡ up_from (length before) m → i < length (e ∷ es) → (edge_at (e ∷ es) i).tail ≡ n →
        ((before' : List ℕ) (m' j : ℕ) → ports_from es n ≡ up_from (length before') m' → j < length es → (edge_at es j).tail ≡ n → ((edge_at es j).tail_port < length (before' ++ sizes_out es n)) × (slice_index (before' ++ sizes_out es n) (edge_at es j).tail_port ≡ (edge_at es j).size)) →
        ((edge_at (e ∷ es) i).tail_port < length (before ++ e.size ∷ sizes_out es n)) × (slice_index (before ++ e.size ∷ sizes_out es n) (edge_at (e ∷ es) i).tail_port ≡ (edge_at (e ∷ es) i).size)
    first zero i c h own later = absurd (cc)
    first (suc m) zero c h own later =
        let p : e.tail_port ≡ length before = cc in
        let l = length-append before (e.size ∷ sizes_out es n) in
        ((omega arith), (let z : e.tail_port ≡ length before + 0 = omega arith in ap (λ i. slice_index (before ++ e.size ∷ sizes_out es n) i) z ∙ get_or-append-add before (e.size ∷ sizes_out es n) 0 0))
    first (suc m) (suc i) c h own later =
        let r : ports_from es n ≡ up_from (length before + 1) m = cc in
        let more : length (before ++ e.size ∷ []) ≡ length before + 1 = let l = length-append before (e.size ∷ []) in omega arith in
        let rest = later (before ++ e.size ∷ []) m i (rw more r) (omega arith) own in
        rw (append_assoc before (e.size ∷ []) (sizes_out es n)) at rest

    past : (i : ℕ) → ports_from es n ≡ up_from (length before) m → i < length (e ∷ es) → (edge_at (e ∷ es) i).tail ≡ n → (e.tail ≡ n → ⊥) →
        ((j : ℕ) → j < length es → (edge_at es j).tail ≡ n → ((edge_at es j).tail_port < length (before ++ sizes_out es n)) × (slice_index (before ++ sizes_out es n) (edge_at es j).tail_port ≡ (edge_at es j).size)) →
        ((edge_at (e ∷ es) i).tail_port < length (before ++ sizes_out es n)) × (slice_index (before ++ sizes_out es n) (edge_at (e ∷ es) i).tail_port ≡ (edge_at (e ∷ es) i).size)
    past zero c h own other later = absurd (other own)
    past (suc i) c h own other later = later i (omega arith) own
