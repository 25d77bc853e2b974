-- The homes of the entries, one entry more.
use Rattle.std.proofs.Common.{◌≡◌, ℕ, zero, suc, ◌+◌, ◌<◌, ◌≤◌, ⊎_elim, Bool, true, false, cond, eqb, List, [], ◌∷◌, ◌++◌, length, set, get_or, take, slice_index, arith, refl, ◌∙◌}
use Rattle.std.specs.List.{AllByRecursion, filter}
use Rattle.std.proofs.lemmas.List.{get_or-set_same, get_or-set_other, take_more}
use Rattle.std.proofs.lemmas.Bool.{cases_eq, eq-eqb}
use Rattle.worker_mapping.specs.Graph.{CostedGraph}
use Rattle.worker_mapping.specs.Schedule.{times_placed, EachEntry, IsChoice}
use Rattle.worker_mapping.specs.declared.entry.Entry.{Entry}
use Rattle.worker_mapping.proofs.Lists.{each-append}
use Rattle.worker_mapping.proofs.Entries.{times_placed-push}

-- the entries so far have their homes
abbrev pub HaveHomes : List ℕ → List Entry → Type 0
HaveHomes home entries = AllByRecursion (λ (e : Entry). slice_index home e.node ≡ e.worker) entries

times_placed-take : (entries : List Entry) (n i : ℕ) → times_placed (take i entries) n ≤ times_placed entries n
times_placed-take entries n zero = omega arith
times_placed-take [] n (suc i) = omega arith
times_placed-take (e ∷ entries) n (suc i) = elim (eqb e.node n) as (λ b. length (cond b (e ∷ filter (λ (x : Entry). eqb x.node n) (take i entries)) (filter (λ (x : Entry). eqb x.node n) (take i entries))) ≤ length (cond b (e ∷ filter (λ (x : Entry). eqb x.node n) entries) (filter (λ (x : Entry). eqb x.node n) entries))) [
  | true ↦ let h = times_placed-take entries n i in omega arith
  | false ↦ times_placed-take entries n i
]

-- a write for a node that has no entry yet
HaveHomes-set : (home : List ℕ) (entries : List Entry) (n w : ℕ) → times_placed entries n ≡ 0 → HaveHomes home entries → HaveHomes (set home n w) entries
HaveHomes-set home [] n w none all = tt
HaveHomes-set home (e ∷ entries) n w none all = ⊎_elim
    (λ (own : e.node ≡ n). absurd (let k : suc (times_placed entries n) ≡ 0 = rw (eq-eqb e.node n own) at none in omega arith))
    (λ (other : e.node ≡ n → ⊥). (get_or-set_other home n e.node w 0 other ∙ all.0, HaveHomes-set home entries n w (go (eqb e.node n) none) all.1))
    (cases_eq e.node n) where
      go : (b : Bool) → length (cond b (e ∷ filter (λ (x : Entry). eqb x.node n) entries) (filter (λ (x : Entry). eqb x.node n) entries)) ≡ 0 → times_placed entries n ≡ 0
      go true k = absurd (omega arith)
      go false k = k

pub HaveHomes-more : (home : List ℕ) (entries : List Entry) (i : ℕ) (d : Entry) → i < length entries → (get_or entries i d).node < length home → times_placed entries (get_or entries i d).node ≤ 1 → HaveHomes home (take i entries)
    → HaveHomes (set home (get_or entries i d).node (get_or entries i d).worker) (take (i + 1) entries)
HaveHomes-more home entries i d inside there once all =
    let e : Entry = get_or entries i d in
    let more = take_more entries i d inside in
    let fewer = rw more at (times_placed-take entries e.node (i + 1)) in
    let one = times_placed-push (take i entries) e e.node in
    let own : ◌≡◌ {A = ℕ} (cond (eqb e.node e.node) 1 0) 1 = rw (eq-eqb e.node e.node refl) in
    rw more (each-append (λ (x : Entry). slice_index (set home e.node e.worker) x.node ≡ x.worker) (take i entries) (e ∷ [])
    (HaveHomes-set home (take i entries) e.node e.worker (omega arith) all)
    (get_or-set_same home e.node e.worker 0 there, tt))

-- each entry of a schedule names a node
pub nodes-there : (graph : CostedGraph) (workers : ℕ) (priority : List ℕ) (before entries : List Entry) → EachEntry (IsChoice graph workers priority) before entries → AllByRecursion (λ (e : Entry). e.node < graph.nodes) entries
nodes-there graph workers priority before [] each = tt
nodes-there graph workers priority before (e ∷ rest) each = (each.0.candidate.there, nodes-there graph workers priority (before ++ e ∷ []) rest each.1)
