-- The lent lists of a pass, once it has left a state.
use Rattle.std.proofs.Common.{◌≡◌, ◌≢◌, ℕ, ◌<◌, Bool, true, cond, Option, Some, List, [], ◌∷◌, ◌++◌, length, get_or, drop, All, eq-eqb, ne_eqb, refl, sym, ◌∙◌, ap, subst, arith, append-nil, lt_of_not-le}
use Rattle.std.proofs.Math.Seq.{drop-length}
use native.Mathlib.Decide.{dec_le, ℕ_discrete}
use Rattle.board_lock.specs.Meant.{Meant, entries_of}
use Rattle.board_lock.specs.Passes.{Finds, LendsNothing, MayLeave, seen_in, first_gains, first_becomes}
use Rattle.lock_calls.specs.Tallied.{tally_meant}
use Rattle.board_lock.specs.declared.view.Known.{Known}
use Rattle.lock_calls.specs.declared.tally.Count.{Count}
use Rattle.lock_calls.specs.declared.tally.Drawer.{Drawer}
use Rattle.lock_calls.specs.declared.tally.Tally.{Tally}
use Rattle.board_lock.proofs.Entries.{entries-append}

cons_not_nil : {E : Type 0} (x : E) (xs : List E) → x ∷ xs ≡ [] → ⊥
cons_not_nil x xs e = cc

module _ {E : Type 0} (worker : E → ℕ) where
  -- a list without entries of other numbers is the entries of its number
  entries_all : (n : ℕ) (xs : List E) → ((k : ℕ) → k ≢ n → entries_of worker k xs ≡ []) → xs ≡ entries_of worker n xs
  entries_all n [] none = refl
  entries_all n (x ∷ xs) none =
      elim (ℕ_discrete (worker x) n) [
        | yes here ↦
            let less : (k : ℕ) → k ≢ n → entries_of worker k xs ≡ [] = λ k other. sym (ap (λ (b : Bool). cond b (x ∷ entries_of worker k xs) (entries_of worker k xs)) (ne_eqb (worker x) k (λ e. other (sym e ∙ here)))) ∙ none k other in
            ap (λ (l : List E). x ∷ l) (entries_all n xs less) ∙ sym (ap (λ (b : Bool). cond b (x ∷ entries_of worker n xs) (entries_of worker n xs)) (eq-eqb (worker x) n here))
        | no other ↦ absurd (cons_not_nil x (entries_of worker (worker x) xs) (sym (ap (λ (b : Bool). cond b (x ∷ entries_of worker (worker x) xs) (entries_of worker (worker x) xs)) (eq-eqb (worker x) (worker x) refl)) ∙ none (worker x) other))
      ]

first_longer : {P : Type 0} (lists : List (List P)) (here added : List P) → get_or lists 0 [] ≡ here → first_becomes lists (here ++ added) ≡ first_gains lists added
first_longer [] here added is = refl
first_longer (l ∷ ls) here added is = ap (λ (x : List _). (x ++ added) ∷ ls) (sym is)

module _ {S K E P : Type 0} (m : Meant S K E P) (p : Known K E P) (x : S) (f : Finds m p x) where
  here_is : get_or p.lent 0 [] ≡ m.lent x p.number
  here_is = f.lent 0 f.sound.some ∙ ap (m.lent x) (omega arith)

  -- what is lent to the pass's number is as found, and has more places
  pub lent_longer : (added : List P) → first_becomes p.lent (m.lent x p.number ++ added) ≡ first_gains p.lent added
  lent_longer added = first_longer p.lent (m.lent x p.number) added here_is

  -- where the pass has every number and nothing is lent to it, nothing is lent
  pub nothing_lent : p.number ≡ 0 → length p.own ≡ p.workers → ((k : ℕ) → get_or p.lent k [] ≡ []) → LendsNothing m x
  nothing_lent low all none n =
      elim (dec_le p.workers n) [
        | yes above ↦ f.unlent n above
        | no below ↦
            let under : n < p.workers = lt_of_not-le below in
            ap (m.lent x) (omega arith) ∙ (sym (f.lent n (omega arith)) ∙ none n)
      ]

  -- where the pass has both of two numbers, and the second has no own entries, the journal grew by those of the first
  pub first_alone : (mine : List E) → p.number ≡ 0 → p.workers ≡ 2 → p.own ≡ mine ∷ [] ∷ [] → m.journal x ≡ p.opening ++ mine
  first_alone mine low two own =
      let count : length p.own ≡ 2 = ap length own in
      let here : mine ≡ entries_of m.worker 0 f.tail = ap (λ (l : List (List E)). get_or l 0 []) (sym own) ∙ (f.own 0 (omega arith) ∙ ap (λ (n : ℕ). entries_of m.worker n f.tail) (omega arith)) in
      let next : [] ≡ entries_of m.worker 1 f.tail = ap (λ (l : List (List E)). get_or l 1 []) (sym own) ∙ (f.own 1 (omega arith) ∙ ap (λ (n : ℕ). entries_of m.worker n f.tail) (omega arith)) in
      let none : (k : ℕ) → k ≢ 0 → entries_of m.worker k f.tail ≡ [] = λ k other. elim (ℕ_discrete k 1) [
        | yes one ↦ ap (λ (n : ℕ). entries_of m.worker n f.tail) one ∙ sym next
        | no more ↦ f.others k (omega arith)
      ] in
      f.opening ∙ ap (λ (l : List E). p.opening ++ l) (entries_all m.worker 0 f.tail none ∙ sym here)

-- one more drawer of a worker
pub drawers_else : (n w label : ℕ) (items : List Drawer) → n ≢ w → entries_of (λ d. d.worker) n (items ++ record { worker = w; label = label } ∷ []) ≡ entries_of (λ d. d.worker) n items
drawers_else n w label items other =
    let d : Drawer = record { worker = w; label = label } in
    let none : entries_of (λ (e : Drawer). e.worker) n (d ∷ []) ≡ [] = rw (ne_eqb w n (λ e. other (sym e))) refl in
    entries-append (λ (e : Drawer). e.worker) n items (d ∷ []) ∙ (ap (λ (l : List Drawer). entries_of (λ (e : Drawer). e.worker) n items ++ l) none ∙ append-nil (entries_of (λ (e : Drawer). e.worker) n items))

pub drawers_here : (w label : ℕ) (items : List Drawer) → entries_of (λ d. d.worker) w (items ++ record { worker = w; label = label } ∷ []) ≡ entries_of (λ d. d.worker) w items ++ record { worker = w; label = label } ∷ []
drawers_here w label items =
    let d : Drawer = record { worker = w; label = label } in
    let here : entries_of (λ (e : Drawer). e.worker) w (d ∷ []) ≡ d ∷ [] = rw (eq-eqb w w refl) refl in
    entries-append (λ (e : Drawer). e.worker) w items (d ∷ []) ∙ ap (λ (l : List Drawer). entries_of (λ (e : Drawer). e.worker) w items ++ l) here

-- a tally with one more drawer of the pass's number may be left
pub may_lend : (k p : Known ℕ Count Drawer) (o : Option Tally) (x now y : Tally) (w label : ℕ) (b : Bool) → k ≡ seen_in tally_meant p x → o ≡ Some x → now ≡ x → w ≡ p.number → b ≡ true
    → y.name ≡ now.name → y.counts.items ≡ now.counts.items → y.closed ≡ now.closed → y.drawers.items ≡ cond b (now.drawers.items ++ record { worker = w; label = label } ∷ []) now.drawers.items
    → Finds tally_meant p x → MayLeave tally_meant k o y
may_lend k p o x now y w label b known found same number pushed name counts closed drawers f =
    let old : List Count = x.counts.items in
    let counts' : y.counts.items ≡ old = counts ∙ ap (λ (t : Tally). t.counts.items) same in
    let drawers' : y.drawers.items ≡ x.drawers.items ++ record { worker = p.number; label = label } ∷ [] =
    drawers ∙ (ap (λ (c : Bool). cond c (now.drawers.items ++ record { worker = w; label = label } ∷ []) now.drawers.items) pushed
    ∙ (ap (λ (t : Tally). t.drawers.items ++ record { worker = w; label = label } ∷ []) same ∙ ap (λ (n : ℕ). x.drawers.items ++ record { worker = n; label = label } ∷ []) number)) in
    let none : drop (length old) y.counts.items ≡ [] = ap (λ (l : List Count). drop (length old) l) counts' ∙ drop-length old in
    let may : MayLeave tally_meant (seen_in tally_meant p x) (Some x) y = record {
      key = ap (λ (t : ℕ). Some t) (name ∙ ap (λ (t : Tally). t.name) same) ∙ f.key;
      journal = counts' ∙ (sym (append-nil old) ∙ ap (λ (l : List Count). old ++ l) (sym none));
      mine = subst (λ (l : List Count). All (λ e. e.worker ≡ p.number) l) (sym none) (λ k d lt. absurd (omega arith));
      lent = λ n other. ap (λ (l : List Drawer). entries_of (λ d. d.worker) n l) drawers' ∙ drawers_else n p.number label x.drawers.items other;
      over = λ e. closed ∙ (ap (λ (t : Tally). t.closed) same ∙ e);
    } in
    subst (λ (q : Known ℕ Count Drawer). MayLeave tally_meant q o y) (sym known) (subst (λ (q : Option Tally). MayLeave tally_meant (seen_in tally_meant p x) q y) (sym found) may)
