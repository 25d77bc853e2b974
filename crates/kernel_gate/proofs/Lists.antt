-- Lists of leases.
use Rattle.std.proofs.Common.{◌≡◌, ℕ, ◌<◌, ◌++◌, ◌∷◌, drop, List, [], length, map, set, get_or, refl, sym, ◌∙◌, ap, arith}
use Rattle.std.specs.Prelude.{ℤ}
use Rattle.std.proofs.lemmas.List.{get_or-map, map-set, length-map, length-take-le, length-append, length-drop, set-get_or}
use Rattle.split_block.specs.View.{LeaseView, LeasePlace, IsWholePlace, cells_of, lease_place, refit, with_cells}
use Rattle.kernel_gate.specs.Leased.{AllWhole}
use Rattle.kernel_gate.specs.Value.{lengths}

-- the list at a place is the lease's there
pub list_at : (vs : List LeaseView) (i : ℕ) (v : LeaseView) (lists : List (List ℤ)) → map cells_of vs ≡ lists → i < length lists → v ≡ get_or vs i v → v.cells ≡ get_or lists i []
list_at vs i v lists e lt at =
    let len : length (map cells_of vs) ≡ length lists = ap length e in
    let lt' : i < length vs = omega (arith, length-map vs cells_of) in
    ap cells_of at ∙ (sym (get_or-map cells_of vs i v [] lt') ∙ ap (λ (l : List (List ℤ)). get_or l i []) e)

-- what is behind a lease after a write through its slice
pub write_at : (vs : List LeaseView) (i : ℕ) (v : LeaseView) (w : List ℤ) (lists : List (List ℤ)) → map cells_of vs ≡ lists → i < length lists → v ≡ get_or vs i v
    → map cells_of (set vs i (with_cells v w)) ≡ set lists i (refit (get_or lists i []) w)
write_at vs i v w lists e lt at =
    map-set cells_of vs i (with_cells v w) ∙ (ap (λ (l : List (List ℤ)). set l i (refit v.cells w)) e ∙ ap (λ (l : List ℤ). set lists i (refit l w)) (list_at vs i v lists e lt at))

-- it lies where it lay
pub stays_at : (vs : List LeaseView) (i : ℕ) (v : LeaseView) (w : List ℤ) (lists : List (List ℤ)) → map cells_of vs ≡ lists → i < length lists → v ≡ get_or vs i v
    → map lease_place (set vs i (with_cells v w)) ≡ map lease_place vs
stays_at vs i v w lists e lt at =
    let len : length (map cells_of vs) ≡ length lists = ap length e in
    let lt' : i < length vs = omega (arith, length-map vs cells_of) in
    let fits : length (refit v.cells w) ≡ length v.cells = length-take-le (length v.cells) (w ++ drop (length w) v.cells) (omega (arith, length-append w (drop (length w) v.cells), length-drop (length w) v.cells)) in
    let kept : lease_place (with_cells v w) ≡ lease_place v = λ i. record { block = v.block; start = v.start; len = fits i } in
    let here : lease_place v ≡ get_or (map lease_place vs) i (lease_place v) = ap lease_place at ∙ sym (get_or-map lease_place vs i v (lease_place v) lt') in
    map-set lease_place vs i (with_cells v w) ∙ (ap (λ (s : LeasePlace). set (map lease_place vs) i s) (kept ∙ here) ∙ set-get_or (map lease_place vs) i (lease_place v))

-- their lists are as long as their places
pub leases_long : (vs : List LeaseView) → lengths (map cells_of vs) ≡ map (λ (p : LeasePlace). p.len) (map lease_place vs)
leases_long [] = refl
leases_long (v ∷ vs) = ap (λ (ns : List ℕ). length v.cells ∷ ns) (leases_long vs)

-- one more, or one less, whole block
pub whole_more : (ps : List LeasePlace) (p : LeasePlace) → AllWhole ps → IsWholePlace p → AllWhole (ps ++ p ∷ [])
whole_more [] p a w = (w, tt)
whole_more (q ∷ ps) p a w = (a.0, whole_more ps p a.1 w)

pub whole_less : (ps : List LeasePlace) (p : LeasePlace) → AllWhole (ps ++ p ∷ []) → AllWhole ps × IsWholePlace p
whole_less [] p a = (tt, a.0)
whole_less (q ∷ ps) p a = let r = whole_less ps p a.1 in ((a.0, r.0), r.1)
