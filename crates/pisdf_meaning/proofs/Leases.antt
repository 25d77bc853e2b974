-- Leases that become lists of tokens, the last first.
use Rattle.std.proofs.Common.{◌≡◌, ◌++◌, ◌∷◌, List, [], map, reverse, ap, sym, ◌∙◌, subst, append_assoc, ℤ}
use Rattle.std.proofs.lemmas.List.{map-append, reverse-append}
use Rattle.kernel_gate.specs.Leased.{AllWhole}
use Rattle.split_block.specs.View.{LeaseView, LeasePlace, IsWholePlace, cells_of, lease_place}

whole_less : (ps : List LeasePlace) (p : LeasePlace) → AllWhole (ps ++ p ∷ []) → AllWhole ps × IsWholePlace p
whole_less [] p a = (tt, a.0)
whole_less (q ∷ ps) p a = let r = whole_less ps p a.1 in ((a.0, r.0), r.1)

-- without its last a list of whole blocks is one, and the last is a whole block
pub last_whole : (all left : List LeaseView) (last : LeaseView) → all ≡ left ++ last ∷ [] → AllWhole (map lease_place all) → AllWhole (map lease_place left) × IsWholePlace (lease_place last)
last_whole all left last is whole = whole_less (map lease_place left) (lease_place last) (subst AllWhole (ap (map lease_place) is ∙ map-append lease_place left (last ∷ [])) whole)

-- the cells of the last go to the lists made, the last first
pub last_goes : (all left : List LeaseView) (last : LeaseView) (lists lists' cells : List (List ℤ)) → all ≡ left ++ last ∷ [] → lists' ≡ lists ++ last.cells ∷ [] →
    map cells_of all ++ reverse lists ≡ cells → map cells_of left ++ reverse lists' ≡ cells
last_goes all left last lists lists' cells is now were =
    ap (λ l. map cells_of left ++ reverse l) now ∙ ap (λ l. map cells_of left ++ l) (reverse-append lists (last.cells ∷ []))
    ∙ sym (append_assoc (map cells_of left) (last.cells ∷ []) (reverse lists)) ∙ ap (λ l. l ++ reverse lists) (sym (map-append cells_of left (last ∷ []))) ∙ ap (λ l. map cells_of l ++ reverse lists) (sym is) ∙ were
