-- Writing the parts of a list one after the other, as a loop does.
use Rattle.std.proofs.Common.{◌≡◌, ℕ, ◌+◌, ◌<◌, List, [], ◌∷◌, ◌++◌, length, get_or, take, map, sym, ap, ◌∙◌}
use Rattle.std.proofs.lemmas.List.{map_push, take_more}

-- one value more, which shows what its part has by name
pub shows_on : {P S V D : Type 0} (view : V → D) (shown : S → D) (named : P → S) (parts : List P) (i : ℕ) (part : P) (value : V) (values : List V) → i < length parts → part ≡ get_or parts i part
    → view value ≡ shown (named part) → map view values ≡ map shown (map named (take i parts)) → map view (values ++ value ∷ []) ≡ map shown (map named (take (i + 1) parts))
shows_on view shown named parts i part value values lt is here before =
    let next : take (i + 1) parts ≡ take i parts ++ part ∷ [] = take_more parts i part lt ∙ ap (λ p. take i parts ++ p ∷ []) (sym is) in
    map_push view values value ∙ ap (λ d. d ++ view value ∷ []) before ∙ ap (λ d. map shown (map named (take i parts)) ++ d ∷ []) here
    ∙ sym (map_push shown (map named (take i parts)) (named part)) ∙ sym (ap (map shown) (map_push named (take i parts) part)) ∙ sym (ap (λ ps. map shown (map named ps)) next)
