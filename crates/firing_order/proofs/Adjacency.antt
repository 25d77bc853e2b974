-- The list of the links at an actor.
use Rattle.std.proofs.Common.{◌≡◌, ℕ, ◌<◌, List, [], length, get_or, arith, ap, sym, ◌∙◌, Vec}
use Rattle.std.specs.List.{filter}
use Rattle.std.proofs.lemmas.List.{length-map, get_or-map}
use Rattle.sdf_level.specs.declared.inner_link.InnerLink.{InnerLink}
use Rattle.sdf_level.specs.Lists.{lists_of}
use Rattle.firing_order.specs.Adjacent.{AreAt, is_at}

-- the list that is read for an actor
pub at_read : {A : Type 0} (n : ℕ) (links : List InnerLink) (vectors : List (Vec InnerLink A)) (a : ℕ) (x : Vec InnerLink A) → AreAt n links (lists_of vectors) → a < n → x ≡ get_or vectors a x → x.items ≡ filter (is_at a) links
at_read {A} n links vectors a x h below read =
    let items = λ (v : Vec InnerLink A). v.items in
    let inside : a < length vectors = (let long = h.one_each in let m = length-map vectors items in omega arith) in
    ap items read ∙ sym (get_or-map items vectors a x [] inside) ∙ h.each a below
