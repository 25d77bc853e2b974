-- What one link more makes of the groups.
use Rattle.std.proofs.Common.{◌≡◌, ◌≢◌, ℕ, ◌+◌, ◌<◌, ◌⊎◌, inl, inr, ⊎_elim, List, [], ◌∷◌, ◌++◌, length, slice_index, get_or, take, refl, ap, sym, ◌∙◌, arith}
use Rattle.std.proofs.lemmas.Bool.{cases_eq}
use Rattle.std.proofs.lemmas.List.{take_more}
use Rattle.sdf_level.specs.Links.{IsInnerWith}
use Rattle.sdf_level.specs.Numbered.{as_link, inner_links}
use Rattle.sdf_level.specs.declared.inner_link.InnerLink.{InnerLink}
use Rattle.sdf_level.proofs.InnerList.{connected-same}
use Rattle.sdf_level.specs.Components.{Joins, IsPath, AreConnected}
use Rattle.sdf_level.specs.declared.link.Link.{Link}
use Rattle.sdf_level.specs.declared.link.Tail.TheVariants as tail
use Rattle.sdf_level.specs.declared.link.Head.TheVariants as head
use Rattle.sdf_level.proofs.Connected.{connected-sym, connected-trans, connected-more, connected-new, connected-none, connected-split, IsNear}
use Rattle.sdf_level.specs.Groups.{united, AreUnited}
use Rattle.sdf_level.proofs.Regrouped.{united-first, united-second, united-other, united-origin, united-below}
use Rattle.interface_rules.specs.Connections.{AreGrouped, Connects}

-- before any link each actor is a group
pub grouped_at_start : (n : ℕ) (group : List ℕ) → length group ≡ n → ((a : ℕ) → a < n → slice_index group a ≡ a) → AreGrouped n [] group
grouped_at_start n group long own = record {
  one_each = long;
  below = λ a h. rw (own a h) h;
  same = λ a b h k. ((λ e. record { over = []; path = sym (own a h) ∙ e ∙ own b k }), (λ f. alone a b f.over f.path h k));
}
  where
    alone : (a b : ℕ) (over : List ℕ) → IsPath [] a over b → a < n → b < n → slice_index group a ≡ slice_index group b
    alone a b [] path h k = ap (λ (v : ℕ). slice_index group v) path
    alone a b (c ∷ over) path h k = absurd path.0

-- a link that joins no two actors
pub groups_same : (n : ℕ) (link : Link) (group : List ℕ) → ((a b : ℕ) → IsInnerWith (Joins a b) link.tail link.head link.delay → ⊥) → Connects n link group group
groups_same n link group none links g = record {
  one_each = g.one_each;
  below = g.below;
  same = λ a b h k. ((λ e. connected-more links link a b ((g.same a b h k).0 e)), (λ f. (g.same a b h k).1 (connected-none links link none a b f)));
}

-- a link that joins actors x and y
module _ (n x i put y j taken d : ℕ) (group group' : List ℕ) (x_there : x < n) (y_there : y < n) (puts : 0 < put) (takes : 0 < taken) (u : AreUnited group group' (slice_index group x) (slice_index group y)) where
  abbrev new : Link
  new = record { tail = tail.Port x i put; head = head.Port y j taken; delay = d }

  abbrev first : ℕ
  first = slice_index group x

  abbrev second : ℕ
  second = slice_index group y

  module _ (links : List Link) (g : AreGrouped n links group) where
    more : (a b : ℕ) → a < n → b < n → slice_index group a ≡ slice_index group b → AreConnected (links ++ new ∷ []) a b
    more a b h k e = connected-more links new a b ((g.same a b h k).0 e)

    across : AreConnected (links ++ new ∷ []) x y
    across = connected-new links new x y record { puts = puts; takes = takes; ends = inl (refl, refl) }

    -- one of x's group or of y's
    to_x : (a : ℕ) → a < n → (slice_index group a ≡ first) ⊎ (slice_index group a ≡ second) → AreConnected (links ++ new ∷ []) a x
    to_x a h either = ⊎_elim
        (λ (e : slice_index group a ≡ first). more a x h x_there e)
        (λ (e : slice_index group a ≡ second). connected-trans (links ++ new ∷ []) a y x (more a y h y_there e) (connected-sym (links ++ new ∷ []) x y across))
        either

    -- who isn't of the new group has the number that it had
    apart : (a : ℕ) → (united first second u.kept (slice_index group a) ≡ u.kept → ⊥) → united first second u.kept (slice_index group a) ≡ slice_index group a
    apart a m = united-other first second u.kept (slice_index group a)
        (λ e. m (ap (united first second u.kept) e ∙ united-first first second u.kept))
        (λ e. m (ap (united first second u.kept) e ∙ united-second first second u.kept))

    connects : (a b : ℕ) → a < n → b < n → united first second u.kept (slice_index group a) ≡ united first second u.kept (slice_index group b) → AreConnected (links ++ new ∷ []) a b
    connects a b h k e = ⊎_elim
        (λ (is : united first second u.kept (slice_index group a) ≡ u.kept).
        connected-trans (links ++ new ∷ []) a x b
        (to_x a h (united-origin first second u.kept (slice_index group a) u.either is))
        (connected-sym (links ++ new ∷ []) b x (to_x b k (united-origin first second u.kept (slice_index group b) u.either (sym e ∙ is)))))
        (λ (m : united first second u.kept (slice_index group a) ≢ u.kept).
        more a b h k (sym (apart a m) ∙ e ∙ apart b (λ is. m (e ∙ is))))
        (cases_eq (united first second u.kept (slice_index group a)) u.kept)

    near_kept : (a : ℕ) → a < n → IsNear links x i put y j taken d a → united first second u.kept (slice_index group a) ≡ u.kept
    near_kept a h near = elim near [
      | inl near_x ↦ ap (united first second u.kept) ((g.same a x h x_there).1 near_x) ∙ united-first first second u.kept
      | inr near_y ↦ ap (united first second u.kept) ((g.same a y h y_there).1 near_y) ∙ united-second first second u.kept
    ]

    agree : (a b : ℕ) → a < n → b < n → AreConnected (links ++ new ∷ []) a b → united first second u.kept (slice_index group a) ≡ united first second u.kept (slice_index group b)
    agree a b h k f = elim (connected-split links x i put y j taken d a b f) [
      | inl old ↦ ap (united first second u.kept) ((g.same a b h k).1 old)
      | inr both ↦ near_kept a h both.0 ∙ sym (near_kept b k both.1)
    ]

    now : (a : ℕ) → a < n → slice_index group' a ≡ united first second u.kept (slice_index group a)
    now a h = u.each a (let l = g.one_each in omega arith)

    kept_below : u.kept < n
    kept_below = ⊎_elim (λ (e : u.kept ≡ first). rw e (g.below x x_there)) (λ (e : u.kept ≡ second). rw e (g.below y y_there)) u.either

  pub groups_joined : Connects n new group group'
  groups_joined links g = record {
    one_each = u.one_each ∙ g.one_each;
    below = λ a h. rw (now links g a h) (united-below first second u.kept n (slice_index group a) (kept_below links g) (g.below a h));
    same = λ a b h k. (
      (λ e. connects links g a b h k (sym (now links g a h) ∙ e ∙ now links g b k)),
      (λ f. now links g a h ∙ agree links g a b h k f ∙ sym (now links g b k)),
    );
  }

-- where both are of one group already, nothing changes
pub united_own : (group : List ℕ) (g h : ℕ) → g ≡ h → AreUnited group group g h
united_own group g h e = record {
  one_each = refl;
  kept = g;
  either = inl refl;
  each = λ a below. ⊎_elim
      (λ (f : slice_index group a ≡ g). f ∙ sym (ap (united g h g) f ∙ united-first g h g))
      (λ (m : slice_index group a ≢ g). sym (united-other g h g (slice_index group a) m (λ f. m (f ∙ sym e))))
      (cases_eq (slice_index group a) g);
}

-- a link with a rate of 0 joins nothing
pub groups_apart : (n : ℕ) (link : InnerLink) (group : List ℕ) → (link.produced ≡ 0) ⊎ (link.consumed ≡ 0) → Connects n (as_link link) group group
groups_apart n link group zero = groups_same n (as_link link) group (λ a b joined. ⊎_elim
    (λ (e : link.produced ≡ 0). let p = joined.puts in omega arith)
    (λ (e : link.consumed ≡ 0). let p = joined.takes in omega arith)
    zero)

pub grouped_next : (n : ℕ) (links : List Link) (i : ℕ) (d : Link) (group group' : List ℕ) → i < length links → AreGrouped n (take i links) group → Connects n (get_or links i d) group group' → AreGrouped n (take (i + 1) links) group'
grouped_next n links i d group group' inside grouped connects = rw (take_more links i d inside) (connects (take i links) grouped)

-- the groups of other links that are the same between actors
pub grouped_same : (n : ℕ) (xs ys : List Link) (group : List ℕ) → inner_links xs ≡ inner_links ys → AreGrouped n xs group → AreGrouped n ys group
grouped_same n xs ys group same g = record {
  one_each = g.one_each;
  below = g.below;
  same = λ a b h k. ((λ e. connected-same xs ys same a b ((g.same a b h k).0 e)), (λ f. (g.same a b h k).1 (connected-same ys xs (sym same) a b f)));
}
