-- Being of one component: an equivalence, and what one link more changes.
use Rattle.std.proofs.Common.{ℕ, ◌⊎◌, inl, inr, ⊎_elim, List, [], ◌∷◌, ◌++◌, refl, sym, subst}
use Rattle.sdf_level.specs.View.{LevelView}
use Rattle.sdf_level.specs.declared.link.Link.{Link}
use Rattle.sdf_level.specs.declared.link.Tail.TheVariants as tail
use Rattle.sdf_level.specs.declared.link.Head.TheVariants as head
use Rattle.sdf_level.specs.Links.{Inner, IsInnerWith, SomeInner}
use Rattle.sdf_level.specs.Components.{Joins, IsPath, AreConnected}
use Rattle.sdf_level.specs.Repetition.{HasEnough, IsFactor, IsLeastFactor}
use Rattle.sdf_level.proofs.InnerLinks.{SomeInner-map, SomeInner-more, SomeInner-end, SomeInner-split, EachOuter-map}

Joins-turned : (a b : ℕ) (link : Inner) → Joins a b link → Joins b a link
Joins-turned a b link j = record { puts = j.puts; takes = j.takes; ends = elim j.ends [ inl forth ↦ inr forth | inr back ↦ inl back ] }

module _ (links : List Link) where
  pub connected-refl : (a : ℕ) → AreConnected links a a
  connected-refl a = record { over = []; path = refl }

  pub connected-step : (a b c : ℕ) → SomeInner (Joins a b) links → AreConnected links b c → AreConnected links a c
  connected-step a b c joined on = record { over = b ∷ on.over; path = (joined, on.path) }

  along : (a : ℕ) (over : List ℕ) (b c : ℕ) → IsPath links a over b → AreConnected links b c → AreConnected links a c
  along a [] b c path on = let P : ℕ → Type 0 = λ x. AreConnected links x c in subst P (sym path) on
  along a (d ∷ over) b c path on = connected-step a d c path.0 (along d over b c path.1 on)

  pub connected-trans : (a b c : ℕ) → AreConnected links a b → AreConnected links b c → AreConnected links a c
  connected-trans a b c f g = along a f.over b c f.path g

  back : (a : ℕ) (over : List ℕ) (b : ℕ) → IsPath links a over b → AreConnected links b a
  back a [] b path = record { over = []; path = sym path }
  back a (d ∷ over) b path =
      connected-trans b d a (back d over b path.1)
      (connected-step d a a (SomeInner-map {P = Joins a d} {Q = Joins d a} (λ link j. Joins-turned a d link j) links path.0) (connected-refl a))

  pub connected-sym : (a b : ℕ) → AreConnected links a b → AreConnected links b a
  connected-sym a b f = back a f.over b f.path

-- a link more disconnects nothing
module _ (links : List Link) (link : Link) where
  more_along : (a : ℕ) (over : List ℕ) (b : ℕ) → IsPath links a over b → IsPath (links ++ link ∷ []) a over b
  more_along a [] b path = path
  more_along a (c ∷ over) b path = (SomeInner-more (Joins a c) links link path.0, more_along c over b path.1)

  pub connected-more : (a b : ℕ) → AreConnected links a b → AreConnected (links ++ link ∷ []) a b
  connected-more a b f = record { over = f.over; path = more_along a f.over b f.path }

  pub connected-new : (a b : ℕ) → IsInnerWith (Joins a b) link.tail link.head link.delay → AreConnected (links ++ link ∷ []) a b
  connected-new a b joined = connected-step (links ++ link ∷ []) a b b (SomeInner-end (Joins a b) links link joined) (connected-refl (links ++ link ∷ []) b)

  -- one that joins no two actors connects nothing
  none_along : ((a b : ℕ) → IsInnerWith (Joins a b) link.tail link.head link.delay → ⊥) → (a : ℕ) (over : List ℕ) (b : ℕ) → IsPath (links ++ link ∷ []) a over b → AreConnected links a b
  none_along none a [] b path = record { over = []; path = path }
  none_along none a (c ∷ over) b path =
      let later = none_along none c over b path.1 in
      ⊎_elim
      (λ (old : SomeInner (Joins a c) links). connected-step links a c b old later)
      (λ (new : IsInnerWith (Joins a c) link.tail link.head link.delay). absurd (none a c new))
      (SomeInner-split (Joins a c) links link path.0)

  pub connected-none : ((a b : ℕ) → IsInnerWith (Joins a b) link.tail link.head link.delay → ⊥) → (a b : ℕ) → AreConnected (links ++ link ∷ []) a b → AreConnected links a b
  connected-none none a b f = none_along none a f.over b f.path

-- one that joins x and y connects what was connected to the one with what was connected to the other
module _ (links : List Link) (x p r y j c d : ℕ) where
  abbrev new : Link
  new = record { tail = tail.Port x p r; head = head.Port y j c; delay = d }

  abbrev pub IsNear : ℕ → Type 0
  IsNear a = AreConnected links a x ⊎ AreConnected links a y

  near : (a b : ℕ) → Joins a b record { tail = x; produced = r; head = y; consumed = c; delay = d } → IsNear a × IsNear b
  near a b joined = elim joined.ends [
    | inl forth ↦ (inl record { over = []; path = sym forth.0 }, inr record { over = []; path = sym forth.1 })
    | inr turned ↦ (inr record { over = []; path = sym turned.1 }, inl record { over = []; path = sym turned.0 })
  ]

  near-step : (a b : ℕ) → AreConnected links a b → IsNear b → IsNear a
  near-step a b f n = elim n [ inl to_x ↦ inl (connected-trans links a b x f to_x) | inr to_y ↦ inr (connected-trans links a b y f to_y) ]

  split_along : (a : ℕ) (over : List ℕ) (b : ℕ) → IsPath (links ++ new ∷ []) a over b → AreConnected links a b ⊎ (IsNear a × IsNear b)
  split_along a [] b path = inl record { over = []; path = path }
  split_along a (e ∷ over) b path =
      let later = split_along e over b path.1 in
      ⊎_elim
      (λ (old : SomeInner (Joins a e) links).
      let step = connected-step links a e e old (connected-refl links e) in
      elim later [ inl on ↦ inl (connected-trans links a e b step on) | inr both ↦ inr (near-step a e step both.0, both.1) ])
      (λ (joined : Joins a e record { tail = x; produced = r; head = y; consumed = c; delay = d }).
      let ends = near a e joined in
      elim later [ inl on ↦ inr (ends.0, near-step b e (connected-sym links e b on) ends.1) | inr both ↦ inr (ends.0, both.1) ])
      (SomeInner-split (Joins a e) links new path.0)

  pub connected-split : (a b : ℕ) → AreConnected (links ++ new ∷ []) a b → AreConnected links a b ⊎ (IsNear a × IsNear b)
  connected-split a b f = split_along a f.over b f.path

-- connected actors have one factor
factor-moved : (level : LevelView) (base : List ℕ) (a b m : ℕ) → AreConnected level.links a b → IsFactor level base a m → IsFactor level base b m
factor-moved level base a b m f factor = record {
  at_least_one = factor.at_least_one;
  enough = EachOuter-map {P = λ link. AreConnected level.links a link.actor → HasEnough base m link} {Q = λ link. AreConnected level.links b link.actor → HasEnough base m link} level
      (λ link has g. has (connected-trans level.links a b link.actor f g)) level.links factor.enough;
}

pub least_factor-moved : (level : LevelView) (base : List ℕ) (a b m : ℕ) → AreConnected level.links a b → IsLeastFactor level base a m → IsLeastFactor level base b m
least_factor-moved level base a b m f l = record {
  factor = factor-moved level base a b m f l.factor;
  least = λ other g. l.least other (factor-moved level base b a other (connected-sym level.links a b f) g);
}
