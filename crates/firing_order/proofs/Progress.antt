-- After some turns: one firing more, and the end.
use Rattle.std.proofs.Common.{◌≡◌, ◌≢◌, ℕ, ◌+◌, ◌<◌, ◌≤◌, ⊎_elim, List, [], ◌∷◌, ◌++◌, map, length, set, slice_index, ap, sym, ◌∙◌, append_assoc, arith}
use Rattle.std.specs.List.{AllByRecursion}
use Rattle.std.proofs.lemmas.Bool.{cases_eq, cases_lt}
use Rattle.std.proofs.lemmas.List.{get_or-set_same, get_or-set_other, length-set, append-nil, map-append, get_or_past, ext_get_or}
use Rattle.sdf_level.specs.View.{LevelView}
use Rattle.sdf_level.specs.Firings.{firings, IsReady, CanFire, CanFireAfter, EachFiring, EachCanFire, actors_of, turns_after, turns_of}
use Rattle.sdf_level.specs.Orders.{CanStand, IsLeast, IsAdmissible, IsTurnOrder, IsStuck, IsLeft, IsDeadlocked}
use Rattle.sdf_level.specs.declared.turn.Turn.{Turn}
use Rattle.sdf_level.proofs.FiringLists.{firings-snoc_own, firings-snoc_other, CanFireAfter-more, EachFiring-snoc}
use Rattle.sdf_level.proofs.Deadlock.{stuck_is_done}
use Rattle.sdf_level.specs.Numbered.{inner_of, inner_links}
use Rattle.sdf_level.specs.declared.inner_link.InnerLink.{InnerLink}
use Rattle.sdf_level.proofs.InnerList.{All-inner_links, EachInner-from_list}
use Rattle.firing_order.specs.Lacking.{entry_of, lacking_into, AreLacking, IsFree, IsRest}
use Rattle.firing_order.proofs.Counting.{fed_from_none, none_from_fed}

-- after these turns so often has each actor fired, and up to there they are the order
pub record HasFired (level : LevelView) (counts fired : List ℕ) (turns : List Turn) : Type 0 where
  pub one_each : length fired ≡ length counts
  pub same : (a : ℕ) → slice_index fired a ≡ firings a (actors_of turns)
  pub within : (a : ℕ) → slice_index fired a ≤ slice_index counts a
  pub each : EachCanFire level (actors_of turns)
  pub least : EachFiring (IsLeast level counts) [] (actors_of turns)
  pub numbered : turns ≡ turns_of (actors_of turns)

turns_after-snoc : (before list : List ℕ) (a : ℕ) → turns_after before (list ++ a ∷ []) ≡ turns_after before list ++ record { actor = a; turn = firings a (before ++ list) } ∷ []
turns_after-snoc before [] a = rw append-nil
turns_after-snoc before (b ∷ list) a = rw (turns_after-snoc (before ++ b ∷ []) list a) (rw append_assoc)

-- an actor with a count is one of the list's
has_place : (counts : List ℕ) (n c : ℕ) → n < slice_index counts c → c < length counts
has_place counts n c h = ⊎_elim
    (λ (inside : c < length counts). inside)
    (λ (past : length counts ≤ c). let z = get_or_past counts c 0 past in absurd (omega arith))
    (cases_lt c (length counts))

-- what holds of each of these links holds of each between two actors of the level
module _ (level : LevelView) (links : List InnerLink) (same : map inner_of links ≡ inner_links level.links) (fired : List ℕ) (b : ℕ) where
  map_all : (inner : List InnerLink) → AllByRecursion (λ link. IsReady (entry_of fired) b (inner_of link)) inner → AllByRecursion (IsReady (entry_of fired) b) (map inner_of inner)
  map_all [] all = tt
  map_all (link ∷ inner) all = (all.0, map_all inner all.1)

  unmap_all : (inner : List InnerLink) → AllByRecursion (IsReady (entry_of fired) b) (map inner_of inner) → AllByRecursion (λ link. IsReady (entry_of fired) b (inner_of link)) inner
  unmap_all [] all = tt
  unmap_all (link ∷ inner) all = (all.0, unmap_all inner all.1)

  can_fire_from_none : lacking_into fired b links ≡ 0 → CanFireAfter level (entry_of fired) b
  can_fire_from_none none = EachInner-from_list (IsReady (entry_of fired) b) level.links (rw (← same) (map_all links (fed_from_none fired b links none)))

  none_from_can_fire : CanFireAfter level (entry_of fired) b → lacking_into fired b links ≡ 0
  none_from_can_fire can = none_from_fed fired b links (unmap_all links (rw same (All-inner_links (IsReady (entry_of fired) b) level.links can)))

module _ (level : LevelView) (counts : List ℕ) (links : List InnerLink) (same_links : map inner_of links ≡ inner_links level.links) (fired : List ℕ) (turns : List Turn) (lacking : List ℕ) (h : HasFired level counts fired turns) (counted : AreLacking links fired lacking) where
  -- an actor that can stand in the next place is free
  free_from_standing : (c : ℕ) → CanStand level counts (actors_of turns) c → IsFree counts fired lacking c
  free_from_standing c stands =
      let same = h.same c in
      record {
        left = let x = stands.left in omega arith;
        fed = counted.each c ∙ none_from_can_fire level links same_links fired c (CanFireAfter-more level (λ x. firings x (actors_of turns)) (entry_of fired) c (sym same) (λ x. let e = h.same x in omega arith) stands.can_fire);
      }

  stuck_here : ((c : ℕ) → IsFree counts fired lacking c → ⊥) → IsStuck level counts (actors_of turns)
  stuck_here none = record {
    within = λ c. let e = h.same c in let w = h.within c in omega arith;
    each = h.each;
    no_more = λ c stands. none c (free_from_standing c stands);
  }

  pub fired_more : (a : ℕ) → IsFree counts fired lacking a → ((c : ℕ) → c < a → IsFree counts fired lacking c → ⊥) → HasFired level counts (set fired a (slice_index fired a + 1)) (turns ++ record { actor = a; turn = slice_index fired a } ∷ [])
  fired_more a free least =
      let list : List ℕ = actors_of turns in
      let grown : actors_of (turns ++ record { actor = a; turn = slice_index fired a } ∷ []) ≡ list ++ a ∷ [] = map-append (λ (t : Turn). t.actor) turns (record { actor = a; turn = slice_index fired a } ∷ []) in
      let here : slice_index fired a < slice_index counts a = free.left in
      let inside : a < length fired = let p = has_place counts (slice_index fired a) a here in let l = h.one_each in omega arith in
      let own : slice_index (set fired a (slice_index fired a + 1)) a ≡ slice_index fired a + 1 = get_or-set_same fired a (slice_index fired a + 1) 0 inside in
      record {
        one_each = length-set fired a (slice_index fired a + 1) ∙ h.one_each;
        same = λ c. rw grown (⊎_elim
            (λ (e : a ≡ c). rw (← e) (let m = firings-snoc_own a list in let k = h.same a in omega arith))
            (λ (n : a ≢ c). let o = get_or-set_other fired a c (slice_index fired a + 1) 0 (λ e. n (sym e)) in let m = firings-snoc_other c a list n in let k = h.same c in omega arith)
            (cases_eq a c));
        within = λ c. ⊎_elim
            (λ (e : a ≡ c). rw (← e) (omega arith))
            (λ (n : a ≢ c). let o = get_or-set_other fired a c (slice_index fired a + 1) 0 (λ e. n (sym e)) in let k = h.within c in omega arith)
            (cases_eq a c);
        each = rw grown (EachFiring-snoc (CanFire level) [] list a h.each (CanFireAfter-more level (entry_of fired) (λ x. firings x list) a (h.same a) (λ x. let e = h.same x in omega arith) (can_fire_from_none level links same_links fired a (sym (counted.each a) ∙ free.fed))));
        least = rw grown (EachFiring-snoc (IsLeast level counts) [] list a h.least (λ c below stands. least c below (free_from_standing c stands)));
        numbered = rw (grown, turns_after-snoc [] list a)
            (ap (λ (n : ℕ). turns ++ record { actor = a; turn = n } ∷ []) (h.same a) ∙ ap (λ (xs : List Turn). xs ++ record { actor = a; turn = firings a list } ∷ []) h.numbered);
      }

  -- where no actor is free and some count is left, no list is admissible
  pub deadlocked_here : ((c : ℕ) → IsFree counts fired lacking c → ⊥) → (counts ≡ fired → ⊥) → IsDeadlocked level counts
  deadlocked_here none open_ list admissible = open_ (sym (ext_get_or 0 fired counts h.one_each (λ a below. h.same a ∙ stuck_is_done level counts (actors_of turns) list (stuck_here none) admissible a)))

  pub left_here : (left : List ℕ) → ((c : ℕ) → IsFree counts fired lacking c → ⊥) → IsRest counts fired left → IsLeft level counts left
  left_here left none rest = record {
    list = actors_of turns;
    stuck = stuck_here none;
    one_each = rest.one_each;
    each = λ a. ⊎_elim
        (λ (below : a < length counts). let r = rest.each a below in let e = h.same a in omega arith)
        (λ (past : length counts ≤ a). let x = get_or_past counts a 0 past in let y = get_or_past left a 0 (let l = rest.one_each in omega arith) in omega arith)
        (cases_lt a (length counts));
  }

-- where each actor has fired its count, the turns are the order
pub order_here : (level : LevelView) (counts fired : List ℕ) (turns : List Turn) → HasFired level counts fired turns → counts ≡ fired → IsTurnOrder level counts turns
order_here level counts fired turns h done = record {
  order = record { admissible = admissible_here; least = h.least };
  numbered = h.numbered;
}
  where
    admissible_here : IsAdmissible level counts (actors_of turns)
    admissible_here = record { counts = λ a. rw done (sym (h.same a)); each = h.each }
