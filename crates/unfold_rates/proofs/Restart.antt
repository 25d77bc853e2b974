-- What is left on the links of a level is with what they begin again, where no tokens start anew.
use Rattle.std.proofs.Common.{◌≡◌, ℕ, zero, suc, ◌+◌, true, false, not, ℤ, List, [], ◌∷◌, ◌++◌, length, drop, get_or, slice_get, refl, ap, ap₂, sym, ◌∙◌, subst, arith, append_assoc, ⊎_elim, length-append}
use Rattle.std.specs.List.{All, filter}
use Rattle.std.proofs.lemmas.Bool.{cases_Bool}
use Rattle.std.proofs.lemmas.List.{get_or-append-add}
use Rattle.std.proofs.lemmas.List.Elements.{All-head, All-tail}
use Rattle.param_resolver.specs.LevelOf.{fifo_links, link_of, links_of, state_link, state_links}
use Rattle.param_resolver.specs.Numbering.{has_state, is_kept}
use Rattle.pisdf_model.specs.Details.{from_number}
use Rattle.pisdf_model.specs.InterfaceWires.{is_at_configuration, is_configuration_actor}
use Rattle.pisdf_model.specs.declared.actor.Actor.{Actor}
use Rattle.pisdf_model.specs.declared.fifo.End.{End}
use Rattle.pisdf_model.specs.declared.fifo.End.TheVariants.{Interface, Port}
use Rattle.pisdf_model.specs.declared.fifo.Fifo.{Fifo}
use Rattle.pisdf_model.specs.declared.fifo.Life.{Life}
use Rattle.pisdf_model.specs.declared.fifo.Life.TheVariants.{Firing, Permanent}
use Rattle.pisdf_model.specs.declared.graph.Graph.{Graph}
use Rattle.pisdf_meaning.specs.Running.{actor_starts, actor_states, fifo_starts, fifo_states, state_after}
use Rattle.pisdf_meaning.specs.States.{begins_with, goes_on, tokens_at}
use Rattle.sdf_level.specs.LevelRun.{HaveDelays}
use Rattle.sdf_level.specs.declared.link.Link.{Link}
use Rattle.unfold_rates.specs.Exact.{BeginsOnce}
use Rattle.unfold_rates.proofs.Unset.{NoneConfigures, first_configures_nothing, others_configure_nothing}

-- ---- each FIFO becomes a link

none_at : (actors : List Actor) → NoneConfigures actors → (a : ℕ) → is_configuration_actor (slice_get actors a) ≡ false
none_at [] all a = refl
none_at (actor ∷ actors) all zero = first_configures_nothing actor actors all
none_at (actor ∷ actors) all (suc a) = none_at actors (others_configure_nothing actor actors all) a

head_free : (g : Graph) → NoneConfigures g.actors → (e : End) → is_at_configuration g e ≡ false
head_free g nothing (Interface i) = refl
head_free g nothing (Port a p) = none_at g.actors nothing a

all_kept : (g : Graph) → NoneConfigures g.actors → (f : Fifo) → is_kept g f ≡ true
all_kept g nothing f = ap not (head_free g nothing f.head)

-- ---- what goes on of one

no_tokens : (line : List ℤ) → length line ≡ 0 → line ≡ []
no_tokens [] none = refl
no_tokens (x ∷ line) none = absurd (omega arith)

again : (life : Life) (delay line : List ℤ) → (life ≡ Firing → delay ≡ []) → length line ≡ length delay → begins_with life delay (goes_on life line) ≡ line
again Firing delay line once long = let none = once refl in none ∙ sym (no_tokens line (long ∙ ap (λ (l : List ℤ). length l) none))
again Permanent delay line once long = refl

-- a list after others
at_after : (pre : List (List ℤ)) (one : List ℤ) (rest : List (List ℤ)) (i : ℕ) → length pre ≡ i → tokens_at (pre ++ (one ∷ rest)) i ≡ one
at_after pre one rest i long = ap (λ n. get_or (pre ++ (one ∷ rest)) n []) (let e : i ≡ length pre + 0 = omega arith in e) ∙ get_or-append-add pre (one ∷ rest) 0 []

one_more : (pre : List (List ℤ)) (one : List ℤ) (rest : List (List ℤ)) → pre ++ (one ∷ rest) ≡ (pre ++ one ∷ []) ++ rest
one_more pre one rest = sym (append_assoc pre (one ∷ []) rest)

longer : (pre : List (List ℤ)) (one : List ℤ) (i : ℕ) → length pre ≡ i → length (pre ++ one ∷ []) ≡ i + 1
longer pre one i long = length-append pre (one ∷ []) ∙ ap (λ n. n + 1) long

-- ---- all of a graph

module _ (graphs : List Graph) (g : Graph) (values : List ℤ) (nothing : NoneConfigures g.actors) where
  abbrev of_fifo : ℕ → Fifo → List Link
  of_fifo i f = fifo_links graphs g values f

  abbrev of_state : ℕ → Actor → List Link
  of_state a x = state_links graphs g a x

  fifo_states_long : (fifos : List Fifo) (left : List (List ℤ)) → length (fifo_states g fifos left) ≡ length fifos
  fifo_states_long [] left = refl
  fifo_states_long (f ∷ fifos) left = rw (all_kept g nothing f) (ap suc (fifo_states_long fifos (drop 1 left)))

  fifos_again : (pre rest : List (List ℤ)) (i : ℕ) (fifos : List Fifo) (links : List Link) (left : List (List ℤ)) → length pre ≡ i → All BeginsOnce fifos → HaveDelays (from_number i of_fifo fifos ++ links) left →
      (fifo_starts g (pre ++ (fifo_states g fifos left ++ rest)) i fifos ++ drop (length (filter (is_kept g) fifos)) left ≡ left) × HaveDelays links (drop (length (filter (is_kept g) fifos)) left)
  fifos_again pre rest i [] links left long once here = (refl, here)
  fifos_again pre rest i (f ∷ fifos) links [] long once here =
      let first : from_number i of_fifo (f ∷ fifos) ++ links ≡ link_of graphs g values f ∷ (from_number (i + 1) of_fifo fifos ++ links) = rw (all_kept g nothing f) refl in
      absurd (subst (λ (l : List Link). HaveDelays {T = ℤ} l []) first here)
  fifos_again pre rest i (f ∷ fifos) links (line ∷ left) long once here =
      let kept = all_kept g nothing f in
      let first : from_number i of_fifo (f ∷ fifos) ++ links ≡ link_of graphs g values f ∷ (from_number (i + 1) of_fifo fifos ++ links) = rw kept refl in
      let begun = subst (λ (l : List Link). HaveDelays l (line ∷ left)) first here in
      let on : List ℤ = goes_on f.life line in
      let states : List (List ℤ) = fifo_states g fifos left ++ rest in
      let more = fifos_again (pre ++ on ∷ []) rest (i + 1) fifos links left (longer pre on i long) (All-tail BeginsOnce f fifos once) begun.1 in
      let head : begins_with f.life f.delay (tokens_at (pre ++ (on ∷ states)) i) ≡ line = ap (begins_with f.life f.delay) (at_after pre on states i long) ∙ again f.life f.delay line (All-head BeginsOnce f fifos once) begun.0 in
      let left_on : List (List ℤ) = drop (length (filter (is_kept g) fifos)) left in
      let tail : fifo_starts g (pre ++ (on ∷ states)) (i + 1) fifos ++ left_on ≡ left = ap (λ (l : List (List ℤ)). fifo_starts g l (i + 1) fifos ++ left_on) (one_more pre on states) ∙ more.0 in
      let states_are : fifo_states g (f ∷ fifos) (line ∷ left) ≡ on ∷ fifo_states g fifos left = rw kept refl in
      let left_at : List (List ℤ) = drop (length (filter (is_kept g) (f ∷ fifos))) (line ∷ left) in
      let those : fifo_starts g (pre ++ (on ∷ states)) i (f ∷ fifos) ++ left_at ≡ line ∷ left = rw kept (ap₂ (λ (x : List ℤ) (xs : List (List ℤ)). x ∷ xs) head tail) in
      (ap (λ (l : List (List ℤ)). fifo_starts g (pre ++ (l ++ rest)) i (f ∷ fifos) ++ left_at) states_are ∙ those, rw kept more.1)

  actors_again : (pre : List (List ℤ)) (a : ℕ) (actors : List Actor) (left : List (List ℤ)) → NoneConfigures actors → length pre ≡ length g.fifos + a → HaveDelays (from_number a of_state actors) left →
      actor_starts graphs g (pre ++ actor_states graphs actors [] left) a actors ≡ left
  actors_again pre a [] [] none long here = refl
  actors_again pre a [] (l ∷ left) none long here = absurd here
  actors_again pre a (x ∷ actors) left none long here =
      let P : List Link → Type 0 = λ l. HaveDelays l left in
      ⊎_elim
      (λ (has : has_state graphs x ≡ true).
      let first : from_number a of_state (x ∷ actors) ≡ state_link graphs g a x.body ∷ from_number (a + 1) of_state actors = rw has refl in
      held (λ pre left long begun. actors_again pre (a + 1) actors left (others_configure_nothing x actors none) long begun) has left (subst P first here))
      (λ (without : has_state graphs x ≡ false).
      let first : from_number a of_state (x ∷ actors) ≡ from_number (a + 1) of_state actors = rw without refl in
      let none_held : List ℤ = [] in
      let states : List (List ℤ) = actor_states graphs actors [] left in
      let more = actors_again (pre ++ none_held ∷ []) (a + 1) actors left (others_configure_nothing x actors none) (longer pre none_held (length g.fifos + a) long ∙ (let e : length g.fifos + a + 1 ≡ length g.fifos + (a + 1) = omega arith in e)) (subst P first here) in
      let acts = first_configures_nothing x actors none in
      let states_are : actor_states graphs (x ∷ actors) [] left ≡ none_held ∷ states = rw (acts, without) refl in
      let those : actor_starts graphs g (pre ++ (none_held ∷ states)) a (x ∷ actors) ≡ left = rw without (ap (λ (l : List (List ℤ)). actor_starts graphs g l (a + 1) actors) (one_more pre none_held states) ∙ more) in
      ap (λ (l : List (List ℤ)). actor_starts graphs g (pre ++ l) a (x ∷ actors)) states_are ∙ those)
      (cases_Bool (has_state graphs x))
    where
      held : ((pre left : List (List ℤ)) → length pre ≡ length g.fifos + (a + 1) → HaveDelays (from_number (a + 1) of_state actors) left → actor_starts graphs g (pre ++ actor_states graphs actors [] left) (a + 1) actors ≡ left) →
          has_state graphs x ≡ true → (left : List (List ℤ)) → HaveDelays (state_link graphs g a x.body ∷ from_number (a + 1) of_state actors) left → actor_starts graphs g (pre ++ actor_states graphs (x ∷ actors) [] left) a (x ∷ actors) ≡ left
      held on has [] begun = absurd begun
      held on has (line ∷ left) begun =
          let acts = first_configures_nothing x actors none in
          let states : List (List ℤ) = actor_states graphs actors [] left in
          let more = on (pre ++ line ∷ []) left (longer pre line (length g.fifos + a) long ∙ (let e : length g.fifos + a + 1 ≡ length g.fifos + (a + 1) = omega arith in e)) begun.1 in
          let head : tokens_at (pre ++ (line ∷ states)) (length g.fifos + a) ≡ line = at_after pre line states (length g.fifos + a) long in
          let tail : actor_starts graphs g (pre ++ (line ∷ states)) (a + 1) actors ≡ left = ap (λ (l : List (List ℤ)). actor_starts graphs g l (a + 1) actors) (one_more pre line states) ∙ more in
          let states_are : actor_states graphs (x ∷ actors) [] (line ∷ left) ≡ line ∷ states = rw (acts, has) refl in
          let those : actor_starts graphs g (pre ++ (line ∷ states)) a (x ∷ actors) ≡ line ∷ left = rw has (ap₂ (λ (y : List ℤ) (ys : List (List ℤ)). y ∷ ys) head tail) in
          ap (λ (l : List (List ℤ)). actor_starts graphs g (pre ++ l) a (x ∷ actors)) states_are ∙ those

  -- with the state after a firing the links begin with what it left on them
  pub begins_again : All BeginsOnce g.fifos → (left : List (List ℤ)) → HaveDelays (links_of graphs g values) left →
      fifo_starts g (state_after graphs g [] left) 0 g.fifos ++ actor_starts graphs g (state_after graphs g [] left) 0 g.actors ≡ left
  begins_again once left here =
      let states : List (List ℤ) = actor_states graphs g.actors [] (drop (length (filter (is_kept g) g.fifos)) left) in
      let first = fifos_again [] states 0 g.fifos (from_number 0 of_state g.actors) left refl once here in
      let second = actors_again (fifo_states g g.fifos left) 0 g.actors (drop (length (filter (is_kept g) g.fifos)) left) nothing (fifo_states_long g.fifos left ∙ (let e : length g.fifos ≡ length g.fifos + 0 = omega arith in e)) first.1 in
      ap (λ (l : List (List ℤ)). fifo_starts g (state_after graphs g [] left) 0 g.fifos ++ l) second ∙ first.0
