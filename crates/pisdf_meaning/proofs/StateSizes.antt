-- How long the lists of states are.
use Rattle.std.proofs.Common.{◌≡◌, ℕ, zero, suc, ◌+◌, ◌<◌, nat_lt, true, false, ⊎_elim, ℤ, List, [], ◌∷◌, ◌++◌, length, map, get_or, take, drop, drop-cons, slice_get, slice_index, Some, Result, Ok, Err, refl, ap, ap₂, sym, ◌∙◌, subst, arith, length-append}
use Rattle.std.specs.List.{AllByRecursion, filter}
use Rattle.std.proofs.lemmas.Bool.{cases_Bool, ltb-false}
use Rattle.std.proofs.lemmas.List.{get_or-append-add, get_or-map, get_or_append_left, length-drop, length-map, length-take-le, map-append, take_more}
use Rattle.std.proofs.lemmas.Option.{get_or_from_slice_get, slice_get-get_or, slice_get_within}
use Rattle.kernel_gate.specs.Value.{lengths}
use Rattle.param_resolver.specs.LevelOf.{fifo_links, link_of, links_of, state_link, state_links}
use Rattle.param_resolver.specs.Numbering.{has_state, is_kept, state_size}
use Rattle.pisdf_model.specs.Details.{from_number}
use Rattle.pisdf_model.specs.Hold.{actor_state, in_line, initial, kept_in, kept_tokens}
use Rattle.pisdf_model.specs.InterfaceWires.{is_configuration}
use Rattle.pisdf_model.specs.declared.actor.Actor.{Actor}
use Rattle.pisdf_model.specs.declared.actor.Body.{Body}
use Rattle.pisdf_model.specs.declared.actor.Body.TheVariants.{Kernel, Config, Child, ConfigChild}
use Rattle.pisdf_model.specs.declared.fifo.Fifo.{Fifo}
use Rattle.pisdf_model.specs.declared.fifo.Life.{Life}
use Rattle.pisdf_model.specs.declared.fifo.Life.TheVariants.{Firing, Permanent}
use Rattle.pisdf_model.specs.declared.graph.Graph.{Graph}
use Rattle.sdf_level.specs.LevelRun.{HaveDelays}
use Rattle.sdf_level.specs.declared.link.Link.{Link}
use Rattle.pisdf_meaning.specs.Configuring.{Configuration, LeaveAll, Leaves, configurations_from, with_first}
use Rattle.pisdf_meaning.specs.Endings.{Ends, Then}
use Rattle.pisdf_meaning.specs.Running.{actor_starts, actor_states, fifo_starts, fifo_states, state_after, state_of_first}
use Rattle.pisdf_meaning.specs.Sound.{IsConfiguration, actor_at, no_actor}
use Rattle.pisdf_meaning.specs.States.{actor_list, begins_with, cut, goes_on, state_in, tokens_at}
use Rattle.pisdf_meaning.specs.declared.firing.Configured.{Configured}
use Rattle.pisdf_meaning.specs.declared.firing.Firing as firing
use Rattle.pisdf_meaning.specs.declared.refusal.Refusal.{Refusal}
use Rattle.pisdf_meaning.proofs.OneByOne.{count_with, count_without, with_first_one, without_first_one}

-- ---- lists of lists

pub size_at : (lists : List (List ℤ)) (n : ℕ) → length (tokens_at lists n) ≡ slice_index (lengths lists) n
size_at [] n = refl
size_at (x ∷ lists) zero = refl
size_at (x ∷ lists) (suc n) = size_at lists n

pub same_line : (xs ys : List (List ℤ)) → lengths xs ≡ lengths ys → length (in_line xs) ≡ length (in_line ys)
same_line [] [] e = refl
same_line [] (y ∷ ys) e = absurd (cc)
same_line (x ∷ xs) [] e = absurd (cc)
same_line (x ∷ xs) (y ∷ ys) e =
    let first : length x ≡ length y = cc in
    let rest : lengths xs ≡ lengths ys = cc in
    let again = same_line xs ys rest in
    let l = length-append x (in_line xs) in
    let r = length-append y (in_line ys) in
    omega arith

cut_sizes : (lists : List (List ℤ)) (line : List ℤ) → length line ≡ length (in_line lists) → lengths (cut (lengths lists) line) ≡ lengths lists
cut_sizes [] line e = refl
cut_sizes (x ∷ lists) line e =
    let both = length-append x (in_line lists) in
    let left = length-drop (length x) line in
    let here : length (take (length x) line) ≡ length x = length-take-le (length x) line (omega arith) in
    let again = cut_sizes lists (drop (length x) line) (omega arith) in
    ap (λ n. n ∷ lengths (cut (lengths lists) (drop (length x) line))) here ∙ ap (λ (l : List ℕ). length x ∷ l) again

-- a state that stands in a line of the right length
pub state_in_sizes : (graphs : List Graph) (place : ℕ) (line : List ℤ) → length line ≡ length (in_line (initial graphs place)) → lengths (state_in graphs place line) ≡ lengths (initial graphs place)
state_in_sizes graphs place line e = cut_sizes (initial graphs place) line e

-- ---- the lists that a graph begins with

abbrev pub fifo_size : Fifo → ℕ
fifo_size f = length (kept_in f)

abbrev pub actor_size : List Graph → Actor → ℕ
actor_size graphs x = length (actor_state (initial graphs) x.body)

-- each list is as long as that which the graph begins with
pub record StateFits (graphs : List Graph) (g : Graph) (state : List (List ℤ)) : Type 0 where
  pub fifos : (i : ℕ) (f : Fifo) → slice_get g.fifos i ≡ Some f → length (tokens_at state i) ≡ fifo_size f
  pub actors : (a : ℕ) (x : Actor) → slice_get g.actors a ≡ Some x → length (actor_list g state a) ≡ actor_size graphs x

module _ (graphs : List Graph) (g : Graph) where
  abbrev of_actor : Actor → List ℤ
  of_actor x = actor_state (initial graphs) x.body

  abbrev begun : List (List ℤ)
  begun = map kept_in g.fifos ++ map of_actor g.actors

  sizes_of : (fifos : List Fifo) (actors : List Actor) → lengths (map kept_in fifos ++ map of_actor actors) ≡ map fifo_size fifos ++ map (actor_size graphs) actors
  sizes_of [] [] = refl
  sizes_of [] (x ∷ actors) = ap (λ (l : List ℕ). actor_size graphs x ∷ l) (sizes_of [] actors)
  sizes_of (f ∷ fifos) actors = ap (λ (l : List ℕ). fifo_size f ∷ l) (sizes_of fifos actors)

  pub begun_sizes : (place : ℕ) → initial graphs place ≡ begun → lengths (initial graphs place) ≡ map fifo_size g.fifos ++ map (actor_size graphs) g.actors
  begun_sizes place e = ap lengths e ∙ sizes_of g.fifos g.actors

  pub state_fits : (state : List (List ℤ)) → lengths state ≡ lengths begun → StateFits graphs g state
  state_fits state e = record {
    fifos = λ i f is.
        let inside = slice_get_within g.fifos i f is in
        size_at state i ∙ ap (λ (l : List ℕ). slice_index l i) e ∙ sym (size_at begun i)
        ∙ ap (λ (l : List ℤ). length l) (get_or_append_left (map kept_in g.fifos) (map of_actor g.actors) [] i (rw (length-map {A = Fifo}) inside) ∙ get_or-map kept_in g.fifos i f [] inside ∙ ap kept_in (get_or_from_slice_get g.fifos i f f is));
    actors = λ a x is.
        let inside = slice_get_within g.actors a x is in
        let long = length-map g.fifos kept_in in
        size_at state (length g.fifos + a) ∙ ap (λ (l : List ℕ). slice_index l (length g.fifos + a)) e ∙ sym (size_at begun (length g.fifos + a))
        ∙ ap (λ (l : List ℤ). length l) (ap (λ n. get_or begun (n + a) []) (sym long) ∙ get_or-append-add (map kept_in g.fifos) (map of_actor g.actors) a [] ∙ get_or-map of_actor g.actors a x [] inside ∙ ap of_actor (get_or_from_slice_get g.actors a x x is));
  }

-- ---- with what the links begin

append_delays : (xs ys : List Link) (ls ms : List (List ℤ)) → HaveDelays xs ls → HaveDelays ys ms → HaveDelays (xs ++ ys) (ls ++ ms)
append_delays [] ys [] ms f h = h
append_delays [] ys (l ∷ ls) ms f h = absurd f
append_delays (x ∷ xs) ys [] ms f h = absurd f
append_delays (x ∷ xs) ys (l ∷ ls) ms f h = (f.0, append_delays xs ys ls ms f.1 h)

begins_long : (life : Life) (delay kept : List ℤ) → length kept ≡ length (kept_tokens life delay) → length (begins_with life delay kept) ≡ length delay
begins_long Firing delay kept e = refl
begins_long Permanent delay kept e = e

state_held : (graphs : List Graph) (body : Body) → nat_lt 0 (state_size graphs body) ≡ true → length (actor_state (initial graphs) body) ≡ state_size graphs body
state_held graphs (Kernel kernel args ins outs) some = absurd (cc)
state_held graphs (Config kernel args ins outs sets) some = absurd (cc)
state_held graphs (Child place args) some = refl
state_held graphs (ConfigChild place args sets) some = absurd (cc)

module _ (graphs : List Graph) (g : Graph) (values : List ℤ) where
  abbrev of_fifo : ℕ → Fifo → List Link
  of_fifo i f = fifo_links graphs g values f

  abbrev of_state : ℕ → Actor → List Link
  of_state a x = state_links graphs g a x

  module _ (state : List (List ℤ)) where
    fifo_delays : (i : ℕ) (fifos : List Fifo) → ((j : ℕ) (f : Fifo) → slice_get fifos j ≡ Some f → length (tokens_at state (i + j)) ≡ fifo_size f) → HaveDelays (from_number i of_fifo fifos) (fifo_starts g state i fifos)
    fifo_delays i [] fit = tt
    fifo_delays i (f ∷ fifos) fit =
        let again = fifo_delays (i + 1) fifos (λ j x is. let e : (i + 1) + j ≡ i + suc j = omega arith in ap (λ n. length (tokens_at state n)) e ∙ fit (suc j) x is) in
        ⊎_elim
        (λ (kept : is_kept g f ≡ true).
        let zeroth : i ≡ i + 0 = omega arith in
        rw kept (begins_long f.life f.delay (tokens_at state i) (ap (λ n. length (tokens_at state n)) zeroth ∙ fit 0 f refl), again))
        (λ (none : is_kept g f ≡ false). rw none again)
        (cases_Bool (is_kept g f))

    actor_delays : (a : ℕ) (actors : List Actor) → ((j : ℕ) (x : Actor) → slice_get actors j ≡ Some x → length (actor_list g state (a + j)) ≡ actor_size graphs x) → HaveDelays (from_number a of_state actors) (actor_starts graphs g state a actors)
    actor_delays a [] fit = tt
    actor_delays a (x ∷ actors) fit =
        let again = actor_delays (a + 1) actors (λ j y is. let e : (a + 1) + j ≡ a + suc j = omega arith in ap (λ n. length (actor_list g state n)) e ∙ fit (suc j) y is) in
        ⊎_elim
        (λ (has : has_state graphs x ≡ true).
        let zeroth : a ≡ a + 0 = omega arith in
        rw has (ap (λ n. length (actor_list g state n)) zeroth ∙ fit 0 x refl ∙ state_held graphs x.body has, again))
        (λ (none : has_state graphs x ≡ false). rw none again)
        (cases_Bool (has_state graphs x))

    pub starts_fit : StateFits graphs g state → HaveDelays (links_of graphs g values) (fifo_starts g state 0 g.fifos ++ actor_starts graphs g state 0 g.actors)
    starts_fit fit =
        append_delays (from_number 0 of_fifo g.fifos) (from_number 0 of_state g.actors) (fifo_starts g state 0 g.fifos) (actor_starts graphs g state 0 g.actors)
        (fifo_delays 0 g.fifos (λ j f is. let e : 0 + j ≡ j = omega arith in ap (λ n. length (tokens_at state n)) e ∙ fit.fifos j f is))
        (actor_delays 0 g.actors (λ j x is. let e : 0 + j ≡ j = omega arith in ap (λ n. length (actor_list g state n)) e ∙ fit.actors j x is))

  -- ---- what is left on them

  goes_long : (life : Life) (delay left : List ℤ) → length left ≡ length delay → length (goes_on life left) ≡ length (kept_tokens life delay)
  goes_long Firing delay left e = refl
  goes_long Permanent delay left e = e

  -- a list for the first link, and lists for the others
  pub record Split (link : Link) (links : List Link) (left : List (List ℤ)) : Type 0 where
    pub one : List ℤ
    pub rest : List (List ℤ)
    pub is : left ≡ one ∷ rest
    pub long : length one ≡ link.delay
    pub others : HaveDelays links rest

  split : (link : Link) (links : List Link) (left : List (List ℤ)) → HaveDelays (link ∷ links) left → Split link links left
  split link links [] f = absurd f
  split link links (l ∷ left) f = record { one = l; rest = left; is = refl; long = f.0; others = f.1 }

  fifos_left : (i : ℕ) (fifos : List Fifo) (links : List Link) (left : List (List ℤ)) → AllByRecursion (λ (f : Fifo). is_kept g f ≡ false → length f.delay ≡ 0) fifos → HaveDelays (from_number i of_fifo fifos ++ links) left →
      (lengths (fifo_states g fifos left) ≡ map fifo_size fifos) × HaveDelays links (drop (length (filter (is_kept g) fifos)) left)
  fifos_left i [] links left none here = (refl, here)
  fifos_left i (f ∷ fifos) links left none here = ⊎_elim
      (λ (kept : is_kept g f ≡ true).
      let P : List Link → Type 0 = λ l. HaveDelays l left in
      let first : from_number i of_fifo (f ∷ fifos) ++ links ≡ link_of graphs g values f ∷ (from_number (i + 1) of_fifo fifos ++ links) = rw kept refl in
      let s = split (link_of graphs g values f) (from_number (i + 1) of_fifo fifos ++ links) left (subst P first here) in
      let again = fifos_left (i + 1) fifos links s.rest none.1 s.others in
      let head : length (goes_on f.life s.one) ≡ fifo_size f = goes_long f.life f.delay s.one s.long in
      (rw (kept, s.is) (ap (λ n. n ∷ lengths (fifo_states g fifos s.rest)) head ∙ ap (λ (l : List ℕ). fifo_size f ∷ l) again.0), rw (kept, s.is) again.1))
      (λ (other : is_kept g f ≡ false).
      let P : List Link → Type 0 = λ l. HaveDelays l left in
      let first : from_number i of_fifo (f ∷ fifos) ++ links ≡ from_number (i + 1) of_fifo fifos ++ links = rw other refl in
      let again = fifos_left (i + 1) fifos links left none.1 (subst P first here) in
      let head : 0 ≡ fifo_size f = no_tokens f.life f.delay (none.0 other) in
      (rw other (ap (λ n. n ∷ lengths (fifo_states g fifos left)) head ∙ ap (λ (l : List ℕ). fifo_size f ∷ l) again.0), rw other again.1))
      (cases_Bool (is_kept g f))
    where
      no_tokens : (life : Life) (delay : List ℤ) → length delay ≡ 0 → 0 ≡ length (kept_tokens life delay)
      no_tokens Firing delay e = refl
      no_tokens Permanent delay e = sym e

  no_held : (body : Body) → is_configuration body ≡ false → nat_lt 0 (state_size graphs body) ≡ false → length (actor_state (initial graphs) body) ≡ 0
  no_held (Kernel kernel args ins outs) acts none = refl
  no_held (Config kernel args ins outs sets) acts none = refl
  no_held (Child place args) acts none = let least = ltb-false 0 (state_size graphs (Child place args)) none in omega arith
  no_held (ConfigChild place args sets) acts none = absurd (cc)

  config_none : (body : Body) → is_configuration body ≡ true → nat_lt 0 (state_size graphs body) ≡ false
  config_none (Kernel kernel args ins outs) is = absurd (cc)
  config_none (Config kernel args ins outs sets) is = refl
  config_none (Child place args) is = absurd (cc)
  config_none (ConfigChild place args sets) is = refl

  -- each state that is left is as long as that with which its graph begins
  abbrev pub StatesLong : List Configuration → List Configured → Type 0
  StatesLong cs configured = map (λ (one : Configured). length one.state) configured ≡ map (λ (c : Configuration). length (actor_state (initial graphs) c.body)) cs

  first_state : (size : ℕ) (rest : List ℕ) (configured : List Configured) → map (λ (one : Configured). length one.state) configured ≡ size ∷ rest → (length (state_of_first configured) ≡ size) × (map (λ (one : Configured). length one.state) (drop 1 configured) ≡ rest)
  first_state size rest [] e = absurd (cc)
  first_state size rest (one ∷ configured) e = (cc, cc)

  actors_left : (c a : ℕ) (actors : List Actor) (configured : List Configured) (left : List (List ℤ)) → StatesLong (configurations_from c a actors) configured → HaveDelays (from_number a of_state actors) left → lengths (actor_states graphs actors configured left) ≡ map (actor_size graphs) actors
  actors_left c a [] configured left all links = refl
  actors_left c a (x ∷ actors) configured left all links =
      let P : List Link → Type 0 = λ l. HaveDelays l left in
      ⊎_elim
      (λ (is : is_configuration x.body ≡ true).
      let none : has_state graphs x ≡ false = config_none x.body is in
      let links' : HaveDelays (from_number (a + 1) of_state actors) left = let e : from_number a of_state (x ∷ actors) ≡ from_number (a + 1) of_state actors = rw none refl in subst P e links in
      let first : configurations_from c a (x ∷ actors) ≡ record { number = c; place = a; name = x.name; body = x.body } ∷ configurations_from (c + 1) (a + 1) actors = rw is refl in
      let s = first_state (actor_size graphs x) (map (λ (k : Configuration). length (actor_state (initial graphs) k.body)) (configurations_from (c + 1) (a + 1) actors)) configured (all ∙ ap (map (λ (k : Configuration). length (actor_state (initial graphs) k.body))) first) in
      let again = actors_left (c + 1) (a + 1) actors (drop 1 configured) left s.1 links' in
      rw is (ap₂ (λ (n : ℕ) (l : List ℕ). n ∷ l) s.0 again))
      (λ (acts : is_configuration x.body ≡ false).
      let others : configurations_from c a (x ∷ actors) ≡ configurations_from c (a + 1) actors = rw acts refl in
      let all' : StatesLong (configurations_from c (a + 1) actors) configured = all ∙ ap (map (λ (k : Configuration). length (actor_state (initial graphs) k.body))) others in
      ⊎_elim
      (λ (has : has_state graphs x ≡ true).
      let first : from_number a of_state (x ∷ actors) ≡ state_link graphs g a x.body ∷ from_number (a + 1) of_state actors = rw has refl in
      let s = split (state_link graphs g a x.body) (from_number (a + 1) of_state actors) left (subst P first links) in
      let head : length s.one ≡ actor_size graphs x = s.long ∙ sym (state_held graphs x.body has) in
      let again = actors_left c (a + 1) actors configured s.rest all' s.others in
      rw (acts, has, s.is) (ap₂ (λ (n : ℕ) (l : List ℕ). n ∷ l) head again))
      (λ (none : has_state graphs x ≡ false).
      let first : from_number a of_state (x ∷ actors) ≡ from_number (a + 1) of_state actors = rw none refl in
      let head : 0 ≡ actor_size graphs x = sym (no_held x.body acts none) in
      let again = actors_left c (a + 1) actors configured left all' (subst P first links) in
      rw (acts, none) (ap₂ (λ (n : ℕ) (l : List ℕ). n ∷ l) head again))
      (cases_Bool (has_state graphs x)))
      (cases_Bool (is_configuration x.body))

  -- the state after a firing
  pub state_long : AllByRecursion (λ (f : Fifo). is_kept g f ≡ false → length f.delay ≡ 0) g.fifos → (configured : List Configured) (left : List (List ℤ)) → StatesLong (configurations_from 0 0 g.actors) configured → HaveDelays (links_of graphs g values) left → lengths (state_after graphs g configured left) ≡ map fifo_size g.fifos ++ map (actor_size graphs) g.actors
  state_long none configured left all links =
      let first = fifos_left 0 g.fifos (from_number 0 of_state g.actors) left none links in
      let second = actors_left 0 0 g.actors configured (drop (length (filter (is_kept g) g.fifos)) left) all first.1 in
      map-append (λ (l : List ℤ). length l) (fifo_states g g.fifos left) (actor_states graphs g.actors configured (drop (length (filter (is_kept g) g.fifos)) left))
      ∙ ap (λ (l : List ℕ). l ++ lengths (actor_states graphs g.actors configured (drop (length (filter (is_kept g) g.fifos)) left))) first.0
      ∙ ap (λ (l : List ℕ). map fifo_size g.fifos ++ l) second

  -- ---- what configuration actors leave

  module _ (ends : Ends) (firing : firing.Firing) where
    pub record Leaving (c : Configuration) (rest : List Configuration) (all : List Configured) : Type 0 where
      pub one : Configured
      pub more : List Configured
      pub is : all ≡ one ∷ more
      pub leaves : Leaves graphs ends g firing c c.body (Ok one)
      pub others : LeaveAll graphs ends g firing rest (Ok more)

    pub leaving : (c : Configuration) (rest : List Configuration) (all : List Configured) → LeaveAll graphs ends g firing (c ∷ rest) (Ok all) → Leaving c rest all
    leaving c rest all f = of_left f.0 f.1 f.2
      where
        of_others : (one : Configured) → Leaves graphs ends g firing c c.body (Ok one) → (others : Result (List Configured) Refusal) → LeaveAll graphs ends g firing rest others → Ok all ≡ with_first one others → Leaving c rest all
        of_others one leaves (Ok more) others e = record { one = one; more = more; is = cc; leaves = leaves; others = others }
        of_others one leaves (Err refusal) others e = absurd (cc)

        of_left : (left : Result Configured Refusal) → Leaves graphs ends g firing c c.body left →
            Then (λ one all. (others : Result (List Configured) Refusal) × LeaveAll graphs ends g firing rest others × (all ≡ with_first one others)) left (Ok all) → Leaving c rest all
        of_left (Ok one) leaves next = of_others one leaves next.0 next.1 next.2
        of_left (Err refusal) leaves next = absurd (cc)

    -- each leaves a state as long as that with which its graph begins
    abbrev LeavesSizes : Type 0
    LeavesSizes = (number a : ℕ) (x : Actor) (one : Configured) → IsConfiguration g number a → slice_get g.actors a ≡ Some x →
        Leaves graphs ends g firing (record { number = number; place = a; name = x.name; body = x.body }) x.body (Ok one) → length one.state ≡ actor_size graphs x

    -- so they leave states of these lengths
    states_long : LeavesSizes → (c a : ℕ) (actors : List Actor) (configured : List Configured) → drop a g.actors ≡ actors → c ≡ length (configurations_from 0 0 (take a g.actors)) →
        LeaveAll graphs ends g firing (configurations_from c a actors) (Ok configured) → StatesLong (configurations_from c a actors) configured
    states_long sized c a [] configured here number all = let e : configured ≡ [] = cc in ap (map (λ (one : Configured). length one.state)) e
    states_long sized c a (x ∷ actors) configured here number all =
        let inside : a < length g.actors = past_end g.actors a x actors here in
        let now = drop-cons g.actors a no_actor inside in
        let own : actor_at g a ≡ x = let e : actor_at g a ∷ drop (suc a) g.actors ≡ x ∷ actors = sym now ∙ here in cc in
        let rest : drop (a + 1) g.actors ≡ actors = let e : actor_at g a ∷ drop (suc a) g.actors ≡ x ∷ actors = sym now ∙ here in let f : drop (suc a) g.actors ≡ actors = cc in ap (λ n. drop n g.actors) (let k : a + 1 ≡ suc a = omega arith in k) ∙ f in
        let there : slice_get g.actors a ≡ Some x = slice_get-get_or g.actors a no_actor inside ∙ ap Some own in
        let take_one = take_more g.actors a no_actor inside in
        let Q : List Configuration → Type 0 = λ l. LeaveAll graphs ends g firing l (Ok configured) in
        let R : List Configuration → Type 0 = λ l. StatesLong l configured in
        ⊎_elim
        (λ (is : is_configuration x.body ≡ true).
        let s = leaving (record { number = c; place = a; name = x.name; body = x.body }) (configurations_from (c + 1) (a + 1) actors) configured (subst Q (with_first_one c a x actors is) all) in
        let body_is : is_configuration (actor_at g a).body ≡ true = ap (λ (y : Actor). is_configuration y.body) own ∙ is in
        let head : length s.one.state ≡ actor_size graphs x = sized c a x s.one record { inside = inside; is = body_is; number_is = number } there s.leaves in
        let count : c + 1 ≡ length (configurations_from 0 0 (take (a + 1) g.actors)) = let m = count_with 0 0 (take a g.actors) (actor_at g a) body_is in let t = ap (λ (l : List Actor). length (configurations_from 0 0 l)) take_one in omega arith in
        let again = states_long sized (c + 1) (a + 1) actors s.more rest count s.others in
        subst R (sym (with_first_one c a x actors is)) (ap (map (λ (one : Configured). length one.state)) s.is ∙ ap₂ (λ (n : ℕ) (l : List ℕ). n ∷ l) head again))
        (λ (acts : is_configuration x.body ≡ false).
        let body_is : is_configuration (actor_at g a).body ≡ false = ap (λ (y : Actor). is_configuration y.body) own ∙ acts in
        let count : c ≡ length (configurations_from 0 0 (take (a + 1) g.actors)) = let m = count_without 0 0 (take a g.actors) (actor_at g a) body_is in let t = ap (λ (l : List Actor). length (configurations_from 0 0 l)) take_one in omega arith in
        let again = states_long sized c (a + 1) actors configured rest count (subst Q (without_first_one c a x actors acts) all) in
        subst R (sym (without_first_one c a x actors acts)) again)
        (cases_Bool (is_configuration x.body))
      where
        past_end : {X : Type 0} (xs : List X) (n : ℕ) (y : X) (ys : List X) → drop n xs ≡ y ∷ ys → n < length xs
        past_end [] zero y ys e = absurd (cc)
        past_end [] (suc n) y ys e = absurd (cc)
        past_end (z ∷ xs) zero y ys e = omega arith
        past_end (z ∷ xs) (suc n) y ys e = let again = past_end xs n y ys e in omega arith

    -- the state after a firing
    pub state_left : LeavesSizes → (configured : List Configured) (left : List (List ℤ)) → AllByRecursion (λ (f : Fifo). is_kept g f ≡ false → length f.delay ≡ 0) g.fifos →
        LeaveAll graphs ends g firing (configurations_from 0 0 g.actors) (Ok configured) → HaveDelays (links_of graphs g values) left → lengths (state_after graphs g configured left) ≡ map fifo_size g.fifos ++ map (actor_size graphs) g.actors
    state_left sized configured left none all links = state_long none configured left (states_long sized 0 0 g.actors configured refl refl all) links
