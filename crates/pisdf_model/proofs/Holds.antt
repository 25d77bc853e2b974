-- How many tokens go on in a graph, counted over its own delays and its children.
use Rattle.std.proofs.Common.{◌≡◌, ℕ, zero, suc, ◌+◌, ◌≤◌, ◌==◌, ◌&&◌, ◌||◌, ℤ, Bool, false, nat_lt, List, [], ◌∷◌, ◌++◌, length, map, Option, Some, None, refl, sym, ap, ◌∙◌, ⊎_elim, ◌<◌, add-one, arith, get_or, replicate}
use Rattle.std.specs.Prelude.{slice_get, slice_index_or, sum_by}
use Rattle.std.specs.List.{flat_map, list_any, range_with_len}
use Rattle.std.proofs.lemmas.Bool.{cases_lt, lt-ltb, ltb-true}
use Rattle.std.proofs.lemmas.List.{get_or_past, get_or_read, length-map}
use Rattle.std.proofs.lemmas.List.Concat.{length-flat_map}
use Rattle.std.proofs.lemmas.List.FromFn.{get_or-map-range_with_len, length-map-range_with_len, map-range_with_len_more}
use Rattle.std.proofs.lemmas.List.Sums.{sum_by-append, sum_by-cons}
use Rattle.pisdf_model.specs.Arrows.{to_of}
use Rattle.pisdf_model.specs.Hold.{actor_state, capped_hold, graph_state, has_large_hold, hold, hold_limit, hold_over, in_line, initial_to, is_held, is_large, is_named, kept_in, own_hold}
use Rattle.pisdf_model.specs.Nesting.{children, children_of, nesting_limit}
use Rattle.pisdf_model.specs.declared.actor.Actor.{Actor}
use Rattle.pisdf_model.specs.declared.actor.Body.{Body}
use Rattle.pisdf_model.specs.declared.actor.Body.TheVariants.{Kernel, Config, Child, ConfigChild}
use Rattle.pisdf_model.specs.declared.graph.Graph.{Graph}
use Rattle.pisdf_model.specs.Count.{counts_of, excess_of, graph_counts}
use Rattle.pisdf_model.specs.Details.{first}
use Rattle.pisdf_model.specs.declared.counting.Counted.{Counted}
use Rattle.pisdf_model.proofs.Alike.{of_mapped}
use Rattle.pisdf_model.proofs.Cycles.{same_test}

-- ---- sums

sum_same : {X : Type 0} (f g : X → ℕ) → ((x : X) → f x ≡ g x) → (xs : List X) → sum_by f xs ≡ sum_by g xs
sum_same f g same [] = refl
sum_same f g same (x ∷ xs) = sum_by-cons f x xs ∙ ap (λ n. n + sum_by f xs) (same x) ∙ ap (λ n. g x + n) (sum_same f g same xs) ∙ sym (sum_by-cons g x xs)

sum_mapped : {X Y : Type 0} (f : Y → ℕ) (m : X → Y) (xs : List X) → sum_by f (map m xs) ≡ sum_by (λ x. f (m x)) xs
sum_mapped f m [] = refl
sum_mapped f m (x ∷ xs) = sum_by-cons f (m x) (map m xs) ∙ ap (λ n. f (m x) + n) (sum_mapped f m xs) ∙ sym (sum_by-cons (λ x. f (m x)) x xs)

sum_flat : {X : Type 0} (h : ℕ → ℕ) (f : X → List ℕ) (xs : List X) → sum_by (λ x. sum_by h (f x)) xs ≡ sum_by h (flat_map f xs)
sum_flat h f [] = refl
sum_flat h f (x ∷ xs) = sum_by-cons (λ x. sum_by h (f x)) x xs ∙ ap (λ n. sum_by h (f x) + n) (sum_flat h f xs) ∙ sym (sum_by-append h (f x) (flat_map f xs))

line_length : (state : List (List ℤ)) → length (in_line state) ≡ sum_by (λ tokens. length tokens) state
line_length state = length-flat_map (λ tokens. tokens) state

-- ---- the tokens of a state

pub actor_length : (states : ℕ → List (List ℤ)) (body : Body) → length (actor_state states body) ≡ sum_by (λ k. length (in_line (states k))) (children_of body)
actor_length states (Kernel kernel args ins outs) = refl
actor_length states (Config kernel args ins outs sets) = refl
actor_length states (Child graph args) = omega arith
actor_length states (ConfigChild graph args sets) = omega arith

graph_length : (states : ℕ → List (List ℤ)) (g : Graph) → length (in_line (graph_state states (Some g))) ≡ own_hold g + sum_by (λ k. length (in_line (states k))) (children g)
graph_length states g =
    let fifos = map kept_in g.fifos in
    let actors = map (λ (a : Actor). actor_state states a.body) g.actors in
    let size : List ℤ → ℕ = λ tokens. length tokens in
    let held : ℕ → ℕ = λ k. length (in_line (states k)) in
    line_length (fifos ++ actors)
    ∙ sum_by-append size fifos actors
    ∙ ap (λ n. n + sum_by size actors) (sum_mapped size kept_in g.fifos)
    ∙ ap (λ n. own_hold g + n) (sum_mapped size (λ (a : Actor). actor_state states a.body) g.actors
    ∙ sum_same (λ (a : Actor). length (actor_state states a.body)) (λ (a : Actor). sum_by held (children_of a.body)) (λ a. actor_length states a.body) g.actors
    ∙ sum_flat held (λ (a : Actor). children_of a.body) g.actors)

hold_here : (states : ℕ → List (List ℤ)) (held : ℕ → ℕ) → ((k : ℕ) → length (in_line (states k)) ≡ held k) → (graphs : List Graph) (place : ℕ)
    → length (in_line (graph_state states (slice_get graphs place))) ≡ slice_index_or (map own_hold graphs) place 0 + sum_by held (to_of (map children graphs) place)
hold_here states held same [] place = refl
hold_here states held same (g ∷ graphs) zero = graph_length states g ∙ ap (λ n. own_hold g + n) (sum_same (λ k. length (in_line (states k))) held same (children g))
hold_here states held same (g ∷ graphs) (suc place) = hold_here states held same graphs place

pub held_tokens : (graphs : List Graph) (n place : ℕ) → length (in_line (initial_to graphs n place)) ≡ hold_over (map own_hold graphs) (map children graphs) n place
unfolding initial_to hold_over
held_tokens graphs zero place = refl
held_tokens graphs (suc n) place = hold_here (initial_to graphs n) (hold_over (map own_hold graphs) (map children graphs) n) (held_tokens graphs n) graphs place

-- ---- numbers counted to the limit

capped_add : (a b : ℕ) → capped_hold (capped_hold a + capped_hold b) ≡ capped_hold (a + b)
capped_add a b = omega arith

-- two sums whose terms are the same to the limit
capped_sums : (f g : ℕ → ℕ) → ((k : ℕ) → capped_hold (f k) ≡ capped_hold (g k)) → (xs : List ℕ) → capped_hold (sum_by f xs) ≡ capped_hold (sum_by g xs)
capped_sums f g same [] = refl
capped_sums f g same (x ∷ xs) =
    ap capped_hold (sum_by-cons f x xs)
    ∙ sym (capped_add (f x) (sum_by f xs))
    ∙ ap (λ n. capped_hold (n + capped_hold (sum_by f xs))) (same x)
    ∙ ap (λ n. capped_hold (capped_hold (g x) + n)) (capped_sums f g same xs)
    ∙ capped_add (g x) (sum_by g xs)
    ∙ ap capped_hold (sym (sum_by-cons g x xs))

capped_both : (a b c d : ℕ) → capped_hold a ≡ capped_hold c → capped_hold b ≡ capped_hold d → capped_hold (a + b) ≡ capped_hold (c + d)
capped_both a b c d first second = sym (capped_add a b) ∙ ap (λ n. capped_hold (n + capped_hold b)) first ∙ ap (λ n. capped_hold (capped_hold c + n)) second ∙ capped_add c d

pub over_capped : (n : ℕ) → nat_lt hold_limit (capped_hold n) ≡ nat_lt hold_limit n
over_capped n = same_test (nat_lt hold_limit (capped_hold n)) (nat_lt hold_limit n) (
  λ over. lt-ltb hold_limit n (let less = ltb-true hold_limit (capped_hold n) over in omega arith),
  λ over. lt-ltb hold_limit (capped_hold n) (let less = ltb-true hold_limit n over in omega arith),
)

read_capped : (own : List ℕ) (place : ℕ) → capped_hold (slice_index_or (map capped_hold own) place 0) ≡ capped_hold (slice_index_or own place 0)
read_capped [] place = refl
read_capped (x ∷ own) zero = omega arith
read_capped (x ∷ own) (suc place) = read_capped own place

held_capped : (own : List ℕ) (holds : List (List ℕ)) (n place : ℕ) → capped_hold (hold_over (map capped_hold own) holds n place) ≡ capped_hold (hold_over own holds n place)
unfolding hold_over
held_capped own holds zero place = refl
held_capped own holds (suc n) place =
    capped_both (slice_index_or (map capped_hold own) place 0) (sum_by (hold_over (map capped_hold own) holds n) (to_of holds place)) (slice_index_or own place 0) (sum_by (hold_over own holds n) (to_of holds place))
    (read_capped own place)
    (capped_sums (hold_over (map capped_hold own) holds n) (hold_over own holds n) (held_capped own holds n) (to_of holds place))

-- a graph's own tokens may be counted to the limit
pub large_capped : (own : List ℕ) (holds : List (List ℕ)) (place : ℕ) → is_large (map capped_hold own) holds place ≡ is_large own holds place
large_capped own holds place =
    ap (λ over. is_held holds place && over)
    (sym (over_capped (hold_over (map capped_hold own) holds nesting_limit place)) ∙ ap (nat_lt hold_limit) (held_capped own holds nesting_limit place) ∙ over_capped (hold_over own holds nesting_limit place))

-- ---- graphs whose state begins with too many tokens

named_held : (graphs : List Graph) (place : ℕ) → is_named graphs place ≡ is_held (map children graphs) place
named_held [] place = refl
named_held (g ∷ graphs) place = ap (λ rest. list_any (λ child. child == place) (children g) || rest) (named_held graphs place)

pub large_hold : (graphs : List Graph) (place : ℕ) → has_large_hold graphs place ≡ is_large (map own_hold graphs) (map children graphs) place
large_hold graphs place =
    ap (λ named. named && nat_lt hold_limit (hold graphs place)) (named_held graphs place)
    ∙ ap (λ n. is_held (map children graphs) place && nat_lt hold_limit n) (held_tokens graphs nesting_limit place)

-- ---- level by level

map_same : {X : Type 0} (f g : ℕ → X) → ((x : ℕ) → f x ≡ g x) → (xs : List ℕ) → map f xs ≡ map g xs
map_same f g same [] = refl
map_same f g same (x ∷ xs) = ap (λ y. y ∷ map f xs) (same x) ∙ ap (λ ys. g x ∷ ys) (map_same f g same xs)

module _ (own : List ℕ) (arrows : List (List ℕ)) (long : length own ≡ length arrows) where
  outside : (n place : ℕ) → length arrows ≤ place → hold_over own arrows n place ≡ 0
  unfolding hold_over
  outside zero place past = refl
  outside (suc n) place past = rw (get_or_past own place 0 (omega arith), get_or_past arrows place [] past) refl

  -- what each graph holds over n levels
  abbrev pub level : ℕ → List ℕ
  level n = map (λ place. capped_hold (hold_over own arrows n place)) (range_with_len 0 (length arrows))

  read_level : (n place : ℕ) → get_or (level n) place 0 ≡ capped_hold (hold_over own arrows n place)
  read_level n place =
      ⊎_elim
      (λ (inside : place < length arrows). get_or-map-range_with_len (λ place. capped_hold (hold_over own arrows n place)) 0 (length arrows) place place 0 inside (omega arith))
      (λ (past : length arrows ≤ place). get_or_past (level n) place 0 (rw (length-map-range_with_len (λ place. capped_hold (hold_over own arrows n place)) 0 (length arrows)) past) ∙ ap capped_hold (sym (outside n place past)))
      (cases_lt place (length arrows))

  one_place : (n place : ℕ) → capped_hold (get_or own place 0 + sum_by (λ k. get_or (level n) k 0) (to_of arrows place)) ≡ capped_hold (hold_over own arrows (suc n) place)
  unfolding hold_over
  one_place n place =
      capped_both (get_or own place 0) (sum_by (λ k. get_or (level n) k 0) (to_of arrows place)) (get_or own place 0) (sum_by (hold_over own arrows n) (to_of arrows place)) refl
      (capped_sums (λ k. get_or (level n) k 0) (hold_over own arrows n) (λ k. ap capped_hold (read_level n k) ∙ (omega arith)) (to_of arrows place))

  pub next_level : (n : ℕ) (holds : List ℕ) → holds ≡ level n → map (λ place. capped_hold (get_or own place 0 + sum_by (λ k. get_or holds k 0) (to_of arrows place))) (range_with_len 0 (length arrows)) ≡ level (n + 1)
  next_level n holds is =
      ap (λ (hs : List ℕ). map (λ place. capped_hold (get_or own place 0 + sum_by (λ k. get_or hs k 0) (to_of arrows place))) (range_with_len 0 (length arrows))) is
      ∙ map_same (λ place. capped_hold (get_or own place 0 + sum_by (λ k. get_or (level n) k 0) (to_of arrows place))) (λ place. capped_hold (hold_over own arrows (n + 1) place))
      (λ place. one_place n place ∙ ap (λ k. capped_hold (hold_over own arrows k place)) (sym (add-one n))) (range_with_len 0 (length arrows))

  pub first_level : replicate (length arrows) 0 ≡ level 0
  unfolding hold_over
  first_level = from 0 (length arrows)
    where
      from : (a n : ℕ) → replicate n 0 ≡ map (λ place. capped_hold (hold_over own arrows 0 place)) (range_with_len a n)
      from a zero = refl
      from a (suc n) = ap (λ ys. 0 ∷ ys) (from (a + 1) n)

-- one place more
pub one_more_place : (own holds : List ℕ) (arrows : List (List ℕ)) (place : ℕ) (read to : List ℕ) (here value : ℕ) (mapped : List ℕ) → place < length arrows → read ≡ get_or arrows place read → to ≡ read → here ≡ get_or own place 0
    → value ≡ capped_hold (here + sum_by (λ k. get_or holds k 0) to) → mapped ≡ map (λ place. capped_hold (get_or own place 0 + sum_by (λ k. get_or holds k 0) (to_of arrows place))) (range_with_len 0 place)
    → mapped ++ value ∷ [] ≡ map (λ place. capped_hold (get_or own place 0 + sum_by (λ k. get_or holds k 0) (to_of arrows place))) (range_with_len 0 (place + 1))
one_more_place own holds arrows place read to here value mapped inside is same at_own told so_far =
    let f : ℕ → ℕ = λ place. capped_hold (get_or own place 0 + sum_by (λ k. get_or holds k 0) (to_of arrows place)) in
    let value_is : value ≡ f place = told ∙ ap (λ h. capped_hold (h + sum_by (λ k. get_or holds k 0) to)) at_own ∙ ap (λ t. capped_hold (get_or own place 0 + sum_by (λ k. get_or holds k 0) t)) (same ∙ get_or_read arrows place read inside is []) in
    ap (λ (m : List ℕ). m ++ value ∷ []) so_far ∙ ap (λ v. map f (range_with_len 0 place) ++ v ∷ []) value_is ∙ sym (map-range_with_len_more f 0 place place (omega arith))

-- one graph more whose hold is told
pub one_more_large : (own : List ℕ) (arrows : List (List ℕ)) (long : length own ≡ length arrows) (place : ℕ) (holds : List ℕ) (value : Bool) (mapped : List Bool) → holds ≡ level own arrows long nesting_limit → value ≡ (is_held arrows place && nat_lt hold_limit (get_or holds place 0))
    → mapped ≡ map (λ place. is_large own arrows place) (range_with_len 0 place) → mapped ++ value ∷ [] ≡ map (λ place. is_large own arrows place) (range_with_len 0 (place + 1))
one_more_large own arrows long place holds value mapped is told so_far =
    let value_is : value ≡ is_large own arrows place =
    told
    ∙ ap (λ (hs : List ℕ). is_held arrows place && nat_lt hold_limit (get_or hs place 0)) is
    ∙ ap (λ n. is_held arrows place && nat_lt hold_limit n) (read_level own arrows long nesting_limit place)
    ∙ ap (λ over. is_held arrows place && over) (over_capped (hold_over own arrows nesting_limit place)) in
    ap (λ (m : List Bool). m ++ value ∷ []) so_far ∙ ap (λ v. map (λ place. is_large own arrows place) (range_with_len 0 place) ++ v ∷ []) value_is ∙ sym (map-range_with_len_more (λ place. is_large own arrows place) 0 place place (omega arith))

-- all of them
pub with_large : (graphs : List Graph) (own : List ℕ) (large : List Bool) → own ≡ map (λ g. capped_hold (own_hold g)) graphs → large ≡ map (λ place. is_large own (map children graphs) place) (range_with_len 0 (length graphs)) → large ≡ map (λ place. has_large_hold graphs place) (range_with_len 0 (length graphs))
with_large graphs own large own_is large_is =
    large_is
    ∙ map_same (λ place. is_large own (map children graphs) place) (λ place. has_large_hold graphs place)
    (λ place. ap (λ (os : List ℕ). is_large os (map children graphs) place) (own_is ∙ sym (of_mapped own_hold capped_hold (λ g. capped_hold (own_hold g)) (λ g. refl) graphs)) ∙ large_capped (map own_hold graphs) (map children graphs) place ∙ sym (large_hold graphs place))
    (range_with_len 0 (length graphs))

-- the same of the number of tokens itself
pub all_holds : (graphs : List Graph) (own holds : List ℕ) (arrows : List (List ℕ)) → own ≡ map (λ g. capped_hold (own_hold g)) graphs → arrows ≡ map children graphs → holds ≡ map (λ place. capped_hold (hold_over own arrows nesting_limit place)) (range_with_len 0 (length arrows))
    → holds ≡ map (λ place. capped_hold (hold graphs place)) (range_with_len 0 (length graphs))
all_holds graphs own holds arrows own_is arrows_are holds_are =
    holds_are
    ∙ ap (λ n. map (λ place. capped_hold (hold_over own arrows nesting_limit place)) (range_with_len 0 n)) (ap length arrows_are ∙ length-map graphs children)
    ∙ map_same (λ place. capped_hold (hold_over own arrows nesting_limit place)) (λ place. capped_hold (hold graphs place))
    (λ place. ap (λ (os : List ℕ). capped_hold (hold_over os arrows nesting_limit place)) (own_is ∙ sym (of_mapped own_hold capped_hold (λ g. capped_hold (own_hold g)) (λ g. refl) graphs)) ∙ held_capped (map own_hold graphs) arrows nesting_limit place ∙ ap (λ a. capped_hold (hold_over (map own_hold graphs) a nesting_limit place)) arrows_are ∙ ap capped_hold (sym (held_tokens graphs nesting_limit place)))
    (range_with_len 0 (length graphs))

pub none_first : {D : Type 0} (ds : List D) → None ≡ first ds → ds ≡ []
none_first [] none = refl
none_first (d ∷ ds) none = absurd cc

-- what a graph has too many of, where it is known which graphs have too large a hold
module _ (graphs : List Graph) (large : List Bool) (n : ℕ) (g : Graph) (marked : Bool) (counted : Option Counted) (told : large ≡ map (λ place. has_large_hold graphs place) (range_with_len 0 (length graphs))) (inside : n < length graphs)
    (read : marked ≡ get_or large n false) (is : counted ≡ first (excess_of (counts_of marked g))) where
  pub counted_here : counted ≡ first (graph_counts graphs n g)
  counted_here =
      let here : marked ≡ has_large_hold graphs n = read ∙ ap (λ (bs : List Bool). get_or bs n false) told ∙ get_or-map-range_with_len (λ place. has_large_hold graphs place) 0 (length graphs) n n false inside (omega arith) in
      is ∙ ap (λ b. first (excess_of (counts_of b g))) here

  pub none_here : counted ≡ None → graph_counts graphs n g ≡ []
  none_here none = none_first (graph_counts graphs n g) (sym none ∙ counted_here)
