-- A group of iterations.
use Rattle.std.proofs.Common.{◌≡◌, ℕ, suc, zero, ◌+◌, ◌-◌, ◌*◌, ◌/◌, ◌≤◌, ◌<◌, ℤ, Bool, true, false, List, [], ◌∷◌, length, map, take, drop, get_or, Option, Some, None, Result, Ok, Err, refl, sym, ap, ◌∙◌, subst, arith, slice_get, slice_index_or}
use Rattle.std.specs.Prelude.{if◌then◌else◌, nat_lt}
use Rattle.std.specs.Arc.{arc_value}
use Rattle.std.specs.List.{range_with_len}
use Rattle.std.proofs.Math.Nat.{div-mul-le_self, mul-div_cancel_left, mul-le-mul_right}
use Rattle.std.proofs.lemmas.Bool.Decides.{nat_tests}
use Rattle.std.proofs.lemmas.List.{drop-take, length-drop, length-map, length-take, take-take}
use Rattle.std.proofs.lemmas.List.FromFn.{length-map-range_with_len}
use Rattle.outer_world.specs.Sink.{Grows}
use Rattle.kernel_gate.specs.Laws.{GiveLengths}
use Rattle.kernel_gate.specs.Signed.{Counts}
use Rattle.kernel_gate.specs.Value.{lengths}
use Rattle.param_resolver.specs.EarlyCheck.{early_faults}
use Rattle.pisdf_model.specs.declared.graph.Graph.{Graph}
use Rattle.pisdf_model.specs.declared.graph.Graphs.{Graphs}
use Rattle.pisdf_model.specs.declared.graph.Interface.{Interface}
use Rattle.job_rules.specs.Items.{no_graph}
use Rattle.pisdf_meaning.specs.Run as run
use Rattle.pisdf_meaning.specs.Sound.{KernelsFit}
use Rattle.pisdf_meaning.specs.declared.outcome.Iteration.{Iteration}
use Rattle.level_laws.specs.Parts.{part, parts, parts_at}
use Rattle.unfold_rates.specs.Cut.{AreCut, IsUnfolded, piece_at}
use Rattle.unfold_rates.specs.Fits.{FitAsBefore}
use Rattle.unfold_rates.specs.InTurn.{GiveInTurn, UnfoldsTo}
use Rattle.unfold_rates.specs.Multiplied.{multiplied_at}
use Rattle.unfold_rates.specs.declared.unfolded.Unfolded.{Unfolded}
use Rattle.quiescent_driver.specs.Given.{IsTopState}
use Rattle.quiescent_driver.specs.Iterated.{Gives}
use Rattle.quiescent_driver.specs.Reached.{ComesTo, GroupComesTo, Iterate, PutsInTurn, Reached}
use Rattle.quiescent_driver.specs.Runs.{EndsRun}
use Rattle.quiescent_driver.specs.Stepped.{PutsText}
use Rattle.quiescent_driver.specs.Streams.{rest_of}
use Rattle.quiescent_driver.specs.Texts.{iteration_text}
use Rattle.quiescent_driver.specs.Top.{top_of}
use Rattle.quiescent_driver.specs.Unfolding.{StandsFor}
use Rattle.quiescent_driver.specs.declared.end.RunEnd.{RunEnd}
use Rattle.quiescent_driver.specs.declared.end.RunEnd.TheVariants as end
use Rattle.quiescent_driver.proofs.Making.{lacks_none}
use Rattle.quiescent_driver.proofs.Runs.{drop_more, ends_at, gives, goes_on, starved_here, steps_by}

abbrev State : Type 0
State = List (List ℤ)

-- ---- iterations that are put one after the other

-- of iterations that are done in turn, the one at a place, and those after it
pub next_in_turn : (g : Graphs) (streams : State) (k : ℕ) (its : List Iteration) (i : ℕ) (s left : State) (one : Iteration) → i < length its → one ≡ get_or its i one → Iterate g streams k s (drop i its) left
    → (next : State) × Gives g s (rest_of k (run.top_needs g) streams) one next × Iterate g streams (k + 1) next (drop (i + 1) its) left
next_in_turn g streams k [] i s left one lt is h = absurd (omega (arith, lt))
next_in_turn g streams k (x ∷ its) zero s left one lt is (next, gives, on) = (next, subst (λ (i : Iteration). Gives g s (rest_of k (run.top_needs g) streams) i next) (sym is) gives, on)
next_in_turn g streams k (x ∷ its) (suc i) s left one lt is h =
    let on = next_in_turn g streams k its i s left one (omega (arith, lt)) is h in
    let n : suc i + 1 ≡ suc (i + 1) = omega arith in
    (on.0, on.1, subst (λ m. Iterate g streams (k + 1) on.0 (drop m (x ∷ its)) left) (sym n) on.2)

none_in_turn : (g : Graphs) (streams : State) (k : ℕ) (its : List Iteration) (i : ℕ) (s left : State) → length its ≤ i → Iterate g streams k s (drop i its) left → left ≡ s
none_in_turn g streams k [] zero s left le h = h
none_in_turn g streams k [] (suc i) s left le h = h
none_in_turn g streams k (x ∷ its) zero s left le h = absurd (omega (arith, le))
none_in_turn g streams k (x ∷ its) (suc i) s left le h = none_in_turn g streams k its i s left (omega (arith, le)) h

-- the first of the iterations were put
pub record InTurn (g : Graphs) (streams : State) (k i : ℕ) (its : List Iteration) (left : State) (had has : Option (List ℕ)) : Type 0 where
  pub state : State
  pub more : Iterate g streams (k + i) state (drop i its) left
  pub reached : Reached g streams (k + i) state had has

pub turns_start : (g : Graphs) (streams : State) (k : ℕ) (its : List Iteration) (s left : State) (had has : Option (List ℕ)) → Iterate g streams k s its left → Reached g streams k s had has → InTurn g streams k 0 its left had has
turns_start g streams k its s left had has h r =
    let n : k ≡ k + 0 = omega arith in
    record {
      state = s;
      more = subst (λ m. Iterate g streams m s its left) n h;
      reached = subst (λ m. Reached g streams m s had has) n r;
    }

module _ (g : Graphs) (streams : State) (k i : ℕ) (its : List Iteration) (left : State) (had has new : Option (List ℕ)) (so_far : InTurn g streams k i its left had has) (one : Iteration)
    (lt : i < length its) (is : one ≡ get_or its i one) where
  -- one more was put
  pub turns_on : Grows has new (iteration_text (k + i) (top_of g).outputs one) → InTurn g streams k (i + 1) its left had new
  turns_on grows =
      let on = next_in_turn g streams (k + i) its i so_far.state left one lt is so_far.more in
      let n : k + i + 1 ≡ k + (i + 1) = omega arith in
      record {
        state = on.0;
        more = subst (λ m. Iterate g streams m on.0 (drop (i + 1) its) left) n on.2;
        reached = subst (λ m. Reached g streams m on.0 had new) n (goes_on g streams (k + i) so_far.state on.0 had has new one so_far.reached on.1 grows);
      }

  -- the run ends with it
  pub turns_end : (n first before now : ℕ) (e : RunEnd) → k + length its ≤ n → first ≤ before → PutsText (iteration_text (k + i) (top_of g).outputs one) has new before now (Err e) → EndsRun g streams n had new first now e
  turns_end n first before now e le older puts =
      let on = next_in_turn g streams (k + i) its i so_far.state left one lt is so_far.more in
      ends_at g streams n (k + i) so_far.state had has new first before now e (omega (arith, lt, le)) older so_far.reached
      (steps_by g (k + i) so_far.state on.0 (rest_of (k + i) (run.top_needs g) streams) one has new before now (Err e) on.1 puts)

-- all were put
pub turns_done : (g : Graphs) (streams : State) (k i : ℕ) (its : List Iteration) (left : State) (had has : Option (List ℕ)) → InTurn g streams k i its left had has → i ≡ length its → Reached g streams (k + length its) left had has
turns_done g streams k i its left had has so_far is =
    let over = none_in_turn g streams (k + i) its i so_far.state left (omega (arith, is)) so_far.more in
    subst (λ m. Reached g streams (k + m) left had has) is (subst (λ s. Reached g streams (k + i) s had has) (sym over) so_far.reached)

-- ---- the tokens of a group

long_first : (times need : ℕ) (t : List ℤ) (d : ℕ) → d + times * need ≤ length t → length (take (times * need) (drop d t)) ≡ times * need
long_first times need t d le = simp (length-take, length-drop) (omega (arith, le))

first_rest : (times need : ℕ) → suc times * need ≡ 0 * need + (need + times * need)
first_rest times need = grind arith

more_rest : (times i need m : ℕ) → times * need ≡ i * need + (need + m) → suc times * need ≡ suc i * need + (need + m)
more_rest times i need m e = grind arith

-- what a group takes after one of its iterations
rest_in : (times i need : ℕ) → i < times → (m : ℕ) × (times * need ≡ i * need + (need + m))
rest_in zero i need lt = absurd (omega (arith, lt))
rest_in (suc times) zero need lt = (times * need, first_rest times need)
rest_in (suc times) (suc i) need lt =
    let r = rest_in times i need (omega (arith, lt)) in
    (r.0, more_rest times i need r.0 r.1)

-- of the tokens that a group takes of a stream, those of one of its iterations are what the iteration takes of the stream
part_of : (times need q i : ℕ) (t : List ℤ) → i < times → q * (times * need) + times * need ≤ length t
    → part times i (take (times * need) (drop (q * (times * need)) t)) ≡ take need (drop ((q * times + i) * need) t)
part_of times need q i t lt le =
    let d = q * (times * need) in
    let all = take (times * need) (drop d t) in
    let whole : length all ≡ times * need = long_first times need t d le in
    let some : 0 < times = omega (arith, lt) in
    let one : length all / times ≡ need = ap (λ n. n / times) whole ∙ mul-div_cancel_left need some in
    let room : (m : ℕ) × (times * need ≡ i * need + (need + m)) = rest_in times i need lt in
    let first : drop (i * need) all ≡ take (need + room.0) (drop (i * need) (drop d t)) = ap (λ n. drop (i * need) (take n (drop d t))) room.1 ∙ drop-take (i * need) (need + room.0) (drop d t) in
    let place : d + i * need ≡ (q * times + i) * need = grind arith in
    let on : drop (i * need) (drop d t) ≡ drop ((q * times + i) * need) t = drop_more d (i * need) t ∙ ap (λ n. drop n t) place in
    let shorter : need ≤ need + room.0 = omega arith in
    ap (λ n. take n (drop (i * n) all)) one ∙ ap (take need) first ∙ take-take need (need + room.0) (drop (i * need) (drop d t)) shorter ∙ ap (take need) on

abbrev pub times_each : ℕ → List ℕ → List ℕ
times_each times needs = map (λ r. times * r) needs

not_short : (need has : ℕ) → nat_lt has need ≡ false → need ≤ has
not_short need has is = grind (arith, nat_tests)

is_long : (need has : ℕ) → need ≤ has → nat_lt has need ≡ false
is_long need has le = grind (arith, nat_tests)

some_of_all : (times need : ℕ) → 0 < times → 0 < times * suc need
some_of_all zero need some = absurd (omega (arith, some))
some_of_all (suc times) need some = grind arith

long_enough : (d m : ℕ) (t : List ℤ) → 0 < m → m ≤ length (drop d t) → d + m ≤ length t
long_enough d m t some le = omega (arith, some, le, length-drop d t)

-- a stream from which a group can take its tokens
fits_all : (times need q : ℕ) (t : List ℤ) → 0 < times → times * need ≤ length (drop (q * (times * need)) t) → q * (times * need) + times * need ≤ length t
fits_all times zero q t some le =
    let none : times * 0 ≡ 0 = omega arith in
    let nothing : q * (times * 0) ≡ 0 = ap (λ n. q * n) none ∙ (let z : q * 0 ≡ 0 = omega arith in z) in
    omega (arith, none, nothing)
fits_all times (suc need) q t some le = long_enough (q * (times * suc need)) (times * suc need) t (some_of_all times need some) le

later : (times need q i : ℕ) → (q * times + i) * need ≡ q * (times * need) + i * need
later times need q i = grind arith

one_fits : (times need q i : ℕ) (t : List ℤ) → i < times → q * (times * need) + times * need ≤ length t → need ≤ length (drop ((q * times + i) * need) t)
one_fits times need q i t lt le =
    let room = rest_in times i need lt in
    omega (arith, le, room.1, later times need q i, length-drop ((q * times + i) * need) t)

module _ (times q i : ℕ) (lt : i < times) where
  some_times : 0 < times
  some_times = omega (arith, lt)

  -- so it is of all streams
  pub parts_taken : (needs : List ℕ) (streams : State) (k : ℕ) → None ≡ run.first_lack k (times_each times needs) (rest_of q (times_each times needs) streams)
      → parts_at times i (run.taken (times_each times needs) (rest_of q (times_each times needs) streams)) ≡ run.taken needs (rest_of (q * times + i) needs streams)
  parts_taken [] streams k none = refl
  parts_taken (need ∷ needs) [] k none = refl
  parts_taken (need ∷ needs) (t ∷ streams) k none =
      let here = drop (q * (times * need)) t in
      let parts = lacks_none (nat_lt (length here) (times * need)) record { stream = k; has = length here; needs = times * need } (run.first_lack (k + 1) (times_each times needs) (rest_of q (times_each times needs) streams)) none in
      let first = part_of times need q i t lt (fits_all times need q t some_times (not_short (times * need) (length here) parts.0)) in
      let others = parts_taken needs streams (k + 1) parts.1 in
      cc (first, others)

  -- and none lacks tokens for an iteration of the group
  pub none_lacks : (needs : List ℕ) (streams : State) (k j : ℕ) → None ≡ run.first_lack k (times_each times needs) (rest_of q (times_each times needs) streams)
      → None ≡ run.first_lack j needs (rest_of (q * times + i) needs streams)
  none_lacks [] streams k j none = refl
  none_lacks (need ∷ needs) [] k j none = refl
  none_lacks (need ∷ needs) (t ∷ streams) k j none =
      let here = drop (q * (times * need)) t in
      let parts = lacks_none (nat_lt (length here) (times * need)) record { stream = k; has = length here; needs = times * need } (run.first_lack (k + 1) (times_each times needs) (rest_of q (times_each times needs) streams)) none in
      let enough = one_fits times need q i t lt (fits_all times need q t some_times (not_short (times * need) (length here) parts.0)) in
      let mine = drop ((q * times + i) * need) t in
      let long : false ≡ nat_lt (length mine) need = sym (is_long need (length mine) enough) in
      none_lacks needs streams (k + 1) (j + 1) parts.1
      ∙ ap (λ b. if b then Some record { stream = j; has = length mine; needs = need } else run.first_lack (j + 1) needs (rest_of (q * times + i) needs streams)) long

-- ---- the iterations of a group

module _ (g : Graphs) (times q : ℕ) (streams : State) (sound : early_faults g.graphs g.top [] ≡ [])
    (none : None ≡ run.first_lack 0 (times_each times (run.top_needs g)) (rest_of q (times_each times (run.top_needs g)) streams)) where
  abbrev taken : State
  taken = run.taken (times_each times (run.top_needs g)) (rest_of q (times_each times (run.top_needs g)) streams)

  in_turn : (start count : ℕ) (s left : State) (its : List Iteration) → start + count ≤ times → GiveInTurn g (map (λ i. parts_at times i taken) (range_with_len start count)) s its left
      → Iterate g streams (q * times + start) s its left
  in_turn start zero s left its le (over, same) = subst (λ l. Iterate g streams (q * times + start) s l left) (sym over) same
  in_turn start (suc count) s left its le (one, next, more, given, on, same) =
      let lt : start < times = omega (arith, le) in
      let k = q * times + start in
      let is : parts_at times start taken ≡ run.taken (run.top_needs g) (rest_of k (run.top_needs g) streams) = parts_taken times q start lt (run.top_needs g) streams 0 none in
      let this = gives g s next streams (parts_at times start taken) (run.top_needs g) k one refl sound (none_lacks times q start lt (run.top_needs g) streams 0 0 none) is given in
      let n : q * times + (start + 1) ≡ k + 1 = omega arith in
      let others = in_turn (start + 1) count next left more (omega (arith, le)) on in
      subst (λ l. Iterate g streams k s l left) (sym same) (next, this, subst (λ m. Iterate g streams m next more left) n others)

  -- a group is done where its iterations are, one after the other
  pub group_in_turn : (s left : State) (its : List Iteration) → GiveInTurn g (parts times taken) s its left → Iterate g streams (q * times) s its left
  group_in_turn s left its h =
      let n : q * times + 0 ≡ q * times = omega arith in
      let within : 0 + times ≤ times = omega arith in
      subst (λ m. Iterate g streams m s its left) n (in_turn 0 times s left its within h)

-- one iteration is cut in one way
pub one_cut : (u : Unfolded) (iteration : Iteration) (a b : List Iteration) → AreCut u iteration a → AreCut u iteration b → a ≡ b
one_cut u iteration a b p q =
    let tops : Some p.top ≡ Some q.top = sym p.top_is ∙ q.top_is in
    let same : p.top ≡ q.top = cc in
    p.pieces_are ∙ ap (λ (top : Graph). map (piece_at top u.counts u.times iteration) (range_with_len 0 u.times)) same ∙ sym q.pieces_are

pub pieces_counted : (u : Unfolded) (iteration : Iteration) (pieces : List Iteration) → AreCut u iteration pieces → length pieces ≡ u.times
pieces_counted u iteration pieces cut = ap (length {A = Iteration}) cut.pieces_are ∙ length-map-range_with_len (piece_at cut.top u.counts u.times iteration) 0 u.times

module _ (kernels : List Counts) (g : Graphs) (u : Unfolded) (stands : StandsFor g u) where
  -- what an iteration of the unfolded graphs gives on the tokens of a group, cut, is what the iterations of the group give in turn
  pub group_given : KernelsFit kernels g.graphs → GiveLengths kernels → (q : ℕ) (tokens s left ins : State) (needs : List ℕ) (iteration : Iteration) (pieces : List Iteration)
      → needs ≡ run.top_needs (arc_value u.graphs) → None ≡ run.first_lack 0 needs (rest_of q needs tokens) → ins ≡ run.taken needs (rest_of q needs tokens)
      → lengths ins ≡ run.top_needs (arc_value u.graphs) → IsTopState g s
      → run.IterationGives (arc_value u.graphs) ins s iteration left → AreCut u iteration pieces → Iterate g tokens (q * u.times) s pieces left
  group_given fit full q tokens s left ins needs iteration pieces needs_are none is long begins given cut =
      let e = needs_are ∙ stands.fits.needs in
      let goes = stands.stands.there kernels s ins iteration left fit full record { state_fits = begins; inputs_fit = long ∙ stands.fits.needs } given in
      let none_of = subst (λ n. None ≡ run.first_lack 0 n (rest_of q n tokens)) e none in
      let ins_are = is ∙ ap (λ n. run.taken n (rest_of q n tokens)) e in
      let in_order = subst (λ x. GiveInTurn g (parts u.times x) s goes.pieces left) ins_are goes.in_turn in
      group_in_turn g u.times q tokens stands.unfolded.exact.early none_of s left pieces
      (subst (λ p. GiveInTurn g (parts u.times (run.taken (times_each u.times (run.top_needs g)) (rest_of q (times_each u.times (run.top_needs g)) tokens))) s p left) (one_cut u iteration goes.pieces pieces goes.cut cut) in_order)

-- a group of which all was put, or with which the run ended
pub group_put : (g : Graphs) (streams : State) (n k times : ℕ) (its put : List Iteration) (s next : State) (has new : Option (List ℕ)) (before now : ℕ) (result : Result (Unit {0}) RunEnd)
    → Iterate g streams k s its next → length its ≡ times → put ≡ its → k + times ≤ n → PutsInTurn g k put has new before now result
    → (had : Option (List ℕ)) (first : ℕ) → Reached g streams k s had has → first ≤ before → ComesTo g streams n (k + times) next had new first now result
group_put g streams n k times its put s next has new before now result turns counted same le puts had first r older =
    let all = subst (λ l. PutsInTurn g k l has new before now result) same puts in
    let within : k + length its ≤ n = omega (arith, counted, le) in
    subst (λ m. ComesTo g streams n (k + m) next had new first now result) counted (all streams s next had n first turns r older within)

-- a group that was put, and one of which nothing was
module _ (g : Graphs) (streams : State) (n k times : ℕ) (s : State) (had has : Option (List ℕ)) (first now : ℕ) where
  pub group_done : (put : Bool) → put ≡ true → GroupComesTo g streams n k times s had has first now (Ok put) → Reached g streams (k + times) s had has
  group_done true is h = h
  group_done false is h = absurd cc

  pub group_left : (put : Bool) → put ≡ false → GroupComesTo g streams n k times s had has first now (Ok put) → Reached g streams k s had has
  group_left true is h = absurd cc
  group_left false is h = h

pub one_group_more : (times q : ℕ) → q * times + times ≡ (q + 1) * times
one_group_more times q = grind arith

-- ---- unfolded graphs

multiplied_inputs : (times place : ℕ) (graphs : List Graph) → length {A = Interface} (slice_index_or (multiplied_at times place graphs) place no_graph).inputs ≡ length (slice_index_or graphs place no_graph).inputs
multiplied_inputs times place [] = refl
multiplied_inputs times zero (g ∷ graphs) = simp length-map
multiplied_inputs times (suc place) (g ∷ graphs) = multiplied_inputs times place graphs

-- the top graph has as many inputs
pub as_many_inputs : (g : Graphs) (u : Unfolded) → StandsFor g u → length {A = Interface} (top_of (arc_value u.graphs)).inputs ≡ length (top_of g).inputs
as_many_inputs g u stands =
    ap (λ (x : Graphs). length {A = Interface} (top_of x).inputs) stands.unfolded.graphs_are ∙ multiplied_inputs u.times g.top g.graphs

-- what is unfolded so many times stands for the graphs
pub unfolded_stands : (g : Graphs) (times : ℕ) (u : Unfolded) → IsUnfolded g times u → FitAsBefore g times (arc_value u.graphs) → UnfoldsTo g u → StandsFor g u
unfolded_stands g times u is fits stands =
    let e : times ≡ u.times = sym is.times_are in
    record {
      unfolded = subst (λ t. IsUnfolded g t u) e is;
      fits = subst (λ t. FitAsBefore g t (arc_value u.graphs)) e fits;
      stands = stands;
    }

-- ---- how many iterations groups are

pub room_for : (n times q : ℕ) → q < n / times → q * times + times ≤ n
room_for n times q lt =
    let all = div-mul-le_self n times in
    let more : suc q * times ≤ n / times * times = mul-le-mul_right times (let le : suc q ≤ n / times = omega (arith, lt) in le) in
    let one : suc q * times ≡ q * times + times = grind arith in
    omega (arith, all, more, one)

pub within_run : (n times q : ℕ) → q ≤ n / times → q * times ≤ n
within_run n times q le =
    let all = div-mul-le_self n times in
    let part : q * times ≤ n / times * times = mul-le-mul_right times le in
    omega (arith, all, part)
