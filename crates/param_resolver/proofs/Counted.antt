-- The numbers of parts, counted one part after the other.
use Rattle.std.proofs.Common.{◌≡◌, ℕ, zero, suc, ◌+◌, ◌&&◌, ◌||◌, ◌<◌, ◌≤◌, ◌^◌, ⊎_elim, Bool, true, false, cond, not, List, [], ◌∷◌, ◌++◌, length, map, take, count_by, refl, sym, ap, ◌∙◌, subst, arith, get_or, replicate}
use Rattle.std.specs.Prelude.{slice_index, sum_by}
use Rattle.std.specs.List.{filter, list_any, range_with_len}
use Rattle.std.proofs.lemmas.Bool.{cases_Bool}
use Rattle.std.proofs.lemmas.List.{map-append, take_all, take_more}
use Rattle.std.proofs.lemmas.List.Folds.{list_any_more}
use Rattle.std.proofs.lemmas.List.FromFn.{fill_by_all, get_or-map-range_with_len, length-map-range_with_len, map-range_with_len_more}
use Rattle.std.proofs.lemmas.List.Sums.{count_by_more_yes, count_by_more_no, sum_by-append, sum_by-cons}
use Rattle.pisdf_model.specs.InterfaceWires.{is_at_configuration}
use Rattle.pisdf_model.specs.Wires.{is_interface}
use Rattle.pisdf_model.specs.declared.actor.Actor.{Actor}
use Rattle.pisdf_model.specs.declared.fifo.Fifo.{Fifo}
use Rattle.pisdf_model.specs.declared.graph.Graph.{Graph}
use Rattle.param_resolver.specs.Assignment.{one_if}
use Rattle.param_resolver.specs.Numbering.{actor_number, feeds_configuration, fires, source_inputs}
use Rattle.param_resolver.specs.Tables.{actor_numbers, config_outputs, fed_inputs, input_number, input_numbers, output_number, output_numbers}

count_more : {X : Type 0} (p : X → Bool) (xs : List X) (i : ℕ) (x : X) → i < length xs → x ≡ get_or xs i x → count_by p (take (i + 1) xs) ≡ count_by p (take i xs) + one_if (p x)
count_more p xs i x inside is = ⊎_elim
    (λ (here : p x ≡ true). count_by_more_yes p xs i x inside (ap p (sym is) ∙ here) ∙ ap (λ b. count_by p (take i xs) + one_if b) (sym here))
    (λ (not_here : p x ≡ false). count_by_more_no p xs i x inside (ap p (sym is) ∙ not_here) ∙ omega arith ∙ ap (λ b. count_by p (take i xs) + one_if b) (sym not_here))
    (cases_Bool (p x))

one_most : (b : Bool) → one_if b ≤ 1
one_most true = omega arith
one_most false = omega arith

-- ---- actors

pub record CountsActors (g : Graph) (i next : ℕ) (numbers : List ℕ) : Type 0 where
  pub numbers_are : numbers ≡ map (λ a. actor_number g a) (range_with_len 0 i)
  pub next_is : next ≡ actor_number g i
  pub few : next ≤ i

module _ (g : Graph) (actors : List Actor) (actors_are : actors ≡ g.actors) (i next : ℕ) (numbers : List ℕ) (so_far : CountsActors g i next numbers) where
  pub actors_few : (x : Actor) (step : ℕ) → i < length actors → length g.actors < 2 ^ 32 → step ≡ one_if (fires x) → next + step < 2 ^ 32
  actors_few x step below few is = let most = one_most (fires x) in let long = ap (λ (l : List Actor). length l) actors_are in let next_few = so_far.few in omega arith

  pub actors_more : (x : Actor) (step : ℕ) → i < length actors → x ≡ get_or actors i x → step ≡ one_if (fires x) → CountsActors g (i + 1) (next + step) (numbers ++ next ∷ [])
  actors_more x step below is step_is = record {
    numbers_are = ap (λ (ns : List ℕ). ns ++ next ∷ []) so_far.numbers_are ∙ ap (λ n. map (λ a. actor_number g a) (range_with_len 0 i) ++ n ∷ []) so_far.next_is ∙ sym (map-range_with_len_more (λ a. actor_number g a) 0 i i (omega arith));
    next_is =
        ap (λ n. n + step) so_far.next_is
        ∙ ap (λ m. actor_number g i + m) step_is
        ∙ sym (count_more fires g.actors i x (subst (λ (l : List Actor). i < length l) actors_are below) (subst (λ (l : List Actor). x ≡ get_or l i x) actors_are is));
    few = let most = one_most (fires x) in let next_few = so_far.few in omega arith;
  }

  pub actors_counted : length actors ≤ i → i ≤ length actors → numbers ≡ actor_numbers g
  actors_counted past inside = so_far.numbers_are ∙ ap (λ n. map (λ a. actor_number g a) (range_with_len 0 n)) (let long = ap (λ (l : List Actor). length l) actors_are in omega arith)

-- ---- inputs

pub record Feeds (g : Graph) (i : ℕ) (fed : List Bool) : Type 0 where
  pub long : length fed ≡ length g.inputs
  pub each : (j : ℕ) → j < length g.inputs → get_or fed j false ≡ list_any (λ (f : Fifo). is_interface j f.tail && is_at_configuration g f.head) (take i g.fifos)

pub none_feed : (g : Graph) (fed : List Bool) (n : ℕ) → fed ≡ replicate n false → n ≡ length g.inputs → Feeds g 0 fed
none_feed g fed n is long = record {
  long = ap (λ (l : List Bool). length l) is ∙ length_replicated n ∙ long;
  each = λ j below. ap (λ (l : List Bool). get_or l j false) is ∙ replicated n j;
}
  where
    length_replicated : (n : ℕ) → length (replicate n false) ≡ n
    length_replicated zero = refl
    length_replicated (suc n) = ap suc (length_replicated n)

    replicated : (n j : ℕ) → get_or (replicate n false) j false ≡ false
    replicated zero j = refl
    replicated (suc n) zero = refl
    replicated (suc n) (suc j) = replicated n j

pub feeds_more : (g : Graph) (fifos : List Fifo) (i : ℕ) (fed new : List Bool) (f : Fifo) → fifos ≡ g.fifos → i < length fifos → f ≡ get_or fifos i f → length new ≡ length fed
    → ((j : ℕ) → j < length fed → get_or new j false ≡ (get_or fed j false || (is_interface j f.tail && is_at_configuration g f.head))) → Feeds g i fed → Feeds g (i + 1) new
feeds_more g fifos i fed new f fifos_are below is same marks so_far = record {
  long = same ∙ so_far.long;
  each = λ j inside.
      let test : Fifo → Bool = λ f. is_interface j f.tail && is_at_configuration g f.head in
      let long = so_far.long in
      marks j (omega arith)
      ∙ ap (λ b. b || test f) (so_far.each j inside)
      ∙ ap (λ x. list_any test (take i g.fifos) || test x) (subst (λ (l : List Fifo). f ≡ get_or l i f) fifos_are is)
      ∙ sym (list_any_more test g.fifos i f (subst (λ (l : List Fifo). i < length l) fifos_are below));
}

pub all_feed : (g : Graph) (fifos : List Fifo) (i : ℕ) (fed : List Bool) → fifos ≡ g.fifos → length fifos ≤ i → Feeds g i fed → fed ≡ fed_inputs g
all_feed g fifos i fed fifos_are past so_far =
    fill_by_all (λ j. feeds_configuration g j) fed (length g.inputs) false so_far.long
    (λ j below. so_far.each j below ∙ ap (λ (l : List Fifo). list_any (λ (f : Fifo). is_interface j f.tail && is_at_configuration g f.head) l) (take_all i g.fifos (subst (λ (l : List Fifo). length l ≤ i) fifos_are past)))

pub fed_at : (g : Graph) (fed : List Bool) (i : ℕ) (mark : Bool) → fed ≡ fed_inputs g → i < length fed → mark ≡ get_or fed i mark → mark ≡ feeds_configuration g i
fed_at g fed i mark is below read =
    read
    ∙ ap (λ (l : List Bool). get_or l i mark) is
    ∙ get_or-map-range_with_len (λ j. feeds_configuration g j) 0 (length g.inputs) i i mark (let long = ap (λ (l : List Bool). length l) is ∙ length-map-range_with_len (λ j. feeds_configuration g j) 0 (length g.inputs) in omega arith) (omega arith)

pub many_fed : (g : Graph) (fed : List Bool) → fed ≡ fed_inputs g → length fed ≡ length g.inputs
many_fed g fed is = ap (λ (l : List Bool). length l) is ∙ length-map-range_with_len (λ j. feeds_configuration g j) 0 (length g.inputs)

range_more : (n : ℕ) → range_with_len 0 (n + 1) ≡ range_with_len 0 n ++ n ∷ []
range_more n = sym (mapped (range_with_len 0 (n + 1))) ∙ map-range_with_len_more (λ i. i) 0 n n (omega arith) ∙ ap (λ (l : List ℕ). l ++ n ∷ []) (mapped (range_with_len 0 n))
  where
    mapped : (xs : List ℕ) → map (λ i. i) xs ≡ xs
    mapped [] = refl
    mapped (x ∷ xs) = ap (λ l. x ∷ l) (mapped xs)

pub record CountsInputs (g : Graph) (i next : ℕ) (numbers : List ℕ) : Type 0 where
  pub numbers_are : numbers ≡ map (λ j. input_number g j) (range_with_len 0 i)
  pub next_is : next ≡ input_number g i
  pub few : next ≤ i

input_step : (g : Graph) (i : ℕ) → input_number g (i + 1) ≡ input_number g i + one_if (not (feeds_configuration g i))
input_step g i =
    let p : ℕ → Bool = λ j. not (feeds_configuration g j) in
    ap (count_by p) (range_more i)
    ∙ sum_by-append (λ j. cond (p j) 1 0) (range_with_len 0 i) (i ∷ [])
    ∙ ap (λ n. input_number g i + n) (sum_by-cons (λ j. cond (p j) 1 0) i [] ∙ one_of (p i))
  where
    one_of : (b : Bool) → cond b 1 0 + 0 ≡ one_if b
    one_of true = refl
    one_of false = refl

module _ (g : Graph) (fed : List Bool) (fed_are : fed ≡ fed_inputs g) (i next : ℕ) (numbers : List ℕ) (so_far : CountsInputs g i next numbers) where
  pub inputs_few : (mark : Bool) (step : ℕ) → i < length fed → length fed < 2 ^ 32 → step ≡ one_if (not mark) → next + step < 2 ^ 32
  inputs_few mark step below few is = let most = one_most (not mark) in let next_few = so_far.few in omega arith

  pub inputs_more : (mark : Bool) (step : ℕ) → i < length fed → mark ≡ get_or fed i mark → step ≡ one_if (not mark) → CountsInputs g (i + 1) (next + step) (numbers ++ next ∷ [])
  inputs_more mark step below read step_is = record {
    numbers_are = ap (λ (ns : List ℕ). ns ++ next ∷ []) so_far.numbers_are ∙ ap (λ n. map (λ j. input_number g j) (range_with_len 0 i) ++ n ∷ []) so_far.next_is ∙ sym (map-range_with_len_more (λ j. input_number g j) 0 i i (omega arith));
    next_is = ap (λ n. n + step) so_far.next_is ∙ ap (λ m. input_number g i + m) (step_is ∙ ap (λ b. one_if (not b)) (fed_at g fed i mark fed_are below read)) ∙ sym (input_step g i);
    few = let most = one_most (not mark) in let next_few = so_far.few in omega arith;
  }

  pub inputs_counted : length fed ≤ i → i ≤ length fed → numbers ≡ input_numbers g
  inputs_counted past inside = so_far.numbers_are ∙ ap (λ n. map (λ j. input_number g j) (range_with_len 0 n)) (let long = many_fed g fed fed_are in omega arith)

-- ---- the rates of inputs

abbrev pub unfed : Graph → ℕ → Bool
unfed g i = not (feeds_configuration g i)

module _ (g : Graph) (fed : List Bool) (fed_are : fed ≡ fed_inputs g) (taken : List ℕ) (i : ℕ) (rates : List ℕ) (so_far : rates ≡ map (λ j. slice_index taken j) (filter (unfed g) (range_with_len 0 i))) (mark : Bool) (below : i < length fed) (read : mark ≡ get_or fed i mark) where
  kept : (b : Bool) → unfed g i ≡ b → filter (unfed g) (range_with_len 0 (i + 1)) ≡ filter (unfed g) (range_with_len 0 i) ++ cond b (i ∷ []) []
  kept b is = ap (filter (unfed g)) (range_more i) ∙ filter_behind (unfed g) (range_with_len 0 i) i ∙ ap (λ c. filter (unfed g) (range_with_len 0 i) ++ cond c (i ∷ []) []) is
    where
      filter_behind : (p : ℕ → Bool) (xs : List ℕ) (x : ℕ) → filter p (xs ++ x ∷ []) ≡ filter p xs ++ cond (p x) (x ∷ []) []
      filter_behind p [] x = refl
      filter_behind p (y ∷ xs) x = ⊎_elim
          (λ (here : p y ≡ true). rw here (ap (λ l. y ∷ l) (filter_behind p xs x)))
          (λ (not_here : p y ≡ false). rw not_here (filter_behind p xs x))
          (cases_Bool (p y))

  mark_is : unfed g i ≡ not mark
  mark_is = ap not (sym (fed_at g fed i mark fed_are below read))

  pub rate_more : (rate : ℕ) → rate ≡ slice_index taken i → rates ++ cond mark [] (rate ∷ []) ≡ map (λ j. slice_index taken j) (filter (unfed g) (range_with_len 0 (i + 1)))
  rate_more rate rate_is =
      ap (λ (l : List ℕ). l ++ cond mark [] (rate ∷ [])) so_far
      ∙ ap (λ r. map (λ j. slice_index taken j) (filter (unfed g) (range_with_len 0 i)) ++ cond mark [] (r ∷ [])) rate_is
      ∙ ap (λ l. map (λ j. slice_index taken j) (filter (unfed g) (range_with_len 0 i)) ++ l) (turned mark)
      ∙ sym (ap (map (λ j. slice_index taken j)) (kept (not mark) mark_is) ∙ map-append (λ j. slice_index taken j) (filter (unfed g) (range_with_len 0 i)) (cond (not mark) (i ∷ []) []))
    where
      turned : (b : Bool) → cond b [] (slice_index taken i ∷ []) ≡ map (λ j. slice_index taken j) (cond (not b) (i ∷ []) [])
      turned true = refl
      turned false = refl

pub rates_done : (g : Graph) (fed : List Bool) (taken : List ℕ) (i : ℕ) (rates : List ℕ) → fed ≡ fed_inputs g → rates ≡ map (λ j. slice_index taken j) (filter (unfed g) (range_with_len 0 i)) → length fed ≤ i → i ≤ length fed → rates ≡ map (λ j. slice_index taken j) (source_inputs g)
rates_done g fed taken i rates fed_are so_far past inside = so_far ∙ ap (λ n. map (λ j. slice_index taken j) (filter (unfed g) (range_with_len 0 n))) (let long = many_fed g fed fed_are in omega arith)

-- ---- outputs of configuration actors

pub record CountsOutputs (graphs : List Graph) (g : Graph) (i next : ℕ) (numbers : List ℕ) : Type 0 where
  pub numbers_are : numbers ≡ map (λ a. output_number graphs g a) (range_with_len 0 i)
  pub next_is : next ≡ output_number graphs g i

sum_more : {X : Type 0} (f : X → ℕ) (xs : List X) (i : ℕ) (x : X) → i < length xs → x ≡ get_or xs i x → sum_by f (take (i + 1) xs) ≡ sum_by f (take i xs) + f x
sum_more f xs i x below is =
    ap (sum_by f) (take_more xs i x below)
    ∙ sum_by-append f (take i xs) (get_or xs i x ∷ [])
    ∙ ap (λ n. sum_by f (take i xs) + n) (sum_by-cons f (get_or xs i x) [] ∙ omega arith)
    ∙ ap (λ y. sum_by f (take i xs) + f y) (sym is)

sum_most : {X : Type 0} (f : X → ℕ) (xs : List X) (i : ℕ) → sum_by f (take i xs) ≤ sum_by f xs
sum_most f xs zero = omega arith
sum_most f [] (suc i) = omega arith
sum_most f (x ∷ xs) (suc i) = let rest = sum_most f xs i in let here = sum_by-cons f x (take i xs) in let all = sum_by-cons f x xs in omega arith

module _ (graphs : List Graph) (g : Graph) (actors : List Actor) (actors_are : actors ≡ g.actors) (i next : ℕ) (numbers : List ℕ) (so_far : CountsOutputs graphs g i next numbers) where
  pub outputs_few : (before : ℕ) → before ≡ length (source_inputs g) → before + sum_by (λ x. config_outputs graphs x) g.actors < 2 ^ 32 → next < 2 ^ 32
  outputs_few before is few = let most = sum_most (λ x. config_outputs graphs x) g.actors i in let next_is = so_far.next_is in omega arith

  outputs_next : (x : Actor) (step : ℕ) → i < length actors → x ≡ get_or actors i x → step ≡ config_outputs graphs x → next + step ≡ output_number graphs g (i + 1)
  outputs_next x step below is step_is =
      let more = sum_more (λ x. config_outputs graphs x) g.actors i x (subst (λ (l : List Actor). i < length l) actors_are below) (subst (λ (l : List Actor). x ≡ get_or l i x) actors_are is) in
      let next_is = so_far.next_is in
      omega arith

  pub outputs_fit : (x : Actor) (step before : ℕ) → i < length actors → x ≡ get_or actors i x → step ≡ config_outputs graphs x → before ≡ length (source_inputs g) → before + sum_by (λ x. config_outputs graphs x) g.actors < 2 ^ 32 → next + step < 2 ^ 32
  outputs_fit x step before below is step_is before_is few = let next_is = outputs_next x step below is step_is in let most = sum_most (λ x. config_outputs graphs x) g.actors (i + 1) in omega arith

  pub outputs_more : (x : Actor) (step : ℕ) → i < length actors → x ≡ get_or actors i x → step ≡ config_outputs graphs x → CountsOutputs graphs g (i + 1) (next + step) (numbers ++ next ∷ [])
  outputs_more x step below is step_is = record {
    numbers_are = ap (λ (ns : List ℕ). ns ++ next ∷ []) so_far.numbers_are ∙ ap (λ n. map (λ a. output_number graphs g a) (range_with_len 0 i) ++ n ∷ []) so_far.next_is ∙ sym (map-range_with_len_more (λ a. output_number graphs g a) 0 i i (omega arith));
    next_is = outputs_next x step below is step_is;
  }

  pub outputs_counted : length actors ≤ i → i ≤ length actors → numbers ≡ output_numbers graphs g
  outputs_counted past inside = so_far.numbers_are ∙ ap (λ n. map (λ a. output_number graphs g a) (range_with_len 0 n)) (let long = ap (λ (l : List Actor). length l) actors_are in omega arith)
