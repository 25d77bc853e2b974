-- A run, iteration by iteration.
use Rattle.std.proofs.Common.{◌≡◌, ℕ, suc, zero, ◌+◌, ◌-◌, ◌*◌, ◌≤◌, ◌<◌, ℤ, List, [], ◌∷◌, ◌++◌, length, take, drop, Option, Some, None, Result, Ok, Err, refl, sym, ap, ◌∙◌, subst, append_assoc, arith, inl, inr, map, length-append, slice_get, slice_index_or, OnOk}
use Rattle.std.proofs.lemmas.List.{append-nil}
use Rattle.std.proofs.Math.Seq.{drop-nil, take-append-add}
use Rattle.outer_world.specs.Sink.{Grows}
use Rattle.outer_world.specs.Faults.{Rose}
use Rattle.pisdf_model.specs.Hold.{initial}
use Rattle.pisdf_model.specs.declared.graph.Graph.{Graph}
use Rattle.pisdf_model.specs.declared.graph.Graphs.{Graphs}
use Rattle.pisdf_model.specs.declared.graph.Interface.{Interface}
use Rattle.param_resolver.specs.EarlyCheck.{early_faults}
use Rattle.pisdf_meaning.specs.Causes.{unless_refused}
use Rattle.pisdf_meaning.specs.Endings.{IfRefused}
use Rattle.pisdf_meaning.specs.declared.refusal.PlainFault.{PlainFault}
use Rattle.pisdf_meaning.specs.declared.refusal.PlainFault.TheVariants as plain
use Rattle.pisdf_meaning.specs.Laws.{HasOneRun}
use Rattle.pisdf_meaning.specs.Run as run
use Rattle.pisdf_meaning.specs.declared.outcome.Iteration.{Iteration}
use Rattle.pisdf_meaning.specs.declared.refusal.Refusal.{Refusal}
use Rattle.quiescent_driver.specs.Reached.{Reached}
use Rattle.quiescent_driver.specs.Runs.{EndsLike, GrowsPartly, EndsRun, RanTo, answer_of, text_of}
use Rattle.quiescent_driver.specs.Iterated.{Checks, Gives, IsRefused, HaveIterated}
use Rattle.job_rules.specs.Items.{no_graph}
use Rattle.quiescent_driver.specs.Top.{top_of}
use Rattle.quiescent_driver.specs.Stepped.{EndsAt, PutsText, Steps, StopsAt}
use Rattle.quiescent_driver.specs.Stops.{refused_stop, run_end}
use Rattle.quiescent_driver.specs.Streams.{rest_of}
use Rattle.quiescent_driver.specs.Texts.{joined, texts_from, iteration_text}
use Rattle.quiescent_driver.specs.declared.end.RunEnd.{RunEnd}
use Rattle.quiescent_driver.specs.declared.end.RunEnd.TheVariants as end
use Rattle.quiescent_driver.specs.declared.stop.Stop.{Stop}
use Rattle.quiescent_driver.specs.declared.stop.Stop.TheVariants as stop

-- ---- texts

pub joined-append : (xs ys : List (List ℕ)) → joined (xs ++ ys) ≡ joined xs ++ joined ys
joined-append [] ys = refl
joined-append (x ∷ xs) ys = ap (λ t. x ++ t) (joined-append xs ys) ∙ sym (append_assoc x (joined xs) (joined ys))

pub grows_on : (a b c : Option (List ℕ)) (x y : List ℕ) → Grows a b x → Grows b c y → Grows a c (x ++ y)
grows_on a b c x y p q = λ told e. q (told ++ x) (p told e) ∙ ap (λ t. Some t) (append_assoc told x y)

pub grows_as : (a b : Option (List ℕ)) (x y : List ℕ) → x ≡ y → Grows a b x → Grows a b y
grows_as a b x y e p = subst (Grows a b) e p

pub grows_none : (a : Option (List ℕ)) → Grows a a []
grows_none a = λ told e. e ∙ ap (λ t. Some t) (sym (append-nil told))

pub grows_partly_as : (a b : Option (List ℕ)) (x y : List ℕ) → x ≡ y → GrowsPartly a b x → GrowsPartly a b y
grows_partly_as a b x y e p = subst (GrowsPartly a b) e p

pub partly_after : (had has new : Option (List ℕ)) (front text : List ℕ) → Grows had has front → GrowsPartly has new text → GrowsPartly had new (front ++ text)
partly_after had has new front text grows p =
    let taken : front ++ take p.0 text ≡ take (length front + p.0) (front ++ text) = sym (take-append-add front text p.0) in
    (length front + p.0, omega (arith, length-append front text, p.1), grows_as had new _ _ taken (grows_on had has new front (take p.0 text) grows p.2))

-- the texts of iterations, and that of one more
texts-snoc : (n : ℕ) (outputs : List Interface) (its : List Iteration) (i : Iteration) → texts_from n outputs (its ++ i ∷ []) ≡ texts_from n outputs its ++ iteration_text (n + length its) outputs i ∷ []
texts-snoc n outputs [] i = let e : n ≡ n + 0 = omega arith in ap (λ k. iteration_text k outputs i ∷ []) e
texts-snoc n outputs (x ∷ its) i =
    let e : n + 1 + length its ≡ n + length (x ∷ its) = omega arith in
    ap (λ t. iteration_text n outputs x ∷ t) (texts-snoc (n + 1) outputs its i ∙ ap (λ k. texts_from (n + 1) outputs its ++ iteration_text k outputs i ∷ []) e)

pub text-snoc : (g : Graphs) (its : List Iteration) (i : Iteration) → text_of g (its ++ i ∷ []) ≡ text_of g its ++ iteration_text (length its) (top_of g).outputs i
text-snoc g its i =
    let outputs = (top_of g).outputs in
    let n : 0 + length its ≡ length its = omega arith in
    ap joined (texts-snoc 0 outputs its i ∙ ap (λ k. texts_from 0 outputs its ++ iteration_text k outputs i ∷ []) n) ∙ joined-append (texts_from 0 outputs its) (iteration_text (length its) outputs i ∷ [])
    ∙ ap (λ t. text_of g its ++ t) (append-nil (iteration_text (length its) outputs i))

-- ---- what is left of the streams

pub drop_more : (k m : ℕ) (xs : List ℤ) → drop m (drop k xs) ≡ drop (k + m) xs
drop_more zero m xs = let e : m ≡ 0 + m = omega arith in ap (λ n. drop n xs) e
drop_more (suc k) m [] = drop-nil m ∙ sym (drop-nil (suc k + m))
drop_more (suc k) m (x ∷ xs) = let e : suc (k + m) ≡ suc k + m = omega arith in drop_more k m xs ∙ ap (λ n. drop n (x ∷ xs)) e

one_more_time : (done need : ℕ) → done * need + need ≡ suc done * need
one_more_time done need = grind arith

pub rest_next : (done : ℕ) (needs : List ℕ) (streams : List (List ℤ)) → run.left_by needs (rest_of done needs streams) ≡ rest_of (suc done) needs streams
rest_next done [] streams = refl
rest_next done (need ∷ needs) [] = refl
rest_next done (need ∷ needs) (t ∷ streams) =
    let first : drop need (drop (done * need) t) ≡ drop (suc done * need) t = drop_more (done * need) need t ∙ ap (λ n. drop n t) (one_more_time done need) in
    let others = rest_next done needs streams in cc

pub rest_first : (needs : List ℕ) (streams : List (List ℤ)) → rest_of 0 needs streams ≡ streams
rest_first [] streams = refl
rest_first (need ∷ needs) [] = refl
rest_first (need ∷ needs) (t ∷ streams) =
    let first : drop (0 * need) t ≡ t = let e : 0 * need ≡ 0 = omega arith in ap (λ n. drop n t) e in
    let others = rest_first needs streams in cc

-- ---- one iteration

abbrev State : Type 0
State = List (List ℤ)

-- what an iteration finds of its streams, and how the run goes on with it
abbrev pub found : Graphs → Graph → State → Result (Option run.Lack) Refusal
found g top streams = run.after_early g top (run.first_lack 0 (run.top_needs g) streams)

get_there : {X : Type 0} (xs : List X) (n : ℕ) → n < length xs → (x : X) × (slice_get xs n ≡ Some x)
get_there [] n lt = absurd (omega (arith, lt))
get_there (x ∷ xs) zero lt = (x, refl)
get_there (x ∷ xs) (suc n) lt = get_there xs n (omega (arith, lt))

-- there is a top graph
pub top_there : (g : Graphs) → g.top < length g.graphs → (top : Graph) × (slice_get g.graphs g.top ≡ Some top)
top_there g lt = get_there g.graphs g.top lt

-- an early check without a fault goes on to the streams
pub finds : (g : Graphs) (top : Graph) (streams : State) (lack : Option run.Lack) → early_faults g.graphs g.top [] ≡ [] → run.first_lack 0 (run.top_needs g) streams ≡ lack → found g top streams ≡ Ok lack
finds g top streams lack sound e = ap (λ f. unless_refused g.graphs top top.name f (run.first_lack 0 (run.top_needs g) streams)) sound ∙ ap (λ l. Ok l) e

pub checks : (g : Graphs) (top : Graph) (streams : State) (lack : Option run.Lack) → slice_get g.graphs g.top ≡ Some top → early_faults g.graphs g.top [] ≡ []
    → run.first_lack 0 (run.top_needs g) streams ≡ lack → Checks g streams (Ok lack)
checks g top streams lack is sound e =
    record {
      top = top;
      top_is = is;
      finds = finds g top streams lack sound e;
    }

pub gives : (g : Graphs) (s next tokens ins : State) (needs : List ℕ) (k : ℕ) (i : Iteration) → needs ≡ run.top_needs g → early_faults g.graphs g.top [] ≡ []
    → None ≡ run.first_lack 0 needs (rest_of k needs tokens) → ins ≡ run.taken needs (rest_of k needs tokens) → run.IterationGives g ins s i next → Gives g s (rest_of k (run.top_needs g) tokens) i next
gives g s next tokens ins needs k i e sound none is h =
    record {
      checks = checks g h.ends.top (rest_of k (run.top_needs g) tokens) None h.ends.top_is sound (ap (λ n. run.first_lack 0 n (rest_of k n tokens)) (sym e) ∙ sym none);
      gives = subst (λ x. run.IterationGives g x s i next) (is ∙ ap (λ n. run.taken n (rest_of k n tokens)) e) h;
    }

pub refused_by_one : (g : Graphs) (s tokens ins : State) (needs : List ℕ) (k : ℕ) (refusal : Refusal) → needs ≡ run.top_needs g → early_faults g.graphs g.top [] ≡ []
    → None ≡ run.first_lack 0 needs (rest_of k needs tokens) → ins ≡ run.taken needs (rest_of k needs tokens) → run.IterationEnds g ins s (Err refusal) → IsRefused g s (rest_of k (run.top_needs g) tokens) refusal
refused_by_one g s tokens ins needs k refusal e sound none is h =
    record {
      checks = checks g h.top (rest_of k (run.top_needs g) tokens) None h.top_is sound (ap (λ n. run.first_lack 0 n (rest_of k n tokens)) (sym e) ∙ sym none);
      ends = subst (λ x. run.IterationEnds g x s (Err refusal)) (is ∙ ap (λ n. run.taken n (rest_of k n tokens)) e) h;
    }

-- an iteration that isn't done ends the run, and nothing is put
pub ends_by : (g : Graphs) (k : ℕ) (s rest : State) (had : Option (List ℕ)) (f : ℕ) (stop : Stop) → StopsAt g s rest stop → EndsAt g k s rest had had f f (run_end stop)
ends_by g k s rest had f (stop.Short stream held needs) h = (h, grows_none had)
ends_by g k s rest had f (stop.Refused refusal) h = (h, grows_none had)
ends_by g k s rest had f stop.Memory h = grows_none had

-- an iteration whose text is put steps on
pub steps_by : (g : Graphs) (k : ℕ) (s next rest : State) (i : Iteration) (had has : Option (List ℕ)) (before now : ℕ) (result : Result (Unit {0}) RunEnd) → Gives g s rest i next
    → PutsText (iteration_text k (top_of g).outputs i) had has before now result → Steps g k s next rest had has before now result
steps_by g k s next rest i had has before now (Ok done) gives puts = (i, gives, puts)
steps_by g k s next rest i had has before now (Err (end.Done left)) gives puts = puts
steps_by g k s next rest i had has before now (Err (end.Short stream held needs)) gives puts = absurd puts
steps_by g k s next rest i had has before now (Err (end.Refused refusal)) gives puts = absurd puts
steps_by g k s next rest i had has before now (Err end.WriteFault) gives puts = (puts.0, i, next, gives, puts.1)
steps_by g k s next rest i had has before now (Err end.Memory) gives puts = puts

pub on_ok : (r : Result (Unit {0}) RunEnd) (P : Type 0) → P → OnOk r P
on_ok (Ok done) P p = p
on_ok (Err e) P p = tt

pub lacks : (g : Graphs) (tokens : State) (needs : List ℕ) (k : ℕ) (lack : run.Lack) → g.top < length g.graphs → needs ≡ run.top_needs g → early_faults g.graphs g.top [] ≡ []
    → Some lack ≡ run.first_lack 0 needs (rest_of k needs tokens) → Checks g (rest_of k (run.top_needs g) tokens) (Ok (Some lack))
lacks g tokens needs k lack lt e sound some =
    let top = top_there g lt in
    checks g top.0 (rest_of k (run.top_needs g) tokens) (Some lack) top.1 sound (ap (λ n. run.first_lack 0 n (rest_of k n tokens)) (sym e) ∙ sym some)

run_gives : (g : Graphs) (n : ℕ) (s next streams : State) (i : Iteration) (rest : run.Run) → Gives g s streams i next
    → run.RunsFrom g n next (run.left_by (run.top_needs g) streams) rest → run.RunsFrom g (suc n) s streams (run.after i rest)
run_gives g n s next streams i rest h more =
    let given = h.gives.given in
    let is : run.after i rest ≡ run.after (run.iteration_of given) rest = ap (λ j. run.after j rest) h.gives.iteration_is in
    let on = subst (λ t. run.RunsFrom g n t (run.left_by (run.top_needs g) streams) rest) h.gives.state_is more in
    (h.checks.top, h.checks.top_is, subst (λ f. run.AfterCheck g (run.RunsFrom g n) s streams f (run.after i rest)) (sym h.checks.finds) (Ok given, h.gives.ends, (rest, on, is)))

pub run_short : (g : Graphs) (n : ℕ) (s streams : State) (lack : run.Lack) → Checks g streams (Ok (Some lack)) → run.RunsFrom g (suc n) s streams (run.ended (run.Short lack))
run_short g n s streams lack h =
    (h.top, h.top_is, subst (λ f. run.AfterCheck g (run.RunsFrom g n) s streams f (run.ended (run.Short lack))) (sym h.finds) refl)

pub run_refused : (g : Graphs) (n : ℕ) (s streams : State) (refusal : Refusal) → IsRefused g s streams refusal → run.RunsFrom g (suc n) s streams (run.ended (run.Refused refusal))
run_refused g n s streams refusal h =
    (h.checks.top, h.checks.top_is, subst (λ f. run.AfterCheck g (run.RunsFrom g n) s streams f (run.ended (run.Refused refusal))) (sym h.checks.finds) (Err refusal, h.ends, refl))

pub run_unchecked : (g : Graphs) (n : ℕ) (s streams : State) (refusal : Refusal) → Checks g streams (Err refusal) → run.RunsFrom g (suc n) s streams (run.ended (run.Refused refusal))
run_unchecked g n s streams refusal h =
    (h.top, h.top_is, subst (λ f. run.AfterCheck g (run.RunsFrom g n) s streams f (run.ended (run.Refused refusal))) (sym h.finds) refl)

-- ---- the iterations so far

-- iterations, and then a run
abbrev pub then_run : List Iteration → run.Run → run.Run
then_run its rest = record { iterations = its ++ rest.iterations; end = rest.end }

pub counted : (g : Graphs) (streams : State) (k : ℕ) (its : List Iteration) (s : State) → HaveIterated g streams k its s → length its ≡ k
counted g streams zero its s h = ap (length {A = Iteration}) h.0
counted g streams (suc k) its s (before, from, i, h, gives, is) =
    let l = counted g streams k before from h in
    let e = ap (length {A = Iteration}) is in
    omega (arith, e, l, length-append before (i ∷ []))

pub after_snoc : (before : List Iteration) (i : Iteration) (rest : run.Run) → then_run before (run.after i rest) ≡ then_run (before ++ i ∷ []) rest
after_snoc before i rest = ap (λ its. record { iterations = its; end = rest.end }) (sym (append_assoc before (i ∷ []) rest.iterations))

-- the rest of the run, from the state that they leave
pub whole_run : (g : Graphs) (streams : State) (k m : ℕ) (its : List Iteration) (s : State) (rest : run.Run) → HaveIterated g streams k its s
    → run.RunsFrom g m s (rest_of k (run.top_needs g) streams) rest → run.IsRun g streams (k + m) (then_run its rest)
whole_run g streams zero m its s rest h more =
    let first = rest_first (run.top_needs g) streams in
    let on = subst (λ t. run.RunsFrom g m t streams rest) h.1 (subst (λ t. run.RunsFrom g m s t rest) first more) in
    let is : rest ≡ then_run its rest = ap (λ l. then_run l rest) (sym h.0) in
    let n : m ≡ 0 + m = omega arith in
    subst (λ q. run.IsRun g streams q (then_run its rest)) n (subst (λ r. run.IsRun g streams m r) is on)
whole_run g streams (suc k) m its s rest (before, from, i, h, gives, is) more =
    let next = subst (λ t. run.RunsFrom g m s t rest) (sym (rest_next k (run.top_needs g) streams)) more in
    let one = run_gives g m from s (rest_of k (run.top_needs g) streams) i rest gives next in
    let all = whole_run g streams k (suc m) before from (run.after i rest) h one in
    let n : k + suc m ≡ suc k + m = omega arith in
    let same : then_run before (run.after i rest) ≡ then_run its rest = after_snoc before i rest ∙ ap (λ l. then_run l rest) (sym is) in
    subst (λ r. run.IsRun g streams (suc k + m) r) same (subst (λ q. run.IsRun g streams q (then_run before (run.after i rest))) n all)

pub starts : (g : Graphs) (streams s : State) (had : Option (List ℕ)) → s ≡ initial g.graphs g.top → Reached g streams 0 s had had
starts g streams s had first = record { so_far = []; done = (refl, first); written = grows_none had }

-- the text of one more iteration
one_text : (g : Graphs) (streams : State) (k : ℕ) (its : List Iteration) (s : State) (i : Iteration) → HaveIterated g streams k its s
    → text_of g its ++ iteration_text k (top_of g).outputs i ≡ text_of g (its ++ i ∷ [])
one_text g streams k its s i h = ap (λ n. text_of g its ++ iteration_text n (top_of g).outputs i) (sym (counted g streams k its s h)) ∙ sym (text-snoc g its i)

pub goes_on : (g : Graphs) (streams : State) (k : ℕ) (s next : State) (had has new : Option (List ℕ)) (i : Iteration) → Reached g streams k s had has
    → Gives g s (rest_of k (run.top_needs g) streams) i next → Grows has new (iteration_text k (top_of g).outputs i) → Reached g streams (k + 1) next had new
goes_on g streams k s next had has new i r gives grows =
    let n : suc k ≡ k + 1 = omega arith in
    let done : HaveIterated g streams (suc k) (r.so_far ++ i ∷ []) next = (r.so_far, s, i, r.done, gives, refl) in
    record {
      so_far = r.so_far ++ i ∷ [];
      done = subst (λ m. HaveIterated g streams m (r.so_far ++ i ∷ []) next) n done;
      written = grows_as had new _ _ (one_text g streams k r.so_far s i r.done) (grows_on had has new (text_of g r.so_far) _ r.written grows);
    }

-- ---- how a run ends

pub rose_since : (a b c : ℕ) → a ≤ b → Rose b c → Rose a c
rose_since a b c le (inl lt) = inl (omega arith)
rose_since a b c le (inr last) = inr last

-- where the run ends here without an iteration, all its texts were written
all_written : (g : Graphs) (streams : State) (n k : ℕ) (s : State) (had has new : Option (List ℕ)) (e : run.RunEnd) → k ≤ n
    → Reached g streams k s had has → Grows has new [] → run.RunsFrom g (n - k) s (rest_of k (run.top_needs g) streams) (run.ended e) → RanTo g streams n had new e
all_written g streams n k s had has new e le r none rest =
    let whole = whole_run g streams k (n - k) r.so_far s (run.ended e) r.done rest in
    let m : k + (n - k) ≡ n = omega (arith, le) in
    let its : r.so_far ++ [] ≡ r.so_far = append-nil r.so_far in
    let text : text_of g r.so_far ++ [] ≡ text_of g (r.so_far ++ []) = append-nil (text_of g r.so_far) ∙ ap (text_of g) (sym its) in
    (then_run r.so_far (run.ended e), subst (λ q. run.IsRun g streams q (then_run r.so_far (run.ended e))) m whole, refl, grows_as had new _ _ text (grows_on had has new (text_of g r.so_far) [] r.written none))

pub one_less : (n k : ℕ) → k < n → suc (n - (k + 1)) ≡ n - k
one_less n k lt = omega arith

pub ends_at : (g : Graphs) (streams : State) (n k : ℕ) (s : State) (had has new : Option (List ℕ)) (first before now : ℕ) (e : RunEnd) → k < n → first ≤ before
    → Reached g streams k s had has → EndsAt g k s (rest_of k (run.top_needs g) streams) has new before now e → EndsRun g streams n had new first now e
ends_at g streams n k s had has new first before now (end.Done left) lt le r h = absurd h
ends_at g streams n k s had has new first before now (end.Short stream held needs) lt le r h =
    let lack : run.Lack = record { stream = stream; has = held; needs = needs } in
    all_written g streams n k s had has new (run.Short lack) (omega (arith, lt)) r h.1
    (subst (λ m. run.RunsFrom g m s (rest_of k (run.top_needs g) streams) (run.ended (run.Short lack))) (one_less n k lt) (run_short g (n - (k + 1)) s (rest_of k (run.top_needs g) streams) lack h.0))
ends_at g streams n k s had has new first before now (end.Refused refusal) lt le r h =
    all_written g streams n k s had has new (run.Refused refusal) (omega (arith, lt)) r h.1
    (subst (λ m. run.RunsFrom g m s (rest_of k (run.top_needs g) streams) (run.ended (run.Refused refusal))) (one_less n k lt) (run_refused g (n - (k + 1)) s (rest_of k (run.top_needs g) streams) refusal h.0))
ends_at g streams n k s had has new first before now end.WriteFault lt le r (rose, i, next, gives, grows) =
    let text = one_text g streams k r.so_far s i r.done in
    let done : HaveIterated g streams (suc k) (r.so_far ++ i ∷ []) next = (r.so_far, s, i, r.done, gives, refl) in
    (rose_since first before now le rose, (suc k, omega (arith, lt), r.so_far ++ i ∷ [], next, done, grows_partly_as had new _ _ text (partly_after had has new (text_of g r.so_far) _ r.written grows)))
ends_at g streams n k s had has new first before now end.Memory lt le r h =
    (k, omega (arith, lt), r.so_far, s, r.done, grows_as had new _ _ (append-nil (text_of g r.so_far)) (grows_on had has new (text_of g r.so_far) [] r.written h))

-- there was no memory for what comes next
pub starved_here : (g : Graphs) (streams : State) (n k : ℕ) (s : State) (had has : Option (List ℕ)) (before now : ℕ) → k ≤ n → Reached g streams k s had has → EndsRun g streams n had has before now end.Memory
starved_here g streams n k s had has before now le r = (k, le, r.so_far, s, r.done, r.written)

pub finished : (g : Graphs) (streams : State) (n : ℕ) (s : State) (had has : Option (List ℕ)) (left : List ℕ) → Reached g streams n s had has
    → left ≡ map (λ t. length t) (rest_of n (run.top_needs g) streams) → RanTo g streams n had has (run.Done left)
finished g streams n s had has left r is =
    let none : 0 ≡ n - n = omega arith in
    let over : run.RunsFrom g 0 s (rest_of n (run.top_needs g) streams) (run.ended (run.Done left)) = ap (λ l. run.ended (run.Done l)) is in
    all_written g streams n n s had has has (run.Done left) (omega arith) r (grows_none has) (subst (λ m. run.RunsFrom g m s (rest_of n (run.top_needs g) streams) (run.ended (run.Done left))) none over)

-- there was no memory before the first iteration
pub starved_run : (g : Graphs) (streams : State) (n : ℕ) (had : Option (List ℕ)) (before now : ℕ) → EndsRun g streams n had had before now end.Memory
starved_run g streams n had before now = (0, omega arith, [], initial g.graphs g.top, (refl, refl), grows_none had)

-- no iteration was asked for
pub nothing_run : (g : Graphs) (streams : State) (had : Option (List ℕ)) (left : List ℕ) → left ≡ map (λ t. length t) streams → RanTo g streams 0 had had (run.Done left)
nothing_run g streams had left is = (run.ended (run.Done left), ap (λ l. run.ended (run.Done l)) is, refl, grows_none had)

-- the early check of the first iteration refuses the run
pub refused_first : (g : Graphs) (streams : State) (n : ℕ) (had : Option (List ℕ)) (refusal : Refusal) → 0 < n → Checks g streams (Err refusal) → RanTo g streams n had had (run.Refused refusal)
refused_first g streams n had refusal lt h =
    let m : suc (n - 1) ≡ n = omega (arith, lt) in
    (run.ended (run.Refused refusal), subst (λ q. run.IsRun g streams q (run.ended (run.Refused refusal))) m (run_unchecked g (n - 1) (initial g.graphs g.top) streams refusal h), refl, grows_none had)

-- the early check of the first iteration may refuse a run that has one
pub unchecked : (g : Graphs) (streams : State) (n : ℕ) (had : Option (List ℕ)) (before now : ℕ) (fault : PlainFault) → 0 < n → g.top < length g.graphs
    → IfRefused (λ refusal. (top : Graph) (lack : Option run.Lack) → slice_get g.graphs g.top ≡ Some top → run.after_early g top lack ≡ Err refusal) fault
    → EndsRun g streams n had had before now (run_end (refused_stop fault))
unchecked g streams n had before now (plain.Refused refusal) lt there h =
    let top = top_there g there in
    refused_first g streams n had refusal lt record { top = top.0; top_is = top.1; finds = h top.0 (run.first_lack 0 (run.top_needs g) streams) top.1 }
unchecked g streams n had before now plain.Memory lt there h = starved_run g streams n had before now

index_is : {X : Type 0} (xs : List X) (n : ℕ) (x d : X) → slice_get xs n ≡ Some x → slice_index_or xs n d ≡ x
index_is [] n x d h = absurd cc
index_is (y ∷ ys) zero x d h = cc
index_is (y ∷ ys) (suc n) x d h = index_is ys n x d h

pub top_is : (g : Graphs) (top : Graph) → slice_get g.graphs g.top ≡ Some top → top_of g ≡ top
top_is g top h = index_is g.graphs g.top top no_graph h

-- ---- a run has one end

module _ (g : Graphs) (streams : State) (n : ℕ) (had has : Option (List ℕ)) (law : HasOneRun g) where
  ends_as : (e : run.RunEnd) → RanTo g streams n had has e → (r : run.Run) → run.IsRun g streams n r → (answer_of e ≡ answer_of r.end) × Grows had has (text_of g r.iterations)
  ends_as e (ran, is, ends, grows) r other =
      let same : ran ≡ r = law streams n ran r is other in (
        ap answer_of (sym ends ∙ ap (λ (x : run.Run). x.end) same),
        subst (λ (x : run.Run). Grows had has (text_of g x.iterations)) same grows,
      )

  pub ends_like : (before now : ℕ) (e : RunEnd) → EndsRun g streams n had has before now e → (r : run.Run) → run.IsRun g streams n r → EndsLike g r had has before now e
  ends_like before now (end.Done left) h r is = inl (ends_as (run.Done left) h r is)
  ends_like before now (end.Short stream held needs) h r is = inl (ends_as (run.Short record { stream = stream; has = held; needs = needs }) h r is)
  ends_like before now (end.Refused refusal) h r is = inl (ends_as (run.Refused refusal) h r is)
  ends_like before now end.WriteFault h r is = inr (inr (refl, h.0))
  ends_like before now end.Memory h r is = inr (inl refl)
