-- The iterations of a run: each state is one, and such that a board begins with it.
use Rattle.std.proofs.Common.{◌≡◌, ℕ, zero, suc, ◌+◌, ◌*◌, ℤ, Bool, true, false, nat_lt, if◌then◌else◌, List, [], ◌∷◌, length, take, drop, slice_get, slice_index_or, Option, Some, None, Ok, refl, sym, ap, ◌∙◌, subst, arith}
use Rattle.std.proofs.lemmas.Bool.{ltb-false}
use Rattle.std.proofs.lemmas.List.{drop-drop, length-map, length-take}
use Rattle.kernel_gate.specs.Signed.{SignatureView}
use Rattle.kernel_gate.specs.Value.{lengths}
use Rattle.param_resolver.specs.EarlyCheck.{Checked, check_by, check_to, early_faults, early_numbers}
use Rattle.param_resolver.specs.Rates.{rate_under}
use Rattle.param_resolver.specs.Refusal as part
use Rattle.std.specs.Result.{result_unwrap_or}
use Rattle.pisdf_model.specs.declared.graph.Graph.{Graph}
use Rattle.pisdf_model.specs.declared.graph.Graphs.{Graphs}
use Rattle.pisdf_model.specs.declared.graph.Interface.{Interface}
use Rattle.pisdf_meaning.specs.Causes.{unless_refused}
use Rattle.pisdf_meaning.specs.Endings.{End}
use Rattle.pisdf_meaning.specs.Laws.{HasOneMeaning}
use Rattle.pisdf_meaning.specs.Meaning.{Means}
use Rattle.pisdf_meaning.specs.Run.{IterationEnds, IterationGives, Lack, first_lack, iteration_of, left_by, taken, top_firing, top_needs}
use Rattle.pisdf_meaning.specs.Sizes.{KeepsSizes}
use Rattle.pisdf_meaning.specs.declared.firing.Given.{Given}
use Rattle.pisdf_meaning.specs.declared.outcome.Iteration.{Iteration}
use Rattle.job_rules.specs.Items.{no_graph}
use Rattle.board_rules.specs.Keys.{IsKey}
use Rattle.quiescent_driver.specs.Given.{IsTopState}
use Rattle.quiescent_driver.specs.Iterated.{Checks, HaveIterated}
use Rattle.quiescent_driver.specs.Journals.{key_at}
use Rattle.quiescent_driver.specs.Streams.{rest_of}
use Rattle.quiescent_driver.specs.Top.{top_of}
use Rattle.journal_laws.specs.Texts.{MayRun}

-- ---- what is left of the streams

one_more_time : (done need : ℕ) → done * need + need ≡ suc done * need
one_more_time done need = grind arith

pub rest_next : (done : ℕ) (needs : List ℕ) (streams : List (List ℤ)) → left_by needs (rest_of done needs streams) ≡ rest_of (suc done) needs streams
rest_next done [] streams = refl
rest_next done (need ∷ needs) [] = refl
rest_next done (need ∷ needs) (t ∷ streams) =
    let first : drop need (drop (done * need) t) ≡ drop (suc done * need) t = drop-drop need (done * need) t ∙ ap (λ n. drop n t) (one_more_time done need) in
    let others = rest_next done needs streams in
    λ x. first x ∷ others x

pub rest_first : (needs : List ℕ) (streams : List (List ℤ)) → rest_of 0 needs streams ≡ streams
rest_first [] streams = refl
rest_first (need ∷ needs) [] = refl
rest_first (need ∷ needs) (t ∷ streams) =
    let first : drop (0 * need) t ≡ t = (let e : 0 * need ≡ 0 = omega arith in ap (λ n. drop n t) e) in
    let others = rest_first needs streams in
    λ x. first x ∷ others x

rest_long : (done : ℕ) (needs : List ℕ) (streams : List (List ℤ)) → length streams ≡ length needs → length (rest_of done needs streams) ≡ length needs
rest_long done [] streams e = e
rest_long done (need ∷ needs) [] e = absurd (omega arith)
rest_long done (need ∷ needs) (t ∷ streams) e = ap suc (rest_long done needs streams (omega arith))

else_none : (b : Bool) (x : Lack) (o : Option Lack) → (if b then Some x else o) ≡ None → (b ≡ false) × (o ≡ None)
else_none true x o h = absurd (cc)
else_none false x o h = (refl, h)

-- where no stream lacks tokens, each gives what is needed
taken_fits : (s : ℕ) (needs : List ℕ) (streams : List (List ℤ)) → length streams ≡ length needs → first_lack s needs streams ≡ None → lengths (taken needs streams) ≡ needs
taken_fits s [] streams e none = refl
taken_fits s (need ∷ needs) [] e none = absurd (omega arith)
taken_fits s (need ∷ needs) (t ∷ streams) e none =
    let has = else_none (nat_lt (length t) need) record { stream = s; has = length t; needs = need } (first_lack (s + 1) needs streams) none in
    let enough = ltb-false (length t) need has.0 in
    let cut = length-take need t in
    let first : length (take need t) ≡ need = omega arith in
    let rest = taken_fits (s + 1) needs streams (omega arith) has.1 in
    λ x. first x ∷ rest x

-- ---- the early check

pub unrefused : {T : Type 0} (graphs : List Graph) (g : Graph) (path : List ℕ) (faults : List part.Refusal) (value v : T) → unless_refused graphs g path faults value ≡ Ok v → (faults ≡ []) × (value ≡ v)
unrefused graphs g path [] value v e = (refl, cc)
unrefused graphs g path (refusal ∷ faults) value v e = absurd (cc)

abbrev inputs_of : Option Graph → ℕ
inputs_of None = 0
inputs_of (Some g) = length g.inputs

by_inputs : (graphs : List Graph) (check : ℕ → List ℤ → Checked) (o : Option Graph) (inherited : List ℤ) → length (check_by check graphs o inherited).early.inputs ≡ inputs_of o
by_inputs graphs check None inherited = refl
by_inputs graphs check (Some g) inherited = length-map g.inputs (λ (x : Interface). result_unwrap_or (rate_under (early_numbers g inherited) x.rate) 0)

needs_long : (n : ℕ) (graphs : List Graph) (place : ℕ) (inherited : List ℤ) → length (check_to (suc n) graphs place inherited).early.inputs ≡ inputs_of (slice_get graphs place)
unfolding check_to
needs_long n graphs place inherited = by_inputs graphs (check_to n graphs) (slice_get graphs place) inherited

index_is : (graphs : List Graph) (n : ℕ) (g : Graph) → slice_get graphs n ≡ Some g → slice_index_or graphs n no_graph ≡ g
index_is [] n g h = absurd (cc)
index_is (x ∷ graphs) zero g h = cc
index_is (x ∷ graphs) (suc n) g h = index_is graphs n g h

module _ (graphs : Graphs) where
  abbrev State : Type 0
  State = List (List ℤ)

  abbrev pub needs : List ℕ
  needs = top_needs graphs

  top_long : (top : Graph) → slice_get graphs.graphs graphs.top ≡ Some top → length needs ≡ length (top_of graphs).inputs
  top_long top is = needs_long 7 graphs.graphs graphs.top [] ∙ (ap inputs_of is ∙ sym (ap (λ (g : Graph). length g.inputs) (index_is graphs.graphs graphs.top top is)))

  -- an early check that goes on has found no fault, and no stream that lacks tokens
  pub sound_by : (streams : State) → Checks graphs streams (Ok None) → early_faults graphs.graphs graphs.top [] ≡ []
  sound_by streams c = (unrefused graphs.graphs c.top c.top.name (early_faults graphs.graphs graphs.top []) (first_lack 0 needs streams) None c.finds).0

  pub none_lacks : (streams : State) → Checks graphs streams (Ok None) → first_lack 0 needs streams ≡ None
  none_lacks streams c = (unrefused graphs.graphs c.top c.top.name (early_faults graphs.graphs graphs.top []) (first_lack 0 needs streams) None c.finds).1

  -- ---- once

  module _ (law : HasOneMeaning graphs.graphs) where
    one_end : (ins state : State) (one other : End) → IterationEnds graphs ins state one → IterationEnds graphs ins state other → one ≡ other
    one_end ins state one other a b =
        let same : a.top ≡ b.top = (let e = sym a.top_is ∙ b.top_is in cc) in
        let P : Graph → Type 0 = λ t. Means graphs.graphs (top_firing t graphs.top ins state) one in
        law (top_firing b.top graphs.top ins state) one other (subst P same a.means) b.means

    gives_once : (ins state : State) (i j : Iteration) (next later : State) → IterationGives graphs ins state i next → IterationGives graphs ins state j later → (i ≡ j) × (next ≡ later)
    gives_once ins state i j next later a b =
        let same : a.given ≡ b.given = (let e : ◌≡◌ {A = End} (Ok a.given) (Ok b.given) = one_end ins state (Ok a.given) (Ok b.given) a.ends b.ends in cc) in
        (a.iteration_is ∙ ap iteration_of same ∙ sym b.iteration_is, a.state_is ∙ ap (λ (x : Given). x.state) same ∙ sym b.state_is)

    -- so many iterations leave one state
    pub iterated_once : (streams : State) (k : ℕ) (before : List Iteration) (state : State) (others : List Iteration) (other : State) → HaveIterated graphs streams k before state → HaveIterated graphs streams k others other → state ≡ other
    iterated_once streams zero before state others other a b = a.1 ∙ sym b.1
    iterated_once streams (suc k) before state others other a b =
        let from : a.1 ≡ b.1 = iterated_once streams k a.0 a.1 b.0 b.1 a.3 b.3 in
        let P : State → Type 0 = λ s. IterationGives graphs (taken needs (rest_of k needs streams)) s a.2 state in
        (gives_once (taken needs (rest_of k needs streams)) b.1 a.2 b.2 state other (subst P from a.4.gives) b.4.gives).1

  -- ---- such that a board begins with it

  pub top_state : (keeps : KeepsSizes graphs.graphs) (streams : State) (k : ℕ) (before : List Iteration) (state : State) → HaveIterated graphs streams k before state → IsTopState graphs state
  top_state keeps streams zero before state a = ap lengths a.1
  top_state keeps streams (suc k) before state a =
      let first = top_state keeps streams k a.0 a.1 a.3 in
      let gives = a.4.gives in
      ap lengths gives.state_is ∙ (keeps (top_firing gives.ends.top graphs.top (taken needs (rest_of k needs streams)) a.1) gives.given (sound_by (rest_of k needs streams) a.4.checks) first gives.ends.means).state

  pub key_so : (kernels : List SignatureView) (streams : State) (iterations workers : ℕ) → MayRun graphs kernels streams iterations workers → (k : ℕ) (state : State) → IsTopState graphs state → Checks graphs (rest_of k needs streams) (Ok None) → IsKey (key_at graphs kernels streams workers k state)
  key_so kernels streams iterations workers may k state fits c =
      let long : length streams ≡ length needs = may.fit ∙ sym (top_long c.top c.top_is) in
      record {
        valid = may.valid;
        lengths = may.lengths;
        fit = record {
          g = c.top;
          here = c.top_is;
          sound = sound_by (rest_of k needs streams) c;
          inputs = taken_fits 0 needs (rest_of k needs streams) (rest_long k needs streams long) (none_lacks (rest_of k needs streams) c);
          state = fits;
        };
        some = may.some;
        few = may.few;
      }
