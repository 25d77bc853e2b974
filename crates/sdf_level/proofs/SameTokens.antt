-- Runs told by what each firing made; and the same told of any other list.
use Rattle.std.proofs.Common.{◌≡◌, ℕ, ◌+◌, ◌<◌, ◌≤◌, ◌==◌, ⊎_elim, if◌then◌else◌, List, [], ◌∷◌, ◌++◌, slice_index, Result, Ok, Err, refl, ap, sym, ◌∙◌, append_assoc, subst, arith}
use Rattle.std.proofs.lemmas.Bool.{cases_eq, eq-eqb, ne_eqb}
use Rattle.std.proofs.lemmas.List.{append-nil}
use Rattle.sdf_level.specs.View.{LevelView}
use Rattle.sdf_level.specs.Invariants.{how_many}
use Rattle.sdf_level.specs.Firings.{firings, CanFire, EachFiring}
use Rattle.sdf_level.specs.Orders.{IsAdmissible}
use Rattle.sdf_level.specs.Run.{Fire, inputs, is_into_actor, put, GoesOn, RunsFrom, Runs}
use Rattle.sdf_level.specs.LevelRun.{GivesRates, HaveDelays, HaveRates}
use Rattle.sdf_level.specs.Told.{Made, lines_after, reads_after, Tells, IsTold, MeetsFault, IsFaultTold}
use Rattle.sdf_level.proofs.FiringLists.{firings-moved, firings-own, firings-snoc_own, firings-snoc_other, firings-snoc_more, firing_at}
use Rattle.sdf_level.proofs.Lines.{lines_same, lines_put, lines_start}
use Rattle.sdf_level.proofs.SameInputs.{inputs_same}

module _ {T F : Type 0} (level : LevelView) (fire : Fire T F) (sources delays : List (List T)) where
  abbrev lines : Made T → List ℕ → List (List T)
  lines made before = lines_after level delays made before

  abbrev reads : Made T → List ℕ → ℕ → List (List T)
  reads made before b = reads_after level sources delays made before b

  abbrev Each : Made T → List ℕ → List ℕ → Type 0
  Each made before rest = EachFiring (Tells level fire sources delays made) before rest

  more_lines : (made : Made T) (before : List ℕ) (b : ℕ) → put b (made b (firings b before)) level.links (lines made before) ≡ lines made (before ++ b ∷ [])
  more_lines made before b = lines_put made (λ a. firings a before) (λ a. firings a (before ++ b ∷ [])) b level.links delays (let s = firings-snoc_own b before in omega arith) (λ a n. firings-snoc_other a b before (λ e. n (sym e)))

  at_start : (made : Made T) → lines made [] ≡ delays
  at_start made = lines_start made (λ a. firings a []) level.links delays (λ a. refl)

  -- what is told comes so
  run_told : (made : Made T) (before rest : List ℕ) → Each made before rest → RunsFrom level fire sources before (lines made before) rest (Ok (lines made (before ++ rest)))
  run_told made before [] each = ap (λ (l : List ℕ). Ok (lines made l)) (append-nil before)
  run_told made before (b ∷ rest) each =
      let later = run_told made (before ++ b ∷ []) rest each.1 in
      let P : List (List T) → Type 0 = λ l. RunsFrom level fire sources (before ++ b ∷ []) l rest (Ok (lines made (before ++ b ∷ rest))) in
      let Q : List ℕ → Type 0 = λ l. RunsFrom level fire sources (before ++ b ∷ []) (lines made (before ++ b ∷ [])) rest (Ok (lines made l)) in
      (Ok (made b (firings b before)), each.0, subst P (sym (more_lines made before b)) (subst Q (append_assoc before (b ∷ []) rest) later))

  run_faulted : (made : Made T) (before first after : List ℕ) (b : ℕ) (fault : F) → Each made before first → fire b (firings b (before ++ first)) (reads made (before ++ first) b) (Err fault) → RunsFrom level fire sources before (lines made before) (first ++ b ∷ after) (Err fault)
  run_faulted made before [] after b fault each gives = let P : List ℕ → Type 0 = λ l. fire b (firings b l) (reads made l b) (Err fault) in (Err fault, subst P (append-nil before) gives, refl)
  run_faulted made before (c ∷ first) after b fault each gives =
      let P : List ℕ → Type 0 = λ l. fire b (firings b l) (reads made l b) (Err fault) in
      let later = run_faulted made (before ++ c ∷ []) first after b fault each.1 (subst P (sym (append_assoc before (c ∷ []) first)) gives) in
      let Q : List (List T) → Type 0 = λ l. RunsFrom level fire sources (before ++ c ∷ []) l (first ++ b ∷ after) (Err fault) in
      (Ok (made c (firings c before)), each.0, subst Q (sym (more_lines made before c)) later)

  -- the table with one firing more
  abbrev with : Made T → ℕ → ℕ → List (List T) → Made T
  with made b k outputs a j = if a == b then (if j == k then outputs else made a j) else made a j

  with_own : (made : Made T) (b k : ℕ) (outputs : List (List T)) → with made b k outputs b k ≡ outputs
  with_own made b k outputs = rw (eq-eqb b b refl, eq-eqb k k refl) refl

  with_other : (made : Made T) (b k : ℕ) (outputs : List (List T)) (a j : ℕ) → ((a ≡ b) → j < k) → with made b k outputs a j ≡ made a j
  with_other made b k outputs a j h = ⊎_elim
      (λ (e : a ≡ b). rw (eq-eqb a b e, ne_eqb j k (λ f. let l = h e in omega arith)) refl)
      (λ (n : a ≡ b → ⊥). rw (ne_eqb a b n) refl)
      (cases_eq a b)

  abbrev Agree : List ℕ → Made T → Made T → Type 0
  Agree before made other = (a j : ℕ) → j < firings a before → made a j ≡ other a j

  -- what the table says of an end
  abbrev Ends : Made T → List ℕ → List ℕ → Result (List (List T)) F → Type 0
  Ends made before rest (Ok final) = Each made before rest × (final ≡ lines made (before ++ rest))
  Ends made before rest (Err fault) = MeetsFault level fire sources delays made before rest fault

  abbrev Told : Made T → List ℕ → List ℕ → Result (List (List T)) F → Type 0
  Told first before rest end = (made : Made T) × Agree before made first × Ends made before rest end

  ends_more : (made : Made T) (before rest : List ℕ) (b : ℕ) (end : Result (List (List T)) F) → Tells level fire sources delays made before b → Ends made (before ++ b ∷ []) rest end → Ends made before (b ∷ rest) end
  ends_more made before rest b (Ok final) tells ends = ((tells, ends.0), ends.1 ∙ ap (lines made) (append_assoc before (b ∷ []) rest))
  ends_more made before rest b (Err fault) tells ends =
      let P : List ℕ → Type 0 = λ l. fire ends.actor (firings ends.actor l) (reads made l ends.actor) (Err fault) in
      record {
        first = b ∷ ends.first;
        actor = ends.actor;
        after = ends.after;
        rest_is = ap (λ (l : List ℕ). b ∷ l) ends.rest_is;
        each = (tells, ends.each);
        gives = subst P (append_assoc before (b ∷ []) ends.first) ends.gives;
      }

  told_run : (first : Made T) (before rest : List ℕ) (end : Result (List (List T)) F) → RunsFrom level fire sources before (lines first before) rest end → Told first before rest end
  told_run first before [] end e =
      let P : Result (List (List T)) F → Type 0 = λ x. Ends first before [] x in
      let here : P (Ok (lines first before)) = (tt, ap (lines first) (sym (append-nil before))) in
      (first, (λ a j h. refl), subst P (sym e) here)
  told_run first before (b ∷ rest) end e = go e.0 e.1 e.2 (λ next f. told_run next (before ++ b ∷ []) rest end f)
    where
      go : (answer : Result (List (List T)) F) → fire b (firings b before) (reads first before b) answer →
          GoesOn (λ outputs. RunsFrom level fire sources (before ++ b ∷ []) (put b outputs level.links (lines first before)) rest end) end answer →
          ((next : Made T) → RunsFrom level fire sources (before ++ b ∷ []) (lines next (before ++ b ∷ [])) rest end → Told next (before ++ b ∷ []) rest end) → Told first before (b ∷ rest) end
      go (Err fault) is e recur =
          let P : Result (List (List T)) F → Type 0 = λ x. Ends first before (b ∷ rest) x in
          let Q : List ℕ → Type 0 = λ l. fire b (firings b l) (reads first l b) (Err fault) in
          let here : P (Err fault) = record { first = []; actor = b; after = rest; rest_is = refl; each = tt; gives = subst Q (sym (append-nil before)) is } in
          (first, (λ a j h. refl), subst P (sym e) here)
      go (Ok outputs) is e recur =
          let next : Made T = with first b (firings b before) outputs in
          let kept : Agree before next first = λ a j h. with_other first b (firings b before) outputs a j (λ f. let P : ℕ → Type 0 = λ x. j < firings x before in subst P f h) in
          let same : lines first before ≡ lines next before = sym (lines_same next first (λ a. firings a before) (λ a. firings a before) level.links delays (λ a. refl) kept) in
          let put_is : put b outputs level.links (lines first before) ≡ lines next (before ++ b ∷ []) = ap (put b outputs level.links) same ∙ ap (λ (o : List (List T)). put b o level.links (lines next before)) (sym (with_own first b (firings b before) outputs)) ∙ more_lines next before b in
          let R : List (List T) → Type 0 = λ l. RunsFrom level fire sources (before ++ b ∷ []) l rest end in
          let later = recur next (subst R put_is e) in
          let agrees : Agree before later.0 first = λ a j h. later.1 a j (let m = firings-snoc_more a b before in omega arith) ∙ kept a j h in
          let own : later.0 b (firings b before) ≡ outputs = later.1 b (firings b before) (let s = firings-snoc_own b before in omega arith) ∙ with_own first b (firings b before) outputs in
          let lines_are : lines later.0 before ≡ lines first before = lines_same later.0 first (λ a. firings a before) (λ a. firings a before) level.links delays (λ a. refl) agrees in
          let S : List (List T) → Type 0 = λ l. fire b (firings b before) (inputs sources b (firings b before) level.links l) (Ok outputs) in
          let U : List (List T) → Type 0 = λ o. fire b (firings b before) (reads later.0 before b) (Ok o) in
          (later.0, agrees, ends_more later.0 before rest b end (subst U (sym own) (subst S (sym lines_are) is)) later.2)

  nothing : Made T
  nothing a j = []

  -- from the start
  told_whole : (list : List ℕ) (end : Result (List (List T)) F) → Runs level fire sources delays list end → Told nothing [] list end
  told_whole list end run = let P : List (List T) → Type 0 = λ l. RunsFrom level fire sources [] l list end in told_run nothing [] list end (subst P (sym (at_start nothing)) run)

  pub told_lines : (list : List ℕ) (final : List (List T)) → Runs level fire sources delays list (Ok final) → IsTold level fire sources delays list final
  told_lines list final run = let told = told_whole list (Ok final) run in record { made = told.0; each = told.2.0; lines_are = told.2.1 }

  pub lines_told : (list : List ℕ) (final : List (List T)) → IsTold level fire sources delays list final → Runs level fire sources delays list (Ok final)
  lines_told list final told =
      let P : List (List T) → Type 0 = λ l. RunsFrom level fire sources [] l list (Ok (lines told.made list)) in
      let Q : List (List T) → Type 0 = λ l. RunsFrom level fire sources [] delays list (Ok l) in
      subst Q (sym told.lines_are) (subst P (at_start told.made) (run_told told.made [] list told.each))

  pub told_fault : (list : List ℕ) (fault : F) → Runs level fire sources delays list (Err fault) → IsFaultTold level fire sources delays list fault
  told_fault list fault run = let told = told_whole list (Err fault) run in record { made = told.0; meets = told.2 }

  pub fault_told : (list : List ℕ) (fault : F) → IsFaultTold level fire sources delays list fault → Runs level fire sources delays list (Err fault)
  fault_told list fault told =
      let m = told.meets in
      let P : List (List T) → Type 0 = λ l. RunsFrom level fire sources [] l (m.first ++ m.actor ∷ m.after) (Err fault) in
      let Q : List ℕ → Type 0 = λ l. RunsFrom level fire sources [] delays l (Err fault) in
      subst Q (sym m.rest_is) (subst P (at_start told.made) (run_faulted told.made [] m.first m.after m.actor fault m.each m.gives))

  -- each firing of two facts
  both : (P Q : List ℕ → ℕ → Type 0) (before rest : List ℕ) → EachFiring P before rest → EachFiring Q before rest → EachFiring (λ at b. P at b × Q at b) before rest
  both P Q before [] p q = tt
  both P Q before (b ∷ rest) p q = ((p.0, q.0), both P Q (before ++ b ∷ []) rest p.1 q.1)

  prefixes : (q before rest : List ℕ) → ((a : ℕ) → firings a before + firings a rest ≤ slice_index q a) → EachFiring (λ at c. (a : ℕ) → firings a at ≤ slice_index q a) before rest
  prefixes q before [] within = tt
  prefixes q before (b ∷ rest) within = ((λ a. let w = within a in omega arith), prefixes q (before ++ b ∷ []) rest (λ a. let w = within a in let m = firings-moved a b before rest in omega arith))

  module _ (q one : List ℕ) (made : Made T) (gives : GivesRates level fire) (admissible : IsAdmissible level q one) (told : Each made [] one) where
    pub rates : (a j : ℕ) → j < slice_index q a → HaveRates a (made a j) level.links
    rates a j h =
        let at = firing_at (Tells level fire sources delays made) [] one a j told (omega arith) (let e = admissible.counts a in omega arith) in
        let P : ℕ → Type 0 = λ n. HaveRates a (made a n) level.links in
        subst P at.1 (gives a (firings a at.0) (reads made at.0 a) (made a (firings a at.0)) at.2)

    module _ (starting : HaveDelays level.links delays) where
      -- the table tells every other list
      told_other : (before rest : List ℕ) → ((a : ℕ) → firings a before + firings a rest ≤ slice_index q a) → EachFiring (CanFire level) before rest → Each made before rest
      told_other before [] within each = tt
      told_other before (b ∷ rest) within each =
          let k : ℕ = firings b before in
          let one_more : firings b (b ∷ rest) ≡ 1 + firings b rest = firings-own b rest in
          let left : k < slice_index q b = let w = within b in omega arith in
          let P : List ℕ → ℕ → Type 0 = λ at c. (CanFire level at c × Tells level fire sources delays made at c) × ((a : ℕ) → firings a at ≤ slice_index q a) in
          let at = firing_at P [] one b k (both (λ at c. CanFire level at c × Tells level fire sources delays made at c) (λ at c. (a : ℕ) → firings a at ≤ slice_index q a) [] one (both (CanFire level) (Tells level fire sources delays made) [] one admissible.each told) (prefixes q [] one (λ a. let e = admissible.counts a in omega arith))) (omega arith) (let e = admissible.counts b in omega arith) in
          let same : inputs sources b k level.links (lines made before) ≡ inputs sources b k level.links (lines made at.0) =
          inputs_same sources made (λ a. slice_index q a) b k (λ a. firings a before) (λ a. firings a at.0) refl at.1 (λ a. let w = within a in omega arith) at.2.1 level.links delays (how_many (is_into_actor b) level.links) starting rates each.0 at.2.0.0 in
          let R : ℕ → Type 0 = λ n. fire b n (inputs sources b n level.links (lines made at.0)) (Ok (made b n)) in
          let there : R k = subst R at.1 at.2.0.1 in
          let S : List (List T) → Type 0 = λ i. fire b k i (Ok (made b k)) in
          (subst S (sym same) there, told_other (before ++ b ∷ []) rest (λ a. let w = within a in let m = firings-moved a b before rest in omega arith) each.1)

      pub told_others : (other : List ℕ) → IsAdmissible level q other → Each made [] other
      told_others other of_other = told_other [] other (λ a. let c = of_other.counts a in omega arith) of_other.each

  -- where one admissible list meets no fault, every other comes to the same lines
  pub same_tokens : (q one other : List ℕ) (final : List (List T)) → GivesRates level fire → HaveDelays level.links delays → IsAdmissible level q one → IsAdmissible level q other →
      Runs level fire sources delays one (Ok final) → Runs level fire sources delays other (Ok final)
  same_tokens q one other final gives starting of_one of_other run =
      let told = told_lines one final run in
      let again = told_others q one told.made gives of_one told.each starting other of_other in
      let agree : lines told.made one ≡ lines told.made other = lines_same told.made told.made (λ a. firings a one) (λ a. firings a other) level.links delays (λ a. of_one.counts a ∙ sym (of_other.counts a)) (λ a j h. refl) in
      lines_told other final record { made = told.made; each = again; lines_are = told.lines_are ∙ agree }
