-- Configuration actors at their start, one after the other.
use Rattle.std.proofs.Common.{◌≡◌, ℕ, zero, suc, ◌+◌, ◌<◌, List, [], ◌∷◌, ◌++◌, length, map, replicate, get_or, slice_get, Option, Some, None, refl, sym, ap, ◌∙◌, subst, arith, ⊎_elim, inl, inr, length-append}
use Rattle.std.specs.Prelude.{◌⊎◌}
use Rattle.std.specs.List.{All}
use Rattle.std.proofs.lemmas.List.{map-append}
use Rattle.kernel_gate.specs.Value.{FrameView}
use Rattle.nested_jobs.specs.Marks.{Free}
use Rattle.pisdf_model.specs.declared.graph.Graph.{Graph}
use Rattle.pisdf_meaning.specs.Configuring.{configurations, config_rates}
use Rattle.pisdf_meaning.specs.declared.firing.Configured.{Configured}
use Rattle.pisdf_meaning.specs.declared.firing.Firing.{Firing}
use Rattle.pisdf_meaning.specs.declared.outcome.TraceRow.{TraceRow}
use Rattle.job_preparing.specs.Unclaimed.{AreUnclaimed}
use Rattle.job_preparing.specs.Stages.{lent_of, mark_of}
use Rattle.job_preparing.specs.Standing.{IsOwn, StandsRight}
use Rattle.job_preparing.specs.View.{task_of}
use Rattle.job_preparing.specs.declared.stage.Stage.{Stage}

-- what stands at a place of a list with one more element
pub read_more : {X : Type 0} (xs : List X) (x : X) (k : ℕ) (y : X) → slice_get (xs ++ x ∷ []) k ≡ Some y → (slice_get xs k ≡ Some y) ⊎ ((k ≡ length xs) × (y ≡ x))
read_more [] x zero y e = inr (refl, cc)
read_more [] x (suc k) y e = absurd (cc)
read_more (z ∷ xs) x zero y e = inl e
read_more (z ∷ xs) x (suc k) y e = ⊎_elim (λ (h : slice_get xs k ≡ Some y). inl h) (λ (h : (k ≡ length xs) × (y ≡ x)). inr (ap (λ n. suc n) h.0, h.1)) (read_more xs x k y e)

pub old_at : {X : Type 0} (xs : List X) (x : X) (k : ℕ) (d : X) → k < length xs → get_or (xs ++ x ∷ []) k d ≡ get_or xs k d
old_at [] x k d inside = absurd (omega arith)
old_at (z ∷ xs) x zero d inside = refl
old_at (z ∷ xs) x (suc k) d inside = old_at xs x k d (omega arith)

pub new_at : {X : Type 0} (xs : List X) (x : X) (k : ℕ) (d : X) → k ≡ length xs → get_or (xs ++ x ∷ []) k d ≡ x
new_at {X} xs x k d e = ap (λ n. get_or (xs ++ x ∷ []) n d) e ∙ own xs
  where
    own : (ys : List X) → get_or (ys ++ x ∷ []) (length ys) d ≡ x
    own [] = refl
    own (y ∷ ys) = own ys

pub within : {X : Type 0} (xs : List X) (k : ℕ) (y : X) → slice_get xs k ≡ Some y → k < length xs
within [] k y e = absurd (cc)
within (x ∷ xs) zero y e = omega arith
within (x ∷ xs) (suc k) y e = let again = within xs k y e in omega arith

replicated : {X : Type 0} (n : ℕ) (x : X) → replicate (n + 1) x ≡ replicate n x ++ x ∷ []
replicated zero x = refl
replicated (suc n) x = ap (λ m. replicate m x) (let e : suc n + 1 ≡ suc (n + 1) = omega arith in e) ∙ ap (λ l. x ∷ l) (replicated n x)

all_more : {X : Type 0} (P : X → Type 0) (xs : List X) (x : X) → All P xs → P x → All P (xs ++ x ∷ [])
all_more P xs x all here = λ k d inside. ⊎_elim
    (λ (less : k < length xs). subst P (sym (old_at xs x k d less)) (all k d less))
    (λ (last : k ≡ length xs). subst P (sym (new_at xs x k d last)) here)
    (less_or_last k (length xs) (let l = length-append xs (x ∷ []) in omega arith))
  where
    less_or_last : (i n : ℕ) → i < n + 1 → (i < n) ⊎ (i ≡ n)
    less_or_last zero zero h = inr refl
    less_or_last zero (suc n) h = inl (omega arith)
    less_or_last (suc i) zero h = absurd (omega arith)
    less_or_last (suc i) (suc n) h = ⊎_elim (λ (a : i < n). inl (omega arith)) (λ (b : i ≡ n). inr (ap (λ m. suc m) b)) (less_or_last i n (omega arith))

module _ (graphs : List Graph) (g : Graph) (firing : Firing) where
  abbrev StandsAt : ℕ → Stage → Option FrameView → Type 0
  StandsAt c stage frame = (one : Configured) (trace : List TraceRow) → StandsRight graphs (task_of graphs g firing (slice_get (configurations g) c)) (config_rates graphs firing c) stage frame one trace

  pub none_unclaimed : AreUnclaimed graphs g firing 0 [] []
  none_unclaimed = record {
    one_stage = refl;
    one_frame = refl;
    own = λ k d inside. absurd (omega arith);
    free = refl;
    lent = refl;
    right = λ c s is. absurd (cc);
  }

  pub one_unclaimed : (n : ℕ) (stages : List Stage) (frames : List (Option FrameView)) (stage : Stage) (frame : Option FrameView) → AreUnclaimed graphs g firing n stages frames → IsOwn frame → mark_of stage ≡ Free → lent_of stage ≡ None → StandsAt n stage frame →
      AreUnclaimed graphs g firing (n + 1) (stages ++ stage ∷ []) (frames ++ frame ∷ [])
  one_unclaimed n stages frames stage frame unclaimed own free lent stands =
      let s = unclaimed.one_stage in
      let f = unclaimed.one_frame in
      let ls = length-append stages (stage ∷ []) in
      let lf = length-append frames (frame ∷ []) in
      record {
        one_stage = omega arith;
        one_frame = omega arith;
        own = all_more IsOwn frames frame unclaimed.own own;
        free = map-append mark_of stages (stage ∷ []) ∙ ap (λ l. l ++ mark_of stage ∷ []) unclaimed.free ∙ ap (λ m. replicate n Free ++ m ∷ []) free ∙ sym (replicated n Free);
        lent = map-append lent_of stages (stage ∷ []) ∙ ap (λ l. l ++ lent_of stage ∷ []) unclaimed.lent ∙ ap (λ m. replicate n None ++ m ∷ []) lent ∙ sym (replicated n None);
        right = λ c x is. ⊎_elim
            (λ (old : slice_get stages c ≡ Some x).
            let P : Option FrameView → Type 0 = λ y. StandsAt c x y in
            subst P (sym (old_at frames frame c None (let w = within stages c x old in omega arith))) (unclaimed.right c x old))
            (λ (new : (c ≡ length stages) × (x ≡ stage)).
            let P : Option FrameView → Type 0 = λ y. StandsAt n stage y in
            let Q : Stage → Type 0 = λ y. StandsAt n y (get_or (frames ++ frame ∷ []) n None) in
            let R : ℕ → Type 0 = λ m. StandsAt m x (get_or (frames ++ frame ∷ []) m None) in
            let at : n ≡ c = (let e = new.0 in omega arith) in
            subst R at (subst Q (sym new.1) (subst P (sym (new_at frames frame n None (omega arith))) stands)))
            (read_more stages stage c x is);
      }
