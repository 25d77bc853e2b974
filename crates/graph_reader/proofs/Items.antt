-- Reading the values of a list one after the other, as a loop does.
use Rattle.std.proofs.Common.{◌≡◌, ℕ, suc, ◌+◌, ◌≤◌, ◌<◌, List, [], ◌∷◌, ◌++◌, length, get_or, drop, Result, Ok, Err, refl, sym, ap, subst, ◌∙◌, append_assoc, add-one}
use Rattle.std.proofs.Math.Seq.{drop-cons}
use Rattle.std.proofs.Math.ListN.{drop_of_length-le}
use Rattle.std.proofs.lemmas.List.{append-nil}
use Rattle.std.specs.Fmt.{decimal}
use Rattle.serde_json.specs.Data.{Data}
use Rattle.serde_json.specs.View.{view, items_view}
use Rattle.serde_json.specs.declared.value.Value.{Value}
use Rattle.pisdf_model.specs.declared.detail_fault.DetailFault.{DetailFault}
use Rattle.pisdf_model.specs.declared.detail_fault.DetailFault.TheVariants.{Fault, Memory}
use Rattle.graph_format.specs.Pointer.{under}
use Rattle.graph_format.specs.Walk.{◌>>=◌, items_at}
use Rattle.graph_reader.specs.Gives.{Fails, with_front}

regroup : {A : Type 0} (front : List A) (x : A) (read : Result (List A) (List ℕ)) → with_front front (read >>= λ xs. Ok (x ∷ xs)) ≡ with_front (front ++ x ∷ []) read
regroup front x (Ok xs) = ap (λ ys. Ok ys) (simp append_assoc)
regroup front x (Err f) = refl

front_nil : {A : Type 0} (read : Result (List A) (List ℕ)) → with_front [] read ≡ read
front_nil (Ok xs) = refl
front_nil (Err f) = refl

-- one item, and those after it
step : {A : Type 0} (read : List ℕ → Data → Result A (List ℕ)) (at : List ℕ) (i : ℕ) (vs : List Value) (v : Value) → i < length vs → v ≡ get_or vs i v
    → items_at read at i (items_view (drop i vs)) ≡ (read (under at (decimal i)) (view v) >>= λ x. items_at read at (i + 1) (items_view (drop (i + 1) vs)) >>= λ xs. Ok (x ∷ xs))
unfolding items_at
step read at i vs v lt is =
    let e : drop i vs ≡ v ∷ drop (i + 1) vs = rw (add-one) (drop-cons vs i v lt ∙ ap (λ w. w ∷ drop (suc i) vs) (sym is)) in
    rw e refl

-- what is so far, and what is left, is all of it
pub record Stands {A : Type 0} (read : List ℕ → Data → Result A (List ℕ)) (at : List ℕ) (front : List A) (i : ℕ) (vs : List Value) (total : Result (List A) (List ℕ)) : Type 0 where
  pub so_far : with_front front (items_at read at i (items_view (drop i vs))) ≡ total

pub goes_on : {A : Type 0} (read : List ℕ → Data → Result A (List ℕ)) (at : List ℕ) (front : List A) (i : ℕ) (vs : List Value) (v : Value) (x : A) (total : Result (List A) (List ℕ)) → i < length vs → v ≡ get_or vs i v
    → read (under at (decimal i)) (view v) ≡ Ok x → Stands read at front i vs total → Stands read at (front ++ x ∷ []) (i + 1) vs total
goes_on read at front i vs v x total lt is h stands =
    let one : items_at read at i (items_view (drop i vs)) ≡ (items_at read at (i + 1) (items_view (drop (i + 1) vs)) >>= λ xs. Ok (x ∷ xs)) = step read at i vs v lt is ∙ rw h refl in
    record { so_far = sym (regroup front x _) ∙ sym (ap (with_front front) one) ∙ stands.so_far }

front_fails : {A B : Type 0} (e : DetailFault (List ℕ)) (front : List A) (r : Result B (List ℕ)) (k : B → Result (List A) (List ℕ)) → Fails e r → Fails e (with_front front (r >>= k))
front_fails Memory front r k h = tt
front_fails (Fault text) front r k h = rw h refl

pub ends : {A : Type 0} (e : DetailFault (List ℕ)) (read : List ℕ → Data → Result A (List ℕ)) (at : List ℕ) (front : List A) (i : ℕ) (vs : List Value) (v : Value) (total : Result (List A) (List ℕ)) → i < length vs → v ≡ get_or vs i v
    → Fails e (read (under at (decimal i)) (view v)) → Stands read at front i vs total → Fails e total
ends e read at front i vs v total lt is h stands =
    let failed = front_fails e front (read (under at (decimal i)) (view v)) (λ x. items_at read at (i + 1) (items_view (drop (i + 1) vs)) >>= λ xs. Ok (x ∷ xs)) h in
    subst (Fails e) (sym (ap (with_front front) (step read at i vs v lt is)) ∙ stands.so_far) failed

pub is_done : {A : Type 0} (read : List ℕ → Data → Result A (List ℕ)) (at : List ℕ) (front : List A) (i : ℕ) (vs : List Value) (total : Result (List A) (List ℕ)) → length vs ≤ i
    → Stands read at front i vs total → total ≡ Ok front
unfolding items_at
is_done read at front i vs total le stands =
    sym stands.so_far ∙ rw (drop_of_length-le vs le) (ap (λ ys. Ok ys) (append-nil front))

pub starts : {A : Type 0} (read : List ℕ → Data → Result A (List ℕ)) (at : List ℕ) (vs : List Value) → Stands read at [] 0 vs (items_at read at 0 (items_view vs))
starts read at vs = record { so_far = front_nil (items_at read at 0 (items_view vs)) }
