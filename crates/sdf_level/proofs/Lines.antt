-- Lines by what each firing made.
use Rattle.std.proofs.Common.{◌≡◌, ◌≢◌, ℕ, zero, suc, ◌<◌, ⊎_elim, List, [], ◌∷◌, ◌++◌, slice_index_or, refl, ap, ◌∙◌, append_assoc, arith}
use Rattle.std.proofs.lemmas.Bool.{cases_eq, eq-eqb, ne_eqb}
use Rattle.std.proofs.lemmas.List.{append-nil}
use Rattle.sdf_level.specs.declared.link.Link.{Link}
use Rattle.sdf_level.specs.declared.link.Tail.{Tail}
use Rattle.sdf_level.specs.declared.link.Tail.TheVariants as tail
use Rattle.sdf_level.specs.Run.{added, put}
use Rattle.sdf_level.specs.Told.{Made, sent, line_of, lines_of}

module _ {T : Type 0} where
  pub sent_same : (f g : ℕ → List (List T)) (p n : ℕ) → ((j : ℕ) → j < n → f j ≡ g j) → sent f p n ≡ sent g p n
  sent_same f g p zero same = refl
  sent_same f g p (suc n) same = rw (sent_same f g p n (λ j h. same j (omega arith)), same n (omega arith)) refl

  line_same : (made other : Made T) (f g : ℕ → ℕ) (t : Tail) (start : List T) → ((a : ℕ) → f a ≡ g a) → ((a j : ℕ) → j < f a → made a j ≡ other a j) → line_of made f t start ≡ line_of other g t start
  line_same made other f g (tail.Source s) start counts same = refl
  line_same made other f g (tail.Port a p r) start counts same = ap (λ (x : List T). start ++ x) (sent_same (made a) (other a) p (f a) (λ j h. same a j h) ∙ ap (sent (other a) p) (counts a))

  -- lines depend on the firings made so far alone
  pub lines_same : (made other : Made T) (f g : ℕ → ℕ) (links : List Link) (starts : List (List T)) → ((a : ℕ) → f a ≡ g a) → ((a j : ℕ) → j < f a → made a j ≡ other a j) → lines_of made f links starts ≡ lines_of other g links starts
  lines_same made other f g [] starts counts same = refl
  lines_same made other f g (link ∷ links) [] counts same = refl
  lines_same made other f g (link ∷ links) (start ∷ starts) counts same = rw (line_same made other f g link.tail start counts same, lines_same made other f g links starts counts same) refl

  line_put : (made : Made T) (f g : ℕ → ℕ) (b : ℕ) (t : Tail) (start : List T) → g b ≡ suc (f b) → ((a : ℕ) → a ≢ b → g a ≡ f a) → line_of made f t start ++ added b (made b (f b)) t ≡ line_of made g t start
  line_put made f g b (tail.Source s) start own others = append-nil start
  line_put made f g b (tail.Port a p r) start own others = ⊎_elim
      (λ (e : a ≡ b). rw (eq-eqb a b e, e, own) (append_assoc start (sent (made b) p (f b)) (slice_index_or (made b (f b)) p [])))
      (λ (n : a ≢ b). rw (ne_eqb a b n, others a n) (append-nil (start ++ sent (made a) p (f a))))
      (cases_eq a b)

  -- one firing more puts what it made
  pub lines_put : (made : Made T) (f g : ℕ → ℕ) (b : ℕ) (links : List Link) (starts : List (List T)) → g b ≡ suc (f b) → ((a : ℕ) → a ≢ b → g a ≡ f a) → put b (made b (f b)) links (lines_of made f links starts) ≡ lines_of made g links starts
  lines_put made f g b [] starts own others = refl
  lines_put made f g b (link ∷ links) [] own others = refl
  lines_put made f g b (link ∷ links) (start ∷ starts) own others = rw (line_put made f g b link.tail start own others, lines_put made f g b links starts own others) refl

  -- before any firing
  pub lines_start : (made : Made T) (f : ℕ → ℕ) (links : List Link) (starts : List (List T)) → ((a : ℕ) → f a ≡ zero) → lines_of made f links starts ≡ starts
  lines_start made f [] starts none = refl
  lines_start made f (link ∷ links) [] none = refl
  lines_start made f (link ∷ links) (start ∷ starts) none = rw (first link.tail, lines_start made f links starts none) refl
    where
      first : (t : Tail) → line_of made f t start ≡ start
      first (tail.Source s) = refl
      first (tail.Port a p r) = rw (none a) (append-nil start)
