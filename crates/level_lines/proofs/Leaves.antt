-- What sinks keep and what is left on links, with one more.
use Rattle.std.proofs.Common.{◌≡◌, ℕ, ◌+◌, ◌<◌, true, false, List, [], ◌∷◌, ◌++◌, length, get_or, take, drop, drop-cons, add-one, refl, ap, sym, ◌∙◌, arith}
use Rattle.std.proofs.lemmas.List.{take_more, length-take-le}
use Rattle.sdf_level.specs.Interfaces.{last}
use Rattle.sdf_level.specs.Invariants.{is_into_sink}
use Rattle.sdf_level.specs.LevelRun.{written, kept_at, left_on, left_of}
use Rattle.sdf_level.specs.declared.link.Link.{Link}
use Rattle.level_lines.specs.AtActors.{no_link}

module _ {T : Type 0} where
  pub written_here : (sink i : ℕ) (links : List Link) (lines : List (List T)) → i < length links → i < length lines → is_into_sink sink (get_or links i no_link) ≡ true →
      written sink (drop i links) (drop i lines) ≡ get_or lines i []
  written_here sink i links lines h k is = rw (drop-cons links i no_link h, drop-cons lines i [] k, is) refl

  pub written_later : (sink i : ℕ) (links : List Link) (lines : List (List T)) → i < length links → i < length lines → is_into_sink sink (get_or links i no_link) ≡ false →
      written sink (drop i links) (drop i lines) ≡ written sink (drop (i + 1) links) (drop (i + 1) lines)
  written_later sink i links lines h k is = rw (add-one, drop-cons links i no_link h, drop-cons lines i [] k, is) refl

  kept_at-snoc : (t : ℕ) (sinks : List ℕ) (r : ℕ) (links : List Link) (lines : List (List T)) →
      kept_at t (sinks ++ r ∷ []) links lines ≡ kept_at t sinks links lines ++ last r (written (t + length sinks) links lines) ∷ []
  kept_at-snoc t [] r links lines = let e : t + 0 ≡ t = omega arith in rw e refl
  kept_at-snoc t (x ∷ sinks) r links lines =
      let n : (t + 1) + length sinks ≡ t + length (x ∷ sinks) = omega arith in
      ap (λ l. last x (written t links lines) ∷ l) (kept_at-snoc (t + 1) sinks r links lines ∙ ap (λ m. kept_at (t + 1) sinks links lines ++ last r (written m links lines) ∷ []) n)

  pub kept_at-more : (sinks : List ℕ) (i : ℕ) (links : List Link) (lines : List (List T)) → i < length sinks →
      kept_at 0 (take (i + 1) sinks) links lines ≡ kept_at 0 (take i sinks) links lines ++ last (get_or sinks i 0) (written i links lines) ∷ []
  kept_at-more sinks i links lines h =
      let long : 0 + length (take i sinks) ≡ i = let e = length-take-le i sinks (omega arith) in omega arith in
      ap (λ s. kept_at 0 s links lines) (take_more sinks i 0 h) ∙ kept_at-snoc 0 (take i sinks) (get_or sinks i 0) links lines
      ∙ ap (λ m. kept_at 0 (take i sinks) links lines ++ last (get_or sinks i 0) (written m links lines) ∷ []) long

  left_of-snoc : (q : List ℕ) (links : List Link) (lines : List (List T)) (link : Link) (line : List T) → length lines ≡ length links →
      left_of q (links ++ link ∷ []) (lines ++ line ∷ []) ≡ left_of q links lines ++ left_on q link.tail link.head line ∷ []
  left_of-snoc q [] [] link line h = refl
  left_of-snoc q [] (x ∷ lines) link line h = absurd (omega arith)
  left_of-snoc q (k ∷ links) [] link line h = absurd (omega arith)
  left_of-snoc q (k ∷ links) (x ∷ lines) link line h = ap (λ l. left_on q k.tail k.head x ∷ l) (left_of-snoc q links lines link line (omega arith))

  pub left_of-more : (q : List ℕ) (links : List Link) (lines : List (List T)) (i : ℕ) → i < length links → length lines ≡ length links →
      left_of q (take (i + 1) links) (take (i + 1) lines) ≡ left_of q (take i links) (take i lines) ++ left_on q (get_or links i no_link).tail (get_or links i no_link).head (get_or lines i []) ∷ []
  left_of-more q links lines i h e =
      let k : i < length lines = omega arith in
      let long : length (take i lines) ≡ length (take i links) = length-take-le i lines (omega arith) ∙ sym (length-take-le i links (omega arith)) in
      rw (take_more links i no_link h, take_more lines i [] k) (left_of-snoc q (take i links) (take i lines) (get_or links i no_link) (get_or lines i []) long)

  pub kept_step : (sinks sinks' : List ℕ) (links links' : List Link) (lines : List (List T)) (i : ℕ) (lists lists' : List (List T)) (line one : List T) →
      sinks' ≡ sinks → links' ≡ links → i < length sinks → lists ≡ kept_at 0 (take i sinks) links lines →
      line ≡ written i links' lines → one ≡ last (get_or sinks' i 0) line → lists' ≡ lists ++ one ∷ [] → lists' ≡ kept_at 0 (take (i + 1) sinks) links lines
  kept_step sinks sinks' links links' lines i lists lists' line one same_sinks same h were line_is one_is now = rw (now, one_is, line_is, same, same_sinks, were) (sym (kept_at-more sinks i links lines h))

  pub left_step : (q : List ℕ) (links links' : List Link) (lines : List (List T)) (i : ℕ) (lists lists' : List (List T)) (line one : List T) →
      links' ≡ links → i < length links → length lines ≡ length links → lists ≡ left_of q (take i links) (take i lines) →
      line ≡ get_or lines i [] → one ≡ left_on q (get_or links' i no_link).tail (get_or links' i no_link).head line → lists' ≡ lists ++ one ∷ [] →
      lists' ≡ left_of q (take (i + 1) links) (take (i + 1) lines)
  left_step q links links' lines i lists lists' line one same h long were line_is one_is now = rw (now, one_is, line_is, same, were) (sym (left_of-more q links lines i h long))
