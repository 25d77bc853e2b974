-- Runs through two lists of firings one after the other, and runs of firings that read alike.
use Rattle.std.proofs.Common.{◌≡◌, ℕ, List, [], ◌∷◌, ◌++◌, Result, Ok, Err, refl, ap, sym, subst, append_assoc}
use Rattle.std.proofs.lemmas.List.{append-nil}
use Rattle.sdf_level.specs.View.{LevelView}
use Rattle.sdf_level.specs.Firings.{firings}
use Rattle.sdf_level.specs.Run.{Fire, GoesOn, RunsFrom, inputs, put}

-- ---- one after the other

module _ {T F : Type 0} (level : LevelView) (fire : Fire T F) (sources : List (List T)) where
  abbrev pub Comes : List ℕ → List (List T) → List ℕ → List (List T) → Type 0
  Comes before lines rest end = RunsFrom level fire sources before lines rest (Ok end)

  -- the lines between the two lists of firings
  abbrev pub Between : List ℕ → List (List T) → List ℕ → List ℕ → List (List T) → Type 0
  Between before lines one rest end = (mid : List (List T)) × Comes before lines one mid × Comes (before ++ one) mid rest end

  pub split : (before : List ℕ) (lines : List (List T)) (one rest : List ℕ) (end : List (List T)) → Comes before lines (one ++ rest) end → Between before lines one rest end
  split before lines [] rest end run = let P : List ℕ → Type 0 = λ l. Comes l lines rest end in (lines, refl, subst P (sym (append-nil before)) run)
  split before lines (b ∷ one) rest end run = go run.0 run.1 run.2 (λ outputs r. split (before ++ b ∷ []) (put b outputs level.links lines) one rest end r)
    where
      go : (answer : Result (List (List T)) F) → fire b (firings b before) (inputs sources b (firings b before) level.links lines) answer →
          GoesOn (λ outputs. Comes (before ++ b ∷ []) (put b outputs level.links lines) (one ++ rest) end) (Ok end) answer →
          ((outputs : List (List T)) → Comes (before ++ b ∷ []) (put b outputs level.links lines) (one ++ rest) end → Between (before ++ b ∷ []) (put b outputs level.links lines) one rest end) →
          Between before lines (b ∷ one) rest end
      go (Ok outputs) is goes again =
          let s = again outputs goes in
          let P : List ℕ → Type 0 = λ l. Comes l s.0 rest end in
          (s.0, (Ok outputs, is, s.1), subst P (append_assoc before (b ∷ []) one) s.2)
      go (Err fault) is goes again = absurd (cc)

  pub join : (before : List ℕ) (lines : List (List T)) (one rest : List ℕ) (mid end : List (List T)) → Comes before lines one mid → Comes (before ++ one) mid rest end → Comes before lines (one ++ rest) end
  join before lines [] rest mid end first then_on =
      let same : mid ≡ lines = cc in
      let P : List ℕ → Type 0 = λ l. Comes l mid rest end in
      let Q : List (List T) → Type 0 = λ l. Comes before l rest end in
      subst Q same (subst P (append-nil before) then_on)
  join before lines (b ∷ one) rest mid end first then_on =
      let P : List ℕ → Type 0 = λ l. Comes l mid rest end in
      let next : Comes ((before ++ b ∷ []) ++ one) mid rest end = subst P (sym (append_assoc before (b ∷ []) one)) then_on in
      go first.0 first.1 first.2 (λ outputs r. join (before ++ b ∷ []) (put b outputs level.links lines) one rest mid end r next)
    where
      go : (answer : Result (List (List T)) F) → fire b (firings b before) (inputs sources b (firings b before) level.links lines) answer →
          GoesOn (λ outputs. Comes (before ++ b ∷ []) (put b outputs level.links lines) one mid) (Ok mid) answer →
          ((outputs : List (List T)) → Comes (before ++ b ∷ []) (put b outputs level.links lines) one mid → Comes (before ++ b ∷ []) (put b outputs level.links lines) (one ++ rest) end) →
          Comes before lines (b ∷ (one ++ rest)) end
      go (Ok outputs) is goes again = (Ok outputs, is, again outputs goes)
      go (Err fault) is goes again = absurd (cc)

-- ---- firings that read alike

-- the one run has these lines where the other has those
module _ {T F : Type 0} (level : LevelView) (fire other : Fire T F) (sources others : List (List T)) (whole : List (List T) → List (List T)) (Sound : List (List T) → Type 0) where
  -- the next firing of the one run, after these firings, reads and answers as that of the other after those
  pub record FiresAlike (before moved : List ℕ) (b : ℕ) : Type 0 where
    pub reads : (lines : List (List T)) → Sound lines → inputs sources b (firings b before) level.links (whole lines) ≡ inputs others b (firings b moved) level.links lines
    pub forth : (ins : List (List T)) (answer : Result (List (List T)) F) → fire b (firings b before) ins answer → other b (firings b moved) ins answer
    pub back : (ins : List (List T)) (answer : Result (List (List T)) F) → other b (firings b moved) ins answer → fire b (firings b before) ins answer

  abbrev pub AllAlike : List ℕ → List ℕ → List ℕ → Type 0
  AllAlike before moved [] = Unit {0}
  AllAlike before moved (b ∷ rest) = FiresAlike before moved b × AllAlike (before ++ b ∷ []) (moved ++ b ∷ []) rest

  -- the other run, and that its lines at the end stand for these
  pub record HasOther (moved : List ℕ) (lines : List (List T)) (rest : List ℕ) (end : List (List T)) : Type 0 where
    pub own : List (List T)
    pub is : end ≡ whole own
    pub runs : RunsFrom level other others moved lines rest (Ok own)

  module _ (puts : (b : ℕ) (outs lines : List (List T)) → Sound lines → put b outs level.links (whole lines) ≡ whole (put b outs level.links lines))
      (stays : (b : ℕ) (outs lines : List (List T)) → Sound lines → Sound (put b outs level.links lines)) where
    pub other_run : (before moved rest : List ℕ) (lines end : List (List T)) → AllAlike before moved rest → Sound lines → RunsFrom level fire sources before (whole lines) rest (Ok end) → HasOther moved lines rest end
    other_run before moved [] lines end alike sound run = record { own = lines; is = cc; runs = refl }
    other_run before moved (b ∷ rest) lines end alike sound run =
        go run.0 run.1 run.2 (λ outputs r. other_run (before ++ b ∷ []) (moved ++ b ∷ []) rest (put b outputs level.links lines) end alike.1 (stays b outputs lines sound) r)
      where
        go : (answer : Result (List (List T)) F) → fire b (firings b before) (inputs sources b (firings b before) level.links (whole lines)) answer →
            GoesOn (λ outputs. RunsFrom level fire sources (before ++ b ∷ []) (put b outputs level.links (whole lines)) rest (Ok end)) (Ok end) answer →
            ((outputs : List (List T)) → RunsFrom level fire sources (before ++ b ∷ []) (whole (put b outputs level.links lines)) rest (Ok end) → HasOther (moved ++ b ∷ []) (put b outputs level.links lines) rest end) →
            HasOther moved lines (b ∷ rest) end
        go (Ok outputs) is goes again =
            let P : List (List T) → Type 0 = λ l. RunsFrom level fire sources (before ++ b ∷ []) l rest (Ok end) in
            let Q : List (List T) → Type 0 = λ i. other b (firings b moved) i (Ok outputs) in
            let later = again outputs (subst P (puts b outputs lines sound) goes) in
            let fires = alike.0.forth (inputs sources b (firings b before) level.links (whole lines)) (Ok outputs) is in
            record { own = later.own; is = later.is; runs = (Ok outputs, subst Q (alike.0.reads lines sound) fires, later.runs) }
        go (Err fault) is goes again = absurd (cc)

    pub whole_run : (before moved rest : List ℕ) (lines end : List (List T)) → AllAlike before moved rest → Sound lines → RunsFrom level other others moved lines rest (Ok end) → RunsFrom level fire sources before (whole lines) rest (Ok (whole end))
    whole_run before moved [] lines end alike sound run = let same : end ≡ lines = cc in ap (λ (l : List (List T)). Ok (whole l)) same
    whole_run before moved (b ∷ rest) lines end alike sound run =
        go run.0 run.1 run.2 (λ outputs r. whole_run (before ++ b ∷ []) (moved ++ b ∷ []) rest (put b outputs level.links lines) end alike.1 (stays b outputs lines sound) r)
      where
        go : (answer : Result (List (List T)) F) → other b (firings b moved) (inputs others b (firings b moved) level.links lines) answer →
            GoesOn (λ outputs. RunsFrom level other others (moved ++ b ∷ []) (put b outputs level.links lines) rest (Ok end)) (Ok end) answer →
            ((outputs : List (List T)) → RunsFrom level other others (moved ++ b ∷ []) (put b outputs level.links lines) rest (Ok end) → RunsFrom level fire sources (before ++ b ∷ []) (whole (put b outputs level.links lines)) rest (Ok (whole end))) →
            RunsFrom level fire sources before (whole lines) (b ∷ rest) (Ok (whole end))
        go (Ok outputs) is goes again =
            let P : List (List T) → Type 0 = λ l. RunsFrom level fire sources (before ++ b ∷ []) l rest (Ok (whole end)) in
            let Q : List (List T) → Type 0 = λ i. other b (firings b moved) i (Ok outputs) in
            let fires = alike.0.back (inputs sources b (firings b before) level.links (whole lines)) (Ok outputs) (subst Q (sym (alike.0.reads lines sound)) is) in
            (Ok outputs, fires, subst P (sym (puts b outputs lines sound)) (again outputs goes))
        go (Err fault) is goes again = absurd (cc)
