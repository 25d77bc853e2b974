-- The list of what workers hold, from step to step.
use Rattle.std.proofs.Common.{◌≡◌, ◌≢◌, ℕ, zero, suc, ◌<◌, List, [], ◌∷◌, ◌++◌, length, get_or, set, refl, sym, ap, ◌∙◌, subst, arith}
use Rattle.board_rules.specs.Keys.{Key}
use Rattle.firing_board.specs.Runs.{AreAllIdle, IsSound}
use Rattle.firing_board.specs.View.{BoardView}
use Rattle.board_calls.specs.Holding.{AreHeld, GivesBack, HasOurKernels, Holds, IsCrewOf, StepsOf}
use Rattle.worker_crew.specs.Laws.{BoardsHaveLaws}
use Rattle.board_calls.specs.declared.held.Held.{Held}
use Rattle.board_calls.specs.declared.held.Held.TheVariants.{Nothing}
use Rattle.board_calls.proofs.Lasting.{held_set, held_then, idle_then, steps_on}

same_kernels : (x y : BoardView) → y.key ≡ x.key → HasOurKernels x → HasOurKernels y
same_kernels x y key ours = ap (λ (k : Key). k.signatures) key ∙ ours

length_set : (held : List Held) (w : ℕ) (next : Held) → length (set held w next) ≡ length held
length_set [] w next = refl
length_set (h ∷ held) zero next = refl
length_set (h ∷ held) (suc w) next = ap suc (length_set held w next)

module _ (laws : BoardsHaveLaws) (w : ℕ) (x y : BoardView) (sound : IsSound x) (later : IsSound y) (steps : StepsOf w x y) (held : List Held) (crew : IsCrewOf x held) (inside : w < x.key.workers) where
  within : w < length held
  within = subst (λ (n : ℕ). w < n) (sym crew.one_each) inside

  pub crew_then : (next : Held) → Holds y w next → IsCrewOf y (set held w next)
  crew_then next own = record {
    kernels = same_kernels x y steps.key crew.kernels;
    one_each = length_set held w next ∙ (crew.one_each ∙ ap (λ (k : Key). k.workers) (sym steps.key));
    all = held_set laws w x y sound later steps held next within crew.all own;
  }

-- all are idle once a worker has taken steps and runs nothing again
pub idle_after : (laws : BoardsHaveLaws) (w : ℕ) (x y z : BoardView) → IsSound x → IsSound z → StepsOf w x y → GivesBack w y z → AreAllIdle x → AreAllIdle z
idle_after laws w x y z sound later steps back idle = idle_then laws w x z sound later (steps_on w x y z steps back.0) idle back.1

-- ---- the last one is taken from the list

last_taken : (held rest : List Held) (last : Held) → held ≡ rest ++ last ∷ [] → (v : ℕ) → v ≢ length rest → get_or rest v Nothing ≡ get_or held v Nothing
last_taken held rest last is v ne = sym (ap (λ (l : List Held). get_or l v Nothing) is ∙ go rest v ne)
  where
    go : (rest : List Held) (v : ℕ) → v ≢ length rest → get_or (rest ++ last ∷ []) v Nothing ≡ get_or rest v Nothing
    go [] zero ne = absurd (ne refl)
    go [] (suc v) ne = refl
    go (r ∷ rest) zero ne = refl
    go (r ∷ rest) (suc v) ne = go rest v (λ e. ne (ap suc e))

pub last_counted : (rest : List Held) (last : Held) → length (rest ++ last ∷ []) ≡ suc (length rest)
last_counted [] last = refl
last_counted (r ∷ rest) last = ap suc (last_counted rest last)

pub none_left : (held : List Held) → length held ≡ 0 → held ≡ []
none_left [] e = refl
none_left (h ∷ held) e = absurd (omega arith)

past_end : (rest : List Held) → get_or rest (length rest) Nothing ≡ Nothing
past_end [] = refl
past_end (r ∷ rest) = past_end rest

last_held : (rest : List Held) (last : Held) → get_or (rest ++ last ∷ []) (length rest) Nothing ≡ last
last_held [] last = refl
last_held (r ∷ rest) last = last_held rest last

module _ (b : BoardView) (held rest : List Held) (last : Held) (is : held ≡ rest ++ last ∷ []) (are : AreHeld b held) where
  -- its worker holds it
  pub last_holds : length rest < b.key.workers → Holds b (length rest) last
  last_holds inside = subst (Holds b (length rest)) (ap (λ (l : List Held). get_or l (length rest) Nothing) is ∙ last_held rest last) (are (length rest) inside)

  -- and once that worker has given it back, the others hold what is left in the list
  pub rest_held : (laws : BoardsHaveLaws) (y : BoardView) → IsSound b → IsSound y → GivesBack (length rest) b y → AreHeld y rest
  rest_held laws y sound later back = held_then laws (length rest) b y sound later back.0 held rest are (subst (Holds y (length rest)) (sym (past_end rest)) back.1) (λ v ne. last_taken held rest last is v ne)
