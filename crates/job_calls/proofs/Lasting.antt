-- Lists that are as long as numbers say.
use Rattle.std.proofs.Common.{◌≡◌, ℕ, ℤ, ◌<◌, List, [], ◌∷◌, length, map, get_or, ◌∙◌, subst}
use Rattle.std.specs.Prelude.{slice_index}
use Rattle.std.proofs.lemmas.List.{get_or-map, length-map}
use Rattle.std.proofs.lemmas.Grind.{same_number_lists}
use Rattle.kernel_gate.specs.Value.{lengths}
use Rattle.sdf_level.specs.LevelRun.{HaveDelays}
use Rattle.sdf_level.specs.declared.link.Link.{Link}

pub all_long : (lists : List (List ℤ)) (lens : List ℕ) → length lists ≡ length lens → ((k : ℕ) → k < length lists → length (get_or lists k []) ≡ slice_index lens k) → lengths lists ≡ lens
all_long lists lens same each =
    let long = length-map lists (λ (x : List ℤ). length x) in
    same_number_lists (lengths lists) lens (long ∙ same)
    (λ k inside. let below : k < length lists = subst (λ n. k < n) long inside in get_or-map (λ (x : List ℤ). length x) lists k [] 0 below ∙ each k below)

pub have_delays : (links : List Link) (lists : List (List ℤ)) → lengths lists ≡ map (λ (link : Link). link.delay) links → HaveDelays links lists
have_delays [] [] is = tt
have_delays [] (line ∷ lines) is = absurd (cc)
have_delays (link ∷ links) [] is = absurd (cc)
have_delays (link ∷ links) (line ∷ lines) is =
    let first : length line ≡ link.delay = cc in
    let rest : lengths lines ≡ map (λ (l : Link). l.delay) links = cc in (first, have_delays links lines rest)
