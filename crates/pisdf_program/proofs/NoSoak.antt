-- What the other commands say of a soak run.
use Rattle.std.proofs.Common.{◌≡◌, inl, inr, ℕ, List, Bool, true, false, Option, Some, Result, Ok, Err, String, Global, sym, ap, ◌∙◌, subst}
use Rattle.std.specs.Prelude.{IfErr}
use Rattle.pisdf_program.specs.SoakEnd.{IsSoakStatus}
use Rattle.pisdf_program.specs.Words.{Command, Run, Plain, Unfold, Job, Journal, Audit, Soak, Upgrade}
use Rattle.pisdf_program.specs.Worked.{Concludes}
use Rattle.pisdf_program.specs.declared.status.Status.{Status}

abbrev File : Type 0
File = Option (List ℕ)

abbrev pub is_soak : Command → Bool
is_soak (Run graph tokens iterations workers) = false
is_soak (Plain graph tokens iterations) = false
is_soak (Unfold times graph tokens iterations workers) = false
is_soak (Job what graph tokens workers) = false
is_soak (Journal graph tokens iterations workers) = false
is_soak (Audit graph tokens iterations workers journal) = false
is_soak (Soak number workers) = true
is_soak (Upgrade graph) = false

-- another command is none
pub not_soak : {P : Type 0} (a : Command) (b : Option Command) → Some a ≡ b → is_soak a ≡ false → (n w : ℕ) → b ≡ Some (Soak n w) → P
not_soak a b e non n w h =
    let both : Some a ≡ Some (Soak n w) = e ∙ h in
    let same : a ≡ Soak n w = cc in
    let no : is_soak (Soak n w) ≡ false = ap is_soak (sym same) ∙ non in
    absurd cc

pub soak_told : (worked : Result (String Global) Status) (eh en : File) (eb enow : ℕ) (s : Status) → Concludes worked eh en eb enow s → IfErr worked IsSoakStatus → IsSoakStatus s
soak_told (Ok text) eh en eb enow s (inl (is, rest)) h = subst IsSoakStatus (sym is) tt
soak_told (Ok text) eh en eb enow s (inr (is, rose, rest)) h = subst IsSoakStatus (sym is) tt
soak_told (Err told) eh en eb enow s (inl (a, is, rest)) h = subst IsSoakStatus (sym is) tt
soak_told (Err told) eh en eb enow s (inr (non, inl (inl (is, rest)))) h = subst IsSoakStatus (sym is) h
soak_told (Err told) eh en eb enow s (inr (non, inl (inr (is, rose, rest)))) h = subst IsSoakStatus (sym is) tt
soak_told (Err told) eh en eb enow s (inr (non, inr (inl (is, rest)))) h = subst IsSoakStatus (sym is) tt
soak_told (Err told) eh en eb enow s (inr (non, inr (inr (is, rose, rest)))) h = subst IsSoakStatus (sym is) tt
