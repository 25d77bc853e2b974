-- How far bytes were sent to a writer.
use Rattle.std.proofs.Common.{◌≡◌, ℕ, ◌≤◌, List, [], ◌∷◌, ◌++◌, length, take, drop, refl, sym, ap, ◌∙◌, append_assoc, arith, length-append}
use Rattle.std.specs.Prelude.{Option, Some, None}
use Rattle.std.proofs.lemmas.List.{append-nil, take-append-drop}
use Rattle.std.proofs.Math.Seq.{take-append_seam}
use Rattle.std.specs.Io.KnownBytes.{Appends, Keeps}
use Rattle.outer_world.specs.Sink.{Grows}

pub Grows-by : (had has : Option (List ℕ)) (bytes : List ℕ) → Appends had has bytes → Grows had has bytes
Grows-by None has bytes grown = λ told is. absurd (cc)
Grows-by (Some had) None bytes grown = absurd grown
Grows-by (Some had) (Some has) bytes grown = λ told is. let same : had ≡ told = cc in ap Some (grown ∙ ap (λ xs. xs ++ bytes) same)

pub Grows-none : (had has : Option (List ℕ)) → Keeps had has → Grows had has []
Grows-none None has kept = λ told is. absurd (cc)
Grows-none (Some had) None kept = absurd kept
Grows-none (Some had) (Some has) kept = λ told is. let same : had ≡ told = cc in ap Some (kept ∙ same ∙ sym (append-nil told))

pub Grows-both : (had mid has : Option (List ℕ)) (first next : List ℕ) → Grows had mid first → Grows mid has next → Grows had has (first ++ next)
Grows-both had mid has first next f n = λ told is. n (told ++ first) (f told is) ∙ ap Some (append_assoc told first next)

-- the bytes are those taken, by which the writer has grown, and then the rest
pub record Sent (had has : Option (List ℕ)) (bytes rest : List ℕ) : Type 0 where
  pub taken : List ℕ
  pub split : bytes ≡ taken ++ rest
  pub grown : Grows had has taken

pub Sent-none : (had : Option (List ℕ)) (bytes : List ℕ) → Sent had had bytes bytes
Sent-none had bytes = record { taken = []; split = refl; grown = λ told is. is ∙ ap Some (sym (append-nil told)) }

-- a write takes some of the rest
pub Sent-more : (had mid has : Option (List ℕ)) (bytes rest : List ℕ) (n : ℕ) → Sent had mid bytes rest → Grows mid has (take n rest) → Sent had has bytes (drop n rest)
Sent-more had mid has bytes rest n sent grown = record {
  taken = sent.taken ++ take n rest;
  split = sent.split ∙ ap (λ xs. sent.taken ++ xs) (sym (take-append-drop n rest)) ∙ sym (append_assoc sent.taken (take n rest) (drop n rest));
  grown = Grows-both had mid has sent.taken (take n rest) sent.grown grown;
}

-- a write takes nothing
pub Sent-same : (had mid has : Option (List ℕ)) (bytes rest : List ℕ) → Sent had mid bytes rest → Grows mid has [] → Sent had has bytes rest
Sent-same had mid has bytes rest sent same = record {
  taken = sent.taken;
  split = sent.split;
  grown = λ told is. Grows-both had mid has sent.taken [] sent.grown same told is ∙ ap (λ xs. Some (told ++ xs)) (append-nil sent.taken);
}

-- nothing is left
pub Sent-all : (had has : Option (List ℕ)) (bytes rest : List ℕ) → Sent had has bytes rest → length rest ≡ 0 → Grows had has bytes
Sent-all had has bytes [] sent none = rw (sent.split ∙ append-nil sent.taken) sent.grown
Sent-all had has bytes (x ∷ rest) sent none = absurd (cc)

-- what was sent is a beginning
pub Sent-beginning : (had has : Option (List ℕ)) (bytes rest : List ℕ) → Sent had has bytes rest → (kept : ℕ) × (kept ≤ length bytes) × Grows had has (take kept bytes)
Sent-beginning had has bytes rest sent = (length sent.taken, rw sent.split (omega (arith, length-append sent.taken rest)), (rw (ap (take (length sent.taken)) sent.split ∙ take-append_seam sent.taken rest) sent.grown))
