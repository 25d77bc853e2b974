-- The edges of a link, one writer or reader more.
use Rattle.std.proofs.Common.{◌≡◌, ℕ, ◌+◌, ◌<◌, List, [], ◌∷◌, ◌++◌, length, take, drop, slice_index, nat_lt, if◌then◌else◌, refl, ap, sym, ◌∙◌, append_assoc, arith}
use Rattle.std.proofs.lemmas.List.{drop_more, take_more}
use Rattle.sdf_level.specs.declared.node.Node.{Node}
use Rattle.sdf_level.specs.declared.node.Node.TheVariants as node
use Rattle.single_rate.specs.declared.part.Part.{Part}
use Rattle.single_rate.specs.declared.wire.Wire.{Wire}
use Rattle.single_rate.proofs.Writers.{writer_of}
use Rattle.single_rate.specs.Wires.{pieces, piece_counts, pieces_of, all_pieces, into_forks, out_of_joins, total}
use Rattle.single_rate.specs.Cursors.{part_at, size_at, forks_by, joins_by}
use Rattle.single_rate.proofs.Skips.{no_part}
use Rattle.single_rate.proofs.RowSkips.{count-at}

pub forks-counted : (l : ℕ) (readers : List Part) (a i : ℕ) (ws : List Part) → forks_by l (piece_counts a ws readers) a i ws ≡ into_forks l readers a i ws
forks-counted l readers a i [] = refl
forks-counted l readers a i (w ∷ ws) = rw (forks-counted l readers (a + w.size) (i + 1) ws) refl

pub joins-counted : (l : ℕ) (writers : List Part) (b j : ℕ) (rs : List Part) → joins_by l (piece_counts b rs writers) b j rs ≡ out_of_joins l writers b j rs
joins-counted l writers b j [] = refl
joins-counted l writers b j (r ∷ rs) = rw (joins-counted l writers (b + r.size) (j + 1) rs) refl

-- a step of each pass: what was added, with the rest, is all
pub pieces-next : (l : ℕ) (writers readers : List Part) (a i : ℕ) (counts : List ℕ) (old new all : List Wire) → i < length writers → a ≡ total (take i writers) → counts ≡ piece_counts 0 writers readers →
    new ≡ old ++ pieces_of (writer_of l writers (take i writers) i (part_at writers i) (slice_index counts i) a (a + size_at writers i)) 0 0 0 readers →
    old ++ all_pieces l writers readers (take i writers) a i (drop i writers) ≡ all → new ++ all_pieces l writers readers (take (i + 1) writers) (a + size_at writers i) (i + 1) (drop (i + 1) writers) ≡ all
pieces-next l writers readers a i counts old new all inside at is_counts is_new before_all =
    let e : ℕ = a + size_at writers i in
    let w : Part = part_at writers i in
    let rest : List Wire = all_pieces l writers readers (take (i + 1) writers) e (i + 1) (drop (i + 1) writers) in
    let z : 0 + total (take i writers) ≡ a = omega arith in
    let m_is : slice_index counts i ≡ pieces a e 0 readers = ap (λ (c : List ℕ). slice_index c i) is_counts ∙ count-at 0 i writers readers inside ∙ ap (λ x. pieces x (x + size_at writers i) 0 readers) z in
    let step : all_pieces l writers readers (take i writers) a i (drop i writers) ≡ pieces_of (writer_of l writers (take i writers) i w (pieces a e 0 readers) a e) 0 0 0 readers ++ rest =
    rw (drop_more writers i no_part inside) (ap (λ (x : List Part). pieces_of (writer_of l writers (take i writers) i w (pieces a e 0 readers) a e) 0 0 0 readers ++ all_pieces l writers readers x e (i + 1) (drop (i + 1) writers)) (sym (take_more writers i no_part inside))) in
    ap (λ (x : List Wire). x ++ rest) (is_new ∙ ap (λ m. old ++ pieces_of (writer_of l writers (take i writers) i w m a e) 0 0 0 readers) m_is)
    ∙ append_assoc old (pieces_of (writer_of l writers (take i writers) i w (pieces a e 0 readers) a e) 0 0 0 readers) rest
    ∙ ap (λ (x : List Wire). old ++ x) (sym step)
    ∙ before_all

abbrev pub fork_wire : ℕ → ℕ → ℕ → Part → Wire
fork_wire l a i w = record { tail = w.at; head = record { node = node.Fork l i; port = 0 }; size = w.size; place = a }

abbrev pub join_wire : ℕ → ℕ → ℕ → Part → Wire
join_wire l b j r = record { tail = record { node = node.Join l j; port = 0 }; head = r.at; size = r.size; place = b }

pub forks-next : (l : ℕ) (writers : List Part) (a i : ℕ) (counts : List ℕ) (old new all : List Wire) → i < length writers → length counts ≡ length writers →
    new ≡ old ++ (if nat_lt 1 (slice_index counts i) then fork_wire l a i (part_at writers i) ∷ [] else []) →
    old ++ forks_by l (drop i counts) a i (drop i writers) ≡ all → new ++ forks_by l (drop (i + 1) counts) (a + size_at writers i) (i + 1) (drop (i + 1) writers) ≡ all
forks-next l writers a i counts old new all inside long is_new before_all =
    let rest : List Wire = forks_by l (drop (i + 1) counts) (a + size_at writers i) (i + 1) (drop (i + 1) writers) in
    let here : List Wire = if nat_lt 1 (slice_index counts i) then fork_wire l a i (part_at writers i) ∷ [] else [] in
    let step : forks_by l (drop i counts) a i (drop i writers) ≡ here ++ rest = rw (drop_more writers i no_part inside, drop_more counts i 0 (omega arith)) refl in
    ap (λ (x : List Wire). x ++ rest) is_new ∙ append_assoc old here rest ∙ ap (λ (x : List Wire). old ++ x) (sym step) ∙ before_all

pub joins-next : (l : ℕ) (readers : List Part) (b j : ℕ) (counts : List ℕ) (old new all : List Wire) → j < length readers → length counts ≡ length readers →
    new ≡ old ++ (if nat_lt 1 (slice_index counts j) then join_wire l b j (part_at readers j) ∷ [] else []) →
    old ++ joins_by l (drop j counts) b j (drop j readers) ≡ all → new ++ joins_by l (drop (j + 1) counts) (b + size_at readers j) (j + 1) (drop (j + 1) readers) ≡ all
joins-next l readers b j counts old new all inside long is_new before_all =
    let rest : List Wire = joins_by l (drop (j + 1) counts) (b + size_at readers j) (j + 1) (drop (j + 1) readers) in
    let here : List Wire = if nat_lt 1 (slice_index counts j) then join_wire l b j (part_at readers j) ∷ [] else [] in
    let step : joins_by l (drop j counts) b j (drop j readers) ≡ here ++ rest = rw (drop_more readers j no_part inside, drop_more counts j 0 (omega arith)) refl in
    ap (λ (x : List Wire). x ++ rest) is_new ∙ append_assoc old here rest ∙ ap (λ (x : List Wire). old ++ x) (sym step) ∙ before_all

-- one node more at the end
pub node-next : (f : ℕ → List ℕ → List Node) (one : ℕ → Node) → ((i r : ℕ) (rest : List ℕ) → f i (r ∷ rest) ≡ one i ∷ f (i + 1) rest) → (rates : List ℕ) (i : ℕ) (old new all : List Node) → i < length rates → new ≡ old ++ one i ∷ [] → old ++ f i (drop i rates) ≡ all → new ++ f (i + 1) (drop (i + 1) rates) ≡ all
node-next f one step rates i old new all inside is before =
    ap (λ (x : List Node). x ++ f (i + 1) (drop (i + 1) rates)) is ∙ append_assoc old (one i ∷ []) (f (i + 1) (drop (i + 1) rates))
    ∙ ap (λ (x : List Node). old ++ x) (sym (ap (f i) (drop_more rates i 0 inside) ∙ step i (slice_index rates i) (drop (i + 1) rates))) ∙ before
