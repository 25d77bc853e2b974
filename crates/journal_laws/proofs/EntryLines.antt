-- The lines of entries.
use Rattle.std.proofs.Common.{◌≡◌, ◌≢◌, ℕ, ◌<◌, ◌^◌, List, [], ◌∷◌, ◌++◌, codes, map, slice_index, refl, sym, ap, ◌∙◌, subst, arith, append_assoc}
use Rattle.std.proofs.lemmas.Fmt.{decimal_injective}
use Rattle.std.proofs.lemmas.List.{append-nil, append_cancel_left}
use Rattle.std.specs.Fmt.{decimal}
use Rattle.board_rules.specs.declared.entry.Entry.{Entry}
use Rattle.board_rules.specs.declared.entry.Entry.TheVariants.{Claim, Finish}
use Rattle.board_rules.specs.declared.entry.ItemName.{ItemName}
use Rattle.board_rules.specs.declared.entry.ItemName.TheVariants.{Configure, Compile, Node}
use Rattle.quiescent_driver.specs.Journals.{entry_line, journal_text}
use Rattle.journal_laws.specs.Lines.{AreAlike, HasPlainPath, HasSmallNumbers, HasSmallWorker, HavePlainPaths, claim_begin, entry_begin, lines, number_of}
use Rattle.journal_laws.proofs.Bytes.{Above, IsLine, above_more, above_so, decimal_above, feed_line, longer_line, same_fields, same_lines}

-- what stands after the comma that ends the path
abbrev item_text : ItemName → List ℕ
item_text (Configure place) = codes "configure," ++ (decimal place ++ 10 ∷ [])
item_text Compile = codes "compile,0" ++ 10 ∷ []
item_text (Node node) = codes "node," ++ (decimal node ++ 10 ∷ [])

-- the lines, piece by piece
claim_line : (n worker : ℕ) (path : List ℕ) (item : ItemName) → entry_line n (Claim worker path item) ≡ codes "claim," ++ (decimal n ++ 44 ∷ (decimal worker ++ 44 ∷ (path ++ 44 ∷ item_text item)))
claim_line n worker path (Configure place) = refl
claim_line n worker path Compile = refl
claim_line n worker path (Node node) = refl

small : (n : ℕ) → Above 10 (decimal n)
small n = above_more 10 44 (decimal n) (omega arith) (decimal_above n)

item_line : (item : ItemName) → IsLine (item_text item)
item_line (Configure place) = longer_line (codes "configure,") (decimal place ++ 10 ∷ []) (above_so 10 (codes "configure,") refl) (longer_line (decimal place) (10 ∷ []) (small place) feed_line)
item_line Compile = longer_line (codes "compile,0") (10 ∷ []) (above_so 10 (codes "compile,0") refl) feed_line
item_line (Node node) = longer_line (codes "node,") (decimal node ++ 10 ∷ []) (above_so 10 (codes "node,") refl) (longer_line (decimal node) (10 ∷ []) (small node) feed_line)

comma_line : (line : List ℕ) → IsLine line → IsLine (44 ∷ line)
comma_line line is = longer_line (44 ∷ []) line (above_so 10 (44 ∷ []) refl) is

entry_is_line : (n : ℕ) (entry : Entry) → HasPlainPath entry → IsLine (entry_line n entry)
entry_is_line n (Claim worker path item) plain =
    let rest : List ℕ = path ++ 44 ∷ item_text item in
    let of_path : IsLine rest = longer_line path (44 ∷ item_text item) (above_more 10 44 path (omega arith) plain) (comma_line (item_text item) (item_line item)) in
    let of_worker : IsLine (decimal worker ++ 44 ∷ rest) = longer_line (decimal worker) (44 ∷ rest) (small worker) (comma_line rest of_path) in
    let all = longer_line (codes "claim,") (decimal n ++ 44 ∷ (decimal worker ++ 44 ∷ rest)) (above_so 10 (codes "claim,") refl) (longer_line (decimal n) (44 ∷ (decimal worker ++ 44 ∷ rest)) (small n) (comma_line (decimal worker ++ 44 ∷ rest) of_worker)) in
    subst IsLine (sym (claim_line n worker path item)) all
entry_is_line n (Finish worker) plain =
    let of_worker : IsLine (decimal worker ++ 10 ∷ []) = longer_line (decimal worker) (10 ∷ []) (small worker) feed_line in
    longer_line (codes "finish,") (decimal n ++ 44 ∷ (decimal worker ++ 10 ∷ [])) (above_so 10 (codes "finish,") refl) (longer_line (decimal n) (44 ∷ (decimal worker ++ 10 ∷ [])) (small n) (comma_line (decimal worker ++ 10 ∷ []) of_worker))

pub entries_lines : (n : ℕ) (entries : List Entry) (text : List ℕ) → HavePlainPaths entries → lines (journal_text n entries ++ text) ≡ map (entry_line n) entries ++ lines text
entries_lines n [] text plain = refl
entries_lines n (e ∷ entries) text plain =
    ap lines (append_assoc (entry_line n e) (journal_text n entries) text)
    ∙ entry_is_line n e plain.0 (journal_text n entries ++ text)
    ∙ ap (λ l. entry_line n e ∷ l) (entries_lines n entries text plain.1)

-- ---- how they begin

claim_begins : (n worker : ℕ) (rest : List ℕ) → claim_begin n worker ++ rest ≡ codes "claim," ++ (decimal n ++ 44 ∷ (decimal worker ++ 44 ∷ rest))
claim_begins n worker rest =
    ap (λ l. codes "claim," ++ l) (append_assoc (decimal n) (44 ∷ (decimal worker ++ 44 ∷ [])) rest ∙ ap (λ l. decimal n ++ 44 ∷ l) (append_assoc (decimal worker) (44 ∷ []) rest))

finish_begins : (n worker : ℕ) (rest : List ℕ) → entry_line n (Finish worker) ++ rest ≡ codes "finish," ++ (decimal n ++ 44 ∷ (decimal worker ++ 10 ∷ rest))
finish_begins n worker rest =
    ap (λ l. codes "finish," ++ l) (append_assoc (decimal n) (44 ∷ (decimal worker ++ 10 ∷ [])) rest ∙ ap (λ l. decimal n ++ 44 ∷ l) (append_assoc (decimal worker) (10 ∷ []) rest))

pub line_begins : (n : ℕ) (entry : Entry) → (rest : List ℕ) × (entry_line n entry ≡ entry_begin n entry ++ rest)
line_begins n (Claim worker path item) = (path ++ 44 ∷ item_text item, claim_line n worker path item ∙ sym (claim_begins n worker (path ++ 44 ∷ item_text item)))
line_begins n (Finish worker) = ([], sym (append-nil (entry_line n (Finish worker))))

numbers_same : (n m : ℕ) → n < 2 ^ 32 → m < 2 ^ 32 → decimal n ≡ decimal m → n ≡ m
numbers_same n m one other e = decimal_injective n m (omega arith) (omega arith) e

-- texts that differ at a place
apart : (a b i : ℕ) (xs ys : List ℕ) → slice_index xs i ≡ a → slice_index ys i ≡ b → a ≢ b → xs ≡ ys → ⊥
apart a b i xs ys one other ne e = ne (sym one ∙ (ap (λ (l : List ℕ). slice_index l i) e ∙ other))

module _ (n m : ℕ) (n_small : n < 2 ^ 32) (m_small : m < 2 ^ 32) where
  -- two claims
  record ClaimsSame (w v : ℕ) (x y : List ℕ) : Type 0 where
    iteration : n ≡ m
    worker : w ≡ v
    rest : x ≡ y

  claims_same : (w v : ℕ) (x y : List ℕ) → w < 2 ^ 32 → v < 2 ^ 32 → codes "claim," ++ (decimal n ++ 44 ∷ (decimal w ++ 44 ∷ x)) ≡ codes "claim," ++ (decimal m ++ 44 ∷ (decimal v ++ 44 ∷ y)) → ClaimsSame w v x y
  claims_same w v x y w_small v_small e =
      let inner = append_cancel_left (codes "claim,") (decimal n ++ 44 ∷ (decimal w ++ 44 ∷ x)) (decimal m ++ 44 ∷ (decimal v ++ 44 ∷ y)) e in
      let one = same_fields (decimal n) (decimal w ++ 44 ∷ x) (decimal m) (decimal v ++ 44 ∷ y) (decimal_above n) (decimal_above m) inner in
      let two = same_fields (decimal w) x (decimal v) y (decimal_above w) (decimal_above v) one.rest in
      record { iteration = numbers_same n m n_small m_small one.first; worker = numbers_same w v w_small v_small two.first; rest = two.rest }

  finishes_same : (w v : ℕ) (x y : List ℕ) → w < 2 ^ 32 → v < 2 ^ 32 → codes "finish," ++ (decimal n ++ 44 ∷ (decimal w ++ 10 ∷ x)) ≡ codes "finish," ++ (decimal m ++ 44 ∷ (decimal v ++ 10 ∷ y)) → ClaimsSame w v x y
  finishes_same w v x y w_small v_small e =
      let inner = append_cancel_left (codes "finish,") (decimal n ++ 44 ∷ (decimal w ++ 10 ∷ x)) (decimal m ++ 44 ∷ (decimal v ++ 10 ∷ y)) e in
      let one = same_fields (decimal n) (decimal w ++ 10 ∷ x) (decimal m) (decimal v ++ 10 ∷ y) (decimal_above n) (decimal_above m) inner in
      let two = same_lines (decimal w) x (decimal v) y (small w) (small v) one.rest in
      record { iteration = numbers_same n m n_small m_small one.first; worker = numbers_same w v w_small v_small two.first; rest = two.rest }

  pub begins_tell : (one other : Entry) (x y : List ℕ) → HasSmallWorker one → HasSmallWorker other → entry_begin n one ++ x ≡ entry_begin m other ++ y → (n ≡ m) × AreAlike one other
  begins_tell (Claim w path item) (Claim v other next) x y w_small v_small e =
      let t = claims_same w v x y w_small v_small (sym (claim_begins n w x) ∙ e ∙ claim_begins m v y) in (t.iteration, t.worker)
  begins_tell (Claim w path item) (Finish v) x y w_small v_small e = absurd (apart 99 102 0 (claim_begin n w ++ x) (entry_line m (Finish v) ++ y) refl refl (omega arith) e)
  begins_tell (Finish w) (Claim v other next) x y w_small v_small e = absurd (apart 102 99 0 (entry_line n (Finish w) ++ x) (claim_begin m v ++ y) refl refl (omega arith) e)
  begins_tell (Finish w) (Finish v) x y w_small v_small e =
      let t = finishes_same w v x y w_small v_small (sym (finish_begins n w x) ∙ e ∙ finish_begins m v y) in (t.iteration, t.worker)

  -- ---- what they tell

  items_same : (one other : ItemName) → number_of one < 2 ^ 32 → number_of other < 2 ^ 32 → item_text one ≡ item_text other → one ≡ other
  items_same (Configure p) (Configure q) p_small q_small e =
      let inner = append_cancel_left (codes "configure,") (decimal p ++ 10 ∷ []) (decimal q ++ 10 ∷ []) e in
      ap Configure (numbers_same p q p_small q_small (same_lines (decimal p) [] (decimal q) [] (small p) (small q) inner).first)
  items_same (Configure p) Compile p_small q_small e = absurd (apart 110 109 2 (item_text (Configure p)) (item_text Compile) refl refl (omega arith) e)
  items_same (Configure p) (Node q) p_small q_small e = absurd (apart 99 110 0 (item_text (Configure p)) (item_text (Node q)) refl refl (omega arith) e)
  items_same Compile (Configure q) p_small q_small e = absurd (apart 109 110 2 (item_text Compile) (item_text (Configure q)) refl refl (omega arith) e)
  items_same Compile Compile p_small q_small e = refl
  items_same Compile (Node q) p_small q_small e = absurd (apart 99 110 0 (item_text Compile) (item_text (Node q)) refl refl (omega arith) e)
  items_same (Node p) (Configure q) p_small q_small e = absurd (apart 110 99 0 (item_text (Node p)) (item_text (Configure q)) refl refl (omega arith) e)
  items_same (Node p) Compile p_small q_small e = absurd (apart 110 99 0 (item_text (Node p)) (item_text Compile) refl refl (omega arith) e)
  items_same (Node p) (Node q) p_small q_small e =
      let inner = append_cancel_left (codes "node,") (decimal p ++ 10 ∷ []) (decimal q ++ 10 ∷ []) e in
      ap Node (numbers_same p q p_small q_small (same_lines (decimal p) [] (decimal q) [] (small p) (small q) inner).first)

  pub lines_tell : (one other : Entry) → HasSmallNumbers one → HasSmallNumbers other → HasPlainPath one → HasPlainPath other → entry_line n one ≡ entry_line m other → (n ≡ m) × (one ≡ other)
  lines_tell (Claim w path item) (Claim v other next) one_small other_small plain other_plain e =
      let t = claims_same w v (path ++ 44 ∷ item_text item) (other ++ 44 ∷ item_text next) one_small.0 other_small.0 (sym (claim_line n w path item) ∙ e ∙ claim_line m v other next) in
      let f = same_fields path (item_text item) other (item_text next) plain other_plain t.rest in
      let worker = t.worker in
      let paths = f.first in
      let items = items_same item next one_small.1 other_small.1 f.rest in
      (t.iteration, λ x. Claim (worker x) (paths x) (items x))
  lines_tell (Claim w path item) (Finish v) one_small other_small plain other_plain e = absurd (apart 99 102 0 (entry_line n (Claim w path item)) (entry_line m (Finish v)) (ap (λ (l : List ℕ). slice_index l 0) (claim_line n w path item)) refl (omega arith) e)
  lines_tell (Finish w) (Claim v other next) one_small other_small plain other_plain e = absurd (apart 102 99 0 (entry_line n (Finish w)) (entry_line m (Claim v other next)) refl (ap (λ (l : List ℕ). slice_index l 0) (claim_line m v other next)) (omega arith) e)
  lines_tell (Finish w) (Finish v) one_small other_small plain other_plain e =
      let t = finishes_same w v [] [] one_small other_small e in
      (t.iteration, ap Finish t.worker)
