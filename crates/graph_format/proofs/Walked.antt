-- What a walk reads is what the value states, and what a value states is what the walk reads.
use Rattle.std.proofs.Common.{◌≡◌, ℕ, ◌+◌, ◌&&◌, List, [], ◌∷◌, Bool, true, false, cond, Option, Some, None, Result, Ok, Err, refl, sym, ap, ◌∙◌, subst}
use Rattle.std.specs.Prelude.{option_and_then}
use Rattle.std.specs.Fmt.{decimal}
use Rattle.serde_json.specs.Data.{Data, Items, no_items, item}
use Rattle.serde_json.specs.Find.{get, as_str, as_array}
use Rattle.param_expr.specs.Named.{NamedTree}
use Rattle.param_expr.specs.Words.{is_name}
use Rattle.param_expr.specs.Parse.{Answers}
use Rattle.param_expr.specs.Machine.{answer_of}
use Rattle.param_expr.specs.declared.fault.ExprFault.{ExprFault}
use Rattle.param_expr.proofs.Computed.{answers, answer_is}
use Rattle.graph_format.specs.declared.fifo.FileEnd.{FileEnd}
use Rattle.graph_format.specs.declared.fifo.FileEnd.TheVariants.{Interface, Port}
use Rattle.graph_format.specs.Pointer.{under}
use Rattle.graph_format.specs.Walk.{◌>>=◌, shaped, member_at, if_there, member_or, items_at, list_at, whole_of, whole_at}
use Rattle.graph_format.specs.Texts.{name_from, name_at, is_kernel_name, kernel_from, kernel_at, if_parsed, expression_from, expression_at, cut_at_point, end_of_parts, end_from, end_at}
use Rattle.graph_format.specs.Values.{HasMember, StatesOr, AreItems, IsList, IsWhole, StatesName, StatesKernel, StatesExpression, end_text, HasNames, StatesEnd}
use Rattle.graph_format.proofs.Points.{cut_none, cut_some, cut_joined, name_lacks}

-- a walk that reads x, and goes on to y
pub record Goes {A B : Type 0} (walked : Result A (List ℕ)) (f : A → Result B (List ℕ)) (y : B) : Type 0 where
  pub read : A
  pub first : walked ≡ Ok read
  pub after : f read ≡ Ok y

pub goes : {A B : Type 0} (walked : Result A (List ℕ)) (f : A → Result B (List ℕ)) (y : B) → (walked >>= f) ≡ Ok y → Goes walked f y
goes (Ok x) f y e = record { read = x; first = refl; after = e }
goes (Err d) f y e = absurd cc

pub shaped_ok : {A : Type 0} (at : List ℕ) (o : Option A) (x : A) → shaped at o ≡ Ok x → o ≡ Some x
shaped_ok at (Some y) x e = cc
shaped_ok at None x e = absurd cc

pub and_then_some : {A B : Type 0} (f : A → Option B) (o : Option A) (y : B) → option_and_then f o ≡ Some y → (x : A) × (o ≡ Some x) × (f x ≡ Some y)
and_then_some f (Some x) y e = (x, refl, e)
and_then_some f None y e = absurd cc

pub tested : {A : Type 0} (b : Bool) (x y : A) → cond b (Some x) None ≡ Some y → (b ≡ true) × (x ≡ y)
tested true x y e = (refl, cc)
tested false x y e = absurd cc

pub if_ok : {A : Type 0} (b : Bool) (r : Result A (List ℕ)) (e : List ℕ) (x : A) → cond b r (Err e) ≡ Ok x → (b ≡ true) × (r ≡ Ok x)
if_ok true r e x h = (refl, h)
if_ok false r e x h = absurd cc

pub and_both : (s t : Bool) → (s && t) ≡ true → (s ≡ true) × (t ≡ true)
and_both true true e = (refl, refl)
and_both true false e = absurd cc
and_both false t e = absurd cc

-- a walk reads just what R says
pub record ReadsJust {A : Type 0} (read : List ℕ → Data → Result A (List ℕ)) (R : Data → A → Type 0) : Type 0 where
  pub found : (at : List ℕ) (d : Data) (x : A) → read at d ≡ Ok x → R d x
  pub again : (at : List ℕ) (d : Data) (x : A) → R d x → read at d ≡ Ok x

-- ---- numbers and texts

pub whole_reads : ReadsJust whole_at IsWhole
whole_reads = record {
  found = λ at d x e. shaped_ok at (whole_of d) x e;
  again = λ at d x h. ap (shaped at) h;
}

name_found : (at : List ℕ) (d : Data) (x : List ℕ) → name_at at d ≡ Ok x → StatesName d x
name_found at d x e =
    let o = and_then_some name_from (as_str d) x (shaped_ok at _ x e) in
    let t = tested (is_name o.0) o.0 x o.2 in
    record { text = o.1 ∙ ap (λ t. Some t) t.1; valid = subst (λ (n : List ℕ). is_name n ≡ true) t.1 t.0 }

name_again : (at : List ℕ) (d : Data) (x : List ℕ) → StatesName d x → name_at at d ≡ Ok x
name_again at d x h = rw (h.text, h.valid) refl

pub name_reads : ReadsJust name_at StatesName
name_reads = record { found = name_found; again = name_again }

kernel_found : (at : List ℕ) (d : Data) (x : List ℕ) → kernel_at at d ≡ Ok x → StatesKernel d x
kernel_found at d x e =
    let o = and_then_some kernel_from (as_str d) x (shaped_ok at _ x e) in
    let t = tested (is_kernel_name o.0) o.0 x o.2 in
    record { text = o.1 ∙ ap (λ t. Some t) t.1; valid = subst (λ (n : List ℕ). is_kernel_name n ≡ true) t.1 t.0 }

kernel_again : (at : List ℕ) (d : Data) (x : List ℕ) → StatesKernel d x → kernel_at at d ≡ Ok x
kernel_again at d x h = rw (h.text, h.valid) refl

pub kernel_reads : ReadsJust kernel_at StatesKernel
kernel_reads = record { found = kernel_found; again = kernel_again }

parsed_some : (r : Result NamedTree ExprFault) (expr : NamedTree) → if_parsed r ≡ Some expr → r ≡ Ok expr
parsed_some (Ok found) expr e = cc
parsed_some (Err fault) expr e = absurd cc

expression_found : (at : List ℕ) (d : Data) (x : NamedTree) → expression_at at d ≡ Ok x → StatesExpression d x
expression_found at d x e =
    let o = and_then_some expression_from (as_str d) x (shaped_ok at _ x e) in
    record { text = o.0; is_text = o.1; answer = subst (Answers o.0) (parsed_some (answer_of o.0) x o.2) (answers o.0) }

expression_again : (at : List ℕ) (d : Data) (x : NamedTree) → StatesExpression d x → expression_at at d ≡ Ok x
expression_again at d x h =
    let is : answer_of h.text ≡ Ok x = sym (answer_is h.text (Ok x) h.answer) in
    ap (λ o. shaped at (option_and_then expression_from o)) h.is_text ∙ ap (λ r. shaped at (if_parsed r)) is

pub expression_reads : ReadsJust expression_at StatesExpression
expression_reads = record { found = expression_found; again = expression_again }

-- ---- ends

-- what a text is as an end
record IsEnd (text : List ℕ) (end : FileEnd) : Type 0 where
  pub joined : end_text end ≡ text
  pub valid : HasNames end

parts_found : (text : List ℕ) (parts : Option (List ℕ × List ℕ)) (end : FileEnd) → cut_at_point text ≡ parts → end_of_parts text parts ≡ Some end → IsEnd text end
parts_found text None end c e =
    let t = tested (is_name text) (Interface text) end e in
    subst (IsEnd text) t.1 (record { joined = refl; valid = t.0 })
parts_found text (Some parts) end c e =
    let t = tested (is_name parts.0 && is_name parts.1) (Port parts.0 parts.1) end e in
    subst (IsEnd text) t.1 (record { joined = sym (cut_joined text parts c); valid = and_both (is_name parts.0) (is_name parts.1) t.0 })

parts_again : (end : FileEnd) → HasNames end → end_from (end_text end) ≡ Some end
parts_again (Interface name) h = rw (cut_none name (name_lacks name h), h) refl
parts_again (Port actor port) h = rw (cut_some actor port (name_lacks actor h.0), h.0, h.1) refl

end_found : (at : List ℕ) (d : Data) (x : FileEnd) → end_at at d ≡ Ok x → StatesEnd d x
end_found at d x e =
    let o = and_then_some end_from (as_str d) x (shaped_ok at _ x e) in
    let p = parts_found o.0 (cut_at_point o.0) x refl o.2 in
    record { text = o.1 ∙ ap (λ t. Some t) (sym p.joined); valid = p.valid }

end_again : (at : List ℕ) (d : Data) (x : FileEnd) → StatesEnd d x → end_at at d ≡ Ok x
end_again at d x h = ap (λ o. shaped at (option_and_then end_from o)) h.text ∙ ap (shaped at) (parts_again x h.valid)

pub end_reads : ReadsJust end_at StatesEnd
end_reads = record { found = end_found; again = end_again }

-- ---- lists

abbrev done : {A : Type 0} → A → Result A (List ℕ)
done x = Ok x

items_found : {A : Type 0} (read : List ℕ → Data → Result A (List ℕ)) (R : Data → A → Type 0) → ReadsJust read R → (at : List ℕ) (i : ℕ) (ds : Items) (xs : List A) → items_at read at i ds ≡ Ok xs → AreItems R ds xs
unfolding items_at
items_found read R h at i no_items [] e = tt
items_found read R h at i no_items (x ∷ xs) e = absurd cc
items_found read R h at i (item d ds) [] e =
    let one = goes (read (under at (decimal i)) d) _ _ e in
    let rest = goes (items_at read at (i + 1) ds) (λ xs. Ok (one.read ∷ xs)) [] one.after in
    let no : done (one.read ∷ rest.read) ≡ Ok [] = rest.after in
    absurd cc
items_found {A} read R h at i (item d ds) (x ∷ xs) e =
    let one = goes (read (under at (decimal i)) d) _ _ e in
    let rest = goes (items_at read at (i + 1) ds) (λ xs. Ok (one.read ∷ xs)) (x ∷ xs) one.after in
    let same : done (one.read ∷ rest.read) ≡ Ok (x ∷ xs) = rest.after in
    let head : one.read ≡ x = cc in
    let tail : rest.read ≡ xs = cc in
    (h.found _ d x (one.first ∙ ap done head), items_found read R h at (i + 1) ds xs (rest.first ∙ ap done tail))

items_again : {A : Type 0} (read : List ℕ → Data → Result A (List ℕ)) (R : Data → A → Type 0) → ReadsJust read R → (at : List ℕ) (i : ℕ) (ds : Items) (xs : List A) → AreItems R ds xs → items_at read at i ds ≡ Ok xs
unfolding items_at
items_again read R h at i no_items [] a = refl
items_again read R h at i no_items (x ∷ xs) a = absurd a
items_again read R h at i (item d ds) [] a = absurd a
items_again read R h at i (item d ds) (x ∷ xs) a =
    rw (h.again (under at (decimal i)) d x a.0, items_again read R h at (i + 1) ds xs a.1) refl

-- the values of a list that is one
pub values_found : {A : Type 0} (read : List ℕ → Data → Result A (List ℕ)) (R : Data → A → Type 0) → ReadsJust read R → (at : List ℕ) (d : Data) (values : Items) (xs : List A) → as_array d ≡ Some values → items_at read at 0 values ≡ Ok xs → IsList R d xs
values_found read R h at d values xs is e = record { values = values; is_array = is; items = items_found read R h at 0 values xs e }

pub values_again : {A : Type 0} (read : List ℕ → Data → Result A (List ℕ)) (R : Data → A → Type 0) → ReadsJust read R → (at : List ℕ) (d : Data) (xs : List A) (l : IsList R d xs) → items_at read at 0 l.values ≡ Ok xs
values_again read R h at d xs l = items_again read R h at 0 l.values xs l.items

pub list_reads : {A : Type 0} (read : List ℕ → Data → Result A (List ℕ)) (R : Data → A → Type 0) → ReadsJust read R → ReadsJust (list_at read) (IsList R)
list_reads read R h = record {
  found = λ at d xs e.
      (let o = goes (shaped at (as_array d)) (items_at read at 0) xs e in
      values_found read R h at d o.read xs (shaped_ok at _ _ o.first) o.after);
  again = λ at d xs l.
      (ap (λ o. shaped at o >>= items_at read at 0) l.is_array ∙ values_again read R h at d xs l);
}

-- ---- members

pub member_found : {A : Type 0} (read : List ℕ → Data → Result A (List ℕ)) (R : Data → A → Type 0) → ReadsJust read R → (at : List ℕ) (d : Data) (name : List ℕ) (x : A) → member_at read at name d ≡ Ok x → HasMember R d name x
member_found read R h at d name x e =
    let v = goes (shaped at (get name d)) (read (under at name)) x e in
    record { value = v.read; is_there = shaped_ok at _ _ v.first; states = h.found _ v.read x v.after }

pub member_again : {A : Type 0} (read : List ℕ → Data → Result A (List ℕ)) (R : Data → A → Type 0) → ReadsJust read R → (at : List ℕ) (d : Data) (name : List ℕ) (x : A) → HasMember R d name x → member_at read at name d ≡ Ok x
member_again read R h at d name x m = ap (λ o. shaped at o >>= read (under at name)) m.is_there ∙ h.again (under at name) m.value x m.states

there_found : {A : Type 0} (read : Data → Result A (List ℕ)) (R : Data → A → Type 0) (default : A) → ((d : Data) (x : A) → read d ≡ Ok x → R d x) → (v : Option Data) (x : A) → if_there default read v ≡ Ok x → StatesOr R default v x
there_found read R default h None x e = cc
there_found read R default h (Some d) x e = h d x e

there_again : {A : Type 0} (read : Data → Result A (List ℕ)) (R : Data → A → Type 0) (default : A) → ((d : Data) (x : A) → R d x → read d ≡ Ok x) → (v : Option Data) (x : A) → StatesOr R default v x → if_there default read v ≡ Ok x
there_again read R default h None x s = ap done (sym s)
there_again read R default h (Some d) x s = h d x s

pub or_found : {A : Type 0} (read : List ℕ → Data → Result A (List ℕ)) (R : Data → A → Type 0) → ReadsJust read R → (default : A) (at : List ℕ) (d : Data) (name : List ℕ) (x : A) → member_or default read at name d ≡ Ok x → StatesOr R default (get name d) x
or_found read R h default at d name x e = there_found (read (under at name)) R default (h.found (under at name)) (get name d) x e

pub or_again : {A : Type 0} (read : List ℕ → Data → Result A (List ℕ)) (R : Data → A → Type 0) → ReadsJust read R → (default : A) (at : List ℕ) (d : Data) (name : List ℕ) (x : A) → StatesOr R default (get name d) x → member_or default read at name d ≡ Ok x
or_again read R h default at d name x s = there_again (read (under at name)) R default (h.again (under at name)) (get name d) x s
