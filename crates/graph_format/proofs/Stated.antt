-- The walk over a graph file reads just what the file's JSON value states.
use Rattle.std.proofs.Common.{◌≡◌, ℕ, ℤ, pos, List, [], ◌∷◌, ◌&&◌, Bool, true, false, cond, Option, Some, None, Result, Ok, refl, ap, ◌∙◌, subst, bytes_eq}
use Rattle.std.specs.Prelude.{option_and_then, codes, int_le}
use Rattle.std.specs.Cmp.Lexicographic.{bytes_decides}
use Rattle.serde_json.specs.Data.{Data}
use Rattle.serde_json.specs.Find.{get, as_str}
use Rattle.param_expr.specs.Named.{NamedTree}
use Rattle.graph_format.specs.Pointer.{pointer_text}
use Rattle.graph_format.specs.Walk.{has_form, formed, member_at, member_or, is_text, says, whole_of}
use Rattle.graph_format.specs.Texts.{name_at, expression_at}
use Rattle.graph_format.specs.Objects.{greatest_bound, within, bound_at, ranged_at, derived_members_at, given_kind, given_kind_at, given_members_at, derived_keys, given_keys, optional_param_keys, param_at, port_members_at, port_keys, port_at, input_members_at, input_at}
use Rattle.graph_format.specs.Values.{HasMember, StatesOr, IsWithin, IsText, StatesName, StatesExpression}
use Rattle.graph_format.specs.States.{kind_text, StatesParam, StatesPort, StatesInput}
use Rattle.graph_format.proofs.Walked.{ReadsJust, goes, shaped_ok, and_then_some, tested, if_ok, and_both, name_reads, expression_reads, member_found, member_again, or_found, or_again}
use Rattle.graph_format.specs.declared.param.FileParam.{FileParam}
use Rattle.graph_format.specs.declared.param.FileParamKind.{FileParamKind}
use Rattle.graph_format.specs.declared.param.FileParamKind.TheVariants.{Inherited, Derived, Chosen}
use Rattle.graph_format.specs.declared.port.FilePort.{FilePort}

-- ---- a member that is a text

is_text_found : (text : List ℕ) (o : Option (List ℕ)) → is_text text o ≡ true → o ≡ Some text
is_text_found text None e = absurd cc
is_text_found text (Some other) e = ap (λ t. Some t) ((bytes_decides other text).0 e)

pub says_found : (name text : List ℕ) (d : Data) → says name text d ≡ true → HasMember IsText d name text
says_found name text d e =
    let o = and_then_some as_str (get name d) text (is_text_found text (option_and_then as_str (get name d)) e) in
    record { value = o.0; is_there = o.1; states = o.2 }

said : (name text : List ℕ) (d : Data) → HasMember IsText d name text → option_and_then as_str (get name d) ≡ Some text
said name text d m = ap (option_and_then as_str) m.is_there ∙ m.states

-- the member is this text, which is the other one or not
pub says_again : (name text other : List ℕ) (d : Data) (same : Bool) → bytes_eq text other ≡ same → HasMember IsText d name text → says name other d ≡ same
says_again name text other d same e m = ap (is_text other) (said name text d m) ∙ e

-- ---- parameters

bound_found : (least : ℤ) (at : List ℕ) (d : Data) (z : ℤ) → bound_at least at d ≡ Ok z → IsWithin least greatest_bound d z
bound_found least at d z e =
    let o = and_then_some (within least) (whole_of d) z (shaped_ok at _ z e) in
    let t = tested (int_le least o.0 && int_le o.0 greatest_bound) o.0 z o.2 in
    let b = and_both (int_le least o.0) (int_le o.0 greatest_bound) t.0 in
    subst (IsWithin least greatest_bound d) t.1 (record { number = o.1; low = b.0; high = b.1 })

bound_again : (least : ℤ) (at : List ℕ) (d : Data) (z : ℤ) → IsWithin least greatest_bound d z → bound_at least at d ≡ Ok z
bound_again least at d z h = rw (h.number, h.low, h.high) refl

bound_reads : (least : ℤ) → ReadsJust (bound_at least) (IsWithin least greatest_bound)
bound_reads least = record { found = bound_found least; again = bound_again least }

-- a parameter with a range that is stated
record Ranged (name : List ℕ) (kind : FileParamKind) (d : Data) (param : FileParam) : Type 0 where
  pub least : ℤ
  pub greatest : ℤ
  pub low : StatesOr (IsWithin (pos 0) greatest_bound) (pos 0) (get (codes "low") d) least
  pub high : StatesOr (IsWithin least greatest_bound) greatest_bound (get (codes "high") d) greatest
  pub same : record { name = name; kind = kind; low = least; high = greatest } ≡ param

abbrev param_done : FileParam → Result FileParam (List ℕ)
param_done param = Ok param

ranged_found : (name : List ℕ) (kind : FileParamKind) (at : List ℕ) (d : Data) (param : FileParam) → ranged_at name kind at d ≡ Ok param → Ranged name kind d param
unfolding ranged_at
ranged_found name kind at d param e =
    let low = goes (member_or (pos 0) (bound_at (pos 0)) at (codes "low") d) _ param e in
    let high = goes (member_or greatest_bound (bound_at low.read) at (codes "high") d) (λ high. Ok (record { name = name; kind = kind; low = low.read; high = high })) param low.after in
    let same : param_done (record { name = name; kind = kind; low = low.read; high = high.read }) ≡ Ok param = high.after in
    record {
      least = low.read;
      greatest = high.read;
      low = or_found (bound_at (pos 0)) (IsWithin (pos 0) greatest_bound) (bound_reads (pos 0)) (pos 0) at d (codes "low") low.read low.first;
      high = or_found (bound_at low.read) (IsWithin low.read greatest_bound) (bound_reads low.read) greatest_bound at d (codes "high") high.read high.first;
      same = cc;
    }

ranged_again : (at : List ℕ) (d : Data) (param : FileParam) → StatesParam d param → ranged_at param.name param.kind at d ≡ Ok param
unfolding ranged_at
ranged_again at d param f =
    rw (
      or_again (bound_at (pos 0)) (IsWithin (pos 0) greatest_bound) (bound_reads (pos 0)) (pos 0) at d (codes "low") param.low f.low,
      or_again (bound_at param.low) (IsWithin param.low greatest_bound) (bound_reads param.low) greatest_bound at d (codes "high") param.high f.high,
    ) refl

derived_found : (at : List ℕ) (d : Data) (param : FileParam) → has_form derived_keys optional_param_keys d ≡ true → HasMember IsText d (codes "kind") (codes "is") → derived_members_at at d ≡ Ok param → StatesParam d param
unfolding derived_members_at
derived_found at d param members kind e =
    let name = goes (member_at name_at at (codes "name") d) _ param e in
    let expr = goes (member_at expression_at at (codes "expr") d) (λ expr. ranged_at name.read (Derived expr) at d) param name.after in
    let range = ranged_found name.read (Derived expr.read) at d param expr.after in
    subst (StatesParam d) range.same (record {
      members = members;
      name = member_found name_at StatesName name_reads at d (codes "name") name.read name.first;
      kind = kind;
      expr = member_found expression_at StatesExpression expression_reads at d (codes "expr") expr.read expr.first;
      low = range.low;
      high = range.high;
    })

-- a kind without an expression
abbrev IsGiven : FileParamKind → Type 0
IsGiven Inherited = Unit {0}
IsGiven (Derived expr) = ⊥
IsGiven Chosen = Unit {0}

record StatesGiven (d : Data) (kind : FileParamKind) : Type 0 where
  pub given : IsGiven kind
  pub text : as_str d ≡ Some (kind_text kind)

kind_found : (at : List ℕ) (d : Data) (kind : FileParamKind) → given_kind_at at d ≡ Ok kind → StatesGiven d kind
kind_found at d kind e = go o.0 (bytes_eq o.0 (codes "in")) (bytes_eq o.0 (codes "set")) refl refl o.1 o.2
  where
    o : (text : List ℕ) × (as_str d ≡ Some text) × (given_kind text ≡ Some kind)
    o = and_then_some given_kind (as_str d) kind (shaped_ok at _ kind e)

    go : (text : List ℕ) (inherited chosen : Bool) → bytes_eq text (codes "in") ≡ inherited → bytes_eq text (codes "set") ≡ chosen → as_str d ≡ Some text → given_kind text ≡ Some kind → StatesGiven d kind
    go text true chosen i c is k =
        let found : cond true (Some Inherited) (cond (bytes_eq text (codes "set")) (Some Chosen) None) ≡ Some kind = rw i at k in
        let same : Inherited ≡ kind = cc in
        subst (StatesGiven d) same (record { given = tt; text = is ∙ ap (λ t. Some t) ((bytes_decides text (codes "in")).0 i) })
    go text false true i c is k =
        let found : cond false (Some Inherited) (cond true (Some Chosen) None) ≡ Some kind = rw (i, c) at k in
        let same : Chosen ≡ kind = cc in
        subst (StatesGiven d) same (record { given = tt; text = is ∙ ap (λ t. Some t) ((bytes_decides text (codes "set")).0 c) })
    go text false false i c is k =
        let none : cond false (Some Inherited) (cond false (Some Chosen) None) ≡ Some kind = rw (i, c) at k in
        absurd cc

kind_again : (at : List ℕ) (d : Data) (kind : FileParamKind) → StatesGiven d kind → given_kind_at at d ≡ Ok kind
kind_again at d Inherited h = rw h.text refl
kind_again at d (Derived expr) h = absurd h.given
kind_again at d Chosen h = rw h.text refl

kind_reads : ReadsJust given_kind_at StatesGiven
kind_reads = record { found = kind_found; again = kind_again }

given_states : (d : Data) (kind : FileParamKind) (name : List ℕ) (low high : ℤ)
    → has_form given_keys optional_param_keys d ≡ true → HasMember StatesGiven d (codes "kind") kind → HasMember StatesName d (codes "name") name
    → StatesOr (IsWithin (pos 0) greatest_bound) (pos 0) (get (codes "low") d) low → StatesOr (IsWithin low greatest_bound) greatest_bound (get (codes "high") d) high
    → StatesParam d (record { name = name; kind = kind; low = low; high = high })
given_states d Inherited name low high members k n l h = record { members = members; name = n; kind = record { value = k.value; is_there = k.is_there; states = k.states.text }; expr = tt; low = l; high = h }
given_states d (Derived expr) name low high members k n l h = absurd k.states.given
given_states d Chosen name low high members k n l h = record { members = members; name = n; kind = record { value = k.value; is_there = k.is_there; states = k.states.text }; expr = tt; low = l; high = h }

given_found : (at : List ℕ) (d : Data) (param : FileParam) → has_form given_keys optional_param_keys d ≡ true → given_members_at at d ≡ Ok param → StatesParam d param
unfolding given_members_at
given_found at d param members e =
    let name = goes (member_at name_at at (codes "name") d) _ param e in
    let kind = goes (member_at given_kind_at at (codes "kind") d) (λ kind. ranged_at name.read kind at d) param name.after in
    let range = ranged_found name.read kind.read at d param kind.after in
    subst (StatesParam d) range.same (given_states d kind.read name.read range.least range.greatest members
    (member_found given_kind_at StatesGiven kind_reads at d (codes "kind") kind.read kind.first)
    (member_found name_at StatesName name_reads at d (codes "name") name.read name.first)
    range.low range.high)

param_found : (at : List ℕ) (d : Data) (param : FileParam) → param_at at d ≡ Ok param → StatesParam d param
unfolding param_at
param_found at d param e = go (says (codes "kind") (codes "is") d) refl e
  where
    go : (t : Bool) → says (codes "kind") (codes "is") d ≡ t → cond t (formed derived_keys optional_param_keys derived_members_at at d) (formed given_keys optional_param_keys given_members_at at d) ≡ Ok param → StatesParam d param
    go true s k =
        let object = if_ok (has_form derived_keys optional_param_keys d) (derived_members_at at d) (pointer_text at) param k in
        derived_found at d param object.0 (says_found (codes "kind") (codes "is") d s) object.1
    go false s k =
        let object = if_ok (has_form given_keys optional_param_keys d) (given_members_at at d) (pointer_text at) param k in
        given_found at d param object.0 object.1

derived_again : (at : List ℕ) (d : Data) (expr : NamedTree) (name : List ℕ) (low high : ℤ) → StatesParam d (record { name = name; kind = Derived expr; low = low; high = high }) → param_at at d ≡ Ok (record { name = name; kind = Derived expr; low = low; high = high })
unfolding param_at derived_members_at
derived_again at d expr name low high f =
    rw (
      says_again (codes "kind") (codes "is") (codes "is") d true refl f.kind,
      f.members,
      member_again name_at StatesName name_reads at d (codes "name") name f.name,
      member_again expression_at StatesExpression expression_reads at d (codes "expr") expr f.expr,
    ) (ranged_again at d (record { name = name; kind = Derived expr; low = low; high = high }) f)

given_again : (at : List ℕ) (d : Data) (kind : FileParamKind) (name : List ℕ) (low high : ℤ) → IsGiven kind → says (codes "kind") (codes "is") d ≡ false → has_form given_keys optional_param_keys d ≡ true → StatesParam d (record { name = name; kind = kind; low = low; high = high }) → param_at at d ≡ Ok (record { name = name; kind = kind; low = low; high = high })
unfolding param_at given_members_at
given_again at d kind name low high given other members f =
    rw (
      other,
      members,
      member_again name_at StatesName name_reads at d (codes "name") name f.name,
      member_again given_kind_at StatesGiven kind_reads at d (codes "kind") kind (record { value = f.kind.value; is_there = f.kind.is_there; states = record { given = given; text = f.kind.states } }),
    ) (ranged_again at d (record { name = name; kind = kind; low = low; high = high }) f)

param_again_of : (at : List ℕ) (d : Data) (kind : FileParamKind) (name : List ℕ) (low high : ℤ) → StatesParam d (record { name = name; kind = kind; low = low; high = high }) → param_at at d ≡ Ok (record { name = name; kind = kind; low = low; high = high })
param_again_of at d Inherited name low high f = given_again at d Inherited name low high tt (says_again (codes "kind") (codes "in") (codes "is") d false refl f.kind) f.members f
param_again_of at d (Derived expr) name low high f = derived_again at d expr name low high f
param_again_of at d Chosen name low high f = given_again at d Chosen name low high tt (says_again (codes "kind") (codes "set") (codes "is") d false refl f.kind) f.members f

pub param_reads : ReadsJust param_at StatesParam
param_reads = record {
  found = param_found;
  again = λ at d param f. param_again_of at d param.kind param.name param.low param.high f;
}

-- ---- interfaces and ports

abbrev port_done : FilePort → Result FilePort (List ℕ)
port_done port = Ok port

port_found : (at : List ℕ) (d : Data) (port : FilePort) → port_at at d ≡ Ok port → StatesPort d port
unfolding port_at port_members_at
port_found at d port e =
    let object = if_ok (has_form port_keys [] d) (port_members_at at d) (pointer_text at) port e in
    let name = goes (member_at name_at at (codes "name") d) _ port object.1 in
    let rate = goes (member_at expression_at at (codes "rate") d) (λ rate. Ok (record { name = name.read; rate = rate })) port name.after in
    let same : port_done (record { name = name.read; rate = rate.read }) ≡ Ok port = rate.after in
    let is : record { name = name.read; rate = rate.read } ≡ port = cc in
    subst (StatesPort d) is (record {
      members = object.0;
      name = member_found name_at StatesName name_reads at d (codes "name") name.read name.first;
      rate = member_found expression_at StatesExpression expression_reads at d (codes "rate") rate.read rate.first;
    })

port_again : (at : List ℕ) (d : Data) (port : FilePort) → StatesPort d port → port_at at d ≡ Ok port
unfolding port_at port_members_at
port_again at d port f =
    rw (
      f.members,
      member_again name_at StatesName name_reads at d (codes "name") port.name f.name,
      member_again expression_at StatesExpression expression_reads at d (codes "rate") port.rate f.rate,
    ) refl

pub port_reads : ReadsJust port_at StatesPort
port_reads = record { found = port_found; again = port_again }

input_found : (at : List ℕ) (d : Data) (input : List ℕ) → input_at at d ≡ Ok input → StatesInput d input
unfolding input_at
input_found at d input e =
    let object = if_ok (has_form (codes "name" ∷ []) [] d) (input_members_at at d) (pointer_text at) input e in
    record { members = object.0; name = member_found name_at StatesName name_reads at d (codes "name") input object.1 }

input_again : (at : List ℕ) (d : Data) (input : List ℕ) → StatesInput d input → input_at at d ≡ Ok input
unfolding input_at
input_again at d input f = rw f.members (member_again name_at StatesName name_reads at d (codes "name") input f.name)

pub input_reads : ReadsJust input_at StatesInput
input_reads = record { found = input_found; again = input_again }
