-- What a JSON value states: relations between values and what stands in a graph file.
use Rattle.std.specs.Prelude.{◌≡◌, ℕ, ℤ, int_le, List, [], ◌∷◌, true, Option, Some, None, Ok}
use Rattle.serde_json.specs.Data.{Data, Items, no_items, item}
use Rattle.serde_json.specs.Find.{get, as_str, as_array}
use Rattle.param_expr.specs.Named.{NamedTree}
use Rattle.param_expr.specs.Words.{is_name}
use Rattle.param_expr.specs.Parse.{Answers}
use Rattle.pisdf_model.specs.Wires.{port_text}
use Rattle.graph_format.specs.Walk.{whole_of}
use Rattle.graph_format.specs.Texts.{is_kernel_name}
use Rattle.graph_format.specs.declared.fifo.FileEnd.{FileEnd}
use Rattle.graph_format.specs.declared.fifo.FileEnd.TheVariants.{Interface, Port}

-- ---- members and lists

-- the member of the name states x
pub record HasMember {A : Type 0} (R : Data → A → Type 0) (d : Data) (name : List ℕ) (x : A) : Type 0 where
  pub value : Data
  pub is_there : get name d ≡ Some value
  pub states : R value x

-- a member stands for what it states, and one left out for the default
abbrev pub StatesOr : {A : Type 0} → (Data → A → Type 0) → A → Option Data → A → Type 0
StatesOr R default None x = x ≡ default
StatesOr R default (Some d) x = R d x

-- each value states the item at its place
abbrev pub AreItems : {A : Type 0} → (Data → A → Type 0) → Items → List A → Type 0
AreItems R no_items [] = Unit {0}
AreItems R no_items (x ∷ xs) = ⊥
AreItems R (item d ds) [] = ⊥
AreItems R (item d ds) (x ∷ xs) = R d x × AreItems R ds xs

-- a list of such values
pub record IsList {A : Type 0} (R : Data → A → Type 0) (d : Data) (xs : List A) : Type 0 where
  pub values : Items
  pub is_array : as_array d ≡ Some values
  pub items : AreItems R values xs

-- ---- numbers and texts

-- a whole number
abbrev pub IsWhole : Data → ℤ → Type 0
IsWhole d z = whole_of d ≡ Some z

-- a whole number within the bounds
pub record IsWithin (least greatest : ℤ) (d : Data) (z : ℤ) : Type 0 where
  pub number : whole_of d ≡ Some z
  pub low : int_le least z ≡ true
  pub high : int_le z greatest ≡ true

-- this very text
abbrev pub IsText : Data → List ℕ → Type 0
IsText d text = as_str d ≡ Some text

-- a name
pub record StatesName (d : Data) (name : List ℕ) : Type 0 where
  pub text : as_str d ≡ Some name
  pub valid : is_name name ≡ true

-- the name of a kernel, which may also be `min` or `max`
pub record StatesKernel (d : Data) (name : List ℕ) : Type 0 where
  pub text : as_str d ≡ Some name
  pub valid : is_kernel_name name ≡ true

-- a text that parsing answers with the expression
pub record StatesExpression (d : Data) (expr : NamedTree) : Type 0 where
  pub text : List ℕ
  pub is_text : as_str d ≡ Some text
  pub answer : Answers text (Ok expr)

-- ---- ends

-- a name, or two names joined by `.`
abbrev pub end_text : FileEnd → List ℕ
end_text (Interface name) = name
end_text (Port actor port) = port_text actor port

abbrev pub HasNames : FileEnd → Type 0
HasNames (Interface name) = is_name name ≡ true
HasNames (Port actor port) = (is_name actor ≡ true) × (is_name port ≡ true)

pub record StatesEnd (d : Data) (end : FileEnd) : Type 0 where
  pub text : as_str d ≡ Some (end_text end)
  pub valid : HasNames end
