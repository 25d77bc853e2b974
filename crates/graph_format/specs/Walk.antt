-- A walk over a JSON value: what it states, or the pointer to the first value that has not its form. A walk goes behind the pointer to the value that it reads.
use Rattle.std.specs.Prelude.{ℕ, ◌+◌, ◌&&◌, ◌||◌, ℤ, List, [], ◌∷◌, Bool, true, false, if◌then◌else◌, Option, Some, None, option_and_then, is_some, Result, Ok, Err}
use Rattle.std.specs.List.{list_any, list_all}
use Rattle.std.specs.Str.{bytes_eq}
use Rattle.std.specs.Fmt.{decimal}
use Rattle.serde_json.specs.Data.{Data, Items, no_items, item, Members, no_members, member}
use Rattle.serde_json.specs.Find.{get, as_number, as_i64, as_str, as_array, as_object}
use Rattle.graph_format.specs.Pointer.{under, pointer_text}

infixl 10 ◌>>=◌
abbrev pub ◌>>=◌ : {A B : Type 0} → Result A (List ℕ) → (A → Result B (List ℕ)) → Result B (List ℕ)
(Ok x) >>= f = f x
(Err at) >>= f = Err at

-- the value, or the fault that the value at the pointer has not the form
abbrev pub shaped : {A : Type 0} → List ℕ → Option A → Result A (List ℕ)
shaped at (Some x) = Ok x
shaped at None = Err (pointer_text at)

-- ---- objects

abbrev pub is_among : List (List ℕ) → List ℕ → Bool
is_among names name = list_any (λ n. bytes_eq n name) names

-- each member's name is among these
abbrev pub all_known : List (List ℕ) → List (List ℕ) → Members → Bool
all_known names more no_members = true
all_known names more (member k d ms) = (is_among names k || is_among more k) && all_known names more ms

abbrev pub members_known : List (List ℕ) → List (List ℕ) → Option Members → Bool
members_known names more None = false
members_known names more (Some ms) = all_known names more ms

-- an object with each of the required members, perhaps some of the optional ones, and no others
unfoldable pub has_form : List (List ℕ) → List (List ℕ) → Data → Bool
has_form required optional d = members_known required optional (as_object d) && list_all (λ name. is_some (get name d)) required

-- the walk of the members, if the object has them
abbrev pub formed : {A : Type 0} → List (List ℕ) → List (List ℕ) → (List ℕ → Data → Result A (List ℕ)) → List ℕ → Data → Result A (List ℕ)
formed required optional read at d = if has_form required optional d then read at d else Err (pointer_text at)

-- the member of the name, which is there
abbrev pub member_at : {A : Type 0} → (List ℕ → Data → Result A (List ℕ)) → List ℕ → List ℕ → Data → Result A (List ℕ)
member_at read at name d = shaped at (get name d) >>= read (under at name)

abbrev pub if_there : {A : Type 0} → A → (Data → Result A (List ℕ)) → Option Data → Result A (List ℕ)
if_there default read None = Ok default
if_there default read (Some d) = read d

-- the member of the name, or what it stands for where it is left out
abbrev pub member_or : {A : Type 0} → A → (List ℕ → Data → Result A (List ℕ)) → List ℕ → List ℕ → Data → Result A (List ℕ)
member_or default read at name d = if_there default (read (under at name)) (get name d)

abbrev pub is_text : List ℕ → Option (List ℕ) → Bool
is_text text None = false
is_text text (Some other) = bytes_eq other text

-- the member of the name is this text
abbrev pub says : List ℕ → List ℕ → Data → Bool
says name text d = is_text text (option_and_then as_str (get name d))

-- ---- lists

-- what the values of a list state, of which the first is item i
unfoldable pub items_at : {A : Type 0} → (List ℕ → Data → Result A (List ℕ)) → List ℕ → ℕ → Items → Result (List A) (List ℕ)
items_at read at i no_items = Ok []
items_at read at i (item d ds) = do
  x ← read (under at (decimal i)) d
  xs ← items_at read at (i + 1) ds
  Ok (x ∷ xs)

abbrev pub list_at : {A : Type 0} → (List ℕ → Data → Result A (List ℕ)) → List ℕ → Data → Result (List A) (List ℕ)
list_at read at d = shaped at (as_array d) >>= items_at read at 0

-- ---- whole numbers

-- the whole number that a value is
abbrev pub whole_of : Data → Option ℤ
whole_of d = option_and_then as_i64 (as_number d)

abbrev pub whole_at : List ℕ → Data → Result ℤ (List ℕ)
whole_at at d = shaped at (whole_of d)
