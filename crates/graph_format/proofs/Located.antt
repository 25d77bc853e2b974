-- The walk over a file names the first value of the walk that has not its form.
use Rattle.std.proofs.Common.{◌≡◌, ℕ, zero, suc, ◌+◌, ◌<◌, ◌&&◌, ℤ, pos, List, [], ◌∷◌, ◌++◌, length, map, get_or, Bool, true, false, cond, Option, Some, None, Result, Ok, Err, refl, sym, ap, ◌∙◌, subst, arith}
use Rattle.std.specs.Prelude.{codes, is_some, option_and_then, unwrap_or}
use Rattle.std.specs.List.{filter, flat_map, list_all}
use Rattle.std.specs.Fmt.{decimal}
use Rattle.std.proofs.lemmas.Grind.{flat_map-append}
use Rattle.std.proofs.lemmas.List.{append-nil, map-append}
use Rattle.std.proofs.lemmas.List.Elements.{filter-append}
use Rattle.serde_json.specs.Data.{Data, Items, no_items, item}
use Rattle.serde_json.specs.Find.{get, as_str, as_array, as_object}
use Rattle.pisdf_model.specs.Details.{first}
use Rattle.graph_format.specs.Objects.{greatest_bound, within, bound_at, ranged_at, derived_members_at, given_kind, given_kind_at, given_members_at, derived_keys, given_keys, optional_param_keys, param_at, port_members_at, port_keys, port_at, input_members_at, input_at, kernel_members_at, kernel_keys, config_ports_at, config_members_at, config_keys, child_members_at, child_keys, config_child_members_at, config_child_keys, has_exports, actor_at, zeros_from, tokens_or_zeros_at, delay_at, life_from, life_at, fifo_members_at, fifo_keys, optional_fifo_keys, fifo_at, exports_at, graph_parts_at, graph_members_at, graph_keys, graph_at, version_from, version_at, file_members_at, file_keys, file_at}
use Rattle.graph_format.specs.WalkedValues.{Form, a_list, a_file, a_version, a_graph, a_param, a_kind, a_bound, a_port, an_input, an_actor, a_fifo, a_delay, a_token, a_life, a_name, a_kernel, an_expression, an_end, Part, part_there, the_member, items_from, the_items, low_there, is_derived, ActorKind, kernel_kind, config_kind, child_kind, config_child_kind, no_kind, kind_of_actor, is_actor, actor_parts, export_parts, parts, is_delay, has_own_form, WalkedValue, walked_values_to, walked_values, unformed}
use Rattle.graph_format.specs.Pointer.{pointer_text, under}
use Rattle.graph_format.specs.Texts.{name_from, name_at, kernel_from, kernel_at, expression_from, expression_at, end_from, end_at}
use Rattle.graph_format.specs.Walk.{◌>>=◌, shaped, has_form, members_known, formed, member_at, if_there, member_or, says, items_at, list_at, whole_of, whole_at}
use Rattle.graph_format.proofs.StatedActors.{of_kind}
use Rattle.graph_format.proofs.Walked.{and_both, shaped_ok}
use Rattle.pisdf_model.specs.declared.fifo.Life.TheVariants.{Firing}
use Rattle.graph_format.specs.declared.actor.FileActor.{FileActor}
use Rattle.graph_format.specs.declared.fifo.FileDelay.TheVariants.{Zeros, Tokens}
use Rattle.graph_format.specs.declared.param.FileParamKind.{FileParamKind}
use Rattle.graph_format.specs.declared.param.FileParamKind.TheVariants.{Derived}
use Rattle.graph_format.specs.declared.file.File.{File}

-- ---- faults of walks

unfoldable pub fault_of : {A : Type 0} → Result A (List ℕ) → Option (List ℕ)
fault_of (Ok x) = None
fault_of (Err at) = Some at

first_un : List WalkedValue → Option (List ℕ)
first_un walked_values = first (unformed walked_values)

-- the walk fails at the first of these places that has not its form
record Finds {A : Type 0} (walked : Result A (List ℕ)) (over : List WalkedValue) : Type 0 where
  pub at : fault_of walked ≡ first_un over

unformed_append : (ps qs : List WalkedValue) → unformed (ps ++ qs) ≡ unformed ps ++ unformed qs
unformed_append ps qs = ap (map (λ (p : WalkedValue). p.pointer)) (filter-append _ ps qs) ∙ map-append (λ (p : WalkedValue). p.pointer) (filter _ ps) (filter _ qs)

first_after : (xs ys : List (List ℕ)) → None ≡ first xs → first (xs ++ ys) ≡ first ys
first_after [] ys none = refl
first_after (x ∷ xs) ys none = absurd cc

first_here : (xs ys : List (List ℕ)) (x : List ℕ) → Some x ≡ first xs → Some x ≡ first (xs ++ ys)
first_here [] ys x some = absurd cc
first_here (y ∷ xs) ys x some = some

-- one walk after another
and_then : {A B : Type 0} (m : Result A (List ℕ)) (f : A → Result B (List ℕ)) (ps qs : List WalkedValue) → Finds m ps → ((x : A) → m ≡ Ok x → Finds (f x) qs) → Finds (m >>= f) (ps ++ qs)
unfolding fault_of first_un
and_then (Ok x) f ps qs here after = record { at = (after x refl).at ∙ sym (ap first (unformed_append ps qs) ∙ first_after (unformed ps) (unformed qs) here.at) }
and_then (Err p) f ps qs here after = record { at = first_here (unformed ps) (unformed qs) p here.at ∙ sym (ap first (unformed_append ps qs)) }

-- and what is made of it can't fail
made : {A B : Type 0} (m : Result A (List ℕ)) (f : A → B) (ps : List WalkedValue) → Finds m ps → Finds (m >>= λ x. Ok (f x)) ps
unfolding fault_of first_un
made (Ok x) f ps here = record { at = here.at }
made (Err p) f ps here = record { at = here.at }

nothing : {A : Type 0} (x : A) → Finds (Ok x) []
unfolding fault_of first_un
nothing x = record { at = refl }

same_places : {A : Type 0} (m : Result A (List ℕ)) (ps qs : List WalkedValue) → ps ≡ qs → Finds m ps → Finds m qs
same_places m ps qs same here = subst (Finds m) same here

-- a value without parts
alone : {A : Type 0} (at : List ℕ) (o : Option A) → Finds (shaped at o) (record { pointer = pointer_text at; formed = is_some o } ∷ cond (is_some o) [] [])
unfolding fault_of first_un
alone at None = record { at = refl }
alone at (Some x) = record { at = refl }

-- a value with its form, and then its parts
whole : {A : Type 0} (at : List ℕ) (own : Bool) (walked : Result A (List ℕ)) (below : List WalkedValue) → (own ≡ true → Finds walked below) → Finds (cond own walked (Err (pointer_text at))) (record { pointer = pointer_text at; formed = own } ∷ cond own below [])
unfolding fault_of first_un
whole at true walked below h = record { at = (h refl).at }
whole at false walked below h = record { at = refl }

-- ---- members

-- each member that a form requires is there
there_from : (required : List (List ℕ)) (d : Data) → list_all (λ name. is_some (get name d)) required ≡ true → (i : ℕ) → i < length required → is_some (get (get_or required i []) d) ≡ true
there_from [] d all i inside = absurd (omega arith)
there_from (name ∷ required) d all zero inside = (and_both (is_some (get name d)) (list_all (λ name. is_some (get name d)) required) all).0
there_from (name ∷ required) d all (suc i) inside = there_from required d (and_both (is_some (get name d)) (list_all (λ name. is_some (get name d)) required) all).1 i (omega arith)

there : (required optional : List (List ℕ)) (d : Data) → has_form required optional d ≡ true → (i : ℕ) → i < length required → is_some (get (get_or required i []) d) ≡ true
unfolding has_form
there required optional d h = there_from required d (and_both (members_known required optional (as_object d)) (list_all (λ name. is_some (get name d)) required) h).1

module _ (version n : ℕ) where
  -- the places of some parts
  below : List ℕ → List Part → List WalkedValue
  below at ps = flat_map (λ (p : Part). walked_values_to version n p.form (under at p.step) p.value) ps

  below_append : (at : List ℕ) (ps qs : List Part) → below at (ps ++ qs) ≡ below at ps ++ below at qs
  unfolding below
  below_append at ps qs = flat_map-append _ ps qs

  -- this walk reads values of this form
  record Locates {A : Type 0} (read : List ℕ → Data → Result A (List ℕ)) (form : Form) : Type 0 where
    pub finds : (at : List ℕ) (d : Data) → Finds (read at d) (walked_values_to version n form at d)

  one_part : (at : List ℕ) (p : Part) → walked_values_to version n p.form (under at p.step) p.value ≡ below at (p ∷ [])
  unfolding below
  one_part at p = sym (append-nil _)

  member_finds : {A : Type 0} (read : List ℕ → Data → Result A (List ℕ)) (form : Form) → Locates read form → (at name : List ℕ) (o : Option Data) → is_some o ≡ true → Finds (shaped at o >>= read (under at name)) (below at (part_there name form o))
  member_finds read form h at name None is = absurd cc
  member_finds read form h at name (Some v) is = same_places _ _ _ (one_part at (record { step = name; value = v; form = form })) (h.finds (under at name) v)

  or_finds : {A : Type 0} (read : List ℕ → Data → Result A (List ℕ)) (form : Form) → Locates read form → (default : A) (at name : List ℕ) (o : Option Data) → Finds (if_there default (read (under at name)) o) (below at (part_there name form o))
  unfolding below
  or_finds read form h default at name None = nothing default
  or_finds read form h default at name (Some v) = same_places _ _ _ (one_part at (record { step = name; value = v; form = form })) (h.finds (under at name) v)

  -- a member, and then the others
  then_parts : {A B : Type 0} (m : Result A (List ℕ)) (f : A → Result B (List ℕ)) (at : List ℕ) (ps qs : List Part) → Finds m (below at ps) → ((x : A) → m ≡ Ok x → Finds (f x) (below at qs)) → Finds (m >>= f) (below at (ps ++ qs))
  then_parts m f at ps qs here after = same_places _ _ _ (sym (below_append at ps qs)) (and_then m f (below at ps) (below at qs) here after)

  -- ---- lists

  items_find : {A : Type 0} (read : List ℕ → Data → Result A (List ℕ)) (form : Form) → Locates read form → (at : List ℕ) (i : ℕ) (ds : Items) → Finds (items_at read at i ds) (below at (items_from form i ds))
  unfolding items_at below
  items_find read form h at i no_items = nothing []
  items_find read form h at i (item d ds) =
      and_then (read (under at (decimal i)) d) (λ x. items_at read at (i + 1) ds >>= λ xs. Ok (x ∷ xs)) (walked_values_to version n form (under at (decimal i)) d) (below at (items_from form (i + 1) ds))
      (h.finds (under at (decimal i)) d)
      (λ x is. made (items_at read at (i + 1) ds) (λ xs. x ∷ xs) (below at (items_from form (i + 1) ds)) (items_find read form h at (i + 1) ds))

-- ---- values without parts

leaf_places : (version n : ℕ) (form : Form) (at : List ℕ) (d : Data) → parts version form d ≡ []
    → walked_values_to version (suc n) form at d ≡ record { pointer = pointer_text at; formed = has_own_form version form d } ∷ cond (has_own_form version form d) [] []
unfolding walked_values_to
leaf_places version n form at d none =
    ap (λ (ps : List Part). record { pointer = pointer_text at; formed = has_own_form version form d } ∷ cond (has_own_form version form d) (flat_map (λ (p : Part). walked_values_to version n p.form (under at p.step) p.value) ps) []) none

leaf : {A : Type 0} (version n : ℕ) (form : Form) (read : List ℕ → Data → Result A (List ℕ)) (value : Data → Option A) → ((at : List ℕ) (d : Data) → read at d ≡ shaped at (value d)) → ((d : Data) → has_own_form version form d ≡ is_some (value d)) → ((d : Data) → parts version form d ≡ []) → Locates version (suc n) read form
leaf version n form read value reads own none = record {
  finds = λ at d.
      (let same : record { pointer = pointer_text at; formed = is_some (value d) } ∷ cond (is_some (value d)) [] [] ≡ walked_values_to version (suc n) form at d = sym (leaf_places version n form at d (none d) ∙ ap (λ b. record { pointer = pointer_text at; formed = b } ∷ cond b [] []) (own d)) in
      subst (λ r. Finds r (walked_values_to version (suc n) form at d)) (sym (reads at d)) (same_places _ _ _ same (alone at (value d))));
}

module _ (version n : ℕ) where
  version_located : Locates version (suc n) (version_at version) a_version
  version_located = leaf version n a_version (version_at version) (λ d. option_and_then (version_from version) (whole_of d)) (λ at d. refl) (λ d. refl) (λ d. refl)

  name_located : Locates version (suc n) name_at a_name
  name_located = leaf version n a_name name_at (λ d. option_and_then name_from (as_str d)) (λ at d. refl) (λ d. refl) (λ d. refl)

  kernel_located : Locates version (suc n) kernel_at a_kernel
  kernel_located = leaf version n a_kernel kernel_at (λ d. option_and_then kernel_from (as_str d)) (λ at d. refl) (λ d. refl) (λ d. refl)

  expression_located : Locates version (suc n) expression_at an_expression
  expression_located = leaf version n an_expression expression_at (λ d. option_and_then expression_from (as_str d)) (λ at d. refl) (λ d. refl) (λ d. refl)

  end_located : Locates version (suc n) end_at an_end
  end_located = leaf version n an_end end_at (λ d. option_and_then end_from (as_str d)) (λ at d. refl) (λ d. refl) (λ d. refl)

  token_located : Locates version (suc n) whole_at a_token
  token_located = leaf version n a_token whole_at whole_of (λ at d. refl) (λ d. refl) (λ d. refl)

  life_located : Locates version (suc n) life_at a_life
  life_located = leaf version n a_life life_at (λ d. option_and_then life_from (as_str d)) (λ at d. refl) (λ d. refl) (λ d. refl)

  kind_located : Locates version (suc n) given_kind_at a_kind
  kind_located = leaf version n a_kind given_kind_at (λ d. option_and_then given_kind (as_str d)) (λ at d. refl) (λ d. refl) (λ d. refl)

  bound_located : (least : ℤ) → Locates version (suc n) (bound_at least) (a_bound least)
  bound_located least = leaf version n (a_bound least) (bound_at least) (λ d. option_and_then (within least) (whole_of d)) (λ at d. refl) (λ d. refl) (λ d. refl)

-- ---- lists and objects

-- a value, and then its parts
opened : (version n : ℕ) (form : Form) (at : List ℕ) (d : Data) → walked_values_to version (suc n) form at d ≡ record { pointer = pointer_text at; formed = has_own_form version form d } ∷ cond (has_own_form version form d) (below version n at (parts version form d)) []
unfolding walked_values_to below
opened version n form at d = refl

module _ (version n : ℕ) where
  values_find : {A : Type 0} (read : List ℕ → Data → Result A (List ℕ)) (form : Form) → Locates version n read form → (at : List ℕ) (o : Option Items)
      → Finds (shaped at o >>= items_at read at 0) (record { pointer = pointer_text at; formed = is_some o } ∷ cond (is_some o) (below version n at (the_items form o)) [])
  unfolding fault_of first_un
  values_find read form h at None = record { at = refl }
  values_find read form h at (Some values) = record { at = (items_find version n read form h at 0 values).at }

  list_located : {A : Type 0} (read : List ℕ → Data → Result A (List ℕ)) (form : Form) → Locates version n read form → Locates version (suc n) (list_at read) (a_list form)
  list_located read form h = record { finds = λ at d. same_places _ _ _ (sym (opened version n (a_list form) at d)) (values_find read form h at (as_array d)) }

  object_located : {A : Type 0} (read members : List ℕ → Data → Result A (List ℕ)) (form : Form) → ((at : List ℕ) (d : Data) → read at d ≡ cond (has_own_form version form d) (members at d) (Err (pointer_text at)))
      → ((at : List ℕ) (d : Data) → has_own_form version form d ≡ true → Finds (members at d) (below version n at (parts version form d))) → Locates version (suc n) read form
  object_located read members form reads h = record {
    finds = λ at d.
        (let here = whole at (has_own_form version form d) (members at d) (below version n at (parts version form d)) (h at d) in
        subst (λ r. Finds r (walked_values_to version (suc n) form at d)) (sym (reads at d)) (same_places _ _ _ (sym (opened version n form at d)) here));
  }

-- a member that is required
required : {A : Type 0} (version n : ℕ) (read : List ℕ → Data → Result A (List ℕ)) (form : Form) → Locates version n read form → (at name : List ℕ) (d : Data) → is_some (get name d) ≡ true → Finds (member_at read at name d) (below version n at (the_member name form d))
required version n read form h at name d is = member_finds version n read form h at name (get name d) is

-- and one that may be left out
optional : {A : Type 0} (version n : ℕ) (read : List ℕ → Data → Result A (List ℕ)) (form : Form) → Locates version n read form → (default : A) (at name : List ℕ) (d : Data) → Finds (member_or default read at name d) (below version n at (the_member name form d))
optional version n read form h default at name d = or_finds version n read form h default at name (get name d)

-- ---- ports

module _ (version n : ℕ) where
  port_opens : (at : List ℕ) (d : Data) → port_at at d ≡ cond (has_form port_keys [] d) (port_members_at at d) (Err (pointer_text at))
  unfolding port_at
  port_opens at d = refl

  port_finds : (at : List ℕ) (d : Data) → has_form port_keys [] d ≡ true → Finds (port_members_at at d) (below version (suc n) at (parts version a_port d))
  unfolding port_members_at
  port_finds at d has =
      then_parts version (suc n) (member_at name_at at (codes "name") d) _ at (the_member (codes "name") a_name d) (the_member (codes "rate") an_expression d)
      (required version (suc n) name_at a_name (name_located version n) at (codes "name") d (there port_keys [] d has 0 (omega arith)))
      (λ name is. made (member_at expression_at at (codes "rate") d) _ (below version (suc n) at (the_member (codes "rate") an_expression d))
      (required version (suc n) expression_at an_expression (expression_located version n) at (codes "rate") d (there port_keys [] d has 1 (omega arith))))

  port_located : Locates version (suc (suc n)) port_at a_port
  port_located = object_located version (suc n) port_at port_members_at a_port port_opens port_finds

  input_opens : (at : List ℕ) (d : Data) → input_at at d ≡ cond (has_form (codes "name" ∷ []) [] d) (input_members_at at d) (Err (pointer_text at))
  unfolding input_at
  input_opens at d = refl

  input_located : Locates version (suc (suc n)) input_at an_input
  input_located = object_located version (suc n) input_at input_members_at an_input input_opens (λ at d has. required version (suc n) name_at a_name (name_located version n) at (codes "name") d (there (codes "name" ∷ []) [] d has 0 (omega arith)))

-- ---- parameters

low_is : (at : List ℕ) (o : Option Data) (low : ℤ) → if_there (pos 0) (bound_at (pos 0) at) o ≡ Ok low → low ≡ low_there o
low_is at None low is = cc
low_is at (Some v) low is = sym (ap (λ o. unwrap_or o (pos 0)) (shaped_ok at (option_and_then (within (pos 0)) (whole_of v)) low is))

module _ (version n : ℕ) where
  ends_find : (name : List ℕ) (kind : FileParamKind) (at : List ℕ) (d : Data) → Finds (ranged_at name kind at d) (below version (suc n) at (the_member (codes "low") (a_bound (pos 0)) d ++ the_member (codes "high") (a_bound (low_there (get (codes "low") d))) d))
  unfolding ranged_at
  ends_find name kind at d =
      then_parts version (suc n) (member_or (pos 0) (bound_at (pos 0)) at (codes "low") d) _ at (the_member (codes "low") (a_bound (pos 0)) d) (the_member (codes "high") (a_bound (low_there (get (codes "low") d))) d)
      (optional version (suc n) (bound_at (pos 0)) (a_bound (pos 0)) (bound_located version n (pos 0)) (pos 0) at (codes "low") d)
      (λ low is. made (member_or greatest_bound (bound_at low) at (codes "high") d) _ (below version (suc n) at (the_member (codes "high") (a_bound (low_there (get (codes "low") d))) d))
      (subst (λ least. Finds (member_or greatest_bound (bound_at low) at (codes "high") d) (below version (suc n) at (the_member (codes "high") (a_bound least) d))) (low_is (under at (codes "low")) (get (codes "low") d) low is)
      (optional version (suc n) (bound_at low) (a_bound low) (bound_located version n low) greatest_bound at (codes "high") d)))

  abbrev bounds : Data → List Part
  bounds d = the_member (codes "low") (a_bound (pos 0)) d ++ the_member (codes "high") (a_bound (low_there (get (codes "low") d))) d

  derived_finds : (at : List ℕ) (d : Data) → has_form derived_keys optional_param_keys d ≡ true → Finds (derived_members_at at d) (below version (suc n) at (the_member (codes "name") a_name d ++ (the_member (codes "expr") an_expression d ++ bounds d)))
  unfolding derived_members_at
  derived_finds at d has =
      then_parts version (suc n) (member_at name_at at (codes "name") d) _ at (the_member (codes "name") a_name d) (the_member (codes "expr") an_expression d ++ bounds d)
      (required version (suc n) name_at a_name (name_located version n) at (codes "name") d (there derived_keys optional_param_keys d has 0 (omega arith)))
      (λ name is. then_parts version (suc n) (member_at expression_at at (codes "expr") d) _ at (the_member (codes "expr") an_expression d) (bounds d)
      (required version (suc n) expression_at an_expression (expression_located version n) at (codes "expr") d (there derived_keys optional_param_keys d has 2 (omega arith)))
      (λ expr is. ends_find name (Derived expr) at d))

  given_finds : (at : List ℕ) (d : Data) → has_form given_keys optional_param_keys d ≡ true → Finds (given_members_at at d) (below version (suc n) at (the_member (codes "name") a_name d ++ (the_member (codes "kind") a_kind d ++ bounds d)))
  unfolding given_members_at
  given_finds at d has =
      then_parts version (suc n) (member_at name_at at (codes "name") d) _ at (the_member (codes "name") a_name d) (the_member (codes "kind") a_kind d ++ bounds d)
      (required version (suc n) name_at a_name (name_located version n) at (codes "name") d (there given_keys optional_param_keys d has 0 (omega arith)))
      (λ name is. then_parts version (suc n) (member_at given_kind_at at (codes "kind") d) _ at (the_member (codes "kind") a_kind d) (bounds d)
      (required version (suc n) given_kind_at a_kind (kind_located version n) at (codes "kind") d (there given_keys optional_param_keys d has 1 (omega arith)))
      (λ kind is. ends_find name kind at d))

  param_opens_by : (derived : Bool) (at : List ℕ) (d : Data) → cond derived (formed derived_keys optional_param_keys derived_members_at at d) (formed given_keys optional_param_keys given_members_at at d)
      ≡ cond (has_form (cond derived derived_keys given_keys) optional_param_keys d) (cond derived (derived_members_at at d) (given_members_at at d)) (Err (pointer_text at))
  param_opens_by true at d = refl
  param_opens_by false at d = refl

  param_opens : (at : List ℕ) (d : Data) → param_at at d ≡ cond (has_form (cond (is_derived d) derived_keys given_keys) optional_param_keys d) (cond (is_derived d) (derived_members_at at d) (given_members_at at d)) (Err (pointer_text at))
  unfolding param_at
  param_opens at d = param_opens_by (is_derived d) at d

  param_finds_by : (derived : Bool) (at : List ℕ) (d : Data) → has_form (cond derived derived_keys given_keys) optional_param_keys d ≡ true
      → Finds (cond derived (derived_members_at at d) (given_members_at at d)) (below version (suc n) at (the_member (codes "name") a_name d ++ (cond derived (the_member (codes "expr") an_expression d) (the_member (codes "kind") a_kind d) ++ bounds d)))
  param_finds_by true at d has = derived_finds at d has
  param_finds_by false at d has = given_finds at d has

  param_located : Locates version (suc (suc n)) param_at a_param
  param_located = object_located version (suc n) param_at (λ at d. cond (is_derived d) (derived_members_at at d) (given_members_at at d)) a_param param_opens (λ at d has. param_finds_by (is_derived d) at d has)

-- ---- actors

abbrev actor_members : ActorKind → List ℕ → Data → Result FileActor (List ℕ)
actor_members kernel_kind at d = kernel_members_at at d
actor_members config_kind at d = config_members_at at d
actor_members child_kind at d = child_members_at at d
actor_members config_child_kind at d = config_child_members_at at d
actor_members no_kind at d = Err (pointer_text at)

abbrev kind_by : Bool → Bool → Bool → Bool → ActorKind
kind_by kernel config child config_child = cond kernel kernel_kind (cond config config_kind (cond child child_kind (cond config_child config_child_kind no_kind)))

actor_opens_by : (kernel config child config_child : Bool) (at : List ℕ) (d : Data) → of_kind kernel config child config_child at d ≡ cond (is_actor (kind_by kernel config child config_child) d) (actor_members (kind_by kernel config child config_child) at d) (Err (pointer_text at))
actor_opens_by true config child config_child at d = refl
actor_opens_by false true child config_child at d = refl
actor_opens_by false false true config_child at d = refl
actor_opens_by false false false true at d = refl
actor_opens_by false false false false at d = refl

actor_opens : (version : ℕ) (at : List ℕ) (d : Data) → actor_at version at d ≡ cond (is_actor (kind_of_actor version d) d) (actor_members (kind_of_actor version d) at d) (Err (pointer_text at))
unfolding actor_at
actor_opens version at d = actor_opens_by (says (codes "kind") (codes "kernel") d) (says (codes "kind") (codes "config") d) (says (codes "kind") (codes "graph") d) (has_exports version && says (codes "kind") (codes "setgraph") d) at d

module _ (version n : ℕ) where
  -- three levels stand below an actor: lists, their items, and what stands in these
  abbrev low : ℕ
  low = suc (suc (suc n))

  exprs_located : Locates version low (list_at expression_at) (a_list an_expression)
  exprs_located = list_located version (suc (suc n)) expression_at an_expression (expression_located version (suc n))

  names_located : Locates version low (list_at name_at) (a_list a_name)
  names_located = list_located version (suc (suc n)) name_at a_name (name_located version (suc n))

  ports_located : Locates version low (list_at port_at) (a_list a_port)
  ports_located = list_located version (suc (suc n)) port_at a_port (port_located version n)

  inputs_located : Locates version low (list_at input_at) (a_list an_input)
  inputs_located = list_located version (suc (suc n)) input_at an_input (input_located version n)

  abbrev name_part : Data → List Part
  name_part d = the_member (codes "name") a_name d

  abbrev args_part : Data → List Part
  args_part d = the_member (codes "args") (a_list an_expression) d

  abbrev outs_part : Data → List Part
  outs_part d = the_member (codes "outs") (a_list a_port) d

  abbrev sets_part : Data → List Part
  sets_part d = the_member (codes "sets") (a_list a_name) d

  kernel_finds : (at : List ℕ) (d : Data) → has_form kernel_keys [] d ≡ true → Finds (kernel_members_at at d) (below version low at (actor_parts kernel_kind d))
  unfolding kernel_members_at
  kernel_finds at d has =
      let is : (i : ℕ) → i < length kernel_keys → is_some (get (get_or kernel_keys i []) d) ≡ true = there kernel_keys [] d has in
      let kernel = the_member (codes "kernel") a_kernel d in
      let ins = the_member (codes "ins") (a_list a_port) d in
      then_parts version low (member_at name_at at (codes "name") d) _ at (name_part d) (kernel ++ (args_part d ++ (ins ++ outs_part d))) (required version low name_at a_name (name_located version (suc (suc n))) at (codes "name") d (is 0 (omega arith)))
      (λ x is_x. then_parts version low (member_at kernel_at at (codes "kernel") d) _ at kernel (args_part d ++ (ins ++ outs_part d)) (required version low kernel_at a_kernel (kernel_located version (suc (suc n))) at (codes "kernel") d (is 2 (omega arith)))
      (λ y is_y. then_parts version low (member_at (list_at expression_at) at (codes "args") d) _ at (args_part d) (ins ++ outs_part d) (required version low (list_at expression_at) (a_list an_expression) exprs_located at (codes "args") d (is 3 (omega arith)))
      (λ z is_z. then_parts version low (member_at (list_at port_at) at (codes "ins") d) _ at ins (outs_part d) (required version low (list_at port_at) (a_list a_port) ports_located at (codes "ins") d (is 4 (omega arith)))
      (λ w is_w. made (member_at (list_at port_at) at (codes "outs") d) _ (below version low at (outs_part d)) (required version low (list_at port_at) (a_list a_port) ports_located at (codes "outs") d (is 5 (omega arith)))))))

  config_finds : (at : List ℕ) (d : Data) → has_form config_keys [] d ≡ true → Finds (config_members_at at d) (below version low at (actor_parts config_kind d))
  unfolding config_members_at config_ports_at
  config_finds at d has =
      let is : (i : ℕ) → i < length config_keys → is_some (get (get_or config_keys i []) d) ≡ true = there config_keys [] d has in
      let kernel = the_member (codes "kernel") a_kernel d in
      let ins = the_member (codes "ins") (a_list an_input) d in
      then_parts version low (member_at name_at at (codes "name") d) _ at (name_part d) (kernel ++ (args_part d ++ (ins ++ (outs_part d ++ sets_part d)))) (required version low name_at a_name (name_located version (suc (suc n))) at (codes "name") d (is 0 (omega arith)))
      (λ x is_x. then_parts version low (member_at kernel_at at (codes "kernel") d) _ at kernel (args_part d ++ (ins ++ (outs_part d ++ sets_part d))) (required version low kernel_at a_kernel (kernel_located version (suc (suc n))) at (codes "kernel") d (is 2 (omega arith)))
      (λ y is_y. then_parts version low (member_at (list_at expression_at) at (codes "args") d) _ at (args_part d) (ins ++ (outs_part d ++ sets_part d)) (required version low (list_at expression_at) (a_list an_expression) exprs_located at (codes "args") d (is 3 (omega arith)))
      (λ z is_z. then_parts version low (member_at (list_at input_at) at (codes "ins") d) _ at ins (outs_part d ++ sets_part d) (required version low (list_at input_at) (a_list an_input) inputs_located at (codes "ins") d (is 4 (omega arith)))
      (λ w is_w. then_parts version low (member_at (list_at port_at) at (codes "outs") d) _ at (outs_part d) (sets_part d) (required version low (list_at port_at) (a_list a_port) ports_located at (codes "outs") d (is 5 (omega arith)))
      (λ v is_v. made (member_at (list_at name_at) at (codes "sets") d) _ (below version low at (sets_part d)) (required version low (list_at name_at) (a_list a_name) names_located at (codes "sets") d (is 6 (omega arith))))))))

  child_finds : (at : List ℕ) (d : Data) → has_form child_keys [] d ≡ true → Finds (child_members_at at d) (below version low at (actor_parts child_kind d))
  unfolding child_members_at
  child_finds at d has =
      let is : (i : ℕ) → i < length child_keys → is_some (get (get_or child_keys i []) d) ≡ true = there child_keys [] d has in
      let graph = the_member (codes "graph") a_name d in
      then_parts version low (member_at name_at at (codes "name") d) _ at (name_part d) (graph ++ args_part d) (required version low name_at a_name (name_located version (suc (suc n))) at (codes "name") d (is 0 (omega arith)))
      (λ x is_x. then_parts version low (member_at name_at at (codes "graph") d) _ at graph (args_part d) (required version low name_at a_name (name_located version (suc (suc n))) at (codes "graph") d (is 2 (omega arith)))
      (λ y is_y. made (member_at (list_at expression_at) at (codes "args") d) _ (below version low at (args_part d)) (required version low (list_at expression_at) (a_list an_expression) exprs_located at (codes "args") d (is 3 (omega arith)))))

  config_child_finds : (at : List ℕ) (d : Data) → has_form config_child_keys [] d ≡ true → Finds (config_child_members_at at d) (below version low at (actor_parts config_child_kind d))
  unfolding config_child_members_at
  config_child_finds at d has =
      let is : (i : ℕ) → i < length config_child_keys → is_some (get (get_or config_child_keys i []) d) ≡ true = there config_child_keys [] d has in
      let graph = the_member (codes "graph") a_name d in
      then_parts version low (member_at name_at at (codes "name") d) _ at (name_part d) (graph ++ (args_part d ++ sets_part d)) (required version low name_at a_name (name_located version (suc (suc n))) at (codes "name") d (is 0 (omega arith)))
      (λ x is_x. then_parts version low (member_at name_at at (codes "graph") d) _ at graph (args_part d ++ sets_part d) (required version low name_at a_name (name_located version (suc (suc n))) at (codes "graph") d (is 2 (omega arith)))
      (λ y is_y. then_parts version low (member_at (list_at expression_at) at (codes "args") d) _ at (args_part d) (sets_part d) (required version low (list_at expression_at) (a_list an_expression) exprs_located at (codes "args") d (is 3 (omega arith)))
      (λ z is_z. made (member_at (list_at name_at) at (codes "sets") d) _ (below version low at (sets_part d)) (required version low (list_at name_at) (a_list a_name) names_located at (codes "sets") d (is 4 (omega arith))))))

  actor_finds : (kind : ActorKind) (at : List ℕ) (d : Data) → is_actor kind d ≡ true → Finds (actor_members kind at d) (below version low at (actor_parts kind d))
  actor_finds kernel_kind at d has = kernel_finds at d has
  actor_finds config_kind at d has = config_finds at d has
  actor_finds child_kind at d has = child_finds at d has
  actor_finds config_child_kind at d has = config_child_finds at d has
  actor_finds no_kind at d has = absurd cc

  actor_located : Locates version (suc low) (actor_at version) an_actor
  actor_located = object_located version low (actor_at version) (λ at d. actor_members (kind_of_actor version d) at d) an_actor (actor_opens version) (λ at d has. actor_finds (kind_of_actor version d) at d has)

-- ---- FIFOs

module _ (version n : ℕ) where
  delay_finds : (at : List ℕ) (d : Data) (o : Option Items) → Finds (tokens_or_zeros_at at d o) (record { pointer = pointer_text at; formed = is_delay o d } ∷ cond (is_delay o d) (below version (suc n) at (the_items a_token o)) [])
  unfolding fault_of first_un below
  delay_finds at d None = alone at (option_and_then zeros_from (whole_of d))
  delay_finds at d (Some values) = record { at = (made (items_at whole_at at 0 values) Tokens (below version (suc n) at (items_from a_token 0 values)) (items_find version (suc n) whole_at a_token (token_located version n) at 0 values)).at }

  delay_located : Locates version (suc (suc n)) delay_at a_delay
  unfolding delay_at
  delay_located = record { finds = λ at d. same_places _ _ _ (sym (opened version (suc n) a_delay at d)) (delay_finds at d (as_array d)) }

  fifo_opens : (at : List ℕ) (d : Data) → fifo_at version at d ≡ cond (has_form fifo_keys (optional_fifo_keys version) d) (fifo_members_at at d) (Err (pointer_text at))
  unfolding fifo_at
  fifo_opens at d = refl

  fifo_finds : (at : List ℕ) (d : Data) → has_form fifo_keys (optional_fifo_keys version) d ≡ true → Finds (fifo_members_at at d) (below version (suc (suc n)) at (parts version a_fifo d))
  unfolding fifo_members_at
  fifo_finds at d has =
      let is : (i : ℕ) → i < length fifo_keys → is_some (get (get_or fifo_keys i []) d) ≡ true = there fifo_keys (optional_fifo_keys version) d has in
      let to = the_member (codes "to") an_end d in
      let delay = the_member (codes "delay") a_delay d in
      let life = the_member (codes "life") a_life d in
      then_parts version (suc (suc n)) (member_at end_at at (codes "from") d) _ at (the_member (codes "from") an_end d) (to ++ (delay ++ life)) (required version (suc (suc n)) end_at an_end (end_located version (suc n)) at (codes "from") d (is 0 (omega arith)))
      (λ x is_x. then_parts version (suc (suc n)) (member_at end_at at (codes "to") d) _ at to (delay ++ life) (required version (suc (suc n)) end_at an_end (end_located version (suc n)) at (codes "to") d (is 1 (omega arith)))
      (λ y is_y. then_parts version (suc (suc n)) (member_or (Zeros 0) delay_at at (codes "delay") d) _ at delay life (optional version (suc (suc n)) delay_at a_delay delay_located (Zeros 0) at (codes "delay") d)
      (λ z is_z. made (member_or Firing life_at at (codes "life") d) _ (below version (suc (suc n)) at life) (optional version (suc (suc n)) life_at a_life (life_located version (suc n)) Firing at (codes "life") d))))

  fifo_located : Locates version (suc (suc (suc n))) (fifo_at version) a_fifo
  fifo_located = object_located version (suc (suc n)) (fifo_at version) fifo_members_at a_fifo fifo_opens fifo_finds

-- ---- graphs

abbrev names_by : Bool → List (List ℕ)
names_by exporting =
    cond exporting
    (codes "name" ∷ codes "params" ∷ codes "inputs" ∷ codes "outputs" ∷ codes "actors" ∷ codes "fifos" ∷ codes "exports" ∷ [])
    (codes "name" ∷ codes "params" ∷ codes "inputs" ∷ codes "outputs" ∷ codes "actors" ∷ codes "fifos" ∷ [])

record GraphHas (d : Data) : Type 0 where
  pub name : is_some (get (codes "name") d) ≡ true
  pub params : is_some (get (codes "params") d) ≡ true
  pub inputs : is_some (get (codes "inputs") d) ≡ true
  pub outputs : is_some (get (codes "outputs") d) ≡ true
  pub actors : is_some (get (codes "actors") d) ≡ true
  pub fifos : is_some (get (codes "fifos") d) ≡ true

graph_has : (exporting : Bool) (d : Data) → has_form (names_by exporting) [] d ≡ true → GraphHas d
graph_has true d has =
    let is : (i : ℕ) → i < 7 → is_some (get (get_or (names_by true) i []) d) ≡ true = there (names_by true) [] d has in
    record { name = is 0 (omega arith); params = is 1 (omega arith); inputs = is 2 (omega arith); outputs = is 3 (omega arith); actors = is 4 (omega arith); fifos = is 5 (omega arith) }
graph_has false d has =
    let is : (i : ℕ) → i < 6 → is_some (get (get_or (names_by false) i []) d) ≡ true = there (names_by false) [] d has in
    record { name = is 0 (omega arith); params = is 1 (omega arith); inputs = is 2 (omega arith); outputs = is 3 (omega arith); actors = is 4 (omega arith); fifos = is 5 (omega arith) }

module _ (version n : ℕ) where
  -- two levels more than below an actor
  abbrev high : ℕ
  high = suc (suc (suc (suc (suc n))))

  exports_find : (exporting : Bool) (at : List ℕ) (d : Data) → has_form (names_by exporting) [] d ≡ true → Finds (cond exporting (member_at (list_at name_at) at (codes "exports") d) (Ok [])) (below version high at (export_parts exporting d))
  unfolding below
  exports_find true at d has = required version high (list_at name_at) (a_list a_name) (names_located version (suc (suc n))) at (codes "exports") d (there (names_by true) [] d has 6 (omega arith))
  exports_find false at d has = nothing []

  graph_opens : (at : List ℕ) (d : Data) → graph_at version at d ≡ cond (has_form (graph_keys version) [] d) (graph_members_at version at d) (Err (pointer_text at))
  unfolding graph_at
  graph_opens at d = refl

  graph_finds : (at : List ℕ) (d : Data) → has_form (graph_keys version) [] d ≡ true → Finds (graph_members_at version at d) (below version high at (parts version a_graph d))
  unfolding graph_members_at graph_parts_at
  graph_finds at d has =
      let is : GraphHas d = graph_has (has_exports version) d has in
      let ports : Locates version high (list_at port_at) (a_list a_port) = ports_located version (suc (suc n)) in
      let params = the_member (codes "params") (a_list a_param) d in
      let inputs = the_member (codes "inputs") (a_list a_port) d in
      let outputs = the_member (codes "outputs") (a_list a_port) d in
      let actors = the_member (codes "actors") (a_list an_actor) d in
      let fifos = the_member (codes "fifos") (a_list a_fifo) d in
      let exports = export_parts (has_exports version) d in
      then_parts version high (member_at name_at at (codes "name") d) _ at (the_member (codes "name") a_name d) (params ++ (inputs ++ (outputs ++ (actors ++ (fifos ++ exports))))) (required version high name_at a_name (name_located version (suc (suc (suc (suc n))))) at (codes "name") d is.name)
      (λ x is_x. then_parts version high (member_at (list_at param_at) at (codes "params") d) _ at params (inputs ++ (outputs ++ (actors ++ (fifos ++ exports)))) (required version high (list_at param_at) (a_list a_param) (list_located version (suc (suc (suc (suc n)))) param_at a_param (param_located version (suc (suc n)))) at (codes "params") d is.params)
      (λ y is_y. then_parts version high (member_at (list_at port_at) at (codes "inputs") d) _ at inputs (outputs ++ (actors ++ (fifos ++ exports))) (required version high (list_at port_at) (a_list a_port) ports at (codes "inputs") d is.inputs)
      (λ z is_z. then_parts version high (member_at (list_at port_at) at (codes "outputs") d) _ at outputs (actors ++ (fifos ++ exports)) (required version high (list_at port_at) (a_list a_port) ports at (codes "outputs") d is.outputs)
      (λ w is_w. then_parts version high (member_at (list_at (actor_at version)) at (codes "actors") d) _ at actors (fifos ++ exports) (required version high (list_at (actor_at version)) (a_list an_actor) (list_located version (suc (suc (suc (suc n)))) (actor_at version) an_actor (actor_located version n)) at (codes "actors") d is.actors)
      (λ v is_v. then_parts version high (member_at (list_at (fifo_at version)) at (codes "fifos") d) _ at fifos exports (required version high (list_at (fifo_at version)) (a_list a_fifo) (list_located version (suc (suc (suc (suc n)))) (fifo_at version) a_fifo (fifo_located version (suc n))) at (codes "fifos") d is.fifos)
      (λ u is_u. made (exports_at version at d) _ (below version high at exports) (exports_find (has_exports version) at d has)))))))

  graph_located : Locates version (suc high) (graph_at version) a_graph
  graph_located = object_located version high (graph_at version) (graph_members_at version) a_graph graph_opens graph_finds

-- ---- files

module _ (version : ℕ) where
  file_opens : (at : List ℕ) (d : Data) → file_at version at d ≡ cond (has_form file_keys [] d) (file_members_at version at d) (Err (pointer_text at))
  unfolding file_at
  file_opens at d = refl

  file_finds : (at : List ℕ) (d : Data) → has_form file_keys [] d ≡ true → Finds (file_members_at version at d) (below version 7 at (parts version a_file d))
  unfolding file_members_at
  file_finds at d has =
      let is : (i : ℕ) → i < length file_keys → is_some (get (get_or file_keys i []) d) ≡ true = there file_keys [] d has in
      let top = the_member (codes "top") a_name d in
      let graphs = the_member (codes "graphs") (a_list a_graph) d in
      then_parts version 7 (member_at (version_at version) at (codes "pisdf") d) _ at (the_member (codes "pisdf") a_version d) (top ++ graphs) (required version 7 (version_at version) a_version (version_located version 6) at (codes "pisdf") d (is 0 (omega arith)))
      (λ x is_x. then_parts version 7 (member_at name_at at (codes "top") d) _ at top graphs (required version 7 name_at a_name (name_located version 6) at (codes "top") d (is 1 (omega arith)))
      (λ y is_y. made (member_at (list_at (graph_at version)) at (codes "graphs") d) _ (below version 7 at graphs) (required version 7 (list_at (graph_at version)) (a_list a_graph) (list_located version 6 (graph_at version) a_graph (graph_located version 0)) at (codes "graphs") d (is 2 (omega arith)))))

  file_located : Locates version 8 (file_at version) a_file
  file_located = object_located version 7 (file_at version) (file_members_at version) a_file file_opens file_finds

-- a value has the form of no file at this pointer exactly where that is the first one in the walk whose value has not its form
pub located : (version : ℕ) (d : Data) (file : Result File (List ℕ)) → file_at version [] d ≡ file → fault_of file ≡ first (unformed (walked_values version d))
unfolding first_un
located version d file is = let found = (file_located version).finds [] d in sym (ap fault_of is) ∙ found.at
