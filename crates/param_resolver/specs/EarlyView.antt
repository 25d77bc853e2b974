-- What is known of a graph before its configuration actors fire, as plain data.
use Rattle.std.specs.Prelude.{◌≡◌, ℕ, suc, ◌+◌, ◌≤◌, max, ℤ, List, [], ◌∷◌, ◌++◌, Option, Some, None, refl, cond, ◌==◌}
use Rattle.std.specs.Coded.{Coded, code_by, coded×, coded_ℕ, coded_ℤ, coded_list, coded_option}
use Rattle.std.proofs.Common.{sym, ap, ◌∙◌, append_assoc, arith}
use Rattle.std.proofs.lemmas.List.{append-nil}
use denote.Param.Weighed.{most}

-- what is known of one graph alone: the values of its parameters, where they are known, the rates of its inputs and outputs, and for each of its configuration actors its arguments and its output rates
pub record Known : Type 0 where
  pub values : List (Option ℤ)
  pub inputs : List ℕ
  pub outputs : List ℕ
  pub args : List (List ℤ)
  pub outs : List (List ℕ)

-- the same for each graph of a list, where one is named, and of those that its configuration actors name
pub data Forest : Type 0 where
  end : Forest
  without : Forest → Forest
  with : Known → Forest → Forest → Forest

pub record EarlyView : Type 0 where
  pub values : List (Option ℤ)
  pub inputs : List ℕ
  pub outputs : List ℕ
  pub args : List (List ℤ)
  pub outs : List (List ℕ)
  pub children : Forest

abbrev pub known_of : EarlyView → Known
known_of e = record { values = e.values; inputs = e.inputs; outputs = e.outputs; args = e.args; outs = e.outs }

abbrev pub early_with : Known → Forest → EarlyView
early_with k children = record { values = k.values; inputs = k.inputs; outputs = k.outputs; args = k.args; outs = k.outs; children = children }

-- a list of those graphs, as one
abbrev pub forest_of : List (Option EarlyView) → Forest
forest_of [] = end
forest_of (None ∷ rest) = without (forest_of rest)
forest_of (Some e ∷ rest) = with (known_of e) e.children (forest_of rest)

-- and one as a list
abbrev pub trees_of : Forest → List (Option EarlyView)
trees_of end = []
trees_of (without rest) = None ∷ trees_of rest
trees_of (with k below rest) = Some (early_with k below) ∷ trees_of rest

-- what is known of a graph, from its parts
abbrev pub whole : List (Option ℤ) → List ℕ → List ℕ → List (List ℤ) → List (List ℕ) → List (Option EarlyView) → EarlyView
whole values inputs outputs args outs children = record { values = values; inputs = inputs; outputs = outputs; args = args; outs = outs; children = forest_of children }

-- ---- a size, which is greater than those of the children

abbrev pub forest_size : Forest → ℕ
forest_size end = 0
forest_size (without rest) = forest_size rest
forest_size (with k below rest) = suc (forest_size below + forest_size rest)

abbrev pub early_size : EarlyView → ℕ
early_size e = forest_size e.children

-- ---- as a list of numbers, from which it is built again

abbrev KnownParts : Type 0
KnownParts = List (Option ℤ) × (List ℕ × (List ℕ × (List (List ℤ) × List (List ℕ))))

abbrev known_parts : Known → KnownParts
known_parts k = (k.values, (k.inputs, (k.outputs, (k.args, k.outs))))

abbrev known_from : KnownParts → Known
known_from p = record { values = p.0; inputs = p.1.0; outputs = p.1.1.0; args = p.1.1.1.0; outs = p.1.1.1.1 }

abbrev known_parts_code : Coded KnownParts
known_parts_code = coded× (coded_list (coded_option coded_ℤ)) (coded× (coded_list coded_ℕ) (coded× (coded_list coded_ℕ) (coded× (coded_list (coded_list coded_ℤ)) (coded_list (coded_list coded_ℕ)))))

abbrev Part : Type 0
Part = ℕ × KnownParts

abbrev no_known : KnownParts
no_known = ([], ([], ([], ([], []))))

-- a graph stands behind those below it and those after it
abbrev to_parts : Forest → List Part
to_parts end = (0, no_known) ∷ []
to_parts (without rest) = to_parts rest ++ (1, no_known) ∷ []
to_parts (with k below rest) = to_parts below ++ (to_parts rest ++ (2, known_parts k) ∷ [])

abbrev skip : List Forest → List Forest
skip [] = []
skip (rest ∷ stack) = without rest ∷ stack

abbrev join : KnownParts → List Forest → List Forest
join k [] = []
join k (rest ∷ []) = []
join k (rest ∷ below ∷ stack) = with (known_from k) below rest ∷ stack

abbrev build : Part → List Forest → List Forest
build p stack = cond (p.0 == 0) (end ∷ stack) (cond (p.0 == 1) (skip stack) (join p.1 stack))

abbrev build_all : List Part → List Forest → List Forest
build_all [] stack = stack
build_all (p ∷ ps) stack = build_all ps (build p stack)

abbrev top : List Forest → Forest
top [] = end
top (f ∷ stack) = f

abbrev from_parts : List Part → Forest
from_parts ps = top (build_all ps [])

build_forest : (f : Forest) (rest : List Part) (stack : List Forest) → build_all (to_parts f ++ rest) stack ≡ build_all rest (f ∷ stack)
build_forest end rest stack = refl
build_forest (without after) rest stack =
    ap (λ ps. build_all ps stack) (append_assoc (to_parts after) ((1, no_known) ∷ []) rest)
    ∙ build_forest after ((1, no_known) ∷ rest) stack
build_forest (with k below after) rest stack =
    ap (λ ps. build_all ps stack) (append_assoc (to_parts below) (to_parts after ++ (2, known_parts k) ∷ []) rest)
    ∙ build_forest below ((to_parts after ++ (2, known_parts k) ∷ []) ++ rest) stack
    ∙ ap (λ ps. build_all ps (below ∷ stack)) (append_assoc (to_parts after) ((2, known_parts k) ∷ []) rest)
    ∙ build_forest after ((2, known_parts k) ∷ rest) (below ∷ stack)

pub from_parts-to_parts : (f : Forest) → from_parts (to_parts f) ≡ f
from_parts-to_parts f = ap (λ ps. top (build_all ps [])) (sym (append-nil (to_parts f))) ∙ ap top (build_forest f [] [])

abbrev forest_code : Coded Forest
forest_code = code_by (List Part) (coded_list (coded× coded_ℕ known_parts_code)) to_parts from_parts from_parts-to_parts

abbrev early_from : KnownParts × Forest → EarlyView
early_from p = record { values = p.0.0; inputs = p.0.1.0; outputs = p.0.1.1.0; args = p.0.1.1.1.0; outs = p.0.1.1.1.1; children = p.1 }

abbrev pub early_code : Coded EarlyView
early_code = code_by (KnownParts × Forest) (coded× known_parts_code forest_code) (λ e. (known_parts (known_of e), e.children)) early_from (λ _. refl)

-- no child is as large as all of them together, where each weighs one more than its size
pub child_size_bound : (weight : Option EarlyView → ℕ) → weight None ≤ 0 → ((e : EarlyView) → weight (Some e) ≤ early_size e + 1) → (items : List (Option EarlyView)) → max (most weight items) 0 ≤ forest_size (forest_of items)
child_size_bound weight none some [] = omega arith
child_size_bound weight none some (None ∷ rest) = let after = child_size_bound weight none some rest in omega arith
child_size_bound weight none some (Some e ∷ rest) =
    let after = child_size_bound weight none some rest in
    let here = some e in
    omega arith
