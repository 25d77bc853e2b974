-- The names of a list that a set has seen.
use Rattle.std.proofs.Common.{◌≡◌, ℕ, ◌+◌, ◌<◌, ◌==◌, ◌&&◌, ◌||◌, Bool, true, false, not, cond, List, [], ◌∷◌, ◌++◌, length, take, get_or, refl, sym, ap, ◌∙◌, Bor, rules}
use Rattle.std.specs.BTreeSet as sorted
use Rattle.std.specs.BTreeSet.{BTreeSet}
use Rattle.std.specs.Cmp.Lexicographic.{slice_cmp}
use Rattle.std.specs.List.{list_any}
use Rattle.std.specs.Ordering.{is_eq, nat_cmp, ordering_then}
use Rattle.std.specs.declared.cmp.Ordering.{Ordering}
use Rattle.std.specs.declared.cmp.Ordering.TheVariants.{Less, Equal, Greater}
use Rattle.std.specs.Str.{bytes_eq}
use Rattle.std.proofs.lemmas.Bool.Decides.{nat_tests}
use Rattle.std.proofs.lemmas.List.{take_more}
use Rattle.std.proofs.lemmas.List.Folds.{list_any-append}
use Rattle.std.proofs.lemmas.Map.Text.{is_eq-slice_cmp}
use Rattle.pisdf_model.specs.Names.{same_scope, is_among}
use Rattle.pisdf_model.specs.contracts.names.ScopeOrd.TheImpl as block
use Rattle.pisdf_model.specs.declared.names.Scope.{Scope}
use Rattle.pisdf_model.specs.declared.names.Scope.TheVariants as scope
use Rattle.pisdf_model.specs.declared.names.ScopedName.{ScopedName}

pub is_eq_then : (o p : Ordering) → is_eq (ordering_then o p) ≡ (is_eq o && is_eq p)
is_eq_then Less p = refl
is_eq_then Equal p = refl
is_eq_then Greater p = refl

pub same_numbers : (x y : ℕ) → is_eq (nat_cmp x y) ≡ (x == y)
same_numbers x y = search (rules, nat_tests)

same_scopes : (s t : Scope) → is_eq (block.ghosts.cmp s t) ≡ same_scope s t
same_scopes scope.Graphs scope.Graphs = refl
same_scopes scope.Graphs (scope.Parts h) = refl
same_scopes scope.Graphs (scope.Ports h b) = refl
same_scopes (scope.Parts g) scope.Graphs = refl
same_scopes (scope.Parts g) (scope.Parts h) = same_numbers g h
same_scopes (scope.Parts g) (scope.Ports h b) = refl
same_scopes (scope.Ports g a) scope.Graphs = refl
same_scopes (scope.Ports g a) (scope.Parts h) = refl
same_scopes (scope.Ports g a) (scope.Ports h b) = is_eq_then (nat_cmp g h) (nat_cmp a b) ∙ rw (same_numbers g h, same_numbers a b) refl

abbrev pub Key : Type 0
Key = Scope × Bor (List ℕ)

abbrev pub key_cmp : Key → Key → Ordering
key_cmp x y = ordering_then (block.ghosts.cmp x.0 y.0) (slice_cmp nat_cmp x.1.now y.1.now)

same_keys : (x y : Key) → is_eq (key_cmp x y) ≡ (same_scope x.0 y.0 && bytes_eq x.1.now y.1.now)
same_keys x y =
    is_eq_then (block.ghosts.cmp x.0 y.0) (slice_cmp nat_cmp x.1.now y.1.now)
    ∙ ap (λ b. b && is_eq (slice_cmp nat_cmp x.1.now y.1.now)) (same_scopes x.0 y.0)
    ∙ ap (λ b. same_scope x.0 y.0 && b) (is_eq-slice_cmp x.1.now y.1.now)

-- the set has exactly these names
abbrev pub Seen : BTreeSet Key → List ScopedName → Type 0
Seen seen names = (q : Key) → sorted.contains key_cmp seen q ≡ is_among names q.0 q.1.now

one_more : (b c : Bool) → cond b true c ≡ (c || (b || false))
one_more true true = refl
one_more true false = refl
one_more false true = refl
one_more false false = refl

module _ (names : List ScopedName) (i : ℕ) (name : ScopedName) (inside : i < length names) (is : name ≡ get_or names i name) (seen : BTreeSet Key) (text : Bor (List ℕ)) (told : text.now ≡ name.name) (so_far : Seen seen (take i names)) where
  among : sorted.contains key_cmp seen (name.scope, text) ≡ is_among (take i names) name.scope name.name
  among = so_far (name.scope, text) ∙ ap (is_among (take i names) name.scope) told

  pub is_new : (added : Bool) → added ≡ not (sorted.contains key_cmp seen (name.scope, text)) → not (is_among (take i names) name.scope name.name) ≡ added
  is_new added was = ap not (sym among) ∙ sym was

  pub seen_more : (new : BTreeSet Key) → ((q : Key) → sorted.contains key_cmp new q ≡ cond (is_eq (key_cmp (name.scope, text) q)) true (sorted.contains key_cmp seen q)) → Seen new (take (i + 1) names)
  seen_more new updates q =
      let test : ScopedName → Bool = λ other. same_scope other.scope q.0 && bytes_eq other.name q.1.now in
      let here : is_eq (key_cmp (name.scope, text) q) ≡ test name = same_keys (name.scope, text) q ∙ ap (λ bytes. same_scope name.scope q.0 && bytes_eq bytes q.1.now) told in
      let split : list_any test (take (i + 1) names) ≡ (list_any test (take i names) || (test name || false)) = ap (list_any test) (take_more names i name inside ∙ ap (λ x. take i names ++ x ∷ []) (sym is)) ∙ list_any-append test (take i names) (name ∷ []) in
      updates q
      ∙ ap (λ b. cond b true (sorted.contains key_cmp seen q)) here
      ∙ ap (λ c. cond (test name) true c) (so_far q)
      ∙ one_more (test name) (list_any test (take i names))
      ∙ sym split
