-- What a cache does to its entries, seen as keys with values.
use Rattle.std.proofs.Common.{◌≡◌, suc, ◌+◌, ◌-◌, ◌≤◌, Bool, true, false, cond, ◌&&◌, List, [], ◌∷◌, map, length, take, Option, Some, None, refl, ap, sym, ◌∙◌, arith}
use Rattle.std.specs.Option.{option_map, option_map_or}
use Rattle.std.specs.Map.{lookup, lookup_entry, remove_entry}
use Rattle.std.specs.Arc.{arc_value}
use Rattle.std.specs.declared.sync.Arc.{Arc}
use Rattle.std.specs.Cmp.Rules.{signed_items}
use Rattle.std.proofs.lemmas.Bool.{eqb-true}
use Rattle.std.proofs.lemmas.List.{take_all, length-take, take-map}
use Rattle.lru.specs.LruCache.{LruCache, promoted, put_entries}
use Rattle.lru.proofs.CallerLemmas.{Contains-lookup_entry}
use Rattle.job_compiler.specs.declared.key.Key.{Key}
use Rattle.job_compiler.specs.Keys.{is_key}
use Rattle.job_compiler.specs.Entries.{values_kept, kept_limit}

both-left : (a b : Bool) → (a && b) ≡ true → a ≡ true
both-left true b h = refl
both-left false b h = absurd (cc)

both-right : (a b : Bool) → (a && b) ≡ true → b ≡ true
both-right true b h = h
both-right false b h = absurd (cc)

-- keys that the test finds alike are one key
pub same_key : (k j : Key) → is_key k j ≡ true → k ≡ j
same_key k j h =
    let rest = both-right _ _ h in
    let graph : k.graph ≡ j.graph = eqb-true k.graph j.graph (both-left _ _ h) in
    let workers : k.workers ≡ j.workers = eqb-true k.workers j.workers (both-left _ _ rest) in
    let values : k.values ≡ j.values = (signed_items k.values j.values).0 (both-right _ _ rest) in
    λ i. record { graph = graph i; workers = workers i; values = values i }

module _ {K X Y : Type 0} (f : X → Y) (test : K → Bool) where
  abbrev valued : K × X → K × Y
  valued e = (e.0, f e.1)

  pub lookup-valued : (es : List (K × X)) → lookup test (map valued es) ≡ option_map f (lookup test es)
  lookup-valued [] = refl
  lookup-valued (e ∷ es) = elim (test e.0) as (λ b. cond b (Some (f e.1)) (lookup test (map valued es)) ≡ option_map f (cond b (Some e.1) (lookup test es))) [ true ↦ refl | false ↦ lookup-valued es ]

  lookup_entry-valued : (es : List (K × X)) → lookup_entry test (map valued es) ≡ option_map valued (lookup_entry test es)
  lookup_entry-valued [] = refl
  lookup_entry-valued (e ∷ es) = elim (test e.0) as (λ b. cond b (Some (valued e)) (lookup_entry test (map valued es)) ≡ option_map valued (cond b (Some e) (lookup_entry test es))) [ true ↦ refl | false ↦ lookup_entry-valued es ]

  pub remove_entry-valued : (es : List (K × X)) → remove_entry test (map valued es) ≡ map valued (remove_entry test es)
  remove_entry-valued [] = refl
  remove_entry-valued (e ∷ es) = elim (test e.0) as (λ b. cond b (map valued es) (valued e ∷ remove_entry test (map valued es)) ≡ map valued (cond b es (e ∷ remove_entry test es))) [ true ↦ refl | false ↦ ap (λ (rest : List (K × Y)). valued e ∷ rest) (remove_entry-valued es) ]

  pub promoted-valued : (es : List (K × X)) → promoted test (map valued es) ≡ map valued (promoted test es)
  promoted-valued es = rw (lookup_entry-valued es, remove_entry-valued es) (
      elim (lookup_entry test es) as (λ o. option_map_or (λ e. e ∷ map valued (remove_entry test es)) (option_map valued o) (map valued es) ≡ map valued (option_map_or (λ e. e ∷ remove_entry test es) o es)) [ None ↦ refl | Some e ↦ refl ])

module _ {K X : Type 0} (test : K → Bool) where
  -- an entry that is found goes, and only then
  length-remove_entry : (es : List (K × X)) → length (remove_entry test es) + option_map_or (λ e. 1) (lookup_entry test es) 0 ≡ length es
  length-remove_entry [] = refl
  length-remove_entry (e ∷ es) = elim (test e.0) as (λ b. length (cond b es (e ∷ remove_entry test es)) + option_map_or (λ e. 1) (cond b (Some e) (lookup_entry test es)) 0 ≡ suc (length es)) [ true ↦ omega arith | false ↦ let rest = length-remove_entry es in omega arith ]

  none_removed : (es : List (K × X)) → lookup_entry test es ≡ None → remove_entry test es ≡ es
  none_removed [] none = refl
  none_removed (e ∷ es) none = (elim (test e.0) as (λ b. cond b (Some e) (lookup_entry test es) ≡ None → cond b es (e ∷ remove_entry test es) ≡ e ∷ es) [
    | true ↦ λ h. absurd (cc)
    | false ↦ λ h. ap (λ (rest : List (K × X)). e ∷ rest) (none_removed es h)
  ]) none

  pub length-promoted : (es : List (K × X)) → length (promoted test es) ≡ length es
  length-promoted es = (elim (lookup_entry test es) as (λ o. length (remove_entry test es) + option_map_or (λ e. 1) o 0 ≡ length es → length (option_map_or (λ e. e ∷ remove_entry test es) o es) ≡ length es) [
    | None ↦ λ h. refl
    | Some e ↦ λ h. omega arith
  ]) (length-remove_entry es)

module _ {T Z : Type 0} (c : LruCache Key (Arc T Z)) (k : Key) (v : Arc T Z) (room : c.cap ≡ kept_limit) (within : length c.entries ≤ kept_limit) where
  abbrev es : List (Key × Arc T Z)
  es = c.entries

  abbrev after : Option (Key × Arc T Z) → List (Key × Arc T Z)
  after o = option_map_or (λ e. (e.0, v) ∷ remove_entry (is_key k) es) o ((k, v) ∷ take (c.cap - 1) es)

  -- the new entry first, then the others, at most the limit in all
  after_put : (o : Option (Key × Arc T Z)) → lookup_entry (is_key k) es ≡ o → after o ≡ take kept_limit ((k, v) ∷ remove_entry (is_key k) es)
  after_put None none =
      let kept = none_removed (is_key k) es none in
      rw (kept, room) refl
  after_put (Some e) some =
      let own : k ≡ e.0 = same_key k e.0 (Contains-lookup_entry (is_key k) es e some).1 in
      let fewer : length (remove_entry (is_key k) es) + option_map_or (λ f. 1) (Some e) 0 ≡ length es = rw some at (length-remove_entry (is_key k) es) in
      let whole = take_all kept_limit ((k, v) ∷ remove_entry (is_key k) es) (omega arith) in
      rw (← own) (sym whole)

  pub put-values : values_kept (put_entries is_key c k v) ≡ take kept_limit ((k, arc_value v) ∷ remove_entry (is_key k) (values_kept es))
  put-values =
      ap (λ (list : List (Key × Arc T Z)). values_kept list) (after_put (lookup_entry (is_key k) es) refl)
      ∙ sym (take-map (λ (e : Key × Arc T Z). (e.0, arc_value e.1)) kept_limit ((k, v) ∷ remove_entry (is_key k) es))
      ∙ ap (λ (rest : List (Key × T)). take kept_limit ((k, arc_value v) ∷ rest)) (sym (remove_entry-valued arc_value (is_key k) es))

  pub length-put : length (put_entries is_key c k v) ≤ kept_limit
  length-put =
      let is = ap length (after_put (lookup_entry (is_key k) es) refl) in
      let short = length-take kept_limit ((k, v) ∷ remove_entry (is_key k) es) in
      omega arith
