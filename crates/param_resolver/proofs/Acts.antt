-- The actors that fire in a level, one after the other.
use Rattle.std.proofs.Common.{◌≡◌, ℕ, ◌+◌, ◌<◌, ◌≤◌, ℤ, List, [], ◌∷◌, ◌++◌, length, map, take, Option, Result, Ok, Err, IfErr, sym, ap, ◌∙◌, append_assoc, subst, arith, get_or}
use Rattle.std.specs.Result.{IsErrAnd}
use Rattle.param_expr.specs.Tree.{Tree}
use Rattle.param_resolver.specs.Rates.{arg_faults, arg_values}
use Rattle.param_resolver.specs.declared.fault.LevelFault.{LevelFault}
use Rattle.std.specs.List.{flat_map}
use Rattle.std.proofs.lemmas.List.{append-nil, length-take, take_all, take_more}
use Rattle.pisdf_model.specs.Details.{from_number, of_each}
use Rattle.pisdf_model.specs.declared.actor.Actor.{Actor}
use Rattle.pisdf_model.specs.declared.graph.Graph.{Graph}
use Rattle.pisdf_model.proofs.Walking.{Stands, goes_on, is_done}
use Rattle.param_resolver.specs.EarlyCheck.{early_faults}
use Rattle.param_resolver.specs.EarlyView.{EarlyView}
use Rattle.param_resolver.specs.LevelOf.{acting_args, acting_children, acting_faults, acting_outs, level_args, level_children, level_faults, level_outs}
use Rattle.param_resolver.specs.Refusal.{Refusal, StandsFirst, child, level_refusal_of}
use Rattle.param_resolver.specs.Tables.{acting_ins, acting_place, level_ins}
use Rattle.param_resolver.proofs.Configuring.{flat_more}
use Rattle.param_resolver.proofs.Walks.{later_part, stands_among}

-- the first of them have no fault, and this is known of them
pub record Acts (graphs : List Graph) (g : Graph) (values : List ℤ) (i : ℕ) (places : List ℕ) (args : List (List ℤ)) (ins outs : List (List ℕ)) (children : List (Option EarlyView)) : Type 0 where
  pub stands : Stands 0 (λ n (a : Actor). acting_faults graphs values n a.name a.body) i g.actors
  pub places_are : places ≡ of_each (λ n (a : Actor). acting_place n a.body) (take i g.actors)
  pub args_are : args ≡ flat_map (λ (a : Actor). acting_args values a.body) (take i g.actors)
  pub ins_are : ins ≡ flat_map (λ (a : Actor). acting_ins graphs values a.body) (take i g.actors)
  pub outs_are : outs ≡ flat_map (λ (a : Actor). acting_outs graphs values a.body) (take i g.actors)
  pub children_are : children ≡ flat_map (λ (a : Actor). acting_children graphs values a.body) (take i g.actors)

-- one part more, with its number
from_number_more : {X Y : Type 0} (h : ℕ → X → List Y) (n : ℕ) (xs : List X) (x : X) → from_number n h (xs ++ x ∷ []) ≡ from_number n h xs ++ h (n + length xs) x
from_number_more h n [] x = let k : n + 0 ≡ n = omega arith in rw k (append-nil (h n x))
from_number_more h n (y ∷ xs) x =
    let k : n + 1 + length xs ≡ n + length (y ∷ xs) = omega arith in
    ap (λ l. h n y ++ l) (from_number_more h (n + 1) xs x ∙ ap (λ m. from_number (n + 1) h xs ++ h m x) k)
    ∙ sym (append_assoc (h n y) (from_number (n + 1) h xs) (h (n + length (y ∷ xs)) x))

pub each_more : {X Y : Type 0} (h : ℕ → X → List Y) (xs : List X) (i : ℕ) (x : X) (ys : List Y) → i < length xs → x ≡ get_or xs i x → ys ≡ of_each h (take i xs) → ys ++ h i x ≡ of_each h (take (i + 1) xs)
each_more h xs i x ys inside is so_far =
    let long : 0 + length (take i xs) ≡ i = simp length-take (omega arith) in
    ap (λ l. l ++ h i x) so_far
    ∙ ap (λ m. of_each h (take i xs) ++ h m x) (sym long)
    ∙ sym (from_number_more h 0 (take i xs) x)
    ∙ ap (of_each h) (ap (λ z. take i xs ++ z ∷ []) is ∙ sym (take_more xs i x inside))

module _ (graphs : List Graph) (g : Graph) (values : List ℤ) (i : ℕ) (places : List ℕ) (args : List (List ℤ)) (ins outs : List (List ℕ)) (children : List (Option EarlyView)) (so_far : Acts graphs g values i places args ins outs children) where
  abbrev Faults : ℕ → Actor → List Refusal
  Faults n a = acting_faults graphs values n a.name a.body

  pub acts_more : (a : Actor) → i < length g.actors → a ≡ get_or g.actors i a → Faults i a ≡ []
      → Acts graphs g values (i + 1) (places ++ acting_place i a.body) (args ++ acting_args values a.body) (ins ++ acting_ins graphs values a.body) (outs ++ acting_outs graphs values a.body) (children ++ acting_children graphs values a.body)
  acts_more a inside is none = record {
    stands = let at_i : 0 + i ≡ i = omega arith in goes_on 0 Faults i g.actors a inside is (rw at_i none) so_far.stands;
    places_are = each_more (λ n (b : Actor). acting_place n b.body) g.actors i a places inside is so_far.places_are;
    args_are = flat_more (λ (b : Actor). acting_args values b.body) g.actors i a args inside is so_far.args_are;
    ins_are = flat_more (λ (b : Actor). acting_ins graphs values b.body) g.actors i a ins inside is so_far.ins_are;
    outs_are = flat_more (λ (b : Actor). acting_outs graphs values b.body) g.actors i a outs inside is so_far.outs_are;
    children_are = flat_more (λ (b : Actor). acting_children graphs values b.body) g.actors i a children inside is so_far.children_are;
  }

  -- all of them have acted
  module _ (whole : length g.actors ≤ i) where
    pub whole_places : places ≡ of_each (λ n (a : Actor). acting_place n a.body) g.actors
    whole_places = so_far.places_are ∙ ap (of_each (λ n (a : Actor). acting_place n a.body)) (take_all i g.actors whole)

    pub whole_args : args ≡ level_args g values
    whole_args = so_far.args_are ∙ ap (flat_map (λ (a : Actor). acting_args values a.body)) (take_all i g.actors whole)

    pub whole_ins : ins ≡ level_ins graphs g values
    whole_ins = so_far.ins_are ∙ ap (flat_map (λ (a : Actor). acting_ins graphs values a.body)) (take_all i g.actors whole)

    pub whole_outs : outs ≡ level_outs graphs g values
    whole_outs = so_far.outs_are ∙ ap (flat_map (λ (a : Actor). acting_outs graphs values a.body)) (take_all i g.actors whole)

    pub whole_children : children ≡ level_children graphs g values
    whole_children = so_far.children_are ∙ ap (flat_map (λ (a : Actor). acting_children graphs values a.body)) (take_all i g.actors whole)

    pub whole_sound : level_faults graphs g values ≡ []
    whole_sound = is_done 0 Faults i g.actors whole so_far.stands

  pub acts_fault : (a : Actor) (r : Option Refusal) → i < length g.actors → a ≡ get_or g.actors i a → StandsFirst (Faults i a) r → StandsFirst (level_faults graphs g values) r
  acts_fault a r inside is here = stands_among Faults i g.actors a r inside is here so_far.stands

-- ---- faults that are passed on

pub passed_level : {T : Type 0} (result : Result T LevelFault) (fault : LevelFault) (faults : List Refusal) → IsErrAnd result (λ e. e ≡ fault) → StandsFirst faults (level_refusal_of fault) → IfErr result (λ f. StandsFirst faults (level_refusal_of f))
passed_level (Ok v) fault faults is stands = absurd is
passed_level (Err e) fault faults is stands = rw is stands

module _ (graphs : List Graph) (values : List ℤ) (a : ℕ) (actor : List ℕ) (k : ℕ) (args : List Tree) (inherited : List ℤ) (args_none : arg_faults values actor args ≡ []) (inherited_are : inherited ≡ arg_values values args) where
  pub child_fails : (r : Option Refusal) → StandsFirst (map (child a) (early_faults graphs k inherited)) r → StandsFirst (arg_faults values actor args ++ map (child a) (early_faults graphs k (arg_values values args))) r
  child_fails r stands = later_part (arg_faults values actor args) _ r args_none (subst (λ v. StandsFirst (map (child a) (early_faults graphs k v)) r) inherited_are stands)
