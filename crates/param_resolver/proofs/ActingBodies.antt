-- What an actor gives for the lists of a level: one thing where it fires there, else nothing.
use Rattle.std.proofs.Common.{◌≡◌, ℕ, Bool, true, false, cond, not, ℤ, List, [], ◌∷◌, length, None, refl, get_or}
use Rattle.pisdf_model.specs.InterfaceWires.{is_configuration}
use Rattle.pisdf_model.specs.declared.actor.Body.{Body}
use Rattle.pisdf_model.specs.declared.actor.Body.TheVariants.{Kernel, Config, Child, ConfigChild}
use Rattle.pisdf_model.specs.declared.graph.Graph.{Graph}
use Rattle.param_resolver.specs.LevelOf.{acting_args, acting_children, acting_outs, args_of, child_of, in_rates, out_rates}
use Rattle.param_resolver.specs.Tables.{acting_ins}
use Rattle.param_resolver.proofs.Passing.{one}

pub one_place : (b : Bool) (a : ℕ) → length (cond b (a ∷ []) []) ≡ one b
one_place true a = refl
one_place false a = refl

pub one_args : (values : List ℤ) (body : Body) → length (acting_args values body) ≡ one (not (is_configuration body))
one_args values (Kernel kernel args ins outs) = refl
one_args values (Config kernel args ins outs sets) = refl
one_args values (Child k args) = refl
one_args values (ConfigChild k args sets) = refl

pub one_ins : (graphs : List Graph) (values : List ℤ) (body : Body) → length (acting_ins graphs values body) ≡ one (not (is_configuration body))
one_ins graphs values (Kernel kernel args ins outs) = refl
one_ins graphs values (Config kernel args ins outs sets) = refl
one_ins graphs values (Child k args) = refl
one_ins graphs values (ConfigChild k args sets) = refl

pub one_outs : (graphs : List Graph) (values : List ℤ) (body : Body) → length (acting_outs graphs values body) ≡ one (not (is_configuration body))
one_outs graphs values (Kernel kernel args ins outs) = refl
one_outs graphs values (Config kernel args ins outs sets) = refl
one_outs graphs values (Child k args) = refl
one_outs graphs values (ConfigChild k args sets) = refl

pub one_child : (graphs : List Graph) (values : List ℤ) (body : Body) → length (acting_children graphs values body) ≡ one (not (is_configuration body))
one_child graphs values (Kernel kernel args ins outs) = refl
one_child graphs values (Config kernel args ins outs sets) = refl
one_child graphs values (Child k args) = refl
one_child graphs values (ConfigChild k args sets) = refl

pub own_args : (values : List ℤ) (body : Body) → not (is_configuration body) ≡ true → get_or (acting_args values body) 0 [] ≡ args_of values body
own_args values (Kernel kernel args ins outs) acts = refl
own_args values (Config kernel args ins outs sets) acts = absurd cc
own_args values (Child k args) acts = refl
own_args values (ConfigChild k args sets) acts = absurd cc

pub own_ins : (graphs : List Graph) (values : List ℤ) (body : Body) → not (is_configuration body) ≡ true → get_or (acting_ins graphs values body) 0 [] ≡ in_rates graphs values body
own_ins graphs values (Kernel kernel args ins outs) acts = refl
own_ins graphs values (Config kernel args ins outs sets) acts = absurd cc
own_ins graphs values (Child k args) acts = refl
own_ins graphs values (ConfigChild k args sets) acts = absurd cc

pub own_outs : (graphs : List Graph) (values : List ℤ) (body : Body) → not (is_configuration body) ≡ true → get_or (acting_outs graphs values body) 0 [] ≡ out_rates graphs values body
own_outs graphs values (Kernel kernel args ins outs) acts = refl
own_outs graphs values (Config kernel args ins outs sets) acts = absurd cc
own_outs graphs values (Child k args) acts = refl
own_outs graphs values (ConfigChild k args sets) acts = absurd cc

pub own_child : (graphs : List Graph) (values : List ℤ) (body : Body) → not (is_configuration body) ≡ true → get_or (acting_children graphs values body) 0 None ≡ child_of graphs values body
own_child graphs values (Kernel kernel args ins outs) acts = refl
own_child graphs values (Config kernel args ins outs sets) acts = absurd cc
own_child graphs values (Child k args) acts = refl
own_child graphs values (ConfigChild k args sets) acts = absurd cc
