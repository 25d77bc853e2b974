-- The value of an expression over whole numbers without a limit, and its first fault.
use Rattle.std.specs.Prelude.{ℕ, ◌^◌, ◌-◌, ◌<◌, ◌&&◌, ◌||◌, ℤ, pos, negsuc, ◌+ℤ◌, ◌-ℤ◌, ◌*ℤ◌, int_lt, int_le, int_div, int_rem, List, slice_index_or, Bool, if◌then◌else◌, Option, Some, None, Result, Ok, Err}
use Rattle.std.specs.Int.{int_min, int_max}
use Rattle.param_expr.specs.declared.op.Op.{Op}
use Rattle.param_expr.specs.declared.op.Op.TheVariants.{Add, Sub, Mul, Div, Rem, Min, Max}
use Rattle.param_expr.specs.declared.evaluation.EvalFault.{EvalFault}
use Rattle.param_expr.specs.declared.evaluation.EvalFault.TheVariants.{Overflow, Division}
use Rattle.param_expr.specs.Tree.{Tree, number, param, binary}

-- the operation on whole numbers
abbrev pub applied : Op → ℤ → ℤ → ℤ
applied Add a b = a +ℤ b
applied Sub a b = a -ℤ b
applied Mul a b = a *ℤ b
applied Div a b = int_div a b
applied Rem a b = int_rem a b
applied Min a b = int_min a b
applied Max a b = int_max a b

-- the value, where each parameter has the value at its place
abbrev pub value_of : List ℤ → Tree → ℤ
value_of values (number n) = n
value_of values (param i) = slice_index_or values i (pos 0)
value_of values (binary op a b) = applied op (value_of values a) (value_of values b)

abbrev pub in_i64 : ℤ → Bool
in_i64 z = int_le (negsuc (2 ^ 63 - 1)) z && int_lt z (pos (2 ^ 63))

-- a value outside i64 is an overflow
abbrev pub overflow_of : ℤ → Option EvalFault
overflow_of z = if in_i64 z then None else Some Overflow

-- a dividend is at least 0, and a divisor at least 1
abbrev pub division_of : ℤ → ℤ → Option EvalFault
division_of a b = if int_lt a (pos 0) || int_lt b (pos 1) then Some Division else None

-- the first of two faults
abbrev pub first_of : Option EvalFault → Option EvalFault → Option EvalFault
first_of None second = second
first_of (Some fault) second = Some fault

-- the fault of an operation itself
abbrev pub own_fault : Op → ℤ → ℤ → Option EvalFault
own_fault Div a b = first_of (division_of a b) (overflow_of (int_div a b))
own_fault Rem a b = first_of (division_of a b) (overflow_of (int_rem a b))
own_fault Add a b = overflow_of (a +ℤ b)
own_fault Sub a b = overflow_of (a -ℤ b)
own_fault Mul a b = overflow_of (a *ℤ b)
own_fault Min a b = overflow_of (int_min a b)
own_fault Max a b = overflow_of (int_max a b)

-- the left part's fault before the right part's, and both before the own one
abbrev pub fault_of : List ℤ → Tree → Option EvalFault
fault_of values (number n) = overflow_of n
fault_of values (param i) = overflow_of (slice_index_or values i (pos 0))
fault_of values (binary op a b) = first_of (fault_of values a) (first_of (fault_of values b) (own_fault op (value_of values a) (value_of values b)))

-- a value, unless there is a fault
abbrev pub unless_fault : Option EvalFault → ℤ → Result ℤ EvalFault
unless_fault None value = Ok value
unless_fault (Some fault) value = Err fault

-- what an expression evaluates to
abbrev pub eval_of : List ℤ → Tree → Result ℤ EvalFault
eval_of values tree = unless_fault (fault_of values tree) (value_of values tree)

-- each parameter is below n
abbrev pub RefersBelow : ℕ → Tree → Type 0
RefersBelow n (number z) = Unit {0}
RefersBelow n (param i) = i < n
RefersBelow n (binary op a b) = RefersBelow n a × RefersBelow n b
