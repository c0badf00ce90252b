-- The ways that code finds, and those of the definition.
use Rattle.std.specs.Prelude.{List, [], ◌∷◌, map, reverse, flat_map, Option, Some, None}
use Rattle.prove_facts.specs.model_prove.specs.Sets.{Set}
use Rattle.prove_facts.specs.model_prove.specs.Digits.{Operation, Plus, Minus, Flags, all_flags, Digits, arcs, digits_to}
use Rattle.prove_facts.specs.model_prove.specs.Digits as model
use Rattle.prove_facts.specs.model_prove.specs.Steps.{pairs_of}
use Rattle.prove_facts.specs.Sets.{set_of}
use Rattle.prove_facts.specs.declared.values.Values.{Values}
use Rattle.prove_digits.specs.declared.digits.Digit.{Digit}
use Rattle.prove_digits.specs.declared.digits.Digit.TheVariants.{Add, Sub, And, Or, Xor, Not, First, Zero}
use Rattle.prove_digits.specs.declared.digits.Way.{Way}

-- the operation that a digit stands for, if the definition has one
abbrev pub operation_of : Digit → Option Operation
operation_of Add = Some Plus
operation_of Sub = Some Minus
operation_of And = Some model.And
operation_of Or = Some model.Or
operation_of Xor = Some model.Xor
operation_of Not = None
operation_of First = None
operation_of Zero = None

-- that operation, if it is bit by bit
abbrev pub bitwise_of : Digit → Option Operation
bitwise_of Add = None
bitwise_of Sub = None
bitwise_of And = Some model.And
bitwise_of Or = Some model.Or
bitwise_of Xor = Some model.Xor
bitwise_of Not = None
bitwise_of First = None
bitwise_of Zero = None

-- the sets of two numbers byte by byte, the highest first
abbrev pub value_pairs : List Values → List Values → List (Set × Set)
value_pairs xs ys = pairs_of (map set_of xs) (map set_of ys)

-- digits byte by byte: values of the first number, of the second, and of the result
abbrev pub digits_of : List Values → List Values → List Values → List Digits
digits_of [] ys rs = []
digits_of (x ∷ xs) [] rs = []
digits_of (x ∷ xs) (y ∷ ys) [] = []
digits_of (x ∷ xs) (y ∷ ys) (r ∷ rs) = record { a = set_of x; b = set_of y; r = set_of r } ∷ digits_of xs ys rs

-- the flags of a way, and its digits, the highest first
abbrev pub way_value : Way → Flags × List Digits
way_value w = (record { c = w.c; z = w.z }, digits_of w.x.items w.y.items w.r.items)

-- flags with the digits that lead to them, the highest first, if some lead there
abbrev pub way_if : Flags → Option (List Digits) → List (Flags × List Digits)
way_if f None = []
way_if f (Some ds) = (f, reverse ds) ∷ []

-- the ways of the definition through pairs of sets, the highest byte first
abbrev pub ways_found : Operation → List (Set × Set) → List (Flags × List Digits)
ways_found op ps = flat_map (λ f. way_if f (digits_to f (map (arcs op) (reverse ps)))) all_flags
