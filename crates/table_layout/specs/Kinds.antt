-- The code's kinds, and their numbers, which are the definition's.
use Rattle.std.specs.Prelude.{ℕ, ◌≡◌, List, [], ◌∷◌, cond, ltb, get_or, Result, Ok, Err}
use Rattle.meaning.specs.declared.refusal.Reason.{Reason}
use Rattle.meaning.specs.declared.refusal.Reason.TheVariants.{UnknownKind}
use Rattle.table_layout.specs.declared.kind.Kind.{Kind}
use Rattle.table_layout.specs.declared.kind.Kind.TheVariants as kind
use Rattle.table_layout.specs.Layout.{kind_numbers}

-- in the order of the kind bytes, from 0
abbrev pub in_order : List Kind
in_order =
    kind.Null
    ∷ kind.Bool
    ∷ kind.Int
    ∷ kind.Uint
    ∷ kind.Double
    ∷ kind.String
    ∷ kind.Bytes
    ∷ kind.Name
    ∷ kind.Unary
    ∷ kind.Binary
    ∷ kind.Conditional
    ∷ kind.Select
    ∷ kind.List
    ∷ kind.Map
    ∷ kind.Mark
    ∷ kind.Comprehension
    ∷ kind.Function
    ∷ []

-- the kind of a kind byte; a mark where there is none
abbrev pub kind_of : ℕ → Kind
kind_of b = get_or in_order b kind.Mark

abbrev pub byte_of : Kind → ℕ
byte_of kind.Null = 0
byte_of kind.Bool = 1
byte_of kind.Int = 2
byte_of kind.Uint = 3
byte_of kind.Double = 4
byte_of kind.String = 5
byte_of kind.Bytes = 6
byte_of kind.Name = 7
byte_of kind.Unary = 8
byte_of kind.Binary = 9
byte_of kind.Conditional = 10
byte_of kind.Select = 11
byte_of kind.List = 12
byte_of kind.Map = 13
byte_of kind.Mark = 14
byte_of kind.Comprehension = 15
byte_of kind.Function = 16

-- what a byte is converted to
abbrev pub Known : ℕ → Result Kind Reason → Type 0
Known b r = r ≡ cond (ltb b kind_numbers) (Ok (kind_of b)) (Err UnknownKind)
